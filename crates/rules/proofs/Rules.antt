-- The laws of what a call may do with an element. Assumes nothing.
use mathlib.Core.Path.{◌≡◌, refl, sym, ap, ap₂, ◌∙◌}
use mathlib.Core.Logic.{◌⊎◌, inl, inr}
use mathlib.Core.Bool.{Bool, true, false, not, ◌&&◌, ◌||◌, false≢true}
use mathlib.Core.List.{List}
use Prim.Native.Nat.{ℕ, ◌≤◌, ◌<◌}
use native.Mathlib.Omega.{arith}
use lib.Dec.{leb}
use borrow.Author.Tests.{leb-true, lt-leb, ne_eqb, eqb-true, not-true}
use Rattle.elements.specs.declared.Access.TheVariants.{ReadWrite}
use Rattle.elements.specs.declared.Entry.{Entry}
use Rattle.elements.specs.declared.Offer.{Offer}
use Rattle.elements.specs.declared.Source.TheVariants.{Stored}
use Rattle.elements.specs.declared.Kind.{Kind}
use Rattle.elements.specs.declared.Kind.TheVariants.{Unlisted, Nop, Listed}
use Rattle.elements.specs.declared.Scope.{Scope}
use Rattle.elements.specs.declared.Scope.TheVariants.{Guest, Thread}
use Rattle.rules.specs.declared.Usage.{Usage}
use Rattle.rules.specs.declared.Usage.TheVariants.{GuestGet, GuestSet, ThreadGet, ThreadSet, RunInput, Effect}
use Rattle.rules.specs.declared.Context.{Context}
use Rattle.elements.specs.Table.{table, below, position, source_of, find, same_scope, is_stored, kind_of}
use Rattle.elements.specs.Later.{offers}
use Rattle.elements.proofs.Table.{T_true, entry_rule, thread_stored}
use Rattle.elements.specs.Private.{thread_kind}
use Rattle.rules.specs.Private.{of_thread}
use Rattle.rules.specs.Rules.{between, writable, scope_for, allows, permits, size_fits, is_setting, rule_of, good_value}

pub or_false : (t : Bool) → t || false ≡ t
or_false true = refl
or_false false = refl

pub or_true : (t : Bool) → t || true ≡ true
or_true true = refl
or_true false = refl

-- ---- a range

pub and_left : (t u : Bool) → t && u ≡ true → t ≡ true
and_left true u e = refl
and_left false u e = e

pub and_right : (t u : Bool) → t && u ≡ true → u ≡ true
and_right true u e = e
and_right false u e = absurd (false≢true e)

pub between_low : (low high n : ℕ) → between low high n ≡ true → low ≤ n
between_low low high n e = leb-true low n (and_left (leb low n) (leb n high) e)

pub between_high : (low high n : ℕ) → between low high n ≡ true → n ≤ high
between_high low high n e = leb-true n high (and_right (leb low n) (leb n high) e)

-- ---- the size

pub size_listed : (x : Entry) (n : ℕ) → size_fits (Listed x) n ≡ true → n ≡ x.size
unfolding size_fits
size_listed x n e = eqb-true n x.size e

pub size_fits_lem : (id : ℕ) (x : Entry) (n : ℕ) → kind_of id ≡ Listed x → size_fits (kind_of id) n ≡ true → n ≡ x.size
size_fits_lem id x n e f = size_listed x n (ap (λ (k : Kind). size_fits k n) (sym e) ∙ f)

-- of an ID that is known, whose entry is computed where the law is cited
pub size_at_lem : (i : ℕ) (x : Entry) → kind_of i ≡ Listed x → (id n : ℕ) → id ≡ i → size_fits (kind_of id) n ≡ true → n ≡ x.size
size_at_lem i x e id n q f = size_fits_lem id x n (ap kind_of q ∙ e) f

-- ---- the value

pub rule_none : (c id : ℕ) (b : List ℕ) (at : ℕ) → (id ≡ 0x0003 → ⊥) → (id ≡ 0x0C00 → ⊥) → (id ≡ 0x0C01 → ⊥)
    → rule_of c id b at ≡ true
unfolding rule_of
rule_none c id b at p q r = simp (ne_eqb _ _ p, ne_eqb _ _ q, ne_eqb _ _ r)

pub value_ruled : (k : Context) (id : ℕ) (b : List ℕ) (at : ℕ) → rule_of k.capabilities id b at ≡ true
    → good_value k id b at ≡ true
unfolding good_value
value_ruled k id b at e = rw (e, or_true)

pub value_register : (k : Context) (id : ℕ) (b : List ℕ) (at : ℕ) → 0x1000 ≤ id → good_value k id b at ≡ true
value_register k id b at h =
    value_ruled k id b at (rule_none k.capabilities id b at (λ e. omega arith) (λ e. omega arith) (λ e. omega arith))

pub value_get : (k : Context) (id : ℕ) (b : List ℕ) (at : ℕ) → is_setting k.usage ≡ false → good_value k id b at ≡ true
unfolding good_value
value_get k id b at e = rw e

pub value_set : (k : Context) (id : ℕ) (b : List ℕ) (at : ℕ) → is_setting k.usage ≡ true
    → good_value k id b at ≡ rule_of k.capabilities id b at
unfolding good_value
value_set k id b at e = rw e

-- ---- what is permitted

-- the NOP, or a listed element that the use allows
pub permits_cases : (k : Context) (id : ℕ) (kind : Kind) → permits k id kind ≡ true
    → (kind ≡ Nop) ⊎ ((x : Entry) × (kind ≡ Listed x) × (allows k.usage id x ≡ true))
unfolding permits
permits_cases k id Unlisted e = absurd (false≢true e)
permits_cases k id Nop e = inl refl
permits_cases k id (Listed x) e = inr (x, refl, and_left _ _ e)

pub permits_listed : (k : Context) (id : ℕ) (x : Entry) → permits k id (Listed x) ≡ true → allows k.usage id x ≡ true
unfolding permits
permits_listed k id x e = and_left _ _ e

pub permits_offered : (k : Context) (id : ℕ) (x : Entry) → permits k id (Listed x) ≡ true → offers k.offer id ≡ true
unfolding permits
permits_offered k id x e = and_right (allows k.usage id x) _ e

same_scope_lem : (s t : Scope) → same_scope s t ≡ true → t ≡ s
same_scope_lem Guest Guest e = refl
same_scope_lem Guest Thread e = absurd (false≢true e)
same_scope_lem Thread Guest e = absurd (false≢true e)
same_scope_lem Thread Thread e = refl

pub allows_scope : (u : Usage) (id : ℕ) (x : Entry) → allows u id x ≡ true → x.scope ≡ scope_for u
unfolding allows
allows_scope GuestGet id x e = same_scope_lem Guest x.scope (and_left _ _ e)
allows_scope GuestSet id x e = same_scope_lem Guest x.scope (and_left _ _ e)
allows_scope ThreadGet id x e = same_scope_lem Thread x.scope (and_left _ _ e)
allows_scope ThreadSet id x e = same_scope_lem Thread x.scope (and_left _ _ e)
allows_scope RunInput id x e = same_scope_lem Thread x.scope (and_left _ _ (and_left _ _ e))
allows_scope Effect id x e = same_scope_lem Thread x.scope (and_left _ _ e)

pub permits_scope : (k : Context) (id : ℕ) (x : Entry) → permits k id (Listed x) ≡ true → x.scope ≡ scope_for k.usage
permits_scope k id x e = allows_scope k.usage id x (permits_listed k id x e)

-- what a run input takes, a thread set takes by the same list
pub run_as_set : (k l : Context) (id : ℕ) (kind : Kind) → k.usage ≡ RunInput → l.usage ≡ ThreadSet → l.offer ≡ k.offer
    → permits k id kind ≡ true → permits l id kind ≡ true
unfolding permits allows
run_as_set k l id Unlisted p q o e = e
run_as_set k l id Nop p q o e = refl
run_as_set k l id (Listed x) p q o e =
    ap₂ ◌&&◌
    (ap (λ (u : Usage). allows u id x) q ∙ and_left _ _ (ap (λ (u : Usage). allows u id x) (sym p) ∙ and_left _ _ e))
    (ap (λ (f : Offer). offers f id) o ∙ and_right (allows k.usage id x) _ e)

-- but not the two run buffers; and an effect takes none of the three that come before the registers
pub run_not_buffer : (id : ℕ) (x : Entry) → allows RunInput id x ≡ true → between 0x0C00 0x0C01 id ≡ false
unfolding allows
run_not_buffer id x e = not-true _ (and_right (same_scope Thread x.scope && writable x.access) _ e)

pub effect_not_buffer : (id : ℕ) (x : Entry) → allows Effect id x ≡ true → between 0x0C00 0x0C02 id ≡ false
unfolding allows
effect_not_buffer id x e = not-true _ (and_right (same_scope Thread x.scope) _ e)

-- what can be written is stored
writable_stored : (id : ℕ) (x : Entry) → kind_of id ≡ Listed x → writable x.access ≡ true → is_stored id ≡ true
unfolding kind_of find table source_of position below
writable_stored id x e w =
    T_true (is_stored id) (rw w at (entry_rule (λ (i : ℕ) (y : Entry). not (writable y.access) || is_stored i) tt id x e))

pub setting_stored : (u : Usage) (id : ℕ) (x : Entry) → kind_of id ≡ Listed x → is_setting u ≡ true → allows u id x ≡ true
    → is_stored id ≡ true
unfolding allows
setting_stored GuestGet id x e s a = absurd (false≢true s)
setting_stored GuestSet id x e s a = writable_stored id x e (and_right (same_scope Guest x.scope) _ a)
setting_stored ThreadGet id x e s a = absurd (false≢true s)
setting_stored ThreadSet id x e s a = thread_stored id x e (allows_scope ThreadSet id x a)
setting_stored RunInput id x e s a = thread_stored id x e (allows_scope RunInput id x a)
setting_stored Effect id x e s a = thread_stored id x e (allows_scope Effect id x a)

-- ---- a run input and an effect hold no element with a value rule

abbrev context : Usage → ℕ → Offer → Context
context u c o = record { usage = u; capabilities = c; offer = o }

-- an ID that the use never permits
abbrev Barred : Usage → ℕ → Type 0
Barred u i = (c : ℕ) (o : Offer) → permits (context u c o) i (kind_of i) ≡ false

barred : (u : Usage) (i : ℕ) → Barred u i → (k : Context) (id : ℕ) → k.usage ≡ u → permits k id (kind_of id) ≡ true → id ≡ i → ⊥
barred u i f k id p e q =
    false≢true
    (sym (f k.capabilities k.offer)
    ∙ ap (λ (v : Usage). permits (context v k.capabilities k.offer) i (kind_of i)) (sym p)
    ∙ ap (λ (j : ℕ). permits k j (kind_of j)) (sym q)
    ∙ e)

unruled : (u : Usage) → Barred u 0x0003 → Barred u 0x0C00 → Barred u 0x0C01 → (k : Context) (id : ℕ) (b : List ℕ) (at : ℕ)
    → k.usage ≡ u → permits k id (kind_of id) ≡ true → good_value k id b at ≡ true
unruled u f g h k id b at p e =
    value_ruled k id b at
    (rule_none k.capabilities id b at (barred u 0x0003 f k id p e) (barred u 0x0C00 g k id p e) (barred u 0x0C01 h k id p e))

pub value_run : (k : Context) (id : ℕ) (b : List ℕ) (at : ℕ) → k.usage ≡ RunInput → permits k id (kind_of id) ≡ true
    → good_value k id b at ≡ true
unfolding permits allows kind_of find table source_of position below
value_run k id b at p e = unruled RunInput (λ c o. refl) (λ c o. refl) (λ c o. refl) k id b at p e

pub value_effect : (k : Context) (id : ℕ) (b : List ℕ) (at : ℕ) → k.usage ≡ Effect → permits k id (kind_of id) ≡ true
    → good_value k id b at ≡ true
unfolding permits allows kind_of find table source_of position below
value_effect k id b at p e = unruled Effect (λ c o. refl) (λ c o. refl) (λ c o. refl) k id b at p e

-- ---- what every use of a vCPU permits

and_false : (t : Bool) → t && false ≡ false
and_false true = refl
and_false false = refl

beyond : (low high id : ℕ) → high < id → not (between low high id) ≡ true
beyond low high id h = simp (lt-leb _ _ h, and_false)

pub permits_register : (k : Context) (id n p : ℕ) → true ≡ of_thread k.usage → 0x1000 ≤ id → offers k.offer id ≡ true
    → permits k id (thread_kind n ReadWrite p) ≡ true
unfolding permits allows
permits_register k id n p t h o = ap₂ ◌&&◌ (go k.usage t) o
  where
    go : (u : Usage) → true ≡ of_thread u
        → allows u id (record { size = n; access = ReadWrite; scope = Thread; source = Stored p }) ≡ true
    go GuestGet t = absurd (false≢true (sym t))
    go GuestSet t = absurd (false≢true (sym t))
    go ThreadGet t = refl
    go ThreadSet t = refl
    go RunInput t = beyond 0x0C00 0x0C01 id (omega arith)
    go Effect t = beyond 0x0C00 0x0C02 id (omega arith)
