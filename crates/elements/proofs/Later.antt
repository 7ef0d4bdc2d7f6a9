-- The second list is right: `later_right`, computed; and the code's six tests are that list. Assumes nothing.
use mathlib.Core.Path.{◌≡◌, refl, sym, ap, ap₂, ◌∙◌}
use mathlib.Core.Bool.{Bool, true, false, not, ◌&&◌, ◌||◌}
use Prim.Native.Nat.{ℕ, ◌≤◌, ◌<◌}
use native.Mathlib.Omega.{arith}
use lib.Dec.{leb}
use borrow.Author.Tests.{lt-leb}
use Rattle.elements.specs.declared.Scope.{Scope}
use Rattle.elements.specs.declared.Scope.TheVariants.{Guest, Thread}
use Rattle.elements.specs.declared.Entry.{Entry}
use Rattle.elements.specs.declared.Kind.TheVariants.{Listed}
use Rattle.elements.specs.declared.Offer.{Offer}
use Rattle.elements.specs.declared.Offer.TheVariants.{Full, Power9}
use Rattle.elements.specs.Table.{same_scope, table, find, kind_of, source_of, position, below, numbered, thread_element}
use Rattle.elements.specs.Later.{later, is_later, offers, LaterRight}
use Rattle.elements.proofs.Table.{T_true, entry_rule}

pub later_right : LaterRight
unfolding later is_later kind_of find table source_of position below thread_element numbered
later_right = record { many = refl; listed = refl; lacked = refl; left = refl }

and_false : (t : Bool) → t && false ≡ false
and_false true = refl
and_false false = refl

or_six : (a b c d e f : Bool) → ((((a || b) || c) || d) || e) || f ≡ a || (b || (c || (d || (e || (f || false)))))
or_six true b c d e f = refl
or_six false true c d e f = refl
or_six false false true d e f = refl
or_six false false false true e f = refl
or_six false false false false true f = refl
or_six false false false false false true = refl
or_six false false false false false false = refl

abbrev within : ℕ → ℕ → ℕ → Bool
within first last id = leb first id && leb id last

pub later_told : (id : ℕ) (a b c d e f : Bool) → a ≡ within 0x1031 0x1031 id → b ≡ within 0x103E 0x103E id → c ≡ within 0x1041 0x1041 id
    → d ≡ within 0x1042 0x1042 id → e ≡ within 0x104E 0x1051 id → f ≡ within 0x2006 0x2006 id → ((((a || b) || c) || d) || e) || f ≡ is_later id
unfolding is_later later
later_told id a b c d e f p q r s t u =
    or_six a b c d e f ∙ ap₂ ◌||◌ p (ap₂ ◌||◌ q (ap₂ ◌||◌ r (ap₂ ◌||◌ s (ap₂ ◌||◌ t (ap (λ (x : Bool). x || false) u)))))

-- ---- IDs above all that came later: the vectors
past : (first last id : ℕ) → last < id → within first last id ≡ false
past first last id h = simp (lt-leb _ _ h, and_false)

not_later : (id : ℕ) → 0x3000 ≤ id → is_later id ≡ false
unfolding is_later later
not_later id h =
    simp (
      past 0x1031 0x1031 id (omega arith),
      past 0x103E 0x103E id (omega arith),
      past 0x1041 0x1041 id (omega arith),
      past 0x1042 0x1042 id (omega arith),
      past 0x104E 0x1051 id (omega arith),
      past 0x2006 0x2006 id (omega arith),
    )

pub above_later : (o : Offer) (id : ℕ) → 0x3000 ≤ id → offers o id ≡ true
unfolding offers
above_later Full id h = refl
above_later Power9 id h = ap not (not_later id h)

-- what came later are thread elements: both lists have every element of a guest
not_of_guest : (id : ℕ) (x : Entry) → kind_of id ≡ Listed x → x.scope ≡ Guest → not (is_later id) ≡ true
unfolding later is_later kind_of find table source_of position below
not_of_guest id x e g =
    ap (λ (s : Scope). same_scope Thread s || not (is_later id)) (sym g)
    ∙ T_true _ (entry_rule (λ (i : ℕ) (y : Entry). same_scope Thread y.scope || not (is_later i)) tt id x e)

pub guest_offered : (o : Offer) (id : ℕ) (x : Entry) → kind_of id ≡ Listed x → x.scope ≡ Guest → offers o id ≡ true
unfolding offers
guest_offered Full id x e g = refl
guest_offered Power9 id x e g = not_of_guest id x e g
