-- Thread elements by number and by ID: where their values lie in a slot or in the cache, and that two of them do not meet. Assumes nothing.
use mathlib.Core.Path.{◌≡◌, refl, sym, ap, ap₂, ◌∙◌, subst}
use mathlib.Core.Logic.{◌≢◌, ◌⊎◌, inl, inr}
use mathlib.Core.Bool.{Bool, true, false, not, ◌&&◌, ◌||◌, cond}
use mathlib.Core.List.{List}
use Prim.Native.Nat.{ℕ, zero, suc, ◌+◌, ◌≤◌, ◌<◌}
use native.Mathlib.Decide.{dec_lt}
use native.Mathlib.Omega.{arith}
use lib.Dec.{eqb, leb}
use lib.ListN.{length}
use borrow.Author.Tests.{eqb-false, leb-true, not-true}
use Rattle.octets.specs.Bytes.{bytes_at, put, Clear, left, right}
use Rattle.octets.proofs.Bytes.{clear_sym, length_bytes_at, read_back, read_other}
use Rattle.elements.specs.declared.Scope.TheVariants.{Thread}
use Rattle.rules.specs.declared.Usage.{Usage}
use Rattle.rules.specs.declared.Usage.TheVariants.{ThreadGet, ThreadSet, RunInput}
use Rattle.rules.specs.declared.Context.{Context}
use Rattle.elements.specs.declared.Offer.{Offer}
use Rattle.elements.specs.declared.Offer.TheVariants.{Full}
use Rattle.elements.specs.Later.{offers}
use Rattle.rules.proofs.Lists.{permits_by}
use Rattle.elements.specs.declared.Entry.{Entry}
use Rattle.elements.specs.declared.Element.{Element}
use Rattle.elements.specs.declared.Kind.{Kind}
use Rattle.elements.specs.declared.Kind.TheVariants.{Unlisted, Nop, Listed}
use Rattle.elements.specs.Table.{table, below, same_scope, is_stored, position, source_of, find, kind_of, number_of, numbered, thread_element}
use Rattle.rules.specs.Rules.{between, writable, permits, size_fits, allows}
use Rattle.elements.proofs.Table.{nop_zero, size_bound, position_end, position_apart, thread_stored, number_lt, number_element, element_number}
use Rattle.rules.proofs.Rules.{permits_cases, allows_scope}
use Rattle.store.specs.Search.{every}
use Rattle.store.proofs.Search.{no_bool, both, every_at}
use Rattle.exits.specs.Exits.{element_of}
use Rattle.l1.specs.Marks.{allowed, is_input, is_special, is_readable}

-- ---- an ID that names a thread element
pub record Named (id : ℕ) : Type 0 where
  pub entry : Entry
  pub listed : kind_of id ≡ Listed entry
  pub scope : entry.scope ≡ Thread

-- what it says of the element
module _ (id : ℕ) (t : Named id) where
  element_is : element_of id ≡ record { id = id; size = t.entry.size; position = position Thread id }
  element_is = number_element id t.entry t.listed t.scope

  pub element_id : (element_of id).id ≡ id
  element_id = ap (λ (x : Element). x.id) element_is

  pub element_size : (element_of id).size ≡ t.entry.size
  element_size = ap (λ (x : Element). x.size) element_is

  pub element_place : (element_of id).position ≡ position Thread id
  element_place = ap (λ (x : Element). x.position) element_is

  pub named_number : number_of id < 170
  named_number = number_lt id t.entry t.listed t.scope

  stored : is_stored id ≡ true
  stored = thread_stored id t.entry t.listed t.scope

  pub named_end : (element_of id).position + (element_of id).size ≤ 1820
  named_end = omega (arith, element_size, element_place, position_end Thread id t.entry t.listed t.scope stored)

  pub named_size : (4 ≤ (element_of id).size) × ((element_of id).size ≤ 24)
  named_size = let s = size_bound id t.entry t.listed in (omega (arith, s.0, element_size), omega (arith, s.1, element_size))

  pub named_fits : (n : ℕ) → size_fits (kind_of id) n ≡ eqb n (element_of id).size
  unfolding size_fits
  named_fits n = ap (λ (k : Kind). size_fits k n) t.listed ∙ ap (eqb n) (sym element_size)

-- two IDs: the lower one's value ends where the other's begins, or before
apart_below : (a b : ℕ) → Named a → Named b → a < b → Clear (element_of a).position (element_of a).size (element_of b).position (element_of b).size
apart_below a b t u h =
    left (omega (arith, element_place a t, element_size a t, element_place b u, position_apart Thread a b t.entry t.listed t.scope (stored a t) h))

pub named_apart : (a b : ℕ) → Named a → Named b → a ≢ b → Clear (element_of a).position (element_of a).size (element_of b).position (element_of b).size
named_apart a b t u n = go (dec_lt a b)
  where
    go : Dec (a < b) → Clear (element_of a).position (element_of a).size (element_of b).position (element_of b).size
    go (yes h) = apart_below a b t u h
    go (no h) = clear_sym (apart_below b a u t (omega arith))

-- the number and the ID of a thread element
pub number_named : (e : ℕ) → e < 170 → Named (thread_element e).id
number_named e h = let n = element_number e h in record { entry = n.entry; listed = n.listed; scope = n.scope }

pub number_back : (e : ℕ) → e < 170 → number_of (thread_element e).id ≡ e
number_back e h = (element_number e h).number

pub named_back : (id : ℕ) → Named id → (thread_element (number_of id)).id ≡ id
named_back id t = element_id id t

-- ---- the element's value in a slot whose values start at base, or in the cache, where they start at 0
abbrev pub value_of : ℕ → List ℕ → ℕ → List ℕ
value_of base s id = bytes_at s (base + (element_of id).position) (element_of id).size

module _ (base : ℕ) (s : List ℕ) (room : base + 1820 ≤ length s) where
  pub length_value : (id : ℕ) → Named id → length (value_of base s id) ≡ (element_of id).size
  length_value id t = length_bytes_at s (base + (element_of id).position) (element_of id).size (omega (arith, named_end id t))

  pub value_same : (id : ℕ) (v : List ℕ) → Named id → length v ≡ (element_of id).size → value_of base (put s (base + (element_of id).position) v) id ≡ v
  value_same id v t e =
      ap (bytes_at (put s (base + (element_of id).position) v) (base + (element_of id).position)) (sym e)
      ∙ read_back s (base + (element_of id).position) v (omega (arith, named_end id t, e))

shift : (base : ℕ) {i n j m : ℕ} → Clear i n j m → Clear (base + i) n (base + j) m
shift base (left h) = left (omega arith)
shift base (right h) = right (omega arith)

pub places_apart : (base a b : ℕ) (v : List ℕ) → Named a → Named b → a ≢ b → length v ≡ (element_of a).size
    → Clear (base + (element_of a).position) (length v) (base + (element_of b).position) (element_of b).size
places_apart base a b v t u n e =
    subst (λ (k : ℕ). Clear (base + (element_of a).position) k (base + (element_of b).position) (element_of b).size) (sym e) (shift base (named_apart a b t u n))

pub value_other : (base : ℕ) (s : List ℕ) (a b : ℕ) (v : List ℕ) → Named a → Named b → a ≢ b → length v ≡ (element_of a).size
    → value_of base (put s (base + (element_of a).position) v) b ≡ value_of base s b
value_other base s a b v t u n e = read_other s (base + (element_of a).position) v (base + (element_of b).position) (element_of b).size (places_apart base a b v t u n e)

-- ---- what the operations of the cache permit
pub permitted_named : (o : Offer) (usage : Usage) (id : ℕ) → id ≢ 0 → ((x : Entry) → allows usage id x ≡ true → x.scope ≡ Thread) → allowed o usage id ≡ true → Named id
permitted_named o usage id n sc e = go (permits_cases (record { usage = usage; capabilities = 0; offer = o }) id (kind_of id) e)
  where
    go : (kind_of id ≡ Nop) ⊎ ((x : Entry) × (kind_of id ≡ Listed x) × (allows usage id x ≡ true)) → Named id
    go (inl q) = absurd (n (nop_zero id q))
    go (inr (x, q, a)) = record { entry = x; listed = q; scope = sc x a }

neither : (a b : Bool) → (a || b) ≡ false → (a ≡ false) × (b ≡ false)
neither true b e = absurd (no_bool (sym e))
neither false b e = (refl, e)

and_true : (a : Bool) → (a && true) ≡ a
and_true true = refl
and_true false = refl

and_false : (a : Bool) → (a && false) ≡ false
and_false true = refl
and_false false = refl

-- the use and the list decide alone
pub allowed_as : (k : Context) (id : ℕ) → permits k id (kind_of id) ≡ allowed k.offer k.usage id
unfolding permits
allowed_as k id = go (kind_of id)
  where
    go : (kind : Kind) → permits k id kind ≡ permits (record { usage = k.usage; capabilities = 0; offer = k.offer }) id kind
    go Unlisted = refl
    go Nop = refl
    go (Listed x) = refl

module _ (o : Offer) (id : ℕ) where
  -- of an ID that is not special, what a thread set takes and what a run input takes are the same
  pub set_as_input : is_special id ≡ false → allowed o ThreadSet id ≡ is_input o id
  unfolding is_input permits allows
  set_as_input n = by_kind (kind_of id) refl
    where
      parts : (eqb id 0 ≡ false) × (between 0x0C00 0x0C01 id ≡ false)
      parts = neither (eqb id 0) (between 0x0C00 0x0C01 id) n

      by_kind : (kind : Kind) → kind_of id ≡ kind
          → permits (record { usage = ThreadSet; capabilities = 0; offer = o }) id kind ≡ (not (eqb id 0) && permits (record { usage = RunInput; capabilities = 0; offer = o }) id kind)
      by_kind Unlisted e = sym (ap (λ (t : Bool). not t && false) parts.0)
      by_kind Nop e = sym (ap (λ (t : Bool). not t && true) parts.0)
      by_kind (Listed x) e =
          sym (ap₂ (λ (t u : Bool). not t && (((same_scope Thread x.scope && writable x.access) && not u) && offers o id)) parts.0 parts.1
          ∙ ap (λ (t : Bool). t && offers o id) (and_true (same_scope Thread x.scope && writable x.access)))

  pub special_out : is_special id ≡ true → is_input o id ≡ false
  unfolding is_input permits allows
  special_out h = go (eqb id 0) refl h
    where
      by_kind : between 0x0C00 0x0C01 id ≡ true → id ≢ 0 → (kind : Kind) → kind_of id ≡ kind → permits (record { usage = RunInput; capabilities = 0; offer = o }) id kind ≡ false
      by_kind b n Unlisted e = refl
      by_kind b n Nop e = absurd (n (nop_zero id e))
      by_kind b n (Listed x) e = ap (λ (t : Bool). ((same_scope Thread x.scope && writable x.access) && not t) && offers o id) b ∙ ap (λ (t : Bool). t && offers o id) (and_false (same_scope Thread x.scope && writable x.access))

      go : (t : Bool) → eqb id 0 ≡ t → (t || between 0x0C00 0x0C01 id) ≡ true → (not t && permits (record { usage = RunInput; capabilities = 0; offer = o }) id (kind_of id)) ≡ false
      go true e q = refl
      go false e q = by_kind q (eqb-false id 0 e) (kind_of id) refl

  input_parts : is_input o id ≡ true → (eqb id 0 ≡ false) × (allowed o RunInput id ≡ true)
  unfolding is_input
  input_parts e = let p = both (not (eqb id 0)) (allowed o RunInput id) e in (not-true (eqb id 0) p.0, p.1)

  pub input_allowed : is_input o id ≡ true → allowed o RunInput id ≡ true
  input_allowed e = (input_parts e).1

  pub input_named : is_input o id ≡ true → Named id
  input_named e =
      let p = input_parts e in
      permitted_named o RunInput id (eqb-false id 0 p.0) (λ x a. allows_scope RunInput id x a) p.1

  pub input_common : is_input o id ≡ true → is_special id ≡ false
  input_common e = go (is_special id) refl
    where
      go : (t : Bool) → is_special id ≡ t → is_special id ≡ false
      go true q = absurd (no_bool (sym (special_out q) ∙ e))
      go false q = q

  readable_parts : is_readable o id ≡ true → (is_special id ≡ false) × (allowed o ThreadGet id ≡ true)
  unfolding is_readable
  readable_parts e = let p = both (not (is_special id)) (allowed o ThreadGet id) e in (not-true (is_special id) p.0, p.1)

  pub readable_common : is_readable o id ≡ true → is_special id ≡ false
  readable_common e = (readable_parts e).0

  pub readable_named : is_readable o id ≡ true → Named id
  readable_named e =
      let p = readable_parts e in
      let z = (neither (eqb id 0) (between 0x0C00 0x0C01 id) p.0).0 in
      permitted_named o ThreadGet id (eqb-false id 0 z) (λ x a. allows_scope ThreadGet id x a) p.1

  pub get_as_readable : is_special id ≡ false → allowed o ThreadGet id ≡ is_readable o id
  unfolding is_readable
  get_as_readable n = sym (ap (λ (t : Bool). not t && allowed o ThreadGet id) n)

-- ---- computed over the 170: what a run input takes lies behind the two registrations, and all of it needs 2,424 bytes
abbrev behind : ℕ → Bool
behind e = not (is_input Full (thread_element e).id) || leb 32 (thread_element e).position

all_behind : every behind 170 0 ≡ true
unfolding every is_input permits allows offers kind_of find table source_of position below thread_element numbered
all_behind = refl

-- what a list takes, 01's takes
pub input_full : (o : Offer) (id : ℕ) → is_input o id ≡ true → is_input Full id ≡ true
unfolding is_input
input_full o id h =
    let p = input_parts o id h in
    simp (p.0, (both (allowed Full RunInput id) (offers o id) (sym (permits_by RunInput 0 0 o id) ∙ p.1)).0)

pub input_behind : (o : Offer) (id : ℕ) → is_input o id ≡ true → 32 ≤ (element_of id).position
input_behind o id h =
    let t = input_named o id h in
    let e = number_of id in
    let w : behind e ≡ true = every_at behind 170 0 all_behind e (omega arith) (omega (arith, named_number id t)) in
    let q : is_input Full (thread_element e).id ≡ true = ap (is_input Full) (named_back id t) ∙ input_full o id h in
    leb-true _ _ (ap (λ (b : Bool). not b || leb 32 (thread_element e).position) (sym q) ∙ w)

-- the bytes that the elements below n need at most
unfoldable pub weight : ℕ → ℕ
weight zero = 0
weight (suc n) = weight n + cond (is_input Full (thread_element n).id) (4 + (thread_element n).size) 0

pub all_weight : weight 170 ≡ 2420
unfolding weight is_input permits allows offers kind_of find table source_of position below thread_element numbered
all_weight = refl
