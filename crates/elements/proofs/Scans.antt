-- The scans of the constant's ranges: their turns, and that they tell what `find`, `below` and `numbered` tell of the rows scanned.
-- Assumes nothing.
use mathlib.Core.Path.{◌≡◌, refl, sym, ap, ap₂, ◌∙◌, subst}
use mathlib.Core.Bool.{Bool, true}
use mathlib.Core.List.{List, [], ◌∷◌}
use Prim.Native.Nat.{ℕ, zero, suc, ◌+◌, ◌-◌, ◌*◌, ◌^◌, ◌≤◌, ◌<◌}
use native.Mathlib.Nat.{not-suc-le-zero, le_of_suc-le-suc, mul-le-mul_left}
use native.Mathlib.Numerals.{add-one}
use native.Mathlib.Omega.{arith}
use lib.Dec.{T, leb, leb→le}
use lib.ListN.{length, get_or}
use borrow.Author.Tests.{lt-ltb, le-ltb, le-leb, lt-leb}
use Rattle.elements.specs.declared.Scope.{Scope}
use Rattle.elements.specs.declared.Scope.TheVariants.{Guest, Thread}
use Rattle.elements.specs.declared.Row.{Row}
use Rattle.elements.specs.declared.Source.{Source}
use Rattle.elements.specs.declared.Kind.{Kind}
use Rattle.elements.specs.declared.Kind.TheVariants.{Unlisted, Listed}
use Rattle.elements.specs.declared.Element.{Element}
use Rattle.elements.specs.Table.{many, same_scope}
use Rattle.elements.specs.Ranges.{ranges, range_at}
use Rattle.elements.specs.Private.{ranges_from, bytes_each, source_at, listed_as, scanned, counted, element_in}
use Rattle.elements.specs.Right.{every_row}
use Rattle.elements.proofs.Table.{and_left, and_right}

-- ---- a test computed over the ranges holds of each

every_at : (test : Row → Bool) (rs : List Row) (i : ℕ) (d : Row) → T (every_row test rs) → i < length rs → T (test (get_or rs i d))
every_at test [] i d t h = absurd (not-suc-le-zero h)
every_at test (r ∷ rs) zero d t h = and_left (test r) (every_row test rs) t
every_at test (r ∷ rs) (suc i) d t h = every_at test rs i d (and_right (test r) (every_row test rs) t) (le_of_suc-le-suc h)

long : length ranges ≡ 16
unfolding ranges
long = refl

range_rule : (test : Row → Bool) → T (every_row test ranges) → (i : ℕ) → i < 16 → T (test (range_at i))
range_rule test t i h = every_at test ranges i _ t (subst (λ (n : ℕ). i < n) (sym long) h)

module _ (i : ℕ) (r : Row) (e : r ≡ range_at i) (h : i < 16) where
  -- the last ID is not below the first, and what the row's elements take is little
  pub range_upward : r.first ≤ r.last
  unfolding ranges
  range_upward = subst (λ (q : Row). q.first ≤ q.last) (sym e) (leb→le _ _ (range_rule (λ (q : Row). leb q.first q.last) tt i h))

  pub range_light : bytes_each r * many r ≤ 1024
  unfolding ranges
  range_light = subst (λ (q : Row). bytes_each q * many q ≤ 1024) (sym e) (leb→le _ _ (range_rule (λ (q : Row). leb (bytes_each q * many q) 1024) tt i h))

  range_part : (k : ℕ) → k ≤ many r → bytes_each r * k ≤ 1024
  range_part k l = omega (arith, range_light, mul-le-mul_left (bytes_each r) l)

  -- an ID of the row, with little before it
  pub range_room : (id at : ℕ) → id ≤ r.last → at ≤ 1024 * i → at + bytes_each r * (id - r.first) < 2 ^ 64
  range_room id at u l =
      let k : id - r.first ≤ many r = omega arith in
      omega (arith, range_part (id - r.first) k)

  -- an element of it by its number
  module _ (m b left at : ℕ) (p : m ≡ many r) (l : left < m) (q : b ≡ bytes_each r) where
    pub element_fits : b * left < 2 ^ 64
    element_fits = omega (arith, range_part left (omega arith), ap (λ (x : ℕ). x * left) q)

    pub element_room : at ≤ 1024 * i → at + b * left < 2 ^ 64
    element_room u = omega (arith, range_part left (omega arith), ap (λ (x : ℕ). x * left) q)

-- ---- the turns

from_next : (i end : ℕ) (r : Row) → i < end → r ≡ range_at i → ranges_from (end - i) i ≡ r ∷ ranges_from (end - (i + 1)) (i + 1)
unfolding ranges_from
from_next i end r h e =
    let n : end - i ≡ suc (end - (i + 1)) = omega arith in
    ap (λ (n : ℕ). ranges_from n i) n ∙ ap₂ (λ (q : Row) (j : ℕ). q ∷ ranges_from (end - (i + 1)) j) (sym e) (sym (add-one i))

from_end : (i end : ℕ) → end ≤ i → ranges_from (end - i) i ≡ []
unfolding ranges_from
from_end i end h = let n : end - i ≡ 0 = omega arith in ap (λ (n : ℕ). ranges_from n i) n

module _ (i end id at : ℕ) (k : Kind) (w : k ≡ scanned (ranges_from (end - i) i) id at) where
  pub scan_end : end ≤ i → Unlisted ≡ k
  unfolding scanned
  scan_end h = sym (w ∙ ap (λ (rs : List Row). scanned rs id at) (from_end i end h))

  module _ (r : Row) (h : i < end) (e : r ≡ range_at i) where
    turn : k ≡ scanned (r ∷ ranges_from (end - (i + 1)) (i + 1)) id at
    turn = w ∙ ap (λ (rs : List Row). scanned rs id at) (from_next i end r h e)

    pub scan_below : id < r.first → Unlisted ≡ k
    unfolding scanned
    scan_below l = sym (turn ∙ simp (lt-ltb _ _ l))

    pub scan_hit : (x : Kind) → r.first ≤ id → id ≤ r.last → x ≡ listed_as r id at → x ≡ k
    unfolding scanned
    scan_hit x l u q = q ∙ sym (turn ∙ simp (le-ltb _ _ l, le-leb _ _ u))

    pub scan_next : (b : ℕ) → r.first ≤ id → r.last < id → b ≡ bytes_each r * many r
        → k ≡ scanned (ranges_from (end - (i + 1)) (i + 1)) id (at + b)
    unfolding scanned
    scan_next b l u p =
        let on : scanned (r ∷ ranges_from (end - (i + 1)) (i + 1)) id at ≡ scanned (ranges_from (end - (i + 1)) (i + 1)) id (at + bytes_each r * many r) = simp (le-ltb _ _ l, lt-leb _ _ u) in
        turn ∙ on ∙ ap (λ (x : ℕ). scanned (ranges_from (end - (i + 1)) (i + 1)) id (at + x)) (sym p)

module _ (i end id n : ℕ) (k : ℕ) (w : k ≡ counted (ranges_from (end - i) i) id n) where
  pub count_end : end ≤ i → n ≡ k
  unfolding counted
  count_end h = sym (w ∙ ap (λ (rs : List Row). counted rs id n) (from_end i end h))

  module _ (r : Row) (h : i < end) (e : r ≡ range_at i) where
    count_turn : k ≡ counted (r ∷ ranges_from (end - (i + 1)) (i + 1)) id n
    count_turn = w ∙ ap (λ (rs : List Row). counted rs id n) (from_next i end r h e)

    pub count_early : id < r.first → n ≡ k
    unfolding counted
    count_early l = sym (count_turn ∙ simp (lt-ltb _ _ l))

    pub count_in : r.first ≤ id → id ≤ r.last → n + (id - r.first) ≡ k
    unfolding counted
    count_in l u = sym (count_turn ∙ simp (le-ltb _ _ l, le-leb _ _ u))

    pub count_next : (m : ℕ) → r.first ≤ id → r.last < id → m ≡ many r → k ≡ counted (ranges_from (end - (i + 1)) (i + 1)) id (n + m)
    unfolding counted
    count_next m l u p =
        let on : counted (r ∷ ranges_from (end - (i + 1)) (i + 1)) id n ≡ counted (ranges_from (end - (i + 1)) (i + 1)) id (n + many r) = simp (le-ltb _ _ l, lt-leb _ _ u) in
        count_turn ∙ on ∙ ap (λ (x : ℕ). counted (ranges_from (end - (i + 1)) (i + 1)) id (n + x)) (sym p)

module _ (i end left at : ℕ) (k : Element) (w : k ≡ element_in (ranges_from (end - i) i) left at) where
  pub element_end : end ≤ i → record { id = 0; size = 0; position = 0 } ≡ k
  unfolding element_in
  element_end h = sym (w ∙ ap (λ (rs : List Row). element_in rs left at) (from_end i end h))

  module _ (r : Row) (h : i < end) (e : r ≡ range_at i) (m : ℕ) (p : m ≡ many r) where
    element_turn : k ≡ element_in (r ∷ ranges_from (end - (i + 1)) (i + 1)) left at
    element_turn = w ∙ ap (λ (rs : List Row). element_in rs left at) (from_next i end r h e)

    pub element_here : (b : ℕ) → left < m → b ≡ bytes_each r → record { id = r.first + left; size = r.size; position = at + b * left } ≡ k
    unfolding element_in
    element_here b l q =
        let u : left < many r = omega arith in
        let on : element_in (r ∷ ranges_from (end - (i + 1)) (i + 1)) left at ≡ record { id = r.first + left; size = r.size; position = at + bytes_each r * left } = simp (lt-ltb _ _ u) in
        ap (λ (x : ℕ). record { id = r.first + left; size = r.size; position = at + x * left }) q ∙ sym (element_turn ∙ on)

    pub element_next : (b : ℕ) → m ≤ left → b ≡ bytes_each r * many r → k ≡ element_in (ranges_from (end - (i + 1)) (i + 1)) (left - m) (at + b)
    unfolding element_in
    element_next b l q =
        let u : many r ≤ left = omega arith in
        let on : element_in (r ∷ ranges_from (end - (i + 1)) (i + 1)) left at ≡ element_in (ranges_from (end - (i + 1)) (i + 1)) (left - many r) (at + bytes_each r * many r) = simp (le-ltb _ _ u) in
        element_turn ∙ on ∙ ap₂ (λ (x y : ℕ). element_in (ranges_from (end - (i + 1)) (i + 1)) (left - x) (at + y)) (sym p) (sym q)

-- how many bytes each of a row's elements takes, as the code tests it
own_scope : (s : Scope) → same_scope s s ≡ true
own_scope Guest = refl
own_scope Thread = refl

pub each_none : (r : Row) → r.first ≤ 2 → 0 ≡ bytes_each r
each_none r h = sym (simp (own_scope r.scope, le-ltb _ _ h))

pub each_stored : (r : Row) → 2 < r.first → r.size ≡ bytes_each r
each_stored r h = sym (simp (own_scope r.scope, lt-ltb _ _ h))

-- ---- all bytes of a row, as the code makes them
module _ (r : Row) (b m : ℕ) (p : b ≡ bytes_each r) (q : m ≡ many r) where
  pub bytes_all : b * m ≡ bytes_each r * many r
  bytes_all = ap₂ ◌*◌ p q

  pub bytes_few : bytes_each r * many r ≤ 1024 → b * m ≤ 1024
  bytes_few h = omega (arith, bytes_all)

  pub bytes_fit : bytes_each r * many r ≤ 1024 → b * m < 2 ^ 64
  bytes_fit h = omega (arith, bytes_all)

-- ---- an ID that a row names, as the code makes it
module _ (r : Row) (id at b : ℕ) (e : b ≡ bytes_each r) where
  pub listed_room : at + bytes_each r * (id - r.first) < 2 ^ 64 → at + b * (id - r.first) < 2 ^ 64
  listed_room h = subst (λ (x : ℕ). at + x * (id - r.first) < 2 ^ 64) (sym e) h

  pub listed_fits : at + bytes_each r * (id - r.first) < 2 ^ 64 → b * (id - r.first) < 2 ^ 64
  listed_fits h = let l = listed_room h in omega arith

  pub listed_made : (x : Source) → x ≡ source_at id (at + b * (id - r.first))
      → Listed (record { size = r.size; access = r.access; scope = r.scope; source = x }) ≡ listed_as r id at
  listed_made x q =
      ap (λ (y : Source). Listed (record { size = r.size; access = r.access; scope = r.scope; source = y }))
      (q ∙ ap (λ (y : ℕ). source_at id (at + y * (id - r.first))) e)
