-- What the scans tell of the ranges is what the table tells: in rows of one scope that ascend, the sum of what stands before is the
-- position, and the rows past the one that decides add nothing. Assumes nothing.
use mathlib.Core.Path.{◌≡◌, refl, sym, ap, ap₂, ◌∙◌, subst}
use mathlib.Core.Bool.{Bool, true, false, cond, ◌&&◌}
use mathlib.Core.List.{List, [], ◌∷◌, ◌++◌}
use Prim.Native.Nat.{ℕ, ◌+◌, ◌-◌, ◌*◌, min, ◌≤◌, ◌<◌}
use native.Mathlib.Nat.{mul-zero, zero-mul, one-mul}
use native.Mathlib.Omega.{arith}
use lib.Dec.{T, ltb, leb, eqb, leb→le, ltb→lt, eqb→eq}
use borrow.Author.Tests.{ltb-true, ltb-false, leb-true, leb-false, lt-ltb, le-ltb, le-leb, lt-leb, ne_eqb}
use Rattle.elements.specs.declared.Scope.{Scope}
use Rattle.elements.specs.declared.Scope.TheVariants.{Guest, Thread}
use Rattle.elements.specs.declared.Row.{Row}
use Rattle.elements.specs.declared.Kind.{Kind}
use Rattle.elements.specs.declared.Kind.TheVariants.{Unlisted, Nop}
use Rattle.elements.specs.Table.{table, many, names, find, below, same_scope, bytes_in, threads, numbered, position, source_of, kind_of, number_of, thread_element}
use Rattle.elements.specs.Ranges.{ranges, range_at}
use Rattle.elements.specs.Private.{ranges_from, bytes_each, scanned, counted, element_in}
use Rattle.elements.proofs.Find.{clear, clear_head, clear_tail, outside}
use Rattle.elements.specs.Right.{every_row}
use Rattle.elements.proofs.Table.{and_left, and_right, by}
use Rattle.elements.proofs.Ranges.{ranges_same}

-- ---- rows of one scope that ascend

abbrev above : ℕ → List Row → Bool
above n rs = every_row (λ (q : Row). ltb n q.first) rs

abbrev steady : Scope → List Row → Bool
steady s [] = true
steady s (r ∷ rs) = leb r.first r.last && (same_scope s r.scope && (above r.last rs && steady s rs))

same_scope_lem : (s q : Scope) → T (same_scope s q) → s ≡ q
same_scope_lem Guest Guest t = refl
same_scope_lem Guest Thread t = absurd t
same_scope_lem Thread Guest t = absurd t
same_scope_lem Thread Thread t = refl

record Steady (s : Scope) (r : Row) (rs : List Row) : Type 0 where
  upward : r.first ≤ r.last
  scope : s ≡ r.scope
  later : T (above r.last rs)
  rest : T (steady s rs)

is_steady : (s : Scope) (r : Row) (rs : List Row) → T (steady s (r ∷ rs)) → Steady s r rs
is_steady s r rs t =
    let a = and_right (leb r.first r.last) _ t in
    let b = and_right (same_scope s r.scope) _ a in
    record {
      upward = leb→le _ _ (and_left (leb r.first r.last) _ t);
      scope = same_scope_lem s r.scope (and_left (same_scope s r.scope) _ a);
      later = and_left (above r.last rs) _ b;
      rest = and_right (above r.last rs) _ b;
    }

none_below : (w : Row → ℕ) (rs : List Row) (n id : ℕ) → T (above n rs) → id ≤ n → below w rs id ≡ 0
unfolding below
none_below w [] n id t h = refl
none_below w (r ∷ rs) n id t h =
    let l : n < r.first = ltb→lt _ _ (and_left (ltb n r.first) _ t) in
    let z : min (id - r.first) (many r) ≡ 0 = omega arith in
    let p : w r * min (id - r.first) (many r) ≡ 0 = ap (λ (k : ℕ). w r * k) z ∙ mul-zero (w r) in
    omega (arith, p, none_below w rs n id (and_right (ltb n r.first) _ t) h)

none_named : (rs : List Row) (n id : ℕ) → T (above n rs) → id ≤ n → find rs id ≡ Unlisted
unfolding find
none_named [] n id t h = refl
none_named (r ∷ rs) n id t h =
    let l : n < r.first = ltb→lt _ _ (and_left (ltb n r.first) _ t) in
    let u : id < r.first = omega arith in
    simp (lt-leb _ _ u, none_named rs n id (and_right (ltb n r.first) _ t) h)

-- what a row adds below an ID: all that it has, or what comes before the ID in it
module _ (w : Row → ℕ) (r : Row) (rs : List Row) (id : ℕ) (up : r.first ≤ r.last) where
  below_past : r.last < id → below w (r ∷ rs) id ≡ w r * many r + below w rs id
  unfolding below
  below_past h = let m : min (id - r.first) (many r) ≡ many r = omega arith in ap (λ (k : ℕ). w r * k + below w rs id) m

  below_in : id ≤ r.last → T (above r.last rs) → below w (r ∷ rs) id ≡ w r * (id - r.first)
  unfolding below
  below_in h t =
      let m : min (id - r.first) (many r) ≡ id - r.first = omega arith in
      ap (λ (k : ℕ). w r * k + below w rs id) m ∙ omega (arith, none_below w rs r.last id t h)

-- ---- what an ID is

module _ (s : Scope) (r : Row) (rs : List Row) (f : Steady s r rs) (id at : ℕ) where
  scan_early : id < r.first → scanned (r ∷ rs) id at ≡ find (r ∷ rs) id
  unfolding scanned find
  scan_early h =
      let l : id ≤ r.last = omega (arith, f.upward) in
      simp (lt-ltb _ _ h, lt-leb _ _ h, none_named rs r.last id f.later l)

  scan_here : position s id ≡ at + below (bytes_in s) (r ∷ rs) id → r.first ≤ id → id ≤ r.last → scanned (r ∷ rs) id at ≡ find (r ∷ rs) id
  unfolding scanned find source_of
  scan_here p h k =
      let place : position r.scope id ≡ at + below (bytes_in r.scope) (r ∷ rs) id = subst (λ (q : Scope). position q id ≡ at + below (bytes_in q) (r ∷ rs) id) f.scope p in
      let q : at + bytes_each r * (id - r.first) ≡ position r.scope id = omega (arith, place, below_in (bytes_in r.scope) r rs id f.upward k f.later) in
      simp (le-ltb _ _ h, le-leb _ _ h, le-leb _ _ k, q)

  next_place : position s id ≡ at + below (bytes_in s) (r ∷ rs) id → r.last < id → position s id ≡ at + bytes_each r * many r + below (bytes_in s) rs id
  next_place p k =
      let e : bytes_in s r * many r ≡ bytes_each r * many r = ap (λ (q : Scope). bytes_in q r * many r) f.scope in
      omega (arith, p, e, below_past (bytes_in s) r rs id f.upward k)

  scan_later : r.first ≤ id → r.last < id → scanned rs id (at + bytes_each r * many r) ≡ find rs id → scanned (r ∷ rs) id at ≡ find (r ∷ rs) id
  unfolding scanned find
  scan_later h k e = simp (le-ltb _ _ h, le-leb _ _ h, lt-leb _ _ k, e)

scan_find : (s : Scope) (rs : List Row) → T (steady s rs) → (id at : ℕ) → position s id ≡ at + below (bytes_in s) rs id → scanned rs id at ≡ find rs id
unfolding scanned find
scan_find s [] t id at p = refl
scan_find s (r ∷ rs) t id at p =
    let f = is_steady s r rs t in
    by (ltb id r.first) (λ h. scan_early s r rs f id at (ltb-true _ _ h))
    (λ h. by (leb id r.last) (λ k. scan_here s r rs f id at p (ltb-false _ _ h) (leb-true _ _ k))
    (λ k. scan_later s r rs f id at (ltb-false _ _ h) (leb-false _ _ k)
    (scan_find s rs f.rest id (at + bytes_each r * many r) (next_place s r rs f id at p (leb-false _ _ k)))))

-- ---- how many thread elements are below it

thread_one : (r : Row) → Thread ≡ r.scope → threads r ≡ 1
thread_one r e = ap (λ (s : Scope). cond (same_scope Thread s) 1 0) (sym e)

count_below : (rs : List Row) → T (steady Thread rs) → (id n : ℕ) → counted rs id n ≡ n + below threads rs id
unfolding counted
count_below [] t id n = sym (omega (arith, none_below threads [] id id tt (omega arith)))
count_below (r ∷ rs) t id n =
    let f = is_steady Thread r rs t in
    let one : (k : ℕ) → threads r * k ≡ k = λ k. ap (λ (x : ℕ). x * k) (thread_one r f.scope) ∙ one-mul k in
    by (ltb id r.first)
    (λ h. let l : id < r.first = ltb-true _ _ h in let z : id - r.first ≡ 0 = omega arith in let k : id ≤ r.last = omega (arith, f.upward) in
    rw h (omega (arith, below_in threads r rs id f.upward k f.later, one (id - r.first))))
    (λ h. by (leb id r.last)
    (λ k. rw h (rw k (omega (arith, below_in threads r rs id f.upward (leb-true _ _ k) f.later, one (id - r.first)))))
    (λ k. rw h (rw k (count_below rs f.rest id (n + many r) ∙ omega (arith, below_past threads r rs id f.upward (leb-false _ _ k), one (many r))))))

-- ---- which element a number is

abbrev Placed : ℕ → List Row → Type 0
Placed at [] = Unit {0}
Placed at (r ∷ rs) = (id : ℕ) → r.first ≤ id → position Thread id ≡ at + below (bytes_in Thread) (r ∷ rs) id

next_placed : (r : Row) (rs : List Row) (at : ℕ) → Steady Thread r rs → Placed at (r ∷ rs) → Placed (at + bytes_each r * many r) rs
next_placed r [] at f p = tt
next_placed r (q ∷ rs) at f p = λ id h.
    let l : r.last < q.first = ltb→lt _ _ (and_left (ltb r.last q.first) _ f.later) in
    let u : r.first ≤ id = omega (arith, f.upward) in
    let k : r.last < id = omega arith in
    next_place Thread r (q ∷ rs) f id at (p id u) k

element_numbered : (rs : List Row) → T (steady Thread rs) → (e at : ℕ) → Placed at rs → element_in rs e at ≡ numbered rs e
unfolding element_in numbered
element_numbered [] t e at p = refl
element_numbered (r ∷ rs) t e at p =
    let f = is_steady Thread r rs t in
    let one : threads r * many r ≡ many r = ap (λ (x : ℕ). x * many r) (thread_one r f.scope) ∙ one-mul (many r) in
    by (ltb e (many r))
    (λ (h : ltb e (many r) ≡ true).
    let l : e < many r = ltb-true _ _ h in
    let k : r.first + e ≤ r.last = omega (arith, f.upward) in
    let u : r.first ≤ r.first + e = omega arith in
    let d : r.first + e - r.first ≡ e = omega arith in
    let s : bytes_in Thread r * (r.first + e - r.first) ≡ bytes_each r * e = ap₂ (λ (q : Scope) (x : ℕ). bytes_in q r * x) f.scope d in
    let q : at + bytes_each r * e ≡ position Thread (r.first + e) = omega (arith, p (r.first + e) u, below_in (bytes_in Thread) r rs (r.first + e) f.upward k f.later, s) in
    simp (one, h, q))
    (λ (h : ltb e (many r) ≡ false).
    let ih : element_in rs (e - many r) (at + bytes_each r * many r) ≡ numbered rs (e - many r) = element_numbered rs f.rest (e - many r) (at + bytes_each r * many r) (next_placed r rs at f p) in
    simp (one, h, ih))

-- ---- the guests' rows, and the threads'

append_below : (w : Row → ℕ) (xs ys : List Row) (id : ℕ) → below w (xs ++ ys) id ≡ below w xs id + below w ys id
unfolding below
append_below w [] ys id = omega arith
append_below w (r ∷ rs) ys id = omega (arith, append_below w rs ys id)

abbrev weightless : (Row → ℕ) → List Row → Bool
weightless w rs = every_row (λ (r : Row). eqb (w r) 0) rs

weightless_below : (w : Row → ℕ) (rs : List Row) → T (weightless w rs) → (id : ℕ) → below w rs id ≡ 0
unfolding below
weightless_below w [] t id = refl
weightless_below w (r ∷ rs) t id =
    let z : w r ≡ 0 = eqb→eq _ _ (and_left (eqb (w r) 0) _ t) in
    let p : w r * min (id - r.first) (many r) ≡ 0 = ap (λ (k : ℕ). k * min (id - r.first) (many r)) z ∙ zero-mul (min (id - r.first) (many r)) in
    omega (arith, p, weightless_below w rs (and_right (eqb (w r) 0) _ t) id)

weightless_numbered : (rs ys : List Row) → T (weightless threads rs) → (e : ℕ) → numbered (rs ++ ys) e ≡ numbered ys e
unfolding numbered
weightless_numbered [] ys t e = refl
weightless_numbered (r ∷ rs) ys t e =
    let z : threads r ≡ 0 = eqb→eq _ _ (and_left (eqb (threads r) 0) _ t) in
    let p : threads r * many r ≡ 0 = ap (λ (k : ℕ). k * many r) z ∙ zero-mul (many r) in
    let n : e - 0 ≡ e = omega arith in
    let u : 0 ≤ e = omega arith in
    let ih : numbered (rs ++ ys) e ≡ numbered ys e = weightless_numbered rs ys (and_right (eqb (threads r) 0) _ t) e in
    simp (p, n, le-ltb _ _ u, ih)

append_left : (xs ys : List Row) (id : ℕ) → find ys id ≡ Unlisted → find (xs ++ ys) id ≡ find xs id
unfolding find
append_left [] ys id e = e
append_left (r ∷ rs) ys id e = by (names r id) (λ h. rw h refl) (λ h. rw h (append_left rs ys id e))

append_right : (a b : ℕ) (xs ys : List Row) (id : ℕ) → clear a b xs ≡ true → a ≤ id → id < b → find (xs ++ ys) id ≡ find ys id
unfolding find
append_right a b [] ys id e low high = refl
append_right a b (r ∷ rs) ys id e low high = simp (clear_head a b r rs id e low high, append_right a b rs ys id (clear_tail a b r rs e) low high)

parted : ranges ≡ ranges_from 6 0 ++ ranges_from 10 6
unfolding ranges ranges_from
parted = refl

module _ (w : Row → ℕ) (id : ℕ) (same : below w ranges id ≡ below w table id) where
  parted_below : below w table id ≡ below w (ranges_from 6 0) id + below w (ranges_from 10 6) id
  parted_below = sym same ∙ ap (λ (rs : List Row). below w rs id) parted ∙ append_below w (ranges_from 6 0) (ranges_from 10 6) id

guest_place : (id : ℕ) → position Guest id ≡ 0 + below (bytes_in Guest) (ranges_from 6 0) id
unfolding position ranges ranges_from
guest_place id =
    let z : below (bytes_in Guest) (ranges_from 10 6) id ≡ 0 = weightless_below (bytes_in Guest) (ranges_from 10 6) tt id in
    omega (arith, parted_below (bytes_in Guest) id (ranges_same.place Guest id), z)

thread_place : (id : ℕ) → position Thread id ≡ 0 + below (bytes_in Thread) (ranges_from 10 6) id
unfolding position ranges ranges_from
thread_place id =
    let z : below (bytes_in Thread) (ranges_from 6 0) id ≡ 0 = weightless_below (bytes_in Thread) (ranges_from 6 0) tt id in
    omega (arith, parted_below (bytes_in Thread) id (ranges_same.place Thread id), z)

-- ---- what the code returns

pub kind_nop : (id : ℕ) → id ≡ 0 → Nop ≡ kind_of id
unfolding kind_of
kind_nop id e = ap kind_of (sym e)

module _ (id : ℕ) (x : Kind) (r : Row) (e : r ≡ range_at 5) where
  guests_last : r.last ≡ 6
  unfolding ranges
  guests_last = ap (λ (q : Row). q.last) e

  pub kind_guest : id ≤ r.last → (id ≡ 0 → ⊥) → x ≡ scanned (ranges_from 6 0) id 0 → x ≡ kind_of id
  unfolding kind_of ranges ranges_from
  kind_guest h n p =
      let low : id < 7 = omega (arith, guests_last) in
      let none : find (ranges_from 10 6) id ≡ Unlisted = outside (ranges_from 10 6) 0 7 refl id (omega arith) low in
      let found : find table id ≡ find (ranges_from 6 0) id = sym (ranges_same.kind id) ∙ ap (λ (rs : List Row). find rs id) parted ∙ append_left (ranges_from 6 0) (ranges_from 10 6) id none in
      p ∙ scan_find Guest (ranges_from 6 0) tt id 0 (guest_place id) ∙ sym (simp (ne_eqb _ _ n, found))

  pub kind_thread : r.last < id → id < 65536 → x ≡ scanned (ranges_from 10 6) id 0 → x ≡ kind_of id
  unfolding kind_of ranges ranges_from
  kind_thread h l p =
      let low : 7 ≤ id = omega (arith, guests_last) in
      let n : id ≡ 0 → ⊥ = λ q. omega arith in
      let found : find table id ≡ find (ranges_from 10 6) id = sym (ranges_same.kind id) ∙ ap (λ (rs : List Row). find rs id) parted ∙ append_right 7 65536 (ranges_from 6 0) (ranges_from 10 6) id refl low l in
      p ∙ scan_find Thread (ranges_from 10 6) tt id 0 (thread_place id) ∙ sym (simp (ne_eqb _ _ n, found))

pub count_told : (id : ℕ) → counted (ranges_from 10 6) id 0 ≡ number_of id
unfolding number_of ranges ranges_from
count_told id =
    let z : below threads (ranges_from 6 0) id ≡ 0 = weightless_below threads (ranges_from 6 0) tt id in
    count_below (ranges_from 10 6) tt id 0 ∙ omega (arith, parted_below threads id (ranges_same.number id), z)

pub element_told_lem : (e : ℕ) → element_in (ranges_from 10 6) e 0 ≡ thread_element e
unfolding thread_element ranges ranges_from
element_told_lem e =
    element_numbered (ranges_from 10 6) tt e 0 (λ id h. thread_place id)
    ∙ sym (weightless_numbered (ranges_from 6 0) (ranges_from 10 6) tt e)
    ∙ ap (λ (rs : List Row). numbered rs e) (sym parted)
    ∙ ranges_same.element e
