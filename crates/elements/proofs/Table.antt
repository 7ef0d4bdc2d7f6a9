-- The table is right: `table_right`, computed once; `listed_rule`, which turns a test computed over every ID that the rows
-- name into the rule at each listed ID; and from these what the table says of an element's size, position and number.
-- Assumes nothing.
use mathlib.Core.Path.{◌≡◌, refl, sym, ap, ap₂, ◌∙◌, subst}
use mathlib.Core.Logic.{◌≢◌, ◌⊎◌, inl, inr, ⊎_elim}
use mathlib.Core.Bool.{Bool, true, false, not, ◌&&◌, ◌||◌}
use mathlib.Core.List.{List, [], ◌∷◌}
use Prim.Native.Nat.{ℕ, zero, suc, ◌+◌, ◌-◌, min, ◌≤◌, ◌<◌}
use native.Mathlib.Nat.{not-suc-le-zero, le_of_suc-le-suc, eq-or-lt_of_le, mul-le-mul_left, le_refl, add-le-add, zero-add}
use native.Mathlib.Omega.{arith}
use lib.Dec.{T, ltb, leb, eqb, leb→le, ltb→lt, eqb→eq}
use borrow.Author.Tests.{ltb-true, ltb-false, ne_eqb, eqb-true, eqb-false}
use Rattle.elements.specs.declared.Scope.{Scope}
use Rattle.elements.specs.declared.Scope.TheVariants.{Guest, Thread}
use Rattle.elements.specs.declared.Row.{Row}
use Rattle.elements.specs.declared.Source.TheVariants.{Fixed, Stored}
use Rattle.elements.specs.declared.Entry.{Entry}
use Rattle.elements.specs.declared.Kind.{Kind}
use Rattle.elements.specs.declared.Kind.TheVariants.{Unlisted, Nop, Listed}
use Rattle.elements.specs.declared.Element.{Element}
use Rattle.elements.specs.Right.{bytes_of, every_row, is_known_size, all_from, every_id, on_entry, every_entry, meets, slot_places, guest_places, are_placed, TableRight}
use Rattle.elements.specs.Table.{table, many, names, below, same_scope, is_stored, bytes_in, position, source_of, find, kind_of, threads, number_of, numbered, thread_element}

-- ---- the computed facts

pub table_right : TableRight
unfolding kind_of find table source_of position below number_of
table_right =
    record {
      disjoint = refl;
      gapless = refl;
      elements = refl;
      thread_elements = refl;
      guest_bytes_lem = refl;
      slot_bytes_lem = refl;
      sizes = refl;
    }

-- ---- from a test of every ID to the rule at each

pub and_left : (t u : Bool) → T (t && u) → T t
and_left true u h = tt
and_left false u h = h

pub and_right : (t u : Bool) → T (t && u) → T u
and_right true u h = h
and_right false u h = absurd h

at_from : (test : ℕ → Bool) (a n : ℕ) → T (all_from test a n) → (k : ℕ) → k < n → T (test (a + k))
at_from test a zero t k h = absurd (not-suc-le-zero h)
at_from test a (suc n) t k h =
    ⊎_elim (λ (q : k ≡ n). subst (λ (m : ℕ). T (test (a + m))) (sym q) (and_left (test (a + n)) (all_from test a n) t))
    (λ (l : k < n). at_from test a n (and_right (test (a + n)) (all_from test a n) t) k l)
    (eq-or-lt_of_le (le_of_suc-le-suc h))

named_at : (test : ℕ → Bool) (r : Row) (id : ℕ) → T (all_from test r.first (many r)) → names r id ≡ true → T (test id)
named_at test r id t e =
    let low : r.first ≤ id = leb→le _ _ (and_left (leb r.first id) (leb id r.last) (subst T (sym e) tt)) in
    let high : id ≤ r.last = leb→le _ _ (and_right (leb r.first id) (leb id r.last) (subst T (sym e) tt)) in
    let k : id - r.first < many r = omega arith in
    let q : r.first + (id - r.first) ≡ id = omega arith in
    subst (λ (i : ℕ). T (test i)) q (at_from test r.first (many r) t (id - r.first) k)

-- cases of a test
pub by : {P : Type 0} (b : Bool) → (b ≡ true → P) → (b ≡ false → P) → P
by true f g = f refl
by false f g = g refl

apart : (x : Entry) → Unlisted ≡ Listed x → ⊥
apart x e = let z : ◌≡◌ {A = ℕ} 0 1 = cc in omega arith

nop_apart : (x : Entry) → Nop ≡ Listed x → ⊥
nop_apart x e = let z : ◌≡◌ {A = ℕ} 0 1 = cc in omega arith

find_rule : (test : ℕ → Bool) (rs : List Row) → T (every_row (λ (r : Row). all_from test r.first (many r)) rs)
    → (id : ℕ) (x : Entry) → find rs id ≡ Listed x → T (test id)
unfolding find
find_rule test [] t id x e = absurd (apart x e)
find_rule test (r ∷ rs) t id x e =
    let p : Bool = all_from test r.first (many r) in
    let q : Bool = every_row (λ (r : Row). all_from test r.first (many r)) rs in
    by (names r id) (λ h. named_at test r id (and_left p q t) h) (λ h. find_rule test rs (and_right p q t) id x (rw h at e))

found : (id : ℕ) (x : Entry) → kind_of id ≡ Listed x → find table id ≡ Listed x
unfolding kind_of
found id x e = by (eqb id 0) (λ h. absurd (nop_apart x (rw h at e))) (λ h. rw h at e)

pub listed_rule : (test : ℕ → Bool) → T (every_id test) → (id : ℕ) (x : Entry) → kind_of id ≡ Listed x → T (test id)
listed_rule test t id x e = find_rule test table t id x (found id x e)

-- the same of a test of the ID with its entry
pub entry_rule : (test : ℕ → Entry → Bool) → T (every_entry test)
    → (id : ℕ) (x : Entry) → kind_of id ≡ Listed x → T (test id x)
entry_rule test t id x e =
    subst (λ (k : Kind). T (on_entry (test id) k)) e (listed_rule (λ (i : ℕ). on_entry (test i) (kind_of i)) t id x e)

-- only ID 0 is the NOP
find_not_nop : (rs : List Row) (id : ℕ) → find rs id ≡ Nop → ⊥
unfolding find
find_not_nop [] id e = let z : ◌≡◌ {A = ℕ} 0 1 = cc in omega arith
find_not_nop (r ∷ rs) id e =
    by (names r id) (λ h. nop_apart _ (sym (rw h at e))) (λ h. find_not_nop rs id (rw h at e))

pub nop_zero : (id : ℕ) → kind_of id ≡ Nop → id ≡ 0
unfolding kind_of
nop_zero id e = by (eqb id 0) (λ h. eqb-true id 0 h) (λ h. absurd (find_not_nop table id (rw h at e)))

-- ---- the size

either : {A B : Type 0} (t u : Bool) → T (t || u) → (T t → A) → (T u → B) → A ⊎ B
either true u h f g = inl (f tt)
either false u h f g = inr (g h)

pub size_cases : (id : ℕ) (x : Entry) → kind_of id ≡ Listed x
    → (x.size ≡ 4) ⊎ ((x.size ≡ 8) ⊎ ((x.size ≡ 16) ⊎ (x.size ≡ 24)))
unfolding kind_of find table source_of position below
size_cases id x e =
    let n : ℕ = x.size in
    either (eqb n 4) _ (entry_rule (λ (i : ℕ) (y : Entry). is_known_size y.size) tt id x e) (eqb→eq n 4)
    (λ t. either (eqb n 8) _ t (eqb→eq n 8) (λ t. either (eqb n 16) _ t (eqb→eq n 16) (eqb→eq n 24)))

pub size_bound : (id : ℕ) (x : Entry) → kind_of id ≡ Listed x → (4 ≤ x.size) × (x.size ≤ 24)
size_bound id x e =
    ⊎_elim (λ h. (omega arith, omega arith))
    (⊎_elim (λ h. (omega arith, omega arith)) (⊎_elim (λ h. (omega arith, omega arith)) (λ h. (omega arith, omega arith))))
    (size_cases id x e)

-- ---- where the value comes from

source_kept : (id : ℕ) (y x : Entry) → Listed y ≡ Listed x → y.source ≡ source_of y.scope id → x.source ≡ source_of x.scope id
source_kept id y x e h = let q : y ≡ x = cc in subst (λ (z : Entry). z.source ≡ source_of z.scope id) q h

source_found : (rs : List Row) (id : ℕ) (x : Entry) → find rs id ≡ Listed x → x.source ≡ source_of x.scope id
unfolding find
source_found [] id x e = absurd (apart x e)
source_found (r ∷ rs) id x e =
    by (names r id) (λ h. source_kept id _ x (rw h at e) refl) (λ h. source_found rs id x (rw h at e))

fixed_stored : (n p : ℕ) → Fixed n ≡ Stored p → ⊥
fixed_stored n p e = let z : ◌≡◌ {A = ℕ} 0 1 = cc in omega arith

pub listed_source : (id : ℕ) (x : Entry) → kind_of id ≡ Listed x → x.source ≡ source_of x.scope id
listed_source id x e = source_found table id x (found id x e)

pub listed_stored : (id : ℕ) (x : Entry) → kind_of id ≡ Listed x → is_stored id ≡ true → x.source ≡ Stored (position x.scope id)
unfolding source_of
listed_stored id x e s =
    let h : 2 < id = ltb-true 2 id s in
    let a : id ≡ 1 → ⊥ = λ q. omega arith in
    let b : id ≡ 2 → ⊥ = λ q. omega arith in
    listed_source id x e ∙ simp (ne_eqb _ _ a, ne_eqb _ _ b)

-- only the two sizes that 01 fixes are not stored
pub listed_fixed : (id : ℕ) (x : Entry) → kind_of id ≡ Listed x → is_stored id ≡ false
    → ((id ≡ 0x0001) × (x.source ≡ Fixed 1844)) ⊎ ((id ≡ 0x0002) × (x.source ≡ Fixed 124))
unfolding source_of kind_of
listed_fixed id x e s =
    let not_nop : id ≡ 0 → ⊥ = λ q. nop_apart x (ap kind_of (sym q) ∙ e) in
    let low : id ≤ 2 = ltb-false 2 id s in
    by (eqb id 1) (λ h. inl (eqb-true id 1 h, listed_source id x e ∙ simp h))
    (λ h. let not_one : id ≡ 1 → ⊥ = eqb-false id 1 h in let q : id ≡ 2 = omega arith in
    inr (q, listed_source id x e ∙ ap (source_of x.scope) q))

-- from the source to the ID
pub source_stored : (id : ℕ) (x : Entry) (p : ℕ) → kind_of id ≡ Listed x → x.source ≡ Stored p
    → (is_stored id ≡ true) × (p ≡ position x.scope id)
source_stored id x p e q =
    by (is_stored id) (λ s. let h = listed_stored id x e s in (s, cc))
    (λ s. absurd (⊎_elim (λ h. fixed_stored 1844 p (sym h.1 ∙ q)) (λ h. fixed_stored 124 p (sym h.1 ∙ q)) (listed_fixed id x e s)))

pub source_fixed : (id : ℕ) (x : Entry) (n : ℕ) → kind_of id ≡ Listed x → x.source ≡ Fixed n → is_stored id ≡ false
source_fixed id x n e q =
    by (is_stored id) (λ s. absurd (fixed_stored n _ (sym q ∙ listed_stored id x e s))) (λ s. s)

-- ---- the position

abbrev stored : (ℕ → Entry → Bool) → ℕ → Entry → Bool
stored test id x = not (is_stored id) || test id x

stored_rule : (test : ℕ → Entry → Bool) → T (every_entry (stored test))
    → (id : ℕ) (x : Entry) → kind_of id ≡ Listed x → is_stored id ≡ true → T (test id x)
stored_rule test t id x e s = rw s at (entry_rule (stored test) t id x e)

-- a value lies within its scope's bytes
pub position_end : (s : Scope) (id : ℕ) (x : Entry) → kind_of id ≡ Listed x → x.scope ≡ s → is_stored id ≡ true
    → position s id + x.size ≤ bytes_of s
unfolding kind_of find table source_of position below
position_end s id x e q st =
    subst (λ (s : Scope). position s id + x.size ≤ bytes_of s) q
    (leb→le _ _ (stored_rule (λ (i : ℕ) (y : Entry). leb (position y.scope i + y.size) (bytes_of y.scope)) tt id x e st))

-- the logical PVR stands first among a guest's values
pub behind_pvr : (id : ℕ) (x : Entry) → kind_of id ≡ Listed x → x.scope ≡ Guest → is_stored id ≡ true → id ≢ 0x0003 → 4 ≤ position Guest id
unfolding kind_of find table source_of position below
behind_pvr id x e q st n =
    leb→le _ _ (rw (ne_eqb id 0x0003 n, ap (same_scope Guest) q) at (stored_rule (λ (i : ℕ) (y : Entry). (eqb i 0x0003 || not (same_scope Guest y.scope)) || leb 4 (position Guest i)) tt id x e st))

-- no gap: the next ID's position is past the value
pub position_next : (s : Scope) (id : ℕ) (x : Entry) → kind_of id ≡ Listed x → x.scope ≡ s → is_stored id ≡ true
    → position s (suc id) ≡ position s id + x.size
position_next s id x e q st =
    subst (λ (s : Scope). position s (suc id) ≡ position s id + x.size) q
    (eqb→eq _ _ (rw st at (entry_rule meets (subst T (sym table_right.gapless) tt) id x e)))

below_mono : (weight : Row → ℕ) (rs : List Row) (a b : ℕ) → a ≤ b → below weight rs a ≤ below weight rs b
unfolding below
below_mono weight [] a b h = le_refl 0
below_mono weight (r ∷ rs) a b h =
    let m : min (a - r.first) (many r) ≤ min (b - r.first) (many r) = omega arith in
    add-le-add (mul-le-mul_left (weight r) m) (below_mono weight rs a b h)

pub position_mono : (s : Scope) (a b : ℕ) → a ≤ b → position s a ≤ position s b
unfolding position
position_mono s a b h = below_mono (bytes_in s) table a b h

-- two values of one scope do not meet: the later begins past the earlier
pub position_apart : (s : Scope) (a b : ℕ) (x : Entry) → kind_of a ≡ Listed x → x.scope ≡ s → is_stored a ≡ true → a < b
    → position s a + x.size ≤ position s b
position_apart s a b x e q st h = omega (arith, position_next s a x e q st, position_mono s (suc a) b h)

-- ---- the number

abbrev thread : (ℕ → Entry → Bool) → ℕ → Entry → Bool
thread test id x = not (same_scope Thread x.scope) || test id x

thread_rule : (test : ℕ → Entry → Bool) → T (every_entry (thread test))
    → (id : ℕ) (x : Entry) → kind_of id ≡ Listed x → x.scope ≡ Thread → T (test id x)
thread_rule test t id x e q =
    subst (λ (s : Scope). T (not (same_scope Thread s) || test id x)) q (entry_rule (thread test) t id x e)

pub T_true : (b : Bool) → T b → b ≡ true
T_true true t = refl
T_true false t = absurd t

pub thread_stored : (id : ℕ) (x : Entry) → kind_of id ≡ Listed x → x.scope ≡ Thread → is_stored id ≡ true
unfolding kind_of find table source_of position below
thread_stored id x e q = T_true _ (thread_rule (λ (i : ℕ) (y : Entry). is_stored i) tt id x e q)

pub number_lt : (id : ℕ) (x : Entry) → kind_of id ≡ Listed x → x.scope ≡ Thread → number_of id < 170
unfolding kind_of find table source_of position below number_of
number_lt id x e q = ltb→lt _ _ (thread_rule (λ (i : ℕ) (y : Entry). ltb (number_of i) 170) tt id x e q)

pub number_next : (id : ℕ) (x : Entry) → kind_of id ≡ Listed x → x.scope ≡ Thread → number_of (suc id) ≡ suc (number_of id)
unfolding kind_of find table source_of position below number_of
number_next id x e q = eqb→eq _ _ (thread_rule (λ (i : ℕ) (y : Entry). eqb (number_of (suc i)) (suc (number_of i))) tt id x e q)

pub number_mono : (a b : ℕ) → a ≤ b → number_of a ≤ number_of b
unfolding number_of
number_mono a b h = below_mono threads table a b h

pub number_ascends : (a b : ℕ) (x : Entry) → kind_of a ≡ Listed x → x.scope ≡ Thread → a < b → number_of a < number_of b
number_ascends a b x e q h = omega (arith, number_next a x e q, number_mono (suc a) b h)

-- ---- the element of a number

abbrev pub element : ℕ → ℕ → ℕ → Element
element i n p = record { id = i; size = n; position = p }

abbrev same : Element → Element → Bool
same a b = eqb a.id b.id && (eqb a.size b.size && eqb a.position b.position)

same_eq : (a b : Element) → T (same a b) → a ≡ b
same_eq a b t =
    let u : T (eqb a.size b.size && eqb a.position b.position) = and_right (eqb a.id b.id) _ t in
    ap (λ (i : ℕ). element i a.size a.position) (eqb→eq _ _ (and_left (eqb a.id b.id) _ t))
    ∙ ap₂ (element b.id) (eqb→eq _ _ (and_left (eqb a.size b.size) _ u)) (eqb→eq _ _ (and_right (eqb a.size b.size) _ u))

pub number_element : (id : ℕ) (x : Entry) → kind_of id ≡ Listed x → x.scope ≡ Thread
    → thread_element (number_of id) ≡ element id x.size (position Thread id)
unfolding kind_of find table source_of position below number_of thread_element numbered
number_element id x e q =
    same_eq _ _ (thread_rule
    (λ (i : ℕ) (y : Entry). same (thread_element (number_of i)) (element i y.size (position Thread i)))
    tt id x e q)

-- what the number e of a thread element stands for
pub record Numbered (e : ℕ) : Type 0 where
  pub entry : Entry
  pub listed : kind_of (thread_element e).id ≡ Listed entry
  pub number : number_of (thread_element e).id ≡ e
  pub scope : entry.scope ≡ Thread
  pub size : entry.size ≡ (thread_element e).size
  pub place : position Thread (thread_element e).id ≡ (thread_element e).position
  pub source : entry.source ≡ Stored (thread_element e).position

abbrev agrees : Element → Entry → Bool
agrees a x = same_scope Thread x.scope && (eqb x.size a.size && eqb (position Thread a.id) a.position)

on_listed : (test : Entry → Bool) (k : Kind) → T (on_entry test k) → (x : Entry) × (k ≡ Listed x) × T (test x)
on_listed test Unlisted t = absurd t
on_listed test Nop t = absurd t
on_listed test (Listed x) t = (x, refl, t)

pub same_thread : (s : Scope) → T (same_scope Thread s) → s ≡ Thread
same_thread Guest t = absurd t
same_thread Thread t = refl

abbrev number_test : ℕ → Bool
number_test e = eqb (number_of (thread_element e).id) e && on_entry (agrees (thread_element e)) (kind_of (thread_element e).id)

number_tests : T (all_from number_test 0 170)
unfolding kind_of find table source_of position below number_of thread_element numbered
number_tests = tt

numbered_as_lem : (e : ℕ) (x : Entry) → number_of (thread_element e).id ≡ e → kind_of (thread_element e).id ≡ Listed x
    → T (agrees (thread_element e) x) → Numbered e
numbered_as_lem e x n k t =
    let a : Element = thread_element e in
    let s : x.scope ≡ Thread = same_thread x.scope (and_left (same_scope Thread x.scope) _ t) in
    let u : T (eqb x.size a.size && eqb (position Thread a.id) a.position) = and_right (same_scope Thread x.scope) _ t in
    let p : position Thread a.id ≡ a.position = eqb→eq _ _ (and_right (eqb x.size a.size) _ u) in
    record {
      entry = x;
      listed = k;
      number = n;
      scope = s;
      size = eqb→eq _ _ (and_left (eqb x.size a.size) _ u);
      place = p;
      source = listed_stored a.id x k (thread_stored a.id x k s) ∙ ap Stored (ap (λ (s : Scope). position s a.id) s ∙ p);
    }

pub element_number : (e : ℕ) → e < 170 → Numbered e
element_number e h =
    let i : ℕ = (thread_element e).id in
    let t : T (number_test e) = subst (λ (k : ℕ). T (number_test k)) (zero-add e) (at_from number_test 0 170 number_tests e h) in
    let f = on_listed (agrees (thread_element e)) (kind_of i) (and_right (eqb (number_of i) e) _ t) in
    numbered_as_lem e f.0 (eqb→eq _ _ (and_left (eqb (number_of i) e) _ t)) f.1 f.2

-- ---- the positions that 01 gives

pub paper_places : are_placed Thread slot_places && are_placed Guest guest_places ≡ true
unfolding table position below
paper_places = refl
