-- The registers: what the literals of the code say of an ID is what the table says. Assumes nothing.
use mathlib.Core.Path.{◌≡◌, refl, sym, ap, ap₂, ◌∙◌}
use mathlib.Core.Bool.{Bool, true, false, not, ◌&&◌, ◌||◌, false≢true}
use Prim.Native.Nat.{ℕ, ◌+◌, ◌-◌, ◌*◌, ◌/◌, ◌%◌, ◌^◌, ◌≤◌, ◌<◌}
use native.Mathlib.Omega.{arith}
use lib.Dec.{T, ltb, leb, eqb}
use borrow.Author.Tests.{le-leb, lt-leb, le-ltb, leb-true, ltb-true, ltb-false, eq-eqb, ne_eqb, eqb-true}
use Rattle.elements.specs.declared.Access.{Access}
use Rattle.elements.specs.declared.Access.TheVariants.{Read, Write, ReadWrite}
use Rattle.elements.specs.declared.Scope.TheVariants.{Thread}
use Rattle.elements.specs.declared.Scope.{Scope}
use Rattle.elements.specs.declared.Source.{Source}
use Rattle.elements.specs.declared.Source.TheVariants.{Stored}
use Rattle.elements.specs.declared.Entry.{Entry}
use Rattle.elements.specs.declared.Kind.{Kind}
use Rattle.elements.specs.declared.Kind.TheVariants.{Unlisted, Nop, Listed}
use Rattle.elements.specs.declared.Register.{Register}
use Rattle.elements.specs.Table.{table, find, below, same_scope, position, source_of, kind_of, number_of, thread_element}
use Rattle.elements.specs.Registers.{register_as, register_of, has_size, is_header}
use Rattle.std.specs.Prelude.{Option, Some, None}
use Rattle.elements.specs.Private.{thread_kind}
use Rattle.elements.proofs.Find.{inside, nowhere, clear}
use Rattle.elements.proofs.Table.{and_left, and_right, by, entry_rule, listed_stored, thread_stored, same_thread, source_stored, element, number_element}

-- ---- the three ranges, computed; no register elsewhere

pub double_is : (id : ℕ) → 0x1000 ≤ id → id ≤ 0x1053 → Some (record { size = 8; position = 40 + 8 * (id - 0x1000) }) ≡ register_of id
unfolding register_of kind_of find table source_of position below
double_is id low high = inside register_of (λ (i : ℕ). Some (record { size = 8; position = 40 + 8 * (i - 0x1000) })) 0x1000 84 refl id low (omega arith)

pub word_is : (id : ℕ) → 0x2000 ≤ id → id ≤ 0x200E → Some (record { size = 4; position = 712 + 4 * (id - 0x2000) }) ≡ register_of id
unfolding register_of kind_of find table source_of position below
word_is id low high = inside register_of (λ (i : ℕ). Some (record { size = 4; position = 712 + 4 * (i - 0x2000) })) 0x2000 15 refl id low (omega arith)

pub vector_is : (id : ℕ) → 0x3000 ≤ id → id ≤ 0x303F → Some (record { size = 16; position = 772 + 16 * (id - 0x3000) }) ≡ register_of id
unfolding register_of kind_of find table source_of position below
vector_is id low high = inside register_of (λ (i : ℕ). Some (record { size = 16; position = 772 + 16 * (i - 0x3000) })) 0x3000 64 refl id low (omega arith)

unlisted_none : (id : ℕ) → Unlisted ≡ kind_of id → None ≡ register_of id
unfolding register_of
unlisted_none id e =
    let z : register_as (kind_of id) (position Thread id) ≡ None = ap (λ (k : Kind). register_as k (position Thread id)) (sym e) in
    by (leb 0x1000 id && ltb id 0xF000) (λ h. rw h (sym z)) (λ h. rw h refl)

-- between the ranges, and outside the three
gap : (a b id : ℕ) → clear a b table ≡ true → 0 < a → a ≤ id → id < b → None ≡ register_of id
gap a b id e pos low high = unlisted_none id (nowhere a b e id pos low high)

low_none : (id : ℕ) → id < 0x1000 → None ≡ register_of id
unfolding register_of
low_none id h = sym (simp (lt-leb _ _ h))

high_none : (id : ℕ) → 0xF000 ≤ id → None ≡ register_of id
unfolding register_of
high_none id h = let l : 0x1000 ≤ id = omega arith in sym (simp (le-leb _ _ l, le-ltb _ _ h))

-- in which range an ID is
data Place (id : ℕ) : Type 0 where
  none : None ≡ register_of id → Place id
  double : 0x1000 ≤ id → id ≤ 0x1053 → Place id
  vector : 0x3000 ≤ id → id ≤ 0x303F → Place id
  word : 0x2000 ≤ id → id ≤ 0x200E → Place id

place : (id : ℕ) → Place id
unfolding table
place id =
    by (ltb id 0x1000) (λ h. none (low_none id (ltb-true _ _ h)))
    (λ h. by (ltb id 0x1054) (λ k. double (ltb-false _ _ h) (omega (arith, ltb-true id 0x1054 k)))
    (λ k. by (ltb id 0x2000) (λ l. none (gap 0x1054 0x2000 id refl (omega arith) (ltb-false _ _ k) (ltb-true _ _ l)))
    (λ l. by (ltb id 0x200F) (λ m. word (ltb-false _ _ l) (omega (arith, ltb-true id 0x200F m)))
    (λ m. by (ltb id 0x3000) (λ n. none (gap 0x200F 0x3000 id refl (omega arith) (ltb-false _ _ m) (ltb-true _ _ n)))
    (λ n. by (ltb id 0x3040) (λ o. vector (ltb-false _ _ n) (omega (arith, ltb-true id 0x3040 o)))
    (λ o. by (ltb id 0xF000) (λ p. none (gap 0x3040 0xF000 id refl (omega arith) (ltb-false _ _ o) (ltb-true _ _ p)))
    (λ p. none (high_none id (ltb-false _ _ p)))))))))

-- below them, between two, and above
pub none_below : (id : ℕ) → id < 0x1000 → None ≡ register_of id
none_below id h = low_none id h

pub none_before_words : (id : ℕ) → 0x1053 < id → id < 0x2000 → None ≡ register_of id
unfolding table
none_before_words id h k = gap 0x1054 0x2000 id refl (omega arith) (omega arith) k

pub none_before_vectors : (id : ℕ) → 0x200E < id → id < 0x3000 → None ≡ register_of id
unfolding table
none_before_vectors id h k = gap 0x200F 0x3000 id refl (omega arith) (omega arith) k

pub none_above : (id : ℕ) → 0x303F < id → None ≡ register_of id
unfolding table
none_above id h =
    by (ltb id 0xF000) (λ k. gap 0x3040 0xF000 id refl (omega arith) (omega arith) (ltb-true _ _ k)) (λ k. high_none id (ltb-false _ _ k))

-- ---- the sizes

first_true : (t u : Bool) → t && u ≡ true → t ≡ true
first_true true u h = refl
first_true false u h = h

second_true : (t u : Bool) → t && u ≡ true → u ≡ true
second_true true u h = h
second_true false u h = absurd (false≢true h)

-- in which range a register is, by the size that it has
pub data Sized (id n : ℕ) : Type 0 where
  double : 0x1000 ≤ id → id ≤ 0x1053 → n ≡ 8 → Sized id n
  vector : 0x3000 ≤ id → id ≤ 0x303F → n ≡ 16 → Sized id n
  word : 0x2000 ≤ id → id ≤ 0x200E → n ≡ 4 → Sized id n

same_one : (r s : Register) → Some r ≡ Some s → r ≡ s
same_one r s e = cc

pub sized : (id : ℕ) (r : Register) → Some r ≡ register_of id → Sized id r.size
sized id r e = go (place id)
  where
    its : (s : Register) → Some s ≡ register_of id → r.size ≡ s.size
    its s q = ap (λ (x : Register). x.size) (same_one r s (e ∙ sym q))

    go : Place id → Sized id r.size
    go (none q) = let z : Some r ≡ None = e ∙ sym q in absurd cc
    go (double a b) = double a b (its _ (double_is id a b))
    go (vector a b) = vector a b (its _ (vector_is id a b))
    go (word a b) = word a b (its _ (word_is id a b))

pub vector_low : (id : ℕ) (r : Register) → Some r ≡ register_of id → r.size ≡ 16 → 0x3000 ≤ id
vector_low id r q e = go (sized id r q)
  where
    go : Sized id r.size → 0x3000 ≤ id
    go (double a b z) = absurd (omega (arith, e, z))
    go (vector a b z) = a
    go (word a b z) = absurd (omega (arith, e, z))

-- ---- a header

is_sized : (size : ℕ) (o : Option Register) (r : Register) → o ≡ Some r → r.size ≡ size → has_size size o ≡ true
is_sized size o r e q = ap (has_size size) e ∙ eq-eqb _ _ q

-- the register of a header whose test is true
pub record Headed (size id : ℕ) : Type 0 where
  pub register : Register
  pub is : Some register ≡ register_of id
  pub size_is : register.size ≡ size

headed_by : (size id : ℕ) (o : Option Register) → o ≡ register_of id → has_size size o ≡ true → Headed size id
headed_by size id None e h = absurd (false≢true h)
headed_by size id (Some r) e h = record { register = r; is = e; size_is = eqb-true _ _ h }

-- a range of IDs that has a size of its own is a range of headers
module _ (size low high header : ℕ) (is : (id : ℕ) → low ≤ id → id ≤ high → has_size size (register_of id) ≡ true)
    (only : (id : ℕ) → Headed size id → (low ≤ id) × (id ≤ high)) (short : high < 2 ^ 16) where
  inside_header : size * 2 ^ 16 + low ≤ header → header ≤ size * 2 ^ 16 + high → is_header size header ≡ true
  unfolding is_header
  inside_header a b =
      let q : header / 2 ^ 16 ≡ size = omega arith in
      let c : low ≤ header % 2 ^ 16 = omega arith in
      let d : header % 2 ^ 16 ≤ high = omega arith in
      simp (eq-eqb _ _ q, is (header % 2 ^ 16) c d)

  outside_header : (size * 2 ^ 16 + low ≤ header → header ≤ size * 2 ^ 16 + high → ⊥) → is_header size header ≡ false
  unfolding is_header
  outside_header n =
      by (eqb (header / 2 ^ 16) size)
      (λ (p : eqb (header / 2 ^ 16) size ≡ true). by (has_size size (register_of (header % 2 ^ 16)))
      (λ (q : has_size size (register_of (header % 2 ^ 16)) ≡ true).
      let h : header / 2 ^ 16 ≡ size = eqb-true _ _ p in
      let i = only (header % 2 ^ 16) (headed_by size (header % 2 ^ 16) _ refl q) in
      let a : size * 2 ^ 16 + low ≤ header = omega (arith, i.0) in
      let b : header ≤ size * 2 ^ 16 + high = omega (arith, i.1) in
      absurd (n a b))
      (λ (q : has_size size (register_of (header % 2 ^ 16)) ≡ false). simp (p, q)))
      (λ (p : eqb (header / 2 ^ 16) size ≡ false). simp p)

module _ (size header : ℕ) (s : size ≡ 8) where
  only_double : (i : ℕ) {n : ℕ} → Sized i n → n ≡ 8 → (0x1000 ≤ i) × (i ≤ 0x1053)
  only_double i (double a b z) q = (a, b)
  only_double i (vector a b z) q = absurd (omega arith)
  only_double i (word a b z) q = absurd (omega arith)

  here_double : (i : ℕ) → 0x1000 ≤ i → i ≤ 0x1053 → has_size 8 (register_of i) ≡ true
  here_double i a b = is_sized 8 _ _ (sym (double_is i a b)) refl

  pub double_header : 0x81000 ≤ header → header ≤ 0x81053 → true ≡ is_header size header
  double_header a b = sym (ap (λ (n : ℕ). is_header n header) s ∙ inside_header 8 0x1000 0x1053 header here_double (λ i h. only_double i (sized i h.register h.is) h.size_is) (omega arith) a b)

  not_double : (0x81000 ≤ header → header ≤ 0x81053 → ⊥) → false ≡ is_header size header
  not_double n = sym (ap (λ (n : ℕ). is_header n header) s ∙ outside_header 8 0x1000 0x1053 header here_double (λ i h. only_double i (sized i h.register h.is) h.size_is) (omega arith) n)

  pub under_double : header < 0x81000 → false ≡ is_header size header
  under_double h = not_double (λ a b. omega arith)

  pub over_double : 0x81053 < header → false ≡ is_header size header
  over_double h = not_double (λ a b. omega arith)

module _ (size header : ℕ) (s : size ≡ 16) where
  only_vector : (i : ℕ) {n : ℕ} → Sized i n → n ≡ 16 → (0x3000 ≤ i) × (i ≤ 0x303F)
  only_vector i (double a b z) q = absurd (omega arith)
  only_vector i (vector a b z) q = (a, b)
  only_vector i (word a b z) q = absurd (omega arith)

  here_vector : (i : ℕ) → 0x3000 ≤ i → i ≤ 0x303F → has_size 16 (register_of i) ≡ true
  here_vector i a b = is_sized 16 _ _ (sym (vector_is i a b)) refl

  pub vector_header : 0x103000 ≤ header → header ≤ 0x10303F → true ≡ is_header size header
  vector_header a b = sym (ap (λ (n : ℕ). is_header n header) s ∙ inside_header 16 0x3000 0x303F header here_vector (λ i h. only_vector i (sized i h.register h.is) h.size_is) (omega arith) a b)

  not_vector : (0x103000 ≤ header → header ≤ 0x10303F → ⊥) → false ≡ is_header size header
  not_vector n = sym (ap (λ (n : ℕ). is_header n header) s ∙ outside_header 16 0x3000 0x303F header here_vector (λ i h. only_vector i (sized i h.register h.is) h.size_is) (omega arith) n)

  pub under_vector : header < 0x103000 → false ≡ is_header size header
  under_vector h = not_vector (λ a b. omega arith)

  pub over_vector : 0x10303F < header → false ≡ is_header size header
  over_vector h = not_vector (λ a b. omega arith)

module _ (size header : ℕ) (s : size ≡ 4) where
  only_word : (i : ℕ) {n : ℕ} → Sized i n → n ≡ 4 → (0x2000 ≤ i) × (i ≤ 0x200E)
  only_word i (double a b z) q = absurd (omega arith)
  only_word i (vector a b z) q = absurd (omega arith)
  only_word i (word a b z) q = (a, b)

  here_word : (i : ℕ) → 0x2000 ≤ i → i ≤ 0x200E → has_size 4 (register_of i) ≡ true
  here_word i a b = is_sized 4 _ _ (sym (word_is i a b)) refl

  pub word_header : 0x42000 ≤ header → header ≤ 0x4200E → true ≡ is_header size header
  word_header a b = sym (ap (λ (n : ℕ). is_header n header) s ∙ inside_header 4 0x2000 0x200E header here_word (λ i h. only_word i (sized i h.register h.is) h.size_is) (omega arith) a b)

  not_word : (0x42000 ≤ header → header ≤ 0x4200E → ⊥) → false ≡ is_header size header
  not_word n = sym (ap (λ (n : ℕ). is_header n header) s ∙ outside_header 4 0x2000 0x200E header here_word (λ i h. only_word i (sized i h.register h.is) h.size_is) (omega arith) n)

  pub under_word : header < 0x42000 → false ≡ is_header size header
  under_word h = not_word (λ a b. omega arith)

  pub over_word : 0x4200E < header → false ≡ is_header size header
  over_word h = not_word (λ a b. omega arith)

-- no register has another size
pub headed_none : (size header : ℕ) → (size ≡ 8 → ⊥) → (size ≡ 16 → ⊥) → (size ≡ 4 → ⊥) → false ≡ is_header size header
unfolding is_header
headed_none size header d v w =
    sym (by (has_size size (register_of (header % 2 ^ 16))) (λ h. none_such (headed_by size (header % 2 ^ 16) _ refl h)) (λ h. by (eqb (header / 2 ^ 16) size) (λ p. simp (p, h)) (λ p. simp p)))
  where
    none_such : Headed size (header % 2 ^ 16) → is_header size header ≡ false
    none_such h = go (sized (header % 2 ^ 16) h.register h.is) h.size_is
      where
        go : {n : ℕ} → Sized (header % 2 ^ 16) n → n ≡ size → is_header size header ≡ false
        go (double a b z) q = absurd (d (sym q ∙ z))
        go (vector a b z) q = absurd (v (sym q ∙ z))
        go (word a b z) q = absurd (w (sym q ∙ z))

-- what a header's test says
module _ (found : Bool) (size header : ℕ) (e : found ≡ is_header size header) (t : found ≡ true) where
  told : is_header size header ≡ true
  told = sym e ∙ t

  pub header_size : header / 2 ^ 16 ≡ size
  unfolding is_header
  header_size = eqb-true _ _ (first_true _ _ told)

  pub header_register : Headed size (header % 2 ^ 16)
  unfolding is_header
  header_register = headed_by size (header % 2 ^ 16) _ refl (second_true (eqb (header / 2 ^ 16) size) _ told)

-- ---- what a register is: a thread element of that size and position, and every use of a vCPU may read and write it but PPR

abbrev in_reach : ℕ → Bool
in_reach id = leb 0x1000 id && ltb id 0xF000

abbrev both : Access → Bool
both Read = false
both Write = false
both ReadWrite = true

is_both : (a : Access) → T (both a) → a ≡ ReadWrite
is_both Read t = absurd t
is_both Write t = absurd t
is_both ReadWrite t = refl

abbrev fair : ℕ → Entry → Bool
fair id x = not (in_reach id) || (same_scope Thread x.scope && (eqb id 0x103A || both x.access))

pub record IsRegister (id : ℕ) (r : Register) : Type 0 where
  pub access : Access
  pub low : 0x1000 ≤ id
  pub kind : thread_kind r.size access r.position ≡ kind_of id
  pub plain : (id ≡ 0x103A → ⊥) → access ≡ ReadWrite

listed_fair : (id : ℕ) (x : Entry) → kind_of id ≡ Listed x → T (fair id x)
unfolding kind_of find table source_of position below
listed_fair id x e = entry_rule fair tt id x e

module _ (id : ℕ) (r : Register) (x : Entry) (e : kind_of id ≡ Listed x) (reach : in_reach id ≡ true) (q : Some r ≡ register_as (Listed x) (position Thread id)) where
  fair_here : T (same_scope Thread x.scope && (eqb id 0x103A || both x.access))
  fair_here = rw reach at (listed_fair id x e)

  in_thread : x.scope ≡ Thread
  in_thread = same_thread x.scope (and_left (same_scope Thread x.scope) _ fair_here)

  as_thread : thread_kind r.size x.access r.position ≡ kind_of id
  as_thread =
      let p : x.source ≡ Stored (position Thread id) = listed_stored id x e (thread_stored id x e in_thread) ∙ ap (λ (s : Scope). Stored (position s id)) in_thread in
      ap (λ (y : Register). thread_kind y.size x.access y.position) (same_one r _ q)
      ∙ ap₂ (λ (s : Scope) (y : Source). Listed (record { size = x.size; access = x.access; scope = s; source = y })) (sym in_thread) (sym p)
      ∙ sym e

  unless_ppr : (id ≡ 0x103A → ⊥) → x.access ≡ ReadWrite
  unless_ppr n =
      let t : T (eqb id 0x103A || both x.access) = and_right (same_scope Thread x.scope) _ fair_here in
      is_both x.access (rw (ne_eqb id 0x103A n) at t)

  listed_register : IsRegister id r
  listed_register =
      record { access = x.access; low = leb-true _ _ (first_true (leb 0x1000 id) (ltb id 0xF000) reach); kind = as_thread; plain = unless_ppr }

pub is_register : (id : ℕ) (r : Register) → Some r ≡ register_of id → IsRegister id r
unfolding register_of
is_register id r e =
    by (in_reach id) (λ (h : in_reach id ≡ true). go h (kind_of id) refl (rw h at e))
    (λ (h : in_reach id ≡ false). let z : Some r ≡ None = rw h at e in absurd cc)
  where
    go : in_reach id ≡ true → (k : Kind) → kind_of id ≡ k → Some r ≡ register_as (kind_of id) (position Thread id) → IsRegister id r
    go h Unlisted q p = let z : Some r ≡ None = p ∙ ap (λ (k : Kind). register_as k (position Thread id)) q in absurd cc
    go h Nop q p = let z : Some r ≡ None = p ∙ ap (λ (k : Kind). register_as k (position Thread id)) q in absurd cc
    go h (Listed x) q p = listed_register id r x q h (p ∙ ap (λ (k : Kind). register_as k (position Thread id)) q)

pub ppr_double : (r : Register) → Some r ≡ register_of 0x103A → r.size ≡ 8
unfolding register_of kind_of find table source_of position below
ppr_double r e = ap (λ (x : Register). x.size) (same_one r _ e)

pub register_element : (id : ℕ) (r : Register) → IsRegister id r → element id r.size r.position ≡ thread_element (number_of id)
register_element id r i =
    let x : Entry = record { size = r.size; access = i.access; scope = Thread; source = Stored r.position } in
    ap (element id r.size) (source_stored id x r.position (sym i.kind) refl).1 ∙ sym (number_element id x (sym i.kind) refl)

-- what the two functions of the literals rest on
pub ruleset by_range = (double_is, vector_is, word_is, none_below, none_before_words, none_before_vectors, none_above)

pub ruleset by_header = (double_header, under_double, over_double, vector_header, under_vector, over_vector, word_header, under_word, over_word, headed_none)
