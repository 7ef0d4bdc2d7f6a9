-- A register's number follows from its ID, by its size: computed over the table. Assumes nothing.
use mathlib.Core.Path.{◌≡◌, refl, sym, ap, ap₂, ◌∙◌, subst}
use mathlib.Core.Bool.{Bool, true, not, cond, ◌&&◌, ◌||◌}
use Prim.Native.Nat.{ℕ, ◌+◌, ◌-◌, ◌^◌, ◌≤◌, ◌<◌}
use native.Mathlib.Omega.{arith}
use lib.Dec.{T, ltb, leb, eqb, leb→le, eqb→eq}
use borrow.Author.Tests.{ne_eqb}
use Rattle.elements.specs.declared.Scope.TheVariants.{Thread}
use Rattle.elements.specs.declared.Entry.{Entry}
use Rattle.elements.specs.declared.Source.TheVariants.{Stored}
use Rattle.elements.specs.declared.Kind.TheVariants.{Listed}
use Rattle.elements.specs.declared.Register.{Register}
use Rattle.elements.specs.declared.Element.{Element}
use Rattle.elements.specs.declared.Cell.{Cell}
use Rattle.elements.specs.Table.{table, find, below, position, source_of, kind_of, number_of, numbered, thread_element}
use Rattle.elements.specs.Right.{every_entry, past}
use Rattle.elements.specs.Registers.{register_of}
use Rattle.elements.specs.Cells.{cell_of, cell_for, register_cell}
use Rattle.std.specs.Prelude.{Option, Some, None}
use Rattle.elements.proofs.Table.{and_left, and_right, by, T_true, entry_rule, table_right, number_mono}
use Rattle.elements.proofs.RegisterLaws.{IsRegister, is_register, register_element}

-- ---- the number
abbrev is_nth : ℕ → ℕ → ℕ → Bool
is_nth first low id = leb low id && eqb (first + (id - low)) (number_of id)

abbrev is_counted : ℕ → ℕ → Bool
is_counted size id = cond (eqb size 8) (is_nth 3 0x1000 id) (cond (eqb size 16) (is_nth 102 0x3000 id) (is_nth 87 0x2000 id))

abbrev pub in_reach : ℕ → Bool
in_reach id = leb 0x1000 id && ltb id 0xF000

abbrev counted : ℕ → Entry → Bool
counted id x = not (in_reach id) || is_counted x.size id

all_counted : (id : ℕ) (x : Entry) → kind_of id ≡ Listed x → T (counted id x)
unfolding kind_of find table source_of position below number_of
all_counted id x e = entry_rule counted tt id x e

module _ (id : ℕ) (r : Register) (q : Some r ≡ register_of id) where
  in_reach_lem : in_reach id ≡ true
  unfolding register_of
  in_reach_lem = by (in_reach id) (λ h. h) (λ h. let z : Some r ≡ None = rw h at q in absurd cc)

  its : IsRegister id r
  its = is_register id r q

  its_count : T (is_counted r.size id)
  its_count =
      rw in_reach_lem at (all_counted id (record { size = r.size; access = its.access; scope = Thread; source = Stored r.position }) (sym its.kind))

  nth : (first low : ℕ) → T (is_nth first low id) → (low ≤ id) × (first + (id - low) ≡ number_of id)
  nth first low t = (leb→le _ _ (and_left (leb low id) _ t), eqb→eq _ _ (and_right (leb low id) _ t))

  double : r.size ≡ 8 → (0x1000 ≤ id) × (3 + (id - 0x1000) ≡ number_of id)
  double e = nth 3 0x1000 (subst (λ (n : ℕ). T (is_counted n id)) e its_count)

  vector : r.size ≡ 16 → (0x3000 ≤ id) × (102 + (id - 0x3000) ≡ number_of id)
  vector e = nth 102 0x3000 (subst (λ (n : ℕ). T (is_counted n id)) e its_count)

  word : (r.size ≡ 8 → ⊥) → (r.size ≡ 16 → ⊥) → (0x2000 ≤ id) × (87 + (id - 0x2000) ≡ number_of id)
  word d v = nth 87 0x2000 (rw (ne_eqb _ _ d, ne_eqb _ _ v) at its_count)

  pub double_low : r.size ≡ 8 → 0x1000 ≤ id
  double_low e = (double e).0

  pub double_number : r.size ≡ 8 → 3 + (id - 0x1000) ≡ number_of id
  double_number e = (double e).1

  pub vector_low : r.size ≡ 16 → 0x3000 ≤ id
  vector_low e = (vector e).0

  pub vector_number : r.size ≡ 16 → 102 + (id - 0x3000) ≡ number_of id
  vector_number e = (vector e).1

  pub word_low : (r.size ≡ 8 → ⊥) → (r.size ≡ 16 → ⊥) → 0x2000 ≤ id
  word_low d v = (word d v).0

  pub word_number : (r.size ≡ 8 → ⊥) → (r.size ≡ 16 → ⊥) → 87 + (id - 0x2000) ≡ number_of id
  word_number d v = (word d v).1

-- ---- the cell
pub cell_none : (id : ℕ) → None ≡ register_of id → None ≡ register_cell id
unfolding register_cell
cell_none id e = ap (λ (o : Option Register). cell_for o id) e

module _ (id : ℕ) (r : Register) (e : Some r ≡ register_of id) where
  found : register_cell id ≡ Some (cell_of id)
  unfolding register_cell
  found = sym (ap (λ (o : Option Register). cell_for o id) e)

  pub cell_register : (n : ℕ) → n ≡ number_of id → Some (record { number = n; size = r.size; position = r.position }) ≡ register_cell id
  unfolding cell_of
  cell_register n m =
      let x : Element = record { id = id; size = r.size; position = r.position } in
      let q : x ≡ thread_element (number_of id) = register_element id r (is_register id r e) in
      ap₂ (λ (k : ℕ) (y : Element). Some (record { number = k; size = y.size; position = y.position })) m q ∙ sym found

module _ (id n : ℕ) (e : n ≡ number_of id) where
  pub cell_table : (x : Element) → x ≡ thread_element n → record { number = n; size = x.size; position = x.position } ≡ cell_of id
  unfolding cell_of
  cell_table x q = ap₂ (λ (k : ℕ) (y : Element). record { number = k; size = y.size; position = y.position }) e (q ∙ ap thread_element e)

  none_there : thread_element 170 ≡ record { id = 0; size = 0; position = 0 }
  unfolding thread_element numbered table
  none_there = refl

  pub cell_past : 170 ≤ n → id < 2 ^ 16 → record { number = n; size = 0; position = 0 } ≡ cell_of id
  cell_past h l =
      let q : n ≡ 170 = omega (arith, number_mono id past (omega arith), table_right.thread_elements) in
      cell_table (record { id = 0; size = 0; position = 0 }) (sym (ap thread_element q ∙ none_there))

-- ---- a register's cell
module _ (id : ℕ) (x : Cell) (e : Some x ≡ register_cell id) where
  abbrev pub Found : Option Register → Type 0
  Found o = Some x ≡ cell_for o id → (x ≡ cell_of id) × (r : Register) × (Some r ≡ o)

  by_register : (o : Option Register) → Found o
  by_register None q = let z : Some x ≡ None = q in absurd cc
  by_register (Some r) q = (cc, r, refl)

  known : (x ≡ cell_of id) × (r : Register) × (Some r ≡ register_of id)
  unfolding register_cell
  known = by_register (register_of id) e

  pub cell_known : x ≡ cell_of id
  cell_known = known.0

  -- what is computed of every register
  pub cell_rule : (test : ℕ → Bool) → T (every_entry (λ (i : ℕ) (y : Entry). not (in_reach i) || test i)) → test id ≡ true
  cell_rule test t =
      let r = known.1 in
      let i = is_register id r known.2 in
      let y : Entry = record { size = r.size; access = i.access; scope = Thread; source = Stored r.position } in
      T_true (test id) (rw (in_reach_lem id r known.2) at (entry_rule (λ (i : ℕ) (y : Entry). not (in_reach i) || test i) t id y (sym i.kind)))

-- what a register's number and its cell rest on
pub ruleset by_size = (double_low, double_number, vector_low, vector_number, word_low, word_number)

pub ruleset by_found = (cell_none, cell_register)
