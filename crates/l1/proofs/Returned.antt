-- The output of a run as a list of elements: each is one of the cache's, which can keep its value. Assumes nothing.
use mathlib.Core.Path.{◌≡◌, refl, sym, ap, ◌∙◌, subst}
use mathlib.Core.Bool.{Bool, true, false, ◌&&◌, cond}
use mathlib.Core.List.{List, [], ◌∷◌}
use Prim.Native.Nat.{ℕ, zero, suc, ◌+◌, ◌≤◌, ◌<◌}
use native.Mathlib.Omega.{arith}
use lib.Dec.{eqb, ltb}
use lib.ListN.{length, get_or}
use borrow.Author.Tests.{eqb-true, ltb-true}
use Rattle.elements.specs.declared.Scope.{Scope}
use Rattle.elements.specs.declared.Source.{Source}
use Rattle.elements.specs.declared.Kind.{Kind}
use Rattle.elements.specs.Cells.{cell_of}
use Rattle.elements.specs.Table.{table, below, position, kind_of, number_of, numbered, thread_element}
use Rattle.elements.proofs.Table.{listed_stored, thread_stored}
use Rattle.gsb.specs.Walk.{count_of, id_at, size_at, offset_at}
use Rattle.gsb.specs.Message.{message, Begins, nth_id, nth_value, Wire}
use Rattle.gsb.proofs.Messages.{length_message}
use Rattle.gsb.proofs.RoundTrip.{wire_nil, wire_cons, listed_fits, message_count, message_id, message_size, message_inside}
use Rattle.store.proofs.Search.{both}
use Rattle.octets.specs.Bytes.{put}
use Rattle.transfer.specs.Transfer.{put_from, put_as}
use Rattle.l1.specs.Private.{Within, Keeps, AllKeeps}
use Rattle.l1.proofs.Values.{named_within}
use Rattle.exits.specs.Exits.{exits, row_of, returned, element_of, valued}
use Rattle.exits.proofs.Written.{length_valued}
use Rattle.l1.proofs.Cells.{Named, element_size, element_place, number_named, value_of, length_value}

-- ---- computed over the table of exits: every ID in it names a thread element
abbrev id_named : ℕ → Bool
id_named id = ltb (number_of id) 170 && eqb (thread_element (number_of id)).id id

abbrev all_named : List ℕ → Bool
all_named [] = true
all_named (id ∷ ids) = id_named id && all_named ids

abbrev rows_named : List (ℕ × List ℕ) → Bool
rows_named [] = true
rows_named (x ∷ xs) = all_named x.1 && rows_named xs

rows_named_lem : rows_named exits ≡ true
unfolding exits thread_element numbered number_of position below table
rows_named_lem = refl

abbrev pub AllNamed : List ℕ → Type 0
AllNamed [] = Unit {0}
AllNamed (id ∷ ids) = Named id × AllNamed ids

all_named_lem : (ids : List ℕ) → all_named ids ≡ true → AllNamed ids
all_named_lem [] e = tt
all_named_lem (id ∷ ids) e =
    let p = both (id_named id) (all_named ids) e in
    let q = both (ltb (number_of id) 170) (eqb (thread_element (number_of id)).id id) p.0 in
    (subst Named (eqb-true _ _ q.1) (number_named (number_of id) (ltb-true _ _ q.0)), all_named_lem ids p.1)

row_named : (xs : List (ℕ × List ℕ)) (exit : ℕ) → rows_named xs ≡ true → all_named (row_of xs exit) ≡ true
unfolding row_of
row_named [] exit e = refl
row_named (x ∷ xs) exit e = go (eqb x.0 exit) (both (all_named x.1) (rows_named xs) e) (row_named xs exit)
  where
    go : (t : Bool) → (all_named x.1 ≡ true) × (rows_named xs ≡ true) → (rows_named xs ≡ true → all_named (row_of xs exit) ≡ true) → all_named (cond t x.1 (row_of xs exit)) ≡ true
    go true p ih = p.0
    go false p ih = ih p.1

pub returned_named : (exit : ℕ) → AllNamed (returned exit)
returned_named exit = all_named_lem (returned exit) (row_named exits exit rows_named_lem)

-- ---- the output as it is read
pub valued_id : (base : ℕ) (s ids : List ℕ) (i : ℕ) → i < length ids → nth_id (valued base s ids) i ≡ get_or ids i 0
unfolding valued
valued_id base s [] i h = absurd (omega arith)
valued_id base s (id ∷ ids) zero h = refl
valued_id base s (id ∷ ids) (suc i) h = valued_id base s ids i (omega arith)

valued_value : (base : ℕ) (s ids : List ℕ) (i : ℕ) → i < length ids → nth_value (valued base s ids) i ≡ value_of base s (get_or ids i 0)
unfolding valued
valued_value base s [] i h = absurd (omega arith)
valued_value base s (id ∷ ids) zero h = refl
valued_value base s (id ∷ ids) (suc i) h = valued_value base s ids i (omega arith)

named_at : (ids : List ℕ) → AllNamed ids → (i : ℕ) → i < length ids → Named (get_or ids i 0)
named_at [] n i h = absurd (omega arith)
named_at (id ∷ ids) n zero h = n.0
named_at (id ∷ ids) n (suc i) h = named_at ids n.1 i (omega arith)

-- a thread element's value goes to its cell
named_puts : (a id : ℕ) → a ≡ id → Named id → (v s : List ℕ) → put_as (kind_of a) 0 v s ≡ put s (cell_of a).position v
unfolding put_as put_from cell_of
named_puts a id e t v s =
    ap (λ (k : Kind). put_as k 0 v s) (ap kind_of e ∙ t.listed)
    ∙ ap (λ (x : Source). put_from x 0 v s) (listed_stored id t.entry t.listed (thread_stored id t.entry t.listed t.scope))
    ∙ ap (λ (n : ℕ). put s n v) (omega (arith, place))
  where
    place : position t.entry.scope id ≡ (cell_of a).position
    place = ap (λ (c : Scope). position c id) t.scope ∙ sym (element_place id t) ∙ ap (λ (n : ℕ). (element_of n).position) (sym e)

module _ (base : ℕ) (s : List ℕ) (room : base + 1820 ≤ length s) where
  pub valued_wire : (ids : List ℕ) → AllNamed ids → length ids ≤ 170 → Wire (valued base s ids)
  unfolding valued
  valued_wire [] n h = wire_nil
  valued_wire (id ∷ ids) n h =
      let t = n.0 in
      let k = listed_fits id t.entry (value_of base s id) t.listed (length_value base s room id t ∙ element_size id t) in
      wire_cons id (value_of base s id) (valued base s ids) k.0 k.1 (omega (arith, length_valued base s ids)) (valued_wire ids n.1 (omega arith))

  -- each can be kept in the cache
  pub valued_keeps : (ids : List ℕ) → AllNamed ids → length ids ≤ 170 → (b : List ℕ) → Begins b (message (valued base s ids)) → AllKeeps b
  unfolding cell_of
  valued_keeps ids n few b k = record { long = omega (arith, k.within, length_message (valued base s ids)); each = each }
    where
      wire : Wire (valued base s ids)
      wire = valued_wire ids n few

      each : (i : ℕ) → i < count_of b → Keeps b (offset_at b i)
      each i h =
          let es = valued base s ids in
          let c : i < length es = omega (arith, message_count es b wire k) in
          let l : i < length ids = omega (arith, length_valued base s ids) in
          let t = named_at ids n i l in
          let q : id_at b (offset_at b i) ≡ get_or ids i 0 = message_id es b wire k i c ∙ valued_id base s ids i l in
          let z : size_at b (offset_at b i) ≡ (element_of (get_or ids i 0)).size = message_size es b wire k i c ∙ ap length (valued_value base s ids i l) ∙ length_value base s room (get_or ids i 0) t in
          record {
            inside = message_inside es b wire k i c;
            cell = subst (λ (x : ℕ). Within (cell_of x)) (sym q) (named_within (get_or ids i 0) t);
            size = z ∙ ap (λ (x : ℕ). (element_of x).size) (sym q);
            puts = named_puts (id_at b (offset_at b i)) (get_or ids i 0) q t;
          }
