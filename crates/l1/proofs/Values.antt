-- A value in the cache: the tests of it, its place, and a write, in the form of the code's needs. Assumes nothing.
use mathlib.Core.Path.{◌≡◌, refl, sym, ap, ap₂, ◌∙◌, subst}
use mathlib.Core.Bool.{Bool, true, false, not, cond, ◌&&◌, ◌||◌}
use mathlib.Core.Logic.{inl, inr}
use mathlib.Core.List.{List, [], ◌∷◌}
use Prim.Native.Nat.{ℕ, ◌+◌, ◌≤◌, ◌<◌}
use native.Mathlib.Omega.{arith}
use lib.Dec.{T, eqb, ltb}
use lib.ListN.{length}
use borrow.Author.Tests.{ne_eqb, eqb-true}
use Rattle.std.specs.Array.{IsWholeChunk}
use Rattle.std.specs.Prelude.{Option, Some, None, Result, Ok, Err}
use Rattle.octets.specs.Bytes.{bytes_at, put}
use Rattle.octets.proofs.Bytes.{whole}
use Rattle.answer.specs.declared.Bad.TheVariants.{Id, Size}
use Rattle.answer.specs.declared.Fault.{Fault}
use Rattle.answer.specs.declared.Fault.TheVariants.{Length, Element, Cache as CacheBad}
use Rattle.answer.specs.declared.Answer.{Answer}
use Rattle.answer.specs.Refusals.{first_of}
use Rattle.elements.specs.declared.Scope.TheVariants.{Thread}
use Rattle.rules.specs.declared.Usage.TheVariants.{ThreadGet, RunInput}
use Rattle.elements.specs.declared.Offer.{Offer}
use Rattle.elements.specs.declared.Offer.TheVariants.{Full}
use Rattle.elements.specs.declared.Entry.{Entry}
use Rattle.elements.specs.declared.Cell.{Cell}
use Rattle.elements.specs.Table.{table, below, position, source_of, find, kind_of, number_of, numbered, thread_element}
use Rattle.elements.specs.Later.{offer_of, offers}
use Rattle.elements.specs.Cells.{cell_of, register_cell}
use Rattle.rules.specs.Rules.{allows, permits}
use Rattle.elements.specs.Right.{every_entry}
use Rattle.elements.proofs.Table.{Numbered, element_number, position_end, thread_stored, size_bound}
use Rattle.elements.proofs.CellLaws.{in_reach, cell_known, cell_rule}
use Rattle.rules.proofs.Lists.{permits_by}
use Rattle.exits.specs.Exits.{element_of}
use Rattle.store.specs.Search.{every}
use Rattle.store.proofs.Search.{both, no_bool, every_at}
use Rattle.admission.specs.Refusals.{success, refusal}
use Rattle.l1.specs.Marks.{Cache, with_mark, allowed, is_input, is_readable, is_special, good_cache}
use Rattle.l1.specs.Cache.{place_zero, value_tests, WriteOutcome, change, write_cache, keep}
use Rattle.l1.specs.Private.{good_marks, cell_if, Sized, Within, kept_at, changed_at, element_tests, cell_good, element_good}
use Rattle.l1.proofs.Marking.{input_nop, input_as, readable_nop, readable_input, readable_output, readable_as, short_values, short_marks, good_words}
use Rattle.l1.proofs.Cells.{Named, named_number, input_named}

-- what a list permits is what 01's permits and the list has
and_same : (a b c : Bool) → (a && (b && c)) ≡ ((a && b) && c)
and_same true b c = refl
and_same false b c = refl

pub input_by : (o : Offer) (id : ℕ) → is_input o id ≡ is_input Full id && offers o id
unfolding is_input
input_by o id = ap (λ (t : Bool). not (eqb id 0) && t) (permits_by RunInput 0 0 o id) ∙ and_same (not (eqb id 0)) (allowed Full RunInput id) (offers o id)

readable_by : (o : Offer) (id : ℕ) → is_readable o id ≡ is_readable Full id && offers o id
unfolding is_readable
readable_by o id = ap (λ (t : Bool). not (is_special id) && t) (permits_by ThreadGet 0 0 o id) ∙ and_same (not (is_special id)) (allowed Full ThreadGet id) (offers o id)

pub readable_full : (o : Offer) (id : ℕ) → is_readable o id ≡ true → is_readable Full id ≡ true
readable_full o id e = (both (is_readable Full id) (offers o id) (sym (readable_by o id) ∙ e)).0

-- the sizes of the 170, computed
abbrev is_sized : ℕ → Bool
is_sized n = eqb n 4 || (eqb n 8 || eqb n 16)

all_sized : every (λ e. is_sized (thread_element e).size) 170 0 ≡ true
unfolding every thread_element numbered table
all_sized = refl

sized : (n : ℕ) → is_sized n ≡ true → Sized n
sized n e = go (eqb n 4) (eqb n 8) (eqb n 16) refl refl refl e
  where
    go : (a b c : Bool) → eqb n 4 ≡ a → eqb n 8 ≡ b → eqb n 16 ≡ c → (a || (b || c)) ≡ true → Sized n
    go true b c p q r e = inl (eqb-true n 4 p)
    go false true c p q r e = inr (inl (eqb-true n 8 q))
    go false false true p q r e = inr (inr (eqb-true n 16 r))
    go false false false p q r e = absurd (no_bool e)

module _ (e : ℕ) (h : e < 170) where
  the_number : Numbered e
  the_number = element_number e h

  pub number_inside : (thread_element e).position + (thread_element e).size ≤ 1820
  number_inside =
      let n = the_number in
      let i = (thread_element e).id in
      let p = position_end Thread i n.entry n.listed n.scope (thread_stored i n.entry n.listed n.scope) in
      omega (arith, p, n.size, n.place)

  pub number_small : (thread_element e).size ≤ 24
  number_small = omega (arith, the_number.size, (size_bound (thread_element e).id the_number.entry the_number.listed).1)

  pub number_sized : Sized (thread_element e).size
  number_sized = sized (thread_element e).size (every_at (λ e. is_sized (thread_element e).size) 170 0 all_sized e (omega arith) (omega arith))

  pub number_back : element_of (thread_element e).id ≡ thread_element e
  number_back = ap thread_element the_number.number

-- ---- the cell of an ID
pub named_within : (id : ℕ) → Named id → Within (cell_of id)
unfolding cell_of
named_within id t =
    let h = named_number id t in
    record { number = h; inside = number_inside (number_of id) h; sized = number_sized (number_of id) h }

-- each register is an input, and each but PPR can be read, by 01's list: computed
inputs_all : T (every_entry (λ (i : ℕ) (x : Entry). not (in_reach i) || is_input Full i))
unfolding is_input permits allows offers kind_of find table source_of position below
inputs_all = tt

readables_all : T (every_entry (λ (i : ℕ) (x : Entry). not (in_reach i) || (eqb i 0x103A || is_readable Full i)))
unfolding is_readable permits allows offers kind_of find table source_of position below
readables_all = tt

-- what is named is the cell of the ID, or none
named : (id : ℕ) (x : Cell) (good : Bool) → x ≡ cell_of id → good ≡ true → Some x ≡ cell_if good id
unfolding cell_if
named id x good e g = ap Some e ∙ sym (ap (λ (t : Bool). cond t (Some (cell_of id)) None) g)

unnamed : (id : ℕ) (good : Bool) → good ≡ false → None ≡ cell_if good id
unfolding cell_if
unnamed id good g = sym (ap (λ (t : Bool). cond t (Some (cell_of id)) None) g)

module _ (id : ℕ) (x : Cell) (e : Some x ≡ register_cell id) (o : Offer) (f : offers o id ≡ true) where
  pub cell_input : Some x ≡ cell_if (is_input o id) id
  cell_input =
      named id x (is_input o id) (cell_known id x e)
      (input_by o id ∙ ap₂ (λ (a b : Bool). a && b) (cell_rule id x e (is_input Full) inputs_all) f)

  pub cell_readable : (id ≡ 0x103A → ⊥) → Some x ≡ cell_if (is_readable o id) id
  cell_readable p =
      named id x (is_readable o id) (cell_known id x e)
      (readable_by o id ∙ ap₂ (λ (a b : Bool). a && b)
      (ap (λ (b : Bool). b || is_readable Full id) (sym (ne_eqb id 0x103A p)) ∙ cell_rule id x e (λ i. eqb i 0x103A || is_readable Full i) readables_all) f)

-- by the table, past the IDs that the operation never takes
pub cell_other : (o : Offer) (id : ℕ) → (id ≡ 0 → ⊥) → cell_if (allowed o RunInput id) id ≡ cell_if (is_input o id) id
cell_other o id n = ap (λ (t : Bool). cell_if t id) (sym (input_as o id n))

pub cell_given : (o : Offer) (id : ℕ) → (id ≡ 0 → ⊥) → (id ≡ 0x0C00 → ⊥) → (id ≡ 0x0C01 → ⊥) → cell_if (allowed o ThreadGet id) id ≡ cell_if (is_readable o id) id
cell_given o id n i p = ap (λ (t : Bool). cell_if t id) (sym (readable_as o id n i p))

pub cell_listed : (id : ℕ) (x : Cell) (good : Bool) → x ≡ cell_of id → good ≡ true → Some x ≡ cell_if good id
cell_listed id x good e g = named id x good e g

pub cell_not : (id : ℕ) (good : Bool) → good ≡ false → None ≡ cell_if good id
cell_not id good g = unnamed id good g

pub cell_input_nop : (o : Offer) (id : ℕ) → id ≡ 0 → None ≡ cell_if (is_input o id) id
cell_input_nop o id e = unnamed id (is_input o id) (input_nop o id e)

pub cell_nop : (o : Offer) (id : ℕ) → id ≡ 0 → None ≡ cell_if (is_readable o id) id
cell_nop o id e = unnamed id (is_readable o id) (readable_nop o id e)

pub cell_run_input : (o : Offer) (id : ℕ) → id ≡ 0x0C00 → None ≡ cell_if (is_readable o id) id
cell_run_input o id e = unnamed id (is_readable o id) (readable_input o id e)

pub cell_run_output : (o : Offer) (id : ℕ) → id ≡ 0x0C01 → None ≡ cell_if (is_readable o id) id
cell_run_output o id e = unnamed id (is_readable o id) (readable_output o id e)

pub ruleset by_table = (cell_listed, cell_not)

pub ruleset by_input = (cell_input, cell_input_nop, cell_other)

pub ruleset by_readable = (cell_readable, cell_nop, cell_run_input, cell_run_output, cell_given)

-- ---- the tests of a write or a read
-- what is done after them, or what refuses
abbrev pub on_tests : {A : Type 0} → (Fault → A) → A → Result Cell Fault → A
on_tests refuse done (Ok x) = done
on_tests refuse done (Err f) = refuse f

-- by the ID's cell they are those of the definition, where the lengths are those of a cache
pub tests_same : {A : Type 0} (refuse : Fault → A) (done : A) (o : Offer) (vs ms : List ℕ) → length vs ≡ 1820 → length ms ≡ 6 → (good : Bool) (id : ℕ) (v : List ℕ)
    → first_of refuse (element_tests o (record { values = vs; marks = ms }) good id v) done ≡ on_tests refuse done (element_good o ms (cell_if good id) v)
unfolding element_good cell_if cell_of
tests_same {A} refuse done o vs ms l k good id v =
    ap (λ (t : Bool). first_of refuse ((not t, CacheBad) ∷ value_tests good id v) done) (good_words o vs ms l k)
    ∙ go (not (good_marks o ms)) (ltb 65528 (length v)) good
  where
    last : (d : Bool) → cond (not d) (refuse (Element Size place_zero)) done ≡ on_tests refuse done (cond d (Ok (cell_of id)) (Err (Element Size place_zero)))
    last true = refl
    last false = refl

    go : (a b g : Bool) → first_of refuse ((a, CacheBad) ∷ (b, Length) ∷ (not g, Element Id place_zero) ∷ (not (eqb (length v) (element_of id).size), Element Size place_zero) ∷ []) done
        ≡ on_tests refuse done (first_of Err ((a, CacheBad) ∷ (b, Length) ∷ []) (cell_good (cond g (Some (cell_of id)) None) v))
    go true b g = refl
    go false true g = refl
    go false false false = refl
    go false false true = last (eqb (length v) (element_of id).size)

pub whole_long : (vs us : List ℕ) (n : ℕ) → IsWholeChunk vs us n → length us ≡ n
whole_long vs us n p = ap length p.same ∙ p.long

-- what they say where none holds
pub record Admitted (good : Bool) (id : ℕ) (x : Cell) (v : List ℕ) : Type 0 where
  pub taken : good ≡ true
  pub cell : x ≡ cell_of id
  pub size : length v ≡ x.size

pub admitted : (o : Offer) (ms : List ℕ) (good : Bool) (id : ℕ) (x : Cell) (v : List ℕ) (y : Option Cell) → y ≡ cell_if good id
    → Ok x ≡ element_good o ms y v → Admitted good id x v
unfolding element_good cell_if
admitted o ms good id x v y e q =
    go (good_marks o ms) (ltb 65528 (length v)) good refl
    (q ∙ ap (λ (z : Option Cell). first_of Err ((not (good_marks o ms), CacheBad) ∷ (ltb 65528 (length v), Length) ∷ []) (cell_good z v)) e)
  where
    last : (d : Bool) → eqb (length v) (cell_of id).size ≡ d → Ok x ≡ cond d (Ok (cell_of id)) (Err (Element Size place_zero)) → (x ≡ cell_of id) × (length v ≡ x.size)
    last true p w = let z : x ≡ cell_of id = cc w in (z, eqb-true _ _ p ∙ ap (λ (y : Cell). y.size) (sym z))
    last false p w = absurd (cc w)

    go : (a b g : Bool) → good ≡ g → Ok x ≡ first_of Err ((not a, CacheBad) ∷ (b, Length) ∷ []) (cell_good (cond g (Some (cell_of id)) None) v) → Admitted good id x v
    go false b g r w = absurd (cc w)
    go true true g r w = absurd (cc w)
    go true false false r w = absurd (cc w)
    go true false true r w = let t = last (eqb (length v) (cell_of id).size) refl w in record { taken = r; cell = t.0; size = t.1 }

-- of a write
pub write_within : (o : Offer) (id : ℕ) (x : Cell) (v : List ℕ) → Admitted (is_input o id) id x v → Within x
write_within o id x v a = subst Within (sym a.cell) (named_within id (input_named o id a.taken))

-- ---- a value kept
module _ (x : Cell) (w : Within x) where
  pub keep_sized : Sized x.size
  keep_sized = w.sized

  pub keep_to : (n : ℕ) → n ≡ 1820 → x.position + x.size ≤ n
  keep_to n l = omega (arith, w.inside)

  pub keep_number : x.number < 384
  keep_number = omega (arith, w.number)

pub kept : (x : Cell) (vs ms v us ns : List ℕ) → length v ≡ x.size → us ≡ put vs x.position (bytes_at v 0 x.size) → ns ≡ with_mark ms x.number
    → ◌≡◌ {A = Cache} (record { values = us; marks = ns }) (kept_at (record { values = vs; marks = ms }) x v)
unfolding kept_at
kept x vs ms v us ns l u w =
    let z : bytes_at v 0 x.size ≡ v = ap (bytes_at v 0) (sym l) ∙ whole v in
    ap₂ (λ (a b : List ℕ). record { values = a; marks = b }) (u ∙ ap (put vs x.position) z) w

pub kept_changed : (x : Cell) (vs ms v us ns os : List ℕ) → ◌≡◌ {A = Cache} (record { values = us; marks = ns }) (kept_at (record { values = vs; marks = ms }) x v) → os ≡ with_mark ns (192 + x.number)
    → ◌≡◌ {A = Cache} (record { values = us; marks = os }) (changed_at (record { values = vs; marks = ms }) x v)
unfolding kept_at changed_at
kept_changed x vs ms v us ns os k w =
    ap (λ (a : List ℕ). record { values = us; marks = a }) w ∙ ap (λ (c : Cache). record { values = c.values; marks = with_mark c.marks (192 + x.number) }) k

-- in the cell of an ID
pub kept_as : (c : Cache) (id : ℕ) (x : Cell) (v : List ℕ) → x ≡ cell_of id → kept_at c x v ≡ keep c id v
unfolding kept_at keep cell_of
kept_as c id x v e = ap (λ (y : Cell). kept_at c y v) e

pub changed_as : (c : Cache) (id : ℕ) (x : Cell) (v : List ℕ) → x ≡ cell_of id → changed_at c x v ≡ change c id v
unfolding changed_at change cell_of
changed_as c id x v e = ap (λ (y : Cell). changed_at c y v) e

-- ---- a copy by its size
module _ (src dst out : List ℕ) (from to size n : ℕ) (e : out ≡ put dst to (bytes_at src from n)) (q : size ≡ n) where
  pub copied : out ≡ put dst to (bytes_at src from size)
  copied = e ∙ ap (λ (k : ℕ). put dst to (bytes_at src from k)) (sym q)

pub sized_four : (size : ℕ) → Sized size → (size ≡ 8 → ⊥) → (size ≡ 16 → ⊥) → size ≡ 4
sized_four size (inl e) a b = e
sized_four size (inr (inl e)) a b = absurd (a e)
sized_four size (inr (inr e)) a b = absurd (b e)

pub four_fits : (size : ℕ) → Sized size → (size ≡ 8 → ⊥) → (size ≡ 16 → ⊥) → (i n : ℕ) → i + size ≤ n → i + 4 ≤ n
four_fits size s a b i n h = omega (arith, sized_four size s a b)

-- ---- a write
-- of lent slices of another length
module _ (pvr : ℕ) (vs ms : List ℕ) (id : ℕ) (v : List ℕ) (r : Answer) (i : r ≡ refusal CacheBad) where
  none_written : good_cache (offer_of pvr) (record { values = vs; marks = ms }) ≡ false
      → ◌≡◌ {A = WriteOutcome} (record { answer = r; cache = record { values = vs; marks = ms } }) (write_cache pvr (record { values = vs; marks = ms }) id v)
  unfolding write_cache
  none_written g =
      let c : Cache = record { values = vs; marks = ms } in
      ap (λ (y : Answer). record { answer = y; cache = c }) i
      ∙ sym (ap (λ (t : Bool). first_of (λ f. record { answer = refusal f; cache = c }) ((not t, CacheBad) ∷ value_tests (is_input (offer_of pvr) id) id v) (record { answer = success 0; cache = change c id v })) g)

  pub write_short_values : (length vs ≡ 1820 → ⊥) → ◌≡◌ {A = WriteOutcome} (record { answer = r; cache = record { values = vs; marks = ms } }) (write_cache pvr (record { values = vs; marks = ms }) id v)
  write_short_values n = none_written (short_values (offer_of pvr) vs ms n)

  pub write_short_marks : (length ms ≡ 6 → ⊥) → ◌≡◌ {A = WriteOutcome} (record { answer = r; cache = record { values = vs; marks = ms } }) (write_cache pvr (record { values = vs; marks = ms }) id v)
  write_short_marks n = none_written (short_marks (offer_of pvr) vs ms n)

-- of two arrays, us and ns, which are the whole slices
module _ (pvr : ℕ) (vs ms us ns : List ℕ) (p : IsWholeChunk vs us 1820) (w : IsWholeChunk ms ns 6) (id : ℕ) (v : List ℕ) (o : Offer) (eo : o ≡ offer_of pvr) (y : Option Cell)
    (e : y ≡ cell_if (is_input o id) id) (a : Result Cell Fault) (q : a ≡ element_good o ns y v) (r : Answer) where
  abbrev before : Cache
  before = record { values = us; marks = ns }

  abbrev wrote : WriteOutcome
  wrote = record { answer = success 0; cache = change before id v }

  abbrev refused : Fault → WriteOutcome
  refused f = record { answer = refusal f; cache = before }

  write_as : write_cache pvr (record { values = vs; marks = ms }) id v ≡ on_tests refused wrote a
  unfolding write_cache
  write_as =
      ap₂ (λ (x z : List ℕ). write_cache pvr (record { values = x; marks = z }) id v) (sym p.same) (sym w.same)
      ∙ ap (λ (p : Offer). first_of refused (element_tests p before (is_input p id) id v) wrote) (sym eo)
      ∙ tests_same refused wrote o us ns (whole_long vs us 1820 p) (whole_long ms ns 6 w) (is_input o id) id v
      ∙ ap (on_tests refused wrote) (ap (λ (z : Option Cell). element_good o ns z v) (sym e) ∙ sym q)

  pub write_bad : (f : Fault) → a ≡ Err f → r ≡ refusal f → ◌≡◌ {A = WriteOutcome} (record { answer = r; cache = record { values = us; marks = ns } }) (write_cache pvr (record { values = vs; marks = ms }) id v)
  write_bad f h i = ap (λ (y : Answer). record { answer = y; cache = before }) i ∙ sym (write_as ∙ ap (on_tests refused wrote) h)

  pub write_done : (x : Cell) (xs zs : List ℕ) → a ≡ Ok x → x ≡ cell_of id → ◌≡◌ {A = Cache} (record { values = xs; marks = zs }) (changed_at (record { values = us; marks = ns }) x v) → r ≡ success 0
      → ◌≡◌ {A = WriteOutcome} (record { answer = r; cache = record { values = xs; marks = zs } }) (write_cache pvr (record { values = vs; marks = ms }) id v)
  write_done x xs zs h c k i =
      ap₂ (λ (y : Answer) (d : Cache). record { answer = y; cache = d }) i (k ∙ changed_as before id x v c)
      ∙ sym (write_as ∙ ap (on_tests refused wrote) h)
