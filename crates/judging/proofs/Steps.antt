-- One step of the walk, and the walk, in the form of the code's needs. Assumes nothing.
use mathlib.Core.Path.{◌≡◌, refl, sym, ap, ap₂, ◌∙◌}
use mathlib.Core.Bool.{Bool, true, false, not, ◌&&◌, cond}
use mathlib.Core.List.{List, [], ◌∷◌}
use Prim.Native.Nat.{ℕ, ◌+◌, ◌-◌, ◌*◌, ◌%◌, ◌^◌, ◌≤◌, ◌<◌}
use native.Mathlib.Numerals.{add-one}
use native.Mathlib.Omega.{arith}
use lib.Dec.{eqb, ltb}
use lib.ListN.{length}
use borrow.Author.Tests.{lt-ltb, le-ltb, eq-eqb, ne_eqb, eqb-true}
use Rattle.octets.specs.Bytes.{bytes_at}
use Rattle.octets.proofs.Bytes.{length_bytes_at}
use Rattle.answer.specs.declared.Bad.{Bad}
use Rattle.answer.specs.declared.Bad.TheVariants.{Id, Size, Value}
use Rattle.answer.specs.declared.Place.{Place}
use Rattle.answer.specs.declared.Fault.{Fault}
use Rattle.answer.specs.declared.Fault.TheVariants.{Element as AtElement}
use Rattle.std.specs.Prelude.{Option, Some, None, Result, Ok, Err}
use Rattle.answer.specs.Refusals.{first_of}
use Rattle.elements.specs.declared.Cell.{Cell}
use Rattle.elements.specs.Cells.{cell_of}
use Rattle.gsb.specs.Walk.{count_of, id_at, size_at, offset_at, walk, Verdict, Walked, stopped_at}
use Rattle.gsb.specs.Message.{elements_in}
use Rattle.gsb.proofs.Walks.{walk_end, walk_good, walk_bad, walk_start, offset_next}
use Rattle.gsb.proofs.Shifted.{elements_none}
use Rattle.exits.specs.Exits.{element_of, valued}
use Rattle.judging.specs.Judging.{is_ours, our_value, elements_of, times, same, is_repeated, compared, comparison, lacking, found}
use Rattle.judging.specs.Private.{marks, standing, unmarked, missing_in, GoodIds, Reached, stepped, finding}
use Rattle.judging.proofs.Elements.{Element, repeated_before}
use Rattle.judging.proofs.Compared.{compared_good}
use Rattle.judging.proofs.Reorders.{distinct_nonzero}
use Rattle.judging.proofs.Rows.{distinct_valued, ours_value, ours_inside}
use Rattle.judging.proofs.Marked.{place_of, marked_standing, marked_lacking, marks_none, marks_same, marks_more, place_lt, one_shifted, mark_fits}

-- ---- what a step is
step_bad : (bad : Bad) (m i at : ℕ) → stepped (Err bad) m i at ≡ Err (AtElement bad (record { index = i; offset = at }))
unfolding stepped
step_bad bad m i at = refl

step_good : (next m i at : ℕ) → stepped (Ok next) m i at ≡ Ok (next, m)
unfolding stepped
step_good next m i at = refl

-- ---- what the marks say of the ID of an element, whatever the store holds
module _ (ids b : List ℕ) (i at seen id : ℕ) (f : Option ℕ) (g : GoodIds ids) (here : Reached ids b i at seen) (ef : f ≡ standing ids seen id 0) where
  new_is : (base : ℕ) (s : List ℕ) → f ≡ cond (is_ours (valued base s ids) id && eqb (times id (elements_in b i)) 0) (Some (0 + place_of ids id)) None
  new_is base s = ef ∙ ap (λ (m : ℕ). standing ids m id 0) here.marked ∙ marked_standing base s ids (elements_in b i) id 0

  module _ (place : ℕ) (e : f ≡ Some place) where
    is_new : (base : ℕ) (s : List ℕ) → (is_ours (valued base s ids) id ≡ true) × (times id (elements_in b i) ≡ 0) × (place ≡ place_of ids id)
    is_new base s = go (is_ours (valued base s ids) id) (eqb (times id (elements_in b i)) 0) refl refl (sym (new_is base s) ∙ e)
      where
        go : (t u : Bool) → is_ours (valued base s ids) id ≡ t → eqb (times id (elements_in b i)) 0 ≡ u → cond (t && u) (Some (0 + place_of ids id)) None ≡ Some place
            → (is_ours (valued base s ids) id ≡ true) × (times id (elements_in b i) ≡ 0) × (place ≡ place_of ids id)
        go true true p q w = let z : 0 + place_of ids id ≡ place = cc w in (p, eqb-true _ _ q, omega arith)
        go true false p q w = absurd (cc w)
        go false u p q w = absurd (cc w)

    place_lower : place < length ids
    place_lower = omega (arith, (is_new 0 []).2, place_lt 0 [] ids id (is_new 0 []).0)

    pub place_small : place < 64
    place_small = omega (arith, place_lower, g.few)

    pub mark_small : seen + 1 * 2 ^ place % 2 ^ 64 < 2 ^ 64
    mark_small = omega (arith, here.marked, one_shifted place place_small, mark_fits ids (elements_in b i) place g.few place_lower)

-- ---- `compare`: store s, values from base on, row, buffer b, element i at `at`, marks `seen`
module _ (base : ℕ) (s ids b : List ℕ) (i at seen : ℕ) (g : GoodIds ids) (here : Reached ids b i at seen) where
  abbrev ours : List Element
  ours = valued base s ids

  abbrev answer : Result (ℕ × ℕ) Fault
  answer = stepped (compared ours b at) (marks ids (elements_in b (i + 1))) i at

  refused : (bad : Bad) (r : Result (ℕ × ℕ) Fault) → compared ours b at ≡ Err bad → r ≡ Err (AtElement bad (record { index = i; offset = at })) → r ≡ answer
  refused bad r e q = q ∙ sym (ap (λ (v : Verdict). stepped v (marks ids (elements_in b (i + 1))) i at) e ∙ step_bad bad (marks ids (elements_in b (i + 1))) i at)

  advanced : (next m : ℕ) → compared ours b at ≡ Ok next → m ≡ marks ids (elements_in b (i + 1)) → Ok (next, m) ≡ answer
  advanced next m e q =
      ap (λ (n : ℕ). Ok (next, n)) q ∙ sym (ap (λ (v : Verdict). stepped v (marks ids (elements_in b (i + 1))) i at) e ∙ step_good next (marks ids (elements_in b (i + 1))) i at)

  cut : length b - at < 4 → compared ours b at ≡ Err Size
  unfolding compared
  cut l = let t : length b < at + 4 = omega (arith, here.inside) in simp (lt-ltb _ _ t)

  pub at_header : (r : Result (ℕ × ℕ) Fault) → length b - at < 4 → r ≡ Err (AtElement Size (record { index = i; offset = at })) → r ≡ answer
  at_header r l q = refused Size r (cut l) q

  module _ (id size : ℕ) (room : 4 ≤ length b - at) (ei : id ≡ id_at b at) (es : size ≡ size_at b at) where
    -- it was there before, by the elements before it
    repeated : is_repeated b at (count_of b) ≡ not (eqb (times (id_at b at) (elements_in b i)) 0)
    repeated =
        ap (λ (a : ℕ). is_repeated b a (count_of b)) here.here ∙ repeated_before b i (count_of b) (omega (arith, here.counted))
        ∙ ap (λ (n : ℕ). not (eqb (times n (elements_in b i)) 0)) (ap (id_at b) (sym here.here))

    shape : compared ours b at
        ≡ first_of Err
        ((not (eqb id 0) && not (is_ours ours id && not (not (eqb (times id (elements_in b i)) 0))), Id)
        ∷ (not (eqb id 0) && not (eqb size (length (our_value ours id))), Size)
        ∷ (ltb (length b) (at + 4 + size), Size)
        ∷ (not (eqb id 0) && not (same (bytes_at b (at + 4) size) (our_value ours id)), Value)
        ∷ [])
        (Ok (at + 4 + size))
    unfolding compared
    shape =
        let h : at + 4 ≤ length b = omega (arith, here.inside) in
        rw (ei, es, le-ltb _ _ h, repeated)

    pub at_nop_cut : (r : Result (ℕ × ℕ) Fault) → id ≡ 0 → length b - at - 4 < size → r ≡ Err (AtElement Size (record { index = i; offset = at })) → r ≡ answer
    at_nop_cut r z l q =
        let t : length b < at + 4 + size = omega (arith, here.inside) in
        refused Size r (shape ∙ simp (eq-eqb _ _ z, lt-ltb _ _ t)) q

    pub at_nop : id ≡ 0 → size ≤ length b - at - 4 → Ok (at + 4 + size, seen) ≡ answer
    at_nop z l =
        let t : at + 4 + size ≤ length b = omega (arith, here.inside, room) in
        advanced (at + 4 + size) seen (shape ∙ simp (eq-eqb _ _ z, le-ltb _ _ t))
        (here.marked ∙ sym (ap (λ (n : ℕ). marks ids (elements_in b n)) (add-one i) ∙ marks_same base s b i ids absent))
      where
        absent : is_ours ours (id_at b (offset_at b i)) ≡ false
        absent =
            ap (is_ours ours) (ap (id_at b) (sym here.here) ∙ sym ei ∙ z) ∙ distinct_nonzero ours (distinct_valued base s ids g.good)

    module _ (n : id ≡ 0 → ⊥) (f : Option ℕ) (ef : f ≡ standing ids seen id 0) where
      pub at_not_new : (r : Result (ℕ × ℕ) Fault) → f ≡ None → r ≡ Err (AtElement Id (record { index = i; offset = at })) → r ≡ answer
      at_not_new r e q = refused Id r (shape ∙ go (is_ours ours id) (eqb (times id (elements_in b i)) 0) (sym (new_is ids b i at seen id f g here ef base s) ∙ e)) q
        where
          go : (t u : Bool) → cond (t && u) (Some (0 + place_of ids id)) None ≡ None
              → first_of Err ((not (eqb id 0) && not (t && not (not u)), Id)
              ∷ (not (eqb id 0) && not (eqb size (length (our_value ours id))), Size)
              ∷ (ltb (length b) (at + 4 + size), Size)
              ∷ (not (eqb id 0) && not (same (bytes_at b (at + 4) size) (our_value ours id)), Value)
              ∷ []) (Ok (at + 4 + size)) ≡ Err Id
          go true true w = absurd (cc w)
          go true false w = simp (ne_eqb _ _ n)
          go false u w = simp (ne_eqb _ _ n)

      module _ (place : ℕ) (e : f ≡ Some place) where
        as_new : (is_ours ours id ≡ true) × (times id (elements_in b i) ≡ 0) × (place ≡ place_of ids id)
        as_new = is_new ids b i at seen id f g here ef place e base s

        fresh : not (eqb (times id (elements_in b i)) 0) ≡ false
        fresh = ap not (eq-eqb _ _ as_new.1)

        module _ (cell : Cell) (ec : cell ≡ cell_of id) where
          cell_size : cell.size ≡ (element_of id).size
          unfolding cell_of
          cell_size = ap (λ (c : Cell). c.size) ec

          cell_place : cell.position ≡ (element_of id).position
          unfolding cell_of
          cell_place = ap (λ (c : Cell). c.position) ec

          pub cell_inside : base + 1820 ≤ length s → base + cell.position + cell.size ≤ length s
          cell_inside room' = omega (arith, cell_size, cell_place, ours_inside base s ids g.good id as_new.0)

          value_is : our_value ours id ≡ bytes_at s (base + cell.position) cell.size
          value_is = ours_value base s ids id as_new.0 ∙ ap₂ (λ (p z : ℕ). bytes_at s (base + p) z) (sym cell_place) (sym cell_size)

          value_long : base + 1820 ≤ length s → length (our_value ours id) ≡ cell.size
          value_long h = ap length value_is ∙ length_bytes_at s (base + cell.position) cell.size (cell_inside h)

          pub at_size : (r : Result (ℕ × ℕ) Fault) → base + 1820 ≤ length s → (cell.size ≡ size → ⊥) → r ≡ Err (AtElement Size (record { index = i; offset = at })) → r ≡ answer
          at_size r h w q =
              let m : size ≡ length (our_value ours id) → ⊥ = λ z. w (sym (value_long h) ∙ sym z) in
              refused Size r (shape ∙ simp (ne_eqb _ _ n, as_new.0, fresh, ne_eqb _ _ m)) q

          module _ (h : base + 1820 ≤ length s) (w : cell.size ≡ size) where
            pub value_inside : base + cell.position + size ≤ length s
            value_inside = omega (arith, cell_inside h)

            sized : size ≡ length (our_value ours id)
            sized = sym w ∙ sym (value_long h)

            pub at_end : (r : Result (ℕ × ℕ) Fault) → length b - at - 4 < size → r ≡ Err (AtElement Size (record { index = i; offset = at })) → r ≡ answer
            at_end r l q =
                let u : length b < at + 4 + size = omega (arith, here.inside) in
                refused Size r (shape ∙ simp (ne_eqb _ _ n, as_new.0, fresh, eq-eqb _ _ sized, lt-ltb _ _ u)) q

            module _ (l : size ≤ length b - at - 4) (v : Bool) (y : v ≡ same (bytes_at b (at + 4) size) (bytes_at s (base + cell.position) size)) where
              inside : ltb (length b) (at + 4 + size) ≡ false
              inside = let u : at + 4 + size ≤ length b = omega (arith, here.inside, room) in le-ltb _ _ u

              alike : same (bytes_at b (at + 4) size) (our_value ours id) ≡ v
              alike = ap (same (bytes_at b (at + 4) size)) (value_is ∙ ap (bytes_at s (base + cell.position)) w) ∙ sym y

              pub at_value : (r : Result (ℕ × ℕ) Fault) → not v ≡ true → r ≡ Err (AtElement Value (record { index = i; offset = at })) → r ≡ answer
              at_value r x q =
                  let m : not (same (bytes_at b (at + 4) size) (our_value ours id)) ≡ true = ap not alike ∙ x in
                  refused Value r (shape ∙ simp (ne_eqb _ _ n, as_new.0, fresh, eq-eqb _ _ sized, inside, m)) q

              pub at_good : not v ≡ false → Ok (at + 4 + size, seen + 1 * 2 ^ place % 2 ^ 64) ≡ answer
              at_good x =
                  let m : not (same (bytes_at b (at + 4) size) (our_value ours id)) ≡ false = ap not alike ∙ x in
                  advanced (at + 4 + size) (seen + 1 * 2 ^ place % 2 ^ 64) (shape ∙ simp (ne_eqb _ _ n, as_new.0, fresh, eq-eqb _ _ sized, inside, m)) marked
                where
                  the_id : id ≡ id_at b (offset_at b i)
                  the_id = ei ∙ ap (id_at b) here.here

                  marked : seen + 1 * 2 ^ place % 2 ^ 64 ≡ marks ids (elements_in b (i + 1))
                  marked =
                      ap₂ (λ (x z : ℕ). x + z) here.marked (one_shifted place (place_small ids b i at seen id f g here ef place e) ∙ ap (λ (k : ℕ). 2 ^ k) (as_new.2 ∙ ap (place_of ids) the_id))
                      ∙ sym (ap (λ (k : ℕ). marks ids (elements_in b k)) (add-one i)
                      ∙ marks_more base s b i ids g.good (ap (is_ours ours) (sym the_id) ∙ as_new.0) (ap (λ (k : ℕ). times k (elements_in b i)) (sym the_id) ∙ as_new.1))

-- ---- the walk
found_done : (f : Fault) → found (Ok tt) f ≡ f
unfolding found
found_done f = refl

found_bad : (bad : Bad) (place : Place) (f : Fault) → found (stopped_at bad place) f ≡ AtElement bad place
unfolding found
found_bad bad place f = refl

module _ (base : ℕ) (s ids b : List ℕ) where
  abbrev all : List Element
  all = valued base s ids

  finding_is : finding all b ≡ found (comparison all b) (lacking all (elements_of b))
  unfolding finding
  finding_is = refl

  pub walk_begins : (count : ℕ) → count ≡ count_of b → comparison all b ≡ walk (compared all b) (count - 0) 0 4
  walk_begins count e = ap (λ (n : ℕ). walk (compared all b) n 0 4) (sym e) ∙ walk_start (compared all b) count

  pub marks_begin : 0 ≡ marks ids (elements_in b 0)
  marks_begin = sym (ap (marks ids) (elements_none b) ∙ marks_none ids)

  module _ (count i at seen : ℕ) (ec : count ≡ count_of b) (here : at ≡ offset_at b i) (inside : at ≤ length b) (marked : seen ≡ marks ids (elements_in b i))
      (walked : comparison all b ≡ walk (compared all b) (count - i) i at) where
    pub reached : i < count → Reached ids b i at seen
    reached h = record { counted = omega (arith, ec); here = here; inside = inside; marked = marked }

    pub walk_ends : (o : Option ℕ) (r : Fault) → i ≤ count → count ≤ i → o ≡ unmarked ids seen → r ≡ missing_in o → r ≡ finding all b
    walk_ends o r k h e q =
        let z : i ≡ count_of b = omega (arith, ec) in
        q ∙ ap missing_in (e ∙ ap (unmarked ids) (marked ∙ ap (λ (n : ℕ). marks ids (elements_in b n)) z)) ∙ marked_lacking base s ids (elements_of b)
        ∙ sym (finding_is ∙ ap (λ (w : Walked). found w (lacking all (elements_of b))) (walked ∙ walk_end (compared all b) count i at h) ∙ found_done (lacking all (elements_of b)))

    module _ (x : Result (ℕ × ℕ) Fault) (ex : x ≡ stepped (compared all b at) (marks ids (elements_in b (i + 1))) i at) where
      pub walk_stops : (f : Fault) → i < count → x ≡ Err f → f ≡ finding all b
      walk_stops f h q = go (compared all b at) refl (sym ex ∙ q)
        where
          go : (v : Verdict) → compared all b at ≡ v → stepped v (marks ids (elements_in b (i + 1))) i at ≡ Err f → f ≡ finding all b
          go (Ok next) p w = absurd (cc (sym (step_good next (marks ids (elements_in b (i + 1))) i at) ∙ w))
          go (Err bad) p w =
              let y : AtElement bad (record { index = i; offset = at }) ≡ f = cc (sym (step_bad bad (marks ids (elements_in b (i + 1))) i at) ∙ w) in
              sym y
              ∙ sym (finding_is ∙ ap (λ (u : Walked). found u (lacking all (elements_of b))) (walked ∙ walk_bad (compared all b) count i at bad h p)
              ∙ found_bad bad (record { index = i; offset = at }) (lacking all (elements_of b)))

      module _ (next seen' : ℕ) (q : x ≡ Ok (next, seen')) where
        good : (compared all b at ≡ Ok next) × (seen' ≡ marks ids (elements_in b (i + 1)))
        good = go (compared all b at) refl (sym ex ∙ q)
          where
            first : Result (ℕ × ℕ) Fault → ℕ
            first (Ok p) = p.0
            first (Err f) = 0

            second : Result (ℕ × ℕ) Fault → ℕ
            second (Ok p) = p.1
            second (Err f) = 0

            go : (v : Verdict) → compared all b at ≡ v → stepped v (marks ids (elements_in b (i + 1))) i at ≡ Ok (next, seen')
                → (compared all b at ≡ Ok next) × (seen' ≡ marks ids (elements_in b (i + 1)))
            go (Ok n) p w =
                let y : Ok (n, marks ids (elements_in b (i + 1))) ≡ Ok (next, seen') = sym (step_good n (marks ids (elements_in b (i + 1))) i at) ∙ w in
                let a : n ≡ next = ap first y in
                let c : marks ids (elements_in b (i + 1)) ≡ seen' = ap second y in
                (p ∙ ap Ok a, sym c)
            go (Err bad) p w = absurd (cc (sym (step_bad bad (marks ids (elements_in b (i + 1))) i at) ∙ w))

        pub turn_here : next ≡ offset_at b (i + 1)
        turn_here = (compared_good all b at next good.0).1 ∙ offset_next b i at here

        pub turn_inside : next ≤ length b
        turn_inside = let p = compared_good all b at next good.0 in omega (arith, p.1, p.0.inside)

        pub turn_marked : seen' ≡ marks ids (elements_in b (i + 1))
        turn_marked = good.1

        pub turn_walked : i < count → comparison all b ≡ walk (compared all b) (count - (i + 1)) (i + 1) next
        turn_walked h = walked ∙ walk_good (compared all b) count i at next h good.0
