-- THEOREMS of a judged output: `judged_exactly`, `judged_first`, `judged_missing` past the earlier tests; `own_output_lem`, `own_reordered` after every
-- accepted run. Assumes nothing.
use mathlib.Core.Path.{◌≡◌, refl, sym, ap, ap₂, ◌∙◌, subst}
use mathlib.Core.Logic.{◌↔◌, ◌⊎◌, inl, inr, ⊎_elim}
use mathlib.Core.Bool.{Bool, true, false, cond, not, ◌&&◌}
use mathlib.Core.List.{List, [], ◌∷◌}
use Prim.Native.Nat.{ℕ, ◌+◌, ◌≤◌, ◌<◌}
use native.Mathlib.Omega.{arith}
use lib.Dec.{leb}
use lib.ListN.{length}
use borrow.Author.Tests.{not-false, leb-true, ltb-false}
use Rattle.octets.specs.Bytes.{bytes_at, put}
use Rattle.octets.proofs.Bytes.{length_put, length_bytes_at}
use Rattle.answer.specs.declared.Answer.{Answer}
use Rattle.answer.specs.declared.Bad.{Bad}
use Rattle.answer.specs.declared.Bad.TheVariants.{Id, Size, Value}
use Rattle.answer.specs.declared.Place.{Place}
use Rattle.answer.specs.declared.Call.{Call as Name}
use Rattle.answer.specs.declared.Registers.{Registers}
use Rattle.answer.specs.declared.Fault.{Fault}
use Rattle.answer.specs.declared.Fault.TheVariants.{None, Element, Missing}
use Rattle.answer.specs.Refusals.{first_of}
use Rattle.answer.specs.Answer.{bad_number, three, told}
use Rattle.gsb.specs.Walk.{count_of, offset_at, bad_length, Walked, stopped_at}
use Rattle.gsb.specs.First.{FirstBadAt, AllGood}
use Rattle.gsb.specs.Message.{message, Begins}
use Rattle.gsb.specs.Join.{cut_of}
use Rattle.gsb.proofs.Walks.{bounds_length}
use Rattle.gsb.proofs.First.{accepted_exactly}
use Rattle.gsb.proofs.RoundTrip.{begins_put, begins_first, message_count, message_inside}
use Rattle.store.specs.declared.Layout.{Layout}
use Rattle.store.specs.Layout.{Sound, slot_at}
use Rattle.store.specs.Header.{header, live, slot_of, is_taken}
use Rattle.store.specs.Store.{well_formed}
use Rattle.transfer.specs.Transfer.{applied}
use Rattle.exits.specs.Exits.{returned, valued, output_of}
use Rattle.exits.proofs.Rows.{output_short, returned_few, length_output}
use Rattle.admission.specs.Refusals.{Outcome, refusal, Passed}
use Rattle.admission.specs.Target.{base_of}
use Rattle.run.specs.Run.{output_size, input_of, run_tests, ran_store, ran}
use Rattle.run.proofs.Runs.{run_found}
use Rattle.l0.specs.Calls.{RunVcpu, outcome}
use Rattle.judging.specs.Judging.{ours_of, is_ours, elements_of, compared, comparison, lacking, found, earlier_tests, judge_output, judge_told}
use Rattle.judging.specs.Promised.{HoldsOurs, Reordered}
use Rattle.judging.proofs.Elements.{message_elements}
use Rattle.judging.proofs.Compared.{compared_leads}
use Rattle.judging.proofs.Exactly.{none_missing, held_exactly, inside_exactly}
use Rattle.judging.proofs.Reorders.{distinct_nonzero, reordered_self, reordered_held}
use Rattle.judging.proofs.Rows.{returned_good, distinct_valued, wire_valued, lacking_told, lacking_fault}
use Rattle.promises.specs.History.{registers}
use Rattle.promises.specs.Judging.{SmallestMissing, left_by_run, own_output}
use Rattle.promises.proofs.Told.{none_told, told_by, element_told, index_first_in, element_told_lem}
use Rattle.promises.proofs.Kept.{applied_header, applied_kept, base_values}
use Rattle.promises.proofs.Runs.{length_ran}
use Rattle.promises.proofs.Sums.{run_ran}
use Rattle.std.proofs.Common.{Ok, Err}

all_passed : (xs : List (Bool × Fault)) (a : Answer) → Passed xs → first_of refusal xs a ≡ a
all_passed [] a p = refl
all_passed (x ∷ xs) a p = ap (λ (t : Bool). cond t (refusal x.1) (first_of refusal xs a)) p.0 ∙ all_passed xs a p.1

bad_small : (bad : Bad) → bad_number bad < 9
bad_small Id = omega arith
bad_small Size = omega arith
bad_small Value = omega arith

bad_some : (bad : Bad) → 0 < bad_number bad
bad_some Id = omega arith
bad_some Size = omega arith
bad_some Value = omega arith

found_stopped : (bad : Bad) (place : Place) (f : Fault) → found (stopped_at bad place) f ≡ Element bad place
unfolding found
found_stopped bad place f = refl

found_done : (f : Fault) → found (Ok tt) f ≡ f
unfolding found
found_done f = refl

no_element : (bad : Bad) (place : Place) → Element bad place ≡ None → ⊥
no_element bad place e = let z : ◌≡◌ {A = ℕ} 0 1 = cc in omega arith

-- "Refusals: 1, 3, 4, 16, 5, 13; then": past them
module _ (l : Layout) (s : List ℕ) (guest vcpu exit : ℕ) (b : List ℕ) (p : Passed (earlier_tests l s guest vcpu exit b)) where
  abbrev ours : List (ℕ × List ℕ)
  ours = ours_of l s guest vcpu exit

  abbrev lack : Fault
  lack = lacking ours (elements_of b)

  answered : judge_output l s guest vcpu exit b ≡ refusal (found (comparison ours b) lack)
  unfolding judge_output
  answered = all_passed (earlier_tests l s guest vcpu exit b) (refusal (found (comparison ours b) lack)) p

  judge_told_lem : judge_told l s guest vcpu exit b ≡ told_by (element_told Name.JudgeOutput) (told Name.JudgeOutput lack 0) (comparison ours b)
  judge_told_lem = ap (λ (a : Answer). told Name.JudgeOutput a.fault a.value) answered ∙ go (comparison ours b)
    where
      go : (w : Walked) → told Name.JudgeOutput (found w lack) 0 ≡ told_by (element_told Name.JudgeOutput) (told Name.JudgeOutput lack 0) w
      go (Ok _) = ap (λ (f : Fault). told Name.JudgeOutput f 0) (found_done lack)
      go (Err stop) = ap (λ (f : Fault). told Name.JudgeOutput f 0) (found_stopped stop.bad stop.place lack)

  nonzero : is_ours ours 0 ≡ false
  nonzero = distinct_nonzero ours (distinct_valued (base_of l s false guest vcpu) s (returned exit) (returned_good exit))

  -- "accept exactly if the buffer is walkable, holds each element of that exit once with our value, and nothing else but NOPs"
  pub judged_exactly : ((judge_told l s guest vcpu exit b).r3 ≡ 0) ↔ HoldsOurs (ours_of l s guest vcpu exit) b
  judged_exactly = (there, back)
    where
      parts : (w : Walked) → comparison ours b ≡ w → found w lack ≡ None → (comparison ours b ≡ Ok tt) × (lack ≡ None)
      parts (Ok _) e q = (e, sym (found_done lack) ∙ q)
      parts (Err stop) e q = absurd (no_element stop.bad stop.place (sym (found_stopped stop.bad stop.place lack) ∙ q))

      there : (judge_told l s guest vcpu exit b).r3 ≡ 0 → HoldsOurs ours b
      there e =
          let q = (none_told Name.JudgeOutput (judge_output l s guest vcpu exit b).fault (judge_output l s guest vcpu exit b).value).0 e in
          (held_exactly ours b nonzero).0 (parts (comparison ours b) refl (sym (ap (λ (a : Answer). a.fault) answered) ∙ q))

      back : HoldsOurs ours b → (judge_told l s guest vcpu exit b).r3 ≡ 0
      back h =
          let q = (held_exactly ours b nonzero).1 h in
          (none_told Name.JudgeOutput (judge_output l s guest vcpu exit b).fault (judge_output l s guest vcpu exit b).value).1
          (ap (λ (a : Answer). a.fault) answered ∙ ap (λ (w : Walked). found w lack) q.0 ∙ found_done lack ∙ q.1)

  lack_number : ((told Name.JudgeOutput lack 0).r3 ≡ 0) ⊎ ((told Name.JudgeOutput lack 0).r3 ≡ 20)
  lack_number = ⊎_elim (λ e. inl (ap (λ (f : Fault). (told Name.JudgeOutput f 0).r3) e)) (λ e. inr (ap (λ (f : Fault). (told Name.JudgeOutput f 0).r3) e.1)) (lacking_fault ours (elements_of b))

  -- "then, with index and offset, at the first bad element 6 .., 7 .., 8 .."
  pub judged_first : (bad : Bad) (i at : ℕ) → (judge_told l s guest vcpu exit b ≡ three (bad_number bad) i at)
      ↔ (FirstBadAt (compared (ours_of l s guest vcpu exit) b) b i bad × (offset_at b i ≡ at))
  judged_first bad i at =
      element_told_lem (compared ours b) b (compared_leads ours b) (comparison ours b) refl Name.JudgeOutput (told Name.JudgeOutput lack 0) bad
      (λ e. ⊎_elim (λ z. omega (arith, z, e, bad_some bad)) (λ z. omega (arith, z, e, bad_small bad)) lack_number)
      index_first_in (λ bad' place. refl) (record { index = i; offset = at }) (judge_told l s guest vcpu exit b) judge_told_lem

  -- "20 with R4 the smallest missing ID"
  pub judged_missing : (id : ℕ) → (judge_told l s guest vcpu exit b ≡ three 20 id 0)
      ↔ (AllGood (compared (ours_of l s guest vcpu exit) b) b × SmallestMissing (ours_of l s guest vcpu exit) b id)
  judged_missing id = (there, back)
    where
      smallest : (other : ℕ) → lack ≡ Missing other → SmallestMissing ours b other
      smallest other e =
          let t = lacking_told (base_of l s false guest vcpu) s (returned exit) (returned_good exit) (elements_of b) other e in
          record { of_exit = t.0; missing = t.1; smallest = t.2 }

      there : judge_told l s guest vcpu exit b ≡ three 20 id 0 → AllGood (compared ours b) b × SmallestMissing ours b id
      there e = go (comparison ours b) refl (sym judge_told_lem ∙ e)
        where
          lacks : told Name.JudgeOutput lack 0 ≡ three 20 id 0 → SmallestMissing ours b id
          lacks q =
              ⊎_elim (λ z. absurd (let k : ◌≡◌ {A = ℕ} 0 20 = sym (ap (λ (f : Fault). (told Name.JudgeOutput f 0).r3) z) ∙ ap (λ (r : Registers). r.r3) q in omega arith))
              (λ z. let k : z.0 ≡ id = sym (ap (λ (f : Fault). (told Name.JudgeOutput f 0).r4) z.1) ∙ ap (λ (r : Registers). r.r4) q in subst (SmallestMissing ours b) k (smallest z.0 z.1))
              (lacking_fault ours (elements_of b))

          go : (w : Walked) → comparison ours b ≡ w → told_by (element_told Name.JudgeOutput) (told Name.JudgeOutput lack 0) w ≡ three 20 id 0 → AllGood (compared ours b) b × SmallestMissing ours b id
          go (Ok _) q k = ((accepted_exactly (compared ours b) b (compared_leads ours b)).0 q, lacks k)
          go (Err stop) q k = absurd (let z : bad_number stop.bad ≡ 20 = ap (λ (r : Registers). r.r3) k in omega (arith, z, bad_small stop.bad))

      back : AllGood (compared ours b) b × SmallestMissing ours b id → judge_told l s guest vcpu exit b ≡ three 20 id 0
      back f =
          judge_told_lem ∙ ap (told_by (element_told Name.JudgeOutput) (told Name.JudgeOutput lack 0)) ((accepted_exactly (compared ours b) b (compared_leads ours b)).1 f.0)
          ∙ ⊎_elim (λ z. absurd (none_missing ours (elements_of b) z id f.1.of_exit f.1.missing))
          (λ z.
          let m = smallest z.0 z.1 in
          let h : z.0 ≤ id = m.smallest id f.1.of_exit f.1.missing in
          let k : id ≤ z.0 = f.1.smallest z.0 m.of_exit m.missing in
          let q : z.0 ≡ id = omega arith in
          ap (λ (x : Fault). told Name.JudgeOutput x 0) z.1 ∙ ap (λ (n : ℕ). three 20 n 0) q)
          (lacking_fault ours (elements_of b))

-- ---- an accepted run
module _ (l : Layout) (so : Sound l) (s : List ℕ) (flags guest vcpu : ℕ) (input output effect : List ℕ) (exit : ℕ)
    (ok : (registers l s (RunVcpu flags guest vcpu input output effect exit)).r3 ≡ 0) where
  abbrev base : ℕ
  base = base_of l s false guest vcpu

  abbrev given : List ℕ
  given = input_of s base input

  abbrev left : List ℕ
  left = ran_store base given effect s

  passed : Passed (run_tests l s flags guest vcpu input (length output) effect exit)
  passed = (run_ran l s flags guest vcpu input output effect exit ok).0

  ran_is : outcome l s (RunVcpu flags guest vcpu input output effect exit) ≡ ran base s given output effect exit
  ran_is = (run_ran l s flags guest vcpu input output effect exit ok).1

  store_is : left_by_run l s flags guest vcpu input output effect exit ≡ left
  unfolding left_by_run ran
  store_is = ap (λ (o : Outcome). o.store) ran_is

  output_is : own_output l s flags guest vcpu input output effect exit ≡ bytes_at (put output 0 (output_of base left exit)) 0 (output_size s base)
  unfolding own_output ran
  output_is = ap (λ (o : Outcome). bytes_at o.buffer 0 (output_size s base)) ran_is

  -- ---- what the run leaves of the store's tests
  left_header : header l left ≡ header l s
  unfolding ran_store
  left_header =
      let h = base_values l so s false guest vcpu in
      applied_header l so base effect (count_of effect) (applied base given (count_of given) s) h ∙ applied_header l so base given (count_of given) s h

  left_formed : well_formed l left ≡ well_formed l s
  unfolding ran_store
  left_formed =
      let h = base_values l so s false guest vcpu in
      applied_kept l so base effect (count_of effect) (applied base given (count_of given) s) h ∙ applied_kept l so base given (count_of given) s h

  left_base : base_of l left false guest vcpu ≡ base
  unfolding base_of
  left_base = ap (λ (h : List ℕ). slot_at l (slot_of l h guest vcpu)) left_header

  room : base + 1820 ≤ length left
  room =
      let p = passed in
      let y = run_found l so s flags guest vcpu 0 (length input) (length output) (p.0, (p.1.0, (p.1.1.0, (p.1.1.1.0, (p.1.1.1.1.0, (p.1.1.1.1.1.0, (p.1.1.1.1.1.1.0, (p.1.1.1.1.1.1.1.0, (p.1.1.1.1.1.1.1.1.0, tt))))))))) in
      omega (arith, y.room, y.long, length_ran l s flags guest vcpu input output effect exit)

  -- the registered size meets its rule, and so much is lent
  size_good : (124 ≤ output_size s base) × (output_size s base ≤ 65536) × (output_size s base ≤ length output)
  size_good =
      let e = both (leb 124 (output_size s base)) (leb (output_size s base) 65536) (not-false _ passed.1.1.1.1.1.1.0) in
      (leb-true _ _ e.0, leb-true _ _ e.1, ltb-false _ _ passed.1.1.1.1.1.1.1.1.0)
    where
      both : (a b : Bool) → (a && b) ≡ true → (a ≡ true) × (b ≡ true)
      both true b e = (refl, e)
      both false b e = let z : ◌≡◌ {A = ℕ} 0 1 = cc in absurd (omega arith)

  -- ---- our output, and what lies behind it
  abbrev own : List ℕ
  own = bytes_at (put output 0 (output_of base left exit)) 0 (output_size s base)

  own_long : length own ≡ output_size s base
  own_long = length_bytes_at (put output 0 (output_of base left exit)) 0 (output_size s base) (omega (arith, size_good.2, length_put output 0 (output_of base left exit)))

  begins : Begins own (message (valued base left (returned exit)))
  unfolding output_of
  begins =
      let n : length (output_of base left exit) ≤ 124 = omega (arith, length_output base left exit room, output_short exit) in
      begins_first (put output 0 (output_of base left exit)) (output_of base left exit) (output_size s base)
      (begins_put output (output_of base left exit) (omega (arith, n, size_good.0, size_good.2))) (omega (arith, n, size_good.0)) (omega (arith, size_good.2, length_put output 0 (output_of base left exit)))

  own_elements : elements_of own ≡ valued base left (returned exit)
  own_elements = message_elements (valued base left (returned exit)) own (wire_valued base left room (returned exit) (returned_few exit) (returned_good exit)) begins

  own_walkable : cut_of own ≡ Ok tt
  own_walkable =
      let w = wire_valued base left room (returned exit) (returned_few exit) (returned_good exit) in
      (inside_exactly own).1 (λ j h. message_inside (valued base left (returned exit)) own w begins j (omega (arith, message_count (valued base left (returned exit)) own w begins)))

  left_passed : (b : List ℕ) → bad_length b ≡ false → Passed (earlier_tests l left guest vcpu exit b)
  left_passed b g =
      let p = passed in (
        ap not left_formed ∙ p.0,
        (
          ap (λ (h : List ℕ). not (live l h guest)) left_header ∙ p.1.1.0,
          (
            ap (λ (h : List ℕ). leb l.slots (slot_of l h guest vcpu)) left_header ∙ p.1.1.1.0,
            (ap (λ (h : List ℕ). is_taken l h (slot_of l h guest vcpu)) left_header ∙ p.1.1.1.1.0, (g, (p.1.1.1.1.1.1.1.1.1.1.0, tt))),
          ),
        ),
      )

  reordered : (b : List ℕ) → bad_length b ≡ false → cut_of b ≡ Ok tt → Reordered (valued base left (returned exit)) (elements_of b) → (judge_told l left guest vcpu exit b).r3 ≡ 0
  reordered b g w r =
      (judged_exactly l left guest vcpu exit b (left_passed b g)).1
      (subst (λ (n : ℕ). HoldsOurs (valued n left (returned exit)) b) (sym left_base)
      (reordered_held (valued base left (returned exit)) (distinct_valued base left (returned exit) (returned_good exit)) b w r))

  -- "Our own output, as registered, with its exit reason and the store its run left, must always be accepted"
  pub own_output_lem : (judge_told l (left_by_run l s flags guest vcpu input output effect exit) guest vcpu exit (own_output l s flags guest vcpu input output effect exit)).r3 ≡ 0
  own_output_lem =
      ap₂ (λ (t b : List ℕ). (judge_told l t guest vcpu exit b).r3) store_is output_is
      ∙ reordered own (bounds_length own (omega (arith, own_long, size_good.0)) (omega (arith, own_long, size_good.1))) own_walkable
      (subst (Reordered (valued base left (returned exit))) (sym own_elements) (reordered_self (valued base left (returned exit))))

  -- "and any reordering of its elements", NOPs being added anywhere
  pub own_reordered : (b : List ℕ) → bad_length b ≡ false → cut_of b ≡ Ok tt → Reordered (elements_of (own_output l s flags guest vcpu input output effect exit)) (elements_of b)
      → (judge_told l (left_by_run l s flags guest vcpu input output effect exit) guest vcpu exit b).r3 ≡ 0
  own_reordered b g w r =
      ap (λ (t : List ℕ). (judge_told l t guest vcpu exit b).r3) store_is
      ∙ reordered b g w (subst (λ (es : List (ℕ × List ℕ)). Reordered es (elements_of b)) (ap elements_of output_is ∙ own_elements) r)
