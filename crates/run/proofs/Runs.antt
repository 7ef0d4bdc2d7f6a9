-- Run vCPU, in the form of the code's needs. Assumes nothing.
use mathlib.Core.Path.{◌≡◌, refl, sym, ap, ap₂, ◌∙◌, subst}
use mathlib.Core.Bool.{Bool, true, false, not, ◌||◌, cond}
use mathlib.Core.List.{List, [], ◌∷◌}
use Prim.Native.Nat.{ℕ, ◌+◌, ◌≤◌, ◌<◌}
use native.Mathlib.Omega.{arith}
use lib.Dec.{leb, ltb}
use lib.ListN.{length}
use borrow.Author.Tests.{lt-ltb, le-ltb, ltb-false, leb-true, leb-false, not-true, not-false}
use Rattle.std.specs.Prelude.{Result, Ok, Err}
use Rattle.octets.specs.Bytes.{bytes_at, put, be}
use Rattle.octets.proofs.Bytes.{length_bytes_at}
use Rattle.answer.specs.declared.Answer.{Answer}
use Rattle.answer.specs.declared.Bad.{Bad}
use Rattle.answer.specs.declared.Place.{Place}
use Rattle.answer.specs.declared.RunBuffer.TheVariants.{Input, Output}
use Rattle.answer.specs.declared.Fault.{Fault}
use Rattle.answer.specs.declared.Fault.TheVariants.{Element, Unregistered, Short, Exit, Effect}
use Rattle.answer.specs.Refusals.{first_of}
use Rattle.rules.specs.declared.Context.{Context}
use Rattle.rules.specs.declared.Usage.TheVariants.{RunInput, Effect as InEffect}
use Rattle.elements.specs.Table.{position, below, table}
use Rattle.rules.specs.Rules.{good_input, good_output}
use Rattle.gsb.specs.declared.BadElement.{BadElement}
use Rattle.gsb.specs.Walk.{count_of, bad_length, first_bad, is_stopped, fault_of, Walked, stopped_at}
use Rattle.gsb.proofs.Walks.{long_enough}
use Rattle.store.specs.declared.Layout.{Layout}
use Rattle.store.specs.Layout.{Sound, slot_bytes}
use Rattle.store.specs.Header.{header, slot_of}
use Rattle.store.proofs.Frame.{formed}
use Rattle.store.proofs.Search.{both}
use Rattle.store.proofs.Tests.{live_parts}
use Rattle.transfer.specs.Transfer.{applied, AllReady}
use Rattle.transfer.proofs.Moving.{length_applied}
use Rattle.exits.specs.Exits.{known, output_of}
use Rattle.run.specs.declared.RunTarget.{RunTarget}
use Rattle.admission.specs.Refusals.{Admission, Outcome, success, refusal, refuse, decide, judgement, Passed}
use Rattle.admission.specs.Target.{target_tests, base_of, target_of}
use Rattle.state.specs.State.{context_of, bad_element}
use Rattle.run.specs.Run.{run_bits, input_size, output_size, lent_tests, effect_fault, exit_tests, run_target_tests, input_of, content_tests, run_tests, ran_store, ran, run_vcpu}
use Rattle.run.specs.Private.{lent_good, input_good, exit_good, target_at, run_target_of, content_good, judged_run}
use Rattle.admission.proofs.Judging.{begin_refused, begin_admitted, all_refused, all_admitted, was_refused, was_admitted, judged_passed}
use Rattle.admission.proofs.Targets.{target_judged, target_found}
use Rattle.state.proofs.Buffers.{ready_as}

-- ---- the answers of `judge_lent`: where the code reads the sizes
input_at : (s : List ℕ) (base : ℕ) → input_size s base ≡ be s (base + 8) 8
unfolding position below table
input_at s base = let e : base + 0 + 8 ≡ base + 8 = omega arith in ap (λ (n : ℕ). be s n 8) e

output_at : (s : List ℕ) (base : ℕ) → output_size s base ≡ be s (base + 24) 8
unfolding position below table
output_at s base = let e : base + 16 + 8 ≡ base + 24 = omega arith in ap (λ (n : ℕ). be s n 8) e

lent_by : Bool → Bool → Bool → Bool → Admission
lent_by a b c d = cond (not a) (Err (Unregistered Input)) (cond (not b) (Err (Unregistered Output)) (cond c (Err (Short Input)) (cond d (Err (Short Output)) (Ok tt))))

module _ (s : List ℕ) (base need inputLength output_length i o : ℕ) (ei : i ≡ be s (base + 8) 8) (eo : o ≡ be s (base + 24) 8) where
  lent_as : (a b c d : Bool) → good_input i ≡ a → good_output o ≡ b → (ltb inputLength i || ltb i need) ≡ c → ltb output_length o ≡ d → lent_by a b c d ≡ lent_good s base need inputLength output_length
  unfolding lent_good lent_by
  lent_as a b c d p q r t =
      sym (ap₂ (λ (x y : ℕ). judgement ((not (good_input x), Unregistered Input) ∷ (not (good_output y), Unregistered Output) ∷ (ltb inputLength x || ltb x need, Short Input) ∷ (ltb output_length y, Short Output) ∷ []))
      (input_at s base ∙ sym ei) (output_at s base ∙ sym eo)
      ∙ ap₂ (λ (x y : Bool). lent_by x y (ltb inputLength i || ltb i need) (ltb output_length o)) p q ∙ ap₂ (lent_by a b) r t)

  module _ (x : Bool) (ex : x ≡ good_input i) where
    pub lent_no_input : not x ≡ true → Err (Unregistered Input) ≡ lent_good s base need inputLength output_length
    unfolding lent_by
    lent_no_input h = lent_as false (good_output o) (ltb inputLength i || ltb i need) (ltb output_length o) (sym ex ∙ not-true x h) refl refl refl

    module _ (hx : not x ≡ false) (y : Bool) (ey : y ≡ good_output o) where
      pub lent_no_output : not y ≡ true → Err (Unregistered Output) ≡ lent_good s base need inputLength output_length
      unfolding lent_by
      lent_no_output h = lent_as true false (ltb inputLength i || ltb i need) (ltb output_length o) (sym ex ∙ not-false x hx) (sym ey ∙ not-true y h) refl refl

      module _ (hy : not y ≡ false) where
        pub lent_short : inputLength < i → Err (Short Input) ≡ lent_good s base need inputLength output_length
        unfolding lent_by
        lent_short h = lent_as true true true (ltb output_length o) (sym ex ∙ not-false x hx) (sym ey ∙ not-false y hy) (simp (lt-ltb _ _ h)) refl

        module _ (k : i ≤ inputLength) where
          pub lent_small : i < need → Err (Short Input) ≡ lent_good s base need inputLength output_length
          unfolding lent_by
          lent_small h = lent_as true true true (ltb output_length o) (sym ex ∙ not-false x hx) (sym ey ∙ not-false y hy) (simp (le-ltb _ _ k, lt-ltb _ _ h)) refl

          module _ (m : need ≤ i) where
            pub lent_short_output : output_length < o → Err (Short Output) ≡ lent_good s base need inputLength output_length
            unfolding lent_by
            lent_short_output h = lent_as true true false true (sym ex ∙ not-false x hx) (sym ey ∙ not-false y hy) (simp (le-ltb _ _ k, le-ltb _ _ m)) (lt-ltb _ _ h)

            pub lent_all : o ≤ output_length → Ok tt ≡ lent_good s base need inputLength output_length
            unfolding lent_by
            lent_all h = lent_as true true false false (sym ex ∙ not-false x hx) (sym ey ∙ not-false y hy) (simp (le-ltb _ _ k, le-ltb _ _ m)) (le-ltb _ _ h)

-- ---- the answers of `run_target_of`
module _ (l : Layout) (s : List ℕ) (flags guest vcpu need inputLength output_length : ℕ) (a : Result ℕ Fault) (q : a ≡ target_of l s run_bits flags false guest vcpu) where
  abbrev slotted : Result RunTarget Fault
  slotted = Ok (target_at s (base_of l s false guest vcpu))

  abbrev firsts : List (Bool × Fault)
  firsts = target_tests l s run_bits flags false guest vcpu

  abbrev lents : List (Bool × Fault)
  lents = lent_tests s (base_of l s false guest vcpu) need inputLength output_length

  pub run_target_refused : (f : Fault) → a ≡ Err f → Err f ≡ run_target_of l s flags guest vcpu need inputLength output_length
  unfolding run_target_of
  run_target_refused f h = sym (begin_refused Err slotted firsts lents f (target_judged l s run_bits flags false guest vcpu a q f h))

  module _ (base : ℕ) (h : a ≡ Ok base) (v : Admission) (w : v ≡ lent_good s base need inputLength output_length) where
    lent_at : judgement lents ≡ v
    unfolding lent_good
    lent_at = ap (λ (x : ℕ). judgement (lent_tests s x need inputLength output_length)) (target_found l s run_bits flags false guest vcpu a q base h).1 ∙ sym w

    run_target_past : run_target_of l s flags guest vcpu need inputLength output_length ≡ first_of Err lents slotted
    unfolding run_target_of
    run_target_past = begin_admitted Err slotted firsts lents (target_found l s run_bits flags false guest vcpu a q base h).0

    pub run_target_lent : (f : Fault) → v ≡ Err f → Err f ≡ run_target_of l s flags guest vcpu need inputLength output_length
    run_target_lent f k = sym (run_target_past ∙ all_refused Err slotted lents f (lent_at ∙ k))

    pub run_target_found : (n : ℕ) → v ≡ Ok tt → n ≡ be s (base + 8) 8 → Ok (record { base = base; size = n }) ≡ run_target_of l s flags guest vcpu need inputLength output_length
    run_target_found n k e =
        let b = (target_found l s run_bits flags false guest vcpu a q base h).1 in
        ap (λ (x : ℕ). Ok (record { base = base; size = x })) (e ∙ sym (input_at s base)) ∙ ap (λ (x : ℕ). Ok (target_at s x)) (sym b) ∙ sym (run_target_past ∙ all_admitted Err slotted lents (lent_at ∙ k))

-- ---- the answers of `judge_exit` and `judge_content`
module _ (k : Context) (effect : List ℕ) (exit : ℕ) (x : Bool) (ex : x ≡ known exit) where
  exit_by : Bool → Bool → Walked → Admission
  exit_by a b w = cond (not a) (Err Exit) (cond b (Err (Effect (record { index = 0; offset = 0 }))) (cond (is_stopped w) (Err (effect_fault w)) (Ok tt)))

  exit_as : (a b : Bool) (w : Walked) → known exit ≡ a → bad_length effect ≡ b → first_bad k effect ≡ w → exit_by a b w ≡ exit_good k effect exit
  unfolding exit_good exit_by
  exit_as a b w p q r = sym (ap₂ (λ (y z : Bool). exit_by y z (first_bad k effect)) p q ∙ ap (exit_by a b) r)

  pub exit_unknown : not x ≡ true → Err Exit ≡ exit_good k effect exit
  unfolding exit_by
  exit_unknown h = exit_as false (bad_length effect) (first_bad k effect) (sym ex ∙ not-true x h) refl refl

  module _ (hx : not x ≡ false) (y : Bool) (ey : y ≡ bad_length effect) where
    pub exit_length : y ≡ true → Err (Effect (record { index = 0; offset = 0 })) ≡ exit_good k effect exit
    unfolding exit_by
    exit_length h = exit_as true true (first_bad k effect) (sym ex ∙ not-false x hx) (sym ey ∙ h) refl

    module _ (hy : y ≡ false) (w : Walked) (q : w ≡ first_bad k effect) where
      pub exit_bad : (stop : BadElement) → w ≡ Err stop → Err (Effect stop.place) ≡ exit_good k effect exit
      unfolding exit_by
      exit_bad stop d = exit_as true false (Err stop) (sym ex ∙ not-false x hx) (sym ey ∙ hy) (sym q ∙ d)

      pub exit_done : w ≡ Ok tt → Ok tt ≡ exit_good k effect exit
      unfolding exit_by
      exit_done d = exit_as true false (Ok tt) (sym ex ∙ not-false x hx) (sym ey ∙ hy) (sym q ∙ d)

module _ (k : Context) (input : List ℕ) (w : Walked) (q : w ≡ first_bad k input) where
  input_as : (v : Walked) → w ≡ v → cond (is_stopped v) (Err (fault_of v)) (Ok tt) ≡ input_good k input
  unfolding input_good
  input_as v d = sym (ap (λ (x : Walked). cond (is_stopped x) (Err (fault_of x)) (Ok tt)) (sym q ∙ d))

  pub input_bad : (stop : BadElement) (f : Fault) → w ≡ Err stop → f ≡ Element stop.bad stop.place → Err f ≡ input_good k input
  input_bad stop f d e = ap (λ (x : Fault). Err x) e ∙ input_as (Err stop) d

  pub input_done : w ≡ Ok tt → Ok tt ≡ input_good k input
  input_done d = input_as (Ok tt) d

module _ (l : Layout) (s : List ℕ) (guest : ℕ) (input effect : List ℕ) (exit : ℕ) (k : Context) (is : k ≡ context_of l s guest RunInput) (a : Admission) (q : a ≡ input_good k input) where
  judged : judgement (bad_element (context_of l s guest RunInput) input ∷ []) ≡ a
  unfolding input_good
  judged = sym (q ∙ ap (λ (y : Context). judgement (bad_element y input ∷ [])) is)

  pub content_bad : (f : Fault) → a ≡ Err f → Err f ≡ content_good l s guest input effect exit
  unfolding content_good
  content_bad f d =
      sym (begin_refused Err (Ok tt) (bad_element (context_of l s guest RunInput) input ∷ []) (exit_tests (context_of l s guest InEffect) effect exit) f (judged ∙ d))

  pub content_exit : (v : Admission) (m : Context) → a ≡ Ok tt → m ≡ context_of l s guest InEffect → v ≡ exit_good m effect exit → v ≡ content_good l s guest input effect exit
  unfolding content_good exit_good
  content_exit v m d i e =
      e ∙ ap (λ (y : Context). judgement (exit_tests y effect exit)) i
      ∙ sym (begin_admitted Err (Ok tt) (bad_element (context_of l s guest RunInput) input ∷ []) (exit_tests (context_of l s guest InEffect) effect exit) (judged ∙ d))

-- ---- back from a run's target
run_refused_same : (f g : Fault) → ◌≡◌ {A = Result RunTarget Fault} (Err f) (Err g) → f ≡ g
run_refused_same f g e = cc

run_refused_not : {t : RunTarget} (f : Fault) → ◌≡◌ {A = Result RunTarget Fault} (Ok t) (Err f) → ⊥
run_refused_not f e = cc

slot_not : {t : RunTarget} (f : Fault) → ◌≡◌ {A = Result RunTarget Fault} (Err f) (Ok t) → ⊥
slot_not f e = cc

target_same : {t u : RunTarget} → ◌≡◌ {A = Result RunTarget Fault} (Ok t) (Ok u) → t ≡ u
target_same e = cc

-- what the tests 1 to 12 and 16 say of the buffers and of the slot
pub record RunFound (l : Layout) (s : List ℕ) (guest base n inputLength output_length : ℕ) : Type 0 where
  pub long : length s ≡ l.size
  pub room : base + slot_bytes ≤ l.size
  pub some : 4 ≤ n
  pub lent : n ≤ inputLength
  pub out : 124 ≤ output_length
  pub low : 1 ≤ guest
  pub high : guest ≤ l.guests

pub run_found : (l : Layout) → Sound l → (s : List ℕ) (flags guest vcpu need inputLength output_length : ℕ) → Passed (run_target_tests l s flags guest vcpu need inputLength output_length)
    → RunFound l s guest (base_of l s false guest vcpu) (input_size s (base_of l s false guest vcpu)) inputLength output_length
unfolding base_of
run_found l so s flags guest vcpu need inputLength output_length p =
    let k : slot_of l (header l s) guest vcpu < l.slots = leb-false _ _ p.1.1.1.0 in
    let base = base_of l s false guest vcpu in
    let t = p.1.1.1.1.1 in
    let i = both (leb 4 (input_size s base)) (leb (input_size s base) 65536) (not-false _ t.0) in
    let o = both (leb 124 (output_size s base)) (leb (output_size s base) 65536) (not-false _ t.1.0) in
    record {
      long = (formed l s (not-false _ p.0)).long;
      room = omega (arith, so.whole);
      some = leb-true _ _ i.0;
      lent = ltb-false _ _ (or_left _ _ t.1.1.0);
      out = omega (arith, leb-true 124 (output_size s base) o.0, ltb-false output_length (output_size s base) t.1.1.1.0);
      low = (live_parts l (header l s) guest (not-false _ p.1.1.0)).0;
      high = (live_parts l (header l s) guest (not-false _ p.1.1.0)).1;
    }
  where
    or_left : (a b : Bool) → (a || b) ≡ false → a ≡ false
    or_left true b e = e
    or_left false b e = refl

module _ (l : Layout) (so : Sound l) (s : List ℕ) (flags guest vcpu need inputLength output_length : ℕ) (a : Result RunTarget Fault) (q : a ≡ run_target_of l s flags guest vcpu need inputLength output_length) (t : RunTarget) (h : a ≡ Ok t) where
  found : (judgement (run_target_tests l s flags guest vcpu need inputLength output_length) ≡ Ok tt) × ◌≡◌ {A = Result RunTarget Fault} (Ok (target_at s (base_of l s false guest vcpu))) (Ok t)
  unfolding run_target_of
  found = was_admitted Err run_refused_same (Ok (target_at s (base_of l s false guest vcpu))) run_refused_not (run_target_tests l s flags guest vcpu need inputLength output_length) (Ok t) slot_not (sym q ∙ h)

  run_found_is : RunFound l s guest t.base t.size inputLength output_length
  run_found_is =
      let p = run_found l so s flags guest vcpu need inputLength output_length (judged_passed (run_target_tests l s flags guest vcpu need inputLength output_length) found.0) in
      subst (λ (x : RunTarget). RunFound l s guest x.base x.size inputLength output_length) (target_same found.1) p

  pub run_found_long : length s ≡ l.size
  run_found_long = run_found_is.long

  pub run_found_low : 1 ≤ guest
  run_found_low = run_found_is.low

  pub run_found_high : guest ≤ l.guests
  run_found_high = run_found_is.high

  pub run_found_lends : t.size ≤ inputLength
  run_found_lends = run_found_is.lent

  pub run_found_part : (input part : List ℕ) → length input ≡ inputLength → part ≡ bytes_at input 0 t.size → 4 ≤ length part
  run_found_part input part e p = omega (arith, ap length p, length_bytes_at input 0 t.size (omega (arith, run_found_is.lent, e)), run_found_is.some)

-- ---- the answers of `judge_run`
module _ (l : Layout) (s : List ℕ) (flags guest vcpu : ℕ) (input : List ℕ) (output_length : ℕ) (effect : List ℕ) (exit : ℕ) (a : Result RunTarget Fault) (q : a ≡ run_target_of l s flags guest vcpu 0 (length input) output_length) where
  abbrev there : Result RunTarget Fault
  there = Ok (target_at s (base_of l s false guest vcpu))

  abbrev earlier : List (Bool × Fault)
  earlier = run_target_tests l s flags guest vcpu 0 (length input) output_length

  abbrev contents : List (Bool × Fault)
  contents = content_tests l s guest (input_of s (base_of l s false guest vcpu) input) effect exit

  pub run_refused : (f : Fault) → a ≡ Err f → Err f ≡ judged_run l s flags guest vcpu input output_length effect exit
  unfolding judged_run run_target_of
  run_refused f h = sym (begin_refused Err there earlier contents f (was_refused Err run_refused_same there run_refused_not earlier f (sym q ∙ h)))

  module _ (t : RunTarget) (h : a ≡ Ok t) where
    run_there : (judgement earlier ≡ Ok tt) × (there ≡ Ok t)
    unfolding run_target_of
    run_there = was_admitted Err run_refused_same there run_refused_not earlier (Ok t) slot_not (sym q ∙ h)

    run_past : judged_run l s flags guest vcpu input output_length effect exit ≡ first_of Err contents there
    unfolding judged_run
    run_past = begin_admitted Err there earlier contents run_there.0

    module _ (part : List ℕ) (p : part ≡ bytes_at input 0 t.size) (v : Admission) (w : v ≡ content_good l s guest part effect exit) where
      judged_content : judgement contents ≡ v
      unfolding content_good
      judged_content = ap (λ (x : List ℕ). judgement (content_tests l s guest x effect exit)) (ap (λ (x : RunTarget). bytes_at input 0 x.size) (target_same run_there.1) ∙ sym p) ∙ sym w

      pub run_content : (f : Fault) → v ≡ Err f → Err f ≡ judged_run l s flags guest vcpu input output_length effect exit
      run_content f k = sym (run_past ∙ all_refused Err there contents f (judged_content ∙ k))

      pub run_slot : v ≡ Ok tt → Ok t ≡ judged_run l s flags guest vcpu input output_length effect exit
      run_slot k = sym (run_past ∙ all_admitted Err there contents (judged_content ∙ k) ∙ run_there.1)

-- ---- `run_at` and the call
pub stopped_not : (v : Walked) → is_stopped v ≡ false → v ≡ Ok tt
stopped_not (Ok _) d = refl
stopped_not (Err stop) d = let y : ◌≡◌ {A = ℕ} 0 1 = cc in absurd (omega arith)

pub ready_after : (base : ℕ) (s t input effect : List ℕ) → t ≡ applied base input (count_of input) s → AllReady base effect (length s) → AllReady base effect (length t)
ready_after base s t input effect e r = subst (AllReady base effect) (sym (ap length e ∙ length_applied base input s (count_of input))) r

pub room_after : (base : ℕ) (s t u input effect : List ℕ) → t ≡ applied base input (count_of input) s → u ≡ applied base effect (count_of effect) t → base + slot_bytes ≤ length s → base + slot_bytes ≤ length u
room_after base s t u input effect e f h =
    omega (arith, h, ap length e, length_applied base input s (count_of input), ap length f, length_applied base effect t (count_of effect))

module _ (base : ℕ) (s input output effect : List ℕ) (exit : ℕ) where
  pub run_left : (t u o : List ℕ) (r : Answer) → t ≡ applied base input (count_of input) s → u ≡ applied base effect (count_of effect) t → o ≡ put output 0 (output_of base u exit) → r ≡ success exit
      → ◌≡◌ {A = Outcome} (record { answer = r; store = u; buffer = o }) (ran base s input output effect exit)
  unfolding ran ran_store
  run_left t u o r a b c d =
      let z : u ≡ applied base effect (count_of effect) (applied base input (count_of input) s) = b ∙ ap (applied base effect (count_of effect)) a in
      ap₂ (λ (x : Answer) (y : List ℕ). record { answer = x; store = u; buffer = y }) d c ∙ ap (λ (y : List ℕ). record { answer = success exit; store = y; buffer = put output 0 (output_of base y exit) }) z

-- a run that was judged good
module _ (l : Layout) (s : List ℕ) (flags guest vcpu : ℕ) (input : List ℕ) (output_length : ℕ) (effect : List ℕ) (exit : ℕ) (a : Result RunTarget Fault) (q : a ≡ judged_run l s flags guest vcpu input output_length effect exit) where
  abbrev at_slot : Result RunTarget Fault
  at_slot = Ok (target_at s (base_of l s false guest vcpu))

  abbrev tests : List (Bool × Fault)
  tests = run_tests l s flags guest vcpu input output_length effect exit

  call_turned : (f : Fault) → a ≡ Err f → judgement tests ≡ Err f
  unfolding judged_run
  call_turned f h = was_refused Err run_refused_same at_slot run_refused_not tests f (sym q ∙ h)

  module _ (t : RunTarget) (h : a ≡ Ok t) where
    call_found : (judgement tests ≡ Ok tt) × (at_slot ≡ Ok t)
    unfolding judged_run
    call_found = was_admitted Err run_refused_same at_slot run_refused_not tests (Ok t) slot_not (sym q ∙ h)

    call_part : (part : List ℕ) → part ≡ bytes_at input 0 t.size → part ≡ input_of s (base_of l s false guest vcpu) input
    call_part part p = p ∙ ap (λ (x : RunTarget). bytes_at input 0 x.size) (sym (target_same call_found.1))

    passed : Passed tests
    passed = judged_passed tests call_found.0

    pub call_known : known exit ≡ true
    call_known = not-false _ passed.1.1.1.1.1.1.1.1.1.1.0

    module _ (so : Sound l) where
      is_found : RunFound l s guest t.base t.size (length input) output_length
      is_found =
          let p = passed in
          let y = run_found l so s flags guest vcpu 0 (length input) output_length (p.0, (p.1.0, (p.1.1.0, (p.1.1.1.0, (p.1.1.1.1.0, (p.1.1.1.1.1.0, (p.1.1.1.1.1.1.0, (p.1.1.1.1.1.1.1.0, (p.1.1.1.1.1.1.1.1.0, tt))))))))) in
          subst (λ (x : RunTarget). RunFound l s guest x.base x.size (length input) output_length) (target_same call_found.1) y

      pub call_lends : t.size ≤ length input
      call_lends = is_found.lent

      pub call_room : t.base + slot_bytes ≤ length s
      call_room = omega (arith, is_found.room, is_found.long)

      pub call_out : 124 ≤ output_length
      call_out = is_found.out

      pub call_input : (part : List ℕ) → part ≡ bytes_at input 0 t.size → AllReady t.base part (length s)
      call_input part p =
          let w : first_bad (context_of l s guest RunInput) part ≡ Ok tt = ap (first_bad (context_of l s guest RunInput)) (call_part part p) ∙ stopped_not _ passed.1.1.1.1.1.1.1.1.1.0 in
          let k : 4 ≤ length part = omega (arith, ap length p, length_bytes_at input 0 t.size (omega (arith, is_found.lent)), is_found.some) in
          ready_as (context_of l s guest RunInput) t.base (length s) part w call_room k

      pub call_effect : AllReady t.base effect (length s)
      call_effect =
          let x = passed.1.1.1.1.1.1.1.1.1.1.1 in
          ready_as (context_of l s guest InEffect) t.base (length s) effect (stopped_not _ x.1.0) call_room (long_enough effect (bad_length effect) refl x.0)

-- the call
module _ (l : Layout) (s : List ℕ) (flags guest vcpu : ℕ) (input output effect : List ℕ) (exit output_length : ℕ) (m : output_length ≡ length output)
    (a : Result RunTarget Fault) (q : a ≡ judged_run l s flags guest vcpu input output_length effect exit) where
  abbrev done : Outcome
  done = ran (base_of l s false guest vcpu) s (input_of s (base_of l s false guest vcpu) input) output effect exit

  call_as : first_of (refuse s output) (run_tests l s flags guest vcpu input output_length effect exit) done ≡ run_vcpu l s flags guest vcpu input output effect exit
  unfolding run_vcpu decide
  call_as = ap (λ (n : ℕ). first_of (refuse s output) (run_tests l s flags guest vcpu input n effect exit) done) m

  pub call_off : (f : Fault) → a ≡ Err f → ◌≡◌ {A = Outcome} (record { answer = refusal f; store = s; buffer = output }) (run_vcpu l s flags guest vcpu input output effect exit)
  call_off f h =
      sym (all_refused (refuse s output) done (run_tests l s flags guest vcpu input output_length effect exit) f (call_turned l s flags guest vcpu input output_length effect exit a q f h)) ∙ call_as

  pub call_left : (t : RunTarget) → a ≡ Ok t → (part : List ℕ) → part ≡ bytes_at input 0 t.size → (r : Answer) (u o : List ℕ)
      → ◌≡◌ {A = Outcome} (record { answer = r; store = u; buffer = o }) (ran t.base s part output effect exit)
      → ◌≡◌ {A = Outcome} (record { answer = r; store = u; buffer = o }) (run_vcpu l s flags guest vcpu input output effect exit)
  call_left t h part p r u o i =
      let f = call_found l s flags guest vcpu input output_length effect exit a q t h in
      i ∙ ap₂ (λ (x : ℕ) (y : List ℕ). ran x s y output effect exit) (ap (λ (x : RunTarget). x.base) (sym (target_same f.1))) (call_part l s flags guest vcpu input output_length effect exit a q t h part p)
      ∙ sym (all_admitted (refuse s output) done (run_tests l s flags guest vcpu input output_length effect exit) f.0) ∙ call_as
