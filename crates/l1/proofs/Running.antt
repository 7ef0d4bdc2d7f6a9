-- A run of a good cache, in the form of the code's needs: what is sent fits and is judged, and the output can be kept. Assumes nothing.
use mathlib.Core.Path.{◌≡◌, refl, sym, ap, ap₂, ◌∙◌, subst}
use mathlib.Core.Bool.{Bool, true, false, not, ◌&&◌, ◌||◌, cond}
use mathlib.Core.List.{List, [], ◌∷◌}
use Prim.Native.Nat.{ℕ, zero, suc, ◌+◌, ◌≤◌, ◌<◌}
use native.Mathlib.Omega.{arith}
use lib.Dec.{eqb, ltb}
use lib.ListN.{length}
use borrow.Author.Tests.{lt-ltb, le-ltb, ltb-false, not-true, not-false}
use Rattle.std.specs.Array.{IsWholeChunk}
use Rattle.std.specs.Prelude.{Result, Ok, Err}
use Rattle.octets.specs.Bytes.{bytes_at, put}
use Rattle.octets.proofs.Bytes.{length_put}
use Rattle.answer.specs.declared.Answer.{Answer}
use Rattle.answer.specs.declared.Bad.TheVariants.{Id}
use Rattle.answer.specs.declared.Place.{Place}
use Rattle.answer.specs.declared.Fault.{Fault}
use Rattle.answer.specs.declared.Fault.TheVariants.{Element, Cache as CacheBad}
use Rattle.answer.specs.Refusals.{first_of}
use Rattle.elements.specs.declared.Offer.{Offer}
use Rattle.elements.specs.declared.Offer.TheVariants.{Full}
use Rattle.elements.specs.Table.{thread_element}
use Rattle.elements.specs.Later.{offer_of, offers}
use Rattle.rules.specs.declared.Usage.TheVariants.{RunInput, Effect as InEffect}
use Rattle.rules.specs.declared.Context.{Context}
use Rattle.gsb.specs.Walk.{count_of, bad_length, first_bad, is_stopped, fault_of, Walked, stopped_at}
use Rattle.gsb.specs.Message.{message, Begins}
use Rattle.gsb.proofs.Messages.{length_message}
use Rattle.gsb.proofs.Walks.{long_enough}
use Rattle.gsb.proofs.RoundTrip.{begins_self, begins_put, begins_first}
use Rattle.store.specs.declared.Layout.{Layout}
use Rattle.store.specs.Layout.{layout_of, slot_bytes}
use Rattle.store.specs.Search.{every}
use Rattle.store.proofs.Search.{both, every_all, every_at}
use Rattle.store.proofs.Sizes.{layout_sound}
use Rattle.transfer.specs.Transfer.{applied, AllReady}
use Rattle.transfer.proofs.Moving.{length_applied}
use Rattle.exits.specs.Exits.{returned, row_bytes, valued, output_of}
use Rattle.exits.proofs.Written.{valued_append, length_valued}
use Rattle.exits.proofs.Rows.{length_output, output_short, returned_few}
use Rattle.admission.specs.Refusals.{Admission, refusal, refuse, decide, judgement, Passed, success}
use Rattle.admission.specs.Target.{base_of}
use Rattle.admission.proofs.Judging.{begin_refused, begin_admitted, all_refused, all_admitted, was_refused, was_admitted, judged_passed}
use Rattle.state.specs.State.{context_of}
use Rattle.state.proofs.Buffers.{ready_as}
use Rattle.run.specs.declared.RunTarget.{RunTarget}
use Rattle.run.specs.Run.{input_size, exit_tests, run_target_tests, input_of, content_tests, ran_store, ran, run_vcpu}
use Rattle.run.specs.Private.{target_at, exit_good, content_good, run_target_of}
use Rattle.run.proofs.Runs.{RunFound, run_found, stopped_not, ready_after}
use Rattle.l1.specs.Marks.{Cache, valid, changed, is_input, mark_good, good_cache}
use Rattle.l1.specs.Cache.{chosen, pending, refreshed, RunOutcome, ran_with, cached_tests, run_cache, Fit}
use Rattle.l1.specs.Private.{good_marks, is_changed, lacked_from, cached_target, Sendable, sent, AllKeeps}
use Rattle.l1.proofs.Marking.{values_long, marks_long, short_values, short_marks, good_words}
use Rattle.l1.proofs.Values.{input_by}
use Rattle.l1.proofs.Pending.{weighed, chosen_few}
use Rattle.l1.proofs.Cells.{number_named, length_value}
use Rattle.l1.proofs.Sent.{fit_append, fit_good}
use Rattle.l1.proofs.Lacking.{lacked_stops, good_lacks, done_good}
use Rattle.l1.proofs.Returned.{returned_named, valued_keeps}

-- ---- what a good cache sends
module _ (o : Offer) (c : Cache) (good : good_cache o c ≡ true) where
  long : length c.values ≡ 1820
  long = values_long o c.values c.marks true (sym good) refl

  marks_good : every (mark_good o c) 192 0 ≡ true
  unfolding good_cache
  marks_good = (both (eqb (length c.marks) 6) (every (mark_good o c) 192 0) (both (eqb (length c.values) slot_bytes) (eqb (length c.marks) 6 && every (mark_good o c) 192 0) good).1).1

  changed_input : (e : ℕ) → e < 170 → changed c e ≡ true → is_input o (thread_element e).id ≡ true
  unfolding mark_good
  changed_input e h q =
      let m = every_at (mark_good o c) 192 0 marks_good e (omega arith) (omega arith) in
      let r : (valid c e && is_input o (thread_element e).id) ≡ true
      = ap (λ (t : Bool). not t || (valid c e && is_input o (thread_element e).id)) (sym q)
      ∙ ap (λ (t : Bool). cond t (not (changed c e) || (valid c e && is_input o (thread_element e).id)) (not (valid c e) && not (changed c e))) (sym (lt-ltb e 170 h)) ∙ m in
      (both (valid c e) (is_input o (thread_element e).id) r).1

  fit_upto : (n : ℕ) → n ≤ 170 → Fit o (valued 0 c.values (chosen (changed c) n))
  unfolding chosen valued
  fit_upto zero h = tt
  fit_upto (suc n) h =
      subst (Fit o) (sym (valued_append 0 c.values (chosen (changed c) n) (cond (changed c n) ((thread_element n).id ∷ []) [])))
      (fit_append o (valued 0 c.values (chosen (changed c) n)) (valued 0 c.values (cond (changed c n) ((thread_element n).id ∷ []) [])) (fit_upto n (omega arith)) (one (changed c n) refl))
    where
      one : (t : Bool) → changed c n ≡ t → Fit o (valued 0 c.values (cond t ((thread_element n).id ∷ []) []))
      one true q = (changed_input n (omega arith) q, length_value 0 c.values (omega (arith, long)) (thread_element n).id (number_named n (omega arith)), tt)
      one false q = tt

  pending_fit : Fit o (pending c)
  pending_fit = fit_upto 170 (omega arith)

  pending_few : length (pending c) ≤ 170
  pending_few = omega (arith, length_valued 0 c.values (chosen (changed c) 170), chosen_few (changed c) 170)

  need_is : (n : ℕ) → n ≡ row_bytes (chosen (changed c) 170) → n ≡ length (message (pending c))
  need_is n e = e ∙ ap (λ (k : ℕ). 4 + k) (sym (weighed c.values (changed c) 170 long (omega arith))) ∙ sym (length_message (pending c))

  -- in a buffer that begins with it, by a context of this list
  sent_good : (k : Context) → k.usage ≡ RunInput → k.offer ≡ o → (b : List ℕ) → Begins b (message (pending c)) → first_bad k b ≡ Ok tt
  sent_good k u e b s = fit_good k u (pending c) b (subst (λ (x : Offer). Fit x (pending c)) (sym e) pending_fit) pending_few s

-- what is good by a list is good by 01's
pub good_full : (o : Offer) (c : Cache) → good_cache o c ≡ true → good_cache Full c ≡ true
unfolding good_cache mark_good
good_full o c good =
    let p = both (eqb (length c.values) slot_bytes) (eqb (length c.marks) 6 && every (mark_good o c) 192 0) good in
    let q = both (eqb (length c.marks) 6) (every (mark_good o c) 192 0) p.1 in
    ap₂ (λ (a b : Bool). a && b) p.0 (ap₂ (λ (a b : Bool). a && b) q.0 (every_all (mark_good Full c) 192 0 (λ e l h. wider e (every_at (mark_good o c) 192 0 q.1 e l h))))
  where
    less : (el ch v f t : Bool) → cond el (not ch || (v && (f && t))) (not v && not ch) ≡ true → cond el (not ch || (v && f)) (not v && not ch) ≡ true
    less true true true true t e = refl
    less true true true false t e = e
    less true true false f t e = e
    less true false v f t e = refl
    less false ch v f t e = e

    wider : (e : ℕ) → mark_good o c e ≡ true → mark_good Full c e ≡ true
    wider e m =
        let i = (thread_element e).id in
        less (ltb e 170) (changed c e) (valid c e) (is_input Full i) (offers o i)
        (ap (λ (t : Bool). cond (ltb e 170) (not (changed c e) || (valid c e && t)) (not (valid c e) && not (changed c e))) (sym (input_by o i)) ∙ m)

-- ---- tests that none of which holds
pub passed_judged : (xs : List (Bool × Fault)) → Passed xs → judgement xs ≡ Ok tt
passed_judged [] p = refl
passed_judged (x ∷ xs) p = ap (λ (t : Bool). cond t (Err x.1) (judgement xs)) p.0 ∙ passed_judged xs p.1

or_false : (a b : Bool) → (a || b) ≡ false → (a ≡ false) × (b ≡ false)
or_false true b e = let z : ◌≡◌ {A = ℕ} 0 1 = cc in absurd (omega arith)
or_false false b e = (refl, e)

-- ---- what would be sent, judged by the guest's own list
module _ (l : Layout) (s : List ℕ) (guest : ℕ) (vs ms effect : List ℕ) (exit : ℕ) (good : good_cache Full (record { values = vs; marks = ms }) ≡ true)
    (k : Context) (is : k ≡ context_of l s guest RunInput) (t : Bool) (q : t ≡ good_marks k.offer ms) where
  abbrev c : Cache
  c = record { values = vs; marks = ms }

  e : t ≡ good_cache k.offer (record { values = vs; marks = ms })
  e = q ∙ sym (good_words k.offer vs ms (long Full c good) (marks_long Full vs ms true (sym good) refl))

  usage : k.usage ≡ RunInput
  usage = ap (λ (x : Context). x.usage) is

  content_by : Walked → Admission
  content_by w = cond (is_stopped w) (Err (fault_of w)) (judgement (exit_tests (context_of l s guest InEffect) effect exit))

  content_as : (w : Walked) → first_bad k (message (pending c)) ≡ w → content_by w ≡ content_good l s guest (message (pending c)) effect exit
  unfolding content_good content_by
  content_as w d = sym (ap content_by (ap (λ (x : Context). first_bad x (message (pending c))) (sym is) ∙ d))

  pub sent_lacks : not t ≡ true → (r : Place) → r ≡ lacked_from k.offer (chosen (is_changed ms) 170) 0 4
      → Err (Element Id r) ≡ content_good l s guest (message (pending (record { values = vs; marks = ms }))) effect exit
  unfolding content_by
  sent_lacks n r q =
      ap (λ (x : Place). Err (Element Id x)) q
      ∙ content_as (stopped_at Id (lacked_from k.offer (chosen (is_changed ms) 170) 0 4))
      (lacked_stops k usage vs (chosen (is_changed ms) 170) (pending_fit Full c good) (chosen_few (is_changed ms) 170) (good_lacks k.offer c good t e n))

  pub sent_exit : not t ≡ false → (m : Context) → m ≡ context_of l s guest InEffect → (v : Admission) → v ≡ exit_good m effect exit
      → v ≡ content_good l s guest (message (pending (record { values = vs; marks = ms }))) effect exit
  unfolding content_by exit_good
  sent_exit n m i v q =
      q ∙ ap (λ (x : Context). judgement (exit_tests x effect exit)) i
      ∙ content_as (Ok tt) (sent_good k.offer c (sym e ∙ not-false t n) k usage refl (message (pending c)) (begins_self (message (pending c))))

-- ---- a run's target
run_refused_same : (f g : Fault) → ◌≡◌ {A = Result RunTarget Fault} (Err f) (Err g) → f ≡ g
run_refused_same f g e = cc

run_refused_not : {t : RunTarget} (f : Fault) → ◌≡◌ {A = Result RunTarget Fault} (Ok t) (Err f) → ⊥
run_refused_not f e = cc

slot_not : {t : RunTarget} (f : Fault) → ◌≡◌ {A = Result RunTarget Fault} (Err f) (Ok t) → ⊥
slot_not f e = cc

target_same : {t u : RunTarget} → ◌≡◌ {A = Result RunTarget Fault} (Ok t) (Ok u) → t ≡ u
target_same e = cc

module _ (s vs ms effect : List ℕ) (flags guest vcpu inputLength output_length exit : ℕ) where
  abbrev cache : Cache
  cache = record { values = vs; marks = ms }

  abbrev there : Result RunTarget Fault
  there = Ok (target_at s (base_of (layout_of s) s false guest vcpu))

  abbrev firsts : List (Bool × Fault)
  firsts = run_target_tests (layout_of s) s flags guest vcpu (length (message (pending cache))) inputLength output_length

  abbrev contents : List (Bool × Fault)
  contents = content_tests (layout_of s) s guest (message (pending cache)) effect exit

  -- the answers of `judge_cached`
  module _ (good : good_cache Full (record { values = vs; marks = ms }) ≡ true) (need : ℕ) (en : need ≡ row_bytes (chosen (is_changed ms) 170))
      (a : Result RunTarget Fault) (q : a ≡ run_target_of (layout_of s) s flags guest vcpu need inputLength output_length) where
    target_as : first_of Err firsts there ≡ a
    unfolding run_target_of
    target_as =
        sym (q ∙ ap (λ (n : ℕ). run_target_of (layout_of s) s flags guest vcpu n inputLength output_length) (need_is Full cache good need en))

    pub cached_refused : (f : Fault) → a ≡ Err f → Err f ≡ cached_target s (record { values = vs; marks = ms }) flags guest vcpu inputLength output_length effect exit
    unfolding cached_target
    cached_refused f h = sym (begin_refused Err there firsts contents f (was_refused Err run_refused_same there run_refused_not firsts f (target_as ∙ h)))

    module _ (t : RunTarget) (h : a ≡ Ok t) (v : Admission) (w : v ≡ content_good (layout_of s) s guest (message (pending (record { values = vs; marks = ms }))) effect exit) where
      at_slot : (judgement firsts ≡ Ok tt) × (there ≡ Ok t)
      at_slot = was_admitted Err run_refused_same there run_refused_not firsts (Ok t) slot_not (target_as ∙ h)

      past : cached_target s cache flags guest vcpu inputLength output_length effect exit ≡ first_of Err contents there
      unfolding cached_target
      past = begin_admitted Err there firsts contents at_slot.0

      judged_content : judgement contents ≡ v
      unfolding content_good
      judged_content = sym w

      pub cached_content : (f : Fault) → v ≡ Err f → Err f ≡ cached_target s (record { values = vs; marks = ms }) flags guest vcpu inputLength output_length effect exit
      cached_content f e = sym (past ∙ all_refused Err there contents f (judged_content ∙ e))

      pub cached_slot : v ≡ Ok tt → Ok t ≡ cached_target s (record { values = vs; marks = ms }) flags guest vcpu inputLength output_length effect exit
      cached_slot e = sym (past ∙ all_admitted Err there contents (judged_content ∙ e) ∙ at_slot.1)

-- ---- past the tests
module _ (s vs ms input output effect : List ℕ) (flags guest vcpu exit : ℕ) where
  abbrev own : Cache
  own = record { values = vs; marks = ms }

  abbrev tests : List (Bool × Fault)
  tests = cached_tests (layout_of s) s own flags guest vcpu (length input) (length output) effect exit

  abbrev laid : List ℕ
  laid = put input 0 (message (pending own))

  abbrev base : ℕ
  base = base_of (layout_of s) s false guest vcpu

  abbrev size : ℕ
  size = input_size s (base_of (layout_of s) s false guest vcpu)

  module _ (good : good_cache Full (record { values = vs; marks = ms }) ≡ true) (h : judgement (cached_tests (layout_of s) s (record { values = vs; marks = ms }) flags guest vcpu (length input) (length output) effect exit) ≡ Ok tt) where
    passed : Passed tests
    passed = judged_passed tests h

    lents : (ltb (length input) size ≡ false) × (ltb size (length (message (pending own))) ≡ false)
    lents = or_false _ _ passed.1.1.1.1.1.1.1.0

    room : length (message (pending own)) ≤ size
    room = ltb-false _ _ lents.1

    -- the same tests of the run itself, which needs nothing
    earlier : (n : ℕ) → n ≡ length input → Passed (run_target_tests (layout_of s) s flags guest vcpu 0 n (length output))
    earlier n e =
        let p = passed in
        let z : (ltb n size || ltb size 0) ≡ false = ap₂ (λ (x y : Bool). x || y) (ap (λ (m : ℕ). ltb m size) e ∙ lents.0) (le-ltb size 0 (omega arith)) in
        (p.0, (p.1.0, (p.1.1.0, (p.1.1.1.0, (p.1.1.1.1.0, (p.1.1.1.1.1.0, (p.1.1.1.1.1.1.0, (z, (p.1.1.1.1.1.1.1.1.0, tt)))))))))

    ends : Passed (exit_tests (context_of (layout_of s) s guest InEffect) effect exit)
    ends = let p = passed.1.1.1.1.1.1.1.1.1.1 in (p.0, (p.1.0, (p.1.1.0, tt)))

    found : RunFound (layout_of s) s guest base size (length input) (length output)
    found = run_found (layout_of s) (layout_sound s) s flags guest vcpu 0 (length input) (length output) (earlier (length input) refl)

    -- the cache is good by the guest's own list
    own_good : good_cache (context_of (layout_of s) s guest RunInput).offer own ≡ true
    own_good = done_good (context_of (layout_of s) s guest RunInput).offer own good (context_of (layout_of s) s guest RunInput) refl refl (pending_fit Full own good) (stopped_not _ passed.1.1.1.1.1.1.1.1.1.0)

    begun : Begins (input_of s base laid) (message (pending own))
    begun =
        begins_first laid (message (pending own)) size (begins_put input (message (pending own)) (omega (arith, room, found.lent))) room
        (omega (arith, length_put input 0 (message (pending own)), found.lent))

    walked : first_bad (context_of (layout_of s) s guest RunInput) (input_of s base laid) ≡ Ok tt
    walked = sent_good (context_of (layout_of s) s guest RunInput).offer own own_good (context_of (layout_of s) s guest RunInput) refl refl (input_of s base laid) begun

    pub run_accepted : run_vcpu (layout_of s) s flags guest vcpu (put input 0 (message (pending (record { values = vs; marks = ms })))) output effect exit
        ≡ ran (base_of (layout_of s) s false guest vcpu) s (input_of s (base_of (layout_of s) s false guest vcpu) (put input 0 (message (pending (record { values = vs; marks = ms }))))) output effect exit
    unfolding run_vcpu decide
    run_accepted =
        let done = ran base s (input_of s base laid) output effect exit in
        let ks = exit_tests (context_of (layout_of s) s guest InEffect) effect exit in
        begin_admitted (refuse s output) done (run_target_tests (layout_of s) s flags guest vcpu 0 (length laid) (length output)) (content_tests (layout_of s) s guest (input_of s base laid) effect exit)
        (passed_judged (run_target_tests (layout_of s) s flags guest vcpu 0 (length laid) (length output)) (earlier (length laid) (length_put input 0 (message (pending own)))))
        ∙ ap (λ (w : Walked). cond (is_stopped w) (refuse s output (fault_of w)) (first_of (refuse s output) ks done)) walked
        ∙ all_admitted (refuse s output) done ks (passed_judged ks ends)

    effect_ready : AllReady base effect (length s)
    effect_ready = ready_as (context_of (layout_of s) s guest InEffect) base (length s) effect (stopped_not _ ends.1.1.0) (omega (arith, found.room, found.long)) (long_enough effect (bad_length effect) refl ends.1.0)

    sendable : Sendable s base size own input output effect exit
    sendable =
        record {
          good = good;
          fits = room;
          lent = found.lent;
          ready = effect_ready;
          known = not-false _ ends.0;
          room = omega (arith, found.room, found.long);
          out = found.out;
        }

-- ---- the answers of the run
-- of lent slices of another length
module _ (s vs ms input output effect : List ℕ) (flags guest vcpu pvr exit : ℕ) (r : Answer) (i : r ≡ refusal CacheBad) where
  none_run : good_cache (offer_of pvr) (record { values = vs; marks = ms }) ≡ false
      → ◌≡◌ {A = RunOutcome} (record { answer = r; store = s; cache = record { values = vs; marks = ms }; input = input; output = output }) (run_cache (layout_of s) s (record { values = vs; marks = ms }) flags guest vcpu pvr input output effect exit)
  unfolding run_cache
  none_run g =
      let c : Cache = record { values = vs; marks = ms } in
      let refused : Fault → RunOutcome = λ f. record { answer = refusal f; store = s; cache = c; input = input; output = output } in
      let laid = put input 0 (message (pending c)) in
      ap (λ (y : Answer). record { answer = y; store = s; cache = c; input = input; output = output }) i
      ∙ sym (ap (λ (t : Bool). cond (not t) (refused CacheBad) (first_of refused (cached_tests (layout_of s) s c flags guest vcpu (length input) (length output) effect exit) (ran_with c laid (run_vcpu (layout_of s) s flags guest vcpu laid output effect exit)))) g)

  pub run_short_values : (length vs ≡ 1820 → ⊥)
      → ◌≡◌ {A = RunOutcome} (record { answer = r; store = s; cache = record { values = vs; marks = ms }; input = input; output = output }) (run_cache (layout_of s) s (record { values = vs; marks = ms }) flags guest vcpu pvr input output effect exit)
  run_short_values n = none_run (short_values (offer_of pvr) vs ms n)

  pub run_short_marks : (length ms ≡ 6 → ⊥)
      → ◌≡◌ {A = RunOutcome} (record { answer = r; store = s; cache = record { values = vs; marks = ms }; input = input; output = output }) (run_cache (layout_of s) s (record { values = vs; marks = ms }) flags guest vcpu pvr input output effect exit)
  run_short_marks n = none_run (short_marks (offer_of pvr) vs ms n)

-- of two arrays, us and ns, which are the whole slices
pub run_whole : (s vs ms us ns input output effect : List ℕ) (flags guest vcpu pvr exit : ℕ) (o : RunOutcome) → IsWholeChunk vs us 1820 → IsWholeChunk ms ns 6
    → o ≡ run_cache (layout_of s) s (record { values = us; marks = ns }) flags guest vcpu pvr input output effect exit → o ≡ run_cache (layout_of s) s (record { values = vs; marks = ms }) flags guest vcpu pvr input output effect exit
run_whole s vs ms us ns input output effect flags guest vcpu pvr exit o p w e = e ∙ ap₂ (λ (x z : List ℕ). run_cache (layout_of s) s (record { values = x; marks = z }) flags guest vcpu pvr input output effect exit) p.same w.same

module _ (s vs ms input output effect : List ℕ) (flags guest vcpu pvr exit : ℕ) (i : length vs ≡ 1820) (j : length ms ≡ 6) (o : Offer) (eo : o ≡ offer_of pvr) (t : Bool) (z : t ≡ good_marks o ms) where
  abbrev before : Cache
  before = record { values = vs; marks = ms }

  g : t ≡ good_cache o (record { values = vs; marks = ms })
  g = z ∙ sym (good_words o vs ms i j)

  abbrev refusedRun : Fault → RunOutcome
  refusedRun f = record { answer = refusal f; store = s; cache = before; input = input; output = output }

  abbrev goneOn : RunOutcome
  goneOn = ran_with before (put input 0 (message (pending before))) (run_vcpu (layout_of s) s flags guest vcpu (put input 0 (message (pending before))) output effect exit)

  abbrev judgements : List (Bool × Fault)
  judgements = cached_tests (layout_of s) s before flags guest vcpu (length input) (length output) effect exit

  run_as : (b : Bool) → t ≡ b → run_cache (layout_of s) s before flags guest vcpu pvr input output effect exit ≡ cond (not b) (refusedRun CacheBad) (first_of refusedRun judgements goneOn)
  unfolding run_cache
  run_as b e = ap (λ (x : Bool). cond (not x) (refusedRun CacheBad) (first_of refusedRun judgements goneOn)) (ap (λ (x : Offer). good_cache x before) (sym eo) ∙ sym g ∙ e)

  pub run_malformed : not t ≡ true
      → ◌≡◌ {A = RunOutcome} (record { answer = refusal CacheBad; store = s; cache = record { values = vs; marks = ms }; input = input; output = output }) (run_cache (layout_of s) s (record { values = vs; marks = ms }) flags guest vcpu pvr input output effect exit)
  run_malformed n = sym (run_as false (not-true t n))

  module _ (n : not t ≡ false) where
    pub run_full : good_cache Full (record { values = vs; marks = ms }) ≡ true
    run_full = good_full o before (sym g ∙ not-false t n)

    module _ (a : Result RunTarget Fault) (q : a ≡ cached_target s (record { values = vs; marks = ms }) flags guest vcpu (length input) (length output) effect exit) where
      abbrev slot : Result RunTarget Fault
      slot = Ok (target_at s (base_of (layout_of s) s false guest vcpu))

      pub run_refused : (f : Fault) → a ≡ Err f
          → ◌≡◌ {A = RunOutcome} (record { answer = refusal f; store = s; cache = record { values = vs; marks = ms }; input = input; output = output }) (run_cache (layout_of s) s (record { values = vs; marks = ms }) flags guest vcpu pvr input output effect exit)
      unfolding cached_target
      run_refused f h =
          sym (run_as true (not-false t n) ∙ all_refused refusedRun goneOn judgements f (was_refused Err run_refused_same slot run_refused_not judgements f (sym q ∙ h)))

      module _ (x : RunTarget) (h : a ≡ Ok x) where
        at : (judgement judgements ≡ Ok tt) × (slot ≡ Ok x)
        unfolding cached_target
        at = was_admitted Err run_refused_same slot run_refused_not judgements (Ok x) slot_not (sym q ∙ h)

        pub run_sendable : Sendable s x.base x.size (record { values = vs; marks = ms }) input output effect exit
        run_sendable =
            subst (λ (y : RunTarget). Sendable s y.base y.size before input output effect exit) (target_same at.1) (sendable s vs ms input output effect flags guest vcpu exit run_full at.0)

        pub run_sent : (r : RunOutcome) → r ≡ sent s x.base x.size (record { values = vs; marks = ms }) input output effect exit → r ≡ run_cache (layout_of s) s (record { values = vs; marks = ms }) flags guest vcpu pvr input output effect exit
        unfolding sent
        run_sent r i =
            let laid = put input 0 (message (pending before)) in
            i ∙ ap (λ (y : RunTarget). ran_with before laid (ran y.base s (bytes_at laid 0 y.size) output effect exit)) (sym (target_same at.1))
            ∙ ap (ran_with before laid) (sym (run_accepted s vs ms input output effect flags guest vcpu exit run_full at.0))
            ∙ sym (run_as true (not-false t n) ∙ all_admitted refusedRun goneOn judgements at.0)

-- ---- `send`
module _ (s : List ℕ) (base size : ℕ) (vs ms input output effect : List ℕ) (exit : ℕ) (p : Sendable s base size (record { values = vs; marks = ms }) input output effect exit) where
  abbrev held : Cache
  held = record { values = vs; marks = ms }

  pub laid_fits : length (message (pending (record { values = vs; marks = ms }))) ≤ length input
  laid_fits = omega (arith, p.fits, p.lent)

  module _ (x : List ℕ) (lx : x ≡ put input 0 (message (pending (record { values = vs; marks = ms })))) where
    module _ (part : List ℕ) (lp : part ≡ bytes_at x 0 size) where
      begins : Begins part (message (pending held))
      begins =
          subst (λ (y : List ℕ). Begins y (message (pending held))) (sym (lp ∙ ap (λ (y : List ℕ). bytes_at y 0 size) lx))
          (begins_first (put input 0 (message (pending held))) (message (pending held)) size (begins_put input (message (pending held)) laid_fits) p.fits (omega (arith, p.lent, length_put input 0 (message (pending held)))))

      -- each element that is sent can be stored
      pub part_ready : AllReady base part (length s)
      part_ready =
          let k : Context = record { usage = RunInput; capabilities = 0; offer = Full } in
          ready_as k base (length s) part (sent_good Full held p.good k refl refl part begins) p.room
          (omega (arith, begins.within, length_message (pending held)))

      pub effect_after : (t : List ℕ) → t ≡ applied base part (count_of part) s → AllReady base effect (length t)
      effect_after t e = ready_after base s t part effect e p.ready

      module _ (t u v : List ℕ) (et : t ≡ applied base part (count_of part) s) (eu : u ≡ applied base effect (count_of effect) t) (ev : v ≡ put output 0 (output_of base u exit)) where
        slot_room : base + 1820 ≤ length u
        slot_room = omega (arith, p.room, ap length et, length_applied base part s (count_of part), ap length eu, length_applied base effect t (count_of effect))

        pub out_keeps : AllKeeps v
        unfolding output_of
        out_keeps =
            valued_keeps base u slot_room (returned exit) (returned_named exit) (omega (arith, returned_few exit)) v
            (subst (λ (y : List ℕ). Begins y (message (valued base u (returned exit)))) (sym ev)
            (begins_put output (output_of base u exit) (omega (arith, length_output base u exit slot_room, output_short exit, p.out))))

        pub send_left : (us ns : List ℕ) → ◌≡◌ {A = Cache} (record { values = us; marks = ns }) (refreshed (record { values = vs; marks = ms }) v)
            → ◌≡◌ {A = RunOutcome} (record { answer = success exit; store = u; cache = record { values = us; marks = ns }; input = x; output = v }) (sent s base size (record { values = vs; marks = ms }) input output effect exit)
        unfolding sent ran_with ran ran_store
        send_left us ns e =
            let w : u ≡ applied base effect (count_of effect) (applied base part (count_of part) s) = eu ∙ ap (applied base effect (count_of effect)) et in
            ap (λ (d : Cache). record { answer = success exit; store = u; cache = d; input = x; output = v }) e
            ∙ ap (λ (y : List ℕ). record { answer = success exit; store = u; cache = refreshed held y; input = x; output = y }) ev
            ∙ ap (λ (y : List ℕ). ran_with held x (record { answer = success exit; store = y; buffer = put output 0 (output_of base y exit) })) w
            ∙ ap (λ (y : List ℕ). ran_with held x (ran base s y output effect exit)) lp
            ∙ ap (λ (y : List ℕ). ran_with held y (ran base s (bytes_at y 0 size) output effect exit)) lx
