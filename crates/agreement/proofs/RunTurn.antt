-- A run: the cached and the plain L1 give the same, their stores are equal after an accepted one, and they stay tied. Assumes nothing.
use mathlib.Core.Path.{◌≡◌, refl, sym, ap, ap₂, ◌∙◌, subst}
use mathlib.Core.Bool.{Bool, true, false, not, ◌||◌, cond}
use mathlib.Core.List.{List, [], ◌∷◌, ◌++◌}
use Prim.Native.Nat.{ℕ, ◌+◌, ◌≤◌, ◌<◌}
use native.Mathlib.Omega.{arith}
use lib.Dec.{eqb, ltb, leb}
use lib.ListN.{length}
use borrow.Author.Tests.{le-ltb, ltb-false, leb-true, not-false, eqb-true, ne_eqb}
use Rattle.std.specs.Prelude.{Ok, Err}
use Rattle.octets.specs.Bytes.{bytes_at, put, zeros, right}
use Rattle.octets.proofs.Bytes.{length_put, length_zeros, zeros_part}
use Rattle.answer.specs.declared.Fault.{Fault}
use Rattle.answer.specs.declared.Fault.TheVariants.{None, Store, Flag, Guest, Token, Capability, Vcpu, Length, Element, Room, Exists, Unregistered, Short, Exit, Effect, Cache as CacheBad, Taken, Form, Records, Record, Missing, InUse}
use Rattle.answer.specs.declared.RunBuffer.TheVariants.{Input, Output}
use Rattle.answer.specs.declared.Call.{Call as Name}
use Rattle.answer.specs.declared.Registers.{Registers}
use Rattle.answer.specs.Answer.{told}
use Rattle.answer.specs.Refusals.{first_of}
use Rattle.elements.specs.Later.{offer_of}
use Rattle.rules.specs.declared.Context.{Context}
use Rattle.rules.specs.declared.Usage.TheVariants.{RunInput, Effect as InEffect}
use Rattle.rules.specs.Rules.{good_input, good_output}
use Rattle.gsb.specs.Walk.{count_of, first_bad, is_stopped, fault_of, Walked}
use Rattle.gsb.specs.Message.{message, Begins}
use Rattle.gsb.proofs.RoundTrip.{begins_self, begins_put, begins_first, zeros_good}
use Rattle.store.specs.declared.Layout.{Layout}
use Rattle.store.specs.Layout.{Sound, guest_bytes, guest_at}
use Rattle.store.specs.Header.{header, capabilities_of, live, slot_of, is_taken}
use Rattle.store.proofs.Search.{both}
use Rattle.store.proofs.Tests.{live_parts}
use Rattle.transfer.specs.Transfer.{applied}
use Rattle.transfer.proofs.Messages.{applied_zeros}
use Rattle.exits.specs.Exits.{returned, valued, output_of}
use Rattle.exits.proofs.Rows.{length_output, output_short, returned_few}
use Rattle.admission.specs.Refusals.{Admission, Outcome, success, refusal, refuse, decide, judgement, unsupported}
use Rattle.state.specs.State.{pvr_of, context_of}
use Rattle.run.specs.Run.{run_bits, input_size, output_size, lent_tests, effect_fault, exit_tests, run_target_tests, input_of, content_tests, ran_store, ran, run_vcpu}
use Rattle.admission.proofs.Judging.{begin_refused, begin_admitted, all_refused, all_admitted, judged_passed}
use Rattle.promises.proofs.Kept.{applied_header, applied_kept}
use Rattle.transfer.proofs.Named.{beside}
use Rattle.promises.proofs.Lowest.{Real}
use Rattle.promises.proofs.States.{pvr_kept}
use Rattle.promises.proofs.Told.{none_told}
use Rattle.l1.specs.Marks.{Cache}
use Rattle.l1.specs.Cache.{Fit, pending, refreshed, RunOutcome, ran_with, run_cache}
use Rattle.agreement.specs.Plain.{run_plain}
use Rattle.agreement.specs.Agree.{Op, Run, seen, Turn, Cached, cached_turn, plain_turn, since, in_order, Holds, registered_input}
use Rattle.agreement.proofs.Ours.{Ours, ours_base, ours_live, ours_context, ours_room, back_header, back_input, back_output}
use Rattle.agreement.proofs.Caches.{pending_due}
use Rattle.agreement.proofs.Invariant.{at, Inv, Goes, as_turned, plain_ours, cache_good}
use Rattle.agreement.proofs.Flush.{due_applied, due_good, due_need, due_held}
use Rattle.l1.proofs.Returned.{returned_named}
use Rattle.agreement.proofs.Refresh.{refreshed_is, empty_inv, keep_all_inv}
use Rattle.agreement.proofs.Effects.{effect_input, effect_output}

-- a run's fault is told alike with the cache and without
run_told : (f : Fault) (n : ℕ) → told Name.CacheRun f n ≡ told Name.RunVcpu f n
run_told None n = refl
run_told Store n = refl
run_told (Flag bit) n = refl
run_told Guest n = refl
run_told Token n = refl
run_told Capability n = refl
run_told Vcpu n = refl
run_told Length n = refl
run_told (Element bad place) n = refl
run_told Room n = refl
run_told Exists n = refl
run_told (Unregistered buffer) n = refl
run_told (Short buffer) n = refl
run_told Exit n = refl
run_told (Effect place) n = refl
run_told CacheBad n = refl
run_told Taken n = refl
run_told Form n = refl
run_told Records n = refl
run_told (Record offset) n = refl
run_told (Missing id) n = refl
run_told InUse n = refl

-- a test that holds refuses with a fault
real_fault : (xs : List (Bool × Fault)) → Real xs → (f : Fault) → judgement xs ≡ Err f → f ≡ None → ⊥
real_fault [] r f e = let z : ◌≡◌ {A = ℕ} 0 1 = cc in absurd (omega arith)
real_fault (x ∷ xs) r f e = go x.0 refl e (real_fault xs r.1 f)
  where
    same : {a b : Fault} → ◌≡◌ {A = Admission} (Err a) (Err b) → a ≡ b
    same q = cc

    go : (t : Bool) → x.0 ≡ t → cond t (Err x.1) (judgement xs) ≡ Err f → (judgement xs ≡ Err f → f ≡ None → ⊥) → f ≡ None → ⊥
    go true q h ih n = r.0 q (same h ∙ n)
    go false q h ih n = ih h n

-- a test that does not hold says nothing
past_false : {A : Type 0} (refuse : Fault → A) (o : A) (xs : List (Bool × Fault)) (f : Fault) (ys : List (Bool × Fault)) → first_of refuse (xs ++ ((false, f) ∷ ys)) o ≡ first_of refuse (xs ++ ys) o
past_false refuse o [] f ys = refl
past_false refuse o (x ∷ xs) f ys = ap (cond x.0 (refuse x.1)) (past_false refuse o xs f ys)

effect_real : (w : Walked) → is_stopped w ≡ true → effect_fault w ≡ None → ⊥
effect_real (Ok _) e q = let z : ◌≡◌ {A = ℕ} 0 1 = cc in omega arith
effect_real (Err stop) e q = let z : ◌≡◌ {A = ℕ} 0 1 = cc in omega arith

module _ (l : Layout) (so : Sound l) (g v j : ℕ) (below_slots : j < l.slots) (pvr flags : ℕ) (input output effect : List ℕ) (exit : ℕ) where
  abbrev place : ℕ
  place = at l so g v j below_slots pvr

  -- ---- the tests 1 to 12, by the header and the two sizes alone
  common : List ℕ → ℕ → ℕ → List (Bool × Fault)
  common h i o =
      (false, Store) ∷ unsupported run_bits flags ∷ (not (live l h g), Guest) ∷ (leb l.slots (slot_of l h g v), Vcpu) ∷ (is_taken l h (slot_of l h g v), Taken)
      ∷ (not (good_input i), Unregistered Input) ∷ (not (good_output o), Unregistered Output) ∷ (ltb (length input) i || false, Short Input) ∷ (ltb (length output) o, Short Output) ∷ []

  common_real : (h : List ℕ) (i o : ℕ) → Real (common h i o)
  unfolding common
  common_real h i o = (
    (λ t z. let y : ◌≡◌ {A = ℕ} 0 1 = cc in omega arith),
    (
      (λ t z. let y : ◌≡◌ {A = ℕ} 0 1 = cc in omega arith),
      (
        (λ t z. let y : ◌≡◌ {A = ℕ} 0 1 = cc in omega arith),
        (
          (λ t z. let y : ◌≡◌ {A = ℕ} 0 1 = cc in omega arith),
          (
            (λ t z. let y : ◌≡◌ {A = ℕ} 0 1 = cc in omega arith),
            (
              (λ t z. let y : ◌≡◌ {A = ℕ} 0 1 = cc in omega arith),
              (
                (λ t z. let y : ◌≡◌ {A = ℕ} 0 1 = cc in omega arith),
                ((λ t z. let y : ◌≡◌ {A = ℕ} 0 1 = cc in omega arith), ((λ t z. let y : ◌≡◌ {A = ℕ} 0 1 = cc in omega arith), tt)),
              ),
            ),
          ),
        ),
      ),
    ),
  )

  run_target_common : (s : List ℕ) → Ours l so g v j below_slots pvr s → (need lent : ℕ) → need ≤ input_size s place → lent ≡ length input
      → run_target_tests l s flags g v need lent (length output) ≡ common (header l s) (input_size s place) (output_size s place)
  unfolding common
  run_target_common s o need lent k e =
      ap₂ (λ (t : Bool) (x : ℕ). ((not t, Store) ∷ unsupported run_bits flags ∷ (not (live l (header l s) g), Guest) ∷ (leb l.slots (slot_of l (header l s) g v), Vcpu) ∷ (is_taken l (header l s) (slot_of l (header l s) g v), Taken) ∷ []) ++ lent_tests s x need lent (length output)) o.good (ours_base l so g v j below_slots pvr s o)
      ∙ ap₂ (λ (n : ℕ) (z : Bool). (false, Store) ∷ unsupported run_bits flags ∷ (not (live l (header l s) g), Guest) ∷ (leb l.slots (slot_of l (header l s) g v), Vcpu) ∷ (is_taken l (header l s) (slot_of l (header l s) g v), Taken)
      ∷ (not (good_input (input_size s place)), Unregistered Input) ∷ (not (good_output (output_size s place)), Unregistered Output) ∷ (ltb n (input_size s place) || z, Short Input) ∷ (ltb (length output) (output_size s place), Short Output) ∷ [])
      e (le-ltb (input_size s place) need k)

  -- what they say of the lent buffers
  record Lent (i o : ℕ) : Type 0 where
    some : 4 ≤ i
    lent : i ≤ length input
    out : 124 ≤ length output

  or_left : (a b : Bool) → (a || b) ≡ false → a ≡ false
  or_left true b e = e
  or_left false b e = refl

  common_lent : (h : List ℕ) (i o : ℕ) → judgement (common h i o) ≡ Ok tt → Lent i o
  unfolding common
  common_lent h i o e =
      let p = judged_passed (common h i o) e in
      let t = p.1.1.1.1.1 in
      let a = both (leb 4 i) (leb i 65536) (not-false _ t.0) in
      let c = both (leb 124 o) (leb o 65536) (not-false _ t.1.0) in
      record {
        some = leb-true _ _ a.0;
        lent = ltb-false _ _ (or_left _ _ t.1.1.0);
        out = omega (arith, leb-true 124 o c.0, ltb-false (length output) o t.1.1.1.0);
      }

  -- ---- 13 and 14
  abbrev ends : List ℕ → List (Bool × Fault)
  ends s = exit_tests (context_of l s g InEffect) effect exit

  ends_same : (s t : List ℕ) → Ours l so g v j below_slots pvr s → Ours l so g v j below_slots pvr t → header l t ≡ header l s → ends t ≡ ends s
  ends_same s t a b e =
      ap (λ (k : Context). exit_tests k effect exit)
      (ours_context l so g v j below_slots pvr t b InEffect
      ∙ ap (λ (h : List ℕ). record { usage = InEffect; capabilities = capabilities_of h; offer = offer_of pvr }) e
      ∙ sym (ours_context l so g v j below_slots pvr s a InEffect))

  ends_real : (s : List ℕ) → Real (ends s)
  ends_real s =
      ((λ t z. let y : ◌≡◌ {A = ℕ} 0 1 = cc in omega arith), ((λ t z. let y : ◌≡◌ {A = ℕ} 0 1 = cc in omega arith), (effect_real (first_bad (context_of l s g InEffect) effect), tt)))

  -- ---- a run on a store, given an input that is good: past 12 it is 13, 14 and what it does
  module _ (s : List ℕ) (o : Ours l so g v j below_slots pvr s) (lent : List ℕ) (n : length lent ≡ length input) where
    abbrev counts : List ℕ
    counts = bytes_at lent 0 (input_size s place)

    run_as : run_vcpu l s flags g v lent output effect exit
        ≡ first_of (refuse s output) (common (header l s) (input_size s place) (output_size s place) ++ content_tests l s g counts effect exit) (ran place s counts output effect exit)
    unfolding run_vcpu decide
    run_as =
        ap₂ (λ (xs : List (Bool × Fault)) (x : ℕ). first_of (refuse s output) (xs ++ content_tests l s g (input_of s x lent) effect exit) (ran x s (input_of s x lent) output effect exit))
        (run_target_common s o 0 (length lent) (omega arith) n) (ours_base l so g v j below_slots pvr s o)

    run_off : (f : Fault) → judgement (common (header l s) (input_size s place) (output_size s place)) ≡ Err f → run_vcpu l s flags g v lent output effect exit ≡ refuse s output f
    run_off f e =
        run_as ∙ begin_refused (refuse s output) (ran place s counts output effect exit) (common (header l s) (input_size s place) (output_size s place)) (content_tests l s g counts effect exit) f e

    run_on : judgement (common (header l s) (input_size s place) (output_size s place)) ≡ Ok tt → first_bad (context_of l s g RunInput) counts ≡ Ok tt
        → run_vcpu l s flags g v lent output effect exit ≡ first_of (refuse s output) (ends s) (ran place s counts output effect exit)
    run_on e d =
        run_as ∙ begin_admitted (refuse s output) (ran place s counts output effect exit) (common (header l s) (input_size s place) (output_size s place)) (content_tests l s g counts effect exit) e
        ∙ ap (λ (w : Walked). cond (is_stopped w) (refuse s output (fault_of w)) (first_of (refuse s output) (ends s) (ran place s counts output effect exit))) d

  -- ---- both L1s
  module _ (b : Cached) (p : List ℕ) (ws : List (ℕ × List ℕ)) (i : Inv l so g v j below_slots pvr b p ws) where
    abbrev s : List ℕ
    s = b.store

    plain_is : Ours l so g v j below_slots pvr p
    plain_is = plain_ours l so g v j below_slots pvr b p ws i

    same_header : header l p ≡ header l s
    same_header = ap (header l) i.plain ∙ back_header l so g v j below_slots pvr s ws i.fit

    same_input : input_size p place ≡ input_size s place
    same_input = ap (λ (x : List ℕ). input_size x place) i.plain ∙ back_input l so g v j below_slots pvr s ws i.fit

    same_output : output_size p place ≡ output_size s place
    same_output = ap (λ (x : List ℕ). output_size x place) i.plain ∙ back_output l so g v j below_slots pvr s ws i.fit

    abbrev firsts : List (Bool × Fault)
    firsts = common (header l s) (input_size s place) (output_size s place)

    plain_firsts : common (header l p) (input_size p place) (output_size p place) ≡ firsts
    plain_firsts = ap₂ (λ (h : List ℕ) (x : ℕ). common h x (output_size p place)) same_header same_input ∙ ap (common (header l s) (input_size s place)) same_output

    -- ---- the cached run
    waits : pending b.cache ≡ in_order ws 170
    waits = pending_due b.cache ws i.due

    need_fits : length (message (pending b.cache)) ≤ input_size s place
    need_fits = omega (arith, ap (λ (es : List (ℕ × List ℕ)). length (message es)) waits, due_need (offer_of pvr) ws i.fit, i.wide)

    abbrev laid : List ℕ
    laid = put input 0 (message (pending b.cache))

    abbrev refusedRun : Fault → RunOutcome
    refusedRun f = record { answer = refusal f; store = s; cache = b.cache; input = input; output = output }

    abbrev goneOn : RunOutcome
    goneOn = ran_with b.cache laid (run_vcpu l s flags g v laid output effect exit)

    -- the writes that wait fit the guest's own list, which is the one that the cache goes by
    own_fit : Fit (offer_of (pvr_of l s g)) ws
    own_fit = subst (λ (n : ℕ). Fit (offer_of n) ws) (sym i.ours.told) i.fit

    sent_good : first_bad (context_of l s g RunInput) (message (pending b.cache)) ≡ Ok tt
    sent_good =
        ap (λ (es : List (ℕ × List ℕ)). first_bad (context_of l s g RunInput) (message es)) waits
        ∙ due_good (context_of l s g RunInput) refl ws own_fit (message (in_order ws 170)) (begins_self (message (in_order ws 170)))

    cached_as : run_cache l s b.cache flags g v pvr input output effect exit ≡ first_of refusedRun (firsts ++ ends s) goneOn
    unfolding run_cache
    cached_as =
        ap₂ (λ (t : Bool) (xs : List (Bool × Fault)). cond (not t) (refusedRun CacheBad) (first_of refusedRun (xs ++ content_tests l s g (message (pending b.cache)) effect exit) goneOn))
        (cache_good l so g v j below_slots pvr b p ws i) (run_target_common s i.ours (length (message (pending b.cache))) (length input) need_fits refl)
        ∙ ap (λ (w : Walked). first_of refusedRun (firsts ++ ((is_stopped w, fault_of w) ∷ ends s)) goneOn) sent_good
        ∙ past_false refusedRun goneOn firsts None (ends s)

    -- ---- the plain run: its input holds no element
    abbrev blank : List ℕ
    blank = zeros (length input)

    blank_long : length blank ≡ length input
    blank_long = length_zeros (length input)

    plain_off : (f : Fault) → judgement firsts ≡ Err f → run_plain l p flags g v input output effect exit ≡ refuse p output f
    unfolding run_plain
    plain_off f e = run_off p plain_is blank blank_long f (ap judgement plain_firsts ∙ e)

    module _ (e : judgement firsts ≡ Ok tt) where
      open_lent : Lent (input_size s place) (output_size s place)
      open_lent = common_lent (header l s) (input_size s place) (output_size s place) e

      blank_part : bytes_at blank 0 (input_size p place) ≡ zeros (input_size s place)
      blank_part = ap (bytes_at blank 0) same_input ∙ zeros_part (length input) 0 (input_size s place) (omega (arith, open_lent.lent))

      plain_on : run_plain l p flags g v input output effect exit ≡ first_of (refuse p output) (ends s) (ran place p (zeros (input_size s place)) output effect exit)
      unfolding run_plain
      plain_on =
          run_on p plain_is blank blank_long (ap judgement plain_firsts ∙ e) (ap (first_bad (context_of l p g RunInput)) blank_part ∙ zeros_good (context_of l p g RunInput) (input_size s place) open_lent.some)
          ∙ ap₂ (λ (xs : List (Bool × Fault)) (x : List ℕ). first_of (refuse p output) xs (ran place p x output effect exit)) (ends_same s p i.ours plain_is same_header) blank_part

      -- the store after the run, of both
      abbrev after : List ℕ
      after = applied place effect (count_of effect) p

      plain_store : ran_store place (zeros (input_size s place)) effect p ≡ after
      unfolding ran_store
      plain_store = ap (applied place effect (count_of effect)) (applied_zeros place (input_size s place) p open_lent.some)

      -- the cached run's input begins with what is due
      laid_begins : Begins (bytes_at laid 0 (input_size s place)) (message (in_order ws 170))
      laid_begins =
          let q = ap (λ (es : List (ℕ × List ℕ)). length (message es)) waits in
          subst (λ (es : List (ℕ × List ℕ)). Begins (bytes_at laid 0 (input_size s place)) (message es)) waits
          (begins_first laid (message (pending b.cache)) (input_size s place) (begins_put input (message (pending b.cache)) (omega (arith, need_fits, open_lent.lent))) need_fits
          (omega (arith, length_put input 0 (message (pending b.cache)), open_lent.lent)))

      cached_store : ran_store place (bytes_at laid 0 (input_size s place)) effect s ≡ after
      unfolding ran_store
      cached_store = ap (applied place effect (count_of effect)) (due_applied (offer_of pvr) place s ws i.fit (bytes_at laid 0 (input_size s place)) laid_begins ∙ sym i.plain)

      -- what both leave
      abbrev left : Outcome
      left = record { answer = success exit; store = after; buffer = put output 0 (output_of place after exit) }

      left_by_lem : (t inp : List ℕ) → ran_store place inp effect t ≡ after → ran place t inp output effect exit ≡ left
      unfolding ran
      left_by_lem t inp q = ap (λ (x : List ℕ). record { answer = success exit; store = x; buffer = put output 0 (output_of place x exit) }) q

      cached_ran : judgement (ends s) ≡ Ok tt → run_vcpu l s flags g v laid output effect exit ≡ left
      cached_ran a =
          run_on s i.ours laid (length_put input 0 (message (pending b.cache))) e (due_good (context_of l s g RunInput) refl ws own_fit (bytes_at laid 0 (input_size s place)) laid_begins)
          ∙ all_admitted (refuse s output) (ran place s (bytes_at laid 0 (input_size s place)) output effect exit) (ends s) a
          ∙ left_by_lem s (bytes_at laid 0 (input_size s place)) cached_store

    -- ---- the turn, by what each side did
    abbrev cachedOf : RunOutcome → Turn Cached
    cachedOf r = record { shown = seen Name.CacheRun r.answer r.output; next = record { cache = r.cache; store = r.store }; input = r.input }

    abbrev plain_of : Outcome → Turn (List ℕ)
    plain_of o = record { shown = seen Name.RunVcpu o.answer o.buffer; next = o.store; input = zeros (length input) }

    abbrev op : Op
    op = Run flags input output effect exit

    ran_turn : (r : RunOutcome) (o : Outcome) → run_cache l s b.cache flags g v pvr input output effect exit ≡ r → run_plain l p flags g v input output effect exit ≡ o
        → Goes l so g v j below_slots pvr b op ws (cachedOf r) (plain_of o) → Goes l so g v j below_slots pvr b op ws (cached_turn l g v pvr op b) (plain_turn l g v op p)
    unfolding cached_turn plain_turn
    ran_turn r o e q t = as_turned l so g v j below_slots pvr b op ws _ _ _ _ (ap cachedOf e) (ap plain_of q) t

    -- a refusal keeps everything
    refused_turn : (f : Fault) → (f ≡ None → ⊥) → Goes l so g v j below_slots pvr b op ws (cachedOf (refusedRun f)) (plain_of (refuse p output f))
    unfolding since
    refused_turn f n = record {
      same = record { shown = ap (λ (r : Registers). record { answer = r; buffer = output }) (run_told f 0); stores = λ z. absurd (n ((none_told Name.RunVcpu f 0).0 (eqb-true _ _ z))); input = λ z. absurd (n ((none_told Name.RunVcpu f 0).0 (eqb-true _ _ z))) };
      next = subst (λ (t : Bool). Inv l so g v j below_slots pvr b p (cond t [] ws)) (sym (not_zero (told Name.RunVcpu f 0).r3 (λ z. n ((none_told Name.RunVcpu f 0).0 z)))) i;
    }
      where
        not_zero : (x : ℕ) → (x ≡ 0 → ⊥) → eqb x 0 ≡ false
        not_zero x h = ne_eqb x 0 h

    -- ---- after an accepted run
    module _ (e : judgement firsts ≡ Ok tt) (a : judgement (ends s) ≡ Ok tt) where
      walked : first_bad (context_of l p g InEffect) effect ≡ Ok tt
      walked =
          let q = judged_passed (ends p) (ap judgement (ends_same s p i.ours plain_is same_header) ∙ a) in
          done (first_bad (context_of l p g InEffect) effect) q.1.1.0
        where
          done : (w : Walked) → is_stopped w ≡ false → w ≡ Ok tt
          done (Ok _) d = refl
          done (Err stop) d = let y : ◌≡◌ {A = ℕ} 0 1 = cc in absurd (omega arith)

      abbrev then : List ℕ
      then = applied place effect (count_of effect) p

      behind : l.guests_at ≤ place
      behind = omega (arith, so.guests_fit)

      -- the guest's own values lie before every slot
      then_guest : bytes_at then (guest_at l g) guest_bytes ≡ bytes_at p (guest_at l g) guest_bytes
      then_guest =
          let r = live_parts l (header l p) g (ours_live l so g v j below_slots pvr p plain_is) in
          beside (context_of l p g InEffect) place effect walked p (guest_at l g) guest_bytes (right (omega (arith, so.guests_fit, r.0, r.1)))

      then_ours : Ours l so g v j below_slots pvr then
      then_ours = record {
        good = applied_kept l so place effect (count_of effect) p behind ∙ plain_is.good;
        slot = ap (λ (h : List ℕ). slot_of l h g v) (applied_header l so place effect (count_of effect) p behind) ∙ plain_is.slot;
        here = ap (λ (h : List ℕ). is_taken l h j) (applied_header l so place effect (count_of effect) p behind) ∙ plain_is.here;
        told = pvr_kept l p then g then_guest ∙ plain_is.told;
      }

      then_input : input_size then place ≡ input_size s place
      then_input = effect_input (context_of l p g InEffect) refl place effect p walked ∙ same_input

      then_output : output_size then place ≡ output_size s place
      then_output = effect_output (context_of l p g InEffect) refl place effect p walked ∙ same_output

      room : place + 1820 ≤ length then
      room = ours_room l so g v j below_slots pvr then then_ours

      few : length (returned exit) ≤ 170
      few = omega (arith, returned_few exit)

      begun : Begins (put output 0 (output_of place then exit)) (message (valued place then (returned exit)))
      unfolding output_of
      begun = begins_put output (output_of place then exit) (omega (arith, length_output place then exit room, output_short exit, (open_lent e).out))

      next_inv : Inv l so g v j below_slots pvr (record { cache = refreshed b.cache (put output 0 (output_of place then exit)); store = then }) then []
      next_inv =
          subst (λ (c : Cache). Inv l so g v j below_slots pvr (record { cache = c; store = then }) then [])
          (sym (refreshed_is place then room b.cache (returned exit) (returned_named exit) few (put output 0 (output_of place then exit)) begun))
          (keep_all_inv l so g v j below_slots pvr then then_ours gi wd gu (returned exit) (returned_named exit) (record { values = b.cache.values; marks = zeros 6 })
          (empty_inv l so g v j below_slots pvr then then_ours gi wd gu b.cache.values i.values))
        where
          gi : good_input (input_size then place) ≡ true
          gi = ap good_input then_input ∙ i.input

          wd : 2424 ≤ input_size then place
          wd = omega (arith, i.wide, then_input)

          gu : good_output (output_size then place) ≡ true
          gu = ap good_output then_output ∙ i.output

      -- the input that it leaves
      held : Holds input (registered_input l g v s) (in_order ws 170) laid
      held =
          subst (λ (n : ℕ). Holds input n (in_order ws 170) laid) (sym (ap (input_size s) (ours_base l so g v j below_slots pvr s i.ours)))
          (due_held (offer_of pvr) input laid (input_size s place) ws i.fit (ap (λ (es : List (ℕ × List ℕ)). put input 0 (message es)) waits) (omega (arith, due_need (offer_of pvr) ws i.fit, i.wide)) (open_lent e).lent)

      accepted_turn : Goes l so g v j below_slots pvr b op ws (cached_turn l g v pvr op b) (plain_turn l g v op p)
      unfolding since ran_with
      accepted_turn =
          ran_turn (ran_with b.cache laid (left e)) (left e)
          (cached_as ∙ begin_admitted refusedRun goneOn firsts (ends s) e ∙ all_admitted refusedRun goneOn (ends s) a ∙ ap (ran_with b.cache laid) (cached_ran e a))
          (plain_on e ∙ all_admitted (refuse p output) (ran place p (zeros (input_size s place)) output effect exit) (ends s) a ∙ left_by_lem e p (zeros (input_size s place)) (plain_store e))
          (record {
            same = record { shown = refl; stores = λ z. refl; input = λ z. held };
            next = next_inv;
          })

    pub run_turn : Goes l so g v j below_slots pvr b op ws (cached_turn l g v pvr op b) (plain_turn l g v op p)
    run_turn = by_firsts (judgement firsts) refl
      where
        by_ends : judgement firsts ≡ Ok tt → (x : Admission) → judgement (ends s) ≡ x → Goes l so g v j below_slots pvr b op ws (cached_turn l g v pvr op b) (plain_turn l g v op p)
        by_ends e (Ok tt) q = accepted_turn e q
        by_ends e (Err f) q =
            ran_turn (refusedRun f) (refuse p output f) (cached_as ∙ begin_admitted refusedRun goneOn firsts (ends s) e ∙ all_refused refusedRun goneOn (ends s) f q)
            (plain_on e ∙ all_refused (refuse p output) (ran place p (zeros (input_size s place)) output effect exit) (ends s) f q) (refused_turn f (real_fault (ends s) (ends_real s) f q))

        by_firsts : (x : Admission) → judgement firsts ≡ x → Goes l so g v j below_slots pvr b op ws (cached_turn l g v pvr op b) (plain_turn l g v op p)
        by_firsts (Ok tt) e = by_ends e (judgement (ends s)) refl
        by_firsts (Err f) e =
            ran_turn (refusedRun f) (refuse p output f) (cached_as ∙ begin_refused refusedRun goneOn firsts (ends s) f e) (plain_off f e)
            (refused_turn f (real_fault firsts (common_real (header l s) (input_size s place) (output_size s place)) f e))
