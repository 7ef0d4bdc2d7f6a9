-- THEOREMS `write_unchanged`, `read_unchanged`, `run_unchanged`: a refused call of the cache leaves all lent memory as it found it.
-- Assumes nothing.
use mathlib.Core.Path.{◌≡◌, refl, ap, ◌∙◌}
use mathlib.Core.Bool.{Bool, true, false, not, cond}
use mathlib.Core.List.{List, ◌∷◌}
use Prim.Native.Nat.{ℕ}
use lib.ListN.{length}
use borrow.Author.Tests.{not-false}
use Rattle.octets.specs.Bytes.{bytes_at, put}
use Rattle.answer.specs.declared.Fault.{Fault}
use Rattle.answer.specs.declared.Fault.TheVariants.{None, Cache as CacheBad}
use Rattle.answer.specs.declared.Call.{Call as Name}
use Rattle.gsb.specs.Message.{message}
use Rattle.gsb.proofs.RoundTrip.{one_value}
use Rattle.elements.specs.Table.{number_of}
use Rattle.elements.specs.Later.{offer_of}
use Rattle.exits.specs.Exits.{element_of}
use Rattle.store.specs.declared.Layout.{Layout}
use Rattle.store.specs.Layout.{layout_of}
use Rattle.admission.specs.Refusals.{Outcome, success, refusal, Passed}
use Rattle.admission.proofs.Judging.{each_way}
use Rattle.state.specs.State.{get_state}
use Rattle.run.specs.Run.{ran, run_vcpu}
use Rattle.l0.specs.Calls.{GetState, outcome}
use Rattle.promises.specs.Promised.{NotAccepted, Unchanged}
use Rattle.promises.proofs.Kept.{refused_unchanged}
use Rattle.promises.proofs.Told.{refused_fault, fault_refused}
use Rattle.l1.specs.Marks.{Cache, valid, is_input, is_readable, good_cache}
use Rattle.l1.specs.Cache.{value_tests, change, write_cache, ReadOutcome, keep, one, value_in, fetched, read_cache, pending, RunOutcome, ran_with, cached_tests, run_cache}
use Rattle.l1.proofs.Running.{good_full, passed_judged, run_accepted}
use Rattle.agreement.specs.Refused.{Unwritten, Unread, Unrun}

-- ---- write
pub write_unchanged : (pvr : ℕ) (c : Cache) (id : ℕ) (v : List ℕ) → Unwritten c (write_cache pvr c id v)
unfolding write_cache
write_unchanged pvr c id v =
    each_way (Unwritten c) (λ f. record { answer = refusal f; cache = c })
    ((not (good_cache (offer_of pvr) c), CacheBad) ∷ value_tests (is_input (offer_of pvr) id) id v) (record { answer = success 0; cache = change c id v })
    (λ f. record { cache = λ n. refl }) (λ p. record { cache = λ n. absurd (refused_fault Name.CacheWrite (success 0) n refl) })

-- ---- read
module _ (l : Layout) (s : List ℕ) (guest vcpu pvr : ℕ) (c : Cache) (id : ℕ) (v : List ℕ) where
  abbrev served : ReadOutcome
  served = record { answer = success 0; cache = c; value = bytes_at c.values (element_of id).position (element_of id).size }

  abbrev got : Outcome
  got = get_state l s 0 guest vcpu (one id v)

  beside : Unchanged Name.GetState s (one id v) got
  beside = unfold outcome in refused_unchanged l s (GetState 0 guest vcpu (one id v))

  asked : Unread c v (fetched c id (length v) got)
  unfolding fetched
  asked = record {
    cache = λ n. ap (λ (t : Bool). cond t (keep c id (value_in got.buffer (length v))) c) n;
    value = λ n. ap (λ (b : List ℕ). value_in b (length v)) (beside.buffer (fault_refused Name.GetState got.answer (refused_fault Name.CacheRead got.answer n))) ∙ one_value id v;
  }

  either : (t : Bool) → Unread c v (cond t served (fetched c id (length v) got))
  either true = record { cache = λ n. absurd (refused_fault Name.CacheRead (success 0) n refl); value = λ n. absurd (refused_fault Name.CacheRead (success 0) n refl) }
  either false = asked

  pub read_unchanged : Unread c v (read_cache l s guest vcpu pvr c id v)
  unfolding read_cache
  read_unchanged =
      each_way (Unread c v) (λ f. record { answer = refusal f; cache = c; value = v })
      ((not (good_cache (offer_of pvr) c), CacheBad) ∷ value_tests (is_readable (offer_of pvr) id) id v) (cond (valid c (number_of id)) served (fetched c id (length v) got))
      (λ f. record { cache = λ n. refl; value = λ n. refl }) (λ p. either (valid c (number_of id)))

-- ---- run
module _ (s : List ℕ) (c : Cache) (flags guest vcpu pvr : ℕ) (input output effect : List ℕ) (exit : ℕ) where
  abbrev laid : List ℕ
  laid = put input 0 (message (pending c))

  abbrev tests : List (Bool × Fault)
  tests = cached_tests (layout_of s) s c flags guest vcpu (length input) (length output) effect exit

  abbrev gone : RunOutcome
  gone = ran_with c laid (run_vcpu (layout_of s) s flags guest vcpu laid output effect exit)

  -- past its tests a run of the cache is accepted: the input that it wrote is good
  past : Passed ((not (good_cache (offer_of pvr) c), CacheBad) ∷ tests) → gone.answer.fault ≡ None
  past p =
      unfold ran_with ran in
      ap (λ (o : Outcome). o.answer.fault)
      (run_accepted s c.values c.marks input output effect flags guest vcpu exit (good_full (offer_of pvr) c (not-false (good_cache (offer_of pvr) c) p.0)) (passed_judged tests p.1))

  gone_on : Passed ((not (good_cache (offer_of pvr) c), CacheBad) ∷ tests) → NotAccepted Name.CacheRun gone.answer → ⊥
  gone_on p n = refused_fault Name.CacheRun gone.answer n (past p)

  pub run_unchanged : Unrun s c input output (run_cache (layout_of s) s c flags guest vcpu pvr input output effect exit)
  unfolding run_cache
  run_unchanged =
      each_way (Unrun s c input output) (λ f. record { answer = refusal f; store = s; cache = c; input = input; output = output })
      ((not (good_cache (offer_of pvr) c), CacheBad) ∷ tests) gone
      (λ f. record { store = λ n. refl; cache = λ n. refl; input = λ n. refl; output = λ n. refl })
      (λ p. record { store = λ n. absurd (gone_on p n); cache = λ n. absurd (gone_on p n); input = λ n. absurd (gone_on p n); output = λ n. absurd (gone_on p n) })
