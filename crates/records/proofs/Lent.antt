-- What a run tells and leaves does not turn on what is lent for its output, where that is no shorter than registered: lent as registered, or
-- with room for every size that can be registered, it is one. Assumes nothing.
use mathlib.Core.Path.{◌≡◌, refl, sym, ap, ◌∙◌}
use mathlib.Core.Bool.{Bool, true, false, not, ◌&&◌, ◌||◌, cond, true≢false}
use mathlib.Core.List.{List, ◌∷◌, ◌++◌, append_assoc}
use Prim.Native.Nat.{ℕ, zero, suc, ◌≤◌}
use native.Mathlib.Omega.{arith}
use lib.Dec.{leb, ltb}
use lib.ListN.{length}
use borrow.Author.Tests.{le-ltb, leb-true}
use Rattle.std.specs.Prelude.{Ok, Err}
use Rattle.octets.specs.Bytes.{zeros}
use Rattle.octets.proofs.Bytes.{length_zeros}
use Rattle.answer.specs.declared.Fault.{Fault}
use Rattle.answer.specs.declared.Fault.TheVariants.{Unregistered, Short}
use Rattle.answer.specs.declared.RunBuffer.TheVariants.{Input, Output}
use Rattle.answer.specs.declared.Answer.{Answer}
use Rattle.answer.specs.declared.Call.TheVariants.{RunVcpu}
use Rattle.answer.specs.Answer.{told}
use Rattle.rules.specs.Rules.{good_input, good_output}
use Rattle.store.specs.declared.Layout.{Layout}
use Rattle.admission.specs.Refusals.{Admission, Outcome, refuse, decide, judgement}
use Rattle.admission.specs.Target.{target_tests, base_of}
use Rattle.admission.proofs.Judging.{settle, settle_all, settle_append}
use Rattle.run.specs.Run.{run_bits, input_size, output_size, lent_tests, input_of, content_tests, run_tests, ran, run_vcpu}
use Rattle.l0.specs.Calls.{outcome}
use Rattle.l0.specs.Numbered.{CallRecord, called}
use Rattle.records.specs.Replay.{turn_of, turn, output_lent}

-- a test that differs only where one before it holds
judged_alike : (a b c d e : Bool) (p q r t : Fault) (xs : List (Bool × Fault)) → (b ≡ false → d ≡ e)
    → judgement ((a, p) ∷ (b, q) ∷ (c, r) ∷ (d, t) ∷ xs) ≡ judgement ((a, p) ∷ (b, q) ∷ (c, r) ∷ (e, t) ∷ xs)
judged_alike a true c d e p q r t xs h = refl
judged_alike a false c d e p q r t xs h = ap (λ (z : Bool). judgement ((a, p) ∷ (false, q) ∷ (c, r) ∷ (z, t) ∷ xs)) (h refl)

good_is : (b : Bool) → not b ≡ false → b ≡ true
good_is true e = refl
good_is false e = sym e

-- an answer and a store, of an outcome
pub record Seen : Type 0 where
  pub answer : Answer
  pub store : List ℕ

abbrev seen : Outcome → Seen
seen o = record { answer = o.answer; store = o.store }

module _ (l : Layout) (s : List ℕ) (flags guest vcpu : ℕ) (input effect : List ℕ) (exit : ℕ) where
  abbrev base : ℕ
  base = base_of l s false guest vcpu

  abbrev size : ℕ
  size = output_size s base

  abbrev Alike : ℕ → ℕ → Type 0
  Alike m n = good_output size ≡ true → ltb m size ≡ ltb n size

  abbrev content : List (Bool × Fault)
  content = content_tests l s guest (input_of s base input) effect exit

  abbrev begins : ℕ → Admission
  begins n = judgement (lent_tests s base 0 (length input) n ++ content)

  in_parts : (n : ℕ) → judgement (run_tests l s flags guest vcpu input n effect exit) ≡ settle Err (begins n) (judgement (target_tests l s run_bits flags false guest vcpu))
  in_parts n =
      ap judgement (append_assoc (target_tests l s run_bits flags false guest vcpu) (lent_tests s base 0 (length input) n) content)
      ∙ settle_append Err (Ok tt) (target_tests l s run_bits flags false guest vcpu) (lent_tests s base 0 (length input) n ++ content)

  judged_same : (m n : ℕ) → Alike m n
      → judgement (run_tests l s flags guest vcpu input m effect exit) ≡ judgement (run_tests l s flags guest vcpu input n effect exit)
  judged_same m n h =
      in_parts m
      ∙ ap (λ (a : Admission). settle Err a (judgement (target_tests l s run_bits flags false guest vcpu)))
      (judged_alike (not (good_input (input_size s base))) (not (good_output size)) (ltb (length input) (input_size s base) || ltb (input_size s base) 0) (ltb m size) (ltb n size)
      (Unregistered Input) (Unregistered Output) (Short Input) (Short Output) content (λ e. h (good_is (good_output size) e)))
      ∙ sym (in_parts n)

  settled : (u v : List ℕ) (a : Admission)
      → seen (settle (refuse s u) (ran base s (input_of s base input) u effect exit) a) ≡ seen (settle (refuse s v) (ran base s (input_of s base input) v effect exit) a)
  unfolding ran
  settled u v (Ok tt) = refl
  settled u v (Err f) = refl

  run_seen : (u v : List ℕ) → Alike (length u) (length v)
      → seen (run_vcpu l s flags guest vcpu input u effect exit) ≡ seen (run_vcpu l s flags guest vcpu input v effect exit)
  unfolding run_vcpu decide
  run_seen u v h =
      let mine = run_tests l s flags guest vcpu input (length u) effect exit in
      let other = run_tests l s flags guest vcpu input (length v) effect exit in
      ap seen (settle_all (refuse s u) (ran base s (input_of s base input) u effect exit) mine)
      ∙ settled u v (judgement mine)
      ∙ ap (λ (a : Admission). seen (settle (refuse s v) (ran base s (input_of s base input) v effect exit) a)) (judged_same (length u) (length v) h)
      ∙ sym (ap seen (settle_all (refuse s v) (ran base s (input_of s base input) v effect exit) other))

-- ---- of a record

not_more : (n : ℕ) → good_output n ≡ true → n ≤ 65536
not_more n e = leb-true n 65536 (second (leb 124 n) (leb n 65536) e)
  where
    second : (a b : Bool) → (a && b) ≡ true → b ≡ true
    second true b q = q
    second false b q = absurd (true≢false (sym q))

lent_alike : (n : ℕ) (u : List ℕ) → 65536 ≤ length u → good_output n ≡ true → ltb (length u) n ≡ ltb (length (zeros (cond (good_output n) n 0))) n
lent_alike n u h e =
    let most : n ≤ 65536 = not_more n e in
    let room : n ≤ length u = omega arith in
    let all : length (zeros (cond (good_output n) n 0)) ≡ n = length_zeros (cond (good_output n) n 0) ∙ simp e in
    le-ltb (length u) n room ∙ sym (ap (λ (k : ℕ). ltb k n) all ∙ le-ltb n n (omega arith))

module _ (l : Layout) (s : List ℕ) (flags guest number exit : ℕ) (d effect u : List ℕ) (h : 65536 ≤ length u) where
  abbrev given : ℕ → CallRecord
  given k = record { kind = k; flags = flags; guest = guest; number = number; exit = exit; «data» = d; effect = effect }

  run_turn : turn_of 7 (called l s (given 7) u) ≡ turn l s (given 7)
  unfolding called outcome turn output_lent
  run_turn = ap (λ (x : Seen). record { registers = told RunVcpu x.answer.fault x.answer.value; store = x.store }) (run_seen l s flags guest number d effect exit u _ (lent_alike _ u h))

  pub turn_same : (k : ℕ) → turn_of k (called l s (given k) u) ≡ turn l s (given k)
  unfolding called outcome turn
  turn_same zero = refl
  turn_same (suc zero) = refl
  turn_same (suc (suc zero)) = refl
  turn_same (suc (suc (suc zero))) = refl
  turn_same (suc (suc (suc (suc zero)))) = refl
  turn_same (suc (suc (suc (suc (suc zero))))) = refl
  turn_same (suc (suc (suc (suc (suc (suc zero)))))) = refl
  turn_same (suc (suc (suc (suc (suc (suc (suc zero))))))) = run_turn
  turn_same (suc (suc (suc (suc (suc (suc (suc (suc zero)))))))) = refl
  turn_same (suc (suc (suc (suc (suc (suc (suc (suc (suc k))))))))) = refl
