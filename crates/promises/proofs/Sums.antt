-- What a call makes of one record is what it adds to the sums of its vCPU: the counters stop alike, and a run's input counts as it was lent. Assumes
-- nothing.
use mathlib.Core.Path.{◌≡◌, refl, sym, ap, ap₂, ◌∙◌}
use mathlib.Core.Logic.{◌≢◌}
use mathlib.Core.Bool.{Bool, true, false, ◌&&◌, ◌||◌, cond}
use mathlib.Core.List.{List, [], ◌∷◌}
use mathlib.Core.Option.{Option, none, some, some-injective, none-ne-some}
use Prim.Native.Nat.{ℕ, zero, suc, ◌+◌, ◌-◌, ◌^◌, ◌≤◌, ◌<◌}
use native.Mathlib.Omega.{arith}
use native.Mathlib.Nat.{not-suc-le-zero}
use lib.Dec.{leb, ltb, eqb}
use lib.ListN.{length, get_or}
use borrow.Author.Tests.{eq-eqb, ne_eqb, eqb-true, leb-true, leb-false, lt-leb, ltb-false, not-false}
use Rattle.octets.specs.Bytes.{bytes_at, be}
use Rattle.octets.proofs.Bytes.{length_bytes_at}
use Rattle.octets.proofs.Numbers.{be_part}
use Rattle.answer.specs.declared.Fault.TheVariants.{None, Unregistered, Short, Exit, Effect, Records}
use Rattle.answer.specs.declared.RunBuffer.{RunBuffer}
use Rattle.answer.specs.declared.Place.{Place}
use Rattle.rules.specs.declared.Usage.TheVariants.{RunInput, Effect as InEffect}
use Rattle.rules.specs.declared.Context.{Context}
use Rattle.rules.specs.Rules.{good_input}
use Rattle.gsb.specs.Walk.{count_of, id_at, offset_at, first_bad, is_stopped, Walked}
use Rattle.gsb.proofs.First.{element_good_lem}
use Rattle.store.specs.declared.Layout.{Layout}
use Rattle.admission.specs.Refusals.{refusal, Passed, has_bit0, hands_over}
use Rattle.admission.specs.Target.{base_of}
use Rattle.state.specs.State.{context_of}
use Rattle.run.specs.Run.{input_size, input_of, effect_fault, run_tests, ran, run_vcpu}
use Rattle.l0.specs.Calls.{RunVcpu, outcome}
use Rattle.l0.specs.Numbered.{CallRecord}
use Rattle.tally.specs.declared.Summary.{Summary}
use Rattle.tally.specs.declared.Change.{Change}
use Rattle.tally.specs.declared.Change.TheVariants.{Nothing, Set, Ran, Refused}
use Rattle.tally.specs.Tally.{new_record, plus, changed, elements_set, all_set, refused_by, on_success, noted, Tallied, counted, tallied}
use Rattle.promises.specs.History.{registers}
use Rattle.promises.specs.Tallies.{Sums, add_elements, add_run, add_refusal, perhaps_refused, after_get, after_set, after_run, added, stopping, record_of, shown}
use Rattle.promises.proofs.Told.{zero_none}
use Rattle.promises.proofs.Lowest.{Real, accepted, no_store, no_flag, no_guest, no_vcpu}
use Rattle.promises.proofs.ReadBack.{no_taken, stopped_real}
use Rattle.promises.proofs.Runs.{input_walked}
use Rattle.std.proofs.Common.{Ok, Err}

-- ---- the records, one by one
pub length_noted : (p : ℕ → Bool) (c : Change) (i : ℕ) (ts : List Summary) → length (noted p c i ts) ≡ length ts
unfolding noted
length_noted p c i [] = refl
length_noted p c i (t ∷ ts) = ap suc (length_noted p c (i + 1) ts)

noted_from : (p : ℕ → Bool) (c : Change) (i k : ℕ) (ts : List Summary) → k < length ts
    → get_or (noted p c i ts) k new_record ≡ cond (p (i + k)) (changed c (get_or ts k new_record)) (get_or ts k new_record)
unfolding noted
noted_from p c i k [] h = absurd (not-suc-le-zero h)
noted_from p c i zero (t ∷ ts) h =
    let z : i ≡ i + 0 = omega arith in
    ap (λ (n : ℕ). cond (p n) (changed c t) t) z
noted_from p c i (suc k) (t ∷ ts) h =
    let z : i + 1 + k ≡ i + suc k = omega arith in
    noted_from p c (i + 1) k ts (omega arith) ∙ ap (λ (n : ℕ). cond (p n) (changed c (get_or ts k new_record)) (get_or ts k new_record)) z

pub noted_at_lem : (p : ℕ → Bool) (c : Change) (k : ℕ) (ts : List Summary) → k < length ts
    → get_or (noted p c 0 ts) k new_record ≡ cond (p k) (changed c (get_or ts k new_record)) (get_or ts k new_record)
noted_at_lem p c k ts h =
    let z : 0 + k ≡ k = omega arith in
    noted_from p c 0 k ts h ∙ ap (λ (n : ℕ). cond (p n) (changed c (get_or ts k new_record)) (get_or ts k new_record)) z

pub noted_nothing : (p : ℕ → Bool) (i : ℕ) (ts : List Summary) → noted p Nothing i ts ≡ ts
unfolding noted
noted_nothing p i [] = refl
noted_nothing p i (t ∷ ts) = ap₂ (λ (x : Summary) (xs : List Summary). x ∷ xs) (go (p i)) (noted_nothing p (i + 1) ts)
  where
    go : (b : Bool) → cond b t t ≡ t
    go true = refl
    go false = refl

-- ---- a counter that stops
plus_stopping : (n k : ℕ) → plus (stopping n) k ≡ stopping (n + k)
unfolding plus
plus_stopping n k = go (leb n (2 ^ 32 - 1)) refl
  where
    at_top : (b : Bool) → leb (2 ^ 32 - 1 + k) (2 ^ 32 - 1) ≡ b → cond b (2 ^ 32 - 1 + k) (2 ^ 32 - 1) ≡ 2 ^ 32 - 1
    at_top true e = let h : 2 ^ 32 - 1 + k ≤ 2 ^ 32 - 1 = leb-true _ _ e in omega arith
    at_top false e = refl

    go : (b : Bool) → leb n (2 ^ 32 - 1) ≡ b
        → cond (leb (cond b n (2 ^ 32 - 1) + k) (2 ^ 32 - 1)) (cond b n (2 ^ 32 - 1) + k) (2 ^ 32 - 1) ≡ stopping (n + k)
    go true e = refl
    go false e =
        let h : 2 ^ 32 - 1 < n + k = omega (arith, leb-false n (2 ^ 32 - 1) e) in
        at_top (leb (2 ^ 32 - 1 + k) (2 ^ 32 - 1)) refl ∙ sym (ap (λ (b : Bool). cond b (n + k) (2 ^ 32 - 1)) (lt-leb (n + k) (2 ^ 32 - 1) h))

-- a change that is an addition to the sums
abbrev pub Adds : Change → (Sums → Sums) → Type 0
Adds c f = (x : Sums) → changed c (record_of x) ≡ record_of (f x)

adds_elements : (n : ℕ) → Adds (Set n) (add_elements n)
adds_elements n x =
    ap (λ (y : ℕ). record { runs = stopping x.runs; elements = y; refusals = stopping x.refusals; exit_reason = x.exit }) (plus_stopping x.elements n)

adds_run : (n exit : ℕ) → Adds (Ran n exit) (add_run n exit)
adds_run n exit x =
    ap₂ (λ (y z : ℕ). record { runs = y; elements = z; refusals = stopping x.refusals; exit_reason = exit }) (plus_stopping x.runs 1) (plus_stopping x.elements n)

adds_refusal : (r3 : ℕ) → Adds (refused_by r3) (perhaps_refused r3)
adds_refusal r3 x = go (leb 6 r3 && leb r3 8)
  where
    go : (b : Bool) → changed (cond b Refused Nothing) (record_of x) ≡ record_of (cond b (add_refusal x) x)
    go true = ap (λ (y : ℕ). record { runs = stopping x.runs; elements = stopping x.elements; refusals = y; exit_reason = x.exit }) (plus_stopping x.refusals 1)
    go false = refl

pub adds_get : (flags r3 : ℕ) → Adds (cond (has_bit0 flags) Nothing (refused_by r3)) (after_get flags r3)
adds_get flags r3 x = go (has_bit0 flags)
  where
    go : (wide : Bool) → changed (cond wide Nothing (refused_by r3)) (record_of x) ≡ record_of (cond wide x (perhaps_refused r3 x))
    go true = refl
    go false = adds_refusal r3 x

pub adds_set : (flags : ℕ) (b : List ℕ) (r3 : ℕ)
    → Adds (cond (has_bit0 flags) Nothing (on_success r3 (cond (hands_over flags) Nothing (Set (all_set b))) (refused_by r3))) (after_set flags b r3)
adds_set flags b r3 x = go (has_bit0 flags) (eqb r3 0) (hands_over flags)
  where
    go : (wide done hands : Bool)
        → changed (cond wide Nothing (cond done (cond hands Nothing (Set (all_set b))) (refused_by r3))) (record_of x)
        ≡ record_of (cond wide x (cond done (cond hands x (add_elements (all_set b) x)) (perhaps_refused r3 x)))
    go true done hands = refl
    go false true true = refl
    go false true false = adds_elements (all_set b) x
    go false false hands = adds_refusal r3 x

-- ---- the input of an accepted run: its counted elements are those of all that was lent
module _ (k : Context) (input : List ℕ) (n : ℕ) (some_count : 4 ≤ n) (lent : n ≤ length input) (good : first_bad k (bytes_at input 0 n) ≡ Ok tt) where
  abbrev b : List ℕ
  b = bytes_at input 0 n

  long : length (bytes_at input 0 n) ≡ n
  long = length_bytes_at input 0 n (omega arith)

  same_number : (i m : ℕ) → i + m ≤ n → be (bytes_at input 0 n) i m ≡ be input i m
  same_number i m h = let z : 0 + i ≡ i = omega arith in be_part input 0 n i m h ∙ ap (λ (j : ℕ). be input j m) z

  ends : (i : ℕ) → i < count_of b → offset_at b i + 4 ≤ n
  ends i h = omega (arith, (element_good_lem k b good i h).inside, long)

  same_offset : (i : ℕ) → i ≤ count_of b → offset_at b i ≡ offset_at input i
  unfolding offset_at
  same_offset zero h = refl
  same_offset (suc i) h =
      let e : offset_at b i ≡ offset_at input i = same_offset i (omega arith) in
      let z : be b (offset_at b i + 2) 2 ≡ be input (offset_at b i + 2) 2 = same_number (offset_at b i + 2) 2 (omega (arith, ends i (omega arith))) in
      ap (λ (y : ℕ). offset_at b i + 4 + y) z ∙ ap (λ (y : ℕ). y + 4 + be input (y + 2) 2) e

  same_elements : (m : ℕ) → m ≤ count_of b → elements_set b m ≡ elements_set input m
  unfolding elements_set
  same_elements zero h = refl
  same_elements (suc m) h =
      let id : id_at b (offset_at b m) ≡ id_at input (offset_at input m) =
      same_number (offset_at b m) 2 (omega (arith, ends m (omega arith))) ∙ ap (id_at input) (same_offset m (omega arith)) in
      ap₂ (λ (x y : ℕ). x + cond (eqb y 0x0000) 0 1) (same_elements m (omega arith)) id

  input_lent : all_set (bytes_at input 0 n) ≡ all_set input
  input_lent = same_elements (count_of b) (omega arith) ∙ ap (elements_set input) (same_number 0 4 (omega arith))

-- ---- what an accepted run passed
no_unregistered : (x : RunBuffer) → Unregistered x ≡ None → ⊥
no_unregistered x e = let z : ◌≡◌ {A = ℕ} 0 1 = cc in omega arith

no_short : (x : RunBuffer) → Short x ≡ None → ⊥
no_short x e = let z : ◌≡◌ {A = ℕ} 0 1 = cc in omega arith

no_exit : Exit ≡ None → ⊥
no_exit e = let z : ◌≡◌ {A = ℕ} 0 1 = cc in omega arith

no_effect : (p : Place) → Effect p ≡ None → ⊥
no_effect p e = let z : ◌≡◌ {A = ℕ} 0 1 = cc in omega arith

effect_real : (w : Walked) → is_stopped w ≡ true → effect_fault w ≡ None → ⊥
effect_real (Ok _) e q = let z : ◌≡◌ {A = ℕ} 0 1 = cc in omega arith
effect_real (Err stop) e q = no_effect stop.place q

module _ (l : Layout) (s : List ℕ) (flags guest vcpu : ℕ) (input output effect : List ℕ) (exit : ℕ) where
  run_real : Real (run_tests l s flags guest vcpu input (length output) effect exit)
  run_real = (
    (λ t. no_store),
    (
      (λ t. no_flag _),
      (
        (λ t. no_guest),
        (
          (λ t. no_vcpu),
          (
            (λ t. no_taken),
            (
              (λ t. no_unregistered _),
              (
                (λ t. no_unregistered _),
                (
                  (λ t. no_short _),
                  (
                    (λ t. no_short _),
                    (stopped_real (first_bad (context_of l s guest RunInput) (input_of s (base_of l s false guest vcpu) input)), ((λ t. no_exit), ((λ t. no_effect _), (effect_real (first_bad (context_of l s guest InEffect) effect), tt)))),
                  ),
                ),
              ),
            ),
          ),
        ),
      ),
    ),
  )

  -- an accepted run passed its tests, and leaves what a run leaves
  pub run_ran : (registers l s (RunVcpu flags guest vcpu input output effect exit)).r3 ≡ 0
      → Passed (run_tests l s flags guest vcpu input (length output) effect exit)
      × (outcome l s (RunVcpu flags guest vcpu input output effect exit) ≡ ran (base_of l s false guest vcpu) s (input_of s (base_of l s false guest vcpu) input) output effect exit)
  unfolding outcome run_vcpu
  run_ran e =
      accepted s output (run_tests l s flags guest vcpu input (length output) effect exit)
      (ran (base_of l s false guest vcpu) s (input_of s (base_of l s false guest vcpu) input) output effect exit) run_real (zero_none l s (RunVcpu flags guest vcpu input output effect exit) e)

  run_passed : (registers l s (RunVcpu flags guest vcpu input output effect exit)).r3 ≡ 0 → Passed (run_tests l s flags guest vcpu input (length output) effect exit)
  run_passed e = (run_ran e).0

  pub run_elements : (registers l s (RunVcpu flags guest vcpu input output effect exit)).r3 ≡ 0 → all_set (input_of s (base_of l s false guest vcpu) input) ≡ all_set input
  run_elements e =
      let p = run_passed e in
      let size = input_size s (base_of l s false guest vcpu) in
      input_lent (context_of l s guest RunInput) input size (from (not-false _ p.1.1.1.1.1.0)) (upto p.1.1.1.1.1.1.1.0) (input_walked l s flags guest vcpu input output effect exit p)
    where
      from : good_input (input_size s (base_of l s false guest vcpu)) ≡ true → 4 ≤ input_size s (base_of l s false guest vcpu)
      from e = leb-true _ _ (front (leb 4 (input_size s (base_of l s false guest vcpu))) _ e)
        where
          front : (x y : Bool) → (x && y) ≡ true → x ≡ true
          front true y q = refl
          front false y q = q

      upto : (ltb (length input) (input_size s (base_of l s false guest vcpu)) || ltb (input_size s (base_of l s false guest vcpu)) 0) ≡ false → input_size s (base_of l s false guest vcpu) ≤ length input
      upto e = ltb-false _ _ (front (ltb (length input) (input_size s (base_of l s false guest vcpu))) _ e)
        where
          front : (x y : Bool) → (x || y) ≡ false → x ≡ false
          front true y q = q
          front false y q = refl

  pub adds_ran : let r3 = (registers l s (RunVcpu flags guest vcpu input output effect exit)).r3 in
      Adds (on_success r3 (Ran (all_set (input_of s (base_of l s false guest vcpu) input)) exit) (refused_by r3)) (after_run input exit r3)
  adds_ran x = go (eqb r3 0) refl
    where
      r3 : ℕ
      r3 = (registers l s (RunVcpu flags guest vcpu input output effect exit)).r3

      go : (done : Bool) → eqb r3 0 ≡ done
          → changed (cond done (Ran (all_set (input_of s (base_of l s false guest vcpu) input)) exit) (refused_by r3)) (record_of x) ≡ record_of (cond done (add_run (all_set input) exit x) (perhaps_refused r3 x))
      go true e = ap (λ (n : ℕ). changed (Ran n exit) (record_of x)) (run_elements (eqb-true _ _ e)) ∙ adds_run (all_set input) exit x
      go false e = adds_refusal r3 x

-- ---- of a vCPU that has sums
pub counted_shown : (c : Change) (f : Sums → Sums) → Adds c f → (o : Option Sums) (t : Summary) → shown o ≡ some t → shown (added f o) ≡ some (changed c t)
counted_shown c f a none t e = absurd (none-ne-some t e)
counted_shown c f a (some x) t e = ap some (sym (a x) ∙ ap (changed c) (some-injective (record_of x) t e))

-- ---- the layer, by the number of records
module _ (l : Layout) (ts : List Summary) (s : List ℕ) (r : CallRecord) (u : List ℕ) where
  abbrev pub otherwise : Tallied
  otherwise = record { answer = refusal Records; store = s; «data» = r.«data»; output = u; records = ts }

  pub enough_records : length ts ≡ l.slots → tallied l ts s r u ≡ counted l ts s r u
  unfolding tallied
  enough_records e = ap (λ (b : Bool). cond b (counted l ts s r u) otherwise) (eq-eqb _ _ e)

  pub other_records : length ts ≢ l.slots → tallied l ts s r u ≡ otherwise
  unfolding tallied
  other_records n = ap (λ (b : Bool). cond b (counted l ts s r u) otherwise) (ne_eqb _ _ n)
