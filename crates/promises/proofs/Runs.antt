-- THEOREMS of run vCPU: what is told past the earlier checks (`run_refused_exactly`, `run_accepted_exactly`,
-- `effect_refused_exactly`, `effect_length_exactly`), and that a run changes only what its input and its effect name, and the first bytes of the output. Assumes nothing.
use mathlib.Core.Path.{◌≡◌, refl, sym, ap, ap₂, ◌∙◌, subst}
use mathlib.Core.Logic.{◌↔◌, ◌≢◌}
use mathlib.Core.Bool.{Bool, true, false, not, cond}
use mathlib.Core.List.{List}
use Prim.Native.Nat.{ℕ, zero, suc, ◌+◌, ◌≤◌}
use native.Mathlib.Omega.{arith}
use lib.ListN.{length, get_or}
use Rattle.octets.specs.Bytes.{bytes_at, Clear, left}
use Rattle.octets.proofs.Bytes.{get_or_put_other}
use Rattle.answer.specs.declared.Bad.{Bad}
use Rattle.answer.specs.declared.Place.{Place}
use Rattle.answer.specs.declared.Call.{Call as Name}
use Rattle.answer.specs.declared.Fault.{Fault}
use Rattle.answer.specs.declared.Fault.TheVariants.{Exit, Effect}
use Rattle.answer.specs.declared.Registers.{Registers}
use Rattle.answer.specs.Answer.{bad_number, three}
use Rattle.answer.specs.Refusals.{first_of}
use Rattle.rules.specs.declared.Usage.TheVariants.{RunInput, Effect as InEffect}
use Rattle.gsb.specs.Walk.{count_of, bad_length, offset_at, judged, first_bad, is_stopped, fault_of, Verdict, Walked}
use Rattle.gsb.specs.First.{FirstBadAt}
use Rattle.gsb.proofs.First.{judged_leads, first_walk, all_good}
use Rattle.store.specs.declared.Layout.{Layout}
use Rattle.store.specs.Layout.{Sound, slot_bytes}
use Rattle.transfer.specs.Transfer.{applied}
use Rattle.transfer.proofs.Moving.{length_applied}
use Rattle.transfer.specs.Named.{Named}
use Rattle.transfer.proofs.Named.{applied_frame, beside}
use Rattle.exits.specs.Exits.{known, returned, row_bytes, output_of}
use Rattle.exits.proofs.Rows.{length_output}
use Rattle.admission.specs.Refusals.{Outcome, refuse, decide, Passed}
use Rattle.admission.specs.Target.{base_of}
use Rattle.state.specs.State.{context_of}
use Rattle.run.specs.Run.{effect_fault, content_tests, run_tests, ran_store, ran, run_vcpu}
use Rattle.run.proofs.Runs.{stopped_not, run_found}
use Rattle.l0.specs.Calls.{Call, RunVcpu, outcome}
use Rattle.promises.specs.History.{registers}
use Rattle.promises.specs.Promised.{before_input, input_given, InputGood, EffectGood}
use Rattle.promises.proofs.Kept.{decided}
use Rattle.promises.proofs.States.{skip}
use Rattle.promises.proofs.Told.{number_some, number_below, tells, told_by, element_told, offset_first_in, first_told, good_told, element_told_lem}
use Rattle.std.proofs.Common.{Ok, Err}

-- the first element lies behind the count
offset_from : (b : List ℕ) (i : ℕ) → 4 ≤ offset_at b i
unfolding offset_at
offset_from b zero = omega arith
offset_from b (suc i) = omega (arith, offset_from b i)

module _ (l : Layout) (s : List ℕ) (flags guest vcpu : ℕ) (input output effect : List ℕ) (exit : ℕ) where
  abbrev base : ℕ
  base = base_of l s false guest vcpu

  -- the bytes of the lent input that count
  abbrev given : List ℕ
  given = input_given l s guest vcpu input

  abbrev after : Outcome
  after = run_vcpu l s flags guest vcpu input output effect exit

  abbrev done : Outcome
  done = ran base s given output effect exit

  abbrev earlier : List (Bool × Fault)
  earlier = before_input l s flags guest vcpu input output

  abbrev call : Call
  call = RunVcpu flags guest vcpu input output effect exit

  -- ---- Demand 2: "Past the earlier checks, a buffer is refused for an element exactly if it holds a bad one, and the place told is the
  -- first." 02, L4: "run keeps the offset in R4 and puts the index in R5, in 14 too (both 0 if the effect's length is bad)".
  abbrev judgeInput : ℕ → Verdict
  judgeInput = judged (context_of l s guest RunInput) given

  abbrev judgeEffect : ℕ → Verdict
  judgeEffect = judged (context_of l s guest InEffect) effect

  -- what is told of an effect, v being what its walk finds, and from 13 on
  abbrev effectShown : Bad → Place → Registers
  effectShown bad place = three 14 place.offset place.index

  abbrev effectTold : Walked → Registers
  effectTold v = told_by effectShown (three 0 exit 0) v

  abbrev later : Bool → Bool → Walked → Registers
  later k long v = cond (not k) (three 13 0 0) (cond long (three 14 0 0) (effectTold v))

  abbrev found : Walked
  found = first_bad (context_of l s guest InEffect) effect

  abbrev laterTold : Registers
  laterTold = later (known exit) (bad_length effect) found

  -- past 1 to 12
  module _ (p : Passed (before_input l s flags guest vcpu input output)) where
    past : after ≡ first_of (refuse s output) (content_tests l s guest given effect exit) done
    unfolding run_vcpu decide
    past = skip (refuse s output) earlier (content_tests l s guest given effect exit) done p

    -- what is told is what the walk of the input finds, then 13, then what the walk of the effect finds
    run_told : registers l s call ≡ told_by (element_told Name.RunVcpu) laterTold (first_bad (context_of l s guest RunInput) given)
    unfolding registers outcome ran
    run_told = ap (tells Name.RunVcpu) past ∙ go (first_bad (context_of l s guest RunInput) given) (known exit) (bad_length effect) found
      where
        go : (w : Walked) (k long : Bool) (v : Walked)
            → tells Name.RunVcpu (cond (is_stopped w) (refuse s output (fault_of w)) (cond (not k) (refuse s output Exit) (cond long (refuse s output (Effect (record { index = 0; offset = 0 }))) (cond (is_stopped v) (refuse s output (effect_fault v)) done))))
            ≡ told_by (element_told Name.RunVcpu) (later k long v) w
        go (Err stop) k long v = refl
        go (Ok _) false long v = refl
        go (Ok _) true true v = refl
        go (Ok _) true false (Err stop) = refl
        go (Ok _) true false (Ok _) = refl

    pub run_refused_exactly : (bad : Bad) (at i : ℕ) → (registers l s (RunVcpu flags guest vcpu input output effect exit) ≡ three (bad_number bad) at i)
        ↔ (FirstBadAt (judged (context_of l s guest RunInput) (input_given l s guest vcpu input)) (input_given l s guest vcpu input) i bad × (offset_at (input_given l s guest vcpu input) i ≡ at))
    run_refused_exactly bad at i =
        element_told_lem judgeInput given (judged_leads (context_of l s guest RunInput) given) (first_bad (context_of l s guest RunInput) given) (first_walk (context_of l s guest RunInput) given) Name.RunVcpu laterTold bad
        (other bad (known exit) (bad_length effect) found) offset_first_in (λ bad' place. refl) (record { index = i; offset = at }) _ run_told
      where
        -- 0, 13 and 14 are not 6, 7 or 8
        other : (b : Bad) (k long : Bool) (v : Walked) → (later k long v).r3 ≢ bad_number b
        other b false long v e = number_below b (omega arith)
        other b true true v e = number_below b (omega arith)
        other b true false (Err stop) e = number_below b (omega arith)
        other b true false (Ok _) e = number_some b e

    pub run_accepted_exactly : ((registers l s (RunVcpu flags guest vcpu input output effect exit)).r3 ≡ 0)
        ↔ (InputGood l s guest vcpu input × (known exit ≡ true) × (bad_length effect ≡ false) × EffectGood l s guest effect)
    run_accepted_exactly = (there, back)
      where
        input_good_lem : ((told_by (element_told Name.RunVcpu) laterTold (first_bad (context_of l s guest RunInput) given)).r3 ≡ 0) ↔ (InputGood l s guest vcpu input × (laterTold.r3 ≡ 0))
        input_good_lem = good_told judgeInput given (judged_leads (context_of l s guest RunInput) given) (first_bad (context_of l s guest RunInput) given) (first_walk (context_of l s guest RunInput) given) (element_told Name.RunVcpu) laterTold (λ bad place q. number_some bad (sym q))

        effect_good : ((effectTold found).r3 ≡ 0) ↔ (EffectGood l s guest effect × (◌≡◌ {A = ℕ} 0 0))
        effect_good = good_told judgeEffect effect (judged_leads (context_of l s guest InEffect) effect) found (first_walk (context_of l s guest InEffect) effect) effectShown (three 0 exit 0) (λ bad place q. omega arith)

        parts : (k long : Bool) → (later k long found).r3 ≡ 0 → (k ≡ true) × (long ≡ false) × ((effectTold found).r3 ≡ 0)
        parts false long e = absurd (omega arith)
        parts true true e = absurd (omega arith)
        parts true false e = (refl, refl, e)

        there : (registers l s call).r3 ≡ 0 → InputGood l s guest vcpu input × (known exit ≡ true) × (bad_length effect ≡ false) × EffectGood l s guest effect
        there e =
            let i = input_good_lem.0 (sym (ap (λ (r : Registers). r.r3) run_told) ∙ e) in
            let x = parts (known exit) (bad_length effect) i.1 in
            (i.0, x.0, x.1, (effect_good.0 x.2).0)

        back : InputGood l s guest vcpu input × (known exit ≡ true) × (bad_length effect ≡ false) × EffectGood l s guest effect → (registers l s call).r3 ≡ 0
        back f = ap (λ (r : Registers). r.r3) run_told ∙ input_good_lem.1 (f.0, ap₂ (λ (k long : Bool). (later k long found).r3) f.1 f.2 ∙ effect_good.1 (f.3, refl))

    -- past 13 too
    module _ (good : InputGood l s guest vcpu input) (k : known exit ≡ true) where
      effect_told : registers l s call ≡ cond (bad_length effect) (three 14 0 0) (effectTold found)
      effect_told =
          run_told ∙ ap (told_by (element_told Name.RunVcpu) laterTold) ((all_good (context_of l s guest RunInput) given).1 good)
          ∙ ap (λ (t : Bool). later t (bad_length effect) found) k

      -- an effect of a good length
      module _ (g : bad_length effect ≡ false) where
        pub effect_refused_exactly : (at i : ℕ) → (registers l s (RunVcpu flags guest vcpu input output effect exit) ≡ three 14 at i)
            ↔ ((bad : Bad) × FirstBadAt (judged (context_of l s guest InEffect) effect) effect i bad × (offset_at effect i ≡ at))
        effect_refused_exactly at i = (there, back)
          where
            walk_told : registers l s call ≡ effectTold found
            walk_told = effect_told ∙ ap (λ (t : Bool). cond t (three 14 0 0) (effectTold found)) g

            first : (effectTold found ≡ three 14 at i) ↔ ((j : ℕ) × (bad : Bad) × FirstBadAt judgeEffect effect j bad × (three 14 (offset_at effect j) j ≡ three 14 at i))
            first = first_told judgeEffect effect (judged_leads (context_of l s guest InEffect) effect) found (first_walk (context_of l s guest InEffect) effect) effectShown (three 0 exit 0) (three 14 at i) (λ e. let z : ◌≡◌ {A = ℕ} 0 14 = ap (λ (r : Registers). r.r3) e in omega arith)

            there : registers l s call ≡ three 14 at i → (bad : Bad) × FirstBadAt judgeEffect effect i bad × (offset_at effect i ≡ at)
            there e =
                let f = first.0 (sym walk_told ∙ e) in
                let q : f.0 ≡ i = ap (λ (r : Registers). r.r5) f.3 in
                (f.1, subst (λ (j : ℕ). FirstBadAt judgeEffect effect j f.1) q f.2, sym (ap (offset_at effect) q) ∙ ap (λ (r : Registers). r.r4) f.3)

            back : ((bad : Bad) × FirstBadAt judgeEffect effect i bad × (offset_at effect i ≡ at)) → registers l s call ≡ three 14 at i
            back f = walk_told ∙ first.1 (i, f.0, f.1, ap (λ (y : ℕ). three 14 y i) f.2)

      -- no element lies at offset 0, so that 14 with 0 is told of a bad length alone
      pub effect_length_exactly : (registers l s (RunVcpu flags guest vcpu input output effect exit) ≡ three 14 0 0) ↔ (bad_length effect ≡ true)
      effect_length_exactly = (go (bad_length effect) refl, λ e. effect_told ∙ ap (λ (t : Bool). cond t (three 14 0 0) (effectTold found)) e)
        where
          go : (t : Bool) → bad_length effect ≡ t → registers l s call ≡ three 14 0 0 → bad_length effect ≡ true
          go true g e = g
          go false g e = let f = (effect_refused_exactly g 0 0).0 e in absurd (omega (arith, f.2, offset_from effect 0))

  -- ---- only what is named changes
  abbrev tests : List (Bool × Fault)
  tests = run_tests l s flags guest vcpu input (length output) effect exit

  pub input_walked : Passed tests → first_bad (context_of l s guest RunInput) given ≡ Ok tt
  input_walked p = stopped_not (first_bad (context_of l s guest RunInput) given) p.1.1.1.1.1.1.1.1.1.0

  pub effect_walked : Passed tests → first_bad (context_of l s guest InEffect) effect ≡ Ok tt
  effect_walked p = stopped_not (first_bad (context_of l s guest InEffect) effect) p.1.1.1.1.1.1.1.1.1.1.1.1.0

  record ByteKept (j : ℕ) (o : Outcome) : Type 0 where
    kept : get_or o.store j 0 ≡ get_or s j 0

  pub run_only_named : (j : ℕ) → (Named (base_of l s false guest vcpu) (input_given l s guest vcpu input) (count_of (input_given l s guest vcpu input)) j → ⊥)
      → (Named (base_of l s false guest vcpu) effect (count_of effect) j → ⊥) → get_or (run_vcpu l s flags guest vcpu input output effect exit).store j 0 ≡ get_or s j 0
  unfolding run_vcpu ran ran_store
  run_only_named j n m =
      (decided (ByteKept j) s output tests done (λ f. record { kept = refl })
      (λ p. record {
        kept = applied_frame (context_of l s guest InEffect) base effect (effect_walked p) (count_of effect) j (applied base given (count_of given) s) (omega arith) m
            ∙ applied_frame (context_of l s guest RunInput) base given (input_walked p) (count_of given) j s (omega arith) n;
      })).kept

  record PartKept (i n : ℕ) (o : Outcome) : Type 0 where
    same : bytes_at o.store i n ≡ bytes_at s i n

  -- any part of the store beside the values of the vCPU named
  pub run_beside : (i n : ℕ) → Clear (base_of l s false guest vcpu) slot_bytes i n → bytes_at (run_vcpu l s flags guest vcpu input output effect exit).store i n ≡ bytes_at s i n
  unfolding run_vcpu ran ran_store
  run_beside i n c =
      (decided (PartKept i n) s output tests done (λ f. record { same = refl })
      (λ p. record {
        same = beside (context_of l s guest InEffect) base effect (effect_walked p) (applied base given (count_of given) s) i n c
            ∙ beside (context_of l s guest RunInput) base given (input_walked p) s i n c;
      })).same

  pub length_ran : length (ran_store base given effect s) ≡ length s
  unfolding ran_store
  length_ran = length_applied base effect (applied base given (count_of given) s) (count_of effect) ∙ length_applied base given s (count_of given)

  record OutputKept (j : ℕ) (o : Outcome) : Type 0 where
    kept : get_or o.buffer j 0 ≡ get_or output j 0

  -- of the output only the first bytes, as many as the exit's row has
  pub run_output_only : Sound l → (j : ℕ) → row_bytes (returned exit) ≤ j → get_or (run_vcpu l s flags guest vcpu input output effect exit).buffer j 0 ≡ get_or output j 0
  unfolding run_vcpu ran
  run_output_only so j k =
      (decided (OutputKept j) s output tests done (λ f. record { kept = refl })
      (λ p. record { kept = get_or_put_other output 0 (output_of base (ran_store base given effect s) exit) j (left (omega (arith, k, length_output base (ran_store base given effect s) exit (room p)))) })).kept
    where
      room : Passed tests → base + 1820 ≤ length (ran_store base given effect s)
      room p =
          let y = run_found l so s flags guest vcpu 0 (length input) (length output) (p.0, (p.1.0, (p.1.1.0, (p.1.1.1.0, (p.1.1.1.1.0, (p.1.1.1.1.1.0, (p.1.1.1.1.1.1.0, (p.1.1.1.1.1.1.1.0, (p.1.1.1.1.1.1.1.1.0, tt))))))))) in
          omega (arith, y.room, y.long, length_ran)
