-- 01, "Run", and "Answers": "run 1, 2, 3, 4, 11, 12, the input's elements, 13, 14"; "Within 11 and 12 input comes first." 02, L1's 16 is
-- right behind 4.
use Rattle.std.specs.Prelude.{ℕ, ◌+◌, ◌^◌, Bool, false, not, ◌||◌, List, [], ◌∷◌, ◌++◌, ltb, length, Ok, Err}
use Rattle.octets.specs.Bytes.{bytes_at, put, be}
use Rattle.answer.specs.declared.RunBuffer.TheVariants.{Input, Output}
use Rattle.answer.specs.declared.Fault.{Fault}
use Rattle.answer.specs.declared.Fault.TheVariants.{None, Unregistered, Short, Exit, Effect}
use Rattle.elements.specs.declared.Scope.TheVariants.{Thread}
use Rattle.rules.specs.declared.Context.{Context}
use Rattle.rules.specs.declared.Usage.TheVariants.{RunInput, Effect as InEffect}
use Rattle.elements.specs.Table.{position}
use Rattle.rules.specs.Rules.{good_input, good_output}
use Rattle.gsb.specs.Walk.{count_of, bad_length, first_bad, is_stopped, Walked}
use Rattle.store.specs.declared.Layout.{Layout}
use Rattle.transfer.specs.Transfer.{applied}
use Rattle.exits.specs.Exits.{known, output_of}
use Rattle.admission.specs.Refusals.{Outcome, success, decide}
use Rattle.admission.specs.Target.{target_tests, base_of}
use Rattle.state.specs.State.{context_of, bad_element}

-- 01, "Answers": "Supported: .. run bits 0 to 2"; they are accepted and change nothing
abbrev pub run_bits : ℕ
run_bits = 2 ^ 63 + 2 ^ 62 + 2 ^ 61

-- the sizes that a vCPU's 0x0C00 and 0x0C01 hold, in their second eight bytes; its values start at base
abbrev pub input_size : List ℕ → ℕ → ℕ
input_size s base = be s (base + position Thread 0x0C00 + 8) 8

abbrev pub output_size : List ℕ → ℕ → ℕ
output_size s base = be s (base + position Thread 0x0C01 + 8) 8

-- 11: "A run buffer counts as registered when its stored size meets the value rule." 12: "lent run buffer shorter than registered";
-- of the cache, which writes the input, "12 with R4 0 also if the changed elements need more than the registered input". A run needs 0.
abbrev pub lent_tests : List ℕ → ℕ → ℕ → ℕ → ℕ → List (Bool × Fault)
lent_tests s base need inputLength output_length =
    (not (good_input (input_size s base)), Unregistered Input)
    ∷ (not (good_output (output_size s base)), Unregistered Output)
    ∷ (ltb inputLength (input_size s base) || ltb (input_size s base) need, Short Input)
    ∷ (ltb output_length (output_size s base), Short Output)
    ∷ []

-- 13: "unknown exit reason"; 14: "bad effect buffer", with the "byte offset of its first bad element, 0 if its length is bad"
abbrev pub effect_fault : Walked → Fault
effect_fault (Ok _) = None
effect_fault (Err stop) = Effect stop.place

abbrev pub exit_tests : Context → List ℕ → ℕ → List (Bool × Fault)
exit_tests k effect exit =
    (not (known exit), Exit)
    ∷ (bad_length effect, Effect (record { index = 0; offset = 0 }))
    ∷ (is_stopped (first_bad k effect), effect_fault (first_bad k effect))
    ∷ []

-- 1 to 12 and 16
abbrev pub run_target_tests : Layout → List ℕ → ℕ → ℕ → ℕ → ℕ → ℕ → ℕ → List (Bool × Fault)
run_target_tests l s flags guest vcpu need inputLength output_length =
    target_tests l s run_bits flags false guest vcpu ++ lent_tests s (base_of l s false guest vcpu) need inputLength output_length

-- "The input is the first bytes of the lent one, as many as registered."
abbrev pub input_of : List ℕ → ℕ → List ℕ → List ℕ
input_of s base input = bytes_at input 0 (input_size s base)

-- the input's elements, then 13 and 14
abbrev pub content_tests : Layout → List ℕ → ℕ → List ℕ → List ℕ → ℕ → List (Bool × Fault)
content_tests l s guest input effect exit = bad_element (context_of l s guest RunInput) input ∷ exit_tests (context_of l s guest InEffect) effect exit

-- all of them
abbrev pub run_tests : Layout → List ℕ → ℕ → ℕ → ℕ → List ℕ → ℕ → List ℕ → ℕ → List (Bool × Fault)
run_tests l s flags guest vcpu input output_length effect exit =
    run_target_tests l s flags guest vcpu 0 (length input) output_length
    ++ content_tests l s guest (input_of s (base_of l s false guest vcpu) input) effect exit

-- "Input is applied, then the effect"
unfoldable pub ran_store : ℕ → List ℕ → List ℕ → List ℕ → List ℕ
ran_store base input effect s = applied base effect (count_of effect) (applied base input (count_of input) s)

-- "then the output's first bytes are written: .. the rest untouched"; R4 is the exit reason
unfoldable pub ran : ℕ → List ℕ → List ℕ → List ℕ → List ℕ → ℕ → Outcome
ran base s input output effect exit =
    record { answer = success exit; store = ran_store base input effect s; buffer = put output 0 (output_of base (ran_store base input effect s) exit) }

-- H_GUEST_RUN_VCPU
unfoldable pub run_vcpu : Layout → List ℕ → ℕ → ℕ → ℕ → List ℕ → List ℕ → List ℕ → ℕ → Outcome
run_vcpu l s flags guest vcpu input output effect exit =
    decide s output
    (run_tests l s flags guest vcpu input (length output) effect exit)
    (ran (base_of l s false guest vcpu) s (input_of s (base_of l s false guest vcpu) input) output effect exit)
