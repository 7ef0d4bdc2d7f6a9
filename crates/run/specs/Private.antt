-- What inner functions give: a run's tests, as far as each function takes them.
use Rattle.std.specs.Prelude.{ℕ, false, List, [], ◌∷◌, Result, Ok, Err}
use Rattle.answer.specs.declared.Fault.{Fault}
use Rattle.answer.specs.Refusals.{first_of}
use Rattle.rules.specs.declared.Context.{Context}
use Rattle.store.specs.declared.Layout.{Layout}
use Rattle.admission.specs.Refusals.{Admission, judgement}
use Rattle.admission.specs.Target.{base_of}
use Rattle.state.specs.State.{bad_element}
use Rattle.run.specs.declared.RunTarget.{RunTarget}
use Rattle.run.specs.Run.{input_size, lent_tests, exit_tests, run_target_tests, content_tests, run_tests}

unfoldable pub lent_good : List ℕ → ℕ → ℕ → ℕ → ℕ → Admission
lent_good s base need inputLength output_length = judgement (lent_tests s base need inputLength output_length)

unfoldable pub input_good : Context → List ℕ → Admission
input_good k input = judgement (bad_element k input ∷ [])

unfoldable pub exit_good : Context → List ℕ → ℕ → Admission
exit_good k effect exit = judgement (exit_tests k effect exit)

-- where the vCPU's values start, and how many bytes of the lent input count
abbrev pub target_at : List ℕ → ℕ → RunTarget
target_at s base = record { base = base; size = input_size s base }

unfoldable pub run_target_of : Layout → List ℕ → ℕ → ℕ → ℕ → ℕ → ℕ → ℕ → Result RunTarget Fault
run_target_of l s flags guest vcpu need inputLength output_length =
    first_of Err (run_target_tests l s flags guest vcpu need inputLength output_length)
    (Ok (target_at s (base_of l s false guest vcpu)))

unfoldable pub content_good : Layout → List ℕ → ℕ → List ℕ → List ℕ → ℕ → Admission
content_good l s guest input effect exit = judgement (content_tests l s guest input effect exit)

unfoldable pub judged_run : Layout → List ℕ → ℕ → ℕ → ℕ → List ℕ → ℕ → List ℕ → ℕ → Result RunTarget Fault
judged_run l s flags guest vcpu input output_length effect exit =
    first_of Err (run_tests l s flags guest vcpu input output_length effect exit)
    (Ok (target_at s (base_of l s false guest vcpu)))
