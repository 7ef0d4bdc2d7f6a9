-- Demand 3: "A plain L1 has a copy of the store and no cache: it sends each write at once, asks L0 for each read and runs with no input."
-- 01, "The L1 cache": "The plain L1 has a store only and is fed each call's arguments." It is a definition; there is no code of it.
use Rattle.std.specs.Prelude.{ℕ, Bool, List, [], ◌∷◌, ltb, length}
use Rattle.octets.specs.Bytes.{zeros}
use Rattle.answer.specs.declared.Bad.TheVariants.{Id}
use Rattle.answer.specs.declared.Fault.{Fault}
use Rattle.answer.specs.declared.Fault.TheVariants.{Length, Element}
use Rattle.store.specs.declared.Layout.{Layout}
use Rattle.admission.specs.Refusals.{Outcome, decide}
use Rattle.state.specs.State.{get_state, set_state}
use Rattle.run.specs.Run.{run_vcpu}
use Rattle.l1.specs.Marks.{is_special}
use Rattle.l1.specs.Cache.{place_zero, one}

-- "Write and read: 5 over 65,528 bytes; 6 for the NOP, 0x0C00 and 0x0C01;"
abbrev pub plain_tests : ℕ → List ℕ → List (Bool × Fault)
plain_tests id v = (ltb 65528 (length v), Length) ∷ (is_special id, Element Id place_zero) ∷ []

-- "else thread set or get state with a buffer of one element: the ID, the length as size, the bytes given."
unfoldable pub write_plain : Layout → List ℕ → ℕ → ℕ → ℕ → List ℕ → Outcome
write_plain l s guest vcpu id v = decide s [] (plain_tests id v) (set_state l s 0 guest vcpu (one id v))

unfoldable pub read_plain : Layout → List ℕ → ℕ → ℕ → ℕ → List ℕ → Outcome
read_plain l s guest vcpu id v = decide s (one id v) (plain_tests id v) (get_state l s 0 guest vcpu (one id v))

-- "Run: run vCPU with the same flags, output, effect and exit reason, its input as many zero bytes as were lent."
unfoldable pub run_plain : Layout → List ℕ → ℕ → ℕ → ℕ → List ℕ → List ℕ → List ℕ → ℕ → Outcome
run_plain l s flags guest vcpu input output effect exit = run_vcpu l s flags guest vcpu (zeros (length input)) output effect exit
