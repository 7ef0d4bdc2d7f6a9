-- What private functions give: the parts of get state and set state past the target.
use Rattle.std.specs.Prelude.{ℕ, List, []}
use Rattle.rules.specs.declared.Context.{Context}
use Rattle.rules.specs.declared.Usage.{Usage}
use Rattle.rules.specs.declared.Usage.TheVariants.{GuestGet, GuestSet, ThreadGet, ThreadSet, RunInput, Effect}
use Rattle.gsb.specs.Walk.{count_of}
use Rattle.store.specs.declared.Layout.{Layout}
use Rattle.store.specs.Layout.{guest_bytes, slot_bytes}
use Rattle.transfer.specs.Transfer.{applied}
use Rattle.admission.specs.Refusals.{Admission, Outcome, accept, decide, judgement}
use Rattle.store.specs.Header.{header, is_taken}
use Rattle.state.specs.HandOver.{take_tests, take_from, give_tests, give_to}
use Rattle.state.specs.State.{buffer_tests, fill_with}

unfoldable pub buffer_good : Context → List ℕ → Admission
buffer_good k b = judgement (buffer_tests k b)

unfoldable pub set_at : List ℕ → ℕ → Context → List ℕ → Outcome
set_at s base k b = decide s [] (buffer_tests k b) (accept 0 (applied base b (count_of b) s))

unfoldable pub get_at : List ℕ → ℕ → Context → List ℕ → Outcome
get_at s base k b = decide s b (buffer_tests k b) (fill_with s base b)

-- how many bytes a use's values take, from their start
abbrev pub bytes_for : Usage → ℕ
bytes_for GuestGet = guest_bytes
bytes_for GuestSet = guest_bytes
bytes_for ThreadGet = slot_bytes
bytes_for ThreadSet = slot_bytes
bytes_for RunInput = slot_bytes
bytes_for Effect = slot_bytes

-- a hand-over past the slot
unfoldable pub take_at : Layout → List ℕ → ℕ → ℕ → List ℕ → Outcome
take_at l s j vcpu b = decide s b (take_tests (is_taken l (header l s) j) b) (take_from l s j vcpu b)

unfoldable pub give_at : Layout → List ℕ → ℕ → ℕ → List ℕ → Outcome
give_at l s j vcpu b = decide s [] (give_tests (is_taken l (header l s) j) vcpu b) (give_to l s j b)
