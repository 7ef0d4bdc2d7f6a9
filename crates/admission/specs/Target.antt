-- 01, "Answers": what a call names, and where its values start.
use Rattle.std.specs.Prelude.{ℕ, ◌+◌, ◌≤◌, ◌<◌, ◌≡◌, Bool, not, ◌&&◌, cond, List, [], ◌∷◌, leb, Result, Ok, Err}
use Rattle.answer.specs.declared.Fault.{Fault}
use Rattle.answer.specs.declared.Fault.TheVariants.{Vcpu, Taken}
use Rattle.answer.specs.Refusals.{first_of}
use Rattle.store.specs.declared.Layout.{Layout}
use Rattle.store.specs.Layout.{guest_bytes, slot_bytes, guest_at, slot_at}
use Rattle.store.specs.Header.{header, slot_of, is_taken}
use Rattle.admission.specs.Refusals.{malformed, unsupported, not_live}

-- the slot of a vCPU, and whether it is marked as taken
abbrev pub slot_named : Layout → List ℕ → ℕ → ℕ → ℕ
slot_named l s guest vcpu = slot_of l (header l s) guest vcpu

abbrev pub is_away : Layout → List ℕ → ℕ → ℕ → Bool
is_away l s guest vcpu = is_taken l (header l s) (slot_named l s guest vcpu)

-- 4: "vCPU id above 2047, or (not when creating) absent". A slot word has 11 bits for the vCPU id, so that one above 2047 is in no slot.
abbrev pub is_absent : Layout → List ℕ → ℕ → ℕ → Bool
is_absent l s guest vcpu = leb l.slots (slot_named l s guest vcpu)

-- 1 to 4 and 16 of get state, set state and run: "guest-wide; the vCPU id is then ignored". 02, L1: "16 in get, set and run (create keeps 10)
-- where the vCPU is taken, .. after 4"
abbrev pub target_tests : Layout → List ℕ → ℕ → ℕ → Bool → ℕ → ℕ → List (Bool × Fault)
target_tests l s supported flags wide guest vcpu =
    malformed l s ∷ unsupported supported flags ∷ not_live l s guest ∷ (not wide && is_absent l s guest vcpu, Vcpu) ∷ (not wide && is_away l s guest vcpu, Taken) ∷ []

-- "The store": where the values start, of a guest or of a vCPU
unfoldable pub base_of : Layout → List ℕ → Bool → ℕ → ℕ → ℕ
base_of l s wide guest vcpu = cond wide (guest_at l guest) (slot_at l (slot_named l s guest vcpu))

unfoldable pub target_of : Layout → List ℕ → ℕ → ℕ → Bool → ℕ → ℕ → Result ℕ Fault
target_of l s supported flags wide guest vcpu = first_of Err (target_tests l s supported flags wide guest vcpu) (Ok (base_of l s wide guest vcpu))

-- the values of a target that was found lie within the store, which is well formed and so has the layout's length
abbrev pub Held : Result ℕ Fault → Bool → Layout → ℕ → Type 0
Held (Err f) wide l len = Unit {0}
Held (Ok base) wide l len = (len ≡ l.size) × (base + cond wide guest_bytes slot_bytes ≤ l.size)

-- 1, 3 and 4 of a call that has no flag left to test and names a vCPU, and its slot
abbrev pub vcpu_tests : Layout → List ℕ → ℕ → ℕ → List (Bool × Fault)
vcpu_tests l s guest vcpu = malformed l s ∷ not_live l s guest ∷ (is_absent l s guest vcpu, Vcpu) ∷ []

unfoldable pub vcpu_slot : Layout → List ℕ → ℕ → ℕ → Result ℕ Fault
vcpu_slot l s guest vcpu = first_of Err (vcpu_tests l s guest vcpu) (Ok (slot_named l s guest vcpu))

-- a slot that was found is one of a store of the layout's length, and its vCPU id has 11 bits
abbrev pub Within : Result ℕ Fault → Layout → ℕ → ℕ → Type 0
Within (Err f) l len vcpu = Unit {0}
Within (Ok j) l len vcpu = (len ≡ l.size) × (j < l.slots) × (vcpu < 2048)
