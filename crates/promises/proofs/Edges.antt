-- THEOREM `edges`: the written rules give the number that 01 says in every starred case of the table. It is computed. Assumes nothing.
use mathlib.Core.Path.{◌≡◌, refl, sym, ap, ap₂, ◌∙◌}
use mathlib.Core.Bool.{true}
use mathlib.Core.List.{List, [], ◌∷◌}
use Prim.Native.Nat.{ℕ}
use lib.Count.{count_leading_zeros}
use Rattle.octets.specs.Bytes.{bytes_at, put, be, digits, zeros}
use Rattle.octets.specs.Bits.{bit, bits, ins, set_bit, put_bits}
use Rattle.octets.proofs.Bytes.{put_same}
use Rattle.elements.specs.Table.{table, below, position, source_of, find, kind_of}
use Rattle.elements.specs.Later.{later, is_later, offer_of, offers}
use Rattle.rules.specs.Rules.{allows, permits, size_fits, rule_of, good_value}
use Rattle.gsb.specs.Walk.{offset_at, judged, walk_on as next, walk, first_bad}
use Rattle.transfer.specs.Transfer.{put_from, put_as, applied, read_from, fill_as, filled}
use Rattle.store.specs.Layout.{small, slot_bytes, slot_at}
use Rattle.store.specs.Search.{every, first}
use Rattle.store.specs.Header.{header, capabilities_of, live, word, word_of, is_used, guest_of, is_taken, holds, lacks, alone, slot_good, head_good, words_good, slot_holding, slot_of, free_slot, is_dead, free_guest}
use Rattle.store.specs.Store.{well_formed, fresh, put_live, put_word, put_taken, put_slot, with_guest, with_vcpu}
use Rattle.admission.specs.Refusals.{decide}
use Rattle.exits.specs.Exits.{exits, is_among}
use Rattle.admission.specs.Target.{base_of}
use Rattle.handover.specs.Form.{is_shown, next as formNext, sound, holds as formHolds, opens, begins, taken}
use Rattle.state.specs.HandOver.{take_vcpu, give_vcpu}
use Rattle.state.specs.State.{get_elements, get_state, set_elements, set_state}
use Rattle.run.specs.Run.{ran, run_vcpu}
use Rattle.guests.specs.Guests.{create_guest, create_vcpu}
use Rattle.l0.specs.Calls.{guest_clock, CreateVcpu, outcome, after}
use Rattle.promises.specs.History.{registers}
use Rattle.promises.specs.Edges.{agrees, element, buffer_of, one, ready, two_slots, parked, r3, r4, r5, registered, good_then_bad, zeros_before, placed, read_after, clock_with, read_wide, edges_of, starred}

-- ---- the two stores as bytes, which every case begins with
-- a fresh store but for the bytes from byte 8 on: the live guests, the zero byte, the slot words
abbrev pub plain : List ℕ → List ℕ
plain h = put (fresh small) 8 h

-- a vCPU in a slot with no mark, whose values are zero, changes its word alone. Computed, each of the 1,820 zeros would be a walk through the store.
pub vcpu_made : (s t : List ℕ) (j g v : ℕ) → put_slot small s j (word_of small g v) ≡ t → bytes_at t (slot_at small j) slot_bytes ≡ zeros slot_bytes → with_vcpu small s j g v ≡ t
unfolding with_vcpu
vcpu_made s t j g v e z = ap (λ (x : List ℕ). put x (slot_at small j) (zeros slot_bytes)) e ∙ ap (put t (slot_at small j)) (sym z) ∙ put_same t (slot_at small j) slot_bytes

stores : (ready ≡ plain (0x80 ∷ 0 ∷ 0x88 ∷ 0x00 ∷ [])) × (two_slots ≡ plain (0xE0 ∷ 0 ∷ 0x9F ∷ 0xFF ∷ 0x88 ∷ 0x00 ∷ []))
unfolding bytes_at put be zeros bit bits ins set_bit put_bits every first header capabilities_of live word word_of is_used guest_of is_taken holds lacks alone slot_good head_good words_good slot_holding slot_of free_slot is_dead free_guest well_formed fresh put_live put_word put_taken put_slot with_guest decide create_guest create_vcpu outcome after ready two_slots
stores = (
  vcpu_made (plain (0x80 ∷ [])) _ 0 1 0 refl refl,
  ap (λ (s : List ℕ). (outcome small s (CreateVcpu 0 1 0)).store) (vcpu_made (plain (0xE0 ∷ [])) (plain (0xE0 ∷ 0 ∷ 0x9F ∷ 0xFF ∷ [])) 0 3 2047 refl refl)
      ∙ vcpu_made (plain (0xE0 ∷ 0 ∷ 0x9F ∷ 0xFF ∷ [])) _ 1 1 0 refl refl,
)

-- the same store with the mark of slot 0
abbrev marked : List ℕ
marked = put_taken small (plain (0x80 ∷ 0 ∷ 0x88 ∷ 0x00 ∷ [])) 0 1

-- values that are zero are zeroed: only the mark is another
away : parked (plain (0x80 ∷ 0 ∷ 0x88 ∷ 0x00 ∷ [])) ≡ marked
unfolding bytes_at put be zeros bit bits every first header capabilities_of live word word_of is_used guest_of is_taken holds lacks alone slot_good head_good words_good slot_holding slot_of well_formed fresh decide get_state take_vcpu outcome parked taken
away = ap (λ (s : List ℕ). put_taken small s 0 1) (put_same (plain (0x80 ∷ 0 ∷ 0x88 ∷ 0x00 ∷ [])) (slot_at small 0) slot_bytes)

-- ---- the cases
computed : agrees (edges_of (plain (0x80 ∷ 0 ∷ 0x88 ∷ 0x00 ∷ [])) (plain (0xE0 ∷ 0 ∷ 0x9F ∷ 0xFF ∷ 0x88 ∷ 0x00 ∷ [])) marked) ≡ true
unfolding bytes_at put be digits zeros bit bits table below position source_of find kind_of allows offers offer_of is_later later permits size_fits rule_of good_value offset_at judged next walk first_bad put_from put_as applied read_from fill_as filled every first header capabilities_of live word word_of is_used guest_of is_taken holds lacks alone slot_good head_good words_good slot_holding slot_of well_formed fresh exits is_among decide base_of get_elements get_state set_elements set_state take_vcpu give_vcpu begins opens is_shown sound formHolds formNext ran run_vcpu create_vcpu free_slot guest_clock ins set_bit put_bits put_taken outcome registers element buffer_of one registered good_then_bad r3 r4 r5 zeros_before placed read_after clock_with read_wide edges_of count_leading_zeros
computed = refl

pub edges : agrees starred ≡ true
unfolding starred
edges =
    ap₂ (λ (s t : List ℕ). agrees (edges_of s t (parked s))) stores.0 stores.1
    ∙ ap (λ (u : List ℕ). agrees (edges_of (plain (0x80 ∷ 0 ∷ 0x88 ∷ 0x00 ∷ [])) (plain (0xE0 ∷ 0 ∷ 0x9F ∷ 0xFF ∷ 0x88 ∷ 0x00 ∷ [])) u)) away ∙ computed
