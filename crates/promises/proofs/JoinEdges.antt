-- THEOREM `join_edges_lem`: each number of request L8 is what the rules give. THEOREMS `sets_met`, `sets_apart`: what `two_sets_one` and
-- `either_order` suppose is met. Computed.
-- Assumes nothing.
use mathlib.Core.Path.{◌≡◌, refl, ap, sym, ◌∙◌}
use mathlib.Core.Logic.{inl}
use mathlib.Core.Bool.{true}
use Prim.Native.Nat.{ℕ}
use native.Mathlib.Omega.{arith}
use Rattle.octets.specs.Bytes.{bytes_at, put, be, digits, zeros}
use Rattle.octets.specs.Bits.{bit, bits, ins, set_bit, put_bits}
use Rattle.elements.specs.Table.{table, below, position, source_of, find, kind_of}
use Rattle.elements.specs.Later.{later, is_later, offer_of, offers}
use Rattle.rules.specs.Rules.{allows, permits, size_fits, good_pvr, rule_of, good_value}
use Rattle.gsb.specs.Walk.{id_at, offset_at, judged, walk_on, walk, first_bad}
use Rattle.gsb.specs.Lookup.{framed}
use Rattle.gsb.specs.Join.{counted, joined, join_into}
use Rattle.store.specs.Layout.{small}
use Rattle.store.specs.Search.{every, first}
use Rattle.store.specs.Header.{header, live, capabilities_of, word, is_used, guest_of, is_taken, lacks, alone, slot_good, head_good, words_good, is_dead, any_live, free_guest}
use Rattle.store.specs.Store.{well_formed, fresh, put_capabilities, put_live, with_guest}
use Rattle.transfer.specs.Transfer.{put_from, put_as, applied}
use Rattle.admission.specs.Refusals.{bit0, decide}
use Rattle.admission.specs.Target.{base_of}
use Rattle.state.specs.State.{set_elements, set_state}
use Rattle.guests.specs.Guests.{create_guest}
use Rattle.l0.specs.Calls.{set_capabilities, outcome, after}
use Rattle.promises.specs.History.{registers, is_accepted}
use Rattle.promises.specs.Edges.{agrees, element, buffer_of, one}
use Rattle.promises.specs.Joining.{join_told, TwoSets, ShareNoId, one_and_byte, counts_two, lacks_byte, long_nop, join_edges, agreed_guest}

pub join_edges_lem : agrees join_edges ≡ true
unfolding bytes_at put be digits zeros offset_at walk_on walk framed counted joined join_into join_told element buffer_of one one_and_byte counts_two lacks_byte long_nop join_edges
join_edges_lem = refl

-- the vCPU ids, 0 and 2048, are ignored
pub sets_met : TwoSets small agreed_guest bit0 1 0 2048 (one 0x0003 4 0x0F000005) (one 0x0004 8 5)
unfolding bytes_at put be digits zeros bit bits ins set_bit put_bits table below position source_of find kind_of allows offers offer_of is_later later permits size_fits good_pvr rule_of good_value offset_at judged walk_on walk first_bad put_from put_as applied every first header capabilities_of live word is_used guest_of is_taken lacks alone slot_good head_good words_good is_dead free_guest any_live well_formed fresh put_capabilities put_live with_guest decide base_of set_elements set_state create_guest set_capabilities outcome after registers is_accepted element buffer_of one agreed_guest
sets_met = record { plain = refl; target = inl refl; first = refl; second = refl }

pub sets_apart : ShareNoId (one 0x0003 4 0x0F000005) (one 0x0004 8 5)
unfolding be digits offset_at element buffer_of one
sets_apart i j h k e =
    let x : i ≡ 0 = omega arith in
    let y : j ≡ 0 = omega arith in
    let z : ◌≡◌ {A = ℕ} 3 4
    = ap (λ (n : ℕ). id_at (one 0x0003 4 0x0F000005) (offset_at (one 0x0003 4 0x0F000005) n)) (sym x) ∙ e ∙ ap (λ (n : ℕ). id_at (one 0x0004 8 5) (offset_at (one 0x0004 8 5) n)) y in
    absurd (omega arith)
