-- THEOREM `one_night_lem`: the records after a few calls through the layer, in which each counter moves. Computed. Assumes nothing.
use mathlib.Core.Path.{◌≡◌, refl}
use mathlib.Core.List.{◌∷◌}
use lib.ListN.{replicate}
use lib.Count.{count_leading_zeros}
use Rattle.octets.specs.Bytes.{bytes_at, put, be, digits, zeros}
use Rattle.octets.specs.Bits.{bit, bits, ins, set_bit, put_bits}
use Rattle.elements.specs.Table.{table, below, position, source_of, find, kind_of}
use Rattle.elements.specs.Later.{later, is_later, offer_of, offers}
use Rattle.rules.specs.Rules.{allows, permits, size_fits, rule_of, good_value}
use Rattle.gsb.specs.Walk.{offset_at, judged, walk_on as next, walk, first_bad}
use Rattle.transfer.specs.Transfer.{put_from, put_as, applied, read_from, fill_as, filled}
use Rattle.store.specs.Layout.{small}
use Rattle.store.specs.Search.{every, first}
use Rattle.store.specs.Header.{header, capabilities_of, live, word, word_of, is_used, guest_of, is_taken, holds, lacks, alone, slot_good, head_good, words_good, slot_holding, slot_of, free_slot, is_dead, free_guest}
use Rattle.store.specs.Store.{well_formed, fresh, put_live, put_word, put_taken, put_slot, with_guest, with_vcpu}
use Rattle.admission.specs.Refusals.{decide}
use Rattle.exits.specs.Exits.{exits, is_among}
use Rattle.admission.specs.Target.{base_of}
use Rattle.state.specs.State.{get_elements, get_state, set_elements, set_state}
use Rattle.run.specs.Run.{ran, run_vcpu}
use Rattle.guests.specs.Guests.{create_guest, create_vcpu}
use Rattle.l0.specs.Calls.{outcome}
use Rattle.l0.specs.Numbered.{called}
use Rattle.tally.specs.Tally.{new_record, plus, elements_set, noted, tallied}
use Rattle.promises.specs.Edges.{element, buffer_of, one}
use Rattle.promises.specs.Tallies.{night_from, night_of, one_night, of_one_night}

pub one_night_lem : (night_of small one_night).records ≡ of_one_night ∷ replicate 15 new_record
unfolding bytes_at put be digits zeros bit bits table below position source_of find kind_of allows offers offer_of is_later later permits size_fits rule_of good_value offset_at judged next walk first_bad put_from put_as applied read_from fill_as filled every first header capabilities_of live word word_of is_used guest_of is_taken holds lacks alone slot_good head_good words_good slot_holding slot_of well_formed fresh put_live put_word put_taken put_slot with_guest with_vcpu exits is_among decide base_of get_elements get_state set_elements set_state ran run_vcpu create_guest create_vcpu free_slot free_guest is_dead ins set_bit put_bits outcome called element buffer_of one count_leading_zeros plus elements_set noted tallied night_from one_night
one_night_lem = refl
