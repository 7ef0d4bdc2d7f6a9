-- THEOREM `night_printed`: what is printed for two records and a cut one, by `replay_one_by_one`. The second answer is that on the store which the
-- first call left. Assumes nothing.
use mathlib.Core.Path.{◌≡◌, refl, ap₂, ◌∙◌}
use mathlib.Core.Bool.{false}
use mathlib.Core.List.{List, [], ◌∷◌, ◌++◌}
use Prim.Native.Nat.{ℕ}
use lib.Dec.{lit<}
use lib.ListN.{length}
use Rattle.octets.specs.Bytes.{bytes_at, put, be, digits, zeros}
use Rattle.octets.specs.Bits.{bit, bits, ins, set_bit, put_bits}
use Rattle.text.specs.Text.{ascii, shown}
use Rattle.store.specs.Layout.{small}
use Rattle.store.specs.Search.{every, first}
use Rattle.store.specs.Header.{header, capabilities_of, live, word, is_used, guest_of, is_taken, lacks, alone, slot_good, head_good, words_good, is_dead, free_guest}
use Rattle.store.specs.Store.{well_formed, fresh, put_live, with_guest}
use Rattle.admission.specs.Refusals.{decide}
use Rattle.guests.specs.Guests.{create_guest}
use Rattle.l0.specs.Calls.{outcome}
use Rattle.l0.specs.Numbered.{CallRecord}
use Rattle.records.specs.Record.{is_kind, read_head}
use Rattle.records.specs.Write.{head_number, packed, fits_head, Words}
use Rattle.records.specs.Replay.{record_line, bad_line, is_record, printed}
use Rattle.promises.specs.History.{registers}
use Rattle.promises.specs.Replay.{packed_all, Recorded, nothing, one_more, one_by_one, line_of_each, last_line}
use Rattle.promises.proofs.Replay.{replay_one_by_one}

abbrev create : CallRecord
create = record { kind = 3; flags = 0; guest = 0; number = 0xFFFFFFFFFFFFFFFF; exit = 0; «data» = []; effect = [] }

abbrev night : List CallRecord
night = create ∷ create ∷ []

-- one byte of a third record
abbrev cut : List ℕ
cut = 48 ∷ []

create_words : Words create
create_words = record { flags_fit = lit< tt; guest_fits = lit< tt; number_fits = lit< tt }

night_recorded : Recorded night
unfolding fits_head is_kind
night_recorded = one_more refl create_words (one_more refl create_words nothing)

night_answered : line_of_each 0 night (one_by_one small (fresh small) night) ≡ ascii "0 3 0 1 0\n1 3 0 2 0\n"
unfolding bytes_at put be zeros bit bits ins set_bit put_bits shown every first header capabilities_of live word is_used guest_of is_taken lacks alone slot_good head_good words_good is_dead free_guest well_formed fresh put_live with_guest decide create_guest outcome record_line registers one_by_one line_of_each
night_answered = refl

cut_unread : is_record (read_head cut 0) ≡ false
unfolding read_head
cut_unread = refl

night_ended : last_line (length (packed_all night)) cut ≡ ascii "answer 19 offset 62\n"
unfolding digits shown head_number packed bad_line packed_all
night_ended = refl

pub night_printed : printed small (packed_all night ++ cut) ≡ ascii "0 3 0 1 0\n1 3 0 2 0\nanswer 19 offset 62\n"
night_printed = (replay_one_by_one small night night_recorded).lines cut cut_unread ∙ ap₂ (λ (x y : List ℕ). x ++ y) night_answered night_ended
