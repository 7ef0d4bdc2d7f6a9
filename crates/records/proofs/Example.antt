-- One record written out, and what is read of it. Assumes nothing.
use mathlib.Core.Path.{◌≡◌, refl}
use mathlib.Core.Bool.{true}
use mathlib.Core.List.{List, [], ◌∷◌}
use Prim.Native.Nat.{ℕ}
use lib.ListN.{take}
use lib.Dec.{lit<}
use Rattle.octets.specs.Bytes.{digits}
use Rattle.octets.specs.Bits.{bit, bits}
use Rattle.l0.specs.Numbered.{CallRecord}
use Rattle.std.specs.Prelude.{Ok, Err}
use Rattle.records.specs.declared.Unread.TheVariants.{Cut}
use Rattle.records.specs.Record.{is_kind, head_at, padding, head_good, read_head}
use Rattle.records.specs.Write.{head_number, packed, fits_head, fits_record, Words}

-- a run: flags 2^63 + 1, guest 3, vCPU 2,047, exit reason 0xE00, two bytes of data and one of effect
pub example : List ℕ
example = 120 ∷ 0 ∷ 0 ∷ 0 ∷ 0 ∷ 0 ∷ 0 ∷ 0 ∷ 16 ∷ 0 ∷ 0 ∷ 0 ∷ 0 ∷ 0 ∷ 0 ∷ 0 ∷ 48 ∷ 0 ∷ 0 ∷ 0 ∷ 0 ∷ 0 ∷ 0 ∷ 127 ∷ 254 ∷ 0 ∷ 0 ∷ 1 ∷ 0 ∷ 0 ∷ 64 ∷ 170 ∷ 187 ∷ 204 ∷ []

pub example_read : read_head example 0
    ≡ Ok (record { kind = 7; flags = 9223372036854775809; guest = 3; number = 2047; exit_reason = 3584; data_len = 2; effect_len = 1 })
unfolding read_head head_good is_kind head_at padding bits bit example
example_read = refl

-- the same record packed; it is one that a record holds
pub example_record : CallRecord
example_record =
    record { kind = 7; flags = 9223372036854775809; guest = 3; number = 2047; exit = 3584; «data» = 170 ∷ 187 ∷ []; effect = 204 ∷ [] }

pub example_packed : packed example_record ≡ example
unfolding packed head_number digits example example_record
example_packed = refl

pub example_held : (fits_record example_record ≡ true) × Words example_record
unfolding fits_head is_kind example_record
example_held = (refl, record { flags_fit = lit< tt; guest_fits = lit< tt; number_fits = lit< tt })

-- its effect is cut
pub example_cut : read_head (take 33 example) 0 ≡ Err Cut
unfolding read_head head_good is_kind head_at padding bits bit example
example_cut = refl
