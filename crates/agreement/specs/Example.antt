-- Demand 3: "a live vCPU in it with both run buffers registered, the input with at least 2,424 bytes, and an empty cache of it kept by an
-- L1": such a store and such a cache, written out; and a cache whose run input is the largest.
use Rattle.std.specs.Prelude.{ℕ, ◌-◌, ◌^◌, List, [], ◌∷◌, ◌++◌}
use Rattle.octets.specs.Bytes.{put, digits, zeros}
use Rattle.store.specs.Layout.{small, guest_at, slot_at}
use Rattle.store.specs.Store.{fresh}
use Rattle.l1.specs.Marks.{Cache}

-- guest 1 with vCPU 0: its live bit, the zero byte and the first slot word; an input of 2,424 bytes and an output of 124 at the start of
-- slot 0
unfoldable pub example_store : List ℕ
example_store = put (put (fresh small) 8 (0x80 ∷ 0 ∷ 0x88 ∷ 0x00 ∷ [])) (slot_at small 0) (digits 8 0 ++ (digits 8 2424 ++ (digits 8 0 ++ digits 8 124)))

-- 02, L7: and its guest's PVR is POWER9's
unfoldable pub power9_store : List ℕ
power9_store = put example_store (guest_at small 1) (digits 4 0x0F000005)

unfoldable pub example_cache : Cache
example_cache = record { values = zeros 1820; marks = zeros 6 }

-- 01, "The L1 cache": "All 164 changed": the marks of 170 elements without 0x0C00, 0x0C01 and the four that are only read, valid and changed
unfoldable pub input_marks : List ℕ
input_marks = (2 ^ 62 - 1) ∷ (2 ^ 64 - 1) ∷ (2 ^ 64 - 2 ^ 26) ∷ []

unfoldable pub full_cache : Cache
full_cache = record { values = zeros 1820; marks = input_marks ++ input_marks }
