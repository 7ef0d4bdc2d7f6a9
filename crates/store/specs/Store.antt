-- 01, "The store": a store as a whole, and what calls make of it.
use Rattle.std.specs.Prelude.{ℕ, zero, suc, ◌+◌, ◌*◌, Bool, ◌&&◌, cond, List, eqb, length}
use Rattle.octets.specs.Bytes.{put, digits, zeros}
use Rattle.octets.specs.Bits.{put_bits}
use Rattle.store.specs.declared.Layout.{Layout}
use Rattle.store.specs.Layout.{guest_bytes, slot_bytes, guest_at, slot_at}
use Rattle.store.specs.Header.{header, word_at, word, word_of, guest_of, head_good, words_good}

-- "Well formed: right length, byte 9 zero, no capability but bits 1 and 2, each used word names a live guest, no two the same
-- pair, unused words zero. Value bytes are free." 02, L1: "a mark on an unused slot is ill formed"
unfoldable pub well_formed : Layout → List ℕ → Bool
well_formed l s = eqb (length s) l.size && (head_good l (header l s) && words_good l (header l s))

-- "A fresh store is all zeros"
unfoldable pub fresh : Layout → List ℕ
fresh l = zeros l.size

-- "Set stores the bitmap."
unfoldable pub put_capabilities : List ℕ → ℕ → List ℕ
put_capabilities s c = put s 0 (digits 8 c)

unfoldable pub put_live : List ℕ → ℕ → ℕ → List ℕ
put_live s g b = put_bits s (63 + g) 1 b

unfoldable pub put_word : Layout → List ℕ → ℕ → ℕ → List ℕ
put_word l s i w = put_bits s (word_at l i) l.width w

-- slot a's mark
unfoldable pub put_taken : Layout → List ℕ → ℕ → ℕ → List ℕ
put_taken l s a b = put_bits s (8 * l.taken_at + a) 1 b

-- 02, L1: "creating or dropping a vCPU clears its mark": slot i's word, with its mark cleared
unfoldable pub put_slot : Layout → List ℕ → ℕ → ℕ → List ℕ
put_slot l s i w = put_word l (put_taken l s i 0) i w

-- "Create takes the lowest free id or slot and zeroes its values."
unfoldable pub with_guest : Layout → List ℕ → ℕ → List ℕ
with_guest l s g = put (put_live s g 1) (guest_at l g) (zeros guest_bytes)

unfoldable pub with_vcpu : Layout → List ℕ → ℕ → ℕ → ℕ → List ℕ
with_vcpu l s j g v = put (put_slot l s j (word_of l g v)) (slot_at l j) (zeros slot_bytes)

-- "Delete clears the live bit and the slot words only", and 02, L1: "creating or dropping a vCPU clears its mark": of one guest, in slots 0 to
-- n - 1
unfoldable pub drop_word : Layout → ℕ → ℕ → List ℕ → List ℕ
drop_word l g a s = cond (eqb (guest_of l (word l (header l s) a)) g) (put_slot l s a 0) s

unfoldable pub drop_words : Layout → ℕ → ℕ → List ℕ → List ℕ
drop_words l g zero s = s
drop_words l g (suc n) s = drop_word l g n (drop_words l g n s)

unfoldable pub without_guest : Layout → List ℕ → ℕ → List ℕ
without_guest l s g = put_live (drop_words l g l.slots s) g 0

-- of all guests: every slot word with its mark, and every live bit
unfoldable pub no_words : Layout → ℕ → List ℕ → List ℕ
no_words l zero s = s
no_words l (suc n) s = put_slot l (no_words l n s) n 0

unfoldable pub no_guests : ℕ → List ℕ → List ℕ
no_guests zero s = s
no_guests (suc n) s = put_live (no_guests n s) (n + 1) 0

unfoldable pub without_guests : Layout → List ℕ → List ℕ
without_guests l s = no_guests l.guests (no_words l l.slots s)
