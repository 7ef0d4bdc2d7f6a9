-- 02, L9: a call record's bytes. What is read of any bytes at any offset.
use Rattle.std.specs.Prelude.{ℕ, ◌+◌, ◌*◌, Bool, ◌&&◌, cond, List, eqb, leb, length, Result, Ok, Err}
use Rattle.octets.specs.Bytes.{bytes_at}
use Rattle.octets.specs.Bits.{bits}
use Rattle.l0.specs.Numbered.{CallRecord}
use Rattle.records.specs.declared.Head.{Head}
use Rattle.records.specs.declared.Unread.{Unread}
use Rattle.records.specs.declared.Unread.TheVariants.{Cut, Bad}

-- "kind (4 bits, 1 to 8 in the order of 01's list of calls)"
unfoldable pub is_kind : ℕ → Bool
is_kind k = leb 1 k && leb k 8

-- ---- a record read, from byte `at` on
-- its head, or why none begins there
abbrev pub Read : Type 0
Read = Result Head Unread

-- "packed most significant first: kind (4 bits ..), flags (64), guest (64), vCPU, token or bitmap (64), exit reason (12), lengths of data and of
-- effect (17 each)"
unfoldable pub head_at : List ℕ → ℕ → Head
head_at b at =
    record {
      kind = bits b (8 * at) 4;
      flags = bits b (8 * at + 4) 64;
      guest = bits b (8 * at + 68) 64;
      number = bits b (8 * at + 132) 64;
      exit_reason = bits b (8 * at + 196) 12;
      data_len = bits b (8 * at + 208) 17;
      effect_len = bits b (8 * at + 225) 17;
    }

-- "padding zero to the next byte": 242 bits and six
unfoldable pub padding : List ℕ → ℕ → ℕ
padding b at = bits b (8 * at + 242) 6

-- "then the two pieces of data"
abbrev pub record_length : Head → ℕ
record_length h = 31 + h.data_len + h.effect_len

unfoldable pub record_at : List ℕ → ℕ → CallRecord
record_at b at = record {
  kind = (head_at b at).kind;
  flags = (head_at b at).flags;
  guest = (head_at b at).guest;
  number = (head_at b at).number;
  exit = (head_at b at).exit_reason;
  «data» = bytes_at b (at + 31) (head_at b at).data_len;
  effect = bytes_at b (at + 31 + (head_at b at).data_len) (head_at b at).effect_len;
}

-- "the first record that is cut or has another kind or nonzero padding": a head that is there is judged, though its data be cut
unfoldable pub head_good : List ℕ → ℕ → Bool
head_good b at = is_kind (head_at b at).kind && eqb (padding b at) 0

-- cut in its head, its data or its effect
unfoldable pub read_head : List ℕ → ℕ → Read
read_head b at =
    cond (leb (at + 31) (length b))
    (cond (head_good b at) (cond (leb (at + record_length (head_at b at)) (length b)) (Ok (head_at b at)) (Err Cut)) (Err Bad))
    (Err Cut)
