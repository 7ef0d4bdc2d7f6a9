-- 02, L9: a call record written, and what is read of it again.
use Rattle.std.specs.Prelude.{ℕ, ◌+◌, ◌*◌, ◌^◌, ◌<◌, ◌≡◌, Bool, not, ◌&&◌, List, [], ◌∷◌, ◌++◌, ltb, length, Ok}
use Rattle.octets.specs.Bytes.{put, digits}
use Rattle.answer.specs.declared.Answer.{Answer}
use Rattle.answer.specs.declared.RunBuffer.TheVariants.{Output}
use Rattle.answer.specs.declared.Fault.{Fault}
use Rattle.answer.specs.declared.Fault.TheVariants.{None, Short, Record}
use Rattle.answer.specs.Refusals.{first_of}
use Rattle.l0.specs.Numbered.{CallRecord}
use Rattle.records.specs.declared.Head.{Head}
use Rattle.records.specs.Record.{is_kind, record_at, read_head}

-- a record's head: "lengths of data and of effect"
abbrev pub head_of : CallRecord → Head
head_of r =
    record {
      kind = r.kind;
      flags = r.flags;
      guest = r.guest;
      number = r.number;
      exit_reason = r.exit;
      data_len = length r.«data»;
      effect_len = length r.effect;
    }

-- "packed most significant first: kind (4 bits ..), flags (64), guest (64), vCPU, token or bitmap (64), exit reason (12), lengths of data and of
-- effect (17 each), padding zero to the next byte": one number, of 248 bits where each part has its own
unfoldable pub head_number : Head → ℕ
head_number h =
    ((((((h.kind * 2 ^ 64 + h.flags) * 2 ^ 64 + h.guest) * 2 ^ 64 + h.number) * 2 ^ 12 + h.exit_reason) * 2 ^ 17 + h.data_len) * 2 ^ 17
    + h.effect_len)
    * 2 ^ 6

-- "then the two pieces of data"
unfoldable pub packed : CallRecord → List ℕ
packed r = digits 31 (head_number (head_of r)) ++ (r.«data» ++ r.effect)

-- what a record holds: a kind of "1 to 8", "exit reason (12), lengths of data and of effect (17 each)"
unfoldable pub fits_head : Head → Bool
fits_head h = is_kind h.kind && (ltb h.exit_reason (2 ^ 12) && (ltb h.data_len (2 ^ 17) && ltb h.effect_len (2 ^ 17)))

abbrev pub fits_record : CallRecord → Bool
fits_record r = fits_head (head_of r)

-- what writing leaves: its answer, and the lent bytes
pub record Written : Type 0 where
  pub answer : Answer
  pub bytes : List ℕ

-- 01, "Answers": "A refusal changes no byte"
abbrev pub unwritten : List ℕ → Fault → Written
unwritten b f = record { answer = record { fault = f; value = 0 }; bytes = b }

-- 19 for what no record holds, as of a record at offset 0; 12 with R4 1 if the lent bytes are too short
abbrev pub write_tests : List ℕ → CallRecord → List (Bool × Fault)
write_tests b r = (not (fits_record r), Record 0) ∷ (ltb (length b) (length (packed r)), Short Output) ∷ []

unfoldable pub write_record : List ℕ → CallRecord → Written
write_record b r =
    first_of (unwritten b) (write_tests b r)
    (record { answer = record { fault = None; value = length (packed r) }; bytes = put b 0 (packed r) })

-- ---- words of what is promised of it
-- "flags (64), guest (64), vCPU, token or bitmap (64)"
pub record Words (r : CallRecord) : Type 0 where
  pub flags_fit : r.flags < 2 ^ 64
  pub guest_fits : r.guest < 2 ^ 64
  pub number_fits : r.number < 2 ^ 64

-- what is read of bytes at an offset is the record r: its head, and the whole of it
pub record ReadAs (b : List ℕ) (at : ℕ) (r : CallRecord) : Type 0 where
  pub head : read_head b at ≡ Ok (head_of r)
  pub whole : record_at b at ≡ r

-- a packed record is read as it was, whatever bytes stand before it and behind it
abbrev pub RoundTrip : CallRecord → Type 0
RoundTrip r = (before behind : List ℕ) → ReadAs (before ++ (packed r ++ behind)) (length before) r
