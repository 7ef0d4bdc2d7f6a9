-- Names that only the contracts of inner functions use: a part is elements of one size that follow one another.
use Rattle.std.specs.Prelude.{ℕ, zero, suc, ◌+◌, ◌-◌, ◌*◌, ◌^◌, ◌≤◌, ◌<◌, ◌≡◌, not, cond, List, ◌++◌, length, Option, None, Some}
use Rattle.octets.specs.Bytes.{bytes_at, put, digits, zeros}
use Rattle.handover.specs.declared.Run.{Run}
use Rattle.handover.specs.declared.Words.{Words}
use Rattle.handover.specs.Form.{count, size, is_zero, present, presence, head, kept, body, next, holds, given}

-- the bytes before element e: its position, by `position_is`, and behind the last all bytes of a state
unfoldable pub place : ℕ → ℕ
place zero = 0
place (suc e) = place e + size e

-- the elements of a part, few enough for a word of bits, have one size, and the first value lies where it says
pub record IsPart (from to wide first : ℕ) : Type 0 where
  pub upward : from < to
  pub within : to ≤ count
  pub few : to ≤ from + 64
  pub alike : (e : ℕ) → from ≤ e → e < to → size e ≡ wide
  pub start : first ≡ place from

-- ---- writing
-- a form so far, and what the value x adds to it
unfoldable pub onward : Run → List ℕ → Run
onward r x = record { at = r.at + length (kept x); word = r.word * 2 + cond (not (is_zero x)) 1 0 }

-- the values of the elements from `from` to `to` fit into the rest of a buffer of len bytes, and their bits into the word
pub record Room (from to : ℕ) (r : Run) (len : ℕ) : Type 0 where
  pub bytes : r.at + place to ≤ place from + len
  pub bits : r.word < 2 ^ (64 - (to - from))

-- what the n elements from e on add
unfoldable pub written : Run → List ℕ → ℕ → ℕ → Run
written r v e n = record { at = r.at + length (body v e n); word = r.word * 2 ^ n + presence (present v) e n }

pub record Wrote (v : List ℕ) (e n : ℕ) (r s : Run) (b c : List ℕ) : Type 0 where
  pub run : s ≡ written r v e n
  pub buffer : c ≡ put b r.at (body v e n)

-- the three words of the head, most significant bit first
unfoldable pub word_bytes : Words → List ℕ
word_bytes h = digits 8 h.first ++ (digits 8 h.second ++ digits 8 h.third)

-- all values of the state v, behind the place of the head h
pub record WroteAll (vcpu : ℕ) (v : List ℕ) (h : Words) (b c : List ℕ) : Type 0 where
  pub head_is : word_bytes h ≡ head vcpu (presence (present v) 0 count)
  pub buffer : c ≡ put b 24 (body v 0 count)

-- ---- reading
-- where the value behind those of the n elements from e on is, and that if they are sound
unfoldable pub after : List ℕ → ℕ → ℕ → ℕ → ℕ
after b e zero at = at
after b e (suc n) at = after b (e + 1) n (next b e at)

unfoldable pub walked : List ℕ → ℕ → ℕ → ℕ → Option ℕ
walked b e n at = cond (holds b e n at) (Some (after b e n at)) None

-- the values of the elements from `from` to `to` are zero
pub record Blank (s : List ℕ) (base from to : ℕ) : Type 0 where
  pub each : (e : ℕ) → from ≤ e → e < to → bytes_at s (base + place e) (size e) ≡ zeros (size e)

-- those that a buffer gives are stored in the state from `base` on
pub record Gave (b : List ℕ) (base e n at r : ℕ) (s t : List ℕ) : Type 0 where
  pub ends : r ≡ after b e n at
  pub inside : r ≤ length b
  pub store : t ≡ put s (base + place e) (given b e n at)
