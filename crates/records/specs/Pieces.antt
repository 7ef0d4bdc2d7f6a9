-- 02, L9: "A program reads the records from standard input": it comes in pieces, cut anywhere.
use Rattle.std.specs.Prelude.{ℕ, ◌+◌, ◌-◌, ◌^◌, ◌≤◌, ◌<◌, ◌≡◌, Bool, true, false, not, ◌||◌, cond, List, [], ◌∷◌, ◌++◌, length}
use Rattle.octets.specs.Bytes.{bytes_at}
use Rattle.store.specs.declared.Layout.{Layout}
use Rattle.store.specs.Store.{fresh}
use Rattle.records.specs.declared.playing.Step.{Step}
use Rattle.std.specs.Prelude.{Some}
use Rattle.records.specs.Replay.{Played, played_all, stops_at, printed, window_text, refuses, WindowOutcome, replayed}

-- ---- a read
-- "Run a whole night from its record.": what stands between two reads, the bytes that no record has used, the store, the next record's number and
-- the offset of its first byte, all that was printed, and whether more is read
pub record Night : Type 0 where
  pub kept : List ℕ
  pub store : List ℕ
  pub number : ℕ
  pub offset : ℕ
  pub text : List ℕ
  pub more : Bool

-- "from a fresh store", "number from 0": before the first read
abbrev pub night_start : Layout → Night
night_start l = record { kept = []; store = fresh l; number = 0; offset = 0; text = []; more = true }

-- "prints for each a line": after the window b, of whose records p is what was played; each part is as in `windowed`
unfoldable pub behind_window : Bool → Night → List ℕ → Played → Night
behind_window ended t b p = record {
  kept = bytes_at b p.at (length b - p.at);
  store = p.store;
  number = p.number;
  offset = t.offset + p.at;
  text = t.text ++ window_text ended t.offset b p;
  more = not (stops_at ended b p.at || ended);
}

-- the window is what was kept and the piece that was read; behind "then `answer 19 offset N`" nothing is read
unfoldable pub fed : Layout → Bool → Night → List ℕ → Night
fed l ended t piece =
    cond t.more (behind_window ended t (t.kept ++ piece) (played_all l t.store (t.kept ++ piece) t.number)) t

-- ---- all reads
-- "reads the records from standard input": one piece after the other
unfoldable pub fed_all : Layout → Night → List (List ℕ) → Night
fed_all l t [] = t
fed_all l t (piece ∷ pieces) = fed_all l (fed l false t piece) pieces

-- the pieces, then the input's end
abbrev pub night_end : Layout → List (List ℕ) → Night
night_end l pieces = fed l true (fed_all l (night_start l) pieces) []

-- the whole input
unfoldable pub joined : List (List ℕ) → List ℕ
joined [] = []
joined (piece ∷ pieces) = piece ++ joined pieces

-- however the input is cut into pieces, what is printed is what is printed for the whole
abbrev pub InPieces : Layout → List (List ℕ) → Type 0
InPieces l pieces = (night_end l pieces).text ≡ printed l (joined pieces)

-- "lengths of data and of effect (17 each)": the bytes of the longest record, 262,173
abbrev pub longest : ℕ
longest = 31 + (2 ^ 17 - 1) + (2 ^ 17 - 1)

-- while more is read, fewer bytes are kept than the longest record has: a window that is longer has room
abbrev pub HasRoom : Layout → Bool → Night → List ℕ → Type 0
HasRoom l ended t piece = (fed l ended t piece).more ≡ true → length (fed l ended t piece).kept < longest

-- ---- the program's window
-- o, what playing a window leaves, is the read that leads from t to u: the bytes kept are the window's first, and what is printed the text's first
pub record Leads (t u : Night) (o : WindowOutcome) : Type 0 where
  pub step : Step
  pub result : o.result ≡ Some step
  pub store : o.store ≡ u.store
  pub kept : bytes_at o.window 0 step.kept ≡ u.kept
  pub long : step.kept ≡ length u.kept
  pub number : step.number ≡ u.number
  pub offset : step.offset ≡ u.offset
  pub more : step.more ≡ u.more
  pub text : step.written ≤ length o.text → t.text ++ bytes_at o.text 0 step.written ≡ u.text

-- where more is read, the window holds what was kept and the piece, and it is not refused
abbrev pub IsRead : Layout → Bool → Night → List ℕ → List ℕ → ℕ → List ℕ → Type 0
IsRead l ended t piece window filled text =
    t.more ≡ true → bytes_at window 0 filled ≡ t.kept ++ piece → refuses (length window) filled t.number t.offset (length text) ≡ false
    → Leads t (fed l ended t piece) (replayed l t.store window filled ended t.number t.offset text)

-- ---- no read is refused
-- the bytes of the program's window and of its text
abbrev pub window_bytes : ℕ
window_bytes = 266240

abbrev pub text_bytes : ℕ
text_bytes = 738740

-- "A program reads the records from standard input": to their end. The next piece, whatever it is, is not refused where it fits into the program's
-- window behind what was kept, and the input has less than 2 ^ 64 bytes.
abbrev pub NeverRefused : Layout → List (List ℕ) → List ℕ → Type 0
NeverRefused l pieces piece =
    length (joined pieces) + length piece < 2 ^ 64 → length ((fed_all l (night_start l) pieces).kept ++ piece) ≤ window_bytes
    → refuses window_bytes (length ((fed_all l (night_start l) pieces).kept ++ piece)) (fed_all l (night_start l) pieces).number (fed_all l (night_start l) pieces).offset text_bytes ≡ false
