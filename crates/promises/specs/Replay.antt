-- 02, L9: "The library's answer after any record is that of the same calls made one by one from a fresh store".
use Rattle.std.specs.Prelude.{ℕ, ◌+◌, ◌≡◌, true, false, List, [], ◌∷◌, ◌++◌, length}
use Rattle.std.proofs.Math.Option.{Option, none, some}
use Rattle.answer.specs.declared.Registers.{Registers}
use Rattle.store.specs.declared.Layout.{Layout}
use Rattle.store.specs.Store.{fresh}
use Rattle.l0.specs.Calls.{Call, outcome}
use Rattle.l0.specs.Numbered.{CallRecord, call_of}
use Rattle.records.specs.Record.{read_head}
use Rattle.records.specs.Write.{packed, fits_record, Words}
use Rattle.records.specs.Replay.{output_lent, record_line, bad_line, is_record, printed}
use Rattle.promises.specs.History.{registers}

-- ---- the input
-- "reads the records from standard input": the bytes of one behind those of the other
unfoldable pub packed_all : List CallRecord → List ℕ
packed_all [] = []
packed_all (r ∷ rs) = packed r ++ packed_all rs

-- "kind (4 bits, 1 to 8 ..), flags (64), guest (64), vCPU, token or bitmap (64), exit reason (12), lengths of data and of effect (17 each)": each
-- of the records has fields of these widths
pub data Recorded : List CallRecord → Type 0 where
  nothing : Recorded []
  one_more : {r : CallRecord} {rs : List CallRecord} → fits_record r ≡ true → Words r → Recorded rs → Recorded (r ∷ rs)

-- ---- "the same calls made one by one"
-- a record's call on the store s: "the output is lent as registered"
abbrev pub call_on : Layout → List ℕ → CallRecord → Option Call
call_on l s r = call_of r (output_lent l s r)

-- its answer, and those of the calls behind it on the store that it leaves; where there is no call the answers end
abbrev pub answer_then : Layout → List ℕ → Option Call → (List ℕ → List Registers) → List Registers
answer_then l s none others = []
answer_then l s (some c) others = registers l s c ∷ others (outcome l s c).store

-- R3, R4 and R5 of each call, from the store s on
unfoldable pub one_by_one : Layout → List ℕ → List CallRecord → List Registers
one_by_one l s [] = []
one_by_one l s (r ∷ rs) = answer_then l s (call_on l s r) (λ t. one_by_one l t rs)

-- ---- what is printed of them
-- "prints for each a line: number from 0, kind, R3, R4 and R5": the first with number n
unfoldable pub line_of_each : ℕ → List CallRecord → List Registers → List ℕ
line_of_each n [] answers = []
line_of_each n (r ∷ rs) [] = []
line_of_each n (r ∷ rs) (a ∷ answers) = record_line n r.kind a ++ line_of_each (n + 1) rs answers

-- "19 with the byte offset of the first record that is cut or has another kind or nonzero padding": z are the bytes from there on; without any the
-- input has ended behind a whole record
abbrev pub last_line : ℕ → List ℕ → List ℕ
last_line offset [] = []
last_line offset (x ∷ z) = bad_line offset

-- "the records before it are printed, then `answer 19 offset N`": rs are the records before it, and z, which begins no record, stands behind them
pub record OneByOne (l : Layout) (rs : List CallRecord) : Type 0 where
  -- "any record": none is without its answer
  pub answers : length (one_by_one l (fresh l) rs) ≡ length rs
  pub lines : (z : List ℕ) → is_record (read_head z 0) ≡ false
      → printed l (packed_all rs ++ z) ≡ line_of_each 0 rs (one_by_one l (fresh l) rs) ++ last_line (length (packed_all rs)) z

-- the bytes b are those of some records and, behind them, some that begin none: what `OneByOne` says of these it says of b
pub record InRecords (b : List ℕ) : Type 0 where
  pub records : List CallRecord
  pub rest : List ℕ
  pub recorded : Recorded records
  pub unread : is_record (read_head rest 0) ≡ false
  pub bytes : b ≡ packed_all records ++ rest
