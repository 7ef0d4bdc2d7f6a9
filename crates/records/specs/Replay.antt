-- 02, L9: what the program `replay` prints for the bytes on its standard input.
use Rattle.std.specs.Prelude.{ℕ, zero, suc, ◌+◌, ◌-◌, ◌/◌, ◌^◌, ◌≤◌, Bool, true, false, not, ◌&&◌, ◌||◌, cond, List, [], ◌++◌, ltb, length, Ok, Err, Option, Some, None}
use Rattle.octets.specs.Bytes.{bytes_at, put, zeros}
use Rattle.text.specs.Text.{ascii, decimal}
use Rattle.answer.specs.declared.Registers.{Registers}
use Rattle.answer.specs.Answer.{told}
use Rattle.rules.specs.Rules.{good_output}
use Rattle.store.specs.declared.Layout.{Layout}
use Rattle.store.specs.Store.{fresh}
use Rattle.admission.specs.Target.{base_of}
use Rattle.run.specs.Run.{output_size}
use Rattle.l0.specs.Numbered.{CallRecord, Called, kind_name, called}
use Rattle.records.specs.declared.Head.{Head}
use Rattle.records.specs.declared.Unread.TheVariants.{Cut, Bad}
use Rattle.records.specs.declared.playing.Step.{Step}
use Rattle.records.specs.Record.{Read, record_at, record_length, read_head}

-- ---- one record played
-- the size that the vCPU's 0x0C01 holds
abbrev pub registered_output : Layout → List ℕ → CallRecord → ℕ
registered_output l s r = output_size s (base_of l s false r.guest r.number)

-- "In a run the data is the input, and the output is lent as registered.": as many bytes as are registered at that time, none if none are. What
-- they hold before shows in no answer and in no store: they are zeros here.
unfoldable pub output_lent : Layout → List ℕ → CallRecord → List ℕ
output_lent l s r = zeros (cond (good_output (registered_output l s r)) (registered_output l s r) 0)

-- "The library's answer after any record": what its call tells on the store s, and the store that it leaves
pub record Turn : Type 0 where
  pub registers : Registers
  pub store : List ℕ

abbrev pub turn_of : ℕ → Called → Turn
turn_of kind c = record { registers = told (kind_name kind) c.answer.fault c.answer.value; store = c.store }

unfoldable pub turn : Layout → List ℕ → CallRecord → Turn
turn l s r = turn_of r.kind (called l s r (output_lent l s r))

-- ---- its line
-- "in decimal with a space between"
abbrev pub field : ℕ → List ℕ
field n = decimal n ++ ascii " "

-- "prints for each a line: number from 0, kind, R3, R4 and R5"
unfoldable pub record_line : ℕ → ℕ → Registers → List ℕ
record_line n kind r = field n ++ (field kind ++ (field r.r3 ++ (field r.r4 ++ (decimal r.r5 ++ ascii "\n"))))

-- "then `answer 19 offset N`"
unfoldable pub bad_line : ℕ → List ℕ
bad_line offset = ascii "answer 19 offset " ++ (decimal offset ++ ascii "\n")

-- ---- the records one after the other
-- what stands after some records: the store, their lines, and where and with which number the next one begins
pub record Played : Type 0 where
  pub store : List ℕ
  pub lines : List ℕ
  pub at : ℕ
  pub number : ℕ

abbrev pub behind : List ℕ → Played → Played
behind line p = record { store = p.store; lines = line ++ p.lines; at = p.at; number = p.number }

unfoldable pub on_record : Read → (Head → Played) → Played → Played
on_record (Ok h) go stop = go h
on_record (Err e) go stop = stop

-- the records of b from byte `at` on, the first with number n: at most f of them, up to the first that is cut or bad
unfoldable pub played : ℕ → Layout → List ℕ → List ℕ → ℕ → ℕ → Played
played zero l s b at n = record { store = s; lines = []; at = at; number = n }
played (suc f) l s b at n =
    on_record (read_head b at)
    (λ h. behind
    (record_line n h.kind (turn l s (record_at b at)).registers)
    (played f l (turn l s (record_at b at)).store b (at + record_length h) (n + 1)))
    (record { store = s; lines = []; at = at; number = n })

-- all of them: a record has 31 bytes or more, so that there are fewer than bytes
unfoldable pub played_all : Layout → List ℕ → List ℕ → ℕ → Played
played_all l s b n = played (length b) l s b 0 n

abbrev pub is_record : Read → Bool
is_record (Ok h) = true
is_record (Err e) = false

abbrev pub is_bad : Read → Bool
is_bad (Ok h) = false
is_bad (Err Cut) = false
is_bad (Err Bad) = true

-- "the first record that is cut or has another kind or nonzero padding": one is known to be cut where the input has ended in it
unfoldable pub stops_at : Bool → List ℕ → ℕ → Bool
stops_at ended b at = is_bad (read_head b at) || (ended && ltb at (length b))

-- "the records before it are printed, then `answer 19 offset N`": what is printed for the whole input b, on a fresh store
unfoldable pub printed : Layout → List ℕ → List ℕ
printed l b = p.lines ++ cond (stops_at true b p.at) (bad_line p.at) []
  where
    p : Played
    p = played_all l (fresh l) b 0

-- ---- the same in windows: the program reads piece by piece
-- what a window of bytes leaves: the result, the store, the window with what was not used at its front, and the text written
pub record WindowOutcome : Type 0 where
  pub result : Option Step
  pub store : List ℕ
  pub window : List ℕ
  pub text : List ℕ

-- the longest line has 86 characters: four numbers of 20 digits, a kind of one, and five that are no digits
abbrev pub line_room : ℕ
line_room = 86

-- what the function refuses, with nothing written: more bytes than the window has, a text without room for a line of each record that they can
-- hold and the last one, and counts that no input of less than 2 ^ 64 bytes leads to
unfoldable pub refuses : ℕ → ℕ → ℕ → ℕ → ℕ → Bool
refuses window filled number offset text =
    ltb window filled || (ltb (text / line_room) (filled / 31 + 2) || (ltb offset number || ltb (2 ^ 64 - 1) (offset + filled)))

-- the text of a window whose first byte is byte `offset` of the input
unfoldable pub window_text : Bool → ℕ → List ℕ → Played → List ℕ
window_text ended offset b p = p.lines ++ cond (stops_at ended b p.at) (bad_line (offset + p.at)) []

unfoldable pub windowed : Bool → ℕ → List ℕ → List ℕ → List ℕ → Played → WindowOutcome
windowed ended offset b window text p = record {
  result =
      Some (record {
        kept = length b - p.at;
        written = length (window_text ended offset b p);
        number = p.number;
        offset = offset + p.at;
        more = not (stops_at ended b p.at || ended);
      });
  store = p.store;
  window = put window 0 (bytes_at b p.at (length b - p.at));
  text = put text 0 (window_text ended offset b p);
}

unfoldable pub replayed : Layout → List ℕ → List ℕ → ℕ → Bool → ℕ → ℕ → List ℕ → WindowOutcome
replayed l s window filled ended number offset text =
    cond (refuses (length window) filled number offset (length text))
    (record { result = None; store = s; window = window; text = text })
    (windowed ended offset (bytes_at window 0 filled) window text (played_all l s (bytes_at window 0 filled) number))

-- what is kept lies within the window and what is written within the text: for callers that take those parts
abbrev pub Within : Option Step → ℕ → ℕ → Type 0
Within None window text = Unit {0}
Within (Some step) window text = (step.kept ≤ window) × (step.written ≤ text)
