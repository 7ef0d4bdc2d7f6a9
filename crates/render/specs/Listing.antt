-- 01, "Around each edge", the listing program: what it prints for a buffer, which it judges as a thread set.
use Rattle.std.specs.Prelude.{ℕ, zero, suc, ◌+◌, ◌≤◌, cond, List, [], ◌∷◌, ◌++◌, ltb, length, Option, Some, None, Ok, Err}
use Rattle.octets.specs.Bytes.{put}
use Rattle.answer.specs.declared.Fault.TheVariants.{Element}
use Rattle.answer.specs.declared.Call.TheVariants.{SetState}
use Rattle.answer.specs.declared.Registers.{Registers}
use Rattle.answer.specs.Answer.{told}
use Rattle.rules.specs.declared.Usage.TheVariants.{ThreadSet}
use Rattle.rules.specs.declared.Context.{Context}
use Rattle.elements.specs.declared.Offer.TheVariants.{Full}
use Rattle.gsb.specs.Walk.{count_of, id_at, size_at, bad_length, judged, first_bad, Verdict, Walked}
use Rattle.text.specs.Text.{ascii, decimal, hex4}

-- no thread element's rule looks at the capabilities; 02, L7: "L11 and the listing" use the list "of 01"
abbrev pub thread_set : Context
thread_set = record { usage = ThreadSet; capabilities = 0; offer = Full }

-- "First line: count and input length."
unfoldable pub first_line : List ℕ → List ℕ
first_line b = ascii "elements " ++ (decimal (count_of b) ++ (ascii " bytes " ++ (decimal (length b) ++ ascii "\n")))

unfoldable pub verdict_text : Verdict → List ℕ
verdict_text (Ok next) = ascii " ok\n"
verdict_text (Err bad) = ascii " bad\n"

-- "Then index, byte offset, ID in four upper-case hex digits, size, verdict"
unfoldable pub line : ℕ → ℕ → ℕ → ℕ → Verdict → List ℕ
line index offset id size verdict =
    decimal index ++ (ascii " " ++ (decimal offset ++ (ascii " " ++ (hex4 id ++ (ascii " " ++ (decimal size ++ verdict_text verdict))))))

unfoldable pub on_good : Verdict → (ℕ → List ℕ) → List ℕ
on_good (Ok next) go = go next
on_good (Err bad) go = []

-- "up to the first bad element. A header that does not fit prints no such line.": n elements, the first of them at `at`
unfoldable pub lines : List ℕ → ℕ → ℕ → ℕ → List ℕ
lines b zero index at = []
lines b (suc n) index at =
    cond (ltb (length b) (at + 4)) []
    (line index at (id_at b at) (size_at b at) (judged thread_set b at) ++ on_good (judged thread_set b at) (λ next. lines b n (index + 1) next))

-- "Last: R3 and R4, or `answer 0` alone." 02, L4: "The listing's last line gains ` offset N` after the index."
unfoldable pub refused_line : Registers → List ℕ
refused_line r =
    ascii "answer " ++ (decimal r.r3 ++ (ascii " index " ++ (decimal r.r4 ++ (ascii " offset " ++ (decimal r.r5 ++ ascii "\n")))))

unfoldable pub last_line : Walked → List ℕ
last_line (Ok _) = ascii "answer 0\n"
last_line (Err stop) = refused_line (told SetState (Element stop.bad stop.place) 0)

-- "A length of answer 5 prints only `answer 5`."
unfoldable pub listing : List ℕ → List ℕ
listing b =
    cond (bad_length b) (ascii "answer 5\n")
    (first_line b ++ (lines b (count_of b) 0 4 ++ last_line (first_bad thread_set b)))

-- Room for every listing: at most 16,383 lines of at most 27 characters, the first and the last.
abbrev pub room : ℕ
room = 442496

pub record RenderOutcome : Type 0 where
  pub result : Option ℕ
  pub text : List ℕ

-- A text buffer without that room is refused, and nothing is written; else the listing stands in its first bytes, the rest is untouched.
unfoldable pub rendered : List ℕ → List ℕ → RenderOutcome
rendered b text =
    cond (ltb (length text) room) (record { result = None; text = text })
    (record { result = Some (length (listing b)); text = put text 0 (listing b) })

-- a text's length is within the buffer: for callers that take that part of it
abbrev pub Within : Option ℕ → ℕ → Type 0
Within (Some n) size = n ≤ size
Within None size = Unit {0}

-- "Input (hex) `00000002 10030008 0000000000000007 00030004 0F000006`"
abbrev pub example : List ℕ
example =
    0x00 ∷ 0x00 ∷ 0x00 ∷ 0x02
    ∷ 0x10 ∷ 0x03 ∷ 0x00 ∷ 0x08
    ∷ 0x00 ∷ 0x00 ∷ 0x00 ∷ 0x00 ∷ 0x00 ∷ 0x00 ∷ 0x00 ∷ 0x07
    ∷ 0x00 ∷ 0x03 ∷ 0x00 ∷ 0x04
    ∷ 0x0F ∷ 0x00 ∷ 0x00 ∷ 0x06
    ∷ []
