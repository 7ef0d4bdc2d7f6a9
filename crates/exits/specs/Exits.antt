-- 01, "Run": the table of exits, and the output that a run writes.
use Rattle.std.specs.Prelude.{ℕ, ◌+◌, Bool, false, ◌||◌, cond, List, [], ◌∷◌, eqb}
use Rattle.octets.specs.Bytes.{bytes_at}
use Rattle.elements.specs.declared.Element.{Element}
use Rattle.elements.specs.Table.{number_of, thread_element}
use Rattle.gsb.specs.Message.{message}

-- exit reason, elements
unfoldable pub exits : List (ℕ × List ℕ)
exits =
    (0xC00, 0x1003 ∷ 0x1004 ∷ 0x1005 ∷ 0x1006 ∷ 0x1007 ∷ 0x1008 ∷ 0x1009 ∷ 0x100A ∷ 0x100B ∷ 0x100C ∷ [])
    ∷ (0xE00, 0xF000 ∷ 0xF001 ∷ 0xF003 ∷ [])
    ∷ (0xE20, 0xF003 ∷ [])
    ∷ (0xE40, 0xF002 ∷ [])
    ∷ (0xF80, 0x102D ∷ [])
    ∷ (0x000, [])
    ∷ (0x980, [])
    ∷ []

-- 01, "Answers", 13: "unknown exit reason"
unfoldable pub is_among : List (ℕ × List ℕ) → ℕ → Bool
is_among [] exit = false
is_among (x ∷ xs) exit = eqb x.0 exit || is_among xs exit

abbrev pub known : ℕ → Bool
known exit = is_among exits exit

-- the elements of an exit's row
unfoldable pub row_of : List (ℕ × List ℕ) → ℕ → List ℕ
row_of [] exit = []
row_of (x ∷ xs) exit = cond (eqb x.0 exit) x.1 (row_of xs exit)

abbrev pub returned : ℕ → List ℕ
returned exit = row_of exits exit

-- the thread element that an ID names
abbrev pub element_of : ℕ → Element
element_of id = thread_element (number_of id)

-- the table's third column: four bytes of count, and four before each value
unfoldable pub weigh : List ℕ → ℕ
weigh [] = 0
weigh (id ∷ ids) = 4 + (element_of id).size + weigh ids

abbrev pub row_bytes : List ℕ → ℕ
row_bytes ids = 4 + weigh ids

-- that column, row for row
abbrev pub bytes_column : List (ℕ × List ℕ) → List ℕ
bytes_column [] = []
bytes_column (x ∷ xs) = row_bytes x.1 ∷ bytes_column xs

-- thread elements with the values that they have in the slot whose values start at base of the store s
unfoldable pub valued : ℕ → List ℕ → List ℕ → List (ℕ × List ℕ)
valued base s [] = []
valued base s (id ∷ ids) = (id, bytes_at s (base + (element_of id).position) (element_of id).size) ∷ valued base s ids

-- "the output's first bytes are written: a count and elements in the order given"
unfoldable pub output_of : ℕ → List ℕ → ℕ → List ℕ
output_of base s exit = message (valued base s (returned exit))
