-- What the table of elements promises, as tests computed of it, and the positions that 01 gives. The theorems are `table_right`,
-- `listed_rule` and `paper_places`.
use Rattle.std.specs.Prelude.{ℕ, zero, suc, ◌+◌, ◌*◌, ◌≡◌, Bool, true, false, not, ◌&&◌, ◌||◌, List, [], ◌∷◌, ltb, leb, eqb}
use Rattle.elements.specs.declared.Scope.{Scope}
use Rattle.elements.specs.declared.Scope.TheVariants.{Guest, Thread}
use Rattle.elements.specs.declared.Row.{Row}
use Rattle.elements.specs.declared.Entry.{Entry}
use Rattle.elements.specs.declared.Kind.{Kind}
use Rattle.elements.specs.declared.Kind.TheVariants.{Unlisted, Nop, Listed}
use Rattle.elements.specs.Table.{table, many, below, is_stored, position, kind_of, number_of}

-- 01, "The store": "52 bytes per guest", "1,820 bytes per slot"
abbrev pub bytes_of : Scope → ℕ
bytes_of Guest = 52
bytes_of Thread = 1820

-- ---- 01, "Forms for parts of the code": "one computed test that ranges are disjoint and positions gapless"
-- a test of every row, of every ID that a row names, and of every listed element
abbrev pub every_row : (Row → Bool) → List Row → Bool
every_row test [] = true
every_row test (r ∷ rs) = test r && every_row test rs

-- of n IDs, a the first of them
abbrev pub all_from : (ℕ → Bool) → ℕ → ℕ → Bool
all_from test a zero = true
all_from test a (suc n) = test (a + n) && all_from test a n

abbrev pub every_id : (ℕ → Bool) → Bool
every_id test = every_row (λ (r : Row). all_from test r.first (many r)) table

abbrev pub on_entry : (Entry → Bool) → Kind → Bool
on_entry test Unlisted = false
on_entry test Nop = false
on_entry test (Listed x) = test x

abbrev pub every_entry : (ℕ → Entry → Bool) → Bool
every_entry test = every_id (λ (id : ℕ). on_entry (test id) (kind_of id))

-- "ranges are disjoint": each row's last ID is not below its first, and is below the next row's first
abbrev pub ascends : List Row → Bool
ascends [] = true
ascends (r ∷ []) = leb r.first r.last
ascends (r ∷ s ∷ rs) = (leb r.first r.last && ltb r.last s.first) && ascends (s ∷ rs)

-- "positions gapless": the position of the ID after a stored element is past its value
abbrev pub meets : ℕ → Entry → Bool
meets id x = not (is_stored id) || eqb (position x.scope (suc id)) (position x.scope id + x.size)

-- 01, "What each answer must settle": "elements of 4, 8, 16 and 24 bytes"
abbrev pub is_known_size : ℕ → Bool
is_known_size n = eqb n 4 || (eqb n 8 || (eqb n 16 || eqb n 24))

-- past every ID: what lies below it is the whole table
abbrev pub past : ℕ
past = 0x10000

abbrev pub single : Row → ℕ
single r = 1

pub record TableRight : Type 0 where
  pub disjoint : ascends table ≡ true
  pub gapless : every_entry meets ≡ true
  -- the customer: "176 named state elements"
  pub elements : below single table past ≡ 176
  -- "the 170 thread elements"
  pub thread_elements : number_of past ≡ 170
  -- "52 bytes per guest", "1,820 bytes per slot"
  pub guest_bytes_lem : position Guest past ≡ bytes_of Guest
  pub slot_bytes_lem : position Thread past ≡ bytes_of Thread
  pub sizes : every_row (λ (r : Row). is_known_size r.size) table ≡ true

-- ---- the positions that 01 gives: first ID, how many in a row, the position of the first, and how far one is from the next
-- "The store": "the 170 thread elements in order of ID without gaps: GPR n at 40+8n, 0x1020+k at 296+8k, 0x2000+k at 712+4k, VSR n at
-- 772+16n, 0xF000 at 1,796"; "Around each edge": "0x101F is at byte 288 of a slot", "0x200E at 768, 0x303F at 1,780"
abbrev pub slot_places : List (ℕ × ℕ × ℕ × ℕ)
slot_places =
    (0x0C00, 1, 0, 16)
    ∷ (0x1000, 32, 40, 8)
    ∷ (0x101F, 1, 288, 8)
    ∷ (0x1020, 52, 296, 8)
    ∷ (0x2000, 15, 712, 4)
    ∷ (0x200E, 1, 768, 4)
    ∷ (0x3000, 64, 772, 16)
    ∷ (0x303F, 1, 1780, 16)
    ∷ (0xF000, 1, 1796, 8)
    ∷ []

-- "The store": "0x0003 at 0, 0x0004 at 4, 0x0005 at 12, 0x0006 at 36"
abbrev pub guest_places : List (ℕ × ℕ × ℕ × ℕ)
guest_places = (0x0003, 1, 0, 4) ∷ (0x0004, 1, 4, 8) ∷ (0x0005, 1, 12, 24) ∷ (0x0006, 1, 36, 16) ∷ []

abbrev pub are_placed : Scope → List (ℕ × ℕ × ℕ × ℕ) → Bool
are_placed s [] = true
are_placed s (p ∷ ps) = all_from (λ (k : ℕ). eqb (position s (p.0 + k)) (p.2 + p.3 * k)) 0 p.1 && are_placed s ps
