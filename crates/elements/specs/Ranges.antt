-- 01, "The guest state buffer": the same elements in the ranges of its own list, as the constant of the code has them.
use Rattle.std.specs.Prelude.{ℕ, ◌≡◌, List, [], ◌∷◌, get_or}
use Rattle.elements.specs.declared.Scope.{Scope}
use Rattle.elements.specs.declared.Row.{Row}
use Rattle.elements.specs.Table.{R, W, RW, G, T, row, find, below, bytes_in, threads, numbered}

-- "Guest-wide: 0x0001 (8 bytes, R), 0x0002 (8, R), 0x0003 logical PVR (4), 0x0004 TB offset (8), 0x0005 (24), 0x0006 (16). The last
-- four RW." "Thread: 0x0C00, 0x0C01 (16 each), 0x0C02 (8), 0x1000-0x1053 (8 each), 0x2000-0x200E (4 each), 0x3000-0x303F (16 each), all
-- RW but 0x103A (PPR), W; and R: 0xF000 (8), 0xF001 (4), 0xF002 (4), 0xF003 (8)."
unfoldable pub ranges : List Row
ranges =
    row 0x0001 0x0001 8 R G
    ∷ row 0x0002 0x0002 8 R G
    ∷ row 0x0003 0x0003 4 RW G
    ∷ row 0x0004 0x0004 8 RW G
    ∷ row 0x0005 0x0005 24 RW G
    ∷ row 0x0006 0x0006 16 RW G
    ∷ row 0x0C00 0x0C01 16 RW T
    ∷ row 0x0C02 0x0C02 8 RW T
    ∷ row 0x1000 0x1039 8 RW T
    ∷ row 0x103A 0x103A 8 W T
    ∷ row 0x103B 0x1053 8 RW T
    ∷ row 0x2000 0x200E 4 RW T
    ∷ row 0x3000 0x303F 16 RW T
    ∷ row 0xF000 0xF000 8 R T
    ∷ row 0xF001 0xF002 4 R T
    ∷ row 0xF003 0xF003 8 R T
    ∷ []

-- range i, counted from 0
abbrev pub range_at : ℕ → Row
range_at i = get_or ranges i (row 0 0 0 RW T)

-- two tables tell the same: what each ID is, where its value lies, how many thread elements are below it, and which element a number is
pub record TellSame (a b : List Row) : Type 0 where
  pub kind : (id : ℕ) → find a id ≡ find b id
  pub place : (s : Scope) (id : ℕ) → below (bytes_in s) a id ≡ below (bytes_in s) b id
  pub number : (id : ℕ) → below threads a id ≡ below threads b id
  pub element : (e : ℕ) → numbered a e ≡ numbered b e
