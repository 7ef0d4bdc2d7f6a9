-- A layout as clauses, definitions and laws see it: its ten numbers. Where these are named, the record is `Layout`, the name of the code's type.
use Rattle.std.specs.Prelude.{ℕ, ◌+◌, ◌*◌, ◌^◌, ◌%◌, ◌≤◌, ◌<◌, ◌≡◌, ◌⊎◌}

-- "52 bytes per guest", "1,820 bytes per slot"
abbrev pub guest_bytes : ℕ
guest_bytes = 52

abbrev pub slot_bytes : ℕ
slot_bytes = 1820

pub record Numbers : Type 0 where
  pub guests : ℕ
  pub zeros : ℕ
  pub slots : ℕ
  pub ids : ℕ
  pub width : ℕ
  pub words_at : ℕ
  pub taken_at : ℕ
  pub guests_at : ℕ
  pub slots_at : ℕ
  pub size : ℕ

-- what every law uses of a layout; the code's type keeps it, and each layout proves it once, by computing
pub record Sound (l : Numbers) : Type 0 where
  pub few_slots : l.slots ≤ 64
  pub some_zeros : 1 ≤ l.zeros
  pub few_zeros : l.zeros ≤ 8
  pub whole_bytes : (l.guests + l.zeros) % 8 ≡ 0
  pub nameable : l.guests < l.ids
  pub few_ids : l.ids ≤ 64
  pub digits : 2 ^ l.width ≡ 4096 * l.ids
  pub head : 64 + l.guests + l.zeros ≤ 8 * l.words_at
  pub words : 8 * l.words_at + l.width * l.slots ≤ 8 * l.guests_at
  pub guests_fit : l.guests_at + guest_bytes * l.guests ≤ l.slots_at
  pub whole : l.slots_at + slot_bytes * l.slots ≡ l.size
  pub small_size : l.size ≤ 1000000
  pub marks_head : 64 + l.guests + l.zeros ≤ 8 * l.taken_at
  pub marks : 8 * l.taken_at + l.slots ≤ 8 * l.guests_at
  -- the marks lie before the slot words or behind them
  pub marks_apart : (8 * l.taken_at + l.slots ≤ 8 * l.words_at) ⊎ (8 * l.words_at + l.width * l.slots ≤ 8 * l.taken_at)
  -- a slot word is read and written within four bytes
  pub some_width : 1 ≤ l.width
  pub few_digits : l.width ≤ 25
