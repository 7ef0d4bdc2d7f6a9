-- Names that only the contracts of private functions use: registers stored, from the store s to the store t.
use Rattle.std.specs.Prelude.{ℕ, ◌≤◌, ◌≡◌, List, Option, None, Some}
use Rattle.answer.specs.declared.Place.{Place}
use Rattle.elements.specs.Table.{kind_of}
use Rattle.gsb.specs.Walk.{id_at, next_at, offset_at}
use Rattle.transfer.specs.Transfer.{value_at, put_as, applied}

-- the element at `at`
abbrev pub Stepped : Option ℕ → ℕ → List ℕ → ℕ → List ℕ → List ℕ → Type 0
Stepped (Some n) base b at s t = (n ≡ next_at b at) × (t ≡ put_as (kind_of (id_at b at)) base (value_at b at) s)
Stepped None base b at s t = t ≡ s

-- the elements from one place to another
pub record Onward (base : ℕ) (b : List ℕ) (count : ℕ) (from to : Place) (s t : List ℕ) : Type 0 where
  pub onward : from.index ≤ to.index
  pub upto : to.index ≤ count
  pub place : to.offset ≡ offset_at b to.index
  pub stored : (u : List ℕ) → s ≡ applied base b from.index u → t ≡ applied base b to.index u
