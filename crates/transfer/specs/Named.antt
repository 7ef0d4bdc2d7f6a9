-- Demand 2: "A set-state call changes only the elements named, of the guest or vCPU named."
use Rattle.std.specs.Prelude.{ℕ, ◌+◌, ◌≤◌, ◌<◌, ◌≡◌, List}
use Rattle.elements.specs.declared.Source.TheVariants.{Stored}
use Rattle.elements.specs.declared.Entry.{Entry}
use Rattle.elements.specs.declared.Kind.TheVariants.{Listed}
use Rattle.elements.specs.Table.{kind_of}
use Rattle.gsb.specs.Walk.{id_at, next_at, offset_at}

-- "the elements named": byte j of the store is one of the value of an element of b below n; the values start at base
pub record Named (base : ℕ) (b : List ℕ) (n j : ℕ) : Type 0 where
  pub index : ℕ
  pub counted : index < n
  pub entry : Entry
  pub place : ℕ
  pub listed : kind_of (id_at b (offset_at b index)) ≡ Listed entry
  pub stored : entry.source ≡ Stored place
  pub from : base + place ≤ j
  pub below : j < base + place + entry.size

-- 01, "The guest state buffer": "Get writes the value bytes and nothing else." Byte j of b is one of the value of an element below n
pub record ValueByte (b : List ℕ) (n j : ℕ) : Type 0 where
  pub index : ℕ
  pub counted : index < n
  pub from : offset_at b index + 4 ≤ j
  pub below : j < next_at b (offset_at b index)
