-- The registers: the elements from 0x1000 on, below 0xF000. Nearly every element of a buffer is one.
use Rattle.std.specs.Prelude.{ℕ, ◌/◌, ◌%◌, ◌^◌, Bool, false, cond, ◌&&◌, ltb, leb, eqb, Option, Some, None}
use Rattle.elements.specs.declared.Scope.TheVariants.{Thread}
use Rattle.elements.specs.declared.Kind.{Kind}
use Rattle.elements.specs.declared.Kind.TheVariants.{Unlisted, Nop, Listed}
use Rattle.elements.specs.declared.Register.{Register}
use Rattle.elements.specs.Table.{kind_of, position}

abbrev pub register_as : Kind → ℕ → Option Register
register_as Unlisted p = None
register_as Nop p = None
register_as (Listed x) p = Some (record { size = x.size; position = p })

-- the size and the position that the table gives; none of an ID that is no register
unfoldable pub register_of : ℕ → Option Register
register_of id = cond (leb 0x1000 id && ltb id 0xF000) (register_as (kind_of id) (position Thread id)) None

abbrev pub has_size : ℕ → Option Register → Bool
has_size size None = false
has_size size (Some r) = eqb r.size size

-- a header, the size above the ID in one number, is that of a register of this size
unfoldable pub is_header : ℕ → ℕ → Bool
is_header size header = eqb (header / 2 ^ 16) size && has_size size (register_of (header % 2 ^ 16))
