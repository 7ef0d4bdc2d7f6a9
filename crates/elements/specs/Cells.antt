-- A thread element by its ID, for the L1 cache: its number, its size and where its value lies, looked up once.
use Rattle.std.specs.Prelude.{ℕ, Option, Some, None}
use Rattle.elements.specs.declared.Cell.{Cell}
use Rattle.elements.specs.declared.Register.{Register}
use Rattle.elements.specs.Table.{number_of, thread_element}
use Rattle.elements.specs.Registers.{register_of}

-- the element that has the ID's number
unfoldable pub cell_of : ℕ → Cell
cell_of id = record { number = number_of id; size = (thread_element (number_of id)).size; position = (thread_element (number_of id)).position }

-- of a register only
abbrev pub cell_for : Option Register → ℕ → Option Cell
cell_for None id = None
cell_for (Some r) id = Some (cell_of id)

unfoldable pub register_cell : ℕ → Option Cell
register_cell id = cell_for (register_of id) id
