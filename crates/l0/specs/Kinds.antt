-- 02, L9: the calls that have a number: "kind (4 bits, 1 to 8 in the order of 01's list of calls)".
use Rattle.std.specs.Prelude.{ℕ, List, [], ◌∷◌, get_or, Option, Some, None}
use Rattle.l0.specs.declared.numbered.Kind.{Kind}
use Rattle.l0.specs.declared.numbered.Kind.TheVariants.{GetCapabilities, SetCapabilities, CreateGuest, CreateVcpu, GetState, SetState, RunVcpu, DeleteGuest}

abbrev pub number_of : Kind → ℕ
number_of GetCapabilities = 1
number_of SetCapabilities = 2
number_of CreateGuest = 3
number_of CreateVcpu = 4
number_of GetState = 5
number_of SetState = 6
number_of RunVcpu = 7
number_of DeleteGuest = 8

-- the kind that a number names, if any
abbrev pub kind_of : ℕ → Option Kind
kind_of number =
    get_or
    (None
    ∷ Some GetCapabilities
    ∷ Some SetCapabilities
    ∷ Some CreateGuest
    ∷ Some CreateVcpu
    ∷ Some GetState
    ∷ Some SetState
    ∷ Some RunVcpu
    ∷ Some DeleteGuest
    ∷ [])
    number
    None
