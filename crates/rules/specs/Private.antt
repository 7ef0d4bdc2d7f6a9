-- A name that only contracts of inner functions use.
use Rattle.std.specs.Prelude.{Bool, true, false}
use Rattle.rules.specs.declared.Usage.{Usage}
use Rattle.rules.specs.declared.Usage.TheVariants.{GuestGet, GuestSet, ThreadGet, ThreadSet, RunInput, Effect}

-- a use that is about a vCPU
abbrev pub of_thread : Usage → Bool
of_thread GuestGet = false
of_thread GuestSet = false
of_thread ThreadGet = true
of_thread ThreadSet = true
of_thread RunInput = true
of_thread Effect = true
