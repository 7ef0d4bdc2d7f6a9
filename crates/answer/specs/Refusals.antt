-- 01, "Answers": "When several apply", the first in the order given is told.
use Rattle.std.specs.Prelude.{Bool, cond, List, [], ◌∷◌}

-- the first of the faults whose test holds, made an answer by `refuse`; `good` where none does
abbrev pub first_of : {F A : Type 0} → (F → A) → List (Bool × F) → A → A
first_of refuse [] good = good
first_of refuse (x ∷ xs) good = cond x.0 (refuse x.1) (first_of refuse xs good)
