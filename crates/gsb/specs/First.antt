-- Demand 2: "Past the earlier checks, a buffer is refused for an element exactly if it holds a bad one, and the place told is the
-- first." Of any judge of the element at an offset: a use's, which is `judged k b`, or the lookup's, which is `framed b`.
use Rattle.std.specs.Prelude.{ℕ, ◌+◌, ◌<◌, ◌≡◌, List, Ok, Err}
use Rattle.answer.specs.declared.Bad.{Bad}
use Rattle.gsb.specs.Walk.{count_of, next_at, offset_at, Verdict}

-- 01, "The guest state buffer": "The walk takes the next element": the judge finds it behind the one that is good
abbrev pub Leads : (ℕ → Verdict) → List ℕ → Type 0
Leads judge b = (at next : ℕ) → judge at ≡ Ok next → next ≡ next_at b at

-- "the first": element i is counted and bad, and each one before it is good
pub record FirstBadAt (judge : ℕ → Verdict) (b : List ℕ) (i : ℕ) (bad : Bad) : Type 0 where
  pub counted : i < count_of b
  pub faulty : judge (offset_at b i) ≡ Err bad
  pub before : (j : ℕ) → j < i → judge (offset_at b j) ≡ Ok (offset_at b (j + 1))

-- it holds no bad one: every counted element is good
abbrev pub AllGood : (ℕ → Verdict) → List ℕ → Type 0
AllGood judge b = (j : ℕ) → j < count_of b → judge (offset_at b j) ≡ Ok (offset_at b (j + 1))
