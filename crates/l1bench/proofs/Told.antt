-- What an entry tells is what its operation left. Assumes nothing.
use mathlib.Core.Path.{◌≡◌, ap, ◌∙◌}
use mathlib.Core.List.{List}
use Prim.Native.Nat.{ℕ}
use Rattle.answer.specs.declared.Answer.{Answer}
use Rattle.answer.specs.declared.Call.TheVariants.{CacheWrite, CacheRead, CacheRun}
use Rattle.answer.specs.declared.Registers.{Registers}
use Rattle.l1.specs.Marks.{Cache}
use Rattle.l1.specs.Cache.{WriteOutcome, ReadOutcome, RunOutcome}
use Rattle.l1bench.specs.Entries.{tells, Written, writes, Read, reads, Ran, runs}

module _ (r : Registers) (a : Answer) (k : Cache) where
  pub told_written : (o : WriteOutcome) → ◌≡◌ {A = WriteOutcome} (record { answer = a; cache = k }) o → r ≡ tells CacheWrite a
      → ◌≡◌ {A = Written} (record { registers = r; cache = k }) (writes o)
  told_written o e h = ap (λ (x : Registers). record { registers = x; cache = k }) h ∙ ap writes e

  pub told_read : (v : List ℕ) (o : ReadOutcome) → ◌≡◌ {A = ReadOutcome} (record { answer = a; cache = k; value = v }) o → r ≡ tells CacheRead a
      → ◌≡◌ {A = Read} (record { registers = r; cache = k; value = v }) (reads o)
  told_read v o e h = ap (λ (x : Registers). record { registers = x; cache = k; value = v }) h ∙ ap reads e

  pub told_ran : (s i b : List ℕ) (o : RunOutcome) → ◌≡◌ {A = RunOutcome} (record { answer = a; store = s; cache = k; input = i; output = b }) o → r ≡ tells CacheRun a
      → ◌≡◌ {A = Ran} (record { registers = r; store = s; cache = k; input = i; output = b }) (runs o)
  told_ran s i b o e h = ap (λ (x : Registers). record { registers = x; store = s; cache = k; input = i; output = b }) h ∙ ap runs e
