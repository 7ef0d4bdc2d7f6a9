-- Demand 1: "A refused call leaves all lent memory as it found it." Of the cache's write, read and run.
use Rattle.std.specs.Prelude.{◌≡◌, List, ℕ}
use Rattle.answer.specs.declared.Call.TheVariants.{CacheWrite, CacheRead, CacheRun}
use Rattle.promises.specs.Promised.{NotAccepted}
use Rattle.l1.specs.Marks.{Cache}
use Rattle.l1.specs.Cache.{WriteOutcome, ReadOutcome, RunOutcome}

-- a write, which is lent the cache alone
pub record Unwritten (c : Cache) (r : WriteOutcome) : Type 0 where
  pub cache : NotAccepted CacheWrite r.answer → r.cache ≡ c

-- a read into the value buffer v
pub record Unread (c : Cache) (v : List ℕ) (r : ReadOutcome) : Type 0 where
  pub cache : NotAccepted CacheRead r.answer → r.cache ≡ c
  pub value : NotAccepted CacheRead r.answer → r.value ≡ v

-- a run on the store s, lent the input and the output
pub record Unrun (s : List ℕ) (c : Cache) (lentIn lentOut : List ℕ) (r : RunOutcome) : Type 0 where
  pub store : NotAccepted CacheRun r.answer → r.store ≡ s
  pub cache : NotAccepted CacheRun r.answer → r.cache ≡ c
  pub input : NotAccepted CacheRun r.answer → r.input ≡ lentIn
  pub output : NotAccepted CacheRun r.answer → r.output ≡ lentOut
