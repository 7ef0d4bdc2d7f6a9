-- 01, "Answers" and "The L1 cache": what a C caller sees of the cache's operations: R3, R4 and R5, and the lent memory that they may write.
use Rattle.std.specs.Prelude.{ℕ, List}
use Rattle.answer.specs.declared.Answer.{Answer}
use Rattle.answer.specs.declared.Call.{Call}
use Rattle.answer.specs.declared.Call.TheVariants.{CacheWrite, CacheRead, CacheRun}
use Rattle.answer.specs.declared.Registers.{Registers}
use Rattle.answer.specs.Answer.{told}
use Rattle.l1.specs.Marks.{Cache}
use Rattle.l1.specs.Cache.{WriteOutcome, ReadOutcome, RunOutcome}

-- the three numbers of an answer
abbrev pub tells : Call → Answer → Registers
tells c a = told c a.fault a.value

pub record Written : Type 0 where
  pub registers : Registers
  pub cache : Cache

abbrev pub writes : WriteOutcome → Written
writes o = record { registers = tells CacheWrite o.answer; cache = o.cache }

pub record Read : Type 0 where
  pub registers : Registers
  pub cache : Cache
  pub value : List ℕ

abbrev pub reads : ReadOutcome → Read
reads o = record { registers = tells CacheRead o.answer; cache = o.cache; value = o.value }

pub record Ran : Type 0 where
  pub registers : Registers
  pub store : List ℕ
  pub cache : Cache
  pub input : List ℕ
  pub output : List ℕ

abbrev pub runs : RunOutcome → Ran
runs o = record { registers = tells CacheRun o.answer; store = o.store; cache = o.cache; input = o.input; output = o.output }
