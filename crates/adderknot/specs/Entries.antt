-- 01, "Answers": what a C caller sees of a call: R3, R4 and R5, and the lent memory that it may write.
use Rattle.std.specs.Prelude.{ℕ, List, Result, Ok, Err}
use Rattle.answer.specs.declared.Call.{Call}
use Rattle.answer.specs.declared.Call.TheVariants.{Lookup, Join, WriteRecord}
use Rattle.answer.specs.declared.Fault.{Fault}
use Rattle.answer.specs.declared.Fault.TheVariants.{None}
use Rattle.answer.specs.declared.Registers.{Registers}
use Rattle.answer.specs.Answer.{told}
use Rattle.gsb.specs.declared.lookups.Found.{Found as Looked}
use Rattle.gsb.specs.Join.{Joining}
use Rattle.admission.specs.Refusals.{Outcome}
use Rattle.l0.specs.Numbered.{Called, kind_name}
use Rattle.records.specs.Write.{Written}
use Rattle.adderknot.specs.declared.Found.{Found}

pub record Left : Type 0 where
  pub registers : Registers
  pub store : List ℕ

-- the three numbers of an outcome's answer
abbrev pub tells : Call → Outcome → Registers
tells c o = told c o.answer.fault o.answer.value

abbrev pub leaves : Call → Outcome → Left
leaves c o = record { registers = tells c o; store = o.store }

-- of get state and run, which write a buffer too
pub record Filled : Type 0 where
  pub registers : Registers
  pub store : List ℕ
  pub buffer : List ℕ

abbrev pub fills : Call → Outcome → Filled
fills c o = record { registers = tells c o; store = o.store; buffer = o.buffer }

-- 02, L9: of a call by its number, which is lent two pieces to be written; told by the name of its kind
pub record Made : Type 0 where
  pub registers : Registers
  pub store : List ℕ
  pub «data» : List ℕ
  pub output : List ℕ

abbrev pub makes : ℕ → Called → Made
makes kind c = record {
  registers = told (kind_name kind) c.answer.fault c.answer.value;
  store = c.store;
  «data» = c.«data»;
  output = c.output;
}

-- a lookup's answer and where the part lies. 01, "The guest state buffer": "A refusal gives back an empty part."
abbrev pub found_at : Result Looked Fault → Found
found_at (Ok part) = record {
  r3 = (told Lookup None 0).r3;
  r4 = (told Lookup None 0).r4;
  r5 = (told Lookup None 0).r5;
  at = part.at;
  len = part.len;
}
found_at (Err fault) = record {
  r3 = (told Lookup fault 0).r3;
  r4 = (told Lookup fault 0).r4;
  r5 = (told Lookup fault 0).r5;
  at = 0;
  len = 0;
}

-- of a join and of a record's writing, which are lent no store: the result
pub record Wrote : Type 0 where
  pub registers : Registers
  pub result : List ℕ

abbrev pub writes : Joining → Wrote
writes j = record { registers = told Join j.answer.fault j.answer.value; result = j.result }

abbrev pub writes_record : Written → Wrote
writes_record w = record { registers = told WriteRecord w.answer.fault w.answer.value; result = w.bytes }
