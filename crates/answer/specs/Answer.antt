-- 01, "Answers": R3, R4 and R5 of each fault, laid out like its table.
use Rattle.std.specs.Prelude.{ℕ, Bool, eqb, Result, Ok, Err}
use Rattle.answer.specs.declared.Bad.{Bad}
use Rattle.answer.specs.declared.Bad.TheVariants.{Id, Size, Value}
use Rattle.answer.specs.declared.Place.{Place}
use Rattle.answer.specs.declared.RunBuffer.{RunBuffer}
use Rattle.answer.specs.declared.RunBuffer.TheVariants.{Input, Output}
use Rattle.answer.specs.declared.Fault.{Fault}
use Rattle.answer.specs.declared.Fault.TheVariants.{None, Store, Flag, Guest, Token, Capability, Vcpu, Length, Element, Room, Exists, Unregistered, Short, Exit, Effect, Cache, Taken, Form, Records, Record, Missing, InUse}
use Rattle.answer.specs.declared.Answer.{Answer}
use Rattle.answer.specs.declared.Call.{Call}
use Rattle.answer.specs.declared.Call.TheVariants.{FreshStore, GetCapabilities, SetCapabilities, CreateGuest, CreateVcpu, GetState, SetState, RunVcpu, DeleteGuest, GuestClock, Convert, Lookup, Join, WriteRecord, JudgeOutput, CacheWrite, CacheRead, CacheRun}
use Rattle.answer.specs.declared.Shown.{Shown}
use Rattle.answer.specs.declared.Registers.{Registers}

-- "The answer carries the kind of fault": "0 | success" with what it tells, or the fault that a call met
abbrev pub answer_of : Result ℕ Fault → Answer
answer_of (Ok value) = record { fault = None; value = value }
answer_of (Err fault) = record { fault = fault; value = 0 }

-- the row "6 / 7 / 8", "invalid element ID / size / value"
abbrev pub bad_number : Bad → ℕ
bad_number Id = 6
bad_number Size = 7
bad_number Value = 8

-- "0 input, 1 output"
abbrev pub buffer_number : RunBuffer → ℕ
buffer_number Input = 0
buffer_number Output = 1

-- 02, L4: "Set and get state, and a lookup's 7, keep R4 as the index and put the byte offset in R5;"
abbrev pub index_first : Place → Shown
index_first p = record { r4 = p.index; r5 = p.offset }

-- "run keeps the offset in R4 and puts the index in R5, in 14 too (both 0 if the effect's length is bad)."
abbrev pub offset_first : Place → Shown
offset_first p = record { r4 = p.offset; r5 = p.index }

-- "A cache write or read, whose faults have no buffer, has 0 in both."
abbrev pub no_place : Shown
no_place = record { r4 = 0; r5 = 0 }

-- which of them is which call's: a cache's run is a run, and the calls without a buffer have no place either. 02, L8: of a join "with its index
-- and offset"; L10: of a vendor's output "with index and offset"
abbrev pub place_shown : Call → Place → Shown
place_shown FreshStore p = no_place
place_shown GetCapabilities p = no_place
place_shown SetCapabilities p = no_place
place_shown CreateGuest p = no_place
place_shown CreateVcpu p = no_place
place_shown GetState p = index_first p
place_shown SetState p = index_first p
place_shown RunVcpu p = offset_first p
place_shown DeleteGuest p = no_place
place_shown GuestClock p = no_place
place_shown Convert p = no_place
place_shown Lookup p = index_first p
place_shown Join p = index_first p
place_shown WriteRecord p = no_place
place_shown JudgeOutput p = index_first p
place_shown CacheWrite p = no_place
place_shown CacheRead p = no_place
place_shown CacheRun p = offset_first p

abbrev pub three : ℕ → ℕ → ℕ → Registers
three a b c = record { r3 = a; r4 = b; r5 = c }

abbrev pub with_place : ℕ → Shown → Registers
with_place n p = three n p.r4 p.r5

-- The table, row for row; v is what a success tells. "R4 and R5 are 0 where nothing is said." Behind 15 stand the rows of 02: L1's "16 in get,
-- set and run", "17 after 5", L5's "18 when other than sixteen records are lent", L9's "19 with the byte offset of the first record that is cut or
-- has another kind or nonzero padding", L10's "20 with R4 the smallest missing ID", and L12's "21 after 3".
abbrev pub told : Call → Fault → ℕ → Registers
told c None v = three 0 v 0
told c Store v = three 1 0 0
told c (Flag bit) v = three 2 bit 0
told c Guest v = three 3 0 0
told c Token v = three 3 0 0
told c Capability v = three 3 1 0
told c Vcpu v = three 4 0 0
told c Length v = three 5 0 0
told c (Element bad place) v = with_place (bad_number bad) (place_shown c place)
told c Room v = three 9 0 0
told c Exists v = three 10 0 0
told c (Unregistered buffer) v = three 11 (buffer_number buffer) 0
told c (Short buffer) v = three 12 (buffer_number buffer) 0
told c Exit v = three 13 0 0
told c (Effect place) v = with_place 14 (place_shown c place)
told c Cache v = three 15 0 0
told c Taken v = three 16 0 0
told c Form v = three 17 0 0
told c Records v = three 18 0 0
told c (Record offset) v = three 19 offset 0
told c (Missing id) v = three 20 id 0
told c InUse v = three 21 0 0

-- 01, "The L1 cache": "Accepted: R3 is 0."
abbrev pub accepted : Registers → Bool
accepted r = eqb r.r3 0
