-- 02, L5: "Sixteen summary records, one for each slot, lent together"; "They are updated by a layer above the eight calls."
use Rattle.std.specs.Prelude.{ℕ, zero, suc, ◌+◌, ◌-◌, ◌^◌, Bool, false, ◌&&◌, cond, List, [], ◌∷◌, leb, eqb, length}
use Rattle.std.proofs.Math.Option.{Option, none, some}
use Rattle.answer.specs.declared.Answer.{Answer}
use Rattle.answer.specs.declared.Fault.TheVariants.{Records}
use Rattle.answer.specs.declared.Registers.{Registers}
use Rattle.answer.specs.Answer.{told}
use Rattle.gsb.specs.Walk.{count_of, id_at, offset_at}
use Rattle.store.specs.declared.Layout.{Layout}
use Rattle.store.specs.Header.{header, word, guest_of, lacks, free_slot}
use Rattle.admission.specs.Refusals.{refusal, has_bit0, hands_over}
use Rattle.admission.specs.Target.{slot_named, base_of}
use Rattle.run.specs.Run.{input_of}
use Rattle.l0.specs.Calls.{Call, GetCapabilities, SetCapabilities, CreateGuest, CreateVcpu, GetState, SetState, RunVcpu, DeleteGuest, GuestClock}
use Rattle.l0.specs.Numbered.{CallRecord, Called, call_of, called, kind_name}
use Rattle.tally.specs.declared.Summary.{Summary}
use Rattle.tally.specs.declared.Change.{Change}
use Rattle.tally.specs.declared.Change.TheVariants.{Nothing, Renewed, Set, Ran, Refused}

-- a new vCPU's record: nothing is counted yet, and of the exit reason "4,095 before any"
abbrev pub new_record : Summary
new_record = record { runs = 0; elements = 0; refusals = 0; exit_reason = 4095 }

-- "A counter at 2^32-1 stays there"
unfoldable pub plus : ℕ → ℕ → ℕ
plus n k = cond (leb (n + k) (2 ^ 32 - 1)) (n + k) (2 ^ 32 - 1)

-- What a call makes of a record: "accepted runs, elements set by set state or run input .., refusals 6 to 8 .., and the last accepted run's exit
-- reason"; "creating or dropping a vCPU makes its record a new one's"
abbrev pub changed : Change → Summary → Summary
changed Nothing t = t
changed Renewed t = new_record
changed (Set n) t = record { runs = t.runs; elements = plus t.elements n; refusals = t.refusals; exit_reason = t.exit_reason }
changed (Ran n exit) t = record { runs = plus t.runs 1; elements = plus t.elements n; refusals = t.refusals; exit_reason = exit }
changed Refused t = record { runs = t.runs; elements = t.elements; refusals = plus t.refusals 1; exit_reason = t.exit_reason }

-- "elements set .. (each time; no NOPs ..)": of the first n elements of b. 01: "ID 0x0000 is the NOP"
unfoldable pub elements_set : List ℕ → ℕ → ℕ
elements_set b zero = 0
elements_set b (suc n) = elements_set b n + cond (eqb (id_at b (offset_at b n)) 0x0000) 0 1

-- all that are counted
abbrev pub all_set : List ℕ → ℕ
all_set b = elements_set b (count_of b)

-- "refusals 6 to 8 of get, set and run": R3 tells one
abbrev pub refused_by : ℕ → Change
refused_by r3 = cond (leb 6 r3 && leb r3 8) Refused Nothing

-- of a call that is accepted, and else
abbrev pub on_success : ℕ → Change → Change → Change
on_success r3 c d = cond (eqb r3 0) c d

-- What a call that met the store s and was answered r3 makes of the records that it touches: "elements set by set state or run input (.. no
-- handing back)", "guest-wide calls never count". 01: "The input is the first bytes of the lent one, as many as registered."
abbrev pub change_by : Layout → List ℕ → Call → ℕ → Change
change_by l s (GetCapabilities flags) r3 = Nothing
change_by l s (SetCapabilities flags bitmap) r3 = Nothing
change_by l s (CreateGuest flags token) r3 = Nothing
change_by l s (CreateVcpu flags guest vcpu) r3 = on_success r3 Renewed Nothing
change_by l s (GetState flags guest vcpu buffer) r3 = cond (has_bit0 flags) Nothing (refused_by r3)
change_by l s (SetState flags guest vcpu buffer) r3 =
    cond (has_bit0 flags) Nothing (on_success r3 (cond (hands_over flags) Nothing (Set (all_set buffer))) (refused_by r3))
change_by l s (RunVcpu flags guest vcpu input output effect exit) r3 =
    on_success r3 (Ran (all_set (input_of s (base_of l s false guest vcpu) input)) exit) (refused_by r3)
change_by l s (DeleteGuest flags guest) r3 = on_success r3 Renewed Nothing
change_by l s (GuestClock guest timebase) r3 = Nothing

-- a delete with bit 0 drops every used slot, any other those of its guest
abbrev pub dropped : Layout → List ℕ → ℕ → ℕ → ℕ → Bool
dropped l s flags guest a = cond (has_bit0 flags) (lacks l (header l s) 0 a) (eqb (guest_of l (word l (header l s) a)) guest)

-- "one for each slot": whether slot a's is touched. A created vCPU's is the lowest free slot.
abbrev pub touches : Layout → List ℕ → Call → ℕ → Bool
touches l s (GetCapabilities flags) a = false
touches l s (SetCapabilities flags bitmap) a = false
touches l s (CreateGuest flags token) a = false
touches l s (CreateVcpu flags guest vcpu) a = eqb a (free_slot l (header l s))
touches l s (GetState flags guest vcpu buffer) a = eqb a (slot_named l s guest vcpu)
touches l s (SetState flags guest vcpu buffer) a = eqb a (slot_named l s guest vcpu)
touches l s (RunVcpu flags guest vcpu input output effect exit) a = eqb a (slot_named l s guest vcpu)
touches l s (DeleteGuest flags guest) a = dropped l s flags guest a
touches l s (GuestClock guest timebase) a = false

-- the records from slot a on, where those of the slots that p names are changed by c, and every other one stays
unfoldable pub noted : (ℕ → Bool) → Change → ℕ → List Summary → List Summary
noted p c a [] = []
noted p c a (t ∷ ts) = cond (p a) (changed c t) t ∷ noted p c (a + 1) ts

-- all of them, after a call that met the store s and was answered r3; another kind is no call
abbrev pub noted_by : Layout → List ℕ → Option Call → ℕ → List Summary → List Summary
noted_by l s none r3 ts = ts
noted_by l s (some c) r3 ts = noted (touches l s c) (change_by l s c r3) 0 ts

-- what the layer leaves: `Called`, and the records
pub record Tallied : Type 0 where
  pub answer : Answer
  pub store : List ℕ
  pub «data» : List ℕ
  pub output : List ℕ
  pub records : List Summary

abbrev pub beside : Called → List Summary → Tallied
beside o ts = record { answer = o.answer; store = o.store; «data» = o.«data»; output = o.output; records = ts }

-- what the layer tells, as R3, R4 and R5 of the kind's name, and leaves; 18 is told alike by every name
pub record Noted : Type 0 where
  pub registers : Registers
  pub store : List ℕ
  pub «data» : List ℕ
  pub output : List ℕ
  pub records : List Summary

abbrev pub told_by : ℕ → Answer → Registers
told_by kind a = told (kind_name kind) a.fault a.value

abbrev pub notes : ℕ → Tallied → Noted
notes kind o = record { registers = told_by kind o.answer; store = o.store; «data» = o.«data»; output = o.output; records = o.records }

abbrev pub r3_of : ℕ → Answer → ℕ
r3_of kind a = (told (kind_name kind) a.fault a.value).r3

-- the call itself, with as many records as there are slots
abbrev pub counted : Layout → List Summary → List ℕ → CallRecord → List ℕ → Tallied
counted l ts s r output = beside (called l s r output) (noted_by l s (call_of r output) (r3_of r.kind (called l s r output).answer) ts)

-- "18 when other than sixteen records are lent, before all others", L6: "L5's tally takes 64 records for it, else 16"; then nothing is written
unfoldable pub tallied : Layout → List Summary → List ℕ → CallRecord → List ℕ → Tallied
tallied l ts s r output =
    cond (eqb (length ts) l.slots) (counted l ts s r output)
    (record { answer = refusal Records; store = s; «data» = r.«data»; output = output; records = ts })
