-- 02, L5: "From a fresh store and records of new vCPUs, where only the layer writes, they must equal what the history of calls since the vCPU's
-- creation gives." What a history gives is said of its calls and their answers alone: of no store, no slot and no record.
use Rattle.std.specs.Prelude.{ℕ, ◌+◌, ◌-◌, ◌^◌, ◌≤◌, ◌<◌, ◌≡◌, ◌≢◌, Bool, false, not, ◌&&◌, cond, List, [], ◌∷◌, ◌++◌, leb, eqb, length, get_or, replicate}
use Rattle.std.proofs.Math.Option.{Option, none, some}
use Rattle.octets.specs.Bytes.{digits, zeros}
use Rattle.answer.specs.Answer.{three, told}
use Rattle.answer.specs.declared.Fault.TheVariants.{Records}
use Rattle.store.specs.declared.Layout.{Layout}
use Rattle.store.specs.Layout.{layout_of}
use Rattle.store.specs.Header.{header, word}
use Rattle.store.specs.Store.{fresh}
use Rattle.admission.specs.Refusals.{refusal, has_bit0, hands_over}
use Rattle.admission.specs.Target.{slot_named}
use Rattle.l0.specs.Calls.{Call, GetCapabilities, SetCapabilities, CreateGuest, CreateVcpu, GetState, SetState, RunVcpu, DeleteGuest, GuestClock}
use Rattle.l0.specs.Numbered.{CallRecord, call_of, kind_name}
use Rattle.tally.specs.declared.Summary.{Summary}
use Rattle.tally.specs.Tally.{new_record, all_set, Tallied, r3_of, tallied}
use Rattle.promises.specs.History.{deletes}
use Rattle.promises.specs.Edges.{element, buffer_of, one}

-- ---- what a history gives
-- a call and R3 of its answer; of another kind than the eight there is no call
pub record Entry : Type 0 where
  pub call : Option Call
  pub r3 : ℕ

-- what is counted of a vCPU since its creation, without an end
pub record Sums : Type 0 where
  pub runs : ℕ
  pub elements : ℕ
  pub refusals : ℕ
  pub exit : ℕ

-- "4,095 before any"
abbrev pub no_calls : Sums
no_calls = record { runs = 0; elements = 0; refusals = 0; exit = 4095 }

-- "elements set by set state or run input (each time; no NOPs ..)": n more
abbrev pub add_elements : ℕ → Sums → Sums
add_elements n x = record { runs = x.runs; elements = x.elements + n; refusals = x.refusals; exit = x.exit }

-- "accepted runs", and "the last accepted run's exit reason"
abbrev pub add_run : ℕ → ℕ → Sums → Sums
add_run n exit x = record { runs = x.runs + 1; elements = x.elements + n; refusals = x.refusals; exit = exit }

abbrev pub add_refusal : Sums → Sums
add_refusal x = record { runs = x.runs; elements = x.elements; refusals = x.refusals + 1; exit = x.exit }

-- "refusals 6 to 8"
abbrev pub is_six_to_eight : ℕ → Bool
is_six_to_eight r3 = leb 6 r3 && leb r3 8

abbrev pub perhaps_refused : ℕ → Sums → Sums
perhaps_refused r3 x = cond (is_six_to_eight r3) (add_refusal x) x

-- get, set and run of the vCPU, answered r3. "guest-wide calls never count", and "no handing back"
abbrev pub after_get : ℕ → ℕ → Sums → Sums
after_get flags r3 x = cond (has_bit0 flags) x (perhaps_refused r3 x)

abbrev pub after_set : ℕ → List ℕ → ℕ → Sums → Sums
after_set flags buffer r3 x = cond (has_bit0 flags) x (cond (eqb r3 0) (cond (hands_over flags) x (add_elements (all_set buffer) x)) (perhaps_refused r3 x))

-- The input is what was lent. 01: "The input is the first bytes of the lent one, as many as registered": of an accepted run every counted element
-- lies in those, so that how many are registered need not be known.
abbrev pub after_run : List ℕ → ℕ → ℕ → Sums → Sums
after_run input exit r3 x = cond (eqb r3 0) (add_run (all_set input) exit x) (perhaps_refused r3 x)

-- whether vCPU v of guest g is the one that a call names
abbrev pub is_named : ℕ → ℕ → ℕ → ℕ → Bool
is_named g v guest vcpu = eqb g guest && eqb v vcpu

-- to the sums of a vCPU that there is
abbrev pub added : (Sums → Sums) → Option Sums → Option Sums
added f none = none
added f (some x) = some (f x)

-- a call that names a vCPU counts of that one alone
abbrev pub of_named : ℕ → ℕ → ℕ → ℕ → (Sums → Sums) → Option Sums → Option Sums
of_named g v guest vcpu f x = cond (is_named g v guest vcpu) (added f x) x

-- One call more: what is counted of vCPU v of guest g, which is nothing while there is none. "since the vCPU's creation": an accepted create
-- begins, and an accepted delete that drops it ends.
abbrev pub after_call : ℕ → ℕ → Call → ℕ → Option Sums → Option Sums
after_call g v (GetCapabilities flags) r3 x = x
after_call g v (SetCapabilities flags bitmap) r3 x = x
after_call g v (CreateGuest flags token) r3 x = x
after_call g v (CreateVcpu flags guest vcpu) r3 x = cond (eqb r3 0 && is_named g v guest vcpu) (some no_calls) x
after_call g v (GetState flags guest vcpu buffer) r3 x = of_named g v guest vcpu (after_get flags r3) x
after_call g v (SetState flags guest vcpu buffer) r3 x = of_named g v guest vcpu (after_set flags buffer r3) x
after_call g v (RunVcpu flags guest vcpu input output effect exit) r3 x = of_named g v guest vcpu (after_run input exit r3) x
after_call g v (DeleteGuest flags guest) r3 x = cond (eqb r3 0 && deletes flags guest g) none x
after_call g v (GuestClock guest timebase) r3 x = x

abbrev pub after_entry : ℕ → ℕ → Option Call → ℕ → Option Sums → Option Sums
after_entry g v none r3 x = x
after_entry g v (some c) r3 x = after_call g v c r3 x

unfoldable pub summed_over : ℕ → ℕ → Option Sums → List Entry → Option Sums
summed_over g v x [] = x
summed_over g v x (e ∷ es) = summed_over g v (after_entry g v e.call e.r3 x) es

-- "A counter at 2^32-1 stays there, and the definition says so."
abbrev pub stopping : ℕ → ℕ
stopping n = cond (leb n (2 ^ 32 - 1)) n (2 ^ 32 - 1)

abbrev pub record_of : Sums → Summary
record_of x = record { runs = stopping x.runs; elements = stopping x.elements; refusals = stopping x.refusals; exit_reason = x.exit }

abbrev pub shown : Option Sums → Option Summary
shown none = none
shown (some x) = some (record_of x)

-- the record of vCPU v of guest g
unfoldable pub history_gives : ℕ → ℕ → List Entry → Option Summary
history_gives g v es = shown (summed_over g v none es)

-- ---- calls made through the layer, each with the output that is lent to it
pub record Night : Type 0 where
  pub store : List ℕ
  pub records : List Summary
  pub entries : List Entry

abbrev pub before : Entry → Night → Night
before e n = record { store = n.store; records = n.records; entries = e ∷ n.entries }

abbrev pub entry_of : CallRecord → List ℕ → Tallied → Entry
entry_of r output o = record { call = call_of r output; r3 = r3_of r.kind o.answer }

-- from the store s and the records ts on: "where only the layer writes"
unfoldable pub night_from : Layout → List ℕ → List Summary → List (CallRecord × List ℕ) → Night
night_from l s ts [] = record { store = s; records = ts; entries = [] }
night_from l s ts (x ∷ xs) =
    before (entry_of x.0 x.1 (tallied l ts s x.0 x.1))
    (night_from l (tallied l ts s x.0 x.1).store (tallied l ts s x.0 x.1).records xs)

-- "From a fresh store and records of new vCPUs"
abbrev pub night_of : Layout → List (CallRecord × List ℕ) → Night
night_of l xs = night_from l (fresh l) (replicate l.slots new_record) xs

-- the same as `tally` makes it: each call meets the layout that the length of its own store tells
unfoldable pub night_made : List ℕ → List Summary → List (CallRecord × List ℕ) → Night
night_made s ts [] = record { store = s; records = ts; entries = [] }
night_made s ts (x ∷ xs) =
    before (entry_of x.0 x.1 (tallied (layout_of s) ts s x.0 x.1))
    (night_made (tallied (layout_of s) ts s x.0 x.1).store (tallied (layout_of s) ts s x.0 x.1).records xs)

-- "they must equal what the history of calls since the vCPU's creation gives"
pub record TallyHistory (l : Layout) (n : Night) : Type 0 where
  -- "one for each slot"
  pub number : length n.records ≡ l.slots
  -- the record of the slot that a vCPU has
  pub held : (g v : ℕ) → slot_named l n.store g v < l.slots → history_gives g v n.entries ≡ some (get_or n.records (slot_named l n.store g v) new_record)
  -- every slot that is used is some vCPU's; the others' records are new ones
  pub used : (a : ℕ) → a < l.slots → word l (header l n.store) a ≢ 0 → (g : ℕ) × (v : ℕ) × (slot_named l n.store g v ≡ a)
  pub free : (a : ℕ) → a < l.slots → word l (header l n.store) a ≡ 0 → get_or n.records a new_record ≡ new_record
  -- of a vCPU that has no slot the history gives none
  pub gone : (g v : ℕ) → l.slots ≤ slot_named l n.store g v → history_gives g v n.entries ≡ none

-- ---- Demand 1: "A refused call leaves all lent memory as it found it." "Refusals 6 to 8 write them, so demand 1's last sentence leaves them out."
-- "of get, set and run (guest-wide calls never count)": these refusals alone
abbrev pub is_told : Call → ℕ → Bool
is_told (GetCapabilities flags) r3 = false
is_told (SetCapabilities flags bitmap) r3 = false
is_told (CreateGuest flags token) r3 = false
is_told (CreateVcpu flags guest vcpu) r3 = false
is_told (GetState flags guest vcpu buffer) r3 = not (has_bit0 flags) && is_six_to_eight r3
is_told (SetState flags guest vcpu buffer) r3 = not (has_bit0 flags) && is_six_to_eight r3
is_told (RunVcpu flags guest vcpu input output effect exit) r3 = is_six_to_eight r3
is_told (DeleteGuest flags guest) r3 = false
is_told (GuestClock guest timebase) r3 = false

abbrev pub writes_record : Option Call → ℕ → Bool
writes_record none r3 = false
writes_record (some c) r3 = is_told c r3

-- o is what the layer leaves, whatever number of records is lent
pub record LayerUnchanged (ts : List Summary) (s : List ℕ) (r : CallRecord) (u : List ℕ) (o : Tallied) : Type 0 where
  pub store : r3_of r.kind o.answer ≢ 0 → o.store ≡ s
  pub «data» : r3_of r.kind o.answer ≢ 0 → o.«data» ≡ r.«data»
  pub output : r3_of r.kind o.answer ≢ 0 → o.output ≡ u
  pub records : r3_of r.kind o.answer ≢ 0 → writes_record (call_of r u) (r3_of r.kind o.answer) ≡ false → o.records ≡ ts

-- "18 when other than sixteen records are lent, before all others": R3 is 18, and nothing is written
pub record Eighteen (ts : List Summary) (s : List ℕ) (r : CallRecord) (u : List ℕ) (o : Tallied) : Type 0 where
  pub told_so : told (kind_name r.kind) o.answer.fault o.answer.value ≡ three 18 0 0
  pub kept : o ≡ record { answer = refusal Records; store = s; «data» = r.«data»; output = u; records = ts }

-- ---- a worked case, in which each counter moves
-- flags and exit reason 0, an empty effect, and 124 bytes of output
abbrev pub call_made : ℕ → ℕ → ℕ → List ℕ → CallRecord × List ℕ
call_made kind guest number b = (record { kind = kind; flags = 0; guest = guest; number = number; exit = 0; «data» = b; effect = digits 4 0 }, zeros 124)

-- vCPU 3 of guest 1 is created; a set registers its run buffers, with a NOP between them; a get of a guest-wide ID has 6; a run's input holds one
-- register, and more bytes are lent than the 28 that are registered
unfoldable pub one_night : List (CallRecord × List ℕ)
one_night =
    call_made 3 0 (2 ^ 64 - 1) []
    ∷ call_made 4 1 3 []
    ∷ call_made 6 1 3 (buffer_of 3 (element 0x0C00 16 28 ++ element 0x0000 2 7 ++ element 0x0C01 16 124))
    ∷ call_made 5 1 3 (one 0x0001 8 0)
    ∷ call_made 7 1 3 (one 0x1000 8 5 ++ zeros 16)
    ∷ []

-- its record: the NOP is not counted
abbrev pub of_one_night : Summary
of_one_night = record { runs = 1; elements = 3; refusals = 1; exit_reason = 0 }
