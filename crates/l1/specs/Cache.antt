-- 01, "The L1 cache": its write, read and run, each with its refusals in order.
use Rattle.std.specs.Prelude.{ℕ, zero, suc, ◌+◌, ◌≡◌, Bool, true, not, cond, List, [], ◌∷◌, ◌++◌, eqb, ltb, length}
use Rattle.octets.specs.Bytes.{bytes_at, put, zeros}
use Rattle.answer.specs.declared.Bad.TheVariants.{Id, Size}
use Rattle.answer.specs.declared.Place.{Place}
use Rattle.answer.specs.declared.Fault.{Fault}
use Rattle.answer.specs.declared.Fault.TheVariants.{Length, Element, Cache as CacheBad}
use Rattle.answer.specs.declared.Answer.{Answer}
use Rattle.answer.specs.declared.Call.TheVariants.{CacheRead}
use Rattle.answer.specs.Answer.{told, accepted}
use Rattle.answer.specs.Refusals.{first_of}
use Rattle.elements.specs.declared.Offer.{Offer}
use Rattle.elements.specs.Table.{number_of, thread_element}
use Rattle.elements.specs.Later.{offer_of}
use Rattle.gsb.specs.Walk.{count_of, id_at, offset_at}
use Rattle.gsb.specs.Message.{message}
use Rattle.store.specs.declared.Layout.{Layout}
use Rattle.transfer.specs.Transfer.{applied}
use Rattle.exits.specs.Exits.{element_of, valued}
use Rattle.admission.specs.Refusals.{Outcome, success, refusal}
use Rattle.state.specs.State.{get_state}
use Rattle.run.specs.Run.{run_target_tests, content_tests, run_vcpu}
use Rattle.l1.specs.Marks.{Cache, with_mark, valid, changed, is_input, is_readable, good_cache}

-- ---- "Write: 15; 5 for a value over 65,528 bytes; 6 ..; 7. It stores the value, valid and changed." "Place is 0."
abbrev pub place_zero : Place
place_zero = record { index = 0; offset = 0 }

-- 5, then 6 unless the ID is good for the operation, then 7
abbrev pub value_tests : Bool → ℕ → List ℕ → List (Bool × Fault)
value_tests good id v = (ltb 65528 (length v), Length) ∷ (not good, Element Id place_zero) ∷ (not (eqb (length v) (element_of id).size), Element Size place_zero) ∷ []

pub record WriteOutcome : Type 0 where
  pub answer : Answer
  pub cache : Cache

unfoldable pub change : Cache → ℕ → List ℕ → Cache
change c id v = record { values = put c.values (element_of id).position v; marks = with_mark (with_mark c.marks (number_of id)) (192 + number_of id) }

-- 02, L7: "Each cache call is told the PVR and goes by that list"
unfoldable pub write_cache : ℕ → Cache → ℕ → List ℕ → WriteOutcome
write_cache pvr c id v =
    first_of (λ f. record { answer = refusal f; cache = c })
    ((not (good_cache (offer_of pvr) c), CacheBad) ∷ value_tests (is_input (offer_of pvr) id) id v)
    (record { answer = success 0; cache = change c id v })

-- ---- "Read into a lent value buffer: 15, 5, 6 .., 7; then a valid element comes from the cache, else from get state with that answer,
-- and after 0 is stored as valid."
pub record ReadOutcome : Type 0 where
  pub answer : Answer
  pub cache : Cache
  pub value : List ℕ

unfoldable pub keep : Cache → ℕ → List ℕ → Cache
keep c id v = record { values = put c.values (element_of id).position v; marks = with_mark c.marks (number_of id) }

-- a buffer of one element, of which a refusal leaves the value as it was
abbrev pub one : ℕ → List ℕ → List ℕ
one id v = message ((id, v) ∷ [])

abbrev pub value_in : List ℕ → ℕ → List ℕ
value_in b size = bytes_at b 8 size

unfoldable pub fetched : Cache → ℕ → ℕ → Outcome → ReadOutcome
fetched c id size o = record { answer = o.answer; cache = cond (accepted (told CacheRead o.answer.fault o.answer.value)) (keep c id (value_in o.buffer size)) c; value = value_in o.buffer size }

unfoldable pub read_cache : Layout → List ℕ → ℕ → ℕ → ℕ → Cache → ℕ → List ℕ → ReadOutcome
read_cache l s guest vcpu pvr c id v =
    first_of (λ f. record { answer = refusal f; cache = c; value = v })
    ((not (good_cache (offer_of pvr) c), CacheBad) ∷ value_tests (is_readable (offer_of pvr) id) id v)
    (cond (valid c (number_of id))
    (record { answer = success 0; cache = c; value = bytes_at c.values (element_of id).position (element_of id).size })
    (fetched c id (length v) (get_state l s 0 guest vcpu (one id v))))

-- ---- "Run: 15, then a run's order; 12 with R4 0 also if the changed elements need more than the registered input. It writes a count
-- and them, in order of ID, to the input's first bytes, the rest untouched."
pub record RunOutcome : Type 0 where
  pub answer : Answer
  pub store : List ℕ
  pub cache : Cache
  pub input : List ℕ
  pub output : List ℕ

-- the IDs of the thread elements below n that have p, in order
unfoldable pub chosen : (ℕ → Bool) → ℕ → List ℕ
chosen p zero = []
chosen p (suc n) = chosen p n ++ cond (p n) ((thread_element n).id ∷ []) []

-- "All 164 changed": the thread elements that are permitted in a run input by a list
abbrev pub inputs : Offer → List ℕ
inputs o = chosen (λ e. is_input o (thread_element e).id) 170

-- "permitted in a run input", of the listed size: elements that a run takes, each its ID and its value
abbrev pub Fit : Offer → List (ℕ × List ℕ) → Type 0
Fit o [] = Unit {0}
Fit o (e ∷ es) = (is_input o e.0 ≡ true) × (length e.1 ≡ (element_of e.0).size) × Fit o es

abbrev pub pending : Cache → List (ℕ × List ℕ)
pending c = valued 0 c.values (chosen (changed c) 170)

-- "After success all marks clear, then the elements of the output become valid with its values": of n elements of the output b
unfoldable pub marked : List ℕ → List ℕ → ℕ → List ℕ
marked m b zero = m
marked m b (suc n) = with_mark (marked m b n) (number_of (id_at b (offset_at b n)))

unfoldable pub refreshed : Cache → List ℕ → Cache
refreshed c b = record { values = applied 0 b (count_of b) c.values; marks = marked (zeros 6) b (count_of b) }

unfoldable pub ran_with : Cache → List ℕ → Outcome → RunOutcome
ran_with c input o = record { answer = o.answer; store = o.store; cache = refreshed c o.buffer; input = input; output = o.buffer }

-- a run's tests, of the input that would be written: everything is judged before it is, by the guest's own list, which may be another than the
-- one that the call goes by
abbrev pub cached_tests : Layout → List ℕ → Cache → ℕ → ℕ → ℕ → ℕ → ℕ → List ℕ → ℕ → List (Bool × Fault)
cached_tests l s c flags guest vcpu inputLength output_length effect exit =
    run_target_tests l s flags guest vcpu (length (message (pending c))) inputLength output_length ++ content_tests l s guest (message (pending c)) effect exit

unfoldable pub run_cache : Layout → List ℕ → Cache → ℕ → ℕ → ℕ → ℕ → List ℕ → List ℕ → List ℕ → ℕ → RunOutcome
run_cache l s c flags guest vcpu pvr input output effect exit =
    first_of (λ f. record { answer = refusal f; store = s; cache = c; input = input; output = output })
    ((not (good_cache (offer_of pvr) c), CacheBad) ∷ cached_tests l s c flags guest vcpu (length input) (length output) effect exit)
    (ran_with c (put input 0 (message (pending c))) (run_vcpu l s flags guest vcpu (put input 0 (message (pending c))) output effect exit))
