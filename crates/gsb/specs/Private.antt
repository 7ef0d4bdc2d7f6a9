-- Names that only the contracts of private functions use.
use Rattle.std.specs.Prelude.{ℕ, ◌+◌, ◌-◌, ◌*◌, ◌≤◌, ◌≡◌, cond, List, [], ◌∷◌, ltb, length, Option, None, Some, Result, Ok, Err}
use Rattle.octets.specs.Bytes.{put}
use Rattle.answer.specs.declared.Place.{Place}
use Rattle.answer.specs.declared.RunBuffer.TheVariants.{Output}
use Rattle.answer.specs.declared.Fault.{Fault}
use Rattle.answer.specs.declared.Fault.TheVariants.{Length, Short}
use Rattle.answer.specs.Refusals.{first_of}
use Rattle.elements.specs.declared.Offer.{Offer}
use Rattle.rules.specs.declared.Usage.{Usage}
use Rattle.rules.specs.declared.Context.{Context}
use Rattle.rules.specs.Private.{of_thread}
use Rattle.gsb.specs.declared.BadElement.{BadElement}
use Rattle.gsb.specs.Walk.{count_of, judged, walk, Verdict, Walked}
use Rattle.gsb.specs.Join.{end_of, cut_of, Joining, unjoined}

-- how far elements are judged by one number: to the end, where the use is about a vCPU
abbrev pub reach_of : Usage → List ℕ → ℕ
reach_of usage b = cond (of_thread usage) (length b) 0

-- the contexts with this reach and this list
abbrev pub Reaches : ℕ → Offer → List ℕ → Context → Type 0
Reaches room offer b k = (room ≡ reach_of k.usage b) × (k.offer ≡ offer)

-- a verdict that may be the element's, in each such context; `None` says nothing
abbrev pub QuickVerdict : Option ℕ → ℕ → Offer → List ℕ → ℕ → Type 0
QuickVerdict (Some next) room offer b at = (next ≤ length b) × ((k : Context) → Reaches room offer b k → Ok next ≡ judged k b at)
QuickVerdict None room offer b at = Unit {0}

-- from one place to another of the same walk, in each such context
pub record Skipped (b : List ℕ) (count room : ℕ) (offer : Offer) (from to : Place) : Type 0 where
  pub onward : from.index ≤ to.index
  pub upto : to.index ≤ count
  pub inside : to.offset ≤ length b
  pub same : (k : Context) → Reaches room offer b k
      → walk (judged k b) (count - from.index) from.index from.offset ≡ walk (judged k b) (count - to.index) to.index to.offset

-- an element's verdict, with its place
abbrev pub placed : Verdict → ℕ → ℕ → Result ℕ BadElement
placed (Ok next) index offset = Ok next
placed (Err bad) index offset = Err (record { bad = bad; place = record { index = index; offset = offset } })

-- ---- 02, L8: two buffers joined
-- where the counted elements end, or the first that is cut
unfoldable pub extent_is : Walked → ℕ → Result ℕ BadElement
extent_is (Ok _) end = Ok end
extent_is (Err stop) end = Err stop

unfoldable pub extent_of : List ℕ → Result ℕ BadElement
extent_of b = extent_is (cut_of b) (end_of b)

-- an end that was reached lies inside, past as many headers as are counted
abbrev pub Room : Result ℕ BadElement → List ℕ → Type 0
Room (Ok end) b = (4 + 4 * count_of b ≤ end) × (end ≤ length b)
Room (Err stop) b = Unit {0}

-- a buffer of a good length, whose counted elements end at m
pub record Measured (b : List ℕ) (m : ℕ) : Type 0 where
  pub end : m ≡ end_of b
  pub headers : 4 + 4 * count_of b ≤ m
  pub inside : m ≤ length b
  pub short : length b ≤ 65536

-- past the tests of the two buffers: j is the joined one, r the lent result
unfoldable pub settled : List ℕ → List ℕ → Joining
settled j r =
    first_of (unjoined r) ((ltb 65536 (length j), Length) ∷ (ltb (length r) (length j), Short Output) ∷ [])
    (record { answer = record { fault = Fault.None; value = length j }; result = put r 0 j })
