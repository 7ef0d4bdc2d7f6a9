-- Names that only the contracts of private functions use.
use Rattle.std.specs.Prelude.{ℕ, zero, suc, ◌+◌, ◌*◌, ◌/◌, ◌%◌, ◌^◌, ◌≤◌, ◌<◌, ◌≡◌, ◌≢◌, Bool, cond, List, [], ◌∷◌, ltb, eqb, length, get_or}
use Rattle.gsb.specs.Walk.{count_of, id_at, next_at}
use Rattle.store.specs.declared.Layout.{Layout}
use Rattle.store.specs.Layout.{slot_at}
use Rattle.store.specs.Header.{header, free_slot}
use Rattle.admission.specs.Refusals.{has_bit0, hands_over}
use Rattle.admission.specs.Target.{slot_named}
use Rattle.run.specs.Run.{input_size}
use Rattle.l0.specs.Numbered.{CallRecord}
use Rattle.tally.specs.declared.Summary.{Summary}
use Rattle.tally.specs.declared.Change.{Change}
use Rattle.tally.specs.declared.Change.TheVariants.{Nothing, Renewed, Set, Ran}
use Rattle.tally.specs.declared.Touched.{Touched}
use Rattle.tally.specs.declared.Served.{Served}
use Rattle.tally.specs.Tally.{Tallied, changed, refused_by, on_success, dropped, tallied}

-- 1 for an element that is no NOP
abbrev pub weight_at : List ℕ → ℕ → ℕ
weight_at b at = cond (eqb (id_at b at) 0) 0 1

-- `elements_set` from the element at `at` on, as far as headers fit, if n are left
unfoldable pub set_from : List ℕ → ℕ → ℕ → ℕ
set_from b zero at = 0
set_from b (suc n) at = cond (ltb (length b) (at + 4)) 0 (weight_at b at + set_from b n (next_at b at))

abbrev pub set_in : List ℕ → ℕ
set_in b = cond (ltb (length b) 4) 0 (set_from b (count_of b) 4)

-- the n numbers from i on that have p, the first of them at the least significant bit
unfoldable pub mask_of : (ℕ → Bool) → ℕ → ℕ → ℕ
mask_of p zero i = 0
mask_of p (suc n) i = cond (p i) 1 0 + 2 * mask_of p n (i + 1)

-- a record whose slot is the least significant bit of `left`
abbrev pub after : ℕ → Change → Summary → Summary
after left c t = cond (eqb (left % 2) 1) (changed c t) t

-- records from a slot on whose bit is the least significant of `left`
unfoldable pub noted_in : ℕ → Change → List Summary → List Summary
noted_in left c [] = []
noted_in left c (t ∷ ts) = after left c t ∷ noted_in (left / 2) c ts

-- those from slot `first` on
unfoldable pub noted_at : ℕ → ℕ → Change → List Summary → List Summary
noted_at zero left c ts = noted_in left c ts
noted_at (suc first) left c [] = []
noted_at (suc first) left c (t ∷ ts) = t ∷ noted_at first left c ts

-- `touches` and `change_by`, by the number of the call
abbrev pub one : ℕ → Touched
one a = record { first = a; slots = 1 }

abbrev pub no_slot : Touched
no_slot = record { first = 0; slots = 0 }

unfoldable pub touched_by : Layout → List ℕ → ℕ → ℕ → ℕ → ℕ → Touched
touched_by l s kind flags guest number =
    get_or
    (no_slot
    ∷ no_slot
    ∷ no_slot
    ∷ no_slot
    ∷ one (free_slot l (header l s))
    ∷ one (slot_named l s guest number)
    ∷ one (slot_named l s guest number)
    ∷ one (slot_named l s guest number)
    ∷ record { first = 0; slots = mask_of (dropped l s flags guest) l.slots 0 }
    ∷ [])
    kind
    no_slot

-- n: the elements that are set if it is accepted
abbrev pub get_change : ℕ → ℕ → Change
get_change flags r3 = cond (has_bit0 flags) Nothing (refused_by r3)

abbrev pub set_change : ℕ → ℕ → ℕ → Change
set_change flags r3 n = cond (has_bit0 flags) Nothing (on_success r3 (cond (hands_over flags) Nothing (Set n)) (refused_by r3))

abbrev pub run_change : ℕ → ℕ → ℕ → Change
run_change r3 n exit = on_success r3 (Ran n exit) (refused_by r3)

unfoldable pub change_for : ℕ → ℕ → ℕ → ℕ → ℕ → Change
change_for kind flags r3 exit n =
    get_or
    (Nothing
    ∷ Nothing
    ∷ Nothing
    ∷ Nothing
    ∷ on_success r3 Renewed Nothing
    ∷ get_change flags r3
    ∷ set_change flags r3 n
    ∷ run_change r3 n (exit % 2 ^ 32)
    ∷ on_success r3 Renewed Nothing
    ∷ [])
    kind
    Nothing

-- r bytes of the data hold the elements: all of them, but of a run on the vCPU in slot a as many as are registered, where they are lent
pub record HeldBytes (l : Layout) (s : List ℕ) (kind a len r : ℕ) : Type 0 where
  pub all : kind ≢ 7 → r ≡ len
  pub registered : kind ≡ 7 → length s ≡ l.size → a < l.slots → input_size s (slot_at l a) ≤ len → r ≡ input_size s (slot_at l a)

-- what the call leaves makes the layer's outcome, whichever n records are lent
abbrev pub Serves : Layout → ℕ → List ℕ → CallRecord → List ℕ → Served → List ℕ → List ℕ → List ℕ → Type 0
Serves l n s r u o s' d' u' =
    (ts : List Summary) → length ts ≡ n
    → ◌≡◌ {A = Tallied} (record { answer = o.answer; store = s'; «data» = d'; output = u'; records = noted_at o.first o.slots o.change ts }) (tallied l ts s r u)
