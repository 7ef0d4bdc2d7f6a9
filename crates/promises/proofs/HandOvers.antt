-- THEOREMS of hand-overs: `given_accepted_exactly`, `given_state`, `given_refused_exactly`: what giving back accepts, and what the slot then
-- holds; `take_give`, `taken_back`: what was taken and is given back leaves the store as it was; `marks_used`, `history_marks`: only used slots are marked.
-- `one_form` is of crate handover. Assumes nothing.
use mathlib.Core.Path.{◌≡◌, refl, sym, ap, ap₂, ◌∙◌, subst}
use mathlib.Core.Logic.{◌↔◌}
use mathlib.Core.Bool.{Bool, true, false, not, ◌||◌, cond}
use mathlib.Core.List.{List, [], ◌++◌}
use Prim.Native.Nat.{ℕ, ◌+◌, ◌≤◌, ◌<◌}
use native.Mathlib.Omega.{arith}
use lib.Dec.{leb, ltb}
use lib.ListN.{length, get_or, drop}
use borrow.Author.Tests.{le-ltb, lt-leb, ltb-false, leb-false, not-false}
use Rattle.octets.specs.Bytes.{bytes_at, put, zeros}
use Rattle.octets.proofs.Bytes.{length_put, length_zeros, length_bytes_at, put_put, put_same, read_back}
use Rattle.answer.specs.declared.Fault.TheVariants.{Form}
use Rattle.answer.specs.declared.Call.{Call as Name}
use Rattle.answer.specs.Answer.{three, accepted as said}
use Rattle.handover.specs.Form.{form, StartsWith, begins, values_of, state_at, taken}
use Rattle.handover.proofs.Theorems.{long_form, given_form, begins_parts, given_exactly, put_starts}
use Rattle.handover.proofs.Frame.{values_long, taken_buffer_long}
use Rattle.store.specs.declared.Layout.{Layout}
use Rattle.store.specs.Layout.{Sound, slot_bytes, slot_at}
use Rattle.store.specs.Header.{header, live, word, is_used, is_taken, slot_of}
use Rattle.store.specs.Store.{well_formed, fresh, put_taken}
use Rattle.store.proofs.Search.{no_bool}
use Rattle.store.proofs.Frame.{header_full, formed}
use Rattle.store.proofs.Marks.{slot_of_mark, taken_here}
use Rattle.store.proofs.Beside.{mark_values, mark_write}
use Rattle.store.proofs.Again.{mark_again, mark_none}
use Rattle.store.proofs.Kept.{taken_used}
use Rattle.admission.specs.Refusals.{Outcome, accept, refuse, decide, bit1, Passed}
use Rattle.admission.specs.Target.{slot_named, is_away}
use Rattle.state.specs.HandOver.{out_of_range, take_from, give_to, take_vcpu, give_vcpu}
use Rattle.state.proofs.HandOvers.{get_takes, set_gives, in_range}
use Rattle.l0.specs.Calls.{Call, GetState, SetState, outcome, after}
use Rattle.promises.specs.History.{registers, is_accepted}
use Rattle.promises.specs.Promised.{before_form}
use Rattle.promises.proofs.Told.{accepted_none, tells}
use Rattle.promises.proofs.HandedOver.{slot_placed, handed, handed_live, handed_header, handed_formed, Slotted, take_slotted, slotted_word, takeAll}
use Rattle.promises.proofs.Kept.{history_kept, fresh_history}
use Rattle.promises.proofs.Lowest.{Real, accepted, no_store, no_guest, no_vcpu}
use Rattle.promises.proofs.ReadBack.{no_taken, no_length}

-- ---- giving back
module _ (l : Layout) (so : Sound l) (s : List ℕ) (guest vcpu : ℕ) (b : List ℕ) where
  abbrev slot : ℕ
  slot = slot_named l s guest vcpu

  module _ (p : Passed (before_form l s guest vcpu b)) where
    below : slot < l.slots
    below = leb-false _ _ p.1.1.0

    long : length s ≡ l.size
    long = (formed l s (not-false _ p.0)).long

    low : vcpu < 2048
    low = (slot_placed l (header l s) guest vcpu slot refl below).low

    -- what is told and left goes by the form alone
    by_form : outcome l s (SetState bit1 guest vcpu b) ≡ cond (not (begins vcpu b)) (refuse s [] Form) (give_to l s slot b)
    unfolding outcome give_vcpu decide
    by_form = sym (set_gives l s bit1 guest vcpu b refl) ∙ simp (p.0, p.1.0, p.1.1.0, p.1.1.1.0, p.1.1.1.1.0)

    left_by_lem : (t : Bool) → begins vcpu b ≡ t → outcome l s (SetState bit1 guest vcpu b) ≡ cond (not t) (refuse s [] Form) (give_to l s slot b)
    left_by_lem t e = by_form ∙ ap (λ (x : Bool). cond (not x) (refuse s [] Form) (give_to l s slot b)) e

    told_by_lem : (t : Bool) → begins vcpu b ≡ t → registers l s (SetState bit1 guest vcpu b) ≡ cond t (three 0 0 0) (three 17 0 0)
    unfolding registers
    told_by_lem true e = ap (tells Name.SetState) (left_by_lem true e)
    told_by_lem false e = ap (tells Name.SetState) (left_by_lem false e)

    told_accepted : is_accepted l s (SetState bit1 guest vcpu b) ≡ begins vcpu b
    unfolding is_accepted
    told_accepted = go (begins vcpu b) refl
      where
        go : (t : Bool) → begins vcpu b ≡ t → is_accepted l s (SetState bit1 guest vcpu b) ≡ t
        go true e = ap said (told_by_lem true e)
        go false e = ap said (told_by_lem false e)

    -- accepted exactly if the buffer, which holds bytes, begins with the form of some state of this vCPU
    module _ (bytes : (k : ℕ) → get_or b k 0 < 256) where
      pub given_accepted_exactly : (is_accepted l s (SetState bit1 guest vcpu b) ≡ true) ↔ ((v : List ℕ) × StartsWith vcpu v b)
      given_accepted_exactly =
          let x = (given_exactly vcpu b low bytes).0 in
          (λ e. x.0 (sym told_accepted ∙ e), λ v. told_accepted ∙ x.1 v)

      pub given_refused_exactly : (registers l s (SetState bit1 guest vcpu b) ≡ three 17 0 0) ↔ ((v : List ℕ) → StartsWith vcpu v b → ⊥)
      unfolding is_accepted
      given_refused_exactly = (λ e v w. refused e v w, λ n. none n)
        where
          refused : registers l s (SetState bit1 guest vcpu b) ≡ three 17 0 0 → (v : List ℕ) → StartsWith vcpu v b → ⊥
          refused e v w = no_bool (sym (ap said e) ∙ given_accepted_exactly.1 (v, w))

          none : ((v : List ℕ) → StartsWith vcpu v b → ⊥) → registers l s (SetState bit1 guest vcpu b) ≡ three 17 0 0
          none n = go (begins vcpu b) refl
            where
              go : (t : Bool) → begins vcpu b ≡ t → registers l s (SetState bit1 guest vcpu b) ≡ three 17 0 0
              go true e = let x = (given_exactly vcpu b low bytes).0.0 e in absurd (n x.0 x.1)
              go false e = told_by_lem false e

      -- then the slot holds that state
      pub given_state : (v : List ℕ) → StartsWith vcpu v b → state_at (outcome l s (SetState bit1 guest vcpu b)).store (slot_at l (slot_named l s guest vcpu)) ≡ v
      given_state v w =
          let x = given_exactly vcpu b low bytes in
          let t = x.0.1 (v, w) in
          let len : length (values_of b) ≡ slot_bytes = values_long vcpu b t in
          let room : slot_at l (slot_named l s guest vcpu) + slot_bytes ≤ length s = omega (arith, below, long, so.whole) in
          ap (λ (o : Outcome). state_at o.store (slot_at l slot)) (left_by_lem true t)
          ∙ mark_values l so (put s (slot_at l slot) (values_of b)) slot 0 (slot_at l slot) slot_bytes below (omega (arith, so.guests_fit)) (omega (arith, room, length_put s (slot_at l slot) (values_of b)))
          ∙ ap (bytes_at (put s (slot_at l slot) (values_of b)) (slot_at l slot)) (sym len) ∙ read_back s (slot_at l slot) (values_of b) (omega (arith, room, len)) ∙ x.1 v w

-- ---- taking, then giving back
module _ (l : Layout) (so : Sound l) (s : List ℕ) (guest vcpu : ℕ) (b : List ℕ) where
  abbrev at : ℕ
  at = slot_named l s guest vcpu

  abbrev base : ℕ
  base = slot_at l at

  take_real : Real (takeAll l s guest vcpu b)
  take_real = ((λ t. no_store), ((λ t. no_guest), ((λ t. no_vcpu), ((λ t. no_taken), ((λ t. no_length), tt)))))

  abbrev left : List ℕ
  left = (take_from l s at vcpu b).store

  abbrev held : List ℕ
  held = (take_from l s at vcpu b).buffer

  was_taken : is_accepted l s (GetState bit1 guest vcpu b) ≡ true → Passed (takeAll l s guest vcpu b) × (outcome l s (GetState bit1 guest vcpu b) ≡ take_from l s at vcpu b)
  unfolding outcome take_vcpu
  was_taken e =
      let g = get_takes l s bit1 guest vcpu b refl in
      let x = accepted s b (takeAll l s guest vcpu b) (take_from l s at vcpu b) take_real (ap (λ (o : Outcome). o.answer.fault) g ∙ accepted_none l s (GetState bit1 guest vcpu b) e) in
      (x.0, sym g ∙ x.1)

  module _ (p : Passed (takeAll l s guest vcpu b)) where
    f : Slotted l s guest vcpu
    f = take_slotted l s guest vcpu b p

    size : length s ≡ l.size
    size = (formed l s f.good).long

    inside : base + slot_bytes ≤ length s
    inside = omega (arith, f.below, size, so.whole)

    longest : 1844 ≤ length b
    longest = in_range 1844 b (out_of_range 1844 b) refl p.1.1.1.1.0

    id : vcpu < 2048
    id = (slot_placed l (header l s) guest vcpu at refl f.below).low

    -- the slot is the same one, and it is marked
    left_is : left ≡ handed l s at (zeros slot_bytes) 1
    unfolding taken
    left_is = refl

    head : header l left ≡ put_taken l (header l s) at 1
    head = ap (header l) left_is ∙ handed_header l so s at f.below (zeros slot_bytes) 1

    full : length (header l s) ≡ l.guests_at
    full = header_full l so s size

    same_slot : slot_named l left guest vcpu ≡ at
    same_slot = ap (λ (h : List ℕ). slot_of l h guest vcpu) head ∙ slot_of_mark l so (header l s) full at f.below 1 guest vcpu

    away : is_away l left guest vcpu ≡ true
    away = ap₂ (is_taken l) head same_slot ∙ taken_here l so (header l s) full at f.below 1

    good : well_formed l left ≡ true
    good = ap (well_formed l) left_is ∙ handed_formed l so s at f.below (zeros slot_bytes) 1 f.good (slotted_word l s guest vcpu so f)

    alive : live l (header l left) guest ≡ true
    alive = ap (λ (t : List ℕ). live l (header l t) guest) left_is ∙ handed_live l so s at f.below (zeros slot_bytes) 1 size guest ∙ f.alive

    present : leb l.slots (slot_named l left guest vcpu) ≡ false
    present = ap (leb l.slots) same_slot ∙ lt-leb _ _ f.below

    unmarked : is_taken l (header l s) at ≡ false
    unmarked = p.1.1.1.0

    -- ---- a buffer of good length that begins with a form of the state that was there
    module _ (c : List ℕ) (range : out_of_range 24 c ≡ false) (shown : begins vcpu c ≡ true) (same : values_of c ≡ state_at s base) where
      restored : put (put s base (zeros slot_bytes)) base (values_of c) ≡ s
      restored =
          let n : length (state_at s base) ≡ slot_bytes = length_bytes_at s base slot_bytes inside in
          ap (put (put s base (zeros slot_bytes)) base) same ∙ put_put s base (zeros slot_bytes) (state_at s base) (length_zeros slot_bytes ∙ sym n) ∙ put_same s base slot_bytes

      given_store : put_taken l (put left base (values_of c)) at 0 ≡ s
      given_store =
          let x = put s base (zeros slot_bytes) in
          let n : length (put s base (zeros slot_bytes)) ≡ length s = length_put s base (zeros slot_bytes) in
          let len : length (values_of c) ≡ slot_bytes = values_long vcpu c shown in
          ap (λ (t : List ℕ). put_taken l (put t base (values_of c)) at 0) left_is
          ∙ ap (λ (t : List ℕ). put_taken l t at 0) (sym (mark_write l so x base (values_of c) (omega (arith, so.guests_fit)) (omega (arith, n, len, inside)) at 1 f.below))
          ∙ mark_again l so (put x base (values_of c)) at f.below 1 0 (length_put x base (values_of c) ∙ n ∙ size)
          ∙ ap (λ (t : List ℕ). put_taken l t at 0) restored ∙ mark_none l so s at f.below unmarked

      giving : give_vcpu l left guest vcpu c ≡ accept 0 s
      unfolding give_vcpu decide
      giving =
          simp (good, alive, present, away, range, shown)
          (ap (accept 0) (ap (λ (j : ℕ). put_taken l (put left (slot_at l j) (values_of c)) j 0) same_slot ∙ given_store))

      given_back_lem : outcome l left (SetState bit1 guest vcpu c) ≡ accept 0 s
      unfolding outcome
      given_back_lem = sym (set_gives l left bit1 guest vcpu c refl) ∙ giving

    -- the form and any bytes behind it
    whole_form : (rest : List ℕ) → (begins vcpu (form vcpu (state_at s base) ++ rest) ≡ true) × (values_of (form vcpu (state_at s base) ++ rest) ≡ state_at s base)
    whole_form rest = given_form vcpu (state_at s base) (form vcpu (state_at s base) ++ rest) rest id (length_bytes_at s base slot_bytes inside) refl

    form_from : (rest : List ℕ) → 24 ≤ length (form vcpu (state_at s base) ++ rest)
    form_from rest = (begins_parts vcpu (form vcpu (state_at s base) ++ rest) (whole_form rest).0).0

    in_range_form : (rest : List ℕ) → length (form vcpu (state_at s base) ++ rest) ≤ 65536 → out_of_range 24 (form vcpu (state_at s base) ++ rest) ≡ false
    in_range_form rest k = ap₂ (λ (x y : Bool). x || y) (le-ltb _ _ (form_from rest)) (le-ltb _ _ k)

    -- the buffer that the taking left: a form and what was behind it
    held_is : held ≡ form vcpu (state_at s base) ++ drop (length (form vcpu (state_at s base))) held
    unfolding taken
    held_is = put_starts b (form vcpu (state_at s base)) (omega (arith, longest, (long_form vcpu (state_at s base) (length_bytes_at s base slot_bytes inside)).1))

    held_range : length held ≤ 65536
    held_range = omega (arith, taken_buffer_long vcpu base s b, ltb-false 65536 (length b) (over (ltb (length b) 1844) (ltb 65536 (length b)) p.1.1.1.1.0))
      where
        over : (x y : Bool) → (x || y) ≡ false → y ≡ false
        over true y e = absurd (no_bool (sym e))
        over false y e = e

  -- THEOREM take-give: a taking, then giving back the form of what was there with any bytes behind it, is accepted and leaves the store as it
  -- was
  pub take_give : is_accepted l s (GetState bit1 guest vcpu b) ≡ true → (rest : List ℕ) → length (form vcpu (state_at s (slot_at l (slot_named l s guest vcpu))) ++ rest) ≤ 65536
      → outcome l (outcome l s (GetState bit1 guest vcpu b)).store (SetState bit1 guest vcpu (form vcpu (state_at s (slot_at l (slot_named l s guest vcpu))) ++ rest)) ≡ accept 0 s
  take_give e rest k =
      let x = was_taken e in
      ap (λ (o : Outcome). outcome l o.store (SetState bit1 guest vcpu (form vcpu (state_at s base) ++ rest))) x.1
      ∙ given_back_lem x.0 (form vcpu (state_at s base) ++ rest) (in_range_form x.0 rest k) (whole_form x.0 rest).0 (whole_form x.0 rest).1

  -- THEOREM taken_back: so is the buffer that it left
  pub taken_back : is_accepted l s (GetState bit1 guest vcpu b) ≡ true
      → outcome l (outcome l s (GetState bit1 guest vcpu b)).store (SetState bit1 guest vcpu (outcome l s (GetState bit1 guest vcpu b)).buffer) ≡ accept 0 s
  taken_back e =
      let x = was_taken e in
      let rest = drop (length (form vcpu (state_at s base))) held in
      let h = held_is x.0 in
      ap (λ (c : List ℕ). outcome l (outcome l s (GetState bit1 guest vcpu b)).store (SetState bit1 guest vcpu c)) (ap (λ (o : Outcome). o.buffer) x.1 ∙ h)
      ∙ take_give e rest (subst (λ (c : List ℕ). length c ≤ 65536) h (held_range x.0))

-- ---- 02, L1: "a mark on an unused slot is ill formed": over every history, marks are on used slots only
pub marks_used : (l : Layout) → Sound l → (s : List ℕ) → well_formed l s ≡ true → (cs : List Call) (a : ℕ) → a < l.slots
    → is_taken l (header l (after l s cs)) a ≡ true → is_used l (word l (header l (after l s cs)) a) ≡ true
marks_used l so s good cs a la t = taken_used l so (after l s cs) (history_kept l so s good cs) a la t

pub history_marks : (l : Layout) → Sound l → (cs : List Call) (a : ℕ) → a < l.slots → is_taken l (header l (after l (fresh l) cs)) a ≡ true → is_used l (word l (header l (after l (fresh l) cs)) a) ≡ true
history_marks l so cs a la t = taken_used l so (after l (fresh l) cs) (fresh_history l so cs) a la t
