-- THEOREMS of get and set state: what is told past the earlier checks (`set_refused_exactly`, `set_accepted_exactly`, and of get), that only
-- what is named changes, and that setting one guest or vCPU leaves the others' values. Assumes nothing.
use mathlib.Core.Path.{◌≡◌, refl, sym, ap, ◌∙◌, subst}
use mathlib.Core.Logic.{◌↔◌, ◌≢◌}
use mathlib.Core.Bool.{Bool, true, false, not, ◌&&◌, cond}
use mathlib.Core.List.{List, [], ◌∷◌, ◌++◌}
use Prim.Native.Nat.{ℕ, ◌+◌, ◌≤◌, ◌<◌}
use native.Mathlib.Decide.{dec_lt}
use native.Mathlib.Omega.{arith}
use lib.Dec.{leb}
use lib.ListN.{length, get_or}
use borrow.Author.Tests.{leb-false, not-false}
use Rattle.octets.specs.Bytes.{bytes_at, be, Clear, left, right}
use Rattle.octets.proofs.Numbers.{be_part}
use Rattle.elements.specs.declared.Scope.TheVariants.{Guest as GuestWide}
use Rattle.elements.specs.Table.{position}
use Rattle.answer.specs.declared.Answer.{Answer}
use Rattle.answer.specs.declared.Bad.{Bad}
use Rattle.answer.specs.declared.Call.{Call as Name}
use Rattle.answer.specs.Answer.{bad_number, three, told}
use Rattle.answer.specs.declared.Fault.{Fault}
use Rattle.answer.specs.declared.Fault.TheVariants.{Length}
use Rattle.answer.specs.Refusals.{first_of}
use Rattle.rules.specs.declared.Usage.{Usage}
use Rattle.rules.specs.declared.Usage.TheVariants.{GuestGet, GuestSet, ThreadGet, ThreadSet}
use Rattle.elements.specs.Right.{bytes_of}
use Rattle.rules.specs.Rules.{scope_for}
use Rattle.gsb.specs.Walk.{count_of, offset_at, bad_length, judged, first_bad, is_stopped, fault_of, Walked}
use Rattle.gsb.specs.First.{FirstBadAt, AllGood}
use Rattle.gsb.proofs.First.{judged_leads, first_walk}
use Rattle.gsb.proofs.Walks.{long_enough}
use Rattle.store.specs.declared.Layout.{Layout}
use Rattle.store.specs.Layout.{Sound, guest_bytes, slot_bytes, guest_at, slot_at}
use Rattle.store.specs.Header.{header, slot_of}
use Rattle.store.proofs.Frame.{formed}
use Rattle.store.proofs.Tests.{live_parts}
use Rattle.transfer.specs.Transfer.{applied, AllReady}
use Rattle.transfer.proofs.Accepted.{ready_all}
use Rattle.transfer.specs.Named.{Named, ValueByte}
use Rattle.transfer.proofs.Named.{applied_frame, filled_frame, beside}
use Rattle.admission.specs.Refusals.{Outcome, success, accept, refuse, decide, has_bit0, hands_over, Passed}
use Rattle.admission.specs.Target.{target_tests, base_of}
use Rattle.state.proofs.Buffers.{pvr_place}
use Rattle.state.specs.State.{pvr_of, context_of, bad_element, buffer_tests, supported_bits, set_use, set_elements, set_state, get_use, fill_with, get_elements, get_state}
use Rattle.state.proofs.HandOvers.{get_plain, set_plain}
use Rattle.l0.specs.Calls.{GetState, SetState, outcome}
use Rattle.promises.specs.History.{registers}
use Rattle.promises.proofs.Kept.{decided}
use Rattle.promises.proofs.Told.{number_some, tells, told_by, element_told, index_first_in, element_told_lem, zero_told}
use Rattle.std.proofs.Common.{Ok, Err}

-- tests that failed may be left out
pub skip : {B : Type 0} (turn : Fault → B) (xs ys : List (Bool × Fault)) (o : B) → Passed xs → first_of turn (xs ++ ys) o ≡ first_of turn ys o
skip turn [] ys o p = refl
skip turn (x ∷ xs) ys o p = ap (λ (t : Bool). cond t (turn x.1) (first_of turn (xs ++ ys) o)) p.0 ∙ skip turn xs ys o p.1

not_stopped : (w : Walked) → is_stopped w ≡ false → w ≡ Ok tt
not_stopped (Ok _) e = refl
not_stopped (Err stop) e = let z : ◌≡◌ {A = ℕ} 0 1 = cc in absurd (omega arith)

-- 02, L1: "demand 2's last two sentences leave both hand-overs out": they are about calls that do not hand over
module _ (l : Layout) (s : List ℕ) (flags guest vcpu : ℕ) (b : List ℕ) where
  -- ---- Demand 2: "Past the earlier checks, a buffer is refused for an element exactly if it holds a bad one, and the place told is the
  -- first." 02, L4: "Set and get state, and a lookup's 7, keep R4 as the index and put the byte offset in R5".
  module _ (p : Passed (target_tests l s (supported_bits (has_bit0 flags)) flags (has_bit0 flags) guest vcpu)) (g : bad_length b ≡ false) (plain : hands_over flags ≡ false) where
    -- past the earlier tests, what is told is what the walk finds
    walk_told : (c : Name) (usage : Usage) (lent : List ℕ) (o : Outcome) → o.answer ≡ success 0 → (x : Outcome) → x ≡ decide s lent (target_tests l s (supported_bits (has_bit0 flags)) flags (has_bit0 flags) guest vcpu ++ buffer_tests (context_of l s guest usage) b) o
        → tells c x ≡ told_by (element_told c) (three 0 0 0) (first_bad (context_of l s guest usage) b)
    unfolding decide
    walk_told c usage lent o a x e =
        ap (tells c) (e ∙ skip (refuse s lent) (target_tests l s (supported_bits (has_bit0 flags)) flags (has_bit0 flags) guest vcpu) (buffer_tests (context_of l s guest usage) b) o p)
        ∙ ap (λ (t : Bool). tells c (cond t (refuse s lent Length) (first_of (refuse s lent) (bad_element (context_of l s guest usage) b ∷ []) o))) g ∙ go (first_bad (context_of l s guest usage) b)
      where
        go : (w : Walked) → tells c (cond (is_stopped w) (refuse s lent (fault_of w)) o) ≡ told_by (element_told c) (three 0 0 0) w
        go (Ok _) = ap (λ (y : Answer). told c y.fault y.value) a
        go (Err stop) = refl

    set_told : registers l s (SetState flags guest vcpu b) ≡ told_by (element_told Name.SetState) (three 0 0 0) (first_bad (context_of l s guest (set_use (has_bit0 flags))) b)
    unfolding registers outcome set_elements
    set_told = walk_told Name.SetState (set_use (has_bit0 flags)) [] _ refl _ (sym (set_plain l s flags guest vcpu b plain))

    get_told : registers l s (GetState flags guest vcpu b) ≡ told_by (element_told Name.GetState) (three 0 0 0) (first_bad (context_of l s guest (get_use (has_bit0 flags))) b)
    unfolding registers outcome get_elements
    get_told = walk_told Name.GetState (get_use (has_bit0 flags)) b _ refl _ (sym (get_plain l s flags guest vcpu b plain))

    pub set_refused_exactly : (bad : Bad) (i at : ℕ) → (registers l s (SetState flags guest vcpu b) ≡ three (bad_number bad) i at)
        ↔ (FirstBadAt (judged (context_of l s guest (set_use (has_bit0 flags))) b) b i bad × (offset_at b i ≡ at))
    set_refused_exactly bad i at =
        let k = context_of l s guest (set_use (has_bit0 flags)) in
        element_told_lem (judged k b) b (judged_leads k b) (first_bad k b) (first_walk k b) Name.SetState (three 0 0 0) bad (number_some bad) index_first_in (λ bad' place. refl) (record { index = i; offset = at }) _ set_told

    pub get_refused_exactly : (bad : Bad) (i at : ℕ) → (registers l s (GetState flags guest vcpu b) ≡ three (bad_number bad) i at)
        ↔ (FirstBadAt (judged (context_of l s guest (get_use (has_bit0 flags))) b) b i bad × (offset_at b i ≡ at))
    get_refused_exactly bad i at =
        let k = context_of l s guest (get_use (has_bit0 flags)) in
        element_told_lem (judged k b) b (judged_leads k b) (first_bad k b) (first_walk k b) Name.GetState (three 0 0 0) bad (number_some bad) index_first_in (λ bad' place. refl) (record { index = i; offset = at }) _ get_told

    pub set_accepted_exactly : ((registers l s (SetState flags guest vcpu b)).r3 ≡ 0) ↔ AllGood (judged (context_of l s guest (set_use (has_bit0 flags))) b) b
    set_accepted_exactly =
        let k = context_of l s guest (set_use (has_bit0 flags)) in
        zero_told (judged k b) b (judged_leads k b) (first_bad k b) (first_walk k b) Name.SetState _ set_told

    pub get_accepted_exactly : ((registers l s (GetState flags guest vcpu b)).r3 ≡ 0) ↔ AllGood (judged (context_of l s guest (get_use (has_bit0 flags))) b) b
    get_accepted_exactly =
        let k = context_of l s guest (get_use (has_bit0 flags)) in
        zero_told (judged k b) b (judged_leads k b) (first_bad k b) (first_walk k b) Name.GetState _ get_told

  -- ---- only what is named changes
  -- a buffer that passed its tests was walked to its end
  pub walked : (usage : Usage) → Passed (target_tests l s (supported_bits (has_bit0 flags)) flags (has_bit0 flags) guest vcpu ++ buffer_tests (context_of l s guest usage) b) → first_bad (context_of l s guest usage) b ≡ Ok tt
  walked usage p = not_stopped (first_bad (context_of l s guest usage) b) p.1.1.1.1.1.1.0

  abbrev setTests : List (Bool × Fault)
  setTests = target_tests l s (supported_bits (has_bit0 flags)) flags (has_bit0 flags) guest vcpu ++ buffer_tests (context_of l s guest (set_use (has_bit0 flags))) b

  abbrev setDone : Outcome
  setDone = accept 0 (applied (base_of l s (has_bit0 flags) guest vcpu) b (count_of b) s)

  record ByteKept (j : ℕ) (o : Outcome) : Type 0 where
    kept : get_or o.store j 0 ≡ get_or s j 0

  pub set_only_named : hands_over flags ≡ false → (j : ℕ) → (Named (base_of l s (has_bit0 flags) guest vcpu) b (count_of b) j → ⊥) → get_or (set_state l s flags guest vcpu b).store j 0 ≡ get_or s j 0
  unfolding set_elements
  set_only_named plain j out =
      ap (λ (o : Outcome). get_or o.store j 0) (sym (set_plain l s flags guest vcpu b plain))
      ∙ (decided (ByteKept j) s [] setTests setDone (λ f. record { kept = refl })
      (λ p. record { kept = applied_frame (context_of l s guest (set_use (has_bit0 flags))) (base_of l s (has_bit0 flags) guest vcpu) b (walked (set_use (has_bit0 flags)) p) (count_of b) j s (omega arith) out })).kept

  record PartKept (i n : ℕ) (o : Outcome) : Type 0 where
    same : bytes_at o.store i n ≡ bytes_at s i n

  -- any part of the store beside the values of the guest or vCPU named; a refused call names none
  set_apart : hands_over flags ≡ false → (i n : ℕ) → (Passed setTests → Clear (base_of l s (has_bit0 flags) guest vcpu) (bytes_of (scope_for (set_use (has_bit0 flags)))) i n) → bytes_at (set_state l s flags guest vcpu b).store i n ≡ bytes_at s i n
  unfolding set_elements
  set_apart plain i n c =
      ap (λ (o : Outcome). bytes_at o.store i n) (sym (set_plain l s flags guest vcpu b plain))
      ∙ (decided (PartKept i n) s [] setTests setDone (λ f. record { same = refl })
      (λ p. record { same = beside (context_of l s guest (set_use (has_bit0 flags))) (base_of l s (has_bit0 flags) guest vcpu) b (walked (set_use (has_bit0 flags)) p) s i n (c p) })).same

  pub set_beside : hands_over flags ≡ false → (i n : ℕ) → Clear (base_of l s (has_bit0 flags) guest vcpu) (bytes_of (scope_for (set_use (has_bit0 flags)))) i n → bytes_at (set_state l s flags guest vcpu b).store i n ≡ bytes_at s i n
  set_beside plain i n c = set_apart plain i n (λ p. c)

  -- ---- get: only value bytes of the buffer
  -- the values of a target that was found lie within the store
  base_room : Sound l → (usage : Usage) → bytes_of (scope_for usage) ≡ cond (has_bit0 flags) guest_bytes slot_bytes → Passed (target_tests l s (supported_bits (has_bit0 flags)) flags (has_bit0 flags) guest vcpu)
      → base_of l s (has_bit0 flags) guest vcpu + bytes_of (scope_for usage) ≤ length s
  unfolding base_of
  base_room so usage e p =
      let long = (formed l s (not-false _ p.0)).long in
      let b = live_parts l (header l s) guest (not-false _ p.1.1.0) in
      go (has_bit0 flags) e p.1.1.1.0 long b.0 b.1
    where
      go : (t : Bool) → bytes_of (scope_for usage) ≡ cond t guest_bytes slot_bytes → (not t && leb l.slots (slot_of l (header l s) guest vcpu)) ≡ false → length s ≡ l.size → 1 ≤ guest → guest ≤ l.guests
          → cond t (guest_at l guest) (slot_at l (slot_of l (header l s) guest vcpu)) + bytes_of (scope_for usage) ≤ length s
      go true q a long lo hi = omega (arith, q, so.guests_fit, so.whole)
      go false q a long lo hi = let k : slot_of l (header l s) guest vcpu < l.slots = leb-false _ _ a in omega (arith, q, so.whole)

  pub get_room : bytes_of (scope_for (get_use (has_bit0 flags))) ≡ cond (has_bit0 flags) guest_bytes slot_bytes
  get_room = go (has_bit0 flags)
    where
      go : (t : Bool) → bytes_of (scope_for (cond t GuestGet ThreadGet)) ≡ cond t guest_bytes slot_bytes
      go true = refl
      go false = refl

  pub set_room : bytes_of (scope_for (set_use (has_bit0 flags))) ≡ cond (has_bit0 flags) guest_bytes slot_bytes
  set_room = go (has_bit0 flags)
    where
      go : (t : Bool) → bytes_of (scope_for (cond t GuestSet ThreadSet)) ≡ cond t guest_bytes slot_bytes
      go true = refl
      go false = refl

  -- the tests of the target alone
  pub target_passed : (usage : Usage) → Passed (target_tests l s (supported_bits (has_bit0 flags)) flags (has_bit0 flags) guest vcpu ++ buffer_tests (context_of l s guest usage) b) → Passed (target_tests l s (supported_bits (has_bit0 flags)) flags (has_bit0 flags) guest vcpu)
  target_passed usage p = (p.0, (p.1.0, (p.1.1.0, (p.1.1.1.0, (p.1.1.1.1.0, tt)))))

  long_passed : (usage : Usage) → Passed (target_tests l s (supported_bits (has_bit0 flags)) flags (has_bit0 flags) guest vcpu ++ buffer_tests (context_of l s guest usage) b) → 4 ≤ length b
  long_passed usage p = long_enough b (bad_length b) refl p.1.1.1.1.1.0

  pub all_ready : Sound l → (usage : Usage) → bytes_of (scope_for usage) ≡ cond (has_bit0 flags) guest_bytes slot_bytes
      → Passed (target_tests l s (supported_bits (has_bit0 flags)) flags (has_bit0 flags) guest vcpu ++ buffer_tests (context_of l s guest usage) b) → AllReady (base_of l s (has_bit0 flags) guest vcpu) b (length s)
  all_ready so usage e p = ready_all (context_of l s guest usage) (base_of l s (has_bit0 flags) guest vcpu) (length s) (base_room so usage e (target_passed usage p)) b (long_passed usage p) (walked usage p)

  abbrev getTests : List (Bool × Fault)
  getTests = target_tests l s (supported_bits (has_bit0 flags)) flags (has_bit0 flags) guest vcpu ++ buffer_tests (context_of l s guest (get_use (has_bit0 flags))) b

  record BufferKept (j : ℕ) (o : Outcome) : Type 0 where
    kept : get_or o.buffer j 0 ≡ get_or b j 0

  pub get_only_named : hands_over flags ≡ false → Sound l → (j : ℕ) → (ValueByte b (count_of b) j → ⊥) → get_or (get_state l s flags guest vcpu b).buffer j 0 ≡ get_or b j 0
  unfolding get_elements
  get_only_named plain so j out =
      ap (λ (o : Outcome). get_or o.buffer j 0) (sym (get_plain l s flags guest vcpu b plain))
      ∙ (decided (BufferKept j) s b getTests (fill_with s (base_of l s (has_bit0 flags) guest vcpu) b) (λ f. record { kept = refl })
      (λ p. record { kept = filled_frame (base_of l s (has_bit0 flags) guest vcpu) s b (all_ready so (get_use (has_bit0 flags)) get_room p) (count_of b) j (omega arith) out })).kept

-- ---- setting one guest or vCPU leaves the others' values
pub slots_apart : (l : Layout) (i j : ℕ) → i ≢ j → Clear (slot_at l i) slot_bytes (slot_at l j) slot_bytes
slots_apart l i j n = go (dec_lt i j)
  where
    go : Dec (i < j) → Clear (slot_at l i) slot_bytes (slot_at l j) slot_bytes
    go (yes h) = left (omega arith)
    go (no h) = right (omega arith)

pub guests_apart : (l : Layout) (g k : ℕ) → 1 ≤ g → 1 ≤ k → g ≢ k → Clear (guest_at l g) guest_bytes (guest_at l k) guest_bytes
guests_apart l g k a b n = go (dec_lt g k)
  where
    go : Dec (g < k) → Clear (guest_at l g) guest_bytes (guest_at l k) guest_bytes
    go (yes h) = left (omega arith)
    go (no h) = right (omega arith)

-- a guest's PVR is one of its values
pub pvr_kept : (l : Layout) (s t : List ℕ) (g : ℕ) → bytes_at t (guest_at l g) guest_bytes ≡ bytes_at s (guest_at l g) guest_bytes → pvr_of l t g ≡ pvr_of l s g
pvr_kept l s t g e =
    let p = pvr_place in
    sym (be_part t (guest_at l g) guest_bytes (position GuestWide 0x0003) 4 (omega (arith, p)))
    ∙ ap (λ (x : List ℕ). be x (position GuestWide 0x0003) 4) e ∙ be_part s (guest_at l g) guest_bytes (position GuestWide 0x0003) 4 (omega (arith, p))

-- the store, the guest and the vCPU are any: a call that is refused changes nothing. The flags are any but those of a hand-over.
module _ (l : Layout) (s : List ℕ) (flags guest vcpu : ℕ) (b : List ℕ) (plain : hands_over flags ≡ false) where
  -- by where the values of the call start
  clear_of : (base bytes i n : ℕ) → base_of l s (has_bit0 flags) guest vcpu ≡ base → cond (has_bit0 flags) guest_bytes slot_bytes ≡ bytes → Clear base bytes i n
      → Clear (base_of l s (has_bit0 flags) guest vcpu) (bytes_of (scope_for (set_use (has_bit0 flags)))) i n
  clear_of base bytes i n e q c = subst (λ (x : ℕ). Clear x (bytes_of (scope_for (set_use (has_bit0 flags)))) i n) (sym e) (subst (λ (y : ℕ). Clear base y i n) (sym (set_room l s flags guest vcpu b ∙ q)) c)

  -- a call that passed its tests names a guest of the layout
  guest_named : Passed (setTests l s flags guest vcpu b) → (1 ≤ guest) × (guest ≤ l.guests)
  guest_named p = live_parts l (header l s) guest (not-false _ p.1.1.0)

  module _ (thread : has_bit0 flags ≡ false) where
    thread_base : base_of l s (has_bit0 flags) guest vcpu ≡ slot_at l (slot_of l (header l s) guest vcpu)
    unfolding base_of
    thread_base = simp thread

    thread_bytes : cond (has_bit0 flags) guest_bytes slot_bytes ≡ slot_bytes
    thread_bytes = simp thread

    -- a thread set leaves the values of every slot but the vCPU's
    pub other_slot : (j : ℕ) → slot_of l (header l s) guest vcpu ≢ j → bytes_at (set_state l s flags guest vcpu b).store (slot_at l j) slot_bytes ≡ bytes_at s (slot_at l j) slot_bytes
    other_slot j n =
        set_beside l s flags guest vcpu b plain (slot_at l j) slot_bytes
        (clear_of (slot_at l (slot_of l (header l s) guest vcpu)) slot_bytes (slot_at l j) slot_bytes thread_base thread_bytes (slots_apart l (slot_of l (header l s) guest vcpu) j n))

    -- and every guest's
    pub every_guest : Sound l → (g : ℕ) → g ≤ l.guests → bytes_at (set_state l s flags guest vcpu b).store (guest_at l g) guest_bytes ≡ bytes_at s (guest_at l g) guest_bytes
    every_guest so g hi =
        set_apart l s flags guest vcpu b plain (guest_at l g) guest_bytes
        (λ p. let r = guest_named p in
        clear_of (slot_at l (slot_of l (header l s) guest vcpu)) slot_bytes (guest_at l g) guest_bytes thread_base thread_bytes
        (right (omega (arith, so.guests_fit, r.0, r.1))))

  module _ (wide : has_bit0 flags ≡ true) where
    pub wide_base : base_of l s (has_bit0 flags) guest vcpu ≡ guest_at l guest
    unfolding base_of
    wide_base = simp wide

    wide_bytes : cond (has_bit0 flags) guest_bytes slot_bytes ≡ guest_bytes
    wide_bytes = simp wide

    -- a guest-wide set leaves every other guest's values
    pub other_guest : (g : ℕ) → 1 ≤ g → guest ≢ g → bytes_at (set_state l s flags guest vcpu b).store (guest_at l g) guest_bytes ≡ bytes_at s (guest_at l g) guest_bytes
    other_guest g lo n =
        set_apart l s flags guest vcpu b plain (guest_at l g) guest_bytes
        (λ p. clear_of (guest_at l guest) guest_bytes (guest_at l g) guest_bytes wide_base wide_bytes (guests_apart l guest g (guest_named p).0 lo n))

    -- and every slot's
    pub every_slot : Sound l → (j : ℕ) → bytes_at (set_state l s flags guest vcpu b).store (slot_at l j) slot_bytes ≡ bytes_at s (slot_at l j) slot_bytes
    every_slot so j =
        set_apart l s flags guest vcpu b plain (slot_at l j) slot_bytes
        (λ p. let r = guest_named p in
        clear_of (guest_at l guest) guest_bytes (slot_at l j) slot_bytes wide_base wide_bytes (left (omega (arith, so.guests_fit, r.0, r.1))))
