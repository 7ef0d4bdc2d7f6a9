-- THEOREMS `apart_slot`, `apart_mark`, `apart_values`, `apart_guest`, `apart_write`: a call on another guest neither sees nor changes the
-- values of a given vCPU, which stays in its slot with its mark, nor those of its guest. Assumes nothing.
use mathlib.Core.Path.{◌≡◌, refl, sym, ap, ap₂, ◌∙◌, subst}
use mathlib.Core.Logic.{◌≢◌, ◌⊎◌, inl, inr}
use mathlib.Core.Bool.{Bool, true, false, not, ◌&&◌, cond}
use mathlib.Core.List.{List, [], ◌∷◌, ◌++◌}
use Prim.Native.Nat.{ℕ, zero, suc, ◌+◌, ◌*◌, ◌%◌, ◌^◌, ◌≤◌, ◌<◌}
use native.Mathlib.Omega.{arith}
use lib.Dec.{eqb, leb, ltb}
use lib.ListN.{length}
use borrow.Author.Tests.{eq-eqb, ne_eqb, lt-ltb, leb-true, eqb-true, ltb-true, ltb-false, not-true, not-false}
use Rattle.octets.specs.Bytes.{bytes_at, put, be, zeros, Clear, left, right}
use Rattle.octets.specs.Bits.{bit, bits}
use Rattle.octets.proofs.Bytes.{clear_sym, clear_part, length_bytes_at, length_zeros, put_comm, put_same, read_back, read_other}
use Rattle.octets.proofs.Numbers.{be_other}
use Rattle.answer.specs.declared.Answer.{Answer}
use Rattle.answer.specs.declared.Fault.{Fault}
use Rattle.answer.specs.Refusals.{first_of}
use Rattle.elements.specs.declared.Scope.TheVariants.{Guest as GuestWide, Thread}
use Rattle.elements.specs.declared.Source.{Source}
use Rattle.elements.specs.declared.Source.TheVariants.{Fixed, Stored}
use Rattle.elements.specs.declared.Entry.{Entry}
use Rattle.elements.specs.declared.Kind.{Kind}
use Rattle.elements.specs.declared.Kind.TheVariants.{Unlisted, Nop, Listed}
use Rattle.rules.specs.declared.Usage.{Usage}
use Rattle.rules.specs.declared.Usage.TheVariants.{RunInput, Effect as InEffect}
use Rattle.rules.specs.declared.Context.{Context}
use Rattle.elements.specs.Table.{table, below, position, kind_of, number_of}
use Rattle.rules.specs.Rules.{size_fits, scope_for}
use Rattle.elements.specs.Later.{offer_of}
use Rattle.elements.specs.Right.{bytes_of}
use Rattle.rules.proofs.Rules.{size_listed}
use Rattle.gsb.specs.Message.{message}
use Rattle.gsb.specs.Walk.{count_of, id_at, size_at, offset_at, first_bad}
use Rattle.store.specs.declared.Layout.{Layout}
use Rattle.store.specs.Layout.{Sound, small, guest_bytes, slot_bytes, guest_at, slot_at}
use Rattle.store.specs.Search.{every, first}
use Rattle.store.specs.Header.{header, capabilities_of, live, word, word_of, is_used, guest_of, is_taken, holds, lacks, alone, slot_good, head_good, words_good, slot_holding, slot_of, free_slot, is_dead, free_guest}
use Rattle.store.specs.Store.{well_formed, fresh, put_live, put_slot, with_guest, with_vcpu, drop_word, drop_words, without_guest, without_guests}
use Rattle.store.proofs.Search.{no_bool, both, first_bounds, first_found, found_first}
use Rattle.store.proofs.Tests.{live_parts}
use Rattle.store.proofs.WordFields.{word_live, live_else}
use Rattle.store.proofs.Marks.{word_slot_else, live_slot}
use Rattle.store.proofs.Frame.{header_full, header_values, header_slot, header_live, formed, formed_values}
use Rattle.store.proofs.Beside.{live_write, slot_write}
use Rattle.store.proofs.Kept.{words_are, drop_less, deleted_else, deleted_other, deleted_mark, guest_mark, vcpu_mark_else}
use Rattle.transfer.specs.Transfer.{value_at, put_from, put_as, applied, read_from, fill_as, filled}
use Rattle.transfer.proofs.Named.{counted_good, element_within}
use Rattle.exits.specs.Exits.{returned, element_of, valued, output_of}
use Rattle.exits.proofs.Written.{all_fit, returned_fit}
use Rattle.admission.specs.Refusals.{Outcome, success, accept, refuse, decide, has_bit0, hands_over, Passed}
use Rattle.admission.specs.Target.{target_tests, base_of}
use Rattle.admission.proofs.Judging.{same_after}
use Rattle.handover.specs.Form.{form, values_of, state_at, taken}
use Rattle.state.specs.HandOver.{take_vcpu, give_vcpu}
use Rattle.state.specs.State.{pvr_of, context_of, bad_element, buffer_tests, supported_bits, get_use, get_elements, get_state, set_use, set_elements, set_state}
use Rattle.state.proofs.Buffers.{pvr_place}
use Rattle.state.proofs.HandOvers.{get_ways, set_ways}
use Rattle.run.specs.Run.{input_size, output_size, input_of, exit_tests, run_target_tests, content_tests, run_tests, ran_store, ran, run_vcpu}
use Rattle.guests.specs.Guests.{create_guest, create_vcpu, delete_guest}
use Rattle.l0.specs.Calls.{get_capabilities, offset_of, rounded_up, guest_clock, Call, GetCapabilities, SetCapabilities, CreateGuest, CreateVcpu, GetState, SetState, RunVcpu, DeleteGuest, GuestClock, outcome}
use Rattle.promises.specs.Apart.{Elsewhere}
use Rattle.promises.proofs.HandedOver.{Placed, slot_placed, word_used, handed, handed_word, handed_live, handed_mark_else, handed_write, take_slotted, give_slotted, given_length}
use Rattle.promises.proofs.Kept.{decided, applied_header, base_values, well_formed_kept}
use Rattle.promises.proofs.Runs.{input_walked, effect_walked}
use Rattle.promises.proofs.States.{walked, get_room, set_room, slots_apart, guests_apart, pvr_kept}
use Rattle.std.proofs.Common.{Ok}

-- what a call leaves, with w written into the store from q on
abbrev written : ℕ → List ℕ → Outcome → Outcome
written q w o = record { answer = o.answer; store = put o.store q w; buffer = o.buffer }

-- a call whose tests don't see the write: its refusals leave it, and so need only what is done where no test holds
decided_write : (s : List ℕ) (q : ℕ) (w b : List ℕ) (tests seen : List (Bool × Fault)) (o done : Outcome) → seen ≡ tests → (Passed tests → done ≡ written q w o)
    → decide (put s q w) b seen done ≡ written q w (decide s b tests o)
unfolding decide
decided_write s q w b tests seen o done e g = ap (λ (xs : List (Bool × Fault)). decide (put s q w) b xs done) e ∙ go tests g
  where
    go : (xs : List (Bool × Fault)) → (Passed xs → done ≡ written q w o) → first_of (refuse (put s q w) b) xs done ≡ written q w (first_of (refuse s b) xs o)
    go [] h = h tt
    go (x ∷ xs) h = at x.0 refl (go xs)
      where
        at : (t : Bool) → x.0 ≡ t → ((Passed xs → done ≡ written q w o) → first_of (refuse (put s q w) b) xs done ≡ written q w (first_of (refuse s b) xs o))
            → cond t (refuse (put s q w) b x.1) (first_of (refuse (put s q w) b) xs done) ≡ written q w (cond t (refuse s b x.1) (first_of (refuse s b) xs o))
        at true y ih = refl
        at false y ih = ih (λ p. h (y, p))

-- the same where tests behind others see it only if one of those holds
decided_after : (s : List ℕ) (q : ℕ) (w b : List ℕ) (tests begun rest seen : List (Bool × Fault)) (o done : Outcome) → begun ≡ tests → (Passed tests → seen ≡ rest)
    → (Passed (tests ++ rest) → done ≡ written q w o) → decide (put s q w) b (begun ++ seen) done ≡ written q w (decide s b (tests ++ rest) o)
unfolding decide
decided_after s q w b tests begun rest seen o done e f g =
    ap (λ (xs : List (Bool × Fault)). decide (put s q w) b (xs ++ seen) done) e ∙ same_after (refuse (put s q w) b) tests seen rest done f
    ∙ decided_write s q w b (tests ++ rest) (tests ++ rest) o done refl g

-- ---- what is moved to and from other values
-- an accepted buffer, and values at base that a write into q.. does not meet
module _ (k : Context) (base : ℕ) (b : List ℕ) (d : first_bad k b ≡ Ok tt) (q : ℕ) (w : List ℕ) (c : Clear base (bytes_of (scope_for k.usage)) q (length w)) where
  -- a counted element's value lies among those at base
  element_apart : (i : ℕ) → i < count_of b → (x : Entry) (p : ℕ) → kind_of (id_at b (offset_at b i)) ≡ Listed x → x.source ≡ Stored p → Clear (base + p) x.size q (length w)
  element_apart i h x p e st = clear_sym (clear_part p x.size (element_within k b d i h x p e st) (clear_sym c))

  element_write : (i : ℕ) → i < count_of b → (s : List ℕ) (kind : Kind) → kind_of (id_at b (offset_at b i)) ≡ kind → size_fits kind (size_at b (offset_at b i)) ≡ true
      → put_as kind base (value_at b (offset_at b i)) (put s q w) ≡ put (put_as kind base (value_at b (offset_at b i)) s) q w
  unfolding put_as put_from
  element_write i h s Unlisted e f = refl
  element_write i h s Nop e f = refl
  element_write i h s (Listed x) e f = go x.source refl
    where
      long : length (value_at b (offset_at b i)) ≡ x.size
      long = length_bytes_at b (offset_at b i + 4) (size_at b (offset_at b i)) (counted_good k b d i h).inside ∙ size_listed x (size_at b (offset_at b i)) f

      go : (y : Source) → x.source ≡ y → put_from y base (value_at b (offset_at b i)) (put s q w) ≡ put (put_from y base (value_at b (offset_at b i)) s) q w
      go (Fixed n) z = refl
      go (Stored p) z = sym (put_comm s (base + p) (value_at b (offset_at b i)) q w (subst (λ (n : ℕ). Clear (base + p) n q (length w)) (sym long) (element_apart i h x p e z)))

  applied_write : (n : ℕ) → n ≤ count_of b → (s : List ℕ) → applied base b n (put s q w) ≡ put (applied base b n s) q w
  unfolding applied
  applied_write zero h s = refl
  applied_write (suc n) h s =
      ap (put_as (kind_of (id_at b (offset_at b n))) base (value_at b (offset_at b n))) (applied_write n (omega arith) s)
      ∙ element_write n (omega arith) (applied base b n s) (kind_of (id_at b (offset_at b n))) refl (counted_good k b d n (omega arith)).sized

  element_read : (i : ℕ) → i < count_of b → (s a : List ℕ) (kind : Kind) → kind_of (id_at b (offset_at b i)) ≡ kind → fill_as kind base (put s q w) (offset_at b i) a ≡ fill_as kind base s (offset_at b i) a
  unfolding fill_as read_from
  element_read i h s a Unlisted e = refl
  element_read i h s a Nop e = refl
  element_read i h s a (Listed x) e = ap (put a (offset_at b i + 4)) (go x.source refl)
    where
      go : (y : Source) → x.source ≡ y → read_from y base x.size (put s q w) ≡ read_from y base x.size s
      go (Fixed n) z = refl
      go (Stored p) z = read_other s q w (base + p) x.size (clear_sym (element_apart i h x p e z))

  filled_write : (n : ℕ) → n ≤ count_of b → (s : List ℕ) → filled base (put s q w) b n ≡ filled base s b n
  unfolding filled
  filled_write zero h s = refl
  filled_write (suc n) h s =
      element_read n (omega arith) s (filled base (put s q w) b n) (kind_of (id_at b (offset_at b n))) refl
      ∙ ap (fill_as (kind_of (id_at b (offset_at b n))) base s (offset_at b n)) (filled_write n (omega arith) s)

-- ---- the output of a run
module _ (base q : ℕ) (w : List ℕ) (c : Clear base slot_bytes q (length w)) where
  valued_write : (s ids : List ℕ) → all_fit ids ≡ true → valued base (put s q w) ids ≡ valued base s ids
  unfolding valued
  valued_write s [] e = refl
  valued_write s (id ∷ ids) e =
      let p = both _ (all_fit ids) e in
      let f = both (leb (element_of id).size 16) _ (both (ltb (number_of id) 170) _ p.0).1 in
      let z : (element_of id).position + (element_of id).size ≤ slot_bytes = leb-true _ _ f.1 in
      ap₂ (λ (x : List ℕ) (xs : List (ℕ × List ℕ)). (id, x) ∷ xs)
      (read_other s q w (base + (element_of id).position) (element_of id).size (clear_part (element_of id).position (element_of id).size z (clear_sym c))) (valued_write s ids p.1)

  output_write : (s : List ℕ) (exit : ℕ) → output_of base (put s q w) exit ≡ output_of base s exit
  unfolding output_of
  output_write s exit = ap message (valued_write s (returned exit) (returned_fit exit))

-- ---- the slot of a vCPU
-- no other slot has the word, since the store is well formed
pub placed_slot : (l : Layout) → Sound l → (t : List ℕ) → well_formed l t ≡ true → (g v j : ℕ) → j < l.slots → Placed l (header l t) g v j → slot_of l (header l t) g v ≡ j
unfolding slot_of slot_holding holds
placed_slot l so t good g v j k p =
    let f = words_are l (header l t) (formed l t good).words in
    simp (p.alive, lt-ltb _ _ p.low)
    (found_first (holds l (header l t) (word_of l g v)) l.slots 0 j (record {
      has = eq-eqb _ _ p.named;
      above = omega arith;
      below = omega arith;
      none = λ a x y. ne_eqb _ _ (λ z. f.sole j a k y (λ n. word_used l so g v (sym p.named ∙ n)) (z ∙ sym p.named));
    }))

-- vCPUs of two guests have two slots
placed_apart : (l : Layout) (h : List ℕ) (g v guest vcpu j : ℕ) → Placed l h g v j → Placed l h guest vcpu j → guest ≡ g
unfolding word_of
placed_apart l h g v guest vcpu j p r =
    let e : (l.ids + guest) * 2048 + vcpu ≡ (l.ids + g) * 2048 + v = sym r.named ∙ p.named in
    omega (arith, e, p.low, r.low)

-- ---- each call
module _ (l : Layout) (so : Sound l) (s : List ℕ) (good : well_formed l s ≡ true) (g v j : ℕ) (found : slot_of l (header l s) g v ≡ j) (below : j < l.slots) where
  long : length s ≡ l.size
  long = (formed l s good).long

  full : length (header l s) ≡ l.guests_at
  full = header_full l so s long

  ours : Placed l (header l s) g v j
  ours = slot_placed l (header l s) g v j found below

  -- the vCPU's guest, its word and its mark, in what a call leaves
  record Keeps (o : Outcome) : Type 0 where
    alive : live l (header l o.store) g ≡ live l (header l s) g
    named : word l (header l o.store) j ≡ word l (header l s) j
    marked : is_taken l (header l o.store) j ≡ is_taken l (header l s) j

  -- a call that leaves the header
  keeps_header : (o : Outcome) → header l o.store ≡ header l s → Keeps o
  keeps_header o e =
      record { alive = ap (λ (h : List ℕ). live l h g) e; named = ap (λ (h : List ℕ). word l h j) e; marked = ap (λ (h : List ℕ). is_taken l h j) e }

  kept : (b : List ℕ) (f : Fault) → Keeps (refuse s b f)
  kept b f = keeps_header (refuse s b f) refl

  -- another guest's vCPU, or one that is not there, is not in the slot
  slot_other : (guest vcpu : ℕ) → guest ≢ g → slot_of l (header l s) guest vcpu ≢ j
  slot_other guest vcpu n e = n (placed_apart l (header l s) g v guest vcpu j ours (slot_placed l (header l s) guest vcpu j e below))

  -- no free slot is the vCPU's
  slot_taken : (a : ℕ) → word l (header l s) a ≡ 0 → a ≢ j
  slot_taken a z e = word_used l so g v (sym ours.named ∙ ap (word l (header l s)) (sym e) ∙ z)

  caps_keeps : (flags : ℕ) → Keeps (get_capabilities l s flags)
  unfolding get_capabilities
  caps_keeps flags = decided Keeps s [] _ _ (kept []) (λ p. keeps_header _ refl)

  clock_keeps : (guest timebase : ℕ) → Keeps (guest_clock l s guest timebase)
  unfolding guest_clock
  clock_keeps guest timebase = decided Keeps s [] _ _ (kept []) (λ p. keeps_header _ refl)

  got_keeps : (flags guest vcpu : ℕ) (b : List ℕ) → Keeps (get_elements l s flags guest vcpu b)
  unfolding get_elements
  got_keeps flags guest vcpu b = decided Keeps s b _ _ (kept b) (λ p. keeps_header _ refl)

  elements_keeps : (flags guest vcpu : ℕ) (b : List ℕ) → Keeps (set_elements l s flags guest vcpu b)
  unfolding set_elements
  elements_keeps flags guest vcpu b =
      decided Keeps s [] _ _ (kept [])
      (λ p. keeps_header _ (applied_header l so (base_of l s (has_bit0 flags) guest vcpu) b (count_of b) s (base_values l so s (has_bit0 flags) guest vcpu)))

  -- a hand-over of another guest's vCPU
  handed_keeps : (a : Answer) (k : ℕ) (w c : List ℕ) (b : ℕ) → k < l.slots → k ≢ j → Keeps (record { answer = a; store = handed l s k w b; buffer = c })
  handed_keeps a k w c b h n = record {
    alive = handed_live l so s k h w b long g;
    named = handed_word l so s k h w b long j below;
    marked = handed_mark_else l so s k h w b long j (λ z. n (sym z));
  }

  take_keeps : (guest vcpu : ℕ) (b : List ℕ) → guest ≢ g → Keeps (take_vcpu l s guest vcpu b)
  unfolding take_vcpu taken
  take_keeps guest vcpu b n =
      decided Keeps s b _ _ (kept b) (λ p. handed_keeps _ _ (zeros slot_bytes) _ 1 (take_slotted l s guest vcpu b p).below (slot_other guest vcpu n))

  give_keeps : (guest vcpu : ℕ) (b : List ℕ) → guest ≢ g → Keeps (give_vcpu l s guest vcpu b)
  unfolding give_vcpu
  give_keeps guest vcpu b n =
      decided Keeps s [] _ _ (kept []) (λ p. handed_keeps _ _ (values_of b) _ 0 (give_slotted l s guest vcpu b p).below (slot_other guest vcpu n))

  get_keeps : (flags guest vcpu : ℕ) (b : List ℕ) → guest ≢ g → Keeps (get_state l s flags guest vcpu b)
  get_keeps flags guest vcpu b n = get_ways l s flags guest vcpu b Keeps (λ e. got_keeps flags guest vcpu b) (λ t. take_keeps guest vcpu b n)

  set_keeps : (flags guest vcpu : ℕ) (b : List ℕ) → guest ≢ g → Keeps (set_state l s flags guest vcpu b)
  set_keeps flags guest vcpu b n = set_ways l s flags guest vcpu b Keeps (λ e. elements_keeps flags guest vcpu b) (λ t. give_keeps guest vcpu b n)

  run_keeps : (flags guest vcpu : ℕ) (input output effect : List ℕ) (exit : ℕ) → Keeps (run_vcpu l s flags guest vcpu input output effect exit)
  unfolding run_vcpu ran ran_store
  run_keeps flags guest vcpu input output effect exit =
      let base = base_of l s false guest vcpu in
      let b = input_of s base input in
      let at = base_values l so s false guest vcpu in
      decided Keeps s output _ _ (kept output)
      (λ p. keeps_header _ (applied_header l so base effect (count_of effect) (applied base b (count_of b) s) at ∙ applied_header l so base b (count_of b) s at))

  -- the new guest was dead, and this one is live
  guest_made : (k : ℕ) → 1 ≤ k → k ≤ l.guests → live l (header l s) k ≡ false → Keeps (accept k (with_guest l s k))
  unfolding with_guest
  guest_made k lo hi dead =
      let e : header l (with_guest l s k) ≡ put_live (header l s) k 1 = header_values l so (put_live s k 1) (guest_at l k) (zeros guest_bytes) (omega arith) ∙ header_live l so s k 1 hi in
      record {
        alive = ap (λ (h : List ℕ). live l h g) e ∙ live_else l so (header l s) full k lo hi 1 g (λ z. no_bool (sym dead ∙ ap (live l (header l s)) (sym z) ∙ ours.alive));
        named = ap (λ (h : List ℕ). word l h j) e ∙ word_live l so (header l s) full k lo hi 1 j;
        marked = guest_mark l so s good j below k lo hi;
      }

  guest_keeps : (flags token : ℕ) → Keeps (create_guest l s flags token)
  unfolding create_guest free_guest is_dead
  guest_keeps flags token =
      decided Keeps s [] _ _ (kept [])
      (λ p. let hi : free_guest l (header l s) ≤ l.guests = ltb-false _ _ p.1.1.1.0 in
      guest_made (free_guest l (header l s)) (first_bounds (is_dead l (header l s)) l.guests 1).0 hi (not-true _ (first_found (is_dead l (header l s)) l.guests 1 (omega (arith, hi))).has))

  -- the slot that create takes is free
  free_word : free_slot l (header l s) < l.slots → word l (header l s) (free_slot l (header l s)) ≡ 0
  unfolding free_slot slot_holding holds
  free_word h = eqb-true _ _ (first_found (holds l (header l s) 0) l.slots 0 (omega arith)).has

  vcpu_made : (a guest vcpu : ℕ) → a < l.slots → a ≢ j → Keeps (accept 0 (with_vcpu l s a guest vcpu))
  unfolding with_vcpu
  vcpu_made a guest vcpu h n =
      let u = word_of l guest vcpu in
      let e : header l (with_vcpu l s a guest vcpu) ≡ put_slot l (header l s) a u = header_values l so (put_slot l s a u) (slot_at l a) (zeros slot_bytes) (omega (arith, so.guests_fit)) ∙ header_slot l so s a u h in
      record {
        alive = ap (λ (x : List ℕ). live l x g) e ∙ live_slot l so (header l s) full a h u g;
        named = ap (λ (x : List ℕ). word l x j) e ∙ word_slot_else l so (header l s) full a h u j below (λ z. n (sym z));
        marked = vcpu_mark_else l so s good j below a guest vcpu h (λ z. n (sym z));
      }

  vcpu_keeps : (flags guest vcpu : ℕ) → Keeps (create_vcpu l s flags guest vcpu)
  unfolding create_vcpu
  vcpu_keeps flags guest vcpu =
      decided Keeps s [] _ _ (kept [])
      (λ p. let h : free_slot l (header l s) < l.slots = ltb-true _ _ (not-false _ p.1.1.1.1.1.0) in
      vcpu_made (free_slot l (header l s)) guest vcpu h (slot_taken (free_slot l (header l s)) (free_word h)))

  ours_guest : guest_of l (word l (header l s) j) ≡ g
  unfolding guest_of word_of
  ours_guest = ap (guest_of l) ours.named ∙ omega (arith, ours.low)

  delete_keeps : (flags guest : ℕ) → has_bit0 flags ≡ false → guest ≢ g → Keeps (delete_guest l s flags guest)
  unfolding delete_guest
  delete_keeps flags guest one n = decided Keeps s [] _ _ (kept []) (λ p. go (has_bit0 flags) one p.1.1.0)
    where
      go : (all : Bool) → all ≡ false → (not all && not (live l (header l s) guest)) ≡ false → Keeps (accept 0 (cond all (without_guests l s) (without_guest l s guest)))
      go true e x = absurd (no_bool (sym e))
      go false e x =
          let lv = not-false _ x in
          record {
            alive = deleted_else l so s good guest lv g (λ z. n (sym z));
            named = deleted_other l so s good guest lv j below (λ z. n (sym z ∙ ours_guest));
            marked = deleted_mark l so s good guest lv j below (λ z. n (sym z ∙ ours_guest));
          }

  keeps : (c : Call) → Elsewhere g c → Keeps (outcome l s c)
  unfolding outcome
  keeps (GetCapabilities flags) n = caps_keeps flags
  keeps (SetCapabilities flags bitmap) n = absurd n
  keeps (CreateGuest flags token) n = guest_keeps flags token
  keeps (CreateVcpu flags guest vcpu) n = vcpu_keeps flags guest vcpu
  keeps (GetState flags guest vcpu buffer) n = get_keeps flags guest vcpu buffer n
  keeps (SetState flags guest vcpu buffer) n = set_keeps flags guest vcpu buffer n
  keeps (RunVcpu flags guest vcpu input output effect exit) n = run_keeps flags guest vcpu input output effect exit
  keeps (DeleteGuest flags guest) n = delete_keeps flags guest n.0 n.1
  keeps (GuestClock guest timebase) n = clock_keeps guest timebase

  pub apart_slot : (c : Call) → Elsewhere g c → slot_of l (header l (outcome l s c).store) g v ≡ j
  apart_slot c n =
      let k = keeps c n in
      placed_slot l so (outcome l s c).store (well_formed_kept l so s good c) g v j below (record { alive = k.alive ∙ ours.alive; low = ours.low; named = k.named ∙ ours.named })

  pub apart_mark : (c : Call) → Elsewhere g c → is_taken l (header l (outcome l s c).store) j ≡ is_taken l (header l s) j
  apart_mark c n = (keeps c n).marked

  -- ---- a write into the slot's values or the guest's own, before or after the call
  guest_bounds : (1 ≤ g) × (g ≤ l.guests)
  guest_bounds = live_parts l (header l s) g ours.alive

  -- from q on, n bytes
  abbrev Own : ℕ → ℕ → Type 0
  Own q n = ((slot_at l j ≤ q) × (q + n ≤ slot_at l j + slot_bytes)) ⊎ ((guest_at l g ≤ q) × (q + n ≤ guest_at l g + guest_bytes))

  module _ (q : ℕ) (w : List ℕ) (own : Own q (length w)) where
    behind : l.guests_at ≤ q
    behind = go own
      where
        go : Own q (length w) → l.guests_at ≤ q
        go (inl h) = omega (arith, h.0, so.guests_fit)
        go (inr h) = omega (arith, h.0)

    room : q + length w ≤ length s
    room = go own
      where
        go : Own q (length w) → q + length w ≤ length s
        go (inl h) = omega (arith, h.1, long, so.whole)
        go (inr h) = omega (arith, h.1, long, so.whole, so.guests_fit, guest_bounds.0, guest_bounds.1)

    -- the tests see the header and the length only
    formed_same : well_formed l (put s q w) ≡ well_formed l s
    formed_same = formed_values l so s q w behind

    header_same : header l (put s q w) ≡ header l s
    header_same = header_values l so s q w behind

    slot_clear : (a : ℕ) → a ≢ j → Clear (slot_at l a) slot_bytes q (length w)
    slot_clear a n = by own
      where
        go : (slot_at l j ≤ q) × (q + length w ≤ slot_at l j + slot_bytes) → Clear (slot_at l a) slot_bytes (slot_at l j) slot_bytes → Clear (slot_at l a) slot_bytes q (length w)
        go h (left x) = left (omega (arith, h.0, x))
        go h (right x) = right (omega (arith, h.1, x))

        by : Own q (length w) → Clear (slot_at l a) slot_bytes q (length w)
        by (inl h) = go h (slots_apart l a j n)
        by (inr h) = right (omega (arith, h.1, so.guests_fit, guest_bounds.0, guest_bounds.1))

    guest_clear : (k : ℕ) → k ≢ g → 1 ≤ k → k ≤ l.guests → Clear (guest_at l k) guest_bytes q (length w)
    guest_clear k n lo hi = by own
      where
        go : (guest_at l g ≤ q) × (q + length w ≤ guest_at l g + guest_bytes) → Clear (guest_at l k) guest_bytes (guest_at l g) guest_bytes → Clear (guest_at l k) guest_bytes q (length w)
        go h (left x) = left (omega (arith, h.0, x))
        go h (right x) = right (omega (arith, h.1, x))

        by : Own q (length w) → Clear (guest_at l k) guest_bytes q (length w)
        by (inl h) = left (omega (arith, h.0, so.guests_fit))
        by (inr h) = go h (guests_apart l k g lo guest_bounds.0 n)

    caps_write : (flags : ℕ) → get_capabilities l (put s q w) flags ≡ written q w (get_capabilities l s flags)
    unfolding get_capabilities
    caps_write flags = decided_write s q w [] _ _ _ _ (rw formed_same) (λ p. refl)

    -- the clock's offset is one of the guest's values
    offset_place : position GuestWide 0x0004 ≡ 4
    unfolding position below table
    offset_place = refl

    offset_same : (guest : ℕ) → guest ≢ g → 1 ≤ guest → guest ≤ l.guests → offset_of l (put s q w) guest ≡ offset_of l s guest
    offset_same guest n lo hi =
        be_other s q w (guest_at l guest + position GuestWide 0x0004) 8 (clear_part (position GuestWide 0x0004) 8 (omega (arith, offset_place)) (clear_sym (guest_clear guest n lo hi)))

    -- and so is the PVR, which decides the list
    context_same : (guest : ℕ) (usage : Usage) → guest ≢ g → live l (header l s) guest ≡ true → context_of l (put s q w) guest usage ≡ context_of l s guest usage
    context_same guest usage n lv =
        let b = live_parts l (header l s) guest lv in
        let place = pvr_place in
        ap₂ (λ (h : List ℕ) (v : ℕ). record { usage = usage; capabilities = capabilities_of h; offer = offer_of v }) header_same
        (be_other s q w (guest_at l guest + position GuestWide 0x0003) 4
        (clear_part (position GuestWide 0x0003) 4 (omega (arith, place)) (clear_sym (guest_clear guest n b.0 b.1))))

    clock_write : (guest timebase : ℕ) → guest ≢ g → guest_clock l (put s q w) guest timebase ≡ written q w (guest_clock l s guest timebase)
    unfolding guest_clock
    clock_write guest timebase n =
        decided_write s q w [] _ _ _ _ (rw (formed_same, header_same))
        (λ p. let b = live_parts l (header l s) guest (not-false _ p.1.0) in
        ap (λ (x : ℕ). accept ((timebase + rounded_up x) % 2 ^ 64) (put s q w)) (offset_same guest n b.0 b.1))

    -- fields of the header, in a store t of the same length
    module _ (t : List ℕ) (same : length t ≡ length s) where
      live_beside : (k b : ℕ) → k ≤ l.guests → put_live (put t q w) k b ≡ put (put_live t k b) q w
      live_beside = live_write l so t q w behind (omega (arith, room))

      slot_beside : (a u : ℕ) → a < l.slots → put_slot l (put t q w) a u ≡ put (put_slot l t a u) q w
      slot_beside = slot_write l so t q w behind (omega (arith, room))

      drop_write : (guest a : ℕ) → a < l.slots → drop_word l guest a (put t q w) ≡ put (drop_word l guest a t) q w
      unfolding drop_word
      drop_write guest a h =
          ap (λ (x : List ℕ). cond (eqb (guest_of l (word l x a)) guest) (put_slot l (put t q w) a 0) (put t q w)) (header_values l so t q w behind)
          ∙ go (eqb (guest_of l (word l (header l t) a)) guest)
        where
          go : (x : Bool) → cond x (put_slot l (put t q w) a 0) (put t q w) ≡ put (cond x (put_slot l t a 0) t) q w
          go true = slot_beside a 0 h
          go false = refl

    -- values that are zeroed
    zeros_write : (t : List ℕ) (i n : ℕ) → Clear i n q (length w) → put (put t q w) i (zeros n) ≡ put (put t i (zeros n)) q w
    zeros_write t i n c = sym (put_comm t i (zeros n) q w (subst (λ (m : ℕ). Clear i m q (length w)) (sym (length_zeros n)) c))

    made_guest : (k : ℕ) → k ≢ g → 1 ≤ k → k ≤ l.guests → with_guest l (put s q w) k ≡ put (with_guest l s k) q w
    unfolding with_guest
    made_guest k n lo hi = ap (λ (t : List ℕ). put t (guest_at l k) (zeros guest_bytes)) (live_beside s refl k 1 hi) ∙ zeros_write (put_live s k 1) (guest_at l k) guest_bytes (guest_clear k n lo hi)

    -- the id that is free is no live guest's
    dead_other : free_guest l (header l s) ≤ l.guests → free_guest l (header l s) ≢ g
    unfolding free_guest is_dead
    dead_other hi z =
        no_bool (sym (not-true _ (first_found (is_dead l (header l s)) l.guests 1 (omega (arith, hi))).has) ∙ ap (live l (header l s)) z ∙ ours.alive)

    guest_write : (flags token : ℕ) → create_guest l (put s q w) flags token ≡ written q w (create_guest l s flags token)
    unfolding create_guest free_guest
    guest_write flags token =
        decided_write s q w [] _ _ _ _ (rw (formed_same, header_same))
        (λ p. let hi : free_guest l (header l s) ≤ l.guests = ltb-false _ _ p.1.1.1.0 in
        rw header_same (ap (accept (free_guest l (header l s))) (made_guest (free_guest l (header l s)) (dead_other hi) (first_bounds (is_dead l (header l s)) l.guests 1).0 hi)))

    made_vcpu : (a guest vcpu : ℕ) → a < l.slots → a ≢ j → with_vcpu l (put s q w) a guest vcpu ≡ put (with_vcpu l s a guest vcpu) q w
    unfolding with_vcpu
    made_vcpu a guest vcpu h n =
        ap (λ (t : List ℕ). put t (slot_at l a) (zeros slot_bytes)) (slot_beside s refl a (word_of l guest vcpu) h) ∙ zeros_write (put_slot l s a (word_of l guest vcpu)) (slot_at l a) slot_bytes (slot_clear a n)

    vcpu_write : (flags guest vcpu : ℕ) → create_vcpu l (put s q w) flags guest vcpu ≡ written q w (create_vcpu l s flags guest vcpu)
    unfolding create_vcpu
    vcpu_write flags guest vcpu =
        decided_write s q w [] _ _ _ _ (rw (formed_same, header_same))
        (λ p. let a = free_slot l (header l s) in
        let h : free_slot l (header l s) < l.slots = ltb-true _ _ (not-false _ p.1.1.1.1.1.0) in
        rw header_same (ap (accept 0) (made_vcpu a guest vcpu h (slot_taken a (free_word h)))))

    drops_write : (guest n : ℕ) → n ≤ l.slots → drop_words l guest n (put s q w) ≡ put (drop_words l guest n s) q w
    unfolding drop_words
    drops_write guest zero h = refl
    drops_write guest (suc n) h =
        ap (drop_word l guest n) (drops_write guest n (omega arith)) ∙ drop_write (drop_words l guest n s) (drop_less l so s good guest n (omega arith)).long guest n (omega arith)

    left_guest : (guest : ℕ) → guest ≤ l.guests → without_guest l (put s q w) guest ≡ put (without_guest l s guest) q w
    unfolding without_guest
    left_guest guest hi =
        ap (λ (t : List ℕ). put_live t guest 0) (drops_write guest l.slots (omega arith))
        ∙ live_beside (drop_words l guest l.slots s) (drop_less l so s good guest l.slots (omega arith)).long guest 0 hi

    delete_write : (flags guest : ℕ) → has_bit0 flags ≡ false → delete_guest l (put s q w) flags guest ≡ written q w (delete_guest l s flags guest)
    unfolding delete_guest
    delete_write flags guest one = decided_write s q w [] _ _ _ _ (rw (formed_same, header_same)) (λ p. go (has_bit0 flags) one p.1.1.0)
      where
        go : (all : Bool) → all ≡ false → (not all && not (live l (header l s) guest)) ≡ false
            → accept 0 (cond all (without_guests l (put s q w)) (without_guest l (put s q w) guest)) ≡ written q w (accept 0 (cond all (without_guests l s) (without_guest l s guest)))
        go true e x = absurd (no_bool (sym e))
        go false e x = ap (accept 0) (left_guest guest (live_parts l (header l s) guest (not-false _ x)).1)

    -- ---- the values of another guest, or of its vCPU
    base_same : (wide : Bool) (guest vcpu : ℕ) → base_of l (put s q w) wide guest vcpu ≡ base_of l s wide guest vcpu
    unfolding base_of
    base_same wide guest vcpu = rw header_same

    base_clear : (wide : Bool) (guest vcpu : ℕ) → guest ≢ g → live l (header l s) guest ≡ true → Clear (base_of l s wide guest vcpu) (cond wide guest_bytes slot_bytes) q (length w)
    unfolding base_of
    base_clear true guest vcpu n lv = let b = live_parts l (header l s) guest lv in guest_clear guest n b.0 b.1
    base_clear false guest vcpu n lv = slot_clear (slot_of l (header l s) guest vcpu) (slot_other guest vcpu n)

    abbrev targets : ℕ → ℕ → ℕ → List (Bool × Fault)
    targets flags guest vcpu = target_tests l s (supported_bits (has_bit0 flags)) flags (has_bit0 flags) guest vcpu

    targets_same : (flags guest vcpu : ℕ) → target_tests l (put s q w) (supported_bits (has_bit0 flags)) flags (has_bit0 flags) guest vcpu ≡ targets flags guest vcpu
    targets_same flags guest vcpu = rw (formed_same, header_same)

    got_write : (flags guest vcpu : ℕ) (b : List ℕ) → guest ≢ g → get_elements l (put s q w) flags guest vcpu b ≡ written q w (get_elements l s flags guest vcpu b)
    unfolding get_elements
    got_write flags guest vcpu b n =
        decided_after s q w b (targets flags guest vcpu) _ _ _ _ _ (targets_same flags guest vcpu)
        (λ p. ap (λ (k : Context). buffer_tests k b) (context_same guest (get_use (has_bit0 flags)) n (not-false _ p.1.1.0)))
        (λ p. let wide = has_bit0 flags in
        let c = subst (λ (m : ℕ). Clear (base_of l s wide guest vcpu) m q (length w)) (sym (get_room l s flags guest vcpu b)) (base_clear wide guest vcpu n (not-false _ p.1.1.0)) in
        rw (base_same wide guest vcpu)
        (ap (λ (x : List ℕ). record { answer = success 0; store = put s q w; buffer = x })
        (filled_write (context_of l s guest (get_use wide)) (base_of l s wide guest vcpu) b (walked l s flags guest vcpu b (get_use wide) p) q w c (count_of b) (omega arith) s)))

    elements_write : (flags guest vcpu : ℕ) (b : List ℕ) → guest ≢ g → set_elements l (put s q w) flags guest vcpu b ≡ written q w (set_elements l s flags guest vcpu b)
    unfolding set_elements
    elements_write flags guest vcpu b n =
        decided_after s q w [] (targets flags guest vcpu) _ _ _ _ _ (targets_same flags guest vcpu)
        (λ p. ap (λ (k : Context). buffer_tests k b) (context_same guest (set_use (has_bit0 flags)) n (not-false _ p.1.1.0)))
        (λ p. let wide = has_bit0 flags in
        let c = subst (λ (m : ℕ). Clear (base_of l s wide guest vcpu) m q (length w)) (sym (set_room l s flags guest vcpu b)) (base_clear wide guest vcpu n (not-false _ p.1.1.0)) in
        rw (base_same wide guest vcpu)
        (ap (accept 0) (applied_write (context_of l s guest (set_use wide)) (base_of l s wide guest vcpu) b (walked l s flags guest vcpu b (set_use wide) p) q w c (count_of b) (omega arith) s)))

    -- another guest's vCPU handed over
    handed_same : (guest vcpu : ℕ) (v : List ℕ) (b : ℕ) → guest ≢ g → slot_of l (header l s) guest vcpu < l.slots → length v ≡ slot_bytes
        → handed l (put s q w) (slot_of l (header l s) guest vcpu) v b ≡ put (handed l s (slot_of l (header l s) guest vcpu) v b) q w
    handed_same guest vcpu v b n k len = handed_write l so s _ k v b long len q w behind room (slot_clear _ (slot_other guest vcpu n))

    state_same : (guest vcpu : ℕ) → guest ≢ g → state_at (put s q w) (slot_at l (slot_of l (header l s) guest vcpu)) ≡ state_at s (slot_at l (slot_of l (header l s) guest vcpu))
    state_same guest vcpu n = read_other s q w (slot_at l (slot_of l (header l s) guest vcpu)) slot_bytes (clear_sym (slot_clear _ (slot_other guest vcpu n)))

    take_write : (guest vcpu : ℕ) (b : List ℕ) → guest ≢ g → take_vcpu l (put s q w) guest vcpu b ≡ written q w (take_vcpu l s guest vcpu b)
    unfolding take_vcpu taken
    take_write guest vcpu b n =
        decided_write s q w b _ _ _ _ (rw (formed_same, header_same))
        (λ p. rw header_same
        (ap₂ (λ (x y : List ℕ). record { answer = success 0; store = x; buffer = put b 0 (form vcpu y) })
        (handed_same guest vcpu (zeros slot_bytes) 1 n (take_slotted l s guest vcpu b p).below (length_zeros slot_bytes)) (state_same guest vcpu n)))

    give_write : (guest vcpu : ℕ) (b : List ℕ) → guest ≢ g → give_vcpu l (put s q w) guest vcpu b ≡ written q w (give_vcpu l s guest vcpu b)
    unfolding give_vcpu
    give_write guest vcpu b n =
        decided_write s q w [] _ _ _ _ (rw (formed_same, header_same))
        (λ p. rw header_same (ap (accept 0) (handed_same guest vcpu (values_of b) 0 n (give_slotted l s guest vcpu b p).below (given_length l s guest vcpu b p))))

    get_write : (flags guest vcpu : ℕ) (b : List ℕ) → guest ≢ g → get_state l (put s q w) flags guest vcpu b ≡ written q w (get_state l s flags guest vcpu b)
    unfolding get_state
    get_write flags guest vcpu b n = go (hands_over flags)
      where
        go : (t : Bool) → cond t (take_vcpu l (put s q w) guest vcpu b) (get_elements l (put s q w) flags guest vcpu b) ≡ written q w (cond t (take_vcpu l s guest vcpu b) (get_elements l s flags guest vcpu b))
        go true = take_write guest vcpu b n
        go false = got_write flags guest vcpu b n

    set_write : (flags guest vcpu : ℕ) (b : List ℕ) → guest ≢ g → set_state l (put s q w) flags guest vcpu b ≡ written q w (set_state l s flags guest vcpu b)
    unfolding set_state
    set_write flags guest vcpu b n = go (hands_over flags)
      where
        go : (t : Bool) → cond t (give_vcpu l (put s q w) guest vcpu b) (set_elements l (put s q w) flags guest vcpu b) ≡ written q w (cond t (give_vcpu l s guest vcpu b) (set_elements l s flags guest vcpu b))
        go true = give_write guest vcpu b n
        go false = elements_write flags guest vcpu b n

    -- ---- run
    module _ (flags guest vcpu : ℕ) (input output effect : List ℕ) (exit : ℕ) (n : guest ≢ g) where
      abbrev base : ℕ
      base = base_of l s false guest vcpu

      clear : Clear base slot_bytes q (length w)
      unfolding base_of
      clear = slot_clear (slot_of l (header l s) guest vcpu) (slot_other guest vcpu n)

      -- the registered sizes are two of the other slot's values
      size_same : (id : ℕ) → position Thread id + 16 ≤ slot_bytes → be (put s q w) (base + position Thread id + 8) 8 ≡ be s (base + position Thread id + 8) 8
      size_same id h = be_other s q w (base + position Thread id + 8) 8 (clear_part 8 8 (omega arith) (clear_part (position Thread id) 16 h (clear_sym clear)))

      places : (position Thread 0x0C00 ≡ 0) × (position Thread 0x0C01 ≡ 16)
      unfolding position below table
      places = (refl, refl)

      input_same : input_size (put s q w) base ≡ input_size s base
      input_same = size_same 0x0C00 (omega (arith, places.0))

      output_same : output_size (put s q w) base ≡ output_size s base
      output_same = size_same 0x0C01 (omega (arith, places.1))

      abbrev earlier : List (Bool × Fault)
      earlier = run_target_tests l s flags guest vcpu 0 (length input) (length output)

      earlier_same : run_target_tests l (put s q w) flags guest vcpu 0 (length input) (length output) ≡ earlier
      earlier_same = rw (formed_same, header_same, base_same false guest vcpu, input_same, output_same)

      content_same : Passed earlier → content_tests l (put s q w) guest (input_of (put s q w) (base_of l (put s q w) false guest vcpu) input) effect exit ≡ content_tests l s guest (input_of s base input) effect exit
      content_same p =
          let lv = not-false _ p.1.1.0 in
          rw (base_same false guest vcpu, input_same)
          (ap₂ (λ (k m : Context). bad_element k (input_of s base input) ∷ exit_tests m effect exit) (context_same guest RunInput n lv) (context_same guest InEffect n lv))

      -- the bytes of the lent input that count
      abbrev given : List ℕ
      given = input_of s base input

      ran_store_lem : Passed (run_tests l s flags guest vcpu input (length output) effect exit) → ran_store base given effect (put s q w) ≡ put (ran_store base given effect s) q w
      unfolding ran_store
      ran_store_lem p =
          ap (applied base effect (count_of effect)) (applied_write (context_of l s guest RunInput) base given (input_walked l s flags guest vcpu input output effect exit p) q w clear (count_of given) (omega arith) s)
          ∙ applied_write (context_of l s guest InEffect) base effect (effect_walked l s flags guest vcpu input output effect exit p) q w clear (count_of effect) (omega arith) (applied base given (count_of given) s)

      ran_write : Passed (run_tests l s flags guest vcpu input (length output) effect exit) → ran base (put s q w) given output effect exit ≡ written q w (ran base s given output effect exit)
      unfolding ran
      ran_write p =
          ap (λ (t : List ℕ). record { answer = success exit; store = t; buffer = put output 0 (output_of base t exit) }) (ran_store_lem p)
          ∙ ap (λ (x : List ℕ). record { answer = success exit; store = put (ran_store base given effect s) q w; buffer = put output 0 x }) (output_write base q w clear (ran_store base given effect s) exit)

      run_write : run_vcpu l (put s q w) flags guest vcpu input output effect exit ≡ written q w (run_vcpu l s flags guest vcpu input output effect exit)
      unfolding run_vcpu
      run_write = decided_after s q w output earlier _ _ _ _ _ earlier_same content_same (λ p. rw (base_same false guest vcpu, input_same) (ran_write p))

    pub apart_write : (c : Call) → Elsewhere g c → outcome l (put s q w) c ≡ record { answer = (outcome l s c).answer; store = put (outcome l s c).store q w; buffer = (outcome l s c).buffer }
    unfolding outcome
    apart_write (GetCapabilities flags) n = caps_write flags
    apart_write (SetCapabilities flags bitmap) n = absurd n
    apart_write (CreateGuest flags token) n = guest_write flags token
    apart_write (CreateVcpu flags guest vcpu) n = vcpu_write flags guest vcpu
    apart_write (GetState flags guest vcpu buffer) n = get_write flags guest vcpu buffer n
    apart_write (SetState flags guest vcpu buffer) n = set_write flags guest vcpu buffer n
    apart_write (RunVcpu flags guest vcpu input output effect exit) n = run_write flags guest vcpu input output effect exit n
    apart_write (DeleteGuest flags guest) n = delete_write flags guest n.0
    apart_write (GuestClock guest timebase) n = clock_write guest timebase n

  -- own values written back: the call leaves them there
  own_kept : (at n : ℕ) → Own at n → at + n ≤ l.size → (c : Call) → Elsewhere g c → bytes_at (outcome l s c).store at n ≡ bytes_at s at n
  own_kept at n own room c far =
      let w = bytes_at s at n in
      let t = (outcome l s c).store in
      let len : length (bytes_at s at n) ≡ n = length_bytes_at s at n (omega (arith, long, room)) in
      let e : (outcome l s c).store ≡ put (outcome l s c).store at (bytes_at s at n) =
      ap (λ (x : List ℕ). (outcome l x c).store) (sym (put_same s at n)) ∙ ap (λ (o : Outcome). o.store) (apart_write at w (subst (Own at) (sym len) own) c far) in
      ap₂ (λ (x : List ℕ) (m : ℕ). bytes_at x at m) e (sym len) ∙ read_back t at w (omega (arith, len, (formed l t (well_formed_kept l so s good c)).long, room))

  pub apart_values : (c : Call) → Elsewhere g c → bytes_at (outcome l s c).store (slot_at l j) slot_bytes ≡ bytes_at s (slot_at l j) slot_bytes
  apart_values = own_kept (slot_at l j) slot_bytes (inl (omega arith, omega arith)) (omega (arith, so.whole))

  pub apart_guest : (c : Call) → Elsewhere g c → bytes_at (outcome l s c).store (guest_at l g) guest_bytes ≡ bytes_at s (guest_at l g) guest_bytes
  apart_guest = own_kept (guest_at l g) guest_bytes (inr (omega arith, omega arith)) (omega (arith, so.whole, so.guests_fit, guest_bounds.0, guest_bounds.1))

  -- so that the guest's list stays
  pub apart_pvr : (c : Call) → Elsewhere g c → pvr_of l (outcome l s c).store g ≡ pvr_of l s g
  apart_pvr c far = pvr_kept l s (outcome l s c).store g (apart_guest c far)

-- ---- the hypotheses can be met: vCPU 2047 of guest 3 in slot 0, vCPU 0 of guest 1 in slot 1
abbrev sample : List ℕ
sample = put (fresh small) 8 (0xE0 ∷ 0 ∷ 0x9F ∷ 0xFF ∷ 0x88 ∷ 0x00 ∷ [])

met : (well_formed small sample ≡ true) × (slot_of small (header small sample) 3 2047 ≡ 0) × (slot_of small (header small sample) 1 0 ≡ 1)
unfolding well_formed fresh zeros put header bytes_at head_good capabilities_of be words_good every slot_good is_used guest_of is_taken alone lacks live slot_of slot_holding first holds word_of word bits bit
met = (refl, refl, refl)
