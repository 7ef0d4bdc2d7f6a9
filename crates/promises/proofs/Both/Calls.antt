-- THEOREM `call_both`: on two stores that mirror each other each call answers and writes the same, and leaves stores that do; but for a
-- create that the first answers with 9. Assumes nothing.
use mathlib.Core.Path.{◌≡◌, refl, sym, ap, ◌∙◌, subst}
use mathlib.Core.Logic.{◌≢◌}
use mathlib.Core.Bool.{Bool, true, false, not, ◌&&◌, cond}
use mathlib.Core.List.{List, [], ◌∷◌, ◌++◌}
use Prim.Native.Nat.{ℕ, ◌+◌, ◌%◌, ◌^◌, ◌≤◌, ◌<◌}
use native.Mathlib.Omega.{arith}
use lib.Dec.{leb, ltb}
use lib.ListN.{length}
use borrow.Author.Tests.{eqb-true, leb-false, lt-ltb, le-ltb, ltb-true, ltb-false, not-false}
use Rattle.octets.specs.Bytes.{bytes_at, put, be, zeros}
use Rattle.octets.proofs.Bytes.{length_zeros}
use Rattle.answer.specs.declared.Fault.{Fault}
use Rattle.answer.specs.declared.Fault.TheVariants.{Taken, Room}
use Rattle.answer.specs.Refusals.{first_of}
use Rattle.elements.specs.declared.Scope.TheVariants.{Guest as GuestWide, Thread}
use Rattle.elements.specs.Table.{table, below, position}
use Rattle.elements.specs.Right.{bytes_of}
use Rattle.rules.specs.declared.Usage.{Usage}
use Rattle.rules.specs.declared.Usage.TheVariants.{RunInput, Effect as InEffect}
use Rattle.rules.specs.Rules.{scope_for}
use Rattle.gsb.specs.Walk.{count_of, first_bad}
use Rattle.handover.specs.Form.{form, values_of, taken}
use Rattle.store.specs.declared.Layout.{Layout}
use Rattle.store.specs.Layout.{Sound, guest_bytes, slot_bytes, guest_at, slot_at}
use Rattle.store.specs.Header.{header, live, word, slot_of, free_slot, is_dead, free_guest}
use Rattle.store.specs.Store.{well_formed, with_guest, with_vcpu, without_guest, without_guests}
use Rattle.store.specs.Conversion.{Within, recoded}
use Rattle.store.proofs.Search.{first_bounds}
use Rattle.store.proofs.Tests.{live_parts}
use Rattle.store.proofs.Frame.{formed}
use Rattle.store.proofs.Kept.{vcpu_kept}
use Rattle.store.proofs.Recoded.{recoded_of}
use Rattle.transfer.specs.Transfer.{applied, filled}
use Rattle.transfer.proofs.Moving.{length_applied}
use Rattle.exits.specs.Exits.{output_of}
use Rattle.admission.specs.Refusals.{Outcome, success, accept, refuse, decide, has_bit0, hands_over, Passed, malformed, unsupported, not_live}
use Rattle.admission.specs.Target.{slot_named, is_away, vcpu_tests, base_of}
use Rattle.state.specs.HandOver.{take_tests, take_from, give_tests, give_to, take_vcpu, give_vcpu}
use Rattle.state.specs.State.{pvr_of, context_of, buffer_tests, supported_bits, set_use, get_use, set_elements, get_elements, set_state, get_state}
use Rattle.state.proofs.Buffers.{pvr_place}
use Rattle.run.specs.Run.{run_bits, input_size, output_size, lent_tests, input_of, content_tests, run_tests, ran_store, ran, run_vcpu}
use Rattle.guests.specs.Guests.{create_guest, create_vcpu, delete_guest}
use Rattle.l0.specs.Calls.{get_capabilities, set_capabilities, offset_of, rounded_up, guest_clock, Call, GetCapabilities, SetCapabilities, CreateGuest, CreateVcpu, GetState, SetState, RunVcpu, DeleteGuest, GuestClock, outcome}
use Rattle.promises.specs.Mirror.{place_of, room_of, Inside, Mirrors}
use Rattle.promises.specs.Both.{is_create}
use Rattle.promises.proofs.HandedOver.{slot_placed, word_used, take_slotted, give_slotted, slotted_word, given_length}
use Rattle.promises.proofs.Kept.{decided_two, applied_header, applied_kept, base_values}
use Rattle.promises.proofs.States.{walked, get_room, set_room}
use Rattle.promises.proofs.Runs.{input_walked, effect_walked}
use Rattle.promises.proofs.Targets.{passed_first, named_tests, away_test, index_of, base_index, index_inside}
use Rattle.promises.proofs.Both.Windows.{be_both, filled_both, output_both}
use Rattle.promises.proofs.Both.Searches.{absent_both, exists_both, slot_found, away_found, any_live_both, slot_free, guest_free}
use Rattle.promises.proofs.Both.Values.{Values, values_applied}
use Rattle.promises.proofs.Both.Stores.{behind_mirror, guest_mirror, vcpu_mirror, delete_mirror, delete_all_mirror, caps_mirror, handed_mirror}
use Rattle.std.proofs.Common.{Ok}

-- what a call leaves on both: the same answer and buffer, and stores that still mirror each other
pub record Agree (l m : Layout) (o p : Outcome) : Type 0 where
  pub answer : p.answer ≡ o.answer
  pub buffer : p.buffer ≡ o.buffer
  pub stores : Mirrors l m o.store p.store

module _ (l m : Layout) (so : Sound l) (so' : Sound m) (within : Within l m) (s t : List ℕ) (mirror : Mirrors l m s t) where
  abbrev h : List ℕ
  h = header l s

  abbrev h' : List ℕ
  h' = header m t

  long : length s ≡ l.size
  long = (formed l s mirror.formed).long

  long' : length t ≡ m.size
  long' = (formed m t mirror.formed').long

  -- ---- tests in a row
  -- the same tests xs; then, where none holds, the same tests zs; then what is done
  decided_more : (b : List ℕ) (xs ys zs ws : List (Bool × Fault)) (o p : Outcome) → ys ≡ xs → (Passed xs → ws ≡ zs) → (Passed (xs ++ zs) → Agree l m o p) → Agree l m (decide s b (xs ++ zs) o) (decide t b (ys ++ ws) p)
  decided_more b = decided_two (Agree l m) s t b (λ f. record { answer = refl; buffer = refl; stores = mirror })

  decided_both : (b : List ℕ) (xs ys : List (Bool × Fault)) (o p : Outcome) → ys ≡ xs → (Passed xs → Agree l m o p) → Agree l m (decide s b xs o) (decide t b ys p)
  decided_both b xs ys o p e g = decided_more b [] [] xs ys o p refl (λ n. e) g

  -- a create: the same tests xs, then 9, which the first does not answer with
  decided_room : (xs ys : List (Bool × Fault)) (r r' : Bool) (o p : Outcome) → ys ≡ xs → (decide s [] (xs ++ (r, Room) ∷ []) o).answer.fault ≢ Room
      → (Passed (xs ++ (r, Room) ∷ []) → (r' ≡ false) × Agree l m o p) → Agree l m (decide s [] (xs ++ (r, Room) ∷ []) o) (decide t [] (ys ++ (r', Room) ∷ []) p)
  unfolding decide
  decided_room xs ys r r' o p e n g =
      subst (λ (vs : List (Bool × Fault)). Agree l m (first_of (refuse s []) (xs ++ (r, Room) ∷ []) o) (first_of (refuse t []) (vs ++ (r', Room) ∷ []) p)) (sym e) (go xs n g)
    where
      last : (x : Bool) → r ≡ x → (cond x (refuse s [] Room) o).answer.fault ≢ Room → ((r ≡ false) × Unit {0} → (r' ≡ false) × Agree l m o p) → Agree l m (cond x (refuse s [] Room) o) (cond r' (refuse t [] Room) p)
      last true q k d = absurd (k refl)
      last false q k d = let z = d (q, tt) in subst (λ (x : Bool). Agree l m o (cond x (refuse t [] Room) p)) (sym z.0) z.1

      go : (vs : List (Bool × Fault)) → (first_of (refuse s []) (vs ++ (r, Room) ∷ []) o).answer.fault ≢ Room → (Passed (vs ++ (r, Room) ∷ []) → (r' ≡ false) × Agree l m o p)
          → Agree l m (first_of (refuse s []) (vs ++ (r, Room) ∷ []) o) (first_of (refuse t []) (vs ++ (r', Room) ∷ []) p)
      go [] k d = last r refl k d
      go (v ∷ vs) k d = at v.0 refl k (go vs)
        where
          at : (x : Bool) → v.0 ≡ x → (cond x (refuse s [] v.1) (first_of (refuse s []) (vs ++ (r, Room) ∷ []) o)).answer.fault ≢ Room
              → ((first_of (refuse s []) (vs ++ (r, Room) ∷ []) o).answer.fault ≢ Room → (Passed (vs ++ (r, Room) ∷ []) → (r' ≡ false) × Agree l m o p)
              → Agree l m (first_of (refuse s []) (vs ++ (r, Room) ∷ []) o) (first_of (refuse t []) (vs ++ (r', Room) ∷ []) p))
              → Agree l m (cond x (refuse s [] v.1) (first_of (refuse s []) (vs ++ (r, Room) ∷ []) o)) (cond x (refuse t [] v.1) (first_of (refuse t []) (vs ++ (r', Room) ∷ []) p))
          at true q c ih = record { answer = refl; buffer = refl; stores = mirror }
          at false q c ih = ih c (λ y. d (q, y))

  formed_both : well_formed m t ≡ well_formed l s
  formed_both = mirror.formed' ∙ sym mirror.formed

  -- ---- capabilities
  get_caps_both : (flags : ℕ) → Agree l m (get_capabilities l s flags) (get_capabilities m t flags)
  unfolding get_capabilities
  get_caps_both flags = decided_both [] _ _ _ _ (rw formed_both) (λ p. record { answer = refl; buffer = refl; stores = mirror })

  set_caps_both : (flags bitmap : ℕ) → Agree l m (set_capabilities l s flags bitmap) (set_capabilities m t flags bitmap)
  unfolding set_capabilities
  set_caps_both flags bitmap =
      decided_both [] _ _ _ _ (rw (formed_both, any_live_both l m so so' within s t mirror, mirror.capabilities))
      (λ p. record { answer = refl; buffer = refl; stores = caps_mirror l m so so' within s t mirror bitmap (eqb-true _ _ (not-false _ p.1.1.0)) })

  -- ---- create guest, create vCPU
  free_from : 1 ≤ free_guest l h
  unfolding free_guest
  free_from = (first_bounds (is_dead l h) l.guests 1).0

  guest_both : (flags token : ℕ) → (create_guest l s flags token).answer.fault ≢ Room → Agree l m (create_guest l s flags token) (create_guest m t flags token)
  unfolding create_guest
  guest_both flags token n =
      decided_room (malformed l s ∷ unsupported 0 flags ∷ _ ∷ []) (malformed m t ∷ unsupported 0 flags ∷ _ ∷ []) _ _ _ _ (rw formed_both) n
      (λ p. made (ltb-false _ _ p.1.1.1.0))
    where
      made : free_guest l h ≤ l.guests → (ltb m.guests (free_guest m h') ≡ false) × Agree l m (accept (free_guest l h) (with_guest l s (free_guest l h))) (accept (free_guest m h') (with_guest m t (free_guest m h')))
      made hi =
          let e = guest_free l m so so' within s t mirror hi in (
            le-ltb m.guests (free_guest m h') (omega (arith, e, hi, within.guests)),
            subst (λ (x : ℕ). Agree l m (accept (free_guest l h) (with_guest l s (free_guest l h))) (accept x (with_guest m t x))) (sym e)
                (record { answer = refl; buffer = refl; stores = guest_mirror l m so so' within s t mirror (free_guest l h) free_from hi }),
          )

  vcpu_both : (flags guest vcpu : ℕ) → (create_vcpu l s flags guest vcpu).answer.fault ≢ Room → Agree l m (create_vcpu l s flags guest vcpu) (create_vcpu m t flags guest vcpu)
  unfolding create_vcpu
  vcpu_both flags guest vcpu n =
      decided_room (malformed l s ∷ unsupported 0 flags ∷ not_live l s guest ∷ _ ∷ _ ∷ []) (malformed m t ∷ unsupported 0 flags ∷ not_live m t guest ∷ _ ∷ _ ∷ []) _ _ _ _
      (rw (formed_both, mirror.lives guest, exists_both l m so so' within s t mirror guest vcpu)) n
      (λ p. let q = p.1.1 in made (not-false _ q.0) (ltb-true _ _ (not-false _ q.1.0)) (ltb-false _ _ q.1.1.0) (ltb-true _ _ (not-false _ q.1.1.1.0)))
    where
      made : live l h guest ≡ true → vcpu < 2048 → l.slots ≤ slot_of l h guest vcpu → free_slot l h < l.slots
          → (not (ltb (free_slot m h') m.slots) ≡ false) × Agree l m (accept 0 (with_vcpu l s (free_slot l h) guest vcpu)) (accept 0 (with_vcpu m t (free_slot m h') guest vcpu))
      made lv hv new free =
          let e = slot_free l m so so' within s t mirror free in
          let free' : free_slot m h' < m.slots = omega (arith, e, free, within.slots) in
          let new' : m.slots ≤ slot_of m h' guest vcpu = ltb-false _ _ (exists_both l m so so' within s t mirror guest vcpu ∙ le-ltb _ _ new) in
          let good = vcpu_kept l so s mirror.formed guest vcpu lv hv free new in
          let good' = vcpu_kept m so' t mirror.formed' guest vcpu (mirror.lives guest ∙ lv) hv free' new' in (
            ap not (lt-ltb _ _ free'),
            subst (λ (x : ℕ). Agree l m (accept 0 (with_vcpu l s (free_slot l h) guest vcpu)) (accept 0 (with_vcpu m t x guest vcpu))) (sym e)
                (record {
                  answer = refl;
                  buffer = refl;
                  stores = vcpu_mirror l m so so' within s t mirror (free_slot l h) guest vcpu free (live_parts l h guest lv).1 hv good (subst (λ (x : ℕ). well_formed m (with_vcpu m t x guest vcpu) ≡ true) e good');
                }),
          )

  -- ---- delete
  delete_both : (flags guest : ℕ) → Agree l m (delete_guest l s flags guest) (delete_guest m t flags guest)
  unfolding delete_guest
  delete_both flags guest = decided_both [] _ _ _ _ (rw (formed_both, mirror.lives guest)) (λ p. go (has_bit0 flags) p.1.1.0)
    where
      go : (all : Bool) → (not all && not (live l h guest)) ≡ false → Agree l m (accept 0 (cond all (without_guests l s) (without_guest l s guest))) (accept 0 (cond all (without_guests m t) (without_guest m t guest)))
      go true e = record { answer = refl; buffer = refl; stores = delete_all_mirror l m so so' within s t mirror }
      go false e = record { answer = refl; buffer = refl; stores = delete_mirror l m so so' within s t mirror guest (not-false _ e) }

  -- ---- the clock: its offset is one of the guest's values
  offset_place : position GuestWide 0x0004 ≡ 4
  unfolding position below table
  offset_place = refl

  offset_both : (guest : ℕ) → live l h guest ≡ true → offset_of m t guest ≡ offset_of l s guest
  offset_both guest lv =
      let p = live_parts l h guest lv in
      be_both (guest_at l guest) (guest_at m guest) guest_bytes s t (mirror.values true guest (p.0, p.1)) (position GuestWide 0x0004) 8 (omega (arith, offset_place))

  clock_both : (guest timebase : ℕ) → Agree l m (guest_clock l s guest timebase) (guest_clock m t guest timebase)
  unfolding guest_clock
  clock_both guest timebase =
      decided_both [] _ _ _ _ (rw (formed_both, mirror.lives guest))
      (λ p. record { answer = ap (λ (x : ℕ). success ((timebase + rounded_up x) % 2 ^ 64)) (offset_both guest (not-false _ p.1.0)); buffer = refl; stores = mirror })

  -- ---- what get, set and run name
  module _ (supported flags : ℕ) (wide : Bool) (guest vcpu : ℕ) where
    abbrev first : Layout → List ℕ → List (Bool × Fault)
    first = named_tests supported flags wide guest vcpu

    named_both : first m t ≡ first l s
    named_both = rw (formed_both, mirror.lives guest, absent_both l m so so' within s t mirror guest vcpu)

    -- the guest, or the slot of its vCPU
    abbrev index : ℕ
    index = index_of l s wide guest vcpu

    module _ (p : Passed (first l s)) where
      inside : Inside l wide index
      inside = index_inside l s wide guest vcpu supported flags p

      base_is : base_of l s wide guest vcpu ≡ place_of l wide index
      base_is = base_index l s wide guest vcpu

      base_is' : base_of m t wide guest vcpu ≡ place_of m wide index
      unfolding base_of
      base_is' = go wide p.1.1.1.0
        where
          go : (x : Bool) → (not x && leb l.slots (slot_of l h guest vcpu)) ≡ false → cond x (guest_at m guest) (slot_at m (slot_of m h' guest vcpu)) ≡ place_of m x (cond x guest (slot_of l h guest vcpu))
          go true e = refl
          go false e = ap (slot_at m) (slot_found l m so so' within s t mirror guest vcpu (leb-false _ _ e))

      -- the same bytes there
      target_values : bytes_at t (base_of m t wide guest vcpu) (room_of wide) ≡ bytes_at s (base_of l s wide guest vcpu) (room_of wide)
      target_values = ap (λ (x : ℕ). bytes_at t x (room_of wide)) base_is' ∙ mirror.values wide index inside ∙ sym (ap (λ (x : ℕ). bytes_at s x (room_of wide)) base_is)

      away_both : (not wide && is_away m t guest vcpu) ≡ (not wide && is_away l s guest vcpu)
      away_both = go wide p.1.1.1.0
        where
          go : (x : Bool) → (not x && leb l.slots (slot_of l h guest vcpu)) ≡ false → (not x && is_away m t guest vcpu) ≡ (not x && is_away l s guest vcpu)
          go true e = refl
          go false e = away_found l m so so' within s t mirror guest vcpu (leb-false _ _ e)

      -- the guest's list goes by one of its values
      pvr_both : pvr_of m t guest ≡ pvr_of l s guest
      pvr_both =
          be_both (guest_at l guest) (guest_at m guest) guest_bytes s t (mirror.values true guest (live_parts l h guest (not-false _ p.1.1.0)))
          (position GuestWide 0x0003) 4 (omega (arith, pvr_place))

      -- so the tests of the mark and of a buffer are the same
      abbrev bufferRest : Layout → List ℕ → Usage → List ℕ → List (Bool × Fault)
      bufferRest n x usage b = away_test wide guest vcpu n x ∷ buffer_tests (context_of n x guest usage) b

      buffer_both : (usage : Usage) (b : List ℕ) → bufferRest m t usage b ≡ bufferRest l s usage b
      buffer_both usage b = rw (away_both, mirror.capabilities, pvr_both)

  -- an accepted buffer stored in stores u and v whose values agree
  module _ (wide : Bool) (guest vcpu : ℕ) (i : ℕ) (inside : Inside l wide i) (at : base_of l s wide guest vcpu ≡ place_of l wide i) (at' : base_of m t wide guest vcpu ≡ place_of m wide i) where
    applied_values : (u v : List ℕ) → length u ≡ l.size → length v ≡ m.size → Values l m u v → (usage : Usage) (b : List ℕ) → first_bad (context_of l s guest usage) b ≡ Ok tt → bytes_of (scope_for usage) ≡ room_of wide
        → Values l m (applied (base_of l s wide guest vcpu) b (count_of b) u) (applied (base_of m t wide guest vcpu) b (count_of b) v)
    applied_values u v e e' f usage b d r =
        subst (λ (x : ℕ). Values l m (applied x b (count_of b) u) (applied (base_of m t wide guest vcpu) b (count_of b) v)) (sym at)
        (subst (λ (x : ℕ). Values l m (applied (place_of l wide i) b (count_of b) u) (applied x b (count_of b) v)) (sym at')
        (values_applied l m so so' within u v e e' f wide i inside (context_of l s guest usage) b d r))

  -- ---- set state, get state
  module _ (flags guest vcpu : ℕ) (b : List ℕ) where
    abbrev wide : Bool
    wide = has_bit0 flags

    abbrev bits : ℕ
    bits = supported_bits (has_bit0 flags)

    abbrev named : Layout → List ℕ → List (Bool × Fault)
    named = named_tests bits flags wide guest vcpu

    abbrev rest : Layout → List ℕ → Usage → List (Bool × Fault)
    rest n x usage = away_test wide guest vcpu n x ∷ buffer_tests (context_of n x guest usage) b

    stored : Passed (named l s ++ rest l s (set_use wide)) → Mirrors l m (applied (base_of l s wide guest vcpu) b (count_of b) s) (applied (base_of m t wide guest vcpu) b (count_of b) t)
    stored p =
        let q = passed_first (named l s) (rest l s (set_use wide)) p in
        let from = base_values l so s wide guest vcpu in
        let from' = base_values m so' t wide guest vcpu in
        behind_mirror l m so so' within s t mirror _ _
        (applied_header l so (base_of l s wide guest vcpu) b (count_of b) s from) (applied_header m so' (base_of m t wide guest vcpu) b (count_of b) t from')
        (applied_kept l so (base_of l s wide guest vcpu) b (count_of b) s from ∙ mirror.formed) (applied_kept m so' (base_of m t wide guest vcpu) b (count_of b) t from' ∙ mirror.formed')
        (applied_values wide guest vcpu (index bits flags wide guest vcpu) (inside bits flags wide guest vcpu q) (base_is bits flags wide guest vcpu q) (base_is' bits flags wide guest vcpu q)
        s t long long' mirror.values (set_use wide) b (walked l s flags guest vcpu b (set_use wide) p) (set_room l s flags guest vcpu b))

    elements_both : Agree l m (set_elements l s flags guest vcpu b) (set_elements m t flags guest vcpu b)
    unfolding set_elements
    elements_both =
        decided_more [] (named l s) (named m t) (rest l s (set_use wide)) (rest m t (set_use wide)) _ _ (named_both bits flags wide guest vcpu)
        (λ p. buffer_both bits flags wide guest vcpu p (set_use wide) b) (λ p. record { answer = refl; buffer = refl; stores = stored p })

    filling : Passed (named l s ++ rest l s (get_use wide)) → filled (base_of m t wide guest vcpu) t b (count_of b) ≡ filled (base_of l s wide guest vcpu) s b (count_of b)
    filling p =
        let q = passed_first (named l s) (rest l s (get_use wide)) p in
        filled_both (context_of l s guest (get_use wide)) b (walked l s flags guest vcpu b (get_use wide) p) (base_of l s wide guest vcpu) (base_of m t wide guest vcpu) (count_of b) (omega arith) s t
        (subst (λ (n : ℕ). bytes_at t (base_of m t wide guest vcpu) n ≡ bytes_at s (base_of l s wide guest vcpu) n) (sym (get_room l s flags guest vcpu b)) (target_values bits flags wide guest vcpu q))

    got_both : Agree l m (get_elements l s flags guest vcpu b) (get_elements m t flags guest vcpu b)
    unfolding get_elements
    got_both =
        decided_more b (named l s) (named m t) (rest l s (get_use wide)) (rest m t (get_use wide)) _ _ (named_both bits flags wide guest vcpu)
        (λ p. buffer_both bits flags wide guest vcpu p (get_use wide) b) (λ p. record { answer = refl; buffer = filling p; stores = mirror })

  -- ---- the hand-overs
  module _ (guest vcpu : ℕ) (b : List ℕ) where
    abbrev slot : ℕ
    slot = slot_named l s guest vcpu

    vcpu_tests_both : vcpu_tests m t guest vcpu ≡ vcpu_tests l s guest vcpu
    vcpu_tests_both = rw (formed_both, mirror.lives guest, absent_both l m so so' within s t mirror guest vcpu)

    away_same : Passed (vcpu_tests l s guest vcpu) → is_away m t guest vcpu ≡ is_away l s guest vcpu
    away_same p = away_found l m so so' within s t mirror guest vcpu (leb-false _ _ p.1.1.0)

    -- the slot of the other store has the vCPU's word too
    slot_used : slot < l.slots → word m h' slot ≢ 0
    slot_used k z =
        word_used m so' guest vcpu
        (sym (mirror.words slot k ∙ ap (recoded l m) (slot_placed l h guest vcpu slot refl k).named ∙ recoded_of l m so so' guest vcpu) ∙ z)

    taken_both : slot < l.slots → word l h slot ≢ 0 → Agree l m (take_from l s slot vcpu b) (take_from m t (slot_named m t guest vcpu) vcpu b)
    unfolding taken
    taken_both k n =
        subst (λ (j : ℕ). Agree l m (take_from l s slot vcpu b) (take_from m t j vcpu b)) (sym (slot_found l m so so' within s t mirror guest vcpu k))
        (record {
          answer = refl;
          buffer = ap (λ (v : List ℕ). put b 0 (form vcpu v)) (mirror.values false slot k);
          stores = handed_mirror l m so so' within s t mirror slot k (zeros slot_bytes) (length_zeros slot_bytes) 1 n (slot_used k);
        })

    take_both : Agree l m (take_vcpu l s guest vcpu b) (take_vcpu m t guest vcpu b)
    unfolding take_vcpu
    take_both =
        decided_more b (vcpu_tests l s guest vcpu) (vcpu_tests m t guest vcpu) (take_tests (is_away l s guest vcpu) b) (take_tests (is_away m t guest vcpu) b) _ _ vcpu_tests_both
        (λ p. ap (λ (x : Bool). take_tests x b) (away_same p))
        (λ p. let f = take_slotted l s guest vcpu b p in taken_both f.below (slotted_word l s guest vcpu so f))

    given_back_both : slot < l.slots → word l h slot ≢ 0 → length (values_of b) ≡ slot_bytes → Agree l m (give_to l s slot b) (give_to m t (slot_named m t guest vcpu) b)
    given_back_both k n len =
        subst (λ (j : ℕ). Agree l m (give_to l s slot b) (give_to m t j b)) (sym (slot_found l m so so' within s t mirror guest vcpu k))
        (record { answer = refl; buffer = refl; stores = handed_mirror l m so so' within s t mirror slot k (values_of b) len 0 n (slot_used k) })

    give_both : Agree l m (give_vcpu l s guest vcpu b) (give_vcpu m t guest vcpu b)
    unfolding give_vcpu
    give_both =
        decided_more [] (vcpu_tests l s guest vcpu) (vcpu_tests m t guest vcpu) (give_tests (is_away l s guest vcpu) vcpu b) (give_tests (is_away m t guest vcpu) vcpu b) _ _ vcpu_tests_both
        (λ p. ap (λ (x : Bool). give_tests x vcpu b) (away_same p))
        (λ p. let f = give_slotted l s guest vcpu b p in given_back_both f.below (slotted_word l s guest vcpu so f) (given_length l s guest vcpu b p))

  set_both : (flags guest vcpu : ℕ) (b : List ℕ) → Agree l m (set_state l s flags guest vcpu b) (set_state m t flags guest vcpu b)
  unfolding set_state
  set_both flags guest vcpu b = go (hands_over flags)
    where
      go : (x : Bool) → Agree l m (cond x (give_vcpu l s guest vcpu b) (set_elements l s flags guest vcpu b)) (cond x (give_vcpu m t guest vcpu b) (set_elements m t flags guest vcpu b))
      go true = give_both guest vcpu b
      go false = elements_both flags guest vcpu b

  get_both : (flags guest vcpu : ℕ) (b : List ℕ) → Agree l m (get_state l s flags guest vcpu b) (get_state m t flags guest vcpu b)
  unfolding get_state
  get_both flags guest vcpu b = go (hands_over flags)
    where
      go : (x : Bool) → Agree l m (cond x (take_vcpu l s guest vcpu b) (get_elements l s flags guest vcpu b)) (cond x (take_vcpu m t guest vcpu b) (get_elements m t flags guest vcpu b))
      go true = take_both guest vcpu b
      go false = got_both flags guest vcpu b

  -- ---- run
  module _ (flags guest vcpu : ℕ) (input output effect : List ℕ) (exit : ℕ) where
    abbrev base : ℕ
    base = base_of l s false guest vcpu

    abbrev base' : ℕ
    base' = base_of m t false guest vcpu

    places : (position Thread 0x0C00 ≡ 0) × (position Thread 0x0C01 ≡ 16)
    unfolding position below table
    places = (refl, refl)

    abbrev runNamed : Layout → List ℕ → List (Bool × Fault)
    runNamed = named_tests run_bits flags false guest vcpu

    -- the tests behind them, where the vCPU's values start at x
    abbrev runRest : Layout → List ℕ → ℕ → List (Bool × Fault)
    runRest n y x =
        (is_away n y guest vcpu, Taken) ∷ lent_tests y x 0 (length input) (length output) ++ content_tests n y guest (input_of y x input) effect exit

    module _ (p : Passed (runNamed l s)) where
      -- the registered sizes are two of the slot's values
      size_both : (id : ℕ) → position Thread id + 16 ≤ slot_bytes → be t (base' + position Thread id + 8) 8 ≡ be s (base + position Thread id + 8) 8
      size_both id k =
          let x : base' + position Thread id + 8 ≡ base' + (position Thread id + 8) = omega arith in
          let y : base + position Thread id + 8 ≡ base + (position Thread id + 8) = omega arith in
          ap (λ (n : ℕ). be t n 8) x ∙ be_both base base' slot_bytes s t (target_values run_bits flags false guest vcpu p) (position Thread id + 8) 8 (omega arith) ∙ ap (λ (n : ℕ). be s n 8) (sym y)

      input_both : input_size t base' ≡ input_size s base
      input_both = size_both 0x0C00 (omega (arith, places.0))

      size_out : output_size t base' ≡ output_size s base
      size_out = size_both 0x0C01 (omega (arith, places.1))

      rest_both : runRest m t base' ≡ runRest l s base
      rest_both = rw (away_both run_bits flags false guest vcpu p, input_both, size_out, mirror.capabilities, pvr_both run_bits flags false guest vcpu p)

    -- the bytes of the lent input that count
    abbrev given : List ℕ
    given = input_of s base input

    module _ (p : Passed (run_tests l s flags guest vcpu input (length output) effect exit)) where
      q : Passed (runNamed l s)
      q = passed_first (runNamed l s) (runRest l s base) p

      given_both : input_of t base' input ≡ given
      given_both = ap (bytes_at input 0) (input_both q)

      ran_values : Values l m (ran_store base given effect s) (ran_store base' given effect t)
      unfolding ran_store
      ran_values =
          let a = applied_values false guest vcpu (index run_bits flags false guest vcpu) (inside run_bits flags false guest vcpu q) (base_is run_bits flags false guest vcpu q) (base_is' run_bits flags false guest vcpu q) in
          a (applied base given (count_of given) s) (applied base' given (count_of given) t) (length_applied base given s (count_of given) ∙ long) (length_applied base' given t (count_of given) ∙ long')
          (a s t long long' mirror.values RunInput given (input_walked l s flags guest vcpu input output effect exit p) refl)
          InEffect effect (effect_walked l s flags guest vcpu input output effect exit p) refl

      ran_mirror : Mirrors l m (ran_store base given effect s) (ran_store base' given effect t)
      unfolding ran_store
      ran_mirror =
          let from = base_values l so s false guest vcpu in
          let from' = base_values m so' t false guest vcpu in
          behind_mirror l m so so' within s t mirror _ _
          (applied_header l so base effect (count_of effect) (applied base given (count_of given) s) from ∙ applied_header l so base given (count_of given) s from)
          (applied_header m so' base' effect (count_of effect) (applied base' given (count_of given) t) from' ∙ applied_header m so' base' given (count_of given) t from')
          (applied_kept l so base effect (count_of effect) (applied base given (count_of given) s) from ∙ applied_kept l so base given (count_of given) s from ∙ mirror.formed)
          (applied_kept m so' base' effect (count_of effect) (applied base' given (count_of given) t) from' ∙ applied_kept m so' base' given (count_of given) t from' ∙ mirror.formed')
          ran_values

      -- the output is read from the slot's values after the run
      ran_output : output_of base' (ran_store base' given effect t) exit ≡ output_of base (ran_store base given effect s) exit
      ran_output =
          let e = base_is run_bits flags false guest vcpu q in
          let e' = base_is' run_bits flags false guest vcpu q in
          output_both base base' (ran_store base given effect s) (ran_store base' given effect t)
          (ap (λ (x : ℕ). bytes_at (ran_store base' given effect t) x slot_bytes) e' ∙ ran_values false (slot_of l h guest vcpu) (inside run_bits flags false guest vcpu q)
          ∙ sym (ap (λ (x : ℕ). bytes_at (ran_store base given effect s) x slot_bytes) e)) exit

      ran_both : Agree l m (ran base s given output effect exit) (ran base' t (input_of t base' input) output effect exit)
      unfolding ran
      ran_both =
          subst (λ (x : List ℕ). Agree l m (ran base s given output effect exit) (ran base' t x output effect exit)) (sym given_both)
          (record { answer = refl; buffer = ap (put output 0) ran_output; stores = ran_mirror })

    run_both : Agree l m (run_vcpu l s flags guest vcpu input output effect exit) (run_vcpu m t flags guest vcpu input output effect exit)
    unfolding run_vcpu
    run_both =
        decided_more output (runNamed l s) (runNamed m t) (runRest l s base) (runRest m t base') _ _ (named_both run_bits flags false guest vcpu) rest_both ran_both

  -- ---- each call
  pub call_both : (c : Call) → (is_create c ≡ true → (outcome l s c).answer.fault ≢ Room) → Agree l m (outcome l s c) (outcome m t c)
  unfolding outcome
  call_both (GetCapabilities flags) n = get_caps_both flags
  call_both (SetCapabilities flags bitmap) n = set_caps_both flags bitmap
  call_both (CreateGuest flags token) n = guest_both flags token (n refl)
  call_both (CreateVcpu flags guest vcpu) n = vcpu_both flags guest vcpu (n refl)
  call_both (GetState flags guest vcpu buffer) n = get_both flags guest vcpu buffer
  call_both (SetState flags guest vcpu buffer) n = set_both flags guest vcpu buffer
  call_both (RunVcpu flags guest vcpu input output effect exit) n = run_both flags guest vcpu input output effect exit
  call_both (DeleteGuest flags guest) n = delete_both flags guest
  call_both (GuestClock guest timebase) n = clock_both guest timebase
