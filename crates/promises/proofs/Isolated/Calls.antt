-- LEMMAS `call_same`: on two stores that are the same for guest g and have the same capabilities, a get, set, run, clock or delete of g answers and
-- writes the same, and leaves stores that still are, hand-overs too; `create_same`: a create of its vCPU too, where both answer alike. Assumes nothing.
use mathlib.Core.Path.{◌≡◌, refl, sym, ap, ◌∙◌, subst}
use mathlib.Core.Logic.{◌≢◌}
use mathlib.Core.Bool.{Bool, true, false, not, ◌&&◌, cond}
use mathlib.Core.List.{List, [], ◌∷◌, ◌++◌}
use Prim.Native.Nat.{ℕ, ◌+◌, ◌%◌, ◌^◌, ◌≤◌, ◌<◌}
use native.Mathlib.Omega.{arith}
use native.Mathlib.Decide.{ℕ_discrete}
use lib.Dec.{leb}
use lib.ListN.{length}
use borrow.Author.Tests.{eqb-true, leb-false, le-leb, lt-leb, ne_eqb}
use Rattle.octets.specs.Bytes.{bytes_at, be, put, zeros}
use Rattle.octets.proofs.Bytes.{length_zeros}
use Rattle.answer.specs.declared.Fault.{Fault}
use Rattle.elements.specs.declared.Scope.TheVariants.{Guest as GuestWide, Thread}
use Rattle.elements.specs.Table.{table, below, position}
use Rattle.elements.specs.Right.{bytes_of}
use Rattle.rules.specs.declared.Context.{Context}
use Rattle.rules.specs.declared.Usage.{Usage}
use Rattle.rules.specs.declared.Usage.TheVariants.{RunInput, Effect as InEffect}
use Rattle.rules.specs.Rules.{scope_for}
use Rattle.gsb.specs.Walk.{count_of, first_bad}
use Rattle.handover.specs.Form.{form, values_of, taken}
use Rattle.store.specs.declared.Layout.{Layout}
use Rattle.store.specs.Layout.{Sound, guest_bytes, slot_bytes, guest_at}
use Rattle.store.specs.Header.{header, capabilities_of, live, is_taken, slot_of, free_slot}
use Rattle.store.specs.Store.{well_formed, with_vcpu, without_guest, without_guests}
use Rattle.store.proofs.Search.{no_bool}
use Rattle.store.proofs.Frame.{formed}
use Rattle.store.proofs.Kept.{deleted_live}
use Rattle.transfer.specs.Transfer.{applied, filled}
use Rattle.transfer.proofs.Moving.{length_applied}
use Rattle.admission.specs.Refusals.{Outcome, success, accept, decide, has_bit0, hands_over, Passed}
use Rattle.admission.specs.Target.{is_away, vcpu_tests, base_of}
use Rattle.state.specs.HandOver.{take_tests, take_from, give_tests, take_vcpu, give_vcpu}
use Rattle.state.specs.State.{pvr_of, context_of, buffer_tests, supported_bits, set_use, get_use, set_elements, get_elements, set_state, get_state}
use Rattle.state.proofs.Buffers.{pvr_place}
use Rattle.run.specs.Run.{run_bits, input_size, output_size, lent_tests, input_of, content_tests, run_tests, ran_store, ran, run_vcpu}
use Rattle.guests.specs.Guests.{create_vcpu, delete_guest}
use Rattle.l0.specs.Calls.{offset_of, rounded_up, guest_clock, Call, GetCapabilities, SetCapabilities, CreateGuest, CreateVcpu, GetState, SetState, RunVcpu, DeleteGuest, GuestClock, outcome}
use Rattle.promises.specs.History.{registers}
use Rattle.promises.specs.Mirror.{room_of, values_in}
use Rattle.promises.specs.Isolation.{names, creates_vcpu}
use Rattle.promises.proofs.HandedOver.{handed, take_slotted, give_slotted, slotted_word, given_length}
use Rattle.promises.proofs.Kept.{decided_two, refused_unchanged, applied_header, applied_kept, base_values}
use Rattle.promises.proofs.Told.{zero_none}
use Rattle.promises.proofs.Lowest.{all_dead, vcpu_made}
use Rattle.promises.proofs.States.{walked, get_room, set_room}
use Rattle.promises.proofs.Runs.{input_walked, effect_walked}
use Rattle.promises.proofs.Both.Windows.{be_both, applied_both, filled_both, output_both}
use Rattle.promises.proofs.Targets.{passed_first, named_tests, away_test, index_of, beside_then, base_index, target_beside}
use Rattle.promises.proofs.Isolated.Same.{Paired, present, absent, SameFor, kept, gone, Agree}
use Rattle.promises.proofs.Isolated.Stores.{Written, values_written, handed_written, handed_values, handed_mark, written_same}
use Rattle.promises.proofs.Isolated.Begun.{made_same}
use Rattle.std.proofs.Common.{Ok}

-- ---- what the slots of a vCPU tell alike
paired_leb : {l m : Layout} {s t : List ℕ} {j k : ℕ} → Paired l m s t j k → leb m.slots k ≡ leb l.slots j
paired_leb {l} {m} {j = j} {k = k} (present a b w e) = lt-leb m.slots k b ∙ sym (lt-leb l.slots j a)
paired_leb {l} {m} {j = j} {k = k} (absent a b) = le-leb m.slots k (omega (arith, b)) ∙ sym (le-leb l.slots j (omega (arith, a)))

paired_values : {l m : Layout} {s t : List ℕ} {j k : ℕ} → Paired l m s t j k → j < l.slots → values_in m t false k ≡ values_in l s false j
paired_values (present a b w e) h = e
paired_values (absent a b) h = absurd (omega (arith, a))

paired_mark : {l m : Layout} {s t : List ℕ} {j k : ℕ} → Paired l m s t j k → j < l.slots → is_taken m (header m t) k ≡ is_taken l (header l s) j
paired_mark (present a b w e) h = w
paired_mark (absent a b) h = absurd (omega (arith, a))

paired_found : {l m : Layout} {s t : List ℕ} {j k : ℕ} → Paired l m s t j k → j < l.slots → k < m.slots
paired_found (present a b w e) h = b
paired_found (absent a b) h = absurd (omega (arith, a))

-- a refused call leaves its store
left_as_was : (l : Layout) (s : List ℕ) (c : Call) → (registers l s c).r3 ≢ 0 → (outcome l s c).store ≡ s
unfolding registers
left_as_was l s c n = (refused_unchanged l s c).store (ne_eqb _ _ n)

module _ (l m : Layout) (so : Sound l) (so' : Sound m) (g : ℕ) (s t : List ℕ) (f : SameFor l m g s t) where
  long : length s ≡ l.size
  long = (formed l s f.formed).long

  long' : length t ≡ m.size
  long' = (formed m t f.formed').long

  formed_both : well_formed m t ≡ well_formed l s
  formed_both = f.formed' ∙ sym f.formed

  live_both : live m (header m t) g ≡ live l (header l s) g
  live_both = f.alive' ∙ sym f.alive

  decided_both : (b : List ℕ) (xs ys zs ws : List (Bool × Fault)) (o p : Outcome) → ys ≡ xs → (Passed xs → ws ≡ zs) → (Passed (xs ++ zs) → Agree l m g o p)
      → Agree l m g (decide s b (xs ++ zs) o) (decide t b (ys ++ ws) p)
  decided_both b = decided_two (Agree l m g) s t b (λ x. record { answer = refl; buffer = refl; stores = kept f })

  -- ---- delete
  delete_both : (flags : ℕ) → Agree l m g (delete_guest l s flags g) (delete_guest m t flags g)
  unfolding delete_guest
  delete_both flags = decided_both [] [] [] _ _ _ _ refl (λ n. rw (formed_both, live_both)) (λ p. go (has_bit0 flags))
    where
      go : (all : Bool) → Agree l m g (accept 0 (cond all (without_guests l s) (without_guest l s g))) (accept 0 (cond all (without_guests m t) (without_guest m t g)))
      go true = record { answer = refl; buffer = refl; stores = gone (all_dead l so s f.formed g) (all_dead m so' t f.formed' g) }
      go false = record { answer = refl; buffer = refl; stores = gone (deleted_live l so s f.formed g f.alive) (deleted_live m so' t f.formed' g f.alive') }

  -- ---- the clock: its offset is one of the guest's values
  offset_place : position GuestWide 0x0004 ≡ 4
  unfolding position below table
  offset_place = refl

  offset_both : offset_of m t g ≡ offset_of l s g
  offset_both = be_both (guest_at l g) (guest_at m g) guest_bytes s t f.guest (position GuestWide 0x0004) 8 (omega (arith, offset_place))

  clock_both : (timebase : ℕ) → Agree l m g (guest_clock l s g timebase) (guest_clock m t g timebase)
  unfolding guest_clock
  clock_both timebase =
      decided_both [] [] [] _ _ _ _ refl (λ n. rw (formed_both, live_both))
      (λ p. record { answer = ap (λ (x : ℕ). success ((timebase + rounded_up x) % 2 ^ 64)) offset_both; buffer = refl; stores = kept f })

  -- ---- what get, set and run name
  module _ (supported flags : ℕ) (wide : Bool) (vcpu : ℕ) where
    abbrev first : Layout → List ℕ → List (Bool × Fault)
    first = named_tests supported flags wide g vcpu

    named_both : first m t ≡ first l s
    named_both = rw (formed_both, live_both, paired_leb (f.vcpus vcpu))

    module _ (p : Passed (first l s)) where
      p' : Passed (first m t)
      p' = subst Passed (sym named_both) p

      -- the same bytes there
      target_values : bytes_at t (base_of m t wide g vcpu) (room_of wide) ≡ bytes_at s (base_of l s wide g vcpu) (room_of wide)
      target_values = ap (λ (x : ℕ). bytes_at t x (room_of wide)) (base_index m t wide g vcpu) ∙ go wide p.1.1.1.0 ∙ sym (ap (λ (x : ℕ). bytes_at s x (room_of wide)) (base_index l s wide g vcpu))
        where
          go : (x : Bool) → (not x && leb l.slots (slot_of l (header l s) g vcpu)) ≡ false → values_in m t x (index_of m t x g vcpu) ≡ values_in l s x (index_of l s x g vcpu)
          go true e = f.guest
          go false e = paired_values (f.vcpus vcpu) (leb-false _ _ e)

      -- the same mark
      away_both : away_test wide g vcpu m t ≡ away_test wide g vcpu l s
      away_both = go wide p.1.1.1.0
        where
          go : (x : Bool) → (not x && leb l.slots (slot_of l (header l s) g vcpu)) ≡ false → away_test x g vcpu m t ≡ away_test x g vcpu l s
          go true e = refl
          go false e = rw (paired_mark (f.vcpus vcpu) (leb-false _ _ e))

  -- ---- with the same capabilities, and by the guest's list, which goes by one of its values
  module _ (caps : capabilities_of (header m t) ≡ capabilities_of (header l s)) where
    pvr_both : pvr_of m t g ≡ pvr_of l s g
    pvr_both = be_both (guest_at l g) (guest_at m g) guest_bytes s t f.guest (position GuestWide 0x0003) 4 (omega (arith, pvr_place))

    context_both : (usage : Usage) → context_of m t g usage ≡ context_of l s g usage
    context_both usage = rw (caps, pvr_both)

    walked_both : (usage : Usage) (b : List ℕ) → first_bad (context_of l s g usage) b ≡ Ok tt → first_bad (context_of m t g usage) b ≡ Ok tt
    walked_both usage b d = ap (λ (c : Context). first_bad c b) (context_both usage) ∙ d

    -- ---- an accepted buffer stored in stores x and y that have the same bytes there
    module _ (wide : Bool) (vcpu : ℕ) where
      abbrev Window : List ℕ → List ℕ → Type 0
      Window x y = bytes_at y (base_of m t wide g vcpu) (room_of wide) ≡ bytes_at x (base_of l s wide g vcpu) (room_of wide)

      stored_window : (x y : List ℕ) → Window x y → (usage : Usage) (b : List ℕ) → first_bad (context_of l s g usage) b ≡ Ok tt → bytes_of (scope_for usage) ≡ room_of wide
          → Window (applied (base_of l s wide g vcpu) b (count_of b) x) (applied (base_of m t wide g vcpu) b (count_of b) y)
      stored_window x y e usage b d r =
          subst (λ (n : ℕ). bytes_at (applied (base_of m t wide g vcpu) b (count_of b) y) (base_of m t wide g vcpu) n ≡ bytes_at (applied (base_of l s wide g vcpu) b (count_of b) x) (base_of l s wide g vcpu) n) r
          (applied_both (context_of l s g usage) b d (base_of l s wide g vcpu) (base_of m t wide g vcpu) (count_of b) (omega arith) x y
          (subst (λ (n : ℕ). bytes_at y (base_of m t wide g vcpu) n ≡ bytes_at x (base_of l s wide g vcpu) n) (sym r) e))

      -- so that stores in which only that is written still are the same
      window_same : (u v : List ℕ) → header l u ≡ header l s → header m v ≡ header m t → Written l g wide vcpu s u → Written m g wide vcpu t v → Window u v → SameFor l m g u v
      window_same u v e e' a b w =
          written_same l m g s t f vcpu u v wide a b
          (sym (ap (λ (n : ℕ). bytes_at v n (room_of wide)) (base_index m t wide g vcpu)) ∙ w ∙ ap (λ (n : ℕ). bytes_at u n (room_of wide)) (base_index l s wide g vcpu))
          (λ z k. ap (λ (h : List ℕ). is_taken m h (slot_of m (header m t) g vcpu)) e' ∙ paired_mark (f.vcpus vcpu) k ∙ sym (ap (λ (h : List ℕ). is_taken l h (slot_of l (header l s) g vcpu)) e))

    -- ---- get state and set state of elements
    module _ (flags vcpu : ℕ) (b : List ℕ) where
      abbrev wide : Bool
      wide = has_bit0 flags

      abbrev bits : ℕ
      bits = supported_bits (has_bit0 flags)

      abbrev named : Layout → List ℕ → List (Bool × Fault)
      named = named_tests bits flags wide g vcpu

      abbrev rest : Usage → Layout → List ℕ → List (Bool × Fault)
      rest usage n x = away_test wide g vcpu n x ∷ buffer_tests (context_of n x g usage) b

      rest_both : (usage : Usage) → Passed (named l s) → rest usage m t ≡ rest usage l s
      rest_both usage p = rw (away_both bits flags wide vcpu p, context_both usage)

      filling : Passed (named l s ++ rest (get_use wide) l s) → filled (base_of m t wide g vcpu) t b (count_of b) ≡ filled (base_of l s wide g vcpu) s b (count_of b)
      filling p =
          let q = passed_first (named l s) (rest (get_use wide) l s) p in
          filled_both (context_of l s g (get_use wide)) b (walked l s flags g vcpu b (get_use wide) p) (base_of l s wide g vcpu) (base_of m t wide g vcpu) (count_of b) (omega arith) s t
          (subst (λ (n : ℕ). bytes_at t (base_of m t wide g vcpu) n ≡ bytes_at s (base_of l s wide g vcpu) n) (sym (get_room l s flags g vcpu b)) (target_values bits flags wide vcpu q))

      got_both : Agree l m g (get_elements l s flags g vcpu b) (get_elements m t flags g vcpu b)
      unfolding get_elements
      got_both =
          decided_both b (named l s) (named m t) (rest (get_use wide) l s) (rest (get_use wide) m t) _ _ (named_both bits flags wide vcpu) (rest_both (get_use wide))
          (λ p. record { answer = refl; buffer = filling p; stores = kept f })

      stored : Passed (named l s ++ rest (set_use wide) l s) → SameFor l m g (applied (base_of l s wide g vcpu) b (count_of b) s) (applied (base_of m t wide g vcpu) b (count_of b) t)
      stored p =
          let q = passed_first (named l s) (rest (set_use wide) l s) p in
          let from = base_values l so s wide g vcpu in
          let from' = base_values m so' t wide g vcpu in
          let e = applied_header l so (base_of l s wide g vcpu) b (count_of b) s from in
          let e' = applied_header m so' (base_of m t wide g vcpu) b (count_of b) t from' in
          let d = walked l s flags g vcpu b (set_use wide) p in
          let r = set_room l s flags g vcpu b in
          window_same wide vcpu _ _ e e'
          (values_written l g wide vcpu s _ e (applied_kept l so (base_of l s wide g vcpu) b (count_of b) s from ∙ f.formed) (target_beside l s wide g vcpu bits flags q so s long (set_use wide) b d r))
          (values_written m g wide vcpu t _ e' (applied_kept m so' (base_of m t wide g vcpu) b (count_of b) t from' ∙ f.formed')
          (target_beside m t wide g vcpu bits flags (p' bits flags wide vcpu q) so' t long' (set_use wide) b (walked_both (set_use wide) b d) r))
          (stored_window wide vcpu s t (target_values bits flags wide vcpu q) (set_use wide) b d r)

      elements_both : Agree l m g (set_elements l s flags g vcpu b) (set_elements m t flags g vcpu b)
      unfolding set_elements
      elements_both =
          decided_both [] (named l s) (named m t) (rest (set_use wide) l s) (rest (set_use wide) m t) _ _ (named_both bits flags wide vcpu) (rest_both (set_use wide))
          (λ p. record { answer = refl; buffer = refl; stores = kept (stored p) })

    -- ---- the hand-overs
    module _ (vcpu : ℕ) (b : List ℕ) where
      abbrev slot : ℕ
      slot = slot_of l (header l s) g vcpu

      abbrev slot' : ℕ
      slot' = slot_of m (header m t) g vcpu

      vcpu_tests_both : vcpu_tests m t g vcpu ≡ vcpu_tests l s g vcpu
      vcpu_tests_both = rw (formed_both, live_both, paired_leb (f.vcpus vcpu))

      away_same : Passed (vcpu_tests l s g vcpu) → is_away m t g vcpu ≡ is_away l s g vcpu
      away_same p = paired_mark (f.vcpus vcpu) (leb-false _ _ p.1.1.0)

      -- the same values and the same mark in both slots
      handed_same : (k : slot < l.slots) (w : List ℕ) → length w ≡ slot_bytes → (n : ℕ) → SameFor l m g (handed l s slot w n) (handed m t slot' w n)
      handed_same k w len n =
          let k' = paired_found (f.vcpus vcpu) k in
          written_same l m g s t f vcpu _ _ false
          (handed_written l so g vcpu s f.formed k w len n (slotted_word l s g vcpu so (record { good = f.formed; alive = f.alive; below = k })))
          (handed_written m so' g vcpu t f.formed' k' w len n (slotted_word m t g vcpu so' (record { good = f.formed'; alive = f.alive'; below = k' })))
          (handed_values m so' g vcpu t f.formed' k' w len n ∙ sym (handed_values l so g vcpu s f.formed k w len n))
          (λ z h. handed_mark m so' g vcpu t f.formed' k' w len n ∙ sym (handed_mark l so g vcpu s f.formed k w len n))

      taken_both : slot < l.slots → Agree l m g (take_from l s slot vcpu b) (take_from m t slot' vcpu b)
      unfolding taken
      taken_both k = record {
        answer = refl;
        buffer = ap (λ (v : List ℕ). put b 0 (form vcpu v)) (paired_values (f.vcpus vcpu) k);
        stores = kept (handed_same k (zeros slot_bytes) (length_zeros slot_bytes) 1);
      }

      take_both : Agree l m g (take_vcpu l s g vcpu b) (take_vcpu m t g vcpu b)
      unfolding take_vcpu
      take_both =
          decided_both b (vcpu_tests l s g vcpu) (vcpu_tests m t g vcpu) (take_tests (is_away l s g vcpu) b) (take_tests (is_away m t g vcpu) b) _ _ vcpu_tests_both
          (λ p. ap (λ (x : Bool). take_tests x b) (away_same p)) (λ p. taken_both (take_slotted l s g vcpu b p).below)

      give_both : Agree l m g (give_vcpu l s g vcpu b) (give_vcpu m t g vcpu b)
      unfolding give_vcpu
      give_both =
          decided_both [] (vcpu_tests l s g vcpu) (vcpu_tests m t g vcpu) (give_tests (is_away l s g vcpu) vcpu b) (give_tests (is_away m t g vcpu) vcpu b) _ _ vcpu_tests_both
          (λ p. ap (λ (x : Bool). give_tests x vcpu b) (away_same p))
          (λ p. record { answer = refl; buffer = refl; stores = kept (handed_same (give_slotted l s g vcpu b p).below (values_of b) (given_length l s g vcpu b p) 0) })

    set_both : (flags vcpu : ℕ) (b : List ℕ) → Agree l m g (set_state l s flags g vcpu b) (set_state m t flags g vcpu b)
    unfolding set_state
    set_both flags vcpu b = go (hands_over flags)
      where
        go : (x : Bool) → Agree l m g (cond x (give_vcpu l s g vcpu b) (set_elements l s flags g vcpu b)) (cond x (give_vcpu m t g vcpu b) (set_elements m t flags g vcpu b))
        go true = give_both vcpu b
        go false = elements_both flags vcpu b

    get_both : (flags vcpu : ℕ) (b : List ℕ) → Agree l m g (get_state l s flags g vcpu b) (get_state m t flags g vcpu b)
    unfolding get_state
    get_both flags vcpu b = go (hands_over flags)
      where
        go : (x : Bool) → Agree l m g (cond x (take_vcpu l s g vcpu b) (get_elements l s flags g vcpu b)) (cond x (take_vcpu m t g vcpu b) (get_elements m t flags g vcpu b))
        go true = take_both vcpu b
        go false = got_both flags vcpu b

    -- ---- run
    module _ (flags vcpu : ℕ) (input output effect : List ℕ) (exit : ℕ) where
      abbrev base : ℕ
      base = base_of l s false g vcpu

      abbrev base' : ℕ
      base' = base_of m t false g vcpu

      places : (position Thread 0x0C00 ≡ 0) × (position Thread 0x0C01 ≡ 16)
      unfolding position below table
      places = (refl, refl)

      abbrev runNamed : Layout → List ℕ → List (Bool × Fault)
      runNamed = named_tests run_bits flags false g vcpu

      -- the tests behind them, where the vCPU's values start at x
      abbrev runRest : Layout → List ℕ → ℕ → List (Bool × Fault)
      runRest n y x = away_test false g vcpu n y ∷ lent_tests y x 0 (length input) (length output) ++ content_tests n y g (input_of y x input) effect exit

      module _ (p : Passed (runNamed l s)) where
        -- the registered sizes are two of the slot's values
        size_both : (id : ℕ) → position Thread id + 16 ≤ slot_bytes → be t (base' + position Thread id + 8) 8 ≡ be s (base + position Thread id + 8) 8
        size_both id k =
            let x : base' + position Thread id + 8 ≡ base' + (position Thread id + 8) = omega arith in
            let y : base + position Thread id + 8 ≡ base + (position Thread id + 8) = omega arith in
            ap (λ (n : ℕ). be t n 8) x ∙ be_both base base' slot_bytes s t (target_values run_bits flags false vcpu p) (position Thread id + 8) 8 (omega arith) ∙ ap (λ (n : ℕ). be s n 8) (sym y)

        input_both : input_size t base' ≡ input_size s base
        input_both = size_both 0x0C00 (omega (arith, places.0))

        size_out : output_size t base' ≡ output_size s base
        size_out = size_both 0x0C01 (omega (arith, places.1))

        run_rest_both : runRest m t base' ≡ runRest l s base
        run_rest_both = rw (away_both run_bits flags false vcpu p, input_both, size_out, caps, pvr_both)

      -- the bytes of the lent input that count
      abbrev given : List ℕ
      given = input_of s base input

      module _ (p : Passed (run_tests l s flags g vcpu input (length output) effect exit)) where
        q : Passed (runNamed l s)
        q = passed_first (runNamed l s) (runRest l s base) p

        given_both : input_of t base' input ≡ given
        given_both = ap (bytes_at input 0) (input_both q)

        abbrev x : List ℕ
        x = applied base given (count_of given) s

        abbrev y : List ℕ
        y = applied base' given (count_of given) t

        d : first_bad (context_of l s g RunInput) given ≡ Ok tt
        d = input_walked l s flags g vcpu input output effect exit p

        k : first_bad (context_of l s g InEffect) effect ≡ Ok tt
        k = effect_walked l s flags g vcpu input output effect exit p

        ran_window : Window false vcpu (ran_store base given effect s) (ran_store base' given effect t)
        unfolding ran_store
        ran_window = stored_window false vcpu x y (stored_window false vcpu s t (target_values run_bits flags false vcpu q) RunInput given d refl) InEffect effect k refl

        ran_same : SameFor l m g (ran_store base given effect s) (ran_store base' given effect t)
        unfolding ran_store
        ran_same =
            let from = base_values l so s false g vcpu in
            let from' = base_values m so' t false g vcpu in
            let q' = p' run_bits flags false vcpu q in
            let e = applied_header l so base effect (count_of effect) x from ∙ applied_header l so base given (count_of given) s from in
            let e' = applied_header m so' base' effect (count_of effect) y from' ∙ applied_header m so' base' given (count_of given) t from' in
            window_same false vcpu _ _ e e'
            (values_written l g false vcpu s _ e (applied_kept l so base effect (count_of effect) x from ∙ applied_kept l so base given (count_of given) s from ∙ f.formed)
            (beside_then l false (index_of l s false g vcpu) s x _ (target_beside l s false g vcpu run_bits flags q so s long RunInput given d refl)
            (target_beside l s false g vcpu run_bits flags q so x (length_applied base given s (count_of given) ∙ long) InEffect effect k refl)))
            (values_written m g false vcpu t _ e' (applied_kept m so' base' effect (count_of effect) y from' ∙ applied_kept m so' base' given (count_of given) t from' ∙ f.formed')
            (beside_then m false (index_of m t false g vcpu) t y _ (target_beside m t false g vcpu run_bits flags q' so' t long' RunInput given (walked_both RunInput given d) refl)
            (target_beside m t false g vcpu run_bits flags q' so' y (length_applied base' given t (count_of given) ∙ long') InEffect effect (walked_both InEffect effect k) refl)))
            ran_window

        ran_both : Agree l m g (ran base s given output effect exit) (ran base' t (input_of t base' input) output effect exit)
        unfolding ran
        ran_both =
            subst (λ (z : List ℕ). Agree l m g (ran base s given output effect exit) (ran base' t z output effect exit)) (sym given_both)
            (record { answer = refl; buffer = ap (put output 0) (output_both base base' (ran_store base given effect s) (ran_store base' given effect t) ran_window exit); stores = kept ran_same })

      run_both : Agree l m g (run_vcpu l s flags g vcpu input output effect exit) (run_vcpu m t flags g vcpu input output effect exit)
      unfolding run_vcpu
      run_both = decided_both output (runNamed l s) (runNamed m t) (runRest l s base) (runRest m t base') _ _ (named_both run_bits flags false vcpu) run_rest_both ran_both

    -- ---- each call that names g, but create vCPU
    pub call_same : (c : Call) → names g c ≡ true → creates_vcpu c ≡ false → Agree l m g (outcome l s c) (outcome m t c)
    unfolding outcome
    call_same (GetCapabilities flags) n v = absurd (no_bool n)
    call_same (SetCapabilities flags bitmap) n v = absurd (no_bool n)
    call_same (CreateGuest flags token) n v = absurd (no_bool n)
    call_same (CreateVcpu flags guest vcpu) n v = absurd (no_bool (sym v))
    call_same (GetState flags guest vcpu b) n v = subst (λ (x : ℕ). Agree l m g (get_state l s flags x vcpu b) (get_state m t flags x vcpu b)) (sym (eqb-true _ _ n)) (get_both flags vcpu b)
    call_same (SetState flags guest vcpu b) n v = subst (λ (x : ℕ). Agree l m g (set_state l s flags x vcpu b) (set_state m t flags x vcpu b)) (sym (eqb-true _ _ n)) (set_both flags vcpu b)
    call_same (RunVcpu flags guest vcpu input output effect exit) n v =
        subst (λ (x : ℕ). Agree l m g (run_vcpu l s flags x vcpu input output effect exit) (run_vcpu m t flags x vcpu input output effect exit)) (sym (eqb-true _ _ n)) (run_both flags vcpu input output effect exit)
    call_same (DeleteGuest flags guest) n v = subst (λ (x : ℕ). Agree l m g (delete_guest l s flags x) (delete_guest m t flags x)) (sym (eqb-true _ _ n)) (delete_both flags)
    call_same (GuestClock guest timebase) n v = subst (λ (x : ℕ). Agree l m g (guest_clock l s x timebase) (guest_clock m t x timebase)) (sym (eqb-true _ _ n)) (clock_both timebase)

  -- ---- create vCPU, answered alike
  pub create_same : (flags vcpu : ℕ) → (registers m t (CreateVcpu flags g vcpu)).r3 ≡ (registers l s (CreateVcpu flags g vcpu)).r3
      → SameFor l m g (outcome l s (CreateVcpu flags g vcpu)).store (outcome m t (CreateVcpu flags g vcpu)).store
  unfolding outcome
  create_same flags vcpu e = go (ℕ_discrete (registers l s c).r3 0)
    where
      c : Call
      c = CreateVcpu flags g vcpu

      go : Dec ((registers l s c).r3 ≡ 0) → SameFor l m g (create_vcpu l s flags g vcpu).store (create_vcpu m t flags g vcpu).store
      go (yes z) =
          let a = vcpu_made l s flags g vcpu (zero_none l s c z) in
          let b = vcpu_made m t flags g vcpu (zero_none m t c (e ∙ z)) in
          subst (λ (x : List ℕ). SameFor l m g x (create_vcpu m t flags g vcpu).store) (sym (ap (λ (o : Outcome). o.store) a.is))
          (subst (λ (y : List ℕ). SameFor l m g (with_vcpu l s (free_slot l (header l s)) g vcpu) y) (sym (ap (λ (o : Outcome). o.store) b.is)) (made_same l m so so' g s t f flags vcpu a b))
      go (no n) =
          subst (λ (x : List ℕ). SameFor l m g x (create_vcpu m t flags g vcpu).store) (sym (left_as_was l s c n))
          (subst (λ (y : List ℕ). SameFor l m g s y) (sym (left_as_was m t c (λ q. n (sym e ∙ q)))) f)
