-- LEMMA `aside_kept`: a call that does not name guest g, and does not delete all, leaves what is g's. Assumes nothing.
use mathlib.Core.Path.{◌≡◌, refl, sym, ap, ◌∙◌, subst}
use mathlib.Core.Logic.{◌≢◌}
use mathlib.Core.Bool.{Bool, true, false, not, ◌&&◌, cond}
use mathlib.Core.List.{List, [], ◌∷◌, ◌++◌}
use Prim.Native.Nat.{ℕ, ◌≤◌, ◌<◌}
use native.Mathlib.Omega.{arith}
use native.Mathlib.Decide.{ℕ_discrete}
use lib.ListN.{length}
use borrow.Author.Tests.{eqb-false, ltb-true, ltb-false, not-true, not-false}
use Rattle.octets.specs.Bytes.{put, digits, zeros, left}
use Rattle.octets.proofs.Bytes.{length_put, length_zeros, read_other}
use Rattle.octets.proofs.Numbers.{length_digits}
use Rattle.answer.specs.declared.Fault.{Fault}
use Rattle.rules.specs.declared.Usage.TheVariants.{RunInput, Effect as InEffect}
use Rattle.gsb.specs.Walk.{count_of}
use Rattle.handover.specs.Form.{values_of}
use Rattle.store.specs.declared.Layout.{Layout}
use Rattle.store.specs.Layout.{Sound, guest_bytes, slot_bytes, guest_at, slot_at}
use Rattle.store.specs.Header.{header, live, word, word_of, guest_of, is_taken, slot_of, free_slot, is_dead, free_guest}
use Rattle.store.specs.Store.{well_formed, put_capabilities, put_live, put_slot, with_guest, with_vcpu, without_guest, without_guests}
use Rattle.store.proofs.Search.{no_bool, first_bounds, first_found}
use Rattle.store.proofs.Tests.{live_parts}
use Rattle.store.proofs.WordFields.{word_live, live_else}
use Rattle.store.proofs.Marks.{word_slot, word_slot_else, live_slot}
use Rattle.store.proofs.Frame.{header_full, header_values, header_caps, header_live, formed}
use Rattle.store.proofs.Kept.{caps_word, caps_taken, caps_live, deleted_else, deleted_slot, deleted_other, deleted_mark, guest_mark, vcpu_word, vcpu_header, vcpu_mark_else}
use Rattle.store.proofs.Edited.{Edited, live_edited, mark_edited, slot_edited, delete_edited}
use Rattle.transfer.specs.Transfer.{applied}
use Rattle.transfer.proofs.Moving.{length_applied}
use Rattle.admission.specs.Refusals.{Outcome, accept, refuse, has_bit0, Passed}
use Rattle.admission.specs.Target.{base_of}
use Rattle.state.specs.HandOver.{take_vcpu, give_vcpu}
use Rattle.state.specs.State.{context_of, buffer_tests, supported_bits, set_use, set_elements, set_state, get_elements, get_state}
use Rattle.state.proofs.HandOvers.{get_ways, set_ways}
use Rattle.run.specs.Run.{run_bits, input_of, lent_tests, content_tests, run_tests, ran_store, ran, run_vcpu}
use Rattle.guests.specs.Guests.{create_guest, create_vcpu, delete_guest}
use Rattle.l0.specs.Calls.{get_capabilities, set_capabilities, guest_clock, Call, GetCapabilities, SetCapabilities, CreateGuest, CreateVcpu, GetState, SetState, RunVcpu, DeleteGuest, GuestClock, outcome}
use Rattle.promises.specs.Mirror.{place_of, room_of, Inside, values_in}
use Rattle.promises.specs.Isolation.{names, deletes_all}
use Rattle.promises.proofs.HandedOver.{handed, handed_word, handed_live, handed_mark_else, take_slotted, give_slotted, take_leaves, given_length}
use Rattle.promises.proofs.Kept.{decided, applied_header, base_values}
use Rattle.promises.proofs.Lowest.{free_slot_lem}
use Rattle.promises.proofs.States.{walked, set_room}
use Rattle.promises.proofs.Runs.{input_walked, effect_walked}
use Rattle.promises.proofs.Slots.{word_guest, none_guest, slot_guest}
use Rattle.promises.proofs.Both.Places.{Other, place_from, place_room}
use Rattle.promises.proofs.Both.Values.{Beside, put_beside}
use Rattle.promises.proofs.Targets.{passed_first, named_tests, away_test, index_of, beside_then, index_inside, target_beside}

-- the values of guest g, or of a slot whose word names it
abbrev pub Ours : Layout → List ℕ → ℕ → Bool → ℕ → Type 0
Ours l s g true k = k ≡ g
Ours l s g false j = guest_of l (word l (header l s) j) ≡ g

-- u has what s has for guest g: its live bit, its words in their slots and no others, their marks, its values. Nothing of well-formedness: every
-- call keeps it (`well_formed_kept`).
pub record Aside (l : Layout) (g : ℕ) (s u : List ℕ) : Type 0 where
  pub alive : live l (header l u) g ≡ live l (header l s) g
  pub stays : (a : ℕ) → a < l.slots → guest_of l (word l (header l s) a) ≡ g → word l (header l u) a ≡ word l (header l s) a
  pub comes : (a : ℕ) → a < l.slots → guest_of l (word l (header l u) a) ≡ g → word l (header l u) a ≡ word l (header l s) a
  pub marks : (a : ℕ) → a < l.slots → guest_of l (word l (header l s) a) ≡ g → is_taken l (header l u) a ≡ is_taken l (header l s) a
  pub values : (x : Bool) (k : ℕ) → Inside l x k → Ours l s g x k → values_in l u x k ≡ values_in l s x k

module _ (l : Layout) (so : Sound l) (g : ℕ) (s : List ℕ) (good : well_formed l s ≡ true) (lives : live l (header l s) g ≡ true) where
  abbrev Kept : Outcome → Type 0
  Kept o = Aside l g s o.store

  long : length s ≡ l.size
  long = (formed l s good).long

  full : length (header l s) ≡ l.guests_at
  full = header_full l so s long

  some : 1 ≤ g
  some = (live_parts l (header l s) g lives).0

  -- ---- the header is left
  behind : (u : List ℕ) → header l u ≡ header l s → ((x : Bool) (k : ℕ) → Inside l x k → Ours l s g x k → values_in l u x k ≡ values_in l s x k) → Aside l g s u
  behind u e f = record {
    alive = ap (λ (h : List ℕ). live l h g) e;
    stays = λ a k n. ap (λ (h : List ℕ). word l h a) e;
    comes = λ a k n. ap (λ (h : List ℕ). word l h a) e;
    marks = λ a k n. ap (λ (h : List ℕ). is_taken l h a) e;
    values = f;
  }

  same : Aside l g s s
  same = behind s refl (λ x k i o. refl)

  refused : (b : List ℕ) (f : Fault) → Kept (refuse s b f)
  refused b f = same

  -- ---- live bits, marks or slot words written
  edited_values : (t u : List ℕ) → Edited l t u → (x : Bool) (k : ℕ) → Inside l x k → values_in l u x k ≡ values_in l t x k
  edited_values t u e x k i = e.behind (place_of l x k) (room_of x) (place_from l so x k) (place_room l so x k i)

  -- ---- set capabilities
  caps_aside : (c : ℕ) → Aside l g s (put_capabilities s c)
  unfolding put_capabilities
  caps_aside c =
      let e = header_caps l so s c in
      record {
        alive = ap (λ (h : List ℕ). live l h g) e ∙ caps_live l so (header l s) c g;
        stays = λ a k n. ap (λ (h : List ℕ). word l h a) e ∙ caps_word l so (header l s) c a;
        comes = λ a k n. ap (λ (h : List ℕ). word l h a) e ∙ caps_word l so (header l s) c a;
        marks = λ a k n. ap (λ (h : List ℕ). is_taken l h a) e ∙ caps_taken l so (header l s) c a;
        values = λ x k i o. read_other s 0 (digits 8 c) (place_of l x k) (room_of x) (left (omega (arith, length_digits 8 c, so.head, so.words, place_from l so x k)));
      }

  set_caps_kept : (flags bitmap : ℕ) → Kept (set_capabilities l s flags bitmap)
  unfolding set_capabilities
  set_caps_kept flags bitmap = decided Kept s [] _ _ (refused []) (λ p. caps_aside bitmap)

  -- ---- create guest: the new one was dead
  guest_aside : (k : ℕ) → 1 ≤ k → k ≤ l.guests → live l (header l s) k ≡ false → Aside l g s (with_guest l s k)
  unfolding with_guest
  guest_aside k lo hi dead =
      let e : header l (with_guest l s k) ≡ put_live (header l s) k 1 = header_values l so (put_live s k 1) (guest_at l k) (zeros guest_bytes) (omega arith) ∙ header_live l so s k 1 hi in
      let d = live_edited l so s long k 1 lo hi in
      record {
        alive = ap (λ (h : List ℕ). live l h g) e ∙ live_else l so (header l s) full k lo hi 1 g other;
        stays = λ a i n. ap (λ (h : List ℕ). word l h a) e ∙ word_live l so (header l s) full k lo hi 1 a;
        comes = λ a i n. ap (λ (h : List ℕ). word l h a) e ∙ word_live l so (header l s) full k lo hi 1 a;
        marks = λ a i n. guest_mark l so s good a i k lo hi;
        values = λ x i h o. put_beside l so (put_live s k 1) d.long true k (lo, hi) (zeros guest_bytes) (length_zeros guest_bytes) x i h (apart x i o) ∙ edited_values s (put_live s k 1) d x i h;
      }
    where
      other : g ≢ k
      other z = no_bool (sym dead ∙ ap (live l (header l s)) (sym z) ∙ lives)

      apart : (x : Bool) (i : ℕ) → Ours l s g x i → Other true k x i
      apart true i o w e = other (sym o ∙ sym e)
      apart false i o w e = no_bool (sym w)

  guest_kept : (flags token : ℕ) → Kept (create_guest l s flags token)
  unfolding create_guest free_guest is_dead
  guest_kept flags token =
      decided Kept s [] _ _ (refused [])
      (λ p. let hi : free_guest l (header l s) ≤ l.guests = ltb-false _ _ p.1.1.1.0 in
      guest_aside (free_guest l (header l s)) (first_bounds (is_dead l (header l s)) l.guests 1).0 hi (not-true _ (first_found (is_dead l (header l s)) l.guests 1 (omega (arith, hi))).has))

  -- ---- create vCPU of another guest: its slot was free
  vcpu_aside : (j guest vcpu : ℕ) → j < l.slots → word l (header l s) j ≡ 0 → guest ≤ l.guests → vcpu < 2048 → guest ≢ g → Aside l g s (with_vcpu l s j guest vcpu)
  unfolding with_vcpu
  vcpu_aside j guest vcpu hj free hi hv n =
      let w = word_of l guest vcpu in
      let e = vcpu_header l so s good j hj guest vcpu in
      let d = slot_edited l so s long j w hj in
      record {
        alive = ap (λ (h : List ℕ). live l h g) e ∙ live_slot l so (header l s) full j hj w g;
        stays = λ a i o. ap (λ (h : List ℕ). word l h a) e ∙ word_slot_else l so (header l s) full j hj w a i (λ z. vacant a z o);
        comes = λ a i o. ap (λ (h : List ℕ). word l h a) e ∙ word_slot_else l so (header l s) full j hj w a i
            (λ z. n (theirs ∙ ap (guest_of l) (sym (ap (λ (h : List ℕ). word l h a) e ∙ ap (word l (put_slot l (header l s) j w)) z ∙ word_slot l so (header l s) full j hj w (vcpu_word l so guest vcpu hi hv))) ∙ o));
        marks = λ a i o. vcpu_mark_else l so s good a i j guest vcpu hj (λ z. vacant a z o);
        values = λ x i h o. put_beside l so (put_slot l s j w) d.long false j hj (zeros slot_bytes) (length_zeros slot_bytes) x i h (apart x i o) ∙ edited_values s (put_slot l s j w) d x i h;
      }
    where
      vacant : (a : ℕ) → a ≡ j → guest_of l (word l (header l s) a) ≢ g
      vacant a z = none_guest l g (word l (header l s) a) some (ap (word l (header l s)) z ∙ free)

      theirs : guest ≡ guest_of l (word_of l guest vcpu)
      theirs = sym (word_guest l guest vcpu hv)

      apart : (x : Bool) (i : ℕ) → Ours l s g x i → Other false j x i
      apart true i o w e = no_bool w
      apart false i o w e = vacant i (sym e) o

  vcpu_kept : (flags guest vcpu : ℕ) → guest ≢ g → Kept (create_vcpu l s flags guest vcpu)
  unfolding create_vcpu
  vcpu_kept flags guest vcpu n =
      decided Kept s [] _ _ (refused [])
      (λ p. let q = p.1.1 in
      let room : free_slot l (header l s) < l.slots = ltb-true _ _ (not-false _ q.1.1.1.0) in
      vcpu_aside (free_slot l (header l s)) guest vcpu room (free_slot_lem l s room).free (live_parts l (header l s) guest (not-false _ q.0)).1 (ltb-true _ _ (not-false _ q.1.0)) n)

  -- ---- delete of another guest
  delete_aside : (k : ℕ) → live l (header l s) k ≡ true → k ≢ g → Aside l g s (without_guest l s k)
  delete_aside k lv n =
      let p = live_parts l (header l s) k lv in
      record {
        alive = deleted_else l so s good k lv g (λ z. n (sym z));
        stays = λ a i o. deleted_other l so s good k lv a i (λ z. n (sym z ∙ o));
        comes = λ a i o. comes a i o (ℕ_discrete (guest_of l (word l (header l s) a)) k);
        marks = λ a i o. deleted_mark l so s good k lv a i (λ z. n (sym z ∙ o));
        values = λ x i h o. edited_values s (without_guest l s k) (delete_edited l so s long k p.0 p.1) x i h;
      }
    where
      comes : (a : ℕ) → a < l.slots → guest_of l (word l (header l (without_guest l s k)) a) ≡ g → Dec (guest_of l (word l (header l s) a) ≡ k) → word l (header l (without_guest l s k)) a ≡ word l (header l s) a
      comes a i o (yes z) = absurd (none_guest l g (word l (header l (without_guest l s k)) a) some (deleted_slot l so s good k lv a i z) o)
      comes a i o (no z) = deleted_other l so s good k lv a i z

  delete_kept : (flags guest : ℕ) → has_bit0 flags ≡ false → guest ≢ g → Kept (delete_guest l s flags guest)
  unfolding delete_guest
  delete_kept flags guest one n = decided Kept s [] _ _ (refused []) (λ p. go (has_bit0 flags) one p.1.1.0)
    where
      go : (all : Bool) → all ≡ false → (not all && not (live l (header l s) guest)) ≡ false → Kept (accept 0 (cond all (without_guests l s) (without_guest l s guest)))
      go true e x = absurd (no_bool (sym e))
      go false e x = delete_aside guest (not-false _ x) n

  -- ---- set state and run of another guest: what they name is not ours
  not_ours : (wide : Bool) (guest vcpu : ℕ) → guest ≢ g → Inside l wide (index_of l s wide guest vcpu) → (x : Bool) (k : ℕ) → Ours l s g x k → Other wide (index_of l s wide guest vcpu) x k
  not_ours true guest vcpu n i true k o w e = n (e ∙ o)
  not_ours true guest vcpu n i false k o w e = no_bool (sym w)
  not_ours false guest vcpu n i true k o w e = no_bool w
  not_ours false guest vcpu n i false k o w e = n (sym (slot_guest l (header l s) guest vcpu i) ∙ ap (λ (a : ℕ). guest_of l (word l (header l s) a)) e ∙ o)

  written : (wide : Bool) (guest vcpu : ℕ) → guest ≢ g → Inside l wide (index_of l s wide guest vcpu) → (u : List ℕ) → header l u ≡ header l s → Beside l wide (index_of l s wide guest vcpu) s u → Aside l g s u
  written wide guest vcpu n i u e b = behind u e (λ x k h o. b x k h (not_ours wide guest vcpu n i x k o))

  elements_kept : (flags guest vcpu : ℕ) (b : List ℕ) → guest ≢ g → Kept (set_elements l s flags guest vcpu b)
  unfolding set_elements
  elements_kept flags guest vcpu b n =
      decided Kept s [] _ _ (refused [])
      (λ p. let wide = has_bit0 flags in
      let bits = supported_bits (has_bit0 flags) in
      let q = passed_first (named_tests bits flags wide guest vcpu l s) (away_test wide guest vcpu l s ∷ buffer_tests (context_of l s guest (set_use wide)) b) p in
      written wide guest vcpu n (index_inside l s wide guest vcpu bits flags q) _
      (applied_header l so (base_of l s wide guest vcpu) b (count_of b) s (base_values l so s wide guest vcpu))
      (target_beside l s wide guest vcpu bits flags q so s long (set_use wide) b (walked l s flags guest vcpu b (set_use wide) p) (set_room l s flags guest vcpu b)))

  module _ (flags guest vcpu : ℕ) (input output effect : List ℕ) (exit : ℕ) (n : guest ≢ g) where
    abbrev base : ℕ
    base = base_of l s false guest vcpu

    abbrev given : List ℕ
    given = input_of s base input

    ran_aside : Passed (run_tests l s flags guest vcpu input (length output) effect exit) → Aside l g s (ran_store base given effect s)
    unfolding ran_store
    ran_aside p =
        let q = passed_first (named_tests run_bits flags false guest vcpu l s) (away_test false guest vcpu l s ∷ lent_tests s base 0 (length input) (length output) ++ content_tests l s guest given effect exit) p in
        let from = base_values l so s false guest vcpu in
        written false guest vcpu n (index_inside l s false guest vcpu run_bits flags q) _
        (applied_header l so base effect (count_of effect) (applied base given (count_of given) s) from ∙ applied_header l so base given (count_of given) s from)
        (beside_then l false (index_of l s false guest vcpu) s (applied base given (count_of given) s) _
        (target_beside l s false guest vcpu run_bits flags q so s long RunInput given (input_walked l s flags guest vcpu input output effect exit p) refl)
        (target_beside l s false guest vcpu run_bits flags q so (applied base given (count_of given) s) (length_applied base given s (count_of given) ∙ long) InEffect effect (effect_walked l s flags guest vcpu input output effect exit p) refl))

    run_kept : Kept (run_vcpu l s flags guest vcpu input output effect exit)
    unfolding run_vcpu ran
    run_kept = decided Kept s output _ _ (refused output) ran_aside

  -- ---- another guest's vCPU handed over: its slot is not ours
  handed_aside : (guest vcpu : ℕ) → guest ≢ g → slot_of l (header l s) guest vcpu < l.slots → (w : List ℕ) → length w ≡ slot_bytes → (b : ℕ) → Aside l g s (handed l s (slot_of l (header l s) guest vcpu) w b)
  handed_aside guest vcpu n k w len b = record {
    alive = handed_live l so s j k w b long g;
    stays = λ a i o. handed_word l so s j k w b long a i;
    comes = λ a i o. handed_word l so s j k w b long a i;
    marks = λ a i o. handed_mark_else l so s j k w b long a (λ z. not_ours false guest vcpu n k false a o refl (sym z));
    values = λ x i h o. edited_values (put s (slot_at l j) w) _ (mark_edited l so (put s (slot_at l j) w) (length_put s (slot_at l j) w ∙ long) j b k) x i h
        ∙ put_beside l so s long false j k w len x i h (not_ours false guest vcpu n k x i o);
  }
    where
      j : ℕ
      j = slot_of l (header l s) guest vcpu

  take_kept : (guest vcpu : ℕ) (b : List ℕ) → guest ≢ g → Kept (take_vcpu l s guest vcpu b)
  unfolding take_vcpu
  take_kept guest vcpu b n =
      decided Kept s b _ _ (refused b)
      (λ p. subst (Aside l g s) (sym (take_leaves l s guest vcpu b)) (handed_aside guest vcpu n (take_slotted l s guest vcpu b p).below (zeros slot_bytes) (length_zeros slot_bytes) 1))

  give_kept : (guest vcpu : ℕ) (b : List ℕ) → guest ≢ g → Kept (give_vcpu l s guest vcpu b)
  unfolding give_vcpu
  give_kept guest vcpu b n = decided Kept s [] _ _ (refused []) (λ p. handed_aside guest vcpu n (give_slotted l s guest vcpu b p).below (values_of b) (given_length l s guest vcpu b p) 0)

  set_kept : (flags guest vcpu : ℕ) (b : List ℕ) → guest ≢ g → Kept (set_state l s flags guest vcpu b)
  set_kept flags guest vcpu b n = set_ways l s flags guest vcpu b Kept (λ e. elements_kept flags guest vcpu b n) (λ e. give_kept guest vcpu b n)

  got_kept : (flags guest vcpu : ℕ) (b : List ℕ) → Kept (get_elements l s flags guest vcpu b)
  unfolding get_elements
  got_kept flags guest vcpu b = decided Kept s b _ _ (refused b) (λ p. same)

  get_kept : (flags guest vcpu : ℕ) (b : List ℕ) → guest ≢ g → Kept (get_state l s flags guest vcpu b)
  get_kept flags guest vcpu b n = get_ways l s flags guest vcpu b Kept (λ e. got_kept flags guest vcpu b) (λ e. take_kept guest vcpu b n)

  -- ---- the calls that write no store
  get_caps_kept : (flags : ℕ) → Kept (get_capabilities l s flags)
  unfolding get_capabilities
  get_caps_kept flags = decided Kept s [] _ _ (refused []) (λ p. same)

  clock_kept : (guest timebase : ℕ) → Kept (guest_clock l s guest timebase)
  unfolding guest_clock
  clock_kept guest timebase = decided Kept s [] _ _ (refused []) (λ p. same)

  -- ---- each call
  pub aside_kept : (c : Call) → names g c ≡ false → deletes_all c ≡ false → Aside l g s (outcome l s c).store
  unfolding outcome
  aside_kept (GetCapabilities flags) n d = get_caps_kept flags
  aside_kept (SetCapabilities flags bitmap) n d = set_caps_kept flags bitmap
  aside_kept (CreateGuest flags token) n d = guest_kept flags token
  aside_kept (CreateVcpu flags guest vcpu) n d = vcpu_kept flags guest vcpu (eqb-false _ _ n)
  aside_kept (GetState flags guest vcpu buffer) n d = get_kept flags guest vcpu buffer (eqb-false _ _ n)
  aside_kept (SetState flags guest vcpu buffer) n d = set_kept flags guest vcpu buffer (eqb-false _ _ n)
  aside_kept (RunVcpu flags guest vcpu input output effect exit) n d = run_kept flags guest vcpu input output effect exit (eqb-false _ _ n)
  aside_kept (DeleteGuest flags guest) n d = delete_kept flags guest d (eqb-false _ _ n)
  aside_kept (GuestClock guest timebase) n d = clock_kept guest timebase
