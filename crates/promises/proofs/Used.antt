-- THEOREMS `slots_used`, `slots_free`: the slots used are the accepted vCPU creations less those dropped by deletes, over every history
-- from a fresh store; those of the layout less that are free. Assumes nothing.
use mathlib.Core.Path.{◌≡◌, refl, sym, ap, ap₂, ◌∙◌, subst}
use mathlib.Core.Logic.{◌≢◌}
use mathlib.Core.Bool.{Bool, true, false, not, ◌&&◌, cond}
use mathlib.Core.List.{List, [], ◌∷◌}
use Prim.Native.Nat.{ℕ, ◌+◌, ◌-◌, ◌*◌, ◌≤◌, ◌<◌}
use native.Mathlib.Omega.{arith}
use native.Mathlib.Decide.{ℕ_discrete}
use lib.Dec.{eqb}
use lib.ListN.{length}
use borrow.Author.Tests.{eq-eqb, ne_eqb, le-leb, lt-leb, eqb-true, ltb-false}
use Rattle.octets.specs.Bytes.{zeros}
use Rattle.answer.specs.declared.Fault.{Fault}
use Rattle.gsb.specs.Walk.{count_of}
use Rattle.transfer.specs.Transfer.{applied}
use Rattle.store.specs.declared.Layout.{Layout}
use Rattle.store.specs.Layout.{Sound, small, large, guest_at, guest_bytes, slot_bytes}
use Rattle.store.specs.Search.{tally}
use Rattle.store.specs.Header.{header, word, word_of, is_used, guest_of, holds, lacks, free_slot, is_dead, free_guest, used_slots}
use Rattle.store.specs.Store.{well_formed, fresh, put_live, with_guest, with_vcpu}
use Rattle.store.proofs.Search.{first_bounds, tally_ext, tally_more, tally_none, tally_sum, tally_all}
use Rattle.store.proofs.WordFields.{word_live}
use Rattle.store.proofs.Marks.{word_slot, word_slot_else}
use Rattle.store.proofs.Frame.{header_full, header_values, header_caps, header_live, formed}
use Rattle.store.proofs.Kept.{words_are, caps_word}
use Rattle.store.proofs.Fresh.{fresh_good, fresh_word}
use Rattle.admission.specs.Refusals.{Outcome, refuse}
use Rattle.admission.specs.Target.{base_of}
use Rattle.handover.specs.Form.{values_of}
use Rattle.state.specs.HandOver.{take_vcpu, give_vcpu}
use Rattle.state.specs.State.{get_elements, get_state, set_elements, set_state}
use Rattle.state.proofs.HandOvers.{get_ways, set_ways}
use Rattle.run.specs.Run.{input_of, ran_store, ran, run_vcpu}
use Rattle.guests.specs.Guests.{create_guest}
use Rattle.l0.specs.Calls.{get_capabilities, set_capabilities, guest_clock, Call, GetCapabilities, SetCapabilities, CreateGuest, CreateVcpu, GetState, SetState, RunVcpu, DeleteGuest, GuestClock, outcome, after}
use Rattle.promises.specs.History.{registers, is_accepted, Count, nothing, deletes, is_dropped, how_many, without, counting, counted_over, history, free_slots}
use Rattle.promises.proofs.Kept.{decided, refused_unchanged, applied_header, base_values, well_formed_kept, fresh_history}
use Rattle.promises.proofs.Told.{zero_none}
use Rattle.promises.proofs.HandedOver.{take_slotted, give_slotted, take_leaves, handed_word}
use Rattle.promises.proofs.Lowest.{VcpuMade, vcpu_made, new_word, made_header, free_slot_lem, freed_slot, kept_slot}

-- ---- a call that leaves the words of the store s as they were
pub record Same (l : Layout) (s : List ℕ) (o : Outcome) : Type 0 where
  pub words : (a : ℕ) → a < l.slots → word l (header l o.store) a ≡ word l (header l s) a

-- ---- the words of a store are those of the vCPUs counted: as many of every kind of guest
abbrev named : Layout → List ℕ → (ℕ → Bool) → ℕ → Bool
named l h p a = is_used l (word l h a) && p (guest_of l (word l h a))

record Matches (l : Layout) (s : List ℕ) (vs : List (ℕ × ℕ)) : Type 0 where
  as_many : (p : ℕ → Bool) → tally (named l (header l s) p) l.slots ≡ how_many (λ v. p v.0) vs

same_matches : (l : Layout) (s : List ℕ) (vs : List (ℕ × ℕ)) (o : Outcome) → Same l s o → Matches l s vs → Matches l o.store vs
same_matches l s vs o r m = record {
  as_many = λ p. tally_ext (named l (header l o.store) p) (named l (header l s) p) l.slots (λ a k. ap (λ (w : ℕ). is_used l w && p (guest_of l w)) (r.words a k)) ∙ m.as_many p;
}

-- ---- lists of vCPUs
-- of those left by d, as many as have p and not d
many_left : (p d : ℕ × ℕ → Bool) (vs : List (ℕ × ℕ)) → how_many p (without d vs) ≡ how_many (λ v. not (d v) && p v) vs
unfolding how_many without
many_left p d [] = refl
many_left p d (v ∷ vs) = go (d v) (many_left p d vs)
  where
    go : (t : Bool) → how_many p (without d vs) ≡ how_many (λ v. not (d v) && p v) vs → how_many p (cond t (without d vs) (v ∷ without d vs)) ≡ cond (not t && p v) 1 0 + how_many (λ v. not (d v) && p v) vs
    go true ih = omega (arith, ih)
    go false ih = ap (λ (n : ℕ). cond (p v) 1 0 + n) ih

left_and_dropped : (d : ℕ × ℕ → Bool) (vs : List (ℕ × ℕ)) → how_many (λ v. true) (without d vs) + how_many d vs ≡ how_many (λ v. true) vs
unfolding how_many without
left_and_dropped d [] = refl
left_and_dropped d (v ∷ vs) = go (d v) (left_and_dropped d vs)
  where
    go : (t : Bool) → how_many (λ v. true) (without d vs) + how_many d vs ≡ how_many (λ v. true) vs
        → how_many (λ v. true) (cond t (without d vs) (v ∷ without d vs)) + (cond t 1 0 + how_many d vs) ≡ 1 + how_many (λ v. true) vs
    go true ih = omega (arith, ih)
    go false ih = omega (arith, ih)

module _ (l : Layout) (so : Sound l) (s : List ℕ) (good : well_formed l s ≡ true) where
  full : length (header l s) ≡ l.guests_at
  full = header_full l so s (formed l s good).long

  kept : (b : List ℕ) (f : Fault) → Same l s (refuse s b f)
  kept b f = record { words = λ a la. refl }

  -- ---- the calls that leave the words
  pub caps_same : (flags bitmap : ℕ) → Same l s (set_capabilities l s flags bitmap)
  unfolding set_capabilities
  caps_same flags bitmap =
      decided (Same l s) s [] _ _ (kept [])
      (λ p. record { words = λ a la. ap (λ (h : List ℕ). word l h a) (header_caps l so s bitmap) ∙ caps_word l so (header l s) bitmap a })

  guest_words : (g : ℕ) → 1 ≤ g → g ≤ l.guests → (a : ℕ) → word l (header l (with_guest l s g)) a ≡ word l (header l s) a
  unfolding with_guest
  guest_words g lo hi a =
      ap (λ (h : List ℕ). word l h a) (header_values l so (put_live s g 1) (guest_at l g) (zeros guest_bytes) (omega arith) ∙ header_live l so s g 1 hi)
      ∙ word_live l so (header l s) full g lo hi 1 a

  pub guest_same : (flags token : ℕ) → Same l s (create_guest l s flags token)
  unfolding create_guest free_guest
  guest_same flags token =
      decided (Same l s) s [] _ _ (kept [])
      (λ p. record { words = λ a la. guest_words (free_guest l (header l s)) (first_bounds (is_dead l (header l s)) l.guests 1).0 (ltb-false _ _ p.1.1.1.0) a })

  elements_same : (flags guest vcpu : ℕ) (b : List ℕ) → Same l s (set_elements l s flags guest vcpu b)
  unfolding set_elements
  elements_same flags guest vcpu b =
      decided (Same l s) s [] _ _ (kept [])
      (λ p. record { words = λ a la. ap (λ (h : List ℕ). word l h a) (applied_header l so _ b (count_of b) s (search (base_values, so))) })

  take_same : (guest vcpu : ℕ) (b : List ℕ) → Same l s (take_vcpu l s guest vcpu b)
  unfolding take_vcpu
  take_same guest vcpu b =
      decided (Same l s) s b _ _ (kept b)
      (λ p. let f = take_slotted l s guest vcpu b p in
      record { words = λ a la. ap (λ (t : List ℕ). word l (header l t) a) (take_leaves l s guest vcpu b) ∙ handed_word l so s _ f.below (zeros slot_bytes) 1 (formed l s good).long a la })

  give_same : (guest vcpu : ℕ) (b : List ℕ) → Same l s (give_vcpu l s guest vcpu b)
  unfolding give_vcpu
  give_same guest vcpu b =
      decided (Same l s) s [] _ _ (kept [])
      (λ p. let f = give_slotted l s guest vcpu b p in record { words = λ a la. handed_word l so s _ f.below (values_of b) 0 (formed l s good).long a la })

  pub set_same : (flags guest vcpu : ℕ) (b : List ℕ) → Same l s (set_state l s flags guest vcpu b)
  set_same flags guest vcpu b = set_ways l s flags guest vcpu b (Same l s) (λ e. elements_same flags guest vcpu b) (λ t. give_same guest vcpu b)

  pub run_same : (flags guest vcpu : ℕ) (input output effect : List ℕ) (exit : ℕ) → Same l s (run_vcpu l s flags guest vcpu input output effect exit)
  unfolding run_vcpu ran ran_store
  run_same flags guest vcpu input output effect exit =
      let base = base_of l s false guest vcpu in
      let b = input_of s base input in
      let v = base_values l so s false guest vcpu in
      decided (Same l s) s output _ _ (kept output)
      (λ p. record { words = λ a la. ap (λ (h : List ℕ). word l h a) (applied_header l so base effect (count_of effect) (applied base b (count_of b) s) v ∙ applied_header l so base b (count_of b) s v) })

  got_same : (flags guest vcpu : ℕ) (b : List ℕ) → Same l s (get_elements l s flags guest vcpu b)
  unfolding get_elements
  got_same flags guest vcpu b = decided (Same l s) s b _ _ (kept b) (λ p. record { words = λ a la. refl })

  pub get_same : (flags guest vcpu : ℕ) (b : List ℕ) → Same l s (get_state l s flags guest vcpu b)
  get_same flags guest vcpu b = get_ways l s flags guest vcpu b (Same l s) (λ e. got_same flags guest vcpu b) (λ t. take_same guest vcpu b)

  pub told_same : (flags : ℕ) → Same l s (get_capabilities l s flags)
  unfolding get_capabilities
  told_same flags = decided (Same l s) s [] _ _ (kept []) (λ p. record { words = λ a la. refl })

  pub clock_same : (guest timebase : ℕ) → Same l s (guest_clock l s guest timebase)
  unfolding guest_clock
  clock_same guest timebase = decided (Same l s) s [] _ _ (kept []) (λ p. record { words = λ a la. refl })

  -- ---- words that are zero or used
  zero_unused : is_used l 0 ≡ false
  unfolding is_used
  zero_unused = let n : 0 < l.ids * 2048 = omega (arith, so.nameable) in lt-leb _ _ n

  used : (w : ℕ) → l.ids * 2048 ≤ w → is_used l w ≡ true
  unfolding is_used
  used w k = le-leb _ _ k

  unused : (h : List ℕ) (p : ℕ → Bool) (a : ℕ) → word l h a ≡ 0 → named l h p a ≡ false
  unused h p a e = ap (λ (w : ℕ). is_used l w && p (guest_of l w)) e ∙ ap (λ (t : Bool). t && p (guest_of l 0)) zero_unused

  -- ---- create vCPU: its word in a free slot, and the others as they were
  module _ (flags g v : ℕ) (x : VcpuMade l s flags g v) (p : ℕ → Bool) where
    abbrev free : ℕ
    free = free_slot l (header l s)

    abbrev made : List ℕ
    made = header l (with_vcpu l s free g v)

    new_named : named l made p free ≡ p g
    unfolding guest_of word_of
    new_named =
        let small = x.small in
        let w = word_of l g v in
        let e : word l made free ≡ w = ap (λ (h : List ℕ). word l h free) (made_header l so s flags g v x) ∙ word_slot l so (header l s) full free x.room w (new_word l so s flags g v x) in
        let guest : guest_of l w ≡ g = omega arith in
        ap (λ (y : ℕ). is_used l y && p (guest_of l y)) e ∙ ap₂ (λ (t : Bool) (k : ℕ). t && p k) (used w (omega arith)) guest

    other_named : (a : ℕ) → a < l.slots → a ≢ free → named l made p a ≡ named l (header l s) p a
    other_named a la n =
        ap (λ (w : ℕ). is_used l w && p (guest_of l w)) (ap (λ (h : List ℕ). word l h a) (made_header l so s flags g v x) ∙ word_slot_else l so (header l s) full free x.room (word_of l g v) a la n)

    was_free : named l (header l s) p free ≡ false
    was_free = unused (header l s) p free (free_slot_lem l s x.room).free

    vcpu_more : tally (named l made p) l.slots ≡ cond (p g) 1 0 + tally (named l (header l s) p) l.slots
    vcpu_more = go (p g) refl
      where
        go : (t : Bool) → p g ≡ t → tally (named l made p) l.slots ≡ cond t 1 0 + tally (named l (header l s) p) l.slots
        go true q =
            let e : tally (named l made p) l.slots ≡ tally (named l (header l s) p) l.slots + 1 = tally_more (named l (header l s) p) (named l made p) l.slots free x.room was_free (new_named ∙ q) (λ a k n. sym (other_named a k n)) in
            omega (arith, e)
        go false q =
            let e : tally (named l made p) l.slots ≡ tally (named l (header l s) p) l.slots = tally_ext (named l made p) (named l (header l s) p) l.slots (λ a k. at a k (ℕ_discrete a free)) in
            omega (arith, e)
          where
            at : (a : ℕ) → a < l.slots → Dec (a ≡ free) → named l made p a ≡ named l (header l s) p a
            at a k (yes z) = ap (named l made p) z ∙ new_named ∙ q ∙ sym was_free ∙ ap (named l (header l s) p) (sym z)
            at a k (no n) = other_named a k n

  vcpu_matches : (flags g v : ℕ) (vs : List (ℕ × ℕ)) → (registers l s (CreateVcpu flags g v)).r3 ≡ 0 → Matches l s vs → Matches l (outcome l s (CreateVcpu flags g v)).store ((g, v) ∷ vs)
  unfolding outcome how_many
  vcpu_matches flags g v vs e m =
      let x = vcpu_made l s flags g v (zero_none l s (CreateVcpu flags g v) e) in
      record {
        as_many = λ p. ap (λ (o : Outcome). tally (named l (header l o.store) p) l.slots) x.is ∙ vcpu_more flags g v x p ∙ ap (λ (n : ℕ). cond (p g) 1 0 + n) (m.as_many p);
      }

  -- ---- delete: the words that it drops, and the others as they were
  delete_matches : (flags guest : ℕ) (vs : List (ℕ × ℕ)) → (registers l s (DeleteGuest flags guest)).r3 ≡ 0 → Matches l s vs
      → Matches l (outcome l s (DeleteGuest flags guest)).store (without (is_dropped flags guest) vs)
  unfolding is_dropped
  delete_matches flags guest vs e m = record {
    as_many = λ p. tally_ext (named l (header l (outcome l s (DeleteGuest flags guest)).store) p) (named l (header l s) (stays p)) l.slots (λ a k. at p a (word l (header l s) a) refl k (deletes flags guest (guest_of l (word l (header l s) a))) refl)
        ∙ m.as_many (stays p) ∙ sym (many_left (λ v. p v.0) (is_dropped flags guest) vs);
  }
    where
      stays : (ℕ → Bool) → ℕ → Bool
      stays p g = not (deletes flags guest g) && p g

      both_false : (t : Bool) → (t && false) ≡ false
      both_false true = refl
      both_false false = refl

      at : (p : ℕ → Bool) (a w : ℕ) → w ≡ word l (header l s) a → a < l.slots → (d : Bool) → deletes flags guest (guest_of l w) ≡ d
          → named l (header l (outcome l s (DeleteGuest flags guest)).store) p a ≡ (is_used l w && (not d && p (guest_of l w)))
      at p a w q k true d = unused (header l (outcome l s (DeleteGuest flags guest)).store) p a (freed_slot l so s flags guest e a k (ap (λ (y : ℕ). deletes flags guest (guest_of l y)) (sym q) ∙ d)) ∙ sym (both_false (is_used l w))
      at p a w q k false d = ap (λ (y : ℕ). is_used l y && p (guest_of l y)) (kept_slot l so s flags guest e a k (ap (λ (y : ℕ). deletes flags guest (guest_of l y)) (sym q) ∙ d) ∙ sym q)

  -- ---- one call
  call_matches : (n : Count) (c : Call) → (registers l s c).r3 ≡ 0 → Matches l s n.vcpus → Matches l (outcome l s c).store (counting n c).vcpus
  unfolding outcome
  call_matches n (GetCapabilities flags) e = same_matches l s n.vcpus _ (told_same flags)
  call_matches n (SetCapabilities flags bitmap) e = same_matches l s n.vcpus _ (caps_same flags bitmap)
  call_matches n (CreateGuest flags token) e = same_matches l s n.vcpus _ (guest_same flags token)
  call_matches n (CreateVcpu flags guest vcpu) e = vcpu_matches flags guest vcpu n.vcpus e
  call_matches n (GetState flags guest vcpu buffer) e = same_matches l s n.vcpus _ (get_same flags guest vcpu buffer)
  call_matches n (SetState flags guest vcpu buffer) e = same_matches l s n.vcpus _ (set_same flags guest vcpu buffer)
  call_matches n (RunVcpu flags guest vcpu input output effect exit) e = same_matches l s n.vcpus _ (run_same flags guest vcpu input output effect exit)
  call_matches n (DeleteGuest flags guest) e = delete_matches flags guest n.vcpus e
  call_matches n (GuestClock guest timebase) e = same_matches l s n.vcpus _ (clock_same guest timebase)

  -- a refused one leaves the store as it was
  turn_matches : (n : Count) (c : Call) → Matches l s n.vcpus → Matches l (outcome l s c).store (cond (is_accepted l s c) (counting n c) n).vcpus
  unfolding is_accepted registers
  turn_matches n c m = go (is_accepted l s c) refl
    where
      go : (t : Bool) → is_accepted l s c ≡ t → Matches l (outcome l s c).store (cond t (counting n c) n).vcpus
      go true e = call_matches n c (eqb-true _ _ e) m
      go false e = subst (λ (t : List ℕ). Matches l t n.vcpus) (sym ((refused_unchanged l s c).store e)) m

  -- the used slots are those whose word is not zero
  used_named : used_slots l (header l s) ≡ tally (named l (header l s) (λ g. true)) l.slots
  unfolding used_slots lacks
  used_named = tally_ext (lacks l (header l s) 0) (named l (header l s) (λ g. true)) l.slots (λ a k. at a k (ℕ_discrete (word l (header l s) a) 0))
    where
      at : (a : ℕ) → a < l.slots → Dec (word l (header l s) a ≡ 0) → not (eqb (word l (header l s) a) 0) ≡ named l (header l s) (λ g. true) a
      at a k (yes z) = ap not (eq-eqb _ _ z) ∙ sym (unused (header l s) (λ g. true) a z)
      at a k (no n) = ap not (ne_eqb _ _ n) ∙ sym (ap (λ (t : Bool). t && true) (used (word l (header l s) a) ((words_are l (header l s) (formed l s good).words).good a k n).0))

-- ---- every history
history_matches : (l : Layout) → Sound l → (s : List ℕ) → well_formed l s ≡ true → (n : Count) (cs : List Call) → Matches l s n.vcpus → Matches l (after l s cs) (counted_over l s n cs).vcpus
unfolding after counted_over
history_matches l so s good n [] m = m
history_matches l so s good n (c ∷ cs) m =
    history_matches l so (outcome l s c).store (well_formed_kept l so s good c) (cond (is_accepted l s c) (counting n c) n) cs (turn_matches l so s good n c m)

-- the vCPUs that are left and those that were dropped are those created
record Even (n : Count) : Type 0 where
  sum : how_many (λ v. true) n.vcpus + n.dropped ≡ n.created

call_even : (n : Count) (c : Call) → Even n → Even (counting n c)
unfolding how_many
call_even n (GetCapabilities flags) e = e
call_even n (SetCapabilities flags bitmap) e = e
call_even n (CreateGuest flags token) e = e
call_even n (CreateVcpu flags guest vcpu) e = record { sum = omega (arith, e.sum) }
call_even n (GetState flags guest vcpu buffer) e = e
call_even n (SetState flags guest vcpu buffer) e = e
call_even n (RunVcpu flags guest vcpu input output effect exit) e = e
call_even n (DeleteGuest flags guest) e = record { sum = omega (arith, e.sum, left_and_dropped (is_dropped flags guest) n.vcpus) }
call_even n (GuestClock guest timebase) e = e

history_even : (l : Layout) (s : List ℕ) (n : Count) (cs : List Call) → Even n → Even (counted_over l s n cs)
unfolding counted_over
history_even l s n [] e = e
history_even l s n (c ∷ cs) e = history_even l (outcome l s c).store (cond (is_accepted l s c) (counting n c) n) cs (go (is_accepted l s c))
  where
    go : (t : Bool) → Even (cond t (counting n c) n)
    go true = call_even n c e
    go false = e

-- a fresh store has no slot used
fresh_matches : (l : Layout) → Sound l → Matches l (fresh l) []
unfolding how_many is_used
fresh_matches l so = record { as_many = λ p. tally_ext (named l (header l (fresh l)) p) (λ a. false) l.slots (λ a k. none p a) ∙ tally_none l.slots }
  where
    none : (p : ℕ → Bool) (a : ℕ) → named l (header l (fresh l)) p a ≡ false
    none p a =
        let w = word l (header l (fresh l)) a in
        let h : w < l.ids * 2048 = omega (arith, fresh_word l so a, so.nameable) in
        ap (λ (t : Bool). t && p (guest_of l w)) (lt-leb (l.ids * 2048) w h)

nothing_even : Even nothing
unfolding how_many
nothing_even = record { sum = refl }

pub slots_used : (l : Layout) → Sound l → (cs : List Call) → used_slots l (header l (after l (fresh l) cs)) + (history l cs).dropped ≡ (history l cs).created
slots_used l so cs =
    let u = used_named l so (after l (fresh l) cs) (fresh_history l so cs) in
    let m = (history_matches l so (fresh l) (fresh_good l so) nothing cs (fresh_matches l so)).as_many (λ g. true) in
    omega (arith, u, m, (history_even l (fresh l) nothing cs nothing_even).sum)

pub slots_used_less : (l : Layout) → Sound l → (cs : List Call) → used_slots l (header l (after l (fresh l) cs)) ≡ (history l cs).created - (history l cs).dropped
slots_used_less l so cs = omega (arith, slots_used l so cs)

-- ---- the free ones: every slot is used or free
pub free_and_used : (l : Layout) (h : List ℕ) → free_slots l h + used_slots l h ≡ l.slots
unfolding free_slots used_slots holds lacks
free_and_used l h = tally_sum (holds l h 0) (lacks l h 0) (λ a. true) l.slots (λ a k. either (eqb (word l h a) 0)) ∙ tally_all l.slots
  where
    either : (t : Bool) → cond t 1 0 + cond (not t) 1 0 ≡ 1
    either true = refl
    either false = refl

pub slots_free : (l : Layout) (cs : List Call) → free_slots l (header l (after l (fresh l) cs)) ≡ l.slots - used_slots l (header l (after l (fresh l) cs))
slots_free l cs = omega (arith, free_and_used l (header l (after l (fresh l) cs)))

-- "16 less that are free", and 02, L6: "63 guests and 64 slots"
pub slots_free_small : (cs : List Call) → free_slots small (header small (after small (fresh small) cs)) ≡ 16 - used_slots small (header small (after small (fresh small) cs))
slots_free_small cs = slots_free small cs

pub slots_free_large : (cs : List Call) → free_slots large (header large (after large (fresh large) cs)) ≡ 64 - used_slots large (header large (after large (fresh large) cs))
slots_free_large cs = slots_free large cs
