-- THEOREM `tally_history`: from a fresh store and records of new vCPUs, whatever calls are made through the layer, the records are
-- what the history of the calls and their answers gives. `layer_history`: so for what `tally` does call after call, at both sizes. Assumes nothing.
use mathlib.Core.Path.{◌≡◌, refl, sym, ap, ap₂, ◌∙◌, subst}
use mathlib.Core.Logic.{◌≢◌}
use mathlib.Core.Bool.{Bool, true, false, not, ◌&&◌, ◌||◌, cond}
use mathlib.Core.List.{List, [], ◌∷◌}
use mathlib.Core.Option.{Option, none, some}
use Prim.Native.Nat.{ℕ, zero, suc, ◌+◌, ◌-◌, ◌*◌, ◌/◌, ◌%◌, ◌≤◌, ◌<◌}
use native.Mathlib.Omega.{arith}
use native.Mathlib.Decide.{ℕ_discrete}
use lib.Dec.{eqb}
use lib.ListN.{length, get_or, replicate, length-replicate, get_or-replicate}
use borrow.Author.Tests.{eq-eqb, ne_eqb, eqb-true}
use Rattle.store.specs.declared.Layout.{Layout}
use Rattle.store.specs.Layout.{Sound, small, large, layout_of}
use Rattle.store.specs.Header.{header, live, word, word_of, guest_of, lacks, free_slot}
use Rattle.store.specs.Store.{well_formed, fresh, with_vcpu}
use Rattle.store.proofs.Search.{no_bool}
use Rattle.store.proofs.Marks.{word_slot, word_slot_else}
use Rattle.store.proofs.Frame.{header_full, formed}
use Rattle.store.proofs.Kept.{words_are}
use Rattle.store.proofs.Fresh.{fresh_good, fresh_word}
use Rattle.store.proofs.Sizes.{sound_small, sound_large, small_told, of_large}
use Rattle.admission.specs.Refusals.{Outcome, has_bit0}
use Rattle.admission.specs.Target.{slot_named}
use Rattle.l0.specs.Calls.{Call, GetCapabilities, SetCapabilities, CreateGuest, CreateVcpu, GetState, SetState, RunVcpu, DeleteGuest, GuestClock, outcome}
use Rattle.l0.specs.Numbered.{CallRecord, call_of, called}
use Rattle.tally.specs.declared.Summary.{Summary}
use Rattle.tally.specs.declared.Change.{Change}
use Rattle.tally.specs.declared.Change.TheVariants.{Nothing, Renewed}
use Rattle.tally.specs.Tally.{new_record, changed, change_by, dropped, touches, noted, Tallied, r3_of, counted, tallied}
use Rattle.promises.specs.History.{registers, deletes}
use Rattle.promises.specs.Tallies.{Sums, no_calls, is_named, added, of_named, after_call, after_entry, summed_over, shown, history_gives, Night, before, entry_of, night_from, night_of, night_made, TallyHistory}
use Rattle.promises.proofs.Kept.{refused_unchanged, well_formed_kept}
use Rattle.promises.proofs.Told.{zero_none}
use Rattle.promises.proofs.HandedOver.{slot_placed, word_used}
use Rattle.promises.proofs.Lowest.{VcpuMade, vcpu_made, new_word, made_header, free_slot_lem, freed_slot, kept_slot}
use Rattle.promises.proofs.Used.{Same, told_same, caps_same, guest_same, get_same, set_same, run_same, clock_same}
use Rattle.promises.proofs.Slots.{word_guest, Same-vcpu, word_vcpu}
use Rattle.promises.proofs.Apart.{placed_slot}
use Rattle.promises.proofs.Sums.{length_noted, noted_at_lem, noted_nothing, Adds, adds_get, adds_set, adds_ran, counted_shown, enough_records}

-- ---- words
is_named_lem : (g v guest vcpu : ℕ) → Same-vcpu g v guest vcpu → is_named g v guest vcpu ≡ true
is_named_lem g v guest vcpu x = ap₂ (λ (a b : Bool). a && b) (eq-eqb _ _ x.same_guest) (eq-eqb _ _ x.same_id)

named_is : (g v guest vcpu : ℕ) → is_named g v guest vcpu ≡ true → Same-vcpu g v guest vcpu
named_is g v guest vcpu e = go (eqb g guest) (eqb v vcpu) refl refl e
  where
    go : (a b : Bool) → eqb g guest ≡ a → eqb v vcpu ≡ b → (a && b) ≡ true → Same-vcpu g v guest vcpu
    go true true p q z = record { same_guest = eqb-true _ _ p; same_id = eqb-true _ _ q }
    go true false p q z = absurd (no_bool z)
    go false b p q z = absurd (no_bool z)

module _ (l : Layout) (so : Sound l) (s : List ℕ) (good : well_formed l s ≡ true) where
  abbrev word_at : ℕ → ℕ
  word_at a = word l (header l s) a

  used_word : (a g v : ℕ) → word l (header l s) a ≡ word_of l g v → word l (header l s) a ≢ 0
  used_word a g v e z = word_used l so g v (sym e ∙ z)

  -- the slot that holds a vCPU's word is that vCPU's
  holder : (a g v : ℕ) → a < l.slots → v < 2048 → word l (header l s) a ≡ word_of l g v → slot_named l s g v ≡ a
  holder a g v la lv e =
      placed_slot l so s good g v a la (record {
        alive = ap (live l (header l s)) (sym (ap (guest_of l) e ∙ word_guest l g v lv)) ∙ ((words_are l (header l s) (formed l s good).words).good a la (used_word a g v e)).1;
        low = lv;
        named = e;
      })

  -- so a call touches the record of a used slot exactly if it names its vCPU
  touched_named : (a g v guest vcpu : ℕ) → a < l.slots → v < 2048 → word l (header l s) a ≡ word_of l g v → eqb a (slot_named l s guest vcpu) ≡ is_named g v guest vcpu
  touched_named a g v guest vcpu la lv e = go (ℕ_discrete a (slot_named l s guest vcpu))
    where
      other : (b : Bool) → is_named g v guest vcpu ≡ b → a ≢ slot_named l s guest vcpu → false ≡ b
      other false q n = refl
      other true q n =
          let x = named_is g v guest vcpu q in
          absurd (n (sym (holder a g v la lv e) ∙ ap₂ (slot_named l s) x.same_guest x.same_id))

      go : Dec (a ≡ slot_named l s guest vcpu) → eqb a (slot_named l s guest vcpu) ≡ is_named g v guest vcpu
      go (yes q) =
          let p = slot_placed l (header l s) guest vcpu a (sym q) la in
          eq-eqb _ _ q ∙ sym (is_named_lem g v guest vcpu (word_vcpu l g v guest vcpu lv p.low (sym e ∙ p.named)))
      go (no n) = ne_eqb _ _ n ∙ other (is_named g v guest vcpu) refl n

  -- and never that of a free one
  touched_free : (a guest vcpu : ℕ) → a < l.slots → word l (header l s) a ≡ 0 → eqb a (slot_named l s guest vcpu) ≡ false
  touched_free a guest vcpu la z =
      ne_eqb _ _ (λ q. word_used l so guest vcpu (sym (slot_placed l (header l s) guest vcpu a (sym q) la).named ∙ z))

  -- what a used slot's word names
  used_holder : (a : ℕ) → a < l.slots → word l (header l s) a ≢ 0 → (g : ℕ) × (v : ℕ) × (slot_named l s g v ≡ a)
  unfolding guest_of word_of
  used_holder a la n =
      let w = word l (header l s) a in
      let f : l.ids * 2048 ≤ word l (header l s) a = ((words_are l (header l s) (formed l s good).words).good a la n).0 in
      let lv : word l (header l s) a % 2048 < 2048 = omega arith in
      let e : word l (header l s) a ≡ (l.ids + (word l (header l s) a / 2048 - l.ids)) * 2048 + word l (header l s) a % 2048 = omega arith in
      (guest_of l w, w % 2048, holder a (guest_of l w) (w % 2048) la lv e)

-- ---- records that are what is counted, of each vCPU by t
record Tells (l : Layout) (s : List ℕ) (ts : List Summary) (t : ℕ → ℕ → Option Sums) : Type 0 where
  good : well_formed l s ≡ true
  number : length ts ≡ l.slots
  held : (a g v : ℕ) → a < l.slots → v < 2048 → word l (header l s) a ≡ word_of l g v → shown (t g v) ≡ some (get_or ts a new_record)
  free : (a : ℕ) → a < l.slots → word l (header l s) a ≡ 0 → get_or ts a new_record ≡ new_record
  gone : (g v : ℕ) → ((a : ℕ) → a < l.slots → v < 2048 → word l (header l s) a ≢ word_of l g v) → t g v ≡ none

module _ (l : Layout) (so : Sound l) (s : List ℕ) (ts : List Summary) (t : ℕ → ℕ → Option Sums) (x : Tells l s ts t) where
  abbrev Next : Call → Type 0
  Next c = Tells l (outcome l s c).store (noted (touches l s c) (change_by l s c (registers l s c).r3) 0 ts) (λ g v. after_call g v c (registers l s c).r3 (t g v))

  below : (a : ℕ) → a < l.slots → a < length ts
  below a la = omega (arith, x.number)

  -- a record after the call
  at : (p : ℕ → Bool) (c : Change) (a : ℕ) → a < l.slots → get_or (noted p c 0 ts) a new_record ≡ cond (p a) (changed c (get_or ts a new_record)) (get_or ts a new_record)
  at p c a la = noted_at_lem p c a ts (below a la)

  by_test : (p : ℕ → Bool) (c : Change) (a : ℕ) → a < l.slots → (b : Bool) → p a ≡ b → get_or (noted p c 0 ts) a new_record ≡ cond b (changed c (get_or ts a new_record)) (get_or ts a new_record)
  by_test p c a la b e = at p c a la ∙ ap (λ (y : Bool). cond y (changed c (get_or ts a new_record)) (get_or ts a new_record)) e

  -- ---- a call that changes neither words nor records
  idle : (s' : List ℕ) (p : ℕ → Bool) → well_formed l s' ≡ true → ((a : ℕ) → a < l.slots → word l (header l s') a ≡ word l (header l s) a) → Tells l s' (noted p Nothing 0 ts) t
  idle s' p w same =
      subst (λ (us : List Summary). Tells l s' us t) (sym (noted_nothing p 0 ts))
      (record {
        good = w;
        number = x.number;
        held = λ a g v la lv e. x.held a g v la lv (sym (same a la) ∙ e);
        free = λ a la z. x.free a la (sym (same a la) ∙ z);
        gone = λ g v n. x.gone g v (λ a la lv e. n a la lv (same a la ∙ e));
      })

  idle_call : (c : Call) → Same l s (outcome l s c) → (p : ℕ → Bool) → Tells l (outcome l s c).store (noted p Nothing 0 ts) t
  idle_call c w p = idle (outcome l s c).store p (well_formed_kept l so s x.good c) w.words

  -- a refused one
  refused_call : (c : Call) → eqb (registers l s c).r3 0 ≡ false → (p : ℕ → Bool) → Tells l (outcome l s c).store (noted p Nothing 0 ts) t
  unfolding registers
  refused_call c e p = idle (outcome l s c).store p (well_formed_kept l so s x.good c) (λ a la. ap (λ (y : List ℕ). word l (header l y) a) ((refused_unchanged l s c).store e))

  -- ---- a call that names a vCPU
  on_named : (c : Call) (guest vcpu : ℕ) (d : Change) (f : Sums → Sums) → Adds d f → Same l s (outcome l s c)
      → Tells l (outcome l s c).store (noted (λ a. eqb a (slot_named l s guest vcpu)) d 0 ts) (λ g v. of_named g v guest vcpu f (t g v))
  on_named c guest vcpu d f adds w = record {
    good = well_formed_kept l so s x.good c;
    number = length_noted p d 0 ts ∙ x.number;
    held = λ a g v la lv e. one a g v la lv (sym (w.words a la) ∙ e);
    free = λ a la z. by_test p d a la false (touched_free l so s x.good a guest vcpu la (sym (w.words a la) ∙ z)) ∙ x.free a la (sym (w.words a la) ∙ z);
    gone = λ g v n. none_of (is_named g v guest vcpu) (t g v) (x.gone g v (λ a la lv e. n a la lv (w.words a la ∙ e)));
  }
    where
      p : ℕ → Bool
      p a = eqb a (slot_named l s guest vcpu)

      none_of : (b : Bool) (o : Option Sums) → o ≡ none → cond b (added f o) o ≡ none
      none_of true o e = ap (added f) e
      none_of false o e = e

      some_of : (b : Bool) (o : Option Sums) (y : Summary) → shown o ≡ some y → shown (cond b (added f o) o) ≡ some (cond b (changed d y) y)
      some_of true o y e = counted_shown d f adds o y e
      some_of false o y e = e

      one : (a g v : ℕ) → a < l.slots → v < 2048 → word l (header l s) a ≡ word_of l g v → shown (of_named g v guest vcpu f (t g v)) ≡ some (get_or (noted p d 0 ts) a new_record)
      one a g v la lv e =
          some_of (is_named g v guest vcpu) (t g v) (get_or ts a new_record) (x.held a g v la lv e)
          ∙ ap some (sym (by_test p d a la (is_named g v guest vcpu) (touched_named l so s x.good a g v guest vcpu la lv e)))

  -- ---- create vCPU
  module _ (flags guest vcpu : ℕ) (m : VcpuMade l s flags guest vcpu) where
    abbrev here : ℕ
    here = free_slot l (header l s)

    abbrev made : List ℕ
    made = with_vcpu l s (free_slot l (header l s)) guest vcpu

    full : length (header l s) ≡ l.guests_at
    full = header_full l so s (formed l s x.good).long

    word_made : word l (header l made) here ≡ word_of l guest vcpu
    word_made = ap (λ (h : List ℕ). word l h here) (made_header l so s flags guest vcpu m) ∙ word_slot l so (header l s) full here m.room (word_of l guest vcpu) (new_word l so s flags guest vcpu m)

    word_else : (a : ℕ) → a < l.slots → a ≢ here → word l (header l made) a ≡ word l (header l s) a
    word_else a la n = ap (λ (h : List ℕ). word l h a) (made_header l so s flags guest vcpu m) ∙ word_slot_else l so (header l s) full here m.room (word_of l guest vcpu) a la n

    was_free : word l (header l s) here ≡ 0
    was_free = (free_slot_lem l s m.room).free

    created : well_formed l made ≡ true → Tells l made (noted (λ a. eqb a here) Renewed 0 ts) (λ g v. cond (is_named g v guest vcpu) (some no_calls) (t g v))
    created w = record {
      good = w;
      number = length_noted (λ a. eqb a here) Renewed 0 ts ∙ x.number;
      held = λ a g v la lv e. one a g v la lv e (ℕ_discrete a here);
      free = λ a la z. empty a la z (ℕ_discrete a here);
      gone = λ g v n. absent g v n (is_named g v guest vcpu) refl;
    }
      where
        us : List Summary
        us = noted (λ a. eqb a here) Renewed 0 ts

        renewed : (a : ℕ) → a < l.slots → a ≡ here → get_or us a new_record ≡ new_record
        renewed a la q = by_test (λ a. eqb a here) Renewed a la true (eq-eqb _ _ q)

        kept : (a : ℕ) → a < l.slots → a ≢ here → get_or us a new_record ≡ get_or ts a new_record
        kept a la n = by_test (λ a. eqb a here) Renewed a la false (ne_eqb _ _ n)

        one : (a g v : ℕ) → a < l.slots → v < 2048 → word l (header l made) a ≡ word_of l g v → Dec (a ≡ here) → shown (cond (is_named g v guest vcpu) (some no_calls) (t g v)) ≡ some (get_or us a new_record)
        one a g v la lv e (yes q) =
            let same = word_vcpu l g v guest vcpu lv m.small (sym e ∙ ap (word l (header l made)) q ∙ word_made) in
            ap (λ (b : Bool). shown (cond b (some no_calls) (t g v))) (is_named_lem g v guest vcpu same) ∙ ap some (sym (renewed a la q))
        one a g v la lv e (no n) =
            ap (λ (b : Bool). shown (cond b (some no_calls) (t g v))) (unnamed (is_named g v guest vcpu) refl) ∙ x.held a g v la lv was ∙ ap some (sym (kept a la n))
          where
            was : word l (header l s) a ≡ word_of l g v
            was = sym (word_else a la n) ∙ e

            -- the vCPU that is created had no slot
            unnamed : (b : Bool) → is_named g v guest vcpu ≡ b → is_named g v guest vcpu ≡ false
            unnamed false q = q
            unnamed true q =
                let y = named_is g v guest vcpu q in
                let z : slot_named l s guest vcpu ≡ a = ap₂ (slot_named l s) (sym y.same_guest) (sym y.same_id) ∙ holder l so s x.good a g v la lv was in
                absurd (omega (arith, m.absent, z, la))

        empty : (a : ℕ) → a < l.slots → word l (header l made) a ≡ 0 → Dec (a ≡ here) → get_or us a new_record ≡ new_record
        empty a la z (yes q) = renewed a la q
        empty a la z (no n) = kept a la n ∙ x.free a la (sym (word_else a la n) ∙ z)

        absent : (g v : ℕ) → ((a : ℕ) → a < l.slots → v < 2048 → word l (header l made) a ≢ word_of l g v) → (b : Bool) → is_named g v guest vcpu ≡ b → cond b (some no_calls) (t g v) ≡ none
        absent g v n true q =
            let y = named_is g v guest vcpu q in
            let lv : v < 2048 = omega (arith, m.small, y.same_id) in
            absurd (n here m.room lv (word_made ∙ sym (ap₂ (word_of l) y.same_guest y.same_id)))
        absent g v n false q = x.gone g v (λ a la lv e. before a la lv e (ℕ_discrete a here))
          where
            before : (a : ℕ) → a < l.slots → v < 2048 → word l (header l s) a ≡ word_of l g v → Dec (a ≡ here) → ⊥
            before a la lv e (yes q') = word_used l so g v (sym e ∙ ap (word l (header l s)) q' ∙ was_free)
            before a la lv e (no n') = n a la lv (word_else a la n' ∙ e)

  create_next : (flags guest vcpu : ℕ) → Next (CreateVcpu flags guest vcpu)
  unfolding outcome
  create_next flags guest vcpu = go (eqb (registers l s (CreateVcpu flags guest vcpu)).r3 0) refl
    where
      c : Call
      c = CreateVcpu flags guest vcpu

      go : (b : Bool) → eqb (registers l s (CreateVcpu flags guest vcpu)).r3 0 ≡ b
          → Tells l (outcome l s (CreateVcpu flags guest vcpu)).store (noted (λ a. eqb a (free_slot l (header l s))) (cond b Renewed Nothing) 0 ts)
          (λ g v. cond (b && is_named g v guest vcpu) (some no_calls) (t g v))
      go false e = refused_call c e (λ a. eqb a (free_slot l (header l s)))
      go true e =
          let m = vcpu_made l s flags guest vcpu (zero_none l s c (eqb-true _ _ e)) in
          let is = ap (λ (o : Outcome). o.store) m.is in
          subst (λ (y : List ℕ). Tells l y (noted (λ a. eqb a (free_slot l (header l s))) Renewed 0 ts) (λ g v. cond (is_named g v guest vcpu) (some no_calls) (t g v))) (sym is)
          (created flags guest vcpu m (subst (λ (y : List ℕ). well_formed l y ≡ true) is (well_formed_kept l so s x.good c)))

  -- ---- delete
  delete_next : (flags guest : ℕ) → Next (DeleteGuest flags guest)
  unfolding lacks
  delete_next flags guest = go (eqb (registers l s (DeleteGuest flags guest)).r3 0) refl
    where
      c : Call
      c = DeleteGuest flags guest

      left : List ℕ
      left = (outcome l s c).store

      us : List Summary
      us = noted (dropped l s flags guest) Renewed 0 ts

      -- whether slot a's vCPU is one that it deletes
      drops : ℕ → Bool
      drops a = deletes flags guest (guest_of l (word l (header l s) a))

      -- a used slot's record is touched exactly then
      drops_used : (a : ℕ) → word l (header l s) a ≢ 0 → dropped l s flags guest a ≡ drops a
      drops_used a n = by_bit (has_bit0 flags)
        where
          by_bit : (b : Bool) → cond b (not (eqb (word l (header l s) a) 0)) (eqb (guest_of l (word l (header l s) a)) guest) ≡ (b || eqb (guest_of l (word l (header l s) a)) guest)
          by_bit true = ap not (ne_eqb _ _ n)
          by_bit false = refl

      -- a free slot's is a new one, touched or not
      stays_new : (a : ℕ) → a < l.slots → word l (header l s) a ≡ 0 → get_or us a new_record ≡ new_record
      stays_new a la z = at (dropped l s flags guest) Renewed a la ∙ either (dropped l s flags guest a) (x.free a la z)
        where
          either : (b : Bool) → get_or ts a new_record ≡ new_record → cond b new_record (get_or ts a new_record) ≡ new_record
          either true e = refl
          either false e = e

      done : (registers l s (DeleteGuest flags guest)).r3 ≡ 0 → Tells l left us (λ g v. cond (deletes flags guest g) none (t g v))
      done e = record {
        good = well_formed_kept l so s x.good c;
        number = length_noted (dropped l s flags guest) Renewed 0 ts ∙ x.number;
        held = λ a g v la lv q. one a g v la lv q (drops a) refl;
        free = λ a la z. empty a la z (drops a) refl (ℕ_discrete (word l (header l s) a) 0);
        gone = λ g v n. absent g v n (deletes flags guest g) refl;
      }
        where
          kept : (a : ℕ) → a < l.slots → drops a ≡ false → word l (header l left) a ≡ word l (header l s) a
          kept a la d = kept_slot l so s flags guest e a la d

          one : (a g v : ℕ) → a < l.slots → v < 2048 → word l (header l left) a ≡ word_of l g v → (b : Bool) → drops a ≡ b → shown (cond (deletes flags guest g) none (t g v)) ≡ some (get_or us a new_record)
          one a g v la lv q true d = absurd (word_used l so g v (sym q ∙ freed_slot l so s flags guest e a la d))
          one a g v la lv q false d =
              let was : word l (header l s) a ≡ word_of l g v = sym (kept a la d) ∙ q in
              let of : guest_of l (word l (header l s) a) ≡ g = ap (guest_of l) was ∙ word_guest l g v lv in
              ap (λ (b : Bool). shown (cond b none (t g v))) (ap (deletes flags guest) (sym of) ∙ d) ∙ x.held a g v la lv was
              ∙ ap some (sym (by_test (dropped l s flags guest) Renewed a la false (drops_used a (used_word l so s x.good a g v was) ∙ d)))

          empty : (a : ℕ) → a < l.slots → word l (header l left) a ≡ 0 → (b : Bool) → drops a ≡ b → Dec (word l (header l s) a ≡ 0) → get_or us a new_record ≡ new_record
          empty a la z b d (yes q) = stays_new a la q
          empty a la z true d (no n) = by_test (dropped l s flags guest) Renewed a la true (drops_used a n ∙ d)
          empty a la z false d (no n) = absurd (n (sym (kept a la d) ∙ z))

          absent : (g v : ℕ) → ((a : ℕ) → a < l.slots → v < 2048 → word l (header l left) a ≢ word_of l g v) → (b : Bool) → deletes flags guest g ≡ b → cond b none (t g v) ≡ none
          absent g v n true d = refl
          absent g v n false d =
              x.gone g v (λ a la lv q. n a la lv (kept a la (ap (deletes flags guest) (ap (guest_of l) q ∙ word_guest l g v lv) ∙ d) ∙ q))

      go : (b : Bool) → eqb (registers l s (DeleteGuest flags guest)).r3 0 ≡ b
          → Tells l (outcome l s (DeleteGuest flags guest)).store (noted (dropped l s flags guest) (cond b Renewed Nothing) 0 ts) (λ g v. cond (b && deletes flags guest g) none (t g v))
      go true e = done (eqb-true _ _ e)
      go false e = refused_call c e (dropped l s flags guest)

  -- ---- each call
  call_next : (c : Call) → Next c
  unfolding outcome
  call_next (GetCapabilities flags) = idle_call (GetCapabilities flags) (told_same l so s x.good flags) _
  call_next (SetCapabilities flags bitmap) = idle_call (SetCapabilities flags bitmap) (caps_same l so s x.good flags bitmap) _
  call_next (CreateGuest flags token) = idle_call (CreateGuest flags token) (guest_same l so s x.good flags token) _
  call_next (CreateVcpu flags guest vcpu) = create_next flags guest vcpu
  call_next (GetState flags guest vcpu buffer) =
      on_named (GetState flags guest vcpu buffer) guest vcpu _ _ (adds_get flags (registers l s (GetState flags guest vcpu buffer)).r3) (get_same l so s x.good flags guest vcpu buffer)
  call_next (SetState flags guest vcpu buffer) =
      on_named (SetState flags guest vcpu buffer) guest vcpu _ _ (adds_set flags buffer (registers l s (SetState flags guest vcpu buffer)).r3) (set_same l so s x.good flags guest vcpu buffer)
  call_next (RunVcpu flags guest vcpu input output effect exit) =
      on_named (RunVcpu flags guest vcpu input output effect exit) guest vcpu _ _ (adds_ran l s flags guest vcpu input output effect exit) (run_same l so s x.good flags guest vcpu input output effect exit)
  call_next (DeleteGuest flags guest) = delete_next flags guest
  call_next (GuestClock guest timebase) = idle_call (GuestClock guest timebase) (clock_same l so s x.good guest timebase) _

  -- ---- through the layer: the kind is the call
  module _ (flags guest number exit : ℕ) (d effect u : List ℕ) where
    abbrev given : ℕ → CallRecord
    given k = record { kind = k; flags = flags; guest = guest; number = number; exit = exit; «data» = d; effect = effect }

    abbrev Turned : CallRecord → Tallied → Type 0
    Turned r o = Tells l o.store o.records (λ g v. after_entry g v (call_of r u) (r3_of r.kind o.answer) (t g v))

    kind_next : (k : ℕ) → Turned (given k) (counted l ts s (given k) u)
    unfolding called registers
    kind_next zero = x
    kind_next (suc zero) = call_next (GetCapabilities flags)
    kind_next (suc (suc zero)) = call_next (SetCapabilities flags number)
    kind_next (suc (suc (suc zero))) = call_next (CreateGuest flags number)
    kind_next (suc (suc (suc (suc zero)))) = call_next (CreateVcpu flags guest number)
    kind_next (suc (suc (suc (suc (suc zero))))) = call_next (GetState flags guest number d)
    kind_next (suc (suc (suc (suc (suc (suc zero)))))) = call_next (SetState flags guest number d)
    kind_next (suc (suc (suc (suc (suc (suc (suc zero))))))) = call_next (RunVcpu flags guest number d u effect exit)
    kind_next (suc (suc (suc (suc (suc (suc (suc (suc zero)))))))) = call_next (DeleteGuest flags guest)
    kind_next (suc (suc (suc (suc (suc (suc (suc (suc (suc k))))))))) = x

  turn_next : (r : CallRecord) (u : List ℕ)
      → Tells l (tallied l ts s r u).store (tallied l ts s r u).records (λ g v. after_entry g v (call_of r u) (r3_of r.kind (tallied l ts s r u).answer) (t g v))
  turn_next r u =
      subst (λ (o : Tallied). Tells l o.store o.records (λ g v. after_entry g v (call_of r u) (r3_of r.kind o.answer) (t g v))) (sym (enough_records l ts s r u x.number))
      (kind_next r.flags r.guest r.number r.exit r.«data» r.effect u r.kind)

-- ---- every history
night_tells : (l : Layout) → Sound l → (s : List ℕ) (ts : List Summary) (t : ℕ → ℕ → Option Sums) → Tells l s ts t → (xs : List (CallRecord × List ℕ))
    → Tells l (night_from l s ts xs).store (night_from l s ts xs).records (λ g v. summed_over g v (t g v) (night_from l s ts xs).entries)
unfolding night_from summed_over
night_tells l so s ts t x [] = x
night_tells l so s ts t x (y ∷ xs) =
    let o = tallied l ts s y.0 y.1 in
    night_tells l so o.store o.records (λ g v. after_entry g v (call_of y.0 y.1) (r3_of y.0.kind o.answer) (t g v)) (turn_next l so s ts t x y.0 y.1) xs

fresh_tells : (l : Layout) → Sound l → Tells l (fresh l) (replicate l.slots new_record) (λ g v. none)
fresh_tells l so = record {
  good = fresh_good l so;
  number = length-replicate l.slots new_record;
  held = λ a g v la lv e. absurd (word_used l so g v (sym e ∙ fresh_word l so a));
  free = λ a la z. get_or-replicate l.slots a new_record new_record la;
  gone = λ g v n. refl;
}

tells_history : (l : Layout) → Sound l → (n : Night) → Tells l n.store n.records (λ g v. summed_over g v none n.entries) → TallyHistory l n
unfolding history_gives
tells_history l so n x = record {
  number = x.number;
  held = λ g v h. let p = slot_placed l (header l n.store) g v (slot_named l n.store g v) refl h in x.held (slot_named l n.store g v) g v h p.low p.named;
  used = used_holder l so n.store x.good;
  free = x.free;
  gone = λ g v h. ap shown (x.gone g v (λ a la lv e. let z : slot_named l n.store g v ≡ a = holder l so n.store x.good a g v la lv e in absurd (omega (arith, h, z, la))));
}

pub tally_history : (l : Layout) → Sound l → (xs : List (CallRecord × List ℕ)) → TallyHistory l (night_of l xs)
tally_history l so xs = tells_history l so (night_of l xs) (night_tells l so (fresh l) (replicate l.slots new_record) (λ g v. none) (fresh_tells l so) xs)

-- ---- every call meets the same layout, where the length of a store tells it
module _ (l : Layout) (so : Sound l) (is_told_lem : (s : List ℕ) → length s ≡ l.size → l ≡ layout_of s) where
  made_from : (s : List ℕ) (ts : List Summary) (t : ℕ → ℕ → Option Sums) → Tells l s ts t → (xs : List (CallRecord × List ℕ)) → night_made s ts xs ≡ night_from l s ts xs
  unfolding night_made night_from
  made_from s ts t x [] = refl
  made_from s ts t x (y ∷ xs) =
      let o = tallied l ts s y.0 y.1 in
      ap (λ (m : Layout). before (entry_of y.0 y.1 (tallied m ts s y.0 y.1)) (night_made (tallied m ts s y.0 y.1).store (tallied m ts s y.0 y.1).records xs))
      (sym (is_told_lem s (formed l s x.good).long))
      ∙ ap (before (entry_of y.0 y.1 o)) (made_from o.store o.records _ (turn_next l so s ts t x y.0 y.1) xs)

  made_history : (xs : List (CallRecord × List ℕ)) → TallyHistory l (night_made (fresh l) (replicate l.slots new_record) xs)
  made_history xs = subst (TallyHistory l) (sym (made_from (fresh l) (replicate l.slots new_record) (λ g v. none) (fresh_tells l so) xs)) (tally_history l so xs)

pub layer_history : (xs : List (CallRecord × List ℕ))
    → TallyHistory small (night_made (fresh small) (replicate 16 new_record) xs) × TallyHistory large (night_made (fresh large) (replicate 64 new_record) xs)
layer_history xs = (made_history small sound_small (λ s h. small_told small s refl h) xs, made_history large sound_large (λ s h. of_large large s h refl) xs)
