-- THEOREMS `lowest_guest`, `lowest_slot`: create takes the lowest free id or slot; `created_guest`, `created_slot`: which is then that
-- guest's or vCPU's; `freed_guest`, `freed_slot`: what delete freed is free again. Assumes nothing.
use mathlib.Core.Path.{◌≡◌, refl, sym, ap, ap₂, ◌∙◌, subst}
use mathlib.Core.Logic.{◌≢◌}
use mathlib.Core.Bool.{Bool, true, false, not, ◌&&◌, ◌||◌, cond}
use mathlib.Core.List.{List, [], ◌∷◌}
use Prim.Native.Nat.{ℕ, zero, suc, ◌+◌, ◌*◌, ◌≤◌, ◌<◌}
use native.Mathlib.Decide.{ℕ_discrete, dec_lt}
use native.Mathlib.Omega.{arith}
use lib.Dec.{eqb}
use lib.ListN.{length}
use borrow.Author.Tests.{eq-eqb, ne_eqb, eqb-true, eqb-false, ltb-true, ltb-false, not-true, not-false}
use Rattle.octets.specs.Bytes.{zeros}
use Rattle.answer.specs.declared.Call.{Call as Name}
use Rattle.answer.specs.declared.Fault.{Fault}
use Rattle.answer.specs.declared.Fault.TheVariants.{None, Store, Flag, Guest, Token, Vcpu, Room, Exists}
use Rattle.answer.specs.Refusals.{first_of}
use Rattle.store.specs.declared.Layout.{Layout}
use Rattle.store.specs.Layout.{Sound, guest_at, slot_at, guest_bytes, slot_bytes}
use Rattle.store.specs.Search.{first}
use Rattle.store.specs.Header.{header, live, word, word_of, holds, slot_holding, slot_of, free_slot, is_dead, free_guest, guest_of}
use Rattle.store.specs.Store.{well_formed, put_live, put_slot, with_guest, with_vcpu, without_guest, no_words, no_guests, without_guests}
use Rattle.store.proofs.Search.{no_bool, first_found, found_first, first_bounds, first_none, first_le}
use Rattle.store.proofs.Tests.{of_found, live_parts}
use Rattle.store.proofs.WordFields.{live_here, live_else}
use Rattle.store.proofs.Marks.{word_slot, word_slot_else, live_slot}
use Rattle.store.proofs.Frame.{header_full, header_values, header_slot, header_live, formed}
use Rattle.store.proofs.Kept.{vcpu_word, guests_gone, deleted_live, deleted_slot, deleted_other}
use Rattle.admission.specs.Refusals.{Outcome, accept, refuse, decide, has_bit0, Passed}
use Rattle.guests.specs.Guests.{create_guest, create_vcpu, delete_guest}
use Rattle.l0.specs.Calls.{CreateGuest, CreateVcpu, DeleteGuest, outcome}
use Rattle.promises.specs.History.{registers, deletes}
use Rattle.promises.specs.Promised.{LowestGuest, LowestSlot}
use Rattle.promises.proofs.Told.{tells, zero_none}

-- no test that holds has success for its fault
abbrev pub Real : List (Bool × Fault) → Type 0
Real [] = Unit {0}
Real (x ∷ xs) = (x.0 ≡ true → x.1 ≡ None → ⊥) × Real xs

-- an accepted call passed all its tests
pub accepted : (s b : List ℕ) (tests : List (Bool × Fault)) (o : Outcome) → Real tests → (decide s b tests o).answer.fault ≡ None → Passed tests × (decide s b tests o ≡ o)
unfolding decide
accepted s b [] o r e = (tt, refl)
accepted s b (x ∷ xs) o r e = go x.0 refl e (accepted s b xs o r.1)
  where
    go : (t : Bool) → x.0 ≡ t → (cond t (refuse s b x.1) (first_of (refuse s b) xs o)).answer.fault ≡ None
        → ((first_of (refuse s b) xs o).answer.fault ≡ None → Passed xs × (first_of (refuse s b) xs o ≡ o))
        → ((x.0 ≡ false) × Passed xs) × (cond t (refuse s b x.1) (first_of (refuse s b) xs o) ≡ o)
    go true q k ih = absurd (r.0 q k)
    go false q k ih = let p = ih k in ((q, p.0), p.1)

pub no_store : Store ≡ None → ⊥
no_store z = let y : ◌≡◌ {A = ℕ} 0 1 = cc in omega arith

pub no_flag : (n : ℕ) → Flag n ≡ None → ⊥
no_flag n z = let y : ◌≡◌ {A = ℕ} 0 1 = cc in omega arith

no_token : Token ≡ None → ⊥
no_token z = let y : ◌≡◌ {A = ℕ} 0 1 = cc in omega arith

pub no_guest : Guest ≡ None → ⊥
no_guest z = let y : ◌≡◌ {A = ℕ} 0 1 = cc in omega arith

pub no_vcpu : Vcpu ≡ None → ⊥
no_vcpu z = let y : ◌≡◌ {A = ℕ} 0 1 = cc in omega arith

no_exists : Exists ≡ None → ⊥
no_exists z = let y : ◌≡◌ {A = ℕ} 0 1 = cc in omega arith

no_room : Room ≡ None → ⊥
no_room z = let y : ◌≡◌ {A = ℕ} 0 1 = cc in omega arith

-- ---- what an accepted call passed, and what it makes of the store
module _ (l : Layout) (s : List ℕ) where
  pub record GuestMade (flags token : ℕ) : Type 0 where
    pub good : well_formed l s ≡ true
    pub room : free_guest l (header l s) ≤ l.guests
    pub is : create_guest l s flags token ≡ accept (free_guest l (header l s)) (with_guest l s (free_guest l (header l s)))

  pub guest_made : (flags token : ℕ) → (create_guest l s flags token).answer.fault ≡ None → GuestMade flags token
  unfolding create_guest
  guest_made flags token e =
      let p = accepted s [] _ _ ((λ t. no_store), ((λ t. no_flag _), ((λ t. no_token), ((λ t. no_room), tt)))) e in
      record { good = not-false _ p.0.0; room = ltb-false _ _ p.0.1.1.1.0; is = p.1 }

  pub record VcpuMade (flags guest vcpu : ℕ) : Type 0 where
    pub good : well_formed l s ≡ true
    pub lives : live l (header l s) guest ≡ true
    pub small : vcpu < 2048
    pub absent : l.slots ≤ slot_of l (header l s) guest vcpu
    pub room : free_slot l (header l s) < l.slots
    pub is : create_vcpu l s flags guest vcpu ≡ accept 0 (with_vcpu l s (free_slot l (header l s)) guest vcpu)

  pub vcpu_made : (flags guest vcpu : ℕ) → (create_vcpu l s flags guest vcpu).answer.fault ≡ None → VcpuMade flags guest vcpu
  unfolding create_vcpu
  vcpu_made flags guest vcpu e =
      let p = accepted s [] _ _ ((λ t. no_store), ((λ t. no_flag _), ((λ t. no_guest), ((λ t. no_vcpu), ((λ t. no_exists), ((λ t. no_room), tt)))))) e in
      let q = p.0.1.1 in
      record {
        good = not-false _ p.0.0;
        lives = not-false _ q.0;
        small = ltb-true _ _ (not-false _ q.1.0);
        absent = ltb-false _ _ q.1.1.0;
        room = ltb-true _ _ (not-false _ q.1.1.1.0);
        is = p.1;
      }

  record Deleted (flags guest : ℕ) : Type 0 where
    good : well_formed l s ≡ true
    named : (not (has_bit0 flags) && not (live l (header l s) guest)) ≡ false
    is : delete_guest l s flags guest ≡ accept 0 (cond (has_bit0 flags) (without_guests l s) (without_guest l s guest))

  deleted : (flags guest : ℕ) → (delete_guest l s flags guest).answer.fault ≡ None → Deleted flags guest
  unfolding delete_guest
  deleted flags guest e =
      let p = accepted s [] _ _ ((λ t. no_store), ((λ t. no_flag _), ((λ t. no_guest), tt))) e in
      record { good = not-false _ p.0.0; named = p.0.1.1.0; is = p.1 }

  -- ---- the searches
  free_guest_lem : free_guest l (header l s) ≤ l.guests → LowestGuest l s (free_guest l (header l s))
  unfolding free_guest is_dead
  free_guest_lem u =
      let f = first_found (is_dead l (header l s)) l.guests 1 (omega arith) in
      record { from = (first_bounds (is_dead l (header l s)) l.guests 1).0; upto = u; free = not-true _ f.has; used = λ k i j. not-false _ (f.none k i j) }

  pub free_slot_lem : free_slot l (header l s) < l.slots → LowestSlot l s (free_slot l (header l s))
  unfolding free_slot slot_holding holds
  free_slot_lem u =
      let f = first_found (holds l (header l s) 0) l.slots 0 (omega arith) in
      record { upto = u; free = eqb-true _ _ f.has; used = λ k j. eqb-false _ _ (f.none k (omega arith) j) }

  -- ---- 01: "Create takes the lowest free id or slot": create guest, whose R4 is the id
  pub guest_told : (flags token : ℕ) → GuestMade flags token → (registers l s (CreateGuest flags token)).r4 ≡ free_guest l (header l s)
  unfolding registers outcome
  guest_told flags token m = ap (λ (o : Outcome). (tells Name.CreateGuest o).r4) m.is

  pub lowest_guest : (flags token : ℕ) → (registers l s (CreateGuest flags token)).r3 ≡ 0 → LowestGuest l s (registers l s (CreateGuest flags token)).r4
  unfolding outcome
  lowest_guest flags token e =
      let m = guest_made flags token (zero_none l s (CreateGuest flags token) e) in
      subst (LowestGuest l s) (sym (guest_told flags token m)) (free_guest_lem m.room)

module _ (l : Layout) (so : Sound l) (s : List ℕ) where
  -- the guest told is live afterwards
  pub created_guest : (flags token : ℕ) → (registers l s (CreateGuest flags token)).r3 ≡ 0
      → live l (header l (outcome l s (CreateGuest flags token)).store) (registers l s (CreateGuest flags token)).r4 ≡ true
  unfolding outcome with_guest
  created_guest flags token e =
      let m = guest_made l s flags token (zero_none l s (CreateGuest flags token) e) in
      let g = free_guest l (header l s) in
      let r = free_guest_lem l s m.room in
      ap₂ (λ (o : Outcome) (k : ℕ). live l (header l o.store) k) m.is (guest_told l s flags token m)
      ∙ ap (λ (h : List ℕ). live l h g) (header_values l so (put_live s g 1) (guest_at l g) (zeros guest_bytes) (omega arith) ∙ header_live l so s g 1 r.upto)
      ∙ live_here l so (header l s) (header_full l so s (formed l s m.good).long) g r.from r.upto 1

  -- ---- create vCPU: the slot that it has afterwards
  slot_found : (h : List ℕ) (g v : ℕ) → live l h g ≡ true → v < 2048 → slot_holding l h (word_of l g v) ≡ slot_of l h g v
  unfolding word_of
  slot_found h g v lv hv = of_found l h g v true (sym lv) (slot_holding l h (word_of l g v)) refl hv refl

  module _ (flags g v : ℕ) (m : VcpuMade l s flags g v) where
    abbrev here : ℕ
    here = free_slot l (header l s)

    full : length (header l s) ≡ l.guests_at
    full = header_full l so s (formed l s m.good).long

    pub new_word : word_of l g v < 4096 * l.ids
    new_word = vcpu_word l so g v (live_parts l (header l s) g m.lives).1 m.small

    pub made_header : header l (with_vcpu l s here g v) ≡ put_slot l (header l s) here (word_of l g v)
    unfolding with_vcpu
    made_header = header_values l so (put_slot l s here (word_of l g v)) (slot_at l here) (zeros slot_bytes) (omega (arith, so.guests_fit)) ∙ header_slot l so s here (word_of l g v) m.room

    -- no slot had the word before, and now the free one has
    made_slot : slot_of l (put_slot l (header l s) here (word_of l g v)) g v ≡ here
    unfolding slot_holding holds
    made_slot =
        let w = word_of l g v in
        let h = put_slot l (header l s) here w in
        sym (slot_found h g v (live_slot l so (header l s) full here m.room w g ∙ m.lives) m.small)
        ∙ found_first (holds l h w) l.slots 0 here (record {
          has = eq-eqb _ _ (word_slot l so (header l s) full here m.room w new_word);
          above = omega arith;
          below = omega (arith, m.room);
          none = λ k i j. ne_eqb _ _ (λ q. absent k (omega (arith, m.room)) (sym (word_slot_else l so (header l s) full here m.room w k (omega (arith, m.room)) (λ z. omega arith)) ∙ q));
        })
      where
        absent : (k : ℕ) → k < l.slots → word l (header l s) k ≢ word_of l g v
        absent k j =
            eqb-false _ _ (first_none (holds l (header l s) (word_of l g v)) l.slots 0 (omega (arith, m.absent, slot_found (header l s) g v m.lives m.small)) k (omega arith) (omega arith))

  -- the slot of the vCPU afterwards is the free one from before
  pub created_slot : (flags guest vcpu : ℕ) → (registers l s (CreateVcpu flags guest vcpu)).r3 ≡ 0
      → slot_of l (header l (outcome l s (CreateVcpu flags guest vcpu)).store) guest vcpu ≡ free_slot l (header l s)
  unfolding outcome
  created_slot flags guest vcpu e =
      let m = vcpu_made l s flags guest vcpu (zero_none l s (CreateVcpu flags guest vcpu) e) in
      ap (λ (o : Outcome). slot_of l (header l o.store) guest vcpu) m.is
      ∙ ap (λ (h : List ℕ). slot_of l h guest vcpu) (made_header flags guest vcpu m) ∙ made_slot flags guest vcpu m

  pub lowest_slot : (flags guest vcpu : ℕ) → (registers l s (CreateVcpu flags guest vcpu)).r3 ≡ 0
      → LowestSlot l s (slot_of l (header l (outcome l s (CreateVcpu flags guest vcpu)).store) guest vcpu)
  unfolding outcome
  lowest_slot flags guest vcpu e =
      subst (LowestSlot l s) (sym (created_slot flags guest vcpu e)) (free_slot_lem l s (vcpu_made l s flags guest vcpu (zero_none l s (CreateVcpu flags guest vcpu) e)).room)

  -- ---- 01: "Delete clears the live bit and the slot words only; room so freed is used again."
  module _ (good : well_formed l s ≡ true) where
    -- no guest is live once all are deleted
    none_live : (n : ℕ) → n ≤ l.guests → (g : ℕ) → 1 ≤ g → g ≤ n → live l (header l (no_guests n (no_words l l.slots s))) g ≡ false
    unfolding no_guests
    none_live zero k g lo hi = absurd (omega arith)
    none_live (suc n) k g lo hi =
        ap (λ (h : List ℕ). live l h g) (header_live l so t (n + 1) 0 (omega arith)) ∙ at (λ m. none_live n (omega arith) g lo m) (ℕ_discrete g (n + 1))
      where
        t : List ℕ
        t = no_guests n (no_words l l.slots s)

        whole : length (header l t) ≡ l.guests_at
        whole = header_full l so t ((guests_gone l so s good n (omega arith)).long ∙ (formed l s good).long)

        at : (g ≤ n → live l (header l t) g ≡ false) → Dec (g ≡ n + 1) → live l (put_live (header l t) (n + 1) 0) g ≡ false
        at lower (yes q) = ap (live l (put_live (header l t) (n + 1) 0)) q ∙ live_here l so (header l t) whole (n + 1) (omega arith) (omega arith) 0
        at lower (no q) = live_else l so (header l t) whole (n + 1) (omega arith) (omega arith) 0 g q ∙ lower (omega arith)

    pub all_dead : (g : ℕ) → live l (header l (without_guests l s)) g ≡ false
    unfolding without_guests
    all_dead g = go (live l (header l (without_guests l s)) g) refl
      where
        go : (t : Bool) → live l (header l (without_guests l s)) g ≡ t → t ≡ false
        go false e = refl
        go true e = let p = live_parts l (header l (without_guests l s)) g e in sym e ∙ none_live l.guests (omega arith) g p.0 p.1

    pub all_gone : (a : ℕ) → a < l.slots → word l (header l (without_guests l s)) a ≡ 0
    unfolding without_guests
    all_gone = (guests_gone l so s good l.guests (omega arith)).bare

  module _ (flags guest : ℕ) (e : (registers l s (DeleteGuest flags guest)).r3 ≡ 0) where
    abbrev left : List ℕ
    left = (outcome l s (DeleteGuest flags guest)).store

    was : Deleted l s flags guest
    unfolding outcome
    was = deleted l s flags guest (zero_none l s (DeleteGuest flags guest) e)

    by_bit0 : (P : List ℕ → Type 0) → (has_bit0 flags ≡ true → P (without_guests l s)) → (has_bit0 flags ≡ false → live l (header l s) guest ≡ true → P (without_guest l s guest)) → P left
    unfolding outcome
    by_bit0 P all one = subst P (sym (ap (λ (o : Outcome). o.store) was.is)) (go (has_bit0 flags) refl was.named)
      where
        go : (t : Bool) → has_bit0 flags ≡ t → (not t && not (live l (header l s) guest)) ≡ false → P (cond t (without_guests l s) (without_guest l s guest))
        go true q n = all q
        go false q n = one q (not-false _ n)

    -- the guest named is not live, with bit 0 none is
    pub freed_guest : (g : ℕ) → deletes flags guest g ≡ true → live l (header l (outcome l s (DeleteGuest flags guest)).store) g ≡ false
    freed_guest g d =
        by_bit0 (λ (t : List ℕ). live l (header l t) g ≡ false) (λ q. all_dead was.good g)
        (λ q lv. let z : g ≡ guest = eqb-true _ _ (ap (λ (t : Bool). t || eqb g guest) (sym q) ∙ d) in
        ap (live l (header l (without_guest l s guest))) z ∙ deleted_live l so s was.good guest lv)

    -- its slots are free, with bit 0 all are
    pub freed_slot : (a : ℕ) → a < l.slots → deletes flags guest (guest_of l (word l (header l s) a)) ≡ true → word l (header l (outcome l s (DeleteGuest flags guest)).store) a ≡ 0
    freed_slot a la d =
        by_bit0 (λ (t : List ℕ). word l (header l t) a ≡ 0) (λ q. all_gone was.good a la)
        (λ q lv. deleted_slot l so s was.good guest lv a la (eqb-true _ _ (ap (λ (t : Bool). t || eqb (guest_of l (word l (header l s) a)) guest) (sym q) ∙ d)))

    -- every other slot is as it was
    pub kept_slot : (a : ℕ) → a < l.slots → deletes flags guest (guest_of l (word l (header l s) a)) ≡ false → word l (header l (outcome l s (DeleteGuest flags guest)).store) a ≡ word l (header l s) a
    kept_slot a la d =
        by_bit0 (λ (t : List ℕ). word l (header l t) a ≡ word l (header l s) a)
        (λ q. absurd (no_bool (sym d ∙ ap (λ (t : Bool). t || eqb (guest_of l (word l (header l s) a)) guest) q)))
        (λ q lv. deleted_other l so s was.good guest lv a la (eqb-false _ _ (ap (λ (t : Bool). t || eqb (guest_of l (word l (header l s) a)) guest) (sym q) ∙ d)))

    -- so the next create takes that id or slot, or a lower one that is free too
    pub guest_again : (g : ℕ) → 1 ≤ g → deletes flags guest g ≡ true → free_guest l (header l (outcome l s (DeleteGuest flags guest)).store) ≤ g
    unfolding free_guest is_dead
    guest_again g lo d = go (dec_lt l.guests g)
      where
        go : Dec (l.guests < g) → first (is_dead l (header l left)) l.guests 1 ≤ g
        go (yes h) = omega (arith, (first_bounds (is_dead l (header l left)) l.guests 1).1)
        go (no h) = first_le (is_dead l (header l left)) l.guests 1 g (ap not (freed_guest g d)) lo (omega arith)

    pub slot_again : (a : ℕ) → deletes flags guest (guest_of l (word l (header l s) a)) ≡ true → free_slot l (header l (outcome l s (DeleteGuest flags guest)).store) ≤ a
    unfolding free_slot slot_holding holds
    slot_again a d = go (dec_lt a l.slots)
      where
        go : Dec (a < l.slots) → first (holds l (header l left) 0) l.slots 0 ≤ a
        go (yes h) = first_le (holds l (header l left) 0) l.slots 0 a (eq-eqb _ _ (freed_slot a h d)) (omega arith) (omega arith)
        go (no h) = omega (arith, (first_bounds (holds l (header l left) 0) l.slots 0).1)
