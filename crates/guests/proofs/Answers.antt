-- The answers of creation and deletion, in the form of their needs: each takes a call's refusals apart as far as the code came. Assumes nothing.
use mathlib.Core.Path.{◌≡◌, sym, ap, ◌∙◌}
use mathlib.Core.Bool.{Bool, true, false, not, ◌&&◌, cond}
use mathlib.Core.List.{List, []}
use Prim.Native.Nat.{ℕ, ◌-◌, ◌^◌, ◌≤◌, ◌<◌}
use native.Mathlib.Omega.{arith}
use lib.Dec.{eqb, ltb}
use borrow.Author.Tests.{eq-eqb, ne_eqb, lt-ltb, le-ltb}
use Rattle.std.specs.Prelude.{Ok, Err}
use Rattle.answer.specs.declared.Answer.{Answer}
use Rattle.answer.specs.declared.Fault.{Fault}
use Rattle.answer.specs.declared.Fault.TheVariants.{Guest, Token, Vcpu, Room, Exists}
use Rattle.store.specs.declared.Layout.{Layout}
use Rattle.store.specs.Header.{header, live, slot_of, free_slot, free_guest}
use Rattle.store.specs.Store.{with_guest, with_vcpu, without_guest, without_guests}
use Rattle.admission.specs.Refusals.{Admission, Outcome, success, refusal, accept, refuse, decide, admission, has_bit0}
use Rattle.guests.specs.Guests.{create_guest, create_vcpu, delete_guest}
use Rattle.admission.proofs.FirstTests.{refused, past, admitted}

-- what a call left, from its answer and its store
abbrev pub left : Answer → List ℕ → Outcome
left r s = record { answer = r; store = s; buffer = [] }

-- ---- create guest
module _ (l : Layout) (s : List ℕ) (flags token : ℕ) (a : Admission) (q : a ≡ admission l s 0 flags) where
  guest_rest : Outcome
  guest_rest =
      cond (not (eqb token (2 ^ 64 - 1))) (refuse s [] Token)
      (cond (ltb l.guests (free_guest l (header l s))) (refuse s [] Room) (accept (free_guest l (header l s)) (with_guest l s (free_guest l (header l s)))))

  pub guest_refused : (f : Fault) → a ≡ Err f → left (refusal f) s ≡ create_guest l s flags token
  unfolding create_guest decide guest_rest
  guest_refused f h = sym (refused l s 0 flags (refuse s []) guest_rest a f q h)

  module _ (h : a ≡ Ok tt) where
    guest_past : create_guest l s flags token ≡ guest_rest
    unfolding create_guest decide guest_rest
    guest_past = admitted l s 0 flags (refuse s []) guest_rest (past l s 0 flags a q h)

    pub guest_token : (token ≡ 2 ^ 64 - 1 → ⊥) → left (refusal Token) s ≡ create_guest l s flags token
    unfolding guest_rest
    guest_token n = sym (guest_past ∙ simp (ne_eqb _ _ n))

    module _ (t : token ≡ 2 ^ 64 - 1) (g : ℕ) (u : g ≡ free_guest l (header l s)) where
      pub guest_full : l.guests < g → left (refusal Room) s ≡ create_guest l s flags token
      unfolding guest_rest
      guest_full k =
          let m : l.guests < free_guest l (header l s) = omega arith in
          sym (guest_past ∙ simp (eq-eqb _ _ t, lt-ltb _ _ m))

      pub guest_made : (w : List ℕ) → g ≤ l.guests → w ≡ with_guest l s g → left (success g) w ≡ create_guest l s flags token
      unfolding guest_rest
      guest_made w k j =
          let m : free_guest l (header l s) ≤ l.guests = omega arith in
          ap (left (success g)) j ∙ ap (λ (x : ℕ). accept x (with_guest l s x)) u ∙ sym (guest_past ∙ simp (eq-eqb _ _ t, le-ltb _ _ m))

-- ---- create vCPU
module _ (l : Layout) (s : List ℕ) (flags guest vcpu : ℕ) (a : Admission) (q : a ≡ admission l s 0 flags) where
  vcpu_rest : Outcome
  vcpu_rest =
      cond (not (live l (header l s) guest)) (refuse s [] Guest)
      (cond (not (ltb vcpu 2048)) (refuse s [] Vcpu)
      (cond (ltb (slot_of l (header l s) guest vcpu) l.slots) (refuse s [] Exists)
      (cond (not (ltb (free_slot l (header l s)) l.slots)) (refuse s [] Room) (accept 0 (with_vcpu l s (free_slot l (header l s)) guest vcpu)))))

  pub vcpu_refused : (f : Fault) → a ≡ Err f → left (refusal f) s ≡ create_vcpu l s flags guest vcpu
  unfolding create_vcpu decide vcpu_rest
  vcpu_refused f h = sym (refused l s 0 flags (refuse s []) vcpu_rest a f q h)

  module _ (h : a ≡ Ok tt) (x : Bool) (o : x ≡ live l (header l s) guest) where
    vcpu_past : create_vcpu l s flags guest vcpu ≡ vcpu_rest
    unfolding create_vcpu decide vcpu_rest
    vcpu_past = admitted l s 0 flags (refuse s []) vcpu_rest (past l s 0 flags a q h)

    pub vcpu_dead : not x ≡ true → left (refusal Guest) s ≡ create_vcpu l s flags guest vcpu
    unfolding vcpu_rest
    vcpu_dead n =
        let m : not (live l (header l s) guest) ≡ true = ap not (sym o) ∙ n in
        sym (vcpu_past ∙ simp m)

    module _ (n : not x ≡ false) where
      vcpu_live : not (live l (header l s) guest) ≡ false
      vcpu_live = ap not (sym o) ∙ n

      pub vcpu_high : 2048 ≤ vcpu → left (refusal Vcpu) s ≡ create_vcpu l s flags guest vcpu
      unfolding vcpu_rest
      vcpu_high k = sym (vcpu_past ∙ simp (vcpu_live, le-ltb _ _ k))

      module _ (k : vcpu < 2048) (j : ℕ) (u : j ≡ slot_of l (header l s) guest vcpu) where
        pub vcpu_there : j < l.slots → left (refusal Exists) s ≡ create_vcpu l s flags guest vcpu
        unfolding vcpu_rest
        vcpu_there p =
            let m : slot_of l (header l s) guest vcpu < l.slots = omega arith in
            sym (vcpu_past ∙ simp (vcpu_live, lt-ltb _ _ k, lt-ltb _ _ m))

        module _ (p : l.slots ≤ j) (f : ℕ) (v : f ≡ free_slot l (header l s)) where
          pub vcpu_full : l.slots ≤ f → left (refusal Room) s ≡ create_vcpu l s flags guest vcpu
          unfolding vcpu_rest
          vcpu_full b =
              let c : l.slots ≤ slot_of l (header l s) guest vcpu = omega arith in
              let m : l.slots ≤ free_slot l (header l s) = omega arith in
              sym (vcpu_past ∙ simp (vcpu_live, lt-ltb _ _ k, le-ltb _ _ c, le-ltb _ _ m))

          pub vcpu_made : (w : List ℕ) → f < l.slots → w ≡ with_vcpu l s f guest vcpu → left (success 0) w ≡ create_vcpu l s flags guest vcpu
          unfolding vcpu_rest
          vcpu_made w b d =
              let c : l.slots ≤ slot_of l (header l s) guest vcpu = omega arith in
              let m : free_slot l (header l s) < l.slots = omega arith in
              ap (left (success 0)) d ∙ ap (λ (x : ℕ). accept 0 (with_vcpu l s x guest vcpu)) v ∙ sym (vcpu_past ∙ simp (vcpu_live, lt-ltb _ _ k, le-ltb _ _ c, lt-ltb _ _ m))

-- ---- delete guest
module _ (l : Layout) (s : List ℕ) (flags guest : ℕ) (a : Admission) (q : a ≡ admission l s (2 ^ 63) flags) where
  delete_rest : Outcome
  delete_rest =
      cond (not (has_bit0 flags) && not (live l (header l s) guest)) (refuse s [] Guest)
      (accept 0 (cond (has_bit0 flags) (without_guests l s) (without_guest l s guest)))

  pub delete_refused : (f : Fault) → a ≡ Err f → left (refusal f) s ≡ delete_guest l s flags guest
  unfolding delete_guest decide delete_rest
  delete_refused f h = sym (refused l s (2 ^ 63) flags (refuse s []) delete_rest a f q h)

  module _ (h : a ≡ Ok tt) where
    delete_past : delete_guest l s flags guest ≡ delete_rest
    unfolding delete_guest decide delete_rest
    delete_past = admitted l s (2 ^ 63) flags (refuse s []) delete_rest (past l s (2 ^ 63) flags a q h)

    pub delete_all : (w : List ℕ) (y : Bool) → y ≡ has_bit0 flags → y ≡ true → w ≡ without_guests l s → left (success 0) w ≡ delete_guest l s flags guest
    unfolding delete_rest
    delete_all w y e k d = ap (left (success 0)) d ∙ sym (delete_past ∙ simp (sym e ∙ k))

    module _ (y : Bool) (e : y ≡ has_bit0 flags) (k : y ≡ false) (x : Bool) (o : x ≡ live l (header l s) guest) where
      pub delete_dead : not x ≡ true → left (refusal Guest) s ≡ delete_guest l s flags guest
      unfolding delete_rest
      delete_dead n =
          let m : not (live l (header l s) guest) ≡ true = ap not (sym o) ∙ n in
          sym (delete_past ∙ simp (sym e ∙ k, m))

      pub delete_one : (w : List ℕ) → not x ≡ false → w ≡ without_guest l s guest → left (success 0) w ≡ delete_guest l s flags guest
      unfolding delete_rest
      delete_one w n d =
          let m : not (live l (header l s) guest) ≡ false = ap not (sym o) ∙ n in
          ap (left (success 0)) d ∙ sym (delete_past ∙ simp (sym e ∙ k, m))

-- ---- the layout that the store's length tells
module _ (l m : Layout) (e : l ≡ m) (s : List ℕ) (o : Outcome) where
  pub guest_sized : (flags token : ℕ) → o ≡ create_guest l s flags token → o ≡ create_guest m s flags token
  guest_sized flags token q = q ∙ ap (λ (x : Layout). create_guest x s flags token) e

  pub vcpu_sized : (flags guest vcpu : ℕ) → o ≡ create_vcpu l s flags guest vcpu → o ≡ create_vcpu m s flags guest vcpu
  vcpu_sized flags guest vcpu q = q ∙ ap (λ (x : Layout). create_vcpu x s flags guest vcpu) e

  pub delete_sized : (flags guest : ℕ) → o ≡ delete_guest l s flags guest → o ≡ delete_guest m s flags guest
  delete_sized flags guest q = q ∙ ap (λ (x : Layout). delete_guest x s flags guest) e
