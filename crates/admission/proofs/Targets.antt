-- The tests 1 to 4 and 16 of a call that names a guest or a vCPU, in the form of the code's needs. Assumes nothing.
use mathlib.Core.Path.{◌≡◌, refl, sym, ap, ◌∙◌, subst}
use mathlib.Core.Bool.{Bool, true, false, not, ◌&&◌, cond}
use mathlib.Core.List.{List}
use Prim.Native.Nat.{ℕ, ◌+◌, ◌^◌, ◌≤◌, ◌<◌}
use native.Mathlib.Omega.{arith}
use lib.Dec.{leb, ltb}
use borrow.Author.Tests.{le-leb, lt-leb, ltb-true, not-false}
use Rattle.answer.specs.declared.Fault.{Fault}
use Rattle.answer.specs.declared.Fault.TheVariants.{Store, Guest, Vcpu, Taken}
use Rattle.store.specs.declared.Layout.{Layout}
use Rattle.store.specs.Layout.{Sound, guest_bytes, slot_bytes, guest_at, slot_at}
use Rattle.store.specs.Header.{header, live, word_of, slot_holding, slot_of, is_taken}
use Rattle.store.specs.Store.{well_formed}
use Rattle.store.proofs.Tests.{live_parts}
use Rattle.std.specs.Prelude.{Result, Ok, Err}
use Rattle.admission.specs.Refusals.{Admission, admission, judgement}
use Rattle.admission.specs.Target.{slot_named, is_absent, is_away, target_tests, base_of, target_of, Held, vcpu_tests, vcpu_slot, Within}
use Rattle.admission.proofs.FirstTests.{refused, past, admitted}
use Rattle.admission.proofs.Judging.{was_refused, was_admitted, judged_passed}

-- ---- the answers of `target_of`
module _ (l : Layout) (s : List ℕ) (supported flags : ℕ) (wide : Bool) (guest vcpu : ℕ) (a : Admission) (q : a ≡ admission l s supported flags) where
  rest : Result ℕ Fault
  rest = cond (not (live l (header l s) guest)) (Err Guest) (cond (not wide && is_absent l s guest vcpu) (Err Vcpu)
      (cond (not wide && is_away l s guest vcpu) (Err Taken) (Ok (base_of l s wide guest vcpu))))

  pub target_refused : (f : Fault) → a ≡ Err f → Err f ≡ target_of l s supported flags wide guest vcpu
  unfolding target_of rest
  target_refused f h = sym (refused l s supported flags Err rest a f q h)

  module _ (h : a ≡ Ok tt) (x : Bool) (o : x ≡ live l (header l s) guest) where
    target_past : target_of l s supported flags wide guest vcpu ≡ rest
    unfolding target_of rest
    target_past = admitted l s supported flags Err rest (past l s supported flags a q h)

    pub target_dead : not x ≡ true → Err Guest ≡ target_of l s supported flags wide guest vcpu
    unfolding rest
    target_dead n =
        let m : not (live l (header l s) guest) ≡ true = ap not (sym o) ∙ n in
        sym (target_past ∙ simp m)

    module _ (n : not x ≡ false) where
      alive : not (live l (header l s) guest) ≡ false
      alive = ap not (sym o) ∙ n

      pub target_wide : (p : ℕ) → wide ≡ true → p ≡ guest_at l guest → Ok p ≡ target_of l s supported flags wide guest vcpu
      unfolding rest base_of
      target_wide p w e = ap Ok e ∙ sym (target_past ∙ simp (alive, w))

      module _ (w : wide ≡ false) (j : ℕ) (e : j ≡ slot_of l (header l s) guest vcpu) where
        pub target_absent : l.slots ≤ j → Err Vcpu ≡ target_of l s supported flags wide guest vcpu
        unfolding rest
        target_absent k =
            let m : l.slots ≤ slot_of l (header l s) guest vcpu = omega arith in
            sym (target_past ∙ simp (alive, w, le-leb _ _ m))

        module _ (k : j < l.slots) (y : Bool) (t : y ≡ is_taken l (header l s) j) where
          present : leb l.slots (slot_of l (header l s) guest vcpu) ≡ false
          present = lt-leb _ _ (subst (λ (i : ℕ). i < l.slots) e k)

          mark : is_taken l (header l s) (slot_of l (header l s) guest vcpu) ≡ y
          mark = sym (t ∙ ap (is_taken l (header l s)) e)

          pub target_taken : y ≡ true → Err Taken ≡ target_of l s supported flags wide guest vcpu
          unfolding rest
          target_taken h = let m = mark ∙ h in sym (target_past ∙ simp (alive, w, present, m))

          pub target_slot : (p : ℕ) → y ≡ false → p ≡ slot_at l j → Ok p ≡ target_of l s supported flags wide guest vcpu
          unfolding rest base_of
          target_slot p h f = let m = mark ∙ h in ap Ok (f ∙ ap (slot_at l) e) ∙ sym (target_past ∙ simp (alive, w, present, m))

-- that its values lie within the store
pub held_wide : (l : Layout) (wide : Bool) (len base : ℕ) → len ≡ l.size → wide ≡ true → base + guest_bytes ≤ l.slots_at → Sound l → Held (Ok base) wide l len
held_wide l wide len base e w h so =
    let q : cond wide guest_bytes slot_bytes ≡ guest_bytes = ap (λ (t : Bool). cond t guest_bytes slot_bytes) w in
    (e, omega (arith, q, so.whole))

pub held_slot : (l : Layout) (wide : Bool) (len base : ℕ) → len ≡ l.size → wide ≡ false → base + slot_bytes ≤ l.size → Held (Ok base) wide l len
held_slot l wide len base e w h =
    let q : cond wide guest_bytes slot_bytes ≡ slot_bytes = ap (λ (t : Bool). cond t guest_bytes slot_bytes) w in
    (e, omega (arith, q))

-- ---- what callers learn
refused_same : (f g : Fault) → ◌≡◌ {A = Result ℕ Fault} (Err f) (Err g) → f ≡ g
refused_same f g e = cc

ok_same : {x y : ℕ} → ◌≡◌ {A = Result ℕ Fault} (Ok x) (Ok y) → x ≡ y
ok_same e = cc

refused_not : {base : ℕ} (f : Fault) → Ok base ≡ Err f → ⊥
refused_not f e = cc

found_not : {base : ℕ} (f : Fault) → Err f ≡ Ok base → ⊥
found_not f e = cc

module _ (l : Layout) (s : List ℕ) (supported flags : ℕ) (wide : Bool) (guest vcpu : ℕ) (a : Result ℕ Fault) (q : a ≡ target_of l s supported flags wide guest vcpu) where
  pub target_judged : (f : Fault) → a ≡ Err f → judgement (target_tests l s supported flags wide guest vcpu) ≡ Err f
  unfolding target_of
  target_judged f h = was_refused Err refused_same (Ok (base_of l s wide guest vcpu)) refused_not (target_tests l s supported flags wide guest vcpu) f (sym q ∙ h)

  pub target_found : (base : ℕ) → a ≡ Ok base → (judgement (target_tests l s supported flags wide guest vcpu) ≡ Ok tt) × (base_of l s wide guest vcpu ≡ base)
  unfolding target_of
  target_found base h =
      let p = was_admitted Err refused_same (Ok (base_of l s wide guest vcpu)) refused_not (target_tests l s supported flags wide guest vcpu) (Ok base) found_not (sym q ∙ h) in
      (p.0, ok_same p.1)

  -- the guest of a target that was found
  found_lives : (base : ℕ) → a ≡ Ok base → live l (header l s) guest ≡ true
  found_lives base h = not-false _ (judged_passed (target_tests l s supported flags wide guest vcpu) (target_found base h).0).1.1.0

  pub found_low : (base : ℕ) → a ≡ Ok base → 1 ≤ guest
  found_low base h = (live_parts l (header l s) guest (found_lives base h)).0

  pub found_high : (base : ℕ) → a ≡ Ok base → guest ≤ l.guests
  found_high base h = (live_parts l (header l s) guest (found_lives base h)).1

module _ (l : Layout) (s : List ℕ) (guest vcpu : ℕ) (a : Result ℕ Fault) (q : a ≡ vcpu_slot l s guest vcpu) where
  pub slot_judged : (f : Fault) → a ≡ Err f → judgement (vcpu_tests l s guest vcpu) ≡ Err f
  unfolding vcpu_slot
  slot_judged f h = was_refused Err refused_same (Ok (slot_named l s guest vcpu)) refused_not (vcpu_tests l s guest vcpu) f (sym q ∙ h)

  pub slot_named_lem : (j : ℕ) → a ≡ Ok j → (judgement (vcpu_tests l s guest vcpu) ≡ Ok tt) × (slot_named l s guest vcpu ≡ j)
  unfolding vcpu_slot
  slot_named_lem j h =
      let p = was_admitted Err refused_same (Ok (slot_named l s guest vcpu)) refused_not (vcpu_tests l s guest vcpu) (Ok j) found_not (sym q ∙ h) in
      (p.0, ok_same p.1)

-- what a slot that was found is
pub within_size : (t : Result ℕ Fault) (l : Layout) (len vcpu j : ℕ) → Within t l len vcpu → t ≡ Ok j → len ≡ l.size
within_size t l len vcpu j h e = (subst (λ (x : Result ℕ Fault). Within x l len vcpu) e h).0

pub within_slots : (t : Result ℕ Fault) (l : Layout) (len vcpu j : ℕ) → Within t l len vcpu → t ≡ Ok j → j < l.slots
within_slots t l len vcpu j h e = (subst (λ (x : Result ℕ Fault). Within x l len vcpu) e h).1

pub within_id : (t : Result ℕ Fault) (l : Layout) (len vcpu j : ℕ) → Within t l len vcpu → t ≡ Ok j → vcpu < 2048
within_id t l len vcpu j h e = (subst (λ (x : Result ℕ Fault). Within x l len vcpu) e h).2

pub held_size : (t : Result ℕ Fault) (wide : Bool) (l : Layout) (len base : ℕ) → Held t wide l len → t ≡ Ok base → len ≡ l.size
held_size t wide l len base h e = (subst (λ (x : Result ℕ Fault). Held x wide l len) e h).0

pub held_room : (t : Result ℕ Fault) (wide : Bool) (l : Layout) (len base : ℕ) → Held t wide l len → t ≡ Ok base → base + cond wide guest_bytes slot_bytes ≤ l.size
held_room t wide l len base h e = (subst (λ (x : Result ℕ Fault). Held x wide l len) e h).1

-- of a vCPU
pub held_vcpu : (t : Result ℕ Fault) (l : Layout) (len base : ℕ) → Held t false l len → t ≡ Ok base → base + slot_bytes ≤ len
held_vcpu t l len base h e = omega (arith, held_size t false l len base h e, held_room t false l len base h e)

pub held_fits : (t : Result ℕ Fault) (l : Layout) (len base : ℕ) → Held t false l len → t ≡ Ok base → len < 2 ^ 64 → base + 8 < 2 ^ 64
held_fits t l len base h e f = omega (arith, held_vcpu t l len base h e)

pub held_inside : (t : Result ℕ Fault) (l : Layout) (len base : ℕ) → Held t false l len → t ≡ Ok base → base + 8 + 8 ≤ len
held_inside t l len base h e = omega (arith, held_vcpu t l len base h e)

-- ---- the answers of `vcpu_slot`
module _ (l : Layout) (s : List ℕ) (guest vcpu : ℕ) (g : Bool) (p : g ≡ well_formed l s) where
  pub slot_malformed : not g ≡ true → Err Store ≡ vcpu_slot l s guest vcpu
  unfolding vcpu_slot
  slot_malformed n = let m : not (well_formed l s) ≡ true = ap not (sym p) ∙ n in sym (simp m)

  module _ (n : not g ≡ false) (x : Bool) (o : x ≡ live l (header l s) guest) where
    good : not (well_formed l s) ≡ false
    good = ap not (sym p) ∙ n

    pub slot_dead : not x ≡ true → Err Guest ≡ vcpu_slot l s guest vcpu
    unfolding vcpu_slot
    slot_dead d = let m : not (live l (header l s) guest) ≡ true = ap not (sym o) ∙ d in sym (simp (good, m))

    module _ (a : not x ≡ false) (j : ℕ) (e : j ≡ slot_of l (header l s) guest vcpu) where
      lives : not (live l (header l s) guest) ≡ false
      lives = ap not (sym o) ∙ a

      pub slot_absent : l.slots ≤ j → Err Vcpu ≡ vcpu_slot l s guest vcpu
      unfolding vcpu_slot
      slot_absent k =
          let m : l.slots ≤ slot_of l (header l s) guest vcpu = omega arith in
          sym (simp (good, lives, le-leb _ _ m))

      pub slot_found : j < l.slots → Ok j ≡ vcpu_slot l s guest vcpu
      unfolding vcpu_slot
      slot_found k =
          let m : slot_of l (header l s) guest vcpu < l.slots = omega arith in
          ap Ok e ∙ sym (simp (good, lives, lt-leb _ _ m))

-- a slot names a vCPU id of 11 bits
pub slot_within : (l : Layout) (h : List ℕ) (guest vcpu j : ℕ) → j ≡ slot_of l h guest vcpu → j < l.slots → vcpu < 2048
unfolding slot_of
slot_within l h guest vcpu j e k = go (live l h guest) (ltb vcpu 2048) refl (subst (λ (i : ℕ). i < l.slots) e k)
  where
    go : (x y : Bool) → ltb vcpu 2048 ≡ y → cond (x && y) (slot_holding l h (word_of l guest vcpu)) l.slots < l.slots → vcpu < 2048
    go true true q i = ltb-true _ _ q
    go true false q i = absurd (omega arith)
    go false y q i = absurd (omega arith)
