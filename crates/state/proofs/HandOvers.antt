-- Get and set state by bit 1, and both hand-overs, in the form of the code's needs. Assumes nothing.
use mathlib.Core.Path.{◌≡◌, refl, sym, ap, ap₂, ◌∙◌}
use mathlib.Core.Bool.{Bool, true, false, not, ◌||◌, cond}
use mathlib.Core.List.{List, []}
use Prim.Native.Nat.{ℕ, ◌^◌, ◌≤◌}
use native.Mathlib.Omega.{arith}
use lib.Dec.{ltb}
use lib.ListN.{length}
use borrow.Author.Tests.{eq-eqb, ne_eqb, ltb-false, not-false}
use Rattle.std.specs.Prelude.{Result, Ok, Err}
use Rattle.octets.specs.Bytes.{put}
use Rattle.answer.specs.declared.Answer.{Answer}
use Rattle.answer.specs.declared.Fault.{Fault}
use Rattle.answer.specs.declared.Fault.TheVariants.{Length, Taken as TakenFault, Form}
use Rattle.handover.specs.Form.{begins, values_of, Taken, taken, Given, given_back}
use Rattle.store.specs.declared.Layout.{Layout}
use Rattle.store.specs.Layout.{slot_at}
use Rattle.store.specs.Header.{header, is_taken}
use Rattle.store.specs.Store.{put_taken}
use Rattle.admission.specs.Refusals.{Outcome, success, refusal, refuse, decide, hands_over}
use Rattle.admission.specs.Target.{slot_named, is_away, vcpu_tests, vcpu_slot}
use Rattle.admission.proofs.Judging.{begin_refused, begin_admitted}
use Rattle.admission.proofs.Targets.{slot_judged, slot_named_lem}
use Rattle.state.specs.HandOver.{out_of_range, take_tests, take_from, give_tests, give_to, take_vcpu, give_vcpu}
use Rattle.state.specs.State.{set_elements, set_state, get_elements, get_state}
use Rattle.state.specs.Private.{take_at, give_at}

-- ---- by the flags
module _ (l : Layout) (s : List ℕ) (flags guest vcpu : ℕ) (b : List ℕ) where
  pub get_plain : hands_over flags ≡ false → get_elements l s flags guest vcpu b ≡ get_state l s flags guest vcpu b
  unfolding get_state
  get_plain h = sym (simp h)

  pub set_plain : hands_over flags ≡ false → set_elements l s flags guest vcpu b ≡ set_state l s flags guest vcpu b
  unfolding set_state
  set_plain h = sym (simp h)

  pub get_takes : hands_over flags ≡ true → take_vcpu l s guest vcpu b ≡ get_state l s flags guest vcpu b
  unfolding get_state
  get_takes h = sym (simp h)

  pub set_gives : hands_over flags ≡ true → give_vcpu l s guest vcpu b ≡ set_state l s flags guest vcpu b
  unfolding set_state
  set_gives h = sym (simp h)

  module _ (o : Outcome) where
    pub got_elements : (flags ≡ 2 ^ 62 → ⊥) → o ≡ get_elements l s flags guest vcpu b → o ≡ get_state l s flags guest vcpu b
    got_elements n e = e ∙ get_plain (ne_eqb _ _ n)

    pub got_taken : flags ≡ 2 ^ 62 → o ≡ take_vcpu l s guest vcpu b → o ≡ get_state l s flags guest vcpu b
    got_taken n e = e ∙ get_takes (eq-eqb _ _ n)

    pub set_by_elements : (flags ≡ 2 ^ 62 → ⊥) → o ≡ set_elements l s flags guest vcpu b → o ≡ set_state l s flags guest vcpu b
    set_by_elements n e = e ∙ set_plain (ne_eqb _ _ n)

    pub set_by_giving : flags ≡ 2 ^ 62 → o ≡ give_vcpu l s guest vcpu b → o ≡ set_state l s flags guest vcpu b
    set_by_giving n e = e ∙ set_gives (eq-eqb _ _ n)

  -- P of either, from both ways
  pub get_ways : (P : Outcome → Type 0) → (hands_over flags ≡ false → P (get_elements l s flags guest vcpu b)) → (hands_over flags ≡ true → P (take_vcpu l s guest vcpu b)) → P (get_state l s flags guest vcpu b)
  unfolding get_state
  get_ways P e t = go (hands_over flags) refl
    where
      go : (x : Bool) → hands_over flags ≡ x → P (cond x (take_vcpu l s guest vcpu b) (get_elements l s flags guest vcpu b))
      go true h = t h
      go false h = e h

  pub set_ways : (P : Outcome → Type 0) → (hands_over flags ≡ false → P (set_elements l s flags guest vcpu b)) → (hands_over flags ≡ true → P (give_vcpu l s guest vcpu b)) → P (set_state l s flags guest vcpu b)
  unfolding set_state
  set_ways P e t = go (hands_over flags) refl
    where
      go : (x : Bool) → hands_over flags ≡ x → P (cond x (give_vcpu l s guest vcpu b) (set_elements l s flags guest vcpu b))
      go true h = t h
      go false h = e h

-- ---- a length in range
range_least : (least : ℕ) (b : List ℕ) → out_of_range least b ≡ false → least ≤ length b
range_least least b e = go (ltb (length b) least) refl e
  where
    go : (t : Bool) → ltb (length b) least ≡ t → (t || ltb 65536 (length b)) ≡ false → least ≤ length b
    go false h q = ltb-false _ _ h
    go true h q = absurd (no q)
      where
        no : true ≡ false → ⊥
        no z = let y : ◌≡◌ {A = ℕ} 0 1 = ap (λ (x : Bool). cond x 0 1) z in omega arith

pub in_range : (least : ℕ) (b : List ℕ) (t : Bool) → t ≡ out_of_range least b → t ≡ false → least ≤ length b
in_range least b t e h = range_least least b (sym e ∙ h)

-- ---- past the slot
module _ (l : Layout) (s : List ℕ) (j vcpu : ℕ) (b : List ℕ) (t : Bool) (e : t ≡ is_taken l (header l s) j) where
  -- taking
  pub take_away : t ≡ true → ◌≡◌ {A = Outcome} (record { answer = refusal TakenFault; store = s; buffer = b }) (take_at l s j vcpu b)
  unfolding take_at decide
  take_away h = let m = sym e ∙ h in sym (simp m)

  module _ (h : t ≡ false) (y : Bool) (f : y ≡ out_of_range 1844 b) where
    pub take_length : y ≡ true → ◌≡◌ {A = Outcome} (record { answer = refusal Length; store = s; buffer = b }) (take_at l s j vcpu b)
    unfolding take_at decide
    take_length k = let m = sym e ∙ h in let n = sym f ∙ k in sym (simp (m, n))

    pub take_done : y ≡ false → (base : ℕ) → base ≡ slot_at l j → (v c u : List ℕ) → ◌≡◌ {A = Taken} (record { store = v; buffer = c }) (taken vcpu base s b)
        → u ≡ put_taken l v j 1 → ◌≡◌ {A = Outcome} (record { answer = success 0; store = u; buffer = c }) (take_at l s j vcpu b)
    unfolding take_at decide
    take_done k base p v c u g w =
        let m = sym e ∙ h in
        let n = sym f ∙ k in
        let q = g ∙ ap (λ (x : ℕ). taken vcpu x s b) p in
        ap (λ (z : List ℕ). record { answer = success 0; store = z; buffer = c }) w
        ∙ ap (λ (x : Taken). record { answer = success 0; store = put_taken l x.store j 1; buffer = x.buffer }) q ∙ sym (simp (m, n))

  -- giving back
  pub give_here : not t ≡ true → ◌≡◌ {A = Outcome} (record { answer = refusal TakenFault; store = s; buffer = [] }) (give_at l s j vcpu b)
  unfolding give_at decide
  give_here h = let m = ap not (sym e) ∙ h in sym (simp m)

  module _ (h : not t ≡ false) (y : Bool) (f : y ≡ out_of_range 24 b) where
    pub give_length : y ≡ true → ◌≡◌ {A = Outcome} (record { answer = refusal Length; store = s; buffer = [] }) (give_at l s j vcpu b)
    unfolding give_at decide
    give_length k = let m = ap not (sym e) ∙ h in let n = sym f ∙ k in sym (simp (m, n))

    module _ (k : y ≡ false) (base : ℕ) (p : base ≡ slot_at l j) (z : Bool) (v : List ℕ) (g : ◌≡◌ {A = Given} (record { accepted = z; store = v }) (given_back vcpu base s b)) where
      -- a form or none, and what is then stored
      pub told_form : (z ≡ begins vcpu b) × (v ≡ cond (begins vcpu b) (put s base (values_of b)) s)
      unfolding given_back
      told_form = (ap (λ (x : Given). x.accepted) g ∙ each (begins vcpu b), ap (λ (x : Given). x.store) g ∙ all (begins vcpu b))
        where
          each : (t : Bool) → (cond {A = Given} t (record { accepted = true; store = put s base (values_of b) }) (record { accepted = false; store = s })).accepted ≡ t
          each true = refl
          each false = refl

          all : (t : Bool) → (cond {A = Given} t (record { accepted = true; store = put s base (values_of b) }) (record { accepted = false; store = s })).store ≡ cond t (put s base (values_of b)) s
          all true = refl
          all false = refl

      pub give_form : not z ≡ true → ◌≡◌ {A = Outcome} (record { answer = refusal Form; store = v; buffer = [] }) (give_at l s j vcpu b)
      unfolding give_at decide
      give_form d =
          let m = ap not (sym e) ∙ h in
          let n = sym f ∙ k in
          let o : not (begins vcpu b) ≡ true = ap not (sym told_form.0) ∙ d in
          ap (λ (w : List ℕ). record { answer = refusal Form; store = w; buffer = [] }) (told_form.1 ∙ none (begins vcpu b) o) ∙ sym (simp (m, n, o))
        where
          none : (t : Bool) → not t ≡ true → cond t (put s base (values_of b)) s ≡ s
          none false q = refl
          none true q = absurd (let y : ◌≡◌ {A = ℕ} 1 0 = ap (λ (x : Bool). cond x 0 1) q in omega arith)

      pub give_done : not z ≡ false → (u : List ℕ) → u ≡ put_taken l v j 0 → ◌≡◌ {A = Outcome} (record { answer = success 0; store = u; buffer = [] }) (give_at l s j vcpu b)
      unfolding give_at decide
      give_done d u w =
          let m = ap not (sym e) ∙ h in
          let n = sym f ∙ k in
          let o : begins vcpu b ≡ true = sym told_form.0 ∙ not-false z d in
          let q : v ≡ put s (slot_at l j) (values_of b) = told_form.1 ∙ ap₂ (λ (t : Bool) (x : ℕ). cond t (put s x (values_of b)) s) o p in
          ap (λ (c : List ℕ). record { answer = success 0; store = c; buffer = [] }) (w ∙ ap (λ (c : List ℕ). put_taken l c j 0) q) ∙ sym (simp (m, n, o))

-- ---- by the slot
module _ (l : Layout) (s : List ℕ) (guest vcpu : ℕ) (b : List ℕ) (a : Result ℕ Fault) (q : a ≡ vcpu_slot l s guest vcpu) where
  pub take_turned : (f : Fault) → a ≡ Err f → ◌≡◌ {A = Outcome} (record { answer = refusal f; store = s; buffer = b }) (take_vcpu l s guest vcpu b)
  unfolding take_vcpu decide
  take_turned f h =
      sym (begin_refused (refuse s b) (take_from l s (slot_named l s guest vcpu) vcpu b) (vcpu_tests l s guest vcpu) (take_tests (is_away l s guest vcpu) b) f (slot_judged l s guest vcpu a q f h))

  pub take_found : (r : Answer) (m : Layout) → m ≡ l → (j : ℕ) (u c : List ℕ) → a ≡ Ok j → ◌≡◌ {A = Outcome} (record { answer = r; store = u; buffer = c }) (take_at m s j vcpu b) → ◌≡◌ {A = Outcome} (record { answer = r; store = u; buffer = c }) (take_vcpu l s guest vcpu b)
  unfolding take_vcpu take_at decide
  take_found r m e j u c h i =
      let p = slot_named_lem l s guest vcpu a q j h in
      i ∙ ap (λ (x : Layout). take_at x s j vcpu b) e ∙ ap (λ (x : ℕ). decide s b (take_tests (is_taken l (header l s) x) b) (take_from l s x vcpu b)) (sym p.1)
      ∙ sym (begin_admitted (refuse s b) (take_from l s (slot_named l s guest vcpu) vcpu b) (vcpu_tests l s guest vcpu) (take_tests (is_away l s guest vcpu) b) p.0)

  pub give_turned : (f : Fault) → a ≡ Err f → ◌≡◌ {A = Outcome} (record { answer = refusal f; store = s; buffer = [] }) (give_vcpu l s guest vcpu b)
  unfolding give_vcpu decide
  give_turned f h =
      sym (begin_refused (refuse s []) (give_to l s (slot_named l s guest vcpu) b) (vcpu_tests l s guest vcpu) (give_tests (is_away l s guest vcpu) vcpu b) f (slot_judged l s guest vcpu a q f h))

  pub give_found : (r : Answer) (m : Layout) → m ≡ l → (j : ℕ) (u : List ℕ) → a ≡ Ok j → ◌≡◌ {A = Outcome} (record { answer = r; store = u; buffer = [] }) (give_at m s j vcpu b) → ◌≡◌ {A = Outcome} (record { answer = r; store = u; buffer = [] }) (give_vcpu l s guest vcpu b)
  unfolding give_vcpu give_at decide
  give_found r m e j u h i =
      let p = slot_named_lem l s guest vcpu a q j h in
      i ∙ ap (λ (x : Layout). give_at x s j vcpu b) e ∙ ap (λ (x : ℕ). decide s [] (give_tests (is_taken l (header l s) x) vcpu b) (give_to l s x b)) (sym p.1)
      ∙ sym (begin_admitted (refuse s []) (give_to l s (slot_named l s guest vcpu) b) (vcpu_tests l s guest vcpu) (give_tests (is_away l s guest vcpu) vcpu b) p.0)
