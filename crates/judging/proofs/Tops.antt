-- The two top functions, in the form of their needs. Assumes nothing.
use mathlib.Core.Path.{◌≡◌, refl, sym, ap, ◌∙◌, subst}
use mathlib.Core.Bool.{Bool, true, false, not, cond}
use mathlib.Core.List.{List, [], ◌∷◌}
use Prim.Native.Nat.{ℕ, ◌+◌, ◌≤◌}
use native.Mathlib.Omega.{arith}
use Rattle.std.specs.Prelude.{Result, Ok, Err}
use Rattle.answer.specs.declared.Answer.{Answer}
use Rattle.answer.specs.declared.Fault.{Fault}
use Rattle.answer.specs.declared.Fault.TheVariants.{Length, Exit}
use Rattle.answer.specs.Refusals.{first_of}
use Rattle.gsb.specs.Walk.{bad_length}
use Rattle.store.specs.declared.Layout.{Layout}
use Rattle.store.specs.Layout.{slot_bytes}
use Rattle.exits.specs.Exits.{known, returned, valued}
use Rattle.exits.proofs.Rows.{returned_few}
use Rattle.admission.specs.Refusals.{refusal}
use Rattle.admission.specs.Target.{target_tests, base_of, target_of, Held}
use Rattle.judging.specs.Judging.{ours_of, judge_output, comparison, lacking, found, elements_of}
use Rattle.judging.specs.Private.{GoodIds, finding, judged_at}
use Rattle.judging.proofs.Rows.{returned_good}

-- ---- `judge_at`
pub good_ids : (exit : ℕ) (ids : List ℕ) → ids ≡ returned exit → GoodIds ids
good_ids exit ids e = subst GoodIds (sym e) (record { few = returned_few exit; good = returned_good exit })

module _ (base : ℕ) (s : List ℕ) (exit : ℕ) (b : List ℕ) (t : Bool) (et : t ≡ bad_length b) where
  pub at_length : t ≡ true → Length ≡ judged_at base s exit b
  unfolding judged_at
  at_length h = let p : bad_length b ≡ true = sym et ∙ h in simp p

  module _ (ht : t ≡ false) where
    pub at_exit : known exit ≡ false → Exit ≡ judged_at base s exit b
    unfolding judged_at
    at_exit q = let p : bad_length b ≡ false = sym et ∙ ht in simp (p, q)

    pub at_elements : (ids : List ℕ) (f : Fault) → known exit ≡ true → ids ≡ returned exit → f ≡ finding (valued base s ids) b → f ≡ judged_at base s exit b
    unfolding judged_at
    at_elements ids f q e g =
        let p : bad_length b ≡ false = sym et ∙ ht in
        g ∙ ap (λ (ids : List ℕ). finding (valued base s ids) b) e ∙ sym (simp (p, q))

-- ---- the target
no_target : (f : Fault) (n : ℕ) → Err f ≡ Ok n → ⊥
no_target f n e = let z : ◌≡◌ {A = ℕ} 0 1 = cc in omega arith

told : (tests : List (Bool × Fault)) (base : ℕ) (a : Answer) (f : Fault) → first_of Err tests (Ok base) ≡ Err f → first_of refusal tests a ≡ refusal f
told [] base a f e = absurd (no_target f base (sym e))
told (x ∷ xs) base a f e = go x.0 e (told xs base a f)
  where
    go : (t : Bool) → cond t (Err x.1) (first_of Err xs (Ok base)) ≡ Err f → (first_of Err xs (Ok base) ≡ Err f → first_of refusal xs a ≡ refusal f) → cond t (refusal x.1) (first_of refusal xs a) ≡ refusal f
    go true q ih = let z : x.1 ≡ f = cc q in ap refusal z
    go false q ih = ih q

reached : (tests : List (Bool × Fault)) (base n : ℕ) (a : Answer) → first_of Err tests (Ok base) ≡ Ok n → (first_of refusal tests a ≡ a) × (base ≡ n)
reached [] base n a e = (refl, cc e)
reached (x ∷ xs) base n a e = go x.0 e (reached xs base n a)
  where
    go : (t : Bool) → cond t (Err x.1) (first_of Err xs (Ok base)) ≡ Ok n → (first_of Err xs (Ok base) ≡ Ok n → (first_of refusal xs a ≡ a) × (base ≡ n)) → (cond t (refusal x.1) (first_of refusal xs a) ≡ a) × (base ≡ n)
    go true q ih = absurd (no_target x.1 n q)
    go false q ih = ih q

module _ (l : Layout) (s : List ℕ) (guest vcpu exit : ℕ) (b : List ℕ) (a : Result ℕ Fault) (q : a ≡ target_of l s 0 0 false guest vcpu) where
  -- no flag is set, so that 2 is not told
  opened : target_of l s 0 0 false guest vcpu ≡ first_of Err (target_tests l s 0 0 false guest vcpu) (Ok (base_of l s false guest vcpu))
  unfolding target_of
  opened = refl

  shape : judge_output l s guest vcpu exit b ≡ first_of refusal (target_tests l s 0 0 false guest vcpu) (refusal (judged_at (base_of l s false guest vcpu) s exit b))
  unfolding judge_output judged_at finding
  shape =
      ap (λ (x : Answer). first_of refusal (target_tests l s 0 0 false guest vcpu) x)
      (sym (inner (bad_length b) (not (known exit)) (found (comparison (ours_of l s guest vcpu exit) b) (lacking (ours_of l s guest vcpu exit) (elements_of b)))))
    where
      inner : (t u : Bool) (f : Fault) → refusal (cond t Length (cond u Exit f)) ≡ first_of refusal ((t, Length) ∷ (u, Exit) ∷ []) (refusal f)
      inner true u f = refl
      inner false true f = refl
      inner false false f = refl

  pub output_refused : (r : Answer) (f : Fault) → a ≡ Err f → r ≡ refusal f → r ≡ judge_output l s guest vcpu exit b
  output_refused r f h k =
      k ∙ sym (shape ∙ told (target_tests l s 0 0 false guest vcpu) (base_of l s false guest vcpu) (refusal (judged_at (base_of l s false guest vcpu) s exit b)) f (sym opened ∙ sym q ∙ h))

  pub output_judged : (r : Answer) (n : ℕ) (f : Fault) → a ≡ Ok n → f ≡ judged_at n s exit b → r ≡ refusal f → r ≡ judge_output l s guest vcpu exit b
  output_judged r n f h g k =
      let p = reached (target_tests l s 0 0 false guest vcpu) (base_of l s false guest vcpu) n (refusal (judged_at (base_of l s false guest vcpu) s exit b)) (sym opened ∙ sym q ∙ h) in
      k ∙ ap refusal (g ∙ ap (λ (m : ℕ). judged_at m s exit b) (sym p.1)) ∙ sym (shape ∙ p.0)

pub target_room : (a : Result ℕ Fault) (n len : ℕ) (l : Layout) → Held a false l len → a ≡ Ok n → n + slot_bytes ≤ len
target_room a n len l h g = let p = subst (λ (x : Result ℕ Fault). Held x false l len) g h in omega (arith, p.0, p.1)
