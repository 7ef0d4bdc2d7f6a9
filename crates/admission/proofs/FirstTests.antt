-- The first tests of a call: what `admission` says of the refusals that begin with them. Assumes nothing.
use mathlib.Core.Path.{◌≡◌, refl, sym, ap, ◌∙◌}
use mathlib.Core.Bool.{Bool, true, false, not, cond}
use mathlib.Core.List.{List}
use Prim.Native.Nat.{ℕ, ◌≤◌}
use lib.Count.{count_leading_zeros}
use lib.Dec.{eqb}
use Rattle.std.specs.Prelude.{Ok, Err}
use lib.ListN.{length}
use borrow.Author.Tests.{eq-eqb, ne_eqb, not-false}
use Rattle.answer.specs.declared.Fault.{Fault}
use Rattle.answer.specs.declared.Fault.TheVariants.{Store, Flag}
use Rattle.store.specs.declared.Layout.{Layout}
use Rattle.store.specs.Header.{header, outside, live}
use Rattle.store.specs.Store.{well_formed}
use Rattle.store.proofs.Frame.{formed}
use Rattle.store.proofs.Tests.{live_parts}
use Rattle.admission.specs.Refusals.{Admission, admission}

module _ (l : Layout) (s : List ℕ) (supported flags : ℕ) where
  -- ---- the answers of `admit`
  pub admit_store : (t : Bool) → t ≡ well_formed l s → not t ≡ true → Err Store ≡ admission l s supported flags
  unfolding admission
  admit_store t e h = let n : not (well_formed l s) ≡ true = ap not (sym e) ∙ h in sym (simp n)

  module _ (t : Bool) (e : t ≡ well_formed l s) (h : not t ≡ false) (x : ℕ) (q : x ≡ outside supported flags) where
    passed : not (well_formed l s) ≡ false
    passed = ap not (sym e) ∙ h

    pub admit_flag : (x ≡ 0 → ⊥) → Err (Flag (count_leading_zeros 64 x)) ≡ admission l s supported flags
    unfolding admission
    admit_flag n =
        let m : outside supported flags ≡ 0 → ⊥ = λ z. n (q ∙ z) in
        sym (simp (passed, ne_eqb _ _ m) (ap (λ (y : ℕ). Err (Flag (count_leading_zeros 64 y))) (sym q)))

    pub admit_all : x ≡ 0 → ◌≡◌ {A = Admission} (Ok tt) (admission l s supported flags)
    unfolding admission
    admit_all z =
        let m : outside supported flags ≡ 0 = sym q ∙ z in
        sym (simp (passed, eq-eqb _ _ m))

  -- ---- what a call's refusals make of it: `tests` of the first two, `rest` of the others
  abbrev tests : {A : Type 0} → (Fault → A) → A → A
  tests refuse rest = cond (not (well_formed l s)) (refuse Store) (cond (not (eqb (outside supported flags) 0)) (refuse (Flag (count_leading_zeros 64 (outside supported flags)))) rest)

  pub refused : {A : Type 0} (refuse : Fault → A) (rest : A) (a : Admission) (f : Fault) → a ≡ admission l s supported flags → a ≡ Err f → tests refuse rest ≡ refuse f
  unfolding admission
  refused {A} refuse rest a f e h = go (not (well_formed l s)) (not (eqb (outside supported flags) 0)) (sym e ∙ h)
    where
      go : (p q : Bool) → ◌≡◌ {A = Admission} (cond p (Err Store) (cond q (Err (Flag (count_leading_zeros 64 (outside supported flags)))) (Ok tt))) (Err f)
          → cond p (refuse Store) (cond q (refuse (Flag (count_leading_zeros 64 (outside supported flags)))) rest) ≡ refuse f
      go true q k = ap refuse cc
      go false true k = ap refuse cc
      go false false k = cc

  pub record Past : Type 0 where
    pub good : well_formed l s ≡ true
    pub flags_good : eqb (outside supported flags) 0 ≡ true

  pub past : (a : Admission) → a ≡ admission l s supported flags → a ≡ Ok tt → Past
  unfolding admission
  past a e h = go (well_formed l s) (eqb (outside supported flags) 0) refl refl (sym e ∙ h)
    where
      go : (p q : Bool) → well_formed l s ≡ p → eqb (outside supported flags) 0 ≡ q
          → ◌≡◌ {A = Admission} (cond (not p) (Err Store) (cond (not q) (Err (Flag (count_leading_zeros 64 (outside supported flags)))) (Ok tt))) (Ok tt) → Past
      go true true i j k = record { good = i; flags_good = j }
      go true false i j k = cc
      go false q i j k = cc

  pub admitted : {A : Type 0} (refuse : Fault → A) (rest : A) → Past → tests refuse rest ≡ rest
  admitted refuse rest p = simp (p.good, p.flags_good)

-- ---- what the store's functions require, past the first tests
module _ (l : Layout) (s : List ℕ) where
  pub past_long : (supported flags : ℕ) (a : Admission) → a ≡ admission l s supported flags → a ≡ Ok tt → length s ≡ l.size
  past_long supported flags a e h = (formed l s (past l s supported flags a e h).good).long

  pub good_long : (t : Bool) → t ≡ well_formed l s → not t ≡ false → length s ≡ l.size
  good_long t e h = (formed l s (sym e ∙ not-false t h)).long

  pub live_some : (g : ℕ) (x : Bool) → x ≡ live l (header l s) g → not x ≡ false → 1 ≤ g
  live_some g x e h = (live_parts l (header l s) g (sym e ∙ not-false x h)).0

  pub live_few : (g : ℕ) (x : Bool) → x ≡ live l (header l s) g → not x ≡ false → g ≤ l.guests
  live_few g x e h = (live_parts l (header l s) g (sym e ∙ not-false x h)).1
