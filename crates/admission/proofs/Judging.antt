-- Tests in a row, of which functions take some each: what `judgement` of a part says of the whole. Assumes nothing.
use mathlib.Core.Path.{◌≡◌, refl, sym, ap, ◌∙◌}
use mathlib.Core.Bool.{Bool, true, false, cond}
use mathlib.Core.List.{List, [], ◌∷◌, ◌++◌}
use Rattle.answer.specs.declared.Fault.{Fault}
use Rattle.answer.specs.Refusals.{first_of}
use Rattle.std.specs.Prelude.{Ok, Err}
use Rattle.admission.specs.Refusals.{Admission, judgement, Passed}

-- what a judgement makes of a call whose outcome is o
abbrev pub settle : {A : Type 0} → (Fault → A) → A → Admission → A
settle refuse o (Ok u) = o
settle refuse o (Err f) = refuse f

module _ {A : Type 0} (refuse : Fault → A) (o : A) where
  pub settle_all : (xs : List (Bool × Fault)) → first_of refuse xs o ≡ settle refuse o (judgement xs)
  settle_all [] = refl
  settle_all (x ∷ xs) = go x.0 (settle_all xs)
    where
      go : (t : Bool) → first_of refuse xs o ≡ settle refuse o (judgement xs) → cond t (refuse x.1) (first_of refuse xs o) ≡ settle refuse o (cond t (Err x.1) (judgement xs))
      go true ih = refl
      go false ih = ih

  pub settle_append : (xs ys : List (Bool × Fault)) → first_of refuse (xs ++ ys) o ≡ settle refuse (first_of refuse ys o) (judgement xs)
  settle_append [] ys = refl
  settle_append (x ∷ xs) ys = go x.0 (settle_append xs ys)
    where
      go : (t : Bool) → first_of refuse (xs ++ ys) o ≡ settle refuse (first_of refuse ys o) (judgement xs)
          → cond t (refuse x.1) (first_of refuse (xs ++ ys) o) ≡ settle refuse (first_of refuse ys o) (cond t (Err x.1) (judgement xs))
      go true ih = refl
      go false ih = ih

  -- the whole, by what its beginning was found to be
  pub begin_refused : (xs ys : List (Bool × Fault)) (f : Fault) → judgement xs ≡ Err f → first_of refuse (xs ++ ys) o ≡ refuse f
  begin_refused xs ys f e = settle_append xs ys ∙ ap (settle refuse (first_of refuse ys o)) e

  pub begin_admitted : (xs ys : List (Bool × Fault)) → judgement xs ≡ Ok tt → first_of refuse (xs ++ ys) o ≡ first_of refuse ys o
  begin_admitted xs ys e = settle_append xs ys ∙ ap (settle refuse (first_of refuse ys o)) e

  pub all_refused : (xs : List (Bool × Fault)) (f : Fault) → judgement xs ≡ Err f → first_of refuse xs o ≡ refuse f
  all_refused xs f e = settle_all xs ∙ ap (settle refuse o) e

  pub all_admitted : (xs : List (Bool × Fault)) → judgement xs ≡ Ok tt → first_of refuse xs o ≡ o
  all_admitted xs e = settle_all xs ∙ ap (settle refuse o) e

-- ---- back from an answer that holds the fault, or something found
module _ {A : Type 0} (turn : Fault → A) (same : (f g : Fault) → turn f ≡ turn g → f ≡ g) (good : A) (other : (f : Fault) → good ≡ turn f → ⊥) (xs : List (Bool × Fault)) where
  pub was_refused : (f : Fault) → first_of turn xs good ≡ turn f → judgement xs ≡ Err f
  was_refused f e = go (judgement xs) (sym (settle_all turn good xs) ∙ e)
    where
      go : (a : Admission) → settle turn good a ≡ turn f → a ≡ Err f
      go (Ok tt) q = absurd (other f q)
      go (Err g) q = ap Err (same g f q)

  pub was_admitted : (g : A) → ((f : Fault) → turn f ≡ g → ⊥) → first_of turn xs good ≡ g → (judgement xs ≡ Ok tt) × (good ≡ g)
  was_admitted g n e = go (judgement xs) (sym (settle_all turn good xs) ∙ e)
    where
      go : (a : Admission) → settle turn good a ≡ g → (a ≡ Ok tt) × (good ≡ g)
      go (Ok tt) q = (refl, q)
      go (Err f) q = absurd (n f q)

-- ---- no test holds
pub judged_passed : (xs : List (Bool × Fault)) → judgement xs ≡ Ok tt → Passed xs
judged_passed [] e = tt
judged_passed (x ∷ xs) e = go x.0 e (judged_passed xs)
  where
    go : (t : Bool) → cond t (Err x.1) (judgement xs) ≡ Ok tt → (judgement xs ≡ Ok tt → Passed xs) → (t ≡ false) × Passed xs
    go true q ih = cc
    go false q ih = (refl, ih q)

-- tests behind others matter only where none of those holds
pub same_after : {A : Type 0} (refuse : Fault → A) (xs ys zs : List (Bool × Fault)) (o : A) → (Passed xs → ys ≡ zs) → first_of refuse (xs ++ ys) o ≡ first_of refuse (xs ++ zs) o
same_after refuse [] ys zs o h = ap (λ (t : List (Bool × Fault)). first_of refuse t o) (h tt)
same_after {A} refuse (x ∷ xs) ys zs o h = go x.0 refl (same_after refuse xs ys zs o)
  where
    go : (t : Bool) → x.0 ≡ t → ((Passed xs → ys ≡ zs) → first_of refuse (xs ++ ys) o ≡ first_of refuse (xs ++ zs) o)
        → cond t (refuse x.1) (first_of refuse (xs ++ ys) o) ≡ cond t (refuse x.1) (first_of refuse (xs ++ zs) o)
    go true e ih = refl
    go false e ih = ih (λ p. h (e, p))

-- P of what a call gives: P of each refusal, and of what it does where no test holds
pub each_way : {A : Type 0} (P : A → Type 0) (refuse : Fault → A) (xs : List (Bool × Fault)) (o : A) → ((f : Fault) → P (refuse f)) → (Passed xs → P o) → P (first_of refuse xs o)
each_way P refuse [] o r g = g tt
each_way {A} P refuse (x ∷ xs) o r g = go x.0 refl (each_way P refuse xs o r)
  where
    go : (t : Bool) → x.0 ≡ t → ((Passed xs → P o) → P (first_of refuse xs o)) → P (cond t (refuse x.1) (first_of refuse xs o))
    go true e ih = r x.1
    go false e ih = ih (λ p. g (e, p))
