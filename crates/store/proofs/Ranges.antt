-- What an iterator over a range answers, as `every` of the definitions. Assumes nothing.
use mathlib.Core.Path.{◌≡◌, refl, sym, ap, subst, ◌∙◌}
use mathlib.Core.Bool.{Bool, true, false, not, ◌&&◌, ◌||◌}
use mathlib.Core.List.{List}
use Prim.Native.Nat.{ℕ, zero, suc, ◌+◌, ◌≤◌, ◌<◌}
use native.Mathlib.Omega.{arith}
use denote.Param.Members.{Mut}
use denote.Ref.{Bor}
use Rattle.std.specs.Bool.{⊤}
use Rattle.std.specs.Fn.{Called, CalledAt}
use Rattle.std.specs.Iterator.{YieldsThen}
use Rattle.std.specs.List.{FoldsTo, list_all, list_any, range_with_len}
use Rattle.std.specs.Option.{MatchOption, IfSome, unwrap_or}
use Rattle.std.specs.Prelude.{Option, Some, None}
use Rattle.std.specs.declared.ops.Range.{Range}
use Rattle.std.proofs.iter.Yields.{nat_range_steps}
use Rattle.std.proofs.lemmas.Iterator.{YieldsList-from_range, first_from_Range}
use Rattle.std.proofs.lemmas.Iterator.Search.{all_from_yields_List, any_from_yields_List}
use Rattle.store.specs.Search.{every, first}
use Rattle.store.proofs.Search.{found_first, none_first}

all_every : (p : ℕ → Bool) (n i : ℕ) → list_all p (range_with_len i n) ≡ every p n i
unfolding every
all_every p zero i = refl
all_every p (suc n) i = ap (λ (b : Bool). p i && b) (all_every p n (i + 1))

any_every : (p : ℕ → Bool) (n i : ℕ) → list_any p (range_with_len i n) ≡ not (every (λ k. not (p k)) n i)
unfolding every
any_every p zero i = refl
any_every p (suc n) i = ap (λ (b : Bool). p i || b) (any_every p n (i + 1)) ∙ either (p i) (every (λ k. not (p k)) n (i + 1))
  where
    either : (a b : Bool) → (a || not b) ≡ not (not a && b)
    either true b = refl
    either false b = refl

-- `all` and `any` over the n numbers from i on, whose closure tells p
module _ {F : Type 0} {g : Mut F (ℕ × Unit {0}) Bool} (p : ℕ → Bool) (n i : ℕ) (s u : Range ℕ) (f : F) (r : Bool)
    (from : s ≡ record { start = i; end = i + n }) (tells : (x : ℕ) (b : Bool) (q : F) → Called g f (x, tt) b q → (q ≡ f) × (b ≡ p x)) where
  pub told_all : (xs : List ℕ) × (o : Option ℕ) × (j : F) × YieldsThen nat_range_steps s xs o u × FoldsTo (λ p x q. Called g p (x, tt) true q) f xs j
      × MatchOption o (r ≡ true) (λ x. (r ≡ false) × ((h : F) × Called g j (x, tt) false h)) → r ≡ every p n i
  told_all ran = all_from_yields_List p u f r ran (YieldsList-from_range i (i + n) n from (omega arith)) tells ∙ all_every p n i

  pub told_any : (xs : List ℕ) × (o : Option ℕ) × (j : F) × YieldsThen nat_range_steps s xs o u × FoldsTo (λ p x q. Called g p (x, tt) false q) f xs j
      × MatchOption o (r ≡ false) (λ x. (r ≡ true) × ((h : F) × Called g j (x, tt) true h)) → r ≡ not (every (λ k. not (p k)) n i)
  told_any ran = any_from_yields_List p u f r ran (YieldsList-from_range i (i + n) n from (omega arith)) tells ∙ any_every p n i

-- `find` over them, which answers where p is first, or the number past them
module _ {F : Type 0} {g : Mut F (Bor ℕ × Unit {0}) Bool} (p : ℕ → Bool) (n i : ℕ) (s u : Range ℕ) (f : F) (r : Option ℕ)
    (from : s ≡ record { start = i; end = i + n }) (tells : (x : ℕ) (b : Bool) (q : F) → CalledAt g f x b q → (q ≡ f) × (b ≡ p x))
    (ran : (xs : List ℕ) × (j : F) × YieldsThen nat_range_steps s xs r u × FoldsTo (λ p x q. CalledAt g p x false q) f xs j
    × MatchOption r ⊤ (λ x. (h : F) × CalledAt g j x true h)) where
  found : MatchOption r ((k : ℕ) → s.start ≤ k → k < s.end → p k ≡ false) (λ j. (s.start ≤ j) × (j < s.end) × (p j ≡ true) × ((k : ℕ) → s.start ≤ k → k < j → p k ≡ false))
  found = first_from_Range s u f r (λ k. p k ≡ true) (λ k. p k ≡ false) ran (λ x q k. sym (tells x true q k).1) (λ x q k. ((tells x false q k).0, sym (tells x false q k).1))

  told : (r : Option ℕ) → MatchOption r ((k : ℕ) → i ≤ k → k < i + n → p k ≡ false) (λ j. (i ≤ j) × (j < i + n) × (p j ≡ true) × ((k : ℕ) → i ≤ k → k < j → p k ≡ false))
      → (unwrap_or r (i + n) ≡ first p n i) × IfSome r (λ j. (i ≤ j) × (j < i + n))
  told (Some j) h = (sym (found_first p n i j (record { has = h.2; above = h.0; below = h.1; none = h.3 })), (h.0, h.1))
  told None h = (sym (none_first p n i h), tt)

  pub told_find : (unwrap_or r (i + n) ≡ first p n i) × IfSome r (λ j. (i ≤ j) × (j < i + n))
  told_find = told r (subst (λ (s : Range ℕ). MatchOption r ((k : ℕ) → s.start ≤ k → k < s.end → p k ≡ false) (λ j. (s.start ≤ j) × (j < s.end) × (p j ≡ true) × ((k : ℕ) → s.start ≤ k → k < j → p k ≡ false))) from found)
