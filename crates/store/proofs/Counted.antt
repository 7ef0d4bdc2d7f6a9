-- No two used words are the same exactly if each stands once: the code counts. Assumes nothing.
use mathlib.Core.Path.{◌≡◌, refl, sym, ap, ◌∙◌}
use mathlib.Core.Logic.{◌≢◌}
use mathlib.Core.Bool.{Bool, true, false, not, ◌&&◌, cond}
use mathlib.Core.List.{List}
use Prim.Native.Nat.{ℕ, ◌*◌, ◌≤◌, ◌<◌}
use native.Mathlib.Omega.{arith}
use native.Mathlib.Decide.{ℕ_discrete, dec_lt}
use lib.Dec.{eqb, leb}
use borrow.Author.Tests.{eq-eqb, ne_eqb, le-leb, leb-true, eqb-true, not-true}
use Rattle.store.specs.declared.Layout.{Layout}
use Rattle.store.specs.Search.{every}
use Rattle.store.specs.Header.{live, word, is_used, guest_of, is_taken, holds, words_good}
use Rattle.store.specs.Private.{times_of, slot_counted}
use Rattle.store.proofs.Search.{both, every_all, every_at, tally_one, tally_two}
use Rattle.store.proofs.Kept.{Words, words_are, words_good_lem}

same_bool : (a b : Bool) → (a ≡ true → b ≡ true) → (b ≡ true → a ≡ true) → a ≡ b
same_bool true b f g = sym (f refl)
same_bool false true f g = g refl
same_bool false false f g = refl

module _ (l : Layout) (h : List ℕ) where
  -- a used word of good words stands once
  once : Words l h → (a : ℕ) → a < l.slots → word l h a ≢ 0 → times_of l h (word l h a) ≡ 1
  unfolding holds
  once f a k n = tally_one (holds l h (word l h a)) l.slots a k (eq-eqb (word l h a) (word l h a) refl) (λ b m d. ne_eqb _ _ (apart b m d (dec_lt b a)))
    where
      apart : (b : ℕ) → b < l.slots → b ≢ a → Dec (b < a) → word l h b ≢ word l h a
      apart b m d (yes lt) = f.sole a b k lt n
      apart b m d (no ge) = λ e. f.sole b a m (omega arith) (λ z. n (sym e ∙ z)) (sym e)

  counted_of : Words l h → every (slot_counted l h) l.slots 0 ≡ true
  unfolding slot_counted is_used
  counted_of f = every_all (slot_counted l h) l.slots 0 (λ a i k. at a (omega arith) (ℕ_discrete (word l h a) 0))
    where
      at : (a : ℕ) → a < l.slots → Dec (word l h a ≡ 0) → slot_counted l h a ≡ true
      at a k (yes z) = simp (eq-eqb _ _ z, f.idle a k z)
      at a k (no n) = simp (ne_eqb _ _ n, le-leb _ _ (f.good a k n).0, (f.good a k n).1) (eq-eqb _ _ (once f a k n))

  of_counted : every (slot_counted l h) l.slots 0 ≡ true → Words l h
  unfolding slot_counted is_used holds
  of_counted t = record { good = λ a k n. (at a k n).0; sole = λ a b k m n e. twice a b k m e (at a k n).1; idle = idle }
    where
      idle : (a : ℕ) → a < l.slots → word l h a ≡ 0 → is_taken l h a ≡ false
      idle a k z =
          let w = word l h a in
          not-true _ (ap (λ (b : Bool). cond b (not (is_taken l h a)) (leb (l.ids * 2048) w && (live l h (guest_of l w) && eqb (times_of l h w) 1))) (sym (eq-eqb _ _ z))
          ∙ every_at (slot_counted l h) l.slots 0 t a (omega arith) (omega arith))

      at : (a : ℕ) → a < l.slots → word l h a ≢ 0
          → ((l.ids * 2048 ≤ word l h a) × (live l h (guest_of l (word l h a)) ≡ true)) × (times_of l h (word l h a) ≡ 1)
      at a k n =
          let w = word l h a in
          let q : (leb (l.ids * 2048) w && (live l h (guest_of l w) && eqb (times_of l h w) 1)) ≡ true =
          ap (λ (b : Bool). cond b (not (is_taken l h a)) (leb (l.ids * 2048) w && (live l h (guest_of l w) && eqb (times_of l h w) 1))) (sym (ne_eqb _ _ n))
          ∙ every_at (slot_counted l h) l.slots 0 t a (omega arith) (omega arith) in
          let u = both (leb (l.ids * 2048) w) (live l h (guest_of l w) && eqb (times_of l h w) 1) q in
          let v = both (live l h (guest_of l w)) (eqb (times_of l h w) 1) u.1 in
          ((leb-true _ _ u.0, v.0), eqb-true _ _ v.1)

      twice : (a b : ℕ) → a < l.slots → b < a → word l h b ≡ word l h a → times_of l h (word l h a) ≡ 1 → ⊥
      twice a b k m e o =
          let z : 2 ≤ times_of l h (word l h a) = tally_two (holds l h (word l h a)) l.slots b a m k (eq-eqb (word l h b) (word l h a) e) (eq-eqb (word l h a) (word l h a) refl) in
          omega arith

  pub words_counted : words_good l h ≡ every (slot_counted l h) l.slots 0
  words_counted =
      same_bool (words_good l h) (every (slot_counted l h) l.slots 0) (λ t. counted_of (words_are l h t)) (λ t. words_good_lem l h (of_counted t))
