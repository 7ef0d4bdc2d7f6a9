-- The loops over slots and guests, in the form of their needs. Assumes nothing.
use mathlib.Core.Path.{◌≡◌, refl, sym, ap, ap₂, ◌∙◌}
use mathlib.Core.Bool.{Bool, true, false, ◌&&◌, cond}
use mathlib.Core.List.{List}
use Prim.Native.Nat.{ℕ, suc, ◌+◌, ◌-◌, ◌≤◌, ◌<◌}
use native.Mathlib.Numerals.{add-one}
use native.Mathlib.Omega.{arith}
use mir.Val.{bool_byte}
use lib.Dec.{eqb}
use Rattle.store.specs.declared.Layout.{Layout}
use Rattle.store.specs.Search.{every, tally}
use Rattle.store.specs.Header.{word, holds}
use Rattle.store.specs.Private.{times_of}

module _ (p : ℕ → Bool) (n i : ℕ) where
  pub every_end : n ≤ i → every p (n - i) i ≡ true
  unfolding every
  every_end h = let e : n - i ≡ 0 = omega arith in ap (λ (m : ℕ). every p m i) e

  every_turn : i < n → every p (n - i) i ≡ (p i && every p (n - (i + 1)) (i + 1))
  unfolding every
  every_turn h = let e : n - i ≡ suc (n - (i + 1)) = omega arith in ap (λ (m : ℕ). every p m i) e

  pub every_past : i < n → p i ≡ true → every p (n - i) i ≡ every p (n - (i + 1)) (i + 1)
  every_past h e = every_turn h ∙ ap (λ (b : Bool). b && every p (n - (i + 1)) (i + 1)) e

  pub every_out : i < n → p i ≡ false → every p (n - i) i ≡ false
  every_out h e = every_turn h ∙ ap (λ (b : Bool). b && every p (n - (i + 1)) (i + 1)) e

-- ---- how many slots hold a word
module _ (l : Layout) (s : List ℕ) (w : ℕ) where
  -- how many slots hold it, of those before b
  pub times_start : 0 ≡ tally (holds l s w) 0
  unfolding tally
  times_start = refl

  pub times_turn : (n b y x : ℕ) → n ≡ tally (holds l s w) b → y ≡ word l s b → x ≡ bool_byte (eqb y w) → n + x ≡ tally (holds l s w) (b + 1)
  unfolding tally holds
  times_turn n b y x h q e =
      ap₂ ◌+◌ h (e ∙ counted (eqb y w) ∙ ap (λ (z : ℕ). cond (eqb z w) 1 0) q) ∙ ap (tally (holds l s w)) (sym (add-one b))
    where
      counted : (t : Bool) → bool_byte t ≡ cond t 1 0
      counted true = refl
      counted false = refl

  pub times_end : (n b : ℕ) → n ≡ tally (holds l s w) b → b ≤ l.slots → l.slots ≤ b → n ≡ times_of l s w
  times_end n b h p q = let e : b ≡ l.slots = omega arith in h ∙ ap (tally (holds l s w)) e
