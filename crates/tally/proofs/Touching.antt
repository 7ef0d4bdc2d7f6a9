-- The slots that a call touches, in the form of the needs; and what a mask of them does to the records. Assumes nothing.
use mathlib.Core.Path.{◌≡◌, refl, sym, ap, ap₂, ◌∙◌}
use mathlib.Core.Bool.{Bool, true, false, not, cond}
use mathlib.Core.List.{List}
use Prim.Native.Nat.{ℕ, zero, suc, ◌+◌, ◌-◌, ◌*◌, ◌/◌, ◌^◌, ◌<◌, ◌≤◌}
use native.Mathlib.Nat.{pow-le-pow_right, pow-suc}
use native.Mathlib.Omega.{arith}
use lib.Dec.{eqb}
use mir.Val.{bool_byte}
use Rattle.std.specs.Prelude.{Option, Some}
use Rattle.octets.specs.Bytes.{be}
use Rattle.l0.specs.declared.numbered.Kind.{Kind}
use Rattle.l0.specs.declared.numbered.Kind.TheVariants.{RunVcpu}
use Rattle.l0.specs.Kinds.{kind_of}
use Rattle.l0.proofs.ByNumber.{number_is}
use Rattle.elements.specs.Table.{position, below, table}
use Rattle.store.specs.declared.Layout.{Layout}
use Rattle.store.specs.Layout.{slot_at, Sound}
use Rattle.store.specs.Header.{header, word, guest_of, lacks}
use Rattle.run.specs.Run.{input_size}
use Rattle.admission.specs.Refusals.{has_bit0}
use Rattle.tally.specs.Tally.{dropped}
use Rattle.tally.specs.Private.{mask_of, HeldBytes}

-- ---- the guest that a slot word names
pub guest_none : (l : Layout) (w : ℕ) → w / 2048 < l.ids → 0 ≡ guest_of l w
unfolding guest_of
guest_none l w h = omega arith

pub guest_some : (l : Layout) (w : ℕ) → w / 2048 - l.ids ≡ guest_of l w
unfolding guest_of
guest_some l w = refl

-- ---- what a delete drops
module _ (l : Layout) (s : List ℕ) (flags guest a w : ℕ) (p : w ≡ word l (header l s) a) where
  pub drops_used : (x : Bool) → x ≡ has_bit0 flags → x ≡ true → not (eqb w 0) ≡ dropped l s flags guest a
  unfolding lacks
  drops_used x q t =
      sym (ap₂ (λ (y : Bool) (n : ℕ). cond y (not (eqb n 0)) (eqb (guest_of l (word l (header l s) a)) guest)) (sym q ∙ t) (sym p))

-- ---- a mask, made from the last slot down
bit_le : (b : Bool) → cond b 1 0 ≤ 1
bit_le true = omega arith
bit_le false = omega arith

mask_suc : (p : ℕ → Bool) (n i : ℕ) → mask_of p (suc n) i ≡ cond (p i) 1 0 + 2 * mask_of p n (i + 1)
unfolding mask_of
mask_suc p n i = refl

mask_zero : (p : ℕ → Bool) (i : ℕ) → mask_of p 0 i ≡ 0
unfolding mask_of
mask_zero p i = refl

mask_lt : (p : ℕ → Bool) (n i : ℕ) → mask_of p n i < 2 ^ n
mask_lt p zero i = omega (arith, mask_zero p i)
mask_lt p (suc n) i = omega (arith, mask_suc p n i, bit_le (p i), mask_lt p n (i + 1), pow-suc 2 n)

module _ (p : ℕ → Bool) (n : ℕ) where
  pub mask_start : 0 ≡ mask_of p (n - n) n
  mask_start = let z : n - n ≡ 0 = omega arith in sym (ap (λ (k : ℕ). mask_of p k n) z ∙ mask_zero p n)

  module _ (a m : ℕ) (e : m ≡ mask_of p (n - a) a) (h : 0 < a) (k : a ≤ n) where
    pub mask_more : (b : ℕ) → b ≡ cond (p (a - 1)) 1 0 → 2 * m + b ≡ mask_of p (n - (a - 1)) (a - 1)
    mask_more b f =
        let z : n - (a - 1) ≡ suc (n - a) = omega arith in
        let y : (a - 1) + 1 ≡ a = omega arith in
        let t : mask_of p (n - (a - 1)) (a - 1) ≡ cond (p (a - 1)) 1 0 + 2 * mask_of p (n - a) a =
        ap (λ (x : ℕ). mask_of p x (a - 1)) z ∙ mask_suc p (n - a) (a - 1) ∙ ap (λ (x : ℕ). cond (p (a - 1)) 1 0 + 2 * mask_of p (n - a) x) y in
        omega (arith, t, e, f)

    pub mask_fits : n ≤ 64 → 2 * m + 1 < 2 ^ 64
    mask_fits f =
        let v : n - a ≤ 63 = omega arith in
        let w : 2 ^ (n - a) ≤ 2 ^ 63 = pow-le-pow_right {n = 2} (omega arith) v in
        omega (arith, e, mask_lt p (n - a) a, w)

  pub mask_done : (a m : ℕ) → m ≡ mask_of p (n - a) a → a ≤ 0 → m ≡ mask_of p n 0
  mask_done a m e h = let z : a ≡ 0 = omega arith in e ∙ ap (λ (x : ℕ). mask_of p (n - x) x) z ∙ ap (λ (x : ℕ). mask_of p x 0) (sub_none n)
    where
      sub_none : (x : ℕ) → x - 0 ≡ x
      sub_none x = omega arith

module _ (l : Layout) (so : Sound l) (p : ℕ → Bool) (a m : ℕ) (e : m ≡ mask_of p (l.slots - a) a) (h : 0 < a) (k : a ≤ l.slots) where
  pub mask_doubled : 2 * m < 2 ^ 64
  mask_doubled = omega (arith, mask_fits p l.slots a m e h k so.few_slots)

  pub mask_added : (b : ℕ) → b ≤ 1 → 2 * m + b < 2 ^ 64
  mask_added b f = omega (arith, mask_fits p l.slots a m e h k so.few_slots)

-- ---- the bytes that hold elements
input_at : (s : List ℕ) (base : ℕ) → input_size s base ≡ be s (base + 8) 8
unfolding position below table
input_at s base = let e : base + 0 + 8 ≡ base + 8 = omega arith in ap (λ (n : ℕ). be s n 8) e

module _ (l : Layout) (s : List ℕ) (kind a len base size : ℕ) (o : Option Kind) (found : o ≡ kind_of kind) (y : Kind) (h : o ≡ Some y) (r : y ≡ RunVcpu)
    (b : base ≡ slot_at l a) (e : size ≡ be s (base + 8) 8) where
  seven : kind ≡ 7
  seven = number_is kind o found y h RunVcpu r

  registered_is : size ≡ input_size s (slot_at l a)
  registered_is = e ∙ sym (input_at s base) ∙ ap (input_size s) b

  pub held_cut : len < size → HeldBytes l s kind a len len
  held_cut h = record { all = λ n. refl; registered = λ x y z w. absurd (omega (arith, registered_is, h, w)) }

  pub held_size : HeldBytes l s kind a len size
  held_size = record { all = λ n. absurd (n seven); registered = λ x y z w. registered_is }

-- a truth value as a number
pub bit_small : (t : Bool) (n : ℕ) → n ≡ bool_byte t → n ≤ 1
bit_small true n e = omega (arith, e)
bit_small false n e = omega (arith, e)
