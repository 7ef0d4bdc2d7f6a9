-- The filter: a word that is met has its bit, and no bit is lost. `hash_of` stays shut: any function below 512 would do.
-- Assumes nothing.
use mathlib.Core.Path.{◌≡◌, refl, sym, ap, ◌∙◌, subst}
use mathlib.Core.Logic.{◌≢◌}
use mathlib.Core.Bool.{Bool, true, false, not, cond}
use mathlib.Core.List.{List}
use Prim.Native.Nat.{ℕ, zero, suc, ◌+◌, ◌-◌, ◌*◌, ◌/◌, ◌%◌, ◌^◌, ◌<◌}
use native.Mathlib.Omega.{arith}
use native.Mathlib.Nat.{mod-lt, one-mul, pow-suc, not-suc-le-zero, le_of_suc-le-suc}
use native.Mathlib.Numerals.{one-add}
use native.Mathlib.Decide.{ℕ_discrete}
use lib.Dec.{lit<}
use lib.Bits.{bit_and, bit_or, or_shr, or_mod, or_add_and, and_high}
use lib.ListN.{length, get_or, set, replicate, length-set}
use lib.Seq.{get_or-set_same, get_or-set_other}
use lib.Pow.{shl_exact, shl-shr}
use borrow.Author.Tests.{eq-eqb, ne_eqb, eqb-true}
use Rattle.store.specs.declared.Layout.{Layout}
use Rattle.store.specs.Header.{word, lacks, alone}
use Rattle.store.specs.Filter.{hash_of, bit_of, with_bit, met, meet, Noted}
use Rattle.store.proofs.Search.{no_bool, every_all}

-- ---- digits of x | y
or_digit : (x y j : ℕ) → bit_or x y / 2 ^ j % 2 ≡ bit_or (x / 2 ^ j % 2) (y / 2 ^ j % 2)
or_digit x y j = ap (λ (m : ℕ). m % 2) (or_shr x y j) ∙ or_mod (x / 2 ^ j) (y / 2 ^ j) 1

or_one : (d : ℕ) → d < 2 → (bit_or d 1 ≡ 1) × (bit_or 1 d ≡ 1)
or_one zero h = (refl, refl)
or_one (suc zero) h = (refl, refl)
or_one (suc (suc d)) h = absurd (not-suc-le-zero (le_of_suc-le-suc (le_of_suc-le-suc h)))

digit_lt : (x j : ℕ) → x / 2 ^ j % 2 < 2
digit_lt x j = mod-lt (x / 2 ^ j) (lit< tt)

or_set : (x j : ℕ) → bit_or x (2 ^ j) / 2 ^ j % 2 ≡ 1
or_set x j =
    let e : 2 ^ j / 2 ^ j % 2 ≡ 1 = ap (λ (m : ℕ). m / 2 ^ j % 2) (sym (one-mul (2 ^ j))) ∙ ap (λ (m : ℕ). m % 2) (shl-shr 1 j) in
    or_digit x (2 ^ j) j ∙ ap (λ (m : ℕ). bit_or (x / 2 ^ j % 2) m) e ∙ (or_one (x / 2 ^ j % 2) (digit_lt x j)).0

or_kept : (x y j : ℕ) → x / 2 ^ j % 2 ≡ 1 → bit_or x y / 2 ^ j % 2 ≡ 1
or_kept x y j e = or_digit x y j ∙ ap (λ (m : ℕ). bit_or m (y / 2 ^ j % 2)) e ∙ (or_one (y / 2 ^ j % 2) (digit_lt y j)).1

-- ---- bits of the filter
module _ (m : List ℕ) (k : ℕ) (h : k % 8 < length m) where
  bit_set : bit_of (with_bit m k) k ≡ 1
  bit_set = ap (λ (x : ℕ). x / 2 ^ (k / 8) % 2) (get_or-set_same m (k % 8) (bit_or (get_or m (k % 8) 0) (2 ^ (k / 8))) 0 h) ∙ or_set (get_or m (k % 8) 0) (k / 8)

  bit_kept : (j : ℕ) → bit_of m j ≡ 1 → bit_of (with_bit m k) j ≡ 1
  bit_kept j e = go (ℕ_discrete (j % 8) (k % 8))
    where
      go : Dec (j % 8 ≡ k % 8) → bit_of (with_bit m k) j ≡ 1
      go (yes q) =
          ap (λ (i : ℕ). get_or (with_bit m k) i 0 / 2 ^ (j / 8) % 2) q
          ∙ ap (λ (x : ℕ). x / 2 ^ (j / 8) % 2) (get_or-set_same m (k % 8) (bit_or (get_or m (k % 8) 0) (2 ^ (k / 8))) 0 h)
          ∙ or_kept (get_or m (k % 8) 0) (2 ^ (k / 8)) (j / 8) (ap (λ (i : ℕ). get_or m i 0 / 2 ^ (j / 8) % 2) (sym q) ∙ e)
      go (no q) = ap (λ (x : ℕ). x / 2 ^ (j / 8) % 2) (get_or-set_other m (k % 8) (j % 8) _ 0 q) ∙ e

-- ---- words
module _ (m : List ℕ) (room : length m ≡ 8) (w : ℕ) where
  index : (k : ℕ) → k % 8 < length m
  index k = omega arith

  pub meet_room : length (meet m w) ≡ 8
  unfolding meet
  meet_room = go (met m w)
    where
      go : (b : Bool) → length (cond b m (with_bit m (hash_of w))) ≡ 8
      go true = room
      go false = length-set m (hash_of w % 8) _ ∙ room

  pub met_now : met (meet m w) w ≡ true
  unfolding met meet
  met_now = go (met m w) refl
    where
      go : (b : Bool) → met m w ≡ b → met (cond b m (with_bit m (hash_of w))) w ≡ true
      go true e = e
      go false e = eq-eqb _ _ (bit_set m (hash_of w) (index (hash_of w)))

  pub met_still : (v : ℕ) → met m v ≡ true → met (meet m w) v ≡ true
  unfolding met meet
  met_still v t = go (met m w)
    where
      go : (b : Bool) → met (cond b m (with_bit m (hash_of w))) v ≡ true
      go true = t
      go false = eq-eqb _ _ (bit_kept m (hash_of w) (index (hash_of w)) (hash_of v) (eqb-true _ _ t))

-- ---- the invariant, in the form of the code's needs
pub noted_none : (l : Layout) (h : List ℕ) → Noted l h (replicate 8 0) 0
noted_none l h = record { room = refl; marks = λ b k. absurd (not-suc-le-zero k) }

module _ (l : Layout) (h m : List ℕ) (a w : ℕ) (e : w ≡ word l h a) (f : Noted l h m a) where
  step : (n : List ℕ) → length n ≡ 8 → ((v : ℕ) → met m v ≡ true → met n v ≡ true) → (w ≢ 0 → met n w ≡ true) → Noted l h n (a + 1)
  step n r keep now = record { room = r; marks = λ b k. at b k (ℕ_discrete b a) }
    where
      at : (b : ℕ) → b < a + 1 → Dec (b ≡ a) → word l h b ≢ 0 → met n (word l h b) ≡ true
      at b k (yes q) z =
          let p : word l h b ≡ w = ap (word l h) q ∙ sym e in
          ap (met n) p ∙ now (λ y. z (p ∙ y))
      at b k (no q) z = keep (word l h b) (f.marks b (omega arith) z)

  -- an unused word is not marked
  pub noted_zero : w ≡ 0 → Noted l h m (a + 1)
  noted_zero z = step m f.room (λ v t. t) (λ n. absurd (n z))

  pub noted_more : (n : List ℕ) → n ≡ meet m w → Noted l h n (a + 1)
  noted_more n q =
      step n (ap length q ∙ meet_room m f.room w)
      (λ v t. ap (λ (x : List ℕ). met x v) q ∙ met_still m f.room w v t)
      (λ z. ap (λ (x : List ℕ). met x w) q ∙ met_now m f.room w)

  -- a word whose bit is clear is new for sure
  pub new_alone : w ≢ 0 → met m w ≡ false → alone l h w a ≡ true
  unfolding alone lacks
  new_alone z c = every_all (lacks l h w) a 0 (λ b i k. ap not (ne_eqb _ _ (apart b (omega arith))))
    where
      apart : (b : ℕ) → b < a → word l h b ≢ w
      apart b k q = no_bool (sym c ∙ ap (met m) (sym q) ∙ f.marks b k (λ y. z (sym q ∙ y)))

-- ---- the code's own steps: the bit is set exactly if setting it changes nothing
one_shifted : (k : ℕ) → k < 64 → 1 * 2 ^ k % 2 ^ 64 ≡ 2 ^ k
one_shifted k h = shl_exact 1 k 64 (lit< tt) (omega arith) ∙ one-mul (2 ^ k)

and_bit : (x k : ℕ) → bit_and x (2 ^ k) ≡ (x / 2 ^ k % 2) * 2 ^ k
and_bit x k =
    let e : 2 ^ k ≡ 2 ^ (1 + k) - 2 ^ k = subst (λ (m : ℕ). 2 ^ k ≡ 2 ^ m - 2 ^ k) (sym (one-add k)) (omega (arith, pow-suc 2 k)) in
    ap (λ (m : ℕ). bit_and x m) e ∙ and_high x 1 k

or_same : (x k : ℕ) → x / 2 ^ k % 2 ≡ 1 → bit_or x (2 ^ k) ≡ x
or_same x k e = omega (arith, or_add_and x (2 ^ k), and_bit x k ∙ ap (λ (d : ℕ). d * 2 ^ k) e)

module _ (m : List ℕ) (w k : ℕ) (e : k ≡ hash_of w) (l : k < 512) where
  bit_is : 1 * 2 ^ (k / 8) % 2 ^ 64 ≡ 2 ^ (k / 8)
  bit_is = one_shifted (k / 8) (omega arith)

  module _ (p : bit_or (get_or m (k % 8) 0) (1 * 2 ^ (k / 8) % 2 ^ 64) ≡ get_or m (k % 8) 0) where
    pub note_met : true ≡ met m w
    unfolding met
    note_met =
        let x = get_or m (k % 8) 0 in
        let q : bit_of m k ≡ 1 = ap (λ (y : ℕ). y / 2 ^ (k / 8) % 2) (sym p ∙ ap (bit_or x) bit_is) ∙ or_set x (k / 8) in
        sym (eq-eqb _ _ (ap (bit_of m) (sym e) ∙ q))

    pub note_same : m ≡ meet m w
    unfolding meet
    note_same = sym (simp (sym note_met))

  module _ (p : bit_or (get_or m (k % 8) 0) (1 * 2 ^ (k / 8) % 2 ^ 64) ≡ get_or m (k % 8) 0 → ⊥) where
    pub note_new : false ≡ met m w
    unfolding met
    note_new =
        let x = get_or m (k % 8) 0 in
        sym (ne_eqb _ _ (λ z. p (ap (bit_or x) bit_is ∙ or_same x (k / 8) (ap (bit_of m) e ∙ z))))

    pub note_set : set m (k % 8) (bit_or (get_or m (k % 8) 0) (1 * 2 ^ (k / 8) % 2 ^ 64)) ≡ meet m w
    unfolding meet
    note_set = ap (λ (x : ℕ). set m (k % 8) (bit_or (get_or m (k % 8) 0) x)) bit_is ∙ ap (with_bit m) e ∙ sym (simp (sym note_new))
