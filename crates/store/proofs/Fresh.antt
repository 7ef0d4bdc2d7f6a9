-- A fresh store is well formed, whatever its layout. Assumes nothing.
use mathlib.Core.Path.{◌≡◌, ap, ◌∙◌}
use mathlib.Core.Bool.{true, false, ◌&&◌}
use mathlib.Core.List.{List}
use Prim.Native.Nat.{ℕ, ◌+◌, ◌*◌}
use native.Mathlib.Omega.{arith}
use lib.Dec.{eqb}
use lib.ListN.{length}
use borrow.Author.Tests.{eq-eqb}
use Rattle.octets.specs.Bytes.{be, zeros}
use Rattle.octets.specs.Bits.{bit, bits}
use Rattle.octets.proofs.Bytes.{length_zeros, zeros_part}
use Rattle.octets.proofs.Bits.{bit_zeros, bits_none}
use Rattle.octets.proofs.Numbers.{be_zeros}
use Rattle.store.specs.declared.Layout.{Layout}
use Rattle.store.specs.Layout.{Sound}
use Rattle.store.specs.Header.{header, outside, offered, capabilities_of, is_taken, word_at, word, head_good, words_good}
use Rattle.store.specs.Store.{well_formed, fresh}
use Rattle.store.proofs.Frame.{well_formed_lem}
use Rattle.store.proofs.Kept.{words_good_lem}

module _ (l : Layout) (so : Sound l) where
  abbrev top : List ℕ
  top = zeros l.guests_at

  fresh_header : header l (fresh l) ≡ top
  unfolding header fresh
  fresh_header = zeros_part l.size 0 l.guests_at (omega (arith, so.guests_fit, so.whole))

  no_bits : (a n : ℕ) → bits top a n ≡ 0
  no_bits a n = bits_none top a n (λ k q. bit_zeros l.guests_at (a + k))

  pub fresh_word : (i : ℕ) → word l (header l (fresh l)) i ≡ 0
  unfolding word
  fresh_word i = ap (λ (h : List ℕ). bits h (word_at l i) l.width) fresh_header ∙ no_bits (word_at l i) l.width

  pub fresh_taken : (i : ℕ) → is_taken l (header l (fresh l)) i ≡ false
  unfolding is_taken
  fresh_taken i =
      ap (λ (h : List ℕ). eqb (bit h (8 * l.taken_at + i)) 1) fresh_header
      ∙ ap (λ (x : ℕ). eqb x 1) (bit_zeros l.guests_at (8 * l.taken_at + i))

  pub fresh_capabilities : capabilities_of (header l (fresh l)) ≡ 0
  unfolding capabilities_of
  fresh_capabilities = ap (λ (h : List ℕ). be h 0 8) fresh_header ∙ be_zeros l.guests_at 0 8

  fresh_head : head_good l (header l (fresh l)) ≡ true
  unfolding head_good
  fresh_head =
      ap (λ (c : ℕ). eqb (outside offered c) 0 && eqb (bits (header l (fresh l)) (64 + l.guests) l.zeros) 0) fresh_capabilities
      ∙ eq-eqb _ _ (ap (λ (h : List ℕ). bits h (64 + l.guests) l.zeros) fresh_header ∙ no_bits (64 + l.guests) l.zeros)

  fresh_words : words_good l (header l (fresh l)) ≡ true
  fresh_words = words_good_lem l (header l (fresh l)) (record {
    good = λ a k n. absurd (n (fresh_word a));
    sole = λ a b k m n. absurd (n (fresh_word a));
    idle = λ a k z. fresh_taken a;
  })

  fresh_long : length (fresh l) ≡ l.size
  unfolding fresh
  fresh_long = length_zeros l.size

  pub fresh_good : well_formed l (fresh l) ≡ true
  fresh_good = well_formed_lem l (fresh l) (record { long = fresh_long; head = fresh_head; words = fresh_words })
