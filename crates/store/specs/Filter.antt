-- The filter of `words_filtered`: 512 bits in 8 numbers, one for each hash of a word. Names that only the contracts of private functions use.
use Rattle.std.specs.Prelude.{ℕ, ◌+◌, ◌*◌, ◌/◌, ◌%◌, ◌^◌, ◌<◌, ◌≡◌, ◌≢◌, Bool, true, cond, List, eqb, length, get_or, set}
use Rattle.std.specs.Int.Bits.{bit_or}
use Rattle.store.specs.declared.Layout.{Layout}
use Rattle.store.specs.Header.{word, slot_good}

-- any function below 512 would do; this one has few collisions among vCPU ids that follow one another
unfoldable pub hash_of : ℕ → ℕ
hash_of w = (w + w / 2048 * 35) % 512

-- the bit of hash k
abbrev pub bit_of : List ℕ → ℕ → ℕ
bit_of m k = get_or m (k % 8) 0 / 2 ^ (k / 8) % 2

abbrev pub with_bit : List ℕ → ℕ → List ℕ
with_bit m k = set m (k % 8) (bit_or (get_or m (k % 8) 0) (2 ^ (k / 8)))

-- the word w may have been met, and the filter once it is
unfoldable pub met : List ℕ → ℕ → Bool
met m w = eqb (bit_of m (hash_of w)) 1

unfoldable pub meet : List ℕ → ℕ → List ℕ
meet m w = cond (met m w) m (with_bit m (hash_of w))

-- every used word before a has its bit set in the filter m, which has 8 numbers
pub record Noted (l : Layout) (h m : List ℕ) (a : ℕ) : Type 0 where
  pub room : length m ≡ 8
  pub marks : (b : ℕ) → b < a → word l h b ≢ 0 → met m (word l h b) ≡ true

-- what the test of slot a leaves, if its answer is r
pub record Tested (l : Layout) (h m : List ℕ) (a : ℕ) (r : Bool) : Type 0 where
  pub good : r ≡ slot_good l h a
  pub noted : r ≡ true → Noted l h m (a + 1)
