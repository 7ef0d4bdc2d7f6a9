-- What taking and giving back leave as it was: the lengths, and what lies beside the state. Assumes nothing.
use mathlib.Core.Path.{◌≡◌, refl, sym, ap, ◌∙◌, subst}
use mathlib.Core.Bool.{Bool, true, false}
use mathlib.Core.List.{List}
use Prim.Native.Nat.{ℕ}
use native.Mathlib.Omega.{arith}
use lib.ListN.{length}
use Rattle.octets.specs.Bytes.{bytes_at, put, zeros, Clear}
use Rattle.octets.proofs.Bytes.{length_put, length_zeros, read_other}
use Rattle.handover.specs.Form.{state_bytes, count, form, begins, values_of, state_at, taken, Given, given_back}
use Rattle.handover.proofs.Values.{place_none, place_all_lem}
use Rattle.handover.proofs.Theorems.{given_long, begins_parts, accepted_store, refused_store}

-- a list as long as a state, put in its place
put_beside : (s v : List ℕ) (base j n : ℕ) → length v ≡ state_bytes → Clear base state_bytes j n → bytes_at (put s base v) j n ≡ bytes_at s j n
put_beside s v base j n l c = read_other s base v j n (subst (λ (k : ℕ). Clear base k j n) (sym l) c)

pub values_long : (vcpu : ℕ) (b : List ℕ) → begins vcpu b ≡ true → length (values_of b) ≡ state_bytes
values_long vcpu b t = omega (arith, given_long b count 0 24 (begins_parts vcpu b t).2, place_all_lem, place_none)

module _ (vcpu base : ℕ) (s b : List ℕ) where
  pub taken_store_long : length (taken vcpu base s b).store ≡ length s
  unfolding taken
  taken_store_long = length_put s base (zeros state_bytes)

  pub taken_buffer_long : length (taken vcpu base s b).buffer ≡ length b
  unfolding taken
  taken_buffer_long = length_put b 0 (form vcpu (state_at s base))

  pub taken_beside : (j n : ℕ) → Clear base state_bytes j n → bytes_at (taken vcpu base s b).store j n ≡ bytes_at s j n
  unfolding taken
  taken_beside j n = put_beside s (zeros state_bytes) base j n (length_zeros state_bytes)

  pub given_store_long : length (given_back vcpu base s b).store ≡ length s
  given_store_long = go (begins vcpu b) refl
    where
      go : (t : Bool) → begins vcpu b ≡ t → length (given_back vcpu base s b).store ≡ length s
      go true t = ap (λ (g : Given). length g.store) (accepted_store vcpu base s b t) ∙ length_put s base (values_of b)
      go false t = ap (λ (g : Given). length g.store) (refused_store vcpu base s b t)

  pub given_beside : (j n : ℕ) → Clear base state_bytes j n → bytes_at (given_back vcpu base s b).store j n ≡ bytes_at s j n
  given_beside j n c = go (begins vcpu b) refl
    where
      go : (t : Bool) → begins vcpu b ≡ t → bytes_at (given_back vcpu base s b).store j n ≡ bytes_at s j n
      go true t = ap (λ (g : Given). bytes_at g.store j n) (accepted_store vcpu base s b t) ∙ put_beside s (values_of b) base j n (values_long vcpu b t) c
      go false t = ap (λ (g : Given). bytes_at g.store j n) (refused_store vcpu base s b t)
