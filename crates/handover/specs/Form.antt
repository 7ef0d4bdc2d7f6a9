-- 02, L1, "Hand over a parked vCPU": the form of a state, the buffers that begin with one, and what taking a state and giving it back do.
use Rattle.std.specs.Prelude.{ℕ, zero, suc, ◌+◌, ◌*◌, ◌^◌, ◌<◌, ◌≡◌, Bool, true, false, not, ◌&&◌, ◌||◌, cond, List, [], ◌∷◌, ◌++◌, eqb, leb, length, get_or}
use Rattle.octets.specs.Bytes.{bytes_at, put, digits, zeros}
use Rattle.octets.specs.Bits.{bit, bits}
use Rattle.elements.specs.Table.{thread_element}

-- ---- a state
-- 01, "The store": "1,820 bytes per slot", the values of "the 170 thread elements in order of ID"
abbrev pub state_bytes : ℕ
state_bytes = 1820

abbrev pub count : ℕ
count = 170

pub record State (v : List ℕ) : Type 0 where
  pub long : length v ≡ state_bytes
  pub bytes : (k : ℕ) → get_or v k 0 < 256

-- the value of thread element e, of the size and at the position that the table of elements gives
unfoldable pub size : ℕ → ℕ
size e = (thread_element e).size

abbrev pub value : List ℕ → ℕ → List ℕ
value v e = bytes_at v (thread_element e).position (size e)

-- "the values that are not all zero"
unfoldable pub is_zero : List ℕ → Bool
is_zero [] = true
is_zero (a ∷ x) = eqb a 0 && is_zero x

abbrev pub present : List ℕ → ℕ → Bool
present v e = not (is_zero (value v e))

-- ---- its form
-- "presence bits in order of ID": those of the n elements from e on, as a number of n bits
unfoldable pub presence : (ℕ → Bool) → ℕ → ℕ → ℕ
presence p e zero = 0
presence p e (suc n) = presence p e n * 2 + cond (p (e + n)) 1 0

-- "bits packed most significant first": the number x, and behind its bits the n bits of y
abbrev pub behind : ℕ → ℕ → ℕ → ℕ
behind x n y = x * 2 ^ n + y

-- "version 1 (4 bits), vCPU id (11), a zero, 170 presence bits in order of ID, six zeros": 192 bits, 24 bytes; m is the presence bits
unfoldable pub head : ℕ → ℕ → List ℕ
head vcpu m = digits 24 (behind (behind (behind (behind (behind 0 4 1) 11 vcpu) 1 0) 170 m) 6 0)

-- "then the values that are not all zero, in that order": those of the n elements from e on
unfoldable pub kept : List ℕ → List ℕ
kept x = cond (is_zero x) [] x

unfoldable pub body : List ℕ → ℕ → ℕ → List ℕ
body v e zero = []
body v e (suc n) = kept (value v e) ++ body v (e + 1) n

unfoldable pub form : ℕ → List ℕ → List ℕ
form vcpu v = head vcpu (presence (present v) 0 count) ++ body v 0 count

-- ---- "17 .. where the bytes do not begin with a form of this vCPU"
-- they begin with one if it and further bytes make them
pub record StartsWith (vcpu : ℕ) (v b : List ℕ) : Type 0 where
  pub state : State v
  pub rest : List ℕ
  pub whole : b ≡ form vcpu v ++ rest

-- as it is tested, value by value: the presence bit of element e
unfoldable pub is_shown : List ℕ → ℕ → Bool
is_shown b e = eqb (bit b (16 + e)) 1

-- element e, whose value is at `at` if it is present: where the next value is; its own, absent ones being zero; and whether it lies inside
-- the buffer and is not all zero
unfoldable pub next : List ℕ → ℕ → ℕ → ℕ
next b e at = at + cond (is_shown b e) (size e) 0

unfoldable pub read : List ℕ → ℕ → ℕ → List ℕ
read b e at = cond (is_shown b e) (bytes_at b at (size e)) (zeros (size e))

unfoldable pub sound : List ℕ → ℕ → ℕ → Bool
sound b e at = not (is_shown b e) || (leb (at + size e) (length b) && not (is_zero (bytes_at b at (size e))))

-- of the n elements from e on: whether all are sound, and what their values are
unfoldable pub holds : List ℕ → ℕ → ℕ → ℕ → Bool
holds b e zero at = true
holds b e (suc n) at = sound b e at && holds b (e + 1) n (next b e at)

unfoldable pub given : List ℕ → ℕ → ℕ → ℕ → List ℕ
given b e zero at = []
given b e (suc n) at = read b e at ++ given b (e + 1) n (next b e at)

-- "version 1 (4 bits), vCPU id (11), a zero", "six zeros"
unfoldable pub opens : ℕ → List ℕ → Bool
opens vcpu b = eqb (bits b 0 4) 1 && (eqb (bits b 4 11) vcpu && (eqb (bits b 15 1) 0 && eqb (bits b 186 6) 0))

unfoldable pub begins : ℕ → List ℕ → Bool
begins vcpu b = leb 24 (length b) && (opens vcpu b && holds b 0 count 24)

abbrev pub values_of : List ℕ → List ℕ
values_of b = given b 0 count 24

-- ---- taking and giving back, the state being the bytes from `base` on of the store s
abbrev pub state_at : List ℕ → ℕ → List ℕ
state_at s base = bytes_at s base state_bytes

-- the form stands first in the buffer b and "the rest of the buffer stays"; "A taken vCPU's values are zeroed."
pub record Taken : Type 0 where
  pub store : List ℕ
  pub buffer : List ℕ

unfoldable pub taken : ℕ → ℕ → List ℕ → List ℕ → Taken
taken vcpu base s b = record { store = put s base (zeros state_bytes); buffer = put b 0 (form vcpu (state_at s base)) }

-- the values of the form are stored, absent ones as zero; a buffer that does not begin with a form changes nothing
pub record Given : Type 0 where
  pub accepted : Bool
  pub store : List ℕ

unfoldable pub given_back : ℕ → ℕ → List ℕ → List ℕ → Given
given_back vcpu base s b =
    cond (begins vcpu b) (record { accepted = true; store = put s base (values_of b) }) (record { accepted = false; store = s })
