-- Where values lie, of a guest and of a slot alike. Assumes nothing.
use mathlib.Core.Path.{◌≡◌, refl, sym}
use mathlib.Core.Bool.{Bool, true, false}
use Prim.Native.Nat.{ℕ, ◌+◌, ◌≤◌}
use native.Mathlib.Omega.{arith}
use native.Mathlib.Decide.{ℕ_discrete}
use Rattle.octets.specs.Bytes.{Clear, left, right}
use Rattle.store.specs.declared.Layout.{Layout}
use Rattle.store.specs.Layout.{Sound}
use Rattle.store.proofs.Search.{no_bool}
use Rattle.store.specs.Conversion.{Within}
use Rattle.promises.specs.Mirror.{place_of, room_of, Inside}
use Rattle.promises.proofs.States.{slots_apart, guests_apart}

-- the same values, or others
abbrev pub Other : Bool → ℕ → Bool → ℕ → Type 0
Other wide i x k = wide ≡ x → i ≡ k → ⊥

pub data Compared (wide : Bool) (i : ℕ) (x : Bool) (k : ℕ) : Type 0 where
  same : wide ≡ x → i ≡ k → Compared wide i x k
  other : Other wide i x k → Compared wide i x k

numbers : (wide : Bool) (i k : ℕ) → Dec (i ≡ k) → Compared wide i wide k
numbers wide i k (yes e) = same refl e
numbers wide i k (no n) = other (λ w e. n e)

pub compared : (wide : Bool) (i : ℕ) (x : Bool) (k : ℕ) → Compared wide i x k
compared true i true k = numbers true i k (ℕ_discrete i k)
compared false i false k = numbers false i k (ℕ_discrete i k)
compared true i false k = other (λ w e. no_bool (sym w))
compared false i true k = other (λ w e. no_bool w)

pub inside_more : (l m : Layout) → Within l m → (wide : Bool) (i : ℕ) → Inside l wide i → Inside m wide i
inside_more l m w true i h = (h.0, omega (arith, h.1, w.guests))
inside_more l m w false i h = omega (arith, h, w.slots)

module _ (l : Layout) (so : Sound l) where
  pub place_from : (wide : Bool) (i : ℕ) → l.guests_at ≤ place_of l wide i
  place_from true i = omega arith
  place_from false i = omega (arith, so.guests_fit)

  pub place_room : (wide : Bool) (i : ℕ) → Inside l wide i → place_of l wide i + room_of wide ≤ l.size
  place_room true i h = omega (arith, h.0, h.1, so.guests_fit, so.whole)
  place_room false i h = omega (arith, h, so.whole)

  pub places_apart : (wide : Bool) (i : ℕ) (x : Bool) (k : ℕ) → Inside l wide i → Inside l x k → Other wide i x k → Clear (place_of l wide i) (room_of wide) (place_of l x k) (room_of x)
  places_apart true i false k h h' n = left (omega (arith, h.0, h.1, so.guests_fit))
  places_apart false i true k h h' n = right (omega (arith, h'.0, h'.1, so.guests_fit))
  places_apart true i true k h h' n = guests_apart l i k h.0 h'.0 (n refl)
  places_apart false i false k h h' n = slots_apart l i k (n refl)
