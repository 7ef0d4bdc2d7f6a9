-- The values of two stores after both were written at one guest or slot. Assumes nothing.
use mathlib.Core.Path.{◌≡◌, sym, ap, ◌∙◌, subst}
use mathlib.Core.Bool.{Bool}
use mathlib.Core.List.{List}
use Prim.Native.Nat.{ℕ}
use native.Mathlib.Omega.{arith}
use lib.ListN.{length}
use Rattle.octets.specs.Bytes.{bytes_at, put, Clear}
use Rattle.octets.proofs.Bytes.{read_back, read_other}
use Rattle.elements.specs.Right.{bytes_of}
use Rattle.rules.specs.declared.Context.{Context}
use Rattle.rules.specs.Rules.{scope_for}
use Rattle.gsb.specs.Walk.{count_of, first_bad}
use Rattle.store.specs.declared.Layout.{Layout}
use Rattle.store.specs.Layout.{Sound}
use Rattle.transfer.specs.Transfer.{applied}
use Rattle.transfer.proofs.Named.{beside}
use Rattle.store.specs.Conversion.{Within}
use Rattle.store.proofs.Edited.{Edited}
use Rattle.promises.specs.Mirror.{place_of, room_of, Inside, values_in}
use Rattle.promises.proofs.Both.Windows.{applied_both}
use Rattle.promises.proofs.Both.Places.{Other, Compared, same, other, compared, inside_more, place_from, place_room, places_apart}
use Rattle.std.proofs.Common.{Ok}

abbrev pub Values : Layout → Layout → List ℕ → List ℕ → Type 0
Values l m s t = (x : Bool) (k : ℕ) → Inside l x k → values_in m t x k ≡ values_in l s x k

-- u is s but for the values of guest or slot i
abbrev pub Beside : Layout → Bool → ℕ → List ℕ → List ℕ → Type 0
Beside l wide i s u = (x : Bool) (k : ℕ) → Inside l x k → Other wide i x k → values_in l u x k ≡ values_in l s x k

module _ (l m : Layout) (within : Within l m) where
  pub values_both : (wide : Bool) (i : ℕ) (s t u v : List ℕ) → Values l m s t → Beside l wide i s u → Beside m wide i t v → values_in m v wide i ≡ values_in l u wide i → Values l m u v
  values_both wide i s t u v f a b here x k h = go (compared wide i x k)
    where
      go : Compared wide i x k → values_in m v x k ≡ values_in l u x k
      go (same w e) = subst (λ (y : Bool). values_in m v y k ≡ values_in l u y k) w (subst (λ (n : ℕ). values_in m v wide n ≡ values_in l u wide n) e here)
      go (other n) = b x k (inside_more l m within x k h) n ∙ f x k h ∙ sym (a x k h n)

  -- live bits or slot words written on both
  pub values_edited : Sound l → Sound m → (s t u v : List ℕ) → Values l m s t → Edited l s u → Edited m t v → Values l m u v
  values_edited so so' s t u v f a b x k h =
      b.behind (place_of m x k) (room_of x) (place_from m so' x k) (place_room m so' x k (inside_more l m within x k h)) ∙ f x k h
      ∙ sym (a.behind (place_of l x k) (room_of x) (place_from l so x k) (place_room l so x k h))

-- ---- one guest or slot written
module _ (l : Layout) (so : Sound l) (s : List ℕ) (long : length s ≡ l.size) (wide : Bool) (i : ℕ) (inside : Inside l wide i) where
  pub put_beside : (w : List ℕ) → length w ≡ room_of wide → Beside l wide i s (put s (place_of l wide i) w)
  put_beside w e x k h n =
      read_other s (place_of l wide i) w (place_of l x k) (room_of x) (subst (λ (z : ℕ). Clear (place_of l wide i) z (place_of l x k) (room_of x)) (sym e) (places_apart l so wide i x k inside h n))

  pub put_here : (w : List ℕ) → length w ≡ room_of wide → values_in l (put s (place_of l wide i) w) wide i ≡ w
  put_here w e =
      ap (bytes_at (put s (place_of l wide i) w) (place_of l wide i)) (sym e) ∙ read_back s (place_of l wide i) w (omega (arith, e, long, place_room l so wide i inside))

  pub applied_beside : (c : Context) (b : List ℕ) → first_bad c b ≡ Ok tt → bytes_of (scope_for c.usage) ≡ room_of wide → Beside l wide i s (applied (place_of l wide i) b (count_of b) s)
  applied_beside c b d e x k h n =
      beside c (place_of l wide i) b d s (place_of l x k) (room_of x)
      (subst (λ (z : ℕ). Clear (place_of l wide i) z (place_of l x k) (room_of x)) (sym e) (places_apart l so wide i x k inside h n))

module _ (l m : Layout) (so : Sound l) (so' : Sound m) (within : Within l m) (s t : List ℕ) (long : length s ≡ l.size) (long' : length t ≡ m.size) (f : Values l m s t)
    (wide : Bool) (i : ℕ) (inside : Inside l wide i) where
  -- the same bytes written
  pub values_put : (w : List ℕ) → length w ≡ room_of wide → Values l m (put s (place_of l wide i) w) (put t (place_of m wide i) w)
  values_put w e =
      let inside' = inside_more l m within wide i inside in
      values_both l m within wide i s t _ _ f (put_beside l so s long wide i inside w e) (put_beside m so' t long' wide i inside' w e)
      (put_here m so' t long' wide i inside' w e ∙ sym (put_here l so s long wide i inside w e))

  -- the same buffer stored
  pub values_applied : (c : Context) (b : List ℕ) → first_bad c b ≡ Ok tt → bytes_of (scope_for c.usage) ≡ room_of wide
      → Values l m (applied (place_of l wide i) b (count_of b) s) (applied (place_of m wide i) b (count_of b) t)
  values_applied c b d e =
      let inside' = inside_more l m within wide i inside in
      values_both l m within wide i s t _ _ f (applied_beside l so s long wide i inside c b d e) (applied_beside m so' t long' wide i inside' c b d e)
      (subst (λ (n : ℕ). bytes_at (applied (place_of m wide i) b (count_of b) t) (place_of m wide i) n ≡ bytes_at (applied (place_of l wide i) b (count_of b) s) (place_of l wide i) n) e
      (applied_both c b d (place_of l wide i) (place_of m wide i) (count_of b) (omega arith) s t
      (subst (λ (n : ℕ). bytes_at t (place_of m wide i) n ≡ bytes_at s (place_of l wide i) n) (sym e) (f wide i inside))))
