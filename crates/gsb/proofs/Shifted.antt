-- Elements that stand in another buffer as they stand in their own, `d` bytes further on. Assumes nothing.
use mathlib.Core.Path.{◌≡◌, refl, sym, ap, ap₂, ◌∙◌}
use mathlib.Core.List.{List, [], ◌∷◌, ◌++◌, append_assoc, append-nil}
use Prim.Native.Nat.{ℕ, zero, suc, ◌+◌, ◌-◌, ◌≤◌, ◌<◌}
use native.Mathlib.Omega.{arith}
use Rattle.octets.specs.Bytes.{bytes_at, be}
use Rattle.octets.proofs.Bytes.{part_of_part}
use Rattle.octets.proofs.Numbers.{be_part}
use Rattle.gsb.specs.Walk.{id_at, size_at, next_at, offset_at}
use Rattle.gsb.specs.Message.{elements_in}
use Rattle.gsb.proofs.Walks.{offset_start, offset_suc, offset_low, offset_up}

-- ---- the list of the elements, one more
pub elements_none : (b : List ℕ) → elements_in b 0 ≡ []
unfolding elements_in
elements_none b = refl

pub elements_more : (b : List ℕ) (n : ℕ) → elements_in b (suc n) ≡ elements_in b n ++ ((id_at b (offset_at b n), bytes_at b (offset_at b n + 4) (size_at b (offset_at b n))) ∷ [])
unfolding elements_in
elements_more b n = refl

-- ---- n bytes of j from 4 + d on are those of b from 4 on
module _ (j b : List ℕ) (d n : ℕ) (same : bytes_at j (4 + d) n ≡ bytes_at b 4 n) where
  module _ (at m : ℕ) (low : 4 ≤ at) (high : at + m ≤ 4 + n) where
    there : at + d ≡ 4 + d + (at - 4)
    there = omega arith

    here : 4 + (at - 4) ≡ at
    here = omega arith

    part_alike : bytes_at j (at + d) m ≡ bytes_at b at m
    part_alike =
        ap (λ (x : ℕ). bytes_at j x m) there ∙ sym (part_of_part j (4 + d) n (at - 4) m (omega arith)) ∙ ap (λ (x : List ℕ). bytes_at x (at - 4) m) same
        ∙ part_of_part b 4 n (at - 4) m (omega arith) ∙ ap (λ (x : ℕ). bytes_at b x m) here

    number_alike : be j (at + d) m ≡ be b at m
    number_alike =
        ap (λ (x : ℕ). be j x m) there ∙ sym (be_part j (4 + d) n (at - 4) m (omega arith)) ∙ ap (λ (x : List ℕ). be x (at - 4) m) same
        ∙ be_part b 4 n (at - 4) m (omega arith) ∙ ap (λ (x : ℕ). be b x m) here

  -- element c of j starts there, and those n bytes hold the first m elements of b
  module _ (c m : ℕ) (start : offset_at j c ≡ 4 + d) (fits : offset_at b m ≤ 4 + n) where
    ended : (i : ℕ) → i < m → next_at b (offset_at b i) ≤ 4 + n
    ended i h = omega (arith, offset_up b (suc i) m h, offset_suc b i)

    sized : (i : ℕ) → i < m → size_at j (offset_at b i + d) ≡ size_at b (offset_at b i)
    sized i h =
        let z : offset_at b i + d + 2 ≡ offset_at b i + 2 + d = omega arith in
        ap (λ (x : ℕ). be j x 2) z ∙ number_alike (offset_at b i + 2) 2 (omega (arith, offset_low b i)) (omega (arith, ended i h))

    pub shift_offset : (i : ℕ) → i ≤ m → offset_at j (c + i) ≡ offset_at b i + d
    shift_offset zero h =
        let z : c + 0 ≡ c = omega arith in
        ap (offset_at j) z ∙ start ∙ omega (arith, offset_start b)
    shift_offset (suc i) h =
        let z : c + suc i ≡ suc (c + i) = omega arith in
        let ih : offset_at j (c + i) ≡ offset_at b i + d = shift_offset i (omega arith) in
        ap (offset_at j) z ∙ offset_suc j (c + i) ∙ ap (next_at j) ih ∙ omega (arith, sized i (omega arith), offset_suc b i)

    module _ (i : ℕ) (h : i < m) where
      at : offset_at j (c + i) ≡ offset_at b i + d
      at = shift_offset i (omega arith)

      pub shift_id : id_at j (offset_at j (c + i)) ≡ id_at b (offset_at b i)
      shift_id = ap (id_at j) at ∙ number_alike (offset_at b i) 2 (offset_low b i) (omega (arith, ended i h))

      pub shift_size : size_at j (offset_at j (c + i)) ≡ size_at b (offset_at b i)
      shift_size = ap (size_at j) at ∙ sized i h

      pub shift_value : bytes_at j (offset_at j (c + i) + 4) (size_at j (offset_at j (c + i))) ≡ bytes_at b (offset_at b i + 4) (size_at b (offset_at b i))
      shift_value =
          let z : offset_at j (c + i) + 4 ≡ offset_at b i + 4 + d = omega (arith, at) in
          ap₂ (bytes_at j) z shift_size ∙ part_alike (offset_at b i + 4) (size_at b (offset_at b i)) (omega arith) (ended i h)

    -- the list of j's elements goes on with those of b
    pub shift_elements : (i : ℕ) → i ≤ m → elements_in j (c + i) ≡ elements_in j c ++ elements_in b i
    shift_elements zero h =
        let z : c + 0 ≡ c = omega arith in
        ap (elements_in j) z ∙ sym (append-nil (elements_in j c)) ∙ ap (λ (x : List (ℕ × List ℕ)). elements_in j c ++ x) (sym (elements_none b))
    shift_elements (suc i) h =
        let z : c + suc i ≡ suc (c + i) = omega arith in
        ap (elements_in j) z ∙ elements_more j (c + i)
        ∙ ap₂ (λ (xs : List (ℕ × List ℕ)) (x : ℕ × List ℕ). xs ++ (x ∷ [])) (shift_elements i (omega arith))
        (ap₂ (λ (id : ℕ) (v : List ℕ). (id, v)) (shift_id i (omega arith)) (shift_value i (omega arith)))
        ∙ append_assoc (elements_in j c) (elements_in b i) _ ∙ ap (λ (x : List (ℕ × List ℕ)). elements_in j c ++ x) (sym (elements_more b i))
