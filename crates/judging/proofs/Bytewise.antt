-- A value beside ours, and the answers of the functions below the walk, in the form of their needs. Assumes nothing.
use mathlib.Core.Path.{◌≡◌, refl, sym, ap, ap₂, ◌∙◌, subst}
use mathlib.Core.Bool.{Bool, true, false}
use mathlib.Core.List.{List, [], ◌∷◌, ◌++◌}
use Prim.Native.Nat.{ℕ, ◌+◌, ◌≤◌, ◌<◌}
use native.Mathlib.Omega.{arith}
use lib.Dec.{eqb}
use lib.ListN.{length, get_or}
use borrow.Author.Tests.{eqb-true, eqb-false}
use mir.Syntax.{w8}
use mir.Val.{Fits}
use Rattle.octets.specs.Bytes.{bytes_at, be, digits}
use Rattle.octets.proofs.Bytes.{part_append, part_one, part_none, get_or_bytes_at}
use Rattle.octets.proofs.Numbers.{digits_be, be_agree}
use Rattle.elements.specs.declared.Cell.{Cell}
use Rattle.std.specs.Prelude.{Some}
use Rattle.elements.specs.Cells.{cell_of, register_cell}
use Rattle.elements.proofs.CellLaws.{cell_known}
use Rattle.judging.specs.Judging.{same}
use Rattle.judging.proofs.Elements.{is_same, not_same}

module _ (b : List ℕ) (x : ℕ) (o : List ℕ) (y : ℕ) where
  pub same_start : bytes_at b x 0 ≡ bytes_at o y 0
  same_start = part_none b x ∙ sym (part_none o y)

  pub same_more : (i : ℕ) → bytes_at b x i ≡ bytes_at o y i → get_or b (x + i) 0 ≡ get_or o (y + i) 0 → x + i < length b → y + i < length o → bytes_at b x (i + 1) ≡ bytes_at o y (i + 1)
  same_more i e g h k =
      part_append b x i 1 ∙ ap₂ (λ (u v : List ℕ). u ++ v) e (part_one b (x + i) h ∙ ap (λ (z : ℕ). z ∷ []) g ∙ sym (part_one o (y + i) k)) ∙ sym (part_append o y i 1)

  pub same_differ : (i n : ℕ) → i < n → (get_or b (x + i) 0 ≡ get_or o (y + i) 0 → ⊥) → false ≡ same (bytes_at b x n) (bytes_at o y n)
  same_differ i n h d = sym (not_same _ _ (λ e. d (sym (get_or_bytes_at b x n i h) ∙ ap (λ (z : List ℕ). get_or z i 0) e ∙ get_or_bytes_at o y n i h)))

  pub same_end : (i n : ℕ) → bytes_at b x i ≡ bytes_at o y i → i ≤ n → n ≤ i → true ≡ same (bytes_at b x n) (bytes_at o y n)
  same_end i n e h k = let z : i ≡ n = omega arith in sym (is_same _ _ (subst (λ (m : ℕ). bytes_at b x m ≡ bytes_at o y m) z e))

  -- eight bytes by the number that they make
  pub same_eight : (n u v : ℕ) → n ≡ 8 → u ≡ be b x 8 → v ≡ be o y 8 → ((k : ℕ) → Fits w8 (get_or b k 0)) → ((k : ℕ) → Fits w8 (get_or o k 0)) → x + n ≤ length b → y + n ≤ length o
      → eqb u v ≡ same (bytes_at b x n) (bytes_at o y n)
  same_eight n u v e p q fb fo h k = go (eqb u v) refl
    where
      go : (t : Bool) → eqb u v ≡ t → eqb u v ≡ same (bytes_at b x n) (bytes_at o y n)
      go true r =
          let w : be b x 8 ≡ be o y 8 = sym p ∙ eqb-true _ _ r ∙ q in
          let d : bytes_at b x 8 ≡ bytes_at o y 8
          = sym (digits_be b x 8 (λ j l. (fb (x + j)).fits) (omega arith)) ∙ ap (digits 8) w ∙ digits_be o y 8 (λ j l. (fo (y + j)).fits) (omega arith) in
          r ∙ sym (is_same _ _ (ap (bytes_at b x) e ∙ d ∙ ap (bytes_at o y) (sym e)))
      go false r =
          r ∙ sym (not_same _ _ (λ w. eqb-false _ _ r (p ∙ be_agree b x o y 8
          (λ j l. sym (get_or_bytes_at b x n j (omega arith)) ∙ ap (λ (z : List ℕ). get_or z j 0) w ∙ get_or_bytes_at o y n j (omega arith)) ∙ sym q)))

-- ---- `cell_of`
pub register_found : (id : ℕ) (x : Cell) → Some x ≡ register_cell id → x ≡ cell_of id
register_found id x e = cell_known id x e
