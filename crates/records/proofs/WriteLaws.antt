-- The laws of writing, in the form of the code's needs. Assumes nothing.
use mathlib.Core.Path.{◌≡◌, refl, sym, ap, ap₂, ◌∙◌}
use mathlib.Core.Bool.{Bool, true, false, ◌&&◌}
use mathlib.Core.List.{List}
use Prim.Native.Nat.{ℕ, ◌+◌, ◌^◌, ◌≤◌, ◌<◌}
use native.Mathlib.Omega.{arith}
use mir.Syntax.{w64}
use mir.Val.{Fits}
use lib.Dec.{ltb, leb}
use lib.ListN.{length}
use borrow.Author.Tests.{lt-ltb, le-ltb, ltb-true, leb-true}
use Rattle.octets.specs.Bytes.{bytes_at, put, digits}
use Rattle.answer.specs.declared.Answer.{Answer}
use Rattle.answer.specs.declared.RunBuffer.TheVariants.{Output}
use Rattle.answer.specs.declared.Fault.TheVariants.{None, Short, Record}
use Rattle.l0.specs.Numbered.{CallRecord}
use Rattle.records.specs.declared.Head.{Head}
use Rattle.records.specs.Record.{is_kind}
use Rattle.records.specs.Write.{head_of, head_number, packed, fits_head, Written, write_record}
use Rattle.records.specs.Private.{Narrow}
use Rattle.records.proofs.Packed.{length_packed, record_put}

-- ---- what it tells
and_both : (a b : Bool) → a && b ≡ true → (a ≡ true) × (b ≡ true)
and_both true b e = (refl, e)
and_both false b e = let z : ◌≡◌ {A = ℕ} 0 1 = cc in absurd (omega arith)

pub narrow : (h : Head) (t : Bool) → t ≡ fits_head h → t ≡ true → Narrow h
unfolding fits_head is_kind
narrow h t e f =
    let one = and_both (is_kind h.kind) _ (sym e ∙ f) in
    let kind = and_both (leb 1 h.kind) _ one.0 in
    let two = and_both (ltb h.exit_reason (2 ^ 12)) _ one.1 in
    let three = and_both (ltb h.data_len (2 ^ 17)) _ two.1 in
    record {
      kind_fits = omega (arith, leb-true h.kind 8 kind.1);
      exit_fits = ltb-true _ _ two.0;
      data_fits = ltb-true _ _ three.0;
      effect_fits = ltb-true _ _ three.1;
    }

pub kind_held : (h : Head) → fits_head h ≡ true → is_kind h.kind ≡ true
unfolding fits_head
kind_held h e = (and_both (is_kind h.kind) _ e).0

pub length_fits : (h : Head) (t : Bool) → t ≡ fits_head h → t ≡ true → Fits w64 (31 + h.data_len + h.effect_len)
length_fits h t e f = let n = narrow h t e f in record { fits = omega arith }

-- ---- `write_record`
abbrev left : Answer → List ℕ → Written
left x b = record { answer = x; bytes = b }

module _ (b : List ℕ) (r : CallRecord) (t : Bool) (e : t ≡ fits_head (head_of r)) (x : Answer) where
  pub refuse_record : t ≡ false → x ≡ record { fault = Record 0; value = 0 } → left x b ≡ write_record b r
  unfolding write_record
  refuse_record f a = let g : fits_head (head_of r) ≡ false = sym e ∙ f in simp g (ap (λ (y : Answer). left y b) a)

  module _ (f : t ≡ true) where
    pub refuse_short : length b < 31 + length r.«data» + length r.effect → x ≡ record { fault = Short Output; value = 0 } → left x b ≡ write_record b r
    unfolding write_record
    refuse_short l a =
        let g : fits_head (head_of r) ≡ true = sym e ∙ f in
        let s : length b < length (packed r) = omega (arith, length_packed r) in
        simp (g, lt-ltb _ _ s) (ap (λ (y : Answer). left y b) a)

    pub written : (u v w : List ℕ) → 31 + length r.«data» + length r.effect ≤ length b → u ≡ put b 0 (digits 31 (head_number (head_of r)))
        → v ≡ put u 31 (bytes_at r.«data» 0 (length r.«data»)) → w ≡ put v (31 + length r.«data») (bytes_at r.effect 0 (length r.effect))
        → x ≡ record { fault = None; value = 31 + length r.«data» + length r.effect } → left x w ≡ write_record b r
    unfolding write_record
    written u v w l eu ev ew a =
        let g : fits_head (head_of r) ≡ true = sym e ∙ f in
        let s : length (packed r) ≤ length b = omega (arith, length_packed r) in
        simp (g, le-ltb _ _ s)
        (ap₂ left (a ∙ ap (λ (n : ℕ). record { fault = None; value = n }) (sym (length_packed r))) (record_put b r u v w eu ev ew))
