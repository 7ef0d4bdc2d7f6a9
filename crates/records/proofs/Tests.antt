-- The code's tests are the definition's. Assumes nothing.
use mathlib.Core.Path.{◌≡◌, sym, ap, ap₂, ◌∙◌}
use mathlib.Core.Bool.{Bool, true, cond}
use mathlib.Core.List.{List}
use Prim.Native.Nat.{ℕ, ◌+◌}
use lib.Dec.{leb, eqb}
use borrow.Author.Tests.{eq-eqb}
use lib.ListN.{length}
use Rattle.records.specs.declared.Head.{Head}
use Rattle.std.specs.Prelude.{Ok, Err}
use Rattle.records.specs.declared.Unread.TheVariants.{Cut}
use Rattle.records.specs.Record.{is_kind, head_at, padding, head_good, read_head}
use Rattle.records.specs.Private.{Heads}

-- ---- a record read
module _ (b : List ℕ) (at : ℕ) where
  pub judged : (r t u : Bool) (h : Head) (p : ℕ) → r ≡ leb (at + 31) (length b) → r ≡ true → Heads b at h → t ≡ is_kind h.kind → t ≡ true
      → p ≡ padding b at → p ≡ 0 → u ≡ leb (at + (31 + h.data_len + h.effect_len)) (length b) → cond u (Ok h) (Err Cut) ≡ read_head b at
  unfolding read_head head_good
  judged r t u h p e f i k l q z m =
      let n : is_kind (head_at b at).kind ≡ true = ap (λ (x : Head). is_kind x.kind) (sym i.is) ∙ sym k ∙ l in
      let o : eqb (padding b at) 0 ≡ true = ap (λ (x : ℕ). eqb x 0) (sym q) ∙ eq-eqb p 0 z in
      let v : u ≡ leb (at + (31 + (head_at b at).data_len + (head_at b at).effect_len)) (length b) =
      m ∙ ap (λ (x : Head). leb (at + (31 + x.data_len + x.effect_len)) (length b)) i.is in
      ap₂ (λ (y : Bool) (x : Head). cond y (Ok x) (Err Cut)) v i.is ∙ sym (simp (sym e ∙ f, n, o))

  pub accepted : (r t u : Bool) (h : Head) (p : ℕ) → r ≡ leb (at + 31) (length b) → r ≡ true → Heads b at h → t ≡ is_kind h.kind → t ≡ true
      → p ≡ padding b at → p ≡ 0 → u ≡ leb (at + (31 + h.data_len + h.effect_len)) (length b) → u ≡ true → Ok h ≡ read_head b at
  accepted r t u h p e f i k l q z m g = sym (ap (λ (y : Bool). cond y (Ok h) (Err Cut)) g) ∙ judged r t u h p e f i k l q z m
