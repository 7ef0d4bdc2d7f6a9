-- What an accepted buffer says of its elements: each can be moved. Assumes nothing.
use mathlib.Core.Path.{◌≡◌, refl, sym, ap, ◌∙◌, subst}
use mathlib.Core.Bool.{Bool, true, false, ◌||◌}
use mathlib.Core.Logic.{◌⊎◌, inl, inr}
use mathlib.Core.List.{List}
use Prim.Native.Nat.{ℕ, ◌+◌, ◌≤◌, ◌<◌}
use native.Mathlib.Omega.{arith}
use lib.Dec.{T, eqb, eqb→eq}
use lib.ListN.{length}
use Rattle.elements.specs.declared.Source.{Source}
use Rattle.elements.specs.declared.Source.TheVariants.{Fixed, Stored}
use Rattle.elements.specs.declared.Entry.{Entry}
use Rattle.elements.specs.declared.Kind.{Kind}
use Rattle.elements.specs.declared.Kind.TheVariants.{Unlisted, Nop, Listed}
use Rattle.rules.specs.declared.Context.{Context}
use Rattle.elements.specs.Table.{table, below, is_stored, position, source_of, find, kind_of}
use Rattle.rules.specs.Rules.{permits, size_fits, scope_for}
use Rattle.elements.specs.Right.{bytes_of}
use Rattle.elements.proofs.Table.{entry_rule, listed_stored, listed_fixed, position_end}
use Rattle.rules.proofs.Rules.{size_listed, permits_scope}
use Rattle.gsb.specs.Walk.{count_of, id_at, size_at, offset_at, first_bad}
use Rattle.gsb.proofs.Judged.{good_element}
use Rattle.gsb.proofs.First.{all_good}
use Rattle.transfer.specs.Transfer.{Fits, Moves, Ready, AllReady}
use Rattle.std.proofs.Common.{Ok}

-- the two fixed numbers have eight bytes
fixed_size : (id : ℕ) (x : Entry) → kind_of id ≡ Listed x → is_stored id ≡ false → x.size ≡ 8
unfolding kind_of find table source_of position below
fixed_size id x e s = eqb→eq _ _ (subst (λ (t : Bool). T (t || eqb x.size 8)) s (entry_rule (λ (i : ℕ) (y : Entry). is_stored i || eqb y.size 8) tt id x e))

module _ (k : Context) (base len : ℕ) (room : base + bytes_of (scope_for k.usage) ≤ len) where
  -- a fixed number, or a place within the values
  fits : (id : ℕ) (x : Entry) (size : ℕ) → kind_of id ≡ Listed x → x.scope ≡ scope_for k.usage → size ≡ x.size → (t : Bool) → is_stored id ≡ t → (y : Source) → x.source ≡ y → Fits y base size len
  fits id x size e sc z true st (Fixed n) q = let w : ◌≡◌ {A = ℕ} 0 1 = cc (listed_stored id x e st) in absurd (omega arith)
  fits id x size e sc z true st (Stored p) q =
      let s : Stored p ≡ Stored (position x.scope id) = sym q ∙ listed_stored id x e st in
      let r : p ≡ position x.scope id = cc in
      let h = position_end x.scope id x e refl st in
      let g : bytes_of x.scope ≡ bytes_of (scope_for k.usage) = ap bytes_of sc in
      omega (arith, h, g, r)
  fits id x size e sc z false st (Fixed n) q = z ∙ fixed_size id x e st
  fits id x size e sc z false st (Stored p) q = absurd (never (listed_fixed id x e st))
    where
      never : ((id ≡ 0x0001) × (x.source ≡ Fixed 1844)) ⊎ ((id ≡ 0x0002) × (x.source ≡ Fixed 124)) → ⊥
      never (inl h) = let w : ◌≡◌ {A = ℕ} 0 1 = cc h.1 in omega arith
      never (inr h) = let w : ◌≡◌ {A = ℕ} 0 1 = cc h.1 in omega arith

  moves : (id size : ℕ) (kind : Kind) → kind_of id ≡ kind → permits k id kind ≡ true → size_fits kind size ≡ true → Moves kind base size len
  moves id size Unlisted e p f = tt
  moves id size Nop e p f = tt
  moves id size (Listed x) e p f = (size_listed x size f, fits id x size e (permits_scope k id x p) (size_listed x size f) (is_stored id) refl x.source refl)

  pub ready_all : (b : List ℕ) → 4 ≤ length b → first_bad k b ≡ Ok tt → AllReady base b len
  ready_all b h d = record { long = h; each = λ i l. at i l }
    where
      at : (i : ℕ) → i < count_of b → Ready base b (offset_at b i) len
      at i l =
          let g = (good_element k b (offset_at b i) (offset_at b (i + 1)) ((all_good k b).0 d i l)).0 in
          record { header = g.header; inside = g.inside; moves = moves (id_at b (offset_at b i)) (size_at b (offset_at b i)) (kind_of (id_at b (offset_at b i))) refl g.permitted g.sized }
