-- An effect leaves the two registrations of the vCPU. Assumes nothing.
use mathlib.Core.Path.{◌≡◌, refl, sym, ap, ◌∙◌, subst}
use mathlib.Core.Bool.{Bool, true, false, not, ◌&&◌, ◌||◌}
use mathlib.Core.List.{List}
use Prim.Native.Nat.{ℕ, ◌+◌, ◌≤◌, ◌<◌}
use native.Mathlib.Omega.{arith}
use lib.Dec.{leb, T}
use borrow.Author.Tests.{leb-true, leb-false}
use Rattle.octets.specs.Bytes.{be}
use Rattle.octets.proofs.Numbers.{be_ext}
use Rattle.elements.specs.declared.Scope.{Scope}
use Rattle.elements.specs.declared.Scope.TheVariants.{Thread}
use Rattle.rules.specs.declared.Usage.TheVariants.{Effect as InEffect}
use Rattle.rules.specs.declared.Context.{Context}
use Rattle.elements.specs.declared.Entry.{Entry}
use Rattle.elements.specs.declared.Kind.TheVariants.{Listed}
use Rattle.elements.specs.Table.{table, below, same_scope, position, source_of, find, kind_of}
use Rattle.rules.specs.Rules.{between, permits, allows, scope_for}
use Rattle.elements.proofs.Table.{entry_rule, T_true, position_mono, source_stored}
use Rattle.rules.proofs.Rules.{permits_listed, permits_scope, effect_not_buffer}
use Rattle.gsb.specs.Walk.{count_of, id_at, offset_at, first_bad}
use Rattle.gsb.proofs.Judged.{good_element}
use Rattle.gsb.proofs.First.{all_good}
use Rattle.transfer.specs.Transfer.{applied}
use Rattle.transfer.specs.Named.{Named}
use Rattle.transfer.proofs.Named.{applied_frame}
use Rattle.run.specs.Run.{input_size, output_size}
use Rattle.std.proofs.Common.{Ok}

-- thread elements begin at 0x0C00
thread_from : (id : ℕ) (x : Entry) → kind_of id ≡ Listed x → x.scope ≡ Thread → 0x0C00 ≤ id
unfolding kind_of find table source_of position below
thread_from id x e s =
    leb-true _ _ (T_true (leb 0x0C00 id) (subst (λ (c : Scope). T (not (same_scope Thread c) || leb 0x0C00 id)) s
    (entry_rule (λ (i : ℕ) (y : Entry). not (same_scope Thread y.scope) || leb 0x0C00 i) tt id x e)))

third : position Thread 0x0C03 ≡ 40
unfolding position below table
third = refl

-- an effect's element lies behind the first three
behind : (id : ℕ) (x : Entry) → kind_of id ≡ Listed x → x.scope ≡ Thread → between 0x0C00 0x0C02 id ≡ false → 40 ≤ position Thread id
behind id x e s b =
    let lo = thread_from id x e s in
    let hi : 0x0C02 < id = above (leb 0x0C00 id) (leb id 0x0C02) refl refl b lo in
    omega (arith, position_mono Thread 0x0C03 id (omega arith), third)
  where
    above : (p q : Bool) → leb 0x0C00 id ≡ p → leb id 0x0C02 ≡ q → (p && q) ≡ false → 0x0C00 ≤ id → 0x0C02 < id
    above true true a c h k = let z : ◌≡◌ {A = ℕ} 0 1 = cc in absurd (omega arith)
    above true false a c h k = leb-false _ _ c
    above false q a c h k = let y : id < 0x0C00 = leb-false _ _ a in absurd (omega arith)

module _ (k : Context) (u : k.usage ≡ InEffect) (base : ℕ) (e s : List ℕ) (d : first_bad k e ≡ Ok tt) where
  -- no byte before the third element is named
  spared : (i : ℕ) → i < base + 40 → Named base e (count_of e) i → ⊥
  spared i h n =
      let a = n.index in
      let g = (good_element k e (offset_at e a) (offset_at e (a + 1)) ((all_good k e).0 d a n.counted)).0 in
      let id = id_at e (offset_at e a) in
      let p : permits k id (Listed n.entry) ≡ true = ap (permits k id) (sym n.listed) ∙ g.permitted in
      let al : allows InEffect id n.entry ≡ true = ap (λ (x : _). allows x id n.entry) (sym u) ∙ permits_listed k id n.entry p in
      let sc : n.entry.scope ≡ Thread = permits_scope k id n.entry p ∙ ap scope_for u in
      let st = source_stored id n.entry n.place n.listed n.stored in
      let b = behind id n.entry n.listed sc (effect_not_buffer id n.entry al) in
      let q : position n.entry.scope id ≡ position Thread id = ap (λ (c : Scope). position c id) sc in
      omega (arith, n.from, st.1, q, b)

  kept : (p : ℕ) → p + 8 ≤ base + 40 → be (applied base e (count_of e) s) p 8 ≡ be s p 8
  kept p h = be_ext (applied base e (count_of e) s) s p 8 (λ i l. applied_frame k base e d (count_of e) (p + i) s (omega arith) (λ n. spared (p + i) (omega arith) n))

  pub effect_input : input_size (applied base e (count_of e) s) base ≡ input_size s base
  unfolding position below table
  effect_input = kept (base + 0 + 8) (omega arith)

  pub effect_output : output_size (applied base e (count_of e) s) base ≡ output_size s base
  unfolding position below table
  effect_output = kept (base + 16 + 8) (omega arith)
