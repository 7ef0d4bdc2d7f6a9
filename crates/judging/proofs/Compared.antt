-- The laws of `compared`: nothing else opens it but the code's steps. Assumes nothing.
use mathlib.Core.Path.{◌≡◌, refl, ap, ap₂}
use mathlib.Core.Bool.{Bool, true, false, not, ◌&&◌, true≢false, false≢true}
use mathlib.Core.List.{List}
use Prim.Native.Nat.{ℕ, ◌+◌, ◌≤◌}
use lib.Dec.{eqb}
use lib.ListN.{length}
use borrow.Author.Tests.{le-ltb, ltb-false, eq-eqb, ne_eqb, eqb-true, eqb-false}
use Rattle.gsb.specs.Walk.{count_of, id_at, size_at, next_at}
use Rattle.gsb.specs.First.{Leads}
use Rattle.gsb.proofs.Judged.{passed}
use Rattle.transfer.specs.Transfer.{value_at}
use Rattle.judging.specs.Judging.{is_ours, our_value, same, is_repeated, compared}
use Rattle.judging.proofs.Elements.{Element, and_both, same_is, is_same}
use Rattle.std.proofs.Common.{Ok}

-- what a good element is: inside, and a NOP or one of ours, the first with its ID
pub record Ours (ours : List Element) (b : List ℕ) (at : ℕ) : Type 0 where
  pub named : is_ours ours (id_at b at) ≡ true
  pub new : is_repeated b at (count_of b) ≡ false
  pub sized : size_at b at ≡ length (our_value ours (id_at b at))
  pub value : value_at b at ≡ our_value ours (id_at b at)

pub record Alike (ours : List Element) (b : List ℕ) (at : ℕ) : Type 0 where
  pub header : at + 4 ≤ length b
  pub inside : next_at b at ≤ length b
  pub mine : (id_at b at ≡ 0 → ⊥) → Ours ours b at

-- a test that a NOP passes
but : (z t : Bool) → (not z && not t) ≡ false → z ≡ false → t ≡ true
but true t e f = absurd (true≢false f)
but false true e f = refl
but false false e f = absurd (true≢false e)

passes : (z t : Bool) → (z ≡ false → t ≡ true) → (not z && not t) ≡ false
passes true t f = refl
passes false t f = ap not (f refl)

not_not : (t : Bool) → not t ≡ true → t ≡ false
not_not true e = absurd (false≢true e)
not_not false e = refl

module _ (ours : List Element) (b : List ℕ) (at : ℕ) where
  pub compared_good : (next : ℕ) → compared ours b at ≡ Ok next → Alike ours b at × (next ≡ next_at b at)
  unfolding compared
  compared_good next e =
      let p = passed _ _ _ next e in
      let q = passed _ _ _ next p.1 in
      let r = passed _ _ _ next q.1 in
      let s = passed _ _ _ next r.1 in
      let t = passed _ _ _ next s.1 in (
        record {
          header = ltb-false _ _ p.0;
          inside = ltb-false _ _ s.0;
          mine = λ n.
              let z : eqb (id_at b at) 0 ≡ false = ne_eqb _ _ n in
              let i = and_both (is_ours ours (id_at b at)) (not (is_repeated b at (count_of b))) (but (eqb (id_at b at) 0) _ q.0 z) in
              record {
                named = i.0;
                new = not_not _ i.1;
                sized = eqb-true _ _ (but (eqb (id_at b at) 0) _ r.0 z);
                value = same_is _ _ (but (eqb (id_at b at) 0) _ t.0 z);
              };
        },
        cc t.1,
      )

  pub good_compared : Alike ours b at → compared ours b at ≡ Ok (next_at b at)
  unfolding compared
  good_compared a =
      let m : eqb (id_at b at) 0 ≡ false → Ours ours b at = λ z. a.mine (eqb-false _ _ z) in
      let i : (not (eqb (id_at b at) 0) && not (is_ours ours (id_at b at) && not (is_repeated b at (count_of b)))) ≡ false
      = passes (eqb (id_at b at) 0) _ (λ z. ap₂ (λ (s t : Bool). s && not t) (m z).named (m z).new) in
      let s : (not (eqb (id_at b at) 0) && not (eqb (size_at b at) (length (our_value ours (id_at b at))))) ≡ false = passes (eqb (id_at b at) 0) _ (λ z. eq-eqb _ _ (m z).sized) in
      let v : (not (eqb (id_at b at) 0) && not (same (value_at b at) (our_value ours (id_at b at)))) ≡ false = passes (eqb (id_at b at) 0) _ (λ z. is_same _ _ (m z).value) in
      let h : at + 4 ≤ length b = a.header in
      let e : next_at b at ≤ length b = a.inside in
      simp (le-ltb _ _ h, i, s, le-ltb _ _ e, v)

pub compared_leads : (ours : List Element) (b : List ℕ) → Leads (compared ours b) b
compared_leads ours b at next e = (compared_good ours b at next e).1
