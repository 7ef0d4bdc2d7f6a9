-- The laws of the walk, over the judge: nothing else opens `walk`, `walk_on` and `offset_at`. Assumes nothing.
use mathlib.Core.Path.{◌≡◌, refl, sym, ap, ◌∙◌}
use mathlib.Core.Bool.{Bool, true, false, ◌||◌, true≢false}
use mathlib.Core.List.{List}
use Prim.Native.Nat.{ℕ, zero, suc, ◌+◌, ◌-◌, ◌*◌, ◌≤◌, ◌<◌}
use native.Mathlib.Numerals.{add-one}
use native.Mathlib.Decide.{dec_le}
use native.Mathlib.Omega.{arith}
use lib.Dec.{ltb}
use lib.ListN.{length}
use borrow.Author.Tests.{le-ltb, ltb-false}
use Rattle.answer.specs.declared.Bad.{Bad}
use Rattle.rules.specs.declared.Context.{Context}
use Rattle.gsb.specs.declared.BadElement.{BadElement}
use Rattle.gsb.specs.Walk.{count_of, next_at, offset_at, bad_length, judged, walk_on, walk, first_bad, Verdict, Walked, stopped_at}
use Rattle.gsb.specs.Private.{placed}
use Rattle.std.proofs.Common.{Ok, Err}

-- the walk as a loop that counts i up to count has it
module _ (judge : ℕ → Verdict) (count i at : ℕ) where
  pub walk_end : count ≤ i → walk judge (count - i) i at ≡ Ok tt
  unfolding walk
  walk_end h =
      let e : count - i ≡ 0 = omega arith in
      ap (λ (n : ℕ). walk judge n i at) e

  turn : i < count → walk judge (count - i) i at ≡ walk_on (judge at) i at (λ next. walk judge (count - (i + 1)) (i + 1) next)
  unfolding walk
  turn h =
      let e : count - i ≡ suc (count - (i + 1)) = omega arith in
      ap (λ (n : ℕ). walk judge n i at) e

  pub walk_good : (next : ℕ) → i < count → judge at ≡ Ok next → walk judge (count - i) i at ≡ walk judge (count - (i + 1)) (i + 1) next
  unfolding walk_on
  walk_good next h e = turn h ∙ ap (λ (v : Verdict). walk_on v i at (λ next. walk judge (count - (i + 1)) (i + 1) next)) e

  pub walk_bad : (bad : Bad) → i < count → judge at ≡ Err bad → walk judge (count - i) i at ≡ stopped_at bad (record { index = i; offset = at })
  unfolding walk_on
  walk_bad bad h e = turn h ∙ ap (λ (v : Verdict). walk_on v i at (λ next. walk judge (count - (i + 1)) (i + 1) next)) e

pub after_bad : (bad : Bad) (i at : ℕ) (go : ℕ → Walked) → walk_on (Err bad) i at go ≡ stopped_at bad (record { index = i; offset = at })
unfolding walk_on
after_bad bad i at go = refl

pub after_good : (next i at : ℕ) (go : ℕ → Walked) → walk_on (Ok next) i at go ≡ go next
unfolding walk_on
after_good next i at go = refl

-- ---- a verdict that is left by `?`, with its place
pub placed_ok : (v : Verdict) (i at next : ℕ) → Ok next ≡ placed v i at → v ≡ Ok next
placed_ok (Ok n) i at next e = let z : n ≡ next = cc in ap (λ (x : ℕ). Ok x) z
placed_ok (Err bad) i at next e = absurd (cc)

placed_err : (v : Verdict) (i at : ℕ) (stop : BadElement) → Err stop ≡ placed v i at → (v ≡ Err stop.bad) × (stop ≡ record { bad = stop.bad; place = record { index = i; offset = at } })
placed_err (Ok n) i at stop e = absurd (cc)
placed_err (Err bad) i at stop e =
    let z : stop ≡ record { bad = bad; place = record { index = i; offset = at } } = cc in
    let y : bad ≡ stop.bad = sym (ap (λ (x : BadElement). x.bad) z) in
    (ap (λ (x : Bad). Err x) y, z ∙ ap (λ (x : Bad). record { bad = x; place = record { index = i; offset = at } }) y)

-- ---- the same in the form of a loop's needs
module _ (judge : ℕ → Verdict) (count i at : ℕ) (w : Walked) where
  pub turn_good : (v : Verdict) (next : ℕ) → w ≡ walk judge (count - i) i at → i < count → v ≡ judge at → v ≡ Ok next → w ≡ walk judge (count - (i + 1)) (i + 1) next
  turn_good v next e h j g = e ∙ walk_good judge count i at next h (sym j ∙ g)

  pub turn_bad : (v : Verdict) (bad : Bad) (x : Walked) → w ≡ walk judge (count - i) i at → i < count → v ≡ judge at → v ≡ Err bad → x ≡ walk_on v i at (λ next. (Ok tt)) → x ≡ w
  turn_bad v bad x e h j g y =
      y ∙ ap (λ (z : Verdict). walk_on z i at (λ next. (Ok tt))) g ∙ after_bad bad i at (λ next. (Ok tt)) ∙ sym (e ∙ walk_bad judge count i at bad h (sym j ∙ g))

  pub turn_end : w ≡ walk judge (count - i) i at → count ≤ i → Ok tt ≡ w
  turn_end e h = sym (e ∙ walk_end judge count i at h)

pub walk_start : (judge : ℕ → Verdict) (count : ℕ) → walk judge count 0 4 ≡ walk judge (count - 0) 0 4
walk_start judge count = let z : count ≡ count - 0 = omega arith in ap (λ (n : ℕ). walk judge n 0 4) z

pub first_start : (k : Context) (b : List ℕ) (count : ℕ) → count ≡ count_of b → first_bad k b ≡ walk (judged k b) (count - 0) 0 4
unfolding first_bad
first_start k b count e =
    let z : count_of b ≡ count - 0 = omega arith in
    ap (λ (n : ℕ). walk (judged k b) n 0 4) z

-- what a loop does that is left by `?`
module _ (judge : ℕ → Verdict) (count i at : ℕ) (v : Verdict) where
  pub walk_next : (w : Walked) (next : ℕ) → w ≡ walk judge (count - i) i at → i < count → v ≡ judge at → Ok next ≡ placed v i at → w ≡ walk judge (count - (i + 1)) (i + 1) next
  walk_next w next e h j g = turn_good judge count i at w v next e h j (placed_ok v i at next g)

  pub walk_stop : (stop : BadElement) → i < count → v ≡ judge at → Err stop ≡ placed v i at → walk judge (count - i) i at ≡ Err stop
  walk_stop stop h j g =
      let p = placed_err v i at stop g in
      walk_bad judge count i at stop.bad h (sym j ∙ p.0) ∙ ap (λ (x : BadElement). Err x) (sym p.1)

-- ---- where the elements start
module _ (b : List ℕ) (i at : ℕ) where
  pub offset_next : at ≡ offset_at b i → next_at b at ≡ offset_at b (i + 1)
  unfolding offset_at
  offset_next e = ap (next_at b) e ∙ ap (offset_at b) (sym (add-one i))

pub offset_start : (b : List ℕ) → 4 ≡ offset_at b 0
unfolding offset_at
offset_start b = refl

-- one element more
pub offset_suc : (b : List ℕ) (i : ℕ) → offset_at b (suc i) ≡ next_at b (offset_at b i)
unfolding offset_at
offset_suc b i = refl

-- offsets only grow: each element takes a header at least
pub offset_low : (b : List ℕ) (i : ℕ) → 4 ≤ offset_at b i
offset_low b zero = omega (arith, offset_start b)
offset_low b (suc i) = omega (arith, offset_low b i, offset_suc b i)

pub offset_up : (b : List ℕ) (i m : ℕ) → i ≤ m → offset_at b i + 4 * (m - i) ≤ offset_at b m
offset_up b i zero h = let z : i ≡ 0 = omega arith in let e : offset_at b i ≡ offset_at b 0 = ap (offset_at b) z in omega arith
offset_up b i (suc m) h = go (dec_le i m) (offset_up b i m)
  where
    go : Dec (i ≤ m) → (i ≤ m → offset_at b i + 4 * (m - i) ≤ offset_at b m) → offset_at b i + 4 * (suc m - i) ≤ offset_at b (suc m)
    go (yes k) ih = omega (arith, ih k, offset_suc b m)
    go (no k) ih = let z : i ≡ suc m = omega arith in let e : offset_at b i ≡ offset_at b (suc m) = ap (offset_at b) z in omega arith

-- ---- a buffer whose length is good
pub length_bounds : (b : List ℕ) → bad_length b ≡ false → (4 ≤ length b) × (length b ≤ 65536)
length_bounds b = go (ltb (length b) 4) (ltb 65536 (length b)) refl refl
  where
    go : (s t : Bool) → ltb (length b) 4 ≡ s → ltb 65536 (length b) ≡ t → (s || t) ≡ false → (4 ≤ length b) × (length b ≤ 65536)
    go true t p q e = absurd (true≢false e)
    go false true p q e = absurd (true≢false e)
    go false false p q e = (ltb-false _ _ p, ltb-false _ _ q)

pub bounds_length : (b : List ℕ) → 4 ≤ length b → length b ≤ 65536 → bad_length b ≡ false
bounds_length b h k = simp (le-ltb _ _ h, le-ltb _ _ k)

-- it has a count
pub long_enough : (b : List ℕ) (t : Bool) → t ≡ bad_length b → t ≡ false → 4 ≤ length b
long_enough b t e h = (length_bounds b (sym e ∙ h)).0
