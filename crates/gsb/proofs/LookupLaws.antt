-- The laws of the lookup: nothing else opens `framed`, `last_with`, `part_of` and `looked_up`. Assumes nothing.
use mathlib.Core.Path.{◌≡◌, refl, sym, ap, ◌∙◌, subst}
use mathlib.Core.Logic.{◌≢◌}
use mathlib.Core.Bool.{Bool, true, false, cond}
use mathlib.Core.List.{List}
use Prim.Native.Nat.{ℕ, zero, suc, ◌+◌, ◌-◌, ◌*◌, ◌^◌, ◌≤◌, ◌<◌}
use native.Mathlib.Numerals.{add-one}
use native.Mathlib.Decide.{dec_lt, ℕ_discrete}
use native.Mathlib.Omega.{arith}
use lib.Dec.{ltb, eqb}
use lib.ListN.{length, take, drop}
use borrow.Author.Tests.{lt-ltb, le-ltb, ltb-false, eq-eqb, ne_eqb}
use Rattle.octets.proofs.Bytes.{part_lent}
use Rattle.answer.specs.declared.Bad.{Bad}
use Rattle.answer.specs.declared.Bad.TheVariants.{Id, Size}
use Rattle.answer.specs.declared.Fault.{Fault}
use Rattle.answer.specs.declared.Fault.TheVariants.{Length, Element}
use Rattle.rules.specs.Rules.{between}
use Rattle.gsb.specs.declared.lookups.Found.{Found}
use Rattle.gsb.specs.declared.BadElement.{BadElement}
use Rattle.gsb.specs.Walk.{count_of, id_at, size_at, next_at, offset_at, bad_length, walk, Verdict, Walked}
use Rattle.gsb.specs.First.{Leads}
use Rattle.gsb.specs.Lookup.{framed, last_with, Inside, part_of, unless_cut, looked_up, part_in, value_of}
use Rattle.gsb.specs.Private.{placed}
use Rattle.gsb.proofs.Judged.{passed}
use Rattle.rules.proofs.Rules.{between_low, between_high}
use Rattle.gsb.proofs.Walks.{placed_ok, walk_end, walk_stop}
use Rattle.std.proofs.Common.{Option, None, Some, Result, Ok, Err}

-- ---- an element's frame
module _ (b : List ℕ) (at : ℕ) where
  pub framed_header : at ≤ length b → length b - at < 4 → Err Size ≡ framed b at
  unfolding framed
  framed_header h l =
      let t : length b < at + 4 = omega arith in
      simp (lt-ltb _ _ t)

  pub framed_end : (size : ℕ) → 4 ≤ length b - at → size ≡ size_at b at → length b - at - 4 < size → Err Size ≡ framed b at
  unfolding framed
  framed_end size room e l =
      let t : at + 4 ≤ length b = omega arith in
      let u : length b < next_at b at = omega arith in
      simp (le-ltb _ _ t, lt-ltb _ _ u)

  pub framed_good : (size : ℕ) → 4 ≤ length b - at → size ≡ size_at b at → size ≤ length b - at - 4 → Ok (at + 4 + size) ≡ framed b at
  unfolding framed
  framed_good size room e l =
      let t : at + 4 ≤ length b = omega arith in
      let u : next_at b at ≤ length b = omega arith in
      rw e (simp (le-ltb _ _ t, le-ltb _ _ u))

  pub framed_inside : (next : ℕ) (v : Verdict) → v ≡ framed b at → v ≡ Ok next → (next ≡ next_at b at) × (next_at b at ≤ length b)
  unfolding framed
  framed_inside next v j g =
      let p = passed (ltb (length b) (at + 4)) Size (cond (ltb (length b) (next_at b at)) (Err Size) (Ok (next_at b at))) next (sym j ∙ g) in
      let q = passed (ltb (length b) (next_at b at)) Size (Ok (next_at b at)) next p.1 in
      (cc q.1, ltb-false _ _ q.0)

  pub placed_inside : (next i : ℕ) (v : Verdict) → v ≡ framed b at → Ok next ≡ placed v i at → (next ≡ next_at b at) × (next_at b at ≤ length b)
  placed_inside next i v j g = framed_inside next v j (placed_ok v i at next g)

  -- a cut element is always a bad size
  cut_size : (s t : Bool) (x : ℕ) (bad : Bad) → cond s (Err Size) (cond t (Err Size) (Ok x)) ≡ Err bad → bad ≡ Size
  cut_size true t x bad e = cc
  cut_size false true x bad e = cc
  cut_size false false x bad e = let z : ◌≡◌ {A = ℕ} 0 1 = cc in absurd (omega arith)

  pub framed_bad : (bad : Bad) → framed b at ≡ Err bad → bad ≡ Size
  unfolding framed
  framed_bad bad e = cut_size (ltb (length b) (at + 4)) (ltb (length b) (next_at b at)) (next_at b at) bad e

-- a size of 16 bytes or less that the number above the ID tells, of a value that lies inside
pub framed_known : (size low high far : ℕ) → low ≡ size * 2 ^ 16 → high ≡ size * 2 ^ 16 + 0xFFFF → far ≡ 4 + size → size ≤ 16 → (b : List ℕ) (at key : ℕ) (r : Bool)
    → 20 ≤ length b - at → key ≡ size_at b at * 2 ^ 16 + id_at b at → id_at b at < 2 ^ 16 → r ≡ between low high key → r ≡ true → Ok (at + far) ≡ framed b at
framed_known size low high far x y z few b at key r room k i p q =
    let above : low ≤ key = between_low low high key (sym p ∙ q) in
    let under : key ≤ high = between_high low high key (sym p ∙ q) in
    let n : at + far ≡ at + 4 + size = omega arith in
    ap Ok n ∙ framed_good b at size (omega arith) (omega arith) (omega arith)

-- the same of a size that was read
pub framed_told : (size far : ℕ) → far ≡ 4 + size → size ≤ 16 → (b : List ℕ) (at n : ℕ) → 20 ≤ length b - at → n ≡ size_at b at → n ≡ size → Ok (at + far) ≡ framed b at
framed_told size far z few b at n room e q =
    let s : at + far ≡ at + 4 + n = omega arith in
    ap Ok s ∙ framed_good b at n (omega arith) e (omega arith)

-- ---- the last element with an ID
module _ (b : List ℕ) (id i at : ℕ) (last found : Option ℕ) where
  -- a turn of the loop: one element more
  pub last_more : last ≡ last_with b id i → at ≡ offset_at b i → found ≡ cond (eqb (id_at b at) id) (Some at) last → found ≡ last_with b id (i + 1)
  unfolding last_with
  last_more e o f = f ∙ rw (e, o, add-one)

module _ (b : List ℕ) (id at : ℕ) (last found : Option ℕ) where
  pub last_inside : Inside b last → next_at b at ≤ length b → found ≡ cond (eqb (id_at b at) id) (Some at) last → Inside b found
  last_inside h l f = subst (Inside b) (sym f) (go (eqb (id_at b at) id))
    where
      go : (t : Bool) → Inside b (cond t (Some at) last)
      go true = l
      go false = h

pub last_none : (b : List ℕ) (id : ℕ) → None ≡ last_with b id 0
unfolding last_with
last_none b id = refl

-- ---- the part
pub part_none : (b : List ℕ) (last : Option ℕ) (count : ℕ) → last ≡ None → count ≡ count_of b → Err (Element Id (record { index = count; offset = 0 })) ≡ part_of b last
unfolding part_of
part_none b last count l e = rw (l, e)

pub part_some : (b : List ℕ) (last : Option ℕ) (at size : ℕ) → last ≡ Some at → size ≡ size_at b at → Ok (record { at = at + 4; len = size }) ≡ part_of b last
unfolding part_of
part_some b last at size l e = rw (l, e)

pub inside_at : (b : List ℕ) (last : Option ℕ) (at : ℕ) → Inside b last → last ≡ Some at → next_at b at ≤ length b
inside_at b last at h l = subst (Inside b) l h

-- ---- the whole lookup
module _ (b : List ℕ) (id : ℕ) where
  pub looked_length : (t : Bool) → t ≡ bad_length b → t ≡ true → Err Length ≡ looked_up b id
  unfolding looked_up
  looked_length t e h = let n : bad_length b ≡ true = sym e ∙ h in simp n

  module _ (t : Bool) (e : t ≡ bad_length b) (h : t ≡ false) (count : ℕ) (n : count ≡ count_of b) (i at : ℕ)
      (w : walk (framed b) count 0 4 ≡ walk (framed b) (count - i) i at) where
    looked : looked_up b id ≡ unless_cut (walk (framed b) (count - i) i at) (part_of b (last_with b id count))
    unfolding looked_up
    looked =
        let m : bad_length b ≡ false = sym e ∙ h in
        simp m (ap (λ (c : ℕ). unless_cut (walk (framed b) c 0 4) (part_of b (last_with b id c))) (sym n) ∙ ap (λ (z : Walked). unless_cut z (part_of b (last_with b id count))) w)

    pub looked_cut : (v : Verdict) (stop : BadElement) → i < count → v ≡ framed b at → Err stop ≡ placed v i at → Err (Element stop.bad stop.place) ≡ looked_up b id
    unfolding unless_cut
    looked_cut v stop l j g = sym (looked ∙ ap (λ (z : Walked). unless_cut z (part_of b (last_with b id count))) (walk_stop (framed b) count i at v stop l j g))

    pub looked_part : (last : Option ℕ) (x : Result Found Fault) → i ≤ count → count ≤ i → last ≡ last_with b id i → x ≡ part_of b last → x ≡ looked_up b id
    unfolding unless_cut
    looked_part last x m l f g =
        let q : i ≡ count = omega arith in
        g ∙ sym (looked ∙ ap (λ (z : Walked). unless_cut z (part_of b (last_with b id count))) (walk_end (framed b) count i at l) ∙ ap (part_of b) (ap (last_with b id) (sym q) ∙ sym f))

-- the part that is handed back
pub value_part : (b : List ℕ) (id : ℕ) (found : Found) → Ok found ≡ looked_up b id → take (found.at + found.len - found.at) (drop found.at b) ≡ value_of b id
value_part b id found e =
    let n : found.at + found.len - found.at ≡ found.len = omega arith in
    ap (λ (m : ℕ). take m (drop found.at b)) n ∙ part_lent b found.at found.len ∙ ap (part_in b) e

-- ---- past 5: what the walk finds, then the last element with the ID
pub framed_leads : (b : List ℕ) → Leads (framed b) b
framed_leads b at next g = (framed_inside b at next (framed b at) refl g).0

pub looked_walk : (b : List ℕ) (id : ℕ) → bad_length b ≡ false → looked_up b id ≡ unless_cut (walk (framed b) (count_of b) 0 4) (part_of b (last_with b id (count_of b)))
unfolding looked_up
looked_walk b id e = simp e

-- of the first n elements: none has the ID, or the last that has it is found
pub last_nowhere : (b : List ℕ) (id n : ℕ) → ((i : ℕ) → i < n → id_at b (offset_at b i) ≢ id) → last_with b id n ≡ None
unfolding last_with
last_nowhere b id zero h = refl
last_nowhere b id (suc n) h = ap (λ (t : Bool). cond t (Some (offset_at b n)) (last_with b id n)) (ne_eqb _ _ (h n (omega arith))) ∙ last_nowhere b id n (λ i l. h i (omega arith))

pub last_found : (b : List ℕ) (id n i : ℕ) → i < n → id_at b (offset_at b i) ≡ id → ((j : ℕ) → i < j → j < n → id_at b (offset_at b j) ≢ id) → last_with b id n ≡ Some (offset_at b i)
unfolding last_with
last_found b id zero i l e h = absurd (omega arith)
last_found b id (suc n) i l e h = go (dec_lt i n) (λ m. last_found b id n i m e (λ j k o. h j k (omega arith)))
  where
    go : Dec (i < n) → (i < n → last_with b id n ≡ Some (offset_at b i)) → cond (eqb (id_at b (offset_at b n)) id) (Some (offset_at b n)) (last_with b id n) ≡ Some (offset_at b i)
    go (yes m) ih = ap (λ (t : Bool). cond t (Some (offset_at b n)) (last_with b id n)) (ne_eqb _ _ (h n m (omega arith))) ∙ ih m
    go (no m) ih =
        let q : i ≡ n = omega arith in
        ap (λ (t : Bool). cond t (Some (offset_at b n)) (last_with b id n)) (eq-eqb _ _ (ap (λ (x : ℕ). id_at b (offset_at b x)) (sym q) ∙ e))
        ∙ ap (λ (x : ℕ). Some (offset_at b x)) (sym q)

-- and which of the two it is
pub data Sought (b : List ℕ) (id n : ℕ) : Type 0 where
  missing : ((i : ℕ) → i < n → id_at b (offset_at b i) ≢ id) → Sought b id n
  present : (i : ℕ) → i < n → id_at b (offset_at b i) ≡ id → ((j : ℕ) → i < j → j < n → id_at b (offset_at b j) ≢ id) → Sought b id n

pub sought : (b : List ℕ) (id n : ℕ) → Sought b id n
sought b id zero = missing (λ i l. absurd (omega arith))
sought b id (suc n) = go (ℕ_discrete (id_at b (offset_at b n)) id) (sought b id n)
  where
    go : Dec (id_at b (offset_at b n) ≡ id) → Sought b id n → Sought b id (suc n)
    go (yes e) s = present n (omega arith) e (λ j k l. absurd (omega arith))
    go (no e) (missing h) = missing (λ i l. at i l (dec_lt i n))
      where
        at : (i : ℕ) → i < suc n → Dec (i < n) → id_at b (offset_at b i) ≢ id
        at i l (yes m) = h i m
        at i l (no m) = let q : i ≡ n = omega arith in λ z. e (ap (λ (x : ℕ). id_at b (offset_at b x)) (sym q) ∙ z)
    go (no e) (present i l f h) = present i (omega arith) f (λ j k m. at j k m (dec_lt j n))
      where
        at : (j : ℕ) → i < j → j < suc n → Dec (j < n) → id_at b (offset_at b j) ≢ id
        at j k m (yes o) = h j k o
        at j k m (no o) = let q : j ≡ n = omega arith in λ z. e (ap (λ (x : ℕ). id_at b (offset_at b x)) (sym q) ∙ z)
