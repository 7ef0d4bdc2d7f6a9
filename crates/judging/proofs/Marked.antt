-- The marks of what was there, beside the list of the elements that they are of; and the two loops over a row. Assumes nothing.
use mathlib.Core.Path.{◌≡◌, refl, sym, ap, ap₂, ◌∙◌}
use mathlib.Core.Bool.{Bool, true, false, cond, not, ◌||◌, ◌&&◌, true≢false}
use mathlib.Core.List.{List, [], ◌∷◌}
use Prim.Native.Nat.{ℕ, zero, suc, ◌+◌, ◌*◌, ◌/◌, ◌%◌, ◌^◌, ◌≤◌, ◌<◌}
use native.Mathlib.Nat.{one-mul, pow-suc, pow-succ', div-div-eq-div-mul}
use native.Mathlib.Numerals.{add-one}
use native.Mathlib.Omega.{arith}
use lib.Dec.{lit<, eqb, ltb}
use lib.ListN.{length, get_or, drop}
use lib.Pow.{shl_exact, pow_mono}
use lib.Seq.{drop-cons, drop-length}
use borrow.Author.Tests.{eq-eqb, ne_eqb, eqb-true, eqb-false, ltb-true}
use Rattle.answer.specs.declared.Fault.{Fault}
use Rattle.answer.specs.declared.Fault.TheVariants.{None as NoFault, Missing}
use Rattle.std.specs.Prelude.{Some, None}
use Rattle.gsb.specs.Walk.{id_at, offset_at}
use Rattle.gsb.specs.Message.{elements_in}
use Rattle.exits.specs.Exits.{valued}
use Rattle.exits.proofs.Written.{both}
use Rattle.judging.specs.Judging.{is_ours, times, lacking}
use Rattle.judging.specs.Private.{marks, standing, unmarked, missing_in, above, row_good, GoodIds}
use Rattle.judging.proofs.Elements.{Element, times_none, times_hit, times_miss}
use Rattle.judging.proofs.Rows.{good_id, above_absent}

-- ---- one step of each
marks_cons : (id : ℕ) (ids : List ℕ) (es : List Element) → marks (id ∷ ids) es ≡ cond (eqb (times id es) 0) 0 1 + 2 * marks ids es
unfolding marks
marks_cons id ids es = refl

standing_cons : (x : ℕ) (ids : List ℕ) (seen id j : ℕ) → standing (x ∷ ids) seen id j ≡ cond (eqb x id) (cond (eqb (seen % 2) 1) None (Some j)) (standing ids (seen / 2) id (j + 1))
unfolding standing
standing_cons x ids seen id j = refl

unmarked_cons : (id : ℕ) (ids : List ℕ) (seen : ℕ) → unmarked (id ∷ ids) seen ≡ cond (eqb (seen % 2) 1) (unmarked ids (seen / 2)) (Some id)
unfolding unmarked
unmarked_cons id ids seen = refl

-- the lowest bit, and what is above it
low_bit : (c m : ℕ) → c ≤ 1 → ((c + 2 * m) % 2 ≡ c) × ((c + 2 * m) / 2 ≡ m)
low_bit c m h = (omega arith, omega arith)

bit_small : (t : Bool) → cond t 0 1 ≤ 1
bit_small true = omega arith
bit_small false = omega arith

bit_is : (t : Bool) → eqb (cond t 0 1) 1 ≡ not t
bit_is true = refl
bit_is false = refl

module _ (id : ℕ) (ids : List ℕ) (es : List Element) where
  pub marks_low : eqb (marks (id ∷ ids) es % 2) 1 ≡ not (eqb (times id es) 0)
  marks_low =
      ap (λ (n : ℕ). eqb (n % 2) 1) (marks_cons id ids es) ∙ ap (λ (n : ℕ). eqb n 1) (low_bit (cond (eqb (times id es) 0) 0 1) (marks ids es) (bit_small (eqb (times id es) 0))).0
      ∙ bit_is (eqb (times id es) 0)

  pub marks_high : marks (id ∷ ids) es / 2 ≡ marks ids es
  marks_high = ap (λ (n : ℕ). n / 2) (marks_cons id ids es) ∙ (low_bit (cond (eqb (times id es) 0) 0 1) (marks ids es) (bit_small (eqb (times id es) 0))).1

marks_nil : (es : List Element) → marks [] es ≡ 0
unfolding marks
marks_nil es = refl

pub marks_none : (ids : List ℕ) → marks ids [] ≡ 0
marks_none [] = marks_nil []
marks_none (id ∷ ids) = marks_cons id ids [] ∙ ap₂ (λ (n m : ℕ). cond (eqb n 0) 0 1 + 2 * m) (times_none id) (marks_none ids)

pub marks_lt : (ids : List ℕ) (es : List Element) → marks ids es < 2 ^ length ids
marks_lt [] es = omega (arith, marks_nil es)
marks_lt (id ∷ ids) es =
    omega (arith, marks_cons id ids es, bit_small (eqb (times id es) 0), marks_lt ids es, pow-suc 2 (length ids))

-- where an ID stands in a row
abbrev pub place_of : List ℕ → ℕ → ℕ
place_of [] id = 0
place_of (x ∷ ids) id = cond (eqb x id) 0 (suc (place_of ids id))

module _ (base : ℕ) (s : List ℕ) where
  ours_cons : (x : ℕ) (ids : List ℕ) (id : ℕ) → is_ours (valued base s (x ∷ ids)) id ≡ (eqb x id || is_ours (valued base s ids) id)
  unfolding valued is_ours
  ours_cons x ids id = refl

  ours_nil : (id : ℕ) → is_ours (valued base s []) id ≡ false
  unfolding valued is_ours
  ours_nil id = refl

  lacking_cons : (x : ℕ) (ids : List ℕ) (es : List Element) → lacking (valued base s (x ∷ ids)) es ≡ cond (eqb (times x es) 0) (Missing x) (lacking (valued base s ids) es)
  unfolding valued lacking
  lacking_cons x ids es = refl

  lacking_nil : (es : List Element) → lacking (valued base s []) es ≡ NoFault
  unfolding valued lacking
  lacking_nil es = refl

  unmarked_nil : (seen : ℕ) → unmarked [] seen ≡ None
  unfolding unmarked
  unmarked_nil seen = refl

  standing_nil : (seen id j : ℕ) → standing [] seen id j ≡ None
  unfolding standing
  standing_nil seen id j = refl

  -- ---- what marks say
  pub marked_standing : (ids : List ℕ) (es : List Element) (id j : ℕ)
      → standing ids (marks ids es) id j ≡ cond (is_ours (valued base s ids) id && eqb (times id es) 0) (Some (j + place_of ids id)) None
  marked_standing [] es id j = standing_nil (marks [] es) id j ∙ sym (ap (λ (t : Bool). cond (t && eqb (times id es) 0) (Some (j + 0)) None) (ours_nil id))
  marked_standing (x ∷ ids) es id j =
      standing_cons x ids (marks (x ∷ ids) es) id j
      ∙ ap₂ (λ (t : Bool) (m : ℕ). cond (eqb x id) (cond t None (Some j)) (standing ids m id (j + 1))) (marks_low x ids es) (marks_high x ids es)
      ∙ go (eqb x id) refl (marked_standing ids es id (j + 1))
      ∙ ap (λ (t : Bool). cond (t && eqb (times id es) 0) (Some (j + cond (eqb x id) 0 (suc (place_of ids id)))) None) (sym (ours_cons x ids id))
    where
      here : (t : Bool) → cond (not t) None (Some j) ≡ cond t (Some (j + 0)) None
      here true = let z : j ≡ j + 0 = omega arith in ap Some z
      here false = refl

      go : (t : Bool) → eqb x id ≡ t → standing ids (marks ids es) id (j + 1) ≡ cond (is_ours (valued base s ids) id && eqb (times id es) 0) (Some (j + 1 + place_of ids id)) None
          → cond t (cond (not (eqb (times x es) 0)) None (Some j)) (standing ids (marks ids es) id (j + 1))
          ≡ cond ((t || is_ours (valued base s ids) id) && eqb (times id es) 0) (Some (j + cond t 0 (suc (place_of ids id)))) None
      go true p ih = ap (λ (n : ℕ). cond (not (eqb n 0)) None (Some j)) (ap (λ (i : ℕ). times i es) (eqb-true _ _ p)) ∙ here (eqb (times id es) 0)
      go false p ih = let z : j + 1 + place_of ids id ≡ j + suc (place_of ids id) = omega arith in ih ∙ ap (λ (n : ℕ). cond (is_ours (valued base s ids) id && eqb (times id es) 0) (Some n) None) z

  pub marked_lacking : (ids : List ℕ) (es : List Element) → missing_in (unmarked ids (marks ids es)) ≡ lacking (valued base s ids) es
  marked_lacking [] es = ap missing_in (unmarked_nil (marks [] es)) ∙ sym (lacking_nil es)
  marked_lacking (x ∷ ids) es =
      ap missing_in (unmarked_cons x ids (marks (x ∷ ids) es)
      ∙ ap₂ (λ (t : Bool) (m : ℕ). cond t (unmarked ids m) (Some x)) (marks_low x ids es) (marks_high x ids es))
      ∙ go (eqb (times x es) 0) ∙ ap (λ (f : Fault). cond (eqb (times x es) 0) (Missing x) f) (marked_lacking ids es) ∙ sym (lacking_cons x ids es)
    where
      go : (t : Bool) → missing_in (cond (not t) (unmarked ids (marks ids es)) (Some x)) ≡ cond t (Missing x) (missing_in (unmarked ids (marks ids es)))
      go true = refl
      go false = refl

  pub place_lt : (ids : List ℕ) (id : ℕ) → is_ours (valued base s ids) id ≡ true → place_of ids id < length ids
  place_lt [] id m = absurd (true≢false (sym m ∙ ours_nil id))
  place_lt (x ∷ ids) id m = go (eqb x id) (sym (ours_cons x ids id) ∙ m) (place_lt ids id)
    where
      go : (t : Bool) → (t || is_ours (valued base s ids) id) ≡ true → (is_ours (valued base s ids) id ≡ true → place_of ids id < length ids) → cond t 0 (suc (place_of ids id)) < length (x ∷ ids)
      go true q ih = omega arith
      go false q ih = omega (arith, ih q)

  -- ---- one element more
  module _ (b : List ℕ) (i : ℕ) where
    abbrev id : ℕ
    id = id_at b (offset_at b i)

    pub marks_same : (ids : List ℕ) → is_ours (valued base s ids) id ≡ false → marks ids (elements_in b (suc i)) ≡ marks ids (elements_in b i)
    marks_same [] m = marks_nil (elements_in b (suc i)) ∙ sym (marks_nil (elements_in b i))
    marks_same (x ∷ ids) m =
        let p = or_false (eqb x id) (is_ours (valued base s ids) id) (sym (ours_cons x ids id) ∙ m) in
        marks_cons x ids (elements_in b (suc i))
        ∙ ap₂ (λ (n k : ℕ). cond (eqb n 0) 0 1 + 2 * k) (times_miss b x i (λ q. eqb-false _ _ p.0 (sym q))) (marks_same ids p.1)
        ∙ sym (marks_cons x ids (elements_in b i))
      where
        or_false : (t u : Bool) → (t || u) ≡ false → (t ≡ false) × (u ≡ false)
        or_false true u e = absurd (true≢false e)
        or_false false u e = (refl, e)

    pub marks_more : (ids : List ℕ) → row_good ids ≡ true → is_ours (valued base s ids) id ≡ true → times id (elements_in b i) ≡ 0
        → marks ids (elements_in b (suc i)) ≡ marks ids (elements_in b i) + 2 ^ place_of ids id
    marks_more [] e m z = absurd (true≢false (sym m ∙ ours_nil id))
    marks_more (x ∷ ids) e m z =
        let g = good_id x ids e in
        marks_cons x ids (elements_in b (suc i)) ∙ go (eqb x id) refl (sym (ours_cons x ids id) ∙ m) (marks_more ids g.rest)
        ∙ ap (λ (n : ℕ). n + 2 ^ cond (eqb x id) 0 (suc (place_of ids id))) (sym (marks_cons x ids (elements_in b i)))
      where
        go : (t : Bool) → eqb x id ≡ t → (t || is_ours (valued base s ids) id) ≡ true
            → (is_ours (valued base s ids) id ≡ true → times id (elements_in b i) ≡ 0 → marks ids (elements_in b (suc i)) ≡ marks ids (elements_in b i) + 2 ^ place_of ids id)
            → cond (eqb (times x (elements_in b (suc i))) 0) 0 1 + 2 * marks ids (elements_in b (suc i))
            ≡ cond (eqb (times x (elements_in b i)) 0) 0 1 + 2 * marks ids (elements_in b i) + 2 ^ cond t 0 (suc (place_of ids id))
        go true p q ih =
            let a : x ≡ id = eqb-true _ _ p in
            let h = times_hit b x i (sym a) in
            let w : times x (elements_in b i) ≡ 0 = ap (λ (y : ℕ). times y (elements_in b i)) a ∙ z in
            let d : times x (elements_in b (suc i)) ≡ 0 → ⊥ = λ y. omega (arith, h, w) in
            let r = marks_same ids (ap (is_ours (valued base s ids)) (sym a) ∙ above_absent base s ids x (good_id x ids e).first) in
            ap₂ (λ (t : Bool) (n : ℕ). cond t 0 1 + 2 * n) (ne_eqb _ _ d) r
            ∙ sym (ap (λ (t : Bool). cond t 0 1 + 2 * marks ids (elements_in b i) + 1) (eq-eqb _ _ w) ∙ omega arith)
        go false p q ih =
            ap₂ (λ (n k : ℕ). cond (eqb n 0) 0 1 + 2 * k) (times_miss b x i (λ y. eqb-false _ _ p (sym y))) (ih q z)
            ∙ omega (arith, pow-suc 2 (place_of ids id))

-- ---- an ID by its place, which it has alone
above_at : (x : ℕ) (ids : List ℕ) (j : ℕ) → above x ids ≡ true → j < length ids → x < get_or ids j 0
above_at x [] j a h = absurd (omega arith)
above_at x (y ∷ ids) zero a h = ltb-true x y (both (ltb x y) (above x ids) a).0
above_at x (y ∷ ids) (suc j) a h = above_at x ids j (both (ltb x y) (above x ids) a).1 (omega arith)

standing_place : (ids : List ℕ) → row_good ids ≡ true → (seen n k j : ℕ) → j < length ids → get_or ids j 0 ≡ n
    → standing ids seen n k ≡ cond (eqb (seen / 2 ^ j % 2) 1) None (Some (k + j))
standing_place [] e seen n k j h q = absurd (omega arith)
standing_place (x ∷ ids) e seen n k zero h q =
    let a : seen % 2 ≡ seen / 2 ^ 0 % 2 = omega arith in
    let b : k ≡ k + 0 = omega arith in
    standing_cons x ids seen n k ∙ ap (λ (t : Bool). cond t (cond (eqb (seen % 2) 1) None (Some k)) (standing ids (seen / 2) n (k + 1))) (eq-eqb _ _ q)
    ∙ ap₂ (λ (i m : ℕ). cond (eqb i 1) None (Some m)) a b
standing_place (x ∷ ids) e seen n k (suc j) h q =
    let g = good_id x ids e in
    let l : x < get_or ids j 0 = above_at x ids j g.first (omega arith) in
    let d : x ≡ n → ⊥ = λ z. omega (arith, l, q) in
    let a : seen / 2 / 2 ^ j ≡ seen / 2 ^ suc j = div-div-eq-div-mul seen 2 (2 ^ j) ∙ ap (λ (i : ℕ). seen / i) (sym (pow-succ' 2 j)) in
    let b : k + 1 + j ≡ k + suc j = omega arith in
    standing_cons x ids seen n k ∙ ap (λ (t : Bool). cond t (cond (eqb (seen % 2) 1) None (Some k)) (standing ids (seen / 2) n (k + 1))) (ne_eqb _ _ d)
    ∙ standing_place ids g.rest (seen / 2) n (k + 1) j (omega arith) q
    ∙ ap₂ (λ (i m : ℕ). cond (eqb (i % 2) 1) None (Some m)) a b

-- an ID that is none of them is not new
pub stand_none : (ids : List ℕ) (seen id j : ℕ) → ((k : ℕ) → k < length ids → get_or ids k 0 ≡ id → ⊥) → None ≡ standing ids seen id j
stand_none [] seen id j f = sym (standing_nil 0 [] seen id j)
stand_none (x ∷ ids) seen id j f =
    sym (standing_cons x ids seen id j ∙ ap (λ (t : Bool). cond t (cond (eqb (seen % 2) 1) None (Some j)) (standing ids (seen / 2) id (j + 1))) (ne_eqb _ _ (f 0 (omega arith)))
    ∙ sym (stand_none ids (seen / 2) id (j + 1) (λ k h. f (suc k) (omega arith))))

-- ---- the IDs that an exit returns
module _ (ids : List ℕ) (g : GoodIds ids) where
  -- the ID at place j
  stand_at : (seen n j : ℕ) → j < length ids → get_or ids j 0 ≡ n → standing ids seen n 0 ≡ cond (eqb (seen / 2 ^ j % 2) 1) None (Some j)
  stand_at seen n j h e = standing_place ids g.good seen n 0 j h e ∙ ap (λ (m : ℕ). cond (eqb (seen / 2 ^ j % 2) 1) None (Some m)) (omega arith)

  pub stand_seen : (seen n j : ℕ) → j < length ids → get_or ids j 0 ≡ n → seen / 2 ^ j % 2 ≡ 1 → None ≡ standing ids seen n 0
  stand_seen seen n j h e q = sym (stand_at seen n j h e ∙ ap (λ (t : Bool). cond t None (Some j)) (eq-eqb _ _ q))

  pub stand_new : (seen n j : ℕ) → j < length ids → get_or ids j 0 ≡ n → (seen / 2 ^ j % 2 ≡ 1 → ⊥) → Some j ≡ standing ids seen n 0
  stand_new seen n j h e q = sym (stand_at seen n j h e ∙ ap (λ (t : Bool). cond t None (Some j)) (ne_eqb _ _ q))

pub ruleset by_place = (stand_none, stand_seen, stand_new)

-- ---- the loop over them
module _ (ids : List ℕ) (seen j : ℕ) (e : unmarked ids seen ≡ unmarked (drop j ids) (seen / 2 ^ j)) where
  next_mark : j < length ids → unmarked ids seen ≡ cond (eqb (seen / 2 ^ j % 2) 1) (unmarked (drop (j + 1) ids) (seen / 2 ^ j / 2)) (Some (get_or ids j 0))
  next_mark h =
      e ∙ ap (λ (x : List ℕ). unmarked x (seen / 2 ^ j)) (drop-cons ids j 0 h ∙ ap (λ (n : ℕ). get_or ids j 0 ∷ drop n ids) (sym (add-one j)))
      ∙ unmarked_cons (get_or ids j 0) (drop (j + 1) ids) (seen / 2 ^ j)

  pub mark_hit : j < length ids → seen / 2 ^ j % 2 ≡ 0 → Some (get_or ids j 0) ≡ unmarked ids seen
  mark_hit h r =
      let d : seen / 2 ^ j % 2 ≡ 1 → ⊥ = λ z. omega (arith, r, z) in
      sym (next_mark h ∙ ap (λ (t : Bool). cond t (unmarked (drop (j + 1) ids) (seen / 2 ^ j / 2)) (Some (get_or ids j 0))) (ne_eqb _ _ d))

  pub mark_more : j < length ids → (seen / 2 ^ j % 2 ≡ 0 → ⊥) → unmarked ids seen ≡ unmarked (drop (j + 1) ids) (seen / 2 ^ (j + 1))
  mark_more h r =
      let d : seen / 2 ^ j % 2 ≡ 1 = omega (arith, r) in
      let q : seen / 2 ^ j / 2 ≡ seen / 2 ^ (j + 1) = div-div-eq-div-mul seen (2 ^ j) 2 ∙ ap (λ (i : ℕ). seen / i) (sym (pow-suc' j)) in
      next_mark h ∙ ap (λ (t : Bool). cond t (unmarked (drop (j + 1) ids) (seen / 2 ^ j / 2)) (Some (get_or ids j 0))) (eq-eqb _ _ d)
      ∙ ap (unmarked (drop (j + 1) ids)) q
    where
      pow-suc' : (n : ℕ) → 2 ^ (n + 1) ≡ 2 ^ n * 2
      pow-suc' n = ap (λ (k : ℕ). 2 ^ k) (add-one n) ∙ pow-suc 2 n

  pub mark_end : j ≤ length ids → length ids ≤ j → None ≡ unmarked ids seen
  mark_end k h =
      let z : j ≡ length ids = omega arith in
      sym (e ∙ ap (λ (x : List ℕ). unmarked x (seen / 2 ^ j)) (ap (λ (n : ℕ). drop n ids) z ∙ drop-length ids) ∙ unmarked_nil 0 [] (seen / 2 ^ j))

pub mark_begin : (ids : List ℕ) (seen : ℕ) → unmarked ids seen ≡ unmarked (drop 0 ids) (seen / 2 ^ 0)
mark_begin ids seen = ap (unmarked ids) (omega arith)

-- a mark as the code makes it
pub one_shifted : (k : ℕ) → k < 64 → 1 * 2 ^ k % 2 ^ 64 ≡ 2 ^ k
one_shifted k h = shl_exact 1 k 64 (lit< tt) (omega arith) ∙ one-mul (2 ^ k)

pub mark_fits : (ids : List ℕ) (es : List Element) (k : ℕ) → length ids ≤ 10 → k < length ids → marks ids es + 2 ^ k < 2 ^ 64
mark_fits ids es k h l =
    let m : 2 ^ length ids ≤ 2 ^ 10 = pow_mono h in
    let n : 2 ^ k ≤ 2 ^ 10 = pow_mono {i = k} {j = 10} (omega arith) in
    omega (arith, marks_lt ids es)
