-- What the rows say of an ID: inside a range that they name, by computing; outside all of them, by one test a row.
-- Assumes nothing.
use mathlib.Core.Path.{◌≡◌, refl, sym, ap, ◌∙◌}
use mathlib.Core.Logic.{⊎_elim}
use mathlib.Core.Bool.{Bool, true, false, cond, ◌&&◌, ◌||◌, false≢true}
use mathlib.Core.List.{List, [], ◌∷◌}
use Prim.Native.Nat.{ℕ, zero, suc, ◌+◌, ◌-◌, ◌≤◌, ◌<◌}
use native.Mathlib.Nat.{not-suc-le-zero, le_of_suc-le-suc, eq-or-lt_of_le}
use native.Mathlib.Omega.{arith}
use lib.Dec.{ltb, leb}
use borrow.Author.Tests.{lt-leb, leb-true, ltb-true, ne_eqb}
use Rattle.elements.specs.declared.Row.{Row}
use Rattle.elements.specs.declared.Kind.TheVariants.{Unlisted}
use Rattle.elements.specs.Table.{table, names, find, kind_of}

-- ---- values computed below a number

abbrev pub upto : {A : Type 0} → (ℕ → A) → ℕ → List A
upto f zero = []
upto f (suc n) = f n ∷ upto f n

pub upto_at : {A : Type 0} (f g : ℕ → A) (n : ℕ) → upto f n ≡ upto g n → (k : ℕ) → k < n → f k ≡ g k
upto_at f g zero e k h = absurd (not-suc-le-zero h)
upto_at f g (suc n) e k h =
    let e0 : f n ≡ g n = cc in
    let e1 : upto f n ≡ upto g n = cc in
    ⊎_elim (λ (q : k ≡ n). ap f q ∙ e0 ∙ ap g (sym q)) (λ (l : k < n). upto_at f g n e1 k l) (eq-or-lt_of_le (le_of_suc-le-suc h))

-- so are those of a range, where the values are computed
pub inside : {A : Type 0} (f want : ℕ → A) (a n : ℕ) → upto (λ (k : ℕ). f (a + k)) n ≡ upto (λ (k : ℕ). want (a + k)) n
    → (i : ℕ) → a ≤ i → i < a + n → want i ≡ f i
inside f want a n e i low high =
    let h : i - a < n = omega arith in
    let q : a + (i - a) ≡ i = omega arith in
    ap want (sym q) ∙ sym (upto_at (λ (k : ℕ). f (a + k)) (λ (k : ℕ). want (a + k)) n e (i - a) h) ∙ ap f q

-- ---- no row names an ID from a on, below b

and_false : (t : Bool) → t && false ≡ false
and_false true = refl
and_false false = refl

abbrev misses : ℕ → ℕ → Row → Bool
misses a b r = ltb r.last a || leb b r.first

abbrev pub clear : ℕ → ℕ → List Row → Bool
clear a b [] = true
clear a b (r ∷ rs) = cond (misses a b r) (clear a b rs) false

cond_left : (t u : Bool) → cond t u false ≡ true → t ≡ true
cond_left true u e = refl
cond_left false u e = e

cond_right : (t u : Bool) → cond t u false ≡ true → u ≡ true
cond_right true u e = e
cond_right false u e = absurd (false≢true e)

unnamed : (a b id : ℕ) (r : Row) → misses a b r ≡ true → a ≤ id → id < b → names r id ≡ false
unnamed a b id r e low high = go (ltb r.last a) (leb b r.first) refl refl e
  where
    go : (t u : Bool) → ltb r.last a ≡ t → leb b r.first ≡ u → t || u ≡ true → names r id ≡ false
    go true u p q e = let h : r.last < id = omega (arith, ltb-true r.last a p) in simp (lt-leb _ _ h, and_false)
    go false true p q e = let h : id < r.first = omega (arith, leb-true b r.first q) in simp (lt-leb _ _ h)
    go false false p q e = absurd (false≢true e)

pub clear_head : (a b : ℕ) (r : Row) (rs : List Row) (id : ℕ) → clear a b (r ∷ rs) ≡ true → a ≤ id → id < b → names r id ≡ false
clear_head a b r rs id e low high = unnamed a b id r (cond_left (misses a b r) (clear a b rs) e) low high

pub clear_tail : (a b : ℕ) (r : Row) (rs : List Row) → clear a b (r ∷ rs) ≡ true → clear a b rs ≡ true
clear_tail a b r rs e = cond_right (misses a b r) (clear a b rs) e

pub outside : (rs : List Row) (a b : ℕ) → clear a b rs ≡ true → (id : ℕ) → a ≤ id → id < b → find rs id ≡ Unlisted
unfolding find
outside [] a b e id low high = refl
outside (r ∷ rs) a b e id low high =
    let here : names r id ≡ false = unnamed a b id r (cond_left (misses a b r) (clear a b rs) e) low high in
    let rest : find rs id ≡ Unlisted = outside rs a b (cond_right (misses a b r) (clear a b rs) e) id low high in
    simp (here, rest)

-- the same of an ID but 0, where the test is computed
pub nowhere : (a b : ℕ) → clear a b table ≡ true → (id : ℕ) → 0 < a → a ≤ id → id < b → Unlisted ≡ kind_of id
unfolding kind_of
nowhere a b e id pos low high =
    let h : id ≡ 0 → ⊥ = λ q. omega arith in
    sym (simp (ne_eqb _ _ h, outside table a b e id low high))
