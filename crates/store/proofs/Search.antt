-- `every`, `first` and `tally` as facts about each number. Assumes nothing.
use mathlib.Core.Path.{◌≡◌, refl, sym, ap, ap₂, ◌∙◌}
use mathlib.Core.Logic.{◌≢◌}
use mathlib.Core.Bool.{Bool, true, false, ◌&&◌, cond}
use Prim.Native.Nat.{ℕ, zero, suc, ◌+◌, ◌≤◌, ◌<◌}
use native.Mathlib.Omega.{arith}
use native.Mathlib.Nat.{not-suc-le-zero}
use native.Mathlib.Decide.{ℕ_discrete, dec_lt}
use Rattle.store.specs.Search.{every, first, tally}

pub no_bool : false ≡ true → ⊥
no_bool e = let z : ◌≡◌ {A = ℕ} 0 1 = cc in omega arith

pub both : (a b : Bool) → (a && b) ≡ true → (a ≡ true) × (b ≡ true)
both true b h = (refl, h)
both false b h = absurd (no_bool h)

-- ---- every
pub every_all : (p : ℕ → Bool) (n i : ℕ) → ((k : ℕ) → i ≤ k → k < i + n → p k ≡ true) → every p n i ≡ true
unfolding every
every_all p zero i h = refl
every_all p (suc n) i h = rw (h i (omega arith) (omega arith)) (every_all p n (i + 1) (λ k a b. h k (omega arith) (omega arith)))

pub every_at : (p : ℕ → Bool) (n i : ℕ) → every p n i ≡ true → (k : ℕ) → i ≤ k → k < i + n → p k ≡ true
unfolding every
every_at p zero i h k a b = absurd (omega arith)
every_at p (suc n) i h k a b = go (ℕ_discrete k i) (both (p i) (every p n (i + 1)) h) (every_at p n (i + 1))
  where
    go : Dec (k ≡ i) → (p i ≡ true) × (every p n (i + 1) ≡ true) → (every p n (i + 1) ≡ true → (k : ℕ) → i + 1 ≤ k → k < i + 1 + n → p k ≡ true) → p k ≡ true
    go (yes e) q ih = ap p e ∙ q.0
    go (no m) q ih = ih q.1 k (omega arith) (omega arith)

pub every_ext : (p q : ℕ → Bool) (n i : ℕ) → ((k : ℕ) → i ≤ k → k < i + n → p k ≡ q k) → every p n i ≡ every q n i
unfolding every
every_ext p q zero i h = refl
every_ext p q (suc n) i h = ap₂ ◌&&◌ (h i (omega arith) (omega arith)) (every_ext p q n (i + 1) (λ k a b. h k (omega arith) (omega arith)))

-- over more numbers, of which the further ones have q
pub every_more : (p q : ℕ → Bool) (n k i : ℕ) → n ≤ k → ((a : ℕ) → i ≤ a → a < i + n → q a ≡ p a) → ((a : ℕ) → i + n ≤ a → q a ≡ true) → every q k i ≡ every p n i
every_more p q n k i h same more = go (every p n i) (every q k i) refl refl
  where
    at : every p n i ≡ true → (a : ℕ) → i ≤ a → Dec (a < i + n) → q a ≡ true
    at e a x (yes y) = same a x y ∙ every_at p n i e a x y
    at e a x (no y) = more a (omega arith)

    go : (b c : Bool) → every p n i ≡ b → every q k i ≡ c → every q k i ≡ every p n i
    go true c e f = every_all q k i (λ a x y. at e a x (dec_lt a (i + n))) ∙ sym e
    go false false e f = f ∙ sym e
    go false true e f = f ∙ sym (every_all p n i (λ a x y. sym (same a x y) ∙ every_at q k i f a x (omega arith)))

-- ---- first
pub first_bounds : (p : ℕ → Bool) (n i : ℕ) → (i ≤ first p n i) × (first p n i ≤ i + n)
unfolding first
first_bounds p zero i = (omega arith, omega arith)
first_bounds p (suc n) i = go (p i) (first_bounds p n (i + 1))
  where
    go : (b : Bool) → (i + 1 ≤ first p n (i + 1)) × (first p n (i + 1) ≤ i + 1 + n) → (i ≤ cond b i (first p n (i + 1))) × (cond b i (first p n (i + 1)) ≤ i + suc n)
    go true q = (omega arith, omega arith)
    go false q = (omega (arith, q.0), omega (arith, q.1))

pub first_ext : (p q : ℕ → Bool) (n i : ℕ) → ((k : ℕ) → i ≤ k → k < i + n → p k ≡ q k) → first p n i ≡ first q n i
unfolding first
first_ext p q zero i h = refl
first_ext p q (suc n) i h = ap₂ (λ (t : Bool) (x : ℕ). cond t i x) (h i (omega arith) (omega arith)) (first_ext p q n (i + 1) (λ k a b. h k (omega arith) (omega arith)))

-- j has p, and none before it has
pub record Found (p : ℕ → Bool) (n i j : ℕ) : Type 0 where
  pub has : p j ≡ true
  pub above : i ≤ j
  pub below : j < i + n
  pub none : (k : ℕ) → i ≤ k → k < j → p k ≡ false

pub first_found : (p : ℕ → Bool) (n i : ℕ) → first p n i < i + n → Found p n i (first p n i)
unfolding first
first_found p zero i h = absurd (omega arith)
first_found p (suc n) i h = go (p i) refl h (first_found p n (i + 1))
  where
    go : (b : Bool) → p i ≡ b → cond b i (first p n (i + 1)) < i + suc n → (first p n (i + 1) < i + 1 + n → Found p n (i + 1) (first p n (i + 1)))
        → Found p (suc n) i (cond b i (first p n (i + 1)))
    go true e q ih = record { has = e; above = omega arith; below = omega arith; none = λ k a b. absurd (omega arith) }
    go false e q ih =
        let f = ih (omega arith) in
        record { has = f.has; above = omega (arith, f.above); below = omega (arith, f.below); none = λ k a b. at k a b (ℕ_discrete k i) f }
      where
        at : (k : ℕ) → i ≤ k → k < first p n (i + 1) → Dec (k ≡ i) → Found p n (i + 1) (first p n (i + 1)) → p k ≡ false
        at k a b (yes m) f = ap p m ∙ e
        at k a b (no m) f = f.none k (omega arith) b

pub found_first : (p : ℕ → Bool) (n i j : ℕ) → Found p n i j → first p n i ≡ j
unfolding first
found_first p zero i j f = absurd (omega (arith, f.above, f.below))
found_first p (suc n) i j f = go (ℕ_discrete i j) (found_first p n (i + 1) j)
  where
    go : Dec (i ≡ j) → (Found p n (i + 1) j → first p n (i + 1) ≡ j) → cond (p i) i (first p n (i + 1)) ≡ j
    go (yes e) ih = rw (ap p e ∙ f.has) e
    go (no m) ih = rw (f.none i (omega arith) (omega (arith, f.above)))
        (ih (record { has = f.has; above = omega (arith, f.above); below = omega (arith, f.below); none = λ k a b. f.none k (omega arith) b }))

-- over more numbers: where there is one among the first n, it is the same
pub first_more : (p q : ℕ → Bool) (n k i : ℕ) → n ≤ k → ((a : ℕ) → i ≤ a → a < i + n → q a ≡ p a) → first p n i < i + n → first q k i ≡ first p n i
first_more p q n k i h same lt =
    let f = first_found p n i lt in
    found_first q k i (first p n i) (record {
      has = same (first p n i) f.above f.below ∙ f.has;
      above = f.above;
      below = omega (arith, f.below, h);
      none = λ a x y. same a x (omega (arith, f.below)) ∙ f.none a x y;
    })

pub first_none : (p : ℕ → Bool) (n i : ℕ) → i + n ≤ first p n i → (k : ℕ) → i ≤ k → k < i + n → p k ≡ false
unfolding first
first_none p zero i h k a b = absurd (omega arith)
first_none p (suc n) i h k a b = go (p i) refl h (ℕ_discrete k i) (first_none p n (i + 1))
  where
    go : (t : Bool) → p i ≡ t → i + suc n ≤ cond t i (first p n (i + 1)) → Dec (k ≡ i)
        → (i + 1 + n ≤ first p n (i + 1) → (k : ℕ) → i + 1 ≤ k → k < i + 1 + n → p k ≡ false) → p k ≡ false
    go true e q d ih = absurd (omega arith)
    go false e q (yes m) ih = ap p m ∙ e
    go false e q (no m) ih = ih (omega arith) k (omega arith) (omega arith)

pub none_first : (p : ℕ → Bool) (n i : ℕ) → ((k : ℕ) → i ≤ k → k < i + n → p k ≡ false) → first p n i ≡ i + n
unfolding first
none_first p zero i h = omega arith
none_first p (suc n) i h =
    let r : first p n (i + 1) ≡ i + 1 + n = none_first p n (i + 1) (λ k a b. h k (omega arith) (omega arith)) in
    rw (h i (omega arith) (omega arith)) (omega arith)

-- ---- tally
pub tally_ext : (p q : ℕ → Bool) (n : ℕ) → ((k : ℕ) → k < n → p k ≡ q k) → tally p n ≡ tally q n
unfolding tally
tally_ext p q zero h = refl
tally_ext p q (suc n) h = ap₂ (λ (x : ℕ) (b : Bool). x + cond b 1 0) (tally_ext p q n (λ k l. h k (omega arith))) (h n (omega arith))

pub tally_more : (p q : ℕ → Bool) (n j : ℕ) → j < n → p j ≡ false → q j ≡ true → ((k : ℕ) → k < n → k ≢ j → p k ≡ q k) → tally q n ≡ tally p n + 1
unfolding tally
tally_more p q zero j l a b h = absurd (not-suc-le-zero l)
tally_more p q (suc n) j l a b h = go (ℕ_discrete j n) (tally_more p q n j)
  where
    go : Dec (j ≡ n) → (j < n → p j ≡ false → q j ≡ true → ((k : ℕ) → k < n → k ≢ j → p k ≡ q k) → tally q n ≡ tally p n + 1)
        → tally q n + cond (q n) 1 0 ≡ tally p n + cond (p n) 1 0 + 1
    go (yes e) ih =
        let x : p n ≡ false = ap p (sym e) ∙ a in
        let y : q n ≡ true = ap q (sym e) ∙ b in
        let z : tally p n ≡ tally q n = tally_ext p q n (λ k m. h k (omega arith) (omega arith)) in
        rw (x, y) (omega arith)
    go (no m) ih =
        let z : tally q n ≡ tally p n + 1 = ih (omega arith) a b (λ k c d. h k (omega arith) d) in
        let w : p n ≡ q n = h n (omega arith) (λ e. m (sym e)) in
        rw w (omega arith)

pub tally_none : (n : ℕ) → tally (λ k. false) n ≡ 0
unfolding tally
tally_none zero = refl
tally_none (suc n) = let x : tally (λ k. false) n ≡ 0 = tally_none n in omega arith

-- one alone has p
pub tally_one : (p : ℕ → Bool) (n j : ℕ) → j < n → p j ≡ true → ((k : ℕ) → k < n → k ≢ j → p k ≡ false) → tally p n ≡ 1
tally_one p n j l e h =
    let x : tally p n ≡ tally (λ k. false) n + 1 = tally_more (λ k. false) p n j l refl e (λ k a b. sym (h k a b)) in
    omega (arith, tally_none n)

tally_some : (p : ℕ → Bool) (n j : ℕ) → j < n → p j ≡ true → 1 ≤ tally p n
unfolding tally
tally_some p zero j l e = absurd (not-suc-le-zero l)
tally_some p (suc n) j l e = go (ℕ_discrete j n) (tally_some p n j)
  where
    go : Dec (j ≡ n) → (j < n → p j ≡ true → 1 ≤ tally p n) → 1 ≤ tally p n + cond (p n) 1 0
    go (yes q) ih = let x : p n ≡ true = ap p (sym q) ∙ e in rw x (omega arith)
    go (no m) ih = let x : 1 ≤ tally p n = ih (omega arith) e in omega arith

-- two have p
pub tally_two : (p : ℕ → Bool) (n i j : ℕ) → i < j → j < n → p i ≡ true → p j ≡ true → 2 ≤ tally p n
unfolding tally
tally_two p zero i j h l a b = absurd (not-suc-le-zero l)
tally_two p (suc n) i j h l a b = go (ℕ_discrete j n) (tally_two p n i j h)
  where
    go : Dec (j ≡ n) → (j < n → p i ≡ true → p j ≡ true → 2 ≤ tally p n) → 2 ≤ tally p n + cond (p n) 1 0
    go (yes q) ih =
        let x : p n ≡ true = ap p (sym q) ∙ b in
        let y : 1 ≤ tally p n = tally_some p n i (omega arith) a in
        rw x (omega arith)
    go (no m) ih = let x : 2 ≤ tally p n = ih (omega arith) a b in omega arith

-- where each number has r exactly if it has p or q, and none has both
pub tally_sum : (p q r : ℕ → Bool) (n : ℕ) → ((k : ℕ) → k < n → cond (p k) 1 0 + cond (q k) 1 0 ≡ cond (r k) 1 0) → tally p n + tally q n ≡ tally r n
unfolding tally
tally_sum p q r zero h = refl
tally_sum p q r (suc n) h =
    let x : tally p n + tally q n ≡ tally r n = tally_sum p q r n (λ k l. h k (omega arith)) in
    let y : cond (p n) 1 0 + cond (q n) 1 0 ≡ cond (r n) 1 0 = h n (omega arith) in
    omega arith

pub tally_all : (n : ℕ) → tally (λ k. true) n ≡ n
unfolding tally
tally_all zero = refl
tally_all (suc n) = let x : tally (λ k. true) n ≡ n = tally_all n in omega arith

-- the first one is no later than any that has p
pub first_le : (p : ℕ → Bool) (n i j : ℕ) → p j ≡ true → i ≤ j → j < i + n → first p n i ≤ j
first_le p n i j h a b = go (dec_lt j (first p n i))
  where
    go : Dec (j < first p n i) → first p n i ≤ j
    go (no m) = omega arith
    go (yes m) = absurd (no_bool (sym (before (dec_lt (first p n i) (i + n))) ∙ h))
      where
        before : Dec (first p n i < i + n) → p j ≡ false
        before (yes k) = (first_found p n i k).none j a m
        before (no k) = first_none p n i (omega arith) j a b
