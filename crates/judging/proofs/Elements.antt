-- A buffer read as the list of its elements, and lists of elements. Assumes nothing.
use mathlib.Core.Path.{◌≡◌, refl, sym, ap, ap₂, ◌∙◌, subst}
use mathlib.Core.Bool.{Bool, true, false, ◌&&◌, ◌||◌, not, cond, false≢true}
use mathlib.Core.List.{List, [], ◌∷◌, ◌++◌}
use Prim.Native.Nat.{ℕ, zero, suc, ◌+◌, ◌≤◌, ◌<◌}
use native.Mathlib.Decide.{dec_le}
use native.Mathlib.Omega.{arith}
use lib.Dec.{eqb, ltb}
use lib.ListN.{length, take}
use lib.Seq.{take-suc, take-length}
use borrow.Author.Tests.{eq-eqb, ne_eqb, eqb-true, eqb-false, lt-ltb, le-ltb}
use Rattle.gsb.specs.Walk.{id_at, offset_at}
use Rattle.gsb.specs.Message.{message, Begins, Wire, elements_in}
use Rattle.gsb.proofs.Walks.{offset_suc, offset_up}
use Rattle.gsb.proofs.Shifted.{elements_none, elements_more}
use Rattle.gsb.proofs.RoundTrip.{message_count, message_id, message_value}
use Rattle.transfer.specs.Transfer.{value_at}
use Rattle.judging.specs.Judging.{elements_of, times, same, is_repeated}
use Rattle.judging.specs.Promised.{AllOf}

abbrev pub Element : Type 0
Element = ℕ × List ℕ

-- a buffer that begins with a message is read as its elements, whatever lies behind it
module _ (es : List Element) (b : List ℕ) (w : Wire es) (s : Begins b (message es)) where
  elements_read : (n : ℕ) → n ≤ length es → elements_in b n ≡ take n es
  elements_read zero h = elements_none b
  elements_read (suc n) h =
      let k : n < length es = omega arith in
      elements_more b n
      ∙ ap₂ (λ (xs : List Element) (x : Element). xs ++ (x ∷ [])) (elements_read n (omega arith))
      (ap₂ (λ (id : ℕ) (v : List ℕ). (id, v)) (message_id es b w s n k) (message_value es b w s n k))
      ∙ sym (take-suc es n (0, []) k)

  pub message_elements : elements_of b ≡ es
  message_elements = ap (elements_in b) (message_count es b w s) ∙ elements_read (length es) (omega arith) ∙ take-length es

-- ---- how often
pub times_none : (id : ℕ) → times id [] ≡ 0
unfolding times
times_none id = refl

pub times_append : (id : ℕ) (xs ys : List Element) → times id (xs ++ ys) ≡ times id xs + times id ys
unfolding times
times_append id [] ys = omega arith
times_append id (x ∷ xs) ys = let h = times_append id xs ys in omega (arith, h)

times_one : (id : ℕ) (e : Element) → times id (e ∷ []) ≡ cond (eqb e.0 id) 1 0
unfolding times
times_one id e = omega arith

pub times_more : (b : List ℕ) (id n : ℕ) → times id (elements_in b (suc n)) ≡ times id (elements_in b n) + cond (eqb (id_at b (offset_at b n)) id) 1 0
times_more b id n =
    ap (times id) (elements_more b n) ∙ times_append id (elements_in b n) ((id_at b (offset_at b n), value_at b (offset_at b n)) ∷ [])
    ∙ ap (λ (m : ℕ). times id (elements_in b n) + m) (times_one id (id_at b (offset_at b n), value_at b (offset_at b n)))

-- one more where the ID is the element's, else as many
pub times_hit : (b : List ℕ) (id n : ℕ) → id_at b (offset_at b n) ≡ id → times id (elements_in b (suc n)) ≡ times id (elements_in b n) + 1
times_hit b id n e = times_more b id n ∙ ap (λ (t : Bool). times id (elements_in b n) + cond t 1 0) (eq-eqb _ _ e)

pub times_miss : (b : List ℕ) (id n : ℕ) → (id_at b (offset_at b n) ≡ id → ⊥) → times id (elements_in b (suc n)) ≡ times id (elements_in b n)
times_miss b id n d = times_more b id n ∙ ap (λ (t : Bool). times id (elements_in b n) + cond t 1 0) (ne_eqb _ _ d) ∙ omega arith

pub times_up : (b : List ℕ) (id i n : ℕ) → i ≤ n → times id (elements_in b i) ≤ times id (elements_in b n)
times_up b id i zero h = let z : i ≡ 0 = omega arith in let e : times id (elements_in b i) ≡ times id (elements_in b 0) = ap (λ (k : ℕ). times id (elements_in b k)) z in omega arith
times_up b id i (suc n) h = go (dec_le i n) (times_up b id i n)
  where
    go : Dec (i ≤ n) → (i ≤ n → times id (elements_in b i) ≤ times id (elements_in b n)) → times id (elements_in b i) ≤ times id (elements_in b (suc n))
    go (yes k) ih = omega (arith, ih k, times_more b id n)
    go (no k) ih = let z : i ≡ suc n = omega arith in let e : times id (elements_in b i) ≡ times id (elements_in b (suc n)) = ap (λ (m : ℕ). times id (elements_in b m)) z in omega arith

-- ---- repeated: of the elements before element i one has its ID
repeat_suc : (b : List ℕ) (at n : ℕ) → is_repeated b at (suc n) ≡ ((ltb (offset_at b n) at && eqb (id_at b (offset_at b n)) (id_at b at)) || is_repeated b at n)
unfolding is_repeated
repeat_suc b at n = refl

repeat_none : (b : List ℕ) (at : ℕ) → is_repeated b at 0 ≡ false
unfolding is_repeated
repeat_none b at = refl

or_false : (a : Bool) → (a || false) ≡ a
or_false true = refl
or_false false = refl

module _ (b : List ℕ) (i : ℕ) where
  abbrev at : ℕ
  at = offset_at b i

  -- those before it
  repeat_before : (n : ℕ) → n ≤ i → is_repeated b at n ≡ not (eqb (times (id_at b at) (elements_in b n)) 0)
  repeat_before zero h = repeat_none b at ∙ sym (ap not (eq-eqb _ _ (ap (times (id_at b at)) (elements_none b) ∙ times_none (id_at b at))))
  repeat_before (suc n) h =
      let l : offset_at b n < offset_at b i = omega (arith, offset_up b (suc n) i h, offset_suc b n) in
      repeat_suc b at n
      ∙ ap₂ (λ (t u : Bool). (t && eqb (id_at b (offset_at b n)) (id_at b at)) || u) (lt-ltb _ _ l) (repeat_before n (omega arith))
      ∙ go (eqb (id_at b (offset_at b n)) (id_at b at)) refl
    where
      go : (t : Bool) → eqb (id_at b (offset_at b n)) (id_at b at) ≡ t
          → (t || not (eqb (times (id_at b at) (elements_in b n)) 0)) ≡ not (eqb (times (id_at b at) (elements_in b (suc n))) 0)
      go true p =
          let k = times_hit b (id_at b at) n (eqb-true _ _ p) in
          let d : times (id_at b at) (elements_in b (suc n)) ≡ 0 → ⊥ = λ z. omega (arith, k) in
          sym (ap not (ne_eqb _ _ d))
      go false p = ap (λ (m : ℕ). not (eqb m 0)) (sym (times_miss b (id_at b at) n (eqb-false _ _ p)))

  -- itself and those behind it make no difference
  repeat_behind : (n : ℕ) → i ≤ n → is_repeated b at n ≡ is_repeated b at i
  repeat_behind zero h = let z : 0 ≡ i = omega arith in ap (is_repeated b at) z
  repeat_behind (suc n) h = go (dec_le i n) (repeat_behind n)
    where
      go : Dec (i ≤ n) → (i ≤ n → is_repeated b at n ≡ is_repeated b at i) → is_repeated b at (suc n) ≡ is_repeated b at i
      go (yes k) ih =
          let l : offset_at b i ≤ offset_at b n = omega (arith, offset_up b i n k) in
          repeat_suc b at n ∙ ap (λ (t : Bool). (t && eqb (id_at b (offset_at b n)) (id_at b at)) || is_repeated b at n) (le-ltb _ _ l) ∙ ih k
      go (no k) ih = let z : suc n ≡ i = omega arith in ap (is_repeated b at) z

  pub repeated_before : (n : ℕ) → i ≤ n → is_repeated b at n ≡ not (eqb (times (id_at b at) (elements_in b i)) 0)
  repeated_before n h = repeat_behind n h ∙ repeat_before i (omega arith)

-- ---- of all
pub all_append : (P : Element → Type 0) (xs ys : List Element) → AllOf P xs → AllOf P ys → AllOf P (xs ++ ys)
all_append P [] ys a c = c
all_append P (x ∷ xs) ys a c = (a.0, all_append P xs ys a.1 c)

pub all_left : (P : Element → Type 0) (xs ys : List Element) → AllOf P (xs ++ ys) → AllOf P xs
all_left P [] ys a = tt
all_left P (x ∷ xs) ys a = (a.0, all_left P xs ys a.1)

pub all_right : (P : Element → Type 0) (xs ys : List Element) → AllOf P (xs ++ ys) → AllOf P ys
all_right P [] ys a = a
all_right P (x ∷ xs) ys a = all_right P xs ys a.1

pub all_map : (P Q : Element → Type 0) (xs : List Element) → ((e : Element) → P e → Q e) → AllOf P xs → AllOf Q xs
all_map P Q [] f a = tt
all_map P Q (x ∷ xs) f a = (f x a.0, all_map P Q xs f a.1)

-- element by element of a buffer
pub all_each : (P : Element → Type 0) (b : List ℕ) (n : ℕ) → AllOf P (elements_in b n) → (i : ℕ) → i < n → P (id_at b (offset_at b i), value_at b (offset_at b i))
all_each P b zero a i h = absurd (omega arith)
all_each P b (suc n) a i h = go (dec_le (suc i) n) (λ k. all_each P b n (all_left P (elements_in b n) _ both) i k)
  where
    both : AllOf P (elements_in b n ++ ((id_at b (offset_at b n), value_at b (offset_at b n)) ∷ []))
    both = subst (AllOf P) (elements_more b n) a

    go : Dec (suc i ≤ n) → (suc i ≤ n → P (id_at b (offset_at b i), value_at b (offset_at b i))) → P (id_at b (offset_at b i), value_at b (offset_at b i))
    go (yes k) ih = ih k
    go (no k) ih =
        let z : n ≡ i = omega arith in
        subst (λ (m : ℕ). P (id_at b (offset_at b m), value_at b (offset_at b m))) z (all_right P (elements_in b n) _ both).0

pub each_all : (P : Element → Type 0) (b : List ℕ) (n : ℕ) → ((i : ℕ) → i < n → P (id_at b (offset_at b i), value_at b (offset_at b i))) → AllOf P (elements_in b n)
each_all P b zero f = subst (AllOf P) (sym (elements_none b)) tt
each_all P b (suc n) f =
    subst (AllOf P) (sym (elements_more b n))
    (all_append P (elements_in b n) ((id_at b (offset_at b n), value_at b (offset_at b n)) ∷ []) (each_all P b n (λ i h. f i (omega arith))) (f n (omega arith), tt))

-- ---- bytes alike
pub and_both : (s t : Bool) → (s && t) ≡ true → (s ≡ true) × (t ≡ true)
and_both true t e = (refl, e)
and_both false t e = absurd (false≢true e)

pub same_is : (x y : List ℕ) → same x y ≡ true → x ≡ y
unfolding same
same_is [] [] e = refl
same_is [] (y ∷ ys) e = absurd (false≢true e)
same_is (x ∷ xs) [] e = absurd (false≢true e)
same_is (x ∷ xs) (y ∷ ys) e = let p = and_both (eqb x y) (same xs ys) e in ap₂ (λ (a : ℕ) (s : List ℕ). a ∷ s) (eqb-true x y p.0) (same_is xs ys p.1)

same_refl : (x : List ℕ) → same x x ≡ true
unfolding same
same_refl [] = refl
same_refl (x ∷ xs) = ap₂ (λ (s t : Bool). s && t) (eq-eqb x x refl) (same_refl xs)

pub is_same : (x y : List ℕ) → x ≡ y → same x y ≡ true
is_same x y e = ap (same x) (sym e) ∙ same_refl x

pub not_same : (x y : List ℕ) → (x ≡ y → ⊥) → same x y ≡ false
not_same x y n = go (same x y) refl
  where
    go : (t : Bool) → same x y ≡ t → same x y ≡ false
    go true e = absurd (n (same_is x y e))
    go false e = e
