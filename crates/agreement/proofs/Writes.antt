-- The accepted writes since the last accepted run: what they make of a store, one by one or in order of ID. No cache is in it.
-- Assumes nothing.
use mathlib.Core.Path.{◌≡◌, refl, sym, ap, ap₂, ◌∙◌, subst}
use mathlib.Core.Logic.{◌≢◌}
use mathlib.Core.Bool.{Bool, true, cond}
use mathlib.Core.List.{List, [], ◌∷◌, ◌++◌, append-nil}
use Prim.Native.Nat.{ℕ, zero, suc, ◌+◌, ◌≤◌, ◌<◌}
use native.Mathlib.Decide.{ℕ_discrete}
use native.Mathlib.Omega.{arith}
use lib.Dec.{eqb}
use lib.ListN.{length, length-append}
use borrow.Author.Tests.{eq-eqb, ne_eqb}
use Rattle.octets.specs.Bytes.{put, Clear}
use Rattle.octets.proofs.Bytes.{length_put, put_put, put_comm}
use Rattle.elements.specs.Table.{number_of, thread_element}
use Rattle.gsb.specs.Message.{element_bytes, elements_bytes}
use Rattle.gsb.proofs.Messages.{length_element, elements_append}
use Rattle.exits.specs.Exits.{element_of}
use Rattle.elements.specs.declared.Offer.{Offer}
use Rattle.elements.specs.declared.Offer.TheVariants.{Full}
use Rattle.l1.specs.Marks.{is_input}
use Rattle.agreement.specs.Agree.{newest, in_order}
use Rattle.l1.specs.Cache.{Fit}
use Rattle.l1.proofs.Cells.{Named, number_back, named_number, named_back, input_named, input_full, places_apart, value_of, value_other, weight}

-- one written to the slot whose values start at base
abbrev pub placed : ℕ → ℕ × List ℕ → List ℕ → List ℕ
placed base w s = put s (base + (element_of w.0).position) w.1

-- all of them, the oldest first; the newest stands first
unfoldable pub back : ℕ → List ℕ → List (ℕ × List ℕ) → List ℕ
back base s [] = s
back base s (w ∷ ws) = placed base w (back base s ws)

-- a list of elements, the first one first
unfoldable pub place : ℕ → List (ℕ × List ℕ) → List ℕ → List ℕ
place base [] s = s
place base (e ∷ es) s = place base es (placed base e s)

pub back_cons : (base : ℕ) (s : List ℕ) (w : ℕ × List ℕ) (ws : List (ℕ × List ℕ)) → back base s (w ∷ ws) ≡ placed base w (back base s ws)
unfolding back
back_cons base s w ws = refl

pub back_nil : (base : ℕ) (s : List ℕ) → back base s [] ≡ s
unfolding back
back_nil base s = refl

pub length_back : (base : ℕ) (s : List ℕ) (ws : List (ℕ × List ℕ)) → length (back base s ws) ≡ length s
unfolding back
length_back base s [] = refl
length_back base s (w ∷ ws) = length_put (back base s ws) (base + (element_of w.0).position) w.1 ∙ length_back base s ws

-- what holds of a store and of one with a value written into the slot
pub back_keeps : (o : Offer) (base : ℕ) (P : List ℕ → Type 0) → ((s : List ℕ) (w : ℕ × List ℕ) → is_input o w.0 ≡ true → length w.1 ≡ (element_of w.0).size → P s → P (placed base w s))
    → (s : List ℕ) (ws : List (ℕ × List ℕ)) → Fit o ws → P s → P (back base s ws)
unfolding back
back_keeps o base P h s [] f p = p
back_keeps o base P h s (w ∷ ws) f p = h (back base s ws) w f.0 f.1 (back_keeps o base P h s ws f.2 p)

-- ---- the newest of an ID
pub newest_same : (id : ℕ) (v : List ℕ) (ws : List (ℕ × List ℕ)) → newest ((id, v) ∷ ws) id ≡ (id, v) ∷ []
unfolding newest
newest_same id v ws = simp (eq-eqb id id refl)

pub newest_other : (w : ℕ × List ℕ) (id : ℕ) (ws : List (ℕ × List ℕ)) → w.0 ≢ id → newest (w ∷ ws) id ≡ newest ws id
unfolding newest
newest_other w id ws n = simp (ne_eqb w.0 id n)

-- none, or one that fits and names the ID
pub data Latest (o : Offer) (id : ℕ) : List (ℕ × List ℕ) → Type 0 where
  none : Latest o id []
  some : (v : List ℕ) → is_input o id ≡ true → length v ≡ (element_of id).size → Latest o id ((id, v) ∷ [])

pub latest : (o : Offer) (ws : List (ℕ × List ℕ)) (id : ℕ) → Fit o ws → Latest o id (newest ws id)
unfolding newest
latest o [] id f = none
latest o (w ∷ ws) id f = go (ℕ_discrete w.0 id) (latest o ws id f.2)
  where
    go : Dec (w.0 ≡ id) → Latest o id (newest ws id) → Latest o id (cond (eqb w.0 id) (w ∷ []) (newest ws id))
    go (yes q) ih =
        subst (λ (t : Bool). Latest o id (cond t (w ∷ []) (newest ws id))) (sym (eq-eqb w.0 id q))
        (subst (λ (i : ℕ). Latest o id ((i, w.1) ∷ [])) (sym q) (some w.1 (ap (is_input o) (sym q) ∙ f.0) (f.1 ∙ ap (λ (i : ℕ). (element_of i).size) q)))
    go (no n) ih = subst (λ (t : Bool). Latest o id (cond t (w ∷ []) (newest ws id))) (sym (ne_eqb w.0 id n)) ih

-- ---- reading an element of the written store
module _ (base : ℕ) (s : List ℕ) (room : base + 1820 ≤ length s) where
  back_room : (ws : List (ℕ × List ℕ)) → base + 1820 ≤ length (back base s ws)
  back_room ws = omega (arith, length_back base s ws)

  pub read_none : (o : Offer) (ws : List (ℕ × List ℕ)) (id : ℕ) → Fit o ws → Named id → newest ws id ≡ [] → value_of base (back base s ws) id ≡ value_of base s id
  unfolding back newest
  read_none o [] id f t e = refl
  read_none o (w ∷ ws) id f t e = go (ℕ_discrete w.0 id) (read_none o ws id f.2 t)
    where
      go : Dec (w.0 ≡ id) → (newest ws id ≡ [] → value_of base (back base s ws) id ≡ value_of base s id) → value_of base (placed base w (back base s ws)) id ≡ value_of base s id
      go (yes q) ih = let z : w ∷ [] ≡ [] = ap (λ (t : Bool). cond t (w ∷ []) (newest ws id)) (sym (eq-eqb w.0 id q)) ∙ e in let y : ◌≡◌ {A = ℕ} 0 1 = sym (ap length z) in absurd (omega arith)
      go (no n) ih =
          value_other base (back base s ws) w.0 id w.1 (input_named o w.0 f.0) t n f.1
          ∙ ih (ap (λ (t : Bool). cond t (w ∷ []) (newest ws id)) (sym (ne_eqb w.0 id n)) ∙ e)

-- ---- in order of ID
place_append : (base : ℕ) (xs ys : List (ℕ × List ℕ)) (s : List ℕ) → place base (xs ++ ys) s ≡ place base ys (place base xs s)
unfolding place
place_append base [] ys s = refl
place_append base (x ∷ xs) ys s = place_append base xs ys (placed base x s)

place_one : (base : ℕ) (w : ℕ × List ℕ) (s : List ℕ) → place base (w ∷ []) s ≡ placed base w s
unfolding place
place_one base w s = refl

place_none : (base : ℕ) (s : List ℕ) → place base [] s ≡ s
unfolding place
place_none base s = refl

-- a write over an older one of the same element, and beside one of another
module _ (o : Offer) (base : ℕ) (w : ℕ × List ℕ) (h : is_input o w.0 ≡ true) (l : length w.1 ≡ (element_of w.0).size) (s : List ℕ) where
  over : (es : List (ℕ × List ℕ)) → Latest o w.0 es → placed base w (place base es s) ≡ placed base w s
  over [] none = ap (placed base w) (place_none base s)
  over (e ∷ []) (some v a b) = ap (placed base w) (place_one base (w.0, v) s) ∙ put_put s (base + (element_of w.0).position) v w.1 (b ∙ sym l)
  over (e ∷ (_ ∷ _)) l' = elim l' [ ]

  beside : (id : ℕ) → w.0 ≢ id → (es : List (ℕ × List ℕ)) → Latest o id es → place base es (placed base w s) ≡ placed base w (place base es s)
  beside id n [] none = place_none base (placed base w s) ∙ sym (ap (placed base w) (place_none base s))
  beside id n (e ∷ (_ ∷ _)) l' = elim l' [ ]
  beside id n (e ∷ []) (some v a b) =
      place_one base (id, v) (placed base w s)
      ∙ put_comm s (base + (element_of w.0).position) w.1 (base + (element_of id).position) v (clear b (places_apart base w.0 id w.1 (input_named o w.0 h) (input_named o id a) n l))
      ∙ sym (ap (placed base w) (place_one base (id, v) s))
    where
      clear : length v ≡ (element_of id).size → Clear (base + (element_of w.0).position) (length w.1) (base + (element_of id).position) (element_of id).size
          → Clear (base + (element_of w.0).position) (length w.1) (base + (element_of id).position) (length v)
      clear q c = subst (Clear (base + (element_of w.0).position) (length w.1) (base + (element_of id).position)) (sym q) c

in_order_suc : (ws : List (ℕ × List ℕ)) (n : ℕ) → in_order ws (suc n) ≡ in_order ws n ++ newest ws (thread_element n).id
unfolding in_order
in_order_suc ws n = refl

place_suc : (base : ℕ) (ws : List (ℕ × List ℕ)) (n : ℕ) (s : List ℕ) → place base (in_order ws (suc n)) s ≡ place base (newest ws (thread_element n).id) (place base (in_order ws n) s)
place_suc base ws n s = ap (λ (es : List (ℕ × List ℕ)). place base es s) (in_order_suc ws n) ∙ place_append base (in_order ws n) (newest ws (thread_element n).id) s

-- one write more: those before its element are as they were, and it comes last of the rest
module _ (o : Offer) (base : ℕ) (w : ℕ × List ℕ) (ws : List (ℕ × List ℕ)) (f : Fit o (w ∷ ws)) (s : List ℕ) where
  differs : (n : ℕ) → n < 170 → n ≢ number_of w.0 → w.0 ≢ (thread_element n).id
  differs n k d q = d (sym (number_back n k) ∙ ap number_of (sym q))

  early : (n : ℕ) → n ≤ number_of w.0 → place base (in_order (w ∷ ws) n) s ≡ place base (in_order ws n) s
  unfolding in_order
  early zero k = refl
  early (suc n) k =
      let m = named_number w.0 (input_named o w.0 f.0) in
      let q = newest_other w (thread_element n).id ws (differs n (omega arith) (λ z. omega arith)) in
      place_suc base (w ∷ ws) n s ∙ ap₂ (λ (es : List (ℕ × List ℕ)) (x : List ℕ). place base es x) q (early n (omega arith)) ∙ sym (place_suc base ws n s)

  late : (n : ℕ) → number_of w.0 < n → n ≤ 170 → place base (in_order (w ∷ ws) n) s ≡ placed base w (place base (in_order ws n) s)
  late zero k m = absurd (omega arith)
  late (suc n) k m = go (ℕ_discrete n (number_of w.0)) (late n)
    where
      go : Dec (n ≡ number_of w.0) → (number_of w.0 < n → n ≤ 170 → place base (in_order (w ∷ ws) n) s ≡ placed base w (place base (in_order ws n) s))
          → place base (in_order (w ∷ ws) (suc n)) s ≡ placed base w (place base (in_order ws (suc n)) s)
      go (yes q) ih =
          let i : (thread_element n).id ≡ w.0 = ap (λ (e : ℕ). (thread_element e).id) q ∙ named_back w.0 (input_named o w.0 f.0) in
          place_suc base (w ∷ ws) n s
          ∙ ap₂ (λ (id : ℕ) (x : List ℕ). place base (newest (w ∷ ws) id) x) i (early n (omega arith))
          ∙ ap (λ (es : List (ℕ × List ℕ)). place base es (place base (in_order ws n) s)) (newest_same w.0 w.1 ws)
          ∙ place_one base w (place base (in_order ws n) s)
          ∙ sym (over o base w f.0 f.1 (place base (in_order ws n) s) (newest ws w.0) (latest o ws w.0 f.2))
          ∙ ap (λ (id : ℕ). placed base w (place base (newest ws id) (place base (in_order ws n) s))) (sym i)
          ∙ ap (placed base w) (sym (place_suc base ws n s))
      go (no d) ih =
          let n≢ = differs n (omega arith) d in
          place_suc base (w ∷ ws) n s
          ∙ ap₂ (λ (es : List (ℕ × List ℕ)) (x : List ℕ). place base es x) (newest_other w (thread_element n).id ws n≢) (ih (omega arith) (omega arith))
          ∙ beside o base w f.0 f.1 (place base (in_order ws n) s) (thread_element n).id n≢ (newest ws (thread_element n).id) (latest o ws (thread_element n).id f.2)
          ∙ ap (placed base w) (sym (place_suc base ws n s))

none_due : (base : ℕ) (s : List ℕ) (n : ℕ) → place base (in_order [] n) s ≡ s
unfolding in_order newest
none_due base s zero = place_none base s
none_due base s (suc n) = ap (λ (es : List (ℕ × List ℕ)). place base es s) (append-nil (in_order [] n)) ∙ none_due base s n

-- the writes one by one are the newest of each element in order of ID
pub back_newest : (o : Offer) (base : ℕ) (s : List ℕ) (ws : List (ℕ × List ℕ)) → Fit o ws → back base s ws ≡ place base (in_order ws 170) s
unfolding back
back_newest o base s [] f = sym (none_due base s 170)
back_newest o base s (w ∷ ws) f =
    ap (placed base w) (back_newest o base s ws f.2)
    ∙ sym (late o base w ws f s 170 (named_number w.0 (input_named o w.0 f.0)) (omega arith))

-- ---- how long the message is at most
pub due_length : (o : Offer) (ws : List (ℕ × List ℕ)) → Fit o ws → (n : ℕ) → n ≤ 170 → length (elements_bytes (in_order ws n)) ≤ weight n
unfolding in_order elements_bytes weight
due_length o ws f zero h = omega arith
due_length o ws f (suc n) h =
    let a = ap length (elements_append (in_order ws n) (newest ws (thread_element n).id)) ∙ length-append (elements_bytes (in_order ws n)) (elements_bytes (newest ws (thread_element n).id)) in
    let b = due_length o ws f n (omega arith) in
    let c = one (newest ws (thread_element n).id) (latest o ws (thread_element n).id f) in
    omega (arith, a, b, c)
  where
    back_size : (element_of (thread_element n).id).size ≡ (thread_element n).size
    back_size = ap (λ (e : ℕ). (thread_element e).size) (number_back n (omega arith))

    one : (es : List (ℕ × List ℕ)) → Latest o (thread_element n).id es → length (elements_bytes es) ≤ cond (is_input Full (thread_element n).id) (4 + (thread_element n).size) 0
    one [] none = omega arith
    one (e ∷ (_ ∷ _)) l = elim l [ ]
    one (e ∷ []) (some v a b) =
        let q : cond (is_input Full (thread_element n).id) (4 + (thread_element n).size) 0 ≡ 4 + (thread_element n).size = ap (λ (t : Bool). cond t (4 + (thread_element n).size) 0) (input_full o (thread_element n).id a) in
        let k = ap length (append-nil (element_bytes (thread_element n).id v)) ∙ length_element (thread_element n).id v in
        omega (arith, q, k, b, back_size)
