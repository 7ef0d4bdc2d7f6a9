-- The changed elements, from mark to mark: one law of a turn serves the walk that counts their bytes and the one that writes them.
-- Assumes nothing.
use mathlib.Core.Path.{◌≡◌, refl, sym, ap, ap₂, ◌∙◌}
use mathlib.Core.Bool.{Bool, true, false, not, ◌&&◌, ◌||◌, cond}
use mathlib.Core.List.{List, [], ◌∷◌, ◌++◌, append-nil}
use Prim.Native.Nat.{ℕ, zero, suc, ◌+◌, ◌-◌, ◌*◌, ◌^◌, min, ◌≤◌, ◌<◌}
use native.Mathlib.Decide.{dec_lt}
use native.Mathlib.Omega.{arith}
use lib.Dec.{eqb, ltb}
use lib.ListN.{length, length-append}
use borrow.Author.Tests.{le-ltb, not-true}
use Rattle.octets.specs.Bytes.{bytes_at, put, digits}
use Rattle.octets.proofs.Bytes.{length_bytes_at, length_put}
use Rattle.elements.specs.declared.Offer.{Offer}
use Rattle.elements.specs.declared.Element.{Element}
use Rattle.elements.specs.Table.{thread_element}
use Rattle.gsb.specs.Message.{element_bytes, elements_bytes, message}
use Rattle.gsb.proofs.Messages.{length_more, elements_none, elements_more, message_put, length_message}
use Rattle.exits.specs.Exits.{weigh, row_bytes, valued}
use Rattle.exits.proofs.Written.{weigh_append, valued_append, length_valued}
use Rattle.store.specs.Layout.{slot_bytes}
use Rattle.store.specs.Search.{every, first, tally}
use Rattle.store.proofs.Search.{no_bool, both, every_at, first_bounds, first_found, found_first, first_none}
use Rattle.l1.specs.declared.Mark.{Mark}
use Rattle.l1.specs.Marks.{Cache, is_marked, valid, changed, is_input, mark_good, good_cache}
use Rattle.l1.specs.Cache.{chosen, pending}
use Rattle.l1.specs.Private.{is_changed, behind, at_of, left_of, MarkFrom}
use Rattle.std.specs.Prelude.{Some, Option}
use Rattle.l1.proofs.Marking.{values_long}
use Rattle.l1.proofs.Values.{number_inside, number_small, number_back}

-- ---- the chosen ones
pub chosen_skip : (p : ℕ → Bool) (a d : ℕ) → ((j : ℕ) → a ≤ j → j < a + d → p j ≡ false) → chosen p (a + d) ≡ chosen p a
unfolding chosen
chosen_skip p a zero f = let e : a + 0 ≡ a = omega arith in ap (chosen p) e
chosen_skip p a (suc d) f =
    let e : a + suc d ≡ suc (a + d) = omega arith in
    ap (chosen p) e ∙ ap (λ (b : Bool). chosen p (a + d) ++ cond b ((thread_element (a + d)).id ∷ []) []) (f (a + d) (omega arith) (omega arith)) ∙ append-nil (chosen p (a + d))
    ∙ chosen_skip p a d (λ j x y. f j x (omega arith))

pub chosen_more : (p : ℕ → Bool) (n : ℕ) → p n ≡ true → chosen p (suc n) ≡ chosen p n ++ ((thread_element n).id ∷ [])
unfolding chosen
chosen_more p n e = ap (λ (b : Bool). chosen p n ++ cond b ((thread_element n).id ∷ []) []) e

chosen_same : (p : ℕ → Bool) (n : ℕ) → p n ≡ false → chosen p (suc n) ≡ chosen p n
unfolding chosen
chosen_same p n e = ap (λ (b : Bool). chosen p n ++ cond b ((thread_element n).id ∷ []) []) e ∙ append-nil (chosen p n)

pub length_chosen : (p : ℕ → Bool) (n : ℕ) → length (chosen p n) ≡ tally p n
unfolding chosen tally
length_chosen p zero = refl
length_chosen p (suc n) = length-append (chosen p n) (cond (p n) ((thread_element n).id ∷ []) []) ∙ ap₂ (λ (a b : ℕ). a + b) (length_chosen p n) (go (p n))
  where
    go : (b : Bool) → length (cond b ((thread_element n).id ∷ []) []) ≡ cond b 1 0
    go true = refl
    go false = refl

pub chosen_few : (p : ℕ → Bool) (n : ℕ) → length (chosen p n) ≤ n
unfolding chosen
chosen_few p zero = omega arith
chosen_few p (suc n) = omega (arith, length-append (chosen p n) (cond (p n) ((thread_element n).id ∷ []) []), chosen_few p n, one (p n))
  where
    one : (t : Bool) → length (cond t ((thread_element n).id ∷ []) []) ≤ 1
    one true = omega arith
    one false = omega arith

weigh_one : (e : ℕ) → e < 170 → weigh ((thread_element e).id ∷ []) ≡ 4 + (thread_element e).size
unfolding weigh
weigh_one e h = omega (arith, ap (λ (x : Element). x.size) (number_back e h))

weigh_next : (p : ℕ → Bool) (n : ℕ) → n < 170 → p n ≡ true → weigh (chosen p (suc n)) ≡ weigh (chosen p n) + 4 + (thread_element n).size
weigh_next p n h e = ap weigh (chosen_more p n e) ∙ weigh_append (chosen p n) ((thread_element n).id ∷ []) ∙ omega (arith, weigh_one n h)

pub weigh_more : (p : ℕ → Bool) (n : ℕ) → n < 170 → weigh (chosen p (suc n)) ≡ weigh (chosen p n) + cond (p n) (4 + (thread_element n).size) 0
weigh_more p n h = go (p n) refl
  where
    go : (b : Bool) → p n ≡ b → weigh (chosen p (suc n)) ≡ weigh (chosen p n) + cond b (4 + (thread_element n).size) 0
    go true e = omega (arith, weigh_next p n h e)
    go false e = omega (arith, ap weigh (chosen_same p n e))

pub weigh_few : (p : ℕ → Bool) (n : ℕ) → n ≤ 170 → weigh (chosen p n) ≤ 28 * n
unfolding weigh chosen
weigh_few p zero h = omega arith
weigh_few p (suc n) h = omega (arith, weigh_more p n (omega arith), weigh_few p n (omega arith), one (p n))
  where
    one : (b : Bool) → cond b (4 + (thread_element n).size) 0 ≤ 28
    one true = omega (arith, number_small n (omega arith))
    one false = omega arith

weigh_past : (p : ℕ → Bool) (n : ℕ) → weigh (chosen p n) ≤ weigh (chosen p (suc n))
unfolding chosen
weigh_past p n = omega (arith, weigh_append (chosen p n) (cond (p n) ((thread_element n).id ∷ []) []))

weigh_upto : (p : ℕ → Bool) (a d : ℕ) → weigh (chosen p a) ≤ weigh (chosen p (a + d))
weigh_upto p a zero = let e : a ≡ a + 0 = omega arith in omega (arith, ap (λ (n : ℕ). weigh (chosen p n)) e)
weigh_upto p a (suc d) =
    let e : suc (a + d) ≡ a + suc d = omega arith in
    omega (arith, weigh_upto p a d, weigh_past p (a + d), ap (λ (n : ℕ). weigh (chosen p n)) e)

-- their values
abbrev value_of : List ℕ → ℕ → List ℕ
value_of vs e = bytes_at vs (thread_element e).position (thread_element e).size

valued_more : (vs : List ℕ) (p : ℕ → Bool) (n : ℕ) → n < 170 → p n ≡ true → valued 0 vs (chosen p (suc n)) ≡ valued 0 vs (chosen p n) ++ (((thread_element n).id, value_of vs n) ∷ [])
unfolding valued
valued_more vs p n h e =
    let z : (x : Element) → bytes_at vs (0 + x.position) x.size ≡ bytes_at vs x.position x.size = λ x. ap (λ (k : ℕ). bytes_at vs k x.size) (from x) in
    ap (valued 0 vs) (chosen_more p n e) ∙ valued_append 0 vs (chosen p n) ((thread_element n).id ∷ [])
    ∙ ap (λ (v : List ℕ). valued 0 vs (chosen p n) ++ (((thread_element n).id, v) ∷ [])) (ap (λ (x : Element). bytes_at vs (0 + x.position) x.size) (number_back n h) ∙ z (thread_element n))
  where
    from : (x : Element) → 0 + x.position ≡ x.position
    from x = omega arith

pub weighed : (vs : List ℕ) (p : ℕ → Bool) (n : ℕ) → length vs ≡ 1820 → n ≤ 170 → length (elements_bytes (valued 0 vs (chosen p n))) ≡ weigh (chosen p n)
unfolding chosen valued elements_bytes weigh
weighed vs p zero l h = refl
weighed vs p (suc n) l h = go (p n) refl (weighed vs p n l (omega arith))
  where
    go : (b : Bool) → p n ≡ b → length (elements_bytes (valued 0 vs (chosen p n))) ≡ weigh (chosen p n) → length (elements_bytes (valued 0 vs (chosen p (suc n)))) ≡ weigh (chosen p (suc n))
    go true e k =
        let m : n < 170 = omega arith in
        ap (λ (es : List (ℕ × List ℕ)). length (elements_bytes es)) (valued_more vs p n m e) ∙ length_more (valued 0 vs (chosen p n)) (thread_element n).id (value_of vs n)
        ∙ omega (arith, k, length_bytes_at vs (thread_element n).position (thread_element n).size (omega (arith, number_inside n m)), weigh_next p n m e)
    go false e k =
        let q = chosen_same p n e in
        ap (λ (ids : List ℕ). length (elements_bytes (valued 0 vs ids))) q ∙ k ∙ ap weigh (sym q)

-- ---- from mark to mark
module _ (p : ℕ → Bool) (n f i : ℕ) (e : i ≡ first p n f) where
  pub first_clear : (j : ℕ) → f ≤ j → j < i → p j ≡ false
  first_clear j a b = go (dec_lt (first p n f) (f + n))
    where
      go : Dec (first p n f < f + n) → p j ≡ false
      go (yes h) = (first_found p n f h).none j a (omega arith)
      go (no h) = first_none p n f (omega arith) j a (omega (arith, (first_bounds p n f).1))

  pub first_has : i < f + n → p i ≡ true
  first_has h = ap p e ∙ (first_found p n f (omega arith)).has

  pub first_again : i ≡ first p (f + n - i) i
  unfolding first
  first_again = go (dec_lt i (f + n))
    where
      go : Dec (i < f + n) → i ≡ first p (f + n - i) i
      go (yes h) = sym (found_first p (f + n - i) i i (record { has = first_has h; above = omega arith; below = omega arith; none = λ k a b. absurd (omega arith) }))
      go (no h) = let z : f + n - i ≡ 0 = omega (arith, (first_bounds p n f).1) in sym (ap (λ (m : ℕ). first p m i) z)

-- how many elements stand before mark i
abbrev pub reached : ℕ → ℕ
reached i = min (i - 192) 170

-- the mark that a search found is the first from itself on
pub mark_here : (m : List ℕ) (f : ℕ) (x : Option Mark) → MarkFrom m f x → (at_of x) ≡ first (is_marked m) (384 - (at_of x)) (at_of x)
mark_here m f x k =
    let q : f + (384 - f) - (at_of x) ≡ 384 - (at_of x) = omega (arith, k.above, k.within) in
    first_again (is_marked m) (384 - f) f (at_of x) k.at ∙ ap (λ (n : ℕ). first (is_marked m) n (at_of x)) q

pub mark_left : (m : List ℕ) (f : ℕ) (x : Option Mark) → MarkFrom m f x → (left_of x) ≡ behind m (at_of x)
mark_left m f x k = k.left

pub mark_above : (m : List ℕ) (f n : ℕ) (x : Option Mark) → MarkFrom m f x → n ≤ f → n ≤ (at_of x)
mark_above m f n x k h = omega (arith, k.above)

pub mark_within : (m : List ℕ) (f : ℕ) (x : Option Mark) → MarkFrom m f x → (at_of x) ≤ 384
mark_within m f x k = k.within

pub mark_there : (m : List ℕ) (f : ℕ) (x : Option Mark) → MarkFrom m f x → (y : Mark) → x ≡ Some y → y.at < 384
mark_there m f x k = k.there

-- none before the first mark
pub chosen_none : (m : List ℕ) (x : Option Mark) → MarkFrom m 192 x → chosen (is_changed m) (reached (at_of x)) ≡ []
unfolding chosen
chosen_none m x k =
    let q : reached (at_of x) ≡ 0 + reached (at_of x) = omega arith in
    ap (chosen (is_changed m)) q ∙ chosen_skip (is_changed m) 0 (reached (at_of x)) (λ j a b. first_clear (is_marked m) 192 192 (at_of x) k.at (192 + j) (omega arith) (omega arith))

-- the turn: one more
module _ (m : List ℕ) (i : ℕ) (y : Option Mark) (low : 192 ≤ i) (high : i < 362) (e : i ≡ first (is_marked m) (384 - i) i) where
  pub marked_here : is_changed m (i - 192) ≡ true
  marked_here = let q : 192 + (i - 192) ≡ i = omega arith in ap (is_marked m) q ∙ first_has (is_marked m) (384 - i) i i e (omega arith)

  pub here : reached i ≡ i - 192
  here = omega arith

  pub chosen_turn : MarkFrom m (i + 1) y → chosen (is_changed m) (reached (at_of y)) ≡ chosen (is_changed m) (suc (i - 192))
  chosen_turn k =
      let q : reached (at_of y) ≡ suc (i - 192) + (reached (at_of y) - suc (i - 192)) = omega (arith, k.above) in
      ap (chosen (is_changed m)) q ∙ chosen_skip (is_changed m) (suc (i - 192)) (reached (at_of y) - suc (i - 192)) (λ x a b. first_clear (is_marked m) (384 - (i + 1)) (i + 1) (at_of y) k.at (192 + x) (omega arith) (omega arith))

  module _ (x : Element) (at : ℕ) (t : x ≡ thread_element (i - 192)) (w : at ≡ 4 + weigh (chosen (is_changed m) (reached i))) where
    same_size : x.size ≡ (thread_element (i - 192)).size
    same_size = ap (λ (y : Element). y.size) t

    next_weigh : at + 4 + x.size ≡ 4 + weigh (chosen (is_changed m) (suc (i - 192)))
    next_weigh = omega (arith, w, same_size, ap (λ (n : ℕ). weigh (chosen (is_changed m) n)) here, weigh_next (is_changed m) (i - 192) (omega arith) marked_here)

    pub walk_at : (a : ℕ) → a ≡ at + 4 + x.size → MarkFrom m (i + 1) y → a ≡ 4 + weigh (chosen (is_changed m) (reached (at_of y)))
    walk_at a u k = u ∙ next_weigh ∙ ap (λ (ids : List ℕ). 4 + weigh ids) (sym (chosen_turn k))

    pub walk_room : (n l : ℕ) → row_bytes (chosen (is_changed m) 170) ≤ n → l ≡ n → at + 4 + x.size ≤ l
    walk_room n l r s =
        let q : suc (i - 192) + (170 - suc (i - 192)) ≡ 170 = omega arith in
        omega (arith, r, next_weigh, weigh_upto (is_changed m) (suc (i - 192)) (170 - suc (i - 192)), ap (λ (k : ℕ). weigh (chosen (is_changed m) k)) q)

    pub walk_put : (vs b u v : List ℕ) → length vs ≡ 1820 → u ≡ put b 4 (elements_bytes (valued 0 vs (chosen (is_changed m) (reached i)))) → v ≡ put u at (element_bytes x.id (bytes_at vs x.position x.size))
        → MarkFrom m (i + 1) y → v ≡ put b 4 (elements_bytes (valued 0 vs (chosen (is_changed m) (reached (at_of y)))))
    walk_put vs b u v l p q k =
        let n = i - 192 in
        let s : at ≡ 4 + length (elements_bytes (valued 0 vs (chosen (is_changed m) (i - 192)))) = w ∙ ap (λ (y : ℕ). 4 + weigh (chosen (is_changed m) y)) here ∙ ap (λ (y : ℕ). 4 + y) (sym (weighed vs (is_changed m) n l (omega arith))) in
        elements_more b 4 (valued 0 vs (chosen (is_changed m) n)) u v at (thread_element n).id (value_of vs n) (p ∙ ap (λ (y : ℕ). put b 4 (elements_bytes (valued 0 vs (chosen (is_changed m) y)))) here) s
        (q ∙ ap (λ (y : Element). put u at (element_bytes y.id (bytes_at vs y.position y.size))) t)
        ∙ ap (λ (es : List (ℕ × List ℕ)). put b 4 (elements_bytes es)) (sym (valued_more vs (is_changed m) n (omega arith) marked_here))
        ∙ ap (λ (ids : List ℕ). put b 4 (elements_bytes (valued 0 vs ids))) (sym (chosen_turn k))

module _ (m : List ℕ) (x : Option Mark) (k : MarkFrom m 192 x) where
  pub walk_start : 4 ≡ 4 + weigh (chosen (is_changed m) (reached (at_of x)))
  unfolding weigh
  walk_start = ap (λ (ids : List ℕ). 4 + weigh ids) (sym (chosen_none m x k))

  pub put_start : (vs b : List ℕ) → b ≡ put b 4 (elements_bytes (valued 0 vs (chosen (is_changed m) (reached (at_of x)))))
  unfolding valued
  put_start vs b = elements_none b 4 ∙ ap (λ (ids : List ℕ). put b 4 (elements_bytes (valued 0 vs ids))) (sym (chosen_none m x k))

module _ (m : List ℕ) (i : ℕ) (h : 362 ≤ i) where
  pub all : reached i ≡ 170
  all = omega arith

  pub put_end : (vs b v : List ℕ) → v ≡ put b 4 (elements_bytes (valued 0 vs (chosen (is_changed m) (reached i)))) → v ≡ put b 4 (elements_bytes (valued 0 vs (chosen (is_changed m) 170)))
  put_end vs b v w = w ∙ ap (λ (n : ℕ). put b 4 (elements_bytes (valued 0 vs (chosen (is_changed m) n)))) all

-- the element of a mark
module _ (i : ℕ) (x : Element) (t : x ≡ thread_element (i - 192)) (h : i < 362) where
  inside : (thread_element (i - 192)).position + (thread_element (i - 192)).size ≤ 1820
  inside = number_inside (i - 192) (omega arith)

  small : (thread_element (i - 192)).size ≤ 24
  small = number_small (i - 192) (omega arith)

  pub element_inside : (n : ℕ) → n ≡ 1820 → x.position + x.size ≤ n
  element_inside n l = omega (arith, inside, ap (λ (y : Element). y.position) t, ap (λ (y : Element). y.size) t)

  pub element_small : x.size < 2 ^ 16
  element_small = omega (arith, small, ap (λ (y : Element). y.size) t)

-- ---- of a good cache: how many there are, and their bytes
module _ (o : Offer) (vs ms : List ℕ) (g : good_cache o (record { values = vs; marks = ms }) ≡ true) where
  abbrev cache : Cache
  cache = record { values = vs; marks = ms }

  cache_values : length vs ≡ 1820
  cache_values = values_long o vs ms true (sym g) refl

  pub cache_good : (e : ℕ) → e < 192 → mark_good o cache e ≡ true
  unfolding good_cache
  cache_good e h =
      let p = both (eqb (length vs) slot_bytes) (eqb (length ms) 6 && every (mark_good o cache) 192 0) g in
      every_at (mark_good o cache) 192 0 (both (eqb (length ms) 6) (every (mark_good o cache) 192 0) p.1).1 e (omega arith) (omega arith)

  none_past : (e : ℕ) → 170 ≤ e → e < 192 → is_changed ms e ≡ false
  unfolding mark_good
  none_past e a b =
      let q : ltb e 170 ≡ false = le-ltb e 170 a in
      let p : not (valid cache e) && not (changed cache e) ≡ true =
      sym (ap (λ (t : Bool). cond t (not (changed cache e) || (valid cache e && is_input o (thread_element e).id)) (not (valid cache e) && not (changed cache e))) q) ∙ cache_good e b in
      not-true _ (both (not (valid cache e)) (not (changed cache e)) p).1

  -- a mark that the search finds is an element's
  pub mark_small : (i : ℕ) → 192 ≤ i → i < 384 → i ≡ first (is_marked ms) (384 - i) i → i < 362
  mark_small i low high e = go (dec_lt i 362)
    where
      go : Dec (i < 362) → i < 362
      go (yes h) = h
      go (no h) =
          let q : 192 + (i - 192) ≡ i = omega arith in
          let p : is_changed ms (i - 192) ≡ true = ap (is_marked ms) q ∙ first_has (is_marked ms) (384 - i) i i e (omega arith) in
          absurd (no_bool (sym (none_past (i - 192) (omega arith) (omega arith)) ∙ p))

  pub pending_count : length (pending cache) ≡ tally (is_changed ms) 192
  pending_count =
      length_valued 0 vs (chosen (is_changed ms) 170) ∙ sym (ap length (chosen_skip (is_changed ms) 170 22 (λ j a b. none_past j a b))) ∙ length_chosen (is_changed ms) 192

  pub pending_bytes : length (message (pending cache)) ≡ row_bytes (chosen (is_changed ms) 170)
  pending_bytes = length_message (pending cache) ∙ ap (λ (n : ℕ). 4 + n) (weighed vs (is_changed ms) 170 cache_values (omega arith))

  pub input_count : (n : ℕ) → length (message (pending cache)) ≤ n → 0 + 4 ≤ n
  input_count n h = omega (arith, length_message (pending cache))

  pub input_room : (b x : List ℕ) (n : ℕ) → length (message (pending cache)) ≤ length b → x ≡ put b 0 (digits 4 n) → row_bytes (chosen (is_changed ms) 170) ≤ length x
  input_room b x n h e = omega (arith, h, pending_bytes, ap length e, length_put b 0 (digits 4 n))

  pub input_put : (b x y : List ℕ) (n : ℕ) → x ≡ put b 0 (digits 4 n) → y ≡ put x 4 (elements_bytes (valued 0 vs (chosen (is_changed ms) 170))) → n ≡ tally (is_changed ms) 192 → y ≡ put b 0 (message (pending (record { values = vs; marks = ms })))
  input_put b x y n p q r = message_put b x y n (pending cache) p q (r ∙ sym pending_count)
