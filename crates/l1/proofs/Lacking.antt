-- What the guest's own list lacks of the changed elements: the loop that finds the first of them, and that a run's walk stops there.
-- Assumes nothing.
use mathlib.Core.Path.{◌≡◌, refl, sym, ap, ap₂, ◌∙◌, subst}
use mathlib.Core.Bool.{Bool, true, false, not, ◌&&◌, ◌||◌, cond}
use mathlib.Core.List.{List, [], ◌∷◌, ◌++◌, append-nil, append_assoc}
use Prim.Native.Nat.{ℕ, zero, suc, ◌+◌, ◌-◌, ◌^◌, ◌≤◌, ◌<◌}
use mathlib.Core.Logic.{◌⊎◌, inl, inr}
use native.Mathlib.Nat.{not-suc-le-zero, le_of_suc-le-suc, eq-or-lt_of_le}
use native.Mathlib.Omega.{arith}
use lib.Dec.{eqb, ltb}
use lib.ListN.{length, get_or, take, length-append, get_or-append}
use lib.Seq.{get_or-append_seam, take-append_seam}
use borrow.Author.Tests.{eq-eqb, ltb-true, not-true, not-false}
use Rattle.answer.specs.declared.Bad.{Bad}
use Rattle.answer.specs.declared.Bad.TheVariants.{Id}
use Rattle.answer.specs.declared.Place.{Place}
use Rattle.elements.specs.declared.Offer.{Offer}
use Rattle.elements.specs.declared.Offer.TheVariants.{Full}
use Rattle.elements.specs.declared.Element.{Element}
use Rattle.elements.specs.Table.{kind_of, thread_element}
use Rattle.elements.specs.Later.{offers}
use Rattle.rules.specs.declared.Usage.TheVariants.{RunInput}
use Rattle.rules.specs.declared.Context.{Context}
use Rattle.rules.specs.Rules.{permits, size_fits}
use Rattle.rules.proofs.Rules.{value_run}
use Rattle.rules.proofs.Lists.{permits_by}
use Rattle.gsb.specs.Walk.{offset_at, judged, first_bad, stopped_at}
use Rattle.octets.specs.Bytes.{bytes_at}
use Rattle.gsb.specs.Message.{element_bytes, elements_bytes, message, Begins, nth_id, nth_value, Wire}
use Rattle.gsb.proofs.Judged.{judged_id, judged_good}
use Rattle.gsb.proofs.Walks.{offset_next}
use Rattle.gsb.proofs.First.{refused_exactly, judged_leads, first_walk}
use Rattle.gsb.proofs.Messages.{length_element, elements_nil, elements_parts}
use Rattle.gsb.proofs.RoundTrip.{begins_self, message_count, message_offset, message_id, message_size, message_inside}
use Rattle.exits.specs.Exits.{element_of, weigh, valued}
use Rattle.exits.proofs.Written.{valued_append, length_valued}
use Rattle.store.specs.Layout.{slot_bytes}
use Rattle.store.specs.Search.{first}
use Rattle.store.proofs.Search.{both, no_bool, every_ext}
use Rattle.l1.specs.declared.Mark.{Mark}
use Rattle.l1.specs.Marks.{Cache, is_marked, valid, changed, allowed, is_input, mark_good, good_cache}
use Rattle.l1.specs.Cache.{chosen, pending, Fit}
use Rattle.std.specs.Prelude.{Option, None}
use Rattle.l1.specs.Private.{is_changed, at_of, MarkFrom, lacked_from}
use Rattle.l1.proofs.Cells.{allowed_as, named_fits, input_named, input_allowed}
use Rattle.l1.proofs.Values.{number_small, input_by}
use Rattle.l1.proofs.Pending.{reached, here, all, marked_here, chosen_none, chosen_turn, chosen_more, chosen_few, weigh_few}
use Rattle.l1.proofs.Sent.{fit_wire, fit_at}
use Rattle.l1.proofs.Returned.{valued_id}
use Rattle.std.proofs.Common.{Ok, Err}

-- ---- a list has all of these
unfoldable pub offers_all : Offer → List ℕ → Bool
offers_all o [] = true
offers_all o (id ∷ ids) = offers o id && offers_all o ids

offers_append : (o : Offer) (xs ys : List ℕ) → offers_all o (xs ++ ys) ≡ offers_all o xs && offers_all o ys
unfolding offers_all
offers_append o [] ys = refl
offers_append o (x ∷ xs) ys = ap (λ (t : Bool). offers o x && t) (offers_append o xs ys) ∙ regroup (offers o x) (offers_all o xs) (offers_all o ys)
  where
    regroup : (a b c : Bool) → (a && (b && c)) ≡ ((a && b) && c)
    regroup true b c = refl
    regroup false b c = refl

offers_at : (o : Offer) (ids : List ℕ) → offers_all o ids ≡ true → (i : ℕ) → i < length ids → offers o (get_or ids i 0) ≡ true
unfolding offers_all
offers_at o [] e i h = absurd (not-suc-le-zero h)
offers_at o (id ∷ ids) e zero h = (both (offers o id) (offers_all o ids) e).0
offers_at o (id ∷ ids) e (suc i) h = offers_at o ids (both (offers o id) (offers_all o ids) e).1 i (le_of_suc-le-suc h)

-- ---- the first that it lacks
module _ (o : Offer) where
  lacked_past : (xs ys : List ℕ) (i at : ℕ) → offers_all o xs ≡ true → lacked_from o (xs ++ ys) i at ≡ lacked_from o ys (i + length xs) (at + weigh xs)
  unfolding offers_all lacked_from weigh
  lacked_past [] ys i at e =
      let a : i ≡ i + 0 = omega arith in
      let b : at ≡ at + 0 = omega arith in
      ap₂ (lacked_from o ys) a b
  lacked_past (x ∷ xs) ys i at e =
      let p = both (offers o x) (offers_all o xs) e in
      let a : i + 1 + length xs ≡ i + suc (length xs) = omega arith in
      let b : at + 4 + (element_of x).size + weigh xs ≡ at + (4 + (element_of x).size + weigh xs) = omega arith in
      ap (λ (t : Bool). cond t (lacked_from o (xs ++ ys) (i + 1) (at + 4 + (element_of x).size)) (record { index = i; offset = at })) p.0
      ∙ lacked_past xs ys (i + 1) (at + 4 + (element_of x).size) p.1 ∙ ap₂ (lacked_from o ys) a b

  lacked_here : (id : ℕ) (ys : List ℕ) (i at : ℕ) → offers o id ≡ false → lacked_from o (id ∷ ys) i at ≡ record { index = i; offset = at }
  unfolding lacked_from
  lacked_here id ys i at e = ap (λ (t : Bool). cond t (lacked_from o ys (i + 1) (at + 4 + (element_of id).size)) (record { index = i; offset = at })) e

  lacked_all : (ids : List ℕ) (i at : ℕ) → offers_all o ids ≡ true → lacked_from o ids i at ≡ record { index = i + length ids; offset = at + weigh ids }
  unfolding lacked_from
  lacked_all ids i at e = ap (λ (xs : List ℕ). lacked_from o xs i at) (sym (append-nil ids)) ∙ lacked_past ids [] i at e

  record Split (ids : List ℕ) : Type 0 where
    before : List ℕ
    id : ℕ
    after : List ℕ
    is : ids ≡ before ++ (id ∷ after)
    have : offers_all o before ≡ true
    lack : offers o id ≡ false

  split : (ids : List ℕ) → offers_all o ids ≡ false → Split ids
  unfolding offers_all
  split [] e = absurd (no_bool (sym e))
  split (x ∷ xs) e = go (offers o x) refl e (split xs)
    where
      go : (t : Bool) → offers o x ≡ t → (t && offers_all o xs) ≡ false → (offers_all o xs ≡ false → Split xs) → Split (x ∷ xs)
      go true q e ih =
          let s = ih e in
          record { before = x ∷ s.before; id = s.id; after = s.after; is = ap (λ (ys : List ℕ). x ∷ ys) s.is; have = ap₂ (λ (a b : Bool). a && b) q s.have; lack = s.lack }
      go false q e ih = record { before = []; id = x; after = xs; is = refl; have = refl; lack = q }

-- ---- the loop, from mark to mark
-- the chosen ones behind number a
behind_chosen : (ℕ → Bool) → ℕ → ℕ → List ℕ
behind_chosen p a zero = []
behind_chosen p a (suc d) = behind_chosen p a d ++ cond (p (a + d)) ((thread_element (a + d)).id ∷ []) []

chosen_append : (p : ℕ → Bool) (a d : ℕ) → chosen p (a + d) ≡ chosen p a ++ behind_chosen p a d
unfolding chosen behind_chosen
chosen_append p a zero = let e : a + 0 ≡ a = omega arith in ap (chosen p) e ∙ sym (append-nil (chosen p a))
chosen_append p a (suc d) =
    let e : a + suc d ≡ suc (a + d) = omega arith in
    let x = cond (p (a + d)) ((thread_element (a + d)).id ∷ []) [] in
    ap (chosen p) e ∙ ap (λ (xs : List ℕ). xs ++ x) (chosen_append p a d) ∙ append_assoc (chosen p a) (behind_chosen p a d) x

chosen_around : (p : ℕ → Bool) (a : ℕ) → a < 170 → p a ≡ true → chosen p 170 ≡ chosen p a ++ ((thread_element a).id ∷ behind_chosen p (suc a) (169 - a))
chosen_around p a h e =
    let n : 170 ≡ suc a + (169 - a) = omega arith in
    ap (chosen p) n ∙ chosen_append p (suc a) (169 - a) ∙ ap (λ (xs : List ℕ). xs ++ behind_chosen p (suc a) (169 - a)) (chosen_more p a e)
    ∙ append_assoc (chosen p a) ((thread_element a).id ∷ []) (behind_chosen p (suc a) (169 - a))

module _ (o : Offer) (m : List ℕ) where
  module _ (x : Option Mark) (k : MarkFrom m 192 x) where
    pub lack_start : 0 ≡ length (chosen (is_changed m) (reached (at_of x)))
    lack_start = sym (ap length (chosen_none m x k))

    pub lack_none : offers_all o (chosen (is_changed m) (reached (at_of x))) ≡ true
    unfolding offers_all
    lack_none = ap (offers_all o) (chosen_none m x k)

  module _ (i index offset : ℕ) (ei : index ≡ length (chosen (is_changed m) (reached i))) (eo : offset ≡ 4 + weigh (chosen (is_changed m) (reached i))) (have : offers_all o (chosen (is_changed m) (reached i)) ≡ true) where
    pub index_fits : index + 1 < 2 ^ 64
    index_fits = omega (arith, chosen_few (is_changed m) (reached i))

    pub offset_fits : offset + 4 < 2 ^ 64
    offset_fits = omega (arith, weigh_few (is_changed m) (reached i) (omega arith))

    place_is : ◌≡◌ {A = Place} (record { index = index; offset = offset }) (record { index = 0 + length (chosen (is_changed m) (reached i)); offset = 4 + weigh (chosen (is_changed m) (reached i)) })
    place_is = let z : index ≡ 0 + length (chosen (is_changed m) (reached i)) = omega arith in ap₂ (λ (a b : ℕ). record { index = a; offset = b }) z eo

    pub lack_end : 362 ≤ i → record { index = index; offset = offset } ≡ lacked_from o (chosen (is_changed m) 170) 0 4
    lack_end h =
        place_is ∙ sym (lacked_all o (chosen (is_changed m) (reached i)) 0 4 have) ∙ ap (λ (n : ℕ). lacked_from o (chosen (is_changed m) n) 0 4) (all m i h)

    module _ (low : 192 ≤ i) (high : i < 362) (e : i ≡ first (is_marked m) (384 - i) i) (x : Element) (t : x ≡ thread_element (i - 192)) where
      marked : is_changed m (i - 192) ≡ true
      marked = marked_here m i None low high e

      at_number : reached i ≡ i - 192
      at_number = here m i None low high e

      pub step_fits : offset + 4 + x.size < 2 ^ 64
      step_fits = omega (arith, weigh_few (is_changed m) (reached i) (omega arith), number_small (i - 192) (omega arith), ap (λ (y : Element). y.size) t)

      same_id : x.id ≡ (thread_element (i - 192)).id
      same_id = ap (λ (y : Element). y.id) t

      module _ (has : Bool) (q : has ≡ offers o x.id) where
        pub lack_found : not has ≡ true → record { index = index; offset = offset } ≡ lacked_from o (chosen (is_changed m) 170) 0 4
        lack_found n =
            let p = is_changed m in
            let lost : offers o (thread_element (i - 192)).id ≡ false = ap (offers o) (sym same_id) ∙ sym q ∙ not-true has n in
            let rest = behind_chosen p (suc (i - 192)) (169 - (i - 192)) in
            sym (ap (λ (ids : List ℕ). lacked_from o ids 0 4) (chosen_around p (i - 192) (omega arith) marked ∙ ap (λ (a : ℕ). chosen p a ++ ((thread_element (i - 192)).id ∷ rest)) (sym at_number))
            ∙ lacked_past o (chosen p (reached i)) ((thread_element (i - 192)).id ∷ rest) 0 4 have
            ∙ lacked_here o (thread_element (i - 192)).id rest (0 + length (chosen p (reached i))) (4 + weigh (chosen p (reached i))) lost
            ∙ sym place_is)

        module _ (n : not has ≡ false) (y : Option Mark) (k : MarkFrom m (i + 1) y) where
          grown : chosen (is_changed m) (reached (at_of y)) ≡ chosen (is_changed m) (reached i) ++ ((thread_element (i - 192)).id ∷ [])
          grown =
              chosen_turn m i y low high e k ∙ chosen_more (is_changed m) (i - 192) marked
              ∙ ap (λ (a : ℕ). chosen (is_changed m) a ++ ((thread_element (i - 192)).id ∷ [])) (sym at_number)

          pub lack_index : index + 1 ≡ length (chosen (is_changed m) (reached (at_of y)))
          lack_index = sym (ap length grown ∙ length-append (chosen (is_changed m) (reached i)) ((thread_element (i - 192)).id ∷ []) ∙ omega arith)

          pub lack_turn : offers_all o (chosen (is_changed m) (reached (at_of y))) ≡ true
          unfolding offers_all
          lack_turn =
              ap (offers_all o) grown ∙ offers_append o (chosen (is_changed m) (reached i)) ((thread_element (i - 192)).id ∷ [])
              ∙ ap₂ (λ (a b : Bool). a && (b && true)) have (ap (offers o) (sym same_id) ∙ sym q ∙ not-false has n)

-- ---- the walk over what would be sent
fit_weigh : (o : Offer) (vs ids : List ℕ) → Fit o (valued 0 vs ids) → length (elements_bytes (valued 0 vs ids)) ≡ weigh ids
unfolding valued weigh
fit_weigh o vs [] f = ap length elements_nil
fit_weigh o vs (id ∷ ids) f =
    let v = bytes_at vs (0 + (element_of id).position) (element_of id).size in
    ap length (elements_parts (valued 0 vs ids) id v) ∙ length-append (element_bytes id v) (elements_bytes (valued 0 vs ids))
    ∙ omega (arith, length_element id v, f.1, fit_weigh o vs ids f.2)

fit_left : (o : Offer) (xs ys : List (ℕ × List ℕ)) → Fit o (xs ++ ys) → Fit o xs
fit_left o [] ys f = tt
fit_left o (x ∷ xs) ys f = (f.0, f.1, fit_left o xs ys f.2)

module _ (k : Context) (u : k.usage ≡ RunInput) (es : List (ℕ × List ℕ)) (f : Fit Full es) (few : length es ≤ 170) where
  abbrev b : List ℕ
  b = message es

  wire : Wire es
  wire = fit_wire Full es f few

  starts : Begins b (message es)
  starts = begins_self (message es)

  permits_as : (id : ℕ) → is_input Full id ≡ true → permits k id (kind_of id) ≡ offers k.offer id
  permits_as id e =
      allowed_as k id ∙ ap (λ (x : _). allowed k.offer x id) u ∙ permits_by RunInput 0 0 k.offer id
      ∙ ap (λ (t : Bool). t && offers k.offer id) (input_allowed Full id e)

  module _ (i : ℕ) (h : i < length es) where
    its : (is_input Full (nth_id es i) ≡ true) × (length (nth_value es i) ≡ (element_of (nth_id es i)).size)
    its = fit_at Full es f i h

    inside : offset_at b i + 4 + length (nth_value es i) ≤ length b
    inside = omega (arith, message_inside es b wire starts i h, message_size es b wire starts i h)

    sized : size_fits (kind_of (nth_id es i)) (length (nth_value es i)) ≡ true
    sized = named_fits (nth_id es i) (input_named Full (nth_id es i) its.0) (length (nth_value es i)) ∙ eq-eqb _ _ its.1

    has : offers k.offer (nth_id es i) ≡ true → judged k b (offset_at b i) ≡ Ok (offset_at b (i + 1))
    has t =
        let p : permits k (nth_id es i) (kind_of (nth_id es i)) ≡ true = permits_as (nth_id es i) its.0 ∙ t in
        let n : offset_at b i + 4 + length (nth_value es i) ≡ offset_at b (i + 1) = ap (λ (x : ℕ). offset_at b i + 4 + x) (sym (message_size es b wire starts i h)) ∙ offset_next b i (offset_at b i) refl in
        sym (judged_good k b (offset_at b i) (nth_id es i) (length (nth_value es i)) (kind_of (nth_id es i)) (omega (arith, inside)) (sym (message_id es b wire starts i h)) (sym (message_size es b wire starts i h)) refl
        true (sym p) refl true (sym sized) refl (omega (arith, inside)) true (sym (value_run k (nth_id es i) b (offset_at b i + 4) u p)) refl)
        ∙ ap Ok n

    lacks : offers k.offer (nth_id es i) ≡ false → judged k b (offset_at b i) ≡ Err Id
    lacks t =
        sym (judged_id k b (offset_at b i) (nth_id es i) (length (nth_value es i)) (kind_of (nth_id es i)) (omega (arith, inside)) (sym (message_id es b wire starts i h)) (sym (message_size es b wire starts i h)) refl
        false (sym (permits_as (nth_id es i) its.0 ∙ t)) refl)

  stops : (i : ℕ) → i < length es → ((j : ℕ) → j < i → offers k.offer (nth_id es j) ≡ true) → offers k.offer (nth_id es i) ≡ false
      → first_bad k b ≡ stopped_at Id (record { index = i; offset = offset_at b i })
  stops i h earlier lost =
      first_walk k b
      ∙ (refused_exactly (judged k b) b (judged_leads k b) Id (record { index = i; offset = offset_at b i })).1
      (record { counted = omega (arith, message_count es b wire starts); faulty = lacks i h lost; before = λ j l. has j (omega arith) (earlier j l) }, refl)

-- the first ID that is lacked is where the walk stops
pub lacked_stops : (k : Context) → k.usage ≡ RunInput → (vs ids : List ℕ) → Fit Full (valued 0 vs ids) → length ids ≤ 170 → offers_all k.offer ids ≡ false
    → first_bad k (message (valued 0 vs ids)) ≡ stopped_at Id (lacked_from k.offer ids 0 4)
unfolding valued
lacked_stops k u vs ids f few e =
    stops k u es f (omega (arith, length_valued 0 vs ids)) i within
    (λ j l. ap (offers o) (valued_id 0 vs ids j (omega (arith, within, length_valued 0 vs ids)) ∙ ap (λ (xs : List ℕ). get_or xs j 0) s.is ∙ get_or-append s.before (s.id ∷ s.after) 0 j l) ∙ offers_at o s.before s.have j l)
    (ap (offers o) (valued_id 0 vs ids i (omega (arith, within, length_valued 0 vs ids)) ∙ ap (λ (xs : List ℕ). get_or xs i 0) s.is ∙ get_or-append_seam s.before s.id s.after 0) ∙ s.lack)
    ∙ ap (stopped_at Id) (sym place)
  where
    o : Offer
    o = k.offer

    es : List (ℕ × List ℕ)
    es = valued 0 vs ids

    s : Split o ids
    s = split o ids e

    i : ℕ
    i = length s.before

    parted : es ≡ valued 0 vs s.before ++ valued 0 vs (s.id ∷ s.after)
    parted = ap (valued 0 vs) s.is ∙ valued_append 0 vs s.before (s.id ∷ s.after)

    within : i < length es
    within = omega (arith, length_valued 0 vs ids, ap length s.is, length-append s.before (s.id ∷ s.after))

    upto : take i es ≡ valued 0 vs s.before
    upto = ap (take i) parted ∙ ap (λ (n : ℕ). take n (valued 0 vs s.before ++ valued 0 vs (s.id ∷ s.after))) (sym (length_valued 0 vs s.before)) ∙ take-append_seam (valued 0 vs s.before) (valued 0 vs (s.id ∷ s.after))

    offset : offset_at (message es) i ≡ 4 + weigh s.before
    offset =
        message_offset es (message es) (fit_wire Full es f (omega (arith, length_valued 0 vs ids))) (begins_self (message es)) i (omega (arith, within))
        ∙ ap (λ (xs : List (ℕ × List ℕ)). 4 + length (elements_bytes xs)) upto
        ∙ ap (λ (n : ℕ). 4 + n) (fit_weigh Full vs s.before (fit_left Full (valued 0 vs s.before) (valued 0 vs (s.id ∷ s.after)) (subst (Fit Full) parted f)))

    place : lacked_from o ids 0 4 ≡ record { index = i; offset = offset_at (message es) i }
    place =
        let z : 0 + length s.before ≡ i = omega arith in
        ap (λ (xs : List ℕ). lacked_from o xs 0 4) s.is ∙ lacked_past o s.before (s.id ∷ s.after) 0 4 s.have
        ∙ lacked_here o s.id s.after (0 + length s.before) (4 + weigh s.before) s.lack
        ∙ ap₂ (λ (a b : ℕ). record { index = a; offset = b }) z (sym offset)

-- ---- a cache that is good by 01's list, and whose changed elements the guest's list has, is good by that
all_at : (o : Offer) (p : ℕ → Bool) (n : ℕ) → offers_all o (chosen p n) ≡ true → (e : ℕ) → e < n → p e ≡ true → offers o (thread_element e).id ≡ true
unfolding chosen offers_all
all_at o p zero a e h q = absurd (not-suc-le-zero h)
all_at o p (suc n) a e h q = go (eq-or-lt_of_le (le_of_suc-le-suc h)) (λ b l. all_at o p n b e l q)
  where
    parts : (offers_all o (chosen p n) ≡ true) × (offers_all o (cond (p n) ((thread_element n).id ∷ []) []) ≡ true)
    parts = both _ _ (sym (offers_append o (chosen p n) (cond (p n) ((thread_element n).id ∷ []) [])) ∙ a)

    go : (e ≡ n) ⊎ (e < n) → (offers_all o (chosen p n) ≡ true → e < n → offers o (thread_element e).id ≡ true) → offers o (thread_element e).id ≡ true
    go (inr l) ih = ih parts.0 l
    go (inl z) ih =
        let t : p n ≡ true = ap p (sym z) ∙ q in
        ap (λ (i : ℕ). offers o (thread_element i).id) z
        ∙ (both (offers o (thread_element n).id) true (ap (λ (b : Bool). offers_all o (cond b ((thread_element n).id ∷ []) [])) (sym t) ∙ parts.1)).0

module _ (o : Offer) (c : Cache) (good : good_cache Full c ≡ true) where
  offered_good : offers_all o (chosen (changed c) 170) ≡ true → good_cache o c ≡ true
  unfolding good_cache mark_good
  offered_good a = ap (λ (t : Bool). eqb (length c.values) slot_bytes && (eqb (length c.marks) 6 && t)) (every_ext (mark_good o c) (mark_good Full c) 192 0 (λ e l h. same e)) ∙ good
    where
      both_same : (v i t : Bool) → t ≡ true → (v && (i && t)) ≡ (v && i)
      both_same v true true e = refl
      both_same v false true e = refl
      both_same v i false e = absurd (no_bool e)

      by : (e : ℕ) (l ch : Bool) → ltb e 170 ≡ l → changed c e ≡ ch
          → cond l (not ch || (valid c e && is_input o (thread_element e).id)) (not (valid c e) && not ch) ≡ cond l (not ch || (valid c e && is_input Full (thread_element e).id)) (not (valid c e) && not ch)
      by e false ch p q = refl
      by e true false p q = refl
      by e true true p q =
          ap (λ (t : Bool). valid c e && t) (input_by o (thread_element e).id)
          ∙ both_same (valid c e) (is_input Full (thread_element e).id) (offers o (thread_element e).id) (all_at o (changed c) 170 a e (ltb-true e 170 p) q)

      same : (e : ℕ) → mark_good o c e ≡ mark_good Full c e
      same e = by e (ltb e 170) (changed c e) refl refl

  pub good_lacks : (t : Bool) → t ≡ good_cache o c → not t ≡ true → offers_all o (chosen (changed c) 170) ≡ false
  good_lacks t e n = go (offers_all o (chosen (changed c) 170)) refl
    where
      go : (b : Bool) → offers_all o (chosen (changed c) 170) ≡ b → offers_all o (chosen (changed c) 170) ≡ false
      go true q = absurd (no_bool (sym (sym e ∙ not-true t n) ∙ offered_good q))
      go false q = q

  -- a walk that ends is over elements that the list has
  pub done_good : (k : Context) → k.usage ≡ RunInput → k.offer ≡ o → Fit Full (pending c) → first_bad k (message (pending c)) ≡ Ok tt → good_cache o c ≡ true
  done_good k u p f d = go (offers_all o (chosen (changed c) 170)) refl
    where
      not_done : {bad : Bad} {place : Place} → Ok tt ≡ stopped_at bad place → ⊥
      not_done e = let z : ◌≡◌ {A = ℕ} 0 1 = cc in omega arith

      go : (b : Bool) → offers_all o (chosen (changed c) 170) ≡ b → good_cache o c ≡ true
      go true q = offered_good q
      go false q =
          absurd (not_done (sym d ∙ lacked_stops k u c.values (chosen (changed c) 170) f (chosen_few (changed c) 170) (ap (λ (x : Offer). offers_all x (chosen (changed c) 170)) p ∙ q)))
