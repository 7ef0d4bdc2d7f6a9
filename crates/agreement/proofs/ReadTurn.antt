-- A read: the cached and the plain L1 give the same, and stay tied. Assumes nothing.
use mathlib.Core.Path.{◌≡◌, refl, sym, ap, ap₂, ◌∙◌}
use mathlib.Core.Bool.{Bool, true, false, not, cond}
use mathlib.Core.List.{List, []}
use Prim.Native.Nat.{ℕ, ◌^◌, ◌<◌}
use lib.Dec.{eqb, ltb}
use lib.ListN.{length}
use borrow.Author.Tests.{eqb-true}
use Rattle.octets.specs.Bytes.{bytes_at}
use Rattle.answer.specs.declared.Bad.TheVariants.{Id, Size}
use Rattle.answer.specs.declared.Call.{Call as Name}
use Rattle.answer.specs.declared.Registers.{Registers}
use Rattle.answer.specs.declared.Fault.TheVariants.{Length, Element, Cache as CacheBad}
use Rattle.answer.specs.Answer.{three}
use Rattle.elements.specs.Table.{number_of}
use Rattle.gsb.specs.Walk.{count_of}
use Rattle.gsb.specs.Message.{first_place}
use Rattle.gsb.proofs.RoundTrip.{one_value}
use Rattle.elements.specs.Later.{offer_of}
use Rattle.store.specs.declared.Layout.{Layout}
use Rattle.store.specs.Layout.{Sound}
use Rattle.transfer.specs.Transfer.{filled}
use Rattle.exits.specs.Exits.{element_of}
use Rattle.admission.specs.Refusals.{Outcome, success, refusal, refuse}
use Rattle.state.specs.State.{fill_with, get_state}
use Rattle.l1.specs.Marks.{valid, is_readable, is_special}
use Rattle.l1.specs.Cache.{place_zero, ReadOutcome, keep, one, value_in, fetched, read_cache}
use Rattle.agreement.specs.Plain.{read_plain}
use Rattle.agreement.specs.Agree.{Read, Seen, seen, Turn, Cached, cached_turn, plain_turn, since}
use Rattle.l1.proofs.Cells.{Named, named_number, named_back, readable_named, readable_common, value_of}
use Rattle.agreement.proofs.Single.{read_long, read_special, read_id, read_size, get_good, read_good, filled_value}
use Rattle.agreement.proofs.Caches.{cell, cell_is}
use Rattle.agreement.proofs.Invariant.{at, Inv, Goes, as_turned, plain_ours, cache_good, keep_inv, unchanged, unwritten}

module _ (l : Layout) (so : Sound l) (g v j : ℕ) (below : j < l.slots) (pvr : ℕ) (b : Cached) (p : List ℕ) (ws : List (ℕ × List ℕ)) (i : Inv l so g v j below pvr b p ws) (id : ℕ) (w : List ℕ) (small : id < 2 ^ 16) where
  abbrev place : ℕ
  place = at l so g v j below pvr

  -- past its refusals a read takes the value from the cache or from get state
  abbrev served : ReadOutcome
  served = record { answer = success 0; cache = b.cache; value = bytes_at b.cache.values (element_of id).position (element_of id).size }

  abbrev asked : ReadOutcome
  asked = fetched b.cache id (length w) (get_state l b.store 0 g v (one id w))

  cached_read : (a x y u : Bool) → ltb 65528 (length w) ≡ a → is_readable (offer_of pvr) id ≡ x → eqb (length w) (element_of id).size ≡ y → valid b.cache (number_of id) ≡ u
      → read_cache l b.store g v pvr b.cache id w
      ≡ cond a (record { answer = refusal Length; cache = b.cache; value = w })
      (cond (not x) (record { answer = refusal (Element Id place_zero); cache = b.cache; value = w })
      (cond (not y) (record { answer = refusal (Element Size place_zero); cache = b.cache; value = w }) (cond u served asked)))
  unfolding read_cache
  cached_read a x y u p₁ p₂ p₃ p₄ =
      ap₂ (λ (t s : Bool). cond (not t) (record { answer = refusal CacheBad; cache = b.cache; value = w }) (cond s (record { answer = refusal Length; cache = b.cache; value = w })
      (cond (not (is_readable (offer_of pvr) id)) (record { answer = refusal (Element Id place_zero); cache = b.cache; value = w })
      (cond (not (eqb (length w) (element_of id).size)) (record { answer = refusal (Element Size place_zero); cache = b.cache; value = w }) (cond (valid b.cache (number_of id)) served asked)))))
      (cache_good l so g v j below pvr b p ws i) p₁
      ∙ ap₂ (λ (t s : Bool). cond a (record { answer = refusal Length; cache = b.cache; value = w })
      (cond (not t) (record { answer = refusal (Element Id place_zero); cache = b.cache; value = w })
      (cond (not s) (record { answer = refusal (Element Size place_zero); cache = b.cache; value = w }) (cond (valid b.cache (number_of id)) served asked)))) p₂ p₃
      ∙ ap (λ (t : Bool). cond a (record { answer = refusal Length; cache = b.cache; value = w })
      (cond (not x) (record { answer = refusal (Element Id place_zero); cache = b.cache; value = w })
      (cond (not y) (record { answer = refusal (Element Size place_zero); cache = b.cache; value = w }) (cond t served asked)))) p₄

  abbrev cachedOf : ReadOutcome → Turn Cached
  cachedOf r = record { shown = seen Name.CacheRead r.answer r.value; next = record { cache = r.cache; store = b.store }; input = [] }

  abbrev plain_of : Outcome → Turn (List ℕ)
  plain_of o = record { shown = seen Name.GetState o.answer (value_in o.buffer (length w)); next = o.store; input = [] }

  got : (r : ReadOutcome) (o : Outcome) → read_cache l b.store g v pvr b.cache id w ≡ r → read_plain l p g v id w ≡ o
      → Goes l so g v j below pvr b (Read id w) ws (cachedOf r) (plain_of o) → Goes l so g v j below pvr b (Read id w) ws (cached_turn l g v pvr (Read id w) b) (plain_turn l g v (Read id w) p)
  unfolding cached_turn plain_turn
  got r o e q t = as_turned l so g v j below pvr b (Read id w) ws _ _ _ _ (ap cachedOf e) (ap plain_of q) t

  -- the same numbers, and the same value
  shows : (r : Registers) (x y : List ℕ) → x ≡ y → ◌≡◌ {A = Seen} (record { answer = r; buffer = x }) (record { answer = r; buffer = y })
  shows r x y e = ap (λ (z : List ℕ). record { answer = r; buffer = z }) e

  -- a refusal leaves the value buffer
  left_alone : w ≡ value_in (one id w) (length w)
  left_alone = sym (one_value id w)

  -- ---- an accepted read
  module _ (a : ltb 65528 (length w) ≡ false) (x : is_readable (offer_of pvr) id ≡ true) (y : eqb (length w) (element_of id).size ≡ true) where
    named : Named id
    named = readable_named (offer_of pvr) id x

    sized : length w ≡ (element_of id).size
    sized = eqb-true _ _ y

    plain_value : value_in (filled place p (one id w) (count_of (one id w))) (length w) ≡ value_of place p id
    plain_value = filled_value l so g v j below pvr p (plain_ours l so g v j below pvr b p ws i) id w x sized

    plain_good : read_plain l p g v id w ≡ fill_with p place (one id w)
    plain_good = read_good l so g v j below pvr p (plain_ours l so g v j below pvr b p ws i) id w a (readable_common (offer_of pvr) id x) small x y

    held : valid b.cache (number_of id) ≡ true → bytes_at b.cache.values (element_of id).position (element_of id).size ≡ value_of place p id
    held u =
        cell_is b.cache id ∙ ap (cell b.cache) (sym (named_back id named)) ∙ i.holds (number_of id) (named_number id named) u ∙ ap (value_of place p) (named_back id named)

    store_value : value_in (filled place b.store (one id w) (count_of (one id w))) (length w) ≡ value_of place b.store id
    store_value = filled_value l so g v j below pvr b.store i.ours id w x sized

    fetched_is : valid b.cache (number_of id) ≡ false → asked ≡ record { answer = success 0; cache = keep b.cache id (value_of place p id); value = value_of place p id }
    unfolding fetched
    fetched_is u =
        ap (λ (o : Outcome). fetched b.cache id (length w) o) (get_good l so g v j below pvr b.store i.ours id w a (readable_common (offer_of pvr) id x) small x y)
        ∙ ap (λ (z : List ℕ). record { answer = success 0; cache = keep b.cache id z; value = z }) (store_value ∙ sym (unwritten l so g v j below pvr b p ws i id named u))

    good_turn : (u : Bool) → valid b.cache (number_of id) ≡ u → Goes l so g v j below pvr b (Read id w) ws (cached_turn l g v pvr (Read id w) b) (plain_turn l g v (Read id w) p)
    unfolding since
    good_turn true u =
        got served (fill_with p place (one id w)) (cached_read false true true true a x y u) plain_good
        (record { same = record { shown = shows (three 0 0 0) _ _ (held u ∙ sym plain_value); stores = tt; input = tt }; next = i })
    good_turn false u =
        got (record { answer = success 0; cache = keep b.cache id (value_of place p id); value = value_of place p id }) (fill_with p place (one id w)) (cached_read false true true false a x y u ∙ fetched_is u) plain_good
        (record { same = record { shown = shows (three 0 0 0) _ _ (sym plain_value); stores = tt; input = tt }; next = keep_inv l so g v j below pvr b p ws i id named (unchanged l so g v j below pvr b p ws i id named u) })

  -- ---- every read
  pub read_turn : Goes l so g v j below pvr b (Read id w) ws (cached_turn l g v pvr (Read id w) b) (plain_turn l g v (Read id w) p)
  unfolding since
  read_turn = by_length (ltb 65528 (length w)) refl
    where
      by_size : ltb 65528 (length w) ≡ false → is_readable (offer_of pvr) id ≡ true → (y : Bool) → eqb (length w) (element_of id).size ≡ y
          → Goes l so g v j below pvr b (Read id w) ws (cached_turn l g v pvr (Read id w) b) (plain_turn l g v (Read id w) p)
      by_size a x true y = good_turn a x y (valid b.cache (number_of id)) refl
      by_size a x false y =
          got (record { answer = refusal (Element Size place_zero); cache = b.cache; value = w }) (refuse p (one id w) (Element Size first_place)) (cached_read false true false (valid b.cache (number_of id)) a x y refl)
          (read_size l so g v j below pvr p (plain_ours l so g v j below pvr b p ws i) id w a (readable_common (offer_of pvr) id x) small x y)
          (record { same = record { shown = shows (three 7 0 0) _ _ left_alone; stores = tt; input = tt }; next = i })

      by_special : ltb 65528 (length w) ≡ false → is_readable (offer_of pvr) id ≡ false → (u : Bool) → is_special id ≡ u
          → Goes l so g v j below pvr b (Read id w) ws (cached_turn l g v pvr (Read id w) b) (plain_turn l g v (Read id w) p)
      by_special a x true u =
          got (record { answer = refusal (Element Id place_zero); cache = b.cache; value = w }) (refuse p (one id w) (Element Id place_zero)) (cached_read false false (eqb (length w) (element_of id).size) (valid b.cache (number_of id)) a x refl refl)
          (read_special l so g v j below pvr p (plain_ours l so g v j below pvr b p ws i) id w a u)
          (record { same = record { shown = shows (three 6 0 0) _ _ left_alone; stores = tt; input = tt }; next = i })
      by_special a x false u =
          got (record { answer = refusal (Element Id place_zero); cache = b.cache; value = w }) (refuse p (one id w) (Element Id first_place)) (cached_read false false (eqb (length w) (element_of id).size) (valid b.cache (number_of id)) a x refl refl)
          (read_id l so g v j below pvr p (plain_ours l so g v j below pvr b p ws i) id w a u small x)
          (record { same = record { shown = shows (three 6 0 0) _ _ left_alone; stores = tt; input = tt }; next = i })

      by_readable : ltb 65528 (length w) ≡ false → (x : Bool) → is_readable (offer_of pvr) id ≡ x → Goes l so g v j below pvr b (Read id w) ws (cached_turn l g v pvr (Read id w) b) (plain_turn l g v (Read id w) p)
      by_readable a true x = by_size a x (eqb (length w) (element_of id).size) refl
      by_readable a false x = by_special a x (is_special id) refl

      by_length : (a : Bool) → ltb 65528 (length w) ≡ a → Goes l so g v j below pvr b (Read id w) ws (cached_turn l g v pvr (Read id w) b) (plain_turn l g v (Read id w) p)
      by_length true a =
          got (record { answer = refusal Length; cache = b.cache; value = w }) (refuse p (one id w) Length)
          (cached_read true (is_readable (offer_of pvr) id) (eqb (length w) (element_of id).size) (valid b.cache (number_of id)) a refl refl refl) (read_long l so g v j below pvr p (plain_ours l so g v j below pvr b p ws i) id w a)
          (record { same = record { shown = shows (three 5 0 0) _ _ left_alone; stores = tt; input = tt }; next = i })
      by_length false a = by_readable a (is_readable (offer_of pvr) id) refl
