-- Set and get state of one element: what the plain L1 makes of a write and of a read. Assumes nothing.
use mathlib.Core.Path.{◌≡◌, refl, sym, ap, ap₂, ◌∙◌}
use mathlib.Core.Bool.{Bool, true, false, not, cond}
use mathlib.Core.List.{List, [], ◌∷◌}
use Prim.Native.Nat.{ℕ, ◌+◌, ◌^◌, ◌<◌}
use native.Mathlib.Omega.{arith}
use lib.Dec.{eqb, ltb}
use lib.ListN.{length}
use borrow.Author.Tests.{ltb-false}
use Rattle.octets.specs.Bytes.{bytes_at, put}
use Rattle.answer.specs.declared.Bad.TheVariants.{Id, Size, Value}
use Rattle.answer.specs.declared.Fault.{Fault}
use Rattle.answer.specs.declared.Fault.TheVariants.{Length, Element}
use Rattle.answer.specs.Refusals.{first_of}
use Rattle.rules.specs.declared.Usage.{Usage}
use Rattle.rules.specs.declared.Usage.TheVariants.{ThreadGet, ThreadSet, RunInput}
use Rattle.elements.specs.Table.{kind_of}
use Rattle.rules.specs.Rules.{size_fits, good_value}
use Rattle.rules.proofs.Rules.{value_get, value_run}
use Rattle.gsb.specs.Walk.{count_of, first_bad, is_stopped, fault_of, Walked, stopped_at}
use Rattle.gsb.specs.Message.{first_place}
use Rattle.gsb.proofs.RoundTrip.{begins_self, wire_one, one_bad_length, one_element}
use Rattle.elements.specs.declared.Offer.{Offer}
use Rattle.elements.specs.Later.{offer_of}
use Rattle.rules.specs.declared.Context.{Context}
use Rattle.store.specs.declared.Layout.{Layout}
use Rattle.store.specs.Header.{header, capabilities_of}
use Rattle.store.specs.Layout.{Sound}
use Rattle.transfer.specs.Transfer.{applied, filled}
use Rattle.transfer.proofs.Messages.{place_cons, place_nil, applied_message, thread_numbered, filled_value_one}
use Rattle.exits.specs.Exits.{element_of}
use Rattle.admission.specs.Refusals.{accept, refuse, decide, bit1}
use Rattle.admission.specs.Target.{target_tests, base_of}
use Rattle.state.specs.State.{context_of, buffer_tests, set_elements, set_state, fill_with, get_elements, get_state}
use Rattle.promises.proofs.States.{skip}
use Rattle.l1.specs.Marks.{allowed, is_input, is_readable, is_special}
use Rattle.l1.specs.Cache.{place_zero, one, value_in}
use Rattle.agreement.specs.Plain.{write_plain, read_plain}
use Rattle.l1.proofs.Cells.{element_size, element_place, named_end, named_fits, allowed_as, input_allowed, set_as_input, get_as_readable, input_named, readable_named, value_of}
use Rattle.agreement.proofs.Ours.{base, Ours, ours_base, ours_context, ours_room, ours_target}
use Rattle.std.proofs.Common.{Ok}

-- what a thread set takes beside the special ones has no value rule
input_ruled : (f : Offer) (c id : ℕ) (b : List ℕ) (at : ℕ) → is_input f id ≡ true → good_value (record { usage = ThreadSet; capabilities = c; offer = f }) id b at ≡ true
unfolding good_value
input_ruled f c id b at h =
    let k : Context = record { usage = RunInput; capabilities = c; offer = f } in
    value_run k id b at refl (allowed_as k id ∙ input_allowed f id h)

module _ (l : Layout) (so : Sound l) (g v j : ℕ) (below : j < l.slots) (pvr : ℕ) (s : List ℕ) (o : Ours l so g v j below pvr s) (id : ℕ) (w : List ℕ) where
  abbrev at : ℕ
  at = base l so g v j below pvr

  abbrev list : Offer
  list = offer_of pvr

  -- a context of the list that the cache goes by
  abbrev by : Usage → Context
  by usage = record { usage = usage; capabilities = capabilities_of (header l s); offer = offer_of pvr }

  -- past the tests 1 to 4 and 16
  set_past : set_state l s 0 g v (one id w) ≡ first_of (refuse s []) (buffer_tests (context_of l s g ThreadSet) (one id w)) (accept 0 (applied at (one id w) (count_of (one id w)) s))
  unfolding set_state set_elements decide
  set_past =
      skip (refuse s []) (target_tests l s bit1 0 false g v) (buffer_tests (context_of l s g ThreadSet) (one id w)) (accept 0 (applied (base_of l s false g v) (one id w) (count_of (one id w)) s)) (ours_target l so g v j below pvr s o)
      ∙ ap (λ (b : ℕ). first_of (refuse s []) (buffer_tests (context_of l s g ThreadSet) (one id w)) (accept 0 (applied b (one id w) (count_of (one id w)) s))) (ours_base l so g v j below pvr s o)

  get_past : get_state l s 0 g v (one id w) ≡ first_of (refuse s (one id w)) (buffer_tests (context_of l s g ThreadGet) (one id w)) (fill_with s at (one id w))
  unfolding get_state get_elements decide
  get_past =
      skip (refuse s (one id w)) (target_tests l s bit1 0 false g v) (buffer_tests (context_of l s g ThreadGet) (one id w)) (fill_with s (base_of l s false g v) (one id w)) (ours_target l so g v j below pvr s o)
      ∙ ap (λ (b : ℕ). first_of (refuse s (one id w)) (buffer_tests (context_of l s g ThreadGet) (one id w)) (fill_with s b (one id w))) (ours_base l so g v j below pvr s o)

  -- ---- a value that is too long, and a special ID
  module _ (long : ltb 65528 (length w) ≡ true) where
    pub write_long : write_plain l s g v id w ≡ refuse s [] Length
    unfolding write_plain decide
    write_long = ap (λ (t : Bool). cond t (refuse s [] Length) (cond (is_special id) (refuse s [] (Element Id place_zero)) (set_state l s 0 g v (one id w)))) long

    pub read_long : read_plain l s g v id w ≡ refuse s (one id w) Length
    unfolding read_plain decide
    read_long = ap (λ (t : Bool). cond t (refuse s (one id w) Length) (cond (is_special id) (refuse s (one id w) (Element Id place_zero)) (get_state l s 0 g v (one id w)))) long

  module _ (short : ltb 65528 (length w) ≡ false) where
    fits : length w < 2 ^ 16
    fits = omega (arith, ltb-false 65528 (length w) short)

    module _ (special : is_special id ≡ true) where
      pub write_special : write_plain l s g v id w ≡ refuse s [] (Element Id place_zero)
      unfolding write_plain decide
      write_special = ap₂ (λ (t u : Bool). cond t (refuse s [] Length) (cond u (refuse s [] (Element Id place_zero)) (set_state l s 0 g v (one id w)))) short special

      pub read_special : read_plain l s g v id w ≡ refuse s (one id w) (Element Id place_zero)
      unfolding read_plain decide
      read_special = ap₂ (λ (t u : Bool). cond t (refuse s (one id w) Length) (cond u (refuse s (one id w) (Element Id place_zero)) (get_state l s 0 g v (one id w)))) short special

    module _ (common : is_special id ≡ false) (small : id < 2 ^ 16) where
      write_past : write_plain l s g v id w ≡ set_state l s 0 g v (one id w)
      unfolding write_plain decide
      write_past = ap₂ (λ (t u : Bool). cond t (refuse s [] Length) (cond u (refuse s [] (Element Id place_zero)) (set_state l s 0 g v (one id w)))) short common

      read_past : read_plain l s g v id w ≡ get_state l s 0 g v (one id w)
      unfolding read_plain decide
      read_past = ap₂ (λ (t u : Bool). cond t (refuse s (one id w) Length) (cond u (refuse s (one id w) (Element Id place_zero)) (get_state l s 0 g v (one id w)))) short common

      -- the buffer of one element, judged
      judged : {A : Type 0} (turn : Fault → A) (good : A) (usage : Usage) (r : Walked) → first_bad (by usage) (one id w) ≡ r
          → first_of turn (buffer_tests (context_of l s g usage) (one id w)) good ≡ cond (is_stopped r) (turn (fault_of r)) good
      judged turn good usage r e =
          ap (λ (k : Context). first_of turn (buffer_tests k (one id w)) good) (ours_context l so g v j below pvr s o usage)
          ∙ ap₂ (λ (t : Bool) (x : Walked). cond t (turn Length) (cond (is_stopped x) (turn (fault_of x)) good)) (one_bad_length id w ∙ short) e

      walked : (usage : Usage) (p q r : Bool) → allowed list usage id ≡ p → size_fits (kind_of id) (length w) ≡ q → good_value (by usage) id (one id w) 8 ≡ r
          → first_bad (by usage) (one id w) ≡ cond (not p) (stopped_at Id first_place) (cond (not q) (stopped_at Size first_place) (cond (not r) (stopped_at Value first_place) (Ok tt)))
      walked usage p q r a b c =
          one_element (by usage) id w small fits
          ∙ ap₂ (λ (x y : Bool). cond (not x) (stopped_at Id first_place) (cond (not y) (stopped_at Size first_place) (cond (not (good_value (by usage) id (one id w) 8)) (stopped_at Value first_place) (Ok tt)))) (allowed_as (by usage) id ∙ a) b
          ∙ ap (λ (z : Bool). cond (not p) (stopped_at Id first_place) (cond (not q) (stopped_at Size first_place) (cond (not z) (stopped_at Value first_place) (Ok tt)))) c

      -- ---- not permitted
      pub write_id : is_input list id ≡ false → write_plain l s g v id w ≡ refuse s [] (Element Id first_place)
      write_id h =
          write_past ∙ set_past
          ∙ judged (refuse s []) (accept 0 (applied at (one id w) (count_of (one id w)) s)) ThreadSet (stopped_at Id first_place) (walked ThreadSet false (size_fits (kind_of id) (length w)) (good_value (by ThreadSet) id (one id w) 8) (set_as_input list id common ∙ h) refl refl)

      pub read_id : is_readable list id ≡ false → read_plain l s g v id w ≡ refuse s (one id w) (Element Id first_place)
      read_id h =
          read_past ∙ get_past
          ∙ judged (refuse s (one id w)) (fill_with s at (one id w)) ThreadGet (stopped_at Id first_place) (walked ThreadGet false (size_fits (kind_of id) (length w)) (good_value (by ThreadGet) id (one id w) 8) (get_as_readable list id common ∙ h) refl refl)

      -- ---- another size
      pub write_size : is_input list id ≡ true → eqb (length w) (element_of id).size ≡ false → write_plain l s g v id w ≡ refuse s [] (Element Size first_place)
      write_size h z =
          write_past ∙ set_past
          ∙ judged (refuse s []) (accept 0 (applied at (one id w) (count_of (one id w)) s)) ThreadSet (stopped_at Size first_place)
          (walked ThreadSet true false (good_value (by ThreadSet) id (one id w) 8) (set_as_input list id common ∙ h) (named_fits id (input_named list id h) (length w) ∙ z) refl)

      pub read_size : is_readable list id ≡ true → eqb (length w) (element_of id).size ≡ false → read_plain l s g v id w ≡ refuse s (one id w) (Element Size first_place)
      read_size h z =
          read_past ∙ get_past
          ∙ judged (refuse s (one id w)) (fill_with s at (one id w)) ThreadGet (stopped_at Size first_place)
          (walked ThreadGet true false (good_value (by ThreadGet) id (one id w) 8) (get_as_readable list id common ∙ h) (named_fits id (readable_named list id h) (length w) ∙ z) refl)

      -- ---- good
      pub write_good : is_input list id ≡ true → eqb (length w) (element_of id).size ≡ true → write_plain l s g v id w ≡ accept 0 (put s (at + (element_of id).position) w)
      write_good h z =
          let t = input_named list id h in
          write_past ∙ set_past
          ∙ judged (refuse s []) (accept 0 (applied at (one id w) (count_of (one id w)) s)) ThreadSet (Ok tt)
          (walked ThreadSet true true true (set_as_input list id common ∙ h) (named_fits id t (length w) ∙ z) (input_ruled list _ id (one id w) 8 h))
          ∙ ap (accept 0) (applied_message at ((id, w) ∷ []) (one id w) (wire_one id w small fits) (begins_self (one id w)) s ∙ place_cons at id w [] s ∙ place_nil at _ ∙ thread_numbered id t.entry t.listed t.scope at w s)

      -- what a get that is accepted leaves
      pub get_good : is_readable list id ≡ true → eqb (length w) (element_of id).size ≡ true → get_state l s 0 g v (one id w) ≡ fill_with s at (one id w)
      get_good h z =
          get_past
          ∙ judged (refuse s (one id w)) (fill_with s at (one id w)) ThreadGet (Ok tt)
          (walked ThreadGet true true true (get_as_readable list id common ∙ h) (named_fits id (readable_named list id h) (length w) ∙ z) (value_get (by ThreadGet) id (one id w) 8 refl))

      pub read_good : is_readable list id ≡ true → eqb (length w) (element_of id).size ≡ true → read_plain l s g v id w ≡ fill_with s at (one id w)
      read_good h z = read_past ∙ get_good h z

  -- the value that it read
  pub filled_value : is_readable list id ≡ true → length w ≡ (element_of id).size → value_in (filled at s (one id w) (count_of (one id w))) (length w) ≡ value_of at s id
  filled_value h z =
      let t = readable_named list id h in
      filled_value_one id t.entry t.listed t.scope at s w (z ∙ element_size id t) (omega (arith, ours_room l so g v j below pvr s o, named_end id t, element_place id t, z))
      ∙ ap₂ (λ (p n : ℕ). bytes_at s (at + p) n) (sym (element_place id t)) z
