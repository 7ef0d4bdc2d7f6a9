-- Get state of one thread element: a buffer that holds it alone is good, and its value comes from the slot. Assumes nothing.
use mathlib.Core.Path.{◌≡◌, refl, sym, ap, ap₂, ◌∙◌}
use mathlib.Core.Bool.{Bool, true, false, not, ◌&&◌}
use mathlib.Core.Logic.{◌⊎◌, inl, inr}
use mathlib.Core.List.{List, [], ◌∷◌}
use Prim.Native.Nat.{ℕ, ◌+◌, ◌^◌, ◌≤◌, ◌<◌}
use native.Mathlib.Omega.{arith}
use lib.ListN.{length}
use borrow.Author.Tests.{le-ltb, eq-eqb, not-true, not-false}
use Rattle.std.specs.Prelude.{Result, Ok, Err}
use Rattle.octets.specs.Bytes.{bytes_at, put}
use Rattle.octets.proofs.Bytes.{length_bytes_at, put_all}
use Rattle.answer.specs.declared.Answer.{Answer}
use Rattle.answer.specs.declared.Bad.TheVariants.{Id}
use Rattle.answer.specs.declared.Place.{Place}
use Rattle.answer.specs.declared.Fault.{Fault}
use Rattle.answer.specs.declared.Fault.TheVariants.{Element}
use Rattle.elements.specs.declared.Scope.TheVariants.{Thread}
use Rattle.rules.specs.declared.Usage.{Usage}
use Rattle.rules.specs.declared.Usage.TheVariants.{ThreadGet}
use Rattle.elements.specs.declared.Entry.{Entry}
use Rattle.elements.specs.declared.Kind.{Kind}
use Rattle.elements.specs.declared.Kind.TheVariants.{Nop, Listed}
use Rattle.elements.specs.declared.Element.{Element as ThreadElement}
use Rattle.elements.specs.declared.Offer.TheVariants.{Full}
use Rattle.elements.specs.Later.{offers}
use Rattle.rules.proofs.Lists.{by, permits_by}
use Rattle.rules.specs.declared.Context.{Context}
use Rattle.elements.specs.Table.{kind_of, position, number_of, thread_element}
use Rattle.rules.specs.Rules.{permits, allows, size_fits, is_setting, good_value}
use Rattle.elements.proofs.Table.{nop_zero, number_lt, number_element, position_end, thread_stored, size_bound}
use Rattle.rules.proofs.Rules.{permits_cases, allows_scope, value_get}
use Rattle.gsb.specs.Walk.{count_of, bad_length, first_bad, stopped_at}
use Rattle.gsb.specs.Message.{message}
use Rattle.gsb.proofs.Walks.{offset_start}
use Rattle.gsb.proofs.RoundTrip.{begins_self, wire_one, listed_fits, message_size, message_value, one_bad_length, one_element}
use Rattle.store.specs.declared.Layout.{Layout}
use Rattle.store.specs.Layout.{slot_bytes}
use Rattle.transfer.specs.Transfer.{filled}
use Rattle.transfer.proofs.Messages.{filled_value_one}
use Rattle.admission.specs.Refusals.{Outcome, success, refusal}
use Rattle.admission.specs.Target.{target_of}
use Rattle.state.specs.State.{context_of, got_element}
use Rattle.state.specs.Private.{buffer_good, get_at}
use Rattle.state.proofs.Buffers.{buffer_bad, buffer_done, get_bad, get_done, get_turned, get_past}
use Rattle.state.proofs.HandOvers.{get_plain}

-- ---- an ID that a thread get permits, not the NOP
module _ (id : ℕ) (p : permits (by ThreadGet 0 Full) id (kind_of id) ≡ true) (some : 0 < id) where
  listed : (x : Entry) × (kind_of id ≡ Listed x) × (x.scope ≡ Thread)
  listed = go (permits_cases (by ThreadGet 0 Full) id (kind_of id) p)
    where
      go : (kind_of id ≡ Nop) ⊎ ((x : Entry) × (kind_of id ≡ Listed x) × (allows ThreadGet id x ≡ true)) → (x : Entry) × (kind_of id ≡ Listed x) × (x.scope ≡ Thread)
      go (inl q) = absurd (zero_less (nop_zero id q))
        where
          zero_less : id ≡ 0 → ⊥
          zero_less z = omega arith
      go (inr q) = (q.0, q.1, allows_scope ThreadGet id q.0 q.2)

  entry : Entry
  entry = listed.0

  the_element : thread_element (number_of id) ≡ record { id = id; size = entry.size; position = position Thread id }
  unfolding entry
  the_element = number_element id entry listed.1 listed.2

  module _ (x : ThreadElement) (n : ℕ) (t : x ≡ thread_element n) (m : n ≡ number_of id) where
    the_size : x.size ≡ entry.size
    the_size = ap (λ (y : ThreadElement). y.size) (t ∙ ap thread_element m ∙ the_element)

    the_position : x.position ≡ position Thread id
    the_position = ap (λ (y : ThreadElement). y.position) (t ∙ ap thread_element m ∙ the_element)

    inside : position Thread id + entry.size ≤ slot_bytes
    unfolding entry
    inside = position_end Thread id entry listed.1 listed.2 (thread_stored id entry listed.1 listed.2)

    module _ (base len : ℕ) (h : base + slot_bytes ≤ len) where
      pub one_from : base + x.position + x.size ≤ len
      one_from = omega (arith, the_size, the_position, inside)

      pub one_fits : len < 2 ^ 64 → base + x.position < 2 ^ 64
      one_fits k = omega (arith, one_from)

    pub one_to : (v : List ℕ) → length v ≡ (thread_element (number_of id)).size → 0 + x.size ≤ length v
    one_to v z = omega (arith, z, ap (λ (y : ThreadElement). y.size) (t ∙ ap thread_element m))

  pub one_number : (n : ℕ) → n ≡ number_of id → n < 170
  unfolding entry
  one_number n m = omega (arith, m, number_lt id entry listed.1 listed.2)

  -- ---- the call
  module _ (v : List ℕ) (z : length v ≡ (thread_element (number_of id)).size) where
    sized : length v ≡ entry.size
    sized = z ∙ ap (λ (y : ThreadElement). y.size) the_element

    abbrev buffer : List ℕ
    buffer = message ((id, v) ∷ [])

    fit : (id < 2 ^ 16) × (length v < 2 ^ 16)
    unfolding entry
    fit = listed_fits id entry v listed.1 sized

    -- the value as it stands in the buffer
    value_there : bytes_at buffer 8 (length v) ≡ v
    value_there =
        let w = wire_one id v fit.0 fit.1 in
        let s = begins_self buffer in
        let h : 0 < 1 = omega arith in
        ap₂ (λ (a n : ℕ). bytes_at buffer (a + 4) n) (offset_start buffer) (sym (message_size ((id, v) ∷ []) buffer w s 0 h)) ∙ message_value ((id, v) ∷ []) buffer w s 0 h

    -- the list decides
    by_list : (k : Context) → k.usage ≡ ThreadGet → permits k id (kind_of id) ≡ offers k.offer id
    by_list k u =
        ap (λ (y : Usage). permits (by y k.capabilities k.offer) id (kind_of id)) u ∙ permits_by ThreadGet k.capabilities 0 k.offer id
        ∙ ap (λ (t : Bool). t && offers k.offer id) p

    good_one : (k : Context) → k.usage ≡ ThreadGet → offers k.offer id ≡ true → first_bad k buffer ≡ Ok tt
    unfolding entry size_fits
    good_one k u o =
        let a : permits k id (kind_of id) ≡ true = by_list k u ∙ o in
        let b : size_fits (kind_of id) (length v) ≡ true = ap (λ (y : Kind). size_fits y (length v)) listed.1 ∙ eq-eqb _ _ sized in
        let c : good_value k id buffer 8 ≡ true = value_get k id buffer 8 (ap is_setting u) in
        one_element k id v fit.0 fit.1 ∙ simp (a, b, c)

    lacked_one : (k : Context) → k.usage ≡ ThreadGet → offers k.offer id ≡ false → first_bad k buffer ≡ stopped_at Id (record { index = 0; offset = 4 })
    unfolding entry
    lacked_one k u o = let a : permits k id (kind_of id) ≡ false = by_list k u ∙ o in one_element k id v fit.0 fit.1 ∙ simp a

    short : bad_length buffer ≡ false
    unfolding entry
    short =
        let few : length v ≤ 65528 = omega (arith, sized, (size_bound id listed.0 listed.1).1) in
        one_bad_length id v ∙ le-ltb _ _ few

    -- past the target
    module _ (s : List ℕ) (base : ℕ) (k : Context) (usage : k.usage ≡ ThreadGet) (o : Bool) (f : o ≡ offers k.offer id) where
      abbrev place : Place
      place = record { index = 0; offset = 4 }

      -- an element that the guest's list lacks
      lacked : not o ≡ true → ◌≡◌ {A = Outcome} (record { answer = refusal (Element Id place); store = s; buffer = buffer }) (get_at s base k buffer)
      lacked n =
          let w = lacked_one k usage (sym f ∙ not-true o n) in
          get_bad k buffer (buffer_good k buffer) refl s base (Element Id place) (sym (buffer_bad k buffer false (sym short) refl (first_bad k buffer) refl (record { bad = Id; place = place }) (Element Id place) w refl))

      pub one_lacked : not o ≡ true → refusal (Element Id place) ≡ (get_at s base k buffer).answer
      one_lacked n = ap (λ (x : Outcome). x.answer) (lacked n)

      pub one_left : not o ≡ true → v ≡ bytes_at (get_at s base k buffer).buffer 8 (length v)
      one_left n = sym value_there ∙ ap (λ (x : Outcome). bytes_at x.buffer 8 (length v)) (lacked n)

      module _ (n : not o ≡ false) where
        admitted : buffer_good k buffer ≡ Ok tt
        admitted = sym (buffer_done k buffer false (sym short) refl (first_bad k buffer) refl (good_one k usage (sym f ∙ not-false o n)))

        found : ◌≡◌ {A = Outcome} (record { answer = success 0; store = s; buffer = filled base s buffer (count_of buffer) }) (get_at s base k buffer)
        found = get_done k buffer (buffer_good k buffer) refl s base (filled base s buffer (count_of buffer)) admitted refl

        pub one_found : success 0 ≡ (get_at s base k buffer).answer
        one_found = ap (λ (x : Outcome). x.answer) found

        pub one_value : base + slot_bytes ≤ length s → (x : ThreadElement) (m : ℕ) → x ≡ thread_element m → m ≡ number_of id → (u : List ℕ) → u ≡ put v 0 (bytes_at s (base + x.position) x.size)
            → u ≡ bytes_at (get_at s base k buffer).buffer 8 (length v)
        unfolding entry
        one_value held x m t g u w =
            let room = one_from x m t g base (length s) held in
            let long : length (bytes_at s (base + x.position) x.size) ≡ length v = length_bytes_at s (base + x.position) x.size room ∙ the_size x m t g ∙ sym sized in
            let same : x.size ≡ length v = the_size x m t g ∙ sym sized in
            w ∙ put_all v (bytes_at s (base + x.position) x.size) long ∙ ap₂ (λ (p n : ℕ). bytes_at s (base + p) n) (the_position x m t g) same
            ∙ sym (filled_value_one id entry listed.1 listed.2 base s v sized (omega (arith, room, the_position x m t g, same)))
            ∙ ap (λ (y : Outcome). bytes_at y.buffer 8 (length v)) found

    -- the call
    module _ (l : Layout) (s : List ℕ) (guest vcpu : ℕ) (a : Result ℕ Fault) (q : a ≡ target_of l s (2 ^ 62) 0 false guest vcpu) where
      turned : (f : Fault) → a ≡ Err f → ◌≡◌ {A = Outcome} (record { answer = refusal f; store = s; buffer = buffer }) (got_element l s guest vcpu id v)
      turned f h = get_turned l s 0 false refl guest vcpu buffer a q f h ∙ get_plain l s 0 guest vcpu buffer refl

      pub one_turned : (f : Fault) → a ≡ Err f → refusal f ≡ (got_element l s guest vcpu id v).answer
      one_turned f h = ap (λ (o : Outcome). o.answer) (turned f h)

      pub one_kept : (f : Fault) → a ≡ Err f → v ≡ bytes_at (got_element l s guest vcpu id v).buffer 8 (length v)
      one_kept f h = sym value_there ∙ ap (λ (o : Outcome). bytes_at o.buffer 8 (length v)) (turned f h)

      module _ (base : ℕ) (h : a ≡ Ok base) (k : Context) (is : k ≡ context_of l s guest ThreadGet) where
        got : get_at s base k buffer ≡ got_element l s guest vcpu id v
        got = get_past l s 0 false refl guest vcpu buffer a q base ThreadGet k h refl is ∙ get_plain l s 0 guest vcpu buffer refl

        pub one_got : (r : Answer) → r ≡ (get_at s base k buffer).answer → r ≡ (got_element l s guest vcpu id v).answer
        one_got r d = d ∙ ap (λ (o : Outcome). o.answer) got

        pub one_bytes : (u : List ℕ) → u ≡ bytes_at (get_at s base k buffer).buffer 8 (length v) → u ≡ bytes_at (got_element l s guest vcpu id v).buffer 8 (length v)
        one_bytes u d = d ∙ ap (λ (o : Outcome). bytes_at o.buffer 8 (length v)) got
