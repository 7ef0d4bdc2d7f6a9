-- THEOREM `pvr_agreed`: over every list of calls from a fresh store, each live guest's PVR is 0 or an agreed one. Assumes nothing.
use mathlib.Core.Path.{◌≡◌, refl, sym, ap, ap₂, ◌∙◌, subst}
use mathlib.Core.Logic.{◌≢◌, ◌⊎◌, inl, inr}
use mathlib.Core.Bool.{Bool, true, false, not, ◌&&◌, ◌||◌, cond}
use mathlib.Core.List.{List, [], ◌∷◌, ◌++◌}
use Prim.Native.Nat.{ℕ, zero, suc, ◌+◌, ◌*◌, ◌/◌, ◌%◌, ◌^◌, ◌≤◌, ◌<◌}
use native.Mathlib.Nat.{add-zero}
use native.Mathlib.Omega.{arith}
use native.Mathlib.Decide.{ℕ_discrete}
use lib.Dec.{eqb}
use lib.ListN.{length}
use borrow.Author.Tests.{eqb-true, ltb-true, ltb-false, not-true, not-false}
use Rattle.octets.specs.Bytes.{bytes_at, put, be, digits, zeros, Clear, left, right}
use Rattle.octets.specs.Bits.{bit, bits, ins, set_bit, put_bits}
use Rattle.octets.proofs.Bytes.{clear_part, length_zeros, length_bytes_at, read_back}
use Rattle.octets.proofs.Numbers.{be_ext, be_part, be_other, be_zeros, length_digits}
use Rattle.octets.proofs.Bits.{get_or_put_bits}
use Rattle.answer.specs.declared.Fault.{Fault}
use Rattle.elements.specs.declared.Scope.TheVariants.{Guest as GuestWide}
use Rattle.elements.specs.declared.Source.{Source}
use Rattle.elements.specs.declared.Source.TheVariants.{Fixed, Stored}
use Rattle.elements.specs.declared.Entry.{Entry}
use Rattle.elements.specs.declared.Kind.{Kind}
use Rattle.elements.specs.declared.Kind.TheVariants.{Unlisted, Nop, Listed}
use Rattle.elements.specs.Table.{table, below, position, source_of, find, kind_of}
use Rattle.elements.proofs.Table.{source_stored, behind_pvr}
use Rattle.rules.specs.declared.Context.{Context}
use Rattle.rules.specs.declared.Usage.TheVariants.{GuestSet}
use Rattle.elements.specs.Later.{later, is_later, offer_of, offers}
use Rattle.rules.specs.Rules.{scope_for, allows, permits, size_fits, good_pvr, rule_of, is_setting, good_value}
use Rattle.rules.proofs.Rules.{size_listed, permits_scope}
use Rattle.gsb.proofs.First.{element_good_lem}
use Rattle.gsb.specs.Walk.{count_of, id_at, size_at, offset_at, judged, walk_on, walk, first_bad}
use Rattle.store.specs.declared.Layout.{Layout}
use Rattle.store.specs.Layout.{Sound, small, guest_bytes, slot_bytes, guest_at, slot_at}
use Rattle.store.specs.Search.{every, first}
use Rattle.store.specs.Header.{header, live, capabilities_of, word_at, word, word_of, is_used, guest_of, is_taken, lacks, alone, slot_good, head_good, words_good, is_dead, any_live, free_guest, free_slot}
use Rattle.store.specs.Store.{well_formed, fresh, put_capabilities, put_live, put_word, put_taken, put_slot, with_guest, with_vcpu, drop_word, drop_words, without_guest, no_words, no_guests, without_guests}
use Rattle.store.proofs.Readings.{step}
use Rattle.store.proofs.Search.{every_at, first_bounds, no_bool}
use Rattle.store.proofs.Tests.{live_parts}
use Rattle.store.proofs.WordFields.{live_else}
use Rattle.store.proofs.Marks.{live_slot}
use Rattle.store.proofs.Frame.{header_full, header_values, header_caps, header_slot, header_live, formed}
use Rattle.store.proofs.Kept.{live_long, caps_live, caps_said, deleted_else}
use Rattle.transfer.specs.Transfer.{value_at, put_from, put_as, applied}
use Rattle.transfer.proofs.Moving.{length_applied}
use Rattle.admission.specs.Refusals.{Outcome, refuse, decide, Passed, has_bit0, hands_over}
use Rattle.admission.specs.Target.{slot_named, target_tests, base_of}
use Rattle.handover.specs.Form.{values_of, taken}
use Rattle.state.specs.HandOver.{take_vcpu, give_vcpu}
use Rattle.state.proofs.Buffers.{pvr_place}
use Rattle.state.specs.State.{pvr_of, context_of, supported_bits, set_use, buffer_tests, set_elements, set_state, get_elements}
use Rattle.state.proofs.HandOvers.{set_plain, get_ways, set_ways}
use Rattle.promises.proofs.HandedOver.{handed, handed_live, handed_caps, handed_beside, Slotted, take_slotted, give_slotted, given_length}
use Rattle.run.specs.Run.{input_of, ran_store, ran, run_vcpu}
use Rattle.guests.specs.Guests.{create_guest, create_vcpu, delete_guest}
use Rattle.l0.specs.Calls.{get_capabilities, set_capabilities, guest_clock, Call, GetCapabilities, SetCapabilities, CreateGuest, CreateVcpu, GetState, SetState, RunVcpu, DeleteGuest, GuestClock, outcome, after}
use Rattle.promises.specs.Agreed.{ZeroOrAgreed, PvrAgreed, both_pvrs, LivesWith}
use Rattle.promises.specs.Edges.{element, buffer_of, one}
use Rattle.promises.proofs.Kept.{decided, applied_header, base_values}
use Rattle.promises.proofs.Lowest.{all_dead}
use Rattle.promises.proofs.States.{walked, wide_base, guests_apart, pvr_kept, every_guest, other_guest}
use Rattle.promises.proofs.Runs.{run_beside}
use Rattle.std.proofs.Common.{Ok}

-- a number at the start of a part
be_front : (s : List ℕ) (i n m : ℕ) → m ≤ n → be (bytes_at s i n) 0 m ≡ be s i m
be_front s i n m h = be_part s i n 0 m (omega arith) ∙ ap (λ (x : ℕ). be s x m) (add-zero i)

-- 0x0003 has 4 bytes, and a rule when it is set
listed_size : (id : ℕ) (x : Entry) → kind_of 0x0003 ≡ Listed x → x.size ≡ 4
unfolding kind_of find table
listed_size id x e = cc

pvr_ruled : (k : Context) → k.usage ≡ GuestSet → (id : ℕ) (b : List ℕ) (at : ℕ) → id ≡ 0x0003 → good_value k id b at ≡ true → good_pvr k.capabilities (be b at 4) ≡ true
unfolding good_value rule_of
pvr_ruled k u id b at q h = sym (simp (ap is_setting u, ap (λ (n : ℕ). eqb n 0x0003) q)) ∙ h

-- what is agreed is told by 64 bits
agreed_low : (c v : ℕ) → ZeroOrAgreed c v → ZeroOrAgreed (c % 2 ^ 64) v
unfolding good_pvr
agreed_low c v (inl z) = inl z
agreed_low c v (inr h) =
    let one : c % 2 ^ 64 / 2 ^ 62 % 2 ≡ c / 2 ^ 62 % 2 = omega arith in
    let two : c % 2 ^ 64 / 2 ^ 61 % 2 ≡ c / 2 ^ 61 % 2 = omega arith in
    inr (ap₂ (λ (x y : ℕ). (eqb v 0x0F000005 && eqb x 1) || (eqb v 0x0F000006 && eqb y 1)) one two ∙ h)

module _ (l : Layout) (so : Sound l) where
  -- the agreed capabilities are the first bytes of the store too
  caps_front : (s : List ℕ) → capabilities_of (header l s) ≡ be s 0 8
  unfolding capabilities_of header
  caps_front s = be_front s 0 l.guests_at 8 (omega (arith, so.head, so.words))

  -- ---- a store that has the PVRs and the capabilities of another
  record Keeps (s t : List ℕ) : Type 0 where
    caps : be t 0 8 ≡ be s 0 8
    pvrs : (g : ℕ) → 1 ≤ g → g ≤ l.guests → pvr_of l t g ≡ pvr_of l s g

  keeps_self : (s : List ℕ) → Keeps s s
  keeps_self s = record { caps = refl; pvrs = λ g lo hi. refl }

  keeps_more : (s t u : List ℕ) → Keeps s t → Keeps t u → Keeps s u
  keeps_more s t u a b = record { caps = b.caps ∙ a.caps; pvrs = λ g lo hi. b.pvrs g lo hi ∙ a.pvrs g lo hi }

  -- a field of the header behind the capabilities
  keeps_field : (s : List ℕ) (a n v : ℕ) → 64 ≤ a → a + n ≤ 8 * l.guests_at → Keeps s (put_bits s a n v)
  keeps_field s a n v from upto = record {
    caps = be_ext (put_bits s a n v) s 0 8 (λ k h. get_or_put_bits s a n v (0 + k) (right (omega arith)));
    pvrs = λ g lo hi. be_ext (put_bits s a n v) s (guest_at l g + position GuestWide 0x0003) 4
        (λ k h. get_or_put_bits s a n v (guest_at l g + position GuestWide 0x0003 + k) (left (omega arith)));
  }

  keeps_word : (s : List ℕ) (i w : ℕ) → i < l.slots → Keeps s (put_word l s i w)
  unfolding put_word
  keeps_word s i w h = keeps_field s (word_at l i) l.width w (omega (arith, so.head)) (omega (arith, so.words, step l.width i l.slots h))

  keeps_entry : (s : List ℕ) (i w : ℕ) → i < l.slots → Keeps s (put_slot l s i w)
  unfolding put_slot put_taken
  keeps_entry s i w h =
      keeps_more s _ _ (keeps_field s (8 * l.taken_at + i) 1 0 (omega (arith, so.marks_head)) (omega (arith, so.marks))) (keeps_word (put_taken l s i 0) i w h)

  keeps_live : (s : List ℕ) (g b : ℕ) → 1 ≤ g → g ≤ l.guests → Keeps s (put_live s g b)
  unfolding put_live
  keeps_live s g b lo hi = keeps_field s (63 + g) 1 b (omega arith) (omega (arith, so.head, so.words))

  -- values that are not the guests'
  keeps_slot : (s : List ℕ) (j : ℕ) (v : List ℕ) → Keeps s (put s (slot_at l j) v)
  keeps_slot s j v = record {
    caps = be_other s (slot_at l j) v 0 8 (right (omega (arith, so.head, so.words, so.guests_fit)));
    pvrs = λ g lo hi. be_other s (slot_at l j) v (guest_at l g + position GuestWide 0x0003) 4 (right (omega (arith, so.guests_fit, pvr_place)));
  }

  keeps_one : (s : List ℕ) (g n : ℕ) → n < l.slots → Keeps s (drop_word l g n s)
  unfolding drop_word
  keeps_one s g n h = go (eqb _ g)
    where
      go : (b : Bool) → Keeps s (cond b (put_slot l s n 0) s)
      go true = keeps_entry s n 0 h
      go false = keeps_self s

  keeps_drop : (s : List ℕ) (g n : ℕ) → n ≤ l.slots → Keeps s (drop_words l g n s)
  unfolding drop_words
  keeps_drop s g zero h = keeps_self s
  keeps_drop s g (suc n) h = keeps_more s (drop_words l g n s) _ (keeps_drop s g n (omega arith)) (keeps_one (drop_words l g n s) g n (omega arith))

  keeps_bare : (s : List ℕ) (n : ℕ) → n ≤ l.slots → Keeps s (no_words l n s)
  unfolding no_words
  keeps_bare s zero h = keeps_self s
  keeps_bare s (suc n) h = keeps_more s (no_words l n s) _ (keeps_bare s n (omega arith)) (keeps_entry (no_words l n s) n 0 (omega arith))

  keeps_none : (s : List ℕ) (n : ℕ) → n ≤ l.guests → Keeps s (no_guests n s)
  unfolding no_guests
  keeps_none s zero h = keeps_self s
  keeps_none s (suc n) h = keeps_more s (no_guests n s) _ (keeps_none s n (omega arith)) (keeps_live (no_guests n s) (n + 1) 0 (omega arith) (omega arith))

  -- ---- a set of the guest's own values: what is left as the PVR was there before, or was judged good
  module _ (k : Context) (set : k.usage ≡ GuestSet) (base : ℕ) (b : List ℕ) (d : first_bad k b ≡ Ok tt) where
    abbrev pvrAt : List ℕ → ℕ
    pvrAt s = be s (base + position GuestWide 0x0003) 4

    abbrev Left : List ℕ → List ℕ → Type 0
    Left s t = (pvrAt t ≡ pvrAt s) ⊎ (good_pvr k.capabilities (pvrAt t) ≡ true)

    -- one element, i, stored into t, which has room for it
    stored_left : (i : ℕ) → i < count_of b → (s t : List ℕ) → base + guest_bytes ≤ length t → Left s t → (kind : Kind) → kind_of (id_at b (offset_at b i)) ≡ kind
        → size_fits kind (size_at b (offset_at b i)) ≡ true → Left s (put_as kind base (value_at b (offset_at b i)) t)
    unfolding put_as put_from
    stored_left i h s t room was Unlisted e f = was
    stored_left i h s t room was Nop e f = was
    stored_left i h s t room was (Listed x) e f = go x.source refl
      where
        at : ℕ
        at = offset_at b i

        id : ℕ
        id = id_at b at

        long : length (value_at b at) ≡ x.size
        long = length_bytes_at b (at + 4) (size_at b at) (element_good_lem k b d i h).inside ∙ size_listed x (size_at b at) f

        scoped : x.scope ≡ GuestWide
        scoped = permits_scope k id x (ap (permits k id) (sym e) ∙ (element_good_lem k b d i h).permitted) ∙ ap scope_for set

        other : (p : ℕ) → x.source ≡ Stored p → id ≢ 0x0003 → Left s (put t (base + p) (value_at b at))
        other p z n =
            let st = source_stored id x p e z in
            let low : 4 ≤ position GuestWide id = behind_pvr id x e scoped st.0 n in
            let same : pvrAt (put t (base + p) (value_at b at)) ≡ pvrAt t = be_other t (base + p) (value_at b at) (base + position GuestWide 0x0003) 4 (right (omega (arith, low, pvr_place, st.1, ap (λ y. position y id) scoped))) in
            moved (put t (base + p) (value_at b at)) same was
          where
            moved : (u : List ℕ) → pvrAt u ≡ pvrAt t → Left s t → Left s u
            moved u q (inl a) = inl (q ∙ a)
            moved u q (inr a) = inr (ap (good_pvr k.capabilities) q ∙ a)

        -- the PVR itself: its rule held of it
        pvr_size : id ≡ 0x0003 → x.size ≡ 4
        pvr_size q = listed_size 0x0003 x (ap kind_of (sym q) ∙ e)

        pvr_judged : id ≡ 0x0003 → good_pvr k.capabilities (be b (at + 4) 4) ≡ true
        pvr_judged q = pvr_ruled k set id b (at + 4) q (element_good_lem k b d i h).value

        pvr_stored : id ≡ 0x0003 → (p : ℕ) → x.source ≡ Stored p → pvrAt (put t (base + p) (value_at b at)) ≡ be b (at + 4) 4
        pvr_stored q p z =
            let st = source_stored id x p e z in
            let there : p ≡ position GuestWide 0x0003 = st.1 ∙ ap₂ position scoped q in
            let four : length (value_at b at) ≡ 4 = long ∙ pvr_size q in
            let size : size_at b at ≡ 4 = sym (length_bytes_at b (at + 4) (size_at b at) (element_good_lem k b d i h).inside) ∙ four in
            let i : ℕ = base + position GuestWide 0x0003 in
            ap (λ (y : ℕ). pvrAt (put t (base + y) (value_at b at))) there
            ∙ sym (be_front (put t i (value_at b at)) i 4 4 (omega arith))
            ∙ ap (λ (v : List ℕ). be v 0 4)
            (ap (bytes_at (put t i (value_at b at)) i) (sym four) ∙ read_back t i (value_at b at) (omega (arith, four, pvr_place)) ∙ ap (bytes_at b (at + 4)) size)
            ∙ be_front b (at + 4) 4 4 (omega arith)

        go : (y : Source) → x.source ≡ y → Left s (put_from y base (value_at b at) t)
        go (Fixed n) z = was
        go (Stored p) z = by_id (ℕ_discrete id 0x0003)
          where
            by_id : Dec (id ≡ 0x0003) → Left s (put t (base + p) (value_at b at))
            by_id (no n) = other p z n
            by_id (yes q) = inr (ap (good_pvr k.capabilities) (pvr_stored q p z) ∙ pvr_judged q)

    applied_left : (n : ℕ) → n ≤ count_of b → (s : List ℕ) → base + guest_bytes ≤ length s → Left s (applied base b n s)
    unfolding applied
    applied_left zero h s room = inl refl
    applied_left (suc n) h s room =
        stored_left n (omega arith) s (applied base b n s) (omega (arith, length_applied base b s n)) (applied_left n (omega arith) s room) (kind_of (id_at b (offset_at b n))) refl
        (element_good_lem k b d n (omega arith)).sized

  -- ---- what a new guest and a new vCPU are made of
  with_guest_lem : (s : List ℕ) (k : ℕ) → with_guest l s k ≡ put (put_live s k 1) (guest_at l k) (zeros guest_bytes)
  unfolding with_guest
  with_guest_lem s k = refl

  with_vcpu_lem : (s : List ℕ) (j g v : ℕ) → with_vcpu l s j g v ≡ put (put_slot l s j (word_of l g v)) (slot_at l j) (zeros slot_bytes)
  unfolding with_vcpu
  with_vcpu_lem s j g v = refl

  without_guest_lem : (s : List ℕ) (g : ℕ) → without_guest l s g ≡ put_live (drop_words l g l.slots s) g 0
  unfolding without_guest
  without_guest_lem s g = refl

  -- zeros are the PVR 0
  cleared : (s : List ℕ) (k : ℕ) → guest_at l k + guest_bytes ≤ length s → pvr_of l (put s (guest_at l k) (zeros guest_bytes)) k ≡ 0
  cleared s k room =
      sym (be_part (put s (guest_at l k) (zeros guest_bytes)) (guest_at l k) guest_bytes (position GuestWide 0x0003) 4 (omega (arith, pvr_place)))
      ∙ ap (λ (x : List ℕ). be x (position GuestWide 0x0003) 4) (whole_zeros (read_back s (guest_at l k) (zeros guest_bytes) (subst (λ (n : ℕ). guest_at l k + n ≤ length s) (sym (length_zeros guest_bytes)) room)))
      ∙ be_zeros guest_bytes (position GuestWide 0x0003) 4
    where
      whole_zeros : bytes_at (put s (guest_at l k) (zeros guest_bytes)) (guest_at l k) (length (zeros guest_bytes)) ≡ zeros guest_bytes → bytes_at (put s (guest_at l k) (zeros guest_bytes)) (guest_at l k) guest_bytes ≡ zeros guest_bytes
      whole_zeros e = ap (bytes_at (put s (guest_at l k) (zeros guest_bytes)) (guest_at l k)) (sym (length_zeros guest_bytes)) ∙ e

  -- ---- the capabilities stored
  caps_pvr : (s : List ℕ) (c g : ℕ) → pvr_of l (put_capabilities s c) g ≡ pvr_of l s g
  unfolding put_capabilities
  caps_pvr s c g = be_other s 0 (digits 8 c) (guest_at l g + position GuestWide 0x0003) 4 (left (omega (arith, length_digits 8 c, so.head, so.words)))

  -- where no guest lives, none does
  none_live : (h : List ℕ) → any_live l h ≡ false → (g : ℕ) → live l h g ≡ true → live l h g ≡ false
  unfolding any_live is_dead
  none_live h e g a =
      let r = live_parts l h g a in
      not-true _ (every_at (λ k. not (live l h k)) l.guests 1 (not-false _ e) g r.0 (omega (arith, r.1)))

  -- ---- each call
  record Agreed (o : Outcome) : Type 0 where
    agreed : PvrAgreed l o.store

  module _ (s : List ℕ) (given : PvrAgreed l s) where
    record Headed (o : Outcome) : Type 0 where
      same : header l o.store ≡ header l s

    record Owned (g : ℕ) (o : Outcome) : Type 0 where
      good : ZeroOrAgreed (capabilities_of (header l s)) (pvr_of l o.store g)

    refused : (b : List ℕ) (f : Fault) → Agreed (refuse s b f)
    refused b f = record { agreed = given }

    -- what keeps PVRs and capabilities, and wakes no guest
    kept : (t : List ℕ) → Keeps s t → ((g : ℕ) → live l (header l t) g ≡ true → live l (header l s) g ≡ true) → PvrAgreed l t
    kept t k lives g h =
        let a = lives g h in
        let r = live_parts l (header l s) g a in
        let c : capabilities_of (header l t) ≡ capabilities_of (header l s) = caps_front t ∙ k.caps ∙ sym (caps_front s) in
        subst (λ (x : ℕ). ZeroOrAgreed x (pvr_of l t g)) (sym c) (subst (ZeroOrAgreed (capabilities_of (header l s))) (sym (k.pvrs g r.0 r.1)) (given g a))

    -- the same header
    kept_header : (t : List ℕ) → header l t ≡ header l s → ((g : ℕ) → 1 ≤ g → g ≤ l.guests → pvr_of l t g ≡ pvr_of l s g) → PvrAgreed l t
    kept_header t e p =
        kept t (record { caps = sym (caps_front t) ∙ ap capabilities_of e ∙ caps_front s; pvrs = p }) (λ g h. sym (ap (λ (x : List ℕ). live l x g) e) ∙ h)

    set_header : (flags guest vcpu : ℕ) (b : List ℕ) → hands_over flags ≡ false → header l (set_state l s flags guest vcpu b).store ≡ header l s
    unfolding set_elements
    set_header flags guest vcpu b plain =
        ap (λ (o : Outcome). header l o.store) (sym (set_plain l s flags guest vcpu b plain))
        ∙ (decided Headed s [] _ _ (λ f. record { same = refl })
        (λ p. record { same = applied_header l so (base_of l s (has_bit0 flags) guest vcpu) b (count_of b) s (base_values l so s (has_bit0 flags) guest vcpu) })).same

    run_header : (flags guest vcpu : ℕ) (input output effect : List ℕ) (exit : ℕ) → header l (run_vcpu l s flags guest vcpu input output effect exit).store ≡ header l s
    unfolding run_vcpu ran ran_store
    run_header flags guest vcpu input output effect exit =
        let base = base_of l s false guest vcpu in
        let i = input_of s base input in
        let v = base_values l so s false guest vcpu in
        (decided Headed s output _ _ (λ f. record { same = refl })
        (λ p. record { same = applied_header l so base effect (count_of effect) (applied base i (count_of i) s) v ∙ applied_header l so base i (count_of i) s v })).same

    -- a slot's values lie behind every guest's
    slot_behind : (guest vcpu g : ℕ) → 1 ≤ g → g ≤ l.guests → Clear (base_of l s false guest vcpu) slot_bytes (guest_at l g) guest_bytes
    unfolding base_of
    slot_behind guest vcpu g lo hi = right (omega (arith, so.guests_fit))

    -- a guest-wide set of the guest itself
    set_own : (flags guest vcpu : ℕ) (b : List ℕ) → hands_over flags ≡ false → has_bit0 flags ≡ true → live l (header l s) guest ≡ true
        → ZeroOrAgreed (capabilities_of (header l s)) (pvr_of l (set_state l s flags guest vcpu b).store guest)
    unfolding set_elements
    set_own flags guest vcpu b plain wide alive =
        subst (λ (o : Outcome). ZeroOrAgreed (capabilities_of (header l s)) (pvr_of l o.store guest)) (set_plain l s flags guest vcpu b plain)
        (decided Own s [] _ _ (λ f. record { good = given guest alive }) (λ p. record { good = done p })).good
      where
        Own : Outcome → Type 0
        Own o = Owned guest o

        settled : (pvr_of l (applied (guest_at l guest) b (count_of b) s) guest ≡ pvr_of l s guest) ⊎ (good_pvr (capabilities_of (header l s)) (pvr_of l (applied (guest_at l guest) b (count_of b) s) guest) ≡ true)
            → ZeroOrAgreed (capabilities_of (header l s)) (pvr_of l (applied (guest_at l guest) b (count_of b) s) guest)
        settled (inl e) = subst (ZeroOrAgreed (capabilities_of (header l s))) (sym e) (given guest alive)
        settled (inr e) = inr e

        done : Passed (target_tests l s (supported_bits (has_bit0 flags)) flags (has_bit0 flags) guest vcpu ++ buffer_tests (context_of l s guest (set_use (has_bit0 flags))) b)
            → ZeroOrAgreed (capabilities_of (header l s)) (pvr_of l (applied (base_of l s (has_bit0 flags) guest vcpu) b (count_of b) s) guest)
        done p =
            let r = live_parts l (header l s) guest alive in
            let long = (formed l s (not-false _ p.0)).long in
            let base : base_of l s (has_bit0 flags) guest vcpu ≡ guest_at l guest = wide_base l s flags guest vcpu b plain wide in
            let k = context_of l s guest (set_use (has_bit0 flags)) in
            let u : set_use (has_bit0 flags) ≡ GuestSet = ap set_use wide in
            subst (λ (x : ℕ). ZeroOrAgreed (capabilities_of (header l s)) (pvr_of l (applied x b (count_of b) s) guest)) (sym base)
            (settled (applied_left k u (guest_at l guest) b (walked l s flags guest vcpu b (set_use (has_bit0 flags)) p) (count_of b) (omega arith) s (omega (arith, long, so.guests_fit, so.whole, r.0, r.1))))

    -- set capabilities: no guest lives, or the bitmap is the agreed one
    caps_agreed : (flags bitmap : ℕ) → Agreed (set_capabilities l s flags bitmap)
    unfolding set_capabilities
    caps_agreed flags bitmap = decided Agreed s [] _ _ (refused []) (λ p. record { agreed = stored (formed l s (not-false _ p.0)).long (any_live l (header l s)) refl (eqb bitmap (capabilities_of (header l s))) refl p.1.1.1.0 })
      where
        t : List ℕ
        t = put_capabilities s bitmap

        head : header l t ≡ put_capabilities (header l s) bitmap
        head = header_caps l so s bitmap

        lives : (g : ℕ) → live l (header l t) g ≡ true → live l (header l s) g ≡ true
        lives g h = sym (ap (λ (x : List ℕ). live l x g) head ∙ caps_live l so (header l s) bitmap g) ∙ h

        pvrs : (g : ℕ) → 1 ≤ g → pvr_of l t g ≡ pvr_of l s g
        pvrs g lo = caps_pvr s bitmap g

        stored : length s ≡ l.size → (a : Bool) → any_live l (header l s) ≡ a → (b : Bool) → eqb bitmap (capabilities_of (header l s)) ≡ b → (a && not b) ≡ false → PvrAgreed l t
        stored long false e b q z g h = absurd (no_bool (sym (none_live (header l s) e g (lives g h)) ∙ lives g h))
        stored long true e true q z g h =
            let c : capabilities_of (header l t) ≡ capabilities_of (header l s) % 2 ^ 64 =
            ap capabilities_of head ∙ caps_said l so (header l s) bitmap (header_full l so s long) ∙ ap (λ (x : ℕ). x % 2 ^ 64) (eqb-true _ _ q) in
            subst (λ (x : ℕ). ZeroOrAgreed x (pvr_of l t g)) (sym c)
            (subst (ZeroOrAgreed (capabilities_of (header l s) % 2 ^ 64)) (sym (pvrs g (live_parts l (header l t) g h).0))
            (agreed_low (capabilities_of (header l s)) (pvr_of l s g) (given g (lives g h))))
        stored long true e false q z g h = absurd (no_bool (sym z))

    -- create guest: the new one's PVR is 0
    guest_agreed : (flags token : ℕ) → Agreed (create_guest l s flags token)
    unfolding create_guest free_guest
    guest_agreed flags token =
        decided Agreed s [] _ _ (refused [])
        (λ p. record { agreed = made (free_guest l (header l s)) (formed l s (not-false _ p.0)).long (first_bounds (is_dead l (header l s)) l.guests 1).0 (ltb-false _ _ p.1.1.1.0) })
      where
        made : (k : ℕ) → length s ≡ l.size → 1 ≤ k → k ≤ l.guests → PvrAgreed l (with_guest l s k)
        made k long lo hi g h = by_guest (ℕ_discrete g k)
          where
            u : List ℕ
            u = put_live s k 1

            t : List ℕ
            t = with_guest l s k

            is : t ≡ put u (guest_at l k) (zeros guest_bytes)
            is = with_guest_lem s k

            wide : length u ≡ l.size
            wide = live_long s k 1 ∙ long

            head : header l t ≡ put_live (header l s) k 1
            head = ap (header l) is ∙ header_values l so u (guest_at l k) (zeros guest_bytes) (omega arith) ∙ header_live l so s k 1 hi

            caps : capabilities_of (header l t) ≡ capabilities_of (header l s)
            caps =
                caps_front t ∙ ap (λ (x : List ℕ). be x 0 8) is ∙ be_other u (guest_at l k) (zeros guest_bytes) 0 8 (right (omega (arith, so.head, so.words)))
                ∙ (keeps_live s k 1 lo hi).caps ∙ sym (caps_front s)

            by_guest : Dec (g ≡ k) → ZeroOrAgreed (capabilities_of (header l t)) (pvr_of l t g)
            by_guest (yes e) = inl (ap (pvr_of l t) e ∙ ap (λ (x : List ℕ). pvr_of l x k) is ∙ cleared u k (omega (arith, wide, so.guests_fit, so.whole)))
            by_guest (no n) =
                let lives : live l (header l s) g ≡ true = sym (ap (λ (x : List ℕ). live l x g) head ∙ live_else l so (header l s) (header_full l so s long) k lo hi 1 g n) ∙ h in
                let r = live_parts l (header l s) g lives in
                let pvr : pvr_of l t g ≡ pvr_of l s g =
                ap (λ (x : List ℕ). pvr_of l x g) is
                ∙ be_other u (guest_at l k) (zeros guest_bytes) (guest_at l g + position GuestWide 0x0003) 4
                (clear_part (position GuestWide 0x0003) 4 (omega (arith, pvr_place)) (subst (λ (y : ℕ). Clear (guest_at l k) y (guest_at l g) guest_bytes) (sym (length_zeros guest_bytes)) (guests_apart l k g lo r.0 (λ z. n (sym z)))))
                ∙ (keeps_live s k 1 lo hi).pvrs g r.0 r.1 in
                subst (λ (x : ℕ). ZeroOrAgreed x (pvr_of l t g)) (sym caps) (subst (ZeroOrAgreed (capabilities_of (header l s))) (sym pvr) (given g lives))

    -- create vCPU: a slot word and a slot's values
    vcpu_agreed : (flags guest vcpu : ℕ) → Agreed (create_vcpu l s flags guest vcpu)
    unfolding create_vcpu
    vcpu_agreed flags guest vcpu =
        decided Agreed s [] _ _ (refused [])
        (λ p. record { agreed = made (free_slot l (header l s)) (formed l s (not-false _ p.0)).long (ltb-true _ _ (not-false _ p.1.1.1.1.1.0)) })
      where
        made : (j : ℕ) → length s ≡ l.size → j < l.slots → PvrAgreed l (with_vcpu l s j guest vcpu)
        made j long h =
            let w = word_of l guest vcpu in
            let u = put_slot l s j w in
            let e = with_vcpu_lem s j guest vcpu in
            let head : header l (with_vcpu l s j guest vcpu) ≡ put_slot l (header l s) j w =
            ap (header l) e ∙ header_values l so u (slot_at l j) (zeros slot_bytes) (omega (arith, so.guests_fit)) ∙ header_slot l so s j w h in
            kept (with_vcpu l s j guest vcpu) (subst (Keeps s) (sym e) (keeps_more s u _ (keeps_entry s j w h) (keeps_slot u j (zeros slot_bytes))))
            (λ g a. sym (ap (λ (x : List ℕ). live l x g) head ∙ live_slot l so (header l s) (header_full l so s long) j h w g) ∙ a)

    -- delete: the guests that live did so before
    one_agreed : (guest : ℕ) → live l (header l s) guest ≡ true → well_formed l s ≡ true → PvrAgreed l (without_guest l s guest)
    one_agreed guest alive w =
        let r = live_parts l (header l s) guest alive in
        kept (without_guest l s guest)
        (subst (Keeps s) (sym (without_guest_lem s guest)) (keeps_more s _ _ (keeps_drop s guest l.slots (omega arith)) (keeps_live (drop_words l guest l.slots s) guest 0 r.0 r.1)))
        (λ g h. lived g h (ℕ_discrete g guest))
      where
        lived : (g : ℕ) → live l (header l (without_guest l s guest)) g ≡ true → Dec (g ≡ guest) → live l (header l s) g ≡ true
        lived g h (yes q) = ap (live l (header l s)) q ∙ alive
        lived g h (no n) = sym (deleted_else l so s w guest alive g n) ∙ h

    delete_agreed : (flags guest : ℕ) → Agreed (delete_guest l s flags guest)
    unfolding delete_guest
    delete_agreed flags guest = decided Agreed s [] _ _ (refused []) (λ p. record { agreed = go (has_bit0 flags) p.1.1.0 (not-false _ p.0) })
      where
        go : (all : Bool) → (not all && not (live l (header l s) guest)) ≡ false → well_formed l s ≡ true → PvrAgreed l (cond all (without_guests l s) (without_guest l s guest))
        go true e w = λ g h. absurd (no_bool (sym (all_dead l so s w g) ∙ h))
        go false e w = one_agreed guest (not-false _ e) w

    -- set state: of a vCPU, of another guest, or of the guest itself
    plain_agreed : (flags guest vcpu : ℕ) (b : List ℕ) → hands_over flags ≡ false → Agreed (set_state l s flags guest vcpu b)
    plain_agreed flags guest vcpu b plain = record { agreed = by_scope (has_bit0 flags) refl }
      where
        t : List ℕ
        t = (set_state l s flags guest vcpu b).store

        head : header l t ≡ header l s
        head = set_header flags guest vcpu b plain

        alive : (g : ℕ) → live l (header l t) g ≡ true → live l (header l s) g ≡ true
        alive g h = sym (ap (λ (x : List ℕ). live l x g) head) ∙ h

        same_caps : (v : ℕ) → ZeroOrAgreed (capabilities_of (header l s)) v → ZeroOrAgreed (capabilities_of (header l t)) v
        same_caps v = subst (λ (x : ℕ). ZeroOrAgreed x v) (ap capabilities_of (sym head))

        by_guest : has_bit0 flags ≡ true → (g : ℕ) → live l (header l t) g ≡ true → Dec (guest ≡ g) → ZeroOrAgreed (capabilities_of (header l t)) (pvr_of l t g)
        by_guest e g h (no n) =
            let a = alive g h in
            same_caps (pvr_of l t g)
            (subst (ZeroOrAgreed (capabilities_of (header l s))) (sym (pvr_kept l s t g (other_guest l s flags guest vcpu b plain e g (live_parts l (header l s) g a).0 n))) (given g a))
        by_guest e g h (yes q) =
            same_caps (pvr_of l t g)
            (subst (λ (x : ℕ). ZeroOrAgreed (capabilities_of (header l s)) (pvr_of l t x)) q (set_own flags guest vcpu b plain e (subst (λ (x : ℕ). live l (header l s) x ≡ true) (sym q) (alive g h))))

        by_scope : (wide : Bool) → has_bit0 flags ≡ wide → PvrAgreed l t
        by_scope false e = kept_header t head (λ g lo hi. pvr_kept l s t g (every_guest l s flags guest vcpu b plain e so g hi))
        by_scope true e = λ g h. by_guest e g h (ℕ_discrete guest g)

    -- a hand-over: a slot's values and its mark
    handed_agreed : (guest vcpu : ℕ) (w : List ℕ) (b : ℕ) → length w ≡ slot_bytes → Slotted l s guest vcpu → PvrAgreed l (handed l s (slot_named l s guest vcpu) w b)
    handed_agreed guest vcpu w b len f =
        let j = slot_named l s guest vcpu in
        let long = (formed l s f.good).long in
        let t = handed l s (slot_named l s guest vcpu) w b in
        kept t
        (record {
          caps = sym (caps_front t) ∙ handed_caps l so s j f.below w b long ∙ caps_front s;
          pvrs = λ g lo hi. pvr_kept l s t g (handed_beside l so s j f.below w b long len (guest_at l g) guest_bytes (omega arith) (omega (arith, long, so.guests_fit, so.whole)) (right (omega (arith, so.guests_fit))));
        })
        (λ g h. sym (handed_live l so s j f.below w b long g) ∙ h)

    take_agreed : (guest vcpu : ℕ) (b : List ℕ) → Agreed (take_vcpu l s guest vcpu b)
    unfolding take_vcpu taken
    take_agreed guest vcpu b = decided Agreed s b _ _ (refused b) (λ p. record { agreed = handed_agreed guest vcpu (zeros slot_bytes) 1 (length_zeros slot_bytes) (take_slotted l s guest vcpu b p) })

    give_agreed : (guest vcpu : ℕ) (b : List ℕ) → Agreed (give_vcpu l s guest vcpu b)
    unfolding give_vcpu
    give_agreed guest vcpu b = decided Agreed s [] _ _ (refused []) (λ p. record { agreed = handed_agreed guest vcpu (values_of b) 0 (given_length l s guest vcpu b p) (give_slotted l s guest vcpu b p) })

    set_agreed : (flags guest vcpu : ℕ) (b : List ℕ) → Agreed (set_state l s flags guest vcpu b)
    set_agreed flags guest vcpu b =
        set_ways l s flags guest vcpu b Agreed (λ plain. subst Agreed (sym (set_plain l s flags guest vcpu b plain)) (plain_agreed flags guest vcpu b plain)) (λ t. give_agreed guest vcpu b)

    got_agreed : (flags guest vcpu : ℕ) (b : List ℕ) → Agreed (get_elements l s flags guest vcpu b)
    unfolding get_elements
    got_agreed flags guest vcpu b = decided Agreed s b _ _ (refused b) (λ p. record { agreed = given })

    -- run: a slot's values alone
    run_agreed : (flags guest vcpu : ℕ) (input output effect : List ℕ) (exit : ℕ) → Agreed (run_vcpu l s flags guest vcpu input output effect exit)
    run_agreed flags guest vcpu input output effect exit = record { agreed = kept_header _ (run_header flags guest vcpu input output effect exit) (λ g lo hi. pvr_kept l s _ g (run_beside l s flags guest vcpu input output effect exit (guest_at l g) guest_bytes (slot_behind guest vcpu g lo hi))) }

    call_agreed : (c : Call) → Agreed (outcome l s c)
    unfolding outcome get_capabilities guest_clock
    call_agreed (GetCapabilities flags) = decided Agreed s [] _ _ (refused []) (λ p. record { agreed = given })
    call_agreed (SetCapabilities flags bitmap) = caps_agreed flags bitmap
    call_agreed (CreateGuest flags token) = guest_agreed flags token
    call_agreed (CreateVcpu flags guest vcpu) = vcpu_agreed flags guest vcpu
    call_agreed (GetState flags guest vcpu buffer) = get_ways l s flags guest vcpu buffer Agreed (λ e. got_agreed flags guest vcpu buffer) (λ t. take_agreed guest vcpu buffer)
    call_agreed (SetState flags guest vcpu buffer) = set_agreed flags guest vcpu buffer
    call_agreed (RunVcpu flags guest vcpu input output effect exit) = run_agreed flags guest vcpu input output effect exit
    call_agreed (DeleteGuest flags guest) = delete_agreed flags guest
    call_agreed (GuestClock guest timebase) = decided Agreed s [] _ _ (refused []) (λ p. record { agreed = given })

  -- zeros are the PVR 0, wherever they are read
  fresh_pvr : (g : ℕ) → pvr_of l (fresh l) g ≡ 0
  unfolding fresh
  fresh_pvr g = be_zeros l.size (guest_at l g + position GuestWide 0x0003) 4

  -- ---- every history
  history_agreed : (s : List ℕ) → PvrAgreed l s → (cs : List Call) → PvrAgreed l (after l s cs)
  unfolding after
  history_agreed s h [] = h
  history_agreed s h (c ∷ cs) = history_agreed (outcome l s c).store (call_agreed s h c).agreed cs

  pub pvr_agreed : (cs : List Call) → PvrAgreed l (after l (fresh l) cs)
  pvr_agreed cs = history_agreed (fresh l) (λ g h. inl (fresh_pvr g)) cs

-- ---- it is not empty: a history in which a guest lives with each of the two PVRs. Computed.
pub both_live : LivesWith small (after small (fresh small) both_pvrs) 1 0x0F000005 × LivesWith small (after small (fresh small) both_pvrs) 2 0x0F000006
unfolding bytes_at put be digits zeros bit bits ins set_bit put_bits table below position source_of find kind_of allows offers offer_of is_later later permits size_fits good_pvr rule_of good_value offset_at judged walk_on walk first_bad put_from put_as applied every first header capabilities_of live word is_used guest_of is_taken lacks alone slot_good head_good words_good is_dead free_guest any_live well_formed fresh put_capabilities put_live with_guest decide base_of set_elements set_state create_guest set_capabilities outcome after element buffer_of one both_pvrs
both_live = (record { alive = refl; pvr = refl }, record { alive = refl; pvr = refl })
