-- THEOREM `set_then_get`: a set of one element followed by a get of it gives the value set. Assumes nothing.
use mathlib.Core.Path.{◌≡◌, refl, sym, ap, ◌∙◌, subst}
use mathlib.Core.Logic.{◌≢◌}
use mathlib.Core.Bool.{Bool, true, false, cond}
use mathlib.Core.List.{List, [], ◌++◌}
use Prim.Native.Nat.{ℕ, ◌+◌, ◌≤◌}
use native.Mathlib.Omega.{arith}
use lib.ListN.{length}
use Rattle.octets.specs.Bytes.{bytes_at, put, right}
use Rattle.octets.proofs.Bytes.{length_bytes_at, part_of_part, read_back}
use Rattle.octets.proofs.Numbers.{be_other}
use Rattle.answer.specs.declared.Fault.TheVariants.{None, Length, Taken}
use Rattle.elements.specs.declared.Source.{Source}
use Rattle.elements.specs.declared.Source.TheVariants.{Stored}
use Rattle.rules.specs.declared.Usage.{Usage}
use Rattle.rules.specs.declared.Usage.TheVariants.{GuestSet, ThreadSet}
use Rattle.elements.specs.declared.Entry.{Entry}
use Rattle.elements.specs.declared.Kind.{Kind}
use Rattle.elements.specs.declared.Kind.TheVariants.{Unlisted, Nop, Listed}
use Rattle.rules.specs.declared.Context.{Context}
use Rattle.elements.specs.Table.{kind_of, position}
use Rattle.rules.specs.Rules.{permits, scope_for, is_setting}
use Rattle.elements.specs.Right.{bytes_of}
use Rattle.elements.proofs.Table.{nop_zero, listed_stored, position_end}
use Rattle.rules.proofs.Rules.{permits_listed, permits_scope, setting_stored, size_fits_lem}
use Rattle.gsb.specs.Walk.{count_of, id_at, size_at, offset_at, first_bad, is_stopped, fault_of, Walked}
use Rattle.gsb.proofs.Judged.{GoodElement, good_element}
use Rattle.gsb.proofs.First.{all_good}
use Rattle.gsb.proofs.Walks.{offset_start}
use Rattle.store.specs.declared.Layout.{Layout}
use Rattle.store.specs.Layout.{Sound, guest_bytes, slot_bytes, guest_at, slot_at}
use Rattle.store.specs.Header.{header, slot_of}
use Rattle.store.proofs.Frame.{header_values}
use Rattle.transfer.specs.Transfer.{value_at, put_from, put_as, applied, read_from, fill_as, filled, AllReady}
use Rattle.transfer.proofs.Moving.{moves_fits, fits_stored}
use Rattle.admission.specs.Refusals.{Outcome, accept, has_bit0, hands_over, Passed}
use Rattle.admission.specs.Target.{target_tests, base_of}
use Rattle.state.specs.State.{context_of, buffer_tests, supported_bits, set_use, set_elements, set_state, get_use, fill_with, get_elements, get_state}
use Rattle.state.proofs.HandOvers.{get_plain, set_plain}
use Rattle.l0.specs.Calls.{GetState, SetState, outcome}
use Rattle.promises.specs.History.{is_accepted}
use Rattle.promises.proofs.Told.{accepted_none}
use Rattle.promises.proofs.Kept.{base_values}
use Rattle.promises.proofs.Lowest.{Real, accepted, no_store, no_flag, no_guest, no_vcpu}
use Rattle.promises.proofs.States.{walked, all_ready, set_room}
use Rattle.std.proofs.Common.{Ok, Err}

pub no_taken : Taken ≡ None → ⊥
no_taken e = let z : ◌≡◌ {A = ℕ} 0 1 = cc in omega arith

pub no_length : Length ≡ None → ⊥
no_length e = let z : ◌≡◌ {A = ℕ} 0 1 = cc in omega arith

pub stopped_real : (w : Walked) → is_stopped w ≡ true → fault_of w ≡ None → ⊥
stopped_real (Ok _) e q = let z : ◌≡◌ {A = ℕ} 0 1 = cc in omega arith
stopped_real (Err stop) e q = let z : ◌≡◌ {A = ℕ} 0 1 = cc in omega arith

module _ (l : Layout) (s : List ℕ) (flags guest vcpu : ℕ) (b : List ℕ) where
  all_real : (usage : Usage) → Real (target_tests l s (supported_bits (has_bit0 flags)) flags (has_bit0 flags) guest vcpu ++ buffer_tests (context_of l s guest usage) b)
  all_real usage = ((λ t. no_store), ((λ t. no_flag _), ((λ t. no_guest), ((λ t. no_vcpu), ((λ t. no_taken), ((λ t. no_length), (stopped_real (first_bad (context_of l s guest usage) b), tt)))))))

  pub set_accepted : (set_elements l s flags guest vcpu b).answer.fault ≡ None
      → Passed (target_tests l s (supported_bits (has_bit0 flags)) flags (has_bit0 flags) guest vcpu ++ buffer_tests (context_of l s guest (set_use (has_bit0 flags))) b) × (set_elements l s flags guest vcpu b ≡ accept 0 (applied (base_of l s (has_bit0 flags) guest vcpu) b (count_of b) s))
  unfolding set_elements
  set_accepted e = accepted s [] (target_tests l s (supported_bits (has_bit0 flags)) flags (has_bit0 flags) guest vcpu ++ buffer_tests (context_of l s guest (set_use (has_bit0 flags))) b) (accept 0 (applied (base_of l s (has_bit0 flags) guest vcpu) b (count_of b) s)) (all_real (set_use (has_bit0 flags))) e

  get_accepted : (get_elements l s flags guest vcpu b).answer.fault ≡ None
      → Passed (target_tests l s (supported_bits (has_bit0 flags)) flags (has_bit0 flags) guest vcpu ++ buffer_tests (context_of l s guest (get_use (has_bit0 flags))) b) × (get_elements l s flags guest vcpu b ≡ fill_with s (base_of l s (has_bit0 flags) guest vcpu) b)
  unfolding get_elements
  get_accepted e = accepted s b (target_tests l s (supported_bits (has_bit0 flags)) flags (has_bit0 flags) guest vcpu ++ buffer_tests (context_of l s guest (get_use (has_bit0 flags))) b) (fill_with s (base_of l s (has_bit0 flags) guest vcpu) b) (all_real (get_use (has_bit0 flags))) e

-- the first element of an accepted buffer that has one
first_good : (k : Context) (b : List ℕ) → first_bad k b ≡ Ok tt → count_of b ≡ 1 → GoodElement k b 4
first_good k b d o =
    subst (GoodElement k b) (sym (offset_start b)) (good_element k b (offset_at b 0) (offset_at b (0 + 1)) ((all_good k b).0 d 0 (omega arith))).0

-- what a use that sets permits is stored, unless it is a NOP
settable : (flags : ℕ) → is_setting (set_use (has_bit0 flags)) ≡ true
settable flags = go (has_bit0 flags)
  where
    go : (t : Bool) → is_setting (cond t GuestSet ThreadSet) ≡ true
    go true = refl
    go false = refl

pub record StoredAt (id p : ℕ) : Type 0 where
  pub entry : Entry
  pub listed : kind_of id ≡ Listed entry
  pub stored : entry.source ≡ Stored p

unlisted_off : (k : Context) (id : ℕ) → permits k id Unlisted ≡ true → ⊥
unfolding permits
unlisted_off k id h = let z : ◌≡◌ {A = ℕ} 0 1 = cc in omega arith

-- where, within the values of the use's scope
abbrev Place : Context → ℕ → Type 0
Place k id = (p : ℕ) × (t : StoredAt id p) × (p + t.entry.size ≤ bytes_of (scope_for k.usage))

named : (k : Context) (id : ℕ) → is_setting k.usage ≡ true → id ≢ 0 → permits k id (kind_of id) ≡ true → Place k id
named k id st n e = go (kind_of id) refl e
  where
    go : (kind : Kind) → kind_of id ≡ kind → permits k id kind ≡ true → Place k id
    go Unlisted q h = absurd (unlisted_off k id h)
    go Nop q h = absurd (n (nop_zero id q))
    go (Listed x) q h =
        let s = setting_stored k.usage id x q st (permits_listed k id x h) in
        let z : bytes_of x.scope ≡ bytes_of (scope_for k.usage) = ap bytes_of (permits_scope k id x h) in
        (position x.scope id, record { entry = x; listed = q; stored = listed_stored id x q s }, omega (arith, z, position_end x.scope id x q refl s))

-- ---- one element stored, and one filled in
applied_one : (base : ℕ) (b s : List ℕ) (p : ℕ) → StoredAt (id_at b 4) p → count_of b ≡ 1 → applied base b (count_of b) s ≡ put s (base + p) (value_at b 4)
unfolding applied put_as put_from offset_at
applied_one base b s p t o =
    ap (λ (n : ℕ). applied base b n s) o ∙ ap (λ (k : Kind). put_as k base (value_at b 4) s) t.listed ∙ ap (λ (y : Source). put_from y base (value_at b 4) s) t.stored

filled_one : (base : ℕ) (s c : List ℕ) (p : ℕ) (t : StoredAt (id_at c 4) p) → count_of c ≡ 1 → filled base s c (count_of c) ≡ put c 8 (bytes_at s (base + p) t.entry.size)
unfolding filled fill_as read_from offset_at
filled_one base s c p t o =
    ap (filled base s c) o ∙ ap (λ (k : Kind). fill_as k base s 4 c) t.listed ∙ ap (λ (y : Source). put c 8 (read_from y base t.entry.size s)) t.stored

-- a value put into the store, read from there and put into a buffer is the value
through : (b c s : List ℕ) (at size : ℕ) → size_at b 4 ≡ size → size_at c 4 ≡ size → 8 + size ≤ length b → 8 + size ≤ length c → at + size ≤ length s
    → value_at (put c 8 (bytes_at (put s at (value_at b 4)) at size)) 4 ≡ value_at b 4
through b c s at size e f hb hc hs =
    ap (λ (v : List ℕ). value_at (put c 8 v) 4) stored ∙ ap (bytes_at (put c 8 (value_at b 4)) 8) (be_other c 8 (value_at b 4) 6 2 (right (omega arith)) ∙ f ∙ sym long)
    ∙ read_back c 8 (value_at b 4) (omega (arith, long))
  where
    long : length (value_at b 4) ≡ size
    long = length_bytes_at b 8 (size_at b 4) (omega arith) ∙ e

    stored : bytes_at (put s at (value_at b 4)) at size ≡ value_at b 4
    stored = ap (bytes_at (put s at (value_at b 4)) at) (sym long) ∙ read_back s at (value_at b 4) (omega (arith, long))

-- the first element's value lies within the store
first_room : (base len : ℕ) (b : List ℕ) → AllReady base b len → count_of b ≡ 1 → (p : ℕ) (t : StoredAt (id_at b 4) p) → base + p + size_at b 4 ≤ len
unfolding offset_at
first_room base len b r o p t =
    fits_stored t.entry.source base (size_at b 4) len p (moves_fits (kind_of (id_at b 4)) base (size_at b 4) len t.entry (r.each 0 (omega arith)).moves t.listed) t.stored

-- values start where the header says, and storing a value leaves it
pub base_same : (l : Layout) (s t : List ℕ) (flags guest vcpu : ℕ) → header l t ≡ header l s → base_of l t (has_bit0 flags) guest vcpu ≡ base_of l s (has_bit0 flags) guest vcpu
unfolding base_of
base_same l s t flags guest vcpu e = ap (λ (h : List ℕ). cond (has_bit0 flags) (guest_at l guest) (slot_at l (slot_of l h guest vcpu))) e

module _ (l : Layout) (so : Sound l) (s : List ℕ) (flags guest vcpu : ℕ) (b c : List ℕ) where
  abbrev after : List ℕ
  after = (set_elements l s flags guest vcpu b).store

  -- where the call's values start, and how many bytes they take
  abbrev base : ℕ
  base = base_of l s (has_bit0 flags) guest vcpu

  abbrev bytes : ℕ
  bytes = cond (has_bit0 flags) guest_bytes slot_bytes

  -- read from a store t that has the same header and the same bytes there
  pub read_later : (t : List ℕ) → header l t ≡ header l after → bytes_at t base bytes ≡ bytes_at after base bytes
      → (set_elements l s flags guest vcpu b).answer.fault ≡ None → count_of b ≡ 1 → id_at b 4 ≢ 0
      → (get_elements l t flags guest vcpu c).answer.fault ≡ None → count_of c ≡ 1 → id_at c 4 ≡ id_at b 4
      → value_at (get_elements l t flags guest vcpu c).buffer 4 ≡ value_at b 4
  read_later t ht same eb ob n ec oc i =
      let x = set_accepted l s flags guest vcpu b eb in
      let y = get_accepted l t flags guest vcpu c ec in
      let gb = first_good (context_of l s guest (set_use (has_bit0 flags))) b (walked l s flags guest vcpu b (set_use (has_bit0 flags)) x.0) ob in
      let gc = first_good (context_of l t guest (get_use (has_bit0 flags))) c (walked l t flags guest vcpu c (get_use (has_bit0 flags)) y.0) oc in
      let found = named (context_of l s guest (set_use (has_bit0 flags))) (id_at b 4) (settable flags) n gb.permitted in
      let p = found.0 in
      let d = found.1 in
      let dc : StoredAt (id_at c 4) p = record { entry = d.entry; listed = ap kind_of i ∙ d.listed; stored = d.stored } in
      let sb : size_at b 4 ≡ d.entry.size = size_fits_lem (id_at b 4) d.entry (size_at b 4) d.listed gb.sized in
      let sc : size_at c 4 ≡ d.entry.size = size_fits_lem (id_at c 4) d.entry (size_at c 4) dc.listed gc.sized in
      let st : after ≡ put s (base + p) (value_at b 4) = ap (λ (o : Outcome). o.store) x.1 ∙ applied_one base b s p d ob in
      let ready = all_ready l s flags guest vcpu b so (set_use (has_bit0 flags)) (set_room l s flags guest vcpu b) x.0 in
      let room : base + p + d.entry.size ≤ length s = omega (arith, first_room base (length s) b ready ob p d, sb) in
      let within : p + d.entry.size ≤ bytes = omega (arith, found.2, set_room l s flags guest vcpu b) in
      let hd : header l after ≡ header l s = ap (header l) st ∙ header_values l so s (base + p) (value_at b 4) (omega (arith, base_values l so s (has_bit0 flags) guest vcpu)) in
      let bs : base_of l t (has_bit0 flags) guest vcpu ≡ base = base_same l s t flags guest vcpu (ht ∙ hd) in
      let kept : bytes_at t (base + p) d.entry.size ≡ bytes_at after (base + p) d.entry.size =
      sym (part_of_part t base bytes p d.entry.size within) ∙ ap (λ (z : List ℕ). bytes_at z p d.entry.size) same ∙ part_of_part after base bytes p d.entry.size within in
      ap (λ (o : Outcome). value_at o.buffer 4) y.1
      ∙ ap (λ (v : List ℕ). value_at v 4) (filled_one (base_of l t (has_bit0 flags) guest vcpu) t c p dc oc)
      ∙ ap (λ (u : ℕ). value_at (put c 8 (bytes_at t (u + p) d.entry.size)) 4) bs
      ∙ ap (λ (v : List ℕ). value_at (put c 8 v) 4) (kept ∙ ap (λ (z : List ℕ). bytes_at z (base + p) d.entry.size) st)
      ∙ through b c s (base + p) d.entry.size sb sc (omega (arith, gb.inside, sb)) (omega (arith, gc.inside, sc)) room

  read_after_lem : (set_elements l s flags guest vcpu b).answer.fault ≡ None → count_of b ≡ 1 → id_at b 4 ≢ 0
      → (get_elements l after flags guest vcpu c).answer.fault ≡ None → count_of c ≡ 1 → id_at c 4 ≡ id_at b 4
      → value_at (get_elements l after flags guest vcpu c).buffer 4 ≡ value_at b 4
  read_after_lem = read_later after refl refl

  -- both buffers hold one element, which is no NOP, of one ID, and neither call hands a vCPU over
  pub set_then_get : hands_over flags ≡ false → is_accepted l s (SetState flags guest vcpu b) ≡ true → count_of b ≡ 1 → id_at b 4 ≢ 0
      → is_accepted l (outcome l s (SetState flags guest vcpu b)).store (GetState flags guest vcpu c) ≡ true → count_of c ≡ 1 → id_at c 4 ≡ id_at b 4
      → value_at (outcome l (outcome l s (SetState flags guest vcpu b)).store (GetState flags guest vcpu c)).buffer 4 ≡ value_at b 4
  unfolding outcome
  set_then_get plain eb ob n ec oc i =
      let x = set_plain l s flags guest vcpu b plain in
      let t = (set_state l s flags guest vcpu b).store in
      let e : (set_state l s flags guest vcpu b).store ≡ after = ap (λ (o : Outcome). o.store) (sym x) in
      let y : get_elements l after flags guest vcpu c ≡ get_state l t flags guest vcpu c = ap (λ (u : List ℕ). get_elements l u flags guest vcpu c) (sym e) ∙ get_plain l t flags guest vcpu c plain in
      ap (λ (o : Outcome). value_at o.buffer 4) (sym y)
      ∙ read_after_lem (ap (λ (o : Outcome). o.answer.fault) x ∙ accepted_none l s (SetState flags guest vcpu b) eb) ob n
      (ap (λ (o : Outcome). o.answer.fault) y ∙ accepted_none l t (GetState flags guest vcpu c) ec) oc i
