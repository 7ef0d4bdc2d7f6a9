-- THEOREMS `power9_guest`, `other_pvr`: which list a guest has. THEOREM `kept_between_lists`: what was set under one list is read under it again,
-- whatever guest-wide sets, and so whatever PVRs, stand between. Assumes nothing.
use mathlib.Core.Path.{◌≡◌, refl, sym, ap, ◌∙◌}
use mathlib.Core.Logic.{◌≢◌}
use mathlib.Core.Bool.{true, not, ◌&&◌}
use mathlib.Core.List.{List, [], ◌∷◌}
use Prim.Native.Nat.{ℕ}
use borrow.Author.Tests.{eq-eqb, ne_eqb}
use Rattle.octets.specs.Bytes.{bytes_at}
use Rattle.elements.specs.declared.Offer.{Offer}
use Rattle.elements.specs.declared.Offer.TheVariants.{Full, Power9}
use Rattle.elements.specs.Table.{kind_of}
use Rattle.elements.specs.Later.{is_later, offer_of}
use Rattle.rules.specs.declared.Usage.{Usage}
use Rattle.rules.specs.declared.Context.{Context}
use Rattle.rules.specs.Rules.{permits}
use Rattle.rules.proofs.Lists.{power9_exactly}
use Rattle.gsb.specs.Walk.{count_of, id_at}
use Rattle.store.specs.declared.Layout.{Layout}
use Rattle.store.specs.Layout.{Sound, slot_bytes, slot_at}
use Rattle.store.specs.Header.{header, capabilities_of, slot_of}
use Rattle.transfer.specs.Transfer.{value_at}
use Rattle.admission.specs.Refusals.{Outcome, bit0, has_bit0}
use Rattle.admission.specs.Target.{base_of}
use Rattle.state.specs.State.{pvr_of, context_of, set_elements, set_state}
use Rattle.state.proofs.HandOvers.{get_plain, set_plain}
use Rattle.l0.specs.Calls.{GetState, SetState, outcome, after}
use Rattle.promises.specs.History.{is_accepted}
use Rattle.promises.specs.Lists.{by_first_list, wide_sets}
use Rattle.promises.proofs.Told.{accepted_none}
use Rattle.promises.proofs.Kept.{decided, applied_header, base_values}
use Rattle.promises.proofs.ReadBack.{read_later}
use Rattle.promises.proofs.States.{every_slot}

-- ---- which list a guest has
power9_of : (pvr : ℕ) → pvr ≡ 0x0F000005 → offer_of pvr ≡ Power9
unfolding offer_of
power9_of pvr e = simp (eq-eqb _ _ e)

full_of : (pvr : ℕ) → pvr ≢ 0x0F000005 → offer_of pvr ≡ Full
unfolding offer_of
full_of pvr n = simp (ne_eqb _ _ n)

module _ (l : Layout) (s : List ℕ) (guest : ℕ) (usage : Usage) where
  listed : (o : Offer) → offer_of (pvr_of l s guest) ≡ o → context_of l s guest usage ≡ record { usage = usage; capabilities = capabilities_of (header l s); offer = o }
  listed o e = ap (λ (f : Offer). record { usage = usage; capabilities = capabilities_of (header l s); offer = f }) e

  -- "A guest whose logical PVR is 0x0F000005 shall not be offered what came later"
  pub power9_guest : pvr_of l s guest ≡ 0x0F000005 → (id : ℕ)
      → permits (context_of l s guest usage) id (kind_of id) ≡ permits (by_first_list l s usage) id (kind_of id) && not (is_later id)
  power9_guest e id = ap (λ (k : Context). permits k id (kind_of id)) (listed Power9 (power9_of (pvr_of l s guest) e)) ∙ power9_exactly usage (capabilities_of (header l s)) id

  -- "With any other PVR the list of 01 holds"
  pub other_pvr : pvr_of l s guest ≢ 0x0F000005 → context_of l s guest usage ≡ by_first_list l s usage
  other_pvr n = listed Full (full_of (pvr_of l s guest) n)

thread_base : (l : Layout) (s : List ℕ) (guest vcpu : ℕ) → base_of l s (has_bit0 0) guest vcpu ≡ slot_at l (slot_of l (header l s) guest vcpu)
unfolding base_of
thread_base l s guest vcpu = refl

-- ---- a guest-wide set leaves the header and every slot's values
module _ (l : Layout) (so : Sound l) where
  record Kept (s t : List ℕ) : Type 0 where
    heads : header l t ≡ header l s
    slots : (j : ℕ) → bytes_at t (slot_at l j) slot_bytes ≡ bytes_at s (slot_at l j) slot_bytes

  record SameHead (s : List ℕ) (o : Outcome) : Type 0 where
    same : header l o.store ≡ header l s

  wide_kept : (s : List ℕ) (guest : ℕ) (b : List ℕ) → Kept s (set_state l s bit0 guest 0 b).store
  unfolding set_elements
  wide_kept s guest b = record {
    heads = ap (λ (o : Outcome). header l o.store) (sym (set_plain l s bit0 guest 0 b refl))
        ∙ (decided (SameHead s) s [] _ _ (λ f. record { same = refl })
        (λ p. record { same = applied_header l so (base_of l s (has_bit0 bit0) guest 0) b (count_of b) s (base_values l so s (has_bit0 bit0) guest 0) })).same;
    slots = every_slot l s bit0 guest 0 b refl refl so;
  }

  all_kept : (guest : ℕ) (ws : List (List ℕ)) (s : List ℕ) → Kept s (after l s (wide_sets guest ws))
  unfolding after outcome
  all_kept guest [] s = record { heads = refl; slots = λ j. refl }
  all_kept guest (b ∷ ws) s =
      let t = (set_state l s bit0 guest 0 b).store in
      let x = wide_kept s guest b in
      let y = all_kept guest ws t in
      record { heads = y.heads ∙ x.heads; slots = λ j. y.slots j ∙ x.slots j }

  -- both buffers hold one element, which is no NOP, of one ID
  pub kept_between_lists : (s : List ℕ) (guest vcpu : ℕ) (b c : List ℕ) (ws : List (List ℕ))
      → is_accepted l s (SetState 0 guest vcpu b) ≡ true → count_of b ≡ 1 → id_at b 4 ≢ 0
      → is_accepted l (after l s (SetState 0 guest vcpu b ∷ wide_sets guest ws)) (GetState 0 guest vcpu c) ≡ true → count_of c ≡ 1 → id_at c 4 ≡ id_at b 4
      → value_at (outcome l (after l s (SetState 0 guest vcpu b ∷ wide_sets guest ws)) (GetState 0 guest vcpu c)).buffer 4 ≡ value_at b 4
  unfolding after outcome
  kept_between_lists s guest vcpu b c ws eb ob n ec oc i =
      let x = set_plain l s 0 guest vcpu b refl in
      let u = (set_state l s 0 guest vcpu b).store in
      let t = after l u (wide_sets guest ws) in
      let k = all_kept guest ws u in
      let e : (set_state l s 0 guest vcpu b).store ≡ (set_elements l s 0 guest vcpu b).store = ap (λ (o : Outcome). o.store) (sym x) in
      let y = get_plain l t 0 guest vcpu c refl in
      ap (λ (o : Outcome). value_at o.buffer 4) (sym y)
      ∙ read_later l so s 0 guest vcpu b c t (k.heads ∙ ap (header l) e)
      (in_slot (slot_of l (header l s) guest vcpu) (base_of l s (has_bit0 0) guest vcpu) (thread_base l s guest vcpu) t (set_elements l s 0 guest vcpu b).store (λ j. k.slots j ∙ ap (λ (z : List ℕ). bytes_at z (slot_at l j) slot_bytes) e))
      (ap (λ (o : Outcome). o.answer.fault) x ∙ accepted_none l s (SetState 0 guest vcpu b) eb) ob n
      (ap (λ (o : Outcome). o.answer.fault) y ∙ accepted_none l t (GetState 0 guest vcpu c) ec) oc i
    where
      in_slot : (j base : ℕ) → base ≡ slot_at l j → (t u : List ℕ) → ((j : ℕ) → bytes_at t (slot_at l j) slot_bytes ≡ bytes_at u (slot_at l j) slot_bytes) → bytes_at t base slot_bytes ≡ bytes_at u base slot_bytes
      in_slot j base e t u f = ap (λ (x : ℕ). bytes_at t x slot_bytes) e ∙ f j ∙ ap (λ (x : ℕ). bytes_at u x slot_bytes) (sym e)
