-- THEOREMS of the written rules: `refused_unchanged`, `fresh_unchanged`, `well_formed_kept`, `fresh_history`. Assumes nothing.
use mathlib.Core.Path.{◌≡◌, refl, sym, ap, ap₂, ◌∙◌, subst}
use mathlib.Core.Bool.{Bool, true, false, not, ◌&&◌, cond}
use mathlib.Core.List.{List, [], ◌∷◌, ◌++◌}
use Prim.Native.Nat.{ℕ, zero, suc, ◌+◌, ◌≤◌}
use native.Mathlib.Omega.{arith}
use lib.Dec.{eqb}
use borrow.Author.Tests.{eqb-true, ltb-true, ltb-false, not-false}
use Rattle.answer.specs.declared.Call.{Call as Name}
use Rattle.answer.specs.declared.Fault.{Fault}
use Rattle.answer.specs.declared.Fault.TheVariants.{None}
use Rattle.answer.specs.Refusals.{first_of}
use Rattle.store.specs.declared.Layout.{Layout}
use Rattle.store.specs.Layout.{Sound, slot_bytes}
use Rattle.store.specs.Header.{header, live, is_dead, free_guest, head_good, words_good}
use Rattle.store.specs.Store.{well_formed, fresh, without_guest, without_guests}
use Rattle.store.proofs.Search.{first_bounds}
use Rattle.store.proofs.Kept.{guest_kept, vcpu_kept, delete_kept, delete_all_kept, caps_kept}
use Rattle.store.proofs.Fresh.{fresh_good}
use Rattle.store.proofs.Frame.{header_values}
use Rattle.elements.specs.declared.Source.{Source}
use Rattle.elements.specs.declared.Source.TheVariants.{Fixed, Stored}
use Rattle.elements.specs.declared.Kind.{Kind}
use Rattle.elements.specs.declared.Kind.TheVariants.{Unlisted, Nop, Listed}
use Rattle.elements.specs.Table.{kind_of}
use Rattle.gsb.specs.Walk.{count_of, id_at, offset_at}
use Rattle.transfer.specs.Transfer.{value_at, put_from, put_as, applied}
use Rattle.transfer.proofs.Moving.{length_applied}
use Rattle.admission.specs.Refusals.{Outcome, accept, refuse, decide, has_bit0, Passed}
use Rattle.guests.specs.Guests.{create_guest, create_vcpu, delete_guest}
use Rattle.l0.specs.Calls.{fresh_store, get_capabilities, set_capabilities, guest_clock, Call, GetCapabilities, SetCapabilities, CreateGuest, CreateVcpu, GetState, SetState, RunVcpu, DeleteGuest, GuestClock, outcome, after}
use Rattle.admission.specs.Target.{base_of}
use Rattle.octets.specs.Bytes.{zeros}
use Rattle.handover.specs.Form.{values_of}
use Rattle.state.specs.HandOver.{take_vcpu, give_vcpu}
use Rattle.state.specs.State.{get_elements, get_state, set_elements, set_state}
use Rattle.state.proofs.HandOvers.{get_ways, set_ways}
use Rattle.run.specs.Run.{input_of, run_vcpu, ran, ran_store}
use Rattle.admission.proofs.Judging.{each_way}
use Rattle.promises.specs.History.{name_of}
use Rattle.promises.specs.Promised.{Unchanged, lent}
use Rattle.promises.proofs.Told.{refused_fault}
use Rattle.promises.proofs.HandedOver.{take_slotted, give_slotted, slotted_word, take_leaves, handed_formed}

-- P of a call, from each refusal and from what it does where no test holds
pub decided : (P : Outcome → Type 0) (s b : List ℕ) (tests : List (Bool × Fault)) (o : Outcome) → ((f : Fault) → P (refuse s b f)) → (Passed tests → P o) → P (decide s b tests o)
unfolding decide
decided P s b tests o r g = each_way P (refuse s b) tests o r g

-- R of a call on two stores: the same tests xs; then, where none of them holds, the same tests zs; then what is done
pub decided_two : (R : Outcome → Outcome → Type 0) (s t b : List ℕ) → ((f : Fault) → R (refuse s b f) (refuse t b f)) → (xs ys zs ws : List (Bool × Fault)) (o p : Outcome)
    → ys ≡ xs → (Passed xs → ws ≡ zs) → (Passed (xs ++ zs) → R o p) → R (decide s b (xs ++ zs) o) (decide t b (ys ++ ws) p)
unfolding decide
decided_two R s t b r xs ys zs ws o p e f g = subst (λ (vs : List (Bool × Fault)). R (first_of (refuse s b) (xs ++ zs) o) (first_of (refuse t b) (vs ++ ws) p)) (sym e) (go xs f g)
  where
    rest : (vs : List (Bool × Fault)) → (Passed vs → R o p) → R (first_of (refuse s b) vs o) (first_of (refuse t b) vs p)
    rest [] k = k tt
    rest (v ∷ vs) k = at v.0 refl (rest vs)
      where
        at : (x : Bool) → v.0 ≡ x → ((Passed vs → R o p) → R (first_of (refuse s b) vs o) (first_of (refuse t b) vs p))
            → R (cond x (refuse s b v.1) (first_of (refuse s b) vs o)) (cond x (refuse t b v.1) (first_of (refuse t b) vs p))
        at true q ih = r v.1
        at false q ih = ih (λ y. k (q, y))

    go : (vs : List (Bool × Fault)) → (Passed vs → ws ≡ zs) → (Passed (vs ++ zs) → R o p) → R (first_of (refuse s b) (vs ++ zs) o) (first_of (refuse t b) (vs ++ ws) p)
    go [] k d = subst (λ (us : List (Bool × Fault)). R (first_of (refuse s b) zs o) (first_of (refuse t b) us p)) (sym (k tt)) (rest zs d)
    go (v ∷ vs) k d = at v.0 refl (go vs)
      where
        at : (x : Bool) → v.0 ≡ x → ((Passed vs → ws ≡ zs) → (Passed (vs ++ zs) → R o p) → R (first_of (refuse s b) (vs ++ zs) o) (first_of (refuse t b) (vs ++ ws) p))
            → R (cond x (refuse s b v.1) (first_of (refuse s b) (vs ++ zs) o)) (cond x (refuse t b v.1) (first_of (refuse t b) (vs ++ ws) p))
        at true q ih = r v.1
        at false q ih = ih (λ y. k (q, y)) (λ y. d (q, y))

-- ---- a refusal changes nothing
kept : (c : Name) (s b : List ℕ) (f : Fault) → Unchanged c s b (refuse s b f)
kept c s b f = record { store = λ n. refl; buffer = λ n. refl }

-- an accepted call is none
done : (c : Name) (s b : List ℕ) (o : Outcome) → o.answer.fault ≡ None → Unchanged c s b o
done c s b o e = record { store = λ n. absurd (refused_fault c o.answer n e); buffer = λ n. absurd (refused_fault c o.answer n e) }

settled : (c : Name) (s b : List ℕ) (tests : List (Bool × Fault)) (o : Outcome) → (Passed tests → o.answer.fault ≡ None) → Unchanged c s b (decide s b tests o)
settled c s b tests o e = decided (Unchanged c s b) s b tests o (kept c s b) (λ p. done c s b o (e p))

pub refused_unchanged : (l : Layout) (s : List ℕ) (c : Call) → Unchanged (name_of c) s (lent c) (outcome l s c)
unfolding outcome get_capabilities set_capabilities create_guest create_vcpu get_elements set_elements take_vcpu give_vcpu run_vcpu ran delete_guest guest_clock
refused_unchanged l s (GetCapabilities flags) = settled Name.GetCapabilities s [] _ _ (λ p. refl)
refused_unchanged l s (SetCapabilities flags bitmap) = settled Name.SetCapabilities s [] _ _ (λ p. refl)
refused_unchanged l s (CreateGuest flags token) = settled Name.CreateGuest s [] _ _ (λ p. refl)
refused_unchanged l s (CreateVcpu flags guest vcpu) = settled Name.CreateVcpu s [] _ _ (λ p. refl)
refused_unchanged l s (GetState flags guest vcpu buffer) =
    get_ways l s flags guest vcpu buffer (Unchanged Name.GetState s buffer) (λ e. settled Name.GetState s buffer _ _ (λ p. refl)) (λ t. settled Name.GetState s buffer _ _ (λ p. refl))
refused_unchanged l s (SetState flags guest vcpu buffer) =
    set_ways l s flags guest vcpu buffer (Unchanged Name.SetState s []) (λ e. settled Name.SetState s [] _ _ (λ p. refl)) (λ t. settled Name.SetState s [] _ _ (λ p. refl))
refused_unchanged l s (RunVcpu flags guest vcpu input output effect exit) = settled Name.RunVcpu s output _ _ (λ p. refl)
refused_unchanged l s (DeleteGuest flags guest) = settled Name.DeleteGuest s [] _ _ (λ p. refl)
refused_unchanged l s (GuestClock guest timebase) = settled Name.GuestClock s [] _ _ (λ p. refl)

pub fresh_unchanged : (l : Layout) (s : List ℕ) → Unchanged Name.FreshStore s [] (fresh_store l s)
unfolding fresh_store
fresh_unchanged l s = settled Name.FreshStore s [] _ _ (λ p. refl)

-- ---- a well-formed store stays well formed
-- values stored behind the header leave it
stored_header : (l : Layout) → Sound l → (kind : Kind) (base : ℕ) (v s : List ℕ) → l.guests_at ≤ base → header l (put_as kind base v s) ≡ header l s
unfolding put_as put_from
stored_header l so Unlisted base v s k = refl
stored_header l so Nop base v s k = refl
stored_header l so (Listed x) base v s k = go x.source
  where
    go : (y : Source) → header l (put_from y base v s) ≡ header l s
    go (Fixed n) = refl
    go (Stored p) = header_values l so s (base + p) v (omega arith)

pub applied_header : (l : Layout) → Sound l → (base : ℕ) (b : List ℕ) (n : ℕ) (s : List ℕ) → l.guests_at ≤ base → header l (applied base b n s) ≡ header l s
unfolding applied
applied_header l so base b zero s k = refl
applied_header l so base b (suc n) s k =
    stored_header l so (kind_of (id_at b (offset_at b n))) base (value_at b (offset_at b n)) (applied base b n s) k ∙ applied_header l so base b n s k

pub applied_kept : (l : Layout) → Sound l → (base : ℕ) (b : List ℕ) (n : ℕ) (s : List ℕ) → l.guests_at ≤ base → well_formed l (applied base b n s) ≡ well_formed l s
unfolding well_formed
applied_kept l so base b n s k =
    ap₂ (λ (n : ℕ) (h : List ℕ). eqb n l.size && (head_good l h && words_good l h)) (length_applied base b s n) (applied_header l so base b n s k)

pub base_values : (l : Layout) → Sound l → (s : List ℕ) (wide : Bool) (guest vcpu : ℕ) → l.guests_at ≤ base_of l s wide guest vcpu
unfolding base_of
base_values l so s true guest vcpu = omega arith
base_values l so s false guest vcpu = omega (arith, so.guests_fit)

record Stays (l : Layout) (o : Outcome) : Type 0 where
  formed : well_formed l o.store ≡ true

module _ (l : Layout) (so : Sound l) (s : List ℕ) (good : well_formed l s ≡ true) where
  same_with : (b : List ℕ) (f : Fault) → Stays l (refuse s b f)
  same_with b f = record { formed = good }

  same : (f : Fault) → Stays l (refuse s [] f)
  same = same_with []

  guest_stays : (flags token : ℕ) → Stays l (create_guest l s flags token)
  unfolding create_guest free_guest
  guest_stays flags token =
      decided (Stays l) s [] _ _ same
      (λ p. record { formed = guest_kept l so s good (free_guest l (header l s)) (first_bounds (is_dead l (header l s)) l.guests 1).0 (ltb-false _ _ p.1.1.1.0) })

  vcpu_stays : (flags guest vcpu : ℕ) → Stays l (create_vcpu l s flags guest vcpu)
  unfolding create_vcpu
  vcpu_stays flags guest vcpu =
      decided (Stays l) s [] _ _ same
      (λ p. let q = p.1.1 in
      record { formed = vcpu_kept l so s good guest vcpu (not-false _ q.0) (ltb-true _ _ (not-false _ q.1.0)) (ltb-true _ _ (not-false _ q.1.1.1.0)) (ltb-false _ _ q.1.1.0) })

  delete_stays : (flags guest : ℕ) → Stays l (delete_guest l s flags guest)
  unfolding delete_guest
  delete_stays flags guest = decided (Stays l) s [] _ _ same (λ p. go (has_bit0 flags) p.1.1.0)
    where
      go : (all : Bool) → (not all && not (live l (header l s) guest)) ≡ false → Stays l (accept 0 (cond all (without_guests l s) (without_guest l s guest)))
      go true e = record { formed = delete_all_kept l so s good }
      go false e = record { formed = delete_kept l so s good guest (not-false _ e) }

  caps_stay : (flags bitmap : ℕ) → Stays l (set_capabilities l s flags bitmap)
  unfolding set_capabilities
  caps_stay flags bitmap = decided (Stays l) s [] _ _ same (λ p. record { formed = caps_kept l so s good bitmap (eqb-true _ _ (not-false _ p.1.1.0)) })

  -- either hand-over
  take_stays : (guest vcpu : ℕ) (b : List ℕ) → Stays l (take_vcpu l s guest vcpu b)
  unfolding take_vcpu
  take_stays guest vcpu b =
      decided (Stays l) s b _ _ (same_with b)
      (λ p. let f = take_slotted l s guest vcpu b p in
      record { formed = ap (well_formed l) (take_leaves l s guest vcpu b) ∙ handed_formed l so s _ f.below (zeros slot_bytes) 1 good (slotted_word l s guest vcpu so f) })

  give_stays : (guest vcpu : ℕ) (b : List ℕ) → Stays l (give_vcpu l s guest vcpu b)
  unfolding give_vcpu
  give_stays guest vcpu b =
      decided (Stays l) s [] _ _ same
      (λ p. let f = give_slotted l s guest vcpu b p in record { formed = handed_formed l so s _ f.below (values_of b) 0 good (slotted_word l s guest vcpu so f) })

  elements_stay : (flags guest vcpu : ℕ) (b : List ℕ) → Stays l (set_elements l s flags guest vcpu b)
  unfolding set_elements
  elements_stay flags guest vcpu b =
      decided (Stays l) s [] _ _ same
      (λ p. record { formed = applied_kept l so (base_of l s (has_bit0 flags) guest vcpu) b (count_of b) s (base_values l so s (has_bit0 flags) guest vcpu) ∙ good })

  set_stays : (flags guest vcpu : ℕ) (b : List ℕ) → Stays l (set_state l s flags guest vcpu b)
  set_stays flags guest vcpu b = set_ways l s flags guest vcpu b (Stays l) (λ e. elements_stay flags guest vcpu b) (λ t. give_stays guest vcpu b)

  got_stays : (flags guest vcpu : ℕ) (b : List ℕ) → Stays l (get_elements l s flags guest vcpu b)
  unfolding get_elements
  got_stays flags guest vcpu b = decided (Stays l) s b _ _ (same_with b) (λ p. record { formed = good })

  get_stays : (flags guest vcpu : ℕ) (b : List ℕ) → Stays l (get_state l s flags guest vcpu b)
  get_stays flags guest vcpu b = get_ways l s flags guest vcpu b (Stays l) (λ e. got_stays flags guest vcpu b) (λ t. take_stays guest vcpu b)

  run_stays : (flags guest vcpu : ℕ) (input output effect : List ℕ) (exit : ℕ) → Stays l (run_vcpu l s flags guest vcpu input output effect exit)
  unfolding run_vcpu ran ran_store
  run_stays flags guest vcpu input output effect exit =
      let base = base_of l s false guest vcpu in
      let b = input_of s base input in
      let v = base_values l so s false guest vcpu in
      decided (Stays l) s output _ _ (same_with output)
      (λ p. record { formed = applied_kept l so base effect (count_of effect) (applied base b (count_of b) s) v ∙ applied_kept l so base b (count_of b) s v ∙ good })

  stays : (c : Call) → Stays l (outcome l s c)
  unfolding outcome get_capabilities guest_clock
  stays (GetCapabilities flags) = decided (Stays l) s [] _ _ same (λ p. record { formed = good })
  stays (SetCapabilities flags bitmap) = caps_stay flags bitmap
  stays (CreateGuest flags token) = guest_stays flags token
  stays (CreateVcpu flags guest vcpu) = vcpu_stays flags guest vcpu
  stays (GetState flags guest vcpu buffer) = get_stays flags guest vcpu buffer
  stays (SetState flags guest vcpu buffer) = set_stays flags guest vcpu buffer
  stays (RunVcpu flags guest vcpu input output effect exit) = run_stays flags guest vcpu input output effect exit
  stays (DeleteGuest flags guest) = delete_stays flags guest
  stays (GuestClock guest timebase) = decided (Stays l) s [] _ _ same (λ p. record { formed = good })

  pub well_formed_kept : (c : Call) → well_formed l (outcome l s c).store ≡ true
  well_formed_kept c = (stays c).formed

-- ---- every history from a fresh store
pub history_kept : (l : Layout) → Sound l → (s : List ℕ) → well_formed l s ≡ true → (cs : List Call) → well_formed l (after l s cs) ≡ true
unfolding after
history_kept l so s good [] = good
history_kept l so s good (c ∷ cs) = history_kept l so (outcome l s c).store (well_formed_kept l so s good c) cs

pub fresh_history : (l : Layout) → Sound l → (cs : List Call) → well_formed l (after l (fresh l) cs) ≡ true
fresh_history l so cs = history_kept l so (fresh l) (fresh_good l so) cs
