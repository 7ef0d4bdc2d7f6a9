-- THEOREMS of request L8. `join_accepted_exactly`: what a join accepts. `join_associative`. `two_sets_one`: two accepted sets, one straight after the
-- other on one target, leave what one set of the joined buffer leaves, which is accepted too. `either_order`: of two that share no ID but the NOP
-- either order is accepted and leaves the same. Assumes nothing.
use mathlib.Core.Path.{◌≡◌, refl, sym, ap, ap₂, ◌∙◌, subst}
use mathlib.Core.Logic.{◌↔◌, ◌⊎◌, inl, inr, ⊎_elim}
use mathlib.Core.Bool.{Bool, true, false, cond, not, ◌&&◌}
use mathlib.Core.List.{List, [], ◌++◌}
use Prim.Native.Nat.{ℕ, ◌≤◌}
use native.Mathlib.Omega.{arith}
use lib.Dec.{leb}
use lib.ListN.{length}
use borrow.Author.Tests.{not-false}
use Rattle.octets.specs.Bytes.{bytes_at}
use Rattle.octets.proofs.Bytes.{read_back}
use Rattle.answer.specs.declared.Call.{Call as Name}
use Rattle.answer.specs.Answer.{told, accepted}
use Rattle.answer.specs.declared.Fault.TheVariants.{None, Length}
use Rattle.elements.specs.Later.{offer_of}
use Rattle.rules.specs.Rules.{scope_for}
use Rattle.rules.proofs.Lists.{by}
use Rattle.gsb.specs.Walk.{count_of, bad_length, first_bad, is_stopped, fault_of, Walked}
use Rattle.gsb.specs.Private.{settled}
use Rattle.gsb.specs.Join.{joined, Joining, join_into, Joinable, CanJoin}
use Rattle.gsb.proofs.Walks.{length_bounds}
use Rattle.gsb.proofs.First.{element_good_lem, guest_good}
use Rattle.gsb.proofs.Whole.{last_inside, joinable_whole, whole_joinable}
use Rattle.gsb.proofs.Joined.{joined_joinable, joined_longer, joined_longer_behind, joined_associative}
use Rattle.gsb.proofs.JoinedGood.{good_joined}
use Rattle.gsb.proofs.JoinLaws.{join_past, join_done, join_accepted}
use Rattle.store.specs.declared.Layout.{Layout}
use Rattle.store.specs.Layout.{Sound, guest_bytes, guest_at}
use Rattle.store.specs.Header.{header, live, slot_of, is_taken, capabilities_of}
use Rattle.store.specs.Store.{well_formed}
use Rattle.store.proofs.Tests.{live_parts}
use Rattle.transfer.specs.Transfer.{applied}
use Rattle.transfer.proofs.Joined.{applied_joined}
use Rattle.admission.specs.Refusals.{Outcome, accept, refuse, decide, has_bit0, hands_over, Passed}
use Rattle.admission.specs.Target.{target_tests, base_of}
use Rattle.state.specs.State.{pvr_of, context_of, buffer_tests, supported_bits, set_use, set_elements, set_state}
use Rattle.state.proofs.HandOvers.{set_plain}
use Rattle.l0.specs.Calls.{SetState, outcome, after}
use Rattle.promises.specs.History.{registers, is_accepted}
use Rattle.promises.specs.Joining.{join_told, written, Associative, OneTarget, TwoSets, after_both, OneSet, ShareNoId}
use Rattle.promises.proofs.Told.{none_told, accepted_none, none_accepted}
use Rattle.promises.proofs.Kept.{applied_header, applied_kept, base_values}
use Rattle.promises.proofs.States.{skip, walked, target_passed, pvr_kept, every_guest}
use Rattle.promises.proofs.ReadBack.{set_accepted, base_same}
use Rattle.promises.proofs.Either.{applied_either}
use Rattle.std.proofs.Common.{Ok}

-- ---- the joining
pub join_accepted_exactly : (a b r : List ℕ) → ((join_told a b r).r3 ≡ 0) ↔ CanJoin a b r
unfolding join_told
join_accepted_exactly a b r = (
  λ e. join_accepted a b r ((none_told Name.Join (join_into a b r).answer.fault (join_into a b r).answer.value).0 e),
  λ j. (none_told Name.Join (join_into a b r).answer.fault (join_into a b r).answer.value).1 (ap (λ (x : Joining). x.answer.fault) (join_done a b r j)),
)

-- R4 is its length, and so many first bytes are the joined buffer
pub join_written : (a b r : List ℕ) → CanJoin a b r → written (join_into a b r) ≡ joined a b
join_written a b r j = ap written (join_done a b r j) ∙ read_back r 0 (joined a b) (omega (arith, j.room))

module _ (a b c : List ℕ) (ja : Joinable a) (jb : Joinable b) (jc : Joinable c) (h : length (joined (joined a b) c) ≤ 65536) where
  same : joined (joined a b) c ≡ joined a (joined b c)
  same = joined_associative a b ja jb c jc

  first_short : length (joined a b) ≤ 65536
  first_short = omega (arith, joined_longer a b ja jb c jc)

  second_short : length (joined b c) ≤ 65536
  second_short = omega (arith, joined_longer_behind b c jb jc a ja, ap length same)

  pub join_associative : Associative a b c
  join_associative = record {
    bytes = same;
    operation = λ p q r l m.
        ap (λ (x : List ℕ). join_into x c r) (join_written a b p (record { first = ja; second = jb; short = first_short; room = l }))
        ∙ join_past (joined a b) c r (joined_joinable a b ja jb first_short) jc ∙ ap (λ (x : List ℕ). settled x r) same
        ∙ sym (join_past a (joined b c) r ja (joined_joinable b c jb jc second_short))
        ∙ ap (λ (x : List ℕ). join_into a x r) (sym (join_written b c q (record { first = jb; second = jc; short = second_short; room = m })));
  }

-- ---- what an accepted set is: its target was found, and its buffer is good
record Takes (l : Layout) (s : List ℕ) (flags guest vcpu : ℕ) (b : List ℕ) : Type 0 where
  target : Passed (target_tests l s (supported_bits (has_bit0 flags)) flags (has_bit0 flags) guest vcpu)
  sized : bad_length b ≡ false
  good : first_bad (context_of l s guest (set_use (has_bit0 flags))) b ≡ Ok tt

module _ (l : Layout) (s : List ℕ) (flags guest vcpu : ℕ) (b : List ℕ) where
  abbrev done : Outcome
  done = accept 0 (applied (base_of l s (has_bit0 flags) guest vcpu) b (count_of b) s)

  takes : (set_elements l s flags guest vcpu b).answer.fault ≡ None → Takes l s flags guest vcpu b
  takes e =
      let p = (set_accepted l s flags guest vcpu b e).0 in
      record {
        target = target_passed l s flags guest vcpu b (set_use (has_bit0 flags)) p;
        sized = p.1.1.1.1.1.0;
        good = walked l s flags guest vcpu b (set_use (has_bit0 flags)) p;
      }

  taken : Takes l s flags guest vcpu b → set_elements l s flags guest vcpu b ≡ done
  unfolding set_elements decide
  taken t =
      skip (refuse s []) (target_tests l s (supported_bits (has_bit0 flags)) flags (has_bit0 flags) guest vcpu) (buffer_tests (context_of l s guest (set_use (has_bit0 flags))) b) done t.target
      ∙ ap₂ (λ (x : Bool) (w : Walked). cond x (refuse s [] Length) (cond (is_stopped w) (refuse s [] (fault_of w)) done)) t.sized t.good

  takes_joinable : Takes l s flags guest vcpu b → Joinable b
  takes_joinable t =
      let p = length_bounds b t.sized in
      whole_joinable b
      (record { long = p.0; short = p.1; end = last_inside b (λ i h. (element_good_lem (context_of l s guest (set_use (has_bit0 flags))) b t.good i h).inside) p.0 })

set_accepts : (l : Layout) (s : List ℕ) (flags guest vcpu : ℕ) (b : List ℕ) → hands_over flags ≡ false → {t : List ℕ} → set_elements l s flags guest vcpu b ≡ accept 0 t
    → is_accepted l s (SetState flags guest vcpu b) ≡ true
unfolding outcome
set_accepts l s flags guest vcpu b plain e = none_accepted l s (SetState flags guest vcpu b) (ap (λ (o : Outcome). o.answer.fault) (sym (set_plain l s flags guest vcpu b plain) ∙ e))

-- ---- a store that takes the same buffers. 02, L7: the list is the guest's, by its PVR; guest-wide elements are on both
record Alike (l : Layout) (s t : List ℕ) (flags guest : ℕ) : Type 0 where
  heads : header l t ≡ header l s
  formed : well_formed l t ≡ well_formed l s
  list : (has_bit0 flags ≡ true) ⊎ (pvr_of l t guest ≡ pvr_of l s guest)

alike_back : (l : Layout) (s t : List ℕ) (flags guest : ℕ) → Alike l s t flags guest → Alike l t s flags guest
alike_back l s t flags guest k = record { heads = sym k.heads; formed = sym k.formed; list = ⊎_elim (λ w. inl w) (λ e. inr (sym e)) k.list }

module _ (l : Layout) (s t : List ℕ) (flags guest vcpu : ℕ) (k : Alike l s t flags guest) where
  good_moved : (b : List ℕ) → first_bad (context_of l s guest (set_use (has_bit0 flags))) b ≡ Ok tt → first_bad (context_of l t guest (set_use (has_bit0 flags))) b ≡ Ok tt
  good_moved b d = ap (λ (h : List ℕ). first_bad (by (set_use (has_bit0 flags)) (capabilities_of h) (offer_of (pvr_of l t guest))) b) k.heads ∙ go k.list
    where
      go : (has_bit0 flags ≡ true) ⊎ (pvr_of l t guest ≡ pvr_of l s guest) → first_bad (by (set_use (has_bit0 flags)) (capabilities_of (header l s)) (offer_of (pvr_of l t guest))) b ≡ Ok tt
      go (inl w) = guest_good (set_use (has_bit0 flags)) (capabilities_of (header l s)) (offer_of (pvr_of l s guest)) (offer_of (pvr_of l t guest)) (ap (λ (x : Bool). scope_for (set_use x)) w) b d
      go (inr e) = ap (λ (p : ℕ). first_bad (by (set_use (has_bit0 flags)) (capabilities_of (header l s)) (offer_of p)) b) e ∙ d

  target_moved : Passed (target_tests l s (supported_bits (has_bit0 flags)) flags (has_bit0 flags) guest vcpu) → Passed (target_tests l t (supported_bits (has_bit0 flags)) flags (has_bit0 flags) guest vcpu)
  target_moved p = (
    ap not k.formed ∙ p.0,
    (
      p.1.0,
      (
        ap (λ (h : List ℕ). not (live l h guest)) k.heads ∙ p.1.1.0,
        (
          ap (λ (h : List ℕ). not (has_bit0 flags) && leb l.slots (slot_of l h guest vcpu)) k.heads ∙ p.1.1.1.0,
          (ap (λ (h : List ℕ). not (has_bit0 flags) && is_taken l h (slot_of l h guest vcpu)) k.heads ∙ p.1.1.1.1.0, tt),
        ),
      ),
    ),
  )

  takes_moved : (b : List ℕ) → Takes l s flags guest vcpu b → Takes l t flags guest vcpu b
  takes_moved b x = record { target = target_moved x.target; sized = x.sized; good = good_moved b x.good }

-- ---- the store that an accepted set leaves is such a one
module _ (l : Layout) (so : Sound l) (s : List ℕ) (flags guest vcpu : ℕ) (plain : hands_over flags ≡ false) (a : List ℕ) (ta : Takes l s flags guest vcpu a) where
  abbrev base : ℕ
  base = base_of l s (has_bit0 flags) guest vcpu

  abbrev left : List ℕ
  left = applied base a (count_of a) s

  left_is : (set_state l s flags guest vcpu a).store ≡ left
  left_is = ap (λ (o : Outcome). o.store) (sym (set_plain l s flags guest vcpu a plain) ∙ taken l s flags guest vcpu a ta)

  -- a thread set leaves the guest's values
  same_pvr : has_bit0 flags ≡ false → pvr_of l left guest ≡ pvr_of l s guest
  same_pvr thread =
      pvr_kept l s left guest
      (ap (λ (x : List ℕ). bytes_at x (guest_at l guest) guest_bytes) (sym left_is)
      ∙ every_guest l s flags guest vcpu a plain thread so guest (live_parts l (header l s) guest (not-false _ ta.target.1.1.0)).1)

  left_alike : Alike l s left flags guest
  left_alike = record {
    heads = applied_header l so base a (count_of a) s (base_values l so s (has_bit0 flags) guest vcpu);
    formed = applied_kept l so base a (count_of a) s (base_values l so s (has_bit0 flags) guest vcpu);
    list = by_scope (has_bit0 flags) refl;
  }
    where
      by_scope : (x : Bool) → has_bit0 flags ≡ x → (has_bit0 flags ≡ true) ⊎ (pvr_of l left guest ≡ pvr_of l s guest)
      by_scope true e = inl e
      by_scope false e = inr (same_pvr e)

  -- then a set of b, of which the store before the first would have taken the buffer too
  module _ (b : List ℕ) (tb : Takes l s flags guest vcpu b) where
    both : set_elements l left flags guest vcpu b ≡ accept 0 (applied base b (count_of b) left)
    both =
        taken l left flags guest vcpu b (takes_moved l s left flags guest vcpu left_alike b tb)
        ∙ ap (λ (n : ℕ). accept 0 (applied n b (count_of b) left)) (base_same l s left flags guest vcpu left_alike.heads)

    both_store : after_both l s flags guest vcpu vcpu a b ≡ applied base b (count_of b) left
    unfolding after outcome
    both_store =
        ap (λ (x : List ℕ). (set_state l x flags guest vcpu b).store) left_is
        ∙ ap (λ (o : Outcome). o.store) (sym (set_plain l left flags guest vcpu b plain) ∙ both)

    taken_both : TwoSets l s flags guest vcpu vcpu a b
    unfolding outcome
    taken_both = record {
      plain = plain;
      target = inr refl;
      first = set_accepts l s flags guest vcpu a plain (taken l s flags guest vcpu a ta);
      second = subst (λ (x : List ℕ). is_accepted l x (SetState flags guest vcpu b) ≡ true) (sym left_is) (set_accepts l left flags guest vcpu b plain both);
    }

-- ---- two accepted sets are two that the store takes
module _ (l : Layout) (so : Sound l) (s : List ℕ) (flags guest v : ℕ) (a b : List ℕ) (t : TwoSets l s flags guest v v a b) where
  plainly : (x c : List ℕ) → is_accepted l x (SetState flags guest v c) ≡ true → (set_elements l x flags guest v c).answer.fault ≡ None
  unfolding outcome
  plainly x c e = ap (λ (o : Outcome). o.answer.fault) (set_plain l x flags guest v c t.plain) ∙ accepted_none l x (SetState flags guest v c) e

  first_taken : Takes l s flags guest v a
  first_taken = takes l s flags guest v a (plainly s a t.first)

  abbrev mid : List ℕ
  mid = left l so s flags guest v t.plain a first_taken

  second_taken : Takes l s flags guest v b
  unfolding outcome
  second_taken =
      takes_moved l mid s flags guest v (alike_back l s mid flags guest (left_alike l so s flags guest v t.plain a first_taken)) b
      (takes l mid flags guest v b
      (plainly mid b (subst (λ (x : List ℕ). is_accepted l x (SetState flags guest v b) ≡ true) (left_is l so s flags guest v t.plain a first_taken) t.second)))

  one_set : length (joined a b) ≤ 65536 → OneSet l s flags guest v (joined a b) (after_both l s flags guest v v a b)
  unfolding outcome
  one_set h =
      let ja = takes_joinable l s flags guest v a first_taken in
      let jb = takes_joinable l s flags guest v b second_taken in
      let k = context_of l s guest (set_use (has_bit0 flags)) in
      let j = taken l s flags guest v (joined a b) (record {
        target = first_taken.target;
        sized = (joined_joinable a b ja jb h).sized;
        good = good_joined k a b (joinable_whole a ja) (joinable_whole b jb) first_taken.good second_taken.good;
      }) in
      record {
        accepted = set_accepts l s flags guest v (joined a b) t.plain j;
        store = ap (λ (o : Outcome). o.store) (sym (set_plain l s flags guest v (joined a b) t.plain) ∙ j)
            ∙ applied_joined (base_of l s (has_bit0 flags) guest v) a b s ja jb
            ∙ sym (both_store l so s flags guest v t.plain a first_taken b second_taken);
      }

  other_order : TwoSets l s flags guest v v b a
  other_order = taken_both l so s flags guest v t.plain b second_taken a first_taken

  same_store : ShareNoId a b → after_both l s flags guest v v a b ≡ after_both l s flags guest v v b a
  same_store apart =
      both_store l so s flags guest v t.plain a first_taken b second_taken
      ∙ applied_either (context_of l s guest (set_use (has_bit0 flags))) (base_of l s (has_bit0 flags) guest v) a b first_taken.good second_taken.good apart s
      ∙ sym (both_store l so s flags guest v t.plain b second_taken a first_taken)

-- ---- guest-wide the vCPU id is ignored
module _ (l : Layout) (flags guest v w : ℕ) (plain : hands_over flags ≡ false) (one : OneTarget flags v w) where
  set_vcpu : (s b : List ℕ) → outcome l s (SetState flags guest v b) ≡ outcome l s (SetState flags guest w b)
  unfolding outcome set_elements base_of
  set_vcpu s b = sym (set_plain l s flags guest v b plain) ∙ ⊎_elim (λ e. ap (λ (x : Bool). by_scope x v) e ∙ ap (λ (x : Bool). by_scope x w) (sym e)) (λ e. ap (by_scope (has_bit0 flags)) e) one ∙ set_plain l s flags guest w b plain
    where
      by_scope : Bool → ℕ → Outcome
      by_scope x u =
          decide s [] (target_tests l s (supported_bits x) flags x guest u ++ buffer_tests (context_of l s guest (set_use x)) b)
          (accept 0 (applied (base_of l s x guest u) b (count_of b) s))

  accepted_vcpu : (s b : List ℕ) → is_accepted l s (SetState flags guest v b) ≡ is_accepted l s (SetState flags guest w b)
  unfolding is_accepted registers
  accepted_vcpu s b = ap (λ (o : Outcome). accepted (told Name.SetState o.answer.fault o.answer.value)) (set_vcpu s b)

module _ (l : Layout) (so : Sound l) (s : List ℕ) (flags guest v w : ℕ) (a b : List ℕ) (t : TwoSets l s flags guest v w a b) where
  at_first : TwoSets l s flags guest v v a b
  at_first = record { plain = t.plain; target = inr refl; first = t.first; second = accepted_vcpu l flags guest v w t.plain t.target _ b ∙ t.second }

  first_store : after_both l s flags guest v v a b ≡ after_both l s flags guest v w a b
  unfolding after
  first_store = ap (λ (o : Outcome). o.store) (set_vcpu l flags guest v w t.plain t.target _ b)

  pub two_sets_one : length (joined a b) ≤ 65536 → OneSet l s flags guest v (joined a b) (after_both l s flags guest v w a b)
  two_sets_one h =
      let x = one_set l so s flags guest v a b at_first h in
      record { accepted = x.accepted; store = x.store ∙ first_store }

  second_store : after_both l s flags guest v v b a ≡ after_both l s flags guest w v b a
  unfolding after
  second_store = ap (λ (x : List ℕ). (outcome l x (SetState flags guest v a)).store) (ap (λ (o : Outcome). o.store) (set_vcpu l flags guest v w t.plain t.target s b))

  -- also the other order is one of two accepted sets
  pub either_accepted : TwoSets l s flags guest w v b a
  either_accepted =
      let x = other_order l so s flags guest v a b at_first in
      record {
        plain = t.plain;
        target = ⊎_elim (λ e. inl e) (λ e. inr (sym e)) t.target;
        first = sym (accepted_vcpu l flags guest v w t.plain t.target s b) ∙ x.first;
        second = subst (λ (o : Outcome). is_accepted l o.store (SetState flags guest v a) ≡ true) (set_vcpu l flags guest v w t.plain t.target s b) x.second;
      }

  pub either_order : ShareNoId a b → after_both l s flags guest v w a b ≡ after_both l s flags guest w v b a
  either_order apart = sym first_store ∙ same_store l so s flags guest v a b at_first apart ∙ second_store
