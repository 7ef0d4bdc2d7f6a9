-- What a hand-over leaves: other values in the vCPU's slot, and its mark. Nothing else of the store sees it. Assumes nothing.
use mathlib.Core.Path.{◌≡◌, refl, sym, ap, ◌∙◌, subst}
use mathlib.Core.Logic.{◌≢◌}
use mathlib.Core.Bool.{Bool, true, false, ◌&&◌, cond}
use mathlib.Core.List.{List, ◌++◌}
use Prim.Native.Nat.{ℕ, ◌+◌, ◌≤◌, ◌<◌}
use native.Mathlib.Omega.{arith}
use lib.Dec.{ltb}
use lib.ListN.{length}
use borrow.Author.Tests.{eqb-true, ltb-true, leb-false, not-false}
use Rattle.octets.specs.Bytes.{bytes_at, put, zeros, Clear}
use Rattle.octets.proofs.Bytes.{length_put, put_comm, read_other}
use Rattle.answer.specs.declared.Fault.{Fault}
use Rattle.handover.specs.Form.{values_of, taken}
use Rattle.handover.proofs.Frame.{values_long}
use Rattle.store.specs.declared.Layout.{Layout}
use Rattle.store.specs.Layout.{Sound, slot_bytes, slot_at}
use Rattle.store.specs.Search.{first}
use Rattle.store.specs.Header.{header, capabilities_of, live, word, word_of, is_taken, holds, slot_holding, slot_of}
use Rattle.store.specs.Store.{well_formed, put_taken}
use Rattle.store.proofs.Search.{first_found}
use Rattle.store.proofs.Frame.{header_full, header_values, header_mark, formed_values}
use Rattle.store.proofs.Marks.{word_mark, live_mark, caps_mark, taken_else}
use Rattle.store.proofs.Beside.{mark_long, mark_values, mark_write}
use Rattle.store.proofs.Kept.{mark_set_kept}
use Rattle.admission.specs.Refusals.{Passed}
use Rattle.admission.specs.Target.{slot_named, is_away, vcpu_tests}
use Rattle.state.specs.HandOver.{take_tests, take_from, give_tests, give_to}

-- ---- the slot of a vCPU
pub record Placed (l : Layout) (h : List ℕ) (g v j : ℕ) : Type 0 where
  pub alive : live l h g ≡ true
  pub low : v < 2048
  pub named : word l h j ≡ word_of l g v

pub slot_placed : (l : Layout) (h : List ℕ) (g v j : ℕ) → slot_of l h g v ≡ j → j < l.slots → Placed l h g v j
unfolding slot_of slot_holding holds
slot_placed l h g v j e k = go (live l h g) (ltb v 2048) refl refl e
  where
    go : (a b : Bool) → live l h g ≡ a → ltb v 2048 ≡ b → cond (a && b) (first (holds l h (word_of l g v)) l.slots 0) l.slots ≡ j → Placed l h g v j
    go true true p r z =
        let f = first_found (holds l h (word_of l g v)) l.slots 0 (omega (arith, z)) in
        record { alive = p; low = ltb-true _ _ r; named = ap (word l h) (sym z) ∙ eqb-true _ _ f.has }
    go true false p r z = absurd (omega arith)
    go false b p r z = absurd (omega arith)

pub word_used : (l : Layout) → Sound l → (g v : ℕ) → word_of l g v ≢ 0
unfolding word_of
word_used l so g v z = omega (arith, so.nameable)

-- ---- the store with the values w in slot j, and the mark b
abbrev pub handed : Layout → List ℕ → ℕ → List ℕ → ℕ → List ℕ
handed l s j w b = put_taken l (put s (slot_at l j) w) j b

module _ (l : Layout) (so : Sound l) (s : List ℕ) (j : ℕ) (below : j < l.slots) (w : List ℕ) (b : ℕ) where
  values : l.guests_at ≤ slot_at l j
  values = omega (arith, so.guests_fit)

  pub handed_long : length (handed l s j w b) ≡ length s
  handed_long = mark_long l so (put s (slot_at l j) w) j b ∙ length_put s (slot_at l j) w

  pub handed_header : header l (handed l s j w b) ≡ put_taken l (header l s) j b
  handed_header = header_mark l so (put s (slot_at l j) w) j b below ∙ ap (λ (h : List ℕ). put_taken l h j b) (header_values l so s (slot_at l j) w values)

  module _ (long : length s ≡ l.size) where
    full : length (header l s) ≡ l.guests_at
    full = header_full l so s long

    pub handed_word : (a : ℕ) → a < l.slots → word l (header l (handed l s j w b)) a ≡ word l (header l s) a
    handed_word a la = ap (λ (h : List ℕ). word l h a) handed_header ∙ word_mark l so (header l s) full j below b a la

    pub handed_live : (g : ℕ) → live l (header l (handed l s j w b)) g ≡ live l (header l s) g
    handed_live g = ap (λ (h : List ℕ). live l h g) handed_header ∙ live_mark l so (header l s) full j below b g

    pub handed_caps : capabilities_of (header l (handed l s j w b)) ≡ capabilities_of (header l s)
    handed_caps = ap capabilities_of handed_header ∙ caps_mark l so (header l s) full j below b

    pub handed_mark_else : (a : ℕ) → a ≢ j → is_taken l (header l (handed l s j w b)) a ≡ is_taken l (header l s) a
    handed_mark_else a n = ap (λ (h : List ℕ). is_taken l h a) handed_header ∙ taken_else l so (header l s) full j below b a n

    -- values beside the slot's
    pub handed_beside : length w ≡ slot_bytes → (p n : ℕ) → l.guests_at ≤ p → p + n ≤ length s → Clear (slot_at l j) slot_bytes p n → bytes_at (handed l s j w b) p n ≡ bytes_at s p n
    handed_beside len p n k room c =
        mark_values l so (put s (slot_at l j) w) j b p n below k (omega (arith, length_put s (slot_at l j) w))
        ∙ read_other s (slot_at l j) w p n (subst (λ (m : ℕ). Clear (slot_at l j) m p n) (sym len) c)

    -- a write into other values, before or after
    pub handed_write : length w ≡ slot_bytes → (q : ℕ) (u : List ℕ) → l.guests_at ≤ q → q + length u ≤ length s → Clear (slot_at l j) slot_bytes q (length u)
        → handed l (put s q u) j w b ≡ put (handed l s j w b) q u
    handed_write len q u k room c =
        ap (λ (t : List ℕ). put_taken l t j b) (sym (put_comm s (slot_at l j) w q u (subst (λ (m : ℕ). Clear (slot_at l j) m q (length u)) (sym len) c)))
        ∙ mark_write l so (put s (slot_at l j) w) q u k (omega (arith, length_put s (slot_at l j) w)) j b below

  pub handed_formed : well_formed l s ≡ true → word l (header l s) j ≢ 0 → well_formed l (handed l s j w b) ≡ true
  handed_formed good n =
      mark_set_kept l so (put s (slot_at l j) w) (formed_values l so s (slot_at l j) w values ∙ good) j below b
      (λ z. n (ap (λ (h : List ℕ). word l h j) (sym (header_values l so s (slot_at l j) w values)) ∙ z))

-- ---- past their tests, both hand-overs name a slot and leave that
module _ (l : Layout) (s : List ℕ) (guest vcpu : ℕ) where
  abbrev slot : ℕ
  slot = slot_named l s guest vcpu

  pub record Slotted : Type 0 where
    pub good : well_formed l s ≡ true
    pub alive : live l (header l s) guest ≡ true
    pub below : slot < l.slots

  slotted : (rest : List (Bool × Fault)) → Passed (vcpu_tests l s guest vcpu ++ rest) → Slotted
  slotted rest p = record { good = not-false _ p.0; alive = not-false _ p.1.0; below = leb-false _ _ p.1.1.0 }

  pub slotted_word : Sound l → Slotted → word l (header l s) slot ≢ 0
  slotted_word so p z = word_used l so guest vcpu (sym (slot_placed l (header l s) guest vcpu slot refl p.below).named ∙ z)

  module _ (b : List ℕ) where
    abbrev pub takeAll : List (Bool × Fault)
    takeAll = vcpu_tests l s guest vcpu ++ take_tests (is_away l s guest vcpu) b

    abbrev pub giveAll : List (Bool × Fault)
    giveAll = vcpu_tests l s guest vcpu ++ give_tests (is_away l s guest vcpu) vcpu b

    pub take_slotted : Passed takeAll → Slotted
    take_slotted p = slotted (take_tests (is_away l s guest vcpu) b) p

    pub give_slotted : Passed giveAll → Slotted
    give_slotted p = slotted (give_tests (is_away l s guest vcpu) vcpu b) p

    pub take_leaves : (take_from l s slot vcpu b).store ≡ handed l s slot (zeros slot_bytes) 1
    unfolding taken
    take_leaves = refl

    pub give_leaves : (give_to l s slot b).store ≡ handed l s slot (values_of b) 0
    give_leaves = refl

    pub given_length : Passed giveAll → length (values_of b) ≡ slot_bytes
    given_length p = values_long vcpu b (not-false _ p.1.1.1.1.1.0)
