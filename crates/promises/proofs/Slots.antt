-- Which slot a vCPU is in: its word, and the words that are not its. Assumes nothing.
use mathlib.Core.Path.{◌≡◌, refl, sym, ap, ◌∙◌}
use mathlib.Core.Logic.{◌≢◌}
use mathlib.Core.Bool.{Bool, true, false, ◌&&◌, cond}
use mathlib.Core.List.{List}
use Prim.Native.Nat.{ℕ, ◌+◌, ◌*◌, ◌≤◌, ◌<◌}
use native.Mathlib.Omega.{arith}
use lib.Dec.{eqb, ltb}
use borrow.Author.Tests.{ne_eqb, ltb-true}
use Rattle.store.specs.declared.Layout.{Layout}
use Rattle.store.specs.Search.{first}
use Rattle.store.specs.Header.{live, word, word_of, guest_of, holds, slot_holding, slot_of}
use Rattle.store.proofs.Search.{first_ext, none_first}
use Rattle.promises.proofs.HandedOver.{slot_placed}

-- ---- a word has one guest and one vCPU
pub word_guest : (l : Layout) (g v : ℕ) → v < 2048 → guest_of l (word_of l g v) ≡ g
unfolding guest_of word_of
word_guest l g v h = omega arith

pub record Same-vcpu (g v guest vcpu : ℕ) : Type 0 where
  pub same_guest : g ≡ guest
  pub same_id : v ≡ vcpu

pub word_vcpu : (l : Layout) (g v guest vcpu : ℕ) → v < 2048 → vcpu < 2048 → word_of l g v ≡ word_of l guest vcpu → Same-vcpu g v guest vcpu
unfolding word_of
word_vcpu l g v guest vcpu h k e =
    let q : (l.ids + g) * 2048 + v ≡ (l.ids + guest) * 2048 + vcpu = e in
    record { same_guest = omega arith; same_id = omega arith }

-- an unused word is no guest's
pub none_guest : (l : Layout) (g w : ℕ) → 1 ≤ g → w ≡ 0 → guest_of l w ≢ g
unfolding guest_of
none_guest l g w h z e = omega (arith, h, z, e)

-- the word in the slot of a vCPU is one of its guest
pub slot_guest : (l : Layout) (h : List ℕ) (g v : ℕ) → slot_of l h g v < l.slots → guest_of l (word l h (slot_of l h g v)) ≡ g
slot_guest l h g v k = let p = slot_placed l h g v (slot_of l h g v) refl k in ap (guest_of l) p.named ∙ word_guest l g v p.low

-- two vCPUs of a guest are in two slots
pub slots_differ : (l : Layout) (h : List ℕ) (g v w : ℕ) → slot_of l h g v < l.slots → v ≢ w → slot_of l h g w ≢ slot_of l h g v
slots_differ l h g v w k n e =
    let p = slot_placed l h g v (slot_of l h g v) refl k in
    let q = slot_placed l h g w (slot_of l h g v) e k in
    n (word_vcpu l g v g w p.low q.low (sym p.named ∙ q.named)).same_id

module _ (l : Layout) (h : List ℕ) (g v : ℕ) where
  -- a vCPU whose word no slot has is in none
  pub slot_none : (v < 2048 → (a : ℕ) → a < l.slots → word l h a ≢ word_of l g v) → slot_of l h g v ≡ l.slots
  unfolding slot_of slot_holding holds
  slot_none n = go (live l h g) (ltb v 2048) refl
    where
      go : (a b : Bool) → ltb v 2048 ≡ b → cond (a && b) (first (holds l h (word_of l g v)) l.slots 0) l.slots ≡ l.slots
      go true true r = none_first (holds l h (word_of l g v)) l.slots 0 (λ a x y. ne_eqb _ _ (n (ltb-true _ _ r) a (omega arith))) ∙ omega arith
      go true false r = refl
      go false b r = refl

  -- a header that has its word in the same slots
  pub slot_same : (x : List ℕ) → live l x g ≡ live l h g → (v < 2048 → (a : ℕ) → a < l.slots → eqb (word l x a) (word_of l g v) ≡ eqb (word l h a) (word_of l g v)) → slot_of l x g v ≡ slot_of l h g v
  unfolding slot_of slot_holding holds
  slot_same x e f = ap (λ (b : Bool). cond (b && ltb v 2048) (first (holds l x (word_of l g v)) l.slots 0) l.slots) e ∙ go (live l h g) (ltb v 2048) refl
    where
      go : (a b : Bool) → ltb v 2048 ≡ b → cond (a && b) (first (holds l x (word_of l g v)) l.slots 0) l.slots ≡ cond (a && b) (first (holds l h (word_of l g v)) l.slots 0) l.slots
      go true true r = first_ext (holds l x (word_of l g v)) (holds l h (word_of l g v)) l.slots 0 (λ a i k. f (ltb-true _ _ r) a (omega arith))
      go true false r = refl
      go false b r = refl
