-- Two stores that are the same for a guest still are after another's call in one of them (`aside_same`), and after the values of the guest or of one
-- of its vCPUs are written in both (`written_same`). Assumes nothing.
use mathlib.Core.Path.{◌≡◌, refl, sym, ap, ◌∙◌, subst}
use mathlib.Core.Logic.{◌≢◌}
use mathlib.Core.Bool.{Bool, true, false}
use mathlib.Core.List.{List}
use Prim.Native.Nat.{ℕ, ◌+◌, ◌%◌, ◌≤◌, ◌<◌}
use native.Mathlib.Decide.{ℕ_discrete}
use lib.Dec.{eqb}
use lib.ListN.{length}
use borrow.Author.Tests.{ne_eqb}
use Rattle.octets.specs.Bytes.{put}
use Rattle.octets.proofs.Bytes.{length_put}
use Rattle.store.specs.declared.Layout.{Layout}
use Rattle.store.specs.Layout.{Sound, slot_bytes, slot_at}
use Rattle.store.specs.Header.{header, live, word, word_of, guest_of, is_taken, slot_of}
use Rattle.store.specs.Store.{well_formed}
use Rattle.store.proofs.Search.{no_bool}
use Rattle.store.proofs.Tests.{live_parts}
use Rattle.store.proofs.Marks.{slot_of_mark, taken_here}
use Rattle.store.proofs.Frame.{header_full, formed}
use Rattle.store.proofs.Edited.{mark_edited}
use Rattle.promises.specs.Mirror.{place_of, room_of, values_in}
use Rattle.promises.proofs.HandedOver.{handed, handed_header, handed_live, handed_mark_else, handed_formed}
use Rattle.promises.proofs.Slots.{word_guest, slot_guest, slots_differ, slot_same}
use Rattle.promises.proofs.Both.Places.{Other, place_from, place_room}
use Rattle.promises.proofs.Both.Values.{Beside, put_beside, put_here}
use Rattle.promises.proofs.Targets.{index_of}
use Rattle.promises.proofs.Isolated.Same.{Paired, present, absent, SameFor}
use Rattle.promises.proofs.Isolated.Aside.{Aside}

-- ---- a call on another guest, in the first
pub aside_same : (l m : Layout) (g : ℕ) (s u t : List ℕ) → SameFor l m g s t → Aside l g s u → well_formed l u ≡ true → SameFor l m g u t
aside_same l m g s u t f a good = record {
  formed = good;
  formed' = f.formed';
  alive = a.alive ∙ f.alive;
  alive' = f.alive';
  guest = f.guest ∙ sym (a.values true g (live_parts l (header l s) g f.alive) refl);
  vcpus = λ v. subst (λ (j : ℕ). Paired l m u t j (slot_of m (header m t) g v)) (sym (slots v)) (move v (f.vcpus v));
}
  where
    held : (v : ℕ) → v < 2048 → (x : ℕ) → x < l.slots → Dec (word l (header l u) x ≡ word_of l g v) → Dec (word l (header l s) x ≡ word_of l g v)
        → eqb (word l (header l u) x) (word_of l g v) ≡ eqb (word l (header l s) x) (word_of l g v)
    held v hv x k (yes e) d = ap (λ (w : ℕ). eqb w (word_of l g v)) (a.comes x k (ap (guest_of l) e ∙ word_guest l g v hv))
    held v hv x k (no n) (yes e) = ap (λ (w : ℕ). eqb w (word_of l g v)) (a.stays x k (ap (guest_of l) e ∙ word_guest l g v hv))
    held v hv x k (no n) (no o) = ne_eqb _ _ n ∙ sym (ne_eqb _ _ o)

    slots : (v : ℕ) → slot_of l (header l u) g v ≡ slot_of l (header l s) g v
    slots v = slot_same l (header l s) g v (header l u) a.alive (λ hv x k. held v hv x k (ℕ_discrete (word l (header l u) x) (word_of l g v)) (ℕ_discrete (word l (header l s) x) (word_of l g v)))

    move : (v : ℕ) {k : ℕ} → Paired l m s t (slot_of l (header l s) g v) k → Paired l m u t (slot_of l (header l s) g v) k
    move v (present j k w e) =
        let ours = slot_guest l (header l s) g v j in
        present j k (w ∙ sym (a.marks (slot_of l (header l s) g v) j ours)) (e ∙ sym (a.values false (slot_of l (header l s) g v) j ours))
    move v (absent j k) = absent j k

-- ---- its values written, of the guest or of one vCPU, perhaps with that vCPU's mark: what of it is left
pub record Written (l : Layout) (g : ℕ) (wide : Bool) (vcpu : ℕ) (s u : List ℕ) : Type 0 where
  pub formed : well_formed l u ≡ true
  pub lives : live l (header l u) g ≡ live l (header l s) g
  pub slots : (v : ℕ) → slot_of l (header l u) g v ≡ slot_of l (header l s) g v
  pub marks : (a : ℕ) → Other wide (index_of l s wide g vcpu) false a → is_taken l (header l u) a ≡ is_taken l (header l s) a
  pub beside : Beside l wide (index_of l s wide g vcpu) s u

module _ (l : Layout) (g : ℕ) (wide : Bool) (vcpu : ℕ) (s : List ℕ) where
  -- only values
  pub values_written : (u : List ℕ) → header l u ≡ header l s → well_formed l u ≡ true → Beside l wide (index_of l s wide g vcpu) s u → Written l g wide vcpu s u
  values_written u e good b = record {
    formed = good;
    lives = ap (λ (h : List ℕ). live l h g) e;
    slots = λ v. ap (λ (h : List ℕ). slot_of l h g v) e;
    marks = λ a n. ap (λ (h : List ℕ). is_taken l h a) e;
    beside = b;
  }

-- a hand-over
module _ (l : Layout) (so : Sound l) (g vcpu : ℕ) (s : List ℕ) (good : well_formed l s ≡ true) (k : slot_of l (header l s) g vcpu < l.slots) (w : List ℕ) (len : length w ≡ slot_bytes) (b : ℕ) where
  abbrev j : ℕ
  j = slot_of l (header l s) g vcpu

  abbrev u : List ℕ
  u = handed l s (slot_of l (header l s) g vcpu) w b

  long : length s ≡ l.size
  long = (formed l s good).long

  full : length (header l s) ≡ l.guests_at
  full = header_full l so s long

  -- the mark written leaves all values
  mark_beside : (x : Bool) (i : ℕ) → place_of l x i + room_of x ≤ l.size → values_in l u x i ≡ values_in l (put s (slot_at l j) w) x i
  mark_beside x i r = (mark_edited l so (put s (slot_at l j) w) (length_put s (slot_at l j) w ∙ long) j b k).behind (place_of l x i) (room_of x) (place_from l so x i) r

  pub handed_written : word l (header l s) (slot_of l (header l s) g vcpu) ≢ 0 → Written l g false vcpu s (handed l s (slot_of l (header l s) g vcpu) w b)
  handed_written n = record {
    formed = handed_formed l so s j k w b good n;
    lives = handed_live l so s j k w b long g;
    slots = λ v. ap (λ (h : List ℕ). slot_of l h g v) (handed_header l so s j k w b) ∙ slot_of_mark l so (header l s) full j k b g v;
    marks = λ a o. handed_mark_else l so s j k w b long a (λ z. o refl (sym z));
    beside = λ x i h o. mark_beside x i (place_room l so x i h) ∙ put_beside l so s long false j k w len x i h o;
  }

  pub handed_values : values_in l (handed l s (slot_of l (header l s) g vcpu) w b) false (slot_of l (header l s) g vcpu) ≡ w
  handed_values = mark_beside false j (place_room l so false j k) ∙ put_here l so s long false j k w len

  pub handed_mark : is_taken l (header l (handed l s (slot_of l (header l s) g vcpu) w b)) (slot_of l (header l s) g vcpu) ≡ eqb (b % 2) 1
  handed_mark = ap (λ (h : List ℕ). is_taken l h j) (handed_header l so s j k w b) ∙ taken_here l so (header l s) full j k b

-- ---- written in both, with the same values and mark
module _ (l m : Layout) (g : ℕ) (s t : List ℕ) (f : SameFor l m g s t) (vcpu : ℕ) (u v : List ℕ) where
  abbrev Here : Bool → Type 0
  Here wide = values_in m v wide (index_of m t wide g vcpu) ≡ values_in l u wide (index_of l s wide g vcpu)

  abbrev Mark : Bool → Type 0
  Mark wide = wide ≡ false → slot_of l (header l s) g vcpu < l.slots → is_taken m (header m v) (slot_of m (header m t) g vcpu) ≡ is_taken l (header l u) (slot_of l (header l s) g vcpu)

  same_guest : (wide : Bool) → Written l g wide vcpu s u → Written m g wide vcpu t v → Here wide → values_in m v true g ≡ values_in l u true g
  same_guest true a b here = here
  same_guest false a b here =
      b.beside true g (live_parts m (header m t) g f.alive') (λ z x. no_bool z) ∙ f.guest ∙ sym (a.beside true g (live_parts l (header l s) g f.alive) (λ z x. no_bool z))

  -- a vCPU that is not the one written
  pair_else : (wide : Bool) → Written l g wide vcpu s u → Written m g wide vcpu t v → (j k : ℕ) → Other wide (index_of l s wide g vcpu) false j → Other wide (index_of m t wide g vcpu) false k
      → j < l.slots → k < m.slots → is_taken m (header m t) k ≡ is_taken l (header l s) j → values_in m t false k ≡ values_in l s false j → Paired l m u v j k
  pair_else wide a b j k n n' h h' q e = present h h' (b.marks k n' ∙ q ∙ sym (a.marks j n)) (b.beside false k h' n' ∙ e ∙ sym (a.beside false j h n))

  pair : (wide : Bool) → Written l g wide vcpu s u → Written m g wide vcpu t v → Here wide → Mark wide → (w : ℕ) → Dec (w ≡ vcpu)
      → Paired l m s t (slot_of l (header l s) g w) (slot_of m (header m t) g w) → Paired l m u v (slot_of l (header l s) g w) (slot_of m (header m t) g w)
  pair wide a b here mark w d (absent j k) = absent j k
  pair true a b here mark w d (present j k q e) = pair_else true a b _ _ (λ z x. no_bool (sym z)) (λ z x. no_bool (sym z)) j k q e
  pair false a b here mark w (yes z) (present j k q e) =
      let j' = subst (λ (x : ℕ). slot_of l (header l s) g x < l.slots) z j in
      let k' = subst (λ (x : ℕ). slot_of m (header m t) g x < m.slots) z k in
      subst (λ (x : ℕ). Paired l m u v (slot_of l (header l s) g x) (slot_of m (header m t) g x)) (sym z) (present j' k' (mark refl j') here)
  pair false a b here mark w (no z) (present j k q e) =
      pair_else false a b _ _ (λ x. slots_differ l (header l s) g w vcpu j z) (λ x. slots_differ m (header m t) g w vcpu k z) j k q e

  pub written_same : (wide : Bool) → Written l g wide vcpu s u → Written m g wide vcpu t v → values_in m v wide (index_of m t wide g vcpu) ≡ values_in l u wide (index_of l s wide g vcpu)
      → (wide ≡ false → slot_of l (header l s) g vcpu < l.slots → is_taken m (header m v) (slot_of m (header m t) g vcpu) ≡ is_taken l (header l u) (slot_of l (header l s) g vcpu)) → SameFor l m g u v
  written_same wide a b here mark = record {
    formed = a.formed;
    formed' = b.formed;
    alive = a.lives ∙ f.alive;
    alive' = b.lives ∙ f.alive';
    guest = same_guest wide a b here;
    vcpus = λ w. subst (λ (x : ℕ). Paired l m u v x (slot_of m (header m v) g w)) (sym (a.slots w))
        (subst (λ (x : ℕ). Paired l m u v (slot_of l (header l s) g w) x) (sym (b.slots w)) (pair wide a b here mark w (ℕ_discrete w vcpu) (f.vcpus w)));
  }
