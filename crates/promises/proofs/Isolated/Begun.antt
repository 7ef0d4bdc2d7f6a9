-- Two stores in which a guest is new are the same for it (`new_same`), and so they are when its vCPU is created in both (`made_same`). Assumes nothing.
use mathlib.Core.Path.{◌≡◌, refl, sym, ap, ◌∙◌, subst}
use mathlib.Core.Logic.{◌≢◌}
use mathlib.Core.Bool.{true, false}
use mathlib.Core.List.{List}
use Prim.Native.Nat.{ℕ, ◌≤◌, ◌<◌}
use native.Mathlib.Omega.{arith}
use native.Mathlib.Decide.{ℕ_discrete}
use lib.Dec.{eqb}
use lib.ListN.{length}
use borrow.Author.Tests.{ne_eqb}
use Rattle.octets.specs.Bytes.{zeros}
use Rattle.octets.proofs.Bytes.{length_zeros}
use Rattle.store.specs.declared.Layout.{Layout}
use Rattle.store.specs.Layout.{Sound, guest_bytes, slot_bytes, guest_at}
use Rattle.store.specs.Header.{header, live, word, word_of, guest_of, is_taken, slot_of, free_slot}
use Rattle.store.specs.Store.{well_formed, put_live, put_slot, with_guest, with_vcpu}
use Rattle.store.proofs.Search.{no_bool}
use Rattle.store.proofs.Tests.{live_parts}
use Rattle.store.proofs.WordFields.{word_live, live_here}
use Rattle.store.proofs.Marks.{word_slot, word_slot_else, live_slot}
use Rattle.store.proofs.Frame.{header_full, header_values, header_live, formed}
use Rattle.store.proofs.Kept.{words_are, guest_kept, vcpu_kept, vcpu_mark, vcpu_mark_else}
use Rattle.store.proofs.Edited.{Edited, live_edited, slot_edited}
use Rattle.admission.specs.Refusals.{Outcome}
use Rattle.l0.specs.Calls.{CreateGuest, outcome}
use Rattle.promises.specs.History.{registers}
use Rattle.promises.specs.Mirror.{place_of, room_of, values_in}
use Rattle.promises.proofs.HandedOver.{word_used, slot_placed}
use Rattle.promises.proofs.Told.{zero_none}
use Rattle.promises.proofs.Lowest.{guest_made, guest_told, lowest_guest, VcpuMade, free_slot_lem, new_word, made_header}
use Rattle.promises.proofs.Apart.{placed_slot}
use Rattle.promises.proofs.Slots.{word_guest, word_vcpu, slot_none, slot_same}
use Rattle.promises.proofs.Both.Places.{place_from, place_room}
use Rattle.promises.proofs.Both.Values.{Beside, put_beside, put_here}
use Rattle.promises.proofs.Isolated.Same.{Paired, present, absent, SameFor}

-- ---- a guest that is new: no word of a well-formed store names one that is not live
pub record New (l : Layout) (g : ℕ) (u : List ℕ) : Type 0 where
  pub formed : well_formed l u ≡ true
  pub alive : live l (header l u) g ≡ true
  pub guest : values_in l u true g ≡ zeros guest_bytes
  pub vcpus : (v : ℕ) → slot_of l (header l u) g v ≡ l.slots

guest_new : (l : Layout) → Sound l → (g : ℕ) (s : List ℕ) → well_formed l s ≡ true → 1 ≤ g → g ≤ l.guests → live l (header l s) g ≡ false → New l g (with_guest l s g)
unfolding with_guest
guest_new l so g s good lo hi dead =
    let d = live_edited l so s long g 1 lo hi in
    record {
      formed = guest_kept l so s good g lo hi;
      alive = ap (λ (h : List ℕ). live l h g) e ∙ live_here l so (header l s) full g lo hi 1;
      guest = put_here l so (put_live s g 1) d.long true g (lo, hi) (zeros guest_bytes) (length_zeros guest_bytes);
      vcpus = λ v. slot_none l (header l (with_guest l s g)) g v (λ hv a k z. names a k v hv (sym (word_live l so (header l s) full g lo hi 1 a) ∙ sym (ap (λ (h : List ℕ). word l h a) e) ∙ z));
    }
  where
    long : length s ≡ l.size
    long = (formed l s good).long

    full : length (header l s) ≡ l.guests_at
    full = header_full l so s long

    e : header l (with_guest l s g) ≡ put_live (header l s) g 1
    e = header_values l so (put_live s g 1) (guest_at l g) (zeros guest_bytes) (omega arith) ∙ header_live l so s g 1 hi

    names : (a : ℕ) → a < l.slots → (v : ℕ) → v < 2048 → word l (header l s) a ≢ word_of l g v
    names a k v hv z =
        no_bool (sym dead ∙ ap (live l (header l s)) (sym (ap (guest_of l) z ∙ word_guest l g v hv)) ∙ ((words_are l (header l s) (formed l s good).words).good a k (λ n. word_used l so g v (sym z ∙ n))).1)

-- by an accepted create, the guest that it tells
pub created_new : (l : Layout) → Sound l → (s : List ℕ) → well_formed l s ≡ true → (flags token : ℕ) → (registers l s (CreateGuest flags token)).r3 ≡ 0
    → New l (registers l s (CreateGuest flags token)).r4 (outcome l s (CreateGuest flags token)).store
unfolding outcome
created_new l so s good flags token e =
    let a = guest_made l s flags token (zero_none l s (CreateGuest flags token) e) in
    let r = lowest_guest l s flags token e in
    subst (New l (registers l s (CreateGuest flags token)).r4) (sym (ap (λ (o : Outcome). o.store) a.is ∙ ap (with_guest l s) (sym (guest_told l s flags token a))))
    (guest_new l so (registers l s (CreateGuest flags token)).r4 s good r.from r.upto r.free)

pub new_same : (l m : Layout) (g : ℕ) (s t : List ℕ) → New l g s → New m g t → SameFor l m g s t
new_same l m g s t a b =
    record { formed = a.formed; formed' = b.formed; alive = a.alive; alive' = b.alive; guest = b.guest ∙ sym a.guest; vcpus = λ v. absent (a.vcpus v) (b.vcpus v) }

-- ---- a vCPU that is new: the free slot is its, and the others' slots are as they were
module _ (l : Layout) (so : Sound l) (s : List ℕ) (flags g v : ℕ) (made : VcpuMade l s flags g v) where
  abbrev j : ℕ
  j = free_slot l (header l s)

  abbrev u : List ℕ
  u = with_vcpu l s j g v

  abbrev w : ℕ
  w = word_of l g v

  long : length s ≡ l.size
  long = (formed l s made.good).long

  full : length (header l s) ≡ l.guests_at
  full = header_full l so s long

  e : header l u ≡ put_slot l (header l s) j w
  e = made_header l so s flags g v made

  added_formed : well_formed l u ≡ true
  added_formed = vcpu_kept l so s made.good g v made.lives made.small made.room made.absent

  same_live : live l (header l u) g ≡ live l (header l s) g
  same_live = ap (λ (h : List ℕ). live l h g) e ∙ live_slot l so (header l s) full j made.room w g

  added_alive : live l (header l u) g ≡ true
  added_alive = same_live ∙ made.lives

  word_here : word l (header l u) j ≡ w
  word_here = ap (λ (h : List ℕ). word l h j) e ∙ word_slot l so (header l s) full j made.room w (new_word l so s flags g v made)

  added_here : slot_of l (header l u) g v ≡ j
  added_here = placed_slot l so u added_formed g v j made.room (record { alive = added_alive; low = made.small; named = word_here })

  edited : Edited l s (put_slot l s j w)
  edited = slot_edited l so s long j w made.room

  added_zeros : values_in l u false j ≡ zeros slot_bytes
  unfolding with_vcpu
  added_zeros = put_here l so (put_slot l s j w) edited.long false j made.room (zeros slot_bytes) (length_zeros slot_bytes)

  added_beside : Beside l false j s u
  unfolding with_vcpu
  added_beside x k h n =
      put_beside l so (put_slot l s j w) edited.long false j made.room (zeros slot_bytes) (length_zeros slot_bytes) x k h n
      ∙ edited.behind (place_of l x k) (room_of x) (place_from l so x k) (place_room l so x k h)

  added_mark : is_taken l (header l u) j ≡ false
  added_mark = vcpu_mark l so s made.good j made.room g v

  added_mark_else : (a : ℕ) → a < l.slots → j ≢ a → is_taken l (header l u) a ≡ is_taken l (header l s) a
  added_mark_else a k n = vcpu_mark_else l so s made.good a k j g v made.room (λ z. n (sym z))

  added_others : (x : ℕ) → x ≢ v → slot_of l (header l u) g x ≡ slot_of l (header l s) g x
  added_others x n = slot_same l (header l s) g x (header l u) same_live (λ hx a k. at hx a k (ℕ_discrete a j))
    where
      at : x < 2048 → (a : ℕ) → a < l.slots → Dec (a ≡ j) → eqb (word l (header l u) a) (word_of l g x) ≡ eqb (word l (header l s) a) (word_of l g x)
      at hx a k (yes z) =
          ne_eqb _ _ (λ q. n (word_vcpu l g x g v hx made.small (sym q ∙ ap (word l (header l u)) z ∙ word_here)).same_id)
          ∙ sym (ne_eqb _ _ (λ q. word_used l so g x (sym q ∙ ap (word l (header l s)) z ∙ (free_slot_lem l s made.room).free)))
      at hx a k (no z) = ap (λ (y : ℕ). eqb y (word_of l g x)) (ap (λ (h : List ℕ). word l h a) e ∙ word_slot_else l so (header l s) full j made.room w a k z)

  -- the slot was no vCPU's
  added_apart : (x : ℕ) → slot_of l (header l s) g x < l.slots → j ≢ slot_of l (header l s) g x
  added_apart x k z =
      word_used l so g x (sym (slot_placed l (header l s) g x (slot_of l (header l s) g x) refl k).named ∙ ap (word l (header l s)) (sym z) ∙ (free_slot_lem l s made.room).free)

pub made_same : (l m : Layout) → Sound l → Sound m → (g : ℕ) (s t : List ℕ) → SameFor l m g s t → (flags v : ℕ) → VcpuMade l s flags g v → VcpuMade m t flags g v
    → SameFor l m g (with_vcpu l s (free_slot l (header l s)) g v) (with_vcpu m t (free_slot m (header m t)) g v)
made_same l m so so' g s t f flags v a b = record {
  formed = added_formed l so s flags g v a;
  formed' = added_formed m so' t flags g v b;
  alive = added_alive l so s flags g v a;
  alive' = added_alive m so' t flags g v b;
  guest = added_beside m so' t flags g v b true g (live_parts m (header m t) g f.alive') (λ z x. no_bool z) ∙ f.guest
      ∙ sym (added_beside l so s flags g v a true g (live_parts l (header l s) g f.alive) (λ z x. no_bool z));
  vcpus = λ w. at w (ℕ_discrete w v);
}
  where
    x : List ℕ
    x = with_vcpu l s (free_slot l (header l s)) g v

    y : List ℕ
    y = with_vcpu m t (free_slot m (header m t)) g v

    old : (w : ℕ) → Paired l m s t (slot_of l (header l s) g w) (slot_of m (header m t) g w) → Paired l m x y (slot_of l (header l s) g w) (slot_of m (header m t) g w)
    old w (absent j k) = absent j k
    old w (present j k q e) =
        let n = added_apart l so s flags g v a w j in
        let n' = added_apart m so' t flags g v b w k in
        present j k (added_mark_else m so' t flags g v b _ k n' ∙ q ∙ sym (added_mark_else l so s flags g v a _ j n))
        (added_beside m so' t flags g v b false (slot_of m (header m t) g w) k (λ z. n') ∙ e ∙ sym (added_beside l so s flags g v a false (slot_of l (header l s) g w) j (λ z. n)))

    at : (w : ℕ) → Dec (w ≡ v) → Paired l m x y (slot_of l (header l x) g w) (slot_of m (header m y) g w)
    at w (yes z) =
        let p : slot_of l (header l x) g w ≡ free_slot l (header l s) = ap (slot_of l (header l x) g) z ∙ added_here l so s flags g v a in
        let q : slot_of m (header m y) g w ≡ free_slot m (header m t) = ap (slot_of m (header m y) g) z ∙ added_here m so' t flags g v b in
        subst (λ (j : ℕ). Paired l m x y j (slot_of m (header m y) g w)) (sym p)
        (subst (λ (k : ℕ). Paired l m x y (free_slot l (header l s)) k) (sym q)
        (present a.room b.room (added_mark m so' t flags g v b ∙ sym (added_mark l so s flags g v a)) (added_zeros m so' t flags g v b ∙ sym (added_zeros l so s flags g v a))))
    at w (no z) =
        subst (λ (j : ℕ). Paired l m x y j (slot_of m (header m y) g w)) (sym (added_others l so s flags g v a w z))
        (subst (λ (k : ℕ). Paired l m x y (slot_of l (header l s) g w) k) (sym (added_others m so' t flags g v b w z)) (old w (f.vcpus w)))
