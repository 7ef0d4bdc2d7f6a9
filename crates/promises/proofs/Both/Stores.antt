-- Two stores that mirror each other still do after the same create, delete, capabilities, values or hand-over in both. Assumes nothing.
use mathlib.Core.Path.{◌≡◌, sym, ap, ap₂, ◌∙◌}
use mathlib.Core.Logic.{◌≢◌}
use mathlib.Core.Bool.{true, false}
use mathlib.Core.List.{List}
use Prim.Native.Nat.{ℕ, ◌≤◌, ◌<◌}
use native.Mathlib.Omega.{arith}
use native.Mathlib.Decide.{ℕ_discrete}
use lib.ListN.{length}
use Rattle.octets.specs.Bytes.{put, zeros, digits, left}
use Rattle.octets.proofs.Bytes.{length_put, length_zeros, read_other}
use Rattle.octets.proofs.Numbers.{length_digits}
use Rattle.store.specs.declared.Layout.{Layout}
use Rattle.store.specs.Layout.{Sound, guest_bytes, slot_bytes, guest_at, slot_at}
use Rattle.store.specs.Header.{header, outside, offered, capabilities_of, live, word, word_of, guest_of, is_taken}
use Rattle.store.specs.Store.{well_formed, put_capabilities, put_live, put_slot, with_guest, with_vcpu, without_guest, without_guests}
use Rattle.store.specs.Conversion.{Within, recoded}
use Rattle.store.proofs.Tests.{live_parts}
use Rattle.store.proofs.WordFields.{word_live, live_here, live_else}
use Rattle.store.proofs.Marks.{word_slot, word_slot_else, live_slot, taken_here}
use Rattle.store.proofs.Frame.{header_full, header_values, header_caps, header_live, formed}
use Rattle.store.proofs.Kept.{caps_word, caps_taken, caps_live, caps_said, guest_kept, caps_kept, delete_kept, delete_all_kept, deleted_live, deleted_else, deleted_slot, deleted_other, deleted_mark, guest_mark, vcpu_word, vcpu_header, vcpu_mark, vcpu_mark_else, delete_mark, delete_all_mark}
use Rattle.store.proofs.Edited.{live_edited, mark_edited, slot_edited, delete_edited, delete_all_edited}
use Rattle.store.proofs.Recoded.{recoded_zero, recoded_of, recoded_guest}
use Rattle.promises.specs.Mirror.{place_of, room_of, Mirrors}
use Rattle.promises.proofs.HandedOver.{handed, handed_header, handed_word, handed_live, handed_caps, handed_mark_else, handed_formed}
use Rattle.promises.proofs.Lowest.{all_dead, all_gone}
use Rattle.promises.proofs.Both.Places.{place_from}
use Rattle.promises.proofs.Both.Values.{Values, values_edited, values_put}

module _ (l m : Layout) (so : Sound l) (so' : Sound m) (within : Within l m) (s t : List ℕ) (mirror : Mirrors l m s t) where
  long : length s ≡ l.size
  long = (formed l s mirror.formed).long

  long' : length t ≡ m.size
  long' = (formed m t mirror.formed').long

  full : length (header l s) ≡ l.guests_at
  full = header_full l so s long

  full' : length (header m t) ≡ m.guests_at
  full' = header_full m so' t long'

  -- only values written
  pub behind_mirror : (u v : List ℕ) → header l u ≡ header l s → header m v ≡ header m t → well_formed l u ≡ true → well_formed m v ≡ true → Values l m u v → Mirrors l m u v
  behind_mirror u v e e' a b f = record {
    formed = a;
    formed' = b;
    capabilities = ap capabilities_of e' ∙ mirror.capabilities ∙ sym (ap capabilities_of e);
    lives = λ g. ap (λ (x : List ℕ). live m x g) e' ∙ mirror.lives g ∙ sym (ap (λ (x : List ℕ). live l x g) e);
    words = λ j k. ap (λ (x : List ℕ). word m x j) e' ∙ mirror.words j k ∙ sym (ap (λ (x : List ℕ). recoded l m (word l x j)) e);
    unused = λ j k n. ap (λ (x : List ℕ). word m x j) e' ∙ mirror.unused j k n;
    marks = λ j k. ap (λ (x : List ℕ). is_taken m x j) e' ∙ mirror.marks j k ∙ sym (ap (λ (x : List ℕ). is_taken l x j) e);
    values = f;
  }

  -- ---- create guest
  module _ (g : ℕ) (lo : 1 ≤ g) (hi : g ≤ l.guests) where
    hi' : g ≤ m.guests
    hi' = omega (arith, within.guests)

    guest_header : (n : Layout) → Sound n → (x : List ℕ) → g ≤ n.guests → header n (with_guest n x g) ≡ put_live (header n x) g 1
    unfolding with_guest
    guest_header n sn x h = header_values n sn (put_live x g 1) (guest_at n g) (zeros guest_bytes) (omega arith) ∙ header_live n sn x g 1 h

    guest_caps : (n : Layout) → Sound n → (x : List ℕ) → length x ≡ n.size → g ≤ n.guests → capabilities_of (header n (with_guest n x g)) ≡ capabilities_of (header n x)
    unfolding with_guest
    guest_caps n sn x e h = ap capabilities_of (header_values n sn (put_live x g 1) (guest_at n g) (zeros guest_bytes) (omega arith)) ∙ (live_edited n sn x e g 1 lo h).capabilities

    guest_values : Values l m (with_guest l s g) (with_guest m t g)
    unfolding with_guest
    guest_values =
        let a = live_edited l so s long g 1 lo hi in
        let b = live_edited m so' t long' g 1 lo hi' in
        values_put l m so so' within (put_live s g 1) (put_live t g 1) a.long b.long (values_edited l m within so so' s t _ _ mirror.values a b) true g (lo, hi) (zeros guest_bytes) (length_zeros guest_bytes)

    pub guest_mirror : Mirrors l m (with_guest l s g) (with_guest m t g)
    guest_mirror =
        let e = guest_header l so s hi in
        let e' = guest_header m so' t hi' in
        record {
          formed = guest_kept l so s mirror.formed g lo hi;
          formed' = guest_kept m so' t mirror.formed' g lo hi';
          capabilities = guest_caps m so' t long' hi' ∙ mirror.capabilities ∙ sym (guest_caps l so s long hi);
          lives = λ k. ap (λ (x : List ℕ). live m x k) e' ∙ at k (ℕ_discrete k g) ∙ sym (ap (λ (x : List ℕ). live l x k) e);
          words = λ j k. ap (λ (x : List ℕ). word m x j) e' ∙ word_live m so' (header m t) full' g lo hi' 1 j ∙ mirror.words j k
              ∙ sym (ap (λ (x : List ℕ). recoded l m (word l x j)) e ∙ ap (recoded l m) (word_live l so (header l s) full g lo hi 1 j));
          unused = λ j k n. ap (λ (x : List ℕ). word m x j) e' ∙ word_live m so' (header m t) full' g lo hi' 1 j ∙ mirror.unused j k n;
          marks = λ j k. guest_mark m so' t mirror.formed' j (omega (arith, within.slots)) g lo hi' ∙ mirror.marks j k ∙ sym (guest_mark l so s mirror.formed j k g lo hi);
          values = guest_values;
        }
      where
        at : (k : ℕ) → Dec (k ≡ g) → live m (put_live (header m t) g 1) k ≡ live l (put_live (header l s) g 1) k
        at k (yes q) =
            ap (live m (put_live (header m t) g 1)) q ∙ live_here m so' (header m t) full' g lo hi' 1
            ∙ sym (ap (live l (put_live (header l s) g 1)) q ∙ live_here l so (header l s) full g lo hi 1)
        at k (no q) = live_else m so' (header m t) full' g lo hi' 1 k q ∙ mirror.lives k ∙ sym (live_else l so (header l s) full g lo hi 1 k q)

  -- ---- create vCPU, in slot j of both
  module _ (j g v : ℕ) (hj : j < l.slots) (hi : g ≤ l.guests) (hv : v < 2048) where
    hj' : j < m.slots
    hj' = omega (arith, within.slots)

    vcpu_caps : (n : Layout) → Sound n → (x : List ℕ) → length x ≡ n.size → j < n.slots → capabilities_of (header n (with_vcpu n x j g v)) ≡ capabilities_of (header n x)
    unfolding with_vcpu
    vcpu_caps n sn x e h =
        ap capabilities_of (header_values n sn (put_slot n x j (word_of n g v)) (slot_at n j) (zeros slot_bytes) (omega (arith, sn.guests_fit))) ∙ (slot_edited n sn x e j (word_of n g v) h).capabilities

    vcpu_values : Values l m (with_vcpu l s j g v) (with_vcpu m t j g v)
    unfolding with_vcpu
    vcpu_values =
        let a = slot_edited l so s long j (word_of l g v) hj in
        let b = slot_edited m so' t long' j (word_of m g v) hj' in
        values_put l m so so' within (put_slot l s j (word_of l g v)) (put_slot m t j (word_of m g v)) a.long b.long (values_edited l m within so so' s t _ _ mirror.values a b) false j hj (zeros slot_bytes) (length_zeros slot_bytes)

    pub vcpu_mirror : well_formed l (with_vcpu l s j g v) ≡ true → well_formed m (with_vcpu m t j g v) ≡ true → Mirrors l m (with_vcpu l s j g v) (with_vcpu m t j g v)
    vcpu_mirror a b =
        let e = vcpu_header l so s mirror.formed j hj g v in
        let e' = vcpu_header m so' t mirror.formed' j hj' g v in
        record {
          formed = a;
          formed' = b;
          capabilities = vcpu_caps m so' t long' hj' ∙ mirror.capabilities ∙ sym (vcpu_caps l so s long hj);
          lives = λ k. ap (λ (x : List ℕ). live m x k) e' ∙ live_slot m so' (header m t) full' j hj' (word_of m g v) k ∙ mirror.lives k
              ∙ sym (ap (λ (x : List ℕ). live l x k) e ∙ live_slot l so (header l s) full j hj (word_of l g v) k);
          words = λ i k. ap (λ (x : List ℕ). word m x i) e' ∙ at i k (ℕ_discrete i j) ∙ sym (ap (λ (x : List ℕ). recoded l m (word l x i)) e);
          unused = λ i k n. ap (λ (x : List ℕ). word m x i) e' ∙ word_slot_else m so' (header m t) full' j hj' (word_of m g v) i n (omega arith) ∙ mirror.unused i k n;
          marks = λ i k. marks i k (ℕ_discrete i j);
          values = vcpu_values;
        }
      where
        at : (i : ℕ) → i < l.slots → Dec (i ≡ j) → word m (put_slot m (header m t) j (word_of m g v)) i ≡ recoded l m (word l (put_slot l (header l s) j (word_of l g v)) i)
        at i k (yes q) =
            ap (word m (put_slot m (header m t) j (word_of m g v))) q ∙ word_slot m so' (header m t) full' j hj' (word_of m g v) (vcpu_word m so' g v (omega (arith, within.guests)) hv)
            ∙ sym (ap (λ (n : ℕ). recoded l m (word l (put_slot l (header l s) j (word_of l g v)) n)) q ∙ ap (recoded l m) (word_slot l so (header l s) full j hj (word_of l g v) (vcpu_word l so g v hi hv)) ∙ recoded_of l m so so' g v)
        at i k (no q) =
            word_slot_else m so' (header m t) full' j hj' (word_of m g v) i (omega (arith, within.slots)) q ∙ mirror.words i k
            ∙ sym (ap (recoded l m) (word_slot_else l so (header l s) full j hj (word_of l g v) i k q))

        marks : (i : ℕ) → i < l.slots → Dec (i ≡ j) → is_taken m (header m (with_vcpu m t j g v)) i ≡ is_taken l (header l (with_vcpu l s j g v)) i
        marks i k (yes q) =
            ap (is_taken m (header m (with_vcpu m t j g v))) q ∙ vcpu_mark m so' t mirror.formed' j hj' g v
            ∙ sym (ap (is_taken l (header l (with_vcpu l s j g v))) q ∙ vcpu_mark l so s mirror.formed j hj g v)
        marks i k (no q) =
            vcpu_mark_else m so' t mirror.formed' i (omega (arith, within.slots)) j g v hj' q ∙ mirror.marks i k ∙ sym (vcpu_mark_else l so s mirror.formed i k j g v hj q)

  -- ---- delete guest
  module _ (g : ℕ) (lv : live l (header l s) g ≡ true) where
    lv' : live m (header m t) g ≡ true
    lv' = mirror.lives g ∙ lv

    pub delete_mirror : Mirrors l m (without_guest l s g) (without_guest m t g)
    delete_mirror =
        let p = live_parts l (header l s) g lv in
        let p' = live_parts m (header m t) g lv' in
        let a = delete_edited l so s long g p.0 p.1 in
        let b = delete_edited m so' t long' g p'.0 p'.1 in
        record {
          formed = delete_kept l so s mirror.formed g lv;
          formed' = delete_kept m so' t mirror.formed' g lv';
          capabilities = b.capabilities ∙ mirror.capabilities ∙ sym a.capabilities;
          lives = λ k. lives k (ℕ_discrete k g);
          words = λ j k. words j k (ℕ_discrete (guest_of l (word l (header l s) j)) g);
          unused = λ j k n. unused j k n (ℕ_discrete (guest_of m (word m (header m t) j)) g);
          marks = λ j k. marks j k (ℕ_discrete (guest_of l (word l (header l s) j)) g);
          values = values_edited l m within so so' s t _ _ mirror.values a b;
        }
      where
        lives : (k : ℕ) → Dec (k ≡ g) → live m (header m (without_guest m t g)) k ≡ live l (header l (without_guest l s g)) k
        lives k (yes q) =
            ap (live m (header m (without_guest m t g))) q ∙ deleted_live m so' t mirror.formed' g lv'
            ∙ sym (ap (live l (header l (without_guest l s g))) q ∙ deleted_live l so s mirror.formed g lv)
        lives k (no q) = deleted_else m so' t mirror.formed' g lv' k q ∙ mirror.lives k ∙ sym (deleted_else l so s mirror.formed g lv k q)

        -- the word names the same guest in both
        names : (j : ℕ) → j < l.slots → guest_of m (word m (header m t) j) ≡ guest_of l (word l (header l s) j)
        names j k = ap (guest_of m) (mirror.words j k) ∙ recoded_guest l m so so' (word l (header l s) j)

        words : (j : ℕ) → j < l.slots → Dec (guest_of l (word l (header l s) j) ≡ g) → word m (header m (without_guest m t g)) j ≡ recoded l m (word l (header l (without_guest l s g)) j)
        words j k (yes q) =
            deleted_slot m so' t mirror.formed' g lv' j (omega (arith, within.slots)) (names j k ∙ q)
            ∙ sym (ap (recoded l m) (deleted_slot l so s mirror.formed g lv j k q) ∙ recoded_zero l m so so')
        words j k (no q) =
            deleted_other m so' t mirror.formed' g lv' j (omega (arith, within.slots)) (λ z. q (sym (names j k) ∙ z)) ∙ mirror.words j k
            ∙ sym (ap (recoded l m) (deleted_other l so s mirror.formed g lv j k q))

        marks : (j : ℕ) → j < l.slots → Dec (guest_of l (word l (header l s) j) ≡ g) → is_taken m (header m (without_guest m t g)) j ≡ is_taken l (header l (without_guest l s g)) j
        marks j k (yes q) =
            delete_mark m so' t mirror.formed' j (omega (arith, within.slots)) g lv' (names j k ∙ q) ∙ sym (delete_mark l so s mirror.formed j k g lv q)
        marks j k (no q) =
            deleted_mark m so' t mirror.formed' g lv' j (omega (arith, within.slots)) (λ z. q (sym (names j k) ∙ z)) ∙ mirror.marks j k
            ∙ sym (deleted_mark l so s mirror.formed g lv j k q)

        unused : (j : ℕ) → l.slots ≤ j → j < m.slots → Dec (guest_of m (word m (header m t) j) ≡ g) → word m (header m (without_guest m t g)) j ≡ 0
        unused j k n (yes q) = deleted_slot m so' t mirror.formed' g lv' j n q
        unused j k n (no q) = deleted_other m so' t mirror.formed' g lv' j n q ∙ mirror.unused j k n

  -- ---- delete all guests
  pub delete_all_mirror : Mirrors l m (without_guests l s) (without_guests m t)
  delete_all_mirror =
      let a = delete_all_edited l so s long in
      let b = delete_all_edited m so' t long' in
      record {
        formed = delete_all_kept l so s mirror.formed;
        formed' = delete_all_kept m so' t mirror.formed';
        capabilities = b.capabilities ∙ mirror.capabilities ∙ sym a.capabilities;
        lives = λ g. all_dead m so' t mirror.formed' g ∙ sym (all_dead l so s mirror.formed g);
        marks = λ j k. delete_all_mark m so' t mirror.formed' j (omega (arith, within.slots)) ∙ sym (delete_all_mark l so s mirror.formed j k);
        words = λ j k. all_gone m so' t mirror.formed' j (omega (arith, within.slots)) ∙ sym (ap (recoded l m) (all_gone l so s mirror.formed j k) ∙ recoded_zero l m so so');
        unused = λ j k n. all_gone m so' t mirror.formed' j n;
        values = values_edited l m within so so' s t _ _ mirror.values a b;
      }

  -- ---- set capabilities
  caps_values : (c : ℕ) → Values l m (put_capabilities s c) (put_capabilities t c)
  unfolding put_capabilities
  caps_values c x k h =
      read_other t 0 (digits 8 c) (place_of m x k) (room_of x) (left (omega (arith, length_digits 8 c, so'.head, so'.words, place_from m so' x k))) ∙ mirror.values x k h
      ∙ sym (read_other s 0 (digits 8 c) (place_of l x k) (room_of x) (left (omega (arith, length_digits 8 c, so.head, so.words, place_from l so x k))))

  pub caps_mirror : (c : ℕ) → outside offered c ≡ 0 → Mirrors l m (put_capabilities s c) (put_capabilities t c)
  caps_mirror c ok =
      let e = header_caps l so s c in
      let e' = header_caps m so' t c in
      record {
        formed = caps_kept l so s mirror.formed c ok;
        formed' = caps_kept m so' t mirror.formed' c ok;
        capabilities = ap capabilities_of e' ∙ caps_said m so' (header m t) c full' ∙ sym (ap capabilities_of e ∙ caps_said l so (header l s) c full);
        lives = λ g. ap (λ (x : List ℕ). live m x g) e' ∙ caps_live m so' (header m t) c g ∙ mirror.lives g ∙ sym (ap (λ (x : List ℕ). live l x g) e ∙ caps_live l so (header l s) c g);
        words = λ j k. ap (λ (x : List ℕ). word m x j) e' ∙ caps_word m so' (header m t) c j ∙ mirror.words j k
            ∙ sym (ap (λ (x : List ℕ). recoded l m (word l x j)) e ∙ ap (recoded l m) (caps_word l so (header l s) c j));
        unused = λ j k n. ap (λ (x : List ℕ). word m x j) e' ∙ caps_word m so' (header m t) c j ∙ mirror.unused j k n;
        marks = λ j k. ap (λ (x : List ℕ). is_taken m x j) e' ∙ caps_taken m so' (header m t) c j ∙ mirror.marks j k ∙ sym (ap (λ (x : List ℕ). is_taken l x j) e ∙ caps_taken l so (header l s) c j);
        values = caps_values c;
      }

  -- ---- a hand-over: other values in slot j, and its mark
  module _ (j : ℕ) (hj : j < l.slots) (w : List ℕ) (len : length w ≡ slot_bytes) (b : ℕ) where
    abbrev u : List ℕ
    u = handed l s j w b

    abbrev v : List ℕ
    v = handed m t j w b

    below : j < m.slots
    below = omega (arith, within.slots)

    handed_values : Values l m u v
    handed_values =
        let f = values_put l m so so' within s t long long' mirror.values false j hj w len in
        values_edited l m within so so' (put s (slot_at l j) w) (put t (slot_at m j) w) u v f
        (mark_edited l so (put s (slot_at l j) w) (length_put s (slot_at l j) w ∙ long) j b hj)
        (mark_edited m so' (put t (slot_at m j) w) (length_put t (slot_at m j) w ∙ long') j b below)

    handed_marks : (i : ℕ) → i < l.slots → Dec (i ≡ j) → is_taken m (header m v) i ≡ is_taken l (header l u) i
    handed_marks i k (yes q) =
        ap₂ (is_taken m) (handed_header m so' t j below w b) q ∙ taken_here m so' (header m t) full' j below b
        ∙ sym (ap₂ (is_taken l) (handed_header l so s j hj w b) q ∙ taken_here l so (header l s) full j hj b)
    handed_marks i k (no q) = handed_mark_else m so' t j below w b long' i q ∙ mirror.marks i k ∙ sym (handed_mark_else l so s j hj w b long i q)

    pub handed_mirror : word l (header l s) j ≢ 0 → word m (header m t) j ≢ 0 → Mirrors l m (handed l s j w b) (handed m t j w b)
    handed_mirror n n' = record {
      formed = handed_formed l so s j hj w b mirror.formed n;
      formed' = handed_formed m so' t j below w b mirror.formed' n';
      capabilities = handed_caps m so' t j below w b long' ∙ mirror.capabilities ∙ sym (handed_caps l so s j hj w b long);
      lives = λ g. handed_live m so' t j below w b long' g ∙ mirror.lives g ∙ sym (handed_live l so s j hj w b long g);
      words = λ i k. handed_word m so' t j below w b long' i (omega (arith, within.slots)) ∙ mirror.words i k
          ∙ sym (ap (recoded l m) (handed_word l so s j hj w b long i k));
      unused = λ i k o. handed_word m so' t j below w b long' i o ∙ mirror.unused i k o;
      marks = λ i k. handed_marks i k (ℕ_discrete i j);
      values = handed_values;
    }
