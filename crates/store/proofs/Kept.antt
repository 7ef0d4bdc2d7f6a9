-- THEOREM `well_formed_kept`, for what create, delete and set capabilities make of a store. Assumes nothing.
use mathlib.Core.Path.{◌≡◌, refl, sym, ap, ◌∙◌, subst}
use mathlib.Core.Logic.{◌≢◌}
use mathlib.Core.Bool.{Bool, true, false, not, ◌&&◌, cond}
use mathlib.Core.List.{List}
use Prim.Native.Nat.{ℕ, zero, suc, ◌+◌, ◌-◌, ◌*◌, ◌%◌, ◌^◌, ◌≤◌, ◌<◌}
use native.Mathlib.Omega.{arith}
use native.Mathlib.Nat.{not-suc-le-zero}
use native.Mathlib.Decide.{ℕ_discrete}
use lib.Bits.{and_mod}
use lib.Dec.{eqb, leb}
use lib.ListN.{length}
use borrow.Author.Tests.{eq-eqb, ne_eqb, le-leb, lt-ltb, leb-true, eqb-true, eqb-false, not-true}
use Rattle.octets.specs.Bytes.{digits, zeros, left}
use Rattle.octets.specs.Bits.{bit, bits}
use Rattle.octets.proofs.Bytes.{length_put}
use Rattle.octets.proofs.Numbers.{be_digits, length_digits}
use Rattle.octets.proofs.Bits.{length_put_bits, bits_beside, bits_one}
use Rattle.store.specs.declared.Layout.{Layout}
use Rattle.store.specs.Layout.{Sound, guest_bytes, slot_bytes, guest_at, slot_at}
use Rattle.store.specs.Search.{first}
use Rattle.store.specs.Header.{header, outside, offered, capabilities_of, live, word_at, word, word_of, is_used, guest_of, is_taken, holds, lacks, alone, slot_good, head_good, words_good, slot_holding, slot_of, free_slot}
use Rattle.store.specs.Store.{well_formed, put_capabilities, put_live, put_word, put_taken, put_slot, with_guest, with_vcpu, drop_word, drop_words, without_guest, no_words, no_guests, without_guests}
use Rattle.store.proofs.Search.{no_bool, both, every_all, every_at, first_none}
use Rattle.store.proofs.Tests.{live_parts}
use Rattle.store.proofs.WordFields.{word_same, word_other, live_same, taken_same, word_live, taken_live, head_live, live_here, live_else}
use Rattle.store.proofs.Marks.{length_mark, word_mark, live_mark, head_mark, taken_here, taken_else, word_slot, word_slot_else, live_slot, head_slot, taken_slot, taken_slot_else}
use Rattle.store.proofs.Frame.{header_full, header_values, header_caps, header_live, header_mark, header_slot, Formed, formed, well_formed_lem, formed_values}
use Rattle.store.proofs.Beside.{mark_long, slot_long}

-- ---- the words as facts
pub record Words (l : Layout) (h : List ℕ) : Type 0 where
  pub good : (a : ℕ) → a < l.slots → word l h a ≢ 0 → (l.ids * 2048 ≤ word l h a) × (live l h (guest_of l (word l h a)) ≡ true)
  pub sole : (a b : ℕ) → a < l.slots → b < a → word l h a ≢ 0 → word l h b ≢ word l h a
  pub idle : (a : ℕ) → a < l.slots → word l h a ≡ 0 → is_taken l h a ≡ false

not_eqb : (x y : ℕ) → not (eqb x y) ≡ true → x ≢ y
not_eqb x y h e = no_bool (sym (ap not (eq-eqb x y e)) ∙ h)

pub words_are : (l : Layout) (h : List ℕ) → words_good l h ≡ true → Words l h
unfolding words_good slot_good is_used alone lacks
words_are l h t = record { good = λ a k n. (at a k n).0; sole = λ a b k m n. (at a k n).1 b m; idle = idle }
  where
    idle : (a : ℕ) → a < l.slots → word l h a ≡ 0 → is_taken l h a ≡ false
    idle a k z =
        not-true _ (ap (λ (b : Bool). cond b (not (is_taken l h a)) (leb (l.ids * 2048) (word l h a) && (live l h (guest_of l (word l h a)) && alone l h (word l h a) a))) (sym (eq-eqb _ _ z))
        ∙ every_at (slot_good l h) l.slots 0 t a (omega arith) (omega arith))

    at : (a : ℕ) → a < l.slots → word l h a ≢ 0 → ((l.ids * 2048 ≤ word l h a) × (live l h (guest_of l (word l h a)) ≡ true)) × ((b : ℕ) → b < a → word l h b ≢ word l h a)
    at a k n =
        let q : (leb (l.ids * 2048) (word l h a) && (live l h (guest_of l (word l h a)) && alone l h (word l h a) a)) ≡ true =
        ap (λ (b : Bool). cond b (not (is_taken l h a)) (leb (l.ids * 2048) (word l h a) && (live l h (guest_of l (word l h a)) && alone l h (word l h a) a))) (sym (ne_eqb _ _ n))
        ∙ every_at (slot_good l h) l.slots 0 t a (omega arith) (omega arith) in
        let u = both (leb (l.ids * 2048) (word l h a)) (live l h (guest_of l (word l h a)) && alone l h (word l h a) a) q in
        let v = both (live l h (guest_of l (word l h a))) (alone l h (word l h a) a) u.1 in
        ((leb-true _ _ u.0, v.0), λ b m. not_eqb _ _ (every_at (lacks l h (word l h a)) a 0 v.1 b (omega arith) (omega arith)))

pub words_good_lem : (l : Layout) (h : List ℕ) → Words l h → words_good l h ≡ true
unfolding words_good slot_good is_used alone lacks
words_good_lem l h f = every_all (slot_good l h) l.slots 0 (λ a i k. at a (omega arith) (ℕ_discrete (word l h a) 0))
  where
    at : (a : ℕ) → a < l.slots → Dec (word l h a ≡ 0) → slot_good l h a ≡ true
    at a k (yes z) = simp (eq-eqb _ _ z, f.idle a k z)
    at a k (no n) =
        simp (ne_eqb _ _ n, le-leb _ _ (f.good a k n).0, (f.good a k n).1)
        (every_all (lacks l h (word l h a)) a 0 (λ b i m. ap not (ne_eqb _ _ (f.sole a b k (omega arith) n))))

-- a word that is zero, of a slot with no mark, or good and in no other slot, may be written
module _ (l : Layout) (so : Sound l) (h : List ℕ) (full : length h ≡ l.guests_at) (j : ℕ) (hj : j < l.slots) (w : ℕ) (hw : w < 4096 * l.ids) where
  pub words_put : Words l h → (w ≢ 0 → (l.ids * 2048 ≤ w) × (live l h (guest_of l w) ≡ true)) → (w ≢ 0 → (a : ℕ) → a < l.slots → a ≢ j → word l h a ≢ w)
      → (w ≡ 0 → is_taken l h j ≡ false) → Words l (put_word l h j w)
  words_put f g u i = record { idle = λ a la z. taken_same l so h full j hj w a la ∙ idles a la (ℕ_discrete a j) z; good = λ a la. goods a la (ℕ_discrete a j); sole = λ a b la m. soles a b la m (ℕ_discrete a j) (ℕ_discrete b j) }
    where
      t : List ℕ
      t = put_word l h j w

      same : word l t j ≡ w
      same = word_same l so h full j hj w hw

      other : (a : ℕ) → a ≢ j → word l t a ≡ word l h a
      other = word_other l so h full j hj w

      idles : (a : ℕ) → a < l.slots → Dec (a ≡ j) → word l t a ≡ 0 → is_taken l h a ≡ false
      idles a la (yes p) z = ap (is_taken l h) p ∙ i (sym same ∙ ap (word l t) (sym p) ∙ z)
      idles a la (no m) z = f.idle a la (sym (other a m) ∙ z)

      good_at : (x y : ℕ) → x ≡ y → (l.ids * 2048 ≤ y) × (live l h (guest_of l y) ≡ true) → (l.ids * 2048 ≤ x) × (live l t (guest_of l x) ≡ true)
      good_at x y e p = (omega (arith, p.0, e), live_same l so h full j hj w (guest_of l x) ∙ ap (λ (z : ℕ). live l h (guest_of l z)) e ∙ p.1)

      goods : (a : ℕ) → a < l.slots → Dec (a ≡ j) → word l t a ≢ 0 → (l.ids * 2048 ≤ word l t a) × (live l t (guest_of l (word l t a)) ≡ true)
      goods a la (yes p) n = let e : word l t a ≡ w = ap (word l t) p ∙ same in good_at _ w e (g (λ z. n (e ∙ z)))
      goods a la (no m) n = let e = other a m in good_at _ (word l h a) e (f.good a la (λ z. n (e ∙ z)))

      soles : (a b : ℕ) → a < l.slots → b < a → Dec (a ≡ j) → Dec (b ≡ j) → word l t a ≢ 0 → word l t b ≢ word l t a
      soles a b la m (yes p) (yes q) n e = absurd (omega arith)
      soles a b la m (yes p) (no k) n e =
          let ea : word l t a ≡ w = ap (word l t) p ∙ same in
          u (λ z. n (ea ∙ z)) b (omega arith) k (sym (other b k) ∙ e ∙ ea)
      soles a b la m (no k) (yes q) n e =
          let eb : word l t b ≡ w = ap (word l t) q ∙ same in
          u (λ z. n (sym e ∙ eb ∙ z)) a la k (sym (other a k) ∙ sym e ∙ eb)
      soles a b la m (no k) (no k') n e = f.sole a b la m (λ z. n (other a k ∙ z)) (sym (other b k') ∙ e ∙ other a k)

-- a mark may be set on a used slot, and cleared on any
module _ (l : Layout) (so : Sound l) (h : List ℕ) (full : length h ≡ l.guests_at) (j : ℕ) (hj : j < l.slots) where
  pub words_mark : (b : ℕ) → Words l h → (word l h j ≡ 0 → eqb (b % 2) 1 ≡ false) → Words l (put_taken l h j b)
  words_mark b f i = record {
    good = λ a la n. let e = same a la in let p = f.good a la (λ z. n (e ∙ z)) in
        (omega (arith, p.0, e), live_mark l so h full j hj b (guest_of l (word l t a)) ∙ ap (λ (w : ℕ). live l h (guest_of l w)) e ∙ p.1);
    sole = λ a c la m n q. f.sole a c la m (λ z. n (same a la ∙ z)) (sym (same c (omega arith)) ∙ q ∙ same a la);
    idle = λ a la z. idles a la (ℕ_discrete a j) (sym (same a la) ∙ z);
  }
    where
      t : List ℕ
      t = put_taken l h j b

      same : (a : ℕ) → a < l.slots → word l t a ≡ word l h a
      same = word_mark l so h full j hj b

      idles : (a : ℕ) → a < l.slots → Dec (a ≡ j) → word l h a ≡ 0 → is_taken l t a ≡ false
      idles a la (yes p) z = ap (is_taken l t) p ∙ taken_here l so h full j hj b ∙ i (ap (word l h) (sym p) ∙ z)
      idles a la (no m) z = taken_else l so h full j hj b a m ∙ f.idle a la z

  -- so a word that is zero, or good and in no other slot, may be written where the mark is cleared
  pub words_slot : (w : ℕ) → w < 4096 * l.ids → Words l h → (w ≢ 0 → (l.ids * 2048 ≤ w) × (live l h (guest_of l w) ≡ true))
      → (w ≢ 0 → (a : ℕ) → a < l.slots → a ≢ j → word l h a ≢ w) → Words l (put_slot l h j w)
  unfolding put_slot
  words_slot w hw f g u =
      words_put l so (put_taken l h j 0) (length_mark l so h full j hj 0 ∙ full) j hj w hw (words_mark 0 f (λ z. refl))
      (λ n. ((g n).0, live_mark l so h full j hj 0 (guest_of l w) ∙ (g n).1))
      (λ n a la m e. u n a la m (sym (word_mark l so h full j hj 0 a la) ∙ e)) (λ z. taken_here l so h full j hj 0)

-- every used word still names a live guest, so a live bit may be written
module _ (l : Layout) (so : Sound l) (h : List ℕ) (full : length h ≡ l.guests_at) (g : ℕ) (lo : 1 ≤ g) (hi : g ≤ l.guests) (b : ℕ) where
  pub words_live : Words l h → ((a : ℕ) → a < l.slots → word l h a ≢ 0 → live l h (guest_of l (word l h a)) ≡ true → live l (put_live h g b) (guest_of l (word l h a)) ≡ true)
      → Words l (put_live h g b)
  words_live f k = record {
    good = λ a la n. let e = word_live l so h full g lo hi b a in let p = f.good a la (λ z. n (e ∙ z)) in
        (omega (arith, p.0, e), ap (λ (w : ℕ). live l (put_live h g b) (guest_of l w)) e ∙ k a la (λ z. n (e ∙ z)) p.1);
    sole = λ a c la m n q. f.sole a c la m (λ z. n (word_live l so h full g lo hi b a ∙ z)) (sym (word_live l so h full g lo hi b c) ∙ q ∙ word_live l so h full g lo hi b a);
    idle = λ a la z. taken_live l so h full g lo hi b a ∙ f.idle a la (sym (word_live l so h full g lo hi b a) ∙ z);
  }

pub live_long : (s : List ℕ) (g b : ℕ) → length (put_live s g b) ≡ length s
unfolding put_live
live_long s g b = length_put_bits s (63 + g) 1 b

-- ---- capabilities written
pub caps_length : (s : List ℕ) (c : ℕ) → length (put_capabilities s c) ≡ length s
unfolding put_capabilities
caps_length s c = length_put s 0 (digits 8 c)

module _ (l : Layout) (so : Sound l) (h : List ℕ) where
  caps_bits : (c a n : ℕ) → 64 ≤ a → bits (put_capabilities h c) a n ≡ bits h a n
  unfolding put_capabilities
  caps_bits c a n k = bits_beside h 0 (digits 8 c) a n (left (omega (arith, length_digits 8 c)))

  pub caps_word : (c a : ℕ) → word l (put_capabilities h c) a ≡ word l h a
  unfolding word
  caps_word c a = caps_bits c (word_at l a) l.width (omega (arith, so.head))

  pub caps_taken : (c a : ℕ) → is_taken l (put_capabilities h c) a ≡ is_taken l h a
  unfolding is_taken
  caps_taken c a =
      ap (λ (x : ℕ). eqb x 1)
      (sym (bits_one (put_capabilities h c) (8 * l.taken_at + a)) ∙ caps_bits c (8 * l.taken_at + a) 1 (omega (arith, so.marks_head)) ∙ bits_one h (8 * l.taken_at + a))

  pub caps_live : (c g : ℕ) → live l (put_capabilities h c) g ≡ live l h g
  unfolding live
  caps_live c g = go (leb 1 g) refl
    where
      go : (b : Bool) → leb 1 g ≡ b → ((b && leb g l.guests) && eqb (bit (put_capabilities h c) (63 + g)) 1) ≡ ((b && leb g l.guests) && eqb (bit h (63 + g)) 1)
      go false e = refl
      go true e = ap (λ (x : ℕ). leb g l.guests && eqb x 1) (sym (bits_one (put_capabilities h c) (63 + g)) ∙ caps_bits c (63 + g) 1 (omega (arith, leb-true 1 g e)) ∙ bits_one h (63 + g))

  pub caps_said : (c : ℕ) → length h ≡ l.guests_at → capabilities_of (put_capabilities h c) ≡ c % 2 ^ 64
  unfolding capabilities_of put_capabilities
  caps_said c full = be_digits h 0 8 c (omega (arith, full, so.head, so.words))

  caps_head : length h ≡ l.guests_at → (c : ℕ) → outside offered c ≡ 0 → head_good l h ≡ true → head_good l (put_capabilities h c) ≡ true
  unfolding head_good
  caps_head full c ok g =
      let p = both (eqb (outside offered (capabilities_of h)) 0) (eqb (bits h (64 + l.guests) l.zeros) 0) g in
      let q : outside offered (capabilities_of (put_capabilities h c)) ≡ 0 =
      ap (outside offered) (caps_said c full) ∙ sym (and_mod c (2 ^ 64 - 1 - offered) 64) ∙ ap (λ (x : ℕ). x % 2 ^ 64) ok in
      simp (eq-eqb _ _ q) (ap (λ (x : ℕ). eqb x 0) (caps_bits c (64 + l.guests) l.zeros (omega arith)) ∙ p.1)

-- the word of a guest's vCPU is one of the layout
pub vcpu_word : (l : Layout) → Sound l → (g v : ℕ) → g ≤ l.guests → v < 2048 → word_of l g v < 4096 * l.ids
unfolding word_of
vcpu_word l so g v hi hv = omega (arith, so.nameable)

-- ---- create guest
module _ (l : Layout) (so : Sound l) (s : List ℕ) (good : well_formed l s ≡ true) where
  f : Formed l s
  f = formed l s good

  full : length (header l s) ≡ l.guests_at
  full = header_full l so s f.long

  pub guest_kept : (g : ℕ) → 1 ≤ g → g ≤ l.guests → well_formed l (with_guest l s g) ≡ true
  unfolding with_guest
  guest_kept g lo hi = formed_values l so (put_live s g 1) (guest_at l g) (zeros guest_bytes) (omega arith) ∙ made g lo hi
    where
      made : (g : ℕ) → 1 ≤ g → g ≤ l.guests → well_formed l (put_live s g 1) ≡ true
      made g lo hi =
          let e = header_live l so s g 1 hi in
          well_formed_lem l (put_live s g 1) (record {
            long = live_long s g 1 ∙ f.long;
            head = ap (head_good l) e ∙ head_live l so (header l s) full g lo hi 1 ∙ f.head;
            words = ap (words_good l) e ∙ words_good_lem l (put_live (header l s) g 1) (words_live l so (header l s) full g lo hi 1 (words_are l (header l s) f.words)
                (λ a la n lv. go g lo hi (guest_of l (word l (header l s) a)) lv (ℕ_discrete (guest_of l (word l (header l s) a)) g)));
          })
        where
          go : (g : ℕ) → 1 ≤ g → g ≤ l.guests → (k : ℕ) → live l (header l s) k ≡ true → Dec (k ≡ g) → live l (put_live (header l s) g 1) k ≡ true
          go g lo hi k lv (yes q) = ap (live l (put_live (header l s) g 1)) q ∙ live_here l so (header l s) full g lo hi 1
          go g lo hi k lv (no n) = live_else l so (header l s) full g lo hi 1 k n ∙ lv

  -- ---- set capabilities
  pub caps_kept : (c : ℕ) → outside offered c ≡ 0 → well_formed l (put_capabilities s c) ≡ true
  caps_kept c ok =
      let e = header_caps l so s c in
      well_formed_lem l (put_capabilities s c) (record {
        long = caps_length s c ∙ f.long;
        head = ap (head_good l) e ∙ caps_head l so (header l s) full c ok f.head;
        words = ap (words_good l) e ∙ words_good_lem l (put_capabilities (header l s) c) (words c);
      })
    where
      words : (c : ℕ) → Words l (put_capabilities (header l s) c)
      words c =
          let g = words_are l (header l s) f.words in
          let w = caps_word l so (header l s) c in
          record {
            good = λ a la n. let p = g.good a la (λ z. n (w a ∙ z)) in
                (omega (arith, p.0, w a), ap (λ (x : ℕ). live l (put_capabilities (header l s) c) (guest_of l x)) (w a) ∙ caps_live l so (header l s) c (guest_of l (word l (header l s) a)) ∙ p.1);
            sole = λ a b la m n q. g.sole a b la m (λ z. n (w a ∙ z)) (sym (w b) ∙ q ∙ w a);
            idle = λ a la z. caps_taken l so (header l s) c a ∙ g.idle a la (sym (w a) ∙ z);
          }

  -- ---- create vCPU: a free slot for a live guest's vCPU that is not there yet
  module _ (g v : ℕ) (lv : live l (header l s) g ≡ true) (hv : v < 2048) where
    new_small : word_of l g v < 4096 * l.ids
    new_small = vcpu_word l so g v (live_parts l (header l s) g lv).1 hv

    new_used : l.ids * 2048 ≤ word_of l g v
    unfolding word_of
    new_used = omega arith

    new_guest_lem : guest_of l (word_of l g v) ≡ g
    unfolding guest_of word_of
    new_guest_lem = omega arith

    absent : l.slots ≤ slot_of l (header l s) g v → (a : ℕ) → a < l.slots → word l (header l s) a ≢ word_of l g v
    unfolding slot_of slot_holding holds
    absent q a k e =
        let r : first (holds l (header l s) (word_of l g v)) l.slots 0 ≡ slot_of l (header l s) g v = sym (simp (lv, lt-ltb _ _ hv)) in
        eqb-false _ _ (first_none (holds l (header l s) (word_of l g v)) l.slots 0 (omega (arith, q, r)) a (omega arith) (omega arith)) e

    module _ (free : free_slot l (header l s) < l.slots) (new : l.slots ≤ slot_of l (header l s) g v) where
      -- the word put into the free slot, before its values are zeroed
      claimed : well_formed l (put_slot l s (free_slot l (header l s)) (word_of l g v)) ≡ true
      claimed =
          let j = free_slot l (header l s) in
          let w = word_of l g v in
          let e = header_slot l so s j w free in
          well_formed_lem l (put_slot l s j w) (record {
            long = slot_long l so s j w ∙ f.long;
            head = ap (head_good l) e ∙ head_slot l so (header l s) full j free w ∙ f.head;
            words = ap (words_good l) e ∙ words_good_lem l (put_slot l (header l s) j w) (words_slot l so (header l s) full j free w new_small (words_are l (header l s) f.words)
                (λ n. (new_used, ap (live l (header l s)) new_guest_lem ∙ lv)) (λ n a la m. absent new a la));
          })

      pub vcpu_kept : well_formed l (with_vcpu l s (free_slot l (header l s)) g v) ≡ true
      unfolding with_vcpu
      vcpu_kept = formed_values l so (put_slot l s (free_slot l (header l s)) (word_of l g v)) (slot_at l (free_slot l (header l s))) (zeros slot_bytes) (omega (arith, so.guests_fit)) ∙ claimed

  -- ---- delete guest: t is s less the words of guest g below n
  pub record Less (g n : ℕ) (t : List ℕ) : Type 0 where
    pub long : length t ≡ length s
    pub words : Words l (header l t)
    pub lives : (k : ℕ) → live l (header l t) k ≡ live l (header l s) k
    pub head : head_good l (header l t) ≡ head_good l (header l s)
    pub later : (a : ℕ) → a < l.slots → n ≤ a → word l (header l t) a ≡ word l (header l s) a
    pub kept : (a : ℕ) → a < l.slots → guest_of l (word l (header l s) a) ≢ g → word l (header l t) a ≡ word l (header l s) a
    pub gone : (a : ℕ) → a < n → guest_of l (word l (header l s) a) ≡ g → word l (header l t) a ≡ 0
    pub marks : (a : ℕ) → a < l.slots → guest_of l (word l (header l s) a) ≢ g → is_taken l (header l t) a ≡ is_taken l (header l s) a

  -- a word of t dropped: the header's words and bits after it
  module _ (g n : ℕ) (kn : n < l.slots) (t : List ℕ) (r : Less g n t) (here : guest_of l (word l (header l s) n) ≡ g) where
    t_full : length (header l t) ≡ l.guests_at
    t_full = header_full l so t (r.long ∙ f.long)

    e : header l (put_slot l t n 0) ≡ put_slot l (header l t) n 0
    e = header_slot l so t n 0 kn

    zero_fits : 0 < 4096 * l.ids
    zero_fits = omega (arith, so.nameable)

    other : (a : ℕ) → a < l.slots → a ≢ n → word l (header l (put_slot l t n 0)) a ≡ word l (header l t) a
    other a la m = ap (λ (h : List ℕ). word l h a) e ∙ word_slot_else l so (header l t) t_full n kn 0 a la m

    gone_at : (a : ℕ) → a < suc n → guest_of l (word l (header l s) a) ≡ g → Dec (a ≡ n) → word l (header l (put_slot l t n 0)) a ≡ 0
    gone_at a m x (yes p) = ap (word l (header l (put_slot l t n 0))) p ∙ ap (λ (h : List ℕ). word l h n) e ∙ word_slot l so (header l t) t_full n kn 0 zero_fits
    gone_at a m x (no c) = other a (omega arith) c ∙ r.gone a (omega arith) x

    less_one : Less g (suc n) (put_slot l t n 0)
    less_one = record {
      long = slot_long l so t n 0 ∙ r.long;
      words = subst (Words l) (sym e) (words_slot l so (header l t) t_full n kn 0 zero_fits r.words (λ m. absurd (m refl)) (λ m. absurd (m refl)));
      lives = λ k. ap (λ (h : List ℕ). live l h k) e ∙ live_slot l so (header l t) t_full n kn 0 k ∙ r.lives k;
      head = ap (head_good l) e ∙ head_slot l so (header l t) t_full n kn 0 ∙ r.head;
      later = λ a la m. other a la (omega arith) ∙ r.later a la (omega arith);
      kept = λ a la m. other a la (λ p. m (ap (λ (b : ℕ). guest_of l (word l (header l s) b)) p ∙ here)) ∙ r.kept a la m;
      gone = λ a m x. gone_at a m x (ℕ_discrete a n);
      marks = λ a la m. ap (λ (h : List ℕ). is_taken l h a) e
          ∙ taken_slot_else l so (header l t) t_full n kn 0 a la (λ p. m (ap (λ (b : ℕ). guest_of l (word l (header l s) b)) p ∙ here)) ∙ r.marks a la m;
    }

  -- a word of t that is not guest g's
  less_same : (g n : ℕ) (t : List ℕ) → Less g n t → guest_of l (word l (header l s) n) ≢ g → Less g (suc n) t
  less_same g n t r off = record {
    long = r.long;
    words = r.words;
    lives = r.lives;
    head = r.head;
    later = λ a la m. r.later a la (omega arith);
    kept = r.kept;
    marks = r.marks;
    gone = λ a m x. r.gone a (less a m x (ℕ_discrete a n)) x;
  }
    where
      less : (a : ℕ) → a < suc n → guest_of l (word l (header l s) a) ≡ g → Dec (a ≡ n) → a < n
      less a m x (yes p) = absurd (off (ap (λ (b : ℕ). guest_of l (word l (header l s) b)) (sym p) ∙ x))
      less a m x (no c) = omega arith

  pub drop_less : (g n : ℕ) → n ≤ l.slots → Less g n (drop_words l g n s)
  unfolding drop_words drop_word
  drop_less g zero k =
      record { long = refl; words = words_are l (header l s) f.words; lives = λ k. refl; head = refl; later = λ a la m. refl; kept = λ a la m. refl; gone = λ a m. absurd (not-suc-le-zero m); marks = λ a la m. refl }
  drop_less g (suc n) k = go (eqb (guest_of l (word l (header l (drop_words l g n s)) n)) g) refl (drop_less g n (omega arith))
    where
      go : (b : Bool) → eqb (guest_of l (word l (header l (drop_words l g n s)) n)) g ≡ b → Less g n (drop_words l g n s)
          → Less g (suc n) (cond b (put_slot l (drop_words l g n s) n 0) (drop_words l g n s))
      go true q r = less_one g n k (drop_words l g n s) r (ap (guest_of l) (sym (r.later n k (omega arith))) ∙ eqb-true _ _ q)
      go false q r = less_same g n (drop_words l g n s) r (λ x. eqb-false _ _ q (ap (guest_of l) (r.later n k (omega arith)) ∙ x))

  pub delete_kept : (g : ℕ) → live l (header l s) g ≡ true → well_formed l (without_guest l s g) ≡ true
  unfolding without_guest
  delete_kept g lv = all (drop_less g l.slots (omega arith)) (live_parts l (header l s) g lv)
    where
      t : List ℕ
      t = drop_words l g l.slots s

      off : Less g l.slots t → (a : ℕ) → a < l.slots → word l (header l t) a ≢ 0 → Dec (guest_of l (word l (header l s) a) ≡ g) → guest_of l (word l (header l t) a) ≢ g
      off r a la n (yes x) = absurd (n (r.gone a la x))
      off r a la n (no m) = λ x. m (ap (guest_of l) (sym (r.kept a la m)) ∙ x)

      all : Less g l.slots t → (1 ≤ g) × (g ≤ l.guests) → well_formed l (put_live t g 0) ≡ true
      all r q =
          let lo = q.0 in
          let hi = q.1 in
          let e = header_live l so t g 0 hi in
          let full = header_full l so t (r.long ∙ f.long) in
          well_formed_lem l (put_live t g 0) (record {
            long = live_long t g 0 ∙ r.long ∙ f.long;
            head = ap (head_good l) e ∙ head_live l so (header l t) full g lo hi 0 ∙ r.head ∙ f.head;
            words = ap (words_good l) e ∙ words_good_lem l (put_live (header l t) g 0) (words_live l so (header l t) full g lo hi 0 r.words
                (λ a la n lv. live_else l so (header l t) full g lo hi 0 (guest_of l (word l (header l t) a)) (off r a la n (ℕ_discrete (guest_of l (word l (header l s) a)) g)) ∙ lv));
          })

  -- ---- delete all guests: no slot below n has a word or a mark
  pub record Bare (n : ℕ) (t : List ℕ) : Type 0 where
    pub long : length t ≡ length s
    pub head : head_good l (header l t) ≡ head_good l (header l s)
    pub bare : (a : ℕ) → a < n → word l (header l t) a ≡ 0
    pub unmarked : (a : ℕ) → a < n → is_taken l (header l t) a ≡ false

  pub words_gone : (n : ℕ) → n ≤ l.slots → Bare n (no_words l n s)
  unfolding no_words
  words_gone zero k = record { long = refl; head = refl; bare = λ a m. absurd (not-suc-le-zero m); unmarked = λ a m. absurd (not-suc-le-zero m) }
  words_gone (suc n) k = next (words_gone n (omega arith))
    where
      t : List ℕ
      t = no_words l n s

      next : Bare n t → Bare (suc n) (put_slot l t n 0)
      next r =
          let full = header_full l so t (r.long ∙ f.long) in
          let e = header_slot l so t n 0 k in
          record {
            long = slot_long l so t n 0 ∙ r.long;
            head = ap (head_good l) e ∙ head_slot l so (header l t) full n k 0 ∙ r.head;
            bare = λ a m. ap (λ (h : List ℕ). word l h a) e ∙ at full r a m (ℕ_discrete a n);
            unmarked = λ a m. ap (λ (h : List ℕ). is_taken l h a) e ∙ mark full r a m (ℕ_discrete a n);
          }
        where
          at : length (header l t) ≡ l.guests_at → Bare n t → (a : ℕ) → a < suc n → Dec (a ≡ n) → word l (put_slot l (header l t) n 0) a ≡ 0
          at full r a m (yes p) = ap (word l (put_slot l (header l t) n 0)) p ∙ word_slot l so (header l t) full n k 0 (omega (arith, so.nameable))
          at full r a m (no c) = word_slot_else l so (header l t) full n k 0 a (omega arith) c ∙ r.bare a (omega arith)

          mark : length (header l t) ≡ l.guests_at → Bare n t → (a : ℕ) → a < suc n → Dec (a ≡ n) → is_taken l (put_slot l (header l t) n 0) a ≡ false
          mark full r a m (yes p) = ap (is_taken l (put_slot l (header l t) n 0)) p ∙ taken_slot l so (header l t) full n k 0
          mark full r a m (no c) = taken_slot_else l so (header l t) full n k 0 a (omega arith) c ∙ r.unmarked a (omega arith)

  pub guests_gone : (n : ℕ) → n ≤ l.guests → Bare l.slots (no_guests n (no_words l l.slots s))
  unfolding no_guests
  guests_gone zero k = words_gone l.slots (omega arith)
  guests_gone (suc n) k = next (guests_gone n (omega arith))
    where
      t : List ℕ
      t = no_guests n (no_words l l.slots s)

      next : Bare l.slots t → Bare l.slots (put_live t (n + 1) 0)
      next r =
          let full = header_full l so t (r.long ∙ f.long) in
          let hi : n + 1 ≤ l.guests = omega arith in
          let lo : 1 ≤ n + 1 = omega arith in
          let e = header_live l so t (n + 1) 0 hi in
          record {
            long = live_long t (n + 1) 0 ∙ r.long;
            head = ap (head_good l) e ∙ head_live l so (header l t) full (n + 1) lo hi 0 ∙ r.head;
            bare = λ a m. ap (λ (h : List ℕ). word l h a) e ∙ word_live l so (header l t) full (n + 1) lo hi 0 a ∙ r.bare a m;
            unmarked = λ a m. ap (λ (h : List ℕ). is_taken l h a) e ∙ taken_live l so (header l t) full (n + 1) lo hi 0 a ∙ r.unmarked a m;
          }

  pub delete_all_kept : well_formed l (without_guests l s) ≡ true
  unfolding without_guests
  delete_all_kept =
      let r = guests_gone l.guests (omega arith) in
      let t = no_guests l.guests (no_words l l.slots s) in
      well_formed_lem l t (record {
        long = r.long ∙ f.long;
        head = r.head ∙ f.head;
        words = words_good_lem l (header l t) (record { good = λ a la n. absurd (n (r.bare a la)); sole = λ a b la m n. absurd (n (r.bare a la)); idle = λ a la z. r.unmarked a la });
      })

  -- what delete frees: the guest's live bit and its slots, and nothing else
  module _ (g : ℕ) (lv : live l (header l s) g ≡ true) where
    module _ (r : Less g l.slots (drop_words l g l.slots s)) where
      bound : (1 ≤ g) × (g ≤ l.guests)
      bound = live_parts l (header l s) g lv

      dropped_full : length (header l (drop_words l g l.slots s)) ≡ l.guests_at
      dropped_full = header_full l so (drop_words l g l.slots s) (r.long ∙ f.long)

      gone_live : live l (header l (without_guest l s g)) g ≡ false
      unfolding without_guest
      gone_live =
          ap (λ (h : List ℕ). live l h g) (header_live l so (drop_words l g l.slots s) g 0 bound.1)
          ∙ live_here l so (header l (drop_words l g l.slots s)) dropped_full g bound.0 bound.1 0

      else_live : (k : ℕ) → k ≢ g → live l (header l (without_guest l s g)) k ≡ live l (header l s) k
      unfolding without_guest
      else_live k n =
          ap (λ (h : List ℕ). live l h k) (header_live l so (drop_words l g l.slots s) g 0 bound.1)
          ∙ live_else l so (header l (drop_words l g l.slots s)) dropped_full g bound.0 bound.1 0 k n ∙ r.lives k

      left_word : (a : ℕ) → word l (header l (without_guest l s g)) a ≡ word l (header l (drop_words l g l.slots s)) a
      unfolding without_guest
      left_word a =
          ap (λ (h : List ℕ). word l h a) (header_live l so (drop_words l g l.slots s) g 0 bound.1)
          ∙ word_live l so (header l (drop_words l g l.slots s)) dropped_full g bound.0 bound.1 0 a

      left_mark : (a : ℕ) → is_taken l (header l (without_guest l s g)) a ≡ is_taken l (header l (drop_words l g l.slots s)) a
      unfolding without_guest
      left_mark a =
          ap (λ (h : List ℕ). is_taken l h a) (header_live l so (drop_words l g l.slots s) g 0 bound.1)
          ∙ taken_live l so (header l (drop_words l g l.slots s)) dropped_full g bound.0 bound.1 0 a

    pub deleted_live : live l (header l (without_guest l s g)) g ≡ false
    deleted_live = gone_live (drop_less g l.slots (omega arith))

    pub deleted_else : (k : ℕ) → k ≢ g → live l (header l (without_guest l s g)) k ≡ live l (header l s) k
    deleted_else = else_live (drop_less g l.slots (omega arith))

    pub deleted_slot : (a : ℕ) → a < l.slots → guest_of l (word l (header l s) a) ≡ g → word l (header l (without_guest l s g)) a ≡ 0
    deleted_slot a la e = let r = drop_less g l.slots (omega arith) in left_word r a ∙ r.gone a la e

    pub deleted_other : (a : ℕ) → a < l.slots → guest_of l (word l (header l s) a) ≢ g → word l (header l (without_guest l s g)) a ≡ word l (header l s) a
    deleted_other a la n = let r = drop_less g l.slots (omega arith) in left_word r a ∙ r.kept a la n

    pub deleted_mark : (a : ℕ) → a < l.slots → guest_of l (word l (header l s) a) ≢ g → is_taken l (header l (without_guest l s g)) a ≡ is_taken l (header l s) a
    deleted_mark a la n = let r = drop_less g l.slots (omega arith) in left_mark r a ∙ r.marks a la n

  pub vcpu_header : (j : ℕ) → j < l.slots → (g v : ℕ) → header l (with_vcpu l s j g v) ≡ put_slot l (header l s) j (word_of l g v)
  unfolding with_vcpu
  vcpu_header j hj g v =
      header_values l so (put_slot l s j (word_of l g v)) (slot_at l j) (zeros slot_bytes) (omega (arith, so.guests_fit)) ∙ header_slot l so s j (word_of l g v) hj

  -- ---- marks: only a used slot has one, and it may be set there
  module _ (a : ℕ) (la : a < l.slots) where
    pub taken_word : is_taken l (header l s) a ≡ true → word l (header l s) a ≢ 0
    taken_word t z = no_bool (sym ((words_are l (header l s) f.words).idle a la z) ∙ t)

    pub taken_used : is_taken l (header l s) a ≡ true → is_used l (word l (header l s) a) ≡ true
    unfolding is_used
    taken_used t = le-leb _ _ ((words_are l (header l s) f.words).good a la (taken_word t)).0

    pub mark_kept : (b : ℕ) → (word l (header l s) a ≡ 0 → eqb (b % 2) 1 ≡ false) → well_formed l (put_taken l s a b) ≡ true
    mark_kept b i =
        let e = header_mark l so s a b la in
        well_formed_lem l (put_taken l s a b) (record {
          long = mark_long l so s a b ∙ f.long;
          head = ap (head_good l) e ∙ head_mark l so (header l s) full a la b ∙ f.head;
          words = ap (words_good l) e ∙ words_good_lem l (put_taken l (header l s) a b) (words_mark l so (header l s) full a la b (words_are l (header l s) f.words) i);
        })

    pub mark_set_kept : (b : ℕ) → word l (header l s) a ≢ 0 → well_formed l (put_taken l s a b) ≡ true
    mark_set_kept b n = mark_kept b (λ z. absurd (n z))

    pub mark_clear_kept : well_formed l (put_taken l s a 0) ≡ true
    mark_clear_kept = mark_kept 0 (λ z. refl)

    -- ---- 02, L1: "creating or dropping a vCPU clears its mark", and no other
    pub guest_mark : (g : ℕ) → 1 ≤ g → g ≤ l.guests → is_taken l (header l (with_guest l s g)) a ≡ is_taken l (header l s) a
    unfolding with_guest
    guest_mark g lo hi =
        ap (λ (h : List ℕ). is_taken l h a) (header_values l so (put_live s g 1) (guest_at l g) (zeros guest_bytes) (omega arith) ∙ header_live l so s g 1 hi)
        ∙ taken_live l so (header l s) full g lo hi 1 a

    pub vcpu_mark : (g v : ℕ) → is_taken l (header l (with_vcpu l s a g v)) a ≡ false
    vcpu_mark g v = ap (λ (h : List ℕ). is_taken l h a) (vcpu_header a la g v) ∙ taken_slot l so (header l s) full a la (word_of l g v)

    pub vcpu_mark_else : (j g v : ℕ) → j < l.slots → a ≢ j → is_taken l (header l (with_vcpu l s j g v)) a ≡ is_taken l (header l s) a
    vcpu_mark_else j g v hj n = ap (λ (h : List ℕ). is_taken l h a) (vcpu_header j hj g v) ∙ taken_slot_else l so (header l s) full j hj (word_of l g v) a la n

    pub delete_mark : (g : ℕ) → live l (header l s) g ≡ true → guest_of l (word l (header l s) a) ≡ g → is_taken l (header l (without_guest l s g)) a ≡ false
    delete_mark g lv e = (words_are l (header l (without_guest l s g)) (formed l (without_guest l s g) (delete_kept g lv)).words).idle a la (deleted_slot g lv a la e)

    pub delete_all_mark : is_taken l (header l (without_guests l s)) a ≡ false
    unfolding without_guests
    delete_all_mark = (guests_gone l.guests (omega arith)).unmarked a la
