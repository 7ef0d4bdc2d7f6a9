-- THEOREMS `converted_mirrors`: a well-formed store of l, written as one of m, is mirrored by it; `converted_else`: the values of m's further
-- guests and slots are zero. Assumes nothing.
use mathlib.Core.Path.{◌≡◌, refl, sym, ap, ◌∙◌}
use mathlib.Core.Logic.{◌≢◌}
use mathlib.Core.Bool.{Bool, true, false, ◌&&◌, cond}
use mathlib.Core.List.{List}
use Prim.Native.Nat.{ℕ, zero, suc, ◌+◌, ◌-◌, ◌*◌, ◌%◌, ◌≤◌, ◌<◌}
use native.Mathlib.Omega.{arith}
use native.Mathlib.Nat.{not-suc-le-zero}
use native.Mathlib.Decide.{ℕ_discrete, dec_lt}
use lib.Dec.{eqb, leb}
use lib.ListN.{length}
use borrow.Author.Tests.{ne_eqb, le-leb, lt-leb}
use Rattle.octets.specs.Bytes.{bytes_at, put, zeros, left, right}
use Rattle.octets.specs.Bits.{bit, bits}
use Rattle.octets.proofs.Bytes.{length_put, length_bytes_at, length_zeros, part_of_part, get_or_bytes_at, get_or_put_same, read_other, read_part, zeros_part}
use Rattle.octets.proofs.Numbers.{be_agree, be_part}
use Rattle.octets.proofs.Bits.{bits_none, bit_zeros, bit_front, bit_beside}
use Rattle.store.specs.declared.Layout.{Layout}
use Rattle.store.specs.Layout.{Sound, guest_bytes, slot_bytes, guest_at, slot_at}
use Rattle.store.specs.Header.{header, capabilities_of, live, word_at, word, is_taken}
use Rattle.store.specs.Store.{well_formed, fresh, put_live, put_word, put_taken}
use Rattle.store.specs.Conversion.{Within, recoded, copied_lives, copied_marks, copied_words, copied_header, converted}
use Rattle.store.proofs.Readings.{step}
use Rattle.store.proofs.WordFields.{word_same, word_other, live_same, taken_same, word_live, taken_live, live_here, live_else}
use Rattle.store.proofs.Marks.{word_mark, live_mark, taken_here, taken_else}
use Rattle.store.proofs.Frame.{header_full, header_values, header_word, header_live, header_mark, formed}
use Rattle.store.proofs.Edited.{Edited, edited_none, edited_then, live_edited, word_edited, mark_edited, zeros_live, zeros_word, zeros_mark, dead_zero, dead_above}
use Rattle.store.proofs.Recoded.{word_guest, recoded_fits}
use Rattle.promises.specs.Mirror.{room_of, Inside, values_in, Mirrors}
use Rattle.promises.proofs.Both.Formed.{Says, says_formed}

-- what is copied as 1 or 0 is read as it was
copied_bit : (b : Bool) → eqb (cond b 1 0 % 2) 1 ≡ b
copied_bit true = refl
copied_bit false = refl

module _ (l m : Layout) (so : Sound l) (so' : Sound m) (within : Within l m) (s : List ℕ) (good : well_formed l s ≡ true) where
  abbrev h : List ℕ
  h = header l s

  long : length s ≡ l.size
  long = (formed l s good).long

  -- ---- the capabilities copied into zeros
  abbrev c : List ℕ
  c = put (fresh m) 0 (bytes_at s 0 8)

  eight : length (bytes_at s 0 8) ≡ 8
  eight = length_bytes_at s 0 8 (omega (arith, long, so.head, so.words, so.guests_fit, so.whole))

  fresh_long : length (fresh m) ≡ m.size
  unfolding fresh
  fresh_long = length_zeros m.size

  c_long : length c ≡ m.size
  c_long = length_put (fresh m) 0 (bytes_at s 0 8) ∙ fresh_long

  c_caps : capabilities_of (header m c) ≡ capabilities_of h
  unfolding capabilities_of header
  c_caps =
      be_part c 0 m.guests_at 0 8 (omega (arith, so'.head, so'.words))
      ∙ be_agree c 0 s 0 8 (λ k q. get_or_put_same (fresh m) 0 (bytes_at s 0 8) k (omega (arith, eight, fresh_long, so'.head, so'.words, so'.guests_fit, so'.whole)) (omega (arith, eight)) ∙ get_or_bytes_at s 0 8 k q)
      ∙ sym (be_part s 0 l.guests_at 0 8 (omega (arith, so.head, so.words)))

  -- every bit behind them is zero
  c_bit : (j : ℕ) → 64 ≤ j → j < 8 * m.guests_at → bit (header m c) j ≡ 0
  unfolding header fresh
  c_bit j lo hi =
      bit_front c m.guests_at j hi ∙ bit_beside (zeros m.size) 0 (bytes_at s 0 8) j (left (omega (arith, eight))) ∙ bit_zeros m.size j

  -- ---- t has the live bits of guests 1 to a, the marks of slots 0 to b - 1 and the words of slots 0 to d - 1
  record Copied (a b d : ℕ) (t : List ℕ) : Type 0 where
    edited : Edited m c t
    spare : bits (header m t) (64 + m.guests) m.zeros ≡ 0
    lives : (g : ℕ) → g ≤ a → live m (header m t) g ≡ live l h g
    dead : (g : ℕ) → a < g → live m (header m t) g ≡ false
    marks : (j : ℕ) → j < b → is_taken m (header m t) j ≡ is_taken l h j
    unmarked : (j : ℕ) → b ≤ j → j < m.slots → is_taken m (header m t) j ≡ false
    words : (j : ℕ) → j < d → word m (header m t) j ≡ recoded l m (word l h j)
    unused : (j : ℕ) → d ≤ j → j < m.slots → word m (header m t) j ≡ 0

  dead_bit : (x : List ℕ) (g : ℕ) → (g ≤ m.guests → bit x (63 + g) ≡ 0) → 1 ≤ g → live m x g ≡ false
  unfolding live
  dead_bit x g f k = go (dec_lt m.guests g)
    where
      go : Dec (m.guests < g) → ((leb 1 g && leb g m.guests) && eqb (bit x (63 + g)) 1) ≡ false
      go (yes q) = simp (le-leb _ _ k, lt-leb _ _ q)
      go (no q) =
          let r : g ≤ m.guests = omega arith in
          let z : bit x (63 + g) ≡ 0 = f r in
          let o : bit x (63 + g) ≢ 1 = omega (arith, z) in
          simp (le-leb _ _ k, le-leb _ _ r, ne_eqb _ _ o)

  copied_none : Copied 0 0 0 c
  unfolding word is_taken
  copied_none = record {
    edited = edited_none m c c_long;
    spare = bits_none (header m c) (64 + m.guests) m.zeros (λ k q. c_bit (64 + m.guests + k) (omega arith) (omega (arith, so'.head, so'.words)));
    lives = λ g k. dead_zero m (header m c) g (omega arith) ∙ sym (dead_zero l h g (omega arith));
    dead = λ g k. dead_bit (header m c) g (λ r. c_bit (63 + g) (omega arith) (omega (arith, so'.head, so'.words, so'.some_zeros))) (omega arith);
    marks = λ j q. absurd (not-suc-le-zero q);
    unmarked = λ j q k. ap (λ (x : ℕ). eqb x 1) (c_bit (8 * m.taken_at + j) (omega (arith, so'.marks_head)) (omega (arith, so'.marks)));
    words = λ j q. absurd (not-suc-le-zero q);
    unused = λ j q k. bits_none (header m c) (word_at m j) m.width
        (λ i r. c_bit (word_at m j + i) (omega (arith, so'.head)) (omega (arith, step m.width j m.slots k, so'.words)));
  }

  -- ---- a live bit more
  module _ (n b d : ℕ) (hn : n < l.guests) (t : List ℕ) (r : Copied n b d t) where
    lo : 1 ≤ n + 1
    lo = omega arith

    hi : n + 1 ≤ m.guests
    hi = omega (arith, within.guests)

    abbrev bt : ℕ
    bt = cond (live l h (n + 1)) 1 0

    lived_full : length (header m t) ≡ m.guests_at
    lived_full = header_full m so' t r.edited.long

    lived_header : header m (put_live t (n + 1) bt) ≡ put_live (header m t) (n + 1) bt
    lived_header = header_live m so' t (n + 1) bt hi

    lived_at : (g : ℕ) → g ≤ suc n → Dec (g ≡ n + 1) → live m (put_live (header m t) (n + 1) bt) g ≡ live l h g
    lived_at g q (yes z) =
        ap (live m (put_live (header m t) (n + 1) bt)) z ∙ live_here m so' (header m t) lived_full (n + 1) lo hi bt ∙ copied_bit (live l h (n + 1)) ∙ ap (live l h) (sym z)
    lived_at g q (no z) = live_else m so' (header m t) lived_full (n + 1) lo hi bt g z ∙ r.lives g (omega arith)

    live_more : Copied (suc n) b d (put_live t (n + 1) (cond (live l h (n + 1)) 1 0))
    live_more = record {
      edited = edited_then m c t _ r.edited (live_edited m so' t r.edited.long (n + 1) bt lo hi);
      spare = ap (λ (x : List ℕ). bits x (64 + m.guests) m.zeros) lived_header ∙ zeros_live m (header m t) (n + 1) bt hi ∙ r.spare;
      lives = λ g q. ap (λ (x : List ℕ). live m x g) lived_header ∙ lived_at g q (ℕ_discrete g (n + 1));
      dead = λ g q. ap (λ (x : List ℕ). live m x g) lived_header ∙ live_else m so' (header m t) lived_full (n + 1) lo hi bt g (omega arith) ∙ r.dead g (omega arith);
      marks = λ j q. ap (λ (x : List ℕ). is_taken m x j) lived_header ∙ taken_live m so' (header m t) lived_full (n + 1) lo hi bt j ∙ r.marks j q;
      unmarked = λ j q k. ap (λ (x : List ℕ). is_taken m x j) lived_header ∙ taken_live m so' (header m t) lived_full (n + 1) lo hi bt j ∙ r.unmarked j q k;
      words = λ j q. ap (λ (x : List ℕ). word m x j) lived_header ∙ word_live m so' (header m t) lived_full (n + 1) lo hi bt j ∙ r.words j q;
      unused = λ j q k. ap (λ (x : List ℕ). word m x j) lived_header ∙ word_live m so' (header m t) lived_full (n + 1) lo hi bt j ∙ r.unused j q k;
    }

  -- ---- a mark more
  module _ (a n d : ℕ) (hn : n < l.slots) (hd : d ≤ m.slots) (t : List ℕ) (r : Copied a n d t) where
    mark_below : n < m.slots
    mark_below = omega (arith, within.slots)

    abbrev mk : ℕ
    mk = cond (is_taken l h n) 1 0

    marked_full : length (header m t) ≡ m.guests_at
    marked_full = header_full m so' t r.edited.long

    marked_header : header m (put_taken m t n mk) ≡ put_taken m (header m t) n mk
    marked_header = header_mark m so' t n mk mark_below

    marked_at : (j : ℕ) → j < suc n → Dec (j ≡ n) → is_taken m (put_taken m (header m t) n mk) j ≡ is_taken l h j
    marked_at j q (yes z) =
        ap (is_taken m (put_taken m (header m t) n mk)) z ∙ taken_here m so' (header m t) marked_full n mark_below mk ∙ copied_bit (is_taken l h n) ∙ ap (is_taken l h) (sym z)
    marked_at j q (no z) = taken_else m so' (header m t) marked_full n mark_below mk j z ∙ r.marks j (omega arith)

    mark_more : Copied a (suc n) d (put_taken m t n (cond (is_taken l h n) 1 0))
    mark_more = record {
      edited = edited_then m c t _ r.edited (mark_edited m so' t r.edited.long n mk mark_below);
      spare = ap (λ (x : List ℕ). bits x (64 + m.guests) m.zeros) marked_header ∙ zeros_mark m so' (header m t) n mk ∙ r.spare;
      lives = λ g q. ap (λ (x : List ℕ). live m x g) marked_header ∙ live_mark m so' (header m t) marked_full n mark_below mk g ∙ r.lives g q;
      dead = λ g q. ap (λ (x : List ℕ). live m x g) marked_header ∙ live_mark m so' (header m t) marked_full n mark_below mk g ∙ r.dead g q;
      marks = λ j q. ap (λ (x : List ℕ). is_taken m x j) marked_header ∙ marked_at j q (ℕ_discrete j n);
      unmarked = λ j q k. ap (λ (x : List ℕ). is_taken m x j) marked_header ∙ taken_else m so' (header m t) marked_full n mark_below mk j (omega arith) ∙ r.unmarked j (omega arith) k;
      words = λ j q. ap (λ (x : List ℕ). word m x j) marked_header ∙ word_mark m so' (header m t) marked_full n mark_below mk j (omega arith) ∙ r.words j q;
      unused = λ j q k. ap (λ (x : List ℕ). word m x j) marked_header ∙ word_mark m so' (header m t) marked_full n mark_below mk j k ∙ r.unused j q k;
    }

  -- ---- a word more
  module _ (a b n : ℕ) (hn : n < l.slots) (hb : b ≤ m.slots) (t : List ℕ) (r : Copied a b n t) where
    word_below : n < m.slots
    word_below = omega (arith, within.slots)

    abbrev w : ℕ
    w = recoded l m (word l h n)

    worded_full : length (header m t) ≡ m.guests_at
    worded_full = header_full m so' t r.edited.long

    worded_header : header m (put_word m t n w) ≡ put_word m (header m t) n w
    worded_header = header_word m so' t n w word_below

    worded_at : (j : ℕ) → j < suc n → Dec (j ≡ n) → word m (put_word m (header m t) n w) j ≡ recoded l m (word l h j)
    worded_at j q (yes z) =
        ap (word m (put_word m (header m t) n w)) z ∙ word_same m so' (header m t) worded_full n word_below w (recoded_fits l m so so' within (word l h n) (word_guest l s good n hn))
        ∙ ap (λ (i : ℕ). recoded l m (word l h i)) (sym z)
    worded_at j q (no z) = word_other m so' (header m t) worded_full n word_below w j z ∙ r.words j (omega arith)

    word_more : Copied a b (suc n) (put_word m t n (recoded l m (word l h n)))
    word_more = record {
      edited = edited_then m c t _ r.edited (word_edited m so' t r.edited.long n w word_below);
      spare = ap (λ (x : List ℕ). bits x (64 + m.guests) m.zeros) worded_header ∙ zeros_word m so' (header m t) n w ∙ r.spare;
      lives = λ g q. ap (λ (x : List ℕ). live m x g) worded_header ∙ live_same m so' (header m t) worded_full n word_below w g ∙ r.lives g q;
      dead = λ g q. ap (λ (x : List ℕ). live m x g) worded_header ∙ live_same m so' (header m t) worded_full n word_below w g ∙ r.dead g q;
      marks = λ j q. ap (λ (x : List ℕ). is_taken m x j) worded_header ∙ taken_same m so' (header m t) worded_full n word_below w j (omega arith) ∙ r.marks j q;
      unmarked = λ j q k. ap (λ (x : List ℕ). is_taken m x j) worded_header ∙ taken_same m so' (header m t) worded_full n word_below w j k ∙ r.unmarked j q k;
      words = λ j q. ap (λ (x : List ℕ). word m x j) worded_header ∙ worded_at j q (ℕ_discrete j n);
      unused = λ j q k. ap (λ (x : List ℕ). word m x j) worded_header ∙ word_other m so' (header m t) worded_full n word_below w j (omega arith) ∙ r.unused j (omega arith) k;
    }

  -- ---- all of them
  lived : (n : ℕ) → n ≤ l.guests → Copied n 0 0 (copied_lives l h n c)
  unfolding copied_lives
  lived zero k = copied_none
  lived (suc n) k = live_more n 0 0 k (copied_lives l h n c) (lived n (omega arith))

  marked : (t : List ℕ) → Copied l.guests 0 0 t → (n : ℕ) → n ≤ l.slots → Copied l.guests n 0 (copied_marks l m h n t)
  unfolding copied_marks
  marked t r zero k = r
  marked t r (suc n) k = mark_more l.guests n 0 k (omega arith) (copied_marks l m h n t) (marked t r n (omega arith))

  worded : (t : List ℕ) → Copied l.guests l.slots 0 t → (n : ℕ) → n ≤ l.slots → Copied l.guests l.slots n (copied_words l m h n t)
  unfolding copied_words
  worded t r zero k = r
  worded t r (suc n) k = word_more l.guests l.slots n k within.slots (copied_words l m h n t) (worded t r n (omega arith))

  abbrev t₀ : List ℕ
  t₀ = copied_header l m s

  head : Copied l.guests l.slots l.slots t₀
  unfolding copied_header
  head = worded _ (marked _ (lived l.guests (omega arith)) l.slots (omega arith)) l.slots (omega arith)

  -- ---- the values behind them
  abbrev gs : List ℕ
  gs = bytes_at s l.guests_at (guest_bytes * l.guests)

  abbrev ss : List ℕ
  ss = bytes_at s l.slots_at (slot_bytes * l.slots)

  abbrev t₁ : List ℕ
  t₁ = put t₀ m.guests_at gs

  gs_long : length gs ≡ guest_bytes * l.guests
  gs_long = length_bytes_at s l.guests_at (guest_bytes * l.guests) (omega (arith, long, so.guests_fit, so.whole))

  ss_long : length ss ≡ slot_bytes * l.slots
  ss_long = length_bytes_at s l.slots_at (slot_bytes * l.slots) (omega (arith, long, so.whole))

  t₁_long : length t₁ ≡ m.size
  t₁_long = length_put t₀ m.guests_at gs ∙ head.edited.long

  t_header : header m (converted l m s) ≡ header m t₀
  unfolding converted
  t_header = header_values m so' t₁ m.slots_at ss (omega (arith, so'.guests_fit)) ∙ header_values m so' t₀ m.guests_at gs (omega arith)

  t_long : length (converted l m s) ≡ m.size
  unfolding converted
  t_long = length_put t₁ m.slots_at ss ∙ t₁_long

  t_values : (wide : Bool) (i : ℕ) → Inside l wide i → values_in m (converted l m s) wide i ≡ values_in l s wide i
  unfolding converted
  t_values true g p =
      read_other t₁ m.slots_at ss (guest_at m g) guest_bytes (right (omega (arith, p.0, p.1, within.guests, so'.guests_fit)))
      ∙ read_part t₀ m.guests_at gs (guest_bytes * (g - 1)) guest_bytes (omega (arith, gs_long, head.edited.long, within.guests, so'.guests_fit, so'.whole)) (omega (arith, gs_long, p.0, p.1))
      ∙ part_of_part s l.guests_at (guest_bytes * l.guests) (guest_bytes * (g - 1)) guest_bytes (omega (arith, p.0, p.1))
  t_values false j p =
      read_part t₁ m.slots_at ss (slot_bytes * j) slot_bytes (omega (arith, ss_long, t₁_long, within.slots, so'.whole)) (omega (arith, ss_long, p))
      ∙ part_of_part s l.slots_at (slot_bytes * l.slots) (slot_bytes * j) slot_bytes (omega (arith, p))

  all_lives : (g : ℕ) → Dec (l.guests < g) → live m (header m t₀) g ≡ live l h g
  all_lives g (yes q) = head.dead g q ∙ sym (dead_above l h g q)
  all_lives g (no q) = head.lives g (omega arith)

  says : Says l m s (converted l m s)
  says = record {
    long = t_long;
    zeros = ap (λ (x : List ℕ). bits x (64 + m.guests) m.zeros) t_header ∙ head.spare;
    capabilities = ap capabilities_of t_header ∙ head.edited.capabilities ∙ c_caps;
    lives = λ g. ap (λ (x : List ℕ). live m x g) t_header ∙ all_lives g (dec_lt l.guests g);
    words = λ j k. ap (λ (x : List ℕ). word m x j) t_header ∙ head.words j k;
    unused = λ j k n. ap (λ (x : List ℕ). word m x j) t_header ∙ head.unused j k n;
    marks = λ j k. ap (λ (x : List ℕ). is_taken m x j) t_header ∙ head.marks j k;
    unmarked = λ j k n. ap (λ (x : List ℕ). is_taken m x j) t_header ∙ head.unmarked j k n;
  }

  pub converted_mirrors : Mirrors l m s (converted l m s)
  converted_mirrors = record {
    formed = good;
    formed' = says_formed l m so so' s (converted l m s) good says;
    capabilities = says.capabilities;
    lives = says.lives;
    words = says.words;
    unused = says.unused;
    marks = says.marks;
    values = t_values;
  }

  -- "else zero"
  pub converted_else : (wide : Bool) (i : ℕ) → Inside m wide i → (Inside l wide i → ⊥) → values_in m (converted l m s) wide i ≡ zeros (room_of wide)
  unfolding converted fresh
  converted_else true g p n =
      read_other t₁ m.slots_at ss (guest_at m g) guest_bytes (right (omega (arith, p.0, p.1, so'.guests_fit)))
      ∙ read_other t₀ m.guests_at gs (guest_at m g) guest_bytes (left (omega (arith, gs_long, above)))
      ∙ head.edited.behind (guest_at m g) guest_bytes (omega arith) (omega (arith, p.0, p.1, so'.guests_fit, so'.whole))
      ∙ read_other (zeros m.size) 0 (bytes_at s 0 8) (guest_at m g) guest_bytes (left (omega (arith, eight, so'.head, so'.words)))
      ∙ zeros_part m.size (guest_at m g) guest_bytes (omega (arith, p.0, p.1, so'.guests_fit, so'.whole))
    where
      above : l.guests < g
      above = go (dec_lt l.guests g)
        where
          go : Dec (l.guests < g) → l.guests < g
          go (yes k) = k
          go (no k) = absurd (n (p.0, omega arith))
  converted_else false j p n =
      read_other t₁ m.slots_at ss (slot_at m j) slot_bytes (left (omega (arith, ss_long, above)))
      ∙ read_other t₀ m.guests_at gs (slot_at m j) slot_bytes (left (omega (arith, gs_long, within.guests, so'.guests_fit)))
      ∙ head.edited.behind (slot_at m j) slot_bytes (omega (arith, so'.guests_fit)) (omega (arith, p, so'.whole))
      ∙ read_other (zeros m.size) 0 (bytes_at s 0 8) (slot_at m j) slot_bytes (left (omega (arith, eight, so'.head, so'.words, so'.guests_fit)))
      ∙ zeros_part m.size (slot_at m j) slot_bytes (omega (arith, p, so'.whole))
    where
      above : l.slots ≤ j
      above = go (dec_lt j l.slots)
        where
          go : Dec (j < l.slots) → l.slots ≤ j
          go (yes k) = absurd (n k)
          go (no k) = omega arith
