-- The round-trip law: a buffer that begins with a message is read as the elements that the message was made of. Assumes nothing.
use mathlib.Core.Path.{◌≡◌, refl, sym, ap, ap₂, ◌∙◌, subst}
use mathlib.Core.Bool.{Bool, true, false, cond, not, ◌||◌}
use mathlib.Core.List.{List, [], ◌∷◌, ◌++◌, append-nil, append_assoc}
use Prim.Native.Nat.{ℕ, zero, suc, ◌+◌, ◌^◌, ◌≤◌, ◌<◌}
use native.Mathlib.Nat.{mod-eq_of_lt}
use native.Mathlib.Numerals.{add-one}
use native.Mathlib.Decide.{dec_lt}
use native.Mathlib.Omega.{arith}
use lib.Dec.{ltb, ltb→lt}
use lib.ListN.{length, get_or, take, drop, length-append}
use lib.Seq.{take-suc, take-length, take-append_seam, drop-append_seam, split_at, drop_at}
use borrow.Author.Tests.{lt-ltb, le-ltb}
use Rattle.octets.specs.Bytes.{bytes_at, put, be, digits, zeros}
use Rattle.octets.proofs.Bytes.{length_put, length_bytes_at, part_lent, part_of_part, read_back, whole, zeros_part}
use Rattle.octets.proofs.Numbers.{be_part, be_of_digits, length_digits}
use Rattle.answer.specs.declared.Bad.{Bad}
use Rattle.answer.specs.declared.Bad.TheVariants.{Id, Size, Value}
use Rattle.rules.specs.declared.Usage.TheVariants.{RunInput}
use Rattle.rules.specs.declared.Context.{Context}
use Rattle.elements.specs.declared.Entry.{Entry}
use Rattle.elements.specs.declared.Kind.TheVariants.{Listed}
use Rattle.elements.specs.Table.{table, kind_of}
use Rattle.rules.specs.Rules.{permits, size_fits, good_value}
use Rattle.elements.proofs.Table.{listed_rule, size_bound}
use Rattle.rules.proofs.Rules.{value_run}
use Rattle.gsb.specs.Walk.{count_of, id_at, size_at, next_at, offset_at, bad_length, judged, first_bad, stopped_at}
use Rattle.gsb.specs.Message.{element_bytes, elements_bytes, message, Stands, Begins, nth_id, nth_value, Wire, first_place}
use Rattle.gsb.proofs.Judged.{judged_id, judged_size, judged_value, judged_good}
use Rattle.gsb.proofs.Walks.{walk_end, walk_good, walk_bad, offset_start, offset_next, first_start}
use Rattle.gsb.proofs.First.{all_good}
use Rattle.gsb.proofs.Messages.{length_element, element_parts, elements_nil, elements_parts, elements_append, message_parts, length_more, length_message}
use Rattle.std.proofs.Common.{Ok, Err}

-- ---- bytes that stand in a buffer

pub begins_by : (b v : List ℕ) → length v ≤ length b → bytes_at b 0 (length v) ≡ v → Begins b v
begins_by b v h e = record { within = omega arith; same = e }

pub begins_self : (v : List ℕ) → Begins v v
begins_self v = begins_by v v (omega arith) (whole v)

-- v was written to the first bytes of a
pub begins_put : (a v : List ℕ) → length v ≤ length a → Begins (put a 0 v) v
begins_put a v h = begins_by (put a 0 v) v (omega (arith, length_put a 0 v)) (read_back a 0 v (omega arith))

pub begins_is : (a b v : List ℕ) → b ≡ put a 0 v → length v ≤ length a → Begins b v
begins_is a b v e h = subst (λ (x : List ℕ). Begins x v) (sym e) (begins_put a v h)

-- the first n bytes, which hold all of v
pub begins_first : (b v : List ℕ) (n : ℕ) → Begins b v → length v ≤ n → n ≤ length b → Begins (bytes_at b 0 n) v
begins_first b v n s h l =
    begins_by (bytes_at b 0 n) v (omega (arith, length_bytes_at b 0 n (omega arith)))
    (part_of_part b 0 n 0 (length v) (omega arith) ∙ s.same)

module _ (b : List ℕ) (at : ℕ) (v w : List ℕ) (s : Stands b at (v ++ w)) where
  long : length (v ++ w) ≡ length v + length w
  long = length-append v w

  pub stands_left : Stands b at v
  stands_left = record {
    within = omega (arith, s.within, long);
    same =
        (let z : at + 0 ≡ at = omega arith in
        ap (λ (i : ℕ). bytes_at b i (length v)) (sym z)
        ∙ sym (part_of_part b at (length (v ++ w)) 0 (length v) (omega (arith, long)))
        ∙ ap (λ (x : List ℕ). bytes_at x 0 (length v)) s.same
        ∙ sym (part_lent (v ++ w) 0 (length v))
        ∙ take-append_seam v w);
  }

  pub stands_right : Stands b (at + length v) w
  stands_right = record {
    within = omega (arith, s.within, long);
    same =
        (sym (part_of_part b at (length (v ++ w)) (length v) (length w) (omega (arith, long)))
        ∙ ap (λ (x : List ℕ). bytes_at x (length v) (length w)) s.same
        ∙ sym (part_lent (v ++ w) (length v) (length w))
        ∙ ap (λ (x : List ℕ). take (length w) x) (drop-append_seam v w)
        ∙ take-length w);
  }

-- a number that stands in a buffer is read
pub stands_number : (b : List ℕ) (at n x : ℕ) → Stands b at (digits n x) → x < 256 ^ n → be b at n ≡ x
stands_number b at n x s h =
    let z : at ≡ at + 0 = omega arith in
    ap (λ (i : ℕ). be b i n) z
    ∙ sym (be_part b at n 0 n (omega arith))
    ∙ ap (λ (y : List ℕ). be y 0 n) (ap (bytes_at b at) (sym (length_digits n x)) ∙ s.same)
    ∙ be_of_digits n x
    ∙ mod-eq_of_lt h

-- ---- an element that stands in a buffer
module _ (b : List ℕ) (at id : ℕ) (v : List ℕ) (s : Stands b at (element_bytes id v)) where
  parts : Stands b at (digits 2 id ++ (digits 2 (length v) ++ v))
  parts = subst (Stands b at) (element_parts id v) s

  pub element_id : id < 2 ^ 16 → id_at b at ≡ id
  element_id h = stands_number b at 2 id (stands_left b at (digits 2 id) (digits 2 (length v) ++ v) parts) h

  behind : Stands b (at + 2) (digits 2 (length v) ++ v)
  behind = subst (λ (n : ℕ). Stands b (at + n) (digits 2 (length v) ++ v)) (length_digits 2 id) (stands_right b at (digits 2 id) (digits 2 (length v) ++ v) parts)

  pub element_size : length v < 2 ^ 16 → size_at b at ≡ length v
  element_size h = stands_number b (at + 2) 2 (length v) (stands_left b (at + 2) (digits 2 (length v)) v behind) h

  pub element_value : bytes_at b (at + 4) (length v) ≡ v
  element_value =
      let e : at + 2 + length (digits 2 (length v)) ≡ at + 4 = omega (arith, length_digits 2 (length v)) in
      (subst (λ (n : ℕ). Stands b n v) e (stands_right b (at + 2) (digits 2 (length v)) v behind)).same

  pub element_end : at + 4 + length v ≤ length b
  element_end = omega (arith, s.within, length_element id v)

-- ---- a message

pub wire_nil : Wire []
wire_nil = record { count = omega arith; ids = λ i h. absurd (omega arith); sizes = λ i h. absurd (omega arith) }

pub wire_cons : (id : ℕ) (v : List ℕ) (es : List (ℕ × List ℕ)) → id < 2 ^ 16 → length v < 2 ^ 16 → suc (length es) < 2 ^ 32 → Wire es → Wire ((id, v) ∷ es)
wire_cons id v es h l c w = record { count = c; ids = ids; sizes = sizes }
  where
    ids : (i : ℕ) → i < suc (length es) → nth_id ((id, v) ∷ es) i < 2 ^ 16
    ids zero m = h
    ids (suc i) m = w.ids i (omega arith)

    sizes : (i : ℕ) → i < suc (length es) → length (nth_value ((id, v) ∷ es) i) < 2 ^ 16
    sizes zero m = l
    sizes (suc i) m = w.sizes i (omega arith)

pub wire_one : (id : ℕ) (v : List ℕ) → id < 2 ^ 16 → length v < 2 ^ 16 → Wire ((id, v) ∷ [])
wire_one id v h l = wire_cons id v [] h l (omega arith) wire_nil

-- a listed element with a value of its size fits
listed_id : (id : ℕ) (x : Entry) → kind_of id ≡ Listed x → id < 2 ^ 16
unfolding table
listed_id id x e = ltb→lt _ _ (listed_rule (λ (i : ℕ). ltb i 65536) tt id x e)

pub listed_fits : (id : ℕ) (x : Entry) (v : List ℕ) → kind_of id ≡ Listed x → length v ≡ x.size → (id < 2 ^ 16) × (length v < 2 ^ 16)
listed_fits id x v e z = (listed_id id x e, omega (arith, z, (size_bound id x e).1))

module _ (es : List (ℕ × List ℕ)) (b : List ℕ) (w : Wire es) (s : Begins b (message es)) where
  halves : Stands b 0 (digits 4 (length es) ++ elements_bytes es)
  halves = subst (Stands b 0) (message_parts es) s

  pub message_count : count_of b ≡ length es
  message_count = stands_number b 0 4 (length es) (stands_left b 0 (digits 4 (length es)) (elements_bytes es) halves) w.count

  counted : Stands b 4 (elements_bytes es)
  counted =
      let e : 0 + length (digits 4 (length es)) ≡ 4 = omega (arith, length_digits 4 (length es)) in
      subst (λ (n : ℕ). Stands b n (elements_bytes es)) e (stands_right b 0 (digits 4 (length es)) (elements_bytes es) halves)

  -- element i stands behind those before it
  module _ (i : ℕ) (h : i < length es) where
    around : elements_bytes es ≡ elements_bytes (take i es) ++ (element_bytes (nth_id es i) (nth_value es i) ++ elements_bytes (drop (suc i) es))
    around =
        ap elements_bytes (split_at es i (0, []) h) ∙ elements_append (take i es) (get_or es i (0, []) ∷ drop (suc i) es)
        ∙ ap (λ (x : List ℕ). elements_bytes (take i es) ++ x) (elements_parts (drop (suc i) es) (nth_id es i) (nth_value es i))

    placed : Stands b (4 + length (elements_bytes (take i es))) (element_bytes (nth_id es i) (nth_value es i))
    placed =
        stands_left b (4 + length (elements_bytes (take i es))) (element_bytes (nth_id es i) (nth_value es i)) (elements_bytes (drop (suc i) es))
        (stands_right b 4 (elements_bytes (take i es)) (element_bytes (nth_id es i) (nth_value es i) ++ elements_bytes (drop (suc i) es)) (subst (Stands b 4) around counted))

    more : length (elements_bytes (take (suc i) es)) ≡ length (elements_bytes (take i es)) + 4 + length (nth_value es i)
    more = ap (λ (x : List (ℕ × List ℕ)). length (elements_bytes x)) (take-suc es i (0, []) h) ∙ length_more (take i es) (nth_id es i) (nth_value es i)

  pub message_offset : (i : ℕ) → i ≤ length es → offset_at b i ≡ 4 + length (elements_bytes (take i es))
  message_offset zero h = sym (offset_start b) ∙ ap (λ (x : List ℕ). 4 + length x) (sym elements_nil)
  message_offset (suc i) h =
      let l : i < length es = omega arith in
      let z : size_at b (4 + length (elements_bytes (take i es))) ≡ length (nth_value es i) = element_size b _ (nth_id es i) (nth_value es i) (placed i l) (w.sizes i l) in
      ap (offset_at b) (sym (add-one i)) ∙ sym (offset_next b i (4 + length (elements_bytes (take i es))) (sym (message_offset i (omega arith))))
      ∙ omega (arith, z, more i l)

  -- the elements end where the message does
  pub message_end : offset_at b (length es) ≡ length (message es)
  message_end = message_offset (length es) (omega arith) ∙ ap (λ (x : List (ℕ × List ℕ)). 4 + length (elements_bytes x)) (take-length es) ∙ sym (length_message es)

  module _ (i : ℕ) (h : i < length es) where
    stands : Stands b (offset_at b i) (element_bytes (nth_id es i) (nth_value es i))
    stands = subst (λ (n : ℕ). Stands b n (element_bytes (nth_id es i) (nth_value es i))) (sym (message_offset i (omega arith))) (placed i h)

    pub message_id : id_at b (offset_at b i) ≡ nth_id es i
    message_id = element_id b (offset_at b i) (nth_id es i) (nth_value es i) stands (w.ids i h)

    pub message_size : size_at b (offset_at b i) ≡ length (nth_value es i)
    message_size = element_size b (offset_at b i) (nth_id es i) (nth_value es i) stands (w.sizes i h)

    pub message_value : bytes_at b (offset_at b i + 4) (size_at b (offset_at b i)) ≡ nth_value es i
    message_value = ap (bytes_at b (offset_at b i + 4)) message_size ∙ element_value b (offset_at b i) (nth_id es i) (nth_value es i) stands

    pub message_inside : next_at b (offset_at b i) ≤ length b
    message_inside = omega (arith, message_size, element_end b (offset_at b i) (nth_id es i) (nth_value es i) stands)

  -- ---- judged
  module _ (k : Context) (permitted : (i : ℕ) → i < length es → permits k (nth_id es i) (kind_of (nth_id es i)) ≡ true)
      (sized : (i : ℕ) → i < length es → size_fits (kind_of (nth_id es i)) (length (nth_value es i)) ≡ true) where
    pub message_good : ((i : ℕ) → i < length es → good_value k (nth_id es i) b (offset_at b i + 4) ≡ true) → first_bad k b ≡ Ok tt
    message_good ruled = (all_good k b).1 good
      where
        good : (i : ℕ) → i < count_of b → judged k b (offset_at b i) ≡ Ok (offset_at b (i + 1))
        good i c =
            let h : i < length es = omega (arith, c, message_count) in
            let e : offset_at b i + 4 + length (nth_value es i) ≤ length b = omega (arith, message_inside i h, message_size i h) in
            let n : offset_at b i + 4 + length (nth_value es i) ≡ offset_at b (i + 1) = ap (λ (x : ℕ). offset_at b i + 4 + x) (sym (message_size i h)) ∙ offset_next b i (offset_at b i) refl in
            sym (judged_good k b (offset_at b i) (nth_id es i) (length (nth_value es i)) (kind_of (nth_id es i)) (omega arith) (sym (message_id i h)) (sym (message_size i h)) refl
            true (sym (permitted i h)) refl true (sym (sized i h)) refl (omega arith) true (sym (ruled i h)) refl)
            ∙ ap Ok n

    -- no value of a run input is bad
    pub input_good_lem : k.usage ≡ RunInput → first_bad k b ≡ Ok tt
    input_good_lem u = message_good (λ i h. value_run k (nth_id es i) b (offset_at b i + 4) u (permitted i h))

-- ---- no elements

none_good : (k : Context) (b : List ℕ) → count_of b ≡ 0 → first_bad k b ≡ Ok tt
none_good k b c = first_start k b 0 (sym c) ∙ walk_end (judged k b) 0 0 4 (omega arith)

digits_none : digits 4 0 ≡ zeros 4
unfolding digits zeros
digits_none = refl

-- the first four bytes are zero
module _ (b : List ℕ) (z : bytes_at b 0 4 ≡ zeros 4) where
  pub zero_count : count_of b ≡ 0
  zero_count = sym (be_part b 0 4 0 4 (omega arith)) ∙ ap (λ (x : List ℕ). be x 0 4) (z ∙ sym digits_none) ∙ be_of_digits 4 0

  pub message_zero : (k : Context) → (count_of b ≡ 0) × (first_bad k b ≡ Ok tt)
  message_zero k = (zero_count, none_good k b zero_count)

pub zeros_count : (n : ℕ) → 4 ≤ n → count_of (zeros n) ≡ 0
zeros_count n h = zero_count (zeros n) (zeros_part n 0 4 (omega arith))

pub zeros_good : (k : Context) (n : ℕ) → 4 ≤ n → first_bad k (zeros n) ≡ Ok tt
zeros_good k n h = (message_zero (zeros n) (zeros_part n 0 4 (omega arith)) k).1

-- ---- one element

pub one_length : (id : ℕ) (v : List ℕ) → length (message ((id, v) ∷ [])) ≡ 8 + length v
one_length id v =
    length_message ((id, v) ∷ [])
    ∙ ap (λ (x : List ℕ). 4 + length x) (elements_parts [] id v ∙ ap (λ (x : List ℕ). element_bytes id v ++ x) elements_nil ∙ append-nil (element_bytes id v))
    ∙ omega (arith, length_element id v)

pub one_bad_length : (id : ℕ) (v : List ℕ) → bad_length (message ((id, v) ∷ [])) ≡ ltb 65528 (length v)
one_bad_length id v =
    ap (λ (n : ℕ). ltb n 4 || ltb 65536 n) (one_length id v) ∙ ap (λ (t : Bool). t || ltb 65536 (8 + length v)) short ∙ over (dec_lt 65528 (length v))
  where
    short : ltb (8 + length v) 4 ≡ false
    short = let h : 4 ≤ 8 + length v = omega arith in le-ltb _ _ h

    over : Dec (65528 < length v) → ltb 65536 (8 + length v) ≡ ltb 65528 (length v)
    over (yes h) = let l : 65536 < 8 + length v = omega arith in lt-ltb _ _ l ∙ sym (lt-ltb _ _ h)
    over (no h) =
        let l : 8 + length v ≤ 65536 = omega arith in
        let m : length v ≤ 65528 = omega arith in
        le-ltb _ _ l ∙ sym (le-ltb _ _ m)

-- the value stands behind the count and the header
pub one_value : (id : ℕ) (v : List ℕ) → bytes_at (message ((id, v) ∷ [])) 8 (length v) ≡ v
one_value id v =
    let n : length (digits 4 1 ++ (digits 2 id ++ digits 2 (length v))) ≡ 8
    = length-append (digits 4 1) (digits 2 id ++ digits 2 (length v))
    ∙ ap₂ (λ (a b : ℕ). a + b) (length_digits 4 1) (length-append (digits 2 id) (digits 2 (length v)) ∙ ap₂ (λ (a b : ℕ). a + b) (length_digits 2 id) (length_digits 2 (length v))) in
    ap (λ (b : List ℕ). bytes_at b 8 (length v)) parts ∙ sym (part_lent ((digits 4 1 ++ (digits 2 id ++ digits 2 (length v))) ++ v) 8 (length v))
    ∙ ap (take (length v)) (drop_at (digits 4 1 ++ (digits 2 id ++ digits 2 (length v))) v 8 n) ∙ take-length v
  where
    parts : message ((id, v) ∷ []) ≡ (digits 4 1 ++ (digits 2 id ++ digits 2 (length v))) ++ v
    parts =
        message_parts ((id, v) ∷ [])
        ∙ ap (λ (x : List ℕ). digits 4 1 ++ x) (elements_parts [] id v ∙ ap (λ (x : List ℕ). element_bytes id v ++ x) elements_nil ∙ append-nil (element_bytes id v) ∙ element_parts id v ∙ sym (append_assoc (digits 2 id) (digits 2 (length v)) v))
        ∙ sym (append_assoc (digits 4 1) (digits 2 id ++ digits 2 (length v)) v)

module _ (k : Context) (b : List ℕ) (id : ℕ) (v : List ℕ) (h : id < 2 ^ 16) (l : length v < 2 ^ 16) (s : Begins b (message ((id, v) ∷ []))) where
  one_count : count_of b ≡ 1
  one_count = message_count ((id, v) ∷ []) b (wire_one id v h l) s

  one_faulty : (bad : Bad) → Err bad ≡ judged k b 4 → first_bad k b ≡ stopped_at bad first_place
  one_faulty bad e = first_start k b 1 (sym one_count) ∙ walk_bad (judged k b) 1 0 4 bad (omega arith) (sym e)

  one_good : (next : ℕ) → Ok next ≡ judged k b 4 → first_bad k b ≡ Ok tt
  one_good next e =
      first_start k b 1 (sym one_count) ∙ walk_good (judged k b) 1 0 4 next (omega arith) (sym e)
      ∙ walk_end (judged k b) 1 (0 + 1) next (omega arith)

  -- the buffer may be longer than the message
  pub one_judged : first_bad k b
      ≡ cond (not (permits k id (kind_of id))) (stopped_at Id first_place)
      (cond (not (size_fits (kind_of id) (length v))) (stopped_at Size first_place)
      (cond (not (good_value k id b 8)) (stopped_at Value first_place) (Ok tt)))
  one_judged = go (permits k id (kind_of id)) (size_fits (kind_of id) (length v)) (good_value k id b 8) refl refl refl
    where
      wire : Wire ((id, v) ∷ [])
      wire = wire_one id v h l

      start : offset_at b 0 ≡ 4
      start = sym (offset_start b)

      the_id : id ≡ id_at b 4
      the_id = sym (ap (id_at b) (sym start) ∙ message_id ((id, v) ∷ []) b wire s 0 (omega arith))

      the_size : length v ≡ size_at b 4
      the_size = sym (ap (size_at b) (sym start) ∙ message_size ((id, v) ∷ []) b wire s 0 (omega arith))

      room : 4 + 4 + length v ≤ length b
      room = omega (arith, s.within, one_length id v)

      go : (p q r : Bool) → p ≡ permits k id (kind_of id) → q ≡ size_fits (kind_of id) (length v) → r ≡ good_value k id b 8
          → first_bad k b ≡ cond (not p) (stopped_at Id first_place) (cond (not q) (stopped_at Size first_place) (cond (not r) (stopped_at Value first_place) (Ok tt)))
      go false q r e f g = one_faulty Id (judged_id k b 4 id (length v) (kind_of id) (omega (arith, room)) the_id the_size refl false e refl)
      go true false r e f g = one_faulty Size (judged_size k b 4 id (length v) (kind_of id) (omega (arith, room)) the_id the_size refl true e refl false f refl)
      go true true false e f g = one_faulty Value (judged_value k b 4 id (length v) (kind_of id) (omega (arith, room)) the_id the_size refl true e refl true f refl (omega (arith, room)) false g refl)
      go true true true e f g = one_good (4 + 4 + length v) (judged_good k b 4 id (length v) (kind_of id) (omega (arith, room)) the_id the_size refl true e refl true f refl (omega (arith, room)) true g refl)

-- the message itself
pub one_element : (k : Context) (id : ℕ) (v : List ℕ) → id < 2 ^ 16 → length v < 2 ^ 16
    → first_bad k (message ((id, v) ∷ []))
    ≡ cond (not (permits k id (kind_of id))) (stopped_at Id first_place)
    (cond (not (size_fits (kind_of id) (length v))) (stopped_at Size first_place)
    (cond (not (good_value k id (message ((id, v) ∷ [])) 8)) (stopped_at Value first_place) (Ok tt)))
one_element k id v h l = one_judged k (message ((id, v) ∷ [])) id v h l (begins_self (message ((id, v) ∷ [])))
