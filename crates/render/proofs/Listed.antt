-- The laws of the lines and of the whole listing: nothing else opens these definitions. Assumes nothing.
use mathlib.Core.Path.{◌≡◌, sym, ap, ap₂, ◌∙◌}
use mathlib.Core.Bool.{Bool, true, false, cond, ◌||◌, true≢false}
use mathlib.Core.List.{List, [], ◌++◌, append_assoc, append-nil}
use Prim.Native.Nat.{ℕ, suc, ◌+◌, ◌-◌, ◌*◌, ◌≤◌, ◌<◌}
use native.Mathlib.Omega.{arith}
use lib.Dec.{ltb}
use lib.ListN.{length, length-append}
use borrow.Author.Tests.{lt-ltb, le-ltb, ltb-false}
use Rattle.octets.specs.Bytes.{put}
use Rattle.octets.proofs.Bytes.{put_nil, put_append}
use Rattle.answer.specs.declared.Bad.{Bad}
use Rattle.answer.specs.declared.Fault.TheVariants.{Element}
use Rattle.answer.specs.declared.Call.TheVariants.{SetState}
use Rattle.answer.specs.declared.Answer.{Answer}
use Rattle.answer.specs.declared.Registers.{Registers}
use Rattle.answer.specs.Answer.{told}
use Rattle.gsb.specs.declared.BadElement.{BadElement}
use Rattle.answer.specs.declared.Fault.{Fault}
use Rattle.gsb.specs.Walk.{count_of, id_at, size_at, bad_length, judged, first_bad, Verdict, Walked}
use Rattle.gsb.proofs.Judged.{good_element}
use Rattle.std.specs.Prelude.{Some, None}
use Rattle.text.specs.Text.{Printed, ascii, decimal, hex4}
use Rattle.render.specs.Listing.{thread_set, first_line, verdict_text, line, on_good, lines, refused_line, last_line, listing, room, RenderOutcome, rendered}
use Rattle.text.proofs.Writes.{wrote_then, wrote_same}
use Rattle.std.proofs.Common.{Ok, Err}

-- ---- a line, by its parts
module _ {s : List ℕ} {at : ℕ} {t₁ t₂ t₃ t₄ t₅ : List ℕ} {p₁ p₂ p₃ p₄ p₅ : ℕ} where
  wrote_five : (a b c d e : List ℕ) → Printed s at a t₁ p₁ → Printed t₁ p₁ b t₂ p₂ → Printed t₂ p₂ c t₃ p₃ → Printed t₃ p₃ d t₄ p₄ → Printed t₄ p₄ e t₅ p₅
      → Printed s at (a ++ (b ++ (c ++ (d ++ e)))) t₅ p₅
  wrote_five a b c d e v w x y z =
      wrote_then s at a (b ++ (c ++ (d ++ e))) t₁ t₅ p₁ p₅ v
      (wrote_then t₁ p₁ b (c ++ (d ++ e)) t₂ t₅ p₂ p₅ w
      (wrote_then t₂ p₂ c (d ++ e) t₃ t₅ p₃ p₅ x (wrote_then t₃ p₃ d e t₄ t₅ p₄ p₅ y z)))

  pub wrote_first : (b : List ℕ) (count : ℕ) → count ≡ count_of b → Printed s at (ascii "elements ") t₁ p₁ → Printed t₁ p₁ (decimal count) t₂ p₂
      → Printed t₂ p₂ (ascii " bytes ") t₃ p₃ → Printed t₃ p₃ (decimal (length b)) t₄ p₄ → Printed t₄ p₄ (ascii "\n") t₅ p₅
      → Printed s at (first_line b) t₅ p₅
  unfolding first_line
  wrote_first b count e v w x y z =
      wrote_same s at _ (first_line b) t₅ p₅
      (wrote_five (ascii "elements ") (decimal count) (ascii " bytes ") (decimal (length b)) (ascii "\n") v w x y z)
      (ap (λ (n : ℕ). ascii "elements " ++ (decimal n ++ (ascii " bytes " ++ (decimal (length b) ++ ascii "\n")))) e)

  pub wrote_refused : {t₆ t : List ℕ} {p₆ p : ℕ} (r : Registers) → Printed s at (ascii "answer ") t₁ p₁ → Printed t₁ p₁ (decimal r.r3) t₂ p₂
      → Printed t₂ p₂ (ascii " index ") t₃ p₃ → Printed t₃ p₃ (decimal r.r4) t₄ p₄ → Printed t₄ p₄ (ascii " offset ") t₅ p₅
      → Printed t₅ p₅ (decimal r.r5) t₆ p₆ → Printed t₆ p₆ (ascii "\n") t p → Printed s at (refused_line r) t p
  unfolding refused_line
  wrote_refused {t₆} {t} {p₆} {p} r u v w x y z e =
      let last = decimal r.r5 ++ ascii "\n" in
      let index = ascii " index " ++ (decimal r.r4 ++ (ascii " offset " ++ last)) in
      wrote_then s at (ascii "answer ") (decimal r.r3 ++ index) t₁ t p₁ p u
      (wrote_then t₁ p₁ (decimal r.r3) index t₂ t p₂ p v
      (wrote_then t₂ p₂ (ascii " index ") (decimal r.r4 ++ (ascii " offset " ++ last)) t₃ t p₃ p w
      (wrote_then t₃ p₃ (decimal r.r4) (ascii " offset " ++ last) t₄ t p₄ p x
      (wrote_then t₄ p₄ (ascii " offset ") last t₅ t p₅ p y
      (wrote_then t₅ p₅ (decimal r.r5) (ascii "\n") t₆ t p₆ p z e)))))

  pub wrote_line : {t : List ℕ} {p : ℕ} (index offset id size : ℕ) (v : Verdict) → Printed s at (decimal index ++ ascii " ") t₁ p₁
      → Printed t₁ p₁ (decimal offset ++ ascii " ") t₂ p₂ → Printed t₂ p₂ (hex4 id) t₃ p₃ → Printed t₃ p₃ (ascii " ") t₄ p₄
      → Printed t₄ p₄ (decimal size) t₅ p₅ → Printed t₅ p₅ (verdict_text v) t p → Printed s at (line index offset id size v) t p
  unfolding line
  wrote_line {t} {p} index offset id size v a b c d e f =
      let rest = hex4 id ++ (ascii " " ++ (decimal size ++ verdict_text v)) in
      wrote_same s at ((decimal index ++ ascii " ") ++ ((decimal offset ++ ascii " ") ++ rest)) (line index offset id size v) t p
      (wrote_then s at (decimal index ++ ascii " ") ((decimal offset ++ ascii " ") ++ rest) t₁ t p₁ p a
      (wrote_then t₁ p₁ (decimal offset ++ ascii " ") rest t₂ t p₂ p b
      (wrote_then t₂ p₂ (hex4 id) (ascii " " ++ (decimal size ++ verdict_text v)) t₃ t p₃ p c
      (wrote_then t₃ p₃ (ascii " ") (decimal size ++ verdict_text v) t₄ t p₄ p d
      (wrote_then t₄ p₄ (decimal size) (verdict_text v) t₅ t p₅ p e f)))))
      (append_assoc (decimal index) (ascii " ") ((decimal offset ++ ascii " ") ++ rest)
      ∙ ap (λ (l : List ℕ). decimal index ++ (ascii " " ++ l)) (append_assoc (decimal offset) (ascii " ") rest))

module _ (s : List ℕ) (at : ℕ) (t : List ℕ) (p : ℕ) (v : Verdict) where
  pub wrote_ok : (next : ℕ) → v ≡ Ok next → Printed s at (ascii " ok\n") t p → Printed s at (verdict_text v) t p
  unfolding verdict_text
  wrote_ok next e w = wrote_same s at (ascii " ok\n") (verdict_text v) t p w (sym (ap verdict_text e))

  pub wrote_bad : (bad : Bad) → v ≡ Err bad → Printed s at (ascii " bad\n") t p → Printed s at (verdict_text v) t p
  unfolding verdict_text
  wrote_bad bad e w = wrote_same s at (ascii " bad\n") (verdict_text v) t p w (sym (ap verdict_text e))

-- ---- all lines, as a loop that counts i up to count has them
module _ (b : List ℕ) (count i at : ℕ) where
  lines_end : count ≤ i → lines b (count - i) i at ≡ []
  unfolding lines
  lines_end h =
      let e : count - i ≡ 0 = omega arith in
      ap (λ (n : ℕ). lines b n i at) e

  turn : i < count
      → lines b (count - i) i at
      ≡ cond (ltb (length b) (at + 4)) [] (line i at (id_at b at) (size_at b at) (judged thread_set b at) ++ on_good (judged thread_set b at) (λ next. lines b (count - (i + 1)) (i + 1) next))
  unfolding lines
  turn h =
      let e : count - i ≡ suc (count - (i + 1)) = omega arith in
      ap (λ (n : ℕ). lines b n i at) e

  lines_cut : i < count → length b - at < 4 → at ≤ length b → lines b (count - i) i at ≡ []
  lines_cut h l m =
      let t : length b < at + 4 = omega arith in
      turn h ∙ simp (lt-ltb _ _ t)

  module _ (id size : ℕ) (v : Verdict) (h : i < count) (r : 4 ≤ length b - at) (f : id ≡ id_at b at) (g : size ≡ size_at b at) (j : v ≡ judged thread_set b at) where
    lines_line : lines b (count - i) i at ≡ line i at id size v ++ on_good v (λ next. lines b (count - (i + 1)) (i + 1) next)
    lines_line =
        let t : at + 4 ≤ length b = omega arith in
        turn h ∙ simp (le-ltb _ _ t) (rw (f, g, j))

    lines_good : (next : ℕ) → v ≡ Ok next → lines b (count - i) i at ≡ line i at id size v ++ lines b (count - (i + 1)) (i + 1) next
    unfolding on_good
    lines_good next e =
        lines_line ∙ ap (λ (w : Verdict). line i at id size v ++ on_good w (λ next. lines b (count - (i + 1)) (i + 1) next)) e

    lines_bad : (bad : Bad) → v ≡ Err bad → lines b (count - i) i at ≡ line i at id size v
    unfolding on_good
    lines_bad bad e =
        lines_line
        ∙ ap (λ (w : Verdict). line i at id size v ++ on_good w (λ next. lines b (count - (i + 1)) (i + 1) next)) e
        ∙ append-nil (line i at id size v)

-- of `l`, which is to be written into `was` from `at` on, `rest` is still to be written, into `is` from `end` on
pub record Left (was : List ℕ) (at : ℕ) (l is : List ℕ) (end : ℕ) (rest : List ℕ) : Type 0 where
  pub place : end + length rest ≡ at + length l
  pub bytes : put is end rest ≡ put was at l

module _ (s : List ℕ) (at : ℕ) (l t : List ℕ) (p : ℕ) where
  left_none : Left s at l t p [] → Printed s at l t p
  left_none w = record { place = omega (arith, w.place); bytes = sym (put_nil t p) ∙ w.bytes }

  left_less : (x m u : List ℕ) (q : ℕ) → Left s at l t p (x ++ m) → Printed t p x u q → Left s at l u q m
  left_less x m u q a w =
      record {
        place =
            let e : length (x ++ m) ≡ length x + length m = length-append x m in
            omega (arith, a.place, w.place);
        bytes =
            ap (λ (z : List ℕ). put z q m) w.bytes
            ∙ ap (λ (k : ℕ). put (put t p x) k m) w.place
            ∙ sym (put_append t p x m)
            ∙ a.bytes;
      }

  left_same : (x y : List ℕ) → Left s at l t p x → x ≡ y → Left s at l t p y
  left_same x y a e = record { place = ap (λ (z : List ℕ). p + length z) (sym e) ∙ a.place; bytes = ap (put t p) (sym e) ∙ a.bytes }

-- ---- the same in the form of the loop's needs
pub left_start : (s : List ℕ) (at : ℕ) (b : List ℕ) (count : ℕ) → count ≡ count_of b
    → Left s at (lines b (count_of b) 0 4) s at (lines b (count - 0) 0 4)
left_start s at b count e =
    let z : count_of b ≡ count - 0 = omega arith in
    record {
      place = ap (λ (n : ℕ). at + length (lines b n 0 4)) (sym z);
      bytes = ap (λ (n : ℕ). put s at (lines b n 0 4)) (sym z);
    }

module _ (s : List ℕ) (at : ℕ) (l t : List ℕ) (p : ℕ) (b : List ℕ) (count i offset : ℕ) (a : Left s at l t p (lines b (count - i) i offset)) where
  pub left_end : count ≤ i → Printed s at l t p
  left_end h = left_none s at l t p (left_same s at l t p _ [] a (lines_end b count i offset h))

  pub left_cut : i < count → length b - offset < 4 → offset ≤ length b → Printed s at l t p
  left_cut h r m = left_none s at l t p (left_same s at l t p _ [] a (lines_cut b count i offset h r m))

  module _ (id size : ℕ) (v : Verdict) (u : List ℕ) (q : ℕ) (h : i < count) (r : 4 ≤ length b - offset) (f : id ≡ id_at b offset)
      (g : size ≡ size_at b offset) (j : v ≡ judged thread_set b offset) (w : Printed t p (line i offset id size v) u q) where
    pub left_good : (next : ℕ) → v ≡ Ok next → Left s at l u q (lines b (count - (i + 1)) (i + 1) next)
    left_good next e =
        left_less s at l t p (line i offset id size v) (lines b (count - (i + 1)) (i + 1) next) u q
        (left_same s at l t p _ _ a (lines_good b count i offset id size v h r f g j next e))
        w

    pub left_bad : (bad : Bad) → v ≡ Err bad → Printed s at l u q
    left_bad bad e =
        left_none s at l u q
        (left_less s at l t p (line i offset id size v) [] u q
        (left_same s at l t p _ _ a (lines_bad b count i offset id size v h r f g j bad e ∙ sym (append-nil (line i offset id size v))))
        w)

-- the element after a good one starts behind its header
pub next_after : (b : List ℕ) (i at next : ℕ) (v : Verdict) → v ≡ Ok next → v ≡ judged thread_set b at → 4 + 4 * i ≤ at → 4 + 4 * (i + 1) ≤ next
next_after b i at next v g j h = omega (arith, (good_element thread_set b at next (sym j ∙ g)).1)

-- ---- the last line
module _ (s : List ℕ) (at : ℕ) (t : List ℕ) (p : ℕ) (b : List ℕ) (w : Walked) (e : w ≡ first_bad thread_set b) where
  pub wrote_done : w ≡ Ok tt → Printed s at (ascii "answer 0\n") t p → Printed s at (last_line (first_bad thread_set b)) t p
  unfolding last_line
  wrote_done d x = wrote_same s at (ascii "answer 0\n") _ t p x (sym (ap last_line (sym e ∙ d)))

  pub wrote_stopped : (stop : BadElement) (f : Fault) (a : Answer) (r : Registers) → w ≡ Err stop → f ≡ Element stop.bad stop.place → a ≡ record { fault = f; value = 0 }
      → r ≡ told SetState a.fault a.value → Printed s at (refused_line r) t p → Printed s at (last_line (first_bad thread_set b)) t p
  unfolding last_line
  wrote_stopped stop q a r d k f g x =
      wrote_same s at (refused_line r) _ t p x
      (ap refused_line (g ∙ ap (λ (z : Answer). told SetState z.fault z.value) f ∙ ap (λ (z : Fault). told SetState z 0) k) ∙ sym (ap last_line (sym e ∙ d)))

-- ---- the listing

-- a buffer whose length is good; that it has a count is gsb's `long_enough`
pub short_enough : (b : List ℕ) (t : Bool) → t ≡ bad_length b → t ≡ false → length b ≤ 65536
short_enough b t e h = go (ltb (length b) 4) (sym e ∙ h)
  where
    go : (x : Bool) → (x || ltb 65536 (length b)) ≡ false → length b ≤ 65536
    go true q = let z : true ≡ false = q in absurd (true≢false z)
    go false q = ltb-false _ _ q

module _ (b text u : List ℕ) (n : ℕ) where
  pub rendered_short : length text < room → ◌≡◌ {A = RenderOutcome} (record { result = None; text = text }) (rendered b text)
  unfolding rendered
  rendered_short h = simp (lt-ltb _ _ h)

  listed : room ≤ length text → Printed text 0 (listing b) u n → ◌≡◌ {A = RenderOutcome} (record { result = Some n; text = u }) (rendered b text)
  unfolding rendered
  listed h w =
      let e : n ≡ length (listing b) = omega (arith, w.place) in
      ap₂ {A = ℕ} {B = List ℕ} {C = RenderOutcome} (λ m l. record { result = Some m; text = l }) e w.bytes ∙ simp (le-ltb _ _ h)

  pub rendered_length : (t : Bool) → room ≤ length text → t ≡ bad_length b → t ≡ true → Printed text 0 (ascii "answer 5\n") u n
      → ◌≡◌ {A = RenderOutcome} (record { result = Some n; text = u }) (rendered b text)
  unfolding listing
  rendered_length t h e g w =
      let m : bad_length b ≡ true = sym e ∙ g in
      listed h (wrote_same text 0 (ascii "answer 5\n") (listing b) u n w (simp m))

  pub rendered_all : (t : Bool) (x y : List ℕ) (p q : ℕ) → room ≤ length text → t ≡ bad_length b → t ≡ false → Printed text 0 (first_line b) x p
      → Printed x p (lines b (count_of b) 0 4) y q → Printed y q (last_line (first_bad thread_set b)) u n
      → ◌≡◌ {A = RenderOutcome} (record { result = Some n; text = u }) (rendered b text)
  unfolding listing
  rendered_all t x y p q h e g v w z =
      let m : bad_length b ≡ false = sym e ∙ g in
      listed h
      (wrote_same text 0 _ (listing b) u n
      (wrote_then text 0 (first_line b) (lines b (count_of b) 0 4 ++ last_line (first_bad thread_set b)) x u p n v
      (wrote_then x p (lines b (count_of b) 0 4) (last_line (first_bad thread_set b)) y u q n w z))
      (simp m))
