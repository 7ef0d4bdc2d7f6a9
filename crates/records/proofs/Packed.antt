-- A record's bytes: three words, seven bytes and two pieces are the packed record. The laws of this file and of RoundTrip open `head_number` and
-- `packed`. Assumes nothing.
use mathlib.Core.Path.{◌≡◌, sym, ap, ap₂, ◌∙◌}
use mathlib.Core.List.{List, ◌++◌}
use Prim.Native.Nat.{ℕ, ◌+◌, ◌*◌, ◌/◌, ◌%◌, ◌^◌, ◌<◌}
use native.Mathlib.Omega.{arith}
use lib.Arith.{digits_div, digits_mod}
use lib.ListN.{length, set, length-append}
use Rattle.octets.specs.Bytes.{bytes_at, put, digits}
use Rattle.octets.proofs.Bytes.{whole, put_append}
use Rattle.octets.proofs.Numbers.{length_digits, put_join, put_digit}
use Rattle.l0.specs.Numbered.{CallRecord}
use Rattle.records.specs.declared.Head.{Head}
use Rattle.records.specs.Write.{head_of, head_number, packed}
use Rattle.records.specs.Private.{Narrow}

-- ---- numbers
-- two numbers written side by side are one
put_two : (n m : ℕ) (s : List ℕ) (i hi lo : ℕ) (x y : List ℕ) → lo < 256 ^ m → x ≡ put s i (digits n hi) → y ≡ put x (i + n) (digits m lo)
    → y ≡ put s i (digits (n + m) (hi * 256 ^ m + lo))
put_two n m s i hi lo x y l p q =
    put_join n m s i (hi * 256 ^ m + lo) x y (p ∙ ap (λ (z : ℕ). put s i (digits n z)) (sym (digits_div hi l)))
    (q ∙ ap (λ (z : ℕ). put x (i + n) (digits m z)) (sym (digits_mod hi l)))

-- seven bytes as 4, 2 and 1
pub seven_put : (s : List ℕ) (at v : ℕ) (x y : List ℕ) → x ≡ put s at (digits 4 (v / 16777216)) → y ≡ put x (at + 4) (digits 2 (v / 256 % 65536))
    → set y (at + 6) (v % 256) ≡ put s at (digits 7 v)
seven_put s at v x y p q =
    let e : v / 16777216 ≡ v / 256 / 65536 = omega arith in
    put_join 6 1 s at v y _ (put_join 4 2 s at (v / 256) x y (p ∙ ap (λ (z : ℕ). put s at (digits 4 z)) e) q)
    (put_digit y (at + 6) (v % 256) (omega arith))

-- a number of 64 bits whose last four stand in the next word
across : (a f y : ℕ) → (a * 2 ^ 60 + f / 16) * 2 ^ 64 + (f % 16 * 2 ^ 60 + y) ≡ (a * 2 ^ 64 + f) * 2 ^ 60 + y
across a f y =
    let e : (a * 2 ^ 60 + f / 16) * 16 + f % 16 ≡ a * 2 ^ 64 + f = omega arith in
    let g : (a * 2 ^ 60 + f / 16) * 2 ^ 64 + (f % 16 * 2 ^ 60 + y) ≡ ((a * 2 ^ 60 + f / 16) * 16 + f % 16) * 2 ^ 60 + y = omega arith in
    g ∙ ap (λ (z : ℕ). z * 2 ^ 60 + y) e

-- the same at the last seven bytes, behind which stand the short fields
last_across : (a n e d l : ℕ)
    → (a * 2 ^ 60 + n / 16) * 2 ^ 56 + ((n % 16 * 2 ^ 12 + e) * 2 ^ 34 + (d * 2 ^ 17 + l)) * 2 ^ 6 ≡ ((((a * 2 ^ 64 + n) * 2 ^ 12 + e) * 2 ^ 17 + d) * 2 ^ 17 + l) * 2 ^ 6
last_across a n e d l =
    let x : (a * 2 ^ 60 + n / 16) * 16 + n % 16 ≡ a * 2 ^ 64 + n = omega arith in
    let g : (a * 2 ^ 60 + n / 16) * 2 ^ 56 + ((n % 16 * 2 ^ 12 + e) * 2 ^ 34 + (d * 2 ^ 17 + l)) * 2 ^ 6
    ≡ (((((a * 2 ^ 60 + n / 16) * 16 + n % 16) * 2 ^ 12 + e) * 2 ^ 17 + d) * 2 ^ 17 + l) * 2 ^ 6 = omega arith in
    g ∙ ap (λ (z : ℕ). (((z * 2 ^ 12 + e) * 2 ^ 17 + d) * 2 ^ 17 + l) * 2 ^ 6) x

word_lt : (d n : ℕ) → n < 2 ^ 64 → d % 16 * 2 ^ 60 + n / 16 < 2 ^ 64
word_lt d n h = omega arith

last_lt : (n e d l : ℕ) → e < 2 ^ 12 → d < 2 ^ 17 → l < 2 ^ 17 → ((n % 16 * 2 ^ 12 + e) * 2 ^ 34 + (d * 2 ^ 17 + l)) * 2 ^ 6 < 2 ^ 56
last_lt n e d l he hd hl = omega arith

-- ---- a head written as three words and seven bytes
pub words_put : (s : List ℕ) (kind flags guest number a b c : ℕ) (w x y : List ℕ) → guest < 2 ^ 64 → number < 2 ^ 64
    → a ≡ kind * 2 ^ 60 + flags / 16 → b ≡ flags % 16 * 2 ^ 60 + guest / 16 → c ≡ guest % 16 * 2 ^ 60 + number / 16
    → w ≡ put s 0 (digits 8 a) → x ≡ put w 8 (digits 8 b) → y ≡ put x 16 (digits 8 c)
    → y ≡ put s 0 (digits 24 (((kind * 2 ^ 64 + flags) * 2 ^ 64 + guest) * 2 ^ 60 + number / 16))
words_put s kind flags guest number a b c w x y hg hn ea eb ec ew ex ey =
    let k = kind * 2 ^ 64 + flags in
    let lb : b < 2 ^ 64 = rw eb (word_lt flags guest hg) in
    let lc : c < 2 ^ 64 = rw ec (word_lt guest number hn) in
    let two : x ≡ put s 0 (digits 16 (k * 2 ^ 60 + guest / 16)) =
    put_two 8 8 s 0 a b w x lb ew ex
    ∙ ap (λ (v : ℕ). put s 0 (digits 16 v)) (ap₂ (λ (p q : ℕ). p * 2 ^ 64 + q) ea eb ∙ across kind flags (guest / 16)) in
    put_two 16 8 s 0 (k * 2 ^ 60 + guest / 16) c x y lc two ey
    ∙ ap (λ (v : ℕ). put s 0 (digits 24 v)) (ap (λ (q : ℕ). (k * 2 ^ 60 + guest / 16) * 2 ^ 64 + q) ec ∙ across k guest (number / 16))

pub head_put : (s : List ℕ) (h : Head) (x y : List ℕ) → Narrow h
    → x ≡ put s 0 (digits 24 (((h.kind * 2 ^ 64 + h.flags) * 2 ^ 64 + h.guest) * 2 ^ 60 + h.number / 16))
    → y ≡ put x 24 (digits 7 (((h.number % 16 * 2 ^ 12 + h.exit_reason) * 2 ^ 34 + (h.data_len * 2 ^ 17 + h.effect_len)) * 2 ^ 6))
    → y ≡ put s 0 (digits 31 (head_number h))
unfolding head_number
head_put s h x y narrow ex ey =
    let l = last_lt h.number h.exit_reason h.data_len h.effect_len narrow.exit_fits narrow.data_fits narrow.effect_fits in
    put_two 24 7 s 0 (((h.kind * 2 ^ 64 + h.flags) * 2 ^ 64 + h.guest) * 2 ^ 60 + h.number / 16) _ x y l ex ey
    ∙ ap (λ (v : ℕ). put s 0 (digits 31 v))
    (last_across ((h.kind * 2 ^ 64 + h.flags) * 2 ^ 64 + h.guest) h.number h.exit_reason h.data_len h.effect_len)

-- ---- a whole record
pub length_packed : (r : CallRecord) → length (packed r) ≡ 31 + length r.«data» + length r.effect
unfolding packed
length_packed r =
    omega (arith, length-append (digits 31 (head_number (head_of r))) (r.«data» ++ r.effect), length-append r.«data» r.effect, length_digits 31 (head_number (head_of r)))

pub record_put : (b : List ℕ) (r : CallRecord) (u v w : List ℕ) → u ≡ put b 0 (digits 31 (head_number (head_of r)))
    → v ≡ put u 31 (bytes_at r.«data» 0 (length r.«data»)) → w ≡ put v (31 + length r.«data») (bytes_at r.effect 0 (length r.effect))
    → w ≡ put b 0 (packed r)
unfolding packed
record_put b r u v w eu ev ew =
    let d = digits 31 (head_number (head_of r)) in
    let l : 0 + length (digits 31 (head_number (head_of r))) ≡ 31 = omega (arith, length_digits 31 (head_number (head_of r))) in
    ew
    ∙ ap₂ (λ (p q : List ℕ). put p (31 + length r.«data») q) (ev ∙ ap₂ (λ (p q : List ℕ). put p 31 q) eu (whole r.«data»)) (whole r.effect)
    ∙ sym (put_append (put b 0 d) 31 r.«data» r.effect)
    ∙ ap (λ (i : ℕ). put (put b 0 d) i (r.«data» ++ r.effect)) (sym l)
    ∙ sym (put_append b 0 d (r.«data» ++ r.effect))
