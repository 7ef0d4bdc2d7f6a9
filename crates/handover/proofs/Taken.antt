-- What is written of one part after another, and then the head, in the form of the code's needs. Assumes nothing.
use mathlib.Core.Path.{◌≡◌, sym, ap, ap₂, ◌∙◌}
use mathlib.Core.List.{List, ◌++◌, append_assoc}
use Prim.Native.Nat.{ℕ, zero, suc, ◌+◌, ◌-◌, ◌*◌, ◌^◌, ◌≤◌, ◌<◌}
use native.Mathlib.Omega.{arith}
use mir.Syntax.{w64}
use mir.Val.{Fits}
use lib.Dec.{lit<, lit≤}
use lib.Pow.{pow_mono, high, low}
use lib.ListN.{length, length-append}
use Rattle.octets.specs.Bytes.{put, digits, zeros, right}
use Rattle.octets.proofs.Bytes.{length_bytes_at, length_put, put_append, put_comm}
use Rattle.octets.proofs.Numbers.{length_digits, digits_add, digits_low}
use Rattle.handover.specs.declared.Run.{Run}
use Rattle.handover.specs.declared.Words.{Words}
use Rattle.handover.specs.Form.{state_bytes, count, value, present, presence, behind, head, kept, body, form, state_at, taken}
use Rattle.handover.specs.Private.{place, Room, written, Wrote, word_bytes, WroteAll}
use Rattle.handover.proofs.Places.{place_up, place_within}
use Rattle.handover.proofs.Presence.{presence_lt, presence_add, behind_lt, behind_behind}
use Rattle.handover.proofs.Fields.{length_head}
use Rattle.handover.proofs.Theorems.{body_long}

-- ---- the room for what follows
pub room_less : (e k to : ℕ) (r : Run) (len : ℕ) → Room e to r len → e ≤ k → k ≤ to → Room e k r len
room_less e k to r len m i j =
    let p : 2 ^ (64 - (to - e)) ≤ 2 ^ (64 - (k - e)) = pow_mono {i = 64 - (to - e)} {j = 64 - (k - e)} (omega arith) in
    record { bytes = omega (arith, m.bytes, place_up k to j); bits = omega (arith, m.bits) }

-- ---- one behind the other
body_add : (v : List ℕ) (m n e : ℕ) → body v e (n + m) ≡ body v e n ++ body v (e + n) m
unfolding body
body_add v m zero e = let a : 0 + m ≡ m = omega arith in let c : e ≡ e + 0 = omega arith in ap₂ (λ (i j : ℕ). body v i j) c a
body_add v m (suc n) e =
    let a : suc n + m ≡ suc (n + m) = omega arith in
    let c : e + 1 + n ≡ e + suc n = omega arith in
    ap (body v e) a ∙ ap (λ (x : List ℕ). kept (value v e) ++ x) (body_add v m n (e + 1)) ∙ sym (append_assoc (kept (value v e)) (body v (e + 1) n) (body v (e + 1 + n) m))
    ∙ ap (λ (i : ℕ). kept (value v e) ++ body v (e + 1) n ++ body v i m) c

-- a body written, and the next values behind it
body_on : (v : List ℕ) (e n m at : ℕ) (b c d : List ℕ) → c ≡ put b at (body v e n) → d ≡ put c (at + length (body v e n)) (body v (e + n) m) → d ≡ put b at (body v e (n + m))
body_on v e n m at b c d p q =
    q ∙ ap (λ (x : List ℕ). put x (at + length (body v e n)) (body v (e + n) m)) p ∙ sym (put_append b at (body v e n) (body v (e + n) m)) ∙ ap (put b at) (sym (body_add v m n e))

-- what was written of n elements from e on
module _ (v : List ℕ) (e n : ℕ) (r q : Run) (b c : List ℕ) (w : Wrote v e n r q b c) where
  at_is : q.at ≡ r.at + length (body v e n)
  unfolding written
  at_is = ap (λ (y : Run). y.at) w.run

  word_is : q.word ≡ r.word * 2 ^ n + presence (present v) e n
  unfolding written
  word_is = ap (λ (y : Run). y.word) w.run

  bytes_on : (k : ℕ) → e + n ≤ count → place (e + n) ≤ length v → r.at + k ≤ place e + length b → q.at + k ≤ place (e + n) + length c
  bytes_on k i h l = omega (arith, at_is, body_long v n e i h, ap length w.buffer, length_put b r.at (body v e n))

-- what there is to write of
state_long : (s : List ℕ) (base e : ℕ) → base + state_bytes ≤ length s → e ≤ count → place e ≤ length (state_at s base)
state_long s base e h l = omega (arith, place_within e l, length_bytes_at s base state_bytes h)

pub room_on : (e n : ℕ) (s : List ℕ) (base : ℕ) (r q : Run) (b c : List ℕ) (to : ℕ) → base + state_bytes ≤ length s → Wrote (state_at s base) e n r q b c → Room e to r (length b)
    → e + n ≤ to → to ≤ count → to ≤ e + 64 → Room (e + n) to q (length c)
room_on e n s base r q b c to h w m i j l =
    let v = state_at s base in
    let k : 64 - (to - e) + n ≡ 64 - (to - (e + n)) = omega arith in
    record {
      bytes = bytes_on v e n r q b c w (place to) (omega arith) (state_long s base (e + n) h (omega arith)) m.bytes;
      bits = rw (← k) (rw (word_is v e n r q b c w) (behind_lt (64 - (to - e)) n r.word (presence (present v) e n) m.bits (presence_lt (present v) e n)));
    }

-- the next m elements
pub wrote_on : (e n m : ℕ) (v : List ℕ) (r q t : Run) (b c d : List ℕ) → Wrote v e n r q b c → Wrote v (e + n) m q t c d → Wrote v e (n + m) r t b d
unfolding written
wrote_on e n m v r q t b c d w u =
    let i = at_is v e n r q b c w in
    let a : q.at + length (body v (e + n) m) ≡ r.at + length (body v e (n + m)) =
    omega (arith, i, ap length (body_add v m n e), length-append (body v e n) (body v (e + n) m)) in
    let k : q.word * 2 ^ m + presence (present v) (e + n) m ≡ r.word * 2 ^ (n + m) + presence (present v) e (n + m) =
    ap (λ (x : ℕ). x * 2 ^ m + presence (present v) (e + n) m) (word_is v e n r q b c w)
    ∙ behind_behind r.word n (presence (present v) e n) m (presence (present v) (e + n) m)
    ∙ ap (λ (x : ℕ). r.word * 2 ^ (n + m) + x) (sym (presence_add (present v) e n m)) in
    record {
      run = u.run ∙ ap₂ (λ (x y : ℕ). record { at = x; word = y }) a k;
      buffer = body_on v e n m r.at b c d w.buffer (u.buffer ∙ ap (λ (j : ℕ). put c j (body v (e + n) m)) i);
    }

-- ---- the room that the three words have
pub room_first : (vcpu len : ℕ) → vcpu < 2048 → 1844 ≤ len → Room 0 48 (record { at = 24; word = 4096 + 2 * vcpu }) len
room_first vcpu len h l = record { bytes = omega (arith, place_within 48 (lit≤ tt)); bits = omega arith }

pub room_second : (at len : ℕ) → at + state_bytes ≤ place 48 + len → Room 48 112 (record { at = at; word = 0 }) len
room_second at len l = record { bytes = omega (arith, place_within 112 (lit≤ tt)); bits = lit< tt }

pub room_third : (at len : ℕ) → at + state_bytes ≤ place 112 + len → Room 112 170 (record { at = at; word = 0 }) len
room_third at len l = record { bytes = omega (arith, place_within 170 (lit≤ tt)); bits = lit< tt }

module _ (s : List ℕ) (base w : ℕ) (r : Run) (b c : List ℕ) (h : base + state_bytes ≤ length s) where
  pub bytes_second : Wrote (state_at s base) 0 48 (record { at = 24; word = w }) r b c → 1844 ≤ length b → r.at + state_bytes ≤ place 48 + length c
  bytes_second u l = bytes_on (state_at s base) 0 48 _ r b c u state_bytes (lit≤ tt) (state_long s base 48 h (lit≤ tt)) (omega arith)

  pub bytes_third : (at : ℕ) → Wrote (state_at s base) 48 64 (record { at = at; word = w }) r b c → at + state_bytes ≤ place 48 + length b → r.at + state_bytes ≤ place 112 + length c
  bytes_third at u l = bytes_on (state_at s base) 48 64 _ r b c u state_bytes (lit≤ tt) (state_long s base 112 h (lit≤ tt)) l

-- ---- the three words of the head
words_head : (vcpu p q r : ℕ) → q < 2 ^ 64 → r < 2 ^ 58
    → digits 8 (behind (4096 + 2 * vcpu) 48 p) ++ (digits 8 q ++ digits 8 (r * 64)) ≡ head vcpu (behind (behind p 64 q) 58 r)
unfolding head
words_head vcpu p q r g h =
    let t = 4096 + 2 * vcpu in
    let top : behind (behind 1 11 vcpu) 1 0 ≡ t = omega arith in
    let w = behind t 48 p in
    let z : r * 64 ≡ behind r 6 0 = omega arith in
    let n : behind (behind (behind (behind 1 11 vcpu) 1 0) 170 (behind (behind p 64 q) 58 r)) 6 0 ≡ behind (behind w 64 q) 64 (r * 64) =
    ap (λ (x : ℕ). behind (behind x 170 (behind (behind p 64 q) 58 r)) 6 0) top
    ∙ ap (λ (x : ℕ). behind x 6 0) (sym (behind_behind t 112 (behind p 64 q) 58 r))
    ∙ ap (λ (x : ℕ). behind (behind x 58 r) 6 0) (sym (behind_behind t 48 p 64 q))
    ∙ behind_behind (behind w 64 q) 58 r 6 0 ∙ ap (λ (x : ℕ). behind (behind w 64 q) 64 x) (sym z) in
    let l : r * 64 < 2 ^ 64 = omega arith in
    sym (ap (digits 24) n ∙ last 16 (behind w 64 q) (r * 64) l ∙ ap (λ (x : List ℕ). x ++ digits 8 (r * 64)) (last 8 w q g) ∙ append_assoc (digits 8 w) (digits 8 q) (digits 8 (r * 64)))
  where
    last : (k x y : ℕ) → y < 2 ^ 64 → digits (k + 8) (behind x 64 y) ≡ digits k x ++ digits 8 y
    last k x y l =
        digits_add k 8 (behind x 64 y)
        ∙ ap₂ (λ (a c : List ℕ). a ++ c) (ap (digits k) (high x 64 l)) (sym (digits_low 8 (behind x 64 y)) ∙ ap (digits 8) (low x 64 l))

-- ---- the bits of the third word, and six zeros behind them
module _ (v : List ℕ) (at : ℕ) (q : Run) (b c : List ℕ) (x : Wrote v 112 58 (record { at = at; word = 0 }) q b c) where
  third_word : q.word ≡ presence (present v) 112 58
  third_word = word_is v 112 58 _ q b c x ∙ omega arith

  pub third_fits : Fits w64 (q.word * 64)
  third_fits = record { fits = omega (arith, third_word, presence_lt (present v) 112 58) }

-- ---- all values
module _ (s b b₁ b₂ b₃ : List ℕ) (base vcpu : ℕ) (r t q : Run)
    (w : Wrote (state_at s base) 0 48 (record { at = 24; word = 4096 + 2 * vcpu }) r b b₁)
    (u : Wrote (state_at s base) 48 64 (record { at = r.at; word = 0 }) t b₁ b₂)
    (x : Wrote (state_at s base) 112 58 (record { at = t.at; word = 0 }) q b₂ b₃) where
  abbrev v : List ℕ
  v = state_at s base

  all_body : b₃ ≡ put b 24 (body v 0 170)
  all_body =
      let i : r.at ≡ 24 + length (body v 0 48) = at_is v 0 48 _ r b b₁ w in
      let j : t.at ≡ 24 + length (body v 0 112) =
      omega (arith, i, at_is v 48 64 _ t b₁ b₂ u, ap length (body_add v 64 48 0), length-append (body v 0 48) (body v 48 64)) in
      body_on v 0 112 58 24 b b₂ b₃ (body_on v 0 48 64 24 b b₁ b₂ w.buffer (u.buffer ∙ ap (λ (k : ℕ). put b₁ k (body v 48 64)) i)) (x.buffer ∙ ap (λ (k : ℕ). put b₂ k (body v 112 58)) j)

  all_words : digits 8 r.word ++ (digits 8 t.word ++ digits 8 (q.word * 64)) ≡ head vcpu (presence (present v) 0 170)
  all_words =
      let second : t.word ≡ presence (present v) 48 64 = word_is v 48 64 _ t b₁ b₂ u ∙ omega arith in
      let p = presence (present v) in
      ap₂ (λ (i j : ℕ). digits 8 i ++ (digits 8 j ++ digits 8 (q.word * 64))) (word_is v 0 48 _ r b b₁ w) second
      ∙ ap (λ (i : ℕ). digits 8 (behind (4096 + 2 * vcpu) 48 (p 0 48)) ++ (digits 8 (p 48 64) ++ digits 8 (i * 64))) (third_word v t.at q b₂ b₃ x)
      ∙ words_head vcpu (p 0 48) (p 48 64) (p 112 58) (presence_lt (present v) 48 64) (presence_lt (present v) 112 58)
      ∙ ap (λ (i : ℕ). head vcpu (behind i 58 (p 112 58))) (sym (presence_add (present v) 0 48 64)) ∙ ap (head vcpu) (sym (presence_add (present v) 0 112 58))

  pub all_wrote : WroteAll vcpu (state_at s base) (record { first = r.word; second = t.word; third = q.word * 64 }) b b₃
  unfolding word_bytes
  all_wrote = record { head_is = all_words; buffer = all_body }

-- ---- the head before them
pub head_put : (h : Words) (b b₁ b₂ b₃ : List ℕ) → b₁ ≡ put b 0 (digits 8 h.first) → b₂ ≡ put b₁ 8 (digits 8 h.second) → b₃ ≡ put b₂ 16 (digits 8 h.third)
    → b₃ ≡ put b 0 (word_bytes h)
unfolding word_bytes
head_put h b b₁ b₂ b₃ p q r =
    let x = digits 8 h.first in
    let y = digits 8 h.second in
    let z = digits 8 h.third in
    let i : 8 ≡ 0 + length x = omega (arith, length_digits 8 h.first) in
    let j : 16 ≡ 8 + length y = omega (arith, length_digits 8 h.second) in
    r ∙ ap₂ (λ (c : List ℕ) (k : ℕ). put c k z) q j ∙ sym (put_append b₁ 8 y z) ∙ ap₂ (λ (c : List ℕ) (k : ℕ). put c k (y ++ z)) p i ∙ sym (put_append b 0 x (y ++ z))

pub all_taken : (vcpu base : ℕ) (s s₁ b b₁ b₂ : List ℕ) (h : Words) → WroteAll vcpu (state_at s base) h b b₁ → b₂ ≡ put b₁ 0 (word_bytes h) → s₁ ≡ put s base (zeros 1820)
    → record { store = s₁; buffer = b₂ } ≡ taken vcpu base s b
unfolding taken form
all_taken vcpu base s s₁ b b₁ b₂ h w p z =
    let v = state_at s base in
    let m = presence (present v) 0 170 in
    let j : 0 + length (head vcpu m) ≡ 24 = omega (arith, length_head vcpu m) in
    ap₂ (λ (x y : List ℕ). record { store = x; buffer = y }) z
    (p ∙ ap₂ (λ (x y : List ℕ). put x 0 y) w.buffer w.head_is ∙ put_comm b 24 (body v 0 170) 0 (head vcpu m) (right (omega (arith, length_head vcpu m)))
    ∙ sym (put_append b 0 (head vcpu m) (body v 0 170) ∙ ap (λ (k : ℕ). put (put b 0 (head vcpu m)) k (body v 0 170)) j))
