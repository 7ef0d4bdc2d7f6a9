-- A form being written value by value, in the form of the code's needs. Assumes nothing.
use mathlib.Core.Path.{◌≡◌, sym, ap, ap₂, ◌∙◌, subst}
use mathlib.Core.Bool.{Bool, true, false, not, cond}
use mathlib.Core.List.{List, ◌++◌}
use Prim.Native.Nat.{ℕ, suc, ◌+◌, ◌-◌, ◌*◌, ◌^◌, ◌≤◌, ◌<◌}
use native.Mathlib.Nat.{pow-suc}
use native.Mathlib.Numerals.{one-add}
use native.Mathlib.Omega.{arith}
use lib.Pow.{pow_mono}
use lib.ListN.{length, length-append}
use Rattle.octets.specs.Bytes.{bytes_at, put}
use Rattle.octets.proofs.Bytes.{length_bytes_at, part_of_part, put_nil, put_append}
use Rattle.handover.specs.declared.Run.{Run}
use Rattle.handover.specs.Form.{state_bytes, size, is_zero, value, present, presence, kept, body, state_at}
use Rattle.handover.specs.Private.{place, IsPart, Room, onward, written}
use Rattle.handover.proofs.Values.{place_next, value_at_lem}
use Rattle.handover.proofs.Places.{part_next, part_upto, part_room}
use Rattle.handover.proofs.Walk.{kept_on, kept_off, kept_long}
use Rattle.handover.proofs.Presence.{bit_of_lem, presence_first, behind_behind}

abbrev run : ℕ → ℕ → Run
run a w = record { at = a; word = w }

-- ---- one value
module _ (s : List ℕ) (from n : ℕ) (r : Run) (z : Bool) (e : z ≡ is_zero (bytes_at s from n)) where
  pub absent_run : z ≡ true → record { at = r.at; word = r.word * 2 } ≡ onward r (bytes_at s from n)
  unfolding onward
  absent_run t =
      let i : is_zero (bytes_at s from n) ≡ true = sym e ∙ t in
      let a : r.at ≡ r.at + 0 = omega arith in
      let w : r.word * 2 ≡ r.word * 2 + 0 = omega arith in
      ap₂ run (a ∙ ap (λ (x : List ℕ). r.at + length x) (sym (kept_off _ i))) (w ∙ ap (λ (x : Bool). r.word * 2 + cond (not x) 1 0) (sym i))

  pub absent_kept : z ≡ true → (b : List ℕ) (at : ℕ) → b ≡ put b at (kept (bytes_at s from n))
  absent_kept t b at = sym (ap (put b at) (kept_off _ (sym e ∙ t)) ∙ put_nil b at)

  pub present_run : z ≡ false → from + n ≤ length s → record { at = r.at + n; word = r.word * 2 + 1 } ≡ onward r (bytes_at s from n)
  unfolding onward
  present_run t l =
      let i : is_zero (bytes_at s from n) ≡ false = sym e ∙ t in
      ap₂ run (ap (λ (x : ℕ). r.at + x) (sym (ap length (kept_on _ i) ∙ length_bytes_at s from n l))) (ap (λ (x : Bool). r.word * 2 + cond (not x) 1 0) (sym i))

  pub present_kept : z ≡ false → (b : List ℕ) (at : ℕ) (c : List ℕ) → c ≡ put b at (bytes_at s from n) → c ≡ put b at (kept (bytes_at s from n))
  present_kept t b at c h = h ∙ ap (put b at) (sym (kept_on _ (sym e ∙ t)))

-- ---- the elements of a part, in turn
-- a bit behind the word, and n bits behind that
shifted : (w c n m : ℕ) → (w * 2 + c) * 2 ^ n + m ≡ w * 2 ^ suc n + (c * 2 ^ n + m)
shifted w c n m = behind_behind w 1 c n m ∙ ap (λ (k : ℕ). w * 2 ^ k + (c * 2 ^ n + m)) (one-add n)

module _ (s : List ℕ) (base e here : ℕ) (from to wide first : ℕ) (ip : IsPart from to wide first) (h : base + state_bytes ≤ length s) (lo : from ≤ e) (hi : e < to)
    (at : here ≡ base + place e) where
  abbrev v : List ℕ
  v = state_at s base

  abbrev x : List ℕ
  x = bytes_at s here wide

  upto : (place (e + 1) ≤ place to) × (place to ≤ state_bytes)
  upto = part_upto e from to wide first ip hi

  value_here : value v e ≡ x
  value_here =
      value_at_lem v e (omega (arith, ip.within))
      ∙ part_of_part s base state_bytes (place e) (size e) (omega (arith, place_next e, upto.0, upto.1))
      ∙ ap₂ (bytes_at s) (sym at) (ip.alike e lo hi)

  left : to - e ≡ suc (to - (e + 1))
  left = omega arith

  body_here : body v e (to - e) ≡ kept x ++ body v (e + 1) (to - (e + 1))
  unfolding body
  body_here = ap (body v e) left ∙ ap (λ (y : List ℕ). kept y ++ body v (e + 1) (to - (e + 1))) value_here

  presence_here : presence (present v) e (to - e) ≡ cond (not (is_zero x)) 1 0 * 2 ^ (to - (e + 1)) + presence (present v) (e + 1) (to - (e + 1))
  presence_here =
      ap (presence (present v) e) left ∙ presence_first (present v) e (to - (e + 1))
      ∙ ap (λ (y : List ℕ). cond (not (is_zero y)) 1 0 * 2 ^ (to - (e + 1)) + presence (present v) (e + 1) (to - (e + 1))) value_here

  module _ (r q : Run) (o : q ≡ onward r x) where
    at_onward : q.at ≡ r.at + length (kept x)
    unfolding onward
    at_onward = ap (λ (y : Run). y.at) o

    word_onward : q.word ≡ r.word * 2 + cond (not (is_zero x)) 1 0
    unfolding onward
    word_onward = ap (λ (y : Run). y.word) o

    pub run_turn : (t : Run) → t ≡ written r v e (to - e) → t ≡ written q v (e + 1) (to - (e + 1))
    unfolding written
    run_turn t w =
        let n = to - (e + 1) in
        let a : r.at + length (body v e (to - e)) ≡ q.at + length (body v (e + 1) n) =
        omega (arith, at_onward, ap length body_here, length-append (kept x) (body v (e + 1) n)) in
        let c : r.word * 2 ^ (to - e) + presence (present v) e (to - e) ≡ q.word * 2 ^ n + presence (present v) (e + 1) n =
        ap₂ (λ (i j : ℕ). r.word * 2 ^ i + j) left presence_here
        ∙ sym (shifted r.word (cond (not (is_zero x)) 1 0) n (presence (present v) (e + 1) n))
        ∙ ap (λ (i : ℕ). i * 2 ^ n + presence (present v) (e + 1) n) (sym word_onward) in
        w ∙ ap₂ run a c

    pub buffer_turn : (t b c : List ℕ) → t ≡ put b r.at (body v e (to - e)) → c ≡ put b r.at (kept x)
        → t ≡ put c q.at (body v (e + 1) (to - (e + 1)))
    buffer_turn t b c w k =
        w ∙ ap (put b r.at) body_here ∙ put_append b r.at (kept x) (body v (e + 1) (to - (e + 1)))
        ∙ ap₂ (λ (y : List ℕ) (i : ℕ). put y i (body v (e + 1) (to - (e + 1)))) (sym k) (sym at_onward)

    pub room_turn : (len : ℕ) → Room e to r len → Room (e + 1) to q len
    room_turn len m =
        let k = 64 - (to - e) in
        let z : suc (64 - (to - e)) ≡ 64 - (to - (e + 1)) = omega (arith, ip.few) in
        let c : cond {A = ℕ} (not (is_zero x)) 1 0 < 2 = bit_of_lem (not (is_zero x)) in
        record {
          bytes = omega (arith, m.bytes, at_onward, kept_long x, length_bytes_at s here wide (part_room base e here from to wide first ip lo hi at (length s) h), part_next e from to wide first ip lo hi);
          bits = subst (λ (i : ℕ). q.word < 2 ^ i) z (omega (arith, m.bits, word_onward, pow-suc 2 k, c));
        }

  pub word_here : (r : Run) (len : ℕ) → Room e to r len → r.word < 2 ^ 63
  word_here r len m = let u : 2 ^ (64 - (to - e)) ≤ 2 ^ 63 = pow_mono {i = 64 - (to - e)} {j = 63} (omega arith) in omega (arith, m.bits)

  pub room_here : (r : Run) (len l : ℕ) → Room e to r len → l ≡ len → r.at + wide ≤ l
  room_here r len l m q = omega (arith, m.bytes, part_next e from to wide first ip lo hi, upto.0)

pub run_end : (v : List ℕ) (e to : ℕ) (r t : Run) → t ≡ written r v e (to - e) → to ≤ e → r ≡ t
unfolding written body presence
run_end v e to r t w h =
    let z : to - e ≡ 0 = omega arith in
    let a : r.at + 0 ≡ r.at = omega arith in
    let c : r.word * 1 + 0 ≡ r.word = omega arith in
    sym (w ∙ ap (written r v e) z ∙ ap₂ run a c)

pub buffer_end : (v : List ℕ) (e to : ℕ) (t b : List ℕ) (at : ℕ) → t ≡ put b at (body v e (to - e)) → to ≤ e → b ≡ t
unfolding body
buffer_end v e to t b at w h =
    let z : to - e ≡ 0 = omega arith in
    sym (w ∙ ap (λ (k : ℕ). put b at (body v e k)) z ∙ put_nil b at)
