-- A buffer that holds the body of a state gives its values, and one that is judged good holds the body of the values it gives: one
-- induction each, over what is left. Assumes nothing.
use mathlib.Core.Path.{◌≡◌, refl, sym, ap, ap₂, ◌∙◌}
use mathlib.Core.Bool.{Bool, true, false, not, ◌&&◌}
use mathlib.Core.List.{List, [], ◌++◌, append_assoc}
use Prim.Native.Nat.{ℕ, zero, suc, ◌+◌, ◌≤◌, ◌<◌}
use native.Mathlib.Decide.{dec_lt}
use native.Mathlib.Omega.{arith}
use lib.Dec.{leb}
use lib.ListN.{length, take, drop, length-append, length-drop, take-append-drop}
use lib.Seq.{take_at, drop_at, drop-drop}
use borrow.Author.Tests.{le-leb, leb-true, not-true}
use Rattle.octets.specs.Bytes.{bytes_at, zeros}
use Rattle.octets.proofs.Bytes.{part_lent, length_bytes_at, length_zeros}
use Rattle.handover.specs.Form.{count, size, is_zero, value, present, kept, body, is_shown, next, read, sound, holds, given}
use Rattle.handover.specs.Private.{place}
use Rattle.handover.proofs.Values.{both, zero_is, zeros_zero, cut, place_rest, all, value_long}

-- ---- one element, present or not
module _ (b : List ℕ) (e at : ℕ) where
  pub next_on : is_shown b e ≡ true → next b e at ≡ at + size e
  unfolding next
  next_on h = simp h

  pub next_off : is_shown b e ≡ false → next b e at ≡ at
  unfolding next
  next_off h = simp h (omega arith)

  pub read_on : is_shown b e ≡ true → read b e at ≡ bytes_at b at (size e)
  unfolding read
  read_on h = simp h

  pub read_off : is_shown b e ≡ false → read b e at ≡ zeros (size e)
  unfolding read
  read_off h = simp h

  pub sound_on : is_shown b e ≡ true → sound b e at ≡ leb (at + size e) (length b) && not (is_zero (bytes_at b at (size e)))
  unfolding sound
  sound_on h = simp h

  pub sound_off : is_shown b e ≡ false → sound b e at ≡ true
  unfolding sound
  sound_off h = simp h

pub kept_on : (x : List ℕ) → is_zero x ≡ false → kept x ≡ x
unfolding kept
kept_on x h = simp h

pub kept_off : (x : List ℕ) → is_zero x ≡ true → kept x ≡ []
unfolding kept
kept_off x h = simp h

pub kept_long : (x : List ℕ) → length (kept x) ≤ length x
kept_long x = go (is_zero x) refl
  where
    go : (z : Bool) → is_zero x ≡ z → length (kept x) ≤ length x
    go true z = omega (arith, ap length (kept_off x z))
    go false z = omega (arith, ap length (kept_on x z))

-- ---- from a form to its values
record Read (b x : List ℕ) (e at : ℕ) (more : List ℕ) : Type 0 where
  good : sound b e at ≡ true
  same : read b e at ≡ x
  inside : next b e at ≤ length b
  left : drop (next b e at) b ≡ more

-- x is the value of element e, and at `at` the buffer holds what is kept of it and then `more`
form_step : (b x : List ℕ) (e at : ℕ) (more : List ℕ) → length x ≡ size e → is_shown b e ≡ not (is_zero x) → at ≤ length b
    → drop at b ≡ kept x ++ more → Read b x e at more
form_step b x e at more l m h d = go (is_zero x) refl
  where
    go : (z : Bool) → is_zero x ≡ z → Read b x e at more
    go true z =
        let off : is_shown b e ≡ false = m ∙ ap not z in
        record {
          good = sound_off b e at off;
          same = read_off b e at off ∙ sym (zero_is x z ∙ ap zeros l);
          inside = rw (next_off b e at off) h;
          left = ap (λ (k : ℕ). drop k b) (next_off b e at off) ∙ d ∙ ap (λ (y : List ℕ). y ++ more) (kept_off x z);
        }
    go false z =
        let on : is_shown b e ≡ true = m ∙ ap not z in
        let d' : drop at b ≡ x ++ more = d ∙ ap (λ (y : List ℕ). y ++ more) (kept_on x z) in
        let p : bytes_at b at (size e) ≡ x = sym (part_lent b at (size e)) ∙ ap (take (size e)) d' ∙ take_at x more (size e) l in
        let q : drop (at + size e) b ≡ more = sym (drop-drop (size e) at b) ∙ ap (drop (size e)) d' ∙ drop_at x more (size e) l in
        let i : at + size e ≤ length b = omega (arith, l, h, simp (length-drop, length-append) at (ap length d')) in
        record {
          good = sound_on b e at on ∙ ap₂ (λ (y w : Bool). y && not w) (le-leb (at + size e) (length b) i) (ap is_zero p ∙ z);
          same = read_on b e at on ∙ p;
          inside = rw (next_on b e at on) i;
          left = ap (λ (k : ℕ). drop k b) (next_on b e at on) ∙ q;
        }

pub form_walk : (b v rest : List ℕ) (n e at : ℕ) → ((x : ℕ) → e ≤ x → x < e + n → is_shown b x ≡ present v x) → e + n ≤ count → place (e + n) ≤ length v
    → at ≤ length b → drop at b ≡ body v e n ++ rest → (holds b e n at ≡ true) × (given b e n at ≡ all v e n)
unfolding holds given all body
form_walk b v rest zero e at m c l h d = (refl, refl)
form_walk b v rest (suc n) e at m c l h d =
    let s =
    form_step b (value v e) e at (body v (e + 1) n ++ rest) (value_long v n e c l) (m e (omega arith) (omega arith)) h
    (d ∙ append_assoc (kept (value v e)) (body v (e + 1) n) rest) in
    let r =
    form_walk b v rest n (e + 1) (next b e at) (λ x p q. m x (omega arith) (omega arith)) (omega arith) (omega (arith, place_rest n e)) s.inside
    s.left in
    (ap₂ (λ (x y : Bool). x && y) s.good r.0, ap₂ (λ (x y : List ℕ). x ++ y) s.same r.1)

-- ---- from a good buffer to the body of its values
record Kept (b x : List ℕ) (e at : ℕ) : Type 0 where
  same : not (is_zero x) ≡ is_shown b e
  inside : next b e at ≤ length b
  left : drop at b ≡ kept x ++ drop (next b e at) b
  after : next b e at ≡ at + length (kept x)

pub read_long : (b : List ℕ) (e at : ℕ) → sound b e at ≡ true → length (read b e at) ≡ size e
read_long b e at g = go (is_shown b e) refl
  where
    go : (m : Bool) → is_shown b e ≡ m → length (read b e at) ≡ size e
    go true m =
        let p = both (leb (at + size e) (length b)) (not (is_zero (bytes_at b at (size e)))) (sym (sound_on b e at m) ∙ g) in
        ap length (read_on b e at m) ∙ length_bytes_at b at (size e) (leb-true _ _ p.0)
    go false m = ap length (read_off b e at m) ∙ length_zeros (size e)

given_step : (b x : List ℕ) (e at : ℕ) → sound b e at ≡ true → at ≤ length b → x ≡ read b e at → Kept b x e at
given_step b x e at g h r = go (is_shown b e) refl
  where
    go : (m : Bool) → is_shown b e ≡ m → Kept b x e at
    go true m =
        let p = both (leb (at + size e) (length b)) (not (is_zero (bytes_at b at (size e)))) (sym (sound_on b e at m) ∙ g) in
        let i : at + size e ≤ length b = leb-true _ _ p.0 in
        let y : x ≡ bytes_at b at (size e) = r ∙ read_on b e at m in
        let z : is_zero x ≡ false = ap is_zero y ∙ not_true' p.1 in
        let k : kept x ≡ bytes_at b at (size e) = kept_on x z ∙ y in
        record {
          same = ap not z ∙ sym m;
          inside = rw (next_on b e at m) i;
          left =
              sym (take-append-drop (size e) (drop at b))
              ∙ ap₂ (λ (u w : List ℕ). u ++ w) (part_lent b at (size e) ∙ sym k) (drop-drop (size e) at b ∙ ap (λ (n : ℕ). drop n b) (sym (next_on b e at m)));
          after = next_on b e at m ∙ ap (λ (n : ℕ). at + n) (sym (ap length k ∙ length_bytes_at b at (size e) i));
        }
      where
        not_true' : not (is_zero (bytes_at b at (size e))) ≡ true → is_zero (bytes_at b at (size e)) ≡ false
        not_true' w = not-true (is_zero (bytes_at b at (size e))) w
    go false m =
        let z : is_zero x ≡ true = ap is_zero (r ∙ read_off b e at m) ∙ zeros_zero (size e) in
        let a : at ≡ at + 0 = omega arith in
        record {
          same = ap not z ∙ sym m;
          inside = rw (next_off b e at m) h;
          left = sym (ap₂ (λ (u : List ℕ) (n : ℕ). u ++ drop n b) (kept_off x z) (next_off b e at m));
          after = next_off b e at m ∙ a ∙ ap (λ (u : List ℕ). at + length u) (sym (kept_off x z));
        }

pub given_walk : (b v : List ℕ) (n e at : ℕ) → e + n ≤ count → place (e + n) ≤ length v → holds b e n at ≡ true → at ≤ length b → all v e n ≡ given b e n at
    → ((x : ℕ) → e ≤ x → x < e + n → present v x ≡ is_shown b x) × (drop at b ≡ body v e n ++ drop (at + length (body v e n)) b)
unfolding holds given all body
given_walk b v zero e at k l g h q = let a : at ≡ at + 0 = omega arith in (λ x i j. absurd (omega arith), ap (λ (n : ℕ). drop n b) a)
given_walk b v (suc n) e at k l g h q =
    let p = both (sound b e at) (holds b (e + 1) n (next b e at)) g in
    let c = cut (size e) (value v e) (all v (e + 1) n) (read b e at) (given b (e + 1) n (next b e at)) (value_long v n e k l) (read_long b e at p.0) q in
    let s = given_step b (value v e) e at p.0 h c.0 in
    let r = given_walk b v n (e + 1) (next b e at) (omega arith) (omega (arith, place_rest n e)) p.1 s.inside c.1 in
    let a : next b e at + length (body v (e + 1) n) ≡ at + length (kept (value v e) ++ body v (e + 1) n) =
    omega (arith, s.after, length-append (kept (value v e)) (body v (e + 1) n)) in (
      λ x i j. first x (dec_lt e x) i j s.same r.0,
      s.left ∙ ap (λ (u : List ℕ). kept (value v e) ++ u) r.1 ∙ sym (append_assoc (kept (value v e)) (body v (e + 1) n) (drop (next b e at + length (body v (e + 1) n)) b)) ∙ ap (λ (i : ℕ). kept (value v e) ++ body v (e + 1) n ++ drop i b) a,
    )
  where
    first : (x : ℕ) → Dec (e < x) → e ≤ x → x < e + suc n → present v e ≡ is_shown b e → ((y : ℕ) → e + 1 ≤ y → y < e + 1 + n → present v y ≡ is_shown b y)
        → present v x ≡ is_shown b x
    first x (yes k) i j f t = t x (omega arith) (omega arith)
    first x (no k) i j f t = let z : e ≡ x = omega arith in rw (← z) f
