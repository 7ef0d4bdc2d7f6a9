-- A form judged and its values stored, one part after another, in the form of the code's needs. Assumes nothing.
use mathlib.Core.Path.{◌≡◌, refl, sym, ap, ap₂, ◌∙◌}
use mathlib.Core.Bool.{Bool, true, false, not, ◌&&◌, cond}
use mathlib.Core.List.{List, ◌++◌, append_assoc}
use Prim.Native.Nat.{ℕ, zero, suc, ◌+◌, ◌*◌, ◌/◌, ◌%◌, ◌^◌, ◌≤◌, ◌<◌}
use native.Mathlib.Omega.{arith}
use mir.Syntax.{w8}
use mir.Val.{Fits}
use lib.Dec.{eqb, leb}
use lib.ListN.{length, get_or}
use lib.Pow.{high, low}
use borrow.Author.Tests.{le-leb, leb-true, eqb-true, eqb-false, not-true, not-false}
use Rattle.octets.specs.Bytes.{bytes_at, put, be}
use Rattle.octets.specs.Bits.{bits}
use Rattle.octets.proofs.Bytes.{put_append}
use Rattle.octets.proofs.Bits.{bits_lt, bits_add, bits_be}
use Rattle.std.proofs.Common.{Option, None, Some, is_some}
use Rattle.handover.specs.Form.{size, is_zero, presence, behind, is_shown, next, read, sound, holds, given, opens, begins, values_of, given_back}
use Rattle.handover.specs.Private.{place, after, walked, Gave}
use Rattle.handover.proofs.Values.{both}
use Rattle.handover.proofs.Walk.{next_on, next_off, sound_on}
use Rattle.handover.proofs.Presence.{presence_bits}
use Rattle.handover.proofs.Fields.{Fields, opens_fields, fields_open}
use Rattle.handover.proofs.Theorems.{given_long, begins_parts, accepted_store, refused_store}

-- ---- the n elements from e on, and the next m
module _ (b : List ℕ) (m : ℕ) where
  after_add : (n e at : ℕ) → after b e (n + m) at ≡ after b (e + n) m (after b e n at)
  unfolding after
  after_add zero e at = let z : 0 + m ≡ m = omega arith in let y : e ≡ e + 0 = omega arith in ap₂ (λ (i j : ℕ). after b i j at) y z
  after_add (suc n) e at =
      let z : suc n + m ≡ suc (n + m) = omega arith in
      let y : e + 1 + n ≡ e + suc n = omega arith in
      ap (λ (k : ℕ). after b e k at) z ∙ after_add n (e + 1) (next b e at) ∙ ap (λ (k : ℕ). after b k m (after b (e + 1) n (next b e at))) y

  holds_add : (n e at : ℕ) → holds b e (n + m) at ≡ holds b e n at && holds b (e + n) m (after b e n at)
  unfolding holds after
  holds_add zero e at = let z : 0 + m ≡ m = omega arith in let y : e ≡ e + 0 = omega arith in ap₂ (λ (i j : ℕ). holds b i j at) y z
  holds_add (suc n) e at =
      let z : suc n + m ≡ suc (n + m) = omega arith in
      let y : e + 1 + n ≡ e + suc n = omega arith in
      ap (λ (k : ℕ). holds b e k at) z ∙ ap (λ (t : Bool). sound b e at && t) (holds_add n (e + 1) (next b e at))
      ∙ shift (sound b e at) (holds b (e + 1) n (next b e at)) (holds b (e + 1 + n) m (after b (e + 1) n (next b e at)))
      ∙ ap (λ (k : ℕ). (sound b e at && holds b (e + 1) n (next b e at)) && holds b k m (after b (e + 1) n (next b e at))) y
    where
      shift : (p q r : Bool) → p && (q && r) ≡ (p && q) && r
      shift true q r = refl
      shift false q r = refl

  given_add : (n e at : ℕ) → given b e (n + m) at ≡ given b e n at ++ given b (e + n) m (after b e n at)
  unfolding given after
  given_add zero e at = let z : 0 + m ≡ m = omega arith in let y : e ≡ e + 0 = omega arith in ap₂ (λ (i j : ℕ). given b i j at) y z
  given_add (suc n) e at =
      let z : suc n + m ≡ suc (n + m) = omega arith in
      let y : e + 1 + n ≡ e + suc n = omega arith in
      ap (λ (k : ℕ). given b e k at) z ∙ ap (λ (t : List ℕ). read b e at ++ t) (given_add n (e + 1) (next b e at))
      ∙ sym (append_assoc (read b e at) (given b (e + 1) n (next b e at)) (given b (e + 1 + n) m (after b (e + 1) n (next b e at))))
      ∙ ap (λ (k : ℕ). read b e at ++ given b (e + 1) n (next b e at) ++ given b k m (after b (e + 1) n (next b e at))) y

pub sound_inside : (b : List ℕ) (e at : ℕ) → sound b e at ≡ true → at ≤ length b → next b e at ≤ length b
sound_inside b e at g h = go (is_shown b e) refl
  where
    go : (m : Bool) → is_shown b e ≡ m → next b e at ≤ length b
    go true m =
        let p = both (leb (at + size e) (length b)) (not (is_zero (bytes_at b at (size e)))) (sym (sound_on b e at m) ∙ g) in
        rw (next_on b e at m) (leb-true _ _ p.0)
    go false m = rw (next_off b e at m) h

pub after_inside : (b : List ℕ) (n e at : ℕ) → holds b e n at ≡ true → at ≤ length b → after b e n at ≤ length b
unfolding holds after
after_inside b zero e at g h = h
after_inside b (suc n) e at g h =
    let p = both (sound b e at) (holds b (e + 1) n (next b e at)) g in
    after_inside b n (e + 1) (next b e at) p.1 (sound_inside b e at p.0 h)

-- ---- judged
walked_holds : (b : List ℕ) (e n at k : ℕ) → walked b e n at ≡ Some k → (holds b e n at ≡ true) × (k ≡ after b e n at)
unfolding walked
walked_holds b e n at k h = go (holds b e n at) refl
  where
    go : (t : Bool) → holds b e n at ≡ t → (holds b e n at ≡ true) × (k ≡ after b e n at)
    go true t = let y : Some (after b e n at) ≡ Some k = sym (ap (λ (z : Bool). cond z (Some (after b e n at)) None) t) ∙ h in (t, cc)
    go false t = let y : None ≡ Some k = sym (ap (λ (z : Bool). cond z (Some (after b e n at)) None) t) ∙ h in let z : ◌≡◌ {A = ℕ} 0 1 = cc in absurd (omega arith)

walked_not : (b : List ℕ) (e n at : ℕ) → walked b e n at ≡ None → holds b e n at ≡ false
unfolding walked
walked_not b e n at h = go (holds b e n at) refl
  where
    go : (t : Bool) → holds b e n at ≡ t → holds b e n at ≡ false
    go true t = let y : Some (after b e n at) ≡ None = sym (ap (λ (z : Bool). cond z (Some (after b e n at)) None) t) ∙ h in let z : ◌≡◌ {A = ℕ} 0 1 = cc in absurd (omega arith)
    go false t = t

walked_some : (b : List ℕ) (e n at : ℕ) → is_some (walked b e n at) ≡ holds b e n at
unfolding walked
walked_some b e n at = go (holds b e n at)
  where
    go : (t : Bool) → is_some (cond t (Some (after b e n at)) None) ≡ t
    go true = refl
    go false = refl

pub walk_within : (e n : ℕ) (b : List ℕ) (at k : ℕ) → Some k ≡ walked b e n at → at ≤ length b → k ≤ length b
walk_within e n b at k w h = let g = walked_holds b e n at k (sym w) in rw g.1 (after_inside b n e at g.0 h)

pub walk_on_lem : (e n m : ℕ) (b : List ℕ) (at k : ℕ) (q : Option ℕ) → Some k ≡ walked b e n at → q ≡ walked b (e + n) m k → q ≡ walked b e (n + m) at
unfolding walked
walk_on_lem e n m b at k q w u =
    let g = walked_holds b e n at k (sym w) in
    u ∙ ap (walked b (e + n) m) g.1
    ∙ sym (ap₂ (λ (t : Bool) (i : ℕ). cond t (Some i) None) (holds_add b m n e at ∙ ap (λ (t : Bool). t && holds b (e + n) m (after b e n at)) g.0) (after_add b m n e at))

pub walk_off : (e n m : ℕ) (b : List ℕ) (at : ℕ) → None ≡ walked b e n at → None ≡ walked b e (n + m) at
unfolding walked
walk_off e n m b at w =
    sym (ap (λ (t : Bool). cond t (Some (after b e (n + m) at)) None) (holds_add b m n e at ∙ ap (λ (t : Bool). t && holds b (e + n) m (after b e n at)) (walked_not b e n at (sym w))))

refuted : (t : Bool) → (t ≡ true → ⊥) → false ≡ t
refuted true h = absurd (h refl)
refuted false h = refl

-- ---- what the three words show
module _ (b : List ℕ) (f : (k : ℕ) → Fits w8 (get_or b k 0)) where
  word_bits : (p : ℕ) → bits b (8 * p) 64 ≡ be b p 8
  word_bits p = bits_be b p 8 (λ k l. (f (p + k)).fits)

  module _ (w : ℕ) (p : w ≡ be b 0 8) where
    first_word : w ≡ behind (bits b 0 16) 48 (bits b 16 48)
    first_word = p ∙ sym (word_bits 0) ∙ bits_add b 0 16 48

    pub first_shown : w % 281474976710656 ≡ presence (is_shown b) 0 48
    first_shown = ap (λ (x : ℕ). x % 2 ^ 48) first_word ∙ low (bits b 0 16) 48 (bits_lt b 16 48) ∙ presence_bits b 0 48

    first_top : w / 281474976710656 ≡ behind (behind (bits b 0 4) 11 (bits b 4 11)) 1 (bits b 15 1)
    first_top =
        ap (λ (x : ℕ). x / 2 ^ 48) first_word ∙ high (bits b 0 16) 48 (bits_lt b 16 48)
        ∙ bits_add b 0 15 1 ∙ ap (λ (x : ℕ). behind x 1 (bits b 15 1)) (bits_add b 0 4 11)

    pub open_wrong : (vcpu : ℕ) → (w / 281474976710656 ≡ 4096 + 2 * vcpu → ⊥) → false ≡ opens vcpu b
    open_wrong vcpu x = refuted (opens vcpu b) (λ (y : opens vcpu b ≡ true). x (top (opens_fields b vcpu y)))
      where
        top : Fields b vcpu (bits b 16 170) → w / 281474976710656 ≡ 4096 + 2 * vcpu
        top g = omega (arith, first_top, g.version, g.named, g.clear)

  pub second_shown : (w : ℕ) → w ≡ be b 8 8 → w ≡ presence (is_shown b) 48 64
  second_shown w q = q ∙ sym (word_bits 8) ∙ presence_bits b 48 64

  module _ (t : ℕ) (q : t ≡ be b 16 8) where
    third_word : t ≡ behind (bits b 128 58) 6 (bits b 186 6)
    third_word = q ∙ sym (word_bits 16) ∙ bits_add b 128 58 6

    pub third_shown : t / 64 ≡ presence (is_shown b) 112 58
    third_shown = ap (λ (x : ℕ). x / 2 ^ 6) third_word ∙ high (bits b 128 58) 6 (bits_lt b 186 6) ∙ presence_bits b 112 58

    third_end : t % 64 ≡ bits b 186 6
    third_end = ap (λ (x : ℕ). x % 2 ^ 6) third_word ∙ low (bits b 128 58) 6 (bits_lt b 186 6)

    -- the id has 11 bits, so the top of the first word is right only if each field is
    pub open_right : (w vcpu : ℕ) → w ≡ be b 0 8 → vcpu < 2048 → w / 281474976710656 ≡ 4096 + 2 * vcpu → eqb (t % 64) 0 ≡ opens vcpu b
    open_right w vcpu p h e = go (eqb (t % 64) 0) refl
      where
        fields : t % 64 ≡ 0 → Fields b vcpu (bits b 16 170)
        fields z =
            let i = bits_lt b 4 11 in
            let l = bits_lt b 15 1 in
            let u = first_top w p in
            record {
              version = omega (arith, u, e, i, l, h);
              named = omega (arith, u, e, i, l, h);
              clear = omega (arith, u, e, i, l, h);
              shown = refl;
              padded = sym third_end ∙ z;
            }

        go : (c : Bool) → eqb (t % 64) 0 ≡ c → c ≡ opens vcpu b
        go true c = sym (fields_open b vcpu (bits b 16 170) (fields (eqb-true _ _ c)))
        go false c = refuted (opens vcpu b) (λ (y : opens vcpu b ≡ true). eqb-false (t % 64) 0 c (third_end ∙ (opens_fields b vcpu y).padded))

-- ---- all of it, judged
module _ (b : List ℕ) (vcpu : ℕ) (o : Bool) (e : o ≡ opens vcpu b) where
  apart : false ≡ true → ⊥
  apart y = let z : ◌≡◌ {A = ℕ} 0 1 = cc in omega arith

  pub not_open : o ≡ false → false ≡ begins vcpu b
  not_open x = refuted (begins vcpu b) (λ (y : begins vcpu b ≡ true). apart (sym x ∙ e ∙ (begins_parts vcpu b y).1))

  -- it begins with a form if the values are sound
  pub judged : o ≡ true → 24 ≤ length b → (r : Option ℕ) → r ≡ walked b 0 170 24 → is_some r ≡ begins vcpu b
  unfolding begins
  judged f n r u = ap is_some u ∙ held ∙ sym (simp (le-leb _ _ n, sym e ∙ f))
    where
      held : is_some (walked b 0 170 24) ≡ holds b 0 170 24
      held = walked_some b 0 170 24

-- ---- stored
pub begins_holds : (b : List ℕ) (vcpu : ℕ) (x : Bool) → x ≡ begins vcpu b → not x ≡ false → holds b 0 170 24 ≡ true
begins_holds b vcpu x e f = (begins_parts vcpu b (sym e ∙ not-false x f)).2

-- of n + m elements that hold, the first n do, and then the others
pub holds_some : (e n m : ℕ) (b : List ℕ) (at : ℕ) → holds b e (n + m) at ≡ true → holds b e n at ≡ true
holds_some e n m b at h = (both (holds b e n at) (holds b (e + n) m (after b e n at)) (sym (holds_add b m n e at) ∙ h)).0

module _ (e n m : ℕ) (b : List ℕ) (base at k : ℕ) (s t : List ℕ) (h : holds b e (n + m) at ≡ true) (g : Gave b base e n at k s t) where
  pub holds_rest : holds b (e + n) m k ≡ true
  holds_rest = ap (holds b (e + n) m) g.ends ∙ (both (holds b e n at) (holds b (e + n) m (after b e n at)) (sym (holds_add b m n e at) ∙ h)).1

  pub gave_on : (j : ℕ) (u : List ℕ) → Gave b base (e + n) m k j t u → Gave b base e (n + m) at j s u
  gave_on j u o = record {
    ends = o.ends ∙ ap (after b (e + n) m) g.ends ∙ sym (after_add b m n e at);
    inside = o.inside;
    store =
        let l : base + place e + length (given b e n at) ≡ base + place (e + n) = omega (arith, given_long b n e at (holds_some e n m b at h)) in
        o.store ∙ ap₂ (λ (x : List ℕ) (i : ℕ). put x (base + place (e + n)) (given b (e + n) m i)) g.store g.ends
        ∙ ap (λ (i : ℕ). put (put s (base + place e) (given b e n at)) i (given b (e + n) m (after b e n at))) (sym l)
        ∙ sym (put_append s (base + place e) (given b e n at) (given b (e + n) m (after b e n at)))
        ∙ ap (put s (base + place e)) (sym (given_add b m n e at));
  }

-- ---- all of it
module _ (b : List ℕ) (vcpu base : ℕ) (s : List ℕ) (x : Bool) (e : x ≡ begins vcpu b) where
  pub not_given : not x ≡ true → record { accepted = false; store = s } ≡ given_back vcpu base s b
  not_given f = sym (refused_store vcpu base s b (sym e ∙ not-true x f))

  pub all_given : not x ≡ false → (k : ℕ) (t : List ℕ) → Gave b base 0 170 24 k s t → record { accepted = true; store = t } ≡ given_back vcpu base s b
  unfolding place
  all_given f k t g =
      let z : base + 0 ≡ base = omega arith in
      ap (λ (v : List ℕ). record { accepted = true; store = v }) (g.store ∙ ap (λ (i : ℕ). put s i (values_of b)) z)
      ∙ sym (accepted_store vcpu base s b (sym e ∙ not-false x f))
