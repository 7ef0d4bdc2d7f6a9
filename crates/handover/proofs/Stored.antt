-- The values of a part stored, in the form of the code's needs. Assumes nothing.
use mathlib.Core.Path.{◌≡◌, sym, ap, ap₂, ◌∙◌}
use mathlib.Core.Bool.{Bool, true, false, ◌&&◌}
use mathlib.Core.List.{List, ◌++◌}
use Prim.Native.Nat.{ℕ, zero, suc, ◌+◌, ◌-◌, ◌^◌, ◌≤◌, ◌<◌}
use native.Mathlib.Omega.{arith}
use mir.Syntax.{w64}
use mir.Val.{Fits}
use lib.Dec.{eqb}
use lib.ListN.{length, take, drop, length-replicate, replicate-append-replicate}
use lib.Seq.{take_at, drop_at}
use Rattle.octets.specs.Bytes.{bytes_at, put, zeros, left as ahead}
use Rattle.octets.proofs.Bytes.{part_lent, part_none, part_append, part_of_part, length_bytes_at, length_zeros, put_nil, put_append, put_put, put_same, read_back, read_other}
use Rattle.handover.specs.Form.{state_bytes, size, presence, is_shown, next, sound, holds, given}
use Rattle.handover.specs.Private.{place, IsPart, after, Blank, Gave}
use Rattle.handover.proofs.Values.{both, place_next, place_more}
use Rattle.handover.proofs.Walk.{next_on, next_off, read_on, read_off, sound_off}
use Rattle.handover.proofs.Presence.{Top, none_shown, full_shown}
use Rattle.handover.proofs.Theorems.{given_long}
use Rattle.handover.proofs.Places.{place_up, whole_bounds, whole_room, whole_long}
use Rattle.handover.proofs.Shown.{next_top, places}
use Rattle.handover.proofs.Given.{sound_inside, after_inside}

-- ---- values that are not shown: nothing is read, and zeros stay
module _ (b : List ℕ) where
  skip_holds : (d n e at : ℕ) → ((y : ℕ) → e ≤ y → y < e + d → is_shown b y ≡ false) → holds b e (d + n) at ≡ holds b (e + d) n at
  unfolding holds
  skip_holds zero n e at f = let x : 0 + n ≡ n = omega arith in let y : e ≡ e + 0 = omega arith in ap₂ (λ (i j : ℕ). holds b i j at) y x
  skip_holds (suc d) n e at f =
      let m = f e (omega arith) (omega arith) in
      let x : suc d + n ≡ suc (d + n) = omega arith in
      let y : e + 1 + d ≡ e + suc d = omega arith in
      ap (λ (i : ℕ). holds b e i at) x ∙ ap₂ (λ (t : Bool) (i : ℕ). t && holds b (e + 1) (d + n) i) (sound_off b e at m) (next_off b e at m)
      ∙ skip_holds d n (e + 1) at (λ z i j. f z (omega arith) (omega arith)) ∙ ap (λ (i : ℕ). holds b i n at) y

  skip_after : (d n e at : ℕ) → ((y : ℕ) → e ≤ y → y < e + d → is_shown b y ≡ false) → after b e (d + n) at ≡ after b (e + d) n at
  unfolding after
  skip_after zero n e at f = let x : 0 + n ≡ n = omega arith in let y : e ≡ e + 0 = omega arith in ap₂ (λ (i j : ℕ). after b i j at) y x
  skip_after (suc d) n e at f =
      let m = f e (omega arith) (omega arith) in
      let x : suc d + n ≡ suc (d + n) = omega arith in
      let y : e + 1 + d ≡ e + suc d = omega arith in
      ap (λ (i : ℕ). after b e i at) x ∙ ap (after b (e + 1) (d + n)) (next_off b e at m)
      ∙ skip_after d n (e + 1) at (λ z i j. f z (omega arith) (omega arith)) ∙ ap (λ (i : ℕ). after b i n at) y

  skip_put : (s : List ℕ) (base d n e at : ℕ) → ((y : ℕ) → e ≤ y → y < e + d → is_shown b y ≡ false)
      → ((y : ℕ) → e ≤ y → y < e + d → bytes_at s (base + place y) (size y) ≡ zeros (size y))
      → put s (base + place e) (given b e (d + n) at) ≡ put s (base + place (e + d)) (given b (e + d) n at)
  unfolding given
  skip_put s base zero n e at f g = let x : 0 + n ≡ n = omega arith in let y : e ≡ e + 0 = omega arith in ap₂ (λ (i j : ℕ). put s (base + place i) (given b i j at)) y x
  skip_put s base (suc d) n e at f g =
      let m = f e (omega arith) (omega arith) in
      let x : suc d + n ≡ suc (d + n) = omega arith in
      let y : e + 1 + d ≡ e + suc d = omega arith in
      let more = given b (e + 1) (d + n) at in
      let q : put s (base + place e) (zeros (size e)) ≡ s = ap (put s (base + place e)) (sym (g e (omega arith) (omega arith))) ∙ put_same s (base + place e) (size e) in
      let l : base + place e + length (zeros (size e)) ≡ base + place (e + 1) = omega (arith, length_zeros (size e), place_next e) in
      ap (λ (i : ℕ). put s (base + place e) (given b e i at)) x
      ∙ ap₂ (λ (u : List ℕ) (i : ℕ). put s (base + place e) (u ++ given b (e + 1) (d + n) i)) (read_off b e at m) (next_off b e at m)
      ∙ put_append s (base + place e) (zeros (size e)) more ∙ ap₂ (λ (u : List ℕ) (i : ℕ). put u i more) q l
      ∙ skip_put s base d n (e + 1) at (λ z i j. f z (omega arith) (omega arith)) (λ z i j. g z (omega arith) (omega arith))
      ∙ ap (λ (i : ℕ). put s (base + place i) (given b i n at)) y

-- ---- the next value that is shown, k being the top digit of the bits that are left
module _ (b : List ℕ) (from to wide first e left k here : ℕ) (ip : IsPart from to wide first) (lo : from ≤ e) (hi : e ≤ to) (w : left ≡ presence (is_shown b) e (to - e))
    (a : 2 ^ k ≤ left) (c : left < 2 ^ (k + 1)) (h : here ≤ length b) (g : holds b e (to - e) here ≡ true) where
  t : Top (is_shown b) e to k left
  t = next_top (is_shown b) from to wide first e left k ip lo hi w a c

  around : (place e ≤ place (to - k - 1)) × (place (to - k) ≡ place (to - k - 1) + wide) × (place (to - k) ≤ place to) × (place to ≤ state_bytes)
  around = places (is_shown b) from to wide first e left k ip lo hi w a c

  all_of : to - e ≡ to - k - 1 - e + suc k
  all_of = omega (arith, t.before)

  x_is : e + (to - k - 1 - e) ≡ to - k - 1
  x_is = omega (arith, t.before)

  next_is : to - k - 1 + 1 ≡ to - k
  next_is = omega (arith, t.before)

  rest_is : k ≡ to - (to - k)
  rest_is = omega (arith, t.before)

  hidden : (y : ℕ) → e ≤ y → y < e + (to - k - 1 - e) → is_shown b y ≡ false
  hidden y i j = t.clear y i (omega (arith, t.before))

  wide_is : size (to - k - 1) ≡ wide
  wide_is = ip.alike (to - k - 1) (omega (arith, t.before)) (omega (arith, t.before))

  on_next : next b (to - k - 1) here ≡ here + wide
  on_next = next_on b (to - k - 1) here t.set ∙ ap (λ (i : ℕ). here + i) wide_is

  halves : (sound b (to - k - 1) here ≡ true) × (holds b (to - k - 1 + 1) k (next b (to - k - 1) here) ≡ true)
  unfolding holds
  halves =
      both (sound b (to - k - 1) here) (holds b (to - k - 1 + 1) k (next b (to - k - 1) here))
      (sym (ap (λ (i : ℕ). holds b e i here) all_of ∙ skip_holds b (to - k - 1 - e) (suc k) e here hidden ∙ ap (λ (i : ℕ). holds b i (suc k) here) x_is) ∙ g)

  pub give_inside : here + wide ≤ length b
  give_inside = rw (← on_next) (sound_inside b (to - k - 1) here halves.0 h)

  pub give_fits : length b < 2 ^ 64 → Fits w64 (here + wide)
  give_fits l = record { fits = omega (arith, give_inside) }

  pub give_holds : holds b (to - k) (to - (to - k)) (here + wide) ≡ true
  give_holds = sym (ap₂ (λ (i j : ℕ). holds b i j (here + wide)) next_is rest_is) ∙ ap (holds b (to - k - 1 + 1) k) (sym on_next) ∙ halves.1

  pub give_after : (q : ℕ) → q ≡ after b e (to - e) here → q ≡ after b (to - k) (to - (to - k)) (here + wide)
  unfolding after
  give_after q p =
      p ∙ ap (λ (i : ℕ). after b e i here) all_of ∙ skip_after b (to - k - 1 - e) (suc k) e here hidden ∙ ap (λ (i : ℕ). after b i (suc k) here) x_is
      ∙ ap (after b (to - k - 1 + 1) k) on_next ∙ ap₂ (λ (i j : ℕ). after b i j (here + wide)) next_is rest_is

  value_long : length (bytes_at b here wide) ≡ wide
  value_long = length_bytes_at b here wide give_inside

  module _ (s s' : List ℕ) (base at : ℕ) (bl : Blank s base e to) (p : at ≡ place (to - k - 1)) (u : s' ≡ put s (base + at) (bytes_at b here wide)) where
    stored : s' ≡ put s (base + place (to - k - 1)) (bytes_at b here wide)
    stored = u ∙ ap (λ (i : ℕ). put s (base + i) (bytes_at b here wide)) p

    pub give_turn : (q : List ℕ) → q ≡ put s (base + place e) (given b e (to - e) here) → q ≡ put s' (base + place (to - k)) (given b (to - k) (to - (to - k)) (here + wide))
    unfolding given
    give_turn q r =
        let x = to - k - 1 in
        let more = given b (to - k - 1 + 1) k (here + wide) in
        let l : base + place (to - k - 1) + length (bytes_at b here wide) ≡ base + place (to - k) = omega (arith, value_long, around.1) in
        r ∙ ap (λ (i : ℕ). put s (base + place e) (given b e i here)) all_of
        ∙ skip_put b s base (to - k - 1 - e) (suc k) e here hidden (λ y i j. bl.each y i (omega (arith, t.before)))
        ∙ ap (λ (i : ℕ). put s (base + place i) (given b i (suc k) here)) x_is
        ∙ ap₂ (λ (v : List ℕ) (i : ℕ). put s (base + place x) (v ++ given b (x + 1) k i)) (read_on b x here t.set ∙ ap (bytes_at b here) wide_is) on_next
        ∙ put_append s (base + place x) (bytes_at b here wide) more ∙ ap₂ (λ (v : List ℕ) (i : ℕ). put v i more) (sym stored) l
        ∙ ap₂ (λ (i j : ℕ). put s' (base + place (to - k)) (given b i j (here + wide))) next_is rest_is

    pub give_blank : Blank s' base (to - k) to
    give_blank = record {
      each = λ y i j.
          let l : base + place (to - k - 1) + length (bytes_at b here wide) ≤ base + place y = omega (arith, value_long, around.1, place_up (to - k) y i) in
          ap (λ (v : List ℕ). bytes_at v (base + place y) (size y)) stored
          ∙ read_other s (base + place (to - k - 1)) (bytes_at b here wide) (base + place y) (size y) (ahead l)
          ∙ bl.each y (omega (arith, t.before)) j;
    }

-- ---- none is left
module _ (b : List ℕ) (e to left here : ℕ) (hi : e ≤ to) (w : left ≡ presence (is_shown b) e (to - e)) (z : left ≡ 0) where
  rest_hidden : (y : ℕ) → e ≤ y → y < e + (to - e) → is_shown b y ≡ false
  rest_hidden = none_shown (is_shown b) e (to - e) (sym z ∙ w)

  all_left : to - e ≡ to - e + 0
  all_left = omega arith

  pub after_end : (q : ℕ) → q ≡ after b e (to - e) here → here ≡ q
  unfolding after
  after_end q p = sym (p ∙ ap (λ (i : ℕ). after b e i here) all_left ∙ skip_after b (to - e) 0 e here rest_hidden)

  pub given_end : (s q : List ℕ) (base : ℕ) → Blank s base e to → q ≡ put s (base + place e) (given b e (to - e) here) → s ≡ q
  unfolding given
  given_end s q base bl p =
      sym (p ∙ ap (λ (i : ℕ). put s (base + place e) (given b e i here)) all_left
      ∙ skip_put b s base (to - e) 0 e here rest_hidden (λ y i j. bl.each y i (omega arith)) ∙ put_nil s (base + place (e + (to - e))))

zeros_part : (n j k : ℕ) → j + k ≤ n → bytes_at (zeros n) j k ≡ zeros k
unfolding zeros
zeros_part n j k h =
    let x : n ≡ j + (k + (n - j - k)) = omega arith in
    sym (part_lent (zeros n) j k)
    ∙ ap (λ (i : ℕ). take k (drop j (zeros i))) x
    ∙ ap (λ (l : List ℕ). take k (drop j l)) (sym (replicate-append-replicate {A = ℕ} j (k + (n - j - k)) 0))
    ∙ ap (take k) (drop_at (zeros j) (zeros (k + (n - j - k))) j (length-replicate j 0))
    ∙ ap (take k) (sym (replicate-append-replicate {A = ℕ} k (n - j - k) 0)) ∙ take_at (zeros k) (zeros (n - j - k)) k (length-replicate k 0)

-- ---- all are shown
shown_all : (b : List ℕ) (n e at : ℕ) → ((y : ℕ) → e ≤ y → y < e + n → is_shown b y ≡ true) → (after b e n at + place e ≡ at + place (e + n)) × (given b e n at ≡ bytes_at b at (place (e + n) - place e))
unfolding after given
shown_all b zero e at f =
    let z : e + 0 ≡ e = omega arith in
    let d : place (e + 0) - place e ≡ 0 = omega (arith, ap place z) in
    (omega (arith, ap place z), sym (ap (bytes_at b at) d ∙ part_none b at))
shown_all b (suc n) e at f =
    let m = f e (omega arith) (omega arith) in
    let ih = shown_all b n (e + 1) (next b e at) (λ y i j. f y (omega arith) (omega arith)) in
    let z : e + 1 + n ≡ e + suc n = omega arith in
    let d : size e + (place (e + 1 + n) - place (e + 1)) ≡ place (e + suc n) - place e = omega (arith, ap place z, place_next e, place_more n (e + 1)) in (
      omega (arith, ih.0, next_on b e at m, place_next e, ap place z),
      ap₂ (λ (x y : List ℕ). x ++ y) (read_on b e at m) (ih.1 ∙ ap (λ (i : ℕ). bytes_at b i (place (e + 1 + n) - place (e + 1))) (next_on b e at m))
          ∙ sym (part_append b at (size e) (place (e + 1 + n) - place (e + 1))) ∙ ap (bytes_at b at) d,
    )

module _ (b : List ℕ) (base from to wide first at r : ℕ) (ip : IsPart from to wide first) (e : r ≡ place to) where
  bounds : (first ≤ r) × (r ≤ state_bytes)
  bounds = whole_bounds from to wide first r ip e

  long_is : place (from + (to - from)) - place from ≡ r - first
  long_is = whole_long from to wide first r ip e

  module _ (m : ℕ) (z : Bool) (w : m ≡ presence (is_shown b) from (to - from)) (f : z ≡ eqb m (2 ^ (to - from) - 1)) (t : z ≡ true) where
    shown : (after b from (to - from) at + place from ≡ at + place (from + (to - from))) × (given b from (to - from) at ≡ bytes_at b at (place (from + (to - from)) - place from))
    shown = shown_all b (to - from) from at (full_shown (is_shown b) from (to - from) m w (sym f ∙ t))

    pub full_ends : at + (r - first) ≡ after b from (to - from) at
    full_ends = let z : from + (to - from) ≡ to = omega (arith, ip.upward) in omega (arith, shown.0, bounds.0, e, ip.start, ap place z)

    pub full_inside : at ≤ length b → holds b from (to - from) at ≡ true → at + (r - first) ≤ length b
    full_inside h g = rw full_ends (after_inside b (to - from) from at g h)

    pub end_fits : at ≤ length b → holds b from (to - from) at ≡ true → length b < 2 ^ 64 → Fits w64 (at + (r - first))
    end_fits h g l = record { fits = omega (arith, full_inside h g) }

    pub full_given : (s s' : List ℕ) → s' ≡ put s (base + first) (bytes_at b at (r - first)) → s' ≡ put s (base + place from) (given b from (to - from) at)
    full_given s s' q = q ∙ ap₂ (λ (i : ℕ) (x : List ℕ). put s (base + i) x) ip.start (sym (shown.1 ∙ ap (bytes_at b at) long_is))

  -- the values cleared before
  module _ (s s' : List ℕ) (h : base + state_bytes ≤ length s) (c : s' ≡ put s (base + first) (zeros (r - first))) where
    pub clear_blank : Blank s' base from to
    clear_blank = record {
      each = λ y i j.
          let n = r - first in
          let k = place_up from y i in
          let l : place y + size y ≤ place to = omega (arith, place_next y, place_up (y + 1) to (omega arith)) in
          let q : place y - first + size y ≤ r - first = omega (arith, e, ip.start) in
          let at' : base + first + (place y - first) ≡ base + place y = omega (arith, ip.start) in
          let room : base + first + length (zeros (r - first)) ≤ length s = omega (arith, length_zeros (r - first), whole_room from to wide first r ip e base (length s) h) in
          ap (λ (x : List ℕ). bytes_at x (base + place y) (size y)) c
          ∙ ap (λ (x : ℕ). bytes_at (put s (base + first) (zeros n)) x (size y)) (sym at')
          ∙ sym (part_of_part (put s (base + first) (zeros n)) (base + first) n (place y - first) (size y) q)
          ∙ ap (λ (x : ℕ). bytes_at (bytes_at (put s (base + first) (zeros n)) (base + first) x) (place y - first) (size y)) (sym (length_zeros n))
          ∙ ap (λ (x : List ℕ). bytes_at x (place y - first) (size y)) (read_back s (base + first) (zeros n) room)
          ∙ zeros_part n (place y - first) (size y) q;
    }

    pub clear_gave : (q : ℕ) (u : List ℕ) → holds b from (to - from) at ≡ true → Gave b base from (to - from) at q s' u → Gave b base from (to - from) at q s u
    clear_gave q u g o = record {
      ends = o.ends;
      inside = o.inside;
      store =
          let l : length (zeros (r - first)) ≡ length (given b from (to - from) at) = omega (arith, length_zeros (r - first), given_long b (to - from) from at g, long_is, place_up from (from + (to - from)) (omega arith)) in
          o.store ∙ ap (λ (x : List ℕ). put x (base + place from) (given b from (to - from) at)) (c ∙ ap (λ (i : ℕ). put s (base + i) (zeros (r - first))) ip.start)
          ∙ put_put s (base + place from) (zeros (r - first)) (given b from (to - from) at) l;
    }
