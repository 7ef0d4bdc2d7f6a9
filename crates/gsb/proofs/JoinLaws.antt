-- The laws of the operation, first in the form of the code's needs: nothing else opens `extent_of`, `settled` and `join_into`. Assumes nothing.
use mathlib.Core.Path.{◌≡◌, refl, sym, ap, ap₂, ◌∙◌}
use mathlib.Core.Bool.{Bool, true, false, cond}
use mathlib.Core.List.{List, [], ◌∷◌, ◌++◌}
use Prim.Native.Nat.{ℕ, ◌+◌, ◌-◌, ◌*◌, ◌≤◌, ◌<◌}
use native.Mathlib.Omega.{arith}
use lib.Dec.{ltb}
use lib.ListN.{length}
use borrow.Author.Tests.{lt-ltb, le-ltb, ltb-false}
use Rattle.octets.specs.Bytes.{bytes_at, put, digits}
use Rattle.octets.proofs.Bytes.{put_append}
use Rattle.octets.proofs.Numbers.{length_digits}
use Rattle.answer.specs.declared.Answer.{Answer}
use Rattle.answer.specs.declared.RunBuffer.TheVariants.{Output}
use Rattle.answer.specs.declared.Fault.TheVariants.{None, Length, Element, Short}
use Rattle.answer.specs.Refusals.{first_of}
use Rattle.gsb.specs.declared.BadElement.{BadElement}
use Rattle.gsb.specs.Walk.{count_of, offset_at, bad_length, walk, is_stopped, fault_of, Verdict, Walked}
use Rattle.gsb.specs.Lookup.{framed}
use Rattle.gsb.specs.Join.{end_of, counted, joined, cut_of, Joining, unjoined, join_into, Joinable, CanJoin}
use Rattle.gsb.specs.Private.{placed, extent_is, extent_of, Measured, settled}
use Rattle.gsb.proofs.Walks.{walk_end, walk_stop, offset_low, length_bounds}
use Rattle.gsb.proofs.Joined.{counted_is, joined_is, length_counted, length_joined}
use Rattle.std.proofs.Common.{Ok, Err}

-- ---- `end_of`
module _ (b : List ℕ) (count i at : ℕ) (n : count ≡ count_of b) (w : walk (framed b) count 0 4 ≡ walk (framed b) (count - i) i at) where
  whole_walk : cut_of b ≡ walk (framed b) (count - i) i at
  whole_walk = ap (λ (c : ℕ). walk (framed b) c 0 4) (sym n) ∙ w

  pub extent_cut : (v : Verdict) (stop : BadElement) → i < count → v ≡ framed b at → Err stop ≡ placed v i at → Err stop ≡ extent_of b
  unfolding extent_of extent_is
  extent_cut v stop h j g = sym (ap (λ (x : Walked). extent_is x (end_of b)) (whole_walk ∙ walk_stop (framed b) count i at v stop h j g))

  pub extent_end : i ≤ count → count ≤ i → at ≡ offset_at b i → Ok at ≡ extent_of b
  unfolding extent_of extent_is
  extent_end h k o =
      let q : i ≡ count_of b = omega arith in
      ap (λ (x : ℕ). Ok x) (o ∙ ap (offset_at b) q) ∙ sym (ap (λ (x : Walked). extent_is x (end_of b)) (whole_walk ∙ walk_end (framed b) count i at k))

-- ---- what it tells
module _ (b : List ℕ) where
  told_end : (m : ℕ) → Ok m ≡ extent_of b → (cut_of b ≡ Ok tt) × (m ≡ end_of b)
  unfolding extent_of extent_is
  told_end m h = go (cut_of b) h
    where
      go : (w : Walked) → Ok m ≡ extent_is w (end_of b) → (w ≡ Ok tt) × (m ≡ end_of b)
      go (Ok _) q = (refl, cc q)
      go (Err stop) q = absurd (cc q)

  told_cut : (stop : BadElement) → Err stop ≡ extent_of b → cut_of b ≡ Err stop
  unfolding extent_of extent_is
  told_cut stop h = go (cut_of b) h
    where
      go : (w : Walked) → Err stop ≡ extent_is w (end_of b) → w ≡ Err stop
      go (Ok _) q = absurd (cc q)
      go (Err s) q = let z : s ≡ stop = cc q in ap (λ (x : BadElement). Err x) z

pub measured : (b : List ℕ) (m : ℕ) (t : Bool) → t ≡ bad_length b → t ≡ false → (Ok m ≡ extent_of b) × ((4 + 4 * count_of b ≤ m) × (m ≤ length b)) → Measured b m
measured b m t q f x = record { end = (told_end b m x.0).1; headers = x.1.0; inside = x.1.1; short = (length_bounds b (sym q ∙ f)).1 }

-- ---- `join_at`
abbrev left : Answer → List ℕ → Joining
left x r = record { answer = x; result = r }

module _ (a b r : List ℕ) (m n : ℕ) (ma : Measured a m) (mb : Measured b n) where
  size : length (joined a b) ≡ m + n - 4
  size = length_joined a b (omega arith) (omega arith) ∙ ap₂ (λ (x y : ℕ). x + y - 4) (sym ma.end) (sym mb.end)

  pub at_long : 65536 < m + n - 4 → left (record { fault = Length; value = 0 }) r ≡ settled (joined a b) r
  unfolding settled
  at_long h =
      let l : 65536 < length (joined a b) = omega (arith, size) in
      simp (lt-ltb _ _ l)

  module _ (h : m + n - 4 ≤ 65536) where
    pub at_short : length r < m + n - 4 → left (record { fault = Short Output; value = 0 }) r ≡ settled (joined a b) r
    unfolding settled
    at_short k =
        let l : length (joined a b) ≤ 65536 = omega (arith, size) in
        let s : length r < length (joined a b) = omega (arith, size) in
        simp (le-ltb _ _ l, lt-ltb _ _ s)

    pub at_written : (i j : ℕ) (u v w : List ℕ) → m + n - 4 ≤ length r → i ≡ count_of a → j ≡ count_of b → u ≡ put r 0 (digits 4 (i + j))
        → v ≡ put u 4 (bytes_at a 4 (m - 4)) → w ≡ put v m (bytes_at b 4 (n - 4)) → left (record { fault = None; value = m + n - 4 }) w ≡ settled (joined a b) r
    unfolding settled
    at_written i j u v w k ei ej eu ev ew =
        let l : length (joined a b) ≤ 65536 = omega (arith, size) in
        let s : length (joined a b) ≤ length r = omega (arith, size) in
        simp (le-ltb _ _ l, le-ltb _ _ s) (ap₂ left (ap (λ (y : ℕ). record { fault = None; value = y }) (sym size)) written)
      where
        first : 0 + length (digits 4 (count_of a + count_of b)) ≡ 4
        first = omega (arith, length_digits 4 (count_of a + count_of b))

        second : 4 + length (counted a) ≡ m
        second = omega (arith, length_counted a (omega arith), offset_low a (count_of a), ma.end)

        written : w ≡ put r 0 (joined a b)
        written =
            ew ∙ ap₂ (λ (p : List ℕ) (q : ℕ). put p m (bytes_at b 4 (q - 4))) (ev ∙ ap₂ (λ (p : List ℕ) (q : ℕ). put p 4 (bytes_at a 4 (q - 4))) (eu ∙ ap₂ (λ (x y : ℕ). put r 0 (digits 4 (x + y))) ei ej) ma.end) mb.end
            ∙ ap₂ (λ (p q : List ℕ). put (put (put r 0 (digits 4 (count_of a + count_of b))) 4 p) m q) (sym (counted_is a)) (sym (counted_is b))
            ∙ ap (λ (q : ℕ). put (put (put r 0 (digits 4 (count_of a + count_of b))) 4 (counted a)) q (counted b)) (sym second)
            ∙ sym (put_append (put r 0 (digits 4 (count_of a + count_of b))) 4 (counted a) (counted b))
            ∙ ap (λ (q : ℕ). put (put r 0 (digits 4 (count_of a + count_of b))) q (counted a ++ counted b)) (sym first)
            ∙ sym (put_append r 0 (digits 4 (count_of a + count_of b)) (counted a ++ counted b))
            ∙ ap (put r 0) (sym (joined_is a b))

-- ---- `join`
-- what a walk tells, or what follows
abbrev unless : List ℕ → Walked → Joining → Joining
unless r w j = cond (is_stopped w) (unjoined r (fault_of w)) j

past_lengths : (a b r : List ℕ) → bad_length a ≡ false → bad_length b ≡ false → join_into a b r ≡ unless r (cut_of a) (unless r (cut_of b) (settled (joined a b) r))
unfolding join_into settled
past_lengths a b r p q = simp (p, q)

module _ (a b r : List ℕ) (s : Bool) (es : s ≡ bad_length a) where
  pub first_length : s ≡ true → left (record { fault = Length; value = 0 }) r ≡ join_into a b r
  unfolding join_into
  first_length h =
      let p : bad_length a ≡ true = sym es ∙ h in
      simp p

  module _ (hs : s ≡ false) (t : Bool) (et : t ≡ bad_length b) where
    pub second_length : t ≡ true → left (record { fault = Length; value = 0 }) r ≡ join_into a b r
    unfolding join_into
    second_length h =
        let p : bad_length a ≡ false = sym es ∙ hs in
        let q : bad_length b ≡ true = sym et ∙ h in
        simp (p, q)

    module _ (ht : t ≡ false) where
      shape : join_into a b r ≡ unless r (cut_of a) (unless r (cut_of b) (settled (joined a b) r))
      shape = past_lengths a b r (sym es ∙ hs) (sym et ∙ ht)

      pub first_cut : (stop : BadElement) → Err stop ≡ extent_of a → left (record { fault = Element stop.bad stop.place; value = 0 }) r ≡ join_into a b r
      first_cut stop h = sym (shape ∙ ap (λ (w : Walked). unless r w (unless r (cut_of b) (settled (joined a b) r))) (told_cut a stop h))

      module _ (m : ℕ) (hm : Ok m ≡ extent_of a) where
        past_first : join_into a b r ≡ unless r (cut_of b) (settled (joined a b) r)
        past_first = shape ∙ ap (λ (w : Walked). unless r w (unless r (cut_of b) (settled (joined a b) r))) (told_end a m hm).0

        pub second_cut : (stop : BadElement) → Err stop ≡ extent_of b → left (record { fault = Element stop.bad stop.place; value = 0 }) r ≡ join_into a b r
        second_cut stop h = sym (past_first ∙ ap (λ (w : Walked). unless r w (settled (joined a b) r)) (told_cut b stop h))

        pub both_ends : (n : ℕ) (j : Joining) → Ok n ≡ extent_of b → j ≡ settled (joined a b) r → j ≡ join_into a b r
        both_ends n j h e = e ∙ sym (past_first ∙ ap (λ (w : Walked). unless r w (settled (joined a b) r)) (told_end b n h).0)

-- ---- what is accepted
module _ (a b r : List ℕ) where
  -- past the tests of the two buffers only the joined one counts
  pub join_past : Joinable a → Joinable b → join_into a b r ≡ settled (joined a b) r
  join_past ja jb =
      past_lengths a b r ja.sized jb.sized
      ∙ ap₂ (λ (v w : Walked). unless r v (unless r w (settled (joined a b) r))) ja.uncut jb.uncut

  pub join_done : CanJoin a b r → join_into a b r ≡ left (record { fault = None; value = length (joined a b) }) (put r 0 (joined a b))
  unfolding settled
  join_done j = join_past j.first j.second ∙ simp (le-ltb _ _ j.short, le-ltb _ _ j.room)

  pub join_accepted : (join_into a b r).answer.fault ≡ None → CanJoin a b r
  unfolding join_into
  join_accepted = go (bad_length a) (bad_length b) (cut_of a) (cut_of b) (ltb 65536 (length (joined a b))) (ltb (length r) (length (joined a b))) refl refl refl refl refl refl
    where
      go : (s t : Bool) (v w : Walked) (x y : Bool) → bad_length a ≡ s → bad_length b ≡ t → cut_of a ≡ v → cut_of b ≡ w → ltb 65536 (length (joined a b)) ≡ x
          → ltb (length r) (length (joined a b)) ≡ y
          → (first_of (unjoined r) ((s, Length) ∷ (t, Length) ∷ (is_stopped v, fault_of v) ∷ (is_stopped w, fault_of w) ∷ (x, Length) ∷ (y, Short Output) ∷ [])
          (left (record { fault = None; value = length (joined a b) }) (put r 0 (joined a b)))).answer.fault ≡ None → CanJoin a b r
      go true t v w x y p q f g h k e = let z : ◌≡◌ {A = ℕ} 0 1 = cc in absurd (omega arith)
      go false true v w x y p q f g h k e = let z : ◌≡◌ {A = ℕ} 0 1 = cc in absurd (omega arith)
      go false false (Err stop) w x y p q f g h k e = let z : ◌≡◌ {A = ℕ} 0 1 = cc in absurd (omega arith)
      go false false (Ok _) (Err stop) x y p q f g h k e = let z : ◌≡◌ {A = ℕ} 0 1 = cc in absurd (omega arith)
      go false false (Ok _) (Ok _) true y p q f g h k e = let z : ◌≡◌ {A = ℕ} 0 1 = cc in absurd (omega arith)
      go false false (Ok _) (Ok _) false true p q f g h k e = let z : ◌≡◌ {A = ℕ} 0 1 = cc in absurd (omega arith)
      go false false (Ok _) (Ok _) false false p q f g h k e = record {
        first = record { sized = p; uncut = f };
        second = record { sized = q; uncut = g };
        short = ltb-false _ _ h;
        room = ltb-false _ _ k;
      }
