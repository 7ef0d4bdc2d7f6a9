-- A buffer without a cut element is one whose counted elements end inside. Assumes nothing.
use mathlib.Core.Path.{refl, sym, ap, ◌∙◌}
use mathlib.Core.List.{List}
use Prim.Native.Nat.{ℕ, zero, suc, ◌+◌, ◌*◌, ◌≤◌, ◌<◌}
use native.Mathlib.Numerals.{add-one}
use native.Mathlib.Omega.{arith}
use lib.ListN.{length}
use Rattle.gsb.specs.Walk.{count_of, size_at, next_at, offset_at}
use Rattle.gsb.specs.First.{AllGood}
use Rattle.gsb.specs.Lookup.{framed}
use Rattle.gsb.specs.Join.{end_of, Joinable}
use Rattle.gsb.proofs.Walks.{offset_start, offset_suc, offset_up, length_bounds, bounds_length}
use Rattle.gsb.proofs.First.{accepted_exactly}
use Rattle.gsb.proofs.LookupLaws.{framed_good, framed_inside, framed_leads}
use Rattle.std.proofs.Common.{Ok}

-- `end` says that every counted element lies inside: offsets only grow
pub record Whole (b : List ℕ) : Type 0 where
  pub long : 4 ≤ length b
  pub short : length b ≤ 65536
  pub end : end_of b ≤ length b

module _ (b : List ℕ) where
  -- the last one does
  pub last_inside : ((i : ℕ) → i < count_of b → next_at b (offset_at b i) ≤ length b) → 4 ≤ length b → end_of b ≤ length b
  last_inside f h = go (count_of b) f
    where
      go : (n : ℕ) → ((i : ℕ) → i < n → next_at b (offset_at b i) ≤ length b) → offset_at b n ≤ length b
      go zero g = omega (arith, offset_start b)
      go (suc n) g = omega (arith, g n (omega arith), offset_suc b n)

  pub joinable_whole : Joinable b → Whole b
  joinable_whole j =
      let p = length_bounds b j.sized in
      let g = (accepted_exactly (framed b) b (framed_leads b)).0 j.uncut in
      record {
        long = p.0;
        short = p.1;
        end = last_inside (λ i h. (framed_inside b (offset_at b i) (offset_at b (i + 1)) (framed b (offset_at b i)) refl (g i h)).1) p.0;
      }

  uncut : end_of b ≤ length b → AllGood (framed b) b
  uncut e i h =
      let n : next_at b (offset_at b i) ≤ length b = omega (arith, offset_up b (suc i) (count_of b) h, offset_suc b i) in
      sym (framed_good b (offset_at b i) (size_at b (offset_at b i)) (omega arith) refl (omega arith)) ∙ ap Ok (sym (offset_suc b i) ∙ ap (offset_at b) (sym (add-one i)))

  pub whole_joinable : Whole b → Joinable b
  whole_joinable w = record { sized = bounds_length b w.long w.short; uncut = (accepted_exactly (framed b) b (framed_leads b)).1 (uncut w.end) }

  -- every counted element has a header
  pub count_bound : Whole b → (4 + 4 * count_of b ≤ end_of b) × (count_of b < 16384)
  count_bound w =
      let u = offset_up b 0 (count_of b) (omega arith) in
      (omega (arith, u, offset_start b), omega (arith, u, offset_start b, w.end, w.short))
