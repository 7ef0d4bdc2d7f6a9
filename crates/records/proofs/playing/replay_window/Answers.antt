-- A window's records, its last line and what is kept of it: `window_all`.
use native.Mathlib.Omega.{arith}
use Rattle.records.proofs.Finished.{first_count, window_all}
use Rattle.records.proofs.Windows.{kept}
use Rattle.std.proofs.Common.{◌∙◌}
use borrow.Author.Rules.{rules}
use Rattle.records.proofs.playing.replay_window.Goals as goal

pub slice_bounds-play_all-end-2 : goal.slice_bounds-play_all-end-2
slice_bounds-play_all-end-2 c = first_count _ _ c.requires.0.within

pub play_all-s-requires : goal.play_all-s-requires
play_all-s-requires c =
    let a = c.args in
    let r = c.requires.0 in
    let n = first_count a.window.now a.filled r.within in
    (search rules, search rules, omega (arith, n, r.room), omega (arith, n, r.counted, r.fits))

pub overflow_add-next : goal.overflow_add-next
overflow_add-next c =
    let a = c.args in
    let r = c.requires.0 in
    let n = first_count a.window.now a.filled r.within in
    omega (arith, n, r.fits, c.play_all-s.ensures.at_in_bounds.0)

pub push_end-written-requires : goal.push_end-written-requires
push_end-written-requires c =
    let a = c.args in
    let r = c.requires.0 in
    let n = first_count a.window.now a.filled r.within in
    omega (arith, n, r.room, c.play_all-s.ensures.at_in_bounds.0, c.play_all-s.ensures.at_in_bounds.1)

pub overflow_sub-result : goal.overflow_sub-result
overflow_sub-result c =
    let a = c.args in
    let r = c.requires.0 in
    let n = first_count a.window.now a.filled r.within in
    omega (arith, n, c.play_all-s.ensures.at_in_bounds.0)

pub returns : goal.returns
returns c = let r = c.requires.0 in record {
  fact = window_all _ _ _ _ _ _ _ _ _ _ _ _ _ _ _ _ c.play_all-s.ensures.fact r.within c.play_all-s.ensures.at_in_bounds.0
      c.is_stop-stops.ensures c.push_end-written.ensures.0 (c.copy_within.ensures.after ∙ kept _ _ _ c.play_all-s.ensures.at_in_bounds.0 r.within) (search rules);
  kept_in_bounds = (omega (arith, r.within), c.push_end-written.ensures.1);
}
