-- The count, then each element that the exit returns (`ids_next`, `output_made`). Assumes nothing.
use Rattle.exits.proofs.Written.{unwrapped, id_listed, id_small, id_inside, id_room, at_next, ids_next, ids_start, at_start}
use Rattle.exits.proofs.Rows.{returned_fits, output_made}
use lib.ListN.{length}
use lib.Seq.{take_all}
use mathlib.Core.Path.{refl, ap, ◌∙◌}
use mathlib.Core.List.{List}
use Prim.Native.Nat.{ℕ, ◌≤◌}
use native.Mathlib.Omega.{arith}
use Rattle.gsb.specs.Message.{elements_bytes}
use Rattle.exits.specs.Exits.{valued}
use Rattle.octets.specs.Bytes.{put}
use Rattle.exits.proofs.put_output.Goals as goal

pub overflow_cast-ids : goal.overflow_cast-ids
overflow_cast-ids c =
    let e = unwrapped _ _ _ _ _ c.unwrap_or-ids.ensures c.returned.ensures c.requires.0 in
    record { fits = omega (arith, (returned_fits _ _ e).few) }

pub loop-id-init : goal.loop-id-init
loop-id-init c = (at_start c.unwrap_or-ids.result.now, refl, ids_start c.args.base c.args.store.now c.put32.new.s c.unwrap_or-ids.result.now)

pub put_thread-at-requires : goal.put_thread-at-requires
put_thread-at-requires c =
    let e = unwrapped _ _ _ _ _ c.unwrap_or-ids.ensures c.returned.ensures c.requires.0 in
    let f = returned_fits _ _ e in
    let h = c.loop-id-test.true in
    (id_listed _ f _ h, id_small _ f _ h, id_inside _ f _ h _ _ c.requires.1, id_room _ f _ h _ _ c.loop-id.invariant.0 (omega arith))

pub loop-id-preserved : goal.loop-id-preserved
loop-id-preserved c =
    let e = unwrapped _ _ _ _ _ c.unwrap_or-ids.ensures c.returned.ensures c.requires.0 in
    let f = returned_fits _ _ e in
    let h = c.loop-id-test.true in
    (at_next _ f _ h _ _ c.loop-id.invariant.0 c.put_thread-at.ensures.0, omega arith, ids_next _ f _ h _ _ _ _ _ _ c.loop-id.invariant.2 c.loop-id.invariant.0 c.put_thread-at.ensures.1 c.requires.1)

pub returns : goal.returns
returns c =
    let e = unwrapped _ _ _ _ _ c.unwrap_or-ids.ensures c.returned.ensures c.requires.0 in
    let w : length c.unwrap_or-ids.result.now ≤ c.loop-id.id-index = omega arith in
    output_made c.args.base c.args.store.now _ _ _ c.args.exit _ _ e refl c.put32.ensures
    (c.loop-id.invariant.2 ∙ ap (λ (y : List ℕ). put c.put32.new.s 4 (elements_bytes (valued c.args.base c.args.store.now y))) (take_all c.loop-id.id-index c.unwrap_or-ids.result.now w))
