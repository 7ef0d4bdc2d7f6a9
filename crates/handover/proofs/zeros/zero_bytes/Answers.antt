-- What `all` tells is what the definition says byte by byte.
use mathlib.Core.Logic.{◌↔◌}
use mathlib.Core.Path.{◌≡◌}
use Prim.Native.Nat.{ℕ}
use borrow.Author.Rules.{rules}
use lib.ListN.{take, drop}
use Rattle.std.proofs.Common.{All, IsTrue}
use Rattle.handover.proofs.Zero.{zero_all}
use Rattle.handover.proofs.zeros.zero_bytes.Goals as goal

pub returns : goal.returns
returns c =
    let h : IsTrue c.all.result ↔ All (λ (a : ℕ). a ≡ 0) (take c.args.n (drop c.args.at c.args.s.now)) = search rules in
    zero_all _ _ _ _ h
