-- So many zeros have that length, by a law and not by counting. Assumes nothing.
use Rattle.std.proofs.Common.{◌≡◌, ℕ, length, sym}
use Rattle.std.proofs.Math.ListN.{replicate}
use Rattle.std.proofs.lemmas.List.{length-replicate}

pub counted : (n : ℕ) → n ≡ length {A = ℕ} (replicate {A = ℕ} n 0)
counted n = sym {A = ℕ} (length-replicate {A = ℕ} n 0)
