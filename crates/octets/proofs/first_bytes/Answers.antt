-- The part that is handed back (`first_lent`).
use Rattle.octets.proofs.Bytes.{first_lent}
use Rattle.octets.proofs.first_bytes.Goals as goal

pub returns : goal.returns
returns c = first_lent _ _
