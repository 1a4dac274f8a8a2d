use Rattle.std.proofs.Common.{ℕ, List, get_or, ap}
use Rattle.byte_lanes.specs.Bytes.{byte}
use Rattle.byte_lanes.proofs.bytes.bytes_of.Goals as goal

pub returns : goal.returns
unfolding byte
returns c = λ i. ap (λ (bs : List ℕ). get_or bs i 0) c.to_le_bytes.ensures
