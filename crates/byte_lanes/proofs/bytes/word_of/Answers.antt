use Rattle.std.proofs.Common.{ℕ, List, get_or, ap, rules}
use Rattle.std.proofs.lemmas.Nat.{le_bytes_8}
use Rattle.byte_lanes.specs.Bytes.{byte}
use Rattle.byte_lanes.proofs.bytes.word_of.Goals as goal

pub returns : goal.returns
unfolding byte
returns c = λ i.
    ap (λ (bs : List ℕ). get_or bs i 0)
    (le_bytes_8 c.args.bytes c.from_le_bytes.result (search rules) (search rules) c.from_le_bytes.ensures)
