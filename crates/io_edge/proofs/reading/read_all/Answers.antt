use Rattle.std.proofs.Common.{rules, take, length, ◌+◌, ◌≤◌, arith}
use Rattle.std.specs.Io.KnownBytes.{Consumes}
use Rattle.std.proofs.lemmas.Grind.{common_steps}
use Rattle.io_edge.proofs.Taken.{taken_some}
use Rattle.io_edge.proofs.reading.read_all.Goals as goal

pub returns-in_err-extend_from_slice-clause-no_memory : goal.returns-in_err-extend_from_slice-clause-no_memory
returns-in_err-extend_from_slice-clause-no_memory g c =
    let more = take c.in_ok-count.count c.read.new.buf in
    let taken : Consumes (g.S.Source.rest c.pieces.source) (g.S.Source.rest c.read.new.self) more = search rules in
    let room : length c.pieces.bytes.items + length more ≤ c.args.limit + 1 = grind (arith, common_steps) in
    λ _. taken_some (g.S.Source.files c.args.source.now) c.args.name.now (g.S.Source.rest c.pieces.source) (g.S.Source.rest c.read.new.self) c.pieces.bytes.items more (c.args.limit + 1) c.pieces.invariant.taken taken room
