use Rattle.std.proofs.Common.{◌+◌, arith}
use Rattle.window_area.proofs.BandLemmas.{edge-le-end}
use Rattle.window_area.proofs.strip.overlap.Goals as goal

pub returns-clause-small : goal.returns-clause-small
returns-clause-small c =
    let at_end = edge-le-end c.args.edges.now (c.args.band + 1) c.requires.edges c.requires.inside in
    omega (arith, at_end, c.requires.edges.limit)
