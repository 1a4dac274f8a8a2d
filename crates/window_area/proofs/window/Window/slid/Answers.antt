use Rattle.std.proofs.Common.{◌+◌, ◌<◌, arith}
use Rattle.window_area.specs.Edges.{end_of}
use Rattle.window_area.proofs.BandLemmas.{edge-le-end, in_band-inside}
use Rattle.window_area.proofs.window.Window.slid.Goals as goal

pub returns-clause-window : goal.returns-clause-window
returns-clause-window c =
    let at_end = edge-le-end c.args.edges.now (c.args.self.now.next + 1) c.requires.edges c.requires.stride.inside in
    let before : c.args.self.now.place + c.args.stride < end_of c.args.edges.now =
    omega (arith, at_end, c.requires.stride.next, c.requires.window.some) in
    record {
      some = c.requires.window.some;
      inside = in_band-inside c.args.edges.now (c.args.self.now.place + c.args.stride) c.band_from.result c.band_from.ensures before;
      first = c.band_from.ensures;
      next = c.band_from-2.ensures;
    }
