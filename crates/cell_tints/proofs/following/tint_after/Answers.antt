-- The states are ready to be painted.
use Rattle.std.proofs.Common.{arith}
use Rattle.std.proofs.lemmas.Option.{slice_get_within}
use Rattle.cell_tints.proofs.following.tint_after.Goals as goal

pub tint_of-requires-clause-ready : goal.tint_of-requires-clause-ready
tint_of-requires-clause-ready c number layer is coloured =
    let there = slice_get_within c.args.scene.now.layers number layer is in
    let long = c.requires.long in
    c.requires.later number (omega (arith, there, long))
