-- One frame more was seen, and what was painted is that of the frame before the next one.
use Rattle.std.proofs.Common.{rules}
use Rattle.sweep.proofs.PaintLemmas.{painted-after}
use Rattle.sweep.proofs.pass.pass.Goals as goal

pub frames-preserved : goal.frames-preserved
frames-preserved c = record {
  painted = painted-after c.args.scene.now c.args.setup.now c.args.cuts.now c.args.groups.now c.frames.frame
      c.step-found.new.room.states.items c.step-found.new.room.tints.items c.step-found.ensures.painted;
  swept = c.step-found.ensures.swept;
  places = c.step-found.ensures.places;
  only = search rules;
}
