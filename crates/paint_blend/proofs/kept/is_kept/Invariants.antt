-- The layers that were looked at miss the pixel.
use Rattle.std.proofs.Common.{take}
use Rattle.std.specs.Prelude.{All}
use Rattle.paint_blend.specs.Kept.{MissesBoth}
use Rattle.paint_blend.proofs.kept.is_kept.Given as goal

abbrev pub invariant-loop-number : goal.invariant-loop-number
invariant-loop-number l = All (MissesBoth l.before l.now l.x l.y) (take l.number-index l.changed)
