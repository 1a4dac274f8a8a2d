-- Each cell needs a frame, and no layer meets it at first.
use Rattle.region_split.specs.Marks.{frames_in}
use Rattle.region_parts.proofs.HorizonLemmas.{horizons-first, one-refuted}
use Rattle.region_parts.proofs.horizons.horizons_of_cells.Goals as goal

pub returns-then-not-is_little_work : goal.returns-then-not-is_little_work
returns-then-not-is_little_work c =
    one-refuted c.args.scene.now c.args.setup.now c.args.needs.now.horizons.items c.args.needs.now.frames.items c.args.cuts.now c.requires.cut
    (λ little. let is = c.is_little_work.ensures.1 (rw c.cells.ensures little) in cc)

pub loop-number-init : goal.loop-number-init
loop-number-init c =
    horizons-first c.args.scene.now c.args.setup.now (frames_in c.args.needs.now.frames.items) c.args.cuts.now c.in_ok-horizons.horizons.items
    (rw c.cells-2.ensures at c.in_ok-horizons.ensures)
