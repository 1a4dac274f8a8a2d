-- They are made of these cells and horizons.
use Rattle.region_parts.proofs.PartLemmas.{greatest-refuted, parts-made}
use Rattle.region_parts.proofs.parted.parted_into.Goals as goal

pub returns-then-not-is_little_work : goal.returns-then-not-is_little_work
returns-then-not-is_little_work c =
    greatest-refuted c.args.scene.now c.args.setup.now c.args.needs.now.horizons.items c.args.needs.now.frames.items c.args.cuts
    c.args.horizons.items c.greatest_of-frames.result
    (record { cut = c.requires.cut; all = c.requires.all; most = rw c.as_slice.ensures.value at c.greatest_of-frames.ensures })
    (λ little. let is = c.is_little_work.ensures.1 (rw c.cells.ensures little) in cc)

pub returns : goal.returns
returns c =
    parts-made c.args.scene.now c.args.setup.now c.args.needs.now.horizons.items c.args.needs.now.frames.items c.args.cuts
    c.args.horizons.items c.greatest_of-frames.result
    (record { cut = c.requires.cut; all = c.requires.all; most = rw c.as_slice.ensures.value at c.greatest_of-frames.ensures })
    (rw c.cells.ensures at (c.is_little_work.ensures.0 c.if-not-is_little_work.false))
