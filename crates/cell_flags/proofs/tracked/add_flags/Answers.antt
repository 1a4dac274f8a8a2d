-- One window more.
use Rattle.std.proofs.Common.{◌≡◌, ◌+◌, ◌*◌, ap, arith, rules, slice_get, subst, ◌∙◌}
use Rattle.cell_flags.specs.Flags.{AddsFlags, IsTracking}
use Rattle.cell_flags.proofs.TrackLemmas.{adds-more, flag-at, tracking-more}
use Rattle.cell_flags.proofs.tracked.add_flags.Goals as goal

pub loop-start-preserved : goal.loop-start-preserved
loop-start-preserved c =
    let frame : c.loop-start.start + c.args.rate ≡ c.loop-start.start + c.from.result = omega (arith, c.from.ensures) in
    let tracking = tracking-more c.args.tints.now c.args.cells c.args.cell c.args.rate (c.loop-start.start + c.args.rate) c.loop-start.tracker
    c.push.new.self c.tint_at.result c.loop-start.invariant.tracking c.push.ensures
    (ap (λ n. slice_get c.args.tints.now (n * c.args.cells + c.args.cell)) frame ∙ c.tint_at.ensures) in
    let next : c.loop-start.start + c.args.rate + 1 ≡ c.loop-start.start + 1 + c.args.rate = omega arith in record {
      tracking = subst (λ n. IsTracking c.args.tints.now c.args.cells c.args.cell c.args.rate n c.push.new.self) next tracking;
      added = adds-more c.args.tints.now c.args.cells c.args.cell c.args.rate c.loop-start.start c.args.flags.now.items
          c.loop-start.flags.items c.push-in-loop-start.new.self.items c.flagged.result c.loop-start.invariant.added (search rules)
          (flag-at c.args.tints.now c.args.cells c.args.cell c.args.rate c.loop-start.start c.push.new.self c.flagged.result tracking
          (record { possible = c.flagged.ensures.possible; sure = c.flagged.ensures.sure }));
    }

pub returns : goal.returns
returns c =
    let all : c.loop-start.start ≡ c.args.windows = omega (arith, c.loop-start.auto.start-end, c.loop-start-test.false) in
    subst (λ n. AddsFlags c.args.tints.now c.args.cells c.args.cell c.args.rate n c.args.flags.now.items c.loop-start.flags.items) all
    c.loop-start.invariant.added
