use Rattle.std.proofs.Common.{◌≡◌, length}
use Rattle.tint_changes.specs.Counting.{CountsFirst, CountsSecond}
use Rattle.tint_changes.proofs.counting.Counts.of.Given as goal

abbrev pub invariant-loop-place : goal.invariant-loop-place
invariant-loop-place l =
    CountsFirst l.opposing l.tints l.place l.counts.first × CountsSecond l.opposing l.tints l.place l.counts.second
    × (length l.counts.first ≡ 241) × (length l.counts.second ≡ 241)
