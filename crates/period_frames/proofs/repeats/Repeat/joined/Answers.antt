-- By the lemmas on two lists.
use Rattle.std.proofs.Common.{◌++◌, arith, subst}
use Rattle.page_model.specs.Horizon.{IsSettled}
use Rattle.period_frames.proofs.JoinLemmas.{periods-joined, settled-joined}
use Rattle.period_frames.proofs.repeats.Repeat.joined.Goals as goal

pub returns : goal.returns
returns c setup some more first second = record {
  settled = subst (IsSettled setup (some ++ more)) (omega arith)
      (settled-joined setup some more c.args.self.settled c.args.other.settled first.settled second.settled);
  period = periods-joined setup some more c.args.self.period c.args.other.period c.joined_periods.result first.period second.period
      c.joined_periods.ensures.joined;
}
