-- Step by step.
use Rattle.std.proofs.Common.{arith}
use Rattle.std.proofs.lemmas.Nat.Gcd.{IsGcd-from_zero, IsGcd-from_mod}
use Rattle.period_frames.proofs.MultipleLemmas.{rest_times}
use Rattle.period_frames.proofs.multiples.greatest_divisor.Goals as goal

pub steps-init : goal.steps-init
steps-init c = record { greatest = λ g is. is; times = λ n k one other. one; rest_times = λ n k one other. other }

pub steps-preserved : goal.steps-preserved
steps-preserved c =
    let before = c.steps.invariant in
    record {
      greatest = λ g is. before.greatest g (IsGcd-from_mod _ _ g is);
      times = before.rest_times;
      rest_times = λ n k one other. rest_times n _ _ k (before.times n k one other) (before.rest_times n k one other);
    }

pub returns-clause-greatest : goal.returns-clause-greatest
returns-clause-greatest c = c.steps.invariant.greatest _ (IsGcd-from_zero _ _ (omega arith))

pub returns-clause-times : goal.returns-clause-times
returns-clause-times c = c.steps.invariant.times
