-- What is the greatest for the two numbers of a step is so for the first two, and what divides those so many times divides these.
use Rattle.std.proofs.Common.{ℕ, ◌*◌}
use Rattle.std.specs.Int.{IsGcd, ◌∣◌}
use Rattle.period_frames.proofs.multiples.greatest_divisor.Given as goal

pub record Steps (a b divisor rest : ℕ) : Type 0 where
  pub greatest : (g : ℕ) → IsGcd divisor rest g → IsGcd a b g
  pub times : (n k : ℕ) → n ∣ a * k → n ∣ b * k → n ∣ divisor * k
  pub rest_times : (n k : ℕ) → n ∣ a * k → n ∣ b * k → n ∣ rest * k

abbrev pub invariant-steps : goal.invariant-steps
invariant-steps l = Steps l.fn.a l.fn.b l.divisor l.rest

abbrev pub decreases-steps : goal.decreases-steps
decreases-steps l = l.rest
