use Rattle.std.proofs.Common.{ℕ, ◌≡◌, ◌+◌, ◌<◌, min, arith, inl, inr}
use Rattle.std.proofs.lemmas.Bool.{cases_lt}
use Rattle.std.proofs.Math.Nat.{min-eq_left, min-eq_right}
use Rattle.region_split.proofs.RepeatLemmas.{repeats-enough}
use Rattle.region_split.proofs.moving.frames_of.Goals as goal

-- a frame below both is below the lesser
below-min : (frame a b least : ℕ) → least ≡ min a b → frame < a → frame < b → frame < least
below-min frame a b least is one other =
    elim (cases_lt a b) [
      | inl less ↦ let same : min a b ≡ a = min-eq_left (omega arith) in omega arith
      | inr more ↦ let same : min a b ≡ b = min-eq_right (omega arith) in omega arith
    ]

pub returns-in-Some-clause-enough : goal.returns-in-Some-clause-enough
returns-in-Some-clause-enough c l there =
    let known = c.in-Some.horizon in
    let horizon = c.in-Some.ensures.horizon l there in
    repeats-enough c.args.scene.now c.args.setup.now l known.settled known.period c.args.frames c.min.result horizon.period_is.holds.some
    (c.in-Some.ensures.repeats l there)
    (λ frame below early. below-min frame c.args.frames (known.settled + known.period) c.min.result c.min.ensures below early)
