-- The animation that settles last bounds the frame from below.
use Rattle.std.proofs.Common.{◌≡◌, ℕ, ◌*◌, ◌%◌, ◌≤◌, arith, rules}
use Rattle.std.specs.Prelude.{pos}
use Rattle.std.proofs.lemmas.Bool.{leb-true}
use Rattle.page_model.specs.declared.animation.Anim.{Anim}
use Rattle.page_model.specs.declared.animation.Count.TheVariants.{Infinite}
use Rattle.page_model.specs.declared.animation.Direction.TheVariants.{Normal}
use Rattle.page_model.specs.declared.animation.Fill.TheVariants.{Absent}
use Rattle.time_values.specs.Examples.{animation}
use Rattle.time_values.proofs.horizon_values.settled_values.Goals as goal

-- what stands past the end of a list
any : Anim
any = animation 0 (pos 0) Infinite Normal Absent

least_multiple_15000000 : (m : ℕ) → 1 ≤ m → 1000000 * m % 15000000 ≡ 0 → 15 ≤ m
least_multiple_15000000 m some whole = omega arith

pub returns : goal.returns
returns c = record {
  finite = record {
    settled_is = record { holds = search rules; least = λ m all. let last = leb-true 26250000 (1000000 * m) (all 0 any (omega arith)) in omega arith };
    period_is = record {
      holds = record { some = omega arith; whole = search rules };
      least = λ m whole. whole.some;
    };
  };
  negative_delay = record {
    settled_is = record { holds = search rules; least = λ m all. let last = leb-true 73440000 (1000000 * m) (all 0 any (omega arith)) in omega arith };
    period_is = record {
      holds = record { some = omega arith; whole = search rules };
      least = λ m whole. whole.some;
    };
  };
  without_duration = record {
    settled_is = record { holds = search rules; least = λ m all. let last = leb-true 25440000 (1000000 * m) (all 0 any (omega arith)) in omega arith };
    period_is = record {
      holds = record { some = omega arith; whole = search rules };
      least = λ m whole. whole.some;
    };
  };
  beside_a_paused = record {
    settled_is = record { holds = search rules; least = λ m all. let last = leb-true 1250000 (1000000 * m) (all 1 any (omega arith)) in omega arith };
    period_is = record {
      holds = record { some = omega arith; whole = search rules };
      least = λ m whole. whole.some;
    };
  };
  endless_after_a_delay = record {
    settled_is = record { holds = search rules; least = λ m all. let last = leb-true 5400000000 (1000000 * m) (all 0 any (omega arith)) in omega arith };
    period_is = record {
      holds = record { some = omega arith; whole = search rules };
      least = λ m whole. least_multiple_15000000 m whole.some (whole.whole 0 any (omega arith));
    };
  };
}
