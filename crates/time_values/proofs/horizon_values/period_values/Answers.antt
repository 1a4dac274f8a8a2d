-- Each period by divisibility, and each settled frame by the animation that settles last.
use Rattle.std.proofs.Common.{◌≡◌, ℕ, ◌*◌, ◌%◌, ◌≤◌, arith, rules}
use Rattle.std.specs.Prelude.{pos}
use Rattle.std.proofs.lemmas.Bool.{leb-true}
use Rattle.page_model.specs.declared.animation.Anim.{Anim}
use Rattle.page_model.specs.declared.animation.Count.TheVariants.{Infinite}
use Rattle.page_model.specs.declared.animation.Direction.TheVariants.{Normal}
use Rattle.page_model.specs.declared.animation.Fill.TheVariants.{Absent}
use Rattle.time_values.specs.Examples.{animation}
use Rattle.time_values.proofs.horizon_values.period_values.Goals as goal

-- what stands past the end of a list
any : Anim
any = animation 0 (pos 0) Infinite Normal Absent

least_multiple_2000000 : (m : ℕ) → 1 ≤ m → 1000000 * m % 2000000 ≡ 0 → 2 ≤ m
least_multiple_2000000 m some whole = omega arith

least_multiple_6000000 : (m : ℕ) → 1 ≤ m → 1000000 * m % 6000000 ≡ 0 → 6 ≤ m
least_multiple_6000000 m some whole = omega arith

least_multiple_7500000 : (m : ℕ) → 1 ≤ m → 1000000 * m % 7500000 ≡ 0 → 15 ≤ m
least_multiple_7500000 m some whole = omega arith

least_multiple_30000000 : (m : ℕ) → 1 ≤ m → 1000000 * m % 30000000 ≡ 0 → 30 ≤ m
least_multiple_30000000 m some whole = omega arith

pub returns : goal.returns
returns c = record {
  endless = record {
    settled_is = record { holds = search rules; least = λ m all. omega arith };
    period_is = record {
      holds = record { some = omega arith; whole = search rules };
      least = λ m whole. least_multiple_7500000 m whole.some (whole.whole 0 any (omega arith));
    };
  };
  whole_frames = record {
    settled_is = record { holds = search rules; least = λ m all. omega arith };
    period_is = record {
      holds = record { some = omega arith; whole = search rules };
      least = λ m whole. least_multiple_2000000 m whole.some (whole.whole 0 any (omega arith));
    };
  };
  alternate = record {
    settled_is = record { holds = search rules; least = λ m all. omega arith };
    period_is = record {
      holds = record { some = omega arith; whole = search rules };
      least = λ m whole. least_multiple_6000000 m whole.some (whole.whole 0 any (omega arith));
    };
  };
  two_endless = record {
    settled_is = record { holds = search rules; least = λ m all. omega arith };
    period_is = record {
      holds = record { some = omega arith; whole = search rules };
      least = λ m whole. least_multiple_7500000 m whole.some (whole.whole 1 any (omega arith));
    };
  };
  finite_and_alternate = record {
    settled_is = record { holds = search rules; least = λ m all. let last = leb-true 10000000 (1000000 * m) (all 0 any (omega arith)) in omega arith };
    period_is = record {
      holds = record { some = omega arith; whole = search rules };
      least = λ m whole. least_multiple_6000000 m whole.some (whole.whole 0 any (omega arith));
    };
  };
  short_and_endless = record {
    settled_is = record { holds = search rules; least = λ m all. let last = leb-true 3213000 (1000000 * m) (all 0 any (omega arith)) in omega arith };
    period_is = record {
      holds = record { some = omega arith; whole = search rules };
      least = λ m whole. least_multiple_30000000 m whole.some (whole.whole 0 any (omega arith));
    };
  };
}
