-- Each period by divisibility, and the settled frame by the end of the animation.
use Rattle.std.proofs.Common.{◌≡◌, ℕ, ◌*◌, ◌%◌, ◌≤◌, arith, rules}
use Rattle.std.specs.Prelude.{pos}
use Rattle.std.proofs.lemmas.Bool.{leb-true}
use Rattle.page_model.specs.declared.animation.Anim.{Anim}
use Rattle.page_model.specs.declared.animation.Count.TheVariants.{Infinite}
use Rattle.page_model.specs.declared.animation.Direction.TheVariants.{Normal}
use Rattle.page_model.specs.declared.animation.Fill.TheVariants.{Absent}
use Rattle.time_values.specs.Examples.{animation}
use Rattle.time_values.proofs.horizon_values.video_horizons.Goals as goal

-- what stands past the end of a list
any : Anim
any = animation 0 (pos 0) Infinite Normal Absent

least_of_sixty : (m : ℕ) → 1 ≤ m → 1001000000 * m % 60060000000 ≡ 0 → 60 ≤ m
least_of_sixty m some whole = omega arith

least_of_seconds : (m : ℕ) → 1 ≤ m → 1001000000 * m % 120000000000 ≡ 0 → 120000 ≤ m
least_of_seconds m some whole = omega arith

pub returns : goal.returns
returns c = record {
  sixty_frames = record {
    settled_is = record { holds = search rules; least = λ m all. omega arith };
    period_is = record {
      holds = record { some = omega arith; whole = search rules };
      least = λ m whole. least_of_sixty m whole.some (whole.whole 0 any (omega arith));
    };
  };
  seconds = record {
    settled_is = record { holds = search rules; least = λ m all. omega arith };
    period_is = record {
      holds = record { some = omega arith; whole = search rules };
      least = λ m whole. least_of_seconds m whole.some (whole.whole 0 any (omega arith));
    };
  };
  finite = record {
    settled_is = record { holds = search rules; least = λ m all. let last = leb-true 1201200000000 (1001000000 * m) (all 0 any (omega arith)) in omega arith };
    period_is = record {
      holds = record { some = omega arith; whole = search rules };
      least = λ m whole. whole.some;
    };
  };
}
