-- From the linear light of each channel.
use Rattle.std.proofs.Common.{arith}
use Rattle.page_values.proofs.LightTable.{light-0, light-89, light-90, light-231, light-232, light-255}
use Rattle.page_values.proofs.light_values.rise_thresholds.Goals as goal

pub returns : goal.returns
returns c = record {
  black_to_59 = λ rise. omega (arith, light-0, light-89);
  black_to_5a = record { by_a_tenth = omega (arith, light-0, light-90); from_below = omega (arith, light-0) };
  back_from_5a = record { by_a_tenth = omega (arith, light-0, light-90); from_below = omega (arith, light-0) };
  white_to_e7 = record { by_a_tenth = omega (arith, light-231, light-255); from_below = omega (arith, light-231) };
  back_from_e7 = record { by_a_tenth = omega (arith, light-231, light-255); from_below = omega (arith, light-231) };
  white_to_e8 = λ rise. omega (arith, light-232);
  back_from_e8 = λ rise. omega (arith, light-232);
  not_a_fall = λ rise. omega (arith, light-0, light-90);
}
