-- From the linear light of each channel.
use Rattle.std.proofs.Common.{arith}
use Rattle.page_values.proofs.LightTable.{light-0, light-10, light-40, light-60, light-128, light-136, light-137, light-255}
use Rattle.page_values.proofs.red_values.saturated_edge.Goals as goal

pub returns : goal.returns
returns c = record {
  red = record { mostly = omega (arith, light-0, light-255); some = omega (arith, light-255) };
  below_the_edge = record { mostly = omega (arith, light-0, light-136, light-255); some = omega (arith, light-255) };
  above_the_edge = λ s. omega (arith, light-0, light-137, light-255);
  dark = record { mostly = omega (arith, light-10, light-60, light-128); some = omega (arith, light-128) };
  dark_and_blue = λ s. omega (arith, light-40, light-60, light-128);
  black = λ s. omega (arith, light-0);
}
