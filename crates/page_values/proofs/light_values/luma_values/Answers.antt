-- From the linear light of each channel.
use Rattle.std.proofs.Common.{arith}
use Rattle.page_values.proofs.LightTable.{light-0, light-10, light-29, light-89, light-90, light-170, light-178, light-255}
use Rattle.page_values.proofs.light_values.luma_values.Goals as goal

pub returns : goal.returns
returns c = record {
  black = omega (arith, light-0);
  darkest_grey = omega (arith, light-10);
  grey_59 = omega (arith, light-89);
  grey_5a = omega (arith, light-90);
  teal = omega (arith, light-29, light-170, light-178);
  red = omega (arith, light-0, light-255);
  white = omega (arith, light-255);
}
