-- From the coordinates of each colour, and the linear light of its channels.
use Rattle.std.proofs.Common.{arith}
use Rattle.page_values.proofs.LightTable.{light-0, light-42, light-60, light-191, light-200, light-228, light-255}
use Rattle.time_values.specs.Examples.{rgb}
use Rattle.page_values.proofs.RedLemmas.{far-by, near-by}
use Rattle.page_values.proofs.RedTable.{red-is, green-is, orange-is, yellow-is, mid_grey-is}
use Rattle.page_values.proofs.red_values.red_changes.Goals as goal

pub returns : goal.returns
returns c = record {
  green_to_red = record {
    far = far-by (rgb 0 128 0) (rgb 255 0 0) _ _ green-is red-is (omega arith);
    saturated = record { mostly = omega (arith, light-0, light-255); some = omega (arith, light-255) };
  };
  red_to_green = record {
    far = far-by (rgb 255 0 0) (rgb 0 128 0) _ _ red-is green-is (omega arith);
    saturated = record { mostly = omega (arith, light-0, light-255); some = omega (arith, light-255) };
  };
  green_to_red_is_not_out = λ out. omega (arith, out.saturated.some, light-0);
  orange_to_yellow = record {
    far = far-by (rgb 200 60 0) (rgb 191 228 42) _ _ orange-is yellow-is (omega arith);
    saturated = record { mostly = omega (arith, light-0, light-60, light-200); some = omega (arith, light-200) };
  };
  orange_to_yellow_is_not_into = λ into. omega (arith, into.saturated.mostly, light-42, light-191, light-228);
  grey_to_orange = λ into. near-by (rgb 90 90 90) (rgb 200 60 0) _ _ mid_grey-is orange-is (λ far. omega arith) into.far;
}
