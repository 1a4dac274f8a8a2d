-- From the coordinates of each colour.
use Rattle.std.proofs.Common.{arith}
use Rattle.time_values.specs.Examples.{rgb}
use Rattle.page_values.proofs.RedLemmas.{far-by, near-by}
use Rattle.page_values.proofs.RedTable.{white-is, mid_grey-is, orange-is, orange_4e-is, orange_4f-is, orange_7c-is, orange_7d-is, green-is}
use Rattle.page_values.proofs.red_values.far_edge.Goals as goal

pub returns : goal.returns
returns c = record {
  white_far = far-by (rgb 255 255 255) (rgb 255 78 0) _ _ white-is orange_4e-is (omega arith);
  white_near = near-by (rgb 255 255 255) (rgb 255 79 0) _ _ white-is orange_4f-is (λ far. omega arith);
  green_far = far-by (rgb 0 128 0) (rgb 255 124 0) _ _ green-is orange_7c-is (omega arith);
  green_near = near-by (rgb 0 128 0) (rgb 255 125 0) _ _ green-is orange_7d-is (λ far. omega arith);
  grey_near = near-by (rgb 90 90 90) (rgb 200 60 0) _ _ mid_grey-is orange-is (λ far. omega arith);
}
