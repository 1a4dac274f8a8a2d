-- From the coordinates of each colour.
use Rattle.std.proofs.Common.{refl}
use Rattle.time_values.specs.Examples.{rgb, fraction}
use Rattle.page_values.proofs.RedLemmas.{u-by, v-by}
use Rattle.page_values.proofs.RedTable.{white-is, black-is, dark_grey-is, red-is, orange-is}
use Rattle.page_values.proofs.red_values.chromaticity_values.Goals as goal

pub returns : goal.returns
returns c = record {
  white_u = u-by (rgb 255 255 255) _ (fraction 7604 38435) white-is refl;
  white_v = v-by (rgb 255 255 255) _ (fraction 3600 7687) white-is refl;
  black_u = u-by (rgb 0 0 0) _ (fraction 7604 38435) black-is refl;
  grey_v = v-by (rgb 10 10 10) _ (fraction 3600 7687) dark_grey-is refl;
  red_u = u-by (rgb 255 0 0) _ (fraction 16496 36593) red-is refl;
  red_v = v-by (rgb 255 0 0) _ (fraction 19134 36593) red-is refl;
  orange_u = u-by (rgb 200 60 0) _ (fraction 21848735740336 56492024371063) orange-is refl;
}
