-- The wrong reach breaks the law, by an example.
use Rattle.std.proofs.Common.{◌≡◌, refl, arith}
use Rattle.std.specs.Prelude.{pos}
use Rattle.std.proofs.lemmas.Int.{ints}
use Rattle.page_model.specs.Curve.{point_of}
use Rattle.page_model.specs.Fraction.{Fraction}
use Rattle.page_model.specs.Least.{greatest_up_to}
use Rattle.page_model.specs.ValidScene.{IsCurve}
use Rattle.curve_laws.specs.WrongCurves.{ReachesBarelyAt, BareReachBreaks}

-- the curve of a straight line, at the middle
abbrev middle : Fraction
middle = record { num = 1; den = 2 }

straight : IsCurve 0 (pos 0) 1000 (pos 1000)
straight = record {
  first_column = omega arith;
  first_height = record { at_least = omega (arith, ints); at_most = omega (arith, ints) };
  second_column = omega arith;
  second_height = record { at_least = omega (arith, ints); at_most = omega (arith, ints) };
}

point-coarse : point_of 0 1000 middle 1 ≡ 0
unfolding point_of greatest_up_to
point-coarse = refl

point-fine : point_of 0 1000 middle 2 ≡ 1
unfolding point_of greatest_up_to
point-fine = refl

reached-fine : ReachesBarelyAt 0 (pos 0) 1000 (pos 1000) middle (pos 2) (pos 1) 2
reached-fine = rw point-fine (omega (arith, ints))

not_reached-coarse : ReachesBarelyAt 0 (pos 0) 1000 (pos 1000) middle (pos 2) (pos 1) 1 → ⊥
not_reached-coarse reach = let h = rw point-coarse at reach in omega (arith, ints, h)

pub bare_reach_breaks : BareReachBreaks
bare_reach_breaks law =
    not_reached-coarse (law 0 (pos 0) 1000 (pos 1000) straight middle (pos 2) (pos 1) 2 1 (omega arith) reached-fine)
