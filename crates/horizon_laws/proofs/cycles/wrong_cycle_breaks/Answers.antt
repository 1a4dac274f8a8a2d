-- The two progresses differ.
use Rattle.std.proofs.Common.{◌≡◌, ℕ, refl, ap, arith}
use Rattle.std.specs.Prelude.{Option, option_map, unwrap_or}
use Rattle.page_model.specs.Fraction.{Fraction}
use Rattle.page_model.specs.Time.{HasFrames}
use Rattle.horizon_laws.specs.CycleLaws.{there_and_back}
use Rattle.time_values.specs.Examples.{at_rate}
use Rattle.horizon_laws.proofs.cycles.wrong_cycle_breaks.Goals as goal

abbrev parts : Option Fraction → ℕ
parts x = unwrap_or (option_map (λ (f : Fraction). f.num) x) 0

pub returns : goal.returns
returns c = record {
  whole_by_single = refl;
  there = refl;
  back = refl;
  breaks = λ repeats.
      let rate : HasFrames (at_rate 60) = record { some_num = omega arith; some_den = omega arith } in
      let same : 45000 ≡ 15000 = ap parts (repeats (at_rate 60) there_and_back 15 60 rate refl refl refl) in
      omega arith;
}
