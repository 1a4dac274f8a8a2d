-- The wrong definitions fail on their examples, by computing.
use Rattle.std.proofs.Common.{ℕ, ◌*◌, ℤ, pos, ◌≤ℤ◌, arith, refl}
use Rattle.std.proofs.lemmas.Int.{ints}
use Rattle.page_model.specs.Curve.{point_of}
use Rattle.page_model.specs.Fraction.{Fraction}
use Rattle.page_model.specs.LayerAt.{no_colour}
use Rattle.page_model.specs.Least.{greatest_up_to}
use Rattle.page_model.specs.Slot.{RoundsTo, cover}
use Rattle.state_laws.specs.ExamplePage.{body_of}
use Rattle.state_laws.specs.WrongRun.{CoverRunBreaks, IsCoverRunIn, dives, diving, diving_page, one_a_second}
use Rattle.state_laws.specs.WrongSlot.{HalfDownBreaks, NearerBreaks, SomeBreaks}
use Rattle.state_laws.proofs.ExamplePageLemmas.{any-valid, dives-valid, none-valid}
use Rattle.state_laws.proofs.UniqueLemmas.{RoundsTo-antitone}

pub half_down-breaks : HalfDownBreaks
half_down-breaks good = good.greatest (omega (arith, ints)) (omega (arith, ints))

pub some-breaks : SomeBreaks
some-breaks = record {
  none = record { at_least = omega (arith, ints); at_most = omega (arith, ints); reached = λ above. absurd (omega (arith, ints)) };
  one = record { at_least = omega (arith, ints); at_most = omega (arith, ints); reached = λ above. omega (arith, ints) };
}

pub nearer-breaks : NearerBreaks
nearer-breaks good = true_is_false (good.hidden refl)
  where
    true_is_false : (pos 4 ≤ℤ pos 3) → ⊥
    true_is_false h = omega (arith, ints)

-- the distance after a second: half the way
abbrev half_way : Fraction
half_way = record { num = 10000 * 1000; den = 10000 * 2000 }

-- at scale 16 the curve is far below 0, by more than the slack of that scale
not_reached : RoundsTo cover diving half_way (pos 0) (pos 255000) (pos 0) → ⊥
unfolding point_of greatest_up_to
not_reached reached = let h = reached 4 in h.le

cover_run-empty : (run : ℕ → ℕ → ℤ) → IsCoverRunIn diving_page one_a_second 0 run → ⊥
cover_run-empty run exact =
    let good = exact 1 0 (body_of no_colour dives) (omega arith) (omega arith) refl in
    not_reached (RoundsTo-antitone cover diving half_way (pos 0) (pos 255000) (pos 0) (run 1 0) good.at_least good.reached)

pub cover_run-breaks : CoverRunBreaks
cover_run-breaks = record {
  valid = any-valid no_colour dives 10000 none-valid dives-valid (omega arith) (omega arith);
  empty = cover_run-empty;
}
