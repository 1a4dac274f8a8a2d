-- Progress of single animations in single frames. The values are those of an implementation that shares nothing with these
-- definitions.
use Rattle.std.specs.Prelude.{ℕ, pos, neg_ℤ, Option, None, ◌≡◌}
use Rattle.page_model.specs.declared.animation.Anim.{Anim}
use Rattle.page_model.specs.declared.animation.Count.TheVariants.{Times, Infinite}
use Rattle.page_model.specs.declared.animation.Direction.TheVariants.{Normal, Reverse, Alternate, AlternateReverse}
use Rattle.page_model.specs.declared.animation.Fill.TheVariants.{Absent, Forwards, Backwards, Both}
use Rattle.page_model.specs.Fraction.{Fraction}
use Rattle.page_model.specs.Progress.{progress_of}
use Rattle.time_values.specs.Examples.{at_rate, over_1001, animation, paused, fraction, Is}

-- the progress in a frame at a rate
abbrev progress_at : ℕ → ℕ → Anim → Option Fraction
progress_at rate frame anim = progress_of (at_rate rate) anim frame

-- before the delay is over
pub record BeforeValues : Type 0 where
  pub forwards_has_no_effect : progress_at 120 15 (animation 997 (pos 333) (Times 2250) Reverse Forwards) ≡ None
  pub absent_has_no_effect : progress_at 7 75 (animation 250 (pos 90000) (Times 0) Alternate Absent) ≡ None
  pub both_is_the_start : Is (progress_at 1 0 (animation 250 (pos 250) (Times 3000) Normal Both)) (fraction 0 1)
  pub reversed_starts_at_one : Is (progress_at 25 14 (animation 1500 (pos 90000) (Times 10000000) AlternateReverse Backwards)) (fraction 1 1)
  pub without_duration : Is (progress_at 50 16 (animation 0 (pos 333) (Times 2250) Reverse Both)) (fraction 1 1)

-- from the end of the delay on
pub record ActiveValues : Type 0 where
  pub first_frame : Is (progress_at 240 60 (animation 1000 (pos 250) (Times 1500) Normal Backwards)) (fraction 0 1)
  pub reverse : Is (progress_at 50 30 (animation 997 (pos 250) (Times 3000) Reverse Forwards)) (fraction 647 997)
  pub alternate : Is (progress_at 10 75 (animation 286 (pos 100) (Times 10000000) Alternate Backwards)) (fraction 18 143)
  pub negative_delay : Is (progress_at 10 1 (animation 286 (neg_ℤ (pos 1000)) (Times 10000000) AlternateReverse Absent)) (fraction 11 13)
  pub endless : Is (progress_at 7 1 (animation 100 (pos 100) Infinite Normal Both)) (fraction 3 7)
  pub turning_point : Is (progress_at 10 15 (animation 100 (neg_ℤ (pos 100000)) (Times 10000000) Alternate Absent)) (fraction 1 1)
  pub next_iteration : Is (progress_at 50 15 (animation 100 (pos 100) (Times 10000000) Reverse Forwards)) (fraction 1 1)

-- from the end of the active duration on
pub record AfterValues : Type 0 where
  pub first_frame_with_fill : Is (progress_at 97 242500 (animation 250 (pos 0) (Times 10000000) AlternateReverse Both)) (fraction 1 1)
  pub first_frame_without : progress_at 1 2 (animation 1000 (neg_ℤ (pos 1000)) (Times 3000) AlternateReverse Absent) ≡ None
  pub whole_count : Is (progress_at 97 9797 (animation 100000 (neg_ℤ (pos 1000)) (Times 1000) Normal Both)) (fraction 1 1)
  pub part_of_an_iteration : Is (progress_at 24 75 (animation 250 (pos 100) (Times 2250) AlternateReverse Forwards)) (fraction 3 4)
  pub no_iteration : Is (progress_at 120 13 (animation 997 (pos 100) (Times 0) Alternate Both)) (fraction 0 1)
  pub no_iteration_reversed : Is (progress_at 120 90 (animation 286 (pos 0) (Times 0) AlternateReverse Forwards)) (fraction 1 1)
  pub without_duration : Is (progress_at 1 1 (animation 0 (neg_ℤ (pos 1000)) (Times 2250) AlternateReverse Forwards)) (fraction 3 4)
  pub endless_without_duration : Is (progress_at 24 6 (animation 0 (pos 250) Infinite Normal Both)) (fraction 1 1)
  pub endless_alternate_without_duration : Is (progress_at 240 60 (animation 0 (neg_ℤ (pos 100000)) Infinite Alternate Both)) (fraction 1 1)

-- paused
pub record PausedValues : Type 0 where
  pub in_the_middle : Is (progress_at 10 2 (paused (animation 1000 (neg_ℤ (pos 125)) (Times 1500) Alternate Backwards))) (fraction 1 8)
  pub behind_the_end : Is (progress_at 7 14 (paused (animation 1 (neg_ℤ (pos 125)) (Times 1) Alternate Both))) (fraction 1 1000)
  pub before_the_start : progress_at 60 2 (paused (animation 100 (pos 250) (Times 20000) Normal Forwards)) ≡ None

-- the progress in a frame at a rate over 1,001
abbrev progress_over_1001 : ℕ → ℕ → Anim → Option Fraction
progress_over_1001 num frame anim = progress_of (over_1001 num) anim frame

-- at a rate over 1,001: up to the end, right at it, behind it, and in a frame that is far on
pub record VideoValues : Type 0 where
  pub end_of_the_delay : Is (progress_over_1001 60000 60 (animation 1001 (pos 1001) (Times 1500) Alternate Forwards)) (fraction 0 1)
  pub reversed : Is (progress_over_1001 60000 14 (animation 250 (neg_ℤ (pos 125)) (Times 1500) AlternateReverse Both)) (fraction 3257 7500)
  pub next_frame : Is (progress_over_1001 24000 1 (animation 997 (pos 0) (Times 1500) Normal Both)) (fraction 1001 23928)
  pub far_on : Is (progress_over_1001 60000 2084556602 (animation 1001 (pos 1001) Infinite Alternate Backwards)) (fraction 29 30)
  pub behind_the_end : Is (progress_over_1001 60060 2 (animation 1001 (pos 0) (Times 1) Alternate Forwards)) (fraction 1 1000)
  pub without_duration : Is (progress_over_1001 60000 3250815977 (animation 0 (neg_ℤ (pos 125)) (Times 1500) Normal Forwards)) (fraction 1 2)
