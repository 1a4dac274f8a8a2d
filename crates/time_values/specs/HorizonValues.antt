-- Settled frames and periods of the animations of some pages, as an implementation that shares nothing with these definitions has
-- them.
use Rattle.std.specs.Prelude.{ℕ, pos, neg_ℤ, List, [], ◌∷◌}
use Rattle.page_model.specs.declared.animation.Anim.{Anim}
use Rattle.page_model.specs.declared.animation.Count.TheVariants.{Times, Infinite}
use Rattle.page_model.specs.declared.animation.Direction.TheVariants.{Normal, Reverse, Alternate, AlternateReverse}
use Rattle.page_model.specs.declared.animation.Fill.TheVariants.{Absent, Both}
use Rattle.page_model.specs.Horizon.{IsHorizon}
use Rattle.time_values.specs.Examples.{at_rate, over_1001, animation, paused}

-- at a rate, animations have settled by a frame, and repeat after so many
abbrev Repeats : ℕ → List Anim → ℕ → ℕ → Type 0
Repeats rate anims settled period = IsHorizon (at_rate rate) anims settled period

-- three and a half times, with a negative delay, without a duration behind a delay, and beside one that is paused and so never ends
pub record SettledValues : Type 0 where
  pub finite : Repeats 30 (animation 250 (pos 0) (Times 3500) Normal Absent ∷ []) 27 1
  pub negative_delay : Repeats 60 (animation 2798 (neg_ℤ (pos 1574)) (Times 1000) Reverse Absent ∷ []) 74 1
  pub without_duration :
      Repeats 30 (animation 0 (pos 848) (Times 500) Normal Both ∷ (animation 300 (pos 0) (Times 2000) Normal Absent ∷ [])) 26 1
  pub beside_a_paused :
      Repeats 5
      (animation 100 (pos 0) Infinite Normal Absent
      ∷ (animation 500 (pos 0) (Times 500) Normal Absent ∷ (paused (animation 1000 (pos 0) (Times 7000) Normal Absent) ∷ []))) 2 1
  pub endless_after_a_delay : Repeats 60 (animation 250 (pos 90000) Infinite Normal Absent ∷ []) 5400 15

-- endless ones, alone and together
pub record PeriodValues : Type 0 where
  pub endless : Repeats 30 (animation 250 (pos 0) Infinite Normal Absent ∷ []) 0 15
  pub whole_frames : Repeats 10 (animation 200 (pos 0) Infinite Normal Absent ∷ []) 0 2
  pub alternate : Repeats 30 (animation 100 (pos 0) Infinite Alternate Absent ∷ []) 0 6
  pub two_endless :
      Repeats 5
      (animation 250 (pos 0) Infinite Normal Absent
      ∷ (animation 750 (neg_ℤ (pos 125)) Infinite AlternateReverse Absent ∷ [])) 0 15
  pub finite_and_alternate :
      Repeats 10 (animation 250 (pos 0) (Times 4000) Normal Both ∷ (animation 300 (pos 0) Infinite Alternate Absent ∷ [])) 10 6
  pub short_and_endless :
      Repeats 30 (animation 100 (pos 107) (Times 1) Normal Absent ∷ (animation 1000 (pos 0) Infinite Normal Absent ∷ [])) 4 30

-- at a rate over 1,001, where a whole number of frames lasts a whole number of 1,001 ms: a second there and a second back takes so long
pub record VideoHorizons : Type 0 where
  pub sixty_frames : IsHorizon (over_1001 60000) (animation 1001 (pos 0) Infinite Normal Absent ∷ []) 0 60
  pub seconds : IsHorizon (over_1001 60000) (animation 1000 (pos 0) Infinite Alternate Absent ∷ []) 0 120000
  pub finite : IsHorizon (over_1001 60000) (animation 1001 (pos 0) (Times 20000) Normal Absent ∷ []) 1200 1
