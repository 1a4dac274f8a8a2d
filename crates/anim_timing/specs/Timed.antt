-- The numbers of an animation's timing are in their limits: times in ms, counts in thousandths.
use Rattle.std.specs.Prelude.{pos, neg_ℤ, ◌≤◌}
use Rattle.page_model.specs.declared.animation.Anim.{Anim}
use Rattle.page_model.specs.ValidScene.{IsBetween, IsCount}

pub record IsTimed (anim : Anim) : Type 0 where
  pub duration : anim.duration ≤ 100000
  pub delay : IsBetween (neg_ℤ (pos 100000)) (pos 100000) anim.delay
  pub count : IsCount anim.count
