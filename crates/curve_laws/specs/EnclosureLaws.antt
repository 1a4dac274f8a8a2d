-- How the three enclosures of an eased value nest: the exact value lies in the own interval, and that lies in the wide one. So what all
-- values of a larger set reach, all of a smaller one do, and what some value of a smaller set reaches, some of a larger one does. The
-- own interval's ends lie strictly nearer to the exact value than 2^-16.
use Rattle.std.specs.Prelude.{ℕ, ℤ, pos, neg_ℤ, ◌^◌, ◌+ℤ◌, ◌-ℤ◌}
use Rattle.page_model.specs.declared.easing.Easing.{Easing}
use Rattle.page_model.specs.Curve.{CurveReaches, Reaches}
use Rattle.page_model.specs.Enclosure.{own, wide, own_least, own_greatest, AllReachInside, SomeReachInside, AllReach, SomeReach}
use Rattle.page_model.specs.Fraction.{Fraction}
use Rattle.page_model.specs.ValidScene.{IsCurve, IsEasing}

-- what is said of a curve, an input, a factor and a number, and what follows from it
abbrev pub OfCurve : Type 1
OfCurve = ℕ → ℤ → ℕ → ℤ → Fraction → ℤ → ℤ → Type 0

abbrev pub Follows : OfCurve → OfCurve → Type 0
Follows First Second =
    (x1 : ℕ) (y1 : ℤ) (x2 : ℕ) (y2 : ℤ) → IsCurve x1 y1 x2 y2 → (at : Fraction) (a b : ℤ) → First x1 y1 x2 y2 at a b
    → Second x1 y1 x2 y2 at a b

-- at any input
pub record IntervalsNest : Type 0 where
  pub all_wide : Follows (AllReachInside wide) (AllReachInside own)
  pub all_own : Follows (AllReachInside own) CurveReaches
  pub some_own : Follows CurveReaches (SomeReachInside own)
  pub some_wide : Follows (SomeReachInside own) (SomeReachInside wide)

-- a curve's value is less than so many parts of 2^30, or more: it doesn't reach them, or its negation doesn't reach theirs
abbrev pub IsBelow : ℕ → ℤ → ℕ → ℤ → Fraction → ℤ → Type 0
IsBelow x1 y1 x2 y2 at parts = CurveReaches x1 y1 x2 y2 at (pos (2 ^ 30)) parts → ⊥

abbrev pub IsAbove : ℕ → ℤ → ℕ → ℤ → Fraction → ℤ → Type 0
IsAbove x1 y1 x2 y2 at parts = CurveReaches x1 y1 x2 y2 at (neg_ℤ (pos (2 ^ 30))) (neg_ℤ parts) → ⊥

-- an end in such parts is less than 2^-16, which is 2^14 of them, away from the curve's value
pub record IsNear (x1 : ℕ) (y1 : ℤ) (x2 : ℕ) (y2 : ℤ) (at : Fraction) (end : ℤ) : Type 0 where
  pub below : IsBelow x1 y1 x2 y2 at (end +ℤ pos (2 ^ 14))
  pub above : IsAbove x1 y1 x2 y2 at (end -ℤ pos (2 ^ 14))

pub record EndsAreNear : Type 0 where
  pub least : (x1 : ℕ) (y1 : ℤ) (x2 : ℕ) (y2 : ℤ) (at : Fraction) → IsNear x1 y1 x2 y2 at (own_least x1 y1 x2 y2 at)
  pub greatest : (x1 : ℕ) (y1 : ℤ) (x2 : ℕ) (y2 : ℤ) (at : Fraction) → IsNear x1 y1 x2 y2 at (own_greatest x1 y1 x2 y2 at)

-- the same of an easing
abbrev pub OfEasing : Type 1
OfEasing = Easing → Fraction → ℤ → ℤ → Type 0

abbrev pub FollowsFor : OfEasing → OfEasing → Type 0
FollowsFor First Second = (easing : Easing) → IsEasing easing → (at : Fraction) (a b : ℤ) → First easing at a b → Second easing at a b

pub record ReachesNest : Type 0 where
  pub all_wide : FollowsFor (AllReach wide) (AllReach own)
  pub all_own : FollowsFor (AllReach own) Reaches
  pub some_own : FollowsFor Reaches (SomeReach own)
  pub some_wide : FollowsFor (SomeReach own) (SomeReach wide)
