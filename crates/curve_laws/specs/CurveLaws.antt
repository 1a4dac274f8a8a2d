-- Laws of the eased value of a curve, at ever finer scales.
use Rattle.std.specs.Prelude.{ℕ, ℤ, pos, suc, ◌+◌, ◌*◌, ◌^◌, ◌<◌, ◌≤◌, ◌+ℤ◌, ◌*ℤ◌, ◌≤ℤ◌, nat_abs}
use Rattle.page_model.specs.Curve.{column_at, height_at, curve_height, point_of, ReachesAt, CurveReaches}
use Rattle.page_model.specs.Fraction.{Fraction}
use Rattle.page_model.specs.ValidScene.{IsCurve}

-- from one point of a scale to the next the column doesn't fall, and the height changes by at most 24 / M: all in parts of 1000 M^3
pub record StepsAreSmall (x1 : ℕ) (y1 : ℤ) (x2 : ℕ) (y2 : ℤ) (i j : ℕ) : Type 0 where
  pub column : column_at x1 x2 (suc i) j ≤ column_at x1 x2 i (suc j)
  pub up : height_at y1 y2 i (suc j) ≤ℤ (height_at y1 y2 (suc i) j +ℤ pos (24000 * (suc (i + j) * suc (i + j))))
  pub down : height_at y1 y2 (suc i) j ≤ℤ (height_at y1 y2 i (suc j) +ℤ pos (24000 * (suc (i + j) * suc (i + j))))

-- the point of an input at a scale that is so many times as fine is one of those that follow the coarser point
pub record PointsAgree (x1 x2 : ℕ) (at : Fraction) (times m : ℕ) : Type 0 where
  pub not_before : times * point_of x1 x2 at m ≤ point_of x1 x2 at (times * m)
  pub before_next : point_of x1 x2 at (times * m) < times * suc (point_of x1 x2 at m)

-- each curve is steady: a scale with m points between them has i and j on either side of a step
pub record CurveIsSteady : Type 0 where
  pub steps : (x1 : ℕ) (y1 : ℤ) (x2 : ℕ) (y2 : ℤ) → IsCurve x1 y1 x2 y2 → (i j : ℕ) → StepsAreSmall x1 y1 x2 y2 i j
  pub points : (x1 : ℕ) (y1 : ℤ) (x2 : ℕ) (y2 : ℤ) → IsCurve x1 y1 x2 y2 → (at : Fraction) (times m : ℕ) → 1 ≤ times
      → PointsAgree x1 x2 at times m

-- what is said of a curve, an input, a factor and a number at a scale
abbrev pub Reaching : Type 1
Reaching = ℕ → ℤ → ℕ → ℤ → Fraction → ℤ → ℤ → ℕ → Type 0

-- a times the height at scale M is b or more, with the slack of that scale to spare
abbrev pub ReachesWithRoomAt : Reaching
ReachesWithRoomAt x1 y1 x2 y2 at a b m =
    (b *ℤ pos (1000 * (m * m * m)) +ℤ pos (24000 * nat_abs a * (m * m))) ≤ℤ (a *ℤ curve_height x1 y1 x2 y2 at m)

-- what is so at a scale that is so many times as fine is so
abbrev pub ReachesCoarser : Reaching → Type 0
ReachesCoarser Reach =
    (x1 : ℕ) (y1 : ℤ) (x2 : ℕ) (y2 : ℤ) → IsCurve x1 y1 x2 y2 → (at : Fraction) (a b : ℤ) (times m : ℕ) → 1 ≤ times
    → Reach x1 y1 x2 y2 at a b (times * m) → Reach x1 y1 x2 y2 at a b m

-- what is so is so at a scale that is so many times as fine
abbrev pub ReachesFiner : Reaching → Type 0
ReachesFiner Reach =
    (x1 : ℕ) (y1 : ℤ) (x2 : ℕ) (y2 : ℤ) → IsCurve x1 y1 x2 y2 → (at : Fraction) (a b : ℤ) (times m : ℕ) → 1 ≤ times
    → Reach x1 y1 x2 y2 at a b m → Reach x1 y1 x2 y2 at a b (times * m)

-- how reaches at a scale and at a finer one agree; so room at one power of two is enough
pub record ReachIsKept : Type 0 where
  pub from_finer : ReachesCoarser ReachesAt
  pub to_finer : ReachesFiner ReachesWithRoomAt
  pub with_room : (x1 : ℕ) (y1 : ℤ) (x2 : ℕ) (y2 : ℤ) (at : Fraction) (a b : ℤ) (m : ℕ)
      → ReachesWithRoomAt x1 y1 x2 y2 at a b m → ReachesAt x1 y1 x2 y2 at a b m
  pub room_is_enough : (x1 : ℕ) (y1 : ℤ) (x2 : ℕ) (y2 : ℤ) → IsCurve x1 y1 x2 y2 → (at : Fraction) (a b : ℤ) (e : ℕ)
      → ReachesWithRoomAt x1 y1 x2 y2 at a b (2 ^ e) → CurveReaches x1 y1 x2 y2 at a b

-- a reach is one of each smaller number
pub record ReachIsAntitone : Type 0 where
  pub at_a_scale : (x1 : ℕ) (y1 : ℤ) (x2 : ℕ) (y2 : ℤ) (at : Fraction) (a b less : ℤ) (m : ℕ)
      → less ≤ℤ b → ReachesAt x1 y1 x2 y2 at a b m → ReachesAt x1 y1 x2 y2 at a less m
  pub at_all : (x1 : ℕ) (y1 : ℤ) (x2 : ℕ) (y2 : ℤ) (at : Fraction) (a b less : ℤ)
      → less ≤ℤ b → CurveReaches x1 y1 x2 y2 at a b → CurveReaches x1 y1 x2 y2 at a less
