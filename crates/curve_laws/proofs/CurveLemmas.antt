-- Proofs of the laws of curves.
use Rattle.std.proofs.Common.{◌≡◌, ℕ, zero, suc, ◌+◌, ◌-◌, ◌*◌, ◌^◌, ◌<◌, ◌≤◌, sym, arith, inl, inr}
use Rattle.std.specs.Prelude.{ℤ, pos, negsuc, ◌+ℤ◌, ◌*ℤ◌, ◌≤ℤ◌, neg_ℤ, nat_abs}
use Rattle.std.proofs.lemmas.Int.{ints}
use Rattle.std.proofs.lemmas.Bool.{cases_lt}
use Rattle.std.proofs.lemmas.Nat.{pow_pos, pow-add}
use Rattle.std.proofs.Math.Nat.{mul-le-mul_left, le_of_mul-le-mul_left}
use borrow.Author.Differences.{up, down}
use Rattle.page_model.specs.Curve.{height_at, point_of, ReachesAt, CurveReaches, curve_height}
use Rattle.page_model.specs.Fraction.{Fraction}
use Rattle.page_model.specs.ValidScene.{IsBetween, IsCurve}
use Rattle.curve_laws.specs.CurveLaws.{StepsAreSmall, CurveIsSteady, ReachesWithRoomAt, ReachIsKept, ReachIsAntitone}
use Rattle.curve_laws.proofs.CurvePoints as points
use Rattle.curve_laws.proofs.CurveHeights as heights
use Rattle.curve_laws.proofs.SignedLemmas.{product_is, times_is, times_le, abs_is}

pub reach-less : (x1 : ℕ) (y1 : ℤ) (x2 : ℕ) (y2 : ℤ) (at : Fraction) (a b less : ℤ) (m : ℕ)
    → less ≤ℤ b → ReachesAt x1 y1 x2 y2 at a b m → ReachesAt x1 y1 x2 y2 at a less m
reach-less x1 y1 x2 y2 at a b less m order reach =
    through (less *ℤ pos (1000 * (m * m * m))) (b *ℤ pos (1000 * (m * m * m)))
    (a *ℤ curve_height x1 y1 x2 y2 at m +ℤ pos (24000 * nat_abs a * (m * m)))
    (times_le less b (1000 * (m * m * m)) order) reach where
      through : (a b c : ℤ) → a ≤ℤ b → b ≤ℤ c → a ≤ℤ c
      through a b c p q = omega (arith, ints, p, q)

pub reach_is_antitone : ReachIsAntitone
reach_is_antitone = record {
  at_a_scale = reach-less;
  at_all = λ x1 y1 x2 y2 at a b less order reach e. reach-less x1 y1 x2 y2 at a b less (2 ^ e) order (reach e);
}

-- A reach over whole numbers: a is `plus - minus`, b is `more - less`, and the height is `p - q`; k and s are the unit and the slack
-- of the scale.
abbrev Reach : (plus minus more less p q k s : ℕ) → Type 0
Reach plus minus more less p q k s =
    more * k + (plus * q + minus * p) ≤ less * k + (plus * p + minus * q) + (plus + minus) * s

abbrev ReachWithRoom : (plus minus more less p q k s : ℕ) → Type 0
ReachWithRoom plus minus more less p q k s =
    more * k + (plus * q + minus * p) + (plus + minus) * s ≤ less * k + (plus * p + minus * q)

-- the heights p - q at a scale and fp - fq at one r times as fine are less than r of the finer scale's steps apart
record AreNear (r p q fp fq s : ℕ) : Type 0 where
  n : ℕ
  few : n < r
  up : fp + r * r * r * q ≤ r * r * r * p + fq + n * (r * r * s)
  down : fq + r * r * r * p ≤ r * r * r * q + fp + n * (r * r * s)

cube_pos : (r : ℕ) → 0 < r → 0 < r * r * r
cube_pos zero h = h
cube_pos (suc n) h = omega arith

coarser : (plus minus more less p q fp fq k r s : ℕ) → AreNear r p q fp fq s
    → Reach plus minus more less fp fq (r * r * r * k) (r * r * s) → Reach plus minus more less p q k s
coarser plus minus more less p q fp fq k r s near h =
    let n = near.n in
    let up = mul-le-mul_left plus near.up in
    let down = mul-le-mul_left minus near.down in
    let steps = mul-le-mul_left ((plus + minus) * (r * r * s)) near.few in
    le_of_mul-le-mul_left {k = r * r * r} (omega (arith, h, up, down, steps)) (cube_pos r (omega (arith, near.few)))

finer : (plus minus more less p q fp fq k r s : ℕ) → AreNear r p q fp fq s
    → ReachWithRoom plus minus more less p q k s → ReachWithRoom plus minus more less fp fq (r * r * r * k) (r * r * s)
finer plus minus more less p q fp fq k r s near h =
    let n = near.n in
    let up = mul-le-mul_left minus near.up in
    let down = mul-le-mul_left plus near.down in
    let steps = mul-le-mul_left ((plus + minus) * (r * r * s)) near.few in
    let times = mul-le-mul_left (r * r * r) h in
    omega (arith, times, up, down, steps)

-- and over signed ones
slack : (m c d s : ℕ) → m ≡ c + d → 24000 * m * s ≡ (c + d) * (24000 * s)
slack m c d s e = rw e (omega arith)

reach_out : (a b h : ℤ) (p q k s : ℕ) → h +ℤ pos q ≡ pos p → (b *ℤ pos k) ≤ℤ (a *ℤ h +ℤ pos (24000 * nat_abs a * s))
    → Reach (up a) (down a) (up b) (down b) p q k (24000 * s)
reach_out a b h p q k s height reach =
    omega (arith, ints, product_is a h p q height, times_is b k, slack (nat_abs a) (up a) (down a) s (abs_is a), reach)

reach_in : (a b h : ℤ) (p q k s : ℕ) → h +ℤ pos q ≡ pos p → Reach (up a) (down a) (up b) (down b) p q k (24000 * s)
    → (b *ℤ pos k) ≤ℤ (a *ℤ h +ℤ pos (24000 * nat_abs a * s))
reach_in a b h p q k s height reach =
    omega (arith, ints, product_is a h p q height, times_is b k, slack (nat_abs a) (up a) (down a) s (abs_is a), reach)

room_out : (a b h : ℤ) (p q k s : ℕ) → h +ℤ pos q ≡ pos p → (b *ℤ pos k +ℤ pos (24000 * nat_abs a * s)) ≤ℤ (a *ℤ h)
    → ReachWithRoom (up a) (down a) (up b) (down b) p q k (24000 * s)
room_out a b h p q k s height reach =
    omega (arith, ints, product_is a h p q height, times_is b k, slack (nat_abs a) (up a) (down a) s (abs_is a), reach)

room_in : (a b h : ℤ) (p q k s : ℕ) → h +ℤ pos q ≡ pos p → ReachWithRoom (up a) (down a) (up b) (down b) p q k (24000 * s)
    → (b *ℤ pos k +ℤ pos (24000 * nat_abs a * s)) ≤ℤ (a *ℤ h)
room_in a b h p q k s height reach =
    omega (arith, ints, product_is a h p q height, times_is b k, slack (nat_abs a) (up a) (down a) s (abs_is a), reach)

-- a control point's height is a whole number up to 8000 when it is raised by 4000
record IsRaised (y : ℤ) : Type 0 where
  by : ℕ
  is : y +ℤ pos 4000 ≡ pos by
  few : by ≤ 8000

raise : (y : ℤ) → IsBetween (neg_ℤ (pos 4000)) (pos 4000) y → IsRaised y
raise (pos y) range =
    let most = range.at_most in
    record { by = y + 4000; is = omega (arith, ints); few = omega (arith, ints, most) }
raise (negsuc y) range =
    let least = range.at_least in
    record { by = 4000 - suc y; is = omega (arith, ints, least); few = omega arith }

-- the heights at two scales are near
near : (x1 x2 : ℕ) (at : Fraction) (w1 w2 r m : ℕ) → x1 ≤ 1000 → x2 ≤ 1000 → w1 ≤ 8000 → w2 ≤ 8000 → 1 ≤ r
    → AreNear r (heights.raised_of w1 w2 m (point_of x1 x2 at m)) (heights.added_of m (point_of x1 x2 at m))
    (heights.raised_of w1 w2 (r * m) (point_of x1 x2 at (r * m))) (heights.added_of (r * m) (point_of x1 x2 at (r * m)))
    (24000 * (m * m))
near x1 x2 at w1 w2 r m first second third fourth some =
    let from = points.point_of-from x1 x2 at r m in
    let before = points.point_of-before x1 x2 at r m first second some in
    let n = point_of x1 x2 at (r * m) - r * point_of x1 x2 at m in
    let place : point_of x1 x2 at (r * m) ≡ r * point_of x1 x2 at m + n = omega (arith, from) in
    let within = points.point_of_le x1 x2 at (r * m) in
    let up = heights.raised_of-near w1 w2 r m (point_of x1 x2 at m) n (point_of x1 x2 at (r * m)) third fourth place within in
    let down = heights.added_of-near w1 w2 r m (point_of x1 x2 at m) n (point_of x1 x2 at (r * m)) third fourth place within in
    record {
      n = n;
      few = omega (arith, from, before);
      up = rw (sym (slack_scaled n r m)) up;
      down = rw (sym (slack_scaled n r m)) down;
    } where
      slack_scaled : (n r m : ℕ) → n * (24000 * (r * m * (r * m))) ≡ n * (r * r * (24000 * (m * m)))
      slack_scaled n r m = omega arith

-- the height of the point of an input at a scale
height_of : (x1 : ℕ) (y1 : ℤ) (x2 : ℕ) (y2 : ℤ) (at : Fraction) (m : ℕ) (first : IsRaised y1) (second : IsRaised y2)
    → curve_height x1 y1 x2 y2 at m +ℤ pos (heights.added_of m (point_of x1 x2 at m))
    ≡ pos (heights.raised_of first.by second.by m (point_of x1 x2 at m))
height_of x1 y1 x2 y2 at m first second =
    heights.height_is y1 y2 first.by second.by (m - point_of x1 x2 at m) (point_of x1 x2 at m) first.is second.is

unit_finer : (r m : ℕ) → 1000 * (r * m * (r * m) * (r * m)) ≡ r * r * r * (1000 * (m * m * m))
unit_finer r m = omega arith

slack_finer : (r m : ℕ) → 24000 * (r * m * (r * m)) ≡ r * r * (24000 * (m * m))
slack_finer r m = omega arith

-- what is reached at a finer scale is reached
pub reach-coarser : (x1 : ℕ) (y1 : ℤ) (x2 : ℕ) (y2 : ℤ) → IsCurve x1 y1 x2 y2 → (at : Fraction) (a b : ℤ) (r m : ℕ)
    → 1 ≤ r → ReachesAt x1 y1 x2 y2 at a b (r * m) → ReachesAt x1 y1 x2 y2 at a b m
reach-coarser x1 y1 x2 y2 curve at a b r m some reach =
    let first = raise y1 curve.first_height in
    let second = raise y2 curve.second_height in
    let w1 = first.by in
    let w2 = second.by in
    let j = point_of x1 x2 at m in
    let k = point_of x1 x2 at (r * m) in
    let fine = reach_out a b (curve_height x1 y1 x2 y2 at (r * m)) (heights.raised_of w1 w2 (r * m) k) (heights.added_of (r * m) k) (1000 * (r * m * (r * m) * (r * m))) (r * m * (r * m)) (height_of x1 y1 x2 y2 at (r * m) first second) reach in
    let scaled = rw (unit_finer r m, slack_finer r m) at fine in
    let close = near x1 x2 at w1 w2 r m curve.first_column curve.second_column first.few second.few some in
    reach_in a b (curve_height x1 y1 x2 y2 at m) (heights.raised_of w1 w2 m j) (heights.added_of m j) (1000 * (m * m * m)) (m * m) (height_of x1 y1 x2 y2 at m first second)
    (coarser (up a) (down a) (up b) (down b) (heights.raised_of w1 w2 m j) (heights.added_of m j) (heights.raised_of w1 w2 (r * m) k) (heights.added_of (r * m) k) (1000 * (m * m * m)) r (24000 * (m * m)) close scaled)

-- what is reached with room is reached with room at a finer scale
pub room-finer : (x1 : ℕ) (y1 : ℤ) (x2 : ℕ) (y2 : ℤ) → IsCurve x1 y1 x2 y2 → (at : Fraction) (a b : ℤ) (r m : ℕ)
    → 1 ≤ r → ReachesWithRoomAt x1 y1 x2 y2 at a b m → ReachesWithRoomAt x1 y1 x2 y2 at a b (r * m)
room-finer x1 y1 x2 y2 curve at a b r m some room =
    let first = raise y1 curve.first_height in
    let second = raise y2 curve.second_height in
    let w1 = first.by in
    let w2 = second.by in
    let j = point_of x1 x2 at m in
    let k = point_of x1 x2 at (r * m) in
    let coarse = room_out a b (curve_height x1 y1 x2 y2 at m) (heights.raised_of w1 w2 m j) (heights.added_of m j) (1000 * (m * m * m)) (m * m) (height_of x1 y1 x2 y2 at m first second) room in
    let close = near x1 x2 at w1 w2 r m curve.first_column curve.second_column first.few second.few some in
    let fine = finer (up a) (down a) (up b) (down b) (heights.raised_of w1 w2 m j) (heights.added_of m j) (heights.raised_of w1 w2 (r * m) k) (heights.added_of (r * m) k) (1000 * (m * m * m)) r (24000 * (m * m)) close coarse in
    let scaled = rw (sym (unit_finer r m), sym (slack_finer r m)) at fine in
    room_in a b (curve_height x1 y1 x2 y2 at (r * m)) (heights.raised_of w1 w2 (r * m) k) (heights.added_of (r * m) k) (1000 * (r * m * (r * m) * (r * m))) (r * m * (r * m)) (height_of x1 y1 x2 y2 at (r * m) first second) scaled

-- with room it is reached
pub reach_from_room : (x1 : ℕ) (y1 : ℤ) (x2 : ℕ) (y2 : ℤ) (at : Fraction) (a b : ℤ) (m : ℕ)
    → ReachesWithRoomAt x1 y1 x2 y2 at a b m → ReachesAt x1 y1 x2 y2 at a b m
reach_from_room x1 y1 x2 y2 at a b m room =
    moved (b *ℤ pos (1000 * (m * m * m))) (a *ℤ curve_height x1 y1 x2 y2 at m) (24000 * nat_abs a * (m * m)) room where
      moved : (k h : ℤ) (s : ℕ) → (k +ℤ pos s) ≤ℤ h → k ≤ℤ (h +ℤ pos s)
      moved k h s room = omega (arith, ints, room)

-- room at one power of two is enough
pub reaches_from_room : (x1 : ℕ) (y1 : ℤ) (x2 : ℕ) (y2 : ℤ) → IsCurve x1 y1 x2 y2 → (at : Fraction) (a b : ℤ) (e : ℕ)
    → ReachesWithRoomAt x1 y1 x2 y2 at a b (2 ^ e) → CurveReaches x1 y1 x2 y2 at a b
reaches_from_room x1 y1 x2 y2 curve at a b e room d =
    elim (cases_lt e d) [
      | inl finer_one ↦
          let same : 2 ^ d ≡ 2 ^ (d - e) * 2 ^ e = powers (d - e) e d (omega arith) in
          rw same (reach_from_room x1 y1 x2 y2 at a b (2 ^ (d - e) * 2 ^ e) (room-finer x1 y1 x2 y2 curve at a b (2 ^ (d - e)) (2 ^ e) (pow_pos (d - e)) room))
      | inr coarser_one ↦
          let same : 2 ^ e ≡ 2 ^ (e - d) * 2 ^ d = powers (e - d) d e (omega arith) in
          let reach = reach_from_room x1 y1 x2 y2 at a b (2 ^ e) room in
          reach-coarser x1 y1 x2 y2 curve at a b (2 ^ (e - d)) (2 ^ d) (pow_pos (e - d)) (rw same at reach)
    ] where
      powers : (i j k : ℕ) → k ≡ i + j → 2 ^ k ≡ 2 ^ i * 2 ^ j
      powers i j k e = rw e (pow-add 2 i j)

pub reach_is_kept_at_finer_scales : ReachIsKept
reach_is_kept_at_finer_scales = record {
  from_finer = reach-coarser;
  to_finer = room-finer;
  with_room = reach_from_room;
  room_is_enough = reaches_from_room;
}

-- the steps of a curve
steps-small : (x1 : ℕ) (y1 : ℤ) (x2 : ℕ) (y2 : ℤ) → IsCurve x1 y1 x2 y2 → (i j : ℕ) → StepsAreSmall x1 y1 x2 y2 i j
steps-small x1 y1 x2 y2 curve i j =
    let first = raise y1 curve.first_height in
    let second = raise y2 curve.second_height in
    let here = heights.height_is y1 y2 first.by second.by (suc i) j first.is second.is in
    let next = heights.height_is y1 y2 first.by second.by i (suc j) first.is second.is in
    let more = heights.raised-step first.by second.by i j first.few second.few in
    let less = heights.fallen-step first.by second.by i j first.few second.few in
    record {
      column = points.column-step x1 x2 i j curve.first_column curve.second_column;
      up = moved (height_at y1 y2 i (suc j)) (height_at y1 y2 (suc i) j) (heights.raised first.by second.by i (suc j)) (heights.added i (suc j)) (heights.raised first.by second.by (suc i) j) (heights.added (suc i) j) (24000 * (suc (i + j) * suc (i + j))) next here more;
      down = moved (height_at y1 y2 (suc i) j) (height_at y1 y2 i (suc j)) (heights.raised first.by second.by (suc i) j) (heights.added (suc i) j) (heights.raised first.by second.by i (suc j)) (heights.added i (suc j)) (24000 * (suc (i + j) * suc (i + j))) here next (omega (arith, less));
    } where
      moved : (h g : ℤ) (p q r s t : ℕ) → h +ℤ pos q ≡ pos p → g +ℤ pos s ≡ pos r → p + s ≤ r + q + t → h ≤ℤ (g +ℤ pos t)
      moved h g p q r s t first second near = omega (arith, ints, first, second, near)

pub curve_is_steady : CurveIsSteady
curve_is_steady = record {
  steps = steps-small;
  points = λ x1 y1 x2 y2 curve at times m some. record {
    not_before = points.point_of-from x1 x2 at times m;
    before_next = points.point_of-before x1 x2 at times m curve.first_column curve.second_column some;
  };
}
