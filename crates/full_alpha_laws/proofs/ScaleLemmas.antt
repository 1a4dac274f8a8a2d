-- 255,000 times a way reaches 255,000 times a bound exactly where the way reaches the bound: exactly, and by all or some values of a kind.
use Rattle.std.proofs.Common.{◌≡◌, ◌↔◌, ℕ, ◌*◌, ◌^◌, ℤ, pos, ◌+ℤ◌, ◌-ℤ◌, ◌*ℤ◌, ◌≤ℤ◌, nat_abs, arith}
use Rattle.std.specs.Int.{int_max, int_min}
use Rattle.std.proofs.lemmas.Int.{ints, clamps}
use Rattle.page_model.specs.declared.easing.Easing.{Easing}
use Rattle.page_model.specs.declared.easing.Easing.TheVariants.{Linear, Steps, Cubic}
use Rattle.page_model.specs.Curve.{CurveReaches, FractionReaches, Reaches, ReachesAt, curve_height, stepped}
use Rattle.page_model.specs.Enclosure.{AllReach, AllReachInside, Kind, SomeReach, SomeReachInside, exact, kind_at, own, own_greatest, own_least, wide}
use Rattle.page_model.specs.Fraction.{Fraction}
use Rattle.wide_laws.proofs.WideLemmas.{abs-times, times-assoc}

-- an order, and one with a slack
scaled-le : (x y : ℤ) → ((pos 255000 *ℤ x) ≤ℤ (pos 255000 *ℤ y)) ↔ (x ≤ℤ y)
scaled-le x y = (λ h. omega (arith, ints), λ h. omega (arith, ints))

slack-le : (x y : ℤ) (s : ℕ) → ((pos 255000 *ℤ x) ≤ℤ (pos 255000 *ℤ y +ℤ pos (255000 * s))) ↔ (x ≤ℤ (y +ℤ pos s))
slack-le x y s = (λ h. omega (arith, ints), λ h. omega (arith, ints))

least-le : (x y z : ℤ) → ((pos 255000 *ℤ x) ≤ℤ int_min (pos 255000 *ℤ y) (pos 255000 *ℤ z)) ↔ (x ≤ℤ int_min y z)
least-le x y z = (λ h. omega (arith, ints, clamps), λ h. omega (arith, ints, clamps))

greatest-le : (x y z : ℤ) → ((pos 255000 *ℤ x) ≤ℤ int_max (pos 255000 *ℤ y) (pos 255000 *ℤ z)) ↔ (x ≤ℤ int_max y z)
greatest-le x y z = (λ h. omega (arith, ints, clamps), λ h. omega (arith, ints, clamps))

-- by a fraction
fraction-scaled : (x : Fraction) (a b : ℤ) → FractionReaches x (pos 255000 *ℤ a) (pos 255000 *ℤ b) ↔ FractionReaches x a b
fraction-scaled x a b =
    rw (times-assoc 255000 b (pos x.den), times-assoc 255000 a (pos x.num)) (scaled-le (b *ℤ pos x.den) (a *ℤ pos x.num))

-- by a curve
slack-times : (a m : ℕ) → 24000 * (255000 * a) * m ≡ 255000 * (24000 * a * m)
slack-times a m = omega arith

at-scaled :
    (x1 : ℕ) (y1 : ℤ) (x2 : ℕ) (y2 : ℤ) (at : Fraction) (a b : ℤ) (m : ℕ)
    → ReachesAt x1 y1 x2 y2 at (pos 255000 *ℤ a) (pos 255000 *ℤ b) m ↔ ReachesAt x1 y1 x2 y2 at a b m
at-scaled x1 y1 x2 y2 at a b m =
    let c : ℕ = 1000 * (m * m * m) in
    let h : ℤ = curve_height x1 y1 x2 y2 at m in
    rw (times-assoc 255000 b (pos c), times-assoc 255000 a h, abs-times 255000 a, slack-times (nat_abs a) (m * m))
    (slack-le (b *ℤ pos c) (a *ℤ h) (24000 * nat_abs a * (m * m)))

curve-scaled :
    (x1 : ℕ) (y1 : ℤ) (x2 : ℕ) (y2 : ℤ) (at : Fraction) (a b : ℤ)
    → CurveReaches x1 y1 x2 y2 at (pos 255000 *ℤ a) (pos 255000 *ℤ b) ↔ CurveReaches x1 y1 x2 y2 at a b
curve-scaled x1 y1 x2 y2 at a b = (
  λ reached e. (at-scaled x1 y1 x2 y2 at a b (2 ^ e)).0 (reached e),
  λ reached e. (at-scaled x1 y1 x2 y2 at a b (2 ^ e)).1 (reached e),
)

-- what is said of an easing, an input, a way and a bound
abbrev pub IsScaled : (Easing → Fraction → ℤ → ℤ → Type 0) → Type 0
IsScaled Reach = (easing : Easing) (at : Fraction) (a b : ℤ) → Reach easing at (pos 255000 *ℤ a) (pos 255000 *ℤ b) ↔ Reach easing at a b

pub reaches-scaled : IsScaled Reaches
reaches-scaled Linear at a b = fraction-scaled at a b
reaches-scaled (Steps count jump) at a b = fraction-scaled (stepped count jump at) a b
reaches-scaled (Cubic x1 y1 x2 y2) at a b = curve-scaled x1 y1 x2 y2 at a b

-- by the kinds
wide_way : (a : ℤ) → pos (2 ^ 16) *ℤ (pos 255000 *ℤ a) ≡ pos 255000 *ℤ (pos (2 ^ 16) *ℤ a)
wide_way a = omega (arith, ints)

wide_more : (b : ℤ) (t : ℕ) → pos (2 ^ 16) *ℤ (pos 255000 *ℤ b) +ℤ pos (255000 * t) ≡ pos 255000 *ℤ (pos (2 ^ 16) *ℤ b +ℤ pos t)
wide_more b t = omega (arith, ints)

wide_less : (b : ℤ) (t : ℕ) → pos (2 ^ 16) *ℤ (pos 255000 *ℤ b) -ℤ pos (255000 * t) ≡ pos 255000 *ℤ (pos (2 ^ 16) *ℤ b -ℤ pos t)
wide_less b t = omega (arith, ints)

all_inside-scaled :
    (kind : Kind) (x1 : ℕ) (y1 : ℤ) (x2 : ℕ) (y2 : ℤ) (at : Fraction) (a b : ℤ)
    → AllReachInside kind x1 y1 x2 y2 at (pos 255000 *ℤ a) (pos 255000 *ℤ b) ↔ AllReachInside kind x1 y1 x2 y2 at a b
all_inside-scaled exact x1 y1 x2 y2 at a b = curve-scaled x1 y1 x2 y2 at a b
all_inside-scaled own x1 y1 x2 y2 at a b =
    rw (times-assoc 255000 b (pos (2 ^ 30)), times-assoc 255000 a (own_least x1 y1 x2 y2 at), times-assoc 255000 a (own_greatest x1 y1 x2 y2 at))
    (least-le (b *ℤ pos (2 ^ 30)) (a *ℤ own_least x1 y1 x2 y2 at) (a *ℤ own_greatest x1 y1 x2 y2 at))
all_inside-scaled wide x1 y1 x2 y2 at a b =
    rw (abs-times 255000 a, wide_way a, wide_more b (nat_abs a))
    (curve-scaled x1 y1 x2 y2 at (pos (2 ^ 16) *ℤ a) (pos (2 ^ 16) *ℤ b +ℤ pos (nat_abs a)))

some_inside-scaled :
    (kind : Kind) (x1 : ℕ) (y1 : ℤ) (x2 : ℕ) (y2 : ℤ) (at : Fraction) (a b : ℤ)
    → SomeReachInside kind x1 y1 x2 y2 at (pos 255000 *ℤ a) (pos 255000 *ℤ b) ↔ SomeReachInside kind x1 y1 x2 y2 at a b
some_inside-scaled exact x1 y1 x2 y2 at a b = curve-scaled x1 y1 x2 y2 at a b
some_inside-scaled own x1 y1 x2 y2 at a b =
    rw (times-assoc 255000 b (pos (2 ^ 30)), times-assoc 255000 a (own_least x1 y1 x2 y2 at), times-assoc 255000 a (own_greatest x1 y1 x2 y2 at))
    (greatest-le (b *ℤ pos (2 ^ 30)) (a *ℤ own_least x1 y1 x2 y2 at) (a *ℤ own_greatest x1 y1 x2 y2 at))
some_inside-scaled wide x1 y1 x2 y2 at a b =
    rw (abs-times 255000 a, wide_way a, wide_less b (nat_abs a))
    (curve-scaled x1 y1 x2 y2 at (pos (2 ^ 16) *ℤ a) (pos (2 ^ 16) *ℤ b -ℤ pos (nat_abs a)))

pub all-scaled : (kind : Kind) → IsScaled (AllReach kind)
all-scaled kind Linear at a b = fraction-scaled at a b
all-scaled kind (Steps count jump) at a b = fraction-scaled (stepped count jump at) a b
all-scaled kind (Cubic x1 y1 x2 y2) at a b = all_inside-scaled (kind_at kind at) x1 y1 x2 y2 at a b

pub some-scaled : (kind : Kind) → IsScaled (SomeReach kind)
some-scaled kind Linear at a b = fraction-scaled at a b
some-scaled kind (Steps count jump) at a b = fraction-scaled (stepped count jump at) a b
some-scaled kind (Cubic x1 y1 x2 y2) at a b = some_inside-scaled (kind_at kind at) x1 y1 x2 y2 at a b
