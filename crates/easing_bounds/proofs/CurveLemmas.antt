-- The place of an input on a curve, found by halving, and what products of its point's numbers come to.
use Rattle.std.proofs.Common.{◌≡◌, ℕ, suc, ◌+◌, ◌-◌, ◌*◌, ◌/◌, ◌^◌, ◌<◌, ◌≤◌, ℤ, pos, neg_ℤ, ◌+ℤ◌, ◌-ℤ◌, ◌*ℤ◌, refl, ap, ◌∙◌, sym, subst, arith, le-leb, leb-true, le-div_iff_mul-le}
use Rattle.std.specs.Int.{int_div_euclid}
use Rattle.std.proofs.lemmas.Int.{ints}
use Rattle.std.proofs.lemmas.Nat.{mul-le}
use Rattle.std.proofs.Math.Nat.{pow-suc}
use Rattle.page_model.specs.Curve.{column_at, height_at, point_of}
use Rattle.page_model.specs.Enclosure.{own_scale, own_height}
use Rattle.page_model.specs.Fraction.{Fraction}
use Rattle.page_model.specs.ValidScene.{IsBetween, IsCurve}
use Rattle.fix_span.specs.declared.span.Span.{Span}
use Rattle.curve_laws.proofs.CurveHeights.{height_is}
use Rattle.curve_laws.proofs.CurvePoints.{point_of-is}
use Rattle.curve_laws.proofs.EnclosureLemmas.{intervals_nest, ends_are_near}
use Rattle.easing_bounds.specs.Value.{AreModest}
use Rattle.easing_bounds.specs.Within.{AreNear, HoldsCurve, LiesOn, own_span, own_unit, raise}

-- the inner factor of a cubic, and the whole
pub share-small : (p q left place : ℕ) → p ≤ 8000 → q ≤ 8000 → left ≤ 4194304 → place ≤ 4194304
    → 3 * left * (p * left + q * place) + 1000 * place * place ≤ 25 * 1000 * (2 ^ 44) + 24 * 1000 * (2 ^ 44)
share-small p q left place first second i j =
    let one = mul-le p left 8000 4194304 first i in
    let two = mul-le q place 8000 4194304 second j in
    let arms : p * left + q * place ≤ 16000 * 4194304 = omega (arith, one, two) in
    let more = mul-le (3 * left) (p * left + q * place) (3 * 4194304) (16000 * 4194304) (omega (arith, i)) arms in
    let last = mul-le place place 4194304 4194304 j j in
    omega (arith, more, last)

pub cubic-small : (p q left place : ℕ) → p ≤ 8000 → q ≤ 8000 → left ≤ 4194304 → place ≤ 4194304
    → place * (3 * left * (p * left + q * place) + 1000 * place * place) < 2 ^ 82
cubic-small p q left place first second i j =
    let whole = mul-le place (3 * left * (p * left + q * place) + 1000 * place * place) 4194304 (49 * 1000 * (2 ^ 44)) j (let h = share-small p q left place first second i j in omega (arith, h)) in
    omega (arith, whole)

-- a stretch of 2^(n + 1) steps is twice one of 2^n
pub halves : (x1 x2 limit place k : ℕ) → k < 22 → LiesOn x1 x2 limit place (2 ^ (22 - k)) → LiesOn x1 x2 limit place (2 * 2 ^ (21 - k))
halves x1 x2 limit place k below lies =
    let more : 22 - k ≡ suc (21 - k) = omega arith in
    let double : 2 ^ (22 - k) ≡ 2 * 2 ^ (21 - k) = let e = pow-suc 2 (21 - k) in rw more (omega (arith, e)) in
    rw double at lies

pub halved : (x1 x2 limit place k : ℕ) → LiesOn x1 x2 limit place (2 ^ (21 - k)) → LiesOn x1 x2 limit place (2 ^ (22 - (k + 1)))
halved x1 x2 limit place k lies =
    let same : 22 - (k + 1) ≡ 21 - k = omega arith in
    rw same lies

-- all of the curve
pub whole : (x1 x2 limit : ℕ) → limit < own_unit → LiesOn x1 x2 limit 0 (2 ^ 22)
whole x1 x2 limit below = record {
  inside = omega arith;
  begins = omega arith;
  ends = omega arith;
}

-- the last point that isn't right of an input, by its greatest column that isn't
pub found : (x1 x2 : ℕ) (at : Fraction) (limit j : ℕ) → x1 ≤ 1000 → x2 ≤ 1000 → 0 < at.den → limit ≡ at.num * own_unit / at.den
    → LiesOn x1 x2 limit j 1 → point_of x1 x2 at own_scale ≡ j
found x1 x2 at limit j first second some e lies =
    let next : suc j ≡ j + 1 = omega arith in
    let inside = lies.inside in
    point_of-is x1 x2 at own_scale j first second (omega arith)
    (le-leb (column_at x1 x2 (own_scale - j) j * at.den) (at.num * own_unit)
    ((le-div_iff_mul-le {x = column_at x1 x2 (own_scale - j) j} {y = at.num * own_unit} some).0 (rw e at lies.begins)))
    (rw next (λ left.
    let low = (le-div_iff_mul-le {x = column_at x1 x2 (own_scale - (j + 1)) (j + 1)} {y = at.num * own_unit} some).1
    (leb-true (column_at x1 x2 (own_scale - (j + 1)) (j + 1) * at.den) (at.num * own_unit) left) in
    apart (column_at x1 x2 (own_scale - (j + 1)) (j + 1)) (at.num * own_unit / at.den) low (rw e at lies.ends))) where
      apart : (a b : ℕ) → a ≤ b → b < a → ⊥
      apart a b p q = omega arith

-- what raising the control points adds, and a height by the raised one
pub raise-is : (i j m : ℕ) → i + j ≡ m → 12000 * i * j * m ≡ raise i j
raise-is i j m e = rw (sym e) (omega arith)

pub height-from : (y1 y2 : ℤ) (p q i j raised added : ℕ) → raised ≡ column_at p q i j → added ≡ raise i j
    → y1 +ℤ pos 4000 ≡ pos p → y2 +ℤ pos 4000 ≡ pos q → height_at y1 y2 i j ≡ pos raised -ℤ pos added
height-from y1 y2 p q i j raised added e f first second =
    let h = height_is y1 y2 p q i j first second in
    turned (height_at y1 y2 i j) raised added (column_at p q i j) (raise i j) e f h where
      turned : (h : ℤ) (a b c d : ℕ) → a ≡ c → b ≡ d → h +ℤ pos d ≡ pos c → h ≡ pos a -ℤ pos b
      turned h a b c d e f whole = omega (arith, ints, e, f, whole)

-- the height of an input's point in parts of 2^30
pub parts-are : (x1 : ℕ) (y1 : ℤ) (x2 : ℕ) (y2 : ℤ) (at : Fraction) (place : ℕ) (h parts : ℤ) → place ≡ point_of x1 x2 at own_scale
    → h ≡ height_at y1 y2 (own_scale - place) place → parts ≡ int_div_euclid (pos (2 ^ 30) *ℤ h) (pos own_unit)
    → parts ≡ own_height x1 y1 x2 y2 at
parts-are x1 y1 x2 y2 at place h parts e f g =
    g ∙ ap (λ (z : ℤ). int_div_euclid (pos (2 ^ 30) *ℤ z) (pos own_unit)) (f ∙ ap (λ (j : ℕ). height_at y1 y2 (own_scale - j) j) e)

-- the span between the own ends, which holds the curve's value and is near to it
pub span-is : (x1 : ℕ) (y1 : ℤ) (x2 : ℕ) (y2 : ℤ) (at : Fraction) (parts lo hi : ℤ) → parts ≡ own_height x1 y1 x2 y2 at
    → lo ≡ parts -ℤ pos 6144 → hi ≡ parts +ℤ pos 6145 → ◌≡◌ {A = Span 30} (record { lo = lo; hi = hi }) (own_span x1 y1 x2 y2 at)
span-is x1 y1 x2 y2 at parts lo hi e first second = rw (first, second, e) refl

-- its ends aren't far from 0
pub own-modest : (x1 : ℕ) (y1 : ℤ) (x2 : ℕ) (y2 : ℤ) (at : Fraction) (parts : ℤ) → parts ≡ own_height x1 y1 x2 y2 at
    → IsBetween (neg_ℤ (pos (2 ^ 40))) (pos (2 ^ 40)) parts → AreModest (own_span x1 y1 x2 y2 at)
own-modest x1 y1 x2 y2 at parts e range =
    let low = range.at_least in
    let high = range.at_most in
    subst (λ (z : ℤ). AreModest (record { lo = z -ℤ pos 6144; hi = z +ℤ pos 6145 })) e (record {
      lo = record { at_least = omega (arith, ints, low); at_most = omega (arith, ints, high) };
      hi = record { at_least = omega (arith, ints, low); at_most = omega (arith, ints, high) };
    })

pub holds-own : (x1 : ℕ) (y1 : ℤ) (x2 : ℕ) (y2 : ℤ) → IsCurve x1 y1 x2 y2 → (at : Fraction) → HoldsCurve x1 y1 x2 y2 at (own_span x1 y1 x2 y2 at)
holds-own x1 y1 x2 y2 curve at = record {
  all = intervals_nest.all_own x1 y1 x2 y2 curve at;
  some = intervals_nest.some_own x1 y1 x2 y2 curve at;
}

pub own-near : (x1 : ℕ) (y1 : ℤ) (x2 : ℕ) (y2 : ℤ) (at : Fraction) → AreNear x1 y1 x2 y2 at (own_span x1 y1 x2 y2 at)
own-near x1 y1 x2 y2 at = record {
  lo = ends_are_near.least x1 y1 x2 y2 at;
  hi = ends_are_near.greatest x1 y1 x2 y2 at;
}
