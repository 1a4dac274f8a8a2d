-- Blending in eight bits lies between its values at the ends of source, alpha and backdrop.
use Rattle.std.proofs.Common.{◌≡◌, ℕ, ◌+◌, ◌-◌, ◌*◌, ◌/◌, ◌≤◌, inl, inr, arith, mul-le-mul}
use Rattle.std.specs.Prelude.{min, max}
use Rattle.std.proofs.lemmas.Bool.{cases_lt}
use Rattle.std.proofs.Math.Nat.{mul-le-mul_right}
use Rattle.page_model.specs.Colour.{blended, combined}
use Rattle.page_model.specs.TintOf.{Span, least_of, greatest_of, blended_at, blended_span, combined_span}

-- a number lies in a span
pub record IsIn (span : Span) (n : ℕ) : Type 0 where
  pub least : span.lo ≤ n
  pub most : n ≤ span.hi

-- over one alpha, more of source and backdrop give no less
pub blended-le : (s d s' d' a : ℕ) → s ≤ s' → d ≤ d' → blended s a d ≤ blended s' a d'
blended-le s d s' d' a first second =
    divided (s * a + d * (255 - a)) (s' * a + d' * (255 - a)) (omega (arith, mul-le-mul_right a first, mul-le-mul_right (255 - a) second)) where
      divided : (m n : ℕ) → m ≤ n → (m + 127) / 255 ≤ (n + 127) / 255
      divided m n order = omega (arith, order)

-- between two alphas it lies between their values: it rises where the source is more than the backdrop, and else falls
up_to : (s d a more : ℕ) → d ≤ s → a ≤ more → more ≤ 255 → blended s a d ≤ blended s more d
up_to s d a more order later within =
    divided (s * a + d * (255 - a)) (s * more + d * (255 - more))
    (apart d (s - d) a (more - a) (255 - more) s more (255 - a) (omega (arith, order)) (omega (arith, later)) (omega (arith, later, within))) where
      divided : (m n : ℕ) → m ≤ n → (m + 127) / 255 ≤ (n + 127) / 255
      divided m n order = omega (arith, order)

      apart : (d k a j l s more left : ℕ) → s ≡ d + k → more ≡ a + j → left ≡ j + l → s * a + d * left ≤ s * more + d * l
      apart d k a j l s more left first second third = rw (first, second, third) (omega arith)

down_to : (s d a more : ℕ) → s ≤ d → a ≤ more → more ≤ 255 → blended s more d ≤ blended s a d
down_to s d a more order later within =
    divided (s * more + d * (255 - more)) (s * a + d * (255 - a))
    (apart s (d - s) a (more - a) (255 - more) d more (255 - a) (omega (arith, order)) (omega (arith, later)) (omega (arith, later, within))) where
      divided : (m n : ℕ) → m ≤ n → (m + 127) / 255 ≤ (n + 127) / 255
      divided m n order = omega (arith, order)

      apart : (s k a j l d more left : ℕ) → d ≡ s + k → more ≡ a + j → left ≡ j + l → s * more + d * l ≤ s * a + d * left
      apart s k a j l d more left first second third = rw (first, second, third) (omega arith)

blended-least : (s d low a high : ℕ) → low ≤ a → a ≤ high → high ≤ 255 → min (blended s low d) (blended s high d) ≤ blended s a d
blended-least s d low a high from to within =
    elim (cases_lt s d) [
      | inl less ↦ omega (arith, down_to s d a high (omega (arith, less)) to within)
      | inr more ↦ omega (arith, up_to s d low a more from (omega (arith, to, within)))
    ]

blended-most : (s d low a high : ℕ) → low ≤ a → a ≤ high → high ≤ 255 → blended s a d ≤ max (blended s low d) (blended s high d)
blended-most s d low a high from to within =
    elim (cases_lt s d) [
      | inl less ↦ omega (arith, down_to s d low a (omega (arith, less)) from (omega (arith, to, within)))
      | inr more ↦ omega (arith, up_to s d a high more to within)
    ]

-- the first of the four ends of a blend, and the last
at-least : (source : Span) (a : ℕ) (backdrop : Span) → (blended_at source a backdrop).lo ≤ blended source.lo a backdrop.lo
at-least source a backdrop =
    least (blended source.lo a backdrop.lo) (blended source.lo a backdrop.hi) (blended source.hi a backdrop.lo) (blended source.hi a backdrop.hi) where
      least : (a b c d : ℕ) → least_of a b c d ≤ a
      least a b c d = omega arith

at-most : (source : Span) (a : ℕ) (backdrop : Span) → blended source.hi a backdrop.hi ≤ (blended_at source a backdrop).hi
at-most source a backdrop =
    most (blended source.lo a backdrop.lo) (blended source.lo a backdrop.hi) (blended source.hi a backdrop.lo) (blended source.hi a backdrop.hi) where
      most : (a b c d : ℕ) → d ≤ greatest_of a b c d
      most a b c d = omega arith

-- a blend lies in that of the spans
pub blended-in : (source alpha backdrop : Span) (s a d : ℕ) → alpha.hi ≤ 255 → IsIn source s → IsIn alpha a → IsIn backdrop d
    → IsIn (blended_span source alpha backdrop) (blended s a d)
blended-in source alpha backdrop s a d within first second third = record {
  least = below (blended_at source alpha.lo backdrop).lo (blended_at source alpha.hi backdrop).lo (blended source.lo alpha.lo backdrop.lo) (blended source.lo alpha.hi backdrop.lo) (blended source.lo a backdrop.lo) (blended s a d)
      (at-least source alpha.lo backdrop) (at-least source alpha.hi backdrop)
      (blended-least source.lo backdrop.lo alpha.lo a alpha.hi second.least second.most within)
      (blended-le source.lo backdrop.lo s d a first.least third.least);
  most = above (blended_at source alpha.lo backdrop).hi (blended_at source alpha.hi backdrop).hi (blended source.hi alpha.lo backdrop.hi) (blended source.hi alpha.hi backdrop.hi) (blended source.hi a backdrop.hi) (blended s a d)
      (at-most source alpha.lo backdrop) (at-most source alpha.hi backdrop)
      (blended-most source.hi backdrop.hi alpha.lo a alpha.hi second.least second.most within)
      (blended-le s d source.hi backdrop.hi a first.most third.most);
} where
  below : (l m p q r v : ℕ) → l ≤ p → m ≤ q → min p q ≤ r → r ≤ v → min l m ≤ v
  below l m p q r v a b c d = omega (arith, a, b, c, d)

  above : (l m p q r v : ℕ) → p ≤ l → q ≤ m → r ≤ max p q → v ≤ r → v ≤ max l m
  above l m p q r v a b c d = omega (arith, a, b, c, d)

-- and the blend of spans that lie in others lies in that of those
pub record SpanIn (outer inner : Span) : Type 0 where
  pub least : IsIn outer inner.lo
  pub most : IsIn outer inner.hi

blended_at-in : (source alpha backdrop : Span) (s : Span) (a : ℕ) (d : Span) → alpha.hi ≤ 255 → SpanIn source s → IsIn alpha a
    → SpanIn backdrop d → SpanIn (blended_span source alpha backdrop) (blended_at s a d)
blended_at-in source alpha backdrop s a d within first second third =
    let one = blended-in source alpha backdrop s.lo a d.lo within first.least second third.least in
    let two = blended-in source alpha backdrop s.lo a d.hi within first.least second third.most in
    let three = blended-in source alpha backdrop s.hi a d.lo within first.most second third.least in
    let four = blended-in source alpha backdrop s.hi a d.hi within first.most second third.most in
    record {
      least = least (blended_span source alpha backdrop) (blended s.lo a d.lo) (blended s.lo a d.hi) (blended s.hi a d.lo) (blended s.hi a d.hi) one two three four;
      most = most (blended_span source alpha backdrop) (blended s.lo a d.lo) (blended s.lo a d.hi) (blended s.hi a d.lo) (blended s.hi a d.hi) one two three four;
    } where
      least : (span : Span) (a b c d : ℕ) → IsIn span a → IsIn span b → IsIn span c → IsIn span d → IsIn span (least_of a b c d)
      least span a b c d p q r s = record { least = omega (arith, p.least, q.least, r.least, s.least); most = omega (arith, p.most) }

      most : (span : Span) (a b c d : ℕ) → IsIn span a → IsIn span b → IsIn span c → IsIn span d → IsIn span (greatest_of a b c d)
      most span a b c d p q r s = record { least = omega (arith, p.least); most = omega (arith, p.most, q.most, r.most, s.most) }

pub blended_span-in : (source alpha backdrop s a d : Span) → alpha.hi ≤ 255 → SpanIn source s → SpanIn alpha a → SpanIn backdrop d
    → SpanIn (blended_span source alpha backdrop) (blended_span s a d)
blended_span-in source alpha backdrop s a d within first second third =
    let low = blended_at-in source alpha backdrop s a.lo d within first second.least third in
    let high = blended_at-in source alpha backdrop s a.hi d within first second.most third in
    record {
      least = least (blended_span source alpha backdrop) (blended_at s a.lo d).lo (blended_at s a.hi d).lo low.least high.least;
      most = most (blended_span source alpha backdrop) (blended_at s a.lo d).hi (blended_at s a.hi d).hi low.most high.most;
    } where
      least : (span : Span) (a b : ℕ) → IsIn span a → IsIn span b → IsIn span (min a b)
      least span a b p q = record { least = omega (arith, p.least, q.least); most = omega (arith, p.most) }

      most : (span : Span) (a b : ℕ) → IsIn span a → IsIn span b → IsIn span (max a b)
      most span a b p q = record { least = omega (arith, p.least); most = omega (arith, p.most, q.most) }

-- more cover or more alpha is more of both together, and of two up to 255 it is up to 255
combined-le : (c d a b : ℕ) → c ≤ d → a ≤ b → combined c a ≤ combined d b
combined-le c d a b first second =
    divided (c * a) (d * b) (mul-le-mul first second) where
      divided : (m n : ℕ) → m ≤ n → (m + 127) / 255 ≤ (n + 127) / 255
      divided m n order = omega (arith, order)

pub combined-small : (c a : ℕ) → c ≤ 255 → a ≤ 255 → combined c a ≤ 255
combined-small c a first second =
    divided (c * a) (mul-le-mul first second) where
      divided : (m : ℕ) → m ≤ 255 * 255 → (m + 127) / 255 ≤ 255
      divided m order = omega (arith, order)

pub combined-in : (cover alpha : Span) (c a : ℕ) → IsIn cover c → IsIn alpha a → IsIn (combined_span cover alpha) (combined c a)
combined-in cover alpha c a first second = record {
  least = combined-le cover.lo c alpha.lo a first.least second.least;
  most = combined-le c cover.hi a alpha.hi first.most second.most;
}

pub combined_span-in : (cover alpha c a : Span) → SpanIn cover c → SpanIn alpha a → SpanIn (combined_span cover alpha) (combined_span c a)
combined_span-in cover alpha c a first second = record {
  least = combined-in cover alpha c.lo a.lo first.least second.least;
  most = combined-in cover alpha c.hi a.hi first.most second.most;
}
