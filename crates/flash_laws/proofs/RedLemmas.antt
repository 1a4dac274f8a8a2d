-- Proofs of the laws of red changes.
use Rattle.std.proofs.Common.{◌≡◌, ℕ, ◌*◌, ◌^◌, refl, sym, subst, arith}
use Rattle.page_model.specs.Light.{linear_of}
use Rattle.page_model.specs.Red.{Chromaticity, AreFar, IsSaturated, IsIntoRed, chromaticity_of, gap}
use Rattle.srgb_luma.proofs.LinearLemmas.{linear_of-low, linear_of-edge}
use Rattle.flash_laws.specs.LightLaws.{black, red, IsSymmetric, RedReadsBackwards}

-- no colour is far from itself
gap-none : (n : ℕ) → gap n n ≡ 0
gap-none n = omega arith

pub far-not_itself : (p : Chromaticity) → AreFar p p → ⊥
far-not_itself p far =
    let u = gap-none (p.u * p.over) in
    let v = gap-none (p.v * p.over) in
    let none = rw (u, v) at far in
    omega (arith, none)

gap-symmetric : (a b : ℕ) → gap a b ≡ gap b a
gap-symmetric a b = omega arith

pub far-symmetric : IsSymmetric AreFar
far-symmetric p q far =
    let u = gap-symmetric (p.u * q.over) (q.u * p.over) in
    let v = gap-symmetric (p.v * q.over) (q.v * p.over) in
    let turned = rw (u, v) at far in
    omega (arith, turned)

-- the coordinates of white and of red
pub linear_of-none : linear_of 0 ≡ 0
linear_of-none = linear_of-low 0 (omega arith)

pub linear_of-full : linear_of 255 ≡ 2 ^ 32
linear_of-full = linear_of-edge 255 (2 ^ 32) (omega arith) (omega arith) refl refl

abbrev pub white_point : Chromaticity
white_point = record { u = 38020 * 2 ^ 32; v = 90000 * 2 ^ 32; over = 192175 * 2 ^ 32 }

abbrev pub red_point : Chromaticity
red_point = record { u = 16496 * 2 ^ 32; v = 19134 * 2 ^ 32; over = 36593 * 2 ^ 32 }

pub black-point : chromaticity_of black ≡ white_point
black-point = rw (linear_of-full) refl

pub red-point : chromaticity_of red ≡ red_point
red-point = rw (linear_of-full, linear_of-none) refl

pub red-saturated : IsSaturated red
red-saturated = record { mostly = omega (arith, linear_of-none); some = omega (arith, linear_of-full) }

far-same : (p q p' q' : Chromaticity) → p' ≡ p → q' ≡ q → AreFar p' q' → AreFar p q
far-same p q p' q' first second far = subst (λ r. AreFar r q) first (subst (λ r. AreFar p' r) second far)

pub points-far : AreFar white_point red_point
points-far = omega arith

pub black-to_red : IsIntoRed black red
black-to_red = record {
  far = far-same (chromaticity_of black) (chromaticity_of red) white_point red_point (sym black-point) (sym red-point) points-far;
  saturated = red-saturated;
}

pub red_reads_backwards : RedReadsBackwards
red_reads_backwards = record {
  symmetric = far-symmetric;
  backwards = λ a b. (
    λ into. record { far = far-symmetric (chromaticity_of a) (chromaticity_of b) into.far; saturated = into.saturated },
    λ out. record { far = far-symmetric (chromaticity_of b) (chromaticity_of a) out.far; saturated = out.saturated },
  );
  some = black-to_red;
  needs_change = λ a into. far-not_itself (chromaticity_of a) into.far;
}
