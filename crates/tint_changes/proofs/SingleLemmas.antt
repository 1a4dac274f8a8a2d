-- A single colour makes no change with itself.
use Rattle.std.proofs.Common.{ℕ, ◌≡◌, ◌+◌, ◌-◌, ◌*◌, ◌/◌, ◌^◌, ◌≤◌, arith, inl, inr, subst, sym}
use Rattle.std.proofs.Math.Nat.{mul-le-mul, mul-le-mul_right}
use Rattle.std.proofs.lemmas.Bool.{cases_lt}
use Rattle.std.proofs.lemmas.Nat.{div-add-mod', le-div, mod_below}
use Rattle.page_model.specs.declared.colour.Rgb.{Rgb}
use Rattle.page_model.specs.declared.colour.Tint.{Tint}
use Rattle.page_model.specs.Change.{AreFarBy, Enclosed, IsPossiblyRed, IsSingle, IsSurelyRed, enclosed, greatest_gap, least_gap}
use Rattle.page_model.specs.Light.{IsRise}
use Rattle.page_model.specs.Red.{Chromaticity, chromaticity_of, squared}
use Rattle.tint_changes.specs.declared.changes.Change.{Change}
use Rattle.tint_changes.specs.declared.changes.Change.TheVariants.{PossibleRise, PossibleFall, SureRise, SureFall, PossiblyIntoRed, PossiblyOutOfRed, SurelyIntoRed, SurelyOutOfRed}
use Rattle.tint_changes.specs.Counting.{Makes}

no-rise : (a b : Rgb) → a ≡ b → IsRise a b → ⊥
no-rise a b same rise =
    let here = subst (λ (c : Rgb). IsRise a c) (sym same) rise in
    let more = here.by_a_tenth in
    omega (arith, more)

-- a ceiling is the floor, or one more
ceiling-most : (x d : ℕ) → (x + (d - 1)) / d ≤ x / d + 1
ceiling-most x d = elim (cases_lt 0 d) [
  | inl some ↦ elim (cases_lt (x / d + 1) ((x + (d - 1)) / d)) [
    | inl over ↦
        let step : (x / d + 2) * d ≤ (x + (d - 1)) / d * d = mul-le-mul_right d (omega arith) in
        let apart : (x / d + 2) * d ≡ x / d * d + 2 * d = omega arith in
        let low = div-add-mod' x d in
        let rest = mod_below x d some in
        let high = div-add-mod' (x + (d - 1)) d in
        absurd (omega (arith, step, apart, low, rest, high))
    | inr within ↦ within
  ]
  | inr none ↦
      let same : x + (d - 1) ≡ x = omega arith in
      rw same (omega arith)
]

ceiling-least : (x d : ℕ) → x / d ≤ (x + (d - 1)) / d
ceiling-least x d = elim (cases_lt 0 d) [
  | inl some ↦ le-div (x / d) (x + (d - 1)) d some (let low = div-add-mod' x d in omega (arith, low))
  | inr none ↦
      let same : x + (d - 1) ≡ x = omega arith in
      rw same (omega arith)
]

-- so a point is near itself by its enclosure
abbrev IsNear : (Enclosed → Enclosed → ℕ) → Type 0
IsNear distance = (num den : ℕ) → distance (enclosed num den) (enclosed num den) ≤ 1

greatest-near : IsNear greatest_gap
greatest-near num den = let most = ceiling-most (num * 2 ^ 40) den in omega (arith, most)

least-near : IsNear least_gap
least-near num den = let least = ceiling-least (num * 2 ^ 40) den in omega (arith, least)

not-far : (distance : Enclosed → Enclosed → ℕ) (p : Chromaticity) → IsNear distance → AreFarBy distance p p → ⊥
not-far distance p near far =
    let u : squared (distance (enclosed p.u p.over) (enclosed p.u p.over)) ≤ 1 * 1 = mul-le-mul (near p.u p.over) (near p.u p.over) in
    let v : squared (distance (enclosed p.v p.over) (enclosed p.v p.over)) ≤ 1 * 1 = mul-le-mul (near p.v p.over) (near p.v p.over) in
    omega (arith, u, v, far)

no-sure_red : (distance : Enclosed → Enclosed → ℕ) (tint red : Tint) → IsNear distance → IsSingle tint
    → IsSurelyRed (AreFarBy distance) tint tint red → ⊥
no-sure_red distance tint red near single sure = not-far distance (chromaticity_of tint.lo) near sure.0.far

no-possible_red : (distance : Enclosed → Enclosed → ℕ) (tint red : Tint) → IsNear distance → IsSingle tint
    → IsPossiblyRed (AreFarBy distance) tint tint red → ⊥
no-possible_red distance tint red near single (inl far) = not-far distance (chromaticity_of tint.lo) near far.0.far
no-possible_red distance tint red near single (inr loose) = loose.0 single single

pub single-still : (tint : Tint) → IsSingle tint → (change : Change) → Makes change tint tint → ⊥
single-still tint single PossibleRise = no-rise tint.lo tint.hi single
single-still tint single PossibleFall = no-rise tint.lo tint.hi single
single-still tint single SureRise = no-rise tint.hi tint.lo (sym single)
single-still tint single SureFall = no-rise tint.hi tint.lo (sym single)
single-still tint single PossiblyIntoRed = no-possible_red greatest_gap tint tint greatest-near single
single-still tint single PossiblyOutOfRed = no-possible_red greatest_gap tint tint greatest-near single
single-still tint single SurelyIntoRed = no-sure_red least_gap tint tint least-near single
single-still tint single SurelyOutOfRed = no-sure_red least_gap tint tint least-near single
