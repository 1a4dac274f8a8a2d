-- Proofs of the laws of possible and sure changes.
use Rattle.std.proofs.Common.{◌≡◌, ℕ, true, false, ◌<◌, ◌≤◌, ◌⊎◌, inl, inr, refl, sym, subst, arith}
use Rattle.std.proofs.lemmas.Bool.{cases_lt, cases_eq, cases_Bool}
use Rattle.page_model.specs.declared.colour.Rgb.{Rgb}
use Rattle.page_model.specs.declared.colour.Tint.{Tint}
use Rattle.page_model.specs.Change.{IsPossibleRise, IsSureRise, IsSingle, HasSaturated, AreSingleAndFar, AreFarBy, AreFarAndMore, AreFarOrNearly, least_gap, greatest_gap, IsPossiblyRed, IsSurelyRed}
use Rattle.page_model.specs.Light.{linear_of, luma_of, IsRise}
use Rattle.page_model.specs.Red.{Chromaticity, IsSaturated, IsIntoRed, IsOutOfRed, AreFar, chromaticity_of, is_black}
use Rattle.srgb_luma.proofs.GrowthLemmas.{linear_of-mono}
use Rattle.srgb_luma.proofs.LinearLemmas.{linear_of-low}
use Rattle.srgb_luma.proofs.LumaLemmas.{luma_of-mono, luma_of-white}
use Rattle.flash_laws.specs.SureLaws.{IsOf, IsOfAll, IsOfSome, SureChangesAreChanges, ChangesArePossible}
use Rattle.flash_laws.proofs.FarLemmas.{far-by_least, far-by_greatest, far-and_more, far-or_nearly}

-- the luminance of a tint's colour lies between those of its ends
pub luma-least : (tint : Tint) (c : Rgb) → IsOf tint c → luma_of tint.lo ≤ luma_of c
luma-least tint c is = luma_of-mono tint.lo c is.red_least is.green_least is.blue_least

pub luma-most : (tint : Tint) (c : Rgb) → IsOf tint c → luma_of c ≤ luma_of tint.hi
luma-most tint c is = luma_of-mono c tint.hi is.red_most is.green_most is.blue_most

-- less light rises to more where more rises to less
pub rise-wider : (a b c d : Rgb) → luma_of c ≤ luma_of a → luma_of b ≤ luma_of d → IsRise a b → IsRise c d
rise-wider a b c d darker lighter rise =
    let far = rise.by_a_tenth in
    let dark = rise.from_below in
    record { by_a_tenth = omega (arith, darker, lighter, far); from_below = omega (arith, darker, dark) }

sure-rise : IsOfAll IsSureRise IsRise
sure-rise a b c d first second rise = rise-wider a.hi b.lo c d (luma-most a c first) (luma-least b d second) rise

possible-rise : IsOfSome IsPossibleRise IsRise
possible-rise a b c d first second rise = rise-wider c d a.lo b.hi (luma-least a c first) (luma-most b d second) rise

-- the denominator of a chromaticity is positive
linear-pos : (n : ℕ) → 0 < n → 0 < linear_of n
linear-pos n some =
    let one = linear_of-low 1 (omega arith) in
    let more = linear_of-mono 1 n some in
    omega (arith, one, more)

luma-pos : (c : Rgb) → is_black c ≡ false → 0 < luma_of c
luma-pos c coloured =
    elim (cases_lt 0 c.r) [
      | inl red ↦ let h = linear-pos c.r red in omega (arith, h)
      | inr no_red ↦ elim (cases_lt 0 c.g) [
        | inl green ↦ let h = linear-pos c.g green in omega (arith, h)
        | inr no_green ↦ elim (cases_lt 0 c.b) [
          | inl blue ↦ let h = linear-pos c.b blue in omega (arith, h)
          | inr no_blue ↦
              let r : c.r ≡ 0 = omega arith in
              let g : c.g ≡ 0 = omega arith in
              let b : c.b ≡ 0 = omega arith in
              let black : is_black c ≡ true = rw (r, g, b) refl in
              absurd cc
        ]
      ]
    ]

pub over-pos : (c : Rgb) → 0 < (chromaticity_of c).over
over-pos c =
    elim (cases_Bool (is_black c)) [
      | inl black ↦ rw black (let full = luma_of-white in omega (arith, full))
      | inr coloured ↦ rw coloured (let some = luma-pos c coloured in omega (arith, some))
    ]

-- a colour of a single tint is that tint
rgb-same : (c d : Rgb) → c.r ≡ d.r → c.g ≡ d.g → c.b ≡ d.b → c ≡ d
rgb-same c d r g b = λ i. record { r = r i; g = g i; b = b i }

pub single-is : (tint : Tint) (c : Rgb) → IsSingle tint → IsOf tint c → tint.lo ≡ c
single-is tint c single is =
    let upper = subst (λ hi. (c.r ≤ hi.r) × (c.g ≤ hi.g) × (c.b ≤ hi.b)) (sym single) (is.red_most, is.green_most, is.blue_most) in
    let red = is.red_least in
    let green = is.green_least in
    let blue = is.blue_least in
    rgb-same tint.lo c (omega (arith, red, upper.0)) (omega (arith, green, upper.1)) (omega (arith, blue, upper.2))

-- a tint is single or not
pub single-or_not : (tint : Tint) → IsSingle tint ⊎ (IsSingle tint → ⊥)
single-or_not tint =
    elim (cases_eq tint.lo.r tint.hi.r) [
      | inr red ↦ inr (λ single. red (λ i. (single i).r))
      | inl red ↦ elim (cases_eq tint.lo.g tint.hi.g) [
        | inr green ↦ inr (λ single. green (λ i. (single i).g))
        | inl green ↦ elim (cases_eq tint.lo.b tint.hi.b) [
          | inr blue ↦ inr (λ single. blue (λ i. (single i).b))
          | inl blue ↦ inl (rgb-same tint.lo tint.hi red green blue)
        ]
      ]
    ]

-- where a colour of a tint is saturated, the corner of most red and least else is
pub saturated-corner : (tint : Tint) (c : Rgb) → IsOf tint c → IsSaturated c → HasSaturated tint
saturated-corner tint c is saturated =
    let red = linear_of-mono c.r tint.hi.r is.red_most in
    let green = linear_of-mono tint.lo.g c.g is.green_least in
    let blue = linear_of-mono tint.lo.b c.b is.blue_least in
    let mostly = saturated.mostly in
    let some = saturated.some in (
      record { r = tint.hi.r; g = tint.lo.g; b = tint.lo.b },
      record { red = inr refl; green = inl refl; blue = inl refl },
      record { mostly = omega (arith, red, green, blue, mostly); some = omega (arith, red, some) },
    )

-- tests of far that are at least as strict as the exact one, and those that are at most so
abbrev IsStricter : (Chromaticity → Chromaticity → Type 0) → Type 0
IsStricter Far = (c d : Rgb) → Far (chromaticity_of c) (chromaticity_of d) → AreFar (chromaticity_of c) (chromaticity_of d)

abbrev IsLooser : (Chromaticity → Chromaticity → Type 0) → Type 0
IsLooser Far = (c d : Rgb) → AreFar (chromaticity_of c) (chromaticity_of d) → Far (chromaticity_of c) (chromaticity_of d)

own-stricter : IsStricter (AreFarBy least_gap)
own-stricter c d far = far-by_least (chromaticity_of c) (chromaticity_of d) (over-pos c) (over-pos d) far

own-looser : IsLooser (AreFarBy greatest_gap)
own-looser c d far = far-by_greatest (chromaticity_of c) (chromaticity_of d) (over-pos c) (over-pos d) far

wide-stricter : IsStricter AreFarAndMore
wide-stricter c d far = far-and_more (chromaticity_of c) (chromaticity_of d) far

wide-looser : IsLooser AreFarOrNearly
wide-looser c d far = far-or_nearly (chromaticity_of c) (chromaticity_of d) far

-- the colours of two single tints are far
single-far : (Far : Chromaticity → Chromaticity → Type 0) → IsStricter Far → (a b : Tint) (c d : Rgb) → IsOf a c → IsOf b d
    → AreSingleAndFar Far a b → AreFar (chromaticity_of c) (chromaticity_of d)
single-far Far stricter a b c d first second far =
    let is_c = single-is a c far.first_single first in
    let is_d = single-is b d far.second_single second in
    subst (λ p. AreFar (chromaticity_of p) (chromaticity_of d)) is_c
    (subst (λ q. AreFar (chromaticity_of a.lo) (chromaticity_of q)) is_d (stricter a.lo b.lo far.far))

sure-into : (Far : Chromaticity → Chromaticity → Type 0) → IsStricter Far → IsOfAll (λ a b. IsSurelyRed Far a b b) IsIntoRed
sure-into Far stricter a b c d first second sure = record {
  far = single-far Far stricter a b c d first second sure.0;
  saturated = subst IsSaturated (single-is b d sure.0.second_single second) sure.1;
}

sure-out : (Far : Chromaticity → Chromaticity → Type 0) → IsStricter Far → IsOfAll (λ a b. IsSurelyRed Far a b a) IsOutOfRed
sure-out Far stricter a b c d first second sure = record {
  far = single-far Far stricter a b c d first second sure.0;
  saturated = subst IsSaturated (single-is a c sure.0.first_single first) sure.1;
}

-- a red change of colours of two tints is possible, whichever of them has to be saturated
possible-red : (Far : Chromaticity → Chromaticity → Type 0) → IsLooser Far → (a b saturated : Tint) (c d s : Rgb)
    → IsOf a c → IsOf b d → IsOf saturated s → (IsSingle a → IsSingle b → saturated.lo ≡ s)
    → AreFar (chromaticity_of c) (chromaticity_of d) → IsSaturated s → IsPossiblyRed Far a b saturated
possible-red Far looser a b saturated c d s first second third same far red =
    elim (single-or_not a) [
      | inr wide ↦ inr ((λ one other. wide one), saturated-corner saturated s third red)
      | inl one ↦ elim (single-or_not b) [
        | inr wide ↦ inr ((λ _ other. wide other), saturated-corner saturated s third red)
        | inl other ↦
            let is_c = single-is a c one first in
            let is_d = single-is b d other second in
            let exact = subst (λ p. AreFar (chromaticity_of p) (chromaticity_of b.lo)) (sym is_c)
            (subst (λ q. AreFar (chromaticity_of c) (chromaticity_of q)) (sym is_d) far) in
            inl (
              record { first_single = one; second_single = other; far = looser a.lo b.lo exact },
              subst IsSaturated (sym (same one other)) red,
            )
      ]
    ]

possible-into : (Far : Chromaticity → Chromaticity → Type 0) → IsLooser Far → IsOfSome (λ a b. IsPossiblyRed Far a b b) IsIntoRed
possible-into Far looser a b c d first second into =
    possible-red Far looser a b b c d d first second second (λ one other. single-is b d other second) into.far into.saturated

possible-out : (Far : Chromaticity → Chromaticity → Type 0) → IsLooser Far → IsOfSome (λ a b. IsPossiblyRed Far a b a) IsOutOfRed
possible-out Far looser a b c d first second out =
    possible-red Far looser a b a c d c first second first (λ one other. single-is a c one first) out.far out.saturated

pub sure_changes_are_changes : SureChangesAreChanges
sure_changes_are_changes = record {
  rise = sure-rise;
  fall = λ a b c d first second fall. sure-rise b a d c second first fall;
  into_red = sure-into (AreFarBy least_gap) own-stricter;
  out_of_red = sure-out (AreFarBy least_gap) own-stricter;
  into_red_widely = sure-into AreFarAndMore wide-stricter;
  out_of_red_widely = sure-out AreFarAndMore wide-stricter;
}

pub changes_are_possible : ChangesArePossible
changes_are_possible = record {
  rise = possible-rise;
  fall = λ a b c d first second fall. possible-rise b a d c second first fall;
  into_red = possible-into (AreFarBy greatest_gap) own-looser;
  out_of_red = possible-out (AreFarBy greatest_gap) own-looser;
  into_red_widely = possible-into AreFarOrNearly wide-looser;
  out_of_red_widely = possible-out AreFarOrNearly wide-looser;
}
