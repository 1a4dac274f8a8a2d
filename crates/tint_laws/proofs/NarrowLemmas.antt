-- Changes of tints that lie in other tints: a sure change by the wide kind of the outer ones is a sure change by the own kind of the
-- inner ones, and a possible change by the own kind of the inner ones is one by the wide kind of the outer ones.
use Rattle.std.proofs.Common.{◌≡◌, ℕ, ◌≤◌, ◌⊎◌, ◌∙◌, inl, inr, sym, subst, arith}
use Rattle.page_model.specs.declared.colour.Rgb.{Rgb}
use Rattle.page_model.specs.declared.colour.Tint.{Tint}
use Rattle.page_model.specs.Change.{IsPossibleRise, IsSureRise, IsPossibleFall, IsSureFall, IsSingle, IsCorner, HasSaturated, AreSingleAndFar, AreFarBy, AreFarAndMore, AreFarOrNearly, least_gap, greatest_gap, IsPossiblyRed, IsSurelyRed}
use Rattle.page_model.specs.Red.{Chromaticity, IsSaturated, chromaticity_of}
use Rattle.flash_laws.specs.SureLaws.{IsOf}
use Rattle.tint_laws.specs.NestLaws.{LiesIn}
use Rattle.tint_laws.proofs.MarginLemmas.{bounded, by_greatest-far_or_nearly, far_and_more-by_least}
use Rattle.flash_laws.proofs.SureLemmas.{luma-least, luma-most, rise-wider, single-is, single-or_not, saturated-corner}

-- a change of outer tints is one of inner tints, or the other way round
abbrev pub Narrows : (Tint → Tint → Type 0) → (Tint → Tint → Type 0) → Type 0
Narrows Outer Inner = (a b c d : Tint) → LiesIn a c → LiesIn b d → Outer a b → Inner c d

abbrev pub Widens : (Tint → Tint → Type 0) → (Tint → Tint → Type 0) → Type 0
Widens Inner Outer = (a b c d : Tint) → LiesIn a c → LiesIn b d → Inner c d → Outer a b

pub sure_rise-narrows : Narrows IsSureRise IsSureRise
sure_rise-narrows a b c d first second rise =
    rise-wider a.hi b.lo c.hi d.lo (luma-most a c.hi first.most) (luma-least b d.lo second.least) rise

pub sure_fall-narrows : Narrows IsSureFall IsSureFall
sure_fall-narrows a b c d first second fall = sure_rise-narrows b a d c second first fall

pub possible_rise-widens : Widens IsPossibleRise IsPossibleRise
possible_rise-widens a b c d first second rise =
    rise-wider c.lo d.hi a.lo b.hi (luma-least a c.lo first.least) (luma-most b d.hi second.most) rise

pub possible_fall-widens : Widens IsPossibleFall IsPossibleFall
possible_fall-widens a b c d first second fall = possible_rise-widens b a d c second first fall

-- a tint in a single one is that one
inner-single : (outer inner : Tint) → LiesIn outer inner → IsSingle outer → IsSingle inner
inner-single outer inner lies single = sym (single-is outer inner.lo single lies.least) ∙ single-is outer inner.hi single lies.most

-- the ends of the tints are far
abbrev AreFarColours : (Chromaticity → Chromaticity → Type 0) → Rgb → Rgb → Type 0
AreFarColours Far c d = Far (chromaticity_of c) (chromaticity_of d)

far-moved : (Far : Chromaticity → Chromaticity → Type 0) (c d c' d' : Rgb) → c ≡ c' → d ≡ d' → AreFarColours Far c d
    → AreFarColours Far c' d'
far-moved Far c d c' d' first second far =
    subst (λ p. AreFarColours Far p d') first (subst (λ q. AreFarColours Far c q) second far)

single_far-narrows : Narrows (AreSingleAndFar AreFarAndMore) (AreSingleAndFar (AreFarBy least_gap))
single_far-narrows a b c d first second far = record {
  first_single = inner-single a c first far.first_single;
  second_single = inner-single b d second far.second_single;
  far = far-moved (AreFarBy least_gap) a.lo b.lo c.lo d.lo (single-is a c.lo far.first_single first.least) (single-is b d.lo far.second_single second.least)
      (far_and_more-by_least (chromaticity_of a.lo) (chromaticity_of b.lo) (bounded a.lo) (bounded b.lo) far.far);
}

pub sure_into-narrows : Narrows (λ a b. IsSurelyRed AreFarAndMore a b b) (λ a b. IsSurelyRed (AreFarBy least_gap) a b b)
sure_into-narrows a b c d first second sure = (
  single_far-narrows a b c d first second sure.0,
  subst IsSaturated (single-is b d.lo sure.0.second_single second.least) sure.1,
)

pub sure_out-narrows : Narrows (λ a b. IsSurelyRed AreFarAndMore a b a) (λ a b. IsSurelyRed (AreFarBy least_gap) a b a)
sure_out-narrows a b c d first second sure = (
  single_far-narrows a b c d first second sure.0,
  subst IsSaturated (single-is a c.lo sure.0.first_single first.least) sure.1,
)

-- a corner of an inner tint lies in the outer one
corner-lies : (outer inner : Tint) (corner : Rgb) → LiesIn outer inner → IsCorner inner corner → IsOf outer corner
corner-lies outer inner corner lies is =
    let least = lies.least in
    let most = lies.most in
    let red = channel outer.lo.r outer.hi.r inner.lo.r inner.hi.r corner.r least.red_least least.red_most most.red_least most.red_most is.red in
    let green = channel outer.lo.g outer.hi.g inner.lo.g inner.hi.g corner.g least.green_least least.green_most most.green_least most.green_most is.green in
    let blue = channel outer.lo.b outer.hi.b inner.lo.b inner.hi.b corner.b least.blue_least least.blue_most most.blue_least most.blue_most is.blue in
    record {
      red_least = red.0;
      red_most = red.1;
      green_least = green.0;
      green_most = green.1;
      blue_least = blue.0;
      blue_most = blue.1;
    } where
      channel : (low high lo hi c : ℕ) → low ≤ lo → lo ≤ high → low ≤ hi → hi ≤ high → (c ≡ lo) ⊎ (c ≡ hi) → (low ≤ c) × (c ≤ high)
      channel low high lo hi c p q r s is =
          elim is [
            | inl least ↦ (omega (arith, least, p), omega (arith, least, q))
            | inr most ↦ (omega (arith, most, r), omega (arith, most, s))
          ]

saturated-lies : (outer inner : Tint) → LiesIn outer inner → HasSaturated inner → HasSaturated outer
saturated-lies outer inner lies has = saturated-corner outer has.0 (corner-lies outer inner has.0 lies has.1) has.2

-- whichever of the tints has to be saturated
possible_red-widens : (a b c d outer inner : Tint) → LiesIn a c → LiesIn b d → LiesIn outer inner
    → (IsSingle a → IsSingle b → IsSingle outer) → IsPossiblyRed (AreFarBy greatest_gap) c d inner
    → IsPossiblyRed AreFarOrNearly a b outer
possible_red-widens a b c d outer inner first second third same possible =
    elim possible [
      | inr loose ↦ inr ((λ one other. loose.0 (inner-single a c first one) (inner-single b d second other)), saturated-lies outer inner third loose.1)
      | inl exact ↦ elim (single-or_not a) [
        | inr wide ↦ inr ((λ one other. wide one), saturated-corner outer inner.lo third.least exact.1)
        | inl one ↦ elim (single-or_not b) [
          | inr wide ↦ inr ((λ _ other. wide other), saturated-corner outer inner.lo third.least exact.1)
          | inl other ↦
              let nearly = by_greatest-far_or_nearly (chromaticity_of c.lo) (chromaticity_of d.lo) (bounded c.lo) (bounded d.lo) exact.0.far in
              inl (
                record {
                  first_single = one;
                  second_single = other;
                  far = far-moved AreFarOrNearly c.lo d.lo a.lo b.lo (sym (single-is a c.lo one first.least)) (sym (single-is b d.lo other second.least)) nearly;
                },
                subst IsSaturated (sym (single-is outer inner.lo (same one other) third.least)) exact.1,
              )
        ]
      ]
    ]

pub possible_into-widens : Widens (λ a b. IsPossiblyRed (AreFarBy greatest_gap) a b b) (λ a b. IsPossiblyRed AreFarOrNearly a b b)
possible_into-widens a b c d first second possible = possible_red-widens a b c d b d first second second (λ one other. other) possible

pub possible_out-widens : Widens (λ a b. IsPossiblyRed (AreFarBy greatest_gap) a b a) (λ a b. IsPossiblyRed AreFarOrNearly a b a)
possible_out-widens a b c d first second possible = possible_red-widens a b c d a c first second first (λ one other. one) possible
