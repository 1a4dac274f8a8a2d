-- A change that is sure between two tints is one between colours that they hold, and a change between colours is possible between
-- the tints: by the wide kind.
use Rattle.std.proofs.Common.{◌≡◌, ◌⊎◌, ℕ, suc, ◌+◌, ◌-◌, ◌*◌, ◌^◌, ◌<◌, ◌≤◌, List, [], ◌∷◌, All, arith, refl, subst, subst₂, sym, ap, inl, inr}
use Rattle.std.proofs.lemmas.Bool.{cases_eq}
use Rattle.page_model.specs.declared.colour.Rgb.{Rgb}
use Rattle.page_model.specs.declared.colour.Tint.{Tint}
use Rattle.page_model.specs.Change.{AreFarAndMore, AreFarOrNearly, AreSingleAndFar, HasSaturated, IsPossibleFall, IsPossibleRise, IsPossiblyIntoRedWidely, IsPossiblyOutOfRedWidely, IsPossiblyRed, IsSingle, IsSureFall, IsSureRise, IsSurelyIntoRedWidely, IsSurelyOutOfRedWidely, squared_distance}
use Rattle.page_model.specs.Colour.{painting_of}
use Rattle.page_model.specs.Enclosure.{wide}
use Rattle.page_model.specs.Flash.{Alternates, Between, Flashes, HasChain, colours_at}
use Rattle.page_model.specs.Light.{IsFall, IsRise}
use Rattle.page_model.specs.Red.{AreFar, Chromaticity, IsIntoRed, IsOutOfRed, IsSaturated, chromaticity_of, squared}
use Rattle.page_model.specs.Time.{window_of}
use Rattle.page_model.specs.TintOf.{tints_of}
use Rattle.page_model.specs.Window.{PossiblyFlashes, SurelyFlashes}
use Rattle.srgb_luma.proofs.GrowthLemmas.{linear_of-mono}
use Rattle.srgb_luma.proofs.LumaLemmas.{luma_of-mono}
use Rattle.wide_laws.specs.WideLaws.{NeverPossiblyBadIsSafe, SurelyBadIsBad}
use Rattle.wide_laws.specs.HeldTintLaws.{IsInTint}
use Rattle.wide_laws.proofs.DecidedLemmas.{bad-decided}
use Rattle.wide_laws.proofs.LooseLemmas.{loose_run-met}
use Rattle.wide_laws.proofs.HeldTintLemmas.{wide_tint-holds}

-- colours with equal channels, and a tint that is one colour
same_colour : (c d : Rgb) → c.r ≡ d.r → c.g ≡ d.g → c.b ≡ d.b → c ≡ d
same_colour c d r g b = λ i. record { r = r i; g = g i; b = b i }

single-is : (tint : Tint) (c : Rgb) → IsSingle tint → IsInTint tint c → tint.lo ≡ c
single-is tint c single inside =
    let r = ap (λ (d : Rgb). d.r) single in
    let g = ap (λ (d : Rgb). d.g) single in
    let b = ap (λ (d : Rgb). d.b) single in
    let lr = inside.red.least in
    let hr = inside.red.greatest in
    let lg = inside.green.least in
    let hg = inside.green.greatest in
    let lb = inside.blue.least in
    let hb = inside.blue.greatest in
    same_colour tint.lo c (omega arith) (omega arith) (omega arith)

single-or_not : (tint : Tint) → IsSingle tint ⊎ (IsSingle tint → ⊥)
single-or_not tint =
    elim (cases_eq tint.lo.r tint.hi.r) [
      | inl r ↦ elim (cases_eq tint.lo.g tint.hi.g) [
        | inl g ↦ elim (cases_eq tint.lo.b tint.hi.b) [
          | inl b ↦ inl (same_colour tint.lo tint.hi r g b)
          | inr apart ↦ inr (λ e. apart (ap (λ (d : Rgb). d.b) e))
        ]
        | inr apart ↦ inr (λ e. apart (ap (λ (d : Rgb). d.g) e))
      ]
      | inr apart ↦ inr (λ e. apart (ap (λ (d : Rgb). d.r) e))
    ]

-- rises
sure-rise : (a b : Tint) (c d : Rgb) → IsInTint a c → IsInTint b d → IsSureRise a b → IsRise c d
sure-rise a b c d first second rise =
    let low = luma_of-mono c a.hi first.red.greatest first.green.greatest first.blue.greatest in
    let high = luma_of-mono b.lo d second.red.least second.green.least second.blue.least in
    let by = rise.by_a_tenth in
    let from = rise.from_below in
    record { by_a_tenth = omega arith; from_below = omega arith }

rise-possible : (a b : Tint) (c d : Rgb) → IsInTint a c → IsInTint b d → IsRise c d → IsPossibleRise a b
rise-possible a b c d first second rise =
    let low = luma_of-mono a.lo c first.red.least first.green.least first.blue.least in
    let high = luma_of-mono d b.hi second.red.greatest second.green.greatest second.blue.greatest in
    let by = rise.by_a_tenth in
    let from = rise.from_below in
    record { by_a_tenth = omega arith; from_below = omega arith }

-- far and more is far, and far is far or nearly
less-far : (q d : ℕ) → (2 ^ 24 + 25) * q < 25 * 2 ^ 24 * d → q < 25 * d
less-far q d h = omega arith

nearly-far : (q d : ℕ) → q < 25 * d → (2 ^ 24 - 25) * q < 25 * 2 ^ 24 * d
nearly-far q d h = omega arith

more-far : (p q : Chromaticity) → AreFarAndMore p q → AreFar p q
more-far p q far = less-far (squared (p.over * q.over)) (squared_distance p q) far

far-nearly : (p q : Chromaticity) → AreFar p q → AreFarOrNearly p q
far-nearly p q far = nearly-far (squared (p.over * q.over)) (squared_distance p q) far

-- changes of red
sure-far : (a b : Tint) (c d : Rgb) → IsInTint a c → IsInTint b d → AreSingleAndFar AreFarAndMore a b → AreFar (chromaticity_of c) (chromaticity_of d)
sure-far a b c d first second far =
    subst₂ (λ (x y : Rgb). AreFar (chromaticity_of x) (chromaticity_of y)) (single-is a c far.first_single first) (single-is b d far.second_single second)
    (more-far (chromaticity_of a.lo) (chromaticity_of b.lo) far.far)

sure-into : (a b : Tint) (c d : Rgb) → IsInTint a c → IsInTint b d → IsSurelyIntoRedWidely a b → IsIntoRed c d
sure-into a b c d first second sure = record {
  far = sure-far a b c d first second sure.0;
  saturated = subst IsSaturated (single-is b d sure.0.second_single second) sure.1;
}

sure-out : (a b : Tint) (c d : Rgb) → IsInTint a c → IsInTint b d → IsSurelyOutOfRedWidely a b → IsOutOfRed c d
sure-out a b c d first second sure = record {
  far = sure-far a b c d first second sure.0;
  saturated = subst IsSaturated (single-is a c sure.0.first_single first) sure.1;
}

-- a tint that holds a saturated colour has a saturated corner
corner-saturated : (tint : Tint) (c : Rgb) → IsInTint tint c → IsSaturated c → HasSaturated tint
corner-saturated tint c inside red =
    let more = linear_of-mono c.r tint.hi.r inside.red.greatest in
    let green = linear_of-mono tint.lo.g c.g inside.green.least in
    let blue = linear_of-mono tint.lo.b c.b inside.blue.least in
    let mostly = red.mostly in
    let some = red.some in (
      record { r = tint.hi.r; g = tint.lo.g; b = tint.lo.b },
      record { red = inr refl; green = inl refl; blue = inl refl },
      record { mostly = omega arith; some = omega arith },
    )

red-possible :
    (a b saturated : Tint) (c d e : Rgb) → IsInTint a c → IsInTint b d → IsInTint saturated e → (IsSingle a → IsSingle b → IsSingle saturated)
    → AreFar (chromaticity_of c) (chromaticity_of d) → IsSaturated e → IsPossiblyRed AreFarOrNearly a b saturated
red-possible a b saturated c d e first second third single far red =
    elim (single-or_not a) [
      | inl one ↦ elim (single-or_not b) [
        | inl other ↦ inl (
          record {
            first_single = one;
            second_single = other;
            far = subst₂ (λ (x y : Rgb). AreFarOrNearly (chromaticity_of x) (chromaticity_of y)) (sym (single-is a c one first)) (sym (single-is b d other second))
                (far-nearly (chromaticity_of c) (chromaticity_of d) far);
          },
          subst IsSaturated (sym (single-is saturated e (single one other) third)) red,
        )
        | inr apart ↦ inr (λ p q. apart q, corner-saturated saturated e third red)
      ]
      | inr apart ↦ inr (λ p q. apart p, corner-saturated saturated e third red)
    ]

into-possible : (a b : Tint) (c d : Rgb) → IsInTint a c → IsInTint b d → IsIntoRed c d → IsPossiblyIntoRedWidely a b
into-possible a b c d first second red = red-possible a b b c d d first second second (λ p q. q) red.far red.saturated

out-possible : (a b : Tint) (c d : Rgb) → IsInTint a c → IsInTint b d → IsOutOfRed c d → IsPossiblyOutOfRedWidely a b
out-possible a b c d first second red = red-possible a b a c d c first second first (λ p q. p) red.far red.saturated

-- chains carry over where changes do, frame by frame
alternates-carry :
    (C D : Type 0) (First Second : C → C → Type 0) (Third Fourth : D → D → Type 0) (seen : ℕ → C) (other : ℕ → D) (start window : ℕ)
    → ((j k : ℕ) → start ≤ j → j ≤ start + window → start ≤ k → k ≤ start + window → First (seen j) (seen k) → Third (other j) (other k))
    → ((j k : ℕ) → start ≤ j → j ≤ start + window → start ≤ k → k ≤ start + window → Second (seen j) (seen k) → Fourth (other j) (other k))
    → (frames : List ℕ) → All (λ k. (start ≤ k) × (k ≤ start + window)) frames
    → Alternates (Between First seen) (Between Second seen) frames → Alternates (Between Third other) (Between Fourth other) frames
alternates-carry C D First Second Third Fourth seen other start window first second [] within turns = tt
alternates-carry C D First Second Third Fourth seen other start window first second (a ∷ []) within turns = tt
alternates-carry C D First Second Third Fourth seen other start window first second (a ∷ (b ∷ rest)) within turns =
    let p = within 0 a (omega arith) in
    let q = within 1 b (omega arith) in (
      first a b p.0 p.1 q.0 q.1 turns.0,
      alternates-carry C D Second First Fourth Third seen other start window second first (b ∷ rest) (λ k d h. within (suc k) d (omega arith)) turns.1,
    )

chain-carry :
    (C D : Type 0) (Up Down : C → C → Type 0) (More Less : D → D → Type 0) (seen : ℕ → C) (other : ℕ → D) (start window : ℕ)
    → ((j k : ℕ) → start ≤ j → j ≤ start + window → start ≤ k → k ≤ start + window → Up (seen j) (seen k) → More (other j) (other k))
    → ((j k : ℕ) → start ≤ j → j ≤ start + window → start ≤ k → k ≤ start + window → Down (seen j) (seen k) → Less (other j) (other k))
    → HasChain Up Down seen start window → HasChain More Less other start window
chain-carry C D Up Down More Less seen other start window up down found =
    let chain = found.1 in (
      found.0,
      record {
        nine = chain.nine;
        rising = chain.rising;
        within = chain.within;
        alternates = elim chain.alternates [
          | inl turns ↦ inl (alternates-carry C D Up Down More Less seen other start window up down found.0 chain.within turns)
          | inr turns ↦ inr (alternates-carry C D Down Up Less More seen other start window down up found.0 chain.within turns)
        ];
      },
    )

-- colours that the tints hold, frame by frame in a window
abbrev Within : (ℕ → Tint) → (ℕ → Rgb) → ℕ → ℕ → Type 0
Within tints colours start window = (k : ℕ) → start ≤ k → k ≤ start + window → IsInTint (tints k) (colours k)

surely-flashes : (tints : ℕ → Tint) (colours : ℕ → Rgb) (start window : ℕ) → Within tints colours start window → SurelyFlashes wide tints start window → Flashes colours start window
surely-flashes tints colours start window inside (inl light) =
    inl (chain-carry Tint Rgb IsSureRise IsSureFall IsRise IsFall tints colours start window
    (λ j k a b c d. sure-rise (tints j) (tints k) (colours j) (colours k) (inside j a b) (inside k c d))
    (λ j k a b c d. sure-rise (tints k) (tints j) (colours k) (colours j) (inside k c d) (inside j a b)) light)
surely-flashes tints colours start window inside (inr red) =
    inr (chain-carry Tint Rgb IsSurelyIntoRedWidely IsSurelyOutOfRedWidely IsIntoRed IsOutOfRed tints colours start window
    (λ j k a b c d. sure-into (tints j) (tints k) (colours j) (colours k) (inside j a b) (inside k c d))
    (λ j k a b c d. sure-out (tints j) (tints k) (colours j) (colours k) (inside j a b) (inside k c d)) red)

flashes-possibly : (tints : ℕ → Tint) (colours : ℕ → Rgb) (start window : ℕ) → Within tints colours start window → Flashes colours start window → PossiblyFlashes wide tints start window
flashes-possibly tints colours start window inside (inl light) =
    inl (chain-carry Rgb Tint IsRise IsFall IsPossibleRise IsPossibleFall colours tints start window
    (λ j k a b c d. rise-possible (tints j) (tints k) (colours j) (colours k) (inside j a b) (inside k c d))
    (λ j k a b c d. rise-possible (tints k) (tints j) (colours k) (colours j) (inside k c d) (inside j a b)) light)
flashes-possibly tints colours start window inside (inr red) =
    inr (chain-carry Rgb Tint IsIntoRed IsOutOfRed IsPossiblyIntoRedWidely IsPossiblyOutOfRedWidely colours tints start window
    (λ j k a b c d. into-possible (tints j) (tints k) (colours j) (colours k) (inside j a b) (inside k c d))
    (λ j k a b c d. out-possible (tints j) (tints k) (colours j) (colours k) (inside j a b) (inside k c d)) red)

-- so surely bad by one run of the wide kind is bad, since that is decided
pub surely_bad-bad : SurelyBadIsBad
surely_bad-bad scene setup start x y valid surely run exact =
    elim (bad-decided (painting_of scene run) setup start x y) [
      | inl bad ↦ bad
      | inr none ↦ absurd (loose_run-met wide scene setup start (λ loose known.
          let many = surely loose known in
          none (record {
            marks = many.marks;
            flagged = λ column row marked. surely-flashes (λ frame. tints_of scene loose frame column row) (colours_at (painting_of scene run) column row) start (window_of setup)
                (λ k low high. wide_tint-holds scene setup start loose run k column row valid known exact low high) (many.flagged column row marked);
            inside = many.inside;
            many = many.many;
          })))
    ]

pub never_possibly-safe : NeverPossiblyBadIsSafe
never_possibly-safe scene setup valid never start x y run exact bad =
    loose_run-met wide scene setup start (λ loose known. never start x y loose known (record {
      marks = bad.marks;
      flagged = λ column row marked. flashes-possibly (λ frame. tints_of scene loose frame column row) (colours_at (painting_of scene run) column row) start (window_of setup)
          (λ k low high. wide_tint-holds scene setup start loose run k column row valid known exact low high) (bad.flagged column row marked);
      inside = bad.inside;
      many = bad.many;
    }))
