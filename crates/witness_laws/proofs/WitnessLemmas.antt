-- Proofs of the laws of witnesses.
use Rattle.std.proofs.Common.{◌≡◌, ℕ, suc, ◌+◌, ◌<◌, ◌≤◌, List, [], ◌∷◌, length, slice_get, Some, arith, inl, inr, refl, subst, subst₂, sym}
use Rattle.std.specs.Prelude.{All, IsTrue, ℤ, pos, ◌+ℤ◌, ◌≤ℤ◌, sum_by}
use Rattle.std.specs.List.Sorted.{IsStrictlyIncreasing}
use Rattle.std.proofs.lemmas.Int.{ints}
use Rattle.std.proofs.lemmas.Option.{get_or_from_slice_get, slice_get_within}
use Rattle.page_model.specs.declared.colour.Tint.{Tint}
use Rattle.page_model.specs.declared.setup.Setup.{Setup}
use Rattle.page_model.specs.declared.witness.Kind.{Kind}
use Rattle.page_model.specs.declared.witness.Kind.TheVariants.{General, Red}
use Rattle.page_model.specs.declared.witness.Part.{Part}
use Rattle.page_model.specs.declared.witness.Witness.{Witness}
use Rattle.page_model.specs.Change.{IsSureFall, IsSureRise}
use Rattle.page_model.specs.Colour.{painting_of}
use Rattle.page_model.specs.Enclosure.{own}
use Rattle.page_model.specs.Flash.{Alternates, AlternatesEitherWay, Between, HasChain, IsInRectangle, area}
use Rattle.page_model.specs.Time.{window_of}
use Rattle.page_model.specs.TintOf.{tints_of}
use Rattle.page_model.specs.Window.{IsSurelyFlagged, SurelyFlashes, SurelyInto, SurelyOut}
use Rattle.page_model.specs.WitnessConditions.{AlternatesSurely, HasNineTurns, HasTints, IsOfPart, IsWitness, LiesInside, PartsApart, PartsInside}
use Rattle.flash_laws.proofs.MarkLemmas.{area-rectangle}
use Rattle.tint_laws.proofs.WindowLemmas.{bad_windows_lie_between}
use Rattle.wide_laws.proofs.DecidedLemmas.{bad-decided}
use Rattle.wide_laws.proofs.LooseLemmas.{loose_run-met}
use Rattle.witness_laws.specs.WitnessLaws.{AcceptedIsBad, PartsFitTheRectangle, WitnessesFlash}
use Rattle.witness_laws.proofs.AreaLemmas.{LieWithin, area-of-parts, held-found, in_some, in_this-means, size_of}

-- what all parts have, the part at a place has
pub part-has : (P : Part → Type 0) (parts : List Part) (place : ℕ) (part : Part) → All P parts → slice_get parts place ≡ Some part → P part
part-has P parts place part all there =
    subst P (get_or_from_slice_get parts place part part there) (all place part (slice_get_within parts place part there))

-- a pixel of a part that lies inside is one of the rectangle
from-left : (x : ℤ) (left column : ℕ) → x ≤ℤ pos left → left ≤ column → x ≤ℤ pos column
from-left x left column low past = omega (arith, ints)

to-right : (x : ℤ) (right column : ℕ) → pos right ≤ℤ (x +ℤ pos 341) → column < right → pos column ≤ℤ (x +ℤ pos 340)
to-right x right column high before = omega (arith, ints)

to-bottom : (y : ℤ) (bottom row : ℕ) → pos bottom ≤ℤ (y +ℤ pos 256) → row < bottom → pos row ≤ℤ (y +ℤ pos 255)
to-bottom y bottom row high before = omega (arith, ints)

pub in-rectangle : (setup : Setup) (w : Witness) (part : Part) (column row : ℕ) → LiesInside setup w part → IsOfPart part column row
    → IsInRectangle w.x w.y column row
in-rectangle setup w part column row lies is = record {
  right_of = from-left w.x part.x column lies.right_of is.right_of;
  left_of = to-right w.x (part.x + part.width) column lies.left_of is.left_of;
  below = from-left w.y part.y row lies.below is.below;
  above = to-bottom w.y (part.y + part.height) row lies.above is.above;
}

held-inside : (setup : Setup) (w : Witness) (column row : ℕ) → PartsInside setup w → IsTrue (in_some w.parts column row)
    → IsInRectangle w.x w.y column row
held-inside setup w column row inside held =
    let found = held-found w.parts column row held in
    in-rectangle setup w found.part column row (part-has (LiesInside setup w) w.parts found.place found.part inside found.there)
    (in_this-means found.part column row found.inside)

-- parts that are inside and apart have as many pixels as are marked of the viewport
lie-within : (setup : Setup) (w : Witness) → PartsInside setup w → LieWithin setup.width setup.height w.parts
lie-within setup w inside place part there =
    let lies = part-has (LiesInside setup w) w.parts place part inside there in
    (lies.in_width, lies.in_height)

pub parts-count : (setup : Setup) (w : Witness) → PartsInside setup w → PartsApart w
    → area setup.width setup.height (in_some w.parts) ≡ sum_by size_of w.parts
parts-count setup w inside apart = area-of-parts setup.width setup.height w.parts (lie-within setup w inside) apart

pub parts_fit_the_rectangle : PartsFitTheRectangle
parts_fit_the_rectangle setup w inside apart =
    let most = area-rectangle setup.width setup.height (in_some w.parts) w.x w.y (λ column row held. held-inside setup w column row inside held) in
    let counted = parts-count setup w inside apart in
    omega (arith, most, counted)

-- tints that change in turn do so frame by frame, where they are what is seen
alternates-seen : (First Second : Tint → Tint → Type 0) (seen : ℕ → Tint) (frames : List ℕ) (tints : List Tint) → length frames ≡ length tints
    → ((turn frame : ℕ) (tint : Tint) → slice_get frames turn ≡ Some frame → slice_get tints turn ≡ Some tint → seen frame ≡ tint)
    → Alternates First Second tints → Alternates (Between First seen) (Between Second seen) frames
alternates-seen First Second seen [] tints long same turns = tt
alternates-seen First Second seen (j ∷ []) tints long same turns = tt
alternates-seen First Second seen (j ∷ (k ∷ frames)) [] long same turns = absurd (omega (arith, long))
alternates-seen First Second seen (j ∷ (k ∷ frames)) (a ∷ []) long same turns = absurd (omega (arith, long))
alternates-seen First Second seen (j ∷ (k ∷ frames)) (a ∷ (b ∷ tints)) long same turns = (
  subst₂ First (sym (same 0 j a refl refl)) (sym (same 1 k b refl refl)) turns.0,
  alternates-seen Second First seen (k ∷ frames) (b ∷ tints) (omega (arith, long)) (λ turn frame tint one other. same (suc turn) frame tint one other) turns.1,
)

-- nine turns of a pixel: frames that rise in a window, and what is seen in them
record AreTurns (seen : ℕ → Tint) (start window : ℕ) (frames : List ℕ) (tints : List Tint) : Type 0 where
  pub nine_frames : length frames ≡ 9
  pub nine_tints : length tints ≡ 9
  pub rising : IsStrictlyIncreasing frames
  pub within : All (λ k. (start ≤ k) × (k ≤ start + window)) frames
  pub same : (turn frame : ℕ) (tint : Tint) → slice_get frames turn ≡ Some frame → slice_get tints turn ≡ Some tint → seen frame ≡ tint

chain-of : (Up Down : Tint → Tint → Type 0) (seen : ℕ → Tint) (start window : ℕ) (frames : List ℕ) (tints : List Tint)
    → AreTurns seen start window frames tints → AlternatesEitherWay Up Down tints → HasChain Up Down seen start window
chain-of Up Down seen start window frames tints are turns =
    let long : length frames ≡ length tints = omega (arith, are.nine_frames, are.nine_tints) in (
      frames,
      record {
        nine = are.nine_frames;
        rising = are.rising;
        within = are.within;
        alternates = elim turns [
          | inl up ↦ inl (alternates-seen Up Down seen frames tints long are.same up)
          | inr down ↦ inr (alternates-seen Down Up seen frames tints long are.same down)
        ];
      },
    )

flashes-by : (kind : Kind) (seen : ℕ → Tint) (start window : ℕ) (frames : List ℕ) (tints : List Tint)
    → AreTurns seen start window frames tints → AlternatesSurely kind tints → SurelyFlashes own seen start window
flashes-by General seen start window frames tints are turns = inl (chain-of IsSureRise IsSureFall seen start window frames tints are turns)
flashes-by Red seen start window frames tints are turns = inr (chain-of (SurelyInto own) (SurelyOut own) seen start window frames tints are turns)

-- each pixel of a part flashes
held-flashes : (setup : Setup) (tint_at : ℕ → ℕ → ℕ → Tint) (w : Witness) (column row : ℕ) → IsWitness setup tint_at w
    → IsTrue (in_some w.parts column row) → IsSurelyFlagged own tint_at setup w.start column row
held-flashes setup tint_at w column row is held =
    let found = held-found w.parts column row held in
    let part : Part = found.part in
    let has : (P : Part → Type 0) → All P w.parts → P found.part = λ P all. part-has P w.parts found.place found.part all found.there in
    let nine = has HasNineTurns is.turns in
    let seen : ℕ → Tint = λ frame. tint_at frame column row in
    let of_part = in_this-means found.part column row found.inside in
    flashes-by part.kind seen w.start (window_of setup) part.frames part.tints
    (record {
      nine_frames = nine.frames;
      nine_tints = nine.tints;
      rising = has (λ (part : Part). IsStrictlyIncreasing part.frames) is.rise;
      within = has (λ (part : Part). All (λ k. (w.start ≤ k) × (k ≤ w.start + window_of setup)) part.frames) is.within;
      same = λ turn frame tint one other. has (HasTints tint_at) is.tints turn frame tint one other column row of_part;
    })
    (has (λ (part : Part). AlternatesSurely part.kind part.tints) is.change)

pub witnesses_flash : WitnessesFlash
witnesses_flash setup tint_at w is = record {
  marks = in_some w.parts;
  flagged = λ column row held. held-flashes setup tint_at w column row is held;
  inside = λ column row held. held-inside setup w column row is.inside held;
  many =
      let counted = parts-count setup w is.inside is.apart in
      let stated = is.stated_area in
      let enough = is.enough in
      omega (arith, counted, stated, enough);
}

-- it is decided whether a window is bad, and it can't be that it isn't: there can't be no states of the own kind
pub accepted_is_bad : AcceptedIsBad
accepted_is_bad scene setup w valid accepted run exact =
    elim (bad-decided (painting_of scene run) setup w.start w.x w.y) [
      | inl bad ↦ bad
      | inr none ↦ absurd (loose_run-met own scene setup w.start (λ loose known.
          none (bad_windows_lie_between.surely scene setup w.start w.x w.y valid own loose run known exact
          (witnesses_flash setup (tints_of scene loose) w (accepted loose known)))))
    ]
