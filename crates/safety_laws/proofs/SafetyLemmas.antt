-- Pixels are painted by the states of the layers that there are, flags are told by the frames of a window, and a window that
-- isn't empty can't be both safe and bad.
use Rattle.std.proofs.Common.{◌≡◌, ℕ, suc, ◌+◌, ◌<◌, ◌≤◌, List, [], ◌∷◌, All, fold, get_or, length, is_some, if◌then◌else◌, arith, ap, subst₂, inl, inr}
use Rattle.std.proofs.lemmas.List.Elements.{All-contains_itself}
use Rattle.std.proofs.lemmas.Option.{slice_get_cases}
use Rattle.page_model.specs.declared.colour.Rgb.{Rgb}
use Rattle.page_model.specs.declared.setup.Setup.{Setup}
use Rattle.page_model.specs.declared.scene.Scene.{Scene}
use Rattle.page_model.specs.Colour.{Run, IsRunIn, painting_of, painted, over, paint_box, ground, body_colour}
use Rattle.page_model.specs.Flash.{Alternates, AlternatesEitherWay, Between, HasChain, Flashes, colours_at}
use Rattle.page_model.specs.LayerAt.{State}
use Rattle.page_model.specs.Light.{IsRise, IsFall}
use Rattle.page_model.specs.Red.{IsIntoRed, IsOutOfRed, white}
use Rattle.page_model.specs.Time.{window_of}
use Rattle.page_model.specs.ValidScene.{IsValid}
use Rattle.safety_laws.specs.SafetyLaws.{BadAndSafeExclude, RunsLookAlike, BadByLooks, OneRunTells, SafeWhereNoneIsBad, SafeByOnePainting}
use Rattle.state_laws.proofs.RunLemmas.{run-met}
use Rattle.state_laws.proofs.UniqueLemmas.{state-unique}

-- a box is painted by its own state
paint_box-same :
    (states others : ℕ → State) (column row : ℕ) (one other : Rgb) (box : ℕ) → states box ≡ others box → one ≡ other
    → paint_box states column row one box ≡ paint_box others column row other box
paint_box-same states others column row one other box same backdrop = rw (same, backdrop)

fold-same :
    (states others : ℕ → State) (column row : ℕ) (one other : Rgb) (order : List ℕ) → All (λ box. states box ≡ others box) order
    → one ≡ other → fold (paint_box states column row) one order ≡ fold (paint_box others column row) other order
fold-same states others column row one other [] same backdrop = backdrop
fold-same states others column row one other (box ∷ rest) same backdrop =
    fold-same states others column row (paint_box states column row one box) (paint_box others column row other box) rest
    (λ k d within. same (suc k) d (omega arith))
    (paint_box-same states others column row one other box (same 0 box (omega arith)) backdrop)

-- a pixel is painted by the states of the layers that there are
abbrev pub SameWhereLayers : Scene → (ℕ → State) → (ℕ → State) → Type 0
SameWhereLayers scene states others = (number : ℕ) → number < length scene.layers → states number ≡ others number

pub painted-same :
    (scene : Scene) (states others : ℕ → State) (column row : ℕ) → IsValid scene → SameWhereLayers scene states others
    → painted scene states column row ≡ painted scene others column row
painted-same scene states others column row valid same =
    let first : states 0 ≡ others 0 = same 0 (let some = valid.some_layer in omega arith) in
    fold-same states others column row (ground scene states) (ground scene others) scene.order
    (λ k d within. same (get_or scene.order k d) ((valid.order.boxes (get_or scene.order k d)).0 (All-contains_itself scene.order k d within)).1)
    (ap (λ (state : State). if is_some (body_colour scene) then over state 255 white else white) first)

-- a layer that there is has one state in a run
run-same :
    (scene : Scene) (setup : Setup) (start : ℕ) (one other : Run) (frame : ℕ) → IsRunIn scene setup start one
    → IsRunIn scene setup start other → start ≤ frame → frame ≤ start + window_of setup
    → SameWhereLayers scene (one frame) (other frame)
run-same scene setup start one other frame first second low high number within =
    elim (slice_get_cases scene.layers number).1 [
      | inl there ↦ state-unique scene setup frame there.0 (one frame number) (other frame number)
          (first frame number there.0 low high there.2) (second frame number there.0 low high there.2)
      | inr past ↦ absurd (let far = past.0 in omega arith)
    ]

pub runs-look_alike : RunsLookAlike
runs-look_alike scene setup start one other valid first second frame column row low high =
    painted-same scene (one frame) (other frame) column row valid
    (run-same scene setup start one other frame first second low high)

-- changes between frames in which the same is seen
alternates-same :
    {C : Type 0} (First Second : C → C → Type 0) (seen other : ℕ → C) (frames : List ℕ) → All (λ k. seen k ≡ other k) frames
    → Alternates (Between First seen) (Between Second seen) frames → Alternates (Between First other) (Between Second other) frames
alternates-same First Second seen other [] same changes = tt
alternates-same First Second seen other (a ∷ []) same changes = tt
alternates-same First Second seen other (a ∷ (b ∷ rest)) same changes = (
  subst₂ First (same 0 a (omega arith)) (same 1 b (omega arith)) changes.0,
  alternates-same Second First seen other (b ∷ rest) (λ k d within. same (suc k) d (omega arith)) changes.1,
)

chain-same :
    {C : Type 0} (Up Down : C → C → Type 0) (seen other : ℕ → C) (start window : ℕ)
    → ((k : ℕ) → start ≤ k → k ≤ start + window → seen k ≡ other k) → HasChain Up Down seen start window
    → HasChain Up Down other start window
chain-same Up Down seen other start window same found =
    let frames = found.0 in
    let chain = found.1 in
    let alike : All (λ k. seen k ≡ other k) frames = λ k d within. same (get_or frames k d) (chain.within k d within).0 (chain.within k d within).1 in (
      frames,
      record {
        nine = chain.nine;
        rising = chain.rising;
        within = chain.within;
        alternates = either Up Down seen other frames alike chain.alternates;
      },
    )
  where
    either :
        {C : Type 0} (Up Down : C → C → Type 0) (seen other : ℕ → C) (frames : List ℕ) → All (λ k. seen k ≡ other k) frames
        → AlternatesEitherWay (Between Up seen) (Between Down seen) frames → AlternatesEitherWay (Between Up other) (Between Down other) frames
    either Up Down seen other frames alike (inl up) = inl (alternates-same Up Down seen other frames alike up)
    either Up Down seen other frames alike (inr down) = inr (alternates-same Down Up seen other frames alike down)

flashes-same :
    (seen other : ℕ → Rgb) (start window : ℕ) → ((k : ℕ) → start ≤ k → k ≤ start + window → seen k ≡ other k)
    → Flashes seen start window → Flashes other start window
flashes-same seen other start window same (inl light) = inl (chain-same IsRise IsFall seen other start window same light)
flashes-same seen other start window same (inr red) = inr (chain-same IsIntoRed IsOutOfRed seen other start window same red)

pub bad-by_looks : BadByLooks
bad-by_looks one other setup start x y alike bad = record {
  marks = bad.marks;
  flagged = λ column row marked. flashes-same (colours_at one column row) (colours_at other column row) start (window_of setup)
      (λ k low high. alike k column row low high) (bad.flagged column row marked);
  inside = bad.inside;
  many = bad.many;
}

pub bad-and_safe : BadAndSafeExclude
bad-and_safe scene setup start x y bad safe =
    run-met scene setup start (λ run exact. safe start x y run exact (bad run exact))

pub one_run-tells : OneRunTells
one_run-tells scene setup start x y run valid exact = (
  λ bad other also. bad-by_looks (painting_of scene run) (painting_of scene other) setup start x y
      (runs-look_alike scene setup start run other valid exact also) bad,
  λ bad. bad run exact,
)

pub safe-none_bad : SafeWhereNoneIsBad
safe-none_bad scene setup valid = (
  λ safe start x y bad. bad-and_safe scene setup start x y bad safe,
  λ none start x y run exact bad. none start x y ((one_run-tells scene setup start x y run valid exact).0 bad),
)

pub safe-one_painting : SafeByOnePainting
safe-one_painting scene setup run valid exact = (
  λ safe start x y. safe start x y run (exact start),
  λ safe start x y other also bad. safe start x y (bad-by_looks (painting_of scene other) (painting_of scene run) setup start x y
      (runs-look_alike scene setup start other run valid also (exact start)) bad),
)
