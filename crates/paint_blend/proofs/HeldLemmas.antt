-- A tint by states of the own kind is one whichever they are, holds the colours by exact states, and lies in the tints by states of the
-- wide kind.
use Rattle.std.proofs.Common.{◌≡◌, ℕ, ◌<◌, length, arith, inl, inr}
use Rattle.std.proofs.lemmas.Option.{slice_get_cases}
use Rattle.page_model.specs.declared.scene.Scene.{Scene}
use Rattle.page_model.specs.declared.setup.Setup.{Setup}
use Rattle.page_model.specs.Colour.{painted}
use Rattle.page_model.specs.Enclosure.{LooseState, own}
use Rattle.page_model.specs.LayerAt.{State}
use Rattle.page_model.specs.TintOf.{tint_of}
use Rattle.page_model.specs.ValidScene.{IsValid}
use Rattle.flash_laws.specs.SureLaws.{IsOf}
use Rattle.frame_state.specs.States.{AreOwn}
use Rattle.tint_laws.specs.NestLaws.{LiesIn}
use Rattle.tint_laws.specs.TintLaws.{LooseStateWithin, StateWithin}
use Rattle.tint_laws.proofs.AlikeLemmas.{tint-same}
use Rattle.tint_laws.proofs.KindLemmas.{state-in}
use Rattle.tint_laws.proofs.TintLemmas.{tints_hold_colours}
use Rattle.tint_laws.proofs.TintNestLemmas.{tints_hold_tints}
use Rattle.tint_laws.proofs.WindowLemmas.{state-within}
use Rattle.wide_laws.proofs.LooseLemmas.{loose_state-unique}
use Rattle.paint_blend.specs.Paint.{AreStates, AreWide}

pub own-same : (scene : Scene) (setup : Setup) (frame : ℕ) (loose other : ℕ → LooseState) (x y : ℕ) → IsValid scene
    → AreOwn scene setup frame loose → AreOwn scene setup frame other → tint_of scene loose x y ≡ tint_of scene other x y
own-same scene setup frame loose other x y valid first second =
    tint-same scene loose other x y valid same where
      same : (number : ℕ) → number < length scene.layers → loose number ≡ other number
      same number within =
          elim (slice_get_cases scene.layers number).1 [
            | inl found ↦
                loose_state-unique own scene setup frame found.0 (loose number) (other number)
                (first number found.0 found.2) (second number found.0 found.2)
            | inr past ↦ absurd (let far = past.0 in omega arith)
          ]

pub colour-held : (scene : Scene) (setup : Setup) (frame : ℕ) (loose : ℕ → LooseState) (states : ℕ → State) (x y : ℕ) → IsValid scene
    → AreOwn scene setup frame loose → AreStates scene setup frame states → IsOf (tint_of scene loose x y) (painted scene states x y)
colour-held scene setup frame loose states x y valid first second =
    tints_hold_colours scene valid loose states held x y where
      held : (number : ℕ) → number < length scene.layers → StateWithin (loose number) (states number)
      held number within =
          elim (slice_get_cases scene.layers number).1 [
            | inl found ↦
                state-within own scene setup frame number found.0 (loose number) (states number) valid found.2
                (first number found.0 found.2) (second number found.0 found.2)
            | inr past ↦ absurd (let far = past.0 in omega arith)
          ]

pub tint-within : (scene : Scene) (setup : Setup) (frame : ℕ) (outer inner : ℕ → LooseState) (x y : ℕ) → IsValid scene
    → AreWide scene setup frame outer → AreOwn scene setup frame inner → LiesIn (tint_of scene outer x y) (tint_of scene inner x y)
tint-within scene setup frame outer inner x y valid first second =
    tints_hold_tints scene valid outer inner held x y where
      held : (number : ℕ) → number < length scene.layers → LooseStateWithin (outer number) (inner number)
      held number within =
          elim (slice_get_cases scene.layers number).1 [
            | inl found ↦
                state-in scene setup frame number found.0 (outer number) (inner number) valid found.2
                (first number found.0 found.2) (second number found.0 found.2)
            | inr past ↦ absurd (let far = past.0 in omega arith)
          ]
