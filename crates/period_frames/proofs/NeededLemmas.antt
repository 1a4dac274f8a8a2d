-- The animations of one layer more, and what a scene needs.
use Rattle.std.proofs.Common.{◌≡◌, ℕ, ◌+◌, ◌<◌, List, [], ◌∷◌, ◌++◌, length, take, refl, arith, ap, sym, subst, ◌∙◌, append-nil}
use Rattle.std.specs.Prelude.{Some, None, slice_get, slice_index_or}
use Rattle.std.proofs.lemmas.Grind.{take_at_read, flat_map-append}
use Rattle.std.proofs.lemmas.Option.{get_or_from_slice_get}
use Rattle.page_model.specs.declared.setup.Setup.{Setup}
use Rattle.page_model.specs.declared.animation.Anim.{Anim}
use Rattle.page_model.specs.declared.scene.Layer.{Layer}
use Rattle.page_model.specs.declared.scene.Scene.{Scene}
use Rattle.page_model.specs.Horizon.{IsHorizon, all_animations, animations_of}
use Rattle.page_model.specs.Time.{HasFrames}
use Rattle.horizon_laws.proofs.EnoughLemmas.{few-suffice}
use Rattle.horizon_laws.proofs.SettledLemmas.{horizon-exists}
use Rattle.period_frames.specs.Needed.{AreEnough, NeedsMore}
use Rattle.period_frames.specs.Periods.{IsPeriodOrLong}
use Rattle.period_frames.specs.Repeats.{IsRepeat}
use Rattle.period_frames.specs.declared.repeats.Repeat.{Repeat}

pub layer-more :
    (layers : List Layer) (i : ℕ) (layer : Layer) → i < length layers → layer ≡ slice_index_or layers i layer
    → animations_of (take (i + 1) layers) ≡ animations_of (take i layers) ++ layer.anims
layer-more layers i layer below is =
    let more : take (i + 1) layers ≡ take i layers ++ (layer ∷ []) =
    subst (λ l. take (i + 1) layers ≡ take i layers ++ (l ∷ [])) (sym is) (take_at_read layers i layer below).1 in
    ap animations_of more
    ∙ (flat_map-append (λ (l : Layer). l.anims) (take i layers) (layer ∷ [])
    ∙ ap (λ xs. animations_of (take i layers) ++ xs) (append-nil layer.anims))

-- what is known of all animations is a horizon, where there is a period
pub horizon-known :
    (setup : Setup) (anims : List Anim) (known : Repeat) (period : ℕ) → IsRepeat setup anims known → known.period ≡ Some period
    → IsHorizon setup anims known.settled period
horizon-known setup anims known period is e =
    record { settled_is = is.settled; period_is = subst (IsPeriodOrLong setup anims) e is.period }

pub more-by_sum : (setup : Setup) (anims : List Anim) (settled period : ℕ) → IsHorizon setup anims settled period → 100000 < settled + period → NeedsMore setup anims
more-by_sum setup anims settled period is many = record {
  needed = settled + period;
  is_needed = record { settled = settled; period = period; horizon = is; needed_is = refl };
  many = many;
}

-- a long period alone is too much
pub more-by_period : (setup : Setup) (anims : List Anim) → HasFrames setup → IsPeriodOrLong setup anims None → NeedsMore setup anims
more-by_period setup anims rate long =
    let found = horizon-exists setup anims rate in
    let many = long found.1 found.2.period_is.holds in
    more-by_sum setup anims found.0 found.1 found.2 (omega arith)

pub enough : (scene : Scene) (setup : Setup) (settled period : ℕ) → HasFrames setup → IsHorizon setup (all_animations scene) settled period → AreEnough scene setup (settled + period)
enough scene setup settled period rate is =
    few-suffice scene setup (settled + period) rate (record { settled = settled; period = period; horizon = is; needed_is = refl })

-- what is known of the animations of a layer that was read
pub repeat-read :
    (setup : Setup) (layers xs : List Layer) (number place : ℕ) (element layer : Layer) (anims : List Anim) (known : Repeat)
    → xs ≡ layers → place ≡ number → element ≡ slice_index_or xs place element → anims ≡ element.anims
    → slice_get layers number ≡ Some layer → IsRepeat setup anims known → IsRepeat setup layer.anims known
repeat-read setup layers xs number place element layer anims known same_list same_place read same_anims there is =
    let found : slice_index_or layers number element ≡ layer = get_or_from_slice_get layers number layer element there in
    let same : element ≡ layer = cc in
    subst (λ (some : List Anim). IsRepeat setup some known) (same_anims ∙ ap (λ (l : Layer). l.anims) same) is
