-- A scene that is judged region by region.
use Rattle.std.proofs.Common.{◌≡◌, ◌∙◌, ℕ, ◌/◌, ◌≤◌, ap, arith, inl, inr}
use Rattle.std.proofs.Math.Nat.{div-zero, pos_of_div-pos}
use Rattle.std.proofs.lemmas.Bool.{cases_lt}
use Rattle.page_model.specs.declared.scene.Scene.{Scene}
use Rattle.page_model.specs.declared.setup.Setup.{Setup}
use Rattle.page_model.specs.Horizon.{all_animations}
use Rattle.page_model.specs.SeparateJudgement.{IsJudgedApart}
use Rattle.page_model.specs.Time.{HasFrames, window_of}
use Rattle.page_model.specs.ValidScene.{IsValid}
use Rattle.apart_laws.proofs.SafeLemmas.{parted-safe}
use Rattle.period_frames.specs.Needed.{NeedsMore}
use Rattle.sweep.specs.Apart.{IsPassApart}

-- a window has frames
has-frames : (setup : Setup) → 1 ≤ window_of setup → HasFrames setup
has-frames setup some = record {
  some_num = pos_of_div-pos setup.den (omega (arith, some));
  some_den =
      elim (cases_lt 0 setup.den) [
        | inl h ↦ h
        | inr none ↦
            let is : setup.den ≡ 0 = omega (arith, none) in
            let whole : setup.num / setup.den ≡ 0 = ap (λ n. setup.num / n) is ∙ div-zero setup.num in
            absurd (omega (arith, some, whole))
      ];
}

pub passes-apart : (scene : Scene) (setup : Setup) (frames : ℕ) → IsValid scene → 1 ≤ window_of setup
    → NeedsMore setup (all_animations scene) → IsJudgedApart scene setup frames → IsPassApart scene setup frames
passes-apart scene setup frames valid some beyond judged =
    record { beyond = beyond; apart = judged; for_ever = parted-safe scene setup frames valid (has-frames setup some) judged }
