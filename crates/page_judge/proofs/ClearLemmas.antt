-- Each other answer has a cause that these premises exclude.
use Rattle.std.proofs.Common.{◌≡◌, ◌∙◌, ◌⊎◌, ℕ, ℤ, ◌*◌, ◌<◌, ◌≤◌, arith, ap, mul-le-mul_right, subst, true, false, true≢false, sym, inl, inr}
use Rattle.page_model.specs.declared.scene.Scene.{Scene}
use Rattle.page_model.specs.declared.setup.Setup.{Setup}
use Rattle.page_model.specs.Cells.{IsTooMuchWork, cells_between, work_limit}
use Rattle.page_model.specs.Enclosure.{wide}
use Rattle.page_model.specs.Horizon.{all_animations, frames_for}
use Rattle.sweep.specs.Verdicts.{IsTooMuch}
use Rattle.page_judge.specs.declared.types.Judgement.{Judgement}
use Rattle.page_judge.specs.declared.types.Judgement.TheVariants.{Pass, Fail, Frames, Work, Enclosure}
use Rattle.page_judge.specs.Clear.{ClearScenesAreDecided, IsClear, IsWithinCounts, WorkIsTooMuchWidely}
use Rattle.page_judge.specs.Judgement.{IsEnclosed}
use Rattle.page_judge.proofs.OneLemmas.{few-more, needed-unique}

-- more cells times frames are more
more-cells : (cells wide_cells frames limit : ℕ) → cells ≤ wide_cells → limit < cells * frames → limit < wide_cells * frames
more-cells cells wide_cells frames limit few many =
    let product = mul-le-mul_right {m = cells} {n = wide_cells} frames few in
    omega (arith, product, many)

-- too much work is so by the wide kind
much-widely : (scene : Scene) (setup : Setup) (cells frames : ℕ) → IsTooMuch scene setup cells frames → IsTooMuchWork wide scene setup frames
much-widely scene setup cells frames much run xs ys is cuts =
    more-cells cells (cells_between xs ys) frames work_limit (much.work.at_most_wide run xs ys is cuts) much.work.too_many

pub past_work-widely : WorkIsTooMuchWidely
past_work-widely scene setup cells frames past = much-widely scene setup cells frames past

never-much : (scene : Scene) (setup : Setup) (cells frames : ℕ) → IsWithinCounts scene setup → IsTooMuch scene setup cells frames → ⊥
never-much scene setup cells frames counts much =
    let needed = needed-unique setup (all_animations scene) much.needed counts.needed much.is_needed counts.is_needed in
    let same : frames ≡ frames_for setup counts.needed = much.frames_are ∙ ap (frames_for setup) needed in
    counts.little_work (subst (IsTooMuchWork wide scene setup) same (much-widely scene setup cells frames much))

never-enclosed : (scene : Scene) (setup : Setup) (start : ℕ) (x y : ℤ) → IsClear scene setup → IsEnclosed scene setup start x y → ⊥
never-enclosed scene setup start x y (inl none) enclosed = none start x y enclosed.widely.possibly
never-enclosed scene setup start x y (inr (inl some)) enclosed = enclosed.widely.none_surely some.0 some.1 some.2 some.3
never-enclosed scene setup start x y (inr (inr exact)) enclosed = enclosed.inexact exact

pub clear-decided : ClearScenesAreDecided
clear-decided scene setup (Pass frames apart) counts clear is = tt
clear-decided scene setup (Fail w) counts clear is = tt
clear-decided scene setup Frames counts clear is =
    few-more setup (all_animations scene) counts.needed counts.is_needed counts.few is.beyond
clear-decided scene setup (Work cells frames) counts clear is = never-much scene setup cells frames counts is
clear-decided scene setup (Enclosure start x y) counts clear is = never-enclosed scene setup start x y clear is
