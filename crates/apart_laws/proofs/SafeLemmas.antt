-- No window of a page that is judged region by region is bad: it would have too many pixels that were looked at.
use Rattle.std.proofs.Common.{ℕ, ℤ, ◌<◌}
use Rattle.page_model.specs.declared.scene.Scene.{Scene}
use Rattle.page_model.specs.declared.setup.Setup.{Setup}
use Rattle.page_model.specs.Enclosure.{LooseRun, own}
use Rattle.page_model.specs.Flash.{HasManyFlagged}
use Rattle.page_model.specs.Horizon.{frames_for}
use Rattle.page_model.specs.SeparateJudgement.{IsFlaggedInCell, IsJudgedApart, frame_limit}
use Rattle.page_model.specs.Time.{HasFrames}
use Rattle.page_model.specs.TintOf.{IsLooseRunIn, tints_of}
use Rattle.page_model.specs.ValidScene.{IsValid}
use Rattle.page_model.specs.Window.{IsPossiblyFlagged}
use Rattle.apart_laws.specs.PartedPages.{PartedPagesAreSafe}
use Rattle.cell_laws.proofs.EdgeLemmas.{pixels-in_cells}
use Rattle.cell_laws.proofs.RunLemmas.{runs-met}
use Rattle.horizon_laws.proofs.EarlierLemmas.{frames_have-earlier}
use Rattle.state_laws.proofs.RunLemmas.{run-met}
use Rattle.tint_laws.proofs.WindowLemmas.{bad_windows_lie_between}
use Rattle.wide_laws.proofs.LooseLemmas.{loose_run-met}
use Rattle.apart_laws.proofs.AreaLemmas.{many-inside}
use Rattle.apart_laws.proofs.MeetLemmas.{IsParted}
use Rattle.apart_laws.proofs.SeenLemmas.{flagged-in_cell}

-- a flagged pixel of the viewport is flagged in its cell
pixel-flagged : (scene : Scene) (setup : Setup) (run other : LooseRun) (greatest start column row : ℕ)
    (parted : IsParted scene setup run greatest) → IsLooseRunIn own scene setup start other → column < setup.width → row < setup.height
    → IsPossiblyFlagged own (tints_of scene other) setup start column row
    → IsFlaggedInCell scene setup run parted.safe.xs parted.safe.ys parted.safe.cell_needed column row
pixel-flagged scene setup run other greatest start column row parted is across down flagged =
    let safe = parted.safe in
    let found = pixels-in_cells scene setup safe.needed_of run safe.xs safe.ys column row safe.cuts across down in
    let need = safe.cells_need found.0 found.1 found.2.is_column found.2.is_row in
    flagged-in_cell scene setup run other greatest start column row
    (record {
      parted = parted;
      is = is;
      i = found.0;
      j = found.1;
      cell = found.2;
      need = need;
      first = frames_have-earlier scene setup need.needed_is.settled need.needed_is.period start need.needed_is.horizon.period_is.holds.some;
    }) flagged

-- so there are few of them, by whatever states of whatever window
pub few-flagged : (scene : Scene) (setup : Setup) (greatest start : ℕ) (x y : ℤ) (other : LooseRun) → IsValid scene → HasFrames setup
    → IsJudgedApart scene setup greatest → IsLooseRunIn own scene setup start other
    → HasManyFlagged (IsPossiblyFlagged own (tints_of scene other) setup start) setup x y → ⊥
few-flagged scene setup greatest start x y other valid rate judged is many =
    runs-met own scene setup (frames_for setup frame_limit) (λ run are.
    let parted : IsParted scene setup run greatest = record { valid = valid; rate = rate; are = are; safe = judged run are } in
    parted.safe.few_flagged x y (many-inside (IsPossiblyFlagged own (tints_of scene other) setup start)
    (IsFlaggedInCell scene setup run parted.safe.xs parted.safe.ys parted.safe.cell_needed) setup x y
    (λ column row across down flagged.
    pixel-flagged scene setup run other greatest start column row parted is across down flagged) many))

pub parted-safe : PartedPagesAreSafe
parted-safe scene setup greatest valid rate judged = record {
  none_surely = λ start x y bad.
      loose_run-met own scene setup start (λ other is.
      run-met scene setup start (λ exact exact_is.
      few start x y other is (bad_windows_lie_between.possibly scene setup start x y valid own other exact is exact_is
      (bad_windows_lie_between.surely scene setup start x y valid own other exact is exact_is (bad other is)))));
  none_possibly = λ start x y bad. loose_run-met own scene setup start (λ other is. few start x y other is (bad other is));
  safe = λ start x y exact exact_is bad.
      loose_run-met own scene setup start (λ other is.
      few start x y other is (bad_windows_lie_between.possibly scene setup start x y valid own other exact is exact_is bad));
} where
  few : (start : ℕ) (x y : ℤ) (other : LooseRun) → IsLooseRunIn own scene setup start other
      → HasManyFlagged (IsPossiblyFlagged own (tints_of scene other) setup start) setup x y → ⊥
  few start x y other is many = few-flagged scene setup greatest start x y other valid rate judged is many
