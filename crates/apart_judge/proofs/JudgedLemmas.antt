-- What the most that the rectangle holds of marked cells says of the separate judgement.
use Rattle.std.proofs.Common.{◌≡◌, ℕ, ◌<◌, ◌≤◌, Bool, List, arith, subst, sym}
use Rattle.page_model.specs.declared.scene.Scene.{Scene}
use Rattle.page_model.specs.declared.setup.Setup.{Setup}
use Rattle.page_model.specs.Enclosure.{LooseRun}
use Rattle.page_model.specs.Horizon.{all_animations}
use Rattle.page_model.specs.SeparateJudgement.{IsFlaggedInCell, IsJudgedApart, IsNotApart, IsOwnRun, IsSeparatelySafe}
use Rattle.flash_count.specs.declared.tracking.Flag.{Flag}
use Rattle.flash_laws.proofs.FlagLemmas.{many-carried}
use Rattle.horizon_laws.proofs.LeastLemmas.{needed-unique}
use Rattle.period_frames.specs.Needed.{NeedsMore}
use Rattle.region_split.specs.Cutting.{Edges}
use Rattle.region_parts.specs.Parts.{ArePartsOf, CanNotBeParted, IsParted, Parts, cell_needed}
use Rattle.cell_flags.specs.Flags.{AreFlags}
use Rattle.cell_flags.specs.Marks.{MarksTell}
use Rattle.cell_flags.proofs.AreaLemmas.{cells-tell, few-flagged, many-flagged}
use Rattle.cell_flags.proofs.SideLemmas.{AreSides, sides-by}
use Rattle.apart_judge.specs.Judging.{IsMostMarked}
use Rattle.apart_judge.proofs.PartLemmas.{AreKnown, marks-tell}
use Rattle.apart_judge.proofs.SameLemmas.{flagged-same, parted-same}

-- a pixel is possibly flagged in a window that its cell needs
abbrev Flagged : Scene → Setup → Parts → LooseRun → ℕ → ℕ → Type 0
Flagged scene setup parts run = IsFlaggedInCell scene setup run parts.cuts.xs parts.cuts.ys (cell_needed parts)

sides-of : (scene : Scene) (setup : Setup) (parts : Parts) (run : LooseRun) → ArePartsOf scene setup parts
    → IsOwnRun scene setup run → AreSides setup parts.cuts
sides-of scene setup parts run are is =
    let parted = (are.by_run run is).parted in
    sides-by scene setup parted.needed_of run parts.cuts are.sound parted.cuts

tells-all : (scene : Scene) (setup : Setup) (parts : Parts) (flags : List Flag) (marks : List Bool) (run : LooseRun)
    → AreKnown scene setup parts flags marks → IsOwnRun scene setup run
    → MarksTell (Flagged scene setup parts run) setup parts.cuts marks
tells-all scene setup parts flags marks run know is =
    cells-tell (Flagged scene setup parts run) setup parts.cuts marks
    (sides-of scene setup parts run know.parts_are is)
    (marks-tell scene setup parts flags marks run know is)

-- flags that were asked for by the parts' cells and frames
pub flags-known : (scene : Scene) (setup : Setup) (parts : Parts) (cuts : Edges) (windows : ℕ)
    (flags others : List Flag)
    → cuts ≡ parts.cuts → windows ≡ parts.frames → others ≡ flags → AreFlags scene setup cuts windows flags
    → AreFlags scene setup parts.cuts parts.frames others
flags-known scene setup parts cuts windows flags others same_cuts same_windows same_flags are =
    subst (λ (edges : Edges). AreFlags scene setup edges parts.frames others) same_cuts
    (subst (λ n. AreFlags scene setup cuts n others) same_windows
    (subst (λ (fs : List Flag). AreFlags scene setup cuts windows fs) (sym same_flags) are))

-- at most a quarter: it holds
pub few-judged : (scene : Scene) (setup : Setup) (parts : Parts) (flags : List Flag) (most : ℕ)
    → NeedsMore setup (all_animations scene) → ArePartsOf scene setup parts
    → AreFlags scene setup parts.cuts parts.frames flags → IsMostMarked parts flags most → most ≤ 21824
    → IsJudgedApart scene setup parts.frames
few-judged scene setup parts flags most more are flags_are marked few run is =
    let parted = (are.by_run run is).parted in
    let know : AreKnown scene setup parts flags marked.marks =
    record { parts_are = are; flags_are = flags_are; marks_are = marked.are } in record {
      beyond = λ needed needed_is.
          let same = needed-unique setup (all_animations scene) needed more.needed needed_is more.is_needed in
          omega (arith, more.many, same);
      needed_of = parted.needed_of;
      layers_need = parted.layers_need;
      layers_bounded = parted.layers_bounded;
      xs = parts.cuts.xs;
      ys = parts.cuts.ys;
      cuts = parted.cuts;
      cell_needed = cell_needed parts;
      cells_need = parted.cells_need;
      is_greatest = parted.is_greatest;
      is_some = parted.is_some;
      cells_bounded = parted.cells_bounded;
      work_bounded = parted.work_bounded;
      few_flagged = λ x y.
          few-flagged (Flagged scene setup parts run) setup parts.cuts marked.marks x y
          (sides-of scene setup parts run are is)
          (tells-all scene setup parts flags marked.marks run know is) (omega (arith, few, marked.most_of x y));
    }

-- what holds of a run but for what is flagged
safe-parted : (scene : Scene) (setup : Setup) (run : LooseRun) (greatest : ℕ)
    → (safe : IsSeparatelySafe scene setup run greatest)
    → IsParted scene setup run safe.xs safe.ys safe.cell_needed greatest
safe-parted scene setup run greatest safe = record {
  needed_of = safe.needed_of;
  layers_need = safe.layers_need;
  layers_bounded = safe.layers_bounded;
  cuts = safe.cuts;
  cells_need = safe.cells_need;
  is_greatest = safe.is_greatest;
  is_some = safe.is_some;
  cells_bounded = safe.cells_bounded;
  work_bounded = safe.work_bounded;
}

-- more than a quarter: it doesn't
pub many-judged : (scene : Scene) (setup : Setup) (parts : Parts) (flags : List Flag) (most : ℕ)
    → ArePartsOf scene setup parts → AreFlags scene setup parts.cuts parts.frames flags
    → IsMostMarked parts flags most → 21824 < most → IsNotApart scene setup
many-judged scene setup parts flags most are flags_are marked many run greatest is safe =
    let know : AreKnown scene setup parts flags marked.marks =
    record { parts_are = are; flags_are = flags_are; marks_are = marked.are } in
    let same = parted-same scene setup run parts.cuts.xs parts.cuts.ys safe.xs safe.ys (cell_needed parts)
    safe.cell_needed parts.frames greatest (are.by_run run is).parted (safe-parted scene setup run greatest safe) in
    let flagged = many-flagged (Flagged scene setup parts run) setup parts.cuts marked.marks marked.x marked.y
    (sides-of scene setup parts run are is) (tells-all scene setup parts flags marked.marks run know is)
    (omega (arith, many, marked.has)) in
    safe.few_flagged marked.x marked.y (many-carried (Flagged scene setup parts run)
    (IsFlaggedInCell scene setup run safe.xs safe.ys safe.cell_needed) setup marked.x marked.y
    (λ column row within below. flagged-same scene setup run parts.cuts.xs parts.cuts.ys safe.xs safe.ys
    (cell_needed parts) safe.cell_needed column row same)
    flagged)

-- it can't be parted: it doesn't either
pub not-judged : (scene : Scene) (setup : Setup) → CanNotBeParted scene setup → IsNotApart scene setup
not-judged scene setup none run greatest is safe =
    none run safe.xs safe.ys safe.cell_needed greatest is (safe-parted scene setup run greatest safe)
