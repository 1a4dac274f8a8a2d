-- The verdict that the flags tell is the scene's.
use Rattle.std.proofs.Common.{◌≡◌, ℕ, Bool, false, true, List, arith, get_or, refl, subst, sym}
use Rattle.std.specs.Prelude.{ℤ, ◌↔◌, IsTrue}
use Rattle.page_model.specs.declared.scene.Scene.{Scene}
use Rattle.page_model.specs.declared.setup.Setup.{Setup}
use Rattle.page_model.specs.Enclosure.{LooseRun, own}
use Rattle.page_model.specs.Flash.{HasManyFlagged}
use Rattle.page_model.specs.Horizon.{frames_for}
use Rattle.page_model.specs.TintOf.{IsLooseRunIn, tints_of}
use Rattle.page_model.specs.ValidScene.{IsValid}
use Rattle.page_model.specs.Window.{IsPossiblyFlagged, IsSurelyFlagged}
use Rattle.cell_flags.specs.Flags.{IsFlagOf}
use Rattle.cell_flags.specs.Marks.{MarksTell}
use Rattle.flash_count.specs.declared.tracking.Flag.{Flag}
use Rattle.period_frames.specs.Needed.{NoneBadBefore}
use Rattle.region_split.specs.declared.types.Rect.{Rect}
use Rattle.region_split.specs.Cutting.{Edges, IsInside, cell_of}
use Rattle.tint_laws.proofs.WindowLemmas.{bad_windows_lie_between}
use Rattle.wide_laws.proofs.LooseLemmas.{loose_run-met}
use Rattle.sweep.specs.declared.types.Reason.TheVariants as reason
use Rattle.sweep.specs.declared.types.Verdict.{Verdict}
use Rattle.sweep.specs.declared.types.Verdict.TheVariants.{Pass, Fail, Undecided}
use Rattle.sweep.specs.declared.windows.Sort.{Sort}
use Rattle.sweep.specs.declared.windows.Sort.TheVariants.{Possible, Sure}
use Rattle.sweep.specs.Marks.{IsFirstMost}
use Rattle.sweep.specs.Swept.{AreFewBefore, AreFlagsIn, IsFew, IsFirstMany, IsTold}
use Rattle.sweep.specs.Told.{AreMarks, told, unflagged}
use Rattle.sweep.specs.Verdicts.{IsFirstBad, IsReady, IsReadyApart, IsReadyBy, IsReadyWhole, IsVerdict, IsVerdictBy, Judged, NoneIn}
use Rattle.cell_flags.proofs.AreaLemmas.{cells-tell, few-flagged, first-most, many-flagged}
use Rattle.cell_flags.proofs.SideLemmas.{AreSides, sides-are}

-- a pixel is flagged by a sort, and a window is bad by it
abbrev FlaggedBy : Sort → Scene → Setup → LooseRun → ℕ → ℕ → ℕ → Type 0
FlaggedBy Possible scene setup run start = IsPossiblyFlagged own (tints_of scene run) setup start
FlaggedBy Sure scene setup run start = IsSurelyFlagged own (tints_of scene run) setup start

abbrev BadBy : Sort → Scene → Setup → ℕ → ℤ → ℤ → Type 0
BadBy sort scene setup start x y =
    (run : LooseRun) → IsLooseRunIn own scene setup start run → HasManyFlagged (FlaggedBy sort scene setup run start) setup x y

told-flag : (sort : Sort) (scene : Scene) (setup : Setup) (start : ℕ) (rect : Rect) (flag : Flag) (run : LooseRun) (column row : ℕ)
    → IsFlagOf scene setup start rect flag → IsLooseRunIn own scene setup start run → IsInside rect column row
    → (IsTrue (told sort flag) ↔ FlaggedBy sort scene setup run start column row)
told-flag Possible scene setup start rect flag run column row of is inside = of.possible run column row is inside
told-flag Sure scene setup start rect flag run column row of is inside = of.sure run column row is inside

-- marks of cells tell the flags of their pixels
tells : (sort : Sort) (scene : Scene) (setup : Setup) (edges : Edges) (start : ℕ) (flags : List Flag) (marks : List Bool) (run : LooseRun)
    → AreSides setup edges → AreFlagsIn scene setup edges start flags → AreMarks sort edges flags marks
    → IsLooseRunIn own scene setup start run → MarksTell (FlaggedBy sort scene setup run start) setup edges marks
tells sort scene setup edges start flags marks run sides of are is =
    cells-tell (FlaggedBy sort scene setup run start) setup edges marks sides (λ cell column row known inside.
    subst (λ (b : Bool). IsTrue b ↔ FlaggedBy sort scene setup run start column row) (sym (are.each cell known))
    (told-flag sort scene setup start (cell_of edges.xs edges.ys cell) (get_or flags cell unflagged) run column row (of cell known) is inside))

-- where few pixels are flagged no run has a bad window
few-at : (sort : Sort) (scene : Scene) (setup : Setup) (edges : Edges) (start : ℕ) (x y : ℤ) (run : LooseRun) → AreSides setup edges
    → IsFew sort scene setup edges start → IsLooseRunIn own scene setup start run
    → HasManyFlagged (FlaggedBy sort scene setup run start) setup x y → ⊥
few-at sort scene setup edges start x y run sides few is =
    let of = few.few in
    few-flagged (FlaggedBy sort scene setup run start) setup edges of.marks x y sides
    (tells sort scene setup edges start few.flags of.marks run sides few.are of.are is) (of.few x y)

none-bad : (sort : Sort) (scene : Scene) (setup : Setup) (edges : Edges) (end : ℕ) → AreSides setup edges
    → AreFewBefore sort scene setup edges end → NoneIn (BadBy sort scene setup) end
none-bad sort scene setup edges end sides fews start x y before bad =
    loose_run-met own scene setup start (λ run is. few-at sort scene setup edges start x y run sides (fews start before) is (bad run is))

first-bad : (sort : Sort) (scene : Scene) (setup : Setup) (edges : Edges) (windows start : ℕ) (x y : ℤ) → AreSides setup edges
    → IsFirstMany sort scene setup edges windows start x y → IsFirstBad (BadBy sort scene setup) windows start x y
first-bad sort scene setup edges windows start x y sides first = record {
  before = first.before;
  bad = λ run is.
      let many = first.many in
      let of = many.many.best in
      many-flagged (FlaggedBy sort scene setup run start) setup edges of.marks x y sides
      (tells sort scene setup edges start many.flags of.marks run sides many.are of.are is)
      (omega (arith, many.many.many, of.best.has));
  least = none-bad sort scene setup edges start sides first.least;
}

first-place : (sort : Sort) (scene : Scene) (setup : Setup) (edges : Edges) (windows start : ℕ) (x y : ℤ) (run : LooseRun) → AreSides setup edges
    → IsFirstMany sort scene setup edges windows start x y → IsLooseRunIn own scene setup start run
    → IsFirstMost (FlaggedBy sort scene setup run start) setup x y
first-place sort scene setup edges windows start x y run sides first is =
    let many = first.many in
    let of = many.many.best in
    first-most (FlaggedBy sort scene setup run start) setup edges of.marks many.many.most x y sides
    (tells sort scene setup edges start many.flags of.marks run sides many.are of.are is) of.best

-- where no window is possibly bad none is bad
none-before : (scene : Scene) (setup : Setup) (edges : Edges) (windows : ℕ) → IsValid scene → AreSides setup edges
    → AreFewBefore Possible scene setup edges windows → NoneBadBefore scene setup windows
none-before scene setup edges windows valid sides fews start x y run before is bad =
    loose_run-met own scene setup start (λ loose loose_is.
    few-at Possible scene setup edges start x y loose sides (fews start before) loose_is
    (bad_windows_lie_between.possibly scene setup start x y valid own loose run loose_is is bad))

-- a sweep over the whole page, or one whose regions were judged
pub ready-whole : (judged : Judged) → judged.apart ≡ false → IsReady judged → IsReadyWhole judged
ready-whole judged whole ready = subst (λ b. IsReadyBy b judged) whole ready.by

pub ready-apart : (judged : Judged) → judged.apart ≡ true → IsReady judged → IsReadyApart judged
ready-apart judged apart ready = subst (λ b. IsReadyBy b judged) apart ready.by

pub verdict-is : (judged : Judged) (verdict : Verdict) → IsValid judged.scene → IsReadyWhole judged
    → IsTold judged.scene judged.setup judged.cuts judged.needed verdict
    → IsVerdict judged.scene judged.setup judged.needed verdict
verdict-is judged (Pass frames apart) valid ready (pass, together) =
    let sides = sides-are judged.scene judged.setup (frames_for judged.setup judged.needed) judged.cuts ready.cut in (
      record {
        frames_are = pass.frames_are;
        none_surely = ready.for_ever.surely own (none-bad Sure judged.scene judged.setup judged.cuts judged.needed sides pass.surely);
        none_possibly = ready.for_ever.possibly own (none-bad Possible judged.scene judged.setup judged.cuts judged.needed sides pass.possibly);
        safe = ready.for_ever.safe (none-before judged.scene judged.setup judged.cuts judged.needed valid sides pass.possibly);
      },
      together,
    )
verdict-is judged (Fail window) valid ready first =
    let sides = sides-are judged.scene judged.setup (frames_for judged.setup judged.needed) judged.cuts ready.cut in record {
      first = first-bad Sure judged.scene judged.setup judged.cuts judged.needed window.start window.x window.y sides first;
      most = λ run is. first-place Sure judged.scene judged.setup judged.cuts judged.needed window.start window.x window.y run sides first is;
    }
verdict-is judged (Undecided reason.Frames) valid ready told_is = told_is
verdict-is judged (Undecided (reason.Work cells frames)) valid ready told_is = told_is
verdict-is judged (Undecided (reason.Enclosure start x y)) valid ready undecided =
    let sides = sides-are judged.scene judged.setup (frames_for judged.setup judged.needed) judged.cuts ready.cut in record {
      none_surely = ready.for_ever.surely own (none-bad Sure judged.scene judged.setup judged.cuts judged.needed sides undecided.surely);
      first = first-bad Possible judged.scene judged.setup judged.cuts judged.needed start x y sides undecided.first;
      most = λ run is. first-place Possible judged.scene judged.setup judged.cuts judged.needed start x y run sides undecided.first is;
    }

pub whole-is : (judged : Judged) (verdict : Verdict) → judged.apart ≡ false → IsReady judged
    → IsTold judged.scene judged.setup judged.cuts judged.needed verdict
    → IsVerdictBy judged.scene judged.setup judged.needed judged.apart verdict
whole-is judged verdict whole ready told_is =
    subst (λ b. IsVerdictBy judged.scene judged.setup judged.needed b verdict) (sym whole)
    (verdict-is judged verdict ready.valid (ready-whole judged whole ready) told_is)

pub apart-is : (judged : Judged) → judged.apart ≡ true → IsReady judged
    → IsVerdictBy judged.scene judged.setup judged.needed judged.apart (Pass judged.needed true)
apart-is judged apart ready =
    subst (λ b. IsVerdictBy judged.scene judged.setup judged.needed b (Pass judged.needed true)) (sym apart)
    (record { frames_are = refl; passes = (ready-apart judged apart ready).passes }, refl)
