-- The answers exclude each other.
use Rattle.std.proofs.Common.{◌≡◌, ℕ, ℤ, ◌*◌, ◌<◌, ◌≤◌, Bool, true, false, List, arith, refl, subst, sym}
use Rattle.page_model.specs.declared.animation.Anim.{Anim}
use Rattle.page_model.specs.declared.scene.Scene.{Scene}
use Rattle.page_model.specs.declared.setup.Setup.{Setup}
use Rattle.page_model.specs.declared.witness.Witness.{Witness}
use Rattle.page_model.specs.Cells.{cells_between, work_limit}
use Rattle.page_model.specs.Colour.{IsSafeScene}
use Rattle.page_model.specs.Enclosure.{LooseRun, own}
use Rattle.page_model.specs.Horizon.{IsNeeded, all_animations, frames_for}
use Rattle.page_model.specs.TintOf.{IsLooseRunIn, tints_of}
use Rattle.page_model.specs.Window.{IsPossiblyBad, IsPossiblyFlagged, IsSurelyBad, IsSurelyFlagged}
use Rattle.horizon_laws.proofs.LeastLemmas.{IsLeast-unique}
use Rattle.apart_laws.proofs.OneLemmas.{one-parting}
use Rattle.period_frames.specs.Needed.{NeedsMore}
use Rattle.region_split.specs.Cutting.{Edges, IsCut, IsWork}
use Rattle.state_laws.proofs.RunLemmas.{run-met}
use Rattle.sweep.specs.Apart.{IsPassApart}
use Rattle.sweep.specs.Marks.{CountsFlagged}
use Rattle.sweep.specs.Verdicts.{IsPossibleMost, IsSureMost, IsTooMuch, NoneEver}
use Rattle.wide_laws.proofs.LooseLemmas.{loose_run-met}
use Rattle.page_judge.specs.declared.types.Judgement.{Judgement}
use Rattle.page_judge.specs.declared.types.Judgement.TheVariants.{Pass, Fail, Frames, Work, Enclosure}
use Rattle.page_judge.specs.Judgement.{IsEnclosed, IsFail, IsJudgement, IsNeitherPassNorEnclosure, IsNoPass, IsPassBy, IsPastFrames, IsPastWork, IsWithinBounds, OneAnswer, OneJudgement, TellSame}
use Rattle.page_judge.proofs.CellLemmas.{cells-same}
use Rattle.page_judge.proofs.PlaceLemmas.{counts-same, places-same, start-unique}

pub needed-unique : (setup : Setup) (anims : List Anim) (one other : ℕ) → IsNeeded setup anims one → IsNeeded setup anims other → one ≡ other
needed-unique setup anims one other first second =
    let settled = IsLeast-unique _ _ _ first.horizon.settled_is second.horizon.settled_is in
    let period = IsLeast-unique _ _ _ first.horizon.period_is second.horizon.period_is in
    let sum = first.needed_is in
    let again = second.needed_is in
    omega arith

-- so many windows are more than are looked at, or not
pub few-more : (setup : Setup) (anims : List Anim) (needed : ℕ) → IsNeeded setup anims needed → needed ≤ 100000 → NeedsMore setup anims → ⊥
few-more setup anims needed is few more =
    let same = needed-unique setup anims needed more.needed is more.is_needed in
    omega (arith, same, few, more.many)

-- cells times frames are too many, or not
product-apart : (one other frames limit : ℕ) → one ≡ other → one * frames ≤ limit → limit < other * frames → ⊥
product-apart one other frames limit same few many =
    let less : limit < one * frames = subst (λ (n : ℕ). limit < n * frames) (sym same) many in
    omega (arith, few, less)

cut-work : (scene : Scene) (setup : Setup) (frames cells : ℕ) (edges : Edges) → IsCut scene setup frames edges → IsWork scene setup frames cells → ⊥
cut-work scene setup frames cells edges cut work =
    let same = cells-same scene setup frames edges.xs edges.ys work.xs work.ys cut.cuts work.cuts in
    let told : cells_between edges.xs edges.ys ≡ cells = omega (arith, same, work.cells_are) in
    product-apart (cells_between edges.xs edges.ys) cells frames work_limit told cut.few_enough work.too_many

bounds-much : (scene : Scene) (setup : Setup) (needed cells frames : ℕ) → IsWithinBounds scene setup needed → IsTooMuch scene setup cells frames → ⊥
bounds-much scene setup needed cells frames bounds much =
    let same = needed-unique setup (all_animations scene) much.needed needed much.is_needed bounds.is_needed in
    let work : IsWork scene setup (frames_for setup needed) cells =
    subst (λ (n : ℕ). IsWork scene setup (frames_for setup n) cells) same
    (subst (λ (n : ℕ). IsWork scene setup n cells) much.frames_are much.work) in
    cut-work scene setup (frames_for setup needed) cells bounds.cuts bounds.cut work

much-same : (scene : Scene) (setup : Setup) (cells frames other_cells others : ℕ) → IsTooMuch scene setup cells frames
    → IsTooMuch scene setup other_cells others → (cells ≡ other_cells) × (frames ≡ others)
much-same scene setup cells frames other_cells others one other =
    let needed = needed-unique setup (all_animations scene) one.needed other.needed one.is_needed other.is_needed in
    let same : frames ≡ others = omega (arith, needed, one.frames_are, other.frames_are) in
    let work : IsWork scene setup frames other_cells = subst (λ (n : ℕ). IsWork scene setup n other_cells) (sym same) other.work in
    let cells_are = cells-same scene setup frames one.work.xs one.work.ys work.xs work.ys one.work.cuts work.cuts in
    (omega (arith, cells_are, one.work.cells_are, work.cells_are), same)

-- one witness, and one enclosure
sure-place : (scene : Scene) (setup : Setup) (start other_start : ℕ) (x y other_x other_y : ℤ) → start ≡ other_start
    → IsSureMost scene setup start x y → IsSureMost scene setup other_start other_x other_y → (x ≡ other_x) × (y ≡ other_y)
sure-place scene setup start other_start x y other_x other_y same one other =
    places-same (IsLooseRunIn own scene setup start) (λ run. IsSurelyFlagged own (tints_of scene run) setup start) setup x y other_x other_y
    (loose_run-met own scene setup start) one
    (subst (λ (s : ℕ). IsSureMost scene setup s other_x other_y) (sym same) other)

possible-place : (scene : Scene) (setup : Setup) (start other_start : ℕ) (x y other_x other_y : ℤ) → start ≡ other_start
    → IsPossibleMost scene setup start x y → IsPossibleMost scene setup other_start other_x other_y → (x ≡ other_x) × (y ≡ other_y)
possible-place scene setup start other_start x y other_x other_y same one other =
    places-same (IsLooseRunIn own scene setup start) (λ run. IsPossiblyFlagged own (tints_of scene run) setup start) setup x y other_x other_y
    (loose_run-met own scene setup start) one
    (subst (λ (s : ℕ). IsPossibleMost scene setup s other_x other_y) (sym same) other)

abbrev AreCounted : Scene → Setup → ℕ → ℤ → ℤ → ℕ → Type 0
AreCounted scene setup start x y count =
    (run : LooseRun) → IsLooseRunIn own scene setup start run
    → CountsFlagged (IsSurelyFlagged own (tints_of scene run) setup start) setup x y count

sure-count : (scene : Scene) (setup : Setup) (start other_start : ℕ) (x y other_x other_y : ℤ) (count others : ℕ) → start ≡ other_start
    → x ≡ other_x → y ≡ other_y → AreCounted scene setup start x y count → AreCounted scene setup other_start other_x other_y others → count ≡ others
sure-count scene setup start other_start x y other_x other_y count others same across down one other =
    counts-same (IsLooseRunIn own scene setup start) (λ run. IsSurelyFlagged own (tints_of scene run) setup start) setup x y count others
    (loose_run-met own scene setup start) one
    (subst (λ (s : ℕ). AreCounted scene setup s x y others) (sym same)
    (subst (λ (v : ℤ). AreCounted scene setup other_start v y others) (sym across)
    (subst (λ (v : ℤ). AreCounted scene setup other_start other_x v others) (sym down) other)))

fails-same : (scene : Scene) (setup : Setup) (w other : Witness) → IsFail scene setup w → IsFail scene setup other → TellSame w other
fails-same scene setup w other one two =
    let start = start-unique (IsSurelyBad own scene setup) one.needed two.needed w.start other.start w.x w.y other.x other.y one.first two.first in
    let place = sure-place scene setup w.start other.start w.x w.y other.x other.y start one.most two.most in
    record {
      start = start;
      x = place.0;
      y = place.1;
      area = sure-count scene setup w.start other.start w.x w.y other.x other.y w.area other.area start place.0 place.1 one.counts two.counts;
    }

encloses-same : (scene : Scene) (setup : Setup) (start other_start : ℕ) (x y other_x other_y : ℤ) → IsEnclosed scene setup start x y
    → IsEnclosed scene setup other_start other_x other_y → (start ≡ other_start) × (x ≡ other_x) × (y ≡ other_y)
encloses-same scene setup start other_start x y other_x other_y one other =
    let same = start-unique (IsPossiblyBad own scene setup) one.needed other.needed start other_start x y other_x other_y one.first other.first in
    let place = possible-place scene setup start other_start x y other_x other_y same one.most other.most in
    (same, place.0, place.1)

-- what excludes what
bounds-beyond : (scene : Scene) (setup : Setup) (needed : ℕ) → IsWithinBounds scene setup needed → NeedsMore setup (all_animations scene) → ⊥
bounds-beyond scene setup needed bounds more =
    few-more setup (all_animations scene) needed bounds.is_needed bounds.few more

work-beyond : (scene : Scene) (setup : Setup) (cells frames : ℕ) → IsPastWork scene setup cells frames
    → NeedsMore setup (all_animations scene) → ⊥
work-beyond scene setup cells frames work more =
    few-more setup (all_animations scene) work.needed work.is_needed work.few more

-- a page that is judged region by region passes with one number of frames, and else stays undecided
apart-same : (scene : Scene) (setup : Setup) (frames others : ℕ) → IsPassApart scene setup frames → IsPassApart scene setup others
    → frames ≡ others
apart-same scene setup frames others one other = one-parting.one scene setup frames others one.apart other.apart

apart-past : (scene : Scene) (setup : Setup) (frames : ℕ) → IsPassApart scene setup frames → IsPastFrames scene setup → ⊥
apart-past scene setup frames one past = one-parting.excluded scene setup frames one.apart past.not_apart

-- a pass, whichever, has no window that is surely or possibly bad, and is safe
none_surely-by : (scene : Scene) (setup : Setup) (frames : ℕ) (apart : Bool) → IsPassBy scene setup frames apart
    → NoneEver (IsSurelyBad own scene setup)
none_surely-by scene setup frames false pass = pass.none_surely
none_surely-by scene setup frames true pass = pass.for_ever.none_surely

none_possibly-by : (scene : Scene) (setup : Setup) (frames : ℕ) (apart : Bool) → IsPassBy scene setup frames apart
    → NoneEver (IsPossiblyBad own scene setup)
none_possibly-by scene setup frames false pass = pass.none_possibly
none_possibly-by scene setup frames true pass = pass.for_ever.none_possibly

safe-by : (scene : Scene) (setup : Setup) (frames : ℕ) (apart : Bool) → IsPassBy scene setup frames apart → IsSafeScene scene setup
safe-by scene setup frames false pass = pass.safe
safe-by scene setup frames true pass = pass.for_ever.safe

-- of two passes both are judged alike
passes-same : (scene : Scene) (setup : Setup) (frames others : ℕ) (apart also : Bool) → IsPassBy scene setup frames apart
    → IsPassBy scene setup others also → (frames ≡ others) × (apart ≡ also)
passes-same scene setup frames others false false one other =
    (needed-unique setup (all_animations scene) frames others one.bounds.is_needed other.bounds.is_needed, refl)
passes-same scene setup frames others false true one other = absurd (bounds-beyond scene setup frames one.bounds other.beyond)
passes-same scene setup frames others true false one other = absurd (bounds-beyond scene setup others other.bounds one.beyond)
passes-same scene setup frames others true true one other = (apart-same scene setup frames others one other, refl)

pass-past : (scene : Scene) (setup : Setup) (frames : ℕ) (apart : Bool) → IsPassBy scene setup frames apart → IsPastFrames scene setup → ⊥
pass-past scene setup frames false pass past = bounds-beyond scene setup frames pass.bounds past.beyond
pass-past scene setup frames true pass past = apart-past scene setup frames pass past

pass-work : (scene : Scene) (setup : Setup) (frames cells others : ℕ) (apart : Bool) → IsPassBy scene setup frames apart
    → IsPastWork scene setup cells others → ⊥
pass-work scene setup frames cells others false pass work = bounds-much scene setup frames cells others pass.bounds work
pass-work scene setup frames cells others true pass work = work-beyond scene setup cells others work pass.beyond

pass-fail : (scene : Scene) (setup : Setup) (frames : ℕ) (apart : Bool) (w : Witness) → IsPassBy scene setup frames apart
    → IsFail scene setup w → ⊥
pass-fail scene setup frames apart w pass fail = none_surely-by scene setup frames apart pass w.start w.x w.y fail.first.bad

pass-enclosed : (scene : Scene) (setup : Setup) (frames start : ℕ) (apart : Bool) (x y : ℤ) → IsPassBy scene setup frames apart
    → IsEnclosed scene setup start x y → ⊥
pass-enclosed scene setup frames start apart x y pass enclosed = none_possibly-by scene setup frames apart pass start x y enclosed.first.bad

fail-enclosed : (scene : Scene) (setup : Setup) (w : Witness) (start : ℕ) (x y : ℤ) → IsFail scene setup w → IsEnclosed scene setup start x y → ⊥
fail-enclosed scene setup w start x y fail enclosed = enclosed.none_surely w.start w.x w.y fail.first.bad

pub one-answer : OneAnswer
one-answer scene setup (Pass frames apart) (Pass others also) one other = passes-same scene setup frames others apart also one other
one-answer scene setup (Pass frames apart) (Fail w) one other = pass-fail scene setup frames apart w one other
one-answer scene setup (Pass frames apart) Frames one other = pass-past scene setup frames apart one other
one-answer scene setup (Pass frames apart) (Work cells others) one other = pass-work scene setup frames cells others apart one other
one-answer scene setup (Pass frames apart) (Enclosure start x y) one other = pass-enclosed scene setup frames start apart x y one other
one-answer scene setup (Fail w) (Pass frames apart) one other = pass-fail scene setup frames apart w other one
one-answer scene setup (Fail w) (Fail v) one other = fails-same scene setup w v one other
one-answer scene setup (Fail w) Frames one other = bounds-beyond scene setup one.needed one.bounds other.beyond
one-answer scene setup (Fail w) (Work cells frames) one other = bounds-much scene setup one.needed cells frames one.bounds other
one-answer scene setup (Fail w) (Enclosure start x y) one other = fail-enclosed scene setup w start x y one other
one-answer scene setup Frames (Pass frames apart) one other = pass-past scene setup frames apart other one
one-answer scene setup Frames (Fail w) one other = bounds-beyond scene setup other.needed other.bounds one.beyond
one-answer scene setup Frames Frames one other = tt
one-answer scene setup Frames (Work cells frames) one other = work-beyond scene setup cells frames other one.beyond
one-answer scene setup Frames (Enclosure start x y) one other = bounds-beyond scene setup other.needed other.bounds one.beyond
one-answer scene setup (Work cells frames) (Pass others apart) one other = pass-work scene setup others cells frames apart other one
one-answer scene setup (Work cells frames) (Fail w) one other = bounds-much scene setup other.needed cells frames other.bounds one
one-answer scene setup (Work cells frames) Frames one other = work-beyond scene setup cells frames one other.beyond
one-answer scene setup (Work cells frames) (Work other_cells others) one other = much-same scene setup cells frames other_cells others one other
one-answer scene setup (Work cells frames) (Enclosure start x y) one other = bounds-much scene setup other.needed cells frames other.bounds one
one-answer scene setup (Enclosure start x y) (Pass frames apart) one other = pass-enclosed scene setup frames start apart x y other one
one-answer scene setup (Enclosure start x y) (Fail w) one other = fail-enclosed scene setup w start x y other one
one-answer scene setup (Enclosure start x y) Frames one other = bounds-beyond scene setup one.needed one.bounds other.beyond
one-answer scene setup (Enclosure start x y) (Work cells frames) one other = bounds-much scene setup one.needed cells frames one.bounds other
one-answer scene setup (Enclosure start x y) (Enclosure other_start other_x other_y) one other =
    encloses-same scene setup start other_start x y other_x other_y one other

-- a window that is bad or possibly bad, wherever it starts, excludes a pass
no-pass : (scene : Scene) (setup : Setup) (judgement : Judgement) → IsJudgement scene setup judgement
    → ((frames : ℕ) (apart : Bool) → IsPassBy scene setup frames apart → ⊥) → IsNoPass judgement
no-pass scene setup (Pass frames apart) is never = never frames apart is
no-pass scene setup (Fail w) is never = tt
no-pass scene setup Frames is never = tt
no-pass scene setup (Work cells frames) is never = tt
no-pass scene setup (Enclosure start x y) is never = tt

-- and one that is surely bad excludes an enclosure too
neither : (scene : Scene) (setup : Setup) (judgement : Judgement) (start : ℕ) (x y : ℤ) → IsJudgement scene setup judgement
    → IsSurelyBad own scene setup start x y → IsNeitherPassNorEnclosure judgement
neither scene setup (Pass frames apart) start x y is surely = none_surely-by scene setup frames apart is start x y surely
neither scene setup (Fail w) start x y is surely = tt
neither scene setup Frames start x y is surely = tt
neither scene setup (Work cells frames) start x y is surely = tt
neither scene setup (Enclosure other across down) start x y is surely = is.none_surely start x y surely

pub one-judgement : OneJudgement
one-judgement = record {
  same = one-answer;
  bad = λ scene setup judgement start x y is bad. no-pass scene setup judgement is
      (λ frames apart pass. run-met scene setup start (λ run runs. safe-by scene setup frames apart pass start x y run runs (bad run runs)));
  possibly = λ scene setup judgement start x y is possibly. no-pass scene setup judgement is
      (λ frames apart pass. none_possibly-by scene setup frames apart pass start x y possibly);
  surely = neither;
}
