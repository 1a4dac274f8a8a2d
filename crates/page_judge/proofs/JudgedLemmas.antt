-- What the verdict of a sweep says of its scene.
use Rattle.std.proofs.Common.{◌≡◌, ℕ, ℤ, Bool, true, false, subst, sym}
use Rattle.page_model.specs.declared.scene.Scene.{Scene}
use Rattle.page_model.specs.declared.witness.BadWindow.{BadWindow}
use Rattle.page_model.specs.declared.witness.Witness.{Witness}
use Rattle.page_model.specs.Enclosure.{LooseRun, own}
use Rattle.page_model.specs.TintOf.{IsLooseRunIn, tints_of}
use Rattle.page_model.specs.Window.{IsSurelyBad, IsSurelyFlagged}
use Rattle.enclosure_laws.proofs.CauseLemmas.{open-widely}
use Rattle.enclosure_laws.proofs.ExactPageLemmas.{exact_pages-decided}
use Rattle.witness_laws.proofs.WitnessLemmas.{accepted_is_bad}
use Rattle.witness_make.specs.Made.{IsMade}
use Rattle.sweep.specs.declared.types.Reason.{Reason}
use Rattle.sweep.specs.declared.types.Reason.TheVariants as reason
use Rattle.sweep.specs.declared.types.Verdict.TheVariants.{Pass, Fail, Undecided}
use Rattle.sweep.specs.Verdicts as verdict
use Rattle.sweep.specs.Marks.{CountsFlagged}
use Rattle.sweep.specs.Verdicts.{IsFirstBad, IsReady, IsReadyBy, IsReadyWhole, IsSureMost, Judged}
use Rattle.page_judge.specs.Judgement.{IsFail, IsJudgement, IsPass, IsPassBy, IsWithinBounds, judgement_for}

-- what a sweep of a whole page opens with
pub bounds-of : (judged : Judged) → IsReadyWhole judged → IsWithinBounds judged.scene judged.setup judged.needed
bounds-of judged ready =
    record { is_needed = ready.is_needed; few = ready.few; cuts = judged.cuts; cut = ready.cut }

-- what holds at a place holds at the witness's, which is the same
at-witness : (P : ℕ → ℤ → ℤ → Type 0) (start : ℕ) (x y : ℤ) (w : Witness) → w.start ≡ start → w.x ≡ x → w.y ≡ y → P start x y
    → P w.start w.x w.y
at-witness P start x y w start_is x_is y_is here =
    subst (λ (s : ℕ). P s w.x w.y) (sym start_is)
    (subst (λ (v : ℤ). P start v w.y) (sym x_is) (subst (λ (v : ℤ). P start x v) (sym y_is) here))

-- the witness that is made
pub fail-of : (judged : Judged) (start : ℕ) (x y : ℤ) (w : Witness) → IsReady judged → IsReadyWhole judged
    → verdict.IsFail judged.scene judged.setup judged.needed start x y
    → IsMade judged.scene judged.setup judged.cuts start x y w → IsFail judged.scene judged.setup w
fail-of judged start x y w ready whole failed made = record {
  needed = judged.needed;
  bounds = bounds-of judged whole;
  first = at-witness (IsFirstBad (IsSurelyBad own judged.scene judged.setup) judged.needed) start x y w made.start_is made.x_is made.y_is failed.first;
  most = at-witness (IsSureMost judged.scene judged.setup) start x y w made.start_is made.x_is made.y_is failed.most;
  counts = at-witness (λ (s : ℕ) (a b : ℤ). (run : LooseRun) → IsLooseRunIn own judged.scene judged.setup s run
      → CountsFlagged (IsSurelyFlagged own (tints_of judged.scene run) judged.setup s) judged.setup a b w.area)
      start x y w made.start_is made.x_is made.y_is made.counts;
  accepted = made.witness;
  form = made.form;
  bad = accepted_is_bad judged.scene judged.setup w ready.valid made.witness;
}

-- where a sweep fails its scene, it is one of the whole page
pub failed-whole : (judged : Judged) (by : Bool) (bad : BadWindow) → IsReadyBy by judged
    → verdict.IsVerdictBy judged.scene judged.setup judged.needed by (Fail bad)
    → IsReadyWhole judged × verdict.IsFail judged.scene judged.setup judged.needed bad.start bad.x bad.y
failed-whole judged false bad whole told = (whole, told)
failed-whole judged true bad ready told = absurd told

-- a pass, of the whole page or region by region
whole-pass : (judged : Judged) (frames : ℕ) → IsReadyWhole judged
    → verdict.IsPass judged.scene judged.setup judged.needed frames → IsPass judged.scene judged.setup frames
whole-pass judged frames whole told = record {
  bounds = subst (IsWithinBounds judged.scene judged.setup) (sym told.frames_are) (bounds-of judged whole);
  none_surely = told.none_surely;
  none_possibly = told.none_possibly;
  safe = told.safe;
}

pub pass-of : (judged : Judged) (by apart : Bool) (frames : ℕ) → IsReadyBy by judged
    → verdict.IsVerdictBy judged.scene judged.setup judged.needed by (Pass frames apart)
    → IsPassBy judged.scene judged.setup frames apart
pass-of judged false apart frames whole told =
    subst (IsPassBy judged.scene judged.setup frames) (sym told.1) (whole-pass judged frames whole told.0)
pass-of judged true apart frames ready told =
    subst (IsPassBy judged.scene judged.setup frames) (sym told.1) told.0.passes

-- a reason, which is an enclosure
enclosed-of : (judged : Judged) (why : Reason) → IsReady judged → IsReadyWhole judged
    → verdict.IsVerdict judged.scene judged.setup judged.needed (Undecided why) → IsJudgement judged.scene judged.setup (judgement_for why)
enclosed-of judged reason.Frames ready whole told = absurd told
enclosed-of judged (reason.Work cells frames) ready whole told = absurd told
enclosed-of judged (reason.Enclosure start x y) ready whole told = record {
  needed = judged.needed;
  bounds = bounds-of judged whole;
  none_surely = told.none_surely;
  first = told.first;
  most = told.most;
  widely = open-widely judged.scene judged.setup start x y ready.valid
      (record { possibly = told.first.bad; none_surely = told.none_surely });
  inexact = λ page. told.none_surely start x y
      (exact_pages-decided own judged.scene judged.setup start x y ready.valid page told.first.bad);
}

pub undecided-of : (judged : Judged) (by : Bool) (why : Reason) → IsReady judged → IsReadyBy by judged
    → verdict.IsVerdictBy judged.scene judged.setup judged.needed by (Undecided why)
    → IsJudgement judged.scene judged.setup (judgement_for why)
undecided-of judged false why ready whole told = enclosed-of judged why ready whole told
undecided-of judged true why ready by told = absurd told
