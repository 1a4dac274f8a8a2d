-- What the page of a number comes to is told in sum, or as it is by `check`, and by one text.
use Rattle.std.proofs.Common.{◌≡◌, ◌∙◌, ◌⊎◌, ℕ, inl, inr, List, ap, refl, subst, sym}
use Rattle.page_gen.specs.GeneratedPage.{generated_page}
use Rattle.page_judge.proofs.OneLemmas.{one-answer}
use Rattle.page_judge.specs.Judgement.{IsJudgement, IsSameAnswer}
use Rattle.page_judge.specs.declared.types.Judgement.{Judgement}
use Rattle.page_judge.specs.declared.types.Judgement.TheVariants.{Pass as Passed, Fail as Failed, Frames, Work, Enclosure}
use Rattle.page_model.specs.Viewing.{Viewing}
use Rattle.page_model.specs.declared.scene.Scene.{Scene}
use Rattle.flash_top.proofs.AnswerLemmas.{HasCause, causes_agree}
use Rattle.flash_top.proofs.VerdictLemmas.{judged_page, judged_verdict}
use Rattle.flash_top.specs.Demos.{IsDemo, IsShown}
use Rattle.flash_top.specs.Refusals.{IsLoadedAs, IsRefusal}
use Rattle.flash_top.specs.SameAnswers.{AreEqual, AreToldAlike, OneDemo}
use Rattle.flash_top.specs.Steps.{IsUnloaded}
use Rattle.flash_top.specs.Texts.{status_of, text_of}
use Rattle.flash_top.specs.declared.outcome.Outcome.{Outcome}
use Rattle.flash_top.specs.declared.outcome.Outcome.TheVariants.{Refused, Shown, NoMemory}

pub unloaded_demo : (setup : Viewing) (number : ℕ) (bytes : List ℕ) (outcome : Outcome) → bytes ≡ generated_page number → IsUnloaded bytes outcome
    → IsDemo setup number outcome
unloaded_demo setup number bytes outcome made (inl want) = subst (IsDemo setup number) (sym want) tt
unloaded_demo setup number bytes outcome made (inr is) =
    subst (IsDemo setup number) (sym is.told) (subst (λ (bytes : List ℕ). IsRefusal bytes is.refusal) made is.cause)

pub judged_demo : (setup : Viewing) (number : ℕ) (scene : Scene) (judgement : Judgement) → IsLoadedAs (generated_page number) scene
    → IsJudgement scene setup judgement → IsDemo setup number (Shown number judgement)
judged_demo setup number scene judgement loaded is =
    record { number_is = refl; verdict = judged_verdict setup (generated_page number) scene judgement loaded is }

-- ---- one text

-- judgements that are the same answer are told alike
told_alike : (number : ℕ) (first second : Judgement) → IsSameAnswer first second → AreToldAlike (Shown number first) (Shown number second)
told_alike number (Passed frames apart) (Passed others also) same = record { text = rw (same.0, same.1) refl; status = refl }
told_alike number (Failed w) (Failed other) same = record { text = rw (same.start, same.x, same.y, same.area) refl; status = refl }
told_alike number Frames Frames same = record { text = refl; status = refl }
told_alike number (Work cells frames) (Work other_cells others) same = record { text = rw (same.0, same.1) refl; status = refl }
told_alike number (Enclosure start x y) (Enclosure other_start other_x other_y) same =
    record { text = rw (same.0, same.1, same.2) refl; status = refl }
told_alike number first second same = absurd same

-- what an outcome tells of the scene of the page
record TellsSum (setup : Viewing) (number : ℕ) (scene : Scene) (outcome : Outcome) : Type 0 where
  pub judgement : Judgement
  pub judged : IsJudgement scene setup judgement
  pub told_is : outcome ≡ Shown number judgement

sum_cause : (setup : Viewing) (number shown : ℕ) (judgement : Judgement) → IsShown setup number shown judgement
    → HasCause (generated_page number) (TellsSum setup number) (Shown shown judgement)
sum_cause setup number shown judgement h =
    let is = judged_page setup (generated_page number) judgement h.verdict in
    inr (inr (record { scene = is.scene; loaded = is.loaded; tells = record { judgement = judgement; judged = is.holds; told_is = rw h.number_is refl } }))

demo_cause : (setup : Viewing) (number : ℕ) (outcome : Outcome) → IsDemo setup number outcome → HasCause (generated_page number) (TellsSum setup number) outcome
demo_cause setup number (Refused refusal) h = inr (inl (record { refusal = refusal; cause = h; told = refl }))
demo_cause setup number (Shown shown judgement) h = sum_cause setup number shown judgement h
demo_cause setup number NoMemory h = inl refl
demo_cause setup number other h = absurd h

sums_alike : (setup : Viewing) (number : ℕ) (one other : Outcome) (scene : Scene) → TellsSum setup number scene one → TellsSum setup number scene other
    → AreEqual one other ⊎ AreToldAlike one other
sums_alike setup number one other scene is also =
    let alike = told_alike number is.judgement also.judgement (one-answer scene setup is.judgement also.judgement is.judged also.judged) in
    inr (record {
      text = ap text_of also.told_is ∙ alike.text ∙ sym (ap text_of is.told_is);
      status = ap status_of also.told_is ∙ alike.status ∙ sym (ap status_of is.told_is);
    })

alike : (one other : Outcome) → AreEqual one other ⊎ AreToldAlike one other → (one ≡ NoMemory) ⊎ ((other ≡ NoMemory) ⊎ AreToldAlike one other)
alike one other (inl (inl want)) = inl want
alike one other (inl (inr (inl want))) = inr (inl want)
alike one other (inl (inr (inr same))) = inr (inr (record { text = ap text_of same; status = ap status_of same }))
alike one other (inr told) = inr (inr told)

pub one_demo : OneDemo
one_demo setup number one other is also =
    alike one other
    (causes_agree (generated_page number) (TellsSum setup number) one other (AreToldAlike one other) (demo_cause setup number one is)
    (demo_cause setup number other also) (sums_alike setup number one other))
