-- The answers of each command exclude each other: bytes are refused for one cause, or are the page of one scene, and that comes to one answer.
use Rattle.std.proofs.Common.{◌≡◌, ◌∙◌, ◌⊎◌, ℕ, List, inl, inr, refl, sym, ap, subst}
use Rattle.page_model.specs.Viewing.{Viewing}
use Rattle.page_model.specs.declared.colour.Tint.{Tint}
use Rattle.page_model.specs.declared.scene.Scene.{Scene}
use Rattle.page_judge.specs.Judgement.{IsJudgement}
use Rattle.page_judge.specs.declared.types.Judgement.{Judgement}
use Rattle.page_judge.specs.declared.types.Judgement.TheVariants.{Pass as Passed, Fail as Failed, Frames, Work, Enclosure}
use Rattle.page_judge.proofs.OneLemmas.{one-answer}
use Rattle.flash_top.specs.Refusals.{IsLoadedAs}
use Rattle.flash_top.specs.SameAnswers.{AreEqual, OneTint, OneVerdict, TellSame}
use Rattle.flash_top.specs.Steps.{IsRefusedAs, told}
use Rattle.flash_top.specs.Verdicts.{IsPainted, IsTinted, IsVerdict}
use Rattle.flash_words.specs.Words.{Spot}
use Rattle.flash_top.specs.declared.outcome.Outcome.{Outcome}
use Rattle.flash_top.specs.declared.outcome.Outcome.TheVariants.{WordsRefused, ReadFault, Refused, Pass, Fail, TooManyFrames, TooMuchWork, Enclosed, NoWitness, Unaccepted, Accepted, Painted, Lit, Shown, NoMemory}
use Rattle.flash_top.proofs.RefusalLemmas.{loaded_once, one_cause, refused_or_loaded}

-- what an outcome tells of bytes: want of memory, a refusal, or something of their scene
pub record TellsOf (bytes : List ℕ) (Told : Scene → Outcome → Type 0) (outcome : Outcome) : Type 0 where
  pub scene : Scene
  pub loaded : IsLoadedAs bytes scene
  pub tells : Told scene outcome

abbrev pub HasCause : List ℕ → (Scene → Outcome → Type 0) → Outcome → Type 0
HasCause bytes Told outcome = (outcome ≡ NoMemory) ⊎ (IsRefusedAs bytes outcome ⊎ TellsOf bytes Told outcome)

-- two outcomes with causes agree where those of one scene do
pub causes_agree : (bytes : List ℕ) (Told : Scene → Outcome → Type 0) (one other : Outcome) (Agree : Type 0) → HasCause bytes Told one → HasCause bytes Told other
    → ((scene : Scene) → Told scene one → Told scene other → AreEqual one other ⊎ Agree) → AreEqual one other ⊎ Agree
causes_agree bytes Told one other Agree (inl want) also same = inl (inl want)
causes_agree bytes Told one other Agree (inr is) (inl want) same = inl (inr (inl want))
causes_agree bytes Told one other Agree (inr (inl is)) (inr (inl also)) same =
    let cause = one_cause bytes is.refusal also.refusal is.cause also.cause in
    inl (inr (inr (also.told ∙ ap Refused cause ∙ sym is.told)))
causes_agree bytes Told one other Agree (inr (inl is)) (inr (inr also)) same = absurd (refused_or_loaded bytes is.refusal also.scene is.cause also.loaded)
causes_agree bytes Told one other Agree (inr (inr is)) (inr (inl also)) same = absurd (refused_or_loaded bytes also.refusal is.scene also.cause is.loaded)
causes_agree bytes Told one other Agree (inr (inr is)) (inr (inr also)) same =
    same is.scene is.tells (subst (λ (scene : Scene). Told scene other) (loaded_once bytes is.scene also.scene is.loaded also.loaded) also.tells)

-- ---- check

pub record TellsJudgement (setup : Viewing) (scene : Scene) (outcome : Outcome) : Type 0 where
  pub judgement : Judgement
  pub judged : IsJudgement scene setup judgement
  pub told_is : outcome ≡ told judgement

pub verdict_cause : (setup : Viewing) (bytes : List ℕ) (outcome : Outcome) → IsVerdict setup bytes outcome → HasCause bytes (TellsJudgement setup) outcome
verdict_cause setup bytes WordsRefused h = absurd h
verdict_cause setup bytes ReadFault h = absurd h
verdict_cause setup bytes (Refused refusal) h = inr (inl (record { refusal = refusal; cause = h; told = refl }))
verdict_cause setup bytes (Pass frames apart) h = inr (inr (record { scene = h.scene; loaded = h.loaded; tells = record { judgement = Passed frames apart; judged = h.holds; told_is = refl } }))
verdict_cause setup bytes (Fail witness) h = inr (inr (record { scene = h.scene; loaded = h.loaded; tells = record { judgement = Failed witness; judged = h.holds; told_is = refl } }))
verdict_cause setup bytes TooManyFrames h = inr (inr (record { scene = h.scene; loaded = h.loaded; tells = record { judgement = Frames; judged = h.holds; told_is = refl } }))
verdict_cause setup bytes (TooMuchWork cells frames) h = inr (inr (record { scene = h.scene; loaded = h.loaded; tells = record { judgement = Work cells frames; judged = h.holds; told_is = refl } }))
verdict_cause setup bytes (Enclosed start x y) h = inr (inr (record { scene = h.scene; loaded = h.loaded; tells = record { judgement = Enclosure start x y; judged = h.holds; told_is = refl } }))
verdict_cause setup bytes NoWitness h = absurd h
verdict_cause setup bytes (Unaccepted fault) h = absurd h
verdict_cause setup bytes (Accepted start area) h = absurd h
verdict_cause setup bytes (Painted tint) h = absurd h
verdict_cause setup bytes (Lit light) h = absurd h
verdict_cause setup bytes (Shown number judgement) h = absurd h
verdict_cause setup bytes NoMemory h = inl refl

pub one_verdict : OneVerdict
one_verdict setup bytes one other is also =
    causes_agree bytes (TellsJudgement setup) one other (TellSame one other) (verdict_cause setup bytes one is) (verdict_cause setup bytes other also)
    (λ scene first second. inr (record {
      first = first.judgement;
      second = second.judgement;
      same = one-answer scene setup first.judgement second.judgement first.judged second.judged;
      first_is = first.told_is;
      second_is = second.told_is;
    }))

-- ---- tint

-- it tells a tint by states of the own kind, whichever
record TellsTint (setup : Viewing) (spot : Spot) (scene : Scene) (outcome : Outcome) : Type 0 where
  pub tint : Tint
  pub painted : IsPainted scene setup spot tint
  pub told_is : outcome ≡ Painted tint

tint_cause : (setup : Viewing) (spot : Spot) (bytes : List ℕ) (outcome : Outcome) → IsTinted setup spot bytes outcome → HasCause bytes (TellsTint setup spot) outcome
tint_cause setup spot bytes WordsRefused h = absurd h
tint_cause setup spot bytes ReadFault h = absurd h
tint_cause setup spot bytes (Refused refusal) h = inr (inl (record { refusal = refusal; cause = h; told = refl }))
tint_cause setup spot bytes (Pass frames apart) h = absurd h
tint_cause setup spot bytes (Fail witness) h = absurd h
tint_cause setup spot bytes TooManyFrames h = absurd h
tint_cause setup spot bytes (TooMuchWork cells frames) h = absurd h
tint_cause setup spot bytes (Enclosed start x y) h = absurd h
tint_cause setup spot bytes NoWitness h = absurd h
tint_cause setup spot bytes (Unaccepted fault) h = absurd h
tint_cause setup spot bytes (Accepted start area) h = absurd h
tint_cause setup spot bytes (Painted tint) h =
    inr (inr (record { scene = h.scene; loaded = h.loaded; tells = record { tint = tint; painted = h.holds; told_is = refl } }))
tint_cause setup spot bytes (Lit light) h = absurd h
tint_cause setup spot bytes (Shown number judgement) h = absurd h
tint_cause setup spot bytes NoMemory h = inl refl

-- two of them are equal
same_tint : (setup : Viewing) (spot : Spot) (one other : Outcome) (scene : Scene) → TellsTint setup spot scene one → TellsTint setup spot scene other → AreEqual one other ⊎ ⊥
same_tint setup spot one other scene is also =
    let states = is.painted.states in
    let own_states = is.painted.own_states in
    let same : also.tint ≡ is.tint = also.painted.is states own_states ∙ sym (is.painted.is states own_states) in
    inl (inr (inr (also.told_is ∙ ap Painted same ∙ sym is.told_is)))

agree : (one other : Outcome) → AreEqual one other ⊎ ⊥ → AreEqual one other
agree one other (inl same) = same
agree one other (inr never) = absurd never

pub one_tint : OneTint
one_tint setup spot bytes one other is also =
    agree one other
    (causes_agree bytes (TellsTint setup spot) one other ⊥ (tint_cause setup spot bytes one is) (tint_cause setup spot bytes other also) (same_tint setup spot one other))
