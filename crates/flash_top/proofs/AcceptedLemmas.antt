-- A witness is accepted, or has faults, and not both; and the line that tells a failing page is accepted.
use Rattle.std.proofs.Common.{◌≡◌, ◌∙◌, ◌⊎◌, ℕ, List, inl, inr, refl, sym, subst, arith}
use Rattle.page_model.specs.Viewing.{Viewing}
use Rattle.page_model.specs.declared.scene.Scene.{Scene}
use Rattle.page_model.specs.declared.witness.Witness.{Witness}
use Rattle.witness_checks.specs.Faults.{IsFirstFault, condition_of}
use Rattle.witness_checks.specs.declared.fault.WitnessFault.{WitnessFault}
use Rattle.witness_checks.proofs.JudgementLemmas.{fault-refutes}
use Rattle.witness_checks.proofs.OneLemmas.{one-condition}
use Rattle.witness_text.proofs.ReadLemmas.{one_witness}
use Rattle.flash_top.specs.SameAnswers.{AreEqual, OneVerified, TellFaults}
use Rattle.flash_top.specs.Verdicts.{HasWitness, IsGoodWitness, IsNoWitness, IsVerdict, IsVerified, IsWitnessFile}
use Rattle.flash_top.specs.declared.outcome.Outcome.{Outcome}
use Rattle.flash_top.specs.declared.outcome.Outcome.TheVariants.{WordsRefused, ReadFault, Refused, Pass, Fail, TooManyFrames, TooMuchWork, Enclosed, NoWitness, Unaccepted, Accepted, Painted, Lit, Shown, NoMemory}
use Rattle.flash_top.proofs.AnswerLemmas.{HasCause, causes_agree}

-- what an outcome tells of a scene and the bytes of a witness
record TellsNone (text : List ℕ) (outcome : Outcome) : Type 0 where
  pub none : IsNoWitness text
  pub told_is : outcome ≡ NoWitness

record TellsFault (setup : Viewing) (scene : Scene) (text : List ℕ) (outcome : Outcome) : Type 0 where
  pub fault : WitnessFault
  pub has : HasWitness text (λ witness. IsFirstFault scene setup witness fault)
  pub told_is : outcome ≡ Unaccepted fault

record TellsGood (setup : Viewing) (scene : Scene) (text : List ℕ) (outcome : Outcome) : Type 0 where
  pub start : ℕ
  pub area : ℕ
  pub has : HasWitness text (λ witness. IsGoodWitness scene setup witness start area)
  pub told_is : outcome ≡ Accepted start area

abbrev TellsTest : Viewing → List ℕ → Scene → Outcome → Type 0
TellsTest setup text scene outcome =
    TellsNone text outcome ⊎ (TellsFault setup scene text outcome ⊎ TellsGood setup scene text outcome)

verified_cause : (setup : Viewing) (bytes text : List ℕ) (outcome : Outcome) → IsVerified setup bytes text outcome → HasCause bytes (TellsTest setup text) outcome
verified_cause setup bytes text WordsRefused h = absurd h
verified_cause setup bytes text ReadFault h = absurd h
verified_cause setup bytes text (Refused refusal) h = inr (inl (record { refusal = refusal; cause = h; told = refl }))
verified_cause setup bytes text (Pass frames apart) h = absurd h
verified_cause setup bytes text (Fail witness) h = absurd h
verified_cause setup bytes text TooManyFrames h = absurd h
verified_cause setup bytes text (TooMuchWork cells frames) h = absurd h
verified_cause setup bytes text (Enclosed start x y) h = absurd h
verified_cause setup bytes text NoWitness h = inr (inr (record { scene = h.scene; loaded = h.loaded; tells = inl (record { none = h.holds; told_is = refl }) }))
verified_cause setup bytes text (Unaccepted fault) h = inr (inr (record { scene = h.scene; loaded = h.loaded; tells = inr (inl (record { fault = fault; has = h.holds; told_is = refl })) }))
verified_cause setup bytes text (Accepted start area) h =
    inr (inr (record { scene = h.scene; loaded = h.loaded; tells = inr (inr (record { start = start; area = area; has = h.holds; told_is = refl })) }))
verified_cause setup bytes text (Painted tint) h = absurd h
verified_cause setup bytes text (Lit light) h = absurd h
verified_cause setup bytes text (Shown number judgement) h = absurd h
verified_cause setup bytes text NoMemory h = inl refl

-- bytes that are a witness aren't none
witness_or_none : (text : List ℕ) (witness : Witness) → IsNoWitness text → IsWitnessFile text witness → ⊥
witness_or_none text witness (inl long) file = let short = file.short in omega (arith, long, short)
witness_or_none text witness (inr none) file = none witness file.is_text

-- a witness that is accepted has no fault
good_or_faulty : (setup : Viewing) (scene : Scene) (text : List ℕ) (fault : WitnessFault) (start area : ℕ) → HasWitness text (λ witness. IsFirstFault scene setup witness fault)
    → HasWitness text (λ witness. IsGoodWitness scene setup witness start area) → ⊥
good_or_faulty setup scene text fault start area faulty good =
    let same : faulty.witness ≡ good.witness = one_witness text faulty.witness good.witness faulty.is_file.is_text good.is_file.is_text in
    let first = subst (λ (witness : Witness). IsFirstFault scene setup witness fault) same faulty.holds in
    fault-refutes scene setup good.witness fault first good.holds.accepted

-- one that isn't has first faults of one condition
faulty_once : (setup : Viewing) (scene : Scene) (text : List ℕ) (fault other : WitnessFault) → HasWitness text (λ witness. IsFirstFault scene setup witness fault)
    → HasWitness text (λ witness. IsFirstFault scene setup witness other) → condition_of fault ≡ condition_of other
faulty_once setup scene text fault other is also =
    let same : is.witness ≡ also.witness = one_witness text is.witness also.witness is.is_file.is_text also.is_file.is_text in
    one-condition scene setup also.witness fault other (subst (λ (witness : Witness). IsFirstFault scene setup witness fault) same is.holds) also.holds

-- and one that is tells one start and one area
good_once : (setup : Viewing) (scene : Scene) (text : List ℕ) (start area other_start other_area : ℕ) → HasWitness text (λ witness. IsGoodWitness scene setup witness start area)
    → HasWitness text (λ witness. IsGoodWitness scene setup witness other_start other_area) → Accepted other_start other_area ≡ Accepted start area
good_once setup scene text start area other_start other_area is also =
    let same : is.witness ≡ also.witness = one_witness text is.witness also.witness is.is_file.is_text also.is_file.is_text in
    let start_is = is.holds.start_is in
    let area_is = is.holds.area_is in
    let other_start_is = also.holds.start_is in
    let other_area_is = also.holds.area_is in
    cc

same_test : (setup : Viewing) (text : List ℕ) (one other : Outcome) (scene : Scene) → TellsTest setup text scene one → TellsTest setup text scene other
    → AreEqual one other ⊎ TellFaults one other
same_test setup text one other scene (inl is) (inl also) = inl (inr (inr (also.told_is ∙ sym is.told_is)))
same_test setup text one other scene (inl is) (inr (inl also)) = absurd (witness_or_none text also.has.witness is.none also.has.is_file)
same_test setup text one other scene (inl is) (inr (inr also)) = absurd (witness_or_none text also.has.witness is.none also.has.is_file)
same_test setup text one other scene (inr (inl is)) (inl also) = absurd (witness_or_none text is.has.witness also.none is.has.is_file)
same_test setup text one other scene (inr (inl is)) (inr (inl also)) =
    inr (record {
      first = is.fault;
      second = also.fault;
      same = faulty_once setup scene text is.fault also.fault is.has also.has;
      first_is = is.told_is;
      second_is = also.told_is;
    })
same_test setup text one other scene (inr (inl is)) (inr (inr also)) = absurd (good_or_faulty setup scene text is.fault also.start also.area is.has also.has)
same_test setup text one other scene (inr (inr is)) (inl also) = absurd (witness_or_none text is.has.witness also.none is.has.is_file)
same_test setup text one other scene (inr (inr is)) (inr (inl also)) = absurd (good_or_faulty setup scene text also.fault is.start is.area also.has is.has)
same_test setup text one other scene (inr (inr is)) (inr (inr also)) =
    inl (inr (inr (also.told_is ∙ good_once setup scene text is.start is.area also.start also.area is.has also.has ∙ sym is.told_is)))

pub one_verified : OneVerified
one_verified setup bytes text one other is also =
    causes_agree bytes (TellsTest setup text) one other (TellFaults one other) (verified_cause setup bytes text one is) (verified_cause setup bytes text other also)
    (same_test setup text one other)

-- an outcome that agrees with an accepted witness is that, or want of memory
accepted_agrees : (start area : ℕ) (outcome : Outcome) → AreEqual (Accepted start area) outcome ⊎ TellFaults (Accepted start area) outcome
    → (outcome ≡ Accepted start area) ⊎ (outcome ≡ NoMemory)
accepted_agrees start area outcome (inl (inl want)) = absurd (cc)
accepted_agrees start area outcome (inl (inr (inl want))) = inr want
accepted_agrees start area outcome (inl (inr (inr same))) = inl same
accepted_agrees start area outcome (inr faults) = absurd (let first = faults.first_is in cc)

pub accepted_with : (setup : Viewing) (bytes text : List ℕ) (witness : Witness) (outcome : Outcome) → IsVerdict setup bytes (Fail witness)
    → IsWitnessFile text witness → IsVerified setup bytes text outcome → (outcome ≡ Accepted witness.start witness.area) ⊎ (outcome ≡ NoMemory)
accepted_with setup bytes text witness outcome fails file is =
    let fail = fails.holds in
    let good : IsVerified setup bytes text (Accepted witness.start witness.area) = record {
      scene = fails.scene;
      loaded = fails.loaded;
      holds = record {
        witness = witness;
        is_file = file;
        holds = record { accepted = fail.accepted; bad = fail.bad; start_is = refl; area_is = refl };
      };
    } in
    accepted_agrees witness.start witness.area outcome
    (one_verified setup bytes text (Accepted witness.start witness.area) outcome good is)
