-- What is tested is decided: a fault refutes that the witness is accepted, and where none is found it is accepted and its window bad.
use Rattle.std.proofs.Common.{◌≡◌, ◌∙◌, ℕ, ◌+◌, List, All, Ok, Err, Result, take, arith, inl, inr, refl, sym}
use Rattle.std.specs.Prelude.{OnOk}
use Rattle.page_model.specs.declared.colour.Tint.{Tint}
use Rattle.page_model.specs.declared.scene.Scene.{Scene}
use Rattle.page_model.specs.declared.setup.Setup.{Setup}
use Rattle.page_model.specs.declared.witness.Kind.{Kind}
use Rattle.page_model.specs.declared.witness.Kind.TheVariants.{General, Red}
use Rattle.page_model.specs.declared.witness.Part.{Part}
use Rattle.page_model.specs.declared.witness.Witness.{Witness}
use Rattle.page_model.specs.Change.{IsSureRise, IsSureFall, IsSurelyIntoRed, IsSurelyOutOfRed}
use Rattle.page_model.specs.Colour.{IsBadWindow}
use Rattle.page_model.specs.Enclosure.{LooseRun, own}
use Rattle.page_model.specs.TintOf.{IsLooseRunIn, tints_of}
use Rattle.page_model.specs.ValidScene.{IsValid}
use Rattle.page_model.specs.WitnessConditions.{AlternatesSurely, HasTints, IsWitness, LiesInside, TintsChange}
use Rattle.wide_laws.proofs.LooseLemmas.{loose_run-met}
use Rattle.witness_laws.specs.Acceptance.{IsAccepted}
use Rattle.witness_laws.proofs.WitnessLemmas.{accepted_is_bad, part-has}
use Rattle.witness_checks.specs.declared.fault.WitnessFault.{WitnessFault}
use Rattle.witness_checks.specs.declared.fault.WitnessFault.TheVariants.{OtherSetup, PartOutside, PartsOverlap, WrongArea, SmallArea, FramesOrder, FramesOutside, WrongTint, NotChange}
use Rattle.witness_checks.specs.Faults.{IsFirstFault, IsFirstPart, IsNoChange, IsTinted, IsWrongTint, LiesInWindow, Rises}
use Rattle.witness_checks.specs.Judgement.{IsTested}
use Rattle.witness_checks.specs.Turns.{Changes, IsFirstStop}
use Rattle.witness_checks.proofs.TurnLemmas.{alternates-front}

-- all nine conditions hold by any tints of the own kind
pub accepted-from : (scene : Scene) (setup : Setup) (w : Witness) → IsTinted scene setup w → All Changes w.parts → IsAccepted scene setup w
accepted-from scene setup w tinted all run states = record {
  turns = λ k d within. (all k d within).turns;
  same_setup = tinted.timed.measured.placed.same_setup;
  inside = tinted.timed.measured.placed.inside;
  apart = tinted.timed.measured.placed.apart;
  stated_area = tinted.timed.measured.stated_area;
  enough = tinted.timed.measured.enough;
  rise = tinted.timed.rise;
  within = tinted.timed.within;
  tints = tinted.tints run states;
  change = λ k d within. (all k d within).alternates;
}

-- the first part and turn without a change are told
pub stop-told : (scene : Scene) (setup : Setup) (w : Witness) (number turn : ℕ) → IsTinted scene setup w
    → IsFirstStop w.parts number turn → IsNoChange scene setup w number turn
stop-told scene setup w number turn tinted first = record {
  tinted = tinted;
  first = record {
    part = first.part;
    there = first.there;
    stops = first.here.stops;
    before = λ k other less there. (first.before k other less there).alternates;
  };
}

-- a part of which something doesn't hold
pub part-refuted : (Holds : Part → Type 0) (parts : List Part) (number : ℕ) → IsFirstPart Holds parts number → All Holds parts → ⊥
part-refuted Holds parts number first all = first.broken (part-has Holds parts number first.part all first.there)

pub tint-refuted : (scene : Scene) (setup : Setup) (w : Witness) (run : LooseRun) (part turn x y : ℕ) → IsLooseRunIn own scene setup w.start run
    → IsWrongTint scene setup w part turn x y → All (HasTints (tints_of scene run)) w.parts → ⊥
tint-refuted scene setup w run part turn x y states wrong all =
    let first = wrong.first run states in
    first.pixel.wrong (part-has (HasTints (tints_of scene run)) w.parts part first.part all first.there turn first.pixel.frame first.pixel.tint
    first.pixel.in_turn first.pixel.stated x y first.pixel.inside)

-- the front of tints that change does too
surely-front : (kind : Kind) (tints : List Tint) (n : ℕ) → AlternatesSurely kind tints → AlternatesSurely kind (take n tints)
surely-front General tints n (inl turns) = inl (alternates-front IsSureRise IsSureFall tints n turns)
surely-front General tints n (inr turns) = inr (alternates-front IsSureFall IsSureRise tints n turns)
surely-front Red tints n (inl turns) = inl (alternates-front IsSurelyIntoRed IsSurelyOutOfRed tints n turns)
surely-front Red tints n (inr turns) = inr (alternates-front IsSurelyOutOfRed IsSurelyIntoRed tints n turns)

change-refuted : (scene : Scene) (setup : Setup) (w : Witness) (part turn : ℕ) → IsNoChange scene setup w part turn → TintsChange w → ⊥
change-refuted scene setup w part turn stopped all =
    let first = stopped.first in
    first.stops.broken (surely-front first.part.kind first.part.tints (turn + 1)
    (part-has (λ (p : Part). AlternatesSurely p.kind p.tints) w.parts part first.part all first.there))

-- each fault refutes the condition that it names
condition-refuted : (scene : Scene) (setup : Setup) (w : Witness) (fault : WitnessFault) (run : LooseRun) → IsLooseRunIn own scene setup w.start run
    → IsFirstFault scene setup w fault → IsWitness setup (tints_of scene run) w → ⊥
condition-refuted scene setup w OtherSetup run states is witness = is witness.same_setup
condition-refuted scene setup w (PartOutside part) run states is witness = part-refuted (LiesInside setup w) w.parts part is.first witness.inside
condition-refuted scene setup w (PartsOverlap first second) run states is witness =
    let o = is.overlap in
    witness.apart first second o.one o.other o.rising o.at_first o.at_second o.shared.column o.shared.row o.shared.in_one o.shared.in_other
condition-refuted scene setup w (WrongArea stated found) run states is witness =
    is.differ (is.stated_is ∙ witness.stated_area ∙ sym is.found_is)
condition-refuted scene setup w (SmallArea area) run states is witness =
    let small = is.small in
    let same = is.area_is in
    let enough = witness.enough in
    omega arith
condition-refuted scene setup w (FramesOrder part) run states is witness = part-refuted Rises w.parts part is.first witness.rise
condition-refuted scene setup w (FramesOutside part) run states is witness =
    part-refuted (LiesInWindow setup w) w.parts part is.first witness.within
condition-refuted scene setup w (WrongTint part turn x y) run states is witness =
    tint-refuted scene setup w run part turn x y states is witness.tints
condition-refuted scene setup w (NotChange part turn) run states is witness =
    change-refuted scene setup w part turn is witness.change

pub fault-refutes : (scene : Scene) (setup : Setup) (w : Witness) (fault : WitnessFault) → IsFirstFault scene setup w fault → IsAccepted scene setup w → ⊥
fault-refutes scene setup w fault is accepted =
    loose_run-met own scene setup w.start (λ run states. condition-refuted scene setup w fault run states is (accepted run states))

-- so an accepted witness is answered by Ok
pub answered-ok : (scene : Scene) (setup : Setup) (w : Witness) (result : Result (Unit {0}) WitnessFault) → IsTested scene setup w result
    → IsAccepted scene setup w → result ≡ Ok tt
answered-ok scene setup w (Ok tt) is accepted = refl
answered-ok scene setup w (Err fault) is accepted = absurd (fault-refutes scene setup w fault is accepted)

-- and Ok says that the window is bad
pub ok-bad : (scene : Scene) (setup : Setup) (w : Witness) (result : Result (Unit {0}) WitnessFault) → IsValid scene → IsTested scene setup w result
    → OnOk result (IsBadWindow scene setup w.start w.x w.y)
ok-bad scene setup w (Ok nothing) valid is = accepted_is_bad scene setup w valid is
ok-bad scene setup w (Err fault) valid is = tt
