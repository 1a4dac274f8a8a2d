-- Two first faults are of one condition: each says that the conditions before its own hold, and that its own doesn't.
use Rattle.std.proofs.Common.{◌≡◌, ◌∙◌, ℕ, zero, suc, ◌+◌, ◌<◌, arith, inl, inr, subst, sym}
use Rattle.std.proofs.lemmas.Bool.{cases_lt}
use Rattle.page_model.specs.declared.scene.Scene.{Scene}
use Rattle.page_model.specs.declared.setup.Setup.{Setup}
use Rattle.page_model.specs.declared.witness.Witness.{Witness}
use Rattle.page_model.specs.Enclosure.{own}
use Rattle.page_model.specs.WitnessConditions.{FramesRise, FramesWithin, HasArea, HasEnough, HasSetup, LiesInside, PartsApart, PartsInside}
use Rattle.wide_laws.proofs.LooseLemmas.{loose_run-met}
use Rattle.witness_checks.specs.declared.fault.WitnessFault.{WitnessFault}
use Rattle.witness_checks.specs.declared.fault.WitnessFault.TheVariants.{OtherSetup, PartOutside, PartsOverlap, WrongArea, SmallArea, FramesOrder, FramesOutside, WrongTint, NotChange}
use Rattle.witness_checks.specs.Faults.{HoldsOwnTints, IsFirstFault, IsMeasured, IsPlaced, IsTimed, LiesInWindow, Rises, condition_of}
use Rattle.witness_checks.specs.Judgement.{OneCondition}
use Rattle.witness_checks.proofs.JudgementLemmas.{part-refuted, tint-refuted}

-- the conditions by their numbers, from the sixth on; no fault is of a later condition than the ninth, so that one may stay out
abbrev TimeCondition : Scene → Setup → Witness → ℕ → Type 0
TimeCondition scene setup w zero = FramesRise w
TimeCondition scene setup w (suc zero) = FramesWithin setup w
TimeCondition scene setup w (suc (suc zero)) = HoldsOwnTints scene setup w
TimeCondition scene setup w (suc (suc (suc more))) = ⊥

-- from the third on
abbrev AreaCondition : Scene → Setup → Witness → ℕ → Type 0
AreaCondition scene setup w zero = PartsApart w
AreaCondition scene setup w (suc zero) = HasArea w
AreaCondition scene setup w (suc (suc zero)) = HasEnough w
AreaCondition scene setup w (suc (suc (suc more))) = TimeCondition scene setup w more

-- and from the first on
abbrev Condition : Scene → Setup → Witness → ℕ → Type 0
Condition scene setup w zero = Unit {0}
Condition scene setup w (suc zero) = HasSetup setup w
Condition scene setup w (suc (suc zero)) = PartsInside setup w
Condition scene setup w (suc (suc (suc more))) = AreaCondition scene setup w more

-- those before a number hold
abbrev HoldBefore : Scene → Setup → Witness → ℕ → Type 0
HoldBefore scene setup w end = (number : ℕ) → number < end → Condition scene setup w number

-- none, and one more
none : (scene : Scene) (setup : Setup) (w : Witness) → HoldBefore scene setup w 0
none scene setup w number less = absurd (omega arith)

more : (scene : Scene) (setup : Setup) (w : Witness) (end : ℕ) → HoldBefore scene setup w end → Condition scene setup w end
    → HoldBefore scene setup w (end + 1)
more scene setup w end before here number less =
    elim (cases_lt number end) [
      | inl earlier ↦ before number earlier
      | inr later ↦ let at : end ≡ number = omega arith in subst (Condition scene setup w) at here
    ]

-- those before the second one, and so on, by what a fault says
second : (scene : Scene) (setup : Setup) (w : Witness) → HasSetup setup w → HoldBefore scene setup w 2
second scene setup w same = more scene setup w 1 (more scene setup w 0 (none scene setup w) tt) same

third : (scene : Scene) (setup : Setup) (w : Witness) → HasSetup setup w → PartsInside setup w → HoldBefore scene setup w 3
third scene setup w same inside = more scene setup w 2 (second scene setup w same) inside

fifth : (scene : Scene) (setup : Setup) (w : Witness) → IsPlaced setup w → HasArea w → HoldBefore scene setup w 5
fifth scene setup w placed area = more scene setup w 4 (more scene setup w 3 (third scene setup w placed.same_setup placed.inside) placed.apart) area

seventh : (scene : Scene) (setup : Setup) (w : Witness) → IsMeasured setup w → FramesRise w → HoldBefore scene setup w 7
seventh scene setup w measured rise =
    more scene setup w 6 (more scene setup w 5 (fifth scene setup w measured.placed measured.stated_area) measured.enough) rise

ninth : (scene : Scene) (setup : Setup) (w : Witness) → IsTimed setup w → HoldsOwnTints scene setup w → HoldBefore scene setup w 9
ninth scene setup w timed tints = more scene setup w 8 (more scene setup w 7 (seventh scene setup w timed.measured timed.rise) timed.within) tints

-- what holds before the condition of a first fault
held : (scene : Scene) (setup : Setup) (w : Witness) (fault : WitnessFault) → IsFirstFault scene setup w fault
    → HoldBefore scene setup w (condition_of fault)
held scene setup w OtherSetup is = more scene setup w 0 (none scene setup w) tt
held scene setup w (PartOutside part) is = second scene setup w is.same_setup
held scene setup w (PartsOverlap one other) is = third scene setup w is.same_setup is.inside
held scene setup w (WrongArea stated found) is = more scene setup w 3 (third scene setup w is.placed.same_setup is.placed.inside) is.placed.apart
held scene setup w (SmallArea area) is = fifth scene setup w is.placed is.stated_area
held scene setup w (FramesOrder part) is =
    more scene setup w 5 (fifth scene setup w is.measured.placed is.measured.stated_area) is.measured.enough
held scene setup w (FramesOutside part) is = seventh scene setup w is.measured is.rise
held scene setup w (WrongTint part turn x y) is = more scene setup w 7 (seventh scene setup w is.timed.measured is.timed.rise) is.timed.within
held scene setup w (NotChange part turn) is = ninth scene setup w is.tinted.timed is.tinted.tints

-- and its own doesn't
broken : (scene : Scene) (setup : Setup) (w : Witness) (fault : WitnessFault) → IsFirstFault scene setup w fault
    → Condition scene setup w (condition_of fault) → ⊥
broken scene setup w OtherSetup is holds = is holds
broken scene setup w (PartOutside part) is holds = part-refuted (LiesInside setup w) w.parts part is.first holds
broken scene setup w (PartsOverlap first second) is holds =
    let o = is.overlap in
    holds first second o.one o.other o.rising o.at_first o.at_second o.shared.column o.shared.row o.shared.in_one o.shared.in_other
broken scene setup w (WrongArea stated found) is holds = is.differ (is.stated_is ∙ holds ∙ sym is.found_is)
broken scene setup w (SmallArea area) is holds =
    let small = is.small in
    let same = is.area_is in
    omega (arith, small, same, holds)
broken scene setup w (FramesOrder part) is holds = part-refuted Rises w.parts part is.first holds
broken scene setup w (FramesOutside part) is holds = part-refuted (LiesInWindow setup w) w.parts part is.first holds
broken scene setup w (WrongTint part turn x y) is holds =
    loose_run-met own scene setup w.start (λ run states. tint-refuted scene setup w run part turn x y states is (holds run states))
broken scene setup w (NotChange part turn) is holds = holds

-- so none is of an earlier condition than another
none-earlier : (scene : Scene) (setup : Setup) (w : Witness) (one other : WitnessFault) → IsFirstFault scene setup w one
    → IsFirstFault scene setup w other → condition_of one < condition_of other → ⊥
none-earlier scene setup w one other is also earlier = broken scene setup w one is (held scene setup w other also (condition_of one) earlier)

by-order : (m n : ℕ) → (m < n → ⊥) → (n < m → ⊥) → m ≡ n
by-order m n not_less not_more =
    elim (cases_lt m n) [
      | inl less ↦ absurd (not_less less)
      | inr later ↦
          elim (cases_lt n m) [
            | inl more ↦ absurd (not_more more)
            | inr few ↦ omega arith
          ]
    ]

pub one-condition : OneCondition
one-condition scene setup w one other is also =
    by-order (condition_of one) (condition_of other) (none-earlier scene setup w one other is also) (none-earlier scene setup w other one also is)
