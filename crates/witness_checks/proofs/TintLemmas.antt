-- Tints by two sets of states of the own kind are the same, and so are the first pixels that haven't a tint.
use Rattle.std.proofs.Common.{◌≡◌, ◌∙◌, ℕ, ◌<◌, ◌≤◌, ◌+◌, ◌%◌, List, [], length, get_or, Option, None, Some, ap, arith, subst, sym, inl, inr}
use Rattle.std.specs.Prelude.{All, slice_get, MatchOption}
use Rattle.std.proofs.lemmas.Bool.{cases_eq}
use Rattle.std.proofs.lemmas.Nat.{mod_below}
use Rattle.std.proofs.lemmas.Option.{get_or_from_slice_get, same_Some, slice_get-get_or, slice_get_cases, slice_get_within}
use Rattle.page_model.specs.declared.colour.Tint.{Tint}
use Rattle.page_model.specs.declared.scene.Scene.{Scene}
use Rattle.page_model.specs.declared.setup.Setup.{Setup}
use Rattle.page_model.specs.declared.witness.Kind.TheVariants.{General}
use Rattle.page_model.specs.declared.witness.Part.{Part}
use Rattle.page_model.specs.declared.witness.Witness.{Witness}
use Rattle.page_model.specs.Enclosure.{LooseRun, LooseState, own}
use Rattle.page_model.specs.TintOf.{IsLooseRunIn, tint_of}
use Rattle.page_model.specs.ValidScene.{IsValid}
use Rattle.page_model.specs.Time.{window_of}
use Rattle.page_model.specs.WitnessConditions.{HasTints, LiesInside}
use Rattle.frame_state.specs.States.{AreOwn}
use Rattle.tint_laws.proofs.AlikeLemmas.{tint-same}
use Rattle.wide_laws.proofs.LooseLemmas.{loose_state-unique}
use Rattle.witness_checks.specs.Faults.{HaveTintsBefore, IsFirstWrongPixel, IsFirstWrongTint, IsTimed, LiesInWindow}
use Rattle.even_parts.specs.Even.{AllHaveTint}
use Rattle.witness_checks.specs.OwnTints.{IsFirstWrongOf, IsFirstWrongTurn, IsOwnIn}

-- states of the own kind give one tint
pub own-tint-same : (scene : Scene) (setup : Setup) (frame : ℕ) (loose other : ℕ → LooseState) → IsValid scene → AreOwn scene setup frame loose
    → AreOwn scene setup frame other → (column row : ℕ) → tint_of scene loose column row ≡ tint_of scene other column row
own-tint-same scene setup frame loose other valid one two column row =
    tint-same scene loose other column row valid (λ number below.
    elim (slice_get_cases scene.layers number).1 [
      | inl found ↦ loose_state-unique own scene setup frame found.0 (loose number) (other number) (one number found.0 found.2) (two number found.0 found.2)
      | inr past ↦ absurd (let far = past.0 in omega arith)
    ])

-- where two paintings are the same, so is what is said of their pixels
pub all-same : (seen other : ℕ → ℕ → Tint) (part : Part) (tint : Tint) → ((column row : ℕ) → seen column row ≡ other column row)
    → AllHaveTint seen part tint → AllHaveTint other part tint
all-same seen other part tint same all column row inside = sym (same column row) ∙ all column row inside

pub first_wrong-same : (seen other : ℕ → ℕ → Tint) (part : Part) (tint : Tint) (column row : ℕ)
    → ((c r : ℕ) → seen c r ≡ other c r) → IsFirstWrongOf seen part tint column row → IsFirstWrongOf other part tint column row
first_wrong-same seen other part tint column row same first = record {
  inside = first.inside;
  wrong = λ has. first.wrong (same column row ∙ has);
  before = λ c r inside earlier. sym (same c r) ∙ first.before c r inside earlier;
}

-- what is said of an answer is carried over to another statement
pub matched : {X : Type 0} (o : Option X) (P Q : Type 0) (F G : X → Type 0) → MatchOption o P F → (P → Q) → ((x : X) → F x → G x) → MatchOption o Q G
matched None P Q F G is none some = none is
matched (Some x) P Q F G is none some = some x is

-- where the states of a turn's frame are kept
abbrev pub place-of : Part → ℕ → ℕ
place-of part turn = get_or part.frames turn 0 % 241

pub place-within : (part : Part) (turn count : ℕ) → count ≡ 241 → place-of part turn < count
place-within part turn count all = omega (arith, all, mod_below (get_or part.frames turn 0) 241 (omega arith))

-- one turn more has its tint
pub turn-more : (tint_at : ℕ → ℕ → ℕ → Tint) (part : Part) (turn frame : ℕ) (tint : Tint) → slice_get part.frames turn ≡ Some frame
    → slice_get part.tints turn ≡ Some tint → HaveTintsBefore tint_at part turn → AllHaveTint (tint_at frame) part tint
    → HaveTintsBefore tint_at part (turn + 1)
turn-more tint_at part turn frame tint frame_is tint_is have here j f t below f_is t_is column row inside =
    elim (cases_eq j turn) [
      | inl same ↦
          let one : frame ≡ f = same_Some frame f (sym frame_is ∙ ap (λ n. slice_get part.frames n) (sym same) ∙ f_is) in
          let other : tint ≡ t = same_Some tint t (sym tint_is ∙ ap (λ n. slice_get part.tints n) (sym same) ∙ t_is) in
          subst (λ n. tint_at n column row ≡ t) one (here column row inside ∙ other)
      | inr differ ↦ have j f t (omega arith) f_is t_is column row inside
    ]

-- all turns have theirs
pub turns-all : (tint_at : ℕ → ℕ → ℕ → Tint) (part : Part) (turn : ℕ) → length part.frames ≤ turn → HaveTintsBefore tint_at part turn
    → HasTints tint_at part
turns-all tint_at part turn all have j f t f_is t_is column row inside =
    have j f t (let within = slice_get_within part.frames j f f_is in omega arith) f_is t_is column row inside

-- a turn is the first that hasn't
pub first-turn : (tint_at : ℕ → ℕ → ℕ → Tint) (part : Part) (turn frame column row : ℕ) (tint : Tint) → slice_get part.frames turn ≡ Some frame
    → slice_get part.tints turn ≡ Some tint → HaveTintsBefore tint_at part turn → IsFirstWrongOf (tint_at frame) part tint column row
    → IsFirstWrongTurn tint_at part turn column row
first-turn tint_at part turn frame column row tint frame_is tint_is have first = record {
  turns_before = have;
  pixel = record {
    frame = frame;
    tint = tint;
    in_turn = frame_is;
    stated = tint_is;
    inside = first.inside;
    wrong = first.wrong;
    before = first.before;
  };
}

-- what holds of all parts holds of one
part-holds : (Holds : Part → Type 0) (parts : List Part) (k : ℕ) (part : Part) → All Holds parts → slice_get parts k ≡ Some part → Holds part
part-holds Holds parts k part all there =
    subst Holds (get_or_from_slice_get parts k part part there) (all k part (slice_get_within parts k part there))

-- a run of the window has states of the own kind in the frames of each part
pub own-in-part : (scene : Scene) (setup : Setup) (w : Witness) (run : LooseRun) (k : ℕ) (part : Part) → IsTimed setup w
    → IsLooseRunIn own scene setup w.start run → slice_get w.parts k ≡ Some part → IsOwnIn scene setup part run
own-in-part scene setup w run k part timed is there turn frame in_turn number layer layer_there =
    let within : LiesInWindow setup w part = part-holds (LiesInWindow setup w) w.parts k part timed.within there in
    let In : ℕ → Type 0 = λ n. (w.start ≤ n) × (n ≤ w.start + window_of setup) in
    let inside : In frame =
    subst In (get_or_from_slice_get part.frames turn frame frame in_turn) (within turn frame (slice_get_within part.frames turn frame in_turn)) in
    is frame number layer inside.0 inside.1 layer_there

-- a part lies in the viewport
pub part-inside : (setup : Setup) (w : Witness) (k : ℕ) (part : Part) → IsTimed setup w → slice_get w.parts k ≡ Some part → LiesInside setup w part
part-inside setup w k part timed there = part-holds (LiesInside setup w) w.parts k part timed.measured.placed.inside there

-- one part more has its tints
pub part-more : (tint_at : ℕ → ℕ → ℕ → Tint) (parts : List Part) (number : ℕ) (part : Part) → slice_get parts number ≡ Some part
    → ((k : ℕ) (other : Part) → k < number → slice_get parts k ≡ Some other → HasTints tint_at other) → HasTints tint_at part
    → (k : ℕ) (other : Part) → k < number + 1 → slice_get parts k ≡ Some other → HasTints tint_at other
part-more tint_at parts number part there before here k other below other_there =
    elim (cases_eq k number) [
      | inl same ↦
          subst (λ (p : Part). HasTints tint_at p) (same_Some part other (sym there ∙ ap (λ n. slice_get parts n) (sym same) ∙ other_there)) here
      | inr differ ↦ before k other (omega arith) other_there
    ]

-- what stands for a part that isn't there
abbrev pub no_part : Part
no_part = record { x = 0; y = 0; width = 0; height = 0; kind = General; frames = []; tints = [] }

-- the part that was read is one of the parts
pub part-there : (parts items : List Part) (number : ℕ) (d : Part) → items ≡ parts → number < length items
    → slice_get parts number ≡ Some (get_or items number d)
part-there parts items number d same below =
    ap (λ (ps : List Part). slice_get ps number) (sym same) ∙ slice_get-get_or items number d below

-- a part is the first that hasn't its tints
pub first-part : (tint_at : ℕ → ℕ → ℕ → Tint) (parts : List Part) (number turn column row x y : ℕ) (part : Part) → slice_get parts number ≡ Some part
    → x ≡ column → y ≡ row → ((k : ℕ) (other : Part) → k < number → slice_get parts k ≡ Some other → HasTints tint_at other)
    → IsFirstWrongTurn tint_at part turn column row → IsFirstWrongTint tint_at parts number turn x y
first-part tint_at parts number turn column row x y part there x_is y_is before first = record {
  part = part;
  there = there;
  parts_before = before;
  turns_before = first.turns_before;
  pixel = subst (λ c. IsFirstWrongPixel tint_at part turn c y) (sym x_is) (subst (λ r. IsFirstWrongPixel tint_at part turn column r) (sym y_is) first.pixel);
}
