-- The separate judgement gives one number: layers, edges and cells are the same by whatever runs of states.
use Rattle.std.proofs.Common.{◌≡◌, ℕ, suc, ◌+◌, ◌<◌, ◌≤◌, Bool, true, false, List, [], ◌∷◌, length, ap, arith, inl, inr, refl, subst, sym}
use Rattle.std.specs.Prelude.{Some, slice_get, slice_index}
use Rattle.std.specs.List.{items_where_true}
use Rattle.std.proofs.lemmas.Bool.{cases_eq}
use Rattle.page_model.specs.declared.scene.Scene.{Scene}
use Rattle.page_model.specs.declared.setup.Setup.{Setup}
use Rattle.page_model.specs.Enclosure.{LooseRun, LooseState, own, surely_not}
use Rattle.page_model.specs.Horizon.{IsNeeded, animations_of, frames_for}
use Rattle.page_model.specs.SeparateJudgement.{BoxMeets, IsCellNeeded, IsOwnRun, IsSeparatelySafe, Meets, frame_limit}
use Rattle.page_model.specs.TintOf.{covers_surely}
use Rattle.apart_laws.specs.PartedPages.{OneParting}
use Rattle.cell_laws.specs.CellLaws.{CutAlike}
use Rattle.cell_laws.proofs.EdgeLemmas.{cuts-one}
use Rattle.cell_laws.proofs.RunLemmas.{runs-met}
use Rattle.horizon_laws.proofs.LeastLemmas.{needed-unique}
use Rattle.tint_laws.proofs.WindowLemmas.{layer-at}
use Rattle.wide_laws.proofs.LooseLemmas.{loose_state-unique}

-- two judgements of one scene
pub record AreBoth (scene : Scene) (setup : Setup) (run other : LooseRun) (greatest others : ℕ) : Type 0 where
  pub run_is : IsOwnRun scene setup run
  pub other_is : IsOwnRun scene setup other
  pub one : IsSeparatelySafe scene setup run greatest
  pub two : IsSeparatelySafe scene setup other others

-- the other way round
abbrev turned : (scene : Scene) (setup : Setup) (run other : LooseRun) (greatest others : ℕ) → AreBoth scene setup run other greatest others
    → AreBoth scene setup other run others greatest
turned scene setup run other greatest others both =
    record { run_is = both.other_is; other_is = both.run_is; one = both.two; two = both.one }

-- each layer needs the same frames in both, and has the same states in them
cut-alike : (scene : Scene) (setup : Setup) (run other : LooseRun) (greatest others : ℕ)
    (both : AreBoth scene setup run other greatest others)
    → CutAlike scene both.one.needed_of both.two.needed_of run other
cut-alike scene setup run other greatest others both = record {
  frames = λ number known.
      let found = layer-at scene.layers number known in
      needed-unique setup found.0.anims (both.one.needed_of number) (both.two.needed_of number)
      (both.one.layers_need number found.0 found.1) (both.two.layers_need number found.0 found.1);
  states = λ frame number known seen.
      let found = layer-at scene.layers number known in
      let few : both.one.needed_of number ≤ frame_limit = both.one.layers_bounded number known in
      let before : frame < frames_for setup frame_limit = omega (arith, seen, few) in
      loose_state-unique own scene setup frame found.0 (run frame number) (other frame number)
      (both.run_is frame number found.0 before found.1) (both.other_is frame number found.0 before found.1);
}

-- so a layer that meets a cell by the one run meets it by the other
box-meets : (scene : Scene) (needed_of others_of : ℕ → ℕ) (run other : LooseRun) (number column row : ℕ)
    → CutAlike scene needed_of others_of run other → number < length scene.layers → BoxMeets run (needed_of number) number column row
    → BoxMeets other (others_of number) number column row
box-meets scene needed_of others_of run other number column row alike known meets =
    let frames : needed_of number ≡ others_of number = alike.frames number known in
    let same : run meets.frame number ≡ other meets.frame number = alike.states meets.frame number known meets.needed_frame in
    record {
      frame = meets.frame;
      needed_frame = omega (arith, frames, meets.needed_frame);
      shown = λ hidden. meets.shown (subst (λ (s : LooseState). s.shown ≡ surely_not) (sym same) hidden);
      covers = λ misses. meets.covers (subst (λ (s : LooseState). covers_surely s column row ≡ surely_not) (sym same) misses);
    }

layer-meets : (scene : Scene) (needed_of others_of : ℕ → ℕ) (run other : LooseRun) (number column row : ℕ)
    → CutAlike scene needed_of others_of run other → number < length scene.layers → Meets scene run needed_of number column row
    → Meets scene other others_of number column row
layer-meets scene needed_of others_of run other number column row alike known (inl body) = inl body
layer-meets scene needed_of others_of run other number column row alike known (inr box) =
    inr (box.0, box-meets scene needed_of others_of run other number column row alike known box.1)

-- two lists of marks with the same places are one
abbrev MarkedToo : List Bool → List Bool → Type 0
MarkedToo marks others = (number : ℕ) → number < length marks → slice_get marks number ≡ Some true → slice_get others number ≡ Some true

same-mark : (mark other : Bool) → (mark ≡ true → other ≡ true) → (other ≡ true → mark ≡ true) → mark ≡ other
same-mark true other there back = sym (there refl)
same-mark false true there back = back refl
same-mark false false there back = refl

first-too : (mark other : Bool) (marks others : List Bool) → MarkedToo (mark ∷ marks) (other ∷ others) → mark ≡ true → other ≡ true
first-too mark other marks others too is =
    let first : slice_get (other ∷ others) 0 ≡ Some true = too 0 (omega arith) (ap Some is) in
    cc

rest-too : (mark other : Bool) (marks others : List Bool) → MarkedToo (mark ∷ marks) (other ∷ others) → MarkedToo marks others
rest-too mark other marks others too number known is = too (suc number) (omega arith) is

marks-one : (marks others : List Bool) → length marks ≡ length others → MarkedToo marks others → MarkedToo others marks → marks ≡ others
marks-one [] [] same there back = refl
marks-one [] (other ∷ others) same there back = absurd (omega arith)
marks-one (mark ∷ marks) [] same there back = absurd (omega arith)
marks-one (mark ∷ marks) (other ∷ others) same there back =
    let first = same-mark mark other (first-too mark other marks others there) (first-too other mark others marks back) in
    let rest = marks-one marks others (omega arith) (rest-too mark other marks others there) (rest-too other mark others marks back) in
    cc

-- so a cell needs the same frames
marked-too : (scene : Scene) (setup : Setup) (needed_of others_of : ℕ → ℕ) (run other : LooseRun) (column row needed others : ℕ)
    → CutAlike scene needed_of others_of run other → (one : IsCellNeeded scene setup run needed_of column row needed)
    → (two : IsCellNeeded scene setup other others_of column row others) → MarkedToo one.marks two.marks
marked-too scene setup needed_of others_of run other column row needed others alike one two number within marked =
    let known : number < length scene.layers = omega (arith, within, one.one_each) in
    (two.meets number known).1 (layer-meets scene needed_of others_of run other number column row alike known
    ((one.meets number known).0 marked))

pub cell-needs : (scene : Scene) (setup : Setup) (needed_of others_of : ℕ → ℕ) (run other : LooseRun) (column row needed others : ℕ)
    → CutAlike scene needed_of others_of run other → CutAlike scene others_of needed_of other run
    → IsCellNeeded scene setup run needed_of column row needed → IsCellNeeded scene setup other others_of column row others
    → needed ≡ others
cell-needs scene setup needed_of others_of run other column row needed others alike back one two =
    let same : one.marks ≡ two.marks = marks-one one.marks two.marks (omega (arith, one.one_each, two.one_each))
    (marked-too scene setup needed_of others_of run other column row needed others alike one two)
    (marked-too scene setup others_of needed_of other run column row others needed back two one) in
    needed-unique setup (animations_of (items_where_true two.marks scene.layers)) needed others
    (subst (λ (marks : List Bool). IsNeeded setup (animations_of (items_where_true marks scene.layers)) needed) same one.needed_is)
    two.needed_is

-- and the greatest number of the one isn't above that of the other
at-most : (scene : Scene) (setup : Setup) (run other : LooseRun) (greatest others : ℕ) → AreBoth scene setup run other greatest others
    → greatest ≤ others
at-most scene setup run other greatest others both =
    let one = both.one in
    let two = both.two in
    let alike = cut-alike scene setup run other greatest others both in
    let back = cut-alike scene setup other run others greatest (turned scene setup run other greatest others both) in
    let edges = cuts-one scene setup one.needed_of two.needed_of run other one.xs one.ys two.xs two.ys alike one.cuts two.cuts in
    let i : ℕ = one.is_some.0 in
    let j : ℕ = one.is_some.1 in
    let across : i + 1 < length one.xs = one.is_some.2 in
    let down : j + 1 < length one.ys = one.is_some.3 in
    let is : one.cell_needed i j ≡ greatest = one.is_some.4 in
    let other_across : i + 1 < length two.xs = subst (λ (xs : List ℕ). i + 1 < length xs) edges.0 across in
    let other_down : j + 1 < length two.ys = subst (λ (ys : List ℕ). j + 1 < length ys) edges.1 down in
    let column : slice_index one.xs i ≡ slice_index two.xs i = ap (λ (xs : List ℕ). slice_index xs i) edges.0 in
    let row : slice_index one.ys j ≡ slice_index two.ys j = ap (λ (ys : List ℕ). slice_index ys j) edges.1 in
    let need : IsCellNeeded scene setup run one.needed_of (slice_index two.xs i) (slice_index two.ys j) (one.cell_needed i j) =
    subst (λ n. IsCellNeeded scene setup run one.needed_of n (slice_index two.ys j) (one.cell_needed i j)) column
    (subst (λ n. IsCellNeeded scene setup run one.needed_of (slice_index one.xs i) n (one.cell_needed i j)) row
    (one.cells_need i j across down)) in
    let same : one.cell_needed i j ≡ two.cell_needed i j =
    cell-needs scene setup one.needed_of two.needed_of run other (slice_index two.xs i) (slice_index two.ys j) (one.cell_needed i j)
    (two.cell_needed i j) alike back need (two.cells_need i j other_across other_down) in
    let most = two.is_greatest i j other_across other_down in
    omega (arith, is, same, most)

by-runs : (scene : Scene) (setup : Setup) (run other : LooseRun) (greatest others : ℕ) → AreBoth scene setup run other greatest others
    → greatest ≡ others
by-runs scene setup run other greatest others both =
    let low = at-most scene setup run other greatest others both in
    let high = at-most scene setup other run others greatest (turned scene setup run other greatest others both) in
    omega (arith, low, high)

-- two numbers that can't be apart are one
stable : (m n : ℕ) → ((m ≡ n → ⊥) → ⊥) → m ≡ n
stable m n never = elim (cases_eq m n) [ inl same ↦ same | inr apart ↦ absurd (never apart) ]

pub one-parting : OneParting
one-parting = record {
  by_runs = λ scene setup run other greatest others is also one two.
      by-runs scene setup run other greatest others (record { run_is = is; other_is = also; one = one; two = two });
  one = λ scene setup greatest others one two.
      stable greatest others (λ apart.
      runs-met own scene setup (frames_for setup frame_limit) (λ run are.
      apart (by-runs scene setup run run greatest others (record { run_is = are; other_is = are; one = one run are; two = two run are }))));
  excluded = λ scene setup greatest judged never.
      runs-met own scene setup (frames_for setup frame_limit) (λ run are. never run greatest are (judged run are));
}
