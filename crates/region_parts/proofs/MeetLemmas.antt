-- The layers that meet a cell are told by any run of states, and need no more frames than the cell.
use Rattle.std.proofs.Common.{ℕ, zero, suc, ◌≡◌, ◌<◌, ◌≤◌, Bool, List, [], ◌∷◌, length, take, arith, inl, inr}
use Rattle.std.specs.Prelude.{Some, slice_get}
use Rattle.std.specs.List.{items_where_true}
use Rattle.std.proofs.lemmas.Option.{slice_get_within}
use Rattle.page_model.specs.declared.scene.Layer.{Layer}
use Rattle.page_model.specs.declared.scene.Scene.{Scene}
use Rattle.page_model.specs.declared.setup.Setup.{Setup}
use Rattle.page_model.specs.Enclosure.{LooseRun, own}
use Rattle.page_model.specs.Horizon.{IsNeeded, animations_of}
use Rattle.page_model.specs.SeparateJudgement.{BoxMeets, IsCellNeeded, IsOwnRun, Meets, frame_limit}
use Rattle.horizon_laws.proofs.StateLemmas.{of_marked}
use Rattle.tint_laws.proofs.WindowLemmas.{layer-at}
use Rattle.wide_laws.proofs.LooseLemmas.{loose_state-unique}
use Rattle.region_parts.specs.Meeting.{IsSeenBelow, MayMeet}
use Rattle.region_parts.specs.Needs.{AreMetBefore}
use Rattle.region_parts.proofs.FewerLemmas.{needed-fewer, to_marked}

-- a run tells the states of each layer in its frames
pub record IsAgreed (scene : Scene) (setup : Setup) (run : LooseRun) (frames_of needed_of : ℕ → ℕ) : Type 0 where
  pub own_run : IsOwnRun scene setup run
  pub bounded : (number : ℕ) → number < length scene.layers → frames_of number ≤ frame_limit
  pub same : (number : ℕ) → number < length scene.layers → needed_of number ≡ frames_of number

box-run : (scene : Scene) (setup : Setup) (run : LooseRun) (frames_of needed_of : ℕ → ℕ) (number column row : ℕ)
    → IsAgreed scene setup run frames_of needed_of → number < length scene.layers
    → IsSeenBelow scene setup number (frames_of number) column row → BoxMeets run (needed_of number) number column row
box-run scene setup run frames_of needed_of number column row agreed known seen =
    let found = seen.seen in
    let bound = agreed.bounded number known in
    let before = seen.before in
    let same : needed_of number ≡ frames_of number = agreed.same number known in
    let is : found.state ≡ run seen.frame number =
    loose_state-unique own scene setup seen.frame found.layer found.state (run seen.frame number) found.is_own
    (agreed.own_run seen.frame number found.layer (omega arith) found.is_there) in
    record {
      frame = seen.frame;
      needed_frame = omega arith;
      shown = rw is at found.seen.shown;
      covers = rw is at found.seen.covers;
    }

run-box : (scene : Scene) (setup : Setup) (run : LooseRun) (frames_of needed_of : ℕ → ℕ) (number column row : ℕ)
    → IsAgreed scene setup run frames_of needed_of → number < length scene.layers
    → BoxMeets run (needed_of number) number column row → IsSeenBelow scene setup number (frames_of number) column row
run-box scene setup run frames_of needed_of number column row agreed known meets =
    let found = layer-at scene.layers number known in
    let bound = agreed.bounded number known in
    let before = meets.needed_frame in
    let same : needed_of number ≡ frames_of number = agreed.same number known in
    record {
      frame = meets.frame;
      before = omega arith;
      seen = record {
        layer = found.0;
        state = run meets.frame number;
        is_there = found.1;
        is_own = agreed.own_run meets.frame number found.0 (omega arith) found.1;
        seen = record { shown = meets.shown; covers = meets.covers };
      };
    }

-- so by the run just those layers meet a cell that may
pub meets-run : (scene : Scene) (setup : Setup) (run : LooseRun) (frames_of needed_of : ℕ → ℕ) (number column row : ℕ)
    → IsAgreed scene setup run frames_of needed_of → number < length scene.layers
    → MayMeet scene setup number (frames_of number) column row → Meets scene run needed_of number column row
meets-run scene setup run frames_of needed_of number column row agreed known (inl body) = inl body
meets-run scene setup run frames_of needed_of number column row agreed known (inr box) =
    inr (box.0, box-run scene setup run frames_of needed_of number column row agreed known box.1)

pub run-meets : (scene : Scene) (setup : Setup) (run : LooseRun) (frames_of needed_of : ℕ → ℕ) (number column row : ℕ)
    → IsAgreed scene setup run frames_of needed_of → number < length scene.layers
    → Meets scene run needed_of number column row → MayMeet scene setup number (frames_of number) column row
run-meets scene setup run frames_of needed_of number column row agreed known (inl body) = inl body
run-meets scene setup run frames_of needed_of number column row agreed known (inr box) =
    inr (box.0, run-box scene setup run frames_of needed_of number column row agreed known box.1)

-- one that meets a cell needs no more frames than the cell
pub layer-least : (scene : Scene) (setup : Setup) (run : LooseRun) (frames_of needed_of : ℕ → ℕ) (number column row least needed : ℕ)
    (layer : Layer) → IsAgreed scene setup run frames_of needed_of → slice_get scene.layers number ≡ Some layer
    → MayMeet scene setup number (frames_of number) column row → IsNeeded setup layer.anims least
    → IsCellNeeded scene setup run needed_of column row needed → least ≤ needed
layer-least scene setup run frames_of needed_of number column row least needed layer agreed there met is cell =
    let known = slice_get_within scene.layers number layer there in
    let marked = (cell.meets number known).1 (meets-run scene setup run frames_of needed_of number column row agreed known met) in
    needed-fewer setup layer.anims (animations_of (items_where_true cell.marks scene.layers)) least needed
    (λ P all. of_marked P cell.marks scene.layers number layer all marked there) is cell.needed_is

-- a layer before a number is one of all
pub taken : {X : Type 0} (n number : ℕ) (xs : List X) (x : X) → slice_get (take n xs) number ≡ Some x
    → (slice_get xs number ≡ Some x) × (number < n)
taken zero number xs x there = absurd (cc)
taken (suc n) number [] x there = absurd (cc)
taken (suc n) zero (y ∷ xs) x there = (there, omega arith)
taken (suc n) (suc number) (y ∷ xs) x there =
    let rest = taken n number xs x there in (rest.0, let below = rest.1 in omega arith)

-- nor do those together that do before a number
pub before-least : (scene : Scene) (setup : Setup) (run : LooseRun) (frames_of needed_of : ℕ → ℕ) (number column row least needed : ℕ)
    (marks : List Bool) → IsAgreed scene setup run frames_of needed_of → number ≤ length scene.layers
    → AreMetBefore scene setup frames_of column row number marks
    → IsNeeded setup (animations_of (items_where_true marks (take number scene.layers))) least
    → IsCellNeeded scene setup run needed_of column row needed → least ≤ needed
before-least scene setup run frames_of needed_of number column row least needed marks agreed within met is cell =
    needed-fewer setup (animations_of (items_where_true marks (take number scene.layers)))
    (animations_of (items_where_true cell.marks scene.layers)) least needed
    (λ P all. to_marked P marks (take number scene.layers) (λ k layer marked there.
    let found = taken number k scene.layers layer there in
    let early = found.1 in
    let known : k < length scene.layers = omega arith in
    of_marked P cell.marks scene.layers k layer all
    ((cell.meets k known).1 (meets-run scene setup run frames_of needed_of k column row agreed known ((met.meets k early).0 marked)))
    found.0)) is cell.needed_is
