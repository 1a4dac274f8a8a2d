-- The flag of one pixel of a cell is that of each of its pixels.
use Rattle.std.proofs.Common.{◌≡◌, ◌∙◌, ℕ, ◌+◌, ◌-◌, ◌*◌, ◌/◌, ◌%◌, ◌<◌, ◌≤◌, List, length, drop, Some, ap, arith, inl, inr, subst, sym, length-drop}
use Rattle.std.specs.Prelude.{◌↔◌, ◌⊎◌}
use Rattle.std.proofs.Math.Nat.{mul-div-le, mul-le-mul_left}
use Rattle.std.proofs.lemmas.Bool.{cases_lt}
use Rattle.std.proofs.lemmas.Option.{slice_get_cases}
use Rattle.page_model.specs.declared.colour.Tint.{Tint}
use Rattle.page_model.specs.declared.scene.Scene.{Scene}
use Rattle.page_model.specs.declared.setup.Setup.{Setup}
use Rattle.page_model.specs.Cells.{cells_between}
use Rattle.page_model.specs.Change.{IsPossibleFall, IsPossibleRise, IsPossiblyIntoRed, IsPossiblyOutOfRed, IsSureFall, IsSureRise, IsSurelyIntoRed, IsSurelyOutOfRed}
use Rattle.page_model.specs.Enclosure.{LooseRun, LooseState, own}
use Rattle.page_model.specs.Horizon.{frames_for}
use Rattle.page_model.specs.Time.{window_of}
use Rattle.page_model.specs.TintOf.{IsLooseRunIn, covers_surely, tint_of, tints_of}
use Rattle.page_model.specs.ValidScene.{IsValid}
use Rattle.flash_count.specs.declared.tracking.Flag.{Flag}
use Rattle.flash_count.specs.Tracked.{Tells, last_of}
use Rattle.flash_count.proofs.SeenLemmas.{IsSeen, has_chain-seen}
use Rattle.frame_state.specs.States.{AreOwn}
use Rattle.region_split.specs.Cutting.{Edges, IsInside, bands, cell_of}
use Rattle.region_split.specs.Sound.{AreSound}
use Rattle.wide_laws.proofs.LooseLemmas.{loose_state-unique}
use Rattle.cell_tints.specs.Tints.{AreTintsOfCells, IsOwnTint}
use Rattle.cell_tints.proofs.ListLemmas.{slice_get-drop}
use Rattle.cell_flags.specs.Flags.{AreAlikeCells, AreFlags, AreFlagsBefore, AreSeenAs, IsFlagAt, IsFlagOf, IsWindowSeen}
use Rattle.cell_flags.proofs.RunLemmas.{covers-alike}
use Rattle.tint_laws.proofs.AlikeLemmas.{tint-alike}

pub div-below : (i across down : ℕ) → i < across * down → 0 < across → i / across < down
div-below i across down below some =
    elim (cases_lt (i / across) down) [
      | inl less ↦ less
      | inr past ↦
          let rows = mul-le-mul_left across past in
          let whole = mul-div-le i across in
          absurd (omega (arith, rows, whole))
    ]

-- the first pixel of a cell lies in it
pub corner-inside : (xs ys : List ℕ) (i : ℕ) → AreSound xs → AreSound ys → i < cells_between xs ys
    → IsInside (cell_of xs ys i) (cell_of xs ys i).x (cell_of xs ys i).y
corner-inside xs ys i columns rows known =
    let across : i % bands xs < bands xs = let two = columns.two in omega arith in
    let down : i / bands xs < bands ys = div-below i (bands xs) (bands ys) known (let two = columns.two in omega arith) in
    let right = columns.rise (i % bands xs) (omega arith) in
    let under = rows.rise (i / bands xs) (omega arith) in record {
      right_of = omega arith;
      left_of = omega arith;
      below = omega arith;
      above = omega arith;
    }

-- by states of the own kind, whichever, two pixels of a cell have one tint
pub own-alike : (scene : Scene) (setup : Setup) (frames : ℕ) (edges : Edges) (i frame column row other_column other_row : ℕ)
    (loose other : ℕ → LooseState) → IsValid scene → AreAlikeCells scene setup frames edges → i < cells_between edges.xs edges.ys → frame < frames
    → AreOwn scene setup frame loose → AreOwn scene setup frame other
    → IsInside (cell_of edges.xs edges.ys i) column row → IsInside (cell_of edges.xs edges.ys i) other_column other_row
    → tint_of scene loose column row ≡ tint_of scene other other_column other_row
own-alike scene setup frames edges i frame column row other_column other_row loose other valid cells known less first second one two =
    let Same : ℕ → Type 0 = λ number. loose number ≡ other number in
    let same : (number : ℕ) → number < length scene.layers → Same number =
    λ number below.
    elim (slice_get_cases scene.layers number).1 [
      | inl found ↦
          loose_state-unique own scene setup frame found.0 (loose number) (other number) (first number found.0 found.2)
          (second number found.0 found.2)
      | inr past ↦ absurd (let far = past.0 in omega arith)
    ] in
    tint-alike scene loose other column row other_column other_row valid (record {
      body = same 0 (omega (arith, valid.some_layer));
      boxes = λ number some below. record {
        same = same number below;
        alike =
            elim (slice_get_cases scene.layers number).1 [
              | inl found ↦
                  covers-alike scene setup frames edges frame number found.0 (loose number) i column row other_column other_row cells less below
                  found.2 (first number found.0 found.2) known one two
                  ∙ ap (λ (state : LooseState). covers_surely state other_column other_row) (same number below)
              | inr past ↦ absurd (let far = past.0 in omega arith)
            ];
      };
    })

-- a pixel of the cell has the tint that was seen
seen-tint : (scene : Scene) (setup : Setup) (frames : ℕ) (edges : Edges) (i start k column row : ℕ) (run : LooseRun) (tint : Tint) → IsValid scene
    → AreAlikeCells scene setup frames edges → i < cells_between edges.xs edges.ys → start + k < frames → k ≤ window_of setup
    → IsLooseRunIn own scene setup start run → IsInside (cell_of edges.xs edges.ys i) column row
    → IsOwnTint scene setup (start + k) (cell_of edges.xs edges.ys i).x (cell_of edges.xs edges.ys i).y tint
    → tint ≡ tints_of scene run (start + k) column row
seen-tint scene setup frames edges i start k column row run tint valid cells known less within is inside seen =
    let x : ℕ = (cell_of edges.xs edges.ys i).x in
    let y : ℕ = (cell_of edges.xs edges.ys i).y in
    seen.is ∙ own-alike scene setup frames edges i (start + k) x y column row seen.states (run (start + k)) valid cells known less seen.own_states
    (λ number layer there. is (start + k) number layer (omega arith) (omega arith) there)
    (corner-inside edges.xs edges.ys i cells.sound.columns cells.sound.rows known) inside

-- so the tints that were seen are the pixel's
seen-tints : (scene : Scene) (setup : Setup) (frames : ℕ) (edges : Edges) (i start column row : ℕ) (run : LooseRun) (seen : List Tint)
    → IsValid scene → AreAlikeCells scene setup frames edges → i < cells_between edges.xs edges.ys → start + window_of setup < frames
    → IsWindowSeen scene setup start (cell_of edges.xs edges.ys i) seen
    → IsLooseRunIn own scene setup start run → IsInside (cell_of edges.xs edges.ys i) column row
    → IsSeen (λ frame. tints_of scene run frame column row) start (window_of setup) seen
seen-tints scene setup frames edges i start column row run seen valid cells known less at is inside = record {
  whole = at.whole;
  each = λ k within.
      elim (slice_get_cases seen k).1 [
        | inl found ↦
            found.2
            ∙ ap Some (seen-tint scene setup frames edges i start k column row run found.0 valid cells known (omega arith) within is inside
            (at.each k found.0 found.2))
        | inr past ↦ absurd (let far = past.0 in omega (arith, at.whole))
      ];
}

-- a flag by chains of two kinds, seen as chains of both kinds
both-kinds : {General Red Seen SeenRed : Type 0} {b : Type 0} → (b ↔ (General ⊎ Red)) → (General ↔ Seen) → (Red ↔ SeenRed)
    → (b ↔ (Seen ⊎ SeenRed))
both-kinds told general red = (
  λ t. elim (told.0 t) [ inl g ↦ inl (general.0 g) | inr r ↦ inr (red.0 r) ],
  λ either. elim either [ inl g ↦ told.1 (inl (general.1 g)) | inr r ↦ told.1 (inr (red.1 r)) ],
)

-- what the tints tell that were seen in a window is the flag of each pixel of the cell
flag-of : (scene : Scene) (setup : Setup) (frames : ℕ) (edges : Edges) (i start : ℕ) (seen : List Tint) (flag : Flag) → IsValid scene
    → AreAlikeCells scene setup frames edges → i < cells_between edges.xs edges.ys → start + window_of setup < frames
    → IsWindowSeen scene setup start (cell_of edges.xs edges.ys i) seen → Tells seen flag
    → IsFlagOf scene setup start (cell_of edges.xs edges.ys i) flag
flag-of scene setup frames edges i start seen flag valid cells known less at tells = record {
  possible = λ run column row is inside.
      let tints : ℕ → Tint = λ frame. tints_of scene run frame column row in
      let are = seen-tints scene setup frames edges i start column row run seen valid cells known less at is inside in
      both-kinds tells.possible (has_chain-seen IsPossibleRise IsPossibleFall tints start (window_of setup) seen are)
      (has_chain-seen IsPossiblyIntoRed IsPossiblyOutOfRed tints start (window_of setup) seen are);
  sure = λ run column row is inside.
      let tints : ℕ → Tint = λ frame. tints_of scene run frame column row in
      let are = seen-tints scene setup frames edges i start column row run seen valid cells known less at is inside in
      both-kinds tells.sure (has_chain-seen IsSureRise IsSureFall tints start (window_of setup) seen are)
      (has_chain-seen IsSurelyIntoRed IsSurelyOutOfRed tints start (window_of setup) seen are);
}

-- the last of the tints that were seen frame by frame tell the flag of the window that ends with the last frame
pub flag-seen : (scene : Scene) (setup : Setup) (frames : ℕ) (edges : Edges) (i start : ℕ) (seen : List Tint) (flag : Flag) → IsValid scene
    → AreAlikeCells scene setup frames edges → i < cells_between edges.xs edges.ys → start + window_of setup < frames
    → length seen ≡ start + window_of setup + 1 → AreSeenAs scene setup (cell_of edges.xs edges.ys i) seen
    → Tells (last_of (window_of setup + 1) seen) flag → IsFlagOf scene setup start (cell_of edges.xs edges.ys i) flag
flag-seen scene setup frames edges i start seen flag valid cells known less many are tells =
    let first : length seen - (window_of setup + 1) ≡ start = omega (arith, many) in
    flag-of scene setup frames edges i start (drop start seen) flag valid cells known less
    (record {
      whole = length-drop start seen ∙ omega (arith, many);
      each = λ k tint there. are (start + k) tint (sym (slice_get-drop start seen k) ∙ there);
    })
    (subst (λ n. Tells (drop n seen) flag) first tells)

-- the tints of a list of all cells' tints are what was seen of each
window-seen : (scene : Scene) (setup : Setup) (frames : ℕ) (edges : Edges) (tints : List Tint) (i start : ℕ) (flag : Flag)
    → AreTintsOfCells scene setup edges 0 frames tints → i < cells_between edges.xs edges.ys
    → (at : IsFlagAt tints (cells_between edges.xs edges.ys) i (window_of setup) start flag)
    → IsWindowSeen scene setup start (cell_of edges.xs edges.ys i) at.seen
window-seen scene setup frames edges tints i start flag own_tints known at = record {
  whole = at.whole;
  each = λ k tint there.
      let frame : 0 + (start + k) ≡ start + k = omega arith in
      subst (λ n. IsOwnTint scene setup n (cell_of edges.xs edges.ys i).x (cell_of edges.xs edges.ys i).y tint) frame
      (own_tints.each (start + k) i tint known (at.each k tint there));
}

pub flags-are : (scene : Scene) (setup : Setup) (windows : ℕ) (edges : Edges) (tints : List Tint) (flags : List Flag) → IsValid scene
    → AreAlikeCells scene setup (frames_for setup windows) edges
    → AreTintsOfCells scene setup edges 0 (frames_for setup windows) tints
    → AreFlagsBefore tints (cells_between edges.xs edges.ys) (window_of setup) windows (cells_between edges.xs edges.ys) flags
    → AreFlags scene setup edges windows flags
flags-are scene setup windows edges tints flags valid cells own_tints are = record {
  all = are.all;
  each = λ cell start flag known before there.
      let at = are.each cell start flag known before there in
      flag-of scene setup (frames_for setup windows) edges cell start at.seen flag valid cells known (omega arith)
      (window-seen scene setup (frames_for setup windows) edges tints cell start flag own_tints known at) at.tells;
}
