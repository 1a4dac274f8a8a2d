-- All pixels of a cell have one tint in each frame of a window, and so flash alike.
use Rattle.std.proofs.Common.{◌≡◌, ◌∙◌, ℕ, ◌+◌, ◌<◌, ◌≤◌, List, length, get_or, Some, ap, arith, inl, inr, subst}
use Rattle.std.proofs.lemmas.Option.{slice_get-get_or}
use Rattle.page_model.specs.declared.colour.Tint.{Tint}
use Rattle.page_model.specs.declared.scene.Scene.{Scene}
use Rattle.page_model.specs.declared.setup.Setup.{Setup}
use Rattle.page_model.specs.Cells.{cells_between}
use Rattle.page_model.specs.Change.{IsSureFall, IsSureRise, IsSurelyIntoRed, IsSurelyOutOfRed}
use Rattle.page_model.specs.Enclosure.{LooseRun, own}
use Rattle.page_model.specs.Flash.{Between}
use Rattle.page_model.specs.Time.{window_of}
use Rattle.page_model.specs.TintOf.{IsLooseRunIn, tints_of}
use Rattle.page_model.specs.ValidScene.{IsValid}
use Rattle.page_model.specs.Window.{IsSurelyFlagged, SurelyInto, SurelyOut}
use Rattle.flash_count.specs.Chains.{HasSureChain}
use Rattle.flash_count.proofs.SeenLemmas.{IsSeen, has_chain-seen}
use Rattle.flash_laws.specs.FlagLaws.{CarriesOver}
use Rattle.flash_laws.proofs.ChainLemmas.{has_chain-carried}
use Rattle.frame_state.specs.States.{AreOwn}
use Rattle.region_split.specs.Cutting.{Edges, IsInside, cell_of}
use Rattle.wide_laws.proofs.LooseLemmas.{loose_run-met}
use Rattle.cell_tints.specs.Tints.{IsOwnTint}
use Rattle.cell_flags.proofs.FlagLemmas.{corner-inside, own-alike}
use Rattle.cell_flags.proofs.RunLemmas.{cut-alike}
use Rattle.witness_make.specs.Made.{AreCutsOf, AreSurelyFlagged}
use Rattle.witness_make.specs.Turns.{AreTintsFrom, no_tint}

run-own : (scene : Scene) (setup : Setup) (start frame : ℕ) (run : LooseRun) → IsLooseRunIn own scene setup start run → start ≤ frame
    → frame ≤ start + window_of setup → AreOwn scene setup frame (run frame)
run-own scene setup start frame run is low high number layer there = is frame number layer low high there

-- the tint that was seen at a cell's first pixel is that of each of its pixels
pub seen-tint : (scene : Scene) (setup : Setup) (edges : Edges) (start i k column row : ℕ) (tint : Tint) (run : LooseRun) → IsValid scene
    → AreCutsOf scene setup start edges → i < cells_between edges.xs edges.ys → k ≤ window_of setup → IsLooseRunIn own scene setup start run
    → IsInside (cell_of edges.xs edges.ys i) column row
    → IsOwnTint scene setup (start + k) (cell_of edges.xs edges.ys i).x (cell_of edges.xs edges.ys i).y tint
    → tint ≡ tints_of scene run (start + k) column row
seen-tint scene setup edges start i k column row tint run valid cuts known within is inside seen =
    let cover = cuts.cover in
    seen.is ∙ own-alike scene setup cuts.frames edges i (start + k) (cell_of edges.xs edges.ys i).x (cell_of edges.xs edges.ys i).y column row
    seen.states (run (start + k)) valid (cut-alike scene setup cuts.frames edges cuts.cut) known (omega arith) seen.own_states
    (run-own scene setup start (start + k) run is (omega arith) (omega arith))
    (corner-inside edges.xs edges.ys i cuts.cut.sound.columns cuts.cut.sound.rows known) inside

pub seen-tints : (scene : Scene) (setup : Setup) (edges : Edges) (start i column row : ℕ) (tints : List Tint) (run : LooseRun) → IsValid scene
    → AreCutsOf scene setup start edges → i < cells_between edges.xs edges.ys → length tints ≡ window_of setup + 1
    → AreTintsFrom scene setup start (cell_of edges.xs edges.ys i).x (cell_of edges.xs edges.ys i).y tints
    → IsLooseRunIn own scene setup start run → IsInside (cell_of edges.xs edges.ys i) column row
    → IsSeen (λ frame. tints_of scene run frame column row) start (window_of setup) tints
seen-tints scene setup edges start i column row tints run valid cuts known whole are is inside = record {
  whole = whole;
  each = λ k within.
      let there : k < length tints = omega (arith, whole) in
      slice_get-get_or tints k no_tint there
      ∙ ap Some (seen-tint scene setup edges start i k column row (get_or tints k no_tint) run valid cuts known within is inside (are k there));
}

-- where the tints that were seen have a sure chain all pixels of the cell are surely flagged, and where they have none no pixel is
pub flagged-seen : (scene : Scene) (setup : Setup) (edges : Edges) (start i : ℕ) (tints : List Tint) → IsValid scene
    → AreCutsOf scene setup start edges → i < cells_between edges.xs edges.ys → length tints ≡ window_of setup + 1
    → AreTintsFrom scene setup start (cell_of edges.xs edges.ys i).x (cell_of edges.xs edges.ys i).y tints
    → HasSureChain tints → AreSurelyFlagged scene setup start (cell_of edges.xs edges.ys i)
flagged-seen scene setup edges start i tints valid cuts known whole are has run column row is inside =
    let seen : ℕ → Tint = λ frame. tints_of scene run frame column row in
    let tints_are = seen-tints scene setup edges start i column row tints run valid cuts known whole are is inside in
    elim has [
      | inl general ↦ inl ((has_chain-seen IsSureRise IsSureFall seen start (window_of setup) tints tints_are).0 general)
      | inr red ↦ inr ((has_chain-seen IsSurelyIntoRed IsSurelyOutOfRed seen start (window_of setup) tints tints_are).0 red)
    ]

pub unflagged-seen : (scene : Scene) (setup : Setup) (edges : Edges) (start i column row : ℕ) (tints : List Tint) → IsValid scene
    → AreCutsOf scene setup start edges → i < cells_between edges.xs edges.ys → length tints ≡ window_of setup + 1
    → AreTintsFrom scene setup start (cell_of edges.xs edges.ys i).x (cell_of edges.xs edges.ys i).y tints
    → (HasSureChain tints → ⊥) → AreSurelyFlagged scene setup start (cell_of edges.xs edges.ys i)
    → IsInside (cell_of edges.xs edges.ys i) column row → ⊥
unflagged-seen scene setup edges start i column row tints valid cuts known whole are none flagged inside =
    loose_run-met own scene setup start (λ run is.
    let seen : ℕ → Tint = λ frame. tints_of scene run frame column row in
    let tints_are = seen-tints scene setup edges start i column row tints run valid cuts known whole are is inside in
    elim (flagged run column row is inside) [
      | inl general ↦ none (inl ((has_chain-seen IsSureRise IsSureFall seen start (window_of setup) tints tints_are).1 general))
      | inr red ↦ none (inr ((has_chain-seen IsSurelyIntoRed IsSurelyOutOfRed seen start (window_of setup) tints tints_are).1 red))
    ])

-- one pixel of a cell flashes where another does
carried-same : {C : Type 0} (Changes : C → C → Type 0) (seen other : ℕ → C) (start window : ℕ)
    → ((frame : ℕ) → start ≤ frame → frame ≤ start + window → seen frame ≡ other frame)
    → CarriesOver start window (Between Changes seen) (Between Changes other)
carried-same Changes seen other start window same j k low less high change =
    subst (λ a. Changes a (other k)) (same j low (omega arith)) (subst (λ b. Changes (seen j) b) (same k (omega arith) high) change)

pub flagged-all : (scene : Scene) (setup : Setup) (edges : Edges) (start i column row : ℕ) (run : LooseRun) → IsValid scene
    → AreCutsOf scene setup start edges → i < cells_between edges.xs edges.ys → IsLooseRunIn own scene setup start run
    → IsInside (cell_of edges.xs edges.ys i) column row → IsSurelyFlagged own (tints_of scene run) setup start column row
    → AreSurelyFlagged scene setup start (cell_of edges.xs edges.ys i)
flagged-all scene setup edges start i column row run valid cuts known is inside flagged other other_column other_row other_is other_inside =
    let seen : ℕ → Tint = λ frame. tints_of scene run frame column row in
    let there : ℕ → Tint = λ frame. tints_of scene other frame other_column other_row in
    let same : (frame : ℕ) → start ≤ frame → frame ≤ start + window_of setup → seen frame ≡ there frame = λ frame low high.
    own-alike scene setup cuts.frames edges i frame column row other_column other_row (run frame) (other frame) valid
    (cut-alike scene setup cuts.frames edges cuts.cut) known
    (let cover = cuts.cover in omega arith) (run-own scene setup start frame run is low high) (run-own scene setup start frame other other_is low high)
    inside other_inside in
    elim flagged [
      | inl general ↦ inl (has_chain-carried IsSureRise IsSureFall IsSureRise IsSureFall seen there start (window_of setup)
          (carried-same IsSureRise seen there start (window_of setup) same) (carried-same IsSureFall seen there start (window_of setup) same) general)
      | inr red ↦ inr (has_chain-carried (SurelyInto own) (SurelyOut own) (SurelyInto own) (SurelyOut own) seen there start (window_of setup)
          (carried-same (SurelyInto own) seen there start (window_of setup) same) (carried-same (SurelyOut own) seen there start (window_of setup) same) red)
    ]
