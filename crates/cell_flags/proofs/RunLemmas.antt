-- By states of the own kind in the frames below a number all pixels of a cell are covered alike.
use Rattle.std.proofs.Common.{◌≡◌, ℕ, ◌<◌, refl, subst}
use Rattle.std.specs.Prelude.{Some, length, slice_get}
use Rattle.page_model.specs.declared.scene.Layer.{Layer}
use Rattle.page_model.specs.declared.scene.Scene.{Scene}
use Rattle.page_model.specs.declared.setup.Setup.{Setup}
use Rattle.page_model.specs.Cells.{cells_between}
use Rattle.page_model.specs.Enclosure.{LooseState, Sureness, surely, surely_not, maybe, own, IsLooseStateAt}
use Rattle.page_model.specs.TintOf.{covers_surely}
use Rattle.wide_laws.proofs.LooseLemmas.{loose_state-unique}
use Rattle.cell_laws.proofs.RunLemmas.{runs-met}
use Rattle.region_split.specs.Cutting.{Edges, IsCut, IsInside, cell_of}
use Rattle.cell_flags.specs.Flags.{AreAlikeCells}

-- of two answers it can be told whether they are one
sureness-stable : (a b : Sureness) → ((a ≡ b → ⊥) → ⊥) → a ≡ b
sureness-stable surely surely stable = refl
sureness-stable surely surely_not stable = absurd (stable (λ e. cc))
sureness-stable surely maybe stable = absurd (stable (λ e. cc))
sureness-stable surely_not surely stable = absurd (stable (λ e. cc))
sureness-stable surely_not surely_not stable = refl
sureness-stable surely_not maybe stable = absurd (stable (λ e. cc))
sureness-stable maybe surely stable = absurd (stable (λ e. cc))
sureness-stable maybe surely_not stable = absurd (stable (λ e. cc))
sureness-stable maybe maybe stable = refl

-- the cells of a scene that is cut in some frames are alike in them
pub cut-alike : (scene : Scene) (setup : Setup) (frames : ℕ) (edges : Edges) → IsCut scene setup frames edges
    → AreAlikeCells scene setup frames edges
cut-alike scene setup frames edges cut = record { sound = cut.sound; alike = cut.alike; few_enough = cut.few_enough }

-- two pixels of a cell are covered alike by a layer's state
pub covers-alike : (scene : Scene) (setup : Setup) (frames : ℕ) (edges : Edges) (frame number : ℕ) (layer : Layer) (state : LooseState)
    (i column row other_column other_row : ℕ) → AreAlikeCells scene setup frames edges → frame < frames → number < length scene.layers
    → slice_get scene.layers number ≡ Some layer → IsLooseStateAt own scene setup frame layer state → i < cells_between edges.xs edges.ys
    → IsInside (cell_of edges.xs edges.ys i) column row → IsInside (cell_of edges.xs edges.ys i) other_column other_row
    → covers_surely state column row ≡ covers_surely state other_column other_row
covers-alike scene setup frames edges frame number layer state i column row other_column other_row cells less below there is known one other =
    sureness-stable (covers_surely state column row) (covers_surely state other_column other_row) (λ differ.
    runs-met own scene setup frames (λ run are.
    let same : run frame number ≡ state =
    loose_state-unique own scene setup frame layer (run frame number) state (are frame number layer less there) is in
    differ (subst (λ (s : LooseState). covers_surely s column row ≡ covers_surely s other_column other_row) same
    (cells.alike run are frame number i column row other_column other_row less below known one other))))
