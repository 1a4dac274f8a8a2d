-- Tints are told frame by frame, and of each frame cell by cell.
use Rattle.std.proofs.Common.{◌≡◌, ◌∙◌, ℕ, ◌+◌, ◌*◌, ◌/◌, ◌%◌, ◌<◌, List, [], ◌∷◌, ◌++◌, length, get_or, set, slice_get, Some, ap, arith, inl, inr, refl, subst, sym, length-append, length-set, get_or-set_other, get_or-set_same}
use Rattle.std.specs.Prelude.{slice_index}
use Rattle.std.proofs.lemmas.Bool.{cases_eq, cases_lt}
use Rattle.std.proofs.lemmas.Nat.{div-mul-add, mod-mul-add}
use Rattle.std.proofs.lemmas.Option.{get_or_from_slice_get, slice_get-get_or, slice_get_within}
use Rattle.page_model.specs.declared.colour.Tint.{Tint}
use Rattle.page_model.specs.declared.scene.Scene.{Scene}
use Rattle.page_model.specs.declared.setup.Setup.{Setup}
use Rattle.page_model.specs.Enclosure.{LooseState}
use Rattle.page_model.specs.TintOf.{tint_of}
use Rattle.frame_state.specs.States.{AreOwn}
use Rattle.paint_blend.specs.Paint.{IsOrdered}
use Rattle.region_split.specs.Cutting.{Edges, cell_of}
use Rattle.cell_tints.specs.Tints.{AreTintsBefore, AreTintsIn, IsOwnTint, cells_of}
use Rattle.cell_tints.proofs.ListLemmas.{slice_get-back, slice_get-front}

-- what is told of a pixel in a frame
pub own-tint : (scene : Scene) (setup : Setup) (frame x y : ℕ) (tint : Tint)
    → ((states : ℕ → LooseState) × AreOwn scene setup frame states × (tint ≡ tint_of scene states x y)) → IsOrdered tint
    → IsOwnTint scene setup frame x y tint
own-tint scene setup frame x y tint own ordered = record { states = own.0; own_states = own.1; is = own.2; ordered = ordered }

pub tints-none : (scene : Scene) (setup : Setup) (edges : Edges) (start : ℕ) → AreTintsBefore scene setup edges start 0 []
tints-none scene setup edges start = record {
  all = refl;
  each = λ k i tint within e. absurd (cc);
}

-- a tint of a cell's first pixel, which is told by its column and row
at-cell : (scene : Scene) (setup : Setup) (edges : Edges) (frame i x y : ℕ) (tint : Tint) → (cell_of edges.xs edges.ys i).x ≡ x
    → (cell_of edges.xs edges.ys i).y ≡ y → IsOwnTint scene setup frame x y tint
    → IsOwnTint scene setup frame (cell_of edges.xs edges.ys i).x (cell_of edges.xs edges.ys i).y tint
at-cell scene setup edges frame i x y tint column row own =
    subst (λ n. IsOwnTint scene setup frame (cell_of edges.xs edges.ys i).x n tint) (sym row)
    (subst (λ n. IsOwnTint scene setup frame n y tint) (sym column) own)

-- one tint more is written, that of the next of some cells in a frame
pub tints-written : (scene : Scene) (setup : Setup) (edges : Edges) (frame : ℕ) (chosen : List ℕ) (i x y : ℕ) (old : List Tint) (tint : Tint)
    → AreTintsIn scene setup edges frame chosen i old → i < length old → (cell_of edges.xs edges.ys (slice_index chosen i)).x ≡ x
    → (cell_of edges.xs edges.ys (slice_index chosen i)).y ≡ y
    → IsOwnTint scene setup frame x y tint → AreTintsIn scene setup edges frame chosen (i + 1) (set old i tint)
tints-written scene setup edges frame chosen i x y old tint are inside column row own k other before e =
    let there : get_or (set old i tint) k other ≡ other = get_or_from_slice_get (set old i tint) k other other e in
    elim (cases_eq k i) [
      | inl same ↦
          let is : tint ≡ other =
          sym (get_or-set_same old i tint other inside) ∙ ap (λ n. get_or (set old i tint) n other) (sym same) ∙ there in
          subst (λ (t : Tint). IsOwnTint scene setup frame (first_x k) (first_y k) t) is
          (subst (λ n. IsOwnTint scene setup frame (first_x n) (first_y n) tint) (sym same)
          (at-cell scene setup edges frame (slice_index chosen i) x y tint column row own))
      | inr apart ↦
          let known : k < length old = let h = slice_get_within (set old i tint) k other e in omega (arith, h, length-set old i tint) in
          are k other (omega (arith, before, apart))
          (slice_get-get_or old k other known ∙ ap Some (sym (get_or-set_other old i k tint other apart) ∙ there))
    ]
  where
    first_x : ℕ → ℕ
    first_x n = (cell_of edges.xs edges.ys (slice_index chosen n)).x

    first_y : ℕ → ℕ
    first_y n = (cell_of edges.xs edges.ys (slice_index chosen n)).y

-- one tint more is that of the next cell in a frame
pub tints-more : (scene : Scene) (setup : Setup) (edges : Edges) (start k i x y : ℕ) (old new : List Tint) (tint : Tint)
    → AreTintsBefore scene setup edges start (k * cells_of edges + i) old → new ≡ old ++ tint ∷ [] → i < cells_of edges
    → (cell_of edges.xs edges.ys i).x ≡ x → (cell_of edges.xs edges.ys i).y ≡ y → IsOwnTint scene setup (start + k) x y tint
    → AreTintsBefore scene setup edges start (k * cells_of edges + (i + 1)) new
tints-more scene setup edges start k i x y old new tint are is inside column row own =
    let cells : ℕ = cells_of edges in record {
      all = ap length is ∙ omega (arith, length-append old (tint ∷ []), are.all);
      each = λ frame cell other within e.
          let e' : slice_get (old ++ tint ∷ []) (frame * cells + cell) ≡ Some other =
          sym (ap (λ (ts : List Tint). slice_get ts (frame * cells + cell)) is) ∙ e in
          elim (cases_lt (frame * cells + cell) (length old)) [
            | inl before ↦ are.each frame cell other within (sym (slice_get-front old (tint ∷ []) (frame * cells + cell) before) ∙ e')
            | inr after ↦
                let there : frame * cells + cell < length (old ++ tint ∷ []) = slice_get_within (old ++ tint ∷ []) (frame * cells + cell) other e' in
                let last : frame * cells + cell ≡ length old + 0 = omega (arith, length-append old (tint ∷ []), there) in
                let place : k * cells + i ≡ frame * cells + cell = omega (arith, are.all, last) in
                let same_frame : k ≡ frame = sym (div-mul-add k cells i inside) ∙ ap (λ n. n / cells) place ∙ div-mul-add frame cells cell within in
                let same_cell : i ≡ cell = sym (mod-mul-add k cells i inside) ∙ ap (λ n. n % cells) place ∙ mod-mul-add frame cells cell within in
                let here : slice_get (tint ∷ []) 0 ≡ Some other =
                sym (slice_get-back old (tint ∷ []) 0) ∙ ap (λ n. slice_get (old ++ tint ∷ []) n) (sym last) ∙ e' in
                let same : tint ≡ other = cc in
                let at_frame = subst (λ n. IsOwnTint scene setup (start + n) x y tint) same_frame own in
                let at_first = at-cell scene setup edges (start + frame) i x y tint column row at_frame in
                let at_cell = subst (λ n. IsOwnTint scene setup (start + frame) (cell_of edges.xs edges.ys n).x (cell_of edges.xs edges.ys n).y tint) same_cell at_first in
                subst (λ (t : Tint). IsOwnTint scene setup (start + frame) (cell_of edges.xs edges.ys cell).x (cell_of edges.xs edges.ys cell).y t) same at_cell
          ];
    }
