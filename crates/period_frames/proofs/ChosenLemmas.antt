-- The animations of chosen layers: of one layer more.
use Rattle.std.proofs.Common.{◌≡◌, ℕ, ◌+◌, ◌<◌, Bool, true, false, List, [], ◌∷◌, ◌++◌, length, take, get_or, refl, arith, ap, subst, sym, ◌∙◌, inl, inr, append-nil}
use Rattle.std.specs.Prelude.{slice_index_or}
use Rattle.std.specs.List.{items_where_true}
use Rattle.std.proofs.lemmas.Grind.{take_at_read, flat_map-append}
use Rattle.std.proofs.lemmas.List.{length-take-le}
use Rattle.std.proofs.lemmas.Option.{get_or_from_slice_get, slice_get_cases}
use Rattle.page_model.specs.declared.scene.Layer.{Layer}
use Rattle.page_model.specs.Horizon.{animations_of}

-- one item more, which is chosen
chosen-push : {X : Type 0} (bs : List Bool) (xs : List X) (x : X) → length bs ≡ length xs
    → items_where_true (bs ++ (true ∷ [])) (xs ++ (x ∷ [])) ≡ items_where_true bs xs ++ (x ∷ [])
chosen-push [] [] x same = refl
chosen-push [] (y ∷ ys) x same = absurd (omega arith)
chosen-push (b ∷ bs) [] x same = absurd (omega arith)
chosen-push (true ∷ bs) (y ∷ ys) x same = ap (λ zs. y ∷ zs) (chosen-push bs ys x (omega arith))
chosen-push (false ∷ bs) (y ∷ ys) x same = chosen-push bs ys x (omega arith)

-- and one that isn't
left-push : {X : Type 0} (bs : List Bool) (xs : List X) (x : X) → length bs ≡ length xs
    → items_where_true (bs ++ (false ∷ [])) (xs ++ (x ∷ [])) ≡ items_where_true bs xs
left-push [] [] x same = refl
left-push [] (y ∷ ys) x same = absurd (omega arith)
left-push (b ∷ bs) [] x same = absurd (omega arith)
left-push (true ∷ bs) (y ∷ ys) x same = ap (λ zs. y ∷ zs) (left-push bs ys x (omega arith))
left-push (false ∷ bs) (y ∷ ys) x same = left-push bs ys x (omega arith)

-- so the animations of the chosen layers are more by those of a chosen one
pub chosen-more : (bs : List Bool) (layers : List Layer) (layer : Layer) → length bs ≡ length layers
    → animations_of (items_where_true (bs ++ (true ∷ [])) (layers ++ (layer ∷ [])))
    ≡ animations_of (items_where_true bs layers) ++ layer.anims
chosen-more bs layers layer same =
    ap animations_of (chosen-push bs layers layer same)
    ∙ (flat_map-append (λ (l : Layer). l.anims) (items_where_true bs layers) (layer ∷ [])
    ∙ ap (λ xs. animations_of (items_where_true bs layers) ++ xs) (append-nil layer.anims))

pub left-more : (bs : List Bool) (layers : List Layer) (layer : Layer) → length bs ≡ length layers
    → animations_of (items_where_true (bs ++ (false ∷ [])) (layers ++ (layer ∷ [])))
    ≡ animations_of (items_where_true bs layers)
left-more bs layers layer same = ap animations_of (left-push bs layers layer same)

-- the layers before a number, and the one of that number
one-more : {X : Type 0} (xs : List X) (i : ℕ) (d x : X) → i < length xs → get_or xs i d ≡ x → take (i + 1) xs ≡ take i xs ++ (x ∷ [])
one-more xs i d x within is = subst (λ y. take (i + 1) xs ≡ take i xs ++ (y ∷ [])) is (take_at_read xs i d within).1

as-many : (bs : List Bool) (layers : List Layer) (i : ℕ) → length bs ≡ length layers → i < length layers
    → length (take i bs) ≡ length (take i layers)
as-many bs layers i same within = length-take-le i bs (omega arith) ∙ sym (length-take-le i layers (omega arith))

pub chosen-before : (bs : List Bool) (layers : List Layer) (i : ℕ) (layer : Layer) → length bs ≡ length layers → i < length layers
    → get_or bs i false ≡ true → slice_index_or layers i layer ≡ layer
    → animations_of (items_where_true (take (i + 1) bs) (take (i + 1) layers))
    ≡ animations_of (items_where_true (take i bs) (take i layers)) ++ layer.anims
chosen-before bs layers i layer same within chosen is =
    rw (one-more bs i false true (omega arith) chosen, one-more layers i layer layer within is)
    (chosen-more (take i bs) (take i layers) layer (as-many bs layers i same within))

pub left-before : (bs : List Bool) (layers : List Layer) (i : ℕ) → length bs ≡ length layers → i < length layers
    → get_or bs i false ≡ false
    → animations_of (items_where_true (take (i + 1) bs) (take (i + 1) layers))
    ≡ animations_of (items_where_true (take i bs) (take i layers))
left-before bs layers i same within left =
    elim (slice_get_cases layers i).1 [
      | inr past ↦ absurd (omega (arith, past.0))
      | inl found ↦
          rw (
            one-more bs i false false (omega arith) left,
            one-more layers i found.0 found.0 within (get_or_from_slice_get layers i found.0 found.0 found.2),
          ) (left-more (take i bs) (take i layers) found.0 (as-many bs layers i same within))
    ]
