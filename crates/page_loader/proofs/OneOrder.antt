-- Boxes have one order in which they are painted.
use Rattle.std.proofs.Common.{◌≡◌, ℕ, zero, suc, ◌<◌, ◌⊎◌, inl, inr, List, [], ◌∷◌, length, refl, sym, ◌∙◌, subst, arith, Contains}
use Rattle.std.specs.Prelude.{◌<ℤ◌, slice_index, slice_index_or}
use Rattle.std.proofs.lemmas.Int.{ints}
use Rattle.page_model.specs.declared.scene.Layer.{Layer}
use Rattle.page_model.specs.ValidScene.{IsBefore, IsPaintOrder}
use Rattle.cascade.proofs.SourceLemmas.{item_there}

-- no two boxes are before each other
not_both : (a b : Layer) (first second : ℕ) → (a.z <ℤ b.z) ⊎ ((a.z ≡ b.z) × (first < second)) → (b.z <ℤ a.z) ⊎ ((b.z ≡ a.z) × (second < first)) → ⊥
not_both a b first second (inl less) (inl more) = omega (arith, ints, less, more)
not_both a b first second (inl less) (inr same) = omega (arith, ints, less, same.0)
not_both a b first second (inr same) (inl more) = omega (arith, ints, same.0, more)
not_both a b first second (inr same) (inr also) = omega (arith, same.1, also.1)

one_way : (layers : List Layer) (first second : ℕ) → first < length layers → second < length layers → IsBefore layers first second → IsBefore layers second first → ⊥
one_way layers first second within also before behind =
    let a = item_there layers first within in
    let b = item_there layers second also in
    not_both a.0 b.0 first second (before a.0 b.0 a.1 b.1) (behind b.0 a.0 b.1 a.1)

Sorted : List Layer → List ℕ → Type 0
Sorted layers order = (i j : ℕ) → i < j → j < length order → IsBefore layers (slice_index order i) (slice_index order j)

-- within a list an item doesn't depend on what stands for a missing one
same_item : (order : List ℕ) (k a b : ℕ) → k < length order → slice_index_or order k a ≡ slice_index_or order k b
same_item [] k a b within = absurd (omega (arith, within))
same_item (box ∷ order) zero a b within = refl
same_item (box ∷ order) (suc k) a b within = same_item order k a b (omega (arith, within))

-- the first box is before each other of the order
first_before : (layers : List Layer) (box : ℕ) (order : List ℕ) (other : ℕ) → Sorted layers (box ∷ order) → Contains order other → IsBefore layers box other
unfolding Sorted
first_before layers box order other sorted at =
    subst (IsBefore layers box) (same_item order at.0 0 other at.1 ∙ at.2) (sorted 0 (suc at.0) (omega arith) (omega (arith, at.1)))

rest_sorted : (layers : List Layer) (box : ℕ) (order : List ℕ) → Sorted layers (box ∷ order) → Sorted layers order
unfolding Sorted
rest_sorted layers box order sorted i j less within = sorted (suc i) (suc j) (omega (arith, less)) (omega (arith, within))

-- the boxes of an order
head_in : (box : ℕ) (order : List ℕ) → Contains (box ∷ order) box
head_in box order = (zero, omega arith, refl)

tail_in : (box : ℕ) (order : List ℕ) (other : ℕ) → Contains order other → Contains (box ∷ order) other
tail_in box order other at = (suc at.0, omega (arith, at.1), at.2)

in_tail : (box : ℕ) (order : List ℕ) (other : ℕ) → Contains (box ∷ order) other → (box ≡ other) ⊎ Contains order other
in_tail box order other (zero, within, is) = inl is
in_tail box order other (suc k, within, is) = inr (k, omega (arith, within), is)

same_order : (layers : List Layer) (order others : List ℕ) → Sorted layers order → Sorted layers others → ((box : ℕ) → Contains order box → box < length layers)
    → ((box : ℕ) → Contains order box → Contains others box) → ((box : ℕ) → Contains others box → Contains order box) → others ≡ order
same_order layers [] [] sorted also within into back = refl
same_order layers [] (b ∷ others) sorted also within into back = let at = back b (head_in b others) in absurd (omega (arith, at.1))
same_order layers (a ∷ order) [] sorted also within into back = let at = into a (head_in a order) in absurd (omega (arith, at.1))
same_order layers (a ∷ order) (b ∷ others) sorted also within into back =
    let first : b ≡ a = elim (in_tail b others a (into a (head_in a order))) [
      | inl same ↦ same
      | inr later ↦ elim (in_tail a order b (back b (head_in b others))) [
        | inl same ↦ sym same
        | inr behind ↦ absurd (one_way layers a b (within a (head_in a order)) (within b (back b (head_in b others))) (first_before layers a order b sorted behind) (first_before layers b others a also later))
      ]
    ] in
    let itself : (box : ℕ) → box ≡ a → Contains order box → ⊥ = λ box is at.
    one_way layers a a (within a (head_in a order)) (within a (head_in a order)) (first_before layers a order a sorted (subst (Contains order) is at)) (first_before layers a order a sorted (subst (Contains order) is at)) in
    let itself_too : (box : ℕ) → box ≡ b → Contains others box → ⊥ = λ box is at.
    let here = within b (back b (head_in b others)) in
    one_way layers b b here here (first_before layers b others b also (subst (Contains others) is at)) (first_before layers b others b also (subst (Contains others) is at)) in
    let rest = same_order layers order others (rest_sorted layers a order sorted) (rest_sorted layers b others also) (λ box at. within box (tail_in a order box at))
    (λ box at. elim (in_tail b others box (into box (tail_in a order box at))) [
      | inl is ↦ absurd (itself box (sym is ∙ first) at)
      | inr there ↦ there
    ])
    (λ box at. elim (in_tail a order box (back box (tail_in b others box at))) [
      | inl is ↦ absurd (itself_too box (sym is ∙ sym first) at)
      | inr there ↦ there
    ]) in
    (λ i. first i ∷ rest i)

pub one_order : (layers : List Layer) (order others : List ℕ) → IsPaintOrder layers order → IsPaintOrder layers others → others ≡ order
unfolding Sorted
one_order layers order others is also =
    same_order layers order others is.sorted also.sorted (λ box at. ((is.boxes box).0 at).1)
    (λ box at. (also.boxes box).1 ((is.boxes box).0 at)) (λ box at. (is.boxes box).1 ((also.boxes box).0 at))
