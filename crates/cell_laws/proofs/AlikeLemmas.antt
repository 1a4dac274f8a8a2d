-- Two pixels of one cell are covered alike: between two neighbouring edges lies no end of a box.
use Rattle.std.proofs.Common.{ℕ, ℤ, pos, negsuc, true, false, ◌≡◌, ◌+◌, ◌<◌, ◌≤◌, ◌+ℤ◌, ◌≤ℤ◌, ◌<ℤ◌, ◌∙◌, List, length, get_or, int_le, int_lt, arith, inl, inr, refl, sym}
use Rattle.std.specs.Prelude.{Contains}
use Rattle.std.specs.List.Sorted.{IsStrictlyIncreasing}
use Rattle.std.proofs.lemmas.Bool.{cases_lt}
use Rattle.std.proofs.lemmas.Int.{ints, by_lt_z}
use Rattle.std.proofs.lemmas.List.{get_or_default}
use Rattle.page_model.specs.Cells.{AreEdges, inside}
use Rattle.page_model.specs.Enclosure.{Loose}
use Rattle.page_model.specs.TintOf.{spans_surely}
use Rattle.cell_laws.proofs.RisingLemmas.{rising-between}

-- no edge lies between two neighbouring ones
none-between : (edges : List ℕ) (i k at : ℕ) → IsStrictlyIncreasing edges → i + 1 < length edges → k < length edges
    → get_or edges k 0 ≡ at → get_or edges i 0 < at → at < get_or edges (i + 1) 0 → ⊥
none-between edges i k at rising within known is above below =
    elim (cases_lt i k) [
      | inl after ↦ let order = rising-between edges (i + 1) k rising (omega arith) known in omega arith
      | inr before ↦ let order = rising-between edges k i rising (omega arith) (omega arith) in omega arith
    ]

contained-between : (edges : List ℕ) (i n : ℕ) → IsStrictlyIncreasing edges → i + 1 < length edges → Contains edges n
    → get_or edges i 0 < n → n < get_or edges (i + 1) 0 → ⊥
contained-between edges i n rising within (k, known, is) above below =
    none-between edges i k n rising within known (get_or_default edges k 0 n known ∙ is) above below

-- an end of a box inside the side is an edge, so two places between neighbouring edges lie on one side of it
not-between : (size : ℕ) (Cut : ℕ → Type 0) (edges : List ℕ) (t : ℤ) (i a b : ℕ) → AreEdges size Cut edges
    → ((n : ℕ) → 0 < n → n < size → t ≡ pos n → Cut n) → i + 1 < length edges → get_or edges (i + 1) 0 ≤ size
    → get_or edges i 0 ≤ a → b < get_or edges (i + 1) 0 → pos a <ℤ t → t ≤ℤ pos b → ⊥
not-between size Cut edges (pos n) i a b are cuts within limit low high above below =
    let some : a < n = omega (arith, ints) in
    let most : n ≤ b = omega (arith, ints) in
    contained-between edges i n are.rising within
    ((are.all n).1 (inside (omega arith) (omega arith) (cuts n (omega arith) (omega arith) refl))) (omega arith) (omega arith)
not-between size Cut edges (negsuc n) i a b are cuts within limit low high above below = absurd (omega (arith, ints))

-- a test against such an end answers alike at both places
lt-alike : (t : ℤ) (a b : ℕ) → (pos a <ℤ t → t ≤ℤ pos b → ⊥) → (pos b <ℤ t → t ≤ℤ pos a → ⊥)
    → int_lt (pos a) t ≡ int_lt (pos b) t
lt-alike t a b one other =
    by_lt_z (pos a) t
    (λ less. by_lt_z (pos b) t
    (λ also. lt-yes (pos a) t less ∙ sym (lt-yes (pos b) t also))
    (λ most. absurd (one less most)))
    (λ most. by_lt_z (pos b) t
    (λ less. absurd (other less most))
    (λ also. lt-no (pos a) t most ∙ sym (lt-no (pos b) t also)))
  where
    lt-yes : (x y : ℤ) → x <ℤ y → int_lt x y ≡ true
    lt-yes x y h = let e : true ≡ int_lt x y = omega (arith, ints) in sym e

    lt-no : (x y : ℤ) → y ≤ℤ x → int_lt x y ≡ false
    lt-no x y h = let e : false ≡ int_lt x y = omega (arith, ints) in sym e

le-alike : (t : ℤ) (a b : ℕ) → (pos a <ℤ t → t ≤ℤ pos b → ⊥) → (pos b <ℤ t → t ≤ℤ pos a → ⊥)
    → int_le t (pos a) ≡ int_le t (pos b)
le-alike t a b one other =
    by_lt_z (pos a) t
    (λ less. by_lt_z (pos b) t
    (λ also. le-no t (pos a) less ∙ sym (le-no t (pos b) also))
    (λ most. absurd (one less most)))
    (λ most. by_lt_z (pos b) t
    (λ less. absurd (other less most))
    (λ also. le-yes t (pos a) most ∙ sym (le-yes t (pos b) also)))
  where
    le-yes : (x y : ℤ) → x ≤ℤ y → int_le x y ≡ true
    le-yes x y h = let e : true ≡ int_le x y = omega (arith, ints) in sym e

    le-no : (x y : ℤ) → y <ℤ x → int_le x y ≡ false
    le-no x y h = let e : false ≡ int_le x y = omega (arith, ints) in sym e

-- two places between neighbouring edges of a side
pub record AreTogether (edges : List ℕ) (i a b : ℕ) : Type 0 where
  pub within : i + 1 < length edges
  pub low_one : get_or edges i 0 ≤ a
  pub high_one : a < get_or edges (i + 1) 0
  pub low_other : get_or edges i 0 ≤ b
  pub high_other : b < get_or edges (i + 1) 0

-- each end of a box that lies inside the side is a cut
abbrev pub CutsInside : ℕ → (ℕ → Type 0) → ℤ → Type 0
CutsInside size Cut t = (n : ℕ) → 0 < n → n < size → t ≡ pos n → Cut n

-- a box spans both alike
pub spans-alike : (size : ℕ) (Cut : ℕ → Type 0) (edges : List ℕ) (from extent : Loose) (i a b : ℕ) → AreEdges size Cut edges
    → get_or edges (i + 1) 0 ≤ size → AreTogether edges i a b → CutsInside size Cut from.lo
    → CutsInside size Cut from.hi → CutsInside size Cut (from.lo +ℤ extent.lo) → CutsInside size Cut (from.hi +ℤ extent.hi)
    → spans_surely from extent a ≡ spans_surely from extent b
spans-alike size Cut edges from extent i a b are limit both c1 c2 c3 c4 =
    rw (
      lt-alike from.lo a b (one from.lo c1) (other from.lo c1),
      le-alike (from.hi +ℤ extent.hi) a b (one (from.hi +ℤ extent.hi) c4) (other (from.hi +ℤ extent.hi) c4),
      le-alike from.hi a b (one from.hi c2) (other from.hi c2),
      lt-alike (from.lo +ℤ extent.lo) a b (one (from.lo +ℤ extent.lo) c3) (other (from.lo +ℤ extent.lo) c3),
    ) refl
  where
    one : (t : ℤ) → CutsInside size Cut t → pos a <ℤ t → t ≤ℤ pos b → ⊥
    one t cuts = not-between size Cut edges t i a b are cuts both.within limit both.low_one both.high_other

    other : (t : ℤ) → CutsInside size Cut t → pos b <ℤ t → t ≤ℤ pos a → ⊥
    other t cuts = not-between size Cut edges t i b a are cuts both.within limit both.low_other both.high_one
