-- There is one first bad window, one first position with the most flagged pixels, and one number of them at a position.
use Rattle.std.proofs.Common.{◌≡◌, ℕ, ℤ, ◌≤◌, arith, inl, inr, subst, sym}
use Rattle.std.proofs.lemmas.Bool.{cases_lt}
use Rattle.std.proofs.lemmas.Int.{ints}
use Rattle.page_model.specs.declared.setup.Setup.{Setup}
use Rattle.page_model.specs.Enclosure.{LooseRun}
use Rattle.flash_laws.proofs.MarkLemmas.{area-le}
use Rattle.state_laws.specs.RunLaws.{IsMet}
use Rattle.sweep.specs.Marks.{CountsFlagged, IsFirstMost}
use Rattle.sweep.specs.Verdicts.{IsFirstBad}
use Rattle.page_judge.proofs.StableLemmas.{int-stable, nat-stable}

pub start-unique : (Bad : ℕ → ℤ → ℤ → Type 0) (end other_end start other_start : ℕ) (x y other_x other_y : ℤ)
    → IsFirstBad Bad end start x y → IsFirstBad Bad other_end other_start other_x other_y → start ≡ other_start
start-unique Bad end other_end start other_start x y other_x other_y one other =
    elim (cases_lt start other_start) [
      | inl less ↦ absurd (other.least start x y less one.bad)
      | inr above ↦ elim (cases_lt other_start start) [
        | inl less ↦ absurd (one.least other_start other_x other_y less other.bad)
        | inr below ↦ omega arith
      ]
    ]

count-le : (Flagged : ℕ → ℕ → Type 0) (setup : Setup) (x y : ℤ) (count other : ℕ) → CountsFlagged Flagged setup x y count
    → CountsFlagged Flagged setup x y other → count ≤ other
count-le Flagged setup x y count other one two =
    let le = area-le setup.width setup.height one.marks two.marks
    (λ column row within below is. (two.exact column row within below).1 ((one.exact column row within below).0 is)) in
    omega (arith, le, one.counted, two.counted)

-- two positions that are both the first of those with the most are one
place-unique : (Flagged : ℕ → ℕ → Type 0) (setup : Setup) (x y other_x other_y : ℤ) → IsFirstMost Flagged setup x y
    → IsFirstMost Flagged setup other_x other_y → (x ≡ other_x) × (y ≡ other_y)
place-unique Flagged setup x y other_x other_y one other =
    let up = one.greatest other_x other_y other.most other.has in
    let down = other.greatest x y one.most one.has in
    let most : one.most ≡ other.most = omega (arith, up, down) in
    let there : CountsFlagged Flagged setup other_x other_y one.most = subst (CountsFlagged Flagged setup other_x other_y) (sym most) other.has in
    let here : CountsFlagged Flagged setup x y other.most = subst (CountsFlagged Flagged setup x y) most one.has in
    let below = one.first_row other_x other_y other.right other.down there in
    let above = other.first_row x y one.right one.down here in
    let rows : y ≡ other_y = omega (arith, ints, below, above) in
    let left = one.first_column other_x other.right (subst (λ (row : ℤ). CountsFlagged Flagged setup other_x row one.most) (sym rows) there) in
    let right = other.first_column x one.right (subst (λ (row : ℤ). CountsFlagged Flagged setup x row other.most) rows here) in
    (omega (arith, ints, left, right), rows)

-- the same by whatever meets a fact, where something does
pub places-same : (Meets : LooseRun → Type 0) (Flagged : LooseRun → ℕ → ℕ → Type 0) (setup : Setup) (x y other_x other_y : ℤ) → IsMet Meets
    → ((run : LooseRun) → Meets run → IsFirstMost (Flagged run) setup x y)
    → ((run : LooseRun) → Meets run → IsFirstMost (Flagged run) setup other_x other_y) → (x ≡ other_x) × (y ≡ other_y)
places-same Meets Flagged setup x y other_x other_y met one other = (
  int-stable x other_x (λ apart. met (λ run is. apart (place-unique (Flagged run) setup x y other_x other_y (one run is) (other run is)).0)),
  int-stable y other_y (λ apart. met (λ run is. apart (place-unique (Flagged run) setup x y other_x other_y (one run is) (other run is)).1)),
)

pub counts-same : (Meets : LooseRun → Type 0) (Flagged : LooseRun → ℕ → ℕ → Type 0) (setup : Setup) (x y : ℤ) (count other : ℕ) → IsMet Meets
    → ((run : LooseRun) → Meets run → CountsFlagged (Flagged run) setup x y count)
    → ((run : LooseRun) → Meets run → CountsFlagged (Flagged run) setup x y other) → count ≡ other
counts-same Meets Flagged setup x y count other met one two =
    nat-stable count other (λ apart. met (λ run is.
    let up = count-le (Flagged run) setup x y count other (one run is) (two run is) in
    let down = count-le (Flagged run) setup x y other count (two run is) (one run is) in
    apart (omega (arith, up, down))))
