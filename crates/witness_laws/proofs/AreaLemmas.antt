-- The pixels of parts that are apart add up.
use Rattle.std.proofs.Common.{◌≡◌, ◌∙◌, ℕ, suc, Bool, false, ◌+◌, ◌*◌, ◌<◌, ◌≤◌, List, [], ◌∷◌, slice_get, Some, ap, arith, inl, inr, refl, subst, sym}
use Rattle.std.specs.Prelude.{IsTrue, ◌&&◌, ◌||◌, nat_le, nat_lt, sum_by}
use Rattle.std.specs.List.{list_any}
use Rattle.std.proofs.lemmas.Bool.{and_from, and_parts, cases_Bool, le-leb, leb-true, lt-ltb, ltb-true}
use Rattle.std.proofs.lemmas.List.Sums.{sum_by-cons}
use Rattle.page_model.specs.declared.witness.Part.{Part}
use Rattle.page_model.specs.Flash.{area, sum_below}
use Rattle.page_model.specs.WitnessConditions.{IsOfPart}
use Rattle.flash_laws.specs.MarkLaws.{in_part}
use Rattle.flash_laws.proofs.MarkLemmas.{area-add, area-part}
use Rattle.flash_laws.proofs.SumLemmas.{sum-none}

-- the pixels of a part, and of some part
abbrev pub in_this : Part → ℕ → ℕ → Bool
in_this part column row = in_part part.x part.y part.width part.height column row

abbrev pub in_some : List Part → ℕ → ℕ → Bool
in_some parts column row = list_any (λ (part : Part). in_this part column row) parts

abbrev pub size_of : Part → ℕ
size_of part = part.width * part.height

pub in_this-means : (part : Part) (column row : ℕ) → IsTrue (in_this part column row) → IsOfPart part column row
in_this-means part column row h =
    let x : ℕ = part.x in
    let y : ℕ = part.y in
    let one = and_parts (nat_le x column) (nat_lt column (x + part.width) && (nat_le y row && nat_lt row (y + part.height))) h in
    let two = and_parts (nat_lt column (x + part.width)) (nat_le y row && nat_lt row (y + part.height)) one.1 in
    let three = and_parts (nat_le y row) (nat_lt row (y + part.height)) two.1 in
    record {
      right_of = leb-true x column one.0;
      left_of = ltb-true column (x + part.width) two.0;
      below = leb-true y row three.0;
      above = ltb-true row (y + part.height) three.1;
    }

pub in_this-from : (part : Part) (column row : ℕ) → IsOfPart part column row → IsTrue (in_this part column row)
in_this-from part column row is =
    let x : ℕ = part.x in
    let y : ℕ = part.y in
    and_from (nat_le x column) (nat_lt column (x + part.width) && (nat_le y row && nat_lt row (y + part.height))) (le-leb x column is.right_of)
    (and_from (nat_lt column (x + part.width)) (nat_le y row && nat_lt row (y + part.height)) (lt-ltb column (x + part.width) is.left_of)
    (and_from (nat_le y row) (nat_lt row (y + part.height)) (le-leb y row is.below) (lt-ltb row (y + part.height) is.above)))

-- a pixel of some part is one of a part at a place
pub record IsHeldAt (parts : List Part) (column row : ℕ) : Type 0 where
  pub place : ℕ
  pub part : Part
  pub there : slice_get parts place ≡ Some part
  pub inside : IsTrue (in_this part column row)

pub held-found : (parts : List Part) (column row : ℕ) → IsTrue (in_some parts column row) → IsHeldAt parts column row
held-found [] column row h = absurd (cc)
held-found (part ∷ rest) column row h =
    elim (cases_Bool (in_this part column row)) [
      | inl here ↦ record { place = 0; part = part; there = refl; inside = here }
      | inr not_here ↦
          let later : IsTrue (in_some rest column row) =
          subst (λ (b : Bool). IsTrue (b || in_some rest column row)) not_here h in
          let found = held-found rest column row later in
          record { place = suc found.place; part = found.part; there = found.there; inside = found.inside }
    ]

-- parts are apart
abbrev pub AreApartParts : List Part → Type 0
AreApartParts parts =
    (i j : ℕ) (first second : Part) → i < j → slice_get parts i ≡ Some first → slice_get parts j ≡ Some second
    → (column row : ℕ) → IsOfPart first column row → IsOfPart second column row → ⊥

-- and lie in the viewport
abbrev pub LieWithin : ℕ → ℕ → List Part → Type 0
LieWithin width height parts =
    (i : ℕ) (part : Part) → slice_get parts i ≡ Some part → (part.x + part.width ≤ width) × (part.y + part.height ≤ height)

none-marked : (width height : ℕ) → area width height (λ column row. false) ≡ 0
none-marked width height =
    sum-none width (λ column. sum_below height (λ row. 0)) (λ column within. sum-none height (λ row. 0) (λ row below. refl))

pub area-of-parts : (width height : ℕ) (parts : List Part) → LieWithin width height parts → AreApartParts parts
    → area width height (in_some parts) ≡ sum_by size_of parts
area-of-parts width height [] within apart = none-marked width height
area-of-parts width height (part ∷ rest) within apart =
    let here = within 0 part refl in
    let both : area width height (in_some (part ∷ rest)) ≡ area width height (in_this part) + area width height (in_some rest) =
    area-add width height (in_this part) (in_some rest) (λ column row _ _ one other.
    let found = held-found rest column row other in
    apart 0 (suc found.place) part found.part (omega arith) refl found.there column row (in_this-means part column row one)
    (in_this-means found.part column row found.inside)) in
    let first : area width height (in_this part) ≡ part.width * part.height =
    area-part width height part.x part.y part.width part.height here.0 here.1 in
    let later = area-of-parts width height rest (λ i other there. within (suc i) other there)
    (λ i j one other less at_i at_j. apart (suc i) (suc j) one other (omega arith) at_i at_j) in
    both ∙ ap (λ n. n + area width height (in_some rest)) first ∙ ap (λ n. part.width * part.height + n) later ∙ sym (sum_by-cons size_of part rest)
