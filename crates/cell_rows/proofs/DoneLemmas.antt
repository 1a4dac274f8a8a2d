-- One row after another is written.
use Rattle.std.proofs.Common.{arith, refl, ap, sym, subst, inl, inr, ◌∙◌, ℕ, ◌≡◌, ◌+◌, ◌*◌, ◌<◌, ◌≤◌, List, [], length, get_or, set}
use Rattle.std.proofs.lemmas.Bool.{cases_eq, cases_lt}
use Rattle.std.proofs.lemmas.List.{get_or-set_same, get_or-set_other, get_or_default, get_or_past, length-set}
use Rattle.page_model.specs.declared.colour.Tint.{Tint}
use Rattle.flash_count.specs.declared.tracking.Flag.{Flag}
use Rattle.row_pool.specs.Rows.{Rows}
use Rattle.row_pool.specs.Pools.{row_of, with_row}
use Rattle.cell_rows.specs.CellRows.{IsPushed}

-- the first rows were written, so many, and nothing else
pub record AreDone (P : ℕ → List ℕ → List ℕ → Type 0) (done : ℕ) (old new : Rows) : Type 0 where
  pub each : (k : ℕ) → k < done → P k (row_of old k) (row_of new k)
  pub rest : (k : ℕ) → done ≤ k → row_of new k ≡ row_of old k
  pub free : new.free ≡ old.free
  pub many : length new.rows ≡ length old.rows

pub done-none : (P : ℕ → List ℕ → List ℕ → Type 0) (pool : Rows) → AreDone P 0 pool pool
done-none P pool = record {
  each = λ k h. absurd (omega (arith, h));
  rest = λ k h. refl;
  free = refl;
  many = refl;
}

pub done-more : (P : ℕ → List ℕ → List ℕ → Type 0) (done : ℕ) (old new next : Rows) (row : List ℕ) → AreDone P done old new
    → next ≡ with_row done row new → done < length new.rows → P done (row_of new done) row → AreDone P (done + 1) old next
done-more P done old new next row are is known made = rw is (record {
  each = λ k h. elim (cases_eq k done) [
    | inl e ↦ subst (λ n. P n (row_of old n) (get_or (set new.rows done row) n [])) (sym e)
        (subst (λ after. P done (row_of old done) after) (sym (get_or-set_same new.rows done row [] known))
        (subst (λ before. P done before row) (are.rest done (omega arith)) made))
    | inr e ↦ subst (λ after. P k (row_of old k) after) (sym (get_or-set_other new.rows done k row [] e)) (are.each k (omega (arith, h, e)))
  ];
  rest = λ k h. get_or-set_other new.rows done k row [] (λ e. absurd (omega (arith, h, e))) ∙ are.rest k (omega (arith, h));
  free = are.free;
  many = length-set new.rows done row ∙ are.many;
})

-- what is true of each row that was written may be said otherwise
pub done-so : (P Q : ℕ → List ℕ → List ℕ → Type 0) (done : ℕ) (old new : Rows) → ((k : ℕ) (before after : List ℕ) → k < done → P k before after → Q k before after)
    → AreDone P done old new → AreDone Q done old new
done-so P Q done old new so are = record {
  each = λ k h. so k (row_of old k) (row_of new k) h (are.each k h);
  rest = are.rest;
  free = are.free;
  many = are.many;
}

-- a row that has words is one of the pool
pub row-known : (rate : ℕ) (pool : Rows) (number : ℕ) → 9 * (rate + 1) ≤ length (row_of pool number) → number < length pool.rows
row-known rate pool number room = elim (cases_lt number (length pool.rows)) [
  | inl h ↦ h
  | inr h ↦ absurd (let none : length (row_of pool number) ≡ 0 = ap length (get_or_past pool.rows number [] h) in omega (arith, room, none))
]

-- the rows whose tints were pushed, and the flags that were told
abbrev pub PushedIn : ℕ → ℕ → List Tint → List Flag → ℕ → List ℕ → List ℕ → Type 0
PushedIn rate turn tints flags k before after =
    (tint : Tint) (flag : Flag) → IsPushed rate turn (get_or tints k tint) before after (get_or flags k flag)

pub pushed-more : (rate turn number : ℕ) (tints : List Tint) (flags : List Flag) (old new next : Rows) (tint : Tint) (told : Flag)
    → AreDone (PushedIn rate turn tints flags) number old new → number < length tints → number < length flags
    → 9 * (rate + 1) ≤ length (row_of new number)
    → (row : List ℕ) × IsPushed rate turn (get_or tints number tint) (row_of new number) row told × (next ≡ with_row number row new)
    → AreDone (PushedIn rate turn tints (set flags number told)) (number + 1) old next
pushed-more rate turn number tints flags old new next tint told are there here room made =
    done-more (PushedIn rate turn tints (set flags number told)) number old new next made.0
    (done-so (PushedIn rate turn tints flags) (PushedIn rate turn tints (set flags number told)) number old new
    (λ k before after h was t f. subst (λ (flag : Flag). IsPushed rate turn (get_or tints k t) before after flag)
    (sym (get_or-set_other flags number k told f (λ e. absurd (omega (arith, h, e))))) (was t f)) are)
    made.2 (row-known rate new number room)
    (λ t f. subst (λ (flag : Flag). IsPushed rate turn (get_or tints number t) (row_of new number) made.0 flag) (sym (get_or-set_same flags number told f here))
    (subst (λ (one : Tint). IsPushed rate turn one (row_of new number) made.0 told) (get_or_default tints number tint t there) made.1))
