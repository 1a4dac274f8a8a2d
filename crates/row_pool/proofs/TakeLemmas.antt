-- The least number that is free.
use Rattle.std.proofs.Common.{arith, refl, ap, sym, inl, inr, ◌∙◌, ℕ, ◌≡◌, ◌+◌, ◌<◌, ◌≤◌, ◌≢◌, Bool, true, false, not, List, length, get_or, max}
use Rattle.std.proofs.lemmas.Bool.{cases_lt, true≢false}
use Rattle.std.proofs.lemmas.List.{get_or_default, get_or_past}
use Rattle.row_pool.specs.Kept.{free_in, rows_in}
use Rattle.row_pool.specs.Pools.{IsNoneFree, IsTaken, IsFree}
use Rattle.row_pool.specs.Rows.{Rows}
use Rattle.row_pool.proofs.FreeLemmas.{changed, free-inside, free_at}
use Rattle.row_pool.proofs.RowLemmas.{same-rows}

-- what contracts see of the fields
abbrev pub seen : ℕ → ℕ → List ℕ → List Bool → Rows
seen rows width words out = record { rows = rows_in rows width words; free = free_in rows out; begun = length out }

-- all numbers below one are out
abbrev pub AllOutBelow : List Bool → ℕ → Type 0
AllOutBelow out number = (k : ℕ) → k < number → get_or out k false ≡ true

-- those that were known to be, and those that were gone through
pub all-below : (out : List Bool) (least number : ℕ) → AllOutBelow out least → ((k : ℕ) → least ≤ k → k < number → get_or out k false ≡ true) → AllOutBelow out number
all-below out least number all passed k h = elim (cases_lt k least) [
  | inl below ↦ all k below
  | inr from ↦ passed k from h
]

-- so none below it is free
pub free-behind : (rows width : ℕ) (words : List ℕ) (out : List Bool) (number other : ℕ) → AllOutBelow out number
    → IsFree (seen rows width words out) other → number ≤ other
free-behind rows width words out number other all is_free = elim (cases_lt other number) [
  | inl h ↦ absurd (true≢false (sym (all other h) ∙ (free-inside rows out other is_free).1))
  | inr h ↦ h
]

pub none-free : (rows width : ℕ) (words : List ℕ) (out : List Bool) (number : ℕ) (pool : Rows) → seen rows width words out ≡ pool → AllOutBelow out number → number ≡ rows
    → IsNoneFree pool pool
none-free rows width words out number pool is all whole = rw (← is) (record {
  none = λ other is_free. absurd (beyond (free-behind rows width words out number other all is_free) whole (free-inside rows out other is_free).0);
  same = refl;
})
  where
    beyond : {n m k : ℕ} → n ≤ k → n ≡ m → k < m → ⊥
    beyond p q r = omega (arith, p, q, r)

-- the number at which the search stopped isn't out
pub not-out : (out : List Bool) (number : ℕ) → (number < length out → get_or out number true ≡ false) → get_or out number false ≡ false
not-out out number found = elim (cases_lt number (length out)) [
  | inl h ↦ get_or_default out number false true h ∙ found h
  | inr h ↦ get_or_past out number false h
]

-- the first number that isn't out is handed out
pub taken : (rows width : ℕ) (words new_words : List ℕ) (out new_out : List Bool) (number : ℕ) (pool : Rows) → seen rows width words out ≡ pool
    → AllOutBelow out number → number < rows → get_or out number false ≡ false
    → ((place : ℕ) → get_or new_words place 0 ≡ get_or words place 0) → length new_out ≡ max (length out) (number + 1)
    → get_or new_out number false ≡ true → ((k : ℕ) → k ≢ number → get_or new_out k false ≡ get_or out k false)
    → IsTaken pool number (seen rows width new_words new_out)
taken rows width words new_words out new_out number pool is all inside free words_same count here others = rw (← is) (record {
  was_free = free_at rows out number false inside ∙ ap not free;
  least = λ other is_free. free-behind rows width words out number other all is_free;
  is = rw (same-rows rows width words new_words words_same, changed rows out new_out number false inside here others, count) refl;
})
