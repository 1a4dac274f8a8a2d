-- One row after another is taken, or given back.
use Rattle.std.proofs.Common.{arith, refl, ap, sym, subst, inl, inr, ◌∙◌, ℕ, ◌≡◌, ◌+◌, ◌<◌, ◌≤◌, Bool, true, false, Option, List, length, get_or, set}
use Rattle.std.specs.Prelude.{Some, None}
use Rattle.std.proofs.lemmas.Bool.{cases_eq, cases_lt, true≢false}
use Rattle.std.proofs.lemmas.List.{get_or-set_same, get_or-set_other, get_or_default, get_or_past, length-set}
use Rattle.row_pool.specs.declared.pool.RowId.{RowId}
use Rattle.row_pool.specs.Rows.{Rows}
use Rattle.row_pool.specs.Pools.{IsFree, IsOut, IsTaking, given_back, handed_out}
use Rattle.cell_rows.specs.CellRows.{AreAllFree, AreGiven, AreTaken}

-- a number that is free or out is one of the pool
free-known : (free : List Bool) (number : ℕ) → get_or free number false ≡ true → number < length free
free-known free number is = elim (cases_lt number (length free)) [
  | inl h ↦ h
  | inr h ↦ absurd (true≢false (sym is ∙ get_or_past free number false h))
]

out-known : (free : List Bool) (number : ℕ) → get_or free number true ≡ false → number < length free
out-known free number is = elim (cases_lt number (length free)) [
  | inl h ↦ h
  | inr h ↦ absurd (true≢false (sym (get_or_past free number true h) ∙ is))
]

pub taken-none : (pool : Rows) → AreTaken 0 pool pool
taken-none pool = record { out = λ k h. absurd (omega (arith, h)); same = refl; many = refl; others = λ k h. refl }

-- the next number is the least that is free
pub taken-more : (done : ℕ) (old new next : Rows) (told : Option RowId) → AreTaken done old new → IsFree old done → IsTaking new told next → AreTaken (done + 1) old next
taken-more done old new next None are free is = absurd (is.none done (are.others done (omega arith) ∙ free))
taken-more done old new next (Some id) are free is =
    let still_free : get_or new.free done false ≡ true = are.others done (omega arith) ∙ free in
    let number : id.number ≡ done = elim (cases_lt id.number done) [
      | inl h ↦ absurd (true≢false (sym is.was_free ∙ get_or_default new.free id.number false true (free-known new.free id.number is.was_free) ∙ are.out id.number h))
      | inr h ↦ (let most : id.number ≤ done = is.least done still_free in omega (arith, h, most))
    ] in
    let known : done < length new.free = free-known new.free done still_free in
    subst (λ pool. AreTaken (done + 1) old pool) (sym (is.is ∙ ap (λ n. handed_out n new) number)) (record {
      out = λ k h. elim (cases_eq k done) [
        | inl e ↦ subst (λ n. get_or (set new.free done false) n true ≡ false) (sym e) (get_or-set_same new.free done false true known)
        | inr e ↦ get_or-set_other new.free done k false true e ∙ are.out k (omega (arith, h, e))
      ];
      same = are.same;
      many = length-set new.free done false ∙ are.many;
      others = λ k h. get_or-set_other new.free done k false false (λ e. absurd (omega (arith, h, e))) ∙ are.others k (omega (arith, h));
    })

-- one more is given back
pub record AreBack (done : ℕ) (old new : Rows) : Type 0 where
  pub free : AreAllFree done new
  pub same : new.rows ≡ old.rows
  pub many : length new.free ≡ length old.free
  pub others : (number : ℕ) (d : Bool) → done ≤ number → get_or new.free number d ≡ get_or old.free number d

pub back-none : (pool : Rows) → AreBack 0 pool pool
back-none pool = record { free = λ k h. absurd (omega (arith, h)); same = refl; many = refl; others = λ k d h. refl }

pub still-out : (done : ℕ) (old new : Rows) → AreBack done old new → IsOut old done → IsOut new done
still-out done old new are out = are.others done true (omega arith) ∙ out

pub back-more : (done : ℕ) (old new next : Rows) → AreBack done old new → IsOut old done → next ≡ given_back done new → AreBack (done + 1) old next
back-more done old new next are out is =
    let known : done < length new.free = out-known new.free done (still-out done old new are out) in
    subst (λ pool. AreBack (done + 1) old pool) (sym is) (record {
      free = λ k h. elim (cases_eq k done) [
        | inl e ↦ subst (λ n. get_or (set new.free done true) n false ≡ true) (sym e) (get_or-set_same new.free done true false known)
        | inr e ↦ get_or-set_other new.free done k true false e ∙ are.free k (omega (arith, h, e))
      ];
      same = are.same;
      many = length-set new.free done true ∙ are.many;
      others = λ k d h. get_or-set_other new.free done k true d (λ e. absurd (omega (arith, h, e))) ∙ are.others k d (omega (arith, h));
    })

pub all-back : (rows : ℕ) (old new : Rows) → AreBack rows old new → AreGiven rows old new
all-back rows old new are = record { free = are.free; same = are.same; many = are.many; others = λ k h. are.others k false h }
