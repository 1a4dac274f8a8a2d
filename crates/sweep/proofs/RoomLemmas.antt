-- Rows are taken, begun, pushed and given back.
use Rattle.std.proofs.Common.{◌≡◌, ◌∙◌, ℕ, ◌+◌, ◌*◌, ◌≤◌, Bool, false, true, cond, List, [], length, get_or, replicate, ap, arith, inl, inr, subst, sym}
use Rattle.std.specs.Prelude.{count_by}
use Rattle.std.proofs.lemmas.Bool.{cases_lt}
use Rattle.std.proofs.lemmas.List.{get_or-replicate, get_or_default, length-replicate, same_lists}
use Rattle.std.proofs.lemmas.List.Folds.{sum_by-replicate}
use Rattle.cell_rows.specs.CellRows.{AreBegun, AreGiven, AreRoomy, AreTaken, OnlyRows}
use Rattle.row_pool.specs.Pools.{opened, row_of}
use Rattle.row_pool.specs.Rows.{Rows}
use Rattle.sweep.specs.Swept.{HasRows}

-- a pool as it is opened
pub rows-opened : (rate cells : ℕ) → HasRows rate cells (opened cells (9 * (rate + 1)))
rows-opened rate cells = record {
  all = length-replicate cells (replicate (9 * (rate + 1)) 0);
  wide = λ cell known.
      let row : row_of (opened cells (9 * (rate + 1))) cell ≡ replicate (9 * (rate + 1)) 0 = get_or-replicate cells cell (replicate (9 * (rate + 1)) 0) [] known in
      let long : length (row_of (opened cells (9 * (rate + 1))) cell) ≡ 9 * (rate + 1) = ap length row ∙ length-replicate (9 * (rate + 1)) 0 in
      omega (arith, long);
  free = λ cell known. get_or-replicate cells cell true false known;
}

pub free-opened : (cells width : ℕ) → count_by (λ is_free. is_free) (opened cells width).free ≡ cells
free-opened cells width =
    let counted : count_by (λ is_free. is_free) (replicate cells true) ≡ cells * 1 = sum_by-replicate (λ (b : Bool). cond b 1 0) cells true in
    omega (arith, counted)

-- its words aren't too many
pub words-few : (rate cells windows : ℕ) → cells * (windows + rate + 1) ≤ 4194304 → cells * (9 * (rate + 1)) ≤ 67108864
words-few rate cells windows few = omega (arith, few)

-- rows that were taken
pub rows-taken : (rate cells groups : ℕ) (old new : Rows) → groups ≤ cells → HasRows rate cells old → AreTaken groups old new
    → AreRoomy rate groups new
rows-taken rate cells groups old new few has taken group known = (
  taken.out group known,
  subst (λ (rows : List (List ℕ)). 9 * (rate + 1) ≤ length (get_or rows group [])) (sym taken.same) (has.wide group (omega (arith, known, few))),
)

-- and begun
pub rows-begun : (rate cells : ℕ) (old new : Rows) → AreRoomy rate cells old → AreBegun rate cells old new → OnlyRows cells old new
    → AreRoomy rate cells new
rows-begun rate cells old new roomy begun only cell known =
    let before = roomy cell known in (
      subst (λ (free : List Bool). get_or free cell true ≡ false) (sym only.free) before.0,
      (let long = (begun cell known).long in omega (arith, long, before.1)),
    )

-- what happened to a pool with a row for each of so many cells, of which so many were used
pub record IsUsed (rate cells groups : ℕ) (old taken begun pushed new : Rows) : Type 0 where
  pub few : groups ≤ cells
  pub has : HasRows rate cells old
  pub is_taken : AreTaken groups old taken
  pub is_begun : OnlyRows groups taken begun
  pub is_pushed : OnlyRows groups begun pushed
  pub roomy : AreRoomy rate groups pushed
  pub is_given : AreGiven groups pushed new

-- a row that wasn't used is as it was
unused : (rate cells groups : ℕ) (old taken begun pushed new : Rows) (cell : ℕ) → IsUsed rate cells groups old taken begun pushed new
    → groups ≤ cell → row_of new cell ≡ row_of old cell
unused rate cells groups old taken begun pushed new cell used past =
    ap (λ (rows : List (List ℕ)). get_or rows cell []) used.is_given.same ∙ used.is_pushed.others cell past ∙ used.is_begun.others cell past
    ∙ ap (λ (rows : List (List ℕ)). get_or rows cell []) used.is_taken.same

-- the same numbers are free again
free-at : (rate cells groups : ℕ) (old taken begun pushed new : Rows) (cell : ℕ) → IsUsed rate cells groups old taken begun pushed new
    → get_or new.free cell false ≡ get_or old.free cell false
free-at rate cells groups old taken begun pushed new cell used =
    let between : pushed.free ≡ taken.free = used.is_pushed.free ∙ used.is_begun.free in
    elim (cases_lt cell groups) [
      | inl known ↦ used.is_given.free cell known ∙ sym (used.has.free cell (omega (arith, known, used.few)))
      | inr past ↦ used.is_given.others cell past ∙ ap (λ (free : List Bool). get_or free cell false) between ∙ used.is_taken.others cell past
    ]

-- it has its rows again
pub rows-back : (rate cells groups : ℕ) (old taken begun pushed new : Rows) → IsUsed rate cells groups old taken begun pushed new
    → HasRows rate cells new
rows-back rate cells groups old taken begun pushed new used = record {
  all = ap length used.is_given.same ∙ used.is_pushed.many ∙ used.is_begun.many ∙ ap length used.is_taken.same ∙ used.has.all;
  wide = λ cell known. elim (cases_lt cell groups) [
    | inl is_used ↦
        subst (λ (rows : List (List ℕ)). 9 * (rate + 1) ≤ length (get_or rows cell [])) (sym used.is_given.same) (used.roomy cell is_used).1
    | inr past ↦
        subst (λ (row : List ℕ). 9 * (rate + 1) ≤ length row) (sym (unused rate cells groups old taken begun pushed new cell used past))
        (used.has.wide cell known)
  ];
  free = λ cell known. free-at rate cells groups old taken begun pushed new cell used ∙ used.has.free cell known;
}

-- and the same numbers are free
pub free-back : (rate cells groups : ℕ) (old taken begun pushed new : Rows) → IsUsed rate cells groups old taken begun pushed new
    → new.free ≡ old.free
free-back rate cells groups old taken begun pushed new used =
    let between : pushed.free ≡ taken.free = used.is_pushed.free ∙ used.is_begun.free in
    let long : length new.free ≡ length old.free = used.is_given.many ∙ ap length between ∙ used.is_taken.many in
    same_lists new.free old.free long (λ cell d below.
    get_or_default new.free cell d false below ∙ free-at rate cells groups old taken begun pushed new cell used
    ∙ get_or_default old.free cell false d (omega (arith, below, long)))
