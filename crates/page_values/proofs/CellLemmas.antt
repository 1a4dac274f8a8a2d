-- The edges of the example: each number of the two lists is cut by a box, and each cut by a box is one of them.
use Rattle.std.proofs.Common.{◌≡◌, ℕ, zero, suc, ◌<◌, ◌≤◌, refl, arith, sym, subst, rules, inl, inr}
use Rattle.std.specs.Prelude.{◌⊎◌, Contains, slice_index_or, nat_lt}
use Rattle.std.proofs.lemmas.Bool.{cases_Bool}
use Rattle.std.proofs.lemmas.Int.{ints}
use Rattle.page_model.specs.Cells.{AreEdges, IsEdge, first, end, inside, IsCutBy, IsPossible, CutsAt, end_of, left_of, width_of, top_of, height_of}
use Rattle.page_values.specs.CellValues.{three_boxes, four_layers, columns, rows}

abbrev pub CutsColumn : ℕ → Type 0
CutsColumn at = IsCutBy left_of width_of three_boxes four_layers (λ box. 9) at

abbrev pub CutsRow : ℕ → Type 0
CutsRow at = IsCutBy top_of height_of three_boxes four_layers (λ box. 9) at

-- a column that a box cuts inside the viewport
column_cut : (box frame at : ℕ) → 1 ≤ box → box < 4 → at < 100 → CutsAt (three_boxes frame box).left (three_boxes frame box).width at → (at ≡ 30) ⊎ (at ≡ 99)
column_cut zero frame at some few within cut = absurd (omega arith)
column_cut (suc zero) frame at some few within (inl p) = let lo = p.at_least in let hi = p.at_most in inr (omega (arith, ints))
column_cut (suc zero) frame at some few within (inr p) = let lo = p.at_least in let hi = p.at_most in absurd (omega (arith, ints))
column_cut (suc (suc zero)) frame at some few within (inl p) = let lo = p.at_least in let hi = p.at_most in absurd (omega (arith, ints))
column_cut (suc (suc zero)) frame at some few within (inr p) = let lo = p.at_least in let hi = p.at_most in absurd (omega (arith, ints))
column_cut (suc (suc (suc n))) frame at some few within (inl p) = let lo = p.at_least in let hi = p.at_most in inl (omega (arith, ints))
column_cut (suc (suc (suc n))) frame at some few within (inr p) = let lo = p.at_least in let hi = p.at_most in absurd (omega (arith, ints))

column_of : (at : ℕ) → IsEdge 100 CutsColumn at → Contains columns at
column_of at (first e) = subst (Contains columns) (sym e) (0, omega arith, refl)
column_of at (end e) = subst (Contains columns) (sym e) (3, omega arith, refl)
column_of at (inside some within cut) =
    elim (column_cut cut.box cut.frame at cut.is_box cut.is_layer within cut.cuts) [
      | inl e ↦ subst (Contains columns) (sym e) (1, omega arith, refl)
      | inr e ↦ subst (Contains columns) (sym e) (2, omega arith, refl)
    ]

third_column : CutsColumn 30
third_column = record {
  box = 3;
  frame = 0;
  is_box = omega arith;
  is_layer = omega arith;
  looked_at = omega arith;
  cuts = inl (record { at_least = search rules; at_most = search rules });
}

first_column : CutsColumn 99
first_column = record {
  box = 1;
  frame = 0;
  is_box = omega arith;
  is_layer = omega arith;
  looked_at = omega arith;
  cuts = inl (record { at_least = search rules; at_most = search rules });
}

column_edge : (k : ℕ) (at : ℕ) → k < 4 → slice_index_or columns k at ≡ at → IsEdge 100 CutsColumn at
column_edge zero at within e = first (sym e)
column_edge (suc zero) at within e = subst (IsEdge 100 CutsColumn) e (inside (omega arith) (omega arith) third_column)
column_edge (suc (suc zero)) at within e = subst (IsEdge 100 CutsColumn) e (inside (omega arith) (omega arith) first_column)
column_edge (suc (suc (suc zero))) at within e = end (sym e)
column_edge (suc (suc (suc (suc k)))) at within e = absurd (omega arith)

pub columns-edges : AreEdges 100 CutsColumn columns
columns-edges = record {
  rising = search rules;
  all = λ at. ((λ c. column_edge c.0 at c.1 c.2), column_of at);
}

-- a row that a box cuts inside the viewport
third_end : (frame at : ℕ) → IsPossible (end_of (three_boxes frame 3).top (three_boxes frame 3).height) at → (at ≡ 2) ⊎ (at ≡ 70)
third_end frame at p =
    elim (cases_Bool (nat_lt frame 2)) [
      | inl e ↦ let lo = rw e at p.at_least in let hi = rw e at p.at_most in inl (omega (arith, ints))
      | inr e ↦ let lo = rw e at p.at_least in let hi = rw e at p.at_most in inr (omega (arith, ints))
    ]

row_cut : (box frame at : ℕ) → 1 ≤ box → at < 240 → CutsAt (three_boxes frame box).top (three_boxes frame box).height at → Contains rows at
row_cut zero frame at some within cut = absurd (omega arith)
row_cut (suc zero) frame at some within (inl p) =
    let lo = p.at_least in let hi = p.at_most in
    let e : at ≡ 60 = omega (arith, ints) in subst (Contains rows) (sym e) (3, omega arith, refl)
row_cut (suc zero) frame at some within (inr p) =
    let lo = p.at_least in let hi = p.at_most in
    let e : at ≡ 117 = omega (arith, ints) in subst (Contains rows) (sym e) (5, omega arith, refl)
row_cut (suc (suc zero)) frame at some within (inl p) =
    let lo = p.at_least in let hi = p.at_most in
    let e : at ≡ 59 = omega (arith, ints) in subst (Contains rows) (sym e) (2, omega arith, refl)
row_cut (suc (suc zero)) frame at some within (inr p) =
    let lo = p.at_least in let hi = p.at_most in absurd (omega (arith, ints))
row_cut (suc (suc (suc n))) frame at some within (inl p) =
    let lo = p.at_least in let hi = p.at_most in absurd (omega (arith, ints))
row_cut (suc (suc (suc n))) frame at some within (inr p) =
    elim (third_end frame at p) [
      | inl e ↦ subst (Contains rows) (sym e) (1, omega arith, refl)
      | inr e ↦ subst (Contains rows) (sym e) (4, omega arith, refl)
    ]

row_of : (at : ℕ) → IsEdge 240 CutsRow at → Contains rows at
row_of at (first e) = subst (Contains rows) (sym e) (0, omega arith, refl)
row_of at (end e) = subst (Contains rows) (sym e) (6, omega arith, refl)
row_of at (inside some within cut) = row_cut cut.box cut.frame at cut.is_box within cut.cuts

-- a row at which a box begins, or ends, in a frame
begins : (box frame at : ℕ) → 1 ≤ box → box < 4 → frame < 9 → IsPossible (three_boxes frame box).top at → CutsRow at
begins box frame at some few seen possible = record {
  box = box;
  frame = frame;
  is_box = some;
  is_layer = few;
  looked_at = seen;
  cuts = inl possible;
}

ends : (box frame at : ℕ) → 1 ≤ box → box < 4 → frame < 9 → IsPossible (end_of (three_boxes frame box).top (three_boxes frame box).height) at → CutsRow at
ends box frame at some few seen possible = record {
  box = box;
  frame = frame;
  is_box = some;
  is_layer = few;
  looked_at = seen;
  cuts = inr possible;
}

row_edge : (k : ℕ) (at : ℕ) → k < 7 → slice_index_or rows k at ≡ at → IsEdge 240 CutsRow at
row_edge zero at within e = first (sym e)
row_edge (suc zero) at within e =
    subst (IsEdge 240 CutsRow) e
    (inside (omega arith) (omega arith) (ends 3 0 2 (omega arith) (omega arith) (omega arith) (record { at_least = search rules; at_most = search rules })))
row_edge (suc (suc zero)) at within e =
    subst (IsEdge 240 CutsRow) e
    (inside (omega arith) (omega arith) (begins 2 0 59 (omega arith) (omega arith) (omega arith) (record { at_least = search rules; at_most = search rules })))
row_edge (suc (suc (suc zero))) at within e =
    subst (IsEdge 240 CutsRow) e
    (inside (omega arith) (omega arith) (begins 1 0 60 (omega arith) (omega arith) (omega arith) (record { at_least = search rules; at_most = search rules })))
row_edge (suc (suc (suc (suc zero)))) at within e =
    subst (IsEdge 240 CutsRow) e
    (inside (omega arith) (omega arith) (ends 3 2 70 (omega arith) (omega arith) (omega arith) (record { at_least = search rules; at_most = search rules })))
row_edge (suc (suc (suc (suc (suc zero))))) at within e =
    subst (IsEdge 240 CutsRow) e
    (inside (omega arith) (omega arith) (ends 1 0 117 (omega arith) (omega arith) (omega arith) (record { at_least = search rules; at_most = search rules })))
row_edge (suc (suc (suc (suc (suc (suc zero)))))) at within e = end (sym e)
row_edge (suc (suc (suc (suc (suc (suc (suc k))))))) at within e = absurd (omega arith)

pub rows-edges : AreEdges 240 CutsRow rows
rows-edges = record {
  rising = search rules;
  all = λ at. ((λ c. row_edge c.0 at c.1 c.2), row_of at);
}
