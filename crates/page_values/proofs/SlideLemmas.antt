-- The states of the sliding box in its four frames, and their edges.
use Rattle.std.proofs.Common.{◌≡◌, ℕ, zero, suc, ◌+◌, ◌<◌, ◌≤◌, [], false, arith, sym, subst, rules, inl, inr}
use Rattle.std.specs.Prelude.{None, Contains, slice_index_or}
use Rattle.std.proofs.lemmas.Int.{ints}
use Rattle.page_model.specs.declared.scene.Layer.{Layer}
use Rattle.page_model.specs.Cells.{AreEdges, CutsAt, IsCutBy, IsEdge, IsLooseRunBelow, first, end, inside, height_of, left_of, top_of, width_of}
use Rattle.page_model.specs.Enclosure.{IsLooseStateAt, own}
use Rattle.time_values.specs.Examples.{at_rate}
use Rattle.page_values.specs.SceneValues.{body}
use Rattle.page_values.specs.SlideValues.{slide_columns, slide_rows, slide_run, slow_box, slow_slide}

abbrev IsState : ℕ → ℕ → Layer → Type 0
IsState frame number layer = IsLooseStateAt own slow_slide (at_rate 5) frame layer (slide_run frame number)

body_state : (frame : ℕ) → IsState frame 0 (body None false [])
body_state frame = search rules

box_state : (frame : ℕ) → frame < 4 → IsState frame 1 slow_box
box_state zero within = search rules
box_state (suc zero) within = search rules
box_state (suc (suc zero)) within = search rules
box_state (suc (suc (suc zero))) within = search rules
box_state (suc (suc (suc (suc frame)))) within = absurd (omega arith)

pub run_is : IsLooseRunBelow own slow_slide (at_rate 5) 4 slide_run
run_is frame zero layer within there =
    let same : body None false [] ≡ layer = cc in subst (IsState frame 0) same (body_state frame)
run_is frame (suc zero) layer within there =
    let same : slow_box ≡ layer = cc in subst (IsState frame 1) same (box_state frame within)
run_is frame (suc (suc number)) layer within there = cc

abbrev CutsColumn : ℕ → Type 0
CutsColumn at = IsCutBy left_of width_of slide_run slow_slide (λ box. 4) at

abbrev CutsRow : ℕ → Type 0
CutsRow at = IsCutBy top_of height_of slide_run slow_slide (λ box. 4) at

-- the four left edges, and the four right ones
left_in : (frame at : ℕ) → frame < 4 → at ≡ frame → Contains slide_columns at
left_in zero at within e = (0, omega arith, sym e)
left_in (suc zero) at within e = (1, omega arith, sym e)
left_in (suc (suc zero)) at within e = (2, omega arith, sym e)
left_in (suc (suc (suc zero))) at within e = (3, omega arith, sym e)
left_in (suc (suc (suc (suc frame)))) at within e = absurd (omega arith)

right_in : (frame at : ℕ) → frame < 4 → at ≡ frame + 20 → Contains slide_columns at
right_in zero at within e = (4, omega arith, sym e)
right_in (suc zero) at within e = (5, omega arith, sym e)
right_in (suc (suc zero)) at within e = (6, omega arith, sym e)
right_in (suc (suc (suc zero))) at within e = (7, omega arith, sym e)
right_in (suc (suc (suc (suc frame)))) at within e = absurd (omega arith)

column_cut : (box frame at : ℕ) → 1 ≤ box → frame < 4 → CutsAt (slide_run frame box).left (slide_run frame box).width at → Contains slide_columns at
column_cut zero frame at some within cut = absurd (omega arith)
column_cut (suc box) frame at some within (inl p) =
    let lo = p.at_least in let hi = p.at_most in left_in frame at within (omega (arith, ints))
column_cut (suc box) frame at some within (inr p) =
    let lo = p.at_least in let hi = p.at_most in right_in frame at within (omega (arith, ints))

column_of : (at : ℕ) → IsEdge 1024 CutsColumn at → Contains slide_columns at
column_of at (first e) = (0, omega arith, sym e)
column_of at (end e) = (8, omega arith, sym e)
column_of at (inside some within cut) = column_cut cut.box cut.frame at cut.is_box cut.looked_at cut.cuts

left_cut : (frame : ℕ) → frame < 4 → CutsColumn frame
left_cut frame within = record {
  box = 1;
  frame = frame;
  is_box = omega arith;
  is_layer = omega arith;
  looked_at = within;
  cuts = inl (record { at_least = omega (arith, ints); at_most = omega (arith, ints) });
}

right_cut : (frame : ℕ) → frame < 4 → CutsColumn (frame + 20)
right_cut frame within = record {
  box = 1;
  frame = frame;
  is_box = omega arith;
  is_layer = omega arith;
  looked_at = within;
  cuts = inr (record { at_least = omega (arith, ints); at_most = omega (arith, ints) });
}

column_edge : (k at : ℕ) → k < 9 → slice_index_or slide_columns k at ≡ at → IsEdge 1024 CutsColumn at
column_edge zero at within e = first (sym e)
column_edge (suc zero) at within e = subst (IsEdge 1024 CutsColumn) e (inside (omega arith) (omega arith) (left_cut 1 (omega arith)))
column_edge (suc (suc zero)) at within e = subst (IsEdge 1024 CutsColumn) e (inside (omega arith) (omega arith) (left_cut 2 (omega arith)))
column_edge (suc (suc (suc zero))) at within e = subst (IsEdge 1024 CutsColumn) e (inside (omega arith) (omega arith) (left_cut 3 (omega arith)))
column_edge (suc (suc (suc (suc zero)))) at within e = subst (IsEdge 1024 CutsColumn) e (inside (omega arith) (omega arith) (right_cut 0 (omega arith)))
column_edge (suc (suc (suc (suc (suc zero))))) at within e = subst (IsEdge 1024 CutsColumn) e (inside (omega arith) (omega arith) (right_cut 1 (omega arith)))
column_edge (suc (suc (suc (suc (suc (suc zero)))))) at within e = subst (IsEdge 1024 CutsColumn) e (inside (omega arith) (omega arith) (right_cut 2 (omega arith)))
column_edge (suc (suc (suc (suc (suc (suc (suc zero))))))) at within e = subst (IsEdge 1024 CutsColumn) e (inside (omega arith) (omega arith) (right_cut 3 (omega arith)))
column_edge (suc (suc (suc (suc (suc (suc (suc (suc zero)))))))) at within e = end (sym e)
column_edge (suc (suc (suc (suc (suc (suc (suc (suc (suc k))))))))) at within e = absurd (omega arith)

pub columns_are : AreEdges 1024 CutsColumn slide_columns
columns_are = record {
  rising = search rules;
  all = λ at. ((λ c. column_edge c.0 at c.1 c.2), column_of at);
}

row_cut : (box frame at : ℕ) → 1 ≤ box → CutsAt (slide_run frame box).top (slide_run frame box).height at → Contains slide_rows at
row_cut zero frame at some cut = absurd (omega arith)
row_cut (suc box) frame at some (inl p) =
    let lo = p.at_least in let hi = p.at_most in let e : 10 ≡ at = omega (arith, ints) in (1, omega arith, e)
row_cut (suc box) frame at some (inr p) =
    let lo = p.at_least in let hi = p.at_most in let e : 30 ≡ at = omega (arith, ints) in (2, omega arith, e)

row_of : (at : ℕ) → IsEdge 768 CutsRow at → Contains slide_rows at
row_of at (first e) = (0, omega arith, sym e)
row_of at (end e) = (3, omega arith, sym e)
row_of at (inside some within cut) = row_cut cut.box cut.frame at cut.is_box cut.cuts

top_cut : CutsRow 10
top_cut = record {
  box = 1;
  frame = 0;
  is_box = omega arith;
  is_layer = omega arith;
  looked_at = omega arith;
  cuts = inl (record { at_least = search rules; at_most = search rules });
}

bottom_cut : CutsRow 30
bottom_cut = record {
  box = 1;
  frame = 0;
  is_box = omega arith;
  is_layer = omega arith;
  looked_at = omega arith;
  cuts = inr (record { at_least = search rules; at_most = search rules });
}

row_edge : (k at : ℕ) → k < 4 → slice_index_or slide_rows k at ≡ at → IsEdge 768 CutsRow at
row_edge zero at within e = first (sym e)
row_edge (suc zero) at within e = subst (IsEdge 768 CutsRow) e (inside (omega arith) (omega arith) top_cut)
row_edge (suc (suc zero)) at within e = subst (IsEdge 768 CutsRow) e (inside (omega arith) (omega arith) bottom_cut)
row_edge (suc (suc (suc zero))) at within e = end (sym e)
row_edge (suc (suc (suc (suc k)))) at within e = absurd (omega arith)

pub rows_are : AreEdges 768 CutsRow slide_rows
rows_are = record {
  rising = search rules;
  all = λ at. ((λ c. row_edge c.0 at c.1 c.2), row_of at);
}
