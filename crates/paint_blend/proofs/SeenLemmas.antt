-- The boxes are looked at from the topmost one down.
use Rattle.std.proofs.Common.{◌≡◌, ℕ, List, Some, None, ◌-◌, ◌<◌, ◌≤◌, get_or, length, arith, inl, inr, subst, sym, ◌+◌}
use Rattle.std.specs.Prelude.{cond, nat_eq}
use Rattle.std.proofs.lemmas.Bool.{cases_eq, cases_lt}
use Rattle.std.proofs.lemmas.Bool.Decides.{eqb_tells}
use Rattle.frame_state.specs.declared.types.LayerState.{LayerState}
use Rattle.frame_state.specs.States.{state_as}
use Rattle.frame_state.proofs.ListLemmas.{states_as-there}
use Rattle.paint_blend.specs.declared.topmost.Seen.{Seen}
use Rattle.paint_blend.specs.Paint.{AreReadyBoxes, HidesAt, IsMissed}
use Rattle.paint_blend.specs.Seen.{AreMissed, Begins, BeginsAt, IsSeen}

-- the boxes from a place on are looked at: those between it and the first, and from the end on, are missed
pub record ArePassed (states : List LayerState) (boxes : List ℕ) (column row place first end : ℕ) : Type 0 where
  pub before : place ≤ first
  pub order : first ≤ end
  pub inside : end ≤ length boxes
  pub below : AreMissed states boxes column row place first
  pub above : AreMissed states boxes column row end (length boxes)

-- the next box is missed
pub passed-missed : (states : List LayerState) (boxes : List ℕ) (column row place first end : ℕ) (d : LayerState)
    → AreReadyBoxes states boxes → 0 < place → ArePassed states boxes column row place first end
    → IsMissed (state_as (get_or states (get_or boxes (place - 1) 0) d)) column row
    → ArePassed states boxes column row (place - 1) first end
passed-missed states boxes column row place first end d ready some so missed =
    let there = (ready (place - 1) 0 (omega (arith, so.before, so.order, so.inside))).there in
    let here = subst (λ state. IsMissed state column row) (sym (states_as-there states (get_or boxes (place - 1) 0) d there)) missed in
    record {
      before = omega (arith, so.before);
      order = so.order;
      inside = so.inside;
      below = λ k from before. elim (cases_eq k (place - 1)) [
        | inl same ↦ rw same here
        | inr other ↦ so.below k (omega arith) before
      ];
      above = so.above;
    }

-- the next box may be there: it is the first now, and the only one where there was none
pub passed-mixed : (states : List LayerState) (boxes : List ℕ) (column row place first end : ℕ) → 0 < place
    → ArePassed states boxes column row place first end
    → ArePassed states boxes column row (place - 1) (place - 1) (cond (nat_eq first end) (place - 1 + 1) end)
passed-mixed states boxes column row place first end some so =
    elim (eqb_tells first end) [
      | inl none ↦ rw none.0 record {
        before = omega arith;
        order = omega arith;
        inside = omega (arith, so.before, so.order, so.inside);
        below = λ k from before. absurd (omega arith);
        above = λ k from before. elim (cases_lt k first) [
          | inl lower ↦ so.below k (omega arith) lower
          | inr higher ↦ so.above k (omega (arith, none.1, higher)) before
        ];
      }
      | inr more ↦ rw more.0 record {
        before = omega arith;
        order = omega (arith, so.before, so.order);
        inside = so.inside;
        below = λ k from before. absurd (omega arith);
        above = so.above;
      }
    ]

-- the next box hides what lies under it
pub passed-hides : (states : List LayerState) (boxes : List ℕ) (column row place first end : ℕ) (d : LayerState)
    → AreReadyBoxes states boxes → 0 < place → ArePassed states boxes column row place first end
    → HidesAt (state_as (get_or states (get_or boxes (place - 1) 0) d)) column row
    → IsSeen states boxes column row (record { hiding = Some (place - 1); first = first; end = end })
passed-hides states boxes column row place first end d ready some so hides =
    let there = (ready (place - 1) 0 (omega (arith, so.before, so.order, so.inside))).there in
    record {
      begins = record {
        hides = subst (λ state. HidesAt state column row) (sym (states_as-there states (get_or boxes (place - 1) 0) d there)) hides;
        before = omega (arith, so.before);
        missed = λ k from before. so.below k (omega arith) before;
      };
      order = so.order;
      inside = so.inside;
      missed = so.above;
    }

-- where a box hides, and where none does
pub begins-box : (states : List LayerState) (boxes : List ℕ) (column row : ℕ) (seen : Seen) (place : ℕ)
    → IsSeen states boxes column row seen → seen.hiding ≡ Some place → BeginsAt states boxes column row place seen.first
begins-box states boxes column row seen place is hiding =
    subst (λ from. Begins states boxes column row from seen.first) hiding is.begins

pub begins-ground : (states : List LayerState) (boxes : List ℕ) (column row : ℕ) (seen : Seen)
    → IsSeen states boxes column row seen → seen.hiding ≡ None → AreMissed states boxes column row 0 seen.first
begins-ground states boxes column row seen is hiding =
    subst (λ from. Begins states boxes column row from seen.first) hiding is.begins

pub begins-within : (states : List LayerState) (boxes : List ℕ) (column row : ℕ) (seen : Seen) (place : ℕ)
    → IsSeen states boxes column row seen → seen.hiding ≡ Some place → place < length boxes
begins-within states boxes column row seen place is hiding =
    let begins = begins-box states boxes column row seen place is hiding in omega (arith, begins.before, is.order, is.inside)
