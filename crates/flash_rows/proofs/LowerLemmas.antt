-- The numbers of all changes, lowered by way of one frame.
use Rattle.std.proofs.Common.{ℕ, ◌≡◌, ◌+◌, ◌*◌, Bool, List, get_or, arith, inl, inr, subst}
use Rattle.std.specs.Prelude.{◌↔◌, IsTrue}
use Rattle.page_model.specs.declared.colour.Tint.{Tint}
use Rattle.tint_changes.specs.declared.changes.Change.{Change}
use Rattle.tint_changes.specs.declared.changes.Change.TheVariants.{PossibleRise, PossibleFall, SureRise, SureFall, PossiblyIntoRed, PossiblyOutOfRed, SurelyIntoRed, SurelyOutOfRed}
use Rattle.flash_rows.specs.declared.latest.Latest.{Latest}
use Rattle.tint_changes.specs.declared.made.Made.{Made}
use Rattle.tint_changes.specs.Counting.{Makes}
use Rattle.byte_lanes.specs.Lanes.{numbers_of}
use Rattle.tint_changes.specs.Made.{MadeByLight, MadeByRed}
use Rattle.flash_rows.specs.Pushing.{Lowered, LoweredIf, LoweredKind, latest_of}
use Rattle.flash_rows.specs.Rows.{column_of, opposite_of}

-- the same by what a test tells, at the same word
lowered-told : (change : Change) (made : Bool) (from tint : Tint) (row : List ℕ) (i j age : ℕ) (best least : List ℕ) → i ≡ j
    → IsTrue made ↔ Makes change from tint → LoweredIf (IsTrue made) best (get_or row i 0) age least
    → LoweredIf (Makes change from tint) best (get_or row j 0) age least
lowered-told change made from tint row i j age best least same told (inl lowered) =
    inl (told.0 lowered.0, subst (λ k. Lowered best (get_or row k 0) age least) same lowered.1)
lowered-told change made from tint row i j age best least same told (inr kept) = inr ((λ makes. kept.0 (told.1 makes)), kept.1)

pub lowered-by : (row : List ℕ) (place age : ℕ) (from tint : Tint) (light red : Made) (best least : Latest) → MadeByLight from tint light
    → MadeByRed from tint red → LoweredKind light row (9 * place + 1) age best.light least.light
    → LoweredKind red row (9 * place + 5) age best.red least.red → (change : Change)
    → LoweredIf (Makes change from tint) (latest_of change best) (get_or row (9 * place + column_of (opposite_of change)) 0) age
    (latest_of change least)
lowered-by row place age from tint light red best least by_light by_red first second PossibleRise =
    lowered-told PossibleRise light.up from tint row (9 * place + 1 + 1) (9 * place + 2) age (numbers_of best.light.up) (numbers_of least.light.up) (omega arith) by_light.up first.up
lowered-by row place age from tint light red best least by_light by_red first second PossibleFall =
    lowered-told PossibleFall light.down from tint row (9 * place + 1) (9 * place + 1) age (numbers_of best.light.down) (numbers_of least.light.down) (omega arith) by_light.down
    first.down
lowered-by row place age from tint light red best least by_light by_red first second SureRise =
    lowered-told SureRise light.surely_up from tint row (9 * place + 1 + 3) (9 * place + 4) age (numbers_of best.light.surely_up) (numbers_of least.light.surely_up) (omega arith)
    by_light.surely_up first.surely_up
lowered-by row place age from tint light red best least by_light by_red first second SureFall =
    lowered-told SureFall light.surely_down from tint row (9 * place + 1 + 2) (9 * place + 3) age (numbers_of best.light.surely_down) (numbers_of least.light.surely_down)
    (omega arith) by_light.surely_down first.surely_down
lowered-by row place age from tint light red best least by_light by_red first second PossiblyIntoRed =
    lowered-told PossiblyIntoRed red.up from tint row (9 * place + 5 + 1) (9 * place + 6) age (numbers_of best.red.up) (numbers_of least.red.up) (omega arith) by_red.up second.up
lowered-by row place age from tint light red best least by_light by_red first second PossiblyOutOfRed =
    lowered-told PossiblyOutOfRed red.down from tint row (9 * place + 5) (9 * place + 5) age (numbers_of best.red.down) (numbers_of least.red.down) (omega arith) by_red.down
    second.down
lowered-by row place age from tint light red best least by_light by_red first second SurelyIntoRed =
    lowered-told SurelyIntoRed red.surely_up from tint row (9 * place + 5 + 3) (9 * place + 8) age (numbers_of best.red.surely_up) (numbers_of least.red.surely_up) (omega arith)
    by_red.surely_up second.surely_up
lowered-by row place age from tint light red best least by_light by_red first second SurelyOutOfRed =
    lowered-told SurelyOutOfRed red.surely_down from tint row (9 * place + 5 + 2) (9 * place + 7) age (numbers_of best.red.surely_down) (numbers_of least.red.surely_down)
    (omega arith) by_red.surely_down second.surely_down
