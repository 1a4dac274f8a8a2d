use Rattle.std.proofs.Common.{ℕ, ◌≡◌, ◌+◌, ◌<◌, get_or}
use Rattle.tint_changes.specs.declared.changes.Change.{Change}
use Rattle.tint_changes.specs.declared.changes.Change.TheVariants.{PossibleRise, PossibleFall, SureRise, SureFall, PossiblyIntoRed, PossiblyOutOfRed, SurelyIntoRed, SurelyOutOfRed}
use Rattle.byte_lanes.specs.declared.lanes.Numbers.{Numbers}
use Rattle.flash_rows.specs.declared.latest.Latest.{Latest}
use Rattle.byte_lanes.specs.Lanes.{numbers_of}
use Rattle.flash_rows.specs.Pushing.{latest_of}
use Rattle.flash_rows.proofs.latest.no_starts.Goals as goal

abbrev same : Numbers → Latest
same ns = record {
  light = record { up = ns; down = ns; surely_up = ns; surely_down = ns };
  red = record { up = ns; down = ns; surely_up = ns; surely_down = ns };
}

each : (ns : Numbers) (k : ℕ) → ((n : ℕ) → n < 8 → get_or (numbers_of ns) n 0 ≡ k) → (change : Change) (n : ℕ) → n < 8
    → get_or (latest_of change (same ns)) n 0 ≡ k
each ns k are PossibleRise = are
each ns k are PossibleFall = are
each ns k are SureRise = are
each ns k are SureFall = are
each ns k are PossiblyIntoRed = are
each ns k are PossiblyOutOfRed = are
each ns k are SurelyIntoRed = are
each ns k are SurelyOutOfRed = are

pub returns-clause-none : goal.returns-clause-none
returns-clause-none c = each c.all-none.result (c.args.rate + 1) c.all-none.ensures
