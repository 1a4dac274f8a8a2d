-- Where the next tint is near all of the window, no chain ends there.
use Rattle.std.proofs.Common.{refl}
use Rattle.flash_rows.specs.declared.bounds.Bounds.{Bounds}
use Rattle.std.proofs.Common.{get_or, subst}
use Rattle.flash_rows.specs.Bounds.{IsNearAll}
use Rattle.flash_rows.specs.Pushing.{latest_of}
use Rattle.flash_rows.proofs.BoundLemmas.{near-none}
use Rattle.flash_rows.proofs.starts.latest_starts.Goals as goal

pub returns-then-is_near_all-clause-starts : goal.returns-then-is_near_all-clause-starts
returns-then-is_near_all-clause-starts c change tints count stands n few =
    near-none c.args.rate c.args.turn tints c.args.next.now.tint c.args.row.now c.args.next.now change n
    (get_or (latest_of change c.no_starts.result) n 0) count stands refl c.requires.known
    (subst (λ (b : Bounds). IsNearAll b c.args.next.now) c.bounds_of.ensures (c.is_near_all.ensures.0 c.if-is_near_all.true))
    (c.no_starts.ensures.none change n few)
