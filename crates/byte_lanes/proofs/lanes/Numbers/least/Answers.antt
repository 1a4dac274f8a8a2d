-- The even ones and the odd ones.
use Rattle.std.proofs.Common.{ℕ, zero, suc, ◌≡◌, ◌<◌, get_or, arith}
use Rattle.std.specs.Prelude.{min}
use Rattle.byte_lanes.specs.Lanes.{AreLanesBelow, IsLesser, in_turn, lanes_of}
use Rattle.byte_lanes.proofs.LaneLemmas.{even-below, odd-below}
use Rattle.byte_lanes.proofs.lanes.Numbers.least.Goals as goal

each : (even odd even' odd' least least' : ℕ) → IsLesser even even' least → IsLesser odd odd' least' → (n : ℕ) → n < 8
    → get_or (in_turn (lanes_of least) (lanes_of least')) n 0
    ≡ min (get_or (in_turn (lanes_of even) (lanes_of odd)) n 0) (get_or (in_turn (lanes_of even') (lanes_of odd')) n 0)
each even odd even' odd' least least' first second zero few = first 0 (omega arith)
each even odd even' odd' least least' first second (suc zero) few = second 0 (omega arith)
each even odd even' odd' least least' first second (suc (suc zero)) few = first 1 (omega arith)
each even odd even' odd' least least' first second (suc (suc (suc zero))) few = second 1 (omega arith)
each even odd even' odd' least least' first second (suc (suc (suc (suc zero)))) few = first 2 (omega arith)
each even odd even' odd' least least' first second (suc (suc (suc (suc (suc zero))))) few = second 2 (omega arith)
each even odd even' odd' least least' first second (suc (suc (suc (suc (suc (suc zero)))))) few = first 3 (omega arith)
each even odd even' odd' least least' first second (suc (suc (suc (suc (suc (suc (suc zero))))))) few = second 3 (omega arith)
each even odd even' odd' least least' first second (suc (suc (suc (suc (suc (suc (suc (suc n)))))))) few = absurd (omega arith)

pub lesser-requires-clause-first : goal.lesser-requires-clause-first
lesser-requires-clause-first c = even-below c.args.self.even c.args.self.odd 32768 c.requires.first

pub lesser-requires-clause-second : goal.lesser-requires-clause-second
lesser-requires-clause-second c = even-below c.args.other.even c.args.other.odd 32768 c.requires.second

pub lesser-requires-2-clause-first : goal.lesser-requires-2-clause-first
lesser-requires-2-clause-first c = odd-below c.args.self.even c.args.self.odd 32768 c.requires.first

pub lesser-requires-2-clause-second : goal.lesser-requires-2-clause-second
lesser-requires-2-clause-second c = odd-below c.args.other.even c.args.other.odd 32768 c.requires.second

pub returns : goal.returns
returns c =
    each c.args.self.even c.args.self.odd c.args.other.even c.args.other.odd c.lesser.result c.lesser-2.result c.lesser.ensures c.lesser-2.ensures
