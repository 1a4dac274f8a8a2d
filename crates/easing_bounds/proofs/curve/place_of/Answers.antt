-- A stretch of 2^(22 - k) steps is twice one of 2^(21 - k), and the last has one.
use Rattle.std.proofs.Common.{arith, ◌≡◌, ◌-◌, ◌*◌, ◌^◌, ◌%◌}
use Rattle.std.proofs.lemmas.Nat.{one_shl}
use Rattle.easing_bounds.proofs.CurveLemmas.{halves}
use Rattle.easing_bounds.proofs.curve.place_of.Goals as goal

pub nearer-place-requires-clause-whole : goal.nearer-place-requires-clause-whole
nearer-place-requires-clause-whole c =
    let k = c.halving.halved in
    let half : 1 * 2 ^ (21 - k) % 18446744073709551616 ≡ 2 ^ (21 - k) = one_shl (21 - k) 64 (omega arith) in
    rw half (halves c.args.x1 c.args.x2 c.args.limit c.halving.place k c.halving-test.true c.halving.invariant)

pub returns : goal.returns
returns c =
    let last : c.halving.halved ≡ 22 = omega arith in
    rw last at c.halving.invariant
