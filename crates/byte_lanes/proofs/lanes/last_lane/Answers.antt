use Rattle.std.proofs.Common.{ℕ, ◌≡◌, ◌/◌, ◌^◌, ◌<◌, get_or, arith}
use Rattle.byte_lanes.specs.Lanes.{AreLanesBelow, lanes_of}
use Rattle.byte_lanes.proofs.lanes.last_lane.Goals as goal

last : (word : ℕ) → word < 2 ^ 64 → word / 281474976710656 ≡ get_or (lanes_of word) 3 0
unfolding lanes_of
last word fits = omega (arith, fits)

pub overflow_cast-result : goal.overflow_cast-result
overflow_cast-result c =
    let small = c.requires 3 (omega arith) in
    omega (arith, last c.args.word c.ranges.word.fits, small)

pub returns : goal.returns
returns c = last c.args.word c.ranges.word.fits
