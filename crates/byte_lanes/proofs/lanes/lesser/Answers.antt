-- Lane by lane.
use Rattle.std.proofs.Common.{ℕ, zero, suc, ◌≡◌, ◌∙◌, ◌+◌, ◌-◌, ◌/◌, ◌^◌, ◌<◌, ◌≤◌, ◌∷◌, [], get_or, arith, ap, refl}
use Rattle.std.specs.Prelude.{bit_and, min}
use Rattle.byte_lanes.specs.Lanes.{AreLanesBelow, IsLesser, lanes_of}
use Rattle.byte_lanes.proofs.LaneLemmas.{IsFour, by-lanes, excess-four, four, four-below, is-over, lanes-are, over-four, without-four}
use Rattle.byte_lanes.proofs.lanes.lesser.Goals as goal

abbrev lane : ℕ → ℕ → ℕ
lane word i = get_or (lanes_of word) i 0

-- what is taken away, and what is left
taken : (a b : ℕ) → a < 2 ^ 64 → b < 2 ^ 64 → AreLanesBelow 32768 a → AreLanesBelow 32768 b
    → (bit_and (a + 9223512776490647552 - b) (bit_and (a + 9223512776490647552 - b) 9223512776490647552
    - bit_and (a + 9223512776490647552 - b) 9223512776490647552 / 32768) ≤ a)
    × (a - bit_and (a + 9223512776490647552 - b) (bit_and (a + 9223512776490647552 - b) 9223512776490647552
    - bit_and (a + 9223512776490647552 - b) 9223512776490647552 / 32768)
    ≡ four (min (lane a 0) (lane b 0)) (min (lane a 1) (lane b 1)) (min (lane a 2) (lane b 2)) (min (lane a 3) (lane b 3)))
taken a b first second small small' =
    let one = by-lanes a first in
    let two = by-lanes b second in
    let low = four-below 32768 a small in
    let low' = four-below 32768 b small' in
    let over = over-four (lane a 0) (lane a 1) (lane a 2) (lane a 3) (lane b 0) (lane b 1) (lane b 2) (lane b 3) a b low low' one.is two.is in
    without-four (lane a 0) (lane a 1) (lane a 2) (lane a 3) (lane b 0) (lane b 1) (lane b 2) (lane b 3) a _ one.is
    (excess-four (lane a 0) (lane b 0) (32768 + lane a 0 - lane b 0) (lane a 1) (lane b 1) (32768 + lane a 1 - lane b 1) (lane a 2) (lane b 2)
    (32768 + lane a 2 - lane b 2) (lane a 3) (lane b 3) (32768 + lane a 3 - lane b 3) (a + 9223512776490647552 - b)
    (is-over (lane a 0) (lane b 0) low.first low'.first) (is-over (lane a 1) (lane b 1) low.second low'.second)
    (is-over (lane a 2) (lane b 2) low.third low'.third) (is-over (lane a 3) (lane b 3) low.fourth low'.fourth) over)

least-below : (a b : ℕ) → a < 32768 → min a b < 65536
least-below a b small = omega (arith, small)

lesser : (a b least : ℕ) → AreLanesBelow 32768 a
    → least ≡ four (min (lane a 0) (lane b 0)) (min (lane a 1) (lane b 1)) (min (lane a 2) (lane b 2)) (min (lane a 3) (lane b 3))
    → IsLesser a b least
lesser a b least small is i few =
    ap (λ ls. get_or ls i 0)
    (lanes-are least (min (lane a 0) (lane b 0)) (min (lane a 1) (lane b 1)) (min (lane a 2) (lane b 2)) (min (lane a 3) (lane b 3)) (record {
      first = least-below (lane a 0) (lane b 0) (small 0 (omega arith));
      second = least-below (lane a 1) (lane b 1) (small 1 (omega arith));
      third = least-below (lane a 2) (lane b 2) (small 2 (omega arith));
      fourth = least-below (lane a 3) (lane b 3) (small 3 (omega arith));
      is = is;
    }))
    ∙ each i few where
      each : (i : ℕ) → i < 4
          → get_or (min (lane a 0) (lane b 0) ∷ min (lane a 1) (lane b 1) ∷ min (lane a 2) (lane b 2) ∷ min (lane a 3) (lane b 3) ∷ []) i 0
          ≡ min (lane a i) (lane b i)
      each zero few = refl
      each (suc zero) few = refl
      each (suc (suc zero)) few = refl
      each (suc (suc (suc zero))) few = refl
      each (suc (suc (suc (suc i)))) few = absurd (omega arith)

-- there is room for the bits on top
room : (a : ℕ) → a < 2 ^ 64 → AreLanesBelow 32768 a → a + 9223512776490647552 < 2 ^ 64
room a fits small =
    let is = (by-lanes a fits).is in
    let low = four-below 32768 a small in
    omega (arith, is, low.first, low.second, low.third, low.fourth)

below : (a b : ℕ) → b < 2 ^ 64 → AreLanesBelow 32768 b → b ≤ a + 9223512776490647552
below a b fits small =
    let is = (by-lanes b fits).is in
    let low = four-below 32768 b small in
    omega (arith, is, low.first, low.second, low.third, low.fourth)

pub overflow_add-over : goal.overflow_add-over
overflow_add-over c = omega (arith, room c.args.a c.ranges.a.fits c.requires.first)

pub overflow_sub-over : goal.overflow_sub-over
overflow_sub-over c = below c.args.a c.args.b c.ranges.b.fits c.requires.second

pub overflow_sub-result-2 : goal.overflow_sub-result-2
overflow_sub-result-2 c = (taken c.args.a c.args.b c.ranges.a.fits c.ranges.b.fits c.requires.first c.requires.second).0

pub returns : goal.returns
returns c =
    lesser c.args.a c.args.b _ c.requires.first (taken c.args.a c.args.b c.ranges.a.fits c.ranges.b.fits c.requires.first c.requires.second).1
