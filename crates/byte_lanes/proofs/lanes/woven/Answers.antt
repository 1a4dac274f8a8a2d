-- Each lane is a byte, and the odd ones stand in the upper halves.
use Rattle.std.proofs.Common.{ℕ, zero, suc, ◌≡◌, ◌∙◌, ◌+◌, ◌*◌, ◌%◌, ◌^◌, ◌<◌, ◌∷◌, [], List, get_or, arith, ap, refl, sym}
use Rattle.byte_lanes.specs.Lanes.{AreLanesBelow, in_turn, lanes_of}
use Rattle.byte_lanes.specs.Bytes.{byte}
use Rattle.byte_lanes.proofs.LaneLemmas.{FourBelow, by-lanes, four, four-below}
use Rattle.byte_lanes.proofs.lanes.woven.Goals as goal

-- the word by its bytes
bytes : (even odd a b c d e f g h : ℕ) → FourBelow 256 a c e g → FourBelow 256 b d f h → even ≡ four a c e g → odd ≡ four b d f h
    → (even + odd * 256 % 2 ^ 64
    ≡ ((((((h * 256 + g) * 256 + f) * 256 + e) * 256 + d) * 256 + c) * 256 + b) * 256 + a)
bytes even odd a b c d e f g h first second one two =
    let fits : odd * 256 % 2 ^ 64 ≡ odd * 256 = omega (arith, second.first, second.second, second.third, second.fourth, two) in
    omega (arith, fits, one, two)

each : (word a b c d e f g h : ℕ) → FourBelow 256 a c e g → FourBelow 256 b d f h
    → word ≡ ((((((h * 256 + g) * 256 + f) * 256 + e) * 256 + d) * 256 + c) * 256 + b) * 256 + a
    → (n : ℕ) → n < 8 → byte word n ≡ get_or (a ∷ b ∷ c ∷ d ∷ e ∷ f ∷ g ∷ h ∷ []) n 0
unfolding byte
each word a b c d e f g h first second is zero few =
    omega (arith, is, first.first, first.second, first.third, first.fourth, second.first, second.second, second.third, second.fourth)
each word a b c d e f g h first second is (suc zero) few =
    omega (arith, is, first.first, first.second, first.third, first.fourth, second.first, second.second, second.third, second.fourth)
each word a b c d e f g h first second is (suc (suc zero)) few =
    omega (arith, is, first.first, first.second, first.third, first.fourth, second.first, second.second, second.third, second.fourth)
each word a b c d e f g h first second is (suc (suc (suc zero))) few =
    omega (arith, is, first.first, first.second, first.third, first.fourth, second.first, second.second, second.third, second.fourth)
each word a b c d e f g h first second is (suc (suc (suc (suc zero)))) few =
    omega (arith, is, first.first, first.second, first.third, first.fourth, second.first, second.second, second.third, second.fourth)
each word a b c d e f g h first second is (suc (suc (suc (suc (suc zero))))) few =
    omega (arith, is, first.first, first.second, first.third, first.fourth, second.first, second.second, second.third, second.fourth)
each word a b c d e f g h first second is (suc (suc (suc (suc (suc (suc zero)))))) few =
    omega (arith, is, first.first, first.second, first.third, first.fourth, second.first, second.second, second.third, second.fourth)
each word a b c d e f g h first second is (suc (suc (suc (suc (suc (suc (suc zero))))))) few =
    omega (arith, is, first.first, first.second, first.third, first.fourth, second.first, second.second, second.third, second.fourth)
each word a b c d e f g h first second is (suc (suc (suc (suc (suc (suc (suc (suc n)))))))) few = absurd (omega arith)

abbrev lane : ℕ → ℕ → ℕ
lane word i = get_or (lanes_of word) i 0

-- there is room for both
room : (even odd : ℕ) → even < 2 ^ 64 → odd < 2 ^ 64 → AreLanesBelow 256 even → AreLanesBelow 256 odd → even + odd * 256 % 2 ^ 64 < 2 ^ 64
room even odd fits fits' small small' =
    let is = bytes even odd (lane even 0) (lane odd 0) (lane even 1) (lane odd 1) (lane even 2) (lane odd 2) (lane even 3) (lane odd 3)
    (four-below 256 even small) (four-below 256 odd small') (by-lanes even fits).is (by-lanes odd fits').is in
    let low = four-below 256 even small in
    let high = four-below 256 odd small' in
    omega (arith, is, low.first, low.second, low.third, low.fourth, high.first, high.second, high.third, high.fourth)

pub overflow_add-result : goal.overflow_add-result
overflow_add-result c =
    omega (arith, room c.args.even c.args.odd c.ranges.even.fits c.ranges.odd.fits c.requires.first c.requires.second)

pub returns : goal.returns
returns c =
    let even : ℕ = c.args.even in
    let odd : ℕ = c.args.odd in
    each (even + odd * 256 % 2 ^ 64) (lane even 0) (lane odd 0) (lane even 1) (lane odd 1) (lane even 2) (lane odd 2) (lane even 3) (lane odd 3)
    (four-below 256 even c.requires.first) (four-below 256 odd c.requires.second)
    (bytes even odd (lane even 0) (lane odd 0) (lane even 1) (lane odd 1) (lane even 2) (lane odd 2) (lane even 3) (lane odd 3)
    (four-below 256 even c.requires.first) (four-below 256 odd c.requires.second) (by-lanes even c.ranges.even.fits).is
    (by-lanes odd c.ranges.odd.fits).is)
