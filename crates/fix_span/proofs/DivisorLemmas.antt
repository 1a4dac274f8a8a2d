-- A positive divisor is neither 0 nor -1 as the machine has it.
use Rattle.std.proofs.Common.{ℤ, pos, negsuc, ◌<ℤ◌, arith, FitsSigned}
use Rattle.std.proofs.lemmas.Int.{ints}
use Rattle.std.specs.Int.{w128, IsNonZero, NotMinOverMinusOne}

pub IsNonZero-positive : (d : ℤ) → pos 0 <ℤ d → IsNonZero w128 d
IsNonZero-positive (pos d) h = omega (arith, ints)
IsNonZero-positive (negsuc d) h = absurd (omega (arith, ints))

pub NotMinOverMinusOne-positive : (x d : ℤ) → pos 0 <ℤ d → FitsSigned w128 d → NotMinOverMinusOne w128 x d
NotMinOverMinusOne-positive x (pos d) h fits e = absurd (omega (arith, fits.sfits, e))
NotMinOverMinusOne-positive x (negsuc d) h fits e = absurd (omega (arith, ints))
