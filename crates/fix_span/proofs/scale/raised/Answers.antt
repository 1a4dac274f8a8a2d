-- A product of a number of 64 bits and at most 2^60 parts fits.
use Rattle.std.proofs.Common.{pos, ◌^◌, ◌*ℤ◌, refl}
use Rattle.std.specs.Int.{w64, w128}
use Rattle.std.proofs.lemmas.Int.{to_z-of_z}
use Rattle.fix_span.proofs.ScaleLemmas.{parts_fit, raised_fits, wide_fits}
use Rattle.fix_span.proofs.scale.raised.Goals as goal

pub overflow_mul-result : goal.overflow_mul-result
overflow_mul-result c =
    rw (
      to_z-of_z w64 c.args.n c.ranges.n,
      to_z-of_z w128 c.args.n (wide_fits c.args.n c.ranges.n),
      c.parts_of.ensures,
      to_z-of_z w128 (pos (2 ^ c.args.bits)) (parts_fit c.args.bits c.requires),
    )
    (raised_fits c.args.n c.args.bits c.requires c.ranges.n)

pub returns : goal.returns
returns c =
    rw (
      to_z-of_z w64 c.args.n c.ranges.n,
      to_z-of_z w128 c.args.n (wide_fits c.args.n c.ranges.n),
      c.parts_of.ensures,
      to_z-of_z w128 (pos (2 ^ c.args.bits)) (parts_fit c.args.bits c.requires),
      to_z-of_z w128 (c.args.n *ℤ pos (2 ^ c.args.bits)) (raised_fits c.args.n c.args.bits c.requires c.ranges.n),
    )
    refl
