use Rattle.std.proofs.Common.{◌≡◌, ◌+◌, ◌-◌, arith}
use Rattle.window_area.proofs.window.band_at.Goals as goal

pub loop-band-init : goal.loop-band-init
loop-band-init c = omega (arith, c.requires.begin)

pub returns-then-place-from : goal.returns-then-place-from
returns-then-place-from c =
    let here : c.loop-band.band - 1 + 1 ≡ c.loop-band.band = omega arith in
    record {
      known = omega arith;
      from = c.loop-band.invariant;
      before = λ more. rw here (omega arith);
    }
