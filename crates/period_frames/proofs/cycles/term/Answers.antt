-- The cycle over its greatest common divisor with the time of one frame, which isn't 0.
use Rattle.std.proofs.Common.{◌≡◌, arith, subst, ◌≤◌, ◌/◌, sym}
use Rattle.std.specs.Int.{IsGcd}
use Rattle.page_model.specs.Horizon.{IsTerm, cycle_of}
use Rattle.page_model.specs.Time.{time_of}
use Rattle.horizon_laws.proofs.PeriodLemmas.{endless-duration}
use Rattle.horizon_laws.proofs.TermLemmas.{term-by_divisor}
use Rattle.period_frames.proofs.MultipleLemmas.{some-divisor}
use Rattle.period_frames.proofs.cycles.term.Goals as goal

pub nonzero_div-result : goal.nonzero_div-result
nonzero_div-result c = some-divisor c.frame_time.result c.greatest_divisor.result c.frame_time.ensures.some c.greatest_divisor.ensures.greatest.1

pub returns : goal.returns
returns c =
    let setup = c.args.setup.now in
    let anim = c.args.anim.now in
    let divisor = c.greatest_divisor.result in
    let e = c.cycle-cycle.ensures.value in
    let some : 1 ≤ c.cycle-cycle.result = c.cycle-cycle.ensures.some (endless-duration anim c.requires.endless) in
    let one_frame : c.frame_time.result ≡ time_of setup 1 = omega arith in
    let is : IsGcd (cycle_of setup anim) (time_of setup 1) divisor =
    subst (λ x. IsGcd (cycle_of setup anim) x divisor) one_frame
    (subst (λ x. IsGcd x c.frame_time.result divisor) e c.greatest_divisor.ensures.greatest) in
    subst (λ x. IsTerm setup anim (x / divisor)) (sym e) (term-by_divisor setup anim divisor (subst (λ x. 1 ≤ x) e some) is)
