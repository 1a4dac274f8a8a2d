-- One frame more.
use Rattle.std.proofs.Common.{◌≡◌, arith}
use Rattle.frame_state.specs.States.{state_as}
use Rattle.tint_laws.proofs.WindowLemmas.{layer-at}
use Rattle.region_parts.proofs.AreaLemmas.{HasStateIn, area-more, nowhere-more}
use Rattle.region_parts.proofs.areas.areas_below.Goals as goal
use Rattle.region_parts.proofs.areas.areas_below.Goals.{in-Some+in_ok-push, in_default}

pub loop-k-preserved : goal.loop-k-preserved
loop-k-preserved c =
    let scene = c.args.scene.now in
    let setup = c.args.setup.now in
    let state = state_as c.layer_at-state.result in
    let found = layer-at scene.layers c.args.number c.requires.there in
    let has : HasStateIn scene setup c.loop-k.k c.args.number state =
    record { layer = found.0; there = found.1; is = rw c.from.ensures at (c.layer_at-state.ensures.own found.0 found.1) } in
    elim c.match-area_of.branch [
      | in-Some+in_ok-push w ↦
          rw (w.areas-is, w.in_ok-push.ensures.items)
          (area-more scene setup c.args.number c.loop-k.k c.loop-k.areas.items w.in-Some.area state has w.in-Some.ensures c.loop-k.invariant)
      | in_default w ↦
          rw w.areas-is
          (nowhere-more scene setup c.args.number c.loop-k.k c.loop-k.areas.items state has w.in_default.ensures c.loop-k.invariant)
    ]

pub returns : goal.returns
returns c =
    let same : c.loop-k.k ≡ c.args.frames = omega (arith, c.loop-k.auto.k-end, c.loop-k-test.false) in
    rw same at c.loop-k.invariant
