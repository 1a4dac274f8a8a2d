-- What repeats does nothing new behind its settled frame and one period.
use Rattle.std.proofs.Common.{◌≡◌, ℕ, zero, suc, ◌+◌, ◌-◌, ◌≤◌, arith, inl, inr, subst}
use Rattle.std.proofs.lemmas.Bool.{cases_lt}
use Rattle.page_model.specs.declared.scene.Scene.{Scene}
use Rattle.page_model.specs.declared.setup.Setup.{Setup}
use Rattle.page_model.specs.Enclosure.{IsLooseStateAt}
use Rattle.horizon_laws.specs.ForeverLaws.{FramesHaveEarlier, HasEarlier}

-- a frame of the first ones is itself
itself : (scene : Scene) (setup : Setup) (settled period frame : ℕ) → frame + 1 ≤ settled + period
    → HasEarlier scene setup settled period frame
itself scene setup settled period frame before = record {
  earlier = frame;
  before = omega arith;
  later = 0;
  sum = omega arith;
  is_as = λ layer kind on state repeats after is.
      let same : on + 0 ≡ on = omega arith in
      subst (λ k. IsLooseStateAt kind scene setup k layer state) same is;
}

-- each other one has the earlier one of the frame one period before
one_period : (scene : Scene) (setup : Setup) (settled period frame : ℕ) → settled + period ≤ frame
    → HasEarlier scene setup settled period (frame - period) → HasEarlier scene setup settled period frame
one_period scene setup settled period frame late first =
    let sum = first.sum in
    record {
      earlier = first.earlier;
      before = first.before;
      later = first.later + period;
      sum = omega arith;
      is_as = λ layer kind on state repeats after is.
          let same : on + (first.later + period) ≡ on + first.later + period = omega arith in
          first.is_as layer kind on state repeats after
          ((repeats kind (on + first.later) state (omega arith)).0 (subst (λ k. IsLooseStateAt kind scene setup k layer state) same is));
    }

has-earlier : (scene : Scene) (setup : Setup) (settled period fuel frame : ℕ) → 1 ≤ period → frame ≤ fuel
    → HasEarlier scene setup settled period frame
has-earlier scene setup settled period zero frame some most = itself scene setup settled period frame (omega arith)
has-earlier scene setup settled period (suc fuel) frame some most =
    elim (cases_lt frame (settled + period)) [
      | inl early ↦ itself scene setup settled period frame (omega arith)
      | inr late ↦
          one_period scene setup settled period frame late
          (has-earlier scene setup settled period fuel (frame - period) some (omega arith))
    ]

pub frames_have-earlier : FramesHaveEarlier
frames_have-earlier scene setup settled period frame some =
    has-earlier scene setup settled period frame frame some (omega arith)
