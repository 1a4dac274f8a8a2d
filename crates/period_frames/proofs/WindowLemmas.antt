-- A window that starts behind the needed frames is just as the one that starts a period earlier.
use Rattle.std.proofs.Common.{◌≡◌, ℕ, ◌+◌, ◌≤◌, arith, sym, subst}
use Rattle.std.specs.Prelude.{◌↔◌}
use Rattle.page_model.specs.declared.setup.Setup.{Setup}
use Rattle.page_model.specs.declared.scene.Scene.{Scene}
use Rattle.page_model.specs.Enclosure.{IsLooseStateAt}
use Rattle.page_model.specs.Horizon.{IsHorizon, all_animations}
use Rattle.page_model.specs.LayerAt.{IsStateAt}
use Rattle.page_model.specs.Time.{HasFrames}
use Rattle.horizon_laws.proofs.EnoughLemmas.{bad_windows-repeat}
use Rattle.horizon_laws.proofs.StateLemmas.{loose_state-repeats, state-repeats}
use Rattle.horizon_laws.proofs.WindowLemmas.{holds-before}
use Rattle.period_frames.specs.Needed.{IsAsBad}
use Rattle.period_frames.specs.Windows.{IsJustAs, IsSeenBefore, WindowsRepeat}

same-fact : {One Other : Type 0} → (One ↔ Other) → (Other ↔ One)
same-fact both = (both.1, both.0)

both-ways : {One Two Three : Type 0} → (One ↔ Two) → (Two ↔ Three) → (One ↔ Three)
both-ways first second = (λ one. second.0 (first.0 one), λ three. first.1 (second.1 three))

itself : (scene : Scene) (setup : Setup) (start : ℕ) → IsJustAs scene setup start start
itself scene setup start = record {
  states = λ frame number layer state within there. (λ is. is, λ is. is);
  loose_states = λ kind frame number layer state within there. (λ is. is, λ is. is);
  as_bad = record {
    bad = λ x y. (λ is. is, λ is. is);
    surely = λ kind x y. (λ is. is, λ is. is);
    possibly = λ kind x y. (λ is. is, λ is. is);
  };
}

as_bad-through : (scene : Scene) (setup : Setup) (one two three : ℕ) → IsAsBad scene setup two one → IsAsBad scene setup two three → IsAsBad scene setup one three
as_bad-through scene setup one two three first second = record {
  bad = λ x y. both-ways (same-fact (first.bad x y)) (second.bad x y);
  surely = λ kind x y. both-ways (same-fact (first.surely kind x y)) (second.surely kind x y);
  possibly = λ kind x y. both-ways (same-fact (first.possibly kind x y)) (second.possibly kind x y);
}

-- where a window that starts a period later is just as another one, so is this one
period-earlier :
    (scene : Scene) (setup : Setup) (settled period start other : ℕ) → HasFrames setup
    → IsHorizon setup (all_animations scene) settled period → settled ≤ start → IsJustAs scene setup (start + period) other
    → IsJustAs scene setup start other
period-earlier scene setup settled period start other rate horizon behind same = record {
  states = λ frame number layer state within there.
      let sum : start + frame + period ≡ start + period + frame = omega arith in
      both-ways (same.states frame number layer state within there)
      (subst (λ k. IsStateAt scene setup k layer state ↔ IsStateAt scene setup (start + frame) layer state) sum
      (state-repeats scene setup settled period (start + frame) number layer state rate horizon (omega arith) there));
  loose_states = λ kind frame number layer state within there.
      let sum : start + frame + period ≡ start + period + frame = omega arith in
      both-ways (same.loose_states kind frame number layer state within there)
      (subst (λ k. IsLooseStateAt kind scene setup k layer state ↔ IsLooseStateAt kind scene setup (start + frame) layer state) sum
      (loose_state-repeats kind scene setup settled period (start + frame) number layer state rate horizon (omega arith) there));
  as_bad = as_bad-through scene setup start (start + period) other
      (bad_windows-repeat scene setup settled period start rate horizon behind) same.as_bad;
}

seen-before :
    (scene : Scene) (setup : Setup) (settled period start : ℕ) → HasFrames setup → IsHorizon setup (all_animations scene) settled period
    → IsSeenBefore scene setup (settled + period) start
seen-before scene setup settled period start rate horizon =
    let found = holds-before (λ s. IsJustAs scene setup s start) settled period horizon.period_is.holds.some
    (λ s behind there. period-earlier scene setup settled period s start rate horizon behind there) start (itself scene setup start) in
    record { earlier = found.start; early = found.before; same = found.holds }

pub windows-repeat : WindowsRepeat
windows-repeat scene setup needed start rate is =
    subst (λ n. IsSeenBefore scene setup n start) (sym is.needed_is)
    (seen-before scene setup is.settled is.period start rate is.horizon)
