-- All of no animations do anything.
use Rattle.std.proofs.Common.{refl, arith, ℕ, [], ◌≡◌, rules}
use Rattle.page_model.specs.declared.setup.Setup.{Setup}
use Rattle.page_model.specs.Horizon.{IsHorizon, IsNeeded}
use Rattle.horizon_laws.proofs.LeastLemmas.{IsLeast-unique}
use Rattle.horizon_laws.proofs.horizons.nothing_needs_one_frame.Goals as goal

horizon : (setup : Setup) → IsHorizon setup [] 0 1
horizon setup = record {
  settled_is = record { holds = search rules; least = λ m holds. omega arith };
  period_is = record { holds = record { some = omega arith; whole = search rules }; least = λ m holds. holds.some };
}

no_other : (setup : Setup) (needed : ℕ) → IsNeeded setup [] needed → needed ≡ 1
no_other setup needed is =
    let settled = IsLeast-unique _ _ _ is.horizon.settled_is (horizon setup).settled_is in
    let period = IsLeast-unique _ _ _ is.horizon.period_is (horizon setup).period_is in
    let sum = is.needed_is in
    omega arith

pub returns : goal.returns
returns c = record {
  horizon = horizon;
  needed = λ setup. record { settled = 0; period = 1; horizon = horizon setup; needed_is = refl };
  no_other = no_other;
}
