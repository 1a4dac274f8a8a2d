-- Windows of a page repeat behind the settled frame, so those before the needed frames are enough.
use Rattle.std.proofs.Common.{ℕ, ◌+◌, ◌≤◌, subst, sym}
use Rattle.std.specs.Prelude.{ℤ, ◌↔◌}
use Rattle.page_model.specs.declared.scene.Scene.{Scene}
use Rattle.page_model.specs.declared.setup.Setup.{Setup}
use Rattle.page_model.specs.Change.{IsPossibleFall, IsPossibleRise, IsSureFall, IsSureRise}
use Rattle.page_model.specs.Colour.{IsBadWindow, painted}
use Rattle.page_model.specs.Enclosure.{IsLooseStateAt, Kind}
use Rattle.page_model.specs.Horizon.{IsHorizon, all_animations}
use Rattle.page_model.specs.LayerAt.{IsStateAt}
use Rattle.page_model.specs.Light.{IsFall, IsRise}
use Rattle.page_model.specs.Red.{IsIntoRed, IsOutOfRed}
use Rattle.page_model.specs.TintOf.{tint_of}
use Rattle.page_model.specs.Window.{IsPossiblyBad, IsSurelyBad, PossiblyInto, PossiblyOut, SurelyInto, SurelyOut}
use Rattle.page_model.specs.Time.{HasFrames}
use Rattle.horizon_laws.specs.ForeverLaws.{AreEnough, BadWindowsRepeat, FewWindowsSuffice, NoneEver, NoneIn}
use Rattle.horizon_laws.proofs.StateLemmas.{loose_state-repeats, state-repeats}
use Rattle.horizon_laws.proofs.WindowLemmas.{IsSomeBad, Repeats, bad-earlier, bad-later, holds-before, some-earlier}

-- the exact states of a page repeat, and those of each kind
exact_states :
    (scene : Scene) (setup : Setup) (settled period : ℕ) → HasFrames setup → IsHorizon setup (all_animations scene) settled period
    → Repeats (IsStateAt scene setup) scene settled period
exact_states scene setup settled period rate horizon frame number layer state later there =
    state-repeats scene setup settled period frame number layer state rate horizon later there

loose_states :
    (kind : Kind) (scene : Scene) (setup : Setup) (settled period : ℕ) → HasFrames setup
    → IsHorizon setup (all_animations scene) settled period → Repeats (IsLooseStateAt kind scene setup) scene settled period
loose_states kind scene setup settled period rate horizon frame number layer state later there =
    loose_state-repeats kind scene setup settled period frame number layer state rate horizon later there

bad-repeats :
    (scene : Scene) (setup : Setup) (settled period start : ℕ) (x y : ℤ) → HasFrames setup
    → IsHorizon setup (all_animations scene) settled period → settled ≤ start
    → (IsBadWindow scene setup (start + period) x y ↔ IsBadWindow scene setup start x y)
bad-repeats scene setup settled period start x y rate horizon behind =
    let repeats = exact_states scene setup settled period rate horizon in (
      bad-earlier (IsStateAt scene setup) (painted scene) IsRise IsFall IsIntoRed IsOutOfRed scene setup settled period start x y repeats behind,
      bad-later (IsStateAt scene setup) (painted scene) IsRise IsFall IsIntoRed IsOutOfRed scene setup settled period start x y repeats behind,
    )

surely-repeats :
    (kind : Kind) (scene : Scene) (setup : Setup) (settled period start : ℕ) (x y : ℤ) → HasFrames setup
    → IsHorizon setup (all_animations scene) settled period → settled ≤ start
    → (IsSurelyBad kind scene setup (start + period) x y ↔ IsSurelyBad kind scene setup start x y)
surely-repeats kind scene setup settled period start x y rate horizon behind =
    let repeats = loose_states kind scene setup settled period rate horizon in (
      bad-earlier (IsLooseStateAt kind scene setup) (tint_of scene) IsSureRise IsSureFall (SurelyInto kind) (SurelyOut kind) scene setup
          settled period start x y repeats behind,
      bad-later (IsLooseStateAt kind scene setup) (tint_of scene) IsSureRise IsSureFall (SurelyInto kind) (SurelyOut kind) scene setup
          settled period start x y repeats behind,
    )

possibly-repeats :
    (kind : Kind) (scene : Scene) (setup : Setup) (settled period start : ℕ) (x y : ℤ) → HasFrames setup
    → IsHorizon setup (all_animations scene) settled period → settled ≤ start
    → (IsPossiblyBad kind scene setup (start + period) x y ↔ IsPossiblyBad kind scene setup start x y)
possibly-repeats kind scene setup settled period start x y rate horizon behind =
    let repeats = loose_states kind scene setup settled period rate horizon in (
      bad-earlier (IsLooseStateAt kind scene setup) (tint_of scene) IsPossibleRise IsPossibleFall (PossiblyInto kind) (PossiblyOut kind)
          scene setup settled period start x y repeats behind,
      bad-later (IsLooseStateAt kind scene setup) (tint_of scene) IsPossibleRise IsPossibleFall (PossiblyInto kind) (PossiblyOut kind)
          scene setup settled period start x y repeats behind,
    )

pub bad_windows-repeat : BadWindowsRepeat
bad_windows-repeat scene setup settled period start rate horizon behind = record {
  bad = λ x y. bad-repeats scene setup settled period start x y rate horizon behind;
  surely = λ kind x y. surely-repeats kind scene setup settled period start x y rate horizon behind;
  possibly = λ kind x y. possibly-repeats kind scene setup settled period start x y rate horizon behind;
}

-- where none of the windows that are looked at is bad none is
none-ever :
    (Bad : ℕ → ℤ → ℤ → Type 0) (settled period : ℕ) → 1 ≤ period
    → ((start : ℕ) (x y : ℤ) → settled ≤ start → Bad (start + period) x y → Bad start x y)
    → NoneIn Bad (settled + period) → NoneEver Bad
none-ever Bad settled period some earlier none start x y bad =
    let found = holds-before (λ s. Bad s x y) settled period some (λ s behind there. earlier s x y behind there) start bad in
    none found.start x y found.before found.holds

enough-by :
    (scene : Scene) (setup : Setup) (settled period : ℕ) → HasFrames setup → IsHorizon setup (all_animations scene) settled period
    → AreEnough scene setup (settled + period)
enough-by scene setup settled period rate horizon =
    let some = horizon.period_is.holds.some in
    record {
      safe = λ none start x y run is bad.
          let found = holds-before (IsSomeBad (IsStateAt scene setup) (painted scene) IsRise IsFall IsIntoRed IsOutOfRed scene setup x y)
          settled period some
          (λ s behind there. some-earlier (IsStateAt scene setup) (painted scene) IsRise IsFall IsIntoRed IsOutOfRed scene setup settled
          period x y s (exact_states scene setup settled period rate horizon) behind there)
          start (record { run = run; is = is; many = bad }) in
          none found.start x y found.holds.run found.before found.holds.is found.holds.many;
      surely = λ kind. none-ever (IsSurelyBad kind scene setup) settled period some
          (λ start x y behind. (surely-repeats kind scene setup settled period start x y rate horizon behind).0);
      possibly = λ kind. none-ever (IsPossiblyBad kind scene setup) settled period some
          (λ start x y behind. (possibly-repeats kind scene setup settled period start x y rate horizon behind).0);
    }

pub few-suffice : FewWindowsSuffice
few-suffice scene setup needed rate is =
    subst (AreEnough scene setup) (sym is.needed_is) (enough-by scene setup is.settled is.period rate is.horizon)
