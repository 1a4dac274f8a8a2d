-- Laws of settled frames and periods: both are unique, nothing needs one frame, and a period is the least common multiple of its
-- animations' terms.
use Rattle.std.specs.Prelude.{ℕ, true, false, ◌≡◌, ◌↔◌, ◌*◌, ◌/◌, ◌%◌, ◌<◌, ◌≤◌, List, [], All, filter}
use Rattle.std.specs.Int.{IsGcd}
use Rattle.page_model.specs.declared.setup.Setup.{Setup}
use Rattle.page_model.specs.declared.animation.Anim.{Anim}
use Rattle.page_model.specs.Horizon.{IsSettled, IsPeriod, IsHorizon, IsNeeded, IsTerm, IsWholeCycles, is_endless, turns_round, cycle_of}
use Rattle.page_model.specs.Time.{HasFrames, time_of}

-- no animation at all has settled at once, repeats after one frame, and needs one frame
pub record NothingNeedsOneFrame : Type 0 where
  pub horizon : (setup : Setup) → IsHorizon setup [] 0 1
  pub needed : (setup : Setup) → IsNeeded setup [] 1
  pub no_other : (setup : Setup) (needed : ℕ) → IsNeeded setup [] needed → needed ≡ 1

-- any animations, at a rate that has frames, have a settled frame and a period
pub record HorizonExists : Type 0 where
  pub horizon : (setup : Setup) (anims : List Anim) → HasFrames setup → (settled : ℕ) × (period : ℕ) × IsHorizon setup anims settled period
  pub needed : (setup : Setup) (anims : List Anim) → HasFrames setup → (needed : ℕ) × IsNeeded setup anims needed

-- animations have at most one settled frame and one period, and so at most one number of frames that they need
pub record HorizonIsUnique : Type 0 where
  pub settled : (setup : Setup) (anims : List Anim) (one other : ℕ) → IsSettled setup anims one → IsSettled setup anims other → one ≡ other
  pub period : (setup : Setup) (anims : List Anim) (one other : ℕ) → IsPeriod setup anims one → IsPeriod setup anims other → one ≡ other
  pub needed : (setup : Setup) (anims : List Anim) (one other : ℕ) → IsNeeded setup anims one → IsNeeded setup anims other → one ≡ other

-- an animation whose cycle takes time has a term: the cycle over its greatest common divisor with the time of one frame; and just
-- its multiples are whole numbers of cycles
pub record TermsAreLeast : Type 0 where
  pub exists : (setup : Setup) (anim : Anim) → 0 < cycle_of setup anim → (term : ℕ) × IsTerm setup anim term
  pub unique : (setup : Setup) (anim : Anim) (one other : ℕ) → IsTerm setup anim one → IsTerm setup anim other → one ≡ other
  pub by_divisor : (setup : Setup) (anim : Anim) (divisor : ℕ) → 0 < cycle_of setup anim
      → IsGcd (cycle_of setup anim) (time_of setup 1) divisor → IsTerm setup anim (cycle_of setup anim / divisor)
  pub multiples : (setup : Setup) (anim : Anim) (term frames : ℕ) → 0 < cycle_of setup anim → IsTerm setup anim term
      → 1 ≤ frames → IsWholeCycles setup anim frames ↔ (frames % term ≡ 0)

-- an animation that turns round has the term of one that does not and takes twice as long
abbrev pub TurningTakesTwice : Type 0
TurningTakesTwice =
    (setup : Setup) (turning other : Anim) → turns_round turning.direction ≡ true → turns_round other.direction ≡ false
    → other.duration ≡ 2 * turning.duration → (term : ℕ) → IsTerm setup turning term ↔ IsTerm setup other term

-- a number is a multiple of the term of each endless animation
abbrev pub IsCommonMultiple : Setup → List Anim → ℕ → Type 0
IsCommonMultiple setup anims n =
    All (λ (anim : Anim). (term : ℕ) → IsTerm setup anim term → n % term ≡ 0) (filter is_endless anims)

-- the period is the least common multiple of the terms; there is one at each rate that has frames
pub record PeriodIsLeastCommonMultiple : Type 0 where
  pub exists : (setup : Setup) (anims : List Anim) → HasFrames setup → (period : ℕ) × IsPeriod setup anims period
  pub common : (setup : Setup) (anims : List Anim) (period : ℕ) → IsPeriod setup anims period
      → IsCommonMultiple setup anims period
  pub divides_each : (setup : Setup) (anims : List Anim) (period n : ℕ) → HasFrames setup → IsPeriod setup anims period → 1 ≤ n
      → IsCommonMultiple setup anims n → n % period ≡ 0
