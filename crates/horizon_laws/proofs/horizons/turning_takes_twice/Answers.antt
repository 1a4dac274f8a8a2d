-- The cycles are equal, and a term knows of its animation only the cycle.
use Rattle.std.proofs.Common.{◌≡◌, ℕ, ◌*◌, ◌%◌, true, false, arith, subst, sym}
use Rattle.page_model.specs.declared.setup.Setup.{Setup}
use Rattle.page_model.specs.declared.animation.Anim.{Anim}
use Rattle.page_model.specs.Horizon.{IsTerm, IsWholeCycles, turns_round, cycle_of}
use Rattle.page_model.specs.Progress.{duration_of}
use Rattle.page_model.specs.Time.{time_of}
use Rattle.horizon_laws.proofs.horizons.turning_takes_twice.Goals as goal

cycle-turning : (setup : Setup) (anim : Anim) → turns_round anim.direction ≡ true → cycle_of setup anim ≡ 2 * duration_of setup anim
cycle-turning setup anim e = rw e

cycle-other : (setup : Setup) (anim : Anim) → turns_round anim.direction ≡ false → cycle_of setup anim ≡ duration_of setup anim
cycle-other setup anim e = rw e

twice : (rate one other : ℕ) → other ≡ 2 * one → 2 * (1000 * one * rate) ≡ 1000 * other * rate
twice rate one other e = rw e (omega arith)

whole-carries :
    (setup : Setup) (one other : Anim) (n : ℕ) → cycle_of setup one ≡ cycle_of setup other → IsWholeCycles setup one n
    → IsWholeCycles setup other n
whole-carries setup one other n e w =
    record { some = w.some; whole = subst (λ x. time_of setup n % x ≡ 0) e w.whole }

term-carries :
    (setup : Setup) (one other : Anim) (term : ℕ) → cycle_of setup one ≡ cycle_of setup other → IsTerm setup one term
    → IsTerm setup other term
term-carries setup one other term e is = record {
  holds = whole-carries setup one other term e is.holds;
  least = λ m w. is.least m (whole-carries setup other one m (sym e) w);
}

pub returns : goal.returns
returns c setup turning other turns stays long term =
    let one = cycle-turning setup turning turns in
    let two = cycle-other setup other stays in
    let both = twice setup.num turning.duration other.duration long in
    let same : cycle_of setup turning ≡ cycle_of setup other = cc in
    (term-carries setup turning other term same, term-carries setup other turning term (sym same))
