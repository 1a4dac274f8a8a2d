-- What is known of one animation.
use Rattle.std.proofs.Common.{◌≡◌, ℕ, true, [], ◌∷◌, refl, subst, sym}
use Rattle.std.specs.Prelude.{All, filter, IsTrue}
use Rattle.std.proofs.lemmas.List.Elements.{All-nil, All-cons, All-head}
use Rattle.page_model.specs.declared.setup.Setup.{Setup}
use Rattle.page_model.specs.declared.animation.Anim.{Anim}
use Rattle.page_model.specs.Horizon.{IsPeriod, IsSettled, IsTerm, has_settled, is_endless}
use Rattle.page_model.specs.Least.{IsLeast}
use Rattle.horizon_laws.proofs.PeriodLemmas.{Whole}

-- an animation has settled by a frame
abbrev pub Settled : Setup → ℕ → Anim → Type 0
Settled setup frame anim = IsTrue (has_settled setup anim frame)

pub settled-single :
    (setup : Setup) (anim : Anim) (frame : ℕ) → IsLeast (λ k. IsTrue (has_settled setup anim k)) frame
    → IsSettled setup (anim ∷ []) frame
settled-single setup anim frame is = record {
  holds = All-cons (Settled setup frame) anim [] is.holds (All-nil (Settled setup frame));
  least = λ m holds. is.least m (All-head (Settled setup m) anim [] holds);
}

-- the period of an endless animation is its term
pub period-endless :
    (setup : Setup) (anim : Anim) (term : ℕ) → is_endless anim ≡ true → IsTerm setup anim term → IsPeriod setup (anim ∷ []) term
period-endless setup anim term endless is =
    let alone : filter is_endless (anim ∷ []) ≡ anim ∷ [] = rw endless refl in
    record {
      holds = record {
        some = is.holds.some;
        whole = subst (All (Whole setup term)) (sym alone)
            (All-cons (Whole setup term) anim [] is.holds.whole (All-nil (Whole setup term)));
      };
      least = λ m holds. is.least m (record {
        some = holds.some;
        whole = All-head (Whole setup m) anim [] (subst (All (Whole setup m)) alone holds.whole);
      });
    }
