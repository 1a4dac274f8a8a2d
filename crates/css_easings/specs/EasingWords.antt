-- The words for easings, and for where steps jump.
use Rattle.std.specs.Prelude.{ℕ, pos, List, [], ◌∷◌, codes}
use Rattle.page_model.specs.declared.easing.Easing.{Easing}
use Rattle.page_model.specs.declared.easing.Easing.TheVariants.{Linear, Steps, Cubic}
use Rattle.page_model.specs.declared.easing.Jump.{Jump}
use Rattle.page_model.specs.declared.easing.Jump.TheVariants.{Start, End, Neither, Both}

unfoldable pub easing_words : List (List ℕ × Easing)
easing_words =
    (codes "linear", Linear) ∷ (codes "ease", Cubic 250 (pos 100) 250 (pos 1000)) ∷ (codes "ease-in", Cubic 420 (pos 0) 1000 (pos 1000))
    ∷ (codes "ease-out", Cubic 0 (pos 0) 580 (pos 1000)) ∷ (codes "ease-in-out", Cubic 420 (pos 0) 580 (pos 1000))
    ∷ (codes "step-start", Steps 1 Start) ∷ (codes "step-end", Steps 1 End) ∷ []

unfoldable pub jump_words : List (List ℕ × Jump)
jump_words =
    (codes "jump-start", Start) ∷ (codes "jump-end", End) ∷ (codes "jump-none", Neither) ∷ (codes "jump-both", Both) ∷ (codes "start", Start)
    ∷ (codes "end", End) ∷ []
