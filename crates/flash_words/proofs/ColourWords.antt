-- What is at the six places of a word that writes a colour.
use Rattle.std.proofs.Common.{ℕ, List, [], ◌∷◌, get_or}
use Rattle.page_model.specs.declared.colour.Rgb.{Rgb}
use Rattle.flash_words.specs.Colours.{IsHexPair, SpellsColour}

pub digits_at : (word : List ℕ) (c : Rgb) → SpellsColour word c
    → IsHexPair (get_or word 0 0) (get_or word 1 0) c.r × (IsHexPair (get_or word 2 0) (get_or word 3 0) c.g × IsHexPair (get_or word 4 0) (get_or word 5 0) c.b)
digits_at [] c is = absurd is
digits_at (a ∷ []) c is = absurd is
digits_at (a ∷ b ∷ []) c is = absurd is
digits_at (a ∷ b ∷ d ∷ []) c is = absurd is
digits_at (a ∷ b ∷ d ∷ e ∷ []) c is = absurd is
digits_at (a ∷ b ∷ d ∷ e ∷ f ∷ []) c is = absurd is
digits_at (a ∷ b ∷ d ∷ e ∷ f ∷ g ∷ []) c is = is
digits_at (a ∷ b ∷ d ∷ e ∷ f ∷ g ∷ h ∷ more) c is = absurd is
