-- Seventeen greys in one window, which flash although no two neighbours change by a tenth: 00 40 5a 40, again and again.
use Rattle.std.specs.Prelude.{ℕ, suc, ◌%◌, ◌⊎◌, List, [], ◌∷◌, slice_index}
use Rattle.page_model.specs.declared.colour.Rgb.{Rgb}
use Rattle.page_model.specs.Flash.{IsChain, Between, Flashes}
use Rattle.page_model.specs.Light.{IsRise, IsFall}
use Rattle.time_values.specs.Examples.{grey}

abbrev pub levels : List ℕ
levels = 0x00 ∷ (0x40 ∷ (0x5a ∷ (0x40 ∷ [])))

-- the colour in a frame
abbrev pub grey_in : ℕ → Rgb
grey_in frame = grey (slice_index levels (frame % 4))

-- every other frame of the window, nine in all
abbrev pub every_other : List ℕ
every_other = 0 ∷ (2 ∷ (4 ∷ (6 ∷ (8 ∷ (10 ∷ (12 ∷ (14 ∷ (16 ∷ []))))))))

-- the window from frame 0 on, at a rate of 16, has that chain, and so the greys flash in it
pub record SeventeenGreys : Type 0 where
  pub chain : IsChain (Between IsRise grey_in) (Between IsFall grey_in) 0 16 every_other
  pub flash : Flashes grey_in 0 16
  pub no_neighbours_change : (k : ℕ) → IsRise (grey_in k) (grey_in (suc k)) ⊎ IsFall (grey_in k) (grey_in (suc k)) → ⊥
  pub window_one_short : IsChain (Between IsRise grey_in) (Between IsFall grey_in) 0 15 every_other → ⊥
