-- A viewport and a rate, as contracts see a `Setup`, and which ones there are.
use Rattle.std.specs.Prelude.{ℕ, Bool, ◌≡◌, ◌⊎◌, ◌≤◌, ◌&&◌, nat_le, Result, Ok, Err, if◌then◌else◌}
use Rattle.page_model.specs.declared.setup.SetupFault.{SetupFault}
use Rattle.page_model.specs.declared.setup.SetupFault.TheVariants.{Size, Rate}

-- width and height in pixels, and a rate of num / den frames per second
pub record Viewing : Type 0 where
  pub width : ℕ
  pub height : ℕ
  pub num : ℕ
  pub den : ℕ

-- a rate is a whole number from 1 to 240, or a whole number from 1,001 to 240,000 over 1,001
abbrev pub IsRate : ℕ → ℕ → Type 0
IsRate num den = ((den ≡ 1) × (1 ≤ num) × (num ≤ 240)) ⊎ ((den ≡ 1001) × (1001 ≤ num) × (num ≤ 240000))

-- a size is from 1 to 4,096
pub record IsInRange (width height num den : ℕ) : Type 0 where
  pub some_width : 1 ≤ width
  pub width_limit : width ≤ 4096
  pub some_height : 1 ≤ height
  pub height_limit : height ≤ 4096
  pub rate : IsRate num den

-- a number is from one to another
abbrev pub is_from_to : ℕ → ℕ → ℕ → Bool
is_from_to least limit n = nat_le least n && nat_le n limit

abbrev pub is_size : ℕ → ℕ → Bool
is_size width height = is_from_to 1 4096 width && is_from_to 1 4096 height

-- the setup of these numbers at a whole rate, or why there is none: the size is judged first
abbrev pub setup_of : ℕ → ℕ → ℕ → Result Viewing SetupFault
setup_of width height rate =
    if is_size width height
    then (if is_from_to 1 240 rate then Ok (record { width = width; height = height; num = rate; den = 1 }) else Err Rate)
    else Err Size

-- and at a rate over 1,001
abbrev pub setup_over_1001 : ℕ → ℕ → ℕ → Result Viewing SetupFault
setup_over_1001 width height num =
    if is_size width height
    then (if is_from_to 1001 240000 num then Ok (record { width = width; height = height; num = num; den = 1001 }) else Err Rate)
    else Err Size
