-- The code's own types as the definitions have them.
use Rattle.std.specs.Prelude.{ℤ, ◌+ℤ◌, ◌≤ℤ◌, pos, FitsSigned}
use Rattle.std.specs.Int.{w64}
use Rattle.page_model.specs.Progress as definition
use Rattle.anim_timing.specs.declared.extent.Extent.{Extent}
use Rattle.anim_timing.specs.declared.extent.Extent.TheVariants.{Finite, Endless}
use Rattle.anim_timing.specs.declared.phases.Phase.{Phase}
use Rattle.anim_timing.specs.declared.phases.Phase.TheVariants.{Before, Active, After}

abbrev pub extent_as : Extent → definition.Extent
extent_as (Finite time) = definition.finite time
extent_as Endless = definition.endless

-- the sum of a time and an extent fits
abbrev pub CanBeLater : ℤ → definition.Extent → Type 0
CanBeLater from (definition.finite length) = FitsSigned w64 (from +ℤ length)
CanBeLater from definition.endless = Unit {0}

-- an active duration is at most 10,000 times 100,000 ms
abbrev pub IsShort : definition.Extent → Type 0
IsShort (definition.finite length) = (pos 0 ≤ℤ length) × (length ≤ℤ pos 240000000000000000)
IsShort definition.endless = Unit {0}

abbrev pub phase_as : Phase → definition.Phase
phase_as Before = definition.before
phase_as Active = definition.active
phase_as After = definition.after
