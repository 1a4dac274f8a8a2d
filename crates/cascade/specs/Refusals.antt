-- Which fault is told.
use Rattle.std.specs.Prelude.{ℕ, ◌≡◌, ◌⊎◌}
use Rattle.page_model.specs.Cascade as definition
use Rattle.page_model.specs.Cascade.{Sources, IsFirstFault}
use Rattle.cascade.specs.declared.scene_fault.SceneFault.{SceneFault}
use Rattle.cascade.specs.declared.scene_fault.SceneFault.TheVariants.{NotPlaced, BodyProperty, TooManyAnimations, NoMemory}

-- the fault of an element, by its number
abbrev pub told : ℕ → definition.Fault → SceneFault
told number definition.not_placed = NotPlaced number
told number definition.body_property = BodyProperty
told number definition.too_many_animations = TooManyAnimations number

-- it is the first fault of the sources
pub record IsTold (sources : Sources) (fault : SceneFault) : Type 0 where
  pub number : ℕ
  pub kind : definition.Fault
  pub first : IsFirstFault sources number kind
  pub is : fault ≡ told number kind

-- a refusal is want of memory or the first fault
abbrev pub IsRefusal : Sources → SceneFault → Type 0
IsRefusal sources fault = (fault ≡ NoMemory) ⊎ IsTold sources fault

-- a refusal of one element
pub record IsToldOf (P : definition.Fault → Type 0) (number : ℕ) (fault : SceneFault) : Type 0 where
  pub kind : definition.Fault
  pub holds : P kind
  pub is : fault ≡ told number kind
