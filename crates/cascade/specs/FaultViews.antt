-- The faults of elements as they are told, and as the definitions have them.
use Rattle.std.specs.Prelude.{Bool, false, List, unwrap_or, slice_get}
use Rattle.std.specs.List.{list_any}
use Rattle.page_model.specs.declared.animation.Anim.{Anim}
use Rattle.page_model.specs.Cascade as definition
use Rattle.cascade.specs.declared.faults.Fault.{Fault}
use Rattle.cascade.specs.declared.faults.Fault.TheVariants.{NotPlaced, BodyProperty, TooManyAnimations}

abbrev pub fault_as : Fault → definition.Fault
fault_as NotPlaced = definition.not_placed
fault_as BodyProperty = definition.body_property
fault_as TooManyAnimations = definition.too_many_animations

-- an animation is of a set that a table says of that it names more than the background
abbrev pub some_animates_more : List Bool → List Anim → Bool
some_animates_more more anims = list_any (λ (anim : Anim). unwrap_or (slice_get more anim.set) false) anims
