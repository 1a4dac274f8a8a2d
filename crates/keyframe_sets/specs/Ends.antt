-- The element's own value as a stop at 0% and at 100%.
use Rattle.std.specs.Prelude.{None}
use Rattle.page_model.specs.declared.property.Value.{Value}
use Rattle.page_model.specs.Keyframes.{Stop}

abbrev pub start : Value → Stop
start own = record { offset = 0; value = own; easing = None }

abbrev pub finish : Value → Stop
finish own = record { offset = 10000; value = own; easing = None }
