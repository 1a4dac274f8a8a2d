-- What the code keeps of an item's slots.
use Rattle.std.specs.Prelude.{option_map, option_copied}
use Rattle.css_values.specs.declared.shorthand.Slots.{Slots as Kept}
use Rattle.css_values.specs.ShorthandGrammar.{Slots}

abbrev pub held : Kept → Slots
held s = record {
  duration = s.duration;
  delay = s.delay;
  easing = s.easing;
  count = s.count;
  direction = s.direction;
  fill = s.fill;
  paused = s.paused;
  name = option_map option_copied s.name;
  over = s.over;
}
