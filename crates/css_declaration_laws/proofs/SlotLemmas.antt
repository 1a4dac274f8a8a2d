-- The slots that parts take, as they are kept.
use Rattle.std.proofs.Common.{pos, ◌≡◌, ◌||◌, not, false, List, [], ◌∷◌, Some, None, refl, is_some, unwrap_or}
use Rattle.std.proofs.lemmas.Bool.{or_parts}
use Rattle.page_model.specs.declared.animation.Count.TheVariants.{Times, Infinite}
use Rattle.page_model.specs.declared.animation.Direction.TheVariants.{Normal}
use Rattle.page_model.specs.declared.animation.Fill.TheVariants.{Absent}
use Rattle.page_model.specs.declared.easing.Easing.TheVariants.{Linear, Cubic}
use Rattle.css_columns.specs.declared.item.Shorthand.{Shorthand}
use Rattle.css_values.specs.ShorthandGrammar.{Slots, free}
use Rattle.css_declaration_laws.specs.SpelledShorthand.{Part, is_taken, is_over, is_past, duration_in, delay_in, easing_in, count_in, direction_in, fill_in, play_in, name_in, item_with}
use Rattle.css_declaration_laws.specs.SpelledShorthand.Slot.{duration_slot, delay_slot, easing_slot, count_slot, direction_slot, fill_slot, play_slot, name_slot}
use Rattle.css_declaration_laws.specs.SpelledShorthand.Part.{duration, delay, easing, count, direction, fill, play, name}

abbrev pub put : Part → Slots → Slots
put (duration n) s = record s { duration = Some (unwrap_or n 0); over = not (is_some n) || s.over }
put (delay v) s = record s { delay = Some (unwrap_or v (pos 0)); over = not (is_some v) || s.over }
put (easing e) s = record s { easing = Some (unwrap_or e Linear); over = not (is_some e) || s.over }
put (count c) s = record s { count = Some (unwrap_or c Infinite); over = not (is_some c) || s.over }
put (direction d) s = record s { direction = Some d }
put (fill f) s = record s { fill = Some f }
put (play p) s = record s { paused = Some p }
put (name n) s = record s { name = Some n }

abbrev pub held : List Part → Slots
held [] = free
held (part ∷ parts) = put part (held parts)

pub has_duration : (parts : List Part) → is_some (held parts).duration ≡ is_taken duration_slot parts
has_duration [] = refl
has_duration (duration n ∷ parts) = refl
has_duration (other ∷ parts) = has_duration parts

pub has_delay : (parts : List Part) → is_some (held parts).delay ≡ is_taken delay_slot parts
has_delay [] = refl
has_delay (delay v ∷ parts) = refl
has_delay (other ∷ parts) = has_delay parts

pub has_easing : (parts : List Part) → is_some (held parts).easing ≡ is_taken easing_slot parts
has_easing [] = refl
has_easing (easing e ∷ parts) = refl
has_easing (other ∷ parts) = has_easing parts

pub has_count : (parts : List Part) → is_some (held parts).count ≡ is_taken count_slot parts
has_count [] = refl
has_count (count c ∷ parts) = refl
has_count (other ∷ parts) = has_count parts

pub has_direction : (parts : List Part) → is_some (held parts).direction ≡ is_taken direction_slot parts
has_direction [] = refl
has_direction (direction d ∷ parts) = refl
has_direction (other ∷ parts) = has_direction parts

pub has_fill : (parts : List Part) → is_some (held parts).fill ≡ is_taken fill_slot parts
has_fill [] = refl
has_fill (fill f ∷ parts) = refl
has_fill (other ∷ parts) = has_fill parts

pub has_play : (parts : List Part) → is_some (held parts).paused ≡ is_taken play_slot parts
has_play [] = refl
has_play (play p ∷ parts) = refl
has_play (other ∷ parts) = has_play parts

pub has_name : (parts : List Part) → is_some (held parts).name ≡ is_taken name_slot parts
has_name [] = refl
has_name (name n ∷ parts) = refl
has_name (other ∷ parts) = has_name parts

pub has_over : (parts : List Part) → (held parts).over ≡ is_past parts
has_over [] = refl
has_over (duration (Some n) ∷ parts) = has_over parts
has_over (delay (Some v) ∷ parts) = has_over parts
has_over (easing (Some e) ∷ parts) = has_over parts
has_over (count (Some c) ∷ parts) = has_over parts
has_over (duration None ∷ parts) = refl
has_over (delay None ∷ parts) = refl
has_over (easing None ∷ parts) = refl
has_over (count None ∷ parts) = refl
has_over (other ∷ parts) = has_over parts

later : (part : Part) (parts : List Part) → is_past (part ∷ parts) ≡ false → is_past parts ≡ false
later part parts e = (or_parts (is_over part) (is_past parts) e).1

duration_is : (parts : List Part) → is_past parts ≡ false → unwrap_or (held parts).duration 0 ≡ duration_in parts
duration_is [] e = refl
duration_is (duration (Some n) ∷ parts) e = refl
duration_is (duration None ∷ parts) e = absurd (cc)
duration_is (other ∷ parts) e = duration_is parts (later other parts e)

delay_is : (parts : List Part) → is_past parts ≡ false → unwrap_or (held parts).delay (pos 0) ≡ delay_in parts
delay_is [] e = refl
delay_is (delay (Some v) ∷ parts) e = refl
delay_is (delay None ∷ parts) e = absurd (cc)
delay_is (other ∷ parts) e = delay_is parts (later other parts e)

easing_is : (parts : List Part) → is_past parts ≡ false → unwrap_or (held parts).easing (Cubic 250 (pos 100) 250 (pos 1000)) ≡ easing_in parts
easing_is [] e = refl
easing_is (easing (Some x) ∷ parts) e = refl
easing_is (easing None ∷ parts) e = absurd (cc)
easing_is (other ∷ parts) e = easing_is parts (later other parts e)

count_is : (parts : List Part) → is_past parts ≡ false → unwrap_or (held parts).count (Times 1000) ≡ count_in parts
count_is [] e = refl
count_is (count (Some c) ∷ parts) e = refl
count_is (count None ∷ parts) e = absurd (cc)
count_is (other ∷ parts) e = count_is parts (later other parts e)

direction_is : (parts : List Part) → unwrap_or (held parts).direction Normal ≡ direction_in parts
direction_is [] = refl
direction_is (direction d ∷ parts) = refl
direction_is (other ∷ parts) = direction_is parts

fill_is : (parts : List Part) → unwrap_or (held parts).fill Absent ≡ fill_in parts
fill_is [] = refl
fill_is (fill f ∷ parts) = refl
fill_is (other ∷ parts) = fill_is parts

play_is : (parts : List Part) → unwrap_or (held parts).paused false ≡ play_in parts
play_is [] = refl
play_is (play p ∷ parts) = refl
play_is (other ∷ parts) = play_is parts

name_is : (parts : List Part) → unwrap_or (held parts).name None ≡ name_in parts
name_is [] = refl
name_is (name n ∷ parts) = refl
name_is (other ∷ parts) = name_is parts

-- the item of these slots
abbrev pub made : Slots → Shorthand
made slots = record {
  name = unwrap_or slots.name None;
  duration = unwrap_or slots.duration 0;
  easing = unwrap_or slots.easing (Cubic 250 (pos 100) 250 (pos 1000));
  delay = unwrap_or slots.delay (pos 0);
  count = unwrap_or slots.count (Times 1000);
  direction = unwrap_or slots.direction Normal;
  fill = unwrap_or slots.fill Absent;
  paused = unwrap_or slots.paused false;
}

pub made_is : (parts : List Part) → is_past parts ≡ false → made (held parts) ≡ item_with parts
made_is parts e =
    rw (duration_is parts e, delay_is parts e, easing_is parts e, count_is parts e, direction_is parts, fill_is parts, play_is parts, name_is parts) refl
