-- A word takes the part that it may take, and no other.
use Rattle.std.proofs.Common.{◌≡◌, ◌∙◌, true, false, List, Option, Some, None, refl, inl, inr}
use Rattle.std.proofs.lemmas.Bool.{cases_Bool}
use Rattle.css_quantities.specs.Quantities.{time_of}
use Rattle.css_values.specs.ShorthandGrammar.{Slots, is_value, take_time, take_easing, take_count, take_direction, take_fill, take_play, take_name, take_keyword, take_word}
use Rattle.css_words.specs.Words.{Word, or_else}
use Rattle.css_declaration_laws.specs.SpelledShorthand.{Part, slot_of, same_slot, is_taken, IsPart, MayTake}
use Rattle.css_declaration_laws.specs.SpelledShorthand.Part.{duration, delay, easing, count, direction, fill, play, name}
use Rattle.css_declaration_laws.specs.SpelledShorthand.Slot.{name_slot}
use Rattle.css_declaration_laws.proofs.SlotLemmas.{put, held}
use Rattle.css_declaration_laws.proofs.PartLemmas.{easing_no_time, count_no_time, count_no_easing, ident_no_time, name_no_time, direction_no_easing, direction_no_count, fill_no_easing, fill_no_count, fill_no_direction, play_no_easing, play_no_count, play_no_direction, play_no_fill, is_time, no_time, duration_time}
use Rattle.css_declaration_laws.proofs.TakeLemmas.{Step, time_to, duration_from, delay_from, easing_from, easing_to, no_easing, easing_full, count_from, count_to, no_count, count_full, direction_from, direction_to, no_direction, direction_full, fill_from, fill_to, no_fill, fill_full, play_from, play_to, no_play, play_full, name_from, name_to}

pub step_from : (before : List Part) (w : List Word) (part : Part) → IsPart w part → MayTake before w part → take_word (held before) w ≡ Some (put part (held before))
unfolding take_word take_keyword
step_from before w (duration m) is may = rw (duration_time w m is) (duration_from before w m may.free is)
step_from before w (delay m) is may = rw (is_time w m is) (delay_from before w m (may.second refl) may.free is)
step_from before w (easing m) is may = rw (no_time w (λ n t. easing_no_time true w m n is t), easing_from before w m may.free is) refl
step_from before w (count m) is may =
    rw (no_time w (λ n t. count_no_time true w m n is t), no_easing before w (λ n e. absurd (count_no_easing w m n is e)), count_from before w m may.free is) refl
step_from before w (direction d) is may =
    rw (
      no_time w (λ n t. ident_no_time true w is.bytes n is.alone t),
      no_easing before w (λ n e. absurd (direction_no_easing w d n is e)),
      no_count before w (λ n e. absurd (direction_no_count w d n is e)),
      direction_from before w d may.free is,
    ) refl
step_from before w (fill f) is may =
    rw (
      no_time w (λ n t. ident_no_time true w is.bytes n is.alone t),
      no_easing before w (λ n e. absurd (fill_no_easing w f n is e)),
      no_count before w (λ n e. absurd (fill_no_count w f n is e)),
      no_direction before w (λ n e. absurd (fill_no_direction w f n is e)),
      fill_from before w f may.free is,
    ) refl
step_from before w (play p) is may =
    rw (
      no_time w (λ n t. ident_no_time true w is.bytes n is.alone t),
      no_easing before w (λ n e. absurd (play_no_easing w p n is e)),
      no_count before w (λ n e. absurd (play_no_count w p n is e)),
      no_direction before w (λ n e. absurd (play_no_direction w p n is e)),
      no_fill before w (λ n e. absurd (play_no_fill w p n is e)),
      play_from before w p may.free is,
    ) refl
step_from before w (name v) is may =
    rw (
      no_time w (λ n t. name_no_time true w v n is t),
      no_easing before w (λ n e. may.left refl (easing n) e refl),
      no_count before w (λ n e. may.left refl (count n) e refl),
      no_direction before w (λ n e. may.left refl (direction n) e refl),
      no_fill before w (λ n e. may.left refl (fill n) e refl),
      no_play before w (λ n e. may.left refl (play n) e refl),
    ) (name_from before w v may.free is)

-- what is left for a name
left_is : (before : List Part) (w : List Word) → is_value (time_of true w) ≡ false → take_easing (held before) w ≡ None → take_count (held before) w ≡ None
    → take_direction (held before) w ≡ None → take_fill (held before) w ≡ None → take_play (held before) w ≡ None → (other : Part) → IsPart w other
    → same_slot name_slot (slot_of other) ≡ false → is_taken (slot_of other) before ≡ true
left_is before w no_t no_e no_c no_d no_f no_p (duration m) is other = absurd (let e = duration_time w m is in cc)
left_is before w no_t no_e no_c no_d no_f no_p (delay m) is other = absurd (let e = is_time w m is in cc)
left_is before w no_t no_e no_c no_d no_f no_p (easing m) is other = easing_full before w m no_e is
left_is before w no_t no_e no_c no_d no_f no_p (count m) is other = count_full before w m no_c is
left_is before w no_t no_e no_c no_d no_f no_p (direction d) is other = direction_full before w d no_d is
left_is before w no_t no_e no_c no_d no_f no_p (fill f) is other = fill_full before w f no_f is
left_is before w no_t no_e no_c no_d no_f no_p (play p) is other = play_full before w p no_p is
left_is before w no_t no_e no_c no_d no_f no_p (name n) is other = absurd (cc)

some_same : {A : Type 0} {x y : A} → Some x ≡ Some y → x ≡ y
some_same e = cc

keyword_to : (before : List Part) (w : List Word) (next : Slots) → is_value (time_of true w) ≡ false → take_keyword (held before) w ≡ Some next → Step before w next
unfolding take_keyword
keyword_to before w next no_t e =
    easings (take_easing (held before) w) refl e where
      names : take_easing (held before) w ≡ None → take_count (held before) w ≡ None → take_direction (held before) w ≡ None → take_fill (held before) w ≡ None
          → take_play (held before) w ≡ None → take_name (held before) w ≡ Some next → Step before w next
      names no_e no_c no_d no_f no_p e = let found = name_to before w next e in record {
        part = name found.0;
        is = found.1;
        held_is = found.3;
        may = record { free = found.2; second = λ e. absurd (cc); left = λ e. left_is before w no_t no_e no_c no_d no_f no_p };
      }

      plays : (o : Option Slots) → take_play (held before) w ≡ o → take_easing (held before) w ≡ None → take_count (held before) w ≡ None
          → take_direction (held before) w ≡ None → take_fill (held before) w ≡ None → or_else o (take_name (held before) w) ≡ Some next → Step before w next
      plays None is no_e no_c no_d no_f e = names no_e no_c no_d no_f is e
      plays (Some x) is no_e no_c no_d no_f e = let found = play_to before w next (is ∙ e) in record {
        part = play found.0;
        is = found.1;
        held_is = found.3;
        may = record { free = found.2; second = λ e. absurd (cc); left = λ e. absurd (cc) };
      }

      fills : (o : Option Slots) → take_fill (held before) w ≡ o → take_easing (held before) w ≡ None → take_count (held before) w ≡ None
          → take_direction (held before) w ≡ None → or_else o (or_else (take_play (held before) w) (take_name (held before) w)) ≡ Some next → Step before w next
      fills None is no_e no_c no_d e = plays (take_play (held before) w) refl no_e no_c no_d is e
      fills (Some x) is no_e no_c no_d e = let found = fill_to before w next (is ∙ e) in record {
        part = fill found.0;
        is = found.1;
        held_is = found.3;
        may = record { free = found.2; second = λ e. absurd (cc); left = λ e. absurd (cc) };
      }

      directions : (o : Option Slots) → take_direction (held before) w ≡ o → take_easing (held before) w ≡ None → take_count (held before) w ≡ None
          → or_else o (or_else (take_fill (held before) w) (or_else (take_play (held before) w) (take_name (held before) w))) ≡ Some next → Step before w next
      directions None is no_e no_c e = fills (take_fill (held before) w) refl no_e no_c is e
      directions (Some x) is no_e no_c e = let found = direction_to before w next (is ∙ e) in record {
        part = direction found.0;
        is = found.1;
        held_is = found.3;
        may = record { free = found.2; second = λ e. absurd (cc); left = λ e. absurd (cc) };
      }

      counts : (o : Option Slots) → take_count (held before) w ≡ o → take_easing (held before) w ≡ None
          → or_else o (or_else (take_direction (held before) w) (or_else (take_fill (held before) w) (or_else (take_play (held before) w) (take_name (held before) w)))) ≡ Some next
          → Step before w next
      counts None is no_e e = directions (take_direction (held before) w) refl no_e is e
      counts (Some x) is no_e e = let found = count_to before w next (is ∙ e) in record {
        part = count found.0;
        is = found.1;
        held_is = found.3;
        may = record { free = found.2; second = λ e. absurd (cc); left = λ e. absurd (cc) };
      }

      easings : (o : Option Slots) → take_easing (held before) w ≡ o
          → or_else o (or_else (take_count (held before) w) (or_else (take_direction (held before) w) (or_else (take_fill (held before) w)
          (or_else (take_play (held before) w) (take_name (held before) w))))) ≡ Some next
          → Step before w next
      easings None is e = counts (take_count (held before) w) refl is e
      easings (Some x) is e = let found = easing_to before w next (is ∙ e) in record {
        part = easing found.0;
        is = found.1;
        held_is = found.3;
        may = record { free = found.2; second = λ e. absurd (cc); left = λ e. absurd (cc) };
      }

pub step_to : (before : List Part) (w : List Word) (next : Slots) → take_word (held before) w ≡ Some next → Step before w next
unfolding take_word
step_to before w next e = elim (cases_Bool (is_value (time_of true w))) [
  | inl is ↦ let f : take_time (held before) w ≡ Some next = rw is at e in time_to before w next f
  | inr other ↦ let f : take_keyword (held before) w ≡ Some next = rw other at e in keyword_to before w next other f
]
