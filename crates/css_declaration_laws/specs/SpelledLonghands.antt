-- The value of each property that sets one longhand.
use Rattle.std.specs.Prelude.{true, false, ◌≡◌, List, codes}
use Rattle.page_model.specs.declared.rule.Longhand.{Longhand}
use Rattle.page_model.specs.declared.rule.Longhand.TheVariants as longhands
use Rattle.css_values.specs.declared.types.Property.{Property}
use Rattle.css_values.specs.declared.types.Property.TheVariants.{Position, Left, Top, Width, Height, BackgroundColor, Background, Opacity, Visibility, ZIndex, Margin, Padding, AnimationName, AnimationDuration, AnimationDelay, AnimationTimingFunction, AnimationIterationCount, AnimationDirection, AnimationFillMode, AnimationPlayState, Animation}
use Rattle.css_items.specs.ItemWords.{direction_words, fill_words, play_words, visibility_words}
use Rattle.css_words.specs.Words.{Word}
use Rattle.css_colour_laws.specs.SpelledColours.{SpellsColour}
use Rattle.css_easing_laws.specs.SpelledEasings.{SpellsEasing, PastEasing}
use Rattle.css_value_laws.specs.SpelledLists.{IsList, IsPastList}
use Rattle.css_word_laws.specs.SpelledWords.{IsWord, SpellsKeyword}
use Rattle.css_quantity_laws.specs.SpelledQuantities.{SpellsLength, PastLength, SpellsTime, PastTime, SpellsDuration, SpellsOpacity, SpellsZIndex, PastZIndex, SpellsCount, PastCount, SpellsNothing}
use Rattle.css_value_laws.specs.SpelledNames.{SpellsName}
use Rattle.css_word_laws.specs.ValueLaws.{NonePast}

-- the longhand has a value that the words spell
abbrev pub Sets : {A : Type 0} → (A → Longhand) → (List Word → A → Type 0) → List Word → Longhand → Type 0
Sets {A} longhand Spells words l = (v : A) × (Spells words v) × (longhand v ≡ l)

-- the longhand that the words spell for a property; the shorthand `animation` sets no single one
abbrev pub SpellsLonghand : Property → List Word → Longhand → Type 0
SpellsLonghand Position words l = IsWord (codes "absolute") words × (longhands.Position ≡ l)
SpellsLonghand Left words l = Sets longhands.Left (SpellsLength true) words l
SpellsLonghand Top words l = Sets longhands.Top (SpellsLength true) words l
SpellsLonghand Width words l = Sets longhands.Width (SpellsLength false) words l
SpellsLonghand Height words l = Sets longhands.Height (SpellsLength false) words l
SpellsLonghand BackgroundColor words l = Sets longhands.Colour SpellsColour words l
SpellsLonghand Background words l = Sets longhands.Colour SpellsColour words l
SpellsLonghand Opacity words l = Sets longhands.Opacity SpellsOpacity words l
SpellsLonghand Visibility words l = Sets longhands.Visibility (SpellsKeyword visibility_words) words l
SpellsLonghand ZIndex words l = Sets longhands.ZIndex SpellsZIndex words l
SpellsLonghand Margin words l = SpellsNothing words × (longhands.Margin ≡ l)
SpellsLonghand Padding words l = SpellsNothing words × (longhands.Padding ≡ l)
SpellsLonghand AnimationName words l = Sets longhands.Names (IsList SpellsName) words l
SpellsLonghand AnimationDuration words l = Sets longhands.Durations (IsList SpellsDuration) words l
SpellsLonghand AnimationDelay words l = Sets longhands.Delays (IsList (SpellsTime true)) words l
SpellsLonghand AnimationTimingFunction words l = Sets longhands.Easings (IsList SpellsEasing) words l
SpellsLonghand AnimationIterationCount words l = Sets longhands.Counts (IsList SpellsCount) words l
SpellsLonghand AnimationDirection words l = Sets longhands.Directions (IsList (SpellsKeyword direction_words)) words l
SpellsLonghand AnimationFillMode words l = Sets longhands.Fills (IsList (SpellsKeyword fill_words)) words l
SpellsLonghand AnimationPlayState words l = Sets longhands.Paused (IsList (SpellsKeyword play_words)) words l
SpellsLonghand Animation words l = ⊥

-- the words spell a value of the property past its limit
abbrev pub PastLonghand : Property → List Word → Type 0
PastLonghand Left words = PastLength true words
PastLonghand Top words = PastLength true words
PastLonghand Width words = PastLength false words
PastLonghand Height words = PastLength false words
PastLonghand ZIndex words = PastZIndex words
PastLonghand AnimationName words = IsPastList SpellsName NonePast words
PastLonghand AnimationDuration words = IsPastList SpellsDuration (PastTime false) words
PastLonghand AnimationDelay words = IsPastList (SpellsTime true) (PastTime true) words
PastLonghand AnimationTimingFunction words = IsPastList SpellsEasing PastEasing words
PastLonghand AnimationIterationCount words = IsPastList SpellsCount PastCount words
PastLonghand AnimationDirection words = IsPastList (SpellsKeyword direction_words) NonePast words
PastLonghand AnimationFillMode words = IsPastList (SpellsKeyword fill_words) NonePast words
PastLonghand AnimationPlayState words = IsPastList (SpellsKeyword play_words) NonePast words
PastLonghand other words = ⊥
