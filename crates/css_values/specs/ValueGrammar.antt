-- The value of each property: its longhands, in the order of the variants of Longhand.
use Rattle.std.specs.Prelude.{Bool, true, false, List, [], ◌∷◌, Result, Ok, Err, codes, if◌then◌else◌}
use Rattle.page_model.specs.declared.rule.Longhand.{Longhand}
use Rattle.page_model.specs.declared.rule.Longhand.TheVariants as longhands
use Rattle.css_words.specs.declared.fault.ValueFault.{ValueFault}
use Rattle.css_words.specs.declared.fault.ValueFault.TheVariants.{BadValue}
use Rattle.css_columns.specs.Columns.{columns}
use Rattle.css_values.specs.declared.types.Property.{Property}
use Rattle.css_values.specs.declared.types.Property.TheVariants.{Position, Left, Top, Width, Height, BackgroundColor, Background, Opacity, Visibility, ZIndex, Margin, Padding, AnimationName, AnimationDuration, AnimationDelay, AnimationTimingFunction, AnimationIterationCount, AnimationDirection, AnimationFillMode, AnimationPlayState, Animation}
use Rattle.css_colours.specs.Colours.{colour_of}
use Rattle.css_easings.specs.Easings.{easing_of}
use Rattle.css_items.specs.ItemWords.{direction_words, fill_words, play_words, visibility_words}
use Rattle.css_items.specs.Lists.{list_of}
use Rattle.css_items.specs.Names.{keyword_of, name_of}
use Rattle.css_quantities.specs.Quantities.{count_of, duration_of, is_nothing, length_of, opacity_of, time_of, z_index_of}
use Rattle.css_values.specs.ShorthandGrammar.{item_of}
use Rattle.css_words.specs.Words.{Word, is_lone, mapped}

-- one value, where a test holds
abbrev pub only_if : Bool → Longhand → Result Longhand ValueFault
only_if holds longhand = if holds then Ok longhand else Err BadValue

-- the value of a property that sets one longhand
abbrev pub longhand_of : Property → List Word → Result Longhand ValueFault
longhand_of Position words = only_if (is_lone (codes "absolute") words) longhands.Position
longhand_of Left words = mapped longhands.Left (length_of true words)
longhand_of Top words = mapped longhands.Top (length_of true words)
longhand_of Width words = mapped longhands.Width (length_of false words)
longhand_of Height words = mapped longhands.Height (length_of false words)
longhand_of BackgroundColor words = mapped longhands.Colour (colour_of words)
longhand_of Background words = mapped longhands.Colour (colour_of words)
longhand_of Opacity words = mapped longhands.Opacity (opacity_of words)
longhand_of Visibility words = mapped longhands.Visibility (keyword_of visibility_words words)
longhand_of ZIndex words = mapped longhands.ZIndex (z_index_of words)
longhand_of Margin words = only_if (is_nothing words) longhands.Margin
longhand_of Padding words = only_if (is_nothing words) longhands.Padding
longhand_of AnimationName words = mapped longhands.Names (list_of name_of words)
longhand_of AnimationDuration words = mapped longhands.Durations (list_of duration_of words)
longhand_of AnimationDelay words = mapped longhands.Delays (list_of (time_of true) words)
longhand_of AnimationTimingFunction words = mapped longhands.Easings (list_of easing_of words)
longhand_of AnimationIterationCount words = mapped longhands.Counts (list_of count_of words)
longhand_of AnimationDirection words = mapped longhands.Directions (list_of (keyword_of direction_words) words)
longhand_of AnimationFillMode words = mapped longhands.Fills (list_of (keyword_of fill_words) words)
longhand_of AnimationPlayState words = mapped longhands.Paused (list_of (keyword_of play_words) words)
longhand_of Animation words = Err BadValue

abbrev pub is_shorthand : Property → Bool
is_shorthand Animation = true
is_shorthand other = false

-- what the words spell for a property
unfoldable pub declaration_of : Property → List Word → Result (List Longhand) ValueFault
declaration_of property words =
    if is_shorthand property then mapped columns (list_of item_of words) else mapped (λ longhand. longhand ∷ []) (longhand_of property words)
