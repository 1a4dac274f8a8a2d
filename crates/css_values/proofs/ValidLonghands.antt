-- The longhands of a declaration have values in their limits.
use Rattle.std.proofs.Common.{Bool, true, false, ◌≡◌, ◌≤◌, List, [], ◌∷◌, Result, Ok, Err, map, subst, All, IfOk, codes}
use Rattle.std.specs.List.{AllByRecursion}
use Rattle.std.proofs.lemmas.List.{length-map}
use Rattle.std.proofs.lemmas.List.Elements.{All-map}
use Rattle.page_model.specs.declared.rule.Longhand.{Longhand}
use Rattle.page_model.specs.declared.rule.Longhand.TheVariants as longhands
use Rattle.page_model.specs.ValidScene.{IsEasing, IsCount}
use Rattle.css_words.specs.declared.fault.ValueFault.{ValueFault}
use Rattle.css_columns.specs.declared.item.Shorthand.{Shorthand}
use Rattle.css_values.specs.declared.types.Property.{Property}
use Rattle.css_values.specs.declared.types.Property.TheVariants.{Position, Left, Top, Width, Height, BackgroundColor, Background, Opacity, Visibility, ZIndex, Margin, Padding, AnimationName, AnimationDuration, AnimationDelay, AnimationTimingFunction, AnimationIterationCount, AnimationDirection, AnimationFillMode, AnimationPlayState, Animation}
use Rattle.css_colours.specs.Colours.{colour_of}
use Rattle.css_easings.specs.Easings.{easing_of}
use Rattle.css_items.specs.ItemWords.{direction_words, fill_words, play_words, visibility_words}
use Rattle.css_items.specs.Lists.{list_of, Gives}
use Rattle.css_items.specs.Names.{keyword_of, name_of}
use Rattle.css_quantities.specs.Quantities.{count_of, duration_of, is_nothing, length_of, opacity_of, time_of, z_index_of}
use Rattle.css_values.specs.ShorthandGrammar.{item_of}
use Rattle.css_quantities.specs.ValidQuantities.{IsTime}
use Rattle.css_items.specs.ValidItems.{AreItems, IsAny}
use Rattle.css_values.specs.ValidValues.{IsLonghand}
use Rattle.css_values.specs.ValueGrammar.{only_if, longhand_of, is_shorthand, declaration_of}
use Rattle.css_columns.specs.Columns.{columns}
use Rattle.css_words.specs.Words.{Word, is_lone}
use Rattle.css_words.proofs.GivenLemmas.{if_ok, mapped_ok}
use Rattle.css_quantities.proofs.ValidNumbers.{length_is, extent_is, time_is, duration_is, opacity_is, level_is, count_is}
use Rattle.css_colours.proofs.ValidColours.{colour_is}
use Rattle.css_easings.proofs.ValidEasings.{easing_is}
use Rattle.css_items.proofs.ValidLists.{all_from, list_is}
use Rattle.css_values.proofs.ValidShorthand.{IsItem, item_is}

only_is : (b : Bool) (longhand : Longhand) → IsLonghand longhand → (l : Longhand) → only_if b longhand ≡ Ok l → IsLonghand l
only_is true longhand good l e = let same : longhand ≡ l = cc in subst IsLonghand same good
only_is false longhand good l e = absurd (cc)

any_item : {A : Type 0} (item : List Word → Result A ValueFault) (words : List Word) (all : List A) → list_of item words ≡ Ok all → AreItems IsAny all
any_item item words all e = list_is IsAny item (λ w x f. tt) words all e

longhand_is : (property : Property) (words : List Word) (l : Longhand) → longhand_of property words ≡ Ok l → IsLonghand l
longhand_is Position words l e = only_is (is_lone (codes "absolute") words) longhands.Position tt l e
longhand_is Left words l e = mapped_ok IsLonghand longhands.Left (length_of true words) (λ v f. length_is true words v f) l e
longhand_is Top words l e = mapped_ok IsLonghand longhands.Top (length_of true words) (λ v f. length_is true words v f) l e
longhand_is Width words l e = mapped_ok IsLonghand longhands.Width (length_of false words) (λ v f. extent_is words v f) l e
longhand_is Height words l e = mapped_ok IsLonghand longhands.Height (length_of false words) (λ v f. extent_is words v f) l e
longhand_is BackgroundColor words l e = mapped_ok IsLonghand longhands.Colour (colour_of words) (λ v f. colour_is words v f) l e
longhand_is Background words l e = mapped_ok IsLonghand longhands.Colour (colour_of words) (λ v f. colour_is words v f) l e
longhand_is Opacity words l e = mapped_ok IsLonghand longhands.Opacity (opacity_of words) (λ v f. opacity_is words v f) l e
longhand_is Visibility words l e = mapped_ok IsLonghand longhands.Visibility (keyword_of visibility_words words) (λ v f. tt) l e
longhand_is ZIndex words l e = mapped_ok IsLonghand longhands.ZIndex (z_index_of words) (λ v f. level_is words v f) l e
longhand_is Margin words l e = only_is (is_nothing words) longhands.Margin tt l e
longhand_is Padding words l e = only_is (is_nothing words) longhands.Padding tt l e
longhand_is AnimationName words l e = mapped_ok IsLonghand longhands.Names (list_of name_of words) (λ v f. any_item name_of words v f) l e
longhand_is AnimationDuration words l e =
    mapped_ok IsLonghand longhands.Durations (list_of duration_of words) (λ v f. list_is (λ n. n ≤ 100000) duration_of duration_is words v f) l e
longhand_is AnimationDelay words l e = mapped_ok IsLonghand longhands.Delays (list_of (time_of true) words) (λ v f. list_is IsTime (time_of true) (time_is true) words v f) l e
longhand_is AnimationTimingFunction words l e = mapped_ok IsLonghand longhands.Easings (list_of easing_of words) (λ v f. list_is IsEasing easing_of easing_is words v f) l e
longhand_is AnimationIterationCount words l e = mapped_ok IsLonghand longhands.Counts (list_of count_of words) (λ v f. list_is IsCount count_of count_is words v f) l e
longhand_is AnimationDirection words l e =
    mapped_ok IsLonghand longhands.Directions (list_of (keyword_of direction_words) words) (λ v f. any_item (keyword_of direction_words) words v f) l e
longhand_is AnimationFillMode words l e = mapped_ok IsLonghand longhands.Fills (list_of (keyword_of fill_words) words) (λ v f. any_item (keyword_of fill_words) words v f) l e
longhand_is AnimationPlayState words l e = mapped_ok IsLonghand longhands.Paused (list_of (keyword_of play_words) words) (λ v f. any_item (keyword_of play_words) words v f) l e
longhand_is Animation words l e = absurd (cc)

-- a part of each item is good, where it is of each good item
column : {A : Type 0} (P : A → Type 0) (part : Shorthand → A) → ((i : Shorthand) → IsItem i → P (part i)) → (items : List Shorthand) → AreItems IsItem items
    → AreItems P (map part items)
column P part holds items are = record {
  some = let some = are.some in rw (length-map items part) some;
  each = All-map P part items (λ k d less. holds _ (are.each k d less));
}

columns_are : (items : List Shorthand) → AreItems IsItem items → AllByRecursion IsLonghand (columns items)
columns_are items are = (
  column IsAny (λ (i : Shorthand). i.name) (λ i h. tt) items are,
  (
    column (λ n. n ≤ 100000) (λ (i : Shorthand). i.duration) (λ i h. h.duration) items are,
    (
      column IsEasing (λ (i : Shorthand). i.easing) (λ i h. h.easing) items are,
      (
        column IsTime (λ (i : Shorthand). i.delay) (λ i h. h.delay) items are,
        (
          column IsCount (λ (i : Shorthand). i.count) (λ i h. h.count) items are,
          (
            column IsAny (λ (i : Shorthand). i.direction) (λ i h. tt) items are,
            (
              column IsAny (λ (i : Shorthand). i.fill) (λ i h. tt) items are,
              (
                column IsAny (λ (i : Shorthand). i.paused) (λ i h. tt) items are,
                tt,
              ),
            ),
          ),
        ),
      ),
    ),
  ),
)

pub declaration_is : (property : Property) (words : List Word) (all : List Longhand) → declaration_of property words ≡ Ok all → All IsLonghand all
unfolding declaration_of
declaration_is property words all e =
    if_ok (All IsLonghand) (is_shorthand property) _ _
    (λ x is f. mapped_ok (All IsLonghand) columns (list_of item_of words) (λ items g. all_from IsLonghand (columns items) (columns_are items (list_is IsItem item_of item_is words items g))) x f)
    (λ x other f. mapped_ok (All IsLonghand) (λ longhand. longhand ∷ []) (longhand_of property words) (λ l g. all_from IsLonghand (l ∷ []) (longhand_is property words l g, tt)) x f)
    all e

-- what holds of each value that may be given holds of the one that is, unless memory was refused
pub on_given : {A : Type 0} (P : A → Type 0) (found spelled : Result A ValueFault) → Gives found spelled → ((x : A) → spelled ≡ Ok x → P x) → IfOk found P
on_given P (Ok x) spelled gives holds = holds x gives
on_given P (Err f) spelled gives holds = tt
