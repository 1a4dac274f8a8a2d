-- Longhands that are read are those that are spelled.
use Rattle.std.proofs.Common.{◌≡◌, Bool, true, false, List, refl, codes}
use Rattle.page_model.specs.declared.rule.Longhand.{Longhand}
use Rattle.page_model.specs.declared.rule.Longhand.TheVariants as longhands
use Rattle.css_values.specs.declared.types.Property.{Property}
use Rattle.css_values.specs.declared.types.Property.TheVariants.{Position, Left, Top, Width, Height, BackgroundColor, Background, Opacity, Visibility, ZIndex, Margin, Padding, AnimationName, AnimationDuration, AnimationDelay, AnimationTimingFunction, AnimationIterationCount, AnimationDirection, AnimationFillMode, AnimationPlayState, Animation}
use Rattle.css_colours.specs.Colours.{colour_of}
use Rattle.css_easings.specs.Easings.{easing_of}
use Rattle.css_items.specs.ItemWords.{direction_words, fill_words, play_words, visibility_words}
use Rattle.css_items.specs.Lists.{list_of}
use Rattle.css_items.specs.Names.{keyword_of, name_of}
use Rattle.css_quantities.specs.Quantities.{count_of, duration_of, is_nothing, length_of, opacity_of, time_of, z_index_of}
use Rattle.css_values.specs.ValueGrammar.{longhand_of, only_if}
use Rattle.css_words.specs.Words.{Word, is_lone}
use Rattle.css_easing_laws.specs.SpelledEasings.{SpellsEasing, PastEasing}
use Rattle.css_declaration_laws.specs.SpelledLonghands.{SpellsLonghand, PastLonghand}
use Rattle.css_quantity_laws.specs.SpelledQuantities.{SpellsTime, PastTime, SpellsDuration, SpellsCount, PastCount}
use Rattle.css_word_laws.specs.SpelledWords.{SpellsKeyword}
use Rattle.css_value_laws.specs.SpelledNames.{SpellsName}
use Rattle.css_word_laws.specs.ValueLaws.{NonePast}
use Rattle.css_value_laws.proofs.ClosingLemmas.{count_closes, duration_closes, easing_closes, keyword_closes, name_closes, time_closes}
use Rattle.css_colour_laws.proofs.ColourLemmas.{colour_reads}
use Rattle.css_easing_laws.proofs.EasingReadings.{easing_reads}
use Rattle.css_word_laws.proofs.KeywordLemmas.{word_to, word_from}
use Rattle.css_value_laws.proofs.ListLemmas.{list_reads}
use Rattle.css_quantity_laws.proofs.QuantityLemmas.{count_reads, duration_reads, length_reads, nothing_from, nothing_to, opacity_reads, time_reads, z_index_reads}
use Rattle.css_word_laws.proofs.Readings.{Reads, reads_bad, reads_mapped, reads_ok}
use Rattle.css_value_laws.proofs.TableLemmas.{directions_differ, fills_differ, plays_differ, visibilities_differ}
use Rattle.css_value_laws.proofs.NameLemmas.{keyword_reads, name_reads}

-- one value where a test holds
only_reads : (b : Bool) (longhand : Longhand) (P : Type 0) → (b ≡ true → P) → (P → b ≡ true) → Reads (only_if b longhand) (λ l. P × (longhand ≡ l)) ⊥
only_reads true longhand P to from = reads_ok _ _ longhand (to refl, refl) (λ l s. s.1) (λ p. p)
only_reads false longhand P to from = reads_bad _ _ (λ l s. let e = from s.0 in cc) (λ p. p)

pub longhand_reads : (property : Property) (words : List Word) → Reads (longhand_of property words) (SpellsLonghand property words) (PastLonghand property words)
longhand_reads Position words = only_reads (is_lone (codes "absolute") words) longhands.Position _ (word_to (codes "absolute") words) (word_from (codes "absolute") words)
longhand_reads Left words = reads_mapped longhands.Left (length_of true words) _ _ (length_reads true words)
longhand_reads Top words = reads_mapped longhands.Top (length_of true words) _ _ (length_reads true words)
longhand_reads Width words = reads_mapped longhands.Width (length_of false words) _ _ (length_reads false words)
longhand_reads Height words = reads_mapped longhands.Height (length_of false words) _ _ (length_reads false words)
longhand_reads BackgroundColor words = reads_mapped longhands.Colour (colour_of words) _ _ (colour_reads words)
longhand_reads Background words = reads_mapped longhands.Colour (colour_of words) _ _ (colour_reads words)
longhand_reads Opacity words = reads_mapped longhands.Opacity (opacity_of words) _ _ (opacity_reads words)
longhand_reads Visibility words = reads_mapped longhands.Visibility (keyword_of visibility_words words) _ _ (keyword_reads visibility_words visibilities_differ words)
longhand_reads ZIndex words = reads_mapped longhands.ZIndex (z_index_of words) _ _ (z_index_reads words)
longhand_reads Margin words = only_reads (is_nothing words) longhands.Margin _ (nothing_to words) (nothing_from words)
longhand_reads Padding words = only_reads (is_nothing words) longhands.Padding _ (nothing_to words) (nothing_from words)
longhand_reads AnimationName words = reads_mapped longhands.Names (list_of name_of words) _ _ (list_reads name_of SpellsName NonePast name_reads name_closes words)
longhand_reads AnimationDuration words =
    reads_mapped longhands.Durations (list_of duration_of words) _ _ (list_reads duration_of SpellsDuration (PastTime false) duration_reads duration_closes words)
longhand_reads AnimationDelay words =
    reads_mapped longhands.Delays (list_of (time_of true) words) _ _ (list_reads (time_of true) (SpellsTime true) (PastTime true) (time_reads true) (time_closes true) words)
longhand_reads AnimationTimingFunction words =
    reads_mapped longhands.Easings (list_of easing_of words) _ _ (list_reads easing_of SpellsEasing PastEasing easing_reads easing_closes words)
longhand_reads AnimationIterationCount words =
    reads_mapped longhands.Counts (list_of count_of words) _ _ (list_reads count_of SpellsCount PastCount count_reads count_closes words)
longhand_reads AnimationDirection words =
    reads_mapped longhands.Directions (list_of (keyword_of direction_words) words) _ _
    (list_reads (keyword_of direction_words) (SpellsKeyword direction_words) NonePast (keyword_reads direction_words directions_differ) (keyword_closes direction_words) words)
longhand_reads AnimationFillMode words =
    reads_mapped longhands.Fills (list_of (keyword_of fill_words) words) _ _
    (list_reads (keyword_of fill_words) (SpellsKeyword fill_words) NonePast (keyword_reads fill_words fills_differ) (keyword_closes fill_words) words)
longhand_reads AnimationPlayState words =
    reads_mapped longhands.Paused (list_of (keyword_of play_words) words) _ _
    (list_reads (keyword_of play_words) (SpellsKeyword play_words) NonePast (keyword_reads play_words plays_differ) (keyword_closes play_words) words)
longhand_reads Animation words = reads_bad _ _ (λ l s. s) (λ p. p)
