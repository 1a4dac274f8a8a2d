use Rattle.css_colours.specs.Colours.{colour_of}
use Rattle.css_easings.specs.Easings.{easing_of}
use Rattle.css_quantities.specs.Quantities.{length_of, opacity_of, percentage_of, time_of, z_index_of}
use Rattle.css_values.specs.ValueGrammar.{declaration_of}
use Rattle.css_values.proofs.JudgedLonghands.{colour_told, declaration_told, easing_told, length_told, level_told, opacity_told, percentage_told, time_told}
use Rattle.css_values.proofs.ToldValues.{judged}
use Rattle.css_values.proofs.laws.every_value_is_judged.Goals as goal

pub returns-clause-declarations : goal.returns-clause-declarations
returns-clause-declarations c = λ property words. judged (declaration_of property words) (declaration_told property words)

pub returns-clause-lengths : goal.returns-clause-lengths
returns-clause-lengths c = λ signed words. judged (length_of signed words) (length_told signed words)

pub returns-clause-times : goal.returns-clause-times
returns-clause-times c = λ signed words. judged (time_of signed words) (time_told signed words)

pub returns-clause-percentages : goal.returns-clause-percentages
returns-clause-percentages c = λ words. judged (percentage_of words) (percentage_told words)

pub returns-clause-opacities : goal.returns-clause-opacities
returns-clause-opacities c = λ words. judged (opacity_of words) (opacity_told words)

pub returns-clause-levels : goal.returns-clause-levels
returns-clause-levels c = λ words. judged (z_index_of words) (level_told words)

pub returns-clause-colours : goal.returns-clause-colours
returns-clause-colours c = λ words. judged (colour_of words) (colour_told words)

pub returns-clause-easings : goal.returns-clause-easings
returns-clause-easings c = λ words. judged (easing_of words) (easing_told words)
