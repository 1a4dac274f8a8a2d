-- What the code keeps of a number, as a numeral.
use Rattle.css_words.specs.declared.numeral.Number.{Number}
use Rattle.css_words.specs.Numerals.{Numeral}

abbrev pub seen : Number → Numeral
seen n = record { signed = n.signed; negative = n.negative; whole = n.whole.now; fraction = n.fraction.now; unit = n.unit.now }
