use Rattle.cascade.specs.Sources.{AreLayers}
use Rattle.cascade.proofs.layers.layers_of.Given as goal

-- the elements so far have their layers
abbrev pub invariant-elements : goal.invariant-elements
invariant-elements l = AreLayers l.sheet l.elements l.inline l.layers l.number
