-- What the code keeps of a selector's part.
use Rattle.css_selectors.specs.declared.selectors.Kind.{Kind}
use Rattle.css_selectors.specs.declared.selectors.Kind.TheVariants.{Tag, Id, Class}
use Rattle.css_selectors.specs.declared.selectors.Part.{Part as Kept}
use Rattle.css_selectors.specs.SelectorGrammar.{Part, Sort, tag, id, class, part}

abbrev pub sort_of : Kind → Sort
sort_of Tag = tag
sort_of Id = id
sort_of Class = class

abbrev pub part_of : Kept → Part
part_of kept = part (sort_of kept.kind) kept.name.now kept.to
