-- A part as a JSON value: the table of its keys, in ascending order of bytes.
use Rattle.std.specs.Prelude.{ℕ, List, map, codes}
use Rattle.serde_json.specs.Data.{Data, unsigned, number, string, array, object, no_members, member}
use Rattle.serde_json.specs.View.{items_of}
use Rattle.page_model.specs.declared.colour.Tint.{Tint}
use Rattle.page_model.specs.declared.witness.Kind.{Kind}
use Rattle.page_model.specs.declared.witness.Kind.TheVariants.{General, Red}
use Rattle.page_model.specs.declared.witness.Part.{Part}
use Rattle.witness_text.specs.TintText.{tint_text}

-- a whole number that isn't negative
abbrev pub natural : ℕ → Data
natural n = number (unsigned n)

-- the string of a tint
abbrev pub tint_value : Tint → Data
tint_value t = string (tint_text t)

-- the word of a kind
abbrev pub kind_text : Kind → List ℕ
kind_text General = codes "general"
kind_text Red = codes "red"

-- the object of a part
unfoldable pub part_value : Part → Data
part_value p = object
    (member (codes "frames") (array (items_of (map natural p.frames)))
    (member (codes "height") (natural p.height)
    (member (codes "kind") (string (kind_text p.kind))
    (member (codes "tints") (array (items_of (map tint_value p.tints)))
    (member (codes "width") (natural p.width)
    (member (codes "x") (natural p.x)
    (member (codes "y") (natural p.y)
    no_members)))))))
