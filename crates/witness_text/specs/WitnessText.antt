-- A witness as a JSON value, the table of its keys in ascending order of bytes, and as text. There are two versions: the first tells
-- a rate of so many frames per second, and the second one of so many frames in 1,001 seconds, by a key more.
use Rattle.std.specs.Prelude.{ℕ, ℤ, List, map, codes, ◌==◌, if◌then◌else◌}
use Rattle.serde_json.specs.Data.{Data, Members, number, string, array, object, no_members, member}
use Rattle.serde_json.specs.Find.{of_integer}
use Rattle.serde_json.specs.View.{items_of}
use Rattle.serde_json.specs.Written.{compact_text}
use Rattle.page_model.specs.declared.witness.Witness.{Witness}
use Rattle.witness_text.specs.PartValue.{natural, part_value}

-- a whole number of either sign
abbrev pub integer : ℤ → Data
integer z = number (of_integer z)

-- the table, by what a version has before the rate, and by its number
abbrev pub table : (Members → Members) → ℕ → Witness → Data
table and_before version w = object
    (member (codes "area") (natural w.area)
    (member (codes "height") (natural w.height)
    (member (codes "parts") (array (items_of (map part_value w.parts)))
    (and_before
    (member (codes "rate") (natural w.rate)
    (member (codes "start") (natural w.start)
    (member (codes "verdict") (string (codes "fail"))
    (member (codes "version") (natural version)
    (member (codes "width") (natural w.width)
    (member (codes "x") (integer w.x)
    (member (codes "y") (integer w.y)
    no_members)))))))))))

-- the object of a witness in the first version, and in the second
unfoldable pub value_of_first : Witness → Data
value_of_first w = table (λ rest. rest) 1 w

unfoldable pub value_of_second : Witness → Data
value_of_second w = table (λ rest. member (codes "per") (natural w.per) rest) 2 w

-- the object of a witness: the first version tells a whole rate, the second one over 1,001
unfoldable pub witness_value : Witness → Data
witness_value w = if w.per == 1 then value_of_first w else value_of_second w

-- the text of a witness: its object as `serde_json` writes it, with no white space
unfoldable pub witness_text : Witness → List ℕ
witness_text w = compact_text (witness_value w)
