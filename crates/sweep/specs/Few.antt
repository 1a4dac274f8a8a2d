-- Flags that leave nothing to be looked for.
use Rattle.std.specs.Prelude.{false, ◌≡◌, All, IsTrue, List}
use Rattle.flash_count.specs.declared.tracking.Flag.{Flag}

-- nothing is flagged, of neither sort
abbrev pub IsUnflagged : Flag → Type 0
IsUnflagged flag = (flag.possible ≡ false) × (flag.sure ≡ false)

abbrev pub AreUnflagged : List Flag → Type 0
AreUnflagged flags = All IsUnflagged flags

-- what is surely flagged is possibly flagged too
abbrev pub IsNested : Flag → Type 0
IsNested flag = IsTrue flag.sure → IsTrue flag.possible

abbrev pub AreNested : List Flag → Type 0
AreNested flags = All IsNested flags
