-- The files of a source, as a finite map from names to bytes, and which names it may be asked for.
use Rattle.std.specs.Prelude.{◌≡◌, ◌↔◌, ℕ, List, [], Option, Some, IfSome}
use Rattle.std.specs.Option.{unwrap_or}
use Rattle.std.specs.Ordering.{nat_cmp}
use Rattle.std.specs.Cmp.Lexicographic.{slice_cmp}
use Rattle.std.specs.FinMap as map

-- from each name, as its bytes, to the bytes of the file
abbrev pub Files : Type 0
Files = map.FinMap (slice_cmp nat_cmp) (List ℕ)

-- the bytes of a name, and none where no file has it
abbrev pub bytes_of : Files → List ℕ → List ℕ
bytes_of files name = unwrap_or (map.get files name) []

-- where the files are told, the rest is the bytes of that name
abbrev pub Opens : Option Files → List ℕ → Option (List ℕ) → Type 0
Opens files name rest = IfSome files (λ files. rest ≡ Some (bytes_of files name))

-- the same names may be asked for
abbrev pub SameNames : (List ℕ → Type 0) → (List ℕ → Type 0) → Type 0
SameNames old new = (name : List ℕ) → (old name ↔ new name)
