-- What a read moves from the rest of a file, and what the whole of a file is.
use Rattle.std.specs.Prelude.{◌≡◌, ◌<◌, ◌≤◌, ℕ, List, length, drop, Option, Some, IfSome}
use Rattle.std.specs.Io.KnownBytes.{Consumes, IsAtEnd}
use Rattle.io_edge.specs.Files.{Files, bytes_of}

-- a read with room for this many bytes moved these from the rest: none only at the end, or with no room
abbrev pub Reads : Option (List ℕ) → Option (List ℕ) → List ℕ → ℕ → Type 0
Reads old new bytes room = Consumes old new bytes × (length bytes ≡ 0 → 0 < room → IsAtEnd new)

-- where the files are told, these are the bytes of that name
abbrev pub IsFile : Option Files → List ℕ → List ℕ → Type 0
IsFile files name bytes = IfSome files (λ files. bytes ≡ bytes_of files name)

-- where the files are told, that name has more bytes than this
abbrev pub IsLonger : Option Files → List ℕ → ℕ → Type 0
IsLonger files name limit = IfSome files (λ files. limit < length (bytes_of files name))

-- where the files are told, the rest is that name's bytes behind so many of them
abbrev pub IsBehind : Option Files → List ℕ → ℕ → Option (List ℕ) → Type 0
IsBehind files name count rest = IfSome files (λ files. rest ≡ Some (drop count (bytes_of files name)))

-- where the files are told, the rest is that name's bytes behind some of them, at most so many
abbrev pub IsBehindSome : Option Files → List ℕ → ℕ → Option (List ℕ) → Type 0
IsBehindSome files name most rest = (count : ℕ) × (count ≤ most) × IsBehind files name count rest
