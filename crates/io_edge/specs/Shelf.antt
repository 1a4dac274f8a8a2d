-- Files in the order in which they were added, and the place in one that is being read.
use Rattle.std.specs.Prelude.{◌≡◌, ◌<◌, ℕ, List, [], ◌++◌, length, take, drop, slice_get, Option, None, Some, ⊤}
use Rattle.std.specs.Option.{option_map, unwrap_or}
use Rattle.std.specs.List.{fold}
use Rattle.std.specs.FinMap as map
use Rattle.io_edge.specs.Files.{Files}
use Rattle.io_edge.specs.declared.shelf.File.{File}
use Rattle.io_edge.specs.declared.shelf.Place.{Place}

-- the files by name: of several with one name the newest counts
abbrev pub files_of : List File → Files
files_of files = fold (λ known file. map.insert known file.name.items file.bytes.items) map.empty files

-- the bytes of the file at an index
abbrev pub bytes_at : List File → ℕ → Option (List ℕ)
bytes_at files i = option_map (λ file. file.bytes.items) (slice_get files i)

-- what is left to read from a place on, and nothing where there is none
abbrev pub rest_of : List File → Option Place → List ℕ
rest_of files None = []
rest_of files (Some place) = drop place.at (unwrap_or (bytes_at files place.file) [])

-- a place is in one of the files
abbrev pub IsPlaceIn : List File → Option Place → Type 0
IsPlaceIn files None = ⊤
IsPlaceIn files (Some place) = place.file < length files

-- the index of the newest file of that name, and none where no file has it
abbrev pub IsNewest : List File → List ℕ → Option ℕ → Type 0
IsNewest files name None = map.get (files_of files) name ≡ None
IsNewest files name (Some i) = (i < length files) × (map.get (files_of files) name ≡ bytes_at files i)

-- a buffer whose front was overwritten by the front of these bytes, as far as both go
abbrev pub filled : List ℕ → List ℕ → List ℕ
filled buffer bytes = take (length buffer) bytes ++ drop (length bytes) buffer
