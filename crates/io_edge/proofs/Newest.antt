-- The newest file of a name, as far as the files were looked through.
use Rattle.std.proofs.Common.{◌≡◌, ℕ, zero, suc, ◌+◌, ◌<◌, true, false, cond, List, [], ◌∷◌, ◌++◌, length, get_or, Option, None, Some, take, refl, sym, ap, ◌∙◌, nat_eq, drop, length-append, arith}
use Rattle.std.specs.List.{slice_get}
use Rattle.std.specs.Cmp.Lexicographic.{pointwise, texts_ties}
use Rattle.std.specs.Option.{option_map, unwrap_or}
use Rattle.std.proofs.lemmas.Cmp.{nat_list_cmp_total}
use Rattle.std.proofs.lemmas.List.{take_more}
use Rattle.std.proofs.lemmas.List.Sums.{fold-append}
use Rattle.std.proofs.lemmas.Option.{slice_get_read}
use Rattle.std.specs.FinMap as map
use Rattle.io_edge.specs.declared.shelf.File.{File}
use Rattle.io_edge.specs.declared.shelf.Place.{Place}
use Rattle.io_edge.specs.Shelf.{files_of, bytes_at, rest_of, IsPlaceIn}

-- the newest among the first n files
abbrev pub IsNewestOf : ℕ → List File → List ℕ → Option ℕ → Type 0
IsNewestOf n files name None = map.get (files_of (take n files)) name ≡ None
IsNewestOf n files name (Some i) = (i < n) × (map.get (files_of (take n files)) name ≡ bytes_at files i)

-- one more file is one more entry of the map
pub files_of-push : (files : List File) (file : File) → files_of (files ++ file ∷ []) ≡ map.insert (files_of files) file.name.items file.bytes.items
files_of-push files file = fold-append (λ known file. map.insert known file.name.items file.bytes.items) map.empty files (file ∷ [])

-- what the map has for a name, after one more file
get-files_of : (files : List File) (name : List ℕ) (i : ℕ) (file : File) → i < length files → file ≡ get_or files i file
    → map.get (files_of (take (i + 1) files)) name ≡ cond (pointwise nat_eq name file.name.items) (Some file.bytes.items) (map.get (files_of (take i files)) name)
get-files_of files name i file within is =
    ap (λ l. map.get (files_of l) name) (take_more files i file within ∙ ap (λ f. take i files ++ f ∷ []) (sym is))
    ∙ ap (λ m. map.get m name) (files_of-push (take i files) file)
    ∙ map.get-insert nat_list_cmp_total (files_of (take i files)) file.name.items file.bytes.items name
    ∙ ap (λ b. cond b (Some file.bytes.items) (map.get (files_of (take i files)) name)) (sym (texts_ties name file.name.items))

-- no file has a name before the first is looked at
pub newest_none : (files : List File) (name : List ℕ) → IsNewestOf 0 files name None
newest_none files name = map.get-empty _ name

kept : (files : List File) (name : List ℕ) (i : ℕ) (found : Option ℕ) → map.get (files_of (take (i + 1) files)) name ≡ map.get (files_of (take i files)) name → IsNewestOf i files name found → IsNewestOf (i + 1) files name found
kept files name i None e h = e ∙ h
kept files name i (Some k) e h = (omega (arith, h.0), e ∙ h.1)

-- a file of that name is the newest so far
pub newest_more : (files : List File) (name : List ℕ) (i : ℕ) (file : File) → i < length files → file ≡ get_or files i file → true ≡ pointwise nat_eq name file.name.items → IsNewestOf (i + 1) files name (Some i)
newest_more files name i file within is same =
    let place : slice_get files i ≡ Some file = slice_get_read files (length files) i file refl within is in
    (omega arith, get-files_of files name i file within is ∙ ap (λ b. cond b (Some file.bytes.items) (map.get (files_of (take i files)) name)) (sym same) ∙ sym (ap (option_map (λ file. file.bytes.items)) place))

-- a file of another name leaves the newest so far
pub newest_kept : (files : List File) (name : List ℕ) (i : ℕ) (file : File) (found : Option ℕ) → i < length files → file ≡ get_or files i file → false ≡ pointwise nat_eq name file.name.items → IsNewestOf i files name found → IsNewestOf (i + 1) files name found
newest_kept files name i file found within is differ h =
    kept files name i found (get-files_of files name i file within is ∙ ap (λ b. cond b (Some file.bytes.items) (map.get (files_of (take i files)) name)) (sym differ)) h

-- an element stays where it is when another comes last
pub slice_get-append : {X : Type 0} (xs ys : List X) (i : ℕ) → i < length xs → slice_get (xs ++ ys) i ≡ slice_get xs i
slice_get-append [] ys i h = absurd (omega arith)
slice_get-append (x ∷ xs) ys zero h = refl
slice_get-append (x ∷ xs) ys (suc i) h = slice_get-append xs ys i (omega arith)

-- the rest stays when another file comes last
pub rest_of-push : (files : List File) (file : File) (place : Option Place) → IsPlaceIn files place → rest_of (files ++ file ∷ []) place ≡ rest_of files place
rest_of-push files file None h = refl
rest_of-push files file (Some place) h = ap (λ o. drop place.at (unwrap_or (option_map (λ f. f.bytes.items) o) [])) (slice_get-append files (file ∷ []) place.file h)

-- the place stays in a file when another comes last
pub IsPlaceIn-push : (files : List File) (file : File) (place : Option Place) → IsPlaceIn files place → IsPlaceIn (files ++ file ∷ []) place
IsPlaceIn-push files file None h = tt
IsPlaceIn-push files file (Some place) h = simp length-append (omega arith)

-- what another file changes, and what it doesn't
pub ruleset one_more_file = (files_of-push, rest_of-push, IsPlaceIn-push)
