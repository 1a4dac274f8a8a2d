-- Reading on from a place in a file, where bytes may be doled out.
use Rattle.std.proofs.Common.{◌≡◌, ℕ, ◌+◌, ◌-◌, ◌<◌, List, [], length, get_or, Option, None, Some, take, drop, min, refl, sym, ap, ◌∙◌, arith}
use Rattle.std.specs.List.{slice_get}
use Rattle.std.specs.Option.{option_map, unwrap_or}
use Rattle.std.proofs.lemmas.List.{take_rest, drop_min, drop-drop, length-take}
use Rattle.std.proofs.lemmas.Option.{slice_get_read}
use Rattle.io_edge.specs.Calls.{dealt, offered}
use Rattle.io_edge.specs.declared.shelf.File.{File}
use Rattle.io_edge.specs.declared.shelf.Place.{Place}
use Rattle.io_edge.specs.Shelf.{rest_of}

-- what is left behind as many bytes as there are, as there is room for, and as are doled out
drop_dealt : (most : Option ℕ) (room : ℕ) (rest : List ℕ) → drop (min room (length (offered most rest))) rest ≡ drop (dealt most room) rest
drop_dealt None room rest = drop_min room rest
drop_dealt (Some most) room rest =
    let least : min room (min most (length rest)) ≡ min (min most room) (length rest) = omega arith in
    ap (λ n. drop (min room n) rest) (length-take most rest) ∙ ap (λ n. drop n rest) least ∙ drop_min (min most room) rest

-- the same from a place on
rest_behind : (most : Option ℕ) (bytes : List ℕ) (at room : ℕ) → drop (min at (length bytes) + min room (length (offered most (drop at bytes)))) bytes ≡ drop (dealt most room) (drop at bytes)
rest_behind most bytes at room =
    let count = min room (length (offered most (drop at bytes))) in
    sym (drop-drop count (min at (length bytes)) bytes) ∙ ap (drop count) (drop_min at bytes) ∙ drop_dealt most room (drop at bytes)

-- a place that is held at the file's end leaves the same rest
rest_held : (bytes : List ℕ) (at start : ℕ) → start ≡ min at (length bytes) → take (length bytes - start) (drop start bytes) ≡ drop at bytes
rest_held bytes at start e = take_rest bytes start ∙ ap (λ n. drop n bytes) e ∙ drop_min at bytes

-- the rest from a place in a file is that file's
rest_in : (files : List File) (place : Place) (file : File) (bytes : List ℕ) → place.file < length files → file ≡ get_or files place.file file → bytes ≡ (get_or files place.file file).bytes.items → (at : ℕ) → rest_of files (Some (record place { at = at })) ≡ drop at bytes
rest_in files place file bytes within is e at =
    let found : slice_get files place.file ≡ Some file = slice_get_read files (length files) place.file file refl within is in
    ap (λ o. drop at (unwrap_or (option_map (λ f. f.bytes.items) o) [])) found
    ∙ ap (λ f. drop at f.bytes.items) is
    ∙ ap (drop at) (sym e)

module _ (files : List File) (place : Place) (file : File) (bytes : List ℕ) (start : ℕ)
    (within : place.file < length files) (is : file ≡ get_or files place.file file)
    (read : bytes ≡ (get_or files place.file file).bytes.items) (held : start ≡ min place.at (length bytes)) where
  -- the slice from the held place on is the rest
  pub slice_is_rest : take (length bytes - start) (drop start bytes) ≡ rest_of files (Some place)
  slice_is_rest = rest_held bytes place.at start held ∙ sym (rest_in files place file bytes within is read place.at)

  -- behind what was read is what is left
  pub rest_after : (most : Option ℕ) (room count : ℕ) → count ≡ min room (length (offered most (take (length bytes - start) (drop start bytes)))) → rest_of files (Some (record place { at = start + count })) ≡ drop (dealt most room) (rest_of files (Some place))
  rest_after most room count e =
      let counted : count ≡ min room (length (offered most (drop place.at bytes))) = e ∙ ap (λ r. min room (length (offered most r))) (rest_held bytes place.at start held) in
      rest_in files place file bytes within is read (start + count)
      ∙ ap (λ n. drop (n + count) bytes) held
      ∙ ap (λ n. drop (min place.at (length bytes) + n) bytes) counted
      ∙ rest_behind most bytes place.at room
      ∙ ap (drop (dealt most room)) (sym (rest_in files place file bytes within is read place.at))
