-- A value whose numbers and strings are sound is read back from its text, which is UTF-8.
use Rattle.std.proofs.Common.{◌≡◌, ◌∙◌, ℕ, max, suc, ◌≤◌, List, [], ◌∷◌, ◌++◌, Bool, true, false, Some, IsUtf8, Option, option_map, option_and_then, refl, sym, ap, ap₂, arith, append-nil}
use Rattle.std.specs.Prelude.{⊤}
use Rattle.std.proofs.lemmas.Str.{IsUtf8-append, IsUtf8-nil}
use Rattle.json.specs.Json as json
use Rattle.json.specs.Lex.{tokens}
use Rattle.json.specs.Token.{Token}
use Rattle.json.specs.Print.{IsNumber, quoted}
use Rattle.json.specs.Tree as tree
use Rattle.json.proofs.Printed.Tokens.{tokens-print}
use Rattle.json.proofs.Printed.Trees.{ArePrintable-json_tokens, value-json_tokens}
use Rattle.json.proofs.Printed.Utf8.{IsUtf8-are_ascii, IsUtf8-boolean, IsUtf8-quoted}
use Rattle.serde_json.specs.Data.{Num, Data, null, boolean, number, string, array, object, Items, no_items, item, Members, no_members, member, put, depth, items_depth, members_depth}
use Rattle.serde_json.specs.Read.{max_depth, number_of, of_items, of_json, of_members, read}
use Rattle.serde_json.specs.Written.{comma_if, compact_text, items_outline, items_text, members_outline, members_text, number_text, outline}
use Rattle.serde_json.proofs.Texts.{print-outline}

-- members put in one after another
abbrev pub placed : Members → Members → Members
placed no_members found = found
placed (member k d ms) found = placed ms (put k d found)

-- the text of a number is one by the grammar, is read back, and is UTF-8
pub record IsSoundNumber (n : Num) : Type 0 where
  pub is_number : IsNumber (number_text n)
  pub back : number_of (number_text n) ≡ Some n
  pub utf8 : IsUtf8 (number_text n)

-- each number of a value is sound, each string and key is UTF-8, and the members of each object stand in order
abbrev mutual
  pub IsSound : Data → Type 0
  IsSound null = ⊤
  IsSound (boolean b) = ⊤
  IsSound (number n) = IsSoundNumber n
  IsSound (string s) = IsUtf8 s
  IsSound (array ds) = AreSoundItems ds
  IsSound (object ms) = AreSoundMembers ms × (placed ms no_members ≡ ms)

  pub AreSoundItems : Items → Type 0
  AreSoundItems no_items = ⊤
  AreSoundItems (item d ds) = IsSound d × AreSoundItems ds

  pub AreSoundMembers : Members → Type 0
  AreSoundMembers no_members = ⊤
  AreSoundMembers (member k d ms) = IsUtf8 k × (IsSound d × AreSoundMembers ms)

-- ---- the value of the outline

mutual
  value_back : (d : Data) → IsSound d → of_json (outline d) ≡ Some d
  value_back null h = refl
  value_back (boolean b) h = refl
  value_back (number n) h = ap (option_map number) h.back
  value_back (string s) h = refl
  value_back (array ds) h = ap (option_map array) (items_back ds h)
  value_back (object ms) h = ap (option_map object) (members_back ms no_members h.0) ∙ ap (λ (m : Members). Some (object m)) h.1

  items_back : (ds : Items) → AreSoundItems ds → of_items (items_outline ds) ≡ Some ds
  items_back no_items h = refl
  items_back (item d ds) h =
      ap (option_and_then (λ e. option_map (item e) (of_items (items_outline ds)))) (value_back d h.0) ∙ ap (option_map (item d)) (items_back ds h.1)

  members_back : (ms found : Members) → AreSoundMembers ms → of_members (members_outline ms) found ≡ Some (placed ms found)
  members_back no_members found h = refl
  members_back (member k d ms) found h =
      ap (option_and_then (λ e. of_members (members_outline ms) (put k e found))) (value_back d h.1.0) ∙ members_back ms (put k d found) h.1.1

-- ---- its numbers, and how deep it nests

mutual
  value_numbers : (d : Data) → IsSound d → tree.HasNumbers (outline d)
  value_numbers null h = tt
  value_numbers (boolean b) h = tt
  value_numbers (number n) h = h.is_number
  value_numbers (string s) h = tt
  value_numbers (array ds) h = items_numbers ds h
  value_numbers (object ms) h = members_numbers ms h.0

  items_numbers : (ds : Items) → AreSoundItems ds → tree.ItemsHaveNumbers (items_outline ds)
  items_numbers no_items h = tt
  items_numbers (item d ds) h = (value_numbers d h.0, items_numbers ds h.1)

  members_numbers : (ms : Members) → AreSoundMembers ms → tree.MembersHaveNumbers (members_outline ms)
  members_numbers no_members h = tt
  members_numbers (member k d ms) h = (value_numbers d h.1.0, members_numbers ms h.1.1)

mutual
  same_depth : (d : Data) → tree.depth (outline d) ≡ depth d
  same_depth null = refl
  same_depth (boolean b) = refl
  same_depth (number n) = refl
  same_depth (string s) = refl
  same_depth (array ds) = ap suc (same_items_depth ds)
  same_depth (object ms) = ap suc (same_members_depth ms)

  same_items_depth : (ds : Items) → tree.items_depth (items_outline ds) ≡ items_depth ds
  same_items_depth no_items = refl
  same_items_depth (item d ds) = ap₂ max (same_depth d) (same_items_depth ds)

  same_members_depth : (ms : Members) → tree.members_depth (members_outline ms) ≡ members_depth ms
  same_members_depth no_members = refl
  same_members_depth (member k d ms) = ap₂ max (same_depth d) (same_members_depth ms)

-- ---- its text

comma_utf8 : (later : Bool) → IsUtf8 (comma_if later)
comma_utf8 true = IsUtf8-are_ascii (44 ∷ []) refl
comma_utf8 false = IsUtf8-nil

mutual
  pub value_utf8 : (d : Data) → IsSound d → IsUtf8 (compact_text d)
  value_utf8 null h = IsUtf8-are_ascii (compact_text null) refl
  value_utf8 (boolean b) h = IsUtf8-boolean b
  value_utf8 (number n) h = h.utf8
  value_utf8 (string s) h = IsUtf8-quoted s h
  value_utf8 (array ds) h = IsUtf8-append (91 ∷ []) (items_text false ds) (IsUtf8-are_ascii (91 ∷ []) refl) (items_utf8 false ds h)
  value_utf8 (object ms) h = IsUtf8-append (123 ∷ []) (members_text false ms) (IsUtf8-are_ascii (123 ∷ []) refl) (members_utf8 false ms h.0)

  items_utf8 : (later : Bool) (ds : Items) → AreSoundItems ds → IsUtf8 (items_text later ds)
  items_utf8 later no_items h = IsUtf8-are_ascii (93 ∷ []) refl
  items_utf8 later (item d ds) h =
      IsUtf8-append (comma_if later) (compact_text d ++ items_text true ds) (comma_utf8 later)
      (IsUtf8-append (compact_text d) (items_text true ds) (value_utf8 d h.0) (items_utf8 true ds h.1))

  members_utf8 : (later : Bool) (ms : Members) → AreSoundMembers ms → IsUtf8 (members_text later ms)
  members_utf8 later no_members h = IsUtf8-are_ascii (125 ∷ []) refl
  members_utf8 later (member k d ms) h =
      IsUtf8-append (comma_if later) (quoted k ++ 58 ∷ (compact_text d ++ members_text true ms)) (comma_utf8 later)
      (IsUtf8-append (quoted k) (58 ∷ (compact_text d ++ members_text true ms)) (IsUtf8-quoted k h.0)
      (IsUtf8-append (58 ∷ []) (compact_text d ++ members_text true ms) (IsUtf8-are_ascii (58 ∷ []) refl)
      (IsUtf8-append (compact_text d) (members_text true ms) (value_utf8 d h.1.0) (members_utf8 true ms h.1.1))))

-- what a tree that was read, and the tokens after it, come to
abbrev whole : Option (json.Json × List Token) → Option Data
whole o = option_and_then of_json (option_and_then (λ p. json.if_last p.0 p.1) o)

pub sound_read : (d : Data) → IsSound d → depth d ≤ max_depth → read (compact_text d) ≡ Some d
sound_read d h shallow =
    let same : tokens (compact_text d) ≡ tree.json_tokens (outline d) =
    ap tokens (sym (print-outline d)) ∙ tokens-print (tree.json_tokens (outline d)) (ArePrintable-json_tokens (outline d) (value_numbers d h)) in
    ap whole (ap (json.value max_depth) (same ∙ sym (append-nil (tree.json_tokens (outline d))))
    ∙ value-json_tokens (outline d) max_depth [] (omega (arith, shallow, same_depth d))) ∙ value_back d h
