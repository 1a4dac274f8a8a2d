-- A text has at least as many bytes as the array of its parts has items: each value of a text has a token of its own, and each
-- token a byte.
use Rattle.std.proofs.Common.{◌≡◌, ℕ, zero, suc, ◌+◌, ◌<◌, ◌≤◌, Bool, true, false, List, [], ◌∷◌, length, map, Option, Some, None, option_map, option_and_then, refl, subst, arith}
use Rattle.std.specs.Prelude.{⊤}
use Rattle.std.specs.declared.cmp.Ordering.{Ordering}
use Rattle.std.specs.declared.cmp.Ordering.TheVariants.{Less, Equal, Greater}
use Rattle.std.specs.Ordering.{match_ordering, nat_cmp}
use Rattle.std.specs.Cmp.Lexicographic.{slice_cmp}
use Rattle.json.specs.Token.{Token}
use Rattle.json.specs.Lex.{Lexeme, token, comma, colon, Class, quote, backslash, operator, space, other, class, Mode, between, in_word, in_string, in_escape, lex_byte, lex, Place, fresh, after_value, after_comma, after_key, begins_colon, may_begin, may_close, if_allowed, place_token, punctuate, tokens}
use Rattle.json.specs.Json as json
use Rattle.json.specs.Json.{Json, Parse, parse_map, after_end_array, read_key, items_step, members_step, items, members, value_with, value}
use Rattle.json.proofs.Grammar.{after_end_array-shorter, read_key-shorter}
use Rattle.serde_json.specs.Data.{Data, Items, no_items, item, Members, no_members, member, null, boolean, number, string, array, object, put}
use Rattle.serde_json.specs.Read.{number_of, of_json, of_items, of_members, max_depth, read}
use Rattle.serde_json.specs.View.{items_of}
use Rattle.page_model.specs.declared.witness.Part.{Part}
use Rattle.page_model.specs.declared.witness.Witness.{Witness}
use Rattle.witness_text.specs.PartValue.{part_value}
use Rattle.witness_text.specs.WitnessText.{value_of_first, value_of_second, witness_value}
use Rattle.witness_text.specs.WitnessForm.{IsTextOf}
use Rattle.witness_text.proofs.Shape.{in_each_version}

-- ---- how many values there are in a value

abbrev mutual
  weight : Json → ℕ
  weight json.null = 1
  weight (json.boolean b) = 1
  weight (json.number s) = 1
  weight (json.string s) = 1
  weight (json.array js) = 1 + items_weight js
  weight (json.object ms) = 1 + members_weight ms

  items_weight : json.Items → ℕ
  items_weight json.no_items = 0
  items_weight (json.item j js) = weight j + items_weight js

  members_weight : json.Members → ℕ
  members_weight json.no_members = 0
  members_weight (json.member k j ms) = weight j + members_weight ms

abbrev mutual
  count : Data → ℕ
  count null = 1
  count (boolean b) = 1
  count (number n) = 1
  count (string s) = 1
  count (array ds) = 1 + items_count ds
  count (object ms) = 1 + members_count ms

  items_count : Items → ℕ
  items_count no_items = 0
  items_count (item d ds) = count d + items_count ds

  members_count : Members → ℕ
  members_count no_members = 0
  members_count (member k d ms) = count d + members_count ms

-- ---- no more values than tokens

-- what is read and what is left make up at most so many
abbrev AtMost : {A : Type 0} → (A → ℕ) → ℕ → Option (A × List Token) → Type 0
AtMost f n None = ⊤
AtMost f n (Some p) = f p.0 + length p.1 ≤ n

abbrev Within : {A : Type 0} → (A → ℕ) → Parse A → Type 0
Within f p = (ts : List Token) → AtMost f (length ts) (p ts)

mapped : {A B : Type 0} (f : A → ℕ) (g : B → ℕ) (n m e : ℕ) (h : A → B) → ((a : A) → g (h a) ≤ f a + e) → n + e ≤ m → (o : Option (A × List Token)) → AtMost f n o → AtMost g m (parse_map h o)
mapped f g n m e h more room None x = tt
mapped f g n m e h more room (Some p) x = omega (arith, more p.0, room, x)

and_more : {B : Type 0} (g : B → ℕ) (n : ℕ) (h : Json → B → B) → ((j : Json) (b : B) → g (h j b) ≤ g b + weight j) → (more : Parse B) → Within g more
    → (o : Option (Json × List Token)) → AtMost weight n o → AtMost g n (option_and_then (λ q. parse_map (h q.0) (more q.1)) o)
and_more g n h is more within None x = tt
and_more g n h is more within (Some q) x = mapped g g (length q.1) n (weight q.0) (h q.0) (is q.0) (omega (arith, x)) (more q.1) (within q.1)

weaker : {A : Type 0} (f : A → ℕ) (n m : ℕ) → n ≤ m → (o : Option (A × List Token)) → AtMost f n o → AtMost f m o
weaker f n m less None x = tt
weaker f n m less (Some p) x = omega (arith, less, x)

module _ (p : Parse Json) (within : Within weight p) where
  item_turn : (more : Parse json.Items) → Within items_weight more → (ts : List Token) (o : Option (List Token)) → after_end_array ts ≡ o → AtMost items_weight (length ts) (items_step p more ts o)
  item_turn more again ts (Some r) e = omega (arith, after_end_array-shorter ts r e)
  item_turn more again ts None e = and_more items_weight (length ts) json.item (λ j b. omega arith) more again (p ts) (within ts)

  Within-items : (n : ℕ) → Within items_weight (items p n)
  unfolding items
  Within-items zero ts = tt
  Within-items (suc n) ts = item_turn (items p n) (Within-items n) ts (after_end_array ts) refl

  member_turn : (more : Parse json.Members) → Within members_weight more → (ts : List Token) (o : Option (Option (List ℕ) × List Token)) → read_key ts ≡ o
      → AtMost members_weight (length ts) (option_and_then (λ q. members_step p more q.0 q.1) o)
  member_turn more again ts None e = tt
  member_turn more again ts (Some (None, s)) e = omega (arith, read_key-shorter ts None s e)
  member_turn more again ts (Some (Some k, s)) e =
      weaker members_weight (length s) (length ts) (omega (arith, read_key-shorter ts (Some k) s e)) _
      (and_more members_weight (length s) (json.member k) (λ j b. omega arith) more again (p s) (within s))

  Within-members : (n : ℕ) → Within members_weight (members p n)
  unfolding members
  Within-members zero ts = tt
  Within-members (suc n) ts = member_turn (members p n) (Within-members n) ts (read_key ts) refl

one_level : (a : Parse json.Items) (o : Parse json.Members) → Within items_weight a → Within members_weight o → Within weight (value_with a o)
one_level a o p q [] = tt
one_level a o p q (Token.begin_object ∷ ts) = mapped members_weight weight (length ts) (suc (length ts)) 1 json.object (λ ms. omega arith) (omega arith) (o ts) (q ts)
one_level a o p q (Token.end_object ∷ ts) = tt
one_level a o p q (Token.begin_array ∷ ts) = mapped items_weight weight (length ts) (suc (length ts)) 1 json.array (λ js. omega arith) (omega arith) (a ts) (p ts)
one_level a o p q (Token.end_array ∷ ts) = tt
one_level a o p q (Token.key s ∷ ts) = tt
one_level a o p q (Token.string s ∷ ts) = omega arith
one_level a o p q (Token.number s ∷ ts) = omega arith
one_level a o p q (Token.boolean b ∷ ts) = omega arith
one_level a o p q (Token.null ∷ ts) = omega arith
one_level a o p q (Token.bad ∷ ts) = tt

Within-value : (d : ℕ) → Within weight (value d)
unfolding value
Within-value zero = one_level (λ ts. None) (λ ts. None) (λ ts. tt) (λ ts. tt)
Within-value (suc d) =
    one_level (λ ts. items (value d) (length ts) ts) (λ ts. members (value d) (length ts) ts)
    (λ ts. Within-items (value d) (Within-value d) (length ts) ts) (λ ts. Within-members (value d) (Within-value d) (length ts) ts)

-- ---- no more tokens than bytes, but for one that tells a fault

lexemes-few : (m : Mode) (c : Class) (x : ℕ) (xs : List ℕ) (k : Mode → List Lexeme) (n : ℕ) → ((next : Mode) → length (k next) ≤ n) → length (lex_byte m c x xs k) ≤ suc n
lexemes-few between quote x xs k n few = omega (arith, few in_string)
lexemes-few between backslash x xs k n few = omega (arith, few in_word)
lexemes-few between operator x xs k n few = omega (arith, few between)
lexemes-few between space x xs k n few = omega (arith, few between)
lexemes-few between other x xs k n few = omega (arith, few in_word)
lexemes-few in_word quote x xs k n few = omega (arith, few in_word)
lexemes-few in_word backslash x xs k n few = omega (arith, few in_word)
lexemes-few in_word operator x xs k n few = omega (arith, few between)
lexemes-few in_word space x xs k n few = omega (arith, few between)
lexemes-few in_word other x xs k n few = omega (arith, few in_word)
lexemes-few in_string quote x xs k n few = omega (arith, few between)
lexemes-few in_string backslash x xs k n few = omega (arith, few in_escape)
lexemes-few in_string operator x xs k n few = omega (arith, few in_string)
lexemes-few in_string space x xs k n few = omega (arith, few in_string)
lexemes-few in_string other x xs k n few = omega (arith, few in_string)
lexemes-few in_escape c x xs k n few = omega (arith, few in_string)

lex-few : (xs : List ℕ) (m : Mode) → length (lex m xs) ≤ length xs
unfolding lex
lex-few [] m = omega arith
lex-few (x ∷ xs) m = lexemes-few m (class x) x xs (λ next. lex next xs) (length xs) (λ next. lex-few xs next)

allowed-few : (b : Bool) (t : Token) (k : Place → List Token) (next : Place) (n : ℕ) → length (k next) ≤ n → length (if_allowed b t k next) ≤ suc n
allowed-few true t k next n few = omega (arith, few)
allowed-few false t k next n few = omega arith

placed-few : (p : Place) (t : Token) (before : Bool) (k : Place → List Token) (n : ℕ) → ((next : Place) → length (k next) ≤ n) → length (place_token p t before k) ≤ suc n
placed-few p Token.begin_object before k n few = allowed-few (may_begin p) Token.begin_object k fresh n (few fresh)
placed-few p Token.end_object before k n few = allowed-few (may_close p) Token.end_object k after_value n (few after_value)
placed-few p Token.begin_array before k n few = allowed-few (may_begin p) Token.begin_array k fresh n (few fresh)
placed-few p Token.end_array before k n few = allowed-few (may_close p) Token.end_array k after_value n (few after_value)
placed-few p (Token.key s) before k n few = omega arith
placed-few p (Token.string s) true k n few = allowed-few (may_begin p) (Token.key s) k after_key n (few after_key)
placed-few p (Token.string s) false k n few = allowed-few (may_begin p) (Token.string s) k after_value n (few after_value)
placed-few p (Token.number s) before k n few = allowed-few (may_begin p) (Token.number s) k after_value n (few after_value)
placed-few p (Token.boolean b) before k n few = allowed-few (may_begin p) (Token.boolean b) k after_value n (few after_value)
placed-few p Token.null before k n few = allowed-few (may_begin p) Token.null k after_value n (few after_value)
placed-few p Token.bad before k n few = omega arith

punctuate-few : (ls : List Lexeme) (p : Place) → length (punctuate p ls) ≤ suc (length ls)
unfolding punctuate
punctuate-few [] fresh = omega arith
punctuate-few [] after_value = omega arith
punctuate-few [] after_comma = omega arith
punctuate-few [] after_key = omega arith
punctuate-few (token t ∷ ls) fresh = placed-few fresh t (begins_colon ls) (λ next. punctuate next ls) (suc (length ls)) (λ next. punctuate-few ls next)
punctuate-few (token t ∷ ls) after_value = placed-few after_value t (begins_colon ls) (λ next. punctuate next ls) (suc (length ls)) (λ next. punctuate-few ls next)
punctuate-few (token t ∷ ls) after_comma = placed-few after_comma t (begins_colon ls) (λ next. punctuate next ls) (suc (length ls)) (λ next. punctuate-few ls next)
punctuate-few (token t ∷ ls) after_key = placed-few after_key t (begins_colon ls) (λ next. punctuate next ls) (suc (length ls)) (λ next. punctuate-few ls next)
punctuate-few (comma ∷ ls) fresh = omega arith
punctuate-few (comma ∷ ls) after_value = omega (arith, punctuate-few ls after_comma)
punctuate-few (comma ∷ ls) after_comma = omega arith
punctuate-few (comma ∷ ls) after_key = omega arith
punctuate-few (colon ∷ ls) fresh = omega arith
punctuate-few (colon ∷ ls) after_value = omega arith
punctuate-few (colon ∷ ls) after_comma = omega arith
punctuate-few (colon ∷ ls) after_key = omega (arith, punctuate-few ls fresh)

tokens-few : (text : List ℕ) → length (tokens text) ≤ suc (length text)
tokens-few text = omega (arith, punctuate-few (lex between text) fresh, lex-few text between)

-- ---- no more values in what is made of it

abbrev Light : {A : Type 0} → (A → ℕ) → ℕ → Option A → Type 0
Light f n None = ⊤
Light f n (Some a) = f a ≤ n

light-map : {A B : Type 0} (f : A → ℕ) (g : B → ℕ) (n m : ℕ) (h : A → B) → ((a : A) → f a ≤ n → g (h a) ≤ m) → (o : Option A) → Light f n o → Light g m (option_map h o)
light-map f g n m h step None x = tt
light-map f g n m h step (Some a) x = step a x

light-then : {A B : Type 0} (f : A → ℕ) (g : B → ℕ) (n m : ℕ) (h : A → Option B) → ((a : A) → f a ≤ n → Light g m (h a)) → (o : Option A) → Light f n o → Light g m (option_and_then h o)
light-then f g n m h step None x = tt
light-then f g n m h step (Some a) x = step a x

lighter : {A : Type 0} (f : A → ℕ) (n m : ℕ) (o : Option A) → n ≤ m → Light f n o → Light f m o
lighter f n m None less x = tt
lighter f n m (Some a) less x = omega (arith, less, x)

ordered-light : (o : Ordering) (a b c : Members) (n : ℕ) → members_count a ≤ n → members_count b ≤ n → members_count c ≤ n → members_count (match_ordering o a b c) ≤ n
ordered-light Less a b c n first second third = first
ordered-light Equal a b c n first second third = second
ordered-light Greater a b c n first second third = third

put-light : (k : List ℕ) (d : Data) (ms : Members) → members_count (put k d ms) ≤ count d + members_count ms
put-light k d no_members = omega arith
put-light k d (member l e ms) =
    ordered-light (slice_cmp nat_cmp k l) (member k d (member l e ms)) (member l d ms) (member l e (put k d ms)) (count d + (count e + members_count ms))
    (omega arith) (omega arith) (omega (arith, put-light k d ms))

number-light : (s : List ℕ) → Light count 1 (option_map number (number_of s))
number-light s = by_number (number_of s) where
  by_number : (o : Option _) → Light count 1 (option_map number o)
  by_number None = tt
  by_number (Some n) = omega arith

mutual
  made-light : (j : Json) → Light count (weight j) (of_json j)
  made-light json.null = omega arith
  made-light (json.boolean b) = omega arith
  made-light (json.number s) = number-light s
  made-light (json.string s) = omega arith
  made-light (json.array js) = light-map items_count count (items_weight js) (1 + items_weight js) array (λ ds less. omega (arith, less)) (of_items js) (items-light js)
  made-light (json.object ms) = light-map members_count count (members_weight ms + members_count no_members) (1 + members_weight ms) object (λ ds less. omega (arith, less)) (of_members ms no_members) (members-light ms no_members)

  items-light : (js : json.Items) → Light items_count (items_weight js) (of_items js)
  items-light json.no_items = omega arith
  items-light (json.item j js) =
      light-then count items_count (weight j) (weight j + items_weight js) (λ d. option_map (item d) (of_items js))
      (λ d light. light-map items_count items_count (items_weight js) (weight j + items_weight js) (item d) (λ ds less. omega (arith, less, light)) (of_items js) (items-light js))
      (of_json j) (made-light j)

  members-light : (ms : json.Members) (found : Members) → Light members_count (members_weight ms + members_count found) (of_members ms found)
  members-light json.no_members found = omega arith
  members-light (json.member k j ms) found =
      light-then count members_count (weight j) (weight j + members_weight ms + members_count found) (λ d. of_members ms (put k d found))
      (λ d light. lighter members_count (members_weight ms + members_count (put k d found)) (weight j + members_weight ms + members_count found) (of_members ms (put k d found)) (omega (arith, light, put-light k d found)) (members-light ms (put k d found)))
      (of_json j) (made-light j)

last-light : (n : ℕ) (o : Option (Json × List Token)) → AtMost weight n o → Light weight n (option_and_then (λ p. json.if_last p.0 p.1) o)
last-light n None x = tt
last-light n (Some (j, [])) x = omega (arith, x)
last-light n (Some (j, t ∷ ts)) x = tt

read-light : (text : List ℕ) → Light count (suc (length text)) (read text)
read-light text =
    let read_tokens = weaker weight (length (tokens text)) (suc (length text)) (tokens-few text) (value max_depth (tokens text)) (Within-value max_depth (tokens text)) in
    light-then weight count (suc (length text)) (suc (length text)) of_json (λ j less. lighter count (weight j) (suc (length text)) (of_json j) less (made-light j))
    (option_and_then (λ p. json.if_last p.0 p.1) (value max_depth (tokens text))) (last-light (suc (length text)) (value max_depth (tokens text)) read_tokens)

-- ---- the parts of a witness

part-counts : (p : Part) → 0 < count (part_value p)
unfolding part_value
part-counts p = omega arith

parts-count : (parts : List Part) → length parts ≤ items_count (items_of (map part_value parts))
parts-count [] = omega arith
parts-count (p ∷ parts) = omega (arith, part-counts p, parts-count parts)

first-counts : (w : Witness) → length w.parts < count (value_of_first w)
unfolding value_of_first
first-counts w = omega (arith, parts-count w.parts)

second-counts : (w : Witness) → length w.parts < count (value_of_second w)
unfolding value_of_second
second-counts w = omega (arith, parts-count w.parts)

witness-counts : (w : Witness) → length w.parts < count (witness_value w)
witness-counts w = in_each_version (λ d. length w.parts < count d) w (first-counts w) (second-counts w)

pub parts_few : (bytes : List ℕ) (w : Witness) → IsTextOf bytes w → length w.parts ≤ length bytes
parts_few bytes w text =
    let read_light = subst (Light count (suc (length bytes))) text.reads (read-light bytes) in
    omega (arith, witness-counts w, read_light)
