-- Names in a set, and those that stand in a list.
use Rattle.std.proofs.Common.{◌≡◌, ℕ, zero, suc, ◌<◌, Bool, true, false, not, ◌&&◌, ◌||◌, List, [], ◌∷◌, Vec, length, drop, get_or, map, refl, sym, ap, ◌∙◌, arith}
use Rattle.std.specs.Ordering.{nat_cmp, is_eq, match_ordering}
use Rattle.std.specs.declared.cmp.Ordering.{Ordering}
use Rattle.std.specs.declared.cmp.Ordering.TheVariants.{Less, Equal, Greater}
use Rattle.std.specs.Cmp.Lexicographic.{slice_cmp}
use Rattle.std.specs.BTreeMap.{is_at}
use Rattle.std.specs.BTreeSet.{insert_key}
use Rattle.std.specs.List.{list_any}
use Rattle.std.specs.Str.{bytes_eq, str_to_ascii_lowercase}
use Rattle.std.proofs.lemmas.Bool.Decides.{nat_tests}
use Rattle.std.proofs.lemmas.Map.Text.{is_eq-slice_cmp}
use Rattle.page_tokens.specs.HtmlTags.{Attribute}
use Rattle.page_reader.specs.PageNames.{texts, has, IsAdded}
use Rattle.page_reader.specs.PageSymbols.{are_distinct, is_named}

-- equality of bytes goes both ways
pub eq_both_ways : (xs ys : List ℕ) → bytes_eq xs ys ≡ bytes_eq ys xs
eq_both_ways [] [] = refl
eq_both_ways [] (y ∷ ys) = refl
eq_both_ways (x ∷ xs) [] = refl
eq_both_ways (x ∷ xs) (y ∷ ys) = rw (eq_both_ways xs ys) (ap (λ b. b && bytes_eq ys xs) (grind (arith, nat_tests)))

abbrev by_bytes : {A : Type 0} → Vec ℕ A → Vec ℕ A → Ordering
by_bytes x y = slice_cmp nat_cmp x.items y.items

-- a set holds a name whose bytes are among its own
pub holds_has : {A : Type 0} (name : Vec ℕ A) (names : List (Vec ℕ A)) → list_any (is_at (by_bytes name)) names ≡ has (texts names) name.items
holds_has name [] = refl
holds_has name (x ∷ xs) = rw (holds_has name xs, is_eq-slice_cmp name.items x.items, eq_both_ways name.items x.items) refl

-- a set that a name was put into has it and its own
or_again : (a b : Bool) → (a || b) ≡ (a || (a || b))
or_again true b = refl
or_again false b = refl

or_swap : (a b c : Bool) → (a || (b || c)) ≡ (b || (a || c))
or_swap true true c = refl
or_swap true false c = refl
or_swap false b c = refl

is_same : {A : Type 0} (name x : Vec ℕ A) → by_bytes name x ≡ Equal → x.items ≡ name.items
is_same name x e = bytes_are name.items x.items (sym (is_eq-slice_cmp name.items x.items) ∙ ap is_eq e) where
  bytes_are : (xs ys : List ℕ) → bytes_eq xs ys ≡ true → ys ≡ xs
  bytes_are [] [] e = refl
  bytes_are [] (y ∷ ys) e = cc
  bytes_are (x ∷ xs) [] e = cc
  bytes_are (x ∷ xs) (y ∷ ys) e = grind (arith, nat_tests, bytes_are xs ys)

pub put_is_added : {A : Type 0} (name : Vec ℕ A) (names : List (Vec ℕ A)) → IsAdded (texts names) name.items (texts (insert_key by_bytes names name))
put_is_added name [] = λ other. refl
put_is_added name (x ∷ xs) = λ other. at_order other (by_bytes name x) refl (put_is_added name xs other) where
  at_order : (other : List ℕ) (o : Ordering) → by_bytes name x ≡ o → has (texts (insert_key by_bytes xs name)) other ≡ (bytes_eq name.items other || has (texts xs) other)
      → has (texts (match_ordering o (name ∷ x ∷ xs) (x ∷ xs) (x ∷ insert_key by_bytes xs name))) other ≡ (bytes_eq name.items other || has (texts (x ∷ xs)) other)
  at_order other Less e tail = refl
  at_order other Equal e tail = rw (is_same name x e) (or_again (bytes_eq name.items other) (has (texts xs) other))
  at_order other Greater e tail = rw tail (or_swap (bytes_eq x.items other) (bytes_eq name.items other) (has (texts xs) other))

-- these are the names of the attributes, in lower case
abbrev pub Seen : List (List ℕ) → List Attribute → Type 0
Seen names attributes = (name : List ℕ) → has names name ≡ list_any (λ other. bytes_eq (str_to_ascii_lowercase other.name) name) attributes

-- a name that stands behind it too stands twice
is_none : (b : Bool) (new : Bool) → new ≡ not b → new ≡ false → b ≡ true
is_none true new e f = refl
is_none false new e f = cc

pub stands_twice : {X : Type 0} (f : X → Attribute) (xs : List X) (at_ : ℕ) (d : X) (names : List (List ℕ)) (new : Bool) → at_ < length xs → Seen names (map f (drop (suc at_) xs))
    → new ≡ not (has names (str_to_ascii_lowercase (f (get_or xs at_ d)).name)) → new ≡ false → false ≡ are_distinct (map f xs)
stands_twice f [] at_ d names new within seen is old = absurd (omega arith)
stands_twice f (x ∷ xs) zero d names new within seen is old =
    let there : list_any (is_named (f x).name) (map f xs) ≡ true = sym (seen (str_to_ascii_lowercase (f x).name)) ∙ is_none (has names (str_to_ascii_lowercase (f x).name)) new is old in
    rw there refl
stands_twice f (x ∷ xs) (suc at_) d names new within seen is old =
    rw (← stands_twice f xs at_ d names new (omega arith) seen is old) (sym (none_of (not (list_any (is_named (f x).name) (map f xs)))))
  where
    none_of : (b : Bool) → (b && false) ≡ false
    none_of true = refl
    none_of false = refl
