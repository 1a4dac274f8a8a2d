-- Numbers that are given are in their limits.
use Rattle.std.proofs.Common.{ℕ, ℤ, pos, neg_ℤ, Bool, true, false, not, ◌==◌, ◌&&◌, ◌≡◌, ◌≤◌, List, Some, Ok, Err, length, codes, refl, sym, subst, inl, inr, arith, nat_lt}
use Rattle.std.proofs.lemmas.Bool.Decides.{eqb_tells, nat_tests}
use Rattle.std.proofs.lemmas.Int.{ints}
use Rattle.page_model.specs.declared.animation.Count.{Count}
use Rattle.page_model.specs.declared.animation.Count.TheVariants.{Times, Infinite}
use Rattle.page_model.specs.ValidScene.{IsBetween, IsPosition, IsExtent, IsCount}
use Rattle.css_words.specs.declared.fault.ValueFault.TheVariants.{BadValue, OverLimit}
use Rattle.css_words.specs.Keywords.{is_keyword}
use Rattle.css_words.specs.Numerals.{Numeral, amount, is_zero, lone_number, share_of, signed_int}
use Rattle.css_quantities.specs.Quantities.{within, size_of, length_size, length_of, time_size, time_of, duration_of, opacity_of, z_index_of, count_of}
use Rattle.css_quantities.specs.ValidQuantities.{IsTime, IsLevel}
use Rattle.css_words.specs.Words.{Word, is_lone}
use Rattle.css_words.proofs.GivenLemmas.{if_ok, bad_ok, mapped_ok}
use Rattle.css_words.proofs.ShareLemmas.{share_is}
use Rattle.css_words.proofs.SignLemmas.{Held, between}

within_is : (signed : Bool) (limit : ℕ) (negative : Bool) (n m : ℕ) → within signed limit negative n ≡ Ok m → Held signed negative limit m
unfolding within
within_is signed limit negative n m e =
    if_ok (λ x. Held signed negative limit x) (negative && (not signed && not (n == 0))) (Err BadValue) _ (λ x is bad. absurd (cc))
    (λ x good inner. if_ok (λ y. Held signed negative limit y) (nat_lt limit n) (Err OverLimit) (Ok n) (λ y is bad. absurd (cc))
    (λ y few same.
    let is : n ≡ y = cc in
    let P : ℕ → Type 0 = λ k. Held signed negative limit k in
    subst P is (record { small = limited limit n few; sign = signless signed negative n good }))
    x inner)
    m e where
      limited : (limit n : ℕ) → nat_lt limit n ≡ false → n ≤ limit
      limited limit n few = grind (arith, nat_tests)

      signless : (signed negative : Bool) (n : ℕ) → (negative && (not signed && not (n == 0))) ≡ false → signed ≡ false → negative ≡ true → n ≡ 0
      signless true negative n good no_sign minus = absurd (cc)
      signless false false n good no_sign minus = absurd (cc)
      signless false true n good no_sign minus = elim (eqb_tells n 0) [ inl is ↦ is.1 | inr other ↦ absurd (let h = other.0 in let g : not (n == 0) ≡ true = rw h refl in cc) ]

size_is : (places : ℕ) (signed : Bool) (limit : ℕ) (n : Numeral) (m : ℕ) → size_of places signed limit n ≡ Ok m → Held signed n.negative limit m
unfolding size_of
size_is places signed limit n m e =
    bad_ok (λ x. Held signed n.negative limit x) (amount places n) (within signed limit n.negative) (λ a is x f. within_is signed limit n.negative a x f) m e

length_size_is : (signed : Bool) (n : Numeral) (m : ℕ) → length_size signed n ≡ Ok m → Held signed n.negative 819200 m
unfolding length_size
length_size_is signed n m e =
    if_ok (λ x. Held signed n.negative 819200 x) (is_keyword (codes "px") n.unit) (size_of 2 signed 819200 n) _ (λ x is f. size_is 2 signed 819200 n x f)
    (λ x no f. if_ok (λ y. Held signed n.negative 819200 y) (length n.unit == 0 && is_zero n) (Ok 0) (Err BadValue)
    (λ y is same. let zero_is : 0 ≡ y = cc in record { small = omega arith; sign = λ p q. sym zero_is }) (λ y is bad. absurd (cc)) x f)
    m e

pub time_size_is : (signed : Bool) (n : Numeral) (m : ℕ) → time_size signed n ≡ Ok m → Held signed n.negative 100000 m
unfolding time_size
time_size_is signed n m e =
    if_ok (λ x. Held signed n.negative 100000 x) (is_keyword (codes "s") n.unit) (size_of 3 signed 100000 n) _ (λ x is f. size_is 3 signed 100000 n x f)
    (λ x no f. if_ok (λ y. Held signed n.negative 100000 y) (is_keyword (codes "ms") n.unit) (size_of 0 signed 100000 n) (Err BadValue)
    (λ y is g. size_is 0 signed 100000 n y g) (λ y is bad. absurd (cc)) x f)
    m e

extent : (negative : Bool) (limit n : ℕ) → Held false negative limit n → IsBetween (pos 0) (pos limit) (signed_int negative n)
extent true limit n is =
    let none = is.sign refl refl in
    let P : ℕ → Type 0 = λ k. IsBetween (pos 0) (pos limit) (neg_ℤ (pos k)) in
    subst P (sym none) (record { at_least = omega (arith, ints); at_most = omega (arith, ints) })
extent false limit n is = let small = is.small in record { at_least = omega (arith, ints); at_most = omega (arith, ints) }

pub length_is : (signed : Bool) (words : List Word) (v : ℤ) → length_of signed words ≡ Ok v → IsPosition v
unfolding length_of
length_is signed words v e =
    bad_ok IsPosition (lone_number words) _ (λ n is x f.
    mapped_ok IsPosition (signed_int n.negative) (length_size signed n) (λ m g. between signed n.negative 819200 m (length_size_is signed n m g)) x f)
    v e

pub extent_is : (words : List Word) (v : ℤ) → length_of false words ≡ Ok v → IsExtent v
unfolding length_of
extent_is words v e =
    bad_ok IsExtent (lone_number words) _ (λ n is x f.
    mapped_ok IsExtent (signed_int n.negative) (length_size false n) (λ m g. extent n.negative 819200 m (length_size_is false n m g)) x f)
    v e

pub time_is : (signed : Bool) (words : List Word) (v : ℤ) → time_of signed words ≡ Ok v → IsTime v
unfolding time_of
time_is signed words v e =
    bad_ok IsTime (lone_number words) _ (λ n is x f.
    mapped_ok IsTime (signed_int n.negative) (time_size signed n) (λ m g. between signed n.negative 100000 m (time_size_is signed n m g)) x f)
    v e

pub early_is : (words : List Word) (v : ℤ) → time_of false words ≡ Ok v → IsBetween (pos 0) (pos 100000) v
unfolding time_of
early_is words v e =
    bad_ok (λ x. IsBetween (pos 0) (pos 100000) x) (lone_number words) _ (λ n is x f.
    mapped_ok (λ y. IsBetween (pos 0) (pos 100000) y) (signed_int n.negative) (time_size false n) (λ m g. extent n.negative 100000 m (time_size_is false n m g)) x f)
    v e

pub duration_is : (words : List Word) (n : ℕ) → duration_of words ≡ Ok n → n ≤ 100000
unfolding duration_of
duration_is words n e = bad_ok (λ x. x ≤ 100000) (lone_number words) _ (λ a is x f. (time_size_is false a x f).small) n e

pub opacity_is : (words : List Word) (n : ℕ) → opacity_of words ≡ Ok n → n ≤ 1000
unfolding opacity_of
opacity_is words n e =
    bad_ok (λ x. x ≤ 1000) (lone_number words) _ (λ a is x f.
    bad_ok (λ y. y ≤ 1000) (share_of a) _ (λ k some y same. share_is a y (let is : k ≡ y = cc in subst (λ m. share_of a ≡ Some m) is some)) x f)
    n e

pub level_is : (words : List Word) (v : ℤ) → z_index_of words ≡ Ok v → IsLevel v
unfolding z_index_of
level_is words v e =
    if_ok IsLevel (is_lone (codes "auto") words) (Ok (pos 0)) _
    (λ x auto same. let is : pos 0 ≡ x = cc in subst IsLevel is (record { at_least = omega (arith, ints); at_most = omega (arith, ints) }))
    (λ x other f. bad_ok IsLevel (lone_number words) _ (λ n is y g.
    if_ok IsLevel (length n.unit == 0) _ (Err BadValue)
    (λ z plain h. mapped_ok IsLevel (signed_int n.negative) (size_of 0 true 1000000 n) (λ m k. between true n.negative 1000000 m (size_is 0 true 1000000 n m k)) z h)
    (λ z unit bad. absurd (cc)) y g) x f)
    v e

pub count_is : (words : List Word) (c : Count) → count_of words ≡ Ok c → IsCount c
unfolding count_of
count_is words c e =
    if_ok IsCount (is_lone (codes "infinite") words) (Ok Infinite) _ (λ x endless same. let is : Infinite ≡ x = cc in subst IsCount is tt)
    (λ x other f. bad_ok IsCount (lone_number words) _ (λ n is y g.
    if_ok IsCount (length n.unit == 0) _ (Err BadValue)
    (λ z plain h. mapped_ok IsCount Times (size_of 3 false 10000000 n) (λ m k. (size_is 3 false 10000000 n m k).small) z h)
    (λ z unit bad. absurd (cc)) y g) x f)
    c e
