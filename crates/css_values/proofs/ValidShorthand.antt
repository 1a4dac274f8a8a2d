-- An item of the shorthand that is given has numbers in their limits.
use Rattle.std.proofs.Common.{pos, Bool, true, false, ◌≡◌, ◌≤◌, List, [], ◌∷◌, Option, Some, None, Result, Ok, Err, cond, IfSome, is_some, unwrap_or, option_and_then, refl, subst, arith}
use Rattle.std.proofs.lemmas.Int.{ints}
use Rattle.page_model.specs.declared.animation.Count.TheVariants.{Times}
use Rattle.page_model.specs.declared.animation.Direction.TheVariants.{Normal}
use Rattle.page_model.specs.declared.animation.Fill.TheVariants.{Absent}
use Rattle.page_model.specs.declared.easing.Easing.TheVariants.{Cubic}
use Rattle.page_model.specs.ValidScene.{IsEasing, IsCount}
use Rattle.css_words.specs.declared.fault.ValueFault.{ValueFault}
use Rattle.css_words.specs.declared.fault.ValueFault.TheVariants.{BadValue, OverLimit, NoMemory}
use Rattle.css_columns.specs.declared.item.Shorthand.{Shorthand}
use Rattle.css_easings.specs.Easings.{easing_of}
use Rattle.css_items.specs.ItemWords.{direction_words, fill_words, play_words}
use Rattle.css_items.specs.Names.{keyword_of, name_of}
use Rattle.css_quantities.specs.Quantities.{count_of, duration_of, time_of}
use Rattle.css_values.specs.ShorthandGrammar.{Slots, free, taken, chosen, take_time, take_easing, take_count, take_direction, take_fill, take_play, take_name, take_keyword, take_word, take_all, is_value, groups, settled, item_of}
use Rattle.css_quantities.specs.ValidQuantities.{IsTime}
use Rattle.css_words.specs.Words.{Word, or_else}
use Rattle.css_words.proofs.GivenLemmas.{if_ok, bad_ok}
use Rattle.css_quantities.proofs.ValidNumbers.{duration_is, time_is, count_is}
use Rattle.css_easings.proofs.ValidEasings.{easing_is, small_curve}

-- the numbers of an item are in their limits
pub record IsItem (s : Shorthand) : Type 0 where
  pub duration : s.duration ≤ 100000
  pub easing : IsEasing s.easing
  pub delay : IsTime s.delay
  pub count : IsCount s.count

-- what is taken is in its limits
record AreGood (s : Slots) : Type 0 where
  pub duration : IfSome s.duration (λ d. d ≤ 100000)
  pub easing : IfSome s.easing IsEasing
  pub delay : IfSome s.delay IsTime
  pub count : IfSome s.count IsCount

none_taken : AreGood free
none_taken = record { duration = tt; easing = tt; delay = tt; count = tt }

if_some : {A : Type 0} (P : A → Type 0) (b : Bool) (p q : Option A) → ((x : A) → p ≡ Some x → P x) → ((x : A) → q ≡ Some x → P x) → (x : A) → cond b p q ≡ Some x → P x
if_some P true p q first second x e = first x e
if_some P false p q first second x e = second x e

taken_is : {A : Type 0} (into : A → Slots) (past : Slots) (r : Result A ValueFault) → ((v : A) → r ≡ Ok v → AreGood (into v)) → AreGood past
    → (s : Slots) → taken into past r ≡ Some s → AreGood s
taken_is into past (Ok v) holds good s e = let same : into v ≡ s = cc in subst AreGood same (holds v refl)
taken_is into past (Err OverLimit) holds good s e = let same : past ≡ s = cc in subst AreGood same good
taken_is into past (Err BadValue) holds good s e = absurd (cc)
taken_is into past (Err NoMemory) holds good s e = absurd (cc)

chosen_is : {A : Type 0} (into : A → Slots) (r : Result A ValueFault) → ((v : A) → AreGood (into v)) → (s : Slots) → chosen into r ≡ Some s → AreGood s
chosen_is into (Ok v) holds s e = let same : into v ≡ s = cc in subst AreGood same (holds v)
chosen_is into (Err f) holds s e = absurd (cc)

or_is : (p q : Option Slots) → ((s : Slots) → p ≡ Some s → AreGood s) → ((s : Slots) → q ≡ Some s → AreGood s) → (s : Slots) → or_else p q ≡ Some s → AreGood s
or_is (Some x) q first second s e = first s e
or_is None q first second s e = second s e

none_good : (s : Slots) → None ≡ Some s → AreGood s
none_good s e = absurd (cc)

time_good : (slots : Slots) (word : List Word) → AreGood slots → (s : Slots) → take_time slots word ≡ Some s → AreGood s
unfolding take_time
time_good slots word good s e =
    if_some AreGood (is_some slots.duration) _ _
    (λ x f. if_some AreGood (is_some slots.delay) None _ none_good
    (λ y g. taken_is _ _ (time_of true word)
    (λ v h. record { duration = good.duration; easing = good.easing; delay = time_is true word v h; count = good.count })
    (record { duration = good.duration; easing = good.easing; delay = record { at_least = omega (arith, ints); at_most = omega (arith, ints) }; count = good.count }) y g)
    x f)
    (λ x f. taken_is _ _ (duration_of word)
    (λ v h. record { duration = duration_is word v h; easing = good.easing; delay = good.delay; count = good.count })
    (record { duration = omega arith; easing = good.easing; delay = good.delay; count = good.count }) x f)
    s e

easing_good : (slots : Slots) (word : List Word) → AreGood slots → (s : Slots) → take_easing slots word ≡ Some s → AreGood s
unfolding take_easing
easing_good slots word good s e =
    if_some AreGood (is_some slots.easing) None _ none_good
    (λ x f. taken_is _ _ (easing_of word)
    (λ v h. record { duration = good.duration; easing = easing_is word v h; delay = good.delay; count = good.count })
    (record { duration = good.duration; easing = tt; delay = good.delay; count = good.count }) x f)
    s e

count_good : (slots : Slots) (word : List Word) → AreGood slots → (s : Slots) → take_count slots word ≡ Some s → AreGood s
unfolding take_count
count_good slots word good s e =
    if_some AreGood (is_some slots.count) None _ none_good
    (λ x f. taken_is _ _ (count_of word)
    (λ v h. record { duration = good.duration; easing = good.easing; delay = good.delay; count = count_is word v h })
    (record { duration = good.duration; easing = good.easing; delay = good.delay; count = tt }) x f)
    s e

keyword_good : (slots : Slots) (word : List Word) → AreGood slots → (s : Slots) → take_keyword slots word ≡ Some s → AreGood s
unfolding take_keyword take_direction take_fill take_play take_name
keyword_good slots word good s e =
    or_is (take_easing slots word) _ (easing_good slots word good) (λ x f.
    or_is (take_count slots word) _ (count_good slots word good) (λ x f.
    or_is (take_direction slots word) _ (λ y g. if_some AreGood (is_some slots.direction) None _ none_good (λ z h. chosen_is _ (keyword_of direction_words word) (λ v. same) z h) y g) (λ x f.
    or_is (take_fill slots word) _ (λ y g. if_some AreGood (is_some slots.fill) None _ none_good (λ z h. chosen_is _ (keyword_of fill_words word) (λ v. same) z h) y g) (λ x f.
    or_is (take_play slots word) _ (λ y g. if_some AreGood (is_some slots.paused) None _ none_good (λ z h. chosen_is _ (keyword_of play_words word) (λ v. same) z h) y g)
    (λ y g. if_some AreGood (is_some slots.name) None _ none_good (λ z h. chosen_is _ (name_of word) (λ v. same) z h) y g)
    x f) x f) x f) x f) s e where
      same : {direction : _} {fill : _} {paused : _} {name : _} {over : _} → AreGood (record { duration = slots.duration; delay = slots.delay; easing = slots.easing; count = slots.count; direction = direction; fill = fill; paused = paused; name = name; over = over })
      same = record { duration = good.duration; easing = good.easing; delay = good.delay; count = good.count }

word_good : (slots : Slots) (word : List Word) → AreGood slots → (s : Slots) → take_word slots word ≡ Some s → AreGood s
unfolding take_word
word_good slots word good s e =
    if_some AreGood (is_value (time_of true word)) _ _ (time_good slots word good) (keyword_good slots word good) s e

all_good : (words : List (List Word)) (slots : Slots) → AreGood slots → (s : Slots) → take_all slots words ≡ Some s → AreGood s
all_good [] slots good s e = let same : slots ≡ s = cc in subst AreGood same good
all_good (word ∷ words) slots good s e = go (take_word slots word) (word_good slots word good) (λ next next_good. all_good words next next_good s) e where
  go : (o : Option Slots) → ((x : Slots) → o ≡ Some x → AreGood x) → ((next : Slots) → AreGood next → take_all next words ≡ Some s → AreGood s)
      → option_and_then (λ next. take_all next words) o ≡ Some s → AreGood s
  go (Some next) holds later f = later next (holds next refl) f
  go None holds later f = absurd (cc)

or_initial : {A : Type 0} (P : A → Type 0) (o : Option A) (d : A) → IfSome o P → P d → P (unwrap_or o d)
or_initial P (Some x) d held initial = held
or_initial P None d held initial = initial

initial_of : Slots → Shorthand
initial_of slots = record {
  name = unwrap_or slots.name None;
  duration = unwrap_or slots.duration 0;
  easing = unwrap_or slots.easing (Cubic 250 (pos 100) 250 (pos 1000));
  delay = unwrap_or slots.delay (pos 0);
  count = unwrap_or slots.count (Times 1000);
  direction = unwrap_or slots.direction Normal;
  fill = unwrap_or slots.fill Absent;
  paused = unwrap_or slots.paused false;
}

initial_is : (slots : Slots) → AreGood slots → IsItem (initial_of slots)
unfolding initial_of
initial_is slots good = record {
  duration = or_initial (λ d. d ≤ 100000) slots.duration 0 good.duration (omega arith);
  easing = or_initial IsEasing slots.easing (Cubic 250 (pos 100) 250 (pos 1000)) good.easing (small_curve 250 100 250 1000 (omega arith) (omega arith) (omega arith) (omega arith));
  delay = or_initial IsTime slots.delay (pos 0) good.delay (record { at_least = omega (arith, ints); at_most = omega (arith, ints) });
  count = or_initial IsCount slots.count (Times 1000) good.count (omega arith);
}

settled_is : (slots : Slots) → AreGood slots → (x : Shorthand) → settled slots ≡ Ok x → IsItem x
unfolding settled initial_of
settled_is slots good x e =
    if_ok IsItem slots.over (Err OverLimit) (Ok (initial_of slots)) (λ y over bad. absurd (cc))
    (λ y few same. let is : initial_of slots ≡ y = cc in subst IsItem is (initial_is slots good)) x e

pub item_is : (words : List Word) (x : Shorthand) → item_of words ≡ Ok x → IsItem x
unfolding item_of
item_is [] x e = absurd (cc)
item_is (word ∷ rest) x e =
    bad_ok IsItem (take_all free (groups false (word ∷ rest))) settled (λ s is y f. settled_is s (all_good (groups false (word ∷ rest)) free none_taken s is) y f) x e
