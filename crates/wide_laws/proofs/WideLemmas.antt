-- What the exact kind knows is exact, and what the wide kind knows holds it.
use Rattle.std.proofs.Common.{◌≡◌, ◌↔◌, ℕ, zero, suc, ◌+◌, ◌*◌, ◌^◌, ℤ, pos, negsuc, neg_ℤ, ◌+ℤ◌, ◌-ℤ◌, ◌*ℤ◌, ◌≤ℤ◌, ◌<ℤ◌, Bool, true, false, Option, Some, None, nat_abs, if◌then◌else◌, arith, refl, ap}
use Rattle.std.proofs.lemmas.Int.{ints, by_lt_z}
use borrow.Author.Differences.{up, down, product_is, sum_is_lem}
use Rattle.page_model.specs.declared.colour.Rgba.{Rgba}
use Rattle.page_model.specs.declared.easing.Easing.{Easing}
use Rattle.page_model.specs.declared.easing.Easing.TheVariants.{Linear, Steps, Cubic}
use Rattle.page_model.specs.declared.property.Prop.TheVariants.{Background, Opacity, Visibility, Left, Top, Width, Height}
use Rattle.page_model.specs.declared.property.Value.{Value}
use Rattle.page_model.specs.Curve.{CurveReaches, Reaches, curve_height}
use Rattle.page_model.specs.Enclosure.{AllGone, AllReach, AllReachInside, AreLevels, IsHiddenSurely, IsLoose, IsLooseChannel, IsLooseChannelOn, IsLooseOn, IsShownSurely, IsSurelyShownOn, IsSurelyShownWith, Kind, Loose, SomeGone, SomeReach, SomeReachInside, Sureness, any_level, exact, is_inner, maybe, one_value, surely, surely_not, wide}
use Rattle.page_model.specs.Fraction.{Fraction, zero_of_one}
use Rattle.page_model.specs.LayerAt.{Course, IsChannelOn, IsShownOn, IsShownWith, IsValueOn, alpha_of, blue_of, course_of, cover_of, green_of, length_of, moving, red_of, still, visible_of}
use Rattle.page_model.specs.Slot.{IsChannelValue, IsGone, IsGreatestIn, IsGreatestLevel, IsHiddenExactlyWhere, IsShownValue, IsSlotValue, RoundsTo, RoundsToLevel, Shade, Slot, alpha, cover, due, extent, fading, gain, position, twice_the_way, twice_to_cover}
use Rattle.wide_laws.specs.LooseLaws.{ExactKindIsExact, Holds, WideHoldsExact, sure_of}
use Rattle.wide_laws.proofs.LooseLemmas.{AllLevel, AllRound, SomeLevel, SomeRound, SomeRound-antitone}
use Rattle.state_laws.proofs.RunLemmas.{channel-at_least, channel-at_most}
use Rattle.state_laws.proofs.UniqueLemmas.{IsAntitone, RoundsTo-antitone, level-mono}

-- by the exact kind all and some values are the one
exact-all : (easing : Easing) (at : Fraction) (a b : ℤ) → AllReach exact easing at a b ↔ Reaches easing at a b
exact-all Linear at a b = (λ h. h, λ h. h)
exact-all (Steps count jump) at a b = (λ h. h, λ h. h)
exact-all (Cubic x1 y1 x2 y2) at a b = inside (is_inner at) x1 y1 x2 y2 at a b
  where
    inside :
        (inner : Bool) (x1 : ℕ) (y1 : ℤ) (x2 : ℕ) (y2 : ℤ) (at : Fraction) (a b : ℤ)
        → AllReachInside (if inner then exact else exact) x1 y1 x2 y2 at a b ↔ Reaches (Cubic x1 y1 x2 y2) at a b
    inside true x1 y1 x2 y2 at a b = (λ h. h, λ h. h)
    inside false x1 y1 x2 y2 at a b = (λ h. h, λ h. h)

exact-some : (easing : Easing) (at : Fraction) (a b : ℤ) → SomeReach exact easing at a b ↔ Reaches easing at a b
exact-some Linear at a b = (λ h. h, λ h. h)
exact-some (Steps count jump) at a b = (λ h. h, λ h. h)
exact-some (Cubic x1 y1 x2 y2) at a b = inside (is_inner at) x1 y1 x2 y2 at a b
  where
    inside :
        (inner : Bool) (x1 : ℕ) (y1 : ℤ) (x2 : ℕ) (y2 : ℤ) (at : Fraction) (a b : ℤ)
        → SomeReachInside (if inner then exact else exact) x1 y1 x2 y2 at a b ↔ Reaches (Cubic x1 y1 x2 y2) at a b
    inside true x1 y1 x2 y2 at a b = (λ h. h, λ h. h)
    inside false x1 y1 x2 y2 at a b = (λ h. h, λ h. h)

-- the greatest number of one fact is that of another that holds alike
pub greatest-same : (slot : Slot) (P Q : ℤ → Type 0) (v : ℤ) → ((w : ℤ) → P w ↔ Q w) → IsGreatestIn slot Q v → IsGreatestIn slot P v
greatest-same slot P Q v same good = record {
  at_least = good.at_least;
  at_most = good.at_most;
  reached = λ above. (same v).1 (good.reached above);
  greatest = λ below holds. good.greatest below ((same (v +ℤ pos 1)).0 holds);
}

exact-loose : (slot : Slot) (easing : Easing) (at : Fraction) (from to v : ℤ) → IsSlotValue slot easing at from to v → IsLoose exact slot easing at from to (one_value v)
exact-loose slot easing at from to v good = record {
  least = greatest-same slot (AllRound exact slot easing at from to) (RoundsTo slot easing at from to) v
      (λ w. exact-all easing at (twice_the_way from to) (twice_to_cover slot from w)) good;
  greatest = greatest-same slot (SomeRound exact slot easing at from to) (RoundsTo slot easing at from to) v
      (λ w. exact-some easing at (twice_the_way from to) (twice_to_cover slot from w)) good;
}

exact-loose_on : (slot : Slot) (part : Value → ℤ) (course : Course) (v : ℤ) → IsValueOn slot part course v → IsLooseOn exact slot part course (one_value v)
exact-loose_on slot part (still x) v good = exact-loose slot Linear zero_of_one (part x) (part x) v good
exact-loose_on slot part (moving i) v good = exact-loose slot i.easing i.distance (part i.from) (part i.to) v good

-- of a channel too
level-same : (Reaches Holds : ℤ → Type 0) (v : ℤ) → ((w : ℤ) → Reaches w ↔ Holds w) → IsGreatestLevel Holds v → IsGreatestLevel Reaches v
level-same Reaches Holds v same good = record {
  at_least = good.at_least;
  at_most = good.at_most;
  reached = λ some. (same v).1 (good.reached some);
  greatest = λ w above most reaches. good.greatest w above most ((same w).0 reaches);
}

exact-loose_channel :
    (easing : Easing) (at : Fraction) (from to : Shade) (v : ℤ) → IsChannelValue easing at from to v
    → IsLooseChannel exact easing at from to (one_value v)
exact-loose_channel easing at from to v good = record {
  gone = λ all. ap one_value (good.gone ((exact-all easing at (fading from to) (pos from.alpha)).0 all));
  mixed = λ some left. absurd (left ((exact-all easing at (fading from to) (pos from.alpha)).1 ((exact-some easing at (fading from to) (pos from.alpha)).0 some)));
  left = λ left.
      let level = good.left (λ gone. left ((exact-some easing at (fading from to) (pos from.alpha)).1 gone)) in record {
        least = level-same (AllLevel exact easing at from to) (RoundsToLevel easing at from to) v
            (λ w. exact-all easing at (gain from to w) (due from w)) level;
        greatest = level-same (SomeLevel exact easing at from to) (RoundsToLevel easing at from to) v
            (λ w. exact-some easing at (gain from to w) (due from w)) level;
      };
}

exact-loose_channel_on : (part : Value → Shade) (course : Course) (v : ℤ) → IsChannelOn part course v → IsLooseChannelOn exact part course (one_value v)
exact-loose_channel_on part (still x) v good = ap one_value good
exact-loose_channel_on part (moving i) v good = exact-loose_channel i.easing i.distance (part i.from) (part i.to) v good

exact-hidden : (Each Any Hides : Type 0) (shown : Bool) → (Each ↔ Hides) → (Any ↔ Hides) → IsHiddenExactlyWhere Hides shown → IsHiddenSurely Each Any (sure_of shown)
exact-hidden Each Any Hides true all some good = λ any. good.visible refl (some.0 any)
exact-hidden Each Any Hides false all some good = all.1 (good.hidden refl)

exact-shown : (easing : Easing) (at : Fraction) (from to shown : Bool) → IsShownValue easing at from to shown → IsShownSurely exact easing at from to (sure_of shown)
exact-shown easing at true true shown good = ap sure_of good
exact-shown easing at true false shown good =
    exact-hidden (AllReach exact easing at (pos 1) (pos 1)) (SomeReach exact easing at (pos 1) (pos 1)) (Reaches easing at (pos 1) (pos 1)) shown
    (exact-all easing at (pos 1) (pos 1)) (exact-some easing at (pos 1) (pos 1)) good
exact-shown easing at false true shown good =
    exact-hidden (AllReach exact easing at (negsuc 0) (pos 0)) (SomeReach exact easing at (negsuc 0) (pos 0)) (Reaches easing at (negsuc 0) (pos 0)) shown
    (exact-all easing at (negsuc 0) (pos 0)) (exact-some easing at (negsuc 0) (pos 0)) good
exact-shown easing at false false shown good = ap sure_of good

still-shown : (kind : Kind) (v shown : Bool) → shown ≡ v → IsShownSurely kind Linear zero_of_one v v (sure_of shown)
still-shown kind true shown e = ap sure_of e
still-shown kind false shown e = ap sure_of e

exact-shown_on : (course : Course) (shown : Bool) → IsShownOn course shown → IsSurelyShownOn exact course (sure_of shown)
exact-shown_on (still x) shown good = still-shown exact (visible_of x) shown good
exact-shown_on (moving i) shown good = exact-shown i.easing i.distance (visible_of i.from) (visible_of i.to) shown good

exact-shown_with : (colour : Option Rgba) (course : Course) (shown : Bool) → IsShownWith colour course shown → IsSurelyShownWith exact colour course (sure_of shown)
exact-shown_with None course shown good = ap sure_of good
exact-shown_with (Some c) course shown good = exact-shown_on course shown good

pub exact-exact : ExactKindIsExact
exact-exact scene setup frame layer state good = record {
  is_red = exact-loose_channel_on red_of (course_of scene setup frame layer Background) (pos state.red) good.is_red;
  is_green = exact-loose_channel_on green_of (course_of scene setup frame layer Background) (pos state.green) good.is_green;
  is_blue = exact-loose_channel_on blue_of (course_of scene setup frame layer Background) (pos state.blue) good.is_blue;
  is_cover = exact-loose_on cover cover_of (course_of scene setup frame layer Background) (pos state.cover) good.is_cover;
  is_alpha = exact-loose_on alpha alpha_of (course_of scene setup frame layer Opacity) (pos state.alpha) good.is_alpha;
  is_shown = exact-shown_with layer.colour (course_of scene setup frame layer Visibility) state.shown good.is_shown;
  is_left = exact-loose_on position length_of (course_of scene setup frame layer Left) state.left good.is_left;
  is_top = exact-loose_on position length_of (course_of scene setup frame layer Top) state.top good.is_top;
  is_width = exact-loose_on extent length_of (course_of scene setup frame layer Width) state.width good.is_width;
  is_height = exact-loose_on extent length_of (course_of scene setup frame layer Height) state.height good.is_height;
}

-- products of signed numbers
pub times-assoc : (k : ℕ) (a h : ℤ) → (pos k *ℤ a) *ℤ h ≡ pos k *ℤ (a *ℤ h)
times-assoc k a h =
    let e = ap (λ (n : ℕ). n * up h) (product_is (pos k) a).0 in
    let f = ap (λ (n : ℕ). n * down h) (product_is (pos k) a).0 in
    let g = ap (λ (n : ℕ). n * up h) (product_is (pos k) a).1 in
    let j = ap (λ (n : ℕ). n * down h) (product_is (pos k) a).1 in
    let p = ap (λ (n : ℕ). k * n) (product_is a h).0 in
    let q = ap (λ (n : ℕ). k * n) (product_is a h).1 in
    omega (arith, ints)

plus-times : (u : ℤ) (t c : ℕ) → (u +ℤ pos t) *ℤ pos c ≡ u *ℤ pos c +ℤ pos (t * c)
plus-times u t c = let e = ap (λ (n : ℕ). n * c) (sum_is_lem u (pos t)) in omega (arith, ints)

minus-times : (u : ℤ) (t c : ℕ) → (u -ℤ pos t) *ℤ pos c ≡ u *ℤ pos c -ℤ pos (t * c)
minus-times u t c =
    let d : up (u -ℤ pos t) + down u + t ≡ down (u -ℤ pos t) + up u = omega (arith, ints) in
    let e = ap (λ (n : ℕ). n * c) d in omega (arith, ints)

pub abs-times : (k : ℕ) (a : ℤ) → nat_abs (pos k *ℤ a) ≡ k * nat_abs a
abs-times k (pos n) = refl
abs-times k (negsuc n) = of_negative (k * suc n)
  where
    of_negative : (m : ℕ) → nat_abs (neg_ℤ (pos m)) ≡ m
    of_negative zero = refl
    of_negative (suc m) = refl

-- 2^16 times as much is reached, and a number more: so it is reached
down-from_wide :
    (b p : ℤ) (t s c : ℕ) → (pos (2 ^ 16) *ℤ (b *ℤ pos c) +ℤ pos (t * c)) ≤ℤ (pos (2 ^ 16) *ℤ p +ℤ pos (2 ^ 16 * s))
    → (b *ℤ pos c) ≤ℤ (p +ℤ pos s)
down-from_wide b p t s c h = omega (arith, ints)

up-to_wide :
    (b p : ℤ) (t s c : ℕ) → (b *ℤ pos c) ≤ℤ (p +ℤ pos s)
    → (pos (2 ^ 16) *ℤ (b *ℤ pos c) -ℤ pos (t * c)) ≤ℤ (pos (2 ^ 16) *ℤ p +ℤ pos (2 ^ 16 * s))
up-to_wide b p t s c h = omega (arith, ints)

slack-times : (a m : ℕ) → 24000 * (2 ^ 16 * a) * m ≡ 2 ^ 16 * (24000 * a * m)
slack-times a m = omega arith

wide-reaches :
    (x1 : ℕ) (y1 : ℤ) (x2 : ℕ) (y2 : ℤ) (at : Fraction) (a b : ℤ)
    → CurveReaches x1 y1 x2 y2 at (pos (2 ^ 16) *ℤ a) (pos (2 ^ 16) *ℤ b +ℤ pos (nat_abs a)) → CurveReaches x1 y1 x2 y2 at a b
wide-reaches x1 y1 x2 y2 at a b reached e =
    let m : ℕ = 2 ^ e in
    let c : ℕ = 1000 * (m * m * m) in
    let h : ℤ = curve_height x1 y1 x2 y2 at m in
    let given = rw (plus-times (pos (2 ^ 16) *ℤ b) (nat_abs a) c, times-assoc (2 ^ 16) b (pos c), times-assoc (2 ^ 16) a h, abs-times (2 ^ 16) a, slack-times (nat_abs a) (m * m)) at (reached e) in
    down-from_wide b (a *ℤ h) (nat_abs a) (24000 * nat_abs a * (m * m)) c given

reaches-wide :
    (x1 : ℕ) (y1 : ℤ) (x2 : ℕ) (y2 : ℤ) (at : Fraction) (a b : ℤ) → CurveReaches x1 y1 x2 y2 at a b
    → CurveReaches x1 y1 x2 y2 at (pos (2 ^ 16) *ℤ a) (pos (2 ^ 16) *ℤ b -ℤ pos (nat_abs a))
reaches-wide x1 y1 x2 y2 at a b reached e =
    let m : ℕ = 2 ^ e in
    let c : ℕ = 1000 * (m * m * m) in
    let h : ℤ = curve_height x1 y1 x2 y2 at m in
    rw (minus-times (pos (2 ^ 16) *ℤ b) (nat_abs a) c, times-assoc (2 ^ 16) b (pos c), times-assoc (2 ^ 16) a h, abs-times (2 ^ 16) a, slack-times (nat_abs a) (m * m))
    (up-to_wide b (a *ℤ h) (nat_abs a) (24000 * nat_abs a * (m * m)) c (reached e))

-- so what all values of the wide kind reach is reached, and what is reached some of them reach
wide-all : (easing : Easing) (at : Fraction) (a b : ℤ) → AllReach wide easing at a b → Reaches easing at a b
wide-all Linear at a b reached = reached
wide-all (Steps count jump) at a b reached = reached
wide-all (Cubic x1 y1 x2 y2) at a b reached = inside (is_inner at) x1 y1 x2 y2 at a b reached
  where
    inside :
        (inner : Bool) (x1 : ℕ) (y1 : ℤ) (x2 : ℕ) (y2 : ℤ) (at : Fraction) (a b : ℤ)
        → AllReachInside (if inner then wide else exact) x1 y1 x2 y2 at a b → CurveReaches x1 y1 x2 y2 at a b
    inside true x1 y1 x2 y2 at a b reached = wide-reaches x1 y1 x2 y2 at a b reached
    inside false x1 y1 x2 y2 at a b reached = reached

wide-some : (easing : Easing) (at : Fraction) (a b : ℤ) → Reaches easing at a b → SomeReach wide easing at a b
wide-some Linear at a b reached = reached
wide-some (Steps count jump) at a b reached = reached
wide-some (Cubic x1 y1 x2 y2) at a b reached = inside (is_inner at) x1 y1 x2 y2 at a b reached
  where
    inside :
        (inner : Bool) (x1 : ℕ) (y1 : ℤ) (x2 : ℕ) (y2 : ℤ) (at : Fraction) (a b : ℤ) → CurveReaches x1 y1 x2 y2 at a b
        → SomeReachInside (if inner then wide else exact) x1 y1 x2 y2 at a b
    inside true x1 y1 x2 y2 at a b reached = reaches-wide x1 y1 x2 y2 at a b reached
    inside false x1 y1 x2 y2 at a b reached = reached

-- the greatest number of a fact isn't above that of one which it implies
pub greatest-mono :
    (slot : Slot) (P Q : ℤ → Type 0) (v w : ℤ) → IsAntitone Q → ((u : ℤ) → P u → Q u) → IsGreatestIn slot P v → IsGreatestIn slot Q w → v ≤ℤ w
greatest-mono slot P Q v w antitone implied first second =
    by_lt_z w v (λ above. absurd (second.greatest (inside w v slot.greatest above first.at_most)
    (antitone (w +ℤ pos 1) v (next w v above) (implied v (first.reached (inside' slot.least w v second.at_least above))))))
    (λ below. below)
  where
    inside : (a b c : ℤ) → a <ℤ b → b ≤ℤ c → a <ℤ c
    inside a b c h k = omega (arith, ints)

    inside' : (a b c : ℤ) → a ≤ℤ b → b <ℤ c → a <ℤ c
    inside' a b c h k = omega (arith, ints)

    next : (a b : ℤ) → a <ℤ b → (a +ℤ pos 1) ≤ℤ b
    next a b h = omega (arith, ints)

wide-loose :
    (slot : Slot) (easing : Easing) (at : Fraction) (from to v : ℤ) (loose : Loose) → IsSlotValue slot easing at from to v
    → IsLoose wide slot easing at from to loose → Holds loose v
wide-loose slot easing at from to v loose good known = record {
  least = greatest-mono slot (AllRound wide slot easing at from to) (RoundsTo slot easing at from to) loose.lo v
      (RoundsTo-antitone slot easing at from to) (λ u. wide-all easing at (twice_the_way from to) (twice_to_cover slot from u)) known.least good;
  greatest = greatest-mono slot (RoundsTo slot easing at from to) (SomeRound wide slot easing at from to) v loose.hi
      (SomeRound-antitone wide slot easing at from to) (λ u. wide-some easing at (twice_the_way from to) (twice_to_cover slot from u)) good known.greatest;
}

wide-loose_on :
    (slot : Slot) (part : Value → ℤ) (course : Course) (v : ℤ) (loose : Loose) → IsValueOn slot part course v
    → IsLooseOn wide slot part course loose → Holds loose v
wide-loose_on slot part (still x) v loose good known = wide-loose slot Linear zero_of_one (part x) (part x) v loose good known
wide-loose_on slot part (moving i) v loose good known = wide-loose slot i.easing i.distance (part i.from) (part i.to) v loose good known

-- it is impossible that a loose channel doesn't hold the exact one, and so it does
wide-channel :
    (easing : Easing) (at : Fraction) (from to : Shade) (v : ℤ) (loose : Loose) → IsChannelValue easing at from to v
    → IsLooseChannel wide easing at from to loose → (Holds loose v → ⊥) → ⊥
wide-channel easing at from to v loose good known apart =
    let some_left : AllGone wide easing at from to → ⊥ = λ all.
    apart (holds-one loose v (known.gone all) (good.gone (wide-all easing at (fading from to) (pos from.alpha) all))) in
    let all_left : SomeGone wide easing at from to → ⊥ = λ some.
    apart (holds-any loose v (known.mixed some some_left) (channel-at_least easing at from to v good) (channel-at_most easing at from to v good)) in
    let level = good.left (λ gone. all_left (wide-some easing at (fading from to) (pos from.alpha) gone)) in
    let ends = known.left all_left in
    apart (record {
      least = level-mono (AllLevel wide easing at from to) (RoundsToLevel easing at from to) loose.lo v
          (λ u. wide-all easing at (gain from to u) (due from u)) ends.least level;
      greatest = level-mono (RoundsToLevel easing at from to) (SomeLevel wide easing at from to) v loose.hi
          (λ u. wide-some easing at (gain from to u) (due from u)) level ends.greatest;
    })
  where
    holds-one : (loose : Loose) (v : ℤ) → loose ≡ one_value (pos 0) → v ≡ pos 0 → Holds loose v
    holds-one loose v e f = rw (e, f) (record { least = omega (arith, ints); greatest = omega (arith, ints) })

    holds-any : (loose : Loose) (v : ℤ) → loose ≡ any_level → pos 0 ≤ℤ v → v ≤ℤ pos 255 → Holds loose v
    holds-any loose v e low high = rw e (record { least = low; greatest = high })

wide-loose_channel :
    (easing : Easing) (at : Fraction) (from to : Shade) (v : ℤ) (loose : Loose) → IsChannelValue easing at from to v
    → IsLooseChannel wide easing at from to loose → Holds loose v
wide-loose_channel easing at from to v loose good known = record {
  least = by_lt_z v loose.lo (λ above. absurd (wide-channel easing at from to v loose good known (λ h. let low = h.least in omega (arith, ints)))) (λ within. within);
  greatest = by_lt_z loose.hi v (λ above. absurd (wide-channel easing at from to v loose good known (λ h. let high = h.greatest in omega (arith, ints)))) (λ within. within);
}

wide-loose_channel_on :
    (part : Value → Shade) (course : Course) (v : ℤ) (loose : Loose) → IsChannelOn part course v → IsLooseChannelOn wide part course loose
    → Holds loose v
wide-loose_channel_on part (still x) v loose good known = rw (known, good) (record { least = omega (arith, ints); greatest = omega (arith, ints) })
wide-loose_channel_on part (moving i) v loose good known = wide-loose_channel i.easing i.distance (part i.from) (part i.to) v loose good known

-- what a sureness says of an answer
pub record Tells (sureness : Sureness) (shown : Bool) : Type 0 where
  pub visible : sureness ≡ surely → shown ≡ true
  pub hidden : sureness ≡ surely_not → shown ≡ false

pub tells-surely : (sureness : Sureness) (shown : Bool) → sureness ≡ surely → shown ≡ true → Tells sureness shown
tells-surely sureness shown e f = record { visible = λ h. f; hidden = λ h. absurd (cc) }

pub tells-surely_not : (sureness : Sureness) (shown : Bool) → sureness ≡ surely_not → shown ≡ false → Tells sureness shown
tells-surely_not sureness shown e f = record { visible = λ h. absurd (cc); hidden = λ h. f }

wide-hidden :
    (Each Any Hides : Type 0) (sureness : Sureness) (shown : Bool) → (Each → Hides) → (Hides → Any) → IsHiddenExactlyWhere Hides shown
    → IsHiddenSurely Each Any sureness → Tells sureness shown
wide-hidden Each Any Hides surely true all some good known = record { visible = λ h. refl; hidden = λ h. absurd (cc) }
wide-hidden Each Any Hides surely false all some good known = absurd (known (some (good.hidden refl)))
wide-hidden Each Any Hides surely_not true all some good known = absurd (good.visible refl (all known))
wide-hidden Each Any Hides surely_not false all some good known = record { visible = λ h. absurd (cc); hidden = λ h. refl }
wide-hidden Each Any Hides maybe shown all some good known = record { visible = λ h. absurd (cc); hidden = λ h. absurd (cc) }

wide-shown :
    (easing : Easing) (at : Fraction) (from to shown : Bool) (sureness : Sureness) → IsShownValue easing at from to shown
    → IsShownSurely wide easing at from to sureness → Tells sureness shown
wide-shown easing at true true shown sureness good known = tells-surely sureness shown known good
wide-shown easing at true false shown sureness good known =
    wide-hidden (AllReach wide easing at (pos 1) (pos 1)) (SomeReach wide easing at (pos 1) (pos 1)) (Reaches easing at (pos 1) (pos 1))
    sureness shown (wide-all easing at (pos 1) (pos 1)) (wide-some easing at (pos 1) (pos 1)) good known
wide-shown easing at false true shown sureness good known =
    wide-hidden (AllReach wide easing at (negsuc 0) (pos 0)) (SomeReach wide easing at (negsuc 0) (pos 0)) (Reaches easing at (negsuc 0) (pos 0))
    sureness shown (wide-all easing at (negsuc 0) (pos 0)) (wide-some easing at (negsuc 0) (pos 0)) good known
wide-shown easing at false false shown sureness good known = tells-surely_not sureness shown known good

wide-still : (v shown : Bool) (sureness : Sureness) → shown ≡ v → IsShownSurely wide Linear zero_of_one v v sureness → Tells sureness shown
wide-still true shown sureness e known = tells-surely sureness shown known e
wide-still false shown sureness e known = tells-surely_not sureness shown known e

wide-shown_with :
    (colour : Option Rgba) (course : Course) (shown : Bool) (sureness : Sureness) → IsShownWith colour course shown
    → IsSurelyShownWith wide colour course sureness → Tells sureness shown
wide-shown_with None course shown sureness good known = tells-surely_not sureness shown known good
wide-shown_with (Some c) (still x) shown sureness good known = wide-still (visible_of x) shown sureness good known
wide-shown_with (Some c) (moving i) shown sureness good known = wide-shown i.easing i.distance (visible_of i.from) (visible_of i.to) shown sureness good known

pub wide-holds : WideHoldsExact
wide-holds scene setup frame layer state loose good known =
    let tells = wide-shown_with layer.colour (course_of scene setup frame layer Visibility) state.shown loose.shown good.is_shown known.is_shown in record {
      red = wide-loose_channel_on red_of (course_of scene setup frame layer Background) (pos state.red) loose.red good.is_red known.is_red;
      green = wide-loose_channel_on green_of (course_of scene setup frame layer Background) (pos state.green) loose.green good.is_green known.is_green;
      blue = wide-loose_channel_on blue_of (course_of scene setup frame layer Background) (pos state.blue) loose.blue good.is_blue known.is_blue;
      cover = wide-loose_on cover cover_of (course_of scene setup frame layer Background) (pos state.cover) loose.cover good.is_cover known.is_cover;
      alpha = wide-loose_on alpha alpha_of (course_of scene setup frame layer Opacity) (pos state.alpha) loose.alpha good.is_alpha known.is_alpha;
      visible = tells.visible;
      hidden = tells.hidden;
      left = wide-loose_on position length_of (course_of scene setup frame layer Left) state.left loose.left good.is_left known.is_left;
      top = wide-loose_on position length_of (course_of scene setup frame layer Top) state.top loose.top good.is_top known.is_top;
      width = wide-loose_on extent length_of (course_of scene setup frame layer Width) state.width loose.width good.is_width known.is_width;
      height = wide-loose_on extent length_of (course_of scene setup frame layer Height) state.height loose.height good.is_height known.is_height;
    }
