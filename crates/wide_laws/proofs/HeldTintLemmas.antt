-- Blending lies between its ends, a box is painted where it surely is and not where it surely isn't, and so a tint holds the colour.
use Rattle.std.proofs.Common.{◌≡◌, ◌⊎◌, ℕ, suc, ◌+◌, ◌-◌, ◌*◌, ◌≤◌, min, max, ℤ, pos, negsuc, ◌+ℤ◌, ◌≤ℤ◌, ◌<ℤ◌, int_le, int_lt, Bool, true, false, ◌&&◌, List, [], ◌∷◌, All, fold, get_or, is_some, if◌then◌else◌, arith, refl, sym, ap, inl, inr, mul-le-mul, mul-le-mul_right}
use Rattle.std.proofs.lemmas.Bool.{and_from, and_left, and_right, cases_lt}
use Rattle.std.proofs.lemmas.Int.{ints}
use Rattle.std.proofs.lemmas.List.Elements.{All-contains_itself}
use Rattle.std.proofs.lemmas.Option.{slice_get_cases}
use Rattle.page_model.specs.declared.colour.Rgb.{Rgb}
use Rattle.page_model.specs.declared.colour.Tint.{Tint}
use Rattle.page_model.specs.declared.property.Value.{Value}
use Rattle.page_model.specs.Colour.{blended, body_colour, combined, covers, over, paint_box, spans}
use Rattle.page_model.specs.Enclosure.{IsLooseOn, Kind, Loose, LooseState, Sureness, maybe, surely, surely_not, wide}
use Rattle.page_model.specs.LayerAt.{Course, State, alpha_of, cover_of, moving, still}
use Rattle.page_model.specs.Progress.{above_zero}
use Rattle.page_model.specs.Red.{white}
use Rattle.page_model.specs.Slot.{Slot, alpha, cover}
use Rattle.page_model.specs.TintOf.{Span, blended_span, both, combined_span, covers_surely, full_alpha, greatest_of, least_of, painted_where, single, span_of, spans_surely, tint_box, tint_by, tint_ground, tint_hull, tint_over}
use Rattle.wide_laws.specs.LooseLaws.{Holds, HoldsState}
use Rattle.wide_laws.specs.HeldTintLaws.{IsHeld, IsInSpan, IsInTint, TintHoldsColour, WideTintHoldsColour}
use Rattle.wide_laws.proofs.PaintLemmas.{blend-grows, combined-small}
use Rattle.wide_laws.proofs.WideLemmas.{Tells, tells-surely, tells-surely_not, wide-holds}

-- with more alpha a blend goes towards its source
alpha-up : (s a q d : ℕ) → d ≤ s → a ≤ q → q ≤ 255 → blended s a d ≤ blended s q d
alpha-up s a q d above more within =
    let t : ℕ = s - d in
    let e : s ≡ d + t = omega arith in
    let f = ap (λ (n : ℕ). n * a) e in
    let g = ap (λ (n : ℕ). n * q) e in
    let u : a + (255 - a) ≡ 255 = omega arith in
    let v : q + (255 - q) ≡ 255 = omega arith in
    let i = ap (λ (n : ℕ). d * n) u in
    let j = ap (λ (n : ℕ). d * n) v in
    let k = mul-le-mul_right t more in
    omega arith

alpha-down : (s p a d : ℕ) → s ≤ d → p ≤ a → a ≤ 255 → blended s a d ≤ blended s p d
alpha-down s p a d above less within =
    let t : ℕ = d - s in
    let e : d ≡ s + t = omega arith in
    let f = ap (λ (n : ℕ). n * (255 - a)) e in
    let g = ap (λ (n : ℕ). n * (255 - p)) e in
    let u : a + (255 - a) ≡ 255 = omega arith in
    let v : p + (255 - p) ≡ 255 = omega arith in
    let i = ap (λ (n : ℕ). s * n) u in
    let j = ap (λ (n : ℕ). s * n) v in
    let order : 255 - a ≤ 255 - p = omega arith in
    let k = mul-le-mul_right t order in
    omega arith

-- the least and the greatest of eight
upper : (n a b c d e f g h : ℕ) → (n ≤ d) ⊎ (n ≤ h) → n ≤ max (greatest_of a b c d) (greatest_of e f g h)
upper n a b c d e f g h (inl below) = omega arith
upper n a b c d e f g h (inr below) = omega arith

lower : (n a b c d e f g h : ℕ) → (a ≤ n) ⊎ (e ≤ n) → min (least_of a b c d) (least_of e f g h) ≤ n
lower n a b c d e f g h (inl above) = omega arith
lower n a b c d e f g h (inr above) = omega arith

-- a blend of what lies in spans lies in the blended span
blend-top : (s a d shi alo ahi dhi : ℕ) → s ≤ shi → d ≤ dhi → alo ≤ a → a ≤ ahi → ahi ≤ 255 → (blended s a d ≤ blended shi alo dhi) ⊎ (blended s a d ≤ blended shi ahi dhi)
blend-top s a d shi alo ahi dhi hs hd low high within =
    elim (cases_lt d s) [
      | inl above ↦ inr (let p = alpha-up s a ahi d (omega arith) high within in let q = blend-grows s shi ahi d dhi hs hd in omega arith)
      | inr below ↦ inl (let p = alpha-down s alo a d below low (omega arith) in let q = blend-grows s shi alo d dhi hs hd in omega arith)
    ]

blend-bottom : (s a d slo alo ahi dlo : ℕ) → slo ≤ s → dlo ≤ d → alo ≤ a → a ≤ ahi → ahi ≤ 255 → (blended slo alo dlo ≤ blended s a d) ⊎ (blended slo ahi dlo ≤ blended s a d)
blend-bottom s a d slo alo ahi dlo hs hd low high within =
    elim (cases_lt d s) [
      | inl above ↦ inl (let p = alpha-up s alo a d (omega arith) low (omega arith) in let q = blend-grows slo s alo dlo d hs hd in omega arith)
      | inr below ↦ inr (let p = alpha-down s a ahi d below high within in let q = blend-grows slo s ahi dlo d hs hd in omega arith)
    ]

blend-in :
    (source alpha backdrop : Span) (s a d : ℕ) → IsInSpan source s → IsInSpan alpha a → IsInSpan backdrop d → alpha.hi ≤ 255
    → IsInSpan (blended_span source alpha backdrop) (blended s a d)
blend-in source alpha backdrop s a d hs ha hd within = record {
  least = lower (blended s a d)
      (blended source.lo alpha.lo backdrop.lo) (blended source.lo alpha.lo backdrop.hi) (blended source.hi alpha.lo backdrop.lo) (blended source.hi alpha.lo backdrop.hi)
      (blended source.lo alpha.hi backdrop.lo) (blended source.lo alpha.hi backdrop.hi) (blended source.hi alpha.hi backdrop.lo) (blended source.hi alpha.hi backdrop.hi)
      (blend-bottom s a d source.lo alpha.lo alpha.hi backdrop.lo hs.least hd.least ha.least ha.greatest within);
  greatest = upper (blended s a d)
      (blended source.lo alpha.lo backdrop.lo) (blended source.lo alpha.lo backdrop.hi) (blended source.hi alpha.lo backdrop.lo) (blended source.hi alpha.lo backdrop.hi)
      (blended source.lo alpha.hi backdrop.lo) (blended source.lo alpha.hi backdrop.hi) (blended source.hi alpha.hi backdrop.lo) (blended source.hi alpha.hi backdrop.hi)
      (blend-top s a d source.hi alpha.lo alpha.hi backdrop.hi hs.greatest hd.greatest ha.least ha.greatest within);
}

-- a loose channel as a span
span-in : (loose : Loose) (n : ℕ) → Holds loose (pos n) → IsInSpan (span_of loose) n
span-in loose n holds = record { least = low loose.lo n holds.least; greatest = high loose.hi n holds.greatest }
  where
    low : (z : ℤ) (n : ℕ) → z ≤ℤ pos n → above_zero z ≤ n
    low (pos m) n h = omega (arith, ints)
    low (negsuc m) n h = omega arith

    high : (z : ℤ) (n : ℕ) → pos n ≤ℤ z → n ≤ above_zero z
    high (pos m) n h = omega (arith, ints)
    high (negsuc m) n h = absurd (omega (arith, ints))

alpha-within : (z : ℤ) → z ≤ℤ pos 255 → above_zero z ≤ 255
alpha-within (pos m) h = omega (arith, ints)
alpha-within (negsuc m) h = omega arith

-- more cover or more alpha is more of both together
combined-grows : (c d a b : ℕ) → c ≤ d → a ≤ b → combined c a ≤ combined d b
combined-grows c d a b h k = let more = mul-le-mul h k in omega arith

combined-in :
    (cover alpha : Span) (c a : ℕ) → IsInSpan cover c → IsInSpan alpha a → IsInSpan (combined_span cover alpha) (combined c a)
combined-in cover alpha c a hc ha = record {
  least = combined-grows cover.lo c alpha.lo a hc.least ha.least;
  greatest = combined-grows c cover.hi a alpha.hi hc.greatest ha.greatest;
}

over-in :
    (loose : LooseState) (state : State) (alpha : Span) (a : ℕ) (tint : Tint) (c : Rgb) → IsHeld loose state → IsInSpan alpha a
    → alpha.hi ≤ 255 → IsInTint tint c → IsInTint (tint_over loose alpha tint) (over state a c)
over-in loose state alpha a tint c held of small inside =
    let both = combined-in (span_of loose.cover) alpha state.cover a (span-in loose.cover state.cover held.holds.cover) of in
    let within = combined-small (above_zero loose.cover.hi) alpha.hi (alpha-within loose.cover.hi held.cover) small in record {
      red = blend-in _ _ _ state.red (combined state.cover a) c.r (span-in loose.red state.red held.holds.red) both inside.red within;
      green = blend-in _ _ _ state.green (combined state.cover a) c.g (span-in loose.green state.green held.holds.green) both inside.green within;
      blue = blend-in _ _ _ state.blue (combined state.cover a) c.b (span-in loose.blue state.blue held.holds.blue) both inside.blue within;
    }

-- how surely both of two things are so
tells-both : (s t : Sureness) (x y : Bool) → Tells s x → Tells t y → Tells (both s t) (x && y)
tells-both surely t x y first second = record {
  visible = λ e. and_from x y (first.visible refl) (second.visible e);
  hidden = λ e. and_right x y (second.hidden e);
}
tells-both surely_not t x y first second = record {
  visible = λ e. absurd (cc);
  hidden = λ e. and_left x y (first.hidden refl);
}
tells-both maybe surely x y first second = record { visible = λ e. absurd (cc); hidden = λ e. absurd (cc) }
tells-both maybe surely_not x y first second = record { visible = λ e. absurd (cc); hidden = λ e. and_right x y (second.hidden refl) }
tells-both maybe maybe x y first second = record { visible = λ e. absurd (cc); hidden = λ e. absurd (cc) }

-- tests of signed numbers
le-yes : (a b : ℤ) → a ≤ℤ b → int_le a b ≡ true
le-yes a b h = let e : true ≡ int_le a b = omega (arith, ints) in sym e

le-no : (a b : ℤ) → b <ℤ a → int_le a b ≡ false
le-no a b h = let e : false ≡ int_le a b = omega (arith, ints) in sym e

lt-yes : (a b : ℤ) → a <ℤ b → int_lt a b ≡ true
lt-yes a b h = let e : true ≡ int_lt a b = omega (arith, ints) in sym e

lt-no : (a b : ℤ) → b ≤ℤ a → int_lt a b ≡ false
lt-no a b h = let e : false ≡ int_lt a b = omega (arith, ints) in sym e

by-tests :
    (a b c d x : Bool) → (a ≡ true → x ≡ false) → (b ≡ true → x ≡ false) → (c ≡ true → d ≡ true → x ≡ true)
    → Tells (if a then surely_not else (if b then surely_not else (if c then (if d then surely else maybe) else maybe))) x
by-tests true b c d x left right inside = tells-surely_not surely_not x refl (left refl)
by-tests false true c d x left right inside = tells-surely_not surely_not x refl (right refl)
by-tests false false true true x left right inside = tells-surely surely x refl (inside refl refl)
by-tests false false true false x left right inside = record { visible = λ e. absurd (cc); hidden = λ e. absurd (cc) }
by-tests false false false d x left right inside = record { visible = λ e. absurd (cc); hidden = λ e. absurd (cc) }

tells-spans : (from size : Loose) (v w : ℤ) (at : ℕ) → Holds from v → Holds size w → Tells (spans_surely from size at) (spans v w at)
tells-spans from size v w at hv hw =
    by-tests (int_lt (pos at) from.lo) (int_le (from.hi +ℤ size.hi) (pos at)) (int_le from.hi (pos at)) (int_lt (pos at) (from.lo +ℤ size.lo))
    (spans v w at)
    (λ e. and_left (int_le v (pos at)) (int_lt (pos at) (v +ℤ w)) (le-no v (pos at) (left from.lo v at e hv.least)))
    (λ e. and_right (int_le v (pos at)) (int_lt (pos at) (v +ℤ w)) (lt-no (pos at) (v +ℤ w) (right from.hi size.hi v w at e hv.greatest hw.greatest)))
    (λ e f. and_from (int_le v (pos at)) (int_lt (pos at) (v +ℤ w)) (le-yes v (pos at) (first from.hi v at e hv.greatest))
    (lt-yes (pos at) (v +ℤ w) (last from.lo size.lo v w at f hv.least hw.least)))
  where
    left : (lo v : ℤ) (at : ℕ) → int_lt (pos at) lo ≡ true → lo ≤ℤ v → pos at <ℤ v
    left lo v at e h = omega (arith, ints)

    right : (hi more v w : ℤ) (at : ℕ) → int_le (hi +ℤ more) (pos at) ≡ true → v ≤ℤ hi → w ≤ℤ more → (v +ℤ w) ≤ℤ pos at
    right hi more v w at e h k = omega (arith, ints)

    first : (hi v : ℤ) (at : ℕ) → int_le hi (pos at) ≡ true → v ≤ℤ hi → v ≤ℤ pos at
    first hi v at e h = omega (arith, ints)

    last : (lo less v w : ℤ) (at : ℕ) → int_lt (pos at) (lo +ℤ less) ≡ true → lo ≤ℤ v → less ≤ℤ w → pos at <ℤ (v +ℤ w)
    last lo less v w at e h k = omega (arith, ints)

tells-covers : (loose : LooseState) (state : State) (column row : ℕ) → HoldsState loose state → Tells (covers_surely loose column row) (covers state column row)
tells-covers loose state column row holds =
    tells-both (spans_surely loose.left loose.width column) (spans_surely loose.top loose.height row)
    (spans state.left state.width column) (spans state.top state.height row)
    (tells-spans loose.left loose.width state.left state.width column holds.left holds.width)
    (tells-spans loose.top loose.height state.top state.height row holds.top holds.height)

-- what is painted where it surely is, surely isn't or maybe is
hull-first : (a b : Tint) (c : Rgb) → IsInTint a c → IsInTint (tint_hull a b) c
hull-first a b c inside = record {
  red = record { least = let h = inside.red.least in omega arith; greatest = let h = inside.red.greatest in omega arith };
  green = record { least = let h = inside.green.least in omega arith; greatest = let h = inside.green.greatest in omega arith };
  blue = record { least = let h = inside.blue.least in omega arith; greatest = let h = inside.blue.greatest in omega arith };
}

hull-second : (a b : Tint) (c : Rgb) → IsInTint b c → IsInTint (tint_hull a b) c
hull-second a b c inside = record {
  red = record { least = let h = inside.red.least in omega arith; greatest = let h = inside.red.greatest in omega arith };
  green = record { least = let h = inside.green.least in omega arith; greatest = let h = inside.green.greatest in omega arith };
  blue = record { least = let h = inside.blue.least in omega arith; greatest = let h = inside.blue.greatest in omega arith };
}

where-in :
    (sure : Sureness) (test : Bool) (above backdrop : Tint) (a b : Rgb) → Tells sure test → IsInTint above a → IsInTint backdrop b
    → IsInTint (painted_where sure above backdrop) (if test then a else b)
where-in surely true above backdrop a b tells first second = first
where-in surely false above backdrop a b tells first second = absurd (let e = tells.visible refl in cc)
where-in surely_not true above backdrop a b tells first second = absurd (let e = tells.hidden refl in cc)
where-in surely_not false above backdrop a b tells first second = second
where-in maybe true above backdrop a b tells first second = hull-first above backdrop a first
where-in maybe false above backdrop a b tells first second = hull-second above backdrop b second

box-in :
    (loose : ℕ → LooseState) (states : ℕ → State) (column row : ℕ) (tint : Tint) (c : Rgb) (box : ℕ) → IsHeld (loose box) (states box)
    → IsInTint tint c → IsInTint (tint_box loose column row tint box) (paint_box states column row c box)
box-in loose states column row tint c box held inside =
    where-in (both (loose box).shown (covers_surely (loose box) column row)) ((states box).shown && covers (states box) column row)
    (tint_over (loose box) (span_of (loose box).alpha) tint) tint (over (states box) (states box).alpha c) c
    (tells-both (loose box).shown (covers_surely (loose box) column row) (states box).shown (covers (states box) column row)
    (record { visible = held.holds.visible; hidden = held.holds.hidden }) (tells-covers (loose box) (states box) column row held.holds))
    (over-in (loose box) (states box) (span_of (loose box).alpha) (states box).alpha tint c held
    (span-in (loose box).alpha (states box).alpha held.holds.alpha) (alpha-within (loose box).alpha.hi held.alpha) inside) inside

fold-in :
    (loose : ℕ → LooseState) (states : ℕ → State) (column row : ℕ) (tint : Tint) (c : Rgb) (order : List ℕ)
    → All (λ box. IsHeld (loose box) (states box)) order → IsInTint tint c
    → IsInTint (fold (tint_box loose column row) tint order) (fold (paint_box states column row) c order)
fold-in loose states column row tint c [] held inside = inside
fold-in loose states column row tint c (box ∷ rest) held inside =
    fold-in loose states column row (tint_box loose column row tint box) (paint_box states column row c box) rest
    (λ k d within. held (suc k) d (omega arith))
    (box-in loose states column row tint c box (held 0 box (omega arith)) inside)

single-in : (c : Rgb) → IsInTint (single c) c
single-in c = record {
  red = record { least = omega arith; greatest = omega arith };
  green = record { least = omega arith; greatest = omega arith };
  blue = record { least = omega arith; greatest = omega arith };
}

chosen-in : (test : Bool) (a b : Tint) (c d : Rgb) → IsInTint a c → IsInTint b d → IsInTint (if test then a else b) (if test then c else d)
chosen-in true a b c d first second = first
chosen-in false a b c d first second = second

pub tint-holds : TintHoldsColour
tint-holds scene loose states column row valid held =
    let body = held 0 (let some = valid.some_layer in omega arith) in
    fold-in loose states column row (tint_ground scene loose) _ scene.order
    (λ k d within. held (get_or scene.order k d) ((valid.order.boxes (get_or scene.order k d)).0 (All-contains_itself scene.order k d within)).1)
    (chosen-in (is_some (body_colour scene)) (tint_over (loose 0) full_alpha (single white)) (single white)
    (over (states 0) 255 white) white
    (over-in (loose 0) (states 0) full_alpha 255 (single white) white body (record { least = omega arith; greatest = omega arith })
    (omega arith) (single-in white)) (single-in white))

-- a loose value is in the range of its slot
loose-at_most : (kind : Kind) (slot : Slot) (part : Value → ℤ) (course : Course) (loose : Loose) → IsLooseOn kind slot part course loose → loose.hi ≤ℤ slot.greatest
loose-at_most kind slot part (still x) loose good = good.greatest.at_most
loose-at_most kind slot part (moving i) loose good = good.greatest.at_most

pub wide_tint-holds : WideTintHoldsColour
wide_tint-holds scene setup start loose run frame column row valid known exact low high =
    tint-holds scene (loose frame) (run frame) column row valid (λ number within.
    elim (slice_get_cases scene.layers number).1 [
      | inl there ↦
          let by_kind = known frame number there.0 low high there.2 in
          record {
            holds = wide-holds scene setup frame there.0 (run frame number) (loose frame number) (exact frame number there.0 low high there.2) by_kind;
            cover = loose-at_most wide cover cover_of _ (loose frame number).cover by_kind.is_cover;
            alpha = loose-at_most wide alpha alpha_of _ (loose frame number).alpha by_kind.is_alpha;
          }
      | inr past ↦ absurd (let far = past.0 in omega arith)
    ])
