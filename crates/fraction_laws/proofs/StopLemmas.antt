-- The stops of a keyframe set rise from 0% to 100%, so the last one that is reached and the next one are found by filters.
use Rattle.std.proofs.Common.{◌≡◌, ℕ, suc, ◌-◌, ◌*◌, ◌<◌, ◌≤◌, Bool, true, false, not, List, [], ◌∷◌, ◌++◌, All, IsSome, Option, Some, None, append_assoc, filter, get_or, length, nat_eq, nat_le, nat_lt, if◌then◌else◌, option_and_then, option_map, arith, refl, ap, subst, ap₂, sym, ◌∙◌, inl, inr, eq-eqb, lt-ltb, ltb-true, le-leb, leb-true, mul-le-mul_right, ne_eqb, ◌||◌}
use Rattle.std.specs.List.{cons_option}
use Rattle.std.proofs.lemmas.Bool.{and_from, and_parts, cases_Bool, cases_eq, not-true, or_left, or_parts, or_right}
use Rattle.std.proofs.lemmas.List.Elements.{All-append, All-cons, All-nil, filter-append, filter_passes}
use Rattle.std.proofs.lemmas.List.Folds.{list_any-append}
use Rattle.std.proofs.lemmas.Option.{slice_get_cases, slice_get-get_or}
use Rattle.page_model.specs.declared.easing.Easing.{Easing}
use Rattle.page_model.specs.declared.keyframe.Keyframe.{Keyframe}
use Rattle.page_model.specs.declared.keyframe.KeyframeSet.{KeyframeSet}
use Rattle.page_model.specs.declared.property.Prop.{Prop}
use Rattle.page_model.specs.declared.property.Value.{Value}
use Rattle.page_model.specs.Fraction.{Fraction}
use Rattle.page_model.specs.Keyframes.{Interval, IsInterval, Stop, added_at, first_of, has_stop_at, interval_between, interval_in, is_reached, last_of, stop_of, stops_of, value_in, whole}
use Rattle.page_model.specs.ValidScene.{IsKeyframe, IsSet, OffsetsRise}
use Rattle.fraction_laws.specs.IntervalLaws.{IntervalExists, IntervalIsComputed}
use Rattle.fraction_laws.proofs.FractionLemmas.{IsFound, interval-found}
use Rattle.fraction_laws.proofs.ListLemmas.{All-filter_map, All-slice_get, mapped_some}
use Rattle.fraction_laws.proofs.SplitLemmas.{Ascends, Ascends-append, Ascends-before, filter-all, filter-none, filter-split, filter_more, filter_some, front_of, last-append, rest_of, split_first, split_last}

abbrev offset_of : Stop → ℕ
offset_of stop = stop.offset

-- where a stop at an offset stands, a test that passes such stops passes some
passed-at :
    (offset : ℕ) (p : Stop → Bool) (stops : List Stop) → ((stop : Stop) → stop.offset ≡ offset → p stop ≡ true)
    → has_stop_at offset stops ≡ true → 0 < length (filter p stops)
passed-at offset p [] passes e = absurd (cc)
passed-at offset p (stop ∷ stops) passes e =
    elim (cases_eq stop.offset offset) [
      | inl same ↦ filter_some p stop stops (passes stop same)
      | inr apart ↦ filter_more p stop stops (passed-at offset p stops passes (rw (ne_eqb stop.offset offset apart) at e))
    ]

-- what stands under a test that is known
either : {P : Type 0} (b : Bool) → (b ≡ true → P) → (b ≡ false → P) → P
either b first second = elim (cases_Bool b) [ inl e ↦ first e | inr e ↦ second e ]

-- among the whole stops there is one at an offset that is added
added-there : (offset : ℕ) (own : Value) (stops : List Stop) → (has_stop_at offset stops || has_stop_at offset (added_at offset own stops)) ≡ true
added-there offset own stops = chosen offset own (has_stop_at offset stops)
  where
    chosen :
        (offset : ℕ) (own : Value) (b : Bool)
        → (b || has_stop_at offset (if b then [] else record { offset = offset; value = own; easing = None } ∷ [])) ≡ true
    chosen offset own true = refl
    chosen offset own false = or_left (nat_eq offset offset) false (eq-eqb offset offset refl)

second_of : (a b : Bool) → (a || b) ≡ true → a ≡ false → b ≡ true
second_of true b e f = absurd (cc)
second_of false b e f = e

has_stop-append : (offset : ℕ) (xs ys : List Stop) → has_stop_at offset (xs ++ ys) ≡ (has_stop_at offset xs || has_stop_at offset ys)
has_stop-append offset xs ys = list_any-append (λ (stop : Stop). nat_eq stop.offset offset) xs ys

stop_at-last : (own : Value) (stops : List Stop) → has_stop_at 10000 (whole own stops) ≡ true
stop_at-last own stops =
    has_stop-append 10000 (added_at 0 own stops) (stops ++ added_at 10000 own stops)
    ∙ or_right (has_stop_at 10000 (added_at 0 own stops)) (has_stop_at 10000 (stops ++ added_at 10000 own stops))
    (has_stop-append 10000 stops (added_at 10000 own stops) ∙ added-there 10000 own stops)

stop_at-first : (own : Value) (stops : List Stop) → has_stop_at 0 (whole own stops) ≡ true
stop_at-first own stops =
    has_stop-append 0 (added_at 0 own stops) (stops ++ added_at 10000 own stops)
    ∙ either (has_stop_at 0 stops)
    (λ e. or_right (has_stop_at 0 (added_at 0 own stops)) (has_stop_at 0 (stops ++ added_at 10000 own stops))
    (has_stop-append 0 stops (added_at 10000 own stops) ∙ or_left (has_stop_at 0 stops) (has_stop_at 0 (added_at 10000 own stops)) e))
    (λ e. or_left (has_stop_at 0 (added_at 0 own stops)) (has_stop_at 0 (stops ++ added_at 10000 own stops))
    (second_of (has_stop_at 0 stops) (has_stop_at 0 (added_at 0 own stops)) (added-there 0 own stops) e))

-- the one at 0% is reached, and the one at 100% isn't
reached-first : (at : Fraction) (stop : Stop) → stop.offset ≡ 0 → is_reached at stop ≡ true
reached-first at stop e = rw e (le-leb (0 * at.den) (10000 * at.num) (omega arith))

ahead-last : (at : Fraction) (stop : Stop) → stop.offset ≡ 10000 → not (is_reached at stop) ≡ true
ahead-last at stop e = rw e refl

some-last : (xs : List Stop) → 0 < length xs → IsSome (last_of xs)
some-last xs some =
    elim (slice_get_cases xs (length xs - 1)).1 [
      | inl there ↦ rw there.2 refl
      | inr past ↦ absurd (let far = past.0 in omega arith)
    ]

some-first : (xs : List Stop) → 0 < length xs → IsSome (first_of xs)
some-first [] some = absurd (omega arith)
some-first (x ∷ xs) some = refl

some-found :
    (easing : Easing) (at : Fraction) (last first : Option Stop) → IsSome last → IsSome first
    → IsSome (option_and_then (λ stop. option_map (interval_between easing at stop) first) last)
some-found easing at None first some also = absurd (cc)
some-found easing at (Some a) None some also = absurd (cc)
some-found easing at (Some a) (Some b) some also = refl

pub interval-exists : IntervalExists
interval-exists frames prop own easing at part named =
    let stops : List Stop = whole own (stops_of prop frames) in
    rw named (some-found easing at (last_of (filter (is_reached at) stops)) (first_of (filter (λ stop. not (is_reached at stop)) stops))
    (some-last (filter (is_reached at) stops) (passed-at 0 (is_reached at) stops (reached-first at) (stop_at-first own (stops_of prop frames))))
    (some-first (filter (λ stop. not (is_reached at stop)) stops)
    (passed-at 10000 (λ stop. not (is_reached at stop)) stops (ahead-last at) (stop_at-last own (stops_of prop frames)))))

-- a stop before one that is reached is reached
reached-before : (at : Fraction) (s t : Stop) → s.offset < t.offset → is_reached at t ≡ true → is_reached at s ≡ true
reached-before at s t before e =
    let parts = and_parts (nat_lt t.offset 10000) (nat_le (t.offset * at.den) (10000 * at.num)) e in
    let inside = ltb-true t.offset 10000 parts.0 in
    let reached = leb-true (t.offset * at.den) (10000 * at.num) parts.1 in
    let order : s.offset ≤ t.offset = omega arith in
    let less = mul-le-mul_right at.den order in
    and_from (nat_lt s.offset 10000) (nat_le (s.offset * at.den) (10000 * at.num)) (lt-ltb s.offset 10000 (omega arith))
    (le-leb (s.offset * at.den) (10000 * at.num) (omega arith))

-- the stops of a set rise
frames-ascend : (frames : List Keyframe) → OffsetsRise frames → Ascends (λ (frame : Keyframe). frame.offset) frames
frames-ascend [] rising = tt
frames-ascend (x ∷ xs) rising = (
  λ k d within. rising 0 (suc k) x (get_or xs k d) (omega arith) refl (slice_get-get_or xs k d within),
  frames-ascend xs (λ i j first second below there other. rising (suc i) (suc j) first second (omega arith) there other),
)

stop-offset : (prop : Prop) (frame : Keyframe) (stop : Stop) → stop_of prop frame ≡ Some stop → frame.offset ≡ stop.offset
stop-offset prop frame stop e =
    let found = mapped_some (λ (value : Value). record { offset = frame.offset; value = value; easing = frame.easing }) (value_in prop frame.values) stop e in
    ap offset_of found.2

rise-cons :
    (o : Option Stop) (rest : List Stop) → ((stop : Stop) → o ≡ Some stop → All (λ other. offset_of stop < offset_of other) rest)
    → Ascends offset_of rest → Ascends offset_of (cons_option o rest)
rise-cons None rest smaller rises = rises
rise-cons (Some stop) rest smaller rises = (smaller stop refl, rises)

stops-rise : (prop : Prop) (frames : List Keyframe) → Ascends (λ (frame : Keyframe). frame.offset) frames → Ascends offset_of (stops_of prop frames)
stops-rise prop [] rising = tt
stops-rise prop (x ∷ xs) rising =
    rise-cons (stop_of prop x) (stops_of prop xs)
    (λ stop e. All-filter_map (stop_of prop) (λ other. offset_of stop < offset_of other) xs (λ k d within other f.
    let here = stop-offset prop x stop e in
    let there = stop-offset prop (get_or xs k d) other f in
    let less = rising.0 k d within in omega arith))
    (stops-rise prop xs rising.1)

pub stops-within : (prop : Prop) (frames : List Keyframe) → All IsKeyframe frames → All (λ stop. offset_of stop ≤ 10000) (stops_of prop frames)
stops-within prop frames valid =
    All-filter_map (stop_of prop) (λ stop. offset_of stop ≤ 10000) frames (λ k d within stop e.
    let here = stop-offset prop (get_or frames k d) stop e in
    let most = (valid k d within).offset in omega arith)

absent : (offset : ℕ) (stops : List Stop) → has_stop_at offset stops ≡ false → All (λ stop. offset_of stop ≡ offset → ⊥) stops
absent offset [] e = All-nil (λ stop. offset_of stop ≡ offset → ⊥)
absent offset (stop ∷ stops) e =
    let parts = or_parts (nat_eq stop.offset offset) (has_stop_at offset stops) e in
    All-cons (λ other. offset_of other ≡ offset → ⊥) stop stops
    (λ same. let f = eq-eqb stop.offset offset same in let p = parts.0 in cc) (absent offset stops parts.1)

-- and so do the whole stops
abbrev added_if_not : Bool → ℕ → Value → List Stop
added_if_not there offset own = if there then [] else record { offset = offset; value = own; easing = None } ∷ []

with_last-rise :
    (own : Value) (stops : List Stop) (there : Bool) → (there ≡ false → All (λ stop. offset_of stop ≡ 10000 → ⊥) stops)
    → Ascends offset_of stops → All (λ stop. offset_of stop ≤ 10000) stops
    → Ascends offset_of (stops ++ added_if_not there 10000 own)
with_last-rise own stops true apart rises within = Ascends-append offset_of stops [] rises tt (λ k d inside j e past. absurd (omega arith))
with_last-rise own stops false apart rises within =
    Ascends-append offset_of stops (record { offset = 10000; value = own; easing = None } ∷ []) rises (λ k d inside. absurd (omega arith), tt)
    (λ k d inside. All-cons (λ other. offset_of (get_or stops k d) < offset_of other) (record { offset = 10000; value = own; easing = None }) [] (let most = within k d inside in let other = apart refl k d inside in omega arith) (λ j e past. absurd (omega arith)))

with_last-above :
    (own : Value) (stops : List Stop) (there : Bool) → All (λ stop. offset_of stop ≡ 0 → ⊥) stops
    → All (λ stop. 0 < offset_of stop) (stops ++ added_if_not there 10000 own)
with_last-above own stops true apart =
    All-append (λ stop. 0 < offset_of stop) stops [] (λ k d inside. let other = apart k d inside in omega arith) (λ j e past. absurd (omega arith))
with_last-above own stops false apart =
    All-append (λ stop. 0 < offset_of stop) stops (record { offset = 10000; value = own; easing = None } ∷ [])
    (λ k d inside. let other = apart k d inside in omega arith)
    (All-cons (λ stop. 0 < offset_of stop) (record { offset = 10000; value = own; easing = None }) [] (omega arith) (λ j e past. absurd (omega arith)))

with_both-rise :
    (own : Value) (stops : List Stop) (first last : Bool) → (first ≡ false → All (λ stop. offset_of stop ≡ 0 → ⊥) stops)
    → (last ≡ false → All (λ stop. offset_of stop ≡ 10000 → ⊥) stops) → Ascends offset_of stops
    → All (λ stop. offset_of stop ≤ 10000) stops
    → Ascends offset_of (added_if_not first 0 own ++ (stops ++ added_if_not last 10000 own))
with_both-rise own stops true last above below rises within = with_last-rise own stops last below rises within
with_both-rise own stops false last above below rises within =
    (with_last-above own stops last (above refl), with_last-rise own stops last below rises within)

whole-rise : (prop : Prop) (own : Value) (set : KeyframeSet) → IsSet set → Ascends offset_of (whole own (stops_of prop set.frames))
whole-rise prop own set valid =
    let stops : List Stop = stops_of prop set.frames in
    with_both-rise own stops (has_stop_at 0 stops) (has_stop_at 10000 stops) (absent 0 stops) (absent 10000 stops)
    (stops-rise prop set.frames (frames-ascend set.frames valid.rising)) (stops-within prop set.frames valid.frames)

-- the last that is reached and the first that isn't are neighbours
interval-from_found :
    (easing : Easing) (at : Fraction) (stops : List Stop) (interval : Interval) → Ascends offset_of stops
    → IsFound easing at stops interval → IsInterval easing at stops interval
interval-from_found easing at stops interval rises found =
    let near : List Stop = filter (is_reached at) stops in
    let far : List Stop = filter (λ stop. not (is_reached at stop)) stops in
    let whole_is : stops ≡ near ++ far = filter-split offset_of (is_reached at) stops (reached-before at) rises in
    let near_is : near ≡ front_of near ++ found.first ∷ [] = split_last near found.first found.first_is in
    let far_is : far ≡ found.second ∷ rest_of far = split_first far found.second found.second_is in
    let joined : (front_of near ++ found.first ∷ []) ++ (found.second ∷ rest_of far) ≡ front_of near ++ (found.first ∷ (found.second ∷ rest_of far)) =
    append_assoc (front_of near) (found.first ∷ []) (found.second ∷ rest_of far) in
    record {
      earlier = front_of near;
      first = found.first;
      second = found.second;
      later = rest_of far;
      stops_are = whole_is ∙ ap₂ (λ (a b : List Stop). a ++ b) near_is far_is ∙ joined;
      reached = All-slice_get (λ stop. is_reached at stop ≡ true) near (length near - 1) found.first (filter_passes (is_reached at) stops) found.first_is;
      ahead = subst (All (λ stop. is_reached at stop ≡ false)) far_is
          (λ k d within. not-true (is_reached at (get_or far k d)) (filter_passes (λ stop. not (is_reached at stop)) stops k d within));
      interval_is = sym found.interval_is;
    }

found-from_interval :
    (easing : Easing) (at : Fraction) (stops : List Stop) (interval : Interval) → Ascends offset_of stops
    → IsInterval easing at stops interval → interval_in easing at stops ≡ Some interval
found-from_interval easing at stops interval rises w =
    let tail : List Stop = w.second ∷ w.later in
    let here : Ascends offset_of (w.earlier ++ w.first ∷ tail) = subst (Ascends offset_of) w.stops_are rises in
    let smaller = Ascends-before offset_of w.earlier w.first tail here in
    let before : All (λ stop. is_reached at stop ≡ true) w.earlier = λ k d within. reached-before at (get_or w.earlier k d) w.first (smaller k d within) w.reached in
    let near : filter (is_reached at) stops ≡ w.earlier ++ w.first ∷ [] =
    ap (filter (is_reached at)) w.stops_are ∙ filter-append (is_reached at) w.earlier (w.first ∷ tail)
    ∙ ap₂ (λ (a b : List Stop). a ++ b) (filter-all (is_reached at) w.earlier before) (kept (is_reached at) w.first tail w.reached w.ahead) in
    let others : All (λ stop. not (is_reached at stop) ≡ false) w.earlier = λ k d within. rw (before k d within) in
    let far : filter (λ stop. not (is_reached at stop)) stops ≡ tail =
    ap (filter (λ stop. not (is_reached at stop))) w.stops_are ∙ filter-append (λ stop. not (is_reached at stop)) w.earlier (w.first ∷ tail)
    ∙ ap₂ (λ (a b : List Stop). a ++ b) (filter-none (λ stop. not (is_reached at stop)) w.earlier others) (left (is_reached at) w.first tail w.reached w.ahead) in
    rw (near, far, last-append w.earlier w.first) (ap Some (sym w.interval_is))
  where
    kept : (p : Stop → Bool) (x : Stop) (xs : List Stop) → p x ≡ true → All (λ y. p y ≡ false) xs → filter p (x ∷ xs) ≡ x ∷ []
    kept p x xs e fails = rw (e, filter-none p xs fails)

    left : (p : Stop → Bool) (x : Stop) (xs : List Stop) → p x ≡ true → All (λ y. p y ≡ false) xs → filter (λ y. not (p y)) (x ∷ xs) ≡ xs
    left p x xs e fails = rw e (filter-all (λ y. not (p y)) xs (λ k d within. rw (fails k d within)))

pub interval-computed : IntervalIsComputed
interval-computed set prop own easing at interval valid named = (
  λ e. interval-from_found easing at (whole own (stops_of prop set.frames)) interval (whole-rise prop own set valid)
      (interval-found set.frames prop own easing at interval e),
  λ w. rw named (found-from_interval easing at (whole own (stops_of prop set.frames)) interval (whole-rise prop own set valid) w),
)
