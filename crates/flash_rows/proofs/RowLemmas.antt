-- What a row tells of each frame, and how that of the next frame comes of it.
use Rattle.std.proofs.Common.{ℕ, zero, suc, ◌≡◌, ◌⊎◌, ◌∙◌, ◌+◌, ◌-◌, ◌*◌, ◌/◌, ◌%◌, ◌<◌, ◌≤◌, Bool, true, false, List, [], ◌∷◌, ◌++◌, length, get_or, slice_get, Some, arith, inl, inr, refl, subst, sym, ap, length-append}
use Rattle.std.specs.Prelude.{min}
use Rattle.std.proofs.Math.Nat.{mod-lt, mul-le-mul_right}
use Rattle.std.proofs.lemmas.Bool.{cases_lt}
use Rattle.std.proofs.lemmas.Nat.{div-add-mod'}
use Rattle.std.proofs.lemmas.Option.{slice_get_within}
use Rattle.page_model.specs.declared.colour.Tint.{Tint}
use Rattle.tint_changes.specs.declared.changes.Change.{Change}
use Rattle.tint_changes.specs.declared.changes.Change.TheVariants.{PossibleRise, PossibleFall, SureRise, SureFall, PossiblyIntoRed, PossiblyOutOfRed, SurelyIntoRed, SurelyOutOfRed}
use Rattle.tint_changes.specs.Counting.{Makes, MakesAt}
use Rattle.flash_rows.specs.declared.ended.Ended.{Ended}
use Rattle.flash_rows.specs.declared.latest.Latest.{Latest}
use Rattle.flash_rows.specs.Rows.{AreEnded, EndsBefore, EndsWith, HasRun, StandsFor, TellsOf, byte, column_of, ended_in, is_sure, number_of, opposite_of, tint_in, words_at}
use Rattle.flash_rows.specs.declared.bounds.Bounds.{Bounds}
use Rattle.flash_rows.specs.Bounds.{AreWithin, bounds_at}
use Rattle.flash_rows.specs.Pushing.{HaveStarts, LoweredIf, latest_of}
use Rattle.flash_rows.specs.Starts.{IsLatest, Leads}
use Rattle.tint_changes.proofs.ChainLemmas.{change-within}
use Rattle.flash_rows.proofs.ListLemmas.{slice_get-end, slice_get-front}
use Rattle.flash_rows.proofs.StartLemmas.{Through, latest-both, latest-later, latest-none, latest-same, latest-self, leads-moved, through-all, through-kept, through-made, through-none}

pub opposite-twice : (change : Change) → opposite_of (opposite_of change) ≡ change
opposite-twice PossibleRise = refl
opposite-twice PossibleFall = refl
opposite-twice SureRise = refl
opposite-twice SureFall = refl
opposite-twice PossiblyIntoRed = refl
opposite-twice PossiblyOutOfRed = refl
opposite-twice SurelyIntoRed = refl
opposite-twice SurelyOutOfRed = refl

pub column-below : (change : Change) → column_of change < 9
column-below PossibleRise = omega arith
column-below PossibleFall = omega arith
column-below SureRise = omega arith
column-below SureFall = omega arith
column-below PossiblyIntoRed = omega arith
column-below PossiblyOutOfRed = omega arith
column-below SurelyIntoRed = omega arith
column-below SurelyOutOfRed = omega arith

-- a change between two frames stays one where a tint is added, and was one before
pub change-grown : (change : Change) (tints : List Tint) (tint : Tint) (j k : ℕ) → MakesAt change tints j k
    → MakesAt change (tints ++ tint ∷ []) j k
change-grown change tints tint j k made =
    let within = change-within (Makes change) tints j k made in
    record {
      earlier = made.earlier;
      later = made.later;
      is_earlier = slice_get-front tints (tint ∷ []) j within.0 ∙ made.is_earlier;
      is_later = slice_get-front tints (tint ∷ []) k within.1 ∙ made.is_later;
      changes = made.changes;
    }

pub change-shrunk : (change : Change) (tints : List Tint) (tint : Tint) (j k : ℕ) → j < k → k < length tints
    → MakesAt change (tints ++ tint ∷ []) j k → MakesAt change tints j k
change-shrunk change tints tint j k before within made = record {
  earlier = made.earlier;
  later = made.later;
  is_earlier = sym (slice_get-front tints (tint ∷ []) j (omega arith)) ∙ made.is_earlier;
  is_later = sym (slice_get-front tints (tint ∷ []) k within) ∙ made.is_later;
  changes = made.changes;
}

-- so do changes in turn that end at a frame
pub ends-grown : (change : Change) (tints : List Tint) (tint : Tint) (n frame start : ℕ) → EndsWith change tints n frame start
    → EndsWith change (tints ++ tint ∷ []) n frame start
ends-grown change tints tint n frame start =
    leads-moved (MakesAt change tints) (MakesAt (opposite_of change) tints) (MakesAt change (tints ++ tint ∷ []))
    (MakesAt (opposite_of change) (tints ++ tint ∷ [])) (λ k. k) n start frame 0 frame
    (λ j k from before within made. (before, change-grown change tints tint j k made))
    (λ j k from before within made. (before, change-grown (opposite_of change) tints tint j k made)) (omega arith) (omega arith)

pub ends-shrunk : (change : Change) (tints : List Tint) (tint : Tint) (n frame start : ℕ) → frame < length tints
    → EndsWith change (tints ++ tint ∷ []) n frame start → EndsWith change tints n frame start
ends-shrunk change tints tint n frame start below =
    leads-moved (MakesAt change (tints ++ tint ∷ [])) (MakesAt (opposite_of change) (tints ++ tint ∷ [])) (MakesAt change tints)
    (MakesAt (opposite_of change) tints) (λ k. k) n start frame 0 frame
    (λ j k from before within made. (before, change-shrunk change tints tint j k before (omega arith) made))
    (λ j k from before within made. (before, change-shrunk (opposite_of change) tints tint j k before (omega arith) made))
    (omega arith) (omega arith)

latest-grown : (change : Change) (tints : List Tint) (tint : Tint) (n window frame number : ℕ) → frame < length tints
    → IsLatest (EndsWith change tints n frame) window frame number → IsLatest (EndsWith change (tints ++ tint ∷ []) n frame) window frame number
latest-grown change tints tint n window frame number below =
    latest-same (EndsWith change tints n frame) (EndsWith change (tints ++ tint ∷ []) n frame) window frame number
    (λ s ends. ends-grown change tints tint n frame s ends)
    (λ s ends near. (s, omega arith, ends-shrunk change tints tint n frame s below ends))

pub before-grown : (sure : Bool) (tints : List Tint) (tint : Tint) (frame start : ℕ) → EndsBefore sure tints frame start
    → EndsBefore sure (tints ++ tint ∷ []) frame start
before-grown sure tints tint frame start ends = record {
  end = ends.end;
  change = ends.change;
  sort = ends.sort;
  before = ends.before;
  ends = ends-grown ends.change tints tint 8 ends.end start ends.ends;
}

pub before-shrunk : (sure : Bool) (tints : List Tint) (tint : Tint) (frame start : ℕ) → frame ≤ length tints
    → EndsBefore sure (tints ++ tint ∷ []) frame start → EndsBefore sure tints frame start
before-shrunk sure tints tint frame start within ends = record {
  end = ends.end;
  change = ends.change;
  sort = ends.sort;
  before = ends.before;
  ends = ends-shrunk ends.change tints tint 8 ends.end start (omega (arith, ends.before)) ends.ends;
}

latest_before-grown : (sure : Bool) (tints : List Tint) (tint : Tint) (limit window frame number : ℕ) → limit ≤ length tints
    → IsLatest (EndsBefore sure tints limit) window frame number
    → IsLatest (EndsBefore sure (tints ++ tint ∷ []) limit) window frame number
latest_before-grown sure tints tint limit window frame number within =
    latest-same (EndsBefore sure tints limit) (EndsBefore sure (tints ++ tint ∷ []) limit) window frame number
    (λ s ends. before-grown sure tints tint limit s ends)
    (λ s ends near. (s, omega arith, before-shrunk sure tints tint limit s within ends))

-- of so many frames the tint is the same also where a tint is added
pub run-grown : (tints : List Tint) (tint : Tint) (frame run : ℕ) → frame < length tints → HasRun tints frame run
    → HasRun (tints ++ tint ∷ []) frame run
run-grown tints tint frame run below has = record {
  some = has.some;
  inside = has.inside;
  alike = λ back few.
      slice_get-front tints (tint ∷ []) (frame - back) (omega arith) ∙ has.alike back few ∙ sym (slice_get-front tints (tint ∷ []) frame below);
}

-- other words tell the same of a frame where they are the same
tells-same : (rate : ℕ) (tints : List Tint) (frame : ℕ) (f g : ℕ → ℕ) → ((i : ℕ) → i < 9 → f i ≡ g i) → TellsOf rate tints frame f
    → TellsOf rate tints frame g
tells-same rate tints frame f g same tells = record {
  tint = tells.tint ∙ ap (λ w. Some (tint_in w)) (same 0 (omega arith));
  run = subst (λ w. HasRun tints frame (byte w 6)) (same 0 (omega arith)) tells.run;
  starts = λ change n few.
      subst (λ w. IsLatest (EndsWith change tints n frame) rate frame (number_of w n)) (same (column_of change) (column-below change))
      (tells.starts change n few);
}

-- and what they tell they tell also where a tint is added
tells-grown : (rate : ℕ) (tints : List Tint) (tint : Tint) (frame : ℕ) (f g : ℕ → ℕ) → frame < length tints
    → ((i : ℕ) → i < 9 → f i ≡ g i) → TellsOf rate tints frame f → TellsOf rate (tints ++ tint ∷ []) frame g
tells-grown rate tints tint frame f g below same tells = tells-same rate (tints ++ tint ∷ []) frame f g same (record {
  tint = slice_get-front tints (tint ∷ []) frame below ∙ tells.tint;
  run = run-grown tints tint frame (byte (f 0) 6) below tells.run;
  starts = λ change n few.
      latest-grown change tints tint n rate frame (number_of (f (column_of change)) n) below (tells.starts change n few);
})

-- the starts of one change more, by way of a frame from some frame on
abbrev pub Back : Change → List Tint → ℕ → ℕ → ℕ → ℕ → Type 0
Back change tints n low end = Through (MakesAt change tints) (MakesAt (opposite_of change) tints) n low end

-- between an earlier frame and the next one a change is made exactly where their tints make it
made-at : (change : Change) (tints : List Tint) (tint earlier : Tint) (frame : ℕ) → slice_get tints frame ≡ Some earlier
    → Makes change earlier tint → MakesAt change (tints ++ tint ∷ []) frame (length tints)
made-at change tints tint earlier frame there made = record {
  earlier = earlier;
  later = tint;
  is_earlier = slice_get-front tints (tint ∷ []) frame (slice_get_within tints frame earlier there) ∙ there;
  is_later = slice_get-end tints tint;
  changes = made;
}

pub at-made : (change : Change) (tints : List Tint) (tint earlier : Tint) (frame : ℕ) → slice_get tints frame ≡ Some earlier
    → MakesAt change (tints ++ tint ∷ []) frame (length tints) → Makes change earlier tint
at-made change tints tint earlier frame there at =
    let first : at.earlier ≡ earlier =
    cc (sym (slice_get-front tints (tint ∷ []) frame (slice_get_within tints frame earlier there)) ∙ at.is_earlier, there) in
    let second : at.later ≡ tint = cc (slice_get-end tints tint, at.is_later) in
    subst (λ (t : Tint). Makes change earlier t) second (subst (λ (t : Tint). Makes change t at.later) first at.changes)

-- the numbers of a change with one frame more
pub starts-more : (rate age low place : ℕ) (tints : List Tint) (tint : Tint) (row : List ℕ) (change : Change) (best least : List ℕ) (n : ℕ)
    → StandsFor rate tints row → 0 < age → age ≤ length tints → age ≤ rate → rate ≤ 240 → low + age ≡ length tints + 1
    → place ≡ (length tints - age) % rate → n < 8
    → LoweredIf (Makes change (tint_in (get_or row (9 * place) 0)) tint) best (get_or row (9 * place + column_of (opposite_of change)) 0) age least
    → IsLatest (Back change (tints ++ tint ∷ []) n low (length tints)) rate (length tints) (get_or best n 0)
    → IsLatest (Back change (tints ++ tint ∷ []) n (length tints - age) (length tints)) rate (length tints) (get_or least n 0)
starts-more rate age low place tints tint row change best least n stands some within near limit at is few lowered before =
    let frame : ℕ = length tints - age in
    let tells = stands.tells frame (omega arith) (omega arith) in
    let first : 9 * (frame % rate) + 0 ≡ 9 * place = omega (arith, is) in
    let there : slice_get tints frame ≡ Some (tint_in (get_or row (9 * place) 0)) =
    tells.tint ∙ ap (λ i. Some (tint_in (get_or row i 0))) first in
    let all : List Tint = tints ++ tint ∷ [] in
    elim lowered [
      | inl made ↦
          let word : ℕ = get_or row (9 * place + column_of (opposite_of change)) 0 in
          let starts = latest-grown (opposite_of change) tints tint n rate frame (number_of (words_at rate row frame (column_of (opposite_of change))) n)
          (omega arith) (tells.starts (opposite_of change) n (omega arith)) in
          let turned = subst (λ (c : Change). IsLatest (λ s. Leads (MakesAt (opposite_of change) all) (MakesAt c all) n s frame) rate frame
          (number_of (words_at rate row frame (column_of (opposite_of change))) n)) (opposite-twice change) starts in
          let index : 9 * (frame % rate) + column_of (opposite_of change) ≡ 9 * place + column_of (opposite_of change) = omega (arith, is) in
          let here = subst (λ i. IsLatest (λ s. Leads (MakesAt (opposite_of change) all) (MakesAt change all) n s frame) rate frame
          (number_of (get_or row i 0) n)) index turned in
          through-made (MakesAt change all) (MakesAt (opposite_of change) all) n frame low (length tints) rate age (get_or best n 0)
          (number_of word n) (get_or least n 0) (omega arith) (omega arith) some
          (made-at change tints tint (tint_in (get_or row (9 * place) 0)) frame there made.0) before here
          (omega (arith, made.1 n few, before.capped))
      | inr none ↦
          subst (λ (ns : List ℕ). IsLatest (Back change all n frame (length tints)) rate (length tints) (get_or ns n 0)) (sym none.1)
          (through-kept (MakesAt change all) (MakesAt (opposite_of change) all) n frame low (length tints) rate (get_or best n 0) (omega arith)
          (λ at_frame. none.0 (at-made change tints tint (tint_in (get_or row (9 * place) 0)) frame there at_frame)) before)
    ]

-- the same with the number of frames by name
pub starts-step : (rate age turn place : ℕ) (tints : List Tint) (tint : Tint) (row : List ℕ) (change : Change) (best least : List ℕ) (n : ℕ)
    → length tints ≡ turn → StandsFor rate tints row → 0 < age → age ≤ turn → age ≤ rate → rate ≤ 240 → place ≡ (turn - age) % rate → n < 8
    → LoweredIf (Makes change (tint_in (get_or row (9 * place) 0)) tint) best (get_or row (9 * place + column_of (opposite_of change)) 0) age least
    → IsLatest (Back change (tints ++ tint ∷ []) n (turn + 1 - age) turn) rate turn (get_or best n 0)
    → IsLatest (Back change (tints ++ tint ∷ []) n (turn - age) turn) rate turn (get_or least n 0)
starts-step rate age turn place tints tint row change best least n count stands some within near limit at few lowered =
    subst
    (λ t. age ≤ t → place ≡ (t - age) % rate → IsLatest (Back change (tints ++ tint ∷ []) n (t + 1 - age) t) rate t (get_or best n 0)
    → IsLatest (Back change (tints ++ tint ∷ []) n (t - age) t) rate t (get_or least n 0))
    count
    (λ inside there before.
    starts-more rate age (length tints + 1 - age) place tints tint row change best least n stands some inside near limit (omega arith) there few
    lowered before)
    within at

-- at the first of these frames none was looked at, and at the last all that can matter
pub starts-none : (rate turn : ℕ) (tints : List Tint) (tint : Tint) (change : Change) (n low number : ℕ) → turn ≤ low → number ≡ rate + 1
    → IsLatest (Back change (tints ++ tint ∷ []) n low turn) rate turn number
starts-none rate turn tints tint change n low number past is =
    subst (IsLatest (Back change (tints ++ tint ∷ []) n low turn) rate turn) (sym is)
    (through-none (MakesAt change (tints ++ tint ∷ [])) (MakesAt (opposite_of change) (tints ++ tint ∷ [])) n low turn rate past)

pub starts-all : (rate turn : ℕ) (tints : List Tint) (tint : Tint) (change : Change) (n low number : ℕ) → low ≤ turn - rate
    → IsLatest (Back change (tints ++ tint ∷ []) n low turn) rate turn number
    → IsLatest (EndsWith change (tints ++ tint ∷ []) (suc n) turn) rate turn number
starts-all rate turn tints tint change n low number far is =
    through-all (MakesAt change (tints ++ tint ∷ [])) (MakesAt (opposite_of change) (tints ++ tint ∷ [])) n low turn rate number far is

-- before the first frame no chain ended, and those that ended are seen from a frame later
pub ended-none : (rate : ℕ) (sure : Bool) (number : ℕ) → number ≡ rate + 1 → IsLatest (EndsBefore sure [] 0) rate 0 number
ended-none rate sure number is =
    subst (IsLatest (EndsBefore sure [] 0) rate 0) (sym is)
    (latest-none (EndsBefore sure [] 0) rate 0 (λ s ends. omega (arith, ends.before)))

pub ended-later : (rate turn next : ℕ) (sure : Bool) (all : List Tint) (before number : ℕ) → next ≡ turn + 1
    → number ≡ min (before + 1) (rate + 1) → IsLatest (EndsBefore sure all (turn + 1)) rate turn before
    → IsLatest (EndsBefore sure all next) rate next number
ended-later rate turn next sure all before number at is here =
    subst (IsLatest (EndsBefore sure all next) rate next) (sym is)
    (latest-later (EndsBefore sure all next) rate turn next 1 before
    (subst (λ m. IsLatest (EndsBefore sure all m) rate turn before) (sym at) here) (sym at))

-- what a row has of them, by the number of its tints
pub ended-known : (rate turn : ℕ) (tints : List Tint) (word : ℕ) (ended : Ended) → length tints ≡ turn → ended ≡ ended_in word
    → AreEnded rate tints (length tints) (length tints) (ended_in word) → AreEnded rate tints turn turn ended
ended-known rate turn tints word ended count is are =
    subst (λ (e : Ended). AreEnded rate tints turn turn e) (sym is) (subst (λ t. AreEnded rate tints t t (ended_in word)) count are)

-- a change is one of two, or the opposite of one of them
abbrev pub IsOneOf : Change → Change → Change → Type 0
IsOneOf rise into change = ((change ≡ rise) ⊎ (change ≡ opposite_of rise)) ⊎ ((change ≡ into) ⊎ (change ≡ opposite_of into))

-- the changes of one sort are two, of luminance and of red, and their opposites
pub record AreOfSort (sure : Bool) (rise into : Change) : Type 0 where
  pub rises : is_sure rise ≡ sure
  pub falls : is_sure (opposite_of rise) ≡ sure
  pub goes_in : is_sure into ≡ sure
  pub goes_out : is_sure (opposite_of into) ≡ sure
  pub only : (change : Change) → is_sure change ≡ sure → IsOneOf rise into change

-- chains that ended before a frame, or that end at it by one of these changes
abbrev EndsAny : Bool → Change → Change → List Tint → ℕ → ℕ → Type 0
EndsAny sure rise into all turn s =
    (((EndsBefore sure all turn s ⊎ EndsWith rise all 8 turn s) ⊎ EndsWith (opposite_of rise) all 8 turn s)
    ⊎ EndsWith into all 8 turn s) ⊎ EndsWith (opposite_of into) all 8 turn s

ends-here : (change : Change) (sure : Bool) (all : List Tint) (turn s : ℕ) → is_sure change ≡ sure → EndsWith change all 8 turn s
    → EndsBefore sure all (turn + 1) s
ends-here change sure all turn s right ends = record { end = turn; change = change; sort = right; before = omega arith; ends = ends }

ends-any : (sure : Bool) (rise into : Change) (all : List Tint) (turn s : ℕ) → AreOfSort sure rise into → EndsAny sure rise into all turn s
    → EndsBefore sure all (turn + 1) s
ends-any sure rise into all turn s sort (inl (inl (inl (inl old)))) =
    record { end = old.end; change = old.change; sort = old.sort; before = omega (arith, old.before); ends = old.ends }
ends-any sure rise into all turn s sort (inl (inl (inl (inr ends)))) = ends-here rise sure all turn s sort.rises ends
ends-any sure rise into all turn s sort (inl (inl (inr ends))) = ends-here (opposite_of rise) sure all turn s sort.falls ends
ends-any sure rise into all turn s sort (inl (inr ends)) = ends-here into sure all turn s sort.goes_in ends
ends-any sure rise into all turn s sort (inr ends) = ends-here (opposite_of into) sure all turn s sort.goes_out ends

any-at : (change : Change) (sure : Bool) (rise into : Change) (all : List Tint) (turn s : ℕ) → IsOneOf rise into change
    → EndsWith change all 8 turn s → EndsAny sure rise into all turn s
any-at change sure rise into all turn s (inl (inl same)) ends =
    inl (inl (inl (inr (subst (λ (c : Change). EndsWith c all 8 turn s) same ends))))
any-at change sure rise into all turn s (inl (inr same)) ends =
    inl (inl (inr (subst (λ (c : Change). EndsWith c all 8 turn s) same ends)))
any-at change sure rise into all turn s (inr (inl same)) ends = inl (inr (subst (λ (c : Change). EndsWith c all 8 turn s) same ends))
any-at change sure rise into all turn s (inr (inr same)) ends = inr (subst (λ (c : Change). EndsWith c all 8 turn s) same ends)

any-ends : (sure : Bool) (rise into : Change) (all : List Tint) (turn s : ℕ) → AreOfSort sure rise into → EndsBefore sure all (turn + 1) s
    → EndsAny sure rise into all turn s
any-ends sure rise into all turn s sort found = elim (cases_lt found.end turn) [
  | inl early ↦
      inl (inl (inl (inl (record { end = found.end; change = found.change; sort = found.sort; before = early; ends = found.ends }))))
  | inr late ↦
      let at : found.end ≡ turn = omega (arith, found.before) in
      any-at found.change sure rise into all turn s (sort.only found.change found.sort)
      (subst (λ e. EndsWith found.change all 8 e s) at found.ends)
]

-- with those that end at the next frame, by each of the changes
pub ended-more : (rate turn : ℕ) (sure : Bool) (tints : List Tint) (tint : Tint) (before one two three four number : ℕ) (rise into : Change)
    → AreOfSort sure rise into → turn ≡ length tints
    → number ≡ min (min (min (min before one) two) three) four → IsLatest (EndsBefore sure tints turn) rate turn before
    → IsLatest (EndsWith rise (tints ++ tint ∷ []) 8 turn) rate turn one
    → IsLatest (EndsWith (opposite_of rise) (tints ++ tint ∷ []) 8 turn) rate turn two
    → IsLatest (EndsWith into (tints ++ tint ∷ []) 8 turn) rate turn three
    → IsLatest (EndsWith (opposite_of into) (tints ++ tint ∷ []) 8 turn) rate turn four
    → IsLatest (EndsBefore sure (tints ++ tint ∷ []) (turn + 1)) rate turn number
ended-more rate turn sure tints tint before one two three four number rise into sort last is ended rises falls goes_in goes_out =
    let all : List Tint = tints ++ tint ∷ [] in
    let Old : ℕ → Type 0 = EndsBefore sure all turn in
    let At : Change → ℕ → Type 0 = λ change. EndsWith change all 8 turn in
    latest-same (EndsAny sure rise into all turn) (EndsBefore sure all (turn + 1)) rate turn number
    (λ s found. ends-any sure rise into all turn s sort found) (λ s found near. (s, omega arith, any-ends sure rise into all turn s sort found))
    (subst (IsLatest (EndsAny sure rise into all turn) rate turn) (sym is)
    (latest-both (λ s. ((Old s ⊎ At rise s) ⊎ At (opposite_of rise) s) ⊎ At into s) (At (opposite_of into)) rate turn
    (min (min (min before one) two) three) four
    (latest-both (λ s. (Old s ⊎ At rise s) ⊎ At (opposite_of rise) s) (At into) rate turn (min (min before one) two) three
    (latest-both (λ s. Old s ⊎ At rise s) (At (opposite_of rise)) rate turn (min before one) two
    (latest-both Old (At rise) rate turn before one (latest_before-grown sure tints tint turn rate turn before (omega arith) ended) rises) falls) goes_in)
    goes_out))

one-possible : (change : Change) → is_sure change ≡ false → IsOneOf PossibleRise PossiblyIntoRed change
one-possible PossibleRise sort = inl (inl refl)
one-possible PossibleFall sort = inl (inr refl)
one-possible PossiblyIntoRed sort = inr (inl refl)
one-possible PossiblyOutOfRed sort = inr (inr refl)
one-possible SureRise sort = absurd (cc)
one-possible SureFall sort = absurd (cc)
one-possible SurelyIntoRed sort = absurd (cc)
one-possible SurelyOutOfRed sort = absurd (cc)

one-sure : (change : Change) → is_sure change ≡ true → IsOneOf SureRise SurelyIntoRed change
one-sure SureRise sort = inl (inl refl)
one-sure SureFall sort = inl (inr refl)
one-sure SurelyIntoRed sort = inr (inl refl)
one-sure SurelyOutOfRed sort = inr (inr refl)
one-sure PossibleRise sort = absurd (cc)
one-sure PossibleFall sort = absurd (cc)
one-sure PossiblyIntoRed sort = absurd (cc)
one-sure PossiblyOutOfRed sort = absurd (cc)

pub possible-sort : AreOfSort false PossibleRise PossiblyIntoRed
possible-sort = record { rises = refl; falls = refl; goes_in = refl; goes_out = refl; only = one-possible }

pub sure-sort : AreOfSort true SureRise SurelyIntoRed
sure-sort = record { rises = refl; falls = refl; goes_in = refl; goes_out = refl; only = one-sure }

-- two frames of one window have places of their own
pub mod-apart : (j k window : ℕ) → j < k → k < j + window → (j % window ≡ k % window) → ⊥
mod-apart j k window before near same =
    let first : j / window * window + j % window ≡ j = div-add-mod' j window in
    let second : k / window * window + k % window ≡ k = div-add-mod' k window in
    elim (cases_lt (j / window) (k / window)) [
      | inl less ↦
          let step : (j / window + 1) * window ≤ k / window * window = mul-le-mul_right window (omega arith) in
          let whole : (j / window + 1) * window ≡ j / window * window + window = omega arith in
          omega (arith, same)
      | inr more ↦
          let back : k / window * window ≤ j / window * window = mul-le-mul_right window more in
          omega (arith, same)
    ]

-- a row with the words of the next frame in their place, and behind all words the bounds of the last tints
pub row-pushed : (rate turn : ℕ) (tints : List Tint) (tint : Tint) (old new words : List ℕ) (bounds : Bounds) (ended : Ended) → 1 ≤ rate → turn ≡ length tints
    → StandsFor rate tints old → TellsOf rate (tints ++ tint ∷ []) turn (λ i. get_or words i 0) → AreWithin rate (tints ++ tint ∷ []) bounds
    → length new ≡ length old → ((i : ℕ) → i < 9 → get_or new (9 * (turn % rate) + i) 0 ≡ get_or words i 0)
    → ((i : ℕ) → i < 9 * rate → (i < 9 * (turn % rate)) ⊎ (9 * (turn % rate) + 9 ≤ i) → get_or new i 0 ≡ get_or old i 0)
    → bounds_at rate new ≡ bounds → AreEnded rate (tints ++ tint ∷ []) (turn + 1) turn ended
    → byte (get_or new (9 * rate + 3) 0) 0 ≡ min (ended.possible + 1) (rate + 1)
    → byte (get_or new (9 * rate + 3) 0) 1 ≡ min (ended.sure + 1) (rate + 1) → StandsFor rate (tints ++ tint ∷ []) new
row-pushed rate turn tints tint old new words bounds ended some last stands next within long there others at_end are possible sure = record {
  room = let before = stands.room in omega (arith, long);
  tells = λ frame below near.
      let count : length (tints ++ tint ∷ []) ≡ length tints + 1 = length-append tints (tint ∷ []) in
      let slot : frame % rate < rate = mod-lt frame (omega arith) in
      elim (cases_lt frame turn) [
        | inl early ↦
            let apart = mod-apart frame turn rate early (omega (arith, count)) in
            tells-grown rate tints tint frame (words_at rate old frame) (words_at rate new frame) (omega arith)
            (λ i few. sym (others (9 * (frame % rate) + i) (omega arith) (aside (frame % rate) (turn % rate) i few apart)))
            (stands.tells frame (omega arith) (omega (arith, count)))
        | inr late ↦
            let at : turn ≡ frame = omega (arith, count) in
            subst (λ k. TellsOf rate (tints ++ tint ∷ []) k (words_at rate new k)) at
            (tells-same rate (tints ++ tint ∷ []) turn (λ i. get_or words i 0) (words_at rate new turn) (λ i few. sym (there i few)) next)
      ];
  within = subst (λ (b : Bounds). AreWithin rate (tints ++ tint ∷ []) b) (sym at_end) within;
  ended =
      let all : List Tint = tints ++ tint ∷ [] in
      let count : length all ≡ turn + 1 = length-append tints (tint ∷ []) ∙ ap (λ n. n + 1) (sym last) in record {
        possible = ended-later rate turn (length all) false all ended.possible _ count possible are.possible;
        sure = ended-later rate turn (length all) true all ended.sure _ count sure are.sure;
      };
} where
  aside : (p q i : ℕ) → i < 9 → (p ≡ q → ⊥) → (9 * p + i < 9 * q) ⊎ (9 * q + 9 ≤ 9 * p + i)
  aside p q i few apart = elim (cases_lt p q) [
    | inl less ↦ inl (omega arith)
    | inr more ↦ elim (cases_lt q p) [
      | inl greater ↦ inr (omega arith)
      | inr same ↦ let e : p ≡ q = omega arith in absurd (apart e)
    ]
  ]

-- the words of the eight changes
pub record ChangeWords : Type 0 where
  pub rise : ℕ
  pub fall : ℕ
  pub sure_rise : ℕ
  pub sure_fall : ℕ
  pub into : ℕ
  pub out : ℕ
  pub sure_into : ℕ
  pub sure_out : ℕ

abbrev pub words_in : ℕ → ChangeWords → List ℕ
words_in first w = first ∷ w.rise ∷ w.fall ∷ w.sure_rise ∷ w.sure_fall ∷ w.into ∷ w.out ∷ w.sure_into ∷ w.sure_out ∷ []

-- a word has the numbers of a change at the next frame
abbrev pub HasStarts : ℕ → ℕ → List Tint → Change → ℕ → Type 0
HasStarts rate turn all change word = (n : ℕ) → n ≤ 8 → IsLatest (EndsWith change all n turn) rate turn (number_of word n)

-- what the nine words of the next frame have
pub record HaveNext (rate turn : ℕ) (all : List Tint) (tint : Tint) (first : ℕ) (w : ChangeWords) : Type 0 where
  pub last : slice_get all turn ≡ Some tint
  pub holds : tint_in first ≡ tint
  pub rises : HasStarts rate turn all PossibleRise w.rise
  pub falls : HasStarts rate turn all PossibleFall w.fall
  pub sure_rises : HasStarts rate turn all SureRise w.sure_rise
  pub sure_falls : HasStarts rate turn all SureFall w.sure_fall
  pub goes_in : HasStarts rate turn all PossiblyIntoRed w.into
  pub goes_out : HasStarts rate turn all PossiblyOutOfRed w.out
  pub surely_in : HasStarts rate turn all SurelyIntoRed w.sure_into
  pub surely_out : HasStarts rate turn all SurelyOutOfRed w.sure_out
  pub run : HasRun all turn (byte first 6)

pub words-tell : (rate turn : ℕ) (all : List Tint) (tint : Tint) (first : ℕ) (w : ChangeWords) → HaveNext rate turn all tint first w
    → TellsOf rate all turn (λ i. get_or (words_in first w) i 0)
words-tell rate turn all tint first w have = record {
  tint = have.last ∙ ap Some (sym have.holds);
  run = have.run;
  starts = starts;
} where
  starts : (change : Change) → HasStarts rate turn all change (get_or (words_in first w) (column_of change) 0)
  starts PossibleRise = have.rises
  starts PossibleFall = have.falls
  starts SureRise = have.sure_rises
  starts SureFall = have.sure_falls
  starts PossiblyIntoRed = have.goes_in
  starts PossiblyOutOfRed = have.goes_out
  starts SurelyIntoRed = have.surely_in
  starts SurelyOutOfRed = have.surely_out

pub last-is : (tints : List Tint) (tint : Tint) (turn : ℕ) → length tints ≡ turn → slice_get (tints ++ tint ∷ []) turn ≡ Some tint
last-is tints tint turn count = ap (λ k. slice_get (tints ++ tint ∷ []) k) (sym count) ∙ slice_get-end tints tint

-- and by the latest starts
pub starts-tell : (rate turn : ℕ) (all : List Tint) (tint : Tint) (run : ℕ) (latest : Latest) (words : List ℕ) → slice_get all turn ≡ Some tint
    → HasRun all turn run → HaveStarts tint run latest words
    → ((change : Change) (n : ℕ) → n < 8 → IsLatest (EndsWith change all (suc n) turn) rate turn (get_or (latest_of change latest) n 0))
    → TellsOf rate all turn (λ i. get_or words i 0)
starts-tell rate turn all tint run latest words last has have are = record {
  tint = last ∙ ap Some (sym have.tint_is);
  run = subst (HasRun all turn) (sym have.run_is) has;
  starts = starts;
} where
  starts : (change : Change) → HasStarts rate turn all change (get_or words (column_of change) 0)
  starts change zero few = latest-self rate turn
  starts change (suc n) few =
      subst (IsLatest (EndsWith change all (suc n) turn) rate turn) (sym (have.starts change n (omega arith))) (are change n (omega arith))
