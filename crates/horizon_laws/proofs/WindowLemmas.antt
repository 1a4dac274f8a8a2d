-- A window's chains, flags and badness are those of the window one period earlier, of what is seen one period later: of any states and
-- whatever is seen of them, so that exact and loose states share one proof.
use Rattle.std.proofs.Common.{◌≡◌, ℕ, zero, suc, ◌+◌, ◌<◌, ◌≤◌, List, [], ◌∷◌, length, refl, arith, ap, sym, subst, ◌∙◌, inl, inr}
use Rattle.std.specs.Prelude.{◌-◌, ℤ, ◌⊎◌, ◌↔◌, All, Some, map, slice_get, slice_index_or}
use Rattle.std.specs.List.Sorted.{IsStrictlyIncreasing}
use Rattle.std.proofs.lemmas.Bool.{cases_lt}
use Rattle.std.proofs.lemmas.List.Elements.{All-head, All-tail}
use Rattle.page_model.specs.declared.setup.Setup.{Setup}
use Rattle.page_model.specs.declared.scene.Layer.{Layer}
use Rattle.page_model.specs.declared.scene.Scene.{Scene}
use Rattle.page_model.specs.Flash.{Alternates, AlternatesEitherWay, Between, HasChain, HasManyFlagged, IsChain}
use Rattle.page_model.specs.Time.{window_of}

-- frames from a period on are earlier frames, each one period later
abbrev later : ℕ → List ℕ → List ℕ
later period frames = map (λ k. k + period) frames

earlier : (period start : ℕ) (frames : List ℕ) → All (λ k. start + period ≤ k) frames → (js : List ℕ) × (frames ≡ later period js)
earlier period start [] all = ([], refl)
earlier period start (k ∷ rest) all =
    let others = earlier period start rest (All-tail (λ k. start + period ≤ k) k rest all) in
    let here : start + period ≤ k = All-head (λ k. start + period ≤ k) k rest all in
    let sum : k - period + period ≡ k = omega arith in
    ((k - period) ∷ others.0, cc)

later-length : (period : ℕ) (js : List ℕ) → length (later period js) ≡ length js
later-length period [] = refl
later-length period (j ∷ js) = ap suc (later-length period js)

later-at : (period k d : ℕ) (js : List ℕ) → k < length js → slice_index_or (later period js) k d ≡ slice_index_or js k d + period
later-at period k d [] below = absurd (omega arith)
later-at period zero d (j ∷ js) below = refl
later-at period (suc k) d (j ∷ js) below = later-at period k d js (omega arith)

later-rising : (period : ℕ) (js : List ℕ) → IsStrictlyIncreasing (later period js) → IsStrictlyIncreasing js
later-rising period js rising k below =
    let same = later-length period js in
    let step = rising k (omega arith) in
    let one = later-at period k 0 js (omega arith) in
    let other = later-at period (k + 1) 0 js (omega arith) in
    omega arith

-- what is seen one period later
abbrev pub seen_later : {C : Type 0} → ℕ → (ℕ → C) → ℕ → C
seen_later period seen k = seen (k + period)

later-rises : (period : ℕ) (js : List ℕ) → IsStrictlyIncreasing js → IsStrictlyIncreasing (later period js)
later-rises period js rising k below =
    let same = later-length period js in
    let step = rising k (omega arith) in
    let one = later-at period k 0 js (omega arith) in
    let other = later-at period (k + 1) 0 js (omega arith) in
    omega arith

alternates-earlier :
    {C : Type 0} (One Other : C → C → Type 0) (seen : ℕ → C) (period : ℕ) (js : List ℕ)
    → Alternates (Between One seen) (Between Other seen) (later period js)
    → Alternates (Between One (seen_later period seen)) (Between Other (seen_later period seen)) js
alternates-earlier One Other seen period [] h = tt
alternates-earlier One Other seen period (j ∷ []) h = tt
alternates-earlier One Other seen period (j ∷ (k ∷ js)) h = (h.0, alternates-earlier Other One seen period (k ∷ js) h.1)

alternates-later :
    {C : Type 0} (One Other : C → C → Type 0) (seen : ℕ → C) (period : ℕ) (js : List ℕ)
    → Alternates (Between One (seen_later period seen)) (Between Other (seen_later period seen)) js
    → Alternates (Between One seen) (Between Other seen) (later period js)
alternates-later One Other seen period [] h = tt
alternates-later One Other seen period (j ∷ []) h = tt
alternates-later One Other seen period (j ∷ (k ∷ js)) h = (h.0, alternates-later Other One seen period (k ∷ js) h.1)

chain-earlier :
    {C : Type 0} (One Other : C → C → Type 0) (seen : ℕ → C) (start window period : ℕ) (frames : List ℕ)
    → IsChain (Between One seen) (Between Other seen) (start + period) window frames
    → HasChain One Other (seen_later period seen) start window
chain-earlier One Other seen start window period frames chain =
    let found = earlier period start frames (λ k d below. (chain.within k d below).0) in
    let js = found.0 in
    let within : All (λ k. (start + period ≤ k) × (k ≤ start + period + window)) (later period js) =
    subst (All (λ k. (start + period ≤ k) × (k ≤ start + period + window))) found.1 chain.within in
    let same = later-length period js in
    let ways : AlternatesEitherWay (Between One seen) (Between Other seen) (later period js) =
    subst (AlternatesEitherWay (Between One seen) (Between Other seen)) found.1 chain.alternates in (
      js,
      record {
        nine = sym same ∙ (ap length (sym found.1) ∙ chain.nine);
        rising = later-rising period js (subst IsStrictlyIncreasing found.1 chain.rising);
        within = λ k d below.
            let q = within k d (omega arith) in
            let lo = q.0 in
            let hi = q.1 in
            let at = later-at period k d js below in
            (omega arith, omega arith);
        alternates = elim ways [
          | inl a ↦ inl (alternates-earlier One Other seen period js a)
          | inr b ↦ inr (alternates-earlier Other One seen period js b)
        ];
      },
    )

chain-later :
    {C : Type 0} (One Other : C → C → Type 0) (seen : ℕ → C) (start window period : ℕ) (js : List ℕ)
    → IsChain (Between One (seen_later period seen)) (Between Other (seen_later period seen)) start window js
    → HasChain One Other seen (start + period) window
chain-later One Other seen start window period js chain =
    let same = later-length period js in (
      later period js,
      record {
        nine = same ∙ chain.nine;
        rising = later-rises period js chain.rising;
        within = λ k d below.
            let q = chain.within k d (omega arith) in
            let lo = q.0 in
            let hi = q.1 in
            let at = later-at period k d js (omega arith) in
            (omega arith, omega arith);
        alternates = elim chain.alternates [
          | inl a ↦ inl (alternates-later One Other seen period js a)
          | inr b ↦ inr (alternates-later Other One seen period js b)
        ];
      },
    )

-- a pixel has one of two sorts of chains, by what is seen of it
abbrev pub FlaggedBy : {C : Type 0} → (C → C → Type 0) → (C → C → Type 0) → (C → C → Type 0) → (C → C → Type 0) → (ℕ → ℕ → ℕ → C) → ℕ → ℕ → ℕ → ℕ → Type 0
FlaggedBy Up Down Into Out seen start window column row =
    HasChain Up Down (λ frame. seen frame column row) start window ⊎ HasChain Into Out (λ frame. seen frame column row) start window

pub flagged-earlier :
    {C : Type 0} (Up Down Into Out : C → C → Type 0) (seen : ℕ → ℕ → ℕ → C) (start window period column row : ℕ)
    → FlaggedBy Up Down Into Out seen (start + period) window column row
    → FlaggedBy Up Down Into Out (seen_later period seen) start window column row
flagged-earlier Up Down Into Out seen start window period column row (inl light) =
    inl (chain-earlier Up Down (λ frame. seen frame column row) start window period light.0 light.1)
flagged-earlier Up Down Into Out seen start window period column row (inr red) =
    inr (chain-earlier Into Out (λ frame. seen frame column row) start window period red.0 red.1)

flagged-later :
    {C : Type 0} (Up Down Into Out : C → C → Type 0) (seen : ℕ → ℕ → ℕ → C) (start window period column row : ℕ)
    → FlaggedBy Up Down Into Out (seen_later period seen) start window column row
    → FlaggedBy Up Down Into Out seen (start + period) window column row
flagged-later Up Down Into Out seen start window period column row (inl light) =
    inl (chain-later Up Down (λ frame. seen frame column row) start window period light.0 light.1)
flagged-later Up Down Into Out seen start window period column row (inr red) =
    inr (chain-later Into Out (λ frame. seen frame column row) start window period red.0 red.1)

many-carries :
    (One Other : ℕ → ℕ → Type 0) (setup : Setup) (x y : ℤ) → ((column row : ℕ) → One column row → Other column row)
    → HasManyFlagged One setup x y → HasManyFlagged Other setup x y
many-carries One Other setup x y carries many = record {
  marks = many.marks;
  flagged = λ column row marked. carries column row (many.flagged column row marked);
  inside = many.inside;
  many = many.many;
}

-- a run has states in the frames of a window, by whatever is known of a layer's state in a frame
abbrev pub RunsIn : {S : Type 0} → (ℕ → Layer → S → Type 0) → Scene → Setup → ℕ → (ℕ → ℕ → S) → Type 0
RunsIn Is scene setup start run =
    (frame number : ℕ) (layer : Layer) → start ≤ frame → frame ≤ start + window_of setup
    → slice_get scene.layers number ≡ Some layer → Is frame layer (run frame number)

-- that repeats
abbrev pub Repeats : {S : Type 0} → (ℕ → Layer → S → Type 0) → Scene → ℕ → ℕ → Type 0
Repeats {S} Is scene settled period =
    (frame number : ℕ) (layer : Layer) (state : S) → settled ≤ frame → slice_get scene.layers number ≡ Some layer
    → (Is (frame + period) layer state ↔ Is frame layer state)

-- a run one period later, and one period earlier
run-later :
    {S : Type 0} (Is : ℕ → Layer → S → Type 0) (scene : Scene) (setup : Setup) (settled period start : ℕ) (run : ℕ → ℕ → S)
    → Repeats Is scene settled period → settled ≤ start → RunsIn Is scene setup (start + period) run
    → RunsIn Is scene setup start (seen_later period run)
run-later Is scene setup settled period start run repeats behind is frame number layer above below there =
    (repeats frame number layer (run (frame + period) number) (omega arith) there).0
    (is (frame + period) number layer (omega arith) (omega arith) there)

abbrev seen_earlier : {C : Type 0} → ℕ → (ℕ → C) → ℕ → C
seen_earlier period seen k = seen (k - period)

run-earlier :
    {S : Type 0} (Is : ℕ → Layer → S → Type 0) (scene : Scene) (setup : Setup) (settled period start : ℕ) (run : ℕ → ℕ → S)
    → Repeats Is scene settled period → settled ≤ start → RunsIn Is scene setup start run
    → RunsIn Is scene setup (start + period) (seen_earlier period run)
run-earlier Is scene setup settled period start run repeats behind is frame number layer above below there =
    let sum : frame - period + period ≡ frame = omega arith in
    subst (λ k. Is k layer (run (frame - period) number)) sum
    ((repeats (frame - period) number layer (run (frame - period) number) (omega arith) there).1
    (is (frame - period) number layer (omega arith) (omega arith) there))

back_again : (k period : ℕ) → k + period - period ≡ k
back_again k period = omega arith

-- with whatever states of a window many pixels are flagged
abbrev pub BadBy : {S C : Type 0} → (ℕ → Layer → S → Type 0) → ((ℕ → S) → ℕ → ℕ → C) → (C → C → Type 0) → (C → C → Type 0) → (C → C → Type 0) → (C → C → Type 0) → Scene → Setup → ℕ → ℤ → ℤ → Type 0
BadBy {S} Is look Up Down Into Out scene setup start x y =
    (run : ℕ → ℕ → S) → RunsIn Is scene setup start run
    → HasManyFlagged (FlaggedBy Up Down Into Out (λ frame. look (run frame)) start (window_of setup)) setup x y

-- so a window is bad where the one that starts a period later is
pub bad-earlier :
    {S C : Type 0} (Is : ℕ → Layer → S → Type 0) (look : (ℕ → S) → ℕ → ℕ → C) (Up Down Into Out : C → C → Type 0)
    (scene : Scene) (setup : Setup) (settled period start : ℕ) (x y : ℤ) → Repeats Is scene settled period → settled ≤ start
    → BadBy Is look Up Down Into Out scene setup (start + period) x y → BadBy Is look Up Down Into Out scene setup start x y
bad-earlier Is look Up Down Into Out scene setup settled period start x y repeats behind bad run is =
    let there = bad (seen_earlier period run) (run-earlier Is scene setup settled period start run repeats behind is) in
    let window : ℕ = window_of setup in
    subst (λ seen. HasManyFlagged (FlaggedBy Up Down Into Out seen start window) setup x y)
    (λ i k. look (run (back_again k period i)))
    (many-carries (FlaggedBy Up Down Into Out (λ k. look (run (k - period))) (start + period) window)
    (FlaggedBy Up Down Into Out (λ k. look (run (k + period - period))) start window) setup x y
    (λ column row flagged. flagged-earlier Up Down Into Out (λ k. look (run (k - period))) start window period column row flagged) there)

pub bad-later :
    {S C : Type 0} (Is : ℕ → Layer → S → Type 0) (look : (ℕ → S) → ℕ → ℕ → C) (Up Down Into Out : C → C → Type 0)
    (scene : Scene) (setup : Setup) (settled period start : ℕ) (x y : ℤ) → Repeats Is scene settled period → settled ≤ start
    → BadBy Is look Up Down Into Out scene setup start x y → BadBy Is look Up Down Into Out scene setup (start + period) x y
bad-later Is look Up Down Into Out scene setup settled period start x y repeats behind bad run is =
    let window : ℕ = window_of setup in
    many-carries (FlaggedBy Up Down Into Out (λ k. look (run (k + period))) start window)
    (FlaggedBy Up Down Into Out (λ k. look (run k)) (start + period) window) setup x y
    (λ column row flagged. flagged-later Up Down Into Out (λ k. look (run k)) start window period column row flagged)
    (bad (seen_later period run) (run-later Is scene setup settled period start run repeats behind is))

-- with some states of a window many pixels are flagged
pub record IsSomeBad {S C : Type 0} (Is : ℕ → Layer → S → Type 0) (look : (ℕ → S) → ℕ → ℕ → C) (Up Down Into Out : C → C → Type 0)
    (scene : Scene) (setup : Setup) (x y : ℤ) (start : ℕ) : Type 0 where
  pub run : ℕ → ℕ → S
  pub is : RunsIn Is scene setup start run
  pub many : HasManyFlagged (FlaggedBy Up Down Into Out (λ frame. look (run frame)) start (window_of setup)) setup x y

pub some-earlier :
    {S C : Type 0} (Is : ℕ → Layer → S → Type 0) (look : (ℕ → S) → ℕ → ℕ → C) (Up Down Into Out : C → C → Type 0)
    (scene : Scene) (setup : Setup) (settled period : ℕ) (x y : ℤ) (start : ℕ) → Repeats Is scene settled period → settled ≤ start
    → IsSomeBad Is look Up Down Into Out scene setup x y (start + period) → IsSomeBad Is look Up Down Into Out scene setup x y start
some-earlier Is look Up Down Into Out scene setup settled period x y start repeats behind some = record {
  run = seen_later period some.run;
  is = run-later Is scene setup settled period start some.run repeats behind some.is;
  many = many-carries (FlaggedBy Up Down Into Out (λ k. look (some.run k)) (start + period) (window_of setup))
      (FlaggedBy Up Down Into Out (λ k. look (some.run (k + period))) start (window_of setup)) setup x y
      (λ column row flagged. flagged-earlier Up Down Into Out (λ k. look (some.run k)) start (window_of setup) period column row flagged)
      some.many;
}

-- what holds of a window, and a period earlier where it holds a period later, holds of one that starts before the needed frames
pub record HoldsBefore (Holds : ℕ → Type 0) (end : ℕ) : Type 0 where
  pub start : ℕ
  pub before : start < end
  pub holds : Holds start

holds_up_to :
    (Holds : ℕ → Type 0) (settled period : ℕ) → 1 ≤ period
    → ((start : ℕ) → settled ≤ start → Holds (start + period) → Holds start)
    → (limit start : ℕ) → start ≤ limit → Holds start → HoldsBefore Holds (settled + period)
holds_up_to Holds settled period some earlier zero start within holds = record { start = start; before = omega arith; holds = holds }
holds_up_to Holds settled period some earlier (suc limit) start within holds =
    elim (cases_lt start (settled + period)) [
      | inl below ↦ record { start = start; before = below; holds = holds }
      | inr above ↦
          let sum : start ≡ start - period + period = omega arith in
          holds_up_to Holds settled period some earlier limit (start - period) (omega arith)
          (earlier (start - period) (omega arith) (subst Holds sum holds))
    ]

pub holds-before :
    (Holds : ℕ → Type 0) (settled period : ℕ) → 1 ≤ period
    → ((start : ℕ) → settled ≤ start → Holds (start + period) → Holds start)
    → (start : ℕ) → Holds start → HoldsBefore Holds (settled + period)
holds-before Holds settled period some earlier start holds = holds_up_to Holds settled period some earlier start start (omega arith) holds
