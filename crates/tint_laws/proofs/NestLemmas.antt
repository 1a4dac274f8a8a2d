-- Proofs of how flashes by tints nest.
use Rattle.std.proofs.Common.{ℕ, inl, inr, arith}
use Rattle.page_model.specs.declared.colour.Rgb.{Rgb}
use Rattle.page_model.specs.declared.colour.Tint.{Tint}
use Rattle.page_model.specs.Change.{IsPossibleRise, IsSureRise, IsPossibleFall, IsSureFall}
use Rattle.page_model.specs.Enclosure.{Kind, exact, own, wide}
use Rattle.page_model.specs.Flash.{Between, Flashes, IsFlagged, colours_at}
use Rattle.page_model.specs.Light.{IsRise, IsFall}
use Rattle.page_model.specs.Red.{IsIntoRed, IsOutOfRed}
use Rattle.page_model.specs.Time.{window_of}
use Rattle.page_model.specs.Window.{PossiblyInto, PossiblyOut, SurelyInto, SurelyOut, PossiblyFlashes, SurelyFlashes, IsPossiblyFlagged, IsSurelyFlagged}
use Rattle.flash_laws.specs.FlagLaws.{CarriesOver}
use Rattle.tint_laws.specs.NestLaws.{AreOf, LieIn, tints_at, FlashesNest, BadWindowsNest}
use Rattle.flash_laws.specs.SureLaws.{IsOfAll, IsOfSome}
use Rattle.flash_laws.proofs.ChainLemmas.{has_chain-carried}
use Rattle.flash_laws.proofs.FlagLemmas.{many-carried}
use Rattle.tint_laws.proofs.NarrowLemmas.{Narrows, Widens, sure_rise-narrows, sure_fall-narrows, possible_rise-widens, possible_fall-widens, sure_into-narrows, sure_out-narrows, possible_into-widens, possible_out-widens}
use Rattle.flash_laws.proofs.SureLemmas.{sure_changes_are_changes, changes_are_possible}

-- changes carry over a window where they do between tints and colours
narrowed : (Outer Inner : Tint → Tint → Type 0) → Narrows Outer Inner → (outer inner : ℕ → Tint) (start window : ℕ)
    → LieIn start window outer inner → CarriesOver start window (Between Outer outer) (Between Inner inner)
narrowed Outer Inner narrows outer inner start window lie j k low less high change =
    narrows (outer j) (outer k) (inner j) (inner k) (lie j low (omega arith)) (lie k (omega arith) high) change

widened : (Inner Outer : Tint → Tint → Type 0) → Widens Inner Outer → (outer inner : ℕ → Tint) (start window : ℕ)
    → LieIn start window outer inner → CarriesOver start window (Between Inner inner) (Between Outer outer)
widened Inner Outer widens outer inner start window lie j k low less high change =
    widens (outer j) (outer k) (inner j) (inner k) (lie j low (omega arith)) (lie k (omega arith) high) change

sure-so : (Surely : Tint → Tint → Type 0) (Changes : Rgb → Rgb → Type 0) → IsOfAll Surely Changes → (tints : ℕ → Tint)
    (colours : ℕ → Rgb) (start window : ℕ) → AreOf start window tints colours
    → CarriesOver start window (Between Surely tints) (Between Changes colours)
sure-so Surely Changes all tints colours start window are j k low less high change =
    all (tints j) (tints k) (colours j) (colours k) (are j low (omega arith)) (are k (omega arith) high) change

so-possible : (Possibly : Tint → Tint → Type 0) (Changes : Rgb → Rgb → Type 0) → IsOfSome Possibly Changes → (tints : ℕ → Tint)
    (colours : ℕ → Rgb) (start window : ℕ) → AreOf start window tints colours
    → CarriesOver start window (Between Changes colours) (Between Possibly tints)
so-possible Possibly Changes some tints colours start window are j k low less high change =
    some (tints j) (tints k) (colours j) (colours k) (are j low (omega arith)) (are k (omega arith) high) change

-- red changes of each kind
into-sure : (kind : Kind) → IsOfAll (SurelyInto kind) IsIntoRed
into-sure exact = sure_changes_are_changes.into_red
into-sure own = sure_changes_are_changes.into_red
into-sure wide = sure_changes_are_changes.into_red_widely

out-sure : (kind : Kind) → IsOfAll (SurelyOut kind) IsOutOfRed
out-sure exact = sure_changes_are_changes.out_of_red
out-sure own = sure_changes_are_changes.out_of_red
out-sure wide = sure_changes_are_changes.out_of_red_widely

into-possible : (kind : Kind) → IsOfSome (PossiblyInto kind) IsIntoRed
into-possible exact = changes_are_possible.into_red
into-possible own = changes_are_possible.into_red
into-possible wide = changes_are_possible.into_red_widely

out-possible : (kind : Kind) → IsOfSome (PossiblyOut kind) IsOutOfRed
out-possible exact = changes_are_possible.out_of_red
out-possible own = changes_are_possible.out_of_red
out-possible wide = changes_are_possible.out_of_red_widely

pub flashes-surely_own : (outer inner : ℕ → Tint) (start window : ℕ) → LieIn start window outer inner
    → SurelyFlashes wide outer start window → SurelyFlashes own inner start window
flashes-surely_own outer inner start window lie flashes =
    elim flashes [
      | inl general ↦ inl (has_chain-carried IsSureRise IsSureFall IsSureRise IsSureFall outer inner start window
          (narrowed IsSureRise IsSureRise sure_rise-narrows outer inner start window lie) (narrowed IsSureFall IsSureFall sure_fall-narrows outer inner start window lie) general)
      | inr red ↦ inr (has_chain-carried (SurelyInto wide) (SurelyOut wide) (SurelyInto own) (SurelyOut own) outer inner start window
          (narrowed (SurelyInto wide) (SurelyInto own) sure_into-narrows outer inner start window lie) (narrowed (SurelyOut wide) (SurelyOut own) sure_out-narrows outer inner start window lie) red)
    ]

pub flashes-so : (kind : Kind) (tints : ℕ → Tint) (colours : ℕ → Rgb) (start window : ℕ) → AreOf start window tints colours
    → SurelyFlashes kind tints start window → Flashes colours start window
flashes-so kind tints colours start window are flashes =
    elim flashes [
      | inl general ↦ inl (has_chain-carried IsSureRise IsSureFall IsRise IsFall tints colours start window
          (sure-so IsSureRise IsRise sure_changes_are_changes.rise tints colours start window are) (sure-so IsSureFall IsFall sure_changes_are_changes.fall tints colours start window are) general)
      | inr red ↦ inr (has_chain-carried (SurelyInto kind) (SurelyOut kind) IsIntoRed IsOutOfRed tints colours start window
          (sure-so (SurelyInto kind) IsIntoRed (into-sure kind) tints colours start window are) (sure-so (SurelyOut kind) IsOutOfRed (out-sure kind) tints colours start window are) red)
    ]

pub flashes-possible : (kind : Kind) (tints : ℕ → Tint) (colours : ℕ → Rgb) (start window : ℕ)
    → AreOf start window tints colours → Flashes colours start window → PossiblyFlashes kind tints start window
flashes-possible kind tints colours start window are flashes =
    elim flashes [
      | inl general ↦ inl (has_chain-carried IsRise IsFall IsPossibleRise IsPossibleFall colours tints start window
          (so-possible IsPossibleRise IsRise changes_are_possible.rise tints colours start window are) (so-possible IsPossibleFall IsFall changes_are_possible.fall tints colours start window are) general)
      | inr red ↦ inr (has_chain-carried IsIntoRed IsOutOfRed (PossiblyInto kind) (PossiblyOut kind) colours tints start window
          (so-possible (PossiblyInto kind) IsIntoRed (into-possible kind) tints colours start window are) (so-possible (PossiblyOut kind) IsOutOfRed (out-possible kind) tints colours start window are) red)
    ]

pub flashes-possibly_wide : (outer inner : ℕ → Tint) (start window : ℕ) → LieIn start window outer inner
    → PossiblyFlashes own inner start window → PossiblyFlashes wide outer start window
flashes-possibly_wide outer inner start window lie flashes =
    elim flashes [
      | inl general ↦ inl (has_chain-carried IsPossibleRise IsPossibleFall IsPossibleRise IsPossibleFall inner outer start window
          (widened IsPossibleRise IsPossibleRise possible_rise-widens outer inner start window lie) (widened IsPossibleFall IsPossibleFall possible_fall-widens outer inner start window lie) general)
      | inr red ↦ inr (has_chain-carried (PossiblyInto own) (PossiblyOut own) (PossiblyInto wide) (PossiblyOut wide) inner outer start window
          (widened (PossiblyInto own) (PossiblyInto wide) possible_into-widens outer inner start window lie) (widened (PossiblyOut own) (PossiblyOut wide) possible_out-widens outer inner start window lie) red)
    ]

pub flashes_nest : FlashesNest
flashes_nest = record {
  surely_own = flashes-surely_own;
  so = flashes-so;
  possible = flashes-possible;
  possibly_wide = flashes-possibly_wide;
}

pub bad_windows_nest : BadWindowsNest
bad_windows_nest = record {
  surely_own = λ outer inner setup start x y lie bad.
      many-carried (IsSurelyFlagged wide outer setup start) (IsSurelyFlagged own inner setup start) setup x y
      (λ column row within below flagged. flashes-surely_own (tints_at outer column row) (tints_at inner column row) start (window_of setup) (lie column row within below) flagged)
      bad;
  so = λ kind tinting painting setup start x y are bad.
      many-carried (IsSurelyFlagged kind tinting setup start) (IsFlagged painting setup start) setup x y
      (λ column row within below flagged. flashes-so kind (tints_at tinting column row) (colours_at painting column row) start (window_of setup) (are column row within below) flagged)
      bad;
  possible = λ kind tinting painting setup start x y are bad.
      many-carried (IsFlagged painting setup start) (IsPossiblyFlagged kind tinting setup start) setup x y
      (λ column row within below flagged. flashes-possible kind (tints_at tinting column row) (colours_at painting column row) start (window_of setup) (are column row within below) flagged)
      bad;
  possibly_wide = λ outer inner setup start x y lie bad.
      many-carried (IsPossiblyFlagged own inner setup start) (IsPossiblyFlagged wide outer setup start) setup x y
      (λ column row within below flagged. flashes-possibly_wide (tints_at outer column row) (tints_at inner column row) start (window_of setup) (lie column row within below) flagged)
      bad;
}
