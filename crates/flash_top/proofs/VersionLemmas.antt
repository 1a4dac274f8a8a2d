-- A witness that a run tells has a rate that a version of its text tells.
use Rattle.std.proofs.Common.{ℕ, List, Option, inl, inr, subst, sym}
use Rattle.io_edge.specs.Files.{Files}
use Rattle.page_model.specs.Viewing.{Viewing}
use Rattle.page_model.specs.declared.colour.Rgb.{Rgb}
use Rattle.flash_words.specs.Words.{Spot}
use Rattle.flash_words.specs.declared.words.Command.{Command}
use Rattle.flash_words.specs.declared.words.Command.TheVariants.{Check, Verify, Tint, Light, Demo}
use Rattle.flash_top.specs.Demos.{IsDemo}
use Rattle.flash_top.specs.Lighting.{IsLit}
use Rattle.flash_top.specs.Outcomes.{ComesTo, IsOutcome}
use Rattle.flash_top.specs.Texts.{CanBeTold}
use Rattle.flash_top.specs.Verdicts.{IsTinted, IsVerdict, IsVerified}
use Rattle.flash_top.specs.declared.outcome.Outcome.{Outcome}
use Rattle.flash_top.specs.declared.outcome.Outcome.TheVariants.{Fail}

verdict_told : (setup : Viewing) (bytes : List ℕ) (outcome : Outcome) → IsVerdict setup bytes outcome → CanBeTold outcome
verdict_told setup bytes (Fail witness) is = is.holds.form.told
verdict_told setup bytes other is = tt

verified_told : (setup : Viewing) (bytes text : List ℕ) (outcome : Outcome) → IsVerified setup bytes text outcome → CanBeTold outcome
verified_told setup bytes text (Fail witness) is = absurd is
verified_told setup bytes text other is = tt

tinted_told : (setup : Viewing) (spot : Spot) (bytes : List ℕ) (outcome : Outcome) → IsTinted setup spot bytes outcome → CanBeTold outcome
tinted_told setup spot bytes (Fail witness) is = absurd is
tinted_told setup spot bytes other is = tt

lit_told : (colour : Rgb) (outcome : Outcome) → IsLit colour outcome → CanBeTold outcome
lit_told colour (Fail witness) is = absurd is
lit_told colour other is = tt

demo_told : (setup : Viewing) (number : ℕ) (outcome : Outcome) → IsDemo setup number outcome → CanBeTold outcome
demo_told setup number (Fail witness) is = absurd is
demo_told setup number other is = tt

comes_told : (words : List (List ℕ)) (files : Option Files) (command : Command) (outcome : Outcome) → ComesTo words files command outcome → CanBeTold outcome
comes_told words files (Check page setup) outcome is = verdict_told setup is.bytes outcome is.holds
comes_told words files (Verify page witness setup) outcome is = verified_told setup is.bytes is.holds.bytes outcome is.holds.holds
comes_told words files (Tint page setup frame x y) outcome is =
    tinted_told setup (record { frame = frame; column = x; row = y }) is.bytes outcome is.holds
comes_told words files (Light colour) outcome is = lit_told colour outcome is
comes_told words files (Demo number setup) outcome is = demo_told setup number outcome is

pub outcome_told : (words : List (List ℕ)) (files : Option Files) (before after : ℕ) (outcome : Outcome) → IsOutcome words files before after outcome → CanBeTold outcome
outcome_told words files before after outcome (inl refused) = subst CanBeTold (sym refused.told) tt
outcome_told words files before after outcome (inr obeyed) =
    elim obeyed.answered [
      | inl unread ↦ subst CanBeTold (sym unread.told) tt
      | inr comes ↦ comes_told words files obeyed.command outcome comes
    ]
