-- Where an outcome has a text of its own to tell, want of memory for that text is an outcome too.
use Rattle.std.proofs.Common.{◌≡◌, ℕ, List, Option, inl, inr, subst, sym}
use Rattle.io_edge.specs.Files.{Files}
use Rattle.flash_words.specs.declared.words.Command.{Command}
use Rattle.flash_words.specs.declared.words.Command.TheVariants.{Check, Verify, Tint, Light, Demo}
use Rattle.flash_top.specs.Outcomes.{ComesTo, IsOutcome}
use Rattle.flash_top.specs.Texts.{HasOwnText, IsToldFor}
use Rattle.flash_top.specs.declared.outcome.Outcome.{Outcome}
use Rattle.flash_top.specs.declared.outcome.Outcome.TheVariants.{NoMemory}

comes_wanting : (words : List (List ℕ)) (files : Option Files) (command : Command) (outcome : Outcome)
    → ComesTo words files command outcome → ComesTo words files command NoMemory
comes_wanting words files (Check page setup) outcome is = record { bytes = is.bytes; is_file = is.is_file; holds = tt }
comes_wanting words files (Verify page witness setup) outcome is = record {
  bytes = is.bytes;
  is_file = is.is_file;
  holds = record { bytes = is.holds.bytes; is_file = is.holds.is_file; holds = tt };
}
comes_wanting words files (Tint page setup frame x y) outcome is = record { bytes = is.bytes; is_file = is.is_file; holds = tt }
comes_wanting words files (Light colour) outcome is = tt
comes_wanting words files (Demo number setup) outcome is = tt

wanting : (words : List (List ℕ)) (files : Option Files) (before after : ℕ) (outcome : Outcome) → IsOutcome words files before after outcome
    → HasOwnText outcome → IsOutcome words files before after NoMemory
wanting words files before after outcome (inl refused) own = absurd (subst HasOwnText refused.told own)
wanting words files before after outcome (inr obeyed) own =
    elim obeyed.answered [
      | inl unread ↦ absurd (subst HasOwnText unread.told own)
      | inr comes ↦ inr (record {
        command = obeyed.command;
        spelled = obeyed.spelled;
        answered = inr (comes_wanting words files obeyed.command outcome comes);
      })
    ]

pub told_outcome : (words : List (List ℕ)) (files : Option Files) (before after : ℕ) (outcome told : Outcome)
    → IsOutcome words files before after outcome → HasOwnText outcome → IsToldFor outcome told → IsOutcome words files before after told
told_outcome words files before after outcome told is own (inl same) = subst (IsOutcome words files before after) (sym same) is
told_outcome words files before after outcome told is own (inr want) =
    subst (IsOutcome words files before after) (sym want) (wanting words files before after outcome is own)
