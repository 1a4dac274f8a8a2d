-- A fault that is told was counted.
use Rattle.std.proofs.Common.{ℕ, ◌≡◌, inl, inr, List, Option, refl, sym, subst, ◌∙◌, arith}
use Rattle.io_edge.specs.Faults.{Rose}
use Rattle.io_edge.specs.Files.{Files}
use Rattle.flash_top.specs.Files.{OrUnread}
use Rattle.flash_top.specs.Outcomes.{ComesTo, IsOutcome}
use Rattle.flash_top.specs.Texts.{status_of}
use Rattle.flash_top.specs.declared.outcome.Outcome.{Outcome}
use Rattle.flash_top.specs.declared.outcome.Outcome.TheVariants.{WordsRefused, ReadFault, Refused, Pass, Fail, TooManyFrames, TooMuchWork, Enclosed, NoWitness, Unaccepted, Accepted, Painted, Lit, Shown, NoMemory}
use Rattle.flash_top.specs.declared.status.Status.TheVariants as ended
use Rattle.flash_words.specs.declared.words.Command.{Command}
use Rattle.flash_words.specs.declared.words.Command.TheVariants.{Check, Verify, Tint, Light, Demo}
use Rattle.fault_laws.specs.Told.{ReadFaultsAreCounted, WriteFaultsAreCounted}

-- no command comes to a read fault by what the files hold
comes-to_none : (words : List (List ℕ)) (files : Option Files) (command : Command) → ComesTo words files command ReadFault → ⊥
comes-to_none words files (Check page setup) h = h.holds
comes-to_none words files (Verify page witness setup) h = h.holds.holds
comes-to_none words files (Tint page setup frame x y) h = h.holds
comes-to_none words files (Light colour) h = h
comes-to_none words files (Demo number setup) h = h

outcome-counted : (words : List (List ℕ)) (files : Option Files) (before after : ℕ) → IsOutcome words files before after ReadFault → Rose before after
outcome-counted words files before after (inl refused) = absurd (clash refused.told)
  where
    clash : ReadFault ≡ WordsRefused → ⊥
    clash e = cc
outcome-counted words files before after (inr obeyed) = of_answer obeyed.answered
  where
    of_answer : OrUnread before after ReadFault (ComesTo words files obeyed.command ReadFault) → Rose before after
    of_answer (inl unread) = unread.counted
    of_answer (inr comes) = absurd (comes-to_none words files obeyed.command comes)

-- the status of a read fault is that of no other outcome
own_read : (outcome : Outcome) → status_of outcome ≡ ended.ReadFault → outcome ≡ ReadFault
own_read WordsRefused e = absurd (cc)
own_read ReadFault e = refl
own_read (Refused refusal) e = absurd (cc)
own_read (Pass frames apart) e = absurd (cc)
own_read (Fail witness) e = absurd (cc)
own_read TooManyFrames e = absurd (cc)
own_read (TooMuchWork cells frames) e = absurd (cc)
own_read (Enclosed start x y) e = absurd (cc)
own_read NoWitness e = absurd (cc)
own_read (Unaccepted fault) e = absurd (cc)
own_read (Accepted start area) e = absurd (cc)
own_read (Painted tint) e = absurd (cc)
own_read (Lit light) e = absurd (cc)
own_read (Shown number judgement) e = absurd (cc)
own_read NoMemory e = absurd (cc)

-- the status of a write fault is that of no outcome
own_write : (outcome : Outcome) → status_of outcome ≡ ended.WriteFault → ⊥
own_write WordsRefused e = cc
own_write ReadFault e = cc
own_write (Refused refusal) e = cc
own_write (Pass frames apart) e = cc
own_write (Fail witness) e = cc
own_write TooManyFrames e = cc
own_write (TooMuchWork cells frames) e = cc
own_write (Enclosed start x y) e = cc
own_write NoWitness e = cc
own_write (Unaccepted fault) e = cc
own_write (Accepted start area) e = cc
own_write (Painted tint) e = cc
own_write (Lit light) e = cc
own_write (Shown number judgement) e = cc
own_write NoMemory e = cc

pub read-counted : ReadFaultsAreCounted
read-counted words files before after outcome sunk status is (inl all) e =
    outcome-counted words files before after (subst (IsOutcome words files before after) (own_read outcome (sym all.status_is ∙ e)) is)
read-counted words files before after outcome sunk status is (inr off) e = absurd (clash (sym off.status_is ∙ e))
  where
    clash : ended.WriteFault ≡ ended.ReadFault → ⊥
    clash e = cc

pub write-counted : WriteFaultsAreCounted
write-counted outcome sunk status (inl all) e = absurd (own_write outcome (sym all.status_is ∙ e))
write-counted outcome sunk status (inr off) e = off.counted

-- a count that stands still below its greatest value didn't rise
pub still : Rose 0 0 → ⊥
still (inl less) = omega arith
still (inr greatest) = omega arith
