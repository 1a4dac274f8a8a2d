-- A page that is loaded has no other cause than that of its judgement.
use Rattle.std.proofs.Common.{◌≡◌, ◌⊎◌, ℕ, List, inl, inr, subst, sym, Result, Ok, Some}
use Rattle.page_model.specs.Viewing.{Viewing}
use Rattle.page_model.specs.declared.scene.Scene.{Scene}
use Rattle.io_edge.specs.Faults.{Rose}
use Rattle.io_edge.specs.Files.{Files, bytes_of}
use Rattle.page_judge.specs.Clear.{IsPassOrFail}
use Rattle.page_judge.specs.Judgement.{IsJudgement}
use Rattle.page_judge.specs.declared.types.Judgement.{Judgement}
use Rattle.page_judge.specs.declared.types.Judgement.TheVariants.{Pass, Fail, Frames, Work, Enclosure}
use Rattle.page_judge.proofs.ClearLemmas.{clear-decided}
use Rattle.flash_words.specs.Words.{Spells, word_at}
use Rattle.flash_words.specs.declared.words.Command.{Command}
use Rattle.flash_words.specs.declared.words.Command.TheVariants.{Check}
use Rattle.flash_top.specs.Clear.{CheckDecides, ClearPagesAreDecided, IsClearPage, IsDecision}
use Rattle.flash_top.specs.Files.{OrUnread}
use Rattle.flash_top.specs.Outcomes.{ComesTo, IsOutcome}
use Rattle.flash_top.specs.Steps.{told}
use Rattle.flash_top.specs.Verdicts.{IsVerdict}
use Rattle.flash_top.specs.declared.outcome.Outcome.{Outcome}
use Rattle.flash_top.specs.declared.outcome.Outcome.TheVariants.{NoMemory}
use Rattle.flash_top.proofs.AnswerLemmas.{HasCause, TellsJudgement, verdict_cause}
use Rattle.flash_top.proofs.RefusalLemmas.{loaded_once, refused_or_loaded}

decision-told : (judgement : Judgement) → IsPassOrFail judgement → IsDecision (told judgement)
decision-told (Pass frames apart) is = tt
decision-told (Fail witness) is = tt
decision-told Frames is = is
decision-told (Work cells frames) is = is
decision-told (Enclosure start x y) is = is

decision-of : (setup : Viewing) (bytes : List ℕ) (outcome : Outcome) → IsClearPage setup bytes → HasCause bytes (TellsJudgement setup) outcome
    → IsDecision outcome
decision-of setup bytes outcome page (inl want) = subst IsDecision (sym want) tt
decision-of setup bytes outcome page (inr (inl is)) = absurd (refused_or_loaded bytes is.refusal page.scene is.cause page.loaded)
decision-of setup bytes outcome page (inr (inr is)) =
    let judged = subst (λ (scene : Scene). IsJudgement scene setup is.tells.judgement) (loaded_once bytes page.scene is.scene page.loaded is.loaded) is.tells.judged in
    subst IsDecision (sym is.tells.told_is)
    (decision-told is.tells.judgement (clear-decided page.scene setup is.tells.judgement page.counts page.clear judged))

pub clear-decision : ClearPagesAreDecided
clear-decision setup bytes outcome page is = decision-of setup bytes outcome page (verdict_cause setup bytes outcome is)

-- what is read is one thing
pub one-read : {A E : Type 0} (read : Result A E) (one other : A) → read ≡ Ok one → read ≡ Ok other → one ≡ other
one-read read one other first second = cc

-- the command is the one that the words spell
pub check-decides : (words : List (List ℕ)) → ((one other : Command) → Spells words one → Spells words other → one ≡ other) → CheckDecides words
check-decides words alone files before after page setup outcome spelled clear no_fault (inl refused) =
    absurd (refused.none (Check page setup) spelled)
check-decides words alone files before after page setup outcome spelled clear no_fault (inr obeyed) =
    of_command obeyed.answered
  where
    of_command : OrUnread before after outcome (ComesTo words (Some files) obeyed.command outcome) → IsDecision outcome
    of_command (inl unread) = absurd (no_fault unread.counted)
    of_command (inr comes) =
        let file = subst (λ (c : Command). ComesTo words (Some files) c outcome) (alone obeyed.command (Check page setup) obeyed.spelled spelled) comes in
        clear-decision setup (bytes_of files (word_at words page)) outcome clear
        (subst (λ (bytes : List ℕ). IsVerdict setup bytes outcome) file.is_file file.holds)
