-- What the words are read as is the one command that they spell.
use Rattle.std.specs.Prelude.{map, string_bytes}
use Rattle.flash_top.proofs.ClearLemmas.{check-decides, one-read}
use Rattle.flash_top.proofs.laws.check_decides.Goals as goal

pub returns : goal.returns
returns c =
    check-decides (map string_bytes c.args.words.now)
    (λ one other first second. one-read c.command-command.result one other (c.command-command.ensures.spelled one first) (c.command-command.ensures.spelled other second))
