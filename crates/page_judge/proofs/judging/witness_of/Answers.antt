-- The window is one of those that are looked at, and its witness is made.
use Rattle.std.proofs.lemmas.Result.{IfOk-weaker}
use Rattle.page_model.specs.declared.witness.Witness.{Witness}
use Rattle.witness_make.specs.Made.{IsMade}
use Rattle.page_judge.specs.Judgement.{IsFail}
use Rattle.page_judge.proofs.JudgedLemmas.{fail-of}
use Rattle.page_judge.proofs.ReadyLemmas.{ready-cuts}
use Rattle.page_judge.proofs.judging.witness_of.Goals as goal

pub make-requires-clause-cut : goal.make-requires-clause-cut
make-requires-clause-cut c =
    rw (c.scene.ensures, c.setup.ensures, c.cuts.ensures)
    (ready-cuts c.args.sweep.now c.args.bad.start c.requires.whole c.requires.failed.first.before)

pub make-requires-clause-bad : goal.make-requires-clause-bad
make-requires-clause-bad c = rw (c.scene.ensures, c.setup.ensures) c.requires.failed.first.bad

pub returns : goal.returns
returns c =
    IfOk-weaker c.make.result
    (IsMade c.args.sweep.now.scene c.args.sweep.now.setup c.args.sweep.now.cuts c.args.bad.start c.args.bad.x c.args.bad.y)
    (IsFail c.args.sweep.now.scene c.args.sweep.now.setup)
    (λ (w : Witness) made. fail-of c.args.sweep.now c.args.bad.start c.args.bad.x c.args.bad.y w c.requires.ready c.requires.whole c.requires.failed made)
    (rw (← c.scene.ensures, ← c.setup.ensures, ← c.cuts.ensures) c.make.ensures)
