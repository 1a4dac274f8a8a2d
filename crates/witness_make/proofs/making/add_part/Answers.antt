-- One cell more, with a part or without.
use Rattle.std.proofs.Common.{rules}
use Rattle.witness_make.proofs.PartLemmas.{parts-more, parts-skipped}
use Rattle.witness_make.proofs.making.add_part.Goals as goal

pub returns-in_ok-push-in-Some : goal.returns-in_ok-push-in-Some
returns-in_ok-push-in-Some c =
    parts-more c.args.scene.now c.args.setup.now c.args.cuts.now c.args.bad.start c.args.bad.x c.args.bad.y c.args.number c.args.parts.now.items
    c.push.new.self.items c.in-Some.part c.requires.before c.in-Some.ensures (search rules)

pub returns-in-None : goal.returns-in-None
returns-in-None c =
    parts-skipped c.args.scene.now c.args.setup.now c.args.cuts.now c.args.bad.start c.args.bad.x c.args.bad.y c.args.number c.args.parts.now.items
    c.requires.before c.in-None.ensures
