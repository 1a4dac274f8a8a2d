use Rattle.css_declarations.proofs.InlineLemmas.{inline_read, inline_faulty}
use Rattle.css_declarations.proofs.inline.read_tokens.Goals as goal

pub returns-in-Ok : goal.returns-in-Ok
returns-in-Ok c =
    inline_read c.args.text.now c.args.part c.args.tokens.now c.in-Ok.field-0.now c.new-decls.result c.declarations.new.decls c.requires c.new-decls.ensures c.in-Ok.ensures

pub returns-in-Err : goal.returns-in-Err
returns-in-Err c = inline_faulty c.args.text.now c.args.part c.args.tokens.now c.in-Err.fault c.requires c.in-Err.ensures
