use Rattle.css_selectors.specs.Readings.{Declares}
use Rattle.css_reader.proofs.RuleLemmas.{not_opened, inner_broken, not_closed, in_braces, are_all}
use Rattle.css_reader.proofs.rules.body_at.Goals as goal

pub returns-in-Err : goal.returns-in-Err
returns-in-Err c =
    not_opened c.args.end (Declares c.args.context c.args.text.now c.args.end) c.args.tokens.now c.in-Err.fault c.in-Err.ensures

pub returns-in-Err-declarations : goal.returns-in-Err-declarations
returns-in-Err-declarations c =
    inner_broken c.args.end (Declares c.args.context c.args.text.now c.args.end) c.args.tokens.now c.in-Ok.rest.now c.in-Ok.field-0-0 c.in-Ok.ensures c.in-Err-declarations.fault c.in-Err-declarations.ensures

pub returns-in-Ok-close_at : goal.returns-in-Ok-close_at
returns-in-Ok-close_at c =
    let text = c.args.text.now in
    in_braces c.args.end (Declares c.args.context text c.args.end) c.args.tokens.now c.in-Ok.rest.now c.in-Ok-declarations.rest.now c.in-Ok-close_at.rest.now c.in-Ok.field-0-0 c.in-Ok-close_at.field-0-0
    c.declarations.new.decls c.in-Ok.ensures
    (are_all c.args.context text c.args.end c.in-Ok.rest.now c.in-Ok-declarations.rest.now c.args.decls.now c.declarations.new.decls c.requires c.in-Ok-declarations.ensures) c.in-Ok-close_at.ensures

pub returns-in-Err-close_at : goal.returns-in-Err-close_at
returns-in-Err-close_at c =
    let text = c.args.text.now in
    not_closed c.args.end (Declares c.args.context text c.args.end) c.args.tokens.now c.in-Ok.rest.now c.in-Ok-declarations.rest.now c.in-Ok.field-0-0 c.declarations.new.decls c.in-Ok.ensures
    (are_all c.args.context text c.args.end c.in-Ok.rest.now c.in-Ok-declarations.rest.now c.args.decls.now c.declarations.new.decls c.requires c.in-Ok-declarations.ensures)
    c.in-Err-close_at.fault c.in-Err-close_at.ensures
