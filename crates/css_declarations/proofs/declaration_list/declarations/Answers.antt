use Rattle.std.proofs.Common.{◌∙◌, sym}
use Rattle.css_declarations.proofs.ListLemmas.{none_yet, unit_added, unit_leaves, fault_here}
use Rattle.css_declarations.proofs.declaration_list.declarations.Goals as goal

pub declaring-init : goal.declaring-init
declaring-init c = none_yet c.args.context c.args.text.now c.args.tokens.now c.args.decls.now

pub returns-in-Err : goal.returns-in-Err
returns-in-Err c =
    fault_here c.args.context c.args.text.now c.args.end c.args.tokens.now c.declaring.rest.now c.args.decls.now c.declaring.decls c.unit_at.new.decls c.in-Err.fault
    c.declaring.invariant (sym c.is_closed.ensures ∙ c.declaring-test.true) c.in-Err.ensures

pub declaring-smaller : goal.declaring-smaller
declaring-smaller c =
    unit_leaves c.args.context c.args.text.now c.args.end c.declaring.rest.now c.in-Ok.more.now c.declaring.decls c.unit_at.new.decls
    (sym c.is_closed.ensures ∙ c.declaring-test.true) c.in-Ok.ensures

pub declaring-preserved : goal.declaring-preserved
declaring-preserved c =
    unit_added c.args.context c.args.text.now c.args.end c.args.tokens.now c.declaring.rest.now c.in-Ok.more.now c.args.decls.now c.declaring.decls c.unit_at.new.decls
    c.declaring.invariant (sym c.is_closed.ensures ∙ c.declaring-test.true) c.in-Ok.ensures
