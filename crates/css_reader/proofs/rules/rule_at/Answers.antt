use Rattle.std.proofs.Common.{rules}
use Rattle.css_reader.specs.SheetGrammar.{rule_of}
use Rattle.css_reader.proofs.RuleLemmas.{no_selectors, no_body, is_rule}
use Rattle.css_reader.proofs.rules.rule_at.Goals as goal

pub returns-in-Err : goal.returns-in-Err
returns-in-Err c = no_selectors c.args.text.now c.args.end c.args.tokens.now c.in-Err.fault c.in-Err.ensures

pub returns-in-Err-body_at : goal.returns-in-Err-body_at
returns-in-Err-body_at c =
    no_body c.args.text.now c.args.end c.args.tokens.now c.in-Ok.rest.now c.selectors_at.new.selectors c.in-Ok.ensures c.in-Err-body_at.fault c.in-Err-body_at.ensures

pub returns : goal.returns
returns c = record {
  item = rule_of c.selectors_at.new.selectors c.body_at.new.decls;
  is = is_rule c.args.text.now c.args.end c.args.tokens.now c.in-Ok.rest.now c.in-Ok-body_at.rest.now c.selectors_at.new.selectors c.body_at.new.decls c.in-Ok.ensures c.in-Ok-body_at.ensures;
  new_is = search rules;
}
