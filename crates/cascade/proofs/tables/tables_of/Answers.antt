use Rattle.std.proofs.Common.{◌∙◌, ap}
use Rattle.cascade.specs.SetTables.{kept_in}
use Rattle.cascade.proofs.TableLemmas.{table_told}
use Rattle.cascade.proofs.tables.tables_of.Goals as goal

pub returns : goal.returns
returns c = record {
  numbers = λ number. ap (λ numbers. kept_in numbers number) c.in_ok-numbers.ensures ∙ table_told c.args.sets.now number;
  more = c.in_ok-more.ensures;
}
