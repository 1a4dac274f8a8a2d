-- The candidates compute; the winner is one of them, and none of them beats it.
use Rattle.std.proofs.Common.{◌≡◌, true, false, refl, arith, rules}
use Rattle.page_values.specs.CascadeValues.{the_winner}
use Rattle.page_values.proofs.cascade_values.winner_values.Goals as goal

pub returns : goal.returns
returns c = record {
  colours = refl;
  winner = ((0, omega arith, refl), search rules);
  second = ((2, omega arith, refl), search rules);
  no_other = λ wins. let beaten : true ≡ false = wins.1 0 the_winner (omega arith) in cc;
  nothing = refl;
}
