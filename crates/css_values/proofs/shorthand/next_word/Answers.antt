use Rattle.css_values.proofs.GroupLemmas.{word_found}
use Rattle.css_values.proofs.shorthand.next_word.Goals as goal

pub returns-clause-groups : goal.returns-clause-groups
returns-clause-groups c =
    word_found c.args.text.now c.args.tokens.now c.split_at.result.0.now c.split_at.result.1.now c.word_length.result c.requires c.word_length.ensures.exact
    c.split_at.ensures.front c.split_at.ensures.back
