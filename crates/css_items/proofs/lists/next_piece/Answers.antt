use Rattle.std.proofs.Common.{◌∷◌, ◌∙◌, ap}
use Rattle.css_words.specs.Words.{words}
use Rattle.css_items.proofs.PieceLemmas.{pieces_behind, none_behind, piece_found}
use Rattle.css_items.proofs.lists.next_piece.Goals as goal

pub returns-in-Some-clause-pieces : goal.returns-in-Some-clause-pieces
returns-in-Some-clause-pieces c =
    let text = c.args.text.now in
    let item = c.split_at.result.0.now in
    piece_found text c.args.tokens.now item c.split_at.result.1.now c.piece_length-count.result c.piece_length-count.ensures.exact c.split_at.ensures.front c.split_at.ensures.back
    ∙ ap (λ t. words text item ∷ pieces_behind text t) c.in-Some.ensures.cases.0

pub returns-in-None-clause-pieces : goal.returns-in-None-clause-pieces
returns-in-None-clause-pieces c =
    let text = c.args.text.now in
    let item = c.split_at.result.0.now in
    piece_found text c.args.tokens.now item c.split_at.result.1.now c.piece_length-count.result c.piece_length-count.ensures.exact c.split_at.ensures.front c.split_at.ensures.back
    ∙ ap (λ t. words text item ∷ t) (none_behind text c.split_at.result.1.now c.in-None.ensures.cases)
