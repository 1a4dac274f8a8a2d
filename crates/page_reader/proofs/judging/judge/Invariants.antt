use Rattle.std.proofs.Common.{◌≡◌, ◌++◌, map, drop}
use Rattle.page_tokens.specs.HtmlShown.{shown_word}
use Rattle.page_reader.specs.PageElements.{elements_of}
use Rattle.page_reader.specs.PageReading.{judged}
use Rattle.page_reader.specs.declared.stage.Stage.TheVariants.{AtDoctype}
use Rattle.page_reader.proofs.judging.judge.Given as goal

-- what is left decides, and its elements are those that are to come
abbrev pub invariant-judging : goal.invariant-judging
invariant-judging l = record {
  page : judged l.total l.stage (map shown_word (drop l.word-index l.words)) ≡ judged l.total AtDoctype (map shown_word l.words);
  elements : l.elements ++ elements_of l.total (map shown_word (drop l.word-index l.words)) ≡ elements_of l.total (map shown_word l.words);
}
