use Rattle.std.proofs.Common.{map}
use Rattle.std.specs.Char.{to_ascii_lowercase}
use Rattle.std.proofs.lemmas.Slice.Eq.{bytes_eq-Decides}
use Rattle.std.proofs.lemmas.Bool.Decides.{same_from_decides}
use Rattle.css_words.specs.Keywords.{is_keyword}
use Rattle.css_words.proofs.keywords.is_keyword.Goals as goal

pub returns : goal.returns
unfolding is_keyword
returns c =
    same_from_decides _ _ c.eq_ignore_ascii_case.ensures.test
    (bytes_eq-Decides (map to_ascii_lowercase c.args.bytes.now) (map to_ascii_lowercase c.args.keyword.now))
