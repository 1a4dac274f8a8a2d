-- The bytes are the page's, and these are few.
use Rattle.std.proofs.Common.{◌≡◌, rules}
use Rattle.page_gen.specs.GeneratedPage as definition
use Rattle.page_gen.proofs.LengthLemmas.{page_short}
use Rattle.page_gen.proofs.generated.page_text.Goals as goal

pub returns-clause-few : goal.returns-clause-few
returns-clause-few c =
    let value : c.extend_from_slice-2.new.self.items ≡ definition.generated_page c.args.first = search rules in
    page_short c.args.first _ value
