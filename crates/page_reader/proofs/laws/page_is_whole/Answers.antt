use Rattle.page_reader.proofs.PagePlaces.{page_whole}
use Rattle.page_reader.proofs.laws.page_is_whole.Goals as goal

pub returns : goal.returns
returns c = page_whole
