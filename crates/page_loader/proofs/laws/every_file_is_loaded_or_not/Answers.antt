use Rattle.page_loader.proofs.LoadOutcome.{every_loaded}
use Rattle.page_loader.proofs.laws.every_file_is_loaded_or_not.Goals as goal

pub returns : goal.returns
returns c = every_loaded
