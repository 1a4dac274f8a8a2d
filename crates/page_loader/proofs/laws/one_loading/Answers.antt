use Rattle.page_loader.proofs.OneLoading.{one_load}
use Rattle.page_loader.proofs.laws.one_loading.Goals as goal

pub returns : goal.returns
returns c = one_load
