use Rattle.page_loader.proofs.OneLoading.{load_told}
use Rattle.page_loader.proofs.loading.load.Goals as goal

pub returns-clause-told : goal.returns-clause-told
returns-clause-told c = λ outcome is. load_told c.args.text.now c.read.result outcome c.read.ensures.scene c.read.ensures.refused is
