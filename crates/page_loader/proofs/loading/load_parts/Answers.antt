use Rattle.page_loader.proofs.PageReady.{page_ready}
use Rattle.page_loader.proofs.loading.load_parts.Goals as goal

pub resolve-requires-clause-page : goal.resolve-requires-clause-page
resolve-requires-clause-page c = page_ready c.args.text.now c.args.page c.requires.style.is_page
