use Rattle.page_reader.proofs.PagePlaces.{page_whole}
use Rattle.page_loader.proofs.loading.load_page.Goals as goal

pub read_sheet-requires-clause-in_order : goal.read_sheet-requires-clause-in_order
read_sheet-requires-clause-in_order c = (page_whole c.args.text.now c.args.page c.requires.page).sheet.in_order

pub read_sheet-requires-clause-inside : goal.read_sheet-requires-clause-inside
read_sheet-requires-clause-inside c = (page_whole c.args.text.now c.args.page c.requires.page).sheet.inside
