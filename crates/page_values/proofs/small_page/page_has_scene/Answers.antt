-- By the winners of both elements.
use Rattle.page_values.proofs.PageLemmas.{scene_is, fault_is, fault_is_not}
use Rattle.page_values.proofs.ValidLemmas.{valid_is}
use Rattle.page_values.proofs.small_page.page_has_scene.Goals as goal

pub returns : goal.returns
returns c = record { scene = scene_is; valid = valid_is; fault = fault_is; no_fault = fault_is_not }
