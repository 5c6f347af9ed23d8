use Rattle.std.proofs.Common.{sym, ◌∙◌}
use Rattle.lists.specs.KeptLaws.{found_some}
use Rattle.places.proofs.keep.Goals as goal

pub overflow_sub-result : goal.overflow_sub-result
overflow_sub-result g c = found_some _ _ _ _ _ (sym c.find.ensures ∙ c.in-Ok.is)
