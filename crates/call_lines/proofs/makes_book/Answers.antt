use Rattle.std.proofs.Common.{refl, ◌∙◌}
use Rattle.call_lines.specs.LineLaws.{there}
use Rattle.call_lines.specs.WorkLaws.{name_counts, make_first, no_make_first}
use Rattle.call_lines.proofs.makes_book.Goals as goal

pub slice_bounds-name_of-end : goal.slice_bounds-name_of-end
slice_bounds-name_of-end c = name_counts _ c.stop_of-stop.ensures

pub returns-in-Make : goal.returns-in-Make
returns-in-Make c =
    c.is_some.ensures ∙ there _ _ c.make_behind.ensures ∙ make_first _ c.stop_of-stop.ensures c.name_of.ensures c.in-Make.is refl

pub returns-in_default : goal.returns-in_default
returns-in_default c = no_make_first _ c.stop_of-stop.ensures c.name_of.ensures c.in_default.not-Make
