use Rattle.std.proofs.Common.{◌∙◌}
use Rattle.lines.specs.LoopLaws.{stops_low}
use Rattle.lines.specs.RunLaws.{text_ends, mark_field}
use Rattle.lines.proofs.mark_at.Goals as goal

pub returns-then-t-stop : goal.returns-then-t-stop
returns-then-t-stop c = c.no_field.ensures ∙ text_ends _ _ c.stop_of-stop.ensures _ c.if-t-stop.true

pub slice_bounds-mark_in-count : goal.slice_bounds-mark_in-count
slice_bounds-mark_in-count c = stops_low _ _ c.stop_of-stop.ensures

pub slice_bounds-mark_in-start : goal.slice_bounds-mark_in-start
slice_bounds-mark_in-start c = stops_low _ _ c.stop_of-stop.ensures

pub returns : goal.returns
returns c = c.number_field.ensures ∙ mark_field _ _ c.stop_of-stop.ensures c.if-t-stop.false c.mark_in.ensures
