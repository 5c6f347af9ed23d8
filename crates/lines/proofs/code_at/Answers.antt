use Rattle.std.proofs.Common.{◌∙◌}
use Rattle.lines.specs.LoopLaws.{stops_low}
use Rattle.lines.specs.RunLaws.{text_ends, code_field}
use Rattle.lines.proofs.code_at.Goals as goal

pub returns-then-t-stop : goal.returns-then-t-stop
returns-then-t-stop c = c.no_field.ensures ∙ text_ends _ _ c.stop_of-stop.ensures _ c.if-t-stop.true

pub slice_bounds-code_in-count : goal.slice_bounds-code_in-count
slice_bounds-code_in-count c = stops_low _ _ c.stop_of-stop.ensures

pub slice_bounds-code_in-start : goal.slice_bounds-code_in-start
slice_bounds-code_in-start c = stops_low _ _ c.stop_of-stop.ensures

pub returns : goal.returns
returns c = code_field _ _ c.stop_of-stop.ensures c.if-t-stop.false c.code_in.ensures
