use Rattle.std.proofs.Common.{arith, sym, ◌∙◌}
use Rattle.lines.specs.RunLaws.{field_behind_lem, fixed_none, fixed_other_at, fixed_right_at}
use Rattle.lines.proofs.fixed_at.Goals as goal

pub returns-then-t-from : goal.returns-then-t-from
returns-then-t-from c = c.no_field.ensures ∙ field_behind_lem _ _ _ c.if-t-from.true

pub returns-then-not-stops_at : goal.returns-then-not-stops_at
returns-then-not-stops_at c = c.no_field-then-not-stops_at.ensures ∙ fixed_none c.run_at-number.ensures (omega arith) (sym c.stops_at.ensures ∙ c.if-not-stops_at.true)

pub overflow_sub-stop : goal.overflow_sub-stop
overflow_sub-stop c = c.run_at-number.ensures.run.begins

pub returns-then-stop-from : goal.returns-then-stop-from
returns-then-stop-from c = c.no_field-then-stop-from.ensures ∙ fixed_other_at c.run_at-number.ensures (omega arith) (sym c.stops_at.ensures ∙ c.if-not-stops_at.false) c.if-stop-from.true

pub returns : goal.returns
returns c = c.number_field.ensures ∙ fixed_right_at c.run_at-number.ensures (omega arith) (sym c.stops_at.ensures ∙ c.if-not-stops_at.false) c.if-stop-from.false
