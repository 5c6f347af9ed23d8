use Rattle.std.proofs.Common.{sym, ◌∙◌}
use Rattle.lines.specs.Fields.{cell_of, field_at}
use Rattle.lines.specs.RunLaws.{field_behind_lem, number_none, number_empty_at, number_one_at, number_zero_at, number_more_at}
use Rattle.lines.proofs.number_at.Goals as goal

pub returns-then-t-from : goal.returns-then-t-from
unfolding field_at cell_of
returns-then-t-from c = c.no_field.ensures ∙ field_behind_lem _ _ _ c.if-t-from.true

pub returns-then-not-stops_at : goal.returns-then-not-stops_at
unfolding field_at cell_of
returns-then-not-stops_at c = c.no_field-then-not-stops_at.ensures ∙ number_none c.run_at-number.ensures (sym c.stops_at.ensures ∙ c.if-not-stops_at.true)

pub returns-then-stop-from : goal.returns-then-stop-from
unfolding field_at cell_of
returns-then-stop-from c = c.no_field-then-stop-from.ensures ∙ number_empty_at c.run_at-number.ensures (sym c.stops_at.ensures ∙ c.if-not-stops_at.false) c.if-stop-from.true

pub overflow_sub-stop : goal.overflow_sub-stop
overflow_sub-stop c = c.run_at-number.ensures.run.begins

pub returns-then-stop-from-eq1 : goal.returns-then-stop-from-eq1
unfolding field_at cell_of
returns-then-stop-from-eq1 c = c.number_field.ensures ∙ number_one_at c.run_at-number.ensures (sym c.stops_at.ensures ∙ c.if-not-stops_at.false) c.if-stop-from-eq1.true

pub returns-then-t-from-eq48 : goal.returns-then-t-from-eq48
unfolding field_at cell_of
returns-then-t-from-eq48 c = c.no_field-then-t-from-eq48.ensures ∙ number_zero_at c.run_at-number.ensures (sym c.stops_at.ensures ∙ c.if-not-stops_at.false) c.if-stop-from.false c.if-stop-from-eq1.false c.if-t-from-eq48.true

pub returns : goal.returns
unfolding field_at cell_of
returns c = c.number_field-2.ensures ∙ number_more_at c.run_at-number.ensures (sym c.stops_at.ensures ∙ c.if-not-stops_at.false) c.if-stop-from.false c.if-stop-from-eq1.false c.if-t-from-eq48.false
