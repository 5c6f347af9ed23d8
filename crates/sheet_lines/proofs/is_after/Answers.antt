use Rattle.std.proofs.Common.{◌∙◌, ap, sym}
use Rattle.laws.specs.Order.{is_less}
use Rattle.laws.specs.OrderLaws.{as_slice_cmp}
use Rattle.sheet_lines.specs.NumberLaws.{later_group, none_after, after_series, after_code}
use Rattle.sheet_lines.proofs.is_after.Goals as goal

pub returns-then-above-group : goal.returns-then-above-group
returns-then-above-group c = later_group _ _ _ _ c.group_of-above.ensures c.group_of-group.ensures c.if-above-group.true

pub returns-then-group-le1 : goal.returns-then-group-le1
returns-then-group-le1 c = none_after _ _ _ _ c.group_of-above.ensures c.group_of-group.ensures c.if-above-group.false c.if-group-le1.true

pub returns-then-group-eq5 : goal.returns-then-group-eq5
returns-then-group-eq5 c = c.is_lt.ensures ∙ rw (c.compare.ensures, c.price_row-then-group-eq5.ensures, c.price_row.ensures) (after_series _ _ _ _ c.group_of-above.ensures c.group_of-group.ensures c.if-above-group.false c.if-group-eq5.true)

pub returns : goal.returns
returns c = c.is_lt-2.ensures ∙ ap is_less (c.cmp.ensures ∙ sym (as_slice_cmp _ _)) ∙ after_code _ _ _ _ c.group_of-above.ensures c.group_of-group.ensures c.if-above-group.false c.if-group-le1.false c.if-group-eq5.false
