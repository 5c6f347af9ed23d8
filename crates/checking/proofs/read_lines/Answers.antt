use Rattle.std.proofs.Common.{arith, refl, sym, ap, ◌∙◌}
use Rattle.laws.specs.Refusals.{number_in}
use Rattle.laws.specs.RefusalLaws.{refusal_positive}
use lib.ListN.{length-replicate}
use Rattle.lines.specs.LoopLaws.{stops_low}
use Rattle.checking.specs.StepLaws.{no_number, lines_start, line_small, lines_end, line_over, letter_unended, letter_high, row_begins, line_less, number_refused, head_next, future_next, option_next, stock_room, stock_next, price_room, price_next, letter_Q, kind_fits, field_refused, cell_fits, field_less, in_row_on, fields_refused, row_said}
use Rattle.checking.specs.QuoteLaws.{no_head_lem, new_head, head_stays, figures_letter, figures_row}
use Rattle.checking.proofs.read_lines.Goals as goal

pub lines-init : goal.lines-init
lines-init c = let long = length-replicate 12 c.no_cell-none.result in (lines_start _ _ c.empty_sheet-sheet.ensures, (long, no_head_lem _ _ _ _ long))

pub overflow_add-line : goal.overflow_add-line
overflow_add-line c = let small = line_small c.lines.invariant.0 in omega (arith, small)

pub offset_bounds-sheet-sheet : goal.offset_bounds-sheet-sheet
offset_bounds-sheet-sheet c = let room = price_room (figures_row c.lines.invariant.1.1 _ (rw c.in-Some.is at c.next_figures.ensures) refl c.lines.invariant.0 c.if-at-t.false c.if-line-gt1024.false c.number_cell.ensures c.number_cell-in-Some.ensures c.number_cell-in-Some-2.ensures) refl in omega (arith, room)

pub bounds-sheet-sheet : goal.bounds-sheet-sheet
bounds-sheet-sheet c = let room = price_room (figures_row c.lines.invariant.1.1 _ (rw c.in-Some.is at c.next_figures.ensures) refl c.lines.invariant.0 c.if-at-t.false c.if-line-gt1024.false c.number_cell.ensures c.number_cell-in-Some.ensures c.number_cell-in-Some-2.ensures) refl in room

pub overflow_add-sheet : goal.overflow_add-sheet
overflow_add-sheet c = let room = price_room (figures_row c.lines.invariant.1.1 _ (rw c.in-Some.is at c.next_figures.ensures) refl c.lines.invariant.0 c.if-at-t.false c.if-line-gt1024.false c.number_cell.ensures c.number_cell-in-Some.ensures c.number_cell-in-Some-2.ensures) refl in omega (arith, room)

pub overflow_add-at : goal.overflow_add-at
overflow_add-at c = let low = (figures_row c.lines.invariant.1.1 _ (rw c.in-Some.is at c.next_figures.ensures) refl c.lines.invariant.0 c.if-at-t.false c.if-line-gt1024.false c.number_cell.ensures c.number_cell-in-Some.ensures c.number_cell-in-Some-2.ensures).at_row.low in omega (arith, low)

pub lines-smaller-in-Some : goal.lines-smaller-in-Some
lines-smaller-in-Some c = line_less (figures_row c.lines.invariant.1.1 _ (rw c.in-Some.is at c.next_figures.ensures) refl c.lines.invariant.0 c.if-at-t.false c.if-line-gt1024.false c.number_cell.ensures c.number_cell-in-Some.ensures c.number_cell-in-Some-2.ensures).at_row

pub lines-preserved-in-Some : goal.lines-preserved-in-Some
lines-preserved-in-Some c = (
  price_next (figures_row c.lines.invariant.1.1 _ (rw c.in-Some.is at c.next_figures.ensures) refl c.lines.invariant.0 c.if-at-t.false c.if-line-gt1024.false c.number_cell.ensures c.number_cell-in-Some.ensures c.number_cell-in-Some-2.ensures) refl
      (figures_letter c.lines.invariant.1.1 _ (rw c.in-Some.is at c.next_figures.ensures) refl) c.price_row.ensures,
  (c.lines.invariant.1.0, head_stays c.lines.invariant.1.1 _ _ _),
)

pub slice_bounds-letter_of-count : goal.slice_bounds-letter_of-count
slice_bounds-letter_of-count c = stops_low _ _ c.stop_of-stop.ensures

pub slice_bounds-letter_of-start : goal.slice_bounds-letter_of-start
slice_bounds-letter_of-start c = stops_low _ _ c.stop_of-stop.ensures

pub slice_bounds-letter_of-end : goal.slice_bounds-letter_of-end
slice_bounds-letter_of-end c = letter_high c.lines.invariant.0 c.if-at-t.false c.if-line-gt1024.false c.stop_of-stop.ensures

pub fields-init : goal.fields-init
fields-init c = row_begins c.lines.invariant.0 c.if-at-t.false c.if-line-gt1024.false c.stop_of-stop.ensures c.if-stop-t.false _ c.letter_of-letter.ensures c.lines.invariant.1.0

pub bounds-t-stop : goal.bounds-t-stop
bounds-t-stop c = c.fields.invariant.in_line.inside

pub overflow_add-form : goal.overflow_add-form
overflow_add-form c = let h = kind_fits c.fields.invariant c.form_of-form.ensures in omega (arith, h)

pub bounds-table-form : goal.bounds-table-form
bounds-table-form c = kind_fits c.fields.invariant c.form_of-form.ensures

pub overflow_add-stop : goal.overflow_add-stop
overflow_add-stop c = let h = c.fields.invariant.in_line.inside in omega (arith, h)

pub offset_bounds-cells-k : goal.offset_bounds-cells-k
offset_bounds-cells-k c = let room = cell_fits c.fields.invariant c.form_of-form.ensures c.asked_table-table.ensures c.fields-test.true c.field_at-field.ensures c.if-not-field.false in omega (arith, room)

pub bounds-cells-k : goal.bounds-cells-k
bounds-cells-k c = cell_fits c.fields.invariant c.form_of-form.ensures c.asked_table-table.ensures c.fields-test.true c.field_at-field.ensures c.if-not-field.false

pub overflow_add-k : goal.overflow_add-k
overflow_add-k c = let room = cell_fits c.fields.invariant c.form_of-form.ensures c.asked_table-table.ensures c.fields-test.true c.field_at-field.ensures c.if-not-field.false in omega (arith, room)

pub fields-smaller : goal.fields-smaller
fields-smaller c = field_less c.fields.invariant c.form_of-form.ensures c.asked_table-table.ensures c.fields-test.true c.field_at-field.ensures c.if-not-field.false

pub fields-preserved : goal.fields-preserved
fields-preserved c = in_row_on c.fields.invariant c.form_of-form.ensures c.asked_table-table.ensures c.fields-test.true c.field_at-field.ensures c.if-not-field.false

pub overflow_add-at-in-lines : goal.overflow_add-at-in-lines
overflow_add-at-in-lines c = let h = c.fields.invariant.in_line.inside in let long = c.requires in omega (arith, h, long)

pub lines-smaller-then-letter-eq68 : goal.lines-smaller-then-letter-eq68
lines-smaller-then-letter-eq68 c = line_less (row_said c.fields.invariant c.fields-test.false c.fields_of.ensures c.if-k-fields_of.false c.check.ensures).at_row

pub lines-preserved-then-letter-eq68 : goal.lines-preserved-then-letter-eq68
lines-preserved-then-letter-eq68 c = (head_next (row_said c.fields.invariant c.fields-test.false c.fields_of.ensures c.if-k-fields_of.false c.check.ensures) (no_number c.check.result c.in_default-check.not-Err) c.if-letter-eq68.true, (c.fields.invariant.in_line.fields.fields.long, new_head _ c.head_at-head.ensures c.fields.invariant.in_line.fields.fields.long))

pub lines-smaller-then-letter-eq70 : goal.lines-smaller-then-letter-eq70
lines-smaller-then-letter-eq70 c = line_less (row_said c.fields.invariant c.fields-test.false c.fields_of.ensures c.if-k-fields_of.false c.check.ensures).at_row

pub lines-preserved-then-letter-eq70 : goal.lines-preserved-then-letter-eq70
lines-preserved-then-letter-eq70 c = (future_next (row_said c.fields.invariant c.fields-test.false c.fields_of.ensures c.if-k-fields_of.false c.check.ensures) (no_number c.check.result c.in_default-check.not-Err) c.if-letter-eq70.true c.future_row.ensures c.with_future-sheet.ensures, (c.fields.invariant.in_line.fields.fields.long, new_head _ c.head_at-head.ensures c.fields.invariant.in_line.fields.fields.long))

pub lines-smaller-then-letter-eq79 : goal.lines-smaller-then-letter-eq79
lines-smaller-then-letter-eq79 c = line_less (row_said c.fields.invariant c.fields-test.false c.fields_of.ensures c.if-k-fields_of.false c.check.ensures).at_row

pub lines-preserved-then-letter-eq79 : goal.lines-preserved-then-letter-eq79
lines-preserved-then-letter-eq79 c = (option_next (row_said c.fields.invariant c.fields-test.false c.fields_of.ensures c.if-k-fields_of.false c.check.ensures) (no_number c.check.result c.in_default-check.not-Err) c.if-letter-eq79.true c.option_row.ensures c.with_option-sheet.ensures, (c.fields.invariant.in_line.fields.fields.long, new_head _ c.head_at-head.ensures c.fields.invariant.in_line.fields.fields.long))

pub offset_bounds-sheet-stock_place : goal.offset_bounds-sheet-stock_place
offset_bounds-sheet-stock_place c = let room = stock_room (row_said c.fields.invariant c.fields-test.false c.fields_of.ensures c.if-k-fields_of.false c.check.ensures) (no_number c.check.result c.in_default-check.not-Err) c.if-letter-eq83.true c.stock_row-r.ensures c.stock_place.ensures in omega (arith, room)

pub bounds-sheet-stock_place : goal.bounds-sheet-stock_place
bounds-sheet-stock_place c = stock_room (row_said c.fields.invariant c.fields-test.false c.fields_of.ensures c.if-k-fields_of.false c.check.ensures) (no_number c.check.result c.in_default-check.not-Err) c.if-letter-eq83.true c.stock_row-r.ensures c.stock_place.ensures

pub lines-smaller-then-letter-eq83 : goal.lines-smaller-then-letter-eq83
lines-smaller-then-letter-eq83 c = line_less (row_said c.fields.invariant c.fields-test.false c.fields_of.ensures c.if-k-fields_of.false c.check.ensures).at_row

pub lines-preserved-then-letter-eq83 : goal.lines-preserved-then-letter-eq83
lines-preserved-then-letter-eq83 c = (stock_next (row_said c.fields.invariant c.fields-test.false c.fields_of.ensures c.if-k-fields_of.false c.check.ensures) (no_number c.check.result c.in_default-check.not-Err) c.if-letter-eq83.true c.stock_row-r.ensures c.stock_place.ensures, (c.fields.invariant.in_line.fields.fields.long, new_head _ c.head_at-head.ensures c.fields.invariant.in_line.fields.fields.long))

pub offset_bounds-sheet-sheet-in-lines : goal.offset_bounds-sheet-sheet-in-lines
offset_bounds-sheet-sheet-in-lines c = let room = price_room (row_said c.fields.invariant c.fields-test.false c.fields_of.ensures c.if-k-fields_of.false c.check.ensures) (no_number c.check.result c.in_default-check.not-Err) in omega (arith, room)

pub bounds-sheet-sheet-in-lines : goal.bounds-sheet-sheet-in-lines
bounds-sheet-sheet-in-lines c = price_room (row_said c.fields.invariant c.fields-test.false c.fields_of.ensures c.if-k-fields_of.false c.check.ensures) (no_number c.check.result c.in_default-check.not-Err)

pub overflow_add-sheet-in-lines : goal.overflow_add-sheet-in-lines
overflow_add-sheet-in-lines c = let room = price_room (row_said c.fields.invariant c.fields-test.false c.fields_of.ensures c.if-k-fields_of.false c.check.ensures) (no_number c.check.result c.in_default-check.not-Err) in omega (arith, room)

pub lines-smaller : goal.lines-smaller
lines-smaller c = line_less (row_said c.fields.invariant c.fields-test.false c.fields_of.ensures c.if-k-fields_of.false c.check.ensures).at_row

pub lines-preserved : goal.lines-preserved
lines-preserved c = (price_next (row_said c.fields.invariant c.fields-test.false c.fields_of.ensures c.if-k-fields_of.false c.check.ensures) (no_number c.check.result c.in_default-check.not-Err) (letter_Q (row_said c.fields.invariant c.fields-test.false c.fields_of.ensures c.if-k-fields_of.false c.check.ensures) c.if-letter-eq68.false c.if-letter-eq70.false c.if-letter-eq79.false c.if-letter-eq83.false) c.price_row-in-lines.ensures, (c.fields.invariant.in_line.fields.fields.long, new_head _ c.head_at-head.ensures c.fields.invariant.in_line.fields.fields.long))

pub returns-then-at-t : goal.returns-then-at-t
returns-then-at-t c = lines_end c.lines.invariant.0 c.if-at-t.true

pub returns-then-line-gt1024 : goal.returns-then-line-gt1024
returns-then-line-gt1024 c = c.refused.ensures ∙ line_over c.lines.invariant.0 c.if-at-t.false c.if-line-gt1024.true

pub returns-then-stop-t : goal.returns-then-stop-t
returns-then-stop-t c = c.refused-then-stop-t.ensures ∙ letter_unended c.lines.invariant.0 c.if-at-t.false c.if-line-gt1024.false c.stop_of-stop.ensures c.if-stop-t.true

pub returns-then-not-field : goal.returns-then-not-field
returns-then-not-field c = c.refused-then-not-field.ensures ∙ field_refused c.fields.invariant c.form_of-form.ensures c.asked_table-table.ensures c.fields-test.true c.field_at-field.ensures c.if-not-field.true

pub returns-then-k-fields_of : goal.returns-then-k-fields_of
returns-then-k-fields_of c = c.refused-then-k-fields_of.ensures ∙ fields_refused c.fields.invariant c.fields-test.false c.fields_of.ensures c.if-k-fields_of.true

pub returns-in-Err : goal.returns-in-Err
returns-in-Err c =
    let e = sym (ap number_in c.in-Err.is) in
    let some = refusal_positive c.in-Err.refusal in
    c.refused-in-Err.ensures
    ∙ number_refused (row_said c.fields.invariant c.fields-test.false c.fields_of.ensures c.if-k-fields_of.false (e ∙ c.check.ensures)) (λ z. omega arith)
