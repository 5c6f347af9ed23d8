use Rattle.std.proofs.Common.{arith, rules, sym, ℕ, ◌∙◌}
use lib.ListN.{length-replicate}
use Rattle.rows.specs.Book.{no_book}
use Rattle.laws.specs.RefusalLaws.{refusal_positive}
use Rattle.lines.specs.LoopLaws.{stops_low}
use Rattle.book_lines.specs.ItemLaws.{parts_begin, part_fits_lem, part_wrong, part_room, part_less, part_on, parts_wrong, part_unsaid, line_read, letter_last}
use Rattle.reading.specs.StateLaws.{no_lasts, head_lasts}
use Rattle.reading.specs.StepLaws.{lines_start, lines_end, letter_high, letter_inside, letter_unended, formless_refused, row_said, line_refused, line_passes, line_less, head_next, holding_room, entry_asks, holding_lasts, holding_next, pair_room, legs_ask, pair_lasts, pair_next}
use Rattle.reading.proofs.read_lines.Goals as goal

pub lines-init : goal.lines-init
unfolding no_book
lines-init c = (lines_start _ _ _ _ c.empty_book-book.ensures (length-replicate {A = ℕ} 128 0) (length-replicate {A = ℕ} 128 0) (length-replicate {A = ℕ} 256 0), (no_lasts _ _ c.empty_book-book.ensures, length-replicate 6 c.no_item-none.result))

pub slice_bounds-letter_of-count : goal.slice_bounds-letter_of-count
slice_bounds-letter_of-count c = stops_low _ _ c.stop_of-stop.ensures

pub slice_bounds-letter_of-start : goal.slice_bounds-letter_of-start
slice_bounds-letter_of-start c = stops_low _ _ c.stop_of-stop.ensures

pub slice_bounds-letter_of-end : goal.slice_bounds-letter_of-end
slice_bounds-letter_of-end c = letter_high c.lines.invariant.0 c.if-at-t.false c.stop_of-stop.ensures

pub fields-init : goal.fields-init
fields-init c =
    let i = c.lines.invariant in
    parts_begin _ _ _ c.stop_of-stop.ensures c.letter_of-letter.ensures (letter_inside i.0 c.if-at-t.false c.stop_of-stop.ensures c.if-stop-t.false) i.1.1

pub bounds-t-stop : goal.bounds-t-stop
bounds-t-stop c = c.fields.invariant.inside

pub overflow_add-form : goal.overflow_add-form
overflow_add-form c = let h = part_fits_lem c.fields.invariant c.form_of-form.ensures in omega (arith, h)

pub bounds-parts-form : goal.bounds-parts-form
bounds-parts-form c = part_fits_lem c.fields.invariant c.form_of-form.ensures

pub offset_bounds-items-k : goal.offset_bounds-items-k
offset_bounds-items-k c = let room = part_room c.fields.invariant c.form_of-form.ensures c.parts-parts.ensures c.item_behind-item.ensures c.if-not-item.false in omega (arith, room)

pub bounds-items-k : goal.bounds-items-k
bounds-items-k c = part_room c.fields.invariant c.form_of-form.ensures c.parts-parts.ensures c.item_behind-item.ensures c.if-not-item.false

pub overflow_add-k : goal.overflow_add-k
overflow_add-k c = let room = part_room c.fields.invariant c.form_of-form.ensures c.parts-parts.ensures c.item_behind-item.ensures c.if-not-item.false in omega (arith, room)

pub fields-smaller : goal.fields-smaller
fields-smaller c = part_less c.fields.invariant c.form_of-form.ensures c.parts-parts.ensures c.item_behind-item.ensures c.if-not-item.false

pub fields-preserved : goal.fields-preserved
fields-preserved c = part_on c.fields.invariant c.form_of-form.ensures c.parts-parts.ensures c.item_behind-item.ensures c.if-not-item.false

pub overflow_add-at : goal.overflow_add-at
overflow_add-at c = let h = c.fields.invariant.inside in omega (arith, h)

pub slice_bounds-legs_at-end : goal.slice_bounds-legs_at-end
slice_bounds-legs_at-end c = sym c.lines.invariant.0.along.highs_long

pub slice_bounds-legs_at-end-in-lines : goal.slice_bounds-legs_at-end-in-lines
slice_bounds-legs_at-end-in-lines c = sym c.lines.invariant.0.along.lows_long

pub slice_bounds-legs_at-end-in-lines-2 : goal.slice_bounds-legs_at-end-in-lines-2
slice_bounds-legs_at-end-in-lines-2 c = sym c.lines.invariant.0.along.free_long

pub legs_at-legs-requires : goal.legs_at-legs-requires
legs_at-legs-requires c = c.lines.invariant.0.along.sound.holdings_sound_lem.few

pub lines-smaller-then-letter-eq65 : goal.lines-smaller-then-letter-eq65
lines-smaller-then-letter-eq65 c =
    line_less (line_passes (row_said c.lines.invariant.0 c.if-at-t.false (line_read c.fields.invariant c.fields-test.false c.parts_of.ensures c.if-k-parts_of.false)) c.pair_of-p.ensures c.legs_at-legs.ensures c.lines.invariant.1.0 c.check_line-checked.ensures (search rules))

pub lines-preserved-then-letter-eq65 : goal.lines-preserved-then-letter-eq65
lines-preserved-then-letter-eq65 c =
    (head_next (line_passes (row_said c.lines.invariant.0 c.if-at-t.false (line_read c.fields.invariant c.fields-test.false c.parts_of.ensures c.if-k-parts_of.false)) c.pair_of-p.ensures c.legs_at-legs.ensures c.lines.invariant.1.0 c.check_line-checked.ensures (search rules)) c.if-letter-eq65.true, (head_lasts c.lines.invariant.1.0 _ _ _, c.fields.invariant.long))

pub offset_bounds-book-n : goal.offset_bounds-book-n
offset_bounds-book-n c =
    let room = holding_room (line_passes (row_said c.lines.invariant.0 c.if-at-t.false (line_read c.fields.invariant c.fields-test.false c.parts_of.ensures c.if-k-parts_of.false)) c.pair_of-p.ensures c.legs_at-legs.ensures c.lines.invariant.1.0 c.check_line-checked.ensures (search rules)) c.if-letter-eq72.true c.holding_of-h.ensures in
    omega (arith, room)

pub bounds-book-n : goal.bounds-book-n
bounds-book-n c =
    holding_room (line_passes (row_said c.lines.invariant.0 c.if-at-t.false (line_read c.fields.invariant c.fields-test.false c.parts_of.ensures c.if-k-parts_of.false)) c.pair_of-p.ensures c.legs_at-legs.ensures c.lines.invariant.1.0 c.check_line-checked.ensures (search rules)) c.if-letter-eq72.true c.holding_of-h.ensures

pub overflow_add-book : goal.overflow_add-book
overflow_add-book c =
    let room = holding_room (line_passes (row_said c.lines.invariant.0 c.if-at-t.false (line_read c.fields.invariant c.fields-test.false c.parts_of.ensures c.if-k-parts_of.false)) c.pair_of-p.ensures c.legs_at-legs.ensures c.lines.invariant.1.0 c.check_line-checked.ensures (search rules)) c.if-letter-eq72.true c.holding_of-h.ensures in
    omega (arith, room)

pub slice_bounds-enter-end : goal.slice_bounds-enter-end
slice_bounds-enter-end c = sym c.lines.invariant.0.along.highs_long

pub slice_bounds-enter-end-then-letter-eq72 : goal.slice_bounds-enter-end-then-letter-eq72
slice_bounds-enter-end-then-letter-eq72 c = sym c.lines.invariant.0.along.lows_long

pub slice_bounds-enter-end-then-letter-eq72-2 : goal.slice_bounds-enter-end-then-letter-eq72-2
slice_bounds-enter-end-then-letter-eq72-2 c = sym c.lines.invariant.0.along.free_long

pub enter-requires : goal.enter-requires
enter-requires c =
    entry_asks (line_passes (row_said c.lines.invariant.0 c.if-at-t.false (line_read c.fields.invariant c.fields-test.false c.parts_of.ensures c.if-k-parts_of.false)) c.pair_of-p.ensures c.legs_at-legs.ensures c.lines.invariant.1.0 c.check_line-checked.ensures (search rules)) c.if-letter-eq72.true c.holding_of-h.ensures

pub lines-smaller-then-letter-eq72 : goal.lines-smaller-then-letter-eq72
lines-smaller-then-letter-eq72 c =
    line_less (line_passes (row_said c.lines.invariant.0 c.if-at-t.false (line_read c.fields.invariant c.fields-test.false c.parts_of.ensures c.if-k-parts_of.false)) c.pair_of-p.ensures c.legs_at-legs.ensures c.lines.invariant.1.0 c.check_line-checked.ensures (search rules))

pub lines-preserved-then-letter-eq72 : goal.lines-preserved-then-letter-eq72
lines-preserved-then-letter-eq72 c =
    (holding_next (line_passes (row_said c.lines.invariant.0 c.if-at-t.false (line_read c.fields.invariant c.fields-test.false c.parts_of.ensures c.if-k-parts_of.false)) c.pair_of-p.ensures c.legs_at-legs.ensures c.lines.invariant.1.0 c.check_line-checked.ensures (search rules)) c.if-letter-eq72.true c.holding_of-h.ensures c.enter.ensures, (holding_lasts (line_passes (row_said c.lines.invariant.0 c.if-at-t.false (line_read c.fields.invariant c.fields-test.false c.parts_of.ensures c.if-k-parts_of.false)) c.pair_of-p.ensures c.legs_at-legs.ensures c.lines.invariant.1.0 c.check_line-checked.ensures (search rules)) c.if-letter-eq72.true c.holding_of-h.ensures c.lines.invariant.1.0, c.fields.invariant.long))

pub offset_bounds-book-m : goal.offset_bounds-book-m
offset_bounds-book-m c =
    let room = pair_room (line_passes (row_said c.lines.invariant.0 c.if-at-t.false (line_read c.fields.invariant c.fields-test.false c.parts_of.ensures c.if-k-parts_of.false)) c.pair_of-p.ensures c.legs_at-legs.ensures c.lines.invariant.1.0 c.check_line-checked.ensures (search rules)) (letter_last c.fields.invariant c.fields-test.false c.parts_of.ensures c.if-k-parts_of.false c.if-letter-eq65.false c.if-letter-eq72.false) c.pair_of-p.ensures in
    omega (arith, room)

pub bounds-book-m : goal.bounds-book-m
bounds-book-m c =
    pair_room (line_passes (row_said c.lines.invariant.0 c.if-at-t.false (line_read c.fields.invariant c.fields-test.false c.parts_of.ensures c.if-k-parts_of.false)) c.pair_of-p.ensures c.legs_at-legs.ensures c.lines.invariant.1.0 c.check_line-checked.ensures (search rules)) (letter_last c.fields.invariant c.fields-test.false c.parts_of.ensures c.if-k-parts_of.false c.if-letter-eq65.false c.if-letter-eq72.false) c.pair_of-p.ensures

pub overflow_add-book-in-lines : goal.overflow_add-book-in-lines
overflow_add-book-in-lines c =
    let room = pair_room (line_passes (row_said c.lines.invariant.0 c.if-at-t.false (line_read c.fields.invariant c.fields-test.false c.parts_of.ensures c.if-k-parts_of.false)) c.pair_of-p.ensures c.legs_at-legs.ensures c.lines.invariant.1.0 c.check_line-checked.ensures (search rules)) (letter_last c.fields.invariant c.fields-test.false c.parts_of.ensures c.if-k-parts_of.false c.if-letter-eq65.false c.if-letter-eq72.false) c.pair_of-p.ensures in
    omega (arith, room)

pub slice_bounds-take_legs-end : goal.slice_bounds-take_legs-end
slice_bounds-take_legs-end c = sym c.lines.invariant.0.along.free_long

pub take_legs-requires : goal.take_legs-requires
take_legs-requires c =
    legs_ask (line_passes (row_said c.lines.invariant.0 c.if-at-t.false (line_read c.fields.invariant c.fields-test.false c.parts_of.ensures c.if-k-parts_of.false)) c.pair_of-p.ensures c.legs_at-legs.ensures c.lines.invariant.1.0 c.check_line-checked.ensures (search rules)) (letter_last c.fields.invariant c.fields-test.false c.parts_of.ensures c.if-k-parts_of.false c.if-letter-eq65.false c.if-letter-eq72.false) c.pair_of-p.ensures

pub lines-smaller : goal.lines-smaller
lines-smaller c =
    line_less (line_passes (row_said c.lines.invariant.0 c.if-at-t.false (line_read c.fields.invariant c.fields-test.false c.parts_of.ensures c.if-k-parts_of.false)) c.pair_of-p.ensures c.legs_at-legs.ensures c.lines.invariant.1.0 c.check_line-checked.ensures (search rules))

pub lines-preserved : goal.lines-preserved
lines-preserved c =
    (pair_next (line_passes (row_said c.lines.invariant.0 c.if-at-t.false (line_read c.fields.invariant c.fields-test.false c.parts_of.ensures c.if-k-parts_of.false)) c.pair_of-p.ensures c.legs_at-legs.ensures c.lines.invariant.1.0 c.check_line-checked.ensures (search rules)) (letter_last c.fields.invariant c.fields-test.false c.parts_of.ensures c.if-k-parts_of.false c.if-letter-eq65.false c.if-letter-eq72.false) c.pair_of-p.ensures c.legs_at-legs.ensures c.take_legs.ensures, (pair_lasts (line_passes (row_said c.lines.invariant.0 c.if-at-t.false (line_read c.fields.invariant c.fields-test.false c.parts_of.ensures c.if-k-parts_of.false)) c.pair_of-p.ensures c.legs_at-legs.ensures c.lines.invariant.1.0 c.check_line-checked.ensures (search rules)) (letter_last c.fields.invariant c.fields-test.false c.parts_of.ensures c.if-k-parts_of.false c.if-letter-eq65.false c.if-letter-eq72.false) c.pair_of-p.ensures c.lines.invariant.1.0, c.fields.invariant.long))

pub returns-then-at-t : goal.returns-then-at-t
returns-then-at-t c = lines_end c.lines.invariant.0 c.if-at-t.true

pub returns-then-stop-t : goal.returns-then-stop-t
returns-then-stop-t c = c.refused.ensures ∙ formless_refused c.lines.invariant.0 c.if-at-t.false (letter_unended c.lines.invariant.0 c.if-at-t.false c.stop_of-stop.ensures c.if-stop-t.true)

pub returns-then-not-item : goal.returns-then-not-item
returns-then-not-item c =
    let i = c.fields.invariant in
    c.refused-then-not-item.ensures
    ∙ formless_refused c.lines.invariant.0 c.if-at-t.false
    (part_unsaid i (λ known. part_wrong i c.form_of-form.ensures c.parts-parts.ensures c.item_behind-item.ensures c.fields-test.true c.if-not-item.true))

pub returns-then-k-parts_of : goal.returns-then-k-parts_of
returns-then-k-parts_of c =
    let i = c.fields.invariant in
    c.refused-then-k-parts_of.ensures
    ∙ formless_refused c.lines.invariant.0 c.if-at-t.false (part_unsaid i (parts_wrong i c.fields-test.false c.parts_of.ensures c.if-k-parts_of.true))

pub returns-in-Err : goal.returns-in-Err
returns-in-Err c =
    c.refused-in-Err.ensures ∙ line_refused (row_said c.lines.invariant.0 c.if-at-t.false (line_read c.fields.invariant c.fields-test.false c.parts_of.ensures c.if-k-parts_of.false)) c.pair_of-p.ensures c.legs_at-legs.ensures c.lines.invariant.1.0 (rw c.in-Err.is at c.check_line-checked.ensures) (λ z. let h = refusal_positive c.in-Err.refusal in omega arith)
