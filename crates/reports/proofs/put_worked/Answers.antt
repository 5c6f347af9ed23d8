use Rattle.printed.specs.PrintedLaws.{printed_length}
use Rattle.reports.specs.DeskLaws.{lines_inside, lines_count, answers_ask, answers_laid}
use Rattle.reports.proofs.put_worked.Goals as goal

pub slice_bounds-numbers-end : goal.slice_bounds-numbers-end
slice_bounds-numbers-end c = lines_inside _ _ c.work-w.ensures c.requires.1.0

pub slice_bounds-put_answers-end : goal.slice_bounds-put_answers-end
slice_bounds-put_answers-end c = lines_count _ _ c.work-w.ensures c.requires.1.0

pub put_answers-requires : goal.put_answers-requires
put_answers-requires c =
    rw (printed_length c.print.result c.unwrap_or-end.ensures) (answers_ask _ _ c.work-w.ensures c.requires.1.0 c.requires.0 _ c.requires.1.1 c.print.ensures)

pub returns : goal.returns
returns c =
    answers_laid _ _ c.work-w.ensures c.requires.1.0 c.requires.0 _ c.requires.1.1 c.print.ensures
    (rw (printed_length c.print.result c.unwrap_or-end.ensures) at c.put_answers.ensures)
