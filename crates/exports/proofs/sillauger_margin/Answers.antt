use Rattle.put.specs.LineLaws.{line_inside, line_counts}
use Rattle.reports.specs.StatementLaws.{statement_fits}
use Rattle.exports.specs.ExportLaws.{line_few, line_short, line_whole}
use Rattle.exports.proofs.sillauger_margin.Goals as goal

pub returns-then-out-length : goal.returns-then-out-length
returns-then-out-length c = line_short _ _ _ c.stated-line.ensures (statement_fits _ _) c.if-out-length.true c.code_of.ensures

pub slice_bounds-text-end : goal.slice_bounds-text-end
slice_bounds-text-end c = line_inside _ (statement_fits _ _) _ c.stated-line.ensures

pub slice_bounds-put_bytes-end : goal.slice_bounds-put_bytes-end
slice_bounds-put_bytes-end c = line_counts _ (statement_fits _ _) _ c.stated-line.ensures

pub overflow_cast-length : goal.overflow_cast-length
overflow_cast-length c =
    let out = c.args.out.now in
    record { fits = line_few _ out _ c.stated-line.ensures (statement_fits _ _) }

pub returns : goal.returns
returns c =
    line_whole _ _ _ c.stated-line.ensures (statement_fits _ _)
    c.if-out-length.false c.put_bytes.ensures.1 c.code_of-2.ensures
