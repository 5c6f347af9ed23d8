use Rattle.std.proofs.Common.{ap, ◌∙◌}
use Rattle.put.specs.PutLaws.{put_is}
use Rattle.put.specs.Output.{output_of}
use Rattle.put.specs.LineLaws.{stated}
use Rattle.reports.specs.ReportLaws.{counts_fit_lem, sheet_refused, sheet_told}
use Rattle.reports.proofs.of_sheet.Goals as goal

pub returns-then-sheet-ne0 : goal.returns-then-sheet-ne0
returns-then-sheet-ne0 c = c.refusal.ensures ∙ ap output_of (sheet_refused _ _ c.read-sheet.ensures c.if-sheet-ne0.true)

pub returns : goal.returns
returns c =
    stated _ (counts_fit_lem _ _ _ _ _) (put_is c.put_counts-length.ensures)
    ∙ ap output_of
    (sheet_told _ _ c.read-sheet.ensures c.if-sheet-ne0.false c.lines_with-futures.ensures c.lines_with-options.ensures c.lines_with-stocks.ensures c.lines_with-prices.ensures)
