-- The line in its room is the report, and it fits.
use Rattle.std.proofs.Common.{ap, arith}
use Rattle.put.specs.Output.{output_of}
use Rattle.put.specs.LineLaws.{line_is}
use Rattle.checking.specs.Reading.{judged}
use Rattle.reports.specs.ReportLaws.{sheet_report_fits}
use Rattle.check_sheet.proofs.print.Goals as goal

pub shared_ref_as_front-text : goal.shared_ref_as_front-text
unfolding output_of
shared_ref_as_front-text g c = omega (arith, sheet_report_fits (judged c.args.sheet.now), ap (λ line. line.length) c.of_sheet-line.ensures)

pub returns : goal.returns
returns g c = rw (line_is _ (sheet_report_fits _) _ c.of_sheet-line.ensures) at c.write_all.ensures.bytes
