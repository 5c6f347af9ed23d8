-- The line in its room is what is said, and it fits.
use Rattle.std.proofs.Common.{ap, arith}
use Rattle.put.specs.Output.{output_of}
use Rattle.put.specs.LineLaws.{line_is}
use Rattle.reading.specs.Reading.{read_book}
use Rattle.reports.specs.ReportLaws.{book_report_fits}
use Rattle.cases.proofs.say_book.Goals as goal

pub shared_ref_as_front-text : goal.shared_ref_as_front-text
unfolding output_of
shared_ref_as_front-text g c = omega (arith, book_report_fits (read_book c.args.book.now), ap (λ line. line.length) c.of_book-line.ensures)

pub returns : goal.returns
returns g c = rw (line_is _ (book_report_fits (read_book c.args.book.now)) _ c.of_book-line.ensures) at c.say.ensures
