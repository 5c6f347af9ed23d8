use Rattle.std.proofs.Common.{refl, ap, arith, ◌∙◌}
use Rattle.laws.specs.Refusals.{number_of}
use Rattle.laws.specs.RefusalLaws.{refusal_positive}
use Rattle.put.specs.PutLaws.{put_is}
use Rattle.put.specs.Output.{output_of}
use Rattle.put.specs.LineLaws.{stated}
use Rattle.reading.specs.Reading.{Answer, read_as}
use Rattle.reports.specs.Reports.{book_report}
use Rattle.reports.specs.ReportLaws.{book_fits, book_refused, book_told}
use Rattle.reports.proofs.of_book.Goals as goal

pub returns-in-Ok : goal.returns-in-Ok
unfolding read_as
returns-in-Ok c =
    stated _ (book_fits _) (put_is c.put_book-length.ensures)
    ∙ ap output_of (book_told (read_as c.in-Ok.b) refl ∙ ap book_report (rw c.in-Ok.is at c.read.ensures))

pub returns-in-Err : goal.returns-in-Err
returns-in-Err c =
    let a : Answer = record { number = number_of c.in-Err.why.fault.refusal; line = c.in-Err.why.fault.line; book = c.in-Err.why.book } in
    let h = refusal_positive c.in-Err.why.fault.refusal in
    rw c.number.ensures at c.refusal.ensures
    ∙ ap output_of (book_refused a (λ z. omega arith) ∙ ap book_report (rw c.in-Err.is at c.read.ensures))
