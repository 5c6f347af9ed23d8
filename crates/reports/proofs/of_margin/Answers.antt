use Rattle.std.proofs.Common.{refl, arith, ◌∙◌}
use Rattle.laws.specs.RefusalLaws.{refusal_positive}
use Rattle.reading.specs.Reading.{read_as}
use Rattle.reports.specs.StatementLaws.{book_refused, book_stated}
use Rattle.reports.proofs.of_margin.Goals as goal

pub returns-in-Ok : goal.returns-in-Ok
unfolding read_as
returns-in-Ok c = c.line_of.ensures ∙ book_stated _ _ _ (rw c.in-Ok.is at c.read.ensures) _ c.margin_of.ensures refl

pub returns-in-Err : goal.returns-in-Err
returns-in-Err c =
    let h = refusal_positive c.in-Err.f.fault.refusal in
    rw c.number.ensures at c.refusal.ensures ∙ book_refused _ _ _ (rw c.in-Err.is at c.read.ensures) (λ z. omega arith)
