use Rattle.std.proofs.Common.{refl, arith, ◌∙◌}
use Rattle.laws.specs.RefusalLaws.{refusal_positive}
use Rattle.reading.specs.Reading.{read_as}
use Rattle.reports.specs.StatementLaws.{book_refused, book_stated}
use Rattle.exports.specs.ExportLaws.{margin_is}
use Rattle.exports.proofs.stated.Goals as goal

pub returns-in-Err : goal.returns-in-Err
returns-in-Err c =
    let h = refusal_positive c.in-Err.f.fault.refusal in
    rw c.number.ensures at c.refusal.ensures ∙ book_refused _ _ _ (rw c.in-Err.is at c.read.ensures) (λ z. omega arith)

pub loop-init : goal.loop-init
loop-init c = c.margin_on-m.ensures

pub loop-preserved : goal.loop-preserved
loop-preserved c = c.margin_on-m-in-loop.ensures

pub returns-after-loop : goal.returns-after-loop
unfolding read_as
returns-after-loop c = c.line_of.ensures ∙ book_stated _ _ _ (rw c.in-Ok.is at c.read.ensures) _ (margin_is _ _ c.read-s.ensures c.loop.invariant) refl
