use Rattle.std.proofs.Common.{refl, arith, ◌∙◌}
use Rattle.laws.specs.RefusalLaws.{refusal_positive}
use Rattle.reading.specs.Reading.{read_as}
use Rattle.exports.specs.Exports.{print_coded}
use Rattle.exports.specs.ExportLaws.{print_few, print_again, text_refused, text_printed}
use Rattle.exports.proofs.sillauger_print.Goals as goal

pub returns-in-Err : goal.returns-in-Err
returns-in-Err c =
    let h = refusal_positive c.in-Err.f.fault.refusal in
    text_refused _ _ _ (rw c.in-Err.is at c.read.ensures) (λ z. omega arith) (rw c.number.ensures at c.code_of.ensures)

pub loop-init : goal.loop-init
loop-init c = (refl, refl)

pub loop-preserved : goal.loop-preserved
loop-preserved c = print_again _ _ c.print-p.ensures c.loop.invariant.1 c.print-p-in-loop.ensures

pub print_code-requires : goal.print_code-requires
print_code-requires c = print_few _ _ (c.loop.invariant.0 ∙ c.print-p.ensures.0)

pub returns-after-loop : goal.returns-after-loop
unfolding read_as print_coded
returns-after-loop c =
    let inv = c.loop.invariant in
    let p = c.print-p.ensures in
    text_printed _ _ _ (rw c.in-Ok.is at c.read.ensures) refl (inv.0 ∙ p.0, inv.1 ∙ p.1) c.print_code.ensures
