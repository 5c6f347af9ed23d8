use Rattle.std.proofs.Common.{refl, arith}
use Rattle.laws.specs.RefusalLaws.{refusal_positive}
use Rattle.reading.specs.Reading.{read_as}
use Rattle.exports.specs.Exports.{print_coded}
use Rattle.exports.specs.ExportLaws.{print_few, cells_enough, run_refused, run_unfit, run_done}
use Rattle.exports.proofs.sillauger_run.Goals as goal

pub returns-in-Err : goal.returns-in-Err
returns-in-Err c =
    let h = refusal_positive c.in-Err.f.fault.refusal in
    run_refused _ _ _ _ _ (rw c.in-Err.is at c.read.ensures) (λ z. omega arith) (rw c.number-in-Err.ensures at c.code_of-in-Err.ensures)

pub returns-in-Err-check_script : goal.returns-in-Err-check_script
unfolding read_as
returns-in-Err-check_script c =
    let h = refusal_positive c.in-Err-check_script.refusal in
    run_unfit _ _ _ _ _ (rw c.in-Ok.is at c.read.ensures) refl (rw c.in-Err-check_script.is at c.check_script.ensures)
    (λ z. omega arith) (rw c.number.ensures at c.code_of.ensures)

pub run_calls-b-requires : goal.run_calls-b-requires
run_calls-b-requires c = cells_enough _ _ _ (rw c.in-Ok-check_script.is at c.check_script.ensures) refl

pub print_code-requires : goal.print_code-requires
print_code-requires c = print_few _ _ c.print.ensures.0

pub returns-in-Ok-check_script : goal.returns-in-Ok-check_script
unfolding read_as print_coded
returns-in-Ok-check_script c =
    run_done _ _ _ _ _ (rw c.in-Ok.is at c.read.ensures) refl (rw c.in-Ok-check_script.is at c.check_script.ensures)
    refl c.run_calls-b.ensures c.print.ensures c.print_code.ensures
