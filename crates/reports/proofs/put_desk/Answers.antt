use Rattle.std.proofs.Common.{[], refl, arith}
use Rattle.laws.specs.RefusalLaws.{refusal_positive}
use Rattle.reading.specs.Reading.{read_as}
use Rattle.reports.specs.DeskLaws.{laid_as, calls_long, read_is_sound, book_read, book_made, book_refused}
use Rattle.reports.proofs.put_desk.Goals as goal

pub returns-then-calls-gt65536 : goal.returns-then-calls-gt65536
returns-then-calls-gt65536 c = laid_as _ _ (calls_long _ _ c.if-calls-gt65536.true) c.put_refusal.ensures

pub put_worked-requires : goal.put_worked-requires
unfolding read_as
put_worked-requires c = (read_is_sound c.args.book.now [] _ (rw c.in-Ok.is at c.read.ensures), (c.if-calls-gt65536.false, c.requires))

pub returns-in-Ok : goal.returns-in-Ok
unfolding read_as
returns-in-Ok c = laid_as _ _ (book_read _ _ _ (rw c.in-Ok.is at c.read.ensures) c.if-calls-gt65536.false refl) c.put_worked.ensures

pub put_worked-requires-in-Err : goal.put_worked-requires-in-Err
put_worked-requires-in-Err c = (read_is_sound c.args.book.now [] _ (rw c.in-Err.is at c.read.ensures), (c.if-calls-gt65536.false, c.requires))

pub returns-in-Err : goal.returns-in-Err
returns-in-Err c = laid_as _ _ (book_made _ _ _ (rw c.in-Err.is at c.read.ensures) c.if-calls-gt65536.false c.makes_book.ensures c.if-makes_book.true) c.put_worked-in-Err.ensures

pub returns-in-Err-2 : goal.returns-in-Err-2
returns-in-Err-2 c =
    let h = refusal_positive c.in-Err.f.fault.refusal in
    laid_as _ _ (book_refused _ _ _ (rw c.in-Err.is at c.read.ensures) c.if-calls-gt65536.false c.makes_book.ensures c.if-makes_book.false (λ z. omega arith))
    (rw c.number.ensures at c.put_refusal-in-Err-2.ensures)
