-- The line in its room is what is said, and it fits.
use Rattle.std.proofs.Common.{ap, arith}
use Rattle.put.specs.Output.{output_of}
use Rattle.put.specs.LineLaws.{line_is}
use Rattle.reports.specs.StatementLaws.{statement_fits}
use Rattle.cases.proofs.say_margin.Goals as goal

pub shared_ref_as_front-text : goal.shared_ref_as_front-text
unfolding output_of
shared_ref_as_front-text g c = omega (arith, statement_fits c.args.book.now c.args.sheet.now, ap (λ line. line.length) c.of_margin-line.ensures)

pub returns : goal.returns
returns g c = rw (line_is _ (statement_fits c.args.book.now c.args.sheet.now) _ c.of_margin-line.ensures) at c.say.ensures
