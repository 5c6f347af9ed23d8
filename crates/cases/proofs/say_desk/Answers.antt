-- The text in its room is the desk's, and it fits.
use Rattle.std.proofs.Common.{ap, arith}
use Rattle.reports.specs.Desk.{desk_of}
use Rattle.reports.specs.DeskLaws.{desk_fits, desk_is}
use Rattle.cases.proofs.say_desk.Goals as goal

pub shared_ref_as_front-text : goal.shared_ref_as_front-text
unfolding desk_of
shared_ref_as_front-text g c =
    omega (arith, desk_fits c.args.book.now c.args.calls.now, ap (λ desk. desk.length) c.of_calls-desk.ensures)

pub returns : goal.returns
returns g c = rw (desk_is _ _ _ c.of_calls-desk.ensures) at c.say.ensures
