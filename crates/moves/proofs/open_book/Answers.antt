use Rattle.std.proofs.Common.{ap, arith, ◌∙◌}
use Rattle.rows.specs.Rows.{lots_on}
use Rattle.rows.specs.Book.{holdings_of}
use Rattle.calls.specs.Calls.{opened}
use Rattle.calls.specs.HeldLaws.{held_on}
use Rattle.calls.specs.NumberLaws.{open_keeping}
use Rattle.moves.proofs.open_book.Goals as goal

pub add_lots-requires : goal.add_lots-requires
unfolding holdings_of
add_lots-requires c =
    let fits = c.requires.fits in
    let is = ap (lots_on c.args.side) c.held_of-h.ensures ∙ held_on (holdings_of c.args.b) c.args.s c.args.side in
    omega arith

pub keep_holding-requires : goal.keep_holding-requires
unfolding holdings_of
keep_holding-requires c = rw (c.add_lots.ensures, c.held_of-h.ensures) (open_keeping c.requires)

pub returns : goal.returns
unfolding opened holdings_of
returns c = c.keep_holding.ensures ∙ rw (c.add_lots.ensures, c.held_of-h.ensures)
