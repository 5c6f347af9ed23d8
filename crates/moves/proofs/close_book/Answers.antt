use Rattle.std.proofs.Common.{◌∙◌}
use Rattle.rows.specs.Book.{holdings_of}
use Rattle.calls.specs.Calls.{closed}
use Rattle.calls.specs.NumberLaws.{close_keeping}
use Rattle.moves.proofs.close_book.Goals as goal

pub keep_holding-requires : goal.keep_holding-requires
unfolding holdings_of
keep_holding-requires c = rw (c.lessen.ensures, c.held_of-h.ensures) (close_keeping c.requires)

pub returns : goal.returns
unfolding closed holdings_of
returns c = c.keep_holding.ensures ∙ rw (c.lessen.ensures, c.held_of-h.ensures)
