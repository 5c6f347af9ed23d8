use Rattle.std.proofs.Common.{ap, arith, ◌∙◌}
use Rattle.rows.specs.declared.Pair.{Pair}
use Rattle.rows.specs.Book.{pairs_of}
use Rattle.rules.specs.Lots.{units_of}
use Rattle.calls.specs.Calls.{parted}
use Rattle.calls.specs.NumberLaws.{split_keeping}
use Rattle.ties.proofs.split_book.Goals as goal

pub overflow_sub-q : goal.overflow_sub-q
unfolding units_of pairs_of
overflow_sub-q c =
    let o = c.requires in
    let enough = o.enough in
    let is = ap (λ (q : Pair). q.units) c.pair_in-q.ensures in
    omega arith

pub keep_pair-requires : goal.keep_pair-requires
keep_pair-requires c = rw c.with_units.ensures (split_keeping c.requires _)

pub returns : goal.returns
unfolding parted units_of pairs_of
returns c = c.keep_pair.ensures ∙ rw (c.with_units.ensures, c.pair_in-q.ensures)
