use Rattle.std.proofs.Common.{ap, arith, ◌∙◌}
use Rattle.rows.specs.declared.Pair.{Pair}
use Rattle.rows.specs.Book.{pairs_of}
use Rattle.rules.specs.Lots.{units_of}
use Rattle.rules.specs.RuleLaws.{pairs_good, counts_are}
use Rattle.calls.specs.Calls.{joined}
use Rattle.calls.specs.NumberLaws.{units_fit, pair_keeping}
use Rattle.ties.proofs.pair_book.Goals as goal

pub overflow_add-q : goal.overflow_add-q
unfolding units_of pairs_of
overflow_add-q c =
    let o = c.requires in
    let stand = units_fit _ c.args.p (pairs_good o.sound) in
    let more = (counts_are _ _ _ o.counts).few_units in
    let is = ap (λ (q : Pair). q.units) c.pair_in-q.ensures in
    omega arith

pub keep_pair-requires : goal.keep_pair-requires
keep_pair-requires c = rw c.with_units.ensures (pair_keeping c.requires _)

pub returns : goal.returns
unfolding joined units_of pairs_of
returns c = c.keep_pair.ensures ∙ rw (c.with_units.ensures, c.pair_in-q.ensures)
