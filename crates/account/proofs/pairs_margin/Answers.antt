use Rattle.std.proofs.Common.{ap, arith, lit≤, not, sym, ◌∙◌}
use Rattle.account.specs.SumLaws.{summing_starts, summing_next, summing_fails, summing_ends}
use Rattle.account.specs.Walk.{part_of, pair_ready_at, pair_comes_at}
use Rattle.quotes.specs.Quotes.{no_quote, no_terms}
use Rattle.levels.specs.Levels.{flat}
use Rattle.levels.specs.RangeLaws.{at_most_more}
use borrow.Author.Tests.{not-true, not-false}
use Rattle.account.proofs.pairs_margin.Goals as goal

pub loop-j-init : goal.loop-j-init
loop-j-init c = rw c.same_at_all-sum.ensures (summing_starts _ _)

pub offset_bounds-quotes-firsts : goal.offset_bounds-quotes-firsts
offset_bounds-quotes-firsts c = let h = (c.requires.1 _ c.loop-j-test.true).first_stands in omega (arith, h)

pub bounds-quotes-firsts : goal.bounds-quotes-firsts
bounds-quotes-firsts c = (c.requires.1 _ c.loop-j-test.true).first_stands

pub offset_bounds-quotes-seconds : goal.offset_bounds-quotes-seconds
offset_bounds-quotes-seconds c = let h = (c.requires.1 _ c.loop-j-test.true).second_stands in omega (arith, h)

pub bounds-quotes-seconds : goal.bounds-quotes-seconds
bounds-quotes-seconds c = (c.requires.1 _ c.loop-j-test.true).second_stands

pub returns-then-not-pair_ready : goal.returns-then-not-pair_ready
unfolding part_of pair_ready_at no_quote no_terms
returns-then-not-pair_ready c = summing_fails _ _ _ (flat 0) _ c.loop-j-test.true (sym c.pair_ready.ensures ∙ not-true _ (ap not c.if-not-pair_ready.true))

pub pair_comes-requires : goal.pair_comes-requires
unfolding pair_comes_at no_quote no_terms
pair_comes-requires c = (c.requires.1 _ c.loop-j-test.true).most

pub add-sum-requires : goal.add-sum-requires
unfolding pair_comes_at no_quote no_terms
add-sum-requires c =
    let room = c.requires.0 in
    (at_most_more (omega (arith, room, c.loop-j-test.true)) c.loop-j.invariant.most, rw c.pair_comes.ensures (at_most_more (lit≤ tt) (c.requires.1 _ c.loop-j-test.true).most))

pub loop-j-preserved : goal.loop-j-preserved
unfolding pair_ready_at pair_comes_at no_quote no_terms
loop-j-preserved c =
    rw c.add-sum.ensures
    (summing_next _ _ c.loop-j.invariant
    (sym c.pair_ready.ensures ∙ not-false _ (ap not c.if-not-pair_ready.false))
    c.pair_comes.ensures
    (c.requires.1 _ c.loop-j-test.true).most)

pub returns : goal.returns
returns c = summing_ends _ _ c.loop-j.invariant (omega arith)
