use Rattle.std.proofs.Common.{ap, arith, lit≤, not, sym, ◌∙◌}
use borrow.Author.Tests.{not-true, not-false}
use Rattle.levels.specs.Levels.{flat}
use Rattle.levels.specs.RangeLaws.{at_most_more}
use Rattle.quotes.specs.Quotes.{no_quote, no_terms}
use Rattle.account.specs.Walk.{part_of, ready_at, comes_at}
use Rattle.account.specs.SumLaws.{summing_starts, summing_next, summing_fails, summing_ends}
use Rattle.account.proofs.holdings_margin.Goals as goal

pub loop-i-init : goal.loop-i-init
loop-i-init c = rw c.same_at_all-sum.ensures (summing_starts _ _)

pub returns-then-not-holding_ready : goal.returns-then-not-holding_ready
unfolding part_of ready_at no_quote no_terms
returns-then-not-holding_ready c = summing_fails _ _ _ (flat 0) _ c.loop-i-test.true (sym c.holding_ready.ensures ∙ not-true _ (ap not c.if-not-holding_ready.true))

pub holding_comes-requires : goal.holding_comes-requires
unfolding comes_at no_quote no_terms
holding_comes-requires c = c.requires.1 _ c.loop-i-test.true

pub add-sum-requires : goal.add-sum-requires
unfolding comes_at no_quote no_terms
add-sum-requires c =
    let room = c.requires.0 in
    let s = c.loop-i.invariant in
    (at_most_more (omega (arith, room, c.loop-i-test.true)) s.most, rw c.holding_comes.ensures (at_most_more (lit≤ tt) (c.requires.1 _ c.loop-i-test.true)))

pub loop-i-preserved : goal.loop-i-preserved
unfolding ready_at comes_at no_quote no_terms
loop-i-preserved c = rw c.add-sum.ensures (summing_next _ _ c.loop-i.invariant (sym c.holding_ready.ensures ∙ not-false _ (ap not c.if-not-holding_ready.false)) c.holding_comes.ensures (c.requires.1 _ c.loop-i-test.true))

pub returns : goal.returns
returns c = summing_ends _ _ c.loop-i.invariant (omega arith)
