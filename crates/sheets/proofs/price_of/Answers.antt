use Rattle.std.proofs.Common.{arith, sym, ◌∙◌}
use Rattle.halving.specs.Halving.{middle}
use Rattle.sheets.specs.SeekLaws.{seek_starts, seek_up, seek_down, seek_here, seek_none, pair_at}
use Rattle.sheets.proofs.price_of.Goals as goal

pub loop-low-init : goal.loop-low-init
loop-low-init c = record { inside = omega arith; seeks = seek_starts _ _ }

pub loop-low-preserved-in-Less : goal.loop-low-preserved-in-Less
loop-low-preserved-in-Less c = record {
  inside = omega arith;
  seeks = seek_up _ _ c.loop-low.invariant.seeks c.loop-low-test.true (sym c.in-Less.is ∙ pair_at c.args.rows.now c.args.key (middle c.loop-low.low c.loop-low.high) _ c.halves_of-k.ensures c.cmp.ensures (omega arith));
}

pub returns-in-Equal : goal.returns-in-Equal
returns-in-Equal c = seek_here _ _ c.loop-low.invariant.seeks c.loop-low-test.true _ (sym c.in-Equal.is ∙ pair_at c.args.rows.now c.args.key (middle c.loop-low.low c.loop-low.high) _ c.halves_of-k.ensures c.cmp.ensures (omega arith)) (omega arith)

pub loop-low-preserved : goal.loop-low-preserved
loop-low-preserved c = record {
  inside = omega arith;
  seeks = seek_down _ _ c.loop-low.invariant.seeks c.loop-low-test.true (sym c.in-Greater.is ∙ pair_at c.args.rows.now c.args.key (middle c.loop-low.low c.loop-low.high) _ c.halves_of-k.ensures c.cmp.ensures (omega arith));
}

pub returns : goal.returns
returns c = seek_none _ _ c.loop-low.invariant.seeks c.loop-low-test.false
