use Rattle.std.proofs.Common.{arith, take_all, length}
use Rattle.laws.specs.SearchLaws.{every_at}
use Rattle.rules.specs.Rules.{good_holding}
use Rattle.printed.specs.PlacedLaws.{wider, rows_start, rows_on, rows_out}
use Rattle.printed.proofs.put_holdings.Goals as goal

pub loop-row-init : goal.loop-row-init
loop-row-init c = rows_start _ _ _ _ _ _ (omega arith)

pub put_holding-end-requires : goal.put_holding-end-requires
put_holding-end-requires c =
    (every_at good_holding c.args.rows.now c.loop-row.row-index _ c.requires.0 c.loop-row-test.true, omega (arith, c.loop-row.invariant.near))

pub loop-row-preserved : goal.loop-row-preserved
loop-row-preserved c = rows_on c.loop-row.invariant _ c.loop-row-test.true c.loop-row-test.true c.put_holding-end.ensures

pub returns : goal.returns
returns c =
    let rows = c.args.rows.now in
    wider (rw (take_all (length rows) rows (omega arith)) at (rows_out c.loop-row.invariant c.loop-row-test.false)) (omega arith)
