use Rattle.std.proofs.Common.{le-ltb, lt-ltb, refl}
use Rattle.sheets.proofs.stock_at.Goals as goal

pub returns-then-place-lt676 : goal.returns-then-place-lt676
returns-then-place-lt676 c = rw (lt-ltb _ _ c.if-place-lt676.true) refl

pub returns-else-place-lt676 : goal.returns-else-place-lt676
returns-else-place-lt676 c = rw (le-ltb _ _ c.if-place-lt676.false) c.no_stock.ensures
