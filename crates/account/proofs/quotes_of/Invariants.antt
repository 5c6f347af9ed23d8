use Rattle.sheets.specs.View.{sheet_view}
use Rattle.account.specs.Walk.{QuotesAre}
use Rattle.account.proofs.quotes_of.Given as goal

abbrev pub invariant-loop-i : goal.invariant-loop-i
invariant-loop-i l = QuotesAre (sheet_view l.sheet) l.rows l.i l.quotes
