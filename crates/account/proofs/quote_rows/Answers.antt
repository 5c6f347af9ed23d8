use Rattle.account.specs.QuotedLaws.{rows_priced}
use Rattle.account.proofs.quote_rows.Goals as goal

pub quotes_of-requires : goal.quotes_of-requires
quotes_of-requires c = (c.requires.0, rows_priced c.args.sheet _ _ c.requires.1 c.requires.0 c.prices_of-prices.ensures)

pub returns : goal.returns
returns c = c.quotes_of.ensures
