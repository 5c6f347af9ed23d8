use Rattle.lists.specs.Places.{full}
use Rattle.laws.specs.Search.{first_where}
use Rattle.sheets.specs.Sheet.{stock_at, tabled, laid_out}
use Rattle.sheets.specs.Rows.{no_rows, future_codes, option_codes, clearing_in, index_in}
use Rattle.sheets.proofs.empty_sheet.Goals as goal

pub returns : goal.returns
unfolding laid_out no_rows full stock_at tabled future_codes option_codes clearing_in index_in first_where
returns c = rw (c.no_price.ensures, c.no_stock.ensures, c.no_index.ensures)
