-- A sheet as it is asked, by the key of a line (document 01, "Text": the F, O, S and Q lines of a sheet).
use Rattle.std.specs.Prelude.{List, ℕ, Option}
use Rattle.series.specs.declared.Series.{Series}
use Rattle.amounts.specs.declared.IndexLine.{IndexLine}
use Rattle.amounts.specs.declared.StockLine.{StockLine}
use Rattle.sheets.specs.declared.Sheet.{Sheet}
use Rattle.sheets.specs.Rows.{Rows, clearing_in, index_in, stock_in, price_in}
use Rattle.sheets.specs.Sheet.{clearing_on, index_on, stock_on, price_on}

-- the clearing amount of a future, the O line of an option, the S line of a stock, the price of a series
pub record View : Type 0 where
  pub clearing : List ℕ → Option ℕ
  pub index : List ℕ → IndexLine
  pub stock : List ℕ → StockLine
  pub price : Series → Option ℕ

-- rows as they are asked, and a sheet in plain fields (account/TextLaws: of a text that reads as a sheet the two are one)
unfoldable pub rows_view : Rows → View
rows_view rows =
    record { clearing = clearing_in rows.futures; index = index_in rows.options; stock = stock_in rows.stocks; price = price_in rows.prices }

unfoldable pub sheet_view : Sheet → View
sheet_view sheet = record { clearing = clearing_on sheet; index = index_on sheet; stock = stock_on sheet; price = price_on sheet }

-- the same answers, whatever the key
unfoldable pub saying : Option ℕ → IndexLine → StockLine → Option ℕ → View
saying clearing index stock price =
    record { clearing = λ (code : List ℕ). clearing; index = λ (code : List ℕ). index; stock = λ (code : List ℕ). stock; price = λ (s : Series). price }
