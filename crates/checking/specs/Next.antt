-- Lines that may stand in a sheet, and a sheet with one row more (document 01, "Text"). RowLaws: it is the sheet of the lines with one
-- line more.
use Rattle.std.specs.Prelude.{◌≡◌, Bool, true, not, List, [], ◌∷◌, ◌++◌, ℕ, ◌≤◌, leb, ltb, eqb, length, Option}
use Rattle.laws.specs.Truth.{both}
use Rattle.laws.specs.Checks.{all_pass}
use Rattle.laws.specs.Search.{every_line}
use Rattle.lists.specs.Sorted.{ascending}
use Rattle.series.specs.Checks.{good_series}
use Rattle.levels.specs.Ranges.{clearing_fits}
use Rattle.amounts.specs.declared.IndexLine.{IndexLine}
use Rattle.amounts.specs.declared.StockLine.{StockLine}
use Rattle.amounts.specs.Lines.{index_fits, stock_fits}
use Rattle.lines.specs.Pieces.{lf, Pieces, one, more, split_on}
use Rattle.sheets.specs.declared.FutureRow.{FutureRow}
use Rattle.sheets.specs.declared.OptionRow.{OptionRow}
use Rattle.sheets.specs.declared.StockRow.{StockRow}
use Rattle.sheets.specs.declared.PriceRow.{PriceRow}
use Rattle.sheets.specs.declared.Sheet.{Sheet}
use Rattle.sheets.specs.Rows.{future_codes, option_codes, two_capitals}
use Rattle.sheet_lines.specs.Lines.{Line, sheet_line, rank, among, own_checks, line_checks}

-- Lines that may stand in a sheet: each passes its own checks, and they are in order.
pub record Good (ls : List Line) : Type 0 where
  pub own : every_line (λ (x : Line). all_pass (own_checks x)) ls ≡ true
  pub in_order_lem : ascending rank ls ≡ true
  pub few : length ls ≤ 1024

-- What the rows of such lines may say.
unfoldable pub good_future : FutureRow → Bool
good_future r = both (among future_codes r.code) (clearing_fits r.clearing)

unfoldable pub good_option : OptionRow → Bool
good_option r = both (among option_codes r.code) (index_fits r.line)

unfoldable pub good_stock : StockRow → Bool
good_stock r = both (two_capitals r.code) (stock_fits r.line)

unfoldable pub good_price : PriceRow → Bool
good_price r = both (good_series r.series) (leb r.price 100000000)

-- A sheet with another day, other F rows, other O rows, other S rows, other Q rows.
abbrev pub with_day : Sheet → ℕ → Sheet
with_day sheet day =
    record {
      number = sheet.number;
      line = sheet.line;
      day = day;
      futures = sheet.futures;
      options = sheet.options;
      stocks = sheet.stocks;
      prices = sheet.prices;
      quoted = sheet.quoted;
    }

abbrev pub with_futures : Sheet → List (Option ℕ) → Sheet
with_futures sheet futures =
    record {
      number = sheet.number;
      line = sheet.line;
      day = sheet.day;
      futures = futures;
      options = sheet.options;
      stocks = sheet.stocks;
      prices = sheet.prices;
      quoted = sheet.quoted;
    }

abbrev pub with_options : Sheet → List IndexLine → Sheet
with_options sheet options =
    record {
      number = sheet.number;
      line = sheet.line;
      day = sheet.day;
      futures = sheet.futures;
      options = options;
      stocks = sheet.stocks;
      prices = sheet.prices;
      quoted = sheet.quoted;
    }

abbrev pub with_stocks : Sheet → List StockLine → Sheet
with_stocks sheet stocks =
    record {
      number = sheet.number;
      line = sheet.line;
      day = sheet.day;
      futures = sheet.futures;
      options = sheet.options;
      stocks = stocks;
      prices = sheet.prices;
      quoted = sheet.quoted;
    }

abbrev pub with_prices : Sheet → List PriceRow → ℕ → Sheet
with_prices sheet prices quoted =
    record {
      number = sheet.number;
      line = sheet.line;
      day = sheet.day;
      futures = sheet.futures;
      options = sheet.options;
      stocks = sheet.stocks;
      prices = prices;
      quoted = quoted;
    }

-- A text whose lines all pass: each behind those before it, at most 1,024 of them, each with its LF.
unfoldable pub well_lines : List Line → Pieces → Bool
well_lines before (one rest) = eqb (length rest) 0
well_lines before (more line ls) =
    both (ltb (length before) 1024) (both (all_pass (line_checks before (sheet_line line))) (well_lines (before ++ (sheet_line line ∷ [])) ls))

unfoldable pub well_text : List ℕ → Bool
well_text text = both (leb (length text) 65536) (both (not (eqb (length text) 0)) (well_lines [] (split_on lf text)))

-- what the lines of a text say
unfoldable pub lines_in : Pieces → List Line
lines_in (one rest) = []
lines_in (more line ls) = sheet_line line ∷ lines_in ls
