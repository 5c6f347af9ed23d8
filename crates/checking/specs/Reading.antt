-- Document 01, "Text" (sheet) and "Numbers a call may answer": a sheet is judged line by line; "The first bad line is the one reported";
-- "Line 1,025 of a sheet is 2, unread". A sheet that passes is its rows.
use Rattle.std.specs.Prelude.{List, [], ◌∷◌, ◌++◌, ℕ, suc, leb, ltb, eqb, length}
use Rattle.laws.specs.Truth.{pick}
use Rattle.laws.specs.Search.{gathered}
use Rattle.laws.specs.Checks.{first_failing, all_pass}
use Rattle.lines.specs.Pieces.{lf, Pieces, one, more, split_on}
use Rattle.sheets.specs.declared.FutureRow.{FutureRow}
use Rattle.sheets.specs.declared.OptionRow.{OptionRow}
use Rattle.sheets.specs.declared.StockRow.{StockRow}
use Rattle.sheets.specs.declared.PriceRow.{PriceRow}
use Rattle.sheets.specs.declared.Sheet.{Sheet}
use Rattle.sheets.specs.Rows.{Rows}
use Rattle.sheets.specs.Sheet.{laid_out}
use Rattle.checking.specs.declared.Verdict.{Verdict}
use Rattle.sheet_lines.specs.Lines.{Line, head, future, option, stock, price, formless, sheet_line, line_checks}

-- The rows that lines say, group by group.

unfoldable pub future_row : Line → List FutureRow
future_row (head day) = []
future_row (future r) = r ∷ []
future_row (option r) = []
future_row (stock r) = []
future_row (price r) = []
future_row formless = []

unfoldable pub option_row : Line → List OptionRow
option_row (head day) = []
option_row (future r) = []
option_row (option r) = r ∷ []
option_row (stock r) = []
option_row (price r) = []
option_row formless = []

unfoldable pub stock_row : Line → List StockRow
stock_row (head day) = []
stock_row (future r) = []
stock_row (option r) = []
stock_row (stock r) = r ∷ []
stock_row (price r) = []
stock_row formless = []

unfoldable pub price_row : Line → List PriceRow
price_row (head day) = []
price_row (future r) = []
price_row (option r) = []
price_row (stock r) = []
price_row (price r) = r ∷ []
price_row formless = []

-- the day of the D line, which stands first
unfoldable pub day_of : List Line → ℕ
day_of [] = 0
day_of (head day ∷ ls) = day
day_of (future r ∷ ls) = 0
day_of (option r ∷ ls) = 0
day_of (stock r ∷ ls) = 0
day_of (price r ∷ ls) = 0
day_of (formless ∷ ls) = 0

unfoldable pub rows_of : List Line → Rows
rows_of ls =
    record { day = day_of ls; futures = gathered future_row ls; options = gathered option_row ls; stocks = gathered stock_row ls; prices = gathered price_row ls }

-- What comes of a text: a number and a line, or 0, 0 and the lines.
pub record Judged : Type 0 where
  pub number : ℕ
  pub line : ℕ
  pub lines : List Line

unfoldable pub refused_at : ℕ → ℕ → Judged
refused_at number line = record { number = number; line = line; lines = [] }

unfoldable pub judged_as : List Line → Judged
judged_as ls = record { number = 0; line = 0; lines = ls }

-- the lines behind those before; what stands behind the last LF is a line without its LF
unfoldable pub judge_lines : List Line → Pieces → Judged
judge_lines before (one rest) =
    pick (eqb (length rest) 0) (judged_as before) (refused_at (pick (ltb (length before) 1024) 1 2) (suc (length before)))
judge_lines before (more line ls) =
    pick (ltb (length before) 1024)
    (pick (all_pass (line_checks before (sheet_line line))) (judge_lines (before ++ (sheet_line line ∷ [])) ls)
    (refused_at (first_failing (line_checks before (sheet_line line))) (suc (length before))))
    (refused_at 2 (suc (length before)))

-- "Text: too long by bytes, line 0; then by line"; "empty text (line 0)"
unfoldable pub judged : List ℕ → Judged
judged text =
    pick (leb (length text) 65536) (pick (eqb (length text) 0) (refused_at 1 0) (judge_lines [] (split_on lf text))) (refused_at 2 0)

-- Read a sheet: its number and line, and its rows. Check a sheet: its number and line.
unfoldable pub sheet_of : Judged → Sheet
sheet_of j = laid_out j.number j.line (rows_of j.lines)

unfoldable pub read_sheet : List ℕ → Sheet
read_sheet text = sheet_of (judged text)

unfoldable pub check_text : List ℕ → Verdict
check_text text = record { number = (judged text).number; line = (judged text).line }
