-- Document 01, "Text" (sheet): what a line of a sheet says, and what it may say: "`D day`; `F code clearing`; `O code multiplier A A A B B B
-- C C C underlying`; `S xx shares futrate a c c c disposition price`; `Q SERIES price`. Groups in that order, each strictly ascending;
-- levels stand clearing, maintenance, initial."
use Rattle.std.specs.Prelude.{Bool, true, false, not, List, [], ◌∷◌, ◌++◌, ℕ, leb, ltb, eqb, length, get_or}
use Rattle.laws.specs.Truth.{pick, both, either}
use Rattle.laws.specs.Bytes.{same_bytes}
use Rattle.laws.specs.Text.{byte, bytes}
use Rattle.laws.specs.Checks.{Check, ◌unless◌}
use Rattle.lists.specs.Sorted.{ascending}
use Rattle.dates.specs.Calendar.{is_day}
use Rattle.codes.specs.declared.Class.{Class}
use Rattle.codes.specs.Codes.{is_option_class, is_stock_future}
use Rattle.series.specs.Checks.{suits, class_of}
use Rattle.series.specs.Key.{key}
use Rattle.levels.specs.declared.Levels.{Levels}
use Rattle.levels.specs.Ranges.{clearing_fits}
use Rattle.amounts.specs.Lines.{index_fits, stock_fits}
use Rattle.lines.specs.declared.Asked.{Asked}
use Rattle.lines.specs.declared.Asked.TheVariants.{Number, Date, Code, Mark}
use Rattle.lines.specs.declared.Cell.{Cell}
use Rattle.lines.specs.Pieces.{fields_of}
use Rattle.lines.specs.Fields.{has_form, cells_of, series_of}
use Rattle.sheets.specs.declared.FutureRow.{FutureRow}
use Rattle.sheets.specs.declared.OptionRow.{OptionRow}
use Rattle.sheets.specs.declared.StockRow.{StockRow}
use Rattle.sheets.specs.declared.PriceRow.{PriceRow}
use Rattle.sheets.specs.Rows.{future_codes, option_codes, two_capitals}
use Rattle.sheets.specs.Sheet.{place_in}

-- The forms of the lines, behind their letters.

-- `D day`
unfoldable pub head_form : List Asked
head_form = Date ∷ []

-- `F code clearing`
unfoldable pub future_form : List Asked
future_form = Code ∷ Number ∷ []

-- `O code multiplier A A A B B B C C C underlying`
unfoldable pub option_form : List Asked
option_form = Code ∷ Number ∷ Number ∷ Number ∷ Number ∷ Number ∷ Number ∷ Number ∷ Number ∷ Number ∷ Number ∷ Number ∷ []

-- `S xx shares futrate a c c c disposition price`
unfoldable pub stock_form : List Asked
stock_form = Code ∷ Number ∷ Number ∷ Number ∷ Number ∷ Number ∷ Number ∷ Number ∷ Number ∷ []

-- `Q SERIES price`
unfoldable pub price_form : List Asked
price_form = Code ∷ Date ∷ Mark ∷ Number ∷ Number ∷ []

-- What a line says.
pub data Line : Type 0 where
  head : ℕ → Line
  future : FutureRow → Line
  option : OptionRow → Line
  stock : StockRow → Line
  price : PriceRow → Line
  formless : Line

-- what stands in the field i behind the letter; nothing behind the last
abbrev pub cell : List Cell → ℕ → Cell
cell cs i = get_or cs i (record { right = false; number = 0; code = [] })

abbrev pub figure : List Cell → ℕ → ℕ
figure cs i = (cell cs i).number

-- "levels stand clearing, maintenance, initial", in three fields
abbrev pub levels_in : List Cell → ℕ → ℕ → ℕ → Levels
levels_in cs i j k = record { clearing = figure cs i; maintenance = figure cs j; initial = figure cs k }

unfoldable pub future_from : List Cell → FutureRow
future_from cs = record { code = (cell cs 0).code; clearing = figure cs 1 }

unfoldable pub option_from : List Cell → OptionRow
option_from cs =
    record {
      code = (cell cs 0).code;
      line = record { multiplier = figure cs 1; a = levels_in cs 2 3 4; b = levels_in cs 5 6 7; c = levels_in cs 8 9 10; underlying = figure cs 11 };
    }

unfoldable pub stock_from : List Cell → StockRow
stock_from cs =
    record {
      code = (cell cs 0).code;
      line = record { shares = figure cs 1; future = figure cs 2; option = figure cs 3; c = levels_in cs 4 5 6; disposition = figure cs 7; price = figure cs 8 };
    }

unfoldable pub price_from : List Cell → PriceRow
price_from cs = record { series = series_of (cell cs 0) (cell cs 1) (cell cs 2) (cell cs 3); price = figure cs 4 }

-- what is said of each letter of a sheet, in the order of its groups, and of any other byte
abbrev pub by_letter : {A : Type 0} → ℕ → A → A → A → A → A → A → A
by_letter letter d f o s q other =
    pick (eqb letter (byte "D")) d
    (pick (eqb letter (byte "F")) f
    (pick (eqb letter (byte "O")) o
    (pick (eqb letter (byte "S")) s
    (pick (eqb letter (byte "Q")) q other))))

-- a line's letter, or 0 where it is none of the five; the form of the fields behind it; what they say
unfoldable pub letter_in : List ℕ → ℕ
letter_in f =
    pick (same_bytes f (bytes "D")) (byte "D")
    (pick (same_bytes f (bytes "F")) (byte "F")
    (pick (same_bytes f (bytes "O")) (byte "O")
    (pick (same_bytes f (bytes "S")) (byte "S")
    (pick (same_bytes f (bytes "Q")) (byte "Q") 0))))

unfoldable pub form_of : ℕ → List Asked
form_of letter = by_letter letter head_form future_form option_form stock_form price_form []

unfoldable pub said : ℕ → List Cell → Line
said letter cs =
    by_letter letter
    (head (figure cs 0))
    (future (future_from cs))
    (option (option_from cs))
    (stock (stock_from cs))
    (price (price_from cs))
    formless

unfoldable pub line_by : ℕ → List (List ℕ) → Line
line_by letter fs = pick (has_form (form_of letter) fs) (said letter (cells_of (form_of letter) fs)) formless

unfoldable pub line_from : List (List ℕ) → Line
line_from [] = formless
line_from (f ∷ fs) = line_by (letter_in f) fs

-- what the bytes before an LF say
unfoldable pub sheet_line : List ℕ → Line
sheet_line line = line_from (fields_of line)

-- "Groups in that order, each strictly ascending": a line's group, then its code by its bytes, or its series
unfoldable pub rank : Line → List ℕ
rank (head day) = 1 ∷ []
rank (future r) = 2 ∷ r.code
rank (option r) = 3 ∷ r.code
rank (stock r) = 4 ∷ r.code
rank (price r) = 5 ∷ key r.series ∷ []
rank formless = []

-- What a line may say. "F takes the eight codes that have a clearing margin, O the four listed options, S any two capitals, Q any
-- option or stock future, price 0 allowed."

abbrev pub among : List (List ℕ) → List ℕ → Bool
among cs code = ltb (place_in cs code) (length cs)

abbrev pub is_quoted : Class → Bool
is_quoted class = either (is_option_class class) (is_stock_future class)

-- "within it 1, 4, 5, 2"
unfoldable pub own_checks : Line → List Check
own_checks (head day) = 5 unless is_day day ∷ []
own_checks (future r) = 4 unless among future_codes r.code ∷ 2 unless clearing_fits r.clearing ∷ []
own_checks (option r) = 4 unless among option_codes r.code ∷ 2 unless index_fits r.line ∷ []
own_checks (stock r) = 4 unless two_capitals r.code ∷ 2 unless stock_fits r.line ∷ []
own_checks (price r) =
    4 unless is_quoted (class_of r.series)
    ∷ 5 unless is_day r.series.date
    ∷ 2 unless both (suits (class_of r.series) r.series.nature) (leb r.price 100000000)
    ∷ []
own_checks formless = 1 unless false ∷ []

abbrev pub is_head : Line → Bool
is_head (head day) = true
is_head (future r) = false
is_head (option r) = false
is_head (stock r) = false
is_head (price r) = false
is_head formless = false

-- "first line not D" is 1; "line out of order or repeated" is 3
unfoldable pub checks_by : Bool → Bool → Line → List Check
checks_by first in_order x = 1 unless either (not first) (is_head x) ∷ (own_checks x ++ (3 unless in_order ∷ []))

-- a line's checks behind the lines before it
unfoldable pub line_checks : List Line → Line → List Check
line_checks before x = checks_by (eqb (length before) 0) (ascending rank (before ++ (x ∷ []))) x
