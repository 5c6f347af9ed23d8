-- Document 01, "Values at the edges": what the margin program prints of two texts, "`R account day clearing maintenance initial`, or
-- `X number line`"; the book is read first.
use Rattle.std.specs.Prelude.{List, [], ◌∷◌, ℕ, eqb}
use Rattle.laws.specs.Truth.{pick}
use Rattle.laws.specs.Text.{byte}
use Rattle.digits.specs.Digits.{fixed, numerals}
use Rattle.lines.specs.Texts.{line_text}
use Rattle.put.specs.Output.{refusal_text}
use Rattle.levels.specs.declared.Levels.{Levels}
use Rattle.rows.specs.declared.Book.{Book}
use Rattle.reading.specs.Reading.{Answer, read_book}
use Rattle.account.specs.declared.Margin.{Margin}
use Rattle.account.specs.Margin.{margin_text}

-- `R account day clearing maintenance initial`
unfoldable pub result_text : ℕ → ℕ → Levels → List ℕ
result_text account day l =
    line_text (byte "R") (fixed 7 account ∷ fixed 8 day ∷ numerals l.clearing ∷ numerals l.maintenance ∷ numerals l.initial ∷ [])

-- the line of a margin call on this book
unfoldable pub margin_line_text : Book → Margin → List ℕ
margin_line_text b m =
    pick (eqb m.number 0) (result_text b.account b.day m.levels) (refusal_text m.number m.line)

-- a book's text, then a sheet's: a refused book is answered before the sheet is looked at
unfoldable pub read_line_text : Answer → List ℕ → List ℕ
read_line_text a sheet =
    pick (eqb a.number 0) (margin_line_text a.book (margin_text a.book sheet)) (refusal_text a.number a.line)

unfoldable pub statement_text : List ℕ → List ℕ → List ℕ
statement_text book sheet = read_line_text (read_book book) sheet
