-- Document 01, "The book" ("read, check a sheet") and "Text": what is printed of a text that is read or checked: the first line of its kind with
-- how many rows stand behind it, or `X number line`.
use Rattle.std.specs.Prelude.{List, [], ◌∷◌, ℕ, eqb, length}
use Rattle.laws.specs.Truth.{pick}
use Rattle.laws.specs.Text.{byte}
use Rattle.digits.specs.Digits.{fixed, numerals}
use Rattle.lines.specs.Texts.{line_text}
use Rattle.rows.specs.declared.Book.{Book}
use Rattle.reading.specs.Reading.{Answer}
use Rattle.sheets.specs.Rows.{Rows}
use Rattle.checking.specs.Reading.{Judged, rows_of}
use Rattle.put.specs.Output.{refusal_text}

-- `A account identity day`, then how many holdings and pairs there are
unfoldable pub book_text : Book → List ℕ
book_text b =
    line_text (byte "A") (fixed 7 b.account ∷ (b.identity ∷ []) ∷ fixed 8 b.day ∷ numerals b.held ∷ numerals b.paired ∷ [])

-- `D day`, then how many lines each group has: F, O, S, Q
unfoldable pub counts_text : ℕ → ℕ → ℕ → ℕ → ℕ → List ℕ
counts_text day futures options stocks prices =
    line_text (byte "D") (fixed 8 day ∷ numerals futures ∷ numerals options ∷ numerals stocks ∷ numerals prices ∷ [])

unfoldable pub sheet_text : Rows → List ℕ
sheet_text rows =
    counts_text rows.day (length rows.futures) (length rows.options) (length rows.stocks) (length rows.prices)

-- what is printed of a book's text, and of a sheet's
unfoldable pub book_report : Answer → List ℕ
book_report a = pick (eqb a.number 0) (book_text a.book) (refusal_text a.number a.line)

unfoldable pub sheet_report : Judged → List ℕ
sheet_report j = pick (eqb j.number 0) (sheet_text (rows_of j.lines)) (refusal_text j.number j.line)
