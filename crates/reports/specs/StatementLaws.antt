-- Laws of the statement: that every line fits its room, and what each way through the two texts gives.
use Rattle.std.specs.Prelude.{◌≡◌, List, ℕ, ◌≤◌, eqb, length}
use Rattle.std.proofs.Math.Path.{ap}
use Rattle.std.proofs.Common.{arith, eq-eqb, ne_eqb}
use Rattle.laws.specs.TruthLaws.{picked}
use Rattle.laws.specs.Text.{byte}
use Rattle.digits.specs.Digits.{fixed, numerals}
use Rattle.put.specs.Output.{refusal_text, output_of}
use Rattle.put.specs.LineLaws.{field_fits, last_fits, line_fits, fixed_few, numerals_most, refusal_fits}
use Rattle.levels.specs.declared.Levels.{Levels}
use Rattle.rows.specs.declared.Book.{Book}
use Rattle.reading.specs.Reading.{Answer, read_book}
use Rattle.account.specs.declared.Margin.{Margin}
use Rattle.account.specs.Margin.{margin_text}
use Rattle.reports.specs.Statement.{result_text, margin_line_text, read_line_text, statement_text}

-- How long the lines can be.

pub result_fits : (account day : ℕ) (l : Levels) → length (result_text account day l) ≤ 96
unfolding result_text
result_fits account day l =
    let f = line_fits (byte "R") _
    (field_fits (fixed 7 account) _ (fixed_few 7 account)
    (field_fits (fixed 8 day) _ (fixed_few 8 day)
    (field_fits (numerals l.clearing) _ (numerals_most l.clearing)
    (field_fits (numerals l.maintenance) _ (numerals_most l.maintenance)
    (last_fits (numerals l.initial) (numerals_most l.initial)))))) in
    omega (arith, f)

margin_fits : (b : Book) (m : Margin) → length (margin_line_text b m) ≤ 96
unfolding margin_line_text
margin_fits b m =
    picked (λ (t : List ℕ). length t ≤ 96) (eqb m.number 0) (result_text b.account b.day m.levels) (refusal_text m.number m.line)
    (λ _. result_fits b.account b.day m.levels)
    (λ _. refusal_fits m.number m.line)

-- The line of any two texts fits.
pub statement_fits : (book sheet : List ℕ) → length (statement_text book sheet) ≤ 96
unfolding statement_text read_line_text
statement_fits book sheet =
    let a = read_book book in
    let m = margin_text a.book sheet in
    picked (λ (t : List ℕ). length t ≤ 96) (eqb a.number 0) (margin_line_text a.book m) (refusal_text a.number a.line)
    (λ _. margin_fits a.book m)
    (λ _. refusal_fits a.number a.line)

-- The two ways through a margin, and the two through a book's text.
module _ (b : Book) (m : Margin) where
  pub line_refused : (m.number ≡ 0 → ⊥) → output_of (refusal_text m.number m.line) ≡ output_of (margin_line_text b m)
  unfolding margin_line_text
  line_refused h = ap output_of (simp (ne_eqb _ _ h))

  pub line_stated : m.number ≡ 0 → output_of (result_text b.account b.day m.levels) ≡ output_of (margin_line_text b m)
  unfolding margin_line_text
  line_stated h = ap output_of (simp (eq-eqb _ _ h))

module _ (book sheet : List ℕ) (a : Answer) (read : a ≡ read_book book) where
  pub book_refused : (a.number ≡ 0 → ⊥) → output_of (refusal_text a.number a.line) ≡ output_of (statement_text book sheet)
  unfolding statement_text read_line_text
  book_refused h = ap output_of (rw (← read) (simp (ne_eqb _ _ h)))

  pub book_stated : (m : Margin) → m ≡ margin_text a.book sheet → a.number ≡ 0 → output_of (margin_line_text a.book m) ≡ output_of (statement_text book sheet)
  unfolding statement_text read_line_text
  book_stated m due sound = ap output_of (rw (← read) (simp (eq-eqb _ _ sound) (rw (← due))))
