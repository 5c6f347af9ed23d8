-- Laws of the reports: that the line of every text fits its room, and what each way through a text gives.
use Rattle.std.specs.Prelude.{◌≡◌, List, [], ◌∷◌, ℕ, ◌≤◌, eqb, length}
use Rattle.std.proofs.Math.Path.{ap, sym}
use Rattle.std.proofs.Common.{◌∙◌, arith, eq-eqb, ne_eqb}
use Rattle.laws.specs.TruthLaws.{picked}
use Rattle.laws.specs.Text.{byte}
use Rattle.digits.specs.Digits.{fixed, numerals}
use Rattle.lines.specs.Pieces.{lf, split_on}
use Rattle.rows.specs.declared.Book.{Book}
use Rattle.reading.specs.Reading.{Answer}
use Rattle.sheets.specs.declared.Sheet.{Sheet}
use Rattle.sheets.specs.Sheet.{laid_out}
use Rattle.checking.specs.Reading.{Judged, rows_of, judged, sheet_of, read_sheet}
use Rattle.put.specs.Output.{refusal_text}
use Rattle.put.specs.LineLaws.{field_fits, last_fits, line_fits, fixed_few, numerals_most, refusal_fits}
use Rattle.reports.specs.Reports.{book_text, counts_text, sheet_text, book_report, sheet_report}
use Rattle.reports.specs.Counts.{lines_with}
use Rattle.reports.specs.CountLaws.{futures_counted, options_counted, stocks_counted, prices_counted}

-- How long the lines can be.
pub book_fits : (b : Book) → length (book_text b) ≤ 96
unfolding book_text
book_fits b =
    let f = line_fits (byte "A") _
    (field_fits (fixed 7 b.account) _ (fixed_few 7 b.account)
    (field_fits {m = 1} (b.identity ∷ []) _ (omega arith)
    (field_fits (fixed 8 b.day) _ (fixed_few 8 b.day)
    (field_fits (numerals b.held) _ (numerals_most b.held)
    (last_fits (numerals b.paired) (numerals_most b.paired)))))) in
    omega (arith, f)

pub counts_fit_lem : (day futures options stocks prices : ℕ) → length (counts_text day futures options stocks prices) ≤ 96
unfolding counts_text
counts_fit_lem day futures options stocks prices =
    let f = line_fits (byte "D") _
    (field_fits (fixed 8 day) _ (fixed_few 8 day)
    (field_fits (numerals futures) _ (numerals_most futures)
    (field_fits (numerals options) _ (numerals_most options)
    (field_fits (numerals stocks) _ (numerals_most stocks)
    (last_fits (numerals prices) (numerals_most prices)))))) in
    omega (arith, f)

-- The line of any text fits.
pub book_report_fits : (a : Answer) → length (book_report a) ≤ 96
unfolding book_report
book_report_fits a =
    picked (λ (t : List ℕ). length t ≤ 96) (eqb a.number 0) (book_text a.book) (refusal_text a.number a.line)
    (λ _. book_fits a.book)
    (λ _. refusal_fits a.number a.line)

pub sheet_report_fits : (j : Judged) → length (sheet_report j) ≤ 96
unfolding sheet_report sheet_text
sheet_report_fits j =
    picked (λ (t : List ℕ). length t ≤ 96) (eqb j.number 0) (sheet_text (rows_of j.lines)) (refusal_text j.number j.line)
    (λ _. counts_fit_lem _ _ _ _ _)
    (λ _. refusal_fits j.number j.line)

-- The two ways through a book's text, and the two through a sheet's.
module _ (a : Answer) where
  pub book_refused : (a.number ≡ 0 → ⊥) → refusal_text a.number a.line ≡ book_report a
  unfolding book_report
  book_refused h = simp (ne_eqb _ _ h)

  pub book_told : a.number ≡ 0 → book_text a.book ≡ book_report a
  unfolding book_report
  book_told h = simp (eq-eqb _ _ h)

module _ (t : List ℕ) (s : Sheet) (read : s ≡ read_sheet t) where
  number_is : s.number ≡ (judged t).number
  unfolding read_sheet sheet_of laid_out
  number_is = ap (λ (z : Sheet). z.number) read

  pub sheet_refused : (s.number ≡ 0 → ⊥) → refusal_text s.number s.line ≡ sheet_report (judged t)
  unfolding sheet_report read_sheet sheet_of laid_out
  sheet_refused h = rw read (simp (ne_eqb _ _ (λ e. h (number_is ∙ e))))

  pub sheet_told : s.number ≡ 0 → {futures options stocks prices : ℕ} → futures ≡ lines_with (byte "F") (split_on lf t) → options ≡ lines_with (byte "O") (split_on lf t) → stocks ≡ lines_with (byte "S") (split_on lf t) → prices ≡ lines_with (byte "Q") (split_on lf t) → counts_text s.day futures options stocks prices ≡ sheet_report (judged t)
  unfolding sheet_report sheet_text read_sheet sheet_of laid_out
  sheet_told h f o k q =
      let e = sym number_is ∙ h in
      rw (read, f ∙ futures_counted t e, o ∙ options_counted t e, k ∙ stocks_counted t e, q ∙ prices_counted t e) (simp (eq-eqb _ _ e))
