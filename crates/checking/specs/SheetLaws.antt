-- Laws of what a text is read as: a sheet whose rows stand, in which each row is found by its key, exactly where all its lines pass; any
-- other text has a number and no rows.
use Rattle.std.specs.Prelude.{◌≡◌, ◌⊎◌, Bool, true, false, not, List, [], ◌∷◌, ◌++◌, ℕ, suc, ◌<◌, leb, ltb, eqb, length}
use Rattle.std.proofs.Math.Path.{refl}
use Rattle.std.proofs.Common.{ap, sym, ◌∙◌, inl, inr, ⊎_elim, append-nil, arith, ltb-true, ne_eqb}
use Rattle.std.proofs.lemmas.Bool.{not-true}
use Rattle.std.proofs.Math.Seq.{append_snoc}
use Rattle.laws.specs.Truth.{pick, both}
use Rattle.laws.specs.TruthLaws.{both_true, picked, by_test}
use Rattle.laws.specs.Checks.{Check, first_failing, all_pass}
use Rattle.laws.specs.CheckLaws.{some_fails}
use Rattle.laws.specs.SearchLaws.{every_weaker}
use Rattle.series.specs.declared.Series.{Series}
use Rattle.series.specs.Checks.{good_series}
use Rattle.lines.specs.Pieces.{lf, Pieces, one, more, split_on}
use Rattle.sheets.specs.Rows.{no_rows, clearing_in, index_in, stock_in, price_in}
use Rattle.sheets.specs.Sheet.{laid_out, clearing_on, index_on, stock_on, price_on}
use Rattle.sheets.specs.LookupLaws.{Ordered, clearing_found, index_found, stock_found, price_found}
use Rattle.sheet_lines.specs.Lines.{Line, sheet_line, line_checks}
use Rattle.laws.specs.Search.{gathered}
use Rattle.checking.specs.Reading.{future_row, option_row, stock_row, price_row, rows_of, Judged, refused_at, judged_as, judge_lines, judged, sheet_of, read_sheet, check_text}
use Rattle.checking.specs.Next.{Good, good_future, good_option, good_stock, good_price, well_lines, well_text, lines_in}
use Rattle.sheet_lines.specs.NumberLaws.{line_numbered}
use Rattle.checking.specs.RowLaws.{no_lines, none_good, more_good, prices_fewer, futures_good, options_good, stocks_good, prices_ascend, prices_good}

-- The lines of what is judged stand.
lines_good : (before : List Line) (ps : Pieces) → Good before → Good (judge_lines before ps).lines
unfolding judge_lines judged_as refused_at
lines_good before (one rest) g = picked (λ (j : Judged). Good j.lines) (eqb (length rest) 0) _ _ (λ q. g) (λ q. none_good)
lines_good before (more line ls) g =
    picked (λ (j : Judged). Good j.lines) (ltb (length before) 1024) _ _
    (λ q.
    picked (λ (j : Judged). Good j.lines) (all_pass (line_checks before (sheet_line line))) _ _
    (λ e. lines_good (before ++ (sheet_line line ∷ [])) ls (more_good (sheet_line line) g (ltb-true (length before) 1024 q) e))
    (λ e. none_good))
    (λ q. none_good)

pub judged_good : (t : List ℕ) → Good (judged t).lines
unfolding judged refused_at
judged_good t =
    picked (λ (j : Judged). Good j.lines) (leb (length t) 65536) _ _
    (λ q. picked (λ (j : Judged). Good j.lines) (eqb (length t) 0) _ _ (λ e. none_good) (λ e. lines_good [] (split_on lf t) none_good))
    (λ q. none_good)

-- Rows of lines that stand can be looked up.
pub good_ordered : {ls : List Line} → Good ls → Ordered (rows_of ls)
unfolding rows_of good_future good_option good_stock good_price
good_ordered {ls} g =
    let few = g.few in
    let p = prices_fewer ls in
    record {
      futures_listed = every_weaker good_future _ (λ r e. (both_true _ _ e).0) (gathered future_row ls) (futures_good g);
      options_listed = every_weaker good_option _ (λ r e. (both_true _ _ e).0) (gathered option_row ls) (options_good g);
      stocks_two = every_weaker good_stock _ (λ r e. (both_true _ _ e).0) (gathered stock_row ls) (stocks_good g);
      prices_few = omega arith;
      prices_order = prices_ascend g;
      prices_good = every_weaker good_price _ (λ r e. (both_true _ _ e).0) (gathered price_row ls) (prices_good g);
    }

-- What is found on the sheet of a text is the row with that key among those that its lines say.
module _ (t : List ℕ) where
  pub found_clearing : (code : List ℕ) → clearing_on (read_sheet t) code ≡ clearing_in (rows_of (judged t).lines).futures code
  unfolding read_sheet sheet_of
  found_clearing code = clearing_found (judged t).number (judged t).line (good_ordered (judged_good t)) code

  pub found_index : (code : List ℕ) → index_on (read_sheet t) code ≡ index_in (rows_of (judged t).lines).options code
  unfolding read_sheet sheet_of
  found_index code = index_found (judged t).number (judged t).line (good_ordered (judged_good t)) code

  pub found_stock : (code : List ℕ) → stock_on (read_sheet t) code ≡ stock_in (rows_of (judged t).lines).stocks code
  unfolding read_sheet sheet_of
  found_stock code = stock_found (judged t).number (judged t).line (good_ordered (judged_good t)) code

  pub found_price : (s : Series) → good_series s ≡ true → price_on (read_sheet t) s ≡ price_in (rows_of (judged t).lines).prices s
  unfolding read_sheet sheet_of
  found_price s g = price_found (judged t).number (judged t).line (good_ordered (judged_good t)) s g

  -- Checking a sheet says what reading it says.
  pub check_read : check_text t ≡ record { number = (read_sheet t).number; line = (read_sheet t).line }
  unfolding read_sheet sheet_of check_text laid_out
  check_read = refl

-- How a text ends: accepted, or refused by a number that is not 0, with no lines.
pub record Refused (j : Judged) : Type 0 where
  pub some : 0 < j.number
  pub is : j ≡ refused_at j.number j.line

abbrev Ends : Judged → Type 0
Ends j = (j ≡ judged_as j.lines) ⊎ Refused j

refused_ends : (number line : ℕ) → 0 < number → Ends (refused_at number line)
unfolding refused_at
refused_ends number line h = inr (record { some = h; is = refl })

lines_end : (before : List Line) (ps : Pieces) → Ends (judge_lines before ps)
unfolding judge_lines judged_as line_checks
lines_end before (one rest) =
    picked Ends (eqb (length rest) 0) _ _
    (λ q. inl refl)
    (λ q. refused_ends (pick (ltb (length before) 1024) 1 2) (suc (length before)) (picked (λ (n : ℕ). 0 < n) (ltb (length before) 1024) 1 2 (λ z. omega arith) (λ z. omega arith)))
lines_end before (more line ls) =
    picked Ends (ltb (length before) 1024) _ _
    (λ q.
    picked Ends (all_pass (line_checks before (sheet_line line))) _ _
    (λ e. lines_end (before ++ (sheet_line line ∷ [])) ls)
    (λ e. refused_ends (first_failing (line_checks before (sheet_line line))) (suc (length before)) (some_fails (line_checks before (sheet_line line)) (line_numbered _ _ (sheet_line line)) e)))
    (λ q. refused_ends 2 (suc (length before)) (omega arith))

text_ends : (t : List ℕ) → Ends (judged t)
unfolding judged
text_ends t =
    picked Ends (leb (length t) 65536) _ _
    (λ q. picked Ends (eqb (length t) 0) _ _ (λ e. refused_ends 1 0 (omega arith)) (λ e. lines_end [] (split_on lf t)))
    (λ q. refused_ends 2 0 (omega arith))

-- So the number 0 is that of a text that is accepted, at line 0.
pub read_accepted : (t : List ℕ) → (judged t).number ≡ 0 → judged t ≡ judged_as (judged t).lines
read_accepted t e = ⊎_elim (λ is. is) (λ r. let some = r.some in absurd (omega arith)) (text_ends t)

-- any other is refused: it has no rows
pub read_refused : (t : List ℕ) → ((judged t).number ≡ 0 → ⊥) → judged t ≡ refused_at (judged t).number (judged t).line
unfolding judged_as
read_refused t h = ⊎_elim (λ is. absurd (h (ap (λ (j : Judged). j.number) is))) (λ r. r.is) (text_ends t)

pub refused_empty : (t : List ℕ) → ((judged t).number ≡ 0 → ⊥) → read_sheet t ≡ laid_out (judged t).number (judged t).line no_rows
unfolding read_sheet sheet_of refused_at
refused_empty t h = ap (λ (j : Judged). laid_out (judged t).number (judged t).line (rows_of j.lines)) (read_refused t h) ∙ ap (laid_out (judged t).number (judged t).line) no_lines

-- Two texts that are accepted and say the same rows are read as one sheet.
pub accepted_sheet : (t : List ℕ) → (judged t).number ≡ 0 → read_sheet t ≡ laid_out 0 0 (rows_of (judged t).lines)
unfolding read_sheet sheet_of judged_as
accepted_sheet t e = ap sheet_of (read_accepted t e)

pub same_rows : (t u : List ℕ) → (judged t).number ≡ 0 → (judged u).number ≡ 0 → rows_of (judged t).lines ≡ rows_of (judged u).lines → read_sheet t ≡ read_sheet u
same_rows t u e f same = accepted_sheet t e ∙ ap (laid_out 0 0) same ∙ sym (accepted_sheet u f)

-- A text is accepted exactly where all its lines pass, each behind those before it; the lines are then what it says.
not_zero : (n : ℕ) → 0 < n → eqb n 0 ≡ false
not_zero n h = ne_eqb n 0 (λ e. omega arith)

lines_well : (before : List Line) (ps : Pieces) → eqb (judge_lines before ps).number 0 ≡ well_lines before ps
unfolding judge_lines judged_as refused_at well_lines line_checks
lines_well before (one rest) =
    by_test (λ (b : Bool). eqb (pick b (judged_as before) (refused_at (pick (ltb (length before) 1024) 1 2) (suc (length before)))).number 0 ≡ b) (eqb (length rest) 0)
    (λ q. refl)
    (λ q. picked (λ (n : ℕ). eqb n 0 ≡ false) (ltb (length before) 1024) 1 2 (λ z. refl) (λ z. refl))
lines_well before (more line ls) =
    by_test (λ (b : Bool). eqb (pick b (pick (all_pass cs) next (refused_at (first_failing cs) (suc (length before)))) (refused_at 2 (suc (length before)))).number 0 ≡ both b (both (all_pass cs) (well_lines (before ++ (sheet_line line ∷ [])) ls))) (ltb (length before) 1024)
    (λ q.
    by_test (λ (b : Bool). eqb (pick b next (refused_at (first_failing cs) (suc (length before)))).number 0 ≡ both b (well_lines (before ++ (sheet_line line ∷ [])) ls)) (all_pass cs)
    (λ e. lines_well (before ++ (sheet_line line ∷ [])) ls)
    (λ e. not_zero (first_failing cs) (some_fails cs (line_numbered _ _ (sheet_line line)) e)))
    (λ q. refl)
  where
    cs : List Check
    cs = line_checks before (sheet_line line)

    next : Judged
    next = judge_lines (before ++ (sheet_line line ∷ [])) ls

lines_are : (before : List Line) (ps : Pieces) → well_lines before ps ≡ true → judge_lines before ps ≡ judged_as (before ++ lines_in ps)
unfolding judge_lines well_lines lines_in
lines_are before (one rest) e = rw (e, append-nil before)
lines_are before (more line ls) e =
    let t = both_true (ltb (length before) 1024) _ e in
    let u = both_true (all_pass (line_checks before (sheet_line line))) _ t.1 in
    rw (t.0, u.0) (lines_are (before ++ (sheet_line line ∷ [])) ls u.1 ∙ ap judged_as (append_snoc before (sheet_line line) (lines_in ls)))

pub judged_accepted : (t : List ℕ) → eqb (judged t).number 0 ≡ well_text t
unfolding judged refused_at well_text
judged_accepted t =
    by_test (λ (b : Bool). eqb (pick b (pick (eqb (length t) 0) (refused_at 1 0) (judge_lines [] (split_on lf t))) (refused_at 2 0)).number 0 ≡ both b (both (not (eqb (length t) 0)) (well_lines [] (split_on lf t)))) (leb (length t) 65536)
    (λ q.
    by_test (λ (b : Bool). eqb (pick b (refused_at 1 0) (judge_lines [] (split_on lf t))).number 0 ≡ both (not b) (well_lines [] (split_on lf t))) (eqb (length t) 0)
    (λ e. refl)
    (λ e. lines_well [] (split_on lf t)))
    (λ q. refl)

pub judged_lines : (t : List ℕ) → well_text t ≡ true → judged t ≡ judged_as (lines_in (split_on lf t))
unfolding judged well_text
judged_lines t e =
    let u = both_true (leb (length t) 65536) _ e in
    let v = both_true (not (eqb (length t) 0)) _ u.1 in
    rw (u.0, not-true (eqb (length t) 0) v.0) (lines_are [] (split_on lf t) v.1)
