-- Document 01, "How much each contract has to say": the idle program "that reports a line number or lot count it made up", shut out by "the table above, and the
-- holdings themselves". Each theorem is of every program that meets the contract of `reading::read`, the last of `checking::check`. (The other idle programs: `history` and `same_answer`, IdleLaws.)
use Rattle.std.specs.Prelude.{◌≡◌, refl, true, ℕ, ◌<◌, Result, Ok, Err}
use Rattle.std.proofs.Math.Path.{ap, sym}
use Rattle.std.proofs.Common.{◌∙◌}
use mathlib.Core.List.{List, [], ◌∷◌}
use native.Mathlib.Omega.{arith}
use Rattle.laws.specs.Refusals.{number_of}
use Rattle.laws.specs.RefusalLaws.{refusal_positive}
use Rattle.laws.specs.Text.{byte}
use Rattle.laws.specs.Bytes.{same_bytes}
use Rattle.laws.specs.Checks.{first_failing, all_pass}
use Rattle.series.specs.declared.Series.{Series}
use Rattle.series.specs.declared.Side.{Side}
use Rattle.series.specs.declared.Side.TheVariants.{Long}
use Rattle.rows.specs.declared.Book.{Book}
use Rattle.rules.specs.Lots.{free}
use Rattle.rules.specs.Rules.{sound_book}
use Rattle.history.specs.History.{step, run}
use Rattle.history.proofs.HistoryLaws.{history}
use Rattle.history.specs.Idle.{sample, october, one_opened}
use Rattle.history.proofs.IdleLaws.{seen}
use Rattle.lines.specs.Pieces.{lf, split_on, list_of, fields_of}
use Rattle.printed.specs.Printed.{text_of}
use Rattle.book_lines.specs.Lines.{line_in, line_from, book_line, checks_by}
use Rattle.reading.specs.Reading.{Answer, line_checks, refused_at, read_as, read_lines, read_book, answer_in}
use Rattle.reading.specs.declared.RefusedText.{RefusedText}
use Rattle.reading.specs.AnswerLaws.{one_reading}
use Rattle.trip.proofs.TripLaws.{read_print}
use Rattle.lines.specs.Fields.{has_form, cells_of}
use Rattle.checking.specs.declared.Verdict.{Verdict}
use Rattle.sheet_lines.specs.Lines.{letter_in, form_of, said, line_by, sheet_line, own_checks, checks_by as sheetBy, line_from as sheetFrom, line_checks as sheetChecks}
use Rattle.checking.specs.Reading.{judge_lines, judged, check_text, refused_at as refusedSheet}

-- No text is refused in line 0, a lone LF in line 1.
no_text : read_book [] ≡ refused_at 1 0
unfolding read_book
no_text = refl

blank_line : read_book (lf ∷ []) ≡ refused_at 1 1
unfolding read_book read_lines split_on list_of fields_of line_in line_from book_line line_checks checks_by same_bytes first_failing all_pass
blank_line = refl

-- The books of `history`'s example, before and after two lots are opened, are sound.
before_sound : sound_book (run step sample []) ≡ true
unfolding sample
before_sound = (history 7 (byte "1") 20190930 [] seen.made).sound

after_sound : sound_book (run step sample one_opened) ≡ true
unfolding sample
after_sound = (history 7 (byte "1") 20190930 one_opened seen.made).sound

module _ (program : List ℕ → Answer) (meets : (t : List ℕ) → program t ≡ read_book t) where
  -- A line that is made up from the number of the refusal.
  pub made_up_line : (line : ℕ → ℕ) → ((t : List ℕ) → 0 < (program t).number → (program t).line ≡ line (program t).number) → ⊥
  unfolding refused_at
  made_up_line line e =
      let none = meets [] ∙ no_text in
      let blank = meets (lf ∷ []) ∙ blank_line in
      let x = e [] (rw none (omega arith)) in
      let y = e (lf ∷ []) (rw blank (omega arith)) in
      let p : (program []).line ≡ 0 = ap (λ (a : Answer). a.line) none in
      let q : (program (lf ∷ [])).line ≡ 1 = ap (λ (a : Answer). a.line) blank in
      let n : line (program []).number ≡ line (program (lf ∷ [])).number = ap (λ (a : Answer). line a.number) none ∙ sym (ap (λ (a : Answer). line a.number) blank) in
      omega arith

  -- The lots of a text are those of its book, for each series and side.
  told : (b : Book) → sound_book b ≡ true → program (text_of b) ≡ read_as b
  told b h = meets (text_of b) ∙ read_print b h

  pub lots_told : (b : Book) (s : Series) (d : Side) → sound_book b ≡ true → free (program (text_of b)).book s d ≡ free b s d
  unfolding read_as
  lots_told b s d h = ap (λ (a : Answer). free a.book s d) (told b h)

  -- Lots that are made up from series and side, without a look at the text: there are none of TX in the one book and two in the other.
  pub made_up_lots : (lots : Series → Side → ℕ) → ((t : List ℕ) (s : Series) (d : Side) → (program t).number ≡ 0 → free (program t).book s d ≡ lots s d) → ⊥
  unfolding read_as run
  made_up_lots lots e =
      let b = run step sample [] in
      let c = run step sample one_opened in
      let x = sym (lots_told b october Long before_sound) ∙ e (text_of b) october Long (ap (λ (a : Answer). a.number) (told b before_sound)) in
      let y = sym (lots_told c october Long after_sound) ∙ e (text_of c) october Long (ap (λ (a : Answer). a.number) (told c after_sound)) in
      let none = seen.none_opened in
      let two = seen.one_opened_lem in
      omega arith

-- The same of every program that answers a book or a refusal, as `reading::read` does, and meets its contract.
fault_line : (line : ℕ → ℕ) (x : Result Book RefusedText) → ((f : RefusedText) → x ≡ Err f → f.fault.line ≡ line (number_of f.fault.refusal)) → 0 < (answer_in x).number → (answer_in x).line ≡ line (answer_in x).number
unfolding read_as
fault_line line (Ok b) h p = absurd (omega arith)
fault_line line (Err f) h p = h f refl

book_lots : (lots : Series → Side → ℕ) (x : Result Book RefusedText) → ((b : Book) (s : Series) (d : Side) → x ≡ Ok b → free b s d ≡ lots s d)
    → (s : Series) (d : Side) → (answer_in x).number ≡ 0 → free (answer_in x).book s d ≡ lots s d
unfolding read_as
book_lots lots (Ok b) h s d p = h b s d refl
book_lots lots (Err f) h s d p = let q = refusal_positive f.fault.refusal in absurd (omega arith)

module _ (program : List ℕ → Result Book RefusedText) (meets : (t : List ℕ) → answer_in (program t) ≡ read_book t) where
  pub fault_made_up : (line : ℕ → ℕ) → ((t : List ℕ) (f : RefusedText) → program t ≡ Err f → f.fault.line ≡ line (number_of f.fault.refusal)) → ⊥
  fault_made_up line e = made_up_line (λ (t : List ℕ). answer_in (program t)) meets line (λ t p. fault_line line (program t) (e t) p)

  pub book_told : (b : Book) → sound_book b ≡ true → program (text_of b) ≡ Ok b
  book_told b h = one_reading (program (text_of b)) (Ok b) (meets (text_of b) ∙ read_print b h)

  pub lots_made_up : (lots : Series → Side → ℕ) → ((t : List ℕ) (b : Book) (s : Series) (d : Side) → program t ≡ Ok b → free b s d ≡ lots s d) → ⊥
  lots_made_up lots e = made_up_lots (λ (t : List ℕ). answer_in (program t)) meets lots (λ t s d p. book_lots lots (program t) (e t) s d p)

-- Of every program that meets the contract of `checking::check`: a sheet's line is not made up from the number either.
no_sheet : check_text [] ≡ record { number = 1; line = 0 }
unfolding check_text judged refusedSheet
no_sheet = refl

blank_sheet : check_text (lf ∷ []) ≡ record { number = 1; line = 1 }
unfolding check_text judged refusedSheet judge_lines split_on list_of fields_of sheet_line sheetFrom line_by letter_in form_of said same_bytes has_form cells_of sheetChecks sheetBy own_checks first_failing all_pass
blank_sheet = refl

pub made_up_sheet_line : (program : List ℕ → Verdict) → ((t : List ℕ) → program t ≡ check_text t) → (line : ℕ → ℕ) → ((t : List ℕ) → 0 < (program t).number → (program t).line ≡ line (program t).number) → ⊥
made_up_sheet_line program meets line e =
    let none = meets [] ∙ no_sheet in
    let blank = meets (lf ∷ []) ∙ blank_sheet in
    let x = e [] (rw none (omega arith)) in
    let y = e (lf ∷ []) (rw blank (omega arith)) in
    let p : (program []).line ≡ 0 = ap (λ (v : Verdict). v.line) none in
    let q : (program (lf ∷ [])).line ≡ 1 = ap (λ (v : Verdict). v.line) blank in
    let n : line (program []).number ≡ line (program (lf ∷ [])).number = ap (λ (v : Verdict). line v.number) none ∙ sym (ap (λ (v : Verdict). line v.number) blank) in
    omega arith
