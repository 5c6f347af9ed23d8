-- The theorem of the work on a text: the book that results is the `run` of `history` on the calls that the lines say, the lines answered by 0 are the calls that it
-- accepts, and a sound book stays sound. So what demand 3 says of a history holds of a text.
use Rattle.std.specs.Prelude.{◌≡◌, refl, Bool, true, ℕ, eqb, length}
use Rattle.std.proofs.Common.{◌∙◌}
use Rattle.std.proofs.Math.Bool.{false}
use mathlib.Core.List.{List, [], ◌∷◌, ◌++◌}
use Rattle.laws.specs.Truth.{pick}
use Rattle.laws.specs.TruthLaws.{by_test, clash}
use Rattle.rows.specs.declared.Book.{Book}
use Rattle.rules.specs.Facts.{Sound}
use Rattle.calls.specs.Calls.{make_answer}
use Rattle.calls.specs.CallLaws.{make_keeps, open_keeps, split_keeps, turn_keeps}
use Rattle.calls.proofs.KeepLaws.{close_keeps, pair_keeps}
use Rattle.history.specs.History.{BookCall, open_lots, close_lots, pair_units, split_units, turn_day, step, made, run, accepted}
use Rattle.history.specs.Demand.{AsCounted}
use Rattle.history.proofs.HistoryLaws.{Since, since, history}
use Rattle.lines.specs.Pieces.{lf, Pieces, one, more, split_on}
use Rattle.call_lines.specs.Lines.{Line, make, call, formless, call_line}
use Rattle.call_lines.specs.Work.{answer_to, answers_to, answers_in, is_make, made_in, makes_book}
use Rattle.call_lines.specs.Run.{call_in, calls_of, calls_in, passed_of, passed_in, begin_with, begin_of, begin_in}

-- What the book is, and which calls were accepted: behind the first line, where the lines begin with the book that they are handed.
module _ (ls : Pieces) (run-rest : (c : Book) → (answers_to false c ls).book ≡ run step c (calls_of ls)) where
  line_run : (b : Book) (x : Line) → (answers_to false (answer_to false b x).book ls).book ≡ run step b (call_in x ++ calls_of ls)
  unfolding answer_to run
  line_run b (make account identity day) = run-rest b
  line_run b (call c) = run-rest (step b c).book
  line_run b formless = run-rest b

  first_run : (b : Book) (x : Line) → (answers_to false (answer_to true b x).book ls).book ≡ run step (begin_with b x) (call_in x ++ calls_of ls)
  unfolding answer_to run
  first_run b (make account identity day) = run-rest (made account identity day)
  first_run b (call c) = run-rest (step b c).book
  first_run b formless = run-rest b

rest_run : (ps : Pieces) (b : Book) → (answers_to false b ps).book ≡ run step b (calls_of ps)
unfolding answers_to calls_of run
rest_run (one rest) b = refl
rest_run (more line ls) b = line_run ls (rest_run ls) b (call_line line)

module _ (ls : Pieces) (passed-rest : (c : Book) → accepted step c (calls_of ls) ≡ passed_of (answers_to false c ls).numbers ls) where
  -- a call, and those behind it
  call_passed : (b : Book) (c : BookCall) → accepted step b (c ∷ calls_of ls) ≡ pick (eqb (step b c).number 0) (c ∷ []) [] ++ passed_of (answers_to false (step b c).book ls).numbers ls
  unfolding accepted
  call_passed b c =
      rw (passed-rest (step b c).book)
      (by_test (λ (t : Bool). pick t (c ∷ passed_of (answers_to false (step b c).book ls).numbers ls) (passed_of (answers_to false (step b c).book ls).numbers ls) ≡ pick t (c ∷ []) [] ++ passed_of (answers_to false (step b c).book ls).numbers ls) (eqb (step b c).number 0)
      (λ q. refl)
      (λ q. refl))

  line_passed : (b : Book) (x : Line) → accepted step b (call_in x ++ calls_of ls) ≡ pick (eqb (answer_to false b x).number 0) (call_in x) [] ++ passed_of (answers_to false (answer_to false b x).book ls).numbers ls
  unfolding answer_to
  line_passed b (make account identity day) = passed-rest b
  line_passed b (call c) = call_passed b c
  line_passed b formless = passed-rest b

  first_passed : (b : Book) (x : Line) → accepted step (begin_with b x) (call_in x ++ calls_of ls) ≡ pick (eqb (answer_to true b x).number 0) (call_in x) [] ++ passed_of (answers_to false (answer_to true b x).book ls).numbers ls
  unfolding answer_to
  first_passed b (make account identity day) =
      passed-rest (made account identity day)
      ∙ by_test (λ (t : Bool). passed_of (answers_to false (made account identity day) ls).numbers ls ≡ pick t [] [] ++ passed_of (answers_to false (made account identity day) ls).numbers ls) (eqb (make_answer account identity day).number 0) (λ q. refl) (λ q. refl)
  first_passed b (call c) = call_passed b c
  first_passed b formless = passed-rest b

last_passed : (rest : List ℕ) → [] ≡ passed_of (pick (eqb (length rest) 0) [] (1 ∷ [])) (one rest)
unfolding passed_of
last_passed rest = by_test (λ (t : Bool). [] ≡ passed_of (pick t [] (1 ∷ [])) (one rest)) (eqb (length rest) 0) (λ q. refl) (λ q. refl)

rest_passed : (ps : Pieces) (b : Book) → accepted step b (calls_of ps) ≡ passed_of (answers_to false b ps).numbers ps
unfolding answers_to calls_of accepted passed_of
rest_passed (one rest) b = last_passed rest
rest_passed (more line ls) b = line_passed ls (rest_passed ls) b (call_line line)

-- The theorem, of every book and every text: the book that results is the run of the calls that the lines say, and the lines answered by 0 are those that are accepted.
pub work_run : (b : Book) (text : List ℕ) → (answers_in b text).book ≡ run step (begin_in b text) (calls_in text)
unfolding answers_in begin_in calls_in run answers_to calls_of
work_run b text = go (split_on lf text)
  where
    go : (ps : Pieces) → (answers_to true b ps).book ≡ run step (begin_of b ps) (calls_of ps)
    go (one rest) = refl
    go (more line ls) = first_run ls (rest_run ls) b (call_line line)

pub work_passed : (b : Book) (text : List ℕ) → accepted step (begin_in b text) (calls_in text) ≡ passed_in (answers_in b text).numbers text
unfolding answers_in begin_in calls_in passed_in accepted answers_to calls_of passed_of
work_passed b text = go (split_on lf text)
  where
    go : (ps : Pieces) → accepted step (begin_of b ps) (calls_of ps) ≡ passed_of (answers_to true b ps).numbers ps
    go (one rest) = last_passed rest
    go (more line ls) = first_passed ls (rest_passed ls) b (call_line line)

-- So what demand 3 says of a history holds of a text that begins with a make: the book is what the lines answered by 0 say.
pub work_counted : (b : Book) (text : List ℕ) (account identity day : ℕ) → begin_in b text ≡ made account identity day → (make_answer account identity day).number ≡ 0 → AsCounted account identity day (passed_in (answers_in b text).numbers text) (answers_in b text).book
work_counted b text account identity day begins ok =
    rw (work_run b text, ← work_passed b text, begins) (history account identity day (calls_in text) ok)

-- And where line 1 is no make, of the book handed in: what it became since is what the lines answered by 0 say.
begins_same : (b : Book) (ps : Pieces) → made_in ps ≡ false → begin_of b ps ≡ b
begins_same b (one rest) e = refl
begins_same b (more line ls) e = line_same (call_line line) e
  where
    line_same : (x : Line) → is_make x ≡ false → begin_with b x ≡ b
    line_same (make account identity day) e = absurd (clash refl e)
    line_same (call c) e = refl
    line_same formless e = refl

pub work_since : (b : Book) (text : List ℕ) → Sound b → makes_book text ≡ false → Since b (passed_in (answers_in b text).numbers text) (answers_in b text).book
unfolding makes_book begin_in
work_since b text sound none =
    let begins : begin_in b text ≡ b = begins_same b (split_on lf text) none in
    rw (work_run b text, ← work_passed b text, begins) (since b (calls_in text) sound)

-- A sound book stays sound, whatever the lines say.
pub step_keeps : (b : Book) (c : BookCall) → Sound b → Sound (step b c).book
unfolding step
step_keeps b (open_lots s d n) h = open_keeps b s d n h
step_keeps b (close_lots s d n) h = close_keeps b s d n h
step_keeps b (pair_units p) h = pair_keeps b p h
step_keeps b (split_units p) h = split_keeps b p h
step_keeps b (turn_day day) h = turn_keeps b day h

answer_keeps : (first : Bool) (b : Book) (x : Line) → Sound b → Sound (answer_to first b x).book
unfolding answer_to
answer_keeps true b (make account identity day) h = make_keeps account identity day
answer_keeps false b (make account identity day) h = h
answer_keeps first b (call c) h = step_keeps b c h
answer_keeps first b formless h = h

answers_keep : (first : Bool) (b : Book) (ps : Pieces) → Sound b → Sound (answers_to first b ps).book
unfolding answers_to
answers_keep first b (one rest) h = h
answers_keep first b (more line ls) h = answers_keep false (answer_to first b (call_line line)).book ls (answer_keeps first b (call_line line) h)

pub work_keeps : (b : Book) (text : List ℕ) → Sound b → Sound (answers_in b text).book
unfolding answers_in
work_keeps b text h = answers_keep true b (split_on lf text) h
