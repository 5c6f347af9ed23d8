-- What a book answers to a text of call lines (document 01, "The book" and "Numbers a call may answer"): the calls are made one after the other, and each line
-- has its number. "A line has the form when its letter, number of fields, number fields and LF are right."
use Rattle.std.specs.Prelude.{Bool, true, false, List, [], ◌∷◌, ℕ, leb, eqb, length}
use Rattle.laws.specs.Truth.{pick}
use Rattle.lists.specs.Places.{full}
use Rattle.rows.specs.declared.Book.{Book}
use Rattle.calls.specs.Outcome.{Outcome}
use Rattle.calls.specs.Calls.{outcome, make_answer}
use Rattle.history.specs.History.{step}
use Rattle.lines.specs.Pieces.{lf, Pieces, one, more, split_on}
use Rattle.call_lines.specs.declared.Worked.{Worked}
use Rattle.call_lines.specs.Lines.{Line, make, call, formless, call_line}

-- A line's answer, `first` where no line stands before it: a line without the form is 1, a make behind another line 3, and neither changes the book; a make in line 1
-- gives the book that it makes; every other call is answered as the call itself.
unfoldable pub answer_to : Bool → Book → Line → Outcome
answer_to first b formless = outcome 1 b
answer_to first b (make account identity day) = pick first (make_answer account identity day) (outcome 3 b)
answer_to first b (call c) = step b c

-- What lines come to: the book, and each line's number.
pub record Answers : Type 0 where
  pub book : Book
  pub numbers : List ℕ

abbrev pub after : Outcome → Answers → Answers
after o rest = record { book = rest.book; numbers = o.number ∷ rest.numbers }

-- line after line; what stands behind the last LF is a line without its LF
unfoldable pub answers_to : Bool → Book → Pieces → Answers
answers_to first b (one rest) = record { book = b; numbers = pick (eqb (length rest) 0) [] (1 ∷ []) }
answers_to first b (more line ls) =
    after (answer_to first b (call_line line)) (answers_to false (answer_to first b (call_line line)).book ls)

unfoldable pub answers_in : Book → List ℕ → Answers
answers_in b text = answers_to true b (split_on lf text)

-- "text too long" is 2, and no line is looked at; else 0, the book, and the numbers in room for as many lines as there can be
unfoldable pub worked_as : ℕ → Book → List ℕ → Worked
worked_as number b numbers = record { number = number; lines = length numbers; book = b; numbers = full 65536 0 numbers }

unfoldable pub worked : Book → List ℕ → Worked
worked b text = pick (leb (length text) 65536) (worked_as 0 (answers_in b text).book (answers_in b text).numbers) (worked_as 2 b [])

-- line 1 is a make
abbrev pub is_make : Line → Bool
is_make (make account identity day) = true
is_make (call c) = false
is_make formless = false

abbrev pub made_in : Pieces → Bool
made_in (one rest) = false
made_in (more line ls) = is_make (call_line line)

unfoldable pub makes_book : List ℕ → Bool
makes_book text = made_in (split_on lf text)
