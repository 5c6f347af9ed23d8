-- What the program `desk` prints of a book's text and a text of call lines: the text of the book that results, then `X number line` for each line that is refused
-- (document 01, "Text" and "Numbers a call may answer"; docs/DECISIONS.md, "The desk's own programs").
use Rattle.std.specs.Prelude.{List, [], ◌∷◌, ◌++◌, ℕ, suc, leb, eqb, length}
use Rattle.laws.specs.Truth.{pick, either}
use Rattle.lists.specs.Places.{full}
use Rattle.printed.specs.Printed.{text_of}
use Rattle.reading.specs.Reading.{Answer, read_book}
use Rattle.call_lines.specs.Work.{Answers, answers_in, makes_book}
use Rattle.put.specs.Output.{refusal_text}
use Rattle.reports.specs.declared.Desk.{Desk}

-- "accepted" is 0, and nothing is said of it
unfoldable pub line_answer : ℕ → ℕ → List ℕ
line_answer number line = pick (eqb number 0) [] (refusal_text number line)

-- the refused of so many lines, the first of which is this one
unfoldable pub refusals_from : ℕ → List ℕ → List ℕ
refusals_from line [] = []
refusals_from line (n ∷ ns) = line_answer n line ++ refusals_from (suc line) ns

unfoldable pub answers_text : Answers → List ℕ
answers_text a = text_of a.book ++ refusals_from 1 a.numbers

-- a book's text that is refused is answered by its own line alone; it is not asked for where line 1 makes the book
unfoldable pub read_then : Answer → List ℕ → List ℕ
read_then a calls =
    pick (either (makes_book calls) (eqb a.number 0)) (answers_text (answers_in a.book calls)) (refusal_text a.number a.line)

-- "text too long" is 2, line 0
unfoldable pub desk_text : List ℕ → List ℕ → List ℕ
desk_text book calls = pick (leb (length calls) 65536) (read_then (read_book book) calls) (refusal_text 2 0)

-- a text in room for 737,280 bytes, which is enough (DeskLaws)
unfoldable pub desk_of : List ℕ → Desk
desk_of text = record { text = full 737280 0 text; length = length text }
