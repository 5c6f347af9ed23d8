-- A script run on the book of a text (document 01, "Numbers a call may answer": 1 for what is malformed, 15 for a buffer that is too short; "A
-- refusal returns its number"; "output buffers keep their bytes").
use Rattle.std.specs.Prelude.{List, ℕ, ◌/◌, ◌%◌, eqb, leb, length}
use Rattle.laws.specs.Truth.{pick, both}
use Rattle.rows.specs.declared.Book.{Book}
use Rattle.reading.specs.Reading.{Answer}
use Rattle.printed.specs.Printed.{print_answer, print_exit}
use Rattle.exports.specs.Exports.{coded, read_coded, print_coded}
use Rattle.exports.specs.Script.{book_after, numbers_after}

-- no word is left over, there is a cell for each call's number, and room for the text of any book
unfoldable pub script_number : ℕ → ℕ → ℕ → ℕ
script_number words cells room = pick (eqb (words % 13) 0) (pick (both (leb (words / 13) cells) (leb 16384 room)) 0 15) 1

-- what is given of a read book, words and buffers: where the book is refused; where the script is; and where it is run
unfoldable pub by_run : {A : Type 0} → Answer → List ℕ → List ℕ → List ℕ → A → A → A → A
by_run a words numbers out refused unfit run =
    pick (eqb a.number 0) (pick (eqb (script_number (length words) (length numbers) (length out)) 0) run unfit) refused

-- the book after all calls
abbrev pub ran_book : Answer → List ℕ → Book
ran_book a words = book_after (length words / 13) words 0 a.book

unfoldable pub run_coded : Answer → List ℕ → List ℕ → List ℕ → ℕ
run_coded a words numbers out =
    by_run a words numbers out
    (read_coded a)
    (coded (script_number (length words) (length numbers) (length out)) 0)
    (print_coded (print_answer (ran_book a words) out))

unfoldable pub run_numbers : Answer → List ℕ → List ℕ → List ℕ → List ℕ
run_numbers a words numbers out =
    by_run a words numbers out numbers numbers (numbers_after (length words / 13) words 0 a.book numbers)

unfoldable pub run_exit : Answer → List ℕ → List ℕ → List ℕ → List ℕ
run_exit a words numbers out = by_run a words numbers out out out (print_exit (ran_book a words) out)
