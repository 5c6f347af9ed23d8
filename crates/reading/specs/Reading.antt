-- Document 01, "Text" and "Numbers a call may answer": a book is read line by line; "The first bad line is the one
-- reported".
use Rattle.std.specs.Prelude.{Bool, true, List, [], ◌∷◌, ◌++◌, ℕ, suc, leb, ltb, eqb, length, Result, Ok, Err}
use Rattle.laws.specs.Truth.{pick, both}
use Rattle.laws.specs.Refusals.{number_of}
use Rattle.laws.specs.Checks.{Check, first_failing, all_pass}
use Rattle.lists.specs.Sorted.{ascending}
use Rattle.rows.specs.declared.Book.{Book}
use Rattle.rows.specs.Rows.{holding_rank, pair_rank}
use Rattle.rows.specs.Book.{holdings_of, pairs_of, with_holdings, with_pairs, empty_book, no_book}
use Rattle.rules.specs.Lots.{first_leg, second_leg}
use Rattle.calls.specs.Calls.{leg_free}
use Rattle.lines.specs.Pieces.{lf, Pieces, one, more, split_on}
use Rattle.book_lines.specs.Lines.{Line, head, holding, pair, formless, book_line, checks_by}
use Rattle.reading.specs.declared.RefusedText.{RefusedText}

-- What the book that the lines before it say has to tell a line: a row stands in its order behind those before it, a
-- holding before any pair
unfoldable pub in_order : Book → Line → Bool
in_order b formless = true
in_order b (head account identity day) = true
in_order b (holding h) = both (eqb b.paired 0) (ascending holding_rank (holdings_of b ++ (h ∷ [])))
in_order b (pair p) = ascending pair_rank (pairs_of b ++ (p ∷ []))

-- a book has room for 128 holdings and 128 pairs
unfoldable pub has_room : Book → Line → Bool
has_room b formless = true
has_room b (head account identity day) = true
has_room b (holding h) = ltb b.held 128
has_room b (pair p) = ltb b.paired 128

-- both legs of a pair find their lots among the free ones
unfoldable pub lots_free : Book → Line → Bool
lots_free b formless = true
lots_free b (head account identity day) = true
lots_free b (holding h) = true
lots_free b (pair p) = both (leg_free b (first_leg p)) (leg_free b (second_leg p))

-- A line's checks, behind a book that the lines before it say; `first` where there are none before it.
unfoldable pub line_checks : Bool → Book → Line → List Check
line_checks first b x = checks_by first (in_order b x) (has_room b x) (lots_free b x) x

-- the book with what the line says
unfoldable pub with_line : Book → Line → Book
with_line b formless = b
with_line b (head account identity day) = empty_book account identity day
with_line b (holding h) = with_holdings b (holdings_of b ++ (h ∷ []))
with_line b (pair p) = with_pairs b (pairs_of b ++ (p ∷ []))

-- 0 and the book, or the number of the first check that fails, its line, and the empty book
pub record Answer : Type 0 where
  pub number : ℕ
  pub line : ℕ
  pub book : Book

-- "A refusal returns its number, the line"; "a refused read gives the empty book of account 0, code 0, day 20000101"
unfoldable pub refused_at : ℕ → ℕ → Answer
refused_at number line = record { number = number; line = line; book = no_book }

unfoldable pub read_as : Book → Answer
read_as b = record { number = 0; line = 0; book = b }

-- the lines behind the first n, which say the book b; what stands behind the last LF is a line without its LF
unfoldable pub read_lines : ℕ → Book → Pieces → Answer
read_lines n b (one rest) = pick (eqb (length rest) 0) (read_as b) (refused_at 1 (suc n))
read_lines n b (more line ls) =
    pick (all_pass (line_checks (eqb n 0) b (book_line line))) (read_lines (suc n) (with_line b (book_line line)) ls)
    (refused_at (first_failing (line_checks (eqb n 0) b (book_line line))) (suc n))

-- "Text: too long by bytes, line 0; then by line"; "empty text (line 0)"
unfoldable pub read_book : List ℕ → Answer
read_book text =
    pick (leb (length text) 16384) (pick (eqb (length text) 0) (refused_at 1 0) (read_lines 0 no_book (split_on lf text))) (refused_at 2 0)

-- the answer that a read gives
abbrev pub answer_in : Result Book RefusedText → Answer
answer_in (Ok b) = read_as b
answer_in (Err f) = record { number = number_of f.fault.refusal; line = f.fault.line; book = f.book }
