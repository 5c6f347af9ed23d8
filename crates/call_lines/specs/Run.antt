-- What the lines of a text say, as a history of calls (demand 3, quoted in docs/PROMISES.md): the book that they begin with, and the calls.
use Rattle.std.specs.Prelude.{List, [], ◌∷◌, ◌++◌, ℕ, eqb}
use Rattle.laws.specs.Truth.{pick}
use Rattle.rows.specs.declared.Book.{Book}
use Rattle.history.specs.History.{BookCall, made}
use Rattle.lines.specs.Pieces.{lf, Pieces, one, more, split_on}
use Rattle.call_lines.specs.Lines.{Line, make, call, formless, call_line}

-- the call that a line says, if it says one
abbrev pub call_in : Line → List BookCall
call_in (make account identity day) = []
call_in (call c) = c ∷ []
call_in formless = []

unfoldable pub calls_of : Pieces → List BookCall
calls_of (one rest) = []
calls_of (more line ls) = call_in (call_line line) ++ calls_of ls

unfoldable pub calls_in : List ℕ → List BookCall
calls_in text = calls_of (split_on lf text)

-- those of them whose lines have the number 0
unfoldable pub passed_of : List ℕ → Pieces → List BookCall
passed_of [] ps = []
passed_of (n ∷ ns) (one rest) = []
passed_of (n ∷ ns) (more line ls) = pick (eqb n 0) (call_in (call_line line)) [] ++ passed_of ns ls

unfoldable pub passed_in : List ℕ → List ℕ → List BookCall
passed_in numbers text = passed_of numbers (split_on lf text)

-- the book that they begin with: the one that a make in line 1 gives, or the one handed in
abbrev pub begin_with : Book → Line → Book
begin_with b (make account identity day) = made account identity day
begin_with b (call c) = b
begin_with b formless = b

abbrev pub begin_of : Book → Pieces → Book
begin_of b (one rest) = b
begin_of b (more line ls) = begin_with b (call_line line)

unfoldable pub begin_in : Book → List ℕ → Book
begin_in b text = begin_of b (split_on lf text)
