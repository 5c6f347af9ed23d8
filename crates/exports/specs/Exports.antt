-- What the exported functions answer, in the words of the calls that they make (document 01, "The book": read, print, check a sheet, margin): a number
-- with its line or length as one number, and the bytes of the lent buffers.
use Rattle.std.specs.Prelude.{List, ◌++◌, ℕ, ◌+◌, ◌*◌, eqb, leb, length, drop}
use Rattle.laws.specs.Truth.{pick}
use Rattle.reading.specs.Reading.{Answer}
use Rattle.checking.specs.declared.Verdict.{Verdict}
use Rattle.printed.specs.Printed.{Printed, print_answer, print_exit}

-- a number above 32 bits, and a line or a length below
unfoldable pub coded : ℕ → ℕ → ℕ
coded number rest = number * 4294967296 + rest

unfoldable pub read_coded : Answer → ℕ
read_coded a = coded a.number a.line

unfoldable pub check_coded : Verdict → ℕ
check_coded v = coded v.number v.line

unfoldable pub print_coded : Printed → ℕ
print_coded p = coded p.number p.length

-- a text that was read, printed into a buffer: the refusal of the one or the answer of the other, and the buffer at exit
unfoldable pub printed_of : Answer → List ℕ → ℕ
printed_of a out = pick (eqb a.number 0) (print_coded (print_answer a.book out)) (read_coded a)

unfoldable pub printed_exit : Answer → List ℕ → List ℕ
printed_exit a out = pick (eqb a.number 0) (print_exit a.book out) out

-- a line in a lent buffer: "output buffer too short" is 15, and the buffer keeps its bytes
unfoldable pub line_coded : List ℕ → List ℕ → ℕ
line_coded text out = pick (leb (length text) (length out)) (coded 0 (length text)) (coded 15 0)

unfoldable pub line_exit : List ℕ → List ℕ → List ℕ
line_exit text out = pick (leb (length text) (length out)) (text ++ drop (length text) out) out
