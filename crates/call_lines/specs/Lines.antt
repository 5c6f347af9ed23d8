-- What a call line says: the name of a call of document 01, "The book", then what it is given, as "Text" writes it, the fields parted by one tab:
-- `make account identity day`; `open SERIES L|S lots` and so close; `pair kind SERIES SERIES r1 r2 units` and so split; `turn day`.
use Rattle.std.specs.Prelude.{List, [], ◌∷◌, ℕ, eqb}
use Rattle.laws.specs.Truth.{pick}
use Rattle.laws.specs.Bytes.{same_bytes}
use Rattle.laws.specs.Text.{byte, bytes}
use Rattle.series.specs.declared.Series.{Series}
use Rattle.series.specs.declared.Side.{Side}
use Rattle.series.specs.declared.Side.TheVariants.{Long, Short}
use Rattle.lines.specs.declared.Asked.{Asked}
use Rattle.lines.specs.declared.Asked.TheVariants.{Number, Date, Code, Mark}
use Rattle.lines.specs.declared.Cell.{Cell}
use Rattle.lines.specs.Pieces.{fields_of}
use Rattle.lines.specs.Fields.{has_form, cells_of, series_of}
use Rattle.book_lines.specs.Lines.{cell, head_form, pair_form, pair_from}
use Rattle.history.specs.History.{BookCall, open_lots, close_lots, pair_units, split_units, turn_day}
use Rattle.call_lines.specs.declared.Name.{Name}
use Rattle.call_lines.specs.declared.Name.TheVariants as name

-- What a line says: a make, another call, or nothing, where it has not the form.
pub data Line : Type 0 where
  make : ℕ → ℕ → ℕ → Line
  call : BookCall → Line
  formless : Line

-- which call a name is
unfoldable pub name_in : List ℕ → Name
name_in f =
    pick (same_bytes f (bytes "make")) name.Make
    (pick (same_bytes f (bytes "open")) name.Open
    (pick (same_bytes f (bytes "close")) name.Close
    (pick (same_bytes f (bytes "pair")) name.Pair
    (pick (same_bytes f (bytes "split")) name.Split
    (pick (same_bytes f (bytes "turn")) name.Turn name.Nothing)))))

-- The forms of the fields behind it. `account identity day` is written as in an A line, `kind SERIES SERIES r1 r2 units` as in an M line.

-- `SERIES L|S lots`
unfoldable pub lots_form : List Asked
lots_form = Code ∷ Date ∷ Mark ∷ Number ∷ Mark ∷ Number ∷ []

-- `day`
unfoldable pub day_form : List Asked
day_form = Date ∷ []

unfoldable pub form_of : Name → List Asked
form_of name.Nothing = []
form_of name.Make = head_form
form_of name.Open = lots_form
form_of name.Close = lots_form
form_of name.Pair = pair_form
form_of name.Split = pair_form
form_of name.Turn = day_form

-- What fields of the form say.

abbrev pub figure : List Cell → ℕ → ℕ
figure cs i = (cell cs i).number

-- L or S; a line with another mark there has not the form
unfoldable pub sided : ℕ → (Side → BookCall) → Line
sided mark of = pick (eqb mark (byte "L")) (call (of Long)) (pick (eqb mark (byte "S")) (call (of Short)) formless)

unfoldable pub lots_in : (Series → Side → ℕ → BookCall) → List Cell → Line
lots_in of cs = sided (figure cs 4) (λ (d : Side). of (series_of (cell cs 0) (cell cs 1) (cell cs 2) (cell cs 3)) d (figure cs 5))

unfoldable pub said_by : Name → List Cell → Line
said_by name.Nothing cs = formless
said_by name.Make cs = make (figure cs 0) (figure cs 1) (figure cs 2)
said_by name.Open cs = lots_in open_lots cs
said_by name.Close cs = lots_in close_lots cs
said_by name.Pair cs = call (pair_units (pair_from cs))
said_by name.Split cs = call (split_units (pair_from cs))
said_by name.Turn cs = call (turn_day (figure cs 0))

unfoldable pub line_by : Name → List (List ℕ) → Line
line_by n fs = pick (has_form (form_of n) fs) (said_by n (cells_of (form_of n) fs)) formless

unfoldable pub line_from : List (List ℕ) → Line
line_from [] = formless
line_from (f ∷ fs) = line_by (name_in f) fs

-- what the bytes before an LF say
unfoldable pub call_line : List ℕ → Line
call_line line = line_from (fields_of line)
