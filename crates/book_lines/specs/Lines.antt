-- Document 01, "Text" and "Numbers a call may answer": what a line of a book says, and its checks: "within it 1, 4, 5,
-- 2, 6, 10, 3, then 8 or 11, then 9".
use Rattle.std.specs.Prelude.{Bool, false, not, List, [], ◌∷◌, ◌++◌, ℕ, get_or}
use Rattle.laws.specs.Truth.{pick, both}
use Rattle.laws.specs.Bytes.{same_bytes}
use Rattle.laws.specs.Text.{bytes}
use Rattle.laws.specs.Checks.{Check, ◌unless◌}
use Rattle.dates.specs.Calendar.{is_day}
use Rattle.codes.specs.Codes.{known}
use Rattle.series.specs.Checks.{suits, class_of}
use Rattle.pairing.specs.Rules.{parts_of, pair_checks}
use Rattle.rows.specs.declared.Holding.{Holding}
use Rattle.rows.specs.declared.Pair.{Pair}
use Rattle.rules.specs.Rules.{is_identity, counts_fit, good_lots}
use Rattle.lines.specs.declared.Asked.{Asked}
use Rattle.lines.specs.declared.Asked.TheVariants.{Number, Account, Date, Code, Mark}
use Rattle.lines.specs.declared.Cell.{Cell}
use Rattle.lines.specs.Pieces.{fields_of}
use Rattle.lines.specs.Fields.{has_form, cells_of, series_of}

-- The forms of the lines, behind their letters.

-- `A account identity day`
unfoldable pub head_form : List Asked
head_form = Account ∷ Mark ∷ Date ∷ []

-- `H SERIES long short`
unfoldable pub holding_form : List Asked
holding_form = Code ∷ Date ∷ Mark ∷ Number ∷ Number ∷ Number ∷ []

-- `M kind SERIES SERIES r1 r2 units`
unfoldable pub pair_form : List Asked
pair_form = Number ∷ Code ∷ Date ∷ Mark ∷ Number ∷ Code ∷ Date ∷ Mark ∷ Number ∷ Number ∷ Number ∷ Number ∷ []

-- What a line says.
pub data Line : Type 0 where
  head : ℕ → ℕ → ℕ → Line
  holding : Holding → Line
  pair : Pair → Line
  formless : Line

-- what stands in the field i behind the letter; nothing behind the last
abbrev pub cell : List Cell → ℕ → Cell
cell cs i = get_or cs i (record { right = false; number = 0; code = [] })

unfoldable pub head_from : List Cell → Line
head_from cs = head (cell cs 0).number (cell cs 1).number (cell cs 2).number

unfoldable pub holding_from : List Cell → Holding
holding_from cs = record { series = series_of (cell cs 0) (cell cs 1) (cell cs 2) (cell cs 3); long = (cell cs 4).number; short = (cell cs 5).number }

unfoldable pub pair_from : List Cell → Pair
pair_from cs =
    record {
      kind = (cell cs 0).number;
      first = series_of (cell cs 1) (cell cs 2) (cell cs 3) (cell cs 4);
      second = series_of (cell cs 5) (cell cs 6) (cell cs 7) (cell cs 8);
      r1 = (cell cs 9).number;
      r2 = (cell cs 10).number;
      units = (cell cs 11).number;
    }

-- the letter, then the fields of its form
unfoldable pub line_in : List ℕ → List (List ℕ) → Line
line_in letter fs =
    pick (both (same_bytes letter (bytes "A")) (has_form head_form fs)) (head_from (cells_of head_form fs))
    (pick (both (same_bytes letter (bytes "H")) (has_form holding_form fs)) (holding (holding_from (cells_of holding_form fs)))
    (pick (both (same_bytes letter (bytes "M")) (has_form pair_form fs)) (pair (pair_from (cells_of pair_form fs))) formless))

unfoldable pub line_from : List (List ℕ) → Line
line_from [] = formless
line_from (letter ∷ fs) = line_in letter fs

-- what the bytes before an LF say
unfoldable pub book_line : List ℕ → Line
book_line line = line_from (fields_of line)

-- A line's checks, by what the lines before it have to tell: whether it is the first, stands in its order, finds room
-- for its row, and its legs find their lots free.
unfoldable pub checks_by : Bool → Bool → Bool → Bool → Line → List Check
checks_by first in_order room free formless = 1 unless false ∷ []
checks_by first in_order room free (head account identity day) = 5 unless is_day day ∷ 2 unless is_identity identity ∷ 3 unless first ∷ []
checks_by first in_order room free (holding h) =
    1 unless not first
    ∷ 4 unless known (class_of h.series)
    ∷ 5 unless is_day h.series.date
    ∷ 2 unless both (suits (class_of h.series) h.series.nature) (good_lots h)
    ∷ 3 unless in_order
    ∷ 8 unless room
    ∷ []
checks_by first in_order room free (pair p) =
    1 unless not first
    ∷ 4 unless both (known (class_of p.first)) (known (class_of p.second))
    ∷ 5 unless both (is_day p.first.date) (is_day p.second.date)
    ∷ 2 unless both (suits (class_of p.first) p.first.nature) (suits (class_of p.second) p.second.nature)
    ∷ 6 unless counts_fit p.r1 p.r2 p.units
    ∷ (pair_checks (parts_of p.kind p.first p.second p.r1 p.r2)
    ++ (3 unless in_order
    ∷ 11 unless room
    ∷ 9 unless free
    ∷ []))
