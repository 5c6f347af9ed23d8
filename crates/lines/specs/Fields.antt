-- What stands in a field, by the form of its line (document 01, "Text": "A line has the form when its letter, number of fields,
-- number fields and LF are right. Bad code letters are 4, a bad identity or nature field 2"). So a code, an identity and a nature have
-- no form of their own: a field that is none is read as what no code, no identity and no nature is.
use Rattle.std.specs.Prelude.{Bool, true, false, not, List, [], ◌∷◌, ◌++◌, ℕ, ◌-◌, eqb, ltb, length, get_or, take, drop}
use Rattle.laws.specs.Truth.{pick, both}
use Rattle.laws.specs.Text.{byte}
use Rattle.series.specs.declared.Nature.{Nature}
use Rattle.series.specs.declared.Nature.TheVariants.{Future, Call, Put}
use Rattle.series.specs.declared.Series.{Series}
use Rattle.digits.specs.Digits.{Figure, is_number, is_fixed, figure_of}
use Rattle.lines.specs.declared.Asked.{Asked}
use Rattle.lines.specs.declared.Asked.TheVariants.{Nothing, Number, Account, Date, Code, Mark}
use Rattle.lines.specs.declared.Cell.{Cell}
use Rattle.lines.specs.declared.Field.{Field}
use Rattle.lines.specs.Pieces.{stop_of}

abbrev pub no_code : List ℕ
no_code = 0 ∷ 0 ∷ 0 ∷ []

-- a code of two letters, or of three of which the last is no NUL; any other field is no code
unfoldable pub code_in : List ℕ → List ℕ
code_in f = pick (eqb (length f) 2) (f ++ (0 ∷ [])) (pick (both (eqb (length f) 3) (not (eqb (get_or f 2 0) 0))) f no_code)

-- the byte of a field of one byte; any other field is no mark
unfoldable pub mark_in : List ℕ → ℕ
mark_in f = pick (eqb (length f) 1) (get_or f 0 0) 0

abbrev pub number_cell : Figure → Cell
number_cell f = record { right = f.right; number = f.number; code = no_code }

-- what stands in a field of which this is asked, and whether it has the form
unfoldable pub cell_of : Asked → List ℕ → Cell
cell_of Nothing f = record { right = false; number = 0; code = no_code }
cell_of Number f = number_cell (figure_of (is_number f) f)
cell_of Account f = number_cell (figure_of (is_fixed 7 f) f)
cell_of Date f = number_cell (figure_of (is_fixed 8 f) f)
cell_of Code f = record { right = true; number = 0; code = code_in f }
cell_of Mark f = record { right = true; number = mark_in f; code = no_code }

abbrev pub no_cell : Cell
no_cell = cell_of Nothing []

-- the bytes of the field that begins at from
abbrev pub field_text : List ℕ → ℕ → List ℕ
field_text t from = take (stop_of t from - from) (drop from t)

abbrev pub no_field : Field
no_field = record { cell = no_cell; stop = 0 }

abbrev pub number_field : ℕ → ℕ → Field
number_field n stop = record { cell = record { right = true; number = n; code = no_code }; stop = stop }

-- the field that begins at from, in which c stands: if it has its form and a tab or LF stands behind it, c and the place of that
unfoldable pub field_with : Cell → List ℕ → ℕ → Field
field_with c t from = pick (both (ltb (stop_of t from) (length t)) c.right) (record { cell = c; stop = stop_of t from }) no_field

-- the field that begins at from, of which this is asked
unfoldable pub field_at : Asked → List ℕ → ℕ → Field
field_at asked t from = field_with (cell_of asked (field_text t from)) t from

-- a field of digits, by the test of its form
abbrev pub figure_at : (List ℕ → Bool) → List ℕ → ℕ → Field
figure_at right t from = field_with (number_cell (figure_of (right (field_text t from)) (field_text t from))) t from

-- the fields are as many as are asked for, and each has its form
unfoldable pub has_form : List Asked → List (List ℕ) → Bool
has_form [] [] = true
has_form [] (f ∷ fs) = false
has_form (k ∷ ks) [] = false
has_form (k ∷ ks) (f ∷ fs) = both (cell_of k f).right (has_form ks fs)

-- what stands in them
unfoldable pub cells_of : List Asked → List (List ℕ) → List Cell
cells_of [] fs = []
cells_of (k ∷ ks) [] = []
cells_of (k ∷ ks) (f ∷ fs) = cell_of k f ∷ cells_of ks fs

-- a call's strike is at least 1, so this suits no code
abbrev pub no_nature : Nature
no_nature = Call 0

-- "SERIES is code, date, nature, strike"; "a future's is written 0"
unfoldable pub nature_of : ℕ → ℕ → Nature
nature_of mark strike =
    pick (eqb mark (byte "C")) (Call strike)
    (pick (eqb mark (byte "P")) (Put strike)
    (pick (both (eqb mark (byte "F")) (eqb strike 0)) Future no_nature))

unfoldable pub series_of : Cell → Cell → Cell → Cell → Series
series_of code date mark strike = record { code = code.code; date = date.number; nature = nature_of mark.number strike.number }
