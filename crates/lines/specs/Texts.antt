-- Document 01, "Text", for what is printed: "Fields parted by one tab, each line ended by LF"; a series in its four fields.
use Rattle.std.specs.Prelude.{List, [], ◌∷◌, ◌++◌, ℕ, eqb, get_or, take}
use Rattle.laws.specs.Truth.{pick}
use Rattle.series.specs.declared.Series.{Series}
use Rattle.series.specs.Natures.{letter_of, strike_of}
use Rattle.digits.specs.Digits.{fixed, numerals}
use Rattle.lines.specs.Pieces.{tab, lf}

-- fields, each behind a tab
unfoldable pub tabbed : List (List ℕ) → List ℕ
tabbed [] = []
tabbed (f ∷ fs) = tab ∷ (f ++ tabbed fs)

-- the line of a letter and its fields
unfoldable pub line_text : ℕ → List (List ℕ) → List ℕ
line_text letter fs = letter ∷ (tabbed fs ++ (lf ∷ []))

-- the letters of a code: a code of two ends in a 0 byte
unfoldable pub letters_of : List ℕ → List ℕ
letters_of code = pick (eqb (get_or code 2 0) 0) (take 2 code) code

-- "SERIES is code, date, nature, strike"
unfoldable pub series_fields : Series → List (List ℕ)
series_fields s = letters_of s.code ∷ fixed 8 s.date ∷ (letter_of s.nature ∷ []) ∷ numerals (strike_of s.nature) ∷ []
