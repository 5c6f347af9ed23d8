-- What is printed of a case.
use Rattle.std.specs.Prelude.{ℕ, List, ◌∷◌, ◌++◌}
use Rattle.digits.specs.Digits.{fixed}
use Rattle.lines.specs.Pieces.{lf}

-- the number in four digits, an LF and the text
abbrev pub numbered : ℕ → List ℕ → List ℕ
numbered number text = fixed 4 number ++ (lf ∷ text)
