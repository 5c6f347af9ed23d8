-- Document 01, "Text": "Numbers have no leading zero and at most 9 digits; account is 7 digits, a date 8, zeros kept; printed
-- amounts are as long as needed".
use Rattle.std.specs.Prelude.{Bool, false, not, List, [], ◌∷◌, ℕ, zero, suc, ◌+◌, ◌-◌, ◌*◌, ◌/◌, ◌%◌, length, get_or, leb, ltb, eqb}
use Rattle.laws.specs.Truth.{pick, both, either, within}
use Rattle.laws.specs.Search.{every_line}
use Rattle.laws.specs.Text.{byte}

-- Reading.

unfoldable pub is_digit : ℕ → Bool
is_digit b = within (byte "0") (byte "9") b

-- the number that digits write behind those of v
unfoldable pub value_from : ℕ → List ℕ → ℕ
value_from v [] = v
value_from v (b ∷ t) = value_from (v * 10 + (b - byte "0")) t

unfoldable pub value_of : List ℕ → ℕ
value_of t = value_from 0 t

-- no zero in front of another digit
unfoldable pub no_leading_zero : List ℕ → Bool
no_leading_zero t = either (leb (length t) 1) (not (eqb (get_or t 0 0) (byte "0")))

-- a number: one to nine digits with no leading zero
unfoldable pub is_number : List ℕ → Bool
is_number t = both (within 1 9 (length t)) (both (no_leading_zero t) (every_line is_digit t))

-- so many digits, at most nine, zeros kept
unfoldable pub is_fixed : ℕ → List ℕ → Bool
is_fixed width t = both (leb width 9) (both (eqb (length t) width) (every_line is_digit t))

-- what is read of a text: whether it has its form, and its number, 0 where it has not
pub record Figure : Type 0 where
  pub right : Bool
  pub number : ℕ

unfoldable pub figure_of : Bool → List ℕ → Figure
figure_of right t = record { right = right; number = pick right (value_of t) 0 }

abbrev pub no_figure : Figure
no_figure = record { right = false; number = 0 }

-- Printing.

abbrev pub digit : ℕ → ℕ
digit n = byte "0" + n % 10

-- the last digits of n, so many of them, in front of what follows
unfoldable pub fixed_before : ℕ → ℕ → List ℕ → List ℕ
fixed_before zero n rest = rest
fixed_before (suc width) n rest = fixed_before width (n / 10) (digit n ∷ rest)

-- so many digits, zeros kept
unfoldable pub fixed : ℕ → ℕ → List ℕ
fixed width n = fixed_before width n []

-- how many digits n has, of at most most + 1
unfoldable pub width_in : ℕ → ℕ → ℕ
width_in zero n = 1
width_in (suc most) n = pick (ltb 9 n) (suc (width_in most (n / 10))) 1

-- as many as needed, of at most twenty
unfoldable pub width_of : ℕ → ℕ
width_of n = width_in 19 n

unfoldable pub numerals : ℕ → List ℕ
numerals n = fixed (width_of n) n
