-- Document 01, "Series": "The date is any Gregorian day of 2000 to 2099", written yyyymmdd ("Text").
use Rattle.std.specs.Prelude.{Bool, not, ℕ, ◌/◌, ◌%◌, eqb}
use Rattle.laws.specs.Truth.{pick, both, either, within}

-- the year, the month and the day that a number yyyymmdd writes
abbrev pub year_of : ℕ → ℕ
year_of n = n / 10000

abbrev pub month_of : ℕ → ℕ
month_of n = n / 100 % 100

abbrev pub day_of : ℕ → ℕ
day_of n = n % 100

abbrev pub divides : ℕ → ℕ → Bool
divides d n = eqb (n % d) 0

-- every fourth year is a leap year, but of the hundreds only every fourth
unfoldable pub leap_year : ℕ → Bool
leap_year y = both (divides 4 y) (either (not (divides 100 y)) (divides 400 y))

-- April, June, September and November
unfoldable pub short_month : ℕ → Bool
short_month m = either (eqb m 4) (either (eqb m 6) (either (eqb m 9) (eqb m 11)))

unfoldable pub days_in : ℕ → ℕ → ℕ
days_in y m = pick (eqb m 2) (pick (leap_year y) 29 28) (pick (short_month m) 30 31)

unfoldable pub is_day : ℕ → Bool
is_day n =
    both (within 2000 2099 (year_of n))
    (both (within 1 12 (month_of n))
    (within 1 (days_in (year_of n) (month_of n)) (day_of n)))
