-- Document 01, "Series" and "Numbers a call may answer": a series is refused by 4, 5, 2, in this order.
use Rattle.std.specs.Prelude.{Bool, List, [], ◌∷◌, ℕ}
use Rattle.laws.specs.Truth.{both, within}
use Rattle.laws.specs.Checks.{Check, ◌unless◌, first_failing, all_pass}
use Rattle.dates.specs.Calendar.{is_day}
use Rattle.series.specs.declared.Series.{Series}
use Rattle.series.specs.declared.Nature.{Nature}
use Rattle.series.specs.declared.Nature.TheVariants.{Future, Call, Put}
use Rattle.codes.specs.declared.Class.{Class}
use Rattle.codes.specs.Codes.{product_of, known, is_future_class, is_option_class}

-- "Prices and strikes are whole thousandths of a point, 0 to 100,000,000; an option's strike is at least 1"
abbrev pub strike_fits : ℕ → Bool
strike_fits strike = within 1 100000000 strike

-- "The nature must suit the code", and an option's strike its range
abbrev pub suits : Class → Nature → Bool
suits class Future = is_future_class class
suits class (Call strike) = both (is_option_class class) (strike_fits strike)
suits class (Put strike) = both (is_option_class class) (strike_fits strike)

unfoldable pub class_of : Series → Class
class_of s = (product_of s.code).class

unfoldable pub series_checks : Series → List Check
series_checks s = 4 unless known (class_of s) ∷ 5 unless is_day s.date ∷ 2 unless suits (class_of s) s.nature ∷ []

-- the number that a series is refused by, or 0
unfoldable pub series_number : Series → ℕ
series_number s = first_failing (series_checks s)

unfoldable pub good_series : Series → Bool
good_series s = all_pass (series_checks s)
