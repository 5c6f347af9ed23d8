-- Laws of the checks on a series.
use Rattle.std.specs.Prelude.{◌≡◌, refl, true, ◌<◌, eqb}
use Rattle.std.proofs.Common.{arith}
use Rattle.laws.specs.TruthLaws.{both_true, both_hold}
use Rattle.laws.specs.Checks.{all_pass, numbered}
use Rattle.laws.specs.CheckLaws.{by_number}
use Rattle.dates.specs.Calendar.{is_day}
use Rattle.dates.specs.CalendarLaws.{day_fits}
use Rattle.codes.specs.Codes.{known}
use Rattle.series.specs.declared.Series.{Series}
use Rattle.series.specs.Checks.{suits, class_of, series_checks, series_number, good_series}

pub series_numbered : (s : Series) → numbered (series_checks s) ≡ true
unfolding numbered series_checks
series_numbered s = refl

-- A series passes its checks exactly when its number is 0.
pub good_by_number : (s : Series) → eqb (series_number s) 0 ≡ good_series s
unfolding series_number good_series
good_by_number s = by_number (series_checks s) (series_numbered s)

-- A series passes its checks exactly where each of its tests holds.
pub series_parts : (s : Series) → good_series s ≡ true → (known (class_of s) ≡ true) × (is_day s.date ≡ true) × (suits (class_of s) s.nature ≡ true)
unfolding good_series series_checks all_pass
series_parts s e =
    let k = both_true (known (class_of s)) _ e in
    let d = both_true (is_day s.date) _ k.1 in
    (k.0, d.0, (both_true (suits (class_of s) s.nature) _ d.1).0)

pub series_whole : (s : Series) → known (class_of s) ≡ true → is_day s.date ≡ true → suits (class_of s) s.nature ≡ true → good_series s ≡ true
unfolding good_series series_checks all_pass
series_whole s k d n = both_hold k (both_hold d (both_hold n refl))

-- Its date has eight digits.
pub series_date : (s : Series) → good_series s ≡ true → s.date < 100000000
series_date s e = let d = day_fits s.date (series_parts s e).1 in omega arith
