-- What is known of a number that is a day.
use Rattle.std.specs.Prelude.{◌≡◌, true, ℕ, ◌≤◌, ◌<◌, eqb}
use Rattle.std.proofs.Common.{arith, div-add-mod', mod-lt}
use Rattle.laws.specs.Truth.{both, within}
use Rattle.laws.specs.TruthLaws.{both_true, within_true, is_within, picked}
use Rattle.dates.specs.Calendar.{is_day, days_in, leap_year, short_month, year_of, month_of, day_of}

-- A day has eight digits.
pub day_fits : (n : ℕ) → is_day n ≡ true → (20000000 ≤ n) × (n < 21000000)
unfolding is_day
day_fits n e =
    let h = both_true (within 2000 2099 (year_of n)) (both (within 1 12 (month_of n)) (within 1 (days_in (year_of n) (month_of n)) (day_of n))) e in
    let y = within_true 2000 2099 (year_of n) h.0 in
    omega (arith, div-add-mod' n 10000, mod-lt n {m = 10000} (omega arith))

-- Every month has the days 1 to 28.
month_long : (y m : ℕ) → 28 ≤ days_in y m
unfolding days_in
month_long y m =
    picked (λ (n : ℕ). 28 ≤ n) (eqb m 2) _ _
    (λ q. picked (λ (n : ℕ). 28 ≤ n) (leap_year y) 29 28 (λ r. omega arith) (λ r. omega arith))
    (λ q. picked (λ (n : ℕ). 28 ≤ n) (short_month m) 30 31 (λ r. omega arith) (λ r. omega arith))

pub early_day : (n : ℕ) → within 2000 2099 (year_of n) ≡ true → within 1 12 (month_of n) ≡ true → within 1 28 (day_of n) ≡ true → true ≡ is_day n
unfolding is_day
early_day n y m d =
    let h = within_true 1 28 (day_of n) d in
    let k = month_long (year_of n) (month_of n) in
    let e : within 1 (days_in (year_of n) (month_of n)) (day_of n) ≡ true = is_within h.0 (omega arith) in
    rw (y, m, e)
