-- What keeps exact amounts within 64 bits.
use Rattle.std.specs.Prelude.{ℕ, ◌≤◌}

-- A price or a strike: 100,000 dollars, in thousandths.
abbrev pub price_limit : ℕ
price_limit = 100000000

-- The highest rate, 121.5 percent, and that of the largest value.
abbrev pub rate_limit : ℕ
rate_limit = 121500

abbrev pub exact_limit : ℕ
exact_limit = 243000000000000000

-- A price and a multiplier, or a number of shares, that a sheet can have.
pub record ValueFits (price multiplier : ℕ) : Type 0 where
  pub price_most : price ≤ price_limit
  pub multiplier_most : multiplier ≤ 20000
