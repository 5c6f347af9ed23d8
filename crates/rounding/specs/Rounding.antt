-- Document 01, "Rates and amounts": "the least multiple of 1,000 not below the exact product", "rounded half up to 0.01 percent",
-- "half up to the dollar". An exact amount is a fraction, num / den; a step is the size that a rounded one is a multiple of.
use Rattle.std.specs.Prelude.{◌≡◌, ℕ, ◌+◌, ◌-◌, ◌*◌, ◌/◌, ◌%◌, ◌≤◌, ◌<◌}

-- r is the least multiple of the step that is not below num / den.
pub record LeastMultiple (num den step r : ℕ) : Type 0 where
  pub multiple : r % step ≡ 0
  pub not_below : num ≤ r * den
  pub least : (k : ℕ) → num ≤ k * step * den → r ≤ k * step

-- r is the multiple of the step within half a step of num / den, and half a step is rounded up:
-- r - step / 2 ≤ num / den < r + step / 2.
pub record NearestMultiple (num den step r : ℕ) : Type 0 where
  pub multiple : r % step ≡ 0
  pub not_above : 2 * (r * den) ≤ 2 * num + den * step
  pub not_below : 2 * num < 2 * (r * den) + den * step

-- The least number of steps of a size that is not below n, and the number of steps nearest to n, half up.
unfoldable pub steps_up : ℕ → ℕ → ℕ
steps_up n size = (n + (size - 1)) / size

unfoldable pub steps_near : ℕ → ℕ → ℕ
steps_near n size = (2 * n + size) / (2 * size)

-- The only numbers with these meanings (RoundingLaws).
unfoldable pub round_up : ℕ → ℕ → ℕ → ℕ
round_up num den step = steps_up num (den * step) * step

unfoldable pub half_up : ℕ → ℕ → ℕ → ℕ
half_up num den step = steps_near num (den * step) * step

-- Half up to the dollar, of hundred-millionths of a dollar: a thousandth of a point by a thousandth of a percent.
unfoldable pub to_dollar : ℕ → ℕ
to_dollar fine = half_up fine 100000000 1
