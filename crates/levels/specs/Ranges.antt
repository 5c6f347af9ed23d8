-- Document 01, "Rates and amounts" and "Text" (sheet): what the numbers of a sheet may be.
use Rattle.std.specs.Prelude.{Bool, ℕ, ◌%◌, ◌≤◌, leb, eqb}
use Rattle.laws.specs.Truth.{both, either, within}
use Rattle.levels.specs.declared.Levels.{Levels}

-- "clearing 0..100,000,000", "a multiple of 1,000".
unfoldable pub clearing_fits : ℕ → Bool
clearing_fits n = both (leb n 100000000) (eqb (n % 1000) 0)

-- "MTX, TMF, ZEF, ZFF are 1/4, 1/20, 1/8, 1/4"; a full-size future is all of itself.
unfoldable pub part_fits : ℕ → Bool
part_fits n = either (eqb n 1) (either (eqb n 4) (either (eqb n 8) (eqb n 20)))

unfoldable pub fixed_fits : ℕ → ℕ → Bool
fixed_fits clearing part = both (clearing_fits clearing) (part_fits part)

-- "1,000 to 30,000 by thousands".
unfoldable pub rate_fits : ℕ → Bool
rate_fits n = both (within 1000 30000 n) (eqb (n % 1000) 0)

-- "a disposition of 10, 15, 20 or 30 tenths".
unfoldable pub disposition_fits : ℕ → Bool
disposition_fits n = either (eqb n 10) (either (eqb n 15) (either (eqb n 20) (eqb n 30)))

unfoldable pub rates_fit : ℕ → ℕ → Bool
rates_fit rate disposition = both (rate_fits rate) (disposition_fits disposition)

-- No level is above `most`.
unfoldable pub levels_fit : ℕ → Levels → Bool
levels_fit most l = both (leb l.clearing most) (both (leb l.maintenance most) (leb l.initial most))

-- The same as facts (RangeLaws: one says the other).
pub record AtMost (most : ℕ) (l : Levels) : Type 0 where
  pub at_clearing : l.clearing ≤ most
  pub at_maintenance : l.maintenance ≤ most
  pub at_initial : l.initial ≤ most
