-- The first i places are filled.
use Rattle.std.proofs.Common.{◌≡◌, ℕ, replicate}
use Rattle.halving.specs.Halving.{key_at}
use Rattle.sheets.specs.Rows.{nothing}
use Rattle.sheets.specs.Sheet.{price_among, filled}
use Rattle.sheets.proofs.prices_of.Given as goal

abbrev pub invariant-loop-i : goal.invariant-loop-i
invariant-loop-i l = l.all ≡ filled (λ (i : ℕ). price_among l.lent (key_at l.highs l.lows i)) l.i (replicate 128 nothing)
