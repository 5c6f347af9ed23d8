-- Document 01, "Single short option, one lot", and the stock future. An exact amount is a whole number of hundred-millionths of a
-- dollar: a price is in thousandths of a point, a rate in thousandths of a percent.
use Rattle.std.specs.Prelude.{Bool, ℕ, ◌+◌, ◌-◌, ◌*◌, max}
use Rattle.laws.specs.Truth.{pick}
use Rattle.rounding.specs.Rounding.{to_dollar}
use Rattle.levels.specs.declared.Levels.{Levels}
use Rattle.levels.specs.Levels.{per_level, both_levels, rates_of, half_of}
use Rattle.amounts.specs.declared.IndexLine.{IndexLine}
use Rattle.amounts.specs.declared.StockLine.{StockLine}

-- A rate of a value, price x multiplier, exact; and the whole of it, 100 percent.
unfoldable pub portion : ℕ → ℕ → ℕ → ℕ
portion price multiplier rate = price * multiplier * rate

unfoldable pub worth : ℕ → ℕ → ℕ
worth price multiplier = portion price multiplier 100000

-- Whole dollars as an exact amount.
unfoldable pub dollars : ℕ → ℕ
dollars n = n * 100000000

-- "Premium value = price x multiplier", used by itself.
unfoldable pub premium_value : ℕ → ℕ → ℕ
premium_value price multiplier = to_dollar (worth price multiplier)

-- "Out-of-money amount: strike less underlying price for a call, the reverse for a put, times multiplier, at least 0."
unfoldable pub out_of_money : Bool → ℕ → ℕ → ℕ → ℕ
out_of_money call strike underlying multiplier = worth (pick call (strike - underlying) (underlying - strike)) multiplier

-- "Margin = premium value + the larger of (A - out-of-money) and B", rounded once on the whole. Where A - out-of-money would be
-- below 0 it counts as 0, and B is the larger.
unfoldable pub single : ℕ → ℕ → ℕ → ℕ → ℕ
single premium out a b = to_dollar (premium + max (a - out) b)

-- An index: A and B are the sheet's dollars.
unfoldable pub index_margin : IndexLine → Bool → ℕ → ℕ → Levels
index_margin o call strike price =
    both_levels
    (single (worth price o.multiplier) (out_of_money call strike o.underlying o.multiplier))
    (per_level dollars o.a)
    (per_level dollars o.b)

-- "For a stock: A is value x a; B is value x b for a call but strike x shares x b for a put"; b is half of a.
unfoldable pub stock_margin : StockLine → Bool → ℕ → ℕ → Levels
stock_margin s call strike price =
    let a : Levels = rates_of s.option s.disposition in
    both_levels
    (single (worth price s.shares) (out_of_money call strike s.price s.shares))
    (per_level (portion s.price s.shares) a)
    (per_level (portion (pick call s.price strike) s.shares) (per_level half_of a))

-- "Stock future: its Q price x shares x rate."
unfoldable pub future_margin : StockLine → ℕ → Levels
future_margin s price =
    per_level to_dollar (per_level (portion price s.shares) (rates_of s.future s.disposition))
