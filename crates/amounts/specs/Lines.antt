-- Document 01, "Text" (sheet): what the O and S lines of a sheet may hold, and an option's strike and price.
use Rattle.std.specs.Prelude.{Bool, ℕ, leb}
use Rattle.laws.specs.Truth.{both, within}
use Rattle.levels.specs.Ranges.{levels_fit, rates_fit, clearing_fits}
use Rattle.amounts.specs.declared.IndexLine.{IndexLine}
use Rattle.amounts.specs.declared.StockLine.{StockLine}

-- "Multiplier and shares 1..20,000; A, B, C and clearing 0..100,000,000; c 0..100,000; underlying and price in S 1..100,000,000."
unfoldable pub index_fits : IndexLine → Bool
index_fits o =
    both (both (within 1 20000 o.multiplier) (within 1 100000000 o.underlying))
    (both (levels_fit 100000000 o.a) (both (levels_fit 100000000 o.b) (levels_fit 100000000 o.c)))

unfoldable pub stock_fits : StockLine → Bool
stock_fits s =
    both (both (within 1 20000 s.shares) (within 1 100000000 s.price))
    (both (rates_fit s.future s.disposition) (both (rates_fit s.option s.disposition) (levels_fit 100000 s.c)))

-- "Prices and strikes ... 0 to 100,000,000; an option's strike is at least 1."
unfoldable pub option_fits : ℕ → ℕ → Bool
option_fits strike price = both (within 1 100000000 strike) (leb price 100000000)

-- What a lot of each family is asked with.
unfoldable pub future_asked : StockLine → ℕ → Bool
future_asked s price = both (stock_fits s) (leb price 100000000)

unfoldable pub index_asked : IndexLine → ℕ → ℕ → Bool
index_asked o strike price = both (index_fits o) (option_fits strike price)

unfoldable pub stock_asked : StockLine → ℕ → ℕ → Bool
stock_asked s strike price = both (stock_fits s) (option_fits strike price)

unfoldable pub terms_asked : IndexLine → ℕ → Bool
terms_asked o clearing = both (index_fits o) (clearing_fits clearing)
