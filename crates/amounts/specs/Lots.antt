-- Document 01, "Rates and amounts": one lot of each family, and what the pairs of an option code use.
use Rattle.std.specs.Prelude.{Bool, ℕ, ◌/◌}
use Rattle.laws.specs.Truth.{pick}
use Rattle.rounding.specs.Rounding.{to_dollar}
use Rattle.levels.specs.declared.Levels.{Levels}
use Rattle.levels.specs.Levels.{per_level, flat, fixed_levels}
use Rattle.amounts.specs.declared.IndexLine.{IndexLine}
use Rattle.amounts.specs.declared.StockLine.{StockLine}
use Rattle.amounts.specs.declared.Lot.{Lot}
use Rattle.amounts.specs.declared.Terms.{Terms}
use Rattle.amounts.specs.Lines.{stock_fits, future_asked, index_asked, stock_asked, terms_asked}
use Rattle.amounts.specs.Singles.{portion, premium_value, index_margin, stock_margin, future_margin}

abbrev pub future_lot : ℕ → Levels → Lot
future_lot number margin = record { number = number; margin = margin; premium = 0; price = 0; strike = 0 }

abbrev pub option_lot : Levels → ℕ → ℕ → ℕ → Lot
option_lot margin multiplier strike price =
    record { number = 0; margin = margin; premium = premium_value price multiplier; price = price; strike = strike }

-- A value outside its range or off its step: 2, and zeros.
abbrev pub refused_lot : Lot
refused_lot = future_lot 2 (flat 0)

abbrev pub refused_terms : Terms
refused_terms = record { number = 2; multiplier = 0; tenth = 0; c = flat 0 }

-- A fixed future, from the full-size future's clearing amount and the part that it is of it.
unfoldable pub fixed_future : ℕ → ℕ → Lot
fixed_future clearing part = future_lot (fixed_levels clearing part).number (fixed_levels clearing part).levels

unfoldable pub stock_future : StockLine → ℕ → Lot
stock_future s price = pick (future_asked s price) (future_lot 0 (future_margin s price)) refused_lot

-- A short option of an index, and of a stock.
unfoldable pub index_option : IndexLine → Bool → ℕ → ℕ → Lot
index_option o call strike price =
    pick (index_asked o strike price) (option_lot (index_margin o call strike price) o.multiplier strike price) refused_lot

unfoldable pub stock_option : StockLine → Bool → ℕ → ℕ → Lot
stock_option s call strike price =
    pick (stock_asked s strike price) (option_lot (stock_margin s call strike price) s.shares strike price) refused_lot

-- "10 percent of the parent future's clearing margin; for a stock 10 percent of security value"; "C (stock: value x c)".
unfoldable pub index_terms : IndexLine → ℕ → Terms
index_terms o clearing =
    pick (terms_asked o clearing)
    (record { number = 0; multiplier = o.multiplier; tenth = clearing / 10; c = o.c })
    refused_terms

unfoldable pub stock_terms : StockLine → Terms
stock_terms s =
    pick (stock_fits s)
    (record {
      number = 0;
      multiplier = s.shares;
      tenth = to_dollar (portion s.price s.shares 10000);
      c = per_level to_dollar (per_level (portion s.price s.shares) s.c);
    })
    refused_terms
