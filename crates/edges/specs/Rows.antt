-- Document 01, "Values at the edges": the twelve marked rows (RowLaws: they hold).
use Rattle.std.specs.Prelude.{true, false, List, [], ◌∷◌, ℕ}
use Rattle.laws.specs.Checks.{◌unless◌, first_failing}
use Rattle.laws.specs.Text.{three}
use Rattle.dates.specs.Calendar.{is_day}
use Rattle.codes.specs.Codes.{product_of}
use Rattle.levels.specs.declared.Levels.{Levels}
use Rattle.levels.specs.Levels.{flat, fixed_levels, stock_rates}
use Rattle.amounts.specs.declared.IndexLine.{IndexLine}
use Rattle.amounts.specs.declared.StockLine.{StockLine}
use Rattle.amounts.specs.Lots.{stock_future, index_option, stock_option, index_terms, stock_terms}
use Rattle.units.specs.Units.{unit_margin}

-- What a row asks: a fixed future, by its code and the full-size future's clearing margin; a stock's rates; a stock future at a
-- price; a pair of TXO, by its kind, strikes and prices; a short call and a short put of a stock, at one strike; two dates.
pub data Case : Type 0 where
  future : List ℕ → ℕ → Case
  rates : ℕ → ℕ → Case
  stock : StockLine → ℕ → Case
  pair : ℕ → ℕ → ℕ → ℕ → ℕ → Case
  shorts : StockLine → ℕ → ℕ → ℕ → Case
  dates : ℕ → ℕ → Case

-- TXO with a multiplier of 50; its other numbers are those of document 004's first example. TX's clearing margin is 136,000.
unfoldable pub txo : IndexLine
txo =
    record {
      multiplier = 50;
      a = record { clearing = 17000; maintenance = 18000; initial = 23000 };
      b = record { clearing = 9000; maintenance = 10000; initial = 12000 };
      c = record { clearing = 1800; maintenance = 1900; initial = 2400 };
      underlying = 10873000;
    }

-- A stock at 10 percent, with no disposition, 2,000 shares, c of 0.675 percent and a price of 13.8: document 004's second example.
unfoldable pub ten_percent : StockLine
ten_percent = record { shares = 2000; future = 10000; option = 10000; c = flat 675; disposition = 10; price = 13800 }

abbrev pub three_levels : Levels → List ℕ
three_levels l = l.clearing ∷ l.maintenance ∷ l.initial ∷ []

-- What the definitions give: amounts at all levels, a stock future at maintenance, the short pair at initial.
unfoldable pub gives : Case → List ℕ
gives (future code clearing) = three_levels (fixed_levels clearing (product_of code).part).levels
gives (rates rate disposition) = three_levels (stock_rates rate disposition).levels
gives (stock s price) = (stock_future s price).margin.maintenance ∷ []
gives (pair kind k1 k2 p1 p2) =
    three_levels (unit_margin kind (index_option txo true k1 p1) (index_option txo true k2 p2) (index_terms txo 136000) 1 1 true).levels
gives (shorts s strike p1 p2) =
    (stock_option s true strike p1).margin.initial
    ∷ (stock_option s false strike p2).margin.initial
    ∷ (unit_margin 4 (stock_option s true strike p1) (stock_option s false strike p2) (stock_terms s) 1 1 true).levels.initial
    ∷ []
gives (dates d e) = first_failing (5 unless is_day d ∷ []) ∷ first_failing (5 unless is_day e ∷ []) ∷ []

pub record Row : Type 0 where
  pub case : Case
  pub expected : List ℕ

-- The rows in the paper's order. Prices and strikes are in thousandths, rates in thousandths of a percent; of 10 percent, 10.35
-- is maintenance.
unfoldable pub rows : List Row
rows =
    record { case = future (three "TX") 136000; expected = 136000 ∷ 141000 ∷ 184000 ∷ [] }
    ∷ record { case = future (three "MTX") 136000; expected = 34000 ∷ 35250 ∷ 46000 ∷ [] }
    ∷ record { case = future (three "TX") 200000; expected = 200000 ∷ 207000 ∷ 270000 ∷ [] }
    ∷ record { case = rates 10000 15; expected = 15000 ∷ 15530 ∷ 20250 ∷ [] }
    ∷ record { case = rates 15000 15; expected = 22500 ∷ 23290 ∷ 30380 ∷ [] }
    ∷ record { case = stock ten_percent 50050; expected = 10360 ∷ [] }
    ∷ record { case = stock ten_percent 50100; expected = 10371 ∷ [] }
    ∷ record { case = pair 2 21200000 21000000 0 0; expected = 10000 ∷ 10000 ∷ 10000 ∷ [] }
    ∷ record { case = pair 3 21000000 21000000 160000 100000; expected = 13600 ∷ 13600 ∷ 13600 ∷ [] }
    ∷ record { case = pair 3 21000000 21000000 236100 100000; expected = 13610 ∷ 13610 ∷ 13610 ∷ [] }
    ∷ record { case = shorts ten_percent 14000 940 1080; expected = 5206 ∷ 5886 ∷ 7952 ∷ [] }
    ∷ record { case = dates 20240229 20230229; expected = 0 ∷ 5 ∷ [] }
    ∷ []
