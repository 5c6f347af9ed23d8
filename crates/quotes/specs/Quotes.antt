-- Document 01, "Needed" and "Rates and amounts": of one series, the lines of a sheet that its margin needs, the margin of one lot, and
-- what its pairs use beside their lots.
use Rattle.std.specs.Prelude.{Bool, false, List, [], ◌∷◌, ℕ, leb, Option, is_some, unwrap_or}
use Rattle.laws.specs.Truth.{pick, both}
use Rattle.laws.specs.Search.{every_line}
use Rattle.codes.specs.declared.Class.{Class}
use Rattle.codes.specs.declared.Class.TheVariants.{Unknown, ListedFuture, ListedOption, StockFuture, StockOption}
use Rattle.codes.specs.declared.Product.{Product}
use Rattle.codes.specs.Codes.{product_of}
use Rattle.series.specs.declared.Series.{Series}
use Rattle.series.specs.Natures.{is_call, strike_of}
use Rattle.levels.specs.Levels.{flat}
use Rattle.levels.specs.Ranges.{clearing_fits}
use Rattle.amounts.specs.declared.Lot.{Lot}
use Rattle.amounts.specs.declared.Terms.{Terms}
use Rattle.amounts.specs.Lines.{index_fits, stock_fits}
use Rattle.amounts.specs.Lots.{future_lot, refused_lot, fixed_future, stock_future, index_option, stock_option, index_terms, stock_terms}
use Rattle.quotes.specs.declared.Quote.{Quote}
use Rattle.sheets.specs.View.{View}

-- what is said of a code by its class
abbrev pub by_class : {A : Type 0} → Class → A → A → A → A → A → A
by_class Unknown unknown future option stock_future stock_option = unknown
by_class ListedFuture unknown future option stock_future stock_option = future
by_class ListedOption unknown future option stock_future stock_option = option
by_class StockFuture unknown future option stock_future stock_option = stock_future
by_class StockOption unknown future option stock_future stock_option = stock_option

-- a line of a sheet, by its letter and its key; of an unknown code there is none
pub data SheetLine : Type 0 where
  f_line : List ℕ → SheetLine
  o_line : List ℕ → SheetLine
  s_line : List ℕ → SheetLine
  q_line : Series → SheetLine
  no_line : SheetLine

-- an amount and a price that a line may hold
abbrev pub clearing_stands : Option ℕ → Bool
clearing_stands f = both (is_some f) (clearing_fits (unwrap_or f 0))

abbrev pub price_stands : Option ℕ → Bool
price_stands f = both (is_some f) (leb (unwrap_or f 0) 100000000)

-- a line is on the sheet where the sheet says something that such a line may hold; of a line that is not there it says zeros, which
-- none may hold
unfoldable pub on_sheet : View → SheetLine → Bool
on_sheet v (f_line code) = clearing_stands (v.clearing code)
on_sheet v (o_line code) = index_fits (v.index code)
on_sheet v (s_line code) = stock_fits (v.stock code)
on_sheet v (q_line s) = price_stands (v.price s)
on_sheet v no_line = false

-- "F for the full-size future behind each futures margin"; "O or S line" of an option; "S for a stock future"
unfoldable pub own_line : Product → Series → SheetLine
own_line p s = by_class p.class no_line (f_line p.parent) (o_line s.code) (s_line p.parent) (s_line p.parent)

-- "Q for each premium used and each stock future charged": all that the margin or the premium of a lot needs
unfoldable pub lot_lines : Product → Series → List SheetLine
lot_lines p s = own_line p s ∷ by_class p.class [] [] (q_line s ∷ []) (q_line s ∷ []) (q_line s ∷ [])

-- "F for the full-size future behind each ... index time spread"
unfoldable pub parent_lines : Product → List SheetLine
parent_lines p = by_class p.class [] [] (f_line p.parent ∷ []) [] []

-- the amount of an F line and the price of a Q line, 0 where it is not on the sheet
unfoldable pub clearing_said : View → List ℕ → ℕ
clearing_said v code = pick (clearing_stands (v.clearing code)) (unwrap_or (v.clearing code) 0) 0

unfoldable pub price_said : View → Series → ℕ
price_said v s = pick (price_stands (v.price s)) (unwrap_or (v.price s) 0) 0

-- one lot of a future, or one short lot of an option
unfoldable pub lot_as : View → Product → Series → Lot
lot_as v p s =
    by_class p.class
    refused_lot
    (fixed_future (clearing_said v p.parent) p.part)
    (index_option (v.index s.code) (is_call s.nature) (strike_of s.nature) (price_said v s))
    (stock_future (v.stock p.parent) (price_said v s))
    (stock_option (v.stock p.parent) (is_call s.nature) (strike_of s.nature) (price_said v s))

-- what the pairs of an option use; those of futures use nothing
unfoldable pub no_terms : Terms
no_terms = record { number = 0; multiplier = 0; tenth = 0; c = flat 0 }

unfoldable pub terms_as : View → Product → Series → Terms
terms_as v p s =
    by_class p.class no_terms no_terms (index_terms (v.index s.code) (clearing_said v p.parent)) no_terms (stock_terms (v.stock p.parent))

-- zeros, which fill a row that no sheet was asked of
unfoldable pub no_quote : Quote
no_quote = record { lined = false; ready = false; timed = false; lot = future_lot 0 (flat 0); terms = no_terms }

-- all of it, worked out once
unfoldable pub quote_as : View → Product → Series → Quote
quote_as v p s =
    record {
      lined = on_sheet v (own_line p s);
      ready = every_line (on_sheet v) (lot_lines p s);
      timed = every_line (on_sheet v) (parent_lines p);
      lot = lot_as v p s;
      terms = terms_as v p s;
    }

unfoldable pub quote_of : View → Series → Quote
quote_of v s = quote_as v (product_of s.code) s
