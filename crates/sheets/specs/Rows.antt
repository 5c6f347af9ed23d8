-- Document 01, "Text" (sheet): a sheet is its day and its rows, in four lists; a lookup is the row with that key.
use Rattle.std.specs.Prelude.{Bool, List, [], ◌∷◌, ℕ, eqb, get_or, Option, None, Some}
use Rattle.laws.specs.Truth.{both}
use Rattle.laws.specs.Text.{three}
use Rattle.laws.specs.Bytes.{same_bytes}
use Rattle.laws.specs.Search.{first_where}
use Rattle.codes.specs.Codes.{names_stock}
use Rattle.series.specs.declared.Series.{Series}
use Rattle.series.specs.declared.Nature.TheVariants.{Future}
use Rattle.series.specs.Key.{key}
use Rattle.levels.specs.Levels.{flat}
use Rattle.amounts.specs.declared.IndexLine.{IndexLine}
use Rattle.amounts.specs.declared.StockLine.{StockLine}
use Rattle.sheets.specs.declared.FutureRow.{FutureRow}
use Rattle.sheets.specs.declared.OptionRow.{OptionRow}
use Rattle.sheets.specs.declared.StockRow.{StockRow}
use Rattle.sheets.specs.declared.PriceRow.{PriceRow}

pub record Rows : Type 0 where
  pub day : ℕ
  pub futures : List FutureRow
  pub options : List OptionRow
  pub stocks : List StockRow
  pub prices : List PriceRow

unfoldable pub no_rows : Rows
no_rows = record { day = 0; futures = []; options = []; stocks = []; prices = [] }

-- "The sheet gives clearing margin for TX TE TF TGF UNF SXF GTF G2F"; "F takes the eight codes that have a clearing margin, O the four
-- listed options"
unfoldable pub future_codes : List (List ℕ)
future_codes =
    three "TX" ∷ three "TE" ∷ three "TF" ∷ three "TGF" ∷ three "UNF" ∷ three "SXF" ∷ three "GTF" ∷ three "G2F" ∷ []

unfoldable pub option_codes : List (List ℕ)
option_codes = three "TXO" ∷ three "TEO" ∷ three "TFO" ∷ three "TGO" ∷ []

-- "S any two capitals": and a 0 byte, as a code of two letters has
unfoldable pub two_capitals : List ℕ → Bool
two_capitals code = both (names_stock code) (eqb (get_or code 2 0) 0)

-- an amount, or that there is none
abbrev pub found : ℕ → Option ℕ
found n = Some n

abbrev pub nothing : Option ℕ
nothing = None

-- lines of zeros, which say that there is none: no line that stands has a multiplier or shares of 0
unfoldable pub no_index : IndexLine
no_index = record { multiplier = 0; a = flat 0; b = flat 0; c = flat 0; underlying = 0 }

unfoldable pub no_stock : StockLine
no_stock = record { shares = 0; future = 0; option = 0; c = flat 0; disposition = 0; price = 0 }

-- an empty Q row
abbrev pub no_price : PriceRow
no_price = record { series = record { code = 0 ∷ 0 ∷ 0 ∷ []; date = 0; nature = Future }; price = 0 }

-- the clearing amount of a future, the O line of an option, the S line of a stock, the price of a series
unfoldable pub clearing_in : List FutureRow → List ℕ → Option ℕ
clearing_in rows code = first_where (λ (r : FutureRow). same_bytes r.code code) (λ (r : FutureRow). found r.clearing) nothing rows

unfoldable pub index_in : List OptionRow → List ℕ → IndexLine
index_in rows code = first_where (λ (r : OptionRow). same_bytes r.code code) (λ (r : OptionRow). r.line) no_index rows

unfoldable pub stock_in : List StockRow → List ℕ → StockLine
stock_in rows code = first_where (λ (r : StockRow). same_bytes r.code code) (λ (r : StockRow). r.line) no_stock rows

unfoldable pub price_in : List PriceRow → Series → Option ℕ
price_in rows s = first_where (λ (r : PriceRow). eqb (key r.series) (key s)) (λ (r : PriceRow). found r.price) nothing rows
