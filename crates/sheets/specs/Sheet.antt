-- A sheet as it is held: F, O and S rows at their codes' places, Q rows in order of their keys, which are searched by halving; unused
-- room is empty (document 01, "Text": "A sheet has at most 65,536 bytes and 1,024 lines"). LookupLaws: what is found there is the row
-- with that key.
use Rattle.std.specs.Prelude.{List, [], ◌∷◌, map, ℕ, zero, suc, ◌+◌, ◌-◌, ◌*◌, min, eqb, ltb, get_or, length, take, set, replicate, Option}
use Rattle.laws.specs.Truth.{pick}
use Rattle.laws.specs.Text.{byte}
use Rattle.laws.specs.Bytes.{same_bytes}
use Rattle.laws.specs.Search.{first_where}
use Rattle.laws.specs.Order.{by_order, bytes_order}
use Rattle.lists.specs.Places.{full}
use Rattle.halving.specs.Halving.{key_at, middle}
use Rattle.series.specs.declared.Series.{Series}
use Rattle.series.specs.Key.{high_key, nature_key}
use Rattle.amounts.specs.declared.IndexLine.{IndexLine}
use Rattle.amounts.specs.declared.StockLine.{StockLine}
use Rattle.sheets.specs.declared.StockRow.{StockRow}
use Rattle.sheets.specs.declared.PriceRow.{PriceRow}
use Rattle.sheets.specs.declared.Sheet.{Sheet}
use Rattle.sheets.specs.Rows.{Rows, future_codes, option_codes, two_capitals, found, nothing, no_index, no_stock, no_price, clearing_in, index_in}

-- how many codes stand before this one; all of them where it is none of them
unfoldable pub place_in : List (List ℕ) → List ℕ → ℕ
place_in [] code = 0
place_in (c ∷ cs) code = pick (same_bytes code c) 0 (suc (place_in cs code))

unfoldable pub future_place : List ℕ → ℕ
future_place code = place_in future_codes code

unfoldable pub option_place : List ℕ → ℕ
option_place code = place_in option_codes code

-- 26 times a stock's first capital, from A, and its second; 676 where a code is not two capitals
unfoldable pub stock_place : List ℕ → ℕ
stock_place code = pick (two_capitals code) ((get_or code 0 0 - byte "A") * 26 + (get_or code 1 0 - byte "A")) 676

-- the place itself, or the last one where there is no such place; and the row there, where there is
abbrev pub nearest : ℕ → ℕ
nearest place = min place 675

abbrev pub row_at : ℕ → StockLine → StockLine
row_at place row = pick (ltb place 676) row no_stock

-- the S line of the stock at a place
unfoldable pub stock_at : List StockRow → ℕ → StockLine
stock_at rows place = first_where (λ (r : StockRow). eqb (stock_place r.code) place) (λ (r : StockRow). r.line) no_stock rows

-- what is said of each number below n
unfoldable pub tabled : {A : Type 0} → (ℕ → A) → ℕ → List A
tabled says zero = []
tabled says (suc n) = says 0 ∷ tabled (λ (i : ℕ). says (suc i)) n

-- the key of a Q row's series, half by half
abbrev pub row_key : PriceRow → List ℕ
row_key r = high_key r.series ∷ nature_key r.series.nature ∷ []

-- the price that so many steps of halving find of the key k among the rows from low to high: the half that cannot hold it is given up
unfoldable pub sought_in : List PriceRow → List ℕ → ℕ → ℕ → ℕ → Option ℕ
sought_in rows k zero low high = nothing
sought_in rows k (suc steps) low high =
    pick (ltb low high)
    (by_order (bytes_order (row_key (get_or rows (middle low high) no_price)) k)
    (sought_in rows k steps (middle low high + 1) high)
    (found (get_or rows (middle low high) no_price).price)
    (sought_in rows k steps low (middle low high)))
    nothing

-- the price of the key k among rows; there are no more steps than rows
unfoldable pub price_among : List PriceRow → List ℕ → Option ℕ
price_among rows k = sought_in rows k (length rows) 0 (length rows)

-- the first n places of a list, each filled by what is said of it
unfoldable pub filled : {A : Type 0} → (ℕ → A) → ℕ → List A → List A
filled says zero l = l
filled says (suc n) l = filled says n (set l n (says n))

-- the prices of so many keys, at most 128, among the first `count` rows
unfoldable pub prices_at : List PriceRow → ℕ → List ℕ → List ℕ → ℕ → List (Option ℕ)
prices_at rows count highs lows held = filled (λ (i : ℕ). price_among (take count rows) (key_at highs lows i)) (min held 128) (replicate 128 nothing)

-- a number and a line, and these rows
unfoldable pub laid_out : ℕ → ℕ → Rows → Sheet
laid_out number line rows =
    record {
      number = number;
      line = line;
      day = rows.day;
      futures = map (clearing_in rows.futures) future_codes;
      options = map (index_in rows.options) option_codes;
      stocks = tabled (stock_at rows.stocks) 676;
      prices = full 1024 no_price rows.prices;
      quoted = length rows.prices;
    }

-- The four lookups on a sheet in plain fields.
unfoldable pub clearing_on : Sheet → List ℕ → Option ℕ
clearing_on sheet code = get_or sheet.futures (future_place code) nothing

unfoldable pub index_on : Sheet → List ℕ → IndexLine
index_on sheet code = get_or sheet.options (option_place code) no_index

unfoldable pub stock_on : Sheet → List ℕ → StockLine
stock_on sheet code = get_or sheet.stocks (stock_place code) no_stock

unfoldable pub price_on : Sheet → Series → Option ℕ
price_on sheet s = price_among (take sheet.quoted sheet.prices) (high_key s ∷ nature_key s.nature ∷ [])
