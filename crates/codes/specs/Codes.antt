-- Document 01, "Series": the sixteen listed codes, the stocks' codes, and what stands behind each ("Rates and amounts").
-- A code is three bytes; a two-letter code ends in a 0 byte.
use Rattle.std.specs.Prelude.{Bool, true, false, List, [], ◌∷◌, ℕ, eqb, length, get_or}
use Prim.Native.String.{String}
use Rattle.laws.specs.Truth.{pick, both, within}
use Rattle.laws.specs.Text.{byte, three}
use Rattle.laws.specs.Bytes.{same_bytes}
use Rattle.laws.specs.Search.{first_where}
use Rattle.codes.specs.declared.Class.{Class}
use Rattle.codes.specs.declared.Class.TheVariants.{Unknown, ListedFuture, ListedOption, StockFuture, StockOption}
use Rattle.codes.specs.declared.Product.{Product}

-- a listed future: its code, the full-size future behind it, and which part of that future's amount it is (1/part)
abbrev pub future : String → String → ℕ → Product
future code parent part = record { code = three code; class = ListedFuture; parent = three parent; part = part }

-- a listed option: its code and its parent future
abbrev pub option : String → String → Product
option code parent = record { code = three code; class = ListedOption; parent = three parent; part = 1 }

unfoldable pub listed : List Product
listed =
    future "TX" "TX" 1
    ∷ future "MTX" "TX" 4
    ∷ future "TMF" "TX" 20
    ∷ future "TE" "TE" 1
    ∷ future "ZEF" "TE" 8
    ∷ future "TF" "TF" 1
    ∷ future "ZFF" "TF" 4
    ∷ future "TGF" "TGF" 1
    ∷ future "UNF" "UNF" 1
    ∷ future "SXF" "SXF" 1
    ∷ future "GTF" "GTF" 1
    ∷ future "G2F" "G2F" 1
    ∷ option "TXO" "TX"
    ∷ option "TEO" "TE"
    ∷ option "TFO" "TF"
    ∷ option "TGO" "TGF"
    ∷ []

-- a stock's future or option: its parent is the stock, by its two letters
abbrev pub stock : Class → List ℕ → Product
stock class code = record { code = code; class = class; parent = get_or code 0 0 ∷ get_or code 1 0 ∷ 0 ∷ []; part = 1 }

abbrev pub unknown : List ℕ → Product
unknown code = record { code = code; class = Unknown; parent = 0 ∷ 0 ∷ 0 ∷ []; part = 0 }

abbrev pub capital : ℕ → Bool
capital b = within (byte "A") (byte "Z") b

-- three bytes, of which two capitals name a stock
unfoldable pub names_stock : List ℕ → Bool
names_stock code = both (eqb (length code) 3) (both (capital (get_or code 0 0)) (capital (get_or code 1 0)))

-- any other code: two capitals, which name a stock, then F (stock future) or O (stock option)
unfoldable pub unlisted : List ℕ → Product
unlisted code =
    pick (names_stock code)
    (pick (eqb (get_or code 2 0) (byte "F")) (stock StockFuture code)
    (pick (eqb (get_or code 2 0) (byte "O")) (stock StockOption code) (unknown code)))
    (unknown code)

-- what a code stands for: the listed line that spells it, else a stock's, else nothing
unfoldable pub product_of : List ℕ → Product
product_of code = first_where (λ (p : Product). same_bytes code p.code) (λ (p : Product). p) (unlisted code) listed

abbrev pub known : Class → Bool
known Unknown = false
known ListedFuture = true
known ListedOption = true
known StockFuture = true
known StockOption = true

abbrev pub is_future_class : Class → Bool
is_future_class Unknown = false
is_future_class ListedFuture = true
is_future_class ListedOption = false
is_future_class StockFuture = true
is_future_class StockOption = false

abbrev pub is_option_class : Class → Bool
is_option_class Unknown = false
is_option_class ListedFuture = false
is_option_class ListedOption = true
is_option_class StockFuture = false
is_option_class StockOption = true

abbrev pub is_stock_future : Class → Bool
is_stock_future Unknown = false
is_stock_future ListedFuture = false
is_stock_future ListedOption = false
is_stock_future StockFuture = true
is_stock_future StockOption = false

abbrev pub is_stock_option : Class → Bool
is_stock_option Unknown = false
is_stock_option ListedFuture = false
is_stock_option ListedOption = false
is_stock_option StockFuture = false
is_stock_option StockOption = true

-- a stock future and an option of that stock
unfoldable pub own_option : List ℕ → List ℕ → Bool
own_option f o =
    both (both (is_stock_future (product_of f).class) (is_stock_option (product_of o).class))
    (same_bytes (product_of f).parent (product_of o).parent)
