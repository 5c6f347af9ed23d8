-- Document 01, "The book": a book is its account, identity, day and two lists, holdings and pairs. In its arrays the lists
-- stand first, and empty rows fill the room that is left.
use Rattle.std.specs.Prelude.{List, [], ℕ, length, take}
use Rattle.laws.specs.Text.{byte}
use Rattle.lists.specs.Places.{full}
use Rattle.lists.specs.Sorted.{look}
use Rattle.series.specs.declared.Series.{Series}
use Rattle.rows.specs.declared.Holding.{Holding}
use Rattle.rows.specs.declared.Pair.{Pair}
use Rattle.rows.specs.declared.Book.{Book}
use Rattle.rows.specs.Rows.{series_rank, holding_rank, pair_rank, new_holding, new_of, empty_holding, empty_pair}

-- the live rows
unfoldable pub holdings_of : Book → List Holding
holdings_of b = take b.held b.holdings

unfoldable pub pairs_of : Book → List Pair
pairs_of b = take b.paired b.pairs

-- a book of these holdings and pairs
unfoldable pub book_of : ℕ → ℕ → ℕ → List Holding → List Pair → Book
book_of account identity day hs ps =
    record { account = account; identity = identity; day = day; holdings = full 128 empty_holding hs; held = length hs; pairs = full 128 empty_pair ps; paired = length ps }

-- the book with other rows in its arrays
abbrev pub held_rows : Book → List Holding → ℕ → Book
held_rows b rows held = record { account = b.account; identity = b.identity; day = b.day; holdings = rows; held = held; pairs = b.pairs; paired = b.paired }

abbrev pub paired_rows : Book → List Pair → ℕ → Book
paired_rows b rows paired = record { account = b.account; identity = b.identity; day = b.day; holdings = b.holdings; held = b.held; pairs = rows; paired = paired }

-- the book with other holdings, other pairs, another day
unfoldable pub with_holdings : Book → List Holding → Book
with_holdings b hs = held_rows b (full 128 empty_holding hs) (length hs)

unfoldable pub with_pairs : Book → List Pair → Book
with_pairs b ps = paired_rows b (full 128 empty_pair ps) (length ps)

unfoldable pub with_day : Book → ℕ → Book
with_day b day = record { account = b.account; identity = b.identity; day = day; holdings = b.holdings; held = b.held; pairs = b.pairs; paired = b.paired }

-- "make an empty book"
unfoldable pub empty_book : ℕ → ℕ → ℕ → Book
empty_book account identity day = book_of account identity day [] []

-- "A refused make or read gives the empty book of account 0, code 0, day 20000101"
unfoldable pub no_book : Book
no_book = empty_book 0 (byte "0") 20000101

-- the holding of a series and the pair of a kind, series, series and ratio; rows of nothing where none stands
unfoldable pub holding_in : List Holding → Series → Holding
holding_in hs s = look holding_rank (new_holding s) (series_rank s) hs

unfoldable pub pair_in : List Pair → Pair → Pair
pair_in ps p = look pair_rank (new_of p) (pair_rank p) ps
