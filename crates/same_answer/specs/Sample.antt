-- Document 01, "Values at the edges": the book and the sheet of the paper's example.
use Rattle.std.specs.Prelude.{List, [], ◌∷◌, ◌++◌, ℕ}
use Rattle.laws.specs.Text.{byte, bytes, three}
use Rattle.series.specs.declared.Series.{Series}
use Rattle.series.specs.declared.Nature.{Nature}
use Rattle.series.specs.declared.Nature.TheVariants.{Call, Put}
use Rattle.rows.specs.declared.Book.{Book}
use Rattle.rows.specs.Book.{book_of, empty_book}

-- TXO of October, with the strike 10,200
unfoldable pub october : Nature → Series
october nature = record { code = three "TXO"; date = 20191016; nature = nature }

unfoldable pub call : Series
call = october (Call 10200000)

unfoldable pub put : Series
put = october (Put 10200000)

-- a short call and a short put, paired
unfoldable pub sample_book : Book
sample_book =
    book_of 7 (byte "1") 20190930
    (record { series = call; long = 0; short = 1 } ∷ record { series = put; long = 0; short = 1 } ∷ [])
    (record { kind = 4; first = call; second = put; r1 = 1; r2 = 1; units = 1 } ∷ [])

unfoldable pub sample_sheet : List ℕ
sample_sheet =
    bytes "D\t20190930\n"
    ++ (bytes "O\tTXO\t50\t17000\t18000\t23000\t9000\t10000\t12000\t1800\t1900\t2400\t10873000\n"
    ++ (bytes "Q\tTXO\t20191016\tC\t10200000\t590000\n"
    ++ bytes "Q\tTXO\t20191016\tP\t10200000\t98000\n"))

-- the same account with nothing held
unfoldable pub nothing_held : Book
nothing_held = empty_book 7 (byte "1") 20190930
