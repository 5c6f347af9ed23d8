-- Document 01, "Needed": the lines of a sheet that a book needs.
use Rattle.std.specs.Prelude.{List, [], ◌∷◌, ◌++◌, ℕ, ◌+◌, eqb}
use Rattle.laws.specs.Truth.{pick}
use Rattle.laws.specs.Search.{gathered}
use Rattle.laws.specs.Kinds.{by_kind}
use Rattle.codes.specs.Codes.{product_of}
use Rattle.series.specs.declared.Series.{Series}
use Rattle.series.specs.Natures.{is_future}
use Rattle.rows.specs.declared.Holding.{Holding}
use Rattle.rows.specs.declared.Pair.{Pair}
use Rattle.rows.specs.declared.Book.{Book}
use Rattle.rows.specs.Book.{holdings_of, pairs_of}
use Rattle.rules.specs.Lots.{free_rows}
use Rattle.quotes.specs.Quotes.{SheetLine, own_line, lot_lines, parent_lines}

-- "Free long options cost nothing; every free future is charged": the lots of a holding's free ones that are charged
unfoldable pub charged_lots : Holding → ℕ
charged_lots h = pick (is_future h.series.nature) (h.long + h.short) h.short

-- the line of a series' own, and all that one lot of it needs
unfoldable pub own_line_of : Series → SheetLine
own_line_of s = own_line (product_of s.code) s

unfoldable pub lines_of : Series → List SheetLine
lines_of s = lot_lines (product_of s.code) s

-- "O or S line for each free short option", "Q for each premium used and each stock future charged", "F for the full-size future
-- behind each futures margin", "S for a stock future"
unfoldable pub needed_by_holding : Holding → List SheetLine
needed_by_holding h = pick (eqb (charged_lots h) 0) [] (lines_of h.series)

-- "O or S line for ... each pair with an option": all that kinds 1 and 2 need. Kinds 3 and 4 use both premiums, kind 5 the future's
-- margin and the option's premium, kind 6 the short leg's single margin, kinds 7 and 8 both futures margins. "F for the full-size
-- future behind each ... index time spread."
unfoldable pub needed_by_pair : Pair → List SheetLine
needed_by_pair p =
    by_kind p.kind
    (own_line_of p.first ∷ [])
    (own_line_of p.first ∷ [])
    (lines_of p.first ++ (lines_of p.second ++ parent_lines (product_of p.second.code)))
    (lines_of p.first ++ lines_of p.second)
    (lines_of p.first ++ lines_of p.second)
    (lines_of p.second)
    (lines_of p.first ++ lines_of p.second)
    (lines_of p.first ++ lines_of p.second)
    []

-- the free lots of all holdings, and all pairs
unfoldable pub needed_by : Book → List SheetLine
needed_by b = gathered needed_by_holding (free_rows (holdings_of b) (pairs_of b)) ++ gathered needed_by_pair (pairs_of b)
