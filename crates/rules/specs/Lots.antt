-- Document 01, "The book": "Tied lots of a series and side are the sum over pairs; free is total less tied and never negative".
use Rattle.std.specs.Prelude.{Bool, true, false, List, map, ℕ, ◌+◌, ◌-◌, ◌*◌, leb}
use Rattle.laws.specs.Truth.{pick, both}
use Rattle.laws.specs.Search.{every_line}
use Rattle.lists.specs.Sorted.{sum_of}
use Rattle.series.specs.declared.Series.{Series}
use Rattle.series.specs.declared.Side.{Side}
use Rattle.series.specs.declared.Side.TheVariants.{Long, Short}
use Rattle.pairing.specs.Sides.{first_side, second_side}
use Rattle.rows.specs.declared.Holding.{Holding}
use Rattle.rows.specs.declared.Pair.{Pair}
use Rattle.rows.specs.declared.Book.{Book}
use Rattle.rows.specs.Rows.{same_series, lots_on}
use Rattle.rows.specs.Book.{holdings_of, pairs_of, holding_in, pair_in}

-- what a pair ties: of each of its two series, on a side, its ratio times its units
pub record Leg : Type 0 where
  pub series : Series
  pub side : Side
  pub lots : ℕ

unfoldable pub first_leg : Pair → Leg
first_leg p = record { series = p.first; side = first_side p.kind p.second; lots = p.r1 * p.units }

unfoldable pub second_leg : Pair → Leg
second_leg p = record { series = p.second; side = second_side p.kind; lots = p.r2 * p.units }

abbrev pub same_side : Side → Side → Bool
same_side Long Long = true
same_side Long Short = false
same_side Short Long = false
same_side Short Short = true

-- the lots of a series and side that a leg ties, and that a pair ties
unfoldable pub ties : Series → Side → Leg → ℕ
ties s d leg = pick (both (same_series leg.series s) (same_side leg.side d)) leg.lots 0

unfoldable pub tied_by : Series → Side → Pair → ℕ
tied_by s d p = ties s d (first_leg p) + ties s d (second_leg p)

-- tied lots: the sum over pairs
unfoldable pub tied : List Pair → Series → Side → ℕ
tied ps s d = sum_of (tied_by s d) ps

-- the total of a series and side, 0 where it is not held
unfoldable pub total : List Holding → Series → Side → ℕ
total hs s d = lots_on d (holding_in hs s)

-- free lots: total less tied
unfoldable pub free : Book → Series → Side → ℕ
free b s d = total (holdings_of b) s d - tied (pairs_of b) s d

-- the units that stand of the kind, series, series and ratio of p
unfoldable pub units_of : List Pair → Pair → ℕ
units_of ps p = (pair_in ps p).units

-- the holdings with their free lots for their totals
unfoldable pub free_holding : List Pair → Holding → Holding
free_holding ps h = record { series = h.series; long = h.long - tied ps h.series Long; short = h.short - tied ps h.series Short }

unfoldable pub free_rows : List Holding → List Pair → List Holding
free_rows hs ps = map (free_holding ps) hs

-- "never negative": no more is tied than there is, of each series and side that a pair ties
unfoldable pub leg_covered : List Holding → List Pair → Leg → Bool
leg_covered hs ps leg = leb (tied ps leg.series leg.side) (total hs leg.series leg.side)

unfoldable pub pair_covered : List Holding → List Pair → Pair → Bool
pair_covered hs ps p = both (leg_covered hs ps (first_leg p)) (leg_covered hs ps (second_leg p))

unfoldable pub covered : List Holding → List Pair → Bool
covered hs ps = every_line (pair_covered hs ps) ps
