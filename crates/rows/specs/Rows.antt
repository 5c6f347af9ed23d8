-- Document 01, "The book" and "Text": holdings and pairs, the order in which they stand, and rows of nothing.
use Rattle.std.specs.Prelude.{Bool, List, [], ◌∷◌, ℕ, ◌+◌, ◌-◌, eqb}
use Rattle.laws.specs.Truth.{both}
use Rattle.laws.specs.Bytes.{same_bytes}
use Rattle.series.specs.declared.Series.{Series}
use Rattle.series.specs.declared.Nature.TheVariants.{Future}
use Rattle.series.specs.declared.Side.{Side}
use Rattle.series.specs.declared.Side.TheVariants.{Long, Short}
use Rattle.series.specs.Natures.{is_future}
use Rattle.series.specs.Key.{key}
use Rattle.rows.specs.declared.Holding.{Holding}
use Rattle.rows.specs.declared.Pair.{Pair}

-- "`H SERIES long short` lines in series order"
unfoldable pub series_rank : Series → List ℕ
series_rank s = key s ∷ []

unfoldable pub holding_rank : Holding → List ℕ
holding_rank h = series_rank h.series

-- "`M kind SERIES SERIES r1 r2 units` lines ordered by those fields but units, numbers by size"
unfoldable pub pair_rank : Pair → List ℕ
pair_rank p = p.kind ∷ key p.first ∷ key p.second ∷ p.r1 ∷ p.r2 ∷ []

-- the series of two rows are one: the same in the order (series/KeyLaws: only one series is)
unfoldable pub same_series : Series → Series → Bool
same_series a b = same_bytes (series_rank a) (series_rank b)

-- the kind, series, series and ratio of two pairs are one
unfoldable pub same_pair : Pair → Pair → Bool
same_pair p q = same_bytes (pair_rank p) (pair_rank q)

-- a series of which nothing is held, and a pair of which nothing stands
abbrev pub new_holding : Series → Holding
new_holding s = record { series = s; long = 0; short = 0 }

abbrev pub new_pair : ℕ → Series → Series → ℕ → ℕ → Pair
new_pair kind first second r1 r2 = record { kind = kind; first = first; second = second; r1 = r1; r2 = r2; units = 0 }

-- the pair of which p has units, with none of them
abbrev pub new_of : Pair → Pair
new_of p = new_pair p.kind p.first p.second p.r1 p.r2

-- "A holding of no lots and a pair of no units give up their room"
abbrev pub no_lots : Holding → Bool
no_lots h = both (eqb h.long 0) (eqb h.short 0)

abbrev pub no_units : Pair → Bool
no_units p = eqb p.units 0

-- the lots of one side, and a holding with more or fewer of them
abbrev pub lots_on : Side → Holding → ℕ
lots_on Long h = h.long
lots_on Short h = h.short

abbrev pub added : Side → ℕ → Holding → Holding
added Long n h = record { series = h.series; long = h.long + n; short = h.short }
added Short n h = record { series = h.series; long = h.long; short = h.short + n }

abbrev pub lessened : Side → ℕ → Holding → Holding
lessened Long n h = record { series = h.series; long = h.long - n; short = h.short }
lessened Short n h = record { series = h.series; long = h.long; short = h.short - n }

-- a pair with other units
abbrev pub with_units : ℕ → Pair → Pair
with_units n p = record { kind = p.kind; first = p.first; second = p.second; r1 = p.r1; r2 = p.r2; units = n }

-- an empty row, with which unused room is filled
abbrev pub empty_series : Series
empty_series = record { code = 0 ∷ 0 ∷ 0 ∷ []; date = 0; nature = Future }

unfoldable pub empty_holding : Holding
empty_holding = new_holding empty_series

unfoldable pub empty_pair : Pair
empty_pair = new_pair 0 empty_series empty_series 0 0

unfoldable pub is_empty_series : Series → Bool
is_empty_series s = both (same_bytes s.code (0 ∷ 0 ∷ 0 ∷ [])) (both (eqb s.date 0) (is_future s.nature))

unfoldable pub is_empty_holding : Holding → Bool
is_empty_holding h = both (is_empty_series h.series) (no_lots h)

unfoldable pub is_empty_pair : Pair → Bool
is_empty_pair p =
    both (is_empty_series p.first)
    (both (is_empty_series p.second)
    (both (eqb p.kind 0)
    (both (eqb p.r1 0)
    (both (eqb p.r2 0)
    (no_units p)))))
