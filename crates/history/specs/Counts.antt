-- Demand 3 (quoted in docs/PROMISES.md), "count from the accepted calls the lots opened less those closed", "the units paired less those
-- split", the day of "the last accepted turn": what the accepted calls of a history come to. No book is looked into.
use Rattle.std.specs.Prelude.{List, [], ◌∷◌, ℕ}
use Rattle.laws.specs.Truth.{pick, both}
use Rattle.lists.specs.Sorted.{sum_of}
use Rattle.series.specs.declared.Series.{Series}
use Rattle.series.specs.declared.Side.{Side}
use Rattle.rows.specs.declared.Pair.{Pair}
use Rattle.rows.specs.Rows.{same_series, same_pair}
use Rattle.rules.specs.Lots.{same_side}
use Rattle.history.specs.History.{BookCall, open_lots, close_lots, pair_units, split_units, turn_day}

-- n where series and side are the same, else 0
abbrev pub on_side : Series → Side → Series → Side → ℕ → ℕ
on_side s d t e n = pick (both (same_series t s) (same_side e d)) n 0

-- the lots of series s on side d that a call opens, and that it closes
unfoldable pub opens : Series → Side → BookCall → ℕ
opens s d (open_lots t e lots) = on_side s d t e lots
opens s d (close_lots t e lots) = 0
opens s d (pair_units q) = 0
opens s d (split_units q) = 0
opens s d (turn_day day) = 0

unfoldable pub closes : Series → Side → BookCall → ℕ
closes s d (open_lots t e lots) = 0
closes s d (close_lots t e lots) = on_side s d t e lots
closes s d (pair_units q) = 0
closes s d (split_units q) = 0
closes s d (turn_day day) = 0

-- the units of the kind, series, series and ratio of p that a call pairs, and that it splits
unfoldable pub pairs : Pair → BookCall → ℕ
pairs p (open_lots t e lots) = 0
pairs p (close_lots t e lots) = 0
pairs p (pair_units q) = pick (same_pair q p) q.units 0
pairs p (split_units q) = 0
pairs p (turn_day day) = 0

unfoldable pub splits : Pair → BookCall → ℕ
splits p (open_lots t e lots) = 0
splits p (close_lots t e lots) = 0
splits p (pair_units q) = 0
splits p (split_units q) = pick (same_pair q p) q.units 0
splits p (turn_day day) = 0

-- the day after a call
unfoldable pub turns_to : ℕ → BookCall → ℕ
turns_to day (open_lots t e lots) = day
turns_to day (close_lots t e lots) = day
turns_to day (pair_units q) = day
turns_to day (split_units q) = day
turns_to day (turn_day next) = next

-- lots opened and closed, units paired and split, by all calls of a list
unfoldable pub lots_opened : List BookCall → Series → Side → ℕ
lots_opened calls s d = sum_of (opens s d) calls

unfoldable pub lots_closed : List BookCall → Series → Side → ℕ
lots_closed calls s d = sum_of (closes s d) calls

unfoldable pub units_paired : List BookCall → Pair → ℕ
units_paired calls p = sum_of (pairs p) calls

unfoldable pub units_split : List BookCall → Pair → ℕ
units_split calls p = sum_of (splits p) calls

-- the day of the last turn, or the day before the calls where there is none
unfoldable pub last_day : ℕ → List BookCall → ℕ
last_day day [] = day
last_day day (c ∷ calls) = last_day (turns_to day c) calls
