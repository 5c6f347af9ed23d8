-- Document 01, "Which pairs may stand": the side that each leg of a pair is on.
use Rattle.std.specs.Prelude.{ℕ, eqb}
use Rattle.laws.specs.Truth.{pick}
use Rattle.series.specs.declared.Series.{Series}
use Rattle.series.specs.Natures.{is_put}
use Rattle.series.specs.declared.Side.{Side}
use Rattle.series.specs.declared.Side.TheVariants.{Long, Short}

-- kind 4 is short, then short; kind 5 a long future with calls, a short future with puts; every other kind long, then short
unfoldable pub first_side : ℕ → Series → Side
first_side kind second = pick (eqb kind 4) Short (pick (eqb kind 5) (pick (is_put second.nature) Short Long) Long)

unfoldable pub second_side : ℕ → Side
second_side kind = Short
