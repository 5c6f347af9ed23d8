-- Document 01, "How much each contract has to say": a concrete history that tells idle programs from ours (IdleLaws).
use Rattle.std.specs.Prelude.{List, [], ◌∷◌, ◌++◌}
use Rattle.laws.specs.Text.{byte, three}
use Rattle.series.specs.declared.Series.{Series}
use Rattle.series.specs.declared.Nature.TheVariants.{Future}
use Rattle.series.specs.declared.Side.TheVariants.{Long, Short}
use Rattle.rows.specs.declared.Pair.{Pair}
use Rattle.rows.specs.declared.Book.{Book}
use Rattle.history.specs.History.{BookCall, open_lots, close_lots, pair_units, split_units, turn_day, made}

-- an empty book with the account, code and day of the paper's sample
unfoldable pub sample : Book
sample = made 7 (byte "1") 20190930

-- TX of October and of November, and one unit of the first long with the second short
unfoldable pub october : Series
october = record { code = three "TX"; date = 20191016; nature = Future }

unfoldable pub november : Series
november = record { code = three "TX"; date = 20191120; nature = Future }

unfoldable pub spread : Pair
spread = record { kind = 7; first = october; second = november; r1 = 1; r2 = 1; units = 1 }

-- two lots opened, then one of the other series; paired; split; one closed; the day turned
unfoldable pub one_opened : List BookCall
one_opened = open_lots october Long 2 ∷ []

unfoldable pub two_opened : List BookCall
two_opened = one_opened ++ (open_lots november Short 1 ∷ [])

unfoldable pub then_paired : List BookCall
then_paired = two_opened ++ (pair_units spread ∷ [])

unfoldable pub then_split : List BookCall
then_split = then_paired ++ (split_units spread ∷ [])

unfoldable pub then_closed : List BookCall
then_closed = then_split ++ (close_lots october Long 1 ∷ [])

unfoldable pub then_turned : List BookCall
then_turned = then_closed ++ (turn_day 20191001 ∷ [])
