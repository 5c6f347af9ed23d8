use Rattle.sound.specs.KeyedLaws.{Testing, rows_test}
use Rattle.sound.proofs.keys_of.Given as goal

abbrev pub invariant-loop-i : goal.invariant-loop-i
invariant-loop-i l = Testing l.rows l.held (rows_test l.rows l.held) l.i l.highs l.lows
