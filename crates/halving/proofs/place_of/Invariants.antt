use Rattle.std.proofs.Common.{[], ◌-◌, ◌∷◌}
use Rattle.halving.specs.Halving.{place_of}
use Rattle.halving.specs.HalvingLaws.{AtHalf}
use Rattle.halving.proofs.place_of.Given as goal

abbrev pub invariant-loop-from : goal.invariant-loop-from
invariant-loop-from l = AtHalf l.highs l.lows (l.high ∷ l.low ∷ []) (place_of l.highs l.lows l.count (l.high ∷ l.low ∷ [])) l.from l.to

abbrev pub decreases-loop-from : goal.decreases-loop-from
decreases-loop-from l = l.to - l.from
