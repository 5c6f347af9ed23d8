use Rattle.std.proofs.Common.{◌≡◌, arith, length, min}
use Rattle.halving.specs.HalvingLaws.{find_behind, pair_here, pair_other}
use Rattle.halving.proofs.find.Goals as goal
use Rattle.halving.proofs.find.Goals.{else-place-min-via-then-place-min+else-eq, else-place-min-via-else-place-min}

pub returns-then-eq : goal.returns-then-eq
returns-then-eq c = pair_here _ _ _ _ _ c.place_of-place.ensures (omega (arith, c.min-2.ensures, c.min.ensures)) c.if-place-min.true c.eq.ensures c.if-eq.true

pub returns-else-place-min : goal.returns-else-place-min
returns-else-place-min c =
    let room : c.min-2.result ≡ min c.args.count (min (length c.args.highs.now) (length c.args.lows.now)) = omega (arith, c.min-2.ensures, c.min.ensures) in
    elim c.else-place-min.branch [
      | else-place-min-via-then-place-min+else-eq w ↦ pair_other _ _ _ _ _ c.place_of-place.ensures room w.if-place-min.true w.eq.ensures w.if-eq.false
      | else-place-min-via-else-place-min w ↦ find_behind _ _ _ _ _ c.place_of-place.ensures room w.if-place-min.false
    ]
