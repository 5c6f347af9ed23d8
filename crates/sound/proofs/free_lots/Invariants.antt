use Rattle.std.proofs.Common.{drop, take}
use Rattle.sound.specs.WalkLaws.{Going}
use Rattle.rules.specs.LotLaws.{legs_of}
use Rattle.sound.proofs.free_lots.Given as goal

abbrev pub invariant-loop-j : goal.invariant-loop-j
invariant-loop-j l = Going l.initial.free l.held l.pairs l.paired l.firsts l.seconds (legs_of (drop l.j (take l.paired l.pairs))) l.free
