-- Document 01, "How much each contract has to say": the contract of `sheets::price_of`, as a caller learns it: the reading of its `ensures`, which is
-- one plain fact.
use Rattle.std.specs.Prelude.{refl}
use base.Logic.{emp}
use contract.Lifetimes.{Lfts}
use denote.Triple.Entry.{Args, Res}
use denote.Triple.Clauses.{AtExit}
use borrow.Fn.Claims.{AllOf}
use borrow.Fn.Read.{Read, all_models, no_know, r_last}
use borrow.Fn.World.{World, Pr}
use Rattle.sheets.specs.contracts.price_of.{signature, ended, clauses}

module _ (κs : Lfts 1) (a : Args signature κs) (r : Res signature κs) (e : AtExit ended κs) where
  abbrev ensures : (w : World) → Pr w
  ensures w = (clauses w.𝓛 w.𝓜.mem w.𝓡.run κs a).ensures tt r e

  abbrev reading : Read (λ w. emp w.𝓤) no_know ensures
  reading = all_models ensures (λ w. r_last _) (λ w. refl) (λ w. refl) (λ w. refl)

  abbrev pub Learnt : Type 0
  Learnt = AllOf reading.tells
