-- Document 01, "How much each contract has to say": "every public function's contract determines its answer, the book and every lent byte
-- afterwards".
use Rattle.std.specs.Prelude.{◌≡◌}
use contract.Lifetimes.{Lfts}
use denote.Triple.Entry.{Args, Res}
use denote.Triple.Clauses.{Ended, Lasts, AtExit, at_exit}

-- T is a function's signature, with what is kept of each parameter at exit.
module _ (T : Ended) where
  -- A contract, as a caller learns it: of lifetimes, arguments, an answer, and the parameters at exit.
  abbrev pub Contract : Type 1
  Contract = (κs : Lfts T.signature.lifetimes) → Args T.signature κs → Res T.signature κs → AtExit T κs → Type 0

  -- No second answer satisfies it: answers r and s to the same arguments, which leave e and f in what was lent to be written, are the same and
  -- leave the same.
  abbrev pub OneAnswer : Contract → Type 0
  OneAnswer C =
      (κs : Lfts T.signature.lifetimes) (a : Args T.signature κs) (r s : Res T.signature κs) (e f : Lasts T κs a) →
      C κs a r (at_exit T κs a e) →
      C κs a s (at_exit T κs a f) →
      (r ≡ s) × (e ≡ f)
