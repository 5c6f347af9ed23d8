-- Demand 3 (quoted in docs/PROMISES.md), "make any calls to open, close, pair, split and turn the day, refused ones among them": a history is a
-- list of calls on one book, and a program is what answers them. The checks are those of document 01, "Numbers a call may answer".
use Rattle.std.specs.Prelude.{List, [], ◌∷◌, ℕ, eqb}
use Rattle.laws.specs.Truth.{pick}
use Rattle.laws.specs.Checks.{Check}
use Rattle.series.specs.declared.Series.{Series}
use Rattle.series.specs.declared.Side.{Side}
use Rattle.rows.specs.declared.Pair.{Pair}
use Rattle.rows.specs.declared.Book.{Book}
use Rattle.calls.specs.Outcome.{Outcome}
use Rattle.calls.specs.Calls.{make_answer, open_checks, open_answer, close_checks, close_answer, pairing_checks, pair_answer, split_checks, split_answer, turn_checks, turn_answer}

-- a call, with any numbers and any bytes
pub data BookCall : Type 0 where
  open_lots : Series → Side → ℕ → BookCall
  close_lots : Series → Side → ℕ → BookCall
  pair_units : Pair → BookCall
  split_units : Pair → BookCall
  turn_day : ℕ → BookCall

-- what a call is answered: the answer that the contract of its function names
unfoldable pub step : Book → BookCall → Outcome
step b (open_lots s d lots) = open_answer b s d lots
step b (close_lots s d lots) = close_answer b s d lots
step b (pair_units p) = pair_answer b p
step b (split_units p) = split_answer b p
step b (turn_day day) = turn_answer b day

-- its checks, in the paper's order
unfoldable pub checks_of : Book → BookCall → List Check
checks_of b (open_lots s d lots) = open_checks b s d lots
checks_of b (close_lots s d lots) = close_checks b s d lots
checks_of b (pair_units p) = pairing_checks b p
checks_of b (split_units p) = split_checks b p
checks_of b (turn_day day) = turn_checks b day

-- and the numbers of these: 16 where the book handed in is not sound, the three of each series, and the call's own
unfoldable pub numbers_of : BookCall → List ℕ
numbers_of (open_lots s d lots) = 16 ∷ 4 ∷ 5 ∷ 2 ∷ 6 ∷ 7 ∷ 8 ∷ []
numbers_of (close_lots s d lots) = 16 ∷ 4 ∷ 5 ∷ 2 ∷ 6 ∷ 9 ∷ []
numbers_of (pair_units p) = 16 ∷ 4 ∷ 5 ∷ 2 ∷ 4 ∷ 5 ∷ 2 ∷ 6 ∷ 10 ∷ 10 ∷ 10 ∷ 10 ∷ 10 ∷ 10 ∷ 9 ∷ 11 ∷ []
numbers_of (split_units p) = 16 ∷ 4 ∷ 5 ∷ 2 ∷ 4 ∷ 5 ∷ 2 ∷ 6 ∷ 12 ∷ []
numbers_of (turn_day day) = 16 ∷ 5 ∷ 13 ∷ []

-- the empty book that make gives
abbrev pub made : ℕ → ℕ → ℕ → Book
made account identity day = (make_answer account identity day).book

module _ (program : Book → BookCall → Outcome) where
  -- the book after the calls, one after the other
  unfoldable pub run : Book → List BookCall → Book
  run b [] = b
  run b (c ∷ cs) = run (program b c).book cs

  -- the calls that were accepted: those answered by 0
  unfoldable pub accepted : Book → List BookCall → List BookCall
  accepted b [] = []
  accepted b (c ∷ cs) = pick (eqb (program b c).number 0) (c ∷ accepted (program b c).book cs) (accepted (program b c).book cs)
