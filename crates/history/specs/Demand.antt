-- Demand 3 (quoted in docs/PROMISES.md; document 01, "How much each contract has to say", names it), whole: what a book holds is what
-- its history says. HistoryLaws proves it of the calls.
use Rattle.std.specs.Prelude.{◌≡◌, true, false, List, ℕ, ◌+◌, ◌-◌, ◌≤◌}
use Rattle.laws.specs.Checks.{all_pass}
use Rattle.series.specs.declared.Series.{Series}
use Rattle.series.specs.declared.Side.{Side}
use Rattle.rows.specs.declared.Pair.{Pair}
use Rattle.rows.specs.declared.Book.{Book}
use Rattle.rows.specs.Book.{holdings_of, pairs_of}
use Rattle.rules.specs.Lots.{tied, total, free, units_of}
use Rattle.rules.specs.Rules.{sound_book}
use Rattle.calls.specs.Outcome.{Outcome}
use Rattle.calls.specs.Calls.{make_answer}
use Rattle.history.specs.History.{BookCall, checks_of, made, run, accepted}
use Rattle.history.specs.Counts.{lots_opened, lots_closed, units_paired, units_split, last_day}

-- The book b is what the calls `done` say, which were accepted since it was made with this account, identity and day.
pub record AsCounted (account identity day : ℕ) (done : List BookCall) (b : Book) : Type 0 where
  -- the book keeps every rule
  pub sound : sound_book b ≡ true
  -- for each series and side: free lots plus lots in standing pairs are the lots opened less those closed, which are no more
  pub lots : (s : Series) (d : Side) → free b s d + tied (pairs_of b) s d ≡ lots_opened done s d - lots_closed done s d
  pub lots_closed_lem : (s : Series) (d : Side) → lots_closed done s d ≤ lots_opened done s d
  -- lots in standing pairs never exceed the lots held: no lot stands twice
  pub lots_once : (s : Series) (d : Side) → tied (pairs_of b) s d ≤ total (holdings_of b) s d
  -- for each kind, series, series and ratio, which p names: the units that stand are those paired less those split, which are no more
  pub units : (p : Pair) → units_of (pairs_of b) p ≡ units_paired done p - units_split done p
  pub units_split_lem : (p : Pair) → units_split done p ≤ units_paired done p
  -- account and identity are as made
  pub account_made : b.account ≡ account
  pub identity_made : b.identity ≡ identity
  -- the day is that of the last accepted turn, or the made one
  pub day_counted : b.day ≡ last_day day done

-- What demand 3 asks of a program that answers calls.
pub record Demand3 (program : Book → BookCall → Outcome) : Type 0 where
  -- after any calls on any book that make accepts, the book is what the accepted ones say
  pub counted : (account identity day : ℕ) (calls : List BookCall) → (make_answer account identity day).number ≡ 0
      → AsCounted account identity day (accepted program (made account identity day) calls) (run program (made account identity day) calls)
  -- a call is accepted exactly when none of the paper's checks fails
  pub accepts : (b : Book) (c : BookCall) → all_pass (checks_of b c) ≡ true → (program b c).number ≡ 0
  pub accepts_only : (b : Book) (c : BookCall) → (program b c).number ≡ 0 → all_pass (checks_of b c) ≡ true
  -- a refused call leaves the book as it was
  pub refused_keeps : (b : Book) (c : BookCall) → all_pass (checks_of b c) ≡ false → (program b c).book ≡ b

-- "Two books of the same account, client code and day, with the same lots free and the same pairs" (SameLaws: where both are sound they are one book)
pub record Alike (a b : Book) : Type 0 where
  pub same_account : a.account ≡ b.account
  pub same_identity : a.identity ≡ b.identity
  pub same_day : a.day ≡ b.day
  pub same_free : (s : Series) (d : Side) → free a s d ≡ free b s d
  pub same_units : (p : Pair) → units_of (pairs_of a) p ≡ units_of (pairs_of b) p
