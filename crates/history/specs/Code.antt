-- The calls as code answers them, a book or a refusal, and the program that they are together. What is asked of each is the contract of
-- its function, by `outcome_in`: `open`, `close` and `turn` of `moves`, `pair` and `split` of `ties`.
use Rattle.std.specs.Prelude.{◌≡◌, ℕ, Result}
use Rattle.laws.specs.declared.Refusal.{Refusal}
use Rattle.series.specs.declared.Series.{Series}
use Rattle.series.specs.declared.Side.{Side}
use Rattle.rows.specs.declared.Pair.{Pair}
use Rattle.rows.specs.declared.Book.{Book}
use Rattle.calls.specs.Outcome.{Outcome, outcome_in}
use Rattle.calls.specs.Calls.{open_answer, close_answer, pair_answer, split_answer, turn_answer}
use Rattle.history.specs.History.{BookCall, open_lots, close_lots, pair_units, split_units, turn_day}

pub record Functions : Type 0 where
  pub opens : Book → Series → Side → ℕ → Result Book Refusal
  pub closes : Book → Series → Side → ℕ → Result Book Refusal
  pub pairs : Book → Pair → Result Book Refusal
  pub splits : Book → Pair → Result Book Refusal
  pub turns : Book → ℕ → Result Book Refusal

-- each meets the contract of its name
pub record Meet (f : Functions) : Type 0 where
  pub open_meets : (b : Book) (s : Series) (d : Side) (lots : ℕ) → outcome_in b (f.opens b s d lots) ≡ open_answer b s d lots
  pub close_meets : (b : Book) (s : Series) (d : Side) (lots : ℕ) → outcome_in b (f.closes b s d lots) ≡ close_answer b s d lots
  pub pair_meets : (b : Book) (p : Pair) → outcome_in b (f.pairs b p) ≡ pair_answer b p
  pub split_meets : (b : Book) (p : Pair) → outcome_in b (f.splits b p) ≡ split_answer b p
  pub turn_meets : (b : Book) (day : ℕ) → outcome_in b (f.turns b day) ≡ turn_answer b day

-- what a call is answered by its function
unfoldable pub program_of : Functions → Book → BookCall → Outcome
program_of f b (open_lots s d lots) = outcome_in b (f.opens b s d lots)
program_of f b (close_lots s d lots) = outcome_in b (f.closes b s d lots)
program_of f b (pair_units p) = outcome_in b (f.pairs b p)
program_of f b (split_units p) = outcome_in b (f.splits b p)
program_of f b (turn_day day) = outcome_in b (f.turns b day)
