-- A call's answer in the paper's words: 0 and the book that results, or the number of the first check that fails and the book as it was handed in.
use Rattle.std.specs.Prelude.{ℕ, Result, Ok, Err}
use Rattle.laws.specs.declared.Refusal.{Refusal}
use Rattle.laws.specs.Refusals.{number_of}
use Rattle.rows.specs.declared.Book.{Book}
use Rattle.calls.specs.declared.RefusedMake.{RefusedMake}

pub record Outcome : Type 0 where
  pub number : ℕ
  pub book : Book

-- what a `Result` answers on a book: a refusal leaves the book as it is
abbrev pub outcome_in : Book → Result Book Refusal → Outcome
outcome_in b (Ok new) = record { number = 0; book = new }
outcome_in b (Err r) = record { number = number_of r; book = b }

-- what a make answers: a refusal has a book of its own
abbrev pub made_in : Result Book RefusedMake → Outcome
made_in (Ok new) = record { number = 0; book = new }
made_in (Err r) = record { number = number_of r.refusal; book = r.book }
