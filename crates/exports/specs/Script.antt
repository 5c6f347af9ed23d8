-- A script: calls (document 01, "The book": make, open, close, pair, split, turn), each said by thirteen numbers, made one after the other.
use Rattle.std.specs.Prelude.{List, [], ◌∷◌, ℕ, zero, suc, ◌+◌, ◌*◌, ◌/◌, ◌%◌, eqb, ltb, get_or, set}
use Rattle.laws.specs.Truth.{pick}
use Rattle.series.specs.declared.Series.{Series}
use Rattle.series.specs.declared.Nature.{Nature}
use Rattle.series.specs.declared.Nature.TheVariants.{Future, Call, Put}
use Rattle.series.specs.declared.Side.{Side}
use Rattle.series.specs.declared.Side.TheVariants.{Long, Short}
use Rattle.rows.specs.declared.Pair.{Pair}
use Rattle.rows.specs.declared.Book.{Book}
use Rattle.calls.specs.Outcome.{Outcome}
use Rattle.calls.specs.Calls.{make_answer, open_answer, close_answer, pair_answer, split_answer, turn_answer}

-- The thirteen words of a call, by their places: which call it is; code, date, nature and strike of the first series and of the second; then,
-- as the call has it, account, side or kind; identity or r1; day or r2; lots or units.
abbrev pub call_at : ℕ
call_at = 0

abbrev pub first_at : ℕ
first_at = 1

abbrev pub second_at : ℕ
second_at = 5

abbrev pub account_at : ℕ
account_at = 9

abbrev pub side_at : ℕ
side_at = 9

abbrev pub kind_at : ℕ
kind_at = 9

abbrev pub identity_at : ℕ
identity_at = 10

abbrev pub r1_at : ℕ
r1_at = 10

abbrev pub day_at : ℕ
day_at = 11

abbrev pub r2_at : ℕ
r2_at = 11

abbrev pub lots_at : ℕ
lots_at = 12

abbrev pub units_at : ℕ
units_at = 12

-- a code by its three bytes, the first highest; a word with a fourth byte spells none
unfoldable pub code_said : ℕ → List ℕ
code_said w = pick (ltb w 16777216) (w / 65536 % 256 ∷ w / 256 % 256 ∷ w % 256 ∷ []) (0 ∷ 0 ∷ 0 ∷ [])

-- an identity; 0, which is none, for a word that is no byte
unfoldable pub identity_said : ℕ → ℕ
identity_said w = pick (ltb w 256) w 0

-- a nature by 0, 1 or another number; a series by four words; a side by 0 or another number; a pair
unfoldable pub nature_said : ℕ → ℕ → Nature
nature_said mark strike = pick (eqb mark 0) Future (pick (eqb mark 1) (Call strike) (Put strike))

unfoldable pub series_said : List ℕ → ℕ → Series
series_said words at =
    record { code = code_said (get_or words at 0); date = get_or words (at + 1) 0; nature = nature_said (get_or words (at + 2) 0) (get_or words (at + 3) 0) }

unfoldable pub side_said : ℕ → Side
side_said w = pick (eqb w 0) Long Short

unfoldable pub pair_said : List ℕ → ℕ → Pair
pair_said words at =
    record {
      kind = get_or words (at + kind_at) 0;
      first = series_said words (at + first_at);
      second = series_said words (at + second_at);
      r1 = get_or words (at + r1_at) 0;
      r2 = get_or words (at + r2_at) 0;
      units = get_or words (at + units_at) 0;
    }

-- the call that the words from a place on say, and its answer: 0 make, 1 open, 2 close, 3 pair, 4 split, any other number turn
unfoldable pub call_said : Book → List ℕ → ℕ → Outcome
call_said b words at =
    pick (eqb (get_or words (at + call_at) 0) 0) (make_answer (get_or words (at + account_at) 0) (identity_said (get_or words (at + identity_at) 0)) (get_or words (at + day_at) 0))
    (pick (eqb (get_or words (at + call_at) 0) 1) (open_answer b (series_said words (at + first_at)) (side_said (get_or words (at + side_at) 0)) (get_or words (at + lots_at) 0))
    (pick (eqb (get_or words (at + call_at) 0) 2) (close_answer b (series_said words (at + first_at)) (side_said (get_or words (at + side_at) 0)) (get_or words (at + lots_at) 0))
    (pick (eqb (get_or words (at + call_at) 0) 3) (pair_answer b (pair_said words at))
    (pick (eqb (get_or words (at + call_at) 0) 4) (split_answer b (pair_said words at))
    (turn_answer b (get_or words (at + day_at) 0))))))

-- so many calls from the call i on: the book that results, and the numbers, each at its call's place
unfoldable pub book_after : ℕ → List ℕ → ℕ → Book → Book
book_after zero words i b = b
book_after (suc n) words i b = book_after n words (i + 1) (call_said b words (13 * i)).book

unfoldable pub numbers_after : ℕ → List ℕ → ℕ → Book → List ℕ → List ℕ
numbers_after zero words i b numbers = numbers
numbers_after (suc n) words i b numbers =
    numbers_after n words (i + 1) (call_said b words (13 * i)).book (set numbers i (call_said b words (13 * i)).number)
