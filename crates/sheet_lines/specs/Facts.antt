-- What the parts of the reader ask and answer: what is asked of a letter's fields and their number, its group, and a line's number behind the line before it
-- (document 01, "Text").
use Rattle.std.specs.Prelude.{List, [], ◌∷◌, ◌++◌, ℕ, eqb}
use Rattle.laws.specs.Checks.{first_failing}
use Rattle.laws.specs.Order.{is_less, bytes_order}
use Rattle.lines.specs.declared.Asked.{Asked}
use Rattle.lines.specs.declared.Asked.TheVariants.{Nothing}
use Rattle.lines.specs.declared.Cell.{Cell}
use Rattle.sheet_lines.specs.Lines.{head_form, future_form, option_form, stock_form, price_form, by_letter, said, rank, checks_by}

-- what all forms ask, one form behind the other, with Nothing between and behind them; and where a letter's begins
unfoldable pub asked_table : List Asked
asked_table = head_form ++ (Nothing ∷ (future_form ++ (Nothing ∷ (option_form ++ (Nothing ∷ (stock_form ++ (Nothing ∷ (price_form ++ (Nothing ∷ [])))))))))

unfoldable pub place_for : ℕ → ℕ
place_for letter = by_letter letter 0 2 5 18 28 33

-- how many fields its form has, more than there can be where it has none; and its group, or 0
unfoldable pub fields_for : ℕ → ℕ
fields_for letter = by_letter letter 1 2 12 9 5 13

unfoldable pub group_for : ℕ → ℕ
group_for letter = by_letter letter 1 2 3 4 5 0

-- a line's number, where the line before it, if any, had the letter `last` and the cells `before`
unfoldable pub number_for : ℕ → List Cell → ℕ → List Cell → ℕ
number_for letter cs last before =
    first_failing (checks_by (eqb last 0) (is_less (bytes_order (rank (said last before)) (rank (said letter cs)))) (said letter cs))
