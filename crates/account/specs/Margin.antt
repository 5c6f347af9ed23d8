-- Document 01, "Rates and amounts": "Then multiply by lots or units ... The account's margin is the sum"; and "Numbers a call may
-- answer": "Margin: the sheet's own number, 13, 14", behind 16.
use Rattle.std.specs.Prelude.{Bool, true, List, [], ◌∷◌, ℕ, ◌+◌, ◌*◌, eqb}
use Rattle.laws.specs.Truth.{pick}
use Rattle.laws.specs.Search.{every_line}
use Rattle.laws.specs.Checks.{Check, ◌unless◌, first_failing}
use Rattle.lists.specs.Sorted.{sum_of}
use Rattle.levels.specs.declared.Levels.{Levels}
use Rattle.levels.specs.Levels.{per_level, both_levels, flat}
use Rattle.units.specs.Units.{formula}
use Rattle.rows.specs.declared.Holding.{Holding}
use Rattle.rows.specs.declared.Pair.{Pair}
use Rattle.rows.specs.declared.Book.{Book}
use Rattle.rows.specs.Book.{holdings_of, pairs_of}
use Rattle.rules.specs.Lots.{free_rows}
use Rattle.rules.specs.Rules.{sound_book}
use Rattle.sheets.specs.declared.Sheet.{Sheet}
use Rattle.checking.specs.Reading.{read_sheet}
use Rattle.sheets.specs.View.{View, sheet_view}
use Rattle.quotes.specs.Quotes.{on_sheet, quote_of}
use Rattle.account.specs.declared.Margin.{Margin}
use Rattle.account.specs.Needed.{charged_lots, needed_by}

-- so many times an amount, at each level
abbrev pub times : ℕ → Levels → Levels
times n l = per_level (λ (m : ℕ). m * n) l

-- "every free future is charged", of both sides, and free short options, by their lots
unfoldable pub holding_margin : View → Holding → Levels
holding_margin v h = times (charged_lots h) (quote_of v h.series).lot.margin

-- a pair by its units, with its kind's formula; the terms are those of the second leg, which is an option wherever one is
unfoldable pub pair_margin : View → Bool → Pair → Levels
pair_margin v charged p =
    times p.units
    (formula p.kind (quote_of v p.first).lot (quote_of v p.second).lot (quote_of v p.second).terms p.r1 p.r2 charged)

-- the sum over rows, at each level
unfoldable pub sum_levels : {A : Type 0} → (A → Levels) → List A → Levels
sum_levels f l =
    record { clearing = sum_of (λ x. (f x).clearing) l; maintenance = sum_of (λ x. (f x).maintenance) l; initial = sum_of (λ x. (f x).initial) l }

abbrev pub plus : Levels → Levels → Levels
plus l m = both_levels (λ (x : ℕ) (y : ℕ). x + y) l m

-- "C is charged to every account (house rule, here even over 000)."
abbrev pub pays_c : Book → Bool
pays_c b = true

-- "The account's margin is the sum."
unfoldable pub account_margin : View → Book → Levels
account_margin v b =
    plus (sum_levels (holding_margin v) (free_rows (holdings_of b) (pairs_of b))) (sum_levels (pair_margin v (pays_c b)) (pairs_of b))

-- 16, "the sheet's own number, 13, 14"
unfoldable pub margin_checks : Book → Sheet → List Check
margin_checks b sheet =
    16 unless sound_book b
    ∷ sheet.number unless eqb sheet.number 0
    ∷ 13 unless eqb sheet.day b.day
    ∷ 14 unless every_line (on_sheet (sheet_view sheet)) (needed_by b)
    ∷ []

unfoldable pub margin_number : Book → Sheet → ℕ
margin_number b sheet = first_failing (margin_checks b sheet)

-- only the sheet's own number has a line
unfoldable pub margin_line : Book → Sheet → ℕ
margin_line b sheet = pick (sound_book b) (pick (eqb sheet.number 0) 0 sheet.line) 0

-- the number and line, and zeros; or 0, 0 and the margin
unfoldable pub margin_on : Book → Sheet → Margin
margin_on b sheet =
    pick (eqb (margin_number b sheet) 0)
    (record { number = 0; line = 0; levels = account_margin (sheet_view sheet) b })
    (record { number = margin_number b sheet; line = margin_line b sheet; levels = flat 0 })

-- a book, and any text as sheet
unfoldable pub margin_text : Book → List ℕ → Margin
margin_text b text = margin_on b (read_sheet text)
