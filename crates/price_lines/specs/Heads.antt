-- The short way through Q lines of options: facts of the code, not of the paper. What is asked of a line before a
-- head is kept of it, and of the next line before it is taken by that head and its own figures. HeadLaws says what is
-- known then.
use Rattle.std.specs.Prelude.{Bool, true, false, List, ℕ, zero, suc, ◌+◌, ◌*◌, eqb, leb, ltb, get_or, length, Option, None, Some}
use Rattle.laws.specs.Truth.{pick, both, either, within}
use Rattle.laws.specs.Text.{byte}
use Rattle.laws.specs.Bytes.{same_bytes}
use Rattle.dates.specs.Calendar.{is_day}
use Rattle.codes.specs.Codes.{product_of, is_option_class}
use Rattle.lines.specs.declared.Asked.TheVariants.{Number, Date, Code}
use Rattle.lines.specs.declared.Cell.{Cell}
use Rattle.lines.specs.declared.Field.{Field}
use Rattle.lines.specs.Pieces.{tab, lf}
use Rattle.lines.specs.Fields.{no_code, field_at}
use Rattle.sheet_lines.specs.Lines.{cell, figure}
use Rattle.price_lines.specs.declared.Figures as taken

-- Where it is right, the Q line of an option begins at `at`.
pub record Head : Type 0 where
  pub right : Bool
  pub at : ℕ

-- What stands behind the head of an option's Q line, where it is right.
pub record Figures : Type 0 where
  pub right : Bool
  pub mark : ℕ
  pub strike : ℕ
  pub price : ℕ
  pub stop : ℕ

-- a cell of a number
abbrev pub filled : ℕ → Cell
filled n = record { right = true; number = n; code = no_code }

-- The fields of the line that begins at `at`: the code and the date, three bytes and eight; the strike and the price.
abbrev pub code_at : List ℕ → ℕ → Field
code_at t at = field_at Code t (at + 2)

abbrev pub date_at : List ℕ → ℕ → Field
date_at t at = field_at Date t (at + 6)

abbrev pub strike_at : List ℕ → ℕ → Field
strike_at t at = field_at Number t (at + 17)

abbrev pub price_at : List ℕ → ℕ → Field
price_at t at = field_at Number t ((strike_at t at).stop + 1)

-- A head and two bytes more stand in the text from `at` on.
unfoldable pub inside_at : List ℕ → ℕ → Bool
inside_at t at = leb (at + 17) (length t)

-- Q stands at `at`, and a tab before and behind three bytes and eight that follow it.
unfoldable pub parted_at : List ℕ → ℕ → Bool
parted_at t at =
    both (both (eqb (get_or t at 0) (byte "Q")) (eqb (get_or t (at + 1) 0) tab)) (both (eqb (get_or t (at + 5) 0) tab) (eqb (get_or t (at + 14) 0) tab))

-- The three bytes and the eight are the code and the date of the cells: an option's code, and a day.
unfoldable pub headed : List ℕ → ℕ → List Cell → Bool
headed t at cells =
    both (both (both (code_at t at).cell.right (date_at t at).cell.right) (both (eqb (code_at t at).stop (at + 5)) (eqb (date_at t at).stop (at + 14))))
    (both (both (same_bytes (code_at t at).cell.code (cell cells 0).code) (eqb (date_at t at).cell.number (figure cells 1)))
    (both (is_option_class (product_of (code_at t at).cell.code).class) (is_day (date_at t at).cell.number)))

-- The head of the line that begins at `at` and has this letter and these cells: right where all this holds of a Q line.
abbrev pub no_head : Head
no_head = record { right = false; at = 0 }

-- what an answer says of a head
abbrev pub head_of : Option ℕ → Head
head_of (Some at) = record { right = true; at = at }
head_of None = no_head

unfoldable pub head_right : ℕ → List ℕ → ℕ → List Cell → Bool
head_right letter t at cells = both (eqb letter (byte "Q")) (both (inside_at t at) (both (parted_at t at) (headed t at cells)))

unfoldable pub head_at : ℕ → List ℕ → ℕ → List Cell → Head
head_at letter t at cells = pick (head_right letter t at cells) (record { right = true; at = at }) no_head

-- The first n bytes at a and at b are the same.
unfoldable pub same_for : List ℕ → ℕ → ℕ → ℕ → Bool
same_for t a b zero = true
same_for t a b (suc k) = both (same_for t a b k) (eqb (get_or t (a + k) 0) (get_or t (b + k) 0))

-- Behind a head stand a mark, C or P, and a tab; a strike in its range and a tab; a price in its range and the LF.
unfoldable pub figured : List ℕ → ℕ → Bool
figured t at =
    both (either (eqb (get_or t (at + 15) 0) (byte "C")) (eqb (get_or t (at + 15) 0) (byte "P")))
    (both (eqb (get_or t (at + 16) 0) tab)
    (both (both (strike_at t at).cell.right (within 1 100000000 (strike_at t at).cell.number))
    (both (eqb (get_or t (strike_at t at).stop 0) tab)
    (both (both (price_at t at).cell.right (leb (price_at t at).cell.number 100000000)) (eqb (get_or t (price_at t at).stop 0) lf)))))

-- The figures of the line that begins at `at`: right where all this holds.
abbrev pub no_figures : Figures
no_figures = record { right = false; mark = 0; strike = 0; price = 0; stop = 0 }

-- and of figures
abbrev pub figures_of : Option taken.Figures → Figures
figures_of (Some f) = record { right = true; mark = f.mark; strike = f.strike; price = f.price; stop = f.stop }
figures_of None = no_figures

unfoldable pub figures_at : List ℕ → ℕ → Figures
figures_at t at =
    pick (figured t at)
    (record { right = true; mark = get_or t (at + 15) 0; strike = (strike_at t at).cell.number; price = (price_at t at).cell.number; stop = (price_at t at).stop })
    no_figures

-- The line that begins at `at` begins with the head's fifteen bytes, and its figures come after this mark and strike.
unfoldable pub follows : List ℕ → Head → ℕ → ℕ → ℕ → Bool
follows t head at mark strike =
    both (both head.right (both (leb head.at at) (inside_at t at)))
    (both (both (same_for t head.at at 8) (same_for t (head.at + 7) (at + 7) 8))
    (ltb (mark * 4294967296 + strike) ((figures_at t at).mark * 4294967296 + (figures_at t at).strike)))

unfoldable pub next_figures : List ℕ → Head → ℕ → ℕ → ℕ → Figures
next_figures t head at mark strike = pick (follows t head at mark strike) (figures_at t at) no_figures
