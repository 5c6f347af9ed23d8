-- Document 01, "Series": "Order of series: code bytes (a prefix first), date, nature letter C, F, P, strike". A two-letter
-- code ends in a 0 byte, so a prefix comes first.
use Rattle.std.specs.Prelude.{List, ℕ, ◌^◌, get_or}
use Rattle.std.specs.declared.cmp.Ordering.{Ordering}
use Rattle.laws.specs.Order.{order_of, then_by, bytes_order, join}
use Rattle.series.specs.declared.Series.{Series}
use Rattle.series.specs.declared.Nature.{Nature}
use Rattle.series.specs.declared.Halves.{Halves}
use Rattle.series.specs.Natures.{letter_of, strike_of}

-- the order in the paper's words
unfoldable pub parts_order : Series → Series → Ordering
parts_order a b =
    then_by (bytes_order a.code b.code)
    (then_by (order_of a.date b.date)
    (then_by (order_of (letter_of a.nature) (letter_of b.nature))
    (order_of (strike_of a.nature) (strike_of b.nature))))

-- The same as the order of one number, which has the bytes, the date, the letter and the strike as its digits (KeyLaws,
-- by-parts). The rows of a book are sorted by it.

unfoldable pub code_key : List ℕ → ℕ
code_key code = join 256 (join 256 (get_or code 0 0) (get_or code 1 0)) (get_or code 2 0)

unfoldable pub nature_key : Nature → ℕ
nature_key n = join (2 ^ 32) (letter_of n) (strike_of n)

unfoldable pub high_key : Series → ℕ
high_key s = join (2 ^ 32) (code_key s.code) s.date

unfoldable pub key : Series → ℕ
key s = join (2 ^ 40) (high_key s) (nature_key s.nature)

-- its two halves, by which rows are searched
abbrev pub halves_of : Series → Halves
halves_of s = record { high = high_key s; low = nature_key s.nature }

unfoldable pub series_order : Series → Series → Ordering
series_order a b = order_of (key a) (key b)
