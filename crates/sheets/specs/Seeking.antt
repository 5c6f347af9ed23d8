-- How far a search among Q rows has come, and what it will find.
use Rattle.std.specs.Prelude.{◌≡◌, List, ℕ, ◌-◌, ◌<◌, ◌≤◌, ltb, length, Option}
use Rattle.laws.specs.Truth.{pick}
use Rattle.halving.specs.Halving.{middle}
use Rattle.sheets.specs.declared.PriceRow.{PriceRow}
use Rattle.sheets.specs.Rows.{found, nothing}
use Rattle.sheets.specs.Sheet.{sought_in}

-- How far a search among Q rows has come: it is left from low to high, the middle is looked at next; and what was found.
pub record Search : Type 0 where
  pub low : ℕ
  pub high : ℕ
  pub middle : ℕ
  pub found : Option ℕ

-- a search from low to high, and one that is at its end
unfoldable pub search_from : ℕ → ℕ → Search
search_from low high = record { low = low; high = high; middle = middle low high; found = nothing }

unfoldable pub found_at : ℕ → ℕ → Search
found_at place price = record { low = place; high = place; middle = place; found = found price }

-- what a search will find of the key k
unfoldable pub goes_to : List PriceRow → List ℕ → Search → Option ℕ
goes_to rows k s = pick (ltb s.low s.high) (sought_in rows k (s.high - s.low) s.low s.high) s.found

-- It looks at rows that are there, and w is what it will find.
pub record Seeking (rows : List PriceRow) (k : List ℕ) (w : Option ℕ) (s : Search) : Type 0 where
  pub inside : s.high ≤ length rows
  pub halves : s.low < s.high → s.middle ≡ middle s.low s.high
  pub goes : w ≡ goes_to rows k s
