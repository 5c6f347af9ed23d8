-- Fields one behind the other, each behind its tab, as a line has them behind its letter (document 01, "Text": "Fields parted by one tab,
-- each line ended by LF").
use Rattle.std.specs.Prelude.{Bool, true, List, [], ◌∷◌, ℕ, ◌+◌, eqb, get_or}
use Rattle.laws.specs.Truth.{pick, both}
use Rattle.lines.specs.declared.Asked.{Asked}
use Rattle.lines.specs.declared.Asked.TheVariants.{Number, Date, Code, Mark}
use Rattle.lines.specs.declared.Cell.{Cell}
use Rattle.lines.specs.declared.Field.{Field}
use Rattle.lines.specs.declared.Written.{Written}
use Rattle.lines.specs.Pieces.{tab}
use Rattle.lines.specs.Fields.{no_cell, no_field, field_at, series_of}

-- the field behind the tab at `at`; none where no tab stands there
unfoldable pub field_behind : Asked → List ℕ → ℕ → Field
field_behind asked t at = pick (eqb (get_or t at 0) tab) (field_at asked t (at + 1)) no_field

-- Fields of which so much is asked: whether each has its form, what stands in them, and the place behind the last.
pub record Chain : Type 0 where
  pub right : Bool
  pub cells : List Cell
  pub stop : ℕ

unfoldable pub chain_behind : List Asked → List ℕ → ℕ → Chain
chain_behind [] t at = record { right = true; cells = []; stop = at }
chain_behind (k ∷ ks) t at =
    record {
      right = both (field_behind k t at).cell.right (chain_behind ks t (field_behind k t at).stop).right;
      cells = (field_behind k t at).cell ∷ (chain_behind ks t (field_behind k t at).stop).cells;
      stop = (chain_behind ks t (field_behind k t at).stop).stop;
    }

-- "SERIES is code, date, nature, strike"
unfoldable pub series_form : List Asked
series_form = Code ∷ Date ∷ Mark ∷ Number ∷ []

-- the series that the cells of such a chain write
unfoldable pub written_in : Chain → Written
written_in r = record { right = r.right; series = series_of (get_or r.cells 0 no_cell) (get_or r.cells 1 no_cell) (get_or r.cells 2 no_cell) (get_or r.cells 3 no_cell); stop = r.stop }
