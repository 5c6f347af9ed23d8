-- What the parts of the work on a line ask and answer: the fields behind a name as they are read, one behind the other (document 01, "Text").
use Rattle.std.specs.Prelude.{Bool, List, ℕ, eqb, ltb, get_or, length, Option, Some, None}
use Rattle.laws.specs.Truth.{pick, both, either}
use Rattle.laws.specs.Text.{byte}
use Rattle.series.specs.declared.Side.{Side}
use Rattle.series.specs.declared.Side.TheVariants.{Long, Short}
use Rattle.series.specs.declared.Series.{Series}
use Rattle.rows.specs.declared.Pair.{Pair}
use Rattle.lines.specs.declared.Asked.{Asked}
use Rattle.lines.specs.declared.Cell.{Cell}
use Rattle.lines.specs.Pieces.{lf, next_of}
use Rattle.lines.specs.Fields.{series_of}
use Rattle.lines.specs.Behind.{chain_behind}
use Rattle.lines.specs.StopLaws.{line_at}
use Rattle.book_lines.specs.Lines.{cell, head_form, pair_form, pair_from}
use Rattle.call_lines.specs.declared.Name.{Name}
use Rattle.call_lines.specs.declared.Make.{Make}
use Rattle.call_lines.specs.declared.Lots.{Lots}
use Rattle.call_lines.specs.Lines.{Line, formless, figure, lots_form, day_form, form_of, said_by, call_line}

-- what stands in the fields of a form behind the name that ends at `at`
abbrev pub cells_behind : List Asked → List ℕ → ℕ → List Cell
cells_behind form t at = (chain_behind form t at).cells

-- they have the form, and the line ends behind them
unfoldable pub formed : List Asked → List ℕ → ℕ → Bool
formed form t at = both (chain_behind form t at).right (eqb (get_or t (chain_behind form t at).stop 0) lf)

unfoldable pub is_side : ℕ → Bool
is_side mark = either (eqb mark (byte "L")) (eqb mark (byte "S"))

unfoldable pub side_of : ℕ → Side
side_of mark = pick (eqb mark (byte "L")) Long Short

-- What is read of each form, and whether it stands there.
pub record MakeLine : Type 0 where
  pub right : Bool
  pub account : ℕ
  pub identity : ℕ
  pub day : ℕ

pub record LotsLine : Type 0 where
  pub right : Bool
  pub series : Series
  pub side : Side
  pub lots : ℕ

pub record UnitsLine : Type 0 where
  pub right : Bool
  pub pair : Pair

pub record DayLine : Type 0 where
  pub right : Bool
  pub day : ℕ

unfoldable pub make_said : Bool → List Cell → MakeLine
make_said right cs = record { right = right; account = figure cs 0; identity = figure cs 1; day = figure cs 2 }

unfoldable pub make_behind : List ℕ → ℕ → MakeLine
make_behind t at = make_said (formed head_form t at) (cells_behind head_form t at)

unfoldable pub lots_said : Bool → List Cell → LotsLine
lots_said right cs =
    record {
      right = both right (is_side (figure cs 4));
      series = series_of (cell cs 0) (cell cs 1) (cell cs 2) (cell cs 3);
      side = side_of (figure cs 4);
      lots = figure cs 5;
    }

unfoldable pub lots_behind : List ℕ → ℕ → LotsLine
lots_behind t at = lots_said (formed lots_form t at) (cells_behind lots_form t at)

unfoldable pub units_behind : List ℕ → ℕ → UnitsLine
units_behind t at = record { right = formed pair_form t at; pair = pair_from (cells_behind pair_form t at) }

unfoldable pub day_behind : List ℕ → ℕ → DayLine
day_behind t at = record { right = formed day_form t at; day = figure (cells_behind day_form t at) 0 }

-- What is answered of it: what stands there, where it has the form.
abbrev pub make_told : MakeLine → Option Make
make_told m = pick m.right (Some (record { account = m.account; identity = m.identity; day = m.day })) None

abbrev pub lots_told : LotsLine → Option Lots
lots_told l = pick l.right (Some (record { series = l.series; side = l.side; lots = l.lots })) None

abbrev pub units_told : UnitsLine → Option Pair
units_told u = pick u.right (Some u.pair) None

abbrev pub day_told : DayLine → Option ℕ
day_told d = pick d.right (Some d.day) None

-- what a line says whose name ends at `at`
unfoldable pub line_behind : Name → List ℕ → ℕ → Line
line_behind n t at = pick (formed (form_of n) t at) (said_by n (cells_behind (form_of n) t at)) formless

-- what the line that begins at `at` says; one without its LF has not the form
unfoldable pub said_at : List ℕ → ℕ → Line
said_at t at = pick (ltb (next_of t at lf) (length t)) (call_line (line_at t at)) formless
