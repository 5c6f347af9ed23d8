-- Laws of the fields behind a call's name: read one behind the other they are the fields of its form.
use Rattle.std.specs.Prelude.{◌≡◌, Bool, true, List, [], ◌∷◌, ℕ, eqb, get_or}
use Rattle.std.proofs.Math.Path.{refl, ap}
use Rattle.std.proofs.Common.{sym, ◌∙◌}
use Rattle.laws.specs.Truth.{both}
use Rattle.laws.specs.TruthLaws.{both_end}
use Rattle.series.specs.declared.Side.{Side}
use Rattle.rows.specs.declared.Pair.{Pair}
use Rattle.lines.specs.declared.Asked.{Asked}
use Rattle.lines.specs.declared.Asked.TheVariants.{Number, Account, Date, Mark}
use Rattle.lines.specs.declared.Cell.{Cell}
use Rattle.lines.specs.declared.Field.{Field}
use Rattle.lines.specs.declared.Written.{Written}
use Rattle.lines.specs.Pieces.{lf}
use Rattle.lines.specs.Fields.{series_of}
use Rattle.lines.specs.Behind.{field_behind, Chain, chain_behind, series_form, written_in}
use Rattle.lines.specs.BehindLaws.{joined, chain_more}
use Rattle.book_lines.specs.Lines.{head_form}
use Rattle.book_lines.specs.Facts.{item_behind, items_behind, pair_of}
use Rattle.book_lines.specs.LineLaws.{Read, pair_read}
use Rattle.call_lines.specs.Lines.{lots_form, day_form}
use Rattle.call_lines.specs.Facts.{LotsLine, UnitsLine, formed, is_side, side_of, make_said, make_behind, lots_said, lots_behind, units_behind, day_behind}

module _ (t : List ℕ) (at : ℕ) where
  pub make_read : {a i d : Field} {ends : Bool} → a ≡ field_behind Account t at → i ≡ field_behind Mark t a.stop → d ≡ field_behind Date t i.stop → ends ≡ eqb (get_or t d.stop 0) lf → record { right = both (both a.cell.right (both i.cell.right d.cell.right)) ends; account = a.cell.number; identity = i.cell.number; day = d.cell.number } ≡ make_behind t at
  unfolding make_behind make_said formed chain_behind head_form
  make_read a i d e = rw (e, d, i, a, both_end)

  pub day_read : {d : Field} {ends : Bool} → d ≡ field_behind Date t at → ends ≡ eqb (get_or t d.stop 0) lf → record { right = both d.cell.right ends; day = d.cell.number } ≡ day_behind t at
  unfolding day_behind formed chain_behind day_form
  day_read d e = rw (e, d, both_end)

  -- A pair's fields are those of an M line.
  units_of : Read Pair → UnitsLine
  units_of r = record { right = both r.right (eqb (get_or t r.stop 0) lf); pair = r.says }

  pub units_read : {k x y z : Field} {v w : Written} {ends : Bool} → k ≡ field_behind Number t at → v ≡ written_in (chain_behind series_form t k.stop) → w ≡ written_in (chain_behind series_form t v.stop) → x ≡ field_behind Number t w.stop → y ≡ field_behind Number t x.stop → z ≡ field_behind Number t y.stop → ends ≡ eqb (get_or t z.stop 0) lf → record { right = both (both k.cell.right (both v.right (both w.right (both x.cell.right (both y.cell.right z.cell.right))))) ends; pair = record { kind = k.cell.number; first = v.series; second = w.series; r1 = x.cell.number; r2 = y.cell.number; units = z.cell.number } } ≡ units_behind t at
  unfolding units_of units_behind formed items_behind item_behind pair_of
  units_read k v w x y z e = rw (e, z, y, x, w, v, k) (rw both_end at (ap units_of (pair_read t at)))

-- A series, a side and lots: by the series.
module _ (t : List ℕ) where
  abbrev two : List Asked
  two = Mark ∷ Number ∷ []

  lots_of : Chain → LotsLine
  lots_of c = lots_said (both c.right (eqb (get_or t c.stop 0) lf)) c.cells

  abbrev lots_from : Written → LotsLine
  lots_from w =
      let m = field_behind Mark t w.stop in
      let n = field_behind Number t m.stop in
      record {
        right = both (both (both w.right (both m.cell.right (both n.cell.right true))) (eqb (get_or t n.stop 0) lf)) (is_side m.cell.number);
        series = w.series;
        side = side_of m.cell.number;
        lots = n.cell.number;
      }

  lots_four : (r : Bool) (c d m k : Cell) (stop : ℕ) → lots_from (record { right = r; series = series_of c d m k; stop = stop }) ≡ lots_of (joined (record { right = r; cells = c ∷ d ∷ m ∷ k ∷ []; stop = stop }) (chain_behind two t stop))
  unfolding lots_of lots_said chain_behind
  lots_four r c d m k stop = refl

  lots_chain : (at : ℕ) → lots_from (written_in (chain_behind series_form t at)) ≡ lots_behind t at
  unfolding lots_of lots_behind formed lots_form series_form written_in chain_behind
  lots_chain at =
      lots_four (chain_behind series_form t at).right _ _ _ _ (chain_behind series_form t at).stop
      ∙ ap lots_of (sym (chain_more series_form two t at))

  pub lots_read : (at : ℕ) {w : Written} {m n : Field} {ends is : Bool} {s : Side} → w ≡ written_in (chain_behind series_form t at) → m ≡ field_behind Mark t w.stop → n ≡ field_behind Number t m.stop → ends ≡ eqb (get_or t n.stop 0) lf → is ≡ is_side m.cell.number → s ≡ side_of m.cell.number → record { right = both (both (both w.right (both m.cell.right n.cell.right)) ends) is; series = w.series; side = s; lots = n.cell.number } ≡ lots_behind t at
  lots_read at w m n e i s = rw (i, s, e, n, m, w) (rw both_end at (lots_chain at))
