-- The loop takes a Q line at once: a line with the head of the line before it and figures that come after that line's
-- has the form, says its row, and passes its checks (document 01, "Text": "`Q SERIES price`", "each strictly
-- ascending").
use Rattle.std.specs.Prelude.{◌≡◌, true, List, ℕ, ◌+◌, ◌<◌, ◌≤◌, length, set}
use Rattle.std.proofs.Math.Path.{refl}
use Rattle.std.proofs.Common.{sym, subst, ◌∙◌, arith, length-set}
use Rattle.std.proofs.Math.Bool.{false}
use Rattle.std.proofs.Math.ListN.{get_or}
use Rattle.laws.specs.TruthLaws.{clash}
use Rattle.laws.specs.Bytes.{same_bytes}
use Rattle.series.specs.Key.{nature_key}
use Rattle.lines.specs.declared.Asked.{Asked}
use Rattle.lines.specs.declared.Asked.TheVariants.{Nothing, Number, Date, Code, Mark}
use Rattle.lines.specs.declared.Cell.{Cell}
use Rattle.lines.specs.Pieces.{tab, lf, stops}
use Rattle.lines.specs.Fields.{field_at, nature_of}
use Rattle.lines.specs.StopLaws.{tab_stops}
use Rattle.sheets.specs.declared.Sheet.{Sheet}
use Rattle.sheet_lines.specs.Lines.{head_form, future_form, option_form, stock_form, price_form, cell, figure, letter_in}
use Rattle.sheet_lines.specs.Facts.{asked_table, place_for, fields_for, number_for}
use Rattle.price_lines.specs.Heads.{Head, Figures, filled, strike_at, price_at, head_at, next_figures}
use Rattle.price_lines.specs.SameLaws.{one_stop, one_text}
use Rattle.price_lines.specs.HeadLaws.{HeadIs, FiguresIs, head_is, next_is, head_moves}
use Rattle.price_lines.specs.FigureLaws.{with_figures, cells_at, code_stays, date_stays, bytes_are, mark_read, cells_say, number_0}
use Rattle.checking.specs.StepLaws.{AtLine, SaidRow, InRow, row_begins, in_row_on, row_said}

-- One field of a Q line more.
quote_on : {t : List ℕ} {sheet : Sheet} {last : ℕ} {before : List Cell} {line at first : ℕ} {cells : List Cell} {k stop : ℕ} → InRow t sheet last before line at first 81 cells k stop
    → (asked : Asked) (from : ℕ) → get_or asked_table (28 + k) Nothing ≡ asked → get_or t stop 0 ≡ tab → from ≡ stop + 1 → (field_at asked t from).cell.right ≡ true
    → InRow t sheet last before line at first 81 (set cells k (field_at asked t from).cell) (k + 1) (field_at asked t from).stop
unfolding place_for
quote_on {t} {k = k} a asked from Asked-is is-tab from_is right = in_row_on a {place = 28} refl refl is-tab {f = field_at asked t from} (rw (Asked-is, from_is)) (rw right)

-- The line that begins at `at` has the head of the line before it, and these figures.
module _ {t : List ℕ} {sheet : Sheet} {last : ℕ} {before : List Cell} {line at : ℕ} (a : AtLine t sheet last before line at) (some : at ≡ length t → ⊥) (room : line + 1 ≤ 1024) (long : length before ≡ 12)
    {mark strike p stop : ℕ} (h : HeadIs t at last (cell before 0).code (figure before 1)) (g : FiguresIs t at mark strike p stop) where
  letter_read : InRow t sheet last before (line + 1) at (at + 1) 81 before 0 (at + 1)
  unfolding letter_in same_bytes
  letter_read =
      let i = h.inside in
      let b = bytes_are h in
      let goes_on : stops (get_or t at 0) ≡ false = rw b.0 in
      let ends = tab_stops b.1.0 in
      row_begins a some room (one_stop t at (omega arith) goes_on ends) (λ e. omega arith) before (rw (one_text t at (omega arith) goes_on ends, b.0)) long

  fields_read : InRow t sheet last before (line + 1) at (at + 1) 81 (cells_at t at before) 5 (price_at t at).stop
  unfolding asked_table head_form future_form option_form stock_form price_form
  fields_read =
      let b = bytes_are h in
      let m = mark_read h g in
      let one = quote_on letter_read Code (at + 2) refl b.1.0 (omega arith) h.code_right in
      let two = quote_on one Date (at + 6) refl (rw h.code_stop b.1.1.0) (rw h.code_stop (omega arith)) h.date_right in
      let three = quote_on two Mark (at + 15) refl (rw h.date_stop b.1.1.1) (rw h.date_stop (omega arith)) (rw m) in
      let four = quote_on three Number (at + 17) refl (rw m g.tab_16) (rw m (omega arith)) g.strike_right in
      quote_on four Number ((strike_at t at).stop + 1) refl g.strike_tab refl g.price_right

  all_said : SaidRow t sheet last before (line + 1) at (price_at t at).stop 81 (cells_at t at before) (number_for 81 (cells_at t at before) last before)
  unfolding fields_for
  all_said = row_said fields_read (λ e. let z : get_or t (price_at t at).stop 0 ≡ lf = rw g.stop_is g.ends in omega arith) {fields = 5} refl refl refl

  -- So it says the cells of the line before it with its own figures, and passes its checks where these come after
  -- that line's.
  next_row : nature_key (nature_of (figure before 2) (figure before 3)) < nature_key (nature_of mark strike) → {c2 c3 c4 : Cell} → c2 ≡ filled mark → c3 ≡ filled strike → c4 ≡ filled p → SaidRow t sheet last before (line + 1) at stop last (with_figures before c2 c3 c4) 0
  next_row after {c2} {c3} {c4} mark_is strike_is price_is =
      subst (λ (l : ℕ). SaidRow t sheet last before (line + 1) at stop l (with_figures before c2 c3 c4) 0) (sym h.letter_is)
      (subst (λ (e : ℕ). SaidRow t sheet last before (line + 1) at e 81 (with_figures before c2 c3 c4) 0) g.stop_is
      (record {
        row = all_said.row;
        at_row = all_said.at_row;
        says = all_said.says ∙ cells_say before long h g mark_is strike_is price_is;
        known = all_said.known;
        number_is = number_0 before long h g mark_is strike_is price_is after;
      }))

-- What is known of the head that goes along: where it is right, the line before had that head.
pub record Headed (t : List ℕ) (head : Head) (last : ℕ) (before : List Cell) : Type 0 where
  pub long : length before ≡ 12
  pub told : head.right ≡ true → HeadIs t head.at last (cell before 0).code (figure before 1)

pub no_head_lem : (t : List ℕ) (at last : ℕ) (before : List Cell) → length before ≡ 12 → Headed t (record { right = false; at = at }) last before
no_head_lem t at last before long = record { long = long; told = λ r. absurd (clash r refl) }

pub new_head : {t : List ℕ} {head : Head} {letter : ℕ} (at : ℕ) {cells : List Cell} → head ≡ head_at letter t at cells → length cells ≡ 12 → Headed t head letter cells
new_head at is long = record { long = long; told = head_is _ _ at _ is }

module _ {t : List ℕ} {head : Head} {last : ℕ} {before : List Cell} (w : Headed t head last before) where
  -- A line with its head has it too.
  pub head_stays : (mark strike p : Cell) → Headed t head last (with_figures before mark strike p)
  head_stays mark strike p =
      record { long = simp length-set w.long; told = λ r. rw (code_stays before w.long mark strike p, date_stays before w.long mark strike p) (w.told r) }

  -- The next figures are taken behind it: the line's letter, and the row that they say.
  module _ (at : ℕ) {f : Figures} (is : f ≡ next_figures t head at (figure before 2) (figure before 3)) (taken : f.right ≡ true) where
    pub figures_letter : last ≡ 81
    figures_letter = (w.told (next_is t head at _ _ is taken).0).letter_is

    pub figures_row : {sheet : Sheet} {line : ℕ} → AtLine t sheet last before line at → (at ≡ length t → ⊥) → line + 1 ≤ 1024 → {c2 c3 c4 : Cell} → c2 ≡ filled f.mark → c3 ≡ filled f.strike → c4 ≡ filled f.price → SaidRow t sheet last before (line + 1) at f.stop last (with_figures before c2 c3 c4) 0
    figures_row a some room = let n = next_is t head at _ _ is taken in next_row a some room w.long (head_moves (w.told n.0) n.1.same n.1.inside) n.1.figures n.1.after
