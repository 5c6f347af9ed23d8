-- What a Q line with a head and figures says, and that it passes its checks behind the line whose head it is
-- (document 01, "Text": "`Q SERIES price`", "each strictly ascending").
use Rattle.std.specs.Prelude.{◌≡◌, refl, ◌⊎◌, true, false, ℕ, ◌+◌, ◌<◌, get_or, length, set}
use Rattle.std.proofs.Common.{sym, ◌∙◌, inl, inr, arith}
use mathlib.Core.List.{List, [], ◌∷◌}
use borrow.Author.Tests.{le-leb, ne_eqb, eqb-true}
use Rattle.laws.specs.Truth.{within}
use Rattle.laws.specs.TruthLaws.{both_true, both_hold}
use Rattle.laws.specs.Checks.{first_failing}
use Rattle.laws.specs.Order.{is_less, bytes_order, join}
use Rattle.laws.specs.OrderLaws.{is_less_lem, is_same_lem}
use Rattle.codes.specs.declared.Class.{Class}
use Rattle.codes.specs.Codes.{product_of, is_option_class}
use Rattle.series.specs.declared.Nature.{Nature}
use Rattle.series.specs.Checks.{suits, class_of}
use Rattle.series.specs.Key.{nature_key, high_key, key}
use Rattle.lines.specs.declared.Asked.TheVariants.{Mark}
use Rattle.lines.specs.declared.Cell.{Cell}
use Rattle.lines.specs.Pieces.{tab, stops}
use Rattle.lines.specs.Fields.{number_field, field_at, nature_of, series_of}
use Rattle.lines.specs.StopLaws.{tab_stops}
use Rattle.sheets.specs.declared.PriceRow.{PriceRow}
use Rattle.sheet_lines.specs.Lines.{price, cell, figure, price_from, said, rank, own_checks}
use Rattle.sheet_lines.specs.Facts.{number_for}
use Rattle.sheet_lines.specs.NumberLaws.{number_is}
use Rattle.price_lines.specs.Heads.{parted_at, filled, code_at, date_at, strike_at, price_at}
use Rattle.price_lines.specs.SameLaws.{one_mark}
use Rattle.price_lines.specs.HeadLaws.{HeadIs, FiguresIs}

-- the row of a Q line
abbrev quoted : List ℕ → ℕ → ℕ → ℕ → ℕ → PriceRow
quoted code date mark strike p = record { series = record { code = code; date = date; nature = nature_of mark strike }; price = p }

-- Twelve cells have a first five.
by_five : (P : List Cell → Type 0) (cs : List Cell) → length cs ≡ 12 → ((a b c d e : Cell) (rest : List Cell) → P (a ∷ b ∷ c ∷ d ∷ e ∷ rest)) → P cs
by_five P [] l h = absurd (omega arith)
by_five P (a ∷ []) l h = absurd (omega arith)
by_five P (a ∷ b ∷ []) l h = absurd (omega arith)
by_five P (a ∷ b ∷ c ∷ []) l h = absurd (omega arith)
by_five P (a ∷ b ∷ c ∷ d ∷ []) l h = absurd (omega arith)
by_five P (a ∷ b ∷ c ∷ d ∷ e ∷ rest) l h = h a b c d e rest

-- the cells of a line with another mark, strike and price
abbrev pub with_figures : List Cell → Cell → Cell → Cell → List Cell
with_figures cs mark strike p = set (set (set cs 2 mark) 3 strike) 4 p

module _ (cs : List Cell) (long : length cs ≡ 12) (mark strike p : Cell) where
  all_cells : (code date : Cell) → said 81 (with_figures (set (set cs 0 code) 1 date) mark strike p) ≡ price (quoted code.code date.number mark.number strike.number p.number)
  unfolding said price_from series_of
  all_cells code date = by_five (λ (l : List Cell). said 81 (with_figures (set (set l 0 code) 1 date) mark strike p) ≡ price (quoted code.code date.number mark.number strike.number p.number)) cs long (λ a b c d e rest. refl)

  three_cells : said 81 (with_figures cs mark strike p) ≡ price (quoted (cell cs 0).code (figure cs 1) mark.number strike.number p.number)
  unfolding said price_from series_of
  three_cells = by_five (λ (l : List Cell). said 81 (with_figures l mark strike p) ≡ price (quoted (cell l 0).code (figure l 1) mark.number strike.number p.number)) cs long (λ a b c d e rest. refl)

  pub code_stays : (cell (with_figures cs mark strike p) 0).code ≡ (cell cs 0).code
  code_stays = by_five (λ (l : List Cell). (cell (with_figures l mark strike p) 0).code ≡ (cell l 0).code) cs long (λ a b c d e rest. refl)

  pub date_stays : figure (with_figures cs mark strike p) 1 ≡ figure cs 1
  date_stays = by_five (λ (l : List Cell). figure (with_figures l mark strike p) 1 ≡ figure l 1) cs long (λ a b c d e rest. refl)

-- A row after another of its code and date whose nature is before.
series_after : (code : List ℕ) (date : ℕ) (m n : Nature) → nature_key m < nature_key n → key (record { code = code; date = date; nature = m }) < key (record { code = code; date = date; nature = n })
unfolding key high_key join
series_after code date m n lt = omega arith

quoted_after : (code : List ℕ) (date mark strike p newMark newStrike q : ℕ) → nature_key (nature_of mark strike) < nature_key (nature_of newMark newStrike) → is_less (bytes_order (rank (price (quoted code date mark strike p))) (rank (price (quoted code date newMark newStrike q)))) ≡ true
unfolding rank bytes_order
quoted_after code date mark strike p newMark newStrike q lt =
    rw (sym (is_same_lem {m = 5} refl), sym (is_less_lem (series_after code date (nature_of mark strike) (nature_of newMark newStrike) lt)))

-- The row of a head and its figures passes its checks.
option_suits : (class : Class) (mark strike : ℕ) → is_option_class class ≡ true → within 1 100000000 strike ≡ true → (mark ≡ 67) ⊎ (mark ≡ 80) → suits class (nature_of mark strike) ≡ true
unfolding nature_of
option_suits class mark strike o fits (inl e) = rw e (both_hold o fits)
option_suits class mark strike o fits (inr e) = rw e (both_hold o fits)

quoted_passes : {t : List ℕ} {at last : ℕ} {code : List ℕ} {date mark strike p stop : ℕ} → HeadIs t at last code date → FiguresIs t at mark strike p stop → first_failing (own_checks (price (quoted code date mark strike p))) ≡ 0
unfolding own_checks class_of first_failing
quoted_passes {code = code} {mark = mark} {strike = strike} {p = p} h g =
    rw (h.option_is, h.day_is, option_suits (product_of code).class mark strike h.option_is g.strike_fits_lem g.marked, le-leb p 100000000 g.price_fits)

-- A line that is not the first has the number 0 where its own checks pass and it comes after the line before it.
zero_number : (letter : ℕ) (cs : List Cell) (last : ℕ) (before : List Cell) → (last ≡ 0 → ⊥) → first_failing (own_checks (said letter cs)) ≡ 0 → is_less (bytes_order (rank (said last before)) (rank (said letter cs))) ≡ true → 0 ≡ number_for letter cs last before
zero_number letter cs last before some own after = rw (ne_eqb last 0 some, own, after) at (number_is letter cs last before)

-- the cells of the Q line that begins at `at`, over others
abbrev pub cells_at : List ℕ → ℕ → List Cell → List Cell
cells_at t at cs = with_figures (set (set cs 0 (code_at t at).cell) 1 (date_at t at).cell) (field_at Mark t (at + 15)).cell (strike_at t at).cell (price_at t at).cell

-- The line that begins at `at` has this head.
module _ {t : List ℕ} {at last : ℕ} {code : List ℕ} {date : ℕ} (h : HeadIs t at last code date) where
  pub bytes_are : (get_or t at 0 ≡ 81) × ((get_or t (at + 1) 0 ≡ tab) × ((get_or t (at + 5) 0 ≡ tab) × (get_or t (at + 14) 0 ≡ tab)))
  unfolding parted_at
  bytes_are =
      let e = both_true _ _ h.parted in
      let f = both_true _ _ e.0 in
      let k = both_true _ _ e.1 in
      (eqb-true _ _ f.0, (eqb-true _ _ f.1, (eqb-true _ _ k.0, eqb-true _ _ k.1)))

  -- And these figures.
  module _ {mark strike p stop : ℕ} (g : FiguresIs t at mark strike p stop) where
    mark_goes : stops (get_or t (at + 15) 0) ≡ false
    mark_goes = go g.marked
      where
        go : (mark ≡ 67) ⊎ (mark ≡ 80) → stops (get_or t (at + 15) 0) ≡ false
        go (inl e) = rw (g.mark_is, e)
        go (inr e) = rw (g.mark_is, e)

    pub mark_read : field_at Mark t (at + 15) ≡ number_field mark (at + 16)
    mark_read =
        let i = h.inside in
        let n : at + 15 + 1 ≡ at + 16 = omega arith in
        rw (g.mark_is, n) at (one_mark t (at + 15) (omega arith) mark_goes (rw n (tab_stops g.tab_16)))

-- It has the head of the line before it, and figures that come after that line's: so it says the cells of that line
-- with its own figures, and passes its checks.
module _ {t : List ℕ} {at last : ℕ} (before : List Cell) (long : length before ≡ 12) (h : HeadIs t at last (cell before 0).code (figure before 1))
    {mark strike p stop : ℕ} (g : FiguresIs t at mark strike p stop) {c2 c3 c4 : Cell} (mark_is : c2 ≡ filled mark) (strike_is : c3 ≡ filled strike) (price_is : c4 ≡ filled p) where
  new_says : said 81 (with_figures before c2 c3 c4) ≡ price (quoted (cell before 0).code (figure before 1) mark strike p)
  new_says = three_cells before long c2 c3 c4 ∙ rw (mark_is, strike_is, price_is)

  old_says : said last before ≡ price (quoted (cell before 0).code (figure before 1) (figure before 2) (figure before 3) (figure before 4))
  unfolding said price_from series_of
  old_says = rw h.letter_is

  pub cells_say : said 81 (cells_at t at before) ≡ said 81 (with_figures before c2 c3 c4)
  cells_say = all_cells before long _ _ _ _ _ ∙ rw (h.code_is, h.date_is, mark_read h g, g.strike_is, g.price_is) (sym new_says)

  pub number_0 : nature_key (nature_of (figure before 2) (figure before 3)) < nature_key (nature_of mark strike) → 0 ≡ number_for 81 (with_figures before c2 c3 c4) last before
  number_0 after =
      zero_number 81 (with_figures before c2 c3 c4) last before (λ z. let l = h.letter_is in omega arith) (rw new_says (quoted_passes h g))
      (rw (new_says, old_says) (quoted_after _ _ _ _ _ _ _ _ after))
