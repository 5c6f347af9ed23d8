-- The tests of the short way, one by one: what holds where all pass, and what is answered where one fails.
use Rattle.std.specs.Prelude.{◌≡◌, true, false, List, ℕ, ◌+◌, ◌*◌, ◌-◌, ◌<◌, ◌≤◌, eqb, leb, get_or, length}
use Rattle.std.proofs.Math.Path.{sym}
use Rattle.std.proofs.Common.{arith}
use borrow.Author.Tests.{eq-eqb, le-leb, lt-leb, lt-ltb, eqb-true, leb-true, ltb-true}
use Rattle.laws.specs.Truth.{both, either, within}
use Rattle.laws.specs.TruthLaws.{both_true, false_unless, same_test}
use Rattle.laws.specs.Text.{byte}
use Rattle.lines.specs.declared.Asked.TheVariants.{Number}
use Rattle.lines.specs.declared.Cell.{Cell}
use Rattle.lines.specs.declared.Field.{Field}
use Rattle.lines.specs.Pieces.{tab, lf}
use Rattle.lines.specs.Fields.{field_at}
use Rattle.price_lines.specs.Heads.{Head, strike_at, price_at, inside_at, parted_at, headed, no_head, head_right, head_at, same_for, figured, no_figures, figures_at, follows, next_figures}

-- Seventeen bytes stand from `at` on.
module _ (t : List ℕ) (at : ℕ) where
  pub inside_is : inside_at t at ≡ true → at + 17 ≤ length t
  unfolding inside_at
  inside_is e = leb-true _ _ e

  pub left_inside : at ≤ length t → leb 17 (length t - at) ≡ inside_at t at
  unfolding inside_at
  left_inside h = same_test _ _ (λ e. le-leb (at + 17) (length t) (let k = leb-true 17 (length t - at) e in omega arith)) (λ e. le-leb 17 (length t - at) (let k = leb-true (at + 17) (length t) e in omega arith))

  pub not_inside : length t < at → false ≡ inside_at t at
  unfolding inside_at
  not_inside h = sym (lt-leb (at + 17) (length t) (omega arith))

-- A head is right.
pub record Heading (letter : ℕ) (t : List ℕ) (at : ℕ) (cells : List Cell) : Type 0 where
  pub letter_is : letter ≡ 81
  pub inside : inside_at t at ≡ true
  pub parted : parted_at t at ≡ true
  pub told : headed t at cells ≡ true

module _ (letter : ℕ) (t : List ℕ) (at : ℕ) (cells : List Cell) where
  pub heading : head_right letter t at cells ≡ true → Heading letter t at cells
  unfolding head_right
  heading e =
      let a = both_true _ _ e in
      let b = both_true _ _ a.1 in
      let c = both_true _ _ b.1 in
      record { letter_is = eqb-true _ _ a.0; inside = b.0; parted = c.0; told = c.1 }

  pub with_head : Heading letter t at cells → record { right = true; at = at } ≡ head_at letter t at cells
  unfolding head_at head_right
  with_head s = rw (eq-eqb _ _ s.letter_is, s.inside, s.parted, s.told)

  pub without_head : (Heading letter t at cells → ⊥) → no_head ≡ head_at letter t at cells
  unfolding head_at
  without_head h = rw (false_unless (head_right letter t at cells) (λ e. h (heading e)))

-- Figures are right.
pub record Figured (t : List ℕ) (at : ℕ) : Type 0 where
  pub marked : either (eqb (get_or t (at + 15) 0) (byte "C")) (eqb (get_or t (at + 15) 0) (byte "P")) ≡ true
  pub tab_16 : get_or t (at + 16) 0 ≡ tab
  pub strike_right : both (strike_at t at).cell.right (within 1 100000000 (strike_at t at).cell.number) ≡ true
  pub strike_tab : get_or t (strike_at t at).stop 0 ≡ tab
  pub price_right : both (price_at t at).cell.right (leb (price_at t at).cell.number 100000000) ≡ true
  pub ends : get_or t (price_at t at).stop 0 ≡ lf

module _ (t : List ℕ) (at : ℕ) where
  pub figures : figured t at ≡ true → Figured t at
  unfolding figured
  figures e =
      let a = both_true _ _ e in
      let b = both_true _ _ a.1 in
      let c = both_true _ _ b.1 in
      let d = both_true _ _ c.1 in
      let f = both_true _ _ d.1 in
      record { marked = a.0; tab_16 = eqb-true _ _ b.0; strike_right = c.0; strike_tab = eqb-true _ _ d.0; price_right = f.0; ends = eqb-true _ _ f.1 }

  all_figures : Figured t at
      → record { right = true; mark = get_or t (at + 15) 0; strike = (strike_at t at).cell.number; price = (price_at t at).cell.number; stop = (price_at t at).stop } ≡ figures_at t at
  unfolding figures_at figured
  all_figures s = rw (s.marked, eq-eqb _ _ s.tab_16, s.strike_right, eq-eqb _ _ s.strike_tab, s.price_right, eq-eqb _ _ s.ends)

  pub with_figures_lem : {f g : Field} → f ≡ strike_at t at → g ≡ field_at Number t (f.stop + 1)
      → either (eqb (get_or t (at + 15) 0) (byte "C")) (eqb (get_or t (at + 15) 0) (byte "P")) ≡ true → get_or t (at + 16) 0 ≡ tab
      → both f.cell.right (within 1 100000000 f.cell.number) ≡ true → get_or t f.stop 0 ≡ tab
      → both g.cell.right (leb g.cell.number 100000000) ≡ true → get_or t g.stop 0 ≡ lf
      → record { right = true; mark = get_or t (at + 15) 0; strike = f.cell.number; price = g.cell.number; stop = g.stop } ≡ figures_at t at
  with_figures_lem f-is g-is marked tab_16 strike_right strike_tab price_right ends =
      let g-at = rw f-is at g-is in
      rw (g-at, f-is)
      (all_figures (record { marked = marked; tab_16 = tab_16; strike_right = rw f-is at strike_right; strike_tab = rw f-is at strike_tab; price_right = rw g-at at price_right; ends = rw g-at at ends }))

  pub without_figures : (Figured t at → ⊥) → no_figures ≡ figures_at t at
  unfolding figures_at
  without_figures h = rw (false_unless (figured t at) (λ e. h (figures e)))

-- Figures are taken behind a head.
pub record Following (t : List ℕ) (head : Head) (at mark strike : ℕ) : Type 0 where
  pub right : head.right ≡ true
  pub behind : head.at ≤ at
  pub inside : inside_at t at ≡ true
  pub same : both (same_for t head.at at 8) (same_for t (head.at + 7) (at + 7) 8) ≡ true
  pub after : mark * 4294967296 + strike < (figures_at t at).mark * 4294967296 + (figures_at t at).strike

module _ (t : List ℕ) (head : Head) (at mark strike : ℕ) where
  pub following : follows t head at mark strike ≡ true → Following t head at mark strike
  unfolding follows
  following e =
      let a = both_true _ _ e in
      let b = both_true _ _ a.0 in
      let c = both_true _ _ b.1 in
      let d = both_true _ _ a.1 in
      record { right = b.0; behind = leb-true _ _ c.0; inside = c.1; same = d.0; after = ltb-true _ _ d.1 }

  pub with_next : Following t head at mark strike → figures_at t at ≡ next_figures t head at mark strike
  unfolding next_figures follows
  with_next s = rw (s.right, le-leb _ _ s.behind, s.inside, s.same, lt-ltb _ _ s.after)

  pub without_next : (Following t head at mark strike → ⊥) → no_figures ≡ next_figures t head at mark strike
  unfolding next_figures
  without_next h = rw (false_unless (follows t head at mark strike) (λ e. h (following e)))
