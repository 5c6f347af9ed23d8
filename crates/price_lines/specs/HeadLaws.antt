-- What is known where a head is right and where figures are taken behind it: the line before is an option's Q line,
-- and the next one has its code and its date, and comes after it (document 01, "Text": "`Q SERIES price`", "each
-- strictly ascending").
use Rattle.std.specs.Prelude.{◌≡◌, refl, ◌⊎◌, true, List, ℕ, ◌+◌, ◌*◌, ◌<◌, ◌≤◌, eqb, get_or, length}
use Rattle.std.proofs.Common.{sym, ◌∙◌, inl, inr, ⊎_elim, arith, add-zero, eqb-true, leb-true}
use Rattle.std.proofs.Math.Path.{subst}
use Rattle.laws.specs.Truth.{both, within}
use Rattle.laws.specs.TruthLaws.{clash, both_true, either_true, within_true, picked}
use Rattle.laws.specs.ByteLaws.{are_same}
use Rattle.laws.specs.Order.{join}
use Rattle.dates.specs.Calendar.{is_day}
use Rattle.codes.specs.Codes.{product_of, is_option_class}
use Rattle.series.specs.declared.Nature.{Nature}
use Rattle.series.specs.declared.Nature.TheVariants.{Future, Call, Put}
use Rattle.series.specs.Key.{nature_key}
use Rattle.lines.specs.declared.Asked.TheVariants.{Date, Code}
use Rattle.lines.specs.declared.Cell.{Cell}
use Rattle.lines.specs.Pieces.{tab, lf}
use Rattle.lines.specs.Fields.{nature_of}
use Rattle.sheet_lines.specs.Lines.{cell, figure}
use Rattle.price_lines.specs.Heads.{Head, Figures, code_at, date_at, strike_at, price_at, parted_at, headed, head_right, head_at, figured, figures_at, follows, next_figures}
use Rattle.price_lines.specs.TestLaws.{inside_is, Heading, heading, Figured, figures, Following, following}
use Rattle.price_lines.specs.SameLaws.{Agree, same_told, agree_part, agree_joined, same_field}

-- The line that begins at `at` is the Q line of an option with this code and date, each behind a tab.
pub record HeadIs (t : List ℕ) (at last : ℕ) (code : List ℕ) (date : ℕ) : Type 0 where
  pub letter_is : last ≡ 81
  pub inside : at + 17 ≤ length t
  pub parted : parted_at t at ≡ true
  pub code_right : (code_at t at).cell.right ≡ true
  pub code_stop : (code_at t at).stop ≡ at + 5
  pub code_is : (code_at t at).cell.code ≡ code
  pub date_right : (date_at t at).cell.right ≡ true
  pub date_stop : (date_at t at).stop ≡ at + 14
  pub date_is : (date_at t at).cell.number ≡ date
  pub option_is : is_option_class (product_of code).class ≡ true
  pub day_is : is_day date ≡ true

-- Behind the head stand a mark, C or P, a strike and a price in their ranges, and the LF at `stop`.
pub record FiguresIs (t : List ℕ) (at mark strike price stop : ℕ) : Type 0 where
  pub mark_is : get_or t (at + 15) 0 ≡ mark
  pub marked : (mark ≡ 67) ⊎ (mark ≡ 80)
  pub tab_16 : get_or t (at + 16) 0 ≡ tab
  pub strike_right : (strike_at t at).cell.right ≡ true
  pub strike_is : (strike_at t at).cell.number ≡ strike
  pub strike_fits_lem : within 1 100000000 strike ≡ true
  pub strike_tab : get_or t (strike_at t at).stop 0 ≡ tab
  pub price_right : (price_at t at).cell.right ≡ true
  pub price_is : (price_at t at).cell.number ≡ price
  pub price_fits : price ≤ 100000000
  pub stop_is : (price_at t at).stop ≡ stop
  pub ends : get_or t stop 0 ≡ lf

-- The line that begins at `at` begins as the one at `head` does, and its figures come after this mark and strike.
pub record NextIs (t : List ℕ) (head at mark strike newMark newStrike price stop : ℕ) : Type 0 where
  pub same : Agree t head at 15
  pub inside : at + 17 ≤ length t
  pub figures : FiguresIs t at newMark newStrike price stop
  pub after : nature_key (nature_of mark strike) < nature_key (nature_of newMark newStrike)

-- Where a head is right, the line has it.
head_told : (letter : ℕ) (t : List ℕ) (at : ℕ) (cells : List Cell) → Heading letter t at cells → HeadIs t at letter (cell cells 0).code (figure cells 1)
unfolding headed
head_told letter t at cells s =
    let all = both_true _ _ s.told in
    let read = both_true _ _ all.0 in
    let right = both_true _ _ read.0 in
    let placed = both_true _ _ read.1 in
    let said = both_true _ _ all.1 in
    let same = both_true _ _ said.0 in
    let fits = both_true _ _ said.1 in
    let code = are_same _ _ same.0 in
    let date = eqb-true _ _ same.1 in
    record {
      letter_is = s.letter_is;
      inside = inside_is t at s.inside;
      parted = s.parted;
      code_right = right.0;
      code_stop = eqb-true _ _ placed.0;
      code_is = code;
      date_right = right.1;
      date_stop = eqb-true _ _ placed.1;
      date_is = date;
      option_is = subst (λ (c : List ℕ). is_option_class (product_of c).class ≡ true) code fits.0;
      day_is = subst (λ (d : ℕ). is_day d ≡ true) date fits.1;
    }

module _ (letter : ℕ) (t : List ℕ) (at : ℕ) (cells : List Cell) where
  abbrev Told : Head → Type 0
  Told h = h.right ≡ true → HeadIs t h.at letter (cell cells 0).code (figure cells 1)

  head_right_lem : Told (head_at letter t at cells)
  unfolding head_at
  head_right_lem = picked Told (head_right letter t at cells) _ _ (λ e r. head_told letter t at cells (heading letter t at cells e)) (λ e r. absurd (clash r refl))

pub head_is : (letter : ℕ) (t : List ℕ) (at : ℕ) (cells : List Cell) {h : Head} → h ≡ head_at letter t at cells → h.right ≡ true → HeadIs t h.at letter (cell cells 0).code (figure cells 1)
head_is letter t at cells is = subst (Told letter t at cells) (sym is) (head_right_lem letter t at cells)

-- Where figures are right, the line has them.
figures_told : (t : List ℕ) (at : ℕ) → Figured t at → FiguresIs t at (get_or t (at + 15) 0) (strike_at t at).cell.number (price_at t at).cell.number (price_at t at).stop
figures_told t at s =
    let strike = both_true _ _ s.strike_right in
    let price = both_true _ _ s.price_right in
    record {
      mark_is = refl;
      marked = ⊎_elim (λ c. inl (eqb-true _ 67 c)) (λ p. inr (eqb-true _ 80 p)) (either_true _ _ s.marked);
      tab_16 = s.tab_16;
      strike_right = strike.0;
      strike_is = refl;
      strike_fits_lem = strike.1;
      strike_tab = s.strike_tab;
      price_right = price.0;
      price_is = refl;
      price_fits = leb-true _ _ price.1;
      stop_is = refl;
      ends = s.ends;
    }

figures_right : (t : List ℕ) (at : ℕ) → (figures_at t at).right ≡ true → FiguresIs t at (figures_at t at).mark (figures_at t at).strike (figures_at t at).price (figures_at t at).stop
unfolding figures_at
figures_right t at =
    picked (λ (f : Figures). f.right ≡ true → FiguresIs t at f.mark f.strike f.price f.stop) (figured t at) _ _ (λ e r. figures_told t at (figures t at e)) (λ e r. absurd (clash r refl))

-- Marks in the order of their letters, then strikes: so natures.
by_mark : (P : Nature → Type 0) (mark strike : ℕ) → (mark ≡ 67 → P (Call strike)) → (mark ≡ 80 → P (Put strike)) → (mark ≡ 70 → P Future) → P (Call 0) → P (nature_of mark strike)
unfolding nature_of
by_mark P mark strike call put future none =
    picked P (eqb mark 67) _ _ (λ e. call (eqb-true mark 67 e))
    (λ no_call. picked P (eqb mark 80) _ _ (λ e. put (eqb-true mark 80 e))
    (λ no-put. picked P (both (eqb mark 70) (eqb strike 0)) _ _ (λ e. future (eqb-true mark 70 (both_true (eqb mark 70) _ e).0)) (λ e. none)))

module _ (mark strike newMark newStrike : ℕ) (some : 1 ≤ newStrike) (after : mark * 4294967296 + strike < newMark * 4294967296 + newStrike) where
  after_nature : (newMark ≡ 67) ⊎ (newMark ≡ 80) → nature_key (nature_of mark strike) < nature_key (nature_of newMark newStrike)
  unfolding nature_key nature_of join
  after_nature (inl e) =
      subst (λ (m : ℕ). nature_key (nature_of mark strike) < nature_key (nature_of m newStrike)) (sym e)
      (by_mark (λ (n : Nature). nature_key n < 67 * 4294967296 + newStrike) mark strike (λ m. omega arith) (λ m. omega arith) (λ m. omega arith) (omega arith))
  after_nature (inr e) =
      subst (λ (m : ℕ). nature_key (nature_of mark strike) < nature_key (nature_of m newStrike)) (sym e)
      (by_mark (λ (n : Nature). nature_key n < 80 * 4294967296 + newStrike) mark strike (λ m. omega arith) (λ m. omega arith) (λ m. omega arith) (omega arith))

-- Where figures are taken behind a head, that head is right, and the line begins as its line does and comes after it.
module _ (t : List ℕ) (head : Head) (at mark strike : ℕ) where
  abbrev Taken : Figures → Type 0
  Taken f = f.right ≡ true → (head.right ≡ true) × NextIs t head.at at mark strike f.mark f.strike f.price f.stop

  next_told : Following t head at mark strike → Taken (figures_at t at)
  next_told s r =
      let f = figures_right t at r in
      let same = both_true _ _ s.same in (
        s.right,
        record {
          same = agree_joined (same_told 8 same.0) (same_told 8 same.1);
          inside = inside_is t at s.inside;
          figures = f;
          after = after_nature _ _ _ _ (within_true 1 100000000 (figures_at t at).strike f.strike_fits_lem).0 s.after f.marked;
        },
      )

  next_right : Taken (next_figures t head at mark strike)
  unfolding next_figures
  next_right = picked Taken (follows t head at mark strike) _ _ (λ e. next_told (following t head at mark strike e)) (λ e r. absurd (clash r refl))

pub next_is : (t : List ℕ) (head : Head) (at mark strike : ℕ) {f : Figures} → f ≡ next_figures t head at mark strike → f.right ≡ true
    → (head.right ≡ true) × NextIs t head.at at mark strike f.mark f.strike f.price f.stop
next_is t head at mark strike is = subst (Taken t head at mark strike) (sym is) (next_right t head at mark strike)

-- A line with the bytes of a head has that head.
parted_there : {t : List ℕ} {a b : ℕ} → Agree t a b 15 → parted_at t a ≡ true → parted_at t b ≡ true
unfolding parted_at
parted_there {t} {a} {b} s e =
    let first : get_or t a 0 ≡ get_or t b 0 = rw (add-zero a, add-zero b) at (s.each 0 (omega arith)) in
    rw (first, s.each 1 (omega arith), s.each 5 (omega arith), s.each 14 (omega arith)) at e

pub head_moves : {t : List ℕ} {a b last : ℕ} {code : List ℕ} {date : ℕ} → HeadIs t a last code date → Agree t a b 15 → b + 17 ≤ length t → HeadIs t b last code date
head_moves {t} {a} {b} h s inside =
    let c = same_field Code 3 (agree_part s 2 4 (omega arith)) (omega arith) h.code_right (h.code_stop ∙ omega arith) in
    let d = same_field Date 8 (agree_part s 6 9 (omega arith)) (omega arith) h.date_right (h.date_stop ∙ omega arith) in
    record {
      letter_is = h.letter_is;
      inside = inside;
      parted = parted_there s h.parted;
      code_right = rw c h.code_right;
      code_stop = rw c (omega arith);
      code_is = rw c h.code_is;
      date_right = rw d h.date_right;
      date_stop = rw d (omega arith);
      date_is = rw d h.date_is;
      option_is = h.option_is;
      day_is = h.day_is;
    }
