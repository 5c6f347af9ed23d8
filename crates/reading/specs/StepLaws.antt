-- Laws of the loop over lines: where a line begins, how it is refused, and what the next one finds.
use Rattle.std.specs.Prelude.{◌≡◌, Bool, true, List, ltb, eqb, drop, set}
use Rattle.std.proofs.Math.Path.{refl, sym}
use Rattle.std.proofs.Common.{ap, ◌∙◌, subst, inl, ⊎_elim, drop_of_length-le}
use Prim.Native.Nat.{ℕ, suc, ◌+◌, ◌-◌, ◌*◌, ◌%◌, ◌<◌, ◌≤◌}
use native.Mathlib.Omega.{arith}
use borrow.Author.Tests.{lt-leb, le-leb, eq-eqb, ne_eqb, eqb-true, eqb-false, ltb-true, ltb-false}
use Rattle.std.proofs.Math.ListN.{length, length-drop}
use Rattle.laws.specs.TruthLaws.{by_test, false_unless}
use Rattle.laws.specs.Checks.{first_failing, all_pass}
use Rattle.laws.specs.CheckLaws.{none_fails, no_failure}
use Rattle.series.specs.Key.{high_key, nature_key}
use Rattle.rows.specs.declared.Holding.{Holding}
use Rattle.rows.specs.declared.Book.{Book}
use Rattle.rows.specs.declared.Pair.{Pair}
use Rattle.rows.specs.Book.{held_rows, paired_rows, book_of, empty_book, no_book}
use Rattle.rules.specs.Facts.{Sound, Counts}
use Rattle.rules.specs.RuleLaws.{counts_are, pair_is, holdings_count, pairs_count}
use Rattle.calls.specs.CallLaws.{no_book_sound}
use Rattle.lines.specs.Pieces.{lf, more, split_on, next_of, stop_of}
use Rattle.lines.specs.CutLaws.{next_low, part_more, part_last}
use Rattle.lines.specs.StopLaws.{stop_high, stop_within, line_at}
use Rattle.book_lines.specs.declared.Item.{Item}
use Rattle.book_lines.specs.Lines.{Line, head, holding, pair, formless, book_line, checks_by}
use Rattle.book_lines.specs.Facts.{item, holding_of, pair_of, line_of, number_behind, account_of}
use Rattle.book_lines.specs.LetterLaws.{says_head, says_holding, says_pair}
use Rattle.book_lines.specs.FormLaws.{line_account}
use Rattle.book_lines.specs.TurnLaws.{Formless, Says}
use Rattle.reading.specs.declared.Legs.{Legs}
use Rattle.reading.specs.Reading.{Answer, line_checks, with_line, refused_at, read_as, read_lines, read_book}
use Rattle.reading.specs.Facts.{first_slot, second_slot, legs_at, less_legs}
use Rattle.reading.specs.Next.{NextHolding, NextPair}
use Rattle.reading.specs.PassLaws.{line_numbered, head_passes, head_first, holding_passes, pair_passes}
use Rattle.reading.specs.KeepLaws.{line_keeps}
use Rattle.reading.specs.StateLaws.{Along, along_empty, Lasts, number_told, headed, head_book_is, holding_book_is, holding_last, holding_along, pair_book_is, pair_last, pair_along}

-- what comes of the text t
abbrev pub answer_of : List ℕ → Answer
answer_of t = read_lines 0 no_book (split_on lf t)

-- The loop is at the place `at` behind so many lines, which say the book b.
pub record AtLine (t : List ℕ) (b : Book) (highs lows free : List ℕ) (line at : ℕ) : Type 0 where
  pub along : Along b highs lows free
  pub fresh : line ≡ 0 → b ≡ no_book
  pub low : at ≤ length t
  pub few : line ≤ at
  pub goes : read_lines line b (split_on lf (drop at t)) ≡ answer_of t

pub lines_start : (t highs lows free : List ℕ) {b : Book} → b ≡ no_book → length highs ≡ 128 → length lows ≡ 128 → length free ≡ 256 → AtLine t b highs lows free 0 0
unfolding no_book empty_book book_of
lines_start t highs lows free is h l f =
    subst (λ (b : Book). AtLine t b highs lows free 0 0) (sym is)
    (record { along = along_empty no_book highs lows free no_book_sound refl refl h l f; fresh = λ z. refl; low = omega arith; few = omega arith; goes = refl })

-- The loop is in a line, which begins at `at`.
pub record InText (t : List ℕ) (b : Book) (highs lows free : List ℕ) (line at : ℕ) : Type 0 where
  pub along : Along b highs lows free
  pub fresh : line ≡ 1 → b ≡ no_book
  pub low : at < length t
  pub some : 1 ≤ line
  pub few : line ≤ at + 1
  pub goes : read_lines (line - 1) b (split_on lf (drop at t)) ≡ answer_of t

-- It is at the end of a line, of which the row is all but its LF.
pub record AtRow (t : List ℕ) (b : Book) (highs lows free : List ℕ) (line at end : ℕ) (row : List ℕ) : Type 0 where
  pub along : Along b highs lows free
  pub fresh : line ≡ 1 → b ≡ no_book
  pub begins : at ≤ end
  pub low : end < length t
  pub some : 1 ≤ line
  pub few : line ≤ end + 1
  pub goes : read_lines (line - 1) b (more row (split_on lf (drop (end + 1) t))) ≡ answer_of t

module _ {t : List ℕ} {b : Book} {highs lows free : List ℕ} {line at : ℕ} (a : AtLine t b highs lows free line at) where
  -- The text has ended.
  pub lines_end : at ≡ length t → read_as b ≡ answer_of t
  unfolding read_lines split_on
  lines_end e = let le : length t ≤ at = omega arith in rw (drop_of_length-le t le) at a.goes

  -- Another line begins.
  line_opens : (at ≡ length t → ⊥) → InText t b highs lows free (line + 1) at
  line_opens some =
      let low = a.low in
      let few = a.few in
      let own : line + 1 - 1 ≡ line = omega arith in
      record { along = a.along; fresh = λ z. a.fresh (omega arith); low = omega arith; some = omega arith; few = omega arith; goes = rw own a.goes }

module _ {t : List ℕ} {b : Book} {highs lows free : List ℕ} {line at : ℕ} (a : InText t b highs lows free line at) where
  -- It has no LF.
  line_unended : length t ≤ next_of t at lf → refused_at 1 line ≡ answer_of t
  unfolding read_lines
  line_unended e =
      let low = a.low in
      let some = a.some in
      let l = length-drop at t in
      let n : suc (line - 1) ≡ line = omega arith in
      rw (part_last t at lf refl (omega arith) e, ne_eqb (length (drop at t)) 0 (λ z. omega arith), n) at a.goes

  row_ends : {end : ℕ} → end ≡ next_of t at lf → end < length t → AtRow t b highs lows free line at end (line_at t at)
  unfolding line_at
  row_ends {end} is lt =
      let low = a.low in
      let first = next_low t at lf in
      let few = a.few in
      record { along = a.along; fresh = a.fresh; begins = omega arith; low = lt; some = a.some; few = omega arith; goes = rw (sym is, sym (part_more t at lf is (omega arith) lt)) a.goes }

-- The first line, and any other.
first_is : (line : ℕ) → 1 ≤ line → eqb line 1 ≡ eqb (line - 1) 0
first_is line some =
    by_test (λ (t : Bool). eqb line 1 ≡ t → t ≡ eqb (line - 1) 0) (eqb line 1)
    (λ q e. let is = eqb-true line 1 e in sym (eq-eqb (line - 1) 0 (omega arith)))
    (λ q e. let n = eqb-false line 1 e in sym (ne_eqb (line - 1) 0 (λ z. n (omega arith))))
    refl

module _ {t : List ℕ} {b : Book} {highs lows free : List ℕ} {line at end : ℕ} {row : List ℕ} (a : AtRow t b highs lows free line at end row) where
  -- A row whose checks fail.
  row_refused : {number : ℕ} (x : Line) → book_line row ≡ x → first_failing (line_checks (eqb (line - 1) 0) b x) ≡ number → (number ≡ 0 → ⊥) → refused_at number line ≡ answer_of t
  unfolding read_lines
  row_refused x says e n =
      let fails = false_unless (all_pass (line_checks (eqb (line - 1) 0) b x)) (λ p. n (sym e ∙ none_fails _ p)) in
      let some = a.some in
      let n : suc (line - 1) ≡ line = omega arith in
      rw (says, fails, e, n) at a.goes

  row_formless : book_line row ≡ formless → refused_at 1 line ≡ answer_of t
  unfolding line_checks checks_by first_failing
  row_formless says = row_refused formless says refl (λ z. omega arith)

-- A line of the form, which letter and items say.
pub record SaidRow (t : List ℕ) (b : Book) (highs lows free : List ℕ) (line at end letter : ℕ) (items : List Item) : Type 0 where
  pub at_row : AtRow t b highs lows free line at end (line_at t at)
  pub says : book_line (line_at t at) ≡ line_of letter items

module _ {t : List ℕ} {b : Book} {highs lows free : List ℕ} {line at : ℕ} (a : AtLine t b highs lows free line at) (some : at ≡ length t → ⊥) where
  -- Its letter ends inside the text, or the text does.
  module _ {stop : ℕ} (is : stop ≡ stop_of t at) where
    pub letter_high : stop ≤ length t
    letter_high = let h = stop_high t at a.low in omega arith

    pub letter_inside : (stop ≡ length t → ⊥) → stop < length t
    letter_inside n = let h = letter_high in omega arith

    pub letter_unended : stop ≡ length t → Formless t at
    letter_unended e = inl (let w = stop_within t at {from = at} (omega arith) (next_low t at lf) in omega arith)

  -- A line that has not the form.
  pub formless_refused : Formless t at → refused_at 1 (line + 1) ≡ answer_of t
  formless_refused =
      ⊎_elim (line_unended (line_opens a some))
      (λ says.
      by_test (λ (lt : Bool). ltb (next_of t at lf) (length t) ≡ lt → refused_at 1 (line + 1) ≡ answer_of t) (ltb (next_of t at lf) (length t))
      (λ q e. row_formless (row_ends (line_opens a some) refl (ltb-true _ _ e)) says)
      (λ q e. line_unended (line_opens a some) (ltb-false _ _ e))
      refl)

  pub row_said : {letter end : ℕ} {items : List Item} → Says t at (line_of letter items) end → SaidRow t b highs lows free (line + 1) at end letter items
  row_said h = record { at_row = row_ends (line_opens a some) h.1.0 h.1.1; says = h.0 }

-- A line that says x and passes its checks; and one that letter and items say.
pub record PassedRow (t : List ℕ) (b : Book) (highs lows free : List ℕ) (line at end : ℕ) (x : Line) : Type 0 where
  pub at_row : AtRow t b highs lows free line at end (line_at t at)
  pub says : book_line (line_at t at) ≡ x
  pub passes : all_pass (line_checks (eqb (line - 1) 0) b x) ≡ true

pub record PassedLine (t : List ℕ) (b : Book) (highs lows free : List ℕ) (line at end letter : ℕ) (items : List Item) : Type 0 where
  pub row : PassedRow t b highs lows free line at end (line_of letter items)

-- With what is found for its legs, and its number, a line is refused by the number or passes its checks.
module _ {t : List ℕ} {b : Book} {highs lows free : List ℕ} {line at end letter : ℕ} {items : List Item} (q : SaidRow t b highs lows free line at end letter items) {p : Pair} (p-is : p ≡ pair_of items) {legs : Legs} (found : legs ≡ legs_at highs lows free b.held letter p) {last : Holding} {newest : Pair} (lasts : Lasts b last newest) {number : ℕ} (is : number ≡ number_behind (eqb line 1) last b.held newest b.paired legs.free (line_of letter items)) where
  number_is : first_failing (line_checks (eqb (line - 1) 0) b (line_of letter items)) ≡ number
  number_is =
      number_told q.at_row.along letter items p-is found (eqb (line - 1) 0) lasts
      (is ∙ ap (λ (first : Bool). number_behind first last b.held newest b.paired legs.free (line_of letter items)) (first_is line q.at_row.some))

  pub line_refused : (number ≡ 0 → ⊥) → refused_at number line ≡ answer_of t
  line_refused n = row_refused q.at_row (line_of letter items) q.says number_is n

  pub line_passes : number ≡ 0 → PassedLine t b highs lows free line at end letter items
  line_passes zero_is =
      record {
        row = record {
          at_row = q.at_row;
          says = q.says;
          passes = no_failure (line_checks (eqb (line - 1) 0) b (line_of letter items)) (line_numbered (eqb (line - 1) 0) b (line_of letter items)) (number_is ∙ zero_is);
        };
      }

module _ {t : List ℕ} {b : Book} {highs lows free : List ℕ} {line at end : ℕ} {x : Line} (q : PassedRow t b highs lows free line at end x) where
  behind : Along b highs lows free
  behind = q.at_row.along

  keeps : Sound (with_line b x)
  keeps = line_keeps behind.sound (eqb (line - 1) 0) x (subst (λ (y : Line). account_of y ≤ 9999999) q.says (line_account (line_at t at))) q.passes

  next_line : {c : Book} {highs' lows' free' : List ℕ} → c ≡ with_line b x → Along c highs' lows' free' → AtLine t c highs' lows' free' line (end + 1)
  unfolding read_lines
  next_line e along =
      let here = q.at_row in
      let low = here.low in
      let few = here.few in
      let some = here.some in
      let n : suc (line - 1) ≡ line = omega arith in
      record { along = along; fresh = λ z. absurd (omega arith); low = omega arith; few = omega arith; goes = rw e (rw (q.says, q.passes, n) at here.goes) }

-- An A line.
module _ {t : List ℕ} {b : Book} {highs lows free : List ℕ} {line at end account identity day : ℕ} (q : PassedRow t b highs lows free line at end (head account identity day)) where
  still_none : b ≡ no_book
  still_none =
      let first = eqb-true (line - 1) 0 (head_first b account identity day (eqb (line - 1) 0) q.passes) in
      let some = q.at_row.some in
      q.at_row.fresh (omega arith)

  head_passed : AtLine t (headed b account (identity % 256) day) highs lows free line (end + 1)
  unfolding no_book empty_book book_of
  head_passed =
      let g = behind q in
      let made = head_book_is b account identity day still_none (head_passes b account identity day (eqb (line - 1) 0) q.passes).0 in
      next_line q made
      (along_empty (headed b account (identity % 256) day) highs lows free (subst Sound (sym made) (keeps q)) (ap (λ (z : Book). z.held) still_none) (ap (λ (z : Book). z.paired) still_none) g.highs_long g.lows_long g.free_long)

-- An H line.
module _ {t : List ℕ} {b : Book} {highs lows free : List ℕ} {line at end : ℕ} {h : Holding} (q : PassedRow t b highs lows free line at end (holding h)) where
  next_holding : NextHolding b h
  next_holding = holding_passes b h (holdings_count (behind q).sound) (eqb (line - 1) 0) q.passes

  held_room : b.held < 128
  held_room = let c = holdings_count (behind q).sound in let r = next_holding.row.room in omega arith

  holding_passed : {highs' lows' free' : List ℕ} → (highs' ≡ set highs b.held (high_key h.series)) × ((lows' ≡ set lows b.held (nature_key h.series.nature)) × (free' ≡ set (set free (2 * b.held) h.long) (2 * b.held + 1) h.short)) → AtLine t (held_rows b (set b.holdings b.held h) (b.held + 1)) highs' lows' free' line (end + 1)
  holding_passed e =
      rw (e.0, e.1.0, e.1.1)
      (next_line q (holding_book_is (behind q) next_holding) (holding_along (behind q) next_holding (keeps q)))

-- An M line.
module _ {t : List ℕ} {b : Book} {highs lows free : List ℕ} {line at end : ℕ} {p : Pair} (q : PassedRow t b highs lows free line at end (pair p)) where
  next_pair : NextPair b p
  next_pair = pair_passes b p (pairs_count (behind q).sound) (eqb (line - 1) 0) q.passes

  paired_room : b.paired < 128
  paired_room = let c = pairs_count (behind q).sound in let r = next_pair.row.room in omega arith

  pair_counts : Counts p.r1 p.r2 p.units
  pair_counts = counts_are p.r1 p.r2 p.units (pair_is p next_pair.row.is_good).counts

  pair_passed : {free' : List ℕ} → free' ≡ less_legs free (first_slot highs lows b.held p) (second_slot highs lows b.held p) p → AtLine t (paired_rows b (set b.pairs b.paired p) (b.paired + 1)) highs lows free' line (end + 1)
  pair_passed e = rw e (next_line q (pair_book_is (behind q) next_pair) (pair_along (behind q) next_pair (keeps q)))

-- The same by letter and items, as the loop has them.
module _ {t : List ℕ} {b : Book} {highs lows free : List ℕ} {line at end letter : ℕ} {items : List Item} (q : PassedLine t b highs lows free line at end letter items) where
  -- Each line leaves less of the text.
  pub line_less : length t - (end + 1) < length t - at
  line_less = let here = q.row.at_row in let begins = here.begins in let low = here.low in omega arith

  passed_as : {x : Line} → line_of letter items ≡ x → PassedRow t b highs lows free line at end x
  passed_as e = subst (PassedRow t b highs lows free line at end) e q.row

  pub head_next : letter ≡ 65 → AtLine t (headed b (item items 0).number ((item items 1).number % 256) (item items 2).number) highs lows free line (end + 1)
  head_next l = head_passed (passed_as (says_head items l))

  module _ (l : letter ≡ 72) {h : Holding} (h-is : h ≡ holding_of items) where
    as_holding : PassedRow t b highs lows free line at end (holding h)
    as_holding = passed_as (says_holding items l ∙ ap holding (sym h-is))

    pub holding_room : b.held < 128
    holding_room = held_room as_holding

    pub holding_lasts : {last : Holding} {newest : Pair} → Lasts b last newest → Lasts (held_rows b (set b.holdings b.held h) (b.held + 1)) h newest
    holding_lasts lasts = holding_last (behind as_holding) (next_holding as_holding) lasts

    -- what the entry of the row asks for
    pub entry_asks : (b.held < 128) × ((b.held < length highs) × ((b.held < length lows) × (2 * b.held + 1 < length free)))
    entry_asks =
        let room = holding_room in
        let g = behind q.row in
        let hl = g.highs_long in
        let ll = g.lows_long in
        let fl = g.free_long in
        (omega arith, (omega arith, (omega arith, omega arith)))

    pub holding_next : {highs' lows' free' : List ℕ} → (highs' ≡ set highs b.held (high_key h.series)) × ((lows' ≡ set lows b.held (nature_key h.series.nature)) × (free' ≡ set (set free (2 * b.held) h.long) (2 * b.held + 1) h.short)) → AtLine t (held_rows b (set b.holdings b.held h) (b.held + 1)) highs' lows' free' line (end + 1)
    holding_next e = holding_passed as_holding e

  module _ (l : letter ≡ 77) {p : Pair} (p-is : p ≡ pair_of items) where
    as_pair : PassedRow t b highs lows free line at end (pair p)
    as_pair = passed_as (says_pair items l ∙ ap pair (sym p-is))

    pub pair_room : b.paired < 128
    pair_room = paired_room as_pair

    pub pair_lasts : {last : Holding} {newest : Pair} → Lasts b last newest → Lasts (paired_rows b (set b.pairs b.paired p) (b.paired + 1)) last p
    pair_lasts lasts = pair_last (behind as_pair) (next_pair as_pair) lasts

    -- what the legs ask for
    pub legs_ask : Counts p.r1 p.r2 p.units
    legs_ask = pair_counts as_pair

    pub pair_next : {legs : Legs} {free' : List ℕ} → legs ≡ legs_at highs lows free b.held letter p → free' ≡ less_legs free legs.first legs.second p → AtLine t (paired_rows b (set b.pairs b.paired p) (b.paired + 1)) highs lows free' line (end + 1)
    unfolding legs_at
    pair_next found e = pair_passed as_pair (rw (rw l at found) at e)

-- The whole text: too long, empty, or read line by line.
module _ (t : List ℕ) where
  pub text_long : 16384 < length t → refused_at 2 0 ≡ read_book t
  unfolding read_book
  text_long h = rw (lt-leb (length t) 16384 h)

  pub text_empty : length t ≤ 16384 → length t ≡ 0 → refused_at 1 0 ≡ read_book t
  unfolding read_book
  text_empty le e = rw (le-leb (length t) 16384 le, eq-eqb (length t) 0 e)

  pub text_read : length t ≤ 16384 → (length t ≡ 0 → ⊥) → answer_of t ≡ read_book t
  unfolding read_book
  text_read le n = rw (le-leb (length t) 16384 le, ne_eqb (length t) 0 n)
