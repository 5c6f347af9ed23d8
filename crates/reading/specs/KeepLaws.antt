-- Laws of a line that passes its checks behind a sound book: the book with it is sound.
use Rattle.std.specs.Prelude.{◌≡◌, refl, Bool, true, ℕ, ◌≤◌}
use Rattle.std.proofs.Math.Path.{ap}
use mathlib.Core.List.{List, [], ◌∷◌, ◌++◌}
use native.Mathlib.Omega.{arith}
use Rattle.std.proofs.Common.{le-leb}
use Rattle.laws.specs.TruthLaws.{both_hold}
use Rattle.laws.specs.Checks.{all_pass}
use Rattle.lists.specs.Sorted.{sum_of}
use Rattle.lists.specs.SortedLaws.{sum_joined}
use Rattle.dates.specs.Calendar.{is_day}
use Rattle.series.specs.declared.Series.{Series}
use Rattle.series.specs.declared.Side.{Side}
use Rattle.rows.specs.declared.Holding.{Holding}
use Rattle.rows.specs.declared.Pair.{Pair}
use Rattle.rows.specs.declared.Book.{Book}
use Rattle.rows.specs.Rows.{holding_rank, pair_rank}
use Rattle.rows.specs.Book.{holdings_of, pairs_of, book_of, with_holdings, with_pairs}
use Rattle.rows.specs.BookLaws.{its_holdings, its_pairs, none_paired}
use Rattle.rules.specs.Lots.{tied_by, tied, total}
use Rattle.rules.specs.Rules.{is_identity, good_holding, good_pair}
use Rattle.rules.specs.Facts.{Sound}
use Rattle.rules.specs.RuleLaws.{pair_is, holdings_good, holdings_order, holdings_count, pairs_good, pairs_order, pairs_count}
use Rattle.calls.specs.Calls.{make_checks}
use Rattle.calls.specs.PairedLaws.{pair_fits}
use Rattle.calls.specs.OpenLaws.{sound_holdings}
use Rattle.calls.specs.TieLaws.{sound_pairs}
use Rattle.calls.specs.CallLaws.{make_sound}
use Rattle.book_lines.specs.Lines.{Line, head, holding, pair, formless}
use Rattle.book_lines.specs.Facts.{account_of}
use Rattle.reading.specs.Reading.{line_checks, with_line}
use Rattle.reading.specs.Next.{Rows, Covered, NextHolding, NextPair}
use Rattle.reading.specs.NextLaws.{more_rows}
use Rattle.reading.specs.PassLaws.{head_passes, holding_passes, pair_passes}

-- A book of lists, with a holding or a pair more.
module _ (account identity day : ℕ) (hs : List Holding) (ps : List Pair) where
  pub with_holding : (h : Holding) → with_line (book_of account identity day hs ps) (holding h) ≡ book_of account identity day (hs ++ (h ∷ [])) ps
  unfolding with_line with_holdings book_of
  with_holding h = ap (λ (l : List Holding). book_of account identity day (l ++ (h ∷ [])) ps) (its_holdings account identity day hs ps)

  pub with_pair : (p : Pair) → with_line (book_of account identity day hs ps) (pair p) ≡ book_of account identity day hs (ps ++ (p ∷ []))
  unfolding with_line with_pairs book_of
  with_pair p = ap (λ (l : List Pair). book_of account identity day hs (l ++ (p ∷ []))) (its_pairs account identity day hs ps)

-- The first line: the empty book.
pub head_sound : (b : Book) (account identity day : ℕ) → account ≤ 9999999 → is_identity identity ≡ true → is_day day ≡ true → Sound (with_line b (head account identity day))
unfolding with_line make_checks all_pass
head_sound b account identity day fits i d = make_sound account identity day (both_hold (both_hold (le-leb account 9999999 fits) i) (both_hold d refl))

-- A later line.
module _ {b : Book} (s : Sound b) where
  pub holdings_rows : Rows good_holding holding_rank (holdings_of b)
  holdings_rows =
      let count = holdings_count s in
      let few = s.holdings_sound_lem.few in
      record { few = omega arith; all_good = holdings_good s; in_order_lem = holdings_order s }

  pub pairs_covered : Covered (holdings_of b) (pairs_of b)
  pairs_covered =
      let count = pairs_count s in
      let few = s.pairs_sound_lem.few in
      record { rows = record { few = omega arith; all_good = pairs_good s; in_order_lem = pairs_order s }; never_negative = s.never_negative }

  pub holding_keeps : (h : Holding) → NextHolding b h → Sound (with_line b (holding h))
  unfolding with_line tied sum_of
  holding_keeps h n =
      let r = more_rows good_holding holding_rank (holdings_of b) h holdings_rows n.row in
      sound_holdings b (holdings_of b ++ (h ∷ [])) s r.few r.all_good r.in_order_lem
      (λ t e. let z = ap (λ (l : List Pair). tied l t e) (none_paired b n.no_pairs) in omega arith)

  -- what is tied with one pair more
  one_tied : (p : Pair) → NextPair b p → (t : Series) (e : Side) → tied (pairs_of b ++ (p ∷ [])) t e ≤ total (holdings_of b) t e
  unfolding tied sum_of
  one_tied p n t e =
      let g = pair_is p n.row.is_good in
      let sum = sum_joined (tied_by t e) (pairs_of b) (p ∷ []) in
      let fits = pair_fits (holdings_of b) (pairs_of b) p s.never_negative g.first_good g.second_good g.standing n.first_free n.second_free t e in
      omega arith

  pub pair_keeps : (p : Pair) → NextPair b p → Sound (with_line b (pair p))
  unfolding with_line
  pair_keeps p n =
      let r = more_rows good_pair pair_rank (pairs_of b) p pairs_covered.rows n.row in
      sound_pairs b (pairs_of b ++ (p ∷ [])) s r.few r.all_good r.in_order_lem (one_tied p n)

  -- So any line that passes its checks keeps the book sound.
  pub line_keeps : (first : Bool) (x : Line) → account_of x ≤ 9999999 → all_pass (line_checks first b x) ≡ true → Sound (with_line b x)
  unfolding with_line
  line_keeps first (head account identity day) fits e =
      let k = head_passes b account identity day first e in
      head_sound b account identity day fits k.0 k.1
  line_keeps first (holding h) fits e = holding_keeps h (holding_passes b h (holdings_count s) first e)
  line_keeps first (pair p) fits e = pair_keeps p (pair_passes b p (pairs_count s) first e)
  line_keeps first formless fits e = s
