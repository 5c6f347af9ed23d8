-- Laws of reading: the text of a sound book is read as that book.
use Rattle.std.specs.Prelude.{◌≡◌, true, false, ℕ, suc, ◌≤◌, eqb}
use Rattle.std.proofs.Math.Path.{refl, ap, subst}
use Rattle.std.proofs.Common.{sym, ◌∙◌, arith}
use mathlib.Core.List.{List, [], ◌∷◌, ◌++◌, append_assoc, append-nil}
use Rattle.std.proofs.Math.ListN.{length}
use Rattle.std.proofs.Math.Seq.{append_snoc}
use Rattle.laws.specs.Checks.{all_pass}
use Rattle.lists.specs.Sorted.{sum_of}
use Rattle.lists.specs.SortedLaws.{sum_joined}
use Rattle.series.specs.declared.Series.{Series}
use Rattle.series.specs.declared.Side.{Side}
use Rattle.rows.specs.declared.Holding.{Holding}
use Rattle.rows.specs.declared.Pair.{Pair}
use Rattle.rows.specs.declared.Book.{Book}
use Rattle.rows.specs.Rows.{holding_rank, pair_rank}
use Rattle.rows.specs.Book.{holdings_of, pairs_of, book_of, empty_book, no_book}
use Rattle.rows.specs.BookLaws.{its_holdings, its_pairs}
use Rattle.rules.specs.Lots.{Leg, first_leg, second_leg, ties, tied_by, tied}
use Rattle.rules.specs.LotLaws.{ties_itself}
use Rattle.rules.specs.Rules.{good_holding, good_pair}
use Rattle.rules.specs.Facts.{Sound}
use Rattle.rules.specs.RuleLaws.{book_is}
use Rattle.calls.specs.Facts.{finds}
use Rattle.lines.specs.Pieces.{lf, split_on}
use Rattle.printed.specs.Printed.{holding_text, pair_text, texts_of, text_of}
use Rattle.reading.specs.Reading.{Answer, line_checks, with_line, read_as, read_lines}
use Rattle.book_lines.specs.Lines.{Line, holding, pair}
use Rattle.reading.specs.Next.{Rows, NextRow, Covered}
use Rattle.reading.specs.NextLaws.{next_row}
use Rattle.reading.specs.PassLaws.{later_checks, head_passes_back, holding_passes_back, pair_passes_back}
use Rattle.reading.specs.KeepLaws.{with_holding, with_pair, holdings_rows, pairs_covered}
use Rattle.trip.specs.LineLaws.{Says, head_says, holding_says, pair_says}

-- A line that says x and passes its checks is read, and the book goes on with x.
line_read : (n : ℕ) (b : Book) {text : List ℕ} {x : Line} → Says text x → all_pass (line_checks (eqb n 0) b x) ≡ true → (rest : List ℕ) → read_lines n b (split_on lf (text ++ rest)) ≡ read_lines (suc n) (with_line b x) (split_on lf rest)
unfolding read_lines
line_read n b s e rest = rw (s.cut rest, s.says, e)

-- Rows that have P, by which each is a line that passes its checks behind those before it, are read one after the other.
module _ {A : Type 0} (P : List A → Type 0) (text : A → List ℕ) (line : A → Line) (book : List A → Book)
    (says : (done : List A) (x : A) (rest : List A) → P (done ++ (x ∷ rest)) → Says (text x) (line x))
    (passes : (done : List A) (x : A) (rest : List A) → P (done ++ (x ∷ rest)) → all_pass (line_checks false (book done) (line x)) ≡ true)
    (goes_on : (done : List A) (x : A) → with_line (book done) (line x) ≡ book (done ++ (x ∷ []))) where
  rows_read : (rest done : List A) → P (done ++ rest) → (t : List ℕ) (w : Answer) → ((n : ℕ) → read_lines (suc n) (book (done ++ rest)) (split_on lf t) ≡ w) → (n : ℕ) → read_lines (suc n) (book done) (split_on lf (texts_of text rest ++ t)) ≡ w
  unfolding texts_of
  rows_read [] done p t w k n = ap (λ (l : List A). read_lines (suc n) (book l) (split_on lf t)) (sym (append-nil done)) ∙ k n
  rows_read (x ∷ rest) done p t w k n =
      let left = texts_of text rest ++ t in
      let one_on = append_snoc done x rest in
      ap (λ (l : List ℕ). read_lines (suc n) (book done) (split_on lf l)) (append_assoc (text x) (texts_of text rest) t)
      ∙ line_read (suc n) (book done) (says done x rest p) (later_checks n (book done) (line x) ∙ passes done x rest p) left
      ∙ ap (λ (b : Book). read_lines (suc (suc n)) b (split_on lf left)) (goes_on done x)
      ∙ rows_read rest (done ++ (x ∷ [])) (subst P (sym one_on) p) t w (λ m. ap (λ (l : List A). read_lines (suc m) (book l) (split_on lf t)) one_on ∙ k m) (suc n)

-- Where no more is tied than there is, a leg of a pair finds its lots behind the pairs before it.
leg_found : (hs : List Holding) (done : List Pair) (p : Pair) (rest : List Pair) (leg : Leg) → Covered hs (done ++ (p ∷ rest)) → ((s : Series) (d : Side) → ties s d leg ≤ tied_by s d p) → finds hs done leg
unfolding tied sum_of
leg_found hs done p rest leg c part =
    let s = leg.series in
    let d = leg.side in
    let never = c.never_negative s d in
    let sum = sum_joined (tied_by s d) done (p ∷ rest) in
    let own = part s d in
    let itself = ties_itself leg in
    omega arith

first_found : (hs : List Holding) (done : List Pair) (p : Pair) (rest : List Pair) → Covered hs (done ++ (p ∷ rest)) → finds hs done (first_leg p)
unfolding tied_by
first_found hs done p rest c = leg_found hs done p rest (first_leg p) c (λ s d. omega arith)

second_found : (hs : List Holding) (done : List Pair) (p : Pair) (rest : List Pair) → Covered hs (done ++ (p ∷ rest)) → finds hs done (second_leg p)
unfolding tied_by
second_found hs done p rest c = leg_found hs done p rest (second_leg p) c (λ s d. omega arith)

-- So the line of each holding of a sound book passes behind those before it, and then that of each pair.
module _ (account identity day : ℕ) where
  holding_next : (done : List Holding) (h : Holding) (rest : List Holding) → Rows good_holding holding_rank (done ++ (h ∷ rest)) → all_pass (line_checks false (book_of account identity day done []) (holding h)) ≡ true
  unfolding book_of
  holding_next done h rest r =
      let x = its_holdings account identity day done [] in
      holding_passes_back (book_of account identity day done []) h (ap length x)
      (record { row = subst (λ (l : List Holding). NextRow good_holding holding_rank l h) (sym x) (next_row good_holding holding_rank done h rest r); no_pairs = refl })

  pair_next : (hs : List Holding) (done : List Pair) (p : Pair) (rest : List Pair) → Covered hs (done ++ (p ∷ rest)) → all_pass (line_checks false (book_of account identity day hs done) (pair p)) ≡ true
  unfolding book_of
  pair_next hs done p rest c =
      let x = its_holdings account identity day hs done in
      let y = its_pairs account identity day hs done in
      pair_passes_back (book_of account identity day hs done) p (ap length y)
      (record {
        row = subst (λ (l : List Pair). NextRow good_pair pair_rank l p) (sym y) (next_row good_pair pair_rank done p rest c.rows);
        first_free = rw (x, y) (first_found hs done p rest c);
        second_free = rw (x, y) (second_found hs done p rest c);
      })

  -- They are read so.
  holdings_read : (hs : List Holding) → Rows good_holding holding_rank hs → (t : List ℕ) (w : Answer) → ((n : ℕ) → read_lines (suc n) (book_of account identity day hs []) (split_on lf t) ≡ w) → (n : ℕ) → read_lines (suc n) (book_of account identity day [] []) (split_on lf (texts_of holding_text hs ++ t)) ≡ w
  holdings_read hs =
      rows_read (Rows good_holding holding_rank) holding_text holding (λ (l : List Holding). book_of account identity day l [])
      (λ done h rest r. holding_says h (next_row good_holding holding_rank done h rest r).is_good)
      holding_next
      (λ done. with_holding account identity day done [])
      hs []

  pairs_read : (hs : List Holding) (ps : List Pair) → Covered hs ps → (t : List ℕ) (w : Answer) → ((n : ℕ) → read_lines (suc n) (book_of account identity day hs ps) (split_on lf t) ≡ w) → (n : ℕ) → read_lines (suc n) (book_of account identity day hs []) (split_on lf (texts_of pair_text ps ++ t)) ≡ w
  pairs_read hs ps =
      rows_read (Covered hs) pair_text pair (λ (l : List Pair). book_of account identity day hs l)
      (λ done p rest c. pair_says p (next_row good_pair pair_rank done p rest c.rows).is_good)
      (pair_next hs)
      (with_pair account identity day hs)
      ps []

-- The whole text: the first line, the holdings, the pairs, and then nothing.
pub book_read : (b : Book) → Sound b → read_lines 0 no_book (split_on lf (text_of b)) ≡ read_as b
unfolding text_of with_line empty_book read_lines split_on
book_read b s =
    let hs = holdings_of b in
    let ps = pairs_of b in
    let first = head_says b.account b.identity b.day s.account_fits_lem s.identity_is s.day_is in
    let passes = head_passes_back no_book b.account b.identity b.day s.identity_is s.day_is in
    line_read 0 no_book first passes (texts_of holding_text hs ++ texts_of pair_text ps)
    ∙ holdings_read b.account b.identity b.day hs (holdings_rows s) (texts_of pair_text ps) (read_as b)
    (λ n.
    ap (λ (t : List ℕ). read_lines (suc n) (book_of b.account b.identity b.day hs []) (split_on lf t)) (sym (append-nil (texts_of pair_text ps)))
    ∙ pairs_read b.account b.identity b.day hs ps (pairs_covered s) [] (read_as b) (λ m. ap read_as (sym (book_is b s))) n)
    0
