-- Laws of the margin on a text: the sheet that a text is read as says of every series what the text's rows say, so what a book needs and
-- comes to is that of the rows; and a line is on the sheet exactly when the text has such a row.
use Rattle.std.specs.Prelude.{◌≡◌, Bool, true, false, ℕ, ◌+◌, eqb}
use Rattle.std.proofs.Math.Path.{refl, ap, sym}
use Rattle.std.proofs.Common.{◌∙◌}
use mathlib.Core.List.{List, [], ◌∷◌, ◌++◌}
use Rattle.laws.specs.Truth.{pick, both, either}
use Rattle.laws.specs.TruthLaws.{both_true, both_hold, both_end, by_test, picked}
use Rattle.laws.specs.Bytes.{same_bytes}
use Rattle.laws.specs.Search.{first_where, every_line, gathered}
use Rattle.laws.specs.SearchLaws.{every_append}
use Rattle.laws.specs.Checks.{all_pass}
use Rattle.laws.specs.KindLaws.{each_kind}
use Rattle.lists.specs.Sorted.{sum_of, stands}
use Rattle.codes.specs.Codes.{product_of}
use Rattle.series.specs.declared.Series.{Series}
use Rattle.series.specs.Checks.{good_series}
use Rattle.series.specs.Key.{key}
use Rattle.levels.specs.declared.Levels.{Levels}
use Rattle.amounts.specs.Lines.{index_fits, stock_fits}
use Rattle.units.specs.Units.{formula}
use Rattle.rows.specs.declared.Holding.{Holding}
use Rattle.rows.specs.declared.Pair.{Pair}
use Rattle.rows.specs.declared.Book.{Book}
use Rattle.rows.specs.Book.{holdings_of, pairs_of}
use Rattle.rules.specs.Lots.{free_holding, free_rows}
use Rattle.rules.specs.Rules.{good_holding, good_pair, sound_book}
use Rattle.rules.specs.RuleLaws.{holding_is, pair_is, sound_is, holdings_good, pairs_good}
use Rattle.sheets.specs.declared.FutureRow.{FutureRow}
use Rattle.sheets.specs.declared.OptionRow.{OptionRow}
use Rattle.sheets.specs.declared.StockRow.{StockRow}
use Rattle.sheets.specs.declared.PriceRow.{PriceRow}
use Rattle.sheets.specs.Rows.{future_codes, option_codes, two_capitals, nothing, no_index, no_stock, clearing_in, index_in, stock_in, price_in}
use Rattle.sheet_lines.specs.Lines.{among}
use Rattle.checking.specs.Reading.{rows_of, judged, read_sheet}
use Rattle.checking.specs.Next.{good_future, good_option, good_stock, good_price}
use Rattle.checking.specs.RowLaws.{futures_good, options_good, stocks_good, prices_good}
use Rattle.checking.specs.SheetLaws.{judged_good, found_clearing, found_index, found_stock, found_price}
use Rattle.quotes.specs.declared.Quote.{Quote}
use Rattle.sheets.specs.View.{View, rows_view, sheet_view}
use Rattle.quotes.specs.Quotes.{SheetLine, f_line, o_line, s_line, q_line, clearing_stands, price_stands, on_sheet, parent_lines, quote_as, quote_of}
use Rattle.quotes.specs.QuoteLaws.{quote_same}
use Rattle.account.specs.Needed.{charged_lots, own_line_of, lines_of, needed_by_holding, needed_by_pair, needed_by}
use Rattle.account.specs.Margin.{times, plus, holding_margin, pair_margin, sum_levels, pays_c, account_margin, margin_checks, margin_text}
use Rattle.account.specs.CallLaws.{margin_accepted}

-- A sum is of what each row comes to.
module _ {A : Type 0} (test : A → Bool) where
  every_sum : (f g : A → ℕ) → ((x : A) → test x ≡ true → f x ≡ g x) → (l : List A) → every_line test l ≡ true → sum_of f l ≡ sum_of g l
  unfolding every_line sum_of
  every_sum f g h [] e = refl
  every_sum f g h (x ∷ l) e =
      let t = both_true (test x) _ e in
      let p = h x t.0 in
      let q = every_sum f g h l t.1 in
      λ i. p i + q i

  every_levels : (f g : A → Levels) → ((x : A) → test x ≡ true → f x ≡ g x) → (l : List A) → every_line test l ≡ true → sum_levels f l ≡ sum_levels g l
  unfolding sum_levels
  every_levels f g h l e =
      let c = every_sum (λ x. (f x).clearing) (λ x. (g x).clearing) (λ x t. ap (λ (m : Levels). m.clearing) (h x t)) l e in
      let m = every_sum (λ x. (f x).maintenance) (λ x. (g x).maintenance) (λ x t. ap (λ (m : Levels). m.maintenance) (h x t)) l e in
      let n = every_sum (λ x. (f x).initial) (λ x. (g x).initial) (λ x t. ap (λ (m : Levels). m.initial) (h x t)) l e in
      λ i. record { clearing = c i; maintenance = m i; initial = n i }

-- The series of free rows are those of the holdings.
free_good : (ps : List Pair) (hs : List Holding) → every_line good_holding hs ≡ true → every_line (λ (h : Holding). good_series h.series) (free_rows hs ps) ≡ true
unfolding every_line free_rows free_holding
free_good ps [] e = refl
free_good ps (h ∷ hs) e =
    let t = both_true (good_holding h) _ e in
    both_hold (holding_is h t.0).series_good (free_good ps hs t.1)

-- Two sheets that give one quote of each series that passes its checks: a sound book needs and comes to the same on both.
module _ (v w : View) (same : (s : Series) → good_series s ≡ true → quote_of v s ≡ quote_of w s) where
  abbrev Same : List SheetLine → Type 0
  Same l = every_line (on_sheet v) l ≡ every_line (on_sheet w) l

  same_joined : (l m : List SheetLine) → Same l → Same m → Same (l ++ m)
  same_joined l m e f = every_append (on_sheet v) l m ∙ (λ i. both (e i) (f i)) ∙ sym (every_append (on_sheet w) l m)

  same_gathered : {A : Type 0} (f : A → List SheetLine) (test : A → Bool) → ((x : A) → test x ≡ true → Same (f x)) → (l : List A) → every_line test l ≡ true → Same (gathered f l)
  unfolding every_line gathered
  same_gathered f test h [] e = refl
  same_gathered f test h (x ∷ l) e =
      let t = both_true (test x) _ e in
      same_joined (f x) (gathered f l) (h x t.0) (same_gathered f test h l t.1)

  module _ (s : Series) (g : good_series s ≡ true) where
    same_own : Same (own_line_of s ∷ [])
    unfolding quote_of quote_as own_line_of every_line
    same_own = ap (λ (q : Quote). both q.lined true) (same s g)

    same_lot : Same (lines_of s)
    unfolding quote_of quote_as lines_of
    same_lot = ap (λ (q : Quote). q.ready) (same s g)

    same_timed : Same (parent_lines (product_of s.code))
    unfolding quote_of quote_as
    same_timed = ap (λ (q : Quote). q.timed) (same s g)

  same_holding : (h : Holding) → good_series h.series ≡ true → Same (needed_by_holding h)
  unfolding needed_by_holding every_line
  same_holding h g = picked Same (eqb (charged_lots h) 0) [] (lines_of h.series) (λ e. refl) (λ e. same_lot h.series g)

  same_pair_lem : (p : Pair) → good_pair p ≡ true → Same (needed_by_pair p)
  unfolding needed_by_pair every_line
  same_pair_lem p e =
      let g = pair_is p e in
      let f = g.first_good in
      let s = g.second_good in
      let own = same_own p.first f in
      let two = same_joined (lines_of p.first) (lines_of p.second) (same_lot p.first f) (same_lot p.second s) in
      each_kind _ _ _ _ _ _ _ _ _ Same p.kind
      (λ k. own)
      (λ k. own)
      (λ k. same_joined (lines_of p.first) _ (same_lot p.first f) (same_joined (lines_of p.second) _ (same_lot p.second s) (same_timed p.second s)))
      (λ k. two)
      (λ k. two)
      (λ k. same_lot p.second s)
      (λ k. two)
      (λ k. two)
      refl

  module _ (b : Book) (sound : sound_book b ≡ true) where
    pub same_needed : every_line (on_sheet v) (needed_by b) ≡ every_line (on_sheet w) (needed_by b)
    unfolding needed_by
    same_needed =
        let x = sound_is b sound in
        same_joined _ _
        (same_gathered needed_by_holding (λ (h : Holding). good_series h.series) same_holding (free_rows (holdings_of b) (pairs_of b)) (free_good (pairs_of b) (holdings_of b) (holdings_good x)))
        (same_gathered needed_by_pair good_pair same_pair_lem (pairs_of b) (pairs_good x))

    pub same_margin : account_margin v b ≡ account_margin w b
    unfolding account_margin holding_margin pair_margin
    same_margin =
        let x = sound_is b sound in
        let free =
        every_levels (λ (h : Holding). good_series h.series) (holding_margin v) (holding_margin w)
        (λ h g. ap (λ (q : Quote). times (charged_lots h) q.lot.margin) (same h.series g))
        (free_rows (holdings_of b) (pairs_of b)) (free_good (pairs_of b) (holdings_of b) (holdings_good x)) in
        let paired =
        every_levels good_pair (pair_margin v (pays_c b)) (pair_margin w (pays_c b))
        (λ p e.
        let g = pair_is p e in
        let f = same p.first g.first_good in
        let s = same p.second g.second_good in
        λ i. times p.units (formula p.kind (f i).lot (s i).lot (s i).terms p.r1 p.r2 (pays_c b)))
        (pairs_of b) (pairs_good x) in
        λ i. plus (free i) (paired i)

-- The sheet of a text, and the text's rows.
module _ (t : List ℕ) where
  pub text_quote : (s : Series) → good_series s ≡ true → quote_of (sheet_view (read_sheet t)) s ≡ quote_of (rows_view (rows_of (judged t).lines)) s
  unfolding sheet_view rows_view
  text_quote s g =
      quote_same (sheet_view (read_sheet t)) (rows_view (rows_of (judged t).lines)) s
      (found_clearing t (product_of s.code).parent)
      (found_index t s.code)
      (found_stock t (product_of s.code).parent)
      (found_price t s g)

  pub text_needed : (b : Book) → sound_book b ≡ true → every_line (on_sheet (sheet_view (read_sheet t))) (needed_by b) ≡ every_line (on_sheet (rows_view (rows_of (judged t).lines))) (needed_by b)
  text_needed b e = same_needed _ _ text_quote b e

  pub text_margin : (b : Book) → sound_book b ≡ true → account_margin (sheet_view (read_sheet t)) b ≡ account_margin (rows_view (rows_of (judged t).lines)) b
  text_margin b e = same_margin _ _ text_quote b e

  -- So an accepted call answers the margin that the rows make.
  pub text_accepted : (b : Book) → all_pass (margin_checks b (read_sheet t)) ≡ true → margin_text b t ≡ record { number = 0; line = 0; levels = account_margin (rows_view (rows_of (judged t).lines)) b }
  unfolding margin_text margin_checks all_pass
  text_accepted b e =
      margin_accepted b (read_sheet t) e
      ∙ ap (λ (l : Levels). record { number = 0; line = 0; levels = l }) (text_margin b (both_true (sound_book b) _ e).0)

-- Of rows that all fit, what is found of a key fits exactly where a row has that key.
module _ {A B : Type 0} (rank : A → List ℕ) (k : List ℕ) (named good : A → Bool) (made : A → B) (none : B) (fits : B → Bool)
    (key_is : (x : A) → named x ≡ same_bytes (rank x) k) (all_fit : (x : A) → good x ≡ true → fits (made x) ≡ true) (none-fits : fits none ≡ false) where
  row_stands : (l : List A) → every_line good l ≡ true → fits (first_where named made none l) ≡ stands rank k l
  unfolding every_line first_where stands
  row_stands [] e = none-fits
  row_stands (x ∷ l) e =
      let t = both_true (good x) _ e in
      let n = ap (λ (b : Bool). either b (stands rank k l)) (key_is x) in
      by_test (λ (b : Bool). fits (pick b (made x) (first_where named made none l)) ≡ either b (stands rank k l)) (named x)
      (λ q. all_fit x t.0)
      (λ q. row_stands l t.1)
      ∙ n

-- A line is on the sheet of a text exactly when the text has a row of its letter and key.
module _ (t : List ℕ) where
  pub clearing_stands_lem : (code : List ℕ) → on_sheet (rows_view (rows_of (judged t).lines)) (f_line code) ≡ stands (λ (r : FutureRow). r.code) code (rows_of (judged t).lines).futures
  unfolding on_sheet rows_view clearing_in good_future rows_of
  clearing_stands_lem code =
      row_stands _ code _ good_future _ nothing clearing_stands (λ r. refl) (λ r e. (both_true (among future_codes r.code) _ e).1) refl _ (futures_good (judged_good t))

  pub index_stands : (code : List ℕ) → on_sheet (rows_view (rows_of (judged t).lines)) (o_line code) ≡ stands (λ (r : OptionRow). r.code) code (rows_of (judged t).lines).options
  unfolding on_sheet rows_view index_in good_option rows_of no_index index_fits
  index_stands code =
      row_stands _ code _ good_option _ no_index index_fits (λ r. refl) (λ r e. (both_true (among option_codes r.code) _ e).1) refl _ (options_good (judged_good t))

  pub stock_stands : (code : List ℕ) → on_sheet (rows_view (rows_of (judged t).lines)) (s_line code) ≡ stands (λ (r : StockRow). r.code) code (rows_of (judged t).lines).stocks
  unfolding on_sheet rows_view stock_in good_stock rows_of no_stock stock_fits
  stock_stands code =
      row_stands _ code _ good_stock _ no_stock stock_fits (λ r. refl) (λ r e. (both_true (two_capitals r.code) _ e).1) refl _ (stocks_good (judged_good t))

  pub price_stands_lem : (s : Series) → on_sheet (rows_view (rows_of (judged t).lines)) (q_line s) ≡ stands (λ (r : PriceRow). key r.series ∷ []) (key s ∷ []) (rows_of (judged t).lines).prices
  unfolding on_sheet rows_view price_in good_price rows_of same_bytes
  price_stands_lem s =
      row_stands _ (key s ∷ []) _ good_price _ nothing price_stands (λ r. sym (both_end _)) (λ r e. (both_true (good_series r.series) _ e).1) refl _ (prices_good (judged_good t))
