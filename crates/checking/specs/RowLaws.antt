-- Laws of a sheet's rows: a line that passes its checks behind lines that stand leaves lines that stand, whose sheet is the sheet before
-- with that row in its place; and what is known of the rows of lines that stand.
use Rattle.std.specs.Prelude.{◌≡◌, Bool, false, not, ℕ, ◌+◌, ◌<◌, ◌≤◌, leb, set}
use Rattle.std.proofs.Math.Path.{refl, ap, sym}
use Rattle.std.proofs.Common.{◌∙◌, ne_eqb, length-append}
use Rattle.std.proofs.Math.Bool.{true}
use mathlib.Core.List.{List, [], ◌∷◌, ◌++◌, append-nil}
use native.Mathlib.Omega.{arith}
use Rattle.std.proofs.Math.Dec.{eqb}
use Rattle.std.proofs.Math.ListN.{length}
use Rattle.std.specs.declared.cmp.Ordering.TheVariants.{Less}
use Rattle.laws.specs.Truth.{both, either}
use Rattle.laws.specs.TruthLaws.{both_true, both_hold, clash}
use Rattle.laws.specs.Bytes.{same_bytes}
use Rattle.laws.specs.ByteLaws.{same_self}
use Rattle.laws.specs.Checks.{all_pass}
use Rattle.laws.specs.CheckLaws.{pass_both}
use Rattle.laws.specs.Search.{every_line, gathered}
use Rattle.laws.specs.SearchLaws.{every_joined, every_weaker}
use Rattle.laws.specs.Order.{order_of, bytes_order}
use Rattle.laws.specs.OrderLaws.{apart}
use Rattle.lists.specs.PlaceLaws.{set_end}
use Rattle.lists.specs.Sorted.{ascending}
use Rattle.lists.specs.LastLaws.{before_last}
use Rattle.dates.specs.Calendar.{is_day}
use Rattle.codes.specs.declared.Class.{Class}
use Rattle.codes.specs.declared.Class.TheVariants.{Unknown, ListedFuture, ListedOption, StockFuture, StockOption}
use Rattle.codes.specs.Codes.{known}
use Rattle.series.specs.Checks.{suits, class_of}
use Rattle.series.specs.CheckLaws.{series_whole}
use Rattle.series.specs.Key.{key}
use Rattle.levels.specs.Ranges.{clearing_fits}
use Rattle.amounts.specs.Lines.{index_fits, stock_fits}
use Rattle.sheets.specs.declared.FutureRow.{FutureRow}
use Rattle.sheets.specs.declared.OptionRow.{OptionRow}
use Rattle.sheets.specs.declared.StockRow.{StockRow}
use Rattle.sheets.specs.declared.PriceRow.{PriceRow}
use Rattle.sheets.specs.declared.Sheet.{Sheet}
use Rattle.sheets.specs.Sheet.{future_place, option_place, stock_place, stock_at, laid_out}
use Rattle.sheets.specs.Rows.{no_rows, future_codes, option_codes, two_capitals, found, nothing, no_index, no_stock, no_price, clearing_in, index_in, stock_in}
use Rattle.sheets.specs.TableLaws.{futures_differ, options_differ, table_set, found_last, found_others, tabled_set, place_below, stock_at_place}
use Rattle.sheet_lines.specs.Lines.{Line, head, future, option, stock, price, formless, rank, among, is_quoted, own_checks, is_head, checks_by, line_checks}
use Rattle.checking.specs.Reading.{future_row, option_row, stock_row, price_row, day_of, rows_of}
use Rattle.checking.specs.Next.{Good, good_future, good_option, good_stock, good_price, with_day, with_futures, with_options, with_stocks, with_prices}
use Rattle.checking.specs.GroupLaws.{gathered_more, gathered_every, Gives, none, row, gathered_fewer, gathered_ascends, row_new}

-- What each group takes of a line.
future_gives : (x : Line) → Gives rank (λ (r : FutureRow). r.code) 2 future_row x
unfolding rank future_row
future_gives (head day) = none refl
future_gives (future r) = row r refl refl
future_gives (option r) = none refl
future_gives (stock r) = none refl
future_gives (price r) = none refl
future_gives formless = none refl

option_gives : (x : Line) → Gives rank (λ (r : OptionRow). r.code) 3 option_row x
unfolding rank option_row
option_gives (head day) = none refl
option_gives (future r) = none refl
option_gives (option r) = row r refl refl
option_gives (stock r) = none refl
option_gives (price r) = none refl
option_gives formless = none refl

stock_gives : (x : Line) → Gives rank (λ (r : StockRow). r.code) 4 stock_row x
unfolding rank stock_row
stock_gives (head day) = none refl
stock_gives (future r) = none refl
stock_gives (option r) = none refl
stock_gives (stock r) = row r refl refl
stock_gives (price r) = none refl
stock_gives formless = none refl

price_gives : (x : Line) → Gives rank (λ (r : PriceRow). key r.series ∷ []) 5 price_row x
unfolding rank price_row
price_gives (head day) = none refl
price_gives (future r) = none refl
price_gives (option r) = none refl
price_gives (stock r) = none refl
price_gives (price r) = row r refl refl
price_gives formless = none refl

pub prices_fewer : (ls : List Line) → length (gathered price_row ls) ≤ length ls
prices_fewer ls = gathered_fewer price_gives ls

-- A line that passes its checks behind others: first only where it is a D line, well in itself, and in order.
pub record Passing (ls : List Line) (x : Line) : Type 0 where
  pub headed : either (not (eqb (length ls) 0)) (is_head x) ≡ true
  pub own : all_pass (own_checks x) ≡ true
  pub in_order_lem : ascending rank (ls ++ (x ∷ [])) ≡ true

pub line_passing : (ls : List Line) (x : Line) → all_pass (line_checks ls x) ≡ true → Passing ls x
unfolding line_checks checks_by all_pass
line_passing ls x e =
    let t = both_true (either (not (eqb (length ls) 0)) (is_head x)) _ e in
    let u = pass_both (own_checks x) _ t.1 in
    record { headed = t.0; own = u.0; in_order_lem = (both_true (ascending rank (ls ++ (x ∷ []))) _ u.1).0 }

-- No line gives no rows.
pub no_lines : rows_of [] ≡ no_rows
unfolding rows_of no_rows day_of gathered
no_lines = refl

-- No line stands, and one more.
pub none_good : Good []
unfolding every_line ascending
none_good = record { own = refl; in_order_lem = refl; few = omega arith }

pub more_good : {ls : List Line} (x : Line) → Good ls → length ls < 1024 → all_pass (line_checks ls x) ≡ true → Good (ls ++ (x ∷ []))
unfolding every_line
more_good {ls} x g room e =
    let p = line_passing ls x e in
    record {
      own = every_joined (λ (y : Line). all_pass (own_checks y)) ls (x ∷ []) g.own (both_hold p.own refl);
      in_order_lem = p.in_order_lem;
      few = omega (arith, length-append ls (x ∷ []));
    }

-- The rows of one line more that is no D line.
day_first : (y : Line) (ls ms : List Line) → day_of (y ∷ ls) ≡ day_of (y ∷ ms)
unfolding day_of
day_first (head day) ls ms = refl
day_first (future r) ls ms = refl
day_first (option r) ls ms = refl
day_first (stock r) ls ms = refl
day_first (price r) ls ms = refl
day_first formless ls ms = refl

day_stays : (ls : List Line) (x : Line) → day_of (x ∷ []) ≡ 0 → day_of (ls ++ (x ∷ [])) ≡ day_of ls
unfolding day_of
day_stays [] x e = e
day_stays (y ∷ ls) x e = day_first y (ls ++ (x ∷ [])) ls

module _ (ls : List Line) where
  rows_more : (x : Line) → day_of (x ∷ []) ≡ 0 → rows_of (ls ++ (x ∷ [])) ≡ record { day = day_of ls; futures = gathered future_row ls ++ future_row x; options = gathered option_row ls ++ option_row x; stocks = gathered stock_row ls ++ stock_row x; prices = gathered price_row ls ++ price_row x }
  unfolding rows_of
  rows_more x e = rw (day_stays ls x e, gathered_more future_row ls x, gathered_more option_row ls x, gathered_more stock_row ls x, gathered_more price_row ls x)

  rows_future : (r : FutureRow) → rows_of (ls ++ (future r ∷ [])) ≡ record { day = day_of ls; futures = gathered future_row ls ++ (r ∷ []); options = gathered option_row ls; stocks = gathered stock_row ls; prices = gathered price_row ls }
  unfolding day_of future_row option_row stock_row price_row
  rows_future r = rows_more (future r) refl ∙ rw (append-nil (gathered option_row ls), append-nil (gathered stock_row ls), append-nil (gathered price_row ls))

  rows_option : (r : OptionRow) → rows_of (ls ++ (option r ∷ [])) ≡ record { day = day_of ls; futures = gathered future_row ls; options = gathered option_row ls ++ (r ∷ []); stocks = gathered stock_row ls; prices = gathered price_row ls }
  unfolding day_of future_row option_row stock_row price_row
  rows_option r = rows_more (option r) refl ∙ rw (append-nil (gathered future_row ls), append-nil (gathered stock_row ls), append-nil (gathered price_row ls))

  rows_stock : (r : StockRow) → rows_of (ls ++ (stock r ∷ [])) ≡ record { day = day_of ls; futures = gathered future_row ls; options = gathered option_row ls; stocks = gathered stock_row ls ++ (r ∷ []); prices = gathered price_row ls }
  unfolding day_of future_row option_row stock_row price_row
  rows_stock r = rows_more (stock r) refl ∙ rw (append-nil (gathered future_row ls), append-nil (gathered option_row ls), append-nil (gathered price_row ls))

  rows_price : (r : PriceRow) → rows_of (ls ++ (price r ∷ [])) ≡ record { day = day_of ls; futures = gathered future_row ls; options = gathered option_row ls; stocks = gathered stock_row ls; prices = gathered price_row ls ++ (r ∷ []) }
  unfolding day_of future_row option_row stock_row price_row
  rows_price r = rows_more (price r) refl ∙ rw (append-nil (gathered future_row ls), append-nil (gathered option_row ls), append-nil (gathered stock_row ls))

-- A D line stands first: none that is well in itself is before it.
none_before : (y : Line) → all_pass (own_checks y) ≡ true → bytes_order (rank y) (1 ∷ []) ≡ Less → ⊥
unfolding rank own_checks all_pass bytes_order order_of
none_before (head day) e lt = apart lt (λ q. omega arith)
none_before (future r) e lt = apart lt (λ q. omega arith)
none_before (option r) e lt = apart lt (λ q. omega arith)
none_before (stock r) e lt = apart lt (λ q. omega arith)
none_before (price r) e lt = apart lt (λ q. omega arith)
none_before formless e lt = clash e refl

head_first : (ls : List Line) (day : ℕ) → every_line (λ (x : Line). all_pass (own_checks x)) ls ≡ true → ascending rank (ls ++ (head day ∷ [])) ≡ true → ls ≡ []
unfolding every_line rank
head_first [] day e a = refl
head_first (y ∷ ls) day e a = absurd (none_before y (both_true (all_pass (own_checks y)) _ e).0 (before_last rank (head day) y ls a))

-- Lines that stand, with room for one more, and their sheet.
module _ {ls : List Line} (g : Good ls) (room : length ls < 1024) {sheet : Sheet} (is : sheet ≡ laid_out 0 0 (rows_of ls)) where
  pub head_laid : (day : ℕ) → all_pass (line_checks ls (head day)) ≡ true → with_day sheet day ≡ laid_out 0 0 (rows_of (ls ++ (head day ∷ [])))
  unfolding laid_out rows_of day_of gathered future_row option_row stock_row price_row
  head_laid day e = rw (is, head_first ls day g.own (line_passing ls (head day) e).in_order_lem)

  pub future_laid : (r : FutureRow) → all_pass (line_checks ls (future r)) ≡ true → with_futures sheet (set sheet.futures (future_place r.code) (found r.clearing)) ≡ laid_out 0 0 (rows_of (ls ++ (future r ∷ [])))
  unfolding laid_out rows_of future_row future_place clearing_in
  future_laid r e =
      let rows = gathered future_row ls in
      let new = row_new future_gives ls (future r) r refl (line_passing ls (future r) e).in_order_lem in
      rw is
      (ap (with_futures (laid_out 0 0 (rows_of ls)))
      (table_set (clearing_in rows) (clearing_in (rows ++ (r ∷ []))) (found r.clearing) r.code
      (found_last (λ (q : FutureRow). q.code) (λ (q : FutureRow). found q.clearing) nothing r rows r.code (same_self r.code) new)
      (λ d. found_others (λ (q : FutureRow). same_bytes q.code d) (λ (q : FutureRow). found q.clearing) nothing r rows)
      future_codes futures_differ)
      ∙ ap (laid_out 0 0) (sym (rows_future ls r)))

  pub option_laid : (r : OptionRow) → all_pass (line_checks ls (option r)) ≡ true → with_options sheet (set sheet.options (option_place r.code) r.line) ≡ laid_out 0 0 (rows_of (ls ++ (option r ∷ [])))
  unfolding laid_out rows_of option_row option_place index_in
  option_laid r e =
      let rows = gathered option_row ls in
      let new = row_new option_gives ls (option r) r refl (line_passing ls (option r) e).in_order_lem in
      rw is
      (ap (with_options (laid_out 0 0 (rows_of ls)))
      (table_set (index_in rows) (index_in (rows ++ (r ∷ []))) r.line r.code
      (found_last (λ (q : OptionRow). q.code) (λ (q : OptionRow). q.line) no_index r rows r.code (same_self r.code) new)
      (λ d. found_others (λ (q : OptionRow). same_bytes q.code d) (λ (q : OptionRow). q.line) no_index r rows)
      option_codes options_differ)
      ∙ ap (laid_out 0 0) (sym (rows_option ls r)))

  -- Q rows stand behind those before; there is room.
  pub quoted_room : sheet.quoted < 1024
  unfolding laid_out rows_of
  quoted_room = rw is (let h = prices_fewer ls in omega arith)

  pub price_laid : (r : PriceRow) → with_prices sheet (set sheet.prices sheet.quoted r) (sheet.quoted + 1) ≡ laid_out 0 0 (rows_of (ls ++ (price r ∷ [])))
  unfolding laid_out rows_of
  price_laid r =
      let rows = gathered price_row ls in
      let fewer = prices_fewer ls in
      let lt : length rows < 1024 = omega arith in
      rw is
      (rw (set_end 1024 no_price r rows lt, sym (length-append rows (r ∷ [])))
      (ap (laid_out 0 0) (sym (rows_price ls r))))

-- What the checks of a line say of the row that it gives.
quoted_known : (c : Class) → is_quoted c ≡ true → known c ≡ true
quoted_known Unknown e = e
quoted_known ListedFuture e = refl
quoted_known ListedOption e = refl
quoted_known StockFuture e = refl
quoted_known StockOption e = refl

two_pass : (a b : Bool) → both a (both b true) ≡ true → both (both a b) true ≡ true
two_pass true b e = e
two_pass false b e = e

future_good : (x : Line) → all_pass (own_checks x) ≡ true → every_line good_future (future_row x) ≡ true
unfolding every_line own_checks all_pass future_row good_future
future_good (head day) e = refl
future_good (future r) e = two_pass (among future_codes r.code) (clearing_fits r.clearing) e
future_good (option r) e = refl
future_good (stock r) e = refl
future_good (price r) e = refl
future_good formless e = refl

option_good : (x : Line) → all_pass (own_checks x) ≡ true → every_line good_option (option_row x) ≡ true
unfolding every_line own_checks all_pass option_row good_option
option_good (head day) e = refl
option_good (future r) e = refl
option_good (option r) e = two_pass (among option_codes r.code) (index_fits r.line) e
option_good (stock r) e = refl
option_good (price r) e = refl
option_good formless e = refl

stock_good : (x : Line) → all_pass (own_checks x) ≡ true → every_line good_stock (stock_row x) ≡ true
unfolding every_line own_checks all_pass stock_row good_stock
stock_good (head day) e = refl
stock_good (future r) e = refl
stock_good (option r) e = refl
stock_good (stock r) e = two_pass (two_capitals r.code) (stock_fits r.line) e
stock_good (price r) e = refl
stock_good formless e = refl

price_good : (x : Line) → all_pass (own_checks x) ≡ true → every_line good_price (price_row x) ≡ true
unfolding every_line own_checks all_pass price_row good_price
price_good (head day) e = refl
price_good (future r) e = refl
price_good (option r) e = refl
price_good (stock r) e = refl
price_good (price r) e =
    let c = class_of r.series in
    let t = both_true (is_quoted c) _ e in
    let u = both_true (is_day r.series.date) _ t.1 in
    let v = both_true (suits c r.series.nature) (leb r.price 100000000) (both_true (both (suits c r.series.nature) (leb r.price 100000000)) true u.1).0 in
    both_hold (both_hold (series_whole r.series (quoted_known c t.0) u.0 v.0) v.1) refl
price_good formless e = refl

-- The rows of lines that stand: in order, and what each says is in its range.
module _ {ls : List Line} (g : Good ls) where
  pub futures_ascend : ascending (λ (r : FutureRow). r.code) (gathered future_row ls) ≡ true
  futures_ascend = gathered_ascends future_gives ls g.in_order_lem

  pub options_ascend : ascending (λ (r : OptionRow). r.code) (gathered option_row ls) ≡ true
  options_ascend = gathered_ascends option_gives ls g.in_order_lem

  pub stocks_ascend : ascending (λ (r : StockRow). r.code) (gathered stock_row ls) ≡ true
  stocks_ascend = gathered_ascends stock_gives ls g.in_order_lem

  pub prices_ascend : ascending (λ (r : PriceRow). key r.series ∷ []) (gathered price_row ls) ≡ true
  prices_ascend = gathered_ascends price_gives ls g.in_order_lem

  pub futures_good : every_line good_future (gathered future_row ls) ≡ true
  futures_good = gathered_every future_row (λ (x : Line). all_pass (own_checks x)) good_future future_good ls g.own

  pub options_good : every_line good_option (gathered option_row ls) ≡ true
  options_good = gathered_every option_row (λ (x : Line). all_pass (own_checks x)) good_option option_good ls g.own

  pub stocks_good : every_line good_stock (gathered stock_row ls) ≡ true
  stocks_good = gathered_every stock_row (λ (x : Line). all_pass (own_checks x)) good_stock stock_good ls g.own

  pub prices_good : every_line good_price (gathered price_row ls) ≡ true
  prices_good = gathered_every price_row (λ (x : Line). all_pass (own_checks x)) good_price price_good ls g.own

-- An S row stands at its code's place.
module _ {ls : List Line} (g : Good ls) (r : StockRow) (e : all_pass (line_checks ls (stock r)) ≡ true) where
  row_good : every_line good_stock (r ∷ []) ≡ true
  unfolding stock_row
  row_good = stock_good (stock r) (line_passing ls (stock r) e).own

  is_two : (q : StockRow) → good_stock q ≡ true → two_capitals q.code ≡ true
  unfolding good_stock
  is_two q t = (both_true (two_capitals q.code) _ t).0

  all_two : every_line (λ (q : StockRow). two_capitals q.code) (gathered stock_row ls ++ (r ∷ [])) ≡ true
  all_two = every_weaker good_stock _ is_two (gathered stock_row ls ++ (r ∷ [])) (every_joined good_stock (gathered stock_row ls) (r ∷ []) (stocks_good g) row_good)

  two_here : two_capitals r.code ≡ true
  unfolding every_line
  two_here = is_two r (both_true (good_stock r) true row_good).0

  pub stocks_room : stock_place r.code < 676
  stocks_room = place_below r.code two_here

  pub stock_laid : {sheet : Sheet} → sheet ≡ laid_out 0 0 (rows_of ls) → with_stocks sheet (set sheet.stocks (stock_place r.code) r.line) ≡ laid_out 0 0 (rows_of (ls ++ (stock r ∷ [])))
  unfolding laid_out rows_of stock_row stock_at stock_in
  stock_laid is =
      let rows = gathered stock_row ls in
      let new = row_new stock_gives ls (stock r) r refl (line_passing ls (stock r) e).in_order_lem in
      rw is
      (ap (with_stocks (laid_out 0 0 (rows_of ls)))
      (tabled_set (stock_at rows) (stock_at (rows ++ (r ∷ []))) 676 (stock_place r.code)
      (stock_at_place (rows ++ (r ∷ [])) r.code all_two two_here
      ∙ found_last (λ (q : StockRow). q.code) (λ (q : StockRow). q.line) no_stock r rows r.code (same_self r.code) new)
      (λ i n. found_others (λ (q : StockRow). eqb (stock_place q.code) i) (λ (q : StockRow). q.line) no_stock r rows (ne_eqb _ _ (λ is. n (sym is)))))
      ∙ ap (laid_out 0 0) (sym (rows_stock ls r)))
