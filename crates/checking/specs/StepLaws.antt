-- Laws of the loop over lines: where a line begins, how it is refused, and what the next one finds.
use Rattle.std.proofs.Math.Path.{◌≡◌, refl, sym}
use Rattle.std.proofs.Common.{ap, ◌∙◌, ⊎_elim, drop_of_length-le, length-append}
use Rattle.std.specs.Prelude.{Bool, not, List, [], ◌∷◌, ◌++◌, eqb, get_or, take, drop, set, Option, Result, Ok, Err}
use Rattle.std.proofs.Math.Bool.{true, false}
use Prim.Native.Nat.{ℕ, suc, ◌+◌, ◌-◌, ◌<◌, ◌≤◌}
use native.Mathlib.Omega.{arith}
use Rattle.std.proofs.Math.Decide.{dec_lt}
use borrow.Author.Tests.{lt-leb, le-leb, eq-eqb, ne_eqb, lt-ltb, le-ltb}
use Rattle.std.proofs.Math.Dec.{ltb}
use Rattle.std.proofs.Math.ListN.{length, length-drop}
use Rattle.std.specs.declared.cmp.Ordering.TheVariants.{Less}
use Rattle.laws.specs.Truth.{pick, either}
use Rattle.laws.specs.TruthLaws.{false_unless}
use Rattle.laws.specs.declared.Refusal.{Refusal}
use Rattle.laws.specs.Refusals.{number_in}
use Rattle.laws.specs.Checks.{first_failing, all_pass}
use Rattle.laws.specs.CheckLaws.{none_fails, no_failure}
use Rattle.laws.specs.Order.{is_less, bytes_order}
use Rattle.lists.specs.Sorted.{ascending, ascending_from}
use Rattle.lists.specs.LastLaws.{after_last_lem}
use Rattle.lines.specs.declared.Asked.{Asked}
use Rattle.lines.specs.declared.Asked.TheVariants.{Nothing}
use Rattle.lines.specs.declared.Cell.{Cell}
use Rattle.lines.specs.declared.Field.{Field}
use Rattle.lines.specs.Pieces.{tab, lf, more, split_on, next_of, stop_of}
use Rattle.lines.specs.Fields.{field_at}
use Rattle.lines.specs.CutLaws.{next_low, part_more, part_last}
use Rattle.lines.specs.StopLaws.{stop_high, stop_within, line_at}
use Rattle.lines.specs.LoopLaws.{InLine, line_begins, stop_less, line_bad, line_room, line_on, line_end, line_done}
use Rattle.sheets.specs.declared.FutureRow.{FutureRow}
use Rattle.sheets.specs.declared.OptionRow.{OptionRow}
use Rattle.sheets.specs.declared.StockRow.{StockRow}
use Rattle.sheets.specs.declared.PriceRow.{PriceRow}
use Rattle.sheets.specs.declared.Sheet.{Sheet}
use Rattle.sheets.specs.Sheet.{future_place, option_place, stock_place, laid_out}
use Rattle.sheets.specs.Rows.{found, no_rows}
use Rattle.amounts.specs.declared.IndexLine.{IndexLine}
use Rattle.sheet_lines.specs.Lines.{Line, head, future, option, stock, price, formless, figure, future_from, option_from, stock_from, price_from, letter_in, form_of, said, sheet_line, rank, own_checks, checks_by, line_checks}
use Rattle.checking.specs.Reading.{rows_of, refused_at, judged_as, judge_lines, judged, sheet_of, read_sheet}
use Rattle.sheet_lines.specs.Facts.{asked_table, place_for, fields_for, number_for}
use Rattle.checking.specs.Next.{Good, with_day, with_futures, with_options, with_stocks, with_prices}
use Rattle.checking.specs.TurnLaws.{Letter, is_D, is_F, is_O, is_S, is_Q, form_few, form_at, line_formless, line_wrong, line_right, letter_known}
use Rattle.sheet_lines.specs.NumberLaws.{line_numbered}
use Rattle.checking.specs.RowLaws.{no_lines, none_good, more_good, head_laid, future_laid, option_laid, stocks_room, stock_laid, price_laid, quoted_room}

-- The number of a check that does not refuse.
pub no_number : (r : Result Unit Refusal) → ((q : Refusal) → r ≡ Err q → ⊥) → number_in r ≡ 0
no_number (Ok a) h = refl
no_number (Err q) h = absurd (h q refl)

-- what comes of the text t
abbrev pub answer_of : List ℕ → Sheet
answer_of t = sheet_of (judge_lines [] (split_on lf t))

-- A refusal is a sheet of no rows.
refusal : (number line : ℕ) → laid_out number line no_rows ≡ sheet_of (refused_at number line)
unfolding sheet_of refused_at
refusal number line = ap (laid_out number line) (sym no_lines)

-- What goes along behind the lines ls: their sheet, and the letter and cells of the last of them.
pub record Along (ls : List Line) (sheet : Sheet) (last : ℕ) (before : List Cell) : Type 0 where
  pub good : Good ls
  pub is : sheet ≡ laid_out 0 0 (rows_of ls)
  pub none : eqb last 0 ≡ eqb (length ls) 0
  pub after : (x : Line) → bytes_order [] (rank x) ≡ Less → ascending rank (ls ++ (x ∷ [])) ≡ is_less (bytes_order (rank (said last before)) (rank x))

along_none : (before : List Cell) → Along [] (laid_out 0 0 no_rows) 0 before
unfolding said rank ascending ascending_from sheet_of refused_at
along_none before = record { good = none_good; is = refusal 0 0; none = refl; after = λ x e. rw e }

-- The loop is at the place `at` behind so many lines.
pub record AtLine (t : List ℕ) (sheet : Sheet) (last : ℕ) (before : List Cell) (line at : ℕ) : Type 0 where
  pub lines : List Line
  pub along : Along lines sheet last before
  pub count : line ≡ length lines
  pub low : at ≤ length t
  pub goes : sheet_of (judge_lines lines (split_on lf (drop at t))) ≡ answer_of t

pub lines_start : (t : List ℕ) (before : List Cell) {sheet : Sheet} → sheet ≡ laid_out 0 0 no_rows → AtLine t sheet 0 before 0 0
lines_start t before e = rw e (record { lines = []; along = along_none before; count = refl; low = omega arith; goes = refl })

-- The loop is in a line, which begins at `at`.
pub record InText (t : List ℕ) (sheet : Sheet) (last : ℕ) (before : List Cell) (line at : ℕ) : Type 0 where
  pub lines : List Line
  pub along : Along lines sheet last before
  pub count : line ≡ suc (length lines)
  pub room : length lines < 1024
  pub low : at < length t
  pub goes : sheet_of (judge_lines lines (split_on lf (drop at t))) ≡ answer_of t

-- It is at the end of a line, of which the row is all but its LF.
pub record AtRow (t : List ℕ) (sheet : Sheet) (last : ℕ) (before : List Cell) (line at end : ℕ) (row : List ℕ) : Type 0 where
  pub lines : List Line
  pub along : Along lines sheet last before
  pub count : line ≡ suc (length lines)
  pub room : length lines < 1024
  pub begins : at ≤ end
  pub low : end < length t
  pub goes : sheet_of (judge_lines lines (more row (split_on lf (drop (end + 1) t)))) ≡ answer_of t

module _ {t : List ℕ} {sheet : Sheet} {last : ℕ} {before : List Cell} {line at : ℕ} (a : AtLine t sheet last before line at) where
  -- There are no more lines than a sheet may have.
  pub line_small : line ≤ 1024
  line_small = let few = a.along.good.few in let c = a.count in omega arith

  -- The text has ended.
  pub lines_end : at ≡ length t → sheet ≡ answer_of t
  unfolding judge_lines split_on judged_as sheet_of
  lines_end e = let le : length t ≤ at = omega arith in a.along.is ∙ rw (drop_of_length-le t le) at a.goes

  module _ (some : at ≡ length t → ⊥) where
    -- Line 1,025 is not looked at.
    pub line_over : 1024 < line + 1 → laid_out 2 (line + 1) no_rows ≡ answer_of t
    unfolding judge_lines
    line_over over = go (dec_lt (next_of t at lf) (length t))
      where
        full : ltb (length a.lines) 1024 ≡ false
        full = let c = a.count in le-ltb (length a.lines) 1024 (omega arith)

        place : suc (length a.lines) ≡ line + 1
        place = let c = a.count in omega arith

        go : Dec (next_of t at lf < length t) → laid_out 2 (line + 1) no_rows ≡ answer_of t
        go (yes q) = refusal 2 (line + 1) ∙ rw (part_more t at lf refl a.low q, full, place) at a.goes
        go (no q) =
            let low = a.low in
            let l = length-drop at t in
            let rest = ne_eqb (length (drop at t)) 0 (λ z. omega arith) in
            refusal 2 (line + 1) ∙ rw (part_last t at lf refl low (omega arith), rest, full, place) at a.goes

    -- Another line begins.
    line_opens : line + 1 ≤ 1024 → InText t sheet last before (line + 1) at
    line_opens within =
        let low = a.low in
        let c = a.count in
        record { lines = a.lines; along = a.along; count = omega arith; room = omega arith; low = omega arith; goes = a.goes }

module _ {t : List ℕ} {sheet : Sheet} {last : ℕ} {before : List Cell} {line at : ℕ} (a : InText t sheet last before line at) where
  -- It has no LF.
  line_unended : length t ≤ next_of t at lf → laid_out 1 line no_rows ≡ answer_of t
  unfolding judge_lines
  line_unended e =
      let low = a.low in
      let c = a.count in
      let l = length-drop at t in
      let rest = ne_eqb (length (drop at t)) 0 (λ z. omega arith) in
      let place : suc (length a.lines) ≡ line = omega arith in
      refusal 1 line ∙ rw (part_last t at lf refl (omega arith) e, rest, lt-ltb (length a.lines) 1024 a.room, place) at a.goes

  row_ends : {end : ℕ} → end ≡ next_of t at lf → end < length t → AtRow t sheet last before line at end (line_at t at)
  unfolding line_at
  row_ends {end} is lt =
      let low = a.low in
      let first = next_low t at lf in
      record { lines = a.lines; along = a.along; count = a.count; room = a.room; begins = omega arith; low = lt; goes = rw (sym is, sym (part_more t at lf is (omega arith) lt)) a.goes }

module _ {t : List ℕ} {sheet : Sheet} {last : ℕ} {before : List Cell} {line at end : ℕ} {row : List ℕ} (a : AtRow t sheet last before line at end row) where
  -- Each line leaves less of the text.
  pub line_less : length t - (end + 1) < length t - at
  line_less = let begins = a.begins in let low = a.low in omega arith

  judged_row : (x : Line) → sheet_line row ≡ x → sheet_of (pick (all_pass (line_checks a.lines x)) (judge_lines (a.lines ++ (x ∷ [])) (split_on lf (drop (end + 1) t))) (refused_at (first_failing (line_checks a.lines x)) line)) ≡ answer_of t
  unfolding judge_lines
  judged_row x says = let place = a.count in rw (lt-ltb (length a.lines) 1024 a.room, says, ← place) at a.goes

  -- A row whose checks fail.
  row_refused : {number : ℕ} (x : Line) → sheet_line row ≡ x → first_failing (line_checks a.lines x) ≡ number → (number ≡ 0 → ⊥) → laid_out number line no_rows ≡ answer_of t
  row_refused {number} x says e n =
      let fails = false_unless (all_pass (line_checks a.lines x)) (λ p. n (sym e ∙ none_fails _ p)) in
      refusal number line ∙ rw (fails, e) at (judged_row x says)

  row_formless : sheet_line row ≡ formless → laid_out 1 line no_rows ≡ answer_of t
  unfolding line_checks checks_by own_checks first_failing
  row_formless says = row_refused formless says (either_way (eqb (length a.lines) 0)) (λ z. omega arith)
    where
      either_way : (first : Bool) → ◌≡◌ {A = ℕ} (pick (either (not first) false) 1 1) 1
      either_way true = refl
      either_way false = refl

-- A line that its letter tells has a rank.
said_ranked : {letter : ℕ} (cs : List Cell) → Letter letter → bytes_order [] (rank (said letter cs)) ≡ Less
unfolding said rank bytes_order
said_ranked cs (is_D e) = rw e
said_ranked cs (is_F e) = rw e
said_ranked cs (is_O e) = rw e
said_ranked cs (is_S e) = rw e
said_ranked cs (is_Q e) = rw e

-- A line of the form: what its letter and cells say, and its number.
pub record SaidRow (t : List ℕ) (sheet : Sheet) (last : ℕ) (before : List Cell) (line at end letter : ℕ) (cells : List Cell) (number : ℕ) : Type 0 where
  pub row : List ℕ
  pub at_row : AtRow t sheet last before line at end row
  pub says : sheet_line row ≡ said letter cells
  pub known : Letter letter
  pub number_is : number ≡ number_for letter cells last before

module _ {t : List ℕ} {sheet : Sheet} {last : ℕ} {before : List Cell} {line at end letter : ℕ} {cells : List Cell} {number : ℕ} (q : SaidRow t sheet last before line at end letter cells number) where
  abbrev here : AtRow t sheet last before line at end q.row
  here = q.at_row

  abbrev ls : List Line
  ls = q.at_row.lines

  along : Along ls sheet last before
  along = q.at_row.along

  worked : first_failing (line_checks ls (said letter cells)) ≡ number
  unfolding line_checks number_for
  worked = sym (q.number_is ∙ rw (along.none, sym (along.after (said letter cells) (said_ranked cells q.known))))

  pub number_refused : (number ≡ 0 → ⊥) → laid_out number line no_rows ≡ answer_of t
  number_refused n = row_refused here (said letter cells) q.says worked n

  -- A row of the number 0 passes its checks.
  module _ (zero_is : number ≡ 0) where
    passes : all_pass (line_checks ls (said letter cells)) ≡ true
    unfolding line_checks
    passes = no_failure (line_checks ls (said letter cells)) (line_numbered _ _ (said letter cells)) (worked ∙ zero_is)

    passes_as : {x : Line} → said letter cells ≡ x → all_pass (line_checks ls x) ≡ true
    passes_as e = ap (λ (x : Line). all_pass (line_checks ls x)) (sym e) ∙ passes

    next_along : {sheet' : Sheet} → sheet' ≡ laid_out 0 0 (rows_of (ls ++ (said letter cells ∷ []))) → Along (ls ++ (said letter cells ∷ [])) sheet' letter cells
    next_along e =
        record {
          good = more_good (said letter cells) along.good here.room passes;
          is = e;
          none = ne_eqb letter 0 (not_zero q.known) ∙ sym (ne_eqb (length (ls ++ (said letter cells ∷ []))) 0 (λ z. let l = length-append ls (said letter cells ∷ []) in omega arith));
          after = λ x r. after_last_lem rank x (said letter cells) ls (more_good (said letter cells) along.good here.room passes).in_order_lem;
        }
      where
        not_zero : Letter letter → letter ≡ 0 → ⊥
        not_zero (is_D d) z = omega arith
        not_zero (is_F d) z = omega arith
        not_zero (is_O d) z = omega arith
        not_zero (is_S d) z = omega arith
        not_zero (is_Q d) z = omega arith

    next_line : {x : Line} {sheet' : Sheet} → said letter cells ≡ x → sheet' ≡ laid_out 0 0 (rows_of (ls ++ (x ∷ []))) → AtLine t sheet' letter cells line (end + 1)
    next_line {x} {sheet'} e is =
        let c = here.count in
        let low = here.low in
        let l = length-append ls (said letter cells ∷ []) in
        record {
          lines = ls ++ (said letter cells ∷ []);
          along = next_along (is ∙ ap (λ (y : Line). laid_out 0 0 (rows_of (ls ++ (y ∷ [])))) (sym e));
          count = omega arith;
          low = omega arith;
          goes = rw passes at (judged_row here (said letter cells) q.says);
        }

    -- what each letter's line says
    says_head : letter ≡ 68 → said letter cells ≡ head (figure cells 0)
    unfolding said
    says_head l = rw l

    says_future : letter ≡ 70 → said letter cells ≡ future (future_from cells)
    unfolding said
    says_future l = rw l

    says_option : letter ≡ 79 → said letter cells ≡ option (option_from cells)
    unfolding said
    says_option l = rw l

    says_stock : letter ≡ 83 → said letter cells ≡ stock (stock_from cells)
    unfolding said
    says_stock l = rw l

    says_price : letter ≡ 81 → said letter cells ≡ price (price_from cells)
    unfolding said
    says_price l = rw l

    -- A D line.
    pub head_next : letter ≡ 68 → AtLine t (with_day sheet (figure cells 0)) letter cells line (end + 1)
    head_next l = next_line (says_head l) (head_laid along.good here.room along.is (figure cells 0) (passes_as (says_head l)))

    -- An F line.
    pub future_next : letter ≡ 70 → {r : FutureRow} {rows : List (Option ℕ)} → r ≡ future_from cells → rows ≡ set sheet.futures (future_place r.code) (found r.clearing) → AtLine t (with_futures sheet rows) letter cells line (end + 1)
    future_next l is e = rw (e, is) (next_line (says_future l) (future_laid along.good here.room along.is (future_from cells) (passes_as (says_future l))))

    -- An O line.
    pub option_next : letter ≡ 79 → {r : OptionRow} {rows : List IndexLine} → r ≡ option_from cells → rows ≡ set sheet.options (option_place r.code) r.line → AtLine t (with_options sheet rows) letter cells line (end + 1)
    option_next l is e = rw (e, is) (next_line (says_option l) (option_laid along.good here.room along.is (option_from cells) (passes_as (says_option l))))

    -- An S line.
    pub stock_room : letter ≡ 83 → {r : StockRow} {n : ℕ} → r ≡ stock_from cells → n ≡ stock_place r.code → n < 676
    stock_room l is e = rw (e, is) (stocks_room along.good (stock_from cells) (passes_as (says_stock l)))

    pub stock_next : letter ≡ 83 → {r : StockRow} {n : ℕ} → r ≡ stock_from cells → n ≡ stock_place r.code → AtLine t (with_stocks sheet (set sheet.stocks n r.line)) letter cells line (end + 1)
    stock_next l is e = rw (e, is) (next_line (says_stock l) (stock_laid along.good (stock_from cells) (passes_as (says_stock l)) along.is))

    -- A Q line.
    pub price_room : sheet.quoted < 1024
    price_room = quoted_room along.good here.room along.is

    pub price_next : letter ≡ 81 → {r : PriceRow} → r ≡ price_from cells → AtLine t (with_prices sheet (set sheet.prices sheet.quoted r) (sheet.quoted + 1)) letter cells line (end + 1)
    price_next l is = rw is (next_line (says_price l) (price_laid along.good here.room along.is (price_from cells)))

  -- It is Q where it is none of the others.
  pub letter_Q : (letter ≡ 68 → ⊥) → (letter ≡ 70 → ⊥) → (letter ≡ 79 → ⊥) → (letter ≡ 83 → ⊥) → letter ≡ 81
  letter_Q d f o s = the_last q.known
    where
      the_last : Letter letter → letter ≡ 81
      the_last (is_D l) = absurd (d l)
      the_last (is_F l) = absurd (f l)
      the_last (is_O l) = absurd (o l)
      the_last (is_S l) = absurd (s l)
      the_last (is_Q l) = l

-- A line that has not the form.
line_formless_at : {t : List ℕ} {sheet : Sheet} {last : ℕ} {before : List Cell} {line at : ℕ} → InText t sheet last before line at → sheet_line (line_at t at) ≡ formless → laid_out 1 line no_rows ≡ answer_of t
line_formless_at {t} {line = line} {at = at} a says = go (dec_lt (next_of t at lf) (length t))
  where
    go : Dec (next_of t at lf < length t) → laid_out 1 line no_rows ≡ answer_of t
    go (yes q) = row_formless (row_ends a refl q) says
    go (no q) = line_unended a (omega arith)

-- The loop is among the fields of a line.
pub record InRow (t : List ℕ) (sheet : Sheet) (last : ℕ) (before : List Cell) (line at first letter : ℕ) (cells : List Cell) (k stop : ℕ) : Type 0 where
  pub in_text : InText t sheet last before line at
  pub in_line : InLine letter_in form_of 12 t at first letter cells k stop

module _ {t : List ℕ} {sheet : Sheet} {last : ℕ} {before : List Cell} {line at : ℕ} (a : AtLine t sheet last before line at) (some : at ≡ length t → ⊥) (within : line + 1 ≤ 1024) {stop : ℕ} (is : stop ≡ stop_of t at) where
  -- The text ends with the letter.
  pub letter_unended : stop ≡ length t → laid_out 1 (line + 1) no_rows ≡ answer_of t
  letter_unended e = line_unended (line_opens a some within) (let w = stop_within t at (omega arith) (next_low t at lf) in omega arith)

  pub letter_high : stop ≤ length t
  letter_high = let h = stop_high t at a.low in omega arith

  pub row_begins : (stop ≡ length t → ⊥) → {letter : ℕ} (cells : List Cell) → letter ≡ letter_in (take (stop - at) (drop at t)) → length cells ≡ 12 → InRow t sheet last before (line + 1) at stop letter cells 0 stop
  row_begins n cells l long = let h = letter_high in record { in_text = line_opens a some within; in_line = line_begins t at cells is (omega arith) l long }

module _ {t : List ℕ} {sheet : Sheet} {last : ℕ} {before : List Cell} {line at first letter : ℕ} {cells : List Cell} {k stop : ℕ} (a : InRow t sheet last before line at first letter cells k stop) where
  -- What is asked of the next field.
  module _ {place : ℕ} (place_is : place ≡ place_for letter) where
    pub kind_fits : place + k < 34
    kind_fits = rw place_is (form_at letter k a.in_line.fields.fields.few).0

    module _ {table : List Asked} (table_is : table ≡ asked_table) (is-tab : get_or t stop 0 ≡ tab) {f : Field} (is : f ≡ field_at (get_or table (place + k) Nothing) t (stop + 1)) where
      kind_is : get_or table (place + k) Nothing ≡ get_or (form_of letter) k Nothing
      kind_is = rw (table_is, place_is) (form_at letter k a.in_line.fields.fields.few).1

      -- A field without its form.
      pub field_refused : not f.cell.right ≡ true → laid_out 1 line no_rows ≡ answer_of t
      field_refused e =
          ⊎_elim (line_unended a.in_text) (λ bad. line_formless_at a.in_text (line_formless a.in_line.fields bad)) (line_bad a.in_line is-tab kind_is is e)

      module _ (e : not f.cell.right ≡ false) where
        pub cell_fits : k < 12
        cell_fits = line_room a.in_line is-tab kind_is is (form_few letter) e

        pub field_less : length t - f.stop < length t - stop
        field_less = stop_less a.in_line is-tab kind_is is e

        pub in_row_on : InRow t sheet last before line at first letter (set cells k f.cell) (k + 1) f.stop
        in_row_on = record { in_text = a.in_text; in_line = line_on a.in_line is-tab kind_is is (form_few letter) e }

  -- Behind the last field.
  module _ (no_tab : get_or t stop 0 ≡ tab → ⊥) {fields : ℕ} (fields-is : fields ≡ fields_for letter) where
    pub fields_refused : (k ≡ fields → ⊥) → laid_out 1 line no_rows ≡ answer_of t
    fields_refused n = line_formless_at a.in_text (line_wrong a.in_line.fields (line_done a.in_line no_tab) (λ e. n (e ∙ sym fields-is)))

    -- The line has the form.
    pub row_said : {number : ℕ} → k ≡ fields → number ≡ number_for letter cells last before → SaidRow t sheet last before line at stop letter cells number
    row_said e is =
        record {
          row = line_at t at;
          at_row = row_ends a.in_text (line_end a.in_line no_tab) a.in_line.inside;
          says = line_right a.in_line.fields (line_done a.in_line no_tab) (e ∙ fields-is);
          known = letter_known a.in_line.fields (line_done a.in_line no_tab) (e ∙ fields-is);
          number_is = is;
        }

-- The whole text: too long, empty, or read line by line.
module _ (t : List ℕ) where
  pub text_long : 65536 < length t → laid_out 2 0 no_rows ≡ read_sheet t
  unfolding read_sheet judged
  text_long h = refusal 2 0 ∙ rw (lt-leb (length t) 65536 h)

  pub text_empty : length t ≤ 65536 → length t ≡ 0 → laid_out 1 0 no_rows ≡ read_sheet t
  unfolding read_sheet judged
  text_empty le e = refusal 1 0 ∙ rw (le-leb (length t) 65536 le, eq-eqb (length t) 0 e)

  pub text_read : length t ≤ 65536 → (length t ≡ 0 → ⊥) → answer_of t ≡ read_sheet t
  unfolding read_sheet judged
  text_read le n = rw (le-leb (length t) 65536 le, ne_eqb (length t) 0 n)
