-- Document 01, "Rates and amounts": "Free long options cost nothing", of a whole book: one that opens long lots of an option needs and comes
-- to what it did, so it has the margin that it had, on every text.
use Rattle.std.specs.Prelude.{◌≡◌, Bool, true, false, ℕ, ◌+◌, ◌-◌, get_or}
use Rattle.std.proofs.Math.Path.{refl, ap, sym}
use Rattle.std.proofs.Common.{◌∙◌, ne_eqb}
use mathlib.Core.List.{List, [], ◌∷◌, ◌++◌, map}
use native.Mathlib.Omega.{arith}
use Rattle.std.proofs.Math.Dec.{eqb}
use Rattle.laws.specs.Truth.{pick, both}
use Rattle.laws.specs.TruthLaws.{by_test}
use Rattle.laws.specs.Search.{every_line, gathered}
use Rattle.laws.specs.SearchLaws.{every_append}
use Rattle.laws.specs.Checks.{first_failing}
use Rattle.lists.specs.Sorted.{sum_of, stands, kept}
use Rattle.lists.specs.SortedLaws.{look_none, look_every, sum_kept}
use Rattle.series.specs.declared.Series.{Series}
use Rattle.series.specs.declared.Side.TheVariants.{Long, Short}
use Rattle.series.specs.Checks.{good_series}
use Rattle.series.specs.Natures.{is_future}
use Rattle.levels.specs.declared.Levels.{Levels}
use Rattle.levels.specs.Levels.{flat}
use Rattle.rows.specs.declared.Holding.{Holding}
use Rattle.rows.specs.declared.Book.{Book}
use Rattle.rows.specs.Rows.{series_rank, holding_rank, new_holding, no_lots, added}
use Rattle.rows.specs.RowLaws.{no_lots_lem}
use Rattle.rows.specs.Book.{holdings_of, pairs_of, with_holdings, holding_in}
use Rattle.rows.specs.BookLaws.{new_holdings, same_pairs}
use Rattle.rules.specs.Lots.{tied, total, free_holding, free_rows}
use Rattle.rules.specs.Rules.{good_holding, sound_book}
use Rattle.rules.specs.RuleLaws.{holding_is, sound_back, holdings_good, holdings_order}
use Rattle.calls.specs.Calls.{held_of, open_checks, opened, open_answer}
use Rattle.calls.specs.Facts.{Opens}
use Rattle.calls.specs.CallLaws.{outcome_has}
use Rattle.calls.specs.PassLaws.{open_passes}
use Rattle.calls.specs.OpenLaws.{open_sound}
use Rattle.calls.specs.PairedLaws.{one_series}
use Rattle.sheets.specs.declared.Sheet.{Sheet}
use Rattle.checking.specs.Reading.{read_sheet}
use Rattle.sheets.specs.View.{View, sheet_view}
use Rattle.quotes.specs.Quotes.{SheetLine, on_sheet}
use Rattle.account.specs.declared.Margin.{Margin}
use Rattle.account.specs.Needed.{needed_by_holding, needed_by_pair, needed_by}
use Rattle.account.specs.Margin.{plus, holding_margin, pair_margin, sum_levels, pays_c, account_margin, margin_checks, margin_number, margin_line, margin_on, margin_text}
use Rattle.same_answer.specs.FreeLaws.{needed_same, margin_same, free_needs, free_costs}

-- The call goes by four things of the book: that it is sound, its day, whether its lines stand, and what it comes to.
abbrev answer : Sheet → Bool → ℕ → Bool → Levels → Margin
answer sheet sound day ready levels =
    let n = pick sound (pick (eqb sheet.number 0) (pick (eqb sheet.day day) (pick ready 0 14) 13) sheet.number) 16 in
    pick (eqb n 0) (record { number = 0; line = 0; levels = levels })
    (record { number = n; line = pick sound (pick (eqb sheet.number 0) 0 sheet.line) 0; levels = flat 0 })

same_call : (a b : Book) (sheet : Sheet) → sound_book a ≡ sound_book b → a.day ≡ b.day
    → every_line (on_sheet (sheet_view sheet)) (needed_by a) ≡ every_line (on_sheet (sheet_view sheet)) (needed_by b)
    → account_margin (sheet_view sheet) a ≡ account_margin (sheet_view sheet) b → margin_on a sheet ≡ margin_on b sheet
unfolding margin_on margin_number margin_line margin_checks first_failing
same_call a b sheet sound day ready levels = λ i. answer sheet (sound i) (day i) (ready i) (levels i)

-- Rows as they are mapped: a sum, and whether all lines stand, as the count of the rows of which one does not.
sum_mapped : {A B : Type 0} (f : B → ℕ) (g : A → B) (l : List A) → sum_of f (map g l) ≡ sum_of (λ (x : A). f (g x)) l
unfolding sum_of
sum_mapped f g [] = refl
sum_mapped f g (x ∷ l) = ap (λ (n : ℕ). f (g x) + n) (sum_mapped f g l)

module _ {A B : Type 0} (test : B → Bool) (f : A → List B) where
  unfoldable missing : A → ℕ
  missing x = pick (every_line test (f x)) 0 1

  every_counted : (l : List A) → every_line test (gathered f l) ≡ eqb (sum_of missing l) 0
  unfolding every_line gathered sum_of missing
  every_counted [] = refl
  every_counted (x ∷ l) =
      every_append test (f x) (gathered f l)
      ∙ ap (both (every_line test (f x))) (every_counted l)
      ∙ by_test (λ (b : Bool). both b (eqb (sum_of missing l) 0) ≡ eqb (pick b 0 1 + sum_of missing l) 0) (every_line test (f x))
      (λ q. let z : sum_of missing l ≡ 0 + sum_of missing l = omega arith in ap (λ (n : ℕ). eqb n 0) z)
      (λ q. sym (ne_eqb (1 + sum_of missing l) 0 (λ e. omega arith)))

-- What is held of a series that passes its checks is the row that stands.
held_is : (hs : List Holding) (s : Series) → every_line good_holding hs ≡ true → good_series s ≡ true → holding_in hs s ≡ held_of hs s
unfolding holding_in held_of total holding_rank series_rank
held_is hs s g gs =
    let is : (holding_in hs s).series ≡ s =
    by_test (λ (b : Bool). stands holding_rank (series_rank s) hs ≡ b → (holding_in hs s).series ≡ s) (stands holding_rank (series_rank s) hs)
    (λ q e.
    let k = look_every holding_rank good_holding (new_holding s) (series_rank s) hs g e in
    one_series _ s (holding_is (holding_in hs s) k.0).series_good gs (ap (λ (l : List ℕ). get_or l 0 0) k.1))
    (λ q e. ap (λ (h : Holding). h.series) (look_none holding_rank (new_holding s) (series_rank s) hs e))
    refl in
    λ i. record { series = is i; long = (holding_in hs s).long; short = (holding_in hs s).short }

module _ {b : Book} {s : Series} {n : ℕ} (o : Opens b s Long n) (option : is_future s.nature ≡ false) where
  abbrev rows_then : List Holding
  rows_then = kept holding_rank no_lots (added Long n (held_of (holdings_of b) s)) (holdings_of b)

  -- What goes by the series and the short lots of an option's row, and is nothing where there are none, sums up as it did.
  sum_opened : (f : Holding → ℕ) → ((h k : Holding) → h.series ≡ k.series → h.short ≡ k.short → is_future k.series.nature ≡ false → f h ≡ f k) → f (new_holding s) ≡ 0 → sum_of f rows_then ≡ sum_of f (holdings_of b)
  unfolding held_of holding_in holding_rank
  sum_opened f same none =
      let hs = holdings_of b in
      let x = added Long n (held_of hs s) in
      let k = sum_kept holding_rank no_lots (new_holding s) x hs (holdings_order o.sound) f none (no_lots_lem x) in
      let e : f x ≡ f (holding_in hs s) = same x (held_of hs s) refl refl option ∙ ap f (sym (held_is hs s (holdings_good o.sound) o.series_good)) in
      omega arith

  -- the free rows of which are
  module _ (f : Holding → ℕ) (same : (h k : Holding) → h.series ≡ k.series → h.short ≡ k.short → is_future k.series.nature ≡ false → f h ≡ f k)
      (none : (h : Holding) → is_future h.series.nature ≡ false → h.short ≡ 0 → f h ≡ 0) where
    sum_free : sum_of f (free_rows rows_then (pairs_of b)) ≡ sum_of f (free_rows (holdings_of b) (pairs_of b))
    unfolding free_rows free_holding
    sum_free =
        let ps = pairs_of b in
        sum_mapped f (free_holding ps) rows_then
        ∙ sum_opened (λ (h : Holding). f (free_holding ps h))
        (λ h k e q z. same (free_holding ps h) (free_holding ps k) e (λ i. q i - tied ps (e i) Short) z)
        (none (free_holding ps (new_holding s)) option (omega arith))
        ∙ sym (sum_mapped f (free_holding ps) (holdings_of b))

  level_free : (v : View) (level : Levels → ℕ) → level (flat 0) ≡ 0 → sum_of (λ (h : Holding). level (holding_margin v h)) (free_rows rows_then (pairs_of b)) ≡ sum_of (λ (h : Holding). level (holding_margin v h)) (free_rows (holdings_of b) (pairs_of b))
  level_free v level zero =
      sum_free (λ (h : Holding). level (holding_margin v h)) (λ h k e q z. ap level (margin_same h k e q z v)) (λ h e q. ap level (free_costs h e q v) ∙ zero)

  margin_free : (v : View) → sum_levels (holding_margin v) (free_rows rows_then (pairs_of b)) ≡ sum_levels (holding_margin v) (free_rows (holdings_of b) (pairs_of b))
  unfolding sum_levels
  margin_free v =
      let c = level_free v (λ (l : Levels). l.clearing) refl in
      let m = level_free v (λ (l : Levels). l.maintenance) refl in
      let n = level_free v (λ (l : Levels). l.initial) refl in
      λ i. record { clearing = c i; maintenance = m i; initial = n i }

  needed_free : (test : SheetLine → Bool) → every_line test (gathered needed_by_holding (free_rows rows_then (pairs_of b))) ≡ every_line test (gathered needed_by_holding (free_rows (holdings_of b) (pairs_of b)))
  unfolding missing every_line
  needed_free test =
      every_counted test needed_by_holding (free_rows rows_then (pairs_of b))
      ∙ ap (λ (n : ℕ). eqb n 0)
      (sum_free (missing test needed_by_holding)
      (λ h k e q z. ap (λ (l : List SheetLine). pick (every_line test l) 0 1) (needed_same h k e q z))
      (λ h e q. ap (λ (l : List SheetLine). pick (every_line test l) 0 1) (free_needs h e q)))
      ∙ sym (every_counted test needed_by_holding (free_rows (holdings_of b) (pairs_of b)))

  then_rows : holdings_of (opened b s Long n) ≡ rows_then
  unfolding opened
  then_rows = new_holdings b rows_then

  then_pairs : pairs_of (opened b s Long n) ≡ pairs_of b
  unfolding opened
  then_pairs = same_pairs b rows_then

  opened_margin : (v : View) → account_margin v (opened b s Long n) ≡ account_margin v b
  unfolding account_margin
  opened_margin v =
      (λ i. plus (sum_levels (holding_margin v) (free_rows (then_rows i) (then_pairs i))) (sum_levels (pair_margin v (pays_c b)) (then_pairs i)))
      ∙ ap (λ (l : Levels). plus l (sum_levels (pair_margin v (pays_c b)) (pairs_of b))) (margin_free v)

  opened_needed : (test : SheetLine → Bool) → every_line test (needed_by (opened b s Long n)) ≡ every_line test (needed_by b)
  unfolding needed_by
  opened_needed test =
      (λ i. every_line test (gathered needed_by_holding (free_rows (then_rows i) (then_pairs i)) ++ gathered needed_by_pair (then_pairs i)))
      ∙ every_append test _ _
      ∙ ap (λ (t : Bool). both t (every_line test (gathered needed_by_pair (pairs_of b)))) (needed_free test)
      ∙ sym (every_append test _ _)

  opened_call : (sheet : Sheet) → margin_on (opened b s Long n) sheet ≡ margin_on b sheet
  unfolding opened with_holdings
  opened_call sheet =
      same_call (opened b s Long n) b sheet (sound_back _ (open_sound o) ∙ sym (sound_back b o.sound)) refl (opened_needed (on_sheet (sheet_view sheet))) (opened_margin (sheet_view sheet))

-- Opening long lots of an option, accepted or refused, alters no margin.
pub open_long_free : (b : Book) (s : Series) (n : ℕ) → is_future s.nature ≡ false → (t : List ℕ) → margin_text (open_answer b s Long n).book t ≡ margin_text b t
unfolding open_answer margin_text
open_long_free b s n option t =
    outcome_has (open_checks b s Long n) b (opened b s Long n) (λ (c : Book). margin_on c (read_sheet t) ≡ margin_on b (read_sheet t)) refl
    (λ all. opened_call (open_passes b s Long n all) option (read_sheet t))
