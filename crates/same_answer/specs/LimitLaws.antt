-- Document 01, "Rates and amounts": "The account's margin is the sum." How large it can be: no margin call answers more than account_limit at any
-- level, whatever the book and the sheet.
use Rattle.std.specs.Prelude.{◌≡◌, Bool, ℕ, ◌+◌, ◌*◌, ◌≤◌, eqb, length}
use Rattle.std.proofs.Math.Path.{refl, sym}
use Rattle.std.proofs.Common.{◌∙◌}
use Rattle.std.proofs.Math.Bool.{true}
use mathlib.Core.List.{List, [], ◌∷◌}
use Rattle.std.proofs.Math.Nat.{suc-mul}
use native.Mathlib.Omega.{arith}
use Rattle.laws.specs.Truth.{pick, both}
use Rattle.laws.specs.TruthLaws.{both_true, both_hold, by_test, picked, clash}
use Rattle.laws.specs.Search.{every_line, gathered}
use Rattle.laws.specs.SearchLaws.{every_append, every_gathered}
use Rattle.laws.specs.Checks.{all_pass}
use Rattle.laws.specs.CheckLaws.{none_fails}
use Rattle.lists.specs.Sorted.{sum_of}
use Rattle.codes.specs.declared.Class.{Class}
use Rattle.codes.specs.Codes.{is_future_class}
use Rattle.series.specs.declared.Nature.{Nature}
use Rattle.series.specs.declared.Nature.TheVariants.{Future, Call, Put}
use Rattle.series.specs.Natures.{is_future}
use Rattle.series.specs.Checks.{suits, class_of}
use Rattle.series.specs.CheckLaws.{series_parts}
use Rattle.levels.specs.declared.Levels.{Levels}
use Rattle.levels.specs.Ranges.{AtMost}
use Rattle.rows.specs.declared.Holding.{Holding}
use Rattle.rows.specs.declared.Pair.{Pair}
use Rattle.rows.specs.declared.Book.{Book}
use Rattle.rows.specs.Book.{holdings_of, pairs_of}
use Rattle.rules.specs.Lots.{free_holding, free_rows}
use Rattle.rules.specs.Rules.{good_holding, good_pair, sound_book}
use Rattle.rules.specs.RuleLaws.{holding_is, pair_is, counts_are, sound_is, holdings_good, pairs_good, holdings_count, pairs_count}
use Rattle.units.specs.Units.{unit_checks, unit_number}
use Rattle.units.specs.LimitLaws.{unit_is}
use Rattle.units.specs.UnitLaws.{account_limit, futures_most, options_most, pair_most}
use Rattle.sheets.specs.declared.Sheet.{Sheet}
use Rattle.sheets.specs.View.{View, sheet_view}
use Rattle.quotes.specs.Quotes.{on_sheet, quote_of}
use Rattle.quotes.specs.QuoteLaws.{lot_most, future_most_lot}
use Rattle.account.specs.declared.Margin.{Margin}
use Rattle.account.specs.Needed.{charged_lots, needed_by_holding, needed_by_pair, needed_by}
use Rattle.account.specs.Margin.{times, holding_margin, pair_margin, sum_levels, pays_c, account_margin, margin_checks, margin_number, margin_on}
use Rattle.account.specs.RowLaws.{pair_ready_lem, unit_taken}
use Rattle.account.specs.CallLaws.{margin_by_number}

-- A sum over rows that each come to so much at most.
module _ {A : Type 0} (good : A → Bool) (f : A → Levels) (most : ℕ) (each : (x : A) → good x ≡ true → AtMost most (f x)) where
  pub sum_limit : (l : List A) → every_line good l ≡ true → AtMost (length l * most) (sum_levels f l)
  unfolding sum_levels sum_of every_line
  sum_limit [] e = record { at_clearing = omega arith; at_maintenance = omega arith; at_initial = omega arith }
  sum_limit (x ∷ l) e =
      let k = both_true (good x) (every_line good l) e in
      let h = each x k.0 in
      let t = sum_limit l k.1 in
      let m = suc-mul (length l) most in
      record {
        at_clearing = omega (arith, h.at_clearing, t.at_clearing, m);
        at_maintenance = omega (arith, h.at_maintenance, t.at_maintenance, m);
        at_initial = omega (arith, h.at_initial, t.at_initial, m);
      }

-- A good series that is a future has a future's code.
future_class : (n : Nature) (c : Class) → suits c n ≡ true → is_future n ≡ true → is_future_class c ≡ true
future_class Future c e f = e
future_class (Call strike) c e f = absurd (clash f refl)
future_class (Put strike) c e f = absurd (clash f refl)

-- The free lots of a holding.
holding_limit : (v : View) (ps : List Pair) (h : Holding) → good_holding h ≡ true → AtMost 486000000000000 (holding_margin v (free_holding ps h))
unfolding holding_margin charged_lots free_holding class_of
holding_limit v ps h e =
    let g = holding_is h e in
    let r = free_holding ps h in
    let long : r.long ≤ 100000 = omega (arith, g.long_fits) in
    let short : r.short ≤ 100000 = omega (arith, g.short_fits) in
    by_test (λ (t : Bool). is_future h.series.nature ≡ t → AtMost 486000000000000 (times (pick t (r.long + r.short) r.short) (quote_of v h.series).lot.margin)) (is_future h.series.nature)
    (λ _ f. futures_most r.long r.short (future_most_lot v h.series (future_class h.series.nature _ (series_parts h.series g.series_good).2 f)) long short)
    (λ _ f. options_most r.short (lot_most v h.series) short)
    refl

loose_limit : (v : View) (ps : List Pair) (hs : List Holding) → every_line good_holding hs ≡ true → AtMost (length hs * 486000000000000) (sum_levels (holding_margin v) (free_rows hs ps))
unfolding sum_levels sum_of free_rows every_line
loose_limit v ps [] e = record { at_clearing = omega arith; at_maintenance = omega arith; at_initial = omega arith }
loose_limit v ps (h ∷ hs) e =
    let k = both_true (good_holding h) (every_line good_holding hs) e in
    let x = holding_limit v ps h k.0 in
    let t = loose_limit v ps hs k.1 in
    let m = suc-mul (length hs) 486000000000000 in
    record {
      at_clearing = omega (arith, x.at_clearing, t.at_clearing, m);
      at_maintenance = omega (arith, x.at_maintenance, t.at_maintenance, m);
      at_initial = omega (arith, x.at_initial, t.at_initial, m);
    }

-- A pair whose lines are there.
pair_limit : (v : View) (charged : Bool) (p : Pair) → both (good_pair p) (every_line (on_sheet v) (needed_by_pair p)) ≡ true → AtMost 843000000000000 (pair_margin v charged p)
unfolding pair_margin unit_number
pair_limit v charged p e =
    let k = both_true (good_pair p) _ e in
    let c = counts_are p.r1 p.r2 p.units (pair_is p k.0).counts in
    let u = unit_taken v p k.0 (pair_ready_lem v p ∙ k.1) in
    let facts = unit_is p.kind _ _ _ p.r1 p.r2 (none_fails (unit_checks p.kind (quote_of v p.first).lot (quote_of v p.second).lot (quote_of v p.second).terms p.r1 p.r2) u) in
    pair_most _ _ _ p.r1 p.r2 charged facts p.units c.few_units c.few_lots1 c.few_lots2 p.kind

both_every : {A : Type 0} (f g : A → Bool) (l : List A) → every_line f l ≡ true → every_line g l ≡ true → every_line (λ (x : A). both (f x) (g x)) l ≡ true
unfolding every_line
both_every f g [] e h = refl
both_every f g (x ∷ l) e h =
    let a = both_true (f x) (every_line f l) e in
    let b = both_true (g x) (every_line g l) h in
    both_hold (both_hold a.0 b.0) (both_every f g l a.1 b.1)

-- The account's margin, of a sound book whose lines are there.
pub account_most : (v : View) (b : Book) → sound_book b ≡ true → every_line (on_sheet v) (needed_by b) ≡ true → AtMost account_limit (account_margin v b)
unfolding account_margin needed_by account_limit
account_most v b sound lines =
    let s = sound_is b sound in
    let k = both_true (every_line (on_sheet v) (gathered needed_by_holding (free_rows (holdings_of b) (pairs_of b)))) (every_line (on_sheet v) (gathered needed_by_pair (pairs_of b))) (sym (every_append (on_sheet v) (gathered needed_by_holding (free_rows (holdings_of b) (pairs_of b))) (gathered needed_by_pair (pairs_of b))) ∙ lines) in
    let ready = sym (every_gathered (on_sheet v) needed_by_pair (pairs_of b)) ∙ k.1 in
    let loose = loose_limit v (pairs_of b) (holdings_of b) (holdings_good s) in
    let tied = sum_limit (λ (p : Pair). both (good_pair p) (every_line (on_sheet v) (needed_by_pair p))) (pair_margin v (pays_c b)) 843000000000000 (pair_limit v (pays_c b)) (pairs_of b) (both_every good_pair (λ (p : Pair). every_line (on_sheet v) (needed_by_pair p)) (pairs_of b) (pairs_good s) ready) in
    let few = s.holdings_sound_lem.few in
    let less = s.pairs_sound_lem.few in
    let hs = holdings_count s in
    let ps = pairs_count s in
    record {
      at_clearing = omega (arith, loose.at_clearing, tied.at_clearing);
      at_maintenance = omega (arith, loose.at_maintenance, tied.at_maintenance);
      at_initial = omega (arith, loose.at_initial, tied.at_initial);
    }

-- So no margin call answers more, whatever the book and the sheet.
module _ (b : Book) (sheet : Sheet) where
  passes : eqb (margin_number b sheet) 0 ≡ true → all_pass (margin_checks b sheet) ≡ true
  unfolding margin_on
  passes e = sym (margin_by_number b sheet) ∙ rw e refl

  worked_most : all_pass (margin_checks b sheet) ≡ true → AtMost account_limit (account_margin (sheet_view sheet) b)
  unfolding margin_checks all_pass
  worked_most e =
      let sound = both_true (sound_book b) _ e in
      let read = both_true (eqb sheet.number 0) _ sound.1 in
      let day = both_true (eqb sheet.day b.day) _ read.1 in
      account_most (sheet_view sheet) b sound.0 (both_true (every_line (on_sheet (sheet_view sheet)) (needed_by b)) true day.1).0

  pub margin_most : AtMost account_limit (margin_on b sheet).levels
  unfolding margin_on
  margin_most =
      picked (λ (m : Margin). AtMost account_limit m.levels) (eqb (margin_number b sheet) 0) _ _
      (λ e. worked_most (passes e))
      (λ e. record { at_clearing = omega arith; at_maintenance = omega arith; at_initial = omega arith })
