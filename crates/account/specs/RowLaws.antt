-- Laws of what a holding and a pair with their quotes need and come to: it is what the paper says, and no more than a row may.
use Rattle.std.specs.Prelude.{◌≡◌, refl, Bool, true, [], ℕ, ◌+◌, ◌*◌, ◌≤◌, eqb}
use Rattle.std.proofs.Common.{sym, ◌∙◌, subst, mul-le-mul, arith, lit≤, eqb-true}
use Rattle.laws.specs.Truth.{pick, both}
use Rattle.laws.specs.TruthLaws.{both_true, both_hold, both_end, is_within, picked, by_test, clash}
use Rattle.laws.specs.ByteLaws.{are_same}
use Rattle.laws.specs.Search.{every_line}
use Rattle.laws.specs.SearchLaws.{every_append}
use Rattle.laws.specs.Checks.{all_pass}
use Rattle.laws.specs.Kinds.{by_kind}
use Rattle.laws.specs.KindLaws.{of_kind}
use Rattle.series.specs.declared.Series.{Series}
use Rattle.series.specs.Natures.{is_future}
use Rattle.legs.specs.Legs.{same_code}
use Rattle.pairing.specs.declared.Parts.{Parts}
use Rattle.pairing.specs.Rules.{debit_vertical, credit_vertical, conversion, may_stand}
use Rattle.pairing.specs.PairLaws.{Meets, meets, each_rule, stands_kind}
use Rattle.rows.specs.declared.Holding.{Holding}
use Rattle.rows.specs.declared.Pair.{Pair}
use Rattle.rules.specs.Rules.{good_pair}
use Rattle.rules.specs.RuleLaws.{pair_is, counts_are}
use Rattle.levels.specs.declared.Levels.{Levels}
use Rattle.levels.specs.Levels.{flat}
use Rattle.levels.specs.Ranges.{AtMost}
use Rattle.levels.specs.RangeLaws.{at_most_more}
use Rattle.levels.specs.LevelLaws.{each_at_most}
use Rattle.units.specs.Units.{formula, unit_checks, unit_number, unit_margin}
use Rattle.units.specs.LimitLaws.{unit_is}
use Rattle.units.specs.UnitLaws.{unit_answered, pair_most as units-most}
use Rattle.sheets.specs.View.{View}
use Rattle.quotes.specs.Quotes.{on_sheet, own_line, quote_as, quote_of}
use Rattle.quotes.specs.QuoteLaws.{ready_lined, lot_most, lot_taken, terms_taken}
use Rattle.account.specs.Needed.{charged_lots, own_line_of, lines_of, needed_by_holding, needed_by_pair}
use Rattle.account.specs.Margin.{times, holding_margin, pair_margin}
use Rattle.account.specs.Walk.{row_limit, holding_ready, holding_comes, pair_ready, pair_comes}

-- What a free holding needs is on the sheet: nothing where nothing of it is charged.
pub holding_ready_lem : (v : View) (h : Holding) → holding_ready h (quote_of v h.series) ≡ every_line (on_sheet v) (needed_by_holding h)
unfolding holding_ready needed_by_holding lines_of quote_of quote_as every_line
holding_ready_lem v h =
    by_test (λ (none : Bool). pick none true (every_line (on_sheet v) (lines_of h.series)) ≡ every_line (on_sheet v) (pick none [] (lines_of h.series))) (eqb (charged_lots h) 0)
    (λ q. refl)
    (λ q. refl)

-- It comes to its charged lots, which are at most 200,000.
charged_most : (h : Holding) → h.long ≤ 100000 → h.short ≤ 100000 → charged_lots h ≤ 200000
unfolding charged_lots
charged_most h long short =
    picked (λ (n : ℕ). n ≤ 200000) (is_future h.series.nature) (h.long + h.short) h.short (λ q. omega arith) (λ q. omega arith)

pub holding_most : (v : View) (h : Holding) → h.long ≤ 100000 → h.short ≤ 100000 → AtMost row_limit (holding_comes h (quote_of v h.series))
unfolding holding_comes
holding_most v h long short =
    each_at_most (λ (m : ℕ). m * charged_lots h) (λ m k. mul-le-mul k (charged_most h long short)) (lot_most v h.series)

pub holding_comes_lem : (v : View) (h : Holding) → holding_comes h (quote_of v h.series) ≡ holding_margin v h
unfolding holding_comes holding_margin
holding_comes_lem v h = refl

-- What a pair needs is on the sheet.
pub pair_ready_lem : (v : View) (p : Pair) → pair_ready p.kind (quote_of v p.first) (quote_of v p.second) ≡ every_line (on_sheet v) (needed_by_pair p)
unfolding pair_ready needed_by_pair own_line_of lines_of quote_of quote_as every_line
pair_ready_lem v p = sym (of_kind (every_line (on_sheet v)) p.kind _ _ _ _ _ _ _ _ _ ∙ simp (every_append (on_sheet v), both_end))

-- Series of one code have one line of their own.
own_line_lem : (v : View) (a b : Series) → same_code a b ≡ true → (quote_of v a).lined ≡ (quote_of v b).lined
unfolding same_code quote_of quote_as own_line
own_line_lem v a b e = let c = are_same a.code b.code e in rw c

-- So where a pair has what it needs, both its legs have the lines of their own.
both_lined : (v : View) (p : Pair) → good_pair p ≡ true → pair_ready p.kind (quote_of v p.first) (quote_of v p.second) ≡ true → ((quote_of v p.first).lined ≡ true) × ((quote_of v p.second).lined ≡ true)
unfolding may_stand pair_ready by_kind debit_vertical credit_vertical conversion
both_lined v p g =
    let a = quote_of v p.first in
    let b = quote_of v p.second in
    each_rule (λ (m : Parts). Meets m → pair_ready p.kind a b ≡ true → (a.lined ≡ true) × (b.lined ≡ true)) p.kind p.first p.second p.r1 p.r2
    (λ k m e. let l = at 1 k e in (l, sym (own_line_lem v p.first p.second m.codes) ∙ l))
    (λ k m e. let l = at 2 k e in (l, sym (own_line_lem v p.first p.second m.codes) ∙ l))
    (λ k m e. let r = both_true a.ready _ (at 3 k e) in (ready_lined v p.first r.0, ready_lined v p.second (both_true b.ready _ r.1).0))
    (λ k m e. two (at 4 k e))
    (λ k m e. two (at 5 k e))
    (λ k m e. let l = ready_lined v p.second (at 6 k e) in (own_line_lem v p.first p.second m.codes ∙ l, l))
    (λ k m e. two (at 7 k e))
    (λ k m e. two (at 8 k e))
    (λ m e. absurd (clash m.kind refl))
    (meets _ (pair_is p g).standing)
  where
    at : (n : ℕ) → p.kind ≡ n → pair_ready p.kind (quote_of v p.first) (quote_of v p.second) ≡ true → pair_ready n (quote_of v p.first) (quote_of v p.second) ≡ true
    at n k e = subst (λ (n : ℕ). pair_ready n (quote_of v p.first) (quote_of v p.second) ≡ true) k e

    two : both (quote_of v p.first).ready (quote_of v p.second).ready ≡ true → ((quote_of v p.first).lined ≡ true) × ((quote_of v p.second).lined ≡ true)
    two e = let r = both_true (quote_of v p.first).ready _ e in (ready_lined v p.first r.0, ready_lined v p.second r.1)

-- Then its unit is taken, and the pair comes to what its kind's formula says.
pub unit_taken : (v : View) (p : Pair) → good_pair p ≡ true → pair_ready p.kind (quote_of v p.first) (quote_of v p.second) ≡ true → all_pass (unit_checks p.kind (quote_of v p.first).lot (quote_of v p.second).lot (quote_of v p.second).terms p.r1 p.r2) ≡ true
unfolding unit_checks all_pass
unit_taken v p g e =
    let q = pair_is p g in
    let c = counts_are p.r1 p.r2 p.units q.counts in
    let k = stands_kind p.kind p.first p.second p.r1 p.r2 q.standing in
    let l = both_lined v p g e in
    both_hold (lot_taken v p.first q.first_good l.0)
    (both_hold (lot_taken v p.second q.second_good l.1)
    (both_hold (terms_taken v p.second q.second_good l.1)
    (both_hold (is_within c.some1 c.few1)
    (both_hold (is_within c.some2 c.few2)
    (both_hold (is_within k.0 k.1) refl)))))

pub pair_comes_lem : (v : View) (charged : Bool) (p : Pair) → good_pair p ≡ true → pair_ready p.kind (quote_of v p.first) (quote_of v p.second) ≡ true → pair_comes charged p (quote_of v p.first) (quote_of v p.second) ≡ pair_margin v charged p
unfolding pair_comes pair_margin
pair_comes_lem v charged p g e =
    rw (unit_answered p.kind (quote_of v p.first).lot (quote_of v p.second).lot (quote_of v p.second).terms p.r1 p.r2 charged (unit_taken v p g e)) refl

-- Of no pair it is too much: a unit that is refused comes to nothing.
pub pair_most : (v : View) (charged : Bool) (p : Pair) → good_pair p ≡ true → AtMost row_limit (pair_comes charged p (quote_of v p.first) (quote_of v p.second))
unfolding pair_comes unit_margin
pair_most v charged p g =
    let a = (quote_of v p.first).lot in
    let b = (quote_of v p.second).lot in
    let t = (quote_of v p.second).terms in
    let c = counts_are p.r1 p.r2 p.units (pair_is p g).counts in
    picked (λ (l : Levels). AtMost row_limit (times p.units l)) (eqb (unit_number p.kind a b t p.r1 p.r2) 0) (formula p.kind a b t p.r1 p.r2 charged) (flat 0)
    (λ q. at_most_more (lit≤ tt) (units-most a b t p.r1 p.r2 charged (unit_is p.kind a b t p.r1 p.r2 (eqb-true _ _ q)) p.units c.few_units c.few_lots1 c.few_lots2 p.kind))
    (λ q. record { at_clearing = omega arith; at_maintenance = omega arith; at_initial = omega arith })
