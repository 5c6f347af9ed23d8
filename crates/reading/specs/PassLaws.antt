-- Laws of a line's checks: each refuses by a number that is not 0, and they pass exactly where the facts behind them
-- hold.
use Rattle.std.specs.Prelude.{◌≡◌, refl, Bool, true, false, not, [], ◌∷◌, ◌++◌, ℕ, suc, ◌-◌, ltb, eqb, length}
use Rattle.std.proofs.Common.{ap}
use native.Mathlib.Omega.{arith}
use Rattle.std.proofs.Math.Dec.{eqb-suc-zero}
use borrow.Author.Tests.{le-leb, ltb-true, lt-ltb, eqb-true, eq-eqb}
use Rattle.laws.specs.Truth.{both}
use Rattle.laws.specs.TruthLaws.{both_true, both_hold}
use Rattle.laws.specs.Checks.{all_pass, numbered}
use Rattle.laws.specs.CheckLaws.{pass_both, pass_joined}
use Rattle.lists.specs.Sorted.{ascending}
use Rattle.dates.specs.Calendar.{is_day}
use Rattle.codes.specs.Codes.{known}
use Rattle.series.specs.Checks.{suits, class_of, good_series}
use Rattle.series.specs.CheckLaws.{series_parts, series_whole}
use Rattle.pairing.specs.Rules.{parts_of, pair_checks, may_stand}
use Rattle.rows.specs.declared.Holding.{Holding}
use Rattle.rows.specs.declared.Pair.{Pair}
use Rattle.rows.specs.declared.Book.{Book}
use Rattle.rows.specs.Rows.{pair_rank}
use Rattle.rows.specs.Book.{holdings_of, pairs_of}
use Rattle.rules.specs.Lots.{Leg, first_leg, second_leg, tied, total, free}
use Rattle.rules.specs.Rules.{is_identity, counts_fit, good_holding}
use Rattle.rules.specs.Facts.{GoodPair}
use Rattle.rules.specs.RuleLaws.{pair_is, pair_back}
use Rattle.calls.specs.Calls.{leg_free}
use Rattle.calls.specs.Facts.{finds}
use Rattle.calls.specs.PassLaws.{one_passes, leg_is_free}
use Rattle.book_lines.specs.Lines.{Line, head, holding, pair, checks_by}
use Rattle.book_lines.specs.NumberLaws.{checks_numbered}
use Rattle.reading.specs.Reading.{in_order, has_room, lots_free, line_checks}
use Rattle.reading.specs.Next.{NextHolding, NextPair}

pub line_numbered : (first : Bool) (b : Book) (x : Line) → numbered (line_checks first b x) ≡ true
unfolding line_checks
line_numbered first b x = checks_numbered first (in_order b x) (has_room b x) (lots_free b x) x

-- Behind a line the next is not the first.
pub later_checks : (n : ℕ) (b : Book) (x : Line) → all_pass (line_checks (eqb (suc n) 0) b x) ≡ all_pass (line_checks false b x)
later_checks n b x = ap (λ (first : Bool). all_pass (line_checks first b x)) (eqb-suc-zero n)

-- The first line.
module _ (b : Book) (account identity day : ℕ) where
  pub head_passes : (first : Bool) → all_pass (line_checks first b (head account identity day)) ≡ true → (is_identity identity ≡ true) × (is_day day ≡ true)
  unfolding line_checks checks_by all_pass
  head_passes first e =
      let d = both_true (is_day day) _ e in
      ((both_true (is_identity identity) _ d.1).0, d.0)

  pub head_first : (first : Bool) → all_pass (line_checks first b (head account identity day)) ≡ true → first ≡ true
  unfolding line_checks checks_by all_pass
  head_first first e = one_passes first (both_true (is_identity identity) _ (both_true (is_day day) _ e).1).1

  pub head_passes_back : is_identity identity ≡ true → is_day day ≡ true → all_pass (line_checks true b (head account identity day)) ≡ true
  unfolding line_checks checks_by all_pass
  head_passes_back i d = both_hold d (both_hold i refl)

-- A later line: a holding.
module _ (b : Book) (h : Holding) (count : length (holdings_of b) ≡ b.held) where
  pub holding_passes : (first : Bool) → all_pass (line_checks first b (holding h)) ≡ true → NextHolding b h
  unfolding line_checks checks_by in_order has_room all_pass good_holding
  holding_passes first e =
      let k = both_true (known (class_of h.series)) _ (both_true (not first) _ e).1 in
      let d = both_true (is_day h.series.date) _ k.1 in
      let r = both_true (both (suits (class_of h.series) h.series.nature) _) _ d.1 in
      let n = both_true (suits (class_of h.series) h.series.nature) _ r.0 in
      let o = both_true (both (eqb b.paired 0) _) _ r.1 in
      let p = both_true (eqb b.paired 0) _ o.0 in
      let room = ltb-true b.held 128 (one_passes _ o.1) in
      record {
        row = record { is_good = both_hold (series_whole h.series k.0 d.0 n.0) n.1; in_order_lem = p.1; room = omega arith };
        no_pairs = eqb-true b.paired 0 p.0;
      }

  pub holding_passes_back : NextHolding b h → all_pass (line_checks false b (holding h)) ≡ true
  unfolding line_checks checks_by in_order has_room all_pass good_holding
  holding_passes_back n =
      let g = both_true (good_series h.series) _ n.row.is_good in
      let s = series_parts h.series g.0 in
      let room = n.row.room in
      both_hold s.0
      (both_hold s.1
      (both_hold (both_hold s.2 g.1)
      (both_hold (both_hold (eq-eqb b.paired 0 n.no_pairs) n.row.in_order_lem)
      (both_hold (lt-ltb b.held 128 (omega arith)) refl))))

-- A leg that finds its lots is tested to.
leg_free_back : (b : Book) (leg : Leg) → finds (holdings_of b) (pairs_of b) leg → leg_free b leg ≡ true
unfolding leg_free free
leg_free_back b leg f = le-leb leg.lots (total (holdings_of b) leg.series leg.side - tied (pairs_of b) leg.series leg.side) f

-- A later line: a pair.
module _ (b : Book) (p : Pair) (count : length (pairs_of b) ≡ b.paired) where
  pub pair_passes : (first : Bool) → all_pass (line_checks first b (pair p)) ≡ true → NextPair b p
  unfolding line_checks checks_by in_order has_room lots_free all_pass may_stand
  pair_passes first e =
      let k = both_true (both (known (class_of p.first)) (known (class_of p.second))) _ (both_true (not first) _ e).1 in
      let d = both_true (both (is_day p.first.date) (is_day p.second.date)) _ k.1 in
      let n = both_true (both (suits (class_of p.first) p.first.nature) (suits (class_of p.second) p.second.nature)) _ d.1 in
      let c = both_true (counts_fit p.r1 p.r2 p.units) _ n.1 in
      let m = pass_both (pair_checks (parts_of p.kind p.first p.second p.r1 p.r2)) _ c.1 in
      let a = both_true (ascending pair_rank (pairs_of b ++ (p ∷ []))) _ m.1 in
      let r = both_true (ltb b.paired 128) _ a.1 in
      let f = both_true (leg_free b (first_leg p)) (leg_free b (second_leg p)) (one_passes _ r.1) in
      let ks = both_true (known (class_of p.first)) _ k.0 in
      let ds = both_true (is_day p.first.date) _ d.0 in
      let ns = both_true (suits (class_of p.first) p.first.nature) _ n.0 in
      let good : GoodPair p = record { first_good = series_whole p.first ks.0 ds.0 ns.0; second_good = series_whole p.second ks.1 ds.1 ns.1; counts = c.0; standing = m.0 } in
      let room = ltb-true b.paired 128 r.0 in
      record {
        row = record { is_good = pair_back p good; in_order_lem = a.0; room = omega arith };
        first_free = leg_is_free b (first_leg p) f.0;
        second_free = leg_is_free b (second_leg p) f.1;
      }

  pub pair_passes_back : NextPair b p → all_pass (line_checks false b (pair p)) ≡ true
  unfolding line_checks checks_by in_order has_room lots_free all_pass may_stand
  pair_passes_back n =
      let g = pair_is p n.row.is_good in
      let s = series_parts p.first g.first_good in
      let t = series_parts p.second g.second_good in
      let room = n.row.room in
      both_hold (both_hold s.0 t.0)
      (both_hold (both_hold s.1 t.1)
      (both_hold (both_hold s.2 t.2)
      (both_hold g.counts
      (pass_joined (pair_checks (parts_of p.kind p.first p.second p.r1 p.r2)) _ g.standing
      (both_hold n.row.in_order_lem
      (both_hold (lt-ltb b.paired 128 (omega arith))
      (both_hold (both_hold (leg_free_back b (first_leg p) n.first_free) (leg_free_back b (second_leg p) n.second_free)) refl)))))))
