-- Laws of open and close on lists: what the totals of every series and side are afterwards, and that good rows stay good.
use Rattle.std.specs.Prelude.{◌≡◌, refl, Bool, List, ℕ, ◌+◌, ◌-◌, ◌≤◌, eqb}
use Rattle.std.proofs.Math.Path.{ap}
use Rattle.std.proofs.Common.{sym, ◌∙◌, subst, arith, eqb-true}
use Rattle.std.proofs.Math.Bool.{true, false}
use Rattle.laws.specs.Truth.{pick}
use Rattle.laws.specs.TruthLaws.{both_true, by_test, false_unless}
use Rattle.laws.specs.Search.{every_line}
use Rattle.lists.specs.Sorted.{ascending, stands, kept}
use Rattle.lists.specs.SortedLaws.{look_none, look_every, look_kept, look_other}
use Rattle.series.specs.declared.Series.{Series}
use Rattle.series.specs.declared.Side.{Side}
use Rattle.series.specs.declared.Side.TheVariants.{Long, Short}
use Rattle.series.specs.Checks.{good_series}
use Rattle.rows.specs.declared.Holding.{Holding}
use Rattle.rows.specs.Rows.{series_rank, holding_rank, same_series, new_holding, no_lots, lots_on, added, lessened}
use Rattle.rows.specs.RowLaws.{no_lots_lem, added_series, lessened_series}
use Rattle.rows.specs.Book.{holding_in}
use Rattle.rules.specs.Lots.{Leg, same_side, ties, total}
use Rattle.rules.specs.LotLaws.{one_rank, total_of_one, new_lots, less_on}
use Rattle.rules.specs.Rules.{good_holding}
use Rattle.rules.specs.Facts.{GoodHolding}
use Rattle.rules.specs.RuleLaws.{holding_is, holding_back}
use Rattle.calls.specs.Calls.{held_of}

-- Lots of a series and side, as a leg ties them: what open adds and close takes.
abbrev pub lots_of : Series → Side → ℕ → Leg
lots_of s d n = record { series = s; side = d; lots = n }

more_on : (d e : Side) (n : ℕ) (h : Holding) → lots_on e (added d n h) ≡ lots_on e h + pick (same_side d e) n 0
more_on Long Long n h = refl
more_on Long Short n h = omega arith
more_on Short Long n h = omega arith
more_on Short Short n h = refl

pub held_on : (hs : List Holding) (s : Series) (d : Side) → lots_on d (held_of hs s) ≡ total hs s d
unfolding held_of
held_on hs s Long = refl
held_on hs s Short = refl

-- Good rows have totals of at most 100,000, and a series with lots stands.
pub total_fits : (hs : List Holding) (s : Series) (d : Side) → every_line good_holding hs ≡ true → total hs s d ≤ 100000
unfolding total holding_in
total_fits hs s d g =
    by_test (λ (b : Bool). stands holding_rank (series_rank s) hs ≡ b → total hs s d ≤ 100000) (stands holding_rank (series_rank s) hs)
    (λ q e. on d (holding_is (holding_in hs s) (look_every holding_rank good_holding (new_holding s) (series_rank s) hs g e).0))
    (λ q e. let z = ap (lots_on d) (look_none holding_rank (new_holding s) (series_rank s) hs e) ∙ new_lots d s in omega arith)
    refl
  where
    on : (e : Side) → GoodHolding (holding_in hs s) → lots_on e (holding_in hs s) ≤ 100000
    on Long k = k.long_fits
    on Short k = k.short_fits

pub lots_stand : (hs : List Holding) (s : Series) (d : Side) → 1 ≤ total hs s d → stands holding_rank (series_rank s) hs ≡ true
unfolding total holding_in
lots_stand hs s d some =
    by_test (λ (b : Bool). stands holding_rank (series_rank s) hs ≡ b → stands holding_rank (series_rank s) hs ≡ true) (stands holding_rank (series_rank s) hs)
    (λ q e. e)
    (λ q e. let z = ap (lots_on d) (look_none holding_rank (new_holding s) (series_rank s) hs e) ∙ new_lots d s in absurd (omega arith))
    refl

-- With a row of the series s kept, s has the lots of that row, and every other series has what it had.
module _ (hs : List Holding) (x : Holding) (a : ascending holding_rank hs ≡ true) where
  kept_mine : (d : Side) → total (kept holding_rank no_lots x hs) x.series d ≡ lots_on d x
  unfolding total holding_in holding_rank
  kept_mine d = ap (lots_on d) (look_kept holding_rank no_lots (new_holding x.series) x hs a (no_lots_lem x))

  kept_other : (t : Series) (d : Side) → same_series x.series t ≡ false → total (kept holding_rank no_lots x hs) t d ≡ total hs t d
  unfolding total holding_in holding_rank same_series
  kept_other t d e = ap (lots_on d) (look_other holding_rank no_lots (new_holding t) x hs a (series_rank t) e)

  -- So for every series and side: by whether it is the row's.
  pub kept_total : (t : Series) (d : Side) (n : ℕ) → (same_series x.series t ≡ true → lots_on d x ≡ n) → (same_series x.series t ≡ false → total hs t d ≡ n) → total (kept holding_rank no_lots x hs) t d ≡ n
  kept_total t d n mine other =
      by_test (λ (b : Bool). same_series x.series t ≡ b → total (kept holding_rank no_lots x hs) t d ≡ n) (same_series x.series t)
      (λ q e. total_of_one (kept holding_rank no_lots x hs) d t x.series (sym (one_rank x.series t e)) ∙ kept_mine d ∙ mine e)
      (λ q e. kept_other t d e ∙ other e)
      refl

-- Open adds its lots to the total of its series and side, and to no other; close takes them.
module _ (hs : List Holding) (s : Series) (d : Side) (n : ℕ) (a : ascending holding_rank hs ≡ true) where
  own : (t : Series) (e : Side) → same_series s t ≡ true → lots_on e (held_of hs s) ≡ total hs t e
  own t e q = held_on hs s e ∙ total_of_one hs e s t (one_rank s t q)

  is_row : (x : Holding) (t : Series) (b : Bool) → x.series ≡ s → same_series x.series t ≡ b → same_series s t ≡ b
  is_row x t b is q = subst (λ (z : Series). same_series z t ≡ b) is q

  opened_series : (added d n (held_of hs s)).series ≡ s
  unfolding held_of
  opened_series = added_series d n (held_of hs s)

  closed_series : (lessened d n (held_of hs s)).series ≡ s
  unfolding held_of
  closed_series = lessened_series d n (held_of hs s)

  pub opened_total : (t : Series) (e : Side) → total (kept holding_rank no_lots (added d n (held_of hs s)) hs) t e ≡ total hs t e + ties t e (lots_of s d n)
  unfolding ties
  opened_total t e =
      kept_total hs (added d n (held_of hs s)) a t e (total hs t e + ties t e (lots_of s d n))
      (λ q.
      let r = is_row (added d n (held_of hs s)) t true opened_series q in
      rw r (more_on d e n (held_of hs s) ∙ ap (λ (m : ℕ). m + pick (same_side d e) n 0) (own t e r)))
      (λ q. rw (is_row (added d n (held_of hs s)) t false opened_series q) (omega arith))

  pub closed_total : (t : Series) (e : Side) → total (kept holding_rank no_lots (lessened d n (held_of hs s)) hs) t e ≡ total hs t e - ties t e (lots_of s d n)
  unfolding ties
  closed_total t e =
      kept_total hs (lessened d n (held_of hs s)) a t e (total hs t e - ties t e (lots_of s d n))
      (λ q.
      let r = is_row (lessened d n (held_of hs s)) t true closed_series q in
      rw r (less_on d e n (held_of hs s) ∙ ap (λ (m : ℕ). m - pick (same_side d e) n 0) (own t e r)))
      (λ q. rw (is_row (lessened d n (held_of hs s)) t false closed_series q) (omega arith))

-- A holding with lots on a side is one of some lots.
some_lots : (d : Side) (h : Holding) → 1 ≤ lots_on d h → no_lots h ≡ false
some_lots Long h k = false_unless (no_lots h) (λ e. let z = eqb-true h.long 0 (both_true (eqb h.long 0) (eqb h.short 0) e).0 in omega arith)
some_lots Short h k = false_unless (no_lots h) (λ e. let z = eqb-true h.short 0 (both_true (eqb h.long 0) (eqb h.short 0) e).1 in omega arith)

-- The row that open makes is good, and so is what close leaves.
pub opened_good : (hs : List Holding) (s : Series) (d : Side) (n : ℕ) → every_line good_holding hs ≡ true → good_series s ≡ true → 1 ≤ n → total hs s d + n ≤ 100000 → good_holding (added d n (held_of hs s)) ≡ true
unfolding held_of
opened_good hs s Long n g gs some fits =
    holding_back (added Long n (held_of hs s)) (record { series_good = gs; long_fits = fits; short_fits = total_fits hs s Short g; some = some_lots Long (added Long n (held_of hs s)) (omega arith) })
opened_good hs s Short n g gs some fits =
    holding_back (added Short n (held_of hs s)) (record { series_good = gs; long_fits = total_fits hs s Long g; short_fits = fits; some = some_lots Short (added Short n (held_of hs s)) (omega arith) })

pub closed_good : (hs : List Holding) (s : Series) (d : Side) (n : ℕ) → every_line good_holding hs ≡ true → good_series s ≡ true → no_lots (lessened d n (held_of hs s)) ≡ false → good_holding (lessened d n (held_of hs s)) ≡ true
unfolding held_of
closed_good hs s Long n g gs some =
    let l = total_fits hs s Long g in
    holding_back (lessened Long n (held_of hs s)) (record { series_good = gs; long_fits = omega arith; short_fits = total_fits hs s Short g; some = some })
closed_good hs s Short n g gs some =
    let t = total_fits hs s Short g in
    holding_back (lessened Short n (held_of hs s)) (record { series_good = gs; long_fits = total_fits hs s Long g; short_fits = omega arith; some = some })

-- Both have the rank of the series.
pub opened_rank : (hs : List Holding) (s : Series) (d : Side) (n : ℕ) → holding_rank (added d n (held_of hs s)) ≡ series_rank s
unfolding held_of holding_rank
opened_rank hs s Long n = refl
opened_rank hs s Short n = refl

pub closed_rank : (hs : List Holding) (s : Series) (d : Side) (n : ℕ) → holding_rank (lessened d n (held_of hs s)) ≡ series_rank s
unfolding held_of holding_rank
closed_rank hs s Long n = refl
closed_rank hs s Short n = refl
