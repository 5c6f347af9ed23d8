-- Laws of units: the lots and terms of sound lines are taken, and how much a unit, a pair and an account can come to.
use Rattle.std.specs.Prelude.{◌≡◌, Bool, true, false, eqb, ltb}
use Rattle.std.proofs.Math.Path.{refl}
use Prim.Native.Nat.{ℕ, ◌+◌, ◌*◌, ◌^◌, ◌-◌, ◌≤◌, ◌<◌, max, min}
use Rattle.std.proofs.Common.{mul-le-mul, add-le-add, add-mul, mul_right_comm, arith, lit≤, lit<, ltb-true, le-ltb}
use Rattle.std.proofs.Math.Nat.{max-le, max_comm}
use Rattle.laws.specs.Truth.{pick}
use Rattle.laws.specs.Checks.{all_pass, numbered}
use Rattle.laws.specs.CheckLaws.{by_number, none_fails}
use Rattle.laws.specs.KindLaws.{each_kind}
use Rattle.rounding.specs.RoundingLaws.{dollar_most}
use Rattle.levels.specs.declared.Levels.{Levels}
use Rattle.levels.specs.Levels.{per_level, both_levels, flat, fixed_levels}
use Rattle.levels.specs.Ranges.{AtMost, fixed_fits}
use Rattle.levels.specs.RangeLaws.{at_most_more, clearing_is}
use Rattle.levels.specs.LevelLaws.{each_at_most, both_at_most, fixed_most}
use Rattle.amounts.specs.declared.IndexLine.{IndexLine}
use Rattle.amounts.specs.declared.StockLine.{StockLine}
use Rattle.amounts.specs.declared.Lot.{Lot}
use Rattle.amounts.specs.declared.Terms.{Terms}
use Rattle.amounts.specs.Singles.{worth}
use Rattle.amounts.specs.Lines.{stock_fits, future_asked, index_asked, stock_asked, terms_asked}
use Rattle.amounts.specs.LineLaws.{OptionFacts, index_is, stock_is, option_is, future_asked_is, index_asked_is, stock_asked_is, terms_asked_is}
use Rattle.amounts.specs.Lots.{future_lot, option_lot, fixed_future, stock_future, index_option, stock_option, index_terms, stock_terms}
use Rattle.amounts.specs.AmountLaws.{worth_most, premium_most, future_most, c_value_most, tenth_most}
use Rattle.amounts.proofs.MostLaws.{index_most, stock_most}
use Rattle.amounts.specs.Limits.{lot_limit, premium_limit, c_limit, lot_fits, terms_fit}
use Rattle.units.specs.Facts.{LotFacts, UnitFacts}
use Rattle.units.specs.Units.{debit_margin, credit_margin, time_margin, lower_premium, mixed_at, mixed_margin, future_option_margin, conversion_margin, calendar_margin, products_margin, formula, unit_checks, unit_number, unit_margin}
use Rattle.units.specs.LimitLaws.{lot_fits_lem, terms_fit_lem, lower_most, charged_most}

-- A lot is taken where its margin keeps to the limit.
future_lot_lem : (margin : Levels) → AtMost lot_limit margin → lot_fits (future_lot 0 margin) ≡ true
future_lot_lem margin m =
    lot_fits_lem _ refl (record { margin_most = m; premium_most = lit≤ tt; price_most = lit≤ tt; strike_most = lit≤ tt })

option_lot_lem : (margin : Levels) (multiplier strike price : ℕ) → AtMost lot_limit margin → multiplier ≤ 20000 → OptionFacts strike price → lot_fits (option_lot margin multiplier strike price) ≡ true
option_lot_lem margin multiplier strike price m k g =
    lot_fits_lem _ refl (record { margin_most = m; premium_most = premium_most price multiplier g.value_most k; price_most = g.value_most; strike_most = g.strike_most })

-- So every lot of a sound line is taken.
pub fixed_lot : (clearing part : ℕ) → fixed_fits clearing part ≡ true → lot_fits (fixed_future clearing part) ≡ true
unfolding fixed_future fixed_levels
fixed_lot clearing part e = rw e (future_lot_lem _ (at_most_more (lit≤ tt) (fixed_most clearing part e)))

pub stock_future_lot : (s : StockLine) (price : ℕ) → future_asked s price ≡ true → lot_fits (stock_future s price) ≡ true
unfolding stock_future
stock_future_lot s price e =
    let h = future_asked_is s price e in
    rw e (future_lot_lem _ (at_most_more (lit≤ tt) (future_most s price (stock_is s h.0) h.1)))

pub index_lot : (o : IndexLine) (call : Bool) (strike price : ℕ) → index_asked o strike price ≡ true → lot_fits (index_option o call strike price) ≡ true
unfolding index_option
index_lot o call strike price e =
    let h = index_asked_is o strike price e in
    let f = index_is o h.0 in
    let g = option_is strike price h.1 in
    rw e (option_lot_lem _ _ strike price (at_most_more (lit≤ tt) (index_most o call strike price f g)) f.multiplier_most g)

pub stock_lot : (s : StockLine) (call : Bool) (strike price : ℕ) → stock_asked s strike price ≡ true → lot_fits (stock_option s call strike price) ≡ true
unfolding stock_option
stock_lot s call strike price e =
    let h = stock_asked_is s strike price e in
    let f = stock_is s h.0 in
    let g = option_is strike price h.1 in
    rw e (option_lot_lem _ _ strike price (stock_most s call strike price f g) f.shares_most g)

-- And so are the terms.
pub index_terms_taken : (o : IndexLine) (clearing : ℕ) → terms_asked o clearing ≡ true → terms_fit (index_terms o clearing) ≡ true
unfolding index_terms
index_terms_taken o clearing e =
    let h = terms_asked_is o clearing e in
    let f = index_is o h.0 in
    let k = (clearing_is clearing h.1).0 in
    rw e (terms_fit_lem _ refl (record { multiplier_most = f.multiplier_most; tenth_most = omega arith; c_most = at_most_more (lit≤ tt) f.c_most }))

pub stock_terms_taken : (s : StockLine) → stock_fits s ≡ true → terms_fit (stock_terms s) ≡ true
unfolding stock_terms
stock_terms_taken s e =
    let f = stock_is s e in
    rw e (terms_fit_lem _ refl (record { multiplier_most = f.shares_most; tenth_most = tenth_most s f; c_most = c_value_most s f }))

-- A unit is accepted exactly when none of its checks fails, and then its margin is its kind's formula.
module _ (kind : ℕ) (first second : Lot) (terms : Terms) (r1 r2 : ℕ) where
  pub unit_by_number : eqb (unit_number kind first second terms r1 r2) 0 ≡ all_pass (unit_checks kind first second terms r1 r2)
  unfolding unit_number unit_checks numbered
  unit_by_number = by_number (unit_checks kind first second terms r1 r2) refl

  pub unit_answered : (charged : Bool) → all_pass (unit_checks kind first second terms r1 r2) ≡ true → unit_margin kind first second terms r1 r2 charged ≡ record { number = 0; levels = formula kind first second terms r1 r2 charged }
  unfolding unit_margin unit_number
  unit_answered charged e = simp (none_fails (unit_checks kind first second terms r1 r2) e)

flat_most : (n : ℕ) {most : ℕ} → n ≤ most → AtMost most (flat n)
flat_most n h = record { at_clearing = h; at_maintenance = h; at_initial = h }

mixed_at_most : (m1 v1 m2 v2 : ℕ) → v1 ≤ premium_limit → v2 ≤ premium_limit → m1 ≤ lot_limit → m2 ≤ lot_limit → mixed_at m1 v1 m2 v2 ≤ 6430000000
unfolding mixed_at
mixed_at_most m1 v1 m2 v2 a b d e = omega (arith, lower_most m1 v1 m2 v2 a b)

mixed_most : (call put : Lot) (c : Levels) → LotFacts call → LotFacts put → AtMost c_limit c → AtMost 8430000000 (mixed_margin call put c)
unfolding mixed_margin
mixed_most call put c f g h =
    both_at_most (λ (m : ℕ) (n : ℕ). m + n) (λ m n a b. add-le-add a b)
    (both_at_most (λ (m : ℕ) (n : ℕ). mixed_at m call.premium n put.premium) (λ m n a b. mixed_at_most m _ n _ f.premium_most g.premium_most a b) f.margin_most g.margin_most)
    h

larger_most : {most : ℕ} {l m : Levels} → AtMost most l → AtMost most m → AtMost most (both_levels max l m)
larger_most h k = both_at_most max (λ x y a b. max-le a b) h k

module _ (first second : Lot) (terms : Terms) (r1 r2 : ℕ) (charged : Bool) (u : UnitFacts first second terms r1 r2) where
  credit_most : AtMost 2000000000 (credit_margin first.strike second.strike terms.multiplier)
  unfolding credit_margin
  credit_most =
      let k1 = u.first_is.strike_most in
      let k2 = u.second_is.strike_most in
      flat_most _ (dollar_most _ 2000000000 (worth_most _ terms.multiplier (omega arith) u.terms_is.multiplier_most))

  time_most : AtMost 4000000000 (time_margin terms.tenth first.price second.price terms.multiplier)
  unfolding time_margin
  time_most =
      let p1 = u.first_is.price_most in
      let p2 = u.second_is.price_most in
      let t = u.terms_is.tenth_most in
      let w : worth (max first.price second.price - min first.price second.price) terms.multiplier ≤ 200000000000000000 = worth_most _ terms.multiplier (omega arith) u.terms_is.multiplier_most in
      flat_most _ (max-le (omega arith) (dollar_most _ 4000000000 (omega arith)))

  -- In every kind but 5 a unit comes to at most 8,430,000,000 dollars.
  pub each_most : (P : Levels → Type 0) (kind : ℕ) → ((l : Levels) → AtMost 8430000000 l → P l) → (kind ≡ 5 → P (future_option_margin r1 first.margin r2 second.premium)) → P (formula kind first second terms r1 r2 charged)
  unfolding formula debit_margin conversion_margin calendar_margin products_margin
  each_most P kind small five =
      let m = u.first_is.margin_most in
      let n = u.second_is.margin_most in
      let larger = small _ (at_most_more (lit≤ tt) (larger_most m n)) in
      each_kind _ _ _ _ _ _ _ _ _ P kind
      (λ _. small _ (flat_most 0 (lit≤ tt)))
      (λ _. small _ (at_most_more (lit≤ tt) credit_most))
      (λ _. small _ (at_most_more (lit≤ tt) time_most))
      (λ _. small _ (mixed_most first second _ u.first_is u.second_is (charged_most charged terms.c u.terms_is.c_most)))
      five
      (λ _. small _ (at_most_more (lit≤ tt) n))
      (λ _. larger)
      (λ _. larger)
      (small _ (flat_most 0 (lit≤ tt)))

  -- With up to 100 lots to a unit on each leg, a unit comes to at most 643,000,000,000.
  five_at : (m : ℕ) → m ≤ lot_limit → r1 * m + r2 * second.premium ≤ 643000000000
  five_at m h = omega (arith, mul-le-mul u.r1_most h, mul-le-mul u.r2_most u.second_is.premium_most)

  pub unit_most : (kind : ℕ) → AtMost 643000000000 (formula kind first second terms r1 r2 charged)
  unfolding future_option_margin
  unit_most kind =
      each_most (AtMost 643000000000) kind (λ l h. at_most_more (lit≤ tt) h) (λ _. each_at_most _ five_at u.first_is.margin_most)

  -- All units of a pair, of which no leg has more than 100,000 lots, come to at most 843,000,000,000,000.
  module _ (units : ℕ) (some : units ≤ 100000) (one : r1 * units ≤ 100000) (two : r2 * units ≤ 100000) where
    times_units : (l : Levels) → AtMost 8430000000 l → AtMost 843000000000000 (per_level (λ (m : ℕ). m * units) l)
    times_units l h = each_at_most (λ (m : ℕ). m * units) (λ m k. mul-le-mul k some) h

    five_units : (m : ℕ) → m ≤ lot_limit → (r1 * m + r2 * second.premium) * units ≤ 843000000000000
    five_units m h =
        rw (add-mul (r1 * m) (r2 * second.premium) units, mul_right_comm r1 m units, mul_right_comm r2 second.premium units)
        (omega (arith, mul-le-mul one h, mul-le-mul two u.second_is.premium_most))

    pub pair_most : (kind : ℕ) → AtMost 843000000000000 (per_level (λ (m : ℕ). m * units) (formula kind first second terms r1 r2 charged))
    unfolding future_option_margin
    pair_most kind =
        each_most (λ (l : Levels). AtMost 843000000000000 (per_level (λ (m : ℕ). m * units) l)) kind times_units
        (λ _. each_at_most (λ (m : ℕ). (r1 * m + r2 * second.premium) * units) five_units u.first_is.margin_most)

-- A holding of at most 100,000 lots a side comes to at most 486,000,000,000,000: every free future is charged, of options the
-- short ones.
pub futures_most : (long short : ℕ) {l : Levels} → AtMost 2430000000 l → long ≤ 100000 → short ≤ 100000 → AtMost 486000000000000 (per_level (λ (m : ℕ). m * (long + short)) l)
futures_most long short h a b =
    each_at_most (λ (m : ℕ). m * (long + short)) (λ m k. mul-le-mul k (add-le-add a b)) h

pub options_most : (short : ℕ) {l : Levels} → AtMost lot_limit l → short ≤ 100000 → AtMost 486000000000000 (per_level (λ (m : ℕ). m * short) l)
options_most short h b =
    at_most_more (lit≤ tt) (each_at_most (λ (m : ℕ). m * short) (λ m k. mul-le-mul k b) h)

-- An account of 128 holdings and 128 pairs (`margin_most` of same_answer: no margin call answers more).
unfoldable pub account_limit : ℕ
account_limit = 128 * 486000000000000 + 128 * 843000000000000

pub account_fits_lem : account_limit < 2 ^ 64
unfolding account_limit
account_fits_lem = lit< tt

-- A mixed pair costs the same whichever side is looked at first.
lower_either_way : (m1 v1 m2 v2 : ℕ) → lower_premium m1 v1 m2 v2 ≡ lower_premium m2 v2 m1 v1
unfolding lower_premium
lower_either_way m1 v1 m2 v2 = go (ltb m1 m2) (ltb m2 m1) refl refl
  where
    go : (x y : Bool) → ltb m1 m2 ≡ x → ltb m2 m1 ≡ y → pick x v1 (pick y v2 (max v1 v2)) ≡ pick y v2 (pick x v1 (max v2 v1))
    go true true e f = absurd (omega (arith, ltb-true m1 m2 e, ltb-true m2 m1 f))
    go true false e f = refl
    go false true e f = refl
    go false false e f = max_comm v1 v2

pub mixed_either_way : (m1 v1 m2 v2 : ℕ) → mixed_at m1 v1 m2 v2 ≡ mixed_at m2 v2 m1 v1
unfolding mixed_at
mixed_either_way m1 v1 m2 v2 = omega (arith, lower_either_way m1 v1 m2 v2)

-- Compared after rounding, equal margins take the larger premium value.
pub equal_margins : (m v1 v2 : ℕ) → mixed_at m v1 m v2 ≡ m + max v1 v2
unfolding mixed_at lower_premium
equal_margins m v1 v2 = simp (le-ltb m m (omega arith)) (omega arith)
