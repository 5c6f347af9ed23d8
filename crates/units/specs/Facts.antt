-- What a lot and terms that fit are known by (LimitLaws), and a unit that is not refused.
use Rattle.std.specs.Prelude.{ℕ, ◌≤◌}
use Rattle.levels.specs.Ranges.{AtMost}
use Rattle.amounts.specs.declared.Lot.{Lot}
use Rattle.amounts.specs.declared.Terms.{Terms}
use Rattle.amounts.specs.Limits.{lot_limit, premium_limit, tenth_limit, c_limit}

pub record LotFacts (l : Lot) : Type 0 where
  pub margin_most : AtMost lot_limit l.margin
  pub premium_most : l.premium ≤ premium_limit
  pub price_most : l.price ≤ 100000000
  pub strike_most : l.strike ≤ 100000000

pub record TermsFacts (t : Terms) : Type 0 where
  pub multiplier_most : t.multiplier ≤ 20000
  pub tenth_most : t.tenth ≤ tenth_limit
  pub c_most : AtMost c_limit t.c

pub record UnitFacts (first second : Lot) (terms : Terms) (r1 r2 : ℕ) : Type 0 where
  pub first_is : LotFacts first
  pub second_is : LotFacts second
  pub terms_is : TermsFacts terms
  pub r1_most : r1 ≤ 100
  pub r2_most : r2 ≤ 100
