-- How large the amounts of one lot can be, from what a sheet can hold (document 01, "Text"); UnitLaws of `units`: the lots and terms of
-- every sound line keep to it.
use Rattle.std.specs.Prelude.{Bool, ℕ, leb, eqb}
use Rattle.laws.specs.Truth.{both}
use Rattle.levels.specs.Ranges.{levels_fit}
use Rattle.amounts.specs.declared.Lot.{Lot}
use Rattle.amounts.specs.declared.Terms.{Terms}

-- A short stock option at price, underlying and strike of 100,000 dollars, 20,000 shares, a of 121.5 percent.
abbrev pub lot_limit : ℕ
lot_limit = 4430000000

-- 100,000 dollars by 20,000.
abbrev pub premium_limit : ℕ
premium_limit = 2000000000

-- A tenth of that value, and all of it (c is at most 100 percent).
abbrev pub tenth_limit : ℕ
tenth_limit = 200000000

abbrev pub c_limit : ℕ
c_limit = 2000000000

unfoldable pub lot_fits : Lot → Bool
lot_fits l =
    both (eqb l.number 0)
    (both (both (levels_fit lot_limit l.margin) (leb l.premium premium_limit))
    (both (leb l.price 100000000) (leb l.strike 100000000)))

unfoldable pub terms_fit : Terms → Bool
terms_fit t =
    both (eqb t.number 0)
    (both (leb t.multiplier 20000)
    (both (leb t.tenth tenth_limit) (levels_fit c_limit t.c)))
