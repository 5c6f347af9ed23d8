-- Laws of amounts: the largest that a lot of each family can come to, and that a tenth of a clearing margin is whole.
use Rattle.std.specs.Prelude.{◌≡◌, refl, true, ℕ, ◌+◌, ◌-◌, ◌*◌, ◌/◌, ◌≤◌, max}
use Rattle.std.proofs.Common.{ap, mul-le-mul, arith, lit≤}
use Rattle.rounding.specs.Rounding.{to_dollar, half_up, steps_near}
use Rattle.rounding.specs.RoundingLaws.{dollar_most}
use Rattle.levels.specs.declared.Levels.{Levels}
use Rattle.levels.specs.Levels.{per_level, rates_of, raised, half_of, flat}
use Rattle.levels.specs.Ranges.{AtMost, clearing_fits, levels_fit, rates_fit, rate_fits, disposition_fits}
use Rattle.levels.specs.RangeLaws.{clearing_is}
use Rattle.levels.specs.LevelLaws.{each_at_most, rates_most}
use Rattle.amounts.specs.declared.StockLine.{StockLine}
use Rattle.amounts.specs.Lines.{stock_fits, option_fits, stock_asked}
use Rattle.amounts.specs.LineLaws.{StockFacts}
use Rattle.amounts.specs.Singles.{portion, worth, dollars, premium_value, out_of_money, single, stock_margin, future_margin}
use Rattle.amounts.specs.Lots.{stock_option}

-- A price of at most 100,000 dollars, by at most 20,000, by a rate.
portion_most : (price multiplier rate : ℕ) {most : ℕ} → price ≤ 100000000 → multiplier ≤ 20000 → rate ≤ most → portion price multiplier rate ≤ 2000000000000 * most
unfolding portion
portion_most price multiplier rate p m r = mul-le-mul (mul-le-mul p m) r

pub worth_most : (price multiplier : ℕ) → price ≤ 100000000 → multiplier ≤ 20000 → worth price multiplier ≤ 200000000000000000
unfolding worth
worth_most price multiplier p m = portion_most price multiplier 100000 {most = 100000} p m (lit≤ tt)

pub portions_most : (price multiplier : ℕ) {most : ℕ} {rates : Levels} → price ≤ 100000000 → multiplier ≤ 20000 → AtMost most rates → AtMost (2000000000000 * most) (per_level (portion price multiplier) rates)
portions_most price multiplier p m r = each_at_most (portion price multiplier) (λ n h. portion_most price multiplier n p m h) r

dollars_most : (most : ℕ) {l : Levels} → AtMost (most * 100000000) l → AtMost most (per_level to_dollar l)
dollars_most most h = each_at_most to_dollar (λ n k. dollar_most n most k) h

-- A premium value is at most 2,000,000,000 dollars.
pub premium_most : (price multiplier : ℕ) → price ≤ 100000000 → multiplier ≤ 20000 → premium_value price multiplier ≤ 2000000000
unfolding premium_value
premium_most price multiplier p m = dollar_most _ 2000000000 (worth_most price multiplier p m)

-- A stock future's margin, and a stock's C, at most 2,430,000,000 and 2,000,000,000.
pub future_most : (s : StockLine) (price : ℕ) → StockFacts s → price ≤ 100000000 → AtMost 2430000000 (future_margin s price)
unfolding future_margin
future_most s price f p =
    dollars_most 2430000000 (portions_most price s.shares p f.shares_most (rates_most _ _ f.future_fits))

pub c_value_most : (s : StockLine) → StockFacts s → AtMost 2000000000 (per_level to_dollar (per_level (portion s.price s.shares) s.c))
c_value_most s f =
    dollars_most 2000000000 (portions_most s.price s.shares f.price_most f.shares_most f.c_most)

pub tenth_most : (s : StockLine) → StockFacts s → to_dollar (portion s.price s.shares 10000) ≤ 200000000
tenth_most s f =
    dollar_most _ 200000000 (portion_most s.price s.shares 10000 {most = 10000} f.price_most f.shares_most (lit≤ tt))

-- A single margin is at most the premium and the larger of A and B.
pub single_most : (premium out a b most : ℕ) {dollars : ℕ} → premium ≤ 200000000000000000 → a ≤ most → b ≤ most → 200000000000000000 + most ≤ dollars * 100000000 → single premium out a b ≤ dollars
unfolding single
single_most premium out a b most {dollars} p h k d = dollar_most _ dollars (omega arith)

pub exact_most : {l : Levels} → AtMost 100000000 l → AtMost 10000000000000000 (per_level dollars l)
unfolding dollars
exact_most h = each_at_most dollars (λ n k. omega (arith, k)) h

-- A line that gives a short option of a stock 4,430,000,000 dollars, the most that there is (proofs/MostLaws).
unfoldable pub largest : StockLine
largest = record { shares = 20000; future = 30000; option = 30000; c = flat 100000; disposition = 30; price = 100000000 }

pub most_is_reached : (stock_option largest true 100000000 100000000).margin.initial ≡ 4430000000
unfolding largest stock_option stock_asked stock_fits option_fits levels_fit rates_fit rate_fits disposition_fits stock_margin single worth out_of_money portion rates_of raised half_of to_dollar half_up steps_near
most_is_reached = refl

-- 10 percent of a clearing margin is whole.
pub tenth_whole : (clearing : ℕ) → clearing_fits clearing ≡ true → clearing / 10 * 10 ≡ clearing
tenth_whole clearing e = omega (arith, (clearing_is clearing e).1)

-- So far out of the money that A is used up, a short option costs its premium and B.
pub far_out : (premium out a b : ℕ) → a ≤ out → single premium out a b ≡ to_dollar (premium + b)
unfolding single
far_out premium out a b h =
    let e : max (a - out) b ≡ b = omega arith in
    ap (λ (x : ℕ). to_dollar (premium + x)) e
