-- The largest that a lot of a short option can come to.
use Rattle.std.specs.Prelude.{Bool, ℕ, ◌+◌, ◌*◌, ◌≤◌}
use Rattle.std.proofs.Common.{lit≤}
use Rattle.laws.specs.TruthLaws.{picked}
use Rattle.levels.specs.declared.Levels.{Levels}
use Rattle.levels.specs.Levels.{both_levels}
use Rattle.levels.specs.Ranges.{AtMost}
use Rattle.levels.specs.LevelLaws.{both_at_most, rates_most, halves_most}
use Rattle.amounts.specs.declared.IndexLine.{IndexLine}
use Rattle.amounts.specs.declared.StockLine.{StockLine}
use Rattle.amounts.specs.LineLaws.{IndexFacts, StockFacts, OptionFacts}
use Rattle.amounts.specs.Singles.{single, index_margin, stock_margin}
use Rattle.amounts.specs.AmountLaws.{worth_most, portions_most, single_most, exact_most}

-- A single margin at both levels.
singles_most : (premium out most : ℕ) {a b : Levels} {dollars : ℕ} → premium ≤ 200000000000000000 → AtMost most a → AtMost most b → 200000000000000000 + most ≤ dollars * 100000000 → AtMost dollars (both_levels (single premium out) a b)
singles_most premium out most p h k d = both_at_most (single premium out) (λ a b x y. single_most premium out a b most p x y d) h k

-- A short option of an index comes to at most 2,100,000,000 dollars,
pub index_most : (o : IndexLine) (call : Bool) (strike price : ℕ) → IndexFacts o → OptionFacts strike price → AtMost 2100000000 (index_margin o call strike price)
unfolding index_margin
index_most o call strike price f g =
    singles_most _ _ 10000000000000000 (worth_most price o.multiplier g.value_most f.multiplier_most) (exact_most f.a_most) (exact_most f.b_most) (lit≤ tt)

-- one of a stock to at most 4,430,000,000,
pub stock_most : (s : StockLine) (call : Bool) (strike price : ℕ) → StockFacts s → OptionFacts strike price → AtMost 4430000000 (stock_margin s call strike price)
unfolding stock_margin
stock_most s call strike price f g =
    let rates = rates_most _ _ f.option_fits_lem in
    let base = picked (λ (n : ℕ). n ≤ 100000000) call s.price strike (λ _. f.price_most) (λ _. g.strike_most) in
    singles_most _ _ 243000000000000000
    (worth_most price s.shares g.value_most f.shares_most)
    (portions_most s.price s.shares f.price_most f.shares_most rates)
    (portions_most _ s.shares base f.shares_most (halves_most rates))
    (lit≤ tt)
