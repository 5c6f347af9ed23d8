-- Laws of lines: what a test says of a line's numbers.
use Rattle.std.specs.Prelude.{◌≡◌, true, ℕ, ◌≤◌}
use Rattle.std.proofs.Common.{leb-true}
use Rattle.laws.specs.TruthLaws.{both_true, within_true}
use Rattle.levels.specs.Ranges.{AtMost, rates_fit, clearing_fits}
use Rattle.levels.specs.RangeLaws.{levels_are}
use Rattle.amounts.specs.declared.IndexLine.{IndexLine}
use Rattle.amounts.specs.declared.StockLine.{StockLine}
use Rattle.amounts.specs.Lines.{index_fits, stock_fits, option_fits, future_asked, index_asked, stock_asked, terms_asked}
use Rattle.amounts.specs.ValueLimits.{ValueFits}

pub record IndexFacts (o : IndexLine) : Type 0 where
  pub multiplier_most : o.multiplier ≤ 20000
  pub underlying_most : o.underlying ≤ 100000000
  pub a_most : AtMost 100000000 o.a
  pub b_most : AtMost 100000000 o.b
  pub c_most : AtMost 100000000 o.c

pub index_is : (o : IndexLine) → index_fits o ≡ true → IndexFacts o
unfolding index_fits
index_is o e =
    let h = both_true _ _ e in
    let n = both_true _ _ h.0 in
    let l = both_true _ _ h.1 in
    let m = both_true _ _ l.1 in
    record {
      multiplier_most = (within_true _ _ _ n.0).1;
      underlying_most = (within_true _ _ _ n.1).1;
      a_most = levels_are _ _ l.0;
      b_most = levels_are _ _ m.0;
      c_most = levels_are _ _ m.1;
    }

pub record StockFacts (s : StockLine) : Type 0 where
  pub shares_most : s.shares ≤ 20000
  pub price_most : s.price ≤ 100000000
  pub future_fits : rates_fit s.future s.disposition ≡ true
  pub option_fits_lem : rates_fit s.option s.disposition ≡ true
  pub c_most : AtMost 100000 s.c

pub stock_is : (s : StockLine) → stock_fits s ≡ true → StockFacts s
unfolding stock_fits
stock_is s e =
    let h = both_true _ _ e in
    let n = both_true _ _ h.0 in
    let l = both_true _ _ h.1 in
    let m = both_true _ _ l.1 in
    record {
      shares_most = (within_true _ _ _ n.0).1;
      price_most = (within_true _ _ _ n.1).1;
      future_fits = l.0;
      option_fits_lem = m.0;
      c_most = levels_are _ _ m.1;
    }

pub record OptionFacts (strike price : ℕ) : Type 0 where
  pub strike_most : strike ≤ 100000000
  pub value_most : price ≤ 100000000

pub option_is : (strike price : ℕ) → option_fits strike price ≡ true → OptionFacts strike price
unfolding option_fits
option_is strike price e =
    let h = both_true _ _ e in
    record { strike_most = (within_true 1 100000000 strike h.0).1; value_most = leb-true price 100000000 h.1 }

pub future_asked_is : (s : StockLine) (price : ℕ) → future_asked s price ≡ true → (stock_fits s ≡ true) × (price ≤ 100000000)
unfolding future_asked
future_asked_is s price e =
    let h = both_true _ _ e in
    (h.0, leb-true price 100000000 h.1)

pub index_asked_is : (o : IndexLine) (strike price : ℕ) → index_asked o strike price ≡ true → (index_fits o ≡ true) × (option_fits strike price ≡ true)
unfolding index_asked
index_asked_is o strike price e = both_true _ _ e

pub stock_asked_is : (s : StockLine) (strike price : ℕ) → stock_asked s strike price ≡ true → (stock_fits s ≡ true) × (option_fits strike price ≡ true)
unfolding stock_asked
stock_asked_is s strike price e = both_true _ _ e

pub terms_asked_is : (o : IndexLine) (clearing : ℕ) → terms_asked o clearing ≡ true → (index_fits o ≡ true) × (clearing_fits clearing ≡ true)
unfolding terms_asked
terms_asked_is o clearing e = both_true _ _ e

-- What a stock's line says keeps its values to the limits.
pub value_fits : (s : StockLine) → stock_fits s ≡ true → ValueFits s.price s.shares
value_fits s e = let f = stock_is s e in record { price_most = f.price_most; multiplier_most = f.shares_most }

pub c_fits : (s : StockLine) → stock_fits s ≡ true → AtMost 100000 s.c
c_fits s e = (stock_is s e).c_most
