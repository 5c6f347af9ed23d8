-- Laws of quotes: a quote depends on four answers of the sheet, and of a series on the sheet the lot and the terms are taken.
use Rattle.std.specs.Prelude.{◌≡◌, refl, Bool, true, false, List, ℕ, eqb, leb, get_or, Option, is_some, unwrap_or}
use Rattle.std.proofs.Common.{sym, ◌∙◌, arith, lit≤}
use Rattle.laws.specs.Truth.{pick, both}
use Rattle.laws.specs.TruthLaws.{clash, both_true, both_hold, both_end, picked}
use Rattle.laws.specs.Text.{byte}
use Rattle.laws.specs.Bytes.{same_bytes}
use Rattle.laws.specs.Search.{every_line}
use Rattle.laws.specs.SearchLaws.{found_has}
use Rattle.codes.specs.declared.Class.{Class}
use Rattle.codes.specs.declared.Class.TheVariants.{Unknown, ListedFuture, ListedOption, StockFuture, StockOption}
use Rattle.codes.specs.declared.Product.{Product}
use Rattle.codes.specs.Codes.{listed, stock, unknown, names_stock, unlisted, product_of, known, is_future_class, is_option_class}
use Rattle.series.specs.declared.Series.{Series}
use Rattle.series.specs.declared.Nature.{Nature}
use Rattle.series.specs.declared.Nature.TheVariants.{Future, Call, Put}
use Rattle.series.specs.Natures.{is_call, strike_of}
use Rattle.series.specs.Checks.{strike_fits, suits, class_of, good_series}
use Rattle.series.specs.CheckLaws.{series_parts}
use Rattle.levels.specs.declared.Levels.{Levels}
use Rattle.levels.specs.Levels.{flat, fixed_levels}
use Rattle.levels.specs.Ranges.{AtMost, levels_fit, clearing_fits, part_fits, fixed_fits}
use Rattle.levels.specs.RangeLaws.{levels_are, at_most_more}
use Rattle.levels.specs.LevelLaws.{fixed_most}
use Rattle.amounts.specs.declared.Lot.{Lot}
use Rattle.amounts.specs.Lines.{index_fits, stock_fits, option_fits, future_asked, index_asked, stock_asked, terms_asked}
use Rattle.amounts.specs.LineLaws.{stock_is, future_asked_is}
use Rattle.amounts.specs.AmountLaws.{future_most}
use Rattle.amounts.specs.Lots.{refused_lot, fixed_future, stock_future, index_option, stock_option}
use Rattle.amounts.specs.Limits.{lot_limit, lot_fits, terms_fit}
use Rattle.units.specs.LimitLaws.{lot_is}
use Rattle.units.specs.UnitLaws.{fixed_lot, stock_future_lot, index_lot, stock_lot, index_terms_taken, stock_terms_taken}
use Rattle.sheets.specs.View.{View, saying}
use Rattle.quotes.specs.declared.Quote.{Quote}
use Rattle.quotes.specs.Quotes.{by_class, clearing_stands, price_stands, on_sheet, own_line, lot_lines, parent_lines, clearing_said, price_said, lot_as, no_terms, terms_as, quote_as, quote_of}

-- By the class: what holds of each holds.
each_class : (P : Class → Type 0) (c : Class) → P Unknown → P ListedFuture → P ListedOption → P StockFuture → P StockOption → P c
each_class P Unknown u f o g q = u
each_class P ListedFuture u f o g q = f
each_class P ListedOption u f o g q = o
each_class P StockFuture u f o g q = g
each_class P StockOption u f o g q = q

-- a product, but of this class
abbrev classed : Product → Class → Product
classed p c = record { code = p.code; class = c; parent = p.parent; part = p.part }

-- A quote is of what the sheet says of the parent, the code, the stock and the price, and of nothing else.
pub quote_said : (v : View) (p : Product) (s : Series) → quote_as (saying (v.clearing p.parent) (v.index s.code) (v.stock p.parent) (v.price s)) p s ≡ quote_as v p s
unfolding saying on_sheet own_line lot_lines parent_lines clearing_said price_said lot_as terms_as quote_as every_line
quote_said v p s =
    each_class (λ (c : Class). quote_as (saying (v.clearing p.parent) (v.index s.code) (v.stock p.parent) (v.price s)) (classed p c) s ≡ quote_as v (classed p c) s) p.class refl refl refl refl refl

pub quote_same : (v w : View) (s : Series) → v.clearing (product_of s.code).parent ≡ w.clearing (product_of s.code).parent → v.index s.code ≡ w.index s.code → v.stock (product_of s.code).parent ≡ w.stock (product_of s.code).parent → v.price s ≡ w.price s → quote_of v s ≡ quote_of w s
unfolding quote_of
quote_same v w s f o k q =
    sym (quote_said v (product_of s.code) s)
    ∙ ((λ i. quote_as (saying (f i) (o i) (k i) (q i)) (product_of s.code) s) ∙ quote_said w (product_of s.code) s)

-- A quote as it is worked out, line by line, and that it is the same.
abbrev worked : View → Product → Series → Quote
worked v p s =
    let f = clearing_stands (v.clearing p.parent) in
    let k = stock_fits (v.stock p.parent) in
    let q = price_stands (v.price s) in
    let own = by_class p.class false f (index_fits (v.index s.code)) k k in
    record {
      lined = own;
      ready = both own (by_class p.class true true q q q);
      timed = by_class p.class true true f true true;
      lot = lot_as v p s;
      terms = terms_as v p s;
    }

pub quote_worked : (v : View) (p : Product) (s : Series) → worked v p s ≡ quote_as v p s
unfolding on_sheet own_line lot_lines parent_lines quote_as every_line
quote_worked v p s =
    each_class (λ (c : Class). worked v (classed p c) s ≡ quote_as v (classed p c) s) p.class refl (simp both_end) (simp both_end) (simp both_end) (simp both_end)

-- Where all lines stand that a lot needs, its own does.
pub ready_lined : (v : View) (s : Series) → (quote_of v s).ready ≡ true → (quote_of v s).lined ≡ true
unfolding quote_of quote_as lot_lines every_line
ready_lined v s e = (both_true _ _ e).0

-- A lot that is taken or refused keeps to the limit.
limited : (l : Lot) (taken : Bool) → (taken ≡ true → lot_fits l ≡ true) → (taken ≡ false → l ≡ refused_lot) → AtMost lot_limit l.margin
unfolding levels_fit
limited l true h k = (lot_is l (h refl)).margin_most
limited l false h k = rw (k refl) (levels_are lot_limit (flat 0) refl)

pub lot_most : (v : View) (s : Series) → AtMost lot_limit (quote_of v s).lot.margin
unfolding quote_of quote_as lot_as levels_fit fixed_future fixed_levels stock_future index_option stock_option
lot_most v s =
    let p = product_of s.code in
    each_class (λ (c : Class). AtMost lot_limit (lot_as v (classed p c) s).margin) p.class
    (levels_are lot_limit (flat 0) refl)
    (limited _ (fixed_fits (clearing_said v p.parent) p.part) (fixed_lot _ _) (λ e. simp e))
    (limited _ (index_asked (v.index s.code) (strike_of s.nature) (price_said v s)) (index_lot _ (is_call s.nature) _ _) (λ e. simp e))
    (limited _ (future_asked (v.stock p.parent) (price_said v s)) (stock_future_lot _ _) (λ e. simp e))
    (limited _ (stock_asked (v.stock p.parent) (strike_of s.nature) (price_said v s)) (stock_lot _ (is_call s.nature) _ _) (λ e. simp e))

-- And a lot of a future comes to no more than the dearest stock future.
dealt : {most : ℕ} (l : Levels) (taken : Bool) → (taken ≡ true → AtMost most l) → (taken ≡ false → l ≡ flat 0) → AtMost most l
dealt l true h k = h refl
dealt l false h k = rw (k refl) (record { at_clearing = omega arith; at_maintenance = omega arith; at_initial = omega arith })

pub future_most_lot : (v : View) (s : Series) → is_future_class (product_of s.code).class ≡ true → AtMost 2430000000 (quote_of v s).lot.margin
unfolding quote_of quote_as lot_as fixed_future fixed_levels stock_future
future_most_lot v s =
    let p = product_of s.code in
    each_class (λ (c : Class). is_future_class c ≡ true → AtMost 2430000000 (lot_as v (classed p c) s).margin) p.class
    (λ e. absurd (clash e refl))
    (λ e. dealt _ (fixed_fits (clearing_said v p.parent) p.part) (λ t. rw t (at_most_more (lit≤ tt) (fixed_most _ _ t))) (λ t. simp t))
    (λ e. absurd (clash e refl))
    (λ e. dealt _ (future_asked (v.stock p.parent) (price_said v s)) (λ t. let h = future_asked_is _ _ t in rw t (future_most _ _ (stock_is _ h.0) h.1)) (λ t. simp t))
    (λ e. absurd (clash e refl))

-- An amount that is said passes its test, and so does 0.
said_fits : (test : ℕ → Bool) (f : Option ℕ) → test 0 ≡ true → test (pick (both (is_some f) (test (unwrap_or f 0))) (unwrap_or f 0) 0) ≡ true
said_fits test f none =
    picked (λ (n : ℕ). test n ≡ true) (both (is_some f) (test (unwrap_or f 0))) (unwrap_or f 0) 0 (λ e. (both_true (is_some f) _ e).1) (λ _. none)

clearing_fits_lem : (v : View) (code : List ℕ) → clearing_fits (clearing_said v code) ≡ true
unfolding clearing_said clearing_fits
clearing_fits_lem v code = said_fits clearing_fits (v.clearing code) refl

price_fits : (v : View) (s : Series) → leb (price_said v s) 100000000 ≡ true
unfolding price_said
price_fits v s = said_fits (λ (n : ℕ). leb n 100000000) (v.price s) refl

-- An option's strike is in its range.
strike_fits_lem : (c : Class) (n : Nature) → is_future_class c ≡ false → suits c n ≡ true → strike_fits (strike_of n) ≡ true
strike_fits_lem c Future f e = absurd (clash e f)
strike_fits_lem c (Call strike) f e = (both_true (is_option_class c) _ e).1
strike_fits_lem c (Put strike) f e = (both_true (is_option_class c) _ e).1

-- What each listed line, each stock's and an unknown code's product have, every product has. The test is of the table alone.
product_has : (P : Product → Type 0) (test : Product → Bool) (code : List ℕ) → every_line test listed ≡ true → ((p : Product) → test p ≡ true → P p) → ((c : Class) → P (stock c code)) → P (unknown code) → P (product_of code)
unfolding product_of unlisted
product_has P test code e h k n =
    found_has P (λ (p : Product). same_bytes code p.code) test (λ (p : Product). p) _ listed e (λ p t _. h p t)
    (picked P (names_stock code) _ _
    (λ _. picked P (eqb (get_or code 2 0) (byte "F")) _ _ (λ _. k StockFuture) (λ _. picked P (eqb (get_or code 2 0) (byte "O")) _ _ (λ _. k StockOption) (λ _. n)))
    (λ _. n))

part_fits_lem : (code : List ℕ) → known (product_of code).class ≡ true → part_fits (product_of code).part ≡ true
unfolding every_line listed part_fits
part_fits_lem code =
    product_has (λ (p : Product). known p.class ≡ true → part_fits p.part ≡ true) (λ (p : Product). part_fits p.part) code refl (λ p t k. t) (λ c k. refl) (λ k. absurd (clash k refl))

-- The lot of a series whose own line is on the sheet is taken,
pub lot_taken : (v : View) (s : Series) → good_series s ≡ true → (quote_of v s).lined ≡ true → lot_fits (quote_of v s).lot ≡ true
unfolding quote_of quote_as own_line on_sheet lot_as class_of fixed_fits option_fits future_asked index_asked stock_asked
lot_taken v s g =
    let p = product_of s.code in
    let r = series_parts s g in
    each_class (λ (c : Class). suits c s.nature ≡ true → on_sheet v (own_line (classed p c) s) ≡ true → lot_fits (lot_as v (classed p c) s) ≡ true) p.class
    (λ n l. absurd (clash l refl))
    (λ n l. fixed_lot _ _ (both_hold (clearing_fits_lem v p.parent) (part_fits_lem s.code r.0)))
    (λ n l. index_lot _ _ _ _ (both_hold l (both_hold (strike_fits_lem ListedOption s.nature refl n) (price_fits v s))))
    (λ n l. stock_future_lot _ _ (both_hold l (price_fits v s)))
    (λ n l. stock_lot _ _ _ _ (both_hold l (both_hold (strike_fits_lem StockOption s.nature refl n) (price_fits v s))))
    r.2

-- and so are the terms of its pairs.
pub terms_taken : (v : View) (s : Series) → good_series s ≡ true → (quote_of v s).lined ≡ true → terms_fit (quote_of v s).terms ≡ true
unfolding quote_of quote_as own_line on_sheet no_terms terms_as terms_fit levels_fit terms_asked
terms_taken v s g =
    let p = product_of s.code in
    each_class (λ (c : Class). on_sheet v (own_line (classed p c) s) ≡ true → terms_fit (terms_as v (classed p c) s) ≡ true) p.class
    (λ l. refl)
    (λ l. refl)
    (λ l. index_terms_taken _ _ (both_hold l (clearing_fits_lem v p.parent)))
    (λ l. refl)
    (λ l. stock_terms_taken _ l)
