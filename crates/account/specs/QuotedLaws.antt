-- Laws of the rows of a book, each quoted once: what the sheet's fields say of a row's series is its quote.
use Rattle.std.specs.Prelude.{◌≡◌, List, [], ◌∷◌, ℕ, ◌+◌, ◌<◌, ◌≤◌, min, get_or, length, take, set, replicate, Option}
use Rattle.std.proofs.Math.Path.{refl, ap}
use Rattle.std.proofs.Common.{◌∙◌, arith, length-set, get_or-set_same, get_or-set_other}
use Rattle.std.proofs.Math.Decide.{dec_lt}
use Rattle.std.proofs.lemmas.List.{length-replicate}
use Rattle.halving.specs.Halving.{key_at}
use Rattle.codes.specs.declared.Product.{Product}
use Rattle.codes.specs.Codes.{product_of}
use Rattle.series.specs.declared.Series.{Series}
use Rattle.amounts.specs.declared.IndexLine.{IndexLine}
use Rattle.amounts.specs.declared.StockLine.{StockLine}
use Rattle.rows.specs.declared.Holding.{Holding}
use Rattle.sheets.specs.declared.Sheet.{Sheet}
use Rattle.sheets.specs.Rows.{nothing, no_index, no_stock}
use Rattle.sheets.specs.Sheet.{future_place, option_place, stock_place, nearest, row_at, price_among, prices_at, clearing_on, index_on, stock_on, price_on}
use Rattle.sheets.specs.SeekLaws.{filled_says}
use Rattle.sheets.specs.TableLaws.{row_inside}
use Rattle.sound.specs.Walk.{no_row, Keyed}
use Rattle.quotes.specs.declared.Quote.{Quote}
use Rattle.sheets.specs.View.{View, saying, sheet_view}
use Rattle.quotes.specs.Quotes.{no_quote, quote_as, quote_of}
use Rattle.quotes.specs.QuoteLaws.{quote_said}
use Rattle.account.specs.Walk.{Priced, QuotesAre}

-- What the lookups of a series find, put together, is its quote.
module _ (sheet : Sheet) (s : Series) {p : Product} {clearing price : Option ℕ} {index : IndexLine} {stock : StockLine} {at k : ℕ} {q : Quote} where
  pub row_quoted : length sheet.stocks ≡ 676 → p ≡ product_of s.code → clearing ≡ get_or sheet.futures (future_place p.parent) nothing → index ≡ get_or sheet.options (option_place s.code) no_index → at ≡ stock_place p.parent → k ≡ nearest at → stock ≡ row_at at (get_or sheet.stocks k no_stock) → price ≡ (sheet_view sheet).price s → q ≡ quote_as (saying clearing index stock price) p s → q ≡ quote_of (sheet_view sheet) s
  unfolding sheet_view quote_of clearing_on index_on stock_on
  row_quoted long hp hc hi ha hk hs hv hq =
      let st : stock ≡ stock_on sheet p.parent = rw (hs, hk, row_inside sheet.stocks at long, ha) refl in
      let said : quote_as (saying clearing index stock price) p s ≡ quote_as (sheet_view sheet) p s = rw (hc, hi, st, hv) (quote_said (sheet_view sheet) p s) in
      hq ∙ said ∙ ap (λ (o : Product). quote_as (sheet_view sheet) o s) hp

-- What was found for the keys of the rows are their prices.
pub rows_priced : (sheet : Sheet) (rows : List Holding) (held : ℕ) {highs lows : List ℕ} {prices : List (Option ℕ)} → Keyed no_row rows held highs lows → held ≤ 128 → prices ≡ prices_at sheet.prices sheet.quoted highs lows held → Priced (sheet_view sheet) rows held prices
unfolding sheet_view price_on prices_at
rows_priced sheet rows held {highs} {lows} keyed few is =
    let all : min held 128 ≡ held = omega arith in
    record {
      prices_are = λ i lt.
          rw (is, all)
          (filled_says (λ (j : ℕ). price_among (take sheet.quoted sheet.prices) (key_at highs lows j)) nothing held (replicate 128 nothing) i (simp length-replicate few) lt
          ∙ ap (price_among (take sheet.quoted sheet.prices)) (λ j. keyed.highs_are i lt j ∷ keyed.lows_are i lt j ∷ []));
    }

-- The loop over rows: it has quoted the first i.
pub quotes_start : (v : View) (rows : List Holding) (quotes : List Quote) → length quotes ≡ 128 → QuotesAre v rows 0 quotes
quotes_start v rows quotes long = record { long = long; are = λ i lt. absurd (omega arith) }

pub quotes_on : {v : View} {rows : List Holding} {i : ℕ} {quotes : List Quote} {q : Quote} → QuotesAre v rows i quotes → i < 128 → q ≡ quote_of v (get_or rows i no_row).series → QuotesAre v rows (i + 1) (set quotes i q)
quotes_on {v} {rows} {i} {quotes} {q} z lt hq = record { long = length-set quotes i q ∙ z.long; are = λ j less. go j less (dec_lt j i) }
  where
    go : (j : ℕ) → j < i + 1 → Dec (j < i) → get_or (set quotes i q) j no_quote ≡ quote_of v (get_or rows j no_row).series
    go j less (yes h) = get_or-set_other quotes i j q no_quote (λ e. omega arith) ∙ z.are j h
    go j less (no h) =
        let same : j ≡ i = omega arith in
        let long = z.long in
        rw (same, get_or-set_same quotes i q no_quote (omega arith)) hq
