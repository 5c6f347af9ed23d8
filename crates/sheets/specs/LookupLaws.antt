-- Laws of lookups: what is found in the plain fields of a sheet is the row with that key (document 01, "Text").
use Rattle.std.specs.Prelude.{◌≡◌, Bool, eqb, ltb, get_or, replicate, Option}
use Rattle.std.proofs.Math.Path.{refl, sym}
use Rattle.std.proofs.Common.{ap, ◌∙◌, subst, arith, ltb-true, eqb-true, eq-eqb}
use Rattle.std.proofs.Math.Bool.{true, false}
use mathlib.Core.List.{List, [], ◌∷◌, map}
use Prim.Native.Nat.{ℕ, zero, suc, ◌-◌, ◌<◌, ◌≤◌}
use Rattle.std.proofs.Math.ListN.{length}
use Rattle.std.proofs.Math.Seq.{take-append_seam}
use Rattle.std.specs.declared.cmp.Ordering.TheVariants.{Less}
use Rattle.laws.specs.TruthLaws.{by_test, clash}
use Rattle.laws.specs.Bytes.{same_bytes}
use Rattle.laws.specs.ByteLaws.{are_same}
use Rattle.laws.specs.Search.{first_where, every_line}
use Rattle.laws.specs.SearchLaws.{found_has, every_at}
use Rattle.laws.specs.Order.{order_of, bytes_order}
use Rattle.laws.specs.OrderLaws.{then_same, is_same_lem}
use Rattle.lists.specs.Places.{full}
use Rattle.lists.specs.Sorted.{ascending}
use Rattle.lists.specs.SortedLaws.{before_at}
use Rattle.series.specs.declared.Series.{Series}
use Rattle.series.specs.Checks.{good_series}
use Rattle.series.specs.Key.{high_key, nature_key, key, series_order}
use Rattle.series.specs.KeyLaws.{halves_order, same_series_lem}
use Rattle.amounts.specs.declared.StockLine.{StockLine}
use Rattle.sheets.specs.declared.FutureRow.{FutureRow}
use Rattle.sheets.specs.declared.OptionRow.{OptionRow}
use Rattle.sheets.specs.declared.StockRow.{StockRow}
use Rattle.sheets.specs.declared.PriceRow.{PriceRow}
use Rattle.sheets.specs.Rows.{Rows, future_codes, option_codes, two_capitals, found, nothing, no_index, no_stock, no_price, clearing_in, index_in, stock_in, price_in}
use Rattle.sheets.specs.Sheet.{place_in, future_place, option_place, stock_place, stock_at, price_among, laid_out, clearing_on, index_on, stock_on, price_on}
use Rattle.sheets.specs.TableLaws.{table_get, tabled_says, tabled_out, place_below, stock_at_place}
use Rattle.sheets.specs.SeekLaws.{among_there, among_nowhere}

-- Rows as they stand on a sheet: F and O rows of listed codes, S rows of two capitals, Q rows in order of their series.
pub record Ordered (rows : Rows) : Type 0 where
  pub futures_listed : every_line (λ (r : FutureRow). ltb (place_in future_codes r.code) (length future_codes)) rows.futures ≡ true
  pub options_listed : every_line (λ (r : OptionRow). ltb (place_in option_codes r.code) (length option_codes)) rows.options ≡ true
  pub stocks_two : every_line (λ (r : StockRow). two_capitals r.code) rows.stocks ≡ true
  pub prices_few : length rows.prices ≤ 1024
  pub prices_order : ascending (λ (r : PriceRow). key r.series ∷ []) rows.prices ≡ true
  pub prices_good : every_line (λ (r : PriceRow). good_series r.series) rows.prices ≡ true

-- A row with one of the table's codes, and none where the code is not one of them.
row_found : {A B : Type 0} (code : A → List ℕ) (made : A → B) (none : B) (cs : List (List ℕ)) (rows : List A) → every_line (λ (x : A). ltb (place_in cs (code x)) (length cs)) rows ≡ true → (c : List ℕ) → get_or (map (λ (b : List ℕ). first_where (λ (x : A). same_bytes (code x) b) made none rows) cs) (place_in cs c) none ≡ first_where (λ (x : A). same_bytes (code x) c) made none rows
row_found {A} {B} code made none cs rows e c =
    table_get (λ (b : List ℕ). first_where (λ (x : A). same_bytes (code x) b) made none rows) none c cs
    (λ out. found_has (λ (v : B). v ≡ none) (λ (x : A). same_bytes (code x) c) (λ (x : A). ltb (place_in cs (code x)) (length cs)) made none rows e
    (λ x t n. let lt = ltb-true (place_in cs (code x)) (length cs) t in let is = ap (place_in cs) (are_same (code x) c n) in absurd (omega arith))
    refl)

-- Where the row that a test names stands, or that no row is named.
data Sought {A B : Type 0} (named : A → Bool) (made : A → B) (none : B) (d : A) (l : List A) : Type 0 where
  there : (i : ℕ) → i < length l → named (get_or l i d) ≡ true → first_where named made none l ≡ made (get_or l i d) → Sought named made none d l
  nowhere : ((i : ℕ) → i < length l → named (get_or l i d) ≡ true → ⊥) → first_where named made none l ≡ none → Sought named made none d l

module _ {A B : Type 0} (named : A → Bool) (made : A → B) (none : B) (d : A) where
  sought_next : (x : A) (l : List A) → named x ≡ false → Sought named made none d l → Sought named made none d (x ∷ l)
  unfolding first_where
  sought_next x l n (there i lt t e) = there (suc i) (omega arith) t (rw n e)
  sought_next x l n (nowhere h e) = nowhere all (rw n e)
    where
      all : (i : ℕ) → i < suc (length l) → named (get_or (x ∷ l) i d) ≡ true → ⊥
      all zero lt t = clash t n
      all (suc i) lt t = h i (omega arith) t

  sought : (l : List A) → Sought named made none d l
  unfolding first_where
  sought [] = nowhere (λ i lt t. omega arith) refl
  sought (x ∷ l) = go (named x) refl (sought l)
    where
      go : (b : Bool) → named x ≡ b → Sought named made none d l → Sought named made none d (x ∷ l)
      go true n s = there 0 (omega arith) n (rw n)
      go false n s = sought_next x l n s

-- What is made of each row.
pub map_says : {A B : Type 0} (f : A → B) (e : B) (d : A) (l : List A) (i : ℕ) → i < length l → get_or (map f l) i e ≡ f (get_or l i d)
map_says f e d [] i lt = absurd (omega arith)
map_says f e d (x ∷ l) zero lt = refl
map_says f e d (x ∷ l) (suc i) lt = map_says f e d l i (omega arith)

-- The order of series is that of their keys as ranks; the halves of a key are those of one series.
key_before : (a b : Series) → good_series a ≡ true → good_series b ≡ true → bytes_order (key a ∷ []) (key b ∷ []) ≡ Less → bytes_order (high_key a ∷ nature_key a.nature ∷ []) (high_key b ∷ nature_key b.nature ∷ []) ≡ Less
unfolding bytes_order series_order
key_before a b ga gb e = halves_order a b ga gb ∙ sym (then_same (order_of (key a) (key b))) ∙ e

same_key : (a b : Series) → good_series a ≡ true → good_series b ≡ true → eqb (key a) (key b) ≡ true → a ≡ b
unfolding series_order
same_key a b ga gb e = same_series_lem a b ga gb (sym (is_same_lem (eqb-true (key a) (key b) e)))

same_halves : (a b : Series) → high_key a ∷ nature_key a.nature ∷ [] ≡ high_key b ∷ nature_key b.nature ∷ [] → eqb (key a) (key b) ≡ true
unfolding key
same_halves a b e =
    eq-eqb (key a) (key b) (rw (ap (λ (l : List ℕ). get_or l 0 0) e, ap (λ (l : List ℕ). get_or l 1 0) e))

module _ (number line : ℕ) {rows : Rows} (o : Ordered rows) where
  pub clearing_found : (code : List ℕ) → clearing_on (laid_out number line rows) code ≡ clearing_in rows.futures code
  unfolding clearing_on laid_out clearing_in future_place
  clearing_found code = row_found (λ (r : FutureRow). r.code) (λ (r : FutureRow). found r.clearing) nothing future_codes rows.futures o.futures_listed code

  pub index_found : (code : List ℕ) → index_on (laid_out number line rows) code ≡ index_in rows.options code
  unfolding index_on laid_out index_in option_place
  index_found code = row_found (λ (r : OptionRow). r.code) (λ (r : OptionRow). r.line) no_index option_codes rows.options o.options_listed code

  -- a code of two capitals, and any other, of which no row is
  stock_two : (code : List ℕ) → two_capitals code ≡ true → stock_on (laid_out number line rows) code ≡ stock_in rows.stocks code
  unfolding stock_on laid_out
  stock_two code two = tabled_says no_stock (stock_at rows.stocks) 676 (stock_place code) (place_below code two) ∙ stock_at_place rows.stocks code o.stocks_two two

  stock_other : (code : List ℕ) → two_capitals code ≡ false → stock_on (laid_out number line rows) code ≡ stock_in rows.stocks code
  unfolding stock_on laid_out stock_place stock_in
  stock_other code e =
      rw e
      (tabled_out no_stock (stock_at rows.stocks) 676
      ∙ sym (found_has (λ (v : StockLine). v ≡ no_stock) (λ (r : StockRow). same_bytes r.code code) _ (λ (r : StockRow). r.line) no_stock rows.stocks o.stocks_two
      (λ r t n. absurd (clash (subst (λ (c : List ℕ). two_capitals c ≡ true) (are_same r.code code n) t) e))
      refl))

  pub stock_found : (code : List ℕ) → stock_on (laid_out number line rows) code ≡ stock_in rows.stocks code
  stock_found code = by_test (λ (b : Bool). stock_on (laid_out number line rows) code ≡ stock_in rows.stocks code) (two_capitals code) (stock_two code) (stock_other code)

  -- the Q row at i
  nth_price : ℕ → PriceRow
  nth_price i = get_or rows.prices i no_price

  good_at : (i : ℕ) → i < length rows.prices → good_series (nth_price i).series ≡ true
  unfolding nth_price
  good_at i lt = every_at (λ (r : PriceRow). good_series r.series) rows.prices i _ o.prices_good lt

  prices_rise : (i j : ℕ) → i < j → j < length rows.prices → bytes_order (high_key (nth_price i).series ∷ nature_key (nth_price i).series.nature ∷ []) (high_key (nth_price j).series ∷ nature_key (nth_price j).series.nature ∷ []) ≡ Less
  unfolding nth_price
  prices_rise i j lt le =
      key_before (nth_price i).series (nth_price j).series (good_at i (omega arith)) (good_at j le) (before_at (λ (r : PriceRow). key r.series ∷ []) rows.prices i j _ o.prices_order lt le)

  -- whether a Q row is of a series, and the price that it says
  abbrev is_of : Series → PriceRow → Bool
  is_of s r = eqb (key r.series) (key s)

  abbrev price_said : PriceRow → Option ℕ
  price_said r = found r.price

  pub price_found : (s : Series) → good_series s ≡ true → price_on (laid_out number line rows) s ≡ price_in rows.prices s
  unfolding price_on laid_out price_in full nth_price
  price_found s g =
      rw (take-append_seam rows.prices (replicate (1024 - length rows.prices) no_price)) (go (sought (is_of s) price_said nothing no_price rows.prices))
    where
      go : Sought (is_of s) price_said nothing no_price rows.prices → price_among rows.prices (high_key s ∷ nature_key s.nature ∷ []) ≡ first_where (is_of s) price_said nothing rows.prices
      go (there i lt t e) = among_there rows.prices _ prices_rise i lt (ap (λ (u : Series). high_key u ∷ nature_key u.nature ∷ []) (same_key (nth_price i).series s (good_at i lt) g t)) ∙ sym e
      go (nowhere h e) = among_nowhere rows.prices _ prices_rise (λ i lt q. h i lt (same_halves (nth_price i).series s q)) ∙ sym e
