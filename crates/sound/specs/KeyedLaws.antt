-- Laws of the walk over the rows of a book: each row is good and in order, and the keys of the rows, half by half, rise.
use Rattle.std.specs.Prelude.{◌≡◌, refl, Bool, true, false, not, List, [], ◌∷◌, ℕ, zero, suc, ◌+◌, ◌-◌, ◌<◌, ◌≤◌, eqb, ltb, get_or, take, set, replicate, Option, None, Some}
use Rattle.std.proofs.Common.{ap, ◌∙◌, subst, arith, eqb-true, ne_eqb, ltb-true, length-set, get_or-set_same, get_or-set_other}
use Rattle.std.proofs.Math.Path.{sym}
use Rattle.std.proofs.Math.Decide.{dec_lt}
use Rattle.std.proofs.Math.ListN.{length, length-take}
use Rattle.std.proofs.Math.Seq.{get_or-take}
use Rattle.std.specs.declared.cmp.Ordering.TheVariants.{Less}
use Rattle.laws.specs.Truth.{both, either, within}
use Rattle.laws.specs.TruthLaws.{both_true, both_hold, clash, passed}
use Rattle.laws.specs.Bytes.{same_bytes}
use Rattle.laws.specs.ByteLaws.{are_same}
use Rattle.laws.specs.Search.{every_line}
use Rattle.laws.specs.SearchLaws.{every_at}
use Rattle.laws.specs.Order.{is_less, bytes_order}
use Rattle.lists.specs.Sorted.{ascending}
use Rattle.lists.specs.SortedLaws.{before_at}
use Rattle.dates.specs.Calendar.{is_day}
use Rattle.codes.specs.declared.Class.{Class}
use Rattle.codes.specs.Codes.{product_of, known, is_option_class}
use Rattle.series.specs.declared.Series.{Series}
use Rattle.series.specs.declared.Nature.{Nature}
use Rattle.series.specs.declared.Nature.TheVariants.{Future, Call, Put}
use Rattle.series.specs.declared.Halves.{Halves}
use Rattle.series.specs.Natures.{is_future, strike_of}
use Rattle.series.specs.Checks.{suits, strike_fits, class_of, good_series}
use Rattle.series.specs.CheckLaws.{series_parts, series_whole}
use Rattle.series.specs.Key.{high_key, nature_key, halves_of}
use Rattle.series.specs.KeyLaws.{halves_order}
use Rattle.rows.specs.declared.Holding.{Holding}
use Rattle.rows.specs.Rows.{series_rank, holding_rank}
use Rattle.rows.specs.RowLaws.{rank_order}
use Rattle.rules.specs.Rules.{good_lots, good_holding}
use Rattle.halving.specs.Halving.{key_at, Rising}
use Rattle.sound.specs.Checked.{column, high_of, low_of}
use Rattle.sound.specs.Walk.{no_row, halves, alike, keys_as, Keyed, KeysAre}
use Rattle.sound.specs.ColumnLaws.{column_none, column_long, column_at, column_next}
use Rattle.sound.specs.StepLaws.{sound_from, after_last, sound_start, sound_end, bad_row, turned_row, next_row}

-- A series like a good one, of its code and date, is good.
option_suits : (c : Class) (m n : Nature) → not (is_future m) ≡ true → not (is_future n) ≡ true → suits c m ≡ true → within 1 100000000 (strike_of n) ≡ true → suits c n ≡ true
option_suits c Future n f g s e = absurd (clash f refl)
option_suits c (Call k) n f g s e = go n g e
  where
    go : (n : Nature) → not (is_future n) ≡ true → within 1 100000000 (strike_of n) ≡ true → suits c n ≡ true
    go Future g e = absurd (clash g refl)
    go (Call l) g e = both_hold (both_true (is_option_class c) (strike_fits k) s).0 e
    go (Put l) g e = both_hold (both_true (is_option_class c) (strike_fits k) s).0 e
option_suits c (Put k) n f g s e = go n g e
  where
    go : (n : Nature) → not (is_future n) ≡ true → within 1 100000000 (strike_of n) ≡ true → suits c n ≡ true
    go Future g e = absurd (clash g refl)
    go (Call l) g e = both_hold (both_true (is_option_class c) (strike_fits k) s).0 e
    go (Put l) g e = both_hold (both_true (is_option_class c) (strike_fits k) s).0 e

alike_good : (a b : Series) → alike a b ≡ true → good_series a ≡ true → good_series b ≡ true
unfolding alike class_of
alike_good a b e g =
    let h = both_true (both (same_bytes a.code b.code) (eqb a.date b.date)) _ e in
    let one = both_true (same_bytes a.code b.code) _ h.0 in
    let k = both_true (both (not (is_future a.nature)) (not (is_future b.nature))) _ h.1 in
    let options = both_true (not (is_future a.nature)) _ k.0 in
    let parts = series_parts a g in
    let code = are_same a.code b.code one.0 in
    let date = eqb-true a.date b.date one.1 in
    let class : (product_of b.code).class ≡ (product_of a.code).class = ap (λ (c : List ℕ). (product_of c).class) (sym code) in
    series_whole b
    (ap known class ∙ parts.0)
    (subst (λ (d : ℕ). is_day d ≡ true) date parts.1)
    (ap (λ (c : Class). suits c b.nature) class ∙ option_suits (product_of a.code).class a.nature b.nature options.0 options.1 parts.2 k.1)

-- So a row like the good row before it is good where its lots are.
pub alike_row : {x r : Bool} (i : ℕ) (a : Series) (h : Holding) → (0 < i → good_series a ≡ true) → x ≡ both (ltb 0 i) (alike a h.series) → x ≡ true → r ≡ good_lots h → r ≡ good_holding h
unfolding good_lots good_holding
alike_row i a h good is e lots =
    let t = both_true (ltb 0 i) _ (sym is ∙ e) in
    lots ∙ rw (alike_good a h.series t.1 (good (ltb-true 0 i t.0)))

-- The columns of their keys are the keys of rows.
pub keyed_columns : (d : Holding) (rows : List Holding) (n : ℕ) {highs lows : List ℕ} → n ≤ length rows → n ≤ 128 → highs ≡ column high_of (take n rows) → lows ≡ column low_of (take n rows) → Keyed d rows n highs lows
keyed_columns d rows n room few h l =
    let size : length (take n rows) ≤ 128 = simp length-take (omega arith) in
    record {
      highs_long = rw (h, column_long high_of (take n rows) size) few;
      lows_long = rw (l, column_long low_of (take n rows) size) few;
      highs_are = λ i lt. rw h (column_at high_of d rows n i lt room);
      lows_are = λ i lt. rw l (column_at low_of d rows n i lt room);
    }

-- The keys of no row.
pub keyed_starts : (d : Holding) (rows : List Holding) (highs lows : List ℕ) → Keyed d rows 0 highs lows
keyed_starts d rows highs lows = record { highs_long = omega arith; lows_long = omega arith; highs_are = λ i lt. absurd (omega arith); lows_are = λ i lt. absurd (omega arith) }

-- Setting the entry i makes a list that says f below i say it below i + 1.
set_says : (f : ℕ → ℕ) (l : List ℕ) (i x : ℕ) → i < length l → x ≡ f i → ((j : ℕ) → j < i → get_or l j 0 ≡ f j) → (j : ℕ) → j < i + 1 → Dec (j < i) → get_or (set l i x) j 0 ≡ f j
set_says f l i x inside e h j lt (yes q) = get_or-set_other l i j x 0 (λ (z : j ≡ i). omega arith) ∙ h j q
set_says f l i x inside e h j lt (no q) = let is : j ≡ i = omega arith in rw (is, get_or-set_same l i x 0 inside) e

-- The keys of one row more.
pub keyed_next : {d : Holding} {rows : List Holding} {i : ℕ} {highs lows : List ℕ} {k : Halves} → Keyed d rows i highs lows → i < length highs → i < length lows → k ≡ halves_of (get_or rows i d).series → Keyed d rows (i + 1) (set highs i k.high) (set lows i k.low)
keyed_next {d} {rows} {i} {highs} {lows} {k} keyed h l e =
    record {
      highs_long = simp length-set (omega arith);
      lows_long = simp length-set (omega arith);
      highs_are = λ j lt. set_says (λ (j : ℕ). high_key (get_or rows j d).series) highs i k.high h (ap (λ (z : Halves). z.high) e) keyed.highs_are j lt (dec_lt j i);
      lows_are = λ j lt. set_says (λ (j : ℕ). nature_key (get_or rows j d).series.nature) lows i k.low l (ap (λ (z : Halves). z.low) e) keyed.lows_are j lt (dec_lt j i);
    }

good_is : (h : Holding) → good_holding h ≡ true → good_series h.series ≡ true
unfolding good_holding
good_is h e = (both_true (good_series h.series) _ e).0

-- The walk has come to the row i; w is what it will tell.
pub record Testing (rows : List Holding) (held : ℕ) (w : Bool) (i : ℕ) (highs lows : List ℕ) : Type 0 where
  pub goes : w ≡ sound_from good_holding holding_rank rows held no_row i
  pub few : held ≤ 128
  pub upto : i ≤ held
  pub highs_are : highs ≡ column high_of (take i rows)
  pub lows_are : lows ≡ column low_of (take i rows)
  pub highs_room : length highs ≡ 128
  pub lows_room : length lows ≡ 128
  pub goods : (k : ℕ) → k < i → good_series (get_or rows k no_row).series ≡ true

-- what is told of the rows
abbrev pub rows_test : List Holding → ℕ → Bool
rows_test rows held = both (every_line good_holding (take held rows)) (ascending holding_rank (take held rows))

pub testing_starts : (rows : List Holding) (held : ℕ) → held ≤ 128 → Testing rows held (rows_test rows held) 0 (replicate 128 0) (replicate 128 0)
testing_starts rows held few =
    record {
      goes = sound_start good_holding holding_rank rows held no_row;
      few = few;
      upto = omega arith;
      highs_are = column_none high_of rows;
      lows_are = column_none low_of rows;
      highs_room = refl;
      lows_room = refl;
      goods = λ k lt. absurd (omega arith);
    }

-- Rows that break a rule have no keys.
pub no_keys : {rows : List Holding} {held : ℕ} {highs lows : List ℕ} → KeysAre rows held (record { sound = false; highs = highs; lows = lows }) → KeysAre rows held (keys_as None)
no_keys k = record { tested = k.tested; highs_are = λ f. absurd (clash f refl); lows_are = λ f. absurd (clash f refl) }

-- An answer that is not there says that the rows are not sound.
pub keys_gone : (o : Option (List ℕ × List ℕ)) → ((k : List ℕ × List ℕ) → o ≡ Some k → ⊥) → not (keys_as o).sound ≡ true
keys_gone (Some k) n = absurd (n k refl)
keys_gone None n = refl

module _ {rows : List Holding} {held i : ℕ} {highs lows : List ℕ} (t : Testing rows held (rows_test rows held) i highs lows) where
  pub last_good : {b : ℕ} → b ≡ i - 1 → 0 < i → good_series (get_or rows b no_row).series ≡ true
  last_good e lt = t.goods _ (omega arith)

  unsound_keys : sound_from good_holding holding_rank rows held no_row i ≡ false → KeysAre rows held (record { sound = false; highs = highs; lows = lows })
  unsound_keys e = record { tested = sym (t.goes ∙ e); highs_are = λ f. absurd (clash f refl); lows_are = λ f. absurd (clash f refl) }

  pub testing_ends : held ≤ length rows → held ≤ i → KeysAre rows held (record { sound = true; highs = highs; lows = lows })
  testing_ends le h =
      let upto = t.upto in
      let all : i ≡ held = omega arith in
      record {
        tested = sym (t.goes ∙ sound_end good_holding holding_rank rows held no_row i le h);
        highs_are = λ f. rw all at t.highs_are;
        lows_are = λ f. rw all at t.lows_are;
      }

  module _ (lt : i < held) (le : held ≤ length rows) {x : Bool} (is : x ≡ good_holding (get_or rows i no_row)) where
    pub testing_bad : not x ≡ true → KeysAre rows held (record { sound = false; highs = highs; lows = lows })
    testing_bad fails = unsound_keys (bad_row good_holding holding_rank rows held no_row i lt le is fails)

    module _ (ok : not x ≡ false) {b : ℕ} {k : Halves} {y : Bool} (last : b ≡ i - 1) (key : k ≡ halves_of (get_or rows i no_row).series) (after : y ≡ either (eqb i 0) (is_less (bytes_order (key_at highs lows b) (k.high ∷ k.low ∷ [])))) where
      good_here : good_series (get_or rows i no_row).series ≡ true
      good_here = good_is (get_or rows i no_row) (passed is ok)

      keyed_here : Keyed no_row rows i highs lows
      keyed_here = let few = t.few in keyed_columns no_row rows i (omega arith) (omega arith) t.highs_are t.lows_are

      -- The order of the keys is that of the rows.
      keys_order : (j : ℕ) → j < i → bytes_order (key_at highs lows j) (halves (get_or rows i no_row).series) ≡ bytes_order (holding_rank (get_or rows j no_row)) (holding_rank (get_or rows i no_row))
      unfolding holding_rank
      keys_order j q =
          rw (keyed_here.highs_are j q, keyed_here.lows_are j q) (halves_order (get_or rows j no_row).series (get_or rows i no_row).series (t.goods j q) good_here ∙ sym (rank_order (get_or rows j no_row).series (get_or rows i no_row).series))

      row_after : y ≡ after_last good_holding holding_rank rows held no_row i
      row_after = after ∙ rw (key, last) (go i refl)
        where
          go : (m : ℕ) → m ≡ i → either (eqb m 0) (is_less (bytes_order (key_at highs lows (m - 1)) (halves (get_or rows i no_row).series))) ≡ either (eqb m 0) (is_less (bytes_order (holding_rank (get_or rows (m - 1) no_row)) (holding_rank (get_or rows i no_row))))
          go zero e = refl
          go (suc m) e = rw (ne_eqb (suc m) 0 (λ (z : suc m ≡ 0). omega arith)) (ap is_less (keys_order (suc m - 1) (omega arith)))

      pub testing_turned : not y ≡ true → KeysAre rows held (record { sound = false; highs = highs; lows = lows })
      testing_turned fails = unsound_keys (turned_row good_holding holding_rank rows held no_row i lt le is ok row_after fails)

      good_next : (j : ℕ) → j < i + 1 → Dec (j < i) → good_series (get_or rows j no_row).series ≡ true
      good_next j q (yes z) = t.goods j z
      good_next j q (no z) = let e : j ≡ i = omega arith in rw e good_here

      pub testing_next : not y ≡ false → Testing rows held (rows_test rows held) (i + 1) (set highs i k.high) (set lows i k.low)
      testing_next holds =
          let few = t.few in
          record {
            goes = t.goes ∙ next_row good_holding holding_rank rows held no_row i lt le is ok row_after holds;
            few = few;
            upto = omega arith;
            highs_are = column_next high_of no_row rows i t.highs_are (omega arith) (omega arith) (ap (λ (z : Halves). z.high) key);
            lows_are = column_next low_of no_row rows i t.lows_are (omega arith) (omega arith) (ap (λ (z : Halves). z.low) key);
            highs_room = simp length-set t.highs_room;
            lows_room = simp length-set t.lows_room;
            goods = λ j q. good_next j q (dec_lt j i);
          }

-- Rows in order of good series have keys in order, and the order of keys is that of ranks.
module _ {d : Holding} {rows : List Holding} {n : ℕ} {highs lows : List ℕ} (keyed : Keyed d rows n highs lows) (good : every_line good_holding (take n rows) ≡ true) (room : n ≤ length rows) where
  pub good_at : (i : ℕ) → i < n → good_series (get_or rows i d).series ≡ true
  good_at i lt =
      let inside : i < length (take n rows) = simp length-take (omega arith) in
      good_is (get_or rows i d) (subst (λ (h : Holding). good_holding h ≡ true) (get_or-take n rows i d lt) (every_at good_holding (take n rows) i d good inside))

  key_order : (s : Series) (i : ℕ) → good_series s ≡ true → i < n → bytes_order (key_at highs lows i) (halves s) ≡ bytes_order (holding_rank (get_or rows i d)) (series_rank s)
  unfolding holding_rank
  key_order s i g lt =
      rw (keyed.highs_are i lt, keyed.lows_are i lt) (halves_order (get_or rows i d).series s (good_at i lt) g ∙ sym (rank_order (get_or rows i d).series s))

  rises : ascending holding_rank (take n rows) ≡ true → (i j : ℕ) → i < j → j < n → bytes_order (key_at highs lows i) (key_at highs lows j) ≡ Less
  unfolding holding_rank
  rises a i j lt le =
      let inside : j < length (take n rows) = simp length-take (omega arith) in
      let before = before_at holding_rank (take n rows) i j d a lt inside in
      let e : bytes_order (holding_rank (get_or rows i d)) (holding_rank (get_or rows j d)) ≡ Less = rw (get_or-take n rows i d (omega arith), get_or-take n rows j d le) at before in
      let k = key_order (get_or rows j d).series i (good_at j le) (omega arith) in
      rw (keyed.highs_are j le, keyed.lows_are j le) (k ∙ e)

  pub rising_keys : ascending holding_rank (take n rows) ≡ true → Rising highs lows n
  rising_keys a = record { highs_long = keyed.highs_long; lows_long = keyed.lows_long; rising = rises a }
