-- Laws of the rules of a book: the test of soundness and the facts that it stands for are one.
use Rattle.std.specs.Prelude.{◌≡◌, Bool, eqb, leb, Result, Ok, Err, is_ok}
use Rattle.std.proofs.Math.Path.{refl, ap, sym}
use Rattle.std.proofs.Common.{◌∙◌, ⊎_elim, arith, take-append-drop}
use Rattle.std.proofs.Math.Bool.{true}
use mathlib.Core.List.{List, ◌++◌}
use Prim.Native.Nat.{ℕ, zero, suc, ◌-◌, ◌*◌, ◌≤◌}
use Rattle.std.proofs.Math.ListN.{length, take, drop, replicate, length-take, length-drop}
use borrow.Author.Tests.{eq-eqb, ne_eqb, eqb-true, le-leb, leb-true, not-true}
use Rattle.laws.specs.Truth.{within}
use Rattle.laws.specs.TruthLaws.{both_true, both_hold, either_true, within_true, is_within}
use Rattle.laws.specs.Text.{byte}
use Rattle.laws.specs.Search.{every_line}
use Rattle.laws.specs.Checks.{all_pass}
use Rattle.laws.specs.declared.Refusal.{Refusal}
use Rattle.laws.specs.Refusals.{number_in}
use Rattle.laws.specs.RefusalLaws.{refusal_positive}
use Rattle.lists.specs.Places.{full}
use Rattle.lists.specs.PlaceLaws.{length_full, take_full, drop_full}
use Rattle.lists.specs.Sorted.{ascending}
use Rattle.dates.specs.Calendar.{is_day}
use Rattle.series.specs.declared.Series.{Series}
use Rattle.series.specs.Checks.{series_number, good_series}
use Rattle.series.specs.CheckLaws.{good_by_number}
use Rattle.rows.specs.declared.Holding.{Holding}
use Rattle.rows.specs.declared.Pair.{Pair}
use Rattle.rows.specs.declared.Book.{Book}
use Rattle.rows.specs.Rows.{holding_rank, pair_rank, empty_holding, empty_pair, is_empty_holding, is_empty_pair}
use Rattle.rows.specs.RowLaws.{empty_holding_lem, empty_pair_lem, empty_holding_is, empty_pair_is, all_empty}
use Rattle.rows.specs.Book.{holdings_of, pairs_of, book_of}
use Rattle.rules.specs.Lots.{covered}
use Rattle.rules.specs.LotLaws.{covered_all, all_covered}
use Rattle.rules.specs.Rules.{account_fits, is_identity, ratio_fits, lots_fit, counts_fit, good_lots, good_holding, good_pair, rows_sound, holdings_sound, pairs_sound, book_rules, sound_book}
use Rattle.rules.specs.Facts.{SoundRows, GoodHolding, Counts, GoodPair, Sound}

-- A series is good exactly where its check answers Ok.
pub good_by_check : (s : Series) (r : Result Unit Refusal) → number_in r ≡ series_number s → is_ok r ≡ good_series s
good_by_check s (Ok a) e = ap (λ (n : ℕ). eqb n 0) e ∙ good_by_number s
good_by_check s (Err r) e =
    let h = refusal_positive r in
    sym (ne_eqb (series_number s) 0 (λ z. omega arith)) ∙ good_by_number s

module _ {A : Type 0} (is_empty good : A → Bool) (empty : A) (rank : A → List ℕ) where
  pub rows_are : ((x : A) → is_empty x ≡ true → x ≡ empty) → (live : ℕ) (rows : List A) → rows_sound is_empty good rank live rows ≡ true → SoundRows empty good rank live rows
  unfolding rows_sound full
  rows_are is live rows e =
      let h = both_true (leb live 128) _ e in
      let k = both_true (eqb (length rows) 128) _ h.1 in
      let b = both_true (every_line is_empty (drop live rows)) _ k.1 in
      let g = both_true (every_line good (take live rows)) _ b.1 in
      let few = leb-true live 128 h.0 in
      let long = eqb-true (length rows) 128 k.0 in
      let counted : length (take live rows) ≡ live = simp length-take (omega arith) in
      let behind : length (drop live rows) ≡ 128 - length (take live rows) = simp length-drop (omega arith) in
      record {
        few = few;
        counted = counted;
        filled = sym (take-append-drop live rows) ∙ ap (λ (l : List A). take live rows ++ l) (all_empty is_empty empty is (drop live rows) b.0 ∙ ap (λ (n : ℕ). replicate n empty) behind);
        all_good = g.0;
        in_order_lem = g.1;
      }

  every_empty : is_empty empty ≡ true → (n : ℕ) → every_line is_empty (replicate n empty) ≡ true
  unfolding every_line
  every_empty e zero = refl
  every_empty e (suc n) = both_hold e (every_empty e n)

  pub rows_back : is_empty empty ≡ true → (live : ℕ) (rows : List A) → SoundRows empty good rank live rows → rows_sound is_empty good rank live rows ≡ true
  unfolding rows_sound
  rows_back e live rows r =
      let few = r.few in
      let counted = r.counted in
      let long : length rows ≡ 128 = ap length r.filled ∙ length_full 128 empty (take live rows) (omega arith) in
      let behind : drop live rows ≡ replicate (128 - length (take live rows)) empty
      = ap (drop live) r.filled ∙ ap (λ (n : ℕ). drop n (full 128 empty (take live rows))) (sym counted) ∙ drop_full 128 empty (take live rows) in
      let empties : every_line is_empty (drop live rows) ≡ true = rw behind (every_empty e (128 - length (take live rows))) in
      both_hold (le-leb live 128 few) (both_hold (eq-eqb (length rows) 128 long) (both_hold empties (both_hold r.all_good r.in_order_lem)))

-- A list of good rows in order is sound in its array.
pub sound_full : {A : Type 0} (empty : A) (good : A → Bool) (rank : A → List ℕ) (l : List A) → length l ≤ 128 → every_line good l ≡ true → ascending rank l ≡ true → SoundRows empty good rank (length l) (full 128 empty l)
sound_full empty good rank l few g a =
    let e = take_full 128 empty l in
    record {
      few = few;
      counted = ap length e;
      filled = ap (full 128 empty) (sym e);
      all_good = rw e g;
      in_order_lem = rw e a;
    }

pub holding_is : (h : Holding) → good_holding h ≡ true → GoodHolding h
unfolding good_holding good_lots
holding_is h e =
    let s = both_true (good_series h.series) _ e in
    let l = both_true (leb h.long 100000) _ s.1 in
    let t = both_true (leb h.short 100000) _ l.1 in
    record { series_good = s.0; long_fits = leb-true h.long 100000 l.0; short_fits = leb-true h.short 100000 t.0; some = not-true _ t.1 }

pub holding_back : (h : Holding) → GoodHolding h → good_holding h ≡ true
unfolding good_holding good_lots
holding_back h g = rw (g.series_good, le-leb h.long 100000 g.long_fits, le-leb h.short 100000 g.short_fits, g.some)

pub counts_are : (r1 r2 units : ℕ) → counts_fit r1 r2 units ≡ true → Counts r1 r2 units
unfolding counts_fit
counts_are r1 r2 units e =
    let a = both_true (ratio_fits r1) _ e in
    let b = both_true (ratio_fits r2) _ a.1 in
    let c = both_true (lots_fit units) _ b.1 in
    let d = both_true (lots_fit (r1 * units)) _ c.1 in
    let p = within_true 1 100 r1 a.0 in
    let q = within_true 1 100 r2 b.0 in
    let u = within_true 1 100000 units c.0 in
    let x = within_true 1 100000 (r1 * units) d.0 in
    let y = within_true 1 100000 (r2 * units) d.1 in
    record { some1 = p.0; few1 = p.1; some2 = q.0; few2 = q.1; some_units = u.0; few_units = u.1; some_lots1 = x.0; few_lots1 = x.1; some_lots2 = y.0; few_lots2 = y.1 }

pub counts_back : (r1 r2 units : ℕ) → Counts r1 r2 units → counts_fit r1 r2 units ≡ true
unfolding counts_fit
counts_back r1 r2 units c =
    both_hold (is_within c.some1 c.few1)
    (both_hold (is_within c.some2 c.few2)
    (both_hold (is_within c.some_units c.few_units)
    (both_hold (is_within c.some_lots1 c.few_lots1) (is_within c.some_lots2 c.few_lots2))))

pub pair_is : (p : Pair) → good_pair p ≡ true → GoodPair p
unfolding good_pair
pair_is p e =
    let a = both_true (good_series p.first) _ e in
    let b = both_true (good_series p.second) _ a.1 in
    let c = both_true (counts_fit p.r1 p.r2 p.units) _ b.1 in
    record { first_good = a.0; second_good = b.0; counts = c.0; standing = c.1 }

pub pair_back : (p : Pair) → GoodPair p → good_pair p ≡ true
unfolding good_pair
pair_back p g = both_hold g.first_good (both_hold g.second_good (both_hold g.counts g.standing))

pub holdings_are : (held : ℕ) (rows : List Holding) → holdings_sound held rows ≡ true → SoundRows empty_holding good_holding holding_rank held rows
unfolding holdings_sound
holdings_are = rows_are is_empty_holding good_holding empty_holding holding_rank empty_holding_lem

pub pairs_are : (paired : ℕ) (rows : List Pair) → pairs_sound paired rows ≡ true → SoundRows empty_pair good_pair pair_rank paired rows
unfolding pairs_sound
pairs_are = rows_are is_empty_pair good_pair empty_pair pair_rank empty_pair_lem

pub sound_is : (b : Book) → sound_book b ≡ true → Sound b
unfolding sound_book book_rules all_pass
sound_is b e =
    let r1 = both_true (account_fits b.account) _ e in
    let r2 = both_true (is_identity b.identity) _ r1.1 in
    let r3 = both_true (is_day b.day) _ r2.1 in
    let r4 = both_true (holdings_sound b.held b.holdings) _ r3.1 in
    let r5 = both_true (pairs_sound b.paired b.pairs) _ r4.1 in
    let r6 = both_true (covered (holdings_of b) (pairs_of b)) _ r5.1 in
    record {
      account_fits_lem = leb-true b.account 9999999 r1.0;
      identity_is = r2.0;
      day_is = r3.0;
      holdings_sound_lem = holdings_are b.held b.holdings r4.0;
      pairs_sound_lem = pairs_are b.paired b.pairs r5.0;
      never_negative = covered_all (holdings_of b) (pairs_of b) r6.0;
    }

pub sound_back : (b : Book) → Sound b → sound_book b ≡ true
unfolding sound_book book_rules all_pass holdings_sound pairs_sound
sound_back b s =
    both_hold (le-leb b.account 9999999 s.account_fits_lem)
    (both_hold s.identity_is
    (both_hold s.day_is
    (both_hold (rows_back is_empty_holding good_holding empty_holding holding_rank empty_holding_is b.held b.holdings s.holdings_sound_lem)
    (both_hold (rows_back is_empty_pair good_pair empty_pair pair_rank empty_pair_is b.paired b.pairs s.pairs_sound_lem)
    (both_hold (all_covered (holdings_of b) (pairs_of b) s.never_negative) refl)))))

-- What a sound book's lists are.
pub holdings_good : {b : Book} → Sound b → every_line good_holding (holdings_of b) ≡ true
unfolding holdings_of
holdings_good s = s.holdings_sound_lem.all_good

pub holdings_order : {b : Book} → Sound b → ascending holding_rank (holdings_of b) ≡ true
unfolding holdings_of
holdings_order s = s.holdings_sound_lem.in_order_lem

pub holdings_count : {b : Book} → Sound b → length (holdings_of b) ≡ b.held
unfolding holdings_of
holdings_count s = s.holdings_sound_lem.counted

pub pairs_good : {b : Book} → Sound b → every_line good_pair (pairs_of b) ≡ true
unfolding pairs_of
pairs_good s = s.pairs_sound_lem.all_good

pub pairs_order : {b : Book} → Sound b → ascending pair_rank (pairs_of b) ≡ true
unfolding pairs_of
pairs_order s = s.pairs_sound_lem.in_order_lem

pub pairs_count : {b : Book} → Sound b → length (pairs_of b) ≡ b.paired
unfolding pairs_of
pairs_count s = s.pairs_sound_lem.counted

-- A sound book is made of its lists alone.
pub book_is : (b : Book) → Sound b → b ≡ book_of b.account b.identity b.day (holdings_of b) (pairs_of b)
unfolding book_of holdings_of pairs_of
book_is b s =
    let hs = s.holdings_sound_lem.filled in
    let held = sym s.holdings_sound_lem.counted in
    let ps = s.pairs_sound_lem.filled in
    let paired = sym s.pairs_sound_lem.counted in
    λ i. record { account = b.account; identity = b.identity; day = b.day; holdings = hs i; held = held i; pairs = ps i; paired = paired i }

-- A client code is a byte from 0 to Z.
pub identity_between : (identity : ℕ) → is_identity identity ≡ true → (byte "0" ≤ identity) × (identity ≤ byte "Z")
identity_between identity e =
    ⊎_elim (λ d. let h = within_true (byte "0") (byte "9") identity d in (h.0, omega arith)) (λ c. let h = within_true (byte "A") (byte "Z") identity c in (omega arith, h.1))
    (either_true (within (byte "0") (byte "9") identity) (within (byte "A") (byte "Z") identity) e)
