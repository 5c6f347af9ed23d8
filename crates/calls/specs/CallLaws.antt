-- Laws of every call: accepted exactly when no check fails; the book that comes back is sound where the one handed in was; and what
-- make and turn do (open and close: OpenLaws; pair and split: TieLaws).
use Rattle.std.specs.Prelude.{◌≡◌, Bool, true, false, ℕ}
use Rattle.std.proofs.Math.Path.{refl, ap}
use Rattle.std.proofs.Common.{◌∙◌, arith, leb-true}
use mathlib.Core.List.{List, []}
use Rattle.laws.specs.Truth.{pick, both}
use Rattle.laws.specs.TruthLaws.{both_true, by_test}
use Rattle.laws.specs.Search.{every_line, first_where}
use Rattle.laws.specs.Checks.{Check, all_pass, numbered}
use Rattle.laws.specs.CheckLaws.{no_failure, none_fails}
use Rattle.lists.specs.Sorted.{sum_of, ascending, look}
use Rattle.dates.specs.Calendar.{is_day, days_in, leap_year, short_month}
use Rattle.series.specs.declared.Series.{Series}
use Rattle.series.specs.declared.Side.{Side}
use Rattle.rows.specs.declared.Holding.{Holding}
use Rattle.rows.specs.declared.Pair.{Pair}
use Rattle.rows.specs.declared.Book.{Book}
use Rattle.rows.specs.Rows.{holding_rank, pair_rank, empty_holding, empty_pair}
use Rattle.rows.specs.Book.{holdings_of, pairs_of, holding_in, pair_in, with_day, book_of, empty_book, no_book}
use Rattle.rows.specs.BookLaws.{its_holdings, its_pairs, day_holdings, day_pairs}
use Rattle.rules.specs.Lots.{tied, total, free, units_of}
use Rattle.rules.specs.LotLaws.{new_lots}
use Rattle.rules.specs.Rules.{account_fits, is_identity, good_holding, good_pair}
use Rattle.rules.specs.Facts.{Sound}
use Rattle.rules.specs.RuleLaws.{sound_full}
use Rattle.calls.specs.Calls.{answered, make_checks, make_answer, open_checks, opened, open_answer, split_checks, parted, split_answer, turn_checks, turn_answer}
use Rattle.calls.specs.Facts.{Turns}
use Rattle.calls.specs.PassLaws.{one_passes, open_passes, split_passes, turn_passes}
use Rattle.calls.specs.OpenLaws.{open_sound}
use Rattle.calls.specs.TieLaws.{split_sound}

-- Every call: its number is 0 exactly when no check fails; then the book is the new one, else the one handed in.
module _ (cs : List Check) (b new : Book) where
  pub accepts : numbered cs ≡ true → (answered cs b new).number ≡ 0 → all_pass cs ≡ true
  unfolding answered
  accepts n e = no_failure cs n e

  pub accepts_back : all_pass cs ≡ true → ((answered cs b new).number ≡ 0) × ((answered cs b new).book ≡ new)
  unfolding answered
  accepts_back e = (none_fails cs e, rw e)

  pub refuses : all_pass cs ≡ false → (answered cs b new).book ≡ b
  unfolding answered
  refuses e = rw e

  -- What holds of the book handed in, and of the new one where no check fails, holds of the one that comes back.
  pub outcome_has : (P : Book → Type 0) → P b → (all_pass cs ≡ true → P new) → P (answered cs b new).book
  unfolding answered
  outcome_has P old h =
      by_test (λ (t : Bool). all_pass cs ≡ t → P (pick t new b)) (all_pass cs)
      (λ q e. h e)
      (λ q e. old)
      refl

-- Make: the empty book, which is sound.
pub make_sound : (account identity day : ℕ) → all_pass (make_checks account identity day) ≡ true → Sound (empty_book account identity day)
unfolding make_checks all_pass empty_book book_of every_line ascending tied sum_of
make_sound account identity day e =
    let h = both_true (both (account_fits account) (is_identity identity)) _ e in
    let k = both_true (account_fits account) (is_identity identity) h.0 in
    record {
      account_fits_lem = leb-true account 9999999 k.0;
      identity_is = k.1;
      day_is = one_passes (is_day day) h.1;
      holdings_sound_lem = sound_full empty_holding good_holding holding_rank [] (omega arith) refl refl;
      pairs_sound_lem = sound_full empty_pair good_pair pair_rank [] (omega arith) refl refl;
      never_negative = λ s d. let z = ap (λ (l : List Pair). tied l s d) (its_pairs account identity day [] []) in omega arith;
    }

module _ (account identity day : ℕ) (t : Series) (e : Side) where
  pub make_total : total (holdings_of (empty_book account identity day)) t e ≡ 0
  unfolding empty_book total holding_in look first_where
  make_total = ap (λ (l : List Holding). total l t e) (its_holdings account identity day [] []) ∙ new_lots e t

  pub make_tied : tied (pairs_of (empty_book account identity day)) t e ≡ 0
  unfolding empty_book tied sum_of
  make_tied = ap (λ (l : List Pair). tied l t e) (its_pairs account identity day [] [])

pub make_units : (account identity day : ℕ) (p : Pair) → units_of (pairs_of (empty_book account identity day)) p ≡ 0
unfolding empty_book units_of pair_in look first_where
make_units account identity day p = ap (λ (l : List Pair). units_of l p) (its_pairs account identity day [] [])

-- Turn: the day alone.
pub turn_sound : {b : Book} {day : ℕ} → Turns b day → Sound (with_day b day)
unfolding with_day holdings_of pairs_of
turn_sound {b} {day} o =
    record {
      account_fits_lem = o.sound.account_fits_lem;
      identity_is = o.sound.identity_is;
      day_is = o.day_is;
      holdings_sound_lem = o.sound.holdings_sound_lem;
      pairs_sound_lem = o.sound.pairs_sound_lem;
      never_negative = o.sound.never_negative;
    }

module _ (b : Book) (day : ℕ) where
  pub turn_total : (t : Series) (e : Side) → total (holdings_of (with_day b day)) t e ≡ total (holdings_of b) t e
  turn_total t e = ap (λ (l : List Holding). total l t e) (day_holdings b day)

  pub turn_tied : (t : Series) (e : Side) → tied (pairs_of (with_day b day)) t e ≡ tied (pairs_of b) t e
  turn_tied t e = ap (λ (l : List Pair). tied l t e) (day_pairs b day)

  pub turn_units : (q : Pair) → units_of (pairs_of (with_day b day)) q ≡ units_of (pairs_of b) q
  turn_units q = ap (λ (l : List Pair). units_of l q) (day_pairs b day)

  pub turn_free : (t : Series) (e : Side) → free (with_day b day) t e ≡ free b t e
  unfolding free
  turn_free t e = rw (turn_total t e, turn_tied t e)

-- So every call, accepted or refused, gives a sound book for a sound one; and make always gives one.
pub no_book_sound : Sound no_book
unfolding no_book make_checks all_pass is_day days_in leap_year short_month
no_book_sound = make_sound 0 48 20000101 refl

pub make_keeps : (account identity day : ℕ) → Sound (make_answer account identity day).book
unfolding make_answer
make_keeps account identity day = outcome_has (make_checks account identity day) no_book (empty_book account identity day) Sound no_book_sound (make_sound account identity day)

pub open_keeps : (b : Book) (s : Series) (d : Side) (n : ℕ) → Sound b → Sound (open_answer b s d n).book
unfolding open_answer
open_keeps b s d n h = outcome_has (open_checks b s d n) b (opened b s d n) Sound h (λ e. open_sound (open_passes b s d n e))

pub split_keeps : (b : Book) (p : Pair) → Sound b → Sound (split_answer b p).book
unfolding split_answer
split_keeps b p h = outcome_has (split_checks b p) b (parted b p) Sound h (λ e. split_sound (split_passes b p e))

pub turn_keeps : (b : Book) (day : ℕ) → Sound b → Sound (turn_answer b day).book
unfolding turn_answer
turn_keeps b day h = outcome_has (turn_checks b day) b (with_day b day) Sound h (λ e. turn_sound (turn_passes b day e))
