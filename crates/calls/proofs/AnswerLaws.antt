-- What the answer of a call's check says of the call: a refusal is the call's, and where the check is passed the facts are there that the new book needs.
use Rattle.std.specs.Prelude.{◌≡◌, refl, Bool, true, false, not, ℕ, suc}
use Rattle.std.proofs.Common.{sym, arith}
use Rattle.laws.specs.Truth.{pick}
use Rattle.laws.specs.Checks.{first_failing, or_else}
use Rattle.laws.specs.declared.Refusal.{Refusal}
use Rattle.laws.specs.Refusals.{number_of}
use Rattle.series.specs.declared.Series.{Series}
use Rattle.series.specs.declared.Side.{Side}
use Rattle.rows.specs.declared.Pair.{Pair}
use Rattle.rows.specs.declared.Book.{Book}
use Rattle.rows.specs.Book.{empty_book, no_book, with_day}
use Rattle.calls.specs.Calls.{outcome, make_checks, make_answer, open_checks, opened, open_answer, close_checks, closed, close_answer, pairing_checks, joined, pair_answer, split_checks, parted, split_answer, turn_checks, turn_answer}
use Rattle.calls.specs.Facts.{Opens, Closes, Pairs, Splits}
use Rattle.calls.specs.PassLaws.{make_numbered, open_numbered, open_passes, close_numbered, close_passes, pair_numbered, split_numbered, split_passes, turn_numbered}
use Rattle.calls.specs.NumberLaws.{passes_all, refused_by, accepted_by}
use Rattle.calls.proofs.KeepLaws.{pair_passes}

module _ (account identity day : ℕ) where
  pub make_refused : (r : Refusal) → number_of r ≡ first_failing (make_checks account identity day) → outcome (number_of r) no_book ≡ make_answer account identity day
  unfolding make_answer
  make_refused r e = refused_by _ _ _ r e

  pub make_accepted : {new : Book} → 0 ≡ first_failing (make_checks account identity day) → new ≡ empty_book account identity day → outcome 0 new ≡ make_answer account identity day
  unfolding make_answer
  make_accepted e is = accepted_by _ _ _ (make_numbered account identity day) e is

module _ (b : Book) (s : Series) (d : Side) (n : ℕ) where
  pub open_refused : (r : Refusal) → number_of r ≡ first_failing (open_checks b s d n) → outcome (number_of r) b ≡ open_answer b s d n
  unfolding open_answer
  open_refused r e = refused_by _ _ _ r e

  pub open_opens : 0 ≡ first_failing (open_checks b s d n) → Opens b s d n
  open_opens e = open_passes b s d n (passes_all _ 0 (open_numbered b s d n) e refl)

  pub open_accepted : {new : Book} → 0 ≡ first_failing (open_checks b s d n) → new ≡ opened b s d n → outcome 0 new ≡ open_answer b s d n
  unfolding open_answer
  open_accepted e is = accepted_by _ _ _ (open_numbered b s d n) e is

  pub close_refused : (r : Refusal) → number_of r ≡ first_failing (close_checks b s d n) → outcome (number_of r) b ≡ close_answer b s d n
  unfolding close_answer
  close_refused r e = refused_by _ _ _ r e

  pub close_closes : 0 ≡ first_failing (close_checks b s d n) → Closes b s d n
  close_closes e = close_passes b s d n (passes_all _ 0 (close_numbered b s d n) e refl)

  pub close_accepted : {new : Book} → 0 ≡ first_failing (close_checks b s d n) → new ≡ closed b s d n → outcome 0 new ≡ close_answer b s d n
  unfolding close_answer
  close_accepted e is = accepted_by _ _ _ (close_numbered b s d n) e is

module _ (b : Book) (p : Pair) where
  pub pair_refused : (r : Refusal) → number_of r ≡ first_failing (pairing_checks b p) → outcome (number_of r) b ≡ pair_answer b p
  unfolding pair_answer
  pair_refused r e = refused_by _ _ _ r e

  pub pair_pairs : 0 ≡ first_failing (pairing_checks b p) → Pairs b p
  pair_pairs e = pair_passes b p (passes_all _ 0 (pair_numbered b p) e refl)

  pub pair_accepted : {new : Book} → 0 ≡ first_failing (pairing_checks b p) → new ≡ joined b p → outcome 0 new ≡ pair_answer b p
  unfolding pair_answer
  pair_accepted e is = accepted_by _ _ _ (pair_numbered b p) e is

  pub split_refused : (r : Refusal) → number_of r ≡ first_failing (split_checks b p) → outcome (number_of r) b ≡ split_answer b p
  unfolding split_answer
  split_refused r e = refused_by _ _ _ r e

  pub split_splits : 0 ≡ first_failing (split_checks b p) → Splits b p
  split_splits e = split_passes b p (passes_all _ 0 (split_numbered b p) e refl)

  pub split_accepted : {new : Book} → 0 ≡ first_failing (split_checks b p) → new ≡ parted b p → outcome 0 new ≡ split_answer b p
  unfolding split_answer
  split_accepted e is = accepted_by _ _ _ (split_numbered b p) e is

module _ (b : Book) (day : ℕ) where
  pub turn_refused : (r : Refusal) → number_of r ≡ first_failing (turn_checks b day) → outcome (number_of r) b ≡ turn_answer b day
  unfolding turn_answer
  turn_refused r e = refused_by _ _ _ r e

  pub turn_accepted : {new : Book} → 0 ≡ first_failing (turn_checks b day) → new ≡ with_day b day → outcome 0 new ≡ turn_answer b day
  unfolding turn_answer
  turn_accepted e is = accepted_by _ _ _ (turn_numbered b day) e is

-- Two tests that go together: as `checked_unsound` and `checked_sound` have them.
pub tested : (t : Bool) {s : Bool} → (not t ≡ true → s ≡ false) → (not t ≡ false → s ≡ true) → t ≡ s
tested true h k = sym (k refl)
tested false h k = sym (h refl)

-- A check that passes, and one that answers 0, leave the answer to those behind it.
pub goes_on : (t : Bool) (n : ℕ) {r rest : ℕ} → 0 ≡ pick t 0 (suc n) → r ≡ rest → r ≡ pick t rest (suc n)
goes_on true n e h = h
goes_on false n e h = absurd (omega arith)

pub goes_past : {n r rest : ℕ} → 0 ≡ n → r ≡ rest → r ≡ or_else n rest
goes_past e h = rw (← e) h

pub true_by : (t : Bool) (n : ℕ) → 0 ≡ pick t 0 (suc n) → t ≡ true
true_by true n e = refl
true_by false n e = absurd (omega arith)
