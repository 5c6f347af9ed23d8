-- Demand 3 (specs/Demand) proved: call by call, then for every list of calls.
use Rattle.std.specs.Prelude.{◌≡◌, refl, Bool, true, List, [], ◌∷◌, ℕ, ◌+◌, ◌<◌}
use Rattle.std.proofs.Common.{ap, sym, ◌∙◌, arith, eqb-true, eq-eqb}
use Rattle.laws.specs.TruthLaws.{by_test, false_unless}
use Rattle.laws.specs.Text.{byte}
use Rattle.laws.specs.Checks.{all_pass}
use Rattle.lists.specs.Sorted.{sum_of}
use Rattle.series.specs.declared.Series.{Series}
use Rattle.series.specs.declared.Side.{Side}
use Rattle.rows.specs.declared.Pair.{Pair}
use Rattle.rows.specs.declared.Book.{Book}
use Rattle.rows.specs.Book.{holdings_of, pairs_of, with_holdings, with_pairs, with_day, book_of, empty_book, no_book}
use Rattle.rules.specs.Lots.{ties, total, free, units_of}
use Rattle.rules.specs.Facts.{Sound}
use Rattle.rules.specs.RuleLaws.{sound_back}
use Rattle.calls.specs.Calls.{make_checks, make_answer, opened, closed, joined, parted}
use Rattle.calls.proofs.KeepLaws.{pair_passes}
use Rattle.calls.specs.PassLaws.{make_numbered, open_passes, close_passes, split_passes, turn_passes}
use Rattle.calls.specs.OpenLaws.{open_total, open_units, open_sound, close_total, close_units, close_enough, close_sound}
use Rattle.calls.specs.TieLaws.{pair_total, pair_units_lem, pair_sound, split_total, split_units_lem, split_enough, split_sound}
use Rattle.calls.specs.CallLaws.{accepts, accepts_back, refuses, no_book_sound, make_sound, make_total, make_units, turn_total, turn_units, turn_sound}
use Rattle.history.specs.History.{BookCall, open_lots, close_lots, pair_units, split_units, turn_day, step, checks_of, made, run, accepted}
use Rattle.history.specs.Counts.{opens, closes, pairs, splits, turns_to, lots_opened, lots_closed, units_paired, units_split, last_day}
use Rattle.history.specs.AnswerLaws.{book_after, accepted_when, passing_book, refused_book}
use Rattle.history.specs.Demand.{AsCounted, Demand3}

-- What a book became since it was b: sound, and changed by what the calls in between say and by nothing else.
pub record Since (b : Book) (done : List BookCall) (after : Book) : Type 0 where
  pub sound : Sound after
  pub lots : (s : Series) (d : Side) → total (holdings_of after) s d + lots_closed done s d ≡ total (holdings_of b) s d + lots_opened done s d
  pub units : (p : Pair) → units_of (pairs_of after) p + units_split done p ≡ units_of (pairs_of b) p + units_paired done p
  pub same_account : after.account ≡ b.account
  pub same_identity : after.identity ≡ b.identity
  pub day : after.day ≡ last_day b.day done

since_none : {b : Book} → Sound b → Since b [] b
unfolding lots_opened lots_closed units_paired units_split last_day sum_of
since_none s = record { sound = s; lots = λ t d. refl; units = λ p. refl; same_account = refl; same_identity = refl; day = refl }

since_then : {b m a : Book} {c : BookCall} {done : List BookCall} → Since b (c ∷ []) m → Since m done a → Since b (c ∷ done) a
unfolding lots_opened lots_closed units_paired units_split last_day sum_of
since_then {b} {m} {a} {c} {done} h k =
    record {
      sound = k.sound;
      lots = λ s d. let x = h.lots s d in let y = k.lots s d in omega arith;
      units = λ p. let x = h.units p in let y = k.units p in omega arith;
      same_account = k.same_account ∙ h.same_account;
      same_identity = k.same_identity ∙ h.same_identity;
      day = k.day ∙ ap (λ (n : ℕ). last_day n done) h.day;
    }

-- Each call, where none of its checks fails.
did : (b : Book) (c : BookCall) → all_pass (checks_of b c) ≡ true → Since b (c ∷ []) (book_after b c)
unfolding checks_of book_after lots_opened lots_closed units_paired units_split last_day sum_of opens closes pairs splits turns_to ties opened closed joined parted with_holdings with_pairs with_day free
did b (open_lots s d n) e =
    let o = open_passes b s d n e in
    record {
      sound = open_sound o;
      lots = λ t f. let h = open_total o t f in omega arith;
      units = λ p. let h = open_units o p in omega arith;
      same_account = refl;
      same_identity = refl;
      day = refl;
    }
did b (close_lots s d n) e =
    let o = close_passes b s d n e in
    record {
      sound = close_sound o;
      lots = λ t f. let h = close_total o t f in let k = close_enough o t f in omega arith;
      units = λ p. let h = close_units o p in omega arith;
      same_account = refl;
      same_identity = refl;
      day = refl;
    }
did b (pair_units p) e =
    let o = pair_passes b p e in
    record {
      sound = pair_sound o;
      lots = λ t f. let h = pair_total o t f in omega arith;
      units = λ q. let h = pair_units_lem o q in omega arith;
      same_account = refl;
      same_identity = refl;
      day = refl;
    }
did b (split_units p) e =
    let o = split_passes b p e in
    record {
      sound = split_sound o;
      lots = λ t f. let h = split_total o t f in omega arith;
      units = λ q. let h = split_units_lem o q in let k = split_enough o q in omega arith;
      same_account = refl;
      same_identity = refl;
      day = refl;
    }
did b (turn_day day) e =
    record {
      sound = turn_sound (turn_passes b day e);
      lots = λ t f. let h = turn_total b day t f in omega arith;
      units = λ q. let h = turn_units b day q in omega arith;
      same_account = refl;
      same_identity = refl;
      day = refl;
    }

-- After any calls on a sound book, refused ones among them.
pub since : (b : Book) (calls : List BookCall) → Sound b → Since b (accepted step b calls) (run step b calls)
unfolding run accepted
since b [] s = since_none s
since b (c ∷ calls) s =
    by_test (λ (t : Bool). all_pass (checks_of b c) ≡ t → Since b (accepted step b (c ∷ calls)) (run step b (c ∷ calls))) (all_pass (checks_of b c))
    (λ q e. let h = did b c e in rw (accepted_when b c, e, passing_book b c e) (since_then h (since (book_after b c) calls h.sound)))
    (λ q e. rw (accepted_when b c, e, refused_book b c e) (since b calls s))
    refl

-- A made book is sound and holds nothing.
module _ (account identity day : ℕ) (e : (make_answer account identity day).number ≡ 0) where
  make_passes : all_pass (make_checks account identity day) ≡ true
  unfolding make_answer
  make_passes = accepts (make_checks account identity day) no_book (empty_book account identity day) (make_numbered account identity day) e

  pub made_is : made account identity day ≡ empty_book account identity day
  unfolding make_answer
  made_is = (accepts_back (make_checks account identity day) no_book (empty_book account identity day) make_passes).1

-- So what it became is what the calls say.
told : {account identity day : ℕ} {done : List BookCall} {b : Book} → Since (empty_book account identity day) done b → AsCounted account identity day done b
unfolding free empty_book book_of
told {account} {identity} {day} {done} {b} h =
    record {
      sound = sound_back b h.sound;
      lots = λ s d. let x = h.lots s d in let z = make_total account identity day s d in let t = h.sound.never_negative s d in omega arith;
      lots_closed_lem = λ s d. let x = h.lots s d in let z = make_total account identity day s d in omega arith;
      lots_once = h.sound.never_negative;
      units = λ p. let x = h.units p in let z = make_units account identity day p in omega arith;
      units_split_lem = λ p. let x = h.units p in let z = make_units account identity day p in omega arith;
      account_made = h.same_account;
      identity_made = h.same_identity;
      day_counted = h.day;
    }

-- Demand 3: after any calls on a made book, refused ones among them, the book is what the accepted ones say.
pub history : (account identity day : ℕ) (calls : List BookCall) → (make_answer account identity day).number ≡ 0 → AsCounted account identity day (accepted step (made account identity day) calls) (run step (made account identity day) calls)
history account identity day calls e =
    rw (made_is account identity day e) (told (since (empty_book account identity day) calls (make_sound account identity day (make_passes account identity day e))))

-- A refused make gives an empty book too, whose history is told in the same way.
no_book_told : (calls : List BookCall) → AsCounted 0 (byte "0") 20000101 (accepted step no_book calls) (run step no_book calls)
unfolding no_book
no_book_told calls = told (since no_book calls no_book_sound)

pub refused_make : (account identity day : ℕ) (calls : List BookCall) → 0 < (make_answer account identity day).number → AsCounted 0 (byte "0") 20000101 (accepted step (made account identity day) calls) (run step (made account identity day) calls)
unfolding make_answer
refused_make account identity day calls h =
    let cs = make_checks account identity day in
    let fails = false_unless (all_pass cs) (λ e. let z = (accepts_back cs no_book (empty_book account identity day) e).0 in omega arith) in
    rw (refuses cs no_book (empty_book account identity day) fails) (no_book_told calls)

-- And each call of it is accepted exactly when none of its checks fails.
pub demand_3 : Demand3 step
demand_3 =
    record {
      counted = history;
      accepts = λ b c e. eqb-true (step b c).number 0 (accepted_when b c ∙ e);
      accepts_only = λ b c e. sym (accepted_when b c) ∙ eq-eqb (step b c).number 0 e;
      refused_keeps = refused_book;
    }
