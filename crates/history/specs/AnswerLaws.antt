-- Laws of one call: it is accepted exactly when none of its checks fails, each by its number; a refused call leaves the book as it was.
use Rattle.std.specs.Prelude.{◌≡◌, refl, true, false, not, List, [], ◌∷◌, map, ℕ, ◌<◌, eqb, drop}
use Rattle.std.proofs.Math.Path.{ap}
use Rattle.std.proofs.Common.{sym, ◌∙◌, arith}
use Rattle.std.proofs.lemmas.Bool.{eqb-false, not-true}
use Rattle.laws.specs.TruthLaws.{both_true, picked}
use Rattle.laws.specs.Search.{every_line}
use Rattle.laws.specs.Checks.{Check, ◌unless◌, first_failing, all_pass, numbered}
use Rattle.laws.specs.CheckLaws.{by_number, Refused, refused}
use Rattle.series.specs.Checks.{series_checks}
use Rattle.pairing.specs.Rules.{pair_checks}
use Rattle.rows.specs.declared.Book.{Book}
use Rattle.rows.specs.Book.{with_day}
use Rattle.rules.specs.Rules.{sound_book}
use Rattle.calls.specs.Outcome.{Outcome}
use Rattle.calls.specs.Calls.{answered, book_checks, open_checks, open_answer, opened, close_checks, close_answer, closed, pairing_checks, pair_answer, joined, split_checks, split_answer, parted, turn_checks, turn_answer}
use Rattle.calls.specs.PassLaws.{open_numbered, close_numbered, pair_numbered, split_numbered, turn_numbered}
use Rattle.calls.specs.CallLaws.{accepts_back, refuses}
use Rattle.history.specs.History.{BookCall, open_lots, close_lots, pair_units, split_units, turn_day, step, checks_of, numbers_of}

-- The book that results where a call is accepted; so every call is answered by its checks, the book and that one.
unfoldable pub book_after : Book → BookCall → Book
book_after b (open_lots s d n) = opened b s d n
book_after b (close_lots s d n) = closed b s d n
book_after b (pair_units p) = joined b p
book_after b (split_units p) = parted b p
book_after b (turn_day day) = with_day b day

pub step_is : (b : Book) (c : BookCall) → step b c ≡ answered (checks_of b c) b (book_after b c)
unfolding step checks_of book_after open_answer close_answer pair_answer split_answer turn_answer
step_is b (open_lots s d n) = refl
step_is b (close_lots s d n) = refl
step_is b (pair_units p) = refl
step_is b (split_units p) = refl
step_is b (turn_day day) = refl

pub calls_numbered : (b : Book) (c : BookCall) → numbered (checks_of b c) ≡ true
unfolding checks_of
calls_numbered b (open_lots s d n) = open_numbered b s d n
calls_numbered b (close_lots s d n) = close_numbered b s d n
calls_numbered b (pair_units p) = pair_numbered b p
calls_numbered b (split_units p) = split_numbered b p
calls_numbered b (turn_day day) = turn_numbered b day

-- Accepted exactly when no check fails; a refused call leaves the book as it was.
module _ (b : Book) (c : BookCall) where
  pub number_is : (step b c).number ≡ first_failing (checks_of b c)
  unfolding answered
  number_is = ap (λ (o : Outcome). o.number) (step_is b c)

  pub accepted_when : eqb (step b c).number 0 ≡ all_pass (checks_of b c)
  accepted_when = ap (λ (n : ℕ). eqb n 0) number_is ∙ by_number (checks_of b c) (calls_numbered b c)

  pub passing_book : all_pass (checks_of b c) ≡ true → (step b c).book ≡ book_after b c
  passing_book e = ap (λ (o : Outcome). o.book) (step_is b c) ∙ (accepts_back (checks_of b c) b (book_after b c) e).1

  pub refused_book : all_pass (checks_of b c) ≡ false → (step b c).book ≡ b
  refused_book e = ap (λ (o : Outcome). o.book) (step_is b c) ∙ refuses (checks_of b c) b (book_after b c) e

  -- what a refusal says: the checks before passed, and this one, with this number, failed
  pub refusal : 0 < (step b c).number → Refused (checks_of b c) (step b c).number
  refusal h = refused (checks_of b c) (step b c).number h (sym number_is)

-- The checks have these numbers, in this order.
pub checks_numbers : (b : Book) (c : BookCall) → map (λ (k : Check). k.number) (checks_of b c) ≡ numbers_of c
unfolding checks_of numbers_of open_checks close_checks pairing_checks split_checks turn_checks book_checks series_checks pair_checks
checks_numbers b (open_lots s d n) = refl
checks_numbers b (close_lots s d n) = refl
checks_numbers b (pair_units p) = refl
checks_numbers b (split_units p) = refl
checks_numbers b (turn_day day) = refl

-- On a sound book 16 is never answered: the number is that of one of the call's own checks.
after_16 : (b : Book) (c : BookCall) → checks_of b c ≡ 16 unless sound_book b ∷ drop 1 (checks_of b c)
unfolding checks_of open_checks close_checks pairing_checks split_checks turn_checks book_checks
after_16 b (open_lots s d n) = refl
after_16 b (close_lots s d n) = refl
after_16 b (pair_units p) = refl
after_16 b (split_units p) = refl
after_16 b (turn_day day) = refl

own_number : (b : Book) (c : BookCall) → sound_book b ≡ true → (step b c).number ≡ first_failing (drop 1 (checks_of b c))
unfolding first_failing
own_number b c e = number_is b c ∙ ap first_failing (after_16 b c) ∙ rw e

not_among : (n : ℕ) (cs : List Check) → 0 < n → every_line (λ (k : Check). not (eqb k.number n)) cs ≡ true → first_failing cs ≡ n → ⊥
unfolding first_failing every_line
not_among n [] h e = λ f. omega arith
not_among n (c ∷ cs) h e =
    let k = both_true (not (eqb c.number n)) _ e in
    picked (λ (m : ℕ). m ≡ n → ⊥) c.passes (first_failing cs) c.number
    (λ q. not_among n cs h k.1)
    (λ q. eqb-false c.number n (not-true _ k.0))

own_not_16 : (b : Book) (c : BookCall) → every_line (λ (k : Check). not (eqb k.number 16)) (drop 1 (checks_of b c)) ≡ true
unfolding every_line checks_of open_checks close_checks pairing_checks split_checks turn_checks book_checks series_checks pair_checks
own_not_16 b (open_lots s d n) = refl
own_not_16 b (close_lots s d n) = refl
own_not_16 b (pair_units p) = refl
own_not_16 b (split_units p) = refl
own_not_16 b (turn_day day) = refl

pub never_16 : (b : Book) (c : BookCall) → sound_book b ≡ true → (step b c).number ≡ 16 → ⊥
never_16 b c e f = not_among 16 (drop 1 (checks_of b c)) (omega arith) (own_not_16 b c) (sym (own_number b c e) ∙ f)
