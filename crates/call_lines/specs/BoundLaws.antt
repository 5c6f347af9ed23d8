-- How many lines a text has, and how large their numbers are: no more lines than bytes, and no number above 16.
use Rattle.std.specs.Prelude.{◌≡◌, refl, Bool, true, false, List, [], ◌∷◌, ℕ, suc, ◌≤◌, eqb, leb, length}
use Rattle.std.proofs.Common.{arith, le-leb, leb-true, ne_eqb}
use Rattle.laws.specs.Truth.{pick}
use Rattle.laws.specs.TruthLaws.{by_test, both_true, both_hold, picked}
use Rattle.laws.specs.Search.{every_line}
use Rattle.laws.specs.Checks.{Check, first_failing}
use Rattle.series.specs.Checks.{series_checks}
use Rattle.pairing.specs.Rules.{pair_checks}
use Rattle.rows.specs.declared.Book.{Book}
use Rattle.calls.specs.Calls.{answered, make_checks, make_answer, book_checks, open_checks, close_checks, pairing_checks, split_checks, turn_checks}
use Rattle.history.specs.History.{BookCall, open_lots, close_lots, pair_units, split_units, turn_day, checks_of}
use Rattle.history.specs.AnswerLaws.{number_is}
use Rattle.lines.specs.Pieces.{lf, Pieces, one, more, in_front, split_on}
use Rattle.call_lines.specs.Lines.{Line, make, call, formless, call_line}
use Rattle.call_lines.specs.Work.{answer_to, answers_to, answers_in}

-- how many lines stand in a text that is cut at its LFs
abbrev lines_of : Pieces → ℕ
lines_of (one rest) = pick (eqb (length rest) 0) 0 1
lines_of (more line ls) = suc (lines_of ls)

front_few : (b : ℕ) (ps : Pieces) → lines_of (in_front b ps) ≤ suc (lines_of ps)
front_few b (one rest) =
    rw (ne_eqb (suc (length rest)) 0 (λ z. omega arith))
    (by_test (λ (t : Bool). 1 ≤ suc (pick t 0 1)) (eqb (length rest) 0) (λ q. omega arith) (λ q. omega arith))
front_few b (more line ls) = omega arith

lines_few : (t : List ℕ) → lines_of (split_on lf t) ≤ length t
unfolding split_on
lines_few [] = omega arith
lines_few (b ∷ t) =
    let h = lines_few t in
    let f = front_few b (split_on lf t) in
    picked (λ (ps : Pieces). lines_of ps ≤ suc (length t)) (eqb b lf) (more [] (split_on lf t)) (in_front b (split_on lf t)) (λ q. omega arith) (λ q. omega arith)

numbers_count : (first : Bool) (b : Book) (ps : Pieces) → length (answers_to first b ps).numbers ≡ lines_of ps
unfolding answers_to
numbers_count first b (one rest) = by_test (λ (t : Bool). length {A = ℕ} (pick t [] (1 ∷ [])) ≡ pick t 0 1) (eqb (length rest) 0) (λ q. refl) (λ q. refl)
numbers_count first b (more line ls) = let h = numbers_count false (answer_to first b (call_line line)).book ls in omega arith

pub numbers_few : (b : Book) (t : List ℕ) → length (answers_in b t).numbers ≤ length t
unfolding answers_in
numbers_few b t = let c = numbers_count true b (split_on lf t) in let h = lines_few t in omega arith

-- A number is one of the checks', or 0.
abbrev few : Check → Bool
few k = leb k.number 16

first_few : (cs : List Check) → every_line few cs ≡ true → first_failing cs ≤ 16
unfolding every_line first_failing
first_few [] e = omega arith
first_few (k ∷ cs) e =
    let h = both_true (few k) _ e in
    picked (λ (n : ℕ). n ≤ 16) k.passes (first_failing cs) k.number (λ q. first_few cs h.1) (λ q. leb-true k.number 16 h.0)

checks_few : (b : Book) (c : BookCall) → every_line few (checks_of b c) ≡ true
unfolding every_line checks_of open_checks close_checks pairing_checks split_checks turn_checks book_checks series_checks pair_checks
checks_few b (open_lots s d n) = refl
checks_few b (close_lots s d n) = refl
checks_few b (pair_units p) = refl
checks_few b (split_units p) = refl
checks_few b (turn_day day) = refl

answer_few : (first : Bool) (b : Book) (x : Line) → (answer_to first b x).number ≤ 16
unfolding answer_to make_answer make_checks answered every_line
answer_few true b (make account identity day) = first_few (make_checks account identity day) refl
answer_few false b (make account identity day) = omega arith
answer_few first b (call c) = let h = number_is b c in let f = first_few (checks_of b c) (checks_few b c) in omega arith
answer_few first b formless = omega arith

answers_small : (first : Bool) (b : Book) (ps : Pieces) → every_line (λ (n : ℕ). leb n 16) (answers_to first b ps).numbers ≡ true
unfolding answers_to every_line
answers_small first b (one rest) = by_test (λ (t : Bool). every_line (λ (n : ℕ). leb n 16) (pick t [] (1 ∷ [])) ≡ true) (eqb (length rest) 0) (λ q. refl) (λ q. refl)
answers_small first b (more line ls) = both_hold (le-leb _ 16 (answer_few first b (call_line line))) (answers_small false (answer_to first b (call_line line)).book ls)

pub numbers_small : (b : Book) (t : List ℕ) → every_line (λ (n : ℕ). leb n 16) (answers_in b t).numbers ≡ true
unfolding answers_in
numbers_small b t = answers_small true b (split_on lf t)
