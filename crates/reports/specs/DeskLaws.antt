-- Laws of what the desk prints: the lines one behind the other, that every text fits its room, and what each way through the two texts gives.
use Rattle.std.specs.Prelude.{◌≡◌, refl, Bool, true, false, ℕ, suc, ◌+◌, ◌*◌, ◌≤◌, ◌<◌, leb, eqb, get_or, take, drop, replicate}
use Rattle.std.proofs.Common.{ap, sym, ◌∙◌, arith, add-one, length-append, drop_of_length-le, drop-cons, length-take-le}
use mathlib.Core.List.{List, [], ◌∷◌, ◌++◌}
use borrow.Author.Tests.{eq-eqb, ne_eqb, le-leb, lt-leb, leb-true}
use Rattle.std.proofs.Math.ListN.{length}
use Rattle.std.proofs.lemmas.List.{length-replicate}
use Rattle.laws.specs.Truth.{pick, either}
use Rattle.laws.specs.TruthLaws.{both_true, both_hold, picked, by_test}
use Rattle.laws.specs.Text.{byte}
use Rattle.laws.specs.Search.{every_line}
use Rattle.laws.specs.Checks.{all_pass}
use Rattle.lists.specs.Places.{full}
use Rattle.lists.specs.PlaceLaws.{length_full, take_full}
use Rattle.digits.specs.Digits.{numerals}
use Rattle.digits.specs.FigureLaws.{numerals_few}
use Rattle.put.specs.Put.{laid, end_of}
use Rattle.put.specs.PutLaws.{Put, put_is, put_says, put_none, put_then, laid_start, length_laid, laid_then, end_then}
use Rattle.rows.specs.declared.Book.{Book}
use Rattle.rules.specs.Rules.{sound_book}
use Rattle.rules.specs.RuleLaws.{sound_is, sound_back}
use Rattle.printed.specs.Printed.{text_of, Printed, print_checks, print_answer, print_exit}
use Rattle.printed.specs.PrintedLaws.{text_fits}
use Rattle.reading.specs.Reading.{Answer, read_book}
use Rattle.trip.proofs.TripLaws.{read_sound}
use Rattle.call_lines.specs.declared.Worked.{Worked}
use Rattle.call_lines.specs.Work.{answers_in, worked_as, worked, makes_book}
use Rattle.call_lines.specs.BoundLaws.{numbers_few, numbers_small}
use Rattle.call_lines.specs.RunLaws.{work_keeps}
use Rattle.put.specs.Output.{refusal_text}
use Rattle.put.specs.LineLaws.{field_fits, last_fits, line_fits, refusal_fits, laid_full}
use Rattle.reports.specs.declared.Desk.{Desk}
use Rattle.reports.specs.Desk.{line_answer, refusals_from, answers_text, read_then, desk_text, desk_of}

-- What is said of one line.
module _ (d : List ℕ) (at number line : ℕ) where
  pub answer_none : number ≡ 0 → at ≤ length d → (at ≡ end_of d at (line_answer number line)) × (d ≡ laid d at (line_answer number line))
  unfolding line_answer
  answer_none z low = rw (eq-eqb number 0 z) (put_says (put_none d at low))

  pub answer_some : {e : List ℕ} {r : ℕ} → (number ≡ 0 → ⊥) → (r ≡ end_of d at (refusal_text number line)) × (e ≡ laid d at (refusal_text number line)) → (r ≡ end_of d at (line_answer number line)) × (e ≡ laid d at (line_answer number line))
  unfolding line_answer
  answer_some n h = rw (ne_eqb number 0 n) h

-- The loop has come to line i + 1: what is said of the lines before it is laid, and what is said of the rest is to come.
pub record Saying (d : List ℕ) (at : ℕ) (numbers e : List ℕ) (end i : ℕ) : Type 0 where
  pub low : i ≤ length numbers
  pub inside : end ≤ length e
  pub same : length e ≡ length d
  pub ends : end_of e end (refusals_from (suc i) (drop i numbers)) ≡ end_of d at (refusals_from 1 numbers)
  pub goes : laid e end (refusals_from (suc i) (drop i numbers)) ≡ laid d at (refusals_from 1 numbers)

-- What is said of a line and of those behind it, and that a place behind a text is in the buffer.
say_next : (numbers : List ℕ) (i : ℕ) → i < length numbers → refusals_from (suc i) (drop i numbers) ≡ line_answer (get_or numbers i 0) (suc i) ++ refusals_from (suc (suc i)) (drop (suc i) numbers)
unfolding refusals_from
say_next numbers i h = rw (drop-cons numbers i 0 h)

end_inside : (d : List ℕ) (at : ℕ) (p : List ℕ) → end_of d at p ≤ length d
unfolding end_of
end_inside d at p = omega arith

pub say_starts : (d : List ℕ) (at : ℕ) (numbers : List ℕ) → at ≤ length d → Saying d at numbers d at 0
say_starts d at numbers h = record { low = omega arith; inside = h; same = refl; ends = refl; goes = refl }

module _ {d : List ℕ} {at : ℕ} {numbers e : List ℕ} {end i : ℕ} (g : Saying d at numbers e end i) where
  pub say_on : {f : List ℕ} {next : ℕ} → i < length numbers → (next ≡ end_of e end (line_answer (get_or numbers i 0) (i + 1))) × (f ≡ laid e end (line_answer (get_or numbers i 0) (i + 1))) → Saying d at numbers f next (i + 1)
  say_on {f} {next} lt put =
      let p = line_answer (get_or numbers i 0) (suc i) in
      let rest = refusals_from (suc (suc i)) (drop (suc i) numbers) in
      let said : refusals_from (suc i) (drop i numbers) ≡ p ++ rest = say_next numbers i lt in
      let at_end : next ≡ end_of e end p = rw (← add-one i) put.0 in
      let held : f ≡ laid e end p = rw (← add-one i) put.1 in
      record {
        low = omega arith;
        inside = rw (at_end, held, length_laid e end p) (end_inside e end p);
        same = ap length held ∙ length_laid e end p ∙ g.same;
        ends = rw (add-one i, at_end, held) (end_then e end p rest ∙ ap (end_of e end) (sym said) ∙ g.ends);
        goes = rw (add-one i, at_end, held) (laid_then e end p rest ∙ ap (laid e end) (sym said) ∙ g.goes);
      }

  pub say_ends : length numbers ≤ i → (end ≡ end_of d at (refusals_from 1 numbers)) × (e ≡ laid d at (refusals_from 1 numbers))
  unfolding refusals_from laid end_of
  say_ends le =
      let none = put_says (put_none e end g.inside) in
      (none.0 ∙ rw (drop_of_length-le numbers le) at g.ends, none.1 ∙ rw (drop_of_length-le numbers le) at g.goes)

-- How long it can be: a number above 16 is never answered, and there are no more than 65,536 lines.
refusal_few : (number line : ℕ) → number ≤ 16 → line ≤ 99999 → length (refusal_text number line) ≤ 11
unfolding refusal_text
refusal_few number line h k =
    line_fits (byte "X") _ (field_fits (numerals number) _ (numerals_few 2 number (omega arith) (omega arith)) (last_fits (numerals line) (numerals_few 5 line (omega arith) (omega arith))))

answer_few : (number line : ℕ) → number ≤ 16 → line ≤ 99999 → length (line_answer number line) ≤ 11
unfolding line_answer
answer_few number line h k = picked (λ (t : List ℕ). length t ≤ 11) (eqb number 0) [] (refusal_text number line) (λ q. omega arith) (λ q. refusal_few number line h k)

refusals_few : (line : ℕ) (ns : List ℕ) → every_line (λ (n : ℕ). leb n 16) ns ≡ true → line + length ns ≤ 99999 → length (refusals_from line ns) ≤ 11 * length ns
unfolding refusals_from every_line
refusals_few line [] e h = omega arith
refusals_few line (n ∷ ns) e h =
    let k = both_true (leb n 16) _ e in
    let one = answer_few n line (leb-true n 16 k.0) (omega arith) in
    let rest = refusals_few (suc line) ns k.1 (omega arith) in
    rw (length-append (line_answer n line) (refusals_from (suc line) ns)) (omega arith)

module _ (b : Book) (calls : List ℕ) (sound : sound_book b ≡ true) (few : length calls ≤ 65536) where
  left_sound : sound_book (answers_in b calls).book ≡ true
  left_sound = sound_back (answers_in b calls).book (work_keeps b calls (sound_is b sound))

  pub answers_fit : length (answers_text (answers_in b calls)) ≤ 737280
  unfolding answers_text
  answers_fit =
      let a = answers_in b calls in
      let t = text_fits a.book left_sound in
      let n = numbers_few b calls in
      let r = refusals_few 1 a.numbers (numbers_small b calls) (omega arith) in
      rw (length-append (text_of a.book) (refusals_from 1 a.numbers)) (omega arith)

-- A sound book printed into a buffer that any book's text fits.
print_put : (b : Book) (d : List ℕ) {p : Printed} {e : List ℕ} → sound_book b ≡ true → 16384 ≤ length d → (p ≡ print_answer b d) × (e ≡ print_exit b d) → Put d 0 (text_of b) e p.length
unfolding print_answer print_exit print_checks all_pass end_of
print_put b d sound room h =
    let t = text_fits b sound in
    let fits : length (text_of b) ≤ length d = omega arith in
    let all : all_pass (print_checks b d) ≡ true = both_hold sound (both_hold (le-leb _ _ fits) refl) in
    record {
      ends = ap (λ (q : Printed). q.length) h.0 ∙ rw all (omega arith);
      holds = h.1 ∙ rw all (sym (laid_start d (text_of b) fits));
    }

-- The work on a book, as it is answered: its book, and its numbers.
module _ (b : Book) (calls : List ℕ) {w : Worked} (is : w ≡ worked b calls) (few : length calls ≤ 65536) where
  parts : w ≡ worked_as 0 (answers_in b calls).book (answers_in b calls).numbers
  unfolding worked
  parts = is ∙ rw (le-leb (length calls) 65536 few)

  pub lines_inside : w.lines ≤ length w.numbers
  unfolding worked_as
  lines_inside =
      let n = numbers_few b calls in
      let l = length_full 65536 0 (answers_in b calls).numbers (omega arith) in
      rw parts (omega arith)

  pub lines_count : w.lines ≡ length (take w.lines w.numbers)
  lines_count = sym (length-take-le w.lines w.numbers lines_inside)

  numbers_are : take w.lines w.numbers ≡ (answers_in b calls).numbers
  unfolding worked_as
  numbers_are = rw parts (take_full 65536 0 (answers_in b calls).numbers)

  book_is : w.book ≡ (answers_in b calls).book
  unfolding worked_as
  book_is = rw parts

  module _ (sound : sound_book b ≡ true) (d : List ℕ) (wide : 16384 ≤ length d) {p : Printed} {e : List ℕ} (printed : (p ≡ print_answer w.book d) × (e ≡ print_exit w.book d)) where
    laid_book : Put d 0 (text_of (answers_in b calls).book) e p.length
    laid_book = rw book_is at (print_put w.book d (rw book_is (left_sound b calls sound few)) wide printed)

    -- what laying the answers behind it asks for
    pub answers_ask : (p.length ≤ length e) × (length (take w.lines w.numbers) ≤ 65536)
    answers_ask =
        let n = numbers_few b calls in
        (rw (laid_book.ends, laid_book.holds, length_laid d 0 (text_of (answers_in b calls).book)) (end_inside d 0 (text_of (answers_in b calls).book)), rw numbers_are (omega arith))

    pub answers_laid : {f : List ℕ} {n : ℕ} → (n ≡ end_of e p.length (refusals_from 1 (take w.lines w.numbers))) × (f ≡ laid e p.length (refusals_from 1 (take w.lines w.numbers))) → (n ≡ end_of d 0 (answers_text (answers_in b calls))) × (f ≡ laid d 0 (answers_text (answers_in b calls)))
    unfolding answers_text
    answers_laid put = put_says (put_then laid_book (put_is (rw numbers_are at put)))

-- The ways through the two texts.
-- zeros in room for more than the longest text of a book
pub room_enough : (room : ℕ) → 16384 ≤ room → 16384 ≤ length (replicate {A = ℕ} room 0)
room_enough room h = rw (length-replicate {A = ℕ} room 0) h

module _ (book calls : List ℕ) where
  pub calls_long : 65536 < length calls → refusal_text 2 0 ≡ desk_text book calls
  unfolding desk_text
  calls_long h = rw (lt-leb (length calls) 65536 h)

  module _ (a : Answer) (is : a ≡ read_book book) where
    pub read_is_sound : sound_book a.book ≡ true
    read_is_sound = rw is (sound_back (read_book book).book (read_sound book))

    module _ (few : length calls ≤ 65536) where
      pub book_read : a.number ≡ 0 → answers_text (answers_in a.book calls) ≡ desk_text book calls
      unfolding desk_text read_then
      book_read z = rw (le-leb (length calls) 65536 few, ← is, eq-eqb a.number 0 z) (by_test (λ (m : Bool). answers_text (answers_in a.book calls) ≡ pick (either m true) (answers_text (answers_in a.book calls)) (refusal_text a.number a.line)) (makes_book calls) (λ q. refl) (λ q. refl))

      module _ {m : Bool} (made : m ≡ makes_book calls) where
        pub book_made : m ≡ true → answers_text (answers_in a.book calls) ≡ desk_text book calls
        unfolding desk_text read_then
        book_made t = rw (le-leb (length calls) 65536 few, ← is, ← made, t)

        pub book_refused : m ≡ false → (a.number ≡ 0 → ⊥) → refusal_text a.number a.line ≡ desk_text book calls
        unfolding desk_text read_then
        book_refused f n = rw (le-leb (length calls) 65536 few, ← is, ← made, f, ne_eqb a.number 0 n)

  -- Every text fits.
  pub desk_fits : length (desk_text book calls) ≤ 737280
  unfolding desk_text read_then
  desk_fits =
      let a = read_book book in
      picked (λ (t : List ℕ). length t ≤ 737280) (leb (length calls) 65536) (read_then a calls) (refusal_text 2 0)
      (λ e.
      picked (λ (t : List ℕ). length t ≤ 737280) (either (makes_book calls) (eqb a.number 0)) (answers_text (answers_in a.book calls)) (refusal_text a.number a.line)
      (λ q. answers_fit a.book calls (read_is_sound a refl) (leb-true (length calls) 65536 e))
      (λ q. omega (arith, refusal_fits a.number a.line)))
      (λ e. omega (arith, refusal_fits 2 0))

-- A text laid over a buffer is laid as the text that it is.
pub laid_as : (d : List ℕ) (at : ℕ) {e p q : List ℕ} {r : ℕ} → p ≡ q → (r ≡ end_of d at p) × (e ≡ laid d at p) → (r ≡ end_of d at q) × (e ≡ laid d at q)
laid_as d at is h = rw is at h

-- A text that fits, laid over zeros from the start on, is the text in its room.
in_room : (room : ℕ) (p : List ℕ) {text : List ℕ} {n : ℕ} → length p ≤ room → Put (replicate room 0) 0 p text n → (text ≡ full room 0 p) × (n ≡ length p)
unfolding end_of
in_room room p h put =
    let e = length-replicate {A = ℕ} room 0 in
    let k : end_of (replicate room 0) 0 p ≡ length p = omega arith in
    (put.holds ∙ laid_full room p h, put.ends ∙ k)

pub desk_whole : (book calls : List ℕ) {text : List ℕ} {n : ℕ} → (n ≡ end_of (replicate 737280 0) 0 (desk_text book calls)) × (text ≡ laid (replicate 737280 0) 0 (desk_text book calls)) → record { text = text; length = n } ≡ desk_of (desk_text book calls)
unfolding desk_of
desk_whole book calls put =
    let k = in_room 737280 (desk_text book calls) (desk_fits book calls) (put_is put) in
    rw (k.0, k.1)

-- What is answered: its length is in its room, and the bytes before that are the text.
module _ (book calls : List ℕ) (s : Desk) (is : s ≡ desk_of (desk_text book calls)) where
  pub desk_inside : s.length ≤ length s.text
  unfolding desk_of
  desk_inside =
      let h = desk_fits book calls in
      let k = length_full 737280 0 (desk_text book calls) h in
      rw is (omega arith)

  pub desk_is : take s.length s.text ≡ desk_text book calls
  unfolding desk_of
  desk_is = rw is (take_full 737280 0 (desk_text book calls))

  pub desk_counts : s.length ≡ length (take s.length s.text)
  desk_counts = sym (length-take-le s.length s.text desk_inside)
