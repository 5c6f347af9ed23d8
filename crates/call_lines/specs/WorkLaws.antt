-- Laws of the work on a text: line after line, each number in its place, and whether the first line is a make.
use Rattle.std.specs.Prelude.{◌≡◌, Bool, ℕ, suc, ◌+◌, ◌-◌, ◌≤◌, ◌<◌, min, eqb, take, drop, set, replicate}
use Rattle.std.proofs.Math.Path.{refl, ap, sym}
use Rattle.std.proofs.Common.{◌∙◌, add-one, length-set, take-append-drop, take-suc-set, drop-set-lt, drop-cons, length-take-le}
use Rattle.std.proofs.Math.Bool.{true, false}
use mathlib.Core.List.{List, [], ◌++◌, append-nil}
use Rattle.std.proofs.Math.Nat.{sub-zero}
use Rattle.std.proofs.Math.Decide.{dec_lt}
use native.Mathlib.Omega.{arith}
use borrow.Author.Tests.{lt-ltb, le-ltb, lt-leb, le-leb, ne_eqb}
use Rattle.std.proofs.Math.ListN.{length, length-drop, drop_of_length-le}
use Rattle.std.proofs.lemmas.List.{length-replicate}
use Rattle.std.proofs.Math.Seq.{append_snoc}
use Rattle.laws.specs.Truth.{pick}
use Rattle.laws.specs.TruthLaws.{by_test, clash}
use Rattle.series.specs.declared.Side.{Side}
use Rattle.series.specs.declared.Side.TheVariants.{Long, Short}
use Rattle.lists.specs.Places.{full}
use Rattle.rows.specs.declared.Book.{Book}
use Rattle.calls.specs.Outcome.{Outcome}
use Rattle.history.specs.History.{BookCall}
use Rattle.lines.specs.declared.Cell.{Cell}
use Rattle.lines.specs.Pieces.{lf, split_on, next_of, stop_of}
use Rattle.lines.specs.CutLaws.{next_low, part_more, part_last}
use Rattle.lines.specs.StopLaws.{line_at}
use Rattle.book_lines.specs.Lines.{head_form}
use Rattle.call_lines.specs.declared.Name.{Name}
use Rattle.call_lines.specs.declared.Name.TheVariants as name
use Rattle.call_lines.specs.Lines.{call, formless, figure, name_in, form_of, sided, lots_in, said_by}
use Rattle.call_lines.specs.Work.{answer_to, Answers, after, answers_to, answers_in, worked_as, worked, is_make, makes_book}
use Rattle.call_lines.specs.Facts.{MakeLine, cells_behind, formed, make_said, make_behind, line_behind, said_at}
use Rattle.call_lines.specs.LineLaws.{name_ends, unended, said_behind}

-- The answers to the lines from `at` on: the first line's, then those to the lines behind it.
module _ (first : Bool) (b : Book) (t : List ℕ) (at : ℕ) (lt : at < length t) {o : Outcome} (is : o ≡ answer_to first b (said_at t at)) where
  ended_next : next_of t at lf < length t → {next : ℕ} → next ≡ next_of t at lf + 1 → answers_to first b (split_on lf (drop at t)) ≡ after o (answers_to false o.book (split_on lf (drop next t)))
  unfolding answers_to said_at line_at
  ended_next h e = rw (part_more t at lf refl (omega arith) h) (rw (is, e, lt-ltb _ _ h))

  last_next : length t ≤ next_of t at lf → {next : ℕ} → next ≡ length t → answers_to first b (split_on lf (drop at t)) ≡ after o (answers_to false o.book (split_on lf (drop next t)))
  unfolding answers_to answer_to split_on
  last_next h {next} e =
      let l = length-drop at t in
      let some : (length (drop at t) ≡ 0 → ⊥) = λ z. omega arith in
      let all : length t ≤ next = omega arith in
      rw (part_last t at lf refl (omega arith) h, ne_eqb _ _ some, drop_of_length-le t all) (rw (is, unended t at h))

  answers_next : {next : ℕ} → next ≡ min (length t) (next_of t at lf + 1) → answers_to first b (split_on lf (drop at t)) ≡ after o (answers_to false o.book (split_on lf (drop next t)))
  answers_next {next} e = go (dec_lt (next_of t at lf) (length t))
    where
      go : Dec (next_of t at lf < length t) → answers_to first b (split_on lf (drop at t)) ≡ after o (answers_to false o.book (split_on lf (drop next t)))
      go (yes h) = ended_next h {next = next} (omega arith)
      go (no h) = last_next (omega arith) {next = next} (omega arith)

-- answers behind the numbers of lines before
abbrev pub behind : List ℕ → Answers → Answers
behind ns rest = record { book = rest.book; numbers = ns ++ rest.numbers }

-- The loop is at the place `at` behind so many lines; their numbers stand in front, in room for so many, and the book is what they leave.
pub record Working (room : ℕ) (start : Book) (t : List ℕ) (book : Book) (numbers : List ℕ) (count at : ℕ) : Type 0 where
  pub low : at ≤ length t
  pub few : count ≤ at
  pub long : length numbers ≡ room
  pub clear : drop count numbers ≡ replicate (room - count) 0
  pub goes : answers_in start t ≡ behind (take count numbers) (answers_to (eqb count 0) book (split_on lf (drop at t)))

pub work_starts : (room : ℕ) (b : Book) (t : List ℕ) → Working room b t b (replicate room 0) 0 0
unfolding answers_in
work_starts room b t = record { low = omega arith; few = omega arith; long = length-replicate room 0; clear = rw (sub-zero room); goes = refl }

-- Numbers that are clear from a place on are clear behind it.
rest_clear : (room count : ℕ) (numbers : List ℕ) → count < room → length numbers ≡ room → drop count numbers ≡ replicate (room - count) 0 → drop (suc count) numbers ≡ replicate (room - suc count) 0
rest_clear room count numbers lt long e =
    let n : room - count ≡ suc (room - suc count) = omega arith in
    ap (drop 1) (sym (drop-cons numbers count 0 (omega arith)) ∙ rw n at e)

module _ {room : ℕ} {start : Book} {t : List ℕ} {book : Book} {numbers : List ℕ} {count at : ℕ} (g : Working room start t book numbers count at) (fits : length t ≤ room) where
  module _ (lt : at < length t) where
    pub number_room : count < room
    number_room = let f = g.few in omega arith

    pub next_less : {next : ℕ} → next ≡ min (length t) (next_of t at lf + 1) → length t - next < length t - at
    next_less e = let n = next_low t at lf in omega arith

    pub work_on : {o : Outcome} {next : ℕ} → o ≡ answer_to (eqb count 0) book (said_at t at) → next ≡ min (length t) (next_of t at lf + 1) → Working room start t o.book (set numbers count o.number) (count + 1) next
    work_on {o} {next} is e =
        let f = g.few in
        let long = g.long in
        let n = next_low t at lf in
        let room_left : count < length numbers = omega arith in
        let more : (count + 1 ≡ 0 → ⊥) = λ z. omega arith in
        record {
          low = omega arith;
          few = omega arith;
          long = simp length-set long;
          clear = rw (add-one count, drop-set-lt (suc count) numbers count o.number (omega arith)) (rest_clear room count numbers (omega arith) long g.clear);
          goes = rw (ne_eqb (count + 1) 0 more, add-one count, take-suc-set numbers count o.number room_left, append_snoc) (rw (answers_next (eqb count 0) book t at lt is e) at g.goes);
        }

  -- Behind the last line.
  numbers_are : length t ≤ at → full room 0 (take count numbers) ≡ numbers
  unfolding full
  numbers_are end =
      let f = g.few in
      let low = g.low in
      let long = g.long in
      rw (length-take-le count numbers (omega arith), ← g.clear) (take-append-drop count numbers)

  answers_are : length t ≤ at → answers_in start t ≡ record { book = book; numbers = take count numbers }
  unfolding answers_to split_on
  answers_are end = rw (drop_of_length-le t end, append-nil (take count numbers)) at g.goes

-- No numbers in their room.
full_none : (n : ℕ) → replicate n 0 ≡ full {A = ℕ} n 0 []
unfolding full
full_none n = rw (sub-zero n)

-- What the work answers: the text is too long, or its lines are done.
pub too_long : (b : Book) (t : List ℕ) → 65536 < length t → record { number = 2; lines = 0; book = b; numbers = replicate 65536 0 } ≡ worked b t
unfolding worked worked_as
too_long b t h = rw (lt-leb (length t) 65536 h, ← full_none 65536)

pub all_worked : {start : Book} {t : List ℕ} {book : Book} {numbers : List ℕ} {count at : ℕ} → Working 65536 start t book numbers count at → length t ≤ 65536 → length t ≤ at → record { number = 0; lines = count; book = book; numbers = numbers } ≡ worked start t
unfolding worked worked_as
all_worked {start} {t} {book} {numbers} {count} {at} g fits end =
    let f = g.few in
    let low = g.low in
    let long = g.long in
    rw (le-leb (length t) 65536 fits, answers_are g fits end, length-take-le count numbers (omega arith), numbers_are g fits end)

-- Every name but make says no make.
abbrev pub named_make : Name → Bool
named_make name.Nothing = false
named_make name.Make = true
named_make name.Open = false
named_make name.Close = false
named_make name.Pair = false
named_make name.Split = false
named_make name.Turn = false

side_call : (mark : ℕ) (of : Side → BookCall) → is_make (sided mark of) ≡ false
unfolding sided
side_call mark of =
    by_test (λ (l : Bool). is_make (pick l (call (of Long)) (pick (eqb mark 83) (call (of Short)) formless)) ≡ false) (eqb mark 76)
    (λ q. refl)
    (λ q. by_test (λ (s : Bool). is_make (pick s (call (of Short)) formless) ≡ false) (eqb mark 83) (λ r. refl) (λ r. refl))

said_make : (k : Name) (cs : List Cell) → named_make k ≡ false → is_make (said_by k cs) ≡ false
unfolding said_by lots_in
said_make name.Nothing cs e = refl
said_make name.Make cs e = absurd (clash refl e)
said_make name.Open cs e = side_call (figure cs 4) _
said_make name.Close cs e = side_call (figure cs 4) _
said_make name.Pair cs e = refl
said_make name.Split cs e = refl
said_make name.Turn cs e = refl

no_make : (k : Name) (f : Bool) (cs : List Cell) → named_make k ≡ false → is_make (pick f (said_by k cs) formless) ≡ false
no_make k true cs e = said_make k cs e
no_make k false cs e = refl

-- The name of the first line, cut out of the text, is as long as the place where it ends.
pub name_counts : (t : List ℕ) {stop : ℕ} → stop ≡ stop_of t 0 → stop ≡ length (take stop t)
name_counts t {stop} is = sym (length-take-le stop t (name_ends t 0 is (omega arith)))

-- Whether the first line is a make.
module _ (t : List ℕ) {stop : ℕ} {n : Name} (is : stop ≡ stop_of t 0) (named : n ≡ name_in (take stop t)) where
  first_line : makes_book t ≡ is_make (said_at t 0)
  unfolding makes_book said_at line_at
  first_line = go (dec_lt (next_of t 0 lf) (length t))
    where
      go : Dec (next_of t 0 lf < length t) → makes_book t ≡ is_make (said_at t 0)
      go (yes h) = rw (part_more t 0 lf refl (omega arith) h, lt-ltb _ _ h)
      go (no h) = let end : length t ≤ next_of t 0 lf = omega arith in rw (part_last t 0 lf refl (omega arith) end, le-ltb _ _ end)

  said_first : (k : Name) → n ≡ k → is_make (line_behind k t stop) ≡ makes_book t
  said_first k e = rw (is) (ap is_make (said_behind t 0 k (sym e ∙ named ∙ ap name_in (rw (is, sub-zero))))) ∙ sym first_line

  pub make_first : {m : MakeLine} → n ≡ name.Make → m ≡ make_behind t stop → m.right ≡ makes_book t
  unfolding line_behind make_behind make_said form_of said_by
  make_first {m} e is_m = ap (λ (x : MakeLine). x.right) is_m ∙ by_right (formed head_form t stop) ∙ said_first name.Make e
    where
      by_right : (f : Bool) → f ≡ is_make (pick f (said_by name.Make (cells_behind head_form t stop)) formless)
      by_right true = refl
      by_right false = refl

  pub other_first : {k : Name} → n ≡ k → named_make k ≡ false → false ≡ makes_book t
  unfolding line_behind
  other_first {k} e other = sym (no_make k (formed (form_of k) t stop) (cells_behind (form_of k) t stop) other) ∙ said_first k e

  pub no_make_first : (n ≡ name.Make → ⊥) → false ≡ makes_book t
  no_make_first not = go n refl
    where
      go : (k : Name) → n ≡ k → false ≡ makes_book t
      go name.Nothing e = other_first {k = name.Nothing} e refl
      go name.Make e = absurd (not e)
      go name.Open e = other_first {k = name.Open} e refl
      go name.Close e = other_first {k = name.Close} e refl
      go name.Pair e = other_first {k = name.Pair} e refl
      go name.Split e = other_first {k = name.Split} e refl
      go name.Turn e = other_first {k = name.Turn} e refl
