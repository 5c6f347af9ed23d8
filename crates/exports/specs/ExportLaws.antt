-- Laws of the exported functions: printing over a print, the line in its room, what the words of a call say, and a script's calls one after the other.
use Rattle.std.specs.Prelude.{◌≡◌, refl, Bool, false, leb, get_or, take, set}
use Rattle.std.proofs.Math.Path.{ap}
use Rattle.std.proofs.Common.{sym, ◌∙◌, length-append, drop_at}
use Rattle.std.proofs.Math.Bool.{true}
use mathlib.Core.List.{List, ◌++◌}
use Prim.Native.Nat.{ℕ, suc, ◌+◌, ◌-◌, ◌*◌, ◌/◌, ◌%◌, ◌≤◌, ◌<◌}
use Rattle.std.proofs.Math.Nat.{sub-zero}
use native.Mathlib.Omega.{arith}
use borrow.Author.Tests.{eq-eqb, ne_eqb, leb-true, le-leb, lt-leb}
use Rattle.std.proofs.Math.Dec.{eqb}
use Rattle.std.proofs.Math.ListN.{length, drop, length-drop, length-set}
use Rattle.laws.specs.Truth.{pick, both}
use Rattle.laws.specs.TruthLaws.{both_true, picked, by_test}
use Rattle.laws.specs.Checks.{all_pass}
use Rattle.series.specs.declared.Series.{Series}
use Rattle.series.specs.declared.Nature.{Nature}
use Rattle.series.specs.declared.Side.{Side}
use Rattle.rows.specs.declared.Pair.{Pair}
use Rattle.rows.specs.declared.Book.{Book}
use Rattle.rules.specs.Rules.{sound_book}
use Rattle.calls.specs.Outcome.{Outcome}
use Rattle.calls.specs.Calls.{make_answer, open_answer, close_answer, pair_answer, split_answer, turn_answer}
use Rattle.put.specs.declared.Output.{Output}
use Rattle.put.specs.Put.{laid}
use Rattle.put.specs.PutLaws.{laid_start}
use Rattle.put.specs.Output.{output_of}
use Rattle.put.specs.LineLaws.{line_is}
use Rattle.printed.specs.Printed.{text_of, Printed, print_checks, print_answer, print_exit}
use Rattle.printed.specs.PrintedLaws.{text_fits}
use Rattle.reading.specs.Reading.{Answer, read_book}
use Rattle.sheets.specs.declared.Sheet.{Sheet}
use Rattle.checking.specs.Reading.{read_sheet}
use Rattle.account.specs.declared.Margin.{Margin}
use Rattle.account.specs.Margin.{margin_on, margin_text}
use Rattle.exports.specs.Exports.{coded, read_coded, print_coded, printed_of, printed_exit, line_coded, line_exit}
use Rattle.exports.specs.Script.{code_said, identity_said, nature_said, series_said, side_said, pair_said, call_said, book_after, numbers_after}
use Rattle.exports.specs.Runs.{script_number, by_run, run_coded, run_numbers, run_exit}

-- Printing: the length of a text is small, and the buffer keeps its length.
module _ (b : Book) (out : List ℕ) where
  passes : all_pass (print_checks b out) ≡ true → (sound_book b ≡ true) × (length (text_of b) ≤ length out)
  unfolding print_checks all_pass
  passes e =
      let k = both_true (sound_book b) _ e in
      (k.0, leb-true (length (text_of b)) (length out) (both_true (leb (length (text_of b)) (length out)) true k.1).0)

  length_few : (print_answer b out).length ≤ 16384
  unfolding print_answer
  length_few =
      picked (λ (n : ℕ). n ≤ 16384) (all_pass (print_checks b out)) (length (text_of b)) 0 (λ e. text_fits b (passes e).0) (λ e. omega arith)

  pub print_few : {p : Printed} → p ≡ print_answer b out → p.length < 4294967296
  print_few is = rw is (omega (arith, length_few))

  exit_length : length (print_exit b out) ≡ length out
  unfolding print_exit
  exit_length =
      picked (λ (l : List ℕ). length l ≡ length out) (all_pass (print_checks b out)) (text_of b ++ drop (length (text_of b)) out) out
      (λ e. rw (length-append (text_of b) (drop (length (text_of b)) out), length-drop (length (text_of b)) out) (omega (arith, (passes e).1)))
      (λ e. refl)

  exit_whole : all_pass (print_checks b out) ≡ true → print_exit b out ≡ text_of b ++ drop (length (text_of b)) out
  unfolding print_exit
  exit_whole e = simp e

  exit_kept : all_pass (print_checks b out) ≡ false → print_exit b out ≡ out
  unfolding print_exit
  exit_kept e = simp e

-- Only the length of the buffer decides.
checks_same : (b : Book) (out d : List ℕ) → length d ≡ length out → print_checks b d ≡ print_checks b out
unfolding print_checks
checks_same b out d h = rw h

answer_same : (b : Book) (out d : List ℕ) → length d ≡ length out → print_answer b d ≡ print_answer b out
unfolding print_answer
answer_same b out d h = rw (checks_same b out d h)

exit_again : (b : Book) (out : List ℕ) → print_exit b (print_exit b out) ≡ print_exit b out
exit_again b out =
    by_test (λ (t : Bool). all_pass (print_checks b out) ≡ t → print_exit b (print_exit b out) ≡ print_exit b out) (all_pass (print_checks b out))
    (λ e s. over (exit_whole b out s) s)
    (λ e s. ap (print_exit b) (exit_kept b out s))
    refl
  where
    over : print_exit b out ≡ text_of b ++ drop (length (text_of b)) out → all_pass (print_checks b out) ≡ true → print_exit b (print_exit b out) ≡ print_exit b out
    over w s =
        exit_whole b (print_exit b out) (ap all_pass (checks_same b out (print_exit b out) (exit_length b out)) ∙ s)
        ∙ ap (λ (l : List ℕ). text_of b ++ l) (ap (drop (length (text_of b))) w ∙ drop_at (text_of b) (drop (length (text_of b)) out) (length (text_of b)) refl)
        ∙ sym w

-- A print over a print: the same answer, the same bytes.
pub print_again : (b : Book) (d : List ℕ) {e f g : List ℕ} {p q : Printed} → (p ≡ print_answer b d) × (e ≡ print_exit b d) → g ≡ e → (q ≡ print_answer b g) × (f ≡ print_exit b g) → (q ≡ p) × (f ≡ e)
print_again b d first is next = (
  next.0 ∙ ap (print_answer b) (is ∙ first.1) ∙ answer_same b d (print_exit b d) (exit_length b d) ∙ sym first.0,
  next.1 ∙ ap (print_exit b) (is ∙ first.1) ∙ exit_again b d ∙ sym first.1,
)

-- The two ways through a text that is printed.
module _ (text out : List ℕ) (a : Answer) (read : a ≡ read_book text) where
  pub text_refused : {r : ℕ} → (a.number ≡ 0 → ⊥) → r ≡ coded a.number a.line → (r ≡ printed_of (read_book text) out) × (out ≡ printed_exit (read_book text) out)
  unfolding printed_of printed_exit read_coded
  text_refused h is = rw (← read) (simp (ne_eqb _ _ h) is, simp (ne_eqb _ _ h))

  pub text_printed : {r : ℕ} {p : Printed} {e : List ℕ} → a.number ≡ 0 → (p ≡ print_answer a.book out) × (e ≡ print_exit a.book out) → r ≡ coded p.number p.length → (r ≡ printed_of (read_book text) out) × (e ≡ printed_exit (read_book text) out)
  unfolding printed_of printed_exit print_coded
  text_printed h said is = rw (← read) (simp (eq-eqb _ _ h) (rw said.0 at is), simp (eq-eqb _ _ h) said.1)

-- The margin on the sheet of a text, and the line of two texts laid over the buffer.
pub margin_is : (b : Book) (text : List ℕ) {s : Sheet} {m : Margin} → s ≡ read_sheet text → m ≡ margin_on b s → m ≡ margin_text b text
unfolding margin_text
margin_is b text read is = rw read at is

-- The line of two texts in a lent buffer: too short, or long enough.
module _ (text out : List ℕ) (s : Output) (is : s ≡ output_of text) (fits : length text ≤ 96) where
  line_length : s.length ≡ length text
  unfolding output_of
  line_length = ap (λ (o : Output). o.length) is

  pub line_few : s.length < 4294967296
  line_few = omega (arith, line_length)

  pub line_short : {r : ℕ} → length out < s.length → r ≡ coded 15 0 → (r ≡ line_coded text out) × (out ≡ line_exit text out)
  unfolding line_coded line_exit
  line_short h e = let k = line_length in (e ∙ simp (lt-leb (length text) (length out) (omega arith)), simp (lt-leb (length text) (length out) (omega arith)))

  pub line_whole : {r : ℕ} {e : List ℕ} → s.length ≤ length out → e ≡ laid out 0 (take s.length s.text) → r ≡ coded 0 s.length → (r ≡ line_coded text out) × (e ≡ line_exit text out)
  unfolding line_coded line_exit
  line_whole h laid-is e =
      let k = line_length in
      let t = le-leb (length text) (length out) (omega arith) in
      (rw k at e ∙ simp t, (rw (line_is text fits s is) at laid-is) ∙ laid_start out text (omega arith) ∙ simp t)

-- What was read of the words of a series, and of a pair.
module _ (words : List ℕ) (at : ℕ) where
  pub series_is : {w date mark strike : ℕ} {code : List ℕ} {n : Nature} → w ≡ get_or words at 0 → code ≡ code_said w → date ≡ get_or words (at + 1) 0 → mark ≡ get_or words (at + 2) 0 → strike ≡ get_or words (at + 3) 0 → n ≡ nature_said mark strike → record { code = code; date = date; nature = n } ≡ series_said words at
  unfolding series_said
  series_is w code date mark strike n = rw (n, code, w, date, mark, strike)

  pub pair_is : {kind r1 r2 units : ℕ} {first second : Series} → kind ≡ get_or words (at + 9) 0 → first ≡ series_said words (at + 1) → second ≡ series_said words (at + 5) → r1 ≡ get_or words (at + 10) 0 → r2 ≡ get_or words (at + 11) 0 → units ≡ get_or words (at + 12) 0 → record { kind = kind; first = first; second = second; r1 = r1; r2 = r2; units = units } ≡ pair_said words at
  unfolding pair_said
  pair_is kind first second r1 r2 units = rw (kind, first, second, r1, r2, units)

-- The six calls.
module _ (b : Book) (words : List ℕ) (at : ℕ) {call : ℕ} (is : call ≡ get_or words (at + 0) 0) where
  pub make_said_lem : {o : Outcome} {account w identity day : ℕ} → call ≡ 0 → account ≡ get_or words (at + 9) 0 → w ≡ get_or words (at + 10) 0 → identity ≡ identity_said w → day ≡ get_or words (at + 11) 0 → o ≡ make_answer account identity day → o ≡ call_said b words at
  unfolding call_said
  make_said_lem h account w identity day o = rw (← is) (simp (eq-eqb _ _ h) (rw (identity, account, w, day) at o))

  pub open_said : {o : Outcome} {s : Series} {w lots : ℕ} {side : Side} → (call ≡ 0 → ⊥) → call ≡ 1 → s ≡ series_said words (at + 1) → w ≡ get_or words (at + 9) 0 → side ≡ side_said w → lots ≡ get_or words (at + 12) 0 → o ≡ open_answer b s side lots → o ≡ call_said b words at
  unfolding call_said
  open_said h0 h s w side lots o = rw (← is) (simp (ne_eqb _ _ h0, eq-eqb _ _ h) (rw (s, side, w, lots) at o))

  pub close_said : {o : Outcome} {s : Series} {w lots : ℕ} {side : Side} → (call ≡ 0 → ⊥) → (call ≡ 1 → ⊥) → call ≡ 2 → s ≡ series_said words (at + 1) → w ≡ get_or words (at + 9) 0 → side ≡ side_said w → lots ≡ get_or words (at + 12) 0 → o ≡ close_answer b s side lots → o ≡ call_said b words at
  unfolding call_said
  close_said h0 h1 h s w side lots o = rw (← is) (simp (ne_eqb _ _ h0, ne_eqb _ _ h1, eq-eqb _ _ h) (rw (s, side, w, lots) at o))

  pub pair_call : {o : Outcome} {p : Pair} → (call ≡ 0 → ⊥) → (call ≡ 1 → ⊥) → (call ≡ 2 → ⊥) → call ≡ 3 → p ≡ pair_said words at → o ≡ pair_answer b p → o ≡ call_said b words at
  unfolding call_said
  pair_call h0 h1 h2 h p o = rw (← is) (simp (ne_eqb _ _ h0, ne_eqb _ _ h1, ne_eqb _ _ h2, eq-eqb _ _ h) (rw p at o))

  pub split_said : {o : Outcome} {p : Pair} → (call ≡ 0 → ⊥) → (call ≡ 1 → ⊥) → (call ≡ 2 → ⊥) → (call ≡ 3 → ⊥) → call ≡ 4 → p ≡ pair_said words at → o ≡ split_answer b p → o ≡ call_said b words at
  unfolding call_said
  split_said h0 h1 h2 h3 h p o = rw (← is) (simp (ne_eqb _ _ h0, ne_eqb _ _ h1, ne_eqb _ _ h2, ne_eqb _ _ h3, eq-eqb _ _ h) (rw p at o))

  pub turn_said : {o : Outcome} {day : ℕ} → (call ≡ 0 → ⊥) → (call ≡ 1 → ⊥) → (call ≡ 2 → ⊥) → (call ≡ 3 → ⊥) → (call ≡ 4 → ⊥) → day ≡ get_or words (at + 11) 0 → o ≡ turn_answer b day → o ≡ call_said b words at
  unfolding call_said
  turn_said h0 h1 h2 h3 h4 day o = rw (← is) (simp (ne_eqb _ _ h0, ne_eqb _ _ h1, ne_eqb _ _ h2, ne_eqb _ _ h3, ne_eqb _ _ h4) (rw day at o))

-- A script has come to call i of so many: the book and the numbers after the rest are those after all.
pub record Running (words : List ℕ) (calls : ℕ) (start : Book) (before : List ℕ) (numbers : List ℕ) (b : Book) (i : ℕ) : Type 0 where
  pub low : i ≤ calls
  pub same : length numbers ≡ length before
  pub book : book_after (calls - i) words i b ≡ book_after calls words 0 start
  pub said : numbers_after (calls - i) words i b numbers ≡ numbers_after calls words 0 start before

pub run_starts : (words : List ℕ) (calls : ℕ) (b : Book) (numbers : List ℕ) → Running words calls b numbers numbers b 0
run_starts words calls b numbers = record { low = omega arith; same = refl; book = rw (sub-zero calls); said = rw (sub-zero calls) }

module _ {words : List ℕ} {calls : ℕ} {start : Book} {before numbers : List ℕ} {b : Book} {i : ℕ} (g : Running words calls start before numbers b i) where
  pub run_on : {o : Outcome} → i < calls → o ≡ call_said b words (13 * i) → Running words calls start before (set numbers i o.number) o.book (i + 1)
  unfolding book_after numbers_after
  run_on {o} h is =
      let n : calls - i ≡ suc (calls - (i + 1)) = omega arith in
      record {
        low = omega arith;
        same = length-set numbers i o.number ∙ g.same;
        book = rw is (rw n at g.book);
        said = rw is (rw n at g.said);
      }

  pub run_ends : calls ≤ i → (b ≡ book_after calls words 0 start) × (numbers ≡ numbers_after calls words 0 start before)
  unfolding book_after numbers_after
  run_ends h = let n : calls - i ≡ 0 = omega arith in (rw n at g.book, rw n at g.said)

-- A script that is fit has a cell for each call.
pub cells_enough : {number : ℕ} (words cells room : ℕ) → number ≡ script_number words cells room → number ≡ 0 → words / 13 ≤ cells
unfolding script_number
cells_enough words cells room is h = go (eqb (words % 13) 0) (both (leb (words / 13) cells) (leb 16384 room)) refl (sym is ∙ h)
  where
    go : (s t : Bool) → both (leb (words / 13) cells) (leb 16384 room) ≡ t → ◌≡◌ {A = ℕ} (pick s (pick t 0 15) 1) 0 → words / 13 ≤ cells
    go true true e z = leb-true (words / 13) cells (both_true (leb (words / 13) cells) (leb 16384 room) e).0
    go true false e z = absurd (omega arith)
    go false t e z = absurd (omega arith)

-- The three ways through a script: the book refused, the script unfit, the calls run and the book printed.
module _ (text words before out : List ℕ) (a : Answer) (read : a ≡ read_book text) where
  pub run_refused : {r : ℕ} → (a.number ≡ 0 → ⊥) → r ≡ coded a.number a.line → (r ≡ run_coded (read_book text) words before out) × ((before ≡ run_numbers (read_book text) words before out) × (out ≡ run_exit (read_book text) words before out))
  unfolding run_coded run_numbers run_exit by_run read_coded
  run_refused h is = rw (← read) (is ∙ simp (ne_eqb _ _ h), (simp (ne_eqb _ _ h), simp (ne_eqb _ _ h)))

  module _ {number : ℕ} (taken : a.number ≡ 0) (said : number ≡ script_number (length words) (length before) (length out)) where
    pub run_unfit : {r : ℕ} → (number ≡ 0 → ⊥) → r ≡ coded number 0 → (r ≡ run_coded (read_book text) words before out) × ((before ≡ run_numbers (read_book text) words before out) × (out ≡ run_exit (read_book text) words before out))
    unfolding run_coded run_numbers run_exit by_run
    run_unfit h is =
        let z = eq-eqb a.number 0 taken in
        let n = ap (λ (k : ℕ). eqb k 0) (sym said) ∙ ne_eqb number 0 h in
        rw (← read) ((rw said at is) ∙ simp (z, n), (simp (z, n), simp (z, n)))

    pub run_done : {r : ℕ} {b : Book} {p : Printed} {numbers e : List ℕ} → number ≡ 0 → (b ≡ book_after (length words / 13) words 0 a.book) × (numbers ≡ numbers_after (length words / 13) words 0 a.book before) → (p ≡ print_answer b out) × (e ≡ print_exit b out) → r ≡ coded p.number p.length → (r ≡ run_coded (read_book text) words before out) × ((numbers ≡ run_numbers (read_book text) words before out) × (e ≡ run_exit (read_book text) words before out))
    unfolding run_coded run_numbers run_exit by_run print_coded
    run_done h ran print is =
        let z = eq-eqb a.number 0 taken in
        let n = ap (λ (k : ℕ). eqb k 0) (sym said) ∙ eq-eqb number 0 h in
        rw (← read) ((rw (print.0, ran.0) at is) ∙ simp (z, n), (ran.1 ∙ simp (z, n), (rw ran.0 at print.1) ∙ simp (z, n)))
