-- Laws of the printer: the rows' loops, and that the text of a sound book fits the buffer.
use Rattle.std.specs.Prelude.{◌≡◌, Bool, List, [], ◌∷◌, ◌++◌, ℕ, ◌*◌, ◌≤◌, ◌<◌, eqb, length, get_or, take, drop, Result, Ok, Err}
use Rattle.std.specs.Result.{result_unwrap_or}
use Rattle.std.proofs.Common.{sym, ◌∙◌, ap, append_assoc, append-nil, suc-mul, arith, length-append, length-take, take_at}
use Rattle.std.proofs.Math.Bool.{true, false}
use borrow.Author.Tests.{le-leb, lt-leb}
use Rattle.std.proofs.Math.Dec.{leb}
use Rattle.laws.specs.declared.Refusal.{Refusal}
use Rattle.laws.specs.Refusals.{number_of}
use Rattle.laws.specs.RefusalLaws.{refusal_positive, one_refusal}
use Rattle.laws.specs.TruthLaws.{both_true, picked}
use Rattle.laws.specs.Text.{byte}
use Rattle.laws.specs.Search.{every_line}
use Rattle.laws.specs.Checks.{first_failing, all_pass}
use Rattle.codes.specs.CodeLaws.{ThreeBytes}
use Rattle.series.specs.declared.Series.{Series}
use Rattle.series.specs.Natures.{letter_of, strike_of}
use Rattle.series.specs.Checks.{good_series}
use Rattle.series.specs.KeyLaws.{good_fits}
use Rattle.pairing.specs.PairLaws.{stands_kind}
use Rattle.rows.specs.declared.Holding.{Holding}
use Rattle.rows.specs.declared.Pair.{Pair}
use Rattle.rows.specs.declared.Book.{Book}
use Rattle.rows.specs.Book.{holdings_of, pairs_of}
use Rattle.rules.specs.Rules.{good_holding, good_pair, sound_book}
use Rattle.rules.specs.RuleLaws.{holding_is, pair_is, counts_are, sound_is, holdings_good, pairs_good, holdings_count, pairs_count}
use Rattle.digits.specs.Digits.{fixed, numerals}
use Rattle.digits.specs.FigureLaws.{numerals_few}
use Rattle.put.specs.Put.{end_of}
use Rattle.put.specs.PutLaws.{Put, put_then, laid_start, length_laid}
use Rattle.put.specs.LineLaws.{field_fits, last_fits, fields_fit, line_fits, fixed_few}
use Rattle.lines.specs.Texts.{tabbed, letters_of, series_fields}
use Rattle.printed.specs.Printed.{head_text, holding_text, pair_text, texts_of, text_of, print_checks, Printed, printed_in, print_answer, print_exit}

-- The text of a row more.
pub texts_last : {A : Type 0} (text : A → List ℕ) (l : List A) (x : A) → texts_of text (l ++ (x ∷ [])) ≡ texts_of text l ++ text x
unfolding texts_of
texts_last text [] x = append-nil (text x)
texts_last text (y ∷ l) x = rw (texts_last text l x) (sym (append_assoc (text y) (texts_of text l) (text x)))

-- The text of a book is its head, its holdings and its pairs.
pub book_laid : {d e f g : List ℕ} {at r u w : ℕ} (b : Book) → Put d at (head_text b.account b.identity b.day) e r → Put e r (texts_of holding_text (take b.held b.holdings)) f u → Put f u (texts_of pair_text (take b.paired b.pairs)) g w → Put d at (text_of b) g w
unfolding text_of holdings_of pairs_of
book_laid b h k l = put_then h (put_then k l)

-- How long rows can be.

letters_few : (code : List ℕ) → ThreeBytes code → length (letters_of code) ≤ 3
unfolding letters_of
letters_few code t =
    picked (λ (l : List ℕ). length l ≤ 3) (eqb (get_or code 2 0) 0) (take 2 code) code
    (λ _. rw (length-take 2 code) (omega arith))
    (λ _. omega (arith, t.three))

series_fits : (s : Series) → good_series s ≡ true → length (tabbed (series_fields s)) ≤ 26
unfolding series_fields
series_fits s e =
    let f = good_fits s e in
    field_fits (letters_of s.code) _ (letters_few s.code f.code)
    (field_fits (fixed 8 s.date) _ (fixed_few 8 s.date)
    (field_fits {m = 1} (letter_of s.nature ∷ []) _ (omega arith)
    (last_fits (numerals (strike_of s.nature)) (numerals_few 10 (strike_of s.nature) (omega arith) (omega (arith, f.strike))))))

pub head_fits : (account identity day : ℕ) → length (head_text account identity day) ≤ 21
unfolding head_text
head_fits account identity day =
    line_fits (byte "A") _
    (field_fits (fixed 7 account) _ (fixed_few 7 account)
    (field_fits {m = 1} (identity ∷ []) _ (omega arith)
    (last_fits (fixed 8 day) (fixed_few 8 day))))

pub holding_fits : (h : Holding) → good_holding h ≡ true → length (holding_text h) ≤ 42
unfolding holding_text
holding_fits h e =
    let g = holding_is h e in
    line_fits (byte "H") _
    (fields_fit (series_fields h.series) _ (series_fits h.series g.series_good)
    (field_fits (numerals h.long) _ (numerals_few 6 h.long (omega arith) (omega (arith, g.long_fits)))
    (last_fits (numerals h.short) (numerals_few 6 h.short (omega arith) (omega (arith, g.short_fits))))))

pub pair_fits : (p : Pair) → good_pair p ≡ true → length (pair_text p) ≤ 71
unfolding pair_text
pair_fits p e =
    let g = pair_is p e in
    let c = counts_are p.r1 p.r2 p.units g.counts in
    let k = stands_kind p.kind p.first p.second p.r1 p.r2 g.standing in
    line_fits (byte "M") _
    (field_fits (numerals p.kind) _ (numerals_few 1 p.kind (omega arith) (omega (arith, k.1)))
    (fields_fit (series_fields p.first) _ (series_fits p.first g.first_good)
    (fields_fit (series_fields p.second) _ (series_fits p.second g.second_good)
    (field_fits (numerals p.r1) _ (numerals_few 3 p.r1 (omega arith) (omega (arith, c.few1)))
    (field_fits (numerals p.r2) _ (numerals_few 3 p.r2 (omega arith) (omega (arith, c.few2)))
    (last_fits (numerals p.units) (numerals_few 6 p.units (omega arith) (omega (arith, c.few_units)))))))))

texts_fit : {A : Type 0} (text : A → List ℕ) (good : A → Bool) (most : ℕ) → ((x : A) → good x ≡ true → length (text x) ≤ most) → (l : List A) → every_line good l ≡ true → length (texts_of text l) ≤ length l * most
unfolding texts_of every_line
texts_fit text good most h [] e = omega arith
texts_fit text good most h (x ∷ l) e =
    let k = both_true (good x) (every_line good l) e in
    rw (length-append (text x) (texts_of text l), suc-mul (length l) most) (omega (arith, h x k.0, texts_fit text good most h l k.1))

-- "At most 16,384 bytes": no sound book has a longer text.
pub text_fits : (b : Book) → sound_book b ≡ true → length (text_of b) ≤ 16384
unfolding text_of
text_fits b e =
    let s = sound_is b e in
    let hs = texts_fit holding_text good_holding 42 holding_fits (holdings_of b) (holdings_good s) in
    let ps = texts_fit pair_text good_pair 71 pair_fits (pairs_of b) (pairs_good s) in
    let head = head_fits b.account b.identity b.day in
    rw (length-append (head_text b.account b.identity b.day) (texts_of holding_text (holdings_of b) ++ texts_of pair_text (pairs_of b)), length-append (texts_of holding_text (holdings_of b)) (texts_of pair_text (pairs_of b)))
    (omega (arith, holdings_count s, pairs_count s, s.holdings_sound_lem.few, s.pairs_sound_lem.few))

-- The text of a sound book was laid over a buffer of 16,384 bytes: it is whole, and what stands before its end is the text.
pub record Composed (b : Book) (e : List ℕ) (n : ℕ) : Type 0 where
  pub sound : sound_book b ≡ true
  pub ends : n ≡ length (text_of b)
  pub fits : n ≤ length e
  pub stands : take n e ≡ text_of b

pub composed : {d e : List ℕ} {n : ℕ} {b : Book} → sound_book b ≡ true → length d ≡ 16384 → Put d 0 (text_of b) e n → Composed b e n
unfolding end_of
composed {d} {e} {n} {b} s room p =
    let h : length (text_of b) ≤ length d = omega (arith, text_fits b s) in
    let is : n ≡ length (text_of b) = omega (arith, p.ends) in
    record {
      sound = s;
      ends = is;
      fits = omega (arith, ap length p.holds, length_laid d 0 (text_of b));
      stands = rw (p.holds, laid_start d (text_of b) h) (take_at (text_of b) (drop (length (text_of b)) d) n (sym is));
    }

-- The answers.
pub unsound_answer : (b : Book) (out : List ℕ) → sound_book b ≡ false → (record { number = 16; length = 0 } ≡ print_answer b out) × (out ≡ print_exit b out)
unfolding print_answer print_exit print_checks first_failing all_pass
unsound_answer b out e = (simp e, simp e)

module _ {b : Book} {d : List ℕ} {n : ℕ} (c : Composed b d n) (out : List ℕ) where
  pub short_answer : length out < n → (record { number = 15; length = 0 } ≡ print_answer b out) × (out ≡ print_exit b out)
  unfolding print_answer print_exit print_checks first_failing all_pass
  short_answer h =
      let t : leb (length (text_of b)) (length out) ≡ false = lt-leb (length (text_of b)) (length out) (omega (arith, c.ends)) in
      (simp (c.sound, t), simp (c.sound, t))

  pub whole_answer : {e : List ℕ} {r : ℕ} → n ≤ length out → Put out 0 (take n d) e r → (record { number = 0; length = n } ≡ print_answer b out) × (e ≡ print_exit b out)
  unfolding print_answer print_exit print_checks first_failing all_pass
  whole_answer h p =
      let t : leb (length (text_of b)) (length out) ≡ true = le-leb (length (text_of b)) (length out) (omega (arith, c.ends)) in
      (simp (c.sound, t, c.ends), simp (c.sound, t) (p.holds ∙ rw c.stands (laid_start out (text_of b) (omega (arith, c.ends)))))

-- A buffer that holds any book's text.
pub straight_answer : {out e : List ℕ} {n : ℕ} (b : Book) → sound_book b ≡ true → 16384 ≤ length out → Put out 0 (text_of b) e n → (record { number = 0; length = n } ≡ print_answer b out) × (e ≡ print_exit b out)
unfolding print_answer print_exit print_checks first_failing all_pass end_of
straight_answer {out} {e} {n} b s room p =
    let h : length (text_of b) ≤ length out = omega (arith, text_fits b s) in
    let is : n ≡ length (text_of b) = omega (arith, p.ends) in
    let t : leb (length (text_of b)) (length out) ≡ true = le-leb (length (text_of b)) (length out) h in
    (simp (s, t, is), simp (s, t) (p.holds ∙ laid_start out (text_of b) h))

-- A sound book has at most as many rows as there is room for.
pub held_few : (b : Book) → sound_book b ≡ true → b.held ≤ 128
held_few b h = (sound_is b h).holdings_sound_lem.few

pub paired_few : (b : Book) → sound_book b ≡ true → b.paired ≤ 128
paired_few b h = (sound_is b h).pairs_sound_lem.few

-- The length of an answer, or 0.
pub printed_length : (x : Result ℕ Refusal) {n : ℕ} → n ≡ result_unwrap_or x 0 → n ≡ (printed_in x).length
printed_length (Ok m) e = e
printed_length (Err r) e = e

-- Answers that stand for the same are the same.
pub one_printed : (x y : Result ℕ Refusal) → printed_in x ≡ printed_in y → x ≡ y
one_printed (Ok m) (Ok n) e = ap (λ (p : Printed). Ok p.length) e
one_printed (Ok m) (Err s) e = let n : 0 ≡ number_of s = ap (λ (p : Printed). p.number) e in absurd (omega (arith, refusal_positive s))
one_printed (Err r) (Ok n) e = let n : number_of r ≡ 0 = ap (λ (p : Printed). p.number) e in absurd (omega (arith, refusal_positive r))
one_printed (Err r) (Err s) e = ap (λ (q : Refusal). Err q) (one_refusal r s (ap (λ (p : Printed). p.number) e))
