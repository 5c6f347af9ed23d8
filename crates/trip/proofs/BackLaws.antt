-- Laws of reading: every text is read as a sound book whose text it is, or refused.
use Rattle.std.specs.Prelude.{◌≡◌, refl, Bool, true, false, List, [], ◌∷◌, ◌++◌, ℕ, suc, ◌<◌, leb, eqb, length}
use Rattle.std.proofs.Common.{ap, sym, ◌∙◌, subst, inl, inr, append_assoc, append-nil, arith, eqb-true, ne_eqb}
use Rattle.std.proofs.Math.Dec.{eqb-suc-zero}
use Rattle.std.proofs.lemmas.Bool.{eqb-false}
use Rattle.laws.specs.Truth.{pick}
use Rattle.laws.specs.TruthLaws.{both_true, clash, picked}
use Rattle.laws.specs.Checks.{first_failing, all_pass}
use Rattle.laws.specs.CheckLaws.{some_fails}
use Rattle.dates.specs.Calendar.{is_day}
use Rattle.rows.specs.declared.Book.{Book}
use Rattle.rows.specs.Book.{no_book}
use Rattle.rules.specs.Rules.{is_identity}
use Rattle.rules.specs.Facts.{Sound}
use Rattle.rules.specs.RuleLaws.{holding_is, pair_is, holdings_count, pairs_count}
use Rattle.calls.specs.CallLaws.{no_book_sound}
use Rattle.lines.specs.Pieces.{lf, Pieces, one, more, split_on}
use Rattle.lines.specs.PieceLaws.{join_on, join_split}
use Rattle.printed.specs.Printed.{text_of}
use Rattle.book_lines.specs.Lines.{Line, head, holding, pair, formless, book_line, checks_by}
use Rattle.book_lines.specs.FormLaws.{line_account}
use Rattle.reading.specs.Reading.{line_checks, with_line, refused_at, read_as, read_lines, read_book}
use Rattle.reading.specs.PassLaws.{line_numbered, head_passes, holding_passes, pair_passes}
use Rattle.reading.specs.KeepLaws.{line_keeps}
use Rattle.trip.specs.Facts.{Ends}
use Rattle.trip.proofs.LineLaws.{head_back, holding_back, pair_back}
use Rattle.trip.specs.TextLaws.{head_text_lem, holding_text_lem, pair_text_lem}

ends_read : (t : List ℕ) (b : Book) → Sound b → text_of b ≡ t → Ends t (read_as b)
unfolding read_as
ends_read t b s e = inl (record { is = refl; sound = s; text = e })

ends_refused : (t : List ℕ) (number line : ℕ) → 0 < number → Ends t (refused_at number line)
unfolding refused_at
ends_refused t number line h = inr (record { is = refl; some = h })

no_bytes : (p : List ℕ) → length p ≡ 0 → p ≡ []
no_bytes [] h = refl
no_bytes (b ∷ p) h = absurd (omega arith)

line_behind_lem : (x y p r : List ℕ) → x ≡ y ++ (p ++ (lf ∷ [])) → x ++ r ≡ y ++ (p ++ (lf ∷ r))
line_behind_lem x y p r e = rw e (simp append_assoc)

-- A line that passes its checks is one that is printed: the text of the book with it is the longer by the line. Before the first line
-- there is no text.
line_text_lem : {b : Book} → Sound b → (first : Bool) (line : List ℕ) (x : Line) → book_line line ≡ x → all_pass (line_checks first b x) ≡ true → text_of (with_line b x) ≡ pick first [] (text_of b) ++ (line ++ (lf ∷ []))
unfolding line_checks checks_by all_pass
line_text_lem {b} s true line (head account identity day) q e =
    head_text_lem b account identity day ∙ sym (head_back line account identity day q (head_passes b account identity day true e).0)
line_text_lem {b} s false line (head account identity day) q e =
    let d = both_true (is_day day) _ e in
    absurd (clash (both_true (is_identity identity) _ d.1).1 refl)
line_text_lem {b} s true line (holding h) q e = absurd (clash e refl)
line_text_lem {b} s false line (holding h) q e =
    let n = holding_passes b h (holdings_count s) false e in
    holding_text_lem b h n.no_pairs ∙ ap (λ (l : List ℕ). text_of b ++ l) (sym (holding_back line h q (holding_is h n.row.is_good).series_good))
line_text_lem {b} s true line (pair p) q e = absurd (clash e refl)
line_text_lem {b} s false line (pair p) q e =
    let g = pair_is p (pair_passes b p (pairs_count s) false e).row.is_good in
    pair_text_lem b p ∙ ap (λ (l : List ℕ). text_of b ++ l) (sym (pair_back line p q g.first_good g.second_good))
line_text_lem {b} s first line formless q e = absurd (clash e refl)

-- Line by line: the text that was read so far, and what is left, which is not nothing where nothing was read.
lines_end : (ps : Pieces) (n : ℕ) (b : Book) → Sound b → (n ≡ 0 → length (join_on lf ps) ≡ 0 → ⊥) → Ends (pick (eqb n 0) [] (text_of b) ++ join_on lf ps) (read_lines n b ps)
unfolding read_lines join_on
lines_end (one p) n b s some =
    let t = pick (eqb n 0) [] (text_of b) ++ p in
    picked (Ends t) (eqb (length p) 0) (read_as b) (refused_at 1 (suc n))
    (λ q.
    let z = eqb-true (length p) 0 q in
    ends_read t b s (rw (ne_eqb n 0 (λ (m : n ≡ 0). some m z), no_bytes p z) (sym (append-nil (text_of b)))))
    (λ q. ends_refused t 1 (suc n) (omega arith))
lines_end (more p ps) n b s some =
    let x = book_line p in
    let cs = line_checks (eqb n 0) b x in
    let done = pick (eqb n 0) [] (text_of b) in
    let t = done ++ (p ++ (lf ∷ join_on lf ps)) in
    let c = with_line b x in
    let rest = read_lines (suc n) c ps in
    picked (Ends t) (all_pass cs) rest (refused_at (first_failing cs) (suc n))
    (λ q.
    let longer = line_behind_lem (text_of c) done p (join_on lf ps) (line_text_lem s (eqb n 0) p x refl q) in
    subst (λ (l : List ℕ). Ends l rest) (ap (λ (first : Bool). pick first [] (text_of c) ++ join_on lf ps) (eqb-suc-zero n) ∙ longer)
    (lines_end ps (suc n) c (line_keeps s (eqb n 0) x (line_account p) q) (λ (z : suc n ≡ 0). absurd (omega arith))))
    (λ q. ends_refused t (first_failing cs) (suc n) (some_fails cs (line_numbered (eqb n 0) b x) q))

-- The whole text.
pub text_ends : (t : List ℕ) → Ends t (read_book t)
unfolding read_book
text_ends t =
    let rest = read_lines 0 no_book (split_on lf t) in
    let j = join_split lf t in
    picked (Ends t) (leb (length t) 16384) (pick (eqb (length t) 0) (refused_at 1 0) rest) (refused_at 2 0)
    (λ q.
    picked (Ends t) (eqb (length t) 0) (refused_at 1 0) rest
    (λ r. ends_refused t 1 0 (omega arith))
    (λ r. subst (λ (l : List ℕ). Ends l rest) j (lines_end (split_on lf t) 0 no_book no_book_sound (λ z k. eqb-false (length t) 0 r (ap length (sym j) ∙ k)))))
    (λ q. ends_refused t 2 0 (omega arith))
