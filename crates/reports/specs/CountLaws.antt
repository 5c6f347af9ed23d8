-- Laws of counting lines by the byte that they begin with: the loop that counts them, and that the lines of a sheet that stands begin with
-- the letters of their groups.
use Rattle.std.specs.Prelude.{◌≡◌, true, List, [], ◌∷◌, ◌++◌, map, length, take, drop}
use Rattle.std.proofs.Math.Path.{refl, sym}
use Rattle.std.proofs.Common.{ap, ◌∙◌, eq-eqb, ne_eqb, length-append, drop-cons}
use Prim.Native.Nat.{ℕ, zero, suc, ◌+◌, ◌-◌, ◌<◌, ◌≤◌}
use native.Mathlib.Omega.{arith}
use Rattle.std.proofs.Math.ListN.{get_or}
use Rattle.laws.specs.TruthLaws.{clash, both_true, picked}
use Rattle.laws.specs.Text.{byte, bytes}
use Rattle.laws.specs.Bytes.{same_bytes}
use Rattle.laws.specs.ByteLaws.{are_same}
use Rattle.laws.specs.Checks.{all_pass}
use Rattle.laws.specs.Search.{every_line, gathered}
use Rattle.lines.specs.Pieces.{lf, Pieces, one, more, split_on, fields_of, next_of}
use Rattle.lines.specs.Texts.{tabbed}
use Rattle.lines.specs.CutLaws.{next_low, part_more, part_last}
use Rattle.lines.specs.StopLaws.{next_byte}
use Rattle.lines.specs.PieceLaws.{fields_back}
use Rattle.lines.specs.Fields.{has_form, cells_of}
use Rattle.sheet_lines.specs.Lines.{Line, formless, letter_in, form_of, said, line_by, line_from, sheet_line, own_checks}
use Rattle.checking.specs.Reading.{future_row, option_row, stock_row, price_row, rows_of, Judged, judged_as, judged}
use Rattle.checking.specs.Next.{lines_in}
use Rattle.checking.specs.SheetLaws.{judged_good, judged_accepted, judged_lines}
use Rattle.reports.specs.Counts.{first_byte, one_if, lines_with}

-- The loop has come to the line that begins at `at`.
pub record Counting (t : List ℕ) (letter at count : ℕ) : Type 0 where
  pub low : at ≤ length t
  pub few : count ≤ at
  pub goes : count + lines_with letter (split_on lf (drop at t)) ≡ lines_with letter (split_on lf t)

pub counting_starts : (t : List ℕ) (letter : ℕ) → Counting t letter 0 0
counting_starts t letter = record { low = omega arith; few = omega arith; goes = omega arith }

module _ {t : List ℕ} {letter at count : ℕ} (g : Counting t letter at count) {end : ℕ} (is : end ≡ next_of t at lf) where
  -- The byte that stands where the line begins is the one that it begins with.
  begins_at : end < length t → first_byte (take (end - at) (drop at t)) ≡ get_or t at 0
  unfolding first_byte
  begins_at lt = go (end - at) refl
    where
      go : (n : ℕ) → n ≡ end - at → get_or (take n (drop at t)) 0 lf ≡ get_or t at 0
      go zero e =
          let low = next_low t at lf in
          let same : end ≡ at = omega arith in
          sym (rw (← is, same) at (next_byte t at lf (omega arith)))
      go (suc n) e = rw (drop-cons t at 0 (omega arith))

  step : end < length t → count + (one_if (get_or t at 0) letter + lines_with letter (split_on lf (drop (end + 1) t))) ≡ lines_with letter (split_on lf t)
  unfolding lines_with
  step lt = rw (← begins_at lt) (rw (part_more t at lf is g.low lt) at g.goes)

  pub counts_one : end < length t → get_or t at 0 ≡ letter → Counting t letter (end + 1) (count + 1)
  counts_one lt e =
      let low = next_low t at lf in
      let k = rw (eq-eqb _ _ e) at (step lt) in
      record { low = omega arith; few = omega (arith, g.few); goes = omega arith }

  pub counts_none : end < length t → (get_or t at 0 ≡ letter → ⊥) → Counting t letter (end + 1) count
  counts_none lt n =
      let low = next_low t at lf in
      let k = rw (ne_eqb _ _ n) at (step lt) in
      record { low = omega arith; few = omega (arith, g.few); goes = omega arith }

  pub counts_all : length t ≤ end → count ≡ lines_with letter (split_on lf t)
  unfolding lines_with
  counts_all le = let k = rw (part_last t at lf is g.low le) at g.goes in omega arith

-- A line that passes its own checks.
abbrev Passes : Line → Type 0
Passes x = all_pass (own_checks x) ≡ true

-- What a line gives the groups F, O, S and Q: one row to that of the byte that it begins with.
Begins : ℕ → Line → Type 0
Begins first x = length (future_row x) ∷ length (option_row x) ∷ length (stock_row x) ∷ length (price_row x) ∷ [] ≡ map (one_if first) (bytes "FOSQ")

-- A line that passes has the form of its letter, which it begins with.
module _ (fs : List (List ℕ)) where
  formed : (letter : ℕ) → Begins letter (said letter (cells_of (form_of letter) fs)) → Passes (line_by letter fs) → Begins letter (line_by letter fs)
  unfolding line_by own_checks all_pass
  formed letter b =
      picked (λ (x : Line). Passes x → Begins letter x) (has_form (form_of letter) fs) (said letter (cells_of (form_of letter) fs)) formless
      (λ _ p. b)
      (λ _ p. absurd (clash p refl))

  unlettered : Passes (line_by 0 fs) → ⊥
  unfolding line_by said own_checks all_pass
  unlettered = picked (λ (x : Line). Passes x → ⊥) (has_form (form_of 0) fs) formless formless (λ _ p. clash p refl) (λ _ p. clash p refl)

  fields_begin : (f : List ℕ) → Passes (line_by (letter_in f) fs) → Begins (first_byte (f ++ tabbed fs)) (line_by (letter_in f) fs)
  unfolding first_byte letter_in said Begins future_row option_row stock_row price_row
  fields_begin f =
      picked P (same_bytes f (bytes "D")) _ _ (λ e. rw (are_same f _ e) (formed (byte "D") refl)) (λ _.
      picked P (same_bytes f (bytes "F")) _ _ (λ e. rw (are_same f _ e) (formed (byte "F") refl)) (λ _.
      picked P (same_bytes f (bytes "O")) _ _ (λ e. rw (are_same f _ e) (formed (byte "O") refl)) (λ _.
      picked P (same_bytes f (bytes "S")) _ _ (λ e. rw (are_same f _ e) (formed (byte "S") refl)) (λ _.
      picked P (same_bytes f (bytes "Q")) _ _ (λ e. rw (are_same f _ e) (formed (byte "Q") refl)) (λ _ p.
      absurd (unlettered p))))))
    where
      P : ℕ → Type 0
      P letter = Passes (line_by letter fs) → Begins (first_byte (f ++ tabbed fs)) (line_by letter fs)

line_begins : (line : List ℕ) → Passes (sheet_line line) → Begins (first_byte line) (sheet_line line)
unfolding sheet_line line_from own_checks all_pass
line_begins line = go (fields_of line) refl
  where
    go : (fs : List (List ℕ)) → fields_of line ≡ fs → Passes (line_from fs) → Begins (first_byte line) (line_from fs)
    go [] e p = absurd (clash p refl)
    go (f ∷ fs) e p = rw (fields_back line f fs e) (fields_begin fs f p)

-- In a text that is accepted the rows of a group are as many as the lines that begin with its letter.
all_lines : (t : List ℕ) → (judged t).number ≡ 0 → (judged t).lines ≡ lines_in (split_on lf t)
unfolding judged_as
all_lines t e = ap (λ (j : Judged). j.lines) (judged_lines t (sym (judged_accepted t) ∙ eq-eqb _ _ e))

module _ {A : Type 0} (letter : ℕ) (row : Line → List A) (each : (first : ℕ) (x : Line) → Begins first x → length (row x) ≡ one_if first letter) where
  rows_begin : (ps : Pieces) → every_line (λ (x : Line). all_pass (own_checks x)) (lines_in ps) ≡ true → lines_with letter ps ≡ length (gathered row (lines_in ps))
  unfolding every_line gathered lines_in lines_with
  rows_begin (one rest) e = refl
  rows_begin (more line ls) e =
      let p = both_true (all_pass (own_checks (sheet_line line))) _ e in
      rw (← each _ _ (line_begins line p.0), rows_begin ls p.1) (sym (length-append (row (sheet_line line)) _))

  group_counted : (t : List ℕ) → (judged t).number ≡ 0 → lines_with letter (split_on lf t) ≡ length (gathered row (judged t).lines)
  group_counted t e = let own = (judged_good t).own in rw (all_lines t e) (rows_begin (split_on lf t) (rw (all_lines t e) at own))

module _ (t : List ℕ) (e : (judged t).number ≡ 0) where
  pub futures_counted : lines_with (byte "F") (split_on lf t) ≡ length (rows_of (judged t).lines).futures
  unfolding rows_of Begins
  futures_counted = group_counted (byte "F") future_row (λ first x b. cc) t e

  pub options_counted : lines_with (byte "O") (split_on lf t) ≡ length (rows_of (judged t).lines).options
  unfolding rows_of Begins
  options_counted = group_counted (byte "O") option_row (λ first x b. cc) t e

  pub stocks_counted : lines_with (byte "S") (split_on lf t) ≡ length (rows_of (judged t).lines).stocks
  unfolding rows_of Begins
  stocks_counted = group_counted (byte "S") stock_row (λ first x b. cc) t e

  pub prices_counted : lines_with (byte "Q") (split_on lf t) ≡ length (rows_of (judged t).lines).prices
  unfolding rows_of Begins
  prices_counted = group_counted (byte "Q") price_row (λ first x b. cc) t e
