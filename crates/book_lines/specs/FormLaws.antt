-- Laws of what a line says, by its letter and its form.
use Rattle.std.specs.Prelude.{◌≡◌, ℕ, ◌≤◌}
use Rattle.std.proofs.Math.Path.{refl, ap}
use Rattle.std.proofs.Common.{◌∙◌, arith}
use mathlib.Core.List.{List, [], ◌∷◌, ◌++◌}
use Rattle.laws.specs.Truth.{pick, both}
use Rattle.laws.specs.TruthLaws.{both_true, picked}
use Rattle.laws.specs.Text.{bytes}
use Rattle.laws.specs.Bytes.{same_bytes}
use Rattle.laws.specs.ByteLaws.{are_same}
use Rattle.lines.specs.declared.Asked.{Asked}
use Rattle.lines.specs.Pieces.{fields_of}
use Rattle.lines.specs.Fields.{has_form, cells_of}
use Rattle.lines.specs.Texts.{tabbed}
use Rattle.lines.specs.PieceLaws.{fields_back}
use Rattle.lines.specs.FieldLaws.{Formed, none, next, formed, account_back}
use Rattle.book_lines.specs.Lines.{head_form, holding_form, pair_form, Line, holding, pair, formless, head_from, holding_from, pair_from, line_in, line_from, book_line}
use Rattle.book_lines.specs.Facts.{account_of}

-- What holds of what the fields of each form say, and of a line that has none, holds of what any line says.
form_has : (P : Line → Type 0) (letter b : List ℕ) (ks : List Asked) (fs : List (List ℕ)) {x y : Line} → (letter ≡ b → Formed ks fs → P x) → P y → P (pick (both (same_bytes letter b) (has_form ks fs)) x y)
form_has P letter b ks fs {x} {y} h other =
    picked P (both (same_bytes letter b) (has_form ks fs)) x y
    (λ e. let k = both_true (same_bytes letter b) _ e in h (are_same letter b k.0) (formed ks fs k.1))
    (λ e. other)

module _ (P : Line → Type 0) (line : List ℕ)
    (head-has : (fs : List (List ℕ)) → line ≡ bytes "A" ++ tabbed fs → Formed head_form fs → P (head_from (cells_of head_form fs)))
    (holding-has : (fs : List (List ℕ)) → line ≡ bytes "H" ++ tabbed fs → Formed holding_form fs → P (holding (holding_from (cells_of holding_form fs))))
    (pair-has : (fs : List (List ℕ)) → line ≡ bytes "M" ++ tabbed fs → Formed pair_form fs → P (pair (pair_from (cells_of pair_form fs))))
    (formless-has : P formless) where
  fields_have : (letter : List ℕ) (fs : List (List ℕ)) → line ≡ letter ++ tabbed fs → P (line_in letter fs)
  unfolding line_in
  fields_have letter fs is =
      form_has P letter (bytes "A") head_form fs (λ q. head-has fs (begins q))
      (form_has P letter (bytes "H") holding_form fs (λ q. holding-has fs (begins q))
      (form_has P letter (bytes "M") pair_form fs (λ q. pair-has fs (begins q)) formless-has))
    where
      begins : {b : List ℕ} → letter ≡ b → line ≡ b ++ tabbed fs
      begins q = is ∙ ap (λ (l : List ℕ). l ++ tabbed fs) q

  pub line_has : P (book_line line)
  unfolding book_line line_from
  line_has = go (fields_of line) refl
    where
      go : (fs : List (List ℕ)) → fields_of line ≡ fs → P (line_from fs)
      go [] e = formless-has
      go (letter ∷ fs) e = fields_have letter fs (fields_back line letter fs e)

-- The account that a line says has seven digits.
head_account : {fs : List (List ℕ)} → Formed head_form fs → account_of (head_from (cells_of head_form fs)) ≤ 9999999
unfolding head_form head_from cells_of
head_account (next {f = a} ra (next {f = b} rb (next {f = c} rc none))) = let h = account_back a ra in omega arith

pub line_account : (line : List ℕ) → account_of (book_line line) ≤ 9999999
line_account line = line_has (λ (x : Line). account_of x ≤ 9999999) line (λ fs is f. head_account f) (λ fs is f. omega arith) (λ fs is f. omega arith) (omega arith)
