-- What a line says, where it passes its checks, is printed as this line.
use Rattle.std.specs.Prelude.{◌≡◌, true, List, [], ◌∷◌, ◌++◌, ℕ}
use Rattle.std.proofs.Common.{subst}
use Rattle.series.specs.Checks.{good_series}
use Rattle.rows.specs.declared.Holding.{Holding}
use Rattle.rows.specs.declared.Pair.{Pair}
use Rattle.rules.specs.Rules.{is_identity}
use Rattle.lines.specs.Pieces.{lf}
use Rattle.printed.specs.Printed.{head_text, holding_text, pair_text}
use Rattle.book_lines.specs.Lines.{head, holding, pair, book_line}
use Rattle.book_lines.specs.FormLaws.{line_has}
use Rattle.trip.specs.LineLaws.{Back, head_printed, holding_printed, pair_printed}

line_back : (line : List ℕ) → Back line (book_line line)
unfolding Back
line_back line = line_has (Back line) line (head_printed line) (holding_printed line) (pair_printed line) tt

pub head_back : (line : List ℕ) (account identity day : ℕ) → book_line line ≡ head account identity day → is_identity identity ≡ true → line ++ (lf ∷ []) ≡ head_text account identity day
unfolding Back
head_back line account identity day e = subst (Back line) e (line_back line)

pub holding_back : (line : List ℕ) (h : Holding) → book_line line ≡ holding h → good_series h.series ≡ true → line ++ (lf ∷ []) ≡ holding_text h
unfolding Back
holding_back line h e = subst (Back line) e (line_back line)

pub pair_back : (line : List ℕ) (p : Pair) → book_line line ≡ pair p → good_series p.first ≡ true → good_series p.second ≡ true → line ++ (lf ∷ []) ≡ pair_text p
unfolding Back
pair_back line p e = subst (Back line) e (line_back line)
