-- Document 01, "Text": the text of a book; "Numbers a call may answer": what print answers, and what it leaves in the buffer.
use Rattle.std.specs.Prelude.{List, [], ◌∷◌, ◌++◌, ℕ, leb, length, drop, Result, Ok, Err}
use Rattle.laws.specs.declared.Refusal.{Refusal}
use Rattle.laws.specs.Refusals.{number_of}
use Rattle.laws.specs.Truth.{pick}
use Rattle.laws.specs.Text.{byte}
use Rattle.laws.specs.Checks.{Check, ◌unless◌, first_failing, all_pass}
use Rattle.digits.specs.Digits.{fixed, numerals}
use Rattle.lines.specs.Texts.{line_text, series_fields}
use Rattle.rows.specs.declared.Holding.{Holding}
use Rattle.rows.specs.declared.Pair.{Pair}
use Rattle.rows.specs.declared.Book.{Book}
use Rattle.rows.specs.Book.{holdings_of, pairs_of}
use Rattle.rules.specs.Rules.{sound_book}

-- `A account identity day`
unfoldable pub head_text : ℕ → ℕ → ℕ → List ℕ
head_text account identity day = line_text (byte "A") (fixed 7 account ∷ (identity ∷ []) ∷ fixed 8 day ∷ [])

-- `H SERIES long short`
unfoldable pub holding_text : Holding → List ℕ
holding_text h = line_text (byte "H") (series_fields h.series ++ (numerals h.long ∷ numerals h.short ∷ []))

-- `M kind SERIES SERIES r1 r2 units`
unfoldable pub pair_text : Pair → List ℕ
pair_text p =
    line_text (byte "M")
    (numerals p.kind ∷ (series_fields p.first ++ (series_fields p.second ++ (numerals p.r1 ∷ numerals p.r2 ∷ numerals p.units ∷ []))))

-- a text for each row, one behind the other
unfoldable pub texts_of : {A : Type 0} → (A → List ℕ) → List A → List ℕ
texts_of text [] = []
texts_of text (x ∷ l) = text x ++ texts_of text l

unfoldable pub text_of : Book → List ℕ
text_of b = head_text b.account b.identity b.day ++ (texts_of holding_text (holdings_of b) ++ texts_of pair_text (pairs_of b))

-- "16 comes first", "Print: 15"
unfoldable pub print_checks : Book → List ℕ → List Check
print_checks b out = 16 unless sound_book b ∷ 15 unless leb (length (text_of b)) (length out) ∷ []

-- 0 and the length of the text, or the number of the first check that fails and 0
pub record Printed : Type 0 where
  pub number : ℕ
  pub length : ℕ

-- what an answer of the code stands for
abbrev pub printed_in : Result ℕ Refusal → Printed
printed_in (Ok n) = record { number = 0; length = n }
printed_in (Err r) = record { number = number_of r; length = 0 }

-- "Print writes the text, no byte after it, and returns its length"; on a refusal "zeros elsewhere"
unfoldable pub print_answer : Book → List ℕ → Printed
print_answer b out = record { number = first_failing (print_checks b out); length = pick (all_pass (print_checks b out)) (length (text_of b)) 0 }

-- the buffer at exit: the text, then the bytes that stood there; on a refusal "output buffers keep their bytes"
unfoldable pub print_exit : Book → List ℕ → List ℕ
print_exit b out = pick (all_pass (print_checks b out)) (text_of b ++ drop (length (text_of b)) out) out
