-- Document 01, "Values at the edges": a refusal is printed as `X number line`; and a line in the room that it is handed over in.
use Rattle.std.specs.Prelude.{List, [], ◌∷◌, ℕ, length}
use Rattle.laws.specs.Text.{byte}
use Rattle.lists.specs.Places.{full}
use Rattle.digits.specs.Digits.{numerals}
use Rattle.lines.specs.Texts.{line_text}
use Rattle.put.specs.declared.Output.{Output}

-- `X number line`
unfoldable pub refusal_text : ℕ → ℕ → List ℕ
refusal_text number line = line_text (byte "X") (numerals number ∷ numerals line ∷ [])

-- a line in room for 96 bytes, zeros behind it
unfoldable pub output_of : List ℕ → Output
output_of text = record { text = full 96 0 text; length = length text }
