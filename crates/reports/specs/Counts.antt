-- Lines counted by the byte that they begin with (document 01, "Text": a line's letter). CountLaws: in a sheet that stands this is how many rows
-- the group of the letter has.
use Rattle.std.specs.Prelude.{List, ℕ, ◌+◌, eqb, get_or}
use Rattle.laws.specs.Truth.{pick}
use Rattle.lines.specs.Pieces.{lf, Pieces, one, more}

-- the byte that a line begins with: where it is empty, its LF
unfoldable pub first_byte : List ℕ → ℕ
first_byte line = get_or line 0 lf

abbrev pub one_if : ℕ → ℕ → ℕ
one_if first letter = pick (eqb first letter) 1 0

-- how many lines of a text begin with this byte
unfoldable pub lines_with : ℕ → Pieces → ℕ
lines_with letter (one rest) = 0
lines_with letter (more line ls) = one_if (first_byte line) letter + lines_with letter ls
