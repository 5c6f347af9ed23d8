-- Texts and books (document 01, "Text"), as two statements; proofs/TripLaws proves both.
use Rattle.std.specs.Prelude.{◌≡◌, true, List, ℕ}
use Rattle.rows.specs.declared.Book.{Book}
use Rattle.rules.specs.Rules.{sound_book}
use Rattle.printed.specs.Printed.{text_of}
use Rattle.reading.specs.Reading.{read_as, read_book}

-- The text of a sound book is read as that book.
abbrev pub ReadPrint : Type 0
ReadPrint = (b : Book) → sound_book b ≡ true → read_book (text_of b) ≡ read_as b

-- A text that is read, by the number 0, is the text of the book that it is read as, which is sound.
abbrev pub PrintRead : Type 0
PrintRead = (t : List ℕ) → (read_book t).number ≡ 0 → (sound_book (read_book t).book ≡ true) × (text_of (read_book t).book ≡ t)
