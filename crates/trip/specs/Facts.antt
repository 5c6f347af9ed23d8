-- What comes of a text (document 01, "Text").
use Rattle.std.specs.Prelude.{◌≡◌, ◌⊎◌, List, ℕ, ◌<◌}
use Rattle.rules.specs.Facts.{Sound}
use Rattle.printed.specs.Printed.{text_of}
use Rattle.reading.specs.Reading.{Answer, refused_at, read_as}

-- The text t is read: the answer's book is sound, and t is its text.
pub record Read (a : Answer) (t : List ℕ) : Type 0 where
  pub is : a ≡ read_as a.book
  pub sound : Sound a.book
  pub text : text_of a.book ≡ t

-- A text is refused: by a number that is not 0, with the empty book.
pub record Refused (a : Answer) : Type 0 where
  pub is : a ≡ refused_at a.number a.line
  pub some : 0 < a.number

-- What comes of the text t is the answer a.
abbrev pub Ends : List ℕ → Answer → Type 0
Ends t a = (Read a t) ⊎ (Refused a)
