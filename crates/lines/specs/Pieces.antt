-- A text cut at a byte: lines at LF, fields at the tab (document 01, "Text": "Fields parted by one tab, each line ended by LF").
use Rattle.std.specs.Prelude.{Bool, List, [], ◌∷◌, ℕ, suc, ◌+◌, eqb, ltb, length, get_or, drop}
use Rattle.laws.specs.Truth.{pick, both, either}

abbrev pub tab : ℕ
tab = 9

abbrev pub lf : ℕ
lf = 10

-- one part, or one in front of others
pub data Pieces : Type 0 where
  one : List ℕ → Pieces
  more : List ℕ → Pieces → Pieces

abbrev pub in_front : ℕ → Pieces → Pieces
in_front b (one p) = one (b ∷ p)
in_front b (more p ps) = more (b ∷ p) ps

-- what stands before each c, and behind the last
unfoldable pub split_on : ℕ → List ℕ → Pieces
split_on c [] = one []
split_on c (b ∷ t) = pick (eqb b c) (more [] (split_on c t)) (in_front b (split_on c t))

unfoldable pub list_of : Pieces → List (List ℕ)
list_of (one p) = p ∷ []
list_of (more p ps) = p ∷ list_of ps

-- a line's fields
unfoldable pub fields_of : List ℕ → List (List ℕ)
fields_of line = list_of (split_on tab line)

-- how many bytes stand before the first c
unfoldable pub index_of : ℕ → List ℕ → ℕ
index_of c [] = 0
index_of c (b ∷ t) = pick (eqb b c) 0 (suc (index_of c t))

-- the place of the first c from at on, or the end of the text
unfoldable pub next_of : List ℕ → ℕ → ℕ → ℕ
next_of t at c = at + index_of c (drop at t)

-- a byte that ends a field
abbrev pub stops : ℕ → Bool
stops b = either (eqb b tab) (eqb b lf)

-- how many bytes stand before the first tab or LF
unfoldable pub field_length : List ℕ → ℕ
field_length [] = 0
field_length (b ∷ t) = pick (stops b) 0 (suc (field_length t))

-- the place of the first tab or LF from at on, or the end of the text
unfoldable pub stop_of : List ℕ → ℕ → ℕ
stop_of t at = at + field_length (drop at t)

-- a tab or LF stands at i
unfoldable pub stops_at : List ℕ → ℕ → Bool
stops_at t i = both (ltb i (length t)) (stops (get_or t i 0))
