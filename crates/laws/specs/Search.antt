-- The first line of a table that a test names, a test of every line, and what all lines give.
use Rattle.std.specs.Prelude.{Bool, true, List, [], ◌∷◌, ◌++◌}
use Rattle.laws.specs.Truth.{pick, both}

-- what is made of the first line that the test names, or what stands where none is named
unfoldable pub first_where : {A B : Type 0} → (A → Bool) → (A → B) → B → List A → B
first_where named made none [] = none
first_where named made none (l ∷ ls) = pick (named l) (made l) (first_where named made none ls)

-- each line of a table passes the test
unfoldable pub every_line : {A : Type 0} → (A → Bool) → List A → Bool
every_line test [] = true
every_line test (l ∷ ls) = both (test l) (every_line test ls)

-- what each line gives, in their order
unfoldable pub gathered : {A B : Type 0} → (A → List B) → List A → List B
gathered f [] = []
gathered f (l ∷ ls) = f l ++ gathered f ls
