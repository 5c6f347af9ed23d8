-- Rows in strict order of their rank (document 01, "The book": "Holdings and pairs stand in the order of their text lines"). A
-- rank is a list of numbers, compared one after the other: for a pair its kind, series, series, r1, r2.
use Rattle.std.specs.Prelude.{Bool, true, false, List, [], ◌∷◌, ℕ, ◌+◌, eqb}
use Rattle.laws.specs.Truth.{pick, both, either}
use Rattle.laws.specs.Bytes.{same_bytes}
use Rattle.laws.specs.Search.{first_where}
use Rattle.laws.specs.Order.{is_less, by_order, bytes_order}

-- the sum of a number for each row
unfoldable pub sum_of : {A : Type 0} → (A → ℕ) → List A → ℕ
sum_of f [] = 0
sum_of f (x ∷ l) = f x + sum_of f l

module _ {A : Type 0} (rank : A → List ℕ) where
  -- each row after the rank p and after the row before it
  unfoldable pub ascending_from : List ℕ → List A → Bool
  ascending_from p [] = true
  ascending_from p (x ∷ l) = both (is_less (bytes_order p (rank x))) (ascending_from (rank x) l)

  -- each row after the row before it
  unfoldable pub ascending : List A → Bool
  ascending [] = true
  ascending (x ∷ l) = ascending_from (rank x) l

  -- x is after `last`, the last of n rows, if there are any
  abbrev pub after : ℕ → A → A → Bool
  after n last x = either (eqb n 0) (is_less (bytes_order (rank last) (rank x)))

  -- a row of rank k stands in the list
  unfoldable pub stands : List ℕ → List A → Bool
  stands k [] = false
  stands k (x ∷ l) = either (same_bytes (rank x) k) (stands k l)

  -- the row of rank k, or `none` where none stands
  unfoldable pub look : A → List ℕ → List A → A
  look none k l = first_where (λ (x : A). same_bytes (rank x) k) (λ (x : A). x) none l

  -- with the row x in its place: for the row of its rank, or between those before and after it
  unfoldable pub placed : A → List A → List A
  placed x [] = x ∷ []
  placed x (y ∷ l) = by_order (bytes_order (rank y) (rank x)) (y ∷ placed x l) (x ∷ l) (x ∷ y ∷ l)

  -- without the row of rank k
  unfoldable pub without : List ℕ → List A → List A
  without k [] = []
  without k (x ∷ l) = pick (same_bytes (rank x) k) l (x ∷ without k l)

  -- with the row x in its place, or with its place given up where nothing is left of it
  unfoldable pub kept : (A → Bool) → A → List A → List A
  kept gone x l = pick (gone x) (without (rank x) l) (placed x l)
