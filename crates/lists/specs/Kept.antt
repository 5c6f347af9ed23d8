-- What has to hold for a row to be kept in an array of 128 rows, and what rows it is then kept in (document 01, "The book": "unused room
-- is empty").
use Rattle.std.specs.Prelude.{◌≡◌, Bool, true, not, List, [], ◌∷◌, ◌++◌, ℕ, ◌+◌, ◌-◌, ◌≤◌, ltb, length, take, set, Result, Ok, Err}
use Rattle.laws.specs.Truth.{pick, both, either}
use Rattle.lists.specs.Places.{full, insert_at, remove_at}
use Rattle.lists.specs.Sorted.{ascending, stands, kept}

-- An array of 128 rows: its live rows in order, then empty ones; with room for the row x.
pub record Keeping {A : Type 0} (empty : A) (rank : A → List ℕ) (live : ℕ) (rows : List A) (x : A) : Type 0 where
  pub few : live ≤ 128
  pub counted : length (take live rows) ≡ live
  pub filled : rows ≡ full 128 empty (take live rows)
  pub in_order_lem : ascending rank (take live rows) ≡ true
  pub room : either (stands rank (rank x) (take live rows)) (ltb live 128) ≡ true

-- The rows r, of which n are live, are those with x kept.
pub record KeptIs {A : Type 0} (empty : A) (rank : A → List ℕ) (gone : A → Bool) (live : ℕ) (rows : List A) (x : A) (r : List A) (n : ℕ) : Type 0 where
  pub rows_are : r ≡ full 128 empty (kept rank gone x (take live rows))
  pub count_is : n ≡ length (kept rank gone x (take live rows))

-- What is done with the row x, by where it stands among the first `live` rows or would stand: it is set, taken out where nothing is left of it,
-- or put in where it is new and there is room. Then the rows, and how many of them are live.
module _ {A : Type 0} (gone : A → Bool) (live : ℕ) (rows : List A) (x : A) where
  abbrev pub enters : Bool
  enters = both (not (gone x)) (ltb live (length rows))

  unfoldable pub kept_rows : A → Result ℕ ℕ → List A
  kept_rows empty (Ok p) = pick (gone x) (take (length rows) (remove_at p (rows ++ empty ∷ []))) (set rows p x)
  kept_rows empty (Err p) = pick enters (take (length rows) (insert_at p x rows)) rows

  unfoldable pub kept_count : Result ℕ ℕ → ℕ
  kept_count (Ok p) = pick (gone x) (live - 1) live
  kept_count (Err p) = pick enters (live + 1) live
