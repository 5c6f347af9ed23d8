-- Lists with a row put in or taken out at a place, and lists with room: the list, then empty rows (document 01, "The book":
-- "unused room is empty").
use Rattle.std.specs.Prelude.{List, ◌∷◌, ◌++◌, ℕ, suc, ◌-◌, length, take, drop, replicate}

module _ {A : Type 0} where
  -- x before the row p
  unfoldable pub insert_at : ℕ → A → List A → List A
  insert_at p x l = take p l ++ x ∷ drop p l

  -- without the row p
  unfoldable pub remove_at : ℕ → List A → List A
  remove_at p l = take p l ++ drop (suc p) l

  -- the list in room for n rows, filled up with the empty row
  unfoldable pub full : ℕ → A → List A → List A
  full n empty l = l ++ replicate (n - length l) empty
