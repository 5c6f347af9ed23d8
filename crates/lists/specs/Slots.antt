-- Where a row of rank k stands among rows in order, `Ok i`, or before which row it would stand, `Err i`: std's answer to a binary search.
use Rattle.std.specs.Prelude.{List, [], ◌∷◌, ℕ, suc, Result, Ok, Err}
use Rattle.laws.specs.Order.{by_order, bytes_order}

-- one place further
abbrev pub next : Result ℕ ℕ → Result ℕ ℕ
next (Ok p) = Ok (suc p)
next (Err p) = Err (suc p)

unfoldable pub slot_of : {A : Type 0} → (A → List ℕ) → List ℕ → List A → Result ℕ ℕ
slot_of rank k [] = Err 0
slot_of rank k (x ∷ l) = by_order (bytes_order (rank x) k) (next (slot_of rank k l)) (Ok 0) (Err 0)
