-- Document 01, "Each of the eight kinds": what is said of kinds 1 to 8, one after the other, and of any other number.
use Rattle.std.specs.Prelude.{ℕ, eqb}
use Rattle.laws.specs.Truth.{pick}

unfoldable pub by_kind : {A : Type 0} → ℕ → A → A → A → A → A → A → A → A → A → A
by_kind kind one two three four five six seven eight other =
    pick (eqb kind 1) one
    (pick (eqb kind 2) two
    (pick (eqb kind 3) three
    (pick (eqb kind 4) four
    (pick (eqb kind 5) five
    (pick (eqb kind 6) six
    (pick (eqb kind 7) seven
    (pick (eqb kind 8) eight other)))))))
