-- Less, the same or more: the order of two numbers, and an order by a first key and then by a second.
use Rattle.std.specs.Prelude.{Bool, List, [], ◌∷◌, ℕ, ◌+◌, ◌*◌}
use Rattle.std.specs.Ordering.{nat_cmp, is_lt, is_eq, ordering_then}
use Rattle.std.specs.declared.cmp.Ordering.{Ordering}
use Rattle.std.specs.declared.cmp.Ordering.TheVariants.{Less, Equal, Greater}

-- what std calls `cmp` of two numbers, `is_lt`, `is_eq` and `then`
unfoldable pub order_of : ℕ → ℕ → Ordering
order_of m n = nat_cmp m n

abbrev pub is_less : Ordering → Bool
is_less o = is_lt o

abbrev pub is_same : Ordering → Bool
is_same o = is_eq o

-- what is picked where it is less, where it is the same and where it is more
abbrev pub by_order : {A : Type 0} → Ordering → A → A → A → A
by_order Less less same more = less
by_order Equal less same more = same
by_order Greater less same more = more

-- by the first key, and by the second where the first is the same
abbrev pub then_by : Ordering → Ordering → Ordering
then_by first later = ordering_then first later

-- the order of texts by their bytes, or of lists of numbers, a prefix first
unfoldable pub bytes_order : List ℕ → List ℕ → Ordering
bytes_order [] [] = Equal
bytes_order [] (b ∷ y) = Less
bytes_order (a ∷ x) [] = Greater
bytes_order (a ∷ x) (b ∷ y) = then_by (order_of a b) (bytes_order x y)

-- two keys as one number, the second a digit below the base
unfoldable pub join : ℕ → ℕ → ℕ → ℕ
join base a x = a * base + x
