-- Tests: picking by a test, both, either, from a least to a greatest.
use Rattle.std.specs.Prelude.{Bool, true, false, ℕ, leb}

-- the first where the test holds, else the second
abbrev pub pick : {A : Type 0} → Bool → A → A → A
pick true a b = a
pick false a b = b

abbrev pub both : Bool → Bool → Bool
both true b = b
both false b = false

abbrev pub either : Bool → Bool → Bool
either true b = true
either false b = b

-- x is least to greatest
abbrev pub within : ℕ → ℕ → ℕ → Bool
within least greatest x = both (leb least x) (leb x greatest)
