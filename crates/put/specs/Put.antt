-- A text laid over a buffer from a place on (document 01, "Numbers a call may answer": "Print writes the text, no byte after it").
use Rattle.std.specs.Prelude.{◌≡◌, List, [], ◌∷◌, ℕ, suc, ◌+◌, min, length, set}

-- the bytes of p over those of d, from at on; what would stand behind the end of d is lost
unfoldable pub laid : List ℕ → ℕ → List ℕ → List ℕ
laid d at [] = d
laid d at (b ∷ p) = laid (set d at b) (suc at) p

-- the place behind p, or the end of d
unfoldable pub end_of : List ℕ → ℕ → List ℕ → ℕ
end_of d at p = min (length d) (at + length p)

-- p is laid over d from at on: r is the place behind it, e the buffer
abbrev pub LaidAt : List ℕ → ℕ → List ℕ → ℕ → List ℕ → Type 0
LaidAt d at p r e = (r ≡ end_of d at p) × (e ≡ laid d at p)
