-- Quoted text as its bytes, so that a definition can spell a code as the paper does.
use Rattle.std.specs.Prelude.{List, [], ◌∷◌, ◌++◌, ℕ, take}
use Prim.Native.Char.{Char, code}
use Prim.Native.String.{String, [] as none, ◌∷◌ as ◌then◌}

-- a letter's byte
abbrev pub byte : Char → ℕ
byte c = code c

-- the bytes of a text of ASCII letters
abbrev pub bytes : String → List ℕ
bytes none = []
bytes (c then s) = code c ∷ bytes s

-- a code of at most three letters in its three bytes: zeros fill what is left
abbrev pub three : String → List ℕ
three s = take 3 (bytes s ++ (0 ∷ 0 ∷ 0 ∷ []))
