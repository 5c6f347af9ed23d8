-- Laws of texts: those that pass the test are the same, and those of three bytes.
use Rattle.std.specs.Prelude.{◌≡◌, refl, Bool, true, List, [], ◌∷◌, ℕ, eqb, nat_eq, length, get_or}
use Rattle.std.specs.Cmp.Lexicographic.{pointwise}
use Rattle.std.proofs.Common.{arith, eqb-true, eq-eqb}
use Rattle.laws.specs.Truth.{both}
use Rattle.laws.specs.TruthLaws.{both_true, both_end, both_and, clash}
use Rattle.laws.specs.Bytes.{same_bytes}

-- Texts that pass the test are the same, and a text passes it with itself.
pub are_same : (x y : List ℕ) → same_bytes x y ≡ true → x ≡ y
unfolding same_bytes
are_same [] [] e = refl
are_same [] (b ∷ y) e = absurd (clash e refl)
are_same (a ∷ x) [] e = absurd (clash e refl)
are_same (a ∷ x) (b ∷ y) e =
    let h = both_true (eqb a b) (same_bytes x y) e in
    let p = eqb-true a b h.0 in
    let q = are_same x y h.1 in
    λ i. p i ∷ q i

pub same_self : (x : List ℕ) → same_bytes x x ≡ true
unfolding same_bytes
same_self [] = refl
same_self (a ∷ x) = simp (eq-eqb a a refl) (same_self x)

-- A text of three bytes is its bytes.
pub three_bytes : (l : List ℕ) → length l ≡ 3 → l ≡ get_or l 0 0 ∷ get_or l 1 0 ∷ get_or l 2 0 ∷ []
three_bytes [] h = absurd (omega arith)
three_bytes (a ∷ []) h = absurd (omega arith)
three_bytes (a ∷ b ∷ []) h = absurd (omega arith)
three_bytes (a ∷ b ∷ c ∷ []) h = refl
three_bytes (a ∷ b ∷ c ∷ d ∷ l) h = absurd (omega arith)

-- Compared byte by byte.
pub same_three : (x y : List ℕ) {r : Bool} → length x ≡ 3 → length y ≡ 3 → r ≡ both (eqb (get_or x 0 0) (get_or y 0 0)) (both (eqb (get_or x 1 0) (get_or y 1 0)) (eqb (get_or x 2 0) (get_or y 2 0))) → r ≡ same_bytes x y
unfolding same_bytes
same_three x y h k e = rw (three_bytes x h, three_bytes y k) (simp both_end e)

-- The same test as std's `==` of two arrays or slices of bytes.
pub as_pointwise : (x y : List ℕ) → same_bytes x y ≡ pointwise nat_eq x y
unfolding same_bytes
as_pointwise [] [] = refl
as_pointwise [] (b ∷ y) = refl
as_pointwise (a ∷ x) [] = refl
as_pointwise (a ∷ x) (b ∷ y) = simp (as_pointwise x y) (both_and (eqb a b) (pointwise nat_eq x y))
