-- Laws of what stands in a field: two or three bytes as a code.
use Rattle.std.specs.Prelude.{◌≡◌, refl, List, [], ◌∷◌, ◌++◌, ℕ, get_or, length}
use Rattle.std.proofs.Common.{sym, arith, eq-eqb, ne_eqb}
use Rattle.laws.specs.ByteLaws.{three_bytes}
use Rattle.lines.specs.Fields.{no_code, code_in}

pub two_bytes : (f : List ℕ) → length f ≡ 2 → f ≡ get_or f 0 0 ∷ get_or f 1 0 ∷ []
two_bytes [] h = absurd (omega arith)
two_bytes (a ∷ []) h = absurd (omega arith)
two_bytes (a ∷ b ∷ []) h = refl
two_bytes (a ∷ b ∷ c ∷ f) h = absurd (omega arith)

pub code_two : (f : List ℕ) → length f ≡ 2 → get_or f 0 0 ∷ get_or f 1 0 ∷ 0 ∷ [] ≡ code_in f
unfolding code_in
code_two f h = rw (eq-eqb (length f) 2 h) (λ i. sym (two_bytes f h) i ++ (0 ∷ []))

pub code_other : (f : List ℕ) → (length f ≡ 2 → ⊥) → (length f ≡ 3 → ⊥) → no_code ≡ code_in f
unfolding code_in
code_other f n m = rw (ne_eqb (length f) 2 n, ne_eqb (length f) 3 m) refl

pub code_nul : (f : List ℕ) → length f ≡ 3 → get_or f 2 0 ≡ 0 → no_code ≡ code_in f
unfolding code_in
code_nul f h z = rw (h, z) refl

pub code_three : (f : List ℕ) → length f ≡ 3 → (get_or f 2 0 ≡ 0 → ⊥) → get_or f 0 0 ∷ get_or f 1 0 ∷ get_or f 2 0 ∷ [] ≡ code_in f
unfolding code_in
code_three f h n = rw (h, ne_eqb (get_or f 2 0) 0 n) (sym (three_bytes f h))
