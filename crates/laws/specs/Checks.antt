-- A call's checks: a list of numbers, each with the test that it stands for, in the paper's order (document 01, "Numbers a
-- call may answer"). The call's number is that of the first that fails, or 0. CheckLaws: it is 0 exactly when none fails.
use Rattle.std.specs.Prelude.{Bool, true, List, [], ◌∷◌, ℕ, zero, suc, ltb}
use Rattle.laws.specs.Truth.{pick, both}

pub record Check : Type 0 where
  pub number : ℕ
  pub passes : Bool

infix 70 ◌unless◌
-- the number that refuses, unless the test holds
abbrev pub ◌unless◌ : ℕ → Bool → Check
n unless b = record { number = n; passes = b }

-- the number of the first check that fails, or 0
unfoldable pub first_failing : List Check → ℕ
first_failing [] = 0
first_failing (c ∷ cs) = pick c.passes (first_failing cs) c.number

-- no check fails
unfoldable pub all_pass : List Check → Bool
all_pass [] = true
all_pass (c ∷ cs) = both c.passes (all_pass cs)

-- every check refuses by a number that is not 0, the number of what is accepted
unfoldable pub numbered : List Check → Bool
numbered [] = true
numbered (c ∷ cs) = both (ltb 0 c.number) (numbered cs)

-- Checks after checks: the second number counts where the first is 0.
abbrev pub or_else : ℕ → ℕ → ℕ
or_else zero rest = rest
or_else (suc n) rest = suc n
