-- Laws of checks: accepted exactly when none fails, what a refusal says, and one list of checks after another.
use Rattle.std.specs.Prelude.{◌≡◌, refl, Bool, true, false, List, [], ◌∷◌, ◌++◌, ℕ, zero, suc, ◌<◌, ltb, eqb}
use Rattle.std.proofs.Common.{ap, ◌∙◌, subst, arith, ltb-true, eqb-true}
use Rattle.std.proofs.lemmas.Bool.{eqb-false}
use Rattle.laws.specs.Truth.{pick, both}
use Rattle.laws.specs.TruthLaws.{both_true, both_hold, clash}
use Rattle.laws.specs.Checks.{Check, ◌unless◌, first_failing, all_pass, numbered, or_else}

-- Accepted exactly when none fails.
pub none_fails : (cs : List Check) → all_pass cs ≡ true → first_failing cs ≡ 0
unfolding first_failing all_pass
none_fails [] e = refl
none_fails (c ∷ cs) e =
    let h = both_true c.passes (all_pass cs) e in
    rw (h.0, first_failing) (none_fails cs h.1)

passed_all : (n : ℕ) (b more : Bool) (rest : ℕ) → 0 < n → (rest ≡ 0 → more ≡ true) → pick b rest n ≡ 0 → both b more ≡ true
passed_all n true more rest h k e = k e
passed_all n false more rest h k e = absurd (omega arith)

pub no_failure : (cs : List Check) → numbered cs ≡ true → first_failing cs ≡ 0 → all_pass cs ≡ true
unfolding first_failing all_pass numbered
no_failure [] k e = refl
no_failure (c ∷ cs) k e =
    let h = both_true (ltb 0 c.number) (numbered cs) k in
    passed_all c.number c.passes (all_pass cs) (first_failing cs) (ltb-true 0 c.number h.0) (no_failure cs h.1) e

-- So the number 0 is the test that none fails.
pub by_number : (cs : List Check) → numbered cs ≡ true → eqb (first_failing cs) 0 ≡ all_pass cs
by_number cs k = go (eqb (first_failing cs) 0) (all_pass cs) refl refl
  where
    go : (a b : Bool) → eqb (first_failing cs) 0 ≡ a → all_pass cs ≡ b → a ≡ b
    go true true e f = refl
    go false false e f = refl
    go true false e f = absurd (clash (no_failure cs k (eqb-true (first_failing cs) 0 e)) f)
    go false true e f = absurd (eqb-false (first_failing cs) 0 e (none_fails cs f))

pub some_fails : (cs : List Check) → numbered cs ≡ true → all_pass cs ≡ false → 0 < first_failing cs
some_fails cs k e = let h = eqb-false (first_failing cs) 0 (by_number cs k ∙ e) in omega arith

-- What a refusal says: the checks before passed, and this one, with this number, failed.
pub record Refused (cs : List Check) (n : ℕ) : Type 0 where
  pub before : List Check
  pub failing : Bool
  pub after : List Check
  pub split : cs ≡ before ++ (n unless failing ∷ after)
  pub fails : failing ≡ false
  pub passed : all_pass before ≡ true

refused_here : (c : Check) (cs : List Check) → c.passes ≡ false → Refused (c ∷ cs) c.number
unfolding all_pass
refused_here c cs e = record { before = []; failing = c.passes; after = cs; split = refl; fails = e; passed = refl }

refused_later : (c : Check) (cs : List Check) (n : ℕ) → c.passes ≡ true → Refused cs n → Refused (c ∷ cs) n
unfolding all_pass
refused_later c cs n e r =
    record {
      before = c ∷ r.before;
      failing = r.failing;
      after = r.after;
      split = ap (λ (l : List Check). c ∷ l) r.split;
      fails = r.fails;
      passed = rw (e, all_pass) r.passed;
    }

pub refused : (cs : List Check) (n : ℕ) → 0 < n → first_failing cs ≡ n → Refused cs n
unfolding first_failing
refused [] n h e = absurd (omega arith)
refused (c ∷ cs) n h e = go c.passes refl e (refused cs n h)
  where
    go : (b : Bool) → c.passes ≡ b → pick b (first_failing cs) c.number ≡ n → (first_failing cs ≡ n → Refused cs n) → Refused (c ∷ cs) n
    go true p q r = refused_later c cs n p (r q)
    go false p q r = subst (Refused (c ∷ cs)) q (refused_here c cs p)

-- One list of checks after another: the second counts where the first passes.
pub or_number : (n rest : ℕ) → 0 < n → n ≡ or_else n rest
or_number zero rest h = absurd (omega arith)
or_number (suc n) rest h = refl

one_more : (n : ℕ) (b : Bool) (x y : ℕ) → 0 < n → pick b (or_else x y) n ≡ or_else (pick b x n) y
one_more n true x y h = refl
one_more n false x y h = or_number n y h

pub first_of_two : (cs ds : List Check) → numbered cs ≡ true → first_failing (cs ++ ds) ≡ or_else (first_failing cs) (first_failing ds)
unfolding first_failing numbered
first_of_two [] ds k = refl
first_of_two (c ∷ cs) ds k =
    let h = both_true (ltb 0 c.number) (numbered cs) k in
    rw (first_of_two cs ds h.1, first_failing) (one_more c.number c.passes (first_failing cs) (first_failing ds) (ltb-true 0 c.number h.0))

-- None of both fails exactly where none of each does.
pub pass_both : (cs ds : List Check) → all_pass (cs ++ ds) ≡ true → (all_pass cs ≡ true) × (all_pass ds ≡ true)
unfolding all_pass
pass_both [] ds e = (refl, e)
pass_both (c ∷ cs) ds e =
    let h = both_true c.passes (all_pass (cs ++ ds)) e in
    let k = pass_both cs ds h.1 in
    (rw h.0 k.0, k.1)

pub pass_joined : (cs ds : List Check) → all_pass cs ≡ true → all_pass ds ≡ true → all_pass (cs ++ ds) ≡ true
unfolding all_pass
pass_joined [] ds e f = f
pass_joined (c ∷ cs) ds e f =
    let h = both_true c.passes (all_pass cs) e in
    both_hold h.0 (pass_joined cs ds h.1 f)
