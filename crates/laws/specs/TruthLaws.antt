-- Laws of tests.
use Rattle.std.specs.Prelude.{◌≡◌, refl, ◌⊎◌, Bool, true, false, not, ◌&&◌, ◌||◌, ℕ, ◌≤◌, leb}
use Rattle.std.proofs.Common.{sym, ◌∙◌, inl, inr, arith, leb-true, le-leb}
use Rattle.std.proofs.lemmas.Bool.{not-true, not-false}
use Rattle.laws.specs.Truth.{pick, both, either, within}

-- A test is not both true and false.
pub clash : {b : Bool} → b ≡ true → b ≡ false → ⊥
clash {b} t f = let z : ◌≡◌ {A = ℕ} 0 1 = cc in omega arith

-- A call `if !f(..)`: what the test says of what f ensures.
pub failed : {x t : Bool} → x ≡ t → not x ≡ true → t ≡ false
failed e h = sym e ∙ not-true _ h

pub passed : {x t : Bool} → x ≡ t → not x ≡ false → t ≡ true
passed e h = sym e ∙ not-false _ h

-- Where both hold, each holds.
pub both_true : (x y : Bool) → both x y ≡ true → (x ≡ true) × (y ≡ true)
both_true true y e = (refl, e)
both_true false y e = absurd (clash e refl)

pub both_hold : {x y : Bool} → x ≡ true → y ≡ true → both x y ≡ true
both_hold e f = rw (e, f)

pub is_within : {least greatest x : ℕ} → least ≤ x → x ≤ greatest → within least greatest x ≡ true
is_within {least} {greatest} {x} h k = both_hold (le-leb least x h) (le-leb x greatest k)

-- Three tests hold whichever two are taken first.
pub both_first : (a b c : Bool) → both a (both b c) ≡ both (both a b) c
both_first true b c = refl
both_first false b c = refl

pub either_true : (x y : Bool) → either x y ≡ true → (x ≡ true) ⊎ (y ≡ true)
either_true true y e = inl refl
either_true false y e = inr e

pub both_end : (b : Bool) → both b true ≡ b
both_end true = refl
both_end false = refl

pub within_true : (least greatest x : ℕ) → within least greatest x ≡ true → (least ≤ x) × (x ≤ greatest)
within_true least greatest x e =
    let h = both_true (leb least x) (leb x greatest) e in
    (leb-true least x h.0, leb-true x greatest h.1)

-- What holds of each choice holds of what is picked.
pub picked : {A : Type 0} (P : A → Type 0) (b : Bool) (x y : A) → (b ≡ true → P x) → (b ≡ false → P y) → P (pick b x y)
picked P true x y h k = h refl
picked P false x y h k = k refl

-- A test that cannot be true is false.
pub false_unless : (b : Bool) → (b ≡ true → ⊥) → b ≡ false
false_unless true h = absurd (h refl)
false_unless false h = refl

-- By a test: what holds where it is true and where it is false, holds.
pub by_test : (P : Bool → Type 0) (b : Bool) → (b ≡ true → P true) → (b ≡ false → P false) → P b
by_test P true h k = h refl
by_test P false h k = k refl

-- Two tests of which each holds where the other does are the same.
pub same_test : (a b : Bool) → (a ≡ true → b ≡ true) → (b ≡ true → a ≡ true) → a ≡ b
same_test true b h k = sym (h refl)
same_test false true h k = k refl
same_test false false h k = refl

-- The tests are what std writes `&&` and `||`.
pub both_and : (a b : Bool) → both a b ≡ (a && b)
both_and true b = refl
both_and false b = refl

pub either_or : (a b : Bool) → either a b ≡ (a || b)
either_or true b = refl
either_or false b = refl
