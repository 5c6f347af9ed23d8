-- Laws of what is said kind by kind.
use Rattle.std.specs.Prelude.{◌≡◌, refl, Bool, true, false, ℕ, eqb}
use borrow.Author.Tests.{ne_eqb, eqb-true}
use Rattle.laws.specs.Truth.{pick}
use Rattle.laws.specs.TruthLaws.{picked}
use Rattle.laws.specs.Kinds.{by_kind}

module _ {A : Type 0} (one two three four five six seven eight other : A) where
  pub no_kind : (k : ℕ) → (k ≡ 1 → ⊥) → (k ≡ 2 → ⊥) → (k ≡ 3 → ⊥) → (k ≡ 4 → ⊥) → (k ≡ 5 → ⊥) → (k ≡ 6 → ⊥) → (k ≡ 7 → ⊥) → (k ≡ 8 → ⊥) → by_kind k one two three four five six seven eight other ≡ other
  unfolding by_kind
  no_kind k a b c d e f g h = simp (ne_eqb k 1 a, ne_eqb k 2 b, ne_eqb k 3 c, ne_eqb k 4 d, ne_eqb k 5 e, ne_eqb k 6 f, ne_eqb k 7 g, ne_eqb k 8 h)

  -- What holds of what is said of each kind, and of any other number, holds of what is said of k.
  pub each_kind : (P : A → Type 0) (k : ℕ) → (k ≡ 1 → P one) → (k ≡ 2 → P two) → (k ≡ 3 → P three) → (k ≡ 4 → P four) → (k ≡ 5 → P five) → (k ≡ 6 → P six) → (k ≡ 7 → P seven) → (k ≡ 8 → P eight) → P other → P (by_kind k one two three four five six seven eight other)
  unfolding by_kind
  each_kind P k a b c d e f g h o =
      picked P (eqb k 1) _ _ (λ q. a (eqb-true k 1 q)) (λ _.
      picked P (eqb k 2) _ _ (λ q. b (eqb-true k 2 q)) (λ _.
      picked P (eqb k 3) _ _ (λ q. c (eqb-true k 3 q)) (λ _.
      picked P (eqb k 4) _ _ (λ q. d (eqb-true k 4 q)) (λ _.
      picked P (eqb k 5) _ _ (λ q. e (eqb-true k 5 q)) (λ _.
      picked P (eqb k 6) _ _ (λ q. f (eqb-true k 6 q)) (λ _.
      picked P (eqb k 7) _ _ (λ q. g (eqb-true k 7 q)) (λ _.
      picked P (eqb k 8) _ _ (λ q. h (eqb-true k 8 q)) (λ _. o))))))))

-- What is made of what is said by kind is said by kind of what is made of each.
module _ {A B : Type 0} (f : A → B) where
  of_pick : (b : Bool) (x y : A) → f (pick b x y) ≡ pick b (f x) (f y)
  of_pick true x y = refl
  of_pick false x y = refl

  pub of_kind : (k : ℕ) (one two three four five six seven eight other : A) → f (by_kind k one two three four five six seven eight other) ≡ by_kind k (f one) (f two) (f three) (f four) (f five) (f six) (f seven) (f eight) (f other)
  unfolding by_kind
  of_kind k one two three four five six seven eight other = simp of_pick
