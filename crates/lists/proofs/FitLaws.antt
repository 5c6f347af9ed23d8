-- A row that is kept fits where there was room for one more.
use Rattle.std.proofs.Common.{◌≡◌, Bool, true, List, ℕ, ◌≤◌, ltb, length, arith, ⊎_elim, ltb-true}
use Rattle.laws.specs.Truth.{either}
use Rattle.laws.specs.TruthLaws.{either_true, picked}
use Rattle.lists.specs.Sorted.{ascending, stands, placed, without, kept}
use Rattle.lists.specs.SortedLaws.{placed_longer, placed_over, without_shorter}

module _ {A : Type 0} (rank : A → List ℕ) (gone : A → Bool) (none x : A) (l : List A) (a : ascending rank l ≡ true) where
  pub kept_fits : (n : ℕ) → length l ≤ n → either (stands rank (rank x) l) (ltb (length l) n) ≡ true → length (kept rank gone x l) ≤ n
  unfolding kept
  kept_fits n le e =
      picked (λ (m : List A). length m ≤ n) (gone x) (without rank (rank x) l) (placed rank x l)
      (λ q. let h = without_shorter rank (rank x) l in omega arith)
      (λ q.
      ⊎_elim (λ s. let h = placed_over rank x l a s in omega arith) (λ s. let h = placed_longer rank x l in let k = ltb-true (length l) n s in omega arith)
      (either_true (stands rank (rank x) l) (ltb (length l) n) e))
