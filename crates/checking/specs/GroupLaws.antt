-- Laws of rows that are gathered from lines, over lines and rows of any type: each line gives at most one row, whose rank is that of the
-- line behind the number of its group.
use Rattle.std.specs.Prelude.{◌≡◌, Bool, true, false}
use Rattle.std.proofs.Math.Path.{refl, ap, sym}
use Rattle.std.proofs.Common.{◌∙◌, subst}
use mathlib.Core.List.{List, [], ◌∷◌, ◌++◌, append_assoc, append-nil}
use Prim.Native.Nat.{ℕ, suc, ◌≤◌}
use native.Mathlib.Omega.{arith}
use Rattle.std.proofs.Math.ListN.{length}
use Rattle.std.specs.declared.cmp.Ordering.TheVariants.{Less}
use Rattle.laws.specs.TruthLaws.{both_true, both_hold}
use Rattle.laws.specs.Search.{every_line, gathered}
use Rattle.laws.specs.SearchLaws.{every_joined}
use Rattle.laws.specs.Order.{is_less, bytes_order}
use Rattle.laws.specs.OrderLaws.{is_same_lem, is_less_says}
use Rattle.lists.specs.Sorted.{ascending, ascending_from, stands}
use Rattle.lists.specs.SortedLaws.{after_more, ascending_rest}
use Rattle.lists.specs.LastLaws.{last_new}

-- One line more.
module _ {A B : Type 0} (f : A → List B) where
  pub gathered_more : (l : List A) (x : A) → gathered f (l ++ (x ∷ [])) ≡ gathered f l ++ f x
  unfolding gathered
  gathered_more [] x = append-nil (f x)
  gathered_more (y ∷ l) x = ap (λ (m : List B). f y ++ m) (gathered_more l x) ∙ sym (append_assoc (f y) (gathered f l) (f x))

  -- What every line's rows pass, all rows pass.
  pub gathered_every : (test : A → Bool) (good : B → Bool) → ((x : A) → test x ≡ true → every_line good (f x) ≡ true) → (l : List A) → every_line test l ≡ true → every_line good (gathered f l) ≡ true
  unfolding gathered every_line
  gathered_every test good h [] e = refl
  gathered_every test good h (x ∷ l) e =
      let t = both_true (test x) _ e in
      every_joined good (f x) (gathered f l) (h x t.0) (gathered_every test good h l t.1)

-- What a line gives: nothing, or one row.
pub data Gives {A B : Type 0} (rank : A → List ℕ) (rank_of : B → List ℕ) (group : ℕ) (f : A → List B) (x : A) : Type 0 where
  none : f x ≡ [] → Gives rank rank_of group f x
  row : (b : B) → f x ≡ b ∷ [] → rank x ≡ group ∷ rank_of b → Gives rank rank_of group f x

module _ {A B : Type 0} {rank : A → List ℕ} {rank_of : B → List ℕ} {group : ℕ} {f : A → List B} (gives : (x : A) → Gives rank rank_of group f x) where
  -- What holds of nothing, and of one row, holds of what a line gives.
  by_gift : (P : List B → Type 0) (x : A) → P [] → ((b : B) → rank x ≡ group ∷ rank_of b → P (b ∷ [])) → P (f x)
  by_gift P x h k = go (gives x)
    where
      go : Gives rank rank_of group f x → P (f x)
      go (none e) = subst P (sym e) h
      go (row b e r) = subst P (sym e) (k b r)

  -- There are no more rows than lines.
  pub gathered_fewer : (l : List A) → length (gathered f l) ≤ length l
  unfolding gathered
  gathered_fewer [] = omega arith
  gathered_fewer (x ∷ l) =
      let h = gathered_fewer l in
      by_gift (λ (m : List B). length (m ++ gathered f l) ≤ suc (length l)) x (omega arith) (λ b r. omega arith)

  behind_group : (p q : List ℕ) → bytes_order (group ∷ p) (group ∷ q) ≡ Less → bytes_order p q ≡ Less
  unfolding bytes_order
  behind_group p q e = rw (sym (is_same_lem {m = group} refl)) at e

  gathered_after : (p : List ℕ) (l : List A) → ascending_from rank (group ∷ p) l ≡ true → ascending_from rank_of p (gathered f l) ≡ true
  unfolding gathered ascending_from
  gathered_after p [] e = refl
  gathered_after p (x ∷ l) e =
      let t = both_true (is_less (bytes_order (group ∷ p) (rank x))) _ e in
      let lt = is_less_says _ t.0 in
      by_gift (λ (m : List B). ascending_from rank_of p (m ++ gathered f l) ≡ true) x
      (gathered_after p l (after_more rank (group ∷ p) (rank x) l lt t.1))
      (λ b r.
      both_hold (ap is_less (behind_group p (rank_of b) (subst (λ (k : List ℕ). bytes_order (group ∷ p) k ≡ Less) r lt)))
      (gathered_after (rank_of b) l (subst (λ (k : List ℕ). ascending_from rank k l ≡ true) r t.1)))

  -- Rows of lines in order are in order.
  pub gathered_ascends : (l : List A) → ascending rank l ≡ true → ascending rank_of (gathered f l) ≡ true
  unfolding gathered ascending
  gathered_ascends [] e = refl
  gathered_ascends (x ∷ l) e =
      by_gift (λ (m : List B). ascending rank_of (m ++ gathered f l) ≡ true) x
      (gathered_ascends l (ascending_rest rank (rank x) l e))
      (λ b r. gathered_after (rank_of b) l (subst (λ (k : List ℕ). ascending_from rank k l ≡ true) r e))

  -- The row of the last line is new among those before.
  pub row_new : (l : List A) (x : A) (b : B) → f x ≡ b ∷ [] → ascending rank (l ++ (x ∷ [])) ≡ true → stands rank_of (rank_of b) (gathered f l) ≡ false
  row_new l x b e a =
      last_new rank_of b (gathered f l)
      (subst (λ (m : List B). ascending rank_of m ≡ true) (gathered_more f l x ∙ ap (λ (m : List B). gathered f l ++ m) e) (gathered_ascends (l ++ (x ∷ [])) a))
