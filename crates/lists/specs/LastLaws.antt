-- Laws of a row behind others: they are in order with it where it is after the last of them, and its rank is new then.
use Rattle.std.specs.Prelude.{◌≡◌, Bool, get_or}
use Rattle.std.proofs.Math.Path.{refl}
use Rattle.std.proofs.Common.{sym, ◌∙◌, subst, length-append}
use Rattle.std.proofs.Math.Bool.{true, false}
use mathlib.Core.List.{List, [], ◌∷◌, ◌++◌}
use Prim.Native.Nat.{ℕ, suc, ◌-◌}
use native.Mathlib.Omega.{arith}
use borrow.Author.Tests.{ne_eqb}
use Rattle.std.proofs.Math.ListN.{length}
use Rattle.std.proofs.Math.Seq.{get_or-append_seam}
use Rattle.std.specs.declared.cmp.Ordering.TheVariants.{Less}
use Rattle.laws.specs.Truth.{both}
use Rattle.laws.specs.TruthLaws.{both_true}
use Rattle.laws.specs.Order.{is_less, bytes_order}
use Rattle.lists.specs.Sorted.{ascending, ascending_from, after, stands}
use Rattle.lists.specs.SortedLaws.{before_differs, ascending_rest, before_at}

module _ {A : Type 0} (rank : A → List ℕ) (x : A) where
  after_end : (d y : A) (l : List A) → ascending_from rank (rank y) l ≡ true → ascending_from rank (rank y) (l ++ (x ∷ [])) ≡ is_less (bytes_order (rank (get_or (y ∷ l) (length l) d)) (rank x))
  unfolding ascending_from
  after_end d y [] e = both_last (is_less (bytes_order (rank y) (rank x)))
    where
      both_last : (b : Bool) → both b true ≡ b
      both_last true = refl
      both_last false = refl
  after_end d y (z ∷ l) e = let t = both_true (is_less (bytes_order (rank y) (rank z))) _ e in rw t.0 (after_end d z l t.1)

  -- Rows in order are in order with one more exactly where it is after the last of them.
  pub ascends_after : (d : A) (l : List A) (n : ℕ) → length l ≡ n → ascending rank l ≡ true → ascending rank (l ++ (x ∷ [])) ≡ after rank n (get_or l (n - 1) d) x
  unfolding ascending ascending_from
  ascends_after d [] n h e = rw (sym h)
  ascends_after d (y ∷ l) n h e = let k : suc (length l) - 1 ≡ length l = omega arith in rw (sym h, k, ne_eqb (suc (length l)) 0 (λ z. omega arith)) (after_end d y l e)

  pub after_last_lem : (y : A) (l : List A) → ascending rank (l ++ (y ∷ [])) ≡ true → ascending rank ((l ++ (y ∷ [])) ++ (x ∷ [])) ≡ is_less (bytes_order (rank y) (rank x))
  after_last_lem y l e =
      let n = length-append l (y ∷ []) in
      let some : length (l ++ (y ∷ [])) ≡ suc (length l) = omega arith in
      let own : suc (length l) - 1 ≡ length l = omega arith in
      ascends_after y (l ++ (y ∷ [])) (suc (length l)) some e ∙ rw (own, get_or-append_seam l y [] y, ne_eqb (suc (length l)) 0 (λ z. omega arith))

  -- Each row is before the last, whose rank is new.
  pub before_last : (y : A) (l : List A) → ascending rank (y ∷ (l ++ (x ∷ []))) ≡ true → bytes_order (rank y) (rank x) ≡ Less
  before_last y l a =
      subst (λ (z : A). bytes_order (rank y) (rank z) ≡ Less) (get_or-append_seam l x [] x)
      (before_at rank (y ∷ (l ++ (x ∷ []))) 0 (suc (length l)) x a (omega arith) (omega (arith, length-append l (x ∷ []))))

  pub last_new : (l : List A) → ascending rank (l ++ (x ∷ [])) ≡ true → stands rank (rank x) l ≡ false
  unfolding stands ascending
  last_new [] a = refl
  last_new (y ∷ l) a = rw (before_differs (rank y) (rank x) (before_last y l a)) (last_new l (ascending_rest rank (rank y) (l ++ (x ∷ [])) a))
