-- Laws of one walk over the first n rows of an array that tests each row, and its order with the row before it.
use Rattle.std.specs.Prelude.{◌≡◌, Bool, not, List, eqb, ltb, get_or, length, take, Some}
use Rattle.std.proofs.Math.Path.{refl, ap}
use Rattle.std.proofs.Common.{◌∙◌, arith}
use Rattle.std.proofs.Math.Bool.{true, false}
use Prim.Native.Nat.{ℕ, zero, suc, ◌+◌, ◌-◌, ◌<◌, ◌≤◌}
use borrow.Author.Tests.{ne_eqb, lt-ltb, le-ltb}
use Rattle.laws.specs.Truth.{pick, both, either}
use Rattle.laws.specs.TruthLaws.{by_test, failed, passed}
use Rattle.laws.specs.Search.{every_line}
use Rattle.std.specs.declared.cmp.Ordering.{Ordering}
use Rattle.std.specs.declared.cmp.Ordering.TheVariants.{Less, Equal, Greater}
use Rattle.std.specs.Ordering.{is_lt, is_some_and, partial_ordering_then}
use Rattle.laws.specs.Order.{order_of, is_less, then_by, bytes_order}
use Rattle.laws.specs.OrderLaws.{split}
use Rattle.lists.specs.Sorted.{ascending}
use Rattle.lists.specs.WalkLaws.{every_from, every_start, every_no, every_yes, every_end, rising_from, rising_start, rising_no, rising_yes, rising_end}

module _ {A : Type 0} (test : A → Bool) (rank : A → List ℕ) (rows : List A) (n : ℕ) (d : A) where
  -- the order of the rows, from the row i on
  unfoldable pub order_from : ℕ → Bool
  order_from i = pick (eqb i 0) (ascending rank (take n rows)) (rising_from rank rows n d i)

  -- what is left to see of the rows from the row i on
  unfoldable pub sound_from : ℕ → Bool
  sound_from i = both (every_from test rows n i) (order_from i)

  pub sound_start : both (every_line test (take n rows)) (ascending rank (take n rows)) ≡ sound_from 0
  unfolding sound_from order_from
  sound_start = ap (λ (t : Bool). both t (ascending rank (take n rows))) (every_start test rows n)

  order_end : (i : ℕ) → n ≤ length rows → n ≤ i → order_from i ≡ true
  unfolding order_from
  order_end zero le h = rising_start rank rows n d le ∙ rising_end rank rows n d 1 (omega arith)
  order_end (suc i) le h = rw (ne_eqb (suc i) 0 (λ (e : suc i ≡ 0). omega arith)) (rising_end rank rows n d (suc i) h)

  pub sound_end : (i : ℕ) → n ≤ length rows → n ≤ i → sound_from i ≡ true
  unfolding sound_from
  sound_end i le h = rw (every_end test rows n i h, order_end i le h)

  -- whether the row i is after the row before it
  abbrev pub after_last : ℕ → Bool
  after_last i = either (eqb i 0) (is_less (bytes_order (rank (get_or rows (i - 1) d)) (rank (get_or rows i d))))

  order_step : (i : ℕ) → i < n → n ≤ length rows → order_from i ≡ both (after_last i) (order_from (i + 1))
  unfolding order_from
  order_step zero lt le = rising_start rank rows n d le
  order_step (suc i) lt le =
      rw (ne_eqb (suc i) 0 (λ (e : suc i ≡ 0). omega arith), ne_eqb (suc i + 1) 0 (λ (e : suc i + 1 ≡ 0). omega arith))
      (by_test (λ (t : Bool). is_less (bytes_order (rank (get_or rows (suc i - 1) d)) (rank (get_or rows (suc i) d))) ≡ t → rising_from rank rows n d (suc i) ≡ both t (rising_from rank rows n d (suc i + 1))) (is_less (bytes_order (rank (get_or rows (suc i - 1) d)) (rank (get_or rows (suc i) d))))
      (λ q e. rising_yes rank rows n d (suc i) (omega arith) lt le refl (rw e))
      (λ q e. rising_no rank rows n d (suc i) (omega arith) lt le refl (rw e))
      refl)

  module _ (i : ℕ) (lt : i < n) (le : n ≤ length rows) {x : Bool} (is : x ≡ test (get_or rows i d)) where
    pub bad_row : not x ≡ true → sound_from i ≡ false
    unfolding sound_from
    bad_row fails = rw (every_no test rows n i d lt le is fails)

    module _ (good : not x ≡ false) {y : Bool} (after : y ≡ after_last i) where
      pub turned_row : not y ≡ true → sound_from i ≡ false
      unfolding sound_from
      turned_row fails = rw (order_step i lt le, failed after fails) (never (every_from test rows n i))
        where
          never : (t : Bool) → both t false ≡ false
          never true = refl
          never false = refl

      pub next_row : not y ≡ false → sound_from i ≡ sound_from (i + 1)
      unfolding sound_from
      next_row ok = rw (every_yes test rows n i d lt le is good, order_step i lt le, passed after ok)

-- The order of two ranks is that of their first numbers that differ, or of their last.
pub differ_less : {a b : ℕ} (o : Ordering) → (a ≡ b → ⊥) → ltb a b ≡ is_less (then_by (order_of a b) o)
differ_less {a} {b} o h = split (λ (p : Ordering). ltb a b ≡ is_less (then_by p o)) a b (λ lt. lt-ltb a b lt) (λ e. absurd (h e)) (λ gt. le-ltb a b (omega arith))

pub last_less : (a b : ℕ) → ltb a b ≡ is_less (then_by (order_of a b) Equal)
last_less a b = split (λ (p : Ordering). ltb a b ≡ is_less (then_by p Equal)) a b (λ lt. lt-ltb a b lt) (λ e. le-ltb a b (omega arith)) (λ gt. le-ltb a b (omega arith))

-- Five orders, one behind the other, as `<` takes them.
pub five_before : (o p q r s : Ordering) → is_some_and is_lt (partial_ordering_then (partial_ordering_then (partial_ordering_then (partial_ordering_then (Some o) (Some p)) (Some q)) (Some r)) (Some s)) ≡ is_less (then_by o (then_by p (then_by q (then_by r (then_by s Equal)))))
five_before Less p q r s = refl
five_before Greater p q r s = refl
five_before Equal Less q r s = refl
five_before Equal Greater q r s = refl
five_before Equal Equal Less r s = refl
five_before Equal Equal Greater r s = refl
five_before Equal Equal Equal Less s = refl
five_before Equal Equal Equal Greater s = refl
five_before Equal Equal Equal Equal Less = refl
five_before Equal Equal Equal Equal Equal = refl
five_before Equal Equal Equal Equal Greater = refl
