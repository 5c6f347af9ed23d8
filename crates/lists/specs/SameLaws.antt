-- Rows in order that say the same of every rank are the same rows: for rows of any type, and any numbers that are read of them.
use Rattle.std.specs.Prelude.{◌≡◌, Bool, ℕ}
use Rattle.std.proofs.Math.Path.{refl, sym}
use Rattle.std.proofs.Common.{ap, ◌∙◌, subst}
use Rattle.std.proofs.Math.Bool.{true, false}
use mathlib.Core.List.{List, [], ◌∷◌}
use Rattle.std.specs.declared.cmp.Ordering.{Ordering}
use Rattle.laws.specs.TruthLaws.{both_true, by_test}
use Rattle.laws.specs.Bytes.{same_bytes}
use Rattle.laws.specs.ByteLaws.{are_same, same_self}
use Rattle.laws.specs.Search.{every_line, first_where}
use Rattle.laws.specs.OrderLaws.{split_text}
use Rattle.lists.specs.Sorted.{ascending_from, ascending, stands, look}
use Rattle.lists.specs.SortedLaws.{after_differs, ascending_rest, none_after, none_behind, look_none}

-- What is read of rows by `read c`: 0 of `none x`, which stands for a row of the rank of x where there is none. A good row is told by
-- its rank and what is read of it, and something is read of it.
module _ {A C : Type 0} (rank : A → List ℕ) (read : C → A → ℕ) (none : A → A) (good : A → Bool)
    (nothing : (c : C) (x : A) → read c (none x) ≡ 0)
    (something : (x : A) → good x ≡ true → ((c : C) → read c x ≡ 0) → ⊥)
    (told : (x y : A) → good x ≡ true → good y ≡ true → rank x ≡ rank y → ((c : C) → read c x ≡ read c y) → x ≡ y) where
  -- what is read of the row of the rank of x
  abbrev pub said : C → A → List A → ℕ
  said c x l = read c (look rank (none x) (rank x) l)

  said_none : (c : C) (x : A) (l : List A) → stands rank (rank x) l ≡ false → said c x l ≡ 0
  said_none c x l e = ap (read c) (look_none rank (none x) (rank x) l e) ∙ nothing c x

  said_first : (c : C) (x y : A) (l : List A) → rank y ≡ rank x → said c x (y ∷ l) ≡ read c y
  unfolding look first_where
  said_first c x y l e = rw (e, same_self (rank x))

  -- A good row does not stand in one list alone.
  not_alone : (x : A) (l m : List A) → good x ≡ true → ((c : C) → said c x (x ∷ l) ≡ said c x m) → stands rank (rank x) m ≡ false → ⊥
  not_alone x l m g h e = something x g (λ c. sym (said_first c x x l refl) ∙ h c ∙ said_none c x m e)

  -- Without their first rows, which are of one rank, they still say the same.
  said_rest : (x y : A) (l m : List A) → ascending rank (x ∷ l) ≡ true → ascending rank (y ∷ m) ≡ true → rank x ≡ rank y → ((c : C) (z : A) → said c z (x ∷ l) ≡ said c z (y ∷ m)) → (c : C) (z : A) → said c z l ≡ said c z m
  unfolding look first_where ascending
  said_rest x y l m a b e h c z =
      by_test (λ (t : Bool). same_bytes (rank x) (rank z) ≡ t → said c z l ≡ said c z m) (same_bytes (rank x) (rank z))
      (λ q s. let r = are_same (rank x) (rank z) s in said_none c z l (gone x l a r) ∙ sym (said_none c z m (gone y m b (sym e ∙ r))))
      (λ q s. let k = h c z in rw (sym e, s) at k)
      refl
    where
      gone : (w : A) (n : List A) → ascending_from rank (rank w) n ≡ true → rank w ≡ rank z → stands rank (rank z) n ≡ false
      gone w n f r = none_after rank (rank z) n (subst (λ (k : List ℕ). ascending_from rank k n ≡ true) r f)

  pub same_rows : (l m : List A) → ascending rank l ≡ true → ascending rank m ≡ true → every_line good l ≡ true → every_line good m ≡ true → ((c : C) (x : A) → said c x l ≡ said c x m) → l ≡ m
  unfolding every_line stands ascending
  same_rows [] [] a b g k h = refl
  same_rows [] (y ∷ m) a b g k h = absurd (not_alone y m [] (both_true (good y) _ k).0 (λ c. sym (h c y)) refl)
  same_rows (x ∷ l) [] a b g k h = absurd (not_alone x l [] (both_true (good x) _ g).0 (λ c. h c x) refl)
  same_rows (x ∷ l) (y ∷ m) a b g k h =
      let u = both_true (good x) _ g in
      let v = both_true (good y) _ k in
      split_text (λ (o : Ordering). x ∷ l ≡ y ∷ m) (rank x) (rank y)
      (λ lt. absurd (not_alone x l (y ∷ m) u.0 (λ c. h c x) (rw (after_differs (rank y) (rank x) lt) (none_behind rank (rank x) (rank y) m lt b))))
      (λ is.
      let p = told x y u.0 v.0 is (λ c. sym (said_first c x x l refl) ∙ h c x ∙ said_first c x y m (sym is)) in
      let q = same_rows l m (ascending_rest rank (rank x) l a) (ascending_rest rank (rank y) m b) u.1 v.1 (said_rest x y l m a b is h) in
      λ i. p i ∷ q i)
      (λ gt. absurd (not_alone y m (x ∷ l) v.0 (λ c. sym (h c y)) (rw (after_differs (rank x) (rank y) gt) (none_behind rank (rank y) (rank x) l gt a))))
