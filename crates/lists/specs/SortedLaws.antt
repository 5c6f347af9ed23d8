-- Laws of rows in order: what a row put in its place, or given up, leaves of the order, of each other row, of tests of all rows
-- and of sums.
use Rattle.std.specs.Prelude.{◌≡◌, Bool, get_or, set}
use Rattle.std.proofs.Math.Path.{refl, ap, sym, subst}
use Rattle.std.proofs.Common.{◌∙◌}
use Rattle.std.proofs.Math.Bool.{true, false}
use mathlib.Core.List.{List, [], ◌∷◌, ◌++◌, map}
use Prim.Native.Nat.{ℕ, zero, suc, ◌+◌, ◌<◌, ◌≤◌}
use native.Mathlib.Omega.{arith}
use Rattle.std.proofs.Math.ListN.{length}
use Rattle.std.specs.declared.cmp.Ordering.{Ordering}
use Rattle.std.specs.declared.cmp.Ordering.TheVariants.{Less}
use Rattle.laws.specs.Truth.{pick, either}
use Rattle.laws.specs.TruthLaws.{both_true, both_hold, clash, picked, by_test, false_unless}
use Rattle.laws.specs.Bytes.{same_bytes}
use Rattle.laws.specs.ByteLaws.{are_same, same_self}
use Rattle.laws.specs.Search.{every_line, first_where}
use Rattle.laws.specs.Order.{is_less, by_order, bytes_order}
use Rattle.laws.specs.OrderLaws.{text_before, not_before_self, split_text, is_less_says}
use Rattle.lists.specs.Sorted.{sum_of, ascending_from, ascending, stands, look, placed, without, kept}

-- One rank before another is not the same.
pub before_differs : (x y : List ℕ) → bytes_order x y ≡ Less → same_bytes x y ≡ false
before_differs x y e = false_unless (same_bytes x y) (λ q. not_before_self y (subst (λ (z : List ℕ). bytes_order z y ≡ Less) (are_same x y q) e))

pub after_differs : (x y : List ℕ) → bytes_order y x ≡ Less → same_bytes x y ≡ false
after_differs x y e = false_unless (same_bytes x y) (λ q. not_before_self y (subst (λ (z : List ℕ). bytes_order y z ≡ Less) (are_same x y q) e))

module _ {A : Type 0} (rank : A → List ℕ) where
  -- Rows after q are after all that is before q.
  pub after_more : (p q : List ℕ) (l : List A) → bytes_order p q ≡ Less → ascending_from rank q l ≡ true → ascending_from rank p l ≡ true
  unfolding ascending_from
  after_more p q [] h e = refl
  after_more p q (x ∷ l) h e =
      let t = both_true (is_less (bytes_order q (rank x))) _ e in
      both_hold (ap is_less (text_before p q (rank x) h (is_less_says _ t.0))) t.1

  pub ascending_rest : (p : List ℕ) (l : List A) → ascending_from rank p l ≡ true → ascending rank l ≡ true
  unfolding ascending_from ascending
  ascending_rest p [] e = refl
  ascending_rest p (x ∷ l) e = (both_true (is_less (bytes_order p (rank x))) _ e).1

  -- No row of rank k stands among rows that are all after it.
  pub none_after : (k : List ℕ) (l : List A) → ascending_from rank k l ≡ true → stands rank k l ≡ false
  unfolding ascending_from stands
  none_after k [] e = refl
  none_after k (x ∷ l) e =
      let t = both_true (is_less (bytes_order k (rank x))) _ e in
      let lt = is_less_says _ t.0 in
      rw (after_differs (rank x) k lt) (none_after k l (after_more k (rank x) l lt t.1))

  pub none_behind : (k p : List ℕ) (l : List A) → bytes_order k p ≡ Less → ascending_from rank p l ≡ true → stands rank k l ≡ false
  none_behind k p l lt e = none_after k l (after_more k p l lt e)

  pub look_none : (none : A) (k : List ℕ) (l : List A) → stands rank k l ≡ false → look rank none k l ≡ none
  unfolding stands look first_where
  look_none none k [] e = refl
  look_none none k (x ∷ l) e =
      by_test (λ (b : Bool). either b (stands rank k l) ≡ false → pick b x (look rank none k l) ≡ none) (same_bytes (rank x) k)
      (λ q e. absurd (clash refl e))
      (λ q e. look_none none k l e)
      e

  -- What is read of the row that is looked up goes by what is read of none.
  pub look_read : {B : Type 0} (f : A → B) (k : List ℕ) (x y : A) (l : List A) → f x ≡ f y → f (look rank x k l) ≡ f (look rank y k l)
  unfolding look first_where
  look_read f k x y [] e = e
  look_read f k x y (z ∷ l) e =
      by_test (λ (b : Bool). f (pick b z (look rank x k l)) ≡ f (pick b z (look rank y k l))) (same_bytes (rank z) k)
      (λ q. refl)
      (λ q. look_read f k x y l e)

  pub without_none : (k : List ℕ) (l : List A) → stands rank k l ≡ false → without rank k l ≡ l
  unfolding stands without
  without_none k [] e = refl
  without_none k (x ∷ l) e =
      by_test (λ (b : Bool). either b (stands rank k l) ≡ false → pick b l (x ∷ without rank k l) ≡ x ∷ l) (same_bytes (rank x) k)
      (λ q e. absurd (clash refl e))
      (λ q e. ap (λ (t : List A). x ∷ t) (without_none k l e))
      e

  -- What is looked up of a row's own rank: the row, and none where its place was given up.
  look_placed : (none x : A) (l : List A) → look rank none (rank x) (placed rank x l) ≡ x
  unfolding look first_where placed
  look_placed none x [] = rw (same_self (rank x))
  look_placed none x (y ∷ l) =
      split_text (λ (o : Ordering). look rank none (rank x) (by_order o (y ∷ placed rank x l) (x ∷ l) (x ∷ y ∷ l)) ≡ x) (rank y) (rank x)
      (λ lt. rw (before_differs (rank y) (rank x) lt) (look_placed none x l))
      (λ is. rw (same_self (rank x)))
      (λ gt. rw (same_self (rank x)))

  look_without : (none : A) (k : List ℕ) (l : List A) → ascending rank l ≡ true → look rank none k (without rank k l) ≡ none
  unfolding look first_where without ascending
  look_without none k [] a = refl
  look_without none k (x ∷ l) a =
      by_test (λ (b : Bool). look rank none k (pick b l (x ∷ without rank k l)) ≡ none) (same_bytes (rank x) k)
      (λ q. look_none none k l (none_after k l (subst (λ (p : List ℕ). ascending_from rank p l ≡ true) (are_same (rank x) k q) a)))
      (λ q. rw q (look_without none k l (ascending_rest (rank x) l a)))

  -- What is looked up of every other rank stays.
  other_placed : (none x : A) (k : List ℕ) (l : List A) → same_bytes (rank x) k ≡ false → look rank none k (placed rank x l) ≡ look rank none k l
  unfolding look first_where placed
  other_placed none x k [] d = rw d
  other_placed none x k (y ∷ l) d =
      split_text (λ (o : Ordering). look rank none k (by_order o (y ∷ placed rank x l) (x ∷ l) (x ∷ y ∷ l)) ≡ look rank none k (y ∷ l)) (rank y) (rank x)
      (λ lt. ap (λ (z : A). pick (same_bytes (rank y) k) y z) (other_placed none x k l d))
      (λ is. rw (is, d))
      (λ gt. rw d)

  other_without : (none : A) (j k : List ℕ) (l : List A) → same_bytes j k ≡ false → look rank none k (without rank j l) ≡ look rank none k l
  unfolding look first_where without
  other_without none j k [] d = refl
  other_without none j k (x ∷ l) d =
      by_test (λ (b : Bool). look rank none k (pick b l (x ∷ without rank j l)) ≡ pick (same_bytes (rank x) k) x (look rank none k l)) (same_bytes (rank x) j)
      (λ q. rw (are_same (rank x) j q, d))
      (λ q. ap (λ (z : A). pick (same_bytes (rank x) k) x z) (other_without none j k l d))

  -- The order stays.
  placed_after : (p : List ℕ) (x : A) (l : List A) → bytes_order p (rank x) ≡ Less → ascending_from rank p l ≡ true → ascending_from rank p (placed rank x l) ≡ true
  unfolding ascending_from placed
  placed_after p x [] h e = rw h
  placed_after p x (y ∷ l) h e =
      let t = both_true (is_less (bytes_order p (rank y))) _ e in
      split_text (λ (o : Ordering). ascending_from rank p (by_order o (y ∷ placed rank x l) (x ∷ l) (x ∷ y ∷ l)) ≡ true) (rank y) (rank x)
      (λ lt. both_hold t.0 (placed_after (rank y) x l lt t.1))
      (λ is. both_hold (ap is_less h) (subst (λ (q : List ℕ). ascending_from rank q l ≡ true) is t.1))
      (λ gt. both_hold (ap is_less h) (both_hold (ap is_less gt) t.1))

  placed_ascends : (x : A) (l : List A) → ascending rank l ≡ true → ascending rank (placed rank x l) ≡ true
  unfolding ascending ascending_from placed
  placed_ascends x [] e = refl
  placed_ascends x (y ∷ l) e =
      split_text (λ (o : Ordering). ascending rank (by_order o (y ∷ placed rank x l) (x ∷ l) (x ∷ y ∷ l)) ≡ true) (rank y) (rank x)
      (λ lt. placed_after (rank y) x l lt e)
      (λ is. subst (λ (q : List ℕ). ascending_from rank q l ≡ true) is e)
      (λ gt. both_hold (ap is_less gt) e)

  without_after : (p k : List ℕ) (l : List A) → ascending_from rank p l ≡ true → ascending_from rank p (without rank k l) ≡ true
  unfolding ascending_from without
  without_after p k [] e = refl
  without_after p k (x ∷ l) e =
      let t = both_true (is_less (bytes_order p (rank x))) _ e in
      picked (λ (m : List A). ascending_from rank p m ≡ true) (same_bytes (rank x) k) l (x ∷ without rank k l)
      (λ q. after_more p (rank x) l (is_less_says _ t.0) t.1)
      (λ q. both_hold t.0 (without_after (rank x) k l t.1))

  without_ascends : (k : List ℕ) (l : List A) → ascending rank l ≡ true → ascending rank (without rank k l) ≡ true
  unfolding ascending without
  without_ascends k [] e = refl
  without_ascends k (x ∷ l) e =
      picked (λ (m : List A). ascending rank m ≡ true) (same_bytes (rank x) k) l (x ∷ without rank k l)
      (λ q. ascending_rest (rank x) l e)
      (λ q. without_after (rank x) k l e)

  -- A test that all rows pass.
  module _ (test : A → Bool) where
    placed_every : (x : A) (l : List A) → test x ≡ true → every_line test l ≡ true → every_line test (placed rank x l) ≡ true
    unfolding every_line placed
    placed_every x [] h e = both_hold h refl
    placed_every x (y ∷ l) h e =
        let t = both_true (test y) _ e in
        split_text (λ (o : Ordering). every_line test (by_order o (y ∷ placed rank x l) (x ∷ l) (x ∷ y ∷ l)) ≡ true) (rank y) (rank x)
        (λ lt. both_hold t.0 (placed_every x l h t.1))
        (λ is. both_hold h t.1)
        (λ gt. both_hold h e)

    without_every : (k : List ℕ) (l : List A) → every_line test l ≡ true → every_line test (without rank k l) ≡ true
    unfolding every_line without
    without_every k [] e = refl
    without_every k (x ∷ l) e =
        let t = both_true (test x) _ e in
        picked (λ (m : List A). every_line test m ≡ true) (same_bytes (rank x) k) l (x ∷ without rank k l)
        (λ q. t.1)
        (λ q. both_hold t.0 (without_every k l t.1))

    pub look_every : (none : A) (k : List ℕ) (l : List A) → every_line test l ≡ true → stands rank k l ≡ true → (test (look rank none k l) ≡ true) × (rank (look rank none k l) ≡ k)
    unfolding every_line look first_where stands
    look_every none k [] e s = absurd (clash s refl)
    look_every none k (x ∷ l) e s =
        let t = both_true (test x) _ e in
        by_test (λ (b : Bool). either b (stands rank k l) ≡ true → (test (pick b x (look rank none k l)) ≡ true) × (rank (pick b x (look rank none k l)) ≡ k)) (same_bytes (rank x) k)
        (λ q s. (t.0, are_same (rank x) k q))
        (λ q s. look_every none k l t.1 s)
        s

  -- Room: a new row takes one place more, and a row that stands or is given up takes none.
  pub placed_longer : (x : A) (l : List A) → length (placed rank x l) ≤ length l + 1
  unfolding placed
  placed_longer x [] = omega arith
  placed_longer x (y ∷ l) =
      split_text (λ (o : Ordering). length (by_order o (y ∷ placed rank x l) (x ∷ l) (x ∷ y ∷ l)) ≤ suc (length l) + 1) (rank y) (rank x)
      (λ lt. let h = placed_longer x l in omega arith)
      (λ is. omega arith)
      (λ gt. omega arith)

  pub placed_over : (x : A) (l : List A) → ascending rank l ≡ true → stands rank (rank x) l ≡ true → length (placed rank x l) ≡ length l
  unfolding placed stands ascending
  placed_over x [] a s = absurd (clash s refl)
  placed_over x (y ∷ l) a s =
      split_text (λ (o : Ordering). length (by_order o (y ∷ placed rank x l) (x ∷ l) (x ∷ y ∷ l)) ≡ suc (length l)) (rank y) (rank x)
      (λ lt. ap suc (placed_over x l (ascending_rest (rank y) l a) (subst (λ (b : Bool). either b (stands rank (rank x) l) ≡ true) (before_differs (rank y) (rank x) lt) s)))
      (λ is. refl)
      (λ gt. absurd (clash (subst (λ (b : Bool). either b (stands rank (rank x) l) ≡ true) (after_differs (rank y) (rank x) gt) s) (none_behind (rank x) (rank y) l gt a)))

  pub without_shorter : (k : List ℕ) (l : List A) → length (without rank k l) ≤ length l
  unfolding without
  without_shorter k [] = omega arith
  without_shorter k (x ∷ l) =
      picked (λ (m : List A). length m ≤ suc (length l)) (same_bytes (rank x) k) l (x ∷ without rank k l)
      (λ q. omega arith)
      (λ q. let h = without_shorter k l in omega arith)

  -- Sums: what the row's rank had before goes, and what it has now comes.
  module _ (f : A → ℕ) (none : A) (nothing : f none ≡ 0) where
    sum_placed : (x : A) (l : List A) → ascending rank l ≡ true → sum_of f (placed rank x l) + f (look rank none (rank x) l) ≡ sum_of f l + f x
    unfolding sum_of placed look first_where ascending
    sum_placed x [] a = omega (arith, nothing)
    sum_placed x (y ∷ l) a =
        split_text (λ (o : Ordering). sum_of f (by_order o (y ∷ placed rank x l) (x ∷ l) (x ∷ y ∷ l)) + f (pick (same_bytes (rank y) (rank x)) y (look rank none (rank x) l)) ≡ f y + sum_of f l + f x) (rank y) (rank x)
        (λ lt. let h = sum_placed x l (ascending_rest (rank y) l a) in rw (before_differs (rank y) (rank x) lt) (omega arith))
        (λ is. rw (is, same_self (rank x)) (omega arith))
        (λ gt. rw (after_differs (rank y) (rank x) gt, look_none none (rank x) l (none_behind (rank x) (rank y) l gt a)) (omega (arith, nothing)))

    sum_without : (k : List ℕ) (l : List A) → sum_of f (without rank k l) + f (look rank none k l) ≡ sum_of f l
    unfolding sum_of without look first_where
    sum_without k [] = omega (arith, nothing)
    sum_without k (x ∷ l) =
        by_test (λ (b : Bool). sum_of f (pick b l (x ∷ without rank k l)) + f (pick b x (look rank none k l)) ≡ f x + sum_of f l) (same_bytes (rank x) k)
        (λ q. omega arith)
        (λ q. let h = sum_without k l in omega arith)

  -- The same of a row kept: put in its place, or its place given up where nothing is left of it.
  module _ (gone : A → Bool) (none x : A) (l : List A) (a : ascending rank l ≡ true) where
    pub kept_ascends : ascending rank (kept rank gone x l) ≡ true
    unfolding kept
    kept_ascends = picked (λ (m : List A). ascending rank m ≡ true) (gone x) (without rank (rank x) l) (placed rank x l) (λ q. without_ascends (rank x) l a) (λ q. placed_ascends x l a)

    pub look_kept : (gone x ≡ true → x ≡ none) → look rank none (rank x) (kept rank gone x l) ≡ x
    unfolding kept
    look_kept h =
        picked (λ (m : List A). look rank none (rank x) m ≡ x) (gone x) (without rank (rank x) l) (placed rank x l)
        (λ q. look_without none (rank x) l a ∙ sym (h q))
        (λ q. look_placed none x l)

    pub look_other : (k : List ℕ) → same_bytes (rank x) k ≡ false → look rank none k (kept rank gone x l) ≡ look rank none k l
    unfolding kept
    look_other k d =
        picked (λ (m : List A). look rank none k m ≡ look rank none k l) (gone x) (without rank (rank x) l) (placed rank x l)
        (λ q. other_without none (rank x) k l d)
        (λ q. other_placed none x k l d)

    pub kept_every : (test : A → Bool) → (gone x ≡ false → test x ≡ true) → every_line test l ≡ true → every_line test (kept rank gone x l) ≡ true
    unfolding kept
    kept_every test h e =
        picked (λ (m : List A). every_line test m ≡ true) (gone x) (without rank (rank x) l) (placed rank x l)
        (λ q. without_every test (rank x) l e)
        (λ q. placed_every test x l (h q) e)

    pub sum_kept : (f : A → ℕ) → f none ≡ 0 → (gone x ≡ true → x ≡ none) → sum_of f (kept rank gone x l) + f (look rank none (rank x) l) ≡ sum_of f l + f x
    unfolding kept
    sum_kept f z h =
        picked (λ (m : List A). sum_of f m + f (look rank none (rank x) l) ≡ sum_of f l + f x) (gone x) (without rank (rank x) l) (placed rank x l)
        (λ q. let k = sum_without f none z (rank x) l in let n : f x ≡ 0 = ap f (h q) ∙ z in omega arith)
        (λ q. sum_placed f none z x l a)

-- A place in rows in order: what the rows before it and at it say of a rank, and what is done at one row alone.
module _ {A : Type 0} (rank : A → List ℕ) (k : List ℕ) where
  -- No row of rank k stands where all rows before the place r are before k, and the row at r is after it.
  pub absent_between : (l : List A) (r : ℕ) (d : A) → ascending rank l ≡ true → r ≤ length l → ((i : ℕ) → i < r → bytes_order (rank (get_or l i d)) k ≡ Less) → (r < length l → bytes_order k (rank (get_or l r d)) ≡ Less) → stands rank k l ≡ false
  unfolding stands ascending
  absent_between [] r d a h below at = refl
  absent_between (x ∷ l) zero d a h below at = let lt = at (omega arith) in rw (after_differs (rank x) k lt) (none_behind rank k (rank x) l lt a)
  absent_between (x ∷ l) (suc r) d a h below at =
      rw (before_differs (rank x) k (below 0 (omega arith)))
      (absent_between l r d (ascending_rest rank (rank x) l a) (omega arith) (λ i lt. below (suc i) (omega arith)) (λ lt. at (omega arith)))

  -- The row at i of rank k is before none and after none of that rank.
  later_differs : (x : A) (l : List A) (i : ℕ) (d : A) → ascending_from rank (rank x) l ≡ true → i < length l → rank (get_or l i d) ≡ k → same_bytes (rank x) k ≡ false
  unfolding ascending_from
  later_differs x [] i d a h e = absurd (omega arith)
  later_differs x (y ∷ l) zero d a h e =
      let t = both_true (is_less (bytes_order (rank x) (rank y))) _ a in
      before_differs (rank x) k (subst (λ (q : List ℕ). bytes_order (rank x) q ≡ Less) e (is_less_says _ t.0))
  later_differs x (y ∷ l) (suc i) d a h e =
      let t = both_true (is_less (bytes_order (rank x) (rank y))) _ a in
      later_differs x l i d (after_more rank (rank x) (rank y) l (is_less_says _ t.0) t.1) (omega arith) e

  pub look_at : (none : A) (l : List A) (i : ℕ) (d : A) → ascending rank l ≡ true → i < length l → rank (get_or l i d) ≡ k → look rank none k l ≡ get_or l i d
  unfolding look first_where ascending
  look_at none [] i d a h e = absurd (omega arith)
  look_at none (x ∷ l) zero d a h e = rw (e, same_self k)
  look_at none (x ∷ l) (suc i) d a h e =
      rw (later_differs x l i d a (omega arith) e) (look_at none l i d (ascending_rest rank (rank x) l a) (omega arith) e)

  map_none : (f : A → A) (l : List A) → stands rank k l ≡ false → map (λ (x : A). pick (same_bytes (rank x) k) (f x) x) l ≡ l
  unfolding stands
  map_none f [] e = refl
  map_none f (x ∷ l) e =
      by_test (λ (b : Bool). either b (stands rank k l) ≡ false → pick b (f x) x ∷ map (λ (y : A). pick (same_bytes (rank y) k) (f y) y) l ≡ x ∷ l) (same_bytes (rank x) k)
      (λ q e. absurd (clash refl e))
      (λ q e. ap (λ (t : List A). x ∷ t) (map_none f l e))
      e

  -- What is done to the rows of rank k is done at i alone.
  pub map_at : (f : A → A) (l : List A) (i : ℕ) (d : A) → ascending rank l ≡ true → i < length l → rank (get_or l i d) ≡ k → map (λ (x : A). pick (same_bytes (rank x) k) (f x) x) l ≡ set l i (f (get_or l i d))
  unfolding ascending
  map_at f [] i d a h e = absurd (omega arith)
  map_at f (x ∷ l) zero d a h e =
      rw (e, same_self k) (ap (λ (t : List A). f x ∷ t) (map_none f l (none_after rank k l (subst (λ (q : List ℕ). ascending_from rank q l ≡ true) e a))))
  map_at f (x ∷ l) (suc i) d a h e =
      rw (later_differs x l i d a (omega arith) e) (ap (λ (t : List A). x ∷ t) (map_at f l i d (ascending_rest rank (rank x) l a) (omega arith) e))

-- Rows whose ranks stay, stay in order.
module _ {A : Type 0} (rank : A → List ℕ) (f : A → A) (same : (x : A) → rank (f x) ≡ rank x) where
  mapped_after : (p : List ℕ) (l : List A) → ascending_from rank p (map f l) ≡ ascending_from rank p l
  unfolding ascending_from
  mapped_after p [] = refl
  mapped_after p (x ∷ l) = rw (same x, mapped_after (rank x) l)

  pub mapped_ascends : (l : List A) → ascending rank (map f l) ≡ ascending rank l
  unfolding ascending
  mapped_ascends [] = refl
  mapped_ascends (x ∷ l) = rw (same x) (mapped_after (rank x) l)

-- In rows in order each row is before every later one.
module _ {A : Type 0} (rank : A → List ℕ) where
  after_at : (p : List ℕ) (l : List A) (j : ℕ) (d : A) → ascending_from rank p l ≡ true → j < length l → bytes_order p (rank (get_or l j d)) ≡ Less
  unfolding ascending_from
  after_at p [] j d a h = absurd (omega arith)
  after_at p (x ∷ l) zero d a h = is_less_says _ (both_true (is_less (bytes_order p (rank x))) _ a).0
  after_at p (x ∷ l) (suc j) d a h =
      let t = both_true (is_less (bytes_order p (rank x))) _ a in
      after_at p l j d (after_more rank p (rank x) l (is_less_says _ t.0) t.1) (omega arith)

  pub before_at : (l : List A) (i j : ℕ) (d : A) → ascending rank l ≡ true → i < j → j < length l → bytes_order (rank (get_or l i d)) (rank (get_or l j d)) ≡ Less
  unfolding ascending
  before_at [] i j d a lt h = absurd (omega arith)
  before_at (x ∷ l) i zero d a lt h = absurd (omega arith)
  before_at (x ∷ l) zero (suc j) d a lt h = after_at (rank x) l j d a (omega arith)
  before_at (x ∷ l) (suc i) (suc j) d a lt h = before_at l i j d (ascending_rest rank (rank x) l a) (omega arith) (omega arith)

  -- Rows in front of others in order are in order.
  front_after : (p : List ℕ) (l m : List A) → ascending_from rank p (l ++ m) ≡ true → ascending_from rank p l ≡ true
  unfolding ascending_from
  front_after p [] m a = refl
  front_after p (x ∷ l) m a =
      let t = both_true (is_less (bytes_order p (rank x))) _ a in
      both_hold t.0 (front_after (rank x) l m t.1)

  pub front_ascends : (l m : List A) → ascending rank (l ++ m) ≡ true → ascending rank l ≡ true
  unfolding ascending
  front_ascends [] m a = refl
  front_ascends (x ∷ l) m a = front_after (rank x) l m a

-- A sum of rows and others behind them is that of both.
pub sum_joined : {A : Type 0} (f : A → ℕ) (l m : List A) → sum_of f (l ++ m) ≡ sum_of f l + sum_of f m
unfolding sum_of
sum_joined f [] m = omega arith
sum_joined f (x ∷ l) m = let h = sum_joined f l m in omega arith

module _ {A : Type 0} where
  -- One of the rows is no more than their sum.
  pub one_of_all : (f : A → ℕ) (l : List A) (j : ℕ) (d : A) → j < length l → f (get_or l j d) ≤ sum_of f l
  unfolding sum_of
  one_of_all f [] j d lt = absurd (omega arith)
  one_of_all f (x ∷ l) zero d lt = omega arith
  one_of_all f (x ∷ l) (suc j) d lt = let h = one_of_all f l j d (omega arith) in omega arith

  -- A rank that stands among rows stands at a place: what holds of each such place holds.
  pub stands_at : (rank : A → List ℕ) (k : List ℕ) (d : A) (P : Type 0) (l : List A) → stands rank k l ≡ true → ((i : ℕ) → i < length l → rank (get_or l i d) ≡ k → P) → P
  unfolding stands
  stands_at rank k d P [] s h = absurd (clash s refl)
  stands_at rank k d P (x ∷ l) s h =
      by_test (λ (b : Bool). either b (stands rank k l) ≡ true → P) (same_bytes (rank x) k)
      (λ q s. h 0 (omega arith) (are_same (rank x) k q))
      (λ q s. stands_at rank k d P l s (λ i lt. h (suc i) (omega arith)))
      s
