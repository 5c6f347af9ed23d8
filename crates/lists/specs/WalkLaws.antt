-- Laws of loops over the first n rows of an array: a test of every row, the row of a rank, and the order of each row and the next.
use Rattle.std.specs.Prelude.{◌≡◌, Bool, true, false, not, get_or, take, drop, Some, cond}
use Rattle.std.proofs.Math.Path.{refl, ap, sym}
use Rattle.std.proofs.Common.{◌∙◌, drop_of_length-le, length-drop, take_all}
use mathlib.Core.List.{List, [], ◌∷◌}
use Prim.Native.Nat.{ℕ, zero, suc, ◌+◌, ◌-◌, ◌<◌, ◌≤◌, min}
use native.Mathlib.Omega.{arith}
use Rattle.std.proofs.Math.Numerals.{add-one}
use Rattle.std.proofs.Math.Decide.{dec_lt}
use Rattle.std.proofs.Math.ListN.{length, length-take}
use Rattle.std.proofs.Math.Seq.{drop-cons, get_or-take}
use Rattle.laws.specs.Truth.{pick, both}
use Rattle.std.specs.List.{list_all, find}
use Rattle.std.specs.Option.{unwrap_or}
use Rattle.laws.specs.TruthLaws.{failed, passed, both_and}
use Rattle.laws.specs.Search.{every_line, first_where}
use Rattle.laws.specs.Bytes.{same_bytes}
use Rattle.laws.specs.Order.{is_less, is_same, bytes_order}
use Rattle.laws.specs.OrderLaws.{same_in_order}
use Rattle.lists.specs.Sorted.{ascending, ascending_from, look}

-- A walk over the first n rows: where it ends, and what it reads at i.
pub live_length : {A : Type 0} (rows items : List A) (n : ℕ) → items ≡ take n rows → length items ≡ min n (length rows)
live_length rows items n are = ap length are ∙ length-take n rows

-- And the rows behind them.
pub behind_live : {A : Type 0} (rows : List A) (n m : ℕ) → m ≡ min n (length rows) → take (length rows - m) (drop m rows) ≡ drop n rows
behind_live rows n m e = take_all (length rows - m) (drop m rows) (simp length-drop (omega arith)) ∙ go (dec_lt n (length rows))
  where
    go : Dec (n < length rows) → drop m rows ≡ drop n rows
    go (yes h) = ap (λ (k : ℕ). drop k rows) (omega arith)
    go (no h) =
        let p : length rows ≤ m = omega arith in
        let q : length rows ≤ n = omega arith in
        rw (drop_of_length-le rows p, drop_of_length-le rows q)

module _ {A : Type 0} (rows items : List A) (n i : ℕ) (are : items ≡ take n rows) (lt : i < length items) where
  pub in_live : i < n
  in_live = omega (arith, live_length rows items n are)

  pub in_rows : i < length rows
  in_rows = omega (arith, live_length rows items n are)

  pub reads_row : (d : A) → d ≡ get_or items i d → d ≡ get_or rows i d
  reads_row d e = e ∙ ap (λ (l : List A). get_or l i d) are ∙ get_or-take n rows i d in_live

-- A test of the first n rows, from the row i on.
module _ {A : Type 0} (test : A → Bool) (rows : List A) (n : ℕ) where
  unfoldable pub every_from : ℕ → Bool
  every_from i = every_line test (drop i (take n rows))

  pub every_start : every_line test (take n rows) ≡ every_from 0
  unfolding every_from
  every_start = refl

  -- the rows behind the first i, where n is all of them
  pub every_behind : (i : ℕ) → length rows ≤ n → every_line test (drop i rows) ≡ every_from i
  unfolding every_from
  every_behind i h = rw (take_all n rows h)

  pub every_end : (i : ℕ) → n ≤ i → every_from i ≡ true
  unfolding every_from every_line
  every_end i h =
      let short : length (take n rows) ≤ i = simp length-take (omega arith) in
      simp (drop_of_length-le (take n rows) short)

  module _ (i : ℕ) (d : A) (lt : i < n) (le : n ≤ length rows) where
    every_step : every_from i ≡ both (test (get_or rows i d)) (every_from (i + 1))
    unfolding every_from every_line
    every_step = rw (drop-cons (take n rows) i d (simp length-take (omega arith)), get_or-take n rows i d lt, add-one i)

    pub every_no : {x : Bool} → x ≡ test (get_or rows i d) → not x ≡ true → every_from i ≡ false
    every_no e h = every_step ∙ rw (failed e h)

    pub every_yes : {x : Bool} → x ≡ test (get_or rows i d) → not x ≡ false → every_from i ≡ every_from (i + 1)
    every_yes e h = every_step ∙ rw (passed e h)

-- A test of every row is std's `all`.
pub as_all : {A : Type 0} (test : A → Bool) (l : List A) → every_line test l ≡ list_all test l
unfolding every_line
as_all test [] = refl
as_all test (x ∷ l) = simp (as_all test l) (both_and (test x) (list_all test l))

-- The row of a rank is what std's `find` finds.
pub as_find : {A : Type 0} (rank : A → List ℕ) (none : A) (k : List ℕ) (l : List A) → look rank none k l ≡ unwrap_or (find (λ (x : A). is_same (bytes_order (rank x) k)) l) none
unfolding look first_where
as_find rank none k [] = refl
as_find {A = A} rank none k (x ∷ l) = rw (sym (same_in_order (rank x) k)) (go (is_same (bytes_order (rank x) k)) (as_find rank none k l))
  where
    go : (b : Bool) → look rank none k l ≡ unwrap_or (find (λ (y : A). is_same (bytes_order (rank y) k)) l) none → pick b x (look rank none k l) ≡ unwrap_or (cond b (Some x) (find (λ (y : A). is_same (bytes_order (rank y) k)) l)) none
    go true e = refl
    go false e = e

-- The row of rank k among the first n rows, from the row i on.
module _ {A : Type 0} (rank : A → List ℕ) (none : A) (k : List ℕ) (rows : List A) (n : ℕ) where
  unfoldable pub look_from : ℕ → A
  look_from i = look rank none k (drop i (take n rows))

  pub look_start : look rank none k (take n rows) ≡ look_from 0
  unfolding look_from
  look_start = refl

  pub look_end : (i : ℕ) → min n (length rows) ≤ i → look_from i ≡ none
  unfolding look_from look first_where
  look_end i h =
      let short : length (take n rows) ≤ i = simp length-take (omega arith) in
      simp (drop_of_length-le (take n rows) short)

  module _ (i : ℕ) (d : A) (lt : i < n) (le : i < length rows) {x : Bool} (e : x ≡ same_bytes (rank (get_or rows i d)) k) where
    look_step : look_from i ≡ pick x (get_or rows i d) (look_from (i + 1))
    unfolding look_from look first_where
    look_step = rw (drop-cons (take n rows) i d (simp length-take (omega arith)), get_or-take n rows i d lt, ← e, add-one i)

    pub look_here : x ≡ true → look_from i ≡ get_or rows i d
    look_here h = look_step ∙ rw h

    pub look_on : x ≡ false → look_from i ≡ look_from (i + 1)
    look_on h = look_step ∙ rw h

-- The order of the first n rows: what is left to see once the row before i is known to stand.
module _ {A : Type 0} (rank : A → List ℕ) (rows : List A) (n : ℕ) (d : A) where
  unfoldable pub rising_from : ℕ → Bool
  rising_from i = ascending_from rank (rank (get_or rows (i - 1) d)) (drop i (take n rows))

  pub rising_start : n ≤ length rows → ascending rank (take n rows) ≡ rising_from 1
  unfolding rising_from ascending ascending_from
  rising_start = go n rows
    where
      go : (n : ℕ) (rows : List A) → n ≤ length rows → ascending rank (take n rows) ≡ ascending_from rank (rank (get_or rows 0 d)) (drop 1 (take n rows))
      go zero rows h = refl
      go (suc n) [] h = absurd (omega arith)
      go (suc n) (x ∷ rows) h = refl

  pub rising_end : (i : ℕ) → n ≤ i → rising_from i ≡ true
  unfolding rising_from ascending_from
  rising_end i h =
      let short : length (take n rows) ≤ i = simp length-take (omega arith) in
      simp (drop_of_length-le (take n rows) short)

  module _ (i : ℕ) (some : 0 < i) (lt : i < n) (le : n ≤ length rows) where
    rising_step : rising_from i ≡ both (is_less (bytes_order (rank (get_or rows (i - 1) d)) (rank (get_or rows i d)))) (rising_from (i + 1))
    unfolding rising_from ascending_from
    rising_step =
        let e : i + 1 - 1 ≡ i = omega arith in
        rw (e, drop-cons (take n rows) i d (simp length-take (omega arith)), get_or-take n rows i d lt, add-one i)

    pub rising_no : {x : Bool} → x ≡ is_less (bytes_order (rank (get_or rows (i - 1) d)) (rank (get_or rows i d))) → not x ≡ true → rising_from i ≡ false
    rising_no e h = rising_step ∙ rw (failed e h)

    pub rising_yes : {x : Bool} → x ≡ is_less (bytes_order (rank (get_or rows (i - 1) d)) (rank (get_or rows i d))) → not x ≡ false → rising_from i ≡ rising_from (i + 1)
    rising_yes e h = rising_step ∙ rw (passed e h)
