-- Laws of columns, a number of each row in room for 128, and of the place of a series among rows in order (document 01, "The book": "unused
-- room is empty").
use Rattle.std.specs.Prelude.{◌≡◌, true, false, ℕ, zero, suc, ◌+◌, ◌<◌, ◌≤◌, get_or, take, set, replicate}
use Rattle.std.proofs.Math.Path.{refl, ap}
use Rattle.std.proofs.Common.{◌∙◌, arith, add-one, get_or-take}
use mathlib.Core.List.{List, [], ◌∷◌, ◌++◌, map, map-append}
use Rattle.std.proofs.Math.ListN.{length, length-take}
use Rattle.std.proofs.lemmas.List.{length-map}
use Rattle.std.proofs.Math.Seq.{take-suc}
use Rattle.laws.specs.Bytes.{same_bytes}
use Rattle.laws.specs.ByteLaws.{same_self}
use Rattle.lists.specs.Places.{full}
use Rattle.lists.specs.PlaceLaws.{length_full, set_end}
use Rattle.lists.specs.Sorted.{ascending}
use Rattle.lists.specs.SortedLaws.{before_differs, ascending_rest, before_at}
use Rattle.series.specs.declared.Series.{Series}
use Rattle.rows.specs.declared.Holding.{Holding}
use Rattle.rows.specs.Rows.{series_rank, holding_rank, same_series}
use Rattle.sound.specs.Checked.{column, place_in}

module _ {A : Type 0} (f : A → ℕ) where
  -- The column of no row is empty.
  pub column_none : (rows : List A) → replicate 128 0 ≡ column f (take 0 rows)
  unfolding column full
  column_none rows = refl

  pub column_long : (rows : List A) → length rows ≤ 128 → length (column f rows) ≡ 128
  unfolding column
  column_long rows few = length_full 128 0 (map f rows) (rw (length-map rows f) few)

  made_at : (rows : List A) (rest : List ℕ) (i : ℕ) (d : A) → i < length rows → get_or (map f rows ++ rest) i 0 ≡ f (get_or rows i d)
  made_at [] rest i d lt = absurd (omega arith)
  made_at (x ∷ rows) rest zero d lt = refl
  made_at (x ∷ rows) rest (suc i) d lt = made_at rows rest i d (omega arith)

  -- Of the first n rows: what is there of the row i, and the column of one row more.
  pub column_at : (d : A) (rows : List A) (n i : ℕ) → i < n → n ≤ length rows → get_or (column f (take n rows)) i 0 ≡ f (get_or rows i d)
  unfolding column full
  column_at d rows n i lt le =
      let inside : i < length (take n rows) = simp length-take (omega arith) in
      made_at (take n rows) _ i d inside ∙ ap f (get_or-take n rows i d lt)

  set_behind : {i : ℕ} (x : ℕ) (l : List ℕ) → length l ≡ i → i < 128 → set (full 128 0 l) i x ≡ full 128 0 (l ++ x ∷ [])
  set_behind x l size few = rw (← size) (set_end 128 0 x l (omega arith))

  pub column_next : (d : A) (rows : List A) (i : ℕ) {x : ℕ} {l : List ℕ} → l ≡ column f (take i rows) → i < length rows → i < 128 → x ≡ f (get_or rows i d) → set l i x ≡ column f (take (i + 1) rows)
  unfolding column
  column_next d rows i {x} {l} is lt few e =
      let size : length (map f (take i rows)) ≡ i = simp (length-map, length-take) (omega arith) in
      let more : map f (take (i + 1) rows) ≡ map f (take i rows) ++ x ∷ [] = rw (add-one i, take-suc rows i d lt, map-append, e) in
      rw (is, more) (set_behind x (map f (take i rows)) size few)

-- Columns that say the same of each row are one.
made_same : {A : Type 0} (f g : A → ℕ) (d : A) (rows : List A) → ((i : ℕ) → i < length rows → f (get_or rows i d) ≡ g (get_or rows i d)) → map f rows ≡ map g rows
made_same f g d [] h = refl
made_same f g d (x ∷ rows) h = λ i. h zero (omega arith) i ∷ made_same f g d rows (λ k lt. h (suc k) (omega arith)) i

pub column_same : {A : Type 0} (f g : A → ℕ) (d : A) (rows : List A) → ((i : ℕ) → i < length rows → f (get_or rows i d) ≡ g (get_or rows i d)) → column f rows ≡ column g rows
unfolding column
column_same f g d rows h = ap (full 128 0) (made_same f g d rows h)

-- Among rows in order, the place of a series is that of the row that has it.
place_at : (s : Series) (d : Holding) (hs : List Holding) (i : ℕ) → ascending holding_rank hs ≡ true → i < length hs → holding_rank (get_or hs i d) ≡ series_rank s → place_in hs s ≡ i
unfolding place_in same_series holding_rank ascending
place_at s d [] i a lt e = absurd (omega arith)
place_at s d (h ∷ hs) zero a lt e = rw (e, same_self (series_rank s))
place_at s d (h ∷ hs) (suc i) a lt e =
    let other : same_bytes (series_rank h.series) (series_rank s) ≡ false = before_differs _ _ (rw e at (before_at holding_rank (h ∷ hs) 0 (suc i) d a (omega arith) lt)) in
    rw other (ap suc (place_at s d hs i (ascending_rest holding_rank (holding_rank h) hs a) (omega arith) e))

pub place_row : {s : Series} (d : Holding) (rows : List Holding) (held i : ℕ) → ascending holding_rank (take held rows) ≡ true → held ≤ length rows → i < held → (get_or rows i d).series ≡ s → place_in (take held rows) s ≡ i
unfolding holding_rank
place_row {s} d rows held i order room lt is =
    let inside : i < length (take held rows) = simp length-take (omega arith) in
    place_at s d (take held rows) i order inside (rw (get_or-take held rows i d lt, is))
