-- A line's number and its place among the lines, by its letter's group and by what its cells say.
use Rattle.std.specs.Prelude.{◌≡◌, refl, Bool, true, false, not, List, [], ◌∷◌, ℕ, zero, suc, ◌<◌, ◌≤◌, eqb, ltb}
use Rattle.std.proofs.Common.{sym, arith}
use borrow.Author.Tests.{lt-ltb, le-ltb, ne_eqb}
use Rattle.std.specs.declared.cmp.Ordering.{Ordering}
use Rattle.laws.specs.Truth.{pick, either}
use Rattle.laws.specs.Text.{byte}
use Rattle.laws.specs.Checks.{◌unless◌, first_failing, numbered, or_else}
use Rattle.laws.specs.CheckLaws.{first_of_two}
use Rattle.laws.specs.Order.{is_less, then_by, order_of, bytes_order}
use Rattle.laws.specs.OrderLaws.{is_same_lem, then_same, split}
use Rattle.series.specs.Key.{key, series_order}
use Rattle.lines.specs.declared.Cell.{Cell}
use Rattle.sheet_lines.specs.Lines.{Line, head, future, option, stock, price, formless, cell, figure, future_from, option_from, stock_from, price_from, said, rank, own_checks, is_head, checks_by}
use Rattle.sheet_lines.specs.Facts.{group_for, number_for}

-- By the letter: what holds of each group and what its lines say, and of no line, holds.
module _ (P : Bool → ℕ → Line → Type 0) (cs : List Cell)
    (h : P true 1 (head (figure cs 0))) (f : P false 2 (future (future_from cs))) (o : P false 3 (option (option_from cs)))
    (s : P false 4 (stock (stock_from cs))) (q : P false 5 (price (price_from cs))) (x : P false 0 formless) where
  by_tests : (a b c d e : Bool) → P a (pick a 1 (pick b 2 (pick c 3 (pick d 4 (pick e 5 0)))))
      (pick a (head (figure cs 0)) (pick b (future (future_from cs)) (pick c (option (option_from cs)) (pick d (stock (stock_from cs)) (pick e (price (price_from cs)) formless)))))
  by_tests true b c d e = h
  by_tests false true c d e = f
  by_tests false false true d e = o
  by_tests false false false true e = s
  by_tests false false false false true = q
  by_tests false false false false false = x

  pub by_letter_lem : (letter : ℕ) → P (eqb letter (byte "D")) (group_for letter) (said letter cs)
  unfolding group_for said
  by_letter_lem letter = by_tests (eqb letter (byte "D")) (eqb letter (byte "F")) (eqb letter (byte "O")) (eqb letter (byte "S")) (eqb letter (byte "Q"))

-- Every check of a line refuses by a number.
own_numbered : (x : Line) → numbered (own_checks x) ≡ true
unfolding numbered own_checks
own_numbered (head day) = refl
own_numbered (future r) = refl
own_numbered (option r) = refl
own_numbered (stock r) = refl
own_numbered (price r) = refl
own_numbered formless = refl

pub line_numbered : (first in_order : Bool) (x : Line) → numbered (checks_by first in_order x) ≡ true
unfolding numbered checks_by own_checks
line_numbered first in_order (head day) = refl
line_numbered first in_order (future r) = refl
line_numbered first in_order (option r) = refl
line_numbered first in_order (stock r) = refl
line_numbered first in_order (price r) = refl
line_numbered first in_order formless = refl

-- A line's number: 1 where the first is not a D line, then its own, then 3.
pub number_is : (letter : ℕ) (cs : List Cell) (last : ℕ) (before : List Cell)
    → pick (either (not (eqb last 0)) (eqb letter (byte "D"))) (or_else (first_failing (own_checks (said letter cs))) (pick (is_less (bytes_order (rank (said last before)) (rank (said letter cs)))) 0 3)) 1
    ≡ number_for letter cs last before
unfolding number_for checks_by first_failing
number_is letter cs last before =
    rw (
      first_of_two (own_checks (said letter cs)) (3 unless is_less (bytes_order (rank (said last before)) (rank (said letter cs))) ∷ []) (own_numbered (said letter cs)),
      by_letter_lem (λ d g x. is_head x ≡ d) cs refl refl refl refl refl refl letter,
    )

pub number_steps : (letter : ℕ) (cs : List Cell) (last : ℕ) (before : List Cell)
    → number_for letter cs last before
    ≡ pick (either (not (eqb last 0)) (eqb letter (byte "D"))) (or_else (first_failing (own_checks (said letter cs))) (pick (is_less (bytes_order (rank (said last before)) (rank (said letter cs)))) 0 3)) 1
number_steps letter cs last before = sym (number_is letter cs last before)

-- A line's rank by its group: behind the group nothing in a D line, the series' key in a Q line, else the code.
key_for : ℕ → List Cell → List ℕ
key_for group cs = pick (eqb group 1) [] (pick (eqb group 5) (key (price_from cs).series ∷ []) (cell cs 0).code)

rank_for : ℕ → List Cell → List ℕ
rank_for zero cs = []
rank_for (suc n) cs = suc n ∷ key_for (suc n) cs

rank_is : (letter : ℕ) (cs : List Cell) → rank (said letter cs) ≡ rank_for (group_for letter) cs
unfolding rank future_from option_from stock_from price_from rank_for key_for
rank_is letter cs = by_letter_lem (λ d g x. rank x ≡ rank_for g cs) cs refl refl refl refl refl refl letter

-- Lines of two groups go by their groups, and those of one by what stands behind it.
other_group : (m n : ℕ) (cs ds : List Cell) → (m ≡ n → ⊥) → ltb m n ≡ is_less (bytes_order (rank_for m cs) (rank_for n ds))
unfolding bytes_order rank_for
other_group zero zero cs ds h = absurd (h refl)
other_group zero (suc n) cs ds h = lt-ltb 0 (suc n) (omega arith)
other_group (suc m) zero cs ds h = le-ltb (suc m) 0 (omega arith)
other_group (suc m) (suc n) cs ds h =
    split (λ (o : Ordering). ltb (suc m) (suc n) ≡ is_less (then_by o (bytes_order (key_for (suc m) cs) (key_for (suc n) ds)))) (suc m) (suc n)
    (λ lt. lt-ltb (suc m) (suc n) lt)
    (λ is. absurd (h is))
    (λ gt. le-ltb (suc m) (suc n) (omega arith))

one_group : (n : ℕ) (cs ds : List Cell) → 0 < n → bytes_order (rank_for n cs) (rank_for n ds) ≡ bytes_order (key_for n cs) (key_for n ds)
unfolding bytes_order rank_for
one_group zero cs ds h = absurd (omega arith)
one_group (suc n) cs ds h = rw (sym (is_same_lem {m = suc n} refl))

by_nothing : (n : ℕ) (cs ds : List Cell) → n ≤ 1 → false ≡ is_less (bytes_order (rank_for n cs) (rank_for n ds))
unfolding bytes_order rank_for key_for order_of
by_nothing zero cs ds h = refl
by_nothing (suc zero) cs ds h = refl
by_nothing (suc (suc n)) cs ds h = absurd (omega arith)

-- A line is after the one before it, by the groups of both.
module _ (last letter : ℕ) (before cells : List Cell) {m n : ℕ} (is : m ≡ group_for last) (it : n ≡ group_for letter) where
  abbrev After : Bool → Type 0
  After b = b ≡ is_less (bytes_order (rank (said last before)) (rank (said letter cells)))

  pub later_group : (m ≡ n → ⊥) → After (ltb m n)
  later_group h = rw (rank_is last before, rank_is letter cells, ← is, ← it) (other_group m n before cells h)

  module _ (same : m ≡ n) where
    same_group : {b : Bool} → b ≡ is_less (bytes_order (rank_for n before) (rank_for n cells)) → After b
    same_group e = rw (rank_is last before, rank_is letter cells, ← is, ← it, same) e

    pub none_after : n ≤ 1 → After false
    none_after h = same_group (by_nothing n before cells h)

    pub after_series : n ≡ 5 → After (is_less (series_order (price_from before).series (price_from cells).series))
    unfolding bytes_order series_order key_for
    after_series h = same_group (rw (one_group n before cells (omega arith), h, then_same))

    pub after_code : 1 < n → (n ≡ 5 → ⊥) → After (is_less (bytes_order (cell before 0).code (cell cells 0).code))
    unfolding key_for
    after_code h k = same_group (rw (one_group n before cells (omega arith), ne_eqb n 1 (λ (e : n ≡ 1). omega arith), ne_eqb n 5 k))
