-- Laws of digits: what a text has to be to write a number, how wide a number is, and how many digits are printed.
use Rattle.std.specs.Prelude.{◌≡◌, refl, Bool, true, false, List, [], ◌∷◌, ◌++◌, ℕ, zero, suc, ◌+◌, ◌/◌, ◌^◌, ◌≤◌, ◌<◌, ltb, length, get_or}
use Rattle.std.proofs.Common.{◌∙◌, append_assoc, add-zero, arith}
use Rattle.std.proofs.Math.Nat.{pow-le-pow_right}
use borrow.Author.Tests.{lt-ltb, le-ltb, le-leb, lt-leb, eq-eqb, ne_eqb}
use Rattle.laws.specs.Truth.{pick}
use Rattle.laws.specs.TruthLaws.{by_test}
use Rattle.laws.specs.Search.{every_line}
use Rattle.laws.specs.Text.{byte}
use Rattle.digits.specs.Digits.{is_digit, no_leading_zero, is_number, is_fixed, figure_of, no_figure, digit, fixed_before, fixed, width_in, width_of, numerals}

-- Reading.

-- A digit more than eight fits 32 bits.
pub few_digits : (i : ℕ) → i ≤ 8 → 10 ^ i ≤ 100000000
few_digits i h = pow-le-pow_right {n = 10} (omega arith) h

-- A text that has not the form reads as nothing; one of which only the digits are left to be seen reads as they do.
not_right : {b : Bool} (t : List ℕ) → b ≡ false → no_figure ≡ figure_of b t
unfolding figure_of
not_right t e = rw e

module _ (t : List ℕ) where
  pub number_empty : length t ≡ 0 → no_figure ≡ figure_of (is_number t) t
  unfolding is_number
  number_empty h = not_right t (simp (lt-leb 1 (length t) (omega arith)))

  pub number_long : 9 < length t → no_figure ≡ figure_of (is_number t) t
  unfolding is_number
  number_long h = not_right t (simp (le-leb 1 (length t) (omega arith), lt-leb (length t) 9 h))

  pub number_zero : 1 < length t → length t ≤ 9 → get_or t 0 0 ≡ byte "0" → no_figure ≡ figure_of (is_number t) t
  unfolding is_number no_leading_zero
  number_zero h k e = not_right t (simp (le-leb 1 (length t) (omega arith), le-leb (length t) 9 k, lt-leb (length t) 1 h, eq-eqb _ _ e))

  pub number_one : (length t ≡ 0 → ⊥) → length t ≤ 1 → figure_of (every_line is_digit t) t ≡ figure_of (is_number t) t
  unfolding is_number no_leading_zero
  number_one h k = simp (le-leb 1 (length t) (omega arith), le-leb (length t) 9 (omega arith), le-leb (length t) 1 k)

  pub number_more : 1 < length t → length t ≤ 9 → (get_or t 0 0 ≡ byte "0" → ⊥) → figure_of (every_line is_digit t) t ≡ figure_of (is_number t) t
  unfolding is_number no_leading_zero
  number_more h k n = simp (le-leb 1 (length t) (omega arith), le-leb (length t) 9 k, lt-leb (length t) 1 h, ne_eqb _ _ n)

  module _ (width : ℕ) where
    pub fixed_other : width ≤ 9 → (length t ≡ width → ⊥) → no_figure ≡ figure_of (is_fixed width t) t
    unfolding is_fixed
    fixed_other h n = not_right t (simp (le-leb width 9 h, ne_eqb _ _ n))

    pub fixed_right : width ≤ 9 → length t ≡ width → figure_of (every_line is_digit t) t ≡ figure_of (is_fixed width t) t
    unfolding is_fixed
    fixed_right h e = simp (le-leb width 9 h, eq-eqb _ _ e)

-- The width of a number.

-- Counting the digits of n has come to m with w of them counted.
pub record Counting (n w m : ℕ) : Type 0 where
  pub left : ℕ
  pub turns : w + left ≡ 20
  pub small : m < 10 ^ suc left
  pub goes : w + width_in left m ≡ suc (width_of n)

pub counting_starts : (n : ℕ) → n < 18446744073709551616 → Counting n 1 n
unfolding width_of
counting_starts n h = record { left = 19; turns = refl; small = omega arith; goes = omega arith }

count_on : (n w m left : ℕ) → w + left ≡ 20 → m < 10 ^ suc left → w + width_in left m ≡ suc (width_of n) → 9 < m → Counting n (w + 1) (m / 10)
unfolding width_in
count_on n w m zero e h g k = absurd (omega arith)
count_on n w m (suc left) e h g k =
    record { left = left; turns = omega arith; small = omega arith; goes = omega (arith, simp (lt-ltb 9 m k) at g) }

pub counts_on : {n w m : ℕ} → Counting n w m → 9 < m → Counting n (w + 1) (m / 10)
counts_on {n} {w} {m} g h = count_on n w m g.left g.turns g.small g.goes h

width_one : (most m : ℕ) → m ≤ 9 → width_in most m ≡ 1
unfolding width_in
width_one zero m h = refl
width_one (suc most) m h = simp (le-ltb 9 m h)

pub counts_out : {n w m : ℕ} → Counting n w m → m ≤ 9 → w ≡ width_of n
counts_out {m = m} g h = omega (arith, g.goes, width_one g.left m h)

-- A number below a power of ten has at most so many digits.
width_below : (most w n : ℕ) → n < 10 ^ suc w → width_in most n ≤ suc w
unfolding width_in
width_below zero w n h = omega arith
width_below (suc most) zero n h = rw (le-ltb 9 n (omega arith)) (omega arith)
width_below (suc most) (suc w) n h =
    by_test (λ (b : Bool). pick b (suc (width_in most (n / 10))) 1 ≤ suc (suc w)) (ltb 9 n)
    (λ (_ : ltb 9 n ≡ true). omega (arith, width_below most w (n / 10) (omega arith)))
    (λ (_ : ltb 9 n ≡ false). omega arith)

width_most : (most n : ℕ) → width_in most n ≤ suc most
unfolding width_in
width_most zero n = omega arith
width_most (suc most) n =
    by_test (λ (b : Bool). pick b (suc (width_in most (n / 10))) 1 ≤ suc (suc most)) (ltb 9 n)
    (λ (_ : ltb 9 n ≡ true). omega (arith, width_most most (n / 10)))
    (λ (_ : ltb 9 n ≡ false). omega arith)

pub width_few : (n : ℕ) → width_of n ≤ 20
unfolding width_of
width_few n = width_most 19 n

-- How many digits are printed.
length_before : (w n : ℕ) (rest : List ℕ) → length (fixed_before w n rest) ≡ w + length rest
unfolding fixed_before
length_before zero n rest = omega arith
length_before (suc w) n rest = length_before w (n / 10) (digit n ∷ rest) ∙ omega arith

pub length_fixed : (w n : ℕ) → length (fixed w n) ≡ w
unfolding fixed
length_fixed w n = length_before w n [] ∙ add-zero w

-- The last digit stands behind the others.
before_is : (w n : ℕ) (rest : List ℕ) → fixed_before w n rest ≡ fixed w n ++ rest
unfolding fixed fixed_before
before_is zero n rest = refl
before_is (suc w) n rest = before_is w (n / 10) (digit n ∷ rest) ∙ rw (before_is w (n / 10) (digit n ∷ []), append_assoc)

pub fixed_last : (w n : ℕ) → fixed (suc w) n ≡ fixed w (n / 10) ++ (digit n ∷ [])
unfolding fixed fixed_before
fixed_last w n = before_is w (n / 10) (digit n ∷ [])

pub numerals_few : (w n : ℕ) → 0 < w → n < 10 ^ w → length (numerals n) ≤ w
unfolding numerals width_of
numerals_few zero n h k = absurd (omega arith)
numerals_few (suc w) n h k = rw (length_fixed (width_in 19 n) n) (width_below 19 w n k)
