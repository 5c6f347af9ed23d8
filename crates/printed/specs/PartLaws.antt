-- Numbers in two parts: the digits of a number are those of its front, then so many of its last.
use Rattle.std.specs.Prelude.{◌≡◌, refl, Bool, true, false, [], ◌∷◌, ◌++◌, ℕ, zero, suc, ◌+◌, ◌-◌, ◌*◌, ◌/◌, ◌%◌, ◌^◌, ◌≤◌, ◌<◌, ltb}
use Rattle.std.proofs.Common.{sym, ◌∙◌, ap, append_assoc, append-nil, pow-suc, mul_comm, add-zero, add-suc, suc-add, zero-add, div-one, div-le_self, arith, lt-ltb, le-ltb}
use Rattle.std.proofs.Math.Nat.{div-div-eq-div-mul, pow-le-pow_right}
use Rattle.std.proofs.Math.Arith.{mod-mul}
use Rattle.laws.specs.Truth.{pick}
use Rattle.laws.specs.TruthLaws.{by_test}
use Rattle.laws.specs.Text.{byte}
use Rattle.digits.specs.Digits.{digit, fixed_before, fixed, width_in, width_of, numerals}
use Rattle.digits.specs.FigureLaws.{fixed_last}

some_power : (w : ℕ) → 0 < 10 ^ w
some_power w =
    let l : 0 ≤ w = omega arith in
    let p : 10 ^ 0 ≤ 10 ^ w = pow-le-pow_right {n = 10} (omega arith) l in
    omega arith

front_power : (n w : ℕ) → n / 10 / 10 ^ w ≡ n / 10 ^ suc w
front_power n w = rw (pow-suc 10 w, mul_comm (10 ^ w) 10) (div-div-eq-div-mul n 10 (10 ^ w))

-- The last digits of a number are those of its rest.
pub fixed_rest : (w n : ℕ) → fixed w (n % 10 ^ w) ≡ fixed w n
unfolding fixed fixed_before
fixed_rest zero n = refl
fixed_rest (suc w) n =
    let e : n % 10 ^ suc w ≡ (n / 10 % 10 ^ w) * 10 + n % 10 = rw (pow-suc 10 w) (mod-mul n (some_power w) (omega arith)) in
    let q : n % 10 ^ suc w / 10 ≡ n / 10 % 10 ^ w = omega (arith, e) in
    let r : n % 10 ^ suc w % 10 ≡ n % 10 = omega (arith, e) in
    fixed_last w (n % 10 ^ suc w) ∙ rw (q, r, fixed_rest w (n / 10)) (sym (fixed_last w n))

fixed_split : (v w n : ℕ) → fixed (v + w) n ≡ fixed v (n / 10 ^ w) ++ fixed w n
unfolding fixed fixed_before
fixed_split v zero n = rw (add-zero v, div-one n, append-nil (fixed v n))
fixed_split v (suc w) n =
    rw (add-suc v w, fixed_last (v + w) n, fixed_split v w (n / 10), front_power n w, fixed_last w n) (append_assoc (fixed v (n / 10 ^ suc w)) (fixed w (n / 10)) (digit n ∷ []))

-- Digits, zeros kept.
pub fixed_parts : (v w n : ℕ) → fixed (v + w) n ≡ fixed v (n / 10 ^ w) ++ fixed w (n % 10 ^ w)
fixed_parts v w n = rw (fixed_rest w n) (fixed_split v w n)

-- Counting with more room counts the same.
width_room : (more most n : ℕ) → n < 10 ^ suc most → width_in (most + more) n ≡ width_in most n
unfolding width_in
width_room zero most n h = rw (add-zero most)
width_room (suc more) zero n h = rw (zero-add (suc more), le-ltb 9 n (omega arith))
width_room (suc more) (suc most) n h =
    rw (suc-add most (suc more))
    (by_test (λ (b : Bool). pick b (suc (width_in (most + suc more) (n / 10))) 1 ≡ pick b (suc (width_in most (n / 10))) 1) (ltb 9 n)
    (λ (_ : ltb 9 n ≡ true). rw (width_room (suc more) most (n / 10) (omega arith)))
    (λ (_ : ltb 9 n ≡ false). refl))

width_split : (w most n : ℕ) → 10 ^ w ≤ n → width_in (w + most) n ≡ width_in most (n / 10 ^ w) + w
unfolding width_in
width_split zero most n h = rw (zero-add most, div-one n, add-zero (width_in most n))
width_split (suc w) most n h =
    let p = some_power w in
    let l : 10 ^ w ≤ n / 10 = omega arith in
    rw (suc-add w most, lt-ltb 9 n (omega arith), width_split w most (n / 10) l, front_power n w) (sym (add-suc (width_in most (n / 10 ^ suc w)) w))

-- As many digits as needed.
pub numerals_parts : (w n : ℕ) → w ≤ 8 → 10 ^ w ≤ n → n < 10000000000 → numerals n ≡ numerals (n / 10 ^ w) ++ fixed w (n % 10 ^ w)
unfolding numerals width_of
numerals_parts w n few h k =
    let whole : w + (19 - w) ≡ 19 = omega arith in
    let room : 19 - w + w ≡ 19 = omega arith in
    let many : 10 ≤ suc (19 - w) = omega arith in
    let power : 10 ^ 10 ≤ 10 ^ suc (19 - w) = pow-le-pow_right {n = 10} (omega arith) many in
    let front : n / 10 ^ w < 10 ^ suc (19 - w) = omega (arith, power, div-le_self n (10 ^ w)) in
    let split : width_in 19 n ≡ width_in (19 - w) (n / 10 ^ w) + w = rw whole at (width_split w (19 - w) n h) in
    let same : width_in 19 (n / 10 ^ w) ≡ width_in (19 - w) (n / 10 ^ w) = rw room at (width_room w (19 - w) (n / 10 ^ w) front) in
    ap (λ (k : ℕ). fixed k n) (split ∙ ap (λ (k : ℕ). k + w) (sym same)) ∙ fixed_parts (width_in 19 (n / 10 ^ w)) w n

-- Numbers of one digit and of two.
width_one : (n : ℕ) → n < 10 → width_in 19 n ≡ 1
unfolding width_in
width_one n h = simp (le-ltb 9 n (omega arith))

width_two : (n : ℕ) → 10 ≤ n → n < 100 → width_in 19 n ≡ 2
unfolding width_in
width_two n h k = simp (lt-ltb 9 n (omega arith), le-ltb 9 (n / 10) (omega arith))

pub one_digit : (n : ℕ) → n < 10 → numerals n ≡ (byte "0" + n) ∷ []
unfolding numerals width_of fixed fixed_before
one_digit n h = let r : n % 10 ≡ n = omega arith in rw (width_one n h, r)

pub two_numerals : (n : ℕ) → 10 ≤ n → n < 100 → numerals n ≡ fixed 2 n
unfolding numerals width_of
two_numerals n h k = rw (width_two n h k)

pub two_digits : (n : ℕ) → n < 100 → fixed 2 n ≡ (byte "0" + n / 10) ∷ (byte "0" + n % 10) ∷ []
unfolding fixed fixed_before
two_digits n h = let q : n / 10 % 10 ≡ n / 10 = omega arith in rw q
