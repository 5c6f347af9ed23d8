-- Laws of rounding, for every ratio and step: what is defined has its meaning, and no other number has.
use Rattle.std.specs.Prelude.{◌≡◌, ℕ, zero, suc, ◌+◌, ◌-◌, ◌*◌, ◌/◌, ◌%◌, ◌≤◌, ◌<◌, max, min}
use Rattle.std.proofs.Math.Path.{sym}
use Rattle.std.proofs.Common.{◌∙◌, ap, mul-le-mul_right, le_antisymm, le_trans, mul-le-mul_left, div-mul-le_self, lt_of_mul-lt-mul_right, mul_comm, mul-pos, mul-le-mul, zero-mul, mul-zero, mul-one, arith, lit<}
use Rattle.std.proofs.Math.Nat.{mul-mod_left, div-add-mod', mod-lt, div-eq_of_lt-le, mul_assoc, add-mul, one-mul, mul_left_comm, div-zero, mul-div-mul_right}
use Rattle.std.proofs.lemmas.Grind.{div_ceil_times}
use Rattle.rounding.specs.Rounding.{LeastMultiple, NearestMultiple, steps_up, steps_near, round_up, half_up, to_dollar}

module _ (n size : ℕ) where
  -- Counting steps up.
  pub up_reaches : 0 < size → n ≤ steps_up n size * size
  unfolding steps_up
  up_reaches h = omega (arith, div-add-mod' (n + (size - 1)) size, mod-lt (n + (size - 1)) h)

  pub up_below : 0 < size → steps_up n size * size < n + size
  unfolding steps_up
  up_below h = omega (arith, div-add-mod' (n + (size - 1)) size)

  pub up_only : (k : ℕ) → n ≤ k * size → k * size < n + size → k ≡ steps_up n size
  unfolding steps_up
  up_only k low high = sym (div-eq_of_lt-le size (omega arith) (omega (arith, add-mul k 1 size, one-mul size)))

  -- What is left over tells whether one more is needed.
  pub up_even : 0 < size → n % size ≡ 0 → n / size ≡ steps_up n size
  up_even h e = up_only (n / size) (omega (arith, div-add-mod' n size)) (omega (arith, div-add-mod' n size))

  pub up_one_more : 0 < size → (n % size ≡ 0 → ⊥) → n / size + 1 ≡ steps_up n size
  up_one_more h e =
      up_only (n / size + 1)
      (omega (arith, div-add-mod' n size, mod-lt n h, add-mul (n / size) 1 size, one-mul size))
      (omega (arith, div-add-mod' n size, add-mul (n / size) 1 size, one-mul size))

  pub up_ceil : 0 < size → n / size + min 1 (n % size) ≡ steps_up n size
  up_ceil h = let t = div_ceil_times n size h in up_only _ t.0 t.1

  -- One more than the quotient is not above n where something is left over.
  pub one_more_fits : 0 < size → 0 < n % size → n / size + 1 ≤ n
  one_more_fits h e = omega (arith, div-add-mod' n size, mul-le-mul_left (n / size) h)

  up_least : 0 < size → (k : ℕ) → n ≤ k * size → steps_up n size ≤ k
  up_least h k le =
      let below : steps_up n size * size < (k + 1) * size = omega (arith, up_below h, add-mul k 1 size, one-mul size) in
      omega (arith, lt_of_mul-lt-mul_right size below)

  -- Counting the nearest steps.
  pub near_above : 2 * (steps_near n size * size) ≤ 2 * n + size
  unfolding steps_near
  near_above = omega (arith, div-add-mod' (2 * n + size) (2 * size), mul_left_comm 2 ((2 * n + size) / (2 * size)) size)

  pub near_below : 0 < size → 2 * n < 2 * (steps_near n size * size) + size
  unfolding steps_near
  near_below h = omega (arith, div-add-mod' (2 * n + size) (2 * size), mod-lt (2 * n + size) {m = 2 * size} (omega arith), mul_left_comm 2 ((2 * n + size) / (2 * size)) size)

  pub near_only : (k : ℕ) → 2 * (k * size) ≤ 2 * n + size → 2 * n < 2 * (k * size) + size → k ≡ steps_near n size
  unfolding steps_near
  near_only k low high =
      sym (div-eq_of_lt-le (2 * size) (omega (arith, mul_left_comm 2 k size)) (omega (arith, mul_left_comm 2 k size, add-mul k 1 (2 * size), one-mul (2 * size))))

  pub near_same : 0 < size → n % size < size - n % size → n / size ≡ steps_near n size
  near_same h e = near_only (n / size) (omega (arith, div-add-mod' n size)) (omega (arith, div-add-mod' n size))

  pub near_one_more : 0 < size → size - n % size ≤ n % size → n / size + 1 ≡ steps_near n size
  near_one_more h e =
      near_only (n / size + 1)
      (omega (arith, div-add-mod' n size, add-mul (n / size) 1 size, one-mul size))
      (omega (arith, div-add-mod' n size, mod-lt n h, add-mul (n / size) 1 size, one-mul size))

  -- Amount and size may be counted in parts of any fineness.
  pub near_scale : (k : ℕ) → 0 < k → steps_near (n * k) (size * k) ≡ steps_near n size
  unfolding steps_near
  near_scale k h =
      let above : 2 * (n * k) + size * k ≡ (2 * n + size) * k = omega (arith, add-mul (2 * n) size k, mul_assoc 2 n k) in
      rw (above, ← mul_assoc 2 size k) (mul-div-mul_right (2 * n + size) (2 * size) h)

-- What is rounded up is the least multiple of the step that is not below, and nothing else is.
pub rounds_up : (num : ℕ) {den step : ℕ} → 0 < den → 0 < step → LeastMultiple num den step (round_up num den step)
unfolding round_up
rounds_up num {den} {step} hd hs =
    record {
      multiple = mul-mod_left _ _;
      not_below = rw (mul_assoc, mul_comm step den) (up_reaches num (den * step) (mul-pos hd hs));
      least = λ k le. mul-le-mul_right step (up_least num (den * step) (mul-pos hd hs) k (rw (mul_assoc, mul_comm step den) at le));
    }

pub rounds_up_only : (num : ℕ) {den step r : ℕ} → 0 < den → 0 < step → LeastMultiple num den step r → r ≡ round_up num den step
unfolding round_up
rounds_up_only num {den} {step} {r} hd hs l =
    let m : LeastMultiple num den step (round_up num den step) = rounds_up num hd hs in
    let e : r / step * step ≡ r = omega (arith, div-add-mod' r step, l.multiple) in
    le_antisymm (l.least (steps_up num (den * step)) m.not_below) (rw e at (m.least (r / step) (rw e l.not_below)))

-- What is rounded half up is the multiple within half a step, and nothing else is.
pub rounds_half_up : (num : ℕ) {den step : ℕ} → 0 < den → 0 < step → NearestMultiple num den step (half_up num den step)
unfolding half_up
rounds_half_up num {den} {step} hd hs =
    record {
      multiple = mul-mod_left _ _;
      not_above = rw (mul_assoc, mul_comm step den) (near_above num (den * step));
      not_below = rw (mul_assoc, mul_comm step den) (near_below num (den * step) (mul-pos hd hs));
    }

pub rounds_half_up_only : (num : ℕ) {den step r : ℕ} → NearestMultiple num den step r → r ≡ half_up num den step
unfolding half_up
rounds_half_up_only num {den} {step} {r} m =
    let e : r / step * step ≡ r = omega (arith, div-add-mod' r step, m.multiple) in
    let steps : r / step * (den * step) ≡ r * den = mul_left_comm (r / step) den step ∙ (ap (λ (x : ℕ). den * x) e ∙ mul_comm den r) in
    sym e ∙ ap (λ (k : ℕ). k * step) (near_only num (den * step) (r / step) (rw steps m.not_above) (rw steps m.not_below))

-- Nothing is a multiple of no step.
pub none_up : (num den step : ℕ) → den * step ≡ 0 → 0 ≡ round_up num den step
unfolding round_up steps_up
none_up num den step e = rw (e, div-zero, zero-mul)

pub none_half_up : (num den step : ℕ) → den * step ≡ 0 → 0 ≡ half_up num den step
unfolding half_up steps_near
none_half_up num den step e = rw (e, mul-zero, div-zero, zero-mul)

some_parts : (den step : ℕ) → 0 < den * step → 0 < den
some_parts zero step h = absurd (omega (arith, zero-mul step))
some_parts (suc den) step h = omega arith

-- Steps of size den x step that reach at most one such size above n: as steps of size step they reach at most one step above n.
steps_fit : (n den step k : ℕ) → 0 < den * step → k * (den * step) ≤ n + den * step → k * step ≤ n + step
steps_fit n den step k hu le =
    let below : k * (den * step) < (n / (den * step) + 2) * (den * step) =
    omega (arith, div-add-mod' n (den * step), mod-lt n hu, add-mul (n / (den * step)) 2 (den * step)) in
    let most : k ≤ n / (den * step) + 1 = omega (arith, lt_of_mul-lt-mul_right (den * step) below) in
    let whole : n / (den * step) * step ≤ n =
    le_trans (mul-le-mul_left (n / (den * step)) (rw one-mul at (mul-le-mul_right {m = 1} step (some_parts den step hu)))) (div-mul-le_self n (den * step)) in
    omega (arith, mul-le-mul_right step most, add-mul (n / (den * step)) 1 step, one-mul step)

pub up_fits : (n den step : ℕ) → 0 < den * step → steps_up n (den * step) * step ≤ n + step
up_fits n den step h = steps_fit n den step (steps_up n (den * step)) h (omega (arith, up_below n (den * step) h))

pub near_fits : (n den step : ℕ) → 0 < den * step → steps_near n (den * step) * step ≤ n + step
near_fits n den step h = steps_fit n den step (steps_near n (den * step)) h (omega (arith, near_above n (den * step)))

-- Thousandths of a dollar are rounded as hundred-millionths are.
pub dollars_of_thousandths : (n : ℕ) → half_up n 1000 1 ≡ to_dollar (n * 100000)
unfolding to_dollar half_up
dollars_of_thousandths n = ap (λ (x : ℕ). x * 1) (sym (near_scale n 1000 100000 (lit< tt)))

-- A dollar is a step.
pub to_dollar_steps : (fine : ℕ) → steps_near fine 100000000 ≡ to_dollar fine
unfolding to_dollar half_up
to_dollar_steps fine = sym (mul-one _)

-- Exact amounts of at most `most` dollars are rounded to at most as many.
pub dollar_most : (x most : ℕ) → x ≤ most * 100000000 → to_dollar x ≤ most
unfolding to_dollar half_up
dollar_most x most h = omega (arith, near_above x 100000000, mul-one (steps_near x 100000000))

-- The larger of two amounts may be rounded before or after it is taken.
pub dollar_larger : (x y : ℕ) → to_dollar (max x y) ≡ max (to_dollar x) (to_dollar y)
unfolding to_dollar half_up steps_near
dollar_larger x y = omega arith

-- A product of two numbers of 32 bits.
pub product_fits : (x y : ℕ) → x < 4294967296 → y < 4294967296 → x * y ≤ 18446744065119617025
product_fits x y h k = omega (arith, mul-le-mul {n₁ = x} {m₁ = y} {n₂ = 4294967295} {m₂ = 4294967295} (omega arith) (omega arith))
