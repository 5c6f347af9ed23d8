-- Numbers and their digits, both ways: what is printed reads as the number, and the only text that reads as a number is what is
-- printed of it.
use Rattle.std.specs.Prelude.{◌≡◌, refl, true, not, List, [], ◌∷◌, ◌++◌, ℕ, zero, suc, ◌+◌, ◌-◌, ◌*◌, ◌/◌, ◌%◌, ◌^◌, ◌≤◌, ◌<◌, max, leb, ltb, eqb, length}
use Rattle.std.proofs.Common.{ap, sym, ◌∙◌, append-nil, arith, add-zero, zero-add, add-suc, suc-add, le_antisymm, le-leb, ltb-true, ltb-false, eq-eqb, eqb-true, ne_eqb}
use Rattle.std.proofs.Math.Decide.{dec_lt}
use Rattle.std.proofs.Math.Nat.{pow-le-pow_right}
use Rattle.std.proofs.lemmas.Bool.{lt-leb, eqb-false, not-true}
use Rattle.laws.specs.Truth.{within}
use Rattle.laws.specs.TruthLaws.{both_true, both_hold, within_true, picked}
use Rattle.laws.specs.Text.{byte}
use Rattle.laws.specs.Search.{every_line}
use Rattle.digits.specs.Digits.{is_digit, value_from, value_of, no_leading_zero, is_number, is_fixed, digit, fixed_before, fixed, width_in, width_of, numerals}
use Rattle.digits.specs.FigureLaws.{length_fixed, numerals_few}

-- the number that the digit b writes behind v
abbrev behind : ℕ → ℕ → ℕ
behind v b = v * 10 + (b - byte "0")

-- A text of digits: its first, and the others.
first_digit : (b : ℕ) (t : List ℕ) → every_line is_digit (b ∷ t) ≡ true → (byte "0" ≤ b) × (b ≤ byte "9") × (every_line is_digit t ≡ true)
unfolding every_line is_digit
first_digit b t e =
    let h = both_true (within (byte "0") (byte "9") b) _ e in
    let k = within_true (byte "0") (byte "9") b h.0 in
    (k.0, k.1, h.1)

-- Digits printed: that they are digits, and the value that they read as.
digits_fixed : (w n : ℕ) (t : List ℕ) → every_line is_digit t ≡ true → every_line is_digit (fixed_before w n t) ≡ true
unfolding fixed_before every_line is_digit
digits_fixed zero n t e = e
digits_fixed (suc w) n t e =
    digits_fixed w (n / 10) (digit n ∷ t) (both_hold (both_hold (le-leb (byte "0") (digit n) (omega arith)) (le-leb (digit n) (byte "9") (omega arith))) e)

value_fixed : (w n : ℕ) (t : List ℕ) → n < 10 ^ w → value_from 0 (fixed_before w n t) ≡ value_from n t
unfolding fixed_before value_from
value_fixed zero n t h = let z : n ≡ 0 = omega arith in rw z
value_fixed (suc w) n t h =
    let z : n / 10 * 10 + (digit n - byte "0") ≡ n = omega arith in
    value_fixed w (n / 10) (digit n ∷ t) (omega arith) ∙ ap (λ (v : ℕ). value_from v t) z

-- Digits read: printing their value gives them back, and it lies between two powers of ten.
fixed_value : (t : List ℕ) (w v : ℕ) (u : List ℕ) → every_line is_digit t ≡ true → fixed_before (w + length t) (value_from v t) u ≡ fixed_before w v (t ++ u)
unfolding fixed_before value_from
fixed_value [] w v u e = rw add-zero
fixed_value (b ∷ t) w v u e =
    let h = first_digit b t e in
    let x : (behind v b) / 10 ≡ v = omega arith in
    let y : byte "0" + (behind v b) % 10 ≡ b = omega arith in
    rw (add-suc w (length t), ← suc-add w (length t)) (fixed_value t (suc w) (behind v b) u h.2 ∙ rw (x, y))

value_below : (t : List ℕ) (w v : ℕ) → every_line is_digit t ≡ true → v < 10 ^ w → value_from v t < 10 ^ (w + length t)
unfolding value_from
value_below [] w v e h = rw add-zero h
value_below (b ∷ t) w v e h =
    let d = first_digit b t e in
    rw (add-suc w (length t), ← suc-add w (length t)) (value_below t (suc w) (behind v b) d.2 (omega arith))

value_least : (t : List ℕ) (w v : ℕ) → 10 ^ w ≤ v → 10 ^ (w + length t) ≤ value_from v t
unfolding value_from
value_least [] w v h = rw add-zero h
value_least (b ∷ t) w v h = rw (add-suc w (length t), ← suc-add w (length t)) (value_least t (suc w) (behind v b) (omega arith))

fixed_text : (t : List ℕ) → every_line is_digit t ≡ true → fixed (length t) (value_of t) ≡ t
unfolding fixed value_of fixed_before
fixed_text t e = ap (λ (w : ℕ). fixed_before w (value_from 0 t) []) (sym (zero-add (length t))) ∙ fixed_value t 0 0 [] e ∙ append-nil t

text_below : (t : List ℕ) → every_line is_digit t ≡ true → value_of t < 10 ^ length t
unfolding value_of
text_below t e = rw zero-add at (value_below t 0 0 e (omega arith))

-- A number of so many digits, at least one: it is below that power of ten, and below no smaller one (but 0 has a digit too).
record Wide (n width : ℕ) : Type 0 where
  some : 1 ≤ width
  below : n < 10 ^ width
  least : 10 ^ width ≤ 10 * max n 1

wide_one : (n : ℕ) → n ≤ 9 → Wide n 1
wide_one n h = record { some = omega arith; below = omega arith; least = omega arith }

wide_more : (n width : ℕ) → 9 < n → Wide (n / 10) width → Wide n (suc width)
wide_more n width h w =
    let b = w.below in
    let l = w.least in
    record { some = omega arith; below = omega arith; least = omega arith }

wide_in : (most n : ℕ) → n < 10 ^ suc most → Wide n (width_in most n)
unfolding width_in
wide_in zero n h = wide_one n (omega arith)
wide_in (suc most) n h =
    picked (Wide n) (ltb 9 n) (suc (width_in most (n / 10))) 1
    (λ e. wide_more n (width_in most (n / 10)) (ltb-true 9 n e) (wide_in most (n / 10) (omega arith)))
    (λ e. wide_one n (ltb-false 9 n e))

-- It has no more digits than any width that it fits.
no_wider : {n width : ℕ} (w : ℕ) → Wide n width → 1 ≤ w → n < 10 ^ w → width ≤ w
no_wider {n} {width} w is some h = go (dec_lt w width)
  where
    go : Dec (w < width) → width ≤ w
    go (yes lt) =
        let p : 10 ^ suc w ≤ 10 ^ width = pow-le-pow_right {n = 10} (omega arith) lt in
        let q : 10 ^ 1 ≤ 10 ^ w = pow-le-pow_right {n = 10} (omega arith) some in
        let l = is.least in
        absurd (omega arith)
    go (no ge) = omega arith

-- Digits are as many as their number has exactly where they have no leading zero.
leads : (b c : ℕ) (t : List ℕ) → no_leading_zero (b ∷ c ∷ t) ≡ not (eqb b (byte "0"))
unfolding no_leading_zero
leads b c t = rw (lt-leb (suc (suc (length t))) 1 (omega arith))

wide_text : (t : List ℕ) → 1 ≤ length t → no_leading_zero t ≡ true → every_line is_digit t ≡ true → Wide (value_of t) (length t)
unfolding no_leading_zero value_of value_from
wide_text [] some z e = absurd (omega arith)
wide_text (b ∷ []) some z e = let h = first_digit b [] e in wide_one (behind 0 b) (omega arith)
wide_text (b ∷ c ∷ t) some z e =
    let h = first_digit b (c ∷ t) e in
    let lead : b ≡ byte "0" → ⊥ = eqb-false b (byte "0") (not-true _ (sym (leads b c t) ∙ z)) in
    let l : 10 ^ suc (length t) ≤ value_from (behind 0 b) (c ∷ t) = rw (zero-add (length (c ∷ t))) at (value_least (c ∷ t) 0 (behind 0 b) (omega arith)) in
    let m : 10 ^ suc (suc (length t)) ≤ 10 * max (value_from (behind 0 b) (c ∷ t)) 1 = omega arith in
    record { some = some; below = text_below (b ∷ c ∷ t) e; least = m }

no_zero : (t : List ℕ) → every_line is_digit t ≡ true → Wide (value_of t) (length t) → no_leading_zero t ≡ true
unfolding no_leading_zero value_of value_from
no_zero [] e w = refl
no_zero (b ∷ []) e w = refl
no_zero (b ∷ c ∷ t) e w = leads b c t ∙ rw (ne_eqb b (byte "0") lead)
  where
    lead : b ≡ byte "0" → ⊥
    lead q =
        let h = first_digit b (c ∷ t) e in
        let l : 10 ^ suc (suc (length t)) ≤ 10 * max (value_from (behind 0 b) (c ∷ t)) 1 = w.least in
        let z : behind 0 b ≡ 0 = omega arith in
        let v : value_from (behind 0 b) (c ∷ t) < 10 ^ suc (length t) = rw z (text_below (c ∷ t) h.2) in
        omega (arith, l, v)

-- A number of at most twenty digits, printed: its value, its digits, and how many they are.
pub record Numeral (n : ℕ) (t : List ℕ) : Type 0 where
  pub value : value_of t ≡ n
  pub digits : every_line is_digit t ≡ true
  pub no_lead : no_leading_zero t ≡ true
  pub some : 1 ≤ length t

pub numeral : (n : ℕ) → n < 10 ^ 20 → Numeral n (numerals n)
unfolding numerals fixed width_of value_of value_from every_line
numeral n h =
    let w = wide_in 19 n h in
    let v : value_of (numerals n) ≡ n = value_fixed (width_of n) n [] w.below in
    let d = digits_fixed (width_of n) n [] refl in
    let l : length (numerals n) ≡ width_of n = length_fixed (width_of n) n in
    record {
      value = v;
      digits = d;
      no_lead = no_zero (numerals n) d (rw (v, l) w);
      some = rw l w.some;
    }

-- Numbers of the text: one to nine digits with no leading zero.
pub number_trip : (n : ℕ) → n < 1000000000 → (is_number (numerals n) ≡ true) × (value_of (numerals n) ≡ n)
unfolding is_number
number_trip n h =
    let t = numeral n (omega arith) in
    let most = numerals_few 9 n (omega arith) h in
    (both_hold (both_hold (le-leb 1 _ t.some) (le-leb _ 9 most)) (both_hold t.no_lead t.digits), t.value)

pub number_only : (t : List ℕ) → is_number t ≡ true → (numerals (value_of t) ≡ t) × (value_of t < 1000000000)
unfolding is_number numerals width_of
number_only t e =
    let h = both_true (within 1 9 (length t)) _ e in
    let k = both_true (no_leading_zero t) _ h.1 in
    let l = within_true 1 9 (length t) h.0 in
    let w = wide_text t l.0 k.0 k.1 in
    let below = w.below in
    let fits : 10 ^ length t ≤ 10 ^ 9 = pow-le-pow_right {n = 10} (omega arith) l.1 in
    let v = wide_in 19 (value_of t) (omega arith) in
    let same : width_in 19 (value_of t) ≡ length t = le_antisymm (no_wider (length t) v l.0 below) (no_wider _ w v.some v.below) in
    (ap (λ (k : ℕ). fixed k (value_of t)) same ∙ fixed_text t k.1, omega arith)

-- Fields of so many digits, zeros kept.
pub fixed_digits : (w n : ℕ) → every_line is_digit (fixed w n) ≡ true
unfolding fixed every_line
fixed_digits w n = digits_fixed w n [] refl

pub fixed_trip : (w n : ℕ) → w ≤ 9 → n < 10 ^ w → (is_fixed w (fixed w n) ≡ true) × (value_of (fixed w n) ≡ n)
unfolding is_fixed fixed value_of value_from
fixed_trip w n few h =
    (both_hold (le-leb w 9 few) (both_hold (eq-eqb _ w (length_fixed w n)) (fixed_digits w n)), value_fixed w n [] h)

pub fixed_only : (w : ℕ) (t : List ℕ) → is_fixed w t ≡ true → (fixed w (value_of t) ≡ t) × (value_of t < 10 ^ w)
unfolding is_fixed
fixed_only w t e =
    let h = both_true (leb w 9) _ e in
    let k = both_true (eqb (length t) w) _ h.1 in
    let l = eqb-true (length t) w k.0 in
    rw (← l) (fixed_text t k.1, text_below t k.1)
