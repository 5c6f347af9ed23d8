-- Laws of levels: small futures' parts are whole, a raised rate and b are exact, and how large an amount and a rate can be.
use Rattle.std.specs.Prelude.{◌≡◌, true, ℕ, ◌*◌, ◌/◌, ◌%◌, ◌≤◌, Result, Ok, Err, IsOk}
use Rattle.std.specs.Result.{result_unwrap_or}
use Rattle.laws.specs.declared.Refusal.{Refusal}
use Rattle.laws.specs.Refusals.{number_of}
use Rattle.laws.specs.RefusalLaws.{refusal_positive, one_refusal}
use Rattle.std.proofs.Common.{ap, ◌∙◌, div-add-mod', mul_assoc, mul-le-mul, div-le_self, le_trans, arith, rules, lit<}
use Rattle.laws.specs.TruthLaws.{both_true}
use Rattle.rounding.specs.Rounding.{round_up, half_up}
use Rattle.rounding.specs.RoundingLaws.{rounds_up, up_below, near_above}
use Rattle.levels.specs.declared.Levels.{Levels}
use Rattle.levels.specs.Ranges.{AtMost, part_fits, fixed_fits, rate_fits, rates_fit}
use Rattle.levels.specs.RangeLaws.{clearing_is, part_is, rate_is, fixed_is, rates_are}
use Rattle.levels.specs.Levels.{Answer, answer_of, per_level, both_levels, flat, levels_of, part_of, raised, rates_of, stock_rates, half_of}

-- What bounds one level bounds each.
pub each_at_most : {most more : ℕ} {l : Levels} (f : ℕ → ℕ) → ((n : ℕ) → n ≤ most → f n ≤ more) → AtMost most l → AtMost more (per_level f l)
each_at_most f b h =
    record { at_clearing = b _ h.at_clearing; at_maintenance = b _ h.at_maintenance; at_initial = b _ h.at_initial }

pub both_at_most : {most other more : ℕ} {l m : Levels} (f : ℕ → ℕ → ℕ) → ((x y : ℕ) → x ≤ most → y ≤ other → f x y ≤ more) → AtMost most l → AtMost other m → AtMost more (both_levels f l m)
both_at_most f b h k =
    record {
      at_clearing = b _ _ h.at_clearing k.at_clearing;
      at_maintenance = b _ _ h.at_maintenance k.at_maintenance;
      at_initial = b _ _ h.at_initial k.at_initial;
    }

-- Every level of a fixed future is a multiple of 1,000, so each part of it is whole.
whole : (x n : ℕ) → x % 1000 ≡ 0 → part_fits n ≡ true → x / n * n ≡ x
whole x n m e =
    part_is (λ (k : ℕ). x / k * k ≡ x) n (omega arith) (omega arith) (omega arith) (omega arith) e

raised_to : (x ratio : ℕ) → round_up (x * ratio) 1000 1000 % 1000 ≡ 0
raised_to x ratio = (rounds_up (x * ratio) {den = 1000} {step = 1000} (lit< tt) (lit< tt)).multiple

-- As many small futures as make up the full-size one cost what it costs, at each level.
pub parts_whole : (clearing part : ℕ) → fixed_fits clearing part ≡ true → per_level (λ (x : ℕ). x * part) (part_of (levels_of clearing 1000) part) ≡ levels_of clearing 1000
unfolding levels_of part_of
parts_whole clearing part e =
    let h = fixed_is clearing part e in
    simp (whole clearing part (clearing_is clearing h.0).1 h.1, whole _ part (raised_to clearing 1035) h.1, whole _ part (raised_to clearing 1350) h.1)

-- A rate by a disposition is a multiple of 1,000.
thousands : (rate disposition : ℕ) → rate_fits rate ≡ true → rate * disposition ≡ 1000 * (rate / 1000 * disposition)
thousands rate disposition e =
    let q : rate ≡ 1000 * (rate / 1000) = omega (arith, (rate_is rate e).1.1, div-add-mod' rate 1000) in
    ap (λ (n : ℕ). n * disposition) q ∙ mul_assoc 1000 (rate / 1000) disposition

-- The raised rate is exact.
pub raised_exact : (rate disposition : ℕ) → rate_fits rate ≡ true → raised rate disposition * 10 ≡ rate * disposition
unfolding raised
raised_exact rate disposition e = omega (arith, thousands rate disposition e)

-- So is b: every rate is even.
raised_even : (rate disposition : ℕ) → rate_fits rate ≡ true → half_of (raised rate disposition) * 2 ≡ raised rate disposition
unfolding raised half_of
raised_even rate disposition e = omega (arith, thousands rate disposition e)

tens_even : (n : ℕ) → half_of (half_up n 1000 10) * 2 ≡ half_up n 1000 10
unfolding half_up half_of
tens_even n = omega arith

pub halves_exact : (rate disposition : ℕ) → rates_fit rate disposition ≡ true → per_level (λ (b : ℕ). b * 2) (per_level half_of (rates_of rate disposition)) ≡ rates_of rate disposition
unfolding rates_of rates_fit
halves_exact rate disposition e =
    let h = both_true _ _ e in
    simp (raised_even rate disposition h.0, tens_even (raised rate disposition * 1035), tens_even (raised rate disposition * 1350))

-- No amount of a fixed future is above 135,000,000 dollars.
raised_most : (x ratio most : ℕ) → x * ratio ≤ most * 1000 * 1000 → round_up (x * ratio) 1000 1000 ≤ most * 1000
unfolding round_up
raised_most x ratio most h = omega (arith, up_below (x * ratio) 1000000 (lit< tt))

levels_most : (clearing : ℕ) → clearing ≤ 100000000 → AtMost 135000000 (levels_of clearing 1000)
unfolding levels_of
levels_most clearing h =
    record {
      at_clearing = omega arith;
      at_maintenance = raised_most clearing 1035 135000 (omega arith);
      at_initial = raised_most clearing 1350 135000 (omega arith);
    }

pub fixed_most : (clearing part : ℕ) → fixed_fits clearing part ≡ true → AtMost 135000000 (part_of (levels_of clearing 1000) part)
unfolding part_of
fixed_most clearing part e =
    let h = (clearing_is clearing (fixed_is clearing part e).0).0 in
    each_at_most (λ (x : ℕ). x / part) (λ x k. le_trans (div-le_self x part) k) (levels_most clearing h)

-- No rate is above 121.5 percent.
raised_small : (rate disposition : ℕ) → rate * disposition ≤ 900000 → raised rate disposition ≤ 90000
unfolding raised
raised_small rate disposition h = omega arith

pub rates_most : (rate disposition : ℕ) → rates_fit rate disposition ≡ true → AtMost 121500 (rates_of rate disposition)
unfolding rates_of half_up
rates_most rate disposition e =
    let h = rates_are rate disposition e in
    let r : raised rate disposition ≤ 90000 = raised_small rate disposition (mul-le-mul h.0 h.1) in
    record {
      at_clearing = omega arith;
      at_maintenance = omega (arith, near_above (raised rate disposition * 1035) 10000);
      at_initial = omega (arith, near_above (raised rate disposition * 1350) 10000);
    }

pub halves_most : {most : ℕ} {l : Levels} → AtMost most l → AtMost most (per_level half_of l)
unfolding half_of
halves_most h = each_at_most half_of (λ n k. omega (arith, k)) h

-- What is in range is answered.
pub rates_answered : (rate disposition : ℕ) → rates_fit rate disposition ≡ true → (stock_rates rate disposition).levels ≡ rates_of rate disposition
unfolding stock_rates
rates_answered rate disposition e = simp e

-- So a rate and a disposition that fit are not refused.
pub rates_ok : (rate disposition : ℕ) (r : Result Levels Refusal) → rates_fit rate disposition ≡ true → answer_of r ≡ stock_rates rate disposition → IsOk r
unfolding stock_rates
rates_ok rate disposition (Ok l) e h = search rules
rates_ok rate disposition (Err r) e h =
    let n : number_of r ≡ 0 = ap (λ (a : Answer). a.number) (rw e at h) in
    absurd (omega (arith, refusal_positive r))

pub rates_got : (rate disposition : ℕ) (r : Result Levels Refusal) (l : Levels) → rates_fit rate disposition ≡ true → answer_of r ≡ stock_rates rate disposition → r ≡ Ok l → (l ≡ rates_of rate disposition) × AtMost 121500 l
unfolding stock_rates
rates_got rate disposition r l e h q =
    let is : l ≡ rates_of rate disposition = ap (λ (a : Answer). a.levels) (rw (q, e) at h) in
    (is, rw is (rates_most rate disposition e))

-- The levels of an answer, or zeros.
pub or_zeros : (r : Result Levels Refusal) {a : Answer} {z m : Levels} → answer_of r ≡ a → z ≡ flat 0 → m ≡ result_unwrap_or r z → m ≡ a.levels
or_zeros (Ok l) e h q = q ∙ ap (λ (a : Answer). a.levels) e
or_zeros (Err r) e h q = q ∙ (h ∙ ap (λ (a : Answer). a.levels) e)

-- Answers that stand for the same are the same.
pub one_levels : (r s : Result Levels Refusal) → answer_of r ≡ answer_of s → r ≡ s
one_levels (Ok l) (Ok m) e = ap (λ (a : Answer). Ok a.levels) e
one_levels (Ok l) (Err s) e = let n : 0 ≡ number_of s = ap (λ (a : Answer). a.number) e in absurd (omega (arith, refusal_positive s))
one_levels (Err r) (Ok m) e = let n : number_of r ≡ 0 = ap (λ (a : Answer). a.number) e in absurd (omega (arith, refusal_positive r))
one_levels (Err r) (Err s) e = ap (λ (q : Refusal). Err q) (one_refusal r s (ap (λ (a : Answer). a.number) e))
