-- Laws of ranges: what a test says of a number.
use Rattle.std.specs.Prelude.{◌≡◌, true, ℕ, ◌%◌, ◌≤◌, ◌<◌, eqb}
use Rattle.std.proofs.Common.{sym, subst, ⊎_elim, le_trans, lit≤, lit<, leb-true, le-leb, eqb-true}
use Rattle.laws.specs.Truth.{either}
use Rattle.laws.specs.TruthLaws.{both_true, either_true, within_true}
use Rattle.levels.specs.declared.Levels.{Levels}
use Rattle.levels.specs.Ranges.{AtMost, clearing_fits, part_fits, rate_fits, disposition_fits, levels_fit, fixed_fits, rates_fit}

pub clearing_is : (n : ℕ) → clearing_fits n ≡ true → (n ≤ 100000000) × (n % 1000 ≡ 0)
unfolding clearing_fits
clearing_is n e =
    let h = both_true _ _ e in
    (leb-true n 100000000 h.0, eqb-true (n % 1000) 0 h.1)

pub rate_is : (n : ℕ) → rate_fits n ≡ true → (1000 ≤ n) × ((n ≤ 30000) × (n % 1000 ≡ 0))
unfolding rate_fits
rate_is n e =
    let h = both_true _ _ e in
    let w = within_true 1000 30000 n h.0 in
    (w.0, (w.1, eqb-true (n % 1000) 0 h.1))

-- What holds of each of four numbers holds of one that is among them.
among : (P : ℕ → Type 0) (a b c d n : ℕ) → P a → P b → P c → P d → either (eqb n a) (either (eqb n b) (either (eqb n c) (eqb n d))) ≡ true → P n
among P a b c d n pa pb pc pd e =
    ⊎_elim (is a pa) (λ r. ⊎_elim (is b pb) (λ q. ⊎_elim (is c pc) (is d pd) (either_true _ _ q)) (either_true _ _ r)) (either_true _ _ e)
  where
    is : (m : ℕ) → P m → eqb n m ≡ true → P n
    is m p h = subst P (sym (eqb-true n m h)) p

pub part_is : (P : ℕ → Type 0) (n : ℕ) → P 1 → P 4 → P 8 → P 20 → part_fits n ≡ true → P n
unfolding part_fits
part_is P n a b c d e = among P 1 4 8 20 n a b c d e

pub disposition_is : (P : ℕ → Type 0) (n : ℕ) → P 10 → P 15 → P 20 → P 30 → disposition_fits n ≡ true → P n
unfolding disposition_fits
disposition_is P n a b c d e = among P 10 15 20 30 n a b c d e

pub fixed_is : (clearing part : ℕ) → fixed_fits clearing part ≡ true → (clearing_fits clearing ≡ true) × (part_fits part ≡ true)
unfolding fixed_fits
fixed_is clearing part e = both_true _ _ e

-- A part is of something.
pub some_part : (clearing part : ℕ) → fixed_fits clearing part ≡ true → 0 < part
some_part clearing part e = part_is (λ (n : ℕ). 0 < n) part (lit< tt) (lit< tt) (lit< tt) (lit< tt) (fixed_is clearing part e).1

-- A raised rate is at most 90 percent.
pub rates_are : (rate disposition : ℕ) → rates_fit rate disposition ≡ true → (rate ≤ 30000) × (disposition ≤ 30)
unfolding rates_fit
rates_are rate disposition e =
    let h = both_true _ _ e in
    ((rate_is rate h.0).1.0, disposition_is (λ (n : ℕ). n ≤ 30) disposition (lit≤ tt) (lit≤ tt) (lit≤ tt) (lit≤ tt) h.1)

pub levels_are : (most : ℕ) (l : Levels) → levels_fit most l ≡ true → AtMost most l
unfolding levels_fit
levels_are most l e =
    let h = both_true _ _ e in
    let k = both_true _ _ h.1 in
    record { at_clearing = leb-true _ _ h.0; at_maintenance = leb-true _ _ k.0; at_initial = leb-true _ _ k.1 }

pub levels_fit_lem : (most : ℕ) (l : Levels) → AtMost most l → levels_fit most l ≡ true
unfolding levels_fit
levels_fit_lem most l h = simp (le-leb _ _ h.at_clearing, le-leb _ _ h.at_maintenance, le-leb _ _ h.at_initial)

pub at_most_more : {less more : ℕ} {l : Levels} → less ≤ more → AtMost less l → AtMost more l
at_most_more h a =
    record { at_clearing = le_trans a.at_clearing h; at_maintenance = le_trans a.at_maintenance h; at_initial = le_trans a.at_initial h }
