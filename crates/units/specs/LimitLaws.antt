-- Laws of limits: what a test says of a lot, of terms and of a unit.
use Rattle.std.specs.Prelude.{◌≡◌, refl, Bool, true, ℕ, ◌*◌, ◌≤◌, eqb, ltb}
use Rattle.std.proofs.Common.{arith, mul_assoc, leb-true, le-leb, eq-eqb}
use Rattle.laws.specs.TruthLaws.{both_true, within_true, picked}
use Rattle.laws.specs.Checks.{all_pass, numbered}
use Rattle.laws.specs.CheckLaws.{no_failure}
use Rattle.levels.specs.declared.Levels.{Levels}
use Rattle.levels.specs.Levels.{flat}
use Rattle.levels.specs.Ranges.{AtMost}
use Rattle.levels.specs.RangeLaws.{levels_are, levels_fit_lem}
use Rattle.amounts.specs.declared.Lot.{Lot}
use Rattle.amounts.specs.declared.Terms.{Terms}
use Rattle.amounts.specs.Singles.{worth, portion}
use Rattle.amounts.specs.Limits.{lot_fits, terms_fit}
use Rattle.units.specs.Facts.{LotFacts, TermsFacts, UnitFacts}
use Rattle.units.specs.Units.{lower_premium, c_charged, unit_checks, unit_number}

pub lot_is : (l : Lot) → lot_fits l ≡ true → LotFacts l
unfolding lot_fits
lot_is l e =
    let g = both_true (eqb l.number 0) _ e in
    let h = both_true _ _ g.1 in
    let a = both_true _ _ h.0 in
    let n = both_true _ _ h.1 in
    record {
      margin_most = levels_are _ _ a.0;
      premium_most = leb-true _ _ a.1;
      price_most = leb-true _ _ n.0;
      strike_most = leb-true _ _ n.1;
    }

pub lot_fits_lem : (l : Lot) → l.number ≡ 0 → LotFacts l → lot_fits l ≡ true
unfolding lot_fits
lot_fits_lem l e f =
    simp (eq-eqb _ _ e, levels_fit_lem _ _ f.margin_most, le-leb _ _ f.premium_most, le-leb _ _ f.price_most, le-leb _ _ f.strike_most)

pub terms_are : (t : Terms) → terms_fit t ≡ true → TermsFacts t
unfolding terms_fit
terms_are t e =
    let g = both_true (eqb t.number 0) _ e in
    let h = both_true _ _ g.1 in
    let a = both_true _ _ h.1 in
    record { multiplier_most = leb-true _ _ h.0; tenth_most = leb-true _ _ a.0; c_most = levels_are _ _ a.1 }

pub terms_fit_lem : (t : Terms) → t.number ≡ 0 → TermsFacts t → terms_fit t ≡ true
unfolding terms_fit
terms_fit_lem t e f = simp (eq-eqb _ _ e, le-leb _ _ f.multiplier_most, le-leb _ _ f.tenth_most, levels_fit_lem _ _ f.c_most)

-- A unit that is not refused.
pub unit_is : (kind : ℕ) (first second : Lot) (terms : Terms) (r1 r2 : ℕ) → unit_number kind first second terms r1 r2 ≡ 0 → UnitFacts first second terms r1 r2
unfolding unit_number unit_checks all_pass numbered
unit_is kind first second terms r1 r2 e =
    let h1 = both_true _ _ (no_failure (unit_checks kind first second terms r1 r2) refl e) in
    let h2 = both_true _ _ h1.1 in
    let h3 = both_true _ _ h2.1 in
    let h4 = both_true _ _ h3.1 in
    let h5 = both_true _ _ h4.1 in
    record {
      first_is = lot_is first h1.0;
      second_is = lot_is second h2.0;
      terms_is = terms_are terms h3.0;
      r1_most = (within_true 1 100 r1 h4.0).1;
      r2_most = (within_true 1 100 r2 h5.0).1;
    }

pub lower_most : (m1 v1 m2 v2 : ℕ) {most : ℕ} → v1 ≤ most → v2 ≤ most → lower_premium m1 v1 m2 v2 ≤ most
unfolding lower_premium
lower_most m1 v1 m2 v2 {most} h k =
    picked (λ (v : ℕ). v ≤ most) (ltb m1 m2) _ _ (λ _. h) (λ _. picked (λ (v : ℕ). v ≤ most) (ltb m2 m1) _ _ (λ _. k) (λ _. omega arith))

-- C is charged, or nothing is.
pub charged_most : (charged : Bool) (c : Levels) {most : ℕ} → AtMost most c → AtMost most (c_charged charged c)
charged_most charged c {most} h =
    picked (λ (l : Levels). AtMost most l) charged c (flat 0) (λ _. h) (λ _. record { at_clearing = omega arith; at_maintenance = omega arith; at_initial = omega arith })

-- Twice a price is worth twice as much.
pub twice_worth : (price multiplier : ℕ) → worth (2 * price) multiplier ≡ 2 * worth price multiplier
unfolding worth portion
twice_worth price multiplier = simp (mul_assoc 2)
