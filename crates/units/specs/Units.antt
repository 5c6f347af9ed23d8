-- Document 01, "Each of the eight kinds has its own formula, per unit".
use Rattle.std.specs.Prelude.{Bool, List, [], ◌∷◌, ℕ, ◌+◌, ◌-◌, ◌*◌, max, min, ltb, eqb}
use Rattle.laws.specs.Truth.{pick, within}
use Rattle.laws.specs.Checks.{Check, ◌unless◌, first_failing}
use Rattle.laws.specs.Kinds.{by_kind}
use Rattle.rounding.specs.Rounding.{to_dollar}
use Rattle.levels.specs.declared.Levels.{Levels}
use Rattle.levels.specs.Levels.{Answer}
use Rattle.levels.specs.Levels.{per_level, both_levels, flat}
use Rattle.amounts.specs.declared.Lot.{Lot}
use Rattle.amounts.specs.declared.Terms.{Terms}
use Rattle.amounts.specs.Singles.{worth}
use Rattle.amounts.specs.Limits.{lot_fits, terms_fit}

-- "1, nothing."
unfoldable pub debit_margin : Levels
debit_margin = flat 0

-- "2, strike difference x multiplier."
unfoldable pub credit_margin : ℕ → ℕ → ℕ → Levels
credit_margin k1 k2 multiplier = flat (to_dollar (worth (max k1 k2 - min k1 k2) multiplier))

-- "3, the larger of 10 percent of the parent future's clearing margin (for a stock of security value) and 2 x the absolute premium
-- difference x multiplier, the same at all levels."
unfoldable pub time_margin : ℕ → ℕ → ℕ → ℕ → Levels
time_margin tenth p1 p2 multiplier = flat (max tenth (to_dollar (2 * worth (max p1 p2 - min p1 p2) multiplier)))

-- "4, the larger of the two single margins + premium value of the side with the lower one + C; compared after rounding, and when
-- equal, the larger premium value."
unfoldable pub lower_premium : ℕ → ℕ → ℕ → ℕ → ℕ
lower_premium m1 v1 m2 v2 = pick (ltb m1 m2) v1 (pick (ltb m2 m1) v2 (max v1 v2))

unfoldable pub mixed_at : ℕ → ℕ → ℕ → ℕ → ℕ
mixed_at m1 v1 m2 v2 = max m1 m2 + lower_premium m1 v1 m2 v2

unfoldable pub mixed_margin : Lot → Lot → Levels → Levels
mixed_margin call put c =
    both_levels (λ (m : ℕ) (n : ℕ). m + n)
    (both_levels (λ (m : ℕ) (n : ℕ). mixed_at m call.premium n put.premium) call.margin put.margin)
    c

-- C, where the client is charged it.
abbrev pub c_charged : Bool → Levels → Levels
c_charged charged c = pick charged c (flat 0)

-- "5, r1 futures margins + r2 premium values."
unfoldable pub future_option_margin : ℕ → Levels → ℕ → ℕ → Levels
future_option_margin r1 margin r2 premium = per_level (λ (m : ℕ). r1 * m + r2 * premium) margin

-- "6, the short leg's single margin": the second leg is the short one.
unfoldable pub conversion_margin : Lot → Levels
conversion_margin short = short.margin

-- "7 and 8, the larger of the two futures margins."
unfoldable pub calendar_margin : Lot → Lot → Levels
calendar_margin long short = both_levels max long.margin short.margin

unfoldable pub products_margin : Lot → Lot → Levels
products_margin long short = both_levels max long.margin short.margin

unfoldable pub formula : ℕ → Lot → Lot → Terms → ℕ → ℕ → Bool → Levels
formula kind first second terms r1 r2 charged =
    by_kind kind
    debit_margin
    (credit_margin first.strike second.strike terms.multiplier)
    (time_margin terms.tenth first.price second.price terms.multiplier)
    (mixed_margin first second (c_charged charged terms.c))
    (future_option_margin r1 first.margin r2 second.premium)
    (conversion_margin second)
    (calendar_margin first second)
    (products_margin first second)
    (flat 0)

-- 2 for a lot or terms that no sheet gives, 6 for a ratio not 1 to 100, 10 for a kind not 1 to 8.
unfoldable pub unit_checks : ℕ → Lot → Lot → Terms → ℕ → ℕ → List Check
unit_checks kind first second terms r1 r2 =
    2 unless lot_fits first
    ∷ 2 unless lot_fits second
    ∷ 2 unless terms_fit terms
    ∷ 6 unless within 1 100 r1
    ∷ 6 unless within 1 100 r2
    ∷ 10 unless within 1 8 kind
    ∷ []

unfoldable pub unit_number : ℕ → Lot → Lot → Terms → ℕ → ℕ → ℕ
unit_number kind first second terms r1 r2 = first_failing (unit_checks kind first second terms r1 r2)

-- A unit's margin, or the number that refuses it and zeros.
unfoldable pub unit_margin : ℕ → Lot → Lot → Terms → ℕ → ℕ → Bool → Answer
unit_margin kind first second terms r1 r2 charged =
    record {
      number = unit_number kind first second terms r1 r2;
      levels = pick (eqb (unit_number kind first second terms r1 r2) 0) (formula kind first second terms r1 r2 charged) (flat 0);
    }
