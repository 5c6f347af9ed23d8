-- Document 01, "Rates and amounts", fixed futures and stocks: clearing, maintenance and initial.
use Rattle.std.specs.Prelude.{ℕ, ◌*◌, ◌/◌, Result, Ok, Err}
use Rattle.laws.specs.declared.Refusal.{Refusal}
use Rattle.laws.specs.Refusals.{number_of}
use Rattle.laws.specs.Truth.{pick}
use Rattle.rounding.specs.Rounding.{round_up, half_up}
use Rattle.levels.specs.declared.Levels.{Levels}
use Rattle.levels.specs.Ranges.{fixed_fits, rates_fit}

-- What is said of one level, at each level; of one number, and of two.
abbrev pub per_level : (ℕ → ℕ) → Levels → Levels
per_level f l = record { clearing = f l.clearing; maintenance = f l.maintenance; initial = f l.initial }

abbrev pub both_levels : (ℕ → ℕ → ℕ) → Levels → Levels → Levels
both_levels f l m =
    record {
      clearing = f l.clearing m.clearing;
      maintenance = f l.maintenance m.maintenance;
      initial = f l.initial m.initial;
    }

abbrev pub flat : ℕ → Levels
flat n = record { clearing = n; maintenance = n; initial = n }

-- A refusal's number, or 0 and the levels; zeros with a refusal.
pub record Answer : Type 0 where
  pub number : ℕ
  pub levels : Levels

-- What an answer of the code stands for.
abbrev pub answer_of : Result Levels Refusal → Answer
answer_of (Ok l) = record { number = 0; levels = l }
answer_of (Err r) = record { number = number_of r; levels = flat 0 }

-- A value outside its range or off its step: 2, and zeros.
abbrev pub outside : Answer
outside = record { number = 2; levels = flat 0 }

-- "Maintenance is 1.035 times and initial 1.35 times it, each the least multiple of 1,000 not below the exact product"; 1,000 is
-- the step.
unfoldable pub levels_of : ℕ → ℕ → Levels
levels_of clearing step =
    record {
      clearing = clearing;
      maintenance = round_up (clearing * 1035) 1000 step;
      initial = round_up (clearing * 1350) 1000 step;
    }

-- "MTX, TMF, ZEF, ZFF are 1/4, 1/20, 1/8, 1/4 of the TX, TE, TF amount at the same level."
unfoldable pub part_of : Levels → ℕ → Levels
part_of l n = per_level (λ (x : ℕ). x / n) l

-- A fixed future's margin, from the full-size future's clearing amount and the part that it is of it.
unfoldable pub fixed_levels : ℕ → ℕ → Answer
fixed_levels clearing part =
    pick (fixed_fits clearing part)
    (record { number = 0; levels = part_of (levels_of clearing 1000) part })
    outside

-- Rates are in thousandths of a percent, a disposition in tenths. "Raise the clearing rate first;
unfoldable pub raised : ℕ → ℕ → ℕ
raised rate disposition = rate * disposition / 10

-- then take 1.035 and 1.35 times the raised rate, each rounded half up to 0.01 percent."
unfoldable pub rates_of : ℕ → ℕ → Levels
rates_of rate disposition =
    record {
      clearing = raised rate disposition;
      maintenance = half_up (raised rate disposition * 1035) 1000 10;
      initial = half_up (raised rate disposition * 1350) 1000 10;
    }

-- A stock's rates, for its futures or for its options (a).
unfoldable pub stock_rates : ℕ → ℕ → Answer
stock_rates rate disposition =
    pick (rates_fit rate disposition)
    (record { number = 0; levels = rates_of rate disposition })
    outside

-- "b is half of a at each level, exact."
unfoldable pub half_of : ℕ → ℕ
half_of a = a / 2
