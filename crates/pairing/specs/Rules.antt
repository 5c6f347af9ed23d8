-- Document 01, "Which pairs may stand": the rule of each kind, in five parts. Every part of every kind says what it asks for;
-- `any` where the paper asks for nothing.
use Rattle.std.specs.Prelude.{Bool, true, false, not, List, [], ◌∷◌, ℕ, eqb, ltb}
use Rattle.laws.specs.Kinds.{by_kind}
use Rattle.laws.specs.Checks.{Check, ◌unless◌, first_failing, all_pass}
use Rattle.series.specs.declared.Series.{Series}
use Rattle.pairing.specs.declared.Parts.{Parts}
use Rattle.legs.specs.Ratios.{allowed_of, is_couple, fits_ratio}
use Rattle.legs.specs.Legs.{same_code, two_products, same_nature, call_then_put, one_call_one_put, future_then_option, both_futures, debit_strikes, one_to_one}

abbrev pub any : Bool
any = true

-- what a kind asks of codes, natures, dates, strikes and ratio, part by part
abbrev pub rule : Bool → Bool → Bool → Bool → Bool → Parts
rule codes natures dates strikes ratio =
    record { kind = true; codes = codes; natures = natures; dates = dates; strikes = strikes; ratio = ratio }

-- "1. Debit vertical: long, then short, same option code, nature and date; call: long strike lower; put: long strike higher."
unfoldable pub debit_vertical : Series → Series → ℕ → ℕ → Parts
debit_vertical long short r1 r2 =
    rule (same_code long short)
    (same_nature long short)
    (eqb long.date short.date)
    (debit_strikes long short)
    (one_to_one r1 r2)

-- "2. Credit vertical: as 1 with the strikes the other way."
unfoldable pub credit_vertical : Series → Series → ℕ → ℕ → Parts
credit_vertical long short r1 r2 =
    rule (same_code long short)
    (same_nature long short)
    (eqb long.date short.date)
    (debit_strikes short long)
    (one_to_one r1 r2)

-- "3. Time spread: long, then short, same code and nature, long date later; any strikes."
unfoldable pub time_spread : Series → Series → ℕ → ℕ → Parts
time_spread long short r1 r2 =
    rule (same_code long short)
    (same_nature long short)
    (ltb short.date long.date)
    any
    (one_to_one r1 r2)

-- "4. Short call, then short put, same code; any strikes and dates."
unfoldable pub two_short : Series → Series → ℕ → ℕ → Parts
two_short call put r1 r2 =
    rule (same_code call put)
    (call_then_put call put)
    any
    any
    (one_to_one r1 r2)

-- "5. Future, then short option: long future with calls, short future with puts", in the ratios allowed. "Any dates."
unfoldable pub future_with_option : Series → Series → ℕ → ℕ → Parts
future_with_option future option r1 r2 =
    rule (is_couple (allowed_of future.code option.code))
    (future_then_option future option)
    any
    any
    (fits_ratio (allowed_of future.code option.code) r1 r2)

-- "6. Conversion or reversal: long option, then short option, same code, one call and one put."
unfoldable pub conversion : Series → Series → ℕ → ℕ → Parts
conversion long short r1 r2 =
    rule (same_code long short)
    (one_call_one_put long short)
    any
    any
    (one_to_one r1 r2)

-- "7. Calendar: long future, then short future, same code, different dates."
unfoldable pub calendar : Series → Series → ℕ → ℕ → Parts
calendar long short r1 r2 =
    rule (same_code long short)
    (both_futures long short)
    (not (eqb long.date short.date))
    any
    (one_to_one r1 r2)

-- "8. Two products: one long, then one short, of UNF with SXF, or of GTF with G2F, any dates."
unfoldable pub between_products : Series → Series → ℕ → ℕ → Parts
between_products long short r1 r2 =
    rule (two_products long short)
    (both_futures long short)
    any
    any
    (one_to_one r1 r2)

-- a kind that is not 1 to 8 has no rule
abbrev pub no_rule : Parts
no_rule = record { kind = false; codes = false; natures = false; dates = false; strikes = false; ratio = false }

unfoldable pub parts_of : ℕ → Series → Series → ℕ → ℕ → Parts
parts_of kind a b r1 r2 =
    by_kind kind
    (debit_vertical a b r1 r2)
    (credit_vertical a b r1 r2)
    (time_spread a b r1 r2)
    (two_short a b r1 r2)
    (future_with_option a b r1 r2)
    (conversion a b r1 r2)
    (calendar a b r1 r2)
    (between_products a b r1 r2)
    no_rule

-- "10: kind not 1..8, or pair not allowed", part by part
unfoldable pub pair_checks : Parts → List Check
pair_checks p =
    10 unless p.kind
    ∷ 10 unless p.codes
    ∷ 10 unless p.natures
    ∷ 10 unless p.dates
    ∷ 10 unless p.strikes
    ∷ 10 unless p.ratio
    ∷ []

-- the number that a pair is refused by, or 0
unfoldable pub pair_number : ℕ → Series → Series → ℕ → ℕ → ℕ
pair_number kind a b r1 r2 = first_failing (pair_checks (parts_of kind a b r1 r2))

unfoldable pub may_stand : ℕ → Series → Series → ℕ → ℕ → Bool
may_stand kind a b r1 r2 = all_pass (pair_checks (parts_of kind a b r1 r2))
