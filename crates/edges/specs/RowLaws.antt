-- Document 01, "Values at the edges": the twelve marked rows, proved together over the definitions.
use Rattle.std.specs.Prelude.{◌≡◌, refl, map}
use Rattle.laws.specs.Checks.{first_failing}
use Rattle.laws.specs.Kinds.{by_kind}
use Rattle.laws.specs.Search.{first_where}
use Rattle.laws.specs.Bytes.{same_bytes}
use Rattle.dates.specs.Calendar.{is_day, days_in, leap_year, short_month}
use Rattle.codes.specs.Codes.{product_of, listed}
use Rattle.rounding.specs.Rounding.{to_dollar, half_up, round_up, steps_up, steps_near}
use Rattle.levels.specs.Levels.{fixed_levels, levels_of, part_of, stock_rates, rates_of, raised, half_of}
use Rattle.levels.specs.Ranges.{fixed_fits, clearing_fits, part_fits, rates_fit, rate_fits, disposition_fits, levels_fit}
use Rattle.amounts.specs.Lines.{index_fits, stock_fits, option_fits, future_asked, index_asked, stock_asked, terms_asked}
use Rattle.amounts.specs.Singles.{index_margin, stock_margin, future_margin, single, worth, portion, out_of_money, dollars, premium_value}
use Rattle.amounts.specs.Lots.{stock_future, index_option, stock_option, index_terms, stock_terms}
use Rattle.amounts.specs.Limits.{lot_fits, terms_fit}
use Rattle.units.specs.Units.{unit_margin, unit_number, unit_checks, formula, debit_margin, credit_margin, time_margin, lower_premium, mixed_at, mixed_margin, future_option_margin, conversion_margin, calendar_margin, products_margin}
use Rattle.edges.specs.Rows.{Row, rows, gives, txo, ten_percent}

-- Every row gives what the paper says.
pub rows_hold : map (λ (r : Row). gives r.case) rows ≡ map (λ (r : Row). r.expected) rows
unfolding gives rows txo ten_percent fixed_levels levels_of part_of fixed_fits clearing_fits part_fits stock_rates rates_of raised half_of rates_fit rate_fits disposition_fits levels_fit round_up half_up steps_up steps_near to_dollar product_of listed first_where same_bytes stock_future index_option stock_option index_terms stock_terms index_fits stock_fits option_fits future_asked index_asked stock_asked terms_asked index_margin stock_margin future_margin single worth portion out_of_money dollars premium_value unit_margin unit_number unit_checks lot_fits terms_fit formula by_kind debit_margin credit_margin time_margin lower_premium mixed_at mixed_margin future_option_margin conversion_margin calendar_margin products_margin first_failing is_day days_in leap_year short_month
rows_hold = refl
