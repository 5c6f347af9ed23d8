-- Document 01, "How much each contract has to say": for every public function of every library the law that no second answer satisfies its
-- contract. `Learnt` is the function's own `ensures`, as a caller learns it. A law has the name of its crate and function.
use contract.Lifetimes.{Lfts}
use denote.Param.Laws.{Laws, IsCopy}
use denote.RattleType.{RattleType}
use mir.Syntax.{Dict}
use Rattle.std.specs.declared.clone.Clone
use Rattle.rows.specs.declared.Row
use Rattle.laws.specs.OneAnswer.{one_answer}
use Rattle.laws.specs.contracts as laws_stated
use Rattle.laws.proofs as laws
use Rattle.dates.specs.contracts as dates_stated
use Rattle.dates.proofs as dates
use Rattle.codes.specs.contracts as codes_stated
use Rattle.codes.proofs as codes
use Rattle.series.specs.contracts as series_stated
use Rattle.series.proofs as series
use Rattle.legs.specs.contracts as legs_stated
use Rattle.legs.proofs as legs
use Rattle.pairing.specs.contracts as pairing_stated
use Rattle.pairing.proofs as pairing
use Rattle.rows.specs.contracts as rows_stated
use Rattle.rows.proofs as rows
use Rattle.places.specs.contracts as places_stated
use Rattle.places.proofs as places
use Rattle.rules.specs.contracts as rules_stated
use Rattle.rules.proofs as rules
use Rattle.halving.specs.contracts as halving_stated
use Rattle.halving.proofs as halving
use Rattle.sound.specs.contracts as sound_stated
use Rattle.sound.proofs as sound
use Rattle.moves.specs.contracts as moves_stated
use Rattle.moves.proofs as moves
use Rattle.ties.specs.contracts as ties_stated
use Rattle.ties.proofs as ties
use Rattle.digits.specs.contracts as digits_stated
use Rattle.digits.proofs as digits
use Rattle.put.specs.contracts as put_stated
use Rattle.put.proofs as put
use Rattle.lines.specs.contracts as lines_stated
use Rattle.lines.proofs as lines
use Rattle.printed.specs.contracts as printed_stated
use Rattle.printed.proofs as printed
use Rattle.book_lines.specs.contracts as book_lines_stated
use Rattle.book_lines.proofs as book_lines
use Rattle.reading.specs.contracts as reading_stated
use Rattle.reading.proofs as reading
use Rattle.call_lines.specs.contracts as call_lines_stated
use Rattle.call_lines.proofs as call_lines
use Rattle.rounding.specs.contracts as rounding_stated
use Rattle.rounding.proofs as rounding
use Rattle.levels.specs.contracts as levels_stated
use Rattle.levels.proofs as levels
use Rattle.amounts.specs.contracts as amounts_stated
use Rattle.amounts.proofs as amounts
use Rattle.units.specs.contracts as units_stated
use Rattle.units.proofs as units
use Rattle.sheets.specs.contracts as sheets_stated
use Rattle.sheets.proofs as sheets
use Rattle.sheet_lines.specs.contracts as sheet_lines_stated
use Rattle.sheet_lines.proofs as sheet_lines
use Rattle.price_lines.specs.contracts as price_lines_stated
use Rattle.price_lines.proofs as price_lines
use Rattle.checking.specs.contracts as checking_stated
use Rattle.checking.proofs as checking
use Rattle.quotes.specs.contracts as quotes_stated
use Rattle.quotes.proofs as quotes
use Rattle.account.specs.contracts as account_stated
use Rattle.account.proofs as account
use Rattle.reports.specs.contracts as reports_stated
use Rattle.reports.proofs as reports
use Rattle.exports.specs.contracts as exports_stated
use Rattle.exports.proofs as exports
use Rattle.evidence.specs.OneAnswer.{OneAnswer}
use Rattle.evidence.specs.OneAnswerLaws.{by_equation, by_equations, by_writing, by_number, by_image, by_images, one_head, one_figures}
use Rattle.calls.specs.Outcome.{outcome_in, made_in}
use Rattle.levels.specs.Levels.{answer_of}
use Rattle.levels.specs.LevelLaws.{one_levels}
use Rattle.calls.specs.OutcomeLaws.{one_outcome, one_make}
use Rattle.reading.specs.Reading.{answer_in}
use Rattle.reading.specs.AnswerLaws.{one_reading}
use Rattle.printed.specs.Printed.{printed_in}
use Rattle.printed.specs.PrintedLaws.{one_printed}
use Rattle.price_lines.specs.Heads.{head_of, figures_of}
use Rattle.evidence.specs.PriceOf

-- laws
pub laws_number : OneAnswer laws_stated.Refusal.number.ended laws.Refusal.number.Reads.Learnt
laws_number κs a r s e f = by_equation

pub laws_ensure : OneAnswer laws_stated.ensure.ended laws.ensure.Reads.Learnt
laws_ensure κs a r s e f = by_number

pub laws_in_range : OneAnswer laws_stated.in_range.ended laws.in_range.Reads.Learnt
laws_in_range κs a r s e f = by_equation

-- dates
pub dates_is_leap : OneAnswer dates_stated.is_leap.ended dates.is_leap.Reads.Learnt
dates_is_leap κs a r s e f = by_equation

pub dates_days_in : OneAnswer dates_stated.days_in.ended dates.days_in.Reads.Learnt
dates_days_in κs a r s e f = by_equation

pub dates_is_day : OneAnswer dates_stated.is_day.ended dates.is_day.Reads.Learnt
dates_is_day κs a r s e f = by_equation

-- codes
pub codes_names_stock : OneAnswer codes_stated.names_stock.ended codes.names_stock.Reads.Learnt
codes_names_stock κs a r s e f = by_equation

pub codes_product_of : OneAnswer codes_stated.product_of.ended codes.product_of.Reads.Learnt
codes_product_of κs a r s e f = by_equation

pub codes_is_known : OneAnswer codes_stated.is_known.ended codes.is_known.Reads.Learnt
codes_is_known κs a r s e f = by_equation

pub codes_is_future_class : OneAnswer codes_stated.is_future_class.ended codes.is_future_class.Reads.Learnt
codes_is_future_class κs a r s e f = by_equation

pub codes_is_stock_future : OneAnswer codes_stated.is_stock_future.ended codes.is_stock_future.Reads.Learnt
codes_is_stock_future κs a r s e f = by_equation

pub codes_is_option_class : OneAnswer codes_stated.is_option_class.ended codes.is_option_class.Reads.Learnt
codes_is_option_class κs a r s e f = by_equation

pub codes_is_own_option : OneAnswer codes_stated.is_own_option.ended codes.is_own_option.Reads.Learnt
codes_is_own_option κs a r s e f = by_equation

pub legs_allowed_of : OneAnswer legs_stated.allowed_of.ended legs.allowed_of.Reads.Learnt
legs_allowed_of κs a r s e f = by_equation

pub legs_is_couple : OneAnswer legs_stated.is_couple.ended legs.is_couple.Reads.Learnt
legs_is_couple κs a r s e f = by_equation

pub legs_fits_ratio : OneAnswer legs_stated.fits_ratio.ended legs.fits_ratio.Reads.Learnt
legs_fits_ratio κs a r s e f = by_equation

-- series
pub series_nature_suits : OneAnswer series_stated.nature_suits.ended series.nature_suits.Reads.Learnt
series_nature_suits κs a r s e f = by_equation

pub series_check : OneAnswer series_stated.check.ended series.check.Reads.Learnt
series_check κs a r s e f = by_number

pub series_is_future : OneAnswer series_stated.is_future.ended series.is_future.Reads.Learnt
series_is_future κs a r s e f = by_equation

pub series_is_call : OneAnswer series_stated.is_call.ended series.is_call.Reads.Learnt
series_is_call κs a r s e f = by_equation

pub series_is_put : OneAnswer series_stated.is_put.ended series.is_put.Reads.Learnt
series_is_put κs a r s e f = by_equation

pub series_letter_of : OneAnswer series_stated.letter_of.ended series.letter_of.Reads.Learnt
series_letter_of κs a r s e f = by_equation

pub series_strike_of : OneAnswer series_stated.strike_of.ended series.strike_of.Reads.Learnt
series_strike_of κs a r s e f = by_equation

pub series_halves_of : OneAnswer series_stated.halves_of.ended series.halves_of.Reads.Learnt
series_halves_of κs a r s e f = by_equation

pub series_compare : OneAnswer series_stated.compare.ended series.compare.Reads.Learnt
series_compare κs a r s e f = by_equation

-- legs
pub legs_same_codes : OneAnswer legs_stated.same_codes.ended legs.same_codes.Reads.Learnt
legs_same_codes κs a r s e f = by_equation

pub legs_are_two_products : OneAnswer legs_stated.are_two_products.ended legs.are_two_products.Reads.Learnt
legs_are_two_products κs a r s e f = by_equation

pub legs_same_natures : OneAnswer legs_stated.same_natures.ended legs.same_natures.Reads.Learnt
legs_same_natures κs a r s e f = by_equation

pub legs_call_then_put : OneAnswer legs_stated.call_then_put.ended legs.call_then_put.Reads.Learnt
legs_call_then_put κs a r s e f = by_equation

pub legs_one_call_one_put : OneAnswer legs_stated.one_call_one_put.ended legs.one_call_one_put.Reads.Learnt
legs_one_call_one_put κs a r s e f = by_equation

pub legs_future_then_option : OneAnswer legs_stated.future_then_option.ended legs.future_then_option.Reads.Learnt
legs_future_then_option κs a r s e f = by_equation

pub legs_both_futures : OneAnswer legs_stated.both_futures.ended legs.both_futures.Reads.Learnt
legs_both_futures κs a r s e f = by_equation

pub legs_debit_strikes : OneAnswer legs_stated.debit_strikes.ended legs.debit_strikes.Reads.Learnt
legs_debit_strikes κs a r s e f = by_equation

pub legs_one_to_one : OneAnswer legs_stated.one_to_one.ended legs.one_to_one.Reads.Learnt
legs_one_to_one κs a r s e f = by_equation

-- pairing
pub pairing_parts_of : OneAnswer pairing_stated.parts_of.ended pairing.parts_of.Reads.Learnt
pairing_parts_of κs a r s e f = by_equation

pub pairing_check : OneAnswer pairing_stated.check.ended pairing.check.Reads.Learnt
pairing_check κs a r s e f = by_number

pub pairing_may_stand : OneAnswer pairing_stated.may_stand.ended pairing.may_stand.Reads.Learnt
pairing_may_stand κs a r s e f = by_equation

pub pairing_first_side : OneAnswer pairing_stated.first_side.ended pairing.first_side.Reads.Learnt
pairing_first_side κs a r s e f = by_equation

pub pairing_second_side : OneAnswer pairing_stated.second_side.ended pairing.second_side.Reads.Learnt
pairing_second_side κs a r s e f = by_equation

-- rows
pub rows_new_holding : OneAnswer rows_stated.new_holding.ended rows.new_holding.Reads.Learnt
rows_new_holding κs a r s e f = by_equation

pub rows_new_pair : OneAnswer rows_stated.new_pair.ended rows.new_pair.Reads.Learnt
rows_new_pair κs a r s e f = by_equation

pub rows_empty_holding : OneAnswer rows_stated.empty_holding.ended rows.empty_holding.Reads.Learnt
rows_empty_holding κs a r s e f = by_equation

pub rows_empty_pair : OneAnswer rows_stated.empty_pair.ended rows.empty_pair.Reads.Learnt
rows_empty_pair κs a r s e f = by_equation

pub rows_empty_book : OneAnswer rows_stated.empty_book.ended rows.empty_book.Reads.Learnt
rows_empty_book κs a r s e f = by_equation

pub rows_no_lots : OneAnswer rows_stated.no_lots.ended rows.no_lots.Reads.Learnt
rows_no_lots κs a r s e f = by_equation

pub rows_no_units : OneAnswer rows_stated.no_units.ended rows.no_units.Reads.Learnt
rows_no_units κs a r s e f = by_equation

pub rows_is_empty_holding : OneAnswer rows_stated.is_empty_holding.ended rows.is_empty_holding.Reads.Learnt
rows_is_empty_holding κs a r s e f = by_equation

pub rows_is_empty_pair : OneAnswer rows_stated.is_empty_pair.ended rows.is_empty_pair.Reads.Learnt
rows_is_empty_pair κs a r s e f = by_equation

pub rows_lots_on : OneAnswer rows_stated.lots_on.ended rows.lots_on.Reads.Learnt
rows_lots_on κs a r s e f = by_equation

pub rows_lessen : OneAnswer rows_stated.lessen.ended rows.lessen.Reads.Learnt
rows_lessen κs a r s e f = by_equation

pub rows_same_series : OneAnswer rows_stated.same_series.ended rows.same_series.Reads.Learnt
rows_same_series κs a r s e f = by_equation

pub rows_compare_holdings : OneAnswer rows_stated.compare_holdings.ended rows.compare_holdings.Reads.Learnt
rows_compare_holdings κs a r s e f = by_equation

pub rows_compare_pairs : OneAnswer rows_stated.compare_pairs.ended rows.compare_pairs.Reads.Learnt
rows_compare_pairs κs a r s e f = by_equation

-- a holding as a row
pub rows_holding_compare : OneAnswer rows_stated.HoldingRow.compare.ended rows.HoldingRow.compare.Reads.Learnt
rows_holding_compare κs a r s e f = by_equation

pub rows_holding_is_gone : OneAnswer rows_stated.HoldingRow.is_gone.ended rows.HoldingRow.is_gone.Reads.Learnt
rows_holding_is_gone κs a r s e f = by_equation

pub rows_holding_nothing : OneAnswer rows_stated.HoldingRow.nothing.ended rows.HoldingRow.nothing.Reads.Learnt
rows_holding_nothing κs a r s e f = by_equation

pub rows_holding_empty : OneAnswer rows_stated.HoldingRow.empty.ended rows.HoldingRow.empty.Reads.Learnt
rows_holding_empty κs a r s e f = by_equation

pub rows_holding_is_empty : OneAnswer rows_stated.HoldingRow.is_empty.ended rows.HoldingRow.is_empty.Reads.Learnt
rows_holding_is_empty κs a r s e f = by_equation

-- a pair as a row
pub rows_pair_compare : OneAnswer rows_stated.PairRow.compare.ended rows.PairRow.compare.Reads.Learnt
rows_pair_compare κs a r s e f = by_equation

pub rows_pair_is_gone : OneAnswer rows_stated.PairRow.is_gone.ended rows.PairRow.is_gone.Reads.Learnt
rows_pair_is_gone κs a r s e f = by_equation

pub rows_pair_nothing : OneAnswer rows_stated.PairRow.nothing.ended rows.PairRow.nothing.Reads.Learnt
rows_pair_nothing κs a r s e f = by_equation

pub rows_pair_empty : OneAnswer rows_stated.PairRow.empty.ended rows.PairRow.empty.Reads.Learnt
rows_pair_empty κs a r s e f = by_equation

pub rows_pair_is_empty : OneAnswer rows_stated.PairRow.is_empty.ended rows.PairRow.is_empty.Reads.Learnt
rows_pair_is_empty κs a r s e f = by_equation

-- places
pub places_holding_in : OneAnswer places_stated.holding_in.ended places.holding_in.Reads.Learnt
places_holding_in κs a r s e f = by_equation

pub places_pair_in : OneAnswer places_stated.pair_in.ended places.pair_in.Reads.Learnt
places_pair_in κs a r s e f = by_equation

-- of any type of row
module _ (R : RattleType) (LR : Laws R) (copies : IsCopy R) (row : Row.Ghosts R.Denot) (d1 : Dict) (clone : Clone.Ghosts R.Denot) (d2 : Dict) where
  pub places_row_in : OneAnswer (places_stated.row_in.ended R row d1 clone d2) (places.row_in.Reads.Learnt R LR copies row d1 clone d2)
  places_row_in κs a r s e f = by_equation

  pub places_find : OneAnswer (places_stated.find.ended R row d1 clone d2) (places.find.Reads.Learnt R LR copies row d1 clone d2)
  places_find κs a r s e f = by_equation

  pub places_insert : OneAnswer (places_stated.insert.ended R row d1 clone d2) (places.insert.Reads.Learnt R LR copies row d1 clone d2)
  places_insert κs a r s e f = by_writing (λ b. (b, _))

  pub places_remove : OneAnswer (places_stated.remove.ended R row d1 clone d2) (places.remove.Reads.Learnt R LR copies row d1 clone d2)
  places_remove κs a r s e f = by_writing (λ b. (b, _))

  pub places_set : OneAnswer (places_stated.set.ended R row d1 clone d2) (places.set.Reads.Learnt R LR copies row d1 clone d2)
  places_set κs a r s e f = by_writing (λ b. (b, _))

  pub places_keep : OneAnswer (places_stated.keep.ended R row d1 clone d2) (places.keep.Reads.Learnt R LR copies row d1 clone d2)
  places_keep κs a r s e f = by_equations (λ b. (b, _))

-- rules
pub rules_account_fits : OneAnswer rules_stated.account_fits.ended rules.account_fits.Reads.Learnt
rules_account_fits κs a r s e f = by_equation

pub rules_is_identity : OneAnswer rules_stated.is_identity.ended rules.is_identity.Reads.Learnt
rules_is_identity κs a r s e f = by_equation

pub rules_counts_fit : OneAnswer rules_stated.counts_fit.ended rules.counts_fit.Reads.Learnt
rules_counts_fit κs a r s e f = by_equation

pub rules_lots_good : OneAnswer rules_stated.lots_good.ended rules.lots_good.Reads.Learnt
rules_lots_good κs a r s e f = by_equation

pub rules_good_holding : OneAnswer rules_stated.good_holding.ended rules.good_holding.Reads.Learnt
rules_good_holding κs a r s e f = by_equation

pub rules_holdings_end : OneAnswer rules_stated.holdings_end.ended rules.holdings_end.Reads.Learnt
rules_holdings_end κs a r s e f = by_equation

pub rules_pairs_end : OneAnswer rules_stated.pairs_end.ended rules.pairs_end.Reads.Learnt
rules_pairs_end κs a r s e f = by_equation

-- halving
pub halving_place_of : OneAnswer halving_stated.place_of.ended halving.place_of.Reads.Learnt
halving_place_of κs a r s e f = by_equation

pub halving_find : OneAnswer halving_stated.find.ended halving.find.Reads.Learnt
halving_find κs a r s e f = by_equation

-- sound
pub sound_walked_book : OneAnswer sound_stated.walked_book.ended sound.walked_book.Reads.Learnt
sound_walked_book κs a r s e f = by_equation

pub sound_checked_book : OneAnswer sound_stated.checked_book.ended sound.checked_book.Reads.Learnt
sound_checked_book κs a r s e f = by_equation

pub sound_is_sound : OneAnswer sound_stated.is_sound.ended sound.is_sound.Reads.Learnt
sound_is_sound κs a r s e f = by_equation

-- moves
pub moves_make : OneAnswer moves_stated.make.ended moves.make.Reads.Learnt
moves_make κs a r s e f = by_image made_in one_make

pub moves_open : OneAnswer moves_stated.open.ended moves.open.Reads.Learnt
moves_open κs a r s e f = by_image (outcome_in _) (one_outcome _)

pub moves_close : OneAnswer moves_stated.close.ended moves.close.Reads.Learnt
moves_close κs a r s e f = by_image (outcome_in _) (one_outcome _)

pub moves_turn : OneAnswer moves_stated.turn.ended moves.turn.Reads.Learnt
moves_turn κs a r s e f = by_image (outcome_in _) (one_outcome _)

-- ties
pub ties_pair : OneAnswer ties_stated.pair.ended ties.pair.Reads.Learnt
ties_pair κs a r s e f = by_image (outcome_in _) (one_outcome _)

pub ties_split : OneAnswer ties_stated.split.ended ties.split.Reads.Learnt
ties_split κs a r s e f = by_image (outcome_in _) (one_outcome _)

-- digits
pub digits_width_of : OneAnswer digits_stated.width_of.ended digits.width_of.Reads.Learnt
digits_width_of κs a r s e f = by_equation

-- put
pub put_put_byte : OneAnswer put_stated.put_byte.ended put.put_byte.Reads.Learnt
put_put_byte κs a r s e f = by_equations (λ b. (b, _))

pub put_put_bytes : OneAnswer put_stated.put_bytes.ended put.put_bytes.Reads.Learnt
put_put_bytes κs a r s e f = by_equations (λ b. (b, _))

pub put_put_fixed : OneAnswer put_stated.put_fixed.ended put.put_fixed.Reads.Learnt
put_put_fixed κs a r s e f = by_equations (λ b. (b, _))

pub put_put_number : OneAnswer put_stated.put_number.ended put.put_number.Reads.Learnt
put_put_number κs a r s e f = by_equations (λ b. (b, _))

pub put_put_figure : OneAnswer put_stated.put_figure.ended put.put_figure.Reads.Learnt
put_put_figure κs a r s e f = by_equations (λ b. (b, _))

pub put_put_digits : OneAnswer put_stated.put_digits.ended put.put_digits.Reads.Learnt
put_put_digits κs a r s e f = by_equations (λ b. (b, _))

pub put_put_refusal : OneAnswer put_stated.put_refusal.ended put.put_refusal.Reads.Learnt
put_put_refusal κs a r s e f = by_equations (λ b. (b, _))

pub put_refusal : OneAnswer put_stated.refusal.ended put.refusal.Reads.Learnt
put_refusal κs a r s e f = by_equation

-- lines
pub lines_next : OneAnswer lines_stated.next.ended lines.next.Reads.Learnt
lines_next κs a r s e f = by_equation

pub lines_same_text : OneAnswer lines_stated.same_text.ended lines.same_text.Reads.Learnt
lines_same_text κs a r s e f = by_equation

pub lines_no_cell : OneAnswer lines_stated.no_cell.ended lines.no_cell.Reads.Learnt
lines_no_cell κs a r s e f = by_equation

pub lines_stop_of : OneAnswer lines_stated.stop_of.ended lines.stop_of.Reads.Learnt
lines_stop_of κs a r s e f = by_equation

pub lines_no_field : OneAnswer lines_stated.no_field.ended lines.no_field.Reads.Learnt
lines_no_field κs a r s e f = by_equation

pub lines_number_at : OneAnswer lines_stated.number_at.ended lines.number_at.Reads.Learnt
lines_number_at κs a r s e f = by_equation

pub lines_date_at : OneAnswer lines_stated.date_at.ended lines.date_at.Reads.Learnt
lines_date_at κs a r s e f = by_equation

pub lines_code_at : OneAnswer lines_stated.code_at.ended lines.code_at.Reads.Learnt
lines_code_at κs a r s e f = by_equation

pub lines_series_of : OneAnswer lines_stated.series_of.ended lines.series_of.Reads.Learnt
lines_series_of κs a r s e f = by_equation

pub lines_field_at : OneAnswer lines_stated.field_at.ended lines.field_at.Reads.Learnt
lines_field_at κs a r s e f = by_equation

pub lines_field_behind : OneAnswer lines_stated.field_behind.ended lines.field_behind.Reads.Learnt
lines_field_behind κs a r s e f = by_equation

pub lines_series_behind : OneAnswer lines_stated.series_behind.ended lines.series_behind.Reads.Learnt
lines_series_behind κs a r s e f = by_equation

-- printed
pub printed_print : OneAnswer printed_stated.print.ended printed.print.Reads.Learnt
printed_print κs a r s e f = by_images printed_in one_printed (λ b. (_, (b, _)))

-- book_lines
pub book_lines_letter_of : OneAnswer book_lines_stated.letter_of.ended book_lines.letter_of.Reads.Learnt
book_lines_letter_of κs a r s e f = by_equation

pub book_lines_parts : OneAnswer book_lines_stated.parts.ended book_lines.parts.Reads.Learnt
book_lines_parts κs a r s e f = by_equation

pub book_lines_form_of : OneAnswer book_lines_stated.form_of.ended book_lines.form_of.Reads.Learnt
book_lines_form_of κs a r s e f = by_equation

pub book_lines_parts_of : OneAnswer book_lines_stated.parts_of.ended book_lines.parts_of.Reads.Learnt
book_lines_parts_of κs a r s e f = by_equation

pub book_lines_no_item : OneAnswer book_lines_stated.no_item.ended book_lines.no_item.Reads.Learnt
book_lines_no_item κs a r s e f = by_equation

pub book_lines_item_behind : OneAnswer book_lines_stated.item_behind.ended book_lines.item_behind.Reads.Learnt
book_lines_item_behind κs a r s e f = by_equation

pub book_lines_holding_of : OneAnswer book_lines_stated.holding_of.ended book_lines.holding_of.Reads.Learnt
book_lines_holding_of κs a r s e f = by_equation

pub book_lines_pair_of : OneAnswer book_lines_stated.pair_of.ended book_lines.pair_of.Reads.Learnt
book_lines_pair_of κs a r s e f = by_equation

pub book_lines_check_line : OneAnswer book_lines_stated.check_line.ended book_lines.check_line.Reads.Learnt
book_lines_check_line κs a r s e f = by_number

-- reading
pub reading_read : OneAnswer reading_stated.read.ended reading.read.Reads.Learnt
reading_read κs a r s e f = by_image answer_in one_reading

-- call_lines
pub call_lines_work : OneAnswer call_lines_stated.work.ended call_lines.work.Reads.Learnt
call_lines_work κs a r s e f = by_equation

pub call_lines_makes_book : OneAnswer call_lines_stated.makes_book.ended call_lines.makes_book.Reads.Learnt
call_lines_makes_book κs a r s e f = by_equation

-- rounding
pub rounding_round_up : OneAnswer rounding_stated.round_up.ended rounding.round_up.Reads.Learnt
rounding_round_up κs a r s e f = by_equation

pub rounding_half_up : OneAnswer rounding_stated.half_up.ended rounding.half_up.Reads.Learnt
rounding_half_up κs a r s e f = by_equation

pub rounding_to_dollar : OneAnswer rounding_stated.to_dollar.ended rounding.to_dollar.Reads.Learnt
rounding_to_dollar κs a r s e f = by_equation

-- levels
pub levels_same_at_all : OneAnswer levels_stated.same_at_all.ended levels.same_at_all.Reads.Learnt
levels_same_at_all κs a r s e f = by_equation

pub levels_levels_fit : OneAnswer levels_stated.levels_fit.ended levels.levels_fit.Reads.Learnt
levels_levels_fit κs a r s e f = by_equation

pub levels_clearing_fits : OneAnswer levels_stated.clearing_fits.ended levels.clearing_fits.Reads.Learnt
levels_clearing_fits κs a r s e f = by_equation

pub levels_rates_fit : OneAnswer levels_stated.rates_fit.ended levels.rates_fit.Reads.Learnt
levels_rates_fit κs a r s e f = by_equation

pub levels_fixed_levels : OneAnswer levels_stated.fixed_levels.ended levels.fixed_levels.Reads.Learnt
levels_fixed_levels κs a r s e f = by_image answer_of one_levels

pub levels_stock_rates : OneAnswer levels_stated.stock_rates.ended levels.stock_rates.Reads.Learnt
levels_stock_rates κs a r s e f = by_image answer_of one_levels

pub levels_halves : OneAnswer levels_stated.halves.ended levels.halves.Reads.Learnt
levels_halves κs a r s e f = by_equation

-- amounts
pub amounts_lot_fits : OneAnswer amounts_stated.lot_fits.ended amounts.lot_fits.Reads.Learnt
amounts_lot_fits κs a r s e f = by_equation

pub amounts_terms_fit : OneAnswer amounts_stated.terms_fit.ended amounts.terms_fit.Reads.Learnt
amounts_terms_fit κs a r s e f = by_equation

pub amounts_index_fits : OneAnswer amounts_stated.index_fits.ended amounts.index_fits.Reads.Learnt
amounts_index_fits κs a r s e f = by_equation

pub amounts_stock_fits : OneAnswer amounts_stated.stock_fits.ended amounts.stock_fits.Reads.Learnt
amounts_stock_fits κs a r s e f = by_equation

pub amounts_premium_value : OneAnswer amounts_stated.premium_value.ended amounts.premium_value.Reads.Learnt
amounts_premium_value κs a r s e f = by_equation

pub amounts_fixed_future : OneAnswer amounts_stated.fixed_future.ended amounts.fixed_future.Reads.Learnt
amounts_fixed_future κs a r s e f = by_equation

pub amounts_stock_future : OneAnswer amounts_stated.stock_future.ended amounts.stock_future.Reads.Learnt
amounts_stock_future κs a r s e f = by_equation

pub amounts_index_option : OneAnswer amounts_stated.index_option.ended amounts.index_option.Reads.Learnt
amounts_index_option κs a r s e f = by_equation

pub amounts_stock_option : OneAnswer amounts_stated.stock_option.ended amounts.stock_option.Reads.Learnt
amounts_stock_option κs a r s e f = by_equation

pub amounts_index_terms : OneAnswer amounts_stated.index_terms.ended amounts.index_terms.Reads.Learnt
amounts_index_terms κs a r s e f = by_equation

pub amounts_stock_terms : OneAnswer amounts_stated.stock_terms.ended amounts.stock_terms.Reads.Learnt
amounts_stock_terms κs a r s e f = by_equation

-- units
pub units_unit_margin : OneAnswer units_stated.unit_margin.ended units.unit_margin.Reads.Learnt
units_unit_margin κs a r s e f = by_image answer_of one_levels

-- sheets
pub sheets_no_stock : OneAnswer sheets_stated.no_stock.ended sheets.no_stock.Reads.Learnt
sheets_no_stock κs a r s e f = by_equation

pub sheets_empty_sheet : OneAnswer sheets_stated.empty_sheet.ended sheets.empty_sheet.Reads.Learnt
sheets_empty_sheet κs a r s e f = by_equation

pub sheets_future_place : OneAnswer sheets_stated.future_place.ended sheets.future_place.Reads.Learnt
sheets_future_place κs a r s e f = by_equation

pub sheets_option_place : OneAnswer sheets_stated.option_place.ended sheets.option_place.Reads.Learnt
sheets_option_place κs a r s e f = by_equation

pub sheets_two_capitals : OneAnswer sheets_stated.two_capitals.ended sheets.two_capitals.Reads.Learnt
sheets_two_capitals κs a r s e f = by_equation

pub sheets_stock_place : OneAnswer sheets_stated.stock_place.ended sheets.stock_place.Reads.Learnt
sheets_stock_place κs a r s e f = by_equation

pub sheets_nearest_place : OneAnswer sheets_stated.nearest_place.ended sheets.nearest_place.Reads.Learnt
sheets_nearest_place κs a r s e f = by_equation

pub sheets_stock_at : OneAnswer sheets_stated.stock_at.ended sheets.stock_at.Reads.Learnt
sheets_stock_at κs a r s e f = by_equation

pub sheets_price_of : OneAnswer sheets_stated.price_of.ended PriceOf.Learnt
sheets_price_of κs a r s e f = by_equation

pub sheets_prices_of : OneAnswer sheets_stated.prices_of.ended sheets.prices_of.Reads.Learnt
sheets_prices_of κs a r s e f = by_equation

pub sheets_clearing_of : OneAnswer sheets_stated.clearing_of.ended sheets.clearing_of.Reads.Learnt
sheets_clearing_of κs a r s e f = by_equation

pub sheets_index_of : OneAnswer sheets_stated.index_of.ended sheets.index_of.Reads.Learnt
sheets_index_of κs a r s e f = by_equation

-- sheet_lines
pub sheet_lines_letter_of : OneAnswer sheet_lines_stated.letter_of.ended sheet_lines.letter_of.Reads.Learnt
sheet_lines_letter_of κs a r s e f = by_equation

pub sheet_lines_asked_table : OneAnswer sheet_lines_stated.asked_table.ended sheet_lines.asked_table.Reads.Learnt
sheet_lines_asked_table κs a r s e f = by_equation

pub sheet_lines_form_of : OneAnswer sheet_lines_stated.form_of.ended sheet_lines.form_of.Reads.Learnt
sheet_lines_form_of κs a r s e f = by_equation

pub sheet_lines_fields_of : OneAnswer sheet_lines_stated.fields_of.ended sheet_lines.fields_of.Reads.Learnt
sheet_lines_fields_of κs a r s e f = by_equation

pub sheet_lines_future_row : OneAnswer sheet_lines_stated.future_row.ended sheet_lines.future_row.Reads.Learnt
sheet_lines_future_row κs a r s e f = by_equation

pub sheet_lines_option_row : OneAnswer sheet_lines_stated.option_row.ended sheet_lines.option_row.Reads.Learnt
sheet_lines_option_row κs a r s e f = by_equation

pub sheet_lines_stock_row : OneAnswer sheet_lines_stated.stock_row.ended sheet_lines.stock_row.Reads.Learnt
sheet_lines_stock_row κs a r s e f = by_equation

pub sheet_lines_price_row : OneAnswer sheet_lines_stated.price_row.ended sheet_lines.price_row.Reads.Learnt
sheet_lines_price_row κs a r s e f = by_equation

pub sheet_lines_check : OneAnswer sheet_lines_stated.check.ended sheet_lines.check.Reads.Learnt
sheet_lines_check κs a r s e f = by_number

-- price_lines
pub price_lines_number_cell : OneAnswer price_lines_stated.number_cell.ended price_lines.number_cell.Reads.Learnt
price_lines_number_cell κs a r s e f = by_equation

pub price_lines_head_at : OneAnswer price_lines_stated.head_at.ended price_lines.head_at.Reads.Learnt
price_lines_head_at κs a r s e f = by_image head_of one_head

pub price_lines_next_figures : OneAnswer price_lines_stated.next_figures.ended price_lines.next_figures.Reads.Learnt
price_lines_next_figures κs a r s e f = by_image figures_of one_figures

-- checking
pub checking_read : OneAnswer checking_stated.read.ended checking.read.Reads.Learnt
checking_read κs a r s e f = by_equation

pub checking_check : OneAnswer checking_stated.check.ended checking.check.Reads.Learnt
checking_check κs a r s e f = by_equation

-- quotes
pub quotes_quote_for : OneAnswer quotes_stated.quote_for.ended quotes.quote_for.Reads.Learnt
quotes_quote_for κs a r s e f = by_equation

pub quotes_no_quote : OneAnswer quotes_stated.no_quote.ended quotes.no_quote.Reads.Learnt
quotes_no_quote κs a r s e f = by_equation

-- account
pub account_margin_on : OneAnswer account_stated.margin_on.ended account.margin_on.Reads.Learnt
account_margin_on κs a r s e f = by_equation

-- reports
pub reports_margin_of : OneAnswer reports_stated.margin_of.ended reports.margin_of.Reads.Learnt
reports_margin_of κs a r s e f = by_equation

pub reports_line_of : OneAnswer reports_stated.line_of.ended reports.line_of.Reads.Learnt
reports_line_of κs a r s e f = by_equation

pub reports_of_margin : OneAnswer reports_stated.of_margin.ended reports.of_margin.Reads.Learnt
reports_of_margin κs a r s e f = by_equation

-- reports
pub reports_of_book : OneAnswer reports_stated.of_book.ended reports.of_book.Reads.Learnt
reports_of_book κs a r s e f = by_equation

pub reports_of_sheet : OneAnswer reports_stated.of_sheet.ended reports.of_sheet.Reads.Learnt
reports_of_sheet κs a r s e f = by_equation

-- desk_text
pub reports_of_calls : OneAnswer reports_stated.of_calls.ended reports.of_calls.Reads.Learnt
reports_of_calls κs a r s e f = by_equation

-- files: the contract of `load` is no equation, since nothing is known of which bytes a file holds (FileLaws; docs/CONTRACTS.md, "Exceptions")

-- exports
pub exports_sillauger_read : OneAnswer exports_stated.sillauger_read.ended exports.sillauger_read.Reads.Learnt
exports_sillauger_read κs a r s e f = by_equation

pub exports_sillauger_check : OneAnswer exports_stated.sillauger_check.ended exports.sillauger_check.Reads.Learnt
exports_sillauger_check κs a r s e f = by_equation

pub exports_sillauger_print : OneAnswer exports_stated.sillauger_print.ended exports.sillauger_print.Reads.Learnt
exports_sillauger_print κs a r s e f = by_equations (λ b. (_, (_, (b, _))))

pub exports_sillauger_margin : OneAnswer exports_stated.sillauger_margin.ended exports.sillauger_margin.Reads.Learnt
exports_sillauger_margin κs a r s e f = by_equations (λ b. (_, (_, (_, (b, _)))))

-- Two buffers are lent, each with an equation of its bytes.
pub exports_sillauger_run : OneAnswer exports_stated.sillauger_run.ended exports.sillauger_run.Reads.Learnt
exports_sillauger_run κs a r s e f p q =
    (one_answer p.0 q.0, λ i. (_, (_, (one_answer p.1.0 q.1.0 i, (one_answer p.1.1 q.1.1 i, _)))))
