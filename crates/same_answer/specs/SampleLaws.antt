-- Document 01, "Values at the edges": what the paper's example prints.
use Rattle.std.specs.Prelude.{◌≡◌, refl, [], ◌∷◌}
use Rattle.laws.specs.Bytes.{same_bytes}
use Rattle.laws.specs.Checks.{first_failing, all_pass}
use Rattle.laws.specs.Kinds.{by_kind}
use Rattle.laws.specs.Order.{order_of, bytes_order, join}
use Rattle.laws.specs.Search.{first_where, every_line, gathered}
use Rattle.lists.specs.Places.{full}
use Rattle.lists.specs.Sorted.{sum_of, ascending_from, ascending, look}
use Rattle.dates.specs.Calendar.{short_month, days_in, is_day}
use Rattle.codes.specs.Codes.{listed, product_of}
use Rattle.series.specs.Checks.{class_of, series_checks, good_series}
use Rattle.series.specs.Key.{code_key, nature_key, high_key, key}
use Rattle.legs.specs.Legs.{same_code, call_then_put, one_to_one}
use Rattle.pairing.specs.Rules.{two_short, parts_of, pair_checks, may_stand}
use Rattle.pairing.specs.Sides.{first_side, second_side}
use Rattle.rows.specs.Book.{holdings_of, pairs_of, book_of, empty_book, holding_in}
use Rattle.rows.specs.Rows.{series_rank, holding_rank, pair_rank, same_series, empty_holding, empty_pair, is_empty_series, is_empty_holding, is_empty_pair}
use Rattle.rules.specs.Lots.{first_leg, second_leg, ties, tied_by, tied, total, free_holding, free_rows, leg_covered, pair_covered, covered}
use Rattle.rules.specs.Rules.{counts_fit, good_lots, good_holding, good_pair, rows_sound, holdings_sound, pairs_sound, book_rules, sound_book}
use Rattle.halving.specs.Halving.{halved, place_of, find_in}
use Rattle.digits.specs.Digits.{is_digit, value_from, value_of, no_leading_zero, is_number, is_fixed, figure_of}
use Rattle.lines.specs.Fields.{code_in, mark_in, cell_of, has_form, cells_of, nature_of, series_of}
use Rattle.lines.specs.Pieces.{lf, split_on, list_of, fields_of}
use Rattle.rounding.specs.Rounding.{steps_near, half_up, to_dollar}
use Rattle.levels.specs.Levels.{flat}
use Rattle.levels.specs.Ranges.{clearing_fits, levels_fit}
use Rattle.amounts.specs.Lines.{index_fits, option_fits, index_asked, terms_asked}
use Rattle.amounts.specs.Lots.{index_option, index_terms}
use Rattle.amounts.specs.Singles.{portion, worth, dollars, premium_value, out_of_money, single, index_margin}
use Rattle.units.specs.Units.{lower_premium, mixed_at, mixed_margin, formula}
use Rattle.sheets.specs.Rows.{future_codes, option_codes, no_index, clearing_in, index_in}
use Rattle.sheets.specs.Sheet.{place_in, future_place, option_place, sought_in, price_among, laid_out, clearing_on, index_on, price_on}
use Rattle.sheet_lines.specs.Lines.{head_form, option_form, price_form, option_from, price_from, letter_in, form_of, said, line_by, line_from, sheet_line, rank, own_checks, checks_by, line_checks}
use Rattle.checking.specs.Reading.{day_of, future_row, option_row, price_row, rows_of, refused_at, judged_as, judge_lines, judged, sheet_of, read_sheet}
use Rattle.quotes.specs.Quotes.{on_sheet, own_line, lot_lines, clearing_said, price_said, lot_as, terms_as, quote_as, quote_of}
use Rattle.sheets.specs.View.{sheet_view}
use Rattle.account.specs.Margin.{holding_margin, pair_margin, sum_levels, account_margin, margin_checks, margin_number, margin_line, margin_on, margin_text}
use Rattle.account.specs.Needed.{charged_lots, own_line_of, lines_of, needed_by_holding, needed_by_pair, needed_by}
use Rattle.same_answer.specs.Sample.{october, call, put, sample_book, sample_sheet, nothing_held}

-- The margin of the paper's book, and of the account with nothing held, on the paper's sheet.
pub record Sampled : Type 0 where
  pub sample : margin_text sample_book sample_sheet ≡ record { number = 0; line = 0; levels = record { clearing = 53200; maintenance = 54300; initial = 59800 } }
  pub nothing : margin_text nothing_held sample_sheet ≡ record { number = 0; line = 0; levels = flat 0 }
  -- on no text, and on a blank line
  pub no_sheet : margin_text nothing_held [] ≡ record { number = 1; line = 0; levels = flat 0 }
  pub blank_sheet : margin_text nothing_held (lf ∷ []) ≡ record { number = 1; line = 1; levels = flat 0 }

pub sampled : Sampled
unfolding october call put sample_book sample_sheet nothing_held same_bytes first_failing all_pass by_kind order_of bytes_order join first_where every_line gathered full sum_of ascending_from ascending look day_of short_month days_in is_day listed product_of class_of series_checks good_series code_key nature_key high_key key same_code call_then_put one_to_one two_short parts_of pair_checks may_stand first_side second_side holdings_of pairs_of book_of empty_book holding_in series_rank holding_rank pair_rank same_series empty_holding empty_pair is_empty_series is_empty_holding is_empty_pair first_leg second_leg ties tied_by tied total free_holding free_rows leg_covered pair_covered covered counts_fit good_lots good_holding good_pair rows_sound holdings_sound pairs_sound book_rules sound_book halved place_of find_in is_digit value_from value_of no_leading_zero is_number is_fixed figure_of code_in mark_in cell_of has_form cells_of nature_of series_of split_on list_of fields_of steps_near half_up to_dollar clearing_fits levels_fit index_fits option_fits index_asked terms_asked index_option index_terms portion worth dollars premium_value out_of_money single index_margin lower_premium mixed_at mixed_margin formula future_codes option_codes no_index clearing_in index_in place_in future_place option_place sought_in price_among laid_out clearing_on index_on price_on head_form option_form price_form option_from price_from letter_in form_of said line_by line_from sheet_line rank own_checks checks_by line_checks future_row option_row price_row rows_of refused_at judged_as judge_lines judged sheet_of read_sheet on_sheet own_line lot_lines clearing_said price_said lot_as terms_as quote_as quote_of sheet_view holding_margin pair_margin sum_levels account_margin margin_checks margin_number margin_line margin_on margin_text charged_lots own_line_of lines_of needed_by_holding needed_by_pair needed_by
sampled = record { sample = refl; nothing = refl; no_sheet = refl; blank_sheet = refl }
