-- Document 01, "How much each contract has to say": the idle programs that demand 3 shuts out. Each theorem is of every program of its
-- kind, and names the calls that tell it apart.
use Rattle.std.specs.Prelude.{◌≡◌, refl, true, ℕ, ◌<◌}
use Rattle.std.proofs.Math.Path.{ap, sym}
use Rattle.std.proofs.Common.{◌∙◌}
use mathlib.Core.List.{List, [], ◌∷◌, ◌++◌}
use native.Mathlib.Omega.{arith}
use Rattle.laws.specs.Text.{byte}
use Rattle.laws.specs.Bytes.{same_bytes}
use Rattle.laws.specs.Checks.{first_failing, all_pass}
use Rattle.laws.specs.Kinds.{by_kind}
use Rattle.laws.specs.Order.{order_of, bytes_order, join}
use Rattle.laws.specs.Search.{first_where, every_line}
use Rattle.lists.specs.Places.{full}
use Rattle.lists.specs.Sorted.{sum_of, ascending_from, ascending, stands, look, placed, without, kept}
use Rattle.dates.specs.Calendar.{short_month, days_in, is_day}
use Rattle.codes.specs.Codes.{listed, product_of}
use Rattle.series.specs.declared.Side.TheVariants.{Long, Short}
use Rattle.series.specs.Checks.{class_of, series_checks, good_series}
use Rattle.series.specs.Key.{code_key, nature_key, high_key, key}
use Rattle.legs.specs.Legs.{same_code, both_futures, one_to_one}
use Rattle.pairing.specs.Rules.{calendar, parts_of, pair_checks, may_stand}
use Rattle.pairing.specs.Sides.{first_side, second_side}
use Rattle.rows.specs.declared.Pair.{Pair}
use Rattle.rows.specs.declared.Book.{Book}
use Rattle.rows.specs.Book.{holdings_of, pairs_of, book_of, with_holdings, with_pairs, with_day, empty_book, holding_in, pair_in}
use Rattle.rows.specs.Rows.{series_rank, holding_rank, pair_rank, same_series, empty_holding, empty_pair, is_empty_series, is_empty_holding, is_empty_pair}
use Rattle.rules.specs.Lots.{first_leg, second_leg, ties, tied_by, tied, total, free, units_of, leg_covered, pair_covered, covered}
use Rattle.rules.specs.Rules.{counts_fit, good_lots, good_holding, good_pair, rows_sound, holdings_sound, pairs_sound, book_rules, sound_book}
use Rattle.calls.specs.Outcome.{Outcome}
use Rattle.calls.specs.Calls.{answered, make_checks, make_answer, book_checks, held_of, open_checks, opened, open_answer, close_checks, closed, close_answer, leg_free, pairing_checks, joined, pair_answer, split_checks, parted, split_answer, turn_checks, turn_answer}
use Rattle.history.specs.History.{BookCall, open_lots, close_lots, pair_units, split_units, turn_day, step, checks_of, run, accepted}
use Rattle.history.specs.Idle.{sample, october, november, spread, one_opened, two_opened, then_paired, then_split, then_closed, then_turned}
use Rattle.history.specs.Demand.{Demand3}
use Rattle.history.proofs.ProgramLaws.{run_then, one_book}

-- the units of the pair that stand
abbrev units : Book → ℕ
units b = units_of (pairs_of b) spread

-- Each call of the history is accepted, and what it does is seen in the book: free lots, standing units, the day. While the pair stands
-- one of the two lots is tied, and closing both is refused by 9.
pub record Seen : Type 0 where
  pub made : (make_answer 7 (byte "1") 20190930).number ≡ 0
  pub all_accepted : accepted step sample then_turned ≡ then_turned
  pub first_passes : all_pass (checks_of sample (open_lots october Long 2)) ≡ true
  pub none_opened : free sample october Long ≡ 0
  pub one_opened_lem : free (run step sample one_opened) october Long ≡ 2
  pub one_alone : free (run step sample one_opened) november Short ≡ 0
  pub two_opened_lem : free (run step sample two_opened) november Short ≡ 1
  pub none_paired : units (run step sample two_opened) ≡ 0
  pub then_paired_lem : units (run step sample then_paired) ≡ 1
  pub then_tied : (step (run step sample then_paired) (close_lots october Long 2)).number ≡ 9
  pub then_split_lem : units (run step sample then_split) ≡ 0
  pub one_left : free (run step sample then_closed) october Long ≡ 1
  pub then_closed_lem : (run step sample then_closed).day ≡ 20190930
  pub then_turned_lem : (run step sample then_turned).day ≡ 20191001

pub seen : Seen
unfolding same_bytes first_failing all_pass by_kind order_of bytes_order join first_where every_line full sum_of ascending_from ascending stands look placed without kept short_month days_in is_day listed product_of class_of series_checks good_series code_key nature_key high_key key same_code both_futures one_to_one calendar parts_of pair_checks may_stand first_side second_side holdings_of pairs_of book_of with_holdings with_pairs with_day empty_book holding_in pair_in series_rank holding_rank pair_rank same_series empty_holding empty_pair is_empty_series is_empty_holding is_empty_pair first_leg second_leg ties tied_by tied total free units_of leg_covered pair_covered covered counts_fit good_lots good_holding good_pair rows_sound holdings_sound pairs_sound book_rules sound_book answered make_checks make_answer book_checks held_of open_checks opened open_answer close_checks closed close_answer leg_free pairing_checks joined pair_answer split_checks parted split_answer turn_checks turn_answer step run accepted checks_of sample october november spread one_opened two_opened then_paired then_split then_closed then_turned
seen =
    record {
      made = refl;
      all_accepted = refl;
      first_passes = refl;
      none_opened = refl;
      one_opened_lem = refl;
      one_alone = refl;
      two_opened_lem = refl;
      none_paired = refl;
      then_paired_lem = refl;
      then_tied = refl;
      then_split_lem = refl;
      one_left = refl;
      then_closed_lem = refl;
      then_turned_lem = refl;
    }

module _ (program : Book → BookCall → Outcome) (h : Demand3 program) where
  -- It comes to our book after any calls.
  ours : (calls : List BookCall) → run program sample calls ≡ run step sample calls
  unfolding sample
  ours calls = one_book program h 7 (byte "1") 20190930 seen.made calls

  -- So it does not leave the book at a call by which a number that is read of ours changes.
  not_left : (read : Book → ℕ) {m n : ℕ} (cs : List BookCall) (c : BookCall) → read (run step sample cs) ≡ m → read (run step sample (cs ++ (c ∷ []))) ≡ n → (n ≡ m → ⊥) → ((b : Book) → (program b c).book ≡ b) → ⊥
  unfolding run
  not_left read cs c x y differ e =
      let same = sym (ours (cs ++ (c ∷ []))) ∙ run_then program sample cs (c ∷ []) ∙ e (run program sample cs) ∙ ours cs in
      differ (sym y ∙ ap read same ∙ x)

  first_accepted : (program sample (open_lots october Long 2)).number ≡ 0
  first_accepted = h.accepts sample (open_lots october Long 2) seen.first_passes

  -- "refuses each call": the first call is not refused
  pub refuses_each_call : ((b : Book) (c : BookCall) → 0 < (program b c).number) → ⊥
  refuses_each_call e = let x = first_accepted in let y = e sample (open_lots october Long 2) in omega arith

  -- "returns the book unaltered": after the first call there are two lots
  pub returns_unaltered : ((b : Book) (c : BookCall) → (program b c).book ≡ b) → ⊥
  unfolding one_opened run
  returns_unaltered e =
      let first = open_lots october Long 2 in
      not_left (λ (b : Book). free b october Long) [] first seen.none_opened seen.one_opened_lem (λ q. omega arith) (λ b. e b first)

  -- "keeps only the first call", or the first that it accepts: after the second there is a lot of the other series
  pub keeps_first : ((c : BookCall) (calls : List BookCall) → (program sample c).number ≡ 0 → run program sample (c ∷ calls) ≡ run program sample (c ∷ [])) → ⊥
  unfolding one_opened two_opened
  keeps_first e =
      let same = sym (ours two_opened) ∙ e (open_lots october Long 2) (open_lots november Short 1 ∷ []) first_accepted ∙ ours one_opened in
      let lots = ap (λ (b : Book). free b november Short) same in
      let x = seen.one_alone in
      let y = seen.two_opened_lem in
      omega arith

  -- "answers 0 to pair, split or turn and does nothing", whatever it answers: a unit stands after the pair and none after the split, and
  -- the day is the next after the turn
  pub idle_pair : ((b : Book) (p : Pair) → (program b (pair_units p)).book ≡ b) → ⊥
  unfolding then_paired
  idle_pair e = not_left units two_opened (pair_units spread) seen.none_paired seen.then_paired_lem (λ q. omega arith) (λ b. e b spread)

  pub idle_split : ((b : Book) (p : Pair) → (program b (split_units p)).book ≡ b) → ⊥
  unfolding then_split
  idle_split e = not_left units then_paired (split_units spread) seen.then_paired_lem seen.then_split_lem (λ q. omega arith) (λ b. e b spread)

  pub idle_turn : ((b : Book) (day : ℕ) → (program b (turn_day day)).book ≡ b) → ⊥
  unfolding then_turned
  idle_turn e = not_left (λ (b : Book). b.day) then_closed (turn_day 20191001) seen.then_closed_lem seen.then_turned_lem (λ q. omega arith) (λ b. e b 20191001)
