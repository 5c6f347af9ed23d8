-- Laws of what the walk over a book answers (document 01, "Numbers a call may answer", 16, and "Rates and amounts"): whether the book is sound,
-- as its check says; and of a sound book its free lots, the keys of its rows and the rows of its pairs' legs.
use Rattle.std.specs.Prelude.{◌≡◌, refl, Bool, true, List, ℕ, ◌<◌, ◌≤◌, get_or, length}
use Rattle.std.proofs.Math.Path.{ap}
use Rattle.std.proofs.Common.{◌∙◌}
use native.Mathlib.Omega.{arith}
use Rattle.std.proofs.Math.Seq.{get_or-take}
use Rattle.laws.specs.Truth.{pick}
use Rattle.laws.specs.TruthLaws.{by_test}
use Rattle.lists.specs.Places.{full}
use Rattle.lists.specs.Sorted.{stands}
use Rattle.series.specs.declared.Series.{Series}
use Rattle.series.specs.Checks.{good_series}
use Rattle.rows.specs.declared.Pair.{Pair}
use Rattle.rows.specs.declared.Book.{Book}
use Rattle.rows.specs.Rows.{series_rank, holding_rank, empty_holding}
use Rattle.rows.specs.Book.{holdings_of, pairs_of}
use Rattle.rules.specs.Lots.{free_rows}
use Rattle.rules.specs.LotLaws.{all_covered}
use Rattle.rules.specs.Rules.{sound_book}
use Rattle.rules.specs.Facts.{Sound}
use Rattle.rules.specs.RuleLaws.{sound_is}
use Rattle.sound.specs.declared.Checked.{Checked}
use Rattle.sound.specs.declared.Walked.{Walked}
use Rattle.sound.specs.Checked.{not_sound, checked_as, checked_book, column, place_in, walk_of, not_walked, walked_book}
use Rattle.sound.specs.Walk.{no_row, no_pair, Keyed, Walkable}
use Rattle.sound.specs.ColumnLaws.{column_at}
use Rattle.sound.specs.KeyedLaws.{keyed_columns}
use Rattle.sound.specs.LegLaws.{good_facts, first_held, second_held, placed_row}
use Rattle.sound.specs.WalkLaws.{rows_long}

-- the check's part of the walk's answer
abbrev checked_of : Walked → Checked
checked_of w = record { sound = w.sound; free = w.free }

module _ (b : Book) {w : Walked} (is : w ≡ walked_book b) where
  pub walked_sound : w.sound ≡ sound_book b
  unfolding walked_book walk_of not_walked
  walked_sound = ap (λ (w : Walked). w.sound) is ∙ by_test (λ (t : Bool). (pick t (walk_of (holdings_of b) (pairs_of b)) not_walked).sound ≡ t) (sound_book b) (λ q. refl) (λ q. refl)

  pub walked_checked : checked_of w ≡ checked_book b
  unfolding walked_book walk_of not_walked checked_book checked_as not_sound
  walked_checked =
      ap checked_of is
      ∙ by_test (λ (t : Bool). checked_of (pick t (walk_of (holdings_of b) (pairs_of b)) not_walked) ≡ checked_as t (holdings_of b) (pairs_of b)) (sound_book b) (λ q. refl) (λ q. refl)

  -- Of a sound book:
  module _ (sound : sound_book b ≡ true) where
    walked_is : w ≡ walk_of (holdings_of b) (pairs_of b)
    unfolding walked_book
    walked_is = is ∙ rw sound

    rules_kept : Sound b
    rules_kept = sound_is b sound

    pub walked_free : w.free ≡ full 128 empty_holding (free_rows (holdings_of b) (pairs_of b))
    unfolding walk_of
    walked_free = ap (λ (w : Walked). w.free) walked_is

    rows_room : b.held ≤ length b.holdings
    rows_room = let long = rows_long rules_kept.holdings_sound_lem in let few = rules_kept.holdings_sound_lem.few in omega arith

    pub walked_keys : Keyed no_row b.holdings b.held w.highs w.lows
    unfolding walk_of holdings_of
    walked_keys =
        keyed_columns no_row b.holdings b.held rows_room rules_kept.holdings_sound_lem.few (ap (λ (w : Walked). w.highs) walked_is) (ap (λ (w : Walked). w.lows) walked_is)

    module _ (j : ℕ) (lt : j < b.paired) where
      inside : j < length (pairs_of b)
      unfolding pairs_of
      inside = let counted = rules_kept.pairs_sound_lem.counted in omega arith

      leg_row : {l : List ℕ} (leg : Pair → Series) → l ≡ column (λ p. place_in (holdings_of b) (leg p)) (pairs_of b) → good_series (leg (get_or (pairs_of b) j no_pair)) ≡ true → stands holding_rank (series_rank (leg (get_or (pairs_of b) j no_pair))) (holdings_of b) ≡ true → (get_or l j 0 < b.held) × ((get_or b.holdings (get_or l j 0) no_row).series ≡ leg (get_or b.pairs j no_pair))
      unfolding holdings_of pairs_of
      leg_row leg are good stands =
          let r = rules_kept.holdings_sound_lem in
          let long = rows_long rules_kept.pairs_sound_lem in
          let few = rules_kept.pairs_sound_lem.few in
          let there = get_or-take b.paired b.pairs j no_pair lt in
          rw (are, column_at (λ p. place_in (holdings_of b) (leg p)) no_pair b.pairs b.paired j lt (omega arith))
          (rw there at (placed_row b.holdings b.held _ rows_room r.all_good r.in_order_lem good stands))

    pub walked_legs : Walkable b.holdings b.held b.pairs b.paired w.firsts w.seconds
    unfolding walk_of holdings_of pairs_of
    walked_legs =
        let goods = rules_kept.pairs_sound_lem.all_good in
        let lots = all_covered (holdings_of b) (pairs_of b) rules_kept.never_negative in
        record {
          holdings_sound_lem = rules_kept.holdings_sound_lem;
          pairs_sound_lem = rules_kept.pairs_sound_lem;
          first_rows = λ j lt. leg_row j lt (λ p. p.first) (ap (λ (w : Walked). w.firsts) walked_is) (good_facts (holdings_of b) (pairs_of b) goods lots j (inside j lt)).first_good (first_held (holdings_of b) (pairs_of b) goods lots j (inside j lt));
          second_rows = λ j lt. leg_row j lt (λ p. p.second) (ap (λ (w : Walked). w.seconds) walked_is) (good_facts (holdings_of b) (pairs_of b) goods lots j (inside j lt)).second_good (second_held (holdings_of b) (pairs_of b) goods lots j (inside j lt));
        }
