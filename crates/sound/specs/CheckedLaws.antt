-- Laws of a book's check: its tests in their order, and what its answer says.
use Rattle.std.specs.Prelude.{◌≡◌, Bool, false, not, List, ℕ, ◌≤◌, eqb, leb, length, take, drop}
use Rattle.std.proofs.Math.Path.{refl, ap}
use Rattle.std.proofs.Common.{sym, ◌∙◌, arith}
use Rattle.std.proofs.Math.Bool.{true}
use borrow.Author.Tests.{eq-eqb, le-leb, leb-true}
use Rattle.laws.specs.Truth.{both}
use Rattle.laws.specs.TruthLaws.{both_true, both_hold, by_test, same_test, false_unless, clash, failed, passed}
use Rattle.laws.specs.Search.{every_line}
use Rattle.lists.specs.Places.{full}
use Rattle.lists.specs.Sorted.{ascending}
use Rattle.dates.specs.Calendar.{is_day}
use Rattle.rows.specs.declared.Holding.{Holding}
use Rattle.rows.specs.declared.Pair.{Pair}
use Rattle.rows.specs.declared.Book.{Book}
use Rattle.rows.specs.Rows.{holding_rank, pair_rank, empty_holding, empty_pair, is_empty_holding, is_empty_pair}
use Rattle.rows.specs.RowLaws.{empty_holding_lem, empty_pair_lem, empty_holding_is, empty_pair_is}
use Rattle.rows.specs.Book.{holdings_of, pairs_of}
use Rattle.rules.specs.Lots.{covered, free_rows}
use Rattle.rules.specs.LotLaws.{covered_all, all_covered}
use Rattle.rules.specs.Rules.{account_fits, is_identity, good_holding, good_pair, rows_sound, sound_book}
use Rattle.rules.specs.Facts.{SoundRows}
use Rattle.rules.specs.RuleLaws.{rows_are, rows_back, sound_is, sound_back}
use Rattle.sound.specs.declared.Checked.{Checked}
use Rattle.sound.specs.Checked.{not_sound, checked_as, walk_of, not_walked, walked_book}
use Rattle.sound.specs.Walk.{Keys, Places, no_row, Keyed, KeysAre, Placed, PlacesAre, RoomIs, Walkable}
use Rattle.sound.specs.KeyedLaws.{keyed_columns}
use Rattle.sound.specs.LegLaws.{pairs_all_good, pairs_in_order, first_row, second_row, firsts_placed, seconds_placed, pairs_found}

-- What the answer of the lots says: whether each leg finds its lots, and what is free then.
module _ {c : Checked} (t : Bool) (hs : List Holding) (ps : List Pair) (is : c ≡ checked_as t hs ps) where
  checked_says : c.sound ≡ t
  unfolding checked_as not_sound
  checked_says = ap (λ (c : Checked). c.sound) is ∙ by_test (λ (t : Bool). (checked_as t hs ps).sound ≡ t) t (λ q. refl) (λ q. refl)

  checked_free : c.sound ≡ true → c.free ≡ full 128 empty_holding (free_rows hs ps)
  unfolding checked_as
  checked_free e = ap (λ (c : Checked). c.free) is ∙ rw (sym checked_says ∙ e)

-- Rows whose room is empty behind them, good and in order, are sound in their array; and sound rows leave their room empty.
module _ {A : Type 0} (is_empty : A → Bool) {empty : A} {good : A → Bool} {rank : A → List ℕ} {n : ℕ} {rows : List A} where
  sound_rows : ((x : A) → is_empty x ≡ true → x ≡ empty) → n ≤ 128 → length rows ≡ 128 → every_line is_empty (drop n rows) ≡ true → every_line good (take n rows) ≡ true → ascending rank (take n rows) ≡ true → SoundRows empty good rank n rows
  unfolding rows_sound
  sound_rows is few long rest all_good in_order_lem =
      rows_are is_empty good empty rank is n rows (both_hold (le-leb n 128 few) (both_hold (eq-eqb (length rows) 128 long) (both_hold rest (both_hold all_good in_order_lem))))

  rest_empty : is_empty empty ≡ true → SoundRows empty good rank n rows → every_line is_empty (drop n rows) ≡ true
  unfolding rows_sound
  rest_empty e r =
      let h = both_true (leb n 128) _ (rows_back is_empty good empty rank e n rows r) in
      let k = both_true (eqb (length rows) 128) _ h.1 in
      (both_true (every_line is_empty (drop n rows)) _ k.1).0

-- The tests of a book, in the order of its check: its head, the room behind its rows, its holdings, its pairs and its tied lots.
module _ (b : Book) where
  abbrev pub head_test : Bool
  head_test = both (account_fits b.account) (both (is_identity b.identity) (is_day b.day))

  -- A book that breaks a rule has the answer of no rows.
  book_broken : (sound_book b ≡ true → ⊥) → not_walked ≡ walked_book b
  unfolding walked_book
  book_broken not_sound = rw (false_unless (sound_book b) not_sound)

  -- Where head, holdings and pairs are sound, the lots decide.
  lots_decide : head_test ≡ true → SoundRows empty_holding good_holding holding_rank b.held b.holdings → SoundRows empty_pair good_pair pair_rank b.paired b.pairs → covered (holdings_of b) (pairs_of b) ≡ sound_book b
  unfolding holdings_of pairs_of
  lots_decide head h p = same_test (covered (holdings_of b) (pairs_of b)) (sound_book b) whole parts
    where
      whole : covered (holdings_of b) (pairs_of b) ≡ true → sound_book b ≡ true
      whole e =
          let x = both_true (account_fits b.account) _ head in
          let y = both_true (is_identity b.identity) _ x.1 in
          sound_back b
          (record {
            account_fits_lem = leb-true b.account 9999999 x.0;
            identity_is = y.0;
            day_is = y.1;
            holdings_sound_lem = h;
            pairs_sound_lem = p;
            never_negative = covered_all (holdings_of b) (pairs_of b) e;
          })

      parts : sound_book b ≡ true → covered (holdings_of b) (pairs_of b) ≡ true
      parts e = all_covered (holdings_of b) (pairs_of b) (sound_is b e).never_negative

  pub head_broken : head_test ≡ false → not_walked ≡ walked_book b
  head_broken e =
      book_broken (λ t. let s = sound_is b t in clash (both_hold (le-leb b.account 9999999 s.account_fits_lem) (both_hold s.identity_is s.day_is)) e)

  module _ {room : Bool} (head : head_test ≡ true) (is : RoomIs b.holdings b.held b.pairs b.paired room) where
    pub room_broken : not room ≡ true → not_walked ≡ walked_book b
    room_broken fails =
        book_broken (λ t.
        let s = sound_is b t in
        clash
        (both_hold (both_hold (le-leb b.held 128 s.holdings_sound_lem.few) (le-leb b.paired 128 s.pairs_sound_lem.few))
        (both_hold (rest_empty is_empty_holding empty_holding_is s.holdings_sound_lem) (rest_empty is_empty_pair empty_pair_is s.pairs_sound_lem)))
        (failed is.is fails))

    module _ (holds : not room ≡ false) where
      room_true : both (both (leb b.held 128) (leb b.paired 128)) (both (every_line is_empty_holding (drop b.held b.holdings)) (every_line is_empty_pair (drop b.paired b.pairs))) ≡ true
      room_true = passed is.is holds

      room_counts : both (leb b.held 128) (leb b.paired 128) ≡ true
      room_counts = (both_true (both (leb b.held 128) (leb b.paired 128)) _ room_true).0

      room_rests : both (every_line is_empty_holding (drop b.held b.holdings)) (every_line is_empty_pair (drop b.paired b.pairs)) ≡ true
      room_rests = (both_true (both (leb b.held 128) (leb b.paired 128)) _ room_true).1

      pub few_held : b.held ≤ 128
      few_held = leb-true b.held 128 (both_true (leb b.held 128) _ room_counts).0

      pub few_paired : b.paired ≤ 128
      few_paired = leb-true b.paired 128 (both_true (leb b.held 128) _ room_counts).1

      module _ {keys : Keys} (known : KeysAre b.holdings b.held keys) where
        pub rows_broken : not keys.sound ≡ true → not_walked ≡ walked_book b
        rows_broken fails =
            book_broken (λ t.
            let s = sound_is b t in
            clash (both_hold s.holdings_sound_lem.all_good s.holdings_sound_lem.in_order_lem) (failed known.tested fails))

        module _ (good : not keys.sound ≡ false) where
          rows_tested : both (every_line good_holding (take b.held b.holdings)) (ascending holding_rank (take b.held b.holdings)) ≡ true
          rows_tested = passed known.tested good

          rows_room : b.held ≤ length b.holdings
          rows_room = let n = is.holdings_long in let few = few_held in omega arith

          rows_keyed : Keyed no_row b.holdings b.held keys.highs keys.lows
          rows_keyed = keyed_columns no_row b.holdings b.held rows_room few_held (known.highs_are (passed refl good)) (known.lows_are (passed refl good))

          all_good : every_line good_holding (take b.held b.holdings) ≡ true
          all_good = (both_true (every_line good_holding (take b.held b.holdings)) _ rows_tested).0

          in_order_lem : ascending holding_rank (take b.held b.holdings) ≡ true
          in_order_lem = (both_true (every_line good_holding (take b.held b.holdings)) _ rows_tested).1

          pairs_room : b.paired ≤ length b.pairs
          pairs_room = let n = is.pairs_long in let few = few_paired in omega arith

          holdings_sound_lem : SoundRows empty_holding good_holding holding_rank b.held b.holdings
          holdings_sound_lem = sound_rows is_empty_holding empty_holding_lem few_held is.holdings_long (both_true (every_line is_empty_holding (drop b.held b.holdings)) _ room_rests).0 all_good in_order_lem

          module _ {places : Places} (found : PlacesAre keys.highs keys.lows b.held b.pairs b.paired places) where
            pub legs_broken : not places.sound ≡ true → not_walked ≡ walked_book b
            unfolding holdings_of pairs_of
            legs_broken fails =
                book_broken (λ t.
                let s = sound_is b t in
                clash (pairs_found rows_keyed all_good in_order_lem rows_room b.pairs b.paired pairs_room s.pairs_sound_lem.all_good s.pairs_sound_lem.in_order_lem (all_covered (holdings_of b) (pairs_of b) s.never_negative)) (failed found.tested fails))

            module _ (kept : not places.sound ≡ false) where
              placed : Placed keys.highs keys.lows b.held b.pairs b.paired places.firsts places.seconds
              placed = found.placed (passed refl kept)

              pairs_sound_lem : SoundRows empty_pair good_pair pair_rank b.paired b.pairs
              pairs_sound_lem =
                  sound_rows is_empty_pair empty_pair_lem few_paired is.pairs_long (both_true (every_line is_empty_holding (drop b.held b.holdings)) _ room_rests).1
                  (pairs_all_good rows_keyed all_good in_order_lem rows_room b.pairs b.paired pairs_room (passed found.tested kept) placed)
                  (pairs_in_order rows_keyed all_good in_order_lem rows_room b.pairs b.paired pairs_room (passed found.tested kept) placed)

              -- What the tests of holdings and pairs give the walk over lots, and what that answers for the book.
              pub walkable : Walkable b.holdings b.held b.pairs b.paired places.firsts places.seconds
              walkable =
                  record {
                    holdings_sound_lem = holdings_sound_lem;
                    pairs_sound_lem = pairs_sound_lem;
                    first_rows = first_row rows_keyed all_good in_order_lem rows_room b.pairs b.paired pairs_room (passed found.tested kept) placed;
                    second_rows = second_row rows_keyed all_good in_order_lem rows_room b.pairs b.paired pairs_room (passed found.tested kept) placed;
                  }

              module _ {c : Checked} (lots : c ≡ checked_as (covered (take b.held b.holdings) (take b.paired b.pairs)) (take b.held b.holdings) (take b.paired b.pairs)) where
                decided : c.sound ≡ sound_book b
                unfolding holdings_of pairs_of
                decided = checked_says _ (holdings_of b) (pairs_of b) lots ∙ lots_decide head holdings_sound_lem pairs_sound_lem

                pub lots_broken : not c.sound ≡ true → not_walked ≡ walked_book b
                lots_broken fails = book_broken (λ t. clash t (failed decided fails))

                pub walk_whole : not c.sound ≡ false → record { sound = true; free = c.free; highs = keys.highs; lows = keys.lows; firsts = places.firsts; seconds = places.seconds } ≡ walked_book b
                unfolding walked_book walk_of holdings_of pairs_of
                walk_whole holds =
                    let tested = passed found.tested kept in
                    rw (passed decided holds, checked_free _ (holdings_of b) (pairs_of b) lots (passed refl holds), known.highs_are (passed refl good), known.lows_are (passed refl good), firsts_placed rows_keyed all_good in_order_lem rows_room b.pairs b.paired pairs_room tested placed, seconds_placed rows_keyed all_good in_order_lem rows_room b.pairs b.paired pairs_room tested placed)
