-- Laws of the walk over the pairs of a book: each may stand, its legs are found among the rows by halving, and it is after the pair before it.
use Rattle.std.specs.Prelude.{◌≡◌, Bool, true, false, not, eqb, ltb, length, take, set, replicate, Option, None, Some}
use Rattle.std.proofs.Math.Path.{refl, ap, sym}
use Rattle.std.proofs.Common.{◌∙◌, subst, arith, length-take, length-set, get_or-take}
use mathlib.Core.List.{List, [], ◌∷◌}
use Prim.Native.Nat.{ℕ, zero, suc, ◌+◌, ◌-◌, ◌*◌, ◌<◌, ◌≤◌, ◌^◌}
use Rattle.std.proofs.Math.Decide.{dec_lt}
use borrow.Author.Tests.{ne_eqb, lt-ltb, ltb-true}
use Rattle.std.proofs.Math.ListN.{get_or}
use Rattle.std.specs.declared.cmp.Ordering.{Ordering}
use Rattle.std.specs.declared.cmp.Ordering.TheVariants.{Less}
use Rattle.laws.specs.Truth.{both, either}
use Rattle.laws.specs.TruthLaws.{both_true, both_hold, by_test, clash, passed}
use Rattle.laws.specs.Search.{every_line}
use Rattle.laws.specs.SearchLaws.{every_at}
use Rattle.laws.specs.Order.{order_of, is_less, then_by, bytes_order, join}
use Rattle.laws.specs.OrderLaws.{is_less_lem, is_same_lem, is_more, less_says, split, then_same}
use Rattle.lists.specs.Sorted.{ascending_from, ascending, stands}
use Rattle.lists.specs.SortedLaws.{look_none, one_of_all, stands_at}
use Rattle.series.specs.declared.Series.{Series}
use Rattle.series.specs.Checks.{good_series}
use Rattle.series.specs.declared.Halves.{Halves}
use Rattle.series.specs.Natures.{letter_of, strike_of}
use Rattle.series.specs.Key.{high_key, code_key, nature_key, key, series_order}
use Rattle.series.specs.KeyLaws.{Fits, by_halves, good_fits, nature_fits, same_fitting, same_series_lem}
use Rattle.rows.specs.declared.Holding.{Holding}
use Rattle.rows.specs.declared.Pair.{Pair}
use Rattle.rows.specs.Rows.{series_rank, holding_rank, pair_rank, new_holding, lots_on}
use Rattle.rows.specs.Book.{holding_in}
use Rattle.rules.specs.Lots.{Leg, first_leg, second_leg, tied_by, tied, total, covered}
use Rattle.rules.specs.LotLaws.{ties_itself, new_lots, covered_all}
use Rattle.rules.specs.Rules.{good_holding, good_pair}
use Rattle.rules.specs.Facts.{Counts, GoodPair}
use Rattle.rules.specs.RuleLaws.{holding_is, counts_are, pair_is}
use Rattle.halving.specs.Halving.{key_at, find_in, Rising}
use Rattle.halving.specs.HalvingLaws.{find_at, find_says}
use Rattle.sound.specs.Checked.{column, place_in}
use Rattle.sound.specs.Walk.{Legs, legs_as, places_as, no_row, no_pair, halves, standing, Keyed, LegKey, row_of, legs_found, row_rank, LegRow, LegRows, Placed, PlacesAre}
use Rattle.sound.specs.StepLaws.{sound_from, after_last, sound_start, sound_end, bad_row, turned_row, next_row}
use Rattle.sound.specs.ColumnLaws.{column_none, column_at, column_next, column_same, place_row}
use Rattle.sound.specs.KeyedLaws.{good_at, rising_keys}

-- A leg's key is made of its parts, and its row is the one of its key.
pub key_made : (s : Series) {k : Halves} → Fits s → k.high ≡ ((get_or s.code 0 0 * 256 + get_or s.code 1 0) * 256 + get_or s.code 2 0) * 4294967296 + s.date → k.low ≡ letter_of s.nature * 4294967296 + strike_of s.nature → LegKey s k
unfolding high_key code_key nature_key join
key_made s {k} fits h l =
    let high : k.high ≡ high_key s = omega arith in
    let low : k.low ≡ nature_key s.nature = omega arith in
    record { is = λ i. record { high = high i; low = low i }; fits = fits }

pub row_sought : {highs lows : List ℕ} {held r : ℕ} {k : Halves} (s : Series) → LegKey s k → r ≡ find_in highs lows held (k.high ∷ k.low ∷ []) → LegRow highs lows held s r
unfolding row_of
row_sought {highs} {lows} {held} s key e = record { is = e ∙ ap (λ (z : Halves). find_in highs lows held (z.high ∷ z.low ∷ [])) key.is; fits = key.fits }

-- The legs of a pair that may not stand are not looked for; else both are.
pub not_standing : (highs lows : List ℕ) (held : ℕ) (p : Pair) {x : Bool} → x ≡ standing p → not x ≡ true → LegRows highs lows held p (record { kept = false; first = 0; second = 0 })
unfolding legs_found
not_standing highs lows held p {x} is fails =
    record {
      kept_is = rw (sym is) (go x fails);
      first_is = λ e. absurd (clash e refl);
      second_is = λ e. absurd (clash e refl);
      first_fits = λ e. absurd (clash e refl);
      second_fits = λ e. absurd (clash e refl);
    }
  where
    go : (x : Bool) → not x ≡ true → false ≡ both x (both (ltb (row_of highs lows held p.first) held) (ltb (row_of highs lows held p.second) held))
    go true e = absurd (clash e refl)
    go false e = refl

pub both_sought : {highs lows : List ℕ} {held : ℕ} {x kept : Bool} {first second : ℕ} (p : Pair) → x ≡ standing p → not x ≡ false → LegRow highs lows held p.first first → LegRow highs lows held p.second second → kept ≡ both (ltb first held) (ltb second held) → LegRows highs lows held p (record { kept = kept; first = first; second = second })
unfolding legs_found
both_sought p is holds a b e =
    record {
      kept_is = e ∙ rw (passed is holds, a.is, b.is);
      first_is = λ k. a.is;
      second_is = λ k. b.is;
      first_fits = λ k. a.fits;
      second_fits = λ k. b.fits;
    }

-- A leg that is not held leaves a pair without rows.
pub first_lost : {highs lows : List ℕ} {held : ℕ} {x : Bool} {first second : ℕ} (p : Pair) → x ≡ standing p → not x ≡ false → LegRow highs lows held p.first first → LegRow highs lows held p.second second → both (ltb first held) (ltb second held) ≡ false → LegRows highs lows held p (legs_as None)
first_lost p is holds a b e =
    let l = both_sought p is holds a b (sym e) in
    record {
      kept_is = l.kept_is;
      first_is = λ k. absurd (clash k refl);
      second_is = λ k. absurd (clash k refl);
      first_fits = λ k. absurd (clash k refl);
      second_fits = λ k. absurd (clash k refl);
    }

-- An answer that is not there says that the legs are not kept, and one of all pairs that they are not sound.
pub legs_gone : (o : Option (ℕ × ℕ)) → ((l : ℕ × ℕ) → o ≡ Some l → ⊥) → not (legs_as o).kept ≡ true
legs_gone (Some l) n = absurd (n l refl)
legs_gone None n = refl

pub places_gone : (o : Option (List ℕ × List ℕ)) → ((p : List ℕ × List ℕ) → o ≡ Some p → ⊥) → not (places_as o).sound ≡ true
places_gone (Some p) n = absurd (n p refl)
places_gone None n = refl

pub no_places : {highs lows : List ℕ} {held : ℕ} {pairs : List Pair} {paired : ℕ} {firsts seconds : List ℕ} → PlacesAre highs lows held pairs paired (record { sound = false; firsts = firsts; seconds = seconds }) → PlacesAre highs lows held pairs paired (places_as None)
no_places p = record { tested = p.tested; placed = λ f. absurd (clash f refl) }

-- The walk has come to the pair i; w is what it will tell.
pub record Placing (highs lows : List ℕ) (held : ℕ) (pairs : List Pair) (paired : ℕ) (w : Bool) (i : ℕ) (firsts seconds : List ℕ) : Type 0 where
  pub goes : w ≡ sound_from (legs_found highs lows held) (row_rank highs lows held) pairs paired no_pair i
  pub placed : Placed highs lows held pairs i firsts seconds
  pub few : paired ≤ 128
  pub upto : i ≤ paired
  pub firsts_room : length firsts ≡ 128
  pub seconds_room : length seconds ≡ 128

-- what is told of the pairs
abbrev pub pairs_test : List ℕ → List ℕ → ℕ → List Pair → ℕ → Bool
pairs_test highs lows held pairs paired = both (every_line (legs_found highs lows held) (take paired pairs)) (ascending (row_rank highs lows held) (take paired pairs))

pub placing_starts : (highs lows : List ℕ) (held : ℕ) (pairs : List Pair) (paired : ℕ) → paired ≤ 128 → Placing highs lows held pairs paired (pairs_test highs lows held pairs paired) 0 (replicate 128 0) (replicate 128 0)
placing_starts highs lows held pairs paired few =
    record {
      goes = sound_start (legs_found highs lows held) (row_rank highs lows held) pairs paired no_pair;
      placed = record { firsts_are = column_none _ pairs; seconds_are = column_none _ pairs; first_fits = λ j lt. absurd (omega arith); second_fits = λ j lt. absurd (omega arith) };
      few = few;
      upto = omega arith;
      firsts_room = refl;
      seconds_room = refl;
    }

-- The row of each leg, by the place of its pair.
module _ {highs lows : List ℕ} {held : ℕ} {pairs : List Pair} {n : ℕ} {firsts seconds : List ℕ} (placed : Placed highs lows held pairs n firsts seconds) (le : n ≤ length pairs) (j : ℕ) (lt : j < n) where
  first_at_lem : get_or firsts j 0 ≡ row_of highs lows held (get_or pairs j no_pair).first
  first_at_lem = rw placed.firsts_are (column_at (λ p. row_of highs lows held p.first) no_pair pairs n j lt le)

  second_at_lem : get_or seconds j 0 ≡ row_of highs lows held (get_or pairs j no_pair).second
  second_at_lem = rw placed.seconds_are (column_at (λ p. row_of highs lows held p.second) no_pair pairs n j lt le)

module _ {highs lows : List ℕ} {held : ℕ} {pairs : List Pair} {paired i : ℕ} {firsts seconds : List ℕ} (t : Placing highs lows held pairs paired (pairs_test highs lows held pairs paired) i firsts seconds) where
  unsound_places : sound_from (legs_found highs lows held) (row_rank highs lows held) pairs paired no_pair i ≡ false → PlacesAre highs lows held pairs paired (record { sound = false; firsts = firsts; seconds = seconds })
  unsound_places e = record { tested = sym (t.goes ∙ e); placed = λ f. absurd (clash f refl) }

  pub placing_ends : paired ≤ length pairs → paired ≤ i → PlacesAre highs lows held pairs paired (record { sound = true; firsts = firsts; seconds = seconds })
  placing_ends le h =
      let upto = t.upto in
      let all : i ≡ paired = omega arith in
      record {
        tested = sym (t.goes ∙ sound_end (legs_found highs lows held) (row_rank highs lows held) pairs paired no_pair i le h);
        placed = λ f. subst (λ (n : ℕ). Placed highs lows held pairs n firsts seconds) all t.placed;
      }

  module _ (lt : i < paired) (le : paired ≤ length pairs) {at : Legs} (legs : LegRows highs lows held (get_or pairs i no_pair) at) where
    pub placing_bad : not at.kept ≡ true → PlacesAre highs lows held pairs paired (record { sound = false; firsts = firsts; seconds = seconds })
    placing_bad fails = unsound_places (bad_row (legs_found highs lows held) (row_rank highs lows held) pairs paired no_pair i lt le legs.kept_is fails)

    module _ (ok : not at.kept ≡ false) {b : ℕ} {y : Bool} (last : b ≡ i - 1) (after : y ≡ either (eqb i 0) (is_less (bytes_order ((get_or pairs b no_pair).kind ∷ get_or firsts b 0 ∷ get_or seconds b 0 ∷ (get_or pairs b no_pair).r1 ∷ (get_or pairs b no_pair).r2 ∷ []) ((get_or pairs i no_pair).kind ∷ at.first ∷ at.second ∷ (get_or pairs i no_pair).r1 ∷ (get_or pairs i no_pair).r2 ∷ [])))) where
      kept_here : at.kept ≡ true
      kept_here = passed refl ok

      pair_after : y ≡ after_last (legs_found highs lows held) (row_rank highs lows held) pairs paired no_pair i
      unfolding row_rank
      pair_after = after ∙ rw (legs.first_is kept_here, legs.second_is kept_here, last) (go i refl)
        where
          go : (m : ℕ) → m ≡ i → either (eqb m 0) (is_less (bytes_order ((get_or pairs (m - 1) no_pair).kind ∷ get_or firsts (m - 1) 0 ∷ get_or seconds (m - 1) 0 ∷ (get_or pairs (m - 1) no_pair).r1 ∷ (get_or pairs (m - 1) no_pair).r2 ∷ []) (row_rank highs lows held (get_or pairs i no_pair)))) ≡ either (eqb m 0) (is_less (bytes_order (row_rank highs lows held (get_or pairs (m - 1) no_pair)) (row_rank highs lows held (get_or pairs i no_pair))))
          go zero e = refl
          go (suc m) e = rw (ne_eqb (suc m) 0 (λ (z : suc m ≡ 0). omega arith), first_at_lem t.placed (omega arith) (suc m - 1) (omega arith), second_at_lem t.placed (omega arith) (suc m - 1) (omega arith))

      pub placing_turned : not y ≡ true → PlacesAre highs lows held pairs paired (record { sound = false; firsts = firsts; seconds = seconds })
      placing_turned fails = unsound_places (turned_row (legs_found highs lows held) (row_rank highs lows held) pairs paired no_pair i lt le legs.kept_is ok pair_after fails)

      fits_next : (f : Pair → Series) → ((j : ℕ) → j < i → Fits (f (get_or pairs j no_pair))) → Fits (f (get_or pairs i no_pair)) → (j : ℕ) → j < i + 1 → Dec (j < i) → Fits (f (get_or pairs j no_pair))
      fits_next f h k j q (yes z) = h j z
      fits_next f h k j q (no z) = let e : j ≡ i = omega arith in rw e k

      pub placing_next : not y ≡ false → Placing highs lows held pairs paired (pairs_test highs lows held pairs paired) (i + 1) (set firsts i at.first) (set seconds i at.second)
      placing_next holds =
          let few = t.few in
          let p = t.placed in
          record {
            goes = t.goes ∙ next_row (legs_found highs lows held) (row_rank highs lows held) pairs paired no_pair i lt le legs.kept_is ok pair_after holds;
            placed = record {
              firsts_are = column_next (λ p. row_of highs lows held p.first) no_pair pairs i p.firsts_are (omega arith) (omega arith) (legs.first_is kept_here);
              seconds_are = column_next (λ p. row_of highs lows held p.second) no_pair pairs i p.seconds_are (omega arith) (omega arith) (legs.second_is kept_here);
              first_fits = λ j q. fits_next (λ (p : Pair). p.first) p.first_fits (legs.first_fits kept_here) j q (dec_lt j i);
              second_fits = λ j q. fits_next (λ (p : Pair). p.second) p.second_fits (legs.second_fits kept_here) j q (dec_lt j i);
            };
            few = few;
            upto = omega arith;
            firsts_room = simp length-set t.firsts_room;
            seconds_room = simp length-set t.seconds_room;
          }

-- A test that each row passes, by its place, every row passes.
every_by : {A : Type 0} (test : A → Bool) (l : List A) (d : A) → ((i : ℕ) → i < length l → test (get_or l i d) ≡ true) → every_line test l ≡ true
unfolding every_line
every_by test [] d h = refl
every_by test (x ∷ l) d h = both_hold (h zero (omega arith)) (every_by test l d (λ i lt. h (suc i) (omega arith)))

-- Two ranks that put each two rows in the same order put all rows in the same order.
module _ {A : Type 0} (test : A → Bool) (one other : A → List ℕ) (same : (x y : A) → test x ≡ true → test y ≡ true → bytes_order (one x) (one y) ≡ bytes_order (other x) (other y)) where
  orders_from : (x : A) (l : List A) → test x ≡ true → every_line test l ≡ true → ascending_from one (one x) l ≡ ascending_from other (other x) l
  unfolding ascending_from every_line
  orders_from x [] e f = refl
  orders_from x (y ∷ l) e f =
      let h = both_true (test y) _ f in
      rw (same x y e h.0, orders_from y l h.0 h.1)

  orders_agree : (l : List A) → every_line test l ≡ true → ascending one l ≡ ascending other l
  unfolding ascending every_line
  orders_agree [] e = refl
  orders_agree (x ∷ l) e = let h = both_true (test x) _ e in orders_from x l h.0 h.1

-- Good pairs whose lots are there have their legs among the holdings.
module _ (hs : List Holding) (ps : List Pair) (goods : every_line good_pair ps ≡ true) (lots : covered hs ps ≡ true) where
  leg_held : (leg : Leg) → 1 ≤ tied ps leg.series leg.side → stands holding_rank (series_rank leg.series) hs ≡ true
  unfolding total holding_in
  leg_held leg some =
      by_test (λ (t : Bool). stands holding_rank (series_rank leg.series) hs ≡ t → t ≡ true) (stands holding_rank (series_rank leg.series) hs)
      (λ q e. refl)
      (λ q e.
      let none : total hs leg.series leg.side ≡ 0 = ap (lots_on leg.side) (look_none holding_rank (new_holding leg.series) (series_rank leg.series) hs e) ∙ new_lots leg.side leg.series in
      let le = covered_all hs ps lots leg.series leg.side in
      absurd (omega arith))
      refl

  module _ (j : ℕ) (lt : j < length ps) where
    pub good_facts : GoodPair (get_or ps j no_pair)
    good_facts = pair_is _ (every_at good_pair ps j no_pair goods lt)

    counts : Counts (get_or ps j no_pair).r1 (get_or ps j no_pair).r2 (get_or ps j no_pair).units
    counts = counts_are _ _ _ good_facts.counts

    pub first_held : stands holding_rank (series_rank (get_or ps j no_pair).first) hs ≡ true
    unfolding tied tied_by first_leg
    first_held =
        let leg = first_leg (get_or ps j no_pair) in
        let own = ties_itself leg in
        let more = one_of_all (tied_by leg.series leg.side) ps j no_pair lt in
        let some = counts.some_lots1 in
        leg_held leg (omega arith)

    pub second_held : stands holding_rank (series_rank (get_or ps j no_pair).second) hs ≡ true
    unfolding tied tied_by second_leg
    second_held =
        let leg = second_leg (get_or ps j no_pair) in
        let own = ties_itself leg in
        let more = one_of_all (tied_by leg.series leg.side) ps j no_pair lt in
        let some = counts.some_lots2 in
        leg_held leg (omega arith)

-- A good series that stands among good rows is that of one of them; in rows in order, of the row at its place.
stands_row : {P : Type 0} (rows : List Holding) (held : ℕ) (s : Series) → held ≤ length rows → every_line good_holding (take held rows) ≡ true → good_series s ≡ true → stands holding_rank (series_rank s) (take held rows) ≡ true → ((i : ℕ) → i < held → (get_or rows i no_row).series ≡ s → P) → P
unfolding holding_rank series_rank series_order
stands_row {P} rows held s room good g e found =
    stands_at holding_rank (series_rank s) no_row P (take held rows) e (λ i inside same.
    let size : length (take held rows) ≡ held = simp length-take (omega arith) in
    let lt : i < held = omega arith in
    let there = get_or-take held rows i no_row lt in
    let row = holding_is _ (every_at good_holding (take held rows) i no_row good inside) in
    found i lt (sym (ap (λ (h : Holding). h.series) there) ∙ same_series_lem _ s row.series_good g (sym (is_same_lem (ap (λ (l : List ℕ). get_or l 0 0) same)))))

pub placed_row : (rows : List Holding) (held : ℕ) (s : Series) → held ≤ length rows → every_line good_holding (take held rows) ≡ true → ascending holding_rank (take held rows) ≡ true → good_series s ≡ true → stands holding_rank (series_rank s) (take held rows) ≡ true → (place_in (take held rows) s < held) × ((get_or rows (place_in (take held rows) s) no_row).series ≡ s)
placed_row rows held s room good order g e = stands_row rows held s room good g e (λ i lt one. rw (place_row no_row rows held i order room lt one) (lt, one))

one_key : (a b : Series) → high_key a ≡ high_key b → nature_key a.nature ≡ nature_key b.nature → key a ≡ key b
unfolding key
one_key a b e f = rw (e, f)

-- What is found of legs among rows that are good and in order, by their keys.
module _ {rows : List Holding} {held : ℕ} {highs lows : List ℕ} (keyed : Keyed no_row rows held highs lows) (good : every_line good_holding (take held rows) ≡ true) (order : ascending holding_rank (take held rows) ≡ true) (room : held ≤ length rows) where
  rising : Rising highs lows held
  rising = rising_keys keyed good room order

  -- The row that is found for a leg has its key.
  high_found : (s : Series) → row_of highs lows held s < held → high_key (get_or rows (row_of highs lows held s) no_row).series ≡ high_key s
  unfolding row_of
  high_found s lt = sym (keyed.highs_are _ lt) ∙ ap (λ (l : List ℕ). get_or l 0 0) (find_says highs lows held (halves s) lt)

  low_found : (s : Series) → row_of highs lows held s < held → nature_key (get_or rows (row_of highs lows held s) no_row).series.nature ≡ nature_key s.nature
  unfolding row_of
  low_found s lt = sym (keyed.lows_are _ lt) ∙ ap (λ (l : List ℕ). get_or l 1 0) (find_says highs lows held (halves s) lt)

  -- And so it is the leg's row, and the leg's series is as good as the row's.
  pub row_found : (s : Series) → Fits s → row_of highs lows held s < held → (get_or rows (row_of highs lows held s) no_row).series ≡ s
  unfolding series_order
  row_found s fits lt =
      same_fitting (get_or rows (row_of highs lows held s) no_row).series s (good_fits _ (good_at keyed good room _ lt)) fits
      (sym (is_same_lem (one_key (get_or rows (row_of highs lows held s) no_row).series s (high_found s lt) (low_found s lt))))

  found_good : (s : Series) → Fits s → row_of highs lows held s < held → good_series s ≡ true
  found_good s fits lt = subst (λ (z : Series). good_series z ≡ true) (row_found s fits lt) (good_at keyed good room _ lt)

  -- A good series that is held is found.
  held_found : (s : Series) → good_series s ≡ true → stands holding_rank (series_rank s) (take held rows) ≡ true → row_of highs lows held s < held
  unfolding row_of
  held_found s g e =
      stands_row rows held s room good g e (λ i lt one.
      let at : key_at highs lows i ≡ halves s = rw (keyed.highs_are i lt, keyed.lows_are i lt, one) in
      let is = find_at (halves s) rising i lt at in
      omega (arith, is))

  -- The order of the rows of two legs is that of the legs.
  low_fits : (s : Series) → row_of highs lows held s < held → nature_key s.nature < 2 ^ 40
  low_fits s lt = subst (λ (n : ℕ). n < 2 ^ 40) (low_found s lt) (nature_fits _ (good_fits _ (good_at keyed good room _ lt)).strike)

  legs_before : (a b : Series) → row_of highs lows held a < held → row_of highs lows held b < held → row_of highs lows held a < row_of highs lows held b → key a < key b
  unfolding row_of bytes_order series_order
  legs_before a b p q lt =
      let ka : key_at highs lows (row_of highs lows held a) ≡ halves a = find_says highs lows held (halves a) p in
      let kb : key_at highs lows (row_of highs lows held b) ≡ halves b = find_says highs lows held (halves b) q in
      let up : bytes_order (halves a) (halves b) ≡ Less = sym (λ i. bytes_order (ka i) (kb i)) ∙ rising.rising (row_of highs lows held a) (row_of highs lows held b) lt q in
      less_says (key a) (key b) (sym (by_halves a b (low_fits a p) (low_fits b q) (ap (then_by (order_of (high_key a) (high_key b))) (then_same (order_of (nature_key a.nature) (nature_key b.nature))))) ∙ up)

  leg_order : (a b : Series) → row_of highs lows held a < held → row_of highs lows held b < held → order_of (row_of highs lows held a) (row_of highs lows held b) ≡ order_of (key a) (key b)
  leg_order a b p q =
      split (λ (o : Ordering). o ≡ order_of (key a) (key b)) (row_of highs lows held a) (row_of highs lows held b)
      (λ lt. is_less_lem (legs_before a b p q lt))
      (λ e. is_same_lem (one_key a b (sym (high_found a p) ∙ ap (λ (r : ℕ). high_key (get_or rows r no_row).series) e ∙ high_found b q) (sym (low_found a p) ∙ ap (λ (r : ℕ). nature_key (get_or rows r no_row).series.nature) e ∙ low_found b q)))
      (λ gt. is_more (legs_before b a q p gt))

  both_found : (p : Pair) → legs_found highs lows held p ≡ true → (standing p ≡ true) × ((row_of highs lows held p.first < held) × (row_of highs lows held p.second < held))
  unfolding legs_found
  both_found p e =
      let h = both_true (standing p) _ e in
      let k = both_true (ltb (row_of highs lows held p.first) held) _ h.1 in
      (h.0, (ltb-true _ _ k.0, ltb-true _ _ k.1))

  ranks_agree : (p q : Pair) → legs_found highs lows held p ≡ true → legs_found highs lows held q ≡ true → bytes_order (row_rank highs lows held p) (row_rank highs lows held q) ≡ bytes_order (pair_rank p) (pair_rank q)
  unfolding row_rank pair_rank bytes_order
  ranks_agree p q e f =
      let h = (both_found p e).1 in
      let k = (both_found q f).1 in
      rw (leg_order p.first q.first h.0 k.0, leg_order p.second q.second h.1 k.1)

  -- Pairs whose legs are found, and in order of their rows, are good and in order.
  module _ (pairs : List Pair) (paired : ℕ) (space : paired ≤ length pairs) where
    at_pair : (j : ℕ) → j < length (take paired pairs) → (j < paired) × (get_or (take paired pairs) j no_pair ≡ get_or pairs j no_pair)
    at_pair j lt =
        let size : length (take paired pairs) ≡ paired = simp length-take (omega arith) in
        let q : j < paired = omega arith in
        (q, get_or-take paired pairs j no_pair q)

    module _ {firsts seconds : List ℕ} (tested : pairs_test highs lows held pairs paired ≡ true) (placed : Placed highs lows held pairs paired firsts seconds) where
      all_found : every_line (legs_found highs lows held) (take paired pairs) ≡ true
      all_found = (both_true (every_line (legs_found highs lows held) (take paired pairs)) _ tested).0

      found_at : (j : ℕ) → j < paired → legs_found highs lows held (get_or pairs j no_pair) ≡ true
      found_at j lt =
          let inside : j < length (take paired pairs) = simp length-take (omega arith) in
          subst (λ (p : Pair). legs_found highs lows held p ≡ true) (get_or-take paired pairs j no_pair lt) (every_at (legs_found highs lows held) (take paired pairs) j no_pair all_found inside)

      good_pair_at : (j : ℕ) → j < paired → good_pair (get_or pairs j no_pair) ≡ true
      unfolding good_pair standing
      good_pair_at j lt =
          let h = both_found (get_or pairs j no_pair) (found_at j lt) in
          both_hold (found_good (get_or pairs j no_pair).first (placed.first_fits j lt) h.1.0) (both_hold (found_good (get_or pairs j no_pair).second (placed.second_fits j lt) h.1.1) h.0)

      pub pairs_all_good : every_line good_pair (take paired pairs) ≡ true
      pairs_all_good = every_by good_pair (take paired pairs) no_pair (λ j lt. rw (at_pair j lt).1 (good_pair_at j (at_pair j lt).0))

      pub pairs_in_order : ascending pair_rank (take paired pairs) ≡ true
      pairs_in_order =
          sym (orders_agree (legs_found highs lows held) (row_rank highs lows held) pair_rank ranks_agree (take paired pairs) all_found)
          ∙ (both_true (every_line (legs_found highs lows held) (take paired pairs)) _ tested).1

      pub first_row : (j : ℕ) → j < paired → (get_or firsts j 0 < held) × ((get_or rows (get_or firsts j 0) no_row).series ≡ (get_or pairs j no_pair).first)
      first_row j lt =
          let h = (both_found (get_or pairs j no_pair) (found_at j lt)).1.0 in
          rw (first_at_lem placed space j lt) (h, row_found (get_or pairs j no_pair).first (placed.first_fits j lt) h)

      pub second_row : (j : ℕ) → j < paired → (get_or seconds j 0 < held) × ((get_or rows (get_or seconds j 0) no_row).series ≡ (get_or pairs j no_pair).second)
      second_row j lt =
          let h = (both_found (get_or pairs j no_pair) (found_at j lt)).1.1 in
          rw (second_at_lem placed space j lt) (h, row_found (get_or pairs j no_pair).second (placed.second_fits j lt) h)

      -- Their rows are the places of their legs.
      pub firsts_placed : firsts ≡ column (λ p. place_in (take held rows) p.first) (take paired pairs)
      firsts_placed =
          placed.firsts_are
          ∙ column_same _ _ no_pair (take paired pairs) (λ j lt.
          let at = at_pair j lt in
          let row = rw (first_at_lem placed space j at.0) at (first_row j at.0) in
          rw at.1 (sym (place_row no_row rows held _ order room row.0 row.1)))

      pub seconds_placed : seconds ≡ column (λ p. place_in (take held rows) p.second) (take paired pairs)
      seconds_placed =
          placed.seconds_are
          ∙ column_same _ _ no_pair (take paired pairs) (λ j lt.
          let at = at_pair j lt in
          let row = rw (second_at_lem placed space j at.0) at (second_row j at.0) in
          rw at.1 (sym (place_row no_row rows held _ order room row.0 row.1)))

    -- And the other way round: good pairs in order whose lots are there have their legs found, in order of their rows.
    module _ (goods : every_line good_pair (take paired pairs) ≡ true) (sorted : ascending pair_rank (take paired pairs) ≡ true) (lots : covered (take held rows) (take paired pairs) ≡ true) where
      legs_held : (j : ℕ) → j < length (take paired pairs) → legs_found highs lows held (get_or (take paired pairs) j no_pair) ≡ true
      unfolding legs_found standing
      legs_held j lt =
          let facts = good_facts (take held rows) (take paired pairs) goods lots j lt in
          both_hold (both_hold facts.counts facts.standing)
          (both_hold (lt-ltb _ _ (held_found _ facts.first_good (first_held (take held rows) (take paired pairs) goods lots j lt))) (lt-ltb _ _ (held_found _ facts.second_good (second_held (take held rows) (take paired pairs) goods lots j lt))))

      pub pairs_found : pairs_test highs lows held pairs paired ≡ true
      pairs_found =
          let every = every_by (legs_found highs lows held) (take paired pairs) no_pair legs_held in
          both_hold every (orders_agree (legs_found highs lows held) (row_rank highs lows held) pair_rank ranks_agree (take paired pairs) every ∙ sorted)
