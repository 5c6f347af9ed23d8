-- Laws of the keys and free lots that go along with a book: a series' slot has its free lots, and what a leg takes there it ties.
use Rattle.std.specs.Prelude.{◌≡◌, Bool, true, false, ◌⊎◌, ℕ, suc, ◌-◌, ◌^◌, ◌<◌, ◌≤◌, min, length, set}
use Rattle.std.proofs.Math.Path.{refl, ap, sym}
use Rattle.std.proofs.Common.{◌∙◌, subst, ⊎_elim, length-take}
use mathlib.Core.List.{List, [], ◌∷◌}
use Rattle.std.proofs.Math.Logic.{inl, inr}
use native.Mathlib.Omega.{arith}
use borrow.Author.Tests.{lt-ltb, ltb-true, ltb-false}
use Rattle.std.proofs.Math.Dec.{ltb}
use Rattle.std.proofs.Math.ListN.{get_or, get_or-eq_default}
use Rattle.std.proofs.Math.Seq.{get_or-take, get_or-set_same, get_or-set_other}
use Rattle.laws.specs.Truth.{pick, both}
use Rattle.laws.specs.TruthLaws.{by_test, both_true, both_hold, clash, false_unless}
use Rattle.laws.specs.Bytes.{same_bytes}
use Rattle.laws.specs.ByteLaws.{are_same}
use Rattle.laws.specs.Order.{join}
use Rattle.laws.specs.SearchLaws.{every_at}
use Rattle.lists.specs.Sorted.{stands}
use Rattle.lists.specs.SortedLaws.{look_none, look_at}
use Rattle.series.specs.declared.Series.{Series}
use Rattle.series.specs.declared.Side.{Side}
use Rattle.series.specs.declared.Side.TheVariants.{Long, Short}
use Rattle.series.specs.Checks.{good_series}
use Rattle.series.specs.Key.{key}
use Rattle.rows.specs.declared.Holding.{Holding}
use Rattle.rows.specs.declared.Pair.{Pair}
use Rattle.rows.specs.declared.Book.{Book}
use Rattle.rows.specs.Rows.{series_rank, holding_rank, same_series, new_holding, lots_on}
use Rattle.rows.specs.Book.{holdings_of, holding_in}
use Rattle.rules.specs.Facts.{Sound}
use Rattle.rules.specs.Lots.{Leg, same_side, ties, tied, total}
use Rattle.rules.specs.LotLaws.{new_lots, one_rank, same_to_itself, same_side_lem, same_sides}
use Rattle.rules.specs.RuleLaws.{holdings_good, holdings_order, holdings_count, holding_is}
use Rattle.rules.specs.Rules.{good_holding}
use Rattle.halving.specs.Halving.{key_at, find_in, Rising}
use Rattle.halving.specs.HalvingLaws.{find_at, find_says}
use Rattle.sound.specs.Walk.{no_row, halves, Keyed}
use Rattle.sound.specs.KeyedLaws.{rising_keys}
use Rattle.calls.specs.PairedLaws.{one_series}
use Rattle.reading.specs.Facts.{slot, slot_at}

-- Two slots are one only where row and side are.
pub slots_differ : (i j : ℕ) (d e : Side) → slot i d ≡ slot j e → (i ≡ j) × (d ≡ e)
unfolding slot
slots_differ i j Long Long h = (omega arith, refl)
slots_differ i j Long Short h = absurd (omega arith)
slots_differ i j Short Long h = absurd (omega arith)
slots_differ i j Short Short h = (omega arith, refl)

pub slot_inside : (i : ℕ) (d : Side) → i < 128 → slot i d < 256
unfolding slot
slot_inside i Long h = omega arith
slot_inside i Short h = omega arith

-- No row of a rank stands where none of the rows has it.
none_stands : {A : Type 0} (rank : A → List ℕ) (k : List ℕ) (d : A) (l : List A) → ((i : ℕ) → i < length l → rank (get_or l i d) ≡ k → ⊥) → stands rank k l ≡ false
unfolding stands
none_stands rank k d [] h = refl
none_stands rank k d (x ∷ l) h =
    rw (false_unless (same_bytes (rank x) k) (λ e. h 0 (omega arith) (are_same (rank x) k e))) (none_stands rank k d l (λ i lt e. h (suc i) (omega arith) e))

module _ {b : Book} {highs lows : List ℕ} (s : Sound b) (keyed : Keyed no_row b.holdings b.held highs lows) where
  abbrev row : ℕ → Holding
  row i = get_or b.holdings i no_row

  room : b.held ≤ length b.holdings
  room = let c : min b.held (length b.holdings) ≡ b.held = sym (length-take b.held b.holdings) ∙ s.holdings_sound_lem.counted in omega arith

  rising : Rising highs lows b.held
  unfolding holdings_of
  rising = rising_keys keyed (holdings_good s) room (holdings_order s)

  row_good : (i : ℕ) → i < b.held → good_series (row i).series ≡ true
  unfolding holdings_of
  row_good i lt =
      let c = holdings_count s in
      (holding_is (row i) (subst (λ (h : Holding). good_holding h ≡ true) (get_or-take b.held b.holdings i no_row lt) (every_at good_holding (holdings_of b) i no_row (holdings_good s) (omega arith)))).series_good

  key_is : (i : ℕ) → i < b.held → key_at highs lows i ≡ halves (row i).series
  key_is i lt = λ j. keyed.highs_are i lt j ∷ keyed.lows_are i lt j ∷ []

  module _ (t : Series) (good : good_series t ≡ true) where
    -- A row with the series' key is its row.
    row_is : (i : ℕ) → i < b.held → key_at highs lows i ≡ halves t → (row i).series ≡ t
    unfolding key
    row_is i lt e =
        let k = sym (key_is i lt) ∙ e in
        let h = ap (λ (l : List ℕ). get_or l 0 0) k in
        let l = ap (λ (l : List ℕ). get_or l 1 0) k in
        one_series (row i).series t (row_good i lt) good (λ j. join (2 ^ 40) (h j) (l j))

    abbrev place : ℕ
    place = find_in highs lows b.held (halves t)

    -- The series' row is at the place that halving finds.
    found_there : (i : ℕ) → i < b.held → (row i).series ≡ t → place ≡ i
    found_there i lt e = find_at (halves t) rising i lt (key_is i lt ∙ ap halves e)

    there : (d : Side) (i : ℕ) → i < b.held → (row i).series ≡ t → slot_at highs lows b.held t d ≡ slot i d
    unfolding slot_at
    there d i lt e = rw (found_there i lt e, lt-ltb i b.held lt)

    -- A series is held in a row, whose slot it has; or in none, and its slot is behind all.
    record HeldAt (i : ℕ) : Type 0 where
      inside : i < b.held
      is : (row i).series ≡ t
      at : (d : Side) → slot_at highs lows b.held t d ≡ slot i d

    record NotHeld : Type 0 where
      nowhere : (i : ℕ) → i < b.held → (row i).series ≡ t → ⊥
      behind : (d : Side) → slot_at highs lows b.held t d ≡ 256

    held_or_not : (HeldAt place) ⊎ NotHeld
    unfolding slot_at
    held_or_not =
        by_test (λ (x : Bool). ltb place b.held ≡ x → (HeldAt place) ⊎ NotHeld) (ltb place b.held)
        (λ q e.
        let lt = ltb-true place b.held e in
        let is = row_is place lt (find_says highs lows b.held (halves t) lt) in
        inl (record { inside = lt; is = is; at = λ d. there d place lt is }))
        (λ q e.
        let le = ltb-false place b.held e in
        inr (record { nowhere = λ i lt is. let z = found_there i lt is in omega arith; behind = λ d. rw e }))
        refl

    -- The lots of the series: those of its row, or none.
    total_there : (d : Side) → HeldAt place → total (holdings_of b) t d ≡ lots_on d (row place)
    unfolding total holding_in holding_rank series_rank holdings_of
    total_there d h =
        let c = holdings_count s in
        let lt = h.inside in
        let there = get_or-take b.held b.holdings place no_row lt in
        ap (lots_on d) (look_at holding_rank (series_rank t) (new_holding t) (holdings_of b) place no_row (holdings_order s) (omega arith) (ap holding_rank there ∙ ap (λ (z : Series). key z ∷ []) h.is) ∙ there)

    total_none : (d : Side) → NotHeld → total (holdings_of b) t d ≡ 0
    unfolding total holding_in holding_rank series_rank holdings_of
    total_none d n =
        let c = holdings_count s in
        ap (lots_on d)
        (look_none holding_rank (new_holding t) (series_rank t) (holdings_of b)
        (none_stands holding_rank (series_rank t) no_row (holdings_of b)
        (λ i lt e.
        let inside : i < b.held = omega arith in
        let there = get_or-take b.held b.holdings i no_row inside in
        n.nowhere i inside (one_series (row i).series t (row_good i inside) good (ap (λ (l : List ℕ). get_or l 0 0) (sym (ap holding_rank there) ∙ e))))))
        ∙ new_lots d t

  -- Free lots, row by row and side by side.
  abbrev pub FreeIs : List ℕ → List Pair → Type 0
  FreeIs free ps = (i : ℕ) (d : Side) → i < b.held → get_or free (slot i d) 0 ≡ lots_on d (row i) - tied ps (row i).series d

  -- A series' slot has its free lots.
  pub slot_has : (free : List ℕ) (ps : List Pair) → length free ≡ 256 → FreeIs free ps → (t : Series) → good_series t ≡ true → (d : Side) → get_or free (slot_at highs lows b.held t d) 0 ≡ total (holdings_of b) t d - tied ps t d
  slot_has free ps long is t good d =
      ⊎_elim
      (λ h. rw (h.at d, total_there t good d h) (is (place t good) d h.inside ∙ ap (λ (z : Series). lots_on d (row (place t good)) - tied ps z d) h.is))
      (λ n. nothing free (total_none t good d n) long (n.behind d))
      (held_or_not t good)
    where
      nothing : {x : ℕ} (free : List ℕ) → total (holdings_of b) t d ≡ 0 → length free ≡ 256 → x ≡ 256 → get_or free x 0 ≡ total (holdings_of b) t d - tied ps t d
      nothing {x} free z long e = let le : length free ≤ x = omega arith in get_or-eq_default free 0 le ∙ omega arith

  -- What a leg takes from its slot it ties, in its row and on its side alone; v are the lots before.
  module _ (leg : Leg) (good : good_series leg.series ≡ true) (free : List ℕ) (v : ℕ → Side → ℕ) (long : length free ≡ 256) (is : (i : ℕ) (d : Side) → i < b.held → get_or free (slot i d) 0 ≡ v i d) where
    abbrev at_slot : ℕ
    at_slot = slot_at highs lows b.held leg.series leg.side

    -- Only a leg of the row's series and side has its slot.
    own_slot : (i : ℕ) (d : Side) → i < b.held → slot i d ≡ at_slot → both (same_series leg.series (row i).series) (same_side leg.side d) ≡ true
    own_slot i d lt e =
        let few = s.holdings_sound_lem.few in
        let low = slot_inside i d (omega arith) in
        ⊎_elim
        (λ h.
        let q = slots_differ i (place leg.series good) d leg.side (e ∙ h.at leg.side) in
        let same : (row i).series ≡ leg.series = ap (λ (j : ℕ). (row j).series) q.0 ∙ h.is in
        let series : same_series leg.series (row i).series ≡ true = rw same (same_to_itself leg.series) in
        let side : same_side leg.side d ≡ true = rw q.1 (same_side_lem leg.side) in
        both_hold series side)
        (λ n. let z = n.behind leg.side in absurd (omega arith))
        (held_or_not leg.series good)

    pub leg_takes : (i : ℕ) (d : Side) → i < b.held → get_or (set free at_slot (get_or free at_slot 0 - leg.lots)) (slot i d) 0 ≡ v i d - ties (row i).series d leg
    unfolding ties series_rank
    leg_takes i d lt =
        let few = s.holdings_sound_lem.few in
        let low = slot_inside i d (omega arith) in
        by_test (λ (x : Bool). both (same_series leg.series (row i).series) (same_side leg.side d) ≡ x → get_or (set free at_slot (get_or free at_slot 0 - leg.lots)) (slot i d) 0 ≡ v i d - pick x leg.lots 0) (both (same_series leg.series (row i).series) (same_side leg.side d))
        (λ q e.
        let h = both_true (same_series leg.series (row i).series) _ e in
        let same = one_series (row i).series leg.series (row_good i lt) good (ap (λ (l : List ℕ). get_or l 0 0) (sym (one_rank leg.series (row i).series h.0))) in
        let here = there leg.series good leg.side i lt same in
        let side = same_sides leg.side d h.1 in
        rw (here, side, get_or-set_same free (slot i d) (get_or free (slot i d) 0 - leg.lots) 0 (omega arith), is i d lt))
        (λ q e. get_or-set_other free at_slot (slot i d) (get_or free at_slot 0 - leg.lots) 0 (λ z. clash (own_slot i d lt z) e) ∙ is i d lt ∙ omega arith)
        refl
