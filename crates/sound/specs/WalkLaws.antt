-- Laws of the walk over the legs of pairs: each leg takes its lots from its row.
use Rattle.std.specs.Prelude.{◌≡◌, refl, Bool, true, false, ℕ, ◌+◌, ◌-◌, ◌*◌, ◌<◌, ◌≤◌, get_or, take, set, replicate}
use Rattle.std.proofs.Math.Path.{ap}
use Rattle.std.proofs.Common.{sym, ◌∙◌, subst, length-take, take-append-drop, drop-cons, get_or-set_same, get_or-set_other}
use mathlib.Core.List.{List, [], ◌∷◌, ◌++◌}
use native.Mathlib.Omega.{arith}
use Rattle.std.proofs.Math.Decide.{dec_lt}
use Rattle.std.proofs.Math.Numerals.{add-one}
use borrow.Author.Tests.{le-leb, lt-leb}
use Rattle.std.proofs.Math.ListN.{length, drop, length-set, drop_of_length-le}
use Rattle.std.proofs.Math.Seq.{get_or-take, take-set-lt, drop-set-lt}
use Rattle.laws.specs.ByteLaws.{are_same, same_self}
use Rattle.laws.specs.SearchLaws.{every_at}
use Rattle.lists.specs.Places.{full}
use Rattle.lists.specs.PlaceLaws.{length_full, drop_full}
use Rattle.lists.specs.Sorted.{ascending}
use Rattle.lists.specs.SortedLaws.{look_at, map_at, mapped_ascends}
use Rattle.series.specs.declared.Series.{Series}
use Rattle.series.specs.declared.Side.{Side}
use Rattle.pairing.specs.Sides.{first_side, second_side}
use Rattle.rows.specs.declared.Holding.{Holding}
use Rattle.rows.specs.declared.Pair.{Pair}
use Rattle.rows.specs.Rows.{series_rank, holding_rank, same_series, new_holding, lots_on, lessened, empty_holding}
use Rattle.rows.specs.RowLaws.{lessened_rank}
use Rattle.rows.specs.Book.{holding_in}
use Rattle.rules.specs.Lots.{Leg, first_leg, second_leg, total, covered}
use Rattle.rules.specs.Rules.{good_holding, good_pair}
use Rattle.rules.specs.Facts.{SoundRows, Counts, GoodPair}
use Rattle.rules.specs.RuleLaws.{counts_are, pair_is}
use Rattle.rules.specs.LotLaws.{legs_of, taken_from, takes, covers, after_legs, taken_rank, covers_is, after_is}
use Rattle.sound.specs.Checked.{not_sound, checked_as}
use Rattle.sound.specs.Walk.{no_row, no_pair, Walkable}

rank_same : (h : Holding) (s : Series) → holding_rank h ≡ series_rank s → same_series h.series s ≡ true
unfolding same_series holding_rank
rank_same h s e = rw e (same_self (series_rank s))

-- The walk has come to the legs ls; `free` are the rows with what the legs before left. Whether all legs find their lots is w, and
-- what they leave is v.
pub record Walking (d : Holding) (rows : List Holding) (n : ℕ) (w : Bool) (v : List Holding) (ls : List Leg) (free : List Holding) : Type 0 where
  pub long : length free ≡ 128
  pub goes : covers (take n free) ls ≡ w
  pub ends : after_legs (take n free) ls ≡ v
  pub order : ascending holding_rank (take n free) ≡ true
  pub ranks : (i : ℕ) → i < n → holding_rank (get_or free i d) ≡ holding_rank (get_or rows i d)
  pub behind : drop n free ≡ drop n rows

pub walking_starts : (d : Holding) (rows : List Holding) (n : ℕ) (ls : List Leg) → length rows ≡ 128 → ascending holding_rank (take n rows) ≡ true → Walking d rows n (covers (take n rows) ls) (after_legs (take n rows) ls) ls rows
walking_starts d rows n ls long a = record { long = long; goes = refl; ends = refl; order = a; ranks = λ i lt. refl; behind = refl }

module _ {d : Holding} {rows : List Holding} {n : ℕ} {w : Bool} {v : List Holding} {leg : Leg} {ls : List Leg} {free : List Holding} (few : n ≤ 128) (walk : Walking d rows n w v (leg ∷ ls) free) where
  -- A leg whose row has too little ends it.
  too_little : {m : ℕ} → total (take n free) leg.series leg.side ≡ m → m < leg.lots → false ≡ w
  unfolding covers
  too_little e lt = rw (e, lt-leb _ _ lt) at walk.goes

  module _ (i : ℕ) (lt : i < n) (is : same_series (get_or free i d).series leg.series ≡ true) where
    inside : i < length (take n free)
    inside = let l = walk.long in simp length-take (omega arith)

    rank_is : holding_rank (get_or (take n free) i d) ≡ series_rank leg.series
    unfolding same_series holding_rank
    rank_is = rw (get_or-take n free i d lt) (are_same (series_rank (get_or free i d).series) (series_rank leg.series) is)

    row_total : total (take n free) leg.series leg.side ≡ lots_on leg.side (get_or free i d)
    unfolding total holding_in
    row_total =
        ap (lots_on leg.side) (look_at holding_rank (series_rank leg.series) (new_holding leg.series) (take n free) i d walk.order inside rank_is ∙ get_or-take n free i d lt)

    pub leg_short : lots_on leg.side (get_or free i d) < leg.lots → false ≡ w
    leg_short less = too_little row_total less

    -- A leg that finds its lots in the row i takes them there.
    taken_there : takes leg (take n free) ≡ take n (set free i (lessened leg.side leg.lots (get_or free i d)))
    unfolding takes taken_from same_series holding_rank
    taken_there =
        map_at holding_rank (series_rank leg.series) (lessened leg.side leg.lots) (take n free) i d walk.order inside rank_is
        ∙ rw (get_or-take n free i d lt, take-set-lt n free i (lessened leg.side leg.lots (get_or free i d)) lt)

    rank_stays : (j : ℕ) → Dec (j < i) → Dec (i < j) → holding_rank (get_or (set free i (lessened leg.side leg.lots (get_or free i d))) j d) ≡ holding_rank (get_or free j d)
    rank_stays j (yes q) r = ap holding_rank (get_or-set_other free i j _ d (λ e. omega arith))
    rank_stays j (no q) (yes r) = ap holding_rank (get_or-set_other free i j _ d (λ e. omega arith))
    rank_stays j (no q) (no r) =
        let same : j ≡ i = omega arith in
        let l = walk.long in
        rw (same, get_or-set_same free i (lessened leg.side leg.lots (get_or free i d)) d (omega arith)) (lessened_rank leg.side leg.lots (get_or free i d))

    pub leg_taken : leg.lots ≤ lots_on leg.side (get_or free i d) → Walking d rows n w v ls (set free i (lessened leg.side leg.lots (get_or free i d)))
    unfolding covers after_legs takes
    leg_taken le =
        record {
          long = simp length-set walk.long;
          goes = rw (← taken_there) (rw (row_total, le-leb _ _ le) at walk.goes);
          ends = rw (← taken_there) walk.ends;
          order = rw (← taken_there) (mapped_ascends holding_rank (taken_from leg) (taken_rank leg) (take n free) ∙ walk.order);
          ranks = λ j q. rank_stays j (dec_lt j i) (dec_lt i j) ∙ walk.ranks j q;
          behind = drop-set-lt n free i (lessened leg.side leg.lots (get_or free i d)) lt ∙ walk.behind;
        }

-- The end of the walk: every leg has found its lots, and the rows are those with the free lots, then empty ones.
pub walking_ends : {d : Holding} {rows : List Holding} {n : ℕ} {w : Bool} {v : List Holding} {free : List Holding} → SoundRows empty_holding good_holding holding_rank n rows → Walking d rows n w v [] free → (true ≡ w) × (free ≡ full 128 empty_holding v)
unfolding covers after_legs full
walking_ends {d} {rows} {n} {w} {v} {free} r walk =
    let few = r.few in
    let long = walk.long in
    let size : length (take n free) ≡ n = simp length-take (omega arith) in
    let count : 128 - length (take n rows) ≡ 128 - length v = let k = r.counted in let m = ap length walk.ends in omega arith in
    let behind : drop n rows ≡ replicate (128 - length (take n rows)) empty_holding
    = ap (drop n) r.filled ∙ ap (λ (k : ℕ). drop k (full 128 empty_holding (take n rows))) (sym r.counted) ∙ drop_full 128 empty_holding (take n rows) in
    (walk.goes, sym (take-append-drop n free) ∙ (λ i. walk.ends i ++ (walk.behind ∙ behind ∙ ap (λ (k : ℕ). replicate k empty_holding) count) i))

-- The answer where a leg does not find its lots.
pub uncovered : (hs : List Holding) (ps : List Pair) → false ≡ covers hs (legs_of ps) → not_sound ≡ checked_as (covered hs ps) hs ps
unfolding checked_as
uncovered hs ps e = ap (λ (t : Bool). checked_as t hs ps) (e ∙ covers_is hs ps)

-- The answer where every leg has found its lots.
pub all_covered_as : (hs : List Holding) (ps : List Pair) {free : List Holding} → (true ≡ covers hs (legs_of ps)) × (free ≡ full 128 empty_holding (after_legs hs (legs_of ps))) → record { sound = true; free = free } ≡ checked_as (covered hs ps) hs ps
unfolding checked_as
all_covered_as hs ps e = rw (e.1, after_is hs ps) (ap (λ (t : Bool). checked_as t hs ps) (e.0 ∙ covers_is hs ps))

-- Sound rows fill their array.
pub rows_long : {A : Type 0} {empty : A} {good : A → Bool} {rank : A → List ℕ} {n : ℕ} {rows : List A} → SoundRows empty good rank n rows → length rows ≡ 128
rows_long {A} {empty} {good} {rank} {n} {rows} r =
    let few = r.few in
    let counted = r.counted in
    ap length r.filled ∙ length_full 128 empty (take n rows) (omega arith)

-- The walk over the legs of a book's pairs, with their rows: it has come to the legs ls.
pub record Going (rows : List Holding) (held : ℕ) (pairs : List Pair) (paired : ℕ) (firsts seconds : List ℕ) (ls : List Leg) (free : List Holding) : Type 0 where
  pub ready : Walkable rows held pairs paired firsts seconds
  pub walk : Walking no_row rows held (covers (take held rows) (legs_of (take paired pairs))) (after_legs (take held rows) (legs_of (take paired pairs))) ls free

-- The walk starts with all rows and at the first pair.
pub going_starts : {rows : List Holding} {held : ℕ} {pairs : List Pair} {paired : ℕ} {firsts seconds : List ℕ} → Walkable rows held pairs paired firsts seconds → Going rows held pairs paired firsts seconds (legs_of (drop 0 (take paired pairs))) rows
going_starts ready =
    record { ready = ready; walk = walking_starts no_row _ _ _ (rows_long ready.holdings_sound_lem) ready.holdings_sound_lem.in_order_lem }

-- the answer of the walk is that of a book that breaks a rule
abbrev pub Refused : List Holding → ℕ → List Pair → ℕ → Type 0
Refused rows held pairs paired = not_sound ≡ checked_as (covered (take held rows) (take paired pairs)) (take held rows) (take paired pairs)

module _ {rows : List Holding} {held : ℕ} {pairs : List Pair} {paired : ℕ} {firsts seconds : List ℕ} where
  -- A live pair is one of 128, and so are the rows of its legs.
  pub few_pairs : {ls : List Leg} {free : List Holding} {j : ℕ} → Going rows held pairs paired firsts seconds ls free → j < paired → j < 128
  few_pairs g lt = let few = g.ready.pairs_sound_lem.few in omega arith

  pub few_firsts : {ls : List Leg} {free : List Holding} {j : ℕ} → Going rows held pairs paired firsts seconds ls free → j < paired → get_or firsts j 0 < 128
  few_firsts g lt = let few = g.ready.holdings_sound_lem.few in let row = (g.ready.first_rows _ lt).0 in omega arith

  pub few_seconds : {ls : List Leg} {free : List Holding} {j : ℕ} → Going rows held pairs paired firsts seconds ls free → j < paired → get_or seconds j 0 < 128
  few_seconds g lt = let few = g.ready.holdings_sound_lem.few in let row = (g.ready.second_rows _ lt).0 in omega arith

  -- A leg whose row has too little ends the walk; else it takes its lots.
  module _ {leg : Leg} {ls : List Leg} {free : List Holding} {r n : ℕ} (g : Going rows held pairs paired firsts seconds (leg ∷ ls) free) (row : (r < held) × ((get_or rows r no_row).series ≡ leg.series)) (has : n ≡ lots_on leg.side (get_or free r no_row)) where
    own_row : same_series (get_or free r no_row).series leg.series ≡ true
    unfolding holding_rank
    own_row = rank_same (get_or free r no_row) leg.series (g.walk.ranks r row.0 ∙ ap series_rank row.1)

    leg_lacks : n < leg.lots → Refused rows held pairs paired
    leg_lacks less =
        uncovered (take held rows) (take paired pairs) (leg_short g.ready.holdings_sound_lem.few g.walk r row.0 own_row (omega arith))

    leg_takes : {left : Holding} → leg.lots ≤ n → left ≡ lessened leg.side leg.lots (get_or free r no_row) → Going rows held pairs paired firsts seconds ls (set free r left)
    leg_takes le is =
        record {
          ready = g.ready;
          walk = rw is (leg_taken g.ready.holdings_sound_lem.few g.walk r row.0 own_row (omega arith));
        }

  -- The walk is at the pair j.
  module _ {j : ℕ} {free : List Holding} (g : Going rows held pairs paired firsts seconds (legs_of (drop j (take paired pairs))) free) (lt : j < paired) where
    inside_pairs : j < length (take paired pairs)
    inside_pairs = let counted = g.ready.pairs_sound_lem.counted in omega arith

    -- The pair j is good, so its counts fit.
    pair_good : GoodPair (get_or pairs j no_pair)
    pair_good =
        pair_is (get_or pairs j no_pair) (subst (λ (p : Pair). good_pair p ≡ true) (get_or-take paired pairs j no_pair lt) (every_at good_pair (take paired pairs) j no_pair g.ready.pairs_sound_lem.all_good inside_pairs))

    pub pair_counts : Counts (get_or pairs j no_pair).r1 (get_or pairs j no_pair).r2 (get_or pairs j no_pair).units
    pair_counts = counts_are _ _ _ pair_good.counts

    -- The legs from there on are its first, its second and those of the pairs behind it.
    pair_legs : legs_of (drop j (take paired pairs)) ≡ first_leg (get_or pairs j no_pair) ∷ second_leg (get_or pairs j no_pair) ∷ legs_of (drop (j + 1) (take paired pairs))
    unfolding legs_of
    pair_legs = rw (drop-cons (take paired pairs) j no_pair inside_pairs, get_or-take paired pairs j no_pair lt, add-one j)

    at_first : Going rows held pairs paired firsts seconds (first_leg (get_or pairs j no_pair) ∷ second_leg (get_or pairs j no_pair) ∷ legs_of (drop (j + 1) (take paired pairs))) free
    at_first = subst (λ (ls : List Leg). Going rows held pairs paired firsts seconds ls free) pair_legs g

    -- What the first leg finds: too little, or its lots.
    module _ {side : Side} {n : ℕ} (side-is : side ≡ first_side (get_or pairs j no_pair).kind (get_or pairs j no_pair).second) (has : n ≡ lots_on side (get_or free (get_or firsts j 0) no_row)) where
      pub first_lacks : n < (get_or pairs j no_pair).r1 * (get_or pairs j no_pair).units → Refused rows held pairs paired
      unfolding first_leg
      first_lacks less = leg_lacks at_first (g.ready.first_rows j lt) (rw side-is at has) less

      -- and when it has its lots, what the second finds
      module _ {left : Holding} (enough : (get_or pairs j no_pair).r1 * (get_or pairs j no_pair).units ≤ n) (is : left ≡ lessened side ((get_or pairs j no_pair).r1 * (get_or pairs j no_pair).units) (get_or free (get_or firsts j 0) no_row)) where
        at_second : Going rows held pairs paired firsts seconds (second_leg (get_or pairs j no_pair) ∷ legs_of (drop (j + 1) (take paired pairs))) (set free (get_or firsts j 0) left)
        unfolding first_leg
        at_second = leg_takes at_first (g.ready.first_rows j lt) (rw side-is at has) enough (rw side-is at is)

        module _ {side2 : Side} {m : ℕ} (side2-is : side2 ≡ second_side (get_or pairs j no_pair).kind) (has2 : m ≡ lots_on side2 (get_or (set free (get_or firsts j 0) left) (get_or seconds j 0) no_row)) where
          pub second_lacks : m < (get_or pairs j no_pair).r2 * (get_or pairs j no_pair).units → Refused rows held pairs paired
          unfolding second_leg
          second_lacks less = leg_lacks at_second (g.ready.second_rows j lt) (rw side2-is at has2) less

          pub pair_takes : {rest : Holding} → (get_or pairs j no_pair).r2 * (get_or pairs j no_pair).units ≤ m → rest ≡ lessened side2 ((get_or pairs j no_pair).r2 * (get_or pairs j no_pair).units) (get_or (set free (get_or firsts j 0) left) (get_or seconds j 0) no_row) → Going rows held pairs paired firsts seconds (legs_of (drop (j + 1) (take paired pairs))) (set (set free (get_or firsts j 0) left) (get_or seconds j 0) rest)
          unfolding second_leg
          pair_takes le is2 = leg_takes at_second (g.ready.second_rows j lt) (rw side2-is at has2) le (rw side2-is at is2)

  -- Behind the last pair every leg has found its lots.
  pub going_ends : {j : ℕ} {free : List Holding} → Going rows held pairs paired firsts seconds (legs_of (drop j (take paired pairs))) free → paired ≤ j → record { sound = true; free = free } ≡ checked_as (covered (take held rows) (take paired pairs)) (take held rows) (take paired pairs)
  unfolding legs_of
  going_ends {j} {free} g le =
      let counted = g.ready.pairs_sound_lem.counted in
      let behind : length (take paired pairs) ≤ j = omega arith in
      let none : drop j (take paired pairs) ≡ [] = drop_of_length-le (take paired pairs) behind in
      all_covered_as (take held rows) (take paired pairs) (walking_ends g.ready.holdings_sound_lem (subst (λ (ps : List Pair). Going rows held pairs paired firsts seconds (legs_of ps) free) none g).walk)
