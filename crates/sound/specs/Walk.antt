-- What the parts of a book's check ask and answer: rows that are tested, their keys, and the rows of a pair's legs, from which it takes its
-- lots (document 01, "The book": "Tied lots of a series and side are the sum over pairs").
use Rattle.std.specs.Prelude.{◌≡◌, Bool, true, false, not, List, [], ◌∷◌, ℕ, ◌<◌, ◌≤◌, get_or, length, take, drop, eqb, leb, ltb, Option, None, Some}
use Rattle.laws.specs.Truth.{both, within}
use Rattle.laws.specs.Bytes.{same_bytes}
use Rattle.laws.specs.Search.{every_line}
use Rattle.lists.specs.Sorted.{ascending}
use Rattle.series.specs.declared.Series.{Series}
use Rattle.series.specs.declared.Nature.TheVariants.{Future}
use Rattle.series.specs.declared.Halves.{Halves}
use Rattle.series.specs.Natures.{is_future, strike_of}
use Rattle.series.specs.Key.{high_key, nature_key, halves_of}
use Rattle.series.specs.KeyLaws.{Fits}
use Rattle.pairing.specs.Rules.{may_stand}
use Rattle.rows.specs.declared.Holding.{Holding}
use Rattle.rows.specs.declared.Pair.{Pair}
use Rattle.rows.specs.Rows.{holding_rank, pair_rank, empty_holding, empty_pair, is_empty_holding, is_empty_pair}
use Rattle.rules.specs.Rules.{counts_fit, good_holding, good_pair}
use Rattle.rules.specs.Facts.{SoundRows}
use Rattle.halving.specs.Halving.{find_in}
use Rattle.sound.specs.Checked.{column, high_of, low_of}

-- Whether the rows are good and in order, and their keys, half by half.
pub record Keys : Type 0 where
  pub sound : Bool
  pub highs : List ℕ
  pub lows : List ℕ

-- Whether a pair may stand and both its legs are held, and the rows of its legs.
pub record Legs : Type 0 where
  pub kept : Bool
  pub first : ℕ
  pub second : ℕ

-- Whether every pair may stand, is held and is in order, and the rows of their legs.
pub record Places : Type 0 where
  pub sound : Bool
  pub firsts : List ℕ
  pub seconds : List ℕ

-- what an answer says of them: none is that of rows or pairs that break a rule
abbrev pub keys_as : Option (List ℕ × List ℕ) → Keys
keys_as (Some k) = record { sound = true; highs = k.0; lows = k.1 }
keys_as None = record { sound = false; highs = []; lows = [] }

abbrev pub legs_as : Option (ℕ × ℕ) → Legs
legs_as (Some l) = record { kept = true; first = l.0; second = l.1 }
legs_as None = record { kept = false; first = 0; second = 0 }

abbrev pub places_as : Option (List ℕ × List ℕ) → Places
places_as (Some p) = record { sound = true; firsts = p.0; seconds = p.1 }
places_as None = record { sound = false; firsts = []; seconds = [] }

-- what rows behind the end would be
abbrev pub no_row : Holding
no_row = record { series = record { code = []; date = 0; nature = Future }; long = 0; short = 0 }

abbrev pub no_pair : Pair
no_pair = record { kind = 0; first = no_row.series; second = no_row.series; r1 = 0; r2 = 0; units = 0 }

abbrev pub halves : Series → List ℕ
halves s = high_key s ∷ nature_key s.nature ∷ []

-- the rules of a pair, but for its series
unfoldable pub standing : Pair → Bool
standing p = both (counts_fit p.r1 p.r2 p.units) (may_stand p.kind p.first p.second p.r1 p.r2)

-- options of one code and date, the second with its strike in range
unfoldable pub alike : Series → Series → Bool
alike a b =
    both (both (same_bytes a.code b.code) (eqb a.date b.date))
    (both (both (not (is_future a.nature)) (not (is_future b.nature))) (within 1 100000000 (strike_of b.nature)))

-- The keys of rows, row by row. Here and below d is what a row behind the end would be, which is never read.
pub record Keyed (d : Holding) (rows : List Holding) (n : ℕ) (highs lows : List ℕ) : Type 0 where
  pub highs_long : n ≤ length highs
  pub lows_long : n ≤ length lows
  pub highs_are : (i : ℕ) → i < n → get_or highs i 0 ≡ high_key (get_or rows i d).series
  pub lows_are : (i : ℕ) → i < n → get_or lows i 0 ≡ nature_key (get_or rows i d).series.nature

-- The walk over the rows tells whether they are good and in order, and if so it has their keys.
pub record KeysAre (rows : List Holding) (held : ℕ) (k : Keys) : Type 0 where
  pub tested : k.sound ≡ both (every_line good_holding (take held rows)) (ascending holding_rank (take held rows))
  pub highs_are : k.sound ≡ true → k.highs ≡ column high_of (take held rows)
  pub lows_are : k.sound ≡ true → k.lows ≡ column low_of (take held rows)

-- A leg's key, with the ranges of its parts, which are those of their types.
pub record LegKey (s : Series) (k : Halves) : Type 0 where
  pub is : k ≡ halves_of s
  pub fits : Fits s

module _ (highs lows : List ℕ) (held : ℕ) where
  -- the row of a series, and held where it has none
  unfoldable pub row_of : Series → ℕ
  row_of s = find_in highs lows held (halves s)

  -- a pair that may stand, and both its legs have their rows
  unfoldable pub legs_found : Pair → Bool
  legs_found p = both (standing p) (both (ltb (row_of p.first) held) (ltb (row_of p.second) held))

  -- a pair's rank, with the rows of its legs for its legs
  unfoldable pub row_rank : Pair → List ℕ
  row_rank p = p.kind ∷ row_of p.first ∷ row_of p.second ∷ p.r1 ∷ p.r2 ∷ []

pub record LegRow (highs lows : List ℕ) (held : ℕ) (s : Series) (r : ℕ) : Type 0 where
  pub is : r ≡ row_of highs lows held s
  pub fits : Fits s

pub record LegRows (highs lows : List ℕ) (held : ℕ) (p : Pair) (l : Legs) : Type 0 where
  pub kept_is : l.kept ≡ legs_found highs lows held p
  pub first_is : l.kept ≡ true → l.first ≡ row_of highs lows held p.first
  pub second_is : l.kept ≡ true → l.second ≡ row_of highs lows held p.second
  pub first_fits : l.kept ≡ true → Fits p.first
  pub second_fits : l.kept ≡ true → Fits p.second

-- The rows of the legs of pairs, pair by pair.
pub record Placed (highs lows : List ℕ) (held : ℕ) (pairs : List Pair) (n : ℕ) (firsts seconds : List ℕ) : Type 0 where
  pub firsts_are : firsts ≡ column (λ p. row_of highs lows held p.first) (take n pairs)
  pub seconds_are : seconds ≡ column (λ p. row_of highs lows held p.second) (take n pairs)
  pub first_fits : (j : ℕ) → j < n → Fits (get_or pairs j no_pair).first
  pub second_fits : (j : ℕ) → j < n → Fits (get_or pairs j no_pair).second

-- The walk over the pairs tells whether each may stand, has its rows and is in order, and if so it has the rows.
pub record PlacesAre (highs lows : List ℕ) (held : ℕ) (pairs : List Pair) (paired : ℕ) (r : Places) : Type 0 where
  pub tested : r.sound ≡ both (every_line (legs_found highs lows held) (take paired pairs)) (ascending (row_rank highs lows held) (take paired pairs))
  pub placed : r.sound ≡ true → Placed highs lows held pairs paired r.firsts r.seconds

-- Whether rows have their room, and it is empty behind them.
pub record RoomIs (holdings : List Holding) (held : ℕ) (pairs : List Pair) (paired : ℕ) (r : Bool) : Type 0 where
  pub is : r ≡ both (both (leb held 128) (leb paired 128)) (both (every_line is_empty_holding (drop held holdings)) (every_line is_empty_pair (drop paired pairs)))
  pub holdings_long : length holdings ≡ 128
  pub pairs_long : length pairs ≡ 128

-- What is known of the rows and pairs of a book, and of the rows of their legs, before lots are taken.
pub record Walkable (rows : List Holding) (held : ℕ) (pairs : List Pair) (paired : ℕ) (firsts seconds : List ℕ) : Type 0 where
  pub holdings_sound_lem : SoundRows empty_holding good_holding holding_rank held rows
  pub pairs_sound_lem : SoundRows empty_pair good_pair pair_rank paired pairs
  pub first_rows : (j : ℕ) → j < paired → (get_or firsts j 0 < held) × ((get_or rows (get_or firsts j 0) no_row).series ≡ (get_or pairs j no_pair).first)
  pub second_rows : (j : ℕ) → j < paired → (get_or seconds j 0 < held) × ((get_or rows (get_or seconds j 0) no_row).series ≡ (get_or pairs j no_pair).second)
