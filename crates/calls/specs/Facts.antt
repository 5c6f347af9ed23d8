-- What is known of a call that no check refuses: the facts behind its checks (document 01, "Numbers a call may answer").
use Rattle.std.specs.Prelude.{◌≡◌, Bool, true, List, ℕ, ◌+◌, ◌-◌, ◌≤◌, ◌<◌, ltb}
use Rattle.lists.specs.Sorted.{stands}
use Rattle.series.specs.declared.Series.{Series}
use Rattle.series.specs.declared.Side.{Side}
use Rattle.series.specs.Checks.{good_series}
use Rattle.pairing.specs.Rules.{may_stand, pair_number}
use Rattle.rows.specs.declared.Holding.{Holding}
use Rattle.rows.specs.declared.Pair.{Pair}
use Rattle.rows.specs.Rows.{series_rank, pair_rank, holding_rank}
use Rattle.rules.specs.Lots.{Leg, first_leg, second_leg, tied, total, units_of, free}
use Rattle.rules.specs.Rules.{counts_fit}
use Rattle.laws.specs.Truth.{pick, both, either}
use Rattle.laws.specs.Checks.{or_else}
use Rattle.dates.specs.Calendar.{is_day}
use Rattle.rows.specs.declared.Book.{Book}
use Rattle.rows.specs.Book.{holdings_of, pairs_of}
use Rattle.rules.specs.Facts.{Sound}

-- a leg's own lots are free
abbrev pub finds : List Holding → List Pair → Leg → Type 0
finds hs ps leg = leg.lots ≤ total hs leg.series leg.side - tied ps leg.series leg.side

-- Open: the lots fit beside those that are held, and there is room for the series.
pub record Opens (b : Book) (s : Series) (d : Side) (n : ℕ) : Type 0 where
  pub sound : Sound b
  pub series_good : good_series s ≡ true
  pub some : 1 ≤ n
  pub few : n ≤ 100000
  pub fits : total (holdings_of b) s d + n ≤ 100000
  pub room : either (stands holding_rank (series_rank s) (holdings_of b)) (ltb b.held 128) ≡ true

-- Close: the lots are free.
pub record Closes (b : Book) (s : Series) (d : Side) (n : ℕ) : Type 0 where
  pub sound : Sound b
  pub series_good : good_series s ≡ true
  pub some : 1 ≤ n
  pub few : n ≤ 100000
  pub enough : n ≤ free b s d

-- Pair: it may stand, both legs find free lots, and there is room for it.
pub record Pairs (b : Book) (p : Pair) : Type 0 where
  pub sound : Sound b
  pub first_good : good_series p.first ≡ true
  pub second_good : good_series p.second ≡ true
  pub counts : counts_fit p.r1 p.r2 p.units ≡ true
  pub allowed : may_stand p.kind p.first p.second p.r1 p.r2 ≡ true
  pub first_free : finds (holdings_of b) (pairs_of b) (first_leg p)
  pub second_free : finds (holdings_of b) (pairs_of b) (second_leg p)
  pub room : either (stands pair_rank (pair_rank p) (pairs_of b)) (ltb b.paired 128) ≡ true

-- Split: the units stand.
pub record Splits (b : Book) (p : Pair) : Type 0 where
  pub sound : Sound b
  pub first_good : good_series p.first ≡ true
  pub second_good : good_series p.second ≡ true
  pub counts : counts_fit p.r1 p.r2 p.units ≡ true
  pub enough : p.units ≤ units_of (pairs_of b) p

-- Turn: a day, and a later one.
pub record Turns (b : Book) (day : ℕ) : Type 0 where
  pub sound : Sound b
  pub day_is : is_day day ≡ true
  pub later : b.day < day

-- The number of a pair's checks behind those of its series, by what the tests of lots and room say: what one private function answers.
abbrev pub pair_rest : Pair → Bool → Bool → Bool → ℕ
pair_rest p first second room =
    pick (counts_fit p.r1 p.r2 p.units) (or_else (pair_number p.kind p.first p.second p.r1 p.r2) (pick (both first second) (pick room 0 11) 9)) 6
