-- The rules of a book as facts, for theorems; RuleLaws proves that they are the tests of Rules (document 01, "The book").
use Rattle.std.specs.Prelude.{◌≡◌, Bool, true, false, List, ℕ, ◌*◌, ◌≤◌, length, take}
use Rattle.laws.specs.Search.{every_line}
use Rattle.lists.specs.Places.{full}
use Rattle.lists.specs.Sorted.{ascending}
use Rattle.dates.specs.Calendar.{is_day}
use Rattle.series.specs.declared.Series.{Series}
use Rattle.series.specs.declared.Side.{Side}
use Rattle.series.specs.Checks.{good_series}
use Rattle.pairing.specs.Rules.{may_stand}
use Rattle.rows.specs.declared.Holding.{Holding}
use Rattle.rows.specs.declared.Pair.{Pair}
use Rattle.rows.specs.declared.Book.{Book}
use Rattle.rows.specs.Rows.{holding_rank, pair_rank, no_lots, empty_holding, empty_pair}
use Rattle.rows.specs.Book.{holdings_of, pairs_of}
use Rattle.rules.specs.Lots.{tied, total}
use Rattle.rules.specs.Rules.{is_identity, counts_fit, good_holding, good_pair}

-- Rows of a book in their array: at most 128, each good, in order, and behind them empty rows.
pub record SoundRows {A : Type 0} (empty : A) (good : A → Bool) (rank : A → List ℕ) (live : ℕ) (rows : List A) : Type 0 where
  pub few : live ≤ 128
  pub counted : length (take live rows) ≡ live
  pub filled : rows ≡ full 128 empty (take live rows)
  pub all_good : every_line good (take live rows) ≡ true
  pub in_order_lem : ascending rank (take live rows) ≡ true

-- What a good holding and a good pair are.
pub record GoodHolding (h : Holding) : Type 0 where
  pub series_good : good_series h.series ≡ true
  pub long_fits : h.long ≤ 100000
  pub short_fits : h.short ≤ 100000
  pub some : no_lots h ≡ false

pub record Counts (r1 r2 units : ℕ) : Type 0 where
  pub some1 : 1 ≤ r1
  pub few1 : r1 ≤ 100
  pub some2 : 1 ≤ r2
  pub few2 : r2 ≤ 100
  pub some_units : 1 ≤ units
  pub few_units : units ≤ 100000
  pub some_lots1 : 1 ≤ r1 * units
  pub few_lots1 : r1 * units ≤ 100000
  pub some_lots2 : 1 ≤ r2 * units
  pub few_lots2 : r2 * units ≤ 100000

pub record GoodPair (p : Pair) : Type 0 where
  pub first_good : good_series p.first ≡ true
  pub second_good : good_series p.second ≡ true
  pub counts : counts_fit p.r1 p.r2 p.units ≡ true
  pub standing : may_stand p.kind p.first p.second p.r1 p.r2 ≡ true

-- What a sound book is.
pub record Sound (b : Book) : Type 0 where
  pub account_fits_lem : b.account ≤ 9999999
  pub identity_is : is_identity b.identity ≡ true
  pub day_is : is_day b.day ≡ true
  pub holdings_sound_lem : SoundRows empty_holding good_holding holding_rank b.held b.holdings
  pub pairs_sound_lem : SoundRows empty_pair good_pair pair_rank b.paired b.pairs
  pub never_negative : (s : Series) (d : Side) → tied (pairs_of b) s d ≤ total (holdings_of b) s d
