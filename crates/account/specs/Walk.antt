-- What the parts of the account's margin ask and answer: rows that were quoted once, and sums over rows by their place.
use Rattle.std.specs.Prelude.{◌≡◌, Bool, true, false, List, ℕ, zero, suc, ◌<◌, eqb, get_or, length, Option, None, Some}
use Rattle.laws.specs.Truth.{pick, both}
use Rattle.laws.specs.Kinds.{by_kind}
use Rattle.levels.specs.declared.Levels.{Levels}
use Rattle.levels.specs.Levels.{flat}
use Rattle.levels.specs.Ranges.{AtMost}
use Rattle.units.specs.Units.{unit_margin}
use Rattle.rows.specs.declared.Holding.{Holding}
use Rattle.rows.specs.declared.Pair.{Pair}
use Rattle.sheets.specs.Rows.{nothing}
use Rattle.sound.specs.Walk.{no_row, no_pair}
use Rattle.quotes.specs.declared.Quote.{Quote}
use Rattle.sheets.specs.View.{View}
use Rattle.quotes.specs.Quotes.{no_quote, quote_of}
use Rattle.account.specs.Needed.{charged_lots}
use Rattle.account.specs.Margin.{times, plus}

-- The prices of the rows' series, each found once; and their quotes.
pub record Priced (v : View) (rows : List Holding) (n : ℕ) (prices : List (Option ℕ)) : Type 0 where
  pub prices_are : (i : ℕ) → i < n → get_or prices i nothing ≡ v.price (get_or rows i no_row).series

pub record QuotesAre (v : View) (rows : List Holding) (n : ℕ) (quotes : List Quote) : Type 0 where
  pub long : length quotes ≡ 128
  pub are : (i : ℕ) → i < n → get_or quotes i no_quote ≡ quote_of v (get_or rows i no_row).series

-- Of the first n places: the test holds of all, and the sum of the amounts.
unfoldable pub all_below : (ℕ → Bool) → ℕ → Bool
all_below test zero = true
all_below test (suc n) = both (all_below test n) (test n)

unfoldable pub sum_below : (ℕ → Levels) → ℕ → Levels
sum_below amount zero = flat 0
sum_below amount (suc n) = plus (sum_below amount n) (amount n)

-- The sum over some rows, or that a line that they need is missing.
pub record Part : Type 0 where
  pub ready : Bool
  pub levels : Levels

-- a sum, or that a needed line is missing
abbrev pub part_as : Option Levels → Part
part_as (Some levels) = record { ready = true; levels = levels }
part_as None = record { ready = false; levels = flat 0 }

unfoldable pub part_of : Bool → Levels → Part
part_of ready levels = pick ready (record { ready = true; levels = levels }) (record { ready = false; levels = flat 0 })

-- no amount of a row passes this: 200,000 lots of 4,430,000,000 dollars
abbrev pub row_limit : ℕ
row_limit = 886000000000000

-- what a holding with this quote needs and comes to
unfoldable pub holding_ready : Holding → Quote → Bool
holding_ready h q = pick (eqb (charged_lots h) 0) true q.ready

unfoldable pub holding_comes : Holding → Quote → Levels
holding_comes h q = times (charged_lots h) q.lot.margin

-- what a pair with these quotes of its legs needs and comes to
unfoldable pub pair_ready : ℕ → Quote → Quote → Bool
pair_ready kind first second =
    by_kind kind
    first.lined
    first.lined
    (both first.ready (both second.ready second.timed))
    (both first.ready second.ready)
    (both first.ready second.ready)
    second.ready
    (both first.ready second.ready)
    (both first.ready second.ready)
    true

unfoldable pub pair_comes : Bool → Pair → Quote → Quote → Levels
pair_comes charged p first second =
    times p.units (unit_margin p.kind first.lot second.lot second.terms p.r1 p.r2 charged).levels

-- the same by place: of holdings,
unfoldable pub ready_at : List Holding → List Quote → ℕ → Bool
ready_at rows quotes i = holding_ready (get_or rows i no_row) (get_or quotes i no_quote)

unfoldable pub comes_at : List Holding → List Quote → ℕ → Levels
comes_at rows quotes i = holding_comes (get_or rows i no_row) (get_or quotes i no_quote)

-- and of pairs, the quotes of whose legs stand where their rows stand
module _ (quotes : List Quote) (firsts seconds : List ℕ) (pairs : List Pair) where
  unfoldable pub pair_ready_at : ℕ → Bool
  pair_ready_at j = pair_ready (get_or pairs j no_pair).kind (get_or quotes (get_or firsts j 0) no_quote) (get_or quotes (get_or seconds j 0) no_quote)

  unfoldable pub pair_comes_at : Bool → ℕ → Levels
  pair_comes_at charged j = pair_comes charged (get_or pairs j no_pair) (get_or quotes (get_or firsts j 0) no_quote) (get_or quotes (get_or seconds j 0) no_quote)

-- What a walk over pairs asks of a pair: its legs stand, and it comes to no more than a row may.
pub record PairStands (quotes : List Quote) (firsts seconds : List ℕ) (pairs : List Pair) (charged : Bool) (j : ℕ) : Type 0 where
  pub first_stands : get_or firsts j 0 < 128
  pub second_stands : get_or seconds j 0 < 128
  pub most : AtMost row_limit (pair_comes_at quotes firsts seconds pairs charged j)
