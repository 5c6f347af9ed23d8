-- What is known of rows as they stand in a sound book, and of a line that passes its checks behind a book
-- (document 01, "The book" and "Text").
use Rattle.std.specs.Prelude.{◌≡◌, Bool, true, List, [], ◌∷◌, ◌++◌, ℕ, ◌≤◌, ◌<◌, length}
use Rattle.laws.specs.Search.{every_line}
use Rattle.lists.specs.Sorted.{ascending}
use Rattle.series.specs.declared.Series.{Series}
use Rattle.series.specs.declared.Side.{Side}
use Rattle.rows.specs.declared.Holding.{Holding}
use Rattle.rows.specs.declared.Pair.{Pair}
use Rattle.rows.specs.declared.Book.{Book}
use Rattle.rows.specs.Rows.{holding_rank, pair_rank}
use Rattle.rows.specs.Book.{holdings_of, pairs_of}
use Rattle.rules.specs.Lots.{first_leg, second_leg, tied, total}
use Rattle.rules.specs.Rules.{good_holding, good_pair}
use Rattle.calls.specs.Facts.{finds}

-- Rows as they stand in a sound book, and a row that may stand behind others.
pub record Rows {A : Type 0} (good : A → Bool) (rank : A → List ℕ) (l : List A) : Type 0 where
  pub few : length l ≤ 128
  pub all_good : every_line good l ≡ true
  pub in_order_lem : ascending rank l ≡ true

pub record NextRow {A : Type 0} (good : A → Bool) (rank : A → List ℕ) (l : List A) (x : A) : Type 0 where
  pub is_good : good x ≡ true
  pub in_order_lem : ascending rank (l ++ (x ∷ [])) ≡ true
  pub room : length l < 128

-- Pairs of which no more is tied than there is.
pub record Covered (hs : List Holding) (ps : List Pair) : Type 0 where
  pub rows : Rows good_pair pair_rank ps
  pub never_negative : (s : Series) (d : Side) → tied ps s d ≤ total hs s d

-- A holding that may stand behind a book's holdings: no pair stands yet.
pub record NextHolding (b : Book) (h : Holding) : Type 0 where
  pub row : NextRow good_holding holding_rank (holdings_of b) h
  pub no_pairs : b.paired ≡ 0

-- A pair that may stand behind a book's pairs: both its legs find free lots.
pub record NextPair (b : Book) (p : Pair) : Type 0 where
  pub row : NextRow good_pair pair_rank (pairs_of b) p
  pub first_free : finds (holdings_of b) (pairs_of b) (first_leg p)
  pub second_free : finds (holdings_of b) (pairs_of b) (second_leg p)
