-- Document 01, "Numbers a call may answer", 16: whether a book keeps every rule; and its free lots, holding by holding. With them what the
-- margin reads of a sound book ("Rates and amounts"): the key of each holding, and the rows of each pair's legs.
use Rattle.std.specs.Prelude.{Bool, true, false, List, [], ◌∷◌, map, ℕ, suc, replicate}
use Rattle.laws.specs.Truth.{pick}
use Rattle.lists.specs.Places.{full}
use Rattle.series.specs.declared.Series.{Series}
use Rattle.series.specs.Key.{high_key, nature_key}
use Rattle.rows.specs.declared.Holding.{Holding}
use Rattle.rows.specs.declared.Pair.{Pair}
use Rattle.rows.specs.declared.Book.{Book}
use Rattle.rows.specs.Rows.{same_series, empty_holding}
use Rattle.rows.specs.Book.{holdings_of, pairs_of}
use Rattle.rules.specs.Lots.{free_rows}
use Rattle.rules.specs.Rules.{sound_book}
use Rattle.sound.specs.declared.Checked.{Checked}
use Rattle.sound.specs.declared.Walked.{Walked}

-- the answer for a book that breaks a rule: empty rows
unfoldable pub not_sound : Checked
not_sound = record { sound = false; free = replicate 128 empty_holding }

-- the holdings with their free lots for their totals, where the test holds
unfoldable pub checked_as : Bool → List Holding → List Pair → Checked
checked_as sound hs ps = pick sound (record { sound = true; free = full 128 empty_holding (free_rows hs ps) }) not_sound

unfoldable pub checked_book : Book → Checked
checked_book b = checked_as (sound_book b) (holdings_of b) (pairs_of b)

-- a number of each row, in room for 128
unfoldable pub column : {A : Type 0} → (A → ℕ) → List A → List ℕ
column f rows = full 128 0 (map f rows)

-- the key of a holding, half by half
abbrev pub high_of : Holding → ℕ
high_of h = high_key h.series

abbrev pub low_of : Holding → ℕ
low_of h = nature_key h.series.nature

-- the place of the row of a series: how many rows are before it
unfoldable pub place_in : List Holding → Series → ℕ
place_in [] s = 0
place_in (h ∷ hs) s = pick (same_series h.series s) 0 (suc (place_in hs s))

-- what the walk says of holdings and pairs that keep every rule, and of those that do not
unfoldable pub walk_of : List Holding → List Pair → Walked
walk_of hs ps =
    record {
      sound = true;
      free = full 128 empty_holding (free_rows hs ps);
      highs = column high_of hs;
      lows = column low_of hs;
      firsts = column (λ p. place_in hs p.first) ps;
      seconds = column (λ p. place_in hs p.second) ps;
    }

unfoldable pub not_walked : Walked
not_walked =
    record {
      sound = false;
      free = replicate 128 empty_holding;
      highs = replicate 128 0;
      lows = replicate 128 0;
      firsts = replicate 128 0;
      seconds = replicate 128 0;
    }

unfoldable pub walked_book : Book → Walked
walked_book b = pick (sound_book b) (walk_of (holdings_of b) (pairs_of b)) not_walked
