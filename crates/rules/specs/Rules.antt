-- Document 01, "The book": the rules of a book, each of which gives 16 where it is broken, and the ranges that they name.
use Rattle.std.specs.Prelude.{Bool, not, List, [], ◌∷◌, ℕ, ◌*◌, eqb, leb, length, take, drop}
use Rattle.laws.specs.Truth.{both, either, within}
use Rattle.laws.specs.Text.{byte}
use Rattle.laws.specs.Search.{every_line}
use Rattle.laws.specs.Checks.{Check, ◌unless◌, all_pass}
use Rattle.lists.specs.Sorted.{ascending}
use Rattle.dates.specs.Calendar.{is_day}
use Rattle.series.specs.Checks.{good_series}
use Rattle.pairing.specs.Rules.{may_stand}
use Rattle.rows.specs.declared.Holding.{Holding}
use Rattle.rows.specs.declared.Pair.{Pair}
use Rattle.rows.specs.declared.Book.{Book}
use Rattle.rows.specs.Rows.{holding_rank, pair_rank, no_lots, is_empty_holding, is_empty_pair}
use Rattle.rows.specs.Book.{holdings_of, pairs_of}
use Rattle.rules.specs.Lots.{covered}

-- "an account (0 to 9,999,999)"
abbrev pub account_fits : ℕ → Bool
account_fits account = leb account 9999999

-- "a client identity code (one digit or capital)"
abbrev pub is_identity : ℕ → Bool
is_identity code = either (within (byte "0") (byte "9") code) (within (byte "A") (byte "Z") code)

-- lots and units are 1 to 100,000, a ratio 1 to 100, and a ratio times units 1 to 100,000 (number 6)
abbrev pub lots_fit : ℕ → Bool
lots_fit lots = within 1 100000 lots

abbrev pub ratio_fits : ℕ → Bool
ratio_fits r = within 1 100 r

unfoldable pub counts_fit : ℕ → ℕ → ℕ → Bool
counts_fit r1 r2 units =
    both (ratio_fits r1)
    (both (ratio_fits r2)
    (both (lots_fit units)
    (both (lots_fit (r1 * units))
    (lots_fit (r2 * units)))))

-- "long and short totals, each 0 to 100,000, not both 0"
unfoldable pub good_lots : Holding → Bool
good_lots h = both (leb h.long 100000) (both (leb h.short 100000) (not (no_lots h)))

-- "A holding is a series with long and short totals"
unfoldable pub good_holding : Holding → Bool
good_holding h = both (good_series h.series) (good_lots h)

-- "A pair is a kind, first and second series, lots per unit r1 and r2, and units", and may stand
unfoldable pub good_pair : Pair → Bool
good_pair p =
    both (good_series p.first)
    (both (good_series p.second)
    (both (counts_fit p.r1 p.r2 p.units)
    (may_stand p.kind p.first p.second p.r1 p.r2)))

-- "at most 128", "in the order of their text lines", "unused room is empty"; that there is room for 128 rows the type says already
unfoldable pub rows_sound : {A : Type 0} → (A → Bool) → (A → Bool) → (A → List ℕ) → ℕ → List A → Bool
rows_sound is_empty good rank live rows =
    both (leb live 128)
    (both (eqb (length rows) 128)
    (both (every_line is_empty (drop live rows))
    (both (every_line good (take live rows))
    (ascending rank (take live rows)))))

unfoldable pub holdings_sound : ℕ → List Holding → Bool
holdings_sound held rows = rows_sound is_empty_holding good_holding holding_rank held rows

unfoldable pub pairs_sound : ℕ → List Pair → Bool
pairs_sound paired rows = rows_sound is_empty_pair good_pair pair_rank paired rows

unfoldable pub book_rules : Book → List Check
book_rules b =
    16 unless account_fits b.account
    ∷ 16 unless is_identity b.identity
    ∷ 16 unless is_day b.day
    ∷ 16 unless holdings_sound b.held b.holdings
    ∷ 16 unless pairs_sound b.paired b.pairs
    ∷ 16 unless covered (holdings_of b) (pairs_of b)
    ∷ []

-- the book keeps every rule
unfoldable pub sound_book : Book → Bool
sound_book b = all_pass (book_rules b)
