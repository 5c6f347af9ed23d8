-- Document 01, "The book" and "Numbers a call may answer": each call's checks in their order, and the book that results.
use Rattle.std.specs.Prelude.{Bool, List, [], ◌∷◌, ◌++◌, ℕ, ◌+◌, ◌-◌, leb, ltb}
use Rattle.laws.specs.Truth.{pick, both, either}
use Rattle.laws.specs.Checks.{Check, ◌unless◌, first_failing, all_pass}
use Rattle.lists.specs.Sorted.{stands, kept}
use Rattle.dates.specs.Calendar.{is_day}
use Rattle.series.specs.declared.Series.{Series}
use Rattle.series.specs.declared.Side.{Side}
use Rattle.series.specs.declared.Side.TheVariants.{Long, Short}
use Rattle.series.specs.Checks.{series_checks}
use Rattle.pairing.specs.Rules.{parts_of, pair_checks}
use Rattle.rows.specs.declared.Holding.{Holding}
use Rattle.rows.specs.declared.Pair.{Pair}
use Rattle.rows.specs.declared.Book.{Book}
use Rattle.rows.specs.Rows.{series_rank, holding_rank, pair_rank, no_lots, no_units, added, lessened, with_units}
use Rattle.rows.specs.Book.{holdings_of, pairs_of, with_holdings, with_pairs, with_day, empty_book, no_book}
use Rattle.rules.specs.Lots.{Leg, first_leg, second_leg, total, free, units_of}
use Rattle.rules.specs.Rules.{account_fits, is_identity, lots_fit, counts_fit, sound_book}
use Rattle.calls.specs.Outcome.{Outcome}

abbrev pub outcome : ℕ → Book → Outcome
outcome n b = record { number = n; book = b }

-- "A refusal returns its number" and "the book as handed in"; a call that is accepted, 0 and the book that results
unfoldable pub answered : List Check → Book → Book → Outcome
answered cs b new = outcome (first_failing cs) (pick (all_pass cs) new b)

-- "Make: 2, 5"; "a refused make gives the empty book of account 0, code 0, day 20000101"
unfoldable pub make_checks : ℕ → ℕ → ℕ → List Check
make_checks account identity day = 2 unless both (account_fits account) (is_identity identity) ∷ 5 unless is_day day ∷ []

unfoldable pub make_answer : ℕ → ℕ → ℕ → Outcome
make_answer account identity day = answered (make_checks account identity day) no_book (empty_book account identity day)

-- "16 comes first wherever a book is handed in"
unfoldable pub book_checks : Book → List Check
book_checks b = 16 unless sound_book b ∷ []

-- what is held of a series: its totals, 0 where it is not held
unfoldable pub held_of : List Holding → Series → Holding
held_of hs s = record { series = s; long = total hs s Long; short = total hs s Short }

-- "Open: series, 6, 7, 8"
unfoldable pub open_checks : Book → Series → Side → ℕ → List Check
open_checks b s d lots =
    book_checks b
    ++ (series_checks s
    ++ (6 unless lots_fit lots
    ∷ 7 unless leb (total (holdings_of b) s d + lots) 100000
    ∷ 8 unless either (stands holding_rank (series_rank s) (holdings_of b)) (ltb b.held 128)
    ∷ []))

unfoldable pub opened : Book → Series → Side → ℕ → Book
opened b s d lots = with_holdings b (kept holding_rank no_lots (added d lots (held_of (holdings_of b) s)) (holdings_of b))

unfoldable pub open_answer : Book → Series → Side → ℕ → Outcome
open_answer b s d lots = answered (open_checks b s d lots) b (opened b s d lots)

-- "Close: series, 6, 9"
unfoldable pub close_checks : Book → Series → Side → ℕ → List Check
close_checks b s d lots =
    book_checks b
    ++ (series_checks s
    ++ (6 unless lots_fit lots
    ∷ 9 unless leb lots (free b s d)
    ∷ []))

unfoldable pub closed : Book → Series → Side → ℕ → Book
closed b s d lots = with_holdings b (kept holding_rank no_lots (lessened d lots (held_of (holdings_of b) s)) (holdings_of b))

unfoldable pub close_answer : Book → Series → Side → ℕ → Outcome
close_answer b s d lots = answered (close_checks b s d lots) b (closed b s d lots)

-- a leg finds its lots among the free ones
unfoldable pub leg_free : Book → Leg → Bool
leg_free b leg = leb leg.lots (free b leg.series leg.side)

-- "Pair: first series, second, 6, 10, 9, 11"; "Pairing what already stands adds to its units"
unfoldable pub pairing_checks : Book → Pair → List Check
pairing_checks b p =
    book_checks b
    ++ (series_checks p.first
    ++ (series_checks p.second
    ++ (6 unless counts_fit p.r1 p.r2 p.units
    ∷ (pair_checks (parts_of p.kind p.first p.second p.r1 p.r2)
    ++ (9 unless both (leg_free b (first_leg p)) (leg_free b (second_leg p))
    ∷ 11 unless either (stands pair_rank (pair_rank p) (pairs_of b)) (ltb b.paired 128)
    ∷ [])))))

unfoldable pub joined : Book → Pair → Book
joined b p = with_pairs b (kept pair_rank no_units (with_units (units_of (pairs_of b) p + p.units) p) (pairs_of b))

unfoldable pub pair_answer : Book → Pair → Outcome
pair_answer b p = answered (pairing_checks b p) b (joined b p)

-- "Split: first, second, 6, 12"
unfoldable pub split_checks : Book → Pair → List Check
split_checks b p =
    book_checks b
    ++ (series_checks p.first
    ++ (series_checks p.second
    ++ (6 unless counts_fit p.r1 p.r2 p.units
    ∷ 12 unless leb p.units (units_of (pairs_of b) p)
    ∷ [])))

unfoldable pub parted : Book → Pair → Book
parted b p = with_pairs b (kept pair_rank no_units (with_units (units_of (pairs_of b) p - p.units) p) (pairs_of b))

unfoldable pub split_answer : Book → Pair → Outcome
split_answer b p = answered (split_checks b p) b (parted b p)

-- "Turn: 5, 13"
unfoldable pub turn_checks : Book → ℕ → List Check
turn_checks b day = book_checks b ++ (5 unless is_day day ∷ 13 unless ltb b.day day ∷ [])

unfoldable pub turn_answer : Book → ℕ → Outcome
turn_answer b day = answered (turn_checks b day) b (with_day b day)
