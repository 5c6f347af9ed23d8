-- Laws of the checks: each refuses by a number that is not 0, and a call that none refuses has the facts behind them.
use Rattle.std.specs.Prelude.{◌≡◌, refl, Bool, true, false, List, [], ◌∷◌, ◌++◌, ℕ, ◌+◌, ◌-◌}
use Rattle.std.proofs.Common.{leb-true, ltb-true}
use Rattle.laws.specs.Truth.{both}
use Rattle.laws.specs.TruthLaws.{both_true, within_true}
use Rattle.laws.specs.Checks.{Check, ◌unless◌, all_pass, numbered}
use Rattle.laws.specs.CheckLaws.{pass_both}
use Rattle.series.specs.declared.Series.{Series}
use Rattle.series.specs.declared.Side.{Side}
use Rattle.series.specs.Checks.{series_checks, good_series}
use Rattle.pairing.specs.Rules.{pair_checks}
use Rattle.rows.specs.declared.Pair.{Pair}
use Rattle.rows.specs.declared.Book.{Book}
use Rattle.rows.specs.Book.{holdings_of, pairs_of}
use Rattle.rules.specs.Lots.{Leg, tied, total, free, units_of}
use Rattle.rules.specs.Rules.{sound_book}
use Rattle.rules.specs.Facts.{Sound}
use Rattle.rules.specs.RuleLaws.{sound_is}
use Rattle.calls.specs.Calls.{make_checks, book_checks, open_checks, close_checks, leg_free, pairing_checks, split_checks, turn_checks}
use Rattle.calls.specs.Facts.{finds, Opens, Closes, Splits, Turns}

-- Every check of every call refuses by a number that is not 0.
pub make_numbered : (account identity day : ℕ) → numbered (make_checks account identity day) ≡ true
unfolding make_checks numbered
make_numbered account identity day = refl

pub open_numbered : (b : Book) (s : Series) (d : Side) (n : ℕ) → numbered (open_checks b s d n) ≡ true
unfolding open_checks book_checks series_checks numbered
open_numbered b s d n = refl

pub close_numbered : (b : Book) (s : Series) (d : Side) (n : ℕ) → numbered (close_checks b s d n) ≡ true
unfolding close_checks book_checks series_checks numbered
close_numbered b s d n = refl

pub pair_numbered : (b : Book) (p : Pair) → numbered (pairing_checks b p) ≡ true
unfolding pairing_checks book_checks series_checks pair_checks numbered
pair_numbered b p = refl

pub split_numbered : (b : Book) (p : Pair) → numbered (split_checks b p) ≡ true
unfolding split_checks book_checks series_checks numbered
split_numbered b p = refl

pub turn_numbered : (b : Book) (day : ℕ) → numbered (turn_checks b day) ≡ true
unfolding turn_checks book_checks numbered
turn_numbered b day = refl

pub one_passes : (b : Bool) → both b true ≡ true → b ≡ true
one_passes true e = refl
one_passes false e = e

pub only_sound : (b : Book) → all_pass (book_checks b) ≡ true → sound_book b ≡ true
unfolding book_checks all_pass
only_sound b e = one_passes (sound_book b) e

-- The checks that every call on a series, or on two, begins with.
after_series : (b : Book) (s : Series) (ds : List Check) → all_pass (book_checks b ++ (series_checks s ++ ds)) ≡ true → (Sound b) × (good_series s ≡ true) × (all_pass ds ≡ true)
unfolding good_series
after_series b s ds e =
    let h = pass_both (book_checks b) (series_checks s ++ ds) e in
    let k = pass_both (series_checks s) ds h.1 in
    (sound_is b (only_sound b h.0), k.0, k.1)

pub first_of : (n : ℕ) (x : Bool) (ds : List Check) → all_pass (n unless x ∷ ds) ≡ true → (x ≡ true) × (all_pass ds ≡ true)
unfolding all_pass
first_of n x ds e = both_true x (all_pass ds) e

pub last_two : (m n : ℕ) (x y : Bool) → all_pass (m unless x ∷ n unless y ∷ []) ≡ true → (x ≡ true) × (y ≡ true)
unfolding all_pass
last_two m n x y e = let h = both_true x _ e in (h.0, one_passes y h.1)

last_three : (k m n : ℕ) (x y z : Bool) → all_pass (k unless x ∷ m unless y ∷ n unless z ∷ []) ≡ true → (x ≡ true) × (y ≡ true) × (z ≡ true)
unfolding all_pass
last_three k m n x y z e = let h = both_true x _ e in let g = both_true y _ h.1 in (h.0, g.0, one_passes z g.1)

pub open_passes : (b : Book) (s : Series) (d : Side) (n : ℕ) → all_pass (open_checks b s d n) ≡ true → Opens b s d n
unfolding open_checks
open_passes b s d n e =
    let h = after_series b s _ e in
    let k = last_three 6 7 8 _ _ _ h.2 in
    let w = within_true 1 100000 n k.0 in
    record { sound = h.0; series_good = h.1; some = w.0; few = w.1; fits = leb-true (total (holdings_of b) s d + n) 100000 k.1; room = k.2 }

pub close_passes : (b : Book) (s : Series) (d : Side) (n : ℕ) → all_pass (close_checks b s d n) ≡ true → Closes b s d n
unfolding close_checks
close_passes b s d n e =
    let h = after_series b s _ e in
    let k = last_two 6 9 _ _ h.2 in
    let w = within_true 1 100000 n k.0 in
    record { sound = h.0; series_good = h.1; some = w.0; few = w.1; enough = leb-true n (free b s d) k.1 }

pub after_two : (b : Book) (s t : Series) (ds : List Check) → all_pass (book_checks b ++ (series_checks s ++ (series_checks t ++ ds))) ≡ true → (Sound b) × (good_series s ≡ true) × (good_series t ≡ true) × (all_pass ds ≡ true)
unfolding good_series
after_two b s t ds e =
    let h = after_series b s (series_checks t ++ ds) e in
    let k = pass_both (series_checks t) ds h.2 in
    (h.0, h.1, k.0, k.1)

pub leg_is_free : (b : Book) (leg : Leg) → leg_free b leg ≡ true → finds (holdings_of b) (pairs_of b) leg
unfolding leg_free free
leg_is_free b leg e = leb-true leg.lots (total (holdings_of b) leg.series leg.side - tied (pairs_of b) leg.series leg.side) e

pub split_passes : (b : Book) (p : Pair) → all_pass (split_checks b p) ≡ true → Splits b p
unfolding split_checks
split_passes b p e =
    let h = after_two b p.first p.second _ e in
    let k = last_two 6 12 _ _ h.3 in
    record { sound = h.0; first_good = h.1; second_good = h.2; counts = k.0; enough = leb-true p.units (units_of (pairs_of b) p) k.1 }

pub turn_passes : (b : Book) (day : ℕ) → all_pass (turn_checks b day) ≡ true → Turns b day
unfolding turn_checks
turn_passes b day e =
    let h = pass_both (book_checks b) _ e in
    let k = last_two 5 13 _ _ h.1 in
    record { sound = sound_is b (only_sound b h.0); day_is = k.0; later = ltb-true b.day day k.1 }
