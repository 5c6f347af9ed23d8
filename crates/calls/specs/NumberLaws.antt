-- Laws of a call's number and of its rows: what is worked out in the code is what the checks say.
use Rattle.std.specs.Prelude.{◌≡◌, refl, Bool, true, false, not, ℕ, ◌+◌, ◌≤◌, leb, ltb}
use Rattle.std.proofs.Math.Path.{ap}
use Rattle.std.proofs.Common.{sym, ◌∙◌, arith, ne_eqb}
use mathlib.Core.List.{List, ◌++◌}
use Rattle.std.proofs.Math.ListN.{length, take, length-map}
use Rattle.laws.specs.Truth.{pick, both, either}
use Rattle.laws.specs.TruthLaws.{by_test, picked}
use Rattle.laws.specs.Search.{every_line}
use Rattle.laws.specs.declared.Refusal.{Refusal}
use Rattle.laws.specs.Refusals.{number_of}
use Rattle.laws.specs.RefusalLaws.{refusal_positive}
use Rattle.laws.specs.Checks.{Check, first_failing, all_pass, numbered, or_else}
use Rattle.laws.specs.CheckLaws.{first_of_two, no_failure, none_fails}
use Rattle.lists.specs.Places.{full}
use Rattle.lists.specs.PlaceLaws.{take_full}
use Rattle.lists.specs.Sorted.{stands, kept}
use Rattle.lists.specs.SortedLaws.{look_none, look_every}
use Rattle.lists.specs.Kept.{Keeping, KeptIs}
use Rattle.dates.specs.Calendar.{is_day}
use Rattle.series.specs.declared.Series.{Series}
use Rattle.series.specs.declared.Side.{Side}
use Rattle.series.specs.Checks.{series_checks, series_number}
use Rattle.series.specs.CheckLaws.{series_numbered}
use Rattle.pairing.specs.Rules.{parts_of, pair_checks, pair_number}
use Rattle.pairing.specs.PairLaws.{pairs_numbered}
use Rattle.rows.specs.declared.Holding.{Holding}
use Rattle.rows.specs.declared.Pair.{Pair}
use Rattle.rows.specs.declared.Book.{Book}
use Rattle.rows.specs.Rows.{series_rank, holding_rank, pair_rank, new_holding, new_of, no_lots, no_units, lots_on, added, lessened, with_units, empty_holding, empty_pair}
use Rattle.rows.specs.Book.{holdings_of, pairs_of, holding_in, pair_in, held_rows, paired_rows, with_holdings, with_pairs}
use Rattle.rules.specs.Lots.{first_leg, second_leg, total, free, units_of, free_rows}
use Rattle.rules.specs.LotLaws.{free_lots}
use Rattle.rules.specs.Rules.{account_fits, is_identity, lots_fit, counts_fit, good_holding, good_pair, sound_book}
use Rattle.rules.specs.RuleLaws.{sound_is, holdings_good, holdings_count, pairs_good, holding_is, pair_is, counts_are}
use Rattle.calls.specs.Calls.{outcome, answered, make_checks, book_checks, held_of, open_checks, close_checks, leg_free, pairing_checks, split_checks, turn_checks}
use Rattle.calls.specs.HeldLaws.{held_on, opened_rank, closed_rank, lots_stand}
use Rattle.calls.specs.PairedLaws.{units_stand}
use Rattle.calls.specs.Facts.{Opens, Closes, Pairs, Splits, pair_rest}

-- An answer: refused with its number and the book handed in, or accepted with the new one.
pub refused_with : (cs : List Check) (b new : Book) (n : ℕ) → n ≡ first_failing cs → (n ≡ 0 → ⊥) → outcome n b ≡ answered cs b new
unfolding answered
refused_with cs b new n e h =
    by_test (λ (t : Bool). all_pass cs ≡ t → outcome n b ≡ outcome (first_failing cs) (pick t new b)) (all_pass cs)
    (λ q p. absurd (h (e ∙ none_fails cs p)))
    (λ q p. ap (λ (m : ℕ). outcome m b) e)
    refl

pub accepted_with : (cs : List Check) (b new : Book) (n : ℕ) {r : Book} → numbered cs ≡ true → n ≡ first_failing cs → n ≡ 0 → r ≡ new → outcome 0 r ≡ answered cs b new
unfolding answered
accepted_with cs b new n k e z is =
    let f : first_failing cs ≡ 0 = sym e ∙ z in
    rw (no_failure cs k f, f, is)

-- The same of a refusal, and of checks that answer Ok.
pub refused_by : (cs : List Check) (b new : Book) (r : Refusal) → number_of r ≡ first_failing cs → outcome (number_of r) b ≡ answered cs b new
refused_by cs b new r e = let h = refusal_positive r in refused_with cs b new (number_of r) e (λ z. omega arith)

pub accepted_by : (cs : List Check) (b new : Book) {r : Book} → numbered cs ≡ true → 0 ≡ first_failing cs → r ≡ new → outcome 0 r ≡ answered cs b new
accepted_by cs b new k e is = accepted_with cs b new 0 k e refl is

-- no check fails where the number is 0
pub passes_all : (cs : List Check) (n : ℕ) → numbered cs ≡ true → n ≡ first_failing cs → n ≡ 0 → all_pass cs ≡ true
passes_all cs n k e z = no_failure cs k (sym e ∙ z)

-- The book's own check first, then those of a series, then those of a pair.
series_then : (s : Series) (ds : List Check) → first_failing (series_checks s ++ ds) ≡ or_else (series_number s) (first_failing ds)
unfolding series_number
series_then s ds = first_of_two (series_checks s) ds (series_numbered s)

pair_then : (kind : ℕ) (a c : Series) (r1 r2 : ℕ) (ds : List Check) → first_failing (pair_checks (parts_of kind a c r1 r2) ++ ds) ≡ or_else (pair_number kind a c r1 r2) (first_failing ds)
unfolding pair_number
pair_then kind a c r1 r2 ds = first_of_two (pair_checks (parts_of kind a c r1 r2)) ds (pairs_numbered (parts_of kind a c r1 r2))

-- A book that breaks a rule is 16, whatever the call.
module _ (b : Book) (e : sound_book b ≡ false) where
  pub open_unsound : (s : Series) (d : Side) (n : ℕ) → 16 ≡ first_failing (open_checks b s d n)
  unfolding open_checks book_checks first_failing
  open_unsound s d n = rw e

  pub close_unsound : (s : Series) (d : Side) (n : ℕ) → 16 ≡ first_failing (close_checks b s d n)
  unfolding close_checks book_checks first_failing
  close_unsound s d n = rw e

  pub pair_unsound : (p : Pair) → 16 ≡ first_failing (pairing_checks b p)
  unfolding pairing_checks book_checks first_failing
  pair_unsound p = rw e

  pub split_unsound : (p : Pair) → 16 ≡ first_failing (split_checks b p)
  unfolding split_checks book_checks first_failing
  split_unsound p = rw e

  pub turn_unsound : (day : ℕ) → 16 ≡ first_failing (turn_checks b day)
  unfolding turn_checks book_checks first_failing
  turn_unsound day = rw e

-- A row stands where it has lots, or units.
stands_held : (hs : List Holding) (s : Series) → every_line good_holding hs ≡ true → stands holding_rank (series_rank s) hs ≡ not (no_lots (held_of hs s))
unfolding held_of total holding_in
stands_held hs s g =
    by_test (λ (t : Bool). stands holding_rank (series_rank s) hs ≡ t → t ≡ not (no_lots (holding_in hs s))) (stands holding_rank (series_rank s) hs)
    (λ q e. rw (holding_is (holding_in hs s) (look_every holding_rank good_holding (new_holding s) (series_rank s) hs g e).0).some)
    (λ q e. rw (look_none holding_rank (new_holding s) (series_rank s) hs e))
    refl

stands_paired : (ps : List Pair) (p : Pair) → every_line good_pair ps ≡ true → stands pair_rank (pair_rank p) ps ≡ not (no_units (pair_in ps p))
unfolding pair_in
stands_paired ps p g =
    by_test (λ (t : Bool). stands pair_rank (pair_rank p) ps ≡ t → t ≡ not (no_units (pair_in ps p))) (stands pair_rank (pair_rank p) ps)
    (λ q e.
    let good = pair_is (pair_in ps p) (look_every pair_rank good_pair (new_of p) (pair_rank p) ps g e).0 in
    let some = (counts_are (pair_in ps p).r1 (pair_in ps p).r2 (pair_in ps p).units good.counts).some_units in
    rw (ne_eqb (pair_in ps p).units 0 (λ z. omega arith)))
    (λ q e. rw (look_none pair_rank (new_of p) (pair_rank p) ps e))
    refl

-- The units that stand of a pair are at most 100,000.
pub units_fit : (ps : List Pair) (p : Pair) → every_line good_pair ps ≡ true → units_of ps p ≤ 100000
unfolding units_of pair_in
units_fit ps p g =
    by_test (λ (t : Bool). stands pair_rank (pair_rank p) ps ≡ t → units_of ps p ≤ 100000) (stands pair_rank (pair_rank p) ps)
    (λ q e.
    let good = pair_is (pair_in ps p) (look_every pair_rank good_pair (new_of p) (pair_rank p) ps g e).0 in
    (counts_are (pair_in ps p).r1 (pair_in ps p).r2 (pair_in ps p).units good.counts).few_units)
    (λ q e. let z = ap (λ (r : Pair). r.units) (look_none pair_rank (new_of p) (pair_rank p) ps e) in omega arith)
    refl

-- The number of a make.
pub make_number : (account identity day : ℕ) {r : ℕ} → r ≡ pick (both (account_fits account) (is_identity identity)) (pick (is_day day) 0 5) 2 → r ≡ first_failing (make_checks account identity day)
unfolding make_checks first_failing
make_number account identity day q = q

-- The numbers of the calls on a sound book.
module _ (b : Book) (e : sound_book b ≡ true) where
  pub open_number : (s : Series) (d : Side) (n : ℕ) {r : ℕ} (h : Holding) → h ≡ held_of (holdings_of b) s → r ≡ or_else (series_number s) (pick (lots_fit n) (pick (leb (lots_on d h + n) 100000) (pick (either (not (no_lots h)) (ltb b.held 128)) 0 8) 7) 6) → r ≡ first_failing (open_checks b s d n)
  unfolding open_checks book_checks first_failing
  open_number s d n h is q =
      let g = holdings_good (sound_is b e) in
      q ∙ rw (is, held_on (holdings_of b) s d, ← stands_held (holdings_of b) s g, e) (sym (series_then s _))

  free_count : (hs : List Holding) (ps : List Pair) → length (free_rows hs ps) ≡ length hs
  unfolding free_rows
  free_count hs ps = simp length-map

  -- free lots are read off the rows with free lots
  pub free_is : (s : Series) (d : Side) (rows : List Holding) → rows ≡ full 128 empty_holding (free_rows (holdings_of b) (pairs_of b)) → lots_on d (holding_in (take b.held rows) s) ≡ free b s d
  unfolding free total
  free_is s d rows is =
      let sound = sound_is b e in
      let count : length (free_rows (holdings_of b) (pairs_of b)) ≡ b.held = free_count (holdings_of b) (pairs_of b) ∙ holdings_count sound in
      let take_is : take b.held rows ≡ free_rows (holdings_of b) (pairs_of b) = ap (take b.held) is ∙ ap (λ (n : ℕ). take n (full 128 empty_holding (free_rows (holdings_of b) (pairs_of b)))) (sym count) ∙ take_full 128 empty_holding (free_rows (holdings_of b) (pairs_of b)) in
      ap (λ (l : List Holding). lots_on d (holding_in l s)) take_is ∙ free_lots (holdings_of b) (pairs_of b) s d

  module _ (rows : List Holding) (are : rows ≡ full 128 empty_holding (free_rows (holdings_of b) (pairs_of b))) where
    pub close_number : (s : Series) (d : Side) (n : ℕ) {r : ℕ} (h : Holding) → h ≡ holding_in (take b.held rows) s → r ≡ or_else (series_number s) (pick (lots_fit n) (pick (leb n (lots_on d h)) 0 9) 6) → r ≡ first_failing (close_checks b s d n)
    unfolding close_checks book_checks first_failing
    close_number s d n h is q = q ∙ rw (is, free_is s d rows are, e) (sym (series_then s _))

    pub pair_number_lem : (p : Pair) {r : ℕ} (h k : Holding) (q : Pair) → h ≡ holding_in (take b.held rows) (first_leg p).series → k ≡ holding_in (take b.held rows) (second_leg p).series → q ≡ pair_in (pairs_of b) p → r ≡ or_else (series_number p.first) (or_else (series_number p.second) (pair_rest p (leb (first_leg p).lots (lots_on (first_leg p).side h)) (leb (second_leg p).lots (lots_on (second_leg p).side k)) (either (not (no_units q)) (ltb b.paired 128)))) → r ≡ first_failing (pairing_checks b p)
    unfolding pairing_checks book_checks first_failing leg_free
    pair_number_lem p h k q ish isk isq z =
        let g = pairs_good (sound_is b e) in
        z
        ∙ rw (ish, isk, isq, free_is (first_leg p).series (first_leg p).side rows are, free_is (second_leg p).series (second_leg p).side rows are, ← stands_paired (pairs_of b) p g, e)
        (sym (series_then p.first _ ∙ ap (or_else (series_number p.first)) (series_then p.second _ ∙ ap (λ (m : ℕ). or_else (series_number p.second) (pick (counts_fit p.r1 p.r2 p.units) m 6)) (pair_then p.kind p.first p.second p.r1 p.r2 _))))

  pub split_number : (p : Pair) {r : ℕ} (q : Pair) → q ≡ pair_in (pairs_of b) p → r ≡ or_else (series_number p.first) (or_else (series_number p.second) (pick (counts_fit p.r1 p.r2 p.units) (pick (leb p.units q.units) 0 12) 6)) → r ≡ first_failing (split_checks b p)
  unfolding split_checks book_checks first_failing units_of
  split_number p q is z = z ∙ rw (is, e) (sym (series_then p.first _ ∙ ap (or_else (series_number p.first)) (series_then p.second _)))

  pub turn_number : (day : ℕ) {r : ℕ} → r ≡ pick (is_day day) (pick (ltb b.day day) 0 13) 5 → r ≡ first_failing (turn_checks b day)
  unfolding turn_checks book_checks first_failing
  turn_number day q = q ∙ rw e

-- The numbers of the calls on any book, check by check.
pub open_says : (b : Book) (s : Series) (d : Side) (n : ℕ) → first_failing (open_checks b s d n) ≡ pick (sound_book b) (or_else (series_number s) (pick (lots_fit n) (pick (leb (lots_on d (held_of (holdings_of b) s) + n) 100000) (pick (either (not (no_lots (held_of (holdings_of b) s))) (ltb b.held 128)) 0 8) 7) 6)) 16
open_says b s d n =
    picked (λ (m : ℕ). first_failing (open_checks b s d n) ≡ m) (sound_book b) _ 16
    (λ e. sym (open_number b e s d n (held_of (holdings_of b) s) refl refl))
    (λ e. sym (open_unsound b e s d n))

pub close_says : (b : Book) (s : Series) (d : Side) (n : ℕ) → first_failing (close_checks b s d n) ≡ pick (sound_book b) (or_else (series_number s) (pick (lots_fit n) (pick (leb n (free b s d)) 0 9) 6)) 16
unfolding close_checks book_checks first_failing
close_says b s d n = ap (λ (m : ℕ). pick (sound_book b) m 16) (series_then s _)

pub pair_says : (b : Book) (p : Pair) → first_failing (pairing_checks b p) ≡ pick (sound_book b) (or_else (series_number p.first) (or_else (series_number p.second) (pick (counts_fit p.r1 p.r2 p.units) (or_else (pair_number p.kind p.first p.second p.r1 p.r2) (pick (both (leg_free b (first_leg p)) (leg_free b (second_leg p))) (pick (either (not (no_units (pair_in (pairs_of b) p))) (ltb b.paired 128)) 0 11) 9)) 6))) 16
unfolding pairing_checks book_checks first_failing
pair_says b p =
    picked (λ (m : ℕ). first_failing (pairing_checks b p) ≡ m) (sound_book b) _ 16
    (λ e.
    rw (← stands_paired (pairs_of b) p (pairs_good (sound_is b e)), e)
    (series_then p.first _ ∙ ap (or_else (series_number p.first)) (series_then p.second _ ∙ ap (λ (m : ℕ). or_else (series_number p.second) (pick (counts_fit p.r1 p.r2 p.units) m 6)) (pair_then p.kind p.first p.second p.r1 p.r2 _))))
    (λ e. sym (pair_unsound b e p))

pub split_says : (b : Book) (p : Pair) → first_failing (split_checks b p) ≡ pick (sound_book b) (or_else (series_number p.first) (or_else (series_number p.second) (pick (counts_fit p.r1 p.r2 p.units) (pick (leb p.units (pair_in (pairs_of b) p).units) 0 12) 6))) 16
unfolding split_checks book_checks first_failing units_of
split_says b p = ap (λ (m : ℕ). pick (sound_book b) m 16) (series_then p.first _ ∙ ap (or_else (series_number p.first)) (series_then p.second _))

pub turn_says : (b : Book) (day : ℕ) → first_failing (turn_checks b day) ≡ pick (sound_book b) (pick (is_day day) (pick (ltb b.day day) 0 13) 5) 16
turn_says b day =
    picked (λ (m : ℕ). first_failing (turn_checks b day) ≡ m) (sound_book b) _ 16
    (λ e. sym (turn_number b e day refl))
    (λ e. sym (turn_unsound b e day))

-- Where no check fails the row can be kept.
module _ {b : Book} {s : Series} {d : Side} {n : ℕ} where
  pub open_keeping : Opens b s d n → Keeping empty_holding holding_rank b.held b.holdings (added d n (held_of (holdings_of b) s))
  unfolding holdings_of
  open_keeping o =
      let h = o.sound.holdings_sound_lem in
      record { few = h.few; counted = h.counted; filled = h.filled; in_order_lem = h.in_order_lem; room = rw (opened_rank (holdings_of b) s d n) o.room }

  pub close_keeping : Closes b s d n → Keeping empty_holding holding_rank b.held b.holdings (lessened d n (held_of (holdings_of b) s))
  unfolding holdings_of free
  close_keeping o =
      let h = o.sound.holdings_sound_lem in
      let some = o.some in
      let enough = o.enough in
      record { few = h.few; counted = h.counted; filled = h.filled; in_order_lem = h.in_order_lem; room = rw (closed_rank (holdings_of b) s d n, lots_stand (holdings_of b) s d (omega arith)) }

module _ {b : Book} {p : Pair} where
  pub pair_keeping : Pairs b p → (n : ℕ) → Keeping empty_pair pair_rank b.paired b.pairs (with_units n p)
  unfolding pairs_of pair_rank
  pair_keeping o n =
      let h = o.sound.pairs_sound_lem in
      record { few = h.few; counted = h.counted; filled = h.filled; in_order_lem = h.in_order_lem; room = o.room }

  pub split_keeping : Splits b p → (n : ℕ) → Keeping empty_pair pair_rank b.paired b.pairs (with_units n p)
  unfolding pairs_of pair_rank
  split_keeping o n =
      let h = o.sound.pairs_sound_lem in
      let some = (counts_are p.r1 p.r2 p.units o.counts).some_units in
      let enough = o.enough in
      record { few = h.few; counted = h.counted; filled = h.filled; in_order_lem = h.in_order_lem; room = rw (units_stand (pairs_of b) p (omega arith)) }

-- The rows that keeping makes are the book's.
pub holdings_kept : (b : Book) (h : Holding) (rows : List Holding) (held : ℕ) → KeptIs empty_holding holding_rank no_lots b.held b.holdings h rows held → held_rows b rows held ≡ with_holdings b (kept holding_rank no_lots h (holdings_of b))
unfolding with_holdings holdings_of
holdings_kept b h rows held k = λ i. held_rows b (k.rows_are i) (k.count_is i)

pub pairs_kept : (b : Book) (p : Pair) (rows : List Pair) (paired : ℕ) → KeptIs empty_pair pair_rank no_units b.paired b.pairs p rows paired → paired_rows b rows paired ≡ with_pairs b (kept pair_rank no_units p (pairs_of b))
unfolding with_pairs pairs_of
pairs_kept b p rows paired k = λ i. paired_rows b (k.rows_are i) (k.count_is i)
