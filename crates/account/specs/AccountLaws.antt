-- Laws of the account's margin: with every row quoted once, the sums over rows by their place are the sums of the paper.
use Rattle.std.specs.Prelude.{◌≡◌, Bool, true, false, List, ℕ, ◌<◌, get_or, length, Option, None, Some}
use Rattle.std.proofs.Math.Path.{refl, sym, ap}
use Rattle.std.proofs.Common.{◌∙◌, arith, get_or-take}
use Rattle.std.proofs.Math.ListN.{length-map, get_or-append}
use Rattle.laws.specs.TruthLaws.{by_test, clash}
use Rattle.laws.specs.Search.{every_line, gathered}
use Rattle.laws.specs.SearchLaws.{every_append, every_at, every_gathered}
use Rattle.lists.specs.Places.{full}
use Rattle.levels.specs.declared.Levels.{Levels}
use Rattle.levels.specs.Ranges.{AtMost}
use Rattle.levels.specs.RangeLaws.{at_most_more}
use Rattle.rows.specs.declared.Holding.{Holding}
use Rattle.rows.specs.declared.Pair.{Pair}
use Rattle.rows.specs.declared.Book.{Book}
use Rattle.rows.specs.Rows.{empty_holding}
use Rattle.rows.specs.Book.{holdings_of, pairs_of}
use Rattle.rules.specs.Lots.{free_holding, free_rows}
use Rattle.rules.specs.Rules.{good_holding}
use Rattle.rules.specs.Facts.{Sound}
use Rattle.rules.specs.RuleLaws.{holding_is, holdings_count, holdings_good, pairs_count}
use Rattle.sheets.specs.LookupLaws.{map_says}
use Rattle.sound.specs.Walk.{no_row, no_pair, Walkable}
use Rattle.quotes.specs.declared.Quote.{Quote}
use Rattle.sheets.specs.View.{View}
use Rattle.quotes.specs.Quotes.{no_quote, on_sheet, quote_of}
use Rattle.account.specs.Needed.{needed_by_holding, needed_by_pair, needed_by}
use Rattle.account.specs.Margin.{plus, holding_margin, pair_margin, sum_levels, pays_c, account_margin}
use Rattle.account.specs.Walk.{Part, part_as, QuotesAre, all_below, sum_below, part_of, row_limit, pair_ready, ready_at, comes_at, pair_ready_at, pair_comes_at, PairStands}
use Rattle.account.specs.SumLaws.{one_fails, all_same, sum_same, sum_most, every_below, sum_below_lem}
use Rattle.account.specs.RowLaws.{holding_ready_lem, holding_most, holding_comes_lem, pair_ready_lem, pair_comes_lem, pair_most}
use Rattle.account.specs.LegLaws.{legs_found_lem}

-- What a sum that was answered says.
pub part_ready : (t : Bool) (l : Levels) {r : Part} → r ≡ part_of t l → r.ready ≡ t
unfolding part_of
part_ready t l e = ap (λ (r : Part). r.ready) e ∙ by_test (λ (b : Bool). (part_of b l).ready ≡ b) t (λ q. refl) (λ q. refl)

pub part_levels : (t : Bool) (l : Levels) {r : Part} → r ≡ part_of t l → t ≡ true → r.levels ≡ l
unfolding part_of
part_levels t l e h = ap (λ (r : Part). r.levels) e ∙ rw h refl

-- What an answer that is there says, and one that is not.
pub part_there : (t : Bool) (l : Levels) {o : Option Levels} {m : Levels} → part_as o ≡ part_of t l → o ≡ Some m → (t ≡ true) × (m ≡ l)
part_there t l {o} {m} h e =
    let is : part_as (Some m) ≡ part_of t l = sym (ap part_as e) ∙ h in
    let r = part_ready t l is in
    (sym r, part_levels t l is (sym r))

pub part_gone : (t : Bool) (l : Levels) (o : Option Levels) → part_as o ≡ part_of t l → ((m : Levels) → o ≡ Some m → ⊥) → t ≡ false
part_gone t l (Some m) h n = absurd (n m refl)
part_gone t l None h n = sym (part_ready t l h)

-- All that a test holds of: at every place.
below_at : (test : ℕ → Bool) (i n : ℕ) → all_below test n ≡ true → i < n → test i ≡ true
below_at test i n e lt =
    by_test (λ (b : Bool). test i ≡ b → b ≡ true) (test i) (λ q f. refl) (λ q f. absurd (clash e (one_fails test i n lt f))) refl

module _ {v : View} {b : Book} {quotes : List Quote} (s : Sound b) (q : QuotesAre v b.holdings b.held quotes) where
  -- The holdings' free lots.
  module _ {free : List Holding} (is : free ≡ full 128 empty_holding (free_rows (holdings_of b) (pairs_of b))) where
    count : length (free_rows (holdings_of b) (pairs_of b)) ≡ b.held
    unfolding free_rows
    count = length-map (holdings_of b) (free_holding (pairs_of b)) ∙ holdings_count s

    free_row : (i : ℕ) → i < b.held → get_or free i no_row ≡ get_or (free_rows (holdings_of b) (pairs_of b)) i no_row
    unfolding full
    free_row i lt = rw is (get_or-append (free_rows (holdings_of b) (pairs_of b)) _ no_row i (omega (arith, count)))

    row_is : (i : ℕ) → i < b.held → get_or free i no_row ≡ free_holding (pairs_of b) (get_or (holdings_of b) i no_row)
    unfolding free_rows
    row_is i lt = free_row i lt ∙ map_says (free_holding (pairs_of b)) no_row no_row (holdings_of b) i (omega (arith, holdings_count s))

    row_quote : (i : ℕ) → i < b.held → get_or quotes i no_quote ≡ quote_of v (get_or free i no_row).series
    unfolding free_holding holdings_of
    row_quote i lt = q.are i lt ∙ ap (λ (h : Holding). quote_of v h.series) (sym (get_or-take b.held b.holdings i no_row lt)) ∙ ap (λ (h : Holding). quote_of v h.series) (sym (row_is i lt))

    pub loose_most : (i : ℕ) → i < b.held → AtMost row_limit (comes_at free quotes i)
    unfolding comes_at free_holding
    loose_most i lt =
        let g = holding_is _ (every_at good_holding (holdings_of b) i no_row (holdings_good s) (omega (arith, holdings_count s))) in
        rw (row_quote i lt) (holding_most v (get_or free i no_row) (rw (row_is i lt) (omega (arith, g.long_fits))) (rw (row_is i lt) (omega (arith, g.short_fits))))

    pub loose_total : AtMost 1000000000000000000 (sum_below (comes_at free quotes) b.held)
    loose_total = let few = s.holdings_sound_lem.few in at_most_more (omega arith) (sum_most (comes_at free quotes) b.held loose_most)

    pub loose_ready : all_below (ready_at free quotes) b.held ≡ every_line (on_sheet v) (gathered needed_by_holding (free_rows (holdings_of b) (pairs_of b)))
    unfolding ready_at
    loose_ready =
        all_same _ _ b.held (λ i lt. rw (row_quote i lt) (holding_ready_lem v (get_or free i no_row)) ∙ ap (λ (h : Holding). every_line (on_sheet v) (needed_by_holding h)) (free_row i lt))
        ∙ ap (all_below (λ (i : ℕ). every_line (on_sheet v) (needed_by_holding (get_or (free_rows (holdings_of b) (pairs_of b)) i no_row)))) (sym count)
        ∙ every_below no_row (λ (h : Holding). every_line (on_sheet v) (needed_by_holding h)) (free_rows (holdings_of b) (pairs_of b))
        ∙ sym (every_gathered (on_sheet v) needed_by_holding (free_rows (holdings_of b) (pairs_of b)))

    pub loose_sum : sum_below (comes_at free quotes) b.held ≡ sum_levels (holding_margin v) (free_rows (holdings_of b) (pairs_of b))
    unfolding comes_at
    loose_sum =
        sum_same _ _ b.held (λ i lt. rw (row_quote i lt) (holding_comes_lem v (get_or free i no_row)) ∙ ap (holding_margin v) (free_row i lt))
        ∙ ap (sum_below (λ (i : ℕ). holding_margin v (get_or (free_rows (holdings_of b) (pairs_of b)) i no_row))) (sym count)
        ∙ sum_below_lem no_row (holding_margin v) (free_rows (holdings_of b) (pairs_of b))

  -- The pairs.
  pair_row : (j : ℕ) → j < b.paired → get_or b.pairs j no_pair ≡ get_or (pairs_of b) j no_pair
  unfolding pairs_of
  pair_row j lt = sym (get_or-take b.paired b.pairs j no_pair lt)

  module _ {firsts seconds : List ℕ} (l : Walkable b.holdings b.held b.pairs b.paired firsts seconds) where
    pub pairs_stand : (charged : Bool) (j : ℕ) → j < b.paired → PairStands quotes firsts seconds b.pairs charged j
    unfolding pair_comes_at
    pairs_stand charged j lt =
        let f = legs_found_lem s q l j lt in
        record {
          first_stands = f.first_stands;
          second_stands = f.second_stands;
          most = rw (f.first_quote, f.second_quote) (pair_most v charged (get_or b.pairs j no_pair) f.good);
        }

    pub tied_total : (charged : Bool) → AtMost 1000000000000000000 (sum_below (pair_comes_at quotes firsts seconds b.pairs charged) b.paired)
    unfolding pair_comes_at
    tied_total charged =
        let few = s.pairs_sound_lem.few in
        at_most_more (omega arith) (sum_most (pair_comes_at quotes firsts seconds b.pairs charged) b.paired (λ j lt. (pairs_stand charged j lt).most))

    ready_at_lem : (j : ℕ) → j < b.paired → pair_ready_at quotes firsts seconds b.pairs j ≡ pair_ready (get_or b.pairs j no_pair).kind (quote_of v (get_or b.pairs j no_pair).first) (quote_of v (get_or b.pairs j no_pair).second)
    unfolding pair_ready_at
    ready_at_lem j lt = let f = legs_found_lem s q l j lt in rw (f.first_quote, f.second_quote) refl

    pub tied_ready : all_below (pair_ready_at quotes firsts seconds b.pairs) b.paired ≡ every_line (on_sheet v) (gathered needed_by_pair (pairs_of b))
    tied_ready =
        all_same _ _ b.paired (λ j lt. ready_at_lem j lt ∙ pair_ready_lem v (get_or b.pairs j no_pair) ∙ ap (λ (p : Pair). every_line (on_sheet v) (needed_by_pair p)) (pair_row j lt))
        ∙ ap (all_below (λ (j : ℕ). every_line (on_sheet v) (needed_by_pair (get_or (pairs_of b) j no_pair)))) (sym (pairs_count s))
        ∙ every_below no_pair (λ (p : Pair). every_line (on_sheet v) (needed_by_pair p)) (pairs_of b)
        ∙ sym (every_gathered (on_sheet v) needed_by_pair (pairs_of b))

    pub tied_sum : (charged : Bool) → all_below (pair_ready_at quotes firsts seconds b.pairs) b.paired ≡ true → sum_below (pair_comes_at quotes firsts seconds b.pairs charged) b.paired ≡ sum_levels (pair_margin v charged) (pairs_of b)
    unfolding pair_comes_at
    tied_sum charged e =
        sum_same _ _ b.paired (λ j lt.
        let f = legs_found_lem s q l j lt in
        rw (f.first_quote, f.second_quote) (pair_comes_lem v charged (get_or b.pairs j no_pair) f.good (sym (ready_at_lem j lt) ∙ below_at _ j b.paired e lt)) ∙ ap (pair_margin v charged) (pair_row j lt))
        ∙ ap (sum_below (λ (j : ℕ). pair_margin v charged (get_or (pairs_of b) j no_pair))) (sym (pairs_count s))
        ∙ sum_below_lem no_pair (pair_margin v charged) (pairs_of b)

-- What both say together.
pub loose_missing : (v : View) (b : Book) → every_line (on_sheet v) (gathered needed_by_holding (free_rows (holdings_of b) (pairs_of b))) ≡ false → every_line (on_sheet v) (needed_by b) ≡ false
unfolding needed_by
loose_missing v b e = every_append (on_sheet v) (gathered needed_by_holding (free_rows (holdings_of b) (pairs_of b))) (gathered needed_by_pair (pairs_of b)) ∙ rw e refl

pub none_missing : (v : View) (b : Book) {t : Bool} → every_line (on_sheet v) (gathered needed_by_holding (free_rows (holdings_of b) (pairs_of b))) ≡ true → every_line (on_sheet v) (gathered needed_by_pair (pairs_of b)) ≡ t → every_line (on_sheet v) (needed_by b) ≡ t
unfolding needed_by
none_missing v b e f = every_append (on_sheet v) (gathered needed_by_holding (free_rows (holdings_of b) (pairs_of b))) (gathered needed_by_pair (pairs_of b)) ∙ rw (e, f) refl

pub account_sum : (v : View) (b : Book) {l m : Levels} → l ≡ sum_levels (holding_margin v) (free_rows (holdings_of b) (pairs_of b)) → m ≡ sum_levels (pair_margin v (pays_c b)) (pairs_of b) → plus l m ≡ account_margin v b
unfolding account_margin
account_sum v b e f = rw (e, f) refl
