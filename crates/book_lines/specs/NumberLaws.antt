-- Laws of a line's number: what the code works out, test by test, is the number of the first check that fails.
use Rattle.std.specs.Prelude.{◌≡◌, refl, Bool, true, false, not, List, [], ◌∷◌, ◌++◌, ℕ, ltb, eqb}
use Rattle.std.proofs.Math.Path.{ap}
use Rattle.std.proofs.Common.{sym, ◌∙◌}
use Rattle.laws.specs.Truth.{pick, both}
use Rattle.laws.specs.TruthLaws.{both_true}
use Rattle.laws.specs.Checks.{Check, ◌unless◌, first_failing, all_pass, numbered, or_else}
use Rattle.laws.specs.CheckLaws.{first_of_two}
use Rattle.lists.specs.Sorted.{after}
use Rattle.dates.specs.Calendar.{is_day}
use Rattle.codes.specs.Codes.{known}
use Rattle.series.specs.declared.Series.{Series}
use Rattle.series.specs.Checks.{suits, class_of, series_checks, series_number, good_series}
use Rattle.series.specs.CheckLaws.{series_whole}
use Rattle.pairing.specs.Rules.{parts_of, pair_checks, pair_number, may_stand}
use Rattle.pairing.specs.PairLaws.{pairs_numbered}
use Rattle.rows.specs.declared.Holding.{Holding}
use Rattle.rows.specs.declared.Pair.{Pair}
use Rattle.rows.specs.Rows.{holding_rank, pair_rank}
use Rattle.rules.specs.Rules.{counts_fit, good_lots}
use Rattle.book_lines.specs.declared.Item.{Item}
use Rattle.book_lines.specs.Lines.{Line, head, holding, pair, formless, checks_by}
use Rattle.book_lines.specs.Facts.{item, holding_of, pair_of, line_of, order_behind, room_behind, number_behind, worse, both_number, pair_number_by}
use Rattle.book_lines.specs.LetterLaws.{by_letters, says_head, says_holding, says_pair, says_nothing}

-- a series' number by its three tests
abbrev number_by : Bool → Bool → Bool → ℕ
number_by k d s = pick k (pick d (pick s 0 2) 5) 4

-- One series and then the totals: both are 2.
series_then : (k d s l : Bool) (rest : ℕ) → or_else (number_by k d s) (pick l rest 2) ≡ pick k (pick d (pick (both s l) rest 2) 5) 4
series_then false d s l rest = refl
series_then true false s l rest = refl
series_then true true false l rest = refl
series_then true true true l rest = refl

-- Two series: 4 of either, then 5 of either, then 2 of either.
two_series : (k d s k' d' s' : Bool) (rest : ℕ) → or_else (worse (number_by k d s) (number_by k' d' s')) rest ≡ pick (both k k') (pick (both d d') (pick (both s s') rest 2) 5) 4
two_series false d s k' d' s' rest = refl
two_series true false s false d' s' rest = refl
two_series true false s true false s' rest = refl
two_series true false s true true false rest = refl
two_series true false s true true true rest = refl
two_series true true false false d' s' rest = refl
two_series true true false true false s' rest = refl
two_series true true false true true false rest = refl
two_series true true false true true true rest = refl
two_series true true true false d' s' rest = refl
two_series true true true true false s' rest = refl
two_series true true true true true false rest = refl
two_series true true true true true true rest = refl

-- A pair that may not stand is refused by 10, whatever it misses.
by_ten : (k c n d s r : Bool) → pick {A = ℕ} (both k (both c (both n (both d (both s (both r true)))))) 0 10 ≡ pick k (pick c (pick n (pick d (pick s (pick r 0 10) 10) 10) 10) 10) 10
by_ten false c n d s r = refl
by_ten true false n d s r = refl
by_ten true true false d s r = refl
by_ten true true true false s r = refl
by_ten true true true true false r = refl
by_ten true true true true true false = refl
by_ten true true true true true true = refl

pub allowed_number : (kind : ℕ) (a b : Series) (r1 r2 : ℕ) → pick {A = ℕ} (may_stand kind a b r1 r2) 0 10 ≡ pair_number kind a b r1 r2
unfolding may_stand pair_number pair_checks first_failing all_pass
allowed_number kind a b r1 r2 =
    let p = parts_of kind a b r1 r2 in by_ten p.kind p.codes p.natures p.dates p.strikes p.ratio

-- Of a line of each letter.
module _ (first in_order room free : Bool) where
  pub holding_number_is : (h : Holding) → pick (not first) (or_else (series_number h.series) (pick (good_lots h) (pick in_order (pick room 0 8) 3) 2)) 1 ≡ first_failing (checks_by first in_order room free (holding h))
  unfolding checks_by series_number series_checks first_failing
  holding_number_is h =
      ap (λ (n : ℕ). pick (not first) n 1) (series_then (known (class_of h.series)) (is_day h.series.date) (suits (class_of h.series) h.series.nature) _ _)

  -- the last checks of an M line
  abbrev last_checks : List Check
  last_checks = 3 unless in_order ∷ 11 unless room ∷ 9 unless free ∷ []

  pub pair_number_is : (p : Pair) → pick (not first) (or_else (worse (series_number p.first) (series_number p.second)) (pick (counts_fit p.r1 p.r2 p.units) (or_else (pair_number p.kind p.first p.second p.r1 p.r2) (pick in_order (pick room (pick free 0 9) 11) 3)) 6)) 1 ≡ first_failing (checks_by first in_order room free (pair p))
  unfolding checks_by pair_number series_number series_checks first_failing
  pair_number_is p =
      ap (λ (n : ℕ). pick (not first) n 1)
      (two_series (known (class_of p.first)) (is_day p.first.date) (suits (class_of p.first) p.first.nature) (known (class_of p.second)) (is_day p.second.date) (suits (class_of p.second) p.second.nature) _
      ∙ ap (λ (n : ℕ). pick (both (known (class_of p.first)) (known (class_of p.second))) (pick (both (is_day p.first.date) (is_day p.second.date)) (pick (both (suits (class_of p.first) p.first.nature) (suits (class_of p.second) p.second.nature)) (pick (counts_fit p.r1 p.r2 p.units) n 6) 2) 5) 4)
      (sym (first_of_two (pair_checks (parts_of p.kind p.first p.second p.r1 p.r2)) last_checks (pairs_numbered (parts_of p.kind p.first p.second p.r1 p.r2)))))

  pub pair_checks_are : (p : Pair) → pair_number_by first in_order room free p ≡ first_failing (checks_by first in_order room free (pair p))
  unfolding both_number
  pair_checks_are p = pair_number_is p

-- So the number of a line that letter and items say is that of its letter's line.
module _ {letter : ℕ} (items : List Item) (first : Bool) (last : Holding) (held : ℕ) (newest : Pair) (paired : ℕ) (free : Bool) where
  pub head_numbered : {n : ℕ} → letter ≡ 65 → n ≡ first_failing (checks_by first true true true (head 0 (item items 1).number (item items 2).number)) → n ≡ number_behind first last held newest paired free (line_of letter items)
  unfolding number_behind checks_by
  head_numbered l e = rw (says_head items l) e

  pub holding_numbered : {n : ℕ} → letter ≡ 72 → {h : Holding} → h ≡ holding_of items → n ≡ first_failing (checks_by first (both (eqb paired 0) (after holding_rank held last h)) (ltb held 128) true (holding h)) → n ≡ number_behind first last held newest paired free (line_of letter items)
  unfolding number_behind checks_by order_behind room_behind
  holding_numbered l is e = rw (says_holding items l) (rw is at e)

  pub pair_numbered : {n : ℕ} → letter ≡ 77 → {p : Pair} → p ≡ pair_of items → n ≡ first_failing (checks_by first (after pair_rank paired newest p) (ltb paired 128) free (pair p)) → n ≡ number_behind first last held newest paired free (line_of letter items)
  unfolding number_behind order_behind room_behind
  pair_numbered l is e = rw (says_pair items l) (rw is at e)

  pub unsaid_numbered : (letter ≡ 65 → ⊥) → (letter ≡ 72 → ⊥) → (letter ≡ 77 → ⊥) → 1 ≡ number_behind first last held newest paired free (line_of letter items)
  unfolding number_behind checks_by first_failing
  unsaid_numbered x y z = rw (says_nothing items x y z)

-- Each check refuses by a number that is not 0.
pub checks_numbered : (first in_order room free : Bool) (x : Line) → numbered (checks_by first in_order room free x) ≡ true
unfolding checks_by pair_checks numbered
checks_numbered first in_order room free (head account identity day) = refl
checks_numbered first in_order room free (holding h) = refl
checks_numbered first in_order room free (pair p) = refl
checks_numbered first in_order room free formless = refl

-- Whether lots are free is looked at last: it counts only of an M line of two good series, and of no other line.
only_where : (t : Bool) (n x y : ℕ) → (t ≡ true → x ≡ y) → pick t x n ≡ pick t y n
only_where true n x y h = h refl
only_where false n x y h = refl

module _ (first in_order room : Bool) {f g : Bool} where
  free_last : (p : Pair) → (good_series p.first ≡ true → good_series p.second ≡ true → f ≡ g) → first_failing (checks_by first in_order room f (pair p)) ≡ first_failing (checks_by first in_order room g (pair p))
  unfolding checks_by first_failing
  free_last p same =
      only_where (not first) 1 _ _
      (λ q. only_where (both (known (class_of p.first)) (known (class_of p.second))) 4 _ _
      (λ k. only_where (both (is_day p.first.date) (is_day p.second.date)) 5 _ _
      (λ d. only_where (both (suits (class_of p.first) p.first.nature) (suits (class_of p.second) p.second.nature)) 2 _ _
      (λ s.
      let ks = both_true (known (class_of p.first)) _ k in
      let ds = both_true (is_day p.first.date) _ d in
      let ss = both_true (suits (class_of p.first) p.first.nature) _ s in
      ap (λ (z : Bool). pick (counts_fit p.r1 p.r2 p.units) (first_failing (pair_checks (parts_of p.kind p.first p.second p.r1 p.r2) ++ (3 unless in_order ∷ 11 unless room ∷ 9 unless z ∷ []))) 6)
      (same (series_whole p.first ks.0 ds.0 ss.0) (series_whole p.second ks.1 ds.1 ss.1))))))

  pub free_counts : (letter : ℕ) (items : List Item) → (letter ≡ 77 → good_series (pair_of items).first ≡ true → good_series (pair_of items).second ≡ true → f ≡ g) → first_failing (checks_by first in_order room f (line_of letter items)) ≡ first_failing (checks_by first in_order room g (line_of letter items))
  unfolding checks_by
  free_counts letter items same =
      by_letters letter (first_failing (checks_by first in_order room f (line_of letter items)) ≡ first_failing (checks_by first in_order room g (line_of letter items)))
      (λ l. rw (says_head items l))
      (λ l. rw (says_holding items l))
      (λ l. rw (says_pair items l) (free_last (pair_of items) (same l)))
      (λ x y z. rw (says_nothing items x y z))
