-- Laws of pair and split: what they do to the lots of every series and side and to the units of every pair, and that a sound book
-- stays sound.
use Rattle.std.specs.Prelude.{◌≡◌, refl, Bool, ℕ, ◌+◌, ◌-◌, ◌≤◌, ltb, length}
use Rattle.std.proofs.Math.Path.{ap}
use Rattle.std.proofs.Common.{sym, ◌∙◌, subst}
use Rattle.std.proofs.Math.Bool.{true}
use mathlib.Core.List.{List}
use native.Mathlib.Omega.{arith}
use Rattle.laws.specs.Truth.{pick, either}
use Rattle.laws.specs.TruthLaws.{by_test}
use Rattle.laws.specs.Search.{every_line}
use Rattle.lists.specs.Sorted.{ascending, stands, kept}
use Rattle.lists.specs.SortedLaws.{kept_ascends, kept_every}
use Rattle.lists.proofs.FitLaws.{kept_fits}
use Rattle.series.specs.declared.Series.{Series}
use Rattle.series.specs.declared.Side.{Side}
use Rattle.rows.specs.declared.Holding.{Holding}
use Rattle.rows.specs.declared.Pair.{Pair}
use Rattle.rows.specs.declared.Book.{Book}
use Rattle.rows.specs.Rows.{pair_rank, same_pair, no_units, with_units, empty_pair}
use Rattle.rows.specs.Book.{holdings_of, pairs_of, with_pairs}
use Rattle.rows.specs.BookLaws.{new_pairs, same_holdings}
use Rattle.rules.specs.Lots.{tied_by, tied, total, free, units_of}
use Rattle.rules.specs.Rules.{good_pair}
use Rattle.rules.specs.Facts.{Sound}
use Rattle.rules.specs.RuleLaws.{sound_full, holdings_good, pairs_good, pairs_order, pairs_count, counts_are}
use Rattle.calls.specs.Calls.{joined, parted}
use Rattle.calls.specs.HeldLaws.{total_fits}
use Rattle.calls.specs.PairedLaws.{one_pair, units_stand, units_of_one, joined_tied, parted_tied, joined_units, parted_units, pair_fits, joined_good, parted_good}
use Rattle.calls.specs.Facts.{Pairs, Splits}

units_rank : (n : ℕ) (p : Pair) → pair_rank (with_units n p) ≡ pair_rank p
unfolding pair_rank
units_rank n p = refl

-- A sound book with other pairs, which its holdings cover.
pub sound_pairs : (b : Book) (ps : List Pair) → Sound b → length ps ≤ 128 → every_line good_pair ps ≡ true → ascending pair_rank ps ≡ true → ((s : Series) (d : Side) → tied ps s d ≤ total (holdings_of b) s d) → Sound (with_pairs b ps)
unfolding with_pairs holdings_of
sound_pairs b ps s few g a never =
    record {
      account_fits_lem = s.account_fits_lem;
      identity_is = s.identity_is;
      day_is = s.day_is;
      holdings_sound_lem = s.holdings_sound_lem;
      pairs_sound_lem = sound_full empty_pair good_pair pair_rank ps few g a;
      never_negative = λ t d. subst (λ (l : List Pair). tied l t d ≤ total (holdings_of b) t d) (sym (new_pairs b ps)) (never t d);
    }

-- Pair: the lots of its two legs, which are free, are tied, and no others.
module _ {b : Book} {p : Pair} (o : Pairs b p) where
  pub pair_total : (t : Series) (e : Side) → total (holdings_of (joined b p)) t e ≡ total (holdings_of b) t e
  unfolding joined
  pair_total t e = ap (λ (l : List Holding). total l t e) (same_holdings b _)

  pub pair_tied : (t : Series) (e : Side) → tied (pairs_of (joined b p)) t e ≡ tied (pairs_of b) t e + tied_by t e p
  unfolding joined
  pair_tied t e =
      ap (λ (l : List Pair). tied l t e) (new_pairs b _)
      ∙ joined_tied (pairs_of b) p (pairs_order o.sound) (pairs_good o.sound) o.first_good o.second_good t e

  pub pair_units_lem : (q : Pair) → units_of (pairs_of (joined b p)) q ≡ units_of (pairs_of b) q + pick (same_pair p q) p.units 0
  unfolding joined
  pair_units_lem q =
      ap (λ (l : List Pair). units_of l q) (new_pairs b _)
      ∙ joined_units (pairs_of b) p (pairs_order o.sound) q

  -- what is tied was free
  pub pair_enough : (t : Series) (e : Side) → tied (pairs_of b) t e + tied_by t e p ≤ total (holdings_of b) t e
  pair_enough = pair_fits (holdings_of b) (pairs_of b) p o.sound.never_negative o.first_good o.second_good o.allowed o.first_free o.second_free

  pub pair_free : (t : Series) (e : Side) → free (joined b p) t e ≡ free b t e - tied_by t e p
  unfolding free
  pair_free t e = let x = pair_total t e in let y = pair_tied t e in omega arith

  pub pair_sound : Sound (joined b p)
  unfolding joined
  pair_sound =
      let ps = pairs_of b in
      let hs = holdings_of b in
      let x = with_units (units_of ps p + p.units) p in
      let a = pairs_order o.sound in
      let g = pairs_good o.sound in
      let count = pairs_count o.sound in
      let few = o.sound.pairs_sound_lem.few in
      sound_pairs b (kept pair_rank no_units x ps) o.sound
      (kept_fits pair_rank no_units p x ps a 128 (omega arith) (joined_room o.room))
      (kept_every pair_rank no_units p x ps a good_pair (λ q. joined_good hs ps p a g o.first_good o.second_good (λ s d. total_fits hs s d (holdings_good o.sound)) o.sound.never_negative o.counts o.allowed o.first_free o.second_free) g)
      (kept_ascends pair_rank no_units p x ps a)
      (λ t e. let y = joined_tied ps p a g o.first_good o.second_good t e in let z = pair_enough t e in omega arith)
    where
      joined_room : either (stands pair_rank (pair_rank p) (pairs_of b)) (ltb b.paired 128) ≡ true → either (stands pair_rank (pair_rank (with_units (units_of (pairs_of b) p + p.units) p)) (pairs_of b)) (ltb (length (pairs_of b)) 128) ≡ true
      joined_room e = rw (units_rank (units_of (pairs_of b) p + p.units) p, pairs_count o.sound) e

-- Split: the lots of its two legs are tied no more, and no others.
module _ {b : Book} {p : Pair} (o : Splits b p) where
  pub split_total : (t : Series) (e : Side) → total (holdings_of (parted b p)) t e ≡ total (holdings_of b) t e
  unfolding parted
  split_total t e = ap (λ (l : List Holding). total l t e) (same_holdings b _)

  pub split_tied : (t : Series) (e : Side) → tied (pairs_of (parted b p)) t e + tied_by t e p ≡ tied (pairs_of b) t e
  unfolding parted
  split_tied t e =
      ap (λ (l : List Pair). tied l t e + tied_by t e p) (new_pairs b _)
      ∙ parted_tied (pairs_of b) p (pairs_order o.sound) (pairs_good o.sound) o.first_good o.second_good o.enough t e

  pub split_units_lem : (q : Pair) → units_of (pairs_of (parted b p)) q ≡ units_of (pairs_of b) q - pick (same_pair p q) p.units 0
  unfolding parted
  split_units_lem q =
      ap (λ (l : List Pair). units_of l q) (new_pairs b _)
      ∙ parted_units (pairs_of b) p (pairs_order o.sound) q

  -- the units that leave stood
  pub split_enough : (q : Pair) → pick (same_pair p q) p.units 0 ≤ units_of (pairs_of b) q
  split_enough q =
      by_test (λ (t : Bool). same_pair p q ≡ t → pick t p.units 0 ≤ units_of (pairs_of b) q) (same_pair p q)
      (λ r e. let k = units_of_one (pairs_of b) p q (one_pair p q e) in let h = o.enough in omega arith)
      (λ r e. omega arith)
      refl

  pub split_free : (t : Series) (e : Side) → free (parted b p) t e ≡ free b t e + tied_by t e p
  unfolding free
  split_free t e = let x = split_total t e in let y = split_tied t e in let z = o.sound.never_negative t e in omega arith

  pub split_sound : Sound (parted b p)
  unfolding parted
  split_sound =
      let ps = pairs_of b in
      let x = with_units (units_of ps p - p.units) p in
      let a = pairs_order o.sound in
      let g = pairs_good o.sound in
      let count = pairs_count o.sound in
      let few = o.sound.pairs_sound_lem.few in
      let some = (counts_are p.r1 p.r2 p.units o.counts).some_units in
      let enough = o.enough in
      sound_pairs b (kept pair_rank no_units x ps) o.sound
      (kept_fits pair_rank no_units p x ps a 128 (omega arith) (parted_room (units_stand ps p (omega arith))))
      (kept_every pair_rank no_units p x ps a good_pair (λ q. parted_good (holdings_of b) ps p a g o.first_good o.second_good some enough q) g)
      (kept_ascends pair_rank no_units p x ps a)
      (λ t e. let y = parted_tied ps p a g o.first_good o.second_good o.enough t e in let z = o.sound.never_negative t e in omega arith)
    where
      parted_room : stands pair_rank (pair_rank p) (pairs_of b) ≡ true → either (stands pair_rank (pair_rank (with_units (units_of (pairs_of b) p - p.units) p)) (pairs_of b)) (ltb (length (pairs_of b)) 128) ≡ true
      parted_room e = rw (units_rank (units_of (pairs_of b) p - p.units) p, e)
