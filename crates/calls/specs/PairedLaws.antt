-- Laws of pair and split on lists: what is tied of every series and side and what units stand afterwards, and that good rows
-- stay good.
use Rattle.std.specs.Prelude.{◌≡◌, Bool, true, false, ℕ, zero, suc, ◌+◌, ◌-◌, ◌*◌, ◌≤◌, eqb}
use Rattle.std.proofs.Math.Path.{refl, ap, sym, subst}
use Rattle.std.proofs.Common.{◌∙◌, mul-add, mul-zero, one-mul, mul-le-mul}
use Rattle.std.proofs.Math.Logic.{⊎_elim}
use mathlib.Core.List.{List}
use native.Mathlib.Omega.{arith}
use Rattle.std.proofs.Math.ListN.{get_or}
use Rattle.std.proofs.lemmas.Bool.{eqb-false}
use Rattle.laws.specs.Truth.{pick, both}
use Rattle.laws.specs.TruthLaws.{by_test}
use Rattle.laws.specs.ByteLaws.{are_same}
use Rattle.laws.specs.Search.{every_line}
use Rattle.laws.specs.OrderLaws.{is_same_lem}
use Rattle.lists.specs.Sorted.{ascending, stands, look, kept}
use Rattle.lists.specs.SortedLaws.{look_none, look_read, look_every, look_kept, look_other, sum_kept}
use Rattle.series.specs.declared.Series.{Series}
use Rattle.series.specs.declared.Side.{Side}
use Rattle.series.specs.Checks.{good_series}
use Rattle.series.specs.Key.{key, series_order}
use Rattle.series.specs.KeyLaws.{same_series_lem}
use Rattle.pairing.specs.Rules.{may_stand}
use Rattle.pairing.specs.PairLaws.{legs_differ}
use Rattle.rows.specs.declared.Holding.{Holding}
use Rattle.rows.specs.declared.Pair.{Pair}
use Rattle.rows.specs.Rows.{series_rank, pair_rank, same_series, same_pair, new_of, no_units, with_units}
use Rattle.rows.specs.RowLaws.{no_units_lem}
use Rattle.rows.specs.Book.{pair_in}
use Rattle.rules.specs.Lots.{Leg, first_leg, second_leg, same_side, ties, tied_by, tied, total, units_of}
use Rattle.rules.specs.LotLaws.{one_rank, tied_of_one, total_of_one, ties_of_one, ties_own, ties_itself}
use Rattle.rules.specs.Rules.{counts_fit, good_pair}
use Rattle.rules.specs.Facts.{GoodPair}
use Rattle.rules.specs.RuleLaws.{counts_are, counts_back, pair_is, pair_back}
use Rattle.calls.specs.Facts.{finds}

-- Pairs that are one have one rank.
pub one_pair : (p q : Pair) → same_pair p q ≡ true → pair_rank p ≡ pair_rank q
unfolding same_pair
one_pair p q e = are_same (pair_rank p) (pair_rank q) e

-- Good series of one key are one series.
pub one_series : (a b : Series) → good_series a ≡ true → good_series b ≡ true → key a ≡ key b → a ≡ b
unfolding series_order
one_series a b ga gb e = same_series_lem a b ga gb (sym (is_same_lem e))

-- A good pair of the rank of p is p but for its units.
pub same_but_units : (q p : Pair) → GoodPair q → good_series p.first ≡ true → good_series p.second ≡ true → pair_rank q ≡ pair_rank p → q ≡ with_units q.units p
unfolding pair_rank
same_but_units q p g gf gs e =
    let k = ap (λ (l : List ℕ). get_or l 0 0) e in
    let f = one_series q.first p.first g.first_good gf (ap (λ (l : List ℕ). get_or l 1 0) e) in
    let s = one_series q.second p.second g.second_good gs (ap (λ (l : List ℕ). get_or l 2 0) e) in
    let r = ap (λ (l : List ℕ). get_or l 3 0) e in
    let t = ap (λ (l : List ℕ). get_or l 4 0) e in
    λ i. record { kind = k i; first = f i; second = s i; r1 = r i; r2 = t i; units = q.units }

module _ (ps : List Pair) (p : Pair) (g : every_line good_pair ps ≡ true) (gf : good_series p.first ≡ true) (gs : good_series p.second ≡ true) where
  -- What stands of the pair is p with the units that stand.
  pub standing_is : pair_in ps p ≡ with_units (units_of ps p) p
  unfolding pair_in units_of
  standing_is =
      by_test (λ (b : Bool). stands pair_rank (pair_rank p) ps ≡ b → pair_in ps p ≡ with_units (units_of ps p) p) (stands pair_rank (pair_rank p) ps)
      (λ q e.
      let h = look_every pair_rank good_pair (new_of p) (pair_rank p) ps g e in
      same_but_units (pair_in ps p) p (pair_is (pair_in ps p) h.0) gf gs h.1)
      (λ q e. let z = look_none pair_rank (new_of p) (pair_rank p) ps e in z ∙ ap (λ (r : Pair). with_units r.units p) (sym z))
      refl

  -- Where units stand, the row is good.
  pub standing_good : 1 ≤ units_of ps p → good_pair (with_units (units_of ps p) p) ≡ true
  unfolding pair_in units_of
  standing_good some =
      by_test (λ (b : Bool). stands pair_rank (pair_rank p) ps ≡ b → good_pair (with_units (units_of ps p) p) ≡ true) (stands pair_rank (pair_rank p) ps)
      (λ q e. subst (λ (r : Pair). good_pair r ≡ true) standing_is (look_every pair_rank good_pair (new_of p) (pair_rank p) ps g e).0)
      (λ q e. let z = ap (λ (r : Pair). r.units) (look_none pair_rank (new_of p) (pair_rank p) ps e) in absurd (omega arith))
      refl

pub units_stand : (ps : List Pair) (p : Pair) → 1 ≤ units_of ps p → stands pair_rank (pair_rank p) ps ≡ true
unfolding pair_in units_of
units_stand ps p some =
    by_test (λ (b : Bool). stands pair_rank (pair_rank p) ps ≡ b → stands pair_rank (pair_rank p) ps ≡ true) (stands pair_rank (pair_rank p) ps)
    (λ q e. e)
    (λ q e. let z = ap (λ (r : Pair). r.units) (look_none pair_rank (new_of p) (pair_rank p) ps e) in absurd (omega arith))
    refl

-- What a pair ties is in proportion to its units.
leg_sum : (b : Bool) (r m n : ℕ) → pick b (r * (m + n)) 0 ≡ pick b (r * m) 0 + pick b (r * n) 0
leg_sum true r m n = mul-add r m n
leg_sum false r m n = refl

ties_sum : (t : Series) (e : Side) (leg : Leg) (r m n : ℕ) → ties t e (record { series = leg.series; side = leg.side; lots = r * (m + n) }) ≡ ties t e (record { series = leg.series; side = leg.side; lots = r * m }) + ties t e (record { series = leg.series; side = leg.side; lots = r * n })
unfolding ties
ties_sum t e leg r m n = leg_sum (both (same_series leg.series t) (same_side leg.side e)) r m n

tied_sum : (t : Series) (e : Side) (m n : ℕ) (p : Pair) → tied_by t e (with_units (m + n) p) ≡ tied_by t e (with_units m p) + tied_by t e (with_units n p)
unfolding tied_by first_leg second_leg
tied_sum t e m n p =
    let a = ties_sum t e (first_leg p) p.r1 m n in
    let b = ties_sum t e (second_leg p) p.r2 m n in
    omega arith

no_lots_lem : (b : Bool) (r : ℕ) → pick b (r * 0) 0 ≡ 0
no_lots_lem true r = mul-zero r
no_lots_lem false r = refl

-- A pair of no units ties nothing.
pub tied_none : (t : Series) (e : Side) (p : Pair) → tied_by t e (new_of p) ≡ 0
unfolding tied_by ties first_leg second_leg
tied_none t e p = rw (no_lots_lem _ p.r1, no_lots_lem _ p.r2)

-- With the units of p that stand made n, what is tied changes by as much.
module _ (ps : List Pair) (p : Pair) (a : ascending pair_rank ps ≡ true) (g : every_line good_pair ps ≡ true) (gf : good_series p.first ≡ true) (gs : good_series p.second ≡ true) where
  kept_tied : (n : ℕ) (t : Series) (e : Side) → tied (kept pair_rank no_units (with_units n p) ps) t e + tied_by t e (with_units (units_of ps p) p) ≡ tied ps t e + tied_by t e (with_units n p)
  unfolding tied pair_rank pair_in
  kept_tied n t e =
      let stood = ap (tied_by t e) (standing_is ps p g gf gs) in
      let sum = sum_kept pair_rank no_units (new_of p) (with_units n p) ps a (tied_by t e) (tied_none t e p) (no_units_lem (with_units n p)) in
      omega arith

  -- Pair adds what it ties, and split takes it.
  pub joined_tied : (t : Series) (e : Side) → tied (kept pair_rank no_units (with_units (units_of ps p + p.units) p) ps) t e ≡ tied ps t e + tied_by t e p
  joined_tied t e =
      let k = kept_tied (units_of ps p + p.units) t e in
      let s = tied_sum t e (units_of ps p) p.units p in
      omega arith

  pub parted_tied : p.units ≤ units_of ps p → (t : Series) (e : Side) → tied (kept pair_rank no_units (with_units (units_of ps p - p.units) p) ps) t e + tied_by t e p ≡ tied ps t e
  parted_tied le t e =
      let k = kept_tied (units_of ps p - p.units) t e in
      let s = tied_sum t e (units_of ps p - p.units) p.units p in
      let back : units_of ps p - p.units + p.units ≡ units_of ps p = omega arith in
      let whole = ap (λ (n : ℕ). tied_by t e (with_units n p)) back in
      omega arith

  -- What stands of p is part of what is tied.
  standing_tied : (t : Series) (e : Side) → tied_by t e (with_units (units_of ps p) p) ≤ tied ps t e
  standing_tied t e = let k = kept_tied 0 t e in let z = tied_none t e p in omega arith

-- The units that stand of each kind, series, series and ratio.
pub units_of_one : (ps : List Pair) (p q : Pair) → pair_rank p ≡ pair_rank q → units_of ps p ≡ units_of ps q
unfolding units_of pair_in
units_of_one ps p q e = look_read pair_rank (λ (r : Pair). r.units) (pair_rank p) (new_of p) (new_of q) ps refl ∙ ap (λ (k : List ℕ). (look pair_rank (new_of q) k ps).units) e

module _ (ps : List Pair) (p : Pair) (a : ascending pair_rank ps ≡ true) where
  kept_units : (n : ℕ) (q : Pair) (m : ℕ) → (same_pair p q ≡ true → n ≡ m) → (same_pair p q ≡ false → units_of ps q ≡ m) → units_of (kept pair_rank no_units (with_units n p) ps) q ≡ m
  unfolding units_of pair_in pair_rank same_pair
  kept_units n q m mine other =
      by_test (λ (b : Bool). same_pair p q ≡ b → units_of (kept pair_rank no_units (with_units n p) ps) q ≡ m) (same_pair p q)
      (λ r e. units_of_one (kept pair_rank no_units (with_units n p) ps) q p (sym (one_pair p q e)) ∙ mine_is ∙ mine e)
      (λ r e. others e ∙ other e)
      refl
    where
      mine_is : units_of (kept pair_rank no_units (with_units n p) ps) p ≡ n
      mine_is = ap (λ (r : Pair). r.units) (look_kept pair_rank no_units (new_of p) (with_units n p) ps a (no_units_lem (with_units n p)))

      others : same_pair p q ≡ false → units_of (kept pair_rank no_units (with_units n p) ps) q ≡ units_of ps q
      others e = ap (λ (r : Pair). r.units) (look_other pair_rank no_units (new_of q) (with_units n p) ps a (pair_rank q) e)

  pub joined_units : (q : Pair) → units_of (kept pair_rank no_units (with_units (units_of ps p + p.units) p) ps) q ≡ units_of ps q + pick (same_pair p q) p.units 0
  joined_units q =
      kept_units (units_of ps p + p.units) q (units_of ps q + pick (same_pair p q) p.units 0)
      (λ e. let one = units_of_one ps p q (one_pair p q e) in rw e (omega arith))
      (λ e. rw e (omega arith))

  pub parted_units : (q : Pair) → units_of (kept pair_rank no_units (with_units (units_of ps p - p.units) p) ps) q ≡ units_of ps q - pick (same_pair p q) p.units 0
  parted_units q =
      kept_units (units_of ps p - p.units) q (units_of ps q - pick (same_pair p q) p.units 0)
      (λ e. let one = units_of_one ps p q (one_pair p q e) in rw e (omega arith))
      (λ e. rw e (omega arith))

-- A pair whose legs find their lots among the free ones leaves no more tied than there is.
module _ (hs : List Holding) (ps : List Pair) (p : Pair) (never : (s : Series) (d : Side) → tied ps s d ≤ total hs s d) (gf : good_series p.first ≡ true) (gs : good_series p.second ≡ true) (may : may_stand p.kind p.first p.second p.r1 p.r2 ≡ true) where
  leg_fits : (leg : Leg) (t : Series) (e : Side) → finds hs ps leg → tied ps t e + ties t e leg ≤ total hs t e
  leg_fits leg t e f =
      ⊎_elim (λ z. let n = never t e in omega arith)
      (λ m.
      let k = one_rank leg.series t m.0 in
      let tie = tied_of_one ps leg.side leg.series t k in
      let tot = total_of_one hs leg.side leg.series t k in
      let own = ties_of_one leg.side leg leg.series t k in
      let itself = ties_itself leg in
      let n = never t leg.side in
      let v : tied ps t leg.side + ties t leg.side leg ≤ total hs t leg.side = omega arith in
      subst (λ (c : Side). tied ps t c + ties t c leg ≤ total hs t c) m.1 v)
      (ties_own t e leg)

  legs_apart : (t : Series) → same_series p.first t ≡ true → same_series p.second t ≡ true → ⊥
  unfolding series_rank
  legs_apart t e f =
      let k = one_rank p.first t e ∙ sym (one_rank p.second t f) in
      legs_differ p.kind p.first p.second p.r1 p.r2 may (one_series p.first p.second gf gs (ap (λ (l : List ℕ). get_or l 0 0) k))

  pub pair_fits : finds hs ps (first_leg p) → finds hs ps (second_leg p) → (t : Series) (e : Side) → tied ps t e + tied_by t e p ≤ total hs t e
  unfolding tied_by first_leg second_leg
  pair_fits f g t e =
      let a = leg_fits (first_leg p) t e f in
      let b = leg_fits (second_leg p) t e g in
      ⊎_elim (λ z. omega arith)
      (λ m. ⊎_elim (λ z. omega arith) (λ n. absurd (legs_apart t m.0 n.0)) (ties_own t e (second_leg p)))
      (ties_own t e (first_leg p))

le_refl : (n : ℕ) → n ≤ n
le_refl n = omega arith

sub_le : (m n : ℕ) → m - n ≤ m
sub_le m n = omega arith

some_left : (n : ℕ) → eqb n 0 ≡ false → 1 ≤ n
some_left n e = let h = eqb-false n 0 e in some_if n h
  where
    some_if : (n : ℕ) → (n ≡ 0 → ⊥) → 1 ≤ n
    some_if zero h = absurd (h refl)
    some_if (suc n) h = omega arith

-- every total is at most 100,000
abbrev pub every_total : List Holding → Type 0
every_total hs = (s : Series) (d : Side) → total hs s d ≤ 100000

-- The row that pair makes is good, and so is what split leaves.
module _ (hs : List Holding) (ps : List Pair) (p : Pair) (a : ascending pair_rank ps ≡ true) (g : every_line good_pair ps ≡ true) (gf : good_series p.first ≡ true) (gs : good_series p.second ≡ true) where
  -- the lots of a leg of all units that would stand
  whole_fits : (leg : Leg) (r : ℕ) → total hs leg.series leg.side ≤ 100000 → r * p.units ≤ total hs leg.series leg.side - tied ps leg.series leg.side → r * units_of ps p ≤ tied ps leg.series leg.side → tied ps leg.series leg.side ≤ total hs leg.series leg.side → r * (units_of ps p + p.units) ≤ 100000
  whole_fits leg r fits new old never = let e = mul-add r (units_of ps p) p.units in omega arith

  first_stands : p.r1 * units_of ps p ≤ tied ps (first_leg p).series (first_leg p).side
  unfolding tied_by first_leg second_leg
  first_stands =
      let k = standing_tied ps p a g gf gs (first_leg p).series (first_leg p).side in
      let own = ties_itself (first_leg (with_units (units_of ps p) p)) in
      omega arith

  second_stands : p.r2 * units_of ps p ≤ tied ps (second_leg p).series (second_leg p).side
  unfolding tied_by first_leg second_leg
  second_stands =
      let k = standing_tied ps p a g gf gs (second_leg p).series (second_leg p).side in
      let own = ties_itself (second_leg (with_units (units_of ps p) p)) in
      omega arith

  counts_with : (n : ℕ) → 1 ≤ p.r1 → p.r1 ≤ 100 → 1 ≤ p.r2 → p.r2 ≤ 100 → 1 ≤ n → p.r1 * n ≤ 100000 → p.r2 * n ≤ 100000 → counts_fit p.r1 p.r2 n ≡ true
  counts_with n s1 f1 s2 f2 some l1 l2 =
      let m1 = mul-le-mul s1 (le_refl n) in
      let m2 = mul-le-mul s2 (le_refl n) in
      let e = one-mul n in
      counts_back p.r1 p.r2 n
      (record { some1 = s1; few1 = f1; some2 = s2; few2 = f2; some_units = some; few_units = omega arith; some_lots1 = omega arith; few_lots1 = l1; some_lots2 = omega arith; few_lots2 = l2 })

  pub joined_good : every_total hs → ((s : Series) (d : Side) → tied ps s d ≤ total hs s d) → counts_fit p.r1 p.r2 p.units ≡ true → may_stand p.kind p.first p.second p.r1 p.r2 ≡ true → finds hs ps (first_leg p) → finds hs ps (second_leg p) → good_pair (with_units (units_of ps p + p.units) p) ≡ true
  unfolding first_leg second_leg
  joined_good fits never counts may f s =
      let c = counts_are p.r1 p.r2 p.units counts in
      let some = c.some_units in
      let l1 = whole_fits (first_leg p) p.r1 (fits (first_leg p).series (first_leg p).side) f first_stands (never (first_leg p).series (first_leg p).side) in
      let l2 = whole_fits (second_leg p) p.r2 (fits (second_leg p).series (second_leg p).side) s second_stands (never (second_leg p).series (second_leg p).side) in
      pair_back (with_units (units_of ps p + p.units) p)
      (record { first_good = gf; second_good = gs; counts = counts_with (units_of ps p + p.units) c.some1 c.few1 c.some2 c.few2 (omega arith) l1 l2; standing = may })

  pub parted_good : 1 ≤ p.units → p.units ≤ units_of ps p → no_units (with_units (units_of ps p - p.units) p) ≡ false → good_pair (with_units (units_of ps p - p.units) p) ≡ true
  parted_good some le left =
      let q = pair_is (with_units (units_of ps p) p) (standing_good ps p g gf gs (omega arith)) in
      let c = counts_are p.r1 p.r2 (units_of ps p) q.counts in
      let m1 = mul-le-mul (le_refl p.r1) (sub_le (units_of ps p) p.units) in
      let m2 = mul-le-mul (le_refl p.r2) (sub_le (units_of ps p) p.units) in
      let k1 = c.few_lots1 in
      let k2 = c.few_lots2 in
      let more : 1 ≤ units_of ps p - p.units = some_left (units_of ps p - p.units) left in
      pair_back (with_units (units_of ps p - p.units) p)
      (record { first_good = gf; second_good = gs; counts = counts_with (units_of ps p - p.units) c.some1 c.few1 c.some2 c.few2 more (omega arith) (omega arith); standing = q.standing })
