-- Laws of lots: no more is tied than there is, leg by leg, pair by pair and for every series and side; and free lots are what
-- is left of the holdings when each leg has taken its own.
use Rattle.std.specs.Prelude.{◌≡◌, ◌⊎◌, Bool, true, ℕ, ◌+◌, ◌-◌, ◌≤◌, leb}
use Rattle.std.proofs.Math.Path.{refl}
use Rattle.std.proofs.Common.{ap, sym, ◌∙◌, subst}
use Rattle.std.proofs.Math.Logic.{inl, inr, ⊎_elim}
use mathlib.Core.List.{List, [], ◌∷◌, map}
use native.Mathlib.Omega.{arith}
use borrow.Author.Tests.{le-leb, leb-true}
use Rattle.laws.specs.Truth.{pick, both}
use Rattle.laws.specs.TruthLaws.{both_true, both_hold, clash, by_test, same_test}
use Rattle.laws.specs.Bytes.{same_bytes}
use Rattle.laws.specs.ByteLaws.{are_same, same_self}
use Rattle.laws.specs.Search.{every_line, first_where}
use Rattle.laws.specs.SearchLaws.{every_always}
use Rattle.lists.specs.Sorted.{sum_of, look}
use Rattle.lists.specs.SortedLaws.{look_read}
use Rattle.series.specs.declared.Series.{Series}
use Rattle.series.specs.declared.Side.{Side}
use Rattle.series.specs.declared.Side.TheVariants.{Long, Short}
use Rattle.rows.specs.declared.Holding.{Holding}
use Rattle.rows.specs.declared.Pair.{Pair}
use Rattle.rows.specs.Rows.{series_rank, holding_rank, same_series, new_holding, lots_on, lessened}
use Rattle.rows.specs.RowLaws.{lessened_series, lessened_rank}
use Rattle.rows.specs.Book.{holding_in}
use Rattle.rules.specs.Lots.{Leg, first_leg, second_leg, same_side, ties, tied_by, tied, total, free_holding, free_rows, leg_covered, pair_covered, covered}

-- Two series that are one have the same rank, and the other way round.
pub one_rank : (a b : Series) → same_series a b ≡ true → series_rank a ≡ series_rank b
unfolding same_series
one_rank a b e = are_same (series_rank a) (series_rank b) e

pub same_to_itself : (s : Series) → same_series s s ≡ true
unfolding same_series
same_to_itself s = same_self (series_rank s)

pub same_turned : (a b : Series) → same_series a b ≡ same_series b a
unfolding same_series
same_turned a b =
    same_test (same_series a b) (same_series b a)
    (λ e. subst (λ (k : List ℕ). same_bytes (series_rank b) k ≡ true) (sym (one_rank a b e)) (same_self (series_rank b)))
    (λ e. subst (λ (k : List ℕ). same_bytes (series_rank a) k ≡ true) (sym (one_rank b a e)) (same_self (series_rank a)))

pub same_sides : (d e : Side) → same_side d e ≡ true → d ≡ e
same_sides Long Long q = refl
same_sides Long Short q = absurd (clash q refl)
same_sides Short Long q = absurd (clash q refl)
same_sides Short Short q = refl

pub same_side_lem : (d : Side) → same_side d d ≡ true
same_side_lem Long = refl
same_side_lem Short = refl

pub same_of_one : (x a b : Series) → series_rank a ≡ series_rank b → same_series x a ≡ same_series x b
unfolding same_series
same_of_one x a b e = rw e

-- What is tied and what is held of a series goes by its rank.
pub ties_of_one : (d : Side) (leg : Leg) (a b : Series) → series_rank a ≡ series_rank b → ties a d leg ≡ ties b d leg
unfolding ties same_series
ties_of_one d leg a b e = rw e

pub tied_of_one : (ps : List Pair) (d : Side) (a b : Series) → series_rank a ≡ series_rank b → tied ps a d ≡ tied ps b d
unfolding tied sum_of tied_by
tied_of_one [] d a b e = refl
tied_of_one (p ∷ ps) d a b e = rw (ties_of_one d (first_leg p) a b e, ties_of_one d (second_leg p) a b e, tied_of_one ps d a b e)

pub new_lots : (d : Side) (s : Series) → lots_on d (new_holding s) ≡ 0
new_lots Long s = refl
new_lots Short s = refl

pub total_of_one : (hs : List Holding) (d : Side) (a b : Series) → series_rank a ≡ series_rank b → total hs a d ≡ total hs b d
unfolding total holding_in
total_of_one hs d a b e = rw e (look_read holding_rank (lots_on d) (series_rank b) (new_holding a) (new_holding b) hs (new_lots d a ∙ sym (new_lots d b)))

-- A leg that is of the series and side ties its lots, and no other does.
pub ties_own : (s : Series) (d : Side) (leg : Leg) → (ties s d leg ≡ 0) ⊎ ((same_series leg.series s ≡ true) × (leg.side ≡ d))
unfolding ties
ties_own s d leg =
    by_test (λ (x : Bool). same_series leg.series s ≡ x → (pick (both x (same_side leg.side d)) leg.lots 0 ≡ 0) ⊎ ((same_series leg.series s ≡ true) × (leg.side ≡ d))) (same_series leg.series s)
    (λ q e.
    by_test (λ (y : Bool). (pick y leg.lots 0 ≡ 0) ⊎ ((same_series leg.series s ≡ true) × (leg.side ≡ d))) (same_side leg.side d)
    (λ r. inr (e, same_sides leg.side d r))
    (λ r. inl refl))
    (λ q e. inl refl)
    refl

-- No more is tied than there is: said of the legs of pairs, it holds for every series and side.
module _ (hs : List Holding) (ps : List Pair) (s : Series) (d : Side) where
  leg_says : (leg : Leg) → leg_covered hs ps leg ≡ true → (ties s d leg ≡ 0) ⊎ (tied ps s d ≤ total hs s d)
  unfolding leg_covered
  leg_says leg e =
      ⊎_elim inl
      (λ m.
      let k = one_rank leg.series s m.0 in
      let t = tied_of_one ps leg.side leg.series s k in
      let u = total_of_one hs leg.side leg.series s k in
      let h = leb-true (tied ps leg.series leg.side) (total hs leg.series leg.side) e in
      let v : tied ps s leg.side ≤ total hs s leg.side = omega arith in
      inr (subst (λ (c : Side). tied ps s c ≤ total hs s c) m.1 v))
      (ties_own s d leg)

  pairs_say : (qs : List Pair) → every_line (pair_covered hs ps) qs ≡ true → (tied qs s d ≡ 0) ⊎ (tied ps s d ≤ total hs s d)
  unfolding every_line pair_covered tied sum_of tied_by
  pairs_say [] e = inl refl
  pairs_say (q ∷ qs) e =
      let h = both_true (pair_covered hs ps q) _ e in
      let k = both_true (leg_covered hs ps (first_leg q)) _ h.0 in
      ⊎_elim
      (λ a.
      ⊎_elim
      (λ b.
      ⊎_elim (λ c. inl (omega arith)) inr (pairs_say qs h.1))
      inr
      (leg_says (second_leg q) k.1))
      inr
      (leg_says (first_leg q) k.0)

pub covered_all : (hs : List Holding) (ps : List Pair) → covered hs ps ≡ true → (s : Series) (d : Side) → tied ps s d ≤ total hs s d
unfolding covered
covered_all hs ps e s d = ⊎_elim (λ z. omega arith) (λ h. h) (pairs_say hs ps s d ps e)

pub all_covered : (hs : List Holding) (ps : List Pair) → ((s : Series) (d : Side) → tied ps s d ≤ total hs s d) → covered hs ps ≡ true
unfolding covered pair_covered leg_covered
all_covered hs ps h =
    every_always (pair_covered hs ps) (λ p.
    rw (le-leb _ _ (h (first_leg p).series (first_leg p).side), le-leb _ _ (h (second_leg p).series (second_leg p).side))) ps

-- The legs of pairs, one after the other, and the holdings when a leg has taken its lots.
unfoldable pub legs_of : List Pair → List Leg
legs_of [] = []
legs_of (p ∷ ps) = first_leg p ∷ second_leg p ∷ legs_of ps

unfoldable pub taken_from : Leg → Holding → Holding
taken_from leg h = pick (same_series h.series leg.series) (lessened leg.side leg.lots h) h

unfoldable pub takes : Leg → List Holding → List Holding
takes leg hs = map (taken_from leg) hs

-- Leg after leg: each finds its lots in what the legs before it left.
unfoldable pub covers : List Holding → List Leg → Bool
covers hs [] = true
covers hs (leg ∷ ls) = both (leb leg.lots (total hs leg.series leg.side)) (covers (takes leg hs) ls)

unfoldable pub after_legs : List Holding → List Leg → List Holding
after_legs hs [] = hs
after_legs hs (leg ∷ ls) = after_legs (takes leg hs) ls

pub taken_rank : (leg : Leg) (h : Holding) → holding_rank (taken_from leg h) ≡ holding_rank h
unfolding taken_from
taken_rank leg h =
    by_test (λ (t : Bool). holding_rank (pick t (lessened leg.side leg.lots h) h) ≡ holding_rank h) (same_series h.series leg.series)
    (λ q. lessened_rank leg.side leg.lots h)
    (λ q. refl)

pub less_on : (d e : Side) (n : ℕ) (h : Holding) → lots_on e (lessened d n h) ≡ lots_on e h - pick (same_side d e) n 0
less_on Long Long n h = refl
less_on Long Short n h = omega arith
less_on Short Long n h = omega arith
less_on Short Short n h = refl

-- A leg ties its own lots, and of any series and side no more than there is where it finds its own.
pub ties_itself : (leg : Leg) → ties leg.series leg.side leg ≡ leg.lots
unfolding ties
ties_itself leg = rw (same_to_itself leg.series, same_side_lem leg.side)

tied_inside : (hs : List Holding) (leg : Leg) (s : Series) (d : Side) → leg.lots ≤ total hs leg.series leg.side → ties s d leg ≤ total hs s d
tied_inside hs leg s d le =
    ⊎_elim (λ z. omega arith)
    (λ m.
    let k = one_rank leg.series s m.0 in
    let u = total_of_one hs leg.side leg.series s k in
    let t = ties_of_one leg.side leg leg.series s k in
    let own = ties_itself leg in
    let v : ties s leg.side leg ≤ total hs s leg.side = omega arith in
    subst (λ (c : Side). ties s c leg ≤ total hs s c) m.1 v)
    (ties_own s d leg)

-- What is left of a holding is its lots less those that the leg ties.
left_of : (leg : Leg) (h : Holding) (s : Series) (d : Side) → holding_rank h ≡ series_rank s → lots_on d (taken_from leg h) ≡ lots_on d h - ties s d leg
unfolding taken_from ties holding_rank
left_of leg h s d e =
    let turn : same_series leg.series s ≡ same_series h.series leg.series = same_of_one leg.series s h.series (sym e) ∙ same_turned leg.series h.series in
    rw turn
    (by_test (λ (t : Bool). lots_on d (pick t (lessened leg.side leg.lots h) h) ≡ lots_on d h - pick (both t (same_side leg.side d)) leg.lots 0) (same_series h.series leg.series)
    (λ q. less_on leg.side d leg.lots h)
    (λ q. omega arith))

-- What is left of a series and side is its total less what the leg ties.
taken_total : (leg : Leg) (hs : List Holding) (s : Series) (d : Side) → total (takes leg hs) s d ≡ total hs s d - ties s d leg
unfolding total holding_in look first_where takes
taken_total leg [] s d = rw (new_lots d s) (omega arith)
taken_total leg (h ∷ hs) s d =
    rw (taken_rank leg h)
    (by_test (λ (t : Bool). lots_on d (pick t (taken_from leg h) (holding_in (takes leg hs) s)) ≡ lots_on d (pick t h (holding_in hs s)) - ties s d leg) (same_bytes (holding_rank h) (series_rank s))
    (λ q. left_of leg h s d (are_same (holding_rank h) (series_rank s) q))
    (λ q. taken_total leg hs s d))

-- So leg after leg finds its lots exactly where no more is tied than there is.
covers_all : (ls : List Leg) (hs : List Holding) → covers hs ls ≡ true → (s : Series) (d : Side) → sum_of (ties s d) ls ≤ total hs s d
unfolding covers sum_of
covers_all [] hs e s d = omega arith
covers_all (leg ∷ ls) hs e s d =
    let h = both_true (leb leg.lots (total hs leg.series leg.side)) _ e in
    let k = leb-true leg.lots (total hs leg.series leg.side) h.0 in
    let i = covers_all ls (takes leg hs) h.1 s d in
    let t = taken_total leg hs s d in
    let m = tied_inside hs leg s d k in
    omega arith

all_covers : (ls : List Leg) (hs : List Holding) → ((s : Series) (d : Side) → sum_of (ties s d) ls ≤ total hs s d) → covers hs ls ≡ true
unfolding covers sum_of
all_covers [] hs h = refl
all_covers (leg ∷ ls) hs h =
    let own = ties_itself leg in
    let here = h leg.series leg.side in
    let le : leg.lots ≤ total hs leg.series leg.side = omega arith in
    both_hold (le-leb _ _ le) (all_covers ls (takes leg hs) (λ s d. let t = taken_total leg hs s d in let q = h s d in omega arith))

legs_tied : (ps : List Pair) (s : Series) (d : Side) → sum_of (ties s d) (legs_of ps) ≡ tied ps s d
unfolding legs_of sum_of tied tied_by
legs_tied [] s d = refl
legs_tied (p ∷ ps) s d = let h = legs_tied ps s d in omega arith

pub covers_is : (hs : List Holding) (ps : List Pair) → covers hs (legs_of ps) ≡ covered hs ps
covers_is hs ps =
    same_test (covers hs (legs_of ps)) (covered hs ps)
    (λ e. all_covered hs ps (λ s d. let h = covers_all (legs_of ps) hs e s d in let t = legs_tied ps s d in omega arith))
    (λ e. all_covers (legs_of ps) hs (λ s d. let h = covered_all hs ps e s d in let t = legs_tied ps s d in omega arith))

-- And what leg after leg leaves are the free lots, holding by holding.
taken_series : (leg : Leg) (h : Holding) → (taken_from leg h).series ≡ h.series
unfolding taken_from
taken_series leg h =
    by_test (λ (t : Bool). (pick t (lessened leg.side leg.lots h) h).series ≡ h.series) (same_series h.series leg.series)
    (λ q. lessened_series leg.side leg.lots h)
    (λ q. refl)

unfoldable free_by : List Leg → Holding → Holding
free_by ls h = record { series = h.series; long = h.long - sum_of (ties h.series Long) ls; short = h.short - sum_of (ties h.series Short) ls }

free_next : (leg : Leg) (ls : List Leg) (h : Holding) → free_by ls (taken_from leg h) ≡ free_by (leg ∷ ls) h
unfolding free_by sum_of holding_rank
free_next leg ls h =
    let q = taken_series leg h in
    let a = left_of leg h h.series Long refl in
    let b = left_of leg h h.series Short refl in
    let l : (taken_from leg h).long - sum_of (ties (taken_from leg h).series Long) ls ≡ h.long - (ties h.series Long leg + sum_of (ties h.series Long) ls) = rw q (omega arith) in
    let s : (taken_from leg h).short - sum_of (ties (taken_from leg h).series Short) ls ≡ h.short - (ties h.series Short leg + sum_of (ties h.series Short) ls) = rw q (omega arith) in
    λ i. record { series = q i; long = l i; short = s i }

free_none : (h : Holding) → h ≡ free_by [] h
unfolding free_by sum_of
free_none h =
    let l : h.long ≡ h.long - 0 = omega arith in
    let s : h.short ≡ h.short - 0 = omega arith in
    λ i. record { series = h.series; long = l i; short = s i }

free_first : (hs : List Holding) → hs ≡ map (free_by []) hs
free_first [] = refl
free_first (h ∷ hs) = let p = free_none h in let q = free_first hs in λ i. p i ∷ q i

free_then : (leg : Leg) (ls : List Leg) (hs : List Holding) → map (free_by ls) (takes leg hs) ≡ map (free_by (leg ∷ ls)) hs
unfolding takes
free_then leg ls [] = refl
free_then leg ls (h ∷ hs) = let p = free_next leg ls h in let q = free_then leg ls hs in λ i. p i ∷ q i

after_by : (ls : List Leg) (hs : List Holding) → after_legs hs ls ≡ map (free_by ls) hs
unfolding after_legs
after_by [] hs = free_first hs
after_by (leg ∷ ls) hs = after_by ls (takes leg hs) ∙ free_then leg ls hs

free_pairs : (ps : List Pair) (h : Holding) → free_by (legs_of ps) h ≡ free_holding ps h
unfolding free_by free_holding
free_pairs ps h = let l = legs_tied ps h.series Long in let s = legs_tied ps h.series Short in λ i. record { series = h.series; long = h.long - l i; short = h.short - s i }

map_same : (f g : Holding → Holding) → ((h : Holding) → f h ≡ g h) → (hs : List Holding) → map f hs ≡ map g hs
map_same f g e [] = refl
map_same f g e (h ∷ hs) = let p = e h in let q = map_same f g e hs in λ i. p i ∷ q i

pub after_is : (hs : List Holding) (ps : List Pair) → after_legs hs (legs_of ps) ≡ free_rows hs ps
unfolding free_rows
after_is hs ps = after_by (legs_of ps) hs ∙ map_same (free_by (legs_of ps)) (free_holding ps) (free_pairs ps) hs

after_lots : (ls : List Leg) (hs : List Holding) (s : Series) (d : Side) → total (after_legs hs ls) s d ≡ total hs s d - sum_of (ties s d) ls
unfolding after_legs sum_of
after_lots [] hs s d = omega arith
after_lots (leg ∷ ls) hs s d = let h = after_lots ls (takes leg hs) s d in let t = taken_total leg hs s d in omega arith

pub free_lots : (hs : List Holding) (ps : List Pair) (s : Series) (d : Side) → total (free_rows hs ps) s d ≡ total hs s d - tied ps s d
free_lots hs ps s d = rw (sym (after_is hs ps)) (after_lots (legs_of ps) hs s d ∙ ap (λ (n : ℕ). total hs s d - n) (legs_tied ps s d))
