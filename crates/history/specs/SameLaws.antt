-- Demand 3 (specs/Demand), its last sentence: two sound books with the same account, identity, day, free lots and pairs are the same book. So
-- whatever is worked from the one is worked from the other.
use Rattle.std.specs.Prelude.{◌≡◌, refl, true, List, ℕ, ◌-◌, get_or}
use Rattle.std.proofs.Common.{ap, sym, ◌∙◌, arith, eq-eqb}
use Rattle.laws.specs.TruthLaws.{both_hold, clash}
use Rattle.lists.specs.SameLaws.{same_rows}
use Rattle.series.specs.declared.Series.{Series}
use Rattle.series.specs.declared.Side.{Side}
use Rattle.series.specs.declared.Side.TheVariants.{Long, Short}
use Rattle.series.specs.Checks.{good_series}
use Rattle.rows.specs.declared.Holding.{Holding}
use Rattle.rows.specs.declared.Pair.{Pair}
use Rattle.rows.specs.declared.Book.{Book}
use Rattle.rows.specs.Rows.{series_rank, holding_rank, pair_rank, same_series, same_pair, new_holding, new_of, lots_on, with_units}
use Rattle.rows.specs.Book.{holdings_of, pairs_of, book_of, holding_in, pair_in}
use Rattle.rules.specs.Lots.{tied, total, free, units_of}
use Rattle.rules.specs.LotLaws.{one_rank, new_lots}
use Rattle.rules.specs.Rules.{good_holding, good_pair, sound_book}
use Rattle.rules.specs.Facts.{GoodPair, Sound}
use Rattle.rules.specs.RuleLaws.{holding_is, pair_is, counts_are, sound_is, holdings_good, holdings_order, pairs_good, pairs_order, book_is}
use Rattle.calls.specs.PairedLaws.{one_pair, one_series, same_but_units}
use Rattle.history.specs.History.{BookCall}
use Rattle.history.specs.Counts.{lots_opened, lots_closed, units_paired, units_split, last_day}
use Rattle.history.specs.Demand.{AsCounted, Alike}

-- A count by name is a count by series: series that pass their checks count as the same only where they are one, and pairs of such
-- series only where they are one but for their units.
pub one_name : (s t : Series) → good_series s ≡ true → good_series t ≡ true → same_series s t ≡ true → s ≡ t
unfolding series_rank
one_name s t g f e = one_series s t g f (ap (λ (l : List ℕ). get_or l 0 0) (one_rank s t e))

pub one_kind : (p q : Pair) → GoodPair p → GoodPair q → same_pair p q ≡ true → p ≡ with_units p.units q
one_kind p q g f e = same_but_units p q g f.first_good f.second_good (one_pair p q e)

-- A good holding has lots, and is told by its series and lots.
some_lots : (h : Holding) → good_holding h ≡ true → ((d : Side) → lots_on d h ≡ 0) → ⊥
some_lots h g z = clash (both_hold (eq-eqb h.long 0 (z Long)) (eq-eqb h.short 0 (z Short))) (holding_is h g).some

one_holding : (h k : Holding) → good_holding h ≡ true → good_holding k ≡ true → holding_rank h ≡ holding_rank k → ((d : Side) → lots_on d h ≡ lots_on d k) → h ≡ k
unfolding holding_rank series_rank
one_holding h k g f e same =
    let s = one_series h.series k.series (holding_is h g).series_good (holding_is k f).series_good (ap (λ (l : List ℕ). get_or l 0 0) e) in
    let long = same Long in
    let short = same Short in
    λ i. record { series = s i; long = long i; short = short i }

-- A good pair has units, and is told by its rank and units.
some_units : (p : Pair) → good_pair p ≡ true → (Unit {0} → p.units ≡ 0) → ⊥
some_units p g z =
    let some = (counts_are p.r1 p.r2 p.units (pair_is p g).counts).some_units in
    let none = z tt in
    omega arith

one_row : (p q : Pair) → good_pair p ≡ true → good_pair q ≡ true → pair_rank p ≡ pair_rank q → (Unit {0} → p.units ≡ q.units) → p ≡ q
one_row p q g f e same =
    let h = pair_is q f in
    same_but_units p q (pair_is p g) h.first_good h.second_good e ∙ ap (λ (n : ℕ). with_units n q) (same tt)

module _ (a b : Book) (x : Sound a) (y : Sound b) where
  same_pairs : ((p : Pair) → units_of (pairs_of a) p ≡ units_of (pairs_of b) p) → pairs_of a ≡ pairs_of b
  unfolding units_of pair_in
  same_pairs h =
      same_rows pair_rank (λ (c : Unit {0}) (p : Pair). p.units) new_of good_pair (λ c p. refl) some_units one_row
      (pairs_of a) (pairs_of b) (pairs_order x) (pairs_order y) (pairs_good x) (pairs_good y) (λ c p. h p)

  same_holdings : ((s : Series) (d : Side) → total (holdings_of a) s d ≡ total (holdings_of b) s d) → holdings_of a ≡ holdings_of b
  unfolding total holding_in holding_rank
  same_holdings h =
      same_rows holding_rank lots_on (λ (k : Holding). new_holding k.series) good_holding (λ d k. new_lots d k.series) some_lots one_holding
      (holdings_of a) (holdings_of b) (holdings_order x) (holdings_order y) (holdings_good x) (holdings_good y) (λ d k. h k.series d)

-- Sound books that are alike are the same book.
pub same_book : (a b : Book) → sound_book a ≡ true → sound_book b ≡ true → Alike a b → a ≡ b
unfolding free
same_book a b g f h =
    let x = sound_is a g in
    let y = sound_is b f in
    let ps = same_pairs a b x y h.same_units in
    let hs =
    same_holdings a b x y
    (λ s d.
    let t = ap (λ (l : List Pair). tied l s d) ps in
    let u = h.same_free s d in
    let v = x.never_negative s d in
    let w = y.never_negative s d in
    omega arith) in
    let account = h.same_account in
    let identity = h.same_identity in
    let day = h.same_day in
    book_is a x ∙ (λ i. book_of (account i) (identity i) (day i) (hs i) (ps i)) ∙ sym (book_is b y)

-- So the counts alone say which book it is, in whatever order the calls came.
module _ {account identity day : ℕ} {done also : List BookCall} {a b : Book} (x : AsCounted account identity day done a) (y : AsCounted account identity day also b) where
  pub same_counts : ((s : Series) (d : Side) → lots_opened done s d - lots_closed done s d ≡ lots_opened also s d - lots_closed also s d) → ((p : Pair) → units_paired done p - units_split done p ≡ units_paired also p - units_split also p) → last_day day done ≡ last_day day also → a ≡ b
  same_counts lots units last =
      let stand : (p : Pair) → units_of (pairs_of a) p ≡ units_of (pairs_of b) p = λ p. x.units p ∙ units p ∙ sym (y.units p) in
      let ps = same_pairs a b (sound_is a x.sound) (sound_is b y.sound) stand in
      same_book a b x.sound y.sound
      (record {
        same_account = x.account_made ∙ sym y.account_made;
        same_identity = x.identity_made ∙ sym y.identity_made;
        same_day = x.day_counted ∙ last ∙ sym y.day_counted;
        same_free =
            λ s d.
            let t = ap (λ (l : List Pair). tied l s d) ps in
            let u = x.lots s d in
            let v = y.lots s d in
            let w = lots s d in
            omega arith;
        same_units = stand;
      })
