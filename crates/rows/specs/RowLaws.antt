-- Laws of rows: empty rows, rows of nothing, and rows with other lots or units.
use Rattle.std.specs.Prelude.{◌≡◌, refl, Bool, true, List, [], ◌∷◌, ℕ, eqb, length, replicate}
use Rattle.std.proofs.Common.{ap, sym, ◌∙◌, eqb-true}
use Rattle.laws.specs.TruthLaws.{both_true, clash}
use Rattle.laws.specs.Bytes.{same_bytes}
use Rattle.laws.specs.ByteLaws.{are_same}
use Rattle.laws.specs.Search.{every_line}
use Rattle.laws.specs.Order.{order_of, then_by, bytes_order, is_same}
use Rattle.laws.specs.OrderLaws.{is_same_lem, split, then_same, same_in_order}
use Rattle.std.specs.declared.cmp.Ordering.{Ordering}
use Rattle.series.specs.declared.Series.{Series}
use Rattle.series.specs.declared.Nature.{Nature}
use Rattle.series.specs.declared.Nature.TheVariants.{Future, Call, Put}
use Rattle.series.specs.declared.Side.{Side}
use Rattle.series.specs.declared.Side.TheVariants.{Long, Short}
use Rattle.series.specs.Natures.{is_future}
use Rattle.series.specs.Key.{series_order}
use Rattle.rows.specs.declared.Holding.{Holding}
use Rattle.rows.specs.declared.Pair.{Pair}
use Rattle.rows.specs.Rows.{series_rank, holding_rank, pair_rank, same_series, new_holding, new_pair, no_lots, no_units, added, lessened, empty_series, empty_holding, empty_pair, is_empty_series, is_empty_holding, is_empty_pair}

-- The order of series is that of their ranks.
pub rank_order : (a b : Series) → bytes_order (series_rank a) (series_rank b) ≡ series_order a b
unfolding series_rank bytes_order series_order
rank_order a b = then_same (series_order a b)

pub same_by_order : (a b : Series) {o : Ordering} → o ≡ series_order a b → is_same o ≡ same_series a b
unfolding same_series
same_by_order a b e = ap is_same (e ∙ sym (rank_order a b)) ∙ same_in_order (series_rank a) (series_rank b)

-- The order of pairs is by kind, first series, second series, r1, r2; and the order where kind and first series are the same.
unfoldable pub rest_order : Pair → Pair → Ordering
rest_order p q = then_by (series_order p.second q.second) (then_by (order_of p.r1 q.r1) (order_of p.r2 q.r2))

pub pair_order : (p q : Pair) → bytes_order (pair_rank p) (pair_rank q) ≡ then_by (order_of p.kind q.kind) (then_by (series_order p.first q.first) (rest_order p q))
unfolding pair_rank bytes_order series_order rest_order
pair_order p q = simp then_same

module _ (p q : Pair) {o : Ordering} where
  pub kinds_differ : (p.kind ≡ q.kind → ⊥) → o ≡ order_of p.kind q.kind → o ≡ bytes_order (pair_rank p) (pair_rank q)
  kinds_differ n e =
      e ∙ sym (pair_order p q ∙ split (λ (x : Ordering). then_by x (then_by (series_order p.first q.first) (rest_order p q)) ≡ x) p.kind q.kind (λ h. refl) (λ h. absurd (n h)) (λ h. refl))

  pub firsts_decide : {x : Ordering} → p.kind ≡ q.kind → x ≡ series_order p.first q.first → o ≡ then_by x (rest_order p q) → o ≡ bytes_order (pair_rank p) (pair_rank q)
  firsts_decide k e f = f ∙ rw e (sym (pair_order p q ∙ rw (sym (is_same_lem k))))

-- Empty rows are what they are tested to be.
future_is : (n : Nature) → is_future n ≡ true → n ≡ Future
future_is Future e = refl
future_is (Call k) e = absurd (clash e refl)
future_is (Put k) e = absurd (clash e refl)

empty_series_lem : (s : Series) → is_empty_series s ≡ true → s ≡ empty_series
unfolding is_empty_series
empty_series_lem s e =
    let h = both_true (same_bytes s.code (0 ∷ 0 ∷ 0 ∷ [])) _ e in
    let k = both_true (eqb s.date 0) _ h.1 in
    let c = are_same s.code (0 ∷ 0 ∷ 0 ∷ []) h.0 in
    let d = eqb-true s.date 0 k.0 in
    let n = future_is s.nature k.1 in
    λ i. record { code = c i; date = d i; nature = n i }

-- A holding of no lots is the new one of its series, and a pair of no units that of its kind, series and ratio.
pub no_lots_lem : (h : Holding) → no_lots h ≡ true → h ≡ new_holding h.series
no_lots_lem h e =
    let k = both_true (eqb h.long 0) _ e in
    let l = eqb-true h.long 0 k.0 in
    let s = eqb-true h.short 0 k.1 in
    λ i. record { series = h.series; long = l i; short = s i }

pub no_units_lem : (p : Pair) → no_units p ≡ true → p ≡ new_pair p.kind p.first p.second p.r1 p.r2
no_units_lem p e =
    let u = eqb-true p.units 0 e in
    λ i. record { kind = p.kind; first = p.first; second = p.second; r1 = p.r1; r2 = p.r2; units = u i }

pub empty_holding_lem : (h : Holding) → is_empty_holding h ≡ true → h ≡ empty_holding
unfolding is_empty_holding empty_holding
empty_holding_lem h e =
    let k = both_true (is_empty_series h.series) _ e in
    no_lots_lem h k.1 ∙ ap new_holding (empty_series_lem h.series k.0)

pub empty_pair_lem : (p : Pair) → is_empty_pair p ≡ true → p ≡ empty_pair
unfolding is_empty_pair empty_pair
empty_pair_lem p e =
    let a = both_true (is_empty_series p.first) _ e in
    let b = both_true (is_empty_series p.second) _ a.1 in
    let k = both_true (eqb p.kind 0) _ b.1 in
    let r = both_true (eqb p.r1 0) _ k.1 in
    let t = both_true (eqb p.r2 0) _ r.1 in
    let f = empty_series_lem p.first a.0 in
    let s = empty_series_lem p.second b.0 in
    let kind = eqb-true p.kind 0 k.0 in
    let r1 = eqb-true p.r1 0 r.0 in
    let r2 = eqb-true p.r2 0 t.0 in
    no_units_lem p t.1 ∙ (λ i. new_pair (kind i) (f i) (s i) (r1 i) (r2 i))

-- So rows that are all empty are the empty row, as often as there are rows; and the empty row passes its test.
pub all_empty : {A : Type 0} (test : A → Bool) (empty : A) → ((x : A) → test x ≡ true → x ≡ empty) → (l : List A) → every_line test l ≡ true → l ≡ replicate (length l) empty
unfolding every_line
all_empty test empty is [] e = refl
all_empty test empty is (x ∷ l) e =
    let h = both_true (test x) _ e in
    let p = is x h.0 in
    let q = all_empty test empty is l h.1 in
    λ i. p i ∷ q i

pub empty_holding_is : is_empty_holding empty_holding ≡ true
unfolding is_empty_holding is_empty_series empty_holding same_bytes
empty_holding_is = refl

pub empty_pair_is : is_empty_pair empty_pair ≡ true
unfolding is_empty_pair is_empty_series empty_pair same_bytes
empty_pair_is = refl

-- More or fewer lots leave the series, and so the rank.
pub added_series : (d : Side) (n : ℕ) (h : Holding) → (added d n h).series ≡ h.series
added_series Long n h = refl
added_series Short n h = refl

pub lessened_series : (d : Side) (n : ℕ) (h : Holding) → (lessened d n h).series ≡ h.series
lessened_series Long n h = refl
lessened_series Short n h = refl

pub lessened_rank : (d : Side) (n : ℕ) (h : Holding) → holding_rank (lessened d n h) ≡ holding_rank h
unfolding holding_rank
lessened_rank Long n h = refl
lessened_rank Short n h = refl
