-- Laws of the pair rule: when a pair may stand, that its legs are never one series, and the sides that its legs are on.
use Rattle.std.specs.Prelude.{◌≡◌, refl, ◌⊎◌, Bool, true, false, List, [], ◌∷◌, map, ℕ, ◌≤◌, eqb, ltb}
use Rattle.std.proofs.Common.{sym, subst, ◌∙◌, inl, inr, ⊎_elim, arith, eq-eqb, ltb-true}
use Rattle.std.proofs.lemmas.Bool.{not-true}
use Rattle.laws.specs.Truth.{pick, both, either}
use Rattle.laws.specs.TruthLaws.{both_true, either_true, clash}
use Rattle.laws.specs.Text.{three}
use Rattle.laws.specs.Bytes.{same_bytes}
use Rattle.laws.specs.ByteLaws.{are_same, same_self}
use Rattle.laws.specs.Checks.{first_failing, all_pass, numbered}
use Rattle.laws.specs.CheckLaws.{by_number}
use Rattle.laws.specs.Kinds.{by_kind}
use Rattle.laws.specs.KindLaws.{each_kind}
use Rattle.series.specs.declared.Series.{Series}
use Rattle.series.specs.declared.Nature.{Nature}
use Rattle.series.specs.declared.Nature.TheVariants.{Future, Call, Put}
use Rattle.series.specs.Natures.{is_future, is_call, is_put, strike_of}
use Rattle.legs.specs.Legs.{couple, two_products, call_then_put, one_call_one_put, future_then_option, debit_strikes}
use Rattle.pairing.specs.declared.Parts.{Parts}
use Rattle.series.specs.declared.Side.TheVariants.{Long, Short}
use Rattle.pairing.specs.Rules.{debit_vertical, credit_vertical, time_spread, two_short, future_with_option, conversion, calendar, between_products, no_rule, parts_of, pair_checks, pair_number, may_stand}
use Rattle.pairing.specs.Sides.{first_side, second_side}

pub pairs_numbered : (p : Parts) → numbered (pair_checks p) ≡ true
unfolding numbered pair_checks
pairs_numbered p = refl

-- A pair may stand exactly when its number is 0.
pub stands_by_number : (kind : ℕ) (a b : Series) (r1 r2 : ℕ) → eqb (pair_number kind a b r1 r2) 0 ≡ may_stand kind a b r1 r2
unfolding pair_number may_stand
stands_by_number kind a b r1 r2 = by_number (pair_checks (parts_of kind a b r1 r2)) (pairs_numbered (parts_of kind a b r1 r2))

-- Its number is 0 where it may stand, and 10 where not.
number_of_checks : (p : Parts) → first_failing (pair_checks p) ≡ pick (all_pass (pair_checks p)) 0 10
unfolding first_failing all_pass pair_checks
number_of_checks p = go p.kind _ _ (go p.codes _ _ (go p.natures _ _ (go p.dates _ _ (go p.strikes _ _ (go p.ratio 0 true refl)))))
  where
    go : (t : Bool) (n : ℕ) (rest : Bool) → n ≡ pick rest 0 10 → pick t n 10 ≡ pick (both t rest) 0 10
    go true n rest e = e
    go false n rest e = refl

pub number_by_standing : (kind : ℕ) (a b : Series) (r1 r2 : ℕ) → pair_number kind a b r1 r2 ≡ pick (may_stand kind a b r1 r2) 0 10
unfolding pair_number may_stand
number_by_standing kind a b r1 r2 = number_of_checks (parts_of kind a b r1 r2)

-- A pair that may stand meets every part of its kind's rule.
pub record Meets (p : Parts) : Type 0 where
  pub kind : p.kind ≡ true
  pub codes : p.codes ≡ true
  pub natures : p.natures ≡ true
  pub dates : p.dates ≡ true
  pub strikes : p.strikes ≡ true
  pub ratio : p.ratio ≡ true

pub meets : (p : Parts) → all_pass (pair_checks p) ≡ true → Meets p
unfolding all_pass pair_checks
meets p e =
    let k = both_true p.kind _ e in
    let c = both_true p.codes _ k.1 in
    let n = both_true p.natures _ c.1 in
    let d = both_true p.dates _ n.1 in
    let s = both_true p.strikes _ d.1 in
    let r = both_true p.ratio _ s.1 in
    record { kind = k.0; codes = c.0; natures = n.0; dates = d.0; strikes = s.0; ratio = r.0 }

-- No series is a leg to itself: each rule fails in one part.

not_lower : (n : ℕ) → ltb n n ≡ true → ⊥
not_lower n e = let h = ltb-true n n e in omega arith

no_debit : (s : Series) → debit_strikes s s ≡ true → ⊥
unfolding debit_strikes
no_debit s e = not_lower (strike_of s.nature) (go (is_call s.nature) e)
  where
    go : (b : Bool) → pick b (ltb (strike_of s.nature) (strike_of s.nature)) (ltb (strike_of s.nature) (strike_of s.nature)) ≡ true → ltb (strike_of s.nature) (strike_of s.nature) ≡ true
    go true h = h
    go false h = h

no_call_put : (n : Nature) → both (is_call n) (is_put n) ≡ false
no_call_put Future = refl
no_call_put (Call k) = refl
no_call_put (Put k) = refl

no_future_option : (n : Nature) → both (is_future n) (either (is_call n) (is_put n)) ≡ false
no_future_option Future = refl
no_future_option (Call k) = refl
no_future_option (Put k) = refl

one_text : (c x y : List ℕ) → both (same_bytes c x) (same_bytes c y) ≡ true → x ≡ y
one_text c x y e = let h = both_true (same_bytes c x) (same_bytes c y) e in sym (are_same c x h.0) ∙ are_same c y h.1

no_couple : (x y : List ℕ) (s : Series) → same_bytes x y ≡ false → couple x y s s ≡ true → ⊥
unfolding couple
no_couple x y s h e =
    let c = s.code in
    let same : x ≡ y = ⊎_elim (one_text c x y) (λ f. sym (one_text c y x f)) (either_true (both (same_bytes c x) (same_bytes c y)) (both (same_bytes c y) (same_bytes c x)) e) in
    clash (rw same (same_self y)) h

no_two_products : (s : Series) → two_products s s ≡ true → ⊥
unfolding two_products same_bytes
no_two_products s e =
    ⊎_elim (no_couple (three "UNF") (three "SXF") s refl) (no_couple (three "GTF") (three "G2F") s refl)
    (either_true (couple (three "UNF") (three "SXF") s s) (couple (three "GTF") (three "G2F") s s) e)

-- What holds of each kind's rule, and of the rule of no kind, holds of the rule that the kind's number selects.
module _ (P : Parts → Type 0) (kind : ℕ) (a b : Series) (r1 r2 : ℕ) where
  pub each_rule : (kind ≡ 1 → P (debit_vertical a b r1 r2)) → (kind ≡ 2 → P (credit_vertical a b r1 r2)) → (kind ≡ 3 → P (time_spread a b r1 r2)) → (kind ≡ 4 → P (two_short a b r1 r2)) → (kind ≡ 5 → P (future_with_option a b r1 r2)) → (kind ≡ 6 → P (conversion a b r1 r2)) → (kind ≡ 7 → P (calendar a b r1 r2)) → (kind ≡ 8 → P (between_products a b r1 r2)) → P no_rule → P (parts_of kind a b r1 r2)
  unfolding parts_of
  each_rule = each_kind _ _ _ _ _ _ _ _ _ P kind

no_leg_to_itself : (kind : ℕ) (s : Series) (r1 r2 : ℕ) → Meets (parts_of kind s s r1 r2) → ⊥
unfolding debit_vertical credit_vertical time_spread two_short future_with_option conversion calendar between_products call_then_put one_call_one_put future_then_option
no_leg_to_itself kind s r1 r2 =
    each_rule (λ (p : Parts). Meets p → ⊥) kind s s r1 r2
    (λ k m. no_debit s m.strikes)
    (λ k m. no_debit s m.strikes)
    (λ k m. not_lower s.date m.dates)
    (λ k m. clash m.natures (no_call_put s.nature))
    (λ k m. clash m.natures (no_future_option s.nature))
    (λ k m. ⊎_elim (λ e. clash e (no_call_put s.nature)) (λ e. clash e (no_call_put s.nature)) (either_true (call_then_put s s) (call_then_put s s) m.natures))
    (λ k m. clash (eq-eqb s.date s.date refl) (not-true _ m.dates))
    (λ k m. no_two_products s m.codes)
    (λ m. clash m.kind refl)

-- The two legs of a pair that may stand are never the same series.
pub legs_differ : (kind : ℕ) (a b : Series) (r1 r2 : ℕ) → may_stand kind a b r1 r2 ≡ true → a ≡ b → ⊥
unfolding may_stand
legs_differ kind a b r1 r2 e same =
    no_leg_to_itself kind a r1 r2 (meets (parts_of kind a a r1 r2) (subst (λ (s : Series). may_stand kind a s r1 r2 ≡ true) (sym same) e))

-- Only a kind of 1 to 8 may stand.
pub stands_kind : (kind : ℕ) (a b : Series) (r1 r2 : ℕ) → may_stand kind a b r1 r2 ≡ true → (1 ≤ kind) × (kind ≤ 8)
unfolding may_stand
stands_kind kind a b r1 r2 e =
    each_rule (λ (p : Parts). Meets p → (1 ≤ kind) × (kind ≤ 8)) kind a b r1 r2
    (λ k m. omega arith)
    (λ k m. omega arith)
    (λ k m. omega arith)
    (λ k m. omega arith)
    (λ k m. omega arith)
    (λ k m. omega arith)
    (λ k m. omega arith)
    (λ k m. omega arith)
    (λ m. absurd (clash m.kind refl))
    (meets (parts_of kind a b r1 r2) e)

-- The sides in the paper's words. The second leg is short in every kind.
pub second_short : (kind : ℕ) → second_side kind ≡ Short
unfolding second_side
second_short kind = refl

-- The first leg is short in kind 4, and long in kinds 1, 2, 3, 6, 7 and 8, whatever the second is.
pub first_sides : (second : Series) → map (λ (kind : ℕ). first_side kind second) (1 ∷ 2 ∷ 3 ∷ 4 ∷ 6 ∷ 7 ∷ 8 ∷ []) ≡ Long ∷ Long ∷ Long ∷ Short ∷ Long ∷ Long ∷ Long ∷ []
unfolding first_side
first_sides second = refl

-- In kind 5 the future is long with calls and short with puts, and there is no other option.
pub future_side : (a b : Series) (r1 r2 : ℕ) → may_stand 5 a b r1 r2 ≡ true → ((is_call b.nature ≡ true) × (first_side 5 b ≡ Long)) ⊎ ((is_put b.nature ≡ true) × (first_side 5 b ≡ Short))
unfolding may_stand parts_of by_kind future_with_option future_then_option first_side
future_side a b r1 r2 e = go b.nature (both_true (is_future a.nature) _ (meets (future_with_option a b r1 r2) e).natures).1
  where
    go : (n : Nature) → either (is_call n) (is_put n) ≡ true → ((is_call n ≡ true) × (pick (is_put n) Short Long ≡ Long)) ⊎ ((is_put n ≡ true) × (pick (is_put n) Short Long ≡ Short))
    go Future h = absurd (clash h refl)
    go (Call k) h = inl (refl, refl)
    go (Put k) h = inr (refl, refl)
