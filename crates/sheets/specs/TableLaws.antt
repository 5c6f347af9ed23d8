-- Laws of a table that has a place for each of some codes, all different: what stands at a code's place, and what setting it makes
-- (document 01, "Text": F, O and S rows).
use Rattle.std.specs.Prelude.{◌≡◌, Bool, true, eqb, get_or, length}
use Rattle.std.proofs.Math.Path.{refl, ap, sym}
use Rattle.std.proofs.Common.{◌∙◌, subst, arith, eq-eqb, eqb-true, lt-ltb, le-ltb}
use Rattle.std.proofs.Math.Bool.{false, not}
use mathlib.Core.List.{List, [], ◌∷◌, ◌++◌, map}
use Prim.Native.Nat.{ℕ, zero, suc, ◌+◌, ◌-◌, ◌*◌, ◌<◌, ◌≤◌, min}
use Rattle.std.proofs.Math.Decide.{dec_lt}
use Rattle.std.proofs.lemmas.Bool.{not-true}
use Rattle.std.proofs.Math.ListN.{set, get_or-eq_default}
use Rattle.laws.specs.Truth.{pick, both, either}
use Rattle.laws.specs.TruthLaws.{both_true, within_true, by_test, same_test, clash}
use Rattle.laws.specs.Bytes.{same_bytes}
use Rattle.laws.specs.ByteLaws.{are_same, same_self, three_bytes}
use Rattle.laws.specs.Search.{first_where, every_line}
use Rattle.lists.specs.Sorted.{stands}
use Rattle.codes.specs.Codes.{capital, names_stock}
use Rattle.amounts.specs.declared.StockLine.{StockLine}
use Rattle.sheets.specs.declared.StockRow.{StockRow}
use Rattle.sheets.specs.Rows.{future_codes, option_codes, two_capitals, no_stock, stock_in}
use Rattle.sheets.specs.Sheet.{place_in, stock_place, nearest, row_at, stock_at, tabled}

-- no code stands among those behind it
unfoldable pub different : List (List ℕ) → Bool
different [] = true
different (c ∷ cs) = both (every_line (λ (d : List ℕ). not (same_bytes c d)) cs) (different cs)

pub futures_differ : different future_codes ≡ true
unfolding different every_line future_codes same_bytes
futures_differ = refl

pub options_differ : different option_codes ≡ true
unfolding different every_line option_codes same_bytes
options_differ = refl

-- What setting the place of the code c makes: a table that says v of c, and of every other code what it said.
module _ {B : Type 0} (f g : List ℕ → B) (v : B) (c : List ℕ) (here : g c ≡ v) (others : (d : List ℕ) → same_bytes c d ≡ false → g d ≡ f d) where
  rest_stays : (cs : List (List ℕ)) → every_line (λ (d : List ℕ). not (same_bytes c d)) cs ≡ true → map f cs ≡ map g cs
  unfolding every_line
  rest_stays [] e = refl
  rest_stays (d ∷ cs) e =
      let t = both_true (not (same_bytes c d)) _ e in
      let p = others d (not-true _ t.0) in
      let q = rest_stays cs t.1 in
      λ i. sym p i ∷ q i

  pub table_set : (cs : List (List ℕ)) → different cs ≡ true → set (map f cs) (place_in cs c) v ≡ map g cs
  unfolding place_in different
  table_set [] e = refl
  table_set (d ∷ cs) e =
      let t = both_true (every_line (λ (b : List ℕ). not (same_bytes d b)) cs) _ e in
      by_test (λ (b : Bool). same_bytes c d ≡ b → set (map f (d ∷ cs)) (pick b 0 (suc (place_in cs c))) v ≡ map g (d ∷ cs)) (same_bytes c d)
      (λ q s.
      let is = are_same c d s in
      let p = sym here ∙ ap g is in
      let r = rest_stays cs (subst (λ (b : List ℕ). every_line (λ (a : List ℕ). not (same_bytes b a)) cs ≡ true) (sym is) t.0) in
      λ i. p i ∷ r i)
      (λ q s. let p = others d s in let r = table_set cs t.1 in λ i. sym p i ∷ r i)
      refl

-- Rows with one row more: it is the row of its rank where no other was.
module _ {A B : Type 0} (rank : A → List ℕ) (made : A → B) (none : B) (x : A) where
  pub found_last : (l : List A) (k : List ℕ) → same_bytes (rank x) k ≡ true → stands rank k l ≡ false → first_where (λ (y : A). same_bytes (rank y) k) made none (l ++ (x ∷ [])) ≡ made x
  unfolding first_where stands
  found_last [] k e s = rw e
  found_last (y ∷ l) k e s =
      by_test (λ (b : Bool). either b (stands rank k l) ≡ false → pick b (made y) (first_where (λ (z : A). same_bytes (rank z) k) made none (l ++ (x ∷ []))) ≡ made x) (same_bytes (rank y) k)
      (λ q n. absurd (clash refl n))
      (λ q n. found_last l k e n)
      s

-- It does not change what is found by a test that does not name it.
pub found_others : {A B : Type 0} (named : A → Bool) (made : A → B) (none : B) (x : A) (l : List A) → named x ≡ false → first_where named made none (l ++ (x ∷ [])) ≡ first_where named made none l
unfolding first_where
found_others named made none x [] e = rw e
found_others named made none x (y ∷ l) e = ap (pick (named y) (made y)) (found_others named made none x l e)

-- What stands at the place of a code: what is said of it; of a code that is none of them nothing may be said.
pub table_get : {B : Type 0} (f : List ℕ → B) (none : B) (c : List ℕ) (cs : List (List ℕ)) → (place_in cs c ≡ length cs → f c ≡ none) → get_or (map f cs) (place_in cs c) none ≡ f c
unfolding place_in
table_get f none c [] h = sym (h refl)
table_get f none c (d ∷ cs) h =
    by_test (λ (b : Bool). same_bytes c d ≡ b → (pick b 0 (suc (place_in cs c)) ≡ suc (length cs) → f c ≡ none) → get_or (map f (d ∷ cs)) (pick b 0 (suc (place_in cs c))) none ≡ f c) (same_bytes c d)
    (λ q s h. ap f (sym (are_same c d s)))
    (λ q s h. table_get f none c cs (λ e. h (ap suc e)))
    refl h

-- A table over the numbers below n.
module _ {A : Type 0} (d : A) where
  pub tabled_says : (says : ℕ → A) (n i : ℕ) → i < n → get_or (tabled says n) i d ≡ says i
  unfolding tabled
  tabled_says says zero i lt = absurd (omega arith)
  tabled_says says (suc n) zero lt = refl
  tabled_says says (suc n) (suc i) lt = tabled_says (λ (j : ℕ). says (suc j)) n i (omega arith)

  pub tabled_out : (says : ℕ → A) (n : ℕ) → get_or (tabled says n) n d ≡ d
  unfolding tabled
  tabled_out says zero = refl
  tabled_out says (suc n) = tabled_out (λ (j : ℕ). says (suc j)) n

pub tabled_set : {A : Type 0} (f g : ℕ → A) (n i : ℕ) {v : A} → g i ≡ v → ((j : ℕ) → (j ≡ i → ⊥) → g j ≡ f j) → set (tabled f n) i v ≡ tabled g n
unfolding tabled
tabled_set f g zero i here others = refl
tabled_set f g (suc n) zero here others = λ k. sym here k ∷ tabled (λ (j : ℕ). sym (others (suc j) (λ e. omega arith)) k) n
tabled_set f g (suc n) (suc i) here others =
    let r = tabled_set (λ (j : ℕ). f (suc j)) (λ (j : ℕ). g (suc j)) n i here (λ j h. others (suc j) (λ e. h (omega arith))) in
    λ k. sym (others 0 (λ e. omega arith)) k ∷ r k

-- A code of two capitals.
pub record Capitals (code : List ℕ) : Type 0 where
  pub three : length code ≡ 3
  pub first_low : 65 ≤ get_or code 0 0
  pub first_high : get_or code 0 0 ≤ 90
  pub second_low : 65 ≤ get_or code 1 0
  pub second_high : get_or code 1 0 ≤ 90
  pub end : get_or code 2 0 ≡ 0

pub two_capitals_lem : (code : List ℕ) → two_capitals code ≡ true → Capitals code
unfolding two_capitals names_stock
two_capitals_lem code e =
    let t = both_true (names_stock code) (eqb (get_or code 2 0) 0) e in
    let u = both_true (eqb (length code) 3) _ t.0 in
    let v = both_true (capital (get_or code 0 0)) (capital (get_or code 1 0)) u.1 in
    let a = within_true 65 90 (get_or code 0 0) v.0 in
    let b = within_true 65 90 (get_or code 1 0) v.1 in
    record {
      three = eqb-true (length code) 3 u.0;
      first_low = a.0;
      first_high = a.1;
      second_low = b.0;
      second_high = b.1;
      end = eqb-true (get_or code 2 0) 0 t.1;
    }

-- It has a place, and no other has the same.
pub place_below : (code : List ℕ) → two_capitals code ≡ true → stock_place code < 676
unfolding stock_place
place_below code e = let c = two_capitals_lem code e in rw e (omega arith)

one_place : (x y : List ℕ) → two_capitals x ≡ true → two_capitals y ≡ true → stock_place x ≡ stock_place y → x ≡ y
unfolding stock_place
one_place x y e f is =
    let c = two_capitals_lem x e in
    let d = two_capitals_lem y f in
    let p : (get_or x 0 0 - 65) * 26 + (get_or x 1 0 - 65) ≡ (get_or y 0 0 - 65) * 26 + (get_or y 1 0 - 65) = rw (e, f) at is in
    let first : get_or x 0 0 ≡ get_or y 0 0 = omega arith in
    let second : get_or x 1 0 ≡ get_or y 1 0 = omega arith in
    three_bytes x c.three ∙ rw (first, second, c.end ∙ sym d.end) (sym (three_bytes y d.three))

-- So what stands at a stock's place is what is said of its code.
pub stock_at_place : (rows : List StockRow) (code : List ℕ) → every_line (λ (r : StockRow). two_capitals r.code) rows ≡ true → two_capitals code ≡ true → stock_at rows (stock_place code) ≡ stock_in rows code
unfolding stock_at stock_in first_where every_line
stock_at_place [] code e two = refl
stock_at_place (r ∷ rows) code e two =
    let t = both_true (two_capitals r.code) _ e in
    let same : eqb (stock_place r.code) (stock_place code) ≡ same_bytes r.code code = same_test _ _
    (λ q. subst (λ (c : List ℕ). same_bytes r.code c ≡ true) (one_place r.code code t.0 two (eqb-true _ _ q)) (same_self r.code))
    (λ q. eq-eqb _ _ (ap stock_place (are_same r.code code q))) in
    rw same (ap (pick (same_bytes r.code code) r.line) (stock_at_place rows code t.1 two))

-- The row at a place, read at the nearest place that there is.
pub row_inside : (rows : List StockLine) (at : ℕ) → length rows ≡ 676 → row_at at (get_or rows (nearest at) no_stock) ≡ get_or rows at no_stock
row_inside rows at long = go (dec_lt at 676)
  where
    go : Dec (at < 676) → row_at at (get_or rows (nearest at) no_stock) ≡ get_or rows at no_stock
    go (yes q) = let e : min at 675 ≡ at = omega arith in rw (lt-ltb at 676 q, e) refl
    go (no q) = rw (le-ltb at 676 (omega arith)) (sym (get_or-eq_default rows no_stock (omega arith)))
