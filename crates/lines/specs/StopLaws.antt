-- Laws of the end of a field: the search for the first tab or LF in a text, and what it finds in the line in which it begins.
use Rattle.std.specs.Prelude.{◌≡◌, refl, Bool, true, false, List, [], ◌∷◌, ℕ, zero, suc, ◌+◌, ◌-◌, ◌<◌, ◌≤◌, eqb, get_or, length, take, drop, unwrap_or, position}
use Rattle.std.proofs.Common.{ap, one-add, sym, ◌∙◌, add-one, eq-eqb, ne_eqb, eqb-true, drop_of_length-le, length-take, drop-drop, get_or-drop}
use native.Mathlib.Omega.{arith}
use Rattle.std.proofs.Math.ListN.{length-drop}
use Rattle.std.proofs.Math.Seq.{drop-cons, take-take}
use Rattle.laws.specs.Truth.{pick, either}
use Rattle.laws.specs.TruthLaws.{by_test}
use Rattle.lines.specs.Pieces.{tab, lf, index_of, next_of, stops, field_length, stop_of}
use Rattle.lines.specs.CutLaws.{as_position, next_high}

-- A byte that ends a field, and one that does not.
pub tab_stops : {b : ℕ} → b ≡ tab → stops b ≡ true
tab_stops {b} e = rw (eq-eqb b tab e)

pub lf_stops : {b : ℕ} → b ≡ lf → stops b ≡ true
lf_stops e = rw e

pub other_not : {b : ℕ} → (b ≡ tab → ⊥) → (b ≡ lf → ⊥) → stops b ≡ false
other_not {b} h k = rw (ne_eqb b tab h, ne_eqb b lf k)

pub stops_lf : {b : ℕ} → stops b ≡ true → (b ≡ tab → ⊥) → b ≡ lf
stops_lf {b} e h = eqb-true b lf (rw (ne_eqb b tab h) at e)

-- The search is std's `position` of the first of these in what stands from `at` on.
pub stop_position : (t : List ℕ) (at : ℕ) → stop_of t at ≡ at + unwrap_or (position stops (drop at t)) (length (drop at t))
unfolding stop_of field_length
stop_position t at = ap (λ (n : ℕ). at + n) (as_position field_length stops refl (λ x xs. simp one-add) (drop at t))

-- The search: it ends at a tab, an LF or the end of the text, and else goes on.
module _ (t : List ℕ) (i : ℕ) where
  pub stop_here : i < length t → stops (get_or t i 0) ≡ true → i ≡ stop_of t i
  unfolding stop_of field_length
  stop_here lt e = rw (drop-cons t i 0 lt, e) (omega arith)

  pub stop_on : i < length t → stops (get_or t i 0) ≡ false → stop_of t i ≡ stop_of t (i + 1)
  unfolding stop_of field_length
  stop_on lt e = rw (add-one i, drop-cons t i 0 lt, e) (omega arith)

  pub stop_end : length t ≤ i → i ≡ stop_of t i
  unfolding stop_of field_length
  stop_end le = rw (drop_of_length-le t le) (omega arith)

length_inside : (u : List ℕ) → field_length u ≤ length u
unfolding field_length
length_inside [] = omega arith
length_inside (b ∷ u) =
    by_test (λ (e : Bool). pick e 0 (suc (field_length u)) ≤ suc (length u)) (stops b) (λ q. omega arith) (λ q. let h = length_inside u in omega arith)

byte_stops : (u : List ℕ) → field_length u < length u → stops (get_or u (field_length u) 0) ≡ true
unfolding field_length
byte_stops [] h = absurd (omega arith)
byte_stops (b ∷ u) h =
    by_test (λ (e : Bool). stops b ≡ e → pick e 0 (suc (field_length u)) < suc (length u) → stops (get_or (b ∷ u) (pick e 0 (suc (field_length u))) 0) ≡ true) (stops b)
    (λ q e l. e)
    (λ q e l. byte_stops u (omega arith))
    refl h

-- Where it ends, a tab or LF stands, or the text ends.
module _ (t : List ℕ) (at : ℕ) where
  pub stop_low : at ≤ stop_of t at
  unfolding stop_of
  stop_low = omega arith

  pub stop_high : at ≤ length t → stop_of t at ≤ length t
  unfolding stop_of
  stop_high low = let h = length_inside (drop at t) in let l = length-drop at t in omega arith

  pub stop_byte : stop_of t at < length t → stops (get_or t (stop_of t at) 0) ≡ true
  unfolding stop_of
  stop_byte h =
      let l = length-drop at t in
      rw (get_or-drop at t (field_length (drop at t)) 0) at (byte_stops (drop at t) (omega arith))

-- A search for a byte that begins before the place that another search finds finds that place too; and the byte stands there.
index_from : (c n : ℕ) (u : List ℕ) → n ≤ index_of c u → n + index_of c (drop n u) ≡ index_of c u
unfolding index_of
index_from c zero u h = omega arith
index_from c (suc n) [] h = absurd (omega arith)
index_from c (suc n) (b ∷ u) h =
    by_test (λ (e : Bool). suc n ≤ pick e 0 (suc (index_of c u)) → suc n + index_of c (drop n u) ≡ pick e 0 (suc (index_of c u))) (eqb b c)
    (λ q l. absurd (omega arith))
    (λ q l. let k = index_from c n u (omega arith) in omega arith)
    h

index_byte : (c : ℕ) (u : List ℕ) → index_of c u < length u → get_or u (index_of c u) 0 ≡ c
unfolding index_of
index_byte c [] h = absurd (omega arith)
index_byte c (b ∷ u) h =
    by_test (λ (e : Bool). eqb b c ≡ e → pick e 0 (suc (index_of c u)) < suc (length u) → get_or (b ∷ u) (pick e 0 (suc (index_of c u))) 0 ≡ c) (eqb b c)
    (λ q e l. eqb-true b c e)
    (λ q e l. index_byte c u (omega arith))
    refl h

module _ (t : List ℕ) (at c : ℕ) where
  pub next_from : {from : ℕ} → at ≤ from → from ≤ next_of t at c → next_of t from c ≡ next_of t at c
  unfolding next_of
  next_from {from} low high =
      let n : from - at ≤ index_of c (drop at t) = omega arith in
      let k : at + (from - at) ≡ from = omega arith in
      let e = rw (drop-drop (from - at) at t, k) at (index_from c (from - at) (drop at t) n) in
      omega arith

  pub next_byte : next_of t at c < length t → get_or t (next_of t at c) 0 ≡ c
  unfolding next_of
  next_byte h =
      let l = length-drop at t in
      rw (get_or-drop at t (index_of c (drop at t)) 0) at (index_byte c (drop at t) (omega arith))

-- A field ends at the first tab of what stands before the first LF.
before_lf : (u : List ℕ) → field_length u ≤ index_of lf u
unfolding field_length index_of
before_lf [] = omega arith
before_lf (b ∷ u) =
    by_test (λ (e : Bool). pick (either (eqb b tab) e) 0 (suc (field_length u)) ≤ pick e 0 (suc (index_of lf u))) (eqb b lf)
    (λ q.
    by_test (λ (e : Bool). pick (either e true) 0 (suc (field_length u)) ≤ 0) (eqb b tab) (λ r. omega arith) (λ r. omega arith))
    (λ q.
    by_test (λ (e : Bool). pick (either e false) 0 (suc (field_length u)) ≤ suc (index_of lf u)) (eqb b tab) (λ r. omega arith) (λ r. let h = before_lf u in omega arith))

in_line : (u : List ℕ) → index_of tab (take (index_of lf u) u) ≡ field_length u
unfolding field_length index_of
in_line [] = refl
in_line (b ∷ u) =
    by_test (λ (e : Bool). index_of tab (take (pick e 0 (suc (index_of lf u))) (b ∷ u)) ≡ pick (either (eqb b tab) e) 0 (suc (field_length u))) (eqb b lf)
    (λ q. by_test (λ (e : Bool). 0 ≡ pick (either e true) 0 (suc (field_length u))) (eqb b tab) (λ r. refl) (λ r. refl))
    (λ q.
    by_test (λ (e : Bool). pick e 0 (suc (index_of tab (take (index_of lf u) u))) ≡ pick (either e false) 0 (suc (field_length u))) (eqb b tab) (λ r. refl) (λ r. rw (in_line u)))

take_none : {l : List ℕ} (n : ℕ) → l ≡ [] → take n l ≡ []
take_none zero e = refl
take_none (suc n) e = rw e

drop_take : (a b : ℕ) (l : List ℕ) → drop a (take b l) ≡ take (b - a) (drop a l)
drop_take zero b l = let n : b - 0 ≡ b = omega arith in rw n
drop_take (suc a) zero l = let n : 0 - suc a ≡ 0 = omega arith in rw n
drop_take (suc a) (suc b) [] = sym (take_none (suc b - suc a) refl)
drop_take (suc a) (suc b) (x ∷ l) = let n : suc b - suc a ≡ b - a = omega arith in rw n (drop_take a b l)

-- the line that begins at `at`, without its LF
unfoldable pub line_at : List ℕ → ℕ → List ℕ
line_at t at = take (next_of t at lf - at) (drop at t)

pub line_length : (t : List ℕ) (at : ℕ) → at ≤ length t → length (line_at t at) ≡ next_of t at lf - at
unfolding line_at
line_length t at low =
    let l = length-drop at t in
    let h = next_high t at lf low in
    let k = length-take (next_of t at lf - at) (drop at t) in
    omega arith

-- A field that begins in the line: where it ends, and its bytes, in the text and in the line.
module _ (t : List ℕ) (at : ℕ) {from : ℕ} (low : at ≤ from) (high : from ≤ next_of t at lf) where
  rest_is : drop (from - at) (line_at t at) ≡ take (index_of lf (drop from t)) (drop from t)
  unfolding line_at next_of
  rest_is =
      let e = next_from t at lf low high in
      let k : at + (from - at) ≡ from = omega arith in
      let n : next_of t at lf - at - (from - at) ≡ index_of lf (drop from t) = omega arith in
      drop_take (from - at) (next_of t at lf - at) (drop at t) ∙ rw (drop-drop (from - at) at t, k, n)

  pub stop_within : stop_of t from ≤ next_of t at lf
  unfolding stop_of next_of
  stop_within = let e = next_from t at lf low high in let h = before_lf (drop from t) in omega arith

  pub stop_in_line : stop_of t from - at ≡ next_of (line_at t at) (from - at) tab
  unfolding stop_of next_of
  stop_in_line = rw (rest_is, in_line (drop from t)) (omega arith)

  pub text_in_line : {s : ℕ} → s ≡ stop_of t from → take (s - from) (drop from t) ≡ take (s - at - (from - at)) (drop (from - at) (line_at t at))
  unfolding stop_of
  text_in_line {s} is =
      let h = before_lf (drop from t) in
      let n : s - at - (from - at) ≡ s - from = omega arith in
      let m : s - from ≤ index_of lf (drop from t) = omega arith in
      rw (rest_is, n, take-take (s - from) (index_of lf (drop from t)) (drop from t) m)
