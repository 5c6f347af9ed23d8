-- Laws of cutting a text: the search for the next byte, and what stands before and behind the place that it finds.
use Rattle.std.specs.Prelude.{◌≡◌, Bool, true, false, List, [], ◌∷◌, eqb, ltb, get_or, take, position, unwrap_or, cond, nat_lt, Some, None, not}
use Rattle.std.proofs.lemmas.List.Sums.{prefix_len-le-length}
use Rattle.std.specs.List.{position_or_len}
use Rattle.std.proofs.lemmas.List.Recursion.{is_position_or_len}
use Rattle.std.proofs.Math.Path.{refl, ap}
use Rattle.std.proofs.Common.{sym, ◌∙◌, add-one, one-add, take_all}
use Prim.Native.Nat.{ℕ, suc, ◌+◌, ◌-◌, ◌<◌, ◌≤◌}
use native.Mathlib.Omega.{arith}
use borrow.Author.Tests.{eq-eqb, ne_eqb, lt-ltb, le-ltb, ltb-true, ltb-false}
use Rattle.std.proofs.Math.ListN.{length, drop, drop_of_length-le, length-drop}
use Rattle.std.proofs.Math.Seq.{drop-cons, drop-drop}
use Rattle.laws.specs.Truth.{pick, both}
use Rattle.laws.specs.TruthLaws.{by_test, false_unless}
use Rattle.laws.specs.Bytes.{same_bytes}
use Rattle.laws.specs.ByteLaws.{are_same}
use Rattle.lines.specs.Pieces.{tab, one, more, in_front, split_on, list_of, fields_of, index_of, next_of}

-- A search by recursion is std's `position`, or the length where nothing passes.
found_or : (n m : ℕ) → n ≤ m → unwrap_or (cond (nat_lt n m) (Some n) None) m ≡ n
found_or n m h =
    by_test (λ (e : Bool). nat_lt n m ≡ e → unwrap_or (cond e (Some n) None) m ≡ n) (nat_lt n m)
    (λ q e. refl)
    (λ q e. let k = ltb-false n m e in omega arith)
    refl

pub as_position : (F : List ℕ → ℕ) (p : ℕ → Bool) → F [] ≡ 0 → ((x : ℕ) (xs : List ℕ) → F (x ∷ xs) ≡ cond (p x) 0 (1 + F xs)) → (u : List ℕ) → F u ≡ unwrap_or (position p u) (length u)
as_position F p none step u = is_position_or_len F p none step u ∙ sym (found_or (position_or_len p u) (length u) (prefix_len-le-length (λ x. not (p x)) u))

pub next_position : (t : List ℕ) (at c : ℕ) → next_of t at c ≡ at + unwrap_or (position (λ x. eqb x c) (drop at t)) (length (drop at t))
unfolding next_of index_of
next_position t at c = ap (λ (n : ℕ). at + n) (as_position (index_of c) (λ x. eqb x c) refl (λ x xs. simp one-add) (drop at t))

-- The search: it ends at a c or at the end of the text, and else goes on.
module _ (t : List ℕ) (i c : ℕ) where
  pub next_here : i < length t → get_or t i 0 ≡ c → i ≡ next_of t i c
  unfolding next_of index_of
  next_here lt e = rw (drop-cons t i 0 lt, eq-eqb (get_or t i 0) c e) (omega arith)

  pub next_on : i < length t → (get_or t i 0 ≡ c → ⊥) → next_of t i c ≡ next_of t (i + 1) c
  unfolding next_of index_of
  next_on lt e = rw (add-one i, drop-cons t i 0 lt, ne_eqb (get_or t i 0) c e) (omega arith)

  pub next_end : length t ≤ i → i ≡ next_of t i c
  unfolding next_of index_of
  next_end le = rw (drop_of_length-le t le) (omega arith)

index_inside : (c : ℕ) (t : List ℕ) → index_of c t ≤ length t
unfolding index_of
index_inside c [] = omega arith
index_inside c (b ∷ t) =
    by_test (λ (e : Bool). pick e 0 (suc (index_of c t)) ≤ suc (length t)) (eqb b c) (λ q. omega arith) (λ q. let h = index_inside c t in omega arith)

-- The place that it finds is not before where it began, nor behind the end.
pub next_low : (t : List ℕ) (at c : ℕ) → at ≤ next_of t at c
unfolding next_of
next_low t at c = omega arith

pub next_high : (t : List ℕ) (at c : ℕ) → at ≤ length t → next_of t at c ≤ length t
unfolding next_of
next_high t at c h = let k = index_inside c (drop at t) in let l = length-drop at t in omega arith

-- A text is cut at its first c: what stands before it, and the cut of what stands behind it.
cut_here : (c : ℕ) (t : List ℕ) → index_of c t < length t → split_on c t ≡ more (take (index_of c t) t) (split_on c (drop (suc (index_of c t)) t))
unfolding split_on index_of
cut_here c [] h = absurd (omega arith)
cut_here c (b ∷ t) h =
    by_test (λ (e : Bool). pick e 0 (suc (index_of c t)) < suc (length t) → pick e (more [] (split_on c t)) (in_front b (split_on c t)) ≡ more (take (pick e 0 (suc (index_of c t))) (b ∷ t)) (split_on c (drop (suc (pick e 0 (suc (index_of c t)))) (b ∷ t)))) (eqb b c)
    (λ q l. refl)
    (λ q l. rw (cut_here c t (omega arith)) refl)
    h

cut_nowhere : (c : ℕ) (t : List ℕ) → length t ≤ index_of c t → split_on c t ≡ one t
unfolding split_on index_of
cut_nowhere c [] h = refl
cut_nowhere c (b ∷ t) h =
    by_test (λ (e : Bool). suc (length t) ≤ pick e 0 (suc (index_of c t)) → pick e (more [] (split_on c t)) (in_front b (split_on c t)) ≡ one (b ∷ t)) (eqb b c)
    (λ q l. absurd (omega arith))
    (λ q l. rw (cut_nowhere c t (omega arith)) refl)
    h

-- The same at the place r that a search from `at` on finds.
module _ (t : List ℕ) (at c : ℕ) {r : ℕ} (is : r ≡ next_of t at c) where
  behind : (n : ℕ) → n ≡ index_of c (drop at t) → drop (suc n) (drop at t) ≡ drop (r + 1) t
  unfolding next_of
  behind n e = let k : at + suc n ≡ r + 1 = omega arith in drop-drop (suc n) at t ∙ ap (λ (m : ℕ). drop m t) k

  pub part_more : at ≤ length t → r < length t → split_on c (drop at t) ≡ more (take (r - at) (drop at t)) (split_on c (drop (r + 1) t))
  unfolding next_of
  part_more low lt =
      let l = length-drop at t in
      let n : index_of c (drop at t) ≡ r - at = omega arith in
      cut_here c (drop at t) (omega arith) ∙ (λ i. more (take (n i) (drop at t)) (split_on c (behind (index_of c (drop at t)) refl i)))

  pub part_last : at ≤ length t → length t ≤ r → split_on c (drop at t) ≡ one (drop at t)
  unfolding next_of
  part_last low le = let l = length-drop at t in cut_nowhere c (drop at t) (omega arith)

-- the fields behind the one that ends at the place r
unfoldable pub fields_behind : List ℕ → ℕ → List (List ℕ)
fields_behind line r = pick (ltb r (length line)) (fields_of (drop (r + 1) line)) []

-- A field, and those behind it.
pub field_next : (line : List ℕ) (at : ℕ) {r : ℕ} → at ≤ length line → r ≡ next_of line at tab → fields_of (drop at line) ≡ take (r - at) (drop at line) ∷ fields_behind line r
unfolding fields_of list_of fields_behind
field_next line at {r} low is =
    by_test (λ (e : Bool). ltb r (length line) ≡ e → list_of (split_on tab (drop at line)) ≡ take (r - at) (drop at line) ∷ pick e (list_of (split_on tab (drop (r + 1) line))) []) (ltb r (length line))
    (λ q e. rw (part_more line at tab is low (ltb-true r (length line) e)) refl)
    (λ q e.
    let le = ltb-false r (length line) e in
    let l = length-drop at line in
    rw (part_last line at tab is low le) (ap (λ (p : List ℕ). p ∷ []) (sym (take_all (r - at) (drop at line) (omega arith)))))
    refl

-- There is a field behind the one that ends at r, or none.
pub field_more : (line : List ℕ) {r : ℕ} → r < length line → fields_behind line r ≡ fields_of (drop (r + 1) line)
unfolding fields_behind
field_more line {r} lt = rw (lt-ltb r (length line) lt) refl

pub field_none : (line : List ℕ) {r : ℕ} → length line ≤ r → fields_behind line r ≡ []
unfolding fields_behind
field_none line {r} le = rw (le-ltb r (length line) le) refl

-- Two texts compared byte by byte, from the place i on.
pub lengths_differ : (x y : List ℕ) → (length x ≡ length y → ⊥) → false ≡ same_bytes x y
lengths_differ x y n = sym (false_unless (same_bytes x y) (λ e. n (ap length (are_same x y e))))

module _ (x y : List ℕ) (i : ℕ) (long : length x ≡ length y) where
  compare_step : i < length x → same_bytes (drop i x) (drop i y) ≡ both (eqb (get_or x i 0) (get_or y i 0)) (same_bytes (drop (i + 1) x) (drop (i + 1) y))
  unfolding same_bytes
  compare_step lt = rw (add-one i, drop-cons x i 0 lt, drop-cons y i 0 (omega arith)) refl

  pub compare_no : i < length x → (get_or x i 0 ≡ get_or y i 0 → ⊥) → same_bytes (drop i x) (drop i y) ≡ false
  compare_no lt n = compare_step lt ∙ rw (ne_eqb (get_or x i 0) (get_or y i 0) n) refl

  pub compare_on : i < length x → get_or x i 0 ≡ get_or y i 0 → same_bytes (drop i x) (drop i y) ≡ same_bytes (drop (i + 1) x) (drop (i + 1) y)
  compare_on lt e = compare_step lt ∙ rw (eq-eqb (get_or x i 0) (get_or y i 0) e) refl

  pub compare_end : length x ≤ i → same_bytes (drop i x) (drop i y) ≡ true
  unfolding same_bytes
  compare_end le = let other : length y ≤ i = omega arith in rw (drop_of_length-le x le, drop_of_length-le y other) refl
