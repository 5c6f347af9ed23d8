-- Fields with the same bytes: where the bytes from two places on agree up to the end of a field, a field reads the
-- same there (document 01, "Text": "Fields parted by one tab").
use Rattle.std.specs.Prelude.{◌≡◌, Bool, false, List, [], ◌∷◌, ℕ, zero, suc, ◌+◌, ◌-◌, ◌<◌, ◌≤◌, eqb, ltb, get_or, take, drop}
use Rattle.std.proofs.Math.Path.{refl, sym}
use Rattle.std.proofs.Common.{ap, ◌∙◌, arith, add-one, eqb-true, eq-eqb, ltb-true, lt-ltb, length-take, length-drop, drop-cons, get_or-take, get_or-drop, ext_get_or}
use Rattle.std.proofs.Math.Bool.{true}
use Rattle.std.proofs.Math.Decide.{dec_lt}
use Rattle.std.proofs.Math.ListN.{length}
use Rattle.laws.specs.Truth.{pick, both}
use Rattle.std.specs.Cmp.Lexicographic.{pointwise}
use Rattle.laws.specs.TruthLaws.{by_test, both_true, both_hold, same_test, clash}
use Rattle.laws.specs.ByteLaws.{are_same, same_self, as_pointwise}
use Rattle.lines.specs.declared.Asked.{Asked}
use Rattle.lines.specs.declared.Asked.TheVariants.{Mark}
use Rattle.lines.specs.declared.Cell.{Cell}
use Rattle.lines.specs.declared.Field.{Field}
use Rattle.lines.specs.Pieces.{stops, stop_of}
use Rattle.lines.specs.Fields.{mark_in, cell_of, field_text, no_field, number_field, field_with, field_at}
use Rattle.lines.specs.StopLaws.{stop_here, stop_on, stop_byte}
use Rattle.lines.specs.RunLaws.{mark_field}
use Rattle.price_lines.specs.Heads.{same_for}

-- The n bytes at a and at b agree.
pub record Agree (t : List ℕ) (a b n : ℕ) : Type 0 where
  pub each : (k : ℕ) → k < n → get_or t (a + k) 0 ≡ get_or t (b + k) 0

byte_at : (t : List ℕ) {m n : ℕ} → m ≡ n → get_or t m 0 ≡ get_or t n 0
byte_at t e = ap (λ (i : ℕ). get_or t i 0) e

module _ {t : List ℕ} {a b n : ℕ} (s : Agree t a b n) where
  -- So do those of a part.
  pub agree_part : (i m : ℕ) → i + m ≤ n → Agree t (a + i) (b + i) m
  agree_part i m h = record { each = λ k lt. byte_at t (omega arith) ∙ s.each (i + k) (omega arith) ∙ byte_at t (omega arith) }

  agree_fewer : (m : ℕ) → m ≤ n → Agree t a b m
  agree_fewer m h = record { each = λ k lt. s.each k (omega arith) }

  -- And one more.
  agree_more : get_or t (a + n) 0 ≡ get_or t (b + n) 0 → Agree t a b (n + 1)
  agree_more e = record { each = λ k lt. go k lt (dec_lt k n) }
    where
      go : (k : ℕ) → k < n + 1 → Dec (k < n) → get_or t (a + k) 0 ≡ get_or t (b + k) 0
      go k lt (yes q) = s.each k q
      go k lt (no q) = byte_at t (omega arith) ∙ e ∙ byte_at t (omega arith)

-- So they do where they are told to be the same, one after the other.
pub same_told : {t : List ℕ} {a b : ℕ} (n : ℕ) → same_for t a b n ≡ true → Agree t a b n
unfolding same_for
same_told zero e = record { each = λ k lt. absurd (omega arith) }
same_told {t} {a} {b} (suc n) e =
    let h = both_true (same_for t a b n) _ e in
    agree_fewer (agree_more (same_told n h.0) (eqb-true _ _ h.1)) (suc n) (omega arith)

pub same_more : (t : List ℕ) (a b n : ℕ) {x y : Bool} → x ≡ same_for t a b n → y ≡ both x (eqb (get_or t (a + n) 0) (get_or t (b + n) 0)) → y ≡ same_for t a b (n + 1)
unfolding same_for
same_more t a b n e is = is ∙ rw (e, add-one n)

pub same_all : (t : List ℕ) (a b : ℕ) {n m : ℕ} {x : Bool} → x ≡ same_for t a b n → n ≡ m → x ≡ same_for t a b m
same_all t a b e is = e ∙ ap (same_for t a b) is

-- Slices are the same where their bytes agree.
slice_at : (t : List ℕ) (a n k : ℕ) → k < n → get_or (take n (drop a t)) k 0 ≡ get_or t (a + k) 0
slice_at t a n k lt = get_or-take n (drop a t) k 0 lt ∙ get_or-drop a t k 0

agree_slices : (t : List ℕ) (a b n : ℕ) → Agree t a b n → a + n ≤ length t → b + n ≤ length t → take n (drop a t) ≡ take n (drop b t)
agree_slices t a b n s ha hb =
    let la : length (take n (drop a t)) ≡ n = simp (length-take, length-drop) (omega arith) in
    let lb : length (take n (drop b t)) ≡ n = simp (length-take, length-drop) (omega arith) in
    ext_get_or 0 (take n (drop a t)) (take n (drop b t)) (omega arith)
    (λ k lt. slice_at t a n k (omega arith) ∙ s.each k (omega arith) ∙ sym (slice_at t b n k (omega arith)))

told_by : (t : List ℕ) (a b n : ℕ) → ((k : ℕ) → k < n → get_or t (a + k) 0 ≡ get_or t (b + k) 0) → same_for t a b n ≡ true
unfolding same_for
told_by t a b zero h = refl
told_by t a b (suc n) h = both_hold (told_by t a b n (λ k lt. h k (omega arith))) (eq-eqb _ _ (h n (omega arith)))

slices_told : (t : List ℕ) (a b n : ℕ) → take n (drop a t) ≡ take n (drop b t) → same_for t a b n ≡ true
slices_told t a b n e = told_by t a b n (λ k lt. sym (slice_at t a n k lt) ∙ ap (λ (l : List ℕ). get_or l k 0) e ∙ slice_at t b n k lt)

pub same_slices : (t : List ℕ) (a b n : ℕ) {m k : ℕ} → m ≡ n → k ≡ n → a + n ≤ length t → b + n ≤ length t → pointwise eqb (take m (drop a t)) (take k (drop b t)) ≡ same_for t a b n
same_slices t a b n is also ha hb =
    rw (is, also)
    (sym (as_pointwise _ _)
    ∙ same_test _ _ (λ e. slices_told t a b n (are_same _ _ e)) (λ e. rw (agree_slices t a b n (same_told n e) ha hb) (same_self _)))

pub agree_joined : {t : List ℕ} {a b : ℕ} → Agree t a b 8 → Agree t (a + 7) (b + 7) 8 → Agree t a b 15
agree_joined {t} {a} {b} s u = record { each = λ k lt. go k lt (dec_lt k 8) }
  where
    go : (k : ℕ) → k < 15 → Dec (k < 8) → get_or t (a + k) 0 ≡ get_or t (b + k) 0
    go k lt (yes q) = s.each k q
    go k lt (no q) = byte_at t (omega arith) ∙ u.each (k - 7) (omega arith) ∙ byte_at t (omega arith)

-- Where the bytes up to the end of a field agree, it ends there too, and has the same bytes.
stop_same : {t : List ℕ} (n : ℕ) {i j : ℕ} → Agree t i j (suc n) → i + n < length t → j + n < length t → stop_of t i ≡ i + n → stop_of t j ≡ j + n
stop_same {t} zero {i} {j} s hi hj e =
    let here : stop_of t i ≡ i = omega arith in
    let b : stops (get_or t i 0) ≡ true = rw here at (stop_byte t i (omega arith)) in
    let same : get_or t i 0 ≡ get_or t j 0 = byte_at t (omega arith) ∙ s.each 0 (omega arith) ∙ byte_at t (omega arith) in
    let h = stop_here t j (omega arith) (rw same at b) in
    omega arith
stop_same {t} (suc n) {i} {j} s hi hj e = go (stops (get_or t i 0)) refl (stop_same n (agree_part s 1 (suc n) (omega arith)) (omega arith) (omega arith))
  where
    go : (b : Bool) → stops (get_or t i 0) ≡ b → (stop_of t (i + 1) ≡ i + 1 + n → stop_of t (j + 1) ≡ j + 1 + n) → stop_of t j ≡ j + suc n
    go true b rest = let h = stop_here t i (omega arith) b in absurd (omega arith)
    go false b rest =
        let same : get_or t i 0 ≡ get_or t j 0 = byte_at t (omega arith) ∙ s.each 0 (omega arith) ∙ byte_at t (omega arith) in
        let h = stop_on t i (omega arith) b in
        let k = stop_on t j (omega arith) (rw same at b) in
        let r = rest (omega arith) in
        omega arith

text_same : {t : List ℕ} (n : ℕ) {i j : ℕ} → Agree t i j n → i + n ≤ length t → j + n ≤ length t → take n (drop i t) ≡ take n (drop j t)
text_same {t} n {i} {j} s hi hj =
    ext_get_or 0 (take n (drop i t)) (take n (drop j t)) (simp (length-take, length-drop) (omega arith))
    (λ k lt.
    let l = simp (length-take, length-drop) at lt in
    let h : k < n = omega arith in
    rw (get_or-take n (drop i t) k 0 h, get_or-take n (drop j t) k 0 h, get_or-drop i t k 0, get_or-drop j t k 0) (s.each k h))

-- A right field is what its form makes of its bytes, and a tab or LF stands behind it.
module _ (asked : Asked) (t : List ℕ) (from : ℕ) where
  abbrev Made : Field
  Made = record { cell = cell_of asked (field_text t from); stop = stop_of t from }

  right_made : (field_at asked t from).cell.right ≡ true → (stop_of t from < length t) × (field_at asked t from ≡ Made)
  unfolding field_at field_with cell_of
  right_made right =
      by_test (λ (b : Bool). both (ltb (stop_of t from) (length t)) (cell_of asked (field_text t from)).right ≡ b → (pick b Made no_field).cell.right ≡ true → (stop_of t from < length t) × (pick b Made no_field ≡ Made)) (both (ltb (stop_of t from) (length t)) (cell_of asked (field_text t from)).right)
      (λ q e r. (ltb-true _ _ (both_true (ltb (stop_of t from) (length t)) _ e).0, refl))
      (λ q e r. absurd (clash r refl))
      refl right

  made_right : stop_of t from < length t → (cell_of asked (field_text t from)).right ≡ true → field_at asked t from ≡ Made
  unfolding field_at field_with
  made_right lt e = rw (lt-ltb (stop_of t from) (length t) lt, e)

  pub right_inside : {f : Field} → f ≡ field_at asked t from → f.cell.right ≡ true → f.stop < length t
  right_inside is right = let p = right_made (rw is at right) in rw (is, p.1) p.0

-- So where the bytes agree, it is the same field.
pub same_field : (asked : Asked) {t : List ℕ} {i j : ℕ} (n : ℕ) → Agree t i j (n + 1) → j + n < length t → (field_at asked t i).cell.right ≡ true → (field_at asked t i).stop ≡ i + n → field_at asked t j ≡ record { cell = (field_at asked t i).cell; stop = j + n }
same_field asked {t} {i} {j} n s hj right stop =
    let p = right_made asked t i right in
    let ends : stop_of t i ≡ i + n = sym (ap (λ (f : Field). f.stop) p.1) ∙ stop in
    let inside = p.0 in
    let there = stop_same n (agree_fewer s (suc n) (omega arith)) (omega arith) hj ends in
    let size_i : stop_of t i - i ≡ n = omega arith in
    let size_j : stop_of t j - j ≡ n = omega arith in
    let text : field_text t i ≡ field_text t j = rw (size_i, size_j) (text_same n (agree_fewer s n (omega arith)) (omega arith) (omega arith)) in
    let cell : (field_at asked t i).cell ≡ cell_of asked (field_text t j) = ap (λ (f : Field). f.cell) p.1 ∙ ap (cell_of asked) text in
    made_right asked t j (omega arith) (sym (ap (λ (c : Cell). c.right) cell) ∙ right) ∙ (λ k. record { cell = sym cell k; stop = there k })

-- A field of one byte.
module _ (t : List ℕ) (i : ℕ) (lt : i + 1 < length t) (goes_on : stops (get_or t i 0) ≡ false) (ends : stops (get_or t (i + 1) 0) ≡ true) where
  pub one_stop : i + 1 ≡ stop_of t i
  one_stop = stop_here t (i + 1) lt ends ∙ sym (stop_on t i (omega arith) goes_on)

  pub one_text : take (i + 1 - i) (drop i t) ≡ get_or t i 0 ∷ []
  one_text = let n : i + 1 - i ≡ 1 = omega arith in rw (n, drop-cons t i 0 (omega arith))

  pub one_mark : field_at Mark t i ≡ number_field (get_or t i 0) (i + 1)
  unfolding mark_in
  one_mark = sym (mark_field t i one_stop lt (rw one_text))
