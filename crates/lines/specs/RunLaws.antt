-- Laws of number fields in a text: digits are read as far as they go, at most so many; a field that ends behind them is made of these
-- digits, and any other has a byte that is no digit, or too many.
use Rattle.std.specs.Prelude.{◌≡◌, refl, ◌⊎◌, Bool, true, false, leb, ltb, eqb, get_or, length, take}
use Rattle.std.proofs.Math.Path.{ap}
use Rattle.std.proofs.Common.{sym, ◌∙◌, inl, inr, pow-suc, length-take, take-suc, get_or-drop, get_or-take}
use Rattle.std.proofs.Math.Logic.{⊎_elim}
use mathlib.Core.List.{List, [], ◌∷◌, ◌++◌}
use Prim.Native.Nat.{ℕ, zero, suc, ◌+◌, ◌-◌, ◌*◌, ◌^◌, ◌<◌, ◌≤◌}
use native.Mathlib.Omega.{arith}
use Rattle.std.proofs.Math.Decide.{dec_lt}
use borrow.Author.Tests.{lt-ltb, ltb-true}
use Rattle.std.proofs.Math.ListN.{drop, length-drop}
use Rattle.std.specs.Char.{is_ascii_digit}
use Rattle.laws.specs.Truth.{pick, both, within}
use Rattle.laws.specs.TruthLaws.{both_true, both_hold, by_test, within_true, clash, false_unless}
use Rattle.laws.specs.Text.{byte}
use Rattle.laws.specs.Search.{every_line}
use Rattle.laws.specs.SearchLaws.{every_at, every_joined}
use Rattle.digits.specs.Digits.{Figure, is_digit, value_from, value_of, no_leading_zero, is_number, is_fixed, figure_of}
use Rattle.digits.specs.FigureLaws.{few_digits, number_empty, number_long, number_zero, number_one, number_more, fixed_other, fixed_right}
use Rattle.lines.specs.declared.Asked.{Asked}
use Rattle.lines.specs.declared.Asked.TheVariants.{Nothing, Code, Mark}
use Rattle.lines.specs.declared.Cell.{Cell}
use Rattle.lines.specs.Pieces.{tab, lf, stops, field_length, stop_of, stops_at}
use Rattle.lines.specs.Fields.{code_in, mark_in, cell_of, field_text, no_field, number_field, field_with, field_at, figure_at}
use Rattle.lines.specs.StopLaws.{other_not, stop_low}

-- a digit is what std calls one
pub ascii_digit : (b : ℕ) → is_digit b ≡ is_ascii_digit b
unfolding is_digit
ascii_digit b = refl

-- the bytes from one place to another
abbrev part_of : List ℕ → ℕ → ℕ → List ℕ
part_of t from to = take (to - from) (drop from t)

part_more : (t : List ℕ) (from i : ℕ) → from ≤ i → i < length t → part_of t from (i + 1) ≡ part_of t from i ++ (get_or t i 0 ∷ [])
part_more t from i low lt =
    let l = length-drop from t in
    let n : i + 1 - from ≡ suc (i - from) = omega arith in
    let k : from + (i - from) ≡ i = omega arith in
    rw n (take-suc (drop from t) (i - from) 0 (omega arith) ∙ rw (get_or-drop from t (i - from) 0, k))

value_last : (v b : ℕ) (f : List ℕ) → value_from v (f ++ (b ∷ [])) ≡ value_from v f * 10 + (b - byte "0")
unfolding value_from
value_last v b [] = refl
value_last v b (x ∷ f) = value_last (v * 10 + (x - byte "0")) b f

-- Digits from a place on, read as far as i: they write the number v.
pub record Running (t : List ℕ) (from v i : ℕ) : Type 0 where
  pub begins : from ≤ i
  pub low : i ≤ length t
  pub small : v < 10 ^ (i - from)
  pub digits : every_line is_digit (take (i - from) (drop from t)) ≡ true
  pub value : v ≡ value_of (take (i - from) (drop from t))

running_starts : (t : List ℕ) (from : ℕ) → from ≤ length t → Running t from 0 from
unfolding every_line value_of value_from
running_starts t from h = let n : from - from ≡ 0 = omega arith in record { begins = omega arith; low = h; small = rw n (omega arith); digits = rw n; value = rw n }

running_on : {t : List ℕ} {from v i : ℕ} → Running t from v i → i < length t → is_digit (get_or t i 0) ≡ true → Running t from (v * 10 + (get_or t i 0 - byte "0")) (i + 1)
unfolding value_of is_digit every_line
running_on {t} {from} {v} {i} g lt e =
    let begins = g.begins in
    let n : i + 1 - from ≡ suc (i - from) = omega arith in
    let d = within_true (byte "0") (byte "9") (get_or t i 0) e in
    let value = g.value in
    record {
      begins = omega arith;
      low = omega arith;
      small = rw (n, pow-suc 10 (i - from)) (omega (arith, g.small));
      digits = rw (part_more t from i begins lt) (every_joined is_digit (part_of t from i) (get_or t i 0 ∷ []) g.digits (both_hold e refl));
      value = rw (part_more t from i begins lt, value_last 0 (get_or t i 0) (part_of t from i)) (ap (λ (w : ℕ). w * 10 + (get_or t i 0 - byte "0")) value);
    }

-- All of them, at most so many: no further one stands behind them.
pub record RunIs (t : List ℕ) (from most v stop : ℕ) : Type 0 where
  pub run : Running t from v stop
  pub few : stop ≤ from + most
  pub all : stop < from + most → stop < length t → is_digit (get_or t stop 0) ≡ false

-- The loop over them, which has come to stop and will not go behind end.
pub record RunTo (t : List ℕ) (from most end v stop : ℕ) : Type 0 where
  pub run : Running t from v stop
  pub before : stop ≤ end
  pub end_few : end ≤ from + most
  pub end_low : end ≤ length t
  pub end_is : end < from + most → length t ≤ end
  pub width : most ≤ 9

pub run_starts : (t : List ℕ) (from most : ℕ) → from ≤ length t → most ≤ 9 → {r : ℕ} → (r ≤ from + most) × ((r ≤ length t) × ((r ≡ from + most → ⊥) → r ≡ length t)) → RunTo t from most r 0 from
run_starts t from most low width {r} e =
    let a = e.0 in
    let b = e.1.0 in
    record { run = running_starts t from low; before = reaches (dec_lt r from); end_few = a; end_low = b; end_is = λ lt. (let k = e.1.1 (λ (z : r ≡ from + most). omega arith) in omega arith); width = width }
  where
    reaches : Dec (r < from) → from ≤ r
    reaches (yes q) = let k = e.1.1 (λ (z : r ≡ from + most). omega arith) in absurd (omega arith)
    reaches (no q) = omega arith

module _ {t : List ℕ} {from most end v stop : ℕ} (g : RunTo t from most end v stop) where
  pub run_before : (stop ≡ end → ⊥) → stop < length t
  run_before n = let before = g.before in let low = g.end_low in omega arith

  pub run_less : (stop ≡ end → ⊥) → end - (stop + 1) < end - stop
  run_less n = let before = g.before in omega arith

  -- A digit more than eight fits 32 bits.
  pub run_small : (stop ≡ end → ⊥) → v < 100000000
  run_small n =
      let before = g.before in
      let begins = g.run.begins in
      let width = g.width in
      let few = g.end_few in
      let p = few_digits (stop - from) (omega arith) in
      let small = g.run.small in
      omega arith

  pub run_digit : is_digit (get_or t stop 0) ≡ true → (byte "0" ≤ get_or t stop 0) × (get_or t stop 0 ≤ byte "9")
  unfolding is_digit
  run_digit e = within_true (byte "0") (byte "9") (get_or t stop 0) e

  pub run_on : (stop ≡ end → ⊥) → is_digit (get_or t stop 0) ≡ true → RunTo t from most end (v * 10 + (get_or t stop 0 - byte "0")) (stop + 1)
  run_on n e =
      let before = g.before in
      let low = g.end_low in
      record { run = running_on g.run (omega arith) e; before = omega arith; end_few = g.end_few; end_low = g.end_low; end_is = g.end_is; width = g.width }

  pub run_halts : is_digit (get_or t stop 0) ≡ false → RunIs t from most v stop
  run_halts e = let before = g.before in let few = g.end_few in record { run = g.run; few = omega arith; all = λ a b. e }

  pub run_ends : stop ≡ end → RunIs t from most v stop
  run_ends le =
      let before = g.before in
      let few = g.end_few in
      record { run = g.run; few = omega arith; all = λ a b. (let k = g.end_is (omega arith) in absurd (omega arith)) }

-- A digit does not end a field.
digit_goes : (b : ℕ) → is_digit b ≡ true → stops b ≡ false
unfolding is_digit
digit_goes b e = let h = within_true (byte "0") (byte "9") b e in other_not (λ (z : b ≡ tab). omega arith) (λ (z : b ≡ lf). omega arith)

ends_behind : (n : ℕ) (u : List ℕ) → every_line is_digit (take n u) ≡ true → n < length u → stops (get_or u n 0) ≡ true → field_length u ≡ n
unfolding every_line field_length
ends_behind n [] d lt e = absurd (omega arith)
ends_behind zero (b ∷ u) d lt e = rw e
ends_behind (suc n) (b ∷ u) d lt e =
    let h = both_true (is_digit b) _ d in
    rw (digit_goes b h.0) (ap suc (ends_behind n u h.1 (omega arith) e))

goes_on : (n : ℕ) (u : List ℕ) → every_line is_digit (take n u) ≡ true → (n < length u → stops (get_or u n 0) ≡ false) → field_length u < length u → n < field_length u
unfolding every_line field_length
goes_on n [] d e lt = absurd (omega arith)
goes_on zero (b ∷ u) d e lt = let q : stops b ≡ false = e (omega arith) in rw q (omega arith)
goes_on (suc n) (b ∷ u) d e lt =
    let h = both_true (is_digit b) _ d in
    let q = digit_goes b h.0 in
    let k = goes_on n u h.1 (λ z. e (omega arith)) (let l = rw q at lt in omega arith) in
    rw q (omega arith)

-- A field that has not the form is none.
field_none : (c : Cell) (t : List ℕ) (from : ℕ) → (stop_of t from < length t → c.right ≡ false) → no_field ≡ field_with c t from
unfolding field_with
field_none c t from h =
    by_test (λ (e : Bool). ltb (stop_of t from) (length t) ≡ e → no_field ≡ pick (both e c.right) (record { cell = c; stop = stop_of t from }) no_field) (ltb (stop_of t from) (length t))
    (λ q e. rw (h (ltb-true _ _ e)))
    (λ q e. refl)
    refl

field_some : (c : Cell) (t : List ℕ) (from : ℕ) → stop_of t from < length t → c.right ≡ true → record { cell = c; stop = stop_of t from } ≡ field_with c t from
unfolding field_with
field_some c t from h e = rw (lt-ltb (stop_of t from) (length t) h, e)

module _ {t : List ℕ} {from most v stop : ℕ} (r : RunIs t from most v stop) where
  -- Where a tab or LF stands behind the digits, the field is made of them.
  module _ (ends : stops_at t stop ≡ true) where
    run_inside : stop < length t
    unfolding stops_at
    run_inside = ltb-true stop (length t) (both_true (ltb stop (length t)) _ ends).0

    run_stops : stop_of t from ≡ stop
    unfolding stop_of stops_at
    run_stops =
        let low = r.run.begins in
        let lt = run_inside in
        let l = length-drop from t in
        let k : from + (stop - from) ≡ stop = omega arith in
        let b = (both_true (ltb stop (length t)) _ ends).1 in
        let e = ends_behind (stop - from) (drop from t) r.run.digits (omega arith) (rw (get_or-drop from t (stop - from) 0, k) b) in
        omega arith

    run_text : field_text t from ≡ take (stop - from) (drop from t)
    run_text = rw run_stops

    run_length : length (field_text t from) ≡ stop - from
    run_length =
        let low = r.run.begins in
        let lt = run_inside in
        let l = length-drop from t in
        let k = length-take (stop - from) (drop from t) in
        rw run_stops (omega arith)

  -- Else it goes on with a byte that is no digit, or it has too many.
  run_wrong : stops_at t stop ≡ false → stop_of t from < length t → (most < length (field_text t from)) ⊎ (every_line is_digit (field_text t from) ≡ false)
  unfolding stop_of stops_at
  run_wrong ends lt = go (dec_lt (stop - from) most)
    where
      u : List ℕ
      u = drop from t

      place : from + (stop - from) ≡ stop
      place = let low = r.run.begins in omega arith

      on : stop - from < length u → stops (get_or u (stop - from) 0) ≡ false
      on h =
          let l = length-drop from t in
          let p = place in
          rw (get_or-drop from t (stop - from) 0, place) (rw (lt-ltb stop (length t) (omega arith)) at ends)

      less : stop - from < field_length u
      less = let l = length-drop from t in goes_on (stop - from) u r.run.digits on (omega arith)

      long : length (field_text t from) ≡ field_length u
      long =
          let l = length-drop from t in
          let n : from + field_length u - from ≡ field_length u = omega arith in
          let k = length-take (field_length u) u in
          rw n (omega arith)

      go : Dec (stop - from < most) → (most < length (field_text t from)) ⊎ (every_line is_digit (field_text t from) ≡ false)
      go (yes q) = inr (false_unless _ (λ e. let l = length-drop from t in let low = r.run.begins in let k = less in let m = long in clash (rw (get_or-take (stop_of t from - from) u (stop - from) 0 (omega arith), get_or-drop from t (stop - from) 0, place) at (every_at is_digit (field_text t from) (stop - from) 0 e (omega arith))) (r.all (omega arith) (omega arith))))
      go (no q) = inl (let k = less in let m = long in omega arith)

-- What is read of a field of digits.
module _ {t : List ℕ} {from most v stop : ℕ} (r : RunIs t from most v stop) (right : List ℕ → Bool) where
  figure_right : stops_at t stop ≡ true → right (field_text t from) ≡ true → number_field v stop ≡ figure_at right t from
  unfolding figure_of field_with
  figure_right ends e =
      let value : v ≡ value_of (field_text t from) = r.run.value ∙ ap value_of (sym (run_text r ends)) in
      rw (e, lt-ltb (stop_of t from) (length t) (rw (run_stops r ends) (run_inside r ends)), value, run_stops r ends)

  figure_wrong : right (field_text t from) ≡ false → no_field ≡ figure_at right t from
  unfolding figure_of
  figure_wrong e = field_none _ t from (λ lt. e)

  figure_goes_on : stops_at t stop ≡ false → (most < length (field_text t from) → right (field_text t from) ≡ false) → (every_line is_digit (field_text t from) ≡ false → right (field_text t from) ≡ false) → no_field ≡ figure_at right t from
  unfolding figure_of
  figure_goes_on ends long other = field_none _ t from (λ lt. ⊎_elim long other (run_wrong r ends lt))

not_digits : (a b c : Bool) → c ≡ false → both a (both b c) ≡ false
not_digits true true c e = e
not_digits true false c e = refl
not_digits false b c e = refl

module _ {t : List ℕ} {from v stop : ℕ} (r : RunIs t from 9 v stop) where
  pub number_none : stops_at t stop ≡ false → no_field ≡ figure_at is_number t from
  unfolding is_number figure_of
  number_none ends = figure_goes_on r is_number ends (λ h. ap (λ (f : Figure). f.right) (sym (number_long (field_text t from) h))) (λ e. not_digits (within 1 9 (length (field_text t from))) (no_leading_zero (field_text t from)) (every_line is_digit (field_text t from)) e)

  module _ (ends : stops_at t stop ≡ true) where
    all_digits : every_line is_digit (field_text t from) ≡ true
    all_digits = rw (run_text r ends) r.run.digits

    first_byte_lem : from < stop → get_or (field_text t from) 0 0 ≡ get_or t from 0
    first_byte_lem lt = let k : from + 0 ≡ from = omega arith in rw (run_text r ends, get_or-take (stop - from) (drop from t) 0 0 (omega arith), get_or-drop from t 0 0, k)

    pub number_empty_at : stop ≡ from → no_field ≡ figure_at is_number t from
    unfolding figure_of
    number_empty_at e = figure_wrong r is_number (ap (λ (f : Figure). f.right) (sym (number_empty (field_text t from) (run_length r ends ∙ omega arith))))

    pub number_one_at : stop - from ≡ 1 → number_field v stop ≡ figure_at is_number t from
    unfolding figure_of
    number_one_at e =
        let l = run_length r ends in
        figure_right r is_number ends (sym (ap (λ (f : Figure). f.right) (number_one (field_text t from) (λ z. omega arith) (omega arith))) ∙ all_digits)

    module _ (some : stop ≡ from → ⊥) (more : stop - from ≡ 1 → ⊥) where
      pub number_zero_at : get_or t from 0 ≡ byte "0" → no_field ≡ figure_at is_number t from
      unfolding figure_of
      number_zero_at e =
          let l = run_length r ends in
          let low = r.run.begins in
          let few = r.few in
          figure_wrong r is_number (ap (λ (f : Figure). f.right) (sym (number_zero (field_text t from) (omega arith) (omega arith) (first_byte_lem (omega arith) ∙ e))))

      pub number_more_at : (get_or t from 0 ≡ byte "0" → ⊥) → number_field v stop ≡ figure_at is_number t from
      unfolding figure_of
      number_more_at n =
          let l = run_length r ends in
          let low = r.run.begins in
          let few = r.few in
          figure_right r is_number ends (sym (ap (λ (f : Figure). f.right) (number_more (field_text t from) (omega arith) (omega arith) (λ z. n (sym (first_byte_lem (omega arith)) ∙ z)))) ∙ all_digits)

module _ {t : List ℕ} {from width v stop : ℕ} (r : RunIs t from width v stop) (few : width ≤ 9) where
  fixed_not : (length (field_text t from) ≡ width → ⊥) → is_fixed width (field_text t from) ≡ false
  unfolding figure_of
  fixed_not n = ap (λ (f : Figure). f.right) (sym (fixed_other (field_text t from) width few n))

  pub fixed_none : stops_at t stop ≡ false → no_field ≡ figure_at (is_fixed width) t from
  unfolding is_fixed figure_of
  fixed_none ends = figure_goes_on r (is_fixed width) ends (λ h. fixed_not (λ z. omega arith)) (λ e. not_digits (leb width 9) (eqb (length (field_text t from)) width) (every_line is_digit (field_text t from)) e)

  module _ (ends : stops_at t stop ≡ true) where
    pub fixed_other_at : (stop - from ≡ width → ⊥) → no_field ≡ figure_at (is_fixed width) t from
    fixed_other_at n = let l = run_length r ends in let low = r.run.begins in figure_wrong r (is_fixed width) (fixed_not (λ z. n (omega arith)))

    pub fixed_right_at : stop - from ≡ width → number_field v stop ≡ figure_at (is_fixed width) t from
    unfolding figure_of
    fixed_right_at e =
        let l = run_length r ends in
        figure_right r (is_fixed width) ends (sym (ap (λ (f : Figure). f.right) (fixed_right (field_text t from) width few (omega arith))) ∙ rw (run_text r ends) r.run.digits)

-- A field of a code or a mark, which any bytes may be.
module _ (t : List ℕ) (from : ℕ) {stop : ℕ} (is : stop ≡ stop_of t from) where
  pub text_ends : (asked : Asked) → length t ≤ stop → no_field ≡ field_at asked t from
  unfolding field_at
  text_ends asked h = field_none _ t from (λ lt. absurd (omega arith))

  module _ (lt : stop < length t) where
    pub code_field : {code : List ℕ} → code ≡ code_in (take (stop - from) (drop from t)) → record { cell = record { right = true; number = 0; code = code }; stop = stop } ≡ field_at Code t from
    unfolding field_at cell_of
    code_field e = rw (e, is) (field_some (cell_of Code (field_text t from)) t from (rw (← is) lt) refl)

    pub mark_field : {mark : ℕ} → mark ≡ mark_in (take (stop - from) (drop from t)) → number_field mark stop ≡ field_at Mark t from
    unfolding field_at cell_of
    mark_field e = rw (e, is) (field_some (cell_of Mark (field_text t from)) t from (rw (← is) lt) refl)

-- No field begins behind the end of the text, and none has a form where nothing is asked.
pub field_behind_lem : (c : Cell) (t : List ℕ) (from : ℕ) → length t < from → no_field ≡ field_with c t from
field_behind_lem c t from h = field_none c t from (λ lt. let s = stop_low t from in absurd (omega arith))

pub field_nothing : (t : List ℕ) (from : ℕ) → no_field ≡ field_at Nothing t from
unfolding field_at cell_of
field_nothing t from = field_none _ t from (λ lt. refl)
