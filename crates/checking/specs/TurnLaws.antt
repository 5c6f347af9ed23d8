-- Laws of a line's form: what the line says by its letter, once its fields are read.
use Rattle.std.specs.Prelude.{◌≡◌, Bool, List, [], ℕ, ◌+◌, ◌<◌, ◌≤◌, get_or, length, take}
use Rattle.std.proofs.Math.Path.{refl, sym}
use Rattle.std.proofs.Common.{ap, ◌∙◌, arith, ne_eqb, eqb-true, get_or-take, take_all}
use Rattle.std.proofs.Math.Bool.{true, false}
use Rattle.std.proofs.lemmas.Bool.{eqb-false}
use Rattle.std.proofs.Math.Dec.{eqb}
use Rattle.laws.specs.Truth.{pick}
use Rattle.laws.specs.TruthLaws.{by_test}
use Rattle.lines.specs.declared.Asked.{Asked}
use Rattle.lines.specs.declared.Asked.TheVariants.{Nothing}
use Rattle.lines.specs.declared.Cell.{Cell}
use Rattle.lines.specs.Fields.{has_form, cells_of}
use Rattle.lines.specs.CutLaws.{fields_behind}
use Rattle.lines.specs.LoopLaws.{InFields, row_fields, row_wrong, row_done, in_table}
use Rattle.sheet_lines.specs.Lines.{formless, head_form, future_form, option_form, stock_form, price_form, cell, future_from, option_from, stock_from, price_from, by_letter, letter_in, form_of, said, line_by, line_from, sheet_line}
use Rattle.sheet_lines.specs.Facts.{asked_table, place_for, fields_for}

-- One of the five letters of a sheet.
pub data Letter (letter : ℕ) : Type 0 where
  is_D : letter ≡ 68 → Letter letter
  is_F : letter ≡ 70 → Letter letter
  is_O : letter ≡ 79 → Letter letter
  is_S : letter ≡ 83 → Letter letter
  is_Q : letter ≡ 81 → Letter letter

-- What is said of a byte that is none of them.
no_letter : {A : Type 0} {letter : ℕ} (x y z u v : A) {other : A} → (letter ≡ 68 → ⊥) → (letter ≡ 70 → ⊥) → (letter ≡ 79 → ⊥) → (letter ≡ 83 → ⊥) → (letter ≡ 81 → ⊥) → by_letter letter x y z u v other ≡ other
no_letter x y z u v d f o s q = rw (ne_eqb _ 68 d, ne_eqb _ 70 f, ne_eqb _ 79 o, ne_eqb _ 83 s, ne_eqb _ 81 q)

-- A letter is one of them, or the form of its lines has no fields and it is told to have thirteen.
module _ (letter : ℕ) (P : Type 0) (known : Letter letter → P) where
  pub known_or_not : (form_of letter ≡ [] → ((cs : List Cell) → said letter cs ≡ formless) → fields_for letter ≡ 13 → place_for letter ≡ 33 → P) → P
  unfolding form_of said fields_for place_for
  known_or_not other =
      test 68 (λ e. known (is_D e)) (λ d. test 70 (λ e. known (is_F e)) (λ f. test 79 (λ e. known (is_O e)) (λ o. test 83 (λ e. known (is_S e)) (λ s. test 81 (λ e. known (is_Q e)) (λ q.
      other (no_letter _ _ _ _ _ d f o s q) (λ cs. no_letter _ _ _ _ _ d f o s q) (no_letter _ _ _ _ _ d f o s q) (no_letter _ _ _ _ _ d f o s q))))))
    where
      test : (c : ℕ) → (letter ≡ c → P) → ((letter ≡ c → ⊥) → P) → P
      test c is differs = by_test (λ (t : Bool). eqb letter c ≡ t → P) (eqb letter c) (λ q e. is (eqb-true letter c e)) (λ q e. differs (eqb-false letter c e)) refl

-- A letter of a sheet is told to have as many fields as its form, and no form has more than twelve.
pub fields_are : {letter : ℕ} → Letter letter → fields_for letter ≡ length (form_of letter)
unfolding fields_for form_of head_form future_form option_form stock_form price_form
fields_are (is_D e) = rw e
fields_are (is_F e) = rw e
fields_are (is_O e) = rw e
fields_are (is_S e) = rw e
fields_are (is_Q e) = rw e

known_few : {letter : ℕ} → Letter letter → fields_for letter ≤ 12
unfolding fields_for
known_few (is_D e) = rw e (omega arith)
known_few (is_F e) = rw e (omega arith)
known_few (is_O e) = rw e (omega arith)
known_few (is_S e) = rw e (omega arith)
known_few (is_Q e) = rw e (omega arith)

pub form_few : (letter : ℕ) → length (form_of letter) ≤ 12
form_few letter =
    known_or_not letter (length (form_of letter) ≤ 12)
    (λ known. let h = known_few known in let e = fields_are known in omega arith)
    (λ e s f p. rw e (omega arith))

-- In the table what a letter's form asks stands from its place on, and Nothing behind it.
abbrev Found : ℕ → ℕ → List Asked → Type 0
Found place k form = (place + k < 34) × (get_or asked_table (place + k) Nothing ≡ get_or form k Nothing)

known_at : {letter : ℕ} (k : ℕ) → Letter letter → k ≤ length (form_of letter) → Found (place_for letter) k (form_of letter)
unfolding form_of place_for asked_table head_form future_form option_form stock_form price_form
known_at k (is_D e) h = let few : k ≤ length head_form = rw e at h in rw e (omega arith, in_table Nothing asked_table head_form _ 0 refl k few)
known_at k (is_F e) h = let few : k ≤ length future_form = rw e at h in rw e (omega arith, in_table Nothing asked_table future_form _ 2 refl k few)
known_at k (is_O e) h = let few : k ≤ length option_form = rw e at h in rw e (omega arith, in_table Nothing asked_table option_form _ 5 refl k few)
known_at k (is_S e) h = let few : k ≤ length stock_form = rw e at h in rw e (omega arith, in_table Nothing asked_table stock_form _ 18 refl k few)
known_at k (is_Q e) h = let few : k ≤ length price_form = rw e at h in rw e (omega arith, in_table Nothing asked_table price_form _ 28 refl k few)

none_at : (k : ℕ) → k ≤ 0 → Found 33 k []
unfolding asked_table head_form future_form option_form stock_form price_form
none_at k h = (omega arith, in_table Nothing asked_table [] _ 33 refl k h)

pub form_at : (letter k : ℕ) → k ≤ length (form_of letter) → Found (place_for letter) k (form_of letter)
form_at letter k h =
    known_or_not letter (Found (place_for letter) k (form_of letter)) (λ known. known_at k known h)
    (λ e s f p. rw (p, e) (none_at k (let l : length (form_of letter) ≡ 0 = rw e in omega arith)))

-- What a line says goes by no more cells than its form has fields.
module _ (cs : List Cell) where
  taken : (n i : ℕ) → i < n → cell (take n cs) i ≡ cell cs i
  taken n i lt = get_or-take n cs i _ lt

pub said_taken : {letter : ℕ} (cs : List Cell) → Letter letter → length cs ≡ 12 → said letter (take (fields_for letter) cs) ≡ said letter cs
unfolding fields_for said future_from option_from stock_from price_from
said_taken cs (is_D e) long = rw (e, taken cs 1 0 (omega arith))
said_taken cs (is_F e) long = rw (e, taken cs 2 0 (omega arith), taken cs 2 1 (omega arith))
said_taken cs (is_O e) long = rw (e, take_all 12 cs (omega arith))
said_taken cs (is_S e) long = rw (e, taken cs 9 0 (omega arith), taken cs 9 1 (omega arith), taken cs 9 2 (omega arith), taken cs 9 3 (omega arith), taken cs 9 4 (omega arith), taken cs 9 5 (omega arith), taken cs 9 6 (omega arith), taken cs 9 7 (omega arith), taken cs 9 8 (omega arith))
said_taken cs (is_Q e) long = rw (e, taken cs 5 0 (omega arith), taken cs 5 1 (omega arith), taken cs 5 2 (omega arith), taken cs 5 3 (omega arith), taken cs 5 4 (omega arith))

-- What a line says, once its letter and its fields are read.
module _ {row : List ℕ} {first letter : ℕ} {cells : List Cell} {k stop : ℕ} (a : InFields letter_in form_of 12 row first letter cells k stop) where
  line_is : sheet_line row ≡ line_by letter (fields_behind row first)
  unfolding sheet_line line_from
  line_is = rw (row_fields row a.first_is) (ap (λ (l : ℕ). line_by l (fields_behind row first)) (sym a.letter_is))

  pub line_formless : has_form (form_of letter) (fields_behind row first) ≡ false → sheet_line row ≡ formless
  unfolding line_by
  line_formless e = line_is ∙ rw e

  module _ (done : length row ≤ stop) where
    -- Too few fields, or no letter of a sheet.
    pub line_wrong : (k ≡ fields_for letter → ⊥) → sheet_line row ≡ formless
    unfolding line_by
    line_wrong n =
        known_or_not letter (sheet_line row ≡ formless)
        (λ known. line_formless (row_wrong a done (λ e. n (e ∙ sym (fields_are known)))))
        (λ e s f p. line_is ∙ rw (s (cells_of (form_of letter) (fields_behind row first))) (never (has_form (form_of letter) (fields_behind row first))))
      where
        never : (t : Bool) → pick t formless formless ≡ formless
        never true = refl
        never false = refl

    -- A line of the form has a letter of a sheet, and says what its cells do.
    pub letter_known : k ≡ fields_for letter → Letter letter
    letter_known e =
        known_or_not letter (Letter letter) (λ known. known)
        (λ form s f p. let few = a.fields.few in let l : length (form_of letter) ≡ 0 = rw form in absurd (omega arith))

    pub line_right : k ≡ fields_for letter → sheet_line row ≡ said letter cells
    unfolding line_by
    line_right e =
        let known = letter_known e in
        let d = row_done a done (e ∙ fields_are known) in
        line_is ∙ rw (d.0, sym d.1, e) (said_taken cells known a.fields.long)
