-- Laws of a line's form: what the line says by its letter, once its fields are read.
use Rattle.std.specs.Prelude.{◌≡◌, ◌⊎◌, Bool, List, [], ℕ, ◌-◌, ◌<◌, ◌≤◌, eqb, get_or, length, take, drop, replicate}
use Rattle.std.proofs.Math.Path.{refl}
use Rattle.std.proofs.Common.{ap, sym, ◌∙◌, subst, inl, ⊎_elim, arith}
use Rattle.std.proofs.Math.Logic.{inr}
use Rattle.std.proofs.Math.Bool.{true, false}
use borrow.Author.Tests.{ne_eqb}
use Rattle.std.proofs.lemmas.List.{length-replicate}
use Rattle.laws.specs.Truth.{pick, both}
use Rattle.laws.specs.TruthLaws.{by_test}
use Rattle.laws.specs.Bytes.{same_bytes}
use Rattle.laws.specs.ByteLaws.{are_same}
use Rattle.laws.specs.Text.{byte, bytes}
use Rattle.lines.specs.declared.Cell.{Cell}
use Rattle.lines.specs.Pieces.{lf, next_of, stop_of}
use Rattle.lines.specs.Fields.{no_cell, has_form, cells_of}
use Rattle.lines.specs.CutLaws.{fields_behind}
use Rattle.lines.specs.StopLaws.{line_at}
use Rattle.lines.specs.LoopLaws.{InFields, InLine, line_begins, row_fields}
use Rattle.lines.specs.Behind.{chain_behind}
use Rattle.lines.specs.BehindLaws.{Unformed, chain_done, chain_wrong, chain_ends, chain_over}
use Rattle.book_lines.specs.declared.Item.{Item}
use Rattle.book_lines.specs.Lines.{Line, holding, pair, formless, head_form, holding_form, pair_form, head_from, holding_from, pair_from, line_in, line_from, book_line}
use Rattle.book_lines.specs.Facts.{by_letter, letter_in, form_for, parts_for, items_behind, head_of, holding_of, pair_of}
use Rattle.book_lines.specs.LetterLaws.{by_letters, Known}
use Rattle.book_lines.specs.LineLaws.{Read, by_cells, by_items, head_read, holding_read, pair_read}

-- What a line of a letter says by its cells, if it has the form.
unfoldable pub said_by : ℕ → List Cell → Line
said_by letter cs = by_letter letter (head_from cs) (holding (holding_from cs)) (pair (pair_from cs)) formless

by_letter_lem : (f : List ℕ) (fs : List (List ℕ)) → line_in f fs ≡ pick (has_form (form_for (letter_in f)) fs) (said_by (letter_in f) (cells_of (form_for (letter_in f)) fs)) formless
unfolding line_in letter_in form_for said_by same_bytes
by_letter_lem f fs =
    by_test (λ (a : Bool). same_bytes f (bytes "A") ≡ a → Goal a (same_bytes f (bytes "H")) (same_bytes f (bytes "M"))) (same_bytes f (bytes "A"))
    (λ q a. rw (are_same f (bytes "A") a) (one_form (has_form head_form fs) (head_from (cells_of head_form fs))))
    (λ q a.
    by_test (λ (h : Bool). same_bytes f (bytes "H") ≡ h → Goal false h (same_bytes f (bytes "M"))) (same_bytes f (bytes "H"))
    (λ q h. rw (are_same f (bytes "H") h) (one_form (has_form holding_form fs) (holding (holding_from (cells_of holding_form fs)))))
    (λ q h.
    by_test (Goal false false) (same_bytes f (bytes "M"))
    (λ m. one_form (has_form pair_form fs) (pair (pair_from (cells_of pair_form fs))))
    (λ m. no_form (has_form [] fs)))
    refl)
    refl
  where
    Goal : Bool → Bool → Bool → Type 0
    Goal a h m =
        pick (both a (has_form head_form fs)) (head_from (cells_of head_form fs)) (pick (both h (has_form holding_form fs)) (holding (holding_from (cells_of holding_form fs))) (pick (both m (has_form pair_form fs)) (pair (pair_from (cells_of pair_form fs))) formless))
        ≡ pick (has_form (form_for (pick a 65 (pick h 72 (pick m 77 0)))) fs) (said_by (pick a 65 (pick h 72 (pick m 77 0))) (cells_of (form_for (pick a 65 (pick h 72 (pick m 77 0)))) fs)) formless

    one_form : (t : Bool) (x : Line) → pick t x formless ≡ pick t x formless
    one_form t x = refl

    no_form : (t : Bool) → formless ≡ pick t formless formless
    no_form true = refl
    no_form false = refl

-- No form has more than twelve fields, and a letter of a book has as many as it is told to have.
pub form_few : (letter : ℕ) → length (form_for letter) ≤ 12
unfolding form_for head_form holding_form pair_form
form_few letter =
    by_test (λ (a : Bool). length (pick a head_form (pick (eqb letter (byte "H")) holding_form (pick (eqb letter (byte "M")) pair_form []))) ≤ 12) (eqb letter (byte "A"))
    (λ q. omega arith)
    (λ q.
    by_test (λ (h : Bool). length (pick h holding_form (pick (eqb letter (byte "M")) pair_form [])) ≤ 12) (eqb letter (byte "H"))
    (λ q. omega arith)
    (λ q. by_test (λ (m : Bool). length (pick m pair_form []) ≤ 12) (eqb letter (byte "M")) (λ q. omega arith) (λ q. omega arith)))

-- What a line says, once its letter is read.
module _ {row : List ℕ} {first letter : ℕ} {cells : List Cell} {k stop : ℕ} (a : InFields letter_in form_for 12 row first letter cells k stop) where
  line_is : book_line row ≡ pick (has_form (form_for letter) (fields_behind row first)) (said_by letter (cells_of (form_for letter) (fields_behind row first))) formless
  unfolding book_line line_from
  line_is = rw (row_fields row a.first_is) (subst (λ (l : ℕ). line_in (take (first - 0) (drop 0 row)) (fields_behind row first) ≡ pick (has_form (form_for l) (fields_behind row first)) (said_by l (cells_of (form_for l) (fields_behind row first))) formless) (sym a.letter_is) (by_letter_lem (take (first - 0) (drop 0 row)) (fields_behind row first)))

  line_formless : has_form (form_for letter) (fields_behind row first) ≡ false → book_line row ≡ formless
  line_formless e = line_is ∙ rw e

  -- No letter of a book.
  line_unknown : (letter ≡ 65 → ⊥) → (letter ≡ 72 → ⊥) → (letter ≡ 77 → ⊥) → book_line row ≡ formless
  unfolding said_by
  line_unknown x y z = line_is ∙ rw (ne_eqb letter 65 x, ne_eqb letter 72 y, ne_eqb letter 77 z) (never (has_form (form_for letter) (fields_behind row first)))
    where
      never : (t : Bool) → pick t formless formless ≡ formless
      never true = refl
      never false = refl

-- a line without its LF, or without the form
abbrev pub Formless : List ℕ → ℕ → Type 0
Formless t at = (length t ≤ next_of t at lf) ⊎ (book_line (line_at t at) ≡ formless)

-- the field of the letter
abbrev pub letter_text : List ℕ → ℕ → List ℕ
letter_text t at = take (stop_of t at - at) (drop at t)

-- What the line says, up to its LF.
abbrev pub Says : List ℕ → ℕ → Line → ℕ → Type 0
Says t at x stop = (book_line (line_at t at) ≡ x) × ((stop ≡ next_of t at lf) × (stop < length t))

-- A line says what the fields of its letter's form do, and has the form if they all have theirs and then an LF stands.
module _ (t : List ℕ) (at letter : ℕ) (is : letter ≡ letter_in (letter_text t at)) (lt : stop_of t at < length t) where
  opens : InLine letter_in form_for 12 t at (stop_of t at) letter (replicate 12 no_cell) 0 (stop_of t at)
  opens = line_begins t at (replicate 12 no_cell) refl lt is (length-replicate 12 no_cell)

  line_said : (chain_behind (form_for letter) t (stop_of t at)).right ≡ true → get_or t (chain_behind (form_for letter) t (stop_of t at)).stop 0 ≡ lf → Says t at (said_by letter (chain_behind (form_for letter) t (stop_of t at)).cells) (chain_behind (form_for letter) t (stop_of t at)).stop
  line_said r e =
      let d = chain_done (form_few letter) (form_for letter) opens refl r in
      let h = chain_ends (form_few letter) d e in
      (line_is opens.fields ∙ rw (h.1.0, h.1.1), (h.0, d.line.inside))

  line_unsaid : ((chain_behind (form_for letter) t (stop_of t at)).right ≡ true → get_or t (chain_behind (form_for letter) t (stop_of t at)).stop 0 ≡ lf → ⊥) → Formless t at
  line_unsaid n =
      ⊎_elim (λ h. inl h) (λ h. inr (line_formless opens.fields h))
      (by_test (λ (b : Bool). (chain_behind (form_for letter) t (stop_of t at)).right ≡ b → Unformed t at (form_for letter) (stop_of t at)) (chain_behind (form_for letter) t (stop_of t at)).right
      (λ q r. chain_over (form_few letter) (chain_done (form_few letter) (form_for letter) opens refl r) (n r))
      (λ q r. chain_wrong (form_few letter) (form_for letter) opens refl r)
      refl)

  -- So by the items of the letter's parts.
  module _ {A : Type 0} (f : List Item → A) (g : List Cell → A) (same : by_items f (items_behind (parts_for letter) t (stop_of t at)) ≡ by_cells g (chain_behind (form_for letter) t (stop_of t at))) where
    same_right : (items_behind (parts_for letter) t (stop_of t at)).right ≡ (chain_behind (form_for letter) t (stop_of t at)).right
    same_right = ap (λ (r : Read A). r.right) same

    same_stop : (items_behind (parts_for letter) t (stop_of t at)).stop ≡ (chain_behind (form_for letter) t (stop_of t at)).stop
    same_stop = ap (λ (r : Read A). r.stop) same

    items_said : (items_behind (parts_for letter) t (stop_of t at)).right ≡ true → get_or t (items_behind (parts_for letter) t (stop_of t at)).stop 0 ≡ lf → (x : A → Line) → said_by letter (chain_behind (form_for letter) t (stop_of t at)).cells ≡ x (g (chain_behind (form_for letter) t (stop_of t at)).cells) → Says t at (x (f (items_behind (parts_for letter) t (stop_of t at)).items)) (items_behind (parts_for letter) t (stop_of t at)).stop
    items_said r e x says =
        let h = line_said (sym same_right ∙ r) (rw same_stop at e) in
        (h.0 ∙ says ∙ ap (λ (y : Read A). x y.says) (sym same), (same_stop ∙ h.1.0, rw same_stop h.1.1))

    items_unsaid : ((items_behind (parts_for letter) t (stop_of t at)).right ≡ true → get_or t (items_behind (parts_for letter) t (stop_of t at)).stop 0 ≡ lf → ⊥) → Formless t at
    items_unsaid n = line_unsaid (λ r e. n (same_right ∙ r) (rw same_stop e))

module _ (t : List ℕ) (at : ℕ) {letter : ℕ} (is : letter ≡ letter_in (letter_text t at)) (lt : stop_of t at < length t) where
  -- A line that has not its LF, or not the form of its letter.
  pub unsaid : (Known letter → (items_behind (parts_for letter) t (stop_of t at)).right ≡ true → get_or t (items_behind (parts_for letter) t (stop_of t at)).stop 0 ≡ lf → ⊥) → Formless t at
  unfolding parts_for form_for
  unsaid n =
      by_letters letter (Formless t at)
      (λ l. items_unsaid t at letter is lt head_of head_from (rw l (head_read t (stop_of t at))) (n (λ x y z. x l)))
      (λ l. items_unsaid t at letter is lt holding_of holding_from (rw l (holding_read t (stop_of t at))) (n (λ x y z. y l)))
      (λ l. items_unsaid t at letter is lt pair_of pair_from (rw l (pair_read t (stop_of t at))) (n (λ x y z. z l)))
      (λ x y z. inr (line_unknown (opens t at letter is lt).fields x y z))

  -- What a line of each letter says.
  module _ (r : (items_behind (parts_for letter) t (stop_of t at)).right ≡ true) (e : get_or t (items_behind (parts_for letter) t (stop_of t at)).stop 0 ≡ lf) where
    pub head_said : letter ≡ 65 → Says t at (head_of (items_behind (parts_for letter) t (stop_of t at)).items) (items_behind (parts_for letter) t (stop_of t at)).stop
    unfolding parts_for form_for said_by
    head_said l = items_said t at letter is lt head_of head_from (rw l (head_read t (stop_of t at))) r e (λ (y : Line). y) (rw l)

    pub holding_said : letter ≡ 72 → Says t at (holding (holding_of (items_behind (parts_for letter) t (stop_of t at)).items)) (items_behind (parts_for letter) t (stop_of t at)).stop
    unfolding parts_for form_for said_by
    holding_said l = items_said t at letter is lt holding_of holding_from (rw l (holding_read t (stop_of t at))) r e holding (rw l)

    pub pair_said_lem : letter ≡ 77 → Says t at (pair (pair_of (items_behind (parts_for letter) t (stop_of t at)).items)) (items_behind (parts_for letter) t (stop_of t at)).stop
    unfolding parts_for form_for said_by
    pair_said_lem l = items_said t at letter is lt pair_of pair_from (rw l (pair_read t (stop_of t at))) r e pair (rw l)
