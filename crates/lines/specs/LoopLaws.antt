-- Laws of the loop over the fields of a line: a letter, then field by field what the form of the letter's line asks for. They are over
-- any letters and forms, so that every reader of lines has them.
use Rattle.std.specs.Prelude.{◌≡◌, ◌⊎◌, Bool, not, List, [], ◌∷◌, ◌++◌, ℕ, zero, suc, ◌+◌, ◌-◌, ◌<◌, ◌≤◌, ltb, get_or, take, drop, set}
use Rattle.std.proofs.Math.Path.{refl, ap, sym}
use Rattle.std.proofs.Common.{◌∙◌, inl, inr, ⊎_elim, append-nil, ltb-true, ltb-false, get_or-drop}
use Rattle.std.proofs.Math.Bool.{true, false}
use native.Mathlib.Omega.{arith}
use Rattle.std.proofs.Math.Decide.{dec_lt}
use Rattle.std.proofs.Math.Numerals.{add-one}
use Rattle.std.proofs.lemmas.Bool.{not-true}
use Rattle.std.proofs.Math.ListN.{length, length-set, drop_of_length-le, get_or-eq_default}
use Rattle.std.proofs.Math.Seq.{append_snoc, drop-cons, take-suc-set}
use Rattle.laws.specs.Truth.{pick, both}
use Rattle.laws.specs.TruthLaws.{clash, failed, passed, both_true, both_hold, by_test, false_unless}
use Rattle.lines.specs.declared.Asked.{Asked}
use Rattle.lines.specs.declared.Asked.TheVariants.{Nothing}
use Rattle.lines.specs.declared.Cell.{Cell}
use Rattle.lines.specs.declared.Field.{Field}
use Rattle.lines.specs.Pieces.{tab, lf, fields_of, next_of, stops, stop_of}
use Rattle.lines.specs.Fields.{cell_of, has_form, cells_of, field_text, no_field, field_with, field_at}
use Rattle.lines.specs.StopLaws.{stops_lf, stop_low, stop_byte, next_from, next_byte, line_at, line_length, stop_within, stop_in_line, text_in_line}
use Rattle.lines.specs.CutLaws.{next_here, next_low, next_high, fields_behind, field_next, field_more, field_none}

-- The place that a search ends at is inside the text.
pub ends_low : (t : List ℕ) (at c : ℕ) {end : ℕ} → end ≡ next_of t at c → at ≤ end
ends_low t at c e = let h = next_low t at c in omega arith

pub stops_low : (t : List ℕ) (at : ℕ) {stop : ℕ} → stop ≡ stop_of t at → at ≤ stop
stops_low t at e = let h = stop_low t at in omega arith

-- The loop over the fields fs behind the letter, with room for so many cells: k of them are read, and the last of these ends at `stop`.
pub record AtField (room : ℕ) (row : List ℕ) (form : List Asked) (fs : List (List ℕ)) (cells : List Cell) (k stop : ℕ) : Type 0 where
  pub low : stop ≤ length row
  pub few : k ≤ length form
  pub long : length cells ≡ room
  pub formed : has_form form fs ≡ has_form (drop k form) (fields_behind row stop)
  pub read : take k cells ++ cells_of (drop k form) (fields_behind row stop) ≡ cells_of form fs

module _ {room : ℕ} {row : List ℕ} {form : List Asked} {fs : List (List ℕ)} {cells : List Cell} {k stop : ℕ} (a : AtField room row form fs cells k stop) where
  module _ (lt : stop < length row) {next : ℕ} (is : next ≡ next_of row (stop + 1) tab) {c : Cell} (cell_is : c ≡ cell_of (get_or form k Nothing) (take (next - (stop + 1)) (drop (stop + 1) row))) where
    next_field : fields_behind row stop ≡ take (next - (stop + 1)) (drop (stop + 1) row) ∷ fields_behind row next
    next_field = field_more row lt ∙ field_next row (stop + 1) (omega arith) is

    -- A field without its form: the line has not the form.
    field_bad : not c.right ≡ true → has_form form fs ≡ false
    unfolding has_form
    field_bad e = a.formed ∙ rw next_field (go (dec_lt k (length form)))
      where
        go : Dec (k < length form) → has_form (drop k form) (take (next - (stop + 1)) (drop (stop + 1) row) ∷ fields_behind row next) ≡ false
        go (yes q) = rw (drop-cons form k Nothing q) (rw (failed (ap (λ (z : Cell). z.right) cell_is) e))
        go (no q) = let le : length form ≤ k = omega arith in rw (drop_of_length-le form le)

    module _ (e : not c.right ≡ false) where
      -- A field with its form is one that the form asks for.
      inside : k < length form
      unfolding cell_of
      inside = go (dec_lt k (length form))
        where
          go : Dec (k < length form) → k < length form
          go (yes q) = q
          go (no q) =
              let le : length form ≤ k = omega arith in
              absurd (clash (passed (ap (λ (z : Cell). z.right) cell_is) e) (ap (λ (asked : Asked). (cell_of asked (take (next - (stop + 1)) (drop (stop + 1) row))).right) (get_or-eq_default form Nothing le)))

      field_read : length form ≤ room → AtField room row form fs (set cells k c) (k + 1) next
      unfolding has_form cells_of
      field_read few =
          let h = inside in
          let long = a.long in
          let high = next_high row (stop + 1) tab (omega arith) in
          record {
            low = omega arith;
            few = omega arith;
            long = simp length-set long;
            formed = a.formed ∙ rw (next_field, drop-cons form k Nothing h, passed (ap (λ (z : Cell). z.right) cell_is) e, add-one k);
            read =
                rw (add-one k, take-suc-set cells k c (omega arith), append_snoc)
                (rw (next_field, drop-cons form k Nothing h, ← cell_is) at a.read);
          }

  -- Behind the last field.
  module _ (end : length row ≤ stop) where
    fields_wrong : (k ≡ length form → ⊥) → has_form form fs ≡ false
    unfolding has_form
    fields_wrong n = let few = a.few in a.formed ∙ rw (field_none row end, drop-cons form k Nothing (omega arith))

    fields_done : k ≡ length form → (has_form form fs ≡ true) × (take k cells ≡ cells_of form fs)
    unfolding has_form cells_of
    fields_done e =
        let le : length form ≤ k = omega arith in
        (a.formed ∙ rw (field_none row end, drop_of_length-le form le), sym (append-nil (take k cells)) ∙ rw (field_none row end, drop_of_length-le form le) at a.read)

-- The letter of the row is read, and so many of the fields that its form asks for.
pub record InFields (letter_in : List ℕ → ℕ) (form_of : ℕ → List Asked) (room : ℕ) (row : List ℕ) (first letter : ℕ) (cells : List Cell) (k stop : ℕ) : Type 0 where
  pub first_is : first ≡ next_of row 0 tab
  pub letter_is : letter ≡ letter_in (take (first - 0) (drop 0 row))
  pub fields : AtField room row (form_of letter) (fields_behind row first) cells k stop

-- what the row says: its letter, and the fields behind it
pub row_fields : (row : List ℕ) {first : ℕ} → first ≡ next_of row 0 tab → fields_of row ≡ take (first - 0) (drop 0 row) ∷ fields_behind row first
row_fields row is = field_next row 0 (omega arith) is

module _ {letter_in : List ℕ → ℕ} {form_of : ℕ → List Asked} {room : ℕ} where
  fields_begin : (row : List ℕ) {first letter : ℕ} (cells : List Cell) → first ≡ next_of row 0 tab → letter ≡ letter_in (take (first - 0) (drop 0 row)) → length cells ≡ room → InFields letter_in form_of room row first letter cells 0 first
  fields_begin row cells is l long =
      let high = next_high row 0 tab (omega arith) in
      record { first_is = is; letter_is = l; fields = record { low = omega arith; few = omega arith; long = long; formed = refl; read = refl } }

  module _ {row : List ℕ} {first letter : ℕ} {cells : List Cell} {k stop : ℕ} (a : InFields letter_in form_of room row first letter cells k stop) where
    module _ (lt : stop < length row) {next : ℕ} (is : next ≡ next_of row (stop + 1) tab) {asked : Asked} {c : Cell} (Asked-is : asked ≡ get_or (form_of letter) k Nothing) (cell_is : c ≡ cell_of asked (take (next - (stop + 1)) (drop (stop + 1) row))) where
      whole : c ≡ cell_of (get_or (form_of letter) k Nothing) (take (next - (stop + 1)) (drop (stop + 1) row))
      whole = cell_is ∙ ap (λ (z : Asked). cell_of z (take (next - (stop + 1)) (drop (stop + 1) row))) Asked-is

      -- A field without its form: the row has not the form.
      row_bad : not c.right ≡ true → has_form (form_of letter) (fields_behind row first) ≡ false
      row_bad e = field_bad a.fields lt is whole e

      -- One with its form has room, and the loop goes on behind it.
      module _ (few : length (form_of letter) ≤ room) (e : not c.right ≡ false) where
        cell_room : k < room
        cell_room = let h = inside a.fields lt is whole e in omega arith

        fields_on : InFields letter_in form_of room row first letter (set cells k c) (k + 1) next
        fields_on = record { first_is = a.first_is; letter_is = a.letter_is; fields = field_read a.fields lt is whole e few }

    -- Behind the last field the row has the form, and its cells are read, where they are as many as the form's.
    module _ (end : length row ≤ stop) where
      pub row_wrong : (k ≡ length (form_of letter) → ⊥) → has_form (form_of letter) (fields_behind row first) ≡ false
      row_wrong n = fields_wrong a.fields end n

      pub row_done : k ≡ length (form_of letter) → (has_form (form_of letter) (fields_behind row first) ≡ true) × (take k cells ≡ cells_of (form_of letter) (fields_behind row first))
      row_done e = fields_done a.fields end e

-- What is read of a field, and why nothing is.
module _ (asked : Asked) (t : List ℕ) (from : ℕ) {f : Field} (is : f ≡ field_at asked t from) where
  is_with : (b : Bool) → both (ltb (stop_of t from) (length t)) (cell_of asked (field_text t from)).right ≡ b → f ≡ pick b (record { cell = cell_of asked (field_text t from); stop = stop_of t from }) no_field
  unfolding field_at field_with
  is_with b e = is ∙ rw e

  pub read_right : not f.cell.right ≡ false → (stop_of t from < length t) × ((f.stop ≡ stop_of t from) × (f.cell ≡ cell_of asked (field_text t from)))
  unfolding cell_of
  read_right e =
      by_test (λ (b : Bool). both (ltb (stop_of t from) (length t)) (cell_of asked (field_text t from)).right ≡ b → (stop_of t from < length t) × ((f.stop ≡ stop_of t from) × (f.cell ≡ cell_of asked (field_text t from)))) _
      (λ q h. let g = is_with true h in (ltb-true _ _ (both_true (ltb (stop_of t from) (length t)) _ h).0, (ap (λ (z : Field). z.stop) g, ap (λ (z : Field). z.cell) g)))
      (λ q h. absurd (clash (passed (ap (λ (z : Field). z.cell.right) (is_with false h)) e) refl))
      refl

  read_wrong : not f.cell.right ≡ true → (length t ≤ stop_of t from) ⊎ ((cell_of asked (field_text t from)).right ≡ false)
  read_wrong e =
      by_test (λ (b : Bool). ltb (stop_of t from) (length t) ≡ b → (length t ≤ stop_of t from) ⊎ ((cell_of asked (field_text t from)).right ≡ false)) (ltb (stop_of t from) (length t))
      (λ q h. inr (false_unless _ (λ r. clash (ap (λ (z : Field). z.cell.right) (is_with true (both_hold h r)) ∙ r) (not-true _ e))))
      (λ q h. inl (ltb-false _ _ h))
      refl

-- In the text: the line begins at `at`, and the last field that is read ends at stop, where a tab or LF stands.
pub record InLine (letter_in : List ℕ → ℕ) (form_of : ℕ → List Asked) (room : ℕ) (t : List ℕ) (at first letter : ℕ) (cells : List Cell) (k stop : ℕ) : Type 0 where
  pub begins : at ≤ stop
  pub inside : stop < length t
  pub within_line : stop ≤ next_of t at lf
  pub ends : stops (get_or t stop 0) ≡ true
  pub fields : InFields letter_in form_of room (line_at t at) (first - at) letter cells k (stop - at)

module _ {letter_in : List ℕ → ℕ} {form_of : ℕ → List Asked} {room : ℕ} where
  pub line_begins : (t : List ℕ) (at : ℕ) {stop letter : ℕ} (cells : List Cell) → stop ≡ stop_of t at → stop < length t → letter ≡ letter_in (take (stop - at) (drop at t)) → length cells ≡ room → InLine letter_in form_of room t at stop letter cells 0 stop
  line_begins t at {stop} cells is lt l long =
      let low = stops_low t at is in
      let high = next_low t at lf in
      let zero_is : at - at ≡ 0 = omega arith in
      record {
        begins = low;
        inside = lt;
        within_line = rw is (stop_within t at (omega arith) high);
        ends = rw is (stop_byte t at (rw is at lt));
        fields = fields_begin (line_at t at) cells (rw (is, stop_in_line t at {from = at} (omega arith) high, zero_is)) (l ∙ ap letter_in (rw zero_is at (text_in_line t at (omega arith) high is))) long;
      }

  module _ {t : List ℕ} {at first letter : ℕ} {cells : List Cell} {k stop : ℕ} (a : InLine letter_in form_of room t at first letter cells k stop) where
    line_low : at ≤ length t
    line_low = let h = a.begins in let l = a.inside in omega arith

    -- A tab stands inside the line.
    module _ (is-tab : get_or t stop 0 ≡ tab) where
      tab_before : stop < next_of t at lf
      tab_before = go (dec_lt stop (next_of t at lf))
        where
          go : Dec (stop < next_of t at lf) → stop < next_of t at lf
          go (yes q) = q
          go (no q) =
              let h = a.within_line in
              let l = a.inside in
              let e : next_of t at lf ≡ stop = omega arith in
              let b = rw e at (next_byte t at lf (omega arith)) in
              absurd (omega arith)

      tab_inside : stop - at < length (line_at t at)
      tab_inside = let h = tab_before in let l = line_length t at line_low in let b = a.begins in omega arith

      module _ {asked : Asked} {f : Field} (Asked-is : asked ≡ get_or (form_of letter) k Nothing) (is : f ≡ field_at asked t (stop + 1)) where
        from_is : stop + 1 - at ≡ stop - at + 1
        from_is = let b = a.begins in omega arith

        low : at ≤ stop + 1
        low = let b = a.begins in omega arith

        high : stop + 1 ≤ next_of t at lf
        high = let h = tab_before in omega arith

        stop_is : stop_of t (stop + 1) - at ≡ next_of (line_at t at) (stop - at + 1) tab
        stop_is = rw from_is at (stop_in_line t at low high)

        text_is : field_text t (stop + 1) ≡ take (stop_of t (stop + 1) - at - (stop - at + 1)) (drop (stop - at + 1) (line_at t at))
        text_is = rw from_is at (text_in_line t at low high {s = stop_of t (stop + 1)} refl)

        -- Each field leaves less of the text, and each ends inside it.
        pub stop_less : not f.cell.right ≡ false → length t - f.stop < length t - stop
        stop_less e = let r = read_right asked t (stop + 1) is e in let s = r.1.0 in let h = r.0 in let l = stop_low t (stop + 1) in omega arith

        -- A field without its form: the line has not the form, or no LF.
        pub line_bad : not f.cell.right ≡ true → (length t ≤ next_of t at lf) ⊎ (has_form (form_of letter) (fields_behind (line_at t at) (first - at)) ≡ false)
        line_bad e =
            ⊎_elim (λ h. inl (let w = stop_within t at low high in omega arith))
            (λ r. inr (row_bad a.fields tab_inside stop_is {c = cell_of asked (field_text t (stop + 1))} Asked-is (ap (cell_of asked) text_is) (rw r)))
            (read_wrong asked t (stop + 1) is e)

        module _ (few : length (form_of letter) ≤ room) (e : not f.cell.right ≡ false) where
          cell_is : f.cell ≡ cell_of asked (take (stop_of t (stop + 1) - at - (stop - at + 1)) (drop (stop - at + 1) (line_at t at)))
          cell_is = (read_right asked t (stop + 1) is e).1.1 ∙ ap (cell_of asked) text_is

          pub line_room : k < room
          line_room = cell_room a.fields tab_inside stop_is Asked-is cell_is few e

          pub line_on : InLine letter_in form_of room t at first letter (set cells k f.cell) (k + 1) f.stop
          line_on =
              let r = read_right asked t (stop + 1) is e in
              let s = r.1.0 in
              let l = stop_low t (stop + 1) in
              let b = a.begins in
              record {
                begins = omega arith;
                inside = rw s r.0;
                within_line = rw s (stop_within t at low high);
                ends = rw s (stop_byte t (stop + 1) r.0);
                fields = rw s (fields_on a.fields tab_inside stop_is Asked-is cell_is few e);
              }

    -- Where no tab stands, an LF does, and the line ends.
    module _ (no_tab : get_or t stop 0 ≡ tab → ⊥) where
      pub line_end : stop ≡ next_of t at lf
      line_end = next_here t stop lf a.inside (stops_lf a.ends no_tab) ∙ next_from t at lf a.begins a.within_line

      pub line_done : length (line_at t at) ≤ stop - at
      line_done = let e = line_end in let l = line_length t at line_low in omega arith

-- A table in which the entries of a form and then an empty one stand from a place on has the entries of the form there.
module _ {A : Type 0} (none : A) where
  form_then : (form rest : List A) (k : ℕ) → k ≤ length form → get_or (form ++ (none ∷ rest)) k none ≡ get_or form k none
  form_then [] rest zero h = refl
  form_then [] rest (suc k) h = absurd (omega arith)
  form_then (x ∷ form) rest zero h = refl
  form_then (x ∷ form) rest (suc k) h = form_then form rest k (omega arith)

  pub in_table : (table form rest : List A) (place : ℕ) → drop place table ≡ form ++ (none ∷ rest) → (k : ℕ) → k ≤ length form → get_or table (place + k) none ≡ get_or form k none
  in_table table form rest place e k h = sym (get_or-drop place table k none) ∙ ap (λ (l : List A). get_or l k none) e ∙ form_then form rest k h
