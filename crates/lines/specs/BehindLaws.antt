-- Laws of fields read one behind the other: the line has the form if they all do and an LF stands behind them, and only then.
use Rattle.std.specs.Prelude.{◌≡◌, ◌⊎◌, Bool, true, ℕ, ◌+◌, ◌-◌, ◌<◌, ◌≤◌, eqb, ltb, get_or, take, drop}
use Rattle.std.proofs.Math.Path.{refl, ap, sym}
use Rattle.std.proofs.Common.{◌∙◌, add-one, eqb-true, eq-eqb, ne_eqb, drop_of_length-le, drop-cons}
use Rattle.std.proofs.Math.Logic.{inr}
use Rattle.std.proofs.Math.Bool.{false, not}
use mathlib.Core.List.{List, [], ◌∷◌, ◌++◌, append-nil}
use native.Mathlib.Omega.{arith}
use Rattle.std.proofs.Math.Decide.{dec_lt}
use Rattle.std.proofs.lemmas.Bool.{eqb-false}
use Rattle.std.proofs.Math.ListN.{length, length-drop, get_or-eq_default}
use Rattle.std.proofs.Math.Seq.{append_snoc, take-suc-set}
use Rattle.laws.specs.Truth.{pick, both, either}
use Rattle.laws.specs.TruthLaws.{clash, both_true, both_end, both_first, by_test}
use Rattle.lines.specs.declared.Asked.{Asked}
use Rattle.lines.specs.declared.Asked.TheVariants.{Nothing, Number, Date, Code, Mark}
use Rattle.lines.specs.declared.Cell.{Cell}
use Rattle.lines.specs.declared.Field.{Field}
use Rattle.lines.specs.Pieces.{tab, lf, next_of, stops, stop_of}
use Rattle.lines.specs.Fields.{cell_of, has_form, cells_of, field_text, no_field, field_at, field_with, series_of}
use Rattle.lines.specs.Behind.{field_behind, Chain, chain_behind, series_form, written_in}
use Rattle.lines.specs.StopLaws.{stop_low, stop_byte, line_at}
use Rattle.lines.specs.CutLaws.{fields_behind}
use Rattle.lines.specs.LoopLaws.{read_right, InLine, line_bad, line_on, line_room, line_end, line_done, row_wrong, row_done}

-- two numbers are the same, or not
by_equal : (x y : ℕ) {P : Type 0} → (x ≡ y → P) → ((x ≡ y → ⊥) → P) → P
by_equal x y {P} same other = by_test (λ (b : Bool). eqb x y ≡ b → P) (eqb x y) (λ q e. same (eqb-true x y e)) (λ q e. other (eqb-false x y e)) refl

-- the field behind a tab, and where none stands
module _ (asked : Asked) (t : List ℕ) (at : ℕ) where
  pub behind_tab : {b : ℕ} → b ≡ get_or t at 0 → b ≡ tab → field_at asked t (at + 1) ≡ field_behind asked t at
  unfolding field_behind
  behind_tab {b} is e = rw (eq-eqb (get_or t at 0) tab (sym is ∙ e))

  pub behind_none : {b : ℕ} → b ≡ get_or t at 0 → (b ≡ tab → ⊥) → no_field ≡ field_behind asked t at
  unfolding field_behind
  behind_none {b} is n = rw (ne_eqb (get_or t at 0) tab (λ z. n (is ∙ z)))

  -- Without a tab no field has its form; one that has it ends at a tab or LF behind the tab.
  pub behind_off : (get_or t at 0 ≡ tab → ⊥) → (field_behind asked t at).cell.right ≡ false
  unfolding cell_of
  behind_off n = sym (ap (λ (f : Field). f.cell.right) (behind_none refl n))

  pub behind_on : (field_behind asked t at).cell.right ≡ true → (at < (field_behind asked t at).stop) × (((field_behind asked t at).stop < length t) × (stops (get_or t (field_behind asked t at).stop 0) ≡ true))
  behind_on r =
      by_equal (get_or t at 0) tab
      (λ q.
      let h = read_right asked t (at + 1) (sym (behind_tab refl q)) (rw r) in
      let low = stop_low t (at + 1) in
      let s = h.1.0 in
      (omega arith, (omega (arith, h.0), rw s (stop_byte t (at + 1) h.0))))
      (λ q. absurd (clash r (behind_off q)))

-- a byte that ends a field and is no LF is a tab
stops_tab : {b : ℕ} → stops b ≡ true → (b ≡ lf → ⊥) → b ≡ tab
stops_tab {b} e h =
    by_test (λ (z : Bool). eqb b tab ≡ z → either z (eqb b lf) ≡ true → b ≡ tab) (eqb b tab)
    (λ q is r. eqb-true b tab is)
    (λ q is r. absurd (h (eqb-true b lf r)))
    refl e

-- no field of which nothing is asked has its form
nothing_wrong : (t : List ℕ) (from : ℕ) → not (field_at Nothing t from).cell.right ≡ true
unfolding field_at field_with cell_of
nothing_wrong t from = by_test (λ (b : Bool). not (pick (both b false) (record { cell = cell_of Nothing (field_text t from); stop = stop_of t from }) no_field).cell.right ≡ true) (ltb (stop_of t from) (length t)) (λ q. refl) (λ q. refl)

-- a form that has so many fields left has the first of them next
module _ (form : List Asked) (k : ℕ) {x : Asked} {xs : List Asked} (e : drop k form ≡ x ∷ xs) where
  some_left : k < length form
  some_left = go (dec_lt k (length form))
    where
      go : Dec (k < length form) → k < length form
      go (yes q) = q
      go (no q) =
          let le : length form ≤ k = omega arith in
          let n = ap length (sym e ∙ drop_of_length-le form le) in
          absurd (omega arith)

  next_left : (x ≡ get_or form k Nothing) × (drop (k + 1) form ≡ xs)
  next_left =
      let c = sym e ∙ drop-cons form k Nothing some_left in
      (ap (λ (l : List Asked). get_or l 0 Nothing) c, rw (add-one k) (sym (ap (drop 1) c)))

-- All fields of the form are read, and these are their cells.
pub record Done (letter_in : List ℕ → ℕ) (form_of : ℕ → List Asked) (room : ℕ) (t : List ℕ) (at first letter : ℕ) (start : List Cell) (r : Chain) : Type 0 where
  pub cells : List Cell
  pub k : ℕ
  pub all : k ≡ length (form_of letter)
  pub line : InLine letter_in form_of room t at first letter cells k r.stop
  pub are : take k cells ≡ start ++ r.cells

-- a line without its LF, or without the form
abbrev pub Unformed : List ℕ → ℕ → List Asked → ℕ → Type 0
Unformed t at form first = (length t ≤ next_of t at lf) ⊎ (has_form form (fields_behind (line_at t at) (first - at)) ≡ false)

module _ {letter_in : List ℕ → ℕ} {form_of : ℕ → List Asked} {room : ℕ} {t : List ℕ} {at first letter : ℕ} (few : length (form_of letter) ≤ room) where
  -- The fields that are left: each has its form, or the line has not.
  pub chain_done : (ks : List Asked) {cells : List Cell} {k stop : ℕ} → InLine letter_in form_of room t at first letter cells k stop → drop k (form_of letter) ≡ ks → (chain_behind ks t stop).right ≡ true → Done letter_in form_of room t at first letter (take k cells) (chain_behind ks t stop)
  unfolding chain_behind cell_of
  chain_done [] {cells} {k} a e r =
      let n = ap length e in
      let d = length-drop k (form_of letter) in
      let f = a.fields.fields.few in
      record { cells = cells; k = k; all = omega arith; line = a; are = sym (append-nil (take k cells)) }
  chain_done (x ∷ xs) {cells} {k} {stop} a e r =
      let rights = both_true (field_behind x t stop).cell.right _ r in
      let c : not (field_behind x t stop).cell.right ≡ false = rw rights.0 in
      let n = next_left (form_of letter) k e in
      by_equal (get_or t stop 0) tab
      (λ q.
      let is = sym (behind_tab x t stop refl q) in
      let room_left = line_room a q n.0 is few c in
      let long = a.fields.fields.long in
      let rest = chain_done xs (line_on a q n.0 is few c) n.1 rights.1 in
      record {
        cells = rest.cells;
        k = rest.k;
        all = rest.all;
        line = rest.line;
        are = rest.are ∙ rw (add-one k, take-suc-set cells k (field_behind x t stop).cell (omega arith), append_snoc);
      })
      (λ q. absurd (clash rights.0 (behind_off x t stop q)))

  pub chain_wrong : (ks : List Asked) {cells : List Cell} {k stop : ℕ} → InLine letter_in form_of room t at first letter cells k stop → drop k (form_of letter) ≡ ks → (chain_behind ks t stop).right ≡ false → Unformed t at (form_of letter) first
  unfolding chain_behind
  chain_wrong [] a e r = absurd (clash refl r)
  chain_wrong (x ∷ xs) {cells} {k} {stop} a e r =
      let n = next_left (form_of letter) k e in
      by_equal (get_or t stop 0) tab
      (λ q.
      let is = sym (behind_tab x t stop refl q) in
      by_test (λ (b : Bool). (field_behind x t stop).cell.right ≡ b → both b (chain_behind xs t (field_behind x t stop).stop).right ≡ false → Unformed t at (form_of letter) first) (field_behind x t stop).cell.right
      (λ z c w. chain_wrong xs (line_on a q n.0 is few (rw c)) n.1 w)
      (λ z c w. line_bad a q n.0 is (rw c))
      refl r)
      (λ q. let s = some_left (form_of letter) k e in inr (row_wrong a.fields (line_done a q) (λ z. omega arith)))

  -- Behind the last field an LF stands, or the line has more than the form asks for.
  module _ {start : List Cell} {r : Chain} (d : Done letter_in form_of room t at first letter start r) where
    pub chain_ends : get_or t r.stop 0 ≡ lf → (r.stop ≡ next_of t at lf) × ((has_form (form_of letter) (fields_behind (line_at t at) (first - at)) ≡ true) × (cells_of (form_of letter) (fields_behind (line_at t at) (first - at)) ≡ start ++ r.cells))
    chain_ends e =
        let no_tab : (get_or t r.stop 0 ≡ tab → ⊥) = λ z. omega arith in
        let h = row_done d.line.fields (line_done d.line no_tab) d.all in
        (line_end d.line no_tab, (h.0, sym h.1 ∙ d.are))

    pub chain_over : (get_or t r.stop 0 ≡ lf → ⊥) → Unformed t at (form_of letter) first
    unfolding field_at field_with cell_of
    chain_over n =
        let le : length (form_of letter) ≤ d.k = let all = d.all in omega arith in
        line_bad d.line (stops_tab d.line.ends n) {asked = Nothing} {f = field_at Nothing t (r.stop + 1)} (sym (get_or-eq_default (form_of letter) Nothing le)) refl (nothing_wrong t (r.stop + 1))

-- What is read field by field is the chain of the fields.
pub written_is : (t : List ℕ) (at : ℕ) {code date mark strike : Field} → code ≡ field_behind Code t at → date ≡ field_behind Date t code.stop → mark ≡ field_behind Mark t date.stop → strike ≡ field_behind Number t mark.stop → record { right = both code.cell.right (both date.cell.right (both mark.cell.right strike.cell.right)); series = series_of code.cell date.cell mark.cell strike.cell; stop = strike.stop } ≡ written_in (chain_behind series_form t at)
unfolding chain_behind series_form written_in
written_is t at c d m k = rw (k, m, d, c, both_end)

-- Forms one behind the other.
abbrev pub joined : Chain → Chain → Chain
joined c d = record { right = both c.right d.right; cells = c.cells ++ d.cells; stop = d.stop }

pub chain_more : (ks ls : List Asked) (t : List ℕ) (at : ℕ) → chain_behind (ks ++ ls) t at ≡ joined (chain_behind ks t at) (chain_behind ls t (chain_behind ks t at).stop)
unfolding chain_behind
chain_more [] ls t at = refl
chain_more (k ∷ ks) ls t at = rw (chain_more ks ls t (field_behind k t at).stop, both_first)
