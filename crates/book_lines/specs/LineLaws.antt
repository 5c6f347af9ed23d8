-- Laws of the lines of a book as they are read: the parts of a form are its fields, and its items say what its cells
-- do.
use Rattle.std.specs.Prelude.{◌≡◌, Bool, true, List, [], ◌∷◌, ◌++◌, ℕ}
use Rattle.std.proofs.Math.Path.{refl, ap}
use Rattle.std.proofs.Common.{sym, ◌∙◌}
use Rattle.laws.specs.Truth.{both}
use Rattle.lines.specs.declared.Asked.{Asked}
use Rattle.lines.specs.declared.Asked.TheVariants as kind
use Rattle.lines.specs.declared.Cell.{Cell}
use Rattle.lines.specs.declared.Field.{Field}
use Rattle.lines.specs.declared.Written.{Written}
use Rattle.lines.specs.Fields.{series_of}
use Rattle.lines.specs.Behind.{field_behind, Chain, chain_behind, series_form, written_in}
use Rattle.lines.specs.BehindLaws.{joined, chain_more}
use Rattle.rows.specs.declared.Holding.{Holding}
use Rattle.rows.specs.declared.Pair.{Pair}
use Rattle.book_lines.specs.declared.Item.{Item}
use Rattle.book_lines.specs.declared.Part.TheVariants.{Number, Account, Mark, Date, Series}
use Rattle.book_lines.specs.Lines.{head_from, head_form, holding_form, pair_form, holding_from, pair_from}
use Rattle.book_lines.specs.Facts.{Items, item_behind, items_behind, head_of, holding_of, pair_of}

-- What is read of a line: whether its fields have their form, what they say, and the place behind the last.
pub record Read (A : Type 0) : Type 0 where
  pub right : Bool
  pub says : A
  pub stop : ℕ

abbrev pub by_cells : {A : Type 0} → (List Cell → A) → Chain → Read A
by_cells f c = record { right = c.right; says = f c.cells; stop = c.stop }

abbrev pub by_items : {A : Type 0} → (List Item → A) → Items → Read A
by_items f c = record { right = c.right; says = f c.items; stop = c.stop }

-- numbers at the end of a line
abbrev two : List Asked
two = kind.Number ∷ kind.Number ∷ []

abbrev three : List Asked
three = kind.Number ∷ kind.Number ∷ kind.Number ∷ []

-- a field and then a chain
abbrev first : Field → Chain → Chain
first k c = record { right = both k.cell.right c.right; cells = k.cell ∷ c.cells; stop = c.stop }

module _ (t : List ℕ) where
  -- the parts of a line behind its letter, by the series in it
  abbrev holding_by : Written → Read Holding
  holding_by w =
      let l = field_behind kind.Number t w.stop in
      let m = field_behind kind.Number t l.stop in
      record { right = both w.right (both l.cell.right (both m.cell.right true)); says = record { series = w.series; long = l.cell.number; short = m.cell.number }; stop = m.stop }

  abbrev pair_by : Field → Written → Written → Read Pair
  pair_by k v w =
      let x = field_behind kind.Number t w.stop in
      let y = field_behind kind.Number t x.stop in
      let z = field_behind kind.Number t y.stop in
      record {
        right = both k.cell.right (both v.right (both w.right (both x.cell.right (both y.cell.right (both z.cell.right true)))));
        says = record { kind = k.cell.number; first = v.series; second = w.series; r1 = x.cell.number; r2 = y.cell.number; units = z.cell.number };
        stop = z.stop;
      }

  -- the cells of a series, and what they write
  abbrev four : Bool → Cell → Cell → Cell → Cell → ℕ → Chain
  four r c d m k stop = record { right = r; cells = c ∷ d ∷ m ∷ k ∷ []; stop = stop }

  abbrev written : Bool → Cell → Cell → Cell → Cell → ℕ → Written
  written r c d m k stop = record { right = r; series = series_of c d m k; stop = stop }

  holding_four : (r : Bool) (c d m k : Cell) (stop : ℕ) → holding_by (written r c d m k stop) ≡ by_cells holding_from (joined (four r c d m k stop) (chain_behind two t stop))
  unfolding holding_from chain_behind
  holding_four r c d m k stop = refl

  pair_four : (f : Field) (r : Bool) (c d m k : Cell) (stop : ℕ) (r' : Bool) (c' d' m' k' : Cell) (stop' : ℕ) → pair_by f (written r c d m k stop) (written r' c' d' m' k' stop') ≡ by_cells pair_from (first f (joined (four r c d m k stop) (joined (four r' c' d' m' k' stop') (chain_behind three t stop'))))
  unfolding pair_from chain_behind
  pair_four f r c d m k stop r' c' d' m' k' stop' = refl

  module _ (at : ℕ) where
    pub head_read : by_items head_of (items_behind (Account ∷ Mark ∷ Date ∷ []) t at) ≡ by_cells head_from (chain_behind head_form t at)
    unfolding items_behind item_behind chain_behind head_form head_from
    head_read = refl

    pub holding_read : by_items holding_of (items_behind (Series ∷ Number ∷ Number ∷ []) t at) ≡ by_cells holding_from (chain_behind holding_form t at)
    unfolding items_behind item_behind holding_of holding_form written_in series_form chain_behind
    holding_read =
        holding_four (chain_behind series_form t at).right _ _ _ _ (chain_behind series_form t at).stop
        ∙ ap (by_cells holding_from) (sym (chain_more series_form two t at))

    pub pair_read : by_items pair_of (items_behind (Number ∷ Series ∷ Series ∷ Number ∷ Number ∷ Number ∷ []) t at) ≡ by_cells pair_from (chain_behind pair_form t at)
    unfolding items_behind item_behind pair_of pair_form written_in series_form chain_behind
    pair_read =
        let k = field_behind kind.Number t at in
        let one = chain_behind series_form t k.stop in
        let other = chain_behind series_form t one.stop in
        pair_four k one.right _ _ _ _ one.stop other.right _ _ _ _ other.stop
        ∙ ap (λ (d : Chain). by_cells pair_from (first k (joined one d))) (sym (chain_more series_form three t one.stop))
        ∙ ap (λ (d : Chain). by_cells pair_from (first k d)) (sym (chain_more series_form (series_form ++ three) t k.stop))
