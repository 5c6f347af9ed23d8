-- Laws of a row kept in an array of 128 rows, over any type of row: set where it stands, put in where it is new, taken out where
-- nothing is left of it.
use Rattle.std.specs.Prelude.{◌≡◌, Bool, true, false, ℕ, ◌+◌, ◌-◌, ◌<◌, ◌≤◌, suc, zero, ltb, Result, Ok, Err}
use Rattle.std.proofs.Math.Path.{ap, refl}
use Rattle.std.proofs.Common.{sym, ◌∙◌, arith, length-set}
use mathlib.Core.List.{List, [], ◌∷◌, ◌++◌}
use Rattle.std.proofs.Math.ListN.{length, take, set}
use Rattle.std.proofs.Math.Seq.{take_all}
use borrow.Author.Tests.{ltb-true}
use Rattle.std.specs.Result.{is_ok}
use Rattle.std.proofs.lemmas.Bool.{false≢true}
use Rattle.lists.specs.Places.{insert_at, remove_at, full}
use Rattle.lists.specs.PlaceLaws.{length_insert, length_remove, length_full, insert_full, remove_full, set_full}
use Rattle.lists.specs.Sorted.{kept}
use Rattle.lists.specs.SortedLaws.{without_none}
use Rattle.lists.specs.Slots.{slot_of}
use Rattle.lists.specs.SlotLaws.{FoundAt, AbsentAt, found_at, absent_at}
use Rattle.lists.specs.Kept.{Keeping, KeptIs, kept_rows, kept_count}

module _ {A : Type 0} {empty : A} {rank : A → List ℕ} (gone : A → Bool) {live : ℕ} {rows : List A} {x : A} (k : Keeping empty rank live rows x) (p : ℕ) where
  found : slot_of rank (rank x) (take live rows) ≡ Ok p → FoundAt rank empty x (take live rows) p
  found e = found_at rank empty x (take live rows) p k.in_order_lem e

  absent : slot_of rank (rank x) (take live rows) ≡ Err p → AbsentAt rank empty x (take live rows) p
  absent e = absent_at rank empty x (take live rows) p k.in_order_lem e

  pub kept_set : slot_of rank (rank x) (take live rows) ≡ Ok p → gone x ≡ false → KeptIs empty rank gone live rows x (set rows p x) live
  unfolding kept
  kept_set e g =
      let f = found e in
      record {
        rows_are = ap (λ (l : List A). set l p x) k.filled ∙ set_full 128 p x empty (take live rows) f.inside ∙ rw (g, f.sets);
        count_is = rw (g, f.sets, length-set) (sym k.counted);
      }

  pub kept_removed : slot_of rank (rank x) (take live rows) ≡ Ok p → gone x ≡ true → KeptIs empty rank gone live rows x (take 128 (remove_at p (rows ++ empty ∷ []))) (live - 1)
  unfolding kept
  kept_removed e g =
      let f = found e in
      let few = k.few in
      let counted = k.counted in
      let inside = f.inside in
      let short : length (remove_at p (take live rows)) ≤ 128 = rw (length_remove p (take live rows) inside) (omega arith) in
      let long : length (full 128 empty (remove_at p (take live rows))) ≤ 128 = rw (length_full 128 empty (remove_at p (take live rows)) short) (omega arith) in
      record {
        rows_are =
            ap (λ (l : List A). take 128 (remove_at p (l ++ empty ∷ []))) k.filled
            ∙ ap (take 128) (remove_full 128 p empty (take live rows) inside (omega arith))
            ∙ take_all 128 (full 128 empty (remove_at p (take live rows))) long
            ∙ rw (g, f.removes);
        count_is = rw (g, f.removes, length_remove p (take live rows) inside) (omega arith);
      }

  pub kept_inserted : slot_of rank (rank x) (take live rows) ≡ Err p → gone x ≡ false → KeptIs empty rank gone live rows x (take 128 (insert_at p x rows)) (live + 1)
  unfolding kept
  kept_inserted e g =
      let f = absent e in
      let counted = k.counted in
      let lt : live < 128 = ltb-true live 128 (rw f.absent at k.room) in
      record {
        rows_are = ap (λ (l : List A). take 128 (insert_at p x l)) k.filled ∙ insert_full 128 p x empty (take live rows) f.inside (omega arith) ∙ rw (g, f.inserts);
        count_is = rw (g, f.inserts, length_insert p x (take live rows) f.inside) (omega arith);
      }

  -- a row that stands is one of at least one
  pub some_live : slot_of rank (rank x) (take live rows) ≡ Ok p → 1 ≤ live
  some_live e = let inside = (found e).inside in let counted = k.counted in omega arith

  pub has_room : slot_of rank (rank x) (take live rows) ≡ Err p → ltb live 128 ≡ true
  has_room e = rw (absent e).absent at k.room

  pub kept_nothing : slot_of rank (rank x) (take live rows) ≡ Err p → gone x ≡ true → KeptIs empty rank gone live rows x rows live
  unfolding kept
  kept_nothing e g =
      let f = absent e in
      record { rows_are = k.filled ∙ rw (g, without_none rank (rank x) (take live rows) f.absent); count_is = rw (g, without_none rank (rank x) (take live rows) f.absent) (sym k.counted) }

-- So what is done keeps the row.
module _ {A : Type 0} {empty : A} {rank : A → List ℕ} (gone : A → Bool) {live : ℕ} {rows : List A} {x : A} (k : Keeping empty rank live rows x) where
  room_is : length rows ≡ 128
  room_is = let few = k.few in let counted = k.counted in ap length k.filled ∙ length_full 128 empty (take live rows) (omega arith)

  kept_by : (s : Result ℕ ℕ) (g : Bool) → slot_of rank (rank x) (take live rows) ≡ s → gone x ≡ g → KeptIs empty rank gone live rows x (kept_rows gone live rows x empty s) (kept_count gone live rows x s)
  unfolding kept_rows kept_count
  kept_by (Ok p) true e g = rw (g, room_is) (kept_removed gone k p e g)
  kept_by (Ok p) false e g = rw g (kept_set gone k p e g)
  kept_by (Err p) true e g = rw g (kept_nothing gone k p e g)
  kept_by (Err p) false e g = rw (g, room_is, has_room gone k p e) (kept_inserted gone k p e g)

  pub kept_in : KeptIs empty rank gone live rows x (kept_rows gone live rows x empty (slot_of rank (rank x) (take live rows))) (kept_count gone live rows x (slot_of rank (rank x) (take live rows)))
  kept_in = kept_by (slot_of rank (rank x) (take live rows)) (gone x) refl refl

-- A row is found only among some.
pub found_some : {A : Type 0} (rank : A → List ℕ) (q : List ℕ) (rows : List A) (live p : ℕ) → slot_of rank q (take live rows) ≡ Ok p → 1 ≤ live
unfolding slot_of
found_some rank q rows zero p e = absurd (false≢true (ap is_ok e))
found_some rank q rows (suc live) p e = omega arith
