-- Laws of rows and the next one behind them.
use Rattle.std.specs.Prelude.{refl, Bool, List, [], ◌∷◌, ◌++◌, ℕ}
use Rattle.std.proofs.Common.{arith}
use Rattle.std.proofs.Math.ListN.{length-append}
use Rattle.std.proofs.Math.Seq.{append_snoc}
use Rattle.laws.specs.TruthLaws.{both_true, both_hold}
use Rattle.laws.specs.Search.{every_line}
use Rattle.laws.specs.SearchLaws.{every_joined, every_behind}
use Rattle.lists.specs.SortedLaws.{front_ascends}
use Rattle.reading.specs.Next.{Rows, NextRow}

-- Rows with one more that may stand behind them are rows of a sound book; and each row of such may stand behind those before it.
module _ {A : Type 0} (good : A → Bool) (rank : A → List ℕ) (l : List A) (x : A) where
  pub more_rows : Rows good rank l → NextRow good rank l x → Rows good rank (l ++ (x ∷ []))
  unfolding every_line
  more_rows s n =
      let room = n.room in
      record {
        few = omega (arith, length-append l (x ∷ []));
        all_good = every_joined good l (x ∷ []) s.all_good (both_hold n.is_good refl);
        in_order_lem = n.in_order_lem;
      }

  pub next_row : (r : List A) → Rows good rank (l ++ (x ∷ r)) → NextRow good rank l x
  unfolding every_line
  next_row r s =
      let few = s.few in
      record {
        is_good = (both_true (good x) _ (every_behind good l (x ∷ r) s.all_good)).0;
        in_order_lem = front_ascends rank (l ++ (x ∷ [])) r (rw (append_snoc l x r) s.in_order_lem);
        room = omega (arith, length-append l (x ∷ r));
      }
