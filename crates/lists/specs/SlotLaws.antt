-- Laws of slots: the loop that finds one, and what a slot says of the list.
use Rattle.std.specs.Prelude.{◌≡◌, false, ℕ, ◌+◌, ◌<◌, ◌≤◌, min, get_or, take, drop, set, Result, Ok, Err}
use Rattle.std.proofs.Math.Path.{refl}
use Rattle.std.proofs.Common.{ap, ◌∙◌, subst, arith, drop_of_length-le, drop-cons}
use Rattle.std.proofs.Math.Bool.{true}
use mathlib.Core.List.{List, [], ◌∷◌}
use Rattle.std.proofs.Math.Numerals.{add-one}
use Rattle.std.proofs.Math.ListN.{length, length-take}
use Rattle.std.proofs.Math.Seq.{get_or-take}
use Rattle.std.specs.declared.cmp.Ordering.{Ordering}
use Rattle.std.specs.declared.cmp.Ordering.TheVariants.{Less, Equal, Greater}
use Rattle.laws.specs.Bytes.{same_bytes}
use Rattle.laws.specs.ByteLaws.{same_self}
use Rattle.laws.specs.Search.{first_where}
use Rattle.laws.specs.Order.{by_order, bytes_order}
use Rattle.laws.specs.OrderLaws.{split_text}
use Rattle.lists.specs.Places.{insert_at, remove_at}
use Rattle.lists.specs.Sorted.{ascending, stands, look, placed, without}
use Rattle.lists.specs.SortedLaws.{before_differs, after_differs, ascending_rest, look_none, none_behind}
use Rattle.lists.specs.Slots.{next, slot_of}
use Rattle.lists.specs.WalkLaws.{live_length, in_live, in_rows, reads_row}

-- i places further
abbrev after : ℕ → Result ℕ ℕ → Result ℕ ℕ
after i (Ok j) = Ok (i + j)
after i (Err j) = Err (i + j)

after_zero : (x : Result ℕ ℕ) → x ≡ after 0 x
after_zero (Ok j) = ap Ok (omega arith)
after_zero (Err j) = ap Err (omega arith)

after_more : (i : ℕ) (x : Result ℕ ℕ) → after i (next x) ≡ after (i + 1) x
after_more i (Ok j) = ap Ok (omega arith)
after_more i (Err j) = ap Err (omega arith)

-- The loop: the slot among the first n rows, from the row i on.
module _ {A : Type 0} (rank : A → List ℕ) (k : List ℕ) (rows : List A) (n : ℕ) where
  unfoldable pub slot_from : ℕ → Result ℕ ℕ
  slot_from i = after i (slot_of rank k (drop i (take n rows)))

  pub slot_start : slot_of rank k (take n rows) ≡ slot_from 0
  unfolding slot_from
  slot_start = after_zero (slot_of rank k (take n rows))

  pub slot_end : (i : ℕ) → min n (length rows) ≤ i → slot_from i ≡ Err i
  unfolding slot_from slot_of
  slot_end i h =
      let short : length (take n rows) ≤ i = simp length-take (omega arith) in
      simp (drop_of_length-le (take n rows) short) (ap Err (omega arith))

  module _ (i : ℕ) (d : A) (o : Ordering) (lt : i < n) (le : i < length rows) (is : o ≡ bytes_order (rank (get_or rows i d)) k) where
    here : slot_from i ≡ after i (by_order o (next (slot_of rank k (drop (i + 1) (take n rows)))) (Ok 0) (Err 0))
    unfolding slot_from slot_of
    here = rw (drop-cons (take n rows) i d (simp length-take (omega arith)), get_or-take n rows i d lt, ← is, add-one i)

    pub slot_less : o ≡ Less → slot_from i ≡ slot_from (i + 1)
    unfolding slot_from
    slot_less e = here ∙ rw e (after_more i (slot_of rank k (drop (i + 1) (take n rows))))

    pub slot_same : o ≡ Equal → slot_from i ≡ Ok i
    slot_same e = here ∙ rw e (ap Ok (omega arith))

    pub slot_more : o ≡ Greater → slot_from i ≡ Err i
    slot_more e = here ∙ rw e (ap Err (omega arith))

-- The same where the loop walks the first n rows as a list of their own, and reads d at i.
module _ {A : Type 0} (rank : A → List ℕ) (k : List ℕ) (rows items : List A) (n i : ℕ) (d : A) (o : Ordering) (are : items ≡ take n rows) (lt : i < length items) (reads : d ≡ get_or items i d) (is : o ≡ bytes_order (rank d) k) where
  at_row : o ≡ bytes_order (rank (get_or rows i d)) k
  at_row = is ∙ ap (λ (x : A). bytes_order (rank x) k) (reads_row rows items n i are lt d reads)

  pub walk_less : o ≡ Less → slot_from rank k rows n i ≡ slot_from rank k rows n (i + 1)
  walk_less = slot_less rank k rows n i d o (in_live rows items n i are lt) (in_rows rows items n i are lt) at_row

  pub walk_same : o ≡ Equal → slot_from rank k rows n i ≡ Ok i
  walk_same = slot_same rank k rows n i d o (in_live rows items n i are lt) (in_rows rows items n i are lt) at_row

  pub walk_more : o ≡ Greater → slot_from rank k rows n i ≡ Err i
  walk_more = slot_more rank k rows n i d o (in_live rows items n i are lt) (in_rows rows items n i are lt) at_row

pub walk_end : {A : Type 0} (rank : A → List ℕ) (k : List ℕ) (rows items : List A) (n i : ℕ) → items ≡ take n rows → length items ≤ i → i ≤ length items → slot_from rank k rows n i ≡ Err (length items)
walk_end rank k rows items n i are le ge =
    let e = live_length rows items n are in
    slot_end rank k rows n i (omega arith) ∙ ap Err (omega arith)

-- What a slot says of a row x of the rank that was sought, with `none` for a row that does not stand.
module _ {A : Type 0} (rank : A → List ℕ) (none x : A) where
  -- It stands at p: it is read, set and taken out there.
  pub record FoundAt (l : List A) (p : ℕ) : Type 0 where
    pub inside : p < length l
    pub reads : (d : A) → look rank none (rank x) l ≡ get_or l p d
    pub sets : placed rank x l ≡ set l p x
    pub removes : without rank (rank x) l ≡ remove_at p l
    pub standing : stands rank (rank x) l ≡ true

  -- It does not stand, and is put in before p.
  pub record AbsentAt (l : List A) (p : ℕ) : Type 0 where
    pub inside : p ≤ length l
    pub reads : look rank none (rank x) l ≡ none
    pub inserts : placed rank x l ≡ insert_at p x l
    pub absent : stands rank (rank x) l ≡ false

  abbrev Says : List A → Result ℕ ℕ → Type 0
  Says l (Ok p) = FoundAt l p
  Says l (Err p) = AbsentAt l p

  says_next : (y : A) (l : List A) (s : Result ℕ ℕ) → bytes_order (rank y) (rank x) ≡ Less → Says l s → Says (y ∷ l) (next s)
  unfolding look first_where placed without stands insert_at remove_at
  says_next y l (Ok p) lt h =
      let d = before_differs (rank y) (rank x) lt in
      record {
        inside = let i = h.inside in omega arith;
        reads = λ z. rw d (h.reads z);
        sets = rw (lt, h.sets);
        removes = rw d (ap (λ (t : List A). y ∷ t) h.removes);
        standing = rw d h.standing;
      }
  says_next y l (Err p) lt h =
      let d = before_differs (rank y) (rank x) lt in
      record {
        inside = let i = h.inside in omega arith;
        reads = rw d h.reads;
        inserts = rw lt (ap (λ (t : List A). y ∷ t) h.inserts);
        absent = rw d h.absent;
      }

  says : (l : List A) → ascending rank l ≡ true → Says l (slot_of rank (rank x) l)
  unfolding slot_of look first_where placed without stands insert_at remove_at ascending
  says [] a = record { inside = omega arith; reads = refl; inserts = refl; absent = refl }
  says (y ∷ l) a =
      split_text (λ (o : Ordering). bytes_order (rank y) (rank x) ≡ o → Says (y ∷ l) (by_order o (next (slot_of rank (rank x) l)) (Ok 0) (Err 0))) (rank y) (rank x)
      (λ lt e. says_next y l (slot_of rank (rank x) l) lt (says l (ascending_rest rank (rank y) l a)))
      (λ is e. let d : same_bytes (rank y) (rank x) ≡ true = rw is (same_self (rank x)) in
      record { inside = omega arith; reads = λ z. rw d; sets = rw e; removes = rw d; standing = rw d })
      (λ gt e.
      let d = after_differs (rank y) (rank x) gt in
      let n = none_behind rank (rank x) (rank y) l gt a in
      record { inside = omega arith; reads = rw (d, look_none rank none (rank x) l n); inserts = rw e; absent = rw (d, n) })
      refl

  pub found_at : (l : List A) (p : ℕ) → ascending rank l ≡ true → slot_of rank (rank x) l ≡ Ok p → FoundAt l p
  found_at l p a e = subst (Says l) e (says l a)

  pub absent_at : (l : List A) (p : ℕ) → ascending rank l ≡ true → slot_of rank (rank x) l ≡ Err p → AbsentAt l p
  absent_at l p a e = subst (Says l) e (says l a)
